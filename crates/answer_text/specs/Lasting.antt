-- How long an answer may be kept, and by whom (RFC 9111, section 5.2.2).
use Rattle.std.specs.Prelude.{ℕ, ◌/◌, min, Bool, false, if◌then◌else◌, List, [], ◌∷◌, ◌++◌, Option, Some, None, is_some, fold, map, codes}
use Rattle.std.specs.List.{list_all, list_any}
use Rattle.std.specs.Fmt.{decimal}
use Rattle.answer_text.specs.declared.lasting.Lasts.{Lasts}

abbrev pub left_of : Option Lasts → ℕ
left_of None = 0
left_of (Some lasts) = lasts.left_ms

abbrev pub is_private : Option Lasts → Bool
is_private None = false
is_private (Some lasts) = lasts.private

abbrev pub for_whom : Bool → List ℕ
for_whom private = if private then codes ", private" else codes ", public"

abbrev pub max_age : ℕ → Bool → List ℕ
max_age seconds private = codes "max-age=" ++ (decimal seconds ++ for_whom private)

-- the least of what is left of each piece, in whole seconds, and private where one of them is; not to be kept where one of
-- them is not, or where there is none
abbrev pub cache_control_of : List (Option Lasts) → List ℕ
cache_control_of [] = codes "no-store"
cache_control_of (p ∷ ps) =
    if list_all is_some (p ∷ ps) then max_age (fold min (left_of p) (map left_of ps) / 1000) (list_any is_private (p ∷ ps))
    else codes "no-store"
