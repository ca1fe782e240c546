-- A list is its first part and the list after the comma.
use Rattle.std.proofs.Common.{◌≡◌, ◌∙◌, sym, ap, ℕ, ◌+◌, ◌-◌, List, [], ◌∷◌, ◌++◌, length, take, drop, ◌<◌, ◌≤◌, ◌==◌, arith, get_or, Bool, true, false, not, ◌&&◌, ◌||◌, refl, take-append-drop, slice_range}
use Rattle.std.proofs.lemmas.List.{drop_more, take_all}
use Rattle.std.proofs.lemmas.Grind.{common_steps}
use Rattle.std.proofs.lemmas.Bool.{cases_lt}
use Rattle.std.proofs.Common.{◌⊎◌, inl, inr}
use Rattle.std.specs.Prelude.{if◌then◌else◌}
use Rattle.std.specs.List.{list_all, list_any}
use Rattle.http_wire.specs.Heads.{split_commas, with_first_byte, is_close, lists_close}

abbrev no_comma : ℕ → Bool
no_comma b = not (b == 44)

other : (x : Bool) → not x ≡ true → x ≡ false
other true h = sym h
other false h = refl

pub first_true : (x y : Bool) → (x && y) ≡ true → x ≡ true
first_true true y h = refl
first_true false y h = h

pub second_true : (x y : Bool) → (x && y) ≡ true → y ≡ true
second_true true y h = h
second_true false y h = absurd_false y h
  where
    absurd_false : (y : Bool) → false ≡ true → y ≡ true
    absurd_false true h = refl
    absurd_false false h = h

step : (b : ℕ) (bytes : List ℕ) → no_comma b ≡ true → split_commas (b ∷ bytes) ≡ with_first_byte b (split_commas bytes)
step b bytes none = ap (λ (x : Bool). if x then [] ∷ split_commas bytes else with_first_byte b (split_commas bytes)) (other (b == 44) none)

split_at : (part rest : List ℕ) → list_all no_comma part ≡ true → split_commas (part ++ 44 ∷ rest) ≡ part ∷ split_commas rest
split_at [] rest none = refl
split_at (b ∷ part) rest none =
    step b (part ++ 44 ∷ rest) (first_true (no_comma b) (list_all no_comma part) none) ∙ ap (with_first_byte b) (split_at part rest (second_true (no_comma b) (list_all no_comma part) none))

split_alone : (part : List ℕ) → list_all no_comma part ≡ true → split_commas part ≡ part ∷ []
split_alone [] none = refl
split_alone (b ∷ part) none =
    step b part (first_true (no_comma b) (list_all no_comma part) none) ∙ ap (with_first_byte b) (split_alone part (second_true (no_comma b) (list_all no_comma part) none))

pub lists_first : (bytes : List ℕ) (at : ℕ) → at < length bytes → get_or bytes at 0 ≡ 44 → list_all no_comma (take at bytes) ≡ true
    → lists_close bytes ≡ (is_close (take at bytes) || lists_close (drop (at + 1) bytes))
lists_first bytes at lt comma none =
    let whole : bytes ≡ take at bytes ++ 44 ∷ drop (at + 1) bytes =
    sym (take-append-drop at bytes) ∙ ap (λ l. take at bytes ++ l) (drop_more bytes at 0 lt ∙ ap (λ b. b ∷ drop (at + 1) bytes) comma) in
    ap (list_any is_close) (ap split_commas whole ∙ split_at (take at bytes) (drop (at + 1) bytes) none)

pub lists_last : (bytes : List ℕ) (at : ℕ) → length bytes ≤ at → list_all no_comma (take at bytes) ≡ true → lists_close bytes ≡ (is_close (take at bytes) || false)
lists_last bytes at le none =
    let whole = take_all at bytes le in
    ap lists_close (sym whole) ∙ ap (list_any is_close) (split_alone (take at bytes) none)

pub rest_bytes : (bytes : List ℕ) (at : ℕ) → take (length bytes - at) (drop at bytes) ≡ drop at bytes
rest_bytes bytes at = grind (arith, common_steps)

pub whole_slice : (bytes : List ℕ) → slice_range bytes 0 (length bytes) ≡ bytes
whole_slice bytes = rest_bytes bytes 0

pub close_here : (bytes : List ℕ) (at : ℕ) → (at < length bytes → get_or bytes at 0 ≡ 44) → list_all no_comma (take at bytes) ≡ true → true ≡ is_close (take at bytes) → true ≡ lists_close bytes
close_here bytes at comma none close = by_side (cases_lt at (length bytes))
  where
    by_side : (at < length bytes) ⊎ (length bytes ≤ at) → true ≡ lists_close bytes
    by_side (inl lt) = sym (lists_first bytes at lt (comma lt) none ∙ ap (λ x. x || lists_close (drop (at + 1) bytes)) (sym close))
    by_side (inr le) = sym (lists_last bytes at le none ∙ ap (λ x. x || false) (sym close))

pub close_later : (bytes : List ℕ) (at : ℕ) → at < length bytes → (at < length bytes → get_or bytes at 0 ≡ 44) → list_all no_comma (take at bytes) ≡ true → false ≡ is_close (take at bytes) → lists_close (drop (at + 1) bytes) ≡ lists_close bytes
close_later bytes at lt comma none close =
    sym (lists_first bytes at lt (comma lt) none ∙ ap (λ x. x || lists_close (drop (at + 1) bytes)) (sym close))

pub close_never : (bytes : List ℕ) (at : ℕ) → length bytes ≤ at → list_all no_comma (take at bytes) ≡ true → false ≡ is_close (take at bytes) → false ≡ lists_close bytes
close_never bytes at le none close = sym (lists_last bytes at le none ∙ ap (λ x. x || false) (sym close))
