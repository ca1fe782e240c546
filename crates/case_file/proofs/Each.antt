-- Lists that are made element by element.
use Rattle.std.proofs.Common.{◌≡◌, ℕ, ◌+◌, ◌<◌, ◌≤◌, not, length, get_or, drop, List, [], ◌∷◌, ◌++◌, Option, Some, None, refl, ap, ◌∙◌, sym, append_assoc}
use Rattle.std.specs.Prelude.{map, ◌&&◌, ◌||◌}
use Rattle.std.specs.List.{list_any}
use Rattle.std.specs.Str.{bytes_eq}
use Rattle.std.proofs.lemmas.List.{append-nil, drop_more, drop_all}
use Rattle.json_value.specs.declared.tree.Json.{Json}
use Rattle.plan_tree.specs.Lawful.{differ}
use Rattle.router_config.specs.declared.config.SubRule.{SubRule}
use Rattle.router_config.specs.Rules.{name_of, names}
use Rattle.case_file.specs.Forms.{and_also, all_of}

abbrev pub joined : {X : Type 0} → List X → Option (List X) → Option (List X)
joined before None = None
joined before (Some after) = Some (before ++ after)

joined-more : {X : Type 0} (before : List X) (x : X) (after : Option (List X)) → joined before (and_also (Some x) after) ≡ joined (before ++ (x ∷ [])) after
joined-more before x None = refl
joined-more before x (Some after) = rw (append_assoc before (x ∷ []) after) refl

pub joined-start : {X : Type 0} (after : Option (List X)) → joined [] after ≡ after
joined-start None = refl
joined-start (Some after) = refl

from_here : {X : Type 0} (xs : List X) (i : ℕ) (x : X) → i < length xs → x ≡ get_or xs i x → drop i xs ≡ x ∷ drop (i + 1) xs
from_here xs i x lt is = drop_more xs i x lt ∙ ap (λ y. y ∷ drop (i + 1) xs) (sym is)

pub one_missing : {X : Type 0} (form : Json → Option X) (items : List Json) (i : ℕ) (item : Json) (made : List X) (whole : Option (List X)) →
    i < length items → item ≡ get_or items i item → form item ≡ None → joined made (all_of (map form (drop i items))) ≡ whole → None ≡ whole
one_missing form items i item made whole lt is none kept =
    let here : all_of (map form (drop i items)) ≡ None =
    ap (λ (vs : List Json). all_of (map form vs)) (from_here items i item lt is) ∙ ap (λ o. and_also o (all_of (map form (drop (i + 1) items)))) none in
    sym (ap (joined made) here) ∙ kept

pub one_more : {X : Type 0} (form : Json → Option X) (items : List Json) (i : ℕ) (item : Json) (x : X) (made next : List X) (whole : Option (List X)) →
    i < length items → item ≡ get_or items i item → form item ≡ Some x → next ≡ made ++ (x ∷ []) → joined made (all_of (map form (drop i items))) ≡ whole → joined next (all_of (map form (drop (i + 1) items))) ≡ whole
one_more form items i item x made next whole lt is some next_is kept =
    let here : all_of (map form (drop i items)) ≡ and_also (Some x) (all_of (map form (drop (i + 1) items))) =
    ap (λ (vs : List Json). all_of (map form vs)) (from_here items i item lt is) ∙ ap (λ o. and_also o (all_of (map form (drop (i + 1) items)))) some in
    ap (λ xs. joined xs (all_of (map form (drop (i + 1) items)))) next_is ∙ sym (joined-more made x (all_of (map form (drop (i + 1) items)))) ∙ sym (ap (joined made) here) ∙ kept

pub all_made : {X : Type 0} (form : Json → Option X) (items : List Json) (i : ℕ) (made : List X) (whole : Option (List X)) →
    length items ≤ i → joined made (all_of (map form (drop i items))) ≡ whole → Some made ≡ whole
all_made form items i made whole past kept =
    let here : joined made (all_of (map form (drop i items))) ≡ Some made =
    ap (λ (vs : List Json). joined made (all_of (map form vs))) (drop_all i items past) ∙ ap (λ xs. Some xs) (append-nil made) in
    sym here ∙ kept

-- ---- distinct names

pub differ_from : (rules : List SubRule) (i : ℕ) (rule : SubRule) → i < length rules → rule ≡ get_or rules i rule →
    differ (names (drop i rules)) ≡ (not (list_any (bytes_eq (name_of rule)) (names (drop (i + 1) rules))) && differ (names (drop (i + 1) rules)))
differ_from rules i rule lt is = ap (λ (rs : List SubRule). differ (names rs)) (from_here rules i rule lt is)

pub any_from : (name : List ℕ) (rules : List SubRule) (i : ℕ) (rule : SubRule) → i < length rules → rule ≡ get_or rules i rule →
    list_any (bytes_eq name) (names (drop i rules)) ≡ (bytes_eq name (name_of rule) || list_any (bytes_eq name) (names (drop (i + 1) rules)))
any_from name rules i rule lt is = ap (λ (rs : List SubRule). list_any (bytes_eq name) (names rs)) (from_here rules i rule lt is)
