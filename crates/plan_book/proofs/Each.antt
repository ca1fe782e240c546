-- Lists that are made element by element.
use Rattle.std.proofs.Common.{◌≡◌, ℕ, ◌+◌, ◌<◌, ◌≤◌, not, max, length, get_or, drop, arith, List, [], ◌∷◌, ◌++◌, Option, Some, None, refl, ap, ◌∙◌, sym, append_assoc}
use Rattle.std.specs.Prelude.{map, ◌&&◌, ◌||◌}
use Rattle.std.specs.List.{list_any}
use Rattle.std.specs.Str.{bytes_eq}
use Rattle.std.proofs.lemmas.List.{append-nil, drop_more, drop_all}
use Rattle.json_value.specs.declared.tree.Json.{Json}
use Rattle.json_paths.specs.declared.needs.Need.{Need}
use Rattle.plan_tree.specs.Lawful.{differ, deepest}
use Rattle.plan_book.specs.Forms.{and_also, all_of, need_name}

abbrev pub joined : {X : Type 0} → List X → Option (List X) → Option (List X)
joined before None = None
joined before (Some after) = Some (before ++ after)

joined-more : {X : Type 0} (before : List X) (x : X) (after : Option (List X)) → joined before (and_also (Some x) after) ≡ joined (before ++ (x ∷ [])) after
joined-more before x None = refl
joined-more before x (Some after) = rw (append_assoc before (x ∷ []) after) refl

pub joined-start : {X : Type 0} (after : Option (List X)) → joined [] after ≡ after
joined-start None = refl
joined-start (Some after) = refl

from_here : {X : Type 0} (xs : List X) (i : ℕ) (x : X) → i < length xs → x ≡ get_or xs i x → drop i xs ≡ x ∷ drop (i + 1) xs
from_here xs i x lt is = drop_more xs i x lt ∙ ap (λ y. y ∷ drop (i + 1) xs) (sym is)

pub one_missing : {X : Type 0} (form : Json → Option X) (items : List Json) (i : ℕ) (item : Json) (made : List X) (whole : Option (List X)) →
    i < length items → item ≡ get_or items i item → form item ≡ None → joined made (all_of (map form (drop i items))) ≡ whole → None ≡ whole
one_missing form items i item made whole lt is none kept =
    let here : all_of (map form (drop i items)) ≡ None =
    ap (λ (vs : List Json). all_of (map form vs)) (from_here items i item lt is) ∙ ap (λ o. and_also o (all_of (map form (drop (i + 1) items)))) none in
    sym (ap (joined made) here) ∙ kept

pub one_more : {X : Type 0} (form : Json → Option X) (items : List Json) (i : ℕ) (item : Json) (x : X) (made next : List X) (whole : Option (List X)) →
    i < length items → item ≡ get_or items i item → form item ≡ Some x → next ≡ made ++ (x ∷ []) → joined made (all_of (map form (drop i items))) ≡ whole → joined next (all_of (map form (drop (i + 1) items))) ≡ whole
one_more form items i item x made next whole lt is some next_is kept =
    let here : all_of (map form (drop i items)) ≡ and_also (Some x) (all_of (map form (drop (i + 1) items))) =
    ap (λ (vs : List Json). all_of (map form vs)) (from_here items i item lt is) ∙ ap (λ o. and_also o (all_of (map form (drop (i + 1) items)))) some in
    ap (λ xs. joined xs (all_of (map form (drop (i + 1) items)))) next_is ∙ sym (joined-more made x (all_of (map form (drop (i + 1) items)))) ∙ sym (ap (joined made) here) ∙ kept

pub all_made : {X : Type 0} (form : Json → Option X) (items : List Json) (i : ℕ) (made : List X) (whole : Option (List X)) →
    length items ≤ i → joined made (all_of (map form (drop i items))) ≡ whole → Some made ≡ whole
all_made form items i made whole past kept =
    let here : joined made (all_of (map form (drop i items))) ≡ Some made =
    ap (λ (vs : List Json). joined made (all_of (map form vs))) (drop_all i items past) ∙ ap (λ xs. Some xs) (append-nil made) in
    sym here ∙ kept

-- ---- distinct names

pub differ_from : (names : List (List ℕ)) (i : ℕ) (name : List ℕ) → i < length names → name ≡ get_or names i name →
    differ (drop i names) ≡ (not (list_any (bytes_eq name) (drop (i + 1) names)) && differ (drop (i + 1) names))
differ_from names i name lt is = ap differ (from_here names i name lt is)

pub needs_differ_from : (needs : List Need) (i : ℕ) (need : Need) → i < length needs → need ≡ get_or needs i need →
    differ (map need_name (drop i needs)) ≡ (not (list_any (bytes_eq (need_name need)) (map need_name (drop (i + 1) needs))) && differ (map need_name (drop (i + 1) needs)))
needs_differ_from needs i need lt is = ap (λ (ns : List Need). differ (map need_name ns)) (from_here needs i need lt is)

pub needs_any_from : (name : List ℕ) (needs : List Need) (i : ℕ) (need : Need) → i < length needs → need ≡ get_or needs i need →
    list_any (bytes_eq name) (map need_name (drop i needs)) ≡ (bytes_eq name (need_name need) || list_any (bytes_eq name) (map need_name (drop (i + 1) needs)))
needs_any_from name needs i need lt is = ap (λ (ns : List Need). list_any (bytes_eq name) (map need_name ns)) (from_here needs i need lt is)

-- ---- levels

pub deepest_from : (levels : List ℕ) (i level : ℕ) → i < length levels → level ≡ get_or levels i level → deepest (drop i levels) ≡ max level (deepest (drop (i + 1) levels))
deepest_from levels i level lt is = ap deepest (from_here levels i level lt is)

pub deepest-append : (before after : List ℕ) → deepest (before ++ after) ≡ max (deepest before) (deepest after)
deepest-append [] after = omega arith
deepest-append (n ∷ before) after = let e : deepest (before ++ after) ≡ max (deepest before) (deepest after) = deepest-append before after in omega arith
