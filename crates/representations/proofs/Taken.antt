-- What is taken of each kind of value.
use Rattle.std.proofs.Common.{◌≡◌, ℕ, suc, ◌+◌, ◌<◌, true, false, length, get_or, drop, arith, true≢false, List, [], ◌∷◌, ◌++◌, Option, Some, None, refl, ap, ◌∙◌, sym, append_assoc}
use Rattle.std.specs.Prelude.{map, option_and_then, ◌==◌}
use Rattle.std.proofs.lemmas.List.{append-nil, drop_more}
use Rattle.std.proofs.lemmas.Bool.{eqb-true}
use Rattle.json_value.specs.Members.{member}
use Rattle.json_paths.specs.declared.needs.Need.{Need, out-Need}
use Rattle.json_paths.specs.declared.needs.Need.TheFolds.{fold_out-Need}
use Rattle.json_value.specs.declared.tree.Json.{Json}
use Rattle.json_value.specs.declared.tree.Json.TheVariants as json
use Rattle.json_value.specs.declared.tree.Json.TheOpen.{Json-F}
use Rattle.json_value.specs.Recursion.{by_parts}
use Rattle.json_value.proofs.Parts.{with_made, by_parts-null, by_parts-bool, by_parts-number, by_parts-string, by_parts-list, by_parts-object}
use Rattle.json_value.proofs.Cases.{Kind, kind_of, is_null, is_bool, is_number, is_string, is_list, is_object}
use Rattle.representations.specs.Represent.{Taking, taking, taking_step, under_name, taken, taken_parts, taken_members, and_also, all_of, as_list, as_object}

pub taken-all : (v : Json) → taken [] v ≡ Some v
unfolding taken
taken-all v = refl

pub taken-null : (ts : List Taking) → (ts ≡ [] → ⊥) → taken ts json.Null ≡ Some json.Null
unfolding taken
taken-null [] some = absurd (some refl)
taken-null (t ∷ ts) some = by_parts-null (taken_parts (t ∷ ts))

items_taken : (ts : List Taking) (xs : List Json) → map (λ p. p.1) (map (with_made (taken_parts ts)) xs) ≡ map (by_parts (taken_parts ts)) xs
items_taken ts [] = refl
items_taken ts (x ∷ xs) = ap (λ os. by_parts (taken_parts ts) x ∷ os) (items_taken ts xs)

pub taken-list : (ts : List Taking) (xs : List Json) → (ts ≡ [] → ⊥) → taken ts (json.List xs) ≡ as_list (all_of (map (taken ts) xs))
unfolding taken
taken-list [] xs some = absurd (some refl)
taken-list (t ∷ ts) xs some = by_parts-list (taken_parts (t ∷ ts)) xs ∙ ap (λ (os : List (Option Json)). as_list (all_of os)) (items_taken (t ∷ ts) xs)

pub taken-object : (ts : List Taking) (ms : List (List ℕ × Json)) → (ts ≡ [] → ⊥) → taken ts (json.Object ms) ≡ as_object (taken_members ts (json.Object ms))
unfolding taken
taken-object [] ms some = absurd (some refl)
taken-object (t ∷ ts) ms some = by_parts-object (taken_parts (t ∷ ts)) ms

pub taken-other : (ts : List Taking) (v : Json) → (ts ≡ [] → ⊥) → (v ≡ json.Null → ⊥) → ((xs : List Json) → v ≡ json.List xs → ⊥) → ((ms : List (List ℕ × Json)) → v ≡ json.Object ms → ⊥) → taken ts v ≡ None
unfolding taken
taken-other [] v some null list object = absurd (some refl)
taken-other (t ∷ ts) v some null list object = by_kind (kind_of v) null list object
  where
    by_kind : {v : Json} → Kind v → (v ≡ json.Null → ⊥) → ((xs : List Json) → v ≡ json.List xs → ⊥) → ((ms : List (List ℕ × Json)) → v ≡ json.Object ms → ⊥) → by_parts (taken_parts (t ∷ ts)) v ≡ None
    by_kind is_null null list object = absurd (null refl)
    by_kind (is_bool b) null list object = by_parts-bool (taken_parts (t ∷ ts)) b
    by_kind (is_number x) null list object = by_parts-number (taken_parts (t ∷ ts)) x
    by_kind (is_string x) null list object = by_parts-string (taken_parts (t ∷ ts)) x
    by_kind (is_list xs) null list object = absurd (list xs refl)
    by_kind (is_object ms) null list object = absurd (object ms refl)

-- ---- one after the other

abbrev pub joined : {X : Type 0} → List X → Option (List X) → Option (List X)
joined before None = None
joined before (Some after) = Some (before ++ after)

pub joined-more : {X : Type 0} (before : List X) (x : X) (after : Option (List X)) → joined before (and_also (Some x) after) ≡ joined (before ++ (x ∷ [])) after
joined-more before x None = refl
joined-more before x (Some after) = rw (append_assoc before (x ∷ []) after) refl

pub joined-end : {X : Type 0} (before : List X) → joined before (Some []) ≡ Some before
joined-end before = ap (λ xs. Some xs) (append-nil before)

pub joined-start : {X : Type 0} (after : Option (List X)) → joined [] after ≡ after
joined-start None = refl
joined-start (Some after) = refl

pub some_mapped : {X Y : Type 0} (f : X → Y) (xs : List X) → (xs ≡ [] → ⊥) → map f xs ≡ [] → ⊥
some_mapped f [] some is = some refl
some_mapped f (x ∷ xs) some is = cc

pub empty_of : {X : Type 0} (xs : List X) → (length xs == 0) ≡ true → xs ≡ []
empty_of [] is = refl
empty_of (x ∷ xs) is = let never : length (x ∷ xs) ≡ 0 = eqb-true (length (x ∷ xs)) 0 is in absurd (omega arith)

pub some_of : {X : Type 0} (xs : List X) → (length xs == 0) ≡ false → xs ≡ [] → ⊥
some_of [] is none = true≢false is
some_of (x ∷ xs) is none = cc

-- ---- the needs one after the other

pub taking-is : (need : Need) → taking need ≡ ((out-Need need).name, taken (map taking (out-Need need).fields))
unfolding taking
taking-is need = fold_out-Need Taking taking_step need

from_here : (needs : List Need) (i : ℕ) (need : Need) → i < length needs → need ≡ get_or needs i need → drop i needs ≡ need ∷ drop (i + 1) needs
from_here needs i need lt is = drop_more needs i need lt ∙ ap (λ n. n ∷ drop (i + 1) needs) (sym is)

pub need_missing : (needs : List Need) (i : ℕ) (need : Need) (v : Json) (before : List (List ℕ × Json)) (whole : Option (List (List ℕ × Json))) →
    i < length needs → need ≡ get_or needs i need → None ≡ option_and_then (taken (map taking (out-Need need).fields)) (member v (out-Need need).name) →
    joined before (taken_members (map taking (drop i needs)) v) ≡ whole → None ≡ whole
need_missing needs i need v before whole lt is none kept =
    let here : taken_members (map taking (drop i needs)) v ≡ None =
    ap (λ ns. taken_members (map taking ns) v) (from_here needs i need lt is) ∙ ap (λ (t : Taking). taken_members (t ∷ map taking (drop (i + 1) needs)) v) (taking-is need)
    ∙ ap (λ (o : Option Json). and_also (under_name (out-Need need).name o) (taken_members (map taking (drop (i + 1) needs)) v)) (sym none) in
    sym (ap (joined before) here) ∙ kept

pub need_taken : (needs : List Need) (i : ℕ) (need : Need) (v x : Json) (before next : List (List ℕ × Json)) (whole : Option (List (List ℕ × Json))) →
    i < length needs → need ≡ get_or needs i need → Some x ≡ option_and_then (taken (map taking (out-Need need).fields)) (member v (out-Need need).name) →
    next ≡ before ++ (((out-Need need).name, x) ∷ []) → joined before (taken_members (map taking (drop i needs)) v) ≡ whole → joined next (taken_members (map taking (drop (i + 1) needs)) v) ≡ whole
need_taken needs i need v x before next whole lt is some next_is kept =
    let here : taken_members (map taking (drop i needs)) v ≡ and_also (Some ((out-Need need).name, x)) (taken_members (map taking (drop (i + 1) needs)) v) =
    ap (λ ns. taken_members (map taking ns) v) (from_here needs i need lt is) ∙ ap (λ (t : Taking). taken_members (t ∷ map taking (drop (i + 1) needs)) v) (taking-is need)
    ∙ ap (λ (o : Option Json). and_also (under_name (out-Need need).name o) (taken_members (map taking (drop (i + 1) needs)) v)) (sym some) in
    ap (λ ms. joined ms (taken_members (map taking (drop (i + 1) needs)) v)) next_is ∙ sym (joined-more before ((out-Need need).name, x) (taken_members (map taking (drop (i + 1) needs)) v)) ∙ sym (ap (joined before) here) ∙ kept

pub item_missing : (ts : List Taking) (items : List Json) (i : ℕ) (x : Json) (before : List Json) (whole : Option (List Json)) →
    i < length items → x ≡ get_or items i x → None ≡ taken ts x → joined before (all_of (map (taken ts) (drop i items))) ≡ whole → None ≡ whole
item_missing ts items i x before whole lt is none kept =
    let here : all_of (map (taken ts) (drop i items)) ≡ None =
    ap (λ xs. all_of (map (taken ts) xs)) (drop_more items i x lt ∙ ap (λ n. n ∷ drop (i + 1) items) (sym is)) ∙ ap (λ (o : Option Json). and_also o (all_of (map (taken ts) (drop (i + 1) items)))) (sym none) in
    sym (ap (joined before) here) ∙ kept

pub item_taken : (ts : List Taking) (items : List Json) (i : ℕ) (x y : Json) (before next : List Json) (whole : Option (List Json)) →
    i < length items → x ≡ get_or items i x → Some y ≡ taken ts x → next ≡ before ++ (y ∷ []) → joined before (all_of (map (taken ts) (drop i items))) ≡ whole → joined next (all_of (map (taken ts) (drop (i + 1) items))) ≡ whole
item_taken ts items i x y before next whole lt is some next_is kept =
    let here : all_of (map (taken ts) (drop i items)) ≡ and_also (Some y) (all_of (map (taken ts) (drop (i + 1) items))) =
    ap (λ xs. all_of (map (taken ts) xs)) (drop_more items i x lt ∙ ap (λ n. n ∷ drop (i + 1) items) (sym is)) ∙ ap (λ (o : Option Json). and_also o (all_of (map (taken ts) (drop (i + 1) items)))) (sym some) in
    ap (λ ms. joined ms (all_of (map (taken ts) (drop (i + 1) items)))) next_is ∙ sym (joined-more before y (all_of (map (taken ts) (drop (i + 1) items)))) ∙ sym (ap (joined before) here) ∙ kept
