-- What taking a member by its name gives, and what it leaves.
use Rattle.std.proofs.Common.{◌≡◌, ℕ, zero, suc, ◌+◌, ◌<◌, Bool, true, false, List, [], ◌∷◌, ◌++◌, Option, Some, None, ◌⊎◌, inl, inr, refl, ap, ◌∙◌, sym, arith, append_assoc, length, get_or, set, true≢false, length-append}
use Rattle.std.specs.Prelude.{◌||◌, if◌then◌else◌}
use Rattle.std.specs.List.{IsDistinct, list_any, position, AllByRecursion}
use Rattle.std.proofs.lemmas.List.Quantifiers.{position-Some}
use Rattle.merge_paths.proofs.Progress.{without-absent}
use Rattle.std.specs.Str.{bytes_eq}
use Rattle.std.proofs.lemmas.List.{append-nil}
use Rattle.json_value.specs.declared.tree.Json.{Json}
use Rattle.json_value.specs.Members.{named}
use Rattle.merge_paths.specs.Merge.{without}
use Rattle.merge_paths.specs.Taking.{put_last, taken_back}
use Rattle.merge_paths.proofs.Names.{either, same_name, of_same, turned}

-- ---- in two lists

pub named-found : (name : List ℕ) (xs ys : List (List ℕ × Json)) (v : Json) → named name xs ≡ Some v → named name (xs ++ ys) ≡ Some v
named-found name [] ys v found = cc
named-found name (x ∷ xs) ys v found = by_same (either (bytes_eq x.0 name)) (named-found name xs ys v)
  where
    by_same : (bytes_eq x.0 name ≡ true) ⊎ (bytes_eq x.0 name ≡ false) → (named name xs ≡ Some v → named name (xs ++ ys) ≡ Some v) → named name (x ∷ (xs ++ ys)) ≡ Some v
    by_same (inl e) rest = let here : Some x.1 ≡ Some v = rw e at found in rw e here
    by_same (inr e) rest = let later : named name xs ≡ Some v = rw e at found in rw e (rest later)

pub named-passed : (name : List ℕ) (xs ys : List (List ℕ × Json)) → named name xs ≡ None → named name (xs ++ ys) ≡ named name ys
named-passed name [] ys absent = refl
named-passed name (x ∷ xs) ys absent = by_same (either (bytes_eq x.0 name)) (named-passed name xs ys)
  where
    by_same : (bytes_eq x.0 name ≡ true) ⊎ (bytes_eq x.0 name ≡ false) → (named name xs ≡ None → named name (xs ++ ys) ≡ named name ys) → named name (x ∷ (xs ++ ys)) ≡ named name ys
    by_same (inl e) rest = let never : named name (x ∷ xs) ≡ Some x.1 = rw e refl in cc
    by_same (inr e) rest = let later : named name xs ≡ None = rw e at absent in rw e (rest later)

pub without-found : (name : List ℕ) (xs ys : List (List ℕ × Json)) (v : Json) → named name xs ≡ Some v → without name (xs ++ ys) ≡ without name xs ++ ys
without-found name [] ys v found = cc
without-found name (x ∷ xs) ys v found = by_same (either (bytes_eq x.0 name)) (without-found name xs ys v)
  where
    by_same : (bytes_eq x.0 name ≡ true) ⊎ (bytes_eq x.0 name ≡ false) → (named name xs ≡ Some v → without name (xs ++ ys) ≡ without name xs ++ ys) → without name (x ∷ (xs ++ ys)) ≡ without name (x ∷ xs) ++ ys
    by_same (inl e) rest = rw e refl
    by_same (inr e) rest = let later : named name xs ≡ Some v = rw e at found in rw e (ap (λ (ms : List (List ℕ × Json)). x ∷ ms) (rest later))

pub without-passed : (name : List ℕ) (xs ys : List (List ℕ × Json)) → named name xs ≡ None → without name (xs ++ ys) ≡ xs ++ without name ys
without-passed name [] ys absent = refl
without-passed name (x ∷ xs) ys absent = by_same (either (bytes_eq x.0 name)) (without-passed name xs ys)
  where
    by_same : (bytes_eq x.0 name ≡ true) ⊎ (bytes_eq x.0 name ≡ false) → (named name xs ≡ None → without name (xs ++ ys) ≡ xs ++ without name ys) → without name (x ∷ (xs ++ ys)) ≡ x ∷ (xs ++ without name ys)
    by_same (inl e) rest = let never : named name (x ∷ xs) ≡ Some x.1 = rw e refl in cc
    by_same (inr e) rest = let later : named name xs ≡ None = rw e at absent in rw e (ap (λ (ms : List (List ℕ × Json)). x ∷ ms) (rest later))

-- ---- the last first

put_last-some : (ms : List (List ℕ × Json)) (name : List ℕ) (o : Option Json) (n : List ℕ) (v : Json) → put_last ((n, v) ∷ ms) name o ≡ (n, v) ∷ put_last ms name o
put_last-some ms name None n v = refl
put_last-some ms name (Some w) n v = refl

pub back-none : (values : List (Option Json)) → taken_back [] values ≡ []
back-none values = refl

-- one more name and its value
pub back-more : (names : List (List ℕ)) (values : List (Option Json)) (n : List ℕ) (v : Json) → length values ≡ length names → taken_back (names ++ (n ∷ [])) (values ++ (Some v ∷ [])) ≡ (n, v) ∷ taken_back names values
back-more [] [] n v long = refl
back-more [] (o ∷ values) n v long = absurd (omega arith)
back-more (name ∷ names) [] n v long = absurd (omega arith)
back-more (name ∷ names) (o ∷ values) n v long = ap (λ (ms : List (List ℕ × Json)). put_last ms name o) (back-more names values n v (omega arith)) ∙ put_last-some (taken_back names values) name o n v

-- one more name whose value was taken
pub back-gone : (names : List (List ℕ)) (values : List (Option Json)) (n : List ℕ) → length values ≡ length names → taken_back (names ++ (n ∷ [])) (values ++ (None ∷ [])) ≡ taken_back names values
back-gone [] [] n long = refl
back-gone [] (o ∷ values) n long = absurd (omega arith)
back-gone (name ∷ names) [] n long = absurd (omega arith)
back-gone (name ∷ names) (o ∷ values) n long = ap (λ (ms : List (List ℕ × Json)). put_last ms name o) (back-gone names values n (omega arith))

named-last : (name n : List ℕ) (o : Option Json) (ms : List (List ℕ × Json)) → bytes_eq n name ≡ false → named name (put_last ms n o) ≡ named name ms
named-last name n None ms other = refl
named-last name n (Some v) [] other = rw other refl
named-last name n (Some v) (m ∷ ms) other = by_same (either (bytes_eq m.0 name)) (named-last name n (Some v) ms other)
  where
    by_same : (bytes_eq m.0 name ≡ true) ⊎ (bytes_eq m.0 name ≡ false) → named name (ms ++ ((n, v) ∷ [])) ≡ named name ms → named name (m ∷ (ms ++ ((n, v) ∷ []))) ≡ named name (m ∷ ms)
    by_same (inl e) rest = rw e refl
    by_same (inr e) rest = rw e rest

without-last : (name n : List ℕ) (o : Option Json) (ms : List (List ℕ × Json)) → bytes_eq n name ≡ false → without name (put_last ms n o) ≡ put_last (without name ms) n o
without-last name n None ms other = refl
without-last name n (Some v) [] other = rw other refl
without-last name n (Some v) (m ∷ ms) other = by_same (either (bytes_eq m.0 name)) (without-last name n (Some v) ms other)
  where
    by_same : (bytes_eq m.0 name ≡ true) ⊎ (bytes_eq m.0 name ≡ false) → without name (ms ++ ((n, v) ∷ [])) ≡ without name ms ++ ((n, v) ∷ []) → without name (m ∷ (ms ++ ((n, v) ∷ []))) ≡ without name (m ∷ ms) ++ ((n, v) ∷ [])
    by_same (inl e) rest = rw e refl
    by_same (inr e) rest = rw e (ap (λ (ns : List (List ℕ × Json)). m ∷ ns) rest)

-- a name that is not indexed
pub back-lacks : (name : List ℕ) (names : List (List ℕ)) (values : List (Option Json)) → list_any (bytes_eq name) names ≡ false → named name (taken_back names values) ≡ None
back-lacks name [] values absent = refl
back-lacks name (n ∷ names) [] absent = refl
back-lacks name (n ∷ names) (o ∷ values) absent = by_same (either (bytes_eq name n)) (back-lacks name names values)
  where
    by_same : (bytes_eq name n ≡ true) ⊎ (bytes_eq name n ≡ false) → (list_any (bytes_eq name) names ≡ false → named name (taken_back names values) ≡ None) → named name (put_last (taken_back names values) n o) ≡ None
    by_same (inl e) rest = let there : list_any (bytes_eq name) (n ∷ names) ≡ true = rw e refl in absurd (true≢false (sym there ∙ absent))
    by_same (inr e) rest = let later : list_any (bytes_eq name) names ≡ false = rw e at absent in named-last name n o (taken_back names values) (turned name n e) ∙ rest later

none_same : (n name : List ℕ) (names : List (List ℕ)) → AllByRecursion (λ y. bytes_eq n y ≡ false) names → n ≡ name → list_any (bytes_eq name) names ≡ false
none_same n name [] differ same = refl
none_same n name (y ∷ names) differ same = let other : bytes_eq name y ≡ false = ap (λ (x : List ℕ). bytes_eq x y) (sym same) ∙ differ.0 in rw other (none_same n name names differ.1 same)

apart : (n name : List ℕ) (names : List (List ℕ)) (i : ℕ) (d : List ℕ) → AllByRecursion (λ y. bytes_eq n y ≡ false) names → i < length names → bytes_eq name (get_or names i d) ≡ true → bytes_eq n name ≡ false
apart n name [] i d differ short is = absurd (omega arith)
apart n name (y ∷ names) zero d differ short is = ap (bytes_eq n) (same_name name y is) ∙ differ.0
apart n name (y ∷ names) (suc i) d differ short is = apart n name names i d differ.1 (omega arith) is

at_first : (n name : List ℕ) (names : List (List ℕ)) (values : List (Option Json)) (v : Json) → AllByRecursion (λ y. bytes_eq n y ≡ false) names → bytes_eq name n ≡ true →
    (named name (taken_back names values ++ ((n, v) ∷ [])) ≡ Some v) × (taken_back names values ≡ without name (taken_back names values ++ ((n, v) ∷ [])))
at_first n name names values v differ is =
    let absent : named name (taken_back names values) ≡ None = back-lacks name names values (none_same n name names differ (sym (same_name name n is))) in
    let same : bytes_eq n name ≡ true = of_same n name (sym (same_name name n is)) in (
      named-passed name (taken_back names values) ((n, v) ∷ []) absent ∙ rw same refl,
      sym (without-passed name (taken_back names values) ((n, v) ∷ []) absent ∙ rw same (append-nil (taken_back names values))),
    )

-- the indexed name has its value, and without it the rest is left
pub back-found : (name : List ℕ) (names : List (List ℕ)) (values : List (Option Json)) (i : ℕ) (d : List ℕ) (e : Option Json) (v : Json) → IsDistinct bytes_eq names → i < length names → bytes_eq name (get_or names i d) ≡ true →
    length values ≡ length names → get_or values i e ≡ Some v → (named name (taken_back names values) ≡ Some v) × (taken_back names (set values i None) ≡ without name (taken_back names values))
unfolding IsDistinct
back-found name [] values i d e v differ short is long here = absurd (omega arith)
back-found name (n ∷ names) [] i d e v differ short is long here = absurd (omega arith)
back-found name (n ∷ names) (None ∷ values) zero d e v differ short is long here = cc
back-found name (n ∷ names) (Some w ∷ values) zero d e v differ short is long here =
    let same : w ≡ v = cc in
    let h = at_first n name names values w differ.0 is in
    (h.0 ∙ ap (λ (x : Json). Some x) same, h.1)
back-found name (n ∷ names) (o ∷ values) (suc i) d e v differ short is long here =
    let other : bytes_eq n name ≡ false = apart n name names i d differ.0 (omega arith) is in
    let h = back-found name names values i d e v differ.1 (omega arith) is (omega arith) here in (
      named-last name n o (taken_back names values) other ∙ h.0,
      ap (λ (ms : List (List ℕ × Json)). put_last ms n o) h.1 ∙ sym (without-last name n o (taken_back names values) other),
    )

-- the indexed name whose value was taken
pub back-gone_before : (name : List ℕ) (names : List (List ℕ)) (values : List (Option Json)) (i : ℕ) (d : List ℕ) (e : Option Json) → IsDistinct bytes_eq names → i < length names → bytes_eq name (get_or names i d) ≡ true →
    length values ≡ length names → get_or values i e ≡ None → named name (taken_back names values) ≡ None
unfolding IsDistinct
back-gone_before name [] values i d e differ short is long here = absurd (omega arith)
back-gone_before name (n ∷ names) [] i d e differ short is long here = absurd (omega arith)
back-gone_before name (n ∷ names) (Some w ∷ values) zero d e differ short is long here = cc
back-gone_before name (n ∷ names) (None ∷ values) zero d e differ short is long here =
    back-lacks name names values (none_same n name names differ.0 (sym (same_name name n is)))
back-gone_before name (n ∷ names) (o ∷ values) (suc i) d e differ short is long here =
    let other : bytes_eq n name ≡ false = apart n name names i d differ.0 (omega arith) is in
    named-last name n o (taken_back names values) other ∙ back-gone_before name names values i d e differ.1 (omega arith) is (omega arith) here

pub set-none : (values : List (Option Json)) (i : ℕ) (e : Option Json) → get_or values i e ≡ None → set values i None ≡ values
set-none [] i e here = refl
set-none (o ∷ values) zero e here = ap (λ (x : Option Json). x ∷ values) (sym here)
set-none (o ∷ values) (suc i) e here = ap (λ (xs : List (Option Json)). o ∷ xs) (set-none values i e here)

-- what the index gives for a name, and what is left
pub taken : (name : List ℕ) (names : List (List ℕ)) (values : List (Option Json)) (i : ℕ) (d : List ℕ) (e r : Option Json) → IsDistinct bytes_eq names → Some i ≡ position (bytes_eq name) names →
    length values ≡ length names → e ≡ get_or values i e → r ≡ e → (r ≡ named name (taken_back names values)) × (taken_back names (set values i None) ≡ without name (taken_back names values))
taken name names values i d e r differ found long here is = by_value e here is
  where
    at : (i < length names) × (bytes_eq name (get_or names i d) ≡ true) × ((k : ℕ) → k < i → bytes_eq name (get_or names k d) ≡ false)
    at = position-Some (bytes_eq name) names i d (sym found)

    by_value : (o : Option Json) → o ≡ get_or values i o → r ≡ o → (r ≡ named name (taken_back names values)) × (taken_back names (set values i None) ≡ without name (taken_back names values))
    by_value None here is =
        let absent = back-gone_before name names values i d None differ at.0 at.1 long (sym here) in
        (is ∙ sym absent, ap (taken_back names) (set-none values i None (sym here)) ∙ sym (without-absent name (taken_back names values) absent))
    by_value (Some v) here is =
        let h = back-found name names values i d (Some v) v differ at.0 at.1 long (sym here) in
        (is ∙ sym h.0, h.1)

-- one member more in the index
pub indexed_last : (listed rest : List (List ℕ × Json)) (names more : List (List ℕ)) (values kept : List (Option Json)) (n : List ℕ) (v : Json) → listed ≡ rest ++ ((n, v) ∷ []) → list_any (bytes_eq n) names ≡ false →
    more ≡ (if list_any (bytes_eq n) names then names else names ++ (n ∷ [])) → kept ≡ values ++ (Some v ∷ []) → length values ≡ length names → rest ++ taken_back more kept ≡ listed ++ taken_back names values
indexed_last listed rest names more values kept n v popped new inserted pushed long =
    let more_is : more ≡ names ++ (n ∷ []) = rw new at inserted in
    rw (more_is, pushed, popped, append_assoc) (ap (λ (ms : List (List ℕ × Json)). rest ++ ms) (back-more names values n v long))

-- one name less
pub last_taken : (names fewer : List (List ℕ)) (values kept : List (Option Json)) (n : List ℕ) (o : Option Json) → names ≡ fewer ++ (n ∷ []) → values ≡ kept ++ (o ∷ []) → length values ≡ length names → length kept ≡ length fewer
last_taken names fewer values kept n o names_are values_are long = omega (arith, ap length names_are ∙ length-append fewer (n ∷ []), ap length values_are ∙ length-append kept (o ∷ []))

pub put_back : (ms more : List (List ℕ × Json)) (names fewer : List (List ℕ)) (values kept : List (Option Json)) (n : List ℕ) (v : Json) → names ≡ fewer ++ (n ∷ []) → values ≡ kept ++ (Some v ∷ []) → length values ≡ length names →
    more ≡ ms ++ ((n, v) ∷ []) → more ++ taken_back fewer kept ≡ ms ++ taken_back names values
put_back ms more names fewer values kept n v names_are values_are long pushed =
    rw (pushed, names_are, values_are, append_assoc) (ap (λ (rest : List (List ℕ × Json)). ms ++ rest) (sym (back-more fewer kept n v (last_taken names fewer values kept n (Some v) names_are values_are long))))

pub passed_back : (ms : List (List ℕ × Json)) (names fewer : List (List ℕ)) (values kept : List (Option Json)) (n : List ℕ) → names ≡ fewer ++ (n ∷ []) → values ≡ kept ++ (None ∷ []) → length values ≡ length names →
    ms ++ taken_back fewer kept ≡ ms ++ taken_back names values
passed_back ms names fewer values kept n names_are values_are long =
    rw (names_are, values_are) (ap (λ (rest : List (List ℕ × Json)). ms ++ rest) (sym (back-gone fewer kept n (last_taken names fewer values kept n None names_are values_are long))))

pub none_back : (ms : List (List ℕ × Json)) (names : List (List ℕ)) (values : List (Option Json)) → names ≡ [] → ms ++ taken_back names values ≡ ms
none_back ms names values none = rw none (append-nil ms)
