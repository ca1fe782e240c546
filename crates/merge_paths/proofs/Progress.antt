-- How merged members and elements add up.
use Rattle.std.proofs.Common.{◌≡◌, ℕ, zero, suc, ◌+◌, ◌<◌, ◌≤◌, Bool, true, false, List, [], ◌∷◌, ◌++◌, Option, Some, None, ◌⊎◌, inl, inr, refl, ap, ◌∙◌, sym, arith, length, take, drop, set, add-one, append_assoc, get_or, min}
use Rattle.std.specs.Prelude.{slice_get, remove}
use Rattle.std.specs.Str.{bytes_eq}
use Rattle.std.proofs.lemmas.List.{take_more_set, drop-set-lt, length-set, drop_all, append-nil, set-set, drop-drop, take_all, take-append-drop, set-get_or, get_or_default, take_more}
use Rattle.json_value.specs.declared.tree.Json.{Json}
use Rattle.json_value.specs.Members.{named}
use Rattle.merge_paths.specs.Merge.{merge, without, IsFirstNamed}
use Rattle.std.proofs.lemmas.Bool.{cases_lt}
use Rattle.json_paths.specs.declared.path.Place.{Place}
use Rattle.merge_paths.specs.Placing.{named_changed, element_changed, with_entities}
use Rattle.merge_paths.specs.Levels.{merged_with, merged_members, merged_elements}
use Rattle.merge_paths.proofs.Lists.{within, cut, element_of, read}

pub without-absent : (name : List ℕ) (ms : List (List ℕ × Json)) → named name ms ≡ None → without name ms ≡ ms
without-absent name [] absent = refl
without-absent name (m ∷ ms) absent = by_name (bytes_eq m.0 name) refl (without-absent name ms)
  where
    by_name : (b : Bool) → bytes_eq m.0 name ≡ b → (named name ms ≡ None → without name ms ≡ ms) → without name (m ∷ ms) ≡ m ∷ ms
    by_name true is rest = let never : named name (m ∷ ms) ≡ Some m.1 = rw is refl in cc
    by_name false is rest =
        let onward : named name (m ∷ ms) ≡ named name ms = rw is refl in
        let left : without name ms ≡ ms = rest (sym onward ∙ absent) in
        rw (is, left) refl

-- the loop's invariant on lists of members: what was done, and what is ahead
pub record Done (a first : List (List ℕ × Json)) (b : List (List ℕ × Json)) (all : List (List ℕ × Json)) (i : ℕ) : Type 0 where
  pub long : length a ≡ length first
  pub ahead : drop i a ≡ drop i first
  pub merged : take i a ++ merged_members (drop i first) b ≡ all

-- the rest of two lists that go on in the same way
further : {X : Type 0} (xs ys : List X) (i : ℕ) (x : X) → slice_get xs i ≡ Some x → drop i xs ≡ drop i ys → drop (suc i) xs ≡ drop (suc i) ys
further xs ys i x is same = sym (ap (drop 1) (cut xs i x is)) ∙ ap (drop 1) same ∙ drop-drop 1 i ys ∙ ap (λ (n : ℕ). drop n ys) (add-one i)

pub member_done : (a next first b left all : List (List ℕ × Json)) (i : ℕ) (m made : List ℕ × Json) →
    slice_get a i ≡ Some m → next ≡ set a i made → made ≡ (m.0, merged_with m.1 (named m.0 b)) → left ≡ without m.0 b →
    Done a first b all i → Done next first left all (i + 1)
member_done a next first b left all i m made is changed made_is left_is done = record {
  long = rw changed (length-set a i made ∙ done.long);
  ahead = rw (changed, add-one, drop-set-lt (suc i) a i made (omega arith)) ahead;
  merged = rw (changed, take_more_set a i made short, append_assoc, add-one, left_is, made_is) (sym here ∙ done.merged);
}
  where
    short : i < length a
    short = within a i m is

    ahead : drop (suc i) a ≡ drop (suc i) first
    ahead = further a first i m is done.ahead

    there : drop i first ≡ m ∷ drop (suc i) first
    there = sym done.ahead ∙ cut a i m is ∙ ap (λ (ms : List (List ℕ × Json)). m ∷ ms) ahead

    here : take i a ++ merged_members (drop i first) b ≡ take i a ++ ((m.0, merged_with m.1 (named m.0 b)) ∷ merged_members (drop (suc i) first) (without m.0 b))
    here = rw there refl

-- the same of two lists of elements
pub record Both (a first b second all : List Json) (i : ℕ) : Type 0 where
  pub long : length a ≡ length first
  pub other_long : length b ≡ length second
  pub ahead : drop i a ≡ drop i first
  pub other_ahead : drop i b ≡ drop i second
  pub merged : take i a ++ merged_elements (drop i first) (drop i second) ≡ all

pub element_done : (a next first b left second all : List Json) (i : ℕ) (x y made hole : Json) →
    slice_get a i ≡ Some x → slice_get b i ≡ Some y → next ≡ set a i made → left ≡ set b i hole → made ≡ merge x y →
    Both a first b second all i → Both next first left second all (i + 1)
element_done a next first b left second all i x y made hole x_is y_is changed taken made_is both = record {
  long = rw changed (length-set a i made ∙ both.long);
  other_long = rw taken (length-set b i hole ∙ both.other_long);
  ahead = rw (changed, add-one, drop-set-lt (suc i) a i made (omega arith)) ahead;
  other_ahead = rw (taken, add-one, drop-set-lt (suc i) b i hole (omega arith)) other_ahead;
  merged = rw (changed, take_more_set a i made short, append_assoc, add-one, made_is) (sym here ∙ both.merged);
}
  where
    short : i < length a
    short = within a i x x_is

    ahead : drop (suc i) a ≡ drop (suc i) first
    ahead = further a first i x x_is both.ahead

    other_ahead : drop (suc i) b ≡ drop (suc i) second
    other_ahead = further b second i y y_is both.other_ahead

    there : drop i first ≡ x ∷ drop (suc i) first
    there = sym both.ahead ∙ cut a i x x_is ∙ ap (λ (xs : List Json). x ∷ xs) ahead

    other_there : drop i second ≡ y ∷ drop (suc i) second
    other_there = sym both.other_ahead ∙ cut b i y y_is ∙ ap (λ (ys : List Json). y ∷ ys) other_ahead

    here : take i a ++ merged_elements (drop i first) (drop i second) ≡ take i a ++ (merge x y ∷ merged_elements (drop (suc i) first) (drop (suc i) second))
    here = rw (there, other_there) refl

-- the elements that only the second list has
pub record Rest (a b second all : List Json) (i : ℕ) : Type 0 where
  pub other_long : length b ≡ length second
  pub other_ahead : drop i b ≡ drop i second
  pub merged : a ++ drop i second ≡ all

none_left : (xs : List Json) → merged_elements xs [] ≡ xs
none_left [] = refl
none_left (x ∷ xs) = refl

pub rest_begins : (a first b second all : List Json) (i : ℕ) → (length first ≤ i) ⊎ (length second ≤ i) → Both a first b second all i → Rest a b second all i
rest_begins a first b second all i (inl all_first) both = record {
  other_long = both.other_long;
  other_ahead = both.other_ahead;
  merged = let whole : take i a ≡ a = take_all i a (omega (arith, both.long)) in
      let none : drop i first ≡ [] = drop_all i first all_first in
      rw (whole, none) at both.merged;
}
rest_begins a first b second all i (inr all_second) both = record {
  other_long = both.other_long;
  other_ahead = both.other_ahead;
  merged = let none : drop i second ≡ [] = drop_all i second all_second in
      let merged : take i a ++ drop i first ≡ all = rw (none, none_left) at both.merged in
      rw none (append-nil a ∙ sym (take-append-drop i a) ∙ ap (λ (xs : List Json). take i a ++ xs) both.ahead ∙ merged);
}

pub rest_goes_on : (a next b left second all : List Json) (i : ℕ) (y hole : Json) →
    slice_get b i ≡ Some y → left ≡ set b i hole → next ≡ a ++ (y ∷ []) → Rest a b second all i → Rest next left second all (i + 1)
rest_goes_on a next b left second all i y hole is taken pushed rest = record {
  other_long = rw taken (length-set b i hole ∙ rest.other_long);
  other_ahead = rw (taken, add-one, drop-set-lt (suc i) b i hole (omega arith)) other_ahead;
  merged = rw (pushed, append_assoc, add-one) (ap (λ (ys : List Json). a ++ ys) (sym there) ∙ rest.merged);
}
  where
    other_ahead : drop (suc i) b ≡ drop (suc i) second
    other_ahead = further b second i y is rest.other_ahead

    there : drop i second ≡ y ∷ drop (suc i) second
    there = sym rest.other_ahead ∙ cut b i y is ∙ ap (λ (ys : List Json). y ∷ ys) other_ahead

-- ---- members by name

pub none_passed : (name : List ℕ) (ms : List (List ℕ × Json)) (m : List ℕ × Json) → named name ms ≡ None → bytes_eq m.0 name ≡ false → named name (ms ++ (m ∷ [])) ≡ None
none_passed name [] m absent other = rw other refl
none_passed name (n ∷ ms) m absent other = by_name (bytes_eq n.0 name) refl (none_passed name ms m)
  where
    by_name : (b : Bool) → bytes_eq n.0 name ≡ b → (named name ms ≡ None → bytes_eq m.0 name ≡ false → named name (ms ++ (m ∷ [])) ≡ None) → named name (n ∷ (ms ++ (m ∷ []))) ≡ None
    by_name true is rest = let found : named name (n ∷ ms) ≡ Some n.1 = rw is refl in cc
    by_name false is rest = let onward : named name (n ∷ ms) ≡ named name ms = rw is refl in rw is (rest (sym onward ∙ absent) other)

pub passed : (name : List ℕ) (ms : List (List ℕ × Json)) (i : ℕ) (m : List ℕ × Json) → i < length ms → m ≡ get_or ms i m → bytes_eq m.0 name ≡ false →
    named name (take i ms) ≡ None → named name (take (i + 1) ms) ≡ None
passed name ms i m lt is other absent = rw (take_more ms i m lt, ← is) (none_passed name (take i ms) m absent other)

pub first_is : (name : List ℕ) (ms : List (List ℕ × Json)) (i : ℕ) (m : List ℕ × Json) → i < length ms → m ≡ get_or ms i m → bytes_eq m.0 name ≡ true →
    named name (take i ms) ≡ None → IsFirstNamed name ms i
first_is name ms i m lt is same absent = record { member = m; here = read ms i m lt is; has_name = same; none_before = absent }

-- what the first member of a name says of those after another member
behind : (name : List ℕ) (n : List ℕ × Json) (ms : List (List ℕ × Json)) (index : ℕ) → (one : IsFirstNamed name (n ∷ ms) (suc index)) → (bytes_eq n.0 name ≡ false) × IsFirstNamed name ms index
behind name n ms index one = by_name (bytes_eq n.0 name) refl
  where
    by_name : (b : Bool) → bytes_eq n.0 name ≡ b → (bytes_eq n.0 name ≡ false) × IsFirstNamed name ms index
    by_name true is = let found : named name (n ∷ take index ms) ≡ Some n.1 = rw is refl in let none : named name (n ∷ take index ms) ≡ None = one.none_before in cc
    by_name false is = (is, record { member = one.member; here = one.here; has_name = one.has_name; none_before = (let onward : named name (n ∷ take index ms) ≡ named name (take index ms) = rw is refl in sym onward ∙ one.none_before) })

pub first_named_is : (name : List ℕ) (ms : List (List ℕ × Json)) (index : ℕ) (one : IsFirstNamed name ms index) → named name ms ≡ Some one.member.1
first_named_is name [] index one = let h = one.here in cc
first_named_is name (n ∷ ms) zero one = let e : n ≡ one.member = (let h = one.here in cc) in rw (e, one.has_name) refl
first_named_is name (n ∷ ms) (suc index) one = let b = behind name n ms index one in let same : b.1.member ≡ one.member = (let h = b.1.here in let k = one.here in cc) in rw b.0 (first_named_is name ms index b.1 ∙ ap (λ (m : List ℕ × Json). Some m.1) same)

pub first_without : (name : List ℕ) (ms : List (List ℕ × Json)) (index : ℕ) → IsFirstNamed name ms index → without name ms ≡ remove ms index
first_without name [] index one = let h = one.here in cc
first_without name (n ∷ ms) zero one = let e : n ≡ one.member = (let h = one.here in cc) in rw (e, one.has_name) refl
first_without name (n ∷ ms) (suc index) one = let b = behind name n ms index one in rw b.0 (ap (λ (ns : List (List ℕ × Json)). n ∷ ns) (first_without name ms index b.1))

pub first_changed : (f : Json → Json) (name : List ℕ) (ms : List (List ℕ × Json)) (index : ℕ) (one : IsFirstNamed name ms index) →
    named_changed f name ms ≡ set ms index (one.member.0, f one.member.1)
first_changed f name [] index one = let h = one.here in cc
first_changed f name (n ∷ ms) zero one = let e : n ≡ one.member = (let h = one.here in cc) in rw (e, one.has_name) refl
first_changed f name (n ∷ ms) (suc index) one =
    let b = behind name n ms index one in
    let same : b.1.member ≡ one.member = (let h = b.1.here in let k = one.here in cc) in
    rw b.0 (ap (λ (ns : List (List ℕ × Json)). n ∷ ns) (first_changed f name ms index b.1 ∙ ap (λ (m : List ℕ × Json). set ms index (m.0, f m.1)) same))

pub none_changed : (f : Json → Json) (name : List ℕ) (ms : List (List ℕ × Json)) → named name ms ≡ None → named_changed f name ms ≡ ms
none_changed f name [] absent = refl
none_changed f name (m ∷ ms) absent = by_name (bytes_eq m.0 name) refl (none_changed f name ms)
  where
    by_name : (b : Bool) → bytes_eq m.0 name ≡ b → (named name ms ≡ None → named_changed f name ms ≡ ms) → named_changed f name (m ∷ ms) ≡ m ∷ ms
    by_name true is rest = let found : named name (m ∷ ms) ≡ Some m.1 = rw is refl in cc
    by_name false is rest = let onward : named name (m ∷ ms) ≡ named name ms = rw is refl in rw is (ap (λ (ns : List (List ℕ × Json)). m ∷ ns) (rest (sym onward ∙ absent)))

pub one_changed : (f : Json → Json) (xs : List Json) (index : ℕ) (x : Json) → slice_get xs index ≡ Some x → element_changed f index xs ≡ set xs index (f x)
one_changed f [] index x is = cc
one_changed f (y ∷ xs) zero x is = let e : y ≡ x = cc in rw e refl
one_changed f (y ∷ xs) (suc index) x is = ap (λ (ys : List Json). y ∷ ys) (one_changed f xs index x is)

pub past_changed : (f : Json → Json) (xs : List Json) (index : ℕ) → length xs ≤ index → element_changed f index xs ≡ xs
past_changed f [] index past = refl
past_changed f (y ∷ xs) zero past = absurd (omega arith)
past_changed f (y ∷ xs) (suc index) past = ap (λ (ys : List Json). y ∷ ys) (past_changed f xs index (omega arith))

pub member_taken : (a next first b left all : List (List ℕ × Json)) (i : ℕ) (m : List ℕ × Json) (name : List ℕ) (made hole d : List ℕ × Json) (other : Json) →
    slice_get a i ≡ Some m → name ≡ (get_or a i d).0 → Some other ≡ named name b → left ≡ without name b →
    next ≡ set (set a i hole) i made → made ≡ (m.0, merge m.1 other) → Done a first b all i → Done next first left all (i + 1)
member_taken a next first b left all i m name made hole d other is name_is found removed changed made_is done =
    let same_name : name ≡ m.0 = name_is ∙ ap (λ (n : List ℕ × Json). n.0) (element_of a i m d is) in
    let here : named m.0 b ≡ Some other = ap (λ (n : List ℕ). named n b) (sym same_name) ∙ sym found in
    let with_it : made ≡ (m.0, merged_with m.1 (named m.0 b)) = rw here made_is in
    let left_is : left ≡ without m.0 b = removed ∙ ap (λ (n : List ℕ). without n b) same_name in
    member_done a next first b left all i m made is (changed ∙ set-set a i hole made) with_it left_is done

pub member_alone : (a first b left all : List (List ℕ × Json)) (i : ℕ) (m d : List ℕ × Json) (name : List ℕ) →
    i < length a → name ≡ (get_or a i d).0 → None ≡ named name b → left ≡ without name b → Done a first b all i → Done a first left all (i + 1)
member_alone a first b left all i m d name short name_is absent removed done =
    let here : slice_get a i ≡ Some (get_or a i d) = read a i (get_or a i d) short (sym (get_or_default a i (get_or a i d) d short)) in
    let none : named (get_or a i d).0 b ≡ None = ap (λ (n : List ℕ). named n b) (sym name_is) ∙ sym absent in
    member_done a a first b left all i (get_or a i d) (get_or a i d) here (sym (set-get_or a i d)) (rw none refl) (removed ∙ ap (λ (n : List ℕ). without n b) name_is) done

-- at the end, with the members that are left
pub all_merged : (a first b all : List (List ℕ × Json)) (i : ℕ) → length a ≤ i → Done a first b all i → a ++ b ≡ all
all_merged a first b all i far done =
    let whole : take i a ≡ a = take_all i a far in
    let none : drop i first ≡ [] = drop_all i first (omega (arith, done.long)) in
    rw (whole, none) at done.merged

pub named_placed : (f : Json → Json) (name : List ℕ) (ms next left : List (List ℕ × Json)) (index : ℕ) (m hole : List ℕ × Json) (part : Json) →
    IsFirstNamed name ms index → slice_get ms index ≡ Some m → left ≡ set ms index hole → part ≡ f m.1 → next ≡ set left index (m.0, part) → next ≡ named_changed f name ms
named_placed f name ms next left index m hole part one here taken made changed =
    let h = one.here in
    let same : one.member ≡ m = cc in
    changed ∙ ap (λ (ns : List (List ℕ × Json)). set ns index (m.0, part)) taken ∙ set-set ms index hole (m.0, part) ∙ ap (λ (v : Json). set ms index (m.0, v)) made
    ∙ ap (λ (n : List ℕ × Json). set ms index (n.0, f n.1)) (sym same) ∙ sym (first_changed f name ms index one)

pub element_placed : (f : Json → Json) (xs next left : List Json) (index : ℕ) (x part hole : Json) →
    slice_get xs index ≡ Some x → left ≡ set xs index hole → part ≡ f x → next ≡ set left index part → next ≡ element_changed f index xs
element_placed f xs next left index x part hole here taken made changed =
    changed ∙ ap (λ (ys : List Json). set ys index part) taken ∙ set-set xs index hole part ∙ ap (λ (v : Json). set xs index v) made ∙ sym (one_changed f xs index x here)

pub first_within : (name : List ℕ) (ms : List (List ℕ × Json)) (index : ℕ) → IsFirstNamed name ms index → index < length ms
first_within name ms index one = within ms index one.member one.here

no_entities : (v : Json) (used_by : List (List Place)) → with_entities v used_by [] ≡ v
no_entities v [] = refl
no_entities v (places ∷ used_by) = refl

no_users : (v : Json) (es : List Json) → with_entities v [] es ≡ v
no_users v [] = refl
no_users v (e ∷ es) = refl

pub without_entities : (v : Json) (used_by : List (List Place)) → with_entities v used_by [] ≡ v
without_entities = no_entities

pub all_placed : (v whole : Json) (used_by : List (List Place)) (es : List Json) (i : ℕ) → min (length used_by) (length es) ≤ i → with_entities v (drop i used_by) (drop i es) ≡ whole → v ≡ whole
all_placed v whole used_by es i far kept = by_shorter (cases_lt (length used_by) (length es))
  where
    by_shorter : (length used_by < length es) ⊎ (length es ≤ length used_by) → v ≡ whole
    by_shorter (inl less) = let none : drop i used_by ≡ [] = drop_all i used_by (omega arith) in sym (no_users v (drop i es)) ∙ ap (λ us. with_entities v us (drop i es)) (sym none) ∙ kept
    by_shorter (inr more) = let none : drop i es ≡ [] = drop_all i es (omega arith) in sym (no_entities v (drop i used_by)) ∙ ap (λ xs. with_entities v (drop i used_by) xs) (sym none) ∙ kept
