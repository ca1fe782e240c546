-- The number of a name is that of its fragment.
use Rattle.std.proofs.Common.{◌≡◌, ℕ, zero, suc, ◌+◌, ◌<◌, ◌≤◌, Bool, true, false, List, [], ◌∷◌, ◌++◌, length, get_or, take, Option, Some, None, refl, sym, ap, subst, ◌∙◌, ◌⊎◌, inl, inr, arith}
use Rattle.std.specs.Prelude.{cond, is_some}
use Rattle.std.specs.List.{find, position_from}
use Rattle.std.specs.Str.{bytes_eq}
use Rattle.std.specs.Ordering.{nat_cmp, is_eq}
use Rattle.std.specs.Cmp.Lexicographic.{slice_cmp}
use Rattle.std.specs.BTreeMap.{BTreeMap, get, Updates}
use Rattle.std.proofs.lemmas.Slice.Eq.{bytes_eq-Decides}
use Rattle.std.proofs.lemmas.Map.Text.{is_eq-slice_cmp}
use Rattle.std.proofs.lemmas.List.{take_more}
use Rattle.gql_terms.specs.declared.documents.Fragment.{Fragment}
use Rattle.gql_spreads.specs.Spreads.{is_named, fragment_named}
use Rattle.gql_spreads.specs.Numbers.{number_in, number_of, AreNumbers}
use Rattle.gql_spreads.proofs.Lists.{position_at, position_none, found_passes, position_more, or_else}

pub some_is : {A : Type 0} {a b : A} → Some a ≡ Some b → a ≡ b
some_is e = cc

pub some_none : {A : Type 0} {a : A} → ◌≡◌ {A = Option A} (Some a) None → ⊥
some_none e = cc

pub same_bytes : (a b : List ℕ) → bytes_eq a b ≡ true → a ≡ b
same_bytes a b e = (bytes_eq-Decides a b).0 e

pub bytes_same : (a b : List ℕ) → a ≡ b → bytes_eq a b ≡ true
bytes_same a b e = (bytes_eq-Decides a b).1 e

pub numbered : (fragments : List Fragment) (name : List ℕ) (i : ℕ) (d : Fragment) → number_of fragments name ≡ Some i → (i < length fragments) × (fragment_named fragments name ≡ Some (get_or fragments i d))
numbered fragments name i d e =
    let r = position_at (is_named name) fragments 0 i d e in
    let at : i ≡ r.0 = (let z : i ≡ 0 + r.0 = r.1 in omega arith) in
    (subst (λ (k : ℕ). k < length fragments) (sym at) r.2, r.3 ∙ ap (λ (k : ℕ). Some (get_or fragments k d)) (sym at))

pub number_within : (fragments : List Fragment) (name : List ℕ) (i : ℕ) → number_of fragments name ≡ Some i → i < length fragments
number_within [] name i e = absurd (some_none (sym e))
number_within (f ∷ fs) name i e = (numbered (f ∷ fs) name i f e).0

pub unnumbered : (fragments : List Fragment) (name : List ℕ) → number_of fragments name ≡ None → fragment_named fragments name ≡ None
unnumbered fragments name e = position_none (is_named name) fragments 0 e

pub found_number : (fragments : List Fragment) (name : List ℕ) (f : Fragment) → fragment_named fragments name ≡ Some f → (i : ℕ) × (number_of fragments name ≡ Some i)
found_number fragments name f e = go (number_of fragments name) refl
  where
    go : (o : Option ℕ) → number_of fragments name ≡ o → (i : ℕ) × (number_of fragments name ≡ Some i)
    go None is = absurd (some_none (sym e ∙ unnumbered fragments name is))
    go (Some i) is = (i, is)

-- two names of one number
pub one_name : (fragments : List Fragment) (a b : List ℕ) (i : ℕ) → number_of fragments a ≡ Some i → number_of fragments b ≡ Some i → a ≡ b
one_name [] a b i p q = absurd (some_none (sym p))
one_name (f ∷ fs) a b i p q =
    let x = numbered (f ∷ fs) a i f p in
    let y = numbered (f ∷ fs) b i f q in
    let na : bytes_eq (get_or (f ∷ fs) i f).name a ≡ true = found_passes (is_named a) (f ∷ fs) (get_or (f ∷ fs) i f) x.1 in
    let nb : bytes_eq (get_or (f ∷ fs) i f).name b ≡ true = found_passes (is_named b) (f ∷ fs) (get_or (f ∷ fs) i f) y.1 in
    sym (same_bytes (get_or (f ∷ fs) i f).name a na) ∙ same_bytes (get_or (f ∷ fs) i f).name b nb

-- ---- the loop that numbers them

pub length_taken : (fragments : List Fragment) (i : ℕ) → i < length fragments → length (take i fragments) ≡ i
length_taken [] i h = absurd (omega arith)
length_taken (f ∷ fs) zero h = refl
length_taken (f ∷ fs) (suc i) h = let k = length_taken fs i (omega arith) in ap (λ (n : ℕ). suc n) k

pub number_more : (fragments : List Fragment) (i : ℕ) (f : Fragment) (name : List ℕ) → i < length fragments → f ≡ get_or fragments i f
    → number_of (take (i + 1) fragments) name ≡ or_else (number_of (take i fragments) name) (cond (bytes_eq f.name name) (Some i) None)
number_more fragments i f name within is =
    ap (λ (xs : List Fragment). number_of xs name) (take_more fragments i f within ∙ ap (λ (x : Fragment). take i fragments ++ (x ∷ [])) (sym is))
    ∙ position_more (is_named name) (take i fragments) f 0
    ∙ ap (λ (n : ℕ). or_else (number_of (take i fragments) name) (cond (bytes_eq f.name name) (Some n) None)) (let e : length (take i fragments) ≡ i = length_taken fragments i within in omega arith)

-- a name that was there
pub number_kept : (fragments : List Fragment) (i : ℕ) (f : Fragment) (numbers : BTreeMap (List ℕ) ℕ) (j : ℕ) → i < length fragments → f ≡ get_or fragments i f → AreNumbers (take i fragments) numbers
    → number_in numbers f.name ≡ Some j → AreNumbers (take (i + 1) fragments) numbers
number_kept fragments i f numbers j within is are there name = are name ∙ go (number_of (take i fragments) name) refl ∙ sym (number_more fragments i f name within is)
  where
    new : (b : Bool) → bytes_eq f.name name ≡ b → number_of (take i fragments) name ≡ None → None ≡ cond b (Some i) None
    new true e none = absurd (some_none (sym there ∙ ap (number_in numbers) (same_bytes f.name name e) ∙ are name ∙ none))
    new false e none = refl

    go : (o : Option ℕ) → number_of (take i fragments) name ≡ o → number_of (take i fragments) name ≡ or_else (number_of (take i fragments) name) (cond (bytes_eq f.name name) (Some i) None)
    go None e = e ∙ new (bytes_eq f.name name) refl e ∙ ap (λ (o : Option ℕ). or_else o (cond (bytes_eq f.name name) (Some i) None)) (sym e)
    go (Some k) e = e ∙ ap (λ (o : Option ℕ). or_else o (cond (bytes_eq f.name name) (Some i) None)) (sym e)

-- a new name
pub number_added : (fragments : List Fragment) (i : ℕ) (f : Fragment) (old new : BTreeMap (List ℕ) ℕ) → i < length fragments → f ≡ get_or fragments i f → AreNumbers (take i fragments) old
    → number_in old f.name ≡ None → Updates (λ a b. slice_cmp nat_cmp a b) old new f.name (Some i) → AreNumbers (take (i + 1) fragments) new
number_added fragments i f old new within is are none updates name =
    updates.0 name
    ∙ ap (λ (b : Bool). cond b (Some i) (number_in old name)) (is_eq-slice_cmp f.name name)
    ∙ ap (λ (o : Option ℕ). cond (bytes_eq f.name name) (Some i) o) (are name)
    ∙ go (bytes_eq f.name name) refl
    ∙ sym (number_more fragments i f name within is)
  where
    go : (b : Bool) → bytes_eq f.name name ≡ b → cond b (Some i) (number_of (take i fragments) name) ≡ or_else (number_of (take i fragments) name) (cond b (Some i) None)
    go true e = ap (λ (o : Option ℕ). or_else o (Some i)) (sym none ∙ ap (number_in old) (same_bytes f.name name e) ∙ are name)
    go false e = last (number_of (take i fragments) name)
      where
        last : (o : Option ℕ) → o ≡ or_else o None
        last None = refl
        last (Some k) = refl

-- ---- whether a name is there

pub absent : (o : Option ℕ) (r : Bool) → r ≡ is_some o → r ≡ false → o ≡ None
absent None r e f = refl
absent (Some x) r e f = absurd (differ (sym e ∙ f))
  where
    differ : true ≡ false → ⊥
    differ e = cc

pub present : (o : Option ℕ) (r : Bool) → r ≡ is_some o → r ≡ true → (x : ℕ) × (o ≡ Some x)
present None r e f = absurd (differ (sym e ∙ f))
  where
    differ : false ≡ true → ⊥
    differ e = cc
present (Some x) r e f = (x, refl)
