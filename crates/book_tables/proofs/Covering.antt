-- How the pieces that a target covers are taken out, one after another.
use Rattle.std.proofs.Common.{◌≡◌, ℕ, ◌+◌, ◌<◌, Bool, true, false, List, [], ◌∷◌, length, get_or, ◌||◌, Option, Some, None, IsSome, refl, ap, sym, ◌∙◌, subst, arith}
use Rattle.std.specs.Prelude.{nat_eq, IsSomeAnd}
use Rattle.std.specs.List.{list_any, IsDistinct}
use Rattle.std.proofs.lemmas.Bool.Decides.{nat_tests}
use Rattle.std.proofs.lemmas.Option.{same_Some}
use Rattle.cache_terms.specs.declared.keys.Target.{Target}
use Rattle.cache_terms.specs.declared.events.Event.{Event}
use Rattle.cache_terms.specs.Keys.{Covers}
use Rattle.cache_model.specs.Journal.{Kept, kept_at, IsHeld, IsHeldUnder, IsCount}
use Rattle.book_index.specs.declared.key_index.KeyIndex.{KeyIndex}
use Rattle.book_index.specs.declared.tag_index.TagIndex.{TagIndex}
use Rattle.book_index.specs.Positions.{SetsKey}
use Rattle.book_index.specs.Under.{under, is_under, SetsUnder}
use Rattle.book_index.proofs.Counting.{listed_count, one_fewer}
use Rattle.book_tables.specs.declared.refs.KeptRef.{KeptRef}
use Rattle.book_tables.specs.Refs.{kept_seen}
use Rattle.book_tables.specs.Pieces.{Keyed, Targeted, Partly, Uncovered}
use Rattle.book_tables.proofs.Keeping.{kept_within, held_same, held_one}
use Rattle.book_tables.proofs.Placing.{AreOne, Without, keyed_same, targeted_same, keyed_without, targeted_without}

partly_one : (J : List Event) (target : Target) (holders : TagIndex) → AreOne (Partly J target holders)
partly_one J target holders = record {
  position = λ q r k m a b key scope. held_one J q r k m a.0 b.0 key scope;
  piece = λ q k m a b. held_same J q k m a.0 b.0;
}

-- what is kept at a position under the target is held, and the target covers it
pub covered_at : (J : List Event) (target : Target) (holders : TagIndex) (q : ℕ) (k : Kept) → Targeted holders (Partly J target holders) → is_under holders target q ≡ true → kept_at J q ≡ Some k → Partly J target holders q k × Covers target k.key k.tags
covered_at J target holders q k targeted is kept =
    let r = targeted.forth target q is in
    let same : r.0 ≡ k = same_Some (r.0) k (sym r.1.0.kept ∙ kept) in
    (subst (λ (m : Kept). Partly J target holders q m) same (r.1), subst (λ (m : Kept). Covers target m.key m.tags) same (r.2))

module _ (J : List Event) (target : Target) (old new : TagIndex) (q : ℕ) (k : Kept) (there : Partly J target old q k) (covers : Covers target k.key k.tags) (sets : SetsUnder old new k.key k.tags q false) where
  rest_forth : (r : ℕ) (m : Kept) → Without (Partly J target old) q r m → Partly J target new r m
  rest_forth r m h = (h.0.0, λ c. sets.others target r (λ p. h.1 p.1) ∙ h.0.1 c)

  rest_back : (r : ℕ) (m : Kept) → Partly J target new r m → Without (Partly J target old) q r m
  rest_back r m h = ((h.0, λ c. sym (sets.others target r (λ p. other p.1)) ∙ h.1 c), other)
    where
      other : r ≡ q → ⊥
      other same =
          let one : m ≡ k = held_same J q m k (subst (λ (n : ℕ). IsHeld J n m) same h.0) there.0 in
          let is : is_under new target q ≡ true = ap (is_under new target) (sym same) ∙ h.1 (subst (λ (x : Kept). Covers target x.key x.tags) (sym one) covers) in
          cc (is, sets.covering target covers)

  pub keyed_rest : (keys rest : KeyIndex) → Keyed keys (Partly J target old) → SetsKey keys rest k.key k.scope None → Keyed rest (Partly J target new)
  keyed_rest keys rest keyed set = keyed_same rest (Without (Partly J target old) q) (Partly J target new) rest_forth rest_back (keyed_without keys rest (Partly J target old) q k (partly_one J target old) keyed there set)

  pub targeted_rest : Targeted old (Partly J target old) → Targeted new (Partly J target new)
  targeted_rest targeted = targeted_same new (Without (Partly J target old) q) (Partly J target new) rest_forth rest_back
      (targeted_without old new (Partly J target old) q k (λ m h. held_same J q m k h.0 there.0) targeted sets)

  pub one_less : Targeted old (Partly J target old) → IsDistinct nat_eq (under old target) → IsDistinct nat_eq (under new target) → is_under old target q ≡ true → length (under new target) + 1 ≡ length (under old target)
  one_less targeted distinct distinct_new is = one_fewer (length J) (under old target) (under new target) q distinct distinct_new bound is (sets.covering target covers) (λ r other. sets.others target r (λ p. other p.1))
    where
      bound : (r : ℕ) → is_under old target r ≡ true → r < length J
      bound r at = let x = targeted.forth target r at in kept_within J r (x.0) x.1.0.kept

-- before one is taken out, all that is held stands there
pub begin_forth : (J : List Event) (target : Target) (holders : TagIndex) → Targeted holders (IsHeld J) → (q : ℕ) (k : Kept) → IsHeld J q k → Partly J target holders q k
begin_forth J target holders targeted q k h = (h, λ c. targeted.back target q k h c)

pub begin_back : (J : List Event) (target : Target) (holders : TagIndex) (q : ℕ) (k : Kept) → Partly J target holders q k → IsHeld J q k
begin_back J target holders q k h = h.0

pub keyed_begin : (J : List Event) (target : Target) (keys : KeyIndex) (holders : TagIndex) → Targeted holders (IsHeld J) → Keyed keys (IsHeld J) → Keyed keys (Partly J target holders)
keyed_begin J target keys holders targeted keyed = keyed_same keys (IsHeld J) (Partly J target holders) (begin_forth J target holders targeted) (begin_back J target holders) keyed

pub targeted_begin : (J : List Event) (target : Target) (holders : TagIndex) → Targeted holders (IsHeld J) → Targeted holders (Partly J target holders)
targeted_begin J target holders targeted = targeted_same holders (IsHeld J) (Partly J target holders) (begin_forth J target holders targeted) (begin_back J target holders) targeted

-- after the last, none of those that it covers stands there
module _ (J : List Event) (target : Target) (holders : TagIndex) (none : under holders target ≡ []) where
  nothing : (q : ℕ) → is_under holders target q ≡ true → ⊥
  nothing q is = cc (sym is ∙ ap (list_any (nat_eq q)) none)

  end_forth : (q : ℕ) (k : Kept) → Partly J target holders q k → Uncovered J target q k
  end_forth q k h = (h.0, λ c. nothing q (h.1 c))

  end_back : (q : ℕ) (k : Kept) → Uncovered J target q k → Partly J target holders q k
  end_back q k h = (h.0, λ c. absurd (h.1 c))

  pub keyed_end : (keys : KeyIndex) → Keyed keys (Partly J target holders) → Keyed keys (Uncovered J target)
  keyed_end keys = keyed_same keys (Partly J target holders) (Uncovered J target) end_forth end_back

  pub targeted_end : Targeted holders (Partly J target holders) → Targeted holders (Uncovered J target)
  targeted_end = targeted_same holders (Partly J target holders) (Uncovered J target) end_forth end_back

-- as many are taken out as the target covers
pub counted : (J : List Event) (target : Target) (holders : TagIndex) → Targeted holders (IsHeld J) → IsDistinct nat_eq (under holders target) → IsCount (IsHeldUnder J target) (length J) (length (under holders target))
counted J target holders targeted distinct = listed_count J target (under holders target) distinct (λ q. (forth q, back q (kept_at J q)))
  where
    forth : (q : ℕ) → is_under holders target q ≡ true → IsHeldUnder J target q
    forth q is =
        let r = targeted.forth target q is in
        subst (λ (o : Option Kept). IsSomeAnd o (λ m. IsHeld J q m × Covers target m.key m.tags)) (sym r.1.kept) (r.1, r.2)

    back : (q : ℕ) (o : Option Kept) → IsSomeAnd o (λ k. IsHeld J q k × Covers target k.key k.tags) → is_under holders target q ≡ true
    back q None h = absurd h
    back q (Some k) h = targeted.back target q k h.0 h.1

pub length_none : (xs : List ℕ) → length xs ≡ 0 → xs ≡ []
length_none [] h = refl
length_none (x ∷ xs) h = absurd (cc h)

pub first_under : (xs : List ℕ) (d : ℕ) → 0 < length xs → list_any (nat_eq (get_or xs 0 d)) xs ≡ true
first_under [] d some = absurd (omega (arith, some))
first_under (x ∷ xs) d some = from (nat_eq x x) (itself x)
  where
    itself : (n : ℕ) → nat_eq n n ≡ true
    itself n = grind (arith, nat_tests)

    from : (b : Bool) → b ≡ true → (b || list_any (nat_eq x) xs) ≡ true
    from true is = refl
    from false is = absurd (cc is)

pub there_is : (o : Option KeptRef) (k : Kept) → kept_seen o ≡ Some k → IsSome o
there_is None k h = absurd (cc h)
there_is (Some r) k h = refl
