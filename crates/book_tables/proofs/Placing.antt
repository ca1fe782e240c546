-- What the indexes say of pieces, each at its position, and how they keep on saying it.
use Rattle.std.proofs.Common.{◌≡◌, ◌⊎◌, inl, inr, ℕ, ◌==◌, Bool, true, false, List, Option, Some, None, refl, ap, sym, ◌∙◌, subst, arith}
use Rattle.std.proofs.lemmas.Bool.Decides.{nat_tests}
use Rattle.cache_terms.specs.declared.keys.Key.{Key}
use Rattle.cache_terms.specs.declared.keys.Target.{Target}
use Rattle.cache_terms.specs.Keys.{Covers}
use Rattle.cache_model.specs.Journal.{Kept}
use Rattle.book_index.specs.declared.key_index.KeyIndex.{KeyIndex}
use Rattle.book_index.specs.declared.tag_index.TagIndex.{TagIndex}
use Rattle.book_index.specs.Positions.{position_at, SetsKey, HasSame}
use Rattle.book_index.specs.Under.{is_under, SetsUnder, HasSameUnder}
use Rattle.book_tables.specs.Pieces.{Pieces, IsFor, Keyed, IsCovered, Targeted, Replaced}
use Rattle.book_tables.proofs.Deciding.{Either, pair_or_not, covers_or_not}

-- of a key and scope there is one piece, and one stands at a position
pub record AreOne (H : Pieces) : Type 0 where
  pub position : (q r : ℕ) (k m : Kept) → H q k → H r m → k.key ≡ m.key → k.scope ≡ m.scope → q ≡ r
  pub piece : (q : ℕ) (k m : Kept) → H q k → H q m → k ≡ m

-- PIECES THAT ARE THE SAME

for_same : (H K : Pieces) (key : Key) (scope : Option (List ℕ)) (o : Option ℕ) → ((q : ℕ) (k : Kept) → H q k → K q k) → ((q : ℕ) (k : Kept) → K q k → H q k) → IsFor H key scope o → IsFor K key scope o
for_same H K key scope None forth back none = λ q k h. none q k (back q k h)
for_same H K key scope (Some q) forth back there = (there.0, forth q (there.0) there.1, there.2, there.3)

pub keyed_same : (keys : KeyIndex) (H K : Pieces) → ((q : ℕ) (k : Kept) → H q k → K q k) → ((q : ℕ) (k : Kept) → K q k → H q k) → Keyed keys H → Keyed keys K
keyed_same keys H K forth back keyed key scope = for_same H K key scope (position_at keys key scope) forth back (keyed key scope)

pub targeted_same : (holders : TagIndex) (H K : Pieces) → ((q : ℕ) (k : Kept) → H q k → K q k) → ((q : ℕ) (k : Kept) → K q k → H q k) → Targeted holders H → Targeted holders K
targeted_same holders H K forth back t = record {
  forth = λ target q is. let r = t.forth target q is in (r.0, forth q (r.0) (r.1), r.2);
  back = λ target q k h c. t.back target q k (back q k h) c;
}

-- INDEXES THAT ARE THE SAME

pub keyed_as : (old new : KeyIndex) (H : Pieces) → HasSame old new → Keyed old H → Keyed new H
keyed_as old new H same keyed key scope = subst (λ (o : Option ℕ). IsFor H key scope o) (sym (same key scope)) (keyed key scope)

pub targeted_as : (old new : TagIndex) (H : Pieces) → HasSameUnder old new → Targeted old H → Targeted new H
targeted_as old new H same t = record {
  forth = λ target q is. t.forth target q (sym (same target q) ∙ is);
  back = λ target q k h c. same target q ∙ t.back target q k h c;
}

-- A PIECE LESS

abbrev pub Without : Pieces → ℕ → Pieces
Without H q = λ r m. H r m × (r ≡ q → ⊥)

for_without : (H : Pieces) (q : ℕ) (k : Kept) → AreOne H → H q k → (key : Key) (scope : Option (List ℕ)) (o : Option ℕ) → (((key ≡ k.key) × (scope ≡ k.scope)) → ⊥) → IsFor H key scope o → IsFor (Without H q) key scope o
for_without H q k one there key scope None apart none = λ r m h. none r m h.0
for_without H q k one there key scope (Some r) apart (m, h, is_key, is_scope) = (m, (h, λ same. other (one.piece q k m there (subst (λ (n : ℕ). H n m) same h))), is_key, is_scope)
  where
    other : k ≡ m → ⊥
    other same = apart (sym is_key ∙ ap (λ (x : Kept). x.key) (sym same), sym is_scope ∙ ap (λ (x : Kept). x.scope) (sym same))

pub keyed_without : (old new : KeyIndex) (H : Pieces) (q : ℕ) (k : Kept) → AreOne H → Keyed old H → H q k → SetsKey old new k.key k.scope None → Keyed new (Without H q)
keyed_without old new H q k one keyed there sets key scope = from (pair_or_not key k.key scope k.scope)
  where
    from : Either ((key ≡ k.key) × (scope ≡ k.scope)) → IsFor (Without H q) key scope (position_at new key scope)
    from (inl same) =
        let none : position_at new key scope ≡ None = ap (λ (x : Key). position_at new x scope) same.0 ∙ ap (λ (x : Option (List ℕ)). position_at new k.key x) same.1 ∙ sets.this in
        subst (λ (o : Option ℕ). IsFor (Without H q) key scope o) (sym none) (λ r m h is_key is_scope. h.1 (one.position r q m k h.0 there (is_key ∙ same.0) (is_scope ∙ same.1)))
    from (inr apart) = subst (λ (o : Option ℕ). IsFor (Without H q) key scope o) (sym (sets.others key scope apart)) (for_without H q k one there key scope (position_at old key scope) apart (keyed key scope))

pub number_or_not : (r q : ℕ) → Either (r ≡ q)
number_or_not r q = from (r == q) refl
  where
    from : (b : Bool) → (r == q) ≡ b → Either (r ≡ q)
    from true is = inl (grind (arith, nat_tests))
    from false is = inr (λ same. grind (arith, nat_tests))

pub targeted_without : (old new : TagIndex) (H : Pieces) (q : ℕ) (k : Kept) → ((m : Kept) → H q m → m ≡ k) → Targeted old H → SetsUnder old new k.key k.tags q false → Targeted new (Without H q)
targeted_without old new H q k one t sets = record {
  forth = λ target r is. forth target r is (number_or_not r q);
  back = λ target r m h c. sets.others target r (λ p. h.1 p.1) ∙ t.back target r m h.0 c;
}
  where
    gone : (target : Target) → is_under new target q ≡ true → ⊥
    gone target is =
        let bare : Covers target k.key k.tags → ⊥ = λ c. cc (sym is ∙ sets.covering target c) in
        let was = t.forth target q (sym (sets.others target q (λ p. bare p.0)) ∙ is) in
        bare (subst (λ (m : Kept). Covers target m.key m.tags) (one (was.0) (was.1)) (was.2))

    forth : (target : Target) (r : ℕ) → is_under new target r ≡ true → Either (r ≡ q) → IsCovered (Without H q) target r
    forth target r is (inl same) = absurd (gone target (subst (λ (n : ℕ). is_under new target n ≡ true) same is))
    forth target r is (inr other) = let was = t.forth target r (sym (sets.others target r (λ p. other p.1)) ∙ is) in (was.0, (was.1, other), was.2)

-- A PIECE MORE

-- those, and this one
abbrev pub With : Pieces → ℕ → Kept → Pieces
With H q k = λ r m. H r m ⊎ ((r ≡ q) × (m ≡ k))

for_replaced : (H : Pieces) (q : ℕ) (k : Kept) (key : Key) (scope : Option (List ℕ)) (o : Option ℕ) → (((key ≡ k.key) × (scope ≡ k.scope)) → ⊥) → IsFor H key scope o → IsFor (Replaced H q k) key scope o
for_replaced H q k key scope None apart none = λ r m h is_key is_scope. elim h [
  | inl was ↦ none r m was.0 is_key is_scope
  | inr new ↦ apart (sym is_key ∙ ap (λ (x : Kept). x.key) new.1, sym is_scope ∙ ap (λ (x : Kept). x.scope) new.1)
]
for_replaced H q k key scope (Some r) apart (m, h, is_key, is_scope) = (m, inl (h, λ a b. apart (sym is_key ∙ a, sym is_scope ∙ b)), is_key, is_scope)

pub keyed_replaced : (old new : KeyIndex) (H : Pieces) (q : ℕ) (k : Kept) → Keyed old H → SetsKey old new k.key k.scope (Some q) → Keyed new (Replaced H q k)
keyed_replaced old new H q k keyed sets key scope = from (pair_or_not key k.key scope k.scope)
  where
    from : Either ((key ≡ k.key) × (scope ≡ k.scope)) → IsFor (Replaced H q k) key scope (position_at new key scope)
    from (inl same) =
        let at : position_at new key scope ≡ Some q = ap (λ (x : Key). position_at new x scope) same.0 ∙ ap (λ (x : Option (List ℕ)). position_at new k.key x) same.1 ∙ sets.this in
        subst (λ (o : Option ℕ). IsFor (Replaced H q k) key scope o) (sym at) (k, inr (refl, refl), sym same.0, sym same.1)
    from (inr apart) = subst (λ (o : Option ℕ). IsFor (Replaced H q k) key scope o) (sym (sets.others key scope apart)) (for_replaced H q k key scope (position_at old key scope) apart (keyed key scope))

pub targeted_with : (old new : TagIndex) (H : Pieces) (q : ℕ) (k : Kept) → ((m : Kept) → H q m → ⊥) → Targeted old H → SetsUnder old new k.key k.tags q true → Targeted new (With H q k)
targeted_with old new H q k fresh t sets = record {
  forth = λ target r is. forth target r is (number_or_not r q);
  back = back;
}
  where
    new_one : (target : Target) → is_under new target q ≡ true → Either (Covers target k.key k.tags) → IsCovered (With H q k) target q
    new_one target is (inl c) = (k, inr (refl, refl), c)
    new_one target is (inr bare) = let was = t.forth target q (sym (sets.others target q (λ p. bare p.0)) ∙ is) in absurd (fresh (was.0) (was.1))

    forth : (target : Target) (r : ℕ) → is_under new target r ≡ true → Either (r ≡ q) → IsCovered (With H q k) target r
    forth target r is (inl same) = subst (λ (n : ℕ). IsCovered (With H q k) target n) (sym same) (new_one target (subst (λ (n : ℕ). is_under new target n ≡ true) same is) (covers_or_not target k.key k.tags))
    forth target r is (inr other) = let was = t.forth target r (sym (sets.others target r (λ p. other p.1)) ∙ is) in (was.0, inl (was.1), was.2)

    back : (target : Target) (r : ℕ) (m : Kept) → With H q k r m → Covers target m.key m.tags → is_under new target r ≡ true
    back target r m (inl h) c = sets.others target r (λ p. fresh m (subst (λ (n : ℕ). H n m) p.1 h)) ∙ t.back target r m h c
    back target r m (inr new_is) c = ap (is_under new target) new_is.0 ∙ sets.covering target (subst (λ (x : Kept). Covers target x.key x.tags) new_is.1 c)
