-- What one more event does to what a journal keeps, covers and holds.
use Rattle.std.proofs.Common.{◌≡◌, ◌⊎◌, inl, inr, ℕ, ◌+◌, ◌<◌, List, [], ◌∷◌, ◌++◌, length, take, drop, slice_get, Option, Some, None, refl, ap, sym, ◌∙◌, subst, arith, length-append}
use Rattle.std.specs.Prelude.{IsSomeAnd}
use Rattle.std.specs.Option.{option_map, option_and_then}
use Rattle.std.proofs.lemmas.List.{take-append-drop}
use Rattle.std.proofs.lemmas.Option.{same_Some, slice_get_within}
use Rattle.cache_terms.specs.declared.keys.Key.{Key}
use Rattle.cache_terms.specs.declared.tags.Tags.{Tags}
use Rattle.cache_terms.specs.declared.events.Limits.{Limits}
use Rattle.cache_terms.specs.declared.events.Event.{Event}
use Rattle.cache_terms.specs.declared.events.Event.TheVariants.{Lookup, Start, Settle, Invalidate}
use Rattle.cache_terms.specs.declared.events.Outcome.TheVariants as outcome
use Rattle.cache_model.specs.Journal.{start_of, Kept, kept_by, kept_of, kept_at, IsCover, CoveredAt, IsHeld}
use Rattle.cache_model.specs.Legal.{EachFits, Fits}
use Rattle.cache_model.proofs.Growth.{slice_get_push, slice_get_before, slice_get_end}
use Rattle.cache_model.proofs.Tickets.{start_before}

-- what was settled goes on keeping what it keeps
kept_of_grown : (limits : Limits) (J more : List Event) → EachFits limits J → (q : ℕ) (x : Event) → slice_get J q ≡ Some x → kept_of (J ++ more) x ≡ kept_of J x
kept_of_grown limits J more each q (Settle who t (Some got) outcome.Stored) at =
    let fits : Fits limits (take q J) (Settle who t (Some got) outcome.Stored) = (each q (Settle who t (Some got) outcome.Stored) at).fits in
    let here : start_of J t ≡ Some (fits.0) = subst (λ (K : List Event). start_of K t ≡ Some (fits.0)) (take-append-drop q J) (start_before (take q J) (drop q J) 0 t (fits.0) (fits.1.started)) in
    ap (option_map (kept_by got)) (start_before J more 0 t (fits.0) here ∙ sym here)
kept_of_grown limits J more each q (Settle who t None out) at = refl
kept_of_grown limits J more each q (Settle who t (Some got) (outcome.Void p)) at = refl
kept_of_grown limits J more each q (Settle who t (Some got) (outcome.NoRoom a b c)) at = refl
kept_of_grown limits J more each q (Settle who t (Some got) (outcome.Unstorable w)) at = refl
kept_of_grown limits J more each q (Settle who t (Some got) outcome.Failed) at = refl
kept_of_grown limits J more each q (Settle who t (Some got) (outcome.Over a b)) at = refl
kept_of_grown limits J more each q (Settle who t (Some got) outcome.Bypassed) at = refl
kept_of_grown limits J more each q (Settle who t (Some got) outcome.Memory) at = refl
kept_of_grown limits J more each q (Lookup who key id now hit) at = refl
kept_of_grown limits J more each q (Start who t key id now) at = refl
kept_of_grown limits J more each q (Invalidate who target count) at = refl

length_push : (J : List Event) (e : Event) → length (J ++ e ∷ []) ≡ length J + 1
length_push J e = length-append J (e ∷ [])

-- what is kept stands in the journal
pub kept_within : (J : List Event) (q : ℕ) (k : Kept) → kept_at J q ≡ Some k → q < length J
kept_within J q k h = from (slice_get J q) refl h
  where
    from : (o : Option Event) → slice_get J q ≡ o → option_and_then (kept_of J) o ≡ Some k → q < length J
    from None at h' = absurd (cc h')
    from (Some x) at h' = slice_get_within J q x at

-- what was kept is kept
pub kept_before : (limits : Limits) (J : List Event) (e : Event) → EachFits limits J → (q : ℕ) (k : Kept) → kept_at J q ≡ Some k → kept_at (J ++ e ∷ []) q ≡ Some k
kept_before limits J e each q k h = from (slice_get J q) refl h
  where
    from : (o : Option Event) → slice_get J q ≡ o → option_and_then (kept_of J) o ≡ Some k → kept_at (J ++ e ∷ []) q ≡ Some k
    from None at h' = absurd (cc h')
    from (Some x) at h' = ap (option_and_then (kept_of (J ++ e ∷ []))) (slice_get_before J (e ∷ []) x q at) ∙ kept_of_grown limits J (e ∷ []) each q x at ∙ h'

-- what is kept was kept, or the event keeps it
pub kept_push : (limits : Limits) (J : List Event) (e : Event) → EachFits limits J → (q : ℕ) (k : Kept) → kept_at (J ++ e ∷ []) q ≡ Some k → (kept_at J q ≡ Some k) ⊎ ((q ≡ length J) × (kept_of (J ++ e ∷ []) e ≡ Some k))
kept_push limits J e each q k h = from (slice_get (J ++ e ∷ []) q) refl h
  where
    from : (o : Option Event) → slice_get (J ++ e ∷ []) q ≡ o → option_and_then (kept_of (J ++ e ∷ [])) o ≡ Some k → (kept_at J q ≡ Some k) ⊎ ((q ≡ length J) × (kept_of (J ++ e ∷ []) e ≡ Some k))
    from None at h' = absurd (cc h')
    from (Some x) at h' = elim (slice_get_push J x e q at) [
      | inl was ↦ inl (ap (option_and_then (kept_of J)) was.1 ∙ sym (kept_of_grown limits J (e ∷ []) each q x was.1) ∙ h')
      | inr new ↦ inr (new.0, ap (kept_of (J ++ e ∷ [])) new.1 ∙ h')
    ]

-- what the event keeps is kept at the end
pub kept_last : (J : List Event) (e : Event) (k : Kept) → kept_of (J ++ e ∷ []) e ≡ Some k → kept_at (J ++ e ∷ []) (length J) ≡ Some k
kept_last J e k h = ap (option_and_then (kept_of (J ++ e ∷ []))) (slice_get_end J [] e) ∙ h

covered_within : (J : List Event) (key : Key) (tags : Tags) (p : ℕ) → CoveredAt J key tags p → p < length J
covered_within J key tags p h = from (slice_get J p) refl h
  where
    from : (o : Option Event) → slice_get J p ≡ o → IsSomeAnd o (λ e. IsCover e key tags) → p < length J
    from None at h' = absurd h'
    from (Some x) at h' = slice_get_within J p x at

covered_before : (J : List Event) (e : Event) (key : Key) (tags : Tags) (p : ℕ) → CoveredAt J key tags p → CoveredAt (J ++ e ∷ []) key tags p
covered_before J e key tags p h = from (slice_get J p) refl h
  where
    from : (o : Option Event) → slice_get J p ≡ o → IsSomeAnd o (λ x. IsCover x key tags) → CoveredAt (J ++ e ∷ []) key tags p
    from None at h' = absurd h'
    from (Some x) at h' = subst (λ (o : Option Event). IsSomeAnd o (λ y. IsCover y key tags)) (sym (slice_get_before J (e ∷ []) x p at)) h'

covered_push : (J : List Event) (e : Event) (key : Key) (tags : Tags) (p : ℕ) → CoveredAt (J ++ e ∷ []) key tags p → CoveredAt J key tags p ⊎ IsCover e key tags
covered_push J e key tags p h = from (slice_get (J ++ e ∷ []) p) refl h
  where
    from : (o : Option Event) → slice_get (J ++ e ∷ []) p ≡ o → IsSomeAnd o (λ x. IsCover x key tags) → CoveredAt J key tags p ⊎ IsCover e key tags
    from None at h' = absurd h'
    from (Some x) at h' = elim (slice_get_push J x e p at) [
      | inl was ↦ inl (subst (λ (o : Option Event). IsSomeAnd o (λ y. IsCover y key tags)) (sym was.1) h')
      | inr new ↦ inr (subst (λ (y : Event). IsCover y key tags) (sym new.1) h')
    ]

covered_last : (J : List Event) (e : Event) (key : Key) (tags : Tags) → IsCover e key tags → CoveredAt (J ++ e ∷ []) key tags (length J)
covered_last J e key tags h = subst (λ (o : Option Event). IsSomeAnd o (λ y. IsCover y key tags)) (sym (slice_get_end J [] e)) h

-- the event neither keeps anything for the piece's key and scope nor covers it
pub record Spares (J : List Event) (e : Event) (k : Kept) : Type 0 where
  pub apart : (m : Kept) → kept_of (J ++ e ∷ []) e ≡ Some m → m.key ≡ k.key → m.scope ≡ k.scope → ⊥
  pub uncovered : IsCover e k.key k.tags → ⊥

-- what is held and spared is held
pub held_push : (limits : Limits) (J : List Event) (e : Event) → EachFits limits J → (q : ℕ) (k : Kept) → IsHeld J q k → Spares J e k → IsHeld (J ++ e ∷ []) q k
held_push limits J e each q k h s = record {
  kept = kept_before limits J e each q k h.kept;
  last = λ p m over at key scope. elim (kept_push limits J e each p m at) [
    | inl was ↦ h.last p m over was key scope
    | inr new ↦ s.apart m new.1 key scope
  ];
  uncovered = λ p c. elim (covered_push J e k.key k.tags p c.1) [
    | inl was ↦ h.uncovered p (c.0, was)
    | inr new ↦ s.uncovered new
  ];
}

-- what the event keeps is held
pub held_last : (J : List Event) (e : Event) (k : Kept) → kept_of (J ++ e ∷ []) e ≡ Some k → IsHeld (J ++ e ∷ []) (length J) k
held_last J e k h = record {
  kept = kept_last J e k h;
  last = λ p m over at key scope. absurd (omega (arith, over, kept_within (J ++ e ∷ []) p m at, length_push J e));
  uncovered = λ p c. absurd (past p c.0 (covered_within (J ++ e ∷ []) k.key k.tags p c.1));
}
  where
    past : (p : ℕ) → length J < p → p < length (J ++ e ∷ []) → ⊥
    past p over below = omega (arith, over, below, length_push J e)

-- what is held was held and is spared, or the event keeps it
pub held_back : (limits : Limits) (J : List Event) (e : Event) → EachFits limits J → (q : ℕ) (k : Kept) → IsHeld (J ++ e ∷ []) q k → (IsHeld J q k × Spares J e k) ⊎ ((q ≡ length J) × (kept_of (J ++ e ∷ []) e ≡ Some k))
held_back limits J e each q k h = elim (kept_push limits J e each q k h.kept) [
  | inl was ↦ inl (held was, spared was)
  | inr new ↦ inr new
]
  where
    held : kept_at J q ≡ Some k → IsHeld J q k
    held was = record {
      kept = was;
      last = λ p m over at key scope. h.last p m over (kept_before limits J e each p m at) key scope;
      uncovered = λ p c. h.uncovered p (c.0, covered_before J e k.key k.tags p c.1);
    }

    spared : kept_at J q ≡ Some k → Spares J e k
    spared was = record {
      apart = λ m keeps key scope. h.last (length J) m (kept_within J q k was) (kept_last J e m keeps) key scope;
      uncovered = λ c. h.uncovered (length J) (kept_within J q k was, covered_last J e k.key k.tags c);
    }

-- one piece is held at a position
pub held_same : (J : List Event) (q : ℕ) (k m : Kept) → IsHeld J q k → IsHeld J q m → k ≡ m
held_same J q k m x y = same_Some k m (sym x.kept ∙ y.kept)

compared : (q r : ℕ) → (q < r) ⊎ ((r < q) ⊎ (q ≡ r))
compared q r = grind arith

-- and one for a key and scope
pub held_one : (J : List Event) (q r : ℕ) (k m : Kept) → IsHeld J q k → IsHeld J r m → k.key ≡ m.key → k.scope ≡ m.scope → q ≡ r
held_one J q r k m x y key scope = elim (compared q r) [
  | inl less ↦ absurd (x.last r m less y.kept (sym key) (sym scope))
  | inr rest ↦ elim rest [
    | inl more ↦ absurd (y.last q k more x.kept key scope)
    | inr same ↦ same
  ]
]
