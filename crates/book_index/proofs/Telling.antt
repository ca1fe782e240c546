-- Stamps that tell of a journal go on telling of it, and give its last covers.
use Rattle.std.proofs.Common.{◌≡◌, ◌⊎◌, inl, inr, ℕ, ◌+◌, ◌<◌, ◌≤◌, Bool, true, false, List, [], ◌∷◌, ◌++◌, length, slice_get, cond, Option, Some, None, refl, sym, ap, ◌∙◌, subst, arith}
use Rattle.std.specs.Prelude.{nat_lt, if◌then◌else◌, IsSomeAnd}
use Rattle.std.proofs.lemmas.Bool.Decides.{nat_tests}
use Rattle.std.proofs.lemmas.Cmp.{tied_itself}
use Rattle.std.proofs.lemmas.Option.{slice_get_within}
use Rattle.std.specs.FinMap as map
use Rattle.std.specs.Ordering.{eq_by_cmp, is_eq}
use Rattle.std.specs.declared.cmp.Ordering.TheVariants.{Equal}
use Rattle.cache_terms.specs.Keys.{Covers}
use Rattle.cache_terms.specs.declared.keys.Key.{Key}
use Rattle.cache_terms.specs.declared.keys.Target.{Target}
use Rattle.cache_terms.specs.declared.tags.Tags.{Tags}
use Rattle.cache_terms.specs.declared.events.Event.{Event}
use Rattle.cache_terms.specs.declared.events.Event.TheVariants.{Lookup, Start, Settle, Invalidate}
use Rattle.cache_model.specs.Journal.{IsLast, IsCover, CoversAfter, IsLastCover}
use Rattle.cache_model.proofs.Growth.{slice_get_push, slice_get_before, slice_get_end}
use Rattle.book_index.specs.Targets.{target_cmp}
use Rattle.book_index.specs.Stamps.{Positions, above, IsPruned, IsNotedFor}
use Rattle.book_index.specs.Telling.{IsVoidOf, IsVoidedAt, StampsTell, IsNoVoid}
use Rattle.book_index.proofs.Order.{targets_total, targets_exact}
use Rattle.book_index.proofs.Rows.{equal}
use Rattle.book_index.proofs.Latest.{last_same}

-- where an event stands, it stands within
voided_within : (J : List Event) (horizon : ℕ) (target : Target) (p : ℕ) → IsVoidedAt J horizon target p → p < length J
voided_within J horizon target p h = by (slice_get J p) refl h.1
  where
    by : (o : Option Event) → slice_get J p ≡ o → IsSomeAnd o (IsVoidOf target) → p < length J
    by None at v = absurd v
    by (Some e) at v = slice_get_within J p e at

-- no position is above the horizon yet
pub tell_new : (J : List Event) (horizon : ℕ) → length J ≤ horizon + 1 → StampsTell J horizon map.empty
tell_new J horizon short target = subst (λ (o : Option ℕ). IsLast (IsVoidedAt J horizon target) o) (sym (map.get-empty target_cmp target)) (λ p h. absurd (omega (arith, short, h.0, voided_within J horizon target p h)))

voided_before : (J : List Event) (e : Event) (horizon : ℕ) (target : Target) (p : ℕ) → IsVoidedAt J horizon target p → IsVoidedAt (J ++ e ∷ []) horizon target p
voided_before J e horizon target p h = (h.0, by (slice_get J p) refl h.1)
  where
    by : (o : Option Event) → slice_get J p ≡ o → IsSomeAnd o (IsVoidOf target) → IsSomeAnd (slice_get (J ++ e ∷ []) p) (IsVoidOf target)
    by None at v = absurd v
    by (Some x) at v = subst (λ (o : Option Event). IsSomeAnd o (IsVoidOf target)) (sym (slice_get_before J (e ∷ []) x p at)) v

voided_push : (J : List Event) (e : Event) (horizon : ℕ) (target : Target) (p : ℕ) → IsVoidedAt (J ++ e ∷ []) horizon target p → IsVoidedAt J horizon target p ⊎ ((p ≡ length J) × IsVoidOf target e)
voided_push J e horizon target p h = by (slice_get (J ++ e ∷ []) p) refl h.1
  where
    by : (o : Option Event) → slice_get (J ++ e ∷ []) p ≡ o → IsSomeAnd o (IsVoidOf target) → IsVoidedAt J horizon target p ⊎ ((p ≡ length J) × IsVoidOf target e)
    by None at v = absurd v
    by (Some x) at v = elim (slice_get_push J x e p at) [
      | inl was ↦ inl (h.0, subst (λ (o : Option Event). IsSomeAnd o (IsVoidOf target)) (sym was.1) v)
      | inr new ↦ inr (new.0, subst (λ (y : Event). IsVoidOf target y) (sym new.1) v)
    ]

-- an event that is no invalidation changes nothing
pub tell_quiet : (J : List Event) (e : Event) (horizon : ℕ) (stamps : Positions) → IsNoVoid e → StampsTell J horizon stamps → StampsTell (J ++ e ∷ []) horizon stamps
tell_quiet J e horizon stamps quiet tells target = last_same _ _ (voided_before J e horizon target) (λ p h. elim (voided_push J e horizon target p h) [ inl was ↦ was | inr new ↦ absurd (quiet target new.1) ]) (map.get stamps target) (tells target)

-- an invalidation above the horizon is noted
pub tell_void : (J : List Event) (who : ℕ) (named : Target) (count horizon : ℕ) (stamps : Positions) → horizon < length J → StampsTell J horizon stamps
    → StampsTell (J ++ Invalidate who named count ∷ []) horizon (map.insert stamps named (length J))
tell_void J who named count horizon stamps above_it tells target = subst (λ (o : Option ℕ). IsLast (IsVoidedAt (J ++ e ∷ []) horizon target) o) (sym (map.get-insert targets_total stamps named (length J) target)) (by (eq_by_cmp target_cmp target named) refl)
  where
    e : Event
    e = Invalidate who named count

    by : (b : Bool) → eq_by_cmp target_cmp target named ≡ b → IsLast (IsVoidedAt (J ++ e ∷ []) horizon target) (cond b (Some (length J)) (map.get stamps target))
    by true tied =
        let same : target ≡ named = targets_exact target named (equal (target_cmp target named) tied) in
        ((above_it, subst (λ (o : Option Event). IsSomeAnd o (IsVoidOf target)) (sym (slice_get_end J [] e)) (sym same)), λ p lt h. elim (voided_push J e horizon target p h) [ inl was ↦ absurd (omega (arith, lt, voided_within J horizon target p was)) | inr new ↦ absurd (omega (arith, lt, new.0)) ])
    by false apart = last_same _ _ (voided_before J e horizon target) (λ p h. elim (voided_push J e horizon target p h) [ inl was ↦ was | inr new ↦ absurd (cc (sym apart ∙ ap is_eq (ap (target_cmp target) new.1 ∙ tied target))) ]) (map.get stamps target) (tells target)
      where
        tied : (t : Target) → target_cmp t t ≡ Equal
        tied t = tied_itself targets_total t

-- pruned to a later horizon
pub tell_pruned : (J : List Event) (horizon later : ℕ) (old new : Positions) → horizon ≤ later → IsPruned later old new → StampsTell J horizon old → StampsTell J later new
tell_pruned J horizon later old new le pruned tells target = subst (λ (o : Option ℕ). IsLast (IsVoidedAt J later target) o) (sym (pruned target)) (by (map.get old target) (tells target))
  where
    narrow : (p : ℕ) → IsVoidedAt J later target p → IsVoidedAt J horizon target p
    narrow p h = (omega (arith, le, h.0), h.1)

    kept : (q : ℕ) → IsLast (IsVoidedAt J horizon target) (Some q) → (b : Bool) → nat_lt later q ≡ b → IsLast (IsVoidedAt J later target) (if b then Some q else None)
    kept q last true is =
        let over : later < q = grind (arith, nat_tests) in
        ((over, last.0.1), λ p lt h. last.1 p lt (narrow p h))
    kept q last false is =
        let under : q ≤ later = grind (arith, nat_tests) in
        λ p h. last.1 p (omega (arith, under, h.0)) (narrow p h)

    by : (o : Option ℕ) → IsLast (IsVoidedAt J horizon target) o → IsLast (IsVoidedAt J later target) (above later o)
    by None last = λ p h. last p (narrow p h)
    by (Some q) last = kept q last (nat_lt later q) refl

-- what is invalidated has a stamp at least as late
stamped_since : (J : List Event) (horizon : ℕ) (stamps : Positions) → StampsTell J horizon stamps → (target : Target) (p : ℕ) → IsVoidedAt J horizon target p → (q : ℕ) × (map.get stamps target ≡ Some q) × (p ≤ q)
stamped_since J horizon stamps tells target p h = by (map.get stamps target) refl (tells target)
  where
    split : (p q : ℕ) → (q < p) ⊎ (p ≤ q)
    split p q = grind arith

    by : (o : Option ℕ) → map.get stamps target ≡ o → IsLast (IsVoidedAt J horizon target) o → (q : ℕ) × (map.get stamps target ≡ Some q) × (p ≤ q)
    by None at last = absurd (last p h)
    by (Some q) at last = elim (split p q) [ inl lt ↦ absurd (last.1 p lt h) | inr le ↦ (q, at, le) ]

-- a cover is an invalidation of a target that covers
cover_target : (e : Event) (key : Key) (tags : Tags) → IsCover e key tags → (target : Target) × IsVoidOf target e × Covers target key tags
cover_target (Invalidate who target count) key tags h = (target, refl, h)
cover_target (Lookup who k id now hit) key tags h = absurd h
cover_target (Start who t k id now) key tags h = absurd h
cover_target (Settle who t got out) key tags h = absurd h

void_covers : (e : Event) (target : Target) (key : Key) (tags : Tags) → IsVoidOf target e → Covers target key tags → IsCover e key tags
void_covers (Invalidate who named count) target key tags same h = subst (λ (t : Target). Covers t key tags) (sym same) h
void_covers (Lookup who k id now hit) target key tags same h = absurd same
void_covers (Start who t k id now) target key tags same h = absurd same
void_covers (Settle who t got out) target key tags same h = absurd same

module _ (J : List Event) (horizon : ℕ) (stamps : Positions) (tells : StampsTell J horizon stamps) (i : ℕ) (le : horizon ≤ i) (key : Key) (tags : Tags) where
  -- a cover after i has a stamp at least as late
  cover_noted : (p : ℕ) → CoversAfter J i key tags p → (q : ℕ) × IsNotedFor stamps key tags q × (p ≤ q)
  cover_noted p h = by (slice_get J p) refl h.1
    where
      by : (o : Option Event) → slice_get J p ≡ o → IsSomeAnd o (λ e. IsCover e key tags) → (q : ℕ) × IsNotedFor stamps key tags q × (p ≤ q)
      by None at v = absurd v
      by (Some e) at v =
          let t = cover_target e key tags v in
          let s = stamped_since J horizon stamps tells t.0 p (omega (arith, le, h.0), subst (λ (o : Option Event). IsSomeAnd o (IsVoidOf t.0)) (sym at) t.1) in
          (s.0, (t.0, s.1, t.2), s.2)

  -- a stamp after i is a cover
  noted_cover : (q : ℕ) → i < q → IsNotedFor stamps key tags q → CoversAfter J i key tags q
  noted_cover q lt h = (lt, by (slice_get J q) refl (subst (λ (o : Option ℕ). IsLast (IsVoidedAt J horizon h.0) o) h.1 (tells h.0)).0.1)
    where
      by : (o : Option Event) → slice_get J q ≡ o → IsSomeAnd o (IsVoidOf h.0) → IsSomeAnd (slice_get J q) (λ e. IsCover e key tags)
      by None at v = absurd v
      by (Some e) at v = subst (λ (o : Option Event). IsSomeAnd o (λ x. IsCover x key tags)) (sym at) (void_covers e h.0 key tags v h.2)

  -- the last stamp is the last cover where it is above i, and there is none where it is not
  pub tell_last : (o : Option ℕ) → IsLast (IsNotedFor stamps key tags) o → IsLastCover J i key tags (above i o)
  tell_last None last = λ p h. let s = cover_noted p h in last s.0 s.1
  tell_last (Some q) last = by (nat_lt i q) refl
    where
      by : (b : Bool) → nat_lt i q ≡ b → IsLastCover J i key tags (if b then Some q else None)
      by true is =
          let over : i < q = grind (arith, nat_tests) in
          (noted_cover q over last.0, λ p lt h. let s = cover_noted p h in last.1 s.0 (omega (arith, lt, s.2)) s.1)
      by false is =
          let under : q ≤ i = grind (arith, nat_tests) in
          λ p h. let s = cover_noted p h in last.1 s.0 (omega (arith, under, h.0, s.2)) s.1
