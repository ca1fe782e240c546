-- Lookups and Starts change no choice, and what others add settles no ticket of a caller.
use Rattle.std.proofs.Common.{◌≡◌, ◌≢◌, inl, inr, ℕ, suc, ◌+◌, Bool, true, false, ◌||◌, List, [], ◌∷◌, ◌++◌, length, take, drop, slice_get, get_or, Option, Some, None, All, refl, ap, sym, ◌∙◌, arith, subst, zero-add}
use Rattle.std.specs.Prelude.{IsSomeAnd}
use Rattle.std.specs.List.{list_any}
use Rattle.std.specs.Option.{option_map, option_and_then}
use Rattle.std.proofs.lemmas.Bool.Decides.{nat_tests}
use Rattle.std.proofs.lemmas.List.{take-append-drop}
use Rattle.std.proofs.lemmas.List.Folds.{list_any-append}
use Rattle.std.proofs.lemmas.Option.{same_Some, slice_get_within, get_or_from_slice_get}
use Rattle.cache_terms.specs.declared.keys.Key.{Key}
use Rattle.cache_terms.specs.declared.tags.Tags.{Tags}
use Rattle.cache_terms.specs.declared.events.Limits.{Limits}
use Rattle.cache_terms.specs.declared.events.Event.{Event}
use Rattle.cache_terms.specs.declared.events.Event.TheVariants.{Lookup, Start, Settle, Invalidate}
use Rattle.cache_terms.specs.declared.events.Outcome.TheVariants as outcome
use Rattle.cache_model.specs.Journal.{Started, start_of, settles, IsOpen, Kept, kept_by, kept_of, kept_at, IsCover, CoveredAt}
use Rattle.cache_model.specs.Legal.{EachFits, Fits}
use Rattle.cache_model.specs.Story.{who_of}
use Rattle.cache_model.proofs.Growth.{slice_get_push, slice_get_before}
use Rattle.cache_model.proofs.Tickets.{start_before, any_place}
use Rattle.cache_model.proofs.Choosing.{SameFor}

-- the event is a Lookup or a Start
abbrev pub IsQuiet : Event → Type 0
IsQuiet (Lookup who key id now hit) = Unit {0}
IsQuiet (Start who ticket key id now) = Unit {0}
IsQuiet (Settle who ticket got out) = ⊥
IsQuiet (Invalidate who target count) = ⊥

quiet_keeps_none : (J : List Event) (e : Event) → IsQuiet e → kept_of J e ≡ None
quiet_keeps_none J (Lookup who key id now hit) quiet = refl
quiet_keeps_none J (Start who ticket key id now) quiet = refl
quiet_keeps_none J (Settle who ticket got out) quiet = absurd quiet
quiet_keeps_none J (Invalidate who target count) quiet = absurd quiet

quiet_covers_none : (e : Event) (key : Key) (tags : Tags) → IsQuiet e → IsCover e key tags → ⊥
quiet_covers_none (Lookup who k id now hit) key tags quiet h = h
quiet_covers_none (Start who ticket k id now) key tags quiet h = h
quiet_covers_none (Settle who ticket got out) key tags quiet h = h
quiet_covers_none (Invalidate who target count) key tags quiet h = quiet

-- what was settled goes on keeping what it keeps
kept_grown : (limits : Limits) (J more : List Event) → EachFits limits J → (q : ℕ) (x : Event) → slice_get J q ≡ Some x → kept_of (J ++ more) x ≡ kept_of J x
kept_grown limits J more each q (Settle who t (Some got) outcome.Stored) at =
    let fits : Fits limits (take q J) (Settle who t (Some got) outcome.Stored) = (each q (Settle who t (Some got) outcome.Stored) at).fits in
    let here : start_of J t ≡ Some (fits.0) = subst (λ (K : List Event). start_of K t ≡ Some (fits.0)) (take-append-drop q J) (start_before (take q J) (drop q J) 0 t (fits.0) (fits.1.started)) in
    ap (option_map (kept_by got)) (start_before J more 0 t (fits.0) here ∙ sym here)
kept_grown limits J more each q (Settle who t None out) at = refl
kept_grown limits J more each q (Settle who t (Some got) (outcome.Void p)) at = refl
kept_grown limits J more each q (Settle who t (Some got) (outcome.NoRoom a b c)) at = refl
kept_grown limits J more each q (Settle who t (Some got) (outcome.Unstorable w)) at = refl
kept_grown limits J more each q (Settle who t (Some got) outcome.Failed) at = refl
kept_grown limits J more each q (Settle who t (Some got) (outcome.Over a b)) at = refl
kept_grown limits J more each q (Settle who t (Some got) outcome.Bypassed) at = refl
kept_grown limits J more each q (Settle who t (Some got) outcome.Memory) at = refl
kept_grown limits J more each q (Lookup who key id now hit) at = refl
kept_grown limits J more each q (Start who t key id now) at = refl
kept_grown limits J more each q (Invalidate who target count) at = refl

pub quiet_same : (id : Option (List ℕ)) (limits : Limits) (J : List Event) (e : Event) → EachFits limits J → IsQuiet e → SameFor id J (J ++ e ∷ [])
quiet_same id limits J e each quiet = record {
  forth = λ q k h seen. forth q k (slice_get J q) refl h;
  back = λ q k h seen. back q k (slice_get (J ++ e ∷ []) q) refl h;
  cover_forth = λ key tags p h. cover_forth key tags p (slice_get J p) refl h;
  cover_back = λ key tags p h. cover_back key tags p (slice_get (J ++ e ∷ []) p) refl h;
}
  where
    forth : (q : ℕ) (k : Kept) (o : Option Event) → slice_get J q ≡ o → option_and_then (kept_of J) o ≡ Some k → kept_at (J ++ e ∷ []) q ≡ Some k
    forth q k None at h = absurd (cc h)
    forth q k (Some x) at h = ap (option_and_then (kept_of (J ++ e ∷ []))) (slice_get_before J (e ∷ []) x q at) ∙ kept_grown limits J (e ∷ []) each q x at ∙ h

    back : (q : ℕ) (k : Kept) (o : Option Event) → slice_get (J ++ e ∷ []) q ≡ o → option_and_then (kept_of (J ++ e ∷ [])) o ≡ Some k → kept_at J q ≡ Some k
    back q k None at h = absurd (cc h)
    back q k (Some x) at h = elim (slice_get_push J x e q at) [
      | inl was ↦ ap (option_and_then (kept_of J)) was.1 ∙ sym (kept_grown limits J (e ∷ []) each q x was.1) ∙ h
      | inr new ↦ absurd (cc (sym h ∙ ap (kept_of (J ++ e ∷ [])) (sym new.1) ∙ quiet_keeps_none (J ++ e ∷ []) e quiet))
    ]

    cover_forth : (key : Key) (tags : Tags) (p : ℕ) (o : Option Event) → slice_get J p ≡ o → IsSomeAnd o (λ x. IsCover x key tags) → CoveredAt (J ++ e ∷ []) key tags p
    cover_forth key tags p None at h = absurd h
    cover_forth key tags p (Some x) at h = subst (λ (o : Option Event). IsSomeAnd o (λ y. IsCover y key tags)) (sym (slice_get_before J (e ∷ []) x p at)) h

    cover_back : (key : Key) (tags : Tags) (p : ℕ) (o : Option Event) → slice_get (J ++ e ∷ []) p ≡ o → IsSomeAnd o (λ x. IsCover x key tags) → CoveredAt J key tags p
    cover_back key tags p None at h = absurd h
    cover_back key tags p (Some x) at h = elim (slice_get_push J x e p at) [
      | inl was ↦ subst (λ (o : Option Event). IsSomeAnd o (λ y. IsCover y key tags)) (sym was.1) h
      | inr new ↦ absurd (quiet_covers_none e key tags quiet (subst (λ (y : Event). IsCover y key tags) (sym new.1) h))
    ]

slice_get_after : (J ds : List Event) (e : Event) (i : ℕ) → slice_get ds i ≡ Some e → slice_get (J ++ ds) (length J + i) ≡ Some e
slice_get_after [] ds e i h = rw (zero-add) h
slice_get_after (x ∷ J) ds e i h =
    let next : suc (length J) + i ≡ suc (length J + i) = omega arith in
    rw next (slice_get_after J ds e i h)

-- an event of another caller settles no ticket of this one
settles_own : (limits : Limits) (J ds : List Event) → EachFits limits (J ++ ds) → (t : ℕ) (s : Started) → start_of J t ≡ Some s
    → (i : ℕ) (e : Event) → slice_get ds i ≡ Some e → settles t e ≡ true → who_of e ≡ s.who
settles_own limits J ds each t s started i (Lookup who key id now hit) at is = absurd (cc is)
settles_own limits J ds each t s started i (Start who ticket key id now) at is = absurd (cc is)
settles_own limits J ds each t s started i (Invalidate who target count) at is = absurd (cc is)
settles_own limits J ds each t s started i (Settle who ticket got out) at is =
    let place : ℕ = length J + i in
    let fits : Fits limits (take (length J + i) (J ++ ds)) (Settle who ticket got out) = (each (length J + i) (Settle who ticket got out) (slice_get_after J ds (Settle who ticket got out) i at)).fits in
    let same : ticket ≡ t = grind (arith, nat_tests) in
    let whole : start_of (J ++ ds) ticket ≡ Some (fits.0) = subst (λ (K : List Event). start_of K ticket ≡ Some (fits.0)) (take-append-drop (length J + i) (J ++ ds)) (start_before (take (length J + i) (J ++ ds)) (drop (length J + i) (J ++ ds)) 0 ticket (fits.0) (fits.1.started)) in
    let first : start_of (J ++ ds) t ≡ Some s = start_before J ds 0 t s started in
    let one : fits.0 ≡ s = same_Some (fits.0) s (sym whole ∙ ap (λ (n : ℕ). start_of (J ++ ds) n) same ∙ first) in
    fits.2 ∙ ap (λ (x : Started). x.who) one

-- a ticket stays open where no event of its caller is added
pub open_without : (limits : Limits) (J ds : List Event) → EachFits limits (J ++ ds) → (t : ℕ) (s : Started) → IsOpen J t s → All (λ e. who_of e ≢ s.who) ds → IsOpen (J ++ ds) t s
open_without limits J ds each t s o others = record {
  started = start_before J ds 0 t s o.started;
  unsettled = list_any-append (settles t) J ds ∙ both (list_any (settles t) J) (list_any (settles t) ds) o.unsettled (unsettled (list_any (settles t) ds) refl);
}
  where
    both : (a b : Bool) → a ≡ false → b ≡ false → (a || b) ≡ false
    both false b p q = q
    both true b p q = absurd (cc p)

    unsettled : (b : Bool) → list_any (settles t) ds ≡ b → b ≡ false
    unsettled false is = refl
    unsettled true is =
        let r = any_place (settles t) ds is in
        let e : Event = r.1.0 in
        let here : get_or ds (r.0) e ≡ e = get_or_from_slice_get ds (r.0) e e (r.1.1) in
        absurd (others (r.0) e (slice_get_within ds (r.0) e (r.1.1)) (ap who_of here ∙ settles_own limits J ds each t s o.started (r.0) e (r.1.1) (r.1.2)))
