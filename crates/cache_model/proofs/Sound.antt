-- What holds of a legal journal.
use Rattle.std.proofs.Common.{◌≡◌, ◌⊎◌, inl, inr, ℕ, zero, suc, ◌+◌, ◌<◌, ◌≤◌, Bool, true, false, List, [], ◌∷◌, ◌++◌, length, take, slice_get, get_or, Option, Some, None, refl, ap, sym, ◌∙◌, arith, subst, add-one}
use Rattle.std.specs.Prelude.{nat_lt, is_some, if◌then◌else◌}
use Rattle.std.proofs.lemmas.Bool.Decides.{nat_tests}
use Rattle.std.proofs.lemmas.List.{take_more, append-nil}
use Rattle.std.specs.Option.{option_map, option_and_then}
use Rattle.cache_model.proofs.Growth.{take_all}
use Rattle.std.proofs.lemmas.Option.{slice_get_cases, same_Some}
use Rattle.std.proofs.lemmas.List.Sums.{sum_by_push}
use Rattle.cache_terms.specs.declared.events.Limits.{Limits}
use Rattle.cache_terms.specs.declared.events.Event.{Event}
use Rattle.cache_terms.specs.declared.events.Event.TheVariants.{Lookup, Start, Settle, Invalidate}
use Rattle.cache_terms.specs.declared.events.Got.{Got}
use Rattle.cache_terms.specs.declared.events.Outcome.TheVariants as outcome
use Rattle.cache_terms.specs.declared.reasons.Why.{Why}
use Rattle.cache_terms.specs.Offers.{why_of}
use Rattle.cache_model.specs.Journal.{bytes, stored_size, Started, start_of, Kept, kept_of, kept_at, kept_by}
use Rattle.cache_model.specs.Soundness.{IsSound}
use Rattle.cache_model.specs.Legal.{EachFits, Fits, IsDueBy, due_after}

-- what is stored found its room
stored_within : (cover : Option ℕ) (stored size limit : ℕ) → outcome.Stored ≡ due_after cover stored size limit → stored + size ≤ limit
stored_within (Some p) stored size limit h = absurd cc
stored_within None stored size limit h = small (nat_lt limit (stored + size)) refl h
  where
    small : (b : Bool) → nat_lt limit (stored + size) ≡ b → outcome.Stored ≡ (if b then outcome.NoRoom stored size limit else outcome.Stored) → stored + size ≤ limit
    small true is h' = absurd cc
    small false is h' = grind (arith, nat_tests)

stored_within_by : (why : Option Why) (limits : Limits) (J : List Event) (s : Started) (got : Got) → IsDueBy why limits J s got outcome.Stored → bytes J + got.size ≤ limits.bytes
stored_within_by (Some w) limits J s got due = absurd (cc due)
stored_within_by None limits J s got due = elim due.2 [
  | inl same ↦ stored_within (due.0) (bytes J) got.size limits.bytes same
  | inr other ↦ absurd (cc other.1)
]

pub event_within : (limits : Limits) (J : List Event) (e : Event) → Fits limits J e → bytes J ≤ limits.bytes → bytes J + stored_size e ≤ limits.bytes
event_within limits J (Lookup who key id now hit) fits le = omega arith
event_within limits J (Start who ticket key id now) fits le = omega arith
event_within limits J (Invalidate who target count) fits le = omega arith
event_within limits J (Settle who ticket None outcome.Stored) fits le = omega arith
event_within limits J (Settle who ticket (Some got) outcome.Stored) fits le =
    let due : IsDueBy (why_of got.marks got.verdict got.tags (is_some (fits.0).id)) limits J (fits.0) got outcome.Stored = fits.3 in
    stored_within_by (why_of got.marks got.verdict got.tags (is_some (fits.0).id)) limits J (fits.0) got due
event_within limits J (Settle who ticket got out) fits le = omega arith

bytes_front : (limits : Limits) (J : List Event) → EachFits limits J → (n : ℕ) → n ≤ length J → bytes (take n J) ≤ limits.bytes
bytes_front limits J each zero le = omega arith
bytes_front limits J each (suc n) le = step (slice_get_cases J n) (bytes_front limits J each n (omega arith))
  where
    step : (slice_get J n ≡ slice_get J n) × (((x : Event) × (n < length J) × (slice_get J n ≡ Some x) × (get_or J n x ≡ x)) ⊎ ((length J ≤ n) × (slice_get J n ≡ None))) → bytes (take n J) ≤ limits.bytes → bytes (take (suc n) J) ≤ limits.bytes
    step (same, inl found) before =
        let x : Event = found.0 in
        let more : take (n + 1) J ≡ take n J ++ x ∷ [] = take_more J n x found.1 ∙ ap (λ (y : Event). take n J ++ y ∷ []) found.3 in
        let within : bytes (take n J) + stored_size x ≤ limits.bytes = event_within limits (take n J) x (each n x found.2).fits before in
        rw (← add-one, more) (omega (arith, sum_by_push stored_size (take n J) x, within))
    step (same, inr past) before = absurd (omega (arith, le, past.0))

-- the bytes stay within the limit
pub bytes_within : (limits : Limits) (J : List Event) → EachFits limits J → bytes J ≤ limits.bytes
bytes_within limits J each = subst (λ (K : List Event). bytes K ≤ limits.bytes) (ap (take (length J)) (sym (append-nil J)) ∙ take_all J []) (bytes_front limits J each (length J) (omega arith))

-- what an event that fits keeps has its value, and a lifetime in range
kept_fits : (limits : Limits) (J K : List Event) (e : Event) (k : Kept) → Fits limits K e → kept_of J e ≡ Some k → (k.verdict.lifetime ≤ 2147483648) × (is_some k.value ≡ true)
kept_fits limits J K (Lookup who key id now hit) k fits h = absurd cc
kept_fits limits J K (Start who ticket key id now) k fits h = absurd cc
kept_fits limits J K (Invalidate who target count) k fits h = absurd cc
kept_fits limits J K (Settle who ticket None outcome.Stored) k fits h = absurd cc
kept_fits limits J K (Settle who ticket (Some got) outcome.Stored) k fits h = from (start_of J ticket) h
  where
    from : (o : Option Started) → option_map (kept_by got) o ≡ Some k → (k.verdict.lifetime ≤ 2147483648) × (is_some k.value ≡ true)
    from None h' = absurd cc
    from (Some s) h' =
        let same : kept_by got s ≡ k = same_Some (kept_by got s) k h' in
        (subst (λ (m : Kept). m.verdict.lifetime ≤ 2147483648) same (fits.5.0), subst (λ (m : Kept). is_some m.value ≡ true) same (fits.4))
kept_fits limits J K (Settle who ticket got out) k fits h = absurd cc

kept_stands : (limits : Limits) (J : List Event) → EachFits limits J → (q : ℕ) (k : Kept) → kept_at J q ≡ Some k → (k.verdict.lifetime ≤ 2147483648) × (is_some k.value ≡ true)
kept_stands limits J each q k h = from (slice_get J q) refl h
  where
    from : (o : Option Event) → slice_get J q ≡ o → option_and_then (kept_of J) o ≡ Some k → (k.verdict.lifetime ≤ 2147483648) × (is_some k.value ≡ true)
    from None is h' = absurd cc
    from (Some e) is h' = kept_fits limits J (take q J) e k (each q e is).fits h'

pub sound_of : (limits : Limits) (J : List Event) → EachFits limits J → IsSound J
sound_of limits J each = record { lifetime = λ q k h. (kept_stands limits J each q k h).0; value = λ q k h. (kept_stands limits J each q k h).1 }
