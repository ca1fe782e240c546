-- What is judged is due, and what the indexes say after it.
use Rattle.std.proofs.Common.{◌≡◌, inl, inr, ℕ, ◌+◌, ◌<◌, ◌≤◌, Bool, true, false, List, [], ◌∷◌, ◌++◌, length, slice_get, vec_capacity, Option, Some, None, refl, ap, sym, ◌∙◌, subst, arith}
use Rattle.std.specs.Prelude.{nat_lt, is_some, if◌then◌else◌}
use Rattle.std.specs.FinMap as map
use Rattle.std.specs.Option.{option_map}
use Rattle.std.proofs.lemmas.Bool.Decides.{nat_tests}
use Rattle.std.proofs.lemmas.Option.{slice_get-get_or, same_Some}
use Rattle.cache_terms.specs.declared.offers.Offer.{Offer}
use Rattle.cache_terms.specs.declared.reasons.Why.{Why}
use Rattle.cache_terms.specs.declared.events.Got.{Got}
use Rattle.cache_terms.specs.declared.events.Outcome.{Outcome}
use Rattle.cache_terms.specs.declared.events.Outcome.TheVariants as outcome
use Rattle.cache_terms.specs.declared.events.Limits.{Limits}
use Rattle.cache_terms.specs.declared.events.Event.{Event}
use Rattle.cache_terms.specs.declared.events.Event.TheVariants.{Settle}
use Rattle.cache_terms.specs.Offers.{why_of, offer_size}
use Rattle.cache_model.specs.Journal.{Started, start_of, reserved, bytes, stored_size, IsOpen, IsHeld, kept_by}
use Rattle.cache_model.specs.Legal.{EachFits, IsDue, IsDueBy, IsOrMemory, due_after}
use Rattle.book_index.specs.Stamps.{Positions, above}
use Rattle.book_index.specs.Telling.{StampsTell}
use Rattle.book_index.proofs.Telling.{tell_last}
use Rattle.book_tables.specs.declared.tables.Tables.{Tables}
use Rattle.book_tables.specs.Closing.{got_of, Filled}
use Rattle.book_tables.specs.Halves.{TicketsStand, IsJudged, KeepsTickets, KeepsPieces, ClosesTicket}
use Rattle.book_tables.specs.Pieces.{Keyed, Targeted, IsPlaced}
use Rattle.book_tables.specs.Standing.{IsOldest, StampsStand, StandsFor}
use Rattle.book_tables.proofs.Closed.{oldest_le, below, rising}
use Rattle.book_tables.proofs.Placed.{stored_keyed, stored_targeted}
use Rattle.book_tables.proofs.Standings.{IsIdle, keyed_idle, targeted_idle, bytes_more, ticketed_of, stands_of}
use Rattle.book_tables.proofs.Ticketing.{reserved_less}

module _ (limits : Limits) (J : List Event) (each : EachFits limits J) (t : ℕ) (s : Started) (owed : IsOpen J t s) (old : Tables) (h : TicketsStand old J) where
  -- the stamps tell of what is above an earlier position than the ticket's Start
  told : (horizon : ℕ) × (horizon ≤ s.at) × StampsTell J horizon old.stamps.stamps
  told = from (slice_get old.starts.items old.oldest) refl h.stamps
    where
      within : old.oldest < length old.starts.items
      within = omega (arith, oldest_le limits J each t s owed old h, below limits J each t s owed old h, h.count)

      from : (o : Option ℕ) → slice_get old.starts.items old.oldest ≡ o → StampsStand J o old.stamps.stamps → (horizon : ℕ) × (horizon ≤ s.at) × StampsTell J horizon old.stamps.stamps
      from None is stand = absurd (cc (sym is ∙ slice_get-get_or old.starts.items old.oldest 0 within))
      from (Some at) is stand = (at, rising limits J each t s owed old h old.oldest t at s.at (oldest_le limits J each t s owed old h) is (h.started t ∙ ap (option_map (λ (x : Started). x.at)) owed.started), stand)

  due_by : (why : Option Why) (offer : Offer) (out final : Outcome) → IsJudged why old.stamps.stamps (bytes J) limits.bytes s offer out → IsOrMemory out final → IsDueBy why limits J s (got_of offer final) final
  due_by (Some why) offer out final judged (inl same) = same ∙ judged
  due_by (Some why) offer out final judged (inr other) = absurd (cc (sym other.0 ∙ judged))
  due_by None offer out final (last, is, same) final_is =
      let tells = told in
      (above s.at last, tell_last J (tells.0) old.stamps.stamps tells.2 s.at tells.1 s.key offer.tags last is, or_memory final_is)
    where
      or_memory : IsOrMemory out final → IsOrMemory (due_after (above s.at last) (bytes J) (offer_size offer) limits.bytes) final
      or_memory (inl e) = inl (e ∙ same)
      or_memory (inr e) = inr (sym same ∙ e.0, e.1)

  -- what is judged is due, and so is want of memory in the place of Stored
  pub due_of : (offer : Offer) (out final : Outcome) → IsJudged (why_of offer.marks offer.verdict offer.tags (is_some s.id)) old.stamps.stamps (bytes J) limits.bytes s offer out → IsOrMemory out final → IsDue limits J s (Some (got_of offer final)) final
  due_of offer out final judged final_is = due_by (why_of offer.marks offer.verdict offer.tags (is_some s.id)) offer out final judged final_is

-- what is stored has its room
stored_room : (cover : Option ℕ) (stored size limit : ℕ) → outcome.Stored ≡ due_after cover stored size limit → stored + size ≤ limit
stored_room (Some p) stored size limit h = absurd (cc h)
stored_room None stored size limit h = small (nat_lt limit (stored + size)) refl h
  where
    small : (b : Bool) → nat_lt limit (stored + size) ≡ b → outcome.Stored ≡ (if b then outcome.NoRoom stored size limit else outcome.Stored) → stored + size ≤ limit
    small true is h' = absurd (cc h')
    small false is h' = grind (arith, nat_tests)

pub stored_fits : (why : Option Why) (stamps : Positions) (stored limit : ℕ) (s : Started) (offer : Offer) (out : Outcome) → out ≡ outcome.Stored → IsJudged why stamps stored limit s offer out → stored + offer_size offer ≤ limit
stored_fits (Some why) stamps stored limit s offer out is h = absurd (cc (sym is ∙ h))
stored_fits None stamps stored limit s offer out is (last, told, same) = stored_room (above s.at last) stored (offer_size offer) limit (sym is ∙ same)

-- A SETTLE THAT STORES NOTHING

no_more : (n : ℕ) → n + 0 ≡ n
no_more n = omega arith

keeps_none : (who t : ℕ) (got : Option Got) (out : Outcome) → (out ≡ outcome.Stored → ⊥) → IsIdle (Settle who t got out) × (stored_size (Settle who t got out) ≡ 0)
keeps_none who t None outcome.Stored other = absurd (other refl)
keeps_none who t (Some got) outcome.Stored other = absurd (other refl)
keeps_none who t None (outcome.Void p) other = (record { keeps = λ K. refl; covers = λ key tags c. c }, refl)
keeps_none who t None (outcome.NoRoom a b c) other = (record { keeps = λ K. refl; covers = λ key tags c. c }, refl)
keeps_none who t None (outcome.Unstorable w) other = (record { keeps = λ K. refl; covers = λ key tags c. c }, refl)
keeps_none who t None outcome.Failed other = (record { keeps = λ K. refl; covers = λ key tags c. c }, refl)
keeps_none who t None (outcome.Over a b) other = (record { keeps = λ K. refl; covers = λ key tags c. c }, refl)
keeps_none who t None outcome.Bypassed other = (record { keeps = λ K. refl; covers = λ key tags c. c }, refl)
keeps_none who t None outcome.Memory other = (record { keeps = λ K. refl; covers = λ key tags c. c }, refl)
keeps_none who t (Some got) (outcome.Void p) other = (record { keeps = λ K. refl; covers = λ key tags c. c }, refl)
keeps_none who t (Some got) (outcome.NoRoom a b c) other = (record { keeps = λ K. refl; covers = λ key tags c. c }, refl)
keeps_none who t (Some got) (outcome.Unstorable w) other = (record { keeps = λ K. refl; covers = λ key tags c. c }, refl)
keeps_none who t (Some got) outcome.Failed other = (record { keeps = λ K. refl; covers = λ key tags c. c }, refl)
keeps_none who t (Some got) (outcome.Over a b) other = (record { keeps = λ K. refl; covers = λ key tags c. c }, refl)
keeps_none who t (Some got) outcome.Bypassed other = (record { keeps = λ K. refl; covers = λ key tags c. c }, refl)
keeps_none who t (Some got) outcome.Memory other = (record { keeps = λ K. refl; covers = λ key tags c. c }, refl)

pub filled_idle : (limits : Limits) (J : List Event) → EachFits limits J → (new : Tables) (t : ℕ) (got : Option Got) (out : Outcome) → (out ≡ outcome.Stored → ⊥)
    → new.bytes ≡ bytes J → Keyed new.keys (IsHeld J) → Targeted new.holders (IsHeld J) → Filled new J t got out
filled_idle limits J each new t got out other size keyed targeted = record {
  bytes = λ who. size ∙ sym (bytes_more J (Settle who t got out) ∙ ap (λ n. bytes J + n) (keeps_none who t got out other).1 ∙ no_more (bytes J));
  keyed = λ who. keyed_idle limits J (Settle who t got out) each (keeps_none who t got out other).0 new.keys keyed;
  targeted = λ who. targeted_idle limits J (Settle who t got out) each (keeps_none who t got out other).0 new.holders targeted;
}

-- A SETTLE THAT IS STORED

pub filled_stored : (limits : Limits) (J : List Event) → EachFits limits J → (new : Tables) (t : ℕ) (s : Started) (offer : Offer) (scope : Option (List ℕ)) → start_of J t ≡ Some s → scope ≡ (if offer.verdict.private then s.id else None)
    → new.bytes ≡ bytes J + offer_size offer → IsPlaced J s.key scope offer.tags (Keyed new.keys) → IsPlaced J s.key scope offer.tags (Targeted new.holders) → Filled new J t (Some (got_of offer outcome.Stored)) outcome.Stored
filled_stored limits J each new t s offer scope started scope_is size keyed targeted = record {
  bytes = λ who. size ∙ sym (bytes_more J (Settle who t (Some (got_of offer outcome.Stored)) outcome.Stored));
  keyed = λ who. stored_keyed limits J each who t (got_of offer outcome.Stored) s started new.keys (keyed (kept_by (got_of offer outcome.Stored) s) refl (sym scope_is) refl);
  targeted = λ who. stored_targeted limits J each who t (got_of offer outcome.Stored) s started new.holders (targeted (kept_by (got_of offer outcome.Stored) s) refl (sym scope_is) refl);
}

pub due_found : (limits : Limits) (J : List Event) → EachFits limits J → (t : ℕ) (s : Started) → IsOpen J t s → (old : Tables) → TicketsStand old J → (offer : Offer) (r : Started) → start_of J t ≡ Some r → (out final : Outcome) (stored : ℕ) → stored ≡ bytes J
    → IsJudged (why_of offer.marks offer.verdict offer.tags (is_some r.id)) old.stamps.stamps stored limits.bytes r offer out → IsOrMemory out final → (x : Started) → start_of J t ≡ Some x → IsDue limits J x (Some (got_of offer final)) final
due_found limits J each t s owed old h offer r found out final stored size judged final_is x started =
    let all : IsJudged (why_of offer.marks offer.verdict offer.tags (is_some r.id)) old.stamps.stamps (bytes J) limits.bytes r offer out = subst (λ (n : ℕ). IsJudged (why_of offer.marks offer.verdict offer.tags (is_some r.id)) old.stamps.stamps n limits.bytes r offer out) size judged in
    subst (λ (y : Started). IsDue limits J y (Some (got_of offer final)) final) (same_Some r x (sym found ∙ started)) (due_of limits J each t r (record { started = found; unsettled = owed.unsettled }) old h offer out final all final_is)

pub ticketed_kept : (old new : Tables) (J : List Event) → TicketsStand old J → KeepsTickets old new → TicketsStand new J
ticketed_kept old new J h same = record {
  count = ap (λ v. length v.items) same.starts ∙ h.count;
  started = λ t. ap (λ v. slice_get v.items t) same.starts ∙ h.started t;
  count_settled = ap (λ v. length v.items) same.settled ∙ h.count_settled;
  settled = λ t below. ap (λ v. slice_get v.items t) same.settled ∙ h.settled t below;
  oldest = subst (λ v. IsOldest v.items new.oldest) (sym same.settled) (subst (λ n. IsOldest old.settled.items n) (sym same.oldest) h.oldest);
  pending = same.pending ∙ h.pending;
  stamps = subst (λ m. StampsStand J (slice_get new.starts.items new.oldest) m) (sym same.stamps) (subst (λ o. StampsStand J o old.stamps.stamps) (sym (ap (slice_get new.starts.items) same.oldest ∙ ap (λ v. slice_get v.items old.oldest) same.starts)) h.stamps);
  few = omega (arith, ap map.len same.stamps, h.few);
  room_starts = omega (arith, same.limit, h.room_starts, ap (λ v. vec_capacity v) same.starts);
  room_settled = omega (arith, same.limit, h.room_settled, ap (λ v. vec_capacity v) same.settled);
}

pub settle_stands : (limits : Limits) (J : List Event) → EachFits limits J → (t : ℕ) (s : Started) → IsOpen J t s → (old mid new : Tables) → StandsFor old J → KeepsTickets old mid → (got : Option Got) (out : Outcome) → Filled mid J t got out
    → ClosesTicket mid t new → KeepsPieces mid new → (who : ℕ) → StandsFor new (J ++ Settle who t got out ∷ [])
settle_stands limits J each t s owed old mid new stands same got out filled closes pieces who = stands_of new (J ++ Settle who t got out ∷ [])
    (closes J (limits, each) (ticketed_kept old mid J (ticketed_of old J stands) same) (s, owed) who got out)
    (pieces.bytes ∙ filled.bytes who)
    (subst (λ k. Keyed k (IsHeld (J ++ Settle who t got out ∷ []))) (sym pieces.keys) (filled.keyed who))
    (subst (λ h. Targeted h (IsHeld (J ++ Settle who t got out ∷ []))) (sym pieces.holders) (filled.targeted who))

-- an open ticket is counted
pub pending_some : (limits : Limits) (J : List Event) → EachFits limits J → (t : ℕ) (s : Started) → IsOpen J t s → (n : ℕ) → n ≡ reserved J → 0 < n
pending_some limits J each t s owed n is = omega (arith, is, reserved_less limits J each 0 t None outcome.Failed s owed)
