-- The stamps beside a journal are those since the oldest open Start.
use Rattle.std.proofs.Common.{◌≡◌, ◌⊎◌, inl, inr, ℕ, ◌<◌, ◌≤◌, Bool, true, false, List, length, slice_get, get_or, Option, Some, None, refl, ap, sym, ◌∙◌, arith, subst}
use Rattle.std.specs.FinMap as map
use Rattle.std.specs.List.{list_any}
use Rattle.std.specs.Option.{option_map}
use Rattle.std.proofs.lemmas.Option.{same_Some, slice_get_within, slice_get_cases}
use Rattle.cache_terms.specs.declared.events.Event.{Event}
use Rattle.cache_terms.specs.declared.events.Limits.{Limits}
use Rattle.cache_terms.specs.declared.events.Outcome.TheVariants as outcome
use Rattle.cache_model.specs.Journal.{Started, start_of, starts, settles, IsOpen, reserved}
use Rattle.cache_model.specs.Legal.{EachFits}
use Rattle.cache_model.proofs.Growth.{reserved_settled}
use Rattle.book_index.specs.Telling.{StampsTell}
use Rattle.book_tables.specs.declared.tables.Tables.{Tables}
use Rattle.book_tables.specs.Standing.{StandsFor, StampsStand}
use Rattle.book_tables.proofs.Ticketing.{starts_rise}
use Rattle.cache_book.specs.Stamping.{IsOldestOpen}

-- the ticket that the tables name as the oldest is open
oldest_open : (tables : Tables) (J : List Event) → StandsFor tables J → (at : ℕ) → slice_get tables.starts.items tables.oldest ≡ Some at → (s : Started) × (s.at ≡ at) × IsOpen J tables.oldest s
oldest_open tables J stands at here = by_start (start_of J tables.oldest) refl
  where
    within : tables.oldest < starts J
    within = let lt : tables.oldest < length tables.starts.items = slice_get_within tables.starts.items tables.oldest at here in omega (arith, lt, stands.count)

    unsettled : (b : Bool) → list_any (settles tables.oldest) J ≡ b → b ≡ false
    unsettled false is = refl
    unsettled true is = absurd (stands.oldest.first (stands.settled tables.oldest within ∙ ap (λ (b : Bool). Some b) is))

    by_start : (o : Option Started) → start_of J tables.oldest ≡ o → (s : Started) × (s.at ≡ at) × IsOpen J tables.oldest s
    by_start None is = absurd (cc (sym here ∙ stands.started tables.oldest ∙ ap (option_map (λ (x : Started). x.at)) is))
    by_start (Some s) is =
        let same : Some s.at ≡ Some at = sym (ap (option_map (λ (x : Started). x.at)) is) ∙ sym (stands.started tables.oldest) ∙ here in
        let settled : list_any (settles tables.oldest) J ≡ false = unsettled (list_any (settles tables.oldest) J) refl in
        (s, same_Some s.at at same, record { started = is; unsettled = settled })

-- where no ticket is open there are no stamps
pub none_stamped : (tables : Tables) (J : List Event) → StandsFor tables J → reserved J ≡ 0 → tables.stamps.stamps ≡ map.empty
none_stamped tables J stands none = by_start (slice_get tables.starts.items tables.oldest) refl stands.stamps
  where
    by_start : (o : Option ℕ) → slice_get tables.starts.items tables.oldest ≡ o → StampsStand J o tables.stamps.stamps → tables.stamps.stamps ≡ map.empty
    by_start None is h = h
    by_start (Some at) is h =
        let open_one = oldest_open tables J stands at is in
        absurd (omega (arith, none, reserved_settled J 0 tables.oldest None outcome.Failed (open_one.0) open_one.2))

-- else they tell of what is above the Start of the ticket that is open the longest
pub oldest_stamped : (limits : Limits) (tables : Tables) (J : List Event) → EachFits limits J → StandsFor tables J → (s : Started) → IsOldestOpen J s → StampsTell J s.at tables.stamps.stamps
oldest_stamped limits tables J each stands s h = by_start (slice_get_cases tables.starts.items tables.oldest)
  where
    here : slice_get tables.starts.items h.ticket ≡ Some s.at
    here = stands.started h.ticket ∙ ap (option_map (λ (x : Started). x.at)) h.unsettled.started

    within : h.ticket < starts J
    within = let lt : h.ticket < length tables.starts.items = slice_get_within tables.starts.items h.ticket s.at here in omega (arith, lt, stands.count)

    unsettled : slice_get tables.settled.items h.ticket ≡ Some false
    unsettled = stands.settled h.ticket within ∙ ap (λ (b : Bool). Some b) h.unsettled.unsettled

    compared : (a b : ℕ) → (a < b) ⊎ (b ≤ a)
    compared a b = grind arith

    later : tables.oldest ≤ h.ticket
    later = elim (compared h.ticket tables.oldest) [
      | inl less ↦ absurd (let both : Some false ≡ Some true = sym unsettled ∙ stands.oldest.below h.ticket less in cc both)
      | inr le ↦ le
    ]

    by_start : (slice_get tables.starts.items tables.oldest ≡ slice_get tables.starts.items tables.oldest) × (((at : ℕ) × (tables.oldest < length tables.starts.items) × (slice_get tables.starts.items tables.oldest ≡ Some at) × (get_or tables.starts.items tables.oldest at ≡ at)) ⊎ ((length tables.starts.items ≤ tables.oldest) × (slice_get tables.starts.items tables.oldest ≡ None))) → StampsTell J s.at tables.stamps.stamps
    by_start (same, inl found) =
        let open_one = oldest_open tables J stands (found.0) found.2 in
        let r : Started = open_one.0 in
        let at_least : s.at ≤ r.at = h.first tables.oldest r open_one.2 in
        let at_most : r.at ≤ s.at = starts_rise limits J each tables.oldest h.ticket r s later open_one.2.started h.unsettled.started in
        let at_is : found.0 ≡ s.at = omega (arith, at_least, at_most, open_one.1) in
        let told : StampsStand J (Some s.at) tables.stamps.stamps = subst (λ (o : Option ℕ). StampsStand J o tables.stamps.stamps) (found.2 ∙ ap (λ (n : ℕ). Some n) at_is) stands.stamps in
        told
    by_start (same, inr past) = absurd (omega (arith, past.0, later, within, stands.count))
