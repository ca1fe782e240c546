-- What the stamps are, by the open tickets of the journal.
use Rattle.std.proofs.Common.{◌≡◌, ◌⊎◌, inl, inr, ℕ, ◌<◌, ◌≤◌, Bool, true, false, List, slice_get, Option, Some, None, refl, ap, sym, ◌∙◌, subst, arith}
use Rattle.std.specs.FinMap as map
use Rattle.std.specs.List.{list_any}
use Rattle.std.specs.Option.{option_map}
use Rattle.std.proofs.lemmas.Option.{slice_get_within, slice_get-get_or, same_Some}
use Rattle.cache_terms.specs.declared.events.Event.{Event}
use Rattle.cache_model.specs.Journal.{Started, start_of, starts, settles, IsOpen}
use Rattle.book_index.specs.Telling.{StampsTell}
use Rattle.book_tables.specs.declared.tables.Tables.{Tables}
use Rattle.book_tables.specs.Standing.{StampsStand, StandsFor, IsOldestOpen}

module _ (tables : Tables) (J : List Event) (s : StandsFor tables J) where
  -- an open ticket is at or above the oldest, and the oldest has its Start
  open_above : (t : ℕ) (r : Started) → IsOpen J t r → (tables.oldest ≤ t) × ((at : ℕ) × (slice_get tables.starts.items tables.oldest ≡ Some at))
  open_above t r o = (above, from (slice_get tables.starts.items tables.oldest) refl)
    where
      within : t < starts J
      within = omega (arith, slice_get_within tables.starts.items t r.at (s.started t ∙ ap (option_map (λ (x : Started). x.at)) o.started), s.count)

      compared : (a b : ℕ) → (a ≤ b) ⊎ (b < a)
      compared a b = grind arith

      above : tables.oldest ≤ t
      above = elim (compared tables.oldest t) [
        | inl le ↦ le
        | inr over ↦ absurd (cc (sym (s.settled t within ∙ ap Some o.unsettled) ∙ s.oldest.below t over))
      ]

      from : (x : Option ℕ) → slice_get tables.starts.items tables.oldest ≡ x → (at : ℕ) × (slice_get tables.starts.items tables.oldest ≡ Some at)
      from (Some at) is = (at, is)
      from None is = absurd (cc (sym is ∙ slice_get-get_or tables.starts.items tables.oldest 0 (omega (arith, above, within, s.count))))

  -- where the oldest has its Start, it is open
  open_at : (at : ℕ) → slice_get tables.starts.items tables.oldest ≡ Some at → (r : Started) × IsOpen J tables.oldest r × (r.at ≡ at)
  open_at at is = from (start_of J tables.oldest) refl (sym (s.started tables.oldest) ∙ is)
    where
      within : tables.oldest < starts J
      within = omega (arith, slice_get_within tables.starts.items tables.oldest at is, s.count)

      unsettled : (b : Bool) → list_any (settles tables.oldest) J ≡ b → b ≡ false
      unsettled false h = refl
      unsettled true h = absurd (s.oldest.first (s.settled tables.oldest within ∙ ap Some h))

      from : (o : Option Started) → start_of J tables.oldest ≡ o → option_map (λ (x : Started). x.at) o ≡ Some at → (r : Started) × IsOpen J tables.oldest r × (r.at ≡ at)
      from None h found = absurd (cc found)
      from (Some r) h found = (r, record { started = h; unsettled = unsettled (list_any (settles tables.oldest) J) refl }, same_Some r.at at found)

pub none_open : (tables : Tables) (J : List Event) → StandsFor tables J → ((t : ℕ) (s : Started) → IsOpen J t s → ⊥) → tables.stamps.stamps ≡ map.empty
none_open tables J s none = from (slice_get tables.starts.items tables.oldest) refl s.stamps
  where
    from : (o : Option ℕ) → slice_get tables.starts.items tables.oldest ≡ o → StampsStand J o tables.stamps.stamps → tables.stamps.stamps ≡ map.empty
    from None is h = h
    from (Some at) is h = let r = open_at tables J s at is in absurd (none tables.oldest (r.0) (r.1))

pub tell_oldest : (tables : Tables) (J : List Event) → StandsFor tables J → (t : ℕ) (r : Started) → IsOldestOpen J t r → StampsTell J r.at tables.stamps.stamps
tell_oldest tables J s t r o =
    let above = open_above tables J s t r o.unsettled in
    let at : ℕ = above.1.0 in
    let first = open_at tables J s (above.1.0) (above.1.1) in
    let le : t ≤ tables.oldest = o.oldest tables.oldest (first.0) (first.1) in
    let same : t ≡ tables.oldest = omega (arith, above.0, le) in
    let one : r ≡ first.0 = same_Some r (first.0) (sym o.unsettled.started ∙ ap (start_of J) same ∙ first.1.started) in
    let tells : StampsTell J (above.1.0) tables.stamps.stamps = subst (λ (x : Option ℕ). StampsStand J x tables.stamps.stamps) (above.1.1) s.stamps in
    subst (λ n. StampsTell J n tables.stamps.stamps) (sym (ap (λ (x : Started). x.at) one ∙ first.2)) tells
