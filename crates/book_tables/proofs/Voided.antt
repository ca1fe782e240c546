-- What stands for a journal stands for the journal with one more Invalidate, where what it covers is taken out.
use Rattle.std.proofs.Common.{◌≡◌, inl, inr, ℕ, ◌+◌, ◌<◌, ◌≤◌, List, [], ◌∷◌, ◌++◌, length, slice_get, Option, Some, None, refl, ap, sym, ◌∙◌, subst, arith, length-append}
use Rattle.std.specs.FinMap as map
use Rattle.std.specs.Option.{option_map}
use Rattle.std.proofs.lemmas.Option.{slice_get-get_or, slice_get_past}
use Rattle.cache_terms.specs.declared.keys.Target.{Target}
use Rattle.cache_terms.specs.declared.events.Limits.{Limits}
use Rattle.cache_terms.specs.declared.events.Event.{Event}
use Rattle.cache_terms.specs.declared.events.Event.TheVariants.{Invalidate}
use Rattle.cache_model.specs.Journal.{Started, start_of, starts, reserved, bytes, Kept, IsHeld}
use Rattle.cache_model.specs.Legal.{EachFits}
use Rattle.book_index.specs.declared.key_index.KeyIndex.{KeyIndex}
use Rattle.book_index.specs.declared.tag_index.TagIndex.{TagIndex}
use Rattle.book_index.specs.Stamps.{Positions, Stamped}
use Rattle.book_index.proofs.Telling.{tell_void}
use Rattle.book_tables.specs.declared.tables.Tables.{Tables}
use Rattle.book_tables.specs.Pieces.{AreStarts, Keyed, Targeted, Uncovered}
use Rattle.book_tables.specs.Halves.{TicketsStand}
use Rattle.book_tables.specs.Standing.{StampsStand, StandsFor, IsRegular}
use Rattle.book_tables.proofs.Keeping.{held_push, held_back}
use Rattle.book_tables.proofs.Placing.{keyed_same, targeted_same}
use Rattle.book_tables.proofs.Ticketing.{start_same, starts_push, start_within, settled_same, reserved_more}
use Rattle.book_tables.proofs.Standings.{bytes_more, stands_of}

void_forth : (limits : Limits) (J : List Event) (who : ℕ) (target : Target) (count : ℕ) → EachFits limits J → (q : ℕ) (k : Kept) → Uncovered J target q k → IsHeld (J ++ Invalidate who target count ∷ []) q k
void_forth limits J who target count each q k h = held_push limits J (Invalidate who target count) each q k h.0 (record { apart = λ m keeps key scope. absurd (cc keeps); uncovered = h.1 })

void_back : (limits : Limits) (J : List Event) (who : ℕ) (target : Target) (count : ℕ) → EachFits limits J → (q : ℕ) (k : Kept) → IsHeld (J ++ Invalidate who target count ∷ []) q k → Uncovered J target q k
void_back limits J who target count each q k h = elim (held_back limits J (Invalidate who target count) each q k h) [
  | inl was ↦ (was.0, was.1.uncovered)
  | inr new ↦ absurd (cc new.1)
]

no_more : (n : ℕ) → n + 0 ≡ n
no_more n = omega arith

-- where a ticket is open the stamps stand with one more noted
pub stamps_noted : (J : List Event) (who : ℕ) (target : Target) (count : ℕ) (positions : List ℕ) (oldest : ℕ) (old : Positions) → AreStarts positions J → oldest < length positions
    → StampsStand J (slice_get positions oldest) old → StampsStand (J ++ Invalidate who target count ∷ []) (slice_get positions oldest) (map.insert old target (length J))
stamps_noted J who target count positions oldest old are less stand = from (slice_get positions oldest) refl stand
  where
    within : (at : ℕ) (o : Option Started) → start_of J oldest ≡ o → option_map (λ s. s.at) o ≡ Some at → at < length J
    within at None is h = absurd (cc h)
    within at (Some s) is h = subst (λ n. n < length J) (cc h) (start_within J oldest s is)

    from : (o : Option ℕ) → slice_get positions oldest ≡ o → StampsStand J o old → StampsStand (J ++ Invalidate who target count ∷ []) o (map.insert old target (length J))
    from None is h = absurd (cc (sym is ∙ slice_get-get_or positions oldest 0 less))
    from (Some at) is h = tell_void J who target count at old (within at (start_of J oldest) refl (sym (are oldest) ∙ is)) h

-- where none is open there are no stamps, before and after
pub stamps_none : (J K : List Event) (positions : List ℕ) (oldest : ℕ) (old : Positions) → length positions ≤ oldest → StampsStand J (slice_get positions oldest) old → StampsStand K (slice_get positions oldest) old
stamps_none J K positions oldest old past stand = from (slice_get positions oldest) refl stand
  where
    from : (o : Option ℕ) → slice_get positions oldest ≡ o → StampsStand J o old → StampsStand K o old
    from None is h = h
    from (Some at) is h = absurd (cc (sym is ∙ slice_get_past positions oldest past))

pub void_stands : (old : Tables) (J : List Event) (who : ℕ) (target : Target) (count : ℕ) (keys : KeyIndex) (holders : TagIndex) (stamps : Stamped)
    → IsRegular J → StandsFor old J → Keyed keys (Uncovered J target) → Targeted holders (Uncovered J target)
    → StampsStand (J ++ Invalidate who target count ∷ []) (slice_get old.starts.items old.oldest) stamps.stamps → map.len stamps.stamps ≤ map.len old.stamps.stamps + 1 → stamps.limit ≡ old.stamps.limit
    → StandsFor (record old { keys = keys; holders = holders; stamps = stamps }) (J ++ Invalidate who target count ∷ [])
void_stands old J who target count keys holders stamps (limits, each) s keyed targeted stand few limit =
    stands_of new (J ++ e ∷ []) ticketed (s.bytes ∙ sym (bytes_more J e ∙ no_more (bytes J)))
    (keyed_same keys (Uncovered J target) (IsHeld (J ++ e ∷ [])) (void_forth limits J who target count each) (void_back limits J who target count each) keyed)
    (targeted_same holders (Uncovered J target) (IsHeld (J ++ e ∷ [])) (void_forth limits J who target count each) (void_back limits J who target count each) targeted)
  where
    e : Event
    e = Invalidate who target count

    new : Tables
    new = record old { keys = keys; holders = holders; stamps = stamps }

    same : starts (J ++ e ∷ []) ≡ starts J
    same = starts_push J e ∙ no_more (starts J)

    ticketed : TicketsStand new (J ++ e ∷ [])
    ticketed = record {
      count = s.count ∙ sym same;
      started = λ t. s.started t ∙ ap (option_map (λ (x : Started). x.at)) (sym (start_same J e t refl));
      count_settled = s.count_settled ∙ sym same;
      settled = λ t below. s.settled t (subst (λ (n : ℕ). t < n) same below) ∙ ap Some (sym (settled_same J e t refl));
      oldest = s.oldest;
      pending = s.pending ∙ sym (reserved_more J e (λ t. refl) ∙ no_more (reserved J));
      stamps = stand;
      few = omega (arith, few, s.few, length-append J (e ∷ []));
      room_starts = omega (arith, limit, s.room_starts);
      room_settled = omega (arith, limit, s.room_settled);
    }
