-- Serves private clauses and proofs alone: what the tables say of tickets, apart from what they say of pieces.
use Rattle.std.specs.Prelude.{◌≡◌, ◌⊎◌, ℕ, ◌<◌, ◌≤◌, Bool, true, List, [], ◌∷◌, ◌++◌, length, slice_get, vec_capacity, Option, Some, None}
use Rattle.std.specs.FinMap as map
use Rattle.std.specs.List.{list_any}
use Rattle.cache_terms.specs.declared.events.Event.{Event}
use Rattle.cache_terms.specs.declared.events.Event.TheVariants.{Settle}
use Rattle.cache_terms.specs.declared.events.Got.{Got}
use Rattle.cache_terms.specs.declared.events.Outcome.{Outcome}
use Rattle.cache_terms.specs.declared.events.Outcome.TheVariants as outcome
use Rattle.cache_terms.specs.declared.offers.Offer.{Offer}
use Rattle.cache_terms.specs.declared.reasons.Why.{Why}
use Rattle.cache_terms.specs.Offers.{offer_size}
use Rattle.cache_model.specs.Journal.{Started, starts, settles, reserved, IsLast}
use Rattle.cache_model.specs.Legal.{due_after}
use Rattle.book_index.specs.Stamps.{Positions, above, IsPruned, IsNotedFor}
use Rattle.book_tables.specs.declared.tables.Tables.{Tables}
use Rattle.book_tables.specs.Pieces.{AreStarts}
use Rattle.book_tables.specs.Standing.{IsOldest, StampsStand, IsRegular}
use Rattle.book_tables.specs.Closing.{IsUnsettled}

-- what the tables say of tickets is what the journal says
pub record TicketsStand (tables : Tables) (J : List Event) : Type 0 where
  pub count : length tables.starts.items ≡ starts J
  pub started : AreStarts tables.starts.items J
  pub count_settled : length tables.settled.items ≡ starts J
  pub settled : (t : ℕ) → t < starts J → slice_get tables.settled.items t ≡ Some (list_any (settles t) J)
  pub oldest : IsOldest tables.settled.items tables.oldest
  pub pending : tables.pending ≡ reserved J
  pub stamps : StampsStand J (slice_get tables.starts.items tables.oldest) tables.stamps.stamps
  pub few : map.len tables.stamps.stamps ≤ length J
  pub room_starts : tables.stamps.limit ≤ vec_capacity tables.starts
  pub room_settled : tables.stamps.limit ≤ vec_capacity tables.settled

-- the outcome by the reason not to keep it, by the stamps, and by the bytes, in this order
abbrev pub IsJudged : Option Why → Positions → (stored limit : ℕ) → Started → Offer → Outcome → Type 0
IsJudged (Some why) stamps stored limit s offer out = out ≡ outcome.Unstorable why
IsJudged None stamps stored limit s offer out = (last : Option ℕ) × IsLast (IsNotedFor stamps s.key offer.tags) last × (out ≡ due_after (above s.at last) stored (offer_size offer) limit)

-- each ticket below is settled
abbrev pub AreSettled : List Bool → ℕ → Type 0
AreSettled settled n = (t : ℕ) → t < n → slice_get settled t ≡ Some true

-- what is left of the stamps when the oldest open ticket is another: none where there is none, and those above its Start
abbrev pub StampsLeft : (starts : List ℕ) → (before after : ℕ) → (old new : Positions) → Type 0
StampsLeft starts before after old new = ((length starts ≤ after) × (new ≡ map.empty)) ⊎ (((p : ℕ) × (slice_get starts after ≡ Some p) × IsPruned p old new) ⊎ ((after ≡ before) × (new ≡ old)))

-- new says of tickets what a journal says that goes on with a Settle of this one, where old says what it says before
abbrev pub ClosesTicket : Tables → ℕ → Tables → Type 0
ClosesTicket old ticket new = (J : List Event) → IsRegular J → TicketsStand old J → IsUnsettled J ticket → (who : ℕ) (got : Option Got) (out : Outcome) → TicketsStand new (J ++ Settle who ticket got out ∷ [])

-- new says of pieces what old says
pub record KeepsPieces (old new : Tables) : Type 0 where
  pub bytes : new.bytes ≡ old.bytes
  pub keys : new.keys ≡ old.keys
  pub holders : new.holders ≡ old.holders

-- new says of tickets what old says
pub record KeepsTickets (old new : Tables) : Type 0 where
  pub starts : new.starts ≡ old.starts
  pub settled : new.settled ≡ old.settled
  pub oldest : new.oldest ≡ old.oldest
  pub pending : new.pending ≡ old.pending
  pub stamps : new.stamps.stamps ≡ old.stamps.stamps
  pub limit : new.stamps.limit ≡ old.stamps.limit
