-- What a settle keeps of an offer, and what it answers and leaves.
use Rattle.std.specs.Prelude.{◌≡◌, ℕ, ◌+◌, ◌-◌, ◌^◌, min, Bool, true, false, if◌then◌else◌, List, [], ◌∷◌, ◌++◌, length, Option, Some, None}
use Rattle.cache_terms.specs.declared.offers.Offer.{Offer}
use Rattle.cache_terms.specs.declared.events.Got.{Got}
use Rattle.cache_terms.specs.declared.events.Event.{Event}
use Rattle.cache_terms.specs.declared.events.Event.TheVariants.{Settle, Invalidate}
use Rattle.cache_terms.specs.declared.events.Limits.{Limits}
use Rattle.cache_terms.specs.declared.events.Outcome.{Outcome}
use Rattle.cache_terms.specs.declared.events.Outcome.TheVariants as outcome
use Rattle.cache_terms.specs.declared.keys.Target.{Target}
use Rattle.cache_terms.specs.Offers.{offer_size}
use Rattle.cache_model.specs.Journal.{Started, start_of, IsOpen, IsHeld, bytes}
use Rattle.cache_model.specs.Legal.{IsDue}
use Rattle.book_index.specs.Stamps.{known_tags}
use Rattle.book_tables.specs.declared.tables.Tables.{Tables}
use Rattle.book_tables.specs.Pieces.{Keyed, Targeted}
use Rattle.book_tables.specs.Standing.{StandsFor}

-- the value, where it is stored
abbrev pub value_kept : Outcome → List ℕ → Option (List ℕ)
value_kept outcome.Stored value = Some value
value_kept out value = None

-- what a journal keeps of an offer
abbrev pub got_of : Offer → Outcome → Got
got_of offer out = record { value = value_kept out offer.value; size = offer_size offer; tags = offer.tags; verdict = offer.verdict; marks = offer.marks }

-- what a journal keeps of an offer or of none, which is a fetch that failed
abbrev pub got_by : Option Offer → Outcome → Option Got
got_by None out = None
got_by (Some offer) out = Some (got_of offer out)

-- the outcome is due to the Start of the ticket
abbrev pub IsDueTo : Limits → List Event → ℕ → Option Got → Outcome → Type 0
IsDueTo limits J ticket got out = (s : Started) → start_of J ticket ≡ Some s → IsDue limits J s got out

-- the ticket is open
abbrev pub IsUnsettled : List Event → ℕ → Type 0
IsUnsettled J ticket = (s : Started) × IsOpen J ticket s

-- the outcome is one for which the stamps are asked
abbrev pub is_judged : Outcome → Bool
is_judged outcome.Stored = true
is_judged (outcome.Void at) = true
is_judged (outcome.NoRoom stored size limit) = true
is_judged outcome.Memory = true
is_judged out = false

-- a probe for the subgraph, one for the type and one for each known tag, up to the greatest number
abbrev pub probes_after : ℕ → Option Offer → Outcome → ℕ
probes_after probes None out = probes
probes_after probes (Some offer) out = if is_judged out then min (probes + (length (known_tags offer.tags) + 2)) (2 ^ 64 - 1) else probes

-- new stands for the journal that goes on with this Settle of any caller
abbrev pub StandsSettled : Tables → List Event → ℕ → Option Got → Outcome → Type 0
StandsSettled new J ticket got out = (who : ℕ) → StandsFor new (J ++ Settle who ticket got out ∷ [])

-- new stands for the journal that goes on with this Invalidate of any caller
abbrev pub StandsVoided : Tables → List Event → Target → ℕ → Type 0
StandsVoided new J target count = (who : ℕ) → StandsFor new (J ++ Invalidate who target count ∷ [])

-- SERVES PRIVATE CLAUSES AND PROOFS ALONE

-- new says of pieces what a journal says that goes on with this Settle
pub record Filled (new : Tables) (J : List Event) (ticket : ℕ) (got : Option Got) (out : Outcome) : Type 0 where
  pub bytes : (who : ℕ) → new.bytes ≡ bytes (J ++ Settle who ticket got out ∷ [])
  pub keyed : (who : ℕ) → Keyed new.keys (IsHeld (J ++ Settle who ticket got out ∷ []))
  pub targeted : (who : ℕ) → Targeted new.holders (IsHeld (J ++ Settle who ticket got out ∷ []))
