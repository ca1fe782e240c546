-- What a settle answers and leaves.
use Rattle.std.specs.Prelude.{◌≡◌, ℕ, ◌≤◌, ◌==◌, List, [], ◌∷◌, ◌++◌, length, is_some, MatchBool, Option, Some, None}
use Rattle.cache_terms.specs.declared.events.Got.{Got}
use Rattle.cache_terms.specs.declared.events.Event.{Event}
use Rattle.cache_terms.specs.declared.events.Event.TheVariants.{Settle}
use Rattle.cache_terms.specs.declared.events.Mark.{Mark}
use Rattle.cache_terms.specs.declared.events.Mark.TheVariants as mark
use Rattle.cache_book.specs.declared.answers.Settled.{Settled}
use Rattle.cache_terms.specs.declared.events.Outcome.{Outcome}
use Rattle.cache_terms.specs.declared.events.Outcome.TheVariants as outcome
use Rattle.cache_book.specs.declared.permit.Report.{Report}
use Rattle.cache_book.specs.declared.permit.Report.TheVariants as report
use Rattle.cache_model.specs.Journal.{Started, IsOpen}
use Rattle.cache_model.specs.Legal.{IsDue}
use Rattle.cache_model.specs.State.{State}
use Rattle.book_tables.specs.Closing as closing
pub use Rattle.book_tables.specs.Closing.{value_kept, got_of}
use Rattle.cache_book.specs.Permits.{Granted}

-- what the journal keeps of a report
abbrev pub got_by : Report → Outcome → Option Got
got_by report.Failed out = None
got_by (report.Got offer) out = Some (got_of offer out)

-- the lifetime and age of an offer are in their range
abbrev pub IsInRange : Report → Type 0
IsInRange report.Failed = Unit {0}
IsInRange (report.Got offer) = (offer.verdict.lifetime ≤ 2147483648) × (offer.verdict.age ≤ 2147483648)

-- the ticket is open, and its Start is of this caller
pub record IsOwedTo (J : List Event) (ticket who : ℕ) : Type 0 where
  pub start : Started
  pub unsettled : IsOpen J ticket start
  pub by : who ≡ start.who

-- the ticket is open, and its Start is the permit's
pub record IsOwed (s : State) (ticket : ℕ) (p : Granted) : Type 0 where
  pub start : Started
  pub unsettled : IsOpen s.journal ticket start
  pub who : start.who ≡ p.who
  pub key : start.key ≡ p.key
  pub named : is_some start.id ≡ p.named

abbrev pub MayBy : Mark → State → Granted → Type 0
MayBy (mark.Ticket ticket) s p = p.epoch ≡ s.epoch → IsOwed s ticket p
MayBy other s p = Unit {0}

-- a permit with a ticket of the current epoch may be settled where the ticket is open
abbrev pub MaySettle : State → Granted → Type 0
MaySettle s p = MayBy p.mark s p

-- the probes so far, once a report is settled with the outcome
abbrev pub probes_after : ℕ → Report → Outcome → ℕ
probes_after probes report.Failed out = closing.probes_after probes None out
probes_after probes (report.Got offer) out = closing.probes_after probes (Some offer) out

-- one Settle is appended, with the outcome that is due
pub record Appends (old : State) (ticket : ℕ) (p : Granted) (r : Report) (answer : Settled) (new : State) : Type 0 where
  pub start : Started
  pub unsettled : IsOpen old.journal ticket start
  pub due : IsDue old.limits old.journal start (got_by r answer.outcome) answer.outcome
  pub position : answer.position ≡ Some (length old.journal)
  pub after : new ≡ record old { journal = old.journal ++ Settle p.who ticket (got_by r answer.outcome) answer.outcome ∷ []; probes = probes_after old.probes r answer.outcome }

-- nothing is appended
pub record Leaves (old : State) (out : Outcome) (answer : Settled) (new : State) : Type 0 where
  pub answer_is : answer ≡ record { position = None; outcome = out }
  pub same : new ≡ old

abbrev pub SettlesBy : Mark → State → Granted → Report → Settled → State → Type 0
SettlesBy (mark.Ticket ticket) old p r answer new = MatchBool (p.epoch == old.epoch) (Appends old ticket p r answer new) (Leaves old (outcome.Over p.epoch old.epoch) answer new)
SettlesBy other old p r answer new = Leaves old outcome.Bypassed answer new

-- what settling the permit by the report answers and leaves
abbrev pub Settles : State → Granted → Report → Settled → State → Type 0
Settles old p r answer new = SettlesBy p.mark old p r answer new
