-- Serves private clauses and proofs alone: the lines in the code, and the counts of what they told.
use Rattle.std.specs.Prelude.{◌≡◌, ◌⊎◌, ℕ, ◌+◌, Bool, true, false, if◌then◌else◌, List, [], ◌∷◌, count_by}
use Rattle.std.specs.Io.KnownBytes.{Appends}
use Rattle.flow_base.specs.Causes.{Rose, AppendsFront}
use Rattle.cache_terms.specs.declared.keys.Key.{Key}
use Rattle.cache_terms.specs.declared.events.Mark.{Mark}
use Rattle.cache_terms.specs.declared.events.Mark.TheVariants as mark
use Rattle.line_base.specs.Lines.{Entry, PermitName}
use Rattle.plan_run.specs.declared.outcome.Receipt.{Receipt}
use Rattle.piece_fetch.specs.declared.fetched.Origin.{Origin}
use Rattle.piece_fetch.specs.declared.fetched.Origin.TheVariants as origin
use Rattle.rehearsal.specs.Outside.{Output}
use Rattle.partial_fetch.specs.declared.answer.Answer.{Answer}
use Rattle.workload.specs.declared.counts.Counts.{Counts}
use Rattle.workload.specs.declared.finish.Finish.{Finish}
use Rattle.workload.specs.declared.finish.Finish.TheVariants as finish
use Rattle.workload.specs.declared.steps.Shop.{Shop}
use Rattle.workload.specs.Tallying.{raised}
use Rattle.workload.specs.Steps.{Midway}

-- there is one line, which is seen as its calls
abbrev pub HasOneLine : List (List Entry) → Type 0
HasOneLine lines = (log : List Entry) × (lines ≡ log ∷ [])

abbrev pub first_line : List (List Entry) → List Entry
first_line [] = []
first_line (log ∷ lines) = log

abbrev pub midway : Shop → Midway
midway s = record { cache = s.cache; log = first_line s.lines.items; counts = s.counts }

abbrev pub is_hit : Origin → Bool
is_hit (origin.Hit lookup stored) = true
is_hit (origin.Own line call) = false
is_hit origin.Absent = false

abbrev pub has_hit : Receipt → Bool
has_hit r = is_hit r.origin

abbrev pub is_ticket : Mark → Bool
is_ticket (mark.Ticket ticket) = true
is_ticket (mark.Over pinned current) = false
is_ticket (mark.Full events open_tickets needed limit) = false
is_ticket (mark.Wide bytes limit) = false
is_ticket mark.Retired = false

abbrev pub is_ticketed : ℕ × Mark × Key → Bool
is_ticketed p = is_ticket p.1

-- how many of the permits have a ticket
abbrev pub tickets_named : List PermitName → ℕ
tickets_named [] = 0
tickets_named (n ∷ ns) = (if is_ticket n.mark then 1 else 0) + tickets_named ns

abbrev pub tickets_sent : List Entry → ℕ
tickets_sent [] = 0
tickets_sent (e ∷ es) = tickets_named e.permits + tickets_sent es

-- the counts with a request that had this answer and made these calls
abbrev pub with_answer : Counts → Answer → List Entry → Counts
with_answer c a calls = record { requests = raised c.requests 1; voids = c.voids; hits = raised c.hits (count_by has_hit a.receipts.items); misses = raised c.misses (tickets_sent calls) }

-- the text was written, and this is the finish; or the sink failed, and a front of it was written
abbrev pub WritesAs : List ℕ → Finish → Output → Output → Finish → Type 0
WritesAs text f old new g = ((g ≡ f) × Appends old.written new.written text)
    ⊎ ((g ≡ finish.SinkFailed) × Rose old.faults new.faults × AppendsFront old.written new.written text)
