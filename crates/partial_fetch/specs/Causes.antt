-- What the errors of an answer say of the line.
use Rattle.std.specs.Prelude.{ℕ, ◌+◌, ◌-◌, ◌^◌, ◌<◌, ◌≤◌, ◌==◌, min, if◌then◌else◌, List, [], ◌∷◌, All}
use Rattle.line_base.specs.Lines.{Line}
use Rattle.piece_fetch.specs.declared.fetched.Cause.{Cause}
use Rattle.piece_fetch.specs.declared.fetched.Cause.TheVariants as cause
use Rattle.plan_run.specs.declared.outcome.PieceError.{PieceError}
use Rattle.partial_fetch.specs.declared.answer.Answer.{Answer}

abbrev pub no_reply : Cause → ℕ
no_reply cause.Unreachable = 1
no_reply (cause.TooLong bytes) = 0
no_reply (cause.Status status) = 0
no_reply (cause.BadReply fault) = 0
no_reply (cause.Subgraph text) = 0

-- how many of these errors say that no reply came from this subgraph
abbrev pub unreachable : ℕ → List PieceError → ℕ
unreachable sub [] = 0
unreachable sub (e ∷ es) = (if e.sub == sub then no_reply e.cause else 0) + unreachable sub es

-- a reply that is said to be too long is above the limit
abbrev pub IsTooLong : Cause → Type 0
IsTooLong (cause.TooLong bytes) = 16384 < bytes
IsTooLong cause.Unreachable = Unit {0}
IsTooLong (cause.Status status) = Unit {0}
IsTooLong (cause.BadReply fault) = Unit {0}
IsTooLong (cause.Subgraph text) = Unit {0}

-- The line failed for each subgraph at least as often as the answer says so, unless the count stands at the greatest number of
-- 64 bits.
pub record HasCauses (l m : Line) (a : Answer) : Type 0 where
  pub failed : (sub : ℕ) → min (l.faults sub + unreachable sub a.errors.items) (2 ^ 64 - 1) ≤ m.faults sub
  pub long : All (λ (e : PieceError). IsTooLong e.cause) a.errors.items
