-- A line with its part of a round, and what running it does.
use Rattle.std.specs.Prelude.{◌≡◌, ◌≢◌, ℕ, ◌<◌, List, [], ◌∷◌, ◌++◌, length, All, slice_index_or, Result}
use Rattle.cache_terms.specs.declared.events.Reply.{Reply}
use Rattle.line_base.specs.declared.line.LineFault.{LineFault}
use Rattle.line_base.specs.declared.lane.Work.{Work}
use Rattle.line_base.specs.Lines as lines
use Rattle.line_base.specs.Lines.{Fetches, Entry, names_of, told_of}

pub record LaneOf (L : Type 0) : Type 0 where
  pub line : L
  pub works : List Work
  -- the answers of the works, in order, once the lane has run
  pub answers : List (Result Reply LineFault)

-- what a fetch asks for: at least one piece, and all of the call's subgraph
pub record AsksRightly (work : Work) : Type 0 where
  pub some : work.permits.items ≢ []
  pub named : All (λ p. p.key.sub ≡ work.call.name) work.permits.items

-- each work was fetched, in order, and once
abbrev pub AreFetched : lines.Line → List Work → List (Result Reply LineFault) → lines.Line → Type 0
AreFetched old [] [] new = new ≡ old
AreFetched old (work ∷ works) (answer ∷ answers) new = (mid : lines.Line) × Fetches old work.permits.items work.call answer mid × AreFetched mid works answers new
AreFetched old [] (answer ∷ answers) new = ⊥
AreFetched old (work ∷ works) [] new = ⊥

-- a lane that ran: its works stand as before, and were fetched over its line
pub record Ran {L : Type 0} (line : L → lines.Line) (old new : LaneOf L) : Type 0 where
  pub works : new.works ≡ old.works
  pub fetched : AreFetched (line old.line) old.works new.answers (line new.line)

-- each lane ran
pub record EachRan {L : Type 0} (line : L → lines.Line) (old new : List (LaneOf L)) : Type 0 where
  pub length_is : length new ≡ length old
  pub ran : (i : ℕ) (d : LaneOf L) → i < length old → Ran line (slice_index_or old i d) (slice_index_or new i d)

-- what a log tells of the fetches
abbrev pub told_by_all : List Work → List (Result Reply LineFault) → List Entry
told_by_all [] answers = []
told_by_all (work ∷ works) [] = []
told_by_all (work ∷ works) (answer ∷ answers) = told_of (record { permits = names_of work.permits.items; call = work.call; answer = answer }) ++ told_by_all works answers
