use Rattle.std.proofs.Common.{All}
use Rattle.std.specs.VecDeque.{deque_len}
use Rattle.cache_model.specs.State.{State}
use Rattle.cache_book.specs.Permits.{Pinned}
use Rattle.cache_seam.specs.Meddling.{IsFitting, Meddles}
use Rattle.cache_seam.proofs.foreign.meddle.Given as goal

-- what does the rest completes the whole
abbrev pub invariant-meddling : goal.invariant-meddling
invariant-meddling l = record {
  done : (s : State) (p : Pinned) → Meddles l.steps.items l.pass l.book s p → Meddles l.fn.steps.items l.fn.pass l.fn.book s p;
  fits : All IsFitting l.steps.items;
}

abbrev pub decreases-meddling : goal.decreases-meddling
decreases-meddling l = deque_len l.steps
