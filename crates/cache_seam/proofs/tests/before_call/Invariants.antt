use Rattle.std.proofs.Common.{All}
use Rattle.cache_seam.specs.Meddling.{IsFitting, steps_of}
use Rattle.cache_seam.proofs.tests.before_call.Given as goal

abbrev pub invariant-loop : goal.invariant-loop
invariant-loop g l = All (All IsFitting) (steps_of l.lists.items)
