use Rattle.std.proofs.Common.{All}
use Rattle.cache_seam.specs.Meddling.{IsFitting, steps_of}
use Rattle.request_cases.proofs.meddling.before_call.Given as goal

abbrev pub invariant-loop : goal.invariant-loop
invariant-loop l = All (All IsFitting) (steps_of l.lists.items)
