use Rattle.std.proofs.Common.{◌≡◌}
use Rattle.turn_lock.specs.declared.seats.Stage.TheVariants.{Outside}
use Rattle.turn_lock.proofs.tests.take_turns.Given as goal

abbrev pub invariant-loop : goal.invariant-loop
invariant-loop g l = (l.member.stage ≡ Outside) × (l.member.home ≡ l.fn.member.home)
