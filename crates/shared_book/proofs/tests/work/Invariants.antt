use Rattle.std.proofs.Common.{◌≡◌}
use Rattle.shared_book.proofs.tests.work.Given as goal

abbrev pub invariant-loop-round : goal.invariant-loop-round
invariant-loop-round g l = (g.C.Cache.seen l.cache).home ≡ (g.C.Cache.seen l.initial.cache).home
