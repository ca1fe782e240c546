use Rattle.book_tables.specs.Halves.{AreSettled}
use Rattle.book_tables.proofs.closing.first_open.Given as goal

abbrev pub invariant-loop-ticket : goal.invariant-loop-ticket
invariant-loop-ticket l = AreSettled l.settled l.ticket
