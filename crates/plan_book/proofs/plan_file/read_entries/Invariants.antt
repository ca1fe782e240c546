use Rattle.std.proofs.Common.{drop}
use Rattle.plan_book.proofs.Entering.{EntriesRun}
use Rattle.plan_book.proofs.plan_file.read_entries.Given as goal

abbrev pub invariant-loop-i : goal.invariant-loop-i
invariant-loop-i l = EntriesRun l.values (drop l.i l.values) l.i l.book.entries.items
