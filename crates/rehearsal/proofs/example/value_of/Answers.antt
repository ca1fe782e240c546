use Rattle.std.proofs.Common.{None}
use Rattle.rehearsal.proofs.Holding.{looks_one}
use Rattle.rehearsal.proofs.example.value_of.Goals as goal

pub only-requires : goal.only-requires
only-requires c =
    looks_one c.args.pass None c.args.now c.args.key c.args.book.now c.in_ok-answers.answers.items c.look.new.self
    (rw c.in_ok-one.ensures at c.in_ok-answers.ensures.ok)
