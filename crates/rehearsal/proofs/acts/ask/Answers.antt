use Rattle.std.proofs.Common.{sym, subst}
use Rattle.std.specs.Option.{option_copied}
use Rattle.cache_model.specs.State.{State}
use Rattle.rehearsal.specs.InHand.{IsReady}
use Rattle.rehearsal.proofs.Holding.{looks_ready}
use Rattle.rehearsal.proofs.acts.ask.Goals as goal

pub returns-in_err-answers-clause-ready : goal.returns-in_err-answers-clause-ready
returns-in_err-answers-clause-ready c = subst (λ (s : State). IsReady s c.args.hand.now) (sym c.in_err-answers.ensures.err) c.requires

pub keep-requires-clause-ready : goal.keep-requires-clause-ready
keep-requires-clause-ready c =
    (looks_ready c.args.pass (option_copied c.args.id) c.args.now c.args.key c.args.book.now c.args.hand.now c.only.result c.look.new.self
    (rw (c.in_ok-asks.ensures, c.only.ensures) at c.in_ok-answers.ensures.ok) c.in_ok-answers.ensures.keeps (rw c.only.ensures at c.in_ok-answers.ensures.owed).0 c.requires).ready

pub keep-requires-clause-takeable : goal.keep-requires-clause-takeable
keep-requires-clause-takeable c =
    (looks_ready c.args.pass (option_copied c.args.id) c.args.now c.args.key c.args.book.now c.args.hand.now c.only.result c.look.new.self
    (rw (c.in_ok-asks.ensures, c.only.ensures) at c.in_ok-answers.ensures.ok) c.in_ok-answers.ensures.keeps (rw c.only.ensures at c.in_ok-answers.ensures.owed).0 c.requires).takeable
