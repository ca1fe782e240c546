use Rattle.std.proofs.Common.{ap, sym, ◌∙◌}
use Rattle.std.specs.FinMap as map
use Rattle.rehearsal.proofs.Maps.{get_is, remove_is, name_total, name_same}
use Rattle.rehearsal.proofs.hand.Hand.take.Goals as goal

pub returns-clause-taken : goal.returns-clause-taken
returns-clause-taken c =
    c.remove.ensures.value ∙ sym (get_is name_total c.self.inside.permits.entries (c.args.epoch, c.args.ticket)) ∙ ap (λ m. map.get m (c.args.epoch, c.args.ticket)) c.self.view_is

pub returns-clause-left : goal.returns-clause-left
returns-clause-left c =
    remove_is name_total name_same c.self.inside.permits.entries c.remove.new.self.entries (c.args.epoch, c.args.ticket) (c.remove.ensures.updates.0)
    ∙ ap (λ m. map.remove m (c.args.epoch, c.args.ticket)) c.self.view_is
