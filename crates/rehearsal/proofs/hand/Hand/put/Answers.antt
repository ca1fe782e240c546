use Rattle.std.proofs.Common.{ap, ◌∙◌}
use Rattle.std.specs.FinMap as map
use Rattle.rehearsal.proofs.Maps.{get_is, insert_is, name_total, name_same}
use Rattle.rehearsal.proofs.hand.Hand.put.Goals as goal
use Rattle.rehearsal.proofs.hand.Hand.put.Goals.{in-Ok-None, in-Err}

pub unreachable-requires : goal.unreachable-requires
unreachable-requires c =
    let free = get_is name_total c.self.inside.permits.entries (c.epoch.result, c.args.ticket) in
    let here = ap (λ m. map.get m (c.epoch.result, c.args.ticket)) c.self.view_is in
    let named = ap (λ k. map.get c.args.self.now (k, c.args.ticket)) c.epoch.ensures in
    cc (c.requires, c.in-Ok-Some.ensures.old)

pub returns-clause-ok : goal.returns-clause-ok
returns-clause-ok c = elim c.match-insert.branch [
  | in-Ok-None w ↦ rw w.result-is
      (insert_is name_total name_same c.self.inside.permits.entries c.insert.new.self.entries (c.epoch.result, c.args.ticket) c.args.permit (w.in-Ok-None.ensures.updates.0)
      ∙ ap (λ m. map.insert m (c.epoch.result, c.args.ticket) c.args.permit) c.self.view_is ∙ ap (λ k. map.insert c.args.self.now (k, c.args.ticket) c.args.permit) c.epoch.ensures)
  | in-Err w ↦ rw w.result-is tt
]
