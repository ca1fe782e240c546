use Rattle.std.proofs.Common.{ap, ◌∙◌}
use Rattle.std.specs.FinMap as map
use Rattle.std.specs.FinMap.{nat_cmp-IsAntisymmetric}
use Rattle.std.proofs.lemmas.Cmp.{nat_cmp_total}
use Rattle.rehearsal.proofs.Maps.{insert_is}
use Rattle.rehearsal.proofs.passes.Passes.note.Goals as goal
use Rattle.rehearsal.proofs.passes.Passes.note.Goals.{in-Ok, in-Err}

pub returns-clause-ok : goal.returns-clause-ok
returns-clause-ok c = elim c.match-insert.branch [
  | in-Ok w ↦ rw w.result-is
      (insert_is nat_cmp_total nat_cmp-IsAntisymmetric c.self.inside.passes.entries c.insert.new.self.entries c.who.result c.args.pass (w.in-Ok.ensures.updates.0)
      ∙ ap (λ m. map.insert m c.who.result c.args.pass) c.self.view_is ∙ ap (λ k. map.insert c.args.self.now k c.args.pass) c.who.ensures)
  | in-Err w ↦ rw w.result-is tt
]
