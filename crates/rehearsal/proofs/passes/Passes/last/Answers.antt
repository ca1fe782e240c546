use Rattle.std.proofs.Common.{ap, sym, ◌∙◌}
use Rattle.std.specs.FinMap as map
use Rattle.std.proofs.lemmas.Cmp.{nat_cmp_total}
use Rattle.rehearsal.proofs.Maps.{get_is}
use Rattle.rehearsal.proofs.passes.Passes.last.Goals as goal

pub returns : goal.returns
returns c = c.copied.ensures ∙ c.get.ensures.value ∙ sym (get_is nat_cmp_total c.self.inside.passes.entries c.args.who) ∙ ap (λ m. map.get m c.args.who) c.self.view_is
