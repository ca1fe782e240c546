use Rattle.std.proofs.Common.{ap, ◌∙◌}
use Rattle.std.specs.FinMap as map
use Rattle.book_index.specs.Targets.{target_cmp}
use Rattle.book_index.specs.Stamps.{Positions, Stamped, cleared}
use Rattle.book_index.proofs.Maps.{empty_sorted}
use Rattle.book_index.proofs.table.Table.clear.Goals as goal

pub returns : goal.returns
returns c =
    let with : Positions → Stamped = λ m. record { limit = c.self.inside.limit; probes = c.self.inside.steps; stamps = m } in
    ap with (ap map.from_sorted c.clear.ensures.items ∙ empty_sorted target_cmp) ∙ ap cleared c.self.view_is
