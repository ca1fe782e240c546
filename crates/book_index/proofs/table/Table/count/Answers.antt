use Rattle.book_index.specs.Targets.{target_cmp}
use Rattle.std.proofs.Common.{arith, ap}
use Rattle.std.specs.FinMap as map
use Rattle.book_index.proofs.Maps.{len_sorted}
use Rattle.book_index.proofs.table.Table.count.Goals as goal

pub returns : goal.returns
returns c = omega (arith, c.len.ensures, c.self.inside.rows.ok.0, len_sorted target_cmp c.self.inside.rows.items c.self.invariant.0, ap (λ s. map.len s.stamps) c.self.view_is)
