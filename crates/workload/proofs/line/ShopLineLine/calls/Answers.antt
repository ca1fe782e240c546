use Rattle.std.proofs.Common.{◌≡◌, length, arith}
use Rattle.line_base.specs.Told.{entries_told}
use Rattle.line_base.proofs.Scripts.{length_entries}
use Rattle.workload.proofs.line.ShopLineLine.calls.Goals as goal

pub returns : goal.returns
returns c =
    let many : length (entries_told c.self.inside.log.items) ≡ length c.self.inside.log.items = length_entries c.self.inside.log.items in
    rw (← c.self.view_is) (omega (arith, many, c.len.ensures, c.self.inside.log.ok.0, c.len.type_inv))
