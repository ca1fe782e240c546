use Rattle.std.proofs.Common.{◌≤◌, length, arith}
use Rattle.plan_book.proofs.Noding.{IfOk-map}
use Rattle.plan_book.proofs.LawfulEntries.{entries_lawful}
use Rattle.plan_book.proofs.plan_file.read_plans.Goals as goal

pub returns-clause-lawful : goal.returns-clause-lawful
returns-clause-lawful c =
    let low : length c.as_slice.result.now ≤ 1000 = rw c.as_slice.ensures (omega arith) in
    IfOk-map c.read_entries.result c.read_entries.ensures.entries (λ book h. entries_lawful c.as_slice.result.now book.entries.items low h)
