use Rattle.std.proofs.Common.{◌≡◌, ◌==◌, List, ap, ◌∙◌, arith}
use Rattle.std.specs.Prelude.{count_by, ◌&&◌, is_none}
use Rattle.line_base.specs.declared.script.Told.{Told}
use Rattle.line_base.specs.Lines.{failures}
use Rattle.line_base.specs.Told.{entries_told}
use Rattle.line_base.proofs.Scripts.{failed_count}
use Rattle.workload.proofs.line.ShopLineLine.faults.Goals as goal

pub returns : goal.returns
returns c =
    let sub = c.args.sub in
    let items = c.self.inside.log.items in
    let many : c.failed_calls.result ≡ failures sub (entries_told items) =
    c.failed_calls.ensures ∙ ap (λ (l : List Told). count_by (λ (t : Told). (t.call.sub == sub) && is_none t.reply) l) c.deref.ensures.value ∙ failed_count sub items in
    rw (← c.self.view_is) (omega (arith, many, c.failed_calls.type_inv))
