use Rattle.std.proofs.Common.{◌∙◌, sym}
use Rattle.std.specs.Prelude.{map}
use Rattle.case_file.specs.Forms.{all_of}
use Rattle.case_file.proofs.Each.{one_more}
use Rattle.workload.specs.Replying.{id_of}
use Rattle.workload.proofs.replying.ids_of.Goals as goal

pub loop-value-preserved : goal.loop-value-preserved
loop-value-preserved c =
    one_more id_of c.args.values.now c.loop-value.value-index c.value-item.result c.in-Some.id c.loop-value.ids c.push.new.self (all_of (map id_of c.args.values.now))
    c.loop-value-test.true c.value-item.is (sym c.id_of.ensures ∙ c.in-Some.is) c.in_ok-push.ensures.ok c.loop-value.invariant
