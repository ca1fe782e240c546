use Rattle.std.proofs.Common.{◌∙◌, sym}
use Rattle.std.specs.Prelude.{map}
use Rattle.case_file.specs.Forms.{all_of}
use Rattle.case_file.specs.Requests.{timed_of}
use Rattle.case_file.proofs.Each.{one_more}
use Rattle.case_file.proofs.requests.all_timed.Goals as goal

pub loop-value-preserved : goal.loop-value-preserved
loop-value-preserved c =
    one_more timed_of c.args.values.now c.loop-value.value-index c.value-item.result c.in-Some.timed c.loop-value.made c.push.new.self (all_of (map timed_of c.args.values.now))
    c.loop-value-test.true c.value-item.is (sym c.in_ok-timed.ensures ∙ c.in-Some.is) c.in_ok-push.ensures.ok c.loop-value.invariant
