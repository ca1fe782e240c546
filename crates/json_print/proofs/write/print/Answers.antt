use Rattle.std.proofs.Common.{rules, ◌≡◌, ◌∙◌}
use Rattle.std.specs.Prelude.{string_bytes}
use Rattle.std.proofs.lemmas.Result.{IfOk-weaker}
use Rattle.json_print.specs.Print as spec
use Rattle.json_print.proofs.RoundTrip.{printed_again}
use Rattle.json_print.proofs.write.print.Goals as goal

pub returns-clause-reads_back : goal.returns-clause-reads_back
returns-clause-reads_back c =
    let made : string_bytes c.put.new.out ≡ spec.print c.args.value.now = search rules in
    IfOk-weaker c.from_string.result _ _ (λ t same. printed_again t c.args.value.now (same ∙ made)) c.from_string.ensures
