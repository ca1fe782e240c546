use Rattle.std.proofs.Common.{◌≡◌, ◌∙◌, ◌≤◌, ◌-◌, ◌+◌, ◌*◌, min, get_or, arith}
use Rattle.std.proofs.lemmas.Grind.{common_steps}
use Rattle.cache_control.proofs.Digits.{more_seconds}
use Rattle.cache_control.proofs.rules.seconds_of.Goals as goal

pub loop-digit-preserved : goal.loop-digit-preserved
loop-digit-preserved c =
    let low : 48 ≤ get_or c.args.text.now c.loop-digit.digit-index 0 = grind (arith, common_steps) in
    let high : get_or c.args.text.now c.loop-digit.digit-index 0 ≤ 57 = grind (arith, common_steps) in
    let stepped : c.min-seconds.result ≡ min (c.loop-digit.seconds * 10 + (get_or c.args.text.now c.loop-digit.digit-index 0 - 48)) 2147483648 = grind (arith, common_steps) in
    record {
      digits = grind (arith, common_steps);
      counted = stepped ∙ more_seconds c.args.text.now c.loop-digit.digit-index c.loop-digit.seconds (omega arith) low high c.loop-digit.invariant.counted;
    }
