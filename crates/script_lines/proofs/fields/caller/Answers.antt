use Rattle.std.proofs.Common.{◌≡◌, ◌≤◌, arith}
use Rattle.script_lines.proofs.Numbers.{number_same}
use Rattle.script_lines.proofs.fields.caller.Goals as goal

pub returns-then-n-gt65535 : goal.returns-then-n-gt65535
returns-then-n-gt65535 c n h =
    let same : c.in_ok-n.n ≡ n = number_same c.args.word.now c.in_ok-n.n n c.in_ok-n.ensures h.number in
    let within : n ≤ 65535 = h.within in
    omega arith
