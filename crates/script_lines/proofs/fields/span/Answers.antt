use Rattle.std.proofs.Common.{◌≡◌, ◌≤◌, arith}
use Rattle.script_lines.proofs.Numbers.{number_same}
use Rattle.script_lines.proofs.fields.span.Goals as goal

pub returns-then-n-gt2147483648 : goal.returns-then-n-gt2147483648
returns-then-n-gt2147483648 c n h =
    let same : c.in_ok-n.n ≡ n = number_same c.args.word.now c.in_ok-n.n n c.in_ok-n.ensures h.number in
    let within : n ≤ 2147483648 = h.within in
    omega arith
