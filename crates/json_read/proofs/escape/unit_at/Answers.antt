use Rattle.std.proofs.lemmas.Result.{err_from_is_err_and}
use Rattle.json_read.proofs.Strings.{first_digit_fails, second_digit_fails, third_digit_fails, fourth_digit_fails, unit_read}
use Rattle.json_read.proofs.escape.unit_at.Goals as goal

pub returns-in_err-a : goal.returns-in_err-a
returns-in_err-a c =
    let k = err_from_is_err_and c.from_residual.result c.from_residual.ensures.1 in
    rw (k.1, k.2) (first_digit_fails c.args.bytes.now c.args.at _ c.in_err-a.ensures)

pub returns-in_err-b : goal.returns-in_err-b
returns-in_err-b c =
    let k = err_from_is_err_and c.from_residual-in_err-b.result c.from_residual-in_err-b.ensures.1 in
    rw (k.1, k.2) (second_digit_fails c.args.bytes.now c.args.at c.in_ok-a.a _ c.in_ok-a.ensures c.in_err-b.ensures)

pub returns-in_err-c : goal.returns-in_err-c
returns-in_err-c c =
    let k = err_from_is_err_and c.from_residual-in_err-c.result c.from_residual-in_err-c.ensures.1 in
    rw (k.1, k.2) (third_digit_fails c.args.bytes.now c.args.at c.in_ok-a.a c.in_ok-b.b _ c.in_ok-a.ensures c.in_ok-b.ensures c.in_err-c.ensures)

pub returns-in_err-d : goal.returns-in_err-d
returns-in_err-d c =
    let k = err_from_is_err_and c.from_residual-in_err-d.result c.from_residual-in_err-d.ensures.1 in
    rw (k.1, k.2) (fourth_digit_fails c.args.bytes.now c.args.at c.in_ok-a.a c.in_ok-b.b c.in_ok-c.c _ c.in_ok-a.ensures c.in_ok-b.ensures c.in_ok-c.ensures c.in_err-d.ensures)

pub returns : goal.returns
returns c = unit_read c.args.bytes.now c.args.at c.in_ok-a.a c.in_ok-b.b c.in_ok-c.c c.in_ok-d.d c.four.result c.in_ok-a.ensures c.in_ok-b.ensures c.in_ok-c.ensures c.in_ok-d.ensures c.four.ensures
