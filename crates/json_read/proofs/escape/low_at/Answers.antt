use Rattle.std.proofs.lemmas.Result.{err_from_is_err_and}
use Rattle.json_read.proofs.Strings.{slash_fails, letter_fails, first_low_fails, second_low_fails, third_low_fails, fourth_low_fails, pair_read}
use Rattle.json_read.proofs.escape.low_at.Goals as goal

pub returns-in_err-low_begins : goal.returns-in_err-low_begins
returns-in_err-low_begins c =
    let k = err_from_is_err_and c.from_residual.result c.from_residual.ensures.1 in
    rw (k.1, k.2) (slash_fails c.args.bytes.now c.args.at c.args.place _ c.in_err-low_begins.ensures)

pub returns-in_err-low_begins-2 : goal.returns-in_err-low_begins-2
returns-in_err-low_begins-2 c =
    let k = err_from_is_err_and c.from_residual-in_err-low_begins-2.result c.from_residual-in_err-low_begins-2.ensures.1 in
    rw (k.1, k.2) (letter_fails c.args.bytes.now c.args.at c.args.place _ tt c.in_ok-low_begins.ensures c.in_err-low_begins-2.ensures)

pub returns-in_err-a : goal.returns-in_err-a
returns-in_err-a c =
    let k = err_from_is_err_and c.from_residual-in_err-a.result c.from_residual-in_err-a.ensures.1 in
    rw (k.1, k.2) (first_low_fails c.args.bytes.now c.args.at c.args.place _ tt tt c.in_ok-low_begins.ensures c.in_ok-low_begins-2.ensures c.in_err-a.ensures)

pub returns-in_err-b : goal.returns-in_err-b
returns-in_err-b c =
    let k = err_from_is_err_and c.from_residual-in_err-b.result c.from_residual-in_err-b.ensures.1 in
    rw (k.1, k.2) (second_low_fails c.args.bytes.now c.args.at c.args.place c.in_ok-a.a _ tt tt c.in_ok-low_begins.ensures c.in_ok-low_begins-2.ensures c.in_ok-a.ensures c.in_err-b.ensures)

pub returns-in_err-c : goal.returns-in_err-c
returns-in_err-c c =
    let k = err_from_is_err_and c.from_residual-in_err-c.result c.from_residual-in_err-c.ensures.1 in
    rw (k.1, k.2) (third_low_fails c.args.bytes.now c.args.at c.args.place c.in_ok-a.a c.in_ok-b.b _ tt tt c.in_ok-low_begins.ensures c.in_ok-low_begins-2.ensures c.in_ok-a.ensures c.in_ok-b.ensures c.in_err-c.ensures)

pub returns-in_err-d : goal.returns-in_err-d
returns-in_err-d c =
    let k = err_from_is_err_and c.from_residual-in_err-d.result c.from_residual-in_err-d.ensures.1 in
    rw (k.1, k.2) (fourth_low_fails c.args.bytes.now c.args.at c.args.place c.in_ok-a.a c.in_ok-b.b c.in_ok-c.c _ tt tt c.in_ok-low_begins.ensures c.in_ok-low_begins-2.ensures c.in_ok-a.ensures c.in_ok-b.ensures c.in_ok-c.ensures c.in_err-d.ensures)

pub returns : goal.returns
returns c =
    pair_read c.args.bytes.now c.args.at c.args.place c.in_ok-a.a c.in_ok-b.b c.in_ok-c.c c.in_ok-d.d c.four.result tt tt c.in_ok-low_begins.ensures c.in_ok-low_begins-2.ensures c.in_ok-a.ensures c.in_ok-b.ensures c.in_ok-c.ensures c.in_ok-d.ensures c.four.ensures
