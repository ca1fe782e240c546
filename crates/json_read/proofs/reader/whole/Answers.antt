use Rattle.std.proofs.lemmas.Result.{err_from_is_err_and}
use Rattle.json_read.proofs.Values.{whole_fails, whole_read, whole_more}
use Rattle.json_read.proofs.reader.whole.Goals as goal

pub returns-in_err-found : goal.returns-in_err-found
returns-in_err-found c =
    let k = err_from_is_err_and c.from_residual.result c.from_residual.ensures.1 in
    rw (k.1, k.2) (whole_fails c.args.bytes.now _ c.in_err-found.ensures)

pub returns-then-end-bytes : goal.returns-then-end-bytes
returns-then-end-bytes c = whole_more c.args.bytes.now c.in_ok-found.found c.in_ok-found.after c.blanks-end.result c.in_ok-found.ensures c.blanks-end.ensures.skips c.if-end-bytes.true (c.blanks-end.ensures.ends c.if-end-bytes.true)

pub returns : goal.returns
returns c = whole_read c.args.bytes.now c.in_ok-found.found c.in_ok-found.after c.blanks-end.result c.in_ok-found.ensures c.blanks-end.ensures.skips c.if-end-bytes.false
