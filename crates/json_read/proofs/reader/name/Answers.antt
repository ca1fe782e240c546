use Rattle.std.proofs.Common.{sym, ◌∙◌, arith}
use Rattle.std.proofs.lemmas.Result.{err_from_is_err_and}
use Rattle.json_read.proofs.Values.{name_ended, name_bad, name_text_fails, name_twice, colon_ended, colon_bad, name_read}
use Rattle.json_read.proofs.reader.name.Goals as goal

pub returns-then-quote-bytes-clause-reads : goal.returns-then-quote-bytes-clause-reads
returns-then-quote-bytes-clause-reads c = name_ended c.args.bytes.now c.args.at c.blanks-quote.result c.args.members.now c.if-quote-bytes.true c.blanks-quote.ensures.skips

pub returns-then-bytes-quote-ne34-clause-reads : goal.returns-then-bytes-quote-ne34-clause-reads
returns-then-bytes-quote-ne34-clause-reads c =
    name_bad c.args.bytes.now c.args.at c.blanks-quote.result c.args.members.now (omega arith) (c.blanks-quote.ensures.ends (omega arith)) c.if-bytes-quote-ne34.true c.blanks-quote.ensures.skips

pub returns-in_err-name-clause-reads : goal.returns-in_err-name-clause-reads
returns-in_err-name-clause-reads c =
    let k = err_from_is_err_and c.from_residual.result c.from_residual.ensures.1 in
    rw (k.1, k.2) (name_text_fails c.args.bytes.now c.args.at c.blanks-quote.result c.args.members.now _ (omega arith) c.if-bytes-quote-ne34.false c.blanks-quote.ensures.skips c.in_err-name.ensures)

pub returns-then-branch-clause-reads : goal.returns-then-branch-clause-reads
returns-then-branch-clause-reads c =
    name_twice c.args.bytes.now c.args.at c.blanks-quote.result c.in_ok-name.end c.in_ok-name.name c.args.members.now (omega arith) c.if-bytes-quote-ne34.false c.blanks-quote.ensures.skips c.in_ok-name.ensures (sym c.in_ok-meets.ensures.met ∙ c.if-branch.true)

pub returns-then-colon-bytes-clause-reads : goal.returns-then-colon-bytes-clause-reads
returns-then-colon-bytes-clause-reads c =
    colon_ended c.args.bytes.now c.args.at c.blanks-quote.result c.in_ok-name.end c.blanks-colon.result c.in_ok-name.name c.args.members.now (omega arith) c.if-bytes-quote-ne34.false c.blanks-quote.ensures.skips c.in_ok-name.ensures (sym c.in_ok-meets.ensures.met ∙ c.if-branch.false)
    c.blanks-colon.ensures.skips c.if-colon-bytes.true

pub returns-then-bytes-colon-ne58-clause-reads : goal.returns-then-bytes-colon-ne58-clause-reads
returns-then-bytes-colon-ne58-clause-reads c =
    colon_bad c.args.bytes.now c.args.at c.blanks-quote.result c.in_ok-name.end c.blanks-colon.result c.in_ok-name.name c.args.members.now (omega arith) c.if-bytes-quote-ne34.false c.blanks-quote.ensures.skips c.in_ok-name.ensures (sym c.in_ok-meets.ensures.met ∙ c.if-branch.false)
    c.blanks-colon.ensures.skips (omega arith) (c.blanks-colon.ensures.ends (omega arith)) c.if-bytes-colon-ne58.true

pub returns-clause-reads : goal.returns-clause-reads
returns-clause-reads c =
    name_read c.args.bytes.now c.args.at c.blanks-quote.result c.in_ok-name.end c.blanks-colon.result c.in_ok-name.name c.args.members.now c.blanks-quote.ensures.after (omega arith) c.if-bytes-quote-ne34.false c.blanks-quote.ensures.skips c.in_ok-name.ensures (sym c.in_ok-meets.ensures.met ∙ c.if-branch.false)
    c.blanks-colon.ensures.skips c.blanks-colon.ensures.after (omega arith) c.if-bytes-colon-ne58.false
