use Rattle.std.proofs.Common.{◌+◌, sym, ◌∙◌, arith}
use Rattle.std.proofs.lemmas.Result.{err_from_is_err_and}
use Rattle.json_read.proofs.Strings.{unit_escape, low_escape, pair_fails, pair_escape}
use Rattle.json_read.proofs.escape.unit_escaped.Goals as goal

pub returns-in_err-low : goal.returns-in_err-low
returns-in_err-low c =
    let k = err_from_is_err_and c.from_residual-in_err-low.result c.from_residual-in_err-low.ensures.1 in
    rw (k.1, k.2) (pair_fails c.args.bytes.now (c.args.at + 2) (c.args.at + 6) c.args.at c.in_ok-unit.unit _ c.in_ok-unit.ensures (sym c.is_high.ensures ∙ c.if-is_high.true) (omega arith) c.in_err-low.ensures)

pub returns-then-is_high : goal.returns-then-is_high
returns-then-is_high c =
    pair_escape c.args.bytes.now (c.args.at + 2) (c.args.at + 6) c.args.at c.in_ok-unit.unit c.in_ok-low.low c.joined.result (c.args.at + 12) c.in_ok-unit.ensures (sym c.is_high.ensures ∙ c.if-is_high.true) (omega arith) c.in_ok-low.ensures c.joined.ensures (omega arith)

pub returns-then-is_low : goal.returns-then-is_low
returns-then-is_low c = low_escape c.args.bytes.now (c.args.at + 2) c.args.at c.in_ok-unit.unit c.in_ok-unit.ensures (sym c.is_high.ensures ∙ c.if-is_high.false) (sym c.is_low.ensures ∙ c.if-is_low.true)

pub returns : goal.returns
returns c =
    unit_escape c.args.bytes.now (c.args.at + 2) c.args.at c.in_ok-unit.unit c.character.result (c.args.at + 6) c.in_ok-unit.ensures (sym c.is_high.ensures ∙ c.if-is_high.false) (sym c.is_low.ensures ∙ c.if-is_low.false) c.character.ensures (omega arith)
