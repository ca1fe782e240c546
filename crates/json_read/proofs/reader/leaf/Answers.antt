use Rattle.std.proofs.Common.{◌≢◌, rules, sym}
use Rattle.std.specs.Prelude.{slice_index}
use Rattle.std.proofs.lemmas.Result.{err_from_is_err_and}
use Rattle.json_read.proofs.Values.{str_ok, str_err, null_read, true_read, false_read, value_bad}
use Rattle.json_read.proofs.reader.leaf.Goals as goal

pub returns-in_err-text-in-34 : goal.returns-in_err-text-in-34
returns-in_err-text-in-34 c =
    let k = err_from_is_err_and c.from_residual.result c.from_residual.ensures.1 in
    rw (k.1, k.2) (str_err c.args.bytes.now c.args.at _ c.requires.within c.in-34.is c.in_err-text-in-34.ensures)

pub returns-in_ok-text-in-34 : goal.returns-in_ok-text-in-34
returns-in_ok-text-in-34 c = str_ok c.args.bytes.now c.args.at c.in_ok-text-in-34.end c.in_ok-text-in-34.text c.requires.within c.in-34.is c.in_ok-text-in-34.ensures

pub returns-in-110 : goal.returns-in-110
returns-in-110 c = null_read c.args.bytes.now c.args.at c.word_value.result c.requires.within c.in-110.is c.word_value.ensures

pub returns-in-116 : goal.returns-in-116
returns-in-116 c = true_read c.args.bytes.now c.args.at c.word_value-in-116.result c.requires.within c.in-116.is c.word_value-in-116.ensures

pub returns-in-102 : goal.returns-in-102
returns-in-102 c = false_read c.args.bytes.now c.args.at c.word_value-in-102.result c.requires.within c.in-102.is c.word_value-in-102.ensures

pub returns-in-None : goal.returns-in-None
returns-in-None c =
    let quote : slice_index c.args.bytes.now c.args.at ≢ 34 = search rules in
    let none : slice_index c.args.bytes.now c.args.at ≢ 110 = search rules in
    let verum : slice_index c.args.bytes.now c.args.at ≢ 116 = search rules in
    let falsum : slice_index c.args.bytes.now c.args.at ≢ 102 = search rules in
    value_bad c.args.bytes.now c.args.at c.requires.within c.requires.blank c.requires.list c.requires.object quote none verum falsum (sym c.in-None.ensures)
