use Rattle.std.proofs.Common.{rules, ◌<◌, length}
use Rattle.std.proofs.lemmas.Bool.{both_ways, cases_lt}
use Rattle.std.proofs.Common.{inl, inr}
use Rattle.json_value.proofs.Digits.{text_whole}
use Rattle.json_value.proofs.wholes.text_number.Goals as goal

pub returns : goal.returns
returns c =
    let long : 0 < length c.args.text.now = search rules in
    text_whole c.digits_number.result c.args.text.now long c.if-text-gt15.false
    (λ same. elim (cases_lt 1 (length c.args.text.now)) [ inl more ↦ absurd (both_ways c.has_leading_zero.result c.if-has_leading_zero.false (c.has_leading_zero.ensures.1 (same, more))) | inr le ↦ le ]) c.digits_number.ensures
