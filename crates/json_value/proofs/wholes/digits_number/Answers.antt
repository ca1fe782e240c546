use Rattle.std.proofs.Common.{arith, sym, ap, ◌∙◌, ◌+◌, ◌*◌, ℕ, get_or}
use Rattle.json_value.proofs.Digits.{room, more, not_each, digit_bounds}
use Rattle.json_value.proofs.wholes.digits_number.Goals as goal

pub returns-then-not-is_digit : goal.returns-then-not-is_digit
returns-then-not-is_digit c = not_each c.args.digits.now c.loop-i.i c.loop-i-test.true (sym c.is_digit.ensures ∙ c.if-not-is_digit.true)

pub overflow_sub-digit : goal.overflow_sub-digit
overflow_sub-digit c =
    let h = digit_bounds (get_or c.args.digits.now c.loop-i.i 0) (sym c.is_digit.ensures ∙ c.if-not-is_digit.false) in
    omega arith

pub overflow_mul-number : goal.overflow_mul-number
overflow_mul-number c =
    let k = room c.args.digits.now c.loop-i.i c.loop-i.number c.loop-i.invariant.0 c.loop-i.invariant.1 c.loop-i-test.true c.requires in
    omega arith

pub overflow_add-number : goal.overflow_add-number
overflow_add-number c =
    let k = room c.args.digits.now c.loop-i.i c.loop-i.number c.loop-i.invariant.0 c.loop-i.invariant.1 c.loop-i-test.true c.requires in
    let h = digit_bounds (get_or c.args.digits.now c.loop-i.i 0) (sym c.is_digit.ensures ∙ c.if-not-is_digit.false) in
    omega (arith, c.from.ensures)

pub loop-i-preserved : goal.loop-i-preserved
loop-i-preserved c =
    let k = more c.args.digits.now c.loop-i.i c.loop-i.number c.loop-i-test.true c.loop-i.invariant.0 c.loop-i.invariant.1 (sym c.is_digit.ensures ∙ c.if-not-is_digit.false) in
    (k.0, ap (λ (m : ℕ). c.loop-i.number * 10 + m) c.from.ensures ∙ k.1)
