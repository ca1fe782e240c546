use Rattle.std.proofs.Common.{arith, get_or, sym}
use Rattle.http_wire.proofs.Numbers.{is_small, one_more, next_number, low_digit, high_digit, digit_worth, digits_more}
use Rattle.http_wire.proofs.lengths.number_of.Goals as goal

pub overflow_mul-number : goal.overflow_mul-number
overflow_mul-number c = let small = is_small c.loop-digit.number c.loop-digit.digit-index _ c.loop-digit.invariant.below c.loop-digit-test.true c.if-value-gt15.false in omega arith

pub overflow_add-number : goal.overflow_add-number
overflow_add-number c =
    let small = is_small c.loop-digit.number c.loop-digit.digit-index _ c.loop-digit.invariant.below c.loop-digit-test.true c.if-value-gt15.false in
    let high = high_digit (get_or c.args.value.now c.loop-digit.digit-index 0) (sym c.if-not-is_ascii_digit.ensures.value) in
    omega arith

pub loop-digit-preserved : goal.loop-digit-preserved
loop-digit-preserved c =
    let digit = sym c.if-not-is_ascii_digit.ensures.value in
    let low = low_digit (get_or c.args.value.now c.loop-digit.digit-index 0) digit in
    let high = high_digit (get_or c.args.value.now c.loop-digit.digit-index 0) digit in
    record {
      number = next_number _ _ _ _ c.loop-digit-test.true c.loop-digit.invariant.number (digit_worth _ digit);
      digits = digits_more _ _ c.loop-digit-test.true c.loop-digit.invariant.digits digit;
      below = one_more _ _ _ c.loop-digit.invariant.below (omega arith);
    }
