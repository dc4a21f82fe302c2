use Rattle.std.proofs.Common.{arith}
use Rattle.gd_item.proofs.Hex.{digit_room, digit_below, digit_number, digit_hex}
use Rattle.gd_item.proofs.id.hex_number.Goals as goal

pub overflow_mul-number : goal.overflow_mul-number
overflow_mul-number c = omega (arith, digit_room c.loop-digit.number c.loop-digit.digit-index c.loop-digit.invariant.small (omega arith))

pub overflow_add-number : goal.overflow_add-number
overflow_add-number c =
    omega (arith, digit_room c.loop-digit.number c.loop-digit.digit-index c.loop-digit.invariant.small (omega arith), c.in_ok-number.ensures.below)

pub loop-digit-preserved : goal.loop-digit-preserved
loop-digit-preserved c = record {
  number = digit_number c.args.digits.now c.loop-digit.digit-index c.loop-digit.number c.in_ok-number.field-0 (omega arith) c.loop-digit.invariant.number c.in_ok-number.ensures.value;
  hex = digit_hex c.args.digits.now c.loop-digit.digit-index c.in_ok-number.field-0 (omega arith) c.loop-digit.invariant.hex c.in_ok-number.ensures.value;
  small = digit_below c.loop-digit.number c.in_ok-number.field-0 c.loop-digit.digit-index c.loop-digit.invariant.small c.in_ok-number.ensures.below;
}
