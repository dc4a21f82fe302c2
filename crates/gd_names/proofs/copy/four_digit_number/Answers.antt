use Rattle.std.proofs.Common.{sym}
use Rattle.gd_names.proofs.FourDigits.{not_digits, are_digits}
use Rattle.gd_names.proofs.copy.four_digit_number.Goals as goal

pub returns-then-not-are_digits : goal.returns-then-not-are_digits
returns-then-not-are_digits c = λ n small. not_digits c.args.digits.now c.in-len4.len_at_least c.in-len4.len_below (sym c.if-not-are_digits.ensures) n

pub returns : goal.returns
returns c = are_digits c.args.digits.now c.in-len4.len_at_least c.in-len4.len_below (sym c.if-not-are_digits.ensures)
