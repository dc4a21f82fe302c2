use Rattle.gd_names.proofs.Decimals.{number-between}
use Rattle.gd_names.proofs.numbered.number_between.Goals as goal

pub returns-clause-some : goal.returns-clause-some
returns-clause-some c =
    number-between c.args.text.now c.args.front.now c.args.end.now c.in_ok-left.left.now c.in_ok-digits.digits.now c.in_ok-left.ensures.rest c.in_ok-digits.ensures.rest c.number_of.result c.number_of.ensures.numbers c.number_of.ensures.range
