use Rattle.std.proofs.Common.{sym}
use Rattle.gd_frame.specs.declared.target.Part.TheVariants.{Blank, Return, Method, Other}
use Rattle.gd_frame.proofs.Targets.{ends, elsewhere}
use Rattle.gd_frame.proofs.target.ends_in_target.Goals as goal

pub returns-in-Target-clause-yes : goal.returns-in-Target-clause-yes
returns-in-Target-clause-yes c = λ e. ends c.args.bytes.now (sym c.in-Target.ensures)

pub returns-in-Blank-clause-no : goal.returns-in-Blank-clause-no
returns-in-Blank-clause-no c = λ e. elsewhere c.args.bytes.now Blank c.in-Blank.ensures (λ is. cc)

pub returns-in-Return-clause-no : goal.returns-in-Return-clause-no
returns-in-Return-clause-no c = λ e. elsewhere c.args.bytes.now Return c.in-Return.ensures (λ is. cc)

pub returns-in-Method-clause-no : goal.returns-in-Method-clause-no
returns-in-Method-clause-no c = λ e. elsewhere c.args.bytes.now Method c.in-Method.ensures (λ is. cc)

pub returns-in-Other-clause-no : goal.returns-in-Other-clause-no
returns-in-Other-clause-no c = λ e. elsewhere c.args.bytes.now Other c.in-Other.ensures (λ is. cc)
