use Rattle.std.proofs.Common.{sym, ◌∙◌}
use Rattle.od_remote.proofs.Unserved.{lost-tries, tries-unserved}
use Rattle.od_remote.proofs.again.ask_once.Goals as goal

pub returns-then-is_unserved-clause-log : goal.returns-then-is_unserved-clause-log
returns-then-is_unserved-clause-log g c =
    record { told = λ old is. tries-unserved _ c.in-Ok.reply c.requires (sym c.is_unserved.ensures ∙ c.if-is_unserved.true) old _ (c.in-Ok.ensures.log.told old is) }

pub returns-in-Err-Failed-clause-log : goal.returns-in-Err-Failed-clause-log
returns-in-Err-Failed-clause-log g c = record { told = λ old is. lost-tries _ old _ ((rw c.in-Err-Failed.field-0-is at c.in-Err-Failed.ensures.log).told old is) }
