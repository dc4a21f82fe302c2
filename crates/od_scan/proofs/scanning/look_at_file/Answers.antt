use Rattle.std.proofs.Common.{sym, ◌∙◌}
use Rattle.od_synclist.specs.Rules.{rules_of}
use Rattle.od_scan.proofs.Reading.{read-turn, unread-turn}
use Rattle.od_scan.proofs.scanning.look_at_file.Goals as goal

pub returns-then-is_read : goal.returns-then-is_read
returns-then-is_read g c = read-turn (rules_of c.args.rules.now) c.args.at.now c.args.size c.read_file.result (sym c.is_read.ensures ∙ c.if-is_read.true) c.read_file.ensures

pub returns-else-is_read : goal.returns-else-is_read
returns-else-is_read g c = unread-turn (rules_of c.args.rules.now) c.args.at.now c.args.size g.met.O.Outside.laws (sym c.is_read.ensures ∙ c.if-is_read.false)
