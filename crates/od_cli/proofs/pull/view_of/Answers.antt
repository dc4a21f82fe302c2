use Rattle.std.proofs.Common.{Err, ap, ◌∙◌}
use Rattle.od_cli.proofs.Pulls.{pulled-is, never-bad}
use Rattle.od_cli.proofs.pull.view_of.Goals as goal

pub unreachable-requires-in-Err-BadPages : goal.unreachable-requires-in-Err-BadPages
unreachable-requires-in-Err-BadPages c =
    never-bad c.args.page.now c.take_page.new.self c.in-Err-BadPages.field-0-0.0 c.requires
    (pulled-is c.new.result c.args.page.now c.start-mirror.result c.take_page.new.self c.new.ensures c.start-mirror.ensures c.in_ok-take_page.ensures.ok.0)
    (c.in-Err-BadPages.ensures.bad c.in-Err-BadPages.field-0-0.0 (ap Err c.in-Err-BadPages.field-0-is))

pub returns-in-Ok : goal.returns-in-Ok
returns-in-Ok c =
    c.in-Ok.ensures.ok.items
    ∙ pulled-is c.new.result c.args.page.now c.start-mirror.result c.take_page.new.self c.new.ensures c.start-mirror.ensures c.in_ok-take_page.ensures.ok.0
