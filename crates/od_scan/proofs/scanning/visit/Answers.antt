use Rattle.od_synclist.specs.Rules.{rules_of}
use Rattle.od_scan.specs.Visits.{turns}
use Rattle.od_scan.proofs.Visiting.{as-file, as-folder}
use Rattle.od_scan.proofs.scanning.visit.Goals as goal

pub returns-then-folder : goal.returns-then-folder
returns-then-folder g c =
    as-folder (rules_of c.args.rules.now) c.args.next c.args.found.now.items c.visit_folder.new.found.items (turns c.args.waiting.now.items) (turns c.visit_folder.new.waiting.items) c.visit_folder.result c.if-folder.true
    c.visit_folder.ensures

pub returns-else-folder : goal.returns-else-folder
returns-else-folder g c =
    as-file (rules_of c.args.rules.now) c.args.next c.args.found.now.items c.visit_file.new.found.items (turns c.args.waiting.now.items) c.visit_file.result c.if-folder.false c.visit_file.ensures
