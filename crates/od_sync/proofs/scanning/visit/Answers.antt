use Rattle.std.proofs.Common.{◌≡◌, ◌++◌}
use Rattle.od_sync.specs.Findings.{digest_at, found_file}
use Rattle.od_sync.specs.Visits.{Sees, Visits, turns}
use Rattle.od_sync.proofs.Looks.{on-ok, file-visit}
use Rattle.od_sync.proofs.scanning.visit.Goals as goal

pub returns-else-folder-clause-found : goal.returns-else-folder-clause-found
returns-else-folder-clause-found g c =
    let before = g.T.Tree.log c.args.tree.now in
    let after = g.T.Tree.log c.visit_file.new.tree in
    on-ok c.visit_file.result
    (Sees c.args.found.now.items c.visit_file.new.found.items (λ spots. c.visit_file.new.found.items ≡ c.args.found.now.items ++ found_file c.args.next.path (digest_at c.args.next.path spots)) before after)
    (Sees c.args.found.now.items c.visit_file.new.found.items (Visits c.args.next.path c.args.next.folder c.args.found.now.items c.visit_file.new.found.items (turns c.args.waiting.now.items) (turns c.args.waiting.now.items)) before after)
    (file-visit c.args.next.path c.args.next.folder c.args.found.now.items c.visit_file.new.found.items (turns c.args.waiting.now.items) before after c.if-folder.false)
    c.visit_file.ensures.found
