use Rattle.std.proofs.Common.{List, ap, ◌∙◌}
use Rattle.od_tree.specs.declared.entry.Entry.{Entry}
use Rattle.od_sync.specs.Visits.{turns, pushed}
use Rattle.od_sync.proofs.Looks.{listed-some, listed-none}
use Rattle.od_sync.proofs.scanning.visit_folder.Goals as goal

pub returns-in_ok-push-in-Some-clause-found : goal.returns-in_ok-push-in-Some-clause-found
returns-in_ok-push-in-Some-clause-found g c =
    listed-some c.args.at c.in_ok-entries.entries c.in-Some.entries c.args.found.now.items c.push.new.self.items (turns c.args.waiting.now.items) (turns c.push_entries.new.waiting.items)
    (g.T.Tree.log c.args.tree.now) (g.T.Tree.log c.look_at_folder.new.tree) c.requires c.in-Some.is c.in_ok-push-in-Some.ensures.items
    (c.in_ok-push_entries-in-Some.ensures ∙ ap (λ (entries : List Entry). pushed c.args.at entries (turns c.args.waiting.now.items)) c.as_slice.ensures) c.in_ok-entries.ensures.found

pub returns-in-None-clause-found : goal.returns-in-None-clause-found
returns-in-None-clause-found g c =
    listed-none c.args.at c.in_ok-entries.entries c.args.found.now.items (turns c.args.waiting.now.items) (g.T.Tree.log c.args.tree.now) (g.T.Tree.log c.look_at_folder.new.tree) c.requires c.in-None.is c.in_ok-entries.ensures.found
