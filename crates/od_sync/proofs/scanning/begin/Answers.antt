use Rattle.std.proofs.Common.{List, ap, ◌∙◌}
use Rattle.od_tree.specs.declared.entry.Entry.{Entry}
use Rattle.od_sync.specs.Visits.{turns, pushed}
use Rattle.od_sync.proofs.Looks.{root-some, root-none}
use Rattle.od_sync.proofs.scanning.begin.Goals as goal

pub returns-in-Some-clause-found : goal.returns-in-Some-clause-found
returns-in-Some-clause-found g c =
    root-some c.root-root.result c.in_ok-entries.entries c.in-Some.entries (turns c.args.waiting.now.items) (turns c.push_entries.new.waiting.items) (g.T.Tree.log c.args.tree.now) (g.T.Tree.log c.look_at_folder.new.tree)
    c.root-root.ensures c.in-Some.is
    (c.in_ok-push_entries-in-Some.ensures ∙ ap (λ (entries : List Entry). pushed c.root-root.result entries (turns c.args.waiting.now.items)) c.as_slice.ensures) c.in_ok-entries.ensures.found

pub returns-clause-found : goal.returns-clause-found
returns-clause-found g c =
    root-none c.root-root.result c.in_ok-entries.entries (turns c.args.waiting.now.items) (g.T.Tree.log c.args.tree.now) (g.T.Tree.log c.look_at_folder.new.tree) c.root-root.ensures c.in-None.is c.in_ok-entries.ensures.found
