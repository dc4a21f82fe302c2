use Rattle.std.proofs.Common.{◌∙◌, ◌++◌, ◌∷◌, [], ap, Option}
use Rattle.od_reconcile.specs.Taken.{Names, names_or_none}
use Rattle.od_reconcile.proofs.FolderNames.{put-name}
use Rattle.od_reconcile.proofs.taken.add_name.Goals as goal

pub returns : goal.returns
returns c = λ q.
    let name = c.args.name in
    put-name c.args.folder q c.push.new.self name c.args.index.now.entries c.remove.new.self.entries c.insert.new.self.entries
    (c.in_ok-push.ensures.ok ∙ ap (λ (ns : Names). ns ++ name ∷ []) (c.names_or_none-names.ensures ∙ ap (λ (o : Option Names). names_or_none o) c.remove.ensures.value))
    (c.remove.ensures.updates.0 q) (c.in_ok-insert.ensures.updates.0 q)
