use Rattle.std.proofs.Common.{sym, ◌∙◌}
use Rattle.od_reconcile.proofs.Indexes.{as-entry, kept-first, put-key}
use Rattle.od_reconcile.proofs.entries.put_absent.Goals as goal

pub returns-then-contains_key : goal.returns-then-contains_key
returns-then-contains_key c = λ q.
    let old = c.args.index.now.entries in
    as-entry q c.args.path.now c.args.content old old (kept-first q c.args.path.now c.args.content old (sym c.contains_key.ensures ∙ c.if-contains_key.true))

pub returns : goal.returns
returns c = λ q.
    let old = c.args.index.now.entries in
    let new = c.insert.new.self.entries in
    as-entry q c.args.path.now c.args.content old new
    (put-key q c.args.path.now c.in_ok-clone.field-0 c.args.content old new (sym c.contains_key.ensures ∙ c.if-contains_key.false) c.in_ok-clone.ensures.cases (c.in_ok-insert.ensures.updates.0 q))
