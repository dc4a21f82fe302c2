use Rattle.std.proofs.Common.{sym, ◌∙◌}
use Rattle.od_reconcile.proofs.Indexes.{kept-first, put-key}
use Rattle.od_reconcile.proofs.places.put_absent.Goals as goal

pub returns-then-contains_key : goal.returns-then-contains_key
returns-then-contains_key c = λ q. kept-first q c.args.path.now c.args.place c.args.places.now.entries (sym c.contains_key.ensures ∙ c.if-contains_key.true)

pub returns : goal.returns
returns c = λ q.
    put-key q c.args.path.now c.in_ok-clone.field-0 c.args.place c.args.places.now.entries c.insert.new.self.entries (sym c.contains_key.ensures ∙ c.if-contains_key.false)
    c.in_ok-clone.ensures.cases (c.in_ok-insert.ensures.updates.0 q)
