use Rattle.std.proofs.Common.{sym, ◌∙◌, ap, cond, Some, None}
use Rattle.od_merge.specs.Sides.{is_path}
use Rattle.od_merge.proofs.Lists.{Path}
use Rattle.od_reconcile.specs.Above.{or_else}
use Rattle.od_reconcile.specs.Holding.{stands_at}
use Rattle.od_reconcile.proofs.Indexes.{kept-first, put-key}
use Rattle.od_reconcile.proofs.ends.put_absent.Goals as goal

pub returns-then-contains_key : goal.returns-then-contains_key
returns-then-contains_key c = λ q.
    kept-first q c.args.pair.now.1 c.args.pair.now.0 c.args.tos.now.entries (sym c.contains_key.ensures ∙ c.if-contains_key.true)

pub returns : goal.returns
returns c = λ q.
    let old = c.args.tos.now.entries in
    let path = c.args.pair.now.1 in
    put-key q path c.in_ok-clone.field-0 c.in_ok-from.from old c.insert.new.self.entries (sym c.contains_key.ensures ∙ c.if-contains_key.false) c.in_ok-clone.ensures.cases
    (c.in_ok-insert.ensures.updates.0 q)
    ∙ ap (λ (p : Path). or_else (stands_at old q) (cond (is_path path q) (Some p) None)) c.in_ok-from.ensures.cases
