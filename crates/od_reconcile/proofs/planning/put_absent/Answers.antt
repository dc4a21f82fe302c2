use Rattle.std.proofs.Common.{sym, ◌∙◌, ap, cond, Some, None}
use Rattle.gd_item.specs.declared.item.Item.{Item}
use Rattle.od_merge.specs.Sides.{is_path}
use Rattle.od_reconcile.specs.Above.{or_else}
use Rattle.od_reconcile.proofs.Indexes.{found_at, kept-first, put-key}
use Rattle.od_reconcile.proofs.Listed.{as-item}
use Rattle.od_reconcile.proofs.planning.put_absent.Goals as goal

pub returns-then-contains_key : goal.returns-then-contains_key
returns-then-contains_key c = λ q.
    let old = c.args.index.now.entries in
    as-item q c.args.path.now c.args.item.now old old (kept-first q c.args.path.now c.args.item.now old (sym c.contains_key.ensures ∙ c.if-contains_key.true))

pub returns : goal.returns
returns c = λ q.
    let old = c.args.index.now.entries in
    let new = c.insert.new.self.entries in
    let path = c.args.path.now in
    as-item q path c.args.item.now old new
    (put-key q path c.in_ok-clone.field-0 c.in_ok-copy.copy old new (sym c.contains_key.ensures ∙ c.if-contains_key.false) c.in_ok-clone.ensures.cases (c.in_ok-insert.ensures.updates.0 q)
    ∙ ap (λ (item : Item). or_else (found_at old q) (cond (is_path path q) (Some item) None)) c.in_ok-copy.ensures.cases)
