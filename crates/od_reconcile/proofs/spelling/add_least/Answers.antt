use Rattle.std.proofs.Common.{◌≡◌, ◌∙◌, Option, true, false, ap, sym, subst}
use Rattle.od_merge.proofs.Lists.{Path}
use Rattle.od_reconcile.specs.Holding.{is_before, lower_path, stands_at}
use Rattle.od_reconcile.proofs.Spellings.{kept-least, put-least}
use Rattle.od_reconcile.proofs.spelling.add_least.Goals as goal

pub returns-then-is_before : goal.returns-then-is_before
returns-then-is_before c = λ q.
    let old = c.args.index.now.entries in
    let path = c.args.path.now in
    let known : is_before (stands_at old c.in_ok-key.key) path ≡ true =
    sym (ap (λ (s : Option Path). is_before s path) c.get.ensures.value) ∙ (sym c.is_before.ensures ∙ c.if-is_before.true) in
    kept-least path c.in_ok-key.key q old c.in_ok-key.ensures known

pub returns : goal.returns
returns c = λ q.
    let old = c.args.index.now.entries in
    let path = c.args.path.now in
    let key = c.key.inside.names in
    let known : is_before (stands_at old c.in_ok-key.key) path ≡ false =
    sym (ap (λ (s : Option Path). is_before s path) c.get.ensures.value) ∙ (sym c.is_before.ensures ∙ c.if-is_before.false) in
    put-least path key c.in_ok-clone.field-0 q old c.insert.new.self.entries (c.key.view_is ∙ c.in_ok-key.ensures) c.in_ok-clone.ensures.cases
    (subst (λ (k : Path). is_before (stands_at old k) path ≡ false) (sym c.key.view_is) known)
    (c.in_ok-insert.ensures.updates.0 (lower_path q))
