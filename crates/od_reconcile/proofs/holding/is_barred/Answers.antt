use Rattle.std.proofs.Common.{◌∙◌, ◌||◌, Bool, Option, ap}
use Rattle.od_merge.proofs.Lists.{Path}
use Rattle.od_reconcile.specs.Holding.{Spelt, has_other, is_before, limiter_sides, lower_path, stands_at}
use Rattle.od_reconcile.proofs.Spellings.{barred-is}
use Rattle.od_reconcile.proofs.holding.is_barred.Goals as goal

pub returns : goal.returns
returns c =
    let path = c.args.path.now in
    let staying = c.args.limiter.now.staying.entries in
    let least = c.args.limiter.now.least.entries in
    let kept = c.has_other-kept.ensures
    ∙ (ap (λ (s : Option Spelt). has_other s path) c.get.ensures.value ∙ ap (λ (k : Path). has_other (stands_at staying k) path) c.in_ok-key.ensures) in
    let smaller = c.is_before-smaller.ensures
    ∙ (ap (λ (s : Option Path). is_before s path) c.get-2.ensures.value ∙ ap (λ (k : Path). is_before (stands_at least k) path) c.in_ok-key.ensures) in
    c.is_taken.ensures ∙ ap (λ (b : Bool). b || c.is_before-smaller.result) kept
    ∙ (ap (λ (b : Bool). has_other (stands_at staying (lower_path path)) path || b) smaller
    ∙ barred-is (limiter_sides c.args.limiter.now) path staying least c.requires.staying c.requires.least)
