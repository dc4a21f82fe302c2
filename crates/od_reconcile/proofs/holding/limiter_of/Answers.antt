use Rattle.std.proofs.Common.{◌∙◌, ap, filter, subst, List}
use Rattle.od_merge.specs.Core.{is_in}
use Rattle.od_merge.specs.Sides.{is_path}
use Rattle.od_merge.proofs.Lists.{Path}
use Rattle.od_reconcile.specs.Holding.{IsLeast, IsSpelt, has_target, is_large, stays_there}
use Rattle.od_reconcile.specs.Looks.{merge_sides}
use Rattle.od_reconcile.specs.declared.types.Node.{Node}
use Rattle.od_reconcile.proofs.Listed.{any-mapped}
use Rattle.od_reconcile.proofs.holding.limiter_of.Goals as goal

pub returns-clause-ready : goal.returns-clause-ready
returns-clause-ready c = record {
  ready = c.requires;
  stuck = c.in_ok-stuck.ensures;
  full = c.in_ok-full.ensures;
  large = λ path. c.in_ok-large.ensures path
      ∙ (ap (λ (ps : List Path). is_in path ps) (c.as_slice.ensures.value ∙ c.in_ok-found.ensures)
      ∙ any-mapped (is_path path) (λ (entry : Path × Node). is_large entry.1) c.args.entries.now);
  staying = subst (λ (ps : List Path). IsSpelt (filter (stays_there (merge_sides c.args.look.now.merge.now)) ps) c.in_ok-staying.staying.entries) c.requires.paths c.in_ok-staying.ensures;
  least = subst (λ (ps : List Path). IsLeast (filter (has_target (merge_sides c.args.look.now.merge.now)) ps) c.in_ok-least.least.entries) c.requires.paths c.in_ok-least.ensures;
}
