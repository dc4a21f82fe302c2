use Rattle.std.proofs.Common.{List, ℕ, ap, sym, subst, arith}
use Rattle.std.specs.Vec.{vec_len}
use Rattle.od_sync.specs.Visits.{turns}
use Rattle.od_sync.specs.declared.scanning.Node.{Node}
use Rattle.od_sync.proofs.Finding.{FindsSoFar, finds-first, finds-next, finds-last, none-left}
use Rattle.od_tree.proofs.LeftAlone.{undisturbed_then}
use Rattle.od_sync.proofs.Looks.{looks-then}
use Rattle.od_sync.proofs.scanning.scan.Goals as goal

pub returns-in_err-visit-in-Some-clause-log : goal.returns-in_err-visit-in-Some-clause-log
returns-in_err-visit-in-Some-clause-log g c =
    looks-then 1 0 (g.T.Tree.log c.args.tree.now) (g.T.Tree.log c.loop-turn.tree) (g.T.Tree.log c.visit.new.tree) c.loop-turn.invariant.log c.visit.ensures.log

pub returns-in_err-visit-in-Some-clause-undisturbed : goal.returns-in_err-visit-in-Some-clause-undisturbed
returns-in_err-visit-in-Some-clause-undisturbed g c =
    let tree = g.T.Tree in
    undisturbed_then (tree.undisturbed c.args.tree.now) (tree.undisturbed c.loop-turn.tree) (tree.undisturbed c.visit.new.tree) (tree.faults c.args.tree.now) (tree.faults c.loop-turn.tree) (tree.faults c.visit.new.tree)
    (tree.log c.args.tree.now) (tree.log c.loop-turn.tree) (tree.log c.visit.new.tree) c.loop-turn.invariant.undisturbed c.visit.ensures.undisturbed

pub loop-turn-preserved : goal.loop-turn-preserved
loop-turn-preserved g c =
    let tree = g.T.Tree in
    record {
      log = looks-then 1 0 (tree.log c.args.tree.now) (tree.log c.loop-turn.tree) (tree.log c.visit.new.tree) c.loop-turn.invariant.log c.visit.ensures.log;
      later = omega (arith, c.loop-turn.invariant.later, c.visit.ensures.cause.later);
      undisturbed = undisturbed_then (tree.undisturbed c.args.tree.now) (tree.undisturbed c.loop-turn.tree) (tree.undisturbed c.visit.new.tree) (tree.faults c.args.tree.now) (tree.faults c.loop-turn.tree) (tree.faults c.visit.new.tree)
          (tree.log c.args.tree.now) (tree.log c.loop-turn.tree) (tree.log c.visit.new.tree) c.loop-turn.invariant.undisturbed c.visit.ensures.undisturbed;
      finds = finds-next c.in-Some.next c.loop-turn.found.items c.visit.new.found.items c.loop-turn.waiting.items c.pop.new.self.items c.visit.new.waiting.items
          (tree.log c.args.tree.now) (tree.log c.loop-turn.tree) (tree.log c.visit.new.tree) c.in-Some.ensures.items c.loop-turn.invariant.finds c.in_ok-visit-in-Some.ensures.found;
    }

pub loop-turn-init : goal.loop-turn-init
loop-turn-init g c = record {
  log = c.in_ok-begin.ensures.log;
  later = c.in_ok-begin.ensures.cause.later;
  undisturbed = c.in_ok-begin.ensures.undisturbed;
  finds = subst (λ (found : List (List (List ℕ) × Node)). FindsSoFar found (turns c.begin.new.waiting.items) (g.T.Tree.log c.args.tree.now) (g.T.Tree.log c.begin.new.tree)) (sym c.new-found.ensures.items)
      (finds-first (turns c.begin.new.waiting.items) (turns c.new-waiting.result.items) (g.T.Tree.log c.args.tree.now) (g.T.Tree.log c.begin.new.tree) (ap turns c.new-waiting.ensures.items) c.in_ok-begin.ensures.found);
}

pub returns-in-None-clause-found : goal.returns-in-None-clause-found
returns-in-None-clause-found g c =
    finds-last c.loop-turn.found.items c.from_vec.result c.loop-turn.waiting.items (g.T.Tree.log c.args.tree.now) (g.T.Tree.log c.loop-turn.tree)
    (none-left c.loop-turn.waiting.items c.pop.new.self.items (vec_len c.loop-turn.waiting) c.in-None.ensures.items c.in-None.ensures.rest c.in-None.ensures.cases.0) c.from_vec.ensures c.loop-turn.invariant.finds
