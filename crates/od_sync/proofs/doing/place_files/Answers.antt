use Rattle.std.proofs.Common.{List, drop, subst, arith}
use Rattle.std.proofs.lemmas.List.{drop_all, take_all}
use Rattle.od_sync.specs.Doing.{AreRowsOf}
use Rattle.od_sync.specs.declared.planning.Fetching.{Fetching}
use Rattle.od_sync.proofs.SyncAlone.{tree-then}
use Rattle.od_sync.proofs.Placed.{file-then, places-more, places-last, given-more, fit-here, rows-more}
use Rattle.od_sync.proofs.doing.place_files.Goals as goal

pub place_fetched-requires-clause-fit : goal.place_fetched-requires-clause-fit
place_fetched-requires-clause-fit g c = λ bytes came.
    fit-here c.args.batch.now c.args.outcomes.now c.loop-at.at c.index-batch-at.result c.index-outcomes-at.result _ bytes c.loop-at-test.true c.index-batch-at.is
    (omega (arith, c.requires.same)) c.index-outcomes-at.is c.bytes_of.ensures c.requires.fits came

pub returns-in_err-row-clause-log : goal.returns-in_err-row-clause-log
returns-in_err-row-clause-log g c =
    file-then c.args.batch.now c.args.outcomes.now c.loop-at.at c.index-batch-at.result c.index-outcomes-at.result _
    (g.T.Tree.log c.args.tree.now) (g.T.Tree.log c.loop-at.tree) (g.T.Tree.log c.place_fetched.new.tree) c.loop-at-test.true c.index-batch-at.is
    (omega (arith, c.requires.same)) c.index-outcomes-at.is c.bytes_of.ensures c.loop-at.invariant.log c.place_fetched.ensures.log

pub returns-in_err-row-clause-undisturbed : goal.returns-in_err-row-clause-undisturbed
returns-in_err-row-clause-undisturbed g c =
    tree-then (g.T.Tree.undisturbed c.args.tree.now) (g.T.Tree.undisturbed c.loop-at.tree) (g.T.Tree.undisturbed c.place_fetched.new.tree)
    (g.T.Tree.faults c.args.tree.now) (g.T.Tree.faults c.loop-at.tree) (g.T.Tree.faults c.place_fetched.new.tree)
    (g.T.Tree.log c.args.tree.now) (g.T.Tree.log c.loop-at.tree) (g.T.Tree.log c.place_fetched.new.tree) c.loop-at.invariant.alone c.place_fetched.ensures.undisturbed

pub returns-in_err-push_if_some-clause-log : goal.returns-in_err-push_if_some-clause-log
returns-in_err-push_if_some-clause-log g c =
    file-then c.args.batch.now c.args.outcomes.now c.loop-at.at c.index-batch-at.result c.index-outcomes-at.result _
    (g.T.Tree.log c.args.tree.now) (g.T.Tree.log c.loop-at.tree) (g.T.Tree.log c.place_fetched.new.tree) c.loop-at-test.true c.index-batch-at.is
    (omega (arith, c.requires.same)) c.index-outcomes-at.is c.bytes_of.ensures c.loop-at.invariant.log c.place_fetched.ensures.log

pub returns-in_err-push_if_some-clause-undisturbed : goal.returns-in_err-push_if_some-clause-undisturbed
returns-in_err-push_if_some-clause-undisturbed g c =
    tree-then (g.T.Tree.undisturbed c.args.tree.now) (g.T.Tree.undisturbed c.loop-at.tree) (g.T.Tree.undisturbed c.place_fetched.new.tree)
    (g.T.Tree.faults c.args.tree.now) (g.T.Tree.faults c.loop-at.tree) (g.T.Tree.faults c.place_fetched.new.tree)
    (g.T.Tree.log c.args.tree.now) (g.T.Tree.log c.loop-at.tree) (g.T.Tree.log c.place_fetched.new.tree) c.loop-at.invariant.alone c.place_fetched.ensures.undisturbed

pub loop-at-preserved : goal.loop-at-preserved
loop-at-preserved g c = record {
  within = omega arith;
  log =
      file-then c.args.batch.now c.args.outcomes.now c.loop-at.at c.index-batch-at.result c.index-outcomes-at.result _
      (g.T.Tree.log c.args.tree.now) (g.T.Tree.log c.loop-at.tree) (g.T.Tree.log c.place_fetched.new.tree) c.loop-at-test.true c.index-batch-at.is
      (omega (arith, c.requires.same)) c.index-outcomes-at.is c.bytes_of.ensures c.loop-at.invariant.log c.place_fetched.ensures.log;
  later = omega (arith, c.loop-at.invariant.later, c.place_fetched.ensures.cause.later);
  alone =
      tree-then (g.T.Tree.undisturbed c.args.tree.now) (g.T.Tree.undisturbed c.loop-at.tree) (g.T.Tree.undisturbed c.place_fetched.new.tree)
      (g.T.Tree.faults c.args.tree.now) (g.T.Tree.faults c.loop-at.tree) (g.T.Tree.faults c.place_fetched.new.tree)
      (g.T.Tree.log c.args.tree.now) (g.T.Tree.log c.loop-at.tree) (g.T.Tree.log c.place_fetched.new.tree) c.loop-at.invariant.alone c.place_fetched.ensures.undisturbed;
  placed =
      places-more c.args.batch.now c.args.outcomes.now c.loop-at.at c.index-batch-at.result c.index-outcomes-at.result _
      (g.T.Tree.log c.args.tree.now) (g.T.Tree.log c.loop-at.tree) (g.T.Tree.log c.place_fetched.new.tree) c.loop-at-test.true c.index-batch-at.is
      (omega (arith, c.requires.same)) c.index-outcomes-at.is c.bytes_of.ensures c.loop-at.invariant.placed c.loop-at.invariant.log c.place_fetched.ensures.log c.in_ok-row.ensures.placed;
  given =
      given-more c.loop-at.rows c.push_if_some.new.list c.in_ok-row.row (g.T.Tree.log c.args.tree.now) (g.T.Tree.log c.loop-at.tree) (g.T.Tree.log c.place_fetched.new.tree) c.in_ok-push_if_some.ensures
      c.loop-at.invariant.given c.in_ok-row.ensures.rows;
  accepted =
      rows-more c.args.batch.now c.loop-at.at c.index-batch-at.result c.loop-at.rows c.push_if_some.new.list c.in_ok-row.row c.loop-at-test.true c.index-batch-at.is c.in_ok-push_if_some.ensures
      c.loop-at.invariant.accepted c.in_ok-row.ensures.accepted;
}

pub returns-clause-placed : goal.returns-clause-placed
returns-clause-placed g c =
    places-last c.args.batch.now (drop c.loop-at.at c.args.batch.now) c.args.outcomes.now (drop c.loop-at.at c.args.outcomes.now) (g.T.Tree.log c.args.tree.now) (g.T.Tree.log c.loop-at.tree)
    (drop_all c.loop-at.at c.args.batch.now c.loop-at-test.false) c.loop-at.invariant.placed

pub returns-clause-accepted : goal.returns-clause-accepted
returns-clause-accepted g c =
    subst (λ (fetches : List Fetching). AreRowsOf fetches c.loop-at.rows) (take_all c.loop-at.at c.args.batch.now c.loop-at-test.false) c.loop-at.invariant.accepted
