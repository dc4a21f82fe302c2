use Rattle.std.proofs.Common.{[], ℕ, ◌≡◌, ◌<◌, ◌≤◌, List, ◌++◌, length, take, drop, refl, sym, subst, ap, ◌∙◌, arith}
use Rattle.std.specs.List.{All}
use Rattle.std.proofs.lemmas.List.{take-append-drop}
use Rattle.std.proofs.lemmas.List.Elements.{All-drop}
use Rattle.od_transfer.specs.Fits.{IsTransfer}
use Rattle.od_sync.specs.Doing.{most_bytes}
use Rattle.od_sync.specs.declared.planning.Fetching.{Fetching}
use Rattle.od_sync.proofs.Batched.{makes-batch, so-far-first, so-far-next, so-far-stops, stops-none}
use Rattle.od_sync.proofs.KeptImages.{grows-none, grows-then, kept-none, kept-then, leaves-none, leaves-then, no-faults-then}
use Rattle.od_sync.proofs.Made.{makes-none}
use Rattle.od_sync.proofs.RowsPut.{puts-none, puts-then}
use Rattle.od_sync.proofs.SyncAlone.{keeper-same, keeper-then, tree-same, tree-then}
use Rattle.od_sync.proofs.Undisturbing.{still-undisturbed, undisturbed-then}
use Rattle.od_sync.proofs.fetching.fetch_all.Goals as goal

parts : (left batch rest : List Fetching) (n : ℕ) → batch ≡ take n left → rest ≡ drop n left → left ≡ batch ++ rest
parts left batch rest n front back = sym (take-append-drop n left) ∙ (ap (λ fetches. fetches ++ drop n left) (sym front) ∙ ap (λ fetches. batch ++ fetches) (sym back))

pub loop-left-init : goal.loop-left-init
loop-left-init g c = record {
  below = c.requires.below;
  light = c.requires.light;
  written = c.requires.written;
  fetches = so-far-first c.args.image c.args.fetches.now (g.R.Remote.faults c.args.remote.now) (g.R.Remote.log c.args.remote.now) (g.T.Tree.log c.args.tree.now) (g.K.Keeper.images c.args.keeper.now);
  steps = makes-none (g.T.Tree.log c.args.tree.now);
  rows = puts-none c.args.image (g.T.Tree.log c.args.tree.now);
  requests = grows-none IsTransfer (g.R.Remote.log c.args.remote.now);
  tokens = kept-none c.args.image (g.K.Keeper.images c.args.keeper.now);
  last = leaves-none c.args.image (g.K.Keeper.images c.args.keeper.now);
  faults_later = omega arith;
  answers_later = omega arith;
  tree_later = omega arith;
  keeper_later = omega arith;
  remote_alone = still-undisturbed (g.R.Remote.undisturbed c.args.remote.now) (g.R.Remote.log c.args.remote.now);
  no_faults = λ is. refl;
  tree_alone = tree-same (g.T.Tree.undisturbed c.args.tree.now) (g.T.Tree.faults c.args.tree.now) (g.T.Tree.log c.args.tree.now);
  keeper_alone = keeper-same (g.K.Keeper.undisturbed c.args.keeper.now) (g.K.Keeper.faults c.args.keeper.now);
}

pub returns-in_err-last-clause-steps : goal.returns-in_err-last-clause-steps
returns-in_err-last-clause-steps g c =
    makes-batch c.args.fetches.now c.loop-left.invariant.fetches.done c.loop-left.left.now c.split_at.result.0.now c.split_at.result.1.now
    (g.T.Tree.log c.args.tree.now) (g.T.Tree.log c.loop-left.tree) (g.T.Tree.log c.fetch_batch.new.tree) c.loop-left.invariant.fetches.whole_is
    (parts c.loop-left.left.now c.split_at.result.0.now c.split_at.result.1.now c.batch_length.result c.split_at.ensures.front c.split_at.ensures.back)
    c.loop-left.invariant.steps c.fetch_batch.ensures.steps

pub returns-in_err-last-clause-stops : goal.returns-in_err-last-clause-stops
returns-in_err-last-clause-stops g c =
    so-far-stops c.args.image c.args.fetches.now c.loop-left.left.now c.loop-left.last (g.R.Remote.faults c.args.remote.now) (g.R.Remote.faults c.loop-left.remote)
    (g.R.Remote.log c.args.remote.now) (g.R.Remote.log c.loop-left.remote) (g.R.Remote.log c.fetch_batch.new.remote)
    (g.T.Tree.log c.args.tree.now) (g.T.Tree.log c.loop-left.tree) (g.T.Tree.log c.fetch_batch.new.tree)
    (g.K.Keeper.images c.args.keeper.now) (g.K.Keeper.images c.loop-left.keeper) (g.K.Keeper.images c.fetch_batch.new.keeper)
    c.loop-left.invariant.fetches c.in_err-last.ensures.stops

pub returns-in_err-last-clause-remote_alone : goal.returns-in_err-last-clause-remote_alone
returns-in_err-last-clause-remote_alone g c =
    undisturbed-then (g.R.Remote.undisturbed c.args.remote.now) (g.R.Remote.undisturbed c.loop-left.remote) (g.R.Remote.undisturbed c.fetch_batch.new.remote)
    (g.R.Remote.log c.args.remote.now) (g.R.Remote.log c.loop-left.remote) (g.R.Remote.log c.fetch_batch.new.remote)
    c.loop-left.invariant.remote_alone c.fetch_batch.ensures.remote_alone

pub returns-in_err-last-clause-tree_alone : goal.returns-in_err-last-clause-tree_alone
returns-in_err-last-clause-tree_alone g c =
    tree-then (g.T.Tree.undisturbed c.args.tree.now) (g.T.Tree.undisturbed c.loop-left.tree) (g.T.Tree.undisturbed c.fetch_batch.new.tree)
    (g.T.Tree.faults c.args.tree.now) (g.T.Tree.faults c.loop-left.tree) (g.T.Tree.faults c.fetch_batch.new.tree)
    (g.T.Tree.log c.args.tree.now) (g.T.Tree.log c.loop-left.tree) (g.T.Tree.log c.fetch_batch.new.tree)
    c.loop-left.invariant.tree_alone c.fetch_batch.ensures.tree_alone

pub returns-in_err-last-clause-requests : goal.returns-in_err-last-clause-requests
returns-in_err-last-clause-requests g c =
    grows-then IsTransfer (g.R.Remote.log c.args.remote.now) (g.R.Remote.log c.loop-left.remote) (g.R.Remote.log c.fetch_batch.new.remote) c.loop-left.invariant.requests c.fetch_batch.ensures.requests

pub returns-in_err-last-clause-tokens : goal.returns-in_err-last-clause-tokens
returns-in_err-last-clause-tokens g c =
    kept-then c.args.image c.loop-left.last (g.K.Keeper.images c.args.keeper.now) (g.K.Keeper.images c.loop-left.keeper) (g.K.Keeper.images c.fetch_batch.new.keeper) c.loop-left.invariant.tokens c.loop-left.invariant.last c.fetch_batch.ensures.tokens

pub loop-left-preserved : goal.loop-left-preserved
loop-left-preserved g c = record {
  below = subst (λ fetches. All (λ (fetch : Fetching). 0 < length fetch.path) fetches) (sym c.split_at.ensures.back) (All-drop (λ (fetch : Fetching). 0 < length fetch.path) c.batch_length.result c.loop-left.left.now c.loop-left.invariant.below);
  light = subst (λ fetches. All (λ (fetch : Fetching). fetch.size ≤ most_bytes) fetches) (sym c.split_at.ensures.back) (All-drop (λ (fetch : Fetching). fetch.size ≤ most_bytes) c.batch_length.result c.loop-left.left.now c.loop-left.invariant.light);
  written = subst (λ fetches. All (λ (fetch : Fetching). 0 < fetch.id.0) fetches) (sym c.split_at.ensures.back) (All-drop (λ (fetch : Fetching). 0 < fetch.id.0) c.batch_length.result c.loop-left.left.now c.loop-left.invariant.written);
  fetches =
      so-far-next c.args.image c.args.fetches.now c.loop-left.left.now c.split_at.result.0.now c.split_at.result.1.now c.loop-left.last c.in_ok-last.last
      (g.R.Remote.faults c.args.remote.now) (g.R.Remote.faults c.loop-left.remote) (g.R.Remote.faults c.fetch_batch.new.remote)
      (g.R.Remote.log c.args.remote.now) (g.R.Remote.log c.loop-left.remote) (g.R.Remote.log c.fetch_batch.new.remote)
      (g.T.Tree.log c.args.tree.now) (g.T.Tree.log c.loop-left.tree) (g.T.Tree.log c.fetch_batch.new.tree)
      (g.K.Keeper.images c.args.keeper.now) (g.K.Keeper.images c.loop-left.keeper) (g.K.Keeper.images c.fetch_batch.new.keeper)
      (parts c.loop-left.left.now c.split_at.result.0.now c.split_at.result.1.now c.batch_length.result c.split_at.ensures.front c.split_at.ensures.back)
      c.loop-left.invariant.faults_later c.fetch_batch.ensures.cause.link_later c.loop-left.invariant.fetches c.in_ok-last.ensures.fetches;
  steps =
      makes-batch c.args.fetches.now c.loop-left.invariant.fetches.done c.loop-left.left.now c.split_at.result.0.now c.split_at.result.1.now
      (g.T.Tree.log c.args.tree.now) (g.T.Tree.log c.loop-left.tree) (g.T.Tree.log c.fetch_batch.new.tree) c.loop-left.invariant.fetches.whole_is
      (parts c.loop-left.left.now c.split_at.result.0.now c.split_at.result.1.now c.batch_length.result c.split_at.ensures.front c.split_at.ensures.back)
      c.loop-left.invariant.steps c.fetch_batch.ensures.steps;
  rows = puts-then c.args.image c.loop-left.last c.in_ok-last.last (g.T.Tree.log c.args.tree.now) (g.T.Tree.log c.loop-left.tree) (g.T.Tree.log c.fetch_batch.new.tree) c.loop-left.invariant.rows c.in_ok-last.ensures.rows;
  requests = grows-then IsTransfer (g.R.Remote.log c.args.remote.now) (g.R.Remote.log c.loop-left.remote) (g.R.Remote.log c.fetch_batch.new.remote) c.loop-left.invariant.requests c.fetch_batch.ensures.requests;
  tokens = kept-then c.args.image c.loop-left.last (g.K.Keeper.images c.args.keeper.now) (g.K.Keeper.images c.loop-left.keeper) (g.K.Keeper.images c.fetch_batch.new.keeper) c.loop-left.invariant.tokens c.loop-left.invariant.last c.fetch_batch.ensures.tokens;
  last = leaves-then c.args.image c.loop-left.last c.in_ok-last.last (g.K.Keeper.images c.args.keeper.now) (g.K.Keeper.images c.loop-left.keeper) (g.K.Keeper.images c.fetch_batch.new.keeper) c.loop-left.invariant.last c.in_ok-last.ensures.last;
  faults_later = omega (arith, c.loop-left.invariant.faults_later, c.fetch_batch.ensures.cause.link_later);
  answers_later = omega (arith, c.loop-left.invariant.answers_later, c.fetch_batch.ensures.cause.answers_later);
  tree_later = omega (arith, c.loop-left.invariant.tree_later, c.fetch_batch.ensures.cause.tree_later);
  keeper_later = omega (arith, c.loop-left.invariant.keeper_later, c.fetch_batch.ensures.cause.keeper_later);
  remote_alone = undisturbed-then (g.R.Remote.undisturbed c.args.remote.now) (g.R.Remote.undisturbed c.loop-left.remote) (g.R.Remote.undisturbed c.fetch_batch.new.remote)
      (g.R.Remote.log c.args.remote.now) (g.R.Remote.log c.loop-left.remote) (g.R.Remote.log c.fetch_batch.new.remote)
      c.loop-left.invariant.remote_alone c.fetch_batch.ensures.remote_alone;
  no_faults = no-faults-then (g.R.Remote.undisturbed c.args.remote.now) (g.R.Remote.undisturbed c.loop-left.remote) (g.R.Remote.faults c.args.remote.now) (g.R.Remote.faults c.loop-left.remote) (g.R.Remote.faults c.fetch_batch.new.remote)
      c.loop-left.invariant.remote_alone.stays c.loop-left.invariant.no_faults c.fetch_batch.ensures.no_faults;
  tree_alone = tree-then (g.T.Tree.undisturbed c.args.tree.now) (g.T.Tree.undisturbed c.loop-left.tree) (g.T.Tree.undisturbed c.fetch_batch.new.tree)
      (g.T.Tree.faults c.args.tree.now) (g.T.Tree.faults c.loop-left.tree) (g.T.Tree.faults c.fetch_batch.new.tree)
      (g.T.Tree.log c.args.tree.now) (g.T.Tree.log c.loop-left.tree) (g.T.Tree.log c.fetch_batch.new.tree)
      c.loop-left.invariant.tree_alone c.fetch_batch.ensures.tree_alone;
  keeper_alone = keeper-then (g.K.Keeper.undisturbed c.args.keeper.now) (g.K.Keeper.undisturbed c.loop-left.keeper) (g.K.Keeper.undisturbed c.fetch_batch.new.keeper)
      (g.K.Keeper.faults c.args.keeper.now) (g.K.Keeper.faults c.loop-left.keeper) (g.K.Keeper.faults c.fetch_batch.new.keeper) c.loop-left.invariant.keeper_alone c.fetch_batch.ensures.keeper_alone;
}

pub returns-clause-stops : goal.returns-clause-stops
returns-clause-stops g c =
    so-far-stops c.args.image c.args.fetches.now c.loop-left.left.now c.loop-left.last (g.R.Remote.faults c.args.remote.now) (g.R.Remote.faults c.loop-left.remote)
    (g.R.Remote.log c.args.remote.now) (g.R.Remote.log c.loop-left.remote) (g.R.Remote.log c.loop-left.remote)
    (g.T.Tree.log c.args.tree.now) (g.T.Tree.log c.loop-left.tree) (g.T.Tree.log c.loop-left.tree)
    (g.K.Keeper.images c.args.keeper.now) (g.K.Keeper.images c.loop-left.keeper) (g.K.Keeper.images c.loop-left.keeper)
    c.loop-left.invariant.fetches (stops-none c.loop-left.last [] (g.R.Remote.log c.loop-left.remote) (g.T.Tree.log c.loop-left.tree) (g.K.Keeper.images c.loop-left.keeper))
