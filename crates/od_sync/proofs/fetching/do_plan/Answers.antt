use Rattle.std.proofs.Common.{◌≡◌, ◌<◌, ◌≤◌, List, [], ℕ, filter, length, refl, sym, subst, ap, ◌∙◌}
use Rattle.std.specs.List.{All}
use Rattle.od_sync.specs.Doing.{MakesAll, is_tried, most_bytes}
use Rattle.od_sync.specs.declared.planning.Fetching.{Fetching}
use Rattle.od_sync.proofs.Batched.{stops-none}
use Rattle.od_sync.proofs.Done.{does-plan, goes-plan, makes-folders, makes-plan, tried-below, tried-light, tried-written}
use Rattle.od_sync.proofs.RowsPut.{puts-folders, puts-then}
use Rattle.od_sync.proofs.SyncAlone.{tree-then}
use Rattle.od_sync.proofs.fetching.do_plan.Goals as goal

tried-is : (tried slice fetches : List Fetching) (tops barred : List (List (List ℕ))) → tried ≡ filter (is_tried tops) fetches → slice ≡ tried → tops ≡ barred → slice ≡ filter (is_tried barred) fetches
tried-is tried slice fetches tops barred is same same_tops = same ∙ (is ∙ ap (λ those. filter (is_tried those) fetches) same_tops)

pub returns-in_err-barred-clause-goes : goal.returns-in_err-barred-clause-goes
returns-in_err-barred-clause-goes g c =
    goes-plan c.args.image c.args.plan.fetches (filter (is_tried []) c.args.plan.fetches) []
    (g.R.Remote.log c.args.remote.now) (g.R.Remote.log c.args.remote.now)
    (g.T.Tree.log c.args.tree.now) (g.T.Tree.log c.make_folders.new.tree) (g.T.Tree.log c.make_folders.new.tree)
    (g.K.Keeper.images c.args.keeper.now) (g.K.Keeper.images c.args.keeper.now)
    refl c.make_folders.ensures.log (stops-none c.args.image (filter (is_tried []) c.args.plan.fetches) (g.R.Remote.log c.args.remote.now) (g.T.Tree.log c.make_folders.new.tree) (g.K.Keeper.images c.args.keeper.now))

pub returns-in_err-barred-clause-steps : goal.returns-in_err-barred-clause-steps
returns-in_err-barred-clause-steps g c =
    makes-folders c.args.plan.folders c.as_slice.result.now c.args.plan.fetches (g.T.Tree.log c.args.tree.now) (g.T.Tree.log c.make_folders.new.tree) c.as_slice.ensures c.make_folders.ensures.log

pub fetch_all-requires-clause-below : goal.fetch_all-requires-clause-below
fetch_all-requires-clause-below g c =
    subst (λ fetches. All (λ (fetch : Fetching). 0 < length fetch.path) fetches)
    (sym (tried-is c.tried_fetches-tried.result c.as_slice-3.result.now c.args.plan.fetches c.as_slice-2.result.now c.in_ok-barred.barred c.tried_fetches-tried.ensures c.as_slice-3.ensures c.as_slice-2.ensures))
    (tried-below c.in_ok-barred.barred (λ (fetch : Fetching). 0 < length fetch.path) c.args.plan.fetches c.requires.fetches)

pub fetch_all-requires-clause-light : goal.fetch_all-requires-clause-light
fetch_all-requires-clause-light g c =
    subst (λ fetches. All (λ (fetch : Fetching). fetch.size ≤ most_bytes) fetches)
    (sym (tried-is c.tried_fetches-tried.result c.as_slice-3.result.now c.args.plan.fetches c.as_slice-2.result.now c.in_ok-barred.barred c.tried_fetches-tried.ensures c.as_slice-3.ensures c.as_slice-2.ensures))
    (tried-light c.in_ok-barred.barred c.args.plan.fetches)

pub fetch_all-requires-clause-written : goal.fetch_all-requires-clause-written
fetch_all-requires-clause-written g c =
    subst (λ fetches. All (λ (fetch : Fetching). 0 < fetch.id.0) fetches)
    (sym (tried-is c.tried_fetches-tried.result c.as_slice-3.result.now c.args.plan.fetches c.as_slice-2.result.now c.in_ok-barred.barred c.tried_fetches-tried.ensures c.as_slice-3.ensures c.as_slice-2.ensures))
    (tried-written c.in_ok-barred.barred c.args.plan.fetches)

pub returns-in-Ok-clause-goes : goal.returns-in-Ok-clause-goes
returns-in-Ok-clause-goes g c =
    goes-plan c.args.image c.args.plan.fetches c.as_slice-3.result.now c.in_ok-barred.barred
    (g.R.Remote.log c.args.remote.now) (g.R.Remote.log c.fetch_all.new.remote)
    (g.T.Tree.log c.args.tree.now) (g.T.Tree.log c.make_folders.new.tree) (g.T.Tree.log c.fetch_all.new.tree)
    (g.K.Keeper.images c.args.keeper.now) (g.K.Keeper.images c.fetch_all.new.keeper)
    (tried-is c.tried_fetches-tried.result c.as_slice-3.result.now c.args.plan.fetches c.as_slice-2.result.now c.in_ok-barred.barred c.tried_fetches-tried.ensures c.as_slice-3.ensures c.as_slice-2.ensures) c.make_folders.ensures.log c.fetch_all.ensures.stops

pub returns-in-Ok-clause-does : goal.returns-in-Ok-clause-does
returns-in-Ok-clause-does g c =
    does-plan c.args.image c.args.plan c.as_slice-3.result.now c.in_ok-barred.barred c.in-Ok.next (g.R.Remote.faults c.args.remote.now) (g.R.Remote.faults c.fetch_all.new.remote)
    (g.R.Remote.log c.args.remote.now) (g.R.Remote.log c.fetch_all.new.remote)
    (g.T.Tree.log c.args.tree.now) (g.T.Tree.log c.make_folders.new.tree) (g.T.Tree.log c.fetch_all.new.tree)
    (g.K.Keeper.images c.args.keeper.now) (g.K.Keeper.images c.fetch_all.new.keeper)
    (tried-is c.tried_fetches-tried.result c.as_slice-3.result.now c.args.plan.fetches c.as_slice-2.result.now c.in_ok-barred.barred c.tried_fetches-tried.ensures c.as_slice-3.ensures c.as_slice-2.ensures) c.make_folders.ensures.log
    (subst (λ (folders : List (List (List ℕ))). MakesAll folders (g.T.Tree.log c.args.tree.now) (g.T.Tree.log c.make_folders.new.tree) c.in_ok-barred.barred) c.as_slice.ensures c.in_ok-barred.ensures.made)
    c.in-Ok.ensures.fetches

pub returns-in-Ok-clause-steps : goal.returns-in-Ok-clause-steps
returns-in-Ok-clause-steps g c =
    makes-plan c.args.plan.folders c.as_slice.result.now c.args.plan.fetches c.as_slice-3.result.now c.in_ok-barred.barred (g.T.Tree.log c.args.tree.now) (g.T.Tree.log c.make_folders.new.tree) (g.T.Tree.log c.fetch_all.new.tree) c.as_slice.ensures
    (tried-is c.tried_fetches-tried.result c.as_slice-3.result.now c.args.plan.fetches c.as_slice-2.result.now c.in_ok-barred.barred c.tried_fetches-tried.ensures c.as_slice-3.ensures c.as_slice-2.ensures) c.make_folders.ensures.log c.fetch_all.ensures.steps

pub returns-in-Ok-clause-rows : goal.returns-in-Ok-clause-rows
returns-in-Ok-clause-rows g c =
    puts-then c.args.image c.args.image c.in-Ok.next (g.T.Tree.log c.args.tree.now) (g.T.Tree.log c.make_folders.new.tree) (g.T.Tree.log c.fetch_all.new.tree)
    (puts-folders c.args.image (g.T.Tree.log c.args.tree.now) (g.T.Tree.log c.make_folders.new.tree) c.make_folders.ensures.log) c.in-Ok.ensures.rows

pub returns-in-Ok-clause-tree_alone : goal.returns-in-Ok-clause-tree_alone
returns-in-Ok-clause-tree_alone g c =
    tree-then (g.T.Tree.undisturbed c.args.tree.now) (g.T.Tree.undisturbed c.make_folders.new.tree) (g.T.Tree.undisturbed c.fetch_all.new.tree)
    (g.T.Tree.faults c.args.tree.now) (g.T.Tree.faults c.make_folders.new.tree) (g.T.Tree.faults c.fetch_all.new.tree)
    (g.T.Tree.log c.args.tree.now) (g.T.Tree.log c.make_folders.new.tree) (g.T.Tree.log c.fetch_all.new.tree) c.make_folders.ensures.undisturbed c.fetch_all.ensures.tree_alone

pub returns-clause-goes : goal.returns-clause-goes
returns-clause-goes g c =
    goes-plan c.args.image c.args.plan.fetches c.as_slice-3.result.now c.in_ok-barred.barred
    (g.R.Remote.log c.args.remote.now) (g.R.Remote.log c.fetch_all.new.remote)
    (g.T.Tree.log c.args.tree.now) (g.T.Tree.log c.make_folders.new.tree) (g.T.Tree.log c.fetch_all.new.tree)
    (g.K.Keeper.images c.args.keeper.now) (g.K.Keeper.images c.fetch_all.new.keeper)
    (tried-is c.tried_fetches-tried.result c.as_slice-3.result.now c.args.plan.fetches c.as_slice-2.result.now c.in_ok-barred.barred c.tried_fetches-tried.ensures c.as_slice-3.ensures c.as_slice-2.ensures) c.make_folders.ensures.log c.fetch_all.ensures.stops

pub returns-clause-steps : goal.returns-clause-steps
returns-clause-steps g c =
    makes-plan c.args.plan.folders c.as_slice.result.now c.args.plan.fetches c.as_slice-3.result.now c.in_ok-barred.barred (g.T.Tree.log c.args.tree.now) (g.T.Tree.log c.make_folders.new.tree) (g.T.Tree.log c.fetch_all.new.tree) c.as_slice.ensures
    (tried-is c.tried_fetches-tried.result c.as_slice-3.result.now c.args.plan.fetches c.as_slice-2.result.now c.in_ok-barred.barred c.tried_fetches-tried.ensures c.as_slice-3.ensures c.as_slice-2.ensures) c.make_folders.ensures.log c.fetch_all.ensures.steps

pub returns-clause-tree_alone : goal.returns-clause-tree_alone
returns-clause-tree_alone g c =
    tree-then (g.T.Tree.undisturbed c.args.tree.now) (g.T.Tree.undisturbed c.make_folders.new.tree) (g.T.Tree.undisturbed c.fetch_all.new.tree)
    (g.T.Tree.faults c.args.tree.now) (g.T.Tree.faults c.make_folders.new.tree) (g.T.Tree.faults c.fetch_all.new.tree)
    (g.T.Tree.log c.args.tree.now) (g.T.Tree.log c.make_folders.new.tree) (g.T.Tree.log c.fetch_all.new.tree) c.make_folders.ensures.undisturbed c.fetch_all.ensures.tree_alone
