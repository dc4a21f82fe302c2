use Rattle.std.proofs.Common.{◌≡◌, ℕ, List, Option, subst}
use Rattle.gd_item.specs.declared.item.Item.{Item}
use Rattle.od_keeper.specs.Sound.{IsSound}
use Rattle.od_keeper.specs.declared.image.BaseRow.{BaseRow}
use Rattle.od_transfer.specs.Fits.{IsTransfer}
use Rattle.od_tree.specs.declared.step.LocalStep.{LocalStep}
use Rattle.od_sync.specs.Doing.{IsFetchOf, IsFolderOf, Makes}
use Rattle.od_sync.specs.Planning.{planned_fetches, planned_folders}
use Rattle.od_sync.specs.Rounds.{AreKindsAccepted}
use Rattle.od_sync.specs.declared.looking.Sides.{Sides}
use Rattle.od_sync.specs.declared.planning.Fetching.{Fetching}
use Rattle.od_sync.specs.declared.planning.Plan.{Plan}
use Rattle.od_sync.specs.declared.scanning.Node.{Node}
use Rattle.od_sync.proofs.Going.{goes-acted, goes-none}
use Rattle.od_sync.proofs.KeptImages.{grows-none, kept-none}
use Rattle.od_sync.proofs.Made.{makes-none}
use Rattle.od_sync.proofs.PlannedKinds.{plan-fetches-below, plan-folders-below}
use Rattle.od_sync.proofs.ServedTokens.{serves-done, serves-none}
use Rattle.od_sync.proofs.rounds.act.Goals as goal

-- the plan is the one that is planned for both sides
makes-planned : (sides : Sides) (plan : Plan) (rows : List BaseRow) (local : List (List (List ℕ) × Node)) (remote : List (List (List ℕ) × Item)) (before after : Option (List LocalStep))
    → rows ≡ sides.image.rows → local ≡ sides.local → remote ≡ sides.remote → plan.folders ≡ planned_folders rows local remote → plan.fetches ≡ planned_fetches rows local remote
    → Makes (IsFolderOf plan.folders) (IsFetchOf plan.fetches) before after
    → Makes (IsFolderOf (planned_folders sides.image.rows sides.local sides.remote)) (IsFetchOf (planned_fetches sides.image.rows sides.local sides.remote)) before after
makes-planned sides plan rows local remote before after rows_are local_is remote_is folders_are fetches_are makes =
    subst (λ (those : List BaseRow). Makes (IsFolderOf (planned_folders those sides.local sides.remote)) (IsFetchOf (planned_fetches those sides.local sides.remote)) before after) rows_are
    (subst (λ (those : List (List (List ℕ) × Node)). Makes (IsFolderOf (planned_folders rows those sides.remote)) (IsFetchOf (planned_fetches rows those sides.remote)) before after) local_is
    (subst (λ (those : List (List (List ℕ) × Item)). Makes (IsFolderOf (planned_folders rows local those)) (IsFetchOf (planned_fetches rows local those)) before after) remote_is
    (subst (λ (fetches : List Fetching). Makes (IsFolderOf (planned_folders rows local remote)) (IsFetchOf fetches) before after) fetches_are
    (subst (λ (folders : List (List (List ℕ))). Makes (IsFolderOf folders) (IsFetchOf plan.fetches) before after) folders_are makes))))

pub returns-in-Err-clause-steps : goal.returns-in-Err-clause-steps
returns-in-Err-clause-steps g c = makes-none (g.T.Tree.log c.args.tree.now)

pub returns-in-Ok-do_plan-clause-steps : goal.returns-in-Ok-do_plan-clause-steps
returns-in-Ok-do_plan-clause-steps g c =
    makes-planned c.args.sides c.in-Ok.wanted c.as_slice.result.now c.as_slice-2.result.now c.as_slice-3.result.now (g.T.Tree.log c.args.tree.now) (g.T.Tree.log c.do_plan.new.tree) c.as_slice.ensures c.as_slice-2.ensures c.as_slice-3.ensures
    c.in-Ok.ensures.folders c.in-Ok.ensures.fetches c.do_plan.ensures.steps

pub returns-clause-steps : goal.returns-clause-steps
returns-clause-steps g c =
    makes-planned c.args.sides c.in-Ok.wanted c.as_slice.result.now c.as_slice-2.result.now c.as_slice-3.result.now (g.T.Tree.log c.args.tree.now) (g.T.Tree.log c.do_plan.new.tree) c.as_slice.ensures c.as_slice-2.ensures c.as_slice-3.ensures
    c.in-Ok.ensures.folders c.in-Ok.ensures.fetches c.do_plan.ensures.steps

pub returns-in-Err-clause-goes : goal.returns-in-Err-clause-goes
returns-in-Err-clause-goes g c =
    goes-none (λ drive. IsSound c.args.sides.image drive × AreKindsAccepted drive c.args.sides) c.args.sides.image (g.R.Remote.log c.args.remote.now) (g.T.Tree.log c.args.tree.now) (g.K.Keeper.images c.args.keeper.now)

pub returns-in-Err-clause-serves : goal.returns-in-Err-clause-serves
returns-in-Err-clause-serves g c = serves-none c.args.sides.image (g.R.Remote.log c.args.remote.now) (g.K.Keeper.images c.args.keeper.now)

pub do_plan-requires-clause-folders : goal.do_plan-requires-clause-folders
do_plan-requires-clause-folders g c =
    plan-folders-below c.as_slice.result.now c.as_slice-2.result.now c.args.sides.remote c.as_slice-3.result.now c.in-Ok.wanted.folders c.as_slice-3.ensures c.in-Ok.ensures.folders c.requires

pub do_plan-requires-clause-fetches : goal.do_plan-requires-clause-fetches
do_plan-requires-clause-fetches g c =
    plan-fetches-below c.as_slice.result.now c.as_slice-2.result.now c.args.sides.remote c.as_slice-3.result.now c.in-Ok.wanted.fetches c.as_slice-3.ensures c.in-Ok.ensures.fetches c.requires

pub returns-in-Ok-do_plan-clause-goes : goal.returns-in-Ok-do_plan-clause-goes
returns-in-Ok-do_plan-clause-goes g c =
    goes-acted c.args.sides c.in-Ok.wanted.fetches c.as_slice.result.now c.as_slice-2.result.now c.as_slice-3.result.now (g.R.Remote.log c.args.remote.now) (g.R.Remote.log c.do_plan.new.remote) (g.T.Tree.log c.args.tree.now) (g.T.Tree.log c.do_plan.new.tree) (g.K.Keeper.images c.args.keeper.now) (g.K.Keeper.images c.do_plan.new.keeper)
    c.as_slice.ensures c.as_slice-2.ensures c.as_slice-3.ensures c.in-Ok.ensures.fetches c.do_plan.ensures.goes

pub returns-in-Ok-do_plan-clause-serves : goal.returns-in-Ok-do_plan-clause-serves
returns-in-Ok-do_plan-clause-serves g c =
    serves-done c.args.sides.image (g.R.Remote.log c.args.remote.now) (g.R.Remote.log c.do_plan.new.remote) (g.K.Keeper.images c.args.keeper.now) (g.K.Keeper.images c.do_plan.new.keeper) c.do_plan.ensures.requests c.do_plan.ensures.tokens

pub returns-clause-goes : goal.returns-clause-goes
returns-clause-goes g c =
    goes-acted c.args.sides c.in-Ok.wanted.fetches c.as_slice.result.now c.as_slice-2.result.now c.as_slice-3.result.now (g.R.Remote.log c.args.remote.now) (g.R.Remote.log c.do_plan.new.remote) (g.T.Tree.log c.args.tree.now) (g.T.Tree.log c.do_plan.new.tree) (g.K.Keeper.images c.args.keeper.now) (g.K.Keeper.images c.do_plan.new.keeper)
    c.as_slice.ensures c.as_slice-2.ensures c.as_slice-3.ensures c.in-Ok.ensures.fetches c.do_plan.ensures.goes

pub returns-clause-serves : goal.returns-clause-serves
returns-clause-serves g c =
    serves-done c.args.sides.image (g.R.Remote.log c.args.remote.now) (g.R.Remote.log c.do_plan.new.remote) (g.K.Keeper.images c.args.keeper.now) (g.K.Keeper.images c.do_plan.new.keeper) c.do_plan.ensures.requests c.do_plan.ensures.tokens

pub returns-in-Err-clause-requests : goal.returns-in-Err-clause-requests
returns-in-Err-clause-requests g c = grows-none IsTransfer (g.R.Remote.log c.args.remote.now)

pub returns-in-Err-clause-tokens : goal.returns-in-Err-clause-tokens
returns-in-Err-clause-tokens g c = kept-none c.args.sides.image (g.K.Keeper.images c.args.keeper.now)
