-- A sync leads a run on.
use Rattle.std.proofs.Common.{◌≡◌, ℕ, Bool, true, List, ◌++◌, Option, Some, refl, sym, ap, ◌∙◌, subst}
use Rattle.std.proofs.lemmas.List.{append_cancel_left}
use Rattle.gd_item.specs.declared.step.Step.{Step}
use Rattle.od_keeper.specs.Memory as keeper
use Rattle.od_keeper.specs.Undisturbed as keeper_alone
use Rattle.od_keeper.specs.declared.memory.MemoryKeeper.{MemoryKeeper}
use Rattle.od_transfer.specs.Alone.{AreOwnServed, AreOwnHeard}
use Rattle.od_transfer.specs.Undisturbed as remote_alone
use Rattle.od_tree.specs.Memory as tree
use Rattle.od_tree.specs.Undisturbed as tree_alone
use Rattle.od_tree.specs.Undisturbed.{NoUser}
use Rattle.od_tree.specs.declared.memory.MemoryTree.{MemoryTree}
use Rattle.od_tree.specs.declared.step.LocalStep.{LocalStep}
use Rattle.od_sync.specs.Ends.{HasCause, counts}
use Rattle.od_sync.specs.Syncs.{StartsServable, SyncsTo, SyncsTold}
use Rattle.od_sync.specs.declared.ends.SyncEnd.{SyncEnd}
use Rattle.od_sync.specs.declared.ends.SyncEnd.TheVariants as ends
use Rattle.od_cli.specs.Runs.{Run, Synced, sync_text}
use Rattle.od_cli.specs.RunStates.{PlaysTo, StandsFor}
use Rattle.od_cli.specs.Worlds.{WorldValue, page_size}
use Rattle.od_cli.specs.declared.line.Line.TheVariants.{Sync}

-- the part by which the log grew is that of the sync
own-part : (old more : List Step) (after : Option (List Step)) → after ≡ Some (old ++ more) → remote_alone.GrowsByOwn old after → AreOwnServed more
own-part old more after grown own =
    let both : old ++ own.part ≡ old ++ more = cc (own.grown, grown) in
    subst AreOwnServed (append_cancel_left old own.part more both) own.own

heard-part : (old more : List Step) (after : Option (List Step)) → after ≡ Some (old ++ more) → remote_alone.GrowsByOwn old after → AreOwnHeard more
heard-part old more after grown own =
    let both : old ++ own.part ≡ old ++ more = cc (own.grown, grown) in
    subst AreOwnHeard (append_cancel_left old own.part more both) own.heard

ops-part : (old more : List LocalStep) (after : Option (List LocalStep)) → after ≡ Some (old ++ more) → tree_alone.GrowsByOps old after → NoUser more
ops-part old more after grown ops =
    let both : old ++ ops.part ≡ old ++ more = cc (ops.grown, grown) in
    subst NoUser (append_cancel_left old ops.part more both) ops.ops

-- the objects before and after a sync, and what is said of both
module _ (before after : WorldValue) (folder folder_after : MemoryTree) (kept kept_after : MemoryKeeper) (ended : SyncEnd)
    (told : SyncsTold (counts before.faults before.answers before.in_row (tree.faults_of folder) (keeper.faults_of kept)) (counts after.faults after.answers after.in_row (tree.faults_of folder_after) (keeper.faults_of kept_after))
    (Some before.log) (Some after.log) (tree.log_of folder) (tree.log_of folder_after) (keeper.images_of kept) (keeper.images_of kept_after) ended)
    (causes : HasCause (counts before.faults before.answers before.in_row (tree.faults_of folder) (keeper.faults_of kept)) (counts after.faults after.answers after.in_row (tree.faults_of folder_after) (keeper.faults_of kept_after)) ended)
    (remote : remote_alone.Undisturbed true true (Some before.log) (Some after.log)) (no_faults : true ≡ true → StartsServable (Some before.log) (keeper.images_of kept) → after.faults ≡ before.faults)
    (local : tree_alone.Undisturbed (tree.is_undisturbed folder) (tree.is_undisturbed folder_after) (tree.faults_of folder) (tree.faults_of folder_after) (tree.log_of folder) (tree.log_of folder_after))
    (images : keeper_alone.Undisturbed (keeper.is_undisturbed kept) (keeper.is_undisturbed kept_after) (keeper.faults_of kept) (keeper.faults_of kept_after))
    (counted : ℕ) (followed : Bool) (follows : followed ≡ true) (run : Run) (stands : StandsFor before folder kept counted followed run) where
  abbrev grows : SyncsTo (counts before.faults before.answers before.in_row (tree.faults_of folder) (keeper.faults_of kept)) (counts after.faults after.answers after.in_row (tree.faults_of folder_after) (keeper.faults_of kept_after))
      run.drive run.local run.images (Some after.log) (tree.log_of folder_after) (keeper.images_of kept_after) ended
  grows = told.told run.drive run.local run.images (ap (λ (l : List Step). Some l) stands.drive) stands.local stands.images

  own : AreOwnServed grows.more
  own = own-part run.drive grows.more (Some after.log) grows.drive_grown (remote.alone refl run.drive (ap (λ (l : List Step). Some l) stands.drive))

  ops : NoUser grows.part
  ops = ops-part run.local grows.part (tree.log_of folder_after) grows.local_grown (local.alone stands.alone run.local stands.local)

  abbrev next : Run
  next = record run { drive = run.drive ++ grows.more; local = run.local ++ grows.part; images = run.images ++ grows.added }

  run-followed : run.followed ≡ true
  run-followed = sym stands.followed_is ∙ follows

  no-more-faults : after.faults ≡ 0
  no-more-faults =
      no_faults refl (record { log = run.drive; committed = run.images; log_is = ap (λ (l : List Step). Some l) stands.drive; committed_is = stands.images; servable = stands.servable run-followed })
      ∙ stands.no_link_faults

  abbrev last : WorldValue
  last = record after { size = page_size }

  stands-after : StandsFor last folder_after kept_after counted followed next
  stands-after = record {
    drive = let same : after.log ≡ run.drive ++ grows.more = cc grows.drive_grown in same;
    size = sym (stands.pages run-followed);
    followed_is = stands.followed_is;
    local = grows.local_grown;
    images = grows.images_grown;
    counted_is = stands.counted_is;
    alone = local.stays stands.alone;
    steady = images.stays stands.steady;
    no_link_faults = no-more-faults;
    no_tree_faults = local.no_faults stands.alone ∙ stands.no_tree_faults;
    no_keeper_faults = images.no_faults stands.steady ∙ stands.no_keeper_faults;
    pages = stands.pages;
    servable = λ is_so. grows.syncs.stays_servable own (stands.servable is_so);
  }

  synced : (ended ≡ ends.Memory → ⊥) → Synced run next ended
  synced goes_on = record {
    more = grows.more;
    part = grows.part;
    added = grows.added;
    next_is = refl;
    own = own;
    heard = heard-part run.drive grows.more (Some after.log) grows.drive_grown (remote.alone refl run.drive (ap (λ (l : List Step). Some l) stands.drive));
    ops = ops;
    before = counts before.faults before.answers before.in_row (tree.faults_of folder) (keeper.faults_of kept);
    now = counts after.faults after.answers after.in_row (tree.faults_of folder_after) (keeper.faults_of kept_after);
    none_before = record { link = stands.no_link_faults; tree = stands.no_tree_faults; keeper = stands.no_keeper_faults };
    none_now = record { link = no-more-faults; tree = stands-after.no_tree_faults; keeper = stands-after.no_keeper_faults };
    syncs = grows.syncs;
    cause = causes;
    goes_on = goes_on;
  }

  pub sync-plays : (left : WorldValue) (old new : List ℕ) → left ≡ last → (ended ≡ ends.Memory → ⊥) → new ≡ old ++ sync_text ended → PlaysTo left folder_after kept_after counted followed run Sync old new
  sync-plays left old new is goes_on printed =
      let P : WorldValue → Type 0 = λ w. PlaysTo w folder_after kept_after counted followed run Sync old new in
      subst P (sym is) (record { next = next; text = sync_text ended; stands = stands-after; goes = (run-followed, (ended, synced goes_on, refl)); printed = printed })
