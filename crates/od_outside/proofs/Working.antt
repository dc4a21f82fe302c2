-- What each call of the folder and of the keeper comes to.
use Rattle.std.proofs.Common.{◌≡◌, inl, inr, List, [], ◌∷◌, ◌++◌, Option, Some, None, Result, Ok, Err, refl, ap, sym, subst, ◌∙◌}
use Rattle.od_keeper.specs.Images.{applied}
use Rattle.od_keeper.specs.Keeping.{last_image}
use Rattle.od_keeper.specs.declared.fault.KeeperFault.{KeeperFault}
use Rattle.od_keeper.specs.declared.image.Change.{Change}
use Rattle.od_keeper.specs.declared.image.Image.{Image}
use Rattle.od_outside.specs.Calls.{AreOthers, Calls, own_events}
use Rattle.od_outside.specs.Learning.{CommittedBy, LoadedBy, WorkedBy, after_keeping}
use Rattle.od_outside.specs.Running.{IsKnown, Runs}
use Rattle.od_outside.specs.Seeing.{Counts, Seen}
use Rattle.od_outside.specs.Works.{DoesCommit, DoesCommitBy, DoesLoad, DoesLoadBy, DoesWork, DoesWorkBy, IsWorked}
use Rattle.od_outside.proofs.Glue.{MayOne, runs-call}
use Rattle.od_remote.specs.Counting.{Reading}
use Rattle.od_run.specs.Acting.{MayDo, MayKeep}
use Rattle.od_run.specs.Knowing.{Known, learn}
use Rattle.od_run.specs.Worlds.{World, Event, Worked, Kept, now}
use Rattle.od_tree.specs.Local.{Local, local_of, op_refusal}
use Rattle.od_tree.specs.declared.fault.TreeFault.{TreeFault}
use Rattle.od_tree.specs.declared.fault.TreeFault.TheVariants.{Taken, Missing, NotEmpty, Failed, Memory}
use Rattle.od_tree.specs.declared.step.LocalStep.TheVariants.{Op}
use Rattle.od_tree.specs.declared.step.TreeOp.{TreeOp}

-- ---- the folder
work-may : (call : TreeOp) (w : World) (k : Known) (After : Known → Known → Type 0) (event : Event) → IsWorked call (local_of w.local) event → MayDo k call → After k (learn w k (Worked (Op call))) → MayOne w k After event
work-may call w k After event is may after = subst (MayOne w k After) (sym is.event_is) (record { may = may; knows = after })

work-one : {T : Type 0} (call : TreeOp) (Value : Local → T → Type 0) (result : Result T TreeFault) (w : World) (k : Known) (event : Event) → MayDo k call → DoesWorkBy call Value result w (Some event) → MayOne w k (WorkedBy call Value result) event
work-one {T} call Value (Ok x) w k event may does =
    work-may call w k (WorkedBy call Value (Ok x)) event does.0 may (record { local = w.local; allowed = does.0.allowed; next_is = refl; holds = does.1 })
work-one {T} call Value (Err Taken) w k event may does = absurd does
work-one {T} call Value (Err Missing) w k event may does = absurd does
work-one {T} call Value (Err NotEmpty) w k event may does = absurd does
work-one {T} call Value (Err Failed) w k event may does =
    work-may call w k (WorkedBy call Value (Err Failed)) event does may (inr (record { local = w.local; allowed = does.allowed; next_is = refl; holds = tt }))
work-one {T} call Value (Err Memory) w k event may does = absurd does

work-none : {T : Type 0} (call : TreeOp) (Value : Local → T → Type 0) (result : Result T TreeFault) (w : World) (k : Known) → DoesWorkBy call Value result w None → WorkedBy call Value result k k
work-none {T} call Value (Ok x) w k does = absurd does
work-none {T} call Value (Err Taken) w k does = record { local = w.local; refused = does; same = refl }
work-none {T} call Value (Err Missing) w k does = record { local = w.local; refused = does; same = refl }
work-none {T} call Value (Err NotEmpty) w k does = record { local = w.local; refused = does; same = refl }
work-none {T} call Value (Err Failed) w k does = inl refl
work-none {T} call Value (Err Memory) w k does = refl

pub runs-work : {S T : Type 0} {o : Seen S} {call : TreeOp} {Value : Local → T → Type 0} {result : Result T TreeFault} {Before : Known → Type 0} {Fact : World → Known → List Event → Type 0} {Cause : Reading → Counts → Counts → Type 0} {a b : S}
    → Calls o AreOthers (DoesWork call Value result) Cause a b → ((w : World) (k : Known) → IsKnown w k → Before k → MayDo k call)
    → ((w : World) (k : Known) (part : List Event) (own : Option Event) → IsKnown w k → Before k → AreOthers part → DoesWork call Value result (now w part) own → Fact w k (part ++ own_events own)) → Runs o Before (WorkedBy call Value result) Fact Cause a b
runs-work {S} {T} {o} {call} {Value} {result} {Before} {Fact} {Cause} calls may fact =
    runs-call calls (λ w k known here event does. work-one call Value result w k event (may w k known here) does.is) (λ w k known here does. work-none call Value result w k does.is) fact

-- ---- the keeper
load-one : (result : Result Image KeeperFault) (w : World) (k : Known) (event : Event) → DoesLoadBy result w (Some event) → MayOne w k (LoadedBy result) event
load-one (Ok image) w k event does = absurd does
load-one (Err fault) w k event does = absurd does

load-none : (result : Result Image KeeperFault) (w : World) (k : Known) → IsKnown w k → DoesLoadBy result w None → LoadedBy result k k
load-none (Ok image) w k known does = (refl, does ∙ sym known.last)
load-none (Err fault) w k known does = refl

pub runs-load : {S : Type 0} {o : Seen S} {result : Result Image KeeperFault} {Before : Known → Type 0} {Fact : World → Known → List Event → Type 0} {Cause : Reading → Counts → Counts → Type 0} {a b : S}
    → Calls o AreOthers (DoesLoad result) Cause a b → ((w : World) (k : Known) (part : List Event) (own : Option Event) → IsKnown w k → Before k → AreOthers part → DoesLoad result (now w part) own → Fact w k (part ++ own_events own)) → Runs o Before (LoadedBy result) Fact Cause a b
runs-load {S} {o} {result} {Before} {Fact} {Cause} calls fact =
    runs-call calls (λ w k known here event does. load-one result w k event does.is) (λ w k known here does. load-none result w k known does.is) fact

commit-one : (change : Change) (result : Result (Unit {0}) KeeperFault) (w : World) (k : Known) (event : Event) → IsKnown w k → MayKeep k (applied change k.image) → DoesCommitBy change result w (Some event) → MayOne w k (CommittedBy change result) event
commit-one change (Ok done) w k event known may does =
    subst (MayOne w k (CommittedBy change (Ok done))) (sym (does ∙ ap (λ (image : Image). Kept (applied change image)) (sym known.last))) (record { may = may; knows = refl })
commit-one change (Err fault) w k event known may does = absurd does

commit-none : (change : Change) (result : Result (Unit {0}) KeeperFault) (w : World) (k : Known) → DoesCommitBy change result w None → CommittedBy change result k k
commit-none change (Ok done) w k does = absurd does
commit-none change (Err fault) w k does = refl

pub runs-commit : {S : Type 0} {o : Seen S} {change : Change} {result : Result (Unit {0}) KeeperFault} {Before : Known → Type 0} {Fact : World → Known → List Event → Type 0} {Cause : Reading → Counts → Counts → Type 0} {a b : S}
    → Calls o AreOthers (DoesCommit change result) Cause a b → ((w : World) (k : Known) → IsKnown w k → Before k → MayKeep k (applied change k.image))
    → ((w : World) (k : Known) (part : List Event) (own : Option Event) → IsKnown w k → Before k → AreOthers part → DoesCommit change result (now w part) own → Fact w k (part ++ own_events own)) → Runs o Before (CommittedBy change result) Fact Cause a b
runs-commit {S} {o} {change} {result} {Before} {Fact} {Cause} calls may fact =
    runs-call calls (λ w k known here event does. commit-one change result w k event known (may w k known here) does.is) (λ w k known here does. commit-none change result w k does.is) fact
