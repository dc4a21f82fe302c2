-- Events that only look, and what a call sees of the folder.
use Rattle.std.proofs.Common.{◌≡◌, ◌⊎◌, inl, inr, ℕ, ◌+◌, Bool, true, false, cond, List, [], ◌∷◌, ◌++◌, is_none, Option, Some, None, Ok, Err, refl, ap, sym, subst, ◌∙◌, append_assoc}
use Rattle.std.proofs.lemmas.List.{append-nil}
use Rattle.std.specs.List.{AllByRecursion}
use Rattle.gd_names.proofs.Each.{each-append, each-first, each-so}
use Rattle.gd_item.specs.declared.step.Step.TheVariants as step
use Rattle.gd_item.specs.declared.step.Who.TheVariants.{Own, Other}
use Rattle.od_outside.specs.Calls.{AreOthers, Calls, own_events}
use Rattle.od_outside.specs.Learning.{IsWorkDone, after_working}
use Rattle.od_outside.specs.Running.{Runs}
use Rattle.od_outside.specs.Seeing.{Counts, Seen}
use Rattle.od_outside.specs.Works.{DoesWork, DoesWorkBy, WorkCause}
use Rattle.od_outside.proofs.Glue.{runs-so}
use Rattle.od_outside.proofs.Working.{runs-work}
use Rattle.od_remote.specs.Counting.{Reading}
use Rattle.od_run.specs.Acting.{MayDo}
use Rattle.od_run.specs.Knowing.{Path, Known, learn, learned}
use Rattle.od_run.specs.Worlds.{World, Event, Asked, Worked, Kept, IsOther, happens, kept_in, now}
use Rattle.od_run.proofs.Legal.{learned-append, others-learn}
use Rattle.od_tree.specs.Local.{Local, after_step, after_steps, local_of, op_refusal}
use Rattle.od_tree.specs.Undisturbed.{IsOp, NoUser}
use Rattle.od_tree.specs.declared.fault.TreeFault.TheVariants.{Missing, Failed, Memory}
use Rattle.od_tree.specs.declared.local.Spot.{Spot}
use Rattle.od_tree.specs.declared.step.LocalStep.{LocalStep}
use Rattle.od_tree.specs.declared.step.LocalStep.TheVariants.{User, Op}
use Rattle.od_tree.specs.declared.step.TreeOp.{TreeOp}
use Rattle.od_tree.specs.declared.step.TreeOp.TheVariants as op
use Rattle.od_reconcile.specs.declared.types.Node.{Node}
use Rattle.od_scan.specs.Scans.{Always, IsLook, IsLookStep, OnlyLooks, StaysBut, StopCause, looks_at, looks_for, ops_in}
use Rattle.od_scan.specs.Visits.{Sees, worked_in}
use Rattle.od_scan.specs.declared.stop.ScanStop.TheVariants as stop

-- ---- the folder's log
pub local-now : (w : World) (events : List Event) → (now w events).local ≡ w.local ++ worked_in events
local-now w [] = sym (append-nil w.local)
local-now w (Asked size step ∷ events) = local-now (happens w (Asked size step)) events
local-now w (Worked step ∷ events) = local-now (happens w (Worked step)) events ∙ append_assoc w.local (step ∷ []) (worked_in events)
local-now w (Kept image ∷ events) = local-now (happens w (Kept image)) events

worked-append : (xs ys : List Event) → worked_in (xs ++ ys) ≡ worked_in xs ++ worked_in ys
worked-append [] ys = refl
worked-append (Asked size step ∷ xs) ys = worked-append xs ys
worked-append (Worked step ∷ xs) ys = ap (λ (more : List LocalStep). step ∷ more) (worked-append xs ys)
worked-append (Kept image ∷ xs) ys = worked-append xs ys

pub steps-look : (events : List Event) → AllByRecursion IsLook events → AllByRecursion IsLookStep (worked_in events)
steps-look [] looks = tt
steps-look (Asked size step ∷ events) looks = steps-look events looks.1
steps-look (Worked step ∷ events) looks = (looks.0, steps-look events looks.1)
steps-look (Kept image ∷ events) looks = absurd looks.0

pub none-kept : (events : List Event) → AllByRecursion IsLook events → kept_in events ≡ []
none-kept [] looks = refl
none-kept (Asked size step ∷ events) looks = none-kept events looks.1
none-kept (Worked step ∷ events) looks = none-kept events looks.1
none-kept (Kept image ∷ events) looks = absurd looks.0

pub ops-append : (xs ys : List Event) → ops_in (xs ++ ys) ≡ ops_in xs ++ ops_in ys
ops-append [] ys = refl
ops-append (Asked size step ∷ xs) ys = ops-append xs ys
ops-append (Worked (User edit) ∷ xs) ys = ops-append xs ys
ops-append (Worked (Op call) ∷ xs) ys = ap (λ (more : List TreeOp). call ∷ more) (ops-append xs ys)
ops-append (Kept image ∷ xs) ys = ops-append xs ys

pub looks-append : (xs ys : List (Path × Node)) → looks_for (xs ++ ys) ≡ looks_for xs ++ looks_for ys
looks-append [] ys = refl
looks-append (entry ∷ xs) ys = ap (λ (more : List TreeOp). looks_at entry.0 entry.1 ++ more) (looks-append xs ys) ∙ sym (append_assoc (looks_at entry.0 entry.1) (looks_for xs) (looks_for ys))

-- ---- steps of others
other-look : (event : Event) → IsOther event → IsLook event
other-look (Asked size (step.Ask Own request served heard)) is = absurd is
other-look (Asked size (step.Ask Other request served heard)) is = tt
other-look (Asked size (step.Event event)) is = tt
other-look (Worked (User edit)) is = tt
other-look (Worked (Op call)) is = absurd is
other-look (Kept image) is = absurd is

pub others-look : (part : List Event) → AreOthers part → AllByRecursion IsLook part
others-look part others = each-so IsOther IsLook other-look part others

others-still : (part : List Event) → AreOthers part → NoUser (worked_in part) → worked_in part ≡ []
others-still [] others alone = refl
others-still (Asked size step ∷ part) others alone = others-still part others.1 alone
others-still (Worked (User edit) ∷ part) others alone = absurd alone.0
others-still (Worked (Op call) ∷ part) others alone = absurd others.0
others-still (Kept image ∷ part) others alone = absurd others.0

pub others-none : (part : List Event) → AreOthers part → ops_in part ≡ []
others-none [] others = refl
others-none (Asked size step ∷ part) others = others-none part others.1
others-none (Worked (User edit) ∷ part) others = others-none part others.1
others-none (Worked (Op call) ∷ part) others = absurd others.0
others-none (Kept image ∷ part) others = absurd others.0

-- ---- what one call sees
abbrev OwnLooks : Option Event → Type 0
OwnLooks None = Unit {0}
OwnLooks (Some event) = IsLook event

own-looks : (own : Option Event) → OwnLooks own → AllByRecursion IsLook (own_events own)
own-looks None looks = tt
own-looks (Some event) looks = (looks, tt)

sees-own : (added : List (Path × Node)) (Holds : List Spot → Type 0) (w : World) (k : Known) (part : List Event) (own : Option Event) → AreOthers part → OwnLooks own → looks_for added ≡ ops_in (own_events own) → (learned (now w part) k (own_events own)).here.scanned ≡ k.here.scanned
    → Holds (local_of (now w part).local).spots → Sees [] added Holds w k (part ++ own_events own)
sees-own added Holds w k part own others looks ops scanned holds = record {
  looks = each-append IsLook part (own_events own) (others-look part others) (own-looks own looks);
  ops = ops ∙ ap (λ (front : List TreeOp). front ++ ops_in (own_events own)) (sym (others-none part others)) ∙ sym (ops-append part (own_events own));
  moment = (now w part).local;
  held = holds;
  scanned = ap (λ (n : Known). n.here.scanned) (learned-append w k part (own_events own))
      ∙ subst (λ (mid : Known). (learned (now w part) mid (own_events own)).here.scanned ≡ k.here.scanned) (sym (others-learn w k part others)) scanned;
  holds = λ alone.
      let first = each-first IsOp (worked_in part) (worked_in (own_events own)) (subst NoUser (worked-append part (own_events own)) alone) in
      let same : (now w part).local ≡ w.local = local-now w part ∙ ap (λ (more : List LocalStep). w.local ++ more) (others-still part others first) ∙ append-nil w.local in
      subst (λ (log : List LocalStep). Holds (local_of log).spots) same holds;
}

-- it is done
pub done-sees : {T : Type 0} (call : TreeOp) (Value : Local → T → Type 0) (x : T) (added : List (Path × Node)) (Holds : List Spot → Type 0) → IsLookStep (Op call) → looks_for added ≡ call ∷ [] → ((w : World) (k : Known) → (learn w k (Worked (Op call))).here.scanned ≡ k.here.scanned)
    → ((local : Local) → op_refusal local call ≡ None → Value local x → Holds local.spots) → (w : World) (k : Known) (part : List Event) (own : Option Event) → AreOthers part → DoesWorkBy call Value (Ok x) (now w part) own
    → Sees [] added Holds w k (part ++ own_events own)
done-sees {T} call Value x added Holds look ops same gives w k part None others does = absurd does
done-sees {T} call Value x added Holds look ops same gives w k part (Some event) others does =
    subst (λ (e : Event). Sees [] added Holds w k (part ++ own_events (Some e))) (sym does.0.event_is)
    (sees-own added Holds w k part (Some (Worked (Op call))) others look ops (same (now w part) k) (gives (local_of (now w part).local) does.0.allowed does.1))

-- it is refused, since nothing is there
pub gone-sees : {T : Type 0} (call : TreeOp) (Value : Local → T → Type 0) (Holds : List Spot → Type 0) → ((local : Local) → op_refusal local call ≡ Some Missing → Holds local.spots)
    → (w : World) (k : Known) (part : List Event) (own : Option Event) → AreOthers part → DoesWorkBy call Value (Err Missing) (now w part) own → Sees [] [] Holds w k (part ++ own_events own)
gone-sees {T} call Value Holds gives w k part None others does = sees-own [] Holds w k part None others tt refl refl (gives (local_of (now w part).local) does)
gone-sees {T} call Value Holds gives w k part (Some event) others does = absurd does

-- ---- where it stops
stays-same : (k next : Known) → next ≡ k → StaysBut k next
stays-same k next is = record { image = ap (λ (n : Known). n.image) is; feed = ap (λ (n : Known). n.feed) is; there = ap (λ (n : Known). n.there) is }

pub stays-done : (log : List LocalStep) (call : TreeOp) (k next : Known) → next ≡ after_working log call k → StaysBut k next
stays-done log call k next is = record { image = ap (λ (n : Known). n.image) is; feed = ap (λ (n : Known). n.feed) is; there = ap (λ (n : Known). n.there) is }

stays-either : (call : TreeOp) (k next : Known) → (next ≡ k) ⊎ IsWorkDone call k next (λ local. Unit {0}) → StaysBut k next
stays-either call k next (inl is) = stays-same k next is
stays-either call k next (inr done) = stays-done done.local call k next done.next_is

failed-looks : {T : Type 0} (call : TreeOp) (Value : Local → T → Type 0) → IsLookStep (Op call) → (w : World) (k : Known) (part : List Event) (own : Option Event) → AreOthers part → DoesWorkBy {T = T} call Value (Err Failed) (now w part) own
    → OnlyLooks w k (part ++ own_events own)
failed-looks {T} call Value look w k part None others does = each-append IsLook part [] (others-look part others) tt
failed-looks {T} call Value look w k part (Some event) others does = each-append IsLook part (event ∷ []) (others-look part others) (subst IsLook (sym does.event_is) look, tt)

memory-looks : {T : Type 0} (call : TreeOp) (Value : Local → T → Type 0) (w : World) (k : Known) (part : List Event) (own : Option Event) → AreOthers part → DoesWorkBy {T = T} call Value (Err Memory) (now w part) own
    → OnlyLooks w k (part ++ own_events own)
memory-looks {T} call Value w k part None others does = each-append IsLook part [] (others-look part others) tt
memory-looks {T} call Value w k part (Some event) others does = absurd does

pub work-failed : {S T : Type 0} {o : Seen S} {a b : S} (call : TreeOp) (Value : Local → T → Type 0) → IsLookStep (Op call) → ((k : Known) → MayDo k call) → Calls o AreOthers (DoesWork call Value (Err Failed)) (WorkCause {T = T} call (Err Failed)) a b
    → Runs o Always StaysBut OnlyLooks (StopCause stop.Failed) a b
work-failed {S} {T} {o} {a} {b} call Value look may calls =
    runs-so (runs-work {Before = Always} {Fact = OnlyLooks} calls (λ w k known here. may k) (λ w k part own known here others does. failed-looks call Value look w k part own others does.is)) (λ cause. cause.failed refl) (λ k here. here)
    (λ k next here is. stays-either call k next is) (λ w k more here fact. fact)

pub work-memory : {S T : Type 0} {o : Seen S} {a b : S} (call : TreeOp) (Value : Local → T → Type 0) → IsLookStep (Op call) → ((k : Known) → MayDo k call) → Calls o AreOthers (DoesWork call Value (Err Memory)) (WorkCause {T = T} call (Err Memory)) a b
    → Runs o Always StaysBut OnlyLooks (StopCause stop.Memory) a b
work-memory {S} {T} {o} {a} {b} call Value look may calls =
    runs-so (runs-work {Before = Always} {Fact = OnlyLooks} calls (λ w k known here. may k) (λ w k part own known here others does. memory-looks call Value w k part own others does.is)) (λ cause. tt) (λ k here. here)
    (λ k next here is. stays-same k next is) (λ w k more here fact. fact)

-- memory is short after it
pub stops-short : {S : Type 0} {o : Seen S} {a b : S} {After : Known → Known → Type 0} {Fact : World → Known → List Event → Type 0} {Cause : Reading → Counts → Counts → Type 0}
    → ((k next : Known) → After k next → StaysBut k next) → ((w : World) (k : Known) (more : List Event) → Fact w k more → OnlyLooks w k more) → Runs o Always After Fact Cause a b → Runs o Always StaysBut OnlyLooks (StopCause stop.Memory) a b
stops-short stays looks runs = runs-so runs (λ cause. tt) (λ k here. here) (λ k next here is. stays k next is) (λ w k more here fact. looks w k more fact)

-- ---- looks keep the folder
same-either : (b : Bool) (local : Local) → cond b local local ≡ local
same-either true local = refl
same-either false local = refl

one-look : (n : ℕ) (local : Local) (step : LocalStep) → IsLookStep step → IsOp step → after_step n local step ≡ local
one-look n local (User edit) look alone = absurd alone
one-look n local (Op (op.List at)) look alone = same-either (is_none (op_refusal local (op.List at))) local
one-look n local (Op (op.Read at)) look alone = same-either (is_none (op_refusal local (op.Read at))) local
one-look n local (Op (op.MakeDir at)) look alone = absurd look
one-look n local (Op (op.RemoveDir at)) look alone = absurd look
one-look n local (Op (op.Place at bytes)) look alone = absurd look
one-look n local (Op (op.Rename from to)) look alone = absurd look
one-look n local (Op (op.SetAside at)) look alone = absurd look
one-look n local (Op (op.ReadAside aside)) look alone = absurd look
one-look n local (Op (op.PutBack aside to)) look alone = absurd look
one-look n local (Op (op.Discard aside)) look alone = absurd look
one-look n local (Op op.Asides) look alone = absurd look

pub looks-keep : (n : ℕ) (local : Local) (old part : List LocalStep) → AllByRecursion IsLookStep part → NoUser part → after_steps n local (old ++ part) ≡ after_steps n local old
looks-keep n local [] [] looks alone = refl
looks-keep n local [] (step ∷ part) looks alone = looks-keep (n + 1) (after_step n local step) [] part looks.1 alone.1 ∙ one-look n local step looks.0 alone.0
looks-keep n local (step ∷ old) part looks alone = looks-keep (n + 1) (after_step n local step) old part looks alone
