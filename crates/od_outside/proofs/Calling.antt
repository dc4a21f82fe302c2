-- What each kind of request comes to.
use Rattle.std.proofs.Common.{◌≡◌, ◌⊎◌, inl, inr, ℕ, ◌≤◌, Bool, true, false, List, [], ◌∷◌, ◌++◌, Option, Some, None, Result, Ok, Err, refl, ap, sym, subst, ◌∙◌}
use Rattle.std.specs.Option.{option_map}
use Rattle.gd_item.specs.Answers.{answer_served}
use Rattle.gd_item.specs.Requests.{kind_of}
use Rattle.gd_item.specs.Steps.{state_of}
use Rattle.gd_item.specs.Written.{IsWritten}
use Rattle.gd_item.specs.declared.reply.Reply.{Reply}
use Rattle.gd_item.specs.declared.request.Request.{Request}
use Rattle.gd_item.specs.declared.request.Request.TheVariants.{Get, Children, MakeFolder, Put, Patch, Delete, Content, Download, OpenSession, Fragment, SessionStatus, CancelSession, Finish, Delta}
use Rattle.gd_item.specs.declared.request.RequestKind.TheVariants as kind
use Rattle.gd_item.specs.declared.step.Step.{Step}
use Rattle.gd_item.specs.declared.step.Step.TheVariants as step
use Rattle.gd_item.specs.declared.step.Who.TheVariants.{Own, Other}
use Rattle.od_outside.specs.Asks.{AreSpent, AreSuch, AreUnheard, DoesAsked, DoesServeBy, DoesServed, sent_event}
use Rattle.od_outside.specs.Calls.{AreOthers, Calls, own_events}
use Rattle.od_outside.specs.Learning.{AskedBy, IsAnswered, IsTried, IsUnanswered, MayBeAsked, ServedThen, TriedThen, after_asking, is_steady, lost_known}
use Rattle.od_outside.specs.Running.{IsKnown, Runs}
use Rattle.od_outside.specs.Seeing.{Counts, Seen}
use Rattle.od_outside.proofs.Glue.{MayCome, MayOne, Passes, runs-call, runs-call-by}
use Rattle.od_remote.specs.Again.{IsSpent, IsUnheard}
use Rattle.od_remote.specs.Asking.{DoesAsk, IsSend, Sent}
use Rattle.od_remote.specs.Counting.{Reading}
use Rattle.od_remote.specs.declared.again.ServeFault.{ServeFault}
use Rattle.od_remote.specs.declared.again.ServeFault.TheVariants as serve
use Rattle.od_remote.specs.declared.remote.AskFault.{AskFault}
use Rattle.od_remote.specs.declared.remote.AskFault.TheVariants as ask
use Rattle.od_run.specs.Acting.{LegalFrom, May, MayRequest}
use Rattle.od_run.specs.Knowing.{Known, learn, learned}
use Rattle.od_run.specs.Worlds.{World, Event, Asked, Worked, Kept, happens, now}
use Rattle.od_tree.specs.declared.step.LocalStep.TheVariants.{User, Op}

-- ---- the call's own event
-- it comes to the drive as itself
sent-may : (w : World) (k mid : Known) (request : Request) (After : Known → Known → Type 0) (sent : Sent) → IsSend request sent → MayBeAsked request mid → After k (after_asking w.drive sent.size request sent.served sent.heard mid)
    → MayCome w k mid After (sent_event sent)
sent-may w k mid request After sent send may after =
    let same = sym (send.sent_as may.written) in
    record {
      may = (send.least, send.most, subst (MayRequest mid) same may.may);
      knows = subst (λ (r : Request). After k (after_asking w.drive sent.size r sent.served sent.heard mid)) same after;
    }

sent-known : (request : Request) (result : Result Reply AskFault) (w : World) (mid : Known) (sent : Sent) → MayBeAsked request mid → DoesAsk request result w.drive (Some sent)
    → IsSend request sent × AskedBy request result mid (after_asking w.drive sent.size request sent.served sent.heard mid)
sent-known request (Ok reply) w mid sent may does = (
  does.send,
  record {
    drive = w.drive;
    size = sent.size;
    served = sent.served;
    next_is = ap (λ heard. after_asking w.drive sent.size request sent.served heard mid) does.heard;
    reply_is = does.reply_is ∙ ap (answer_served sent.served (state_of w.drive) sent.size) (does.send.sent_as may.written);
  },
)
sent-known request (Err ask.Failed) w mid sent may does = (
  does.send,
  inr (record { drive = w.drive; size = sent.size; served = sent.served; next_is = ap (λ heard. after_asking w.drive sent.size request sent.served heard mid) does.heard }),
)
sent-known request (Err (ask.Bad bytes)) w mid sent may does = absurd (does.unwritten may.written)
sent-known request (Err ask.Memory) w mid sent may does = (does, inr (sent.heard, record { drive = w.drive; size = sent.size; served = sent.served; next_is = refl }))

not-sent : (request : Request) (result : Result Reply AskFault) (drive : List Step) (k : Known) → DoesAsk request result drive None → AskedBy request result k k
not-sent request (Ok reply) drive k does = absurd does
not-sent request (Err ask.Failed) drive k does = inl refl
not-sent request (Err (ask.Bad bytes)) drive k does = absurd does
not-sent request (Err ask.Memory) drive k does = inl refl

-- of what is known then this is so
own-asked : (After : Known → Known → Type 0) (request : Request) (result : Result Reply AskFault) (w : World) (k mid : Known) (event : Event) → ((next : Known) → AskedBy request result mid next → After k next) → MayBeAsked request mid
    → (sent : Option Sent) → Some event ≡ option_map sent_event sent → DoesAsk request result w.drive sent → MayCome w k mid After event
own-asked After request result w k mid event so may None is does = absurd (cc is)
own-asked After request result w k mid event so may (Some sent) is does =
    let known = sent-known request result w mid sent may does in
    let same : event ≡ sent_event sent = cc is in
    subst (MayCome w k mid After) (sym same) (sent-may w k mid request After sent known.0 may (so (after_asking w.drive sent.size request sent.served sent.heard mid) known.1))

none-asked : (request : Request) (result : Result Reply AskFault) (w : World) (mid : Known) → (sent : Option Sent) → None ≡ option_map sent_event sent → DoesAsk request result w.drive sent → AskedBy request result mid mid
none-asked request result w mid None is does = not-sent request result w.drive mid does
none-asked request result w mid (Some sent) is does = absurd (cc is)

-- ---- one request
one-asked : (request : Request) (result : Result Reply AskFault) (w : World) (k : Known) (event : Event) → MayBeAsked request k → DoesAsked request result w (Some event) → MayOne w k (AskedBy request result) event
one-asked request result w k event may does =
    let come = own-asked (AskedBy request result) request result w k k event (λ next is. is) may does.sent does.own_is does.does in
    record { may = come.may; knows = come.knows }

pub runs-ask : {S : Type 0} {o : Seen S} {request : Request} {result : Result Reply AskFault} {Before : Known → Type 0} {Fact : World → Known → List Event → Type 0} {Cause : Reading → Counts → Counts → Type 0} {a b : S}
    → Calls o AreOthers (DoesAsked request result) Cause a b → ((w : World) (k : Known) → IsKnown w k → Before k → MayBeAsked request k)
    → ((w : World) (k : Known) (part : List Event) (own : Option Event) → IsKnown w k → Before k → AreOthers part → DoesAsked request result (now w part) own → Fact w k (part ++ own_events own)) → Runs o Before (AskedBy request result) Fact Cause a b
runs-ask {S} {o} {request} {result} {Before} {Fact} {Cause} calls may fact =
    runs-call calls (λ w k known here event does. one-asked request result w k event (may w k known here) does) (λ w k known here does. none-asked request result w k does.sent does.own_is does.does) fact

-- ---- requests that are sent again
-- what is known after a send that was lost
lost-again : (request : Request) (k mid : Known) → IsTried request k mid → IsTried request k (lost_known request mid)
lost-again (Delta token) k mid (inl is) = inr (ap (lost_known (Delta token)) is)
lost-again (Delta token) k mid (inr is) = inr (ap (lost_known (Delta token)) is)
lost-again request k mid tried = tried

may-still : (request : Request) (k mid : Known) → IsTried request k mid → MayBeAsked request k → MayBeAsked request mid
may-still request k mid (inl is) may = subst (MayBeAsked request) (sym is) may
may-still (Delta token) k mid (inr is) may = subst (MayBeAsked (Delta token)) (sym is) (record { written = may.written; may = may.may })
may-still request k mid (inr is) may = subst (MayBeAsked request) (sym is) may

unheard-known : (request : Request) (drive : List Step) (size : ℕ) (served : Bool) (mid : Known) → is_steady request ≡ true → after_asking drive size request served false mid ≡ lost_known request mid
unheard-known (Put at bytes behaviour condition) drive size served mid steady = absurd (cc steady)
unheard-known (OpenSession at name behaviour condition defer) drive size served mid steady = absurd (cc steady)
unheard-known (Delta token) drive size true mid steady = refl
unheard-known (Delta token) drive size false mid steady = refl
unheard-known request drive size true mid steady = refl
unheard-known request drive size false mid steady = refl

unserved-known : (request : Request) (drive : List Step) (size : ℕ) (heard : Bool) (mid : Known) → kind_of request ≡ kind.Delta → after_asking drive size request false heard mid ≡ lost_known request mid
unserved-known (Delta token) drive size heard mid is = refl
unserved-known request drive size heard mid is = absurd (cc is)

-- such sends come to the drive as themselves, and are lost
pub record AreLost (request : Request) (Such : Request → Bool → Bool → Type 0) : Type 0 where
  pub lost : (drive : List Step) (size : ℕ) (mid : Known) (sent : Request) (served heard : Bool) → IsWritten request → Such sent served heard → (sent ≡ request) × (after_asking drive size request served heard mid ≡ lost_known request mid)

unheard-lost : (request : Request) → is_steady request ≡ true → AreLost request (IsUnheard request)
unheard-lost request steady = record {
  lost = λ drive size mid sent served heard written such. (
    such.0 written,
    ap (λ h. after_asking drive size request served h mid) such.1 ∙ unheard-known request drive size served mid steady,
  );
}

delta-steady : (request : Request) → kind_of request ≡ kind.Delta → is_steady request ≡ true
delta-steady (Delta token) is = refl
delta-steady request is = absurd (cc is)

spent-is : (request : Request) (drive : List Step) (size : ℕ) (mid : Known) (served heard : Bool) → kind_of request ≡ kind.Delta → (heard ≡ true → served ≡ false) → after_asking drive size request served heard mid ≡ lost_known request mid
spent-is request drive size mid served true is spent = ap (λ s. after_asking drive size request s true mid) (spent refl) ∙ unserved-known request drive size true mid is
spent-is request drive size mid served false is spent = unheard-known request drive size served mid (delta-steady request is)

spent-lost : (request : Request) → kind_of request ≡ kind.Delta → AreLost request (IsSpent request)
spent-lost request is = record { lost = λ drive size mid sent served heard written such. (such.0 written, spent-is request drive size mid served heard is (λ yes. such.1 yes written)) }

-- one after another
tries-pass : (request : Request) (Such : Request → Bool → Bool → Type 0) → AreLost request Such → (w : World) (k mid : Known) (part : List Event) → MayBeAsked request k → IsTried request k mid → AreSuch Such part
    → LegalFrom w mid part × IsTried request k (learned w mid part)
tries-pass request Such lost w k mid [] may tried such = (tt, tried)
tries-pass request Such lost w k mid (Asked size (step.Ask Own sent served heard) ∷ part) may tried such =
    let one = lost.lost w.drive size mid sent served heard may.written such.0.2 in
    let next : learn w mid (Asked size (step.Ask Own sent served heard)) ≡ lost_known request mid = ap (λ (r : Request). after_asking w.drive size r served heard mid) one.0 ∙ one.1 in
    let rest = tries-pass request Such lost (happens w (Asked size (step.Ask Own sent served heard))) k (learn w mid (Asked size (step.Ask Own sent served heard))) part may (subst (IsTried request k) (sym next) (lost-again request k mid tried)) such.1 in
    (((such.0.0, such.0.1, subst (MayRequest mid) (sym one.0) (may-still request k mid tried may).may), rest.0), rest.1)
tries-pass request Such lost w k mid (Asked size (step.Ask Other sent served heard) ∷ part) may tried such =
    let rest = tries-pass request Such lost (happens w (Asked size (step.Ask Other sent served heard))) k mid part may tried such.1 in ((tt, rest.0), rest.1)
tries-pass request Such lost w k mid (Asked size (step.Event event) ∷ part) may tried such =
    let rest = tries-pass request Such lost (happens w (Asked size (step.Event event))) k mid part may tried such.1 in ((tt, rest.0), rest.1)
tries-pass request Such lost w k mid (Worked (User edit) ∷ part) may tried such =
    let rest = tries-pass request Such lost (happens w (Worked (User edit))) k mid part may tried such.1 in ((tt, rest.0), rest.1)
tries-pass request Such lost w k mid (Worked (Op call) ∷ part) may tried such = absurd such.0
tries-pass request Such lost w k mid (Kept image ∷ part) may tried such = absurd such.0

tried-then : (request : Request) (result : Result Reply AskFault) (k mid next : Known) → IsTried request k mid → AskedBy request result mid next → TriedThen request result k next
tried-then request result k mid next tried asked = record { mid = mid; tried = tried; asked = asked }

-- what is known after some of them, and that it may be sent
pub record IsMid (request : Request) (k mid : Known) : Type 0 where
  pub may : MayBeAsked request mid
  pub tried : IsTried request k mid

mid-pass : (request : Request) (Such : Request → Bool → Bool → Type 0) → AreLost request Such → (w : World) (k : Known) (part : List Event) → MayBeAsked request k → AreSuch Such part → Passes w k (IsMid request) part
mid-pass request Such lost w k part may such =
    let pass = tries-pass request Such lost w k k part may (inl refl) such in
    record { legal = pass.0; knows = record { may = may-still request k (learned w k part) pass.1 may; tried = pass.1 } }

come-then : (request : Request) (result : Result Reply AskFault) (w : World) (k mid : Known) (event : Event) → IsMid request k mid → DoesAsked request result w (Some event) → MayCome w k mid (TriedThen request result) event
come-then request result w k mid event is does =
    own-asked (TriedThen request result) request result w k mid event (λ next asked. tried-then request result k mid next is.tried asked) is.may does.sent does.own_is does.does

none-then : (request : Request) (result : Result Reply AskFault) (w : World) (k mid : Known) → IsMid request k mid → DoesAsked request result w None → TriedThen request result k mid
none-then request result w k mid is does = tried-then request result k mid mid is.tried (none-asked request result w mid does.sent does.own_is does.does)

pub runs-again : {S : Type 0} {o : Seen S} {request : Request} {result : Result Reply AskFault} {Before : Known → Type 0} {Fact : World → Known → List Event → Type 0} {Cause : Reading → Counts → Counts → Type 0} {a b : S}
    → is_steady request ≡ true → Calls o (AreUnheard request) (DoesAsked request result) Cause a b → ((w : World) (k : Known) → IsKnown w k → Before k → MayBeAsked request k)
    → ((w : World) (k : Known) (part : List Event) (own : Option Event) → IsKnown w k → Before k → AreUnheard request part → DoesAsked request result (now w part) own → Fact w k (part ++ own_events own)) → Runs o Before (TriedThen request result) Fact Cause a b
runs-again {S} {o} {request} {result} {Before} {Fact} {Cause} steady calls may fact =
    runs-call-by (IsMid request) calls (λ w k known here part unheard. mid-pass request (IsUnheard request) (unheard-lost request steady) w k part (may w k known here) unheard.such)
    (λ w k mid known here is event does. come-then request result w k mid event is does) (λ w k mid known here is does. none-then request result w k mid is does) fact

-- ---- requests for changes that are sent again where the drive lacks memory too
come-served : (request : Request) (result : Result Reply ServeFault) (w : World) (k mid : Known) (event : Event) → IsMid request k mid → DoesServeBy request result w (Some event) → MayCome w k mid (ServedThen request result) event
come-served request (Ok reply) w k mid event is does = let come = come-then request (Ok reply) w k mid event is does in record { may = come.may; knows = come.knows }
come-served request (Err serve.Failed) w k mid event is does = absurd (cc does)
come-served request (Err serve.Unserved) w k mid event is does = absurd (cc does)
come-served request (Err (serve.Bad bytes)) w k mid event is does =
    let come = own-asked (λ k next. ⊥) request (Err (ask.Bad bytes)) w k mid event (λ next asked. asked) is.may does.sent does.own_is does.does in absurd come.knows
come-served request (Err serve.Memory) w k mid event is does = let come = come-then request (Err ask.Memory) w k mid event is does in record { may = come.may; knows = come.knows }

none-served : (request : Request) (result : Result Reply ServeFault) (w : World) (k mid : Known) → IsMid request k mid → DoesServeBy request result w None → ServedThen request result k mid
none-served request (Ok reply) w k mid is does = none-then request (Ok reply) w k mid is does
none-served request (Err serve.Failed) w k mid is does = is.tried
none-served request (Err serve.Unserved) w k mid is does = is.tried
none-served request (Err (serve.Bad bytes)) w k mid is does = absurd (none-asked request (Err (ask.Bad bytes)) w mid does.sent does.own_is does.does)
none-served request (Err serve.Memory) w k mid is does = none-then request (Err ask.Memory) w k mid is does

pub runs-served : {S : Type 0} {o : Seen S} {request : Request} {result : Result Reply ServeFault} {Before : Known → Type 0} {Fact : World → Known → List Event → Type 0} {Cause : Reading → Counts → Counts → Type 0} {a b : S}
    → kind_of request ≡ kind.Delta → Calls o (AreSpent request result) (DoesServed request result) Cause a b → ((w : World) (k : Known) → IsKnown w k → Before k → MayBeAsked request k)
    → ((w : World) (k : Known) (part : List Event) (own : Option Event) → IsKnown w k → Before k → AreSpent request result part → DoesServed request result (now w part) own → Fact w k (part ++ own_events own)) → Runs o Before (ServedThen request result) Fact Cause a b
runs-served {S} {o} {request} {result} {Before} {Fact} {Cause} delta calls may fact =
    runs-call-by (IsMid request) calls (λ w k known here part spent. mid-pass request (IsSpent request) (spent-lost request delta) w k part (may w k known here) spent.such)
    (λ w k mid known here is event does. come-served request result w k mid event is does.is) (λ w k mid known here is does. none-served request result w k mid is does.is) fact

-- what is known after sends to which the drive answered that it lacks memory, or that were not heard
pub spent-learned : (request : Request) → kind_of request ≡ kind.Delta → (w : World) (k : Known) (part : List Event) → MayBeAsked request k → AreSuch (IsSpent request) part → IsTried request k (learned w k part)
spent-learned request is w k part may such = (tries-pass request (IsSpent request) (spent-lost request is) w k k part may (inl refl) such).1

-- and after sends that were not heard
pub unheard-learned : (request : Request) → is_steady request ≡ true → (w : World) (k : Known) (part : List Event) → MayBeAsked request k → AreSuch (IsUnheard request) part → IsTried request k (learned w k part)
unheard-learned request steady w k part may such = (tries-pass request (IsUnheard request) (unheard-lost request steady) w k k part may (inl refl) such).1
