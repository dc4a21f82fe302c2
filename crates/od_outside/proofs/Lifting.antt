-- A call on one of the three is events in the world.
use Rattle.std.proofs.Common.{◌≡◌, ◌⊎◌, inl, inr, ℕ, ◌≤◌, arith, Bool, List, [], ◌∷◌, ◌++◌, map, Option, Some, None, Result, Ok, Err, IsErrOf, refl, ap, sym, subst, ◌∙◌, append_assoc}
use Rattle.std.proofs.lemmas.List.{append-nil, map-append}
use Rattle.std.specs.List.{AllByRecursion}
use Rattle.std.specs.Option.{option_map}
use Rattle.gd_item.specs.declared.reply.Reply.{Reply}
use Rattle.gd_item.specs.declared.request.Request.{Request}
use Rattle.gd_item.specs.declared.step.Step.{Step}
use Rattle.gd_item.specs.declared.step.Step.TheVariants as step
use Rattle.gd_item.specs.declared.step.Who.TheVariants.{Own, Other}
use Rattle.od_keeper.specs.Images.{applied}
use Rattle.od_keeper.specs.Keeping.{Commits, Loads, last_image}
use Rattle.od_keeper.specs.declared.fault.KeeperFault.{KeeperFault}
use Rattle.od_keeper.specs.declared.image.Change.{Change}
use Rattle.od_keeper.specs.declared.image.Image.{Image}
use Rattle.od_outside.specs.Asks.{AreSpent, AreSuch, AreUnheard, DoesAsked, DoesServeBy, DoesServed, most_spent, sent_event}
use Rattle.od_outside.specs.Calls.{AreOthers, Happened, own_events}
use Rattle.od_outside.specs.Seeing.{world_of}
use Rattle.od_outside.specs.Works.{DoesCommit, DoesLoad, DoesWork}
use Rattle.od_remote.specs.Again.{AskedThen, AsksAgain, AsksServed, EndsUnserved, IsSpent, IsUnheard, ServedBy}
use Rattle.od_remote.specs.Asking.{Asks, ByOthers, DoesAsk, IsSuch, Never, OwnAre, Sent, own_requests, sent_steps}
use Rattle.od_remote.specs.declared.again.ServeFault.{ServeFault}
use Rattle.od_remote.specs.declared.again.ServeFault.TheVariants as serve
use Rattle.od_remote.specs.declared.remote.AskFault.{AskFault}
use Rattle.od_remote.specs.declared.remote.AskFault.TheVariants as ask
use Rattle.od_remote.proofs.Logs.{few-others, such-append, such-others}
use Rattle.od_remote.proofs.Unserved.{spent-unheard}
use Rattle.od_run.specs.Worlds.{World, Event, Asked, Worked, Kept, IsOther, happens, now, steps_in}
use Rattle.od_run.proofs.Legal.{now-append}
use Rattle.od_tree.specs.Calls as tree
use Rattle.od_tree.specs.Local.{Local, local_of, op_refusal}
use Rattle.od_tree.specs.declared.edit.UserEdit.{UserEdit}
use Rattle.od_tree.specs.declared.fault.TreeFault.{TreeFault}
use Rattle.od_tree.specs.declared.fault.TreeFault.TheVariants.{Taken, Missing, NotEmpty, Failed, Memory}
use Rattle.od_tree.specs.declared.step.LocalStep.{LocalStep}
use Rattle.od_tree.specs.declared.step.LocalStep.TheVariants.{User, Op}
use Rattle.od_tree.specs.declared.step.TreeOp.{TreeOp}

-- what is told of all is told of each
record Told (d : Option (List Step)) (l : Option (List LocalStep)) (i : Option (List Image)) (w : World) : Type 0 where
  drive : d ≡ Some w.drive
  local : l ≡ Some w.local
  images : i ≡ Some w.images

told : (drive : Option (List Step)) (local : Option (List LocalStep)) (images : Option (List Image)) (w : World) → world_of drive local images ≡ Some w → Told drive local images w
told (Some drive) (Some local) (Some images) w is =
    let same : record { drive = drive; local = local; images = images } ≡ w = cc is in
    record { drive = ap (λ (v : World). Some v.drive) same; local = ap (λ (v : World). Some v.local) same; images = ap (λ (v : World). Some v.images) same }
told None local images w is = cc is
told (Some drive) None images w is = cc is
told (Some drive) (Some local) None w is = cc is

-- the world with another log
abbrev with_drive : World → List Step → World
with_drive w drive = record { drive = drive; local = w.local; images = w.images }

abbrev with_local : World → List LocalStep → World
with_local w local = record { drive = w.drive; local = local; images = w.images }

at-drive : {d after : Option (List Step)} {l : Option (List LocalStep)} {i : Option (List Image)} {w : World} {drive : List Step} → Told d l i w → after ≡ Some drive → world_of after l i ≡ Some (with_drive w drive)
at-drive {d} {after} {l} {i} {w} {drive} each grown =
    ap (λ log. world_of log l i) grown ∙ ap (λ log. world_of (Some drive) log i) each.local ∙ ap (λ log. world_of (Some drive) (Some w.local) log) each.images

at-local : {d : Option (List Step)} {l after : Option (List LocalStep)} {i : Option (List Image)} {w : World} {local : List LocalStep} → Told d l i w → after ≡ Some local → world_of d after i ≡ Some (with_local w local)
at-local {d} {l} {after} {i} {w} {local} each grown =
    ap (λ log. world_of d log i) grown ∙ ap (λ log. world_of log (Some local) i) each.drive ∙ ap (λ log. world_of (Some w.drive) (Some local) log) each.images

at-images : {d : Option (List Step)} {l : Option (List LocalStep)} {i after : Option (List Image)} {w : World} {images : List Image} → Told d l i w → after ≡ Some images
    → world_of d l after ≡ Some (record { drive = w.drive; local = w.local; images = images })
at-images {d} {l} {i} {after} {w} {images} each grown =
    ap (λ log. world_of d l log) grown ∙ ap (λ log. world_of log l (Some images)) each.drive ∙ ap (λ log. world_of (Some w.drive) log (Some images)) each.local

-- ---- steps of the drive as events
abbrev asked_events : List Step → List Event
asked_events steps = map (λ (one : Step). Asked 1 one) steps

now-asked : (w : World) (more : List Step) → now w (asked_events more) ≡ with_drive w (w.drive ++ more)
now-asked w [] = ap (with_drive w) (sym (append-nil w.drive))
now-asked w (one ∷ more) = now-asked (happens w (Asked 1 one)) more ∙ ap (with_drive w) (append_assoc w.drive (one ∷ []) more)

now-own : (w : World) (own : Option Sent) → now w (own_events (option_map sent_event own)) ≡ with_drive w (w.drive ++ sent_steps own)
now-own w None = ap (with_drive w) (sym (append-nil w.drive))
now-own w (Some sent) = refl

now-both : (w : World) (more : List Step) (own : Option Sent) → now w (asked_events more ++ own_events (option_map sent_event own)) ≡ with_drive w ((w.drive ++ more) ++ sent_steps own)
now-both w more own = now-append w (asked_events more) (own_events (option_map sent_event own)) ∙ ap (λ v. now v (own_events (option_map sent_event own))) (now-asked w more) ∙ now-own (with_drive w (w.drive ++ more)) own

steps-back : (steps : List Step) → steps_in (asked_events steps) ≡ steps
steps-back [] = refl
steps-back (one ∷ steps) = ap (λ rest. one ∷ rest) (steps-back steps)

other-event : (one : Step) → IsSuch Never one → IsOther (Asked 1 one)
other-event (step.Ask Own request served heard) by = absurd by
other-event (step.Ask Other request served heard) by = tt
other-event (step.Event event) by = tt

other-events : (steps : List Step) → ByOthers steps → AreOthers (asked_events steps)
other-events [] by = tt
other-events (one ∷ steps) by = (other-event one by.0, other-events steps by.1)

such-events : (Such : Request → Bool → Bool → Type 0) (steps : List Step) → OwnAre Such steps → AreSuch Such (asked_events steps)
such-events Such [] such = tt
such-events Such (one ∷ steps) such = ((omega arith, omega arith, such.0), such-events Such steps such.1)

-- the call's own event, where the drive has come to a log
does-there : (request : Request) (result : Result Reply AskFault) (w : World) (steps : List Step) (own : Option Sent) → DoesAsk request result (w.drive ++ steps) own → DoesAsked request result (now w (asked_events steps)) (option_map sent_event own)
does-there request result w steps own does = record { sent = own; own_is = refl; does = subst (λ (v : World). DoesAsk request result v.drive own) (sym (now-asked w steps)) does }

-- ---- one request
pub asked-once : {request : Request} {result : Result Reply AskFault} {before after : Option (List Step)} (local : Option (List LocalStep)) (images : Option (List Image)) → Asks request result before after
    → (w : World) → world_of before local images ≡ Some w → Happened AreOthers (DoesAsked request result) w (world_of after local images)
asked-once {request} {result} {before} {after} local images asks w is =
    let each = told before local images w is in
    let asked = asks.told w.drive each.drive in
    record {
      part = asked_events asked.others;
      is_part = other-events asked.others asked.by_others;
      own = option_map sent_event asked.own;
      at = at-drive each asked.grown ∙ ap (λ (v : World). Some v) (sym (now-both w asked.others asked.own));
      does = does-there request result w asked.others asked.own asked.does;
    }

-- ---- such requests, and then one more
then-happened : (IsPart : List Event → Type 0) (Such : Request → Bool → Bool → Type 0) (request : Request) (result : Result Reply AskFault) {before after : Option (List Step)} {local : Option (List LocalStep)} {images : Option (List Image)} (w : World)
    → Told before local images w → ((steps : List Step) → OwnAre Such steps → own_requests steps ≤ 2 → IsPart (asked_events steps)) → AskedThen Such 2 request result w.drive after → Happened IsPart (DoesAsked request result) w (world_of after local images)
then-happened IsPart Such request result {before} {after} {local} {images} w each so asked =
    let steps = asked.part ++ asked.last.others in
    let joined = sym (append_assoc w.drive asked.part asked.last.others) in
    record {
      part = asked_events steps;
      is_part = so steps (such-append Such asked.part asked.last.others asked.such (such-others Such asked.last.others asked.last.by_others)) (few-others 2 asked.part asked.last.others asked.few asked.last.by_others);
      own = option_map sent_event asked.last.own;
      at = at-drive each (asked.last.grown ∙ ap (λ log. Some (log ++ sent_steps asked.last.own)) (sym joined)) ∙ ap (λ (v : World). Some v) (sym (now-both w steps asked.last.own));
      does = does-there request result w steps asked.last.own (subst (λ (log : List Step). DoesAsk request result log asked.last.own) (sym joined) asked.last.does);
    }

unheard-part : (request : Request) (steps : List Step) → OwnAre (IsUnheard request) steps → own_requests steps ≤ 2 → AreUnheard request (asked_events steps)
unheard-part request steps such few = record { such = such-events (IsUnheard request) steps such; few = rw (steps-back steps) few }

pub asked-again : {request : Request} {result : Result Reply AskFault} {before after : Option (List Step)} (local : Option (List LocalStep)) (images : Option (List Image)) → AsksAgain request result before after
    → (w : World) → world_of before local images ≡ Some w → Happened (AreUnheard request) (DoesAsked request result) w (world_of after local images)
asked-again {request} {result} {before} {after} local images asks w is =
    let each = told before local images w is in
    then-happened (AreUnheard request) (IsUnheard request) request result w each (unheard-part request) (asks.told w.drive each.drive)

-- ---- sends to which there was no reply that counts
at-tried : {d after : Option (List Step)} {l : Option (List LocalStep)} {i : Option (List Image)} {w : World} (part : List Step) → Told d l i w → after ≡ Some (w.drive ++ part) → world_of after l i ≡ Some (now w (asked_events part ++ []))
at-tried {d} {after} {l} {i} {w} part each grown =
    at-drive each (grown ∙ ap (λ log. Some log) (sym (append-nil (w.drive ++ part)))) ∙ ap (λ (v : World). Some v) (sym (now-both w part None))

spent-part : (request : Request) (result : Result Reply ServeFault) → (IsErrOf result serve.Unserved → ⊥) → 2 ≤ most_spent result → (steps : List Step) → OwnAre (IsSpent request) steps → own_requests steps ≤ 2 → AreSpent request result (asked_events steps)
spent-part request result other most steps such few =
    record { such = such-events (IsSpent request) steps such; few = rw (steps-back steps) (omega (arith, few, most)); last = λ is. absurd (other is) }

served-is : {request : Request} {result : Result Reply ServeFault} {asked : Result Reply AskFault} {w : World} {after : Option World} → ((v : World) (own : Option Event) → DoesAsked request asked v own → DoesServeBy request result v own)
    → Happened (AreSpent request result) (DoesAsked request asked) w after → Happened (AreSpent request result) (DoesServed request result) w after
served-is {request} {result} {asked} {w} so happened =
    record { part = happened.part; is_part = happened.is_part; own = happened.own; at = happened.at; does = record { is = so (now w happened.part) happened.own happened.does } }

served-by : (request : Request) (result : Result Reply ServeFault) {before : Option (List Step)} (after : Option (List Step)) {local : Option (List LocalStep)} {images : Option (List Image)} (w : World) → Told before local images w → ServedBy request result w.drive after
    → Happened (AreSpent request result) (DoesServed request result) w (world_of after local images)
served-by request (Ok reply) after w each by =
    served-is (λ v own does. does) (then-happened (AreSpent request (Ok reply)) (IsSpent request) request (Ok reply) w each (spent-part request (Ok reply) (λ is. absurd (cc is)) (omega arith)) by)
served-by request (Err serve.Failed) after w each by = record {
  part = asked_events by.part;
  is_part = record {
    such = such-events (IsSpent request) by.part (spent-unheard request by.part by.such);
    few = rw (steps-back by.part) by.few;
    last = λ is. absurd (cc is);
  };
  own = None;
  at = at-tried by.part each by.grown;
  does = record { is = refl };
}
served-by request (Err serve.Unserved) after w each by = record {
  part = asked_events by.part;
  is_part = record {
    such = such-events (IsSpent request) by.part by.such;
    few = rw (steps-back by.part) by.few;
    last = λ is. subst (EndsUnserved request) (sym (steps-back by.part)) by.last;
  };
  own = None;
  at = at-tried by.part each by.grown;
  does = record { is = refl };
}
served-by request (Err (serve.Bad bytes)) after w each by =
    served-is (λ v own does. does) (then-happened (AreSpent request (Err (serve.Bad bytes))) (IsSpent request) request (Err (ask.Bad bytes)) w each (spent-part request (Err (serve.Bad bytes)) (λ is. absurd (cc is)) (omega arith)) by)
served-by request (Err serve.Memory) after w each by =
    served-is (λ v own does. does) (then-happened (AreSpent request (Err serve.Memory)) (IsSpent request) request (Err ask.Memory) w each (spent-part request (Err serve.Memory) (λ is. absurd (cc is)) (omega arith)) by)

pub asked-served : {request : Request} {result : Result Reply ServeFault} {before after : Option (List Step)} (local : Option (List LocalStep)) (images : Option (List Image)) → AsksServed request result before after
    → (w : World) → world_of before local images ≡ Some w → Happened (AreSpent request result) (DoesServed request result) w (world_of after local images)
asked-served {request} {result} {before} {after} local images asks w is =
    let each = told before local images w is in
    served-by request result after w each (asks.told w.drive each.drive)

-- ---- the folder
abbrev edit_events : List UserEdit → List Event
edit_events edits = map (λ (edit : UserEdit). Worked (User edit)) edits

now-edited : (w : World) (edits : List UserEdit) → now w (edit_events edits) ≡ with_local w (tree.edited w.local edits)
now-edited w [] = ap (with_local w) (sym (append-nil w.local))
now-edited w (edit ∷ edits) = now-edited (happens w (Worked (User edit))) edits ∙ ap (with_local w) (append_assoc w.local (User edit ∷ []) (map (λ (one : UserEdit). User one) edits))

now-worked : (w : World) (edits : List UserEdit) (call : TreeOp) → now w (edit_events edits ++ Worked (Op call) ∷ []) ≡ with_local w (tree.with_op w.local edits call)
now-worked w edits call = now-append w (edit_events edits) (Worked (Op call) ∷ []) ∙ ap (λ v. now v (Worked (Op call) ∷ [])) (now-edited w edits)

edits-others : (edits : List UserEdit) → AreOthers (edit_events edits)
edits-others [] = tt
edits-others (edit ∷ edits) = (tt, edits-others edits)

-- what is said of the folder's log is said of the world
at-edits : (P : Local → Type 0) (w : World) (edits : List UserEdit) → P (local_of (tree.edited w.local edits)) → P (local_of (now w (edit_events edits)).local)
at-edits P w edits is = subst (λ (v : World). P (local_of v.local)) (sym (now-edited w edits)) is

done-there : {T : Type 0} (call : TreeOp) (Value : Local → T → Type 0) {d : Option (List Step)} {l after : Option (List LocalStep)} {i : Option (List Image)} {w : World} (edits : List UserEdit) → Told d l i w
    → after ≡ Some (tree.with_op w.local edits call) → world_of d after i ≡ Some (now w (edit_events edits ++ own_events (Some (Worked (Op call)))))
done-there {T} call Value {d} {l} {after} {i} {w} edits each grown = at-local each grown ∙ ap (λ (v : World). Some v) (sym (now-worked w edits call))

not-there : {d : Option (List Step)} {l after : Option (List LocalStep)} {i : Option (List Image)} {w : World} (edits : List UserEdit) → Told d l i w → after ≡ Some (tree.edited w.local edits)
    → world_of d after i ≡ Some (now w (edit_events edits ++ own_events None))
not-there {d} {l} {after} {i} {w} edits each grown =
    at-local each grown ∙ ap (λ (v : World). Some v) (sym (now-edited w edits)) ∙ ap (λ events. Some (now w events)) (sym (append-nil (edit_events edits)))

-- nothing was done but by the user
user-only : (Does : World → Option Event → Type 0) {d : Option (List Step)} {l after : Option (List LocalStep)} {i : Option (List Image)} {w : World} (edits : List UserEdit) → Told d l i w → after ≡ Some (tree.edited w.local edits)
    → Does (now w (edit_events edits)) None → Happened AreOthers Does w (world_of d after i)
user-only Does edits each grown does = record { part = edit_events edits; is_part = edits-others edits; own = None; at = not-there edits each grown; does = does }

refused-there : (call : TreeOp) (fault : TreeFault) (w : World) (edits : List UserEdit) → op_refusal (local_of (tree.edited w.local edits)) call ≡ Some fault → op_refusal (local_of (now w (edit_events edits)).local) call ≡ Some fault
refused-there call fault w edits is = at-edits (λ local. op_refusal local call ≡ Some fault) w edits is

worked-by : {T : Type 0} (call : TreeOp) (Value : Local → T → Type 0) (result : Result T TreeFault) {d : Option (List Step)} {before after : Option (List LocalStep)} {i : Option (List Image)} (w : World) → Told d before i w → tree.Calls call Value before after result
    → Happened AreOthers (DoesWork call Value result) w (world_of d after i)
worked-by {T} call Value (Ok x) w each calls =
    let did = calls.ok w.local each.local in
    record {
      part = edit_events did.0;
      is_part = edits-others did.0;
      own = Some (Worked (Op call));
      at = done-there call Value did.0 each did.1;
      does = record { is = (record { event_is = refl; allowed = at-edits (λ local. op_refusal local call ≡ None) w did.0 did.2 }, at-edits (λ local. Value local x) w did.0 did.3) };
    }
worked-by {T} call Value (Err Taken) w each calls =
    let did = calls.taken refl w.local each.local in user-only (DoesWork call Value (Err Taken)) did.0 each did.1 (record { is = refused-there call Taken w did.0 did.2 })
worked-by {T} call Value (Err Missing) w each calls =
    let did = calls.missing refl w.local each.local in user-only (DoesWork call Value (Err Missing)) did.0 each did.1 (record { is = refused-there call Missing w did.0 did.2 })
worked-by {T} call Value (Err NotEmpty) w each calls =
    let did = calls.not_empty refl w.local each.local in user-only (DoesWork call Value (Err NotEmpty)) did.0 each did.1 (record { is = refused-there call NotEmpty w did.0 did.2 })
worked-by {T} call Value (Err Failed) w each calls =
    let did = calls.err w.local each.local in
    elim did.1 [
      | inl grown ↦ user-only (DoesWork call Value (Err Failed)) did.0 each grown (record { is = tt })
      | inr grown ↦ record {
        part = edit_events did.0;
        is_part = edits-others did.0;
        own = Some (Worked (Op call));
        at = done-there call Value did.0 each grown.0;
        does = record { is = record { event_is = refl; allowed = at-edits (λ local. op_refusal local call ≡ None) w did.0 grown.1 } };
      }
    ]
worked-by {T} call Value (Err Memory) w each calls = let did = calls.memory refl w.local each.local in user-only (DoesWork call Value (Err Memory)) did.0 each did.1 (record { is = tt })

pub worked : {T : Type 0} {call : TreeOp} {Value : Local → T → Type 0} {result : Result T TreeFault} {before after : Option (List LocalStep)} (drive : Option (List Step)) (images : Option (List Image)) → tree.Calls call Value before after result
    → (w : World) → world_of drive before images ≡ Some w → Happened AreOthers (DoesWork call Value result) w (world_of drive after images)
worked {T} {call} {Value} {result} {before} {after} drive images calls w is = worked-by call Value result w (told drive before images w is) calls

-- ---- the keeper
loaded-by : (result : Result Image KeeperFault) {d : Option (List Step)} {l : Option (List LocalStep)} {before after : Option (List Image)} (w : World) → Told d l before w → Loads before after result → Happened AreOthers (DoesLoad result) w (world_of d l after)
loaded-by (Ok image) w each loads = record { part = []; is_part = tt; own = None; at = at-images each (loads.same w.images each.images); does = record { is = loads.ok w.images each.images } }
loaded-by (Err fault) w each loads = record { part = []; is_part = tt; own = None; at = at-images each (loads.same w.images each.images); does = record { is = tt } }

pub loaded : {result : Result Image KeeperFault} {before after : Option (List Image)} (drive : Option (List Step)) (local : Option (List LocalStep)) → Loads before after result
    → (w : World) → world_of drive local before ≡ Some w → Happened AreOthers (DoesLoad result) w (world_of drive local after)
loaded {result} {before} {after} drive local loads w is = loaded-by result w (told drive local before w is) loads

committed-by : (change : Change) (result : Result (Unit {0}) KeeperFault) {d : Option (List Step)} {l : Option (List LocalStep)} {before after : Option (List Image)} (w : World) → Told d l before w → Commits change before after result
    → Happened AreOthers (DoesCommit change result) w (world_of d l after)
committed-by change (Ok done) w each commits =
    record { part = []; is_part = tt; own = Some (Kept (applied change (last_image w.images))); at = at-images each (commits.ok w.images each.images); does = record { is = refl } }
committed-by change (Err fault) w each commits = record { part = []; is_part = tt; own = None; at = at-images each (commits.err w.images each.images); does = record { is = tt } }

pub committed : {change : Change} {result : Result (Unit {0}) KeeperFault} {before after : Option (List Image)} (drive : Option (List Step)) (local : Option (List LocalStep)) → Commits change before after result
    → (w : World) → world_of drive local before ≡ Some w → Happened AreOthers (DoesCommit change result) w (world_of drive local after)
committed {change} {result} {before} {after} drive local commits w is = committed-by change result w (told drive local before w is) commits
