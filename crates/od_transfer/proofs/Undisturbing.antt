-- A drive that no one else asks stays so over one request after another, and what may be served once may be served again.
use Rattle.std.proofs.Common.{◌≡◌, ℕ, Bool, true, false, ◌&&◌, List, [], ◌∷◌, ◌++◌, Option, Some, None, Ok, Err, refl, ap, sym, ◌∙◌, subst, append_assoc}
use Rattle.std.proofs.lemmas.Bool.{and_parts}
use Rattle.std.proofs.lemmas.List.{append-nil, append_cancel_left}
use Rattle.gd_names.proofs.Each.{each-append}
use Rattle.gd_item.specs.declared.request.Request.{Request}
use Rattle.gd_item.specs.declared.request.Request.TheVariants.{Content, Download}
use Rattle.gd_item.specs.declared.step.Step.{Step}
use Rattle.gd_item.specs.declared.step.Step.TheVariants.{Ask, Event}
use Rattle.gd_item.specs.declared.step.Who.TheVariants.{Own, Other}
use Rattle.od_transfer.specs.Alone.{AreOwnHeard, is_own_heard, is_own_served}
use Rattle.od_transfer.specs.Asking.{IsSuch, OwnAre, AsksAgain, IsUnheard, Tried}
use Rattle.od_transfer.specs.Fits.{is_transfer}
use Rattle.od_transfer.specs.Undisturbed.{Undisturbed, GrowsByOwn, MayBeServed}
use Rattle.od_transfer.specs.declared.remote.AskFault.{AskFault}
use Rattle.od_transfer.specs.declared.remote.AskFault.TheVariants.{Failed}

-- no request, and one after another
pub undisturbed_same : (undisturbed : Bool) (log : Option (List Step)) → Undisturbed undisturbed undisturbed log log
undisturbed_same undisturbed log = record {
  stays = λ is. is;
  alone = λ is old told. record { part = []; own = tt; heard = tt; grown = told ∙ ap (λ steps. Some steps) (sym (append-nil old)) };
  untold = λ is none. none;
}

own-then : (old : List Step) (middle after : Option (List Step)) → GrowsByOwn old middle → ((now : List Step) → middle ≡ Some now → GrowsByOwn now after) → GrowsByOwn old after
own-then old middle after first later =
    let next = later (old ++ first.part) first.grown in
    record {
      part = first.part ++ next.part;
      own = each-append (λ (step : Step). is_own_served step ≡ true) first.part next.part first.own next.own;
      heard = each-append (λ (step : Step). is_own_heard step ≡ true) first.part next.part first.heard next.heard;
      grown = next.grown ∙ ap (λ log. Some log) (append_assoc old first.part next.part);
    }

pub undisturbed_then : (first second third : Bool) (before middle after : Option (List Step)) → Undisturbed first second before middle → Undisturbed second third middle after → Undisturbed first third before after
undisturbed_then first second third before middle after one next = record {
  stays = λ is. next.stays (one.stays is);
  alone = λ is old told. own-then old middle after (one.alone is old told) (next.alone (one.stays is));
  untold = λ is none. next.untold (one.stays is) (one.untold is none);
}

-- ---- where each request is heard, one that is not heard is no step
no-step : (request : Request) (step : Step) → is_own_heard step ≡ true → IsSuch (IsUnheard request) step → ⊥
no-step request (Ask Own sent served heard) own unheard = absurd (cc (sym (and_parts served heard own).1 ∙ unheard.1))
no-step request (Ask Other sent served heard) own unheard = absurd (cc own)
no-step request (Event event) own unheard = absurd (cc own)

no-steps : (request : Request) (steps : List Step) → AreOwnHeard steps → OwnAre (IsUnheard request) steps → steps ≡ []
no-steps request [] own unheard = refl
no-steps request (step ∷ steps) own unheard = absurd (no-step request step own.0 unheard.0)

same-log : (n : ℕ) (request : Request) (old : List Step) (after : Option (List Step)) → GrowsByOwn old after → Tried n request old after → after ≡ Some old
same-log n request old after own tried =
    let both : old ++ tried.part ≡ old ++ own.part = cc (tried.grown, own.grown) in
    let same : tried.part ≡ own.part = append_cancel_left old tried.part own.part both in
    let none : own.part ≡ [] = no-steps request own.part own.heard (subst (OwnAre (IsUnheard request)) same tried.tries.such) in
    own.grown ∙ ap (λ (part : List Step). Some (old ++ part)) none ∙ ap (λ (log : List Step). Some log) (append-nil old)

-- so what may be served before may be served after, where the log is told or not
served-still : (n : ℕ) (request : Request) (first second : Bool) (before after : Option (List Step)) → first ≡ true → Undisturbed first second before after
    → ((old : List Step) → before ≡ Some old → Tried n request old after) → MayBeServed request before → MayBeServed request after
served-still n request first second None after quiet undisturbed tried may = λ now is. absurd (cc (undisturbed.untold quiet refl, is))
served-still n request first second (Some old) after quiet undisturbed tried may =
    let same = same-log n request old after (undisturbed.alone quiet old refl) (tried old refl) in
    λ now is. may now (sym same ∙ is)

-- a request that is sent again because no reply came
pub no_faults-again : (request : Request) {fault : AskFault} {first second : Bool} {before middle : Option (List Step)} {faults_first faults_second faults_third : ℕ}
    → fault ≡ Failed → Undisturbed first second before middle → AsksAgain 0 request before middle (Err fault) → (first ≡ true → MayBeServed request before → faults_second ≡ faults_first)
    → (second ≡ true → MayBeServed request middle → faults_third ≡ faults_second) → first ≡ true → MayBeServed request before → faults_third ≡ faults_first
no_faults-again request {fault} {first} {second} {before} {middle} failed undisturbed asks once again quiet may =
    let unheard = subst (λ (f : AskFault). AsksAgain 0 request before middle (Err f)) failed asks in
    again (undisturbed.stays quiet) (served-still 1 request first second before middle quiet undisturbed (unheard.failed refl) may) ∙ once quiet may

-- a request of a transfer may always be served
pub transfer-served : (request : Request) (log : Option (List Step)) → is_transfer request ≡ true → MayBeServed request log
transfer-served (Content at) log transfer = λ old told. refl
transfer-served (Download id version) log transfer = λ old told. refl
transfer-served request log transfer = absurd (cc transfer)
