-- What this client's requests do to the world is what a drive's do that is told.
use Rattle.std.proofs.Common.{◌≡◌, ◌+◌, ◌-◌, ◌^◌, ◌≤◌, min, true, false, List, [], ◌∷◌, ◌++◌, Some, Ok, Err, IsErrOf, inl, refl, sym, ap, subst, ◌∙◌, arith}
use Rattle.std.proofs.lemmas.List.{append-nil}
use Rattle.gd_item.specs.Answers.{answer}
use Rattle.gd_item.specs.Steps.{state_of}
use Rattle.gd_item.specs.declared.reply.Reply.{Reply}
use Rattle.gd_item.specs.declared.request.Request.{Request}
use Rattle.gd_item.specs.declared.step.Step.{Step}
use Rattle.gd_item.specs.declared.step.Step.TheVariants.{Ask}
use Rattle.gd_item.specs.declared.step.Who.TheVariants.{Own}
use Rattle.od_transfer.specs.Asking.{Asks, ByOthers, HasAskCause, Heard}
use Rattle.od_transfer.specs.declared.remote.AskFault.{AskFault}
use Rattle.od_transfer.specs.declared.remote.AskFault.TheVariants.{Failed, Memory}
use Rattle.od_cli.specs.GoingOn.{GoesOn}
use Rattle.od_cli.specs.Worlds.{WorldValue, IsOwnReply, heard, unheard}

-- a reply
told-heard : (before after : WorldValue) (request : Request) (given : Reply) (old : List Step) → Some before.log ≡ Some old → IsOwnReply (state_of before.log) request given → after ≡ heard before request
    → Heard ByOthers request old (Some after.log) given
told-heard before after request given old told own is =
    let same : before.log ≡ old ++ [] = (let log : before.log ≡ old = cc told in log) ∙ sym (append-nil old) in
    record {
      part = [];
      such = tt;
      sent = request;
      served = true;
      grown = ap (λ (w : WorldValue). Some w.log) is ∙ ap (λ (l : List Step). Some (l ++ Ask Own request true true ∷ [])) same;
      answers = record {
        sent_as = λ written. refl;
        size = own.size;
        page_size = own.fits;
        not_plain = subst (λ (l : List Step). (state_of l).plain ≡ false) same own.plain;
        reply_is = own.reply_is ∙ ap (λ (l : List Step). answer (state_of l) own.size request) same;
      };
    }

pub asks-ok : (before after : WorldValue) (request : Request) (given : Reply) → IsOwnReply (state_of before.log) request given → after ≡ heard before request → Asks request (Some before.log) (Some after.log) (Ok given)
asks-ok before after request given own is = record { ok = λ old told. told-heard before after request given old told own is; failed = λ no_fault. absurd (cc no_fault); memory = λ no_fault. absurd (cc no_fault) }

pub cause-ok : (before after : WorldValue) (request : Request) (given : Reply) → after ≡ heard before request → before.faults ≤ after.faults → before.answers ≤ after.answers
    → HasAskCause before.faults after.faults before.answers after.answers before.in_row after.in_row (Ok given)
cause-ok before after request given is faults answers =
    let counted : after.answers ≡ min (before.answers + 1) (2 ^ 64 - 1) = ap (λ (w : WorldValue). w.answers) is in
    record {
      faults_later = faults;
      answers_later = answers;
      failed = λ none. absurd (cc none);
      answered = omega arith;
      row_ended = ap (λ (w : WorldValue). w.in_row) is;
      row_rose = λ none. absurd (cc none);
    }

-- no reply
kept-log : (before after : WorldValue) (fault : AskFault) → (IsErrOf {T = Reply} (Err fault) Failed → after ≡ unheard before) → (IsErrOf {T = Reply} (Err fault) Memory → after ≡ before) → after.log ≡ before.log
kept-log before after Failed failed memory = ap (λ (w : WorldValue). w.log) (failed refl)
kept-log before after Memory failed memory = ap (λ (w : WorldValue). w.log) (memory refl)

same-log : (before after : WorldValue) (old : List Step) → Some before.log ≡ Some old → after.log ≡ before.log → Some after.log ≡ Some (old ++ [])
same-log before after old told kept = ap (λ (l : List Step). Some l) (kept ∙ (let log : before.log ≡ old = cc told in log) ∙ sym (append-nil old))

pub asks-err : (before after : WorldValue) (request : Request) (fault : AskFault) → (IsErrOf {T = Reply} (Err fault) Failed → after ≡ unheard before) → (IsErrOf {T = Reply} (Err fault) Memory → after ≡ before)
    → Asks request (Some before.log) (Some after.log) (Err fault)
asks-err before after request fault failed memory =
    let kept : after.log ≡ before.log = kept-log before after fault failed memory in
    record {
      ok = tt;
      failed = λ is old told. record { others = []; by_others = tt; grown = inl (same-log before after old told kept) };
      memory = λ is old told. record { part = []; such = tt; grown = inl (same-log before after old told kept) };
    }

rose : (before after : WorldValue) → after ≡ unheard before → min (before.faults + 1) (2 ^ 64 - 1) ≤ after.faults
rose before after is = let counted : after.faults ≡ min (before.faults + 1) (2 ^ 64 - 1) = ap (λ (w : WorldValue). w.faults) is in omega arith

pub cause-err : (before after : WorldValue) (fault : AskFault) → (IsErrOf {T = Reply} (Err fault) Failed → after ≡ unheard before) → before.faults ≤ after.faults → before.answers ≤ after.answers
    → HasAskCause before.faults after.faults before.answers after.answers before.in_row after.in_row (Err fault)
cause-err before after fault failed faults answers = record {
  faults_later = faults;
  answers_later = answers;
  failed = λ is. rose before after (failed is);
  answered = tt;
  row_ended = tt;
  row_rose = λ is. ap (λ (w : WorldValue). w.in_row) (failed is);
}

-- how the world goes on
pub goes-ok : (before after : WorldValue) (request : Request) → after ≡ heard before request → before.faults ≤ after.faults → before.answers ≤ after.answers → GoesOn before after
goes-ok before after request is faults answers =
    record { more = Ask Own request true true ∷ []; own = (refl, tt); grown = ap (λ (w : WorldValue). w.log) is; faults = faults; answers = answers }

pub goes-err : (before after : WorldValue) (fault : AskFault) → (IsErrOf {T = Reply} (Err fault) Failed → after ≡ unheard before) → (IsErrOf {T = Reply} (Err fault) Memory → after ≡ before)
    → before.faults ≤ after.faults → before.answers ≤ after.answers → GoesOn before after
goes-err before after fault failed memory faults answers =
    record { more = []; own = tt; grown = kept-log before after fault failed memory ∙ sym (append-nil before.log); faults = faults; answers = answers }
