-- A request that is sent again as long as nothing comes.
use Rattle.std.proofs.Common.{◌≡◌, ℕ, zero, suc, ◌+◌, ◌≤◌, Bool, true, false, nat_eq, List, [], ◌∷◌, ◌++◌, Option, Some, None, Result, Ok, Err, refl, ap, subst, ◌∙◌, sym, append_assoc, arith}
use Rattle.std.proofs.lemmas.List.{append-nil}
use Rattle.gd_item.specs.Requests.{kind_of}
use Rattle.gd_item.specs.declared.reply.Reply.{Reply}
use Rattle.gd_item.specs.declared.request.Request.{Request}
use Rattle.gd_item.specs.declared.step.Step.{Step}
use Rattle.od_remote.specs.Again.{AsksAgain, HasAgainCause, IsAllWhereFailed, IsUnheard, Lost, Tried, lost_sends}
use Rattle.od_remote.specs.Asking.{Asked, Asks, DoesAsk, OwnAre, Sent, sent_steps}
use Rattle.od_remote.specs.Counting.{AreSame, AskCounts, Exchange, HasAskCause, Reading, Unreplied}
use Rattle.od_remote.specs.declared.remote.AskFault.{AskFault}
use Rattle.od_remote.specs.declared.remote.AskFault.TheVariants.{Failed, Bad, Memory}
use Rattle.od_remote.proofs.Logs.{few-more, grown-more, such-more}

-- ---- exchanges without an answer
lost-last : (n : ℕ) (request : Request) → lost_sends n request ++ record { request = request; answer = None } ∷ [] ≡ lost_sends (n + 1) request
lost-last zero request = refl
lost-last (suc n) request = let one : suc n + 1 ≡ suc (n + 1) = omega arith in
    ap (λ sends. record { request = request; answer = None } ∷ sends) (lost-last n request) ∙ ap (λ sends. lost_sends sends request) (sym one)

-- ---- a send that was not heard
pub unheard-own : (request : Request) (log : List Step) (own : Option Sent) → DoesAsk request (Err Failed) log own → OwnAre (IsUnheard request) (sent_steps own)
unheard-own request log None does = tt
unheard-own request log (Some sent) does = ((does.send.sent_as, does.heard), tt)

pub tried-more : (n : ℕ) (request : Request) (old : List Step) (middle after : Option (List Step)) → Tried (IsUnheard request) n old middle → ((now : List Step) → middle ≡ Some now → Asked request (Err Failed) now after)
    → Tried (IsUnheard request) (n + 1) old after
tried-more n request old middle after tried asks =
    let asked = asks (old ++ tried.part) tried.grown in
    record {
      part = tried.part ++ (asked.others ++ sent_steps asked.own);
      such = such-more (IsUnheard request) tried.part asked.others asked.own tried.such asked.by_others (unheard-own request ((old ++ tried.part) ++ asked.others) asked.own asked.does);
      few = few-more n tried.part asked.others asked.own tried.few asked.by_others;
      grown = grown-more old tried.part asked.others (sent_steps asked.own) asked.grown;
    }

-- ---- none yet, and one more
pub tried-none : {Such : Request → Bool → Bool → Type 0} {old : List Step} {log : Option (List Step)} → log ≡ Some old → Tried Such 0 old log
tried-none {Such} {old} is = record { part = []; such = tt; few = omega arith; grown = is ∙ ap (λ all. Some all) (sym (append-nil old)) }

pub lost-none : {request : Request} {counts : AskCounts} → Lost 0 request counts counts
lost-none {request} {counts} = record { faults = omega arith; in_row = omega arith; exchanged = λ old is. is ∙ ap (λ all. Some all) (sym (append-nil old)) }

pub lost-more : {n : ℕ} {request : Request} {before middle now : AskCounts} → Lost n request before middle → Unreplied request middle now → Lost (n + 1) request before now
lost-more {n} {request} lost failed = record {
  faults = omega (arith, lost.faults, failed.faults);
  in_row = omega (arith, lost.in_row, failed.in_row);
  exchanged = λ old is.
      failed.exchanged (old ++ lost_sends n request) (lost.exchanged old is)
      ∙ ap (λ all. Some all) (append_assoc old (lost_sends n request) (record { request = request; answer = None } ∷ []) ∙ ap (λ (sends : List Exchange). old ++ sends) (lost-last n request));
}

-- ---- and then the last one
pub twice-failed : (result : Result Reply AskFault) → IsAllWhereFailed result true
twice-failed (Ok reply) = tt
twice-failed (Err Failed) = refl
twice-failed (Err (Bad bytes)) = tt
twice-failed (Err Memory) = tt

pub asked-then : {request : Request} {result : Result Reply AskFault} {sends : ℕ} {before middle after : Option (List Step)}
    → ((old : List Step) → before ≡ Some old → Tried (IsUnheard request) sends old middle) → Asks request result middle after → sends ≤ 2 → AsksAgain request result before after
asked-then tries asks few = record {
  told = λ old is.
      let tried = tries old is in
      record { part = tried.part; such = tried.such; few = omega (arith, tried.few, few); last = asks.told (old ++ tried.part) tried.grown };
}

-- bytes are read as they were before
pub cause-as : {Reads Now : Reading} (request : Request) (result : Result Reply AskFault) (before now : AskCounts) → AreSame Reads Now → HasAskCause Now request result before now → HasAskCause Reads request result before now
cause-as request (Ok reply) before now same cause = record { kind = cause.kind; bytes = cause.bytes; read = same.back (kind_of request) cause.bytes reply cause.read; came = cause.came }
cause-as request (Err Failed) before now same cause = cause
cause-as request (Err (Bad bytes)) before now same cause = record { unread = λ reply read. cause.unread reply (same.still (kind_of request) bytes reply read); came = cause.came }
cause-as request (Err Memory) before now same cause = cause

pub lost-then : {Reads Now : Reading} {request : Request} {result : Result Reply AskFault} {sends : ℕ} {before counts now : AskCounts}
    → AreSame Reads Now → Lost sends request before counts → HasAskCause Now request result counts now → sends ≤ 2 → IsAllWhereFailed result (nat_eq sends 2) → HasAgainCause Reads request result before now
lost-then {Reads} {Now} {request} {result} {sends} {before} {counts} {now} same lost cause few all =
    record { sends = sends; few = few; all = all; counts = counts; lost = lost; cause = cause-as request result counts now same cause }
