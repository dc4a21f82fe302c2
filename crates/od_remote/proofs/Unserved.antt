-- A request that is sent again where the drive lacks memory too.
use Rattle.std.proofs.Common.{◌≡◌, ◌⊎◌, inl, inr, ℕ, zero, suc, ◌+◌, ◌-◌, ◌<◌, ◌≤◌, Bool, true, false, cond, nat_eq, List, [], ◌∷◌, ◌++◌, length, Option, Some, None, Result, Ok, Err, refl, ap, subst, ◌∙◌, sym, append_assoc, arith, length-append}
use Rattle.std.proofs.lemmas.List.{append-nil}
use Rattle.std.specs.List.{AllByRecursion, count_by}
use Rattle.gd_names.proofs.Each.{each-append, each-so}
use Rattle.gd_item.specs.Answers.{answer_of, answer_served}
use Rattle.gd_item.specs.Replies.{is_page_or_gone}
use Rattle.gd_item.specs.Requests.{kind_of}
use Rattle.gd_item.specs.Steps.{state_of}
use Rattle.gd_item.specs.Written.{IsWritten}
use Rattle.gd_item.specs.declared.fault.ErrorCode.TheVariants.{InvalidRequest}
use Rattle.gd_item.specs.declared.reply.Reply.{Reply}
use Rattle.gd_item.specs.declared.reply.Reply.TheVariants as reply
use Rattle.gd_item.specs.declared.request.Request.{Request}
use Rattle.gd_item.specs.declared.request.Request.TheVariants.{Delta}
use Rattle.gd_item.specs.declared.request.RequestKind.TheVariants as kind
use Rattle.gd_item.specs.declared.step.Step.{Step}
use Rattle.gd_item.specs.declared.step.Step.TheVariants.{Ask}
use Rattle.gd_item.specs.declared.step.Who.TheVariants.{Own}
use Rattle.gd_laws.proofs.Answered.{changes-log}
use Rattle.od_remote.specs.Again.{AskedThen, EndsUnserved, IsSpent, IsSpentAnswer, IsSpentSend, IsUnheard, Spent, SpentThen, SpentTries, Tried, TriedUnserved, is_answered, is_unserved}
use Rattle.od_remote.specs.Asking.{Answers, Asked, Asks, ByOthers, DoesAsk, OwnAre, Sent, is_own_request, own_requests, sent_steps}
use Rattle.od_remote.specs.Counting.{AreSame, AskCounts, Exchange, HasAskCause, Later, Reading, Replied, Unreplied}
use Rattle.od_remote.specs.declared.remote.AskFault.{AskFault}
use Rattle.od_remote.specs.declared.remote.AskFault.TheVariants.{Failed, Bad, Memory}
use Rattle.od_remote.proofs.Logs.{count-append, count-cons, few-more, grown-more, such-also, such-append, such-more, such-others}
use Rattle.od_remote.proofs.Repeats.{cause-as, unheard-own}

-- ---- a drive that has memory does not say that it lacks it
changes-served : (r : Reply) → (is_page_or_gone r ≡ true) ⊎ (r ≡ reply.Refused 400 InvalidRequest) → is_unserved r ≡ false
changes-served (reply.Refused status code) (inl is) = absurd (cc is)
changes-served (reply.Page page) is = refl
changes-served (reply.Gone resync) is = refl
changes-served r (inl is) = absurd (cc is)
changes-served r (inr is) = ap is_unserved is

delta-unserved : (served : Bool) (log : List Step) (size : ℕ) (token : Option (List ℕ)) → is_unserved (answer_served served (state_of log) size (Delta token)) ≡ true → served ≡ false
delta-unserved true log size token is = absurd (cc (is, changes-served (answer_of log size (Delta token)) (changes-log log size token)))
delta-unserved false log size token is = refl

unserved-request : (served : Bool) (log : List Step) (size : ℕ) (request : Request) → kind_of request ≡ kind.Delta → is_unserved (answer_served served (state_of log) size request) ≡ true → served ≡ false
unserved-request served log size (Delta token) is unserved = delta-unserved served log size token unserved
unserved-request served log size request is unserved = absurd (cc is)

-- ---- sends that brought nothing
spent-heard : (request : Request) → kind_of request ≡ kind.Delta → (said : Reply) → is_unserved said ≡ true → (log : List Step) (sent : Sent) → Answers request sent log said → IsSpent request sent.request sent.served sent.heard
spent-heard request delta said unserved log sent answers = (
  answers.send.sent_as,
  λ heard written.
      let same = answers.send.sent_as written in
      unserved-request sent.served log sent.size sent.request (ap kind_of same ∙ delta) (sym (ap is_unserved answers.reply_is) ∙ unserved),
)

pub spent-unheard : (request : Request) (steps : List Step) → OwnAre (IsUnheard request) steps → OwnAre (IsSpent request) steps
spent-unheard request steps such =
    such-also (IsUnheard request) (IsSpent request) (λ sent served heard is. (is.0, λ yes written. absurd (cc (yes, is.1)))) steps such

-- no send yet
pub spent-none : {Reads : Reading} {request : Request} {counts : AskCounts} → Spent Reads 0 0 request counts counts
spent-none {Reads} {request} {counts} = record {
  within = omega arith;
  faults = omega arith;
  answers = omega arith;
  in_row = λ none. omega arith;
  exchanged = λ old is. record { more = []; such = tt; all = refl; answered = refl; grown = is ∙ ap (λ all. Some all) (sym (append-nil old)) };
}

pub spent-no-tries : {request : Request} {old : List Step} {log : Option (List Step)} → log ≡ Some old → SpentTries request 0 0 old log
spent-no-tries {request} {old} is = record { part = []; such = tt; few = omega arith; unheard = λ none. tt; last = λ some. absurd (omega (arith, some)); grown = is ∙ ap (λ all. Some all) (sym (append-nil old)) }

-- one send without a reply
pub lost-tries : (request : Request) (old : List Step) (after : Option (List Step)) → Asked request (Err Failed) old after → SpentTries request 1 0 old after
lost-tries request old after asked =
    let unheard = such-more (IsUnheard request) [] asked.others asked.own tt asked.by_others (unheard-own request (old ++ asked.others) asked.own asked.does) in
    record {
      part = asked.others ++ sent_steps asked.own;
      such = spent-unheard request (asked.others ++ sent_steps asked.own) unheard;
      few = few-more 0 [] asked.others asked.own (omega arith) asked.by_others;
      unheard = λ none. unheard;
      last = λ some. absurd (omega (arith, some));
      grown = asked.grown ∙ ap (λ log. Some log) (append_assoc old asked.others (sent_steps asked.own));
    }

pub spent-lost : {Reads : Reading} {request : Request} {before now : AskCounts} → Later before now → Unreplied request before now → Spent Reads 1 0 request before now
spent-lost {Reads} {request} later failed = record {
  within = omega arith;
  faults = omega (arith, failed.faults);
  answers = omega (arith, later.answers);
  in_row = λ none. omega (arith, failed.in_row);
  exchanged = λ old is. record {
    more = record { request = request; answer = None } ∷ [];
    such = ((refl, tt), tt);
    all = refl;
    answered = count-cons is_answered (record { request = request; answer = None }) [];
    grown = failed.exchanged old is;
  };
}

-- one send to which the drive said that it lacks memory
pub unserved-tries : (request : Request) (said : Reply) → kind_of request ≡ kind.Delta → is_unserved said ≡ true → (old others : List Step) (after : Option (List Step)) (own : Option Sent)
    → ByOthers others → after ≡ Some ((old ++ others) ++ sent_steps own) → DoesAsk request (Ok said) (old ++ others) own → SpentTries request 1 1 old after
unserved-tries request said delta unserved old others after None by grown does = absurd does
unserved-tries request said delta unserved old others after (Some sent) by grown does =
    let spent = spent-heard request delta said unserved (old ++ others) sent does in
    record {
      part = others ++ Ask Own sent.request sent.served sent.heard ∷ [];
      such = such-more (IsSpent request) [] others (Some sent) tt by (spent, tt);
      few = few-more 0 [] others (Some sent) (omega arith) by;
      unheard = λ none. absurd (omega (arith, none));
      last = λ some. record {
        first = others;
        sent = sent.request;
        served = sent.served;
        rest = [];
        split = ap (λ (heard : Bool). others ++ Ask Own sent.request sent.served heard ∷ []) does.heard;
        spent = subst (λ (heard : Bool). IsSpent request sent.request sent.served heard) does.heard spent;
        unheard = tt;
      };
      grown = grown ∙ ap (λ log. Some log) (append_assoc old others (Ask Own sent.request sent.served sent.heard ∷ []));
    }

pub tries-unserved : (request : Request) (said : Reply) → kind_of request ≡ kind.Delta → is_unserved said ≡ true → (old : List Step) (after : Option (List Step)) → Asked request (Ok said) old after → SpentTries request 1 1 old after
tries-unserved request said delta unserved old after asked = unserved-tries request said delta unserved old asked.others after asked.own asked.by_others asked.grown asked.does

pub spent-unserved : {Reads : Reading} {request : Request} {said : Reply} {before now : AskCounts} → is_unserved said ≡ true → Later before now → Replied Reads request said before now → Spent Reads 1 1 request before now
spent-unserved {Reads} {request} {said} unserved later replied = record {
  within = omega arith;
  faults = omega (arith, later.faults);
  answers = omega (arith, replied.came.answers);
  in_row = λ none. absurd (omega (arith, none));
  exchanged = λ old is. record {
    more = record { request = request; answer = Some replied.bytes } ∷ [];
    such = ((refl, record { said = said; read = replied.read; unserved = unserved }), tt);
    all = refl;
    answered = count-cons is_answered (record { request = request; answer = Some replied.bytes }) [];
    grown = replied.came.exchanged old is;
  };
}

-- ---- one after another
ends-later : (request : Request) (first second : List Step) → EndsUnserved request second → EndsUnserved request (first ++ second)
ends-later request first second ends = record {
  first = first ++ ends.first;
  sent = ends.sent;
  served = ends.served;
  rest = ends.rest;
  split = ap (λ (steps : List Step). first ++ steps) ends.split ∙ sym (append_assoc first ends.first (Ask Own ends.sent ends.served true ∷ ends.rest));
  spent = ends.spent;
  unheard = ends.unheard;
}

ends-still : (request : Request) (first second : List Step) → EndsUnserved request first → OwnAre (IsUnheard request) second → EndsUnserved request (first ++ second)
ends-still request first second ends more = record {
  first = ends.first;
  sent = ends.sent;
  served = ends.served;
  rest = ends.rest ++ second;
  split = ap (λ (steps : List Step). steps ++ second) ends.split ∙ append_assoc ends.first (Ask Own ends.sent ends.served true ∷ ends.rest) second;
  spent = ends.spent;
  unheard = such-append (IsUnheard request) ends.rest second ends.unheard more;
}

-- one reply more, or none
ends-by : (request : Request) (replies more : ℕ) (first second : List Step) → more ≤ 1 → (0 < replies → EndsUnserved request first) → (0 < more → EndsUnserved request second) → (more ≡ 0 → OwnAre (IsUnheard request) second)
    → 0 < replies + more → EndsUnserved request (first ++ second)
ends-by request replies zero first second few last last_more unheard some = ends-still request first second (last (omega (arith, some))) (unheard refl)
ends-by request replies (suc more) first second few last last_more unheard some = ends-later request first second (last_more (omega arith))

pub spent-more : {Reads : Reading} {sends replies more : ℕ} {request : Request} {before middle now : AskCounts}
    → Spent Reads sends replies request before middle → Spent Reads 1 more request middle now → Spent Reads (sends + 1) (replies + more) request before now
spent-more {Reads} {sends} {replies} {more} {request} first second = record {
  within = omega (arith, first.within, second.within);
  faults = omega (arith, first.within, second.within, first.faults, second.faults);
  answers = omega (arith, first.answers, second.answers);
  in_row = λ none. omega (arith, first.in_row (omega (arith, none)), second.in_row (omega (arith, none)));
  exchanged = λ old is.
      let one = first.exchanged old is in
      let two = second.exchanged (old ++ one.more) one.grown in
      record {
        more = one.more ++ two.more;
        such = each-append (IsSpentSend Reads request) one.more two.more one.such two.such;
        all = omega (arith, length-append one.more two.more, one.all, two.all);
        answered = omega (arith, count-append is_answered one.more two.more, one.answered, two.answered);
        grown = two.grown ∙ ap (λ all. Some all) (append_assoc old one.more two.more);
      };
}

pub tries-more : {sends replies more : ℕ} {request : Request} {old : List Step} {middle after : Option (List Step)}
    → SpentTries request sends replies old middle → ((now : List Step) → middle ≡ Some now → SpentTries request 1 more now after) → more ≤ 1 → SpentTries request (sends + 1) (replies + more) old after
tries-more {sends} {replies} {more} {request} {old} one later few =
    let two = later (old ++ one.part) one.grown in
    record {
      part = one.part ++ two.part;
      such = such-append (IsSpent request) one.part two.part one.such two.such;
      few = omega (arith, count-append is_own_request one.part two.part, one.few, two.few);
      unheard = λ none. such-append (IsUnheard request) one.part two.part (one.unheard (omega (arith, none))) (two.unheard (omega (arith, none)));
      last = ends-by request replies more one.part two.part few one.last two.last two.unheard;
      grown = two.grown ∙ ap (λ log. Some log) (append_assoc old one.part two.part);
    }

-- ---- the end
pub then-asked : {request : Request} {result : Result Reply AskFault} {sends replies : ℕ} {old : List Step} {middle after : Option (List Step)}
    → SpentTries request sends replies old middle → ((now : List Step) → middle ≡ Some now → Asked request result now after) → sends ≤ 2 → AskedThen (IsSpent request) 2 request result old after
then-asked {request} {result} {sends} {replies} {old} tries asks few =
    record { part = tries.part; such = tries.such; few = omega (arith, tries.few, few); last = asks (old ++ tries.part) tries.grown }

pub all-failed : {request : Request} {sends replies : ℕ} {old : List Step} {after : Option (List Step)} → SpentTries request sends replies old after → sends ≤ 3 → replies ≡ 0 → Tried (IsUnheard request) 3 old after
all-failed tries few none = record { part = tries.part; such = tries.unheard none; few = omega (arith, tries.few, few); grown = tries.grown }

pub all-unserved : {request : Request} {sends replies : ℕ} {old : List Step} {after : Option (List Step)} → SpentTries request sends replies old after → sends ≤ 3 → 0 < replies → TriedUnserved request old after
all-unserved tries few some = record { part = tries.part; such = tries.such; few = omega (arith, tries.few, few); last = tries.last some; grown = tries.grown }

pub spent-then : {Reads Now : Reading} {request : Request} {result : Result Reply AskFault} {sends replies : ℕ} {before counts now : AskCounts}
    → AreSame Reads Now → Spent Reads sends replies request before counts → HasAskCause Now request result counts now → sends ≤ 2 → SpentThen Reads request result before now
spent-then {Reads} {Now} {request} {result} {sends} {replies} {before} {counts} {now} same spent cause few =
    record { sends = sends; few = few; replies = replies; counts = counts; spent = spent; cause = cause-as request result counts now same cause }

-- bytes are read as they were before
answer-as : {Reads Now : Reading} (request : Request) → AreSame Reads Now → (answer : Option (List ℕ)) → IsSpentAnswer Now request answer → IsSpentAnswer Reads request answer
answer-as request same None is = tt
answer-as request same (Some bytes) is = record { said = is.said; read = same.back (kind_of request) bytes is.said is.read; unserved = is.unserved }

pub spent-as : {Reads Now : Reading} {sends replies : ℕ} {request : Request} {before now : AskCounts} → AreSame Reads Now → Spent Now sends replies request before now → Spent Reads sends replies request before now
spent-as {Reads} {Now} {sends} {replies} {request} same spent = record {
  within = spent.within;
  faults = spent.faults;
  answers = spent.answers;
  in_row = spent.in_row;
  exchanged = λ old is.
      let so = spent.exchanged old is in
      record {
        more = so.more;
        such = each-so (IsSpentSend Now request) (IsSpentSend Reads request) (λ exchange one. (one.0, answer-as {Reads = Reads} {Now = Now} request same exchange.answer one.1)) so.more so.such;
        all = so.all;
        answered = so.answered;
        grown = so.grown;
      };
}
