-- One send of a request for changes, and one after others.
use Rattle.std.proofs.Common.{◌≡◌, ℕ, zero, suc, ◌+◌, ◌<◌, ◌≤◌, ◌⊎◌, inl, inr, Bool, true, false, cond, nat_eq, nat_lt, List, [], ◌∷◌, ◌++◌, count_by, length, Option, Some, None, Ok, Err, Result, refl, ap, sym, subst, ◌∙◌, append_assoc, arith}
use Rattle.std.proofs.lemmas.Bool.{and_parts, eqb-true, ltb-true}
use Rattle.std.proofs.lemmas.List.{append-nil}
use Rattle.std.proofs.lemmas.List.Sums.{sum_by-cons}
use Rattle.std.specs.List.{AllByRecursion, list_all}
use Rattle.std.proofs.lemmas.List.Elements.{All-from_recursion}
use Rattle.std.specs.Prelude.{IsErrOf}
use Rattle.std.specs.Result.{IsErr, IsErrAnd}
use Rattle.gd_item.specs.Answers.{answer_of, answer_unless, shown}
use Rattle.gd_item.specs.Pages.{Asked, Past, Latest, Bad, Lost, asked, is_bad}
use Rattle.gd_item.specs.Refused.{refuse, refusal}
use Rattle.gd_item.specs.Replies.{has_status}
use Rattle.gd_item.specs.Sessions.{State}
use Rattle.gd_item.specs.Steps.{state_of}
use Rattle.gd_item.specs.Written.{IsWritten, is_token_byte}
use Rattle.gd_item.specs.declared.fault.ErrorCode.{ErrorCode}
use Rattle.gd_item.specs.declared.fault.ErrorCode.TheVariants.{InvalidRequest}
use Rattle.gd_item.specs.declared.reply.Page.{Page}
use Rattle.gd_item.specs.declared.reply.Reply.{Reply}
use Rattle.gd_item.specs.declared.reply.Reply.TheVariants as reply
use Rattle.gd_item.specs.declared.request.Request.{Request}
use Rattle.gd_item.specs.declared.request.Request.TheVariants.{Delta}
use Rattle.gd_item.specs.declared.step.Step.{Step}
use Rattle.gd_item.specs.declared.step.Step.TheVariants.{Ask, Event}
use Rattle.gd_item.specs.declared.step.Who.TheVariants.{Own, Other}
use Rattle.od_transfer.specs.Asking.{Asks, IsSuch, Never, ByOthers, OwnAre, Heard, StandsLast, given, may_answer, is_last_link}
use Rattle.od_transfer.specs.declared.remote.AskFault.{AskFault}
use Rattle.od_transfer.specs.declared.remote.AskFault.TheVariants as ask
use Rattle.od_sync.specs.declared.delta.DeltaFault.{DeltaFault}
use Rattle.od_sync.specs.declared.delta.DeltaFault.TheVariants.{LinkFault, Unserved, Memory}
use Rattle.gd_laws.proofs.Pages.{given_for, unless-cond}
use Rattle.od_transfer.proofs.Logs.{such-others, such-also, such-append}
use Rattle.od_sync.specs.Chains.{Chained}
use Rattle.od_sync.specs.Deltas.{AskedDelta, AsksDelta, IsAskedWith, is_delta, is_own_delta, is_answered_delta, is_written_token, DeltaAsks, page_in, last_heard_after, heard_step, IsSpent, Spent, Untaken, PageHeard, EndsUnserved, SendsOnce, Sent, is_last_page}
use Rattle.od_sync.proofs.Chained.{chained-all, chained-also, chain-lost, chain-page, chain-spent, last-token}
use Rattle.od_sync.proofs.Growth.{count-append}

-- ---- what a drive answers that is asked for changes
never-unserved : (state : State) (size : ℕ) (code : ErrorCode) (a : Asked) → reply.Refused 503 code ≡ given_for state size a → ⊥
never-unserved state size code (Past position start) is = cc is
never-unserved state size code Latest is = cc is
never-unserved state size code Bad is = grind (arith, is)
never-unserved state size code (Lost resync) is = cc is

served-delta : (log : List Step) (size : ℕ) (token : Option (List ℕ)) (code : ErrorCode) → (state_of log).plain ≡ false → reply.Refused 503 code ≡ answer_of log size (Delta token) → ⊥
served-delta log size token code plain is =
    let state : State = state_of log in
    never-unserved state size code (asked state token)
    (is ∙ ap (λ b. shown b (answer_unless (refusal state (Delta token)) state size (Delta token))) plain
    ∙ unless-cond (is_bad (asked state token)) (refuse 400 InvalidRequest) state size (Delta token))

-- ---- the last request that was heard
pub last-append : (before : Option Step) (steps more : List Step) → last_heard_after before (steps ++ more) ≡ last_heard_after (last_heard_after before steps) more
last-append before [] more = refl
last-append before (step ∷ steps) more = last-append (heard_step before step) steps more

-- others change nothing of it
others-step : (before : Option Step) (step : Step) → IsSuch Never step → heard_step before step ≡ before
others-step before (Ask Own request served heard) by = absurd by
others-step before (Ask Other request served heard) by = refl
others-step before (Event event) by = refl

others-last : (before : Option Step) (steps : List Step) → ByOthers steps → last_heard_after before steps ≡ before
others-last before [] by = refl
others-last before (step ∷ steps) by = ap (λ last. last_heard_after last steps) (others-step before step by.0) ∙ others-last before steps by.1

-- ---- how many requests for changes there are, and how many of them were answered
none-counted : (P : Step → Type 0) (is : Step → Bool) → ((step : Step) → P step → is step ≡ false) → (steps : List Step) → AllByRecursion P steps → count_by is steps ≡ 0
none-counted P is never [] all = refl
none-counted P is never (step ∷ steps) all =
    let first : cond (is step) 1 0 ≤ 0 = subst (λ b. cond b 1 0 ≤ 0) (sym (never step all.0)) (omega arith) in
    omega (arith, sum_by-cons (λ (s : Step). cond (is s) 1 0) step steps, first, none-counted P is never steps all.1)

one-or-none : (b : Bool) → cond b 1 0 ≤ 1
one-or-none true = omega arith
one-or-none false = omega arith

one-more : (is : Step → Bool) (steps : List Step) (step : Step) (most : ℕ) → count_by is steps ≤ most → count_by is (steps ++ step ∷ []) ≤ most + 1
one-more is steps step most within =
    omega (arith, count-append is steps (step ∷ []), sum_by-cons (λ (s : Step). cond (is s) 1 0) step [], one-or-none (is step), within)

both-counted : (is : Step → Bool) (first second : List Step) (a b : ℕ) → count_by is first ≤ a → count_by is second ≤ b → count_by is (first ++ second) ≤ a + b
both-counted is first second a b within also = omega (arith, count-append is first second, within, also)

-- others send none of this client
others-unsent : (step : Step) → IsSuch Never step → is_own_delta step ≡ false
others-unsent (Ask Own request served heard) by = absurd by
others-unsent (Ask Other request served heard) by = refl
others-unsent (Event event) by = refl

others-sent : (steps : List Step) (most : ℕ) → ByOthers steps → count_by is_own_delta steps ≤ most
others-sent steps most by = omega (arith, none-counted (IsSuch Never) is_own_delta others-unsent steps by)

-- what had no page was not answered
pub spent-step : (request : Request) (step : Step) → IsSuch (IsSpent request) step → is_answered_delta step ≡ false
spent-step request (Ask Own sent true true) spent = absurd (cc (spent.1 refl))
spent-step request (Ask Own sent true false) spent = refl
spent-step request (Ask Own sent false heard) spent = refl
spent-step request (Ask Other sent served heard) spent = refl
spent-step request (Event event) spent = refl

spent-unanswered : (request : Request) (steps : List Step) (most : ℕ) → OwnAre (IsSpent request) steps → count_by is_answered_delta steps ≤ most
spent-unanswered request steps most such = omega (arith, none-counted (IsSuch (IsSpent request)) is_answered_delta (spent-step request) steps such)

-- ---- a request that has a written form comes as itself
record HeardAs (request : Request) (old : List Step) (after : Option (List Step)) (r : Reply) : Type 0 where
  part : List Step
  such : ByOthers part
  served : Bool
  size : ℕ
  plain : (state_of (old ++ part)).plain ≡ false
  grown : after ≡ Some ((old ++ part) ++ Ask Own request served true ∷ [])
  reply_is : r ≡ given served (old ++ part) size request

heard-as : (request : Request) (r : Reply) (old : List Step) (after : Option (List Step)) → IsWritten request → Heard ByOthers request old after r → HeardAs request old after r
heard-as request r old after written h =
    let same : h.sent ≡ request = h.answers.sent_as written in
    record {
      part = h.part;
      such = h.such;
      served = h.served;
      size = h.answers.size;
      plain = h.answers.not_plain;
      grown = h.grown ∙ ap (λ sent. Some ((old ++ h.part) ++ Ask Own sent h.served true ∷ [])) same;
      reply_is = h.answers.reply_is ∙ ap (λ sent. given h.served (old ++ h.part) h.answers.size sent) same;
    }

stands-as : (request : Request) (heard : Bool) (log : List Step) (after : Option (List Step)) → IsWritten request → StandsLast request heard log after
    → (served : Bool) × (after ≡ Some (log ++ Ask Own request served heard ∷ []))
stands-as request heard log after written last = (last.served, last.grown ∙ ap (λ sent. Some (log ++ Ask Own sent last.served heard ∷ [])) (last.sent_as written))

-- ---- one send
heard-page : (request : Request) (page : Page) (old part : List Step) (after : Option (List Step)) (size : ℕ) (served : Bool) → ByOthers part → (state_of (old ++ part)).plain ≡ false
    → after ≡ Some ((old ++ part) ++ Ask Own request served true ∷ []) → reply.Page page ≡ given served (old ++ part) size request → PageHeard 0 request old after page
heard-page request page old part after size true by plain grown is =
    record { part = part; such = such-others (IsSpent request) part by; sent = others-sent part 0 by; size = size; grown = grown; plain = plain; page_is = is }
heard-page request page old part after size false by plain grown is = absurd (cc is)

page-of : (request : Request) (r : Reply) (page : Page) → is_delta request ≡ true → may_answer request r ≡ true → page_in r ≡ Some (Some page) → (r ≡ reply.Page page) × (is_last_link page.link ≡ true)
page-of (Delta token) (reply.Page first) page is may in_reply =
    let same : first ≡ page = cc in_reply in
    (ap reply.Page same, ap (λ (p : Page). is_last_link p.link) (sym same) ∙ may)
page-of (Delta token) (reply.Refused status code) page is may in_reply = absurd (cc in_reply)
page-of (Delta token) r page is may in_reply = absurd (cc may)
page-of request r page is may in_reply = absurd (cc is)

pub sent-page : (request : Request) (r : Reply) (page : Page) (before after : Option (List Step)) {E : Type 0} → is_delta request ≡ true → IsWritten request → may_answer request r ≡ true → page_in r ≡ Some (Some page)
    → Asks request before after (Ok r) → SendsOnce request before after {E = E} (Ok (Ok page))
sent-page request r page before after is written may in_reply asks =
    let paged = page-of request r page is may in_reply in
    record {
      last_page = paged.1;
      ok = λ old told.
          let h = heard-as request r old after written (asks.ok old told) in
          heard-page request page old h.part after h.size h.served h.such h.plain h.grown (sym paged.0 ∙ h.reply_is);
      err = tt;
    }

spent-served : (token : Option (List ℕ)) (status : ℕ) (code : ErrorCode) (old part : List Step) (after : Option (List Step)) (size : ℕ) (served : Bool) → status ≡ 503 → ByOthers part → (state_of (old ++ part)).plain ≡ false
    → after ≡ Some ((old ++ part) ++ Ask Own (Delta token) served true ∷ []) → reply.Refused status code ≡ given served (old ++ part) size (Delta token) → Spent (Delta token) 1 1 old after
spent-served token status code old part after size true number by plain grown is =
    absurd (served-delta (old ++ part) size token code plain (ap (λ n. reply.Refused n code) (sym number) ∙ is))
spent-served token status code old part after size false number by plain grown is = record {
  part = part ++ Ask Own (Delta token) false true ∷ [];
  such = such-append (IsSpent (Delta token)) part (Ask Own (Delta token) false true ∷ []) (such-others (IsSpent (Delta token)) part by) ((refl, λ _. refl), tt);
  sent = one-more is_own_delta part (Ask Own (Delta token) false true) 0 (others-sent part 0 by);
  grown = grown ∙ ap (λ log. Some log) (append_assoc old part (Ask Own (Delta token) false true ∷ []));
  last = λ some before. last-append before part (Ask Own (Delta token) false true ∷ []);
  none = λ is before. absurd (omega (arith, is));
}

spent-reply : (request : Request) (r : Reply) (old : List Step) (after : Option (List Step)) → is_delta request ≡ true → may_answer request r ≡ true → page_in r ≡ Some None → HeardAs request old after r → Spent request 1 1 old after
spent-reply (Delta token) (reply.Refused status code) old after is may in_reply h =
    spent-served token status code old h.part after h.size h.served (eqb-true status 503 (and_parts (nat_eq status 503) (has_status code status) may).0) h.such h.plain h.grown h.reply_is
spent-reply (Delta token) (reply.Page page) old after is may in_reply h = absurd (cc in_reply)
spent-reply (Delta token) r old after is may in_reply h = absurd (cc may)
spent-reply request r old after is may in_reply h = absurd (cc is)

pub sent-unserved : (request : Request) (r : Reply) (before after : Option (List Step)) {E : Type 0} → is_delta request ≡ true → IsWritten request → may_answer request r ≡ true → page_in r ≡ Some None
    → Asks request before after (Ok r) → SendsOnce request before after {E = E} (Ok (Err 1))
sent-unserved request r before after is written may in_reply asks =
    record { last_page = omega arith; ok = λ old told. spent-reply request r old after is may in_reply (heard-as request r old after written (asks.ok old told)); err = tt }

spent-unheard : (request : Request) (old others : List Step) (after : Option (List Step)) → IsWritten request → ByOthers others
    → (after ≡ Some (old ++ others)) ⊎ StandsLast request false (old ++ others) after → Spent request 1 0 old after
spent-unheard request old others after written by (inl not_there) =
    record { part = others; such = such-others (IsSpent request) others by; sent = others-sent others 1 by; grown = not_there; last = λ some before. absurd (omega (arith, some)); none = λ is before. others-last before others by }
spent-unheard request old others after written by (inr last) =
    let there = stands-as request false (old ++ others) after written last in
    record {
      part = others ++ Ask Own request there.0 false ∷ [];
      such = such-append (IsSpent request) others (Ask Own request there.0 false ∷ []) (such-others (IsSpent request) others by) ((refl, λ is. absurd (cc is)), tt);
      sent = one-more is_own_delta others (Ask Own request there.0 false) 0 (others-sent others 0 by);
      grown = there.1 ∙ ap (λ log. Some log) (append_assoc old others (Ask Own request there.0 false ∷ []));
      last = λ some before. absurd (omega (arith, some));
      none = λ is before. last-append before others (Ask Own request there.0 false ∷ []) ∙ others-last before others by;
    }

pub sent-unheard : (request : Request) (fault : AskFault) (before after : Option (List Step)) {E : Type 0} → IsWritten request → fault ≡ ask.Failed → Asks request before after (Err fault) → SendsOnce request before after {E = E} (Ok (Err 0))
sent-unheard request fault before after written is asks =
    record { last_page = omega arith; ok = λ old told. let u = asks.failed (cc is) old told in spent-unheard request old u.others after written u.by_others u.grown; err = tt }

-- one that was given up where memory ran out
untaken-none : {MayBeLost : Type 0} (request : Request) (sends : ℕ) (old part : List Step) (after : Option (List Step)) → OwnAre (IsSpent request) part → count_by is_own_delta part ≤ sends → after ≡ Some (old ++ part)
    → Untaken MayBeLost request sends old after
untaken-none request sends old part after such sent grown = record {
  part = part;
  such = such;
  lost = [];
  lost_is = inl refl;
  sent = omega (arith, count-append is_own_delta part [], sent);
  grown = grown ∙ ap (λ steps. Some (old ++ steps)) (sym (append-nil part));
}

spent-one : (request : Request) (old part : List Step) (after : Option (List Step)) (served heard : Bool) → ByOthers part → (heard ≡ true → served ≡ false)
    → after ≡ Some ((old ++ part) ++ Ask Own request served heard ∷ []) → Untaken (Unit {0}) request 1 old after
spent-one request old part after served heard by spent grown =
    untaken-none request 1 old (part ++ Ask Own request served heard ∷ []) after
    (such-append (IsSpent request) part (Ask Own request served heard ∷ []) (such-others (IsSpent request) part by) ((refl, spent), tt))
    (one-more is_own_delta part (Ask Own request served heard) 0 (others-sent part 0 by))
    (grown ∙ ap (λ log. Some log) (append_assoc old part (Ask Own request served heard ∷ [])))

untaken-one : (request : Request) (old part : List Step) (after : Option (List Step)) (served heard : Bool) → ByOthers part
    → after ≡ Some ((old ++ part) ++ Ask Own request served heard ∷ []) → Untaken (Unit {0}) request 1 old after
untaken-one request old part after true true by grown = record {
  part = part;
  such = such-others (IsSpent request) part by;
  lost = Ask Own request true true ∷ [];
  lost_is = inr (tt, refl);
  sent = one-more is_own_delta part (Ask Own request true true) 0 (others-sent part 0 by);
  grown = grown ∙ ap (λ log. Some log) (append_assoc old part (Ask Own request true true ∷ []));
}
untaken-one request old part after true false by grown = spent-one request old part after true false by (λ is. absurd (cc is)) grown
untaken-one request old part after false heard by grown = spent-one request old part after false heard by (λ _. refl) grown

untaken-given-up : (request : Request) (old part : List Step) (after : Option (List Step)) → IsWritten request → ByOthers part
    → (after ≡ Some (old ++ part)) ⊎ ((heard : Bool) × StandsLast request heard (old ++ part) after) → Untaken (Unit {0}) request 1 old after
untaken-given-up request old part after written by (inl not_there) = untaken-none request 1 old part after (such-others (IsSpent request) part by) (others-sent part 1 by) not_there
untaken-given-up request old part after written by (inr last) =
    let there = stands-as request last.0 (old ++ part) after written last.1 in untaken-one request old part after there.0 last.0 by there.1

pub sent-stopped : (request : Request) (fault : AskFault) (before after : Option (List Step)) {E : Type 0} (e : E) → IsWritten request → fault ≡ ask.Memory → Asks request before after (Err fault) → SendsOnce request before after (Err e)
sent-stopped request fault before after e written is asks =
    record { last_page = tt; ok = tt; err = λ old told. let given_up = asks.memory (cc is) old told in untaken-given-up request old given_up.part after written given_up.such given_up.grown }

-- ---- one send after others
last-of-both : (request : Request) (a b : ℕ) (first second : List Step) → (0 < a → (before : Option Step) → last_heard_after before first ≡ Some (Ask Own request false true))
    → (0 < b → (before : Option Step) → last_heard_after before second ≡ Some (Ask Own request false true)) → (b ≡ 0 → (before : Option Step) → last_heard_after before second ≡ before)
    → (0 < b) ⊎ (b ≡ 0) → 0 < a + b → (before : Option Step) → last_heard_after before (first ++ second) ≡ Some (Ask Own request false true)
last-of-both request a b first second one other same (inl more) some before = last-append before first second ∙ other more (last_heard_after before first)
last-of-both request a b first second one other same (inr is) some before =
    last-append before first second ∙ same is (last_heard_after before first) ∙ one (omega (arith, is, some)) before

some-or-none : (b : ℕ) → (0 < b) ⊎ (b ≡ 0)
some-or-none zero = inr refl
some-or-none (suc b) = inl (omega arith)

pub spent-more : (request : Request) (m n a b : ℕ) (old : List Step) (middle after : Option (List Step)) → Spent request m a old middle
    → ((now : List Step) → middle ≡ Some now → Spent request n b now after) → Spent request (m + n) (a + b) old after
spent-more request m n a b old middle after first later =
    let second = later (old ++ first.part) first.grown in
    record {
      part = first.part ++ second.part;
      such = such-append (IsSpent request) first.part second.part first.such second.such;
      sent = both-counted is_own_delta first.part second.part m n first.sent second.sent;
      grown = second.grown ∙ ap (λ log. Some log) (append_assoc old first.part second.part);
      last = last-of-both request a b first.part second.part first.last second.last second.none (some-or-none b);
      none = λ is before. last-append before first.part second.part
          ∙ second.none (omega (arith, is)) (last_heard_after before first.part) ∙ first.none (omega (arith, is)) before;
    }

pub page-more : (request : Request) (n a : ℕ) (page : Page) (old : List Step) (middle after : Option (List Step)) → n ≤ 2 → Spent request n a old middle
    → ((now : List Step) → middle ≡ Some now → PageHeard 0 request now after page) → PageHeard 2 request old after page
page-more request n a page old middle after few first later =
    let second = later (old ++ first.part) first.grown in
    record {
      part = first.part ++ second.part;
      such = such-append (IsSpent request) first.part second.part first.such second.such;
      sent = omega (arith, few, first.sent, second.sent, count-append is_own_delta first.part second.part);
      size = second.size;
      grown = second.grown ∙ ap (λ log. Some (log ++ Ask Own request true true ∷ [])) (append_assoc old first.part second.part);
      plain = subst (λ (log : List Step). (state_of log).plain ≡ false) (append_assoc old first.part second.part) second.plain;
      page_is = second.page_is ∙ ap (λ log. answer_of log second.size request) (append_assoc old first.part second.part);
    }

spent-thrice : {MayBeLost : Type 0} (request : Request) (n a : ℕ) (old : List Step) (after : Option (List Step)) → n ≤ 3 → Spent request n a old after → Untaken MayBeLost request 3 old after
spent-thrice request n a old after few s = untaken-none request 3 old s.part after s.such (omega (arith, s.sent, few)) s.grown

untaken-more : {MayBeLost : Type 0} (request : Request) (n a : ℕ) (old : List Step) (middle after : Option (List Step)) → n < 3 → MayBeLost → Spent request n a old middle
    → ((now : List Step) → middle ≡ Some now → Untaken (Unit {0}) request 1 now after) → Untaken MayBeLost request 3 old after
untaken-more request n a old middle after few lost first later =
    let second = later (old ++ first.part) first.grown in
    record {
      part = first.part ++ second.part;
      such = such-append (IsSpent request) first.part second.part first.such second.such;
      lost = second.lost;
      lost_is = elim second.lost_is [
        | inl is ↦ inl is
        | inr is ↦ inr (lost, is.1)
      ];
      sent = omega (arith, few, first.sent, second.sent, count-append is_own_delta (first.part ++ second.part) second.lost, count-append is_own_delta first.part second.part, count-append is_own_delta second.part second.lost);
      grown = second.grown
          ∙ ap (λ log. Some log) (append_assoc old first.part (second.part ++ second.lost))
          ∙ ap (λ steps. Some (old ++ steps)) (sym (append_assoc first.part second.part second.lost));
    }

pub spent-asks : (request : Request) (n a : ℕ) (old : List Step) (after : Option (List Step)) → 0 < a → Spent request n a old after → EndsUnserved request old after
spent-asks request n a old after some s = record { part = s.part; grown = s.grown; last = s.last some }

-- the ends of several sends
is-memory : (result : Result Page DeltaFault) → IsErr result × IsErrAnd result (λ fault. fault ≡ Memory) → result ≡ Err Memory
is-memory (Ok page) memory = absurd (cc memory.0)
is-memory (Err fault) memory = ap (λ f. Err f) memory.1

pub spent-sent : (request : Request) (n a b : ℕ) (sent : Result Page ℕ) (old : List Step) (middle after : Option (List Step)) {E : Type 0} → sent ≡ Err b → Spent request n a old middle
    → SendsOnce request middle after {E = E} (Ok sent) → Spent request (n + 1) (a + b) old after
spent-sent request n a b sent old middle after is_spent first once =
    spent-more request n 1 a b old middle after first (λ now is. subst (Sent request now after) is_spent (once.ok now is))

pub asks-page : (request : Request) (n a : ℕ) (page : Page) (sent : Result Page ℕ) (before middle after : Option (List Step)) {E : Type 0} → n < 3 → sent ≡ Ok page
    → ((old : List Step) → before ≡ Some old → Spent request n a old middle) → SendsOnce request middle after {E = E} (Ok sent) → DeltaAsks request before after (Ok page)
asks-page request n a page sent before middle after few is_page first once = record {
  last_page = subst is_last_page is_page once.last_page;
  ok = λ old told. page-more request n a page old middle after (omega (arith, few)) (first old told) (λ now is. subst (Sent request now after) is_page (once.ok now is));
  unserved = λ is. absurd (cc is);
  err = tt;
}

pub asks-stopped : (request : Request) (n a : ℕ) (result : Result Page DeltaFault) (before middle after : Option (List Step)) {E : Type 0} (e : E) → n < 3 → IsErr result × IsErrAnd result (λ fault. fault ≡ Memory)
    → ((old : List Step) → before ≡ Some old → Spent request n a old middle) → SendsOnce request middle after (Err e) → DeltaAsks request before after result
asks-stopped request n a result before middle after e few memory first once = subst (DeltaAsks request before after) (sym (is-memory result memory)) (record {
  last_page = tt;
  ok = tt;
  unserved = λ is. absurd (cc is);
  err = λ old told. untaken-more request n a old middle after few refl (first old told) (λ now is. once.err now is);
})

pub asks-failed : (request : Request) (n a : ℕ) (before after : Option (List Step)) → n ≤ 3 → ((old : List Step) → before ≡ Some old → Spent request n a old after) → DeltaAsks request before after (Err LinkFault)
asks-failed request n a before after few all = record {
  last_page = tt;
  ok = tt;
  unserved = λ is. absurd (cc is);
  err = λ old told. spent-thrice request n a old after few (all old told);
}

pub asks-unserved : (request : Request) (n a : ℕ) (before after : Option (List Step)) → n ≤ 3 → 0 < a → ((old : List Step) → before ≡ Some old → Spent request n a old after) → DeltaAsks request before after (Err Unserved)
asks-unserved request n a before after few some all = record {
  last_page = tt;
  ok = tt;
  unserved = λ _ old told. spent-asks request n a old after some (all old told);
  err = λ old told. spent-thrice request n a old after few (all old told);
}

-- a token that a request can carry
each-true : (test : ℕ → Bool) (xs : List ℕ) → list_all test xs ≡ true → AllByRecursion (λ (x : ℕ). test x ≡ true) xs
each-true test [] is = tt
each-true test (x ∷ xs) is = let parts = and_parts (test x) (list_all test xs) is in (parts.0, each-true test xs parts.1)

pub token-written : (token : Option (List ℕ)) → is_written_token token ≡ true → IsWritten (Delta token)
token-written None is = tt
token-written (Some text) is =
    let parts = and_parts (nat_lt 0 (length text)) (list_all is_token_byte text) is in
    (ltb-true 0 (length text) parts.0, All-from_recursion (λ (b : ℕ). is_token_byte b ≡ true) text (each-true is_token_byte text parts.1))

-- whatever the end, the requests were for these changes
asked-with : (token : Option (List ℕ)) (sent : Request) (served heard : Bool) → IsSpent (Delta token) sent served heard → IsAskedWith token sent served heard
asked-with token sent served heard spent = spent.0

page-asked : {MayBeLost : Type 0} (token : Option (List ℕ)) (old : List Step) (after : Option (List Step)) (page : Page) → is_last_link page.link ≡ true → PageHeard 2 (Delta token) old after page
    → AskedDelta MayBeLost token old after
page-asked token old after page is_last h = record {
  part = h.part ++ Ask Own (Delta token) true true ∷ [];
  such = such-append (IsAskedWith token) h.part (Ask Own (Delta token) true true ∷ []) (such-also (IsSpent (Delta token)) (IsAskedWith token) (asked-with token) h.part h.such) (refl, tt);
  sent = one-more is_own_delta h.part (Ask Own (Delta token) true true) 2 h.sent;
  answered = one-more is_answered_delta h.part (Ask Own (Delta token) true true) 0 (spent-unanswered (Delta token) h.part 0 h.such);
  chained = let text = last-token page.link is_last in
      chained-all token (Some text.0) old (h.part ++ Ask Own (Delta token) true true ∷ []) (chain-page token old h.part h.size page text.0 h.such h.page_is text.1);
  grown = h.grown ∙ ap (λ log. Some log) (append_assoc old h.part (Ask Own (Delta token) true true ∷ []));
}

-- what was not taken was asked for too
abbrev IsLost : Type 0 → Option (List ℕ) → List Step → Type 0
IsLost MayBeLost token lost = (lost ≡ []) ⊎ (MayBeLost × (lost ≡ Ask Own (Delta token) true true ∷ []))

lost-asked : {MayBeLost : Type 0} (token : Option (List ℕ)) (lost : List Step) → IsLost MayBeLost token lost → OwnAre (IsAskedWith token) lost
lost-asked token lost (inl is) = subst (OwnAre (IsAskedWith token)) (sym is) tt
lost-asked token lost (inr is) = subst (OwnAre (IsAskedWith token)) (sym is.1) (refl, tt)

lost-answered : {MayBeLost : Type 0} (token : Option (List ℕ)) (lost : List Step) → IsLost MayBeLost token lost → count_by is_answered_delta lost ≤ 1
lost-answered token lost (inl is) = subst (λ (steps : List Step). count_by is_answered_delta steps ≤ 1) (sym is) (omega arith)
lost-answered token lost (inr is) =
    subst (λ (steps : List Step). count_by is_answered_delta steps ≤ 1) (sym is.1) (one-more is_answered_delta [] (Ask Own (Delta token) true true) 0 (omega arith))

lost-chained : {MayBeLost : Type 0} (token : Option (List ℕ)) (drive spent lost : List Step) → OwnAre (IsSpent (Delta token)) spent → IsLost MayBeLost token lost → Chained MayBeLost token drive (spent ++ lost)
lost-chained {MayBeLost} token drive spent lost such (inl is) =
    subst (λ (steps : List Step). Chained MayBeLost token drive (spent ++ steps)) (sym is)
    (subst (λ (steps : List Step). Chained MayBeLost token drive steps) (sym (append-nil spent)) (chained-all token token drive spent (chain-spent token drive spent such)))
lost-chained {MayBeLost} token drive spent lost such (inr is) =
    subst (λ (steps : List Step). Chained MayBeLost token drive (spent ++ steps)) (sym is.1) (chain-lost token drive spent is.0 such)

untaken-asked : {MayBeLost : Type 0} (token : Option (List ℕ)) (old : List Step) (after : Option (List Step)) → Untaken MayBeLost (Delta token) 3 old after → AskedDelta MayBeLost token old after
untaken-asked token old after u = record {
  part = u.part ++ u.lost;
  such = such-append (IsAskedWith token) u.part u.lost (such-also (IsSpent (Delta token)) (IsAskedWith token) (asked-with token) u.part u.such) (lost-asked token u.lost u.lost_is);
  sent = u.sent;
  answered = both-counted is_answered_delta u.part u.lost 0 1 (spent-unanswered (Delta token) u.part 0 u.such) (lost-answered token u.lost u.lost_is);
  chained = lost-chained token old u.part u.lost u.such u.lost_is;
  grown = u.grown;
}

-- nothing is sent
none-untaken : {MayBeLost : Type 0} (request : Request) (old : List Step) (log : Option (List Step)) → log ≡ Some old → Untaken MayBeLost request 3 old log
none-untaken request old log told = untaken-none request 3 old [] log tt (omega arith) (told ∙ ap (λ steps. Some steps) (sym (append-nil old)))

pub asks-none : (request : Request) (log : Option (List Step)) → DeltaAsks request log log (Err Memory)
asks-none request log = record {
  last_page = tt;
  ok = tt;
  unserved = λ is. absurd (cc is);
  err = λ old told. none-untaken request old log told;
}

pub none-asked : {MayBeLost : Type 0} (token : Option (List ℕ)) (log : Option (List Step)) → AsksDelta MayBeLost token log log
none-asked token log = record { told = λ old told. untaken-asked token old log (none-untaken (Delta token) old log told) }

pub delta-asks : (token : Option (List ℕ)) (result : Result Page DeltaFault) (before after : Option (List Step)) → DeltaAsks (Delta token) before after result → AsksDelta (IsErrOf result Memory) token before after
delta-asks token (Ok page) before after asks = record { told = λ old told. page-asked token old after page asks.last_page (asks.ok old told) }
delta-asks token (Err fault) before after asks = record { told = λ old told. untaken-asked token old after (asks.err old told) }

-- the same requests, where an answer may be lost for another cause
pub asked-also : {P Q : Type 0} (token : Option (List ℕ)) (old : List Step) (after : Option (List Step)) → (P → Q) → AskedDelta P token old after → AskedDelta Q token old after
asked-also token old after so a = record {
  part = a.part;
  such = a.such;
  sent = a.sent;
  answered = a.answered;
  chained = chained-also token old a.part so a.chained;
  grown = a.grown;
}

pub asks-also : {P Q : Type 0} (token : Option (List ℕ)) (before after : Option (List Step)) → (P → Q) → AsksDelta P token before after → AsksDelta Q token before after
asks-also token before after so asks = record { told = λ old told. asked-also token old after so (asks.told old told) }
