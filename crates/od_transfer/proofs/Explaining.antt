-- The requests of a job that were heard explain its outcome, also where the log grows before and after them.
use Rattle.std.proofs.Common.{◌≡◌, ◌⊎◌, inl, inr, ℕ, ◌+◌, ◌<◌, ◌≤◌, Bool, true, false, cond, length, take, get_or, List, [], ◌∷◌, ◌++◌, Option, Some, Ok, Err, Result, refl, ap, sym, ◌∙◌, subst, append_assoc}
use Rattle.std.specs.List.{AllZip, Contains}
use Rattle.std.specs.Result.{IfOk, IsErr}
use Rattle.std.proofs.lemmas.List.{append-nil, take_all}
use Rattle.std.proofs.lemmas.List.Elements.{Contains-get_or}
use Rattle.std.proofs.lemmas.Result.{IfOk-from_err, IfOk-weaker}
use Rattle.gd_item.specs.Records.{digest_record}
use Rattle.gd_item.specs.declared.digest.Digest.{Digest}
use Rattle.gd_item.specs.declared.fault.ErrorCode.{ErrorCode}
use Rattle.gd_item.specs.declared.id.ItemId.{ItemId}
use Rattle.gd_item.specs.declared.reply.Reply.{Reply}
use Rattle.gd_item.specs.declared.reply.Reply.TheVariants as reply
use Rattle.gd_item.specs.declared.request.Address.TheVariants.{Id}
use Rattle.gd_item.specs.declared.request.Request.{Request}
use Rattle.gd_item.specs.declared.request.Request.TheVariants.{Content, Download}
use Rattle.gd_item.specs.declared.step.Step.{Step}
use Rattle.gd_item.specs.declared.step.Step.TheVariants.{Ask}
use Rattle.gd_item.specs.declared.step.Who.TheVariants.{Own}
use Rattle.od_transfer.specs.Asking.{OwnAre, Answers, Heard, StandsLast, AsksAgain, IsSentAs, IsUnheard, Tries}
use Rattle.od_transfer.specs.Explained.{AreExplained, WasHeard, Brought, DeniedThen, IsFetchExplained, IsExplained, IsOfFetch, IsOfJob, IsOfJobs, IsSendOf, GrownSo, GrowsSo, IsDownloadExplained}
use Rattle.od_transfer.specs.Fits.{is_digest, fetched, content_in, found_in, downloaded}
use Rattle.od_transfer.specs.declared.job.Job.{Job}
use Rattle.od_transfer.specs.declared.job.Job.TheVariants.{Fetch}
use Rattle.od_transfer.specs.declared.job.Outcome.{Outcome}
use Rattle.od_transfer.specs.declared.job.Outcome.TheVariants.{Fetched, Changed, Refused, Lost}
use Rattle.od_transfer.specs.declared.remote.AskFault.{AskFault}
use Rattle.od_transfer.specs.declared.remote.AskFault.TheVariants.{Failed, Memory}
use Rattle.od_transfer.proofs.Logs.{such-also, such-append}
use Rattle.od_transfer.proofs.Zipped.{zip-also, zip-step}

-- ---- what was heard stays so where more steps come after it, and before it
pub heard-longer : (request : Request) (r : Reply) (old part more : List Step) → WasHeard request old part r → WasHeard request old (part ++ more) r
heard-longer request r old part more h = record {
  before = h.before;
  rest = h.rest ++ more;
  sent = h.sent;
  served = h.served;
  split = ap (λ steps. steps ++ more) h.split ∙ append_assoc h.before (Ask Own h.sent h.served true ∷ h.rest) more;
  answers = h.answers;
}

pub heard-later : (request : Request) (r : Reply) (old first part : List Step) → WasHeard request (old ++ first) part r → WasHeard request old (first ++ part) r
heard-later request r old first part h = record {
  before = first ++ h.before;
  rest = h.rest;
  sent = h.sent;
  served = h.served;
  split = ap (λ steps. first ++ steps) h.split ∙ sym (append_assoc first h.before (Ask Own h.sent h.served true ∷ h.rest));
  answers = subst (λ (log : List Step). Answers request h.sent h.served log r) (append_assoc old first h.before) h.answers;
}

-- ---- logs that grow, of which something holds
pub so-also : (A B : List Step → List Step → Request → Bool → Bool → Type 0) (P Q : List Step → List Step → Type 0) {before after : Option (List Step)}
    → ((old part : List Step) (sent : Request) (served heard : Bool) → A old part sent served heard → B old part sent served heard) → ((old part : List Step) → P old part → Q old part)
    → GrowsSo A P before after → GrowsSo B Q before after
so-also A B P Q {before} {after} such_also holds_also grows = record {
  told = λ old told.
      let g = grows.told old told in
      record { part = g.part; such = such-also (A old g.part) (B old g.part) (such_also old g.part) g.part g.such; grown = g.grown; holds = holds_also old g.part g.holds };
}

pub so-then : (A B C : List Step → List Step → Request → Bool → Bool → Type 0) (P Q R : List Step → List Step → Type 0) {before middle after : Option (List Step)}
    → ((old first second : List Step) → P old first → (sent : Request) (served heard : Bool) → A old first sent served heard → C old (first ++ second) sent served heard)
    → ((old first second : List Step) → P old first → (sent : Request) (served heard : Bool) → B (old ++ first) second sent served heard → C old (first ++ second) sent served heard)
    → ((old first second : List Step) → P old first → Q (old ++ first) second → R old (first ++ second))
    → GrowsSo A P before middle → GrowsSo B Q middle after → GrowsSo C R before after
so-then A B C P Q R {before} {middle} {after} early late both first second = record {
  told = λ old told.
      let one = first.told old told in
      let next = second.told (old ++ one.part) one.grown in
      let Such : Request → Bool → Bool → Type 0 = C old (one.part ++ next.part) in
      record {
        part = one.part ++ next.part;
        such = such-append Such one.part next.part (such-also (A old one.part) Such (early old one.part next.part one.holds) one.part one.such)
            (such-also (B (old ++ one.part) next.part) Such (late old one.part next.part one.holds) next.part next.such);
        grown = next.grown ∙ ap (λ log. Some log) (append_assoc old one.part next.part);
        holds = both old one.part next.part one.holds next.holds;
      };
}

-- ---- a request that is sent again as long as it is not heard
heard-one : (n : ℕ) (request : Request) (r : Reply) (old : List Step) (after : Option (List Step)) → Heard (Tries n request) request old after r
    → GrownSo (IsSendOf request) (λ log part. WasHeard request log part r) old after
heard-one n request r old after h =
    let Such : Request → Bool → Bool → Type 0 = λ sent served heard. IsSentAs request sent in
    record {
      part = h.part ++ Ask Own h.sent h.served true ∷ [];
      such = such-append Such h.part (Ask Own h.sent h.served true ∷ []) (such-also (IsUnheard request) Such (λ sent served heard unheard. unheard.0) h.part h.such.such) (h.answers.sent_as, tt);
      grown = h.grown ∙ ap (λ log. Some log) (append_assoc old h.part (Ask Own h.sent h.served true ∷ []));
      holds = record { before = h.part; rest = []; sent = h.sent; served = h.served; split = refl; answers = h.answers };
    }

pub heard-so : (n : ℕ) (request : Request) (r : Reply) {before after : Option (List Step)} → AsksAgain n request before after (Ok r) → GrowsSo (IsSendOf request) (λ log part. WasHeard request log part r) before after
heard-so n request r {before} {after} asks = record { told = λ old told. heard-one n request r old after (asks.ok old told) }

last-sent : (request : Request) (old part : List Step) (after : Option (List Step)) → OwnAre (λ sent served heard. IsSentAs request sent) part
    → (after ≡ Some (old ++ part)) ⊎ ((heard : Bool) × StandsLast request heard (old ++ part) after) → GrownSo (IsSendOf request) (λ log steps. Unit {0}) old after
last-sent request old part after such (inl not_there) = record { part = part; such = such; grown = not_there; holds = tt }
last-sent request old part after such (inr (heard, there)) = record {
  part = part ++ Ask Own there.sent there.served heard ∷ [];
  such = such-append (λ sent served heard. IsSentAs request sent) part (Ask Own there.sent there.served heard ∷ []) such (there.sent_as, tt);
  grown = there.grown ∙ ap (λ log. Some log) (append_assoc old part (Ask Own there.sent there.served heard ∷ []));
  holds = tt;
}

all-sent : (n : ℕ) (request : Request) (part : List Step) → Tries n request part → OwnAre (λ sent served heard. IsSentAs request sent) part
all-sent n request part tries = such-also (IsUnheard request) (λ sent served heard. IsSentAs request sent) (λ sent served heard unheard. unheard.0) part tries.such

pub unheard-so : (n : ℕ) (request : Request) (fault : AskFault) {before after : Option (List Step)} → AsksAgain n request before after (Err fault) → GrowsSo (IsSendOf request) (λ log part. Unit {0}) before after
unheard-so n request Failed {before} {after} asks = record {
  told = λ old told.
      let g = asks.failed refl old told in
      record { part = g.part; such = all-sent (n + 1) request g.part g.tries; grown = g.grown; holds = tt };
}
unheard-so n request Memory {before} {after} asks = record {
  told = λ old told.
      let g = asks.memory refl old told in
      last-sent request old g.part after (all-sent n request g.part g.such) g.grown;
}

-- ---- a download
judged-so : (old part : List Step) (found : ItemId) (version : ℕ) (digest : Digest) (bytes : List ℕ) (same : Bool) → is_digest (digest_record bytes) digest ≡ same
    → WasHeard (Download found version) old part (reply.Content bytes) → IsDownloadExplained old part found version digest (cond same (Fetched bytes) Changed)
judged-so old part found version digest bytes true is heard = heard
judged-so old part found version digest bytes false is heard = record { bytes = bytes; gave = heard; others = is }

by-reply : (old part : List Step) (found : ItemId) (version : ℕ) (digest : Digest) (r : Reply) (outcome : Outcome) → downloaded digest (content_in r) ≡ Some outcome
    → WasHeard (Download found version) old part r → IsDownloadExplained old part found version digest outcome
by-reply old part found version digest (reply.Content bytes) outcome is heard =
    let same : fetched digest bytes ≡ outcome = cc is in
    subst (IsDownloadExplained old part found version digest) same (judged-so old part found version digest bytes (is_digest (digest_record bytes) digest) refl heard)
by-reply old part found version digest (reply.Refused status code) outcome is heard =
    let same : Refused code ≡ outcome = cc is in
    subst (IsDownloadExplained old part found version digest) same (record { status = status; refused = heard })
by-reply old part found version digest r outcome is heard = absurd (cc is)

pub download-so : (n : ℕ) (found : ItemId) (version : ℕ) (digest : Digest) (r : Reply) (outcome : Outcome) {before after : Option (List Step)} → downloaded digest (content_in r) ≡ Some outcome
    → AsksAgain n (Download found version) before after (Ok r) → GrowsSo (IsSendOf (Download found version)) (λ log part. IsDownloadExplained log part found version digest outcome) before after
download-so n found version digest r outcome is asks =
    so-also (IsSendOf (Download found version)) (IsSendOf (Download found version)) (λ log part. WasHeard (Download found version) log part r) (λ log part. IsDownloadExplained log part found version digest outcome)
    (λ old part sent served heard such. such) (λ log part heard. by-reply log part found version digest r outcome is heard) (heard-so n (Download found version) r asks)

-- ---- a fetch
inside : {A E : Type 0} (a b : A) (r : Option (Result A E)) → r ≡ Some (Ok a) → r ≡ Some (Ok b) → a ≡ b
inside a b r one other = cc (one, other)

is-found : (r : Reply) (found : ItemId) (version : ℕ) → found_in r ≡ Some (Ok (found, version)) → r ≡ reply.Found found version
is-found (reply.Found id number) found version is =
    ap (λ (p : ItemId × ℕ). reply.Found p.0 p.1) (inside (id, number) (found, version) (found_in (reply.Found id number)) refl is)
is-found r found version is = absurd (cc is)

is-refused : (r : Reply) (code : ErrorCode) → found_in r ≡ Some (Err code) → (status : ℕ) × (r ≡ reply.Refused status code)
is-refused (reply.Refused status other) code is =
    let same : other ≡ code = cc is in
    (status, ap (λ e. reply.Refused status e) same)
is-refused r code is = absurd (cc is)

fetched-then : (old first second : List Step) (id found : ItemId) (version : ℕ) (digest : Digest) (outcome : Outcome) → WasHeard (Content (Id id)) old first (reply.Found found version)
    → IsDownloadExplained (old ++ first) second found version digest outcome → IsFetchExplained old (first ++ second) id digest outcome
fetched-then old first second id found version digest (Fetched bytes) said gave = record {
  found = found;
  version = version;
  said = heard-longer (Content (Id id)) (reply.Found found version) old first second said;
  gave = heard-later (Download found version) (reply.Content bytes) old first second gave;
}
fetched-then old first second id found version digest Changed said gave = record {
  bytes = gave.bytes;
  brought = record {
    found = found;
    version = version;
    said = heard-longer (Content (Id id)) (reply.Found found version) old first second said;
    gave = heard-later (Download found version) (reply.Content gave.bytes) old first second gave.gave;
  };
  others = gave.others;
}
fetched-then old first second id found version digest (Refused code) said gave = record {
  status = gave.status;
  denied = inr (record {
    found = found;
    version = version;
    said = heard-longer (Content (Id id)) (reply.Found found version) old first second said;
    refused = heard-later (Download found version) (reply.Refused gave.status code) old first second gave.refused;
  });
}
fetched-then old first second id found version digest Lost said gave = tt

pub fetch-so : (n : ℕ) (id : ItemId) (digest : Digest) (found : ItemId) (version : ℕ) (r : Reply) {E : Type 0} (result : Result Outcome E) {before middle after : Option (List Step)}
    → found_in r ≡ Some (Ok (found, version)) → AsksAgain n (Content (Id id)) before middle (Ok r)
    → GrowsSo (IsSendOf (Download found version)) (λ log part. IfOk result (λ outcome. IsDownloadExplained log part found version digest outcome)) middle after
    → GrowsSo (IsOfFetch id) (λ log part. IfOk result (λ outcome. IsFetchExplained log part id digest outcome)) before after
fetch-so n id digest found version r result is asks gives =
    let Said : List Step → List Step → Type 0 = λ log part. WasHeard (Content (Id id)) log part (reply.Found found version) in
    so-then (IsSendOf (Content (Id id))) (IsSendOf (Download found version)) (IsOfFetch id) Said
    (λ log part. IfOk result (λ outcome. IsDownloadExplained log part found version digest outcome)) (λ log part. IfOk result (λ outcome. IsFetchExplained log part id digest outcome))
    (λ old first second said sent served heard such. inl such)
    (λ old first second said sent served heard such. inr (record { found = found; version = version; named = heard-longer (Content (Id id)) (reply.Found found version) old first second said; sent_as = such }))
    (λ old first second said gave. IfOk-weaker result (λ outcome. IsDownloadExplained (old ++ first) second found version digest outcome) (λ outcome. IsFetchExplained old (first ++ second) id digest outcome)
    (λ outcome explained. fetched-then old first second id found version digest outcome said explained) gave)
    (so-also (IsSendOf (Content (Id id))) (IsSendOf (Content (Id id))) (λ log part. WasHeard (Content (Id id)) log part r) Said (λ old part sent served heard such. such)
    (λ log part heard. subst (WasHeard (Content (Id id)) log part) (is-found r found version is) heard) (heard-so n (Content (Id id)) r asks))
    gives

pub refused-so : (n : ℕ) (id : ItemId) (digest : Digest) (code : ErrorCode) (r : Reply) {before after : Option (List Step)} → found_in r ≡ Some (Err code) → AsksAgain n (Content (Id id)) before after (Ok r)
    → GrowsSo (IsOfFetch id) (λ log part. IsFetchExplained log part id digest (Refused code)) before after
refused-so n id digest code r is asks =
    let refused = is-refused r code is in
    so-also (IsSendOf (Content (Id id))) (IsOfFetch id) (λ log part. WasHeard (Content (Id id)) log part r) (λ log part. IsFetchExplained log part id digest (Refused code))
    (λ old part sent served heard such. inl such)
    (λ old part heard. record { status = refused.0; denied = inl (subst (WasHeard (Content (Id id)) old part) refused.1 heard) }) (heard-so n (Content (Id id)) r asks)

pub lost-so : (n : ℕ) (id : ItemId) (fault : AskFault) {before after : Option (List Step)} → AsksAgain n (Content (Id id)) before after (Err fault) → GrowsSo (IsOfFetch id) (λ log part. Unit {0}) before after
lost-so n id fault asks =
    so-also (IsSendOf (Content (Id id))) (IsOfFetch id) (λ log part. Unit {0}) (λ log part. Unit {0}) (λ old part sent served heard such. inl such) (λ old part holds. holds) (unheard-so n (Content (Id id)) fault asks)

-- ---- what explains an outcome still does where the log grows
denied-also : (id : ItemId) (old part log steps : List Step) (status : ℕ) (code : ErrorCode) → ((request : Request) (r : Reply) → WasHeard request old part r → WasHeard request log steps r)
    → WasHeard (Content (Id id)) old part (reply.Refused status code) ⊎ DeniedThen id old part status code
    → WasHeard (Content (Id id)) log steps (reply.Refused status code) ⊎ DeniedThen id log steps status code
denied-also id old part log steps status code still (inl h) = inl (still (Content (Id id)) (reply.Refused status code) h)
denied-also id old part log steps status code still (inr d) = inr (record {
  found = d.found;
  version = d.version;
  said = still (Content (Id id)) (reply.Found d.found d.version) d.said;
  refused = still (Download d.found d.version) (reply.Refused status code) d.refused;
})

brought-also : (id : ItemId) (old part log steps : List Step) (bytes : List ℕ) → ((request : Request) (r : Reply) → WasHeard request old part r → WasHeard request log steps r)
    → Brought id old part bytes → Brought id log steps bytes
brought-also id old part log steps bytes still b = record {
  found = b.found;
  version = b.version;
  said = still (Content (Id id)) (reply.Found b.found b.version) b.said;
  gave = still (Download b.found b.version) (reply.Content bytes) b.gave;
}

fetch-also : (id : ItemId) (digest : Digest) (outcome : Outcome) (old part log steps : List Step) → ((request : Request) (r : Reply) → WasHeard request old part r → WasHeard request log steps r)
    → IsFetchExplained old part id digest outcome → IsFetchExplained log steps id digest outcome
fetch-also id digest (Fetched bytes) old part log steps still explained = brought-also id old part log steps bytes still explained
fetch-also id digest Changed old part log steps still explained =
    record { bytes = explained.bytes; brought = brought-also id old part log steps explained.bytes still explained.brought; others = explained.others }
fetch-also id digest (Refused code) old part log steps still explained =
    record { status = explained.status; denied = denied-also id old part log steps explained.status code still explained.denied }
fetch-also id digest Lost old part log steps still explained = tt

explained-longer : (old part more : List Step) (job : Job) (outcome : Outcome) → IsExplained old part job outcome → IsExplained old (part ++ more) job outcome
explained-longer old part more (Fetch id digest size) outcome explained =
    fetch-also id digest outcome old part old (part ++ more) (λ request r h. heard-longer request r old part more h) explained

explained-later : (old first part : List Step) (job : Job) (outcome : Outcome) → IsExplained (old ++ first) part job outcome → IsExplained old (first ++ part) job outcome
explained-later old first part (Fetch id digest size) outcome explained =
    fetch-also id digest outcome (old ++ first) part old (first ++ part) (λ request r h. heard-later request r old first part h) explained

-- ---- and so do the requests of a job
job-also : (job : Job) (old part log steps : List Step) → ((request : Request) (r : Reply) → WasHeard request old part r → WasHeard request log steps r)
    → (sent : Request) (served heard : Bool) → IsOfJob job old part sent served heard → IsOfJob job log steps sent served heard
job-also (Fetch id digest size) old part log steps still sent served heard (inl said) = inl said
job-also (Fetch id digest size) old part log steps still sent served heard (inr d) =
    inr (record { found = d.found; version = d.version; named = still (Content (Id id)) (reply.Found d.found d.version) d.named; sent_as = d.sent_as })

job-later : (job : Job) (old first part : List Step) (sent : Request) (served heard : Bool) → IsOfJob job (old ++ first) part sent served heard → IsOfJob job old (first ++ part) sent served heard
job-later job old first part sent served heard asks = job-also job (old ++ first) part old (first ++ part) (λ request r h. heard-later request r old first part h) sent served heard asks

jobs-longer : (jobs : List Job) (old part more : List Step) (sent : Request) (served heard : Bool) → IsOfJobs jobs old part sent served heard → IsOfJobs jobs old (part ++ more) sent served heard
jobs-longer jobs old part more sent served heard asked =
    record { job = asked.job; there = asked.there; asks = job-also asked.job old part old (part ++ more) (λ request r h. heard-longer request r old part more h) sent served heard asked.asks }

-- ---- job after job
module _ (jobs items : List Job) (same : items ≡ jobs) where
  pub none-carried : (outcomes : List Outcome) (log : Option (List Step)) → outcomes ≡ [] → GrowsSo (IsOfJobs jobs) (λ old part. AllZip (IsExplained old part) (take 0 items) outcomes) log log
  none-carried outcomes log none = record {
    told = λ old told. record {
      part = [];
      such = tt;
      grown = told ∙ ap (λ steps. Some steps) (sym (append-nil old));
      holds = subst (λ (all : List Outcome). AllZip (IsExplained old []) [] all) (sym none) tt;
    };
  }

  then-carried : (P Q R : List Step → List Step → Type 0) (i : ℕ) (d : Job) {before middle after : Option (List Step)} → i < length items
      → ((old first second : List Step) → P old first → Q (old ++ first) second → R old (first ++ second))
      → GrowsSo (IsOfJobs jobs) P before middle → GrowsSo (IsOfJob (get_or items i d)) Q middle after → GrowsSo (IsOfJobs jobs) R before after
  then-carried P Q R i d within both first second =
      so-then (IsOfJobs jobs) (IsOfJob (get_or items i d)) (IsOfJobs jobs) P Q R
      (λ old part more holds sent served heard asked. jobs-longer jobs old part more sent served heard asked)
      (λ old part more holds sent served heard asks. record {
        job = get_or items i d;
        there = subst (λ (xs : List Job). Contains xs (get_or items i d)) same (Contains-get_or items i d within);
        asks = job-later (get_or items i d) old part more sent served heard asks;
      })
      both first second

  pub one-carried : (outcomes new : List Outcome) (i : ℕ) (d : Job) (outcome : Outcome) {before middle after : Option (List Step)} → i < length items
      → GrowsSo (IsOfJobs jobs) (λ old part. AllZip (IsExplained old part) (take i items) outcomes) before middle
      → GrowsSo (IsOfJob (get_or items i d)) (λ old part. IsExplained old part (get_or items i d) outcome) middle after → new ≡ outcomes ++ outcome ∷ []
      → GrowsSo (IsOfJobs jobs) (λ old part. AllZip (IsExplained old part) (take (i + 1) items) new) before after
  one-carried outcomes new i d outcome within first second is =
      then-carried (λ old part. AllZip (IsExplained old part) (take i items) outcomes) (λ old part. IsExplained old part (get_or items i d) outcome)
      (λ old part. AllZip (IsExplained old part) (take (i + 1) items) new) i d within
      (λ old part more all one. zip-step (IsExplained old (part ++ more)) items outcomes new i d outcome within
      (zip-also (IsExplained old part) (IsExplained old (part ++ more)) (explained-longer old part more) (take i items) outcomes all)
      (explained-later old part more (get_or items i d) outcome one) is)
      first second

  -- the last job ended for want of memory, or its outcome found no room
  pub cut-carried : (P Q : List Step → List Step → Type 0) {E : Type 0} (result : Result (List Outcome) E) (i : ℕ) (d : Job) {before middle after : Option (List Step)} → IsErr result → i < length items
      → GrowsSo (IsOfJobs jobs) P before middle → GrowsSo (IsOfJob (get_or items i d)) Q middle after → GrowsSo (IsOfJobs jobs) (AreExplained jobs result) before after
  cut-carried P Q result i d err within first second =
      then-carried P Q (AreExplained jobs result) i d within (λ old part more holds more_holds. IfOk-from_err result (λ outcomes. AllZip (IsExplained old (part ++ more)) jobs outcomes) err) first second

  pub all-carried : (outcomes : List Outcome) (n : ℕ) {before after : Option (List Step)} → length items ≤ n → GrowsSo (IsOfJobs jobs) (λ old part. AllZip (IsExplained old part) (take n items) outcomes) before after
      → GrowsSo (IsOfJobs jobs) (λ old part. AllZip (IsExplained old part) jobs outcomes) before after
  all-carried outcomes n {before} {after} all carries =
      subst (λ (xs : List Job). GrowsSo (IsOfJobs jobs) (λ old part. AllZip (IsExplained old part) xs outcomes) before after) (take_all n items all ∙ same) carries

-- ---- a job is a fetch
pub one-job : (job : Job) {E : Type 0} (result : Result Outcome E) (before after : Option (List Step))
    → ((id : ItemId) (digest : Digest) (size : ℕ) → job ≡ Fetch id digest size → GrowsSo (IsOfFetch id) (λ old part. IfOk result (λ outcome. IsFetchExplained old part id digest outcome)) before after)
    → GrowsSo (IsOfJob job) (λ old part. IfOk result (λ outcome. IsExplained old part job outcome)) before after
one-job (Fetch id digest size) result before after told = told id digest size refl
