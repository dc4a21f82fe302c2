-- Digests that are learned, one file after the other.
use Rattle.std.proofs.Common.{◌≡◌, ℕ, zero, suc, ◌<◌, List, [], ◌∷◌, ◌++◌, length, get_or, refl, ap, sym, subst, ◌∙◌, append_assoc, arith}
use Rattle.std.proofs.lemmas.List.{append-nil}
use Rattle.std.specs.List.{AllByRecursion}
use Rattle.gd_names.proofs.Each.{each-append, each-so}
use Rattle.gd_item.specs.Answers.{answer_served}
use Rattle.gd_item.specs.Records.{digest_record}
use Rattle.gd_item.specs.Steps.{state_of}
use Rattle.gd_item.specs.declared.digest.Digest.{Digest}
use Rattle.gd_item.specs.declared.id.ItemId.{ItemId}
use Rattle.gd_item.specs.declared.item.Tag.{Tag}
use Rattle.gd_item.specs.declared.reply.Reply.{Reply}
use Rattle.gd_item.specs.declared.reply.Reply.TheVariants as reply
use Rattle.gd_item.specs.declared.request.Address.TheVariants.{Id}
use Rattle.gd_item.specs.declared.request.Request.TheVariants.{Content, Download}
use Rattle.gd_item.specs.declared.step.Step.{Step}
use Rattle.od_outside.specs.Running.{Free, Runs, Stays}
use Rattle.od_outside.specs.Seeing.{AreLaws, Seen}
use Rattle.od_outside.proofs.Glue.{runs-none, runs-so, runs-then}
use Rattle.od_pages.specs.Pulls.{IsDigestThere}
use Rattle.od_run.specs.Knowing.{Known, learned}
use Rattle.od_run.specs.Worlds.{World, Event, now}
use Rattle.od_run.proofs.Legal.{now-append}
use Rattle.od_pull.specs.Digests.{AreLearned, HasForm, HasNumber, HaveNumbers, IsEarly, IsLearned, IsReplyTo, IsRight, IsRightFrom, IsStill, StopsStill}
use Rattle.od_pull.specs.Pulls.{StopCause}
use Rattle.od_pull.specs.declared.learning.Learned.{Learned}
use Rattle.od_pull.specs.declared.stop.PullStop.{PullStop}
use Rattle.od_pull.specs.declared.stop.PullStop.TheVariants as stop
use Rattle.od_pull.proofs.Digests.{replies-right}
use Rattle.od_pull.proofs.Quiet.{quiet-none, quiet-then}
use Rattle.od_pull.proofs.Taking.{cause-then}

-- ---- still after still
pub still-none : (w : World) (k : Known) → IsStill w k []
still-none w k = record { quiet = quiet-none w k; part = []; grown = sym (append-nil w.drive) }

pub still-append : (w : World) (k : Known) (xs ys : List Event) → IsStill w k xs → IsStill (now w xs) (learned w k xs) ys → IsStill w k (xs ++ ys)
still-append w k xs ys first second = record {
  quiet = quiet-then w k (learned w k xs) xs ys first.quiet second.quiet;
  part = first.part ++ second.part;
  grown = ap (λ (v : World). v.drive) (now-append w xs ys) ∙ second.grown ∙ ap (λ log. log ++ second.part) first.grown ∙ append_assoc w.drive first.part second.part;
}

stop-then : (of : PullStop) (k mid next : Known) → mid ≡ k → StopsStill of mid next → StopsStill of k next
stop-then of k mid next is still = subst (λ (m : Known). StopsStill of m next) is still

-- ---- one file
-- the first request stops
pub found-stops : {S : Type 0} {o : Seen S} {a b : S} (id : ItemId) (of : PullStop) → Runs o (HasForm (Content (Id id))) (StopsStill of) IsStill (StopCause of) a b → Runs o (HasNumber id) (StopsStill of) IsStill (StopCause of) a b
found-stops id of runs = runs-so runs (λ cause. cause) (λ k above. above) (λ k next above still. still) (λ w k more above still. still)

found-first : {S : Type 0} {o : Seen S} {a b : S} (id : ItemId) (said : Reply) → Runs o (HasForm (Content (Id id))) Stays (IsReplyTo (Content (Id id)) said) Free a b → Runs o (HasNumber id) Stays (IsReplyTo (Content (Id id)) said) Free a b
found-first id said runs = runs-so runs (λ cause. cause) (λ k above. above) (λ k next above still. still) (λ w k more above has. has)

-- it finds nothing
pub found-none : {S : Type 0} {o : Seen S} {a b : S} (id : ItemId) (said : Reply) → Runs o (HasForm (Content (Id id))) Stays (IsReplyTo (Content (Id id)) said) Free a b → Runs o (HasNumber id) Stays IsStill Free a b
found-none id said runs = runs-so runs (λ cause. cause) (λ k above. above) (λ k next above still. still) (λ w k more above has. has.still)

-- the second one stops
pub bytes-stop : {S : Type 0} {o : Seen S} {a b c : S} → AreLaws o → (id : ItemId) (said : Reply) (version : ℕ) (of : PullStop) → Runs o (HasForm (Content (Id id))) Stays (IsReplyTo (Content (Id id)) said) Free a b
    → Runs o (HasForm (Download id version)) (StopsStill of) IsStill (StopCause of) b c → Runs o (HasNumber id) (StopsStill of) IsStill (StopCause of) a c
bytes-stop {S} {o} {a} {b} {c} laws id said version of first second =
    runs-then {A = StopsStill of} {F = IsStill} {C = StopCause of} laws (found-first id said first) second
    (λ same later one two. cause-then of (o.reads a) (o.reads b) (o.counts a) (o.counts b) (o.counts c) same later two) (λ k mid above is. above)
    (λ k mid next above is still. stop-then of k mid next is still) (λ w k xs ys above has still. still-append w k xs ys has.still still)

-- it gives nothing
pub bytes-none : {S : Type 0} {o : Seen S} {a b c : S} → AreLaws o → (id : ItemId) (said again : Reply) (version : ℕ) → Runs o (HasForm (Content (Id id))) Stays (IsReplyTo (Content (Id id)) said) Free a b
    → Runs o (HasForm (Download id version)) Stays (IsReplyTo (Download id version) again) Free b c → Runs o (HasNumber id) Stays IsStill Free a c
bytes-none {S} {o} {a} {b} {c} laws id said again version first second =
    runs-then {A = Stays} {F = IsStill} {C = Free} laws (found-first id said first) second
    (λ same later one two. tt) (λ k mid above is. above) (λ k mid next above is still. still ∙ is) (λ w k xs ys above has more. still-append w k xs ys has.still more.still)

-- it gives bytes
bytes-learned : (id found : ItemId) (version : ℕ) (bytes : List ℕ) (w : World) (k : Known) (xs ys : List Event) → IsReplyTo (Content (Id id)) (reply.Found found version) w k xs
    → IsReplyTo (Download id version) (reply.Content bytes) (now w xs) (learned w k xs) ys → IsLearned id (digest_record bytes) w k (xs ++ ys)
bytes-learned id found version bytes w k xs ys one two =
    let again = subst (λ log. reply.Content bytes ≡ answer_served two.served (state_of (log ++ two.before)) two.size (Download id version)) one.grown two.reply_is in
    let whole : (now w (xs ++ ys)).drive ≡ (((w.drive ++ one.before) ++ one.after) ++ two.before) ++ two.after =
    ap (λ (v : World). v.drive) (now-append w xs ys) ∙ two.grown ∙ ap (λ log. (log ++ two.before) ++ two.after) one.grown in
    record {
      still = still-append w k xs ys one.still two.still;
      right = λ first part etag is early.
          subst (λ log. IsRightFrom log id etag (digest_record bytes)) (sym whole)
          (λ later. replies-right w.drive first part one.before one.after two.before two.after id etag found version bytes one.served two.served one.size two.size is early one.reply_is again later);
    }

pub bytes-learn : {S : Type 0} {o : Seen S} {a b c : S} → AreLaws o → (id found : ItemId) (version : ℕ) (bytes : List ℕ) (digest : Digest) → digest ≡ digest_record bytes
    → Runs o (HasForm (Content (Id id))) Stays (IsReplyTo (Content (Id id)) (reply.Found found version)) Free a b → Runs o (HasForm (Download id version)) Stays (IsReplyTo (Download id version) (reply.Content bytes)) Free b c
    → Runs o (HasNumber id) Stays (IsLearned id digest) Free a c
bytes-learn {S} {o} {a} {b} {c} laws id found version bytes digest is first second =
    runs-then {A = Stays} {F = IsLearned id digest} {C = Free} laws (found-first id (reply.Found found version) first) second
    (λ same later one two. tt) (λ k mid above at. above) (λ k mid next above at still. still ∙ at)
    (λ w k xs ys above one two. subst (λ (d : Digest). IsLearned id d w k (xs ++ ys)) (sym is) (bytes-learned id found version bytes w k xs ys one two))

digest-is : (digest : Digest) (bytes : List ℕ) → digest.0 ≡ (digest_record bytes).0 → digest ≡ digest_record bytes
digest-is digest bytes is = ap (λ (d : List ℕ). let made : Digest = record { 0 = d } in made) is

pub digest-by : (digest : Digest) (read bytes : List ℕ) → digest.0 ≡ (digest_record read).0 → read ≡ bytes → digest ≡ digest_record bytes
digest-by digest read bytes is same = digest-is digest read is ∙ ap digest_record same

-- ---- many files
all-at : {X : Type 0} (P : X → Type 0) (xs : List X) (i : ℕ) (d : X) → i < length xs → AllByRecursion P xs → P (get_or xs i d)
all-at P [] i d low all = absurd (omega (arith, low))
all-at P (x ∷ xs) zero d low all = all.0
all-at P (x ∷ xs) (suc i) d low all = all-at P xs i d (omega (arith, low)) all.1

right-later : (drive more : List Step) (all : List Learned) → AllByRecursion (IsRight drive) all → AllByRecursion (IsRight (drive ++ more)) all
right-later drive more all right =
    each-so (IsRight drive) (IsRight (drive ++ more)) (λ one is later. subst (λ log. IsDigestThere log one.id one.etag one.digest) (sym (append_assoc drive more later)) (is (more ++ later))) all right

pub learned-none : {S : Type 0} {o : Seen S} {a : S} → AreLaws o → (bare : List (ItemId × Tag)) → Runs o (HaveNumbers bare) Stays (AreLearned bare []) Free a a
learned-none laws bare = runs-none laws tt (λ k have. refl) (λ w k have. record { still = still-none w k; right = λ first part is early. tt })

learned-still : (bare : List (ItemId × Tag)) (all : List Learned) (w : World) (k : Known) (xs ys : List Event) → AreLearned bare all w k xs → IsStill (now w xs) (learned w k xs) ys → AreLearned bare all w k (xs ++ ys)
learned-still bare all w k xs ys first still = record {
  still = still-append w k xs ys first.still still;
  right = λ begin part is early.
      subst (λ log. AllByRecursion (IsRight log) all) (sym (ap (λ (v : World). v.drive) (now-append w xs ys) ∙ still.grown)) (right-later (now w xs).drive still.part all (first.right begin part is early));
}

-- a file whose digest is not given
file-numbered : (bare : List (ItemId × Tag)) (at : ℕ) (file : ItemId × Tag) (k : Known) → at < length bare → file ≡ get_or bare at file → HaveNumbers bare k → HasNumber file.0 k
file-numbered bare at file k low is have = subst (λ (entry : ItemId × Tag). 0 < entry.0.0) (sym is) (all-at (λ (entry : ItemId × Tag). 0 < entry.0.0) bare at file low have)

pub unlearned-more : {S : Type 0} {o : Seen S} {a b c : S} → AreLaws o → (bare : List (ItemId × Tag)) (all : List Learned) (at : ℕ) (file : ItemId × Tag) → at < length bare → file ≡ get_or bare at file
    → Runs o (HaveNumbers bare) Stays (AreLearned bare all) Free a b → Runs o (HasNumber file.0) Stays IsStill Free b c → Runs o (HaveNumbers bare) Stays (AreLearned bare all) Free a c
unlearned-more laws bare all at file low is before one =
    runs-then {A = Stays} {F = AreLearned bare all} {C = Free} laws before one (λ same later free more. tt) (λ k mid have stays. file-numbered bare at file k low is have)
    (λ k mid next have stays still. still ∙ stays) (λ w k xs ys have first still. learned-still bare all w k xs ys first still)

learned-next : (bare : List (ItemId × Tag)) (all : List Learned) (at : ℕ) (file : ItemId × Tag) (digest : Digest) (w : World) (k : Known) (xs ys : List Event) → at < length bare → file ≡ get_or bare at file → AreLearned bare all w k xs
    → IsLearned file.0 digest (now w xs) (learned w k xs) ys → AreLearned bare (all ++ record { id = file.0; etag = file.1; digest = digest } ∷ []) w k (xs ++ ys)
learned-next bare all at file digest w k xs ys low is first one =
    let both = learned-still bare all w k xs ys first one.still in
    record {
      still = both.still;
      right = λ begin part grown early.
          let own = subst (λ (entry : ItemId × Tag). IsEarly begin entry.1) (sym is) (all-at (λ (entry : ItemId × Tag). IsEarly begin entry.1) bare at file low early) in
          let new = one.right begin (part ++ first.still.part) file.1 (first.still.grown ∙ ap (λ log. log ++ first.still.part) grown ∙ append_assoc begin part first.still.part) own in
          each-append (IsRight (now w (xs ++ ys)).drive) all (record { id = file.0; etag = file.1; digest = digest } ∷ []) (both.right begin part grown early)
          (subst (λ log. IsRightFrom log file.0 file.1 digest) (sym (ap (λ (v : World). v.drive) (now-append w xs ys))) new, tt);
    }

pub learned-more : {S : Type 0} {o : Seen S} {a b c : S} → AreLaws o → (bare : List (ItemId × Tag)) (all : List Learned) (at : ℕ) (file : ItemId × Tag) (digest : Digest) → at < length bare → file ≡ get_or bare at file
    → Runs o (HaveNumbers bare) Stays (AreLearned bare all) Free a b → Runs o (HasNumber file.0) Stays (IsLearned file.0 digest) Free b c
    → Runs o (HaveNumbers bare) Stays (AreLearned bare (all ++ record { id = file.0; etag = file.1; digest = digest } ∷ [])) Free a c
learned-more laws bare all at file digest low is before one =
    runs-then {A = Stays} {F = AreLearned bare (all ++ record { id = file.0; etag = file.1; digest = digest } ∷ [])} {C = Free} laws before one (λ same later free more. tt)
    (λ k mid have stays. file-numbered bare at file k low is have) (λ k mid next have stays still. still ∙ stays) (λ w k xs ys have first new. learned-next bare all at file digest w k xs ys low is first new)

pub learning-stops : {S : Type 0} {o : Seen S} {a b c : S} → AreLaws o → (bare : List (ItemId × Tag)) (all : List Learned) (at : ℕ) (file : ItemId × Tag) (of : PullStop) → at < length bare → file ≡ get_or bare at file
    → Runs o (HaveNumbers bare) Stays (AreLearned bare all) Free a b → Runs o (HasNumber file.0) (StopsStill of) IsStill (StopCause of) b c → Runs o (HaveNumbers bare) (StopsStill of) IsStill (StopCause of) a c
learning-stops {S} {o} {a} {b} {c} laws bare all at file of low is before one =
    runs-then {A = StopsStill of} {F = IsStill} {C = StopCause of} laws before one
    (λ same later free cause. cause-then of (o.reads a) (o.reads b) (o.counts a) (o.counts b) (o.counts c) same later cause)
    (λ k mid have stays. file-numbered bare at file k low is have) (λ k mid next have stays still. stop-then of k mid next stays still)
    (λ w k xs ys have first still. still-append w k xs ys first.still still)

-- memory is wanting
pub learning-memory : {S : Type 0} {o : Seen S} {a b : S} (bare : List (ItemId × Tag)) (all : List Learned) → Runs o (HaveNumbers bare) Stays (AreLearned bare all) Free a b
    → Runs o (HaveNumbers bare) (StopsStill stop.Memory) IsStill (StopCause stop.Memory) a b
learning-memory bare all runs = runs-so runs (λ cause. tt) (λ k have. have) (λ k next have is. is) (λ w k more have first. first.still)
