-- From one answer to the next, and from the last one to a view.
use Rattle.std.proofs.Common.{◌≡◌, ◌⊎◌, inl, inr, ℕ, ◌+◌, ◌≤◌, true, cond, List, [], ◌++◌, Option, Some, None, Result, Ok, Err, IsErrOf, refl, ap, sym, subst, ◌∙◌, append_assoc, arith}
use Rattle.std.specs.Map.{values_of}
use Rattle.gd_item.specs.Ids.{item_id}
use Rattle.gd_item.specs.Records.{records_of}
use Rattle.gd_item.specs.Replies.{is_page_or_gone}
use Rattle.gd_item.specs.Requests.{kind_of}
use Rattle.gd_item.specs.Steps.{held_by, number_of, state_of}
use Rattle.gd_item.specs.Tokens.{token_of_text}
use Rattle.gd_item.specs.Views.{AreItemsOf, ItemsAre, TokenIs}
use Rattle.gd_item.specs.declared.fault.ErrorCode.{ErrorCode}
use Rattle.gd_item.specs.declared.id.ItemId.{ItemId}
use Rattle.gd_item.specs.declared.item.Item.{Item}
use Rattle.gd_item.specs.declared.reply.Page.{Page}
use Rattle.gd_item.specs.declared.reply.PageLink.{PageLink}
use Rattle.gd_item.specs.declared.reply.PageLink.TheVariants as link
use Rattle.gd_item.specs.declared.reply.Reply.{Reply}
use Rattle.gd_item.specs.declared.reply.Reply.TheVariants as reply
use Rattle.gd_item.specs.declared.reply.Resync.{Resync}
use Rattle.gd_item.specs.declared.reply.Resync.TheVariants.{ApplyDifferences, UploadDifferences}
use Rattle.gd_item.specs.declared.request.Request.TheVariants.{Delta}
use Rattle.gd_item.specs.declared.step.Step.{Step}
use Rattle.gd_item.specs.declared.step.Step.TheVariants.{Ask}
use Rattle.gd_item.specs.declared.step.Who.TheVariants.{Own}
use Rattle.gd_item.specs.declared.token.Token.{Token}
use Rattle.gd_item.proofs.ReadTokens.{token-read}
use Rattle.gd_item.proofs.Views.{held_at-now}
use Rattle.gd_laws.proofs.Logs.{epoch-fits, number-fits}
use Rattle.od_keeper.specs.Images.{empty_image}
use Rattle.od_keeper.specs.declared.fault.KeeperFault.{KeeperFault}
use Rattle.od_keeper.specs.declared.fault.KeeperFault.TheVariants as keeper
use Rattle.od_keeper.specs.declared.image.Image.{Image}
use Rattle.od_mirror.specs.Pulled.{Pulled, IsLeastBad, IsView, after_link, after_page, begun, nodes, taken_of, with_records}
use Rattle.od_mirror.specs.declared.mirror.PullFault.{PullFault}
use Rattle.od_mirror.specs.declared.mirror.PullFault.TheVariants as page
use Rattle.od_mirror.specs.declared.mirror.Taken.{Taken}
use Rattle.od_mirror.specs.declared.mirror.Taken.TheVariants.{More, Last}
use Rattle.od_mirror.specs.declared.view.MirrorView.{MirrorView}
use Rattle.od_outside.specs.Running.{IsKnown, Runs}
use Rattle.od_outside.specs.Seeing.{AreLaws, Counts, NotFewer, Seen}
use Rattle.od_outside.specs.Works.{KeepCause}
use Rattle.od_outside.proofs.Glue.{runs-by, runs-none, runs-so, runs-then}
use Rattle.od_pages.specs.Pulls.{IsPull, IsTokenNow, after_answer}
use Rattle.od_pages.proofs.Pulling.{pages-never-bad, pages-sound, pages-token, pull-answered, pull-begins, pull-goes-on}
use Rattle.od_remote.specs.Counting.{AreSame, AskCounts, Reading, RoseBy}
use Rattle.od_run.specs.Knowing.{Feed, Known, learned, link_token, nothing_there, pulled_to}
use Rattle.od_run.specs.Worlds.{World, Event, now, steps_in}
use Rattle.od_run.proofs.Legal.{learned-append, now-append}
use Rattle.od_pull.specs.Parts.{AsksNext, HasAnswer, HasBegunAnew, HasEnded, HasImageThen, IsAnswer, IsQuiet, IsTaken, IsUnderway, IsViewNow, KeepsView, StopFact, StoppedBy, Took, Underway, ViewFact, ViewsBy, ViewsNow, image_then}
use Rattle.od_pull.specs.Pulls.{BaseBy, BeginsPull, CameBad, EmptiesImage, IsPulledView, Keeps, PullCause, PulledBy, StopCause, is_to_send, told_to_send}
use Rattle.od_pull.specs.Stops.{keeper_stop, page_stop}
use Rattle.od_pull.specs.declared.stop.PullStop.{PullStop}
use Rattle.od_pull.specs.declared.stop.PullStop.TheVariants as stop
use Rattle.od_pull.proofs.Quiet.{drive-now, empties-quiet, empties-then, told-first}

-- ---- what stays
pub keeps-then : (k mid next : Known) → Keeps k mid → Keeps mid next → Keeps k next
keeps-then k mid next first second = record { here = second.here ∙ first.here; image = by first.image second.image }
  where
    by : (mid.image ≡ k.image) ⊎ (mid.image ≡ empty_image) → (next.image ≡ mid.image) ⊎ (next.image ≡ empty_image) → (next.image ≡ k.image) ⊎ (next.image ≡ empty_image)
    by (inl one) (inl two) = inl (two ∙ one)
    by (inr one) (inl two) = inr (two ∙ one)
    by one (inr two) = inr two

keeps-answer : (token : Option (List ℕ)) (reply : Reply) (k next : Known) → HasAnswer token reply k next → Keeps k next
keeps-answer token reply k next has = record { here = has.here; image = inl has.image }

-- ---- a page
link-token : (items : List (ℕ × Item)) (l : PageLink) → (after_link items l).token ≡ Some (link_token l)
link-token items (link.Next text) = refl
link-token items (link.Delta text) = refl

last-link : (l : PageLink) → taken_of l ≡ Last → (text : List ℕ) × (l ≡ link.Delta text)
last-link (link.Next text) is = absurd (cc is)
last-link (link.Delta text) is = (text, refl)

page-after : (mirror : Pulled) (page : Page) (k next : Known) → HasAnswer mirror.token (reply.Page page) k next → IsTaken (after_page mirror page) k next
page-after mirror page k next has = record {
  underway = record { token_is = has.token_is ∙ sym (link-token (with_records mirror.items page.items) page.link); keeps = keeps-answer mirror.token (reply.Page page) k next has };
  there = has.there;
}

answer-on : (mirror : Pulled) (said : Reply) (w : World) (k : Known) (more : List Event) → IsAnswer mirror said w k more → IsPull w.drive mirror → IsPull (now w more).drive (after_answer mirror said)
answer-on mirror said w k more has pull =
    subst (λ log. IsPull log (after_answer mirror said)) (sym has.grown)
    (pull-goes-on has.drive mirror (after_answer mirror said) (Ask Own (Delta mirror.token) true true) (has.pull pull) (refl, has.size, has.least, has.most, ap (after_answer mirror) has.reply_is))

page-ended : (mirror : Pulled) (page : Page) (w : World) (k : Known) (more : List Event) → IsAnswer mirror (reply.Page page) w k more → taken_of page.link ≡ Last → IsPull w.drive mirror
    → HasEnded (after_page mirror page) w (learned w k more)
page-ended mirror page w k more has is pull =
    let end = last-link page.link is in
    record {
      part = has.before;
      drive = has.drive;
      grown = has.drive_is;
      drive_is = has.pulled ∙ ap (pulled_to has.drive) end.1;
      before = mirror;
      pull = has.pull pull;
      page = page;
      last = record { size = has.size; given = has.reply_is; end = end.0; link_is = end.1 };
      mirror_is = refl;
    }

page-fact : (mirror : Pulled) (page : Page) (w : World) (k : Known) (more : List Event) → HasAnswer mirror.token (reply.Page page) k (learned w k more) → IsAnswer mirror (reply.Page page) w k more
    → Took mirror (after_page mirror page) (taken_of page.link) w k more
page-fact mirror page w k more after has = record {
  underway = record { pull = answer-on mirror (reply.Page page) w k more has; image = empties-quiet w k more after.image has.told };
  last = page-ended mirror page w k more has;
}

pub page-taken : {S : Type 0} {o : Seen S} {a b : S} (mirror : Pulled) (page : Page)
    → Runs o (AsksNext mirror.token) (HasAnswer mirror.token (reply.Page page)) (IsAnswer mirror (reply.Page page)) (PullCause (Ok (reply.Page page))) a b
    → Runs o (AsksNext mirror.token) (IsTaken (after_page mirror page)) (Took mirror (after_page mirror page) (taken_of page.link)) (PullCause (Ok (taken_of page.link))) a b
page-taken mirror page runs =
    runs-by runs (λ cause. cause) (λ k asks. asks) (λ w k more known legal asks after has. (page-after mirror page k (learned w k more) after, page-fact mirror page w k more after has))

-- the memory for it is wanting
pub page-untaken : {S : Type 0} {o : Seen S} {a b : S} (mirror : Pulled) (said : Reply)
    → Runs o (AsksNext mirror.token) (HasAnswer mirror.token said) (IsAnswer mirror said) (PullCause (Ok said)) a b
    → Runs o (AsksNext mirror.token) (StoppedBy stop.Memory) (StopFact mirror stop.Memory) (StopCause stop.Memory) a b
page-untaken mirror said runs = runs-by runs (λ cause. tt) (λ k asks. asks) (λ w k more known legal asks after has. (keeps-answer mirror.token said k (learned w k more) after, tt))

-- ---- a refusal, which does not come from a drive that is told
refused-never : (mirror : Pulled) (status : ℕ) (code : ErrorCode) (w : World) (k : Known) (more : List Event) → IsAnswer mirror (reply.Refused status code) w k more → IsPull w.drive mirror → ⊥
refused-never mirror status code w k more has pull = absurd (cc (ap is_page_or_gone has.reply_is ∙ pull-answered has.drive mirror has.size (has.pull pull)))

pub refused : {S : Type 0} {o : Seen S} {a b : S} (mirror : Pulled) (status : ℕ) (code : ErrorCode)
    → Runs o (AsksNext mirror.token) (HasAnswer mirror.token (reply.Refused status code)) (IsAnswer mirror (reply.Refused status code)) (PullCause (Ok (reply.Refused status code))) a b
    → Runs o (AsksNext mirror.token) (StoppedBy (stop.Refused status code)) (StopFact mirror (stop.Refused status code)) (StopCause (stop.Refused status code)) a b
refused mirror status code runs =
    runs-by runs (λ cause. cause) (λ k asks. asks)
    (λ w k more known legal asks after has. (keeps-answer mirror.token (reply.Refused status code) k (learned w k more) after, refused-never mirror status code w k more has))

-- ---- beginning anew
record GoneAfter (resync : Resync) (k next : Known) : Type 0 where
  pub token_is : next.feed.token ≡ None
  pub there : next.there ≡ nothing_there
  pub here : next.here ≡ k.here
  pub image : next.image ≡ image_then resync k.image

record GoneFact (mirror : Pulled) (resync : Resync) (w : World) (k : Known) (more : List Event) : Type 0 where
  pub pull : IsPull w.drive mirror → IsPull (now w more).drive (begun [] None)
  pub told : told_to_send w more ≡ is_to_send (reply.Gone resync)

anew : (mirror : Pulled) (resync : Resync) (k mid : Known) → HasAnswer mirror.token (reply.Gone resync) k mid → HasBegunAnew mid
anew mirror resync k mid has = record { begun = has.begun; token_is = has.token_is }

gone-after : (mirror : Pulled) (resync : Resync) (k mid next : Known) → HasAnswer mirror.token (reply.Gone resync) k mid → HasImageThen resync mid next → GoneAfter resync k next
gone-after mirror resync k mid next has then = record {
  token_is = ap (λ (f : Feed). f.token) then.feed ∙ has.token_is;
  there = then.there ∙ has.there;
  here = then.here ∙ has.here;
  image = then.image ∙ ap (image_then resync) has.image;
}

gone-fact : (mirror : Pulled) (resync : Resync) (w : World) (k : Known) (xs ys : List Event) → IsAnswer mirror (reply.Gone resync) w k xs → IsQuiet (now w xs) (learned w k xs) ys → GoneFact mirror resync w k (xs ++ ys)
gone-fact mirror resync w k xs ys has quiet = record {
  pull = λ pull. subst (λ (v : World). IsPull v.drive (begun [] None)) (sym (now-append w xs ys)) (quiet.pull (begun [] None) (answer-on mirror (reply.Gone resync) w k xs has pull));
  told = told-first w xs ys quiet.told ∙ has.told;
}

image-kept : (resync : Resync) (image then : Image) → then ≡ image_then resync image → (then ≡ image) ⊎ (then ≡ empty_image)
image-kept ApplyDifferences image then is = inl is
image-kept UploadDifferences image then is = inr is

image-emptied : (resync : Resync) (image : Image) → image_then resync image ≡ cond (is_to_send (reply.Gone resync)) empty_image image
image-emptied ApplyDifferences image = refl
image-emptied UploadDifferences image = refl

gone-taken : (mirror : Pulled) (resync : Resync) (w : World) (k : Known) (more : List Event) → GoneAfter resync k (learned w k more) → GoneFact mirror resync w k more
    → IsTaken (begun [] None) k (learned w k more) × Took mirror (begun [] None) More w k more
gone-taken mirror resync w k more after fact = (
  record { underway = record { token_is = after.token_is; keeps = record { here = after.here; image = image-kept resync k.image (learned w k more).image after.image } }; there = after.there },
  record {
    underway = record { pull = fact.pull; image = record { image = after.image ∙ image-emptied resync k.image ∙ ap (λ b. cond b empty_image k.image) (sym fact.told) } };
    last = λ is. absurd (cc is);
  },
)

rose-later : (before mid now : Counts) → RoseBy 1 before.link.answers mid.link.answers → NotFewer mid now → RoseBy 1 before.link.answers now.link.answers
rose-later before mid now rose later = let more = later.link.answers in omega (arith, rose, more)

pub gone-anew : {S : Type 0} {o : Seen S} {a b c : S} → AreLaws o → (mirror : Pulled) (resync : Resync)
    → Runs o (AsksNext mirror.token) (HasAnswer mirror.token (reply.Gone resync)) (IsAnswer mirror (reply.Gone resync)) (PullCause (Ok (reply.Gone resync))) a b
    → Runs o HasBegunAnew (HasImageThen resync) IsQuiet (KeepCause {T = Unit {0}} (Ok tt)) b c
    → Runs o (AsksNext mirror.token) (IsTaken (begun [] None)) (Took mirror (begun [] None) More) (PullCause (Ok More)) a c
gone-anew {S} {o} {a} {b} {c} laws mirror resync first second =
    runs-by
    (runs-then {A = GoneAfter resync} {F = GoneFact mirror resync} {C = PullCause (Ok More)} laws first second
    (λ same later one two. rose-later (o.counts a) (o.counts b) (o.counts c) one (laws.goes_later b c second.goes_on)) (λ k mid asks has. anew mirror resync k mid has)
    (λ k mid next asks has then. gone-after mirror resync k mid next has then) (λ w k xs ys asks has quiet. gone-fact mirror resync w k xs ys has quiet))
    (λ cause. cause) (λ k asks. asks) (λ w k more known legal asks after fact. gone-taken mirror resync w k more after fact)

keeper-stopped : (fault : KeeperFault) (k mid : Known) → Keeps k mid → StoppedBy (keeper_stop fault) k mid
keeper-stopped keeper.Failed k mid keeps = keeps
keeper-stopped keeper.Memory k mid keeps = keeps

keeper-fact : (fault : KeeperFault) (mirror : Pulled) (w : World) (k : Known) (more : List Event) → StopFact mirror (keeper_stop fault) w k more
keeper-fact keeper.Failed mirror w k more = tt
keeper-fact keeper.Memory mirror w k more = tt

keeper-cause : (fault : KeeperFault) (reads one : Reading) (before mid now : Counts) → NotFewer before mid → KeepCause {T = Unit {0}} (Err fault) one mid now → StopCause (keeper_stop fault) reads before now
keeper-cause keeper.Failed reads one before mid now later cause = let rose = cause.failed refl in let more = later.keeper in omega (arith, rose, more)
keeper-cause keeper.Memory reads one before mid now later cause = tt

pub gone-stopped : {S : Type 0} {o : Seen S} {a b c : S} → AreLaws o → (mirror : Pulled) (resync : Resync) (fault : KeeperFault)
    → Runs o (AsksNext mirror.token) (HasAnswer mirror.token (reply.Gone resync)) (IsAnswer mirror (reply.Gone resync)) (PullCause (Ok (reply.Gone resync))) a b
    → Runs o HasBegunAnew (λ k next. next ≡ k) IsQuiet (KeepCause {T = Unit {0}} (Err fault)) b c
    → Runs o (AsksNext mirror.token) (StoppedBy (keeper_stop fault)) (StopFact mirror (keeper_stop fault)) (StopCause (keeper_stop fault)) a c
gone-stopped {S} {o} {a} {b} {c} laws mirror resync fault first second =
    runs-then {A = StoppedBy (keeper_stop fault)} {F = StopFact mirror (keeper_stop fault)} {C = StopCause (keeper_stop fault)} laws first second
    (λ same later one two. keeper-cause fault (o.reads a) (o.reads b) (o.counts a) (o.counts b) (o.counts c) later two) (λ k mid asks has. anew mirror resync k mid has)
    (λ k mid next asks has is. keeper-stopped fault k next (subst (Keeps k) (sym is) (keeps-answer mirror.token (reply.Gone resync) k mid has))) (λ w k xs ys asks has quiet. keeper-fact fault mirror w k (xs ++ ys))

-- ---- many answers
abbrev pub Answered : ℕ → Reading → Counts → Counts → Type 0
Answered n reads before now = RoseBy n before.link.answers now.link.answers

pub underway-none : {S : Type 0} {o : Seen S} {a : S} → AreLaws o → (mirror : Pulled) → Runs o (AsksNext mirror.token) (IsUnderway mirror) (Underway mirror mirror) (Answered 0) a a
underway-none laws mirror =
    runs-none laws (omega arith) (λ k asks. record { token_is = asks.asks; keeps = record { here = refl; image = inl refl } }) (λ w k asks. record { pull = λ pull. pull; image = record { image = refl } })

underway-then : (first mirror next : Pulled) (w : World) (k : Known) (xs ys : List Event) → Underway first mirror w k xs → Underway mirror next (now w xs) (learned w k xs) ys → Underway first next w k (xs ++ ys)
underway-then first mirror next w k xs ys one two = record {
  pull = λ pull. subst (λ (v : World). IsPull v.drive next) (sym (now-append w xs ys)) (two.pull (one.pull pull));
  image = empties-then w k xs ys one.image two.image;
}

ended-then : (mirror : Pulled) (w : World) (next : Known) (xs : List Event) → HasEnded mirror (now w xs) next → HasEnded mirror w next
ended-then mirror w next xs ended = record {
  part = steps_in xs ++ ended.part;
  drive = ended.drive;
  grown = ended.grown ∙ ap (λ log. log ++ ended.part) (drive-now w xs) ∙ append_assoc w.drive (steps_in xs) ended.part;
  drive_is = ended.drive_is;
  before = ended.before;
  pull = ended.pull;
  page = ended.page;
  last = ended.last;
  mirror_is = ended.mirror_is;
}

took-then : (first mirror next : Pulled) (taken : Taken) (w : World) (k : Known) (xs ys : List Event) → Underway first mirror w k xs → Took mirror next taken (now w xs) (learned w k xs) ys → Took first next taken w k (xs ++ ys)
took-then first mirror next taken w k xs ys one two = record {
  underway = underway-then first mirror next w k xs ys one two.underway;
  last = λ is pull. subst (HasEnded next w) (sym (learned-append w k xs ys)) (ended-then next w (learned (now w xs) (learned w k xs) ys) xs (two.last is (one.pull pull)));
}

taken-then : (mirror next : Pulled) (k mid then : Known) → IsUnderway mirror k mid → IsTaken next mid then → IsTaken next k then
taken-then mirror next k mid then one two = record { underway = record { token_is = two.underway.token_is; keeps = keeps-then k mid then one.keeps two.underway.keeps }; there = two.there }

pub taken-on : {S : Type 0} {o : Seen S} {a b c : S} → AreLaws o → (n : ℕ) (first mirror next : Pulled) (taken : Taken)
    → Runs o (AsksNext first.token) (IsUnderway mirror) (Underway first mirror) (Answered n) a b → Runs o (AsksNext mirror.token) (IsTaken next) (Took mirror next taken) (PullCause (Ok taken)) b c
    → Runs o (AsksNext first.token) (IsTaken next) (Took first next taken) (Answered (n + 1)) a c
taken-on {S} {o} {a} {b} {c} laws n first mirror next taken before one =
    runs-then {A = IsTaken next} {F = Took first next taken} {C = Answered (n + 1)} laws before one (λ same later rose more. omega (arith, rose, more)) (λ k mid asks underway. record { asks = underway.token_is })
    (λ k mid then asks underway took. taken-then mirror next k mid then underway took) (λ w k xs ys asks underway took. took-then first mirror next taken w k xs ys underway took)

-- it goes on
pub underway-on : {S : Type 0} {o : Seen S} {a b : S} (n : ℕ) (first next : Pulled) (taken : Taken) → Runs o (AsksNext first.token) (IsTaken next) (Took first next taken) (Answered n) a b
    → Runs o (AsksNext first.token) (IsUnderway next) (Underway first next) (Answered n) a b
underway-on n first next taken runs = runs-so runs (λ cause. cause) (λ k asks. asks) (λ k then asks took. took.underway) (λ w k more asks took. took.underway)

-- it ends
pub taken-all : {S : Type 0} {o : Seen S} {a b : S} (n : ℕ) (first next : Pulled) → Runs o (AsksNext first.token) (IsTaken next) (Took first next Last) (Answered (n + 1)) a b
    → Runs o (AsksNext first.token) (IsTaken next) (Took first next Last) (PullCause {T = Unit {0}} (Ok tt)) a b
taken-all n first next runs = runs-so runs (λ cause. omega (arith, cause)) (λ k asks. asks) (λ k then asks took. took) (λ w k more asks took. took)

-- it has no end
pub endless : {S : Type 0} {o : Seen S} {a b : S} (n : ℕ) (first mirror : Pulled) → 4096 ≤ n → Runs o (AsksNext first.token) (IsUnderway mirror) (Underway first mirror) (Answered n) a b
    → Runs o (AsksNext first.token) (StoppedBy stop.Endless) (StopFact first stop.Endless) (StopCause stop.Endless) a b
endless n first mirror most runs = runs-so runs (λ cause. omega (arith, cause, most)) (λ k asks. asks) (λ k then asks underway. underway.keeps) (λ w k more asks underway. underway.image)

-- it stops
pub stopped-then : (of : PullStop) (k mid next : Known) → Keeps k mid → StoppedBy of mid next → StoppedBy of k next
stopped-then stop.LinkFault k mid next keeps is = keeps-then k mid next keeps is
stopped-then stop.Unserved k mid next keeps is = keeps-then k mid next keeps is
stopped-then (stop.BadReply bytes) k mid next keeps is = is
stopped-then (stop.Refused status code) k mid next keeps is = keeps-then k mid next keeps is
stopped-then (stop.BadPages id) k mid next keeps is = keeps-then k mid next keeps is
stopped-then stop.Endless k mid next keeps is = keeps-then k mid next keeps is
stopped-then stop.KeeperFault k mid next keeps is = keeps-then k mid next keeps is
stopped-then stop.Memory k mid next keeps is = keeps-then k mid next keeps is

fact-then : (of : PullStop) (first mirror : Pulled) (w : World) (k : Known) (xs ys : List Event) → Underway first mirror w k xs → StopFact mirror of (now w xs) (learned w k xs) ys → StopFact first of w k (xs ++ ys)
fact-then stop.LinkFault first mirror w k xs ys one two = empties-then w k xs ys one.image two
fact-then stop.Unserved first mirror w k xs ys one two = empties-then w k xs ys one.image two
fact-then (stop.BadReply bytes) first mirror w k xs ys one two = tt
fact-then (stop.Refused status code) first mirror w k xs ys one two = λ pull. two (one.pull pull)
fact-then (stop.BadPages id) first mirror w k xs ys one two = λ pull. two (one.pull pull)
fact-then stop.Endless first mirror w k xs ys one two = empties-then w k xs ys one.image two
fact-then stop.KeeperFault first mirror w k xs ys one two = tt
fact-then stop.Memory first mirror w k xs ys one two = tt

came-bad : (bytes : List ℕ) (reads one : Reading) (now : AskCounts) → AreSame reads one → CameBad bytes one now → CameBad bytes reads now
came-bad bytes reads one now same bad = record {
  request = bad.request;
  before = bad.before;
  came = record { unread = λ said read. bad.came.unread said (same.still (kind_of bad.request) bytes said read); came = bad.came.came };
}

pub cause-then : (of : PullStop) (reads one : Reading) (before mid now : Counts) → AreSame reads one → NotFewer before mid → StopCause of one mid now → StopCause of reads before now
cause-then stop.LinkFault reads one before mid now same later cause = let more = later.link.faults in let rose = cause.faults in record { faults = omega (arith, rose, more); in_row = cause.in_row }
cause-then stop.Unserved reads one before mid now same later cause =
    let more = later.link.faults in
    let answers = later.link.answers in
    let rose = cause.faults in
    let answered = cause.answers in
    record { replies = cause.replies; some = cause.some; few = cause.few; answers = omega (arith, answered, answers); faults = omega (arith, rose, more) }
cause-then (stop.BadReply bytes) reads one before mid now same later cause = came-bad bytes reads one now.link same cause
cause-then (stop.Refused status code) reads one before mid now same later cause = let more = later.link.answers in omega (arith, cause, more)
cause-then (stop.BadPages id) reads one before mid now same later cause = let more = later.link.answers in omega (arith, cause, more)
cause-then stop.Endless reads one before mid now same later cause = let more = later.link.answers in omega (arith, cause, more)
cause-then stop.KeeperFault reads one before mid now same later cause = let more = later.keeper in omega (arith, cause, more)
cause-then stop.Memory reads one before mid now same later cause = tt

pub stopped-on : {S : Type 0} {o : Seen S} {a b c : S} → AreLaws o → (n : ℕ) (first mirror : Pulled) (of : PullStop)
    → Runs o (AsksNext first.token) (IsUnderway mirror) (Underway first mirror) (Answered n) a b → Runs o (AsksNext mirror.token) (StoppedBy of) (StopFact mirror of) (StopCause of) b c
    → Runs o (AsksNext first.token) (StoppedBy of) (StopFact first of) (StopCause of) a c
stopped-on {S} {o} {a} {b} {c} laws n first mirror of before one =
    runs-then {A = StoppedBy of} {F = StopFact first of} {C = StopCause of} laws before one (λ same later rose cause. cause-then of (o.reads a) (o.reads b) (o.counts a) (o.counts b) (o.counts c) same later cause)
    (λ k mid asks underway. record { asks = underway.token_is }) (λ k mid next asks underway is. stopped-then of k mid next underway.keeps is) (λ w k xs ys asks underway fact. fact-then of first mirror w k xs ys underway fact)

-- ---- what the pages make
last-token : (items : List (ℕ × Item)) (l : PageLink) (text : List ℕ) → l ≡ link.Delta text → (after_link items l).token ≡ (after_link items l).last
last-token items (link.Next other) text is = absurd (cc is)
last-token items (link.Delta other) text is = refl

viewed : (mirror : Pulled) (view : MirrorView) (w : World) (k next : Known) → IsView mirror view → IsTaken mirror k next → HasEnded mirror w next → IsViewNow view w next
viewed mirror view w k next is taken ended =
    let seen = subst (λ (m : Pulled). IsView m view) ended.mirror_is is in
    let page_token : (after_page ended.before ended.page).token ≡ (after_page ended.before ended.page).last = last-token (with_records ended.before.items ended.page.items) ended.page.link ended.last.end ended.last.link_is in
    record {
      part = ended.part;
      drive = ended.drive;
      grown = ended.grown;
      drive_is = ended.drive_is;
      token_is = taken.underway.token_is ∙ ap (λ (m : Pulled). m.token) ended.mirror_is ∙ page_token ∙ sym seen.token;
      sound = pages-sound ended.drive ended.page ended.before ended.pull ended.last view seen;
      now_is = pages-token ended.drive ended.page ended.before ended.pull ended.last view seen;
    }

pub over-view : {S : Type 0} {o : Seen S} {a b : S} (first mirror : Pulled) (view : MirrorView) → IsView mirror view
    → Runs o (AsksNext first.token) (IsTaken mirror) (Took first mirror Last) (PullCause {T = Unit {0}} (Ok tt)) a b
    → Runs o (AsksNext first.token) (KeepsView) (ViewsNow first view) (PullCause (Ok view)) a b
over-view first mirror view is runs =
    runs-by runs (λ cause. cause) (λ k asks. asks)
    (λ w k more known legal asks taken took. (
      record { keeps = taken.underway.keeps; there = taken.there },
      record { view_is = λ pull. viewed mirror view w k (learned w k more) is taken (took.last refl pull); image = took.underway.image },
    ))

over-bad : {S : Type 0} {o : Seen S} {a b : S} (first mirror : Pulled) (id : ItemId) → IsLeastBad (nodes (values_of mirror.items)) id.0
    → Runs o (AsksNext first.token) (IsTaken mirror) (Took first mirror Last) (PullCause {T = Unit {0}} (Ok tt)) a b
    → Runs o (AsksNext first.token) (StoppedBy (stop.BadPages id)) (StopFact first (stop.BadPages id)) (StopCause (stop.BadPages id)) a b
over-bad first mirror id bad runs =
    runs-by runs (λ cause. cause) (λ k asks. asks)
    (λ w k more known legal asks taken took. (
      taken.underway.keeps,
      λ pull.
          let ended = took.last refl pull in
          pages-never-bad ended.drive ended.page ended.before ended.pull ended.last id.0 (subst (λ (m : Pulled). IsLeastBad (nodes (values_of m.items)) id.0) ended.mirror_is bad),
    ))

pub over-fails : {S : Type 0} {o : Seen S} {a b : S} (first mirror : Pulled) (fault : PullFault)
    → ((n : ℕ) → IsErrOf {T = MirrorView} (Err fault) (page.BadPages (item_id n)) → IsLeastBad (nodes (values_of mirror.items)) n)
    → Runs o (AsksNext first.token) (IsTaken mirror) (Took first mirror Last) (PullCause {T = Unit {0}} (Ok tt)) a b
    → Runs o (AsksNext first.token) (StoppedBy (page_stop fault)) (StopFact first (page_stop fault)) (StopCause (page_stop fault)) a b
over-fails first mirror (page.BadPages id) bad runs = over-bad first mirror id (bad id.0 refl) runs
over-fails first mirror page.Memory bad runs = runs-by runs (λ cause. tt) (λ k asks. asks) (λ w k more known legal asks taken took. (taken.underway.keeps, tt))

-- ---- the pull
begins : (items : List Item) (token : Option (List ℕ)) (w : World) (k : Known) → IsKnown w k → BeginsPull items token k → IsPull w.drive (begun items token)
begins items token w k known is =
    pull-begins w.drive items token
    (subst (λ xs. ItemsAre xs w.drive token) (sym is.items_are) (subst (λ t. ItemsAre k.image.items w.drive t) (sym is.token_is) known.good.image.items))

pub asks-begun : (items : List Item) (token : Option (List ℕ)) (k : Known) → BeginsPull items token k → AsksNext (begun items token).token k
asks-begun items token k is = record { asks = is.asks }

-- the items of a view whose token stands at the drive's number are the drive's
pub items-now : (drive : List Step) (items : List Item) (text : List ℕ) → ItemsAre items drive (Some text) → IsTokenNow drive text → AreItemsOf (state_of drive).plain items (records_of (held_by drive))
items-now drive items text are at =
    let token : Token = record { epoch = (state_of drive).epoch; position = number_of drive; start = at.start } in
    let number = number-fits drive in
    let low = at.low in
    let read : token_of_text text ≡ Some token = ap token_of_text at.is ∙ token-read token (epoch-fits drive) number (omega (arith, number, low)) in
    let pulled = subst (TokenIs items drive) read are in
    subst (λ held. AreItemsOf (state_of drive).plain items (records_of held)) (held_at-now drive) pulled.items_then

pub pulled-now : (view : MirrorView) (w : World) (next : Known) → IsViewNow view w next → next.there ≡ nothing_there → IsPulledView view next
pulled-now view w next is there = record { drive = is.drive; drive_is = is.drive_is; token_is = is.token_is; items = items-now is.drive view.items view.token is.sound is.now_is; there = there }

-- a view as it was pulled, with what its parts say of it
pub record PulledNow (view : MirrorView) (w : World) (k : Known) (more : List Event) : Type 0 where
  pub view_is : IsViewNow view w (learned w k more)
  pub image : EmptiesImage w k more

pub pull-views : {S : Type 0} {o : Seen S} {a b : S} (items : List Item) (token : Option (List ℕ)) (view : MirrorView)
    → Runs o (AsksNext (begun items token).token) KeepsView (ViewsNow (begun items token) view) (PullCause (Ok view)) a b → Runs o (BeginsPull items token) KeepsView (PulledNow view) (PullCause (Ok view)) a b
pull-views items token view runs =
    runs-by runs (λ cause. cause) (asks-begun items token)
    (λ w k more known legal at keeps views. (keeps, record { view_is = views.view_is (begins items token w k known at); image = views.image }))

pub pull-says : {S : Type 0} {o : Seen S} {a b : S} (items : List Item) (token : Option (List ℕ)) (view : MirrorView)
    → Runs o (BeginsPull items token) KeepsView (PulledNow view) (PullCause (Ok view)) a b → Runs o (BeginsPull items token) (PulledBy (Ok view)) (BaseBy (Ok view)) (PullCause (Ok view)) a b
pull-says items token view runs =
    runs-by runs (λ cause. cause) (λ k at. at) (λ w k more known legal at keeps pulled. ((pulled-now view w (learned w k more) pulled.view_is keeps.there, keeps.keeps), pulled.image))

stops : (of : PullStop) (first : Pulled) (w : World) (k : Known) (more : List Event) → IsPull w.drive first → StoppedBy of k (learned w k more) → StopFact first of w k more
    → PulledBy (Err of) k (learned w k more) × BaseBy (Err of) w k more
stops stop.LinkFault first w k more pull keeps fact = (keeps, fact)
stops stop.Unserved first w k more pull keeps fact = (keeps, fact)
stops (stop.BadReply bytes) first w k more pull never fact = (never, tt)
stops (stop.Refused status code) first w k more pull keeps fact = (fact pull, tt)
stops (stop.BadPages id) first w k more pull keeps fact = (fact pull, tt)
stops stop.Endless first w k more pull keeps fact = (keeps, fact)
stops stop.KeeperFault first w k more pull keeps fact = (keeps, tt)
stops stop.Memory first w k more pull keeps fact = (keeps, tt)

pub pull-stops : {S : Type 0} {o : Seen S} {a b : S} (items : List Item) (token : Option (List ℕ)) (of : PullStop)
    → Runs o (AsksNext (begun items token).token) (StoppedBy of) (StopFact (begun items token) of) (StopCause of) a b
    → Runs o (BeginsPull items token) (PulledBy (Err of)) (BaseBy (Err of)) (PullCause {T = MirrorView} (Err of)) a b
pull-stops items token of runs =
    runs-by runs (λ cause. cause) (asks-begun items token) (λ w k more known legal at is fact. stops of (begun items token) w k more (begins items token w k known at) is fact)

pub pull-ends : {S : Type 0} {o : Seen S} {a b : S} (items : List Item) (token : Option (List ℕ)) (result : Result MirrorView PullStop)
    → Runs o (AsksNext (begun items token).token) (ViewsBy result) (ViewFact (begun items token) result) (PullCause result) a b
    → Runs o (BeginsPull items token) (PulledBy result) (BaseBy result) (PullCause result) a b
pull-ends items token (Ok view) runs = pull-says items token view (pull-views items token view runs)
pull-ends items token (Err of) runs = pull-stops items token of runs
