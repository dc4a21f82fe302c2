-- A pull, what is learned of its files, and a second pull.
use Rattle.std.proofs.Common.{◌≡◌, ℕ, ◌+◌, ◌<◌, Bool, true, false, ◌&&◌, cond, nat_eq, List, [], ◌∷◌, ◌++◌, get_or, length, map, take, Option, Some, Ok, Err, refl, ap, sym, subst, ◌∙◌, append_assoc, arith}
use Rattle.std.proofs.lemmas.Bool.{and_parts}
use Rattle.std.proofs.lemmas.List.{take_more}
use Rattle.std.specs.Cmp.Lexicographic.{pointwise}
use Rattle.std.specs.List.{AllByRecursion}
use Rattle.gd_names.proofs.Each.{each, each-so}
use Rattle.gd_item.specs.Records.{record_of, records_of}
use Rattle.gd_item.specs.Sound.{IsWithin}
use Rattle.gd_item.specs.Steps.{held_by, state_of}
use Rattle.gd_item.specs.Views.{AreItemsOf, IsItemOf, ItemsAre}
use Rattle.gd_item.specs.declared.id.ItemId.{ItemId}
use Rattle.gd_item.specs.declared.item.Item.{Item}
use Rattle.gd_item.specs.declared.item.Tag.{Tag}
use Rattle.gd_item.specs.declared.live.LiveItem.{LiveItem}
use Rattle.gd_item.specs.declared.step.Step.{Step}
use Rattle.gd_item.proofs.Views.{items-later}
use Rattle.gd_laws.proofs.Every.{every-drive}
use Rattle.gd_item.specs.Nodes.{Node, is_folder_kind, item_node}
use Rattle.gd_item.specs.declared.digest.Digest.{Digest}
use Rattle.gd_item.specs.declared.item.Kind.{Kind}
use Rattle.gd_item.specs.declared.item.Kind.TheVariants.{Folder, File, Bare, Deleted}
use Rattle.od_mirror.specs.Digests.{bare_of, is_bare_kind, is_unknown, learned as learned_item}
use Rattle.od_mirror.specs.Pulled.{begun, nodes}
use Rattle.od_mirror.specs.declared.view.MirrorView.{MirrorView}
use Rattle.od_outside.specs.Running.{Free, IsKnown, Runs, Stays}
use Rattle.od_outside.specs.Seeing.{AreLaws, Seen}
use Rattle.od_outside.proofs.Glue.{runs-by, runs-so, runs-then}
use Rattle.od_outside.proofs.Knowing.{known-run}
use Rattle.od_pages.specs.Pulls.{IsDigestThere, IsPull, IsTokenNow}
use Rattle.od_pages.proofs.Learning.{learned-sound}
use Rattle.od_pages.proofs.Pulling.{pull-begins}
use Rattle.od_pages.proofs.Shown.{same-etag, same-id}
use Rattle.od_run.specs.Acting.{LegalFrom}
use Rattle.od_run.specs.Good.{IfPulled, IsPulledAt}
use Rattle.od_run.specs.Knowing.{Known, learned}
use Rattle.od_run.specs.Worlds.{World, Event, now, steps_in}
use Rattle.od_run.proofs.Legal.{learned-append, now-append}
use Rattle.od_pull.specs.Digests.{AreLearned, HaveNumbers, IsEarly, IsRight, IsStill, StopsStill, with_learned}
use Rattle.od_pull.specs.Parts.{AsksNext, IsViewNow, KeepsView, StopFact, StoppedBy, ViewsNow}
use Rattle.od_pull.specs.Pulls.{BaseBy, BeginsPull, EmptiesImage, Keeps, PullCause, PulledBy, StopCause}
use Rattle.od_pull.specs.declared.learning.Learned.{Learned}
use Rattle.od_pull.specs.declared.stop.PullStop.{PullStop}
use Rattle.od_pull.specs.declared.stop.PullStop.TheVariants as stop
use Rattle.od_pull.proofs.Quiet.{drive-now, empties-quiet, empties-then}
use Rattle.od_pull.proofs.Taking.{PulledNow, cause-then, items-now, keeps-then, stopped-then}

-- ---- the files without a digest
pub record IsSeen (drive : List Step) (id : ItemId) (etag : Tag) : Type 0 where
  pub above : 0 < id.0
  pub early : IsEarly drive etag

abbrev SeesRecord : List Step → Item → Type 0
SeesRecord drive whole = IsSeen drive whole.id whole.etag

records-seen : (drive : List Step) (all items : List LiveItem) → AllByRecursion (IsWithin (held_by drive)) items → AllByRecursion (SeesRecord drive) (map (record_of all) items)
records-seen drive all [] within = tt
records-seen drive all (item ∷ items) within =
    let above = within.0.above in
    (record { above = omega (arith, above); early = record { change = item.change; done = within.0.done; is = refl } }, records-seen drive all items within.1)

drive-seen : (drive : List Step) → AllByRecursion (SeesRecord drive) (records_of (held_by drive))
drive-seen drive =
    let every = every-drive drive in
    let begun_is = every.begun in (
      record { above = omega arith; early = record { change = 1; done = omega (arith, begun_is); is = refl } },
      records-seen drive (held_by drive).items (held_by drive).items (each (IsWithin (held_by drive)) (held_by drive).items every.tree.within),
    )

item-seen : (plain : Bool) (drive : List Step) (item whole : Item) → SeesRecord drive whole → IsItemOf plain item whole → IsSeen drive item.id item.etag
item-seen plain drive item whole seen is =
    subst (λ (id : ItemId). IsSeen drive id item.etag) (sym (same-id plain item whole is)) (subst (IsSeen drive whole.id) (sym (same-etag plain item whole is)) seen)

abbrev SeesFile : List Step → ItemId × Tag → Type 0
SeesFile drive file = IsSeen drive file.0 file.1

bare-more : (drive : List Step) (b : Bool) (id : ItemId) (etag : Tag) (rest : List (ItemId × Tag)) → IsSeen drive id etag → AllByRecursion (SeesFile drive) rest → AllByRecursion (SeesFile drive) (cond b ((id, etag) ∷ rest) rest)
bare-more drive true id etag rest seen all = (seen, all)
bare-more drive false id etag rest seen all = all

bare-seen : (plain : Bool) (drive : List Step) (items records : List Item) → AllByRecursion (SeesRecord drive) records → AreItemsOf plain items records → AllByRecursion (SeesFile drive) (bare_of items)
bare-seen plain drive [] [] seen are = tt
bare-seen plain drive [] (whole ∷ records) seen are = tt
bare-seen plain drive (item ∷ items) [] seen are = absurd are
bare-seen plain drive (item ∷ items) (whole ∷ records) seen are =
    bare-more drive (is_bare_kind item.kind) item.id item.etag (bare_of items) (item-seen plain drive item whole seen.0 are.0) (bare-seen plain drive items records seen.1 are.1)

view-seen : (view : MirrorView) (w : World) (next : Known) → (is : IsViewNow view w next) → AllByRecursion (SeesFile is.drive) (bare_of view.items)
view-seen view w next is = bare-seen (state_of is.drive).plain is.drive view.items (records_of (held_by is.drive)) (drive-seen is.drive) (items-now is.drive view.items view.token is.sound is.now_is)

-- ---- after the first pull
pub record HasView (view : MirrorView) (k next : Known) : Type 0 where
  pub keeps : KeepsView k next
  pub numbers : HaveNumbers (bare_of view.items) next
  pub token_is : next.feed.token ≡ Some view.token

pub record GoesOn (view : MirrorView) (w : World) (k : Known) (more : List Event) : Type 0 where
  pub image : EmptiesImage w k more
  pub first : List Step
  pub part : List Step
  pub grown : (now w more).drive ≡ first ++ part
  pub early : AllByRecursion (λ (file : ItemId × Tag). IsEarly first file.1) (bare_of view.items)
  pub pull : IsPull (now w more).drive (begun view.items (Some view.token))

pulled-grown : (drive : List Step) (token : Option (List ℕ)) (pulled : Option (List Step)) (first : List Step) → pulled ≡ Some first → IfPulled (IsPulledAt drive token) pulled → (part : List Step) × (drive ≡ first ++ part)
pulled-grown drive token pulled first is holds = let at = subst (IfPulled (IsPulledAt drive token)) is holds in (at.more, at.grown)

first-goes : (view : MirrorView) (w : World) (k : Known) (more : List Event) → IsKnown w k → LegalFrom w k more → KeepsView k (learned w k more) → PulledNow view w k more → HasView view k (learned w k more) × GoesOn view w k more
first-goes view w k more known legal keeps pulled =
    let is = pulled.view_is in
    let seen = view-seen view w (learned w k more) is in
    let then = known-run w k more known legal in
    let grown = pulled-grown (now w more).drive (learned w k more).feed.token (learned w k more).feed.pulled is.drive is.drive_is then.good.feed.pulled in (
      record { keeps = keeps; numbers = each-so (SeesFile is.drive) (λ (file : ItemId × Tag). 0 < file.0.0) (λ file one. one.above) (bare_of view.items) seen; token_is = is.token_is },
      record {
        image = pulled.image;
        first = is.drive;
        part = grown.0;
        grown = grown.1;
        early = each-so (SeesFile is.drive) (λ (file : ItemId × Tag). IsEarly is.drive file.1) (λ file one. one.early) (bare_of view.items) seen;
        pull = pull-begins (now w more).drive view.items (Some view.token)
            (subst (λ log. ItemsAre view.items log (Some view.token)) (sym grown.1) (items-later view.items (Some view.token) is.drive grown.0 is.sound));
      },
    )

pub goes-on : {S : Type 0} {o : Seen S} {a b : S} (items : List Item) (token : Option (List ℕ)) (view : MirrorView)
    → Runs o (BeginsPull items token) KeepsView (PulledNow view) (PullCause (Ok view)) a b → Runs o (BeginsPull items token) (HasView view) (GoesOn view) (PullCause (Ok view)) a b
goes-on items token view runs = runs-by runs (λ cause. cause) (λ k at. at) (λ w k more known legal at keeps pulled. first-goes view w k more known legal keeps pulled)

pub view-memory : {S : Type 0} {o : Seen S} {a b : S} (items : List Item) (token : Option (List ℕ)) (view : MirrorView) → Runs o (BeginsPull items token) (HasView view) (GoesOn view) (PullCause (Ok view)) a b
    → Runs o (BeginsPull items token) (PulledBy (Err stop.Memory)) (BaseBy (Err stop.Memory)) (PullCause {T = MirrorView} (Err stop.Memory)) a b
view-memory items token view runs = runs-so runs (λ cause. tt) (λ k at. at) (λ k next at has. has.keeps.keeps) (λ w k more at goes. tt)

-- ---- after what was learned
pub record GoesOnWith (view : MirrorView) (all : List Learned) (w : World) (k : Known) (more : List Event) : Type 0 where
  pub image : EmptiesImage w k more
  pub pull : IsPull (now w more).drive (begun view.items (Some view.token))
  pub right : AllByRecursion (IsRight (now w more).drive) all

record LearnsStill (bare : List (ItemId × Tag)) (all : List Learned) (w : World) (k : Known) (more : List Event) : Type 0 where
  pub learned : AreLearned bare all w k more
  pub image : EmptiesImage w k more

still-empties : (w : World) (k : Known) (more : List Event) → learned w k more ≡ k → IsStill w k more → EmptiesImage w k more
still-empties w k more same still = empties-quiet w k more (ap (λ (next : Known). next.image) same) still.quiet.told

learns-still : {S : Type 0} {o : Seen S} {a b : S} (bare : List (ItemId × Tag)) (all : List Learned) → Runs o (HaveNumbers bare) Stays (AreLearned bare all) Free a b → Runs o (HaveNumbers bare) Stays (LearnsStill bare all) Free a b
learns-still bare all runs = runs-by runs (λ cause. cause) (λ k have. have) (λ w k more known legal have same are. (same, record { learned = are; image = still-empties w k more same are.still }))

with-right : (view : MirrorView) (all : List Learned) (w : World) (k : Known) (xs ys : List Event) → GoesOn view w k xs → LearnsStill (bare_of view.items) all (now w xs) (learned w k xs) ys → GoesOnWith view all w k (xs ++ ys)
with-right view all w k xs ys goes learns = record {
  image = empties-then w k xs ys goes.image learns.image;
  pull = subst (λ (v : World). IsPull v.drive (begun view.items (Some view.token))) (sym (now-append w xs ys)) (learns.learned.still.quiet.pull (begun view.items (Some view.token)) goes.pull);
  right = subst (λ (v : World). AllByRecursion (IsRight v.drive) all) (sym (now-append w xs ys)) (learns.learned.right goes.first goes.part goes.grown goes.early);
}

pub goes-with : {S : Type 0} {o : Seen S} {a b c : S} → AreLaws o → (items : List Item) (token : Option (List ℕ)) (view : MirrorView) (all : List Learned) → Runs o (BeginsPull items token) (HasView view) (GoesOn view) (PullCause (Ok view)) a b
    → Runs o (HaveNumbers (bare_of view.items)) Stays (AreLearned (bare_of view.items) all) Free b c → Runs o (BeginsPull items token) (HasView view) (GoesOnWith view all) Free a c
goes-with laws items token view all first second =
    runs-then {A = HasView view} {F = GoesOnWith view all} {C = Free} laws first (learns-still (bare_of view.items) all second) (λ same later one two. tt) (λ k mid at has. has.numbers)
    (λ k mid next at has is. subst (HasView view k) (sym is) has) (λ w k xs ys at goes learns. with-right view all w k xs ys goes learns)

-- ---- where learning stops
still-keeps : (of : PullStop) (k mid next : Known) → Keeps k mid → StopsStill of mid next → PulledBy (Err of) k next
still-keeps stop.LinkFault k mid next keeps is = subst (Keeps k) (sym is) keeps
still-keeps stop.Unserved k mid next keeps is = absurd is
still-keeps (stop.BadReply bytes) k mid next keeps is = absurd is
still-keeps (stop.Refused status code) k mid next keeps is = absurd is
still-keeps (stop.BadPages id) k mid next keeps is = absurd is
still-keeps stop.Endless k mid next keeps is = absurd is
still-keeps stop.KeeperFault k mid next keeps is = absurd is
still-keeps stop.Memory k mid next keeps is = subst (Keeps k) (sym is) keeps

stop-empties : (of : PullStop) (w : World) (k : Known) (more : List Event) → StopsStill of k (learned w k more) → IsStill w k more → EmptiesImage w k more
stop-empties stop.LinkFault w k more is still = still-empties w k more is still
stop-empties stop.Unserved w k more is still = absurd is
stop-empties (stop.BadReply bytes) w k more is still = absurd is
stop-empties (stop.Refused status code) w k more is still = absurd is
stop-empties (stop.BadPages id) w k more is still = absurd is
stop-empties stop.Endless w k more is still = absurd is
stop-empties stop.KeeperFault w k more is still = absurd is
stop-empties stop.Memory w k more is still = still-empties w k more is still

base-empties : (of : PullStop) (w : World) (k : Known) (more : List Event) → EmptiesImage w k more → BaseBy (Err of) w k more
base-empties stop.LinkFault w k more image = image
base-empties stop.Unserved w k more image = image
base-empties (stop.BadReply bytes) w k more image = tt
base-empties (stop.Refused status code) w k more image = tt
base-empties (stop.BadPages id) w k more image = tt
base-empties stop.Endless w k more image = image
base-empties stop.KeeperFault w k more image = tt
base-empties stop.Memory w k more image = tt

pub learning-ends : {S : Type 0} {o : Seen S} {a b c : S} → AreLaws o → (items : List Item) (token : Option (List ℕ)) (view : MirrorView) (of : PullStop) → Runs o (BeginsPull items token) (HasView view) (GoesOn view) (PullCause (Ok view)) a b
    → Runs o (HaveNumbers (bare_of view.items)) (StopsStill of) IsStill (StopCause of) b c → Runs o (BeginsPull items token) (PulledBy (Err of)) (BaseBy (Err of)) (PullCause {T = MirrorView} (Err of)) a c
learning-ends {S} {o} {a} {b} {c} laws items token view of first second =
    runs-then {A = PulledBy (Err of)} {F = BaseBy (Err of)} {CauseTwo = StopCause of} {C = PullCause {T = MirrorView} (Err of)} laws first
    (runs-by {After' = StopsStill of} {Fact' = EmptiesImage} second (λ cause. cause) (λ k have. have) (λ w k more known legal have is still. (is, stop-empties of w k more is still)))
    (λ same later one two. cause-then of (o.reads a) (o.reads b) (o.counts a) (o.counts b) (o.counts c) same later two) (λ k mid at has. has.numbers)
    (λ k mid next at has is. still-keeps of k mid next has.keeps.keeps is) (λ w k xs ys at goes image. base-empties of w k (xs ++ ys) (empties-then w k xs ys goes.image image))

-- ---- the second pull
-- what its end says of the image, where the drive is told
abbrev EndsBy : PullStop → World → Known → List Event → Type 0
EndsBy stop.LinkFault w k more = EmptiesImage w k more
EndsBy stop.Unserved w k more = EmptiesImage w k more
EndsBy (stop.BadReply bytes) w k more = Unit {0}
EndsBy (stop.Refused status code) w k more = ⊥
EndsBy (stop.BadPages id) w k more = ⊥
EndsBy stop.Endless w k more = EmptiesImage w k more
EndsBy stop.KeeperFault w k more = Unit {0}
EndsBy stop.Memory w k more = Unit {0}

over-keeps : (of : PullStop) (view : MirrorView) (all : List Learned) (w : World) (k : Known) (xs ys : List Event) → GoesOnWith view all w k xs → StopFact (begun view.items (Some view.token)) of (now w xs) (learned w k xs) ys → EndsBy of w k (xs ++ ys)
over-keeps stop.LinkFault view all w k xs ys goes fact = empties-then w k xs ys goes.image fact
over-keeps stop.Unserved view all w k xs ys goes fact = empties-then w k xs ys goes.image fact
over-keeps (stop.BadReply bytes) view all w k xs ys goes fact = tt
over-keeps (stop.Refused status code) view all w k xs ys goes fact = fact goes.pull
over-keeps (stop.BadPages id) view all w k xs ys goes fact = fact goes.pull
over-keeps stop.Endless view all w k xs ys goes fact = empties-then w k xs ys goes.image fact
over-keeps stop.KeeperFault view all w k xs ys goes fact = tt
over-keeps stop.Memory view all w k xs ys goes fact = tt

over-ends : (of : PullStop) (w : World) (k : Known) (more : List Event) → StoppedBy of k (learned w k more) → EndsBy of w k more → PulledBy (Err of) k (learned w k more) × BaseBy (Err of) w k more
over-ends stop.LinkFault w k more keeps ends = (keeps, ends)
over-ends stop.Unserved w k more keeps ends = (keeps, ends)
over-ends (stop.BadReply bytes) w k more never ends = (never, tt)
over-ends (stop.Refused status code) w k more keeps ends = (ends, tt)
over-ends (stop.BadPages id) w k more keeps ends = (ends, tt)
over-ends stop.Endless w k more keeps ends = (keeps, ends)
over-ends stop.KeeperFault w k more keeps ends = (keeps, tt)
over-ends stop.Memory w k more keeps ends = (keeps, tt)

asks-view : (view : MirrorView) (k mid : Known) → HasView view k mid → AsksNext (begun view.items (Some view.token)).token mid
asks-view view k mid has = record { asks = has.token_is }

pub second-ends : {S : Type 0} {o : Seen S} {a b c : S} → AreLaws o → (items : List Item) (token : Option (List ℕ)) (view : MirrorView) (all : List Learned) (of : PullStop) → Runs o (BeginsPull items token) (HasView view) (GoesOnWith view all) Free a b
    → Runs o (AsksNext (begun view.items (Some view.token)).token) (StoppedBy of) (StopFact (begun view.items (Some view.token)) of) (StopCause of) b c
    → Runs o (BeginsPull items token) (PulledBy (Err of)) (BaseBy (Err of)) (PullCause {T = MirrorView} (Err of)) a c
second-ends {S} {o} {a} {b} {c} laws items token view all of first second =
    runs-by
    (runs-then {A = StoppedBy of} {F = EndsBy of} {C = StopCause of} laws first second (λ same later free cause. cause-then of (o.reads a) (o.reads b) (o.counts a) (o.counts b) (o.counts c) same later cause)
    (λ k mid at has. asks-view view k mid has) (λ k mid next at has is. stopped-then of k mid next has.keeps.keeps is) (λ w k xs ys at goes fact. over-keeps of view all w k xs ys goes fact))
    (λ cause. cause) (λ k at. at) (λ w k more known legal at is ends. over-ends of w k more is ends)

-- each right digest keeps the items the drive's
learned-all : (drive : List Step) (token : List ℕ) (now_is : IsTokenNow drive token) (all : List Learned) (items : List Item) → AllByRecursion (λ (one : Learned). IsDigestThere drive one.id one.etag one.digest) all
    → ItemsAre items drive (Some token) → ItemsAre (with_learned all items) drive (Some token)
learned-all drive token now_is [] items right are = are
learned-all drive token now_is (one ∷ all) items right are =
    learned-all drive token now_is all (map (learned_item one.id one.etag one.digest) items) right.1 (learned-sound drive items one.id one.etag one.digest right.0 token now_is are)

view-with : (again whole : MirrorView) (all : List Learned) (w : World) (next : Known) (xs : List Event) → whole.items ≡ with_learned all again.items → whole.token ≡ again.token → AllByRecursion (IsRight (now w xs).drive) all → IsViewNow again (now w xs) next
    → IsViewNow whole w next
view-with again whole all w next xs items_are token_is right is =
    let there = each-so (IsRight (now w xs).drive) (λ (one : Learned). IsDigestThere is.drive one.id one.etag one.digest)
    (λ one from. subst (λ log. IsDigestThere log one.id one.etag one.digest) (sym is.grown) (from is.part)) all right in
    record {
      part = steps_in xs ++ is.part;
      drive = is.drive;
      grown = is.grown ∙ ap (λ log. log ++ is.part) (drive-now w xs) ∙ append_assoc w.drive (steps_in xs) is.part;
      drive_is = is.drive_is;
      token_is = is.token_is ∙ ap (λ t. Some t) (sym token_is);
      sound = subst (λ t. ItemsAre whole.items is.drive (Some t)) (sym token_is)
          (subst (λ xs. ItemsAre xs is.drive (Some again.token)) (sym items_are) (learned-all is.drive again.token is.now_is all again.items there is.sound));
      now_is = subst (IsTokenNow is.drive) (sym token_is) is.now_is;
    }

pub second-views : {S : Type 0} {o : Seen S} {a b c : S} → AreLaws o → (items : List Item) (token : Option (List ℕ)) (view again whole : MirrorView) (all : List Learned) → whole.items ≡ with_learned all again.items → whole.token ≡ again.token
    → Runs o (BeginsPull items token) (HasView view) (GoesOnWith view all) Free a b
    → Runs o (AsksNext (begun view.items (Some view.token)).token) KeepsView (ViewsNow (begun view.items (Some view.token)) again) (PullCause (Ok again)) b c
    → Runs o (BeginsPull items token) KeepsView (PulledNow whole) (PullCause (Ok whole)) a c
second-views {S} {o} {a} {b} {c} laws items token view again whole all items_are token_is first second =
    runs-then {A = KeepsView} {F = PulledNow whole} {C = PullCause (Ok whole)} laws first second (λ same later free rose. let more = later.link.answers in omega (arith, rose, more))
    (λ k mid at has. asks-view view k mid has) (λ k mid next at has is. record { keeps = keeps-then k mid next has.keeps.keeps is.keeps; there = is.there })
    (λ w k xs ys at goes views. record {
      view_is = subst (IsViewNow whole w) (sym (learned-append w k xs ys)) (view-with again whole all w (learned (now w xs) (learned w k xs) ys) xs items_are token_is goes.right (views.view_is goes.pull));
      image = empties-then w k xs ys goes.image views.image;
    })

-- ---- what is learned, one after the other
pub with-one : (all : List Learned) (one : Learned) (items : List Item) → with_learned (all ++ one ∷ []) items ≡ map (learned_item one.id one.etag one.digest) (with_learned all items)
with-one [] one items = refl
with-one (first ∷ all) one items = with-one all one (map (learned_item first.id first.etag first.digest) items)

pub with-next : (all : List Learned) (at : ℕ) (one : Learned) (items before after : List Item) → at < length all → one ≡ get_or all at one → before ≡ with_learned (take at all) items → after ≡ map (learned_item one.id one.etag one.digest) before
    → after ≡ with_learned (take (at + 1) all) items
with-next all at one items before after low is before_is after_is =
    after_is ∙ ap (map (learned_item one.id one.etag one.digest)) before_is ∙ sym (with-one (take at all) one items)
    ∙ ap (λ (x : Learned). with_learned (take at all ++ x ∷ []) items) is ∙ ap (λ (xs : List Learned). with_learned xs items) (sym (take_more all at one low))

is-bare : (kind : Kind) → is_bare_kind kind ≡ true → kind ≡ Bare
is-bare (Folder child_count) is = absurd (cc is)
is-bare (File digest) is = absurd (cc is)
is-bare Bare is = refl
is-bare Deleted is = absurd (cc is)

item-node-kept : (id : ItemId) (etag : Tag) (digest : Digest) (item : Item) (b : Bool) → is_unknown id etag item ≡ b → item_node (cond b (record item { kind = File digest }) item) ≡ item_node item
item-node-kept id etag digest item false is = refl
item-node-kept id etag digest item true is =
    let bare : item.kind ≡ Bare = is-bare item.kind (and_parts (is_bare_kind item.kind) (nat_eq item.id.0 id.0 && pointwise nat_eq item.etag.0 etag.0) is).0 in
    ap (λ (kind : Kind). let made : Node = record { number = item.id.0; parent = (item_node item).parent; name = item.name; folder = is_folder_kind kind } in made) (sym bare)

nodes-kept : (id : ItemId) (etag : Tag) (digest : Digest) (items : List Item) → nodes (map (learned_item id etag digest) items) ≡ nodes items
nodes-kept id etag digest [] = refl
nodes-kept id etag digest (item ∷ items) =
    ap (λ (node : Node). node ∷ nodes (map (learned_item id etag digest) items)) (item-node-kept id etag digest item (is_unknown id etag item) refl) ∙ ap (λ (rest : List Node). item_node item ∷ rest) (nodes-kept id etag digest items)

pub nodes-with : (all : List Learned) (items : List Item) → nodes (with_learned all items) ≡ nodes items
nodes-with [] items = refl
nodes-with (one ∷ all) items = nodes-with all (map (learned_item one.id one.etag one.digest) items) ∙ nodes-kept one.id one.etag one.digest items
