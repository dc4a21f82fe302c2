-- A digest that was learned is right of each later drive on which the file still has its eTag.
use Rattle.std.proofs.Common.{◌≡◌, ◌⊎◌, inl, inr, ℕ, ◌^◌, ◌<◌, ◌≤◌, Bool, true, false, cond, List, [], ◌∷◌, ◌++◌, map, Option, Some, None, refl, ap, sym, subst, ◌∙◌, append_assoc, arith}
use Rattle.std.specs.Fmt.{decimal}
use Rattle.std.specs.List.{AllByRecursion}
use Rattle.std.proofs.lemmas.Bool.{eq-eqb}
use Rattle.std.proofs.lemmas.Fmt.{decimal_injective}
use Rattle.std.proofs.lemmas.List.Elements.{All-from_recursion}
use Rattle.gd_item.specs.Answers.{about, answer, answer_served, answer_unless, content_reply, found_reply, shown}
use Rattle.gd_item.specs.Ids.{item_id}
use Rattle.gd_item.specs.Inventory.{Inventory, after_all, inventory, live_at}
use Rattle.gd_item.specs.Records.{digest_record, kind_at, record_of, records_of, root_record}
use Rattle.gd_item.specs.Refused.{Refusal, refusal}
use Rattle.gd_item.specs.Sessions.{State, held}
use Rattle.gd_item.specs.Steps.{held_by, number_of, state_of}
use Rattle.gd_item.specs.Tags.{etag_text, tag_of}
use Rattle.gd_item.specs.Versions.{file_version, item_version, replaced_bytes, version_at}
use Rattle.gd_item.specs.declared.id.ItemId.{ItemId}
use Rattle.gd_item.specs.declared.item.Item.{Item}
use Rattle.gd_item.specs.declared.item.Kind.TheVariants.{File}
use Rattle.gd_item.specs.declared.item.Tag.{Tag}
use Rattle.gd_item.specs.declared.live.LiveItem.{LiveItem}
use Rattle.gd_item.specs.declared.live.Version.{Version}
use Rattle.gd_item.specs.declared.reply.Reply.{Reply}
use Rattle.gd_item.specs.declared.reply.Reply.TheVariants as reply
use Rattle.gd_item.specs.declared.request.Address.TheVariants.{Id}
use Rattle.gd_item.specs.declared.request.Request.TheVariants.{Content, Download}
use Rattle.gd_item.specs.declared.step.Step.{Step}
use Rattle.gd_item.proofs.Effects.{inventory-append}
use Rattle.gd_item.proofs.LogsGrow.{later-log, number-log}
use Rattle.gd_item.specs.Sound.{IsWithin}
use Rattle.gd_names.proofs.Each.{each, each-both}
use Rattle.gd_laws.proofs.Every.{every-drive}
use Rattle.gd_laws.proofs.Living.{of-living}
use Rattle.gd_laws.proofs.Logs.{number-fits}
use Rattle.gd_laws.proofs.Marks.{IsLiving, is-marked}
use Rattle.gd_laws.proofs.PlacedItems.{IsHeld, all-held}
use Rattle.gd_laws.proofs.Since.{is-since}
use Rattle.od_pages.specs.Pulls.{IsDigestThere}
use Rattle.od_pull.specs.Digests.{IsEarly}

-- ---- two changes have two eTags
same-change : (a b : ℕ) → a < 2 ^ 64 → b < 2 ^ 64 → tag_of (etag_text a) ≡ tag_of (etag_text b) → a ≡ b
same-change a b first second same =
    let texts : etag_text a ≡ etag_text b = ap (λ (tag : Tag). tag.0) same in
    let decimals : decimal a ≡ decimal b = cc texts in
    decimal_injective a b first second decimals

-- ---- what stood there already
stood-by : (position n : ℕ) (before : Option LiveItem) (item : LiveItem) → item.change ≤ position → (before ≡ Some item) ⊎ (position < item.change) → before ≡ Some item
stood-by position n before item old (inl is_there) = is_there
stood-by position n before item old (inr late) = absurd (omega (arith, late, old))

stood : (log more : List Step) (position n : ℕ) (item : LiveItem) → position ≤ number_of log → live_at n (held_by (log ++ more)).items ≡ Some item → item.change ≤ position → live_at n (held_by log).items ≡ Some item
stood log more position n item early is old =
    let later = (later-log log more).effects in
    let since = is-since position 0 (held_by log) later.0 (omega arith) early in
    let now : live_at n (after_all (held_by log) later.0).items ≡ Some item = ap (λ (h : Inventory). live_at n h.items) (sym (inventory-append (state_of log).effects later.0) ∙ ap inventory (sym later.1)) ∙ is in
    stood-by position n (live_at n (held_by log).items) item old (since.kept n item now)

-- ---- what the drive answers about a file that stands there
unserved-found : (id : ItemId) (version : ℕ) (served : Bool) (state : State) (size : ℕ) (number : ℕ) → reply.Found id version ≡ answer_served served state size (Content (Id (item_id number))) → reply.Found id version ≡ answer state size (Content (Id (item_id number)))
unserved-found id version true state size number is = is
unserved-found id version false state size number is = absurd (cc is)

shown-found : (id : ItemId) (version : ℕ) (plain : Bool) (said : Reply) → reply.Found id version ≡ shown plain said → reply.Found id version ≡ said
shown-found id version false said is = is
shown-found id version true (reply.Made item) is = absurd (cc is)
shown-found id version true (reply.Is item) is = absurd (cc is)
shown-found id version true (reply.Listed items next) is = absurd (cc is)
shown-found id version true reply.Done is = absurd (cc is)
shown-found id version true (reply.Found other content) is = is
shown-found id version true (reply.Content bytes) is = absurd (cc is)
shown-found id version true (reply.Session session expected) is = absurd (cc is)
shown-found id version true (reply.Status expected) is = absurd (cc is)
shown-found id version true (reply.More expected) is = absurd (cc is)
shown-found id version true (reply.Page page) is = absurd (cc is)
shown-found id version true (reply.Gone resync) is = absurd (cc is)
shown-found id version true (reply.Refused status code) is = absurd (cc is)

found-unless : (id : ItemId) (version : ℕ) (refusal : Option Refusal) (state : State) (size number : ℕ) → reply.Found id version ≡ answer_unless refusal state size (Content (Id (item_id number))) → reply.Found id version ≡ content_reply (held state) number
found-unless id version None state size number is = is
found-unless id version (Some refusal) state size number is = absurd (cc is)

found-content : (id : ItemId) (version : ℕ) (live : Option LiveItem) → reply.Found id version ≡ about found_reply live → (item : LiveItem) × (live ≡ Some item) × (version ≡ item.content)
found-content id version None is = absurd (cc is)
found-content id version (Some item) is = (item, refl, ap found_version is)
  where
    found_version : Reply → ℕ
    found_version (reply.Found other content) = content
    found_version other = 0

-- a file that was found is there, and its bytes are of the version
found-there : (id : ItemId) (version : ℕ) (served : Bool) (log : List Step) (size number : ℕ) → reply.Found id version ≡ answer_served served (state_of log) size (Content (Id (item_id number)))
    → (item : LiveItem) × (live_at number (held_by log).items ≡ Some item) × (version ≡ item.content)
found-there id version served log size number is =
    found-content id version (live_at number (held_by log).items)
    (found-unless id version (refusal (state_of log) (Content (Id (item_id number)))) (state_of log) size number
    (shown-found id version (state_of log).plain (answer_unless (refusal (state_of log) (Content (Id (item_id number)))) (state_of log) size (Content (Id (item_id number))))
    (unserved-found id version served (state_of log) size number is)))

-- ---- what it gives of the version
unserved-bytes : (bytes : List ℕ) (served : Bool) (state : State) (size number version : ℕ) → reply.Content bytes ≡ answer_served served state size (Download (item_id number) version) → reply.Content bytes ≡ answer state size (Download (item_id number) version)
unserved-bytes bytes true state size number version is = is
unserved-bytes bytes false state size number version is = absurd (cc is)

shown-bytes : (bytes : List ℕ) (plain : Bool) (said : Reply) → reply.Content bytes ≡ shown plain said → reply.Content bytes ≡ said
shown-bytes bytes false said is = is
shown-bytes bytes true (reply.Made item) is = absurd (cc is)
shown-bytes bytes true (reply.Is item) is = absurd (cc is)
shown-bytes bytes true (reply.Listed items next) is = absurd (cc is)
shown-bytes bytes true reply.Done is = absurd (cc is)
shown-bytes bytes true (reply.Found other content) is = absurd (cc is)
shown-bytes bytes true (reply.Content other) is = is
shown-bytes bytes true (reply.Session session expected) is = absurd (cc is)
shown-bytes bytes true (reply.Status expected) is = absurd (cc is)
shown-bytes bytes true (reply.More expected) is = absurd (cc is)
shown-bytes bytes true (reply.Page page) is = absurd (cc is)
shown-bytes bytes true (reply.Gone resync) is = absurd (cc is)
shown-bytes bytes true (reply.Refused status code) is = absurd (cc is)

bytes-unless : (bytes : List ℕ) (refusal : Option Refusal) (state : State) (size number version : ℕ) → reply.Content bytes ≡ answer_unless refusal state size (Download (item_id number) version)
    → reply.Content bytes ≡ about reply.Content (version_at number version (held state))
bytes-unless bytes None state size number version is = is
bytes-unless bytes (Some refusal) state size number version is = absurd (cc is)

bytes-given : (bytes : List ℕ) (given : Option (List ℕ)) → reply.Content bytes ≡ about reply.Content given → given ≡ Some bytes
bytes-given bytes None is = absurd (cc is)
bytes-given bytes (Some other) is = cc is

version-there : (bytes : List ℕ) (served : Bool) (log : List Step) (size number version : ℕ) → reply.Content bytes ≡ answer_served served (state_of log) size (Download (item_id number) version)
    → version_at number version (held_by log) ≡ Some bytes
version-there bytes served log size number version is =
    bytes-given bytes (version_at number version (held_by log))
    (bytes-unless bytes (refusal (state_of log) (Download (item_id number) version)) (state_of log) size number version
    (shown-bytes bytes (state_of log).plain (answer_unless (refusal (state_of log) (Download (item_id number) version)) (state_of log) size (Download (item_id number) version))
    (unserved-bytes bytes served (state_of log) size number version is)))

file-bytes : (bytes : List ℕ) (version : ℕ) (replaced : List Version) (item : LiveItem) (file : Option (List ℕ)) → version ≡ item.content → file_version version replaced item file ≡ Some bytes → file ≡ Some bytes
file-bytes bytes version replaced item None same is = absurd (cc is)
file-bytes bytes version replaced item (Some now) same is =
    sym (ap (λ b. cond b (Some now) (replaced_bytes item.number version replaced)) (eq-eqb item.content version (sym same))) ∙ is

-- ---- the digest
module _ (first part second third later : List Step) (id : ItemId) (etag : Tag) (early : IsEarly first etag) (found : ItemId) (version : ℕ) (bytes : List ℕ)
    (stands : (item : LiveItem) × (live_at id.0 (held_by (first ++ part)).items ≡ Some item) × (version ≡ item.content)) (given : version_at id.0 version (held_by ((first ++ part) ++ second)) ≡ Some bytes) where
  abbrev pub now-log : List Step
  now-log = ((first ++ part) ++ second) ++ (third ++ later)

  live-right : (all : List LiveItem) (item : LiveItem) → live_at item.number (held_by now-log).items ≡ Some item → item.change < 2 ^ 64 → item_id item.number ≡ id → tag_of (etag_text item.change) ≡ etag
      → kind_at item.bytes item.number all ≡ File (digest_record bytes)
  live-right all item live fits same tags =
      let number : item.number ≡ id.0 = ap (λ (i : ItemId). i.0) same in
      let done = early.done in
      let bound = number-fits first in
      let change : item.change ≡ early.change = same-change item.change early.change fits (omega (arith, done, bound)) (tags ∙ early.is) in
      let low : item.change ≤ number_of first = omega (arith, change, done) in
      let at_second : live_at item.number (held_by ((first ++ part) ++ second)).items ≡ Some item =
      stood ((first ++ part) ++ second) (third ++ later) (number_of first) item.number item
      (let one = number-log first part in let two = number-log (first ++ part) second in omega (arith, one, two)) live low in
      let at_part : live_at item.number (held_by (first ++ part)).items ≡ Some item = stood (first ++ part) second (number_of first) item.number item (number-log first part) at_second low in
      let same_item : stands.0 ≡ item = cc (subst (λ n. live_at n (held_by (first ++ part)).items ≡ Some item) number at_part, stands.1) in
      let content : version ≡ item.content = stands.2 ∙ ap (λ (i : LiveItem). i.content) same_item in
      let file : item.bytes ≡ Some bytes =
      file-bytes bytes version (held_by ((first ++ part) ++ second)).replaced item item.bytes content
      (sym (ap (item_version version (held_by ((first ++ part) ++ second)).replaced) (subst (λ n. live_at n (held_by ((first ++ part) ++ second)).items ≡ Some item) number at_second)) ∙ given) in
      ap (λ b. kind_at b item.number all) file

  abbrev IsRightItem : Item → Type 0
  IsRightItem whole = whole.id ≡ id → whole.etag ≡ etag → whole.kind ≡ File (digest_record bytes)

  -- no item has the root's number
  root-right : (all : List LiveItem) → IsRightItem (root_record all)
  root-right all = λ same tags.
      let number : id.0 ≡ 1 = ap (λ (i : ItemId). i.0) (sym same) in
      let found = of-living (IsLiving (held_by (first ++ part))) id.0 (held_by (first ++ part)).items stands.0 (is-marked (state_of (first ++ part)).effects).living stands.1 in
      let above = found.0.above in
      let own = found.1 in
      absurd (omega (arith, number, above, own))

  mapped-right : (all items : List LiveItem) → AllByRecursion (λ (item : LiveItem). IsRightItem (record_of all item)) items → AllByRecursion IsRightItem (map (record_of all) items)
  mapped-right all [] right = tt
  mapped-right all (item ∷ items) right = (right.0, mapped-right all items right.1)

  held-right : (item : LiveItem) → IsHeld (held_by now-log) item → IsWithin (held_by now-log) item → IsRightItem (record_of (held_by now-log).items item)
  held-right item stand within = λ same tags.
      let done = within.done in
      let bound = number-fits now-log in
      live-right (held_by now-log).items item stand.live (omega (arith, done, bound)) same tags

  pub digest-right : IsDigestThere now-log id etag (digest_record bytes)
  digest-right =
      let held = held_by now-log in
      let every = every-drive now-log in
      All-from_recursion IsRightItem (records_of held) (
        root-right held.items,
        mapped-right held.items held.items
            (each-both (IsHeld held) (IsWithin held) (λ (item : LiveItem). IsRightItem (record_of held.items item)) held-right held.items (all-held held every.tree every.sizes)
            (each (IsWithin held) held.items every.tree.within)),
      )

-- ---- from the two replies
pub replies-right : (drive first part before after again rest : List Step) (id : ItemId) (etag : Tag) (found : ItemId) (version : ℕ) (bytes : List ℕ) (one two : Bool) (size twice : ℕ) → drive ≡ first ++ part → IsEarly first etag
    → reply.Found found version ≡ answer_served one (state_of (drive ++ before)) size (Content (Id id)) → reply.Content bytes ≡ answer_served two (state_of (((drive ++ before) ++ after) ++ again)) twice (Download id version)
    → (later : List Step) → IsDigestThere (((((drive ++ before) ++ after) ++ again) ++ rest) ++ later) id etag (digest_record bytes)
replies-right drive first part before after again rest id etag found version bytes one two size twice is early said given later =
    let whole : drive ++ before ≡ first ++ (part ++ before) = ap (λ log. log ++ before) is ∙ append_assoc first part before in
    let stands = subst (λ log. (item : LiveItem) × (live_at id.0 (held_by log).items ≡ Some item) × (version ≡ item.content)) whole (found-there found version one (drive ++ before) size id.0 said) in
    let all : ((drive ++ before) ++ after) ++ again ≡ (first ++ (part ++ before)) ++ (after ++ again) = append_assoc (drive ++ before) after again ∙ ap (λ log. log ++ (after ++ again)) whole in
    let there = subst (λ log. version_at id.0 version (held_by log) ≡ Some bytes) all (version-there bytes two (((drive ++ before) ++ after) ++ again) twice id.0 version given) in
    let end : ((((drive ++ before) ++ after) ++ again) ++ rest) ++ later ≡ ((first ++ (part ++ before)) ++ (after ++ again)) ++ (rest ++ later) =
    append_assoc (((drive ++ before) ++ after) ++ again) rest later ∙ ap (λ log. log ++ (rest ++ later)) all in
    subst (λ log. IsDigestThere log id etag (digest_record bytes)) (sym end) (digest-right first (part ++ before) (after ++ again) rest later id etag early found version bytes stands there)
