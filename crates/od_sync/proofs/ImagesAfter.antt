-- The images that a pull, an agreement and placed files leave: what they have, and that they are sound.
use Rattle.std.proofs.Common.{◌≡◌, ℕ, ◌-◌, Bool, true, false, cond, List, [], ◌∷◌, ◌++◌, map, take, find, Option, Some, None, inl, inr, refl, sym, ap, ◌∙◌, subst}
use Rattle.std.specs.Cmp.Lexicographic.{same_text}
use Rattle.std.specs.List.{All, cons_option}
use Rattle.std.specs.List.Sorted.{IsStrictlySortedBy}
use Rattle.std.specs.Ordering.{nat_cmp}
use Rattle.std.specs.Option.{option_map}
use Rattle.std.specs.declared.cmp.Ordering.{Ordering}
use Rattle.std.specs.declared.cmp.Ordering.TheVariants.{Less, Equal, Greater}
use Rattle.std.proofs.lemmas.List.Elements.{All-nil, All-cons, All-head, All-tail, All-append, All-filter}
use Rattle.gd_item.specs.Records.{records_of}
use Rattle.gd_item.specs.Inventory.{Inventory}
use Rattle.gd_item.specs.Steps.{state_of, held_at, held_by, accepted_by}
use Rattle.gd_item.specs.Tokens.{token_of_text}
use Rattle.gd_item.specs.declared.digest.Digest.{Digest}
use Rattle.gd_item.specs.declared.item.Item.{Item}
use Rattle.gd_item.specs.declared.item.Kind.{Kind}
use Rattle.gd_item.specs.declared.item.Kind.TheVariants as kind
use Rattle.gd_item.specs.declared.live.Version.{Version}
use Rattle.gd_item.specs.declared.step.Step.{Step}
use Rattle.gd_item.specs.declared.token.Token.{Token}
use Rattle.od_keeper.proofs.Growing.{sound-stays}
use Rattle.od_keeper.specs.Images.{by_id, by_path, put_by, put_in_order, put_all, without_ids, without_paths, replaced, reset_image, applied}
use Rattle.gd_item.specs.Views.{uncounted, AreItemsOf, IsItemOf, ItemsAre, TokenIs}
use Rattle.od_keeper.specs.Sound.{IsAccepted, IsSound}
use Rattle.od_keeper.specs.declared.image.Agreed.{Agreed}
use Rattle.od_keeper.specs.declared.image.Agreed.TheVariants as agreed
use Rattle.od_keeper.specs.declared.image.BaseRow.{BaseRow}
use Rattle.od_keeper.specs.declared.image.Change.{Change}
use Rattle.od_keeper.specs.declared.image.Image.{Image}
use Rattle.od_transfer.specs.Fits.{is_digest}
use Rattle.od_tree.specs.Local.{is_path}
use Rattle.od_sync.specs.Agreeing.{entry_on, agreed_file, agreed_folder, agreed_node, agreed_on, row_of, agreed_rows, landed_as, landed_rows, dropped_paths, agreement}
use Rattle.od_sync.specs.Comparing.{IsKindAccepted}
use Rattle.od_sync.specs.Doing.{AreAcceptedRows}
use Rattle.od_sync.specs.PullChanges.{ItemsRise, IsPullChange}
use Rattle.od_sync.specs.declared.scanning.Node.{Node}
use Rattle.od_sync.specs.declared.scanning.Node.TheVariants as node
use Rattle.gd_laws.proofs.RisingNumbers.{records-rise}

-- without no ids, and no paths, all stays
all-items : (items : List Item) → without_ids [] items ≡ items
all-items [] = refl
all-items (item ∷ items) = ap (λ xs. item ∷ xs) (all-items items)

all-rows : (rows : List BaseRow) → without_paths [] rows ≡ rows
all-rows [] = refl
all-rows (row ∷ rows) = ap (λ xs. row ∷ xs) (all-rows rows)

-- ---- a pull

pub pull_applied : (image : Image) (items : List Item) (token : List ℕ) (change : Change) → IsPullChange image.items items token change
    → ((applied change image).token ≡ Some token) × ((applied change image).rows ≡ image.rows) × (ItemsRise image.items → ItemsRise items → (applied change image).items ≡ items)
pull_applied image items token change is = (
  ap (λ b. replaced change.token (reset_image b image).token) is.no_reset ∙ ap (λ text. replaced text image.token) is.token_is,
  ap (λ b. put_all by_path change.rows (without_paths change.dropped (reset_image b image).rows)) is.no_reset
      ∙ ap (λ rows. put_all by_path rows (without_paths change.dropped image.rows)) is.no_rows
      ∙ ap (λ paths. without_paths paths image.rows) is.no_dropped
      ∙ all-rows image.rows,
  λ rise view. ap (λ b. put_all by_id change.put (without_ids change.gone (reset_image b image).items)) is.no_reset ∙ is.items_are rise view,
)

-- items that a client has are numbered as the drive's, which rise
abbrev ids : List Item → List ℕ
ids items = map (λ (item : Item). item.id.0) items

same-id : (plain : Bool) (item whole : Item) → IsItemOf plain item whole → item.id.0 ≡ whole.id.0
same-id plain item whole (inl same) = ap (λ (i : Item). i.id.0) same
same-id plain item whole (inr lacks) = ap (λ (i : Item). i.id.0) lacks.1.rest

same-ids : (plain : Bool) (items records : List Item) → AreItemsOf plain items records → ids records ≡ ids items
same-ids plain [] [] are = refl
same-ids plain [] (whole ∷ records) are = absurd are
same-ids plain (item ∷ items) [] are = absurd are
same-ids plain (item ∷ items) (whole ∷ records) are =
    ap (λ n. n ∷ ids records) (sym (same-id plain item whole are.0)) ∙ ap (λ ns. item.id.0 ∷ ns) (same-ids plain items records are.1)

none-rise : ItemsRise []
unfolding IsStrictlySortedBy
none-rise = tt

token_items_rise : (items : List Item) (log : List Step) (token : Option Token) → TokenIs items log token → ItemsRise items
token_items_rise items log None is = absurd is
token_items_rise items log (Some token) is =
    let held : Inventory = held_at token.position log in
    subst (IsStrictlySortedBy nat_cmp) (same-ids (state_of log).plain items (records_of held) is.items_then)
    (records-rise (records_of held) (take (token.position - 1) (state_of log).effects) refl)

items_rise : (items : List Item) (log : List Step) (token : Option (List ℕ)) → ItemsAre items log token → ItemsRise items
items_rise items log None are = subst ItemsRise (sym are) none-rise
items_rise items log (Some text) are = token_items_rise items log (token_of_text text) are

pub sound_items_rise : (image : Image) (log : List Step) → IsSound image log → ItemsRise image.items
sound_items_rise image log sound = items_rise image.items log image.token sound.items

pub pulled_items_rise : (items : List Item) (drive : List Step) → map uncounted items ≡ map uncounted (records_of (held_by drive)) → ItemsRise items
pulled_items_rise items drive same = records-rise items (state_of drive).effects same

pub pull_sound : (image : Image) (drive spent : List Step) (items : List Item) (token : List ℕ) (change : Change) → IsSound image drive → IsPullChange image.items items token change
    → map uncounted items ≡ map uncounted (records_of (held_by (drive ++ spent))) → ItemsAre items (drive ++ spent) (Some token) → IsSound (applied change image) (drive ++ spent)
pull_sound image drive spent items token change sound is same are =
    let log : List Step = drive ++ spent in
    let parts = pull_applied image items token change is in
    let stays : IsSound image log = sound-stays image drive spent sound in
    let items_are : (applied change image).items ≡ items = parts.2 (sound_items_rise image drive sound) (pulled_items_rise items log same) in
    record {
      rows = subst (λ rows. All (λ (row : BaseRow). IsAccepted (accepted_by log) row.what) rows) (sym parts.1) stays.rows;
      items = subst (λ text. ItemsAre (applied change image).items log text) (sym parts.0) (subst (λ xs. ItemsAre xs log (Some token)) (sym items_are) are);
    }

-- ---- rows that are put

put-by-all : {X : Type 0} (P : X → Type 0) (o : Ordering) (x first : X) (rest placed : List X) → P x → All P (first ∷ rest) → All P placed → All P (put_by o x first rest placed)
put-by-all P Less x first rest placed p all more = All-cons P x (first ∷ rest) p all
put-by-all P Equal x first rest placed p all more = All-cons P x rest p (All-tail P first rest all)
put-by-all P Greater x first rest placed p all more = All-cons P first placed (All-head P first rest all) more

put-in-all : {X : Type 0} (P : X → Type 0) (compare : X → X → Ordering) (x : X) (xs : List X) → P x → All P xs → All P (put_in_order compare x xs)
put-in-all P compare x [] p all = All-cons P x [] p all
put-in-all P compare x (first ∷ rest) p all =
    put-by-all P (compare x first) x first rest (put_in_order compare x rest) p all (put-in-all P compare x rest p (All-tail P first rest all))

put-all-all : {X : Type 0} (P : X → Type 0) (compare : X → X → Ordering) (put placed : List X) → All P put → All P placed → All P (put_all compare put placed)
put-all-all P compare [] placed each all = all
put-all-all P compare (x ∷ put) placed each all =
    put-all-all P compare put (put_in_order compare x placed) (All-tail P x put each) (put-in-all P compare x placed (All-head P x put each) all)

-- the change of rows alone
abbrev of_rows : List (List (List ℕ)) → List BaseRow → Change
of_rows dropped rows = record { reset = false; rules = None; token = None; gone = []; put = []; dropped = dropped; rows = rows }

of-rows-sound : (image : Image) (log : List Step) (dropped : List (List (List ℕ))) (rows : List BaseRow) → IsSound image log → AreAcceptedRows (accepted_by log) rows → IsSound (applied (of_rows dropped rows) image) log
of-rows-sound image log dropped rows sound are =
    let P : BaseRow → Type 0 = λ row. IsAccepted (accepted_by log) row.what in
    record {
      rows = put-all-all P by_path rows (without_paths dropped image.rows) are (All-filter _ P image.rows sound.rows);
      items = subst (λ xs. ItemsAre xs log image.token) (sym (all-items image.items)) sound.items;
    }

pub rows_sound : (image : Image) (log : List Step) (rows : List BaseRow) → IsSound image log → AreAcceptedRows (accepted_by log) rows
    → IsSound (applied (record { reset = false; rules = None; token = None; gone = []; put = []; dropped = []; rows = rows }) image) log
rows_sound image log rows sound are = of-rows-sound image log [] rows sound are

-- ---- an agreement

-- what is agreed on, where anything is
abbrev WhereAgreed : List Version → Option Agreed → Type 0
WhereAgreed versions None = Unit {0}
WhereAgreed versions (Some what) = IsAccepted versions what

same-digest : (a b : Digest) → is_digest a b ≡ true → b ≡ a
same-digest a b same = ap (λ (bytes : List ℕ). record { 0 = bytes }) (sym (same_text a.0 b.0 (sym same)))

file-if : (versions : List Version) (same : Bool) (digest other : Digest) → is_digest digest other ≡ same → IsAccepted versions (agreed.File other) → WhereAgreed versions (cond same (Some (agreed.File digest)) None)
file-if versions true digest other is accepted = subst (λ (d : Digest). IsAccepted versions (agreed.File d)) (same-digest digest other is) accepted
file-if versions false digest other is accepted = tt

file-accepted : (versions : List Version) (digest : Digest) (kind : Kind) → IsKindAccepted versions kind → WhereAgreed versions (agreed_file digest kind)
file-accepted versions digest (kind.Folder child_count) accepted = tt
file-accepted versions digest (kind.File other) accepted = file-if versions (is_digest digest other) digest other refl accepted
file-accepted versions digest kind.Bare accepted = tt
file-accepted versions digest kind.Deleted accepted = tt

folder-accepted : (versions : List Version) (kind : Kind) → WhereAgreed versions (agreed_folder kind)
folder-accepted versions (kind.Folder child_count) = tt
folder-accepted versions (kind.File digest) = tt
folder-accepted versions kind.Bare = tt
folder-accepted versions kind.Deleted = tt

node-accepted : (versions : List Version) (node : Node) (kind : Kind) → IsKindAccepted versions kind → WhereAgreed versions (agreed_node node kind)
node-accepted versions node.Folder kind accepted = folder-accepted versions kind
node-accepted versions (node.File digest) kind accepted = file-accepted versions digest kind accepted

-- an item that may be there
abbrev MayBe : List Version → Option Item → Type 0
MayBe versions None = Unit {0}
MayBe versions (Some item) = IsKindAccepted versions item.kind

on-accepted : (versions : List Version) (node : Node) (item : Option Item) → MayBe versions item → WhereAgreed versions (agreed_on node item)
on-accepted versions node None accepted = tt
on-accepted versions node (Some item) accepted = node-accepted versions node item.kind accepted

landed-accepted : (versions : List Version) (flight : Option Digest) (item : Option Item) → MayBe versions item → WhereAgreed versions (landed_as flight item)
landed-accepted versions None item accepted = tt
landed-accepted versions (Some digest) None accepted = tt
landed-accepted versions (Some digest) (Some item) accepted = file-accepted versions digest item.kind accepted

-- what stands at a path of accepted entries
abbrev Entry : Type 0
Entry = List (List ℕ) × Item

abbrev IsEntryAccepted : List Version → Entry → Type 0
IsEntryAccepted versions entry = IsKindAccepted versions entry.1.kind

found-if : (versions : List Version) (b : Bool) (entry : Entry) (rest : Option Entry) → IsEntryAccepted versions entry → MayBe versions (option_map (λ e. e.1) rest)
    → MayBe versions (option_map (λ e. e.1) (cond b (Some entry) rest))
found-if versions true entry rest here later = here
found-if versions false entry rest here later = later

found-accepted : (versions : List Version) (remote : List Entry) (path : List (List ℕ)) → All (IsEntryAccepted versions) remote → MayBe versions (entry_on remote path)
found-accepted versions [] path all = tt
found-accepted versions (entry ∷ remote) path all =
    found-if versions (is_path entry.0 path) entry (find (λ e. is_path e.0 path) remote) (All-head (IsEntryAccepted versions) entry remote all)
    (found-accepted versions remote path (All-tail (IsEntryAccepted versions) entry remote all))

-- one more row, where something is agreed on
row-more : (versions : List Version) (path : List (List ℕ)) (what : Option Agreed) (rows : List BaseRow) → WhereAgreed versions what → AreAcceptedRows versions rows
    → AreAcceptedRows versions (cons_option (option_map (row_of path) what) rows)
row-more versions path None rows is all = all
row-more versions path (Some what) rows is all = All-cons (λ (row : BaseRow). IsAccepted versions row.what) (row_of path what) rows is all

landed-all : (versions : List Version) (rows : List BaseRow) (remote : List Entry) → All (IsEntryAccepted versions) remote → AreAcceptedRows versions (landed_rows rows remote)
landed-all versions [] remote all = All-nil (λ (row : BaseRow). IsAccepted versions row.what)
landed-all versions (row ∷ rows) remote all =
    row-more versions row.path (landed_as row.flight (entry_on remote row.path)) (landed_rows rows remote)
    (landed-accepted versions row.flight (entry_on remote row.path) (found-accepted versions remote row.path all)) (landed-all versions rows remote all)

agreed-all : (versions : List Version) (local : List (List (List ℕ) × Node)) (remote : List Entry) → All (IsEntryAccepted versions) remote → AreAcceptedRows versions (agreed_rows local remote)
agreed-all versions [] remote all = All-nil (λ (row : BaseRow). IsAccepted versions row.what)
agreed-all versions (entry ∷ local) remote all =
    row-more versions entry.0 (agreed_on entry.1 (entry_on remote entry.0)) (agreed_rows local remote)
    (on-accepted versions entry.1 (entry_on remote entry.0) (found-accepted versions remote entry.0 all)) (agreed-all versions local remote all)

pub agreement_sound : (image : Image) (log : List Step) (local : List (List (List ℕ) × Node)) (remote : List (List (List ℕ) × Item)) → IsSound image log
    → All (λ (entry : List (List ℕ) × Item). IsKindAccepted (accepted_by log) entry.1.kind) remote → IsSound (applied (agreement image.rows local remote) image) log
agreement_sound image log local remote sound all =
    of-rows-sound image log (dropped_paths image.rows local remote) (landed_rows image.rows remote ++ agreed_rows local remote) sound
    (All-append (λ (row : BaseRow). IsAccepted (accepted_by log) row.what) (landed_rows image.rows remote) (agreed_rows local remote)
    (landed-all (accepted_by log) image.rows remote all) (agreed-all (accepted_by log) local remote all))
