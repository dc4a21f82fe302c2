-- What a row keeps is read back from it.
use Rattle.std.proofs.Common.{◌≡◌, ℕ, ◌^◌, ℤ, pos, negsuc, Bool, true, false, List, length, if◌then◌else◌, nat_eq, nat_lt, Option, Some, None, refl, ap, sym, subst, ◌∙◌}
use Rattle.std.specs.Prelude.{All}
use Rattle.std.specs.Option.{option_map}
use Rattle.gd_names.specs.Escapes.{IsSegmentName}
use Rattle.gd_names.specs.Paths.{path_text, path_of_text}
use Rattle.gd_names.proofs.ReadBack.{paths_read_back}
use Rattle.gd_item.specs.declared.digest.Digest.{Digest}
use Rattle.gd_item.specs.declared.id.ItemId.{ItemId}
use Rattle.gd_item.specs.declared.item.Item.{Item}
use Rattle.gd_item.specs.declared.item.Kind.{Kind}
use Rattle.gd_item.specs.declared.item.Kind.TheVariants as kind
use Rattle.gd_item.specs.declared.item.Tag.{Tag}
use Rattle.od_keeper.specs.declared.image.Agreed.{Agreed}
use Rattle.od_keeper.specs.declared.image.Agreed.TheVariants as agreed
use Rattle.od_keeper.specs.declared.image.BaseRow.{BaseRow}
use Rattle.od_database.specs.Agreements.{agreed_code, agreed_blob, agreed_of, flight_of, base_with, base_of, agreement_row, AgreedHasDigest, FlightHasDigest}
use Rattle.od_database.specs.Entries.{kind_columns, kind_of, parent_column, parent_of, row_with, row_of, item_with, item_of, kept_kind, kept_item, HasDigest}
use Rattle.od_database.specs.Numbers.{integer_of, natural_of, digest_blob, digest_from}
use Rattle.od_database.specs.declared.entry.EntryRow.{EntryRow}

number-back-by : (fits : Bool) (n : ℕ) (i : ℤ) → (if fits then Some (pos n) else None) ≡ Some i → natural_of i ≡ Some n
number-back-by true n i made = let same : pos n ≡ i = cc in subst (λ (j : ℤ). natural_of j ≡ Some n) same refl
number-back-by false n i made = cc

number-back : (n : ℕ) (i : ℤ) → integer_of n ≡ Some i → natural_of i ≡ Some n
number-back n i made = number-back-by (nat_lt n (2 ^ 63)) n i made

some-parent-back : (parent : ItemId) (o : Option ℤ) (column : Option ℤ) → integer_of parent.0 ≡ o → option_map Some o ≡ Some column → parent_of column ≡ Some (Some parent)
some-parent-back parent None column number made = cc
some-parent-back parent (Some i) column number made =
    let same : Some i ≡ column = cc in
    subst (λ (c : Option ℤ). parent_of c ≡ Some (Some parent)) same (ap (λ o. option_map (λ n. Some (record { 0 = n })) o) (number-back parent.0 i number))

parent-back : (parent : Option ItemId) (column : Option ℤ) → parent_column parent ≡ Some column → parent_of column ≡ Some parent
parent-back None column made = let same : None ≡ column = cc in subst (λ (c : Option ℤ). parent_of c ≡ Some None) same refl
parent-back (Some parent) column made = some-parent-back parent (integer_of parent.0) column refl made

digest-back : (digest : Digest) → length digest.0 ≡ 32 → digest_from (digest_blob digest) ≡ Some digest
digest-back digest whole = ap (λ n. if nat_eq n 32 then Some digest else None) whole

kind-back : (kind : Kind) (columns : ℕ × Option (List ℕ)) → HasDigest kind → kind_columns kind ≡ Some columns → kind_of (pos columns.0) columns.1 ≡ Some (kept_kind kind)
kind-back (kind.Folder count) columns whole made =
    let same : (0, None) ≡ columns = cc in
    subst (λ (c : ℕ × Option (List ℕ)). kind_of (pos c.0) c.1 ≡ Some (kind.Folder 0)) same refl
kind-back (kind.File digest) columns whole made =
    let same : (1, Some (digest_blob digest)) ≡ columns = cc in
    subst (λ (c : ℕ × Option (List ℕ)). kind_of (pos c.0) c.1 ≡ Some (kind.File digest)) same (ap (λ o. option_map kind.File o) (digest-back digest whole))
kind-back kind.Bare columns whole made =
    let same : (2, None) ≡ columns = cc in
    subst (λ (c : ℕ × Option (List ℕ)). kind_of (pos c.0) c.1 ≡ Some kind.Bare) same refl
kind-back kind.Deleted columns whole made = cc

tag-back : (tag : Option Tag) → option_map (λ text. record { 0 = text }) (option_map (λ (tag : Tag). tag.0) tag) ≡ tag
tag-back None = refl
tag-back (Some tag) = refl

read-parts : (row : EntryRow) (id : ℕ) (parent : Option ItemId) (size : ℕ) (kind : Kind) → natural_of row.id ≡ Some id → parent_of row.parent ≡ Some parent
    → natural_of row.size ≡ Some size → kind_of row.kind row.digest ≡ Some kind → item_of row ≡ item_with row (Some id) (Some parent) (Some size) (Some kind)
read-parts row id parent size kind first second third fourth =
    ap (λ o. item_with row o (parent_of row.parent) (natural_of row.size) (kind_of row.kind row.digest)) first
    ∙ ap (λ o. item_with row (Some id) o (natural_of row.size) (kind_of row.kind row.digest)) second
    ∙ ap (λ o. item_with row (Some id) (Some parent) o (kind_of row.kind row.digest)) third
    ∙ ap (λ o. item_with row (Some id) (Some parent) (Some size) o) fourth

row-back : (item : Item) (row : EntryRow) (id : Option ℤ) (parent : Option (Option ℤ)) (size : Option ℤ) (kind : Option (ℕ × Option (List ℕ))) → HasDigest item.kind
    → integer_of item.id.0 ≡ id → parent_column item.parent ≡ parent → integer_of item.size ≡ size → kind_columns item.kind ≡ kind
    → row_with item id parent size kind ≡ Some row → item_of row ≡ Some (kept_item item)
row-back item row None parent size kind whole first second third fourth made = cc
row-back item row (Some id) None size kind whole first second third fourth made = cc
row-back item row (Some id) (Some parent) None kind whole first second third fourth made = cc
row-back item row (Some id) (Some parent) (Some size) None whole first second third fourth made = cc
row-back item row (Some id) (Some parent) (Some size) (Some kind) whole first second third fourth made =
    let written : EntryRow = record {
      id = id;
      parent = parent;
      name = item.name;
      size = size;
      etag = item.etag.0;
      ctag = option_map (λ (tag : Tag). tag.0) item.ctag;
      kind = pos kind.0;
      digest = kind.1;
    } in
    let same : written ≡ row = cc in
    let read : item_of written ≡ item_with written (Some item.id.0) (Some item.parent) (Some item.size) (Some (kept_kind item.kind)) =
    read-parts written item.id.0 item.parent item.size (kept_kind item.kind) (number-back item.id.0 id first) (parent-back item.parent parent second)
    (number-back item.size size third) (kind-back item.kind kind whole fourth) in
    subst (λ (r : EntryRow). item_of r ≡ Some (kept_item item)) same
    (read ∙ ap (λ (tag : Option Tag). Some (record item { parent_path = None; ctag = tag; kind = kept_kind item.kind })) (tag-back item.ctag))

pub item-back : (item : Item) (row : EntryRow) → HasDigest item.kind → row_of item ≡ Some row → item_of row ≡ Some (kept_item item)
item-back item row whole made =
    row-back item row (integer_of item.id.0) (parent_column item.parent) (integer_of item.size) (kind_columns item.kind) whole refl refl refl refl made

agreed-back : (what : Agreed) → AgreedHasDigest what → agreed_of (pos (agreed_code what)) (agreed_blob what) ≡ Some what
agreed-back agreed.Nothing whole = refl
agreed-back agreed.Folder whole = refl
agreed-back (agreed.File digest) whole = ap (λ o. option_map agreed.File o) (digest-back digest whole)

flight-back : (flight : Option Digest) → FlightHasDigest flight → flight_of (option_map digest_blob flight) ≡ Some flight
flight-back None whole = refl
flight-back (Some digest) whole = ap (λ o. option_map Some o) (digest-back digest whole)

pub base-back : (base : BaseRow) → All IsSegmentName base.path → AgreedHasDigest base.what → FlightHasDigest base.flight → base_of (agreement_row base) ≡ Some base
base-back base names what flight =
    ap (λ o. base_with o (flight_of (option_map digest_blob base.flight)) (path_of_text (path_text base.path))) (agreed-back base.what what)
    ∙ ap (λ o. base_with (Some base.what) o (path_of_text (path_text base.path))) (flight-back base.flight flight)
    ∙ ap (λ o. base_with (Some base.what) (Some base.flight) o) (paths_read_back base.path names)
