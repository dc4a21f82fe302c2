-- The other bodies: what is written nests little, and is read again.
use Rattle.std.proofs.Common.{◌≡◌, ℕ, ◌<◌, ◌≤◌, ◌^◌, Bool, true, List, [], ◌∷◌, Option, Some, None, Result, Ok, Err, All, refl, subst, lit≤}
use Rattle.std.specs.Prelude.{codes, option_map, IfSome, IfOk}
use Rattle.std.proofs.Math.Nat.{le_trans}
use Rattle.serde_json.specs.Data.{Data, array, string, no_items, no_members, depth}
use Rattle.gd_names.specs.declared.conflict.Conflict.{Conflict}
use Rattle.gd_names.specs.declared.conflict.Conflict.TheVariants.{Fail, Replace, Rename}
use Rattle.gd_item.specs.declared.id.ItemId.{ItemId}
use Rattle.gd_item.specs.declared.item.Item.{Item}
use Rattle.gd_item.specs.declared.reply.Page.{Page}
use Rattle.gd_item.specs.declared.reply.PageLink.{PageLink}
use Rattle.gd_item.specs.declared.reply.PageLink.TheVariants.{Next, Delta}
use Rattle.gd_item.specs.declared.fault.ErrorCode.{ErrorCode}
use Rattle.gd_item.specs.declared.fault.ErrorCode.TheVariants.{InvalidRequest, InvalidRange, ItemNotFound, NotSupported, NameAlreadyExists, ResyncChangesApplyDifferences, ResyncChangesUploadDifferences, ResourceModified, FailedDependency, GeneralException, QuotaLimitReached}
use Rattle.gd_json.specs.declared.children.ChildList.{ChildList}
use Rattle.gd_json.specs.declared.session.SessionBody.{SessionBody}
use Rattle.gd_json.specs.declared.folder.FolderBody.{FolderBody}
use Rattle.gd_json.specs.declared.patch.PatchBody.{PatchBody}
use Rattle.gd_json.specs.declared.begin.BeginBody.{BeginBody}
use Rattle.serde_json.proofs.OnLiterals.{serde_json_on_literals}
use Rattle.gd_json.specs.declared.fault.JsonFault.TheVariants.{NotJson}
use Rattle.gd_json.specs.Bodies.{body, JsonBody, or_empty}
use Rattle.gd_json.specs.Changes.{behaviour_text, behaviour_of, behaviour_at, folder_body_at, folder_data, new_parent_at, patch_at, patch_data, begin_at, begin_data}
use Rattle.gd_json.specs.Errors.{code_of, error_at, error_data}
use Rattle.gd_json.specs.Items.{item_data, IsKnown}
use Rattle.gd_json.specs.Links.{is_token, delta_link, parent_of_first}
use Rattle.gd_json.specs.Lists.{items_in, children_at, children_data, next_link, page_at, page_data, put_link, token_of, value_members, MayGoOn, IsWritableList, IsWritablePage}
use Rattle.gd_json.specs.Numbers.{item_id_of, id_written}
use Rattle.gd_json.specs.Sessions.{status_at, session_at, session_data}
use Rattle.gd_json.specs.Writing.{listed}
use Rattle.gd_json.proofs.Ids.{id_again, expected_again}
use Rattle.gd_json.proofs.LinksAgain.{token_again, name_again, session_again}
use Rattle.gd_json.proofs.ListLoop.{items_again}
use Rattle.gd_json.proofs.Through.{any, body_none, again, map_ok}
use Rattle.gd_json.proofs.Plain.{IsPlain, ArePlain, string_plain, none_plain, put_plain, put_optional_plain, object_plain, listed_plain, array_plain}
use Rattle.gd_json.proofs.PlainItem.{item_plain}

-- ---- errors

pub error_plain : (code : ErrorCode) → IsPlain 2 (error_data code)
error_plain code = record { shallow = lit≤ tt; exact = refl }

pub error_again : (code : ErrorCode) → error_at (error_data code) ≡ Ok code
unfolding error_at code_of
error_again InvalidRequest = refl
error_again InvalidRange = refl
error_again ItemNotFound = refl
error_again NotSupported = refl
error_again NameAlreadyExists = refl
error_again ResyncChangesApplyDifferences = refl
error_again ResyncChangesUploadDifferences = refl
error_again ResourceModified = refl
error_again FailedDependency = refl
error_again GeneralException = refl
error_again QuotaLimitReached = refl

-- ---- what requests ask for

behaviour_again : (behaviour : Conflict) → behaviour_of (behaviour_text behaviour) ≡ Some behaviour
unfolding behaviour_of
behaviour_again Fail = refl
behaviour_again Replace = refl
behaviour_again Rename = refl

pub folder_plain : (v : FolderBody) → IsPlain 2 (folder_data v)
folder_plain v = record { shallow = lit≤ tt; exact = refl }

pub folder_body_again : (v : FolderBody) → folder_body_at (folder_data v) ≡ Ok v
unfolding folder_body_at behaviour_at
folder_body_again v = rw (behaviour_again v.behaviour) refl

patch_plain_by : (name : Option (List ℕ)) (parent : Option ItemId) → IsPlain 2 (patch_data (record { name = name; parent = parent }))
patch_plain_by None None = record { shallow = lit≤ tt; exact = refl }
patch_plain_by None (Some id) = record { shallow = lit≤ tt; exact = refl }
patch_plain_by (Some name) None = record { shallow = lit≤ tt; exact = refl }
patch_plain_by (Some name) (Some id) = record { shallow = lit≤ tt; exact = refl }

pub patch_plain : (v : PatchBody) → IsPlain 2 (patch_data v)
patch_plain v = patch_plain_by v.name v.parent

patch_by : (name : Option (List ℕ)) (parent : Option ItemId) → ((id : ItemId) → parent ≡ Some id → item_id_of (id_written id) ≡ Some id)
    → patch_at (patch_data (record { name = name; parent = parent })) ≡ Ok (record { name = name; parent = parent })
unfolding patch_at new_parent_at
patch_by None None known = refl
patch_by None (Some id) known = rw (known id refl) refl
patch_by (Some name) None known = refl
patch_by (Some name) (Some id) known = rw (known id refl) refl

pub patch_again : (v : PatchBody) → ((id : ItemId) → v.parent ≡ Some id → 0 < id.0) → ((id : ItemId) → v.parent ≡ Some id → id.0 < 2 ^ 64) → patch_at (patch_data v) ≡ Ok v
patch_again v some small = patch_by v.name v.parent (λ id is. id_again id (some id is) (small id is))

begin_plain_by : (name : Option (List ℕ)) (behaviour : Conflict) (defer : Bool) → IsPlain 2 (begin_data (record { name = name; behaviour = behaviour; defer = defer }))
begin_plain_by None behaviour defer = record { shallow = lit≤ tt; exact = refl }
begin_plain_by (Some name) behaviour defer = record { shallow = lit≤ tt; exact = refl }

pub begin_plain : (v : BeginBody) → IsPlain 2 (begin_data v)
begin_plain v = begin_plain_by v.name v.behaviour v.defer

begin_by : (name : Option (List ℕ)) (behaviour : Conflict) (defer : Bool) → begin_at (begin_data (record { name = name; behaviour = behaviour; defer = defer })) ≡ Ok (record { name = name; behaviour = behaviour; defer = defer })
unfolding begin_at behaviour_at
begin_by None behaviour defer = rw (behaviour_again behaviour) refl
begin_by (Some name) behaviour defer = rw (behaviour_again behaviour) refl

pub begin_again : (v : BeginBody) → begin_at (begin_data v) ≡ Ok v
begin_again v = begin_by v.name v.behaviour v.defer

nothing_read : (d : Data) → body any [] ≡ Ok d → ⊥
unfolding serde_json_on_literals
nothing_read d e = let none : body any [] ≡ Err NotJson = body_none [] (λ _. refl) in cc

some_text : (b : List ℕ) (d : Data) → body any b ≡ Ok d → b ≡ or_empty b
some_text [] d e = absurd (nothing_read d e)
some_text (x ∷ b) d e = refl

pub begin_gives : {E : Type 0} (v : BeginBody) (d : Data) (r : Result (List ℕ) E) → d ≡ begin_data v → IfOk r (λ b. depth d ≤ 127 → body any b ≡ Ok d) → IfOk r (λ b. JsonBody begin_at v (or_empty b))
begin_gives v d r same back =
    let shallow : depth d ≤ 127 = rw same (le_trans (begin_plain v).shallow (lit≤ tt)) in
    map_ok (λ b. depth d ≤ 127 → body any b ≡ Ok d) (λ b. JsonBody begin_at v (or_empty b)) r
    (λ b h. subst (λ (text : List ℕ). body begin_at text ≡ Ok v) (some_text b d (h shallow)) (again begin_at v b 2 d (begin_data v) same (begin_plain v) (lit≤ tt) h (begin_again v))) back

-- ---- sessions

session_plain_by : (base : List ℕ) (session : Option ℕ) (expected : ℕ) → IsPlain 2 (session_data base (record { session = session; expected = expected }))
session_plain_by base None expected = record { shallow = lit≤ tt; exact = refl }
session_plain_by base (Some session) expected = record { shallow = lit≤ tt; exact = refl }

pub session_plain : (base : List ℕ) (v : SessionBody) → IsPlain 2 (session_data base v)
session_plain base v = session_plain_by base v.session v.expected

session_by : (base : List ℕ) (session : Option ℕ) (expected : ℕ) → ((n : ℕ) → session ≡ Some n → n < 2 ^ 64) → expected < 2 ^ 64
    → session_at base (session_data base (record { session = session; expected = expected })) ≡ Ok (record { session = session; expected = expected })
unfolding session_at status_at
session_by base None expected small next = rw (expected_again expected next) refl
session_by base (Some session) expected small next = rw (session_again base session (small session refl), expected_again expected next) refl

pub session_body_again : (base : List ℕ) (v : SessionBody) → ((n : ℕ) → v.session ≡ Some n → n < 2 ^ 64) → v.expected < 2 ^ 64 → session_at base (session_data base v) ≡ Ok v
session_body_again base v small next = session_by base v.session v.expected small next

-- ---- lists and pages

value_plain : (items : List Item) → ArePlain 4 (value_members items)
value_plain items = put_plain 4 (codes "value") (array (listed item_data items no_items)) no_members (array_plain 3 _ (listed_plain 3 item_data items item_plain)) (none_plain 4)

next_plain : (n : ℕ) (link : Option (List ℕ)) → IfSome (option_map string link) (IsPlain n)
next_plain n None = tt
next_plain n (Some text) = string_plain n text

pub children_plain : (base : List ℕ) (v : ChildList) → IsPlain 5 (children_data base v)
unfolding children_data
children_plain base v = object_plain 4 _ (put_optional_plain 4 (codes "@odata.nextLink") (option_map string (next_link base (parent_of_first v.items) v.next)) (value_members v.items) (next_plain 4 _) (value_plain v.items))

children_by : (base : List ℕ) (items : List Item) (parent : Option ItemId) (next : Option (List ℕ)) → parent_of_first items ≡ parent → MayGoOn parent next → items_in (listed item_data items no_items) ≡ Some items
    → children_at base (children_data base (record { items = items; next = next })) ≡ Ok (record { items = items; next = next })
unfolding children_at children_data
children_by base items None None is goes whole = rw (is, whole) refl
children_by base items None (Some name) is goes whole = absurd goes
children_by base items (Some parent) None is goes whole = rw (is, whole) refl
children_by base items (Some parent) (Some name) is goes whole = rw (is, whole, is, name_again base name parent goes) refl

pub children_again : (base : List ℕ) (v : ChildList) → IsWritableList v → All IsKnown v.items → children_at base (children_data base v) ≡ Ok v
children_again base v writable known = children_by base v.items (parent_of_first v.items) v.next refl writable.next (items_again v.items writable.items known)

link_plain : (base : List ℕ) (link : PageLink) (items : List Item) → ArePlain 4 (put_link base link (value_members items))
link_plain base (Next token) items = put_plain 4 (codes "@odata.nextLink") (string (delta_link base token)) (value_members items) (string_plain 4 (delta_link base token)) (value_plain items)
link_plain base (Delta token) items = put_plain 4 (codes "@odata.deltaLink") (string (delta_link base token)) (value_members items) (string_plain 4 (delta_link base token)) (value_plain items)

pub page_plain : (base : List ℕ) (v : Page) → IsPlain 5 (page_data base v)
unfolding page_data
page_plain base v = object_plain 4 _ (link_plain base v.link v.items)

page_by : (base : List ℕ) (items : List Item) (link : PageLink) → is_token (token_of link) ≡ true → items_in (listed item_data items no_items) ≡ Some items
    → page_at base (page_data base (record { items = items; link = link })) ≡ Ok (record { items = items; link = link })
unfolding page_at page_data
page_by base items (Next token) valid whole = rw (whole, token_again base token valid) refl
page_by base items (Delta token) valid whole = rw (whole, token_again base token valid) refl

pub page_again : (base : List ℕ) (v : Page) → IsWritablePage v → All IsKnown v.items → page_at base (page_data base v) ≡ Ok v
page_again base v writable known = page_by base v.items v.link writable.token (items_again v.items writable.items known)
