-- A written target names what it was written for.
use Rattle.std.proofs.Common.{◌≡◌, ℕ, ◌^◌, ◌<◌, Bool, true, false, not, List, [], ◌∷◌, ◌++◌, length, take, drop, nat_eq, Option, Some, None, All, refl, sym, ap, ◌∙◌, arith, append_assoc, append-nil, length-append}
use Rattle.std.specs.Prelude.{codes, unwrap_or, option_and_then}
use Rattle.std.specs.Cmp.Lexicographic.{pointwise, bytes_decides}
use Rattle.std.specs.Fmt.{decimal}
use Rattle.std.proofs.Math.Seq.{take-append_seam, drop-append_seam}
use Rattle.std.proofs.lemmas.Bool.{cond-true, cond-false, eq-eqb}
use Rattle.std.proofs.lemmas.Bool.Decides.{nat_tests}
use Rattle.std.proofs.lemmas.List.Elements.{All-head, All-tail}
use Rattle.gd_names.specs.Escapes.{escaped, unescaped, IsSegmentName}
use Rattle.gd_names.specs.Paths.{path_text, path_of_text}
use Rattle.gd_names.specs.declared.conflict.Conflict.{Conflict}
use Rattle.gd_names.specs.declared.conflict.Conflict.TheVariants.{Fail, Replace, Rename}
use Rattle.gd_names.proofs.ReadBack.{escapes_read_back, paths_read_back}
use Rattle.gd_item.specs.Written.{IsWrittenAddress, IsWritten, IsWrittenToken, is_token_byte}
use Rattle.gd_item.specs.Ids.{hex_digits}
use Rattle.gd_item.specs.declared.id.ItemId.{ItemId}
use Rattle.gd_item.specs.declared.request.Address.{Address}
use Rattle.gd_item.specs.declared.request.Address.TheVariants.{Id, ByPath, Child}
use Rattle.gd_item.specs.declared.request.Request.{Request}
use Rattle.gd_item.specs.declared.request.Request.TheVariants as request
use Rattle.gd_item.proofs.Hex.{length-hex_digits}
use Rattle.gd_json.specs.Changes.{behaviour_text}
use Rattle.gd_json.specs.Links.{past}
use Rattle.gd_json.specs.Numbers.{number_of_text, item_id_of, id_written}
use Rattle.gd_json.proofs.Ids.{id_again, number_again}
use Rattle.gd_target.specs.declared.resource.Resource.{Resource}
use Rattle.gd_target.specs.declared.resource.Resource.TheVariants as of
use Rattle.gd_target.specs.Asked.{resource_asked, query_asked, IsKnownAddress, IsKnown, IsReadAgain}
use Rattle.gd_target.specs.Cuts.{before, cut, front, behind}
use Rattle.gd_target.specs.Resources.{under, address_of, by_path, at_root, by_name, of_item, at_item, in_drive, of_version, download_of, session_of, beside_drive, resource_of, named_by}
use Rattle.gd_target.specs.Targets.{item_text, name_text, address_text, before_part, part_text, skip_text, children_text, behaviour_query, content_text, downloads_text, version_text, download_text, session_text, delta_text, target_text}
use Rattle.gd_target.proofs.Plain.{Passes, literal, joined, weaker, is_plain, is_visible, is_path_byte, is_member_byte, plain_visible, plain_path, plain_member, plain_no_colon, path_visible, path_no_mark, member_visible, name_plain, path_pass, id_plain, decimal_plain}

-- ---- cuts

by_not : (t : Bool) → not t ≡ true → t ≡ false
by_not true e = sym e
by_not false e = refl

pub cut_nowhere : (at : ℕ) (text : List ℕ) → Passes (λ b. not (nat_eq b at)) text → cut at text ≡ (text, None)
unfolding cut
cut_nowhere at [] all = refl
cut_nowhere at (b ∷ text) all =
    cond-false (nat_eq b at) ([], Some text) (before b (cut at text)) (by_not (nat_eq b at) (All-head (λ b. not (nat_eq b at) ≡ true) b text all))
    ∙ ap (before b) (cut_nowhere at text (All-tail (λ b. not (nat_eq b at) ≡ true) b text all))

pub cut_there : (at : ℕ) (text rest : List ℕ) → Passes (λ b. not (nat_eq b at)) text → cut at (text ++ at ∷ rest) ≡ (text, Some rest)
unfolding cut
cut_there at [] rest all = cond-true (nat_eq at at) ([], Some rest) (before at (cut at rest)) (eq-eqb at at refl)
cut_there at (b ∷ text) rest all =
    cond-false (nat_eq b at) ([], Some (text ++ at ∷ rest)) (before b (cut at (text ++ at ∷ rest))) (by_not (nat_eq b at) (All-head (λ b. not (nat_eq b at) ≡ true) b text all))
    ∙ ap (before b) (cut_there at text rest (All-tail (λ b. not (nat_eq b at) ≡ true) b text all))

-- ---- what stands behind an address

data Place : Type 0 where
  whole children content uploads : Place

behind_of : Place → List ℕ
behind_of whole = []
behind_of children = codes "/children"
behind_of content = codes "/content"
behind_of uploads = codes "/createUploadSession"

-- the same after an address that a colon ends
after_of : Place → List ℕ
after_of whole = []
after_of children = codes ":/children"
after_of content = codes ":/content"
after_of uploads = codes ":/createUploadSession"

text_at : Address → Place → List ℕ
text_at at whole = address_text at
text_at at children = part_text at (codes "children")
text_at at content = part_text at (codes "content")
text_at at uploads = part_text at (codes "createUploadSession")

named : Address → Place → Resource
named at whole = of.Item at
named at children = of.Children at
named at content = of.Content at
named at uploads = of.Uploads at

under_named : (at : Address) (p : Place) → under at (behind_of p) ≡ Some (named at p)
unfolding under behind_of named
under_named at whole = refl
under_named at children = refl
under_named at content = refl
under_named at uploads = refl

-- what is read before the colon is there, and the rest is what stands behind it
cut_is : (text part : List ℕ) (rest : Option (List ℕ)) → cut 58 text ≡ (part, rest) → (front 58 text ≡ part) × (behind 58 text ≡ unwrap_or rest [])
cut_is text part rest e = (ap (λ (p : List ℕ × Option (List ℕ)). p.0) e, ap (λ (p : List ℕ × Option (List ℕ)). unwrap_or p.1 []) e)

cut_after : (text : List ℕ) (p : Place) → Passes (λ b. not (nat_eq b 58)) text → (front 58 (text ++ after_of p) ≡ text) × (behind 58 (text ++ after_of p) ≡ behind_of p)
unfolding after_of behind_of
cut_after text whole all = cut_is (text ++ []) text None (ap (cut 58) (append-nil text) ∙ cut_nowhere 58 text all)
cut_after text children all = cut_is (text ++ codes ":/children") text (Some (codes "/children")) (cut_there 58 text (codes "/children") all)
cut_after text content all = cut_is (text ++ codes ":/content") text (Some (codes "/content")) (cut_there 58 text (codes "/content") all)
cut_after text uploads all = cut_is (text ++ codes ":/createUploadSession") text (Some (codes "/createUploadSession")) (cut_there 58 text (codes "/createUploadSession") all)

-- ---- addresses

address_named : (path : List (List ℕ)) → 0 < length path → address_of path ≡ ByPath path
address_named [] some = absurd (omega arith)
address_named (name ∷ names) some = refl

by_path_again : (path : List (List ℕ)) (p : Place) → 0 < length path → All IsSegmentName path → by_path (path_text path ++ after_of p) ≡ Some (named (ByPath path) p)
unfolding by_path
by_path_again path p some are =
    let text = path_text path ++ after_of p in
    let parts = cut_after (path_text path) p (path_pass (λ b. not (nat_eq b 58)) refl plain_no_colon path) in
    ap (λ (t : List ℕ). option_and_then (λ path. under (address_of path) (behind 58 text)) (path_of_text t)) parts.0
    ∙ ap (λ (o : Option (List (List ℕ))). option_and_then (λ path. under (address_of path) (behind 58 text)) o) (paths_read_back path are)
    ∙ ap (λ (t : List ℕ). under (address_of path) t) parts.1 ∙ ap (λ at. under at (behind_of p)) (address_named path some) ∙ under_named (ByPath path) p

past_slash : (text : List ℕ) → past (codes "/") (47 ∷ text) ≡ Some text
unfolding past
past_slash text = refl

by_name_again : (id : ItemId) (name : List ℕ) (p : Place) → IsSegmentName name → by_name id (47 ∷ escaped name ++ after_of p) ≡ Some (named (Child id name) p)
unfolding by_name
by_name_again id name p is =
    let clean : Passes (λ b. not (nat_eq b 58)) (47 ∷ escaped name) =
    joined (λ b. not (nat_eq b 58)) (codes "/") (escaped name) (literal (λ b. not (nat_eq b 58)) (codes "/") refl) (weaker is_plain (λ b. not (nat_eq b 58)) plain_no_colon (escaped name) (name_plain name)) in
    let text : List ℕ = 47 ∷ escaped name ++ after_of p in
    let parts = cut_after (47 ∷ escaped name) p clean in
    ap (λ (t : List ℕ). option_and_then (λ name. under (Child id name) (behind 58 text)) (option_and_then unescaped (past (codes "/") t))) parts.0
    ∙ ap (λ (o : Option (List ℕ)). option_and_then (λ name. under (Child id name) (behind 58 text)) (option_and_then unescaped o)) (past_slash (escaped name))
    ∙ ap (λ (o : Option (List ℕ)). option_and_then (λ name. under (Child id name) (behind 58 text)) o) (escapes_read_back name is)
    ∙ ap (λ (t : List ℕ). under (Child id name) t) parts.1 ∙ under_named (Child id name) p

length_id : (id : ItemId) → length (id_written id) ≡ 20
unfolding id_written
length_id id = omega (arith, length-append (codes "01GD") (hex_digits 16 id.0), length-hex_digits 16 id.0)

take_id : (id : ItemId) (rest : List ℕ) → take 20 (id_written id ++ rest) ≡ id_written id
take_id id rest = ap (λ n. take n (id_written id ++ rest)) (sym (length_id id)) ∙ take-append_seam (id_written id) rest

drop_id : (id : ItemId) (rest : List ℕ) → drop 20 (id_written id ++ rest) ≡ rest
drop_id id rest = ap (λ n. drop n (id_written id ++ rest)) (sym (length_id id)) ∙ drop-append_seam (id_written id) rest

at_item_again : (id : ItemId) (rest : List ℕ) → 0 < id.0 → id.0 < 2 ^ 64 → at_item (id_written id ++ rest) ≡ of_item id rest
unfolding at_item
at_item_again id rest some small = rw (take_id id rest, drop_id id rest, id_again id some small) refl

of_item_named : (id : ItemId) (p : Place) → of_item id (behind_of p) ≡ Some (named (Id id) p)
unfolding of_item past under behind_of named
of_item_named id whole = refl
of_item_named id children = refl
of_item_named id content = refl
of_item_named id uploads = refl

of_item_colon : (id : ItemId) (text : List ℕ) → of_item id (58 ∷ text) ≡ by_name id text
unfolding of_item past
of_item_colon id text = refl

-- ---- the front of a path

in_items : (text : List ℕ) → resource_of (codes "/v1.0/me/drive/items/" ++ text) ≡ at_item text
unfolding resource_of in_drive past
in_items text = refl

in_root : (text : List ℕ) → resource_of (codes "/v1.0/me/drive/root:" ++ text) ≡ by_path text
unfolding resource_of in_drive at_root past
in_root text = refl

id_text_at : (id : ItemId) (p : Place) → text_at (Id id) p ≡ codes "/v1.0/me/drive/items/" ++ (id_written id ++ behind_of p)
unfolding text_at behind_of address_text part_text item_text
id_text_at id whole = ap (λ (t : List ℕ). codes "/v1.0/me/drive/items/" ++ t) (sym (append-nil (id_written id)))
id_text_at id children = append_assoc (codes "/v1.0/me/drive/items/") (id_written id) (codes "/children")
id_text_at id content = append_assoc (codes "/v1.0/me/drive/items/") (id_written id) (codes "/content")
id_text_at id uploads = append_assoc (codes "/v1.0/me/drive/items/") (id_written id) (codes "/createUploadSession")

path_text_at : (path : List (List ℕ)) (p : Place) → text_at (ByPath path) p ≡ codes "/v1.0/me/drive/root:" ++ (path_text path ++ after_of p)
unfolding text_at after_of address_text part_text
path_text_at path whole = ap (λ (t : List ℕ). codes "/v1.0/me/drive/root:" ++ t) (sym (append-nil (path_text path)))
path_text_at path children = append_assoc (codes "/v1.0/me/drive/root:") (path_text path) (codes ":/children")
path_text_at path content = append_assoc (codes "/v1.0/me/drive/root:") (path_text path) (codes ":/content")
path_text_at path uploads = append_assoc (codes "/v1.0/me/drive/root:") (path_text path) (codes ":/createUploadSession")

child_front : (id : ItemId) (name : List ℕ) → address_text (Child id name) ≡ codes "/v1.0/me/drive/items/" ++ (id_written id ++ (codes ":/" ++ escaped name))
unfolding address_text item_text name_text
child_front id name = append_assoc (codes "/v1.0/me/drive/items/") (id_written id) (codes ":/" ++ escaped name)

child_behind : (id : ItemId) (name rest : List ℕ) → address_text (Child id name) ++ rest ≡ codes "/v1.0/me/drive/items/" ++ (id_written id ++ (58 ∷ (47 ∷ escaped name ++ rest)))
child_behind id name rest =
    ap (λ (t : List ℕ). t ++ rest) (child_front id name) ∙ append_assoc (codes "/v1.0/me/drive/items/") (id_written id ++ (codes ":/" ++ escaped name)) rest
    ∙ ap (λ (t : List ℕ). codes "/v1.0/me/drive/items/" ++ t) (append_assoc (id_written id) (codes ":/" ++ escaped name) rest)

child_text_at : (id : ItemId) (name : List ℕ) (p : Place) → text_at (Child id name) p ≡ codes "/v1.0/me/drive/items/" ++ (id_written id ++ (58 ∷ (47 ∷ escaped name ++ after_of p)))
unfolding text_at after_of part_text
child_text_at id name whole = sym (append-nil (address_text (Child id name))) ∙ child_behind id name []
child_text_at id name children = child_behind id name (codes ":/children")
child_text_at id name content = child_behind id name (codes ":/content")
child_text_at id name uploads = child_behind id name (codes ":/createUploadSession")

text_named : (at : Address) (p : Place) → IsWrittenAddress at → IsKnownAddress at → resource_of (text_at at p) ≡ Some (named at p)
text_named (Id id) p is known = ap resource_of (id_text_at id p) ∙ in_items (id_written id ++ behind_of p) ∙ at_item_again id (behind_of p) is known ∙ of_item_named id p
text_named (ByPath path) p is known = ap resource_of (path_text_at path p) ∙ in_root (path_text path ++ after_of p) ∙ by_path_again path p is.0 is.1
text_named (Child id name) p is known =
    ap resource_of (child_text_at id name p) ∙ in_items (id_written id ++ (58 ∷ (47 ∷ escaped name ++ after_of p)))
    ∙ at_item_again id (58 ∷ (47 ∷ escaped name ++ after_of p)) is.0 known ∙ of_item_colon id (47 ∷ escaped name ++ after_of p) ∙ by_name_again id name p is.1

-- ---- the bytes of a path

behind_pass : (p : Place) → Passes is_path_byte (behind_of p)
unfolding behind_of
behind_pass whole = literal is_path_byte [] refl
behind_pass children = literal is_path_byte (codes "/children") refl
behind_pass content = literal is_path_byte (codes "/content") refl
behind_pass uploads = literal is_path_byte (codes "/createUploadSession") refl

after_pass : (p : Place) → Passes is_path_byte (after_of p)
unfolding after_of
after_pass whole = literal is_path_byte [] refl
after_pass children = literal is_path_byte (codes ":/children") refl
after_pass content = literal is_path_byte (codes ":/content") refl
after_pass uploads = literal is_path_byte (codes ":/createUploadSession") refl

plain_passes : (text : List ℕ) → Passes is_plain text → Passes is_path_byte text
plain_passes text all = weaker is_plain is_path_byte plain_path text all

text_passes : (at : Address) (p : Place) → Passes is_path_byte (text_at at p)
text_passes (Id id) p =
    rw (id_text_at id p)
    (joined is_path_byte (codes "/v1.0/me/drive/items/") (id_written id ++ behind_of p) (literal is_path_byte (codes "/v1.0/me/drive/items/") refl)
    (joined is_path_byte (id_written id) (behind_of p) (plain_passes (id_written id) (id_plain id)) (behind_pass p)))
text_passes (ByPath path) p =
    rw (path_text_at path p)
    (joined is_path_byte (codes "/v1.0/me/drive/root:") (path_text path ++ after_of p) (literal is_path_byte (codes "/v1.0/me/drive/root:") refl)
    (joined is_path_byte (path_text path) (after_of p) (path_pass is_path_byte refl plain_path path) (after_pass p)))
text_passes (Child id name) p =
    rw (child_text_at id name p)
    (joined is_path_byte (codes "/v1.0/me/drive/items/") (id_written id ++ (58 ∷ (47 ∷ escaped name ++ after_of p))) (literal is_path_byte (codes "/v1.0/me/drive/items/") refl)
    (joined is_path_byte (id_written id) (58 ∷ (47 ∷ escaped name ++ after_of p)) (plain_passes (id_written id) (id_plain id))
    (joined is_path_byte (codes ":/") (escaped name ++ after_of p) (literal is_path_byte (codes ":/") refl)
    (joined is_path_byte (escaped name) (after_of p) (plain_passes (escaped name) (name_plain name)) (after_pass p)))))

-- a path that names something: it has no query, and is no batch
record IsPath (text : List ℕ) (r : Resource) : Type 0 where
  pub named : resource_of text ≡ Some r
  pub bytes : Passes is_path_byte text
  pub other : (more : List ℕ) → pointwise nat_eq (text ++ more) (codes "/v1.0/$batch") ≡ false
  pub some : 0 < length text

text_other : (at : Address) (p : Place) (more : List ℕ) → pointwise nat_eq (text_at at p ++ more) (codes "/v1.0/$batch") ≡ false
text_other (Id id) p more = rw (id_text_at id p) refl
text_other (ByPath path) p more = rw (path_text_at path p) refl
text_other (Child id name) p more = rw (child_text_at id name p) refl

text_some : (at : Address) (p : Place) → 0 < length (text_at at p)
text_some (Id id) p = rw (id_text_at id p) (omega arith)
text_some (ByPath path) p = rw (path_text_at path p) (omega arith)
text_some (Child id name) p = rw (child_text_at id name p) (omega arith)

path_at : (at : Address) (p : Place) → IsWrittenAddress at → IsKnownAddress at → IsPath (text_at at p) (named at p)
path_at at p is known = record { named = text_named at p is known; bytes = text_passes at p; other = text_other at p; some = text_some at p }

download_text_is : (id : ItemId) (version : ℕ) → download_text id version ≡ codes "/v1.0/download/" ++ (id_written id ++ (47 ∷ decimal version))
unfolding downloads_text version_text
download_text_is id version = append_assoc (codes "/v1.0/download/") (id_written id) (47 ∷ decimal version)

in_downloads : (text : List ℕ) → resource_of (codes "/v1.0/download/" ++ text) ≡ download_of text
unfolding resource_of beside_drive past
in_downloads text = refl

of_version_again : (id : ItemId) (version : ℕ) → version < 2 ^ 64 → of_version id (47 ∷ decimal version) ≡ Some (of.Download id version)
unfolding of_version past
of_version_again id version small = rw (number_again version small) refl

download_again : (id : ItemId) (version : ℕ) → 0 < id.0 → id.0 < 2 ^ 64 → version < 2 ^ 64 → download_of (id_written id ++ (47 ∷ decimal version)) ≡ Some (of.Download id version)
unfolding download_of
download_again id version some small below = rw (take_id id (47 ∷ decimal version), drop_id id (47 ∷ decimal version), id_again id some small) (of_version_again id version below)

path_of_download : (id : ItemId) (version : ℕ) → 0 < id.0 → id.0 < 2 ^ 64 → version < 2 ^ 64 → IsPath (download_text id version) (of.Download id version)
path_of_download id version some small below = record {
  named = ap resource_of (download_text_is id version) ∙ in_downloads (id_written id ++ (47 ∷ decimal version)) ∙ download_again id version some small below;
  bytes = rw (download_text_is id version)
      (joined is_path_byte (codes "/v1.0/download/") (id_written id ++ (47 ∷ decimal version)) (literal is_path_byte (codes "/v1.0/download/") refl)
      (joined is_path_byte (id_written id) (47 ∷ decimal version) (plain_passes (id_written id) (id_plain id))
      (joined is_path_byte (codes "/") (decimal version) (literal is_path_byte (codes "/") refl) (plain_passes (decimal version) (decimal_plain version below)))));
  other = λ more. rw (download_text_is id version) refl;
  some = rw (download_text_is id version) (omega arith);
}

in_uploads : (text : List ℕ) → resource_of (codes "/v1.0/upload/" ++ text) ≡ session_of text
unfolding resource_of beside_drive past
in_uploads text = refl

session_again : (session : ℕ) → session < 2 ^ 64 → session_of (decimal session) ≡ Some (of.Session session)
unfolding session_of
session_again session small = rw (number_again session small) refl

session_text_is : (session : ℕ) → session_text session ≡ codes "/v1.0/upload/" ++ decimal session
unfolding session_text
session_text_is session = refl

path_of_session : (session : ℕ) → session < 2 ^ 64 → IsPath (session_text session) (of.Session session)
path_of_session session small = record {
  named = ap resource_of (session_text_is session) ∙ in_uploads (decimal session) ∙ session_again session small;
  bytes = rw (session_text_is session)
      (joined is_path_byte (codes "/v1.0/upload/") (decimal session) (literal is_path_byte (codes "/v1.0/upload/") refl) (plain_passes (decimal session) (decimal_plain session small)));
  other = λ more. rw (session_text_is session) refl;
  some = rw (session_text_is session) (omega arith);
}

delta_named : resource_of (codes "/v1.0/me/drive/root/delta") ≡ Some of.Changes
unfolding resource_of in_drive at_root past
delta_named = refl

path_of_delta : IsPath (codes "/v1.0/me/drive/root/delta") of.Changes
path_of_delta = record { named = delta_named; bytes = literal is_path_byte (codes "/v1.0/me/drive/root/delta") refl; other = λ more. refl; some = omega arith }

-- ---- targets

-- what a target says that is a path, and maybe a query
record Says (target : List ℕ) (r : Resource) (asks : Option (List ℕ)) : Type 0 where
  pub resource : named_by target ≡ Some r
  pub query : (cut 63 target).1 ≡ asks
  pub some : 0 < length target
  pub visible : Passes is_visible target

no_mark : (text : List ℕ) → Passes is_path_byte text → Passes (λ b. not (nat_eq b 63)) text
no_mark text all = weaker is_path_byte (λ b. not (nat_eq b 63)) path_no_mark text all

named_by_path : (text : List ℕ) (r : Resource) → IsPath text r → pointwise nat_eq text (codes "/v1.0/$batch") ≡ false → named_by text ≡ Some r
unfolding named_by
named_by_path text r is other =
    cond-false (pointwise nat_eq text (codes "/v1.0/$batch")) (Some of.Batch) (resource_of (front 63 text)) other
    ∙ ap (λ (p : List ℕ × Option (List ℕ)). resource_of p.0) (cut_nowhere 63 text (no_mark text is.bytes)) ∙ is.named

named_by_query : (text query : List ℕ) (r : Resource) → IsPath text r → named_by (text ++ 63 ∷ query) ≡ Some r
unfolding named_by
named_by_query text query r is =
    cond-false (pointwise nat_eq (text ++ 63 ∷ query) (codes "/v1.0/$batch")) (Some of.Batch) (resource_of (front 63 (text ++ 63 ∷ query))) (is.other (63 ∷ query))
    ∙ ap (λ (p : List ℕ × Option (List ℕ)). resource_of p.0) (cut_there 63 text query (no_mark text is.bytes)) ∙ is.named

alone : (text : List ℕ) (r : Resource) → IsPath text r → Says text r None
alone text r is = record {
  resource = named_by_path text r is (ap (λ t. pointwise nat_eq t (codes "/v1.0/$batch")) (sym (append-nil text)) ∙ is.other []);
  query = ap (λ (p : List ℕ × Option (List ℕ)). p.1) (cut_nowhere 63 text (no_mark text is.bytes));
  some = is.some;
  visible = weaker is_path_byte is_visible path_visible text is.bytes;
}

with_query : (text query : List ℕ) (r : Resource) → IsPath text r → Passes is_visible query → Says (text ++ 63 ∷ query) r (Some query)
with_query text query r is bytes = record {
  resource = named_by_query text query r is;
  query = ap (λ (p : List ℕ × Option (List ℕ)). p.1) (cut_there 63 text query (no_mark text is.bytes));
  some = omega (arith, is.some, length-append text (63 ∷ query));
  visible = joined is_visible text (63 ∷ query) (weaker is_path_byte is_visible path_visible text is.bytes) (joined is_visible (codes "?") query (literal is_visible (codes "?") refl) bytes);
}

token_visible : (b : ℕ) → is_token_byte b ≡ true → is_visible b ≡ true
token_visible b token = grind (arith, nat_tests)

behaviour_visible : (behaviour : Conflict) → Passes is_visible (behaviour_text behaviour)
behaviour_visible Fail = literal is_visible (codes "fail") refl
behaviour_visible Replace = literal is_visible (codes "replace") refl
behaviour_visible Rename = literal is_visible (codes "rename") refl

said_after : (at : Address) (name : List ℕ) → IsPath (text_at at children) (named at children) → Says (text_at at children ++ skip_text name) (named at children) (Some (codes "$skiptoken=" ++ escaped name))
unfolding skip_text
said_after at name is =
    with_query (text_at at children) (codes "$skiptoken=" ++ escaped name) (named at children) is
    (joined is_visible (codes "$skiptoken=") (escaped name) (literal is_visible (codes "$skiptoken=") refl) (weaker is_plain is_visible plain_visible (escaped name) (name_plain name)))

said_behaviour : (at : Address) (behaviour : Conflict) → IsPath (text_at at content) (named at content)
    → Says (text_at at content ++ behaviour_query behaviour) (named at content) (Some (codes "@microsoft.graph.conflictBehavior=" ++ behaviour_text behaviour))
unfolding behaviour_query
said_behaviour at behaviour is =
    with_query (text_at at content) (codes "@microsoft.graph.conflictBehavior=" ++ behaviour_text behaviour) (named at content) is
    (joined is_visible (codes "@microsoft.graph.conflictBehavior=") (behaviour_text behaviour) (literal is_visible (codes "@microsoft.graph.conflictBehavior=") refl) (behaviour_visible behaviour))

said_delta : (token : List ℕ) → IsWrittenToken token → Says (codes "/v1.0/me/drive/root/delta" ++ 63 ∷ (codes "token=" ++ token)) of.Changes (Some (codes "token=" ++ token))
said_delta token is =
    with_query (codes "/v1.0/me/drive/root/delta") (codes "token=" ++ token) of.Changes path_of_delta
    (joined is_visible (codes "token=") token (literal is_visible (codes "token=") refl) (weaker is_token_byte is_visible token_visible token is.1))

said : (r : Request) → IsWritten r → IsKnown r → Says (target_text r) (resource_asked r) (query_asked r)
unfolding target_text text_at named delta_text
said (request.Get at) is known = alone (text_at at whole) (named at whole) (path_at at whole is known)
said (request.Children at None) is known = alone (text_at at children) (named at children) (path_at at children is.0 known)
said (request.Children at (Some name)) is known = said_after at name (path_at at children is.0 known)
said (request.MakeFolder at name behaviour) is known = alone (text_at at children) (named at children) (path_at at children is known)
said (request.Put at bytes behaviour condition) is known = said_behaviour at behaviour (path_at at content is.0 known)
said (request.Patch at name parent condition) is known = alone (text_at at whole) (named at whole) (path_at at whole is.0 known.0)
said (request.Delete at condition) is known = alone (text_at at whole) (named at whole) (path_at at whole is.0 known)
said (request.Content at) is known = alone (text_at at content) (named at content) (path_at at content is known)
said (request.Download id version) is known = alone (download_text id version) (of.Download id version) (path_of_download id version is known.0 known.1)
said (request.OpenSession at name behaviour condition defer) is known = alone (text_at at uploads) (named at uploads) (path_at at uploads is.0 known)
said (request.Fragment session first last total bytes) is known = alone (session_text session) (of.Session session) (path_of_session session known.0)
said (request.SessionStatus session) is known = alone (session_text session) (of.Session session) (path_of_session session known)
said (request.CancelSession session) is known = alone (session_text session) (of.Session session) (path_of_session session known)
said (request.Finish session) is known = alone (session_text session) (of.Session session) (path_of_session session known)
said (request.Delta None) is known = alone (codes "/v1.0/me/drive/root/delta") of.Changes path_of_delta
said (request.Delta (Some token)) is known = said_delta token is

pub read_again : (r : Request) → IsWritten r → IsKnown r → IsReadAgain r
read_again r is known = let s = said r is known in record { resource = s.resource; query = s.query; some = s.some; visible = s.visible }

-- the link of a version is read as that version
pub found_again : (id : ItemId) (version : ℕ) → 0 < id.0 → id.0 < 2 ^ 64 → version < 2 ^ 64
    → (past (codes "/v1.0/download/") (download_text id version) ≡ Some (id_written id ++ (47 ∷ decimal version))) × (download_of (id_written id ++ (47 ∷ decimal version)) ≡ Some (of.Download id version))
unfolding past
found_again id version some small below = (rw (download_text_is id version) refl, download_again id version some small below)

pub download_visible : (id : ItemId) (version : ℕ) → 0 < id.0 → id.0 < 2 ^ 64 → version < 2 ^ 64 → Passes is_visible (download_text id version)
download_visible id version some small below = weaker is_path_byte is_visible path_visible (download_text id version) (path_of_download id version some small below).bytes
