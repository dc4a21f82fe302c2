-- Entries that compare as the same with a drive's tree are those of a scan of it. Trees that compare as the same are the same,
-- where no two unlike contents have one digest, and trees that are the same compare as the same.
use Rattle.std.proofs.Common.{◌≡◌, ℕ, true, List, [], ◌∷◌, map, nat_eq, Option, Some, None, refl, ap, sym, ◌∙◌}
use Rattle.std.proofs.lemmas.Bool.{and_parts, and_from}
use Rattle.std.specs.Cmp.Lexicographic.{pointwise, same_text}
use Rattle.std.specs.List.{AllByRecursion, Contains}
use Rattle.sha2.specs.Sha256.{sha256}
use Rattle.gd_item.specs.Records.{digest_record, kind_at, record_of}
use Rattle.gd_item.specs.declared.digest.Digest.{Digest}
use Rattle.gd_item.specs.declared.item.Item.{Item}
use Rattle.gd_item.specs.declared.live.LiveItem.{LiveItem}
use Rattle.od_tree.proofs.Contents.{IsAmong}
use Rattle.od_tree.proofs.Paths.{path-self, same-path, text-self}
use Rattle.od_sync.specs.Comparing.{is_same, is_same_entry, is_same_node, node_of, scanned}
use Rattle.od_sync.specs.declared.scanning.Node.{Node}
use Rattle.od_sync.specs.declared.scanning.Node.TheVariants.{Folder, File}

-- those of one digest are the same
abbrev pub AreApart : List (List ℕ) → Type 0
AreApart known = (a b : List ℕ) → Contains known a → Contains known b → sha256 a ≡ sha256 b → a ≡ b

-- the entries of a drive's tree, with the record of each
abbrev pub Shows : List LiveItem → List (List (List ℕ) × LiveItem) → List (List (List ℕ) × Item)
Shows all placed = map (λ (entry : List (List ℕ) × LiveItem). (entry.0, record_of all entry.1)) placed

abbrev pub bytes_of : List (List (List ℕ) × LiveItem) → List (List (List ℕ) × Option (List ℕ))
bytes_of placed = map (λ (entry : List (List ℕ) × LiveItem). (entry.0, entry.1.bytes)) placed

-- ---- what was found is what a scan of the tree shows
pub same-file : (a b : Digest) → pointwise nat_eq a.0 b.0 ≡ true → File a ≡ File b
same-file a b is = ap (λ (text : List ℕ). File (record { 0 = text })) (same_text a.0 b.0 (sym is))

same-found : (node : Node) (bytes : Option (List ℕ)) (number : ℕ) (all : List LiveItem) → is_same_node node (kind_at bytes number all) ≡ true → node ≡ node_of bytes
same-found Folder None number all is = refl
same-found Folder (Some bytes) number all is = absurd (cc is)
same-found (File digest) None number all is = absurd (cc is)
same-found (File digest) (Some bytes) number all is = same-file digest (digest_record bytes) is

pub same-scanned : (all : List LiveItem) (found : List (List (List ℕ) × Node)) (placed : List (List (List ℕ) × LiveItem)) → is_same found (Shows all placed) ≡ true
    → found ≡ scanned (bytes_of placed)
same-scanned all [] [] is = refl
same-scanned all [] (b ∷ placed) is = absurd (cc is)
same-scanned all (a ∷ found) [] is = absurd (cc is)
same-scanned all (a ∷ found) (b ∷ placed) is =
    let first = and_parts (is_same_entry a (b.0, record_of all b.1)) (is_same found (Shows all placed)) is in
    let parts = and_parts (pointwise (pointwise nat_eq) a.0 b.0) (is_same_node a.1 (record_of all b.1).kind) first.0 in
    let same_first : a ≡ (b.0, node_of b.1.bytes) =
    ap (λ path. (path, a.1)) (same-path a.0 b.0 parts.0) ∙ ap (λ node. (b.0, node)) (same-found a.1 b.1.bytes b.1.number all parts.1) in
    ap (λ entry. entry ∷ found) same_first ∙ ap (λ rest. (b.0, node_of b.1.bytes) ∷ rest) (same-scanned all found placed first.1)

-- ---- trees that compare as the same
same-node : (known : List (List ℕ)) (ours theirs : Option (List ℕ)) (number : ℕ) (all : List LiveItem) → AreApart known → IsAmong known ours → IsAmong known theirs
    → is_same_node (node_of ours) (kind_at theirs number all) ≡ true → ours ≡ theirs
same-node known None None number all apart first second is = refl
same-node known None (Some y) number all apart first second is = absurd (cc is)
same-node known (Some x) None number all apart first second is = absurd (cc is)
same-node known (Some x) (Some y) number all apart first second is =
    ap (λ bytes. Some bytes) (apart x y first second (same_text (sha256 x) (sha256 y) (sym is)))

pub same-trees : (known : List (List ℕ)) (all : List LiveItem) (local : List (List (List ℕ) × Option (List ℕ))) (placed : List (List (List ℕ) × LiveItem)) → AreApart known
    → AllByRecursion (λ (entry : List (List ℕ) × Option (List ℕ)). IsAmong known entry.1) local
    → AllByRecursion (λ (entry : List (List ℕ) × LiveItem). IsAmong known entry.1.bytes) placed
    → is_same (scanned local) (Shows all placed) ≡ true → local ≡ bytes_of placed
same-trees known all [] [] apart ours theirs is = refl
same-trees known all [] (b ∷ placed) apart ours theirs is = absurd (cc is)
same-trees known all (a ∷ local) [] apart ours theirs is = absurd (cc is)
same-trees known all (a ∷ local) (b ∷ placed) apart ours theirs is =
    let first = and_parts (is_same_entry (a.0, node_of a.1) (b.0, record_of all b.1)) (is_same (scanned local) (Shows all placed)) is in
    let parts = and_parts (pointwise (pointwise nat_eq) a.0 b.0) (is_same_node (node_of a.1) (record_of all b.1).kind) first.0 in
    let same_first : a ≡ (b.0, b.1.bytes) =
    ap (λ path. (path, a.1)) (same-path a.0 b.0 parts.0)
    ∙ ap (λ entry. (b.0, entry)) (same-node known a.1 b.1.bytes b.1.number all apart ours.0 theirs.0 parts.1) in
    ap (λ entry. entry ∷ local) same_first
    ∙ ap (λ rest. (b.0, b.1.bytes) ∷ rest) (same-trees known all local placed apart ours.1 theirs.1 first.1)

node-self : (bytes : Option (List ℕ)) (number : ℕ) (all : List LiveItem) → is_same_node (node_of bytes) (kind_at bytes number all) ≡ true
node-self None number all = refl
node-self (Some bytes) number all = text-self (sha256 bytes)

pub same-entries : (all : List LiveItem) (placed : List (List (List ℕ) × LiveItem)) → is_same (scanned (bytes_of placed)) (Shows all placed) ≡ true
same-entries all [] = refl
same-entries all (b ∷ placed) =
    and_from (is_same_entry (b.0, node_of b.1.bytes) (b.0, record_of all b.1)) (is_same (scanned (bytes_of placed)) (Shows all placed))
    (and_from (pointwise (pointwise nat_eq) b.0 b.0) (is_same_node (node_of b.1.bytes) (record_of all b.1).kind) (path-self b.0) (node-self b.1.bytes b.1.number all))
    (same-entries all placed)
