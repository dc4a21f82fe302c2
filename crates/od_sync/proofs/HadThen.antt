-- What is made of a plan from both sides is what the drive had when it was asked.
use Rattle.std.proofs.Common.{◌≡◌, ℕ, true, List, [], ◌∷◌, ◌++◌, filter, map, nat_eq, Option, refl, ap, sym, subst, ◌∙◌, append_assoc}
use Rattle.std.proofs.lemmas.List.Elements.{All-nil, All-cons, All-head, All-tail, All-filter, All-contains, All-contains_itself}
use Rattle.std.specs.Cmp.Lexicographic.{pointwise}
use Rattle.std.specs.List.{All, AllByRecursion, Contains, cons_option}
use Rattle.gd_item.specs.Records.{digest_record, records_of}
use Rattle.gd_item.specs.Steps.{held_by}
use Rattle.gd_item.specs.Trees.{tree_of}
use Rattle.gd_item.specs.declared.digest.Digest.{Digest}
use Rattle.gd_item.specs.declared.item.Item.{Item}
use Rattle.gd_item.specs.declared.item.Kind.{Kind}
use Rattle.gd_item.specs.declared.item.Kind.TheVariants as kind
use Rattle.gd_item.specs.declared.request.Request.TheVariants.{Delta}
use Rattle.gd_item.specs.declared.step.Step.{Step}
use Rattle.gd_item.specs.declared.step.Step.TheVariants.{Ask}
use Rattle.gd_item.specs.declared.step.Who.TheVariants.{Own}
use Rattle.gd_item.specs.Views.{uncounted}
use Rattle.od_keeper.specs.declared.image.BaseRow.{BaseRow}
use Rattle.od_mirror.specs.Pulled.{paths_of}
use Rattle.od_tree.specs.declared.step.LocalStep.{LocalStep}
use Rattle.od_tree.specs.declared.step.LocalStep.TheVariants.{User, Op}
use Rattle.od_tree.specs.declared.step.TreeOp.TheVariants as op
use Rattle.od_sync.specs.Comparing.{is_same, is_same_entry, is_same_node, scanned}
use Rattle.od_sync.specs.Doing.{IsMakingOf, IsFolderOf, IsFetchOf}
use Rattle.od_sync.specs.Planning.{file_in, fetches_of, folder_in, folders_of, is_new, is_wanted, planned_fetches, planned_folders}
use Rattle.od_sync.specs.Scans.{IsLook}
use Rattle.od_sync.specs.Syncs.{HadThen, IsFromDrive}
use Rattle.od_sync.specs.declared.planning.Fetching.{Fetching}
use Rattle.od_sync.specs.declared.scanning.Node.{Node}
use Rattle.od_sync.specs.declared.scanning.Node.TheVariants.{Folder, File}
use Rattle.gd_names.proofs.Each.{each-so}
use Rattle.od_tree.proofs.Paths.{same-path}
use Rattle.od_sync.proofs.Compared.{same-file}
use Rattle.od_sync.proofs.SameTrees.{drive-as-found}
use Rattle.std.proofs.lemmas.Bool.{and_parts}

abbrev Entry : Type 0
Entry = List (List ℕ) × Item

-- what the drive shows at a path stands among these nodes, so does a folder, and the file that a fetch asks for
abbrev IsShown : List (List (List ℕ) × Node) → List (List ℕ) → Kind → Type 0
IsShown nodes path (kind.Folder child_count) = Contains nodes (path, Folder)
IsShown nodes path (kind.File digest) = Contains nodes (path, File digest)
IsShown nodes path kind.Bare = Unit {0}
IsShown nodes path kind.Deleted = Unit {0}

abbrev IsEntryShown : List (List (List ℕ) × Node) → Entry → Type 0
IsEntryShown nodes entry = IsShown nodes entry.0 entry.1.kind

abbrev IsFolderShown : List (List (List ℕ) × Node) → List (List ℕ) → Type 0
IsFolderShown nodes path = Contains nodes (path, Folder)

abbrev IsFetchShown : List (List (List ℕ) × Node) → Fetching → Type 0
IsFetchShown nodes fetch = Contains nodes (fetch.path, File fetch.digest)

-- ---- entries that compare as the same with nodes are among them
kind-shown : (nodes : List (List (List ℕ) × Node)) (path : List (List ℕ)) (node : Node) (k : Kind) → Contains nodes (path, node) → is_same_node node k ≡ true → IsShown nodes path k
kind-shown nodes path Folder (kind.Folder child_count) there is = there
kind-shown nodes path Folder (kind.File digest) there is = absurd (cc is)
kind-shown nodes path Folder kind.Bare there is = tt
kind-shown nodes path Folder kind.Deleted there is = tt
kind-shown nodes path (File digest) (kind.Folder child_count) there is = absurd (cc is)
kind-shown nodes path (File digest) (kind.File other) there is =
    subst (λ (node : Node). Contains nodes (path, node)) (same-file digest other is) there
kind-shown nodes path (File digest) kind.Bare there is = tt
kind-shown nodes path (File digest) kind.Deleted there is = tt

entries-shown : (nodes found : List (List (List ℕ) × Node)) (remote : List Entry) → All (Contains nodes) found → is_same found remote ≡ true → All (IsEntryShown nodes) remote
entries-shown nodes [] [] there is = All-nil (IsEntryShown nodes)
entries-shown nodes [] (b ∷ remote) there is = absurd (cc is)
entries-shown nodes (a ∷ found) [] there is = absurd (cc is)
entries-shown nodes (a ∷ found) (b ∷ remote) there is =
    let first = and_parts (is_same_entry a b) (is_same found remote) is in
    let parts = and_parts (pointwise (pointwise nat_eq) a.0 b.0) (is_same_node a.1 b.1.kind) first.0 in
    All-cons (IsEntryShown nodes) b remote
    (kind-shown nodes b.0 a.1 b.1.kind
    (subst (λ (path : List (List ℕ)). Contains nodes (path, a.1)) (same-path a.0 b.0 parts.0) (All-head (Contains nodes) a found there)) parts.1)
    (entries-shown nodes found remote (All-tail (Contains nodes) a found there) first.1)

-- ---- what is planned
folder-shown : (nodes : List (List (List ℕ) × Node)) (entry : Entry) (k : Kind) (folders : List (List (List ℕ))) → IsShown nodes entry.0 k → All (IsFolderShown nodes) folders
    → All (IsFolderShown nodes) (cons_option (folder_in entry k) folders)
folder-shown nodes entry (kind.Folder child_count) folders shown all = All-cons (IsFolderShown nodes) entry.0 folders shown all
folder-shown nodes entry (kind.File digest) folders shown all = all
folder-shown nodes entry kind.Bare folders shown all = all
folder-shown nodes entry kind.Deleted folders shown all = all

folders-shown : (nodes : List (List (List ℕ) × Node)) (entries : List Entry) → All (IsEntryShown nodes) entries → All (IsFolderShown nodes) (folders_of entries)
folders-shown nodes [] all = All-nil (IsFolderShown nodes)
folders-shown nodes (entry ∷ entries) all =
    folder-shown nodes entry entry.1.kind (folders_of entries) (All-head (IsEntryShown nodes) entry entries all)
    (folders-shown nodes entries (All-tail (IsEntryShown nodes) entry entries all))

fetch-shown : (nodes : List (List (List ℕ) × Node)) (entry : Entry) (k : Kind) (fetches : List Fetching) → IsShown nodes entry.0 k → All (IsFetchShown nodes) fetches
    → All (IsFetchShown nodes) (cons_option (file_in entry k) fetches)
fetch-shown nodes entry (kind.Folder child_count) fetches shown all = all
fetch-shown nodes entry (kind.File digest) fetches shown all =
    All-cons (IsFetchShown nodes) (record { path = entry.0; id = entry.1.id; digest = digest; size = entry.1.size }) fetches shown all
fetch-shown nodes entry kind.Bare fetches shown all = all
fetch-shown nodes entry kind.Deleted fetches shown all = all

fetches-shown : (nodes : List (List (List ℕ) × Node)) (entries : List Entry) → All (IsEntryShown nodes) entries → All (IsFetchShown nodes) (fetches_of entries)
fetches-shown nodes [] all = All-nil (IsFetchShown nodes)
fetches-shown nodes (entry ∷ entries) all =
    fetch-shown nodes entry entry.1.kind (fetches_of entries) (All-head (IsEntryShown nodes) entry entries all)
    (fetches-shown nodes entries (All-tail (IsEntryShown nodes) entry entries all))

remote-shown : (drive : List Step) (items : List Item) (remote : List Entry) → map uncounted items ≡ map uncounted (records_of (held_by drive)) → remote ≡ paths_of items
    → All (IsEntryShown (scanned (tree_of (held_by drive)))) remote
remote-shown drive items remote mirrors remote_is =
    entries-shown (scanned (tree_of (held_by drive))) (scanned (tree_of (held_by drive))) remote (All-contains_itself (scanned (tree_of (held_by drive))))
    (ap (λ (entries : List Entry). is_same (scanned (tree_of (held_by drive))) entries) remote_is ∙ drive-as-found drive items mirrors)

-- ---- what is made of a plan
module _ (drive spent : List Step) (token : Option (List ℕ)) (later : List Step) (folders : List (List (List ℕ))) (fetches : List Fetching) where
  abbrev had_nodes : List (List (List ℕ) × Node)
  had_nodes = scanned (tree_of (held_by (drive ++ spent)))

  had-of : (path : List (List ℕ)) (node : Node) → Contains had_nodes (path, node) → HadThen drive (spent ++ Ask Own (Delta token) true true ∷ later) path node
  had-of path node there = record { first = spent; token = token; later = later; split = refl; had = there }

  placed-had : (at : List (List ℕ)) (bytes : List ℕ) → All (IsFetchShown had_nodes) fetches → IsFetchOf fetches at bytes
      → HadThen drive (spent ++ Ask Own (Delta token) true true ∷ later) at (File (digest_record bytes))
  placed-had at bytes shown of =
      had-of at (File (digest_record bytes))
      (subst (λ (path : List (List ℕ)). Contains had_nodes (path, File (digest_record bytes))) of.2
      (subst (λ (digest : Digest). Contains had_nodes (of.0.path, File digest)) of.3 (All-contains (IsFetchShown had_nodes) fetches of.0 shown of.1)))

  step-had : (step : LocalStep) → All (IsFolderShown had_nodes) folders → All (IsFetchShown had_nodes) fetches → IsMakingOf (IsFolderOf folders) (IsFetchOf fetches) step
      → IsFromDrive drive (spent ++ Ask Own (Delta token) true true ∷ later) step
  step-had (User edit) folders_shown fetches_shown makes = tt
  step-had (Op (op.MakeDir at)) folders_shown fetches_shown makes = had-of at Folder (All-contains (IsFolderShown had_nodes) folders at folders_shown makes)
  step-had (Op (op.Place at bytes)) folders_shown fetches_shown makes = placed-had at bytes fetches_shown makes
  step-had (Op (op.List at)) folders_shown fetches_shown makes = absurd makes
  step-had (Op (op.Read at)) folders_shown fetches_shown makes = absurd makes
  step-had (Op (op.RemoveDir at)) folders_shown fetches_shown makes = absurd makes
  step-had (Op (op.Rename from to)) folders_shown fetches_shown makes = absurd makes
  step-had (Op (op.SetAside at)) folders_shown fetches_shown makes = absurd makes
  step-had (Op (op.ReadAside aside)) folders_shown fetches_shown makes = absurd makes
  step-had (Op (op.PutBack aside to)) folders_shown fetches_shown makes = absurd makes
  step-had (Op (op.Discard aside)) folders_shown fetches_shown makes = absurd makes
  step-had (Op op.Asides) folders_shown fetches_shown makes = absurd makes

pub planned-had : (drive spent : List Step) (token : Option (List ℕ)) (later : List Step) (items : List Item) (rows : List BaseRow) (local : List (List (List ℕ) × Node)) (remote : List Entry) (part : List LocalStep)
    → map uncounted items ≡ map uncounted (records_of (held_by (drive ++ spent))) → remote ≡ paths_of items
    → AllByRecursion (IsMakingOf (IsFolderOf (planned_folders rows local remote)) (IsFetchOf (planned_fetches rows local remote))) part
    → AllByRecursion (IsFromDrive drive (spent ++ Ask Own (Delta token) true true ∷ later)) part
planned-had drive spent token later items rows local remote part mirrors remote_is makes =
    let nodes : List (List (List ℕ) × Node) = scanned (tree_of (held_by (drive ++ spent))) in
    let shown : All (IsEntryShown nodes) remote = remote-shown (drive ++ spent) items remote mirrors remote_is in
    let wanted : List Entry = filter (is_wanted rows local remote) remote in
    let new : List Entry = filter (is_new rows local) remote in
    each-so (IsMakingOf (IsFolderOf (planned_folders rows local remote)) (IsFetchOf (planned_fetches rows local remote))) (IsFromDrive drive (spent ++ Ask Own (Delta token) true true ∷ later))
    (λ step made. step-had drive spent token later (planned_folders rows local remote) (planned_fetches rows local remote) step
    (folders-shown nodes wanted (All-filter (is_wanted rows local remote) (IsEntryShown nodes) remote shown))
    (fetches-shown nodes new (All-filter (is_new rows local) (IsEntryShown nodes) remote shown)) made)
    part makes

-- ---- growth
step-also : (drive more other longer : List Step) → ((path : List (List ℕ)) (node : Node) → HadThen drive more path node → HadThen other longer path node)
    → (step : LocalStep) → IsFromDrive drive more step → IsFromDrive other longer step
step-also drive more other longer also (User edit) from = tt
step-also drive more other longer also (Op (op.MakeDir at)) from = also at Folder from
step-also drive more other longer also (Op (op.Place at bytes)) from = also at (File (digest_record bytes)) from
step-also drive more other longer also (Op (op.List at)) from = tt
step-also drive more other longer also (Op (op.Read at)) from = tt
step-also drive more other longer also (Op (op.RemoveDir at)) from = tt
step-also drive more other longer also (Op (op.Rename at to)) from = tt
step-also drive more other longer also (Op (op.SetAside at)) from = tt
step-also drive more other longer also (Op (op.ReadAside aside)) from = tt
step-also drive more other longer also (Op (op.PutBack aside to)) from = tt
step-also drive more other longer also (Op (op.Discard aside)) from = tt
step-also drive more other longer also (Op op.Asides) from = tt

then-longer : (drive more later : List Step) (path : List (List ℕ)) (node : Node) → HadThen drive more path node → HadThen drive (more ++ later) path node
then-longer drive more later path node then = record {
  first = then.first;
  token = then.token;
  later = then.later ++ later;
  split = ap (λ (steps : List Step). steps ++ later) then.split ∙ append_assoc then.first (Ask Own (Delta then.token) true true ∷ then.later) later;
  had = then.had;
}

then-earlier : (drive first more : List Step) (path : List (List ℕ)) (node : Node) → HadThen (drive ++ first) more path node → HadThen drive (first ++ more) path node
then-earlier drive first more path node then = record {
  first = first ++ then.first;
  token = then.token;
  later = then.later;
  split = ap (λ (steps : List Step). first ++ steps) then.split ∙ sym (append_assoc first then.first (Ask Own (Delta then.token) true true ∷ then.later));
  had = subst (λ (log : List Step). Contains (scanned (tree_of (held_by log))) (path, node)) (append_assoc drive first then.first) then.had;
}

pub had-longer : (drive more later : List Step) (part : List LocalStep) → AllByRecursion (IsFromDrive drive more) part → AllByRecursion (IsFromDrive drive (more ++ later)) part
had-longer drive more later part from =
    each-so (IsFromDrive drive more) (IsFromDrive drive (more ++ later)) (step-also drive more drive (more ++ later) (then-longer drive more later)) part from

pub had-earlier : (drive first more : List Step) (part : List LocalStep) → AllByRecursion (IsFromDrive (drive ++ first) more) part → AllByRecursion (IsFromDrive drive (first ++ more)) part
had-earlier drive first more part from =
    each-so (IsFromDrive (drive ++ first) more) (IsFromDrive drive (first ++ more)) (step-also (drive ++ first) more drive (first ++ more) (then-earlier drive first more)) part from

-- ---- looks make nothing
look-had : (drive more : List Step) (step : LocalStep) → IsLook step → IsFromDrive drive more step
look-had drive more (User edit) look = tt
look-had drive more (Op (op.List at)) look = tt
look-had drive more (Op (op.Read at)) look = tt
look-had drive more (Op (op.MakeDir at)) look = absurd look
look-had drive more (Op (op.RemoveDir at)) look = tt
look-had drive more (Op (op.Place at bytes)) look = absurd look
look-had drive more (Op (op.Rename from to)) look = tt
look-had drive more (Op (op.SetAside at)) look = tt
look-had drive more (Op (op.ReadAside aside)) look = tt
look-had drive more (Op (op.PutBack aside to)) look = tt
look-had drive more (Op (op.Discard aside)) look = tt
look-had drive more (Op op.Asides) look = tt

pub had-looks : (drive more : List Step) (part : List LocalStep) → AllByRecursion IsLook part → AllByRecursion (IsFromDrive drive more) part
had-looks drive more part looks = each-so IsLook (IsFromDrive drive more) (look-had drive more) part looks
