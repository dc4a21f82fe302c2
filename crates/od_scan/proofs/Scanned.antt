-- A scan of a folder that the user leaves alone finds its entries: what is found so far, and what stands at and below the
-- paths that wait, are the whole of it.
use Rattle.std.proofs.Common.{◌≡◌, ℕ, ◌+◌, inl, inr, Bool, true, false, not, ◌&&◌, cond, List, [], ◌∷◌, ◌++◌, length, map, is_none, Option, Some, None, refl, ap, sym, subst, ◌∙◌, append_assoc}
use Rattle.std.proofs.lemmas.List.{append-nil}
use Rattle.std.specs.List.{AllByRecursion, filter}
use Rattle.std.specs.Map.{values_of}
use Rattle.gd_names.specs.Ordered.{in_order, path_cmp}
use Rattle.std.specs.declared.cmp.Ordering.TheVariants.{Less}
use Rattle.gd_item.specs.Places.{last_name}
use Rattle.gd_item.specs.Records.{digest_record}
use Rattle.gd_item.specs.declared.digest.Digest.{Digest}
use Rattle.gd_names.proofs.Ordered.{Path, Above, Rises, In, kept, all-in, all-in-order-from, rises-in-order-from, in-order-has, kept-in-order, rises-kept}
use Rattle.gd_names.proofs.Mapped.{mapped, in-order-mapped}
use Rattle.od_reconcile.specs.declared.types.Node.{Node}
use Rattle.od_reconcile.specs.declared.types.Node.TheVariants.{Folder, File}
use Rattle.od_synclist.specs.declared.rule.Rule.{Rule}
use Rattle.od_tree.specs.Listing.{is_right_below, entries_in, entry_of, size_in}
use Rattle.od_tree.specs.Local.{is_path, is_from, spot_at, file_at, file_in, is_folder_spot, is_folder_at, bytes_in}
use Rattle.od_tree.specs.Shape.{IsTree}
use Rattle.od_tree.specs.declared.entry.Entry.{Entry}
use Rattle.od_tree.specs.declared.local.LocalFile.{LocalFile}
use Rattle.od_tree.specs.declared.local.Spot.{Spot}
use Rattle.od_tree.proofs.Paths.{same-path}
use Rattle.od_tree.proofs.Below.{is_below, from, below, spread, Under, step_to, step-right, step-from, right-parts, right-name, right-then-below, spread-all, here-and-below, in-kept-under, kept-twice}
use Rattle.od_scan.specs.Scans.{is_read, scanned, scanned_node}
use Rattle.od_scan.specs.Visits.{Turn, VisitsAs, file_at_turn, file_found, folder_found, listing_at, pushed, pushed_if, read_node}

-- the entries beside their paths, in order
abbrev beside : List Spot → List (Path × Spot)
beside spots = map (λ (spot : Spot). (spot.path, spot)) spots

abbrev pub placed : List Spot → List (Path × Spot)
placed spots = in_order (beside spots)

abbrev spot_node : List Rule → Spot → Node
spot_node rules spot = scanned_node rules spot.path spot.file

abbrev shown : List Rule → List (Path × Spot) → List (Path × Node)
shown rules entries = map (λ (entry : Path × Spot). (entry.0, spot_node rules entry.1)) entries

-- what stands at and below the paths that wait, the last of them first
abbrev rest : List (Path × Spot) → List Turn → List (Path × Spot)
rest entries [] = []
rest entries (turn ∷ stack) = rest entries stack ++ from turn.path entries

abbrev Awaited : List (Path × Spot) → Turn → Type 0
Awaited entries turn = (spot : Spot) × In (turn.path, spot) entries × (turn.folder ≡ is_none spot.file) × (turn.size ≡ size_in spot.file)

pub record Going (rules : List Rule) (spots : List Spot) (found : List (Path × Node)) (stack : List Turn) : Type 0 where
  pub all : found ++ shown rules (rest (placed spots) stack) ≡ scanned rules spots
  pub awaited : AllByRecursion (Awaited (placed spots)) stack

-- ---- lists
module _ {X : Type 0} where
  all-of-in : (Q : Path × X → Type 0) (entries : List (Path × X)) → ((entry : Path × X) → In entry entries → Q entry) → AllByRecursion Q entries
  all-of-in Q [] told = tt
  all-of-in Q (entry ∷ entries) told = (told entry (inl refl), all-of-in Q entries (λ other is. told other (inr is)))

  in-if : (b : Bool) (test : Path → Bool) (entry first : Path × X) (entries more : List (Path × X)) → test first.0 ≡ b → In entry (cond b (first ∷ more) more)
      → (In entry more → In entry entries × (test entry.0 ≡ true)) → In entry (first ∷ entries) × (test entry.0 ≡ true)
  in-if true test entry first entries more pass (inl same) told = (inl same, ap (λ (e : Path × X). test e.0) same ∙ pass)
  in-if true test entry first entries more pass (inr is) told = let found = told is in (inr found.0, found.1)
  in-if false test entry first entries more pass is told = let found = told is in (inr found.0, found.1)

  in-kept : (test : Path → Bool) (entry : Path × X) (entries : List (Path × X)) → In entry (kept test entries) → In entry entries × (test entry.0 ≡ true)
  in-kept test entry [] is = absurd is
  in-kept test entry (first ∷ entries) is = in-if (test first.0) test entry first entries (kept test entries) refl is (in-kept test entry entries)

all-beside : (Q : Path × Spot → Type 0) (spots : List Spot) → AllByRecursion (λ (spot : Spot). Q (spot.path, spot)) spots → AllByRecursion Q (beside spots)
all-beside Q [] all = tt
all-beside Q (spot ∷ spots) all = (all.0, all-beside Q spots all.1)

all-placed : (Q : Path × Spot → Type 0) (spots : List Spot) → AllByRecursion (λ (spot : Spot). Q (spot.path, spot)) spots → AllByRecursion Q (placed spots)
all-placed Q spots all = all-in-order-from Q [] (beside spots) tt (all-beside Q spots all)

-- ---- what the entries say
self-path : (spots : List Spot) → AllByRecursion (λ (spot : Spot). spot.path ≡ spot.path) spots
self-path [] = tt
self-path (spot ∷ spots) = (refl, self-path spots)

mapped-beside : {Y : Type 0} (f : Spot → Y) (spots : List Spot) → map (λ (spot : Spot). (spot.path, f spot)) spots ≡ mapped f (beside spots)
mapped-beside f [] = refl
mapped-beside f (spot ∷ spots) = ap (λ more. (spot.path, f spot) ∷ more) (mapped-beside f spots)

whole : (rules : List Rule) (spots : List Spot) → scanned rules spots ≡ shown rules (placed spots)
whole rules spots = ap (λ (entries : List (Path × Node)). in_order entries) (mapped-beside (spot_node rules) spots) ∙ in-order-mapped (spot_node rules) (beside spots)

beside-if : (b : Bool) (spot : Spot) (some : List Spot) → beside (cond b (spot ∷ some) some) ≡ cond b ((spot.path, spot) ∷ beside some) (beside some)
beside-if true spot some = refl
beside-if false spot some = refl

kept-beside : (test : Path → Bool) (spots : List Spot) → beside (filter (λ (spot : Spot). test spot.path) spots) ≡ kept test (beside spots)
kept-beside test [] = refl
kept-beside test (spot ∷ spots) =
    beside-if (test spot.path) spot (filter (λ (s : Spot). test s.path) spots)
    ∙ ap (λ more. cond (test spot.path) ((spot.path, spot) ∷ more) more) (kept-beside test spots)

listed : (top : Path) (spots : List Spot) → entries_in top spots ≡ values_of (mapped entry_of (kept (is_right_below top) (placed spots)))
listed top spots =
    ap (λ (entries : List (Path × Entry)). values_of (in_order entries)) (mapped-beside entry_of (filter (λ (spot : Spot). is_right_below top spot.path) spots))
    ∙ ap values_of (in-order-mapped entry_of (beside (filter (λ (spot : Spot). is_right_below top spot.path) spots)))
    ∙ ap (λ (entries : List (Path × Spot)). values_of (mapped entry_of (in_order entries))) (kept-beside (is_right_below top) spots)
    ∙ ap (λ (entries : List (Path × Spot)). values_of (mapped entry_of entries)) (sym (kept-in-order (is_right_below top) [] (beside spots) tt))

rises : (spots : List Spot) → Rises (placed spots)
rises spots = rises-in-order-from [] (beside spots) tt

-- ---- waiting
rest-last : (entries : List (Path × Spot)) (stack : List Turn) (turn : Turn) → rest entries (stack ++ turn ∷ []) ≡ from turn.path entries ++ rest entries stack
rest-last entries [] turn = sym (append-nil (from turn.path entries))
rest-last entries (first ∷ stack) turn =
    ap (λ (front : List (Path × Spot)). front ++ from first.path entries) (rest-last entries stack turn)
    ∙ append_assoc (from turn.path entries) (rest entries stack) (from first.path entries)

abbrev IsNamed : Path → Path × Spot → Type 0
IsNamed top entry = top ++ last_name entry.1.path ∷ [] ≡ entry.0

rest-pushed : (entries : List (Path × Spot)) (top : Path) (tops : List (Path × Spot)) (stack : List Turn) → AllByRecursion (IsNamed top) tops
    → rest entries (pushed top (values_of (mapped entry_of tops)) stack) ≡ spread tops entries ++ rest entries stack
rest-pushed entries top [] stack named = refl
rest-pushed entries top (first ∷ tops) stack named =
    rest-last entries (pushed top (values_of (mapped entry_of tops)) stack) (record { path = top ++ last_name first.1.path ∷ []; folder = is_none first.1.file; size = size_in first.1.file })
    ∙ ap (λ (path : Path). from path entries ++ rest entries (pushed top (values_of (mapped entry_of tops)) stack)) named.0
    ∙ ap (λ (more : List (Path × Spot)). from first.0 entries ++ more) (rest-pushed entries top tops stack named.1)
    ∙ sym (append_assoc (from first.0 entries) (spread tops entries) (rest entries stack))

pub all-last : (Q : Turn → Type 0) (stack : List Turn) (turn : Turn) → AllByRecursion Q stack → Q turn → AllByRecursion Q (stack ++ turn ∷ [])
all-last Q [] turn all here = (here, tt)
all-last Q (first ∷ stack) turn all here = (all.0, all-last Q stack turn all.1 here)

pub all-front : (Q : Turn → Type 0) (stack : List Turn) (turn : Turn) → AllByRecursion Q (stack ++ turn ∷ []) → AllByRecursion Q stack × Q turn
all-front Q [] turn all = (tt, all.0)
all-front Q (first ∷ stack) turn all = let more = all-front Q stack turn all.1 in ((all.0, more.0), more.1)

awaited-pushed : (entries : List (Path × Spot)) (top : Path) (tops : List (Path × Spot)) (stack : List Turn) → AllByRecursion (IsNamed top) tops
    → AllByRecursion (λ (entry : Path × Spot). In entry entries) tops → AllByRecursion (Awaited entries) stack
    → AllByRecursion (Awaited entries) (pushed top (values_of (mapped entry_of tops)) stack)
awaited-pushed entries top [] stack named stand awaited = awaited
awaited-pushed entries top (first ∷ tops) stack named stand awaited =
    all-last (Awaited entries) (pushed top (values_of (mapped entry_of tops)) stack) (record { path = top ++ last_name first.1.path ∷ []; folder = is_none first.1.file; size = size_in first.1.file })
    (awaited-pushed entries top tops stack named.1 stand.1 awaited)
    (first.1, subst (λ (path : Path). In (path, first.1) entries) (sym named.0) stand.0, refl, refl)

kept-none : (test : Path → Bool) (entries : List (Path × Spot)) → AllByRecursion (λ (entry : Path × Spot). test entry.0 ≡ false) entries → kept test entries ≡ []
kept-none test [] none = refl
kept-none test (entry ∷ entries) none = rw (none.0) (kept-none test entries none.1)

pub none-if : (b : Bool) → (b ≡ true → ⊥) → b ≡ false
none-if true never = absurd (never refl)
none-if false never = refl

low-parts : (a b : Bool) → (a && not b) ≡ true → (a ≡ true) × (b ≡ false)
low-parts true true is = absurd (cc is)
low-parts true false is = (refl, refl)
low-parts false b is = absurd (cc is)

-- the entries of a folder come one after another
abbrev pub EntriesRise : Path → List Entry → Type 0
EntriesRise top [] = Unit {0}
EntriesRise top (entry ∷ entries) = AllByRecursion (λ (other : Entry). path_cmp (top ++ entry.name ∷ []) (top ++ other.name ∷ []) ≡ Less) entries × EntriesRise top entries

later-children : (path top : Path) (tops : List (Path × Spot)) → Above path tops → AllByRecursion (IsNamed top) tops
    → AllByRecursion (λ (other : Entry). path_cmp path (top ++ other.name ∷ []) ≡ Less) (values_of (mapped entry_of tops))
later-children path top [] above named = tt
later-children path top (first ∷ tops) above named = (ap (λ (p : Path). path_cmp path p) named.0 ∙ above.0, later-children path top tops above.1 named.1)

children-from : (top : Path) (tops : List (Path × Spot)) → Rises tops → AllByRecursion (IsNamed top) tops → EntriesRise top (values_of (mapped entry_of tops))
children-from top [] rise named = tt
children-from top (first ∷ tops) rise named = (
  subst (λ (p : Path). AllByRecursion (λ (other : Entry). path_cmp p (top ++ other.name ∷ []) ≡ Less) (values_of (mapped entry_of tops))) (sym named.0) (later-children first.0 top tops rise.0 named.1),
  children-from top tops rise.1 named.1,
)

-- ---- a tree
module _ (rules : List Rule) (spots : List Spot) (tree : IsTree spots) where
  there : (entry : Path × Spot) → In entry (placed spots) → spot_at entry.0 spots ≡ Some entry.1
  there entry is = all-in (λ (e : Path × Spot). spot_at e.0 spots ≡ Some e.1) entry (placed spots) (all-placed (λ (e : Path × Spot). spot_at e.0 spots ≡ Some e.1) spots tree.apart) is

  own-path : (entry : Path × Spot) → In entry (placed spots) → entry.1.path ≡ entry.0
  own-path entry is = all-in (λ (e : Path × Spot). e.1.path ≡ e.0) entry (placed spots) (all-placed (λ (e : Path × Spot). e.1.path ≡ e.0) spots (self-path spots)) is

  not-root : (entry : Path × Spot) → In entry (placed spots) → is_path [] entry.0 ≡ false
  not-root entry is = all-in (λ (e : Path × Spot). is_path [] e.0 ≡ false) entry (placed spots) (all-placed (λ (e : Path × Spot). is_path [] e.0 ≡ false) spots tree.named) is

  folders-above : (entry : Path × Spot) → In entry (placed spots) → (top : Path) → is_from top entry.0 ≡ true → is_path top entry.0 ≡ false → is_folder_at top spots ≡ true
  folders-above entry is =
      all-in (λ (e : Path × Spot). (top : Path) → is_from top e.0 ≡ true → is_path top e.0 ≡ false → is_folder_at top spots ≡ true) entry (placed spots)
      (all-placed (λ (e : Path × Spot). (top : Path) → is_from top e.0 ≡ true → is_path top e.0 ≡ false → is_folder_at top spots ≡ true) spots tree.folders) is

  -- a folder stands in the order
  some-spot : (found : Option Spot) → is_folder_spot found ≡ true → (spot : Spot) × (found ≡ Some spot)
  some-spot None is = absurd (cc is)
  some-spot (Some spot) is = (spot, refl)

  found-if : (b : Bool) (path : Path) (first spot : Spot) (some : List Spot) → is_path first.path path ≡ b → cond b (Some first) (spot_at path some) ≡ Some spot
      → (spot_at path some ≡ Some spot → In (path, spot) (beside some)) → In (path, spot) (beside (first ∷ some))
  found-if true path first spot some same is more =
      let here : first ≡ spot = cc is in
      inl (ap (λ (p : Path). (p, spot)) (sym (same-path first.path path same)) ∙ ap (λ (s : Spot). (first.path, s)) (sym here))
  found-if false path first spot some same is more = inr (more is)

  found-in : (path : Path) (spot : Spot) (some : List Spot) → spot_at path some ≡ Some spot → In (path, spot) (beside some)
  found-in path spot [] is = absurd (cc is)
  found-in path spot (first ∷ some) is = found-if (is_path first.path path) path first spot some refl is (found-in path spot some)

  in-placed : (path : Path) (spot : Spot) → spot_at path spots ≡ Some spot → In (path, spot) (placed spots)
  in-placed path spot is =
      in-order-has (λ (p : Path). spot_at p spots) (path, spot) [] (beside spots) (all-beside (λ (e : Path × Spot). spot_at e.0 spots ≡ Some e.1) spots tree.apart) is (found-in path spot spots is)

  folder-in : (path : Path) → is_path [] path ≡ false → is_folder_at path spots ≡ true → (spot : Spot) × In (path, spot) (placed spots)
  folder-in [] named is = absurd (cc named)
  folder-in (name ∷ path) named is =
      let found = some-spot (spot_at (name ∷ path) spots) is in (found.0, in-placed (name ∷ path) found.0 found.1)

  -- each entry below a path is under one right below it
  right-named : (top path : Path) → is_right_below top path ≡ true → is_path [] path ≡ false
  right-named [] [] right = absurd (cc right)
  right-named (x ∷ top) [] right = absurd (cc right)
  right-named top (y ∷ path) right = refl

  stands-if : (b : Bool) (path : Path) (entry : Path × Spot) → is_path path entry.0 ≡ b → In entry (placed spots) → is_from path entry.0 ≡ true → is_path [] path ≡ false
      → (spot : Spot) × In (path, spot) (placed spots)
  stands-if true path entry same is from_it named =
      (entry.1, subst (λ (p : Path). In (p, entry.1) (placed spots)) (sym (same-path path entry.0 same)) is)
  stands-if false path entry same is from_it named = folder-in path named (folders-above entry is path from_it same)

  under : (top : Path) (entry : Path × Spot) → In entry (placed spots) → is_below top entry.0 ≡ true → Under entry (kept (is_right_below top) (placed spots))
  under top entry is is_it =
      let path : Path = step_to top entry.0 in
      let right : is_right_below top path ≡ true = step-right top entry.0 is_it in
      let on_way : is_from path entry.0 ≡ true = step-from top entry.0 is_it in
      let stands = stands-if (is_path path entry.0) path entry refl is on_way (right-named top path right) in
      in-kept-under (is_right_below top) (path, stands.0) entry (placed spots) stands.1 right on_way

  spread-kept : (top : Path) (tops : List (Path × Spot)) → AllByRecursion (λ (entry : Path × Spot). is_right_below top entry.0 ≡ true) tops
      → spread tops (below top (placed spots)) ≡ spread tops (placed spots)
  spread-kept top [] right = refl
  spread-kept top (first ∷ tops) right =
      ap (λ (front : List (Path × Spot)). front ++ spread tops (below top (placed spots)))
      (kept-twice (is_from first.0) (is_below top) (placed spots) (λ path here. right-then-below top first.0 path right.0 here))
      ∙ ap (λ (more : List (Path × Spot)). from first.0 (placed spots) ++ more) (spread-kept top tops right.1)

  abbrev tops_of : Path → List (Path × Spot)
  tops_of top = kept (is_right_below top) (placed spots)

  unfolded : (top : Path) → spread (tops_of top) (placed spots) ≡ below top (placed spots)
  unfolded top =
      sym (spread-kept top (tops_of top) (all-of-in (λ (e : Path × Spot). is_right_below top e.0 ≡ true) (tops_of top) (λ entry is. (in-kept (is_right_below top) entry (placed spots) is).1)))
      ∙ spread-all (length top + 1) (tops_of top) (below top (placed spots)) (rises-kept (is_right_below top) (placed spots) (rises spots))
      (all-of-in (λ (e : Path × Spot). length e.0 ≡ length top + 1) (tops_of top) (λ entry is. (right-parts top entry.0 (in-kept (is_right_below top) entry (placed spots) is).1).1))
      (rises-kept (is_below top) (placed spots) (rises spots))
      (all-of-in (λ (e : Path × Spot). Under e (tops_of top)) (below top (placed spots))
      (λ entry is. let found = in-kept (is_below top) entry (placed spots) is in under top entry found.0 found.1))

  tops-named : (top : Path) → AllByRecursion (IsNamed top) (tops_of top)
  tops-named top = all-of-in (IsNamed top) (tops_of top) (λ entry is.
      let found = in-kept (is_right_below top) entry (placed spots) is in
      ap (λ (p : Path). top ++ last_name p ∷ []) (own-path entry found.0) ∙ right-name top entry.0 found.1)

  tops-stand : (top : Path) → AllByRecursion (λ (entry : Path × Spot). In entry (placed spots)) (tops_of top)
  tops-stand top = all-of-in (λ (entry : Path × Spot). In entry (placed spots)) (tops_of top) (λ entry is. (in-kept (is_right_below top) entry (placed spots) is).0)

  rest-listed : (top : Path) (stack : List Turn) → rest (placed spots) (pushed top (entries_in top spots) stack) ≡ below top (placed spots) ++ rest (placed spots) stack
  rest-listed top stack =
      ap (λ (entries : List Entry). rest (placed spots) (pushed top entries stack)) (listed top spots)
      ∙ rest-pushed (placed spots) top (tops_of top) stack (tops-named top)
      ∙ ap (λ (front : List (Path × Spot)). front ++ rest (placed spots) stack) (unfolded top)

  awaited-listed : (top : Path) (stack : List Turn) → AllByRecursion (Awaited (placed spots)) stack → AllByRecursion (Awaited (placed spots)) (pushed top (entries_in top spots) stack)
  awaited-listed top stack awaited =
      subst (λ (entries : List Entry). AllByRecursion (Awaited (placed spots)) (pushed top entries stack)) (sym (listed top spots))
      (awaited-pushed (placed spots) top (tops_of top) stack (tops-named top) (tops-stand top) awaited)

  pub children-rise : (top : Path) → EntriesRise top (entries_in top spots)
  children-rise top =
      subst (λ (entries : List Entry). EntriesRise top entries) (sym (listed top spots)) (children-from top (tops_of top) (rises-kept (is_right_below top) (placed spots) (rises spots)) (tops-named top))

  -- ---- the start
  kept-all : (test : Path → Bool) (entries : List (Path × Spot)) → AllByRecursion (λ (entry : Path × Spot). test entry.0 ≡ true) entries → kept test entries ≡ entries
  kept-all test [] all = refl
  kept-all test (entry ∷ entries) all = rw (all.0) (ap (λ more. entry ∷ more) (kept-all test entries all.1))

  below-root : below [] (placed spots) ≡ placed spots
  below-root = kept-all (is_below []) (placed spots) (all-of-in (λ (e : Path × Spot). is_below [] e.0 ≡ true) (placed spots) (λ entry is. ap not (not-root entry is)))

  pub begins : (stack : List Turn) → stack ≡ pushed [] (entries_in [] spots) [] → Going rules spots [] stack
  begins stack is = record {
    all = ap (λ (s : List Turn). shown rules (rest (placed spots) s)) is ∙ ap (shown rules) (rest-listed [] [] ∙ append-nil (below [] (placed spots)) ∙ below-root) ∙ sym (whole rules spots);
    awaited = subst (λ (s : List Turn). AllByRecursion (Awaited (placed spots)) s) (sym is) (awaited-listed [] [] tt);
  }

  -- ---- a step
  folder-is : (file : Option LocalFile) → true ≡ is_none file → file ≡ None
  folder-is None is = refl
  folder-is (Some file) is = absurd (cc is)

  file-is : (file : Option LocalFile) → false ≡ is_none file → (f : LocalFile) × (file ≡ Some f)
  file-is None is = absurd (cc is)
  file-is (Some f) is = (f, refl)

  folder-there : (at : Path) (spot : Spot) → In (at, spot) (placed spots) → true ≡ is_none spot.file → is_folder_at at spots ≡ true
  folder-there [] spot is folder = absurd (cc (not-root ([], spot) is))
  folder-there (name ∷ at) spot is folder = ap is_folder_spot (there (name ∷ at, spot) is) ∙ sym folder

  no-folder : (at : Path) (spot : Spot) → In (at, spot) (placed spots) → false ≡ is_none spot.file → is_folder_at at spots ≡ true → ⊥
  no-folder [] spot is file folder = absurd (cc (not-root ([], spot) is))
  no-folder (name ∷ at) spot is file folder =
      let other : is_folder_spot (spot_at (name ∷ at) spots) ≡ is_none spot.file = ap is_folder_spot (there (name ∷ at, spot) is) in
      absurd (cc (file, other, folder))

  nothing-below : (at : Path) (spot : Spot) → In (at, spot) (placed spots) → false ≡ is_none spot.file → below at (placed spots) ≡ []
  nothing-below at spot is file =
      kept-none (is_below at) (placed spots) (all-of-in (λ (e : Path × Spot). is_below at e.0 ≡ false) (placed spots) (λ entry stands.
      none-if (is_below at entry.0) (λ low. no-folder at spot is file (let parts = low-parts (is_from at entry.0) (is_path at entry.0) low in folders-above entry stands at parts.0 parts.1))))

  going-on : (at : Path) (spot : Spot) (node : Node) (found found_now : List (Path × Node)) (folder : Bool) (size : ℕ) (stack stack_now : List Turn) (low : List (Path × Spot))
      → Going rules spots found (stack ++ record { path = at; folder = folder; size = size } ∷ []) → In (at, spot) (placed spots) → node ≡ spot_node rules spot → found_now ≡ found ++ (at, node) ∷ [] → below at (placed spots) ≡ low
      → rest (placed spots) stack_now ≡ low ++ rest (placed spots) stack → found_now ++ shown rules (rest (placed spots) stack_now) ≡ scanned rules spots
  going-on at spot node found found_now folder size stack stack_now low going is node_is found_is low_is stack_is =
      let before : rest (placed spots) (stack ++ record { path = at; folder = folder; size = size } ∷ []) ≡ (at, spot) ∷ low ++ rest (placed spots) stack =
      rest-last (placed spots) stack (record { path = at; folder = folder; size = size })
      ∙ ap (λ (front : List (Path × Spot)). front ++ rest (placed spots) stack) (here-and-below (at, spot) (placed spots) (rises spots) is ∙ ap (λ (more : List (Path × Spot)). (at, spot) ∷ more) low_is) in
      ap (λ (f : List (Path × Node)). f ++ shown rules (rest (placed spots) stack_now)) found_is
      ∙ ap (λ (r : List (Path × Spot)). (found ++ (at, node) ∷ []) ++ shown rules r) stack_is
      ∙ append_assoc found ((at, node) ∷ []) (shown rules (low ++ rest (placed spots) stack))
      ∙ ap (λ (n : Node). found ++ (at, n) ∷ shown rules (low ++ rest (placed spots) stack)) node_is
      ∙ ap (λ (r : List (Path × Spot)). found ++ shown rules r) (sym before)
      ∙ going.all

  -- a file, read or not, is what a scan shows of it
  either-file : (b : Bool) (size : ℕ) (digest : Digest) → cond b (Some (File size (Some digest))) (Some (File size None)) ≡ Some (File size (cond b (Some digest) None))
  either-file true size digest = refl
  either-file false size digest = refl

  file-shown : (at : Path) (size : ℕ) (spot : Spot) (file : LocalFile) → In (at, spot) (placed spots) → spot.file ≡ Some file → size ≡ size_in spot.file → file_at_turn rules at size spots ≡ Some (spot_node rules spot)
  file-shown at size spot file is is_file sized =
      let bytes : bytes_in (file_at at spots) ≡ Some file.bytes =
      ap (λ (s : Option Spot). bytes_in (file_in s)) (there (at, spot) is) ∙ ap (λ (f : Option LocalFile). bytes_in f) is_file in
      let same : size ≡ length file.bytes = sized ∙ ap (λ (f : Option LocalFile). size_in f) is_file in
      let path : at ≡ spot.path = sym (own-path (at, spot) is) in
      ap (λ (b : Option (List ℕ)). cond (is_read rules at size) (read_node b) (Some (File size None))) bytes
      ∙ ap (λ (n : ℕ). cond (is_read rules at n) (read_node (Some file.bytes)) (Some (File n None))) same
      ∙ ap (λ (p : Path). cond (is_read rules p (length file.bytes)) (read_node (Some file.bytes)) (Some (File (length file.bytes) None))) path
      ∙ either-file (is_read rules spot.path (length file.bytes)) (length file.bytes) (digest_record file.bytes)
      ∙ ap (λ (f : Option LocalFile). Some (scanned_node rules spot.path f)) (sym is_file)

  pub goes-on : (at : Path) (folder : Bool) (size : ℕ) (found found_now : List (Path × Node)) (stack stack_now : List Turn) → Going rules spots found (stack ++ record { path = at; folder = folder; size = size } ∷ [])
      → VisitsAs rules at folder size found found_now stack stack_now spots → Going rules spots found_now stack_now
  goes-on at true size found found_now stack stack_now going visits =
      let waits = all-front (Awaited (placed spots)) stack (record { path = at; folder = true; size = size }) going.awaited in
      let spot : Spot = waits.1.0 in
      let listing : listing_at at spots ≡ Some (entries_in at spots) =
      ap (λ b. cond b (Some (entries_in at spots)) None) (folder-there at spot waits.1.1 waits.1.2) in
      let stack_is : stack_now ≡ pushed at (entries_in at spots) stack = visits.waiting_is ∙ ap (λ (l : Option (List Entry)). pushed_if at l stack) listing in
      record {
        all = going-on at spot Folder found found_now true size stack stack_now (below at (placed spots)) going waits.1.1
            (sym (ap (λ (f : Option LocalFile). scanned_node rules spot.path f) (folder-is spot.file waits.1.2)))
            (visits.found_is ∙ ap (λ (l : Option (List Entry)). found ++ folder_found at l) listing) refl
            (ap (λ (s : List Turn). rest (placed spots) s) stack_is ∙ rest-listed at stack);
        awaited = subst (λ (s : List Turn). AllByRecursion (Awaited (placed spots)) s) (sym stack_is) (awaited-listed at stack waits.0);
      }
  goes-on at false size found found_now stack stack_now going visits =
      let waits = all-front (Awaited (placed spots)) stack (record { path = at; folder = false; size = size }) going.awaited in
      let spot : Spot = waits.1.0 in
      let file = file-is spot.file waits.1.2 in
      record {
        all = going-on at spot (spot_node rules spot) found found_now false size stack stack_now [] going waits.1.1 refl
            (visits.0 ∙ ap (λ (n : Option Node). found ++ file_found at n) (file-shown at size spot file.0 waits.1.1 file.1 waits.1.3)) (nothing-below at spot waits.1.1 waits.1.2)
            (ap (λ (s : List Turn). rest (placed spots) s) visits.1);
        awaited = subst (λ (s : List Turn). AllByRecursion (Awaited (placed spots)) s) (sym visits.1) waits.0;
      }

  pub ends : (found : List (Path × Node)) → Going rules spots found [] → found ≡ scanned rules spots
  ends found going = sym (append-nil found) ∙ going.all
