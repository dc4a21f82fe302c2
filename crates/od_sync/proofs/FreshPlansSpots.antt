-- The folders of a tree can be made in their order where nothing stands, and then the files can be placed.
use Rattle.std.proofs.Common.{◌≡◌, ℕ, ◌⊎◌, inl, inr, Bool, true, false, ◌||◌, cond, List, [], ◌∷◌, ◌++◌, map, is_some, Option, Some, None, refl, ap, sym, subst, ◌∙◌}
use Rattle.std.proofs.lemmas.Cmp.{tied_itself}
use Rattle.std.specs.Cmp.Lexicographic.{nat_list_cmp_total}
use Rattle.std.specs.List.{AllByRecursion, cons_option}
use Rattle.std.specs.Ordering.{ordering_then}
use Rattle.std.specs.declared.cmp.Ordering.TheVariants.{Less}
use Rattle.gd_names.specs.Ordered.{path_cmp}
use Rattle.gd_item.specs.Places.{names_above}
use Rattle.od_tree.specs.Local.{has_parent, is_folder_at, is_folder_spot, is_path, is_taken_at, spot_at, with_spot}
use Rattle.od_tree.specs.declared.local.LocalFile.{LocalFile}
use Rattle.od_tree.specs.declared.local.Spot.{Spot}
use Rattle.od_sync.specs.Doing.{CanMake, CanPlace, CanStand, folder_spot, placed_file}
use Rattle.gd_names.proofs.Each.{each-append, each-both, each-so}
use Rattle.gd_names.proofs.Ordered.{Path, Above, Rises, In, all-in, paths-total}
use Rattle.od_tree.proofs.Below.{lower-apart}
use Rattle.od_tree.proofs.Paths.{path-self, same-path}
use Rattle.gd_laws.proofs.PlacedItems.{IsLed}
use Rattle.od_sync.proofs.FreshPlansTrees.{Entry, file_of, files, folder_of, folders}

-- ---- paths
not-self : (a b : Path) → path_cmp a b ≡ Less → a ≡ b → ⊥
not-self a b low same = cc (sym (tied_itself paths-total b) ∙ sym (ap (λ (p : Path). path_cmp p b) same) ∙ low)

false-by : (b : Bool) → (b ≡ true → ⊥) → b ≡ false
false-by true never = absurd (never refl)
false-by false never = refl

not-there : (a b : Path) → path_cmp a b ≡ Less → is_path b a ≡ false
not-there a b low = false-by (is_path b a) (λ same. not-self a b low (sym (same-path b a same)))

above-first : (path : Path) → is_path [] path ≡ false → path_cmp (names_above path) path ≡ Less
above-first [] below = absurd (cc below)
above-first (name ∷ []) below = refl
above-first (name ∷ next ∷ path) below =
    ap (λ o. ordering_then o (path_cmp (names_above (next ∷ path)) (next ∷ path))) (tied_itself nat_list_cmp_total name) ∙ above-first (next ∷ path) refl

-- ---- free paths
abbrev IsFree : Path → List Spot → Type 0
IsFree path spots = AllByRecursion (λ (spot : Spot). is_path spot.path path ≡ false) spots

not-found : (path : Path) (spots : List Spot) → IsFree path spots → spot_at path spots ≡ None
not-found path [] free = refl
not-found path (spot ∷ spots) free = ap (λ b. cond b (Some spot) (spot_at path spots)) free.0 ∙ not-found path spots free.1

not-taken : (path : Path) (spots : List Spot) → is_path [] path ≡ false → IsFree path spots → is_taken_at path spots ≡ false
not-taken path spots below free =
    ap (λ b. b || is_some (spot_at path spots)) below ∙ ap (λ (o : Option Spot). is_some o) (not-found path spots free)

free-more : (path at : Path) (file : Option LocalFile) (spots : List Spot) → is_path at path ≡ false → IsFree path spots → IsFree path (with_spot at file spots)
free-more path at file spots apart free =
    each-append (λ (spot : Spot). is_path spot.path path ≡ false) spots (record { path = at; file = file } ∷ []) free (apart, tt)

-- ---- folders
found-if : (b : Bool) (spot : Spot) (at more : Option Spot) → is_folder_spot (cond b (Some spot) at) ≡ true → (is_folder_spot at ≡ true → is_folder_spot more ≡ true)
    → is_folder_spot (cond b (Some spot) more) ≡ true
found-if true spot at more is later = is
found-if false spot at more is later = later is

found-stays : (path : Path) (spots more : List Spot) → is_folder_spot (spot_at path spots) ≡ true → is_folder_spot (spot_at path (spots ++ more)) ≡ true
found-stays path [] more is = absurd (cc is)
found-stays path (spot ∷ spots) more is =
    found-if (is_path spot.path path) spot (spot_at path spots) (spot_at path (spots ++ more)) is (λ later. found-stays path spots more later)

folder-stays : (path : Path) (spots more : List Spot) → is_folder_at path spots ≡ true → is_folder_at path (spots ++ more) ≡ true
folder-stays [] spots more is = refl
folder-stays (name ∷ path) spots more is = found-stays (name ∷ path) spots more is

folder-by : (path : Path) (spots : List Spot) → is_folder_spot (spot_at path spots) ≡ true → is_folder_at path spots ≡ true
folder-by [] spots is = refl
folder-by (name ∷ path) spots is = is

found-last : (path : Path) (spots : List Spot) → IsFree path spots → is_folder_spot (spot_at path (with_spot path None spots)) ≡ true
found-last path [] free = ap (λ b. is_folder_spot (cond b (Some (folder_spot path)) None)) (path-self path)
found-last path (spot ∷ spots) free = ap (λ b. is_folder_spot (cond b (Some spot) (spot_at path (with_spot path None spots)))) free.0 ∙ found-last path spots free.1

-- ---- the folders are made
-- the folder above an entry stands there, or is an entry to come
abbrev IsLedBy : List Spot → List Entry → Entry → Type 0
IsLedBy spots tree entry = (has_parent entry.0 spots ≡ true) ⊎ In (names_above entry.0, None) tree

led-first : (spots : List Spot) (path : Path) (file : Option (List ℕ)) (tree : List Entry) → Above path tree → is_path [] path ≡ false → IsLedBy spots ((path, file) ∷ tree) (path, file)
    → has_parent path spots ≡ true
led-first spots path file tree above below (inl there) = there
led-first spots path file tree above below (inr (inl same)) =
    absurd (not-self (names_above path) path (above-first path below) (ap (λ (entry : Entry). entry.0) same))
led-first spots path file tree above below (inr (inr more)) =
    let low : path_cmp path (names_above path) ≡ Less = all-in (λ (entry : Entry). path_cmp path entry.0 ≡ Less) (names_above path, None) tree above more in
    absurd (not-self path path (paths-total.trans path (names_above path) path low (above-first path below)) refl)

led-by-folder : (path : Path) (spots : List Spot) (tree : List Entry) → IsFree path spots → (entry : Entry) → IsLedBy spots ((path, None) ∷ tree) entry
    → IsLedBy (with_spot path None spots) tree entry
led-by-folder path spots tree free entry (inl there) = inl (folder-stays (names_above entry.0) spots (folder_spot path ∷ []) there)
led-by-folder path spots tree free entry (inr (inl same)) =
    inl (subst (λ (p : Path). is_folder_at p (with_spot path None spots) ≡ true) (sym (ap (λ (e : Entry). e.0) same))
    (folder-by path (with_spot path None spots) (found-last path spots free)))
led-by-folder path spots tree free entry (inr (inr more)) = inr more

led-by-file : (path : Path) (bytes : List ℕ) (spots : List Spot) (tree : List Entry) → (entry : Entry) → IsLedBy spots ((path, Some bytes) ∷ tree) entry → IsLedBy spots tree entry
led-by-file path bytes spots tree entry (inl there) = inl there
led-by-file path bytes spots tree entry (inr (inl same)) = absurd (cc (ap (λ (e : Entry). e.1) same))
led-by-file path bytes spots tree entry (inr (inr more)) = inr more

make-at : (path : Path) (file : Option (List ℕ)) (spots : List Spot) (tree : List Entry) → Above path tree → CanStand path spots → IsFree path spots
    → AllByRecursion (λ (entry : Entry). IsFree entry.0 spots) tree → AllByRecursion (IsLedBy spots ((path, file) ∷ tree)) tree
    → ((more : List Spot) → AllByRecursion (λ (entry : Entry). IsFree entry.0 more) tree → AllByRecursion (IsLedBy more tree) tree → CanMake more (folders tree))
    → CanMake spots (cons_option (folder_of path file) (folders tree))
make-at path None spots tree above stand here free led next = (
  stand,
  next (with_spot path None spots)
      (each-both (λ (entry : Entry). path_cmp path entry.0 ≡ Less) (λ (entry : Entry). IsFree entry.0 spots) (λ (entry : Entry). IsFree entry.0 (with_spot path None spots))
      (λ entry low all. free-more entry.0 path None spots (lower-apart path entry.0 low) all) tree above free)
      (each-so (IsLedBy spots ((path, None) ∷ tree)) (IsLedBy (with_spot path None spots) tree) (led-by-folder path spots tree here) tree led),
)
make-at path (Some bytes) spots tree above stand here free led next =
    next spots free (each-so (IsLedBy spots ((path, Some bytes) ∷ tree)) (IsLedBy spots tree) (led-by-file path bytes spots tree) tree led)

abbrev pub AreBelow : List Entry → Type 0
AreBelow tree = AllByRecursion (λ (entry : Entry). is_path [] entry.0 ≡ false) tree

make-all : (spots : List Spot) (tree : List Entry) → Rises tree → AreBelow tree → AllByRecursion (λ (entry : Entry). IsFree entry.0 spots) tree
    → AllByRecursion (IsLedBy spots tree) tree → CanMake spots (folders tree)
make-all spots [] rises below free led = tt
make-all spots (entry ∷ tree) rises below free led =
    make-at entry.0 entry.1 spots tree rises.0
    (record { free = not-taken entry.0 spots below.0 free.0; parent = led-first spots entry.0 entry.1 tree rises.0 below.0 led.0 })
    free.0 free.1 led.1 (λ more all also. make-all more tree rises.1 below.1 all also)

led-at-first : (tree : List Entry) (entry : Entry) → IsLed tree entry.0 → IsLedBy [] tree entry
led-at-first tree entry (inl top) = inl (ap (λ (p : Path). is_folder_at p []) top)
led-at-first tree entry (inr there) = inr there

pub can-make : (tree : List Entry) → Rises tree → AreBelow tree → AllByRecursion (λ (entry : Entry). IsLed tree entry.0) tree → CanMake [] (folders tree)
can-make tree rises below led =
    make-all [] tree rises below
    (each-so (λ (entry : Entry). is_path [] entry.0 ≡ false) (λ (entry : Entry). IsFree entry.0 []) (λ entry is. tt) tree below)
    (each-so (λ (entry : Entry). IsLed tree entry.0) (IsLedBy [] tree) (led-at-first tree) tree led)

-- ---- the files are placed
abbrev IsFreeFile : Path → Option (List ℕ) → List Spot → Type 0
IsFreeFile path None spots = Unit {0}
IsFreeFile path (Some bytes) spots = IsFree path spots

free-file-more : (path : Path) (file : Option (List ℕ)) (at : Path) (content : Option LocalFile) (spots : List Spot) → is_path at path ≡ false → IsFreeFile path file spots
    → IsFreeFile path file (with_spot at content spots)
free-file-more path None at content spots apart free = tt
free-file-more path (Some bytes) at content spots apart free = free-more path at content spots apart free

place-at : (path : Path) (file : Option (List ℕ)) (spots : List Spot) (tree : List Entry) → Above path tree → is_path [] path ≡ false → IsFreeFile path file spots
    → has_parent path spots ≡ true → AllByRecursion (λ (entry : Entry). IsFreeFile entry.0 entry.1 spots) tree → AllByRecursion (λ (entry : Entry). has_parent entry.0 spots ≡ true) tree
    → ((more : List Spot) → AllByRecursion (λ (entry : Entry). IsFreeFile entry.0 entry.1 more) tree → AllByRecursion (λ (entry : Entry). has_parent entry.0 more ≡ true) tree
    → CanPlace more (files tree)) → CanPlace spots (cons_option (file_of path file) (files tree))
place-at path None spots tree above below here parent free led next = next spots free led
place-at path (Some bytes) spots tree above below here parent free led next =
    let more : List Spot = with_spot path (Some (placed_file bytes)) spots in (
      record { free = not-taken path spots below here; parent = parent },
      next more
          (each-both (λ (entry : Entry). path_cmp path entry.0 ≡ Less) (λ (entry : Entry). IsFreeFile entry.0 entry.1 spots) (λ (entry : Entry). IsFreeFile entry.0 entry.1 more)
          (λ entry low all. free-file-more entry.0 entry.1 path (Some (placed_file bytes)) spots (lower-apart path entry.0 low) all) tree above free)
          (each-so (λ (entry : Entry). has_parent entry.0 spots ≡ true) (λ (entry : Entry). has_parent entry.0 more ≡ true)
          (λ entry there. folder-stays (names_above entry.0) spots (record { path = path; file = Some (placed_file bytes) } ∷ []) there) tree led),
    )

place-all : (spots : List Spot) (tree : List Entry) → Rises tree → AreBelow tree → AllByRecursion (λ (entry : Entry). IsFreeFile entry.0 entry.1 spots) tree
    → AllByRecursion (λ (entry : Entry). has_parent entry.0 spots ≡ true) tree → CanPlace spots (files tree)
place-all spots [] rises below free led = tt
place-all spots (entry ∷ tree) rises below free led =
    place-at entry.0 entry.1 spots tree rises.0 below.0 free.0 led.0 free.1 led.1 (λ more all also. place-all more tree rises.1 below.1 all also)

-- no file is at the path of a folder
folder-apart : (path at : Path) (file : Option (List ℕ)) (paths : List Path) → path_cmp path at ≡ Less → IsFree path (map folder_spot paths)
    → IsFree path (map folder_spot (cons_option (folder_of at file) paths))
folder-apart path at None paths low free = (not-there path at low, free)
folder-apart path at (Some bytes) paths low free = free

folders-apart : (path : Path) (tree : List Entry) → Above path tree → IsFree path (map folder_spot (folders tree))
folders-apart path [] above = tt
folders-apart path (entry ∷ tree) above = folder-apart path entry.0 entry.1 (folders tree) above.0 (folders-apart path tree above.1)

free-file-first : (path : Path) (file : Option (List ℕ)) (at : Path) (spots : List Spot) → is_path at path ≡ false → IsFreeFile path file spots
    → IsFreeFile path file (folder_spot at ∷ spots)
free-file-first path None at spots apart free = tt
free-file-first path (Some bytes) at spots apart free = (apart, free)

abbrev AreFree : List Entry → List Path → Type 0
AreFree tree paths = AllByRecursion (λ (entry : Entry). IsFreeFile entry.0 entry.1 (map folder_spot paths)) tree

files-free-at : (path : Path) (file : Option (List ℕ)) (tree : List Entry) → Above path tree → AreFree tree (folders tree)
    → AreFree ((path, file) ∷ tree) (cons_option (folder_of path file) (folders tree))
files-free-at path None tree above all = (
  tt,
  each-both (λ (entry : Entry). path_cmp path entry.0 ≡ Less) (λ (entry : Entry). IsFreeFile entry.0 entry.1 (map folder_spot (folders tree)))
      (λ (entry : Entry). IsFreeFile entry.0 entry.1 (folder_spot path ∷ map folder_spot (folders tree)))
      (λ entry low free. free-file-first entry.0 entry.1 path (map folder_spot (folders tree)) (lower-apart path entry.0 low) free) tree above all,
)
files-free-at path (Some bytes) tree above all = (folders-apart path tree above, all)

files-free : (tree : List Entry) → Rises tree → AreFree tree (folders tree)
files-free [] rises = tt
files-free (entry ∷ tree) rises = files-free-at entry.0 entry.1 tree rises.0 (files-free tree rises.1)

-- each folder that is an entry is made
folder-or : (b : Bool) (at : Path) (rest : Option Spot) → is_folder_spot rest ≡ true → is_folder_spot (cond b (Some (folder_spot at)) rest) ≡ true
folder-or true at rest is = refl
folder-or false at rest is = is

made-at : (path at : Path) (file : Option (List ℕ)) (tree : List Entry) → In (path, None) ((at, file) ∷ tree)
    → (In (path, None) tree → is_folder_spot (spot_at path (map folder_spot (folders tree))) ≡ true)
    → is_folder_spot (spot_at path (map folder_spot (cons_option (folder_of at file) (folders tree)))) ≡ true
made-at path at None tree (inl same) later =
    let here : is_path at path ≡ true = ap (λ (p : Path). is_path at p) (ap (λ (e : Entry). e.0) same) ∙ path-self at in
    ap (λ b. is_folder_spot (cond b (Some (folder_spot at)) (spot_at path (map folder_spot (folders tree))))) here
made-at path at None tree (inr more) later = folder-or (is_path at path) at (spot_at path (map folder_spot (folders tree))) (later more)
made-at path at (Some bytes) tree (inl same) later = absurd (cc (ap (λ (e : Entry). e.1) same))
made-at path at (Some bytes) tree (inr more) later = later more

made : (path : Path) (tree : List Entry) → In (path, None) tree → is_folder_spot (spot_at path (map folder_spot (folders tree))) ≡ true
made path [] is = absurd is
made path (entry ∷ tree) is = made-at path entry.0 entry.1 tree is (λ more. made path tree more)

led-then : (tree : List Entry) (entry : Entry) → IsLed tree entry.0 → has_parent entry.0 (map folder_spot (folders tree)) ≡ true
led-then tree entry (inl top) = ap (λ (p : Path). is_folder_at p (map folder_spot (folders tree))) top
led-then tree entry (inr there) = folder-by (names_above entry.0) (map folder_spot (folders tree)) (made (names_above entry.0) tree there)

pub can-place : (tree : List Entry) → Rises tree → AreBelow tree → AllByRecursion (λ (entry : Entry). IsLed tree entry.0) tree
    → CanPlace (map folder_spot (folders tree)) (files tree)
can-place tree rises below led =
    place-all (map folder_spot (folders tree)) tree rises below (files-free tree rises)
    (each-so (λ (entry : Entry). IsLed tree entry.0) (λ (entry : Entry). has_parent entry.0 (map folder_spot (folders tree)) ≡ true) (led-then tree) tree led)
