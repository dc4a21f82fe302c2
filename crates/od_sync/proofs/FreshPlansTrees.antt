-- The folders and the files of a tree, and the entries that the folder then has, in order of path.
use Rattle.std.proofs.Common.{◌≡◌, ℕ, List, [], ◌∷◌, ◌++◌, map, Option, Some, None, refl, ap, sym, ◌∙◌, append_assoc}
use Rattle.std.proofs.lemmas.List.{append-nil, map-append}
use Rattle.std.specs.List.{AllByRecursion, cons_option, filter_map}
use Rattle.std.specs.Ordering.{match_ordering, ordering_reverse}
use Rattle.std.specs.declared.cmp.Ordering.TheVariants.{Less, Greater}
use Rattle.gd_names.specs.Ordered.{path_cmp, in_order_from, in_order}
use Rattle.gd_names.proofs.Each.{each-both, each-append, each-always}
use Rattle.gd_names.proofs.Ordered.{Path, Above, Rises, paths-total, put, put-first}
use Rattle.od_tree.specs.Local.{bytes_in, tree_of_spots}
use Rattle.od_tree.specs.declared.local.Spot.{Spot}
use Rattle.od_sync.specs.Doing.{file_spot, folder_spot}

abbrev pub Entry : Type 0
Entry = Path × Option (List ℕ)

abbrev pub folder_of : Path → Option (List ℕ) → Option Path
folder_of path None = Some path
folder_of path (Some bytes) = None

abbrev pub file_of : Path → Option (List ℕ) → Option (Path × List ℕ)
file_of path None = None
file_of path (Some bytes) = Some (path, bytes)

abbrev pub folders : List Entry → List Path
folders tree = filter_map (λ (entry : Entry). folder_of entry.0 entry.1) tree

abbrev pub files : List Entry → List (Path × List ℕ)
files tree = filter_map (λ (entry : Entry). file_of entry.0 entry.1) tree

-- the entries of spots, of the folders and of the files
abbrev shown : List Spot → List Entry
shown spots = map (λ (spot : Spot). (spot.path, bytes_in spot.file)) spots

abbrev folders_shown : List Path → List Entry
folders_shown paths = shown (map folder_spot paths)

abbrev files_shown : List (Path × List ℕ) → List Entry
files_shown placed = shown (map file_spot placed)

-- ---- one more entry
after : (a b : Path) → path_cmp a b ≡ Less → path_cmp b a ≡ Greater
after a b low = paths-total.antisymm b a ∙ ap ordering_reverse low

module _ {X : Type 0} where
  -- a path is after all these
  abbrev Past : Path → List (Path × X) → Type 0
  Past path entries = AllByRecursion (λ (entry : Path × X). path_cmp path entry.0 ≡ Greater) entries

  put-past : (path : Path) (x : X) (front back : List (Path × X)) → Past path front → put (front ++ back) path x ≡ front ++ put back path x
  put-past path x [] back past = refl
  put-past path x (entry ∷ front) back past =
      ap (λ o. match_ordering o ((path, x) ∷ entry ∷ front ++ back) ((entry.0, x) ∷ front ++ back) (entry ∷ put (front ++ back) path x)) past.0
      ∙ ap (λ (rest : List (Path × X)). entry ∷ rest) (put-past path x front back past.1)

  put-between : (path : Path) (x : X) (front back : List (Path × X)) → Past path front → Above path back → put (front ++ back) path x ≡ (front ++ (path, x) ∷ []) ++ back
  put-between path x front back past above =
      put-past path x front back past
      ∙ ap (λ (rest : List (Path × X)). front ++ rest) (put-first path x back above)
      ∙ sym (append_assoc front ((path, x) ∷ []) back)

  put-last : (path : Path) (x : X) (front : List (Path × X)) → Past path front → put front path x ≡ front ++ (path, x) ∷ []
  put-last path x front past = ap (λ (entries : List (Path × X)). put entries path x) (sym (append-nil front)) ∙ put-past path x front [] past

  all-past : (path : Path) (x : X) (tree front : List (Path × X)) → Above path tree → AllByRecursion (λ (entry : Path × X). Past entry.0 front) tree
      → AllByRecursion (λ (entry : Path × X). Past entry.0 (front ++ (path, x) ∷ [])) tree
  all-past path x tree front above past =
      each-both (λ (entry : Path × X). path_cmp path entry.0 ≡ Less) (λ (entry : Path × X). Past entry.0 front) (λ (entry : Path × X). Past entry.0 (front ++ (path, x) ∷ []))
      (λ entry low all. each-append (λ (other : Path × X). path_cmp entry.0 other.0 ≡ Greater) front ((path, x) ∷ []) all (after path entry.0 low, tt))
      tree above past

  in-order-append : (so_far xs ys : List (Path × X)) → in_order_from so_far (xs ++ ys) ≡ in_order_from (in_order_from so_far xs) ys
  in-order-append so_far [] ys = refl
  in-order-append so_far (x ∷ xs) ys = in-order-append (put so_far x.0 x.1) xs ys

-- ---- the folders come in order
folders-at : (path : Path) (file : Option (List ℕ)) (front tree : List Entry) → Above path tree → Past path front → AllByRecursion (λ (entry : Entry). Past entry.0 front) tree
    → ((more : List Entry) → AllByRecursion (λ (entry : Entry). Past entry.0 more) tree → in_order_from more (folders_shown (folders tree)) ≡ more ++ folders_shown (folders tree))
    → in_order_from front (folders_shown (cons_option (folder_of path file) (folders tree))) ≡ front ++ folders_shown (cons_option (folder_of path file) (folders tree))
folders-at path None front tree above here past next =
    ap (λ (entries : List Entry). in_order_from entries (folders_shown (folders tree))) (put-last path None front here)
    ∙ next (front ++ (path, None) ∷ []) (all-past path None tree front above past)
    ∙ append_assoc front ((path, None) ∷ []) (folders_shown (folders tree))
folders-at path (Some bytes) front tree above here past next = next front past

folders-in-order : (front tree : List Entry) → Rises tree → AllByRecursion (λ (entry : Entry). Past entry.0 front) tree
    → in_order_from front (folders_shown (folders tree)) ≡ front ++ folders_shown (folders tree)
folders-in-order front [] rises past = sym (append-nil front)
folders-in-order front (entry ∷ tree) rises past =
    folders-at entry.0 entry.1 front tree rises.0 past.0 past.1 (λ more all. folders-in-order more tree rises.1 all)

-- ---- the files come among them
above-folder : (path at : Path) (file : Option (List ℕ)) (paths : List Path) → path_cmp path at ≡ Less → Above path (folders_shown paths)
    → Above path (folders_shown (cons_option (folder_of at file) paths))
above-folder path at None paths low above = (low, above)
above-folder path at (Some bytes) paths low above = above

above-folders : (path : Path) (tree : List Entry) → Above path tree → Above path (folders_shown (folders tree))
above-folders path [] above = tt
above-folders path (entry ∷ tree) above = above-folder path entry.0 entry.1 (folders tree) above.0 (above-folders path tree above.1)

files-at : (path : Path) (file : Option (List ℕ)) (front tree : List Entry) → Above path tree → Past path front → AllByRecursion (λ (entry : Entry). Past entry.0 front) tree
    → ((more : List Entry) → AllByRecursion (λ (entry : Entry). Past entry.0 more) tree
    → in_order_from (more ++ folders_shown (folders tree)) (files_shown (files tree)) ≡ more ++ tree)
    → in_order_from (front ++ folders_shown (cons_option (folder_of path file) (folders tree))) (files_shown (cons_option (file_of path file) (files tree)))
    ≡ front ++ (path, file) ∷ tree
files-at path None front tree above here past next =
    ap (λ (entries : List Entry). in_order_from entries (files_shown (files tree))) (sym (append_assoc front ((path, None) ∷ []) (folders_shown (folders tree))))
    ∙ next (front ++ (path, None) ∷ []) (all-past path None tree front above past)
    ∙ append_assoc front ((path, None) ∷ []) tree
files-at path (Some bytes) front tree above here past next =
    ap (λ (entries : List Entry). in_order_from entries (files_shown (files tree)))
    (put-between path (Some bytes) front (folders_shown (folders tree)) here (above-folders path tree above))
    ∙ next (front ++ (path, Some bytes) ∷ []) (all-past path (Some bytes) tree front above past)
    ∙ append_assoc front ((path, Some bytes) ∷ []) tree

files-in-order : (front tree : List Entry) → Rises tree → AllByRecursion (λ (entry : Entry). Past entry.0 front) tree
    → in_order_from (front ++ folders_shown (folders tree)) (files_shown (files tree)) ≡ front ++ tree
files-in-order front [] rises past = refl
files-in-order front (entry ∷ tree) rises past =
    files-at entry.0 entry.1 front tree rises.0 past.0 past.1 (λ more all. files-in-order more tree rises.1 all)

-- the folders and then the files of a tree make the tree
pub tree-again : (tree : List Entry) → Rises tree → tree_of_spots (map folder_spot (folders tree) ++ map file_spot (files tree)) ≡ tree
tree-again tree rises =
    let past : AllByRecursion (λ (entry : Entry). Past {X = Option (List ℕ)} entry.0 []) tree =
    each-always (λ (entry : Entry). Past {X = Option (List ℕ)} entry.0 []) (λ entry. tt) tree in
    ap in_order (map-append (λ (spot : Spot). (spot.path, bytes_in spot.file)) (map folder_spot (folders tree)) (map file_spot (files tree)))
    ∙ in-order-append [] (folders_shown (folders tree)) (files_shown (files tree))
    ∙ ap (λ (entries : List Entry). in_order_from entries (files_shown (files tree))) (folders-in-order [] tree rises past)
    ∙ files-in-order [] tree rises past
