-- What the lists of a plan are read from.
use Rattle.std.proofs.Common.{◌≡◌, ℕ, zero, suc, ◌-◌, ◌<◌, Bool, true, false, ◌||◌, cond, List, [], ◌∷◌, ◌++◌, length, filter, map, ◌&&◌, nat_eq, Option, Some, None, refl, ap, sym, subst, ◌∙◌, arith, not}
use Rattle.std.specs.Map.{lookup}
use Rattle.std.specs.List.{cons_option, filter_map, list_any}
use Rattle.std.specs.Ordering.{is_eq}
use Rattle.std.proofs.lemmas.Bool.{or_left, or_right}
use Rattle.gd_item.specs.declared.item.Item.{Item}
use Rattle.gd_names.specs.Ordered.{path_cmp}
use Rattle.od_merge.specs.Merging.{Limits, all_paths, is_going, moved, renamed, renamed_tree, renames}
use Rattle.od_merge.specs.Sides.{Sides, Tree, at, digest_of, is_path, paths_of, sides_of, same}
use Rattle.od_merge.specs.Steps.{by_depth, deepest_first, is_fetched}
use Rattle.od_merge.proofs.Lists.{Path, at-in, in-joined, is_in}
use Rattle.od_reconcile.specs.Looks.{IsSide}
use Rattle.od_reconcile.specs.Plans.{IsPlanOf, delete_of, down_list, fetch_here, fetch_of, fetch_or_move, folder_here, folder_there, item_at, over_of, patch_of, patch_there, removal_here, removal_there, send_there, up_list}
use Rattle.od_reconcile.specs.Moving.{is_moved_from, is_moved_to, pair_to}
use Rattle.od_merge.specs.Pairs.{and_pair, drive_pairs, is_sent_now, local_pairs, pairs_from, source_for}
use Rattle.od_reconcile.specs.Copying.{copy_path, renamed_entries}
use Rattle.od_reconcile.specs.Entries.{local_tree, node_content}
use Rattle.od_reconcile.specs.Holding.{limits_of}
use Rattle.od_reconcile.specs.declared.types.Node.{Node}
use Rattle.od_reconcile.specs.declared.types.Plan.{Plan}
use Rattle.od_reconcile.specs.declared.types.Up.TheVariants as up
use Rattle.od_keeper.specs.declared.image.BaseRow.{BaseRow}
use Rattle.od_synclist.specs.Rules.{passes_file}
use Rattle.od_reconcile.specs.Above.{or_else}
use Rattle.od_reconcile.proofs.Indexes.{found_at, or-else-over, turned}
use Rattle.od_reconcile.proofs.Lookups.{eq-path}

pick-item : (t : Bool) (q : Path) (entry : Path × Item) (entries : List (Path × Item)) → is_path q entry.0 ≡ t → lookup (λ k. is_eq (path_cmp q k)) entries ≡ item_at entries q
    → cond t (Some entry.1) (lookup (λ k. is_eq (path_cmp q k)) entries) ≡ item_at (entry ∷ entries) q
pick-item true q entry entries is rest = rw is refl
pick-item false q entry entries is rest = rw is rest

pub item-found : (q : Path) (entries : List (Path × Item)) → lookup (λ k. is_eq (path_cmp q k)) entries ≡ item_at entries q
item-found q [] = refl
item-found q (entry ∷ entries) = rw (eq-path q entry.0) (pick-item (is_path q entry.0) q entry entries refl (item-found q entries))

-- both sides of a merge are sides of it
pub side-here : (s : Sides) → IsSide s s.local
side-here s q some = in-joined q (paths_of s.local) (paths_of s.remote) ∙ or_left (is_in q (paths_of s.local)) (is_in q (paths_of s.remote)) (sym (at-in q s.local) ∙ some)

pub side-there : (s : Sides) → IsSide s s.remote
side-there s q some = in-joined q (paths_of s.local) (paths_of s.remote) ∙ or_right (is_in q (paths_of s.local)) (is_in q (paths_of s.remote)) (sym (at-in q s.remote) ∙ some)

-- the paths of the next depth
pub next-depth : (depth : ℕ) (paths : List Path) → 0 < depth → by_depth depth paths ≡ filter (λ path. nat_eq (length path) (depth - 1)) paths ++ by_depth (depth - 1) paths
next-depth zero paths above = absurd (omega arith)
next-depth (suc depth) paths above =
    let same : suc depth - 1 ≡ depth = omega arith in
    sym (ap (λ (d : ℕ). filter (λ path. nat_eq (length path) d) paths ++ by_depth d paths) same)

any-one : {X : Type 0} (t a b : Bool) (f : Path → Bool) (entry : Path × X) (rest : List (Path × X)) → f entry.0 ≡ a → list_any f (map (λ (e : Path × X). e.0) rest) ≡ b
    → list_any f (map (λ (e : Path × X). e.0) (cond t (entry ∷ rest) rest)) ≡ ((a && t) || b)
any-one true true b f entry rest here more = rw here refl
any-one true false b f entry rest here more = rw here more
any-one false true b f entry rest here more = more
any-one false false b f entry rest here more = more

pub any-mapped : {X : Type 0} (f : Path → Bool) (test : Path × X → Bool) (entries : List (Path × X))
    → list_any f (map (λ (e : Path × X). e.0) (filter test entries)) ≡ list_any (λ (entry : Path × X). f entry.0 && test entry) entries
any-mapped f test [] = refl
any-mapped {X} f test (entry ∷ entries) =
    any-one (test entry) (f entry.0) (list_any (λ (e : Path × X). f e.0 && test e) entries) f entry (filter test entries) refl (any-mapped f test entries)

-- ---- an index of items
first-item : (t : Bool) (q : Path) (entry : Path × Item) (rest : List (Path × Item)) → is_path entry.0 q ≡ t → or_else (cond t (Some entry.1) None) (item_at rest q) ≡ item_at (entry ∷ rest) q
first-item true q entry rest is = rw (sym (turned entry.0 q) ∙ is) refl
first-item false q entry rest is = rw (sym (turned entry.0 q) ∙ is) refl

pub items-more : (q : Path) (old new : Option Item) (entry : Path × Item) (left rest items : List (Path × Item)) → left ≡ entry ∷ rest → or_else old (item_at left q) ≡ item_at items q
    → new ≡ or_else old (cond (is_path entry.0 q) (Some entry.1) None) → or_else new (item_at rest q) ≡ item_at items q
items-more q old new entry left rest items left_is before put =
    ap (λ x. or_else x (item_at rest q)) put
    ∙ (or-else-over old (cond (is_path entry.0 q) (Some entry.1) None) (item_at rest q)
    ∙ (ap (λ x. or_else old x) (first-item (is_path entry.0 q) q entry rest refl) ∙ (ap (λ (es : List (Path × Item)). or_else old (item_at es q)) (sym left_is) ∙ before)))

pub as-item : (q path : Path) (item : Item) (old new : List (Path × Item)) → found_at new q ≡ or_else (found_at old q) (cond (is_path path q) (Some item) None)
    → item_at new q ≡ or_else (item_at old q) (cond (is_path path q) (Some item) None)
as-item q path item old new put = sym (item-found q new) ∙ (put ∙ ap (λ x. or_else x (cond (is_path path q) (Some item) None)) (item-found q old))

-- ---- lists of steps by two indexes that have the same
pub maps-alike : {X Y : Type 0} (f g : Y → Option X) → ((y : Y) → f y ≡ g y) → (ys : List Y) → filter_map f ys ≡ filter_map g ys
maps-alike f g same [] = refl
maps-alike f g same (y ∷ ys) = ap (λ x. cons_option x (filter_map f ys)) (same y) ∙ ap (λ xs. cons_option (g y) xs) (maps-alike f g same ys)

either-alike : (m : Sides) (a b : List (Path × Item)) → ((path : Path) → item_at a path ≡ item_at b path) → (path : Path) (pair : Option (Path × Path)) → fetch_or_move m a path pair ≡ fetch_or_move m b path pair
either-alike m a b same path None = ap (λ item. fetch_of path item (digest_of (at m.local path))) (same path)
either-alike m a b same path (Some pair) = refl

pub down-alike : (m : Sides) (a b : List (Path × Item)) → ((path : Path) → item_at a path ≡ item_at b path) → down_list m a ≡ down_list m b
down-alike m a b same =
    ap (λ steps. filter_map (removal_here m (local_pairs m)) (deepest_first (all_paths m)) ++ (filter_map (folder_here m) (all_paths m) ++ steps))
    (maps-alike (fetch_here m a (local_pairs m)) (fetch_here m b (local_pairs m))
    (λ path. ap (λ step. cond (is_fetched m path) step None) (either-alike m a b same path (pair_to (local_pairs m) path))) (all_paths m))

pub up-alike : (limits : Limits) (m : Sides) (a b : List (Path × Item)) → ((path : Path) → item_at a path ≡ item_at b path) → up_list limits m a ≡ up_list limits m b
up-alike limits m a b same =
    let pairs = drive_pairs limits m in
    ap (λ steps. steps ++ (filter_map (folder_there limits m) (all_paths m) ++ (filter_map (patch_there a) pairs ++ filter_map (send_there limits m a pairs) (all_paths m))))
    (maps-alike (removal_there m a pairs) (removal_there m b pairs) (λ path. ap (λ item. cond (is_going m m.remote path && not (is_moved_from pairs path)) (delete_of path item) None) (same path)) (deepest_first (all_paths m)))
    ∙ (ap (λ steps. filter_map (removal_there m b pairs) (deepest_first (all_paths m)) ++ (filter_map (folder_there limits m) (all_paths m) ++ (steps ++ filter_map (send_there limits m a pairs) (all_paths m))))
    (maps-alike (patch_there a) (patch_there b) (λ pair. ap (λ item. patch_of pair item) (same pair.0)) pairs)
    ∙ ap (λ steps. filter_map (removal_there m b pairs) (deepest_first (all_paths m)) ++ (filter_map (folder_there limits m) (all_paths m) ++ (filter_map (patch_there b) pairs ++ steps)))
    (maps-alike (send_there limits m a pairs) (send_there limits m b pairs)
    (λ path. ap (λ item. cond (is_sent_now limits m path && not (is_moved_to pairs path)) (Some (up.Send path (over_of item))) None) (same path)) (all_paths m)))

-- ---- the sides after the renames
pub renamed-contents : (renames : List (Path × Path)) (local : List (Path × Node)) → local_tree (renamed_entries renames local) ≡ renamed_tree renames (local_tree local)
renamed-contents renames [] = refl
renamed-contents renames (entry ∷ local) = ap (λ tree. (moved renames entry.0, node_content entry.1) ∷ tree) (renamed-contents renames local)

pub sides-then : (s : Sides) (a b : Tree) (f g : List Path) → a ≡ b → f ≡ g → record s { local = a; left = f } ≡ record s { local = b; left = g }
sides-then s a b f g trees lefts = rw (trees, lefts) refl

pub found-alike : {rules r : List ℕ} {rows w : List BaseRow} {local l : Tree} {remote e : Tree} → rules ≡ r → rows ≡ w → local ≡ l → remote ≡ e
    → sides_of (passes_file rules) rows local remote ≡ sides_of (passes_file r) w l e
found-alike rules_is rows_is local_is remote_is = rw (rules_is, rows_is, local_is, remote_is) refl

-- ---- a plan by what was made ready is the plan by what was given
pub plan-is : (host : List ℕ) (t s : Sides) (l local : List (Path × Node)) (q quota : List Path) (a items : List (Path × Item)) (plan : Plan) → t ≡ s → l ≡ local → q ≡ quota
    → ((path : Path) → item_at a path ≡ item_at items path)
    → IsPlanOf (renames (copy_path host t.local) t) (limits_of q (renamed_entries (renames (copy_path host t.local) t) l)) (renamed (copy_path host t.local) t) a plan
    → IsPlanOf (renames (copy_path host s.local) s) (limits_of quota (renamed_entries (renames (copy_path host s.local) s) local)) (renamed (copy_path host s.local) s) items plan
plan-is host t s l local q quota a items plan s_is l_is q_is same is =
    let m = renamed (copy_path host s.local) s in
    let moves = renames (copy_path host s.local) s in
    let one = subst (λ (t : Sides). IsPlanOf (renames (copy_path host t.local) t) (limits_of q (renamed_entries (renames (copy_path host t.local) t) l)) (renamed (copy_path host t.local) t) a plan) s_is is in
    let two = subst (λ (l : List (Path × Node)). IsPlanOf moves (limits_of q (renamed_entries moves l)) m a plan) l_is one in
    let three = subst (λ (q : List Path). IsPlanOf moves (limits_of q (renamed_entries moves local)) m a plan) q_is two in
    record {
      renames = three.renames;
      down = three.down ∙ down-alike m a items same;
      up = three.up ∙ up-alike (limits_of quota (renamed_entries moves local)) m a items same;
      held = three.held;
    }

-- ---- pairs, one after the other
pub pairs-step : (fits : Path → Path → Bool) (sources : List Path) (pairs new : List (Path × Path)) (from : Option Path) (to : Path) (left rest : List Path) (goal : List (Path × Path))
    → left ≡ to ∷ rest → from ≡ source_for fits sources pairs to → new ≡ and_pair from to pairs → pairs_from fits sources pairs left ≡ goal → pairs_from fits sources new rest ≡ goal
pairs-step fits sources pairs new from to left rest goal left_is from_is new_is before =
    ap (λ (ps : List (Path × Path)). pairs_from fits sources ps rest) (new_is ∙ ap (λ (f : Option Path). and_pair f to pairs) from_is)
    ∙ (sym (ap (λ (ps : List Path). pairs_from fits sources pairs ps) left_is) ∙ before)
