-- Where both sides are equal, a plan has nothing to do.
use Rattle.std.proofs.Common.{◌≡◌, ℕ, Bool, true, false, not, ◌&&◌, ◌||◌, cond, is_none, is_some, nat_lt, length, List, [], ◌∷◌, ◌++◌, map, filter, Option, Some, None, refl, ap, sym, ◌∙◌}
use Rattle.std.proofs.lemmas.Bool.{true≢false, false≢true, and_parts, and_left, and_right, not-true, not_from_true, false_from_ne_true, cond-false}
use Rattle.std.specs.List.{cons_option, filter_map, list_any}
use Rattle.std.specs.Option.{option_map}
use Rattle.gd_item.specs.declared.item.Item.{Item}
use Rattle.od_keeper.specs.declared.image.BaseRow.{BaseRow}
use Rattle.od_merge.specs.declared.content.Content.{Content}
use Rattle.od_merge.specs.declared.content.Content.TheVariants.{Folder, File}
use Rattle.od_merge.specs.declared.why.Why.{Why}
use Rattle.od_merge.specs.declared.why.Why.TheVariants.{BadName, PathTooLong, TooLarge, CaseClash, NoCopyName, Quota}
use Rattle.gd_names.specs.Causes.{first_cause}
use Rattle.od_merge.specs.Sides.{Sides, Tree, at, is_file, is_folder, is_from, is_kept, is_other_kind, is_path, paths_of, same}
use Rattle.od_merge.specs.Merging.{Limits, all_paths, conflicts, copied, copies, first_held, is_barred, is_changed, is_conflict, is_conflict_of, is_going, is_left, is_local_alone, is_needed, merged, own_cause, prefixes, renamed_tree, renames, seen, target, wanted, why_held, without_copy}
use Rattle.od_merge.specs.Pairs.{drive_pairs, is_sent_now, local_pairs, may_move, pairs_from}
use Rattle.od_merge.specs.Steps.{AreRenamed, AreTrees, IsClear, deepest_first, is_fetched, is_sent, needs_folder}
use Rattle.od_merge.proofs.Agreements.{going-clear-here, going-clear-there, gone-other, lone-needs, target-clear, folder-target, long-by}
use Rattle.od_merge.proofs.Cases.{same-nodes}
use Rattle.od_merge.proofs.Digests.{none-fetched, none-sent, some-file}
use Rattle.od_merge.proofs.Doing.{cond-none}
use Rattle.od_merge.proofs.Lists.{Path, is_in}
use Rattle.od_merge.proofs.Needs.{wanted-is}
use Rattle.od_merge.proofs.Proper.{are-renamed}
use Rattle.od_merge.proofs.Copying.{left_of, moves_of}
use Rattle.od_merge.proofs.Renames.{at-renamed}
use Rattle.od_merge.proofs.SideFacts.{goes, is-folder}
use Rattle.od_merge.proofs.Turns.{head-in, tail-in}
use Rattle.od_reconcile.specs.Copying.{copy_path}
use Rattle.od_reconcile.specs.Entries.{local_tree, remote_tree}
use Rattle.od_reconcile.specs.Holding.{held_list, held_of}
use Rattle.od_reconcile.specs.Moving.{is_moved_from, is_moved_to, is_source_there, is_target_there, pair_to}
use Rattle.od_reconcile.specs.Plans.{IsPlan, begun, down_list, fetch_here, fetch_or_move, folder_here, folder_there, item_at, delete_of, limits_then, over_of, patch_there, removal_here, removal_of, removal_there, rename_of, renamed_sides, send_there, up_list}
use Rattle.od_reconcile.specs.Promises.{IsEmpty}
use Rattle.od_reconcile.specs.declared.types.Down.TheVariants as down
use Rattle.od_reconcile.specs.declared.types.Node.{Node}
use Rattle.od_reconcile.specs.declared.types.Plan.{Plan}
use Rattle.od_reconcile.specs.declared.types.Up.TheVariants as up
use Rattle.od_reconcile.proofs.Beside.{copies-beside}
use Rattle.od_reconcile.proofs.Careful.{some-of}
use Rattle.od_reconcile.proofs.Doings.{none-map}
use Rattle.od_reconcile.proofs.Merged.{long-in, some-kept}
use Rattle.od_reconcile.proofs.ThereDoing.{going-some, long-file}
use Rattle.od_merge.proofs.MergeLaws.{filter-one-none, no-kind}

none-map-at : {Y : Type 0} (y : Option Y) (ys : List Y) → y ≡ None → ys ≡ [] → cons_option y ys ≡ []
none-map-at None ys none rest = rest
none-map-at (Some y) ys none rest = absurd (cc none)

none-map-in : {Y : Type 0} (f : Path → Option Y) (paths : List Path) → ((path : Path) → is_in path paths ≡ true → f path ≡ None) → filter_map f paths ≡ []
none-map-in f [] none = refl
none-map-in f (path ∷ paths) none = none-map-at (f path) (filter_map f paths) (none path (head-in path paths)) (none-map-in f paths (λ q has. none q (tail-in q path paths has)))

none-filter : (test : Path → Bool) (paths : List Path) → ((path : Path) → test path ≡ false) → filter test paths ≡ []
none-filter test [] none = refl
none-filter test (path ∷ paths) none = filter-one-none (test path) path (filter test paths) (none path) (none-filter test paths none)

-- ---- no conflict
no-conflict-of : (s : Sides) (q : Path) (x y : Option Content) → same x y ≡ true → is_conflict_of s q x y ≡ false
no-conflict-of s q None y alike = refl
no-conflict-of s q (Some Folder) None alike = refl
no-conflict-of s q (Some (File d)) None alike = refl
no-conflict-of s q (Some Folder) (Some Folder) alike = refl
no-conflict-of s q (Some Folder) (Some (File e)) alike = absurd (false≢true alike)
no-conflict-of s q (Some (File d)) (Some Folder) alike = absurd (false≢true alike)
no-conflict-of s q (Some (File d)) (Some (File e)) alike =
    and_left (s.passes q false && is_changed s q && not (same (Some (File d)) (Some (File e)))) (not (same (Some (File e)) (s.base q)))
    (and_right (s.passes q false && is_changed s q) (not (same (Some (File d)) (Some (File e)))) (not_from_true (same (Some (File d)) (Some (File e))) alike))

same-three : {X : Type 0} (a b c : Bool) (x : X) → cond a x (cond b x (cond c x x)) ≡ x
same-three true b c x = refl
same-three false true c x = refl
same-three false false true x = refl
same-three false false false x = refl

kind-of : (x : Option Content) → is_some x ≡ true → is_folder x ≡ false → is_file x ≡ true
kind-of None some folder = absurd (false≢true some)
kind-of (Some Folder) some folder = absurd (true≢false folder)
kind-of (Some (File d)) some folder = refl

module _ (limits : Limits) (m : Sides) (is : AreRenamed m) (items : List (Path × Item)) (remote_is : m.remote ≡ remote_tree items) (alike : (q : Path) → same (at m.local q) (at m.remote q) ≡ true) where
  one : (q : Path) → at m.local q ≡ at m.remote q
  one q = same-nodes (at m.local q) (at m.remote q) (alike q)

  no-other : (q : Path) → is_other_kind (at m.local q) (at m.remote q) ≡ false
  no-other q = ap (λ (x : Option Content). is_other_kind x (at m.remote q)) (one q) ∙ no-kind (at m.remote q)

  seen-is : (side : Tree) (q : Path) → seen m side q ≡ at side q
  seen-is side q = cond-false (is_other_kind (at m.local q) (at m.remote q) && not (is_kept m.passes side q)) None (at side q) (and_left (is_other_kind (at m.local q) (at m.remote q)) (not (is_kept m.passes side q)) (no-other q))

  wanted-there : (q : Path) → IsClear m q → wanted m q ≡ at m.remote q
  wanted-there q clear =
      wanted-is m q clear.kept clear.not_left
      ∙ (ap (λ (x : Option Content). merged (m.base q) x (seen m m.remote q)) (seen-is m.local q ∙ one q)
      ∙ (ap (λ (y : Option Content). merged (m.base q) (at m.remote q) y) (seen-is m.remote q)
      ∙ same-three (same (at m.remote q) (m.base q)) (same (at m.remote q) (m.base q) || same (at m.remote q) (at m.remote q)) (is_none (at m.remote q)) (at m.remote q)))

  target-at : (t : Bool) (q : Path) → is_folder (at m.remote q) ≡ t → nat_lt 0 (length q) ≡ true → IsClear m q → target m q ≡ at m.remote q
  target-at true q folder from_root clear =
      folder-target (is_needed m q) (wanted m q) (wanted-there q clear ∙ is-folder (at m.remote q) folder) ∙ sym (is-folder (at m.remote q) folder)
  target-at false q folder from_root clear =
      ap (λ (b : Bool). cond b (Some Folder) (wanted m q)) (lone-needs m is q from_root (ap (λ (x : Option Content). is_folder x) (one q) ∙ folder) folder) ∙ wanted-there q clear

  target-there : (q : Path) → nat_lt 0 (length q) ≡ true → IsClear m q → target m q ≡ at m.remote q
  target-there q from_root clear = target-at (is_folder (at m.remote q)) q refl from_root clear

  stays-there : (q : Path) → is_going m m.remote q ≡ false
  stays-there q = false_from_ne_true (is_going m m.remote q)
      (λ going.
      let some = going-some limits m is items remote_is q going in
      gone-other (at m.remote q) (target m q) some (goes m m.remote q going).1 (target-there q (long-by m.remote is.root_there q some) (going-clear-there m is q going)))

  stays-here : (q : Path) → is_going m m.local q ≡ false
  stays-here q = false_from_ne_true (is_going m m.local q)
      (λ going.
      let some = some-kept m.passes m.local q (at m.local q) (goes m m.local q going).0 in
      gone-other (at m.local q) (target m q) some (goes m m.local q going).1 (target-there q (long-by m.local is.root q some) (going-clear-here m is q going) ∙ sym (one q)))

  none-needed : (q : Path) → is_in q (all_paths m) ≡ true → is_folder (target m q) ≡ true → is_folder (at m.remote q) ≡ true
  none-needed q has folder =
      let from_root = long-in limits m is items remote_is q has in
      ap (λ (x : Option Content). is_folder x) (sym (target-there q from_root (target-clear m is q from_root (some-of (target m q) folder)))) ∙ folder

  no-folder-there : (q : Path) → is_in q (all_paths m) ≡ true → needs_folder m m.remote q ≡ false
  no-folder-there q has = false_from_ne_true (needs_folder m m.remote q)
      (λ needs.
      let parts = and_parts (is_folder (target m q)) (not (is_folder (at m.remote q))) needs in
      true≢false (sym (none-needed q has parts.0) ∙ not-true (is_folder (at m.remote q)) parts.1))

  no-folder-here : (q : Path) → is_in q (all_paths m) ≡ true → needs_folder m m.local q ≡ false
  no-folder-here q has = ap (λ (x : Option Content). is_folder (target m q) && not (is_folder x)) (one q) ∙ no-folder-there q has

  none-sent-at : (q : Path) → is_sent m q ≡ false
  none-sent-at q = false_from_ne_true (is_sent m q)
      (λ sent.
      let file = (and_parts (is_file (target m q)) (not (same (target m q) (at m.remote q))) sent).0 in
      true≢false (sym sent ∙ none-sent m q (target-clear m is q (long-file m is q file) (some-file (target m q) file)) (alike q)))

  sent-now : (q : Path) → is_sent_now limits m q ≡ false
  sent-now q = and_left (is_sent m q) (is_none (why_held limits m q)) (none-sent-at q)

  empty-down : down_list m items ≡ []
  empty-down =
      let pairs = local_pairs m in
      ap (λ steps. steps ++ (filter_map (folder_here m) (all_paths m) ++ filter_map (fetch_here m items pairs) (all_paths m)))
      (none-map (removal_here m pairs) (deepest_first (all_paths m))
      (λ q. cond-false (is_going m m.local q && not (is_moved_from pairs q)) (removal_of q (at m.local q)) None (and_left (is_going m m.local q) (not (is_moved_from pairs q)) (stays-here q))))
      ∙ (ap (λ steps. steps ++ filter_map (fetch_here m items pairs) (all_paths m))
      (none-map-in (folder_here m) (all_paths m) (λ q has. ap (λ (b : Bool). cond b (Some (down.MakeFolder q)) None) (no-folder-here q has)))
      ∙ none-map (fetch_here m items pairs) (all_paths m) (λ q. cond-false (is_fetched m q) (fetch_or_move m items q (pair_to pairs q)) None (none-fetched m q (alike q))))

  no-pairs : drive_pairs limits m ≡ []
  no-pairs =
      ap (λ (ps : List Path). pairs_from (may_move limits m) (filter (is_source_there m) (all_paths m)) [] ps)
      (none-filter (is_target_there limits m) (all_paths m)
      (λ q. and_left (is_sent_now limits m q && not (is_file (at m.remote q))) (same (target m q) (target m q)) (and_left (is_sent_now limits m q) (not (is_file (at m.remote q))) (sent-now q))))

  empty-up : up_list limits m items ≡ []
  empty-up =
      let pairs = drive_pairs limits m in
      ap (λ steps. steps ++ (filter_map (folder_there limits m) (all_paths m) ++ (filter_map (patch_there items) pairs ++ filter_map (send_there limits m items pairs) (all_paths m))))
      (none-map (removal_there m items pairs) (deepest_first (all_paths m))
      (λ q. cond-false (is_going m m.remote q && not (is_moved_from pairs q)) (delete_of q (item_at items q)) None (and_left (is_going m m.remote q) (not (is_moved_from pairs q)) (stays-there q))))
      ∙ (ap (λ steps. steps ++ (filter_map (patch_there items) pairs ++ filter_map (send_there limits m items pairs) (all_paths m)))
      (none-map-in (folder_there limits m) (all_paths m)
      (λ q has. ap (λ (b : Bool). cond b (Some (up.MakeFolder q)) None) (and_left (needs_folder m m.remote q) (is_none (why_held limits m q)) (no-folder-there q has))))
      ∙ (ap (λ (ps : List (Path × Path)). filter_map (patch_there items) ps ++ filter_map (send_there limits m items pairs) (all_paths m)) no-pairs
      ∙ none-map (send_there limits m items pairs) (all_paths m)
      (λ q. ap (λ (b : Bool). cond b (Some (up.Send q (over_of (item_at items q)))) None) (and_left (is_sent_now limits m q) (not (is_moved_to pairs q)) (sent-now q)))))

  not-alone : (q : Path) → is_local_alone m q ≡ false
  not-alone q = false_from_ne_true (is_local_alone m q)
      (λ alone.
      let first = and_parts (is_some (target m q) && not (same (target m q) (at m.remote q)) && not (is_other_kind (target m q) (at m.local q))) (is_some (at m.local q)) alone in
      let second = and_parts (is_some (target m q) && not (same (target m q) (at m.remote q))) (not (is_other_kind (target m q) (at m.local q))) first.0 in
      let third = and_parts (is_some (target m q)) (not (same (target m q) (at m.remote q))) second.0 in
      let from_root = long-by m.local is.root q first.1 in
      let there = target-there q from_root (target-clear m is q from_root third.0) in
      true≢false (sym (ap (λ (x : Option Content). same x (at m.remote q)) (there ∙ sym (one q)) ∙ alike q) ∙ not-true (same (target m q) (at m.remote q)) third.1))

  no-cause : (q : Path) → own_cause limits m q ≡ None
  no-cause q = ap (λ (b : Bool). cond b (first_cause (
      (limits.bad_name q, BadName) ∷ (limits.too_long q, PathTooLong)
      ∷ (is_file (target m q) && limits.too_large q, TooLarge)
      ∷ (list_any (is_barred limits m) (prefixes q), CaseClash) ∷ (limits.quota q, Quota) ∷ [])) None) (not-alone q)

  none-first : (paths : List Path) → first_held limits m paths ≡ None
  none-first [] = refl
  none-first (path ∷ paths) =
      ap (λ (x : Option Why). cond (is_some x) (own_cause limits m path) (first_held limits m paths)) (no-cause path) ∙ none-first paths

  module _ (none_left : (q : Path) → is_left m q ≡ false) where
    not-held : (q : Path) → why_held limits m q ≡ None
    not-held q =
        cond-false (is_left m q) (cond (is_kept m.passes m.local q || list_any (is_path q) m.left) (Some NoCopyName) None) (cond (is_some (target m q)) (first_held limits m (prefixes q)) None) (none_left q)
        ∙ cond-none (is_some (target m q)) (first_held limits m (prefixes q)) (none-first (prefixes q))

    empty-held : held_list limits m ≡ []
    empty-held = none-map (held_of limits m) (all_paths m) (λ q. ap (λ (x : Option Why). option_map (λ why. record { path = q; why = why }) x) (not-held q))

    pub empty : (plan : Plan) → plan.renames ≡ [] → plan.down ≡ down_list m items → plan.up ≡ up_list limits m items → plan.held ≡ held_list limits m → IsEmpty plan
    empty plan renames_is down_is up_is held_is = record { renames = renames_is; down = down_is ∙ empty-down; up = up_is ∙ empty-up; held = held_is ∙ empty-held }

pub equal-sides : (rules host : List ℕ) (rows : List BaseRow) (local : List (Path × Node)) (items : List (Path × Item)) (quota : List Path) (plan : Plan) → IsPlan rules host rows local items quota plan
    → AreTrees (begun rules rows local items) → ((q : Path) → same (at (local_tree local) q) (at (remote_tree items) q) ≡ true) → IsEmpty plan
equal-sides rules host rows local items quota plan is trees alike =
    let s = begun rules rows local items in
    let copy = copy_path host (local_tree local) in
    let m = renamed_sides rules host rows local items in
    let none : conflicts s ≡ [] = none-filter (is_conflict s) (paths_of s.local) (λ q. no-conflict-of s q (at s.local q) (at s.remote q) (alike q)) in
    let none_copied : copies copy s ≡ [] = ap (λ (ps : List Path). copied copy (paths_of s.local ++ paths_of s.remote) ps) none in
    let no_renames : renames copy s ≡ [] = ap (λ (those : List (Path × Option Path)). moves_of those) none_copied in
    let no_left : without_copy copy s ≡ [] = ap (λ (those : List (Path × Option Path)). left_of those) none_copied in
    let renamed_is = are-renamed s trees copy (copies-beside host (local_tree local)) in
    let still : (q : Path) → same (at m.local q) (at m.remote q) ≡ true = λ q.
    ap (λ (moves : List (Path × Path)). same (at (renamed_tree moves s.local) q) (at s.remote q)) no_renames ∙ (ap (λ (x : Option Content). same x (at s.remote q)) (at-renamed [] s.local q refl) ∙ alike q) in
    empty (limits_then rules host rows local items quota) m renamed_is items refl still
    (λ q. ap (λ (tops : List Path). list_any (λ top. is_from top q) tops) no_left) plan
    (is.renames ∙ ap (λ (moves : List (Path × Path)). map rename_of moves) no_renames) is.down is.up is.held
