-- Each step of a plan's two lists can be done at its turn.
use Rattle.std.proofs.Common.{◌≡◌, ◌⊎◌, inl, inr, Bool, true, false, not, ◌&&◌, ◌||◌, cond, is_none, is_some, nat_lt, length, List, [], ◌∷◌, ◌++◌, map, filter, append-nil, Option, Some, None, refl, ap, sym, subst, ◌∙◌}
use Rattle.std.proofs.lemmas.Bool.{true≢false, false≢true, and_parts, and_from, and_left, and_right, or_from, or_left, or_right, not-true, not_from_false, not_from_true, false_from_ne_true, cond-true, cond-false}
use Rattle.std.proofs.lemmas.List.Kept.{IsStrictlySortedBy-filter}
use Rattle.std.specs.List.{cons_option, filter_map}
use Rattle.std.specs.Option.{option_map}
use Rattle.gd_names.specs.Ordered.{path_cmp}
use Rattle.gd_item.specs.declared.item.Item.{Item}
use Rattle.od_merge.specs.declared.content.Content.{Content}
use Rattle.od_merge.specs.declared.content.Content.TheVariants.{Folder, File}
use Rattle.od_merge.specs.declared.why.Why.{Why}
use Rattle.od_merge.specs.Sides.{Sides, at, is_below, is_file, is_folder, is_other_kind, paths_of, same}
use Rattle.od_merge.specs.Merging.{Limits, all_paths, both_paths, is_going, target, why_held}
use Rattle.od_merge.specs.Pairs.{drive_pairs, folder_of, is_sent_now, local_pairs}
use Rattle.od_merge.specs.Steps.{AreRenamed, IsClear, deepest_first, done, is_fetched, is_sent, needs_folder}
use Rattle.od_merge.proofs.Agreements.{gone-there-none, target-clear, there-file-by}
use Rattle.od_merge.proofs.Doing.{in-all, there-folder-goes}
use Rattle.od_merge.proofs.Lists.{Path, at-in, deepest-in, filter-in, in-joined, in-order, is_in}
use Rattle.od_merge.proofs.Order.{Apart, Rises, apart-filter, rises}
use Rattle.od_merge.proofs.Proper.{In}
use Rattle.od_merge.proofs.SideFacts.{file-goes, goes, here-file-kept, here-folder-goes}
use Rattle.od_merge.proofs.Turns.{falls-apart, falls-deepest, falls-filter, folder-goes, going-below, head-in, tail-in, target-above, why-above}
use Rattle.od_reconcile.specs.Doing.{CanDo, Standing, Step, done_down, gone_here, made_here, come_here, steps_down, steps_up}
use Rattle.od_reconcile.specs.Entries.{remote_tree}
use Rattle.od_reconcile.specs.Moving.{is_moved_from, is_moved_to}
use Rattle.od_reconcile.specs.Plans.{down_list, fetch_here, up_list}
use Rattle.od_reconcile.specs.Promises.{IsInOrder, pair_here}
use Rattle.od_reconcile.specs.declared.types.Down.{Down}
use Rattle.od_reconcile.specs.declared.types.Plan.{Plan}
use Rattle.od_reconcile.specs.declared.types.Up.{Up}
use Rattle.od_reconcile.proofs.Careful.{fetch-pairs, no-why, some-of}
use Rattle.od_reconcile.proofs.Doings.{done-each, same-map, then_by}
use Rattle.od_reconcile.proofs.HereDoing.{Fetches, Moves, all-apart, come-list, comes, gone-list, gone_by_move, in-gone, is_removed, local-froms-apart, made-list, no-fetch}
use Rattle.od_reconcile.proofs.InOrder.{InSteps, MayGo, MayMake, MayPut, can-go, can-make, can-put, joined-can, takes}
use Rattle.od_reconcile.proofs.Merged.{long-in, some-kept}
use Rattle.od_reconcile.proofs.PairFacts.{Pairs, froms, from-in, in-froms, some-from}
use Rattle.od_reconcile.proofs.ThereDoing.{drive-pair, going-some, is_made_there, is_removed_there, is_sent_alone, patch_steps, drive-froms-apart, sent-stays, file-not-folder, up-steps}
use Rattle.od_merge.proofs.Digests.{some-file}

-- ---- lists
apart-join : (a b : List Path) → Apart a → Apart b → ((q : Path) → is_in q a ≡ true → is_in q b ≡ true → ⊥) → Apart (a ++ b)
apart-join [] b first second none = second
apart-join (path ∷ a) b first second none = (
  in-joined path a b ∙ or_from (is_in path a) (is_in path b) first.0 (false_from_ne_true (is_in path b) (λ has. none path (head-in path a) has)),
  apart-join a b first.1 second (λ q here there. none q (tail-in q path a here) there),
)

mapped-at : (x : Option (Path × Path)) (ps : Pairs) → cons_option (option_map (λ (pair : Path × Path). pair.0) x) (froms ps) ≡ froms (cons_option x ps)
mapped-at None ps = refl
mapped-at (Some pair) ps = refl

mapped-list : (f : Path → Option (Path × Path)) (paths : List Path) → filter_map (λ path. option_map (λ (pair : Path × Path). pair.0) (f path)) paths ≡ froms (filter_map f paths)
mapped-list f [] = refl
mapped-list f (path ∷ paths) =
    ap (λ (ps : List Path). cons_option (option_map (λ (pair : Path × Path). pair.0) (f path)) ps) (mapped-list f paths) ∙ mapped-at (f path) (filter_map f paths)

-- the steps at the paths of a list
placed-in : (leaves : Path → Option Content) (paths : List Path) (step : Step) → InSteps step (map (λ path. (path, leaves path)) paths) → (is_in step.0 paths ≡ true) × (step.1 ≡ leaves step.0)
placed-in leaves [] step has = absurd has
placed-in leaves (path ∷ paths) step (inl is) =
    (subst (λ (s : Step). is_in s.0 (path ∷ paths) ≡ true) (sym is) (head-in path paths), subst (λ (s : Step). s.1 ≡ leaves s.0) (sym is) refl)
placed-in leaves (path ∷ paths) step (inr more) = let rest = placed-in leaves paths step more in (tail-in step.0 path paths rest.0, rest.1)

no-takes-at : (t : Bool) (path : Path) (rest : List Path) → t ≡ true → rest ≡ [] → cond t rest (path ∷ rest) ≡ []
no-takes-at true path rest is none = none
no-takes-at false path rest is none = absurd (false≢true is)

no-takes : (leaves : Path → Option Content) (paths : List Path) → ((path : Path) → is_in path paths ≡ true → is_some (leaves path) ≡ true) → takes (map (λ path. (path, leaves path)) paths) ≡ []
no-takes leaves [] each = refl
no-takes leaves (path ∷ paths) each =
    no-takes-at (is_some (leaves path)) path (takes (map (λ path. (path, leaves path)) paths)) (each path (head-in path paths)) (no-takes leaves paths (λ q has. each q (tail-in q path paths has)))

-- ---- small facts
none-gone : (b : Bool) (x : Option Content) → is_some x ≡ false → is_some (cond b None x) ≡ false
none-gone true x none = refl
none-gone false x none = none

no-folder-gone : (b : Bool) (x : Option Content) → is_folder x ≡ false → is_folder (cond b None x) ≡ false
no-folder-gone true x none = refl
no-folder-gone false x none = none

same-folders : (x t : Option Content) → is_folder x ≡ true → t ≡ Some Folder → (is_none t || is_other_kind x t) ≡ true → ⊥
same-folders None t folder is other = false≢true folder
same-folders (Some (File d)) t folder is other = false≢true folder
same-folders (Some Folder) t folder is other = false≢true (sym (ap (λ (y : Option Content). is_none y || is_other_kind (Some Folder) y) is) ∙ other)

file-by-folder : (x t : Option Content) → is_file x ≡ true → is_folder t ≡ true → (is_none t || is_other_kind x t) ≡ true
file-by-folder None t file folder = absurd (false≢true file)
file-by-folder (Some Folder) t file folder = absurd (false≢true file)
file-by-folder (Some (File d)) None file folder = absurd (false≢true folder)
file-by-folder (Some (File d)) (Some Folder) file folder = refl
file-by-folder (Some (File d)) (Some (File e)) file folder = absurd (false≢true folder)

some-not-none : (x : Option Content) → is_some x ≡ true → x ≡ None → ⊥
some-not-none x some none = false≢true (sym (ap (λ (y : Option Content). is_some y) none) ∙ some)

-- a folder stands, or is made
or-nothing : (a : Bool) → (a || false) ≡ true → a ≡ true
or-nothing true is = refl
or-nothing false is = is

stands-or : (b : Bool) (x : Option Content) → (is_folder x || b) ≡ true → is_folder (cond b (Some Folder) x) ≡ true
stands-or true x is = refl
stands-or false x is = or-nothing (is_folder x) is

fetched-file : (m : Sides) (q : Path) → is_fetched m q ≡ true → is_file (target m q) ≡ true
fetched-file m q fetched =
    (and_parts (is_file (target m q)) (same (target m q) (at m.remote q))
    (and_parts (is_file (target m q) && same (target m q) (at m.remote q)) (not (same (target m q) (at m.local q))) fetched).0).0

module _ (m : Sides) (is : AreRenamed m) where
  abbrev sides_all : List Path
  sides_all = all_paths m

  here-in : (q : Path) → is_some (at m.local q) ≡ true → is_in q sides_all ≡ true
  here-in q some = in-all m q (in-joined q (paths_of m.local) (paths_of m.remote) ∙ or_left (is_in q (paths_of m.local)) (is_in q (paths_of m.remote)) (sym (at-in q m.local) ∙ some))

  there-in : (q : Path) → is_some (at m.remote q) ≡ true → is_in q sides_all ≡ true
  there-in q some = in-all m q (in-joined q (paths_of m.local) (paths_of m.remote) ∙ or_right (is_in q (paths_of m.local)) (is_in q (paths_of m.remote)) (sym (at-in q m.remote) ∙ some))

  -- what is above a path of a side is on that side
  top-in-by : (t : Bool) (top q : Path) → is_some (at m.local q) ≡ t → (t || is_some (at m.remote q)) ≡ true → nat_lt 0 (length top) ≡ true → is_below top q ≡ true → is_in top sides_all ≡ true
  top-in-by true top q here some long below = here-in top (ap (λ (x : Option Content). is_some x) (is.proper.here top q long below here))
  top-in-by false top q here some long below = there-in top (ap (λ (x : Option Content). is_some x) (is.proper.there top q long below some))

  on-a-side : (q : Path) → is_in q sides_all ≡ true → (is_some (at m.local q) || is_some (at m.remote q)) ≡ true
  on-a-side q has =
      ap (λ (b : Bool). b || is_some (at m.remote q)) (at-in q m.local)
      ∙ (ap (λ (b : Bool). is_in q (paths_of m.local) || b) (at-in q m.remote) ∙ (sym (in-joined q (paths_of m.local) (paths_of m.remote)) ∙ (sym (in-order q (both_paths m)) ∙ has)))

  pub top-in : (top q : Path) → is_in q sides_all ≡ true → nat_lt 0 (length top) ≡ true → is_below top q ≡ true → is_in top sides_all ≡ true
  top-in top q has long below = top-in-by (is_some (at m.local q)) top q refl (on-a-side q has) long below

front-more : (step first : Step) (a b : List Step) → InSteps step a ⊎ InSteps step b → InSteps step (first ∷ a) ⊎ InSteps step b
front-more step first a b (inl has) = inl (inr has)
front-more step first a b (inr has) = inr has

filter-rises : (test : Path → Bool) (paths : List Path) → Rises paths → Rises (filter test paths)
filter-rises test paths rising = IsStrictlySortedBy-filter path_cmp test paths rising

-- ---- in the folder
module _ (m : Sides) (is : AreRenamed m) (items : List (Path × Item)) (remote_is : m.remote ≡ remote_tree items) (long-in : (q : Path) → is_in q (all_paths m) ≡ true → nat_lt 0 (length q) ≡ true) where
  abbrev all_here : List Path
  all_here = all_paths m

  abbrev gone_list : List Path
  gone_list = filter_map gone_here (down_list m items)

  abbrev made_list : List Path
  made_list = filter (needs_folder m m.local) all_here

  abbrev here1 : Standing
  here1 q = done (map (λ path. (path, None)) (deepest_first gone_list)) q (at m.local q)

  abbrev here2 : Standing
  here2 q = done (map (λ path. (path, Some Folder)) made_list) q (here1 q)

  -- each goes once
  gone-pair : (x : Option Down) (path : Path) → Fetches m is items remote_is path x ⊎ Moves m is items remote_is path x → then_by gone_here x ≡ option_map (λ (pair : Path × Path). pair.0) (then_by pair_here x)
  gone-pair x path (inl fetch) =
      ap (λ (s : Option Down). then_by gone_here s) fetch.fetch.is ∙ sym (ap (λ (s : Option Down). option_map (λ (pair : Path × Path). pair.0) (then_by pair_here s)) fetch.fetch.is)
  gone-pair x path (inr move) =
      ap (λ (s : Option Down). then_by gone_here s) move.move.is ∙ sym (ap (λ (s : Option Down). option_map (λ (pair : Path × Path). pair.0) (then_by pair_here s)) move.move.is)

  gone-at : (t : Bool) (path : Path) → is_fetched m path ≡ t
      → then_by gone_here (fetch_here m items (local_pairs m) path) ≡ option_map (λ (pair : Path × Path). pair.0) (then_by pair_here (fetch_here m items (local_pairs m) path))
  gone-at true path fetched = gone-pair (fetch_here m items (local_pairs m) path) path (comes m is items remote_is path fetched)
  gone-at false path fetched =
      let none = no-fetch m is items remote_is path fetched in
      ap (λ (s : Option Down). then_by gone_here s) none ∙ sym (ap (λ (s : Option Down). option_map (λ (pair : Path × Path). pair.0) (then_by pair_here s)) none)

  moved-froms : filter_map (gone_by_move m is items remote_is) all_here ≡ froms (local_pairs m)
  moved-froms =
      same-map (gone_by_move m is items remote_is) (λ path. option_map (λ (pair : Path × Path). pair.0) (then_by pair_here (fetch_here m items (local_pairs m) path))) all_here (λ path. gone-at (is_fetched m path) path refl)
      ∙ (mapped-list (λ path. then_by pair_here (fetch_here m items (local_pairs m) path)) all_here ∙ ap (λ (ps : Pairs). froms ps) (fetch-pairs m is items remote_is))

  not-both : (q : Path) → is_in q (filter (is_removed m is items remote_is) (deepest_first all_here)) ≡ true → is_in q (froms (local_pairs m)) ≡ true → ⊥
  not-both q removed moved =
      let test = (and_parts (is_removed m is items remote_is q) (is_in q (deepest_first all_here)) (sym (filter-in (is_removed m is items remote_is) q (deepest_first all_here)) ∙ removed)).0 in
      let none = not-true (is_moved_from (local_pairs m) q) (and_parts (is_going m m.local q) (not (is_moved_from (local_pairs m) q)) test).1 in
      true≢false (sym moved ∙ (sym (from-in (local_pairs m) q) ∙ none))

  gone-apart : Apart gone_list
  gone-apart =
      subst (λ (ps : List Path). Apart ps) (sym (gone-list m is items remote_is ∙ ap (λ (ps : List Path). filter (is_removed m is items remote_is) (deepest_first all_here) ++ ps) moved-froms))
      (apart-join (filter (is_removed m is items remote_is) (deepest_first all_here)) (froms (local_pairs m))
      (apart-filter (is_removed m is items remote_is) (deepest_first all_here) (falls-apart (deepest_first all_here) (falls-deepest all_here (all-apart m is items remote_is))))
      (local-froms-apart m is items remote_is) not-both)

  in-deepest : (q : Path) → is_in q (deepest_first gone_list) ≡ (is_going m m.local q && is_in q all_here)
  in-deepest q = deepest-in q gone_list ∙ in-gone m is items remote_is q

  may-go : (q : Path) → is_in q (deepest_first gone_list) ≡ true → MayGo (at m.local) (deepest_first gone_list) q
  may-go q has =
      let parts = and_parts (is_going m m.local q) (is_in q all_here) (sym (in-deepest q) ∙ has) in
      record {
        stands = some-kept m.passes m.local q (at m.local q) (goes m m.local q parts.0).0;
        all_go = λ other below some.
            in-deepest other ∙ and_from (is_going m m.local other) (is_in other all_here) (going-below m m.local is.proper.here q other (long-in q parts.1) parts.0 below some) (here-in m is other some);
      }

  -- what stands when they are gone_list
  here1-is : (q : Path) → here1 q ≡ cond (is_going m m.local q && is_in q all_here) None (at m.local q)
  here1-is q = done-each None q (deepest_first gone_list) (at m.local q) ∙ ap (λ (b : Bool). cond b None (at m.local q)) (in-deepest q)

  here2-is : (q : Path) → here2 q ≡ cond (is_in q made_list) (Some Folder) (here1 q)
  here2-is q = done-each (Some Folder) q made_list (here1 q)

  clear-here : (q : Path) → is_in q all_here ≡ true → is_some (target m q) ≡ true → IsClear m q
  clear-here q has some = target-clear m is q (long-in q has) some

  needs-parts : (q : Path) → is_in q made_list ≡ true → (needs_folder m m.local q ≡ true) × (is_in q all_here ≡ true)
  needs-parts q has = and_parts (needs_folder m m.local q) (is_in q all_here) (sym (filter-in (needs_folder m m.local) q all_here) ∙ has)

  free-here-by : (x : Option Content) (q : Path) → at m.local q ≡ x → needs_folder m m.local q ≡ true → is_in q all_here ≡ true → is_some (here1 q) ≡ false
  free-here-by None q here needs has = ap (λ (y : Option Content). is_some y) (here1-is q) ∙ none-gone (is_going m m.local q && is_in q all_here) (at m.local q) (ap (λ (y : Option Content). is_some y) here)
  free-here-by (Some Folder) q here needs has =
      absurd (true≢false (sym (ap (λ (y : Option Content). is_folder y) here) ∙ not-true (is_folder (at m.local q)) (and_parts (is_folder (target m q)) (not (is_folder (at m.local q))) needs).1))
  free-here-by (Some (File d)) q here needs has =
      let folder = (and_parts (is_folder (target m q)) (not (is_folder (at m.local q))) needs).0 in
      let clear = clear-here q has (some-of (target m q) folder) in
      let file : is_file (at m.local q) ≡ true = ap (λ (y : Option Content). is_file y) here in
      let going = file-goes m m.local q clear.not_left file (here-file-kept m q clear file) (file-by-folder (at m.local q) (target m q) file folder) in
      ap (λ (y : Option Content). is_some y) (here1-is q ∙ cond-true (is_going m m.local q && is_in q all_here) None (at m.local q) (and_from (is_going m m.local q) (is_in q all_here) going has))

  -- the folders above a path that is to stand
  top-here-by : (t : Bool) (top q : Path) → is_folder (at m.local top) ≡ t → target m top ≡ Some Folder → is_in top all_here ≡ true → (is_folder (here1 top) || is_in top made_list) ≡ true
  top-here-by true top q folder is_top has =
      let stays = false_from_ne_true (is_going m m.local top) (λ going. same-folders (at m.local top) (target m top) folder is_top (goes m m.local top going).1) in
      or_left (is_folder (here1 top)) (is_in top made_list)
      (ap (λ (y : Option Content). is_folder y) (here1-is top ∙ cond-false (is_going m m.local top && is_in top all_here) None (at m.local top) (and_left (is_going m m.local top) (is_in top all_here) stays)) ∙ folder)
  top-here-by false top q folder is_top has =
      or_right (is_folder (here1 top)) (is_in top made_list)
      (filter-in (needs_folder m m.local) top all_here
      ∙ and_from (needs_folder m m.local top) (is_in top all_here)
      (and_from (is_folder (target m top)) (not (is_folder (at m.local top))) (ap (λ (y : Option Content). is_folder y) is_top) (not_from_false (is_folder (at m.local top)) folder)) has)

  top-here-of : (top q : Path) → is_in q all_here ≡ true → is_some (target m q) ≡ true → nat_lt 0 (length top) ≡ true → is_below top q ≡ true → (is_folder (here1 top) || is_in top made_list) ≡ true
  top-here-of top q has some long below = top-here-by (is_folder (at m.local top)) top q refl (target-above m top q below some) (top-in m is top q has long below)

  may-make : (q : Path) → is_in q made_list ≡ true → MayMake here1 made_list q
  may-make q has =
      let parts = needs-parts q has in
      let some = some-of (target m q) (and_parts (is_folder (target m q)) (not (is_folder (at m.local q))) parts.0).0 in
      record {
        free = free-here-by (at m.local q) q refl parts.0 parts.1;
        folders = λ top long below. top-here-of top q parts.1 some long below;
      }

  -- what comes
  not-made-here : (q : Path) → is_file (target m q) ≡ true → is_in q made_list ≡ false
  not-made-here q file =
      filter-in (needs_folder m m.local) q all_here
      ∙ and_left (needs_folder m m.local q) (is_in q all_here) (and_left (is_folder (target m q)) (not (is_folder (at m.local q))) (file-not-folder (target m q) file))

  no-folder-by : (t : Bool) (q : Path) → is_folder (at m.local q) ≡ t → is_file (target m q) ≡ true → is_in q all_here ≡ true → is_folder (here1 q) ≡ false
  no-folder-by false q here file has = ap (λ (y : Option Content). is_folder y) (here1-is q) ∙ no-folder-gone (is_going m m.local q && is_in q all_here) (at m.local q) here
  no-folder-by true q here file has =
      let going = (here-folder-goes m q (clear-here q has (some-file (target m q) file)) here file).1 in
      ap (λ (y : Option Content). is_folder y) (here1-is q ∙ cond-true (is_going m m.local q && is_in q all_here) None (at m.local q) (and_from (is_going m m.local q) (is_in q all_here) going has))

  may-come : (step : Step) → InSteps step (map (λ path. (path, target m path)) (filter (is_fetched m) all_here)) → MayPut (target m) here2 step
  may-come step has =
      let placed = placed-in (target m) (filter (is_fetched m) all_here) step has in
      let parts = and_parts (is_fetched m step.0) (is_in step.0 all_here) (sym (filter-in (is_fetched m) step.0 all_here) ∙ placed.0) in
      let file = (and_parts (is_file (target m step.0)) (same (target m step.0) (at m.remote step.0))
      (and_parts (is_file (target m step.0) && same (target m step.0) (at m.remote step.0)) (not (same (target m step.0) (at m.local step.0))) parts.0).0).0 in
      let some = some-file (target m step.0) file in
      let step_some : is_some step.1 ≡ true = ap (λ (y : Option Content). is_some y) placed.1 ∙ some in
      record {
        leaves = placed.1;
        no_folder = ap (λ (y : Option Content). is_folder y) placed.1 ∙ file-not-folder (target m step.0) file;
        stands = λ none. absurd (true≢false (sym step_some ∙ none));
        alone = λ none other below. absurd (true≢false (sym step_some ∙ none));
        free = λ is_there.
            ap (λ (y : Option Content). is_folder y) (here2-is step.0 ∙ cond-false (is_in step.0 made_list) (Some Folder) (here1 step.0) (not-made-here step.0 file))
            ∙ no-folder-by (is_folder (at m.local step.0)) step.0 refl file parts.1;
        folders = λ is_there top long below. (
          ap (λ (y : Option Content). is_folder y) (here2-is top) ∙ stands-or (is_in top made_list) (here1 top) (top-here-of top step.0 parts.1 some long below),
          ap (λ (y : Option Content). is_folder y) (target-above m top step.0 below some),
        );
      }

  come-can : CanDo (filter_map come_here (down_list m items)) here2
  come-can =
      subst (λ (ss : List Step). CanDo ss here2) (sym (come-list m is items remote_is))
      (can-put (target m) (map (λ path. (path, target m path)) (filter (is_fetched m) all_here)) here2
      (subst (λ (ps : List Path). Apart ps)
      (sym (no-takes (target m) (filter (is_fetched m) all_here)
      (λ q has. some-file (target m q) (fetched-file m q (and_parts (is_fetched m q) (is_in q all_here) (sym (filter-in (is_fetched m) q all_here) ∙ has)).0)))) tt)
      may-come)

  pub down-can : CanDo (steps_down (down_list m items)) (at m.local)
  down-can =
      joined-can (map (λ path. (path, None)) (deepest_first gone_list)) (map (λ path. (path, Some Folder)) (filter_map made_here (down_list m items)) ++ filter_map come_here (down_list m items)) (at m.local)
      (can-go (deepest_first gone_list) (at m.local) (falls-deepest gone_list gone-apart) may-go)
      (subst (λ (ps : List Path). CanDo (map (λ path. (path, Some Folder)) ps ++ filter_map come_here (down_list m items)) here1) (sym (made-list m is items remote_is))
      (joined-can (map (λ path. (path, Some Folder)) made_list) (filter_map come_here (down_list m items)) here1
      (can-make made_list here1 (filter-rises (needs_folder m m.local) all_here (rises (both_paths m))) (apart-filter (needs_folder m m.local) all_here (all-apart m is items remote_is)) may-make)
      come-can))

-- ---- on the drive
module _ (limits : Limits) (m : Sides) (is : AreRenamed m) (items : List (Path × Item)) (remote_is : m.remote ≡ remote_tree items) (long-in : (q : Path) → is_in q (all_paths m) ≡ true → nat_lt 0 (length q) ≡ true) where
  abbrev all_there : List Path
  all_there = all_paths m

  abbrev pairs : Pairs
  pairs = drive_pairs limits m

  abbrev removed : Path → Bool
  removed = is_removed_there limits m is items remote_is

  abbrev needs : Path → Bool
  needs = is_made_there limits m is items remote_is

  abbrev gone_away : List Path
  gone_away = filter removed (deepest_first all_there)

  abbrev made_there_list : List Path
  made_there_list = filter needs all_there

  abbrev here : Standing
  here = done_down (down_list m items) (at m.local)

  abbrev there1 : Standing
  there1 q = done (map (λ path. (path, None)) gone_away) q (at m.remote q)

  abbrev there2 : Standing
  there2 q = done (map (λ path. (path, Some Folder)) made_there_list) q (there1 q)

  in-gone-is : (q : Path) → is_in q gone_away ≡ (removed q && is_in q all_there)
  in-gone-is q = filter-in removed q (deepest_first all_there) ∙ ap (λ (b : Bool). removed q && b) (deepest-in q all_there)

  not-source-at : (t : Bool) (p q : Path) → is_moved_from pairs q ≡ t → nat_lt 0 (length p) ≡ true → is_going m m.remote p ≡ true → is_below p q ≡ true → is_some (at m.remote q) ≡ true → t ≡ false
  not-source-at false p q moved long going below some = refl
  not-source-at true p q moved long going below some =
      let pair = some-from pairs q moved in
      let stays = subst (λ (o : Path). is_going m m.remote (folder_of o) ≡ false) (sym pair.2) (drive-pair limits m is items remote_is pair.0 pair.1).stays in
      absurd (true≢false (sym (folder-goes m m.remote is.proper.there p q long going below some) ∙ stays))

  may-go-there : (q : Path) → is_in q gone_away ≡ true → MayGo (at m.remote) gone_away q
  may-go-there q has =
      let parts = and_parts (removed q) (is_in q all_there) (sym (in-gone-is q) ∙ has) in
      let going = (and_parts (is_going m m.remote q) (not (is_moved_from pairs q)) parts.0).0 in
      record {
        stands = going-some limits m is items remote_is q going;
        all_go = λ other below some.
            in-gone-is other
            ∙ and_from (removed other) (is_in other all_there)
            (and_from (is_going m m.remote other) (not (is_moved_from pairs other)) (going-below m m.remote is.proper.there q other (long-in q parts.1) going below some)
            (not_from_false (is_moved_from pairs other) (not-source-at (is_moved_from pairs other) q other refl (long-in q parts.1) going below some)))
            (there-in m is other some);
      }

  there1-is : (q : Path) → there1 q ≡ cond (removed q && is_in q all_there) None (at m.remote q)
  there1-is q = done-each None q gone_away (at m.remote q) ∙ ap (λ (b : Bool). cond b None (at m.remote q)) (in-gone-is q)

  there2-is : (q : Path) → there2 q ≡ cond (is_in q made_there_list) (Some Folder) (there1 q)
  there2-is q = done-each (Some Folder) q made_there_list (there1 q)

  clear-in : (q : Path) → is_in q all_there ≡ true → is_some (target m q) ≡ true → IsClear m q
  clear-in q has some = target-clear m is q (long-in q has) some

  target-stays : (q : Path) → is_some (target m q) ≡ true → removed q ≡ false
  target-stays q some =
      and_left (is_going m m.remote q) (not (is_moved_from pairs q)) (false_from_ne_true (is_going m m.remote q) (λ going. some-not-none (target m q) some (gone-there-none m is q going)))

  stays-is : (q : Path) → is_some (target m q) ≡ true → there1 q ≡ at m.remote q
  stays-is q some = there1-is q ∙ cond-false (removed q && is_in q all_there) None (at m.remote q) (and_left (removed q) (is_in q all_there) (target-stays q some))

  free-by : (x : Option Content) (q : Path) → at m.remote q ≡ x → needs_folder m m.remote q ≡ true → is_in q all_there ≡ true → is_some (at m.remote q) ≡ false
  free-by None q there need has = ap (λ (y : Option Content). is_some y) there
  free-by (Some Folder) q there need has =
      absurd (true≢false (sym (ap (λ (y : Option Content). is_folder y) there) ∙ not-true (is_folder (at m.remote q)) (and_parts (is_folder (target m q)) (not (is_folder (at m.remote q))) need).1))
  free-by (Some (File e)) q there need has =
      let folder = (and_parts (is_folder (target m q)) (not (is_folder (at m.remote q))) need).0 in
      absurd (true≢false (sym folder ∙ there-file-by m is (at m.local q) q e refl there (clear-in q has (some-of (target m q) folder))))

  top-by : (t : Bool) (top : Path) → is_folder (at m.remote top) ≡ t → target m top ≡ Some Folder → is_none (why_held limits m top) ≡ true → is_in top all_there ≡ true → (is_folder (there1 top) || is_in top made_there_list) ≡ true
  top-by true top folder is_top free has =
      or_left (is_folder (there1 top)) (is_in top made_there_list)
      (ap (λ (y : Option Content). is_folder y) (stays-is top (ap (λ (y : Option Content). is_some y) is_top)) ∙ folder)
  top-by false top folder is_top free has =
      or_right (is_folder (there1 top)) (is_in top made_there_list)
      (filter-in needs top all_there
      ∙ and_from (needs top) (is_in top all_there)
      (and_from (needs_folder m m.remote top) (is_none (why_held limits m top))
      (and_from (is_folder (target m top)) (not (is_folder (at m.remote top))) (ap (λ (y : Option Content). is_folder y) is_top) (not_from_false (is_folder (at m.remote top)) folder)) free) has)

  top-of : (top q : Path) → is_in q all_there ≡ true → is_some (target m q) ≡ true → why_held limits m q ≡ None → nat_lt 0 (length top) ≡ true → is_below top q ≡ true → (is_folder (there1 top) || is_in top made_there_list) ≡ true
  top-of top q has some free long below =
      let is_top = target-above m top q below some in
      let none = why-above limits m is top q below (ap (λ (y : Option Content). is_some y) is_top) some free in
      top-by (is_folder (at m.remote top)) top refl is_top (ap (λ (w : Option Why). is_none w) none) (top-in m is top q has long below)

  may-make-there : (q : Path) → is_in q made_there_list ≡ true → MayMake there1 made_there_list q
  may-make-there q has =
      let parts = and_parts (needs q) (is_in q all_there) (sym (filter-in needs q all_there) ∙ has) in
      let both = and_parts (needs_folder m m.remote q) (is_none (why_held limits m q)) parts.0 in
      let some = some-of (target m q) (and_parts (is_folder (target m q)) (not (is_folder (at m.remote q))) both.0).0 in
      record {
        free = ap (λ (y : Option Content). is_some y) (stays-is q some) ∙ free-by (at m.remote q) q refl both.0 parts.1;
        folders = λ top long below. top-of top q parts.1 some (no-why (why_held limits m q) both.1) long below;
      }

  -- what moves and what is sent
  not-made : (q : Path) → is_folder (target m q) ≡ false → is_in q made_there_list ≡ false
  not-made q no_folder =
      filter-in needs q all_there
      ∙ and_left (needs q) (is_in q all_there) (and_left (needs_folder m m.remote q) (is_none (why_held limits m q)) (and_left (is_folder (target m q)) (not (is_folder (at m.remote q))) no_folder))

  unmade-is : (q : Path) → is_folder (target m q) ≡ false → there2 q ≡ there1 q
  unmade-is q no_folder = there2-is q ∙ cond-false (is_in q made_there_list) (Some Folder) (there1 q) (not-made q no_folder)

  no-folder-there : (q : Path) → is_file (target m q) ≡ true → is_in q all_there ≡ true → is_folder (at m.remote q) ≡ false
  no-folder-there q file has = false_from_ne_true (is_folder (at m.remote q)) (λ folder. there-folder-goes m q (clear-in q has (some-file (target m q) file)) folder file)

  puts : (step : Step) → step.1 ≡ target m step.0 → is_file (target m step.0) ≡ true → is_in step.0 all_there ≡ true → why_held limits m step.0 ≡ None → MayPut (target m) there2 step
  puts step leaves file has free =
      let some = some-file (target m step.0) file in
      let no_folder = file-not-folder (target m step.0) file in
      let step_some : is_some step.1 ≡ true = ap (λ (y : Option Content). is_some y) leaves ∙ some in
      record {
        leaves = leaves;
        no_folder = ap (λ (y : Option Content). is_folder y) leaves ∙ no_folder;
        stands = λ none. absurd (true≢false (sym step_some ∙ none));
        alone = λ none other below. absurd (true≢false (sym step_some ∙ none));
        free = λ is_there. ap (λ (y : Option Content). is_folder y) (unmade-is step.0 no_folder ∙ stays-is step.0 some) ∙ no-folder-there step.0 file has;
        folders = λ is_there top long below. (
          ap (λ (y : Option Content). is_folder y) (there2-is top) ∙ stands-or (is_in top made_there_list) (there1 top) (top-of top step.0 has some free long below),
          ap (λ (y : Option Content). is_folder y) (target-above m top step.0 below some),
        );
      }

  -- nothing stands or is to stand below a file of the drive that goes
  none-below-target : (p q : Path) → target m p ≡ None → is_below p q ≡ true → is_some (target m q) ≡ false
  none-below-target p q none below = false_from_ne_true (is_some (target m q))
      (λ some. some-not-none (target m p) (ap (λ (y : Option Content). is_some y) (target-above m p q below some)) none)

  none-below-file : (p q : Path) → is_in p all_there ≡ true → is_file (at m.remote p) ≡ true → is_below p q ≡ true → is_some (at m.remote q) ≡ false
  none-below-file p q has file below = false_from_ne_true (is_some (at m.remote q))
      (λ some. false≢true (sym (ap (λ (y : Option Content). is_file y) (is.proper.there p q (long-in p has) below some)) ∙ file))

  no-folder-none : (x : Option Content) → is_some x ≡ false → is_folder x ≡ false
  no-folder-none None none = refl
  no-folder-none (Some x) none = absurd (true≢false none)

  takes-away : (pair : Path × Path) → In pair pairs → MayPut (target m) there2 (pair.0, None)
  takes-away pair has =
      let facts = drive-pair limits m is items remote_is pair has in
      let none = gone-there-none m is pair.0 facts.going in
      let not_removed : (removed pair.0 && is_in pair.0 all_there) ≡ false =
      and_left (removed pair.0) (is_in pair.0 all_there) (and_right (is_going m m.remote pair.0) (not (is_moved_from pairs pair.0)) (not_from_true (is_moved_from pairs pair.0) (in-froms pairs pair has))) in
      record {
        leaves = sym none;
        no_folder = refl;
        stands = λ is_none.
            ap (λ (y : Option Content). is_some y) (unmade-is pair.0 (ap (λ (y : Option Content). is_folder y) none) ∙ (there1-is pair.0 ∙ cond-false (removed pair.0 && is_in pair.0 all_there) None (at m.remote pair.0) not_removed))
            ∙ some-file (at m.remote pair.0) facts.file;
        alone = λ is_none other below.
            let no_target = none-below-target pair.0 other none below in (
              ap (λ (y : Option Content). is_some y) (unmade-is other (no-folder-none (target m other) no_target) ∙ there1-is other)
                  ∙ none-gone (removed other && is_in other all_there) (at m.remote other) (none-below-file pair.0 other facts.from_in facts.file below),
              no_target,
            );
        free = λ some. absurd (false≢true some);
        folders = λ some top long below. absurd (false≢true some);
      }

  brings : (pair : Path × Path) → In pair pairs → MayPut (target m) there2 (pair.1, target m pair.1)
  brings pair has =
      let facts = drive-pair limits m is items remote_is pair has in
      let now = and_parts (is_sent m pair.1) (is_none (why_held limits m pair.1)) facts.sent in
      puts (pair.1, target m pair.1) refl (and_parts (is_file (target m pair.1)) (not (same (target m pair.1) (at m.remote pair.1))) now.0).0 facts.to_in (no-why (why_held limits m pair.1) now.1)

  abbrev patches : Pairs → List Step
  patches ps = patch_steps limits m is items remote_is here ps

  may-patch : (ps : Pairs) (step : Step) → ((pair : Path × Path) → In pair ps → In pair pairs) → InSteps step (patches ps) → MayPut (target m) there2 step
  may-patch [] step within has = absurd has
  may-patch (pair ∷ ps) step within (inl same) = subst (λ (s : Step). MayPut (target m) there2 s) (sym same) (takes-away pair (within pair (inl refl)))
  may-patch (pair ∷ ps) step within (inr (inl same)) = subst (λ (s : Step). MayPut (target m) there2 s) (sym same) (brings pair (within pair (inl refl)))
  may-patch (pair ∷ ps) step within (inr (inr more)) = may-patch ps step (λ other has. within other (inr has)) more

  abbrev alone_sent : Path → Bool
  alone_sent = is_sent_alone limits m is items remote_is

  may-send : (step : Step) → InSteps step (map (λ path. (path, here path)) (filter alone_sent all_there)) → MayPut (target m) there2 step
  may-send step has =
      let placed = placed-in here (filter alone_sent all_there) step has in
      let parts = and_parts (alone_sent step.0) (is_in step.0 all_there) (sym (filter-in alone_sent step.0 all_there) ∙ placed.0) in
      let now = and_parts (is_sent m step.0) (is_none (why_held limits m step.0)) (and_parts (is_sent_now limits m step.0) (not (is_moved_to pairs step.0)) parts.0).0 in
      puts step (placed.1 ∙ sent-stays limits m is items remote_is step.0 now.0) (and_parts (is_file (target m step.0)) (not (same (target m step.0) (at m.remote step.0))) now.0).0 parts.1 (no-why (why_held limits m step.0) now.1)

  may-rest : (a b : List Step) (step : Step) → InSteps step (a ++ b) → InSteps step a ⊎ InSteps step b
  may-rest [] b step has = inr has
  may-rest (first ∷ a) b step (inl same) = inl (inl same)
  may-rest (first ∷ a) b step (inr more) = front-more step first a b (may-rest a b step more)

  either-may : (step : Step) → InSteps step (patches pairs) ⊎ InSteps step (map (λ path. (path, here path)) (filter alone_sent all_there)) → MayPut (target m) there2 step
  either-may step (inl first) = may-patch pairs step (λ pair has. has) first
  either-may step (inr second) = may-send step second

  -- each file that moves is taken once
  takes-step : (t : Bool) (path : Path) (rest : List Path) → t ≡ true → cond t rest (path ∷ rest) ≡ rest
  takes-step true path rest is_true = refl
  takes-step false path rest is_true = absurd (false≢true is_true)

  takes-patches : (ps : Pairs) (rest : List Step) → ((pair : Path × Path) → In pair ps → In pair pairs) → takes (patches ps ++ rest) ≡ froms ps ++ takes rest
  takes-patches [] rest within = refl
  takes-patches (pair ∷ ps) rest within =
      let may = brings pair (within pair (inl refl)) in
      let facts = drive-pair limits m is items remote_is pair (within pair (inl refl)) in
      let file = (and_parts (is_file (target m pair.1)) (not (same (target m pair.1) (at m.remote pair.1))) (and_parts (is_sent m pair.1) (is_none (why_held limits m pair.1)) facts.sent).0).0 in
      ap (λ (qs : List Path). pair.0 ∷ qs)
      (takes-step (is_some (target m pair.1)) pair.1 (takes (patches ps ++ rest)) (some-file (target m pair.1) file) ∙ takes-patches ps rest (λ other has. within other (inr has)))

  sent-some : (q : Path) → is_in q (filter alone_sent all_there) ≡ true → is_some (here q) ≡ true
  sent-some q has =
      let parts = and_parts (alone_sent q) (is_in q all_there) (sym (filter-in alone_sent q all_there) ∙ has) in
      let now = and_parts (is_sent m q) (is_none (why_held limits m q)) (and_parts (is_sent_now limits m q) (not (is_moved_to pairs q)) parts.0).0 in
      ap (λ (y : Option Content). is_some y) (sent-stays limits m is items remote_is q now.0) ∙ some-file (target m q) (and_parts (is_file (target m q)) (not (same (target m q) (at m.remote q))) now.0).0

  rest-apart : Apart (takes (patches pairs ++ map (λ path. (path, here path)) (filter alone_sent all_there)))
  rest-apart =
      subst (λ (qs : List Path). Apart qs)
      (sym (takes-patches pairs (map (λ path. (path, here path)) (filter alone_sent all_there)) (λ pair has. has)
      ∙ (ap (λ (qs : List Path). froms pairs ++ qs) (no-takes here (filter alone_sent all_there) sent-some) ∙ append-nil (froms pairs))))
      (drive-froms-apart limits m is items remote_is)

  rest-can : CanDo (patches pairs ++ map (λ path. (path, here path)) (filter alone_sent all_there)) there2
  rest-can =
      can-put (target m) (patches pairs ++ map (λ path. (path, here path)) (filter alone_sent all_there)) there2 rest-apart
      (λ step has. either-may step (may-rest (patches pairs) (map (λ path. (path, here path)) (filter alone_sent all_there)) step has))

  pub up-can : CanDo (steps_up here (at m.remote) (up_list limits m items)) (at m.remote)
  up-can =
      subst (λ (ss : List Step). CanDo ss (at m.remote)) (sym (up-steps limits m is items remote_is here))
      (joined-can (map (λ path. (path, None)) gone_away) (map (λ path. (path, Some Folder)) made_there_list ++ (patches pairs ++ map (λ path. (path, here path)) (filter alone_sent all_there))) (at m.remote)
      (can-go gone_away (at m.remote) (falls-filter removed (deepest_first all_there) (falls-deepest all_there (all-apart m is items remote_is))) may-go-there)
      (joined-can (map (λ path. (path, Some Folder)) made_there_list) (patches pairs ++ map (λ path. (path, here path)) (filter alone_sent all_there)) there1
      (can-make made_there_list there1 (filter-rises needs all_there (rises (both_paths m))) (apart-filter needs all_there (all-apart m is items remote_is)) may-make-there)
      rest-can))

-- ---- a plan
pub in-order-is : (limits : Limits) (m : Sides) → AreRenamed m → (items : List (Path × Item)) → m.remote ≡ remote_tree items → (plan : Plan) → plan.down ≡ down_list m items → plan.up ≡ up_list limits m items → IsInOrder m plan
in-order-is limits m is items remote_is plan down_is up_is =
    let long = long-in limits m is items remote_is in
    record {
      here = subst (λ (downs : List Down). CanDo (steps_down downs) (at m.local)) (sym down_is) (down-can m is items remote_is long);
      there = subst (λ (downs : List Down). CanDo (steps_up (done_down downs (at m.local)) (at m.remote) plan.up) (at m.remote)) (sym down_is)
          (subst (λ (ups : List Up). CanDo (steps_up (done_down (down_list m items) (at m.local)) (at m.remote) ups) (at m.remote)) (sym up_is) (up-can limits m is items remote_is long));
    }
