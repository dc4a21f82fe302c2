-- Doing a plan's list on the drive is doing the definition's steps.
use Rattle.std.proofs.Common.{◌≡◌, ◌⊎◌, inl, inr, Bool, true, false, not, ◌&&◌, ◌||◌, cond, is_none, is_some, nat_lt, length, arith, List, [], ◌∷◌, ◌++◌, map, filter, append_assoc, Option, Some, None, refl, ap, sym, subst, ◌∙◌}
use Rattle.std.proofs.lemmas.Bool.{true≢false, false≢true, and_parts, and_left, and_right, or_from, not-true, false_from_ne_true, cond-true, cond-false, lt-ltb}
use Rattle.std.specs.List.{cons_option, filter_map, list_any}
use Rattle.std.specs.Option.{option_map}
use Rattle.gd_item.specs.declared.id.ItemId.{ItemId}
use Rattle.gd_item.specs.declared.item.Item.{Item}
use Rattle.gd_item.specs.declared.item.Tag.{Tag}
use Rattle.od_merge.specs.declared.content.Content.{Content}
use Rattle.od_merge.specs.declared.content.Content.TheVariants.{Folder, File}
use Rattle.od_merge.specs.Sides.{Sides, Tree, at, is_file, is_folder, is_kept, is_kept_node, is_kept_there, is_path, same}
use Rattle.od_merge.specs.Merging.{Limits, all_paths, is_going, is_left, merged, seen, target, why_held}
use Rattle.od_merge.specs.Pairs.{comes_there, drive_pairs, folder_of, is_sent_now, may_move}
use Rattle.od_merge.specs.Steps.{AreRenamed, deepest_first, done, is_fetched, is_sent, needs_folder, steps_at, steps_there}
use Rattle.od_merge.proofs.Agreements.{gone-other, gone-there-as-base, gone-there-none, target-clear}
use Rattle.od_merge.proofs.Cases.{same-nodes}
use Rattle.od_merge.proofs.Doing.{known-same}
use Rattle.od_merge.proofs.Lists.{Path, deepest-in, filter-in, is_in}
use Rattle.od_merge.proofs.Needs.{file-from, file-needs}
use Rattle.od_merge.proofs.Order.{Apart}
use Rattle.od_merge.proofs.Phases.{chosen, done-then}
use Rattle.od_merge.proofs.Proper.{In}
use Rattle.od_merge.proofs.SideFacts.{goes}
use Rattle.od_reconcile.specs.Doing.{Standing, Step, done_down, step_up, steps_up}
use Rattle.od_reconcile.specs.Entries.{kind_content, remote_tree}
use Rattle.od_reconcile.specs.Moving.{is_moved_from, is_moved_to, is_source_there, is_target_there}
use Rattle.od_reconcile.specs.Plans.{delete_of, down_list, folder_there, item_at, over_of, patch_of, patch_there, removal_there, send_there, up_list}
use Rattle.od_reconcile.specs.declared.types.Up.{Up}
use Rattle.od_reconcile.specs.declared.types.Up.TheVariants as up
use Rattle.od_reconcile.proofs.Doings.{AllLeave, done-leaves, places, three-kinds}
use Rattle.od_reconcile.proofs.HereDoing.{at-item, down-at}
use Rattle.od_reconcile.proofs.PairFacts.{Pairs, each-pair, froms, froms-apart, some-from, some-to, to-in}
use Rattle.od_merge.proofs.Digests.{some-file}

-- ---- steps of a list
abbrev pub step_or : Standing → Standing → Option Up → List Step
step_or here there None = []
step_or here there (Some step) = step_up here there step

more-steps : (here there : Standing) (y : Option Up) (ys : List Up) → steps_up here there (cons_option y ys) ≡ step_or here there y ++ steps_up here there ys
more-steps here there None ys = refl
more-steps here there (Some step) ys = refl

pub joined-steps : (here there : Standing) (a b : List Up) → steps_up here there (a ++ b) ≡ steps_up here there a ++ steps_up here there b
joined-steps here there [] b = refl
joined-steps here there (step ∷ a) b =
    ap (λ (ss : List Step). step_up here there step ++ ss) (joined-steps here there a b) ∙ sym (append_assoc (step_up here there step) (steps_up here there a) (steps_up here there b))

abbrev pub one_step : Bool → Path → Option Content → List Step
one_step t path x = cond t ((path, x) ∷ []) []

one-more : (t : Bool) (path : Path) (leaves : Path → Option Content) (kept : List Path) → one_step t path (leaves path) ++ map (λ path. (path, leaves path)) kept ≡ map (λ path. (path, leaves path)) (cond t (path ∷ kept) kept)
one-more true path leaves kept = refl
one-more false path leaves kept = refl

pub flat-steps : (here there : Standing) (f : Path → Option Up) (test : Path → Bool) (leaves : Path → Option Content) (paths : List Path)
    → ((path : Path) → step_or here there (f path) ≡ one_step (test path) path (leaves path)) → steps_up here there (filter_map f paths) ≡ steps_at test leaves paths
flat-steps here there f test leaves [] each = refl
flat-steps here there f test leaves (path ∷ paths) each =
    more-steps here there (f path) (filter_map f paths)
    ∙ (ap (λ (ss : List Step). ss ++ steps_up here there (filter_map f paths)) (each path)
    ∙ (ap (λ (ss : List Step). one_step (test path) path (leaves path) ++ ss) (flat-steps here there f test leaves paths each)
    ∙ one-more (test path) path leaves (filter test paths)))

-- ---- small facts
not-some : {X : Type 0} (x : Option X) → not (is_some x) ≡ is_none x
not-some None = refl
not-some (Some x) = refl

pub file-not-folder : (x : Option Content) → is_file x ≡ true → is_folder x ≡ false
file-not-folder None file = refl
file-not-folder (Some Folder) file = absurd (false≢true file)
file-not-folder (Some (File d)) file = refl

join : (S N G to from has : Bool) (here t folder there : Option Content) → (to ≡ true → (S ≡ true) × (has ≡ true))
    → (from ≡ true → (G ≡ true) × (has ≡ true) × (S ≡ false) × (N ≡ false) × (t ≡ None)) → (S ≡ true → here ≡ t)
    → cond (S && not to && has) here (cond (from || to) t (cond (N && has) folder (cond (G && not from && has) None there))) ≡ cond (S && has) t (cond (N && has) folder (cond (G && has) None there))
join true N G true true has here t folder there to_is from_is sent = absurd (true≢false (from_is refl).2)
join true N G true false true here t folder there to_is from_is sent = refl
join true N G true false false here t folder there to_is from_is sent = absurd (false≢true (to_is refl).1)
join false N G true from has here t folder there to_is from_is sent = absurd (false≢true (to_is refl).0)
join true N G false from true here t folder there to_is from_is sent = sent refl
join true N G false true false here t folder there to_is from_is sent = absurd (false≢true (from_is refl).1)
join true N true false false false here t folder there to_is from_is sent = refl
join true N false false false false here t folder there to_is from_is sent = refl
join false true G false true has here t folder there to_is from_is sent = absurd (true≢false (from_is refl).3)
join false false false false true has here t folder there to_is from_is sent = absurd (false≢true (from_is refl).0)
join false false true false true false here t folder there to_is from_is sent = absurd (false≢true (from_is refl).1)
join false false true false true true here t folder there to_is from_is sent = (from_is refl).4
join false N true false false has here t folder there to_is from_is sent = refl
join false N false false false has here t folder there to_is from_is sent = refl

four : (a b c d : Bool) → (a || (b || (c || d))) ≡ ((a || c) || (b || d))
four true b c d = refl
four false true true d = refl
four false true false d = refl
four false false true d = refl
four false false false d = refl

-- ---- a file is not to stand at the root
module _ (m : Sides) (is : AreRenamed m) where
  root-not-kept : is_kept_there m [] ≡ false
  root-not-kept =
      or_from (is_kept m.passes m.local []) (is_kept m.passes m.remote []) (ap (λ (x : Option Content). is_kept_node m.passes m.local [] x) is.root)
      (ap (λ (x : Option Content). is_kept_node m.passes m.remote [] x) is.root_there)

  pub long-file : (q : Path) → is_file (target m q) ≡ true → nat_lt 0 (length q) ≡ true
  long-file [] file =
      let none = cond-false (is_kept_there m [] && not (is_left m [])) (merged (m.base []) (seen m m.local []) (seen m m.remote [])) None (and_left (is_kept_there m []) (not (is_left m [])) root-not-kept) in
      absurd (false≢true (sym (ap (λ (x : Option Content). is_file x) ((file-needs m [] file).1 ∙ none)) ∙ file))
  long-file (name ∷ names) file = lt-ltb 0 (length (name ∷ names)) (omega arith)

-- ---- on the drive
module _ (limits : Limits) (m : Sides) (is : AreRenamed m) (items : List (Path × Item)) (remote_is : m.remote ≡ remote_tree items) where
  abbrev pairs : Pairs
  pairs = drive_pairs limits m

  abbrev all : List Path
  all = all_paths m

  pub record IsDrivePair (pair : Path × Path) : Type 0 where
    pub base_is : m.base pair.0 ≡ target m pair.1
    pub going : is_going m m.remote pair.0 ≡ true
    pub file : is_file (at m.remote pair.0) ≡ true
    pub from_in : is_in pair.0 all ≡ true
    pub stays : is_going m m.remote (folder_of pair.0) ≡ false
    pub sent : is_sent_now limits m pair.1 ≡ true
    pub no_file : is_file (at m.remote pair.1) ≡ false
    pub to_in : is_in pair.1 all ≡ true
    pub there_is : at m.remote pair.0 ≡ target m pair.1

  pub drive-pair : (pair : Path × Path) → In pair pairs → IsDrivePair pair
  drive-pair pair has =
      let facts = each-pair (may_move limits m) (filter (is_source_there m) all) (filter (is_target_there limits m) all) pair has in
      let from = and_parts (is_source_there m pair.0) (is_in pair.0 all) (sym (filter-in (is_source_there m) pair.0 all) ∙ facts.from) in
      let to = and_parts (is_target_there limits m pair.1) (is_in pair.1 all) (sym (filter-in (is_target_there limits m) pair.1 all) ∙ facts.to) in
      let source = and_parts (is_going m m.remote pair.0) (is_file (at m.remote pair.0)) from.0 in
      let comes = and_parts (is_sent_now limits m pair.1 && not (is_file (at m.remote pair.1))) (same (target m pair.1) (target m pair.1)) to.0 in
      let sends = and_parts (is_sent_now limits m pair.1) (not (is_file (at m.remote pair.1))) comes.0 in
      let barred = list_any (λ other. not (is_path other pair.1) && limits.same_caseless other pair.0 && comes_there limits m other) all in
      let may = and_parts (same (m.base pair.0) (target m pair.1) && not (is_going m m.remote (folder_of pair.0))) (not barred) facts.fits_is in
      let first = and_parts (same (m.base pair.0) (target m pair.1)) (not (is_going m m.remote (folder_of pair.0))) may.0 in
      let agreed = same-nodes (m.base pair.0) (target m pair.1) first.0 in
      record {
        base_is = agreed;
        going = source.0;
        file = source.1;
        from_in = from.1;
        stays = not-true (is_going m m.remote (folder_of pair.0)) first.1;
        sent = sends.0;
        no_file = not-true (is_file (at m.remote pair.1)) sends.1;
        to_in = to.1;
        there_is = same-nodes (at m.remote pair.0) (m.base pair.0) (gone-there-as-base m is pair.0 source.0 (some-file (at m.remote pair.0) source.1)) ∙ agreed;
      }

  pub drive-froms-apart : Apart (froms pairs)
  drive-froms-apart = froms-apart (may_move limits m) (filter (is_source_there m) all) (filter (is_target_there limits m) all)

  -- ---- the drive's items
  pub record HasItem (path : Path) : Type 0 where
    pub item : Item
    pub item_is : item_at items path ≡ Some item

  has-item-by : (path : Path) (x : Option Item) → item_at items path ≡ x → is_some (option_map (λ (item : Item). kind_content item.kind) x) ≡ true → HasItem path
  has-item-by path None item_is some = absurd (false≢true some)
  has-item-by path (Some item) item_is some = record { item = item; item_is = item_is }

  pub has-item : (path : Path) → is_some (at m.remote path) ≡ true → HasItem path
  has-item path some =
      has-item-by path (item_at items path) refl
      (ap (λ (x : Option Content). is_some x) (sym (at-item items path) ∙ ap (λ (tree : Tree). at tree path) (sym remote_is)) ∙ some)

  some-going : (x : Option Content) (path : Path) → at m.remote path ≡ x → is_kept_node m.passes m.remote path x ≡ true → is_some x ≡ true
  some-going None path there kept = kept
  some-going (Some x) path there kept = refl

  pub going-some : (path : Path) → is_going m m.remote path ≡ true → is_some (at m.remote path) ≡ true
  going-some path going = some-going (at m.remote path) path refl (goes m m.remote path going).0

  -- ---- the four parts of the list
  abbrev pub is_removed_there : Path → Bool
  is_removed_there path = is_going m m.remote path && not (is_moved_from pairs path)

  abbrev pub is_made_there : Path → Bool
  is_made_there path = needs_folder m m.remote path && is_none (why_held limits m path)

  abbrev pub is_sent_alone : Path → Bool
  is_sent_alone path = is_sent_now limits m path && not (is_moved_to pairs path)

  pub record RemovesThere (path : Path) (step : Option Up) : Type 0 where
    pub id : ItemId
    pub etag : Tag
    pub step_is : step ≡ Some (up.Remove path id etag)

  pub removes-there : (path : Path) → is_removed_there path ≡ true → RemovesThere path (removal_there m items pairs path)
  removes-there path removed =
      let item = has-item path (going-some path (and_parts (is_going m m.remote path) (not (is_moved_from pairs path)) removed).0) in
      record {
        id = item.item.id;
        etag = item.item.etag;
        step_is = cond-true (is_removed_there path) (delete_of path (item_at items path)) None removed ∙ ap (λ (x : Option Item). delete_of path x) item.item_is;
      }

  pub no-removal-there : (path : Path) → is_removed_there path ≡ false → removal_there m items pairs path ≡ None
  no-removal-there path removed = cond-false (is_removed_there path) (delete_of path (item_at items path)) None removed

  pub record PatchesThere (pair : Path × Path) (step : Option Up) : Type 0 where
    pub id : ItemId
    pub etag : Tag
    pub step_is : step ≡ Some (up.Move pair.0 pair.1 id etag)

  pub patches-there : (pair : Path × Path) → In pair pairs → PatchesThere pair (patch_there items pair)
  patches-there pair has =
      let item = has-item pair.0 (some-file (at m.remote pair.0) (drive-pair pair has).file) in
      record { id = item.item.id; etag = item.item.etag; step_is = ap (λ (x : Option Item). patch_of pair x) item.item_is }

  module _ (here : Standing) where
    abbrev there : Standing
    there path = at m.remote path

    removal-step : (t : Bool) (path : Path) → is_removed_there path ≡ t → step_or here there (removal_there m items pairs path) ≡ one_step t path None
    removal-step true path removed = ap (λ (s : Option Up). step_or here there s) (removes-there path removed).step_is
    removal-step false path removed = ap (λ (s : Option Up). step_or here there s) (no-removal-there path removed)

    folder-step : (t : Bool) (path : Path) → step_or here there (cond t (Some (up.MakeFolder path)) None) ≡ one_step t path (Some Folder)
    folder-step true path = refl
    folder-step false path = refl

    send-step : (t : Bool) (path : Path) → step_or here there (cond t (Some (up.Send path (over_of (item_at items path)))) None) ≡ one_step t path (here path)
    send-step true path = refl
    send-step false path = refl

    abbrev pub patch_steps : Pairs → List Step
    patch_steps [] = []
    patch_steps (pair ∷ ps) = (pair.0, None) ∷ ((pair.1, target m pair.1) ∷ patch_steps ps)

    patch-step : (pair : Path × Path) (ps : Pairs) → In pair pairs → step_or here there (patch_there items pair) ++ patch_steps ps ≡ patch_steps (pair ∷ ps)
    patch-step pair ps has =
        ap (λ (s : Option Up). step_or here there s ++ patch_steps ps) (patches-there pair has).step_is
        ∙ ap (λ (x : Option Content). (pair.0, None) ∷ ((pair.1, x) ∷ patch_steps ps)) (drive-pair pair has).there_is

    patch-list : (ps : Pairs) → ((pair : Path × Path) → In pair ps → In pair pairs) → steps_up here there (filter_map (patch_there items) ps) ≡ patch_steps ps
    patch-list [] within = refl
    patch-list (pair ∷ ps) within =
        more-steps here there (patch_there items pair) (filter_map (patch_there items) ps)
        ∙ (ap (λ (ss : List Step). step_or here there (patch_there items pair) ++ ss) (patch-list ps (λ other has. within other (inr has)))
        ∙ patch-step pair ps (within pair (inl refl)))

    patches-leave : (ps : Pairs) → ((pair : Path × Path) → In pair ps → In pair pairs) → AllLeave (target m) (patch_steps ps)
    patches-leave [] within = tt
    patches-leave (pair ∷ ps) within =
        (sym (gone-there-none m is pair.0 (drive-pair pair (within pair (inl refl))).going), (refl, patches-leave ps (λ other has. within other (inr has))))

    patches-at : (ps : Pairs) (q : Path) → is_in q (places (patch_steps ps)) ≡ (is_moved_from ps q || is_moved_to ps q)
    patches-at [] q = refl
    patches-at (pair ∷ ps) q =
        ap (λ (b : Bool). is_path q pair.0 || (is_path q pair.1 || b)) (patches-at ps q) ∙ four (is_path q pair.0) (is_path q pair.1) (is_moved_from ps q) (is_moved_to ps q)

    -- what the list leaves at a path
    pub up-steps : steps_up here there (up_list limits m items)
        ≡ steps_at is_removed_there (λ path. None) (deepest_first all) ++ (steps_at is_made_there (λ path. Some Folder) all ++ (patch_steps pairs ++ steps_at is_sent_alone here all))
    up-steps =
        let removals = filter_map (removal_there m items pairs) (deepest_first all) in
        let folders = filter_map (folder_there limits m) all in
        let patches = filter_map (patch_there items) pairs in
        let sends = filter_map (send_there limits m items pairs) all in
        joined-steps here there removals (folders ++ (patches ++ sends))
        ∙ (ap (λ (ss : List Step). ss ++ steps_up here there (folders ++ (patches ++ sends)))
        (flat-steps here there (removal_there m items pairs) is_removed_there (λ path. None) (deepest_first all) (λ path. removal-step (is_removed_there path) path refl))
        ∙ ap (λ (ss : List Step). steps_at is_removed_there (λ path. None) (deepest_first all) ++ ss)
        (joined-steps here there folders (patches ++ sends)
        ∙ (ap (λ (ss : List Step). ss ++ steps_up here there (patches ++ sends))
        (flat-steps here there (folder_there limits m) is_made_there (λ path. Some Folder) all (λ path. folder-step (is_made_there path) path))
        ∙ ap (λ (ss : List Step). steps_at is_made_there (λ path. Some Folder) all ++ ss)
        (joined-steps here there patches sends
        ∙ (ap (λ (ss : List Step). ss ++ steps_up here there sends) (patch-list pairs (λ pair has. has))
        ∙ ap (λ (ss : List Step). patch_steps pairs ++ ss)
        (flat-steps here there (send_there limits m items pairs) is_sent_alone here all (λ path. send-step (is_sent_alone path) path)))))))

    moved-to-is : (t : Bool) (q : Path) → is_moved_to pairs q ≡ t → t ≡ true → (is_sent_now limits m q ≡ true) × (is_in q all ≡ true)
    moved-to-is false q moved is_true = absurd (false≢true is_true)
    moved-to-is true q moved is_true =
        let pair = some-to pairs q (sym (to-in pairs q) ∙ moved) in
        let facts = drive-pair pair.0 pair.1.made in
        (subst (λ (p : Path). is_sent_now limits m p ≡ true) (sym pair.1.is) facts.sent, subst (λ (p : Path). is_in p all ≡ true) (sym pair.1.is) facts.to_in)

    none-sent-to : (q : Path) → target m q ≡ None → is_sent_now limits m q ≡ false
    none-sent-to q none = ap (λ (x : Option Content). is_file x && not (same x (at m.remote q)) && is_none (why_held limits m q)) none

    none-made : (q : Path) → target m q ≡ None → is_made_there q ≡ false
    none-made q none = ap (λ (x : Option Content). is_folder x && not (is_folder (at m.remote q)) && is_none (why_held limits m q)) none

    moved-from-is : (t : Bool) (q : Path) → is_moved_from pairs q ≡ t → t ≡ true → (is_going m m.remote q ≡ true) × (is_in q all ≡ true) × (is_sent_now limits m q ≡ false) × (is_made_there q ≡ false) × (target m q ≡ None)
    moved-from-is false q moved is_true = absurd (false≢true is_true)
    moved-from-is true q moved is_true =
        let pair = some-from pairs q moved in
        let facts = drive-pair pair.0 pair.1 in
        let going = subst (λ (p : Path). is_going m m.remote p ≡ true) (sym pair.2) facts.going in
        let none = gone-there-none m is q going in
        (going, subst (λ (p : Path). is_in p all ≡ true) (sym pair.2) facts.from_in, none-sent-to q none, none-made q none, none)

    pub up-at : (q : Path) (before : Option Content) → (is_sent_now limits m q ≡ true → here q ≡ target m q) → done (steps_up here there (up_list limits m items)) q before
        ≡ cond (is_sent_now limits m q && is_in q all) (target m q) (cond (is_made_there q && is_in q all) (Some Folder) (cond (is_going m m.remote q && is_in q all) None before))
    up-at q before sent =
        let gone = steps_at is_removed_there (λ path. None) (deepest_first all) in
        let made = steps_at is_made_there (λ path. Some Folder) all in
        let sends = steps_at is_sent_alone here all in
        let first = done gone q before in
        let second = done made q first in
        let third = done (patch_steps pairs) q second in
        let first_is : first ≡ cond (is_removed_there q && is_in q all) None before =
        chosen is_removed_there (λ path. None) q (deepest_first all) before ∙ ap (λ (b : Bool). cond (is_removed_there q && b) None before) (deepest-in q all) in
        let second_is : second ≡ cond (is_made_there q && is_in q all) (Some Folder) (cond (is_removed_there q && is_in q all) None before) =
        chosen is_made_there (λ path. Some Folder) q all first ∙ ap (λ (x : Option Content). cond (is_made_there q && is_in q all) (Some Folder) x) first_is in
        let third_is : third ≡ cond (is_moved_from pairs q || is_moved_to pairs q) (target m q) (cond (is_made_there q && is_in q all) (Some Folder) (cond (is_removed_there q && is_in q all) None before)) =
        done-leaves (target m) q (patch_steps pairs) second (patches-leave pairs (λ pair has. has))
        ∙ (ap (λ (b : Bool). cond b (target m q) second) (patches-at pairs q)
        ∙ ap (λ (x : Option Content). cond (is_moved_from pairs q || is_moved_to pairs q) (target m q) x) second_is) in
        ap (λ (ss : List Step). done ss q before) up-steps
        ∙ (done-then gone (made ++ (patch_steps pairs ++ sends)) q before
        ∙ (done-then made (patch_steps pairs ++ sends) q first
        ∙ (done-then (patch_steps pairs) sends q second
        ∙ (chosen is_sent_alone here q all third
        ∙ (ap (λ (x : Option Content). cond (is_sent_alone q && is_in q all) (here q) x) third_is
        ∙ join (is_sent_now limits m q) (is_made_there q) (is_going m m.remote q) (is_moved_to pairs q) (is_moved_from pairs q) (is_in q all) (here q) (target m q) (Some Folder) before
        (moved-to-is (is_moved_to pairs q) q refl) (moved-from-is (is_moved_from pairs q) q refl) sent)))))

  -- ---- what is sent stands in the folder then
  not-going-here : (q : Path) → is_some (at m.local q) ≡ true → target m q ≡ at m.local q → is_going m m.local q ≡ false
  not-going-here q some same_is = false_from_ne_true (is_going m m.local q) (λ going. gone-other (at m.local q) (target m q) some (goes m m.local q going).1 same_is)

  sent-by : (q : Path) → is_file (target m q) ≡ true → same (target m q) (at m.remote q) ≡ false → (target m q ≡ at m.local q) ⊎ (target m q ≡ at m.remote q) → target m q ≡ at m.local q
  sent-by q file other (inl here) = here
  sent-by q file other (inr there) = absurd (true≢false (sym (known-same (target m q) (at m.remote q) file there (is.fits.known q)) ∙ other))

  pub sent-is : (q : Path) → is_sent m q ≡ true → target m q ≡ at m.local q
  sent-is q sent =
      let parts = and_parts (is_file (target m q)) (not (same (target m q) (at m.remote q))) sent in
      let clear = target-clear m is q (long-file m is q parts.0) (some-file (target m q) parts.0) in
      sent-by q parts.0 (not-true (same (target m q) (at m.remote q)) parts.1) (file-from m q clear.kept clear.not_left parts.0)

  pub sent-stays : (q : Path) → is_sent m q ≡ true → done_down (down_list m items) (at m.local) q ≡ target m q
  sent-stays q sent =
      let parts = and_parts (is_file (target m q)) (not (same (target m q) (at m.remote q))) sent in
      let other = not-true (same (target m q) (at m.remote q)) parts.1 in
      let same_is = sent-is q sent in
      let some : is_some (at m.local q) ≡ true = ap (λ (x : Option Content). is_some x) (sym same_is) ∙ some-file (target m q) parts.0 in
      let not_fetched : (is_fetched m q && is_in q all) ≡ false =
      and_left (is_fetched m q) (is_in q all) (and_left (is_file (target m q) && same (target m q) (at m.remote q)) (not (same (target m q) (at m.local q))) (and_right (is_file (target m q)) (same (target m q) (at m.remote q)) other)) in
      let no_folder : (needs_folder m m.local q && is_in q all) ≡ false =
      and_left (needs_folder m m.local q) (is_in q all) (and_left (is_folder (target m q)) (not (is_folder (at m.local q))) (file-not-folder (target m q) parts.0)) in
      let stays : (is_going m m.local q && is_in q all) ≡ false = and_left (is_going m m.local q) (is_in q all) (not-going-here q some same_is) in
      down-at m is items remote_is q (at m.local q)
      ∙ (cond-false (is_fetched m q && is_in q all) (target m q) (cond (needs_folder m m.local q && is_in q all) (Some Folder) (cond (is_going m m.local q && is_in q all) None (at m.local q))) not_fetched
      ∙ (cond-false (needs_folder m m.local q && is_in q all) (Some Folder) (cond (is_going m m.local q && is_in q all) None (at m.local q)) no_folder
      ∙ (cond-false (is_going m m.local q && is_in q all) None (at m.local q) stays ∙ sym same_is)))

  -- what the list leaves, after the folder's list, is what the definition's steps leave
  abbrev pub held : Path → Bool
  held path = is_some (why_held limits m path)

  pub up-is : (q : Path) (before : Option Content) → done (steps_up (done_down (down_list m items) (at m.local)) (at m.remote) (up_list limits m items)) q before ≡ done (steps_there held m) q before
  up-is q before =
      up-at (done_down (down_list m items) (at m.local)) q before
      (λ now. sent-stays q (and_parts (is_sent m q) (is_none (why_held limits m q)) now).0)
      ∙ (ap (λ (b : Bool). cond (is_sent m q && b && is_in q all) (target m q) (cond (needs_folder m m.remote q && b && is_in q all) (Some Folder) (cond (is_going m m.remote q && is_in q all) None before))) (sym (not-some (why_held limits m q)))
      ∙ sym (three-kinds (is_going m m.remote) (λ path. needs_folder m m.remote path && not (held path)) (λ path. is_sent m path && not (held path)) (target m) q all before))
