-- Doing a plan's list in the folder is doing the definition's steps.
use Rattle.std.proofs.Common.{◌≡◌, ◌⊎◌, inl, inr, ℕ, Bool, true, false, not, ◌&&◌, ◌||◌, cond, List, [], ◌∷◌, ◌++◌, map, filter, append-nil, Option, Some, None, refl, ap, sym, subst, ◌∙◌}
use Rattle.std.proofs.lemmas.Bool.{true≢false, false≢true, and_parts, not-true, cond-true, cond-false}
use Rattle.std.proofs.lemmas.List.Elements.{filter_map-append}
use Rattle.std.specs.List.{filter_map}
use Rattle.std.specs.Option.{option_map}
use Rattle.gd_item.specs.declared.digest.Digest.{Digest}
use Rattle.gd_item.specs.declared.id.ItemId.{ItemId}
use Rattle.gd_item.specs.declared.item.Item.{Item}
use Rattle.gd_item.specs.declared.item.Kind.{Kind}
use Rattle.gd_item.specs.declared.item.Kind.TheVariants as kind
use Rattle.od_merge.specs.declared.content.Content.{Content}
use Rattle.od_merge.specs.declared.content.Content.TheVariants.{Folder, File}
use Rattle.od_merge.specs.Sides.{Sides, Tree, at, digest_of, is_file, is_path, same}
use Rattle.od_merge.specs.Merging.{all_paths, both_paths, is_going, is_going_node, target}
use Rattle.od_merge.specs.Pairs.{local_pairs}
use Rattle.od_merge.specs.Steps.{AreRenamed, deepest_first, done, is_fetched, needs_folder, steps_at, steps_here}
use Rattle.od_merge.proofs.Agreements.{gone-here-as-base}
use Rattle.od_merge.proofs.Cases.{same-nodes}
use Rattle.od_merge.proofs.Lists.{Path, deepest-in, filter-in, in-joined, is_in}
use Rattle.od_merge.proofs.Order.{Apart, apart-filter, apart-sorted, rises}
use Rattle.od_merge.proofs.Phases.{chosen, done-then}
use Rattle.od_merge.proofs.Proper.{In, same-pair}
use Rattle.od_reconcile.specs.Doing.{Step, come_here, gone_here, known_file, made_here, steps_down}
use Rattle.od_reconcile.specs.Entries.{kind_content, remote_tree}
use Rattle.od_reconcile.specs.Moving.{fits_here, is_moved_from, is_source_here, is_target_here, pair_to}
use Rattle.od_reconcile.specs.Plans.{down_list, fetch_by, fetch_here, fetch_of, fetch_or_move, folder_here, item_at, move_of, removal_here, removal_of}
use Rattle.od_reconcile.specs.declared.types.Down.{Down}
use Rattle.od_reconcile.specs.declared.types.Down.TheVariants as down
use Rattle.od_reconcile.proofs.Doings.{came-from, chosen-list, done-each, if_is, in-picked, none-map, picked, same-map, steps-list, then_by, three-kinds}
use Rattle.od_reconcile.proofs.PairFacts.{Pairs, each-pair, found-to, froms, froms-apart, in-froms, its-pair, some-from, tos, tos-apart}

-- ---- what is the same as a file is a file of a known digest
pub record IsKnown (there : Option Content) : Type 0 where
  pub digest : Digest
  pub is : there ≡ known_file digest

pub known : (t r : Option Content) → is_file t ≡ true → same t r ≡ true → IsKnown t
known None r file is = absurd (false≢true file)
known (Some Folder) r file is = absurd (false≢true file)
known (Some (File (Some d))) r file is = record { digest = d; is = refl }
known (Some (File None)) None file is = absurd (false≢true is)
known (Some (File None)) (Some Folder) file is = absurd (false≢true is)
known (Some (File None)) (Some (File e)) file is = absurd (false≢true is)

-- ---- what the drive has at a path is its item there
item-at : (t : Bool) (path : Path) (entry : Path × Item) (items : List (Path × Item)) → is_path path entry.0 ≡ t
    → at (remote_tree items) path ≡ option_map (λ (item : Item). kind_content item.kind) (item_at items path)
    → at (remote_tree (entry ∷ items)) path ≡ option_map (λ (item : Item). kind_content item.kind) (item_at (entry ∷ items) path)
item-at true path entry items is rest = rw is refl
item-at false path entry items is rest = rw is rest

pub at-item : (items : List (Path × Item)) (path : Path) → at (remote_tree items) path ≡ option_map (λ (item : Item). kind_content item.kind) (item_at items path)
at-item [] path = refl
at-item (entry ∷ items) path = item-at (is_path path entry.0) path entry items refl (at-item items path)

-- ---- a fetch, and a move
pub record IsFetch (path : Path) (over : Option Digest) (content : Option Content) (step : Option Down) : Type 0 where
  pub id : ItemId
  pub digest : Digest
  pub size : ℕ
  pub is : step ≡ Some (down.Fetch path id digest size over)
  pub content_is : content ≡ known_file digest

fetch-kind : (path : Path) (item : Item) (k : Kind) (over : Option Digest) (d : Digest) → Some (kind_content k) ≡ known_file d → IsFetch path over (known_file d) (fetch_by path item k over)
fetch-kind path item (kind.Folder count) over d is = absurd (cc is)
fetch-kind path item (kind.File e) over d is = record { id = item.id; digest = e; size = item.size; is = refl; content_is = sym is }
fetch-kind path item kind.Bare over d is = absurd (cc is)
fetch-kind path item kind.Deleted over d is = absurd (cc is)

fetch-item : (path : Path) (item : Option Item) (over : Option Digest) (d : Digest) → option_map (λ (item : Item). kind_content item.kind) item ≡ known_file d → IsFetch path over (known_file d) (fetch_of path item over)
fetch-item path None over d is = absurd (cc is)
fetch-item path (Some item) over d is = fetch-kind path item item.kind over d is

pub record IsMove (from to : Path) (there : Option Content) (step : Option Down) : Type 0 where
  pub digest : Digest
  pub is : step ≡ Some (down.Move from to digest)
  pub there_is : there ≡ known_file digest

move-by : (from to : Path) (there : Option Content) → IsKnown there → IsMove from to there (move_of from to (digest_of there))
move-by from to there is = record {
  digest = is.digest;
  is = ap (λ x. move_of from to (digest_of x)) is.is;
  there_is = is.is;
}

-- ---- small facts
pub unknown : (b : Option Content) → same (Some (File None)) b ≡ true → ⊥
unknown None is = false≢true is
unknown (Some Folder) is = false≢true is
unknown (Some (File d)) is = false≢true is

one-path : (a b : Path) → Some a ≡ Some b → a ≡ b
one-path a b is = cc is

or-moved : (going moved has : Bool) → (moved ≡ true → (going ≡ true) × (has ≡ true)) → ((going && not moved && has) || moved) ≡ (going && has)
or-moved true true has is = sym (is refl).1
or-moved true false true is = refl
or-moved true false false is = refl
or-moved false true has is = absurd (false≢true (is refl).0)
or-moved false false has is = refl

-- ---- in the folder
module _ (m : Sides) (is : AreRenamed m) (items : List (Path × Item)) (remote_is : m.remote ≡ remote_tree items) where
  abbrev pairs : Pairs
  pairs = local_pairs m

  abbrev all : List Path
  all = all_paths m

  abbrev targets : List Path
  targets = filter (is_target_here m) all

  abbrev sources : List Path
  sources = filter (is_source_here m) all

  pub all-apart : Apart all
  all-apart = apart-sorted all (rises (both_paths m))

  pub pairs-apart : Apart (tos pairs)
  pairs-apart = tos-apart (fits_here m) sources targets (apart-filter (is_target_here m) all all-apart)

  pub local-froms-apart : Apart (froms pairs)
  local-froms-apart = froms-apart (fits_here m) sources targets

  -- what is known of a pair
  pub record IsLocalPair (pair : Path × Path) : Type 0 where
    pub same_is : at m.local pair.0 ≡ target m pair.1
    pub going : is_going m m.local pair.0 ≡ true
    pub from_in : is_in pair.0 all ≡ true
    pub fetched : is_fetched m pair.1 ≡ true
    pub no_file : is_file (at m.local pair.1) ≡ false
    pub to_in : is_in pair.1 all ≡ true
    pub known_is : IsKnown (at m.local pair.0)

  pub local-pair : (pair : Path × Path) → In pair pairs → IsLocalPair pair
  local-pair pair has =
      let facts = each-pair (fits_here m) sources targets pair has in
      let from = and_parts (is_source_here m pair.0) (is_in pair.0 all) (sym (filter-in (is_source_here m) pair.0 all) ∙ facts.from) in
      let to = and_parts (is_target_here m pair.1) (is_in pair.1 all) (sym (filter-in (is_target_here m) pair.1 all) ∙ facts.to) in
      let source = and_parts (is_going m m.local pair.0) (is_file (at m.local pair.0)) from.0 in
      let comes = and_parts (is_fetched m pair.1) (not (is_file (at m.local pair.1))) to.0 in
      record {
        same_is = same-nodes (at m.local pair.0) (target m pair.1) facts.fits_is;
        going = source.0;
        from_in = from.1;
        fetched = comes.0;
        no_file = not-true (is_file (at m.local pair.1)) comes.1;
        to_in = to.1;
        known_is = known (at m.local pair.0) (target m pair.1) source.1 facts.fits_is;
      }

  -- what goes
  abbrev pub is_removed : Path → Bool
  is_removed path = is_going m m.local path && not (is_moved_from pairs path)

  pub record RemovesFolder (path : Path) (step : Option Down) : Type 0 where
    pub step_is : step ≡ Some (down.RemoveFolder path)
    pub there_is : at m.local path ≡ Some Folder

  pub record RemovesFile (path : Path) (step : Option Down) : Type 0 where
    pub digest : Digest
    pub step_is : step ≡ Some (down.RemoveFile path digest)
    pub there_is : at m.local path ≡ known_file digest

  removes-by : (x : Option Content) (path : Path) → at m.local path ≡ x → is_going m m.local path ≡ true → RemovesFolder path (removal_of path x) ⊎ RemovesFile path (removal_of path x)
  removes-by None path here going = absurd (false≢true (sym (ap (λ (x : Option Content). is_going_node m m.local path x) here) ∙ going))
  removes-by (Some Folder) path here going = inl (record { step_is = refl; there_is = here })
  removes-by (Some (File (Some d))) path here going = inr (record { digest = d; step_is = refl; there_is = here })
  removes-by (Some (File None)) path here going =
      absurd (unknown (m.base path) (sym (ap (λ (x : Option Content). same x (m.base path)) here) ∙ gone-here-as-base m is path going))

  pub removes : (path : Path) → is_removed path ≡ true → RemovesFolder path (removal_here m pairs path) ⊎ RemovesFile path (removal_here m pairs path)
  removes path removed =
      subst (λ (step : Option Down). RemovesFolder path step ⊎ RemovesFile path step) (sym (cond-true (is_removed path) (removal_of path (at m.local path)) None removed))
      (removes-by (at m.local path) path refl (and_parts (is_going m m.local path) (not (is_moved_from pairs path)) removed).0)

  pub no-removal : (path : Path) → is_removed path ≡ false → removal_here m pairs path ≡ None
  no-removal path removed = cond-false (is_removed path) (removal_of path (at m.local path)) None removed

  gone-of : (path : Path) (step : Option Down) → RemovesFolder path step ⊎ RemovesFile path step → then_by gone_here step ≡ Some path
  gone-of path step (inl folder) = ap (λ (s : Option Down). then_by gone_here s) folder.step_is
  gone-of path step (inr file) = ap (λ (s : Option Down). then_by gone_here s) file.step_is

  made-of : (path : Path) (step : Option Down) → RemovesFolder path step ⊎ RemovesFile path step → then_by made_here step ≡ None
  made-of path step (inl folder) = ap (λ (s : Option Down). then_by made_here s) folder.step_is
  made-of path step (inr file) = ap (λ (s : Option Down). then_by made_here s) file.step_is

  come-of : (path : Path) (step : Option Down) → RemovesFolder path step ⊎ RemovesFile path step → then_by come_here step ≡ None
  come-of path step (inl folder) = ap (λ (s : Option Down). then_by come_here s) folder.step_is
  come-of path step (inr file) = ap (λ (s : Option Down). then_by come_here s) file.step_is

  goes-by : (t : Bool) (path : Path) → is_removed path ≡ t → then_by gone_here (removal_here m pairs path) ≡ if_is t path
  goes-by true path removed = gone-of path (removal_here m pairs path) (removes path removed)
  goes-by false path removed = ap (λ (step : Option Down). then_by gone_here step) (no-removal path removed)

  made-by : (t : Bool) (path : Path) → is_removed path ≡ t → then_by made_here (removal_here m pairs path) ≡ None
  made-by true path removed = made-of path (removal_here m pairs path) (removes path removed)
  made-by false path removed = ap (λ (step : Option Down). then_by made_here step) (no-removal path removed)

  come-by : (t : Bool) (path : Path) → is_removed path ≡ t → then_by come_here (removal_here m pairs path) ≡ None
  come-by true path removed = come-of path (removal_here m pairs path) (removes path removed)
  come-by false path removed = ap (λ (step : Option Down). then_by come_here step) (no-removal path removed)

  -- the folders
  folder-gone : (t : Bool) (path : Path) → then_by gone_here (if_is t (down.MakeFolder path)) ≡ None
  folder-gone true path = refl
  folder-gone false path = refl

  folder-made : (t : Bool) (path : Path) → then_by made_here (if_is t (down.MakeFolder path)) ≡ if_is t path
  folder-made true path = refl
  folder-made false path = refl

  folder-come : (t : Bool) (path : Path) → then_by come_here (if_is t (down.MakeFolder path)) ≡ None
  folder-come true path = refl
  folder-come false path = refl

  -- what comes
  pub record Fetches (path : Path) (step : Option Down) : Type 0 where
    pub unpaired : pair_to pairs path ≡ None
    pub fetch : IsFetch path (digest_of (at m.local path)) (target m path) step

  pub record Moves (path : Path) (step : Option Down) : Type 0 where
    pub from : Path
    pub made : In (from, path) pairs
    pub move : IsMove from path (target m path) step

  comes-by : (x : Option (Path × Path)) (path : Path) → pair_to pairs path ≡ x → is_file (target m path) ≡ true → same (target m path) (at m.remote path) ≡ true
      → Fetches path (fetch_or_move m items path x) ⊎ Moves path (fetch_or_move m items path x)
  comes-by None path pair_is file there =
      let digest = known (target m path) (at m.remote path) file there in
      let remote : option_map (λ (item : Item). kind_content item.kind) (item_at items path) ≡ known_file digest.digest =
      sym (at-item items path) ∙ (ap (λ (tree : Tree). at tree path) (sym remote_is) ∙ (sym (same-nodes (target m path) (at m.remote path) there) ∙ digest.is)) in
      inl (record {
        unpaired = pair_is;
        fetch = subst (λ (x : Option Content). IsFetch path (digest_of (at m.local path)) x (fetch_of path (item_at items path) (digest_of (at m.local path)))) (sym digest.is)
            (fetch-item path (item_at items path) (digest_of (at m.local path)) digest.digest remote);
      })
  comes-by (Some pair) path pair_is file there =
      let found = found-to pairs path pair pair_is in
      let facts = local-pair pair found.0 in
      inr (record {
        from = pair.0;
        made = subst (λ (p : Path). In (pair.0, p) pairs) (sym found.1) found.0;
        move = subst (λ (x : Option Content). IsMove pair.0 path x (move_of pair.0 path (digest_of (at m.local pair.0)))) (facts.same_is ∙ ap (λ (p : Path). target m p) (sym found.1))
            (move-by pair.0 path (at m.local pair.0) facts.known_is);
      })

  pub comes : (path : Path) → is_fetched m path ≡ true → Fetches path (fetch_here m items pairs path) ⊎ Moves path (fetch_here m items pairs path)
  comes path fetched =
      let parts = and_parts (is_file (target m path) && same (target m path) (at m.remote path)) (not (same (target m path) (at m.local path))) fetched in
      let first = and_parts (is_file (target m path)) (same (target m path) (at m.remote path)) parts.0 in
      subst (λ (step : Option Down). Fetches path step ⊎ Moves path step) (sym (cond-true (is_fetched m path) (fetch_or_move m items path (pair_to pairs path)) None fetched))
      (comes-by (pair_to pairs path) path refl first.0 first.1)

  pub no-fetch : (path : Path) → is_fetched m path ≡ false → fetch_here m items pairs path ≡ None
  no-fetch path fetched = cond-false (is_fetched m path) (fetch_or_move m items path (pair_to pairs path)) None fetched

  fetch-made : (path : Path) (step : Option Down) → Fetches path step ⊎ Moves path step → then_by made_here step ≡ None
  fetch-made path step (inl fetch) = ap (λ (s : Option Down). then_by made_here s) fetch.fetch.is
  fetch-made path step (inr move) = ap (λ (s : Option Down). then_by made_here s) move.move.is

  fetch-come : (path : Path) (step : Option Down) → Fetches path step ⊎ Moves path step → then_by come_here step ≡ Some (path, target m path)
  fetch-come path step (inl fetch) = ap (λ (s : Option Down). then_by come_here s) fetch.fetch.is ∙ ap (λ (x : Option Content). Some (path, x)) (sym fetch.fetch.content_is)
  fetch-come path step (inr move) = ap (λ (s : Option Down). then_by come_here s) move.move.is ∙ ap (λ (x : Option Content). Some (path, x)) (sym move.move.there_is)

  fetch-made-by : (t : Bool) (path : Path) → is_fetched m path ≡ t → then_by made_here (fetch_here m items pairs path) ≡ None
  fetch-made-by true path fetched = fetch-made path (fetch_here m items pairs path) (comes path fetched)
  fetch-made-by false path fetched = ap (λ (s : Option Down). then_by made_here s) (no-fetch path fetched)

  fetch-come-by : (t : Bool) (path : Path) → is_fetched m path ≡ t → then_by come_here (fetch_here m items pairs path) ≡ if_is t (path, target m path)
  fetch-come-by true path fetched = fetch-come path (fetch_here m items pairs path) (comes path fetched)
  fetch-come-by false path fetched = ap (λ (s : Option Down). then_by come_here s) (no-fetch path fetched)

  -- the sources of moves
  abbrev pub gone_by_move : Path → Option Path
  gone_by_move path = then_by gone_here (fetch_here m items pairs path)

  moved-of : (q path : Path) (step : Option Down) → Fetches path step ⊎ Moves path step → then_by gone_here step ≡ Some q → is_moved_from pairs q ≡ true
  moved-of q path step (inl fetch) gives = absurd (cc (sym (ap (λ (s : Option Down). then_by gone_here s) fetch.fetch.is) ∙ gives))
  moved-of q path step (inr move) gives =
      let from : move.from ≡ q = one-path move.from q (sym (ap (λ (s : Option Down). then_by gone_here s) move.move.is) ∙ gives) in
      subst (λ (p : Path). is_moved_from pairs p ≡ true) from (in-froms pairs (move.from, path) move.made)

  moved-back : (t : Bool) (q path : Path) → is_fetched m path ≡ t → gone_by_move path ≡ Some q → is_moved_from pairs q ≡ true
  moved-back true q path fetched gives = moved-of q path (fetch_here m items pairs path) (comes path fetched) gives
  moved-back false q path fetched gives = absurd (cc (sym (ap (λ (s : Option Down). then_by gone_here s) (no-fetch path fetched)) ∙ gives))

  moved-on : (pair : Path × Path) (step : Option Down) → In pair pairs → Fetches pair.1 step ⊎ Moves pair.1 step → then_by gone_here step ≡ Some pair.0
  moved-on pair step has (inl fetch) = absurd (cc (sym (its-pair pairs pair pairs-apart has) ∙ fetch.unpaired))
  moved-on pair step has (inr move) =
      let one : Some (move.from, pair.1) ≡ Some pair = sym (its-pair pairs (move.from, pair.1) pairs-apart move.made) ∙ its-pair pairs pair pairs-apart has in
      ap (λ (s : Option Down). then_by gone_here s) move.move.is ∙ ap (λ (p : Path × Path). Some p.0) (same-pair (move.from, pair.1) pair one)

  moved-at : (t u : Bool) (q : Path) → is_in q (filter_map gone_by_move all) ≡ t → is_moved_from pairs q ≡ u → t ≡ u
  moved-at true true q listed moved = refl
  moved-at false false q listed moved = refl
  moved-at true false q listed moved =
      let came = came-from gone_by_move q all listed in
      absurd (true≢false (sym (moved-back (is_fetched m came.0) q came.0 refl came.2) ∙ moved))
  moved-at false true q listed moved =
      let pair = some-from pairs q moved in
      let facts = local-pair pair.0 pair.1 in
      let gives : gone_by_move pair.0.1 ≡ Some q = moved-on pair.0 (fetch_here m items pairs pair.0.1) pair.1 (comes pair.0.1 facts.fetched) ∙ ap (λ (p : Path). Some p) (sym pair.2) in
      absurd (true≢false (sym (in-picked gone_by_move q pair.0.1 all facts.to_in gives) ∙ listed))

  -- ---- the three parts of the list
  abbrev removals : List Down
  removals = filter_map (removal_here m pairs) (deepest_first all)

  abbrev folders : List Down
  folders = filter_map (folder_here m) all

  abbrev fetches : List Down
  fetches = filter_map (fetch_here m items pairs) all

  parts-of : {Y : Type 0} (g : Down → Option Y) → filter_map g (down_list m items) ≡ filter_map g removals ++ (filter_map g folders ++ filter_map g fetches)
  parts-of g = filter_map-append g removals (folders ++ fetches) ∙ ap (λ ys. filter_map g removals ++ ys) (filter_map-append g folders fetches)

  gone-removals : filter_map gone_here removals ≡ filter is_removed (deepest_first all)
  gone-removals =
      picked (removal_here m pairs) gone_here (deepest_first all)
      ∙ (same-map (λ path. then_by gone_here (removal_here m pairs path)) (λ path. if_is (is_removed path) path) (deepest_first all) (λ path. goes-by (is_removed path) path refl)
      ∙ chosen-list is_removed (deepest_first all))

  gone-folders : filter_map gone_here folders ≡ []
  gone-folders =
      picked (folder_here m) gone_here all
      ∙ none-map (λ path. then_by gone_here (folder_here m path)) all (λ path. folder-gone (needs_folder m m.local path) path)

  gone-fetches : filter_map gone_here fetches ≡ filter_map gone_by_move all
  gone-fetches = picked (fetch_here m items pairs) gone_here all

  pub gone-list : filter_map gone_here (down_list m items) ≡ filter is_removed (deepest_first all) ++ filter_map gone_by_move all
  gone-list =
      parts-of gone_here
      ∙ (ap (λ (ps : List Path). ps ++ (filter_map gone_here folders ++ filter_map gone_here fetches)) gone-removals
      ∙ (ap (λ (ps : List Path). filter is_removed (deepest_first all) ++ (ps ++ filter_map gone_here fetches)) gone-folders
      ∙ ap (λ (ps : List Path). filter is_removed (deepest_first all) ++ ps) gone-fetches))

  moved-going : (t : Bool) (q : Path) → is_moved_from pairs q ≡ t → t ≡ true → (is_going m m.local q ≡ true) × (is_in q all ≡ true)
  moved-going true q moved is_true =
      let pair = some-from pairs q moved in
      let facts = local-pair pair.0 pair.1 in
      (subst (λ (p : Path). is_going m m.local p ≡ true) (sym pair.2) facts.going, subst (λ (p : Path). is_in p all ≡ true) (sym pair.2) facts.from_in)
  moved-going false q moved is_true = absurd (false≢true is_true)

  pub in-gone : (q : Path) → is_in q (filter_map gone_here (down_list m items)) ≡ (is_going m m.local q && is_in q all)
  in-gone q =
      ap (λ (ps : List Path). is_in q ps) gone-list
      ∙ (in-joined q (filter is_removed (deepest_first all)) (filter_map gone_by_move all)
      ∙ (ap (λ (b : Bool). b || is_in q (filter_map gone_by_move all)) (filter-in is_removed q (deepest_first all) ∙ ap (λ (b : Bool). is_removed q && b) (deepest-in q all))
      ∙ (ap (λ (b : Bool). (is_removed q && is_in q all) || b) (moved-at (is_in q (filter_map gone_by_move all)) (is_moved_from pairs q) q refl refl)
      ∙ or-moved (is_going m m.local q) (is_moved_from pairs q) (is_in q all) (moved-going (is_moved_from pairs q) q refl))))

  pub made-list : filter_map made_here (down_list m items) ≡ filter (needs_folder m m.local) all
  made-list =
      parts-of made_here
      ∙ (ap (λ (ps : List Path). ps ++ (filter_map made_here folders ++ filter_map made_here fetches))
      (picked (removal_here m pairs) made_here (deepest_first all) ∙ none-map (λ path. then_by made_here (removal_here m pairs path)) (deepest_first all) (λ path. made-by (is_removed path) path refl))
      ∙ (ap (λ (ps : List Path). filter_map made_here folders ++ ps)
      (picked (fetch_here m items pairs) made_here all ∙ none-map (λ path. then_by made_here (fetch_here m items pairs path)) all (λ path. fetch-made-by (is_fetched m path) path refl))
      ∙ (append-nil (filter_map made_here folders)
      ∙ (picked (folder_here m) made_here all
      ∙ (same-map (λ path. then_by made_here (folder_here m path)) (λ path. if_is (needs_folder m m.local path) path) all (λ path. folder-made (needs_folder m m.local path) path)
      ∙ chosen-list (needs_folder m m.local) all)))))

  pub come-list : filter_map come_here (down_list m items) ≡ steps_at (is_fetched m) (target m) all
  come-list =
      parts-of come_here
      ∙ (ap (λ (ss : List Step). ss ++ (filter_map come_here folders ++ filter_map come_here fetches))
      (picked (removal_here m pairs) come_here (deepest_first all) ∙ none-map (λ path. then_by come_here (removal_here m pairs path)) (deepest_first all) (λ path. come-by (is_removed path) path refl))
      ∙ (ap (λ (ss : List Step). ss ++ filter_map come_here fetches)
      (picked (folder_here m) come_here all ∙ none-map (λ path. then_by come_here (folder_here m path)) all (λ path. folder-come (needs_folder m m.local path) path))
      ∙ (picked (fetch_here m items pairs) come_here all
      ∙ (same-map (λ path. then_by come_here (fetch_here m items pairs path)) (λ path. if_is (is_fetched m path) (path, target m path)) all (λ path. fetch-come-by (is_fetched m path) path refl)
      ∙ steps-list (is_fetched m) (target m) all))))

  -- what the list leaves at a path
  pub down-at : (q : Path) (there : Option Content) → done (steps_down (down_list m items)) q there
      ≡ cond (is_fetched m q && is_in q all) (target m q) (cond (needs_folder m m.local q && is_in q all) (Some Folder) (cond (is_going m m.local q && is_in q all) None there))
  down-at q there =
      let gone = filter_map gone_here (down_list m items) in
      let made = filter_map made_here (down_list m items) in
      let come = filter_map come_here (down_list m items) in
      let first = done (map (λ path. (path, None)) (deepest_first gone)) q there in
      let first_is : first ≡ cond (is_going m m.local q && is_in q all) None there =
      done-each None q (deepest_first gone) there ∙ ap (λ (b : Bool). cond b None there) (deepest-in q gone ∙ in-gone q) in
      let second = done (map (λ path. (path, Some Folder)) made) q first in
      let second_is : second ≡ cond (needs_folder m m.local q && is_in q all) (Some Folder) (cond (is_going m m.local q && is_in q all) None there) =
      done-each (Some Folder) q made first
      ∙ (ap (λ (b : Bool). cond b (Some Folder) first) (ap (λ (ps : List Path). is_in q ps) made-list ∙ filter-in (needs_folder m m.local) q all)
      ∙ ap (λ (x : Option Content). cond (needs_folder m m.local q && is_in q all) (Some Folder) x) first_is) in
      done-then (map (λ path. (path, None)) (deepest_first gone)) (map (λ path. (path, Some Folder)) made ++ come) q there
      ∙ (done-then (map (λ path. (path, Some Folder)) made) come q first
      ∙ (ap (λ (ss : List Step). done ss q second) come-list
      ∙ (chosen (is_fetched m) (target m) q all second
      ∙ ap (λ (x : Option Content). cond (is_fetched m q && is_in q all) (target m q) x) second_is)))

  -- which is what the definition's steps leave
  pub down-is : (q : Path) (there : Option Content) → done (steps_down (down_list m items)) q there ≡ done (steps_here m) q there
  down-is q there = down-at q there ∙ sym (three-kinds (is_going m m.local) (needs_folder m m.local) (is_fetched m) (target m) q all there)
