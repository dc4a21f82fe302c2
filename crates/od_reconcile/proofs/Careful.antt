-- What each step of a plan is about, and which of them are moves.
use Rattle.std.proofs.Common.{◌≡◌, ◌⊎◌, inl, inr, ℕ, Bool, true, false, not, ◌&&◌, ◌||◌, cond, is_none, is_some, List, [], ◌∷◌, ◌++◌, filter, append-nil, append_assoc, Option, Some, None, All, refl, ap, sym, subst, ◌∙◌}
use Rattle.std.proofs.lemmas.Bool.{true≢false, false≢true, and_parts, or_parts, or_from, or_left, or_right, not_from_false, and_from, cond-false, false_from_ne_true}
use Rattle.std.proofs.lemmas.List.Elements.{All-append, All-cons, All-nil, filter_map-append}
use Rattle.std.specs.List.{cons_option, filter_map, list_any}
use Rattle.gd_item.specs.declared.digest.Digest.{Digest}
use Rattle.gd_item.specs.declared.id.ItemId.{ItemId}
use Rattle.gd_item.specs.declared.item.Item.{Item}
use Rattle.gd_item.specs.declared.item.Tag.{Tag}
use Rattle.od_merge.specs.declared.content.Content.{Content}
use Rattle.od_merge.specs.declared.content.Content.TheVariants.{Folder, File}
use Rattle.od_merge.specs.declared.why.Why.{Why}
use Rattle.od_merge.specs.declared.why.Why.TheVariants.{NoCopyName}
use Rattle.od_merge.specs.Sides.{Sides, at, digest_of, is_file, is_folder, is_kept, is_path, same}
use Rattle.od_merge.specs.Merging.{Limits, all_paths, first_held, is_going, is_left, prefixes, target, why_held}
use Rattle.od_merge.specs.Pairs.{and_pair, drive_pairs, is_sent_now, local_pairs, pairs_from, source_for}
use Rattle.od_merge.specs.Steps.{AreRenamed, deepest_first, is_fetched, is_sent, needs_folder}
use Rattle.od_merge.proofs.Agreements.{gone-here-as-base, gone-there-none, not-left-going, target-clear, target-free}
use Rattle.od_merge.proofs.Cases.{same-nodes}
use Rattle.od_merge.proofs.Digests.{none-fetched, none-sent, replaced-as-base, some-file}
use Rattle.od_merge.proofs.Lists.{Path, in-joined, is_in, path-self, same-path}
use Rattle.od_merge.proofs.Order.{Apart, apart-filter}
use Rattle.od_merge.proofs.Proper.{In}
use Rattle.od_reconcile.specs.Doing.{known_file}
use Rattle.od_reconcile.specs.Entries.{remote_tree}
use Rattle.od_reconcile.specs.Moving.{fits_here, is_moved_from, is_moved_to, is_source_here, is_target_here, pair_to}
use Rattle.od_reconcile.specs.Plans.{down_list, fetch_here, folder_here, folder_there, item_at, over_of, patch_there, removal_here, removal_there, send_there, up_list}
use Rattle.od_reconcile.specs.Promises.{IsAgreedHere, IsFreeHere, IsFreeThere, IsUnlikeHere, IsUnlikeThere, pair_here, pair_there}
use Rattle.od_reconcile.specs.declared.types.Down.{Down}
use Rattle.od_reconcile.specs.declared.types.Down.TheVariants as down
use Rattle.od_reconcile.specs.declared.types.Up.{Up}
use Rattle.od_reconcile.specs.declared.types.Up.TheVariants as up
use Rattle.od_reconcile.proofs.Doings.{if_is, none-map, picked, same-map, then_by}
use Rattle.od_reconcile.proofs.HereDoing.{Fetches, Moves, RemovesFile, RemovesFolder, all-apart, comes, is_removed, local-pair, no-fetch, no-removal, removes, unknown}
use Rattle.od_reconcile.proofs.PairFacts.{Pairs, found-to, its-pair, none-to, tos, tos-apart, tos-end, apart-middle, apart-first}
use Rattle.od_reconcile.proofs.ThereDoing.{drive-pair, is_made_there, is_removed_there, is_sent_alone, long-file, no-removal-there, patches-there, removes-there}

-- ---- what is so of each that a list gives
all-picked-at : {Y : Type 0} (P : Y → Type 0) (y : Option Y) (ys : List Y) → ((z : Y) → y ≡ Some z → P z) → All P ys → All P (cons_option y ys)
all-picked-at P None ys each rest = rest
all-picked-at P (Some y) ys each rest = All-cons P y ys (each y refl) rest

all-picked : {X Y : Type 0} (P : Y → Type 0) (f : X → Option Y) (xs : List X) → ((x : X) (y : Y) → f x ≡ Some y → P y) → All P (filter_map f xs)
all-picked P f [] each = All-nil P
all-picked P f (x ∷ xs) each = all-picked-at P (f x) (filter_map f xs) (each x) (all-picked P f xs each)

one-down : (a b : Down) → Some a ≡ Some b → a ≡ b
one-down a b is = cc is

one-up : (a b : Up) → Some a ≡ Some b → a ≡ b
one-up a b is = cc is

none-step : {X : Type 0} (x : Option X) (y : X) → x ≡ None → x ≡ Some y → ⊥
none-step x y none some = cc (none, some)

pub no-why : (x : Option Why) → is_none x ≡ true → x ≡ None
no-why None none = refl
no-why (Some why) none = absurd (false≢true none)

in-front : (pairs : Pairs) (last pair : Path × Path) → In pair pairs → In pair (pairs ++ last ∷ [])
in-front [] last pair has = absurd has
in-front (first ∷ pairs) last pair (inl same) = inl same
in-front (first ∷ pairs) last pair (inr more) = inr (in-front pairs last pair more)

in-last : (pairs : Pairs) (last : Path × Path) → In last (pairs ++ last ∷ [])
in-last [] last = inl refl
in-last (first ∷ pairs) last = inr (in-last pairs last)

or-middle : (a b c : Bool) → (a || c) ≡ true → (a || (b || c)) ≡ true
or-middle true b c has = refl
or-middle false b c has = or_right b c has

in-middle : (q : Path) (a : List Path) (path : Path) (b : List Path) → is_in q (a ++ b) ≡ true → is_in q (a ++ path ∷ b) ≡ true
in-middle q a path b has = in-joined q a (path ∷ b) ∙ or-middle (is_in q a) (is_path q path) (is_in q b) (sym (in-joined q a b) ∙ has)

other-way : (a b : Path) → is_path b a ≡ false → is_path a b ≡ false
other-way a b other = false_from_ne_true (is_path a b) (λ same. true≢false (sym (subst (λ (p : Path). is_path b p ≡ true) (sym (same-path a b same)) (path-self b)) ∙ other))

apart-of : (a : List Path) (path : Path) (b : List Path) → Apart (a ++ path ∷ b) → is_in path (a ++ b) ≡ false
apart-of [] path b apart = apart.0
apart-of (first ∷ a) path b apart =
    let none = or_parts (is_in first a) (is_in first (path ∷ b)) (sym (in-joined first a (path ∷ b)) ∙ apart.0) in
    or_from (is_path path first) (is_in path (a ++ b)) (other-way path first (or_parts (is_path first path) (is_in first b) none.1).0) (apart-of a path b apart.1)

-- ---- pairs in order of their new paths
module _ (fits : Path → Path → Bool) (sources : List Path) where
  kept-at : (x : Option Path) (to : Path) (pairs : Pairs) (pair : Path × Path) → In pair pairs → In pair (and_pair x to pairs)
  kept-at None to pairs pair has = has
  kept-at (Some from) to pairs pair has = in-front pairs (from, to) pair has

  kept-from : (pairs : Pairs) (rest : List Path) (pair : Path × Path) → In pair pairs → In pair (pairs_from fits sources pairs rest)
  kept-from pairs [] pair has = has
  kept-from pairs (to ∷ rest) pair has = kept-from (and_pair (source_for fits sources pairs to) to pairs) rest pair (kept-at (source_for fits sources pairs to) to pairs pair has)

  within-at : (x : Option Path) (to q : Path) (pairs : Pairs) (rest : List Path) → is_in q (tos (and_pair x to pairs) ++ rest) ≡ true → is_in q (tos pairs ++ to ∷ rest) ≡ true
  within-at None to q pairs rest has = in-middle q (tos pairs) to rest has
  within-at (Some from) to q pairs rest has = subst (λ (ps : List Path). is_in q ps ≡ true) (tos-end pairs (from, to) rest) has

  within-from : (pairs : Pairs) (rest : List Path) (q : Path) → is_in q (tos (pairs_from fits sources pairs rest)) ≡ true → is_in q (tos pairs ++ rest) ≡ true
  within-from pairs [] q has = in-joined q (tos pairs) [] ∙ or_left (is_in q (tos pairs)) false has
  within-from pairs (to ∷ rest) q has =
      within-at (source_for fits sources pairs to) to q pairs rest (within-from (and_pair (source_for fits sources pairs to) to pairs) rest q has)

  found-next : (x : Option Path) (to : Path) (pairs : Pairs) (rest : List Path) → Apart (tos pairs ++ to ∷ rest) → Apart (tos (pairs_from fits sources (and_pair x to pairs) rest))
      → (ys : Pairs) → pairs ++ cons_option (pair_to (pairs_from fits sources (and_pair x to pairs) rest) to) ys ≡ and_pair x to pairs ++ ys
  found-next None to pairs rest apart final ys =
      ap (λ (x : Option (Path × Path)). pairs ++ cons_option x ys)
      (none-to (pairs_from fits sources pairs rest) to (false_from_ne_true (is_in to (tos (pairs_from fits sources pairs rest)))
      (λ has. true≢false (sym (within-from pairs rest to has) ∙ apart-of (tos pairs) to rest apart))))
  found-next (Some from) to pairs rest apart final ys =
      ap (λ (x : Option (Path × Path)). pairs ++ cons_option x ys)
      (its-pair (pairs_from fits sources (pairs ++ (from, to) ∷ []) rest) (from, to) final (kept-from (pairs ++ (from, to) ∷ []) rest (from, to) (in-last pairs (from, to))))
      ∙ sym (append_assoc pairs ((from, to) ∷ []) ys)

  next-apart : (x : Option Path) (to : Path) (pairs : Pairs) (rest : List Path) → Apart (tos pairs ++ to ∷ rest) → Apart (tos (and_pair x to pairs) ++ rest)
  next-apart None to pairs rest apart = apart-middle (tos pairs) to rest apart
  next-apart (Some from) to pairs rest apart = subst (λ (ps : List Path). Apart ps) (sym (tos-end pairs (from, to) rest)) apart

  final-apart : (pairs : Pairs) (rest : List Path) → Apart (tos pairs ++ rest) → Apart (tos (pairs_from fits sources pairs rest))
  final-apart pairs [] apart = apart-first (tos pairs) [] apart
  final-apart pairs (to ∷ rest) apart = final-apart (and_pair (source_for fits sources pairs to) to pairs) rest (next-apart (source_for fits sources pairs to) to pairs rest apart)

  pub in-their-order : (pairs : Pairs) (rest : List Path) → Apart (tos pairs ++ rest) → pairs ++ filter_map (pair_to (pairs_from fits sources pairs rest)) rest ≡ pairs_from fits sources pairs rest
  in-their-order pairs [] apart = append-nil pairs
  in-their-order pairs (to ∷ rest) apart =
      let x = source_for fits sources pairs to in
      let next = next-apart x to pairs rest apart in
      found-next x to pairs rest apart (final-apart (and_pair x to pairs) rest next) (filter_map (pair_to (pairs_from fits sources (and_pair x to pairs) rest)) rest)
      ∙ in-their-order (and_pair x to pairs) rest next

skipped-at : (t : Bool) (g : Path → Option (Path × Path)) (path : Path) (kept : List Path) (rest : Pairs) → filter_map g kept ≡ rest → (t ≡ false → g path ≡ None) → filter_map g (cond t (path ∷ kept) kept) ≡ cons_option (g path) rest
skipped-at true g path kept rest is none = ap (λ (ps : Pairs). cons_option (g path) ps) is
skipped-at false g path kept rest is none = is ∙ ap (λ (x : Option (Path × Path)). cons_option x rest) (sym (none refl))

skipped : (test : Path → Bool) (g : Path → Option (Path × Path)) (paths : List Path) → ((path : Path) → test path ≡ false → g path ≡ None) → filter_map g (filter test paths) ≡ filter_map g paths
skipped test g [] none = refl
skipped test g (path ∷ paths) none = skipped-at (test path) g path (filter test paths) (filter_map g paths) (skipped test g paths none) (none path)

-- ---- in the folder
module _ (m : Sides) (is : AreRenamed m) (items : List (Path × Item)) (remote_is : m.remote ≡ remote_tree items) where
  module _ (P : Down → Type 0)
      (of_folder : (path : Path) → is_going m m.local path ≡ true → at m.local path ≡ Some Folder → P (down.RemoveFolder path))
      (of_file : (path : Path) (digest : Digest) → is_going m m.local path ≡ true → at m.local path ≡ known_file digest → P (down.RemoveFile path digest))
      (of_made : (path : Path) → is_folder (target m path) ≡ true → P (down.MakeFolder path))
      (of_fetch : (path : Path) (id : ItemId) (digest : Digest) (size : ℕ) → is_fetched m path ≡ true → P (down.Fetch path id digest size (digest_of (at m.local path))))
      (of_move : (from to : Path) (digest : Digest) → In (from, to) (local_pairs m) → is_fetched m to ≡ true → target m to ≡ known_file digest → P (down.Move from to digest)) where
    removal-by : (path : Path) (step : Down) (x : Option Down) → is_going m m.local path ≡ true → RemovesFolder m is items remote_is path x ⊎ RemovesFile m is items remote_is path x → x ≡ Some step → P step
    removal-by path step x going (inl folder) gives =
        subst P (one-down (down.RemoveFolder path) step (sym folder.step_is ∙ gives)) (of_folder path going folder.there_is)
    removal-by path step x going (inr file) gives =
        subst P (one-down (down.RemoveFile path file.digest) step (sym file.step_is ∙ gives)) (of_file path file.digest going file.there_is)

    removal-at : (t : Bool) (path : Path) (step : Down) → is_removed m is items remote_is path ≡ t → removal_here m (local_pairs m) path ≡ Some step → P step
    removal-at true path step removed gives =
        removal-by path step (removal_here m (local_pairs m) path) (and_parts (is_going m m.local path) (not (is_moved_from (local_pairs m) path)) removed).0 (removes m is items remote_is path removed) gives
    removal-at false path step removed gives = absurd (none-step (removal_here m (local_pairs m) path) step (no-removal m is items remote_is path removed) gives)

    folder-at : (t : Bool) (path : Path) (step : Down) → needs_folder m m.local path ≡ t → if_is t (down.MakeFolder path) ≡ Some step → P step
    folder-at true path step needs gives =
        subst P (one-down (down.MakeFolder path) step gives) (of_made path (and_parts (is_folder (target m path)) (not (is_folder (at m.local path))) needs).0)
    folder-at false path step needs gives = absurd (cc gives)

    fetch-by : (path : Path) (step : Down) (x : Option Down) → is_fetched m path ≡ true → Fetches m is items remote_is path x ⊎ Moves m is items remote_is path x → x ≡ Some step → P step
    fetch-by path step x fetched (inl fetch) gives =
        let f = fetch.fetch in
        subst P (one-down (down.Fetch path f.id f.digest f.size (digest_of (at m.local path))) step (sym f.is ∙ gives)) (of_fetch path f.id f.digest f.size fetched)
    fetch-by path step x fetched (inr move) gives =
        let f = move.move in
        subst P (one-down (down.Move move.from path f.digest) step (sym f.is ∙ gives)) (of_move move.from path f.digest move.made fetched f.there_is)

    fetch-at : (t : Bool) (path : Path) (step : Down) → is_fetched m path ≡ t → fetch_here m items (local_pairs m) path ≡ Some step → P step
    fetch-at true path step fetched gives = fetch-by path step (fetch_here m items (local_pairs m) path) fetched (comes m is items remote_is path fetched) gives
    fetch-at false path step fetched gives = absurd (none-step (fetch_here m items (local_pairs m) path) step (no-fetch m is items remote_is path fetched) gives)

    pub each-down : All P (down_list m items)
    each-down =
        let removals = filter_map (removal_here m (local_pairs m)) (deepest_first (all_paths m)) in
        let folders = filter_map (folder_here m) (all_paths m) in
        let fetches = filter_map (fetch_here m items (local_pairs m)) (all_paths m) in
        All-append P removals (folders ++ fetches)
        (all-picked P (removal_here m (local_pairs m)) (deepest_first (all_paths m)) (λ path step gives. removal-at (is_removed m is items remote_is path) path step refl gives))
        (All-append P folders fetches (all-picked P (folder_here m) (all_paths m) (λ path step gives. folder-at (needs_folder m m.local path) path step refl gives))
        (all-picked P (fetch_here m items (local_pairs m)) (all_paths m) (λ path step gives. fetch-at (is_fetched m path) path step refl gives)))

  -- ---- what is so of each step
  base-is : (path : Path) (x : Option Content) → is_going m m.local path ≡ true → at m.local path ≡ x → m.base path ≡ x
  base-is path x going there = sym (same-nodes (at m.local path) (m.base path) (gone-here-as-base m is path going)) ∙ there

  file-target : (path : Path) → is_fetched m path ≡ true → is_file (target m path) ≡ true
  file-target path fetched =
      (and_parts (is_file (target m path)) (same (target m path) (at m.remote path))
      (and_parts (is_file (target m path) && same (target m path) (at m.remote path)) (not (same (target m path) (at m.local path))) fetched).0).0

  replaced : (path : Path) → is_fetched m path ≡ true → is_file (at m.local path) ≡ true → same (at m.local path) (m.base path) ≡ true
  replaced path fetched file =
      let target_file = file-target path fetched in
      replaced-as-base m path (target-clear m is path (long-file m is path target_file) (some-file (target m path) target_file)) file fetched

  agreed-fetch : (x : Option Content) (path : Path) (id : ItemId) (digest : Digest) (size : ℕ) → at m.local path ≡ x → is_fetched m path ≡ true → IsAgreedHere m (down.Fetch path id digest size (digest_of x))
  agreed-fetch None path id digest size there fetched = inl there
  agreed-fetch (Some Folder) path id digest size there fetched = inr there
  agreed-fetch (Some (File None)) path id digest size there fetched =
      absurd (unknown (m.base path) (sym (ap (λ (x : Option Content). same x (m.base path)) there) ∙ replaced path fetched (ap (λ (x : Option Content). is_file x) there)))
  agreed-fetch (Some (File (Some over))) path id digest size there fetched =
      (there, sym (same-nodes (at m.local path) (m.base path) (replaced path fetched (ap (λ (x : Option Content). is_file x) there))) ∙ there)

  agreed-move : (from to : Path) (digest : Digest) → In (from, to) (local_pairs m) → target m to ≡ known_file digest → IsAgreedHere m (down.Move from to digest)
  agreed-move from to digest has to_is =
      let facts = local-pair m is items remote_is (from, to) has in
      let there : at m.local from ≡ known_file digest = facts.same_is ∙ to_is in
      (there, base-is from (known_file digest) facts.going there)

  pub all-agreed : All (IsAgreedHere m) (down_list m items)
  all-agreed = each-down (IsAgreedHere m)
      (λ path going there. (there, base-is path (Some Folder) going there))
      (λ path digest going there. (there, base-is path (known_file digest) going there))
      (λ path made. tt)
      (λ path id digest size fetched. agreed-fetch (at m.local path) path id digest size refl fetched)
      (λ from to digest has fetched to_is. agreed-move from to digest has to_is)

  unlike-here : (path : Path) → is_fetched m path ≡ true → same (at m.local path) (at m.remote path) ≡ false
  unlike-here path fetched = false_from_ne_true (same (at m.local path) (at m.remote path)) (λ alike. true≢false (sym fetched ∙ none-fetched m path alike))

  pub all-unlike-here : All (IsUnlikeHere m) (down_list m items)
  all-unlike-here = each-down (IsUnlikeHere m)
      (λ path going there. tt) (λ path digest going there. tt) (λ path made. tt)
      (λ path id digest size fetched. unlike-here path fetched) (λ from to digest has fetched to_is. unlike-here to fetched)

  only : (path : Path) → is_left m path ≡ false → All (λ p. is_left m p ≡ false) (path ∷ [])
  only path free = All-cons (λ p. is_left m p ≡ false) path [] free (All-nil (λ p. is_left m p ≡ false))

  free-target : (path : Path) → is_fetched m path ≡ true → is_left m path ≡ false
  free-target path fetched = target-free m is path (some-file (target m path) (file-target path fetched))

  some-folder : (x : Option Content) → is_folder x ≡ true → is_some x ≡ true
  some-folder None folder = absurd (false≢true folder)
  some-folder (Some x) folder = refl

  pub all-free-here : All (IsFreeHere m) (down_list m items)
  all-free-here = each-down (IsFreeHere m)
      (λ path going there. only path (not-left-going m is m.local path going))
      (λ path digest going there. only path (not-left-going m is m.local path going))
      (λ path made. only path (target-free m is path (some-folder (target m path) made)))
      (λ path id digest size fetched. only path (free-target path fetched))
      (λ from to digest has fetched to_is.
      All-cons (λ p. is_left m p ≡ false) from (to ∷ []) (not-left-going m is m.local from (local-pair m is items remote_is (from, to) has).going) (only to (free-target to fetched)))

  -- ---- the moves
  pair-of-removal : (path : Path) (x : Option Down) → RemovesFolder m is items remote_is path x ⊎ RemovesFile m is items remote_is path x → then_by pair_here x ≡ None
  pair-of-removal path x (inl folder) = ap (λ (s : Option Down). then_by pair_here s) folder.step_is
  pair-of-removal path x (inr file) = ap (λ (s : Option Down). then_by pair_here s) file.step_is

  no-pair-removal : (t : Bool) (path : Path) → is_removed m is items remote_is path ≡ t → then_by pair_here (removal_here m (local_pairs m) path) ≡ None
  no-pair-removal true path removed = pair-of-removal path (removal_here m (local_pairs m) path) (removes m is items remote_is path removed)
  no-pair-removal false path removed = ap (λ (s : Option Down). then_by pair_here s) (no-removal m is items remote_is path removed)

  no-pair-folder : (t : Bool) (path : Path) → then_by pair_here (if_is t (down.MakeFolder path)) ≡ None
  no-pair-folder true path = refl
  no-pair-folder false path = refl

  pair-of-fetch : (path : Path) (x : Option Down) → Fetches m is items remote_is path x ⊎ Moves m is items remote_is path x → then_by pair_here x ≡ pair_to (local_pairs m) path
  pair-of-fetch path x (inl fetch) = ap (λ (s : Option Down). then_by pair_here s) fetch.fetch.is ∙ sym fetch.unpaired
  pair-of-fetch path x (inr move) =
      ap (λ (s : Option Down). then_by pair_here s) move.move.is
      ∙ sym (its-pair (local_pairs m) (move.from, path) (tos-apart (fits_here m) (filter (is_source_here m) (all_paths m)) (filter (is_target_here m) (all_paths m)) (apart-filter (is_target_here m) (all_paths m) (all-apart m is items remote_is))) move.made)

  unpaired : (x : Option (Path × Path)) (path : Path) → pair_to (local_pairs m) path ≡ x → is_fetched m path ≡ false → x ≡ None
  unpaired None path found fetched = refl
  unpaired (Some pair) path found fetched =
      let its = found-to (local_pairs m) path pair found in
      absurd (true≢false (sym (subst (λ (p : Path). is_fetched m p ≡ true) (sym its.1) (local-pair m is items remote_is pair its.0).fetched) ∙ fetched))

  pair-at : (t : Bool) (path : Path) → is_fetched m path ≡ t → then_by pair_here (fetch_here m items (local_pairs m) path) ≡ pair_to (local_pairs m) path
  pair-at true path fetched = pair-of-fetch path (fetch_here m items (local_pairs m) path) (comes m is items remote_is path fetched)
  pair-at false path fetched =
      ap (λ (s : Option Down). then_by pair_here s) (no-fetch m is items remote_is path fetched) ∙ sym (unpaired (pair_to (local_pairs m) path) path refl fetched)

  no-target-pair : (x : Option (Path × Path)) (path : Path) → pair_to (local_pairs m) path ≡ x → is_target_here m path ≡ false → x ≡ None
  no-target-pair None path found none = refl
  no-target-pair (Some pair) path found none =
      let its = found-to (local_pairs m) path pair found in
      let facts = local-pair m is items remote_is pair its.0 in
      absurd (true≢false (sym (subst (λ (p : Path). is_target_here m p ≡ true) (sym its.1) (and_from (is_fetched m pair.1) (not (is_file (at m.local pair.1))) facts.fetched (not_from_false (is_file (at m.local pair.1)) facts.no_file))) ∙ none))

  -- the pairs of the fetches, in their order
  pub fetch-pairs : filter_map (λ path. then_by pair_here (fetch_here m items (local_pairs m) path)) (all_paths m) ≡ local_pairs m
  fetch-pairs =
      same-map (λ path. then_by pair_here (fetch_here m items (local_pairs m) path)) (pair_to (local_pairs m)) (all_paths m) (λ path. pair-at (is_fetched m path) path refl)
      ∙ (sym (skipped (is_target_here m) (pair_to (local_pairs m)) (all_paths m) (λ path none. no-target-pair (pair_to (local_pairs m) path) path refl none))
      ∙ in-their-order (fits_here m) (filter (is_source_here m) (all_paths m)) [] (filter (is_target_here m) (all_paths m)) (apart-filter (is_target_here m) (all_paths m) (all-apart m is items remote_is)))

  pub moves-here : filter_map pair_here (down_list m items) ≡ local_pairs m
  moves-here =
      let removals = filter_map (removal_here m (local_pairs m)) (deepest_first (all_paths m)) in
      let folders = filter_map (folder_here m) (all_paths m) in
      let fetches = filter_map (fetch_here m items (local_pairs m)) (all_paths m) in
      filter_map-append pair_here removals (folders ++ fetches)
      ∙ (ap (λ (ps : Pairs). ps ++ filter_map pair_here (folders ++ fetches))
      (picked (removal_here m (local_pairs m)) pair_here (deepest_first (all_paths m))
      ∙ none-map (λ path. then_by pair_here (removal_here m (local_pairs m) path)) (deepest_first (all_paths m)) (λ path. no-pair-removal (is_removed m is items remote_is path) path refl))
      ∙ (filter_map-append pair_here folders fetches
      ∙ (ap (λ (ps : Pairs). ps ++ filter_map pair_here fetches)
      (picked (folder_here m) pair_here (all_paths m) ∙ none-map (λ path. then_by pair_here (folder_here m path)) (all_paths m) (λ path. no-pair-folder (needs_folder m m.local path) path))
      ∙ (picked (fetch_here m items (local_pairs m)) pair_here (all_paths m) ∙ fetch-pairs))))

pub some-of : (x : Option Content) → is_folder x ≡ true → is_some x ≡ true
some-of None folder = absurd (false≢true folder)
some-of (Some x) folder = refl

-- ---- on the drive
module _ (limits : Limits) (m : Sides) (is : AreRenamed m) (items : List (Path × Item)) (remote_is : m.remote ≡ remote_tree items) where
  module _ (P : Up → Type 0)
      (of_removal : (path : Path) (id : ItemId) (etag : Tag) → is_going m m.remote path ≡ true → P (up.Remove path id etag))
      (of_made : (path : Path) → is_made_there limits m is items remote_is path ≡ true → P (up.MakeFolder path))
      (of_patch : (from to : Path) (id : ItemId) (etag : Tag) → In (from, to) (drive_pairs limits m) → P (up.Move from to id etag))
      (of_send : (path : Path) (over : Option (ItemId × Tag)) → is_sent_now limits m path ≡ true → P (up.Send path over)) where
    removal-there-at : (t : Bool) (path : Path) (step : Up) → is_removed_there limits m is items remote_is path ≡ t → removal_there m items (drive_pairs limits m) path ≡ Some step → P step
    removal-there-at true path step removed gives =
        let f = removes-there limits m is items remote_is path removed in
        subst P (one-up (up.Remove path f.id f.etag) step (sym f.step_is ∙ gives)) (of_removal path f.id f.etag (and_parts (is_going m m.remote path) (not (is_moved_from (drive_pairs limits m) path)) removed).0)
    removal-there-at false path step removed gives =
        absurd (none-step (removal_there m items (drive_pairs limits m) path) step (no-removal-there limits m is items remote_is path removed) gives)

    folder-there-at : (t : Bool) (path : Path) (step : Up) → is_made_there limits m is items remote_is path ≡ t → cond t (Some (up.MakeFolder path)) None ≡ Some step → P step
    folder-there-at true path step made gives = subst P (one-up (up.MakeFolder path) step gives) (of_made path made)
    folder-there-at false path step made gives = absurd (cc gives)

    send-there-at : (t : Bool) (path : Path) (step : Up) (over : Option (ItemId × Tag)) → is_sent_alone limits m is items remote_is path ≡ t → cond t (Some (up.Send path over)) None ≡ Some step → P step
    send-there-at true path step over sent gives =
        subst P (one-up (up.Send path over) step gives) (of_send path over (and_parts (is_sent_now limits m path) (not (is_moved_to (drive_pairs limits m) path)) sent).0)
    send-there-at false path step over sent gives = absurd (cc gives)

    patch-there-at : (pair : Path × Path) (ps : Pairs) → In pair (drive_pairs limits m) → All P (filter_map (patch_there items) ps) → All P (cons_option (patch_there items pair) (filter_map (patch_there items) ps))
    patch-there-at pair ps has rest =
        let f = patches-there limits m is items remote_is pair has in
        subst (λ (x : Option Up). All P (cons_option x (filter_map (patch_there items) ps))) (sym f.step_is)
        (All-cons P (up.Move pair.0 pair.1 f.id f.etag) (filter_map (patch_there items) ps) (of_patch pair.0 pair.1 f.id f.etag has) rest)

    all-patches : (ps : Pairs) → ((pair : Path × Path) → In pair ps → In pair (drive_pairs limits m)) → All P (filter_map (patch_there items) ps)
    all-patches [] within = All-nil P
    all-patches (pair ∷ ps) within = patch-there-at pair ps (within pair (inl refl)) (all-patches ps (λ other has. within other (inr has)))

    pub each-up : All P (up_list limits m items)
    each-up =
        let pairs = drive_pairs limits m in
        let removals = filter_map (removal_there m items pairs) (deepest_first (all_paths m)) in
        let folders = filter_map (folder_there limits m) (all_paths m) in
        let patches = filter_map (patch_there items) pairs in
        let sends = filter_map (send_there limits m items pairs) (all_paths m) in
        All-append P removals (folders ++ (patches ++ sends))
        (all-picked P (removal_there m items pairs) (deepest_first (all_paths m)) (λ path step gives. removal-there-at (is_removed_there limits m is items remote_is path) path step refl gives))
        (All-append P folders (patches ++ sends)
        (all-picked P (folder_there limits m) (all_paths m) (λ path step gives. folder-there-at (is_made_there limits m is items remote_is path) path step refl gives))
        (All-append P patches sends (all-patches pairs (λ pair has. has))
        (all-picked P (send_there limits m items pairs) (all_paths m)
        (λ path step gives. send-there-at (is_sent_alone limits m is items remote_is path) path step (over_of (item_at items path)) refl gives))))

  sent-file : (path : Path) → is_sent_now limits m path ≡ true → is_file (target m path) ≡ true
  sent-file path now =
      (and_parts (is_file (target m path)) (not (same (target m path) (at m.remote path))) (and_parts (is_sent m path) (is_none (why_held limits m path)) now).0).0

  unlike-there : (path : Path) → is_sent_now limits m path ≡ true → same (at m.local path) (at m.remote path) ≡ false
  unlike-there path now =
      let file = sent-file path now in
      let clear = target-clear m is path (long-file m is path file) (some-file (target m path) file) in
      false_from_ne_true (same (at m.local path) (at m.remote path)) (λ alike. true≢false (sym (and_parts (is_sent m path) (is_none (why_held limits m path)) now).0 ∙ none-sent m path clear alike))

  pub all-unlike-there : All (IsUnlikeThere m) (up_list limits m items)
  all-unlike-there = each-up (IsUnlikeThere m)
      (λ path id etag going. tt) (λ path made. tt)
      (λ from to id etag has. unlike-there to (drive-pair limits m is items remote_is (from, to) has).sent)
      (λ path over now. unlike-there path now)

  -- nothing is done at what is left or held
  abbrev IsFreePath : Path → Type 0
  IsFreePath path = (is_left m path ≡ false) × (why_held limits m path ≡ None)

  not-held : (path : Path) → is_left m path ≡ false → target m path ≡ None → why_held limits m path ≡ None
  not-held path free none =
      cond-false (is_left m path) (cond (is_kept m.passes m.local path || list_any (is_path path) m.left) (Some NoCopyName) None) (cond (is_some (target m path)) (first_held limits m (prefixes path)) None) free
      ∙ cond-false (is_some (target m path)) (first_held limits m (prefixes path)) None (ap (λ (x : Option Content). is_some x) none)

  pub free-going : (path : Path) → is_going m m.remote path ≡ true → IsFreePath path
  free-going path going = let free = not-left-going m is m.remote path going in (free, not-held path free (gone-there-none m is path going))

  free-made : (path : Path) → is_made_there limits m is items remote_is path ≡ true → IsFreePath path
  free-made path made =
      let parts = and_parts (needs_folder m m.remote path) (is_none (why_held limits m path)) made in
      (target-free m is path (some-of (target m path) (and_parts (is_folder (target m path)) (not (is_folder (at m.remote path))) parts.0).0), no-why (why_held limits m path) parts.1)

  free-sent : (path : Path) → is_sent_now limits m path ≡ true → IsFreePath path
  free-sent path now =
      (target-free m is path (some-file (target m path) (sent-file path now)), no-why (why_held limits m path) (and_parts (is_sent m path) (is_none (why_held limits m path)) now).1)

  only-there : (path : Path) → IsFreePath path → All IsFreePath (path ∷ [])
  only-there path free = All-cons IsFreePath path [] free (All-nil IsFreePath)

  pub all-free-there : All (IsFreeThere limits m) (up_list limits m items)
  all-free-there = each-up (IsFreeThere limits m)
      (λ path id etag going. only-there path (free-going path going))
      (λ path made. only-there path (free-made path made))
      (λ from to id etag has.
      let facts = drive-pair limits m is items remote_is (from, to) has in
      All-cons IsFreePath from (to ∷ []) (free-going from facts.going) (only-there to (free-sent to facts.sent)))
      (λ path over now. only-there path (free-sent path now))

  -- ---- the moves
  no-pair-gone : (t : Bool) (path : Path) → is_removed_there limits m is items remote_is path ≡ t → then_by pair_there (removal_there m items (drive_pairs limits m) path) ≡ None
  no-pair-gone true path removed = ap (λ (s : Option Up). then_by pair_there s) (removes-there limits m is items remote_is path removed).step_is
  no-pair-gone false path removed = ap (λ (s : Option Up). then_by pair_there s) (no-removal-there limits m is items remote_is path removed)

  no-pair-made : (t : Bool) (path : Path) → then_by pair_there (cond t (Some (up.MakeFolder path)) None) ≡ None
  no-pair-made true path = refl
  no-pair-made false path = refl

  no-pair-sent : (t : Bool) (path : Path) (over : Option (ItemId × Tag)) → then_by pair_there (cond t (Some (up.Send path over)) None) ≡ None
  no-pair-sent true path over = refl
  no-pair-sent false path over = refl

  pair-patch : (pair : Path × Path) → In pair (drive_pairs limits m) → then_by pair_there (patch_there items pair) ≡ Some pair
  pair-patch pair has = ap (λ (s : Option Up). then_by pair_there s) (patches-there limits m is items remote_is pair has).step_is

  pairs-back : (ps : Pairs) → ((pair : Path × Path) → In pair ps → In pair (drive_pairs limits m)) → filter_map (λ pair. then_by pair_there (patch_there items pair)) ps ≡ ps
  pairs-back [] within = refl
  pairs-back (pair ∷ ps) within =
      ap (λ (x : Option (Path × Path)). cons_option x (filter_map (λ pair. then_by pair_there (patch_there items pair)) ps)) (pair-patch pair (within pair (inl refl)))
      ∙ ap (λ (qs : Pairs). pair ∷ qs) (pairs-back ps (λ other has. within other (inr has)))

  pub moves-there : filter_map pair_there (up_list limits m items) ≡ drive_pairs limits m
  moves-there =
      let pairs = drive_pairs limits m in
      let removals = filter_map (removal_there m items pairs) (deepest_first (all_paths m)) in
      let folders = filter_map (folder_there limits m) (all_paths m) in
      let patches = filter_map (patch_there items) pairs in
      let sends = filter_map (send_there limits m items pairs) (all_paths m) in
      filter_map-append pair_there removals (folders ++ (patches ++ sends))
      ∙ (ap (λ (ps : Pairs). ps ++ filter_map pair_there (folders ++ (patches ++ sends)))
      (picked (removal_there m items pairs) pair_there (deepest_first (all_paths m))
      ∙ none-map (λ path. then_by pair_there (removal_there m items pairs path)) (deepest_first (all_paths m)) (λ path. no-pair-gone (is_removed_there limits m is items remote_is path) path refl))
      ∙ (filter_map-append pair_there folders (patches ++ sends)
      ∙ (ap (λ (ps : Pairs). ps ++ filter_map pair_there (patches ++ sends))
      (picked (folder_there limits m) pair_there (all_paths m)
      ∙ none-map (λ path. then_by pair_there (folder_there limits m path)) (all_paths m) (λ path. no-pair-made (is_made_there limits m is items remote_is path) path))
      ∙ (filter_map-append pair_there patches sends
      ∙ (ap (λ (ps : Pairs). ps ++ filter_map pair_there sends) (picked (patch_there items) pair_there pairs ∙ pairs-back pairs (λ pair has. has))
      ∙ (ap (λ (ps : Pairs). pairs ++ ps)
      (picked (send_there limits m items pairs) pair_there (all_paths m)
      ∙ none-map (λ path. then_by pair_there (send_there limits m items pairs path)) (all_paths m) (λ path. no-pair-sent (is_sent_alone limits m is items remote_is path) path (over_of (item_at items path))))
      ∙ append-nil pairs))))))
