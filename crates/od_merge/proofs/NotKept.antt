-- Where nothing is kept, nothing is done.
use Rattle.std.proofs.Common.{◌≡◌, Bool, true, false, not, ◌&&◌, ◌||◌, cond, is_some, nat_lt, arith, [], ◌∷◌, length, Option, Some, None, refl, ap, sym, subst, ◌∙◌}
use Rattle.std.proofs.lemmas.Bool.{true≢false, false≢true, and_parts, and_from, and_left, and_right, or_parts, or_from, false_from_ne_true, true_from_ne_false, lt-ltb}
use Rattle.std.specs.List.{list_any}
use Rattle.od_merge.specs.declared.content.Content.{Content}
use Rattle.od_merge.specs.declared.content.Content.TheVariants.{Folder, File}
use Rattle.od_merge.specs.Sides.{Sides, Tree, at, entry_passes, is_below, is_file, is_folder, is_from, is_kept, is_kept_node, is_kept_there, is_path, is_skipped, same}
use Rattle.od_merge.specs.Merging.{all_paths, both_paths, is_going, is_left, is_needed, is_staying, merged, seen, target, wanted}
use Rattle.od_merge.specs.Steps.{IsProper, done, is_fetched, is_sent, needs_folder, steps_here, steps_there}
use Rattle.od_merge.proofs.Lists.{Path, from-self, from-through, is_in, same-path}
use Rattle.od_merge.proofs.Needs.{below-is-from, from-below, makes_needed}
use Rattle.od_merge.proofs.Doing.{in-all, kinds, none-of-list, none-of-tree}
use Rattle.od_merge.proofs.SideFacts.{goes}

-- the entry that stands at a path
some-same : (a b : Content) → Some a ≡ Some b → a ≡ b
some-same a b is = cc is

head-at : (q : Path) (entry : Path × Content) (tree : Tree) → is_path q entry.0 ≡ true → at (entry ∷ tree) q ≡ Some entry.1
head-at q entry tree is = rw is refl

rest-at : (q : Path) (entry : Path × Content) (tree : Tree) → is_path q entry.0 ≡ false → at (entry ∷ tree) q ≡ at tree q
rest-at q entry tree is = rw is refl

none-entry : (t : Bool) (test : Path → Content → Bool) (q : Path) (entry : Path × Content) (tree : Tree) (n : Content) → is_path q entry.0 ≡ t → test entry.0 entry.1 ≡ false
    → (at tree q ≡ Some n → test q n ≡ false) → at (entry ∷ tree) q ≡ Some n → test q n ≡ false
none-entry true test q entry tree n is here rest found =
    ap (λ (p : Path). test p n) (same-path q entry.0 is) ∙ (ap (λ (x : Content). test entry.0 x) (some-same n entry.1 (sym found ∙ head-at q entry tree is)) ∙ here)
none-entry false test q entry tree n is here rest found = rest (sym (rest-at q entry tree is) ∙ found)

none-node : (test : Path → Content → Bool) (q : Path) (n : Content) (tree : Tree) → list_any (λ (entry : Path × Content). test entry.0 entry.1) tree ≡ false → at tree q ≡ Some n → test q n ≡ false
none-node test q n [] none found = absurd (cc found)
none-node test q n (entry ∷ tree) none found =
    let parts = or_parts (test entry.0 entry.1) (list_any (λ (e : Path × Content). test e.0 e.1) tree) none in
    none-entry (is_path q entry.0) test q entry tree n refl parts.0 (none-node test q n tree parts.1) found

none-entries : (f g : Path × Content → Bool) (tree : Tree) → ((e : Path × Content) → f e ≡ true → g e ≡ true) → list_any g tree ≡ false → list_any f tree ≡ false
none-entries f g [] more none = refl
none-entries f g (entry ∷ tree) more none =
    let parts = or_parts (g entry) (list_any g tree) none in
    or_from (f entry) (list_any f tree) (false_from_ne_true (f entry) (λ is. true≢false (sym (more entry is) ∙ parts.0))) (none-entries f g tree more parts.1)

module _ (passes : Path → Bool → Bool) (side : Tree) (above : (top path : Path) → nat_lt 0 (length top) ≡ true → is_below top path ≡ true → is_some (at side path) ≡ true → at side top ≡ Some Folder) where
  -- what is below a path at which nothing is kept is not kept
  under-folder : (q o : Path) (x : Option Content) → is_from q o ≡ true → at side o ≡ x → list_any (λ (entry : Path × Content). is_from q entry.0 && entry_passes passes entry) side ≡ false → is_kept_node passes side o x ≡ false
  under-folder q o None from is none = refl
  under-folder q o (Some Folder) from is none =
      none-entries (λ entry. is_from o entry.0 && entry_passes passes entry) (λ entry. is_from q entry.0 && entry_passes passes entry) side
      (λ entry both. let parts = and_parts (is_from o entry.0) (entry_passes passes entry) both in and_from (is_from q entry.0) (entry_passes passes entry) (from-through q o entry.0 from parts.0) parts.1) none
  under-folder q o (Some (File d)) from is none =
      sym (ap (λ b. b && passes o false) from) ∙ none-node (λ p n. is_from q p && passes p (is_folder (Some n))) o (File d) side none is

  no-node : (o : Path) (x : Option Content) → is_some x ≡ false → is_kept_node passes side o x ≡ false
  no-node o None some = refl
  no-node o (Some x) some = absurd (true≢false some)

  nothing-kept : (q o : Path) (t : Bool) → nat_lt 0 (length q) ≡ true → is_below q o ≡ true → is_some (at side o) ≡ t → is_kept passes side q ≡ false → is_kept passes side o ≡ false
  nothing-kept q o false long below some none = no-node o (at side o) some
  nothing-kept q o true long below some none =
      let folder = above q o long below some in
      under-folder q o (at side o) (below-is-from q o below) refl (sym (ap (λ x. is_kept_node passes side q x) folder) ∙ none)

  -- a folder that passes is kept
  folder-kept : (o p : Path) → nat_lt 0 (length o) ≡ true → passes o true ≡ true → is_below o p ≡ true → is_some (at side p) ≡ true → is_kept passes side o ≡ true
  folder-kept o p long pass below some =
      let folder = above o p long below some in
      subst (λ (x : Option Content). is_kept_node passes side o x ≡ true) (sym folder)
      (true_from_ne_false (list_any (λ (entry : Path × Content). is_from o entry.0 && entry_passes passes entry) side)
      (λ none. true≢false (sym (and_from (is_from o o) (passes o true) (from-self o) pass) ∙ none-node (λ r n. is_from o r && passes r (is_folder (Some n))) o Folder side none folder)))

cond-nothing : (t u : Bool) (x : Option Content) → t ≡ false → cond (t && u) x None ≡ None
cond-nothing true u x is = absurd (true≢false is)
cond-nothing false u x is = refl

module _ (s : Sides) (proper : IsProper s) where
  none-below-kept : (q o : Path) → nat_lt 0 (length q) ≡ true → is_below q o ≡ true → is_kept_there s q ≡ false → is_kept_there s o ≡ false
  none-below-kept q o long below none =
      let parts = or_parts (is_kept s.passes s.local q) (is_kept s.passes s.remote q) none in
      or_from (is_kept s.passes s.local o) (is_kept s.passes s.remote o)
      (nothing-kept s.passes s.local proper.here q o (is_some (at s.local o)) long below refl parts.0)
      (nothing-kept s.passes s.remote proper.there q o (is_some (at s.remote o)) long below refl parts.1)

  none-from-kept : (t : Bool) (q o : Path) → nat_lt 0 (length q) ≡ true → is_from q o ≡ true → is_path q o ≡ t → is_kept_there s q ≡ false → is_kept_there s o ≡ false
  none-from-kept true q o long from is none = subst (λ (p : Path). is_kept_there s p ≡ false) (same-path q o is) none
  none-from-kept false q o long from is none = none-below-kept q o long (from-below q o from is) none

  skip-none : (side : Tree) → ((top path : Path) → nat_lt 0 (length top) ≡ true → is_below top path ≡ true → is_some (at side path) ≡ true → at side top ≡ Some Folder)
      → (o p : Path) → nat_lt 0 (length o) ≡ true → s.passes o true ≡ true → is_kept s.passes side o ≡ false → is_some (at side p) ≡ true → (is_below o p && is_skipped s.passes side p) ≡ false
  skip-none side above o p long pass none some = false_from_ne_true (is_below o p && is_skipped s.passes side p)
      (λ both.
      let below = (and_parts (is_below o p) (is_skipped s.passes side p) both).0 in
      true≢false (sym (folder-kept s.passes side above o p long pass below some) ∙ none))

  abbrev any-skipped : Path → Bool
  any-skipped o = list_any (λ (entry : Path × Content). is_below o entry.0 && is_skipped s.passes s.local entry.0) s.local || list_any (λ (entry : Path × Content). is_below o entry.0 && is_skipped s.passes s.remote entry.0) s.remote

  stay-none : (t : Bool) (o : Path) → nat_lt 0 (length o) ≡ true → s.passes o true ≡ t → is_kept_there s o ≡ false → is_staying s o ≡ false
  stay-none false o long pass none = and_left (s.passes o true && not (is_left s o)) (any-skipped o) (and_left (s.passes o true) (not (is_left s o)) pass)
  stay-none true o long pass none =
      let parts = or_parts (is_kept s.passes s.local o) (is_kept s.passes s.remote o) none in
      and_right (s.passes o true && not (is_left s o)) (any-skipped o)
      (or_from (list_any (λ (entry : Path × Content). is_below o entry.0 && is_skipped s.passes s.local entry.0) s.local) (list_any (λ (entry : Path × Content). is_below o entry.0 && is_skipped s.passes s.remote entry.0) s.remote)
      (none-of-tree (λ p. is_below o p && is_skipped s.passes s.local p) s.local (λ p some. skip-none s.local proper.here o p long pass parts.0 some))
      (none-of-tree (λ p. is_below o p && is_skipped s.passes s.remote p) s.remote (λ p some. skip-none s.remote proper.there o p long pass parts.1 some)))

  want-none : (o : Path) → is_kept_there s o ≡ false → wanted s o ≡ None
  want-none o none = cond-nothing (is_kept_there s o) (not (is_left s o)) (merged (s.base o) (seen s s.local o) (seen s s.remote o)) none

  long-from : (q o : Path) → nat_lt 0 (length q) ≡ true → is_from q o ≡ true → nat_lt 0 (length o) ≡ true
  long-from [] o long from = absurd (false≢true long)
  long-from (x ∷ q) [] long from = absurd (false≢true from)
  long-from (x ∷ q) (y ∷ o) long from = lt-ltb 0 (length (y ∷ o)) (omega arith)

  below-none : (t : Bool) (q o : Path) → nat_lt 0 (length q) ≡ true → is_kept_there s q ≡ false → is_below q o ≡ t → (t && is_some (wanted s o)) ≡ false
  below-none false q o long none below = refl
  below-none true q o long none below = ap (λ (x : Option Content). is_some x) (want-none o (none-below-kept q o long below none))

  from-none : (t : Bool) (q o : Path) → nat_lt 0 (length q) ≡ true → is_kept_there s q ≡ false → is_from q o ≡ t → (t && is_staying s o) ≡ false
  from-none false q o long none from = refl
  from-none true q o long none from = stay-none (s.passes o true) o (long-from q o long from) refl (none-from-kept (is_path q o) q o long from refl none)

  left-none : (t : Bool) (q top : Path) → nat_lt 0 (length q) ≡ true → is_kept_there s q ≡ false → is_in top s.left ≡ true → is_below q top ≡ t → t ≡ false
  left-none false q top long none has below = refl
  left-none true q top long none has below = absurd (true≢false (sym (proper.left_kept top has) ∙ none-below-kept q top long below none))

  pub no-target : (q : Path) → nat_lt 0 (length q) ≡ true → is_kept_there s q ≡ false → target s q ≡ None
  no-target q long none =
      let free : is_needed s q ≡ false = or_from (list_any (makes_needed s q) (both_paths s)) (list_any (λ top. is_below q top) s.left)
      (none-of-list (makes_needed s q) (both_paths s) (λ o has. or_from (is_below q o && is_some (wanted s o)) (is_from q o && is_staying s o) (below-none (is_below q o) q o long none refl) (from-none (is_from q o) q o long none refl)))
      (none-of-list (λ top. is_below q top) s.left (λ top has. left-none (is_below q top) q top long none has refl)) in
      rw free (want-none q none)

  not-going : (side : Tree) (q : Path) → is_kept s.passes side q ≡ false → is_going s side q ≡ false
  not-going side q none = false_from_ne_true (is_going s side q) (λ going. true≢false (sym (goes s side q going).0 ∙ none))

  pub untouched-here : (q : Path) → nat_lt 0 (length q) ≡ true → is_kept_there s q ≡ false → is_in q (both_paths s) ≡ true → done (steps_here s) q (at s.local q) ≡ at s.local q
  untouched-here q long none has =
      kinds (is_going s s.local) (needs_folder s s.local) (is_fetched s) (target s) q (all_paths s) (at s.local q) (in-all s q has)
      ∙ (ap (λ t. cond (is_file t && same t (at s.remote q) && not (same t (at s.local q))) t (cond (is_folder t && not (is_folder (at s.local q))) (Some Folder) (cond (is_going s s.local q) None (at s.local q)))) (no-target q long none)
      ∙ ap (λ b. cond b None (at s.local q)) (not-going s.local q (or_parts (is_kept s.passes s.local q) (is_kept s.passes s.remote q) none).0))

  pub untouched-there : (is_held : Path → Bool) (q : Path) → nat_lt 0 (length q) ≡ true → is_kept_there s q ≡ false → is_in q (both_paths s) ≡ true → done (steps_there is_held s) q (at s.remote q) ≡ at s.remote q
  untouched-there is_held q long none has =
      kinds (is_going s s.remote) (λ path. needs_folder s s.remote path && not (is_held path)) (λ path. is_sent s path && not (is_held path)) (target s) q (all_paths s) (at s.remote q) (in-all s q has)
      ∙ (ap (λ t. cond (is_file t && not (same t (at s.remote q)) && not (is_held q)) t (cond (is_folder t && not (is_folder (at s.remote q)) && not (is_held q)) (Some Folder) (cond (is_going s s.remote q) None (at s.remote q)))) (no-target q long none)
      ∙ ap (λ b. cond b None (at s.remote q)) (not-going s.remote q (or_parts (is_kept s.passes s.local q) (is_kept s.passes s.remote q) none).1))
