-- Doing the steps makes each side what is to stand on it, path by path.
use Rattle.std.proofs.Common.{◌≡◌, ◌⊎◌, inl, inr, Bool, true, false, not, ◌&&◌, ◌||◌, cond, is_some, List, [], ◌∷◌, ◌++◌, Option, Some, None, refl, ap, sym, subst, ◌∙◌}
use Rattle.std.proofs.lemmas.Bool.{true≢false, false≢true, and_from, and_left, and_right, or_from, or_right, cond-false, cond-true, not-false, true_from_ne_false}
use Rattle.std.specs.List.{list_any}
use Rattle.gd_item.specs.declared.digest.Digest.{Digest}
use Rattle.od_merge.specs.declared.content.Content.{Content}
use Rattle.od_merge.specs.declared.content.Content.TheVariants.{Folder, File}
use Rattle.od_merge.specs.Sides.{Sides, at, same, is_path, is_from, is_below, is_folder, is_file, is_other_kind, is_kept, is_skipped, is_kept_there, paths_of}
use Rattle.od_merge.specs.Merging.{all_paths, both_paths, is_going, is_left, is_needed, is_staying, merged, seen, target, wanted}
use Rattle.od_merge.specs.Steps.{Fits, IsClear, deepest_first, done, is_fetched, is_sent, needs_folder, stands, steps_at, steps_here, steps_there}
use Rattle.od_merge.proofs.Cases.{Going, made, same-nodes}
use Rattle.od_merge.proofs.Lists.{text-self, Path, is_in, at-in, deepest-in, from-self, path-self, in-joined, in-order}
use Rattle.od_merge.proofs.Needs.{below-from, below-is-from, file-from, file-needs, makes_needed, seen-file, wanted-is, no-wanted}
use Rattle.od_merge.proofs.Phases.{chosen, done-then}
use Rattle.od_merge.proofs.SideFacts.{IsAsBase, file-beside, file-goes, file-of, folder-beside, goes, here-file-kept, here-folder-goes, is-folder, either}

-- ---- what was not changed makes way for what the drive has
pub seen-kept : (s : Sides) (side : List (Path × Content)) (q : Path) → is_kept s.passes side q ≡ true → seen s side q ≡ at side q
seen-kept s side q kept = cond-false (is_other_kind (at s.local q) (at s.remote q) && not (is_kept s.passes side q)) None (at side q) (and_right (is_other_kind (at s.local q) (at s.remote q)) (not (is_kept s.passes side q)) (ap (λ b. not b) kept))

merged-base : (b x y : Option Content) → same x b ≡ true → merged b x y ≡ y
merged-base b x y is = rw is refl

pub as-drive : (s : Sides) (q : Path) → IsAsBase s q → merged (s.base q) (seen s s.local q) (seen s s.remote q) ≡ seen s s.remote q
as-drive s q is = merged-base (s.base q) (seen s s.local q) (seen s s.remote q) (ap (λ x. same x (s.base q)) (seen-kept s s.local q is.kept) ∙ is.same_base)

pub cond-none : {X : Type 0} (t : Bool) (x : Option X) → x ≡ None → cond t x None ≡ None
cond-none true x is = is
cond-none false x is = refl

wanted-none : (s : Sides) (q : Path) → IsAsBase s q → seen s s.remote q ≡ None → wanted s q ≡ None
wanted-none s q is none = cond-none (is_kept_there s q && not (is_left s q)) (merged (s.base q) (seen s s.local q) (seen s s.remote q)) (as-drive s q is ∙ none)

-- ---- the drive's side
never-file : (s : Sides) (q : Path) (d : Option Digest) → IsClear s q → at s.local q ≡ Some (File d) → at s.remote q ≡ Some Folder → is_file (target s q) ≡ true → ⊥
never-file s q d clear here there file =
    let as_base = file-beside s q d here there clear.kept clear.no_conflict in
    let is : target s q ≡ seen s s.remote q = (file-needs s q file).1 ∙ (wanted-is s q clear.kept clear.not_left ∙ as-drive s q as_base) in
    let drive = seen-file s s.remote q (target s q) is file in
    false≢true (sym (ap (λ x. is_file x) (drive ∙ there)) ∙ file)

there-folder-goes-by : (s : Sides) (q : Path) → IsClear s q → at s.remote q ≡ Some Folder → is_file (target s q) ≡ true → (target s q ≡ at s.local q) ⊎ (target s q ≡ at s.remote q) → ⊥
there-folder-goes-by s q clear there file (inl is) = let here = file-of (at s.local q) (sym (ap (λ x. is_file x) is) ∙ file) in never-file s q here.0 clear here.1 there file
there-folder-goes-by s q clear there file (inr is) = false≢true (sym (ap (λ x. is_file x) (is ∙ there)) ∙ file)

pub there-folder-goes : (s : Sides) (q : Path) → IsClear s q → is_folder (at s.remote q) ≡ true → is_file (target s q) ≡ true → ⊥
there-folder-goes s q clear folder file = there-folder-goes-by s q clear (is-folder (at s.remote q) folder) file (file-from s q clear.kept clear.not_left file)

-- a skipped file of the drive beside a local folder: nothing is to stand there
pub none-of-list : (test : Path → Bool) (paths : List Path) → ((o : Path) → is_in o paths ≡ true → test o ≡ false) → list_any test paths ≡ false
none-of-list test [] each = refl
none-of-list test (p ∷ paths) each =
    or_from (test p) (list_any test paths) (each p (ap (λ b. b || is_in p paths) (path-self p)))
    (none-of-list test paths (λ o has. each o (or_right (is_path o p) (is_in o paths) has)))

none-of-entries : (test : Path → Bool) (tree : List (Path × Content)) → ((o : Path) → is_in o (paths_of tree) ≡ true → test o ≡ false) → list_any (λ (entry : Path × Content). test entry.0) tree ≡ false
none-of-entries test [] each = refl
none-of-entries test (entry ∷ tree) each =
    or_from (test entry.0) (list_any (λ (e : Path × Content). test e.0) tree) (each entry.0 (ap (λ b. b || is_in entry.0 (paths_of tree)) (path-self entry.0)))
    (none-of-entries test tree (λ o has. each o (or_right (is_path o entry.0) (is_in o (paths_of tree)) has)))

pub none-of-tree : (test : Path → Bool) (tree : List (Path × Content)) → ((o : Path) → is_some (at tree o) ≡ true → test o ≡ false) → list_any (λ (entry : Path × Content). test entry.0) tree ≡ false
none-of-tree test tree each = none-of-entries test tree (λ o has. each o (at-in o tree ∙ has))

cond-of-none : (t : Bool) (x : Option Content) → x ≡ None → cond t None x ≡ None
cond-of-none true x is = refl
cond-of-none false x is = is

-- below such a path each local entry is as the base, and the drive has none
module _ (s : Sides) (fits : Fits s) (q : Path) (file : is_file (at s.remote q) ≡ true) (as_base : (p : Path) → is_from q p ≡ true → is_some (at s.local p) ≡ true → IsAsBase s p) where
  drive-none : (p : Path) → is_below q p ≡ true → at s.remote p ≡ None
  drive-none p below = no-wanted (at s.remote p) (fits.files q p file below)

  some-here : (p : Path) → is_below q p ≡ true → is_in p (both_paths s) ≡ true → is_some (at s.local p) ≡ true
  some-here p below has =
      at-in p s.local ∙ either (is_in p (paths_of s.local)) (is_in p (paths_of s.remote)) (sym (in-joined p (paths_of s.local) (paths_of s.remote)) ∙ has)
      (sym (at-in p s.remote) ∙ fits.files q p file below)

  no-want : (p : Path) → is_below q p ≡ true → is_in p (both_paths s) ≡ true → wanted s p ≡ None
  no-want p below has =
      wanted-none s p (as_base p (below-is-from q p below) (some-here p below has))
      (cond-of-none (is_other_kind (at s.local p) (at s.remote p) && not (is_kept s.passes s.remote p)) (at s.remote p) (drive-none p below))

  skip-here : (o p : Path) (t : Bool) → is_from q o ≡ true → is_below o p ≡ t → is_some (at s.local p) ≡ true → (t && is_skipped s.passes s.local p) ≡ false
  skip-here o p false from below some = refl
  skip-here o p true from below some =
      and_right (is_some (at s.local p)) (not (is_kept s.passes s.local p)) (ap (λ b. not b) (as_base p (below-is-from q p (below-from q o p from below)) some).kept)

  skip-there : (o p : Path) (t : Bool) → is_from q o ≡ true → is_below o p ≡ t → (t && is_skipped s.passes s.remote p) ≡ false
  skip-there o p false from below = refl
  skip-there o p true from below = and_left (is_some (at s.remote p)) (not (is_kept s.passes s.remote p)) (fits.files q p file (below-from q o p from below))

  no-stay : (o : Path) → is_from q o ≡ true → is_staying s o ≡ false
  no-stay o from =
      and_right (s.passes o true && not (is_left s o))
      (list_any (λ (entry : Path × Content). is_below o entry.0 && is_skipped s.passes s.local entry.0) s.local || list_any (λ (entry : Path × Content). is_below o entry.0 && is_skipped s.passes s.remote entry.0) s.remote)
      (or_from (list_any (λ (entry : Path × Content). is_below o entry.0 && is_skipped s.passes s.local entry.0) s.local)
      (list_any (λ (entry : Path × Content). is_below o entry.0 && is_skipped s.passes s.remote entry.0) s.remote)
      (none-of-tree (λ p. is_below o p && is_skipped s.passes s.local p) s.local (λ p some. skip-here o p (is_below o p) from refl some))
      (none-of-tree (λ p. is_below o p && is_skipped s.passes s.remote p) s.remote (λ p some. skip-there o p (is_below o p) from refl)))

  want-at : (o : Path) (t : Bool) → is_below q o ≡ t → is_in o (both_paths s) ≡ true → (t && is_some (wanted s o)) ≡ false
  want-at o false below has = refl
  want-at o true below has = ap (λ (x : Option Content). is_some x) (no-want o below has)

  stay-at : (o : Path) (t : Bool) → is_from q o ≡ t → (t && is_staying s o) ≡ false
  stay-at o false from = refl
  stay-at o true from = no-stay o from

  left-at : (top : Path) (t : Bool) → is_below q top ≡ t → is_in top s.left ≡ true → t ≡ false
  left-at top false below has = refl
  left-at top true below has = absurd (true≢false (sym (fits.left_there top has) ∙ fits.files q top file below))

  pub not-needed : is_needed s q ≡ false
  not-needed =
      or_from (list_any (makes_needed s q) (both_paths s)) (list_any (λ top. is_below q top) s.left)
      (none-of-list (makes_needed s q) (both_paths s) (λ o has. or_from (is_below q o && is_some (wanted s o)) (is_from q o && is_staying s o) (want-at o (is_below q o) refl has) (stay-at o (is_from q o) refl)))
      (none-of-list (λ top. is_below q top) s.left (λ top has. left-at top (is_below q top) refl has))

other-kind : (passes : Bool) → passes ≡ false → not passes ≡ true
other-kind true is = absurd (true≢false is)
other-kind false is = refl

nothing-there : (s : Sides) (fits : Fits s) (q : Path) (d : Option Digest) → IsClear s q → at s.local q ≡ Some Folder → at s.remote q ≡ Some (File d) → is_kept s.passes s.remote q ≡ false → target s q ≡ None
nothing-there s fits q d clear here there skipped =
    let file : is_file (at s.remote q) ≡ true = ap (λ x. is_file x) there in
    let base = folder-beside s q d here there clear.kept clear.no_conflict in
    let free = not-needed s fits q file base in
    let other : (is_other_kind (at s.local q) (at s.remote q) && not (is_kept s.passes s.remote q)) ≡ true = rw (here, there) (other-kind (s.passes q false) (sym (rw there refl) ∙ skipped)) in
    rw free (wanted-none s q (base q (from-self q) (ap (λ (x : Option Content). is_some x) here)) (cond-true (is_other_kind (at s.local q) (at s.remote q) && not (is_kept s.passes s.remote q)) None (at s.remote q) other))

there-file-by : (s : Sides) (fits : Fits s) (q : Path) (x y : Option Content) → at s.local q ≡ x → at s.remote q ≡ y → IsClear s q → is_file y ≡ true → is_kept s.passes s.remote q ≡ false → target s q ≡ None
there-file-by s fits q x None here there clear file skipped = absurd (false≢true file)
there-file-by s fits q x (Some Folder) here there clear file skipped = absurd (false≢true file)
there-file-by s fits q None (Some (File e)) here there clear file skipped = absurd (false≢true (sym (or_from (is_kept s.passes s.local q) (is_kept s.passes s.remote q) (rw here refl) skipped) ∙ clear.kept))
there-file-by s fits q (Some (File d)) (Some (File e)) here there clear file skipped =
    let passes_here : is_kept s.passes s.local q ≡ s.passes q false = rw here refl in
    let passes_there : is_kept s.passes s.remote q ≡ s.passes q false = rw there refl in
    absurd (false≢true (sym (or_from (is_kept s.passes s.local q) (is_kept s.passes s.remote q) (passes_here ∙ (sym passes_there ∙ skipped)) skipped) ∙ clear.kept))
there-file-by s fits q (Some Folder) (Some (File e)) here there clear file skipped = nothing-there s fits q e clear here there skipped

pub there-file-kept : (s : Sides) (fits : Fits s) (q : Path) → IsClear s q → is_file (at s.remote q) ≡ true → is_some (target s q) ≡ true → is_kept s.passes s.remote q ≡ true
there-file-kept s fits q clear file some =
    true_from_ne_false (is_kept s.passes s.remote q)
    (λ skipped. false≢true (sym (ap (λ (x : Option Content). is_some x) (there-file-by s fits q (at s.local q) (at s.remote q) refl refl clear file skipped)) ∙ some))

-- ---- what is known of a path on each side
going-here : (s : Sides) (q : Path) → IsClear s q → Going (at s.local q) (target s q) (is_kept s.passes s.local q) (is_going s s.local q)
going-here s q clear = record {
  goes = goes s s.local q;
  file_goes = file-goes s s.local q clear.not_left;
  file_kept = λ file some. here-file-kept s q clear file;
  folder_goes = here-folder-goes s q clear;
}

going-there : (s : Sides) → Fits s → (q : Path) → IsClear s q → Going (at s.remote q) (target s q) (is_kept s.passes s.remote q) (is_going s s.remote q)
going-there s fits q clear = record {
  goes = goes s s.remote q;
  file_goes = file-goes s s.remote q clear.not_left;
  file_kept = there-file-kept s fits q clear;
  folder_goes = λ folder file. absurd (there-folder-goes s q clear folder file);
}

-- ---- the three kinds of step one after the other
pub in-all : (s : Sides) (q : Path) → is_in q (both_paths s) ≡ true → is_in q (all_paths s) ≡ true
in-all s q has = in-order q (both_paths s) ∙ has

and-one : (b : Bool) → (b && true) ≡ b
and-one true = refl
and-one false = refl

kind : (test : Path → Bool) (leaves : Path → Option Content) (q : Path) (paths : List Path) (there : Option Content) → is_in q paths ≡ true → done (steps_at test leaves paths) q there ≡ cond (test q) (leaves q) there
kind test leaves q paths there has = chosen test leaves q paths there ∙ ap (λ b. cond b (leaves q) there) (ap (λ b. test q && b) has ∙ and-one (test q))

pub kinds : (gone folder put : Path → Bool) (leaves : Path → Option Content) (q : Path) (paths : List Path) (there : Option Content) → is_in q paths ≡ true
    → done (steps_at gone (λ path. None) (deepest_first paths) ++ (steps_at folder (λ path. Some Folder) paths ++ steps_at put leaves paths)) q there
    ≡ cond (put q) (leaves q) (cond (folder q) (Some Folder) (cond (gone q) None there))
kinds gone folder put leaves q paths there has =
    done-then (steps_at gone (λ path. None) (deepest_first paths)) (steps_at folder (λ path. Some Folder) paths ++ steps_at put leaves paths) q there
    ∙ (done-then (steps_at folder (λ path. Some Folder) paths) (steps_at put leaves paths) q (done (steps_at gone (λ path. None) (deepest_first paths)) q there)
    ∙ (kind put leaves q paths (done (steps_at folder (λ path. Some Folder) paths) q (done (steps_at gone (λ path. None) (deepest_first paths)) q there)) has
    ∙ ap (λ x. cond (put q) (leaves q) x)
    (kind folder (λ path. Some Folder) q paths (done (steps_at gone (λ path. None) (deepest_first paths)) q there) has
    ∙ ap (λ x. cond (folder q) (Some Folder) x) (kind gone (λ path. None) q (deepest_first paths) there (deepest-in q paths ∙ has)))))

-- a clear path that is on a side is what is to stand there
pub known-same : (t r : Option Content) → is_file t ≡ true → t ≡ r → (r ≡ Some (File None) → ⊥) → same t r ≡ true
known-same None r file is known = absurd (false≢true file)
known-same (Some Folder) r file is known = absurd (false≢true file)
known-same (Some (File None)) r file is known = absurd (known (sym is))
known-same (Some (File (Some d))) r file is known = subst (λ (x : Option Content). same (Some (File (Some d))) x ≡ true) is (text-self d.0)

fetched-by : (s : Sides) → Fits s → (q : Path) → is_file (target s q) ≡ true → is_fetched s q ≡ false → (target s q ≡ at s.local q) ⊎ (target s q ≡ at s.remote q) → target s q ≡ at s.local q
fetched-by s fits q file not_fetched (inl is) = is
fetched-by s fits q file not_fetched (inr is) =
    let both = known-same (target s q) (at s.remote q) file is (fits.known q) in
    same-nodes (target s q) (at s.local q) (not-false (same (target s q) (at s.local q))
    (sym (ap (λ b. b && not (same (target s q) (at s.local q))) (and_from (is_file (target s q)) (same (target s q) (at s.remote q)) file both)) ∙ not_fetched))

fetched-or-there : (s : Sides) → Fits s → (q : Path) → IsClear s q → is_file (target s q) ≡ true → is_fetched s q ≡ false → target s q ≡ at s.local q
fetched-or-there s fits q clear file not_fetched = fetched-by s fits q file not_fetched (file-from s q clear.kept clear.not_left file)

pub done-here : (s : Sides) → Fits s → (q : Path) → IsClear s q → is_in q (both_paths s) ≡ true → done (steps_here s) q (at s.local q) ≡ stands s s.local q
done-here s fits q clear has =
    kinds (is_going s s.local) (needs_folder s s.local) (is_fetched s) (target s) q (all_paths s) (at s.local q) (in-all s q has)
    ∙ made (at s.local q) (target s q) (is_kept s.passes s.local q) (is_going s s.local q) (is_fetched s q) (going-here s q clear)
    (λ no_file. ap (λ b. b && same (target s q) (at s.remote q) && not (same (target s q) (at s.local q))) no_file)
    (fetched-or-there s fits q clear)

sent-or-there : (s : Sides) (q : Path) → is_file (target s q) ≡ true → is_sent s q ≡ false → target s q ≡ at s.remote q
sent-or-there s q file not_sent = same-nodes (target s q) (at s.remote q) (not-false (same (target s q) (at s.remote q)) (sym (ap (λ b. b && not (same (target s q) (at s.remote q))) file) ∙ not_sent))

pub done-there : (s : Sides) → Fits s → (is_held : Path → Bool) (q : Path) → IsClear s q → is_held q ≡ false → is_in q (both_paths s) ≡ true
    → done (steps_there is_held s) q (at s.remote q) ≡ stands s s.remote q
done-there s fits is_held q clear free has =
    kinds (is_going s s.remote) (λ path. needs_folder s s.remote path && not (is_held path)) (λ path. is_sent s path && not (is_held path)) (target s) q (all_paths s) (at s.remote q) (in-all s q has)
    ∙ (ap (λ b. cond (is_sent s q && not b) (target s q) (cond (needs_folder s s.remote q && not b) (Some Folder) (cond (is_going s s.remote q) None (at s.remote q)))) free
    ∙ (ap (λ b. cond b (target s q) (cond (needs_folder s s.remote q && true) (Some Folder) (cond (is_going s s.remote q) None (at s.remote q)))) (and-one (is_sent s q))
    ∙ (ap (λ b. cond (is_sent s q) (target s q) (cond b (Some Folder) (cond (is_going s s.remote q) None (at s.remote q)))) (and-one (needs_folder s s.remote q))
    ∙ made (at s.remote q) (target s q) (is_kept s.passes s.remote q) (is_going s s.remote q) (is_sent s q) (going-there s fits q clear)
    (λ no_file. ap (λ b. b && not (same (target s q) (at s.remote q))) no_file)
    (sent-or-there s q))))
