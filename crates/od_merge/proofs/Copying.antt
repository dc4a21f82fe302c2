-- The renames that are made are of conflicts, to free paths beside them, and of all conflicts but those that are left.
use Rattle.std.proofs.Common.{◌≡◌, ◌⊎◌, inl, inr, Bool, true, false, ◌||◌, cond, is_none, is_some, List, [], ◌∷◌, ◌++◌, map, filter, Option, Some, None, refl, ap, sym, subst, ◌∙◌}
use Rattle.std.proofs.lemmas.Bool.{true≢false, false≢true, or_parts, or_from, or_left, or_right, false_from_ne_true}
use Rattle.std.specs.List.{list_any, filter_map}
use Rattle.std.specs.Option.{option_map}
use Rattle.od_merge.specs.declared.content.Content.{Content}
use Rattle.od_merge.specs.Sides.{Sides, at, is_from, is_kept_there, is_path, paths_of}
use Rattle.od_merge.specs.Merging.{and_taken, both_paths, conflicts, copied, is_conflict, is_conflict_of, is_left, renamed, renames, without_copy}
use Rattle.od_merge.specs.Steps.{AreCopies, Fits, IsClear, IsCopying, IsDriveTree, IsMerged}
use Rattle.od_merge.proofs.Lists.{Path, at-in, from-self, in-joined, is_in, path-self, same-path}
use Rattle.od_merge.proofs.Renames.{conflict-there, none-new}
use Rattle.od_merge.proofs.Doing.{done-here, done-there}

abbrev pub moves_of : List (Path × Option Path) → List (Path × Path)
moves_of those = filter_map (λ (c : Path × Option Path). option_map (λ to. (c.0, to)) c.1) those

abbrev pub left_of : List (Path × Option Path) → List Path
left_of those = map (λ (c : Path × Option Path). c.0) (filter (λ (c : Path × Option Path). is_none c.1) those)

module _ (copy : List Path → Path → Option Path) (copying : IsCopying copy) (s : Sides) where
  free : (taken : List Path) (to : Path) → ((path : Path) → is_some (at s.remote path) ≡ true → is_in path taken ≡ true) → is_in to taken ≡ false → is_some (at s.remote to) ≡ false
  free taken to all not_taken = false_from_ne_true (is_some (at s.remote to)) (λ some. true≢false (sym (all to some) ∙ not_taken))

  copies-at : (x : Option Path) (taken paths : List Path) (path : Path) → copy taken path ≡ x → is_conflict s path ≡ true → ((p : Path) → is_some (at s.remote p) ≡ true → is_in p taken ≡ true)
      → AreCopies s (moves_of (copied copy (and_taken x taken) paths)) → AreCopies s (moves_of ((path, x) ∷ copied copy (and_taken x taken) paths))
  copies-at None taken paths path is conflict all rest = rest
  copies-at (Some to) taken paths path is conflict all rest =
      let made = copying taken path to is in
      (record { conflict = conflict; free = free taken to all made.0; beside = made.1 }, rest)

  taken-more : (x : Option Path) (taken : List Path) → ((p : Path) → is_some (at s.remote p) ≡ true → is_in p taken ≡ true) → (p : Path) → is_some (at s.remote p) ≡ true → is_in p (and_taken x taken) ≡ true
  taken-more None taken all p some = all p some
  taken-more (Some to) taken all p some = in-joined p taken (to ∷ []) ∙ or_left (is_in p taken) (is_in p (to ∷ [])) (all p some)

  pub are-copies : (taken paths : List Path) → ((p : Path) → is_some (at s.remote p) ≡ true → is_in p taken ≡ true) → ((p : Path) → is_in p paths ≡ true → is_conflict s p ≡ true) → AreCopies s (moves_of (copied copy taken paths))
  are-copies taken [] all each = tt
  are-copies taken (path ∷ paths) all each =
      copies-at (copy taken path) taken paths path refl (each path (or_left (is_path path path) (is_in path paths) (path-self path))) all
      (are-copies (and_taken (copy taken path) taken) paths (taken-more (copy taken path) taken all) (λ p has. each p (or_right (is_path p path) (is_in p paths) has)))

  covered-at : (x : Option Path) (t : Bool) (q path : Path) (those : List (Path × Option Path)) → is_path q path ≡ t
      → (t ≡ false → is_in q (left_of those) ≡ false → list_any (λ r. is_from r.0 q) (moves_of those) ≡ true)
      → is_in q (left_of ((path, x) ∷ those)) ≡ false → list_any (λ r. is_from r.0 q) (moves_of ((path, x) ∷ those)) ≡ true
  covered-at None true q path those is rest left = absurd (true≢false (sym (or_left (is_path q path) (is_in q (left_of those)) is) ∙ left))
  covered-at None false q path those is rest left = rest refl (or_parts (is_path q path) (is_in q (left_of those)) left).1
  covered-at (Some to) true q path those is rest left =
      or_left (is_from path q) (list_any (λ r. is_from r.0 q) (moves_of those)) (subst (λ (p : Path). is_from p q ≡ true) (same-path q path is) (from-self q))
  covered-at (Some to) false q path those is rest left = or_right (is_from path q) (list_any (λ r. is_from r.0 q) (moves_of those)) (rest refl left)

  covered : (taken paths : List Path) (q : Path) → is_in q paths ≡ true → is_in q (left_of (copied copy taken paths)) ≡ false → list_any (λ r. is_from r.0 q) (moves_of (copied copy taken paths)) ≡ true
  covered taken [] q has left = absurd (false≢true has)
  covered taken (path ∷ paths) q has left =
      covered-at (copy taken path) (is_path q path) q path (copied copy (and_taken (copy taken path) taken) paths) refl
      (λ other more. covered (and_taken (copy taken path) taken) paths q (sym (ap (λ b. b || is_in q paths) other) ∙ has) more) left

by-head : (t : Bool) (test : Path → Bool) (q p : Path) (rest : List Path) → is_path q p ≡ t → test p ≡ true → (t || is_in q rest) ≡ true → (is_in q rest ≡ true → test q ≡ true) → test q ≡ true
by-head true test q p rest same is has more = subst (λ (x : Path). test x ≡ true) (sym (same-path q p same)) is
by-head false test q p rest same is has more = more has

filter-has : (t : Bool) (test : Path → Bool) (q p : Path) (rest : List Path) → test p ≡ t → is_in q (cond t (p ∷ rest) rest) ≡ true → (is_in q rest ≡ true → test q ≡ true) → test q ≡ true
filter-has true test q p rest is has more = by-head (is_path q p) test q p rest refl is has more
filter-has false test q p rest is has more = more has

pub filtered : (test : Path → Bool) (q : Path) (paths : List Path) → is_in q (filter test paths) ≡ true → test q ≡ true
filtered test q [] has = absurd (false≢true has)
filtered test q (p ∷ paths) has = filter-has (test p) test q p (filter test paths) refl has (filtered test q paths)

which : {A : Type 0} {b : Bool} (t : Bool) → (b ≡ true → A) → (t || b) ≡ true → A ⊎ (t ≡ true)
which true more has = inr refl
which false more has = inl (more has)

keeps-at : (t u : Bool) (q p : Path) (rest : List Path) → is_path q p ≡ u → (u ≡ true → t ≡ true) → (is_in q rest ≡ true ⊎ (u ≡ true)) → is_in q (cond t (p ∷ rest) rest) ≡ true
keeps-at true u q p rest is test (inl has) = or_right (is_path q p) (is_in q rest) has
keeps-at true u q p rest is test (inr same) = or_left (is_path q p) (is_in q rest) (is ∙ same)
keeps-at false u q p rest is test (inl has) = has
keeps-at false u q p rest is test (inr same) = absurd (false≢true (test same))

keeps : (test : Path → Bool) (q : Path) (paths : List Path) → test q ≡ true → is_in q paths ≡ true → is_in q (filter test paths) ≡ true
keeps test q [] is has = absurd (false≢true has)
keeps test q (p ∷ paths) is has =
    keeps-at (test p) (is_path q p) q p (filter test paths) refl (λ same. subst (λ (x : Path). test x ≡ true) (same-path q p same) is) (which (is_path q p) (λ more. keeps test q paths is more) has)

pub here-some : (s : Sides) (q : Path) (x y : Option Content) → is_conflict_of s q x y ≡ true → is_some x ≡ true
here-some s q None y is = absurd (false≢true is)
here-some s q (Some x) y is = refl

not-left-in : (q : Path) (tops : List Path) → list_any (λ top. is_from top q) tops ≡ false → is_in q tops ≡ false
not-left-in q [] none = refl
not-left-in q (top ∷ tops) none =
    let parts = or_parts (is_from top q) (list_any (λ t. is_from t q) tops) none in
    or_from (is_path q top) (is_in q tops) (false_from_ne_true (is_path q top) (λ same. true≢false (sym (subst (λ (p : Path). is_from p q ≡ true) (same-path q top same) (from-self q)) ∙ parts.0))) (not-left-in q tops parts.1)

pub no-conflict : (s : Sides) → IsDriveTree s.remote → (copy : List Path → Path → Option Path) → IsCopying copy → (q : Path) → is_left (renamed copy s) q ≡ false → is_conflict (renamed copy s) q ≡ false
no-conflict s drive copy copying q not_left =
    let taken = paths_of s.local ++ paths_of s.remote in
    none-new s drive.root drive.closed drive.files (renames copy s) q
    (are-copies copy copying s taken (conflicts s)
    (λ p some. in-joined p (paths_of s.local) (paths_of s.remote) ∙ or_right (is_in p (paths_of s.local)) (is_in p (paths_of s.remote)) (sym (at-in p s.remote) ∙ some))
    (λ p has. filtered (is_conflict s) p (paths_of s.local) has))
    (λ conflict. covered copy copying s taken (conflicts s) q
    (keeps (is_conflict s) q (paths_of s.local) conflict (sym (at-in q s.local) ∙ here-some s q (at s.local q) (at s.remote q) conflict))
    (not-left-in q (without_copy copy s) not_left))

or-on : (a b c : Bool) → (b ≡ true → c ≡ true) → (a || b) ≡ true → (a || c) ≡ true
or-on true b c on is = refl
or-on false b c on is = on is

left-at : (x : Option Path) (q path : Path) (those : List (Path × Option Path)) (paths : List Path) → (is_in q (left_of those) ≡ true → is_in q paths ≡ true)
    → is_in q (left_of ((path, x) ∷ those)) ≡ true → (is_path q path || is_in q paths) ≡ true
left-at (Some to) q path those paths rest has = or_right (is_path q path) (is_in q paths) (rest has)
left-at None q path those paths rest has = or-on (is_path q path) (is_in q (left_of those)) (is_in q paths) rest has

pub left-in : (copy : List Path → Path → Option Path) (q : Path) (taken paths : List Path) → is_in q (left_of (copied copy taken paths)) ≡ true → is_in q paths ≡ true
left-in copy q taken [] has = absurd (false≢true has)
left-in copy q taken (path ∷ paths) has =
    left-at (copy taken path) q path (copied copy (and_taken (copy taken path) taken) paths) paths (left-in copy q (and_taken (copy taken path) taken) paths) has

pub merged : (s : Sides) → IsDriveTree s.remote → (copy : List Path → Path → Option Path) → IsCopying copy → (is_held : Path → Bool) → (q : Path) → is_kept_there (renamed copy s) q ≡ true
    → is_left (renamed copy s) q ≡ false → is_in q (both_paths (renamed copy s)) ≡ true → IsMerged is_held (renamed copy s) q
merged s drive copy copying is_held q kept not_left has =
    let fits : Fits (renamed copy s) = record {
      known = drive.known;
      files = drive.files;
      left_there = λ top left. conflict-there s top (at s.local top) (at s.remote top) (filtered (is_conflict s) top (paths_of s.local) (left-in copy top (paths_of s.local ++ paths_of s.remote) (conflicts s) left));
    } in
    let clear : IsClear (renamed copy s) q = record { kept = kept; not_left = not_left; no_conflict = no-conflict s drive copy copying q not_left } in
    record {
      here = done-here (renamed copy s) fits q clear has;
      there = λ free. done-there (renamed copy s) fits is_held q clear free has;
    }
