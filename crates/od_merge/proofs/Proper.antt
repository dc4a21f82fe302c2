-- After the renames both sides are still trees, and the conflicts that are left are kept, none below another one.
use Rattle.std.proofs.Common.{◌≡◌, ◌⊎◌, inl, inr, ℕ, Bool, true, false, not, ◌&&◌, ◌||◌, cond, is_none, is_some, nat_eq, List, [], ◌∷◌, ◌++◌, length, length-append, nat_lt, arith, drop, filter, find, Option, Some, None, refl, ap, sym, subst, ◌∙◌}
use Rattle.std.proofs.lemmas.Bool.{true≢false, false≢true, and_parts, and_from, or_parts, or_from, or_left, or_right, false_from_ne_true, ltb-true, lt-ltb}
use Rattle.std.specs.Cmp.Lexicographic.{pointwise, same_text}
use Rattle.std.specs.List.{list_any}
use Rattle.gd_item.specs.declared.digest.Digest.{Digest}
use Rattle.od_merge.specs.declared.content.Content.{Content}
use Rattle.od_merge.specs.declared.content.Content.TheVariants.{Folder, File}
use Rattle.od_merge.specs.Sides.{Sides, Tree, at, is_below, is_file, is_from, is_kept, is_kept_there, is_path, paths_of, same}
use Rattle.od_merge.specs.Merging.{and_taken, conflicts, is_changed, is_changed_or_skipped, copied, is_conflict, is_conflict_of, is_left, moved, renamed, renamed_tree, renames, without_copy}
use Rattle.od_merge.specs.Steps.{AreCopies, AreRenamed, AreTrees, Fits, IsCopy, IsCopying, IsDriveTree, IsProper}
use Rattle.od_merge.proofs.Lists.{Path, at-in, from-self, from-through, in-joined, is_in, path-self, same-path, text-self}
use Rattle.od_merge.proofs.Needs.{below-from, below-is-from, from-below, no-wanted}
use Rattle.od_merge.proofs.SideFacts.{prefixes}
use Rattle.od_merge.proofs.Renames.{conflict-there, from-front, is_near, kept-renamed}
use Rattle.od_merge.proofs.Copying.{are-copies, filtered, left-in, left_of, moves_of, no-conflict, here-some}
use Rattle.od_merge.proofs.Order.{Apart, apart-filter, apart-sorted}

-- ---- which rename moves a path
abbrev pub In : Path × Path → List (Path × Path) → Type 0
In r [] = ⊥
In r (x ∷ xs) = (r ≡ x) ⊎ In r xs

copy-in : (s : Sides) (renames : List (Path × Path)) (r : Path × Path) → AreCopies s renames → In r renames → IsCopy s r
copy-in s [] r copies is = absurd is
copy-in s (x ∷ xs) r copies (inl same) = subst (λ (y : Path × Path). IsCopy s y) (sym same) copies.0
copy-in s (x ∷ xs) r copies (inr more) = copy-in s xs r copies.1 more

abbrev renamer : List (Path × Path) → Path → Option (Path × Path)
renamer renames p = find (λ (r : Path × Path). is_from r.0 p) renames

abbrev moved_by : Option (Path × Path) → Path → Path
moved_by None p = p
moved_by (Some r) p = r.1 ++ drop (length r.0) p

by-renamer-at : (t : Bool) (r : Path × Path) (rest : Option (Path × Path)) (p after : Path) → after ≡ moved_by rest p → cond t (r.1 ++ drop (length r.0) p) after ≡ moved_by (cond t (Some r) rest) p
by-renamer-at true r rest p after is = refl
by-renamer-at false r rest p after is = is

by-renamer : (renames : List (Path × Path)) (p : Path) → moved renames p ≡ moved_by (renamer renames p) p
by-renamer [] p = refl
by-renamer (r ∷ renames) p = by-renamer-at (is_from r.0 p) r (renamer renames p) p (moved renames p) (by-renamer renames p)

pub same-pair : (a b : Path × Path) → Some a ≡ Some b → a ≡ b
same-pair a b is = cc is

found-at : (t : Bool) (f : Path × Path → Bool) (x r : Path × Path) (xs : List (Path × Path)) → f x ≡ t → cond t (Some x) (find f xs) ≡ Some r
    → (find f xs ≡ Some r → In r xs × (f r ≡ true)) → In r (x ∷ xs) × (f r ≡ true)
found-at true f x r xs is found rest = let same = same-pair x r found in (inl (sym same), subst (λ (y : Path × Path). f y ≡ true) same is)
found-at false f x r xs is found rest = let more = rest found in (inr more.0, more.1)

found : (f : Path × Path → Bool) (xs : List (Path × Path)) (r : Path × Path) → find f xs ≡ Some r → In r xs × (f r ≡ true)
found f [] r is = absurd (cc is)
found f (x ∷ xs) r is = found-at (f x) f x r xs refl is (found f xs r)

find-alike : (f g : Path × Path → Bool) (xs : List (Path × Path)) → ((r : Path × Path) → In r xs → f r ≡ g r) → find f xs ≡ find g xs
find-alike f g [] same = refl
find-alike f g (x ∷ xs) same =
    ap (λ (b : Bool). cond b (Some x) (find f xs)) (same x (inl refl)) ∙ ap (λ (y : Option (Path × Path)). cond (g x) (Some x) y) (find-alike f g xs (λ r has. same r (inr has)))

none-found : (f : Path × Path → Bool) (xs : List (Path × Path)) → ((r : Path × Path) → In r xs → f r ≡ false) → find f xs ≡ None
none-found f [] none = refl
none-found f (x ∷ xs) none =
    ap (λ (b : Bool). cond b (Some x) (find f xs)) (none x (inl refl)) ∙ none-found f xs (λ r has. none r (inr has))

none-some : (t : Bool) (x : Path × Path) (rest : Option (Path × Path)) → t ≡ true → cond t (Some x) rest ≡ None → ⊥
none-some true x rest is none = cc none
none-some false x rest is none = false≢true is

rest-none : (t : Bool) (x : Path × Path) (rest : Option (Path × Path)) → cond t (Some x) rest ≡ None → rest ≡ None
rest-none true x rest none = absurd (cc none)
rest-none false x rest none = none

not-found : (f : Path × Path → Bool) (xs : List (Path × Path)) (r : Path × Path) → find f xs ≡ None → In r xs → f r ≡ true → ⊥
not-found f [] r none has is = has
not-found f (x ∷ xs) r none (inl same) is = none-some (f x) x (find f xs) (subst (λ (y : Path × Path). f y ≡ true) same is) none
not-found f (x ∷ xs) r none (inr more) is = not-found f xs r (rest-none (f x) x (find f xs) none) more is

-- ---- what is from a path on, as a rest behind it
rest-of : (top rest : Path) → drop (length top) (top ++ rest) ≡ rest
rest-of [] rest = refl
rest-of (x ∷ top) rest = rest-of top rest

pub split : (top path : Path) → is_from top path ≡ true → path ≡ top ++ drop (length top) path
split [] path from = refl
split (x ∷ top) [] from = absurd (false≢true from)
split (x ∷ top) (y ∷ path) from =
    let parts = and_parts (pointwise nat_eq x y) (is_from top path) from in
    ap (λ (first : List ℕ). first ∷ path) (sym (same_text x y (sym parts.0))) ∙ ap (λ (rest : Path). x ∷ rest) (split top path parts.1)

from-shift : (a x y : Path) → is_from (a ++ x) (a ++ y) ≡ is_from x y
from-shift [] x y = refl
from-shift (n ∷ a) x y = ap (λ (b : Bool). b && is_from (a ++ x) (a ++ y)) (text-self n) ∙ from-shift a x y

below-shift : (a b x y : Path) → is_below (a ++ x) (a ++ y) ≡ true → is_below (b ++ x) (b ++ y) ≡ true
below-shift a b x y below =
    let parts = and_parts (nat_lt (length (a ++ x)) (length (a ++ y))) (is_from (a ++ x) (a ++ y)) below in
    let less = ltb-true (length (a ++ x)) (length (a ++ y)) parts.0 in
    let ax = length-append a x in
    let ay = length-append a y in
    let bx = length-append b x in
    let by = length-append b y in
    and_from (nat_lt (length (b ++ x)) (length (b ++ y))) (is_from (b ++ x) (b ++ y)) (lt-ltb (length (b ++ x)) (length (b ++ y)) (omega (arith, less, ax, ay, bx, by)))
    (from-shift b x y ∙ (sym (from-shift a x y) ∙ parts.1))

same-rest : (a x y : Path) → a ++ x ≡ a ++ y → x ≡ y
same-rest a x y same = sym (rest-of a x) ∙ (ap (λ (p : Path). drop (length a) p) same ∙ rest-of a y)

-- ---- trees
pub long : (s : Sides) → at s.remote [] ≡ None → (p : Path) → is_some (at s.remote p) ≡ true → nat_lt 0 (length p) ≡ true
long s root [] some = absurd (false≢true (sym (ap (λ (x : Option Content). is_some x) root) ∙ some))
long s root (name ∷ names) some = lt-ltb 0 (length (name ∷ names)) (omega arith)

above-by : (tree : Tree) → IsDriveTree tree → (x : Option Content) (top path : Path) → at tree top ≡ x → nat_lt 0 (length top) ≡ true → is_below top path ≡ true → is_some (at tree path) ≡ true → x ≡ Some Folder
above-by tree drive None top path is from_root below some = absurd (true≢false (sym some ∙ drive.closed top path from_root (ap (λ (x : Option Content). is_some x) is) (below-is-from top path below)))
above-by tree drive (Some Folder) top path is from_root below some = refl
above-by tree drive (Some (File d)) top path is from_root below some = absurd (true≢false (sym some ∙ drive.files top path (ap (λ (x : Option Content). is_file x) is) below))

pub drive-above : (tree : Tree) → IsDriveTree tree → (top path : Path) → nat_lt 0 (length top) ≡ true → is_below top path ≡ true → is_some (at tree path) ≡ true → at tree top ≡ Some Folder
drive-above tree drive top path from_root below some = above-by tree drive (at tree top) top path refl from_root below some

abbrev pub AreNew : List Path → List (Path × Path) → Type 0
AreNew taken [] = Unit {0}
AreNew taken (r ∷ rs) = (is_in r.1 taken ≡ false) × AreNew (taken ++ r.1 ∷ []) rs

new-free : (taken : List Path) (rs : List (Path × Path)) (r : Path × Path) → AreNew taken rs → In r rs → is_in r.1 taken ≡ false
new-free taken [] r new is = absurd is
new-free taken (x ∷ rs) r new (inl same) = ap (λ (y : Path × Path). is_in y.1 taken) same ∙ new.0
new-free taken (x ∷ rs) r new (inr more) = (or_parts (is_in r.1 taken) (is_in r.1 (x.1 ∷ [])) (sym (in-joined r.1 taken (x.1 ∷ [])) ∙ new-free (taken ++ x.1 ∷ []) rs r new.1 more)).0

not-again : (taken : List Path) (x r : Path × Path) (rs : List (Path × Path)) → AreNew (taken ++ x.1 ∷ []) rs → In r rs → is_path r.1 x.1 ≡ false
not-again taken x r rs new has =
    let second = (or_parts (is_in r.1 taken) (is_in r.1 (x.1 ∷ [])) (sym (in-joined r.1 taken (x.1 ∷ [])) ∙ new-free (taken ++ x.1 ∷ []) rs r new has)).1 in
    (or_parts (is_path r.1 x.1) false second).0

pub turn : (a b : Path) → is_path a b ≡ true → is_path b a ≡ true
turn a b is = subst (λ (p : Path). is_path p a ≡ true) (same-path a b is) (path-self a)

new-once : (taken : List Path) (rs : List (Path × Path)) (r q : Path × Path) → AreNew taken rs → In r rs → In q rs → is_path r.1 q.1 ≡ true → r ≡ q
new-once taken [] r q new has other same = absurd has
new-once taken (x ∷ rs) r q new (inl is) (inl is_too) same = is ∙ sym is_too
new-once taken (x ∷ rs) r q new (inl is) (inr more) same =
    absurd (true≢false (sym (subst (λ (y : Path × Path). is_path q.1 y.1 ≡ true) is (turn r.1 q.1 same)) ∙ not-again taken x q rs new.1 more))
new-once taken (x ∷ rs) r q new (inr more) (inl is) same =
    absurd (true≢false (sym (subst (λ (y : Path × Path). is_path r.1 y.1 ≡ true) is same) ∙ not-again taken x r rs new.1 more))
new-once taken (x ∷ rs) r q new (inr more) (inr other) same = new-once (taken ++ x.1 ∷ []) rs r q new.1 more other same

-- no conflict is below another one
pub nested : (s : Sides) → AreTrees s → (a b : Path) → is_conflict s a ≡ true → is_conflict s b ≡ true → is_below a b ≡ false
nested s trees a b first second = false_from_ne_true (is_below a b)
    (λ below.
    let from_root = long s trees.there.root a (conflict-there s a (at s.local a) (at s.remote a) first) in
    let here = trees.here a b from_root below (here-some s b (at s.local b) (at s.remote b) second) in
    let there = drive-above s.remote trees.there a b from_root below (conflict-there s b (at s.local b) (at s.remote b) second) in
    let folders : is_conflict_of s a (Some Folder) (Some Folder) ≡ true = sym (ap (λ x. is_conflict_of s a x (at s.remote a)) here ∙ ap (λ x. is_conflict_of s a (Some Folder) x) there) ∙ first in
    false≢true folders)

some-tree : (q : Path) (tree : Tree) (x : Option Content) → at tree q ≡ x → is_some x ≡ true → is_some (at tree q) ≡ true
some-tree q tree x is some = ap (λ (y : Option Content). is_some y) is ∙ some

came-at : (t : Bool) (renames : List (Path × Path)) (entry : Path × Content) (tree : Tree) (q : Path) → is_path q (moved renames entry.0) ≡ t → (t || is_in q (paths_of (renamed_tree renames tree))) ≡ true
    → (is_in q (paths_of (renamed_tree renames tree)) ≡ true → (p : Path) × (is_in p (paths_of tree) ≡ true) × (is_path q (moved renames p) ≡ true))
    → (p : Path) × (is_in p (paths_of (entry ∷ tree)) ≡ true) × (is_path q (moved renames p) ≡ true)
came-at true renames entry tree q is has rest = (entry.0, or_left (is_path entry.0 entry.0) (is_in entry.0 (paths_of tree)) (path-self entry.0), is)
came-at false renames entry tree q is has rest =
    let more = rest has in
    (more.0, or_right (is_path more.0 entry.0) (is_in more.0 (paths_of tree)) more.1, more.2)

came-from : (renames : List (Path × Path)) (tree : Tree) (q : Path) → is_in q (paths_of (renamed_tree renames tree)) ≡ true → (p : Path) × (is_in p (paths_of tree) ≡ true) × (is_path q (moved renames p) ≡ true)
came-from renames [] q has = absurd (false≢true has)
came-from renames (entry ∷ tree) q has = came-at (is_path q (moved renames entry.0)) renames entry tree q refl has (came-from renames tree q)

at-both : (u : Bool) (q p : Path) (a b : Path × Content) (x y : Tree) → is_path q a.0 ≡ u → is_path p b.0 ≡ u → a.1 ≡ b.1 → at x q ≡ at y p → at (a ∷ x) q ≡ at (b ∷ y) p
at-both true q p a b x y a_is b_is same rest = rw (a_is, b_is) (ap (λ (n : Content). Some n) same)
at-both false q p a b x y a_is b_is same rest = rw (a_is, b_is) rest

at-moved : (renames : List (Path × Path)) (tree : Tree) (t : Path) → ((e : Path) → is_in e (paths_of tree) ≡ true → is_path (moved renames t) (moved renames e) ≡ is_path t e)
    → at (renamed_tree renames tree) (moved renames t) ≡ at tree t
at-moved renames [] t once = refl
at-moved renames (entry ∷ tree) t once =
    at-both (is_path t entry.0) (moved renames t) t (moved renames entry.0, entry.1) entry (renamed_tree renames tree) tree
    (once entry.0 (or_left (is_path entry.0 entry.0) (is_in entry.0 (paths_of tree)) (path-self entry.0))) refl refl
    (at-moved renames tree t (λ e has. once e (or_right (is_path e entry.0) (is_in e (paths_of tree)) has)))

no-names : (top : Path) → nat_lt 0 (length top) ≡ true → is_from top [] ≡ true → ⊥
no-names [] from_root from = false≢true from_root
no-names (x ∷ top) from_root from = false≢true from

module _ (s : Sides) (trees : AreTrees s) (renames : List (Path × Path)) (copies : AreCopies s renames) (taken : List Path) (new : AreNew taken renames)
    (has_taken : (p : Path) → is_some (at s.local p) ≡ true → is_in p taken ≡ true) where
  free-here : (r : Path × Path) → In r renames → is_some (at s.local r.1) ≡ false
  free-here r has = false_from_ne_true (is_some (at s.local r.1)) (λ some. true≢false (sym (has_taken r.1 some) ∙ new-free taken renames r new has))

  old-some : (r : Path × Path) → In r renames → is_some (at s.local r.0) ≡ true
  old-some r has = here-some s r.0 (at s.local r.0) (at s.remote r.0) (copy-in s renames r copies has).conflict

  new-long : (r : Path × Path) → In r renames → nat_lt 0 (length r.1) ≡ true
  new-long r has =
      let copy = copy-in s renames r copies has in
      let old = long s trees.there.root r.0 (conflict-there s r.0 (at s.local r.0) (at s.remote r.0) copy.conflict) in
      (and_parts (nat_lt 0 (length r.1)) true (copy.beside [] ∙ and_from (nat_lt 0 (length r.0)) true old refl)).0

  -- nothing stands at or below the new path of a rename
  none-new-at : (t : Bool) (r : Path × Path) (p : Path) → In r renames → is_path r.1 p ≡ t → is_some (at s.local p) ≡ true → is_from r.1 p ≡ true → ⊥
  none-new-at true r p has is some from = true≢false (sym (subst (λ (q : Path). is_some (at s.local q) ≡ true) (sym (same-path r.1 p is)) some) ∙ free-here r has)
  none-new-at false r p has is some from =
      true≢false (sym (ap (λ (x : Option Content). is_some x) (trees.here r.1 p (new-long r has) (from-below r.1 p from is) some)) ∙ free-here r has)

  pub none-new-here : (r : Path × Path) (p : Path) → In r renames → is_some (at s.local p) ≡ true → is_from r.1 p ≡ false
  none-new-here r p has some = false_from_ne_true (is_from r.1 p) (λ from. none-new-at (is_path r.1 p) r p has refl some from)

  -- no new path is below another one, and no old path is
  none-below-new : (r q : Path × Path) → In r renames → In q renames → is_below r.1 q.1 ≡ false
  none-below-new r q has other = false_from_ne_true (is_below r.1 q.1)
      (λ below.
      let old = sym ((copy-in s renames q copies other).beside r.1) ∙ below in
      true≢false (sym (below-is-from r.1 q.0 old) ∙ none-new-here r q.0 has (old-some q other)))

  none-below-old : (r : Path × Path) (p : Path) → In r renames → is_conflict s p ≡ true → is_below r.0 p ≡ false
  none-below-old r p has conflict = nested s trees r.0 p (copy-in s renames r copies has).conflict conflict

  -- a path and one above it, if that is not above what moves it, are moved by the same rename
  same-new-at : (t : Bool) (r q : Path × Path) → In r renames → In q renames → is_path r.1 q.1 ≡ t → (is_from r.1 q.1 || is_below q.1 r.1) ≡ true → r ≡ q
  same-new-at true r q has other is near = new-once taken renames r q new has other is
  same-new-at false r q has other is near =
      absurd (true≢false (sym near ∙ or_from (is_from r.1 q.1) (is_below q.1 r.1)
      (false_from_ne_true (is_from r.1 q.1) (λ from. true≢false (sym (from-below r.1 q.1 from is) ∙ none-below-new r q has other))) (none-below-new q r other has)))

  -- ---- two paths of the folder stay two
  apart-none-some : (r : Path × Path) (p e : Path) → In r renames → is_some (at s.local p) ≡ true → p ≡ r.1 ++ drop (length r.0) e → ⊥
  apart-none-some r p e has some is =
      true≢false (sym (subst (λ (q : Path). is_from r.1 q ≡ true) (sym is) (from-front r.1 (drop (length r.0) e))) ∙ none-new-here r p has some)

  same-by : (x y : Option (Path × Path)) (t e : Path) → renamer renames t ≡ x → renamer renames e ≡ y → is_some (at s.local t) ≡ true → is_some (at s.local e) ≡ true → moved_by x t ≡ moved_by y e → t ≡ e
  same-by None None t e x_is y_is here there same = same
  same-by None (Some r) t e x_is y_is here there same = absurd (apart-none-some r t e (found (λ (q : Path × Path). is_from q.0 e) renames r y_is).0 here same)
  same-by (Some r) None t e x_is y_is here there same = absurd (apart-none-some r e t (found (λ (q : Path × Path). is_from q.0 t) renames r x_is).0 there (sym same))
  same-by (Some r) (Some q) t e x_is y_is here there same =
      let first = found (λ (o : Path × Path). is_from o.0 t) renames r x_is in
      let second = found (λ (o : Path × Path). is_from o.0 e) renames q y_is in
      let near = prefixes r.1 q.1 (r.1 ++ drop (length r.0) t) (from-front r.1 (drop (length r.0) t)) (subst (λ (p : Path). is_from q.1 p ≡ true) (sym same) (from-front q.1 (drop (length q.0) e))) in
      let one : r ≡ q = same-new-at (is_path r.1 q.1) r q first.0 second.0 refl near in
      let again : q ≡ r = sym one in
      let rests : drop (length r.0) t ≡ drop (length r.0) e = same-rest r.1 (drop (length r.0) t) (drop (length r.0) e) (same ∙ ap (λ (o : Path × Path). o.1 ++ drop (length o.0) e) again) in
      split r.0 t first.1 ∙ (ap (λ (rest : Path). r.0 ++ rest) rests ∙ sym (split r.0 e (subst (λ (o : Path × Path). is_from o.0 e ≡ true) again second.1)))

  stays-one-at : (u v : Bool) (t e : Path) → is_path t e ≡ u → is_path (moved renames t) (moved renames e) ≡ v → is_some (at s.local t) ≡ true → is_some (at s.local e) ≡ true → v ≡ u
  stays-one-at true true t e is after here there = refl
  stays-one-at true false t e is after here there =
      absurd (true≢false (sym (subst (λ (p : Path). is_path (moved renames t) (moved renames p) ≡ true) (same-path t e is) (path-self (moved renames t))) ∙ after))
  stays-one-at false true t e is after here there =
      let same = same-path (moved renames t) (moved renames e) after in
      let one = same-by (renamer renames t) (renamer renames e) t e refl refl here there (sym (by-renamer renames t) ∙ (same ∙ by-renamer renames e)) in
      absurd (true≢false (sym (subst (λ (p : Path). is_path t p ≡ true) one (path-self t)) ∙ is))
  stays-one-at false false t e is after here there = refl

  pub moved-has : (t : Path) → is_some (at s.local t) ≡ true → at (renamed_tree renames s.local) (moved renames t) ≡ at s.local t
  moved-has t some = at-moved renames s.local t (λ e has. stays-one-at (is_path t e) (is_path (moved renames t) (moved renames e)) t e refl refl some (at-in e s.local ∙ has))

  -- ---- above what stands is a folder
  not-moved : (top : Path) → ((r : Path × Path) → In r renames → is_from r.0 top ≡ false) → moved renames top ≡ top
  not-moved top none = by-renamer renames top ∙ ap (λ (x : Option (Path × Path)). moved_by x top) (none-found (λ (r : Path × Path). is_from r.0 top) renames none)

  folder-stays : (top : Path) → at s.local top ≡ Some Folder → ((r : Path × Path) → In r renames → is_from r.0 top ≡ false) → at (renamed_tree renames s.local) top ≡ Some Folder
  folder-stays top folder none =
      subst (λ (q : Path). at (renamed_tree renames s.local) q ≡ Some Folder) (not-moved top none) (moved-has top (ap (λ (x : Option Content). is_some x) folder) ∙ folder)

  -- a path that none has moved
  above-none : (top path : Path) → renamer renames path ≡ None → is_some (at s.local path) ≡ true → nat_lt 0 (length top) ≡ true → is_below top path ≡ true → at (renamed_tree renames s.local) top ≡ Some Folder
  above-none top path none some from_root below =
      folder-stays top (trees.here top path from_root below some)
      (λ r has. false_from_ne_true (is_from r.0 top) (λ from. not-found (λ (o : Path × Path). is_from o.0 path) renames r none has (from-through r.0 top path from (below-is-from top path below))))

  -- one that a rename has moved
  mover-at : (t : Bool) (r o : Path × Path) (top : Path) → In r renames → In o renames → is_from r.0 top ≡ true → is_path r.0 o.0 ≡ t → (is_from r.0 o.0 || is_below o.0 r.0) ≡ true → is_from o.0 top ≡ true
  mover-at true r o top has other from is near = subst (λ (q : Path). is_from q top ≡ true) (same-path r.0 o.0 is) from
  mover-at false r o top has other from is near =
      absurd (true≢false (sym near ∙ or_from (is_from r.0 o.0) (is_below o.0 r.0)
      (false_from_ne_true (is_from r.0 o.0) (λ on. true≢false (sym (from-below r.0 o.0 on is) ∙ none-below-old r o.0 has (copy-in s renames o copies other).conflict)))
      (none-below-old o r.0 other (copy-in s renames r copies has).conflict)))

  mover : (r o : Path × Path) (top path : Path) → In r renames → In o renames → is_from r.0 top ≡ true → is_from top path ≡ true → is_from o.0 path ≡ true → is_from o.0 top ≡ true
  mover r o top path has other from on is = mover-at (is_path r.0 o.0) r o top has other from refl (prefixes r.0 o.0 path (from-through r.0 top path from on) is)

  same-mover-at : (t u : Bool) (r o : Path × Path) (top path : Path) → In r renames → In o renames → is_from r.0 top ≡ true → is_from top path ≡ true → is_from o.0 top ≡ t → is_from o.0 path ≡ u → t ≡ u
  same-mover-at true true r o top path has other from on top_is path_is = refl
  same-mover-at true false r o top path has other from on top_is path_is = absurd (true≢false (sym (from-through o.0 top path top_is on) ∙ path_is))
  same-mover-at false true r o top path has other from on top_is path_is = absurd (true≢false (sym (mover r o top path has other from on path_is) ∙ top_is))
  same-mover-at false false r o top path has other from on top_is path_is = refl

  same-mover : (r : Path × Path) (top path : Path) → In r renames → is_from r.0 top ≡ true → is_from top path ≡ true → renamer renames top ≡ renamer renames path
  same-mover r top path has from on =
      find-alike (λ (o : Path × Path). is_from o.0 top) (λ (o : Path × Path). is_from o.0 path) renames
      (λ o other. same-mover-at (is_from o.0 top) (is_from o.0 path) r o top path has other from on refl refl)

  long-behind : (r : Path × Path) (rest : Path) → In r renames → nat_lt 0 (length (r.0 ++ rest)) ≡ true
  long-behind r rest has =
      let old = ltb-true 0 (length r.0) (long s trees.there.root r.0 (conflict-there s r.0 (at s.local r.0) (at s.remote r.0) (copy-in s renames r copies has).conflict)) in
      let more = length-append r.0 rest in
      lt-ltb 0 (length (r.0 ++ rest)) (omega (arith, old, more))

  above-new : (r : Path × Path) (rest p : Path) → In r renames → renamer renames p ≡ Some r → is_from r.0 p ≡ true → is_some (at s.local p) ≡ true
      → is_below (r.1 ++ rest) (r.1 ++ drop (length r.0) p) ≡ true → at (renamed_tree renames s.local) (r.1 ++ rest) ≡ Some Folder
  above-new r rest p has is from some below =
      let old = subst (λ (q : Path). is_below (r.0 ++ rest) q ≡ true) (sym (split r.0 p from)) (below-shift r.1 r.0 rest (drop (length r.0) p) below) in
      let folder = trees.here (r.0 ++ rest) p (long-behind r rest has) old some in
      let mover_is : renamer renames (r.0 ++ rest) ≡ Some r = same-mover r (r.0 ++ rest) p has (from-front r.0 rest) (below-is-from (r.0 ++ rest) p old) ∙ is in
      let goes : moved renames (r.0 ++ rest) ≡ r.1 ++ rest =
      by-renamer renames (r.0 ++ rest) ∙ (ap (λ (x : Option (Path × Path)). moved_by x (r.0 ++ rest)) mover_is ∙ ap (λ (q : Path). r.1 ++ q) (rest-of r.0 rest)) in
      subst (λ (q : Path). at (renamed_tree renames s.local) q ≡ Some Folder) goes (moved-has (r.0 ++ rest) (ap (λ (x : Option Content). is_some x) folder) ∙ folder)

  above-some : (t : Bool) (r : Path × Path) (top p : Path) → In r renames → renamer renames p ≡ Some r → is_from r.0 p ≡ true → is_some (at s.local p) ≡ true → nat_lt 0 (length top) ≡ true
      → is_from r.1 top ≡ t → is_below top (r.1 ++ drop (length r.0) p) ≡ true → at (renamed_tree renames s.local) top ≡ Some Folder
  above-some true r top p has is from some from_root on below =
      let top_is = split r.1 top on in
      subst (λ (q : Path). at (renamed_tree renames s.local) q ≡ Some Folder) (sym top_is)
      (above-new r (drop (length r.1) top) p has is from some (subst (λ (q : Path). is_below q (r.1 ++ drop (length r.0) p) ≡ true) top_is below))
  above-some false r top p has is from some from_root on below =
      let near = prefixes r.1 top (r.1 ++ drop (length r.0) p) (from-front r.1 (drop (length r.0) p)) (below-is-from top (r.1 ++ drop (length r.0) p) below) in
      let above : is_below top r.1 ≡ true = sym (ap (λ (b : Bool). b || is_below top r.1) on) ∙ near in
      let old = sym ((copy-in s renames r copies has).beside top) ∙ above in
      folder-stays top (trees.here top r.0 from_root old (old-some r has))
      (λ o other. false_from_ne_true (is_from o.0 top) (λ on. true≢false (sym (below-from o.0 top r.0 on old) ∙ none-below-old o r.0 other (copy-in s renames r copies has).conflict)))

  above-moved : (x : Option (Path × Path)) (top path p : Path) → renamer renames p ≡ x → path ≡ moved_by x p → is_some (at s.local p) ≡ true → nat_lt 0 (length top) ≡ true → is_below top path ≡ true
      → at (renamed_tree renames s.local) top ≡ Some Folder
  above-moved None top path p is path_is some from_root below =
      above-none top p is some from_root (subst (λ (q : Path). is_below top q ≡ true) path_is below)
  above-moved (Some r) top path p is path_is some from_root below =
      let here = found (λ (o : Path × Path). is_from o.0 p) renames r is in
      above-some (is_from r.1 top) r top p here.0 is here.1 some from_root refl (subst (λ (q : Path). is_below top q ≡ true) path_is below)

  pub here-above : (top path : Path) → nat_lt 0 (length top) ≡ true → is_below top path ≡ true → is_some (at (renamed_tree renames s.local) path) ≡ true → at (renamed_tree renames s.local) top ≡ Some Folder
  here-above top path from_root below some =
      let came = came-from renames s.local path (sym (at-in path (renamed_tree renames s.local)) ∙ some) in
      above-moved (renamer renames came.0) top path came.0 refl (same-path path (moved renames came.0) came.2 ∙ by-renamer renames came.0) (at-in came.0 s.local ∙ came.1) from_root below

  -- nothing comes to the root
  root-by : (x : Option (Path × Path)) (p : Path) → renamer renames p ≡ x → [] ≡ moved_by x p → is_some (at s.local p) ≡ true → ⊥
  root-by None p is path_is some = false≢true (sym (ap (λ (y : Option Content). is_some y) trees.root) ∙ subst (λ (q : Path). is_some (at s.local q) ≡ true) (sym path_is) some)
  root-by (Some r) p is path_is some =
      let has = (found (λ (o : Path × Path). is_from o.0 p) renames r is).0 in
      no-names r.1 (new-long r has) (subst (λ (q : Path). is_from r.1 q ≡ true) (sym path_is) (from-front r.1 (drop (length r.0) p)))

  some-root : is_some (at (renamed_tree renames s.local) []) ≡ true → ⊥
  some-root some =
      let came = came-from renames s.local [] (sym (at-in [] (renamed_tree renames s.local)) ∙ some) in
      root-by (renamer renames came.0) came.0 refl (same-path [] (moved renames came.0) came.2 ∙ by-renamer renames came.0) (at-in came.0 s.local ∙ came.1)

  pub still-root : at (renamed_tree renames s.local) [] ≡ None
  still-root = no-wanted (at (renamed_tree renames s.local) []) (false_from_ne_true (is_some (at (renamed_tree renames s.local) [])) some-root)

  -- ---- a conflict that no rename moves is kept after them
  none-below-old-from : (r : Path × Path) (q : Path) → In r renames → is_conflict s q ≡ true → is_below q r.0 ≡ false
  none-below-old-from r q has conflict = nested s trees q r.0 conflict (copy-in s renames r copies has).conflict

  far-at : (q : Path) (r : Path × Path) → In r renames → is_conflict s q ≡ true → is_path r.0 q ≡ false → is_near q r ≡ false
  far-at q r has conflict other =
      let below = none-below-old-from r q has conflict in
      or_from (is_from r.0 q || is_from r.1 q) (is_below q r.0 || is_below q r.1)
      (or_from (is_from r.0 q) (is_from r.1 q)
      (false_from_ne_true (is_from r.0 q) (λ from. true≢false (sym (from-below r.0 q from other) ∙ none-below-old r q has conflict)))
      (none-new-here r q has (here-some s q (at s.local q) (at s.remote q) conflict)))
      (or_from (is_below q r.0) (is_below q r.1) below ((copy-in s renames r copies has).beside q ∙ below))

  far : (q : Path) (rs : List (Path × Path)) → ((r : Path × Path) → In r rs → In r renames) → ((r : Path × Path) → In r rs → is_path r.0 q ≡ false) → is_conflict s q ≡ true → list_any (is_near q) rs ≡ false
  far q [] all others conflict = refl
  far q (r ∷ rs) all others conflict =
      or_from (is_near q r) (list_any (is_near q) rs) (far-at q r (all r (inl refl)) conflict (others r (inl refl)))
      (far q rs (λ o has. all o (inr has)) (λ o has. others o (inr has)) conflict)

  pub still-kept : (q : Path) → ((r : Path × Path) → In r renames → is_path r.0 q ≡ false) → is_conflict s q ≡ true → is_kept s.passes (renamed_tree renames s.local) q ≡ is_kept s.passes s.local q
  still-kept q others conflict = kept-renamed s renames q (far q renames (λ r has. has) others conflict)

-- ---- a conflict is kept
file-passes : (s : Sides) (q : Path) (d : Option Digest) → at s.local q ≡ Some (File d) → is_kept s.passes s.local q ≡ s.passes q false
file-passes s q d here = rw here refl

conflict-kept-by : (s : Sides) (q : Path) (x y : Option Content) → at s.local q ≡ x → is_conflict_of s q x y ≡ true → is_kept_there s q ≡ true
conflict-kept-by s q None y here is = absurd (false≢true is)
conflict-kept-by s q (Some Folder) None here is = absurd (false≢true is)
conflict-kept-by s q (Some (File d)) None here is = absurd (false≢true is)
conflict-kept-by s q (Some Folder) (Some Folder) here is = absurd (false≢true is)
conflict-kept-by s q (Some Folder) (Some (File e)) here is =
    (and_parts (is_kept_there s q) (list_any (λ (entry : Path × Content). is_from q entry.0 && is_changed_or_skipped s entry.0) s.local) is).0
conflict-kept-by s q (Some (File d)) (Some Folder) here is = (and_parts (is_changed_or_skipped s q) (is_kept_there s q) is).1
conflict-kept-by s q (Some (File d)) (Some (File e)) here is =
    let one = and_parts (s.passes q false && is_changed s q && not (same (Some (File d)) (Some (File e)))) (not (same (Some (File e)) (s.base q))) is in
    let two = and_parts (s.passes q false && is_changed s q) (not (same (Some (File d)) (Some (File e)))) one.0 in
    let three = and_parts (s.passes q false) (is_changed s q) two.0 in
    or_left (is_kept s.passes s.local q) (is_kept s.passes s.remote q) (file-passes s q d here ∙ three.0)

conflict-kept : (s : Sides) (q : Path) → is_conflict s q ≡ true → is_kept_there s q ≡ true
conflict-kept s q is = conflict-kept-by s q (at s.local q) (at s.remote q) refl is

-- ---- the renames that a plan makes
module _ (copy : List Path → Path → Option Path) (copying : IsCopying copy) where
  new-at : (x : Option Path) (taken paths : List Path) (path : Path) → copy taken path ≡ x → AreNew (and_taken x taken) (moves_of (copied copy (and_taken x taken) paths)) → AreNew taken (moves_of ((path, x) ∷ copied copy (and_taken x taken) paths))
  new-at None taken paths path is rest = rest
  new-at (Some to) taken paths path is rest = ((copying taken path to is).0, rest)

  are-new : (taken paths : List Path) → AreNew taken (moves_of (copied copy taken paths))
  are-new taken [] = tt
  are-new taken (path ∷ paths) = new-at (copy taken path) taken paths path refl (are-new (and_taken (copy taken path) taken) paths)

  old-at : (x : Option Path) (r : Path × Path) (path : Path) (those : List (Path × Option Path)) (paths : List Path) → (In r (moves_of those) → is_in r.0 paths ≡ true)
      → In r (moves_of ((path, x) ∷ those)) → (is_path r.0 path || is_in r.0 paths) ≡ true
  old-at None r path those paths rest has = or_right (is_path r.0 path) (is_in r.0 paths) (rest has)
  old-at (Some to) r path those paths rest (inl is) = or_left (is_path r.0 path) (is_in r.0 paths) (subst (λ (o : Path × Path). is_path r.0 o.0 ≡ true) is (path-self r.0))
  old-at (Some to) r path those paths rest (inr more) = or_right (is_path r.0 path) (is_in r.0 paths) (rest more)

  old-in : (r : Path × Path) (taken paths : List Path) → In r (moves_of (copied copy taken paths)) → is_in r.0 paths ≡ true
  old-in r taken [] has = absurd has
  old-in r taken (path ∷ paths) has =
      old-at (copy taken path) r path (copied copy (and_taken (copy taken path) taken) paths) paths (old-in r (and_taken (copy taken path) taken) paths) has

  -- no path is both moved and left
  apart-path : (q path : Path) (paths : List Path) → is_in path paths ≡ false → is_in q paths ≡ true → is_path q path ≡ false
  apart-path q path paths none has = false_from_ne_true (is_path q path) (λ same. true≢false (sym (subst (λ (p : Path). is_in p paths ≡ true) (same-path q path same) has) ∙ none))

  one-left : (t : Bool) (r : Path × Path) (q path : Path) (those : List (Path × Option Path)) → is_path q path ≡ t → is_path r.0 path ≡ false
      → (is_in q (left_of those) ≡ true → is_path r.0 q ≡ false) → (t || is_in q (left_of those)) ≡ true → is_path r.0 q ≡ false
  one-left true r q path those is other rest has = subst (λ (p : Path). is_path r.0 p ≡ false) (sym (same-path q path is)) other
  one-left false r q path those is other rest has = rest has

  one-of-at : (x : Option Path) (r : Path × Path) (q path : Path) (taken paths : List Path) → is_in path paths ≡ false
      → (In r (moves_of (copied copy taken paths)) → is_in q (left_of (copied copy taken paths)) ≡ true → is_path r.0 q ≡ false)
      → In r (moves_of ((path, x) ∷ copied copy taken paths)) → is_in q (left_of ((path, x) ∷ copied copy taken paths)) ≡ true → is_path r.0 q ≡ false
  one-of-at None r q path taken paths apart rest has left =
      one-left (is_path q path) r q path (copied copy taken paths) refl (apart-path r.0 path paths apart (old-in r taken paths has)) (rest has) left
  one-of-at (Some to) r q path taken paths apart rest (inl is) left =
      let other = apart-path q path paths apart (left-in copy q taken paths left) in
      false_from_ne_true (is_path r.0 q) (λ same. true≢false (sym (subst (λ (p : Path). is_path q p ≡ true) (ap (λ (o : Path × Path). o.0) is) (turn r.0 q same)) ∙ other))
  one-of-at (Some to) r q path taken paths apart rest (inr more) left = rest more left

  one-of : (r : Path × Path) (q : Path) (taken paths : List Path) → Apart paths → In r (moves_of (copied copy taken paths)) → is_in q (left_of (copied copy taken paths)) ≡ true → is_path r.0 q ≡ false
  one-of r q taken [] apart has left = absurd has
  one-of r q taken (path ∷ paths) apart has left =
      one-of-at (copy taken path) r q path (and_taken (copy taken path) taken) paths apart.0 (one-of r q (and_taken (copy taken path) taken) paths apart.1) has left

left-conflict : (copy : List Path → Path → Option Path) (s : Sides) (top : Path) → is_in top (without_copy copy s) ≡ true → is_conflict s top ≡ true
left-conflict copy s top left = filtered (is_conflict s) top (paths_of s.local) (left-in copy top (paths_of s.local ++ paths_of s.remote) (conflicts s) left)

pub are-renamed : (s : Sides) → AreTrees s → (copy : List Path → Path → Option Path) → IsCopying copy → AreRenamed (renamed copy s)
are-renamed s trees copy copying =
    let taken = paths_of s.local ++ paths_of s.remote in
    let moves = renames copy s in
    let here_taken : (p : Path) → is_some (at s.local p) ≡ true → is_in p taken ≡ true = λ p some. in-joined p (paths_of s.local) (paths_of s.remote) ∙ or_left (is_in p (paths_of s.local)) (is_in p (paths_of s.remote)) (sym (at-in p s.local) ∙ some) in
    let there_taken : (p : Path) → is_some (at s.remote p) ≡ true → is_in p taken ≡ true = λ p some. in-joined p (paths_of s.local) (paths_of s.remote) ∙ or_right (is_in p (paths_of s.local)) (is_in p (paths_of s.remote)) (sym (at-in p s.remote) ∙ some) in
    let copies : AreCopies s moves = are-copies copy copying s taken (conflicts s) there_taken (λ p has. filtered (is_conflict s) p (paths_of s.local) has) in
    let new : AreNew taken moves = are-new copy copying taken (conflicts s) in
    let apart : Apart (conflicts s) = apart-filter (is_conflict s) (paths_of s.local) (apart-sorted (paths_of s.local) trees.in_order) in
    record {
      root = still-root s trees moves copies taken new here_taken;
      root_there = trees.there.root;
      proper = record {
        here = here-above s trees moves copies taken new here_taken;
        there = drive-above s.remote trees.there;
        left_kept = λ top left.
            let conflict = left-conflict copy s top left in
            ap (λ (b : Bool). b || is_kept s.passes s.remote top)
            (still-kept s trees moves copies taken new here_taken top (λ r has. one-of copy copying r top taken (conflicts s) apart has left) conflict)
            ∙ conflict-kept s top conflict;
      };
      fits = record {
        known = trees.there.known;
        files = trees.there.files;
        left_there = λ top left. conflict-there s top (at s.local top) (at s.remote top) (left-conflict copy s top left);
      };
      no_conflict = λ q not_left. no-conflict s trees.there copy copying q not_left;
      apart = λ top other left too. nested s trees top other (left-conflict copy s top left) (left-conflict copy s other too);
    }
