-- A folder with a file in it is a tree.
use Rattle.std.proofs.Common.{◌≡◌, ◌⊎◌, inl, inr, ℕ, Bool, true, false, ◌&&◌, ◌||◌, is_some, nat_eq, nat_lt, length, arith, List, [], ◌∷◌, Option, Some, None, refl, ap, sym, subst, ◌∙◌}
use Rattle.std.proofs.lemmas.Bool.{true≢false, false≢true, and_parts, and_right, false_from_ne_true, ltb-true}
use Rattle.std.specs.Cmp.Lexicographic.{pointwise, same_text}
use Rattle.std.specs.List.Sorted.{IsStrictlySortedBy}
use Rattle.gd_names.specs.Ordered.{path_cmp}
use Rattle.od_merge.specs.declared.content.Content.{Content}
use Rattle.od_merge.specs.declared.content.Content.TheVariants.{Folder, File}
use Rattle.od_merge.specs.Instances.{all, d, f, with_file}
use Rattle.od_merge.specs.Sides.{at, is_below, is_file, is_from, is_path, paths_of, sides_of}
use Rattle.od_merge.specs.Steps.{AreTrees, IsDriveTree}
use Rattle.od_merge.proofs.Lists.{Path, at-in, same-path}
use Rattle.od_merge.proofs.Digests.{some-file}

one-of : (path : Path) (a b : Bool) → is_path path (d ∷ []) ≡ a → is_path path (d ∷ (f ∷ [])) ≡ b → (a || (b || false)) ≡ true → (path ≡ d ∷ []) ⊎ (path ≡ d ∷ (f ∷ []))
one-of path true b first second has = inl (same-path path (d ∷ []) first)
one-of path false true first second has = inr (same-path path (d ∷ (f ∷ [])) second)
one-of path false false first second has = absurd (false≢true has)

stands : (path : Path) → is_some (at with_file path) ≡ true → (path ≡ d ∷ []) ⊎ (path ≡ d ∷ (f ∷ []))
stands path some = one-of path (is_path path (d ∷ [])) (is_path path (d ∷ (f ∷ []))) refl refl (sym (at-in path with_file) ∙ some)

-- the paths from which on one of the two is
from-folder : (top : Path) → nat_lt 0 (length top) ≡ true → is_from top (d ∷ []) ≡ true → top ≡ d ∷ []
from-folder [] long from = absurd (false≢true long)
from-folder (x ∷ []) long from = ap (λ (n : List ℕ). n ∷ []) (same_text x d (sym (and_parts (pointwise nat_eq x d) true from).0))
from-folder (x ∷ (y ∷ top)) long from = absurd (false≢true (sym (and_right (pointwise nat_eq x d) false refl) ∙ from))

from-file : (top : Path) → nat_lt 0 (length top) ≡ true → is_from top (d ∷ (f ∷ [])) ≡ true → (top ≡ d ∷ []) ⊎ (top ≡ d ∷ (f ∷ []))
from-file [] long from = absurd (false≢true long)
from-file (x ∷ []) long from = inl (ap (λ (n : List ℕ). n ∷ []) (same_text x d (sym (and_parts (pointwise nat_eq x d) true from).0)))
from-file (x ∷ (y ∷ [])) long from =
    let first = and_parts (pointwise nat_eq x d) (pointwise nat_eq y f && true) from in
    let second = and_parts (pointwise nat_eq y f) true first.1 in
    inr (ap (λ (n : List ℕ). n ∷ (y ∷ [])) (same_text x d (sym first.0)) ∙ ap (λ (n : List ℕ). d ∷ (n ∷ [])) (same_text y f (sym second.0)))
from-file (x ∷ (y ∷ (z ∷ top))) long from =
    let first = and_parts (pointwise nat_eq x d) (pointwise nat_eq y f && false) from in
    absurd (false≢true (sym (and_right (pointwise nat_eq y f) false refl) ∙ first.1))

shorter : (top path : Path) → is_below top path ≡ true → top ≡ path → ⊥
shorter top path below same =
    let less = ltb-true (length top) (length path) (and_parts (nat_lt (length top) (length path)) (is_from top path) below).0 in
    let one : length top ≡ length path = ap (λ (p : Path). length p) same in
    omega (arith, less, one)

folder-at : (top : Path) → top ≡ d ∷ [] → at with_file top ≡ Some Folder
folder-at top is = ap (λ (p : Path). at with_file p) is

above-file : (top path : Path) → is_below top path ≡ true → path ≡ d ∷ (f ∷ []) → (top ≡ d ∷ []) ⊎ (top ≡ d ∷ (f ∷ [])) → at with_file top ≡ Some Folder
above-file top path below path_is (inl is) = folder-at top is
above-file top path below path_is (inr is) = absurd (shorter top path below (is ∙ sym path_is))

above-one : (top path : Path) → nat_lt 0 (length top) ≡ true → is_below top path ≡ true → (path ≡ d ∷ []) ⊎ (path ≡ d ∷ (f ∷ [])) → at with_file top ≡ Some Folder
above-one top path long below (inl path_is) =
    let from = (and_parts (nat_lt (length top) (length path)) (is_from top path) below).1 in
    folder-at top (from-folder top long (subst (λ (p : Path). is_from top p ≡ true) path_is from))
above-one top path long below (inr path_is) =
    let from = (and_parts (nat_lt (length top) (length path)) (is_from top path) below).1 in
    above-file top path below path_is (from-file top long (subst (λ (p : Path). is_from top p ≡ true) path_is from))

here : (top : Path) → (top ≡ d ∷ []) ⊎ (top ≡ d ∷ (f ∷ [])) → is_some (at with_file top) ≡ true
here top (inl is) = ap (λ (p : Path). is_some (at with_file p)) is
here top (inr is) = ap (λ (p : Path). is_some (at with_file p)) is

closed-one : (top path : Path) → nat_lt 0 (length top) ≡ true → is_from top path ≡ true → (path ≡ d ∷ []) ⊎ (path ≡ d ∷ (f ∷ [])) → is_some (at with_file top) ≡ true
closed-one top path long from (inl path_is) = here top (inl (from-folder top long (subst (λ (p : Path). is_from top p ≡ true) path_is from)))
closed-one top path long from (inr path_is) = here top (from-file top long (subst (λ (p : Path). is_from top p ≡ true) path_is from))

no-longer : (path : Path) → (path ≡ d ∷ []) ⊎ (path ≡ d ∷ (f ∷ [])) → nat_lt 2 (length path) ≡ true → ⊥
no-longer path (inl is) long = false≢true (sym (ap (λ (p : Path). nat_lt 2 (length p)) is) ∙ long)
no-longer path (inr is) long = false≢true (sym (ap (λ (p : Path). nat_lt 2 (length p)) is) ∙ long)

below-file : (top path : Path) → is_file (at with_file top) ≡ true → is_below top path ≡ true → (top ≡ d ∷ []) ⊎ (top ≡ d ∷ (f ∷ [])) → (path ≡ d ∷ []) ⊎ (path ≡ d ∷ (f ∷ [])) → ⊥
below-file top path file below (inl is) one = false≢true (sym (ap (λ (p : Path). is_file (at with_file p)) is) ∙ file)
below-file top path file below (inr is) one =
    let less = (and_parts (nat_lt (length top) (length path)) (is_from top path) below).0 in
    no-longer path one (sym (ap (λ (p : Path). nat_lt (length p) (length path)) is) ∙ less)

known-one : (path : Path) → at with_file path ≡ Some (File None) → (path ≡ d ∷ []) ⊎ (path ≡ d ∷ (f ∷ [])) → ⊥
known-one path file (inl is) = cc (sym (ap (λ (p : Path). at with_file p) is) ∙ file)
known-one path file (inr is) = cc (sym (ap (λ (p : Path). at with_file p) is) ∙ file)

drive : IsDriveTree with_file
drive = record {
  root = refl;
  closed = λ top path long none from. false_from_ne_true (is_some (at with_file path)) (λ some. true≢false (sym (closed-one top path long from (stands path some)) ∙ none));
  files = λ top path file below. false_from_ne_true (is_some (at with_file path)) (λ some. below-file top path file below (stands top (some-file (at with_file top) file)) (stands path some));
  known = λ path file. known-one path file (stands path (ap (λ (x : Option Content). is_some x) file));
}

in-order : IsStrictlySortedBy path_cmp (paths_of with_file)
unfolding IsStrictlySortedBy
in-order = ((refl, tt), (tt, tt))

pub are-trees : AreTrees (sides_of all [] with_file with_file)
are-trees = record {
  in_order = in-order;
  root = refl;
  here = λ top path long below some. above-one top path long below (stands path some);
  there = drive;
}
