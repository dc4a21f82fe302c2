-- What is known of a path on each side: whether it is kept there, and whether it goes.
use Rattle.std.proofs.Common.{◌≡◌, ◌⊎◌, inl, inr, ℕ, Bool, true, false, not, ◌&&◌, ◌||◌, is_none, is_some, nat_eq, nat_lt, length, arith, List, [], ◌∷◌, Option, Some, None, refl, ap, sym, subst, ◌∙◌}
use Rattle.std.proofs.lemmas.Bool.{true≢false, false≢true, and_parts, and_from, or_parts, or_from, or_left, or_right, not-false, ltb-true, lt-ltb}
use Rattle.std.specs.Cmp.Lexicographic.{pointwise, same_text}
use Rattle.std.specs.List.{list_any}
use Rattle.gd_item.specs.declared.digest.Digest.{Digest}
use Rattle.od_merge.specs.declared.content.Content.{Content}
use Rattle.od_merge.specs.declared.content.Content.TheVariants.{Folder, File}
use Rattle.od_merge.specs.Sides.{Sides, at, same, is_path, is_from, is_below, is_folder, is_file, is_other_kind, is_kept, is_skipped, is_kept_there, paths_of}
use Rattle.od_merge.specs.Merging.{both_paths, is_changed, is_changed_or_skipped, is_conflict, is_conflict_of, is_going, is_going_node, is_left, is_needed, is_unwanted, target}
use Rattle.od_merge.specs.Steps.{IsClear}
use Rattle.od_merge.proofs.Lists.{Path, is_in, text-self, same-path, from-self, none-of, each-of, all-at, in-joined, at-in}
use Rattle.od_merge.proofs.Needs.{file-from, file-needs, from-below, makes_needed, none-below, none-more}

-- ---- what goes is not wanted, and a file that is not wanted goes
pub going-at : (s : Sides) (side : List (Path × Content)) (q : Path) (x : Option Content) → at side q ≡ x → is_going_node s side q x ≡ true → is_unwanted s side q ≡ true
going-at s side q None is going = absurd (false≢true going)
going-at s side q (Some Folder) is going =
    let has : is_in q (paths_of side) ≡ true = sym (at-in q side) ∙ ap (λ (x : Option Content). is_some x) is in
    let each = all-at (λ p. not (is_from q p) || is_unwanted s side p) q side going has in
    sym (ap (λ b. not b || is_unwanted s side q) (from-self q)) ∙ each
going-at s side q (Some (File d)) is going = going

file-going-at : (s : Sides) (side : List (Path × Content)) (q : Path) (x : Option Content) → is_file x ≡ true → is_unwanted s side q ≡ true → is_going_node s side q x ≡ true
file-going-at s side q None file unwanted = absurd (false≢true file)
file-going-at s side q (Some Folder) file unwanted = absurd (false≢true file)
file-going-at s side q (Some (File d)) file unwanted = unwanted

pub goes : (s : Sides) (side : List (Path × Content)) (q : Path) → is_going s side q ≡ true
    → (is_kept s.passes side q ≡ true) × ((is_none (target s q) || is_other_kind (at side q) (target s q)) ≡ true)
goes s side q going =
    let unwanted = going-at s side q (at side q) refl going in
    let parts = and_parts (is_kept s.passes side q && not (is_left s q)) (is_none (target s q) || is_other_kind (at side q) (target s q)) unwanted in
    ((and_parts (is_kept s.passes side q) (not (is_left s q)) parts.0).0, parts.1)

unwanted-from : (s : Sides) (side : List (Path × Content)) (q : Path) → is_left s q ≡ false → is_kept s.passes side q ≡ true
    → (is_none (target s q) || is_other_kind (at side q) (target s q)) ≡ true → is_unwanted s side q ≡ true
unwanted-from s side q not_left kept other =
    and_from (is_kept s.passes side q && not (is_left s q)) (is_none (target s q) || is_other_kind (at side q) (target s q))
    (and_from (is_kept s.passes side q) (not (is_left s q)) kept (ap (λ b. not b) not_left)) other

pub file-goes : (s : Sides) (side : List (Path × Content)) (q : Path) → is_left s q ≡ false → is_file (at side q) ≡ true → is_kept s.passes side q ≡ true
    → (is_none (target s q) || is_other_kind (at side q) (target s q)) ≡ true → is_going s side q ≡ true
file-goes s side q not_left file kept other = file-going-at s side q (at side q) file (unwanted-from s side q not_left kept other)

-- ---- what no conflict says
not-skipped : (some kept : Bool) → some ≡ true → (some && not kept) ≡ false → kept ≡ true
not-skipped true true is none = refl
not-skipped true false is none = absurd (true≢false none)
not-skipped false kept is none = absurd (false≢true is)

-- an entry that is neither changed nor skipped
pub record IsAsBase (s : Sides) (path : Path) : Type 0 where
  pub same_base : same (at s.local path) (s.base path) ≡ true
  pub kept : is_kept s.passes s.local path ≡ true

as-base : (s : Sides) (path : Path) → is_some (at s.local path) ≡ true → is_changed_or_skipped s path ≡ false → IsAsBase s path
as-base s path some is =
    let parts = or_parts (is_changed s path) (is_skipped s.passes s.local path) is in
    record { same_base = not-false (same (at s.local path) (s.base path)) parts.0; kept = not-skipped (is_some (at s.local path)) (is_kept s.passes s.local path) some parts.1 }

and-first : (a b : Bool) → a ≡ true → (b && a) ≡ false → b ≡ false
and-first a true is none = absurd (true≢false (sym is ∙ none))
and-first a false is none = refl

and-second : (a b : Bool) → a ≡ true → (a && b) ≡ false → b ≡ false
and-second true b is none = none
and-second false b is none = absurd (false≢true is)

-- a folder beside a file of the drive
pub folder-beside : (s : Sides) (q : Path) (d : Option Digest) → at s.local q ≡ Some Folder → at s.remote q ≡ Some (File d) → is_kept_there s q ≡ true → is_conflict s q ≡ false
    → (p : Path) → is_from q p ≡ true → is_some (at s.local p) ≡ true → IsAsBase s p
folder-beside s q d here there kept no_conflict p from some =
    let conflict : is_conflict_of s q (Some Folder) (Some (File d)) ≡ false = sym (ap (λ x. is_conflict_of s q x (at s.remote q)) here ∙ ap (λ x. is_conflict_of s q (Some Folder) x) there) ∙ no_conflict in
    let none = and-second (is_kept_there s q) (list_any (λ (entry : Path × Content). is_from q entry.0 && is_changed_or_skipped s entry.0) s.local) kept conflict in
    let at_p = none-of (λ r. is_from q r && is_changed_or_skipped s r) p s.local none (sym (at-in p s.local) ∙ some) in
    as-base s p some (and-second (is_from q p) (is_changed_or_skipped s p) from at_p)

-- a file beside a folder of the drive
pub file-beside : (s : Sides) (q : Path) (d : Option Digest) → at s.local q ≡ Some (File d) → at s.remote q ≡ Some Folder → is_kept_there s q ≡ true → is_conflict s q ≡ false → IsAsBase s q
file-beside s q d here there kept no_conflict =
    let conflict : is_conflict_of s q (Some (File d)) (Some Folder) ≡ false = sym (ap (λ x. is_conflict_of s q x (at s.remote q)) here ∙ ap (λ x. is_conflict_of s q (Some (File d)) x) there) ∙ no_conflict in
    as-base s q (ap (λ (x : Option Content). is_some x) here) (and-first (is_kept_there s q) (is_changed_or_skipped s q) kept conflict)

-- ---- the local side
pub either : (a b : Bool) → (a || b) ≡ true → b ≡ false → a ≡ true
either true b is none = refl
either false b is none = absurd (false≢true (sym none ∙ is))

pub twice : (a b : Bool) → (a || b) ≡ true → b ≡ a → a ≡ true
twice true b is same = refl
twice false b is same = sym same ∙ is

file-kept-by : (s : Sides) (q : Path) (x y : Option Content) → at s.local q ≡ x → at s.remote q ≡ y → IsClear s q → is_file x ≡ true → is_kept s.passes s.local q ≡ true
file-kept-by s q None y here there clear file = absurd (false≢true file)
file-kept-by s q (Some Folder) y here there clear file = absurd (false≢true file)
file-kept-by s q (Some (File d)) None here there clear file = either (is_kept s.passes s.local q) (is_kept s.passes s.remote q) clear.kept (rw there refl)
file-kept-by s q (Some (File d)) (Some (File e)) here there clear file =
    let passes_here : is_kept s.passes s.local q ≡ s.passes q false = rw here refl in
    let passes_there : is_kept s.passes s.remote q ≡ s.passes q false = rw there refl in
    twice (is_kept s.passes s.local q) (is_kept s.passes s.remote q) clear.kept (passes_there ∙ sym passes_here)
file-kept-by s q (Some (File d)) (Some Folder) here there clear file = (file-beside s q d here there clear.kept clear.no_conflict).kept

pub here-file-kept : (s : Sides) (q : Path) → IsClear s q → is_file (at s.local q) ≡ true → is_kept s.passes s.local q ≡ true
here-file-kept s q clear file = file-kept-by s q (at s.local q) (at s.remote q) refl refl clear file

pub is-folder : (x : Option Content) → is_folder x ≡ true → x ≡ Some Folder
is-folder None is = absurd (false≢true is)
is-folder (Some Folder) is = refl
is-folder (Some (File d)) is = absurd (false≢true is)

pub file-of : (x : Option Content) → is_file x ≡ true → (d : Option Digest) × (x ≡ Some (File d))
file-of None is = absurd (false≢true is)
file-of (Some Folder) is = absurd (false≢true is)
file-of (Some (File d)) is = (d, refl)

-- where a file comes in place of a local folder, it stands on the drive
file-there : (s : Sides) (q : Path) → at s.local q ≡ Some Folder → is_file (target s q) ≡ true → (target s q ≡ at s.local q) ⊎ (target s q ≡ at s.remote q) → target s q ≡ at s.remote q
file-there s q here file (inl is) = absurd (false≢true (sym (ap (λ x. is_file x) (is ∙ here)) ∙ file))
file-there s q here file (inr is) = is

folder-other : (x t : Option Content) → x ≡ Some Folder → is_file t ≡ true → (is_none t || is_other_kind x t) ≡ true
folder-other x None is file = absurd (false≢true file)
folder-other x (Some Folder) is file = absurd (false≢true file)
folder-other x (Some (File d)) is file = rw is refl

folder-going : (s : Sides) (q : Path) (t : Bool) (p : Path) → at s.local q ≡ Some Folder → is_file (target s q) ≡ true → is_needed s q ≡ false → is_left s p ≡ false
    → is_path q p ≡ t → is_from q p ≡ true → is_in p (both_paths s) ≡ true → (is_none (target s p) || is_other_kind (at s.local p) (target s p)) ≡ true
folder-going s q true p here file not_needed not_left is from has =
    subst (λ (r : Path). (is_none (target s r) || is_other_kind (at s.local r) (target s r)) ≡ true) (same-path q p is) (folder-other (at s.local q) (target s q) here file)
folder-going s q false p here file not_needed not_left is from has = ap (λ x. is_none x || is_other_kind (at s.local p) x) (none-below s q p not_needed (from-below q p from is) has)

-- two paths above a third one
prefix-step : (t : Bool) (x y : List ℕ) (a b : Path) → pointwise nat_eq x y ≡ true → pointwise nat_eq y x ≡ true → is_from a b ≡ t → (t || is_below b a) ≡ true → (is_from (x ∷ a) (y ∷ b) || is_below (y ∷ b) (x ∷ a)) ≡ true
prefix-step true x y a b xy yx from is = or_left (is_from (x ∷ a) (y ∷ b)) (is_below (y ∷ b) (x ∷ a)) (and_from (pointwise nat_eq x y) (is_from a b) xy from)
prefix-step false x y a b xy yx from is =
    let parts = and_parts (nat_lt (length b) (length a)) (is_from b a) is in
    let lower = ltb-true (length b) (length a) parts.0 in
    or_right (is_from (x ∷ a) (y ∷ b)) (is_below (y ∷ b) (x ∷ a))
    (and_from (nat_lt (length (y ∷ b)) (length (x ∷ a))) (is_from (y ∷ b) (x ∷ a)) (lt-ltb (length (y ∷ b)) (length (x ∷ a)) (omega (arith, lower)))
    (and_from (pointwise nat_eq y x) (is_from b a) yx parts.1))

pub prefixes : (a b c : Path) → is_from a c ≡ true → is_from b c ≡ true → (is_from a b || is_below b a) ≡ true
prefixes [] b c ac bc = refl
prefixes (x ∷ a) [] c ac bc = or_right (is_from (x ∷ a) []) (is_below [] (x ∷ a)) (from-below [] (x ∷ a) refl refl)
prefixes (x ∷ a) (y ∷ b) [] ac bc = absurd (false≢true ac)
prefixes (x ∷ a) (y ∷ b) (z ∷ c) ac bc =
    let first = and_parts (pointwise nat_eq x z) (is_from a c) ac in
    let second = and_parts (pointwise nat_eq y z) (is_from b c) bc in
    let same : x ≡ y = same_text x z (sym first.0) ∙ sym (same_text y z (sym second.0)) in
    prefix-step (is_from a b) x y a b (subst (λ (t : List ℕ). pointwise nat_eq x t ≡ true) same (text-self x)) (subst (λ (t : List ℕ). pointwise nat_eq y t ≡ true) (sym same) (text-self y))
    refl (prefixes a b c first.1 second.1)

-- what is from a path on that is not left, and need not be a folder, is not left
or-none : (f g : Path → Bool) (tops : List Path) → list_any f tops ≡ false → list_any g tops ≡ false → list_any (λ top. f top || g top) tops ≡ false
or-none f g [] no_f no_g = refl
or-none f g (top ∷ tops) no_f no_g =
    let first = or_parts (f top) (list_any f tops) no_f in
    let second = or_parts (g top) (list_any g tops) no_g in
    or_from (f top || g top) (list_any (λ t. f t || g t) tops) (or_from (f top) (g top) first.0 second.0) (or-none f g tops first.1 second.1)

pub not-left-below : (s : Sides) (q p : Path) → is_left s q ≡ false → is_needed s q ≡ false → is_from q p ≡ true → is_left s p ≡ false
not-left-below s q p not_left not_needed from =
    let parts = or_parts (list_any (makes_needed s q) (both_paths s)) (list_any (λ top. is_below q top) s.left) not_needed in
    none-more (λ top. is_from top p) (λ top. is_from top q || is_below q top) s.left (λ top is. prefixes top q p is from)
    (or-none (λ top. is_from top q) (λ top. is_below q top) s.left not_left parts.1)

-- ---- a local folder in whose place a file comes
one-goes : (s : Sides) (q p : Path) (t : Bool) → is_from q p ≡ t → is_left s q ≡ false → at s.local q ≡ Some Folder → is_file (target s q) ≡ true → is_needed s q ≡ false
    → ((r : Path) → is_from q r ≡ true → is_some (at s.local r) ≡ true → IsAsBase s r) → is_in p (paths_of s.local) ≡ true → (not t || is_unwanted s s.local p) ≡ true
one-goes s q p false from not_left here file free same_base has = refl
one-goes s q p true from not_left here file free same_base has =
    let left_none = not-left-below s q p not_left free from in
    let both = in-joined p (paths_of s.local) (paths_of s.remote) ∙ or_left (is_in p (paths_of s.local)) (is_in p (paths_of s.remote)) has in
    unwanted-from s s.local p left_none (same_base p from (at-in p s.local ∙ has)).kept (folder-going s q (is_path q p) p here file free left_none refl from both)

pub here-folder-goes : (s : Sides) (q : Path) → IsClear s q → is_folder (at s.local q) ≡ true → is_file (target s q) ≡ true
    → (is_kept s.passes s.local q ≡ true) × (is_going s s.local q ≡ true)
here-folder-goes s q clear folder file =
    let here = is-folder (at s.local q) folder in
    let there = file-there s q here file (file-from s q clear.kept clear.not_left file) in
    let remote = file-of (at s.remote q) (sym (ap (λ x. is_file x) there) ∙ file) in
    let same_base = folder-beside s q remote.0 here remote.1 clear.kept clear.no_conflict in
    let free = (file-needs s q file).0 in
    let some : is_some (at s.local q) ≡ true = ap (λ (x : Option Content). is_some x) here in (
      (same_base q (from-self q) some).kept,
      subst (λ (x : Option Content). is_going_node s s.local q x ≡ true) (sym here)
          (each-of (λ p. not (is_from q p) || is_unwanted s s.local p) s.local (λ p has. one-goes s q p (is_from q p) refl clear.not_left here file free same_base has)),
    )
