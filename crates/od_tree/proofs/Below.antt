-- What stands at and below a path, in a list of entries in order of path.
use Rattle.std.proofs.Common.{◌≡◌, ℕ, ◌+◌, ◌⊎◌, inl, inr, Bool, true, false, not, ◌&&◌, cond, List, [], ◌∷◌, ◌++◌, length, nat_eq, refl, ap, sym, subst, ◌∙◌, arith}
use Rattle.std.proofs.lemmas.Bool.{and_parts, eq-eqb, eqb-true}
use Rattle.std.specs.Cmp.Lexicographic.{pointwise, slice_cmp, same_text, nat_list_cmp_total}
use Rattle.std.specs.List.{AllByRecursion}
use Rattle.std.specs.Ordering.{nat_cmp, ordering_then}
use Rattle.std.specs.declared.cmp.Ordering.{Ordering}
use Rattle.std.specs.declared.cmp.Ordering.TheVariants.{Less, Equal, Greater}
use Rattle.std.proofs.lemmas.Cmp.{tied_itself}
use Rattle.gd_names.specs.Ordered.{path_cmp}
use Rattle.gd_item.specs.Places.{last_name}
use Rattle.od_tree.specs.Local.{is_path, is_from}
use Rattle.od_tree.specs.Listing.{is_right_below}
use Rattle.od_tree.proofs.Paths.{path-self, same-path, text-self}
use Rattle.gd_names.proofs.Ordered.{Path, Above, Rises, In, kept, all-in, rises-kept, paths-total}

abbrev pub is_below : Path → Path → Bool
is_below top path = is_from top path && not (is_path top path)

one-test : (a b c : Bool) → ((a && b) && not (a && c)) ≡ true → (a ≡ true) × ((b && not c) ≡ true)
one-test true b c is = (refl, is)
one-test false b c is = absurd (cc is)

pub right-parts : (top path : Path) → is_right_below top path ≡ true → (is_from top path ≡ true) × (length path ≡ length top + 1)
right-parts top path is =
    let parts = and_parts (is_from top path) (nat_eq (length path) (length top + 1)) is in (parts.0, eqb-true (length path) (length top + 1) parts.1)

right-below : (top path : Path) → is_from top path ≡ true → length path ≡ length top + 1 → is_right_below top path ≡ true
right-below top path is long = rw (is) (eq-eqb (length path) (length top + 1) long)

below-next : (x y : List ℕ) (top path : Path) → is_below (x ∷ top) (y ∷ path) ≡ true → (pointwise nat_eq x y ≡ true) × (is_below top path ≡ true)
below-next x y top path below = one-test (pointwise nat_eq x y) (is_from top path) (is_path top path) below

pub from-self : (a : Path) → is_from a a ≡ true
from-self [] = refl
from-self (x ∷ a) = rw (text-self x) (from-self a)

text-tied : (x : List ℕ) → slice_cmp nat_cmp x x ≡ Equal
text-tied x = tied_itself nat_list_cmp_total x

-- a path is not after those from it on
pub not-after : (top path : Path) → is_from top path ≡ true → path_cmp path top ≡ Less → ⊥
not-after [] [] from low = absurd (cc low)
not-after [] (y ∷ path) from low = absurd (cc low)
not-after (x ∷ top) [] from low = absurd (cc from)
not-after (x ∷ top) (y ∷ path) from low =
    let parts = and_parts (pointwise nat_eq x y) (is_from top path) from in
    let tied : slice_cmp nat_cmp y x ≡ Equal = subst (λ (z : List ℕ). slice_cmp nat_cmp y z ≡ Equal) (sym (same_text x y (sym parts.0))) (text-tied y) in
    not-after top path parts.1 (sym (ap (λ o. ordering_then o (path_cmp path top)) tied) ∙ low)

-- two paths of one length, and what is from each on
apart-at : (o : Ordering) (p q : Ordering) → ordering_then o p ≡ Less → (p ≡ Less → q ≡ Less) → ordering_then o q ≡ Less
apart-at Less p q low next = refl
apart-at Equal p q low next = next low
apart-at Greater p q low next = absurd (cc low)

pub apart : (a b c d : Path) → path_cmp a b ≡ Less → length a ≡ length b → is_from a c ≡ true → is_from b d ≡ true → path_cmp c d ≡ Less
apart [] [] c d low long from_a from_b = absurd (cc low)
apart [] (y ∷ b) c d low long from_a from_b = absurd (omega (arith, long))
apart (x ∷ a) [] c d low long from_a from_b = absurd (omega (arith, long))
apart (x ∷ a) (y ∷ b) [] d low long from_a from_b = absurd (cc from_a)
apart (x ∷ a) (y ∷ b) (z ∷ c) [] low long from_a from_b = absurd (cc from_b)
apart (x ∷ a) (y ∷ b) (z ∷ c) (w ∷ d) low long from_a from_b =
    let first = and_parts (pointwise nat_eq x z) (is_from a c) from_a in
    let second = and_parts (pointwise nat_eq y w) (is_from b d) from_b in
    let lower : ordering_then (slice_cmp nat_cmp z w) (path_cmp a b) ≡ Less =
    sym (ap (λ (s : List ℕ). ordering_then (slice_cmp nat_cmp s y) (path_cmp a b)) (same_text x z (sym first.0)) ∙ ap (λ (s : List ℕ). ordering_then (slice_cmp nat_cmp z s) (path_cmp a b)) (same_text y w (sym second.0))) ∙ low in
    apart-at (slice_cmp nat_cmp z w) (path_cmp a b) (path_cmp c d) lower
    (λ less. apart a b c d less (omega (arith, long)) first.1 second.1)

-- the path right below another one, on the way to one below it
abbrev pub step_to : Path → Path → Path
step_to [] [] = []
step_to [] (name ∷ path) = name ∷ []
step_to (x ∷ top) [] = []
step_to (x ∷ top) (y ∷ path) = y ∷ step_to top path

right-here : (x y : List ℕ) (top path : Path) → pointwise nat_eq x y ≡ true → is_right_below top path ≡ true → is_right_below (x ∷ top) (y ∷ path) ≡ true
right-here x y top path same right =
    let parts = right-parts top path right in
    let here : is_from (x ∷ top) (y ∷ path) ≡ true = rw (same) parts.0 in
    right-below (x ∷ top) (y ∷ path) here (omega (arith, parts.1))

pub step-right : (top path : Path) → is_below top path ≡ true → is_right_below top (step_to top path) ≡ true
step-right [] [] below = absurd (cc below)
step-right [] (name ∷ path) below = refl
step-right (x ∷ top) [] below = absurd (cc below)
step-right (x ∷ top) (y ∷ path) below =
    let parts = below-next x y top path below in
    right-here x y top (step_to top path) parts.0 (step-right top path parts.1)

pub step-from : (top path : Path) → is_below top path ≡ true → is_from (step_to top path) path ≡ true
step-from [] [] below = refl
step-from [] (name ∷ path) below = rw (text-self name) refl
step-from (x ∷ top) [] below = absurd (cc below)
step-from (x ∷ top) (y ∷ path) below =
    let parts = below-next x y top path below in rw (text-self y) (step-from top path parts.1)

-- the name after the path
right-next : (x y : List ℕ) (top path : Path) → is_right_below (x ∷ top) (y ∷ path) ≡ true → (pointwise nat_eq x y ≡ true) × (is_right_below top path ≡ true)
right-next x y top path right =
    let parts = right-parts (x ∷ top) (y ∷ path) right in
    let first = and_parts (pointwise nat_eq x y) (is_from top path) parts.0 in
    (first.0, right-below top path first.1 (omega (arith, parts.1)))

pub right-name : (top path : Path) → is_right_below top path ≡ true → top ++ last_name path ∷ [] ≡ path
right-name [] [] right = absurd (omega (arith, (right-parts [] [] right).1))
right-name [] (name ∷ []) right = refl
right-name [] (name ∷ next ∷ path) right = absurd (omega (arith, (right-parts [] (name ∷ next ∷ path) right).1))
right-name (x ∷ top) [] right = absurd (omega (arith, (right-parts (x ∷ top) [] right).1))
right-name (x ∷ top) (y ∷ []) right = absurd (omega (arith, (right-parts (x ∷ top) (y ∷ []) right).1))
right-name (x ∷ top) (y ∷ z ∷ path) right =
    let parts = right-next x y top (z ∷ path) right in
    ap (λ s. s ∷ top ++ last_name (z ∷ path) ∷ []) (same_text x y (sym parts.0)) ∙ ap (λ rest. y ∷ rest) (right-name top (z ∷ path) parts.1)

pub right-then-below : (top path last : Path) → is_right_below top path ≡ true → is_from path last ≡ true → is_below top last ≡ true
right-then-below [] [] last right from = absurd (omega (arith, (right-parts [] [] right).1))
right-then-below [] (y ∷ path) [] right from = absurd (cc from)
right-then-below [] (y ∷ path) (z ∷ last) right from = refl
right-then-below (x ∷ top) [] last right from = absurd (omega (arith, (right-parts (x ∷ top) [] right).1))
right-then-below (x ∷ top) (y ∷ path) [] right from = absurd (cc from)
right-then-below (x ∷ top) (y ∷ path) (z ∷ last) right from =
    let parts = right-next x y top path right in
    let here = and_parts (pointwise nat_eq y z) (is_from path last) from in
    let first : pointwise nat_eq x z ≡ true = subst (λ (n : List ℕ). pointwise nat_eq n z ≡ true) (sym (same_text x y (sym parts.0))) here.0 in
    rw (first) (right-then-below top path last parts.1 here.1)

false-by : (b : Bool) → (b ≡ true → ⊥) → b ≡ false
false-by true never = absurd (never refl)
false-by false never = refl

not-both : (a b path : Path) → path_cmp a b ≡ Less → length a ≡ length b → is_from b path ≡ true → not (is_from a path) ≡ true
not-both a b path low long here =
    ap not (false-by (is_from a path) (λ from_a. absurd (cc (sym (tied_itself paths-total path) ∙ apart a b path path low long from_a here))))

below-or-here : (b : Bool) (f : Bool) → b ≡ false → (f && not b) ≡ f
below-or-here true f is = absurd (cc is)
below-or-here false true is = refl
below-or-here false false is = refl

pub lower-apart : (a b : Path) → path_cmp a b ≡ Less → is_path a b ≡ false
lower-apart a b low = false-by (is_path a b) (λ same. absurd (cc (sym (tied_itself paths-total b) ∙ sym (ap (λ (p : Path). path_cmp p b) (same-path a b same)) ∙ low)))

-- ---- entries
module _ {X : Type 0} where
  abbrev pub from : Path → List (Path × X) → List (Path × X)
  from top entries = kept (is_from top) entries

  abbrev pub below : Path → List (Path × X) → List (Path × X)
  below top entries = kept (is_below top) entries

  -- the entries from each of these on
  abbrev pub spread : List (Path × X) → List (Path × X) → List (Path × X)
  spread [] entries = []
  spread (top ∷ tops) entries = from top.0 entries ++ spread tops entries

  abbrev pub Under : Path × X → List (Path × X) → Type 0
  Under entry [] = ⊥
  Under entry (top ∷ tops) = (is_from top.0 entry.0 ≡ true) ⊎ Under entry tops

  none-kept : (test : Path → Bool) (entries : List (Path × X)) → AllByRecursion (λ (entry : Path × X). test entry.0 ≡ false) entries → kept test entries ≡ []
  none-kept test [] none = refl
  none-kept test (entry ∷ entries) none = rw (none.0) (none-kept test entries none.1)

  agree-kept : (test other : Path → Bool) (entries : List (Path × X)) → AllByRecursion (λ (entry : Path × X). test entry.0 ≡ other entry.0) entries → kept test entries ≡ kept other entries
  agree-kept test other [] same = refl
  agree-kept test other (entry ∷ entries) same = rw (same.0) (ap (λ more. cond (other entry.0) (entry ∷ more) more) (agree-kept test other entries same.1))

  all-kept-pass : (test : Path → Bool) (entries : List (Path × X)) → kept test entries ≡ [] → AllByRecursion (λ (entry : Path × X). test entry.0 ≡ true) entries → entries ≡ []
  all-kept-pass test [] none pass = refl
  all-kept-pass test (entry ∷ entries) none pass = absurd (cc (sym (ap (λ b. cond b (entry ∷ kept test entries) (kept test entries)) pass.0) ∙ none))

  -- the entries from a path on, and the others, where no other is before one of them
  split-at : (b : Bool) (test : Path → Bool) (entry : Path × X) (entries : List (Path × X)) → test entry.0 ≡ b
      → kept test entries ++ kept (λ path. not (test path)) entries ≡ entries → (b ≡ false → AllByRecursion (λ (other : Path × X). test other.0 ≡ false) entries)
      → kept test (entry ∷ entries) ++ kept (λ path. not (test path)) (entry ∷ entries) ≡ entry ∷ entries
  split-at true test entry entries is rest none = rw (is) (ap (λ more. entry ∷ more) rest)
  split-at false test entry entries is rest none =
      let gone : kept test entries ≡ [] = none-kept test entries (none refl) in
      rw (is, gone) (ap (λ more. entry ∷ more) (sym (ap (λ (front : List (Path × X)). front ++ kept (λ path. not (test path)) entries) gone) ∙ rest))

  -- an entry that is under a later top is before none that is under this one
  not-under : (n : ℕ) (top : Path × X) (entry other : Path × X) (tops : List (Path × X)) → length top.0 ≡ n → AllByRecursion (λ (t : Path × X). length t.0 ≡ n) tops
      → Above top.0 tops → Under entry tops → path_cmp entry.0 other.0 ≡ Less → is_from top.0 other.0 ≡ true → ⊥
  not-under n top entry other [] long lengths above under low here = absurd under
  not-under n top entry other (first ∷ tops) long lengths above (inl first_here) low here =
      let earlier : path_cmp other.0 entry.0 ≡ Less = apart top.0 first.0 other.0 entry.0 above.0 (long ∙ sym lengths.0) here first_here in
      let itself : path_cmp entry.0 entry.0 ≡ Less = paths-total.trans entry.0 other.0 entry.0 low earlier in
      absurd (cc (sym (tied_itself paths-total entry.0) ∙ itself))
  not-under n top entry other (first ∷ tops) long lengths above (inr more) low here = not-under n top entry other tops long lengths.1 above.1 more low here

  none-after : (n : ℕ) (top entry : Path × X) (tops entries : List (Path × X)) → length top.0 ≡ n → AllByRecursion (λ (t : Path × X). length t.0 ≡ n) tops → Above top.0 tops
      → Under entry tops → Above entry.0 entries → AllByRecursion (λ (other : Path × X). is_from top.0 other.0 ≡ false) entries
  none-after n top entry tops [] long lengths above under low = tt
  none-after n top entry tops (other ∷ entries) long lengths above under low =
      (false-by (is_from top.0 other.0) (λ here. not-under n top entry other tops long lengths above under low.0 here), none-after n top entry tops entries long lengths above under low.1)

  later : (top entry : Path × X) (tops : List (Path × X)) → Under entry (top ∷ tops) → is_from top.0 entry.0 ≡ false → Under entry tops
  later top entry tops (inl here) not_here = absurd (cc (sym here ∙ not_here))
  later top entry tops (inr more) not_here = more

  split-from : (n : ℕ) (top : Path × X) (tops entries : List (Path × X)) → length top.0 ≡ n → AllByRecursion (λ (t : Path × X). length t.0 ≡ n) tops → Above top.0 tops
      → Rises entries → AllByRecursion (λ (entry : Path × X). Under entry (top ∷ tops)) entries
      → from top.0 entries ++ kept (λ path. not (is_from top.0 path)) entries ≡ entries
  split-from n top tops [] long lengths above rises under = refl
  split-from n top tops (entry ∷ entries) long lengths above rises under =
      split-at (is_from top.0 entry.0) (is_from top.0) entry entries refl (split-from n top tops entries long lengths above rises.1 under.1)
      (λ not_here. none-after n top entry tops entries long lengths above (later top entry tops under.0 not_here) rises.0)

  -- what is from another top on is not from this one on
  kept-twice-at : (b c : Bool) (entry : Path × X) (one two : List (Path × X)) → (b ≡ true → c ≡ true) → one ≡ two → cond c (cond b (entry ∷ one) one) one ≡ cond b (entry ∷ two) two
  kept-twice-at true true entry one two so same = ap (λ more. entry ∷ more) same
  kept-twice-at true false entry one two so same = absurd (cc (so refl))
  kept-twice-at false true entry one two so same = same
  kept-twice-at false false entry one two so same = same

  kept-if : (c : Bool) (test : Path → Bool) (entry : Path × X) (entries : List (Path × X)) → kept test (cond c (entry ∷ entries) entries) ≡ cond c (cond (test entry.0) (entry ∷ kept test entries) (kept test entries)) (kept test entries)
  kept-if true test entry entries = refl
  kept-if false test entry entries = refl

  pub kept-twice : (test wider : Path → Bool) (entries : List (Path × X)) → ((path : Path) → test path ≡ true → wider path ≡ true) → kept test (kept wider entries) ≡ kept test entries
  kept-twice test wider [] so = refl
  kept-twice test wider (entry ∷ entries) so =
      kept-if (wider entry.0) test entry (kept wider entries)
      ∙ kept-twice-at (test entry.0) (wider entry.0) entry (kept test (kept wider entries)) (kept test entries) (so entry.0) (kept-twice test wider entries so)

  spread-others : (n : ℕ) (top : Path × X) (tops entries : List (Path × X)) → length top.0 ≡ n → AllByRecursion (λ (t : Path × X). length t.0 ≡ n) tops → Above top.0 tops
      → spread tops (kept (λ path. not (is_from top.0 path)) entries) ≡ spread tops entries
  spread-others n top [] entries long lengths above = refl
  spread-others n top (first ∷ tops) entries long lengths above =
      ap (λ (front : List (Path × X)). front ++ spread tops (kept (λ path. not (is_from top.0 path)) entries))
      (kept-twice (is_from first.0) (λ path. not (is_from top.0 path)) entries (λ path here. not-both top.0 first.0 path above.0 (long ∙ sym lengths.0) here))
      ∙ ap (λ (rest : List (Path × X)). from first.0 entries ++ rest) (spread-others n top tops entries long lengths.1 above.1)

  later-if : (b : Bool) (top entry : Path × X) (tops entries : List (Path × X)) → is_from top.0 entry.0 ≡ b → Under entry (top ∷ tops) → AllByRecursion (λ (e : Path × X). Under e tops) entries
      → AllByRecursion (λ (e : Path × X). Under e tops) (cond (not b) (entry ∷ entries) entries)
  later-if true top entry tops entries is under all = all
  later-if false top entry tops entries is under all = (later top entry tops under is, all)

  all-later : (top : Path × X) (tops entries : List (Path × X)) → AllByRecursion (λ (entry : Path × X). Under entry (top ∷ tops)) entries
      → AllByRecursion (λ (entry : Path × X). Under entry tops) (kept (λ path. not (is_from top.0 path)) entries)
  all-later top tops [] under = tt
  all-later top tops (entry ∷ entries) under = later-if (is_from top.0 entry.0) top entry tops (kept (λ path. not (is_from top.0 path)) entries) refl under.0 (all-later top tops entries under.1)

  pub spread-all : (n : ℕ) (tops entries : List (Path × X)) → Rises tops → AllByRecursion (λ (t : Path × X). length t.0 ≡ n) tops → Rises entries
      → AllByRecursion (λ (entry : Path × X). Under entry tops) entries → spread tops entries ≡ entries
  spread-all n [] [] rising lengths rises under = refl
  spread-all n [] (entry ∷ entries) rising lengths rises under = absurd under.0
  spread-all n (top ∷ tops) entries rising lengths rises under =
      ap (λ (rest : List (Path × X)). from top.0 entries ++ rest)
      (sym (spread-others n top tops entries lengths.0 lengths.1 rising.0)
      ∙ spread-all n tops (kept (λ path. not (is_from top.0 path)) entries) rising.1 lengths.1 (rises-kept (λ path. not (is_from top.0 path)) entries rises) (all-later top tops entries under))
      ∙ split-from n top tops entries lengths.0 lengths.1 rising.0 rises under

  -- ---- an entry, and what is below it
  only-below : (top : Path) (entries : List (Path × X)) → Above top entries → AllByRecursion (λ (entry : Path × X). is_from top entry.0 ≡ is_below top entry.0) entries
  only-below top [] above = tt
  only-below top (entry ∷ entries) above =
      (sym (below-or-here (is_path top entry.0) (is_from top entry.0) (lower-apart top entry.0 above.0)), only-below top entries above.1)

  skip-both : (b c : Bool) (entry first : Path × X) (fs bs : List (Path × X)) → b ≡ false → fs ≡ entry ∷ bs → cond b (first ∷ fs) fs ≡ entry ∷ cond (b && c) (first ∷ bs) bs
  skip-both true c entry first fs bs is same = absurd (cc is)
  skip-both false c entry first fs bs is same = same

  here-first : (first : Path × X) (entries : List (Path × X)) → Above first.0 entries → from first.0 (first ∷ entries) ≡ first ∷ below first.0 (first ∷ entries)
  here-first first entries above =
      rw (from-self first.0, path-self first.0) (ap (λ more. first ∷ more) (agree-kept (is_from first.0) (is_below first.0) entries (only-below first.0 entries above)))

  pub here-and-below : (entry : Path × X) (entries : List (Path × X)) → Rises entries → In entry entries → from entry.0 entries ≡ entry ∷ below entry.0 entries
  here-and-below entry [] rises is = absurd is
  here-and-below entry (first ∷ entries) rises (inl same) =
      subst (λ (e : Path × X). from e.0 (first ∷ entries) ≡ e ∷ below e.0 (first ∷ entries)) (sym same) (here-first first entries rises.0)
  here-and-below entry (first ∷ entries) rises (inr more) =
      let low : path_cmp first.0 entry.0 ≡ Less = all-in (λ (other : Path × X). path_cmp first.0 other.0 ≡ Less) entry entries rises.0 more in
      skip-both (is_from entry.0 first.0) (not (is_path entry.0 first.0)) entry first (from entry.0 entries) (below entry.0 entries)
      (false-by (is_from entry.0 first.0) (λ here. not-after entry.0 first.0 here low)) (here-and-below entry entries rises.1 more)

  -- ---- what is below a path is what is from the entries right below it on
  under-first : (b : Bool) (entry first : Path × X) (entries : List (Path × X)) → b ≡ true → is_from first.0 entry.0 ≡ true → Under entry (cond b (first ∷ entries) entries)
  under-first true entry first entries is here = inl here
  under-first false entry first entries is here = absurd (cc is)

  under-more : (b : Bool) (entry first : Path × X) (entries : List (Path × X)) → Under entry entries → Under entry (cond b (first ∷ entries) entries)
  under-more true entry first entries under = inr under
  under-more false entry first entries under = under

  pub in-kept-under : (test : Path → Bool) (top entry : Path × X) (entries : List (Path × X)) → In top entries → test top.0 ≡ true → is_from top.0 entry.0 ≡ true → Under entry (kept test entries)
  in-kept-under test top entry [] is pass here = absurd is
  in-kept-under test top entry (first ∷ entries) (inl same) pass here =
      under-first (test first.0) entry first (kept test entries) (sym (ap (λ (t : Path × X). test t.0) same) ∙ pass) (subst (λ (t : Path × X). is_from t.0 entry.0 ≡ true) same here)
  in-kept-under test top entry (first ∷ entries) (inr more) pass here = under-more (test first.0) entry first (kept test entries) (in-kept-under test top entry entries more pass here)
