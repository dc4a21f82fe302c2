-- What a scan finds is a tree in order of path, whatever the user does meanwhile: each entry comes before those that wait, and
-- the folders above both were found.
use Rattle.std.proofs.Common.{◌≡◌, ℕ, suc, inl, inr, Bool, true, false, ◌&&◌, cond, List, [], ◌∷◌, ◌++◌, length, nat_eq, nat_lt, is_some, Option, Some, None, refl, ap, sym, subst, ◌∙◌, arith}
use Rattle.std.proofs.lemmas.Bool.{and_parts}
use Rattle.std.proofs.lemmas.Cmp.{tied_itself}
use Rattle.std.proofs.lemmas.List.{append-nil}
use Rattle.std.proofs.lemmas.Map.Lookups.{exact_bytes}
use Rattle.std.specs.Cmp.Lexicographic.{pointwise, slice_cmp, same_text, nat_list_cmp_total}
use Rattle.std.specs.List.{AllByRecursion}
use Rattle.std.specs.List.Sorted.{IsStrictlySortedBy}
use Rattle.std.specs.Ordering.{nat_cmp, ordering_then}
use Rattle.std.specs.declared.cmp.Ordering.{Ordering}
use Rattle.std.specs.declared.cmp.Ordering.TheVariants.{Less, Equal, Greater}
use Rattle.gd_names.specs.Ordered.{path_cmp}
use Rattle.gd_names.proofs.Each.{each-always, each-append, each-both, each-so}
use Rattle.gd_names.proofs.Ordered.{Path, Above, In, Rises, paths-total}
use Rattle.od_merge.specs.Sides.{at, paths_of}
use Rattle.od_merge.proofs.Lists.{from-through}
use Rattle.od_reconcile.specs.Entries.{local_tree, node_content}
use Rattle.od_reconcile.specs.declared.types.Node.{Node}
use Rattle.od_reconcile.specs.declared.types.Node.TheVariants.{Folder}
use Rattle.od_synclist.specs.declared.rule.Rule.{Rule}
use Rattle.od_tree.specs.Listing.{entries_in}
use Rattle.od_tree.specs.Local.{is_path, is_from, is_folder_at}
use Rattle.od_tree.specs.Shape.{IsTree}
use Rattle.od_tree.specs.declared.entry.Entry.{Entry}
use Rattle.od_tree.specs.declared.local.Spot.{Spot}
use Rattle.od_tree.proofs.Below.{apart, from-self}
use Rattle.od_tree.proofs.Paths.{from-all, path-self, same-path, text-self}
use Rattle.od_scan.specs.Scans.{IsFoundTree}
use Rattle.od_scan.specs.Visits.{Turn, VisitsAs, entry_turn, file_at_turn, file_found, folder_found, pushed, pushed_if}
use Rattle.od_scan.proofs.Scanned.{EntriesRise, all-front, all-last, children-rise, none-if}

-- ---- paths
step-at : (o p q : Ordering) → ordering_then o p ≡ Less → (o ≡ Equal → p ≡ Less → q ≡ Less) → ordering_then o q ≡ Less
step-at Less p q low next = refl
step-at Equal p q low next = next refl low
step-at Greater p q low next = absurd (cc low)

-- the first comes before the second, which is not below it
abbrev pub Before : Path → Path → Type 0
Before a b = (path_cmp a b ≡ Less) × (is_from a b ≡ false)

from-before : (a b c : Path) → Before a b → is_from a c ≡ true → path_cmp c b ≡ Less
from-before [] b c before is = absurd (cc before.1)
from-before (x ∷ a) [] c before is = absurd (cc before.0)
from-before (x ∷ a) (y ∷ b) [] before is = absurd (cc is)
from-before (x ∷ a) (y ∷ b) (z ∷ c) before is =
    let parts = and_parts (pointwise nat_eq x z) (is_from a c) is in
    let same : x ≡ z = same_text x z (sym parts.0) in
    let low : ordering_then (slice_cmp nat_cmp z y) (path_cmp a b) ≡ Less = ap (λ (s : List ℕ). ordering_then (slice_cmp nat_cmp s y) (path_cmp a b)) (sym same) ∙ before.0 in
    step-at (slice_cmp nat_cmp z y) (path_cmp a b) (path_cmp c b) low (λ tied less.
    let one : pointwise nat_eq x y ≡ true = subst (λ (s : List ℕ). pointwise nat_eq x s ≡ true) (same ∙ exact_bytes z y tied) (text-self x) in
    from-before a b c (less, ap (λ t. t && is_from a b) (sym one) ∙ before.1) parts.1)

before-from : (a b c : Path) → Before a b → is_from a c ≡ true → Before c b
before-from a b c before is = (from-before a b c before is, none-if (is_from c b) (λ on. absurd (cc (from-through a c b is on, before.1))))

child-later : (top : Path) (name : List ℕ) → path_cmp top (top ++ name ∷ []) ≡ Less
child-later [] name = refl
child-later (x ∷ top) name = ap (λ o. ordering_then o (path_cmp top (top ++ name ∷ []))) (tied_itself nat_list_cmp_total x) ∙ child-later top name

child-named : (top : Path) (name : List ℕ) → is_path [] (top ++ name ∷ []) ≡ false
child-named [] name = refl
child-named (x ∷ top) name = refl

-- what is above a child is its folder, or above that
above-child : (top path : Path) (name : List ℕ) → is_from top (path ++ name ∷ []) ≡ true → is_path top (path ++ name ∷ []) ≡ false → is_from top path ≡ true
above-child [] path name on off = refl
above-child (x ∷ []) [] name on off = absurd (cc (sym on ∙ off))
above-child (x ∷ y ∷ top) [] name on off = absurd (cc ((and_parts (pointwise nat_eq x name) (is_from (y ∷ top) []) on).1))
above-child (x ∷ top) (y ∷ path) name on off =
    let parts = and_parts (pointwise nat_eq x y) (is_from top (path ++ name ∷ [])) on in
    ap (λ t. t && is_from top path) parts.0 ∙ above-child top path name parts.1 (ap (λ t. t && is_path top (path ++ name ∷ [])) (sym parts.0) ∙ off)

-- ---- lists
in-more : (entry : Path × Node) (found more : List (Path × Node)) → In entry found → In entry (found ++ more)
in-more entry [] more is = absurd is
in-more entry (first ∷ found) more (inl same) = inl same
in-more entry (first ∷ found) more (inr is) = inr (in-more entry found more is)

in-last : (entry : Path × Node) (found : List (Path × Node)) → In entry (found ++ entry ∷ [])
in-last entry [] = inl refl
in-last entry (first ∷ found) = inr (in-last entry found)

rises-last : (found : List (Path × Node)) (entry : Path × Node) → Rises found → AllByRecursion (λ (e : Path × Node). path_cmp e.0 entry.0 ≡ Less) found → Rises (found ++ entry ∷ [])
rises-last [] entry rises low = (tt, tt)
rises-last (first ∷ found) entry rises low =
    (each-append (λ (e : Path × Node). path_cmp first.0 e.0 ≡ Less) found (entry ∷ []) rises.0 (low.0, tt), rises-last found entry rises.1 low.1)

-- ---- the folders above a path were found
abbrev pub Tops : List (Path × Node) → Path → Type 0
Tops found path = (top : Path) → is_from top path ≡ true → is_path top path ≡ false → is_path [] top ≡ false → In (top, Folder) found

tops-more : (found more : List (Path × Node)) (path : Path) → Tops found path → Tops (found ++ more) path
tops-more found more path tops = λ top on off named. in-more (top, Folder) found more (tops top on off named)

tops-if : (b : Bool) (top path : Path) (found : List (Path × Node)) → is_path top path ≡ b → In (path, Folder) found → (is_path top path ≡ false → In (top, Folder) found) → In (top, Folder) found
tops-if true top path found is here above = subst (λ (p : Path). In (p, Folder) found) (sym (same-path top path is)) here
tops-if false top path found is here above = above is

tops-child : (found : List (Path × Node)) (path : Path) (name : List ℕ) → Tops found path → In (path, Folder) found → Tops found (path ++ name ∷ [])
tops-child found path name tops here =
    λ top on off named. tops-if (is_path top path) top path found refl here (λ apart_it. tops top (above-child top path name on off) apart_it named)

tops-first : (found : List (Path × Node)) (name : List ℕ) (top : Path) → is_from top (name ∷ []) ≡ true → is_path top (name ∷ []) ≡ false → is_path [] top ≡ false → In (top, Folder) found
tops-first found name [] on off named = absurd (cc named)
tops-first found name (x ∷ top) on off named = absurd (cc (above-child (x ∷ top) [] name on off))

-- a path that comes after what was found
pub record Fits (found : List (Path × Node)) (path : Path) : Type 0 where
  pub low : AllByRecursion (λ (e : Path × Node). path_cmp e.0 path ≡ Less) found
  pub named : is_path [] path ≡ false
  pub tops : Tops found path

low-more : (found : List (Path × Node)) (path later : Path) → path_cmp path later ≡ Less → AllByRecursion (λ (e : Path × Node). path_cmp e.0 path ≡ Less) found → AllByRecursion (λ (e : Path × Node). path_cmp e.0 later ≡ Less) found
low-more found path later less low = each-so (λ (e : Path × Node). path_cmp e.0 path ≡ Less) (λ (e : Path × Node). path_cmp e.0 later ≡ Less) (λ entry is. paths-total.trans entry.0 path later is less) found low

fits-more : (found : List (Path × Node)) (path : Path) (node : Node) (later : Path) → Fits found later → path_cmp path later ≡ Less → Fits (found ++ (path, node) ∷ []) later
fits-more found path node later fits less = record {
  low = each-append (λ (e : Path × Node). path_cmp e.0 later ≡ Less) found ((path, node) ∷ []) fits.low (less, tt);
  named = fits.named;
  tops = tops-more found ((path, node) ∷ []) later fits.tops;
}

fits-child : (found : List (Path × Node)) (path : Path) (name : List ℕ) → Fits found path → Fits (found ++ (path, Folder) ∷ []) (path ++ name ∷ [])
fits-child found path name fits =
    let less = child-later path name in
    record {
      low = each-append (λ (e : Path × Node). path_cmp e.0 (path ++ name ∷ []) ≡ Less) found ((path, Folder) ∷ []) (low-more found path (path ++ name ∷ []) less fits.low) (less, tt);
      named = child-named path name;
      tops = tops-child (found ++ (path, Folder) ∷ []) path name (tops-more found ((path, Folder) ∷ []) path fits.tops) (in-last (path, Folder) found);
    }

-- ---- what waits, the first of it last
abbrev pub Descends : List Turn → Type 0
Descends [] = Unit {0}
Descends (turn ∷ stack) = AllByRecursion (λ (t : Turn). Before t.path turn.path) stack × Descends stack

descends-front : (stack : List Turn) (turn : Turn) → Descends (stack ++ turn ∷ []) → Descends stack × AllByRecursion (λ (t : Turn). Before turn.path t.path) stack
descends-front [] turn down = (tt, tt)
descends-front (first ∷ stack) turn down =
    let here = all-front (λ (t : Turn). Before t.path first.path) stack turn down.0 in
    let rest = descends-front stack turn down.1 in
    ((here.0, rest.0), (here.1, rest.1))

descends-last : (stack : List Turn) (turn : Turn) → Descends stack → AllByRecursion (λ (t : Turn). Before turn.path t.path) stack → Descends (stack ++ turn ∷ [])
descends-last [] turn down before = (tt, tt)
descends-last (first ∷ stack) turn down before = (all-last (λ (t : Turn). Before t.path first.path) stack turn down.0 before.0, descends-last stack turn down.1 before.1)

all-pushed : (Q : Turn → Type 0) (path : Path) (entries : List Entry) (stack : List Turn) → AllByRecursion Q stack → AllByRecursion (λ (e : Entry). Q (entry_turn path e)) entries → AllByRecursion Q (pushed path entries stack)
all-pushed Q path [] stack all also = all
all-pushed Q path (entry ∷ entries) stack all also = all-last Q (pushed path entries stack) (entry_turn path entry) (all-pushed Q path entries stack all also.1) also.0

level-before : (a b : Path) → path_cmp a b ≡ Less → length a ≡ length b → Before a b
level-before a b low long = (low, none-if (is_from a b) (λ on. absurd (cc (sym (tied_itself paths-total b) ∙ apart a b b b low long on (from-self b)))))

child-before : (path : Path) (a b : List ℕ) → path_cmp (path ++ a ∷ []) (path ++ b ∷ []) ≡ Less → Before (path ++ a ∷ []) (path ++ b ∷ [])
child-before path a b low = level-before (path ++ a ∷ []) (path ++ b ∷ []) low (same-length path a b)
  where
    same-length : (top : Path) (x y : List ℕ) → length (top ++ x ∷ []) ≡ length (top ++ y ∷ [])
    same-length [] x y = refl
    same-length (z ∷ top) x y = ap (λ n. suc n) (same-length top x y)

descends-pushed : (path : Path) (entries : List Entry) (stack : List Turn) → EntriesRise path entries → Descends stack → AllByRecursion (λ (t : Turn). Before path t.path) stack → Descends (pushed path entries stack)
descends-pushed path [] stack rise down before = down
descends-pushed path (entry ∷ entries) stack rise down before =
    let child : Path = path ++ entry.name ∷ [] in
    descends-last (pushed path entries stack) (entry_turn path entry) (descends-pushed path entries stack rise.1 down before)
    (all-pushed (λ (t : Turn). Before child t.path) path entries stack
    (each-so (λ (t : Turn). Before path t.path) (λ (t : Turn). Before child t.path) (λ turn is. before-from path turn.path child is (from-all path (entry.name ∷ []))) stack before)
    (each-so (λ (e : Entry). path_cmp child (path ++ e.name ∷ []) ≡ Less) (λ (e : Entry). Before child (path ++ e.name ∷ [])) (λ other low. child-before path entry.name other.name low) entries rise.0))

-- ---- both
pub record Walk (found : List (Path × Node)) (stack : List Turn) : Type 0 where
  pub rises : Rises found
  pub named : AllByRecursion (λ (e : Path × Node). is_path [] e.0 ≡ false) found
  pub closed : AllByRecursion (λ (e : Path × Node). Tops found e.0) found
  pub fits : AllByRecursion (λ (t : Turn). Fits found t.path) stack
  pub descends : Descends stack

-- without the path that waits on top
record Popped (found : List (Path × Node)) (path : Path) (stack : List Turn) : Type 0 where
  pub walk : Walk found stack
  pub fits : Fits found path
  pub before : AllByRecursion (λ (t : Turn). Before path t.path) stack

popped : (found : List (Path × Node)) (stack : List Turn) (turn : Turn) → Walk found (stack ++ turn ∷ []) → Popped found turn.path stack
popped found stack turn walk =
    let fits = all-front (λ (t : Turn). Fits found t.path) stack turn walk.fits in
    let down = descends-front stack turn walk.descends in
    record {
      walk = record { rises = walk.rises; named = walk.named; closed = walk.closed; fits = fits.0; descends = down.0 };
      fits = fits.1;
      before = down.1;
    }

walk-found : (found : List (Path × Node)) (path : Path) (node : Node) (stack : List Turn) → Popped found path stack → Walk (found ++ (path, node) ∷ []) stack
walk-found found path node stack top =
    let more : List (Path × Node) = found ++ (path, node) ∷ [] in
    record {
      rises = rises-last found (path, node) top.walk.rises top.fits.low;
      named = each-append (λ (e : Path × Node). is_path [] e.0 ≡ false) found ((path, node) ∷ []) top.walk.named (top.fits.named, tt);
      closed = each-append (λ (e : Path × Node). Tops more e.0) found ((path, node) ∷ [])
          (each-so (λ (e : Path × Node). Tops found e.0) (λ (e : Path × Node). Tops more e.0) (λ entry tops. tops-more found ((path, node) ∷ []) entry.0 tops) found top.walk.closed)
          (tops-more found ((path, node) ∷ []) path top.fits.tops, tt);
      fits = each-both (λ (t : Turn). Fits found t.path) (λ (t : Turn). Before path t.path) (λ (t : Turn). Fits more t.path) (λ turn fits before. fits-more found path node turn.path fits before.0) stack top.walk.fits top.before;
      descends = top.walk.descends;
    }

walk-pushed : (found : List (Path × Node)) (path : Path) (entries : List Entry) (stack : List Turn) → EntriesRise path entries → Walk found stack → AllByRecursion (λ (t : Turn). Before path t.path) stack
    → AllByRecursion (λ (e : Entry). Fits found (path ++ e.name ∷ [])) entries → Walk found (pushed path entries stack)
walk-pushed found path entries stack rise walk before fit = record {
  rises = walk.rises;
  named = walk.named;
  closed = walk.closed;
  fits = all-pushed (λ (t : Turn). Fits found t.path) path entries stack walk.fits fit;
  descends = descends-pushed path entries stack rise walk.descends before;
}

-- ---- a visit
walk-file : (found found_now : List (Path × Node)) (path : Path) (node : Option Node) (stack stack_now : List Turn) → found_now ≡ found ++ file_found path node → stack_now ≡ stack → Popped found path stack → Walk found_now stack_now
walk-file found found_now path None stack stack_now is waits top =
    subst (λ (f : List (Path × Node)). Walk f stack_now) (sym (is ∙ append-nil found)) (subst (λ (s : List Turn). Walk found s) (sym waits) top.walk)
walk-file found found_now path (Some node) stack stack_now is waits top =
    subst (λ (f : List (Path × Node)). Walk f stack_now) (sym is) (subst (λ (s : List Turn). Walk (found ++ (path, node) ∷ []) s) (sym waits) (walk-found found path node stack top))

walk-folder : (found found_now : List (Path × Node)) (path : Path) (b : Bool) (entries : List Entry) (stack stack_now : List Turn) → EntriesRise path entries → found_now ≡ found ++ folder_found path (cond b (Some entries) None)
    → stack_now ≡ pushed_if path (cond b (Some entries) None) stack → Popped found path stack → Walk found_now stack_now
walk-folder found found_now path false entries stack stack_now rise is waits top =
    subst (λ (f : List (Path × Node)). Walk f stack_now) (sym (is ∙ append-nil found)) (subst (λ (s : List Turn). Walk found s) (sym waits) top.walk)
walk-folder found found_now path true entries stack stack_now rise is waits top =
    let more : List (Path × Node) = found ++ (path, Folder) ∷ [] in
    let walk : Walk more (pushed path entries stack) =
    walk-pushed more path entries stack rise (walk-found found path Folder stack top) top.before (each-always (λ (e : Entry). Fits more (path ++ e.name ∷ [])) (λ entry. fits-child found path entry.name top.fits) entries) in
    subst (λ (f : List (Path × Node)). Walk f stack_now) (sym is) (subst (λ (s : List Turn). Walk more s) (sym waits) walk)

pub walk-on : (rules : List Rule) (path : Path) (folder : Bool) (size : ℕ) (found found_now : List (Path × Node)) (stack stack_now : List Turn) (spots : List Spot) → IsTree spots → VisitsAs rules path folder size found found_now stack stack_now spots
    → Walk found (stack ++ record { path = path; folder = folder; size = size } ∷ []) → Walk found_now stack_now
walk-on rules path true size found found_now stack stack_now spots tree visits walk =
    walk-folder found found_now path (is_folder_at path spots) (entries_in path spots) stack stack_now (children-rise rules spots tree path) visits.found_is visits.waiting_is
    (popped found stack (record { path = path; folder = true; size = size }) walk)
walk-on rules path false size found found_now stack stack_now spots tree visits walk =
    walk-file found found_now path (file_at_turn rules path size spots) stack stack_now visits.0 visits.1 (popped found stack (record { path = path; folder = false; size = size }) walk)

pub walk-begins : (entries : List Entry) → EntriesRise [] entries → Walk [] (pushed [] entries [])
walk-begins entries rise =
    walk-pushed [] [] entries [] rise (record { rises = tt; named = tt; closed = tt; fits = tt; descends = tt }) tt
    (each-always (λ (e : Entry). Fits [] (e.name ∷ [])) (λ entry. record { low = tt; named = refl; tops = tops-first [] entry.name }) entries)

-- ---- the end
above-paths : (path : Path) (found : List (Path × Node)) → Above path found → AllByRecursion (λ (other : Path). path_cmp path other ≡ Less) (paths_of (local_tree found))
above-paths path [] above = tt
above-paths path (entry ∷ found) above = (above.0, above-paths path found above.1)

sorted-paths : (found : List (Path × Node)) → Rises found → IsStrictlySortedBy path_cmp (paths_of (local_tree found))
unfolding IsStrictlySortedBy
sorted-paths [] rises = tt
sorted-paths (entry ∷ found) rises = (above-paths entry.0 found rises.0, sorted-paths found rises.1)

no-root : (found : List (Path × Node)) → AllByRecursion (λ (e : Path × Node). is_path [] e.0 ≡ false) found → at (local_tree found) [] ≡ None
no-root [] named = refl
no-root (entry ∷ found) named = rw (named.0) (no-root found named.1)

other-path : (a b : Path) → path_cmp a b ≡ Less → is_path b a ≡ false
other-path a b low = none-if (is_path b a) (λ same. absurd (cc (sym (tied_itself paths-total b) ∙ ap (λ (p : Path). path_cmp p b) (same-path b a same) ∙ low)))

above-in : (path : Path) (entry : Path × Node) (found : List (Path × Node)) → Above path found → In entry found → path_cmp path entry.0 ≡ Less
above-in path entry [] above is = absurd is
above-in path entry (first ∷ found) above (inl same) = subst (λ (e : Path × Node). path_cmp path e.0 ≡ Less) (sym same) above.0
above-in path entry (first ∷ found) above (inr is) = above-in path entry found above.1 is

at-first : (path : Path) (node : Node) (found : List (Path × Node)) → at (local_tree ((path, node) ∷ found)) path ≡ Some (node_content node)
at-first path node found = rw (path-self path) refl

at-in : (path : Path) (node : Node) (found : List (Path × Node)) → Rises found → In (path, node) found → at (local_tree found) path ≡ Some (node_content node)
at-in path node [] rises is = absurd is
at-in path node (first ∷ found) rises (inl same) = subst (λ (e : Path × Node). at (local_tree (e ∷ found)) path ≡ Some (node_content node)) same (at-first path node found)
at-in path node (first ∷ found) rises (inr is) = rw (other-path first.0 path (above-in first.0 (path, node) found rises.0 is)) (at-in path node found rises.1 is)

-- what stands at a path has the folders above it
tops-if-there : (b : Bool) (path : Path) (first : Path × Node) (found all : List (Path × Node)) → is_path path first.0 ≡ b → Tops all first.0 → (is_some (at (local_tree found) path) ≡ true → Tops all path)
    → is_some (at (local_tree (first ∷ found)) path) ≡ true → Tops all path
tops-if-there true path first found all same here more is = subst (λ (p : Path). Tops all p) (sym (same-path path first.0 same)) here
tops-if-there false path first found all other here more is = more (rw (other) at is)

tops-there : (path : Path) (found all : List (Path × Node)) → AllByRecursion (λ (e : Path × Node). Tops all e.0) found → is_some (at (local_tree found) path) ≡ true → Tops all path
tops-there path [] all closed is = absurd (cc is)
tops-there path (first ∷ found) all closed is = tops-if-there (is_path path first.0) path first found all refl closed.0 (tops-there path found all closed.1) is

shorter : (top path : Path) → nat_lt (length top) (length path) ≡ true → is_path top path ≡ false
shorter top path less = none-if (is_path top path) (λ same. absurd (cc (sym (ap (λ (p : Path). nat_lt (length top) (length p)) (sym (same-path top path same)) ∙ nat-not-below (length top)) ∙ less)))
  where
    nat-not-below : (n : ℕ) → nat_lt n n ≡ false
    nat-not-below n = grind arith

long-named : (top : Path) → nat_lt 0 (length top) ≡ true → is_path [] top ≡ false
long-named [] long = absurd (cc long)
long-named (name ∷ top) long = refl

pub walk-ends : (found : List (Path × Node)) → Walk found [] → IsFoundTree found
walk-ends found walk = record {
  in_order = sorted-paths found walk.rises;
  root = no-root found walk.named;
  here = λ top path long below is.
      let parts = and_parts (nat_lt (length top) (length path)) (is_from top path) below in
      at-in top Folder found walk.rises (tops-there path found found walk.closed is top parts.1 (shorter top path parts.0) (long-named top long));
}
