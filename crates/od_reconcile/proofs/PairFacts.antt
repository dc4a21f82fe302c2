-- What is known of the pairs of a walk: where each is from and to, and that no path is in two of them.
use Rattle.std.proofs.Common.{◌≡◌, ◌⊎◌, inl, inr, Bool, true, false, not, ◌&&◌, ◌||◌, cond, List, [], ◌∷◌, ◌++◌, map, find, Option, Some, None, refl, ap, sym, subst, ◌∙◌}
use Rattle.std.proofs.lemmas.Bool.{true≢false, false≢true, and_parts, or_parts, or_from, or_left, or_right, not-true, false_from_ne_true}
use Rattle.std.specs.List.{list_any}
use Rattle.od_merge.specs.Sides.{is_path}
use Rattle.od_merge.specs.Pairs.{and_pair, pairs_from, source_for}
use Rattle.od_merge.proofs.Lists.{Path, in-joined, is_in, path-self, same-path}
use Rattle.od_merge.proofs.Order.{Apart}
use Rattle.od_merge.proofs.Proper.{In, same-pair, turn}
use Rattle.od_reconcile.specs.Moving.{is_moved_from, is_moved_to, pair_to}

abbrev pub Pairs : Type 0
Pairs = List (Path × Path)

abbrev pub froms : Pairs → List Path
froms pairs = map (λ (pair : Path × Path). pair.0) pairs

abbrev pub tos : Pairs → List Path
tos pairs = map (λ (pair : Path × Path). pair.1) pairs

-- ---- what is found
some-same : (a b : Path) → Some a ≡ Some b → a ≡ b
some-same a b is = cc is

source-at : (t : Bool) (test : Path → Bool) (first from : Path) (rest : List Path) → test first ≡ t → cond t (Some first) (find test rest) ≡ Some from
    → (find test rest ≡ Some from → (is_in from rest ≡ true) × (test from ≡ true)) → (is_in from (first ∷ rest) ≡ true) × (test from ≡ true)
source-at true test first from rest is found more =
    let same = some-same first from found in
    (or_left (is_path from first) (is_in from rest) (subst (λ (p : Path). is_path from p ≡ true) (sym same) (path-self from)), subst (λ (p : Path). test p ≡ true) same is)
source-at false test first from rest is found more = let both = more found in (or_right (is_path from first) (is_in from rest) both.0, both.1)

found-path : (test : Path → Bool) (paths : List Path) (from : Path) → find test paths ≡ Some from → (is_in from paths ≡ true) × (test from ≡ true)
found-path test [] from is = absurd (cc is)
found-path test (first ∷ paths) from is = source-at (test first) test first from paths refl is (found-path test paths from)

-- ---- one after the other
in-on : {first pair last : Path × Path} (pairs : Pairs) → In pair pairs ⊎ (pair ≡ last) → In pair (first ∷ pairs) ⊎ (pair ≡ last)
in-on pairs (inl more) = inl (inr more)
in-on pairs (inr is) = inr is

in-end : (pairs : Pairs) (pair last : Path × Path) → In pair (pairs ++ last ∷ []) → In pair pairs ⊎ (pair ≡ last)
in-end [] pair last (inl is) = inr is
in-end [] pair last (inr none) = absurd none
in-end (first ∷ pairs) pair last (inl is) = inl (inl is)
in-end (first ∷ pairs) pair last (inr more) = in-on pairs (in-end pairs pair last more)

-- what is known of each pair
pub record IsPair (fits : Path → Path → Bool) (sources all : List Path) (pair : Path × Path) : Type 0 where
  pub fits_is : fits pair.0 pair.1 ≡ true
  pub from : is_in pair.0 sources ≡ true
  pub to : is_in pair.1 all ≡ true

pub apart-middle : (a : List Path) (path : Path) (b : List Path) → Apart (a ++ path ∷ b) → Apart (a ++ b)
apart-middle [] path b apart = apart.1
apart-middle (first ∷ a) path b apart =
    let none = or_parts (is_in first a) (is_in first (path ∷ b)) (sym (in-joined first a (path ∷ b)) ∙ apart.0) in
    (in-joined first a b ∙ or_from (is_in first a) (is_in first b) none.0 (or_parts (is_path first path) (is_in first b) none.1).1, apart-middle a path b apart.1)

apart-end : (a : List Path) (path : Path) → Apart a → is_in path a ≡ false → Apart (a ++ path ∷ [])
apart-end [] path apart none = (refl, tt)
apart-end (first ∷ a) path apart none =
    let parts = or_parts (is_path path first) (is_in path a) none in (
      in-joined first a (path ∷ []) ∙ or_from (is_in first a) (is_in first (path ∷ [])) apart.0
          (or_from (is_path first path) false (false_from_ne_true (is_path first path) (λ same. true≢false (sym (turn first path same) ∙ parts.0))) refl),
      apart-end a path apart.1 parts.1,
    )

pub apart-first : (a b : List Path) → Apart (a ++ b) → Apart a
apart-first [] b apart = tt
apart-first (first ∷ a) b apart =
    ((or_parts (is_in first a) (is_in first b) (sym (in-joined first a b) ∙ apart.0)).0, apart-first a b apart.1)

pub tos-end : (pairs : Pairs) (pair : Path × Path) (rest : List Path) → tos (pairs ++ pair ∷ []) ++ rest ≡ tos pairs ++ pair.1 ∷ rest
tos-end [] pair rest = refl
tos-end (first ∷ pairs) pair rest = ap (λ (ps : List Path). first.1 ∷ ps) (tos-end pairs pair rest)

froms-end : (pairs : Pairs) (pair : Path × Path) → froms (pairs ++ pair ∷ []) ≡ froms pairs ++ pair.0 ∷ []
froms-end [] pair = refl
froms-end (first ∷ pairs) pair = ap (λ (ps : List Path). first.0 ∷ ps) (froms-end pairs pair)

pub from-in : (pairs : Pairs) (path : Path) → is_moved_from pairs path ≡ is_in path (froms pairs)
from-in [] path = refl
from-in (first ∷ pairs) path = ap (λ (b : Bool). is_path path first.0 || b) (from-in pairs path)

pub to-in : (pairs : Pairs) (path : Path) → is_moved_to pairs path ≡ is_in path (tos pairs)
to-in [] path = refl
to-in (first ∷ pairs) path = ap (λ (b : Bool). is_path path first.1 || b) (to-in pairs path)

module _ (fits : Path → Path → Bool) (sources all : List Path) where
  new-pair : (from to : Path) (pairs : Pairs) → source_for fits sources pairs to ≡ Some from → is_in to all ≡ true → IsPair fits sources all (from, to)
  new-pair from to pairs is has =
      let found = found-path (λ from. fits from to && not (list_any (λ (pair : Path × Path). is_path from pair.0) pairs)) sources from is in
      record { fits_is = (and_parts (fits from to) (not (list_any (λ (pair : Path × Path). is_path from pair.0) pairs)) found.1).0; from = found.0; to = has }

  each-end : (pairs : Pairs) (pair last : Path × Path) → In pair pairs ⊎ (pair ≡ last) → ((pair : Path × Path) → In pair pairs → IsPair fits sources all pair) → IsPair fits sources all last → IsPair fits sources all pair
  each-end pairs pair last (inl more) each new = each pair more
  each-end pairs pair last (inr is) each new = subst (λ (p : Path × Path). IsPair fits sources all p) (sym is) new

  each-at : (x : Option Path) (to : Path) (pairs : Pairs) → source_for fits sources pairs to ≡ x → is_in to all ≡ true → ((pair : Path × Path) → In pair pairs → IsPair fits sources all pair)
      → (pair : Path × Path) → In pair (and_pair x to pairs) → IsPair fits sources all pair
  each-at None to pairs is has each pair here = each pair here
  each-at (Some from) to pairs is has each pair here = each-end pairs pair (from, to) (in-end pairs pair (from, to) here) each (new-pair from to pairs is has)

  each-from : (pairs : Pairs) (rest : List Path) → ((to : Path) → is_in to rest ≡ true → is_in to all ≡ true) → ((pair : Path × Path) → In pair pairs → IsPair fits sources all pair)
      → (pair : Path × Path) → In pair (pairs_from fits sources pairs rest) → IsPair fits sources all pair
  each-from pairs [] within each pair here = each pair here
  each-from pairs (to ∷ rest) within each pair here =
      each-from (and_pair (source_for fits sources pairs to) to pairs) rest (λ other has. within other (or_right (is_path other to) (is_in other rest) has))
      (each-at (source_for fits sources pairs to) to pairs refl (within to (or_left (is_path to to) (is_in to rest) (path-self to))) each) pair here

  pub each-pair : (pair : Path × Path) → In pair (pairs_from fits sources [] all) → IsPair fits sources all pair
  each-pair pair here = each-from [] all (λ to has. has) (λ p none. absurd none) pair here

  -- no path is in two pairs
  froms-at : (x : Option Path) (to : Path) (pairs : Pairs) → source_for fits sources pairs to ≡ x → Apart (froms pairs) → Apart (froms (and_pair x to pairs))
  froms-at None to pairs is apart = apart
  froms-at (Some from) to pairs is apart =
      let found = found-path (λ from. fits from to && not (list_any (λ (pair : Path × Path). is_path from pair.0) pairs)) sources from is in
      let open_still = not-true (is_moved_from pairs from) (and_parts (fits from to) (not (is_moved_from pairs from)) found.1).1 in
      subst (λ (ps : List Path). Apart ps) (sym (froms-end pairs (from, to))) (apart-end (froms pairs) from apart (sym (from-in pairs from) ∙ open_still))

  froms-from : (pairs : Pairs) (rest : List Path) → Apart (froms pairs) → Apart (froms (pairs_from fits sources pairs rest))
  froms-from pairs [] apart = apart
  froms-from pairs (to ∷ rest) apart = froms-from (and_pair (source_for fits sources pairs to) to pairs) rest (froms-at (source_for fits sources pairs to) to pairs refl apart)

  pub froms-apart : Apart (froms (pairs_from fits sources [] all))
  froms-apart = froms-from [] all tt

  tos-at : (x : Option Path) (to : Path) (rest : List Path) (pairs : Pairs) → Apart (tos pairs ++ to ∷ rest) → Apart (tos (and_pair x to pairs) ++ rest)
  tos-at None to rest pairs apart = apart-middle (tos pairs) to rest apart
  tos-at (Some from) to rest pairs apart = subst (λ (ps : List Path). Apart ps) (sym (tos-end pairs (from, to) rest)) apart

  tos-from : (pairs : Pairs) (rest : List Path) → Apart (tos pairs ++ rest) → Apart (tos (pairs_from fits sources pairs rest))
  tos-from pairs [] apart = apart-first (tos pairs) [] apart
  tos-from pairs (to ∷ rest) apart = tos-from (and_pair (source_for fits sources pairs to) to pairs) rest (tos-at (source_for fits sources pairs to) to rest pairs apart)

  pub tos-apart : Apart all → Apart (tos (pairs_from fits sources [] all))
  tos-apart apart = tos-from [] all apart

-- ---- the pair that comes to a path
none-to-at : (t : Bool) (path : Path) (first : Path × Path) (pairs : Pairs) → is_path path first.1 ≡ t → (t || is_in path (tos pairs)) ≡ false → pair_to pairs path ≡ None → pair_to (first ∷ pairs) path ≡ None
none-to-at true path first pairs is none rest = absurd (true≢false none)
none-to-at false path first pairs is none rest = rw is rest

pub none-to : (pairs : Pairs) (path : Path) → is_in path (tos pairs) ≡ false → pair_to pairs path ≡ None
none-to [] path none = refl
none-to (first ∷ pairs) path none =
    none-to-at (is_path path first.1) path first pairs refl none (none-to pairs path (or_parts (is_path path first.1) (is_in path (tos pairs)) none).1)

-- what stands first
pub record IsTo (pairs : Pairs) (path : Path) (pair : Path × Path) : Type 0 where
  pub made : In pair pairs
  pub is : path ≡ pair.1
  pub found : pair_to pairs path ≡ Some pair

to-at : (t : Bool) (path : Path) (first : Path × Path) (pairs : Pairs) → is_path path first.1 ≡ t → (t || is_in path (tos pairs)) ≡ true
    → (is_in path (tos pairs) ≡ true → (pair : Path × Path) × IsTo pairs path pair) → (pair : Path × Path) × IsTo (first ∷ pairs) path pair
to-at true path first pairs is has rest = (first, record { made = inl refl; is = same-path path first.1 is; found = rw is refl })
to-at false path first pairs is has rest =
    let more = rest has in
    (more.0, record { made = inr more.1.made; is = more.1.is; found = ap (λ (b : Bool). cond b (Some first) (pair_to pairs path)) is ∙ more.1.found })

pub some-to : (pairs : Pairs) (path : Path) → is_in path (tos pairs) ≡ true → (pair : Path × Path) × IsTo pairs path pair
some-to [] path has = absurd (false≢true has)
some-to (first ∷ pairs) path has = to-at (is_path path first.1) path first pairs refl has (some-to pairs path)

-- a pair is the one that comes to its path
pub in-tos : (pairs : Pairs) (pair : Path × Path) → In pair pairs → is_in pair.1 (tos pairs) ≡ true
in-tos [] pair none = absurd none
in-tos (first ∷ pairs) pair (inl is) = or_left (is_path pair.1 first.1) (is_in pair.1 (tos pairs)) (subst (λ (p : Path × Path). is_path pair.1 p.1 ≡ true) is (path-self pair.1))
in-tos (first ∷ pairs) pair (inr more) = or_right (is_path pair.1 first.1) (is_in pair.1 (tos pairs)) (in-tos pairs pair more)

pub in-froms : (pairs : Pairs) (pair : Path × Path) → In pair pairs → is_moved_from pairs pair.0 ≡ true
in-froms [] pair none = absurd none
in-froms (first ∷ pairs) pair (inl is) = or_left (is_path pair.0 first.0) (is_moved_from pairs pair.0) (subst (λ (p : Path × Path). is_path pair.0 p.0 ≡ true) is (path-self pair.0))
in-froms (first ∷ pairs) pair (inr more) = or_right (is_path pair.0 first.0) (is_moved_from pairs pair.0) (in-froms pairs pair more)

other-to : (pair first : Path × Path) (pairs : Pairs) → is_in first.1 (tos pairs) ≡ false → In pair pairs → is_path pair.1 first.1 ≡ false
other-to pair first pairs apart more = false_from_ne_true (is_path pair.1 first.1)
    (λ same. true≢false (sym (subst (λ (p : Path). is_in p (tos pairs) ≡ true) (same-path pair.1 first.1 same) (in-tos pairs pair more)) ∙ apart))

pub its-pair : (pairs : Pairs) (pair : Path × Path) → Apart (tos pairs) → In pair pairs → pair_to pairs pair.1 ≡ Some pair
its-pair [] pair apart none = absurd none
its-pair (first ∷ pairs) pair apart (inl is) =
    ap (λ (b : Bool). cond b (Some first) (pair_to pairs pair.1)) (subst (λ (p : Path × Path). is_path pair.1 p.1 ≡ true) is (path-self pair.1)) ∙ ap (λ (p : Path × Path). Some p) (sym is)
its-pair (first ∷ pairs) pair apart (inr more) =
    ap (λ (b : Bool). cond b (Some first) (pair_to pairs pair.1)) (other-to pair first pairs apart.0 more) ∙ its-pair pairs pair apart.1 more

-- the pair that takes from a path
from-at : (t : Bool) (path : Path) (first : Path × Path) (pairs : Pairs) → is_path path first.0 ≡ t → (t || is_moved_from pairs path) ≡ true
    → (is_moved_from pairs path ≡ true → (pair : Path × Path) × In pair pairs × (path ≡ pair.0)) → (pair : Path × Path) × In pair (first ∷ pairs) × (path ≡ pair.0)
from-at true path first pairs is has rest = (first, inl refl, same-path path first.0 is)
from-at false path first pairs is has rest = let more = rest has in (more.0, inr more.1, more.2)

pub some-from : (pairs : Pairs) (path : Path) → is_moved_from pairs path ≡ true → (pair : Path × Path) × In pair pairs × (path ≡ pair.0)
some-from [] path has = absurd (false≢true has)
some-from (first ∷ pairs) path has = from-at (is_path path first.0) path first pairs refl has (some-from pairs path)

-- what is found comes to the path
found-at : (t : Bool) (path : Path) (first pair : Path × Path) (pairs : Pairs) → is_path path first.1 ≡ t → cond t (Some first) (pair_to pairs path) ≡ Some pair
    → (pair_to pairs path ≡ Some pair → In pair pairs × (path ≡ pair.1)) → In pair (first ∷ pairs) × (path ≡ pair.1)
found-at true path first pair pairs is found rest =
    let one = same-pair first pair found in
    (inl (sym one), same-path path first.1 is ∙ ap (λ (p : Path × Path). p.1) one)
found-at false path first pair pairs is found rest = let more = rest found in (inr more.0, more.1)

pub found-to : (pairs : Pairs) (path : Path) (pair : Path × Path) → pair_to pairs path ≡ Some pair → In pair pairs × (path ≡ pair.1)
found-to [] path pair is = absurd (cc is)
found-to (first ∷ pairs) path pair is = found-at (is_path path first.1) path first pair pairs refl is (found-to pairs path pair)
