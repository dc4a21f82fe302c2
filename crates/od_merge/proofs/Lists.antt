-- Paths, and which of them are in lists.
use Rattle.std.proofs.Common.{◌≡◌, ◌≢◌, ℕ, zero, suc, Bool, true, false, ◌&&◌, ◌||◌, cond, List, [], ◌∷◌, ◌++◌, length, filter, is_some, nat_eq, nat_lt, refl, ap, sym, subst, ◌∙◌, arith}
use Rattle.std.proofs.lemmas.Bool.{eq-eqb, eqb-true, and_left, and_parts, and_from, or_parts, false≢true, true≢false, false_from_ne_true, lt-ltb, ltb-true}
use Rattle.std.specs.Cmp.Lexicographic.{pointwise, same_text, slice_cmp}
use Rattle.std.specs.List.{list_any, list_all}
use Rattle.std.specs.BTreeSet.{insert_key}
use Rattle.std.specs.Ordering.{nat_cmp, ordering_then, match_ordering}
use Rattle.std.specs.declared.cmp.Ordering.{Ordering}
use Rattle.std.specs.declared.cmp.Ordering.TheVariants.{Less, Equal, Greater}
use Rattle.std.proofs.lemmas.Map.Lookups.{exact_bytes}
use Rattle.od_merge.specs.declared.content.Content.{Content}
use Rattle.od_merge.specs.Sides.{at, is_path, is_from, paths_of}
use Rattle.gd_names.specs.Ordered.{path_cmp}
use Rattle.od_merge.specs.Merging.{in_order_from}
use Rattle.od_merge.specs.Steps.{by_depth, deepest_first, depth_of}
use Rattle.gd_names.proofs.Ordered.{exact-paths}

abbrev pub Path : Type 0
Path = List (List ℕ)

pub text-self : (text : List ℕ) → pointwise nat_eq text text ≡ true
text-self [] = refl
text-self (b ∷ text) = rw (eq-eqb b b refl) (text-self text)

pub path-self : (path : Path) → is_path path path ≡ true
path-self [] = refl
path-self (name ∷ path) = rw (text-self name) (path-self path)

pub same-path : (a b : Path) → is_path a b ≡ true → a ≡ b
same-path [] [] is = refl
same-path [] (y ∷ b) is = absurd (false≢true is)
same-path (x ∷ a) [] is = absurd (false≢true is)
same-path (x ∷ a) (y ∷ b) is =
    let parts = and_parts (pointwise nat_eq x y) (is_path a b) is in
    ap (λ first. first ∷ a) (same_text x y (sym parts.0)) ∙ ap (λ rest. y ∷ rest) (same-path a b parts.1)

pub from-self : (path : Path) → is_from path path ≡ true
from-self [] = refl
from-self (name ∷ path) = rw (text-self name) (from-self path)

pub from-through : (a b c : Path) → is_from a b ≡ true → is_from b c ≡ true → is_from a c ≡ true
from-through [] b c ab bc = refl
from-through (x ∷ a) [] c ab bc = absurd (false≢true ab)
from-through (x ∷ a) (y ∷ b) [] ab bc = absurd (false≢true bc)
from-through (x ∷ a) (y ∷ b) (z ∷ c) ab bc =
    let first = and_parts (pointwise nat_eq x y) (is_from a b) ab in
    let second = and_parts (pointwise nat_eq y z) (is_from b c) bc in
    let same : x ≡ z = same_text x y (sym first.0) ∙ same_text y z (sym second.0) in
    and_from (pointwise nat_eq x z) (is_from a c) (subst (λ (t : List ℕ). pointwise nat_eq x t ≡ true) same (text-self x)) (from-through a b c first.1 second.1)

-- a path from another one on is that one or is longer
pub from-longer : (top path : Path) → is_from top path ≡ true → is_path top path ≡ false → nat_lt (length top) (length path) ≡ true
from-longer [] [] from apart = absurd (true≢false apart)
from-longer [] (y ∷ path) from apart = grind arith
from-longer (x ∷ top) [] from apart = absurd (false≢true from)
from-longer (x ∷ top) (y ∷ path) from apart =
    let parts = and_parts (pointwise nat_eq x y) (is_from top path) from in
    let rest : is_path top path ≡ false = sym (ap (λ b. b && is_path top path) parts.0) ∙ apart in
    let shorter = from-longer top path parts.1 rest in grind (arith, shorter)

-- ---- in lists
abbrev pub is_in : Path → List Path → Bool
is_in path paths = list_any (is_path path) paths

pub turn-or : (a b c : Bool) → (b || (a || c)) ≡ (a || (b || c))
turn-or true true c = refl
turn-or true false c = refl
turn-or false b c = refl

pub or-twice : (a b c : Bool) → a ≡ b → (b || c) ≡ (a || (b || c))
or-twice true true c is = refl
or-twice true false c is = absurd (true≢false is)
or-twice false b c is = refl

or-nothing : (a : Bool) → a ≡ (a || false)
or-nothing true = refl
or-nothing false = refl

pub swap-or : (a b c : Bool) → ((a || b) || c) ≡ (b || (a || c))
swap-or true true c = refl
swap-or true false c = refl
swap-or false b c = refl

put-in : (o : Ordering) (q path first : Path) (rest put : List Path) → path_cmp path first ≡ o → is_in q put ≡ (is_path q path || is_in q rest)
    → is_in q (match_ordering o (path ∷ (first ∷ rest)) (first ∷ rest) (first ∷ put)) ≡ (is_path q path || (is_path q first || is_in q rest))
put-in Less q path first rest put is inner = refl
put-in Equal q path first rest put is inner =
    or-twice (is_path q path) (is_path q first) (is_in q rest) (ap (λ (p : Path). is_path q p) (exact-paths path first is))
put-in Greater q path first rest put is inner = ap (λ b. is_path q first || b) inner ∙ turn-or (is_path q path) (is_path q first) (is_in q rest)

insert-in : (q path : Path) (paths : List Path) → is_in q (insert_key path_cmp paths path) ≡ (is_path q path || is_in q paths)
insert-in q path [] = refl
insert-in q path (first ∷ rest) = put-in (path_cmp path first) q path first rest (insert_key path_cmp rest path) refl (insert-in q path rest)

pub in-order-from : (q : Path) (put paths : List Path) → is_in q (in_order_from put paths) ≡ (is_in q put || is_in q paths)
in-order-from q put [] = or-nothing (is_in q put)
in-order-from q put (path ∷ paths) =
    in-order-from q (insert_key path_cmp put path) paths
    ∙ (ap (λ b. b || is_in q paths) (insert-in q path put) ∙ swap-or (is_path q path) (is_in q put) (is_in q paths))

pub in-order : (q : Path) (paths : List Path) → is_in q (in_order_from [] paths) ≡ is_in q paths
in-order q paths = in-order-from q [] paths

pub in_order_joined : (put a b : List Path) → in_order_from put (a ++ b) ≡ in_order_from (in_order_from put a) b
in_order_joined put [] b = refl
in_order_joined put (path ∷ a) b = in_order_joined (insert_key path_cmp put path) a b

or-assoc : (a b c : Bool) → (a || (b || c)) ≡ ((a || b) || c)
or-assoc true b c = refl
or-assoc false b c = refl

pub in-joined : (q : Path) (a b : List Path) → is_in q (a ++ b) ≡ (is_in q a || is_in q b)
in-joined q [] b = refl
in-joined q (p ∷ a) b = ap (λ c. is_path q p || c) (in-joined q a b) ∙ or-assoc (is_path q p) (is_in q a) (is_in q b)

-- ---- in the order of their depth
and-nothing : (a : Bool) → false ≡ (a && false)
and-nothing true = refl
and-nothing false = refl

filter-step : (t u b : Bool) (test : Path → Bool) (q p : Path) (rest : List Path) → test p ≡ t → is_path q p ≡ u → is_in q rest ≡ (test q && b) → is_in q (cond t (p ∷ rest) rest) ≡ (test q && (u || b))
filter-step true true b test q p rest passes is inner =
    ap (λ x. x || is_in q rest) is ∙ sym (ap (λ x. x && true) (ap test (same-path q p is) ∙ passes))
filter-step true false b test q p rest passes is inner = ap (λ x. x || is_in q rest) is ∙ inner
filter-step false true b test q p rest passes is inner =
    let fails = ap test (same-path q p is) ∙ passes in
    inner ∙ (ap (λ x. x && b) fails ∙ sym (ap (λ x. x && true) fails))
filter-step false false b test q p rest passes is inner = inner

pub filter-in : (test : Path → Bool) (q : Path) (paths : List Path) → is_in q (filter test paths) ≡ (test q && is_in q paths)
filter-in test q [] = and-nothing (test q)
filter-in test q (p ∷ paths) = filter-step (test p) (is_path q p) (is_in q paths) test q p (filter test paths) refl refl (filter-in test q paths)

and-over : (a b c : Bool) → ((a && c) || (b && c)) ≡ ((a || b) && c)
and-over true b true = refl
and-over true true false = refl
and-over true false false = refl
and-over false b c = refl

lt-next-at : (t u : Bool) (a b : ℕ) → nat_eq a b ≡ t → nat_lt a b ≡ u → (t || u) ≡ nat_lt a (suc b)
lt-next-at true u a b same less = let is = eqb-true a b same in sym (lt-ltb a (suc b) (omega (arith, is)))
lt-next-at false true a b same less = let is = ltb-true a b less in sym (lt-ltb a (suc b) (omega (arith, is)))
lt-next-at false false a b same less =
    sym (false_from_ne_true (nat_lt a (suc b)) (λ next. let is = ltb-true a (suc b) next in
    let apart : a ≢ b = λ e. true≢false (sym (eq-eqb a b e) ∙ same) in
    true≢false (sym (lt-ltb a b (omega (arith, is, apart))) ∙ less)))

lt-next : (a b : ℕ) → (nat_eq a b || nat_lt a b) ≡ nat_lt a (suc b)
lt-next a b = lt-next-at (nat_eq a b) (nat_lt a b) a b refl refl

none-less : (a : ℕ) (b : Bool) → false ≡ (nat_lt a 0 && b)
none-less a b = sym (and_left (nat_lt a 0) b (false_from_ne_true (nat_lt a 0) (λ less. let is = ltb-true a 0 less in omega (arith, is))))

pub depth-in : (q : Path) (depth : ℕ) (paths : List Path) → is_in q (by_depth depth paths) ≡ (nat_lt (length q) depth && is_in q paths)
depth-in q zero paths = none-less (length q) (is_in q paths)
depth-in q (suc depth) paths =
    in-joined q (filter (λ path. nat_eq (length path) depth) paths) (by_depth depth paths)
    ∙ (ap (λ b. b || is_in q (by_depth depth paths)) (filter-in (λ path. nat_eq (length path) depth) q paths)
    ∙ (ap (λ b. (nat_eq (length q) depth && is_in q paths) || b) (depth-in q depth paths)
    ∙ (and-over (nat_eq (length q) depth) (nat_lt (length q) depth) (is_in q paths)
    ∙ ap (λ b. b && is_in q paths) (lt-next (length q) depth))))

within-at : (t : Bool) (q p : Path) (paths : List Path) → is_path q p ≡ t → (is_in q paths ≡ true → nat_lt (length q) (depth_of paths) ≡ true) → (t || is_in q paths) ≡ true
    → nat_lt (length q) (depth_of (p ∷ paths)) ≡ true
within-at true q p paths is more has =
    let long : length q ≡ length p = ap (λ (x : Path). length x) (same-path q p is) in lt-ltb (length q) (depth_of (p ∷ paths)) (omega (arith, long))
within-at false q p paths is more has =
    let less = ltb-true (length q) (depth_of paths) (more has) in lt-ltb (length q) (depth_of (p ∷ paths)) (omega (arith, less))

within : (q : Path) (paths : List Path) → is_in q paths ≡ true → nat_lt (length q) (depth_of paths) ≡ true
within q [] has = absurd (false≢true has)
within q (p ∷ paths) has = within-at (is_path q p) q p paths refl (within q paths) has

and-if : (a b : Bool) → (b ≡ true → a ≡ true) → (a && b) ≡ b
and-if true b is = refl
and-if false true is = is refl
and-if false false is = refl

pub deepest-in : (q : Path) (paths : List Path) → is_in q (deepest_first paths) ≡ is_in q paths
deepest-in q paths = depth-in q (depth_of paths) paths ∙ and-if (nat_lt (length q) (depth_of paths)) (is_in q paths) (within q paths)

-- a tree has something at exactly its paths
here-at : (t : Bool) (q : Path) (entry : Path × Content) (tree : List (Path × Content)) → is_path q entry.0 ≡ t
    → is_some (at tree q) ≡ is_in q (paths_of tree) → is_some (at (entry ∷ tree) q) ≡ (t || is_in q (paths_of tree))
here-at true q entry tree is rest = rw is refl
here-at false q entry tree is rest = rw is rest

pub at-in : (q : Path) (tree : List (Path × Content)) → is_some (at tree q) ≡ is_in q (paths_of tree)
at-in q [] = refl
at-in q (entry ∷ tree) = here-at (is_path q entry.0) q entry tree refl (at-in q tree)

-- a test that no path of a list passes
none-at : (t : Bool) (test : Path → Bool) (q path : Path) (paths : List Path) → is_path q path ≡ t → test path ≡ false → (is_in q paths ≡ true → test q ≡ false) → (t || is_in q paths) ≡ true → test q ≡ false
none-at true test q path paths is here rest has = subst (λ (p : Path). test p ≡ false) (sym (same-path q path is)) here
none-at false test q path paths is here rest has = rest has

pub none-in : (test : Path → Bool) (q : Path) (paths : List Path) → list_any test paths ≡ false → is_in q paths ≡ true → test q ≡ false
none-in test q [] none has = absurd (false≢true has)
none-in test q (path ∷ paths) none has =
    let parts = or_parts (test path) (list_any test paths) none in
    none-at (is_path q path) test q path paths refl parts.0 (λ more. none-in test q paths parts.1 more) has

pub none-of : (test : Path → Bool) (q : Path) (tree : List (Path × Content)) → list_any (λ (entry : Path × Content). test entry.0) tree ≡ false → is_in q (paths_of tree) ≡ true → test q ≡ false
none-of test q [] none has = absurd (false≢true has)
none-of test q (entry ∷ tree) none has =
    let parts = or_parts (test entry.0) (list_any (λ (e : Path × Content). test e.0) tree) none in
    none-at (is_path q entry.0) test q entry.0 (paths_of tree) refl parts.0 (λ more. none-of test q tree parts.1 more) has

-- and one that each passes
or-second : (a b : Bool) → b ≡ true → (a || b) ≡ true
or-second true b is = refl
or-second false b is = is

pub each-of : (test : Path → Bool) (tree : List (Path × Content)) → ((q : Path) → is_in q (paths_of tree) ≡ true → test q ≡ true) → list_all (λ (entry : Path × Content). test entry.0) tree ≡ true
each-of test [] each = refl
each-of test (entry ∷ tree) each =
    and_from (test entry.0) (list_all (λ (e : Path × Content). test e.0) tree) (each entry.0 (ap (λ b. b || is_in entry.0 (paths_of tree)) (path-self entry.0)))
    (each-of test tree (λ q has. each q (or-second (is_path q entry.0) (is_in q (paths_of tree)) has)))

all-here : (test : Path → Bool) (tree : List (Path × Content)) (t : Bool) (q path : Path) → is_path q path ≡ t → test path ≡ true → (is_in q (paths_of tree) ≡ true → test q ≡ true) → (t || is_in q (paths_of tree)) ≡ true → test q ≡ true
all-here test tree true q path is here rest has = subst (λ (p : Path). test p ≡ true) (sym (same-path q path is)) here
all-here test tree false q path is here rest has = rest has

pub all-at : (test : Path → Bool) (q : Path) (tree : List (Path × Content)) → list_all (λ (entry : Path × Content). test entry.0) tree ≡ true → is_in q (paths_of tree) ≡ true → test q ≡ true
all-at test q [] each has = absurd (false≢true has)
all-at test q (entry ∷ tree) each has =
    let parts = and_parts (test entry.0) (list_all (λ (e : Path × Content). test e.0) tree) each in
    all-here test tree (is_path q entry.0) q entry.0 refl parts.0 (λ more. all-at test q tree parts.1 more) has
