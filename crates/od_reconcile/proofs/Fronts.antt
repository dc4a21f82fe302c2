-- The folders above paths.
use Rattle.std.proofs.Common.{◌≡◌, ℕ, suc, Bool, true, false, ◌&&◌, ◌||◌, List, [], ◌∷◌, ◌++◌, length, map, nat_eq, nat_lt, refl, ap, sym, subst, ◌∙◌, arith, append_assoc}
use Rattle.std.proofs.lemmas.Bool.{and_from, lt-ltb, ltb-true}
use Rattle.std.proofs.lemmas.List.{append-nil}
use Rattle.std.specs.Cmp.Lexicographic.{pointwise}
use Rattle.std.specs.List.{list_any}
use Rattle.od_merge.specs.Sides.{is_below, is_from, is_path}
use Rattle.od_merge.specs.Merging.{in_order_from}
use Rattle.od_reconcile.specs.Above.{fronts, fronts_from, with_fronts}
use Rattle.od_merge.proofs.Lists.{Path, from-self, in-joined, in-order, in-order-from, in_order_joined, is_in, same-path}
use Rattle.od_merge.proofs.Needs.{below-is-from, from-below}
use Rattle.od_reconcile.proofs.Goes.{iff}
use Rattle.od_reconcile.proofs.Wanting.{turn-four}

abbrev front_paths : Path → List Path
front_paths [] = []
front_paths (name ∷ names) = [] ∷ map (λ path. name ∷ path) (front_paths names)

map-after : (above : Path) (name : List ℕ) (paths : List Path) → map (λ path. (above ++ name ∷ []) ++ path) paths ≡ map (λ path. above ++ path) (map (λ path. name ∷ path) paths)
map-after above name [] = refl
map-after above name (path ∷ paths) = ap (λ p. p ∷ map (λ q. (above ++ name ∷ []) ++ q) paths) (append_assoc above (name ∷ []) path) ∙ ap (λ ps. (above ++ name ∷ path) ∷ ps) (map-after above name paths)

fronts-are : (above path : Path) → fronts_from above path ≡ map (λ front. above ++ front) (front_paths path)
fronts-are above [] = refl
fronts-are above (name ∷ names) =
    ap (λ rest. above ∷ rest) (fronts-are (above ++ name ∷ []) names ∙ map-after above name (front_paths names))
    ∙ ap (λ first. first ∷ map (λ front. above ++ front) (map (λ path. name ∷ path) (front_paths names))) (sym (append-nil above))

map-none : (paths : List Path) → map (λ (front : Path). front) paths ≡ paths
map-none [] = refl
map-none (path ∷ paths) = ap (λ ps. path ∷ ps) (map-none paths)

and-over : (a b c : Bool) → ((a && b) || (a && c)) ≡ (a && (b || c))
and-over true b c = refl
and-over false b c = refl

and-nothing : (a : Bool) → false ≡ (a && false)
and-nothing true = refl
and-nothing false = refl

in-next : (x name : List ℕ) (q : Path) (paths : List Path) → is_in (x ∷ q) (map (λ path. name ∷ path) paths) ≡ (pointwise nat_eq x name && is_in q paths)
in-next x name q [] = and-nothing (pointwise nat_eq x name)
in-next x name q (path ∷ paths) = ap (λ b. (pointwise nat_eq x name && is_path q path) || b) (in-next x name q paths) ∙ and-over (pointwise nat_eq x name) (is_path q path) (is_in q paths)

lt-next : (a b : ℕ) → nat_lt a b ≡ nat_lt (suc a) (suc b)
lt-next a b = iff (nat_lt a b) (nat_lt (suc a) (suc b)) (λ is. let low = ltb-true a b is in lt-ltb (suc a) (suc b) (omega (arith, low))) (λ is. let low = ltb-true (suc a) (suc b) is in lt-ltb a b (omega (arith, low)))

turn-and : (a b c : Bool) → (a && (b && c)) ≡ (b && (a && c))
turn-and true b c = refl
turn-and false true c = refl
turn-and false false c = refl

front-in : (q path : Path) → is_in q (front_paths path) ≡ is_below q path
front-in [] [] = refl
front-in [] (name ∷ names) = sym (and_from (nat_lt 0 (length (name ∷ names))) true (lt-ltb 0 (length (name ∷ names)) (omega arith)) refl)
front-in (x ∷ q) [] = and-nothing (nat_lt (length (x ∷ q)) (length {A = List ℕ} []))
front-in (x ∷ q) (name ∷ names) = in-next x name q (front_paths names) ∙ (ap (λ b. pointwise nat_eq x name && b) (front-in q names)
    ∙ (turn-and (pointwise nat_eq x name) (nat_lt (length q) (length names)) (is_from q names) ∙ ap (λ b. b && (pointwise nat_eq x name && is_from q names)) (lt-next (length q) (length names))))

pub fronts-in : (q path : Path) → is_in q (fronts_from [] path) ≡ is_below q path
fronts-in q path = ap (λ ps. is_in q ps) (fronts-are [] path ∙ map-none (front_paths path)) ∙ front-in q path

pub all-fronts : (q : Path) (paths : List Path) → is_in q (fronts paths) ≡ list_any (λ other. is_below q other) paths
all-fronts q [] = refl
all-fronts q (path ∷ paths) = in-joined q (fronts_from [] path) (fronts paths) ∙ (ap (λ b. b || is_in q (fronts paths)) (fronts-in q path) ∙ ap (λ b. is_below q path || b) (all-fronts q paths))

with-fronts : (keys paths : List Path) → with_fronts keys paths ≡ in_order_from keys (fronts paths)
with-fronts keys [] = refl
with-fronts keys (path ∷ paths) = with-fronts (in_order_from keys (fronts_from [] path)) paths ∙ sym (in_order_joined keys (fronts_from [] path) (fronts paths))

pub above-in : (q : Path) (keys paths : List Path) → keys ≡ with_fronts [] paths → is_in q keys ≡ list_any (λ other. is_below q other) paths
above-in q keys paths is = ap (λ ps. is_in q ps) (is ∙ with-fronts [] paths) ∙ (in-order q (fronts paths) ∙ all-fronts q paths)

-- paths with the folders above them
or-true : (a : Bool) → (a || true) ≡ true
or-true true = refl
or-true false = refl

or-false : (a : Bool) → (a || false) ≡ a
or-false true = refl
or-false false = refl

from-either-at : (t : Bool) (q o : Path) → is_path q o ≡ t → (is_below q o || t) ≡ is_from q o
from-either-at true q o is = or-true (is_below q o) ∙ sym (subst (λ (p : Path). is_from q p ≡ true) (same-path q o is) (from-self q))
from-either-at false q o is = iff (is_below q o || false) (is_from q o) (λ below. below-is-from q o (sym (or-false (is_below q o)) ∙ below)) (λ from. or-false (is_below q o) ∙ from-below q o from is)

pub from-either : (q path : Path) → (is_below q path || is_in q (path ∷ [])) ≡ is_from q path
from-either q path = ap (λ b. is_below q path || b) (or-false (is_path q path)) ∙ from-either-at (is_path q path) q path refl

either-any : (q : Path) (paths : List Path) → (list_any (λ other. is_below q other) paths || is_in q paths) ≡ list_any (λ other. is_from q other) paths
either-any q [] = refl
either-any q (path ∷ paths) =
    turn-four (is_below q path) (list_any (λ other. is_below q other) paths) (is_path q path) (is_in q paths)
    ∙ (ap (λ b. b || (list_any (λ other. is_below q other) paths || is_in q paths)) (from-either-at (is_path q path) q path refl) ∙ ap (λ b. is_from q path || b) (either-any q paths))

pub from-in : (q : Path) (above keys paths : List Path) → above ≡ with_fronts [] paths → keys ≡ in_order_from above paths → is_in q keys ≡ list_any (λ other. is_from q other) paths
from-in q above keys paths above_is keys_is =
    ap (λ ps. is_in q ps) keys_is ∙ (in-order-from q above paths ∙ (ap (λ b. b || is_in q paths) (above-in q above paths above_is) ∙ either-any q paths))
