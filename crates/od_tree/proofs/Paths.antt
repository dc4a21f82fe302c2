-- Paths: which are the same, and which are from another one on.
use Rattle.std.proofs.Common.{◌≡◌, ℕ, ◌-◌, ◌≤◌, true, false, List, [], ◌∷◌, ◌++◌, length, drop, nat_eq, refl, ap, sym, ◌∙◌, true≢false, arith}
use Rattle.std.proofs.lemmas.Bool.{eq-eqb, and_parts, and_from, false_from_ne_true, false≢true}
use Rattle.std.specs.Cmp.Lexicographic.{pointwise, same_text}
use Rattle.gd_item.specs.Places.{names_above}
use Rattle.od_tree.specs.Local.{is_path, is_from}

abbrev pub Path : Type 0
Path = List (List ℕ)

nat-self : (n : ℕ) → nat_eq n n ≡ true
nat-self n = eq-eqb n n refl

pub text-self : (text : List ℕ) → pointwise nat_eq text text ≡ true
text-self [] = refl
text-self (b ∷ text) = rw (nat-self b) (text-self text)

-- ---- the same
pub path-self : (path : Path) → is_path path path ≡ true
path-self [] = refl
path-self (name ∷ path) = rw (text-self name) (path-self path)

pub same-path : (a b : Path) → is_path a b ≡ true → a ≡ b
same-path [] [] is = refl
same-path [] (y ∷ b) is = absurd (false≢true is)
same-path (x ∷ a) [] is = absurd (false≢true is)
same-path (x ∷ a) (y ∷ b) is =
    let parts = and_parts (pointwise nat_eq x y) (is_path a b) is in
    ap (λ first. first ∷ a) (same_text x y (sym parts.0)) ∙ ap (λ rest. y ∷ rest) (same-path a b parts.1)

pub path-apart : (a b : Path) → (a ≡ b → ⊥) → is_path a b ≡ false
path-apart a b apart = false_from_ne_true (is_path a b) (λ same. apart (same-path a b same))

pub apart-from : (a b : Path) → is_path a b ≡ false → a ≡ b → ⊥
apart-from a b apart same = true≢false (sym (path-self b) ∙ (sym (ap (λ (p : Path). is_path p b) same) ∙ apart))

-- ---- from one on
pub from-all : (top rest : Path) → is_from top (top ++ rest) ≡ true
from-all [] rest = refl
from-all (name ∷ top) rest = rw (text-self name) (from-all top rest)

pub from-split : (top path : Path) → is_from top path ≡ true → path ≡ top ++ drop (length top) path
from-split [] path from = refl
from-split (name ∷ top) [] from = absurd (false≢true from)
from-split (name ∷ top) (first ∷ path) from =
    let parts = and_parts (pointwise nat_eq name first) (is_from top path) from in
    ap (λ x. x ∷ path) (sym (same_text name first (sym parts.0))) ∙ ap (λ rest. name ∷ rest) (from-split top path parts.1)

pub from-root : (top : Path) → is_from top [] ≡ true → top ≡ []
from-root [] from = refl
from-root (name ∷ top) from = absurd (false≢true from)

pub front-empty : (top rest : Path) → top ++ rest ≡ [] → top ≡ []
front-empty [] rest is = refl
front-empty (name ∷ top) rest is = absurd (cc is)

-- ---- the folder above
pub above-from : (path : Path) → is_from (names_above path) path ≡ true
above-from [] = refl
above-from (name ∷ []) = refl
above-from (name ∷ next ∷ path) = rw (text-self name) (above-from (next ∷ path))

pub from-above : (top path : Path) → is_from top (names_above path) ≡ true → is_from top path ≡ true
from-above [] path from = refl
from-above (name ∷ top) [] from = from
from-above (name ∷ top) (first ∷ []) from = absurd (false≢true from)
from-above (name ∷ top) (first ∷ next ∷ path) from =
    let parts = and_parts (pointwise nat_eq name first) (is_from top (names_above (next ∷ path))) from in
    and_from (pointwise nat_eq name first) (is_from top (next ∷ path)) parts.0 (from-above top (next ∷ path) parts.1)

-- a path from another one on is that one, or the folder above it is from that one on
pub not-itself : (top path : Path) → is_from top path ≡ true → (top ≡ path → ⊥) → is_from top (names_above path) ≡ true
not-itself [] path from apart = refl
not-itself (name ∷ top) [] from apart = from
not-itself (name ∷ []) (first ∷ []) from apart =
    let parts = and_parts (pointwise nat_eq name first) true from in
    absurd (apart (ap (λ x. x ∷ []) (same_text name first (sym parts.0))))
not-itself (name ∷ second ∷ top) (first ∷ []) from apart = absurd (false≢true (and_parts (pointwise nat_eq name first) false from).1)
not-itself (name ∷ top) (first ∷ next ∷ path) from apart =
    let parts = and_parts (pointwise nat_eq name first) (is_from top (next ∷ path)) from in
    and_from (pointwise nat_eq name first) (is_from top (names_above (next ∷ path))) parts.0
    (not-itself top (next ∷ path) parts.1 (λ same. apart (ap (λ x. x ∷ top) (same_text name first (sym parts.0)) ∙ ap (λ rest. first ∷ rest) same)))

pub above-append : (top : Path) (name : List ℕ) (rest : Path) → names_above (top ++ name ∷ rest) ≡ top ++ names_above (name ∷ rest)
above-append [] name rest = refl
above-append (first ∷ []) name rest = refl
above-append (first ∷ next ∷ top) name rest = ap (λ path. first ∷ path) (above-append (next ∷ top) name rest)

pub above-shorter : (path : Path) → length (names_above path) ≤ length path - 1
above-shorter [] = omega arith
above-shorter (name ∷ []) = omega arith
above-shorter (name ∷ next ∷ path) = let rest = above-shorter (next ∷ path) in omega arith

pub above-other : (path : Path) → (path ≡ [] → ⊥) → names_above path ≡ path → ⊥
above-other [] some same = some refl
above-other (name ∷ path) some same =
    let shorter = above-shorter (name ∷ path) in
    let long : length (names_above (name ∷ path)) ≡ length (name ∷ path) = ap (λ (p : Path). length p) same in
    omega arith
