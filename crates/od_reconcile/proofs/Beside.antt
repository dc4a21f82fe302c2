-- A copy's path is beside the entry's, and free.
use Rattle.std.proofs.Common.{◌≡◌, ℕ, zero, suc, ◌+◌, ◌≤◌, Bool, true, false, ◌&&◌, ◌||◌, cond, List, [], ◌∷◌, ◌++◌, length, nat_eq, nat_lt, Option, Some, None, refl, ap, sym, subst, ◌∙◌, arith, length-append}
use Rattle.std.proofs.lemmas.Bool.{true≢false, ltb-true, or_parts}
use Rattle.std.specs.Cmp.Lexicographic.{pointwise}
use Rattle.std.specs.List.{cons_option, list_any}
use Rattle.std.specs.Option.{option_map}
use Rattle.gd_names.specs.Caseless.{equal_caseless, lower_case}
use Rattle.gd_names.specs.Copies.{copy_of, is_among}
use Rattle.od_merge.specs.Pairs.{folder_of}
use Rattle.od_merge.specs.Sides.{Tree, at, is_below, is_folder, is_from, is_path}
use Rattle.od_merge.specs.Steps.{IsCopying}
use Rattle.od_merge.proofs.Lists.{Path, is_in, same-path, text-self}
use Rattle.od_reconcile.specs.Copying.{copy_among, copy_beside, copy_from, copy_path, name_in, name_of, names_in}

module _ (name : List ℕ) (folder : Bool) (host : List ℕ) (names : List (List ℕ)) where
  free-at : (t : Bool) (more from : ℕ) (copy : List ℕ) → is_among names (copy_of name folder host from) ≡ t
      → (copy_from more (suc from) name folder host names ≡ Some copy → is_among names copy ≡ false)
      → cond t (copy_from more (suc from) name folder host names) (Some (copy_of name folder host from)) ≡ Some copy → is_among names copy ≡ false
  free-at true more from copy is rest found_is = rest found_is
  free-at false more from copy is rest found_is = let same : copy_of name folder host from ≡ copy = cc in sym (ap (λ (c : List ℕ). is_among names c) same) ∙ is

  free-from : (fuel from : ℕ) (copy : List ℕ) → copy_from fuel from name folder host names ≡ Some copy → is_among names copy ≡ false
  unfolding copy_from
  free-from zero from copy is = absurd (cc)
  free-from (suc more) from copy is = free-at (is_among names (copy_of name folder host from)) more from copy refl (λ rest. free-from more (suc from) copy rest) is

  free-cond : (t : Bool) (copy : List ℕ) → cond t None (copy_from 9999 1 name folder host names) ≡ Some copy → is_among names copy ≡ false
  free-cond true copy is = absurd (cc)
  free-cond false copy is = free-from 9999 1 copy is

caseless-self : (text : List ℕ) → equal_caseless text text ≡ true
caseless-self text = text-self (lower_case text)

name-here : (above : Path) (copy : List ℕ) → name_in above (above ++ copy ∷ []) ≡ Some copy
name-here [] copy = refl
name-here (top ∷ above) copy = rw (text-self top) (name-here above copy)

apart-at : (above : Path) (copy : List ℕ) (other : Path) (x : Option (List ℕ)) (rest : List Path) (t : Bool) → name_in above other ≡ x → is_path (above ++ copy ∷ []) other ≡ t
    → is_among (cons_option x (names_in above rest)) copy ≡ false → (is_among (names_in above rest) copy ≡ false → is_in (above ++ copy ∷ []) rest ≡ false) → (t || is_in (above ++ copy ∷ []) rest) ≡ false
apart-at above copy other None rest true name_is same none more =
    let named : name_in above other ≡ Some copy = ap (λ (p : Path). name_in above p) (sym (same-path (above ++ copy ∷ []) other same)) ∙ name-here above copy in absurd (cc)
apart-at above copy other None rest false name_is same none more = more none
apart-at above copy other (Some name) rest true name_is same none more =
    let named : name_in above other ≡ Some copy = ap (λ (p : Path). name_in above p) (sym (same-path (above ++ copy ∷ []) other same)) ∙ name-here above copy in
    let is : name ≡ copy = cc in
    let parts = or_parts (equal_caseless name copy) (is_among (names_in above rest) copy) none in
    absurd (true≢false (sym (ap (λ (n : List ℕ). equal_caseless n copy) is ∙ caseless-self copy) ∙ parts.0))
apart-at above copy other (Some name) rest false name_is same none more = more (or_parts (equal_caseless name copy) (is_among (names_in above rest) copy) none).1

apart : (above : Path) (copy : List ℕ) (taken : List Path) → is_among (names_in above taken) copy ≡ false → is_in (above ++ copy ∷ []) taken ≡ false
apart above copy [] none = refl
apart above copy (other ∷ taken) none = apart-at above copy other (name_in above other) taken (is_path (above ++ copy ∷ []) other) refl refl none (apart above copy taken)

from-end : (top above : Path) (a b : List ℕ) → length top ≤ length above → is_from top (above ++ a ∷ []) ≡ is_from top (above ++ b ∷ [])
from-end [] above a b within = refl
from-end (t ∷ top) [] a b within = absurd (omega (arith, within))
from-end (t ∷ top) (x ∷ above) a b within = let less : length top ≤ length above = omega (arith, within) in ap (λ c. pointwise nat_eq t x && c) (from-end top above a b less)

below-at : (u : Bool) (top above : Path) (a b : List ℕ) → nat_lt (length top) (length (above ++ a ∷ [])) ≡ u → nat_lt (length top) (length (above ++ b ∷ [])) ≡ u
    → is_below top (above ++ a ∷ []) ≡ is_below top (above ++ b ∷ [])
below-at true top above a b first second =
    let long = ltb-true (length top) (length (above ++ a ∷ [])) first in
    let size : length (above ++ a ∷ []) ≡ length above + 1 = length-append above (a ∷ []) in
    let within : length top ≤ length above = omega (arith, long, size) in
    rw (first, second) (from-end top above a b within)
below-at false top above a b first second = rw (first, second) refl

below-end : (top above : Path) (a b : List ℕ) → is_below top (above ++ a ∷ []) ≡ is_below top (above ++ b ∷ [])
below-end top above a b =
    let same : length (above ++ a ∷ []) ≡ length (above ++ b ∷ []) = simp length-append in
    below-at (nat_lt (length top) (length (above ++ a ∷ []))) top above a b refl (ap (λ (n : ℕ). nat_lt (length top) n) (sym same))

whole : (top : List ℕ) (path : Path) → top ∷ path ≡ folder_of (top ∷ path) ++ name_of (top ∷ path) ∷ []
whole top [] = refl
whole top (next ∷ path) = ap (λ (p : Path). top ∷ p) (whole next path)

beside-at : (host : List ℕ) (folder : Bool) (taken : List Path) (top : List ℕ) (path to : Path) (x : Option (List ℕ))
    → copy_among (name_of (top ∷ path)) folder host (names_in (folder_of (top ∷ path)) taken) ≡ x
    → option_map (λ copy. folder_of (top ∷ path) ++ copy ∷ []) x ≡ Some to
    → (list_any (is_path to) taken ≡ false) × ((above : Path) → is_below above to ≡ is_below above (top ∷ path))
beside-at host folder taken top path to None is made = absurd (cc)
beside-at host folder taken top path to (Some copy) is made =
    let here = folder_of (top ∷ path) in
    let name = name_of (top ∷ path) in
    let to_is : here ++ copy ∷ [] ≡ to = cc in
    let free = free-cond name folder host (names_in here taken) (nat_lt 255 (length (copy_of name folder host 1))) copy is in (
      subst (λ (p : Path). is_in p taken ≡ false) to_is (apart here copy taken free),
      λ above. ap (λ (p : Path). is_below above p) (sym to_is) ∙ (below-end above here copy name ∙ ap (λ (p : Path). is_below above p) (sym (whole top path))),
    )

copying : (host : List ℕ) (folder : Bool) (taken : List Path) (path to : Path) → copy_beside host folder taken path ≡ Some to
    → (list_any (is_path to) taken ≡ false) × ((above : Path) → is_below above to ≡ is_below above path)
copying host folder taken [] to is = absurd (cc)
copying host folder taken (top ∷ path) to is =
    beside-at host folder taken top path to (copy_among (name_of (top ∷ path)) folder host (names_in (folder_of (top ∷ path)) taken)) refl is

pub copies-beside : (host : List ℕ) (tree : Tree) → IsCopying (copy_path host tree)
copies-beside host tree = λ taken path to is. copying host (is_folder (at tree path)) taken path to is
