-- What goes, by what is to stay below it.
use Rattle.std.proofs.Common.{◌≡◌, Bool, true, false, not, ◌&&◌, ◌||◌, List, filter, is_some, Option, Some, None, refl, ap, sym, subst, ◌∙◌}
use Rattle.std.proofs.lemmas.Bool.{true≢false, false≢true, and_parts, and_from, false_from_ne_true, not-true, not-false}
use Rattle.std.specs.List.{list_any, list_all}
use Rattle.od_merge.specs.declared.content.Content.{Content}
use Rattle.od_merge.specs.declared.content.Content.TheVariants.{Folder, File}
use Rattle.od_merge.specs.Sides.{Sides, at, is_below, is_from, is_path, paths_of}
use Rattle.od_merge.specs.Merging.{all_paths, both_paths, is_going, is_going_node, is_unwanted}
use Rattle.od_reconcile.specs.Looks.{IsSide, goes_by, is_staying_on}
use Rattle.od_merge.proofs.Lists.{Path, all-at, at-in, each-of, in-order, is_in, none-in, same-path}
use Rattle.od_merge.proofs.Needs.{below-is-from, from-below}
use Rattle.od_merge.proofs.SideFacts.{going-at}
use Rattle.od_merge.proofs.Cores.{any-filter}
use Rattle.od_merge.proofs.Doing.{none-of-list}

pub iff : (a b : Bool) → (a ≡ true → b ≡ true) → (b ≡ true → a ≡ true) → a ≡ b
iff true b there back = sym (there refl)
iff false true there back = back refl
iff false false there back = refl

from-or : (t u : Bool) → (not t || u) ≡ true → t ≡ true → u ≡ true
from-or true u is t_is = is
from-or false u is t_is = absurd (false≢true t_is)

module _ (s : Sides) (side : List (Path × Content)) (q : Path) (on_side : IsSide s side) where
  stuck : Bool
  stuck = list_any (λ other. is_below q other) (filter (is_staying_on s side) (all_paths s))

  one-stays : (o : Path) (t : Bool) → is_below q o ≡ t → list_all (λ (entry : Path × Content). not (is_from q entry.0) || is_unwanted s side entry.0) side ≡ true → (t && is_staying_on s side o) ≡ false
  one-stays o false below each = refl
  one-stays o true below each = false_from_ne_true (is_staying_on s side o)
      (λ stays.
      let parts = and_parts (is_some (at side o)) (not (is_unwanted s side o)) stays in
      true≢false (sym (from-or (is_from q o) (is_unwanted s side o) (all-at (λ p. not (is_from q p) || is_unwanted s side p) o side each (sym (at-in o side) ∙ parts.0)) (below-is-from q o below)) ∙ not-true (is_unwanted s side o) parts.1))

  not-stuck : list_all (λ (entry : Path × Content). not (is_from q entry.0) || is_unwanted s side entry.0) side ≡ true → list_any (λ other. is_below q other) (filter (is_staying_on s side) (all_paths s)) ≡ false
  not-stuck each = any-filter (λ o. is_below q o) (is_staying_on s side) (all_paths s)
      ∙ none-of-list (λ o. is_below q o && is_staying_on s side o) (all_paths s) (λ o has. one-stays o (is_below q o) refl each)

  unwanted-one : (p : Path) (below same : Bool) → is_from q p ≡ true → is_path q p ≡ same → is_unwanted s side q ≡ true → is_in p (paths_of side) ≡ true
      → list_any (λ other. is_below q other) (filter (is_staying_on s side) (all_paths s)) ≡ false → is_unwanted s side p ≡ true
  unwanted-one p below true from is unwanted has none = subst (λ (r : Path). is_unwanted s side r ≡ true) (same-path q p is) unwanted
  unwanted-one p below false from is unwanted has none =
      let some = at-in p side ∙ has in
      let at_p = none-in (λ o. is_below q o && is_staying_on s side o) p (all_paths s) (sym (any-filter (λ o. is_below q o) (is_staying_on s side) (all_paths s)) ∙ none) (in-order p (both_paths s) ∙ on_side p some) in
      let stays : is_staying_on s side p ≡ false = sym (ap (λ b. b && is_staying_on s side p) (from-below q p from is)) ∙ at_p in
      not-false (is_unwanted s side p) (sym (ap (λ b. b && not (is_unwanted s side p)) some) ∙ stays)

  unwanted-at : (p : Path) (t : Bool) → is_from q p ≡ t → is_unwanted s side q ≡ true → is_in p (paths_of side) ≡ true
      → list_any (λ other. is_below q other) (filter (is_staying_on s side) (all_paths s)) ≡ false → (not t || is_unwanted s side p) ≡ true
  unwanted-at p false from unwanted has none = refl
  unwanted-at p true from unwanted has none = unwanted-one p true (is_path q p) from refl unwanted has none

  by-node : (x : Option Content) → at side q ≡ x → is_going_node s side q x ≡ goes_by x (is_unwanted s side q) (list_any (λ other. is_below q other) (filter (is_staying_on s side) (all_paths s)))
  by-node None is = refl
  by-node (Some Folder) is = iff (is_going_node s side q (Some Folder)) (is_unwanted s side q && not (list_any (λ other. is_below q other) (filter (is_staying_on s side) (all_paths s))))
      (λ going. and_from (is_unwanted s side q) (not (list_any (λ other. is_below q other) (filter (is_staying_on s side) (all_paths s)))) (going-at s side q (Some Folder) is going) (ap (λ b. not b) (not-stuck going)))
      (λ goes.
      let parts = and_parts (is_unwanted s side q) (not (list_any (λ other. is_below q other) (filter (is_staying_on s side) (all_paths s)))) goes in
      let none = not-true (list_any (λ other. is_below q other) (filter (is_staying_on s side) (all_paths s))) parts.1 in
      each-of (λ p. not (is_from q p) || is_unwanted s side p) side (λ p has. unwanted-at p (is_from q p) refl parts.0 has none))
  by-node (Some (File d)) is = refl

  pub going-by : {node : Option Content} {unwanted stuck : Bool} → node ≡ at side q → unwanted ≡ is_unwanted s side q
      → stuck ≡ list_any (λ other. is_below q other) (filter (is_staying_on s side) (all_paths s)) → goes_by node unwanted stuck ≡ is_going s side q
  going-by node_is unwanted_is stuck_is = rw (node_is, unwanted_is, stuck_is) (sym (by-node (at side q) refl))
