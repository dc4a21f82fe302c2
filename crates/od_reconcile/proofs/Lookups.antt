-- What maps and sets of paths answer.
use Rattle.std.proofs.Common.{◌≡◌, Bool, true, false, ◌||◌, cond, List, [], ◌∷◌, Some, refl, ap, sym, ◌∙◌}
use Rattle.std.proofs.lemmas.Bool.{true≢false, false_from_ne_true}
use Rattle.std.proofs.lemmas.Cmp.{tied_itself, nat_list_cmp_total}
use Rattle.std.specs.Cmp.Lexicographic.{lists_total}
use Rattle.std.specs.List.{list_any}
use Rattle.std.specs.Map.{lookup}
use Rattle.std.specs.Ordering.{is_eq}
use Rattle.std.specs.declared.cmp.Ordering.{Ordering}
use Rattle.std.specs.declared.cmp.Ordering.TheVariants.{Less, Equal, Greater}
use Rattle.od_merge.specs.declared.content.Content.{Content}
use Rattle.od_merge.specs.Sides.{at, is_path}
use Rattle.gd_names.specs.Ordered.{path_cmp}
use Rattle.od_merge.proofs.Lists.{Path, is_in, path-self, same-path}
use Rattle.gd_names.proofs.Ordered.{exact-paths}

apart : (o : Ordering) (a b : Path) → path_cmp a b ≡ o → is_eq o ≡ false → is_path a b ≡ false
apart o a b is not_equal = false_from_ne_true (is_path a b)
    (λ same. true≢false (sym (ap is_eq (tied_itself (lists_total nat_list_cmp_total) a)) ∙ (ap (λ (p : Path). is_eq (path_cmp a p)) (same-path a b same) ∙ (ap is_eq is ∙ not_equal))))

tested : (o : Ordering) (a b : Path) → path_cmp a b ≡ o → is_eq o ≡ is_path a b
tested Less a b is = sym (apart Less a b is refl)
tested Equal a b is = sym (sym (ap (λ (p : Path). is_path a p) (exact-paths a b is)) ∙ path-self a)
tested Greater a b is = sym (apart Greater a b is refl)

pub eq-path : (a b : Path) → is_eq (path_cmp a b) ≡ is_path a b
eq-path a b = tested (path_cmp a b) a b refl

pub set-has : (q : Path) (keys : List Path) → list_any (λ k. is_eq (path_cmp q k)) keys ≡ is_in q keys
set-has q [] = refl
set-has q (k ∷ keys) = rw (eq-path q k) (ap (λ b. is_path q k || b) (set-has q keys))

pick : (t : Bool) (q : Path) (entry : Path × Content) (entries : List (Path × Content)) → is_path q entry.0 ≡ t → lookup (λ k. is_eq (path_cmp q k)) entries ≡ at entries q
    → cond t (Some entry.1) (lookup (λ k. is_eq (path_cmp q k)) entries) ≡ at (entry ∷ entries) q
pick true q entry entries is rest = rw is refl
pick false q entry entries is rest = rw is rest

pub map-has : (q : Path) (entries : List (Path × Content)) → lookup (λ k. is_eq (path_cmp q k)) entries ≡ at entries q
map-has q [] = refl
map-has q (entry ∷ entries) = rw (eq-path q entry.0) (pick (is_path q entry.0) q entry entries refl (map-has q entries))
