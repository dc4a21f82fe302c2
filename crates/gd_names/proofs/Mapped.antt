-- Entries are put in order of path whatever stands at the paths.
use Rattle.std.proofs.Common.{◌≡◌, ℕ, List, [], ◌∷◌, map, refl, ap, ◌∙◌}
use Rattle.std.specs.BTreeMap.{insert_entry}
use Rattle.std.specs.Ordering.{match_ordering}
use Rattle.std.specs.declared.cmp.Ordering.{Ordering}
use Rattle.std.specs.declared.cmp.Ordering.TheVariants.{Less, Equal, Greater}
use Rattle.gd_names.specs.Ordered.{path_cmp, in_order_from, in_order}

module _ {X Y : Type 0} (f : X → Y) where
  abbrev pub mapped : List (List (List ℕ) × X) → List (List (List ℕ) × Y)
  mapped entries = map (λ (entry : List (List ℕ) × X). (entry.0, f entry.1)) entries

  put-at : (o : Ordering) (path : List (List ℕ)) (x : X) (entry : List (List ℕ) × X) (entries : List (List (List ℕ) × X))
      → insert_entry path_cmp (mapped entries) path (f x) ≡ mapped (insert_entry path_cmp entries path x)
      → match_ordering o ((path, f x) ∷ mapped (entry ∷ entries)) ((entry.0, f x) ∷ mapped entries) ((entry.0, f entry.1) ∷ insert_entry path_cmp (mapped entries) path (f x))
      ≡ mapped (match_ordering o ((path, x) ∷ entry ∷ entries) ((entry.0, x) ∷ entries) (entry ∷ insert_entry path_cmp entries path x))
  put-at Less path x entry entries same = refl
  put-at Equal path x entry entries same = refl
  put-at Greater path x entry entries same = ap (λ more. (entry.0, f entry.1) ∷ more) same

  put-mapped : (path : List (List ℕ)) (x : X) (entries : List (List (List ℕ) × X)) → insert_entry path_cmp (mapped entries) path (f x) ≡ mapped (insert_entry path_cmp entries path x)
  put-mapped path x [] = refl
  put-mapped path x (entry ∷ entries) = put-at (path_cmp path entry.0) path x entry entries (put-mapped path x entries)

  from-mapped : (so_far entries : List (List (List ℕ) × X)) → in_order_from (mapped so_far) (mapped entries) ≡ mapped (in_order_from so_far entries)
  from-mapped so_far [] = refl
  from-mapped so_far (entry ∷ entries) =
      ap (λ more. in_order_from more (mapped entries)) (put-mapped entry.0 entry.1 so_far) ∙ from-mapped (insert_entry path_cmp so_far entry.0 entry.1) entries

  pub in-order-mapped : (entries : List (List (List ℕ) × X)) → in_order (mapped entries) ≡ mapped (in_order entries)
  in-order-mapped entries = from-mapped [] entries
