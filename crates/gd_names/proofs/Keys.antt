-- Paths of entries stay where the entries are put in order, and so does what holds of what stands at them.
use Rattle.std.proofs.Common.{◌≡◌, ◌⊎◌, inl, inr, List, [], ◌∷◌, refl, ap, sym, subst}
use Rattle.std.specs.List.{AllByRecursion}
use Rattle.std.specs.declared.cmp.Ordering.{Ordering}
use Rattle.std.specs.declared.cmp.Ordering.TheVariants.{Less, Equal, Greater}
use Rattle.gd_names.specs.Ordered.{path_cmp, in_order_from}
use Rattle.gd_names.proofs.Mapped.{mapped}
use Rattle.gd_names.proofs.Ordered.{Path, In, put, placed_by, exact-paths}

module _ {X : Type 0} where
  -- an entry stands at a path
  abbrev pub Key : Path → List (Path × X) → Type 0
  Key path [] = ⊥
  Key path (entry ∷ entries) = (path ≡ entry.0) ⊎ Key path entries

  pub key-in : (path : Path) (entries : List (Path × X)) → Key path entries → (x : X) × In (path, x) entries
  key-in path [] key = absurd key
  key-in path (entry ∷ entries) (inl same) = (entry.1, inl (ap (λ (p : Path). (p, entry.1)) same))
  key-in path (entry ∷ entries) (inr more) =
      let rest : (x : X) × In (path, x) entries = key-in path entries more in (rest.0, inr rest.1)

  key-put-at : (o : Ordering) (path : Path) (x : X) (entry : Path × X) (entries : List (Path × X)) → path_cmp path entry.0 ≡ o → Key path (put entries path x)
      → Key path (placed_by o path x entry entries)
  key-put-at Less path x entry entries is rest = inl refl
  key-put-at Equal path x entry entries is rest = inl (exact-paths path entry.0 is)
  key-put-at Greater path x entry entries is rest = inr rest

  key-put : (path : Path) (x : X) (entries : List (Path × X)) → Key path (put entries path x)
  key-put path x [] = inl refl
  key-put path x (entry ∷ entries) = key-put-at (path_cmp path entry.0) path x entry entries refl (key-put path x entries)

  key-kept-at : (o : Ordering) (other path : Path) (x : X) (entry : Path × X) (entries : List (Path × X)) → Key other (entry ∷ entries)
      → (Key other entries → Key other (put entries path x)) → Key other (placed_by o path x entry entries)
  key-kept-at Less other path x entry entries key rest = inr key
  key-kept-at Equal other path x entry entries key rest = key
  key-kept-at Greater other path x entry entries (inl same) rest = inl same
  key-kept-at Greater other path x entry entries (inr more) rest = inr (rest more)

  key-kept : (other path : Path) (x : X) (entries : List (Path × X)) → Key other entries → Key other (put entries path x)
  key-kept other path x [] key = absurd key
  key-kept other path x (entry ∷ entries) key = key-kept-at (path_cmp path entry.0) other path x entry entries key (λ more. key-kept other path x entries more)

  key-stays : (other : Path) (so_far entries : List (Path × X)) → Key other so_far → Key other (in_order_from so_far entries)
  key-stays other so_far [] key = key
  key-stays other so_far (entry ∷ entries) key = key-stays other (put so_far entry.0 entry.1) entries (key-kept other entry.0 entry.1 so_far key)

  pub key-in-order : (other : Path) (so_far entries : List (Path × X)) → Key other entries → Key other (in_order_from so_far entries)
  key-in-order other so_far [] key = absurd key
  key-in-order other so_far (entry ∷ entries) (inl same) =
      key-stays other (put so_far entry.0 entry.1) entries (subst (λ (p : Path). Key p (put so_far entry.0 entry.1)) (sym same) (key-put entry.0 entry.1 so_far))
  key-in-order other so_far (entry ∷ entries) (inr more) = key-in-order other (put so_far entry.0 entry.1) entries more

-- ---- what stands at the paths is looked at in another way
module _ {X Y : Type 0} (f : X → Y) where
  pub in-mapped : (entry : Path × X) (entries : List (Path × X)) → In entry entries → In (entry.0, f entry.1) (mapped f entries)
  in-mapped entry [] is = absurd is
  in-mapped entry (first ∷ entries) (inl same) = inl (ap (λ (e : Path × X). (e.0, f e.1)) same)
  in-mapped entry (first ∷ entries) (inr more) = inr (in-mapped entry entries more)

  pub all-mapped : (Q : Path × Y → Type 0) (entries : List (Path × X)) → AllByRecursion (λ (entry : Path × X). Q (entry.0, f entry.1)) entries → AllByRecursion Q (mapped f entries)
  all-mapped Q [] all = tt
  all-mapped Q (entry ∷ entries) all = (all.0, all-mapped Q entries all.1)
