-- Entries in order of path: what holds of each, that they rise, and which of them a test keeps.
use Rattle.std.proofs.Common.{◌≡◌, ℕ, ◌⊎◌, inl, inr, Bool, true, false, cond, List, [], ◌∷◌, Option, Some, refl, ap, sym, subst, ◌∙◌}
use Rattle.std.specs.BTreeMap.{insert_entry}
use Rattle.std.specs.Cmp.{IsTotalOrder}
use Rattle.std.specs.Cmp.Lexicographic.{slice_cmp, lists_total, nat_list_cmp_total}
use Rattle.std.specs.List.{AllByRecursion, filter}
use Rattle.std.specs.Ordering.{nat_cmp, match_ordering, ordering_then, ordering_reverse}
use Rattle.std.specs.declared.cmp.Ordering.{Ordering}
use Rattle.std.specs.declared.cmp.Ordering.TheVariants.{Less, Equal, Greater}
use Rattle.std.proofs.lemmas.Map.Lookups.{exact_bytes}
use Rattle.gd_names.specs.Ordered.{path_cmp, in_order_from}

abbrev pub Path : Type 0
Path = List (List ℕ)

both-equal : (o p : Ordering) → ordering_then o p ≡ Equal → (o ≡ Equal) × (p ≡ Equal)
both-equal Less p is = absurd (cc is)
both-equal Equal p is = (refl, is)
both-equal Greater p is = absurd (cc is)

pub exact-paths : (a b : Path) → path_cmp a b ≡ Equal → a ≡ b
exact-paths [] [] is = refl
exact-paths [] (y ∷ b) is = absurd (cc is)
exact-paths (x ∷ a) [] is = absurd (cc is)
exact-paths (x ∷ a) (y ∷ b) is =
    let parts = both-equal (slice_cmp nat_cmp x y) (path_cmp a b) is in
    ap (λ first. first ∷ a) (exact_bytes x y parts.0) ∙ ap (λ rest. y ∷ rest) (exact-paths a b parts.1)

pub paths-total : IsTotalOrder path_cmp
paths-total = lists_total nat_list_cmp_total

pub turned : (a b : Path) → path_cmp a b ≡ Greater → path_cmp b a ≡ Less
turned a b is = paths-total.antisymm b a ∙ ap ordering_reverse is

module _ {X : Type 0} where
  abbrev pub Above : Path → List (Path × X) → Type 0
  Above path entries = AllByRecursion (λ (entry : Path × X). path_cmp path entry.0 ≡ Less) entries

  abbrev pub Rises : List (Path × X) → Type 0
  Rises [] = Unit {0}
  Rises (entry ∷ entries) = Above entry.0 entries × Rises entries

  abbrev pub In : Path × X → List (Path × X) → Type 0
  In entry [] = ⊥
  In entry (first ∷ entries) = (entry ≡ first) ⊎ In entry entries

  pub above-less : (a b : Path) (entries : List (Path × X)) → path_cmp a b ≡ Less → Above b entries → Above a entries
  above-less a b [] low above = tt
  above-less a b (entry ∷ entries) low above = (paths-total.trans a b entry.0 low above.0, above-less a b entries low above.1)

  pub all-in : (Q : Path × X → Type 0) (entry : Path × X) (entries : List (Path × X)) → AllByRecursion Q entries → In entry entries → Q entry
  all-in Q entry [] all is = absurd is
  all-in Q entry (first ∷ entries) all (inl same) = subst Q (sym same) all.0
  all-in Q entry (first ∷ entries) all (inr more) = all-in Q entry entries all.1 more

  -- ---- one more entry
  abbrev pub put : List (Path × X) → Path → X → List (Path × X)
  put entries path x = insert_entry path_cmp entries path x

  abbrev pub placed_by : Ordering → Path → X → Path × X → List (Path × X) → List (Path × X)
  placed_by o path x entry entries = match_ordering o ((path, x) ∷ entry ∷ entries) ((entry.0, x) ∷ entries) (entry ∷ put entries path x)

  all-at : (Q : Path × X → Type 0) (o : Ordering) (path : Path) (x : X) (entry : Path × X) (entries : List (Path × X)) → path_cmp path entry.0 ≡ o
      → AllByRecursion Q (entry ∷ entries) → Q (path, x) → AllByRecursion Q (put entries path x) → AllByRecursion Q (placed_by o path x entry entries)
  all-at Q Less path x entry entries is all here rest = (here, all)
  all-at Q Equal path x entry entries is all here rest = (subst (λ (p : Path). Q (p, x)) (exact-paths path entry.0 is) here, all.1)
  all-at Q Greater path x entry entries is all here rest = (all.0, rest)

  all-put : (Q : Path × X → Type 0) (path : Path) (x : X) (entries : List (Path × X)) → AllByRecursion Q entries → Q (path, x) → AllByRecursion Q (put entries path x)
  all-put Q path x [] all here = (here, tt)
  all-put Q path x (entry ∷ entries) all here = all-at Q (path_cmp path entry.0) path x entry entries refl all here (all-put Q path x entries all.1 here)

  pub all-in-order-from : (Q : Path × X → Type 0) (so_far entries : List (Path × X)) → AllByRecursion Q so_far → AllByRecursion Q entries → AllByRecursion Q (in_order_from so_far entries)
  all-in-order-from Q so_far [] first all = first
  all-in-order-from Q so_far (entry ∷ entries) first all = all-in-order-from Q (put so_far entry.0 entry.1) entries (all-put Q entry.0 entry.1 so_far first all.0) all.1

  rises-at : (o : Ordering) (path : Path) (x : X) (entry : Path × X) (entries : List (Path × X)) → path_cmp path entry.0 ≡ o
      → Rises (entry ∷ entries) → Rises (put entries path x) → Rises (placed_by o path x entry entries)
  rises-at Less path x entry entries is rises rest = ((is, above-less path entry.0 entries is rises.0), rises)
  rises-at Equal path x entry entries is rises rest = rises
  rises-at Greater path x entry entries is rises rest = (all-put (λ (other : Path × X). path_cmp entry.0 other.0 ≡ Less) path x entries rises.0 (turned path entry.0 is), rest)

  rises-put : (path : Path) (x : X) (entries : List (Path × X)) → Rises entries → Rises (put entries path x)
  rises-put path x [] rises = (tt, tt)
  rises-put path x (entry ∷ entries) rises = rises-at (path_cmp path entry.0) path x entry entries refl rises (rises-put path x entries rises.1)

  pub rises-in-order-from : (so_far entries : List (Path × X)) → Rises so_far → Rises (in_order_from so_far entries)
  rises-in-order-from so_far [] rises = rises
  rises-in-order-from so_far (entry ∷ entries) rises = rises-in-order-from (put so_far entry.0 entry.1) entries (rises-put entry.0 entry.1 so_far rises)

  -- ---- what stands in the order
  same-some : (x y : X) → Some x ≡ Some y → x ≡ y
  same-some x y same = cc

  in-here : (o : Ordering) (path : Path) (x : X) (entry : Path × X) (entries : List (Path × X)) → path_cmp path entry.0 ≡ o → In (path, x) (put entries path x)
      → In (path, x) (placed_by o path x entry entries)
  in-here Less path x entry entries is rest = inl refl
  in-here Equal path x entry entries is rest = inl (ap (λ (p : Path). (p, x)) (exact-paths path entry.0 is))
  in-here Greater path x entry entries is rest = inr rest

  in-put : (path : Path) (x : X) (entries : List (Path × X)) → In (path, x) (put entries path x)
  in-put path x [] = inl refl
  in-put path x (entry ∷ entries) = in-here (path_cmp path entry.0) path x entry entries refl (in-put path x entries)

  module _ (value : Path → Option X) where
    abbrev pub Has : Path × X → Type 0
    Has entry = value entry.0 ≡ Some entry.1

    kept-at : (o : Ordering) (path : Path) (x : X) (other entry : Path × X) (entries : List (Path × X)) → path_cmp path entry.0 ≡ o → value path ≡ Some x → Has other
        → In other (entry ∷ entries) → (In other entries → In other (put entries path x)) → In other (placed_by o path x entry entries)
    kept-at Less path x other entry entries is here has stands rest = inr stands
    kept-at Equal path x other entry entries is here has (inl same) rest =
        let theirs : value entry.0 ≡ Some entry.1 = subst (λ (e : Path × X). value e.0 ≡ Some e.1) same has in
        let ours : value entry.0 ≡ Some x = sym (ap value (exact-paths path entry.0 is)) ∙ here in
        inl (same ∙ ap (λ (y : X). (entry.0, y)) (same-some entry.1 x (sym theirs ∙ ours)))
    kept-at Equal path x other entry entries is here has (inr more) rest = inr more
    kept-at Greater path x other entry entries is here has (inl same) rest = inl same
    kept-at Greater path x other entry entries is here has (inr more) rest = inr (rest more)

    in-kept : (path : Path) (x : X) (other : Path × X) (entries : List (Path × X)) → value path ≡ Some x → Has other → In other entries → In other (put entries path x)
    in-kept path x other [] here has stands = absurd stands
    in-kept path x other (entry ∷ entries) here has stands =
        kept-at (path_cmp path entry.0) path x other entry entries refl here has stands (λ more. in-kept path x other entries here has more)

    pub in-order-keeps : (other : Path × X) (so_far entries : List (Path × X)) → AllByRecursion Has entries → Has other → In other so_far → In other (in_order_from so_far entries)
    in-order-keeps other so_far [] all has stands = stands
    in-order-keeps other so_far (entry ∷ entries) all has stands =
        in-order-keeps other (put so_far entry.0 entry.1) entries all.1 has (in-kept entry.0 entry.1 other so_far all.0 has stands)

    pub in-order-has : (other : Path × X) (so_far entries : List (Path × X)) → AllByRecursion Has entries → Has other → In other entries → In other (in_order_from so_far entries)
    in-order-has other so_far [] all has stands = absurd stands
    in-order-has other so_far (entry ∷ entries) all has (inl same) =
        in-order-keeps other (put so_far entry.0 entry.1) entries all.1 has (subst (λ (e : Path × X). In e (put so_far entry.0 entry.1)) (sym same) (in-put entry.0 entry.1 so_far))
    in-order-has other so_far (entry ∷ entries) all has (inr more) = in-order-has other (put so_far entry.0 entry.1) entries all.1 has more

  -- what is below all stands first
  pub put-first : (path : Path) (x : X) (entries : List (Path × X)) → Above path entries → put entries path x ≡ (path, x) ∷ entries
  put-first path x [] above = refl
  put-first path x (entry ∷ entries) above = ap (λ o. placed_by o path x entry entries) above.0

  -- ---- a test keeps the order
  module _ (test : Path → Bool) where
    abbrev pub kept : List (Path × X) → List (Path × X)
    kept entries = filter (λ (entry : Path × X). test entry.0) entries

    all-kept-if : (b : Bool) (Q : Path × X → Type 0) (entry : Path × X) (entries : List (Path × X)) → Q entry → AllByRecursion Q entries → AllByRecursion Q (cond b (entry ∷ entries) entries)
    all-kept-if true Q entry entries here all = (here, all)
    all-kept-if false Q entry entries here all = all

    pub all-kept : (Q : Path × X → Type 0) (entries : List (Path × X)) → AllByRecursion Q entries → AllByRecursion Q (kept entries)
    all-kept Q [] all = tt
    all-kept Q (entry ∷ entries) all = all-kept-if (test entry.0) Q entry (kept entries) all.0 (all-kept Q entries all.1)

    rises-kept-if : (b : Bool) (entry : Path × X) (entries : List (Path × X)) → Above entry.0 entries → Rises entries → Rises (cond b (entry ∷ entries) entries)
    rises-kept-if true entry entries above rises = (above, rises)
    rises-kept-if false entry entries above rises = rises

    pub rises-kept : (entries : List (Path × X)) → Rises entries → Rises (kept entries)
    rises-kept [] rises = tt
    rises-kept (entry ∷ entries) rises =
        rises-kept-if (test entry.0) entry (kept entries) (all-kept (λ (other : Path × X). path_cmp entry.0 other.0 ≡ Less) entries rises.0) (rises-kept entries rises.1)

    kept-put-at : (o : Ordering) (b c : Bool) (path : Path) (x : X) (entry : Path × X) (entries : List (Path × X)) → path_cmp path entry.0 ≡ o → test path ≡ b → test entry.0 ≡ c
        → Above entry.0 entries → kept (put entries path x) ≡ cond b (put (kept entries) path x) (kept entries)
        → kept (placed_by o path x entry entries) ≡ cond b (put (cond c (entry ∷ kept entries) (kept entries)) path x) (cond c (entry ∷ kept entries) (kept entries))
    kept-put-at Less true true path x entry entries is b c above rest =
        rw (b, c) (sym (put-first path x (entry ∷ kept entries) (is, all-kept (λ (other : Path × X). path_cmp path other.0 ≡ Less) entries (above-less path entry.0 entries is above))))
    kept-put-at Less true false path x entry entries is b c above rest =
        rw (b, c) (sym (put-first path x (kept entries) (all-kept (λ (other : Path × X). path_cmp path other.0 ≡ Less) entries (above-less path entry.0 entries is above))))
    kept-put-at Less false true path x entry entries is b c above rest = rw (b, c) refl
    kept-put-at Less false false path x entry entries is b c above rest = rw (b, c) refl
    kept-put-at Equal true true path x entry entries is b c above rest = rw (c) (sym (ap (λ o. placed_by o path x entry (kept entries)) is))
    kept-put-at Equal true false path x entry entries is b c above rest = absurd (cc (b, c, ap test (exact-paths path entry.0 is)))
    kept-put-at Equal false true path x entry entries is b c above rest = absurd (cc (b, c, ap test (exact-paths path entry.0 is)))
    kept-put-at Equal false false path x entry entries is b c above rest = rw (c) refl
    kept-put-at Greater true true path x entry entries is b c above rest =
        rw (c) (ap (λ more. entry ∷ more) rest ∙ sym (ap (λ o. placed_by o path x entry (kept entries)) is))
    kept-put-at Greater true false path x entry entries is b c above rest = rw (c) rest
    kept-put-at Greater false true path x entry entries is b c above rest = rw (c) (ap (λ more. entry ∷ more) rest)
    kept-put-at Greater false false path x entry entries is b c above rest = rw (c) rest

    put-if : (b : Bool) (path : Path) (x : X) → cond b ((path, x) ∷ []) [] ≡ cond b (put [] path x) []
    put-if true path x = refl
    put-if false path x = refl

    kept-put : (path : Path) (x : X) (entries : List (Path × X)) → Rises entries → kept (put entries path x) ≡ cond (test path) (put (kept entries) path x) (kept entries)
    kept-put path x [] rises = put-if (test path) path x
    kept-put path x (entry ∷ entries) rises =
        kept-put-at (path_cmp path entry.0) (test path) (test entry.0) path x entry entries refl refl refl rises.0 (kept-put path x entries rises.1)

    order-if : (b : Bool) (entry : Path × X) (so_far entries : List (Path × X))
        → in_order_from (cond b (put so_far entry.0 entry.1) so_far) entries ≡ in_order_from so_far (cond b (entry ∷ entries) entries)
    order-if true entry so_far entries = refl
    order-if false entry so_far entries = refl

    pub kept-in-order : (so_far entries : List (Path × X)) → Rises so_far → kept (in_order_from so_far entries) ≡ in_order_from (kept so_far) (kept entries)
    kept-in-order so_far [] rises = refl
    kept-in-order so_far (entry ∷ entries) rises =
        kept-in-order (put so_far entry.0 entry.1) entries (rises-put entry.0 entry.1 so_far rises)
        ∙ ap (λ more. in_order_from more (kept entries)) (kept-put entry.0 entry.1 so_far rises)
        ∙ order-if (test entry.0) entry (kept so_far) (kept entries)
