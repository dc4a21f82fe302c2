-- The merge where all passes.
use Rattle.std.proofs.Common.{◌≡◌, Bool, true, false, not, ◌&&◌, ◌||◌, cond, List, [], ◌∷◌, filter, is_some, is_none, Option, Some, None, refl, ap, sym, ◌∙◌}
use Rattle.std.proofs.lemmas.Bool.{true≢false, false≢true, and_right, or_from, or_left, or_right, true_from_ne_false}
use Rattle.std.specs.BTreeSet.{insert_key}
use Rattle.std.specs.List.{list_any}
use Rattle.std.specs.Ordering.{match_ordering}
use Rattle.std.specs.declared.cmp.Ordering.{Ordering}
use Rattle.std.specs.declared.cmp.Ordering.TheVariants.{Less, Equal, Greater}
use Rattle.od_merge.specs.declared.content.Content.{Content}
use Rattle.od_merge.specs.declared.content.Content.TheVariants.{Folder, File}
use Rattle.od_merge.specs.Sides.{Sides, at, is_from, is_below, is_other_kind, is_kept, is_kept_node, is_skipped, paths_of}
use Rattle.gd_names.specs.Ordered.{path_cmp}
use Rattle.od_merge.specs.Merging.{all_paths, both_paths, in_order_from, is_needed, is_staying, is_unwanted, merged, seen, target, wanted}
use Rattle.od_merge.specs.Core.{core}
use Rattle.od_merge.proofs.Lists.{Path, at-in, from-self, in-joined, is_in, none-of, or-twice, turn-or, swap-or}
use Rattle.od_merge.proofs.Needs.{makes_needed}
use Rattle.gd_names.proofs.Ordered.{exact-paths}

abbrev all : Path → Bool → Bool
all path folder = true

kept-at : (tree : List (Path × Content)) (q : Path) (x : Option Content) → at tree q ≡ x → is_kept_node all tree q x ≡ is_some x
kept-at tree q None is = refl
kept-at tree q (Some Folder) is =
    true_from_ne_false (list_any (λ (entry : Path × Content). is_from q entry.0 && true) tree)
    (λ none. true≢false (sym (ap (λ b. b && true) (from-self q)) ∙ none-of (λ p. is_from q p && true) q tree none (sym (at-in q tree) ∙ ap (λ (x : Option Content). is_some x) is)))
kept-at tree q (Some (File d)) is = refl

pub kept-all : (tree : List (Path × Content)) (q : Path) → is_kept all tree q ≡ is_some (at tree q)
kept-all tree q = kept-at tree q (at tree q) refl

seen-all : (o k : Bool) (x : Option Content) → k ≡ is_some x → cond (o && not k) None x ≡ x
seen-all true true x is = refl
seen-all true false None is = refl
seen-all true false (Some x) is = absurd (false≢true is)
seen-all false k x is = refl

and-one : (b : Bool) → (b && true) ≡ b
and-one true = refl
and-one false = refl

pub any-merged : {b here there : Option Content} (x y z : Option Content) → x ≡ b → y ≡ here → z ≡ there
    → cond (is_some y || is_some z) (merged x y z) None ≡ cond (is_some here || is_some there) (merged b here there) None
any-merged x y z b_is here_is there_is = rw (b_is, here_is, there_is) refl

pub replaced-alike : {there t : Option Content} (x y : Option Content) → x ≡ there → y ≡ t → (is_some x && (is_none y || is_other_kind x y)) ≡ (is_some there && (is_none t || is_other_kind there t))
replaced-alike x y there_is t_is = rw (there_is, t_is) refl

not-both : (b : Bool) → (b && not b) ≡ false
not-both true = refl
not-both false = refl

or-none : (a b : Bool) → (a || b && false) ≡ a
or-none true b = refl
or-none false true = refl
or-none false false = refl

or-nothing : (a : Bool) → (a || false) ≡ a
or-nothing true = refl
or-nothing false = refl

any-alike : (f g : Path → Bool) → ((o : Path) → f o ≡ g o) → (paths : List Path) → list_any f paths ≡ list_any g paths
any-alike f g same [] = refl
any-alike f g same (o ∷ paths) = ap (λ b. b || list_any f paths) (same o) ∙ ap (λ b. g o || b) (any-alike f g same paths)

filter-one : (t a b c : Bool) (f : Path → Bool) (o : Path) (kept : List Path) → f o ≡ a → list_any f kept ≡ c → list_any f (cond t (o ∷ kept) kept) ≡ ((a && t) || c)
filter-one true true b c f o kept here rest = rw here refl
filter-one true false b c f o kept here rest = rw here rest
filter-one false true b c f o kept here rest = rest
filter-one false false b c f o kept here rest = rest

pub any-filter : (f test : Path → Bool) (paths : List Path) → list_any f (filter test paths) ≡ list_any (λ o. f o && test o) paths
any-filter f test [] = refl
any-filter f test (o ∷ paths) = filter-one (test o) (f o) true (list_any (λ p. f p && test p) paths) f o (filter test paths) refl (any-filter f test paths)

order-one : (o : Ordering) (f : Path → Bool) (path first : Path) (rest put : List Path) → path_cmp path first ≡ o → list_any f put ≡ (f path || list_any f rest)
    → list_any f (match_ordering o (path ∷ (first ∷ rest)) (first ∷ rest) (first ∷ put)) ≡ (f path || (f first || list_any f rest))
order-one Less f path first rest put is inner = refl
order-one Equal f path first rest put is inner = or-twice (f path) (f first) (list_any f rest) (ap f (exact-paths path first is))
order-one Greater f path first rest put is inner = ap (λ b. f first || b) inner ∙ turn-or (f path) (f first) (list_any f rest)

any-insert : (f : Path → Bool) (path : Path) (paths : List Path) → list_any f (insert_key path_cmp paths path) ≡ (f path || list_any f paths)
any-insert f path [] = refl
any-insert f path (first ∷ rest) = order-one (path_cmp path first) f path first rest (insert_key path_cmp rest path) refl (any-insert f path rest)

any-order-from : (f : Path → Bool) (put paths : List Path) → list_any f (in_order_from put paths) ≡ (list_any f put || list_any f paths)
any-order-from f put [] = sym (or-nothing (list_any f put))
any-order-from f put (path ∷ paths) =
    any-order-from f (insert_key path_cmp put path) paths ∙ (ap (λ b. b || list_any f paths) (any-insert f path put) ∙ swap-or (f path) (list_any f put) (list_any f paths))

pub any-order : (f : Path → Bool) (put paths : List Path) → list_any f (in_order_from [] paths) ≡ list_any f paths
any-order f put paths = any-order-from f [] paths

module _ (base local remote : List (Path × Content)) where
  abbrev pub sides : Sides
  sides = core base local remote

  pub core-wanted : (q : Path) → wanted sides q ≡ cond (is_some (at local q) || is_some (at remote q)) (merged (at base q) (at local q) (at remote q)) None
  core-wanted q =
      let other = is_other_kind (at local q) (at remote q) in
      ap (λ x. cond ((is_kept all local q || is_kept all remote q) && true) (merged (at base q) x (seen sides remote q)) None) (seen-all other (is_kept all local q) (at local q) (kept-all local q))
      ∙ (ap (λ x. cond ((is_kept all local q || is_kept all remote q) && true) (merged (at base q) (at local q) x) None) (seen-all other (is_kept all remote q) (at remote q) (kept-all remote q))
      ∙ (ap (λ b. cond b (merged (at base q) (at local q) (at remote q)) None) (and-one (is_kept all local q || is_kept all remote q))
      ∙ (ap (λ b. cond (b || is_kept all remote q) (merged (at base q) (at local q) (at remote q)) None) (kept-all local q)
      ∙ ap (λ b. cond (is_some (at local q) || b) (merged (at base q) (at local q) (at remote q)) None) (kept-all remote q))))

  none-skipped : (tree : List (Path × Content)) (q : Path) → is_skipped all tree q ≡ false
  none-skipped tree q = ap (λ b. is_some (at tree q) && not b) (kept-all tree q) ∙ not-both (is_some (at tree q))

  no-skipped : (q : Path) (tree entries : List (Path × Content)) → list_any (λ (entry : Path × Content). is_below q entry.0 && is_skipped all tree entry.0) entries ≡ false
  no-skipped q tree [] = refl
  no-skipped q tree (entry ∷ entries) = or_from (is_below q entry.0 && is_skipped all tree entry.0) (list_any (λ (e : Path × Content). is_below q e.0 && is_skipped all tree e.0) entries)
      (and_right (is_below q entry.0) (is_skipped all tree entry.0) (none-skipped tree entry.0)) (no-skipped q tree entries)

  no-staying : (q : Path) → is_staying sides q ≡ false
  no-staying q = or_from (list_any (λ (entry : Path × Content). is_below q entry.0 && is_skipped all local entry.0) local) (list_any (λ (entry : Path × Content). is_below q entry.0 && is_skipped all remote entry.0) remote)
      (no-skipped q local local) (no-skipped q remote remote)

  abbrev pub is_wanted : Path → Bool
  is_wanted path = is_some (wanted sides path)

  makes-core : (q o : Path) → makes_needed sides q o ≡ (is_below q o && is_wanted o)
  makes-core q o = ap (λ b. is_below q o && is_wanted o || is_from q o && b) (no-staying o) ∙ or-none (is_below q o && is_wanted o) (is_from q o)

  pub core-needed : (q : Path) → is_needed sides q ≡ list_any (λ other. is_below q other) (filter is_wanted (all_paths sides))
  core-needed q =
      or-nothing (list_any (makes_needed sides q) (both_paths sides))
      ∙ (any-alike (makes_needed sides q) (λ o. is_below q o && is_wanted o) (makes-core q) (both_paths sides)
      ∙ (sym (any-order (λ o. is_below q o && is_wanted o) [] (both_paths sides))
      ∙ sym (any-filter (λ o. is_below q o) is_wanted (all_paths sides))))

  pub core-unwanted : (side : List (Path × Content)) (q : Path) → is_unwanted sides side q ≡ (is_some (at side q) && (is_none (target sides q) || is_other_kind (at side q) (target sides q)))
  core-unwanted side q =
      ap (λ b. b && (is_none (target sides q) || is_other_kind (at side q) (target sides q))) (and-one (is_kept all side q))
      ∙ ap (λ b. b && (is_none (target sides q) || is_other_kind (at side q) (target sides q))) (kept-all side q)

  pub side-here : (q : Path) → is_some (at local q) ≡ true → is_in q (both_paths sides) ≡ true
  side-here q some = in-joined q (paths_of local) (paths_of remote) ∙ or_left (is_in q (paths_of local)) (is_in q (paths_of remote)) (sym (at-in q local) ∙ some)

  pub side-there : (q : Path) → is_some (at remote q) ≡ true → is_in q (both_paths sides) ≡ true
  side-there q some = in-joined q (paths_of local) (paths_of remote) ∙ or_right (is_in q (paths_of local)) (is_in q (paths_of remote)) (sym (at-in q remote) ∙ some)
