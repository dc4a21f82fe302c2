-- Both ends of pairs.
use Rattle.std.proofs.Common.{◌≡◌, Bool, true, false, ◌||◌, cond, List, [], ◌∷◌, is_some, Option, Some, None, refl, ap, sym, ◌∙◌}
use Rattle.std.specs.Option.{option_map}
use Rattle.gd_item.specs.declared.item.Item.{Item}
use Rattle.od_merge.specs.Sides.{Sides, is_path}
use Rattle.od_merge.proofs.Lists.{Path}
use Rattle.od_reconcile.specs.Above.{or_else}
use Rattle.od_reconcile.specs.Moving.{is_moved_to, pair_to, source_of}
use Rattle.od_reconcile.specs.Plans.{fetch_or_move}
use Rattle.od_reconcile.proofs.Indexes.{or-else-over, turned}

first-source : (t : Bool) (q : Path) (pair : Path × Path) (rest : List (Path × Path)) → is_path pair.1 q ≡ t → or_else (cond t (Some pair.0) None) (source_of rest q) ≡ source_of (pair ∷ rest) q
first-source true q pair rest is = rw (sym (turned pair.1 q) ∙ is) refl
first-source false q pair rest is = rw (sym (turned pair.1 q) ∙ is) refl

-- one more pair in an index
pub ends-more : (q : Path) (old new : Option Path) (pair : Path × Path) (left rest pairs : List (Path × Path)) → left ≡ pair ∷ rest → or_else old (source_of left q) ≡ source_of pairs q
    → new ≡ or_else old (cond (is_path pair.1 q) (Some pair.0) None) → or_else new (source_of rest q) ≡ source_of pairs q
ends-more q old new pair left rest pairs left_is before put =
    ap (λ x. or_else x (source_of rest q)) put
    ∙ (or-else-over old (cond (is_path pair.1 q) (Some pair.0) None) (source_of rest q)
    ∙ (ap (λ x. or_else old x) (first-source (is_path pair.1 q) q pair rest refl) ∙ (ap (λ (ps : List (Path × Path)). or_else old (source_of ps q)) (sym left_is) ∙ before)))

some-source-at : (t b : Bool) (pair : Path × Path) (rest : Option (Path × Path)) → is_some (option_map (λ (p : Path × Path). p.0) rest) ≡ b → is_some (option_map (λ (p : Path × Path). p.0) (cond t (Some pair) rest)) ≡ (t || b)
some-source-at true b pair rest is = refl
some-source-at false b pair rest is = is

pub some-source : (pairs : List (Path × Path)) (q : Path) → is_some (source_of pairs q) ≡ is_moved_to pairs q
some-source [] q = refl
some-source (pair ∷ pairs) q = some-source-at (is_path q pair.1) (is_moved_to pairs q) pair (pair_to pairs q) (some-source pairs q)

-- a move by its source alone
pub by-source : (m : Sides) (items : List (Path × Item)) (path : Path) (pair : Option (Path × Path))
    → fetch_or_move m items path (option_map (λ from. (from, path)) (option_map (λ (p : Path × Path). p.0) pair)) ≡ fetch_or_move m items path pair
by-source m items path None = refl
by-source m items path (Some pair) = refl
