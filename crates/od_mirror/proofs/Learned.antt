-- Items of which one may get a digest, one after the other.
use Rattle.std.proofs.Common.{◌≡◌, ℕ, ◌+◌, ◌<◌, zero, suc, false, cond, List, [], ◌∷◌, ◌++◌, length, map, take, drop, set, get_or, refl, sym, ap, ◌∙◌, add-one, arith}
use Rattle.std.specs.List.{list_any}
use Rattle.gd_names.proofs.Small.{neither}
use Rattle.gd_item.specs.declared.digest.Digest.{Digest}
use Rattle.gd_item.specs.declared.id.ItemId.{ItemId}
use Rattle.gd_item.specs.declared.item.Item.{Item}
use Rattle.gd_item.specs.declared.item.Kind.TheVariants.{File}
use Rattle.gd_item.specs.declared.item.Tag.{Tag}
use Rattle.od_mirror.specs.Digests.{is_unknown, learned}

module _ (id : ItemId) (etag : Tag) (digest : Digest) where
  abbrev learn : Item → Item
  learn item = learned id etag digest item

  -- the first ones have learned it
  abbrev learned_to : ℕ → List Item → List Item
  learned_to i items = map learn (take i items) ++ drop i items

  one-more : (items : List Item) (i : ℕ) (d : Item) → i < length items → set (learned_to i items) i (learn (get_or (learned_to i items) i d)) ≡ learned_to (suc i) items
  one-more [] i d lt = absurd (omega arith)
  one-more (item ∷ items) zero d lt = refl
  one-more (item ∷ items) (suc i) d lt = ap (λ rest. learn item ∷ rest) (one-more items i d (omega arith))

  pub learned-one : (whole items : List Item) (i : ℕ) (d : Item) → items ≡ map (learned id etag digest) (take i whole) ++ drop i whole → i < length whole
      → set items i (learned id etag digest (get_or items i d)) ≡ map (learned id etag digest) (take (i + 1) whole) ++ drop (i + 1) whole
  learned-one whole items i d is lt =
      ap (λ xs. set xs i (learn (get_or xs i d))) is ∙ one-more whole i d lt ∙ ap (λ n. map learn (take n whole) ++ drop n whole) (sym (add-one i))

  -- where there is none, all stay
  pub none-learned : (items : List Item) → list_any (is_unknown id etag) items ≡ false → items ≡ map (learned id etag digest) items
  none-learned [] none = refl
  none-learned (item ∷ items) none =
      let parts = neither (is_unknown id etag item) (list_any (is_unknown id etag) items) none in
      ap (λ rest. item ∷ rest) (none-learned items parts.1)
      ∙ ap (λ b. let new : Item = record item { kind = File digest } in cond b new item ∷ map learn items) (sym parts.0)
