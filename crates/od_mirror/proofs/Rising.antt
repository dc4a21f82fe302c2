-- Items that stand at their numbers in a map are in order of number.
use Rattle.std.proofs.Common.{◌≡◌, ℕ, List, [], ◌∷◌, map, refl, ap, sym, ◌∙◌, subst}
use Rattle.std.specs.List.Sorted.{IsStrictlySortedBy}
use Rattle.std.specs.Map.{keys_of, values_of}
use Rattle.std.specs.Ordering.{nat_cmp}
use Rattle.gd_item.specs.declared.item.Item.{Item}
use Rattle.gd_item.specs.Nodes.{Node}
use Rattle.od_mirror.specs.Climbs.{IsKeyed, Rise}
use Rattle.od_mirror.specs.Pulled.{nodes, IsLeastBad}
use Rattle.gd_item.specs.Ids.{item_id}
use Rattle.gd_item.specs.declared.id.ItemId.{ItemId}
use Rattle.od_mirror.specs.declared.mirror.PullFault.TheVariants.{BadPages}

node-numbers : (items : List Item) → map (λ (node : Node). node.number) (nodes items) ≡ map (λ (item : Item). item.id.0) items
node-numbers [] = refl
node-numbers (item ∷ items) = ap (λ numbers. item.id.0 ∷ numbers) (node-numbers items)

pub rise-values : (entries : List (ℕ × Item)) → IsStrictlySortedBy nat_cmp (keys_of entries) → IsKeyed entries → Rise (nodes (values_of entries))
rise-values entries ordered keyed = subst (IsStrictlySortedBy nat_cmp) (keyed ∙ sym (node-numbers (values_of entries))) ordered

pub least-bad-is : (entries : List (ℕ × Item)) (items : List Item) (number n : ℕ) → items ≡ values_of entries → BadPages (item_id number) ≡ BadPages (item_id n)
    → IsLeastBad (nodes items) number → IsLeastBad (nodes (values_of entries)) n
least-bad-is entries items number n same is bad =
    let ids : item_id number ≡ item_id n = cc in
    let at : number ≡ n = ap (λ (id : ItemId). id.0) ids in rw (← same, ← at) bad
