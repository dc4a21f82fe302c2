-- For which effects, which epoch and which floor a store stands, and what a call of it answers.
use Rattle.std.specs.Prelude.{◌≡◌, ℕ, ◌<◌, ◌≤◌, ◌⊎◌, Bool, true, List, filter, nat_lt, Option, Some, None, Result, Ok, Err, IfOk, IfErr}
use Rattle.gd_item.specs.Inventory.{Inventory, Effect, after, inventory}
use Rattle.gd_item.specs.Ids.{item_id}
use Rattle.gd_item.specs.Records.{record_at}
use Rattle.gd_item.specs.Refusals.{touched, is_made}
use Rattle.gd_item.specs.Sound.{IsItemMap}
use Rattle.gd_item.specs.declared.id.ItemId.{ItemId}
use Rattle.gd_item.specs.declared.item.Item.{Item}
use Rattle.gd_item.specs.declared.live.Tombstone.{Tombstone}
use Rattle.gd_item.specs.declared.fault.StoreFault.{StoreFault}
use Rattle.gd_item.specs.declared.fault.StoreFault.TheVariants.{Memory}

-- what a store has: its inventory, the epoch of its tokens, and the floor up to which its removals are forgotten
pub record StoreValue : Type 0 where
  pub held : Inventory
  pub epoch : ℕ
  pub floor : ℕ

-- an inventory whose tombstones up to a floor are gone
abbrev pub pruned : ℕ → Inventory → Inventory
pruned floor held = record held { removed = filter (λ (stone : Tombstone). nat_lt floor stone.change) held.removed }

-- the store holds what these effects make but for the tombstones up to the floor, which the drive's number has reached;
-- that is a tree, and the kept bytes are within the limit
pub record Stands (store : StoreValue) (effects : List Effect) (epoch floor : ℕ) : Type 0 where
  pub held : store.held ≡ pruned floor (inventory effects)
  pub epoch_is : store.epoch ≡ epoch
  pub floor_is : store.floor ≡ floor
  pub reached : floor ≤ store.held.number
  pub sound : IsItemMap store.held
  pub light : store.held.kept ≤ 536870912

-- the call has no refusal and is done, or it has this refusal, or memory was wanting
pub record Answers {T : Type 0} (refusal : Option StoreFault) (result : Result T StoreFault) (Done : T → Type 0) : Type 0 where
  pub ok : IfOk result (λ x. (refusal ≡ None) × Done x)
  pub err : IfErr result (λ fault. (fault ≡ Memory) ⊎ (refusal ≡ Some fault))

-- what a call gives that takes no memory: its refusal, or else this
abbrev pub given_unless : {T : Type 0} → Option StoreFault → T → Result T StoreFault
given_unless None x = Ok x
given_unless (Some fault) x = Err fault

-- the bounds within which a store keeps its fields: fewer than 100,000 items beside the root, and no number given
-- above the drive's own
pub record IsWithin (items last number : ℕ) : Type 0 where
  pub few : items < 100000
  pub given : last ≤ number

-- what a put hands back: the item, and whether it was made
abbrev pub put_result : Inventory → Effect → ItemId × Bool
put_result held effect = (item_id (touched held effect), is_made effect)

-- the record of the item that an effect made or changed, with the path of its folder
abbrev pub record_after : Inventory → Effect → Option Item
record_after held effect = record_at (touched held effect) true (after held effect)
