-- The request of a move, where the folder above the new path is there.
use Rattle.std.proofs.Common.{◌≡◌, ℕ, List, Option, Some, None, refl, sym, ap, ◌∙◌}
use Rattle.std.specs.Option.{option_map}
use Rattle.gd_item.specs.Ids.{item_id}
use Rattle.gd_item.specs.Inventory.{Effect, inventory}
use Rattle.gd_item.specs.Nodes.{number_at}
use Rattle.gd_item.specs.Places.{names_above, last_name}
use Rattle.gd_item.specs.Sessions.{held}
use Rattle.gd_item.specs.Steps.{state_of}
use Rattle.gd_item.specs.Trees.{nodes_of}
use Rattle.gd_item.specs.declared.condition.Condition.TheVariants.{Free}
use Rattle.gd_item.specs.declared.id.ItemId.{ItemId}
use Rattle.gd_item.specs.declared.request.Address.TheVariants.{ByPath}
use Rattle.gd_item.specs.declared.request.Request.TheVariants.{Patch}
use Rattle.gd_item.specs.declared.step.Step.{Step}
use Rattle.gd_store.specs.Stands.{StoreValue}
use Rattle.od_cli.specs.Worlds.{Holds}
use Rattle.od_cli.specs.Played.{request_of}
use Rattle.od_cli.specs.declared.line.Line.TheVariants.{OtherMove}

found-in : (found : Option ℕ) (parent : ItemId) → option_map item_id found ≡ Some parent → found ≡ Some parent.0
found-in None parent h = absurd cc
found-in (Some n) parent h = let same : item_id n ≡ parent = cc in ap Some (ap (λ (id : ItemId). id.0) same)

pub move-request : (log : List Step) (value : StoreValue) (from to path above : List (List ℕ)) (name : List ℕ) (found : Option ItemId) (parent : ItemId) → Holds value (state_of log).effects
    → ((effects : List Effect) → Holds value effects → found ≡ option_map item_id (number_at above (nodes_of (inventory effects)))) → found ≡ Some parent → above ≡ names_above to → name ≡ last_name to → path ≡ from
    → request_of (held (state_of log)) (OtherMove from to) ≡ Some (Patch (ByPath path) (Some name) (Some parent) Free)
move-request log value from to path above name found parent stands by some is named copied =
    let effects : List Effect = (state_of log).effects in
    let at : number_at above (nodes_of (inventory effects)) ≡ Some parent.0 = found-in (number_at above (nodes_of (inventory effects))) parent (sym (by effects stands) ∙ some) in
    let there : number_at (names_above to) (nodes_of (inventory effects)) ≡ Some parent.0 = ap (λ p. number_at p (nodes_of (inventory effects))) (sym is) ∙ at in
    ap (λ (o : Option ℕ). option_map (λ n. Patch (ByPath from) (Some (last_name to)) (Some (item_id n)) Free) o) there
    ∙ ap (λ n. Some (Patch (ByPath from) (Some n) (Some parent) Free)) (sym named)
    ∙ ap (λ p. Some (Patch (ByPath p) (Some name) (Some parent) Free)) (sym copied)

-- and where it is missing
none-in : (found : Option ℕ) → option_map item_id found ≡ None → found ≡ None
none-in None h = refl
none-in (Some n) h = absurd cc

pub move-nowhere : (log : List Step) (value : StoreValue) (from to above : List (List ℕ)) (found : Option ItemId) → Holds value (state_of log).effects
    → ((effects : List Effect) → Holds value effects → found ≡ option_map item_id (number_at above (nodes_of (inventory effects)))) → found ≡ None → above ≡ names_above to → request_of (held (state_of log)) (OtherMove from to) ≡ None
move-nowhere log value from to above found stands by none is =
    let effects : List Effect = (state_of log).effects in
    let at : number_at above (nodes_of (inventory effects)) ≡ None = none-in (number_at above (nodes_of (inventory effects))) (sym (by effects stands) ∙ none) in
    let there : number_at (names_above to) (nodes_of (inventory effects)) ≡ None = ap (λ p. number_at p (nodes_of (inventory effects))) (sym is) ∙ at in
    ap (λ (o : Option ℕ). option_map (λ n. Patch (ByPath from) (Some (last_name to)) (Some (item_id n)) Free) o) there
