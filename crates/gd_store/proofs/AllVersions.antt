-- The versions that a store gives of a living file are all that its drive accepted.
use Rattle.std.proofs.Common.{◌≡◌, ℕ, Bool, true, false, ◌||◌, nat_eq, List, map, reverse, is_some, Option, Some, None, refl, sym, ap, ◌∙◌}
use Rattle.gd_names.proofs.Small.{clear, un-not}
use Rattle.gd_item.specs.Inventory.{Inventory, inventory, live_at}
use Rattle.gd_item.specs.Refusals.{is_there, file_refusal}
use Rattle.gd_item.specs.Steps.{state_of, held_by, accepted_by}
use Rattle.gd_item.specs.Trees.{nodes_of}
use Rattle.gd_item.specs.Versions.{info_of, versions_of}
use Rattle.gd_item.specs.declared.live.LiveItem.{LiveItem}
use Rattle.gd_item.specs.declared.step.Step.{Step}
use Rattle.gd_laws.specs.Given.{given_versions}
use Rattle.gd_laws.proofs.Versions.{given-log}
use Rattle.gd_store.specs.Stands.{pruned}
use Rattle.gd_store.proofs.There.{there-is}

-- what is there is the root or lives
lives : (root : Bool) (found : Option LiveItem) → (root || is_some found) ≡ true → root ≡ false → (item : LiveItem) × (found ≡ Some item)
lives true found there off = absurd cc
lives false None there off = absurd cc
lives false (Some item) there off = (item, refl)

is-file : (root folder : Bool) → (root || folder) ≡ false → root ≡ false
is-file true folder off = absurd cc
is-file false folder off = refl

pub all-versions : (log : List Step) (held : Inventory) (epoch floor number : ℕ) → held ≡ pruned floor (inventory (state_of log).effects) → file_refusal (held_by log) number ≡ None
    → reverse (map info_of (given_versions number held)) ≡ versions_of number (accepted_by log)
all-versions log held epoch floor number is allowed =
    let now : Inventory = held_by log in
    let a = clear _ _ _ (sym allowed) in
    let b = clear _ _ _ a.1 in
    let there : is_there number (nodes_of now) ≡ true = un-not _ a.0 in
    let live = lives (nat_eq number 1) (live_at number now.items) (sym (there-is number now.items) ∙ there) (is-file (nat_eq number 1) _ b.0) in
    ap (λ h. reverse (map info_of (given_versions number h))) is ∙ ap (λ versions. reverse (map info_of versions)) (given-log log number live.0 live.1)
