-- A put that is not refused has its condition.
use Rattle.std.proofs.Common.{◌≡◌, ℕ, ◌+◌, true, false, not, cond, List, length, Option, Some, None, refl, sym}
use Rattle.gd_names.proofs.Small.{clear, mapped-none, none_found, un-not}
use Rattle.gd_names.specs.Caseless.{equal_caseless}
use Rattle.gd_names.specs.Settling.{settled_at, sibling_named}
use Rattle.gd_names.specs.declared.conflict.Conflict.TheVariants.{Fail}
use Rattle.gd_names.specs.declared.conflict.Sibling.{Sibling}
use Rattle.gd_item.specs.Faults.{code_of, status_of}
use Rattle.gd_item.specs.Inventory.{Inventory, live_at}
use Rattle.gd_item.specs.Nodes.{is_folder, path_of}
use Rattle.gd_item.specs.Refusals.{file_effect, is_met, is_over_quota, is_refuse, is_there, is_too_long, put_effect, put_over_refusal, put_refusal, settled_in, siblings_in}
use Rattle.gd_item.specs.Refused.{by_store, refuse}
use Rattle.gd_item.specs.Targets.{place_of}
use Rattle.gd_item.specs.Trees.{nodes_of}
use Rattle.gd_item.specs.declared.condition.Condition.TheVariants.{Free, Match}
use Rattle.gd_item.specs.declared.fault.StoreFault.{StoreFault}
use Rattle.gd_item.specs.declared.fault.StoreFault.TheVariants.{NotFound, NotFile, Modified, PathTooLong, Quota}
use Rattle.gd_item.specs.declared.id.ItemId.{ItemId}
use Rattle.gd_item.specs.declared.live.Place.{Place}
use Rattle.gd_item.specs.declared.live.Place.TheVariants as place
use Rattle.gd_laws.proofs.Allowed.{may-put}
use Rattle.od_job.specs.Asking.{address_of, behaviour_of, condition_of}
use Rattle.od_job.specs.declared.job.SendTo.{SendTo}
use Rattle.od_job.specs.declared.job.SendTo.TheVariants.{Over, Under}
use Rattle.od_sends.specs.Putting.{PutsSo}

abbrev pub place_to : SendTo → Place
place_to (Over id tag) = place.Over id
place_to (Under id name) = place.Under id name

pub place-found : (to : SendTo) (held : Inventory) → place_of held (address_of to) ≡ Some (place_to to)
place-found (Over id tag) held = refl
place-found (Under id name) held = refl

over-met : (held : Inventory) (number : ℕ) (bytes tag : List ℕ) (others : ℕ) → None ≡ put_over_refusal held number bytes (Match tag) others → is_met (Match tag) (live_at number held.items) ≡ true
over-met held number bytes tag others none =
    let first = clear (not (is_there number (nodes_of held))) NotFound _ none in
    let second = clear (is_folder number (nodes_of held)) NotFile _ first.1 in
    let third =
    clear (not (is_met (Match tag) (live_at number held.items))) Modified
    (cond (is_too_long (path_of (nodes_of held) number)) (Some PathTooLong) (cond (is_over_quota held 0 (length bytes + others)) (Some Quota) None)) second.1 in
    un-not (is_met (Match tag) (live_at number held.items)) third.0

under-if : (held : Inventory) (parent : ItemId) (name bytes : List ℕ) (found : Option Sibling) → sibling_named name (siblings_in parent.0 held.items) ≡ found
    → is_refuse (settled_at found Fail (siblings_in parent.0 held.items) name false) ≡ false
    → PutsSo (Under parent name) bytes held (file_effect parent.0 name bytes (settled_at found Fail (siblings_in parent.0 held.items) name false))
under-if held parent name bytes None is had = (refl, none_found (λ (sibling : Sibling). equal_caseless sibling.name name) (siblings_in parent.0 held.items) is)
under-if held parent name bytes (Some other) is had = absurd (cc had)

pub put-so : (to : SendTo) (bytes : List ℕ) (held : Inventory) (others : ℕ) → None ≡ put_refusal held (place_to to) bytes (behaviour_of to) (condition_of to) others
    → PutsSo to bytes held (put_effect held (place_to to) bytes (behaviour_of to))
put-so (Over id tag) bytes held others none = (refl, over-met held id.0 bytes tag.0 others none)
put-so (Under id name) bytes held others none =
    under-if held id name bytes (sibling_named name (siblings_in id.0 held.items)) refl
    (may-put held id.0 name bytes Fail Free others (settled_in held id.0 name Fail false) refl none).had

pub no-store-fault : (fault : Option StoreFault) → None ≡ by_store fault → None ≡ fault
no-store-fault fault none = mapped-none (λ (f : StoreFault). refuse (status_of f) (code_of f)) fault (sym none)
