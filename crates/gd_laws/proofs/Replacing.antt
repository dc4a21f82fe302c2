-- A put that replaces bytes finds an item that lives.
use Rattle.std.proofs.Common.{◌≡◌, ℕ, ◌-◌, Bool, true, false, cond, nat_eq, List, [], ◌∷◌, ◌++◌, length, map, filter, is_some, Option, Some, None, refl, sym, ap, inl, inr, subst, ◌∙◌}
use Rattle.std.specs.List.{find}
use Rattle.std.proofs.lemmas.Bool.{eq-eqb, or_left, or_cases, both_ways}
use Rattle.gd_names.specs.Caseless.{equal_caseless}
use Rattle.gd_names.specs.declared.conflict.Conflict.{Conflict}
use Rattle.gd_names.specs.declared.conflict.Settle.{Settle}
use Rattle.gd_names.specs.declared.conflict.Settle.TheVariants.{Free, Over, Refuse}
use Rattle.gd_names.specs.declared.conflict.Sibling.{Sibling}
use Rattle.gd_names.proofs.Settled.{over-sibling}
use Rattle.gd_names.proofs.Small.{clear, un-not, mapped-none}
use Rattle.gd_item.specs.Inventory.{Inventory, Effect, MadeFolder, PutNew, PutOver, Moved, Removed, live_at, after}
use Rattle.gd_item.specs.Moves.{patch_effect, remove_effects, removal_order}
use Rattle.gd_item.specs.Nodes.{live_node, node_at, is_folder, is_some_folder}
use Rattle.gd_item.specs.Refusals.{is_there, sibling_of, siblings_in, settled_in, folder_effect, make_folder_effect, file_effect, put_refusal, put_effect}
use Rattle.gd_item.specs.Refused.{at_target, id_number, last_refusal, finish_refusal, commit_refusal, refusal}
use Rattle.gd_item.specs.Sessions.{State, Session, held, held_bytes, session_at, completes_file}
use Rattle.gd_item.specs.Steps.{effects_at, commit_effect, fragment_effects, finish_effects, effects_of}
use Rattle.gd_item.specs.Targets.{target_of, place_of}
use Rattle.gd_item.specs.Trees.{nodes_of}
use Rattle.gd_item.specs.declared.condition.Condition.{Condition}
use Rattle.gd_item.specs.declared.fault.StoreFault.{StoreFault}
use Rattle.gd_item.specs.declared.live.LiveItem.{LiveItem}
use Rattle.gd_item.specs.declared.live.Place.{Place}
use Rattle.gd_item.specs.declared.live.Place.TheVariants as place
use Rattle.gd_item.specs.declared.request.Request.{Request}
use Rattle.gd_item.specs.declared.request.Request.TheVariants.{Get, Children, MakeFolder, Put, Patch, Delete, Content, Download, OpenSession, Fragment, SessionStatus, CancelSession, Finish, Delta}
use Rattle.gd_laws.proofs.Requests.{neither-refuses}

abbrev pub Lives : ℕ → List LiveItem → Type 0
Lives number items = is_some (live_at number items) ≡ true

abbrev pub OnLiving : Inventory → Effect → Type 0
OnLiving held (MadeFolder parent name) = Unit {0}
OnLiving held (PutNew parent name bytes) = Unit {0}
OnLiving held (PutOver number bytes) = Lives number held.items
OnLiving held (Moved number parent name) = Unit {0}
OnLiving held (Removed number) = Unit {0}

abbrev pub AllOnLiving : Inventory → List Effect → Type 0
AllOnLiving held [] = Unit {0}
AllOnLiving held (effect ∷ effects) = OnLiving held effect × AllOnLiving (after held effect) effects

-- ---- what lives
-- a node that is there lives
node-lives : (number : ℕ) (items : List LiveItem) → is_some (node_at number (map live_node items)) ≡ is_some (live_at number items)
node-lives number [] = refl
node-lives number (item ∷ items) =
    elim (nat_eq item.number number) as (λ b. is_some (cond b (Some (live_node item)) (node_at number (map live_node items))) ≡ is_some (cond b (Some item) (live_at number items)))
    [ true ↦ refl | false ↦ node-lives number items ]

-- what is there and is no folder lives
file-lives : (held : Inventory) (number : ℕ) → is_there number (nodes_of held) ≡ true → is_folder number (nodes_of held) ≡ false → Lives number held.items
file-lives held number there file =
    elim (or_cases (nat_eq number 1) (is_some (node_at number (nodes_of held))) there) [
      | inl root ↦ absurd (both_ways (is_folder number (nodes_of held)) file (or_left (nat_eq number 1) (is_some_folder (node_at number (nodes_of held))) root))
      | inr found ↦ sym (node-lives number held.items) ∙ found
    ]

lives-if : (b : Bool) (number : ℕ) (item : LiveItem) (items : List LiveItem) → Lives number items → is_some (cond b (Some item) (live_at number items)) ≡ true
lives-if true number item items lives = refl
lives-if false number item items lives = lives

-- a sibling that is found lives
module _ (test : Sibling → Bool) (parent : ℕ) (sibling : Sibling) where
  abbrev siblings_then : LiveItem → List LiveItem → List Sibling
  siblings_then item items = map sibling_of (item ∷ filter (λ (x : LiveItem). nat_eq x.parent parent) items)

  found-here : (b : Bool) (item : LiveItem) (items : List LiveItem) → cond b (Some (sibling_of item)) (find test (siblings_in parent items)) ≡ Some sibling
      → (find test (siblings_in parent items) ≡ Some sibling → Lives sibling.id items) → Lives sibling.id (item ∷ items)
  found-here true item items found rest =
      let same : sibling_of item ≡ sibling = cc found in
      let number : nat_eq item.number sibling.id ≡ true = eq-eqb item.number sibling.id (ap (λ (s : Sibling). s.id) same) in
      ap (λ b. is_some (cond b (Some item) (live_at sibling.id items))) number
  found-here false item items found rest = lives-if (nat_eq item.number sibling.id) sibling.id item items (rest found)

  found-in : (b : Bool) (item : LiveItem) (items : List LiveItem)
      → find test (map sibling_of (cond b (item ∷ filter (λ (x : LiveItem). nat_eq x.parent parent) items) (filter (λ (x : LiveItem). nat_eq x.parent parent) items))) ≡ Some sibling
      → (find test (siblings_in parent items) ≡ Some sibling → Lives sibling.id items) → Lives sibling.id (item ∷ items)
  found-in true item items found rest = found-here (test (sibling_of item)) item items found rest
  found-in false item items found rest = lives-if (nat_eq item.number sibling.id) sibling.id item items (rest found)

  sibling-lives : (items : List LiveItem) → find test (siblings_in parent items) ≡ Some sibling → Lives sibling.id items
  sibling-lives [] found = absurd (cc found)
  sibling-lives (item ∷ items) found = found-in (nat_eq item.parent parent) item items found (sibling-lives items)

-- ---- what a put finds
folder-on : (held : Inventory) (parent : ℕ) (name : List ℕ) (settle : Settle) → OnLiving held (folder_effect parent name settle)
folder-on held parent name (Free free) = tt
folder-on held parent name (Over number) = tt
folder-on held parent name Refuse = tt

file-on : (held : Inventory) (parent : ℕ) (name bytes : List ℕ) (behaviour : Conflict) (settle : Settle) → settled_in held parent name behaviour false ≡ settle → OnLiving held (file_effect parent name bytes settle)
file-on held parent name bytes behaviour (Free free) is = tt
file-on held parent name bytes behaviour (Over number) is =
    let over = over-sibling behaviour (siblings_in parent held.items) name false number is in
    subst (λ n. Lives n held.items) over.2 (sibling-lives (λ (s : Sibling). equal_caseless s.name name) parent over.0 held.items over.1)
file-on held parent name bytes behaviour Refuse is = tt

put-on : (held : Inventory) (bytes : List ℕ) (behaviour : Conflict) (condition : Condition) (others : ℕ) (at : Place) → None ≡ put_refusal held at bytes behaviour condition others
    → AllOnLiving held (put_effect held at bytes behaviour ∷ [])
put-on held bytes behaviour condition others (place.Over id) allowed =
    let a = clear _ _ _ allowed in
    let b = clear _ _ _ a.1 in
    (file-lives held id.0 (un-not _ a.0) b.0, tt)
put-on held bytes behaviour condition others (place.Under id name) allowed = (file-on held id.0 name bytes behaviour (settled_in held id.0 name behaviour false) refl, tt)

removed-on : (held : Inventory) (numbers : List ℕ) → AllOnLiving held (map Removed numbers)
removed-on held [] = tt
removed-on held (number ∷ numbers) = (tt, removed-on (after held (Removed number)) numbers)

-- ---- each request
at-on : {X : Type 0} (held : Inventory) (fault : X → Option StoreFault) (made : X → List Effect) → ((x : X) → None ≡ fault x → AllOnLiving held (made x))
    → (target : Option X) → None ≡ at_target fault target → AllOnLiving held (effects_at made target)
at-on held fault made each None h = absurd (cc h)
at-on held fault made each (Some x) h = each x h

any-on : {X : Type 0} (held : Inventory) (made : X → List Effect) → ((x : X) → AllOnLiving held (made x)) → (target : Option X) → AllOnLiving held (effects_at made target)
any-on held made each None = tt
any-on held made each (Some x) = each x

commit-on : (state : State) (session : Session) (bytes : List ℕ) → None ≡ commit_refusal state session bytes → AllOnLiving (held state) (commit_effect state session bytes ∷ [])
commit-on state session bytes allowed =
    put-on (held state) bytes session.behaviour session.condition (held_bytes state.sessions - length session.filled) session.place allowed

fragment-if : (b : Bool) (state : State) (session : Session) (bytes : List ℕ) → None ≡ cond b (commit_refusal state session bytes) None
    → AllOnLiving (held state) (cond b (commit_effect state session bytes ∷ []) [])
fragment-if true state session bytes allowed = commit-on state session bytes allowed
fragment-if false state session bytes allowed = tt

fragment-on : (state : State) (last total : ℕ) (bytes : List ℕ) (session : Option Session) → None ≡ last_refusal state session last total bytes
    → AllOnLiving (held state) (effects_at (fragment_effects state last total bytes) session)
fragment-on state last total bytes None allowed = tt
fragment-on state last total bytes (Some session) allowed = fragment-if (completes_file session last total) state session (session.filled ++ bytes) allowed

finish-on : (state : State) (session : Option Session) → None ≡ finish_refusal state session → AllOnLiving (held state) (effects_at (finish_effects state) session)
finish-on state None allowed = tt
finish-on state (Some session) allowed = commit-on state session session.filled allowed

pub request-on : (state : State) (request : Request) → None ≡ refusal state request → AllOnLiving (held state) (effects_of state request)
request-on state (Get at) h = tt
request-on state (Children at earlier) h = tt
request-on state (MakeFolder at name behaviour) h =
    any-on (held state) (λ parent. make_folder_effect (held state) parent name behaviour ∷ [])
    (λ parent. (folder-on (held state) parent name (settled_in (held state) parent name behaviour true), tt)) (target_of (held state) at)
request-on state (Put at bytes behaviour condition) h =
    at-on (held state) (λ place. put_refusal (held state) place bytes behaviour condition (held_bytes state.sessions)) (λ place. put_effect (held state) place bytes behaviour ∷ [])
    (put-on (held state) bytes behaviour condition (held_bytes state.sessions)) (place_of (held state) at) (mapped-none _ _ (sym (clear _ _ _ h).1))
request-on state (Patch at name parent condition) h =
    any-on (held state) (λ number. patch_effect (held state) number name (id_number parent) ∷ []) (λ number. (tt, tt)) (target_of (held state) at)
request-on state (Delete at condition) h =
    any-on (held state) (remove_effects (held state)) (λ number. removed-on (held state) (removal_order (held state) number)) (target_of (held state) at)
request-on state (Content at) h = tt
request-on state (Download id version) h = tt
request-on state (OpenSession at name behaviour condition defer) h = tt
request-on state (Fragment session first last total bytes) h =
    fragment-on state last total bytes (session_at session state.sessions)
    (mapped-none _ (last_refusal state (session_at session state.sessions) last total bytes) (sym (neither-refuses _ _ (sym h)).1))
request-on state (SessionStatus session) h = tt
request-on state (CancelSession session) h = tt
request-on state (Finish session) h =
    finish-on state (session_at session state.sessions) (mapped-none _ (finish_refusal state (session_at session state.sessions)) (sym (neither-refuses _ _ (sym h)).1))
request-on state (Delta token) h = tt
