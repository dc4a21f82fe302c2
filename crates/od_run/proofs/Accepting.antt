-- What stands on a drive was accepted by it, and so was what a request brings about.
use Rattle.std.proofs.Common.{◌≡◌, ℕ, ◌+◌, Bool, true, false, cond, is_none, List, [], ◌∷◌, ◌++◌, Option, Some, None, refl, ap, sym, subst, ◌∙◌}
use Rattle.std.specs.List.{AllByRecursion, Contains}
use Rattle.std.proofs.lemmas.List.Elements.{Contains-append_left, Contains-append_right, All-contains}
use Rattle.gd_names.proofs.Each.{all-each, each, each-append, each-so}
use Rattle.gd_item.specs.Inventory.{Effect, MadeFolder, PutNew, PutOver, Moved, Removed, new_drive, after, inventory, live_at}
use Rattle.gd_item.specs.Records.{digest_record}
use Rattle.gd_item.specs.Refused.{Refusal, refusal}
use Rattle.gd_item.specs.Sessions.{State}
use Rattle.gd_item.specs.Steps.{accepted_by, effects_of, held_by, state_of}
use Rattle.gd_item.specs.Versions.{accepted, accepted_after, put_by}
use Rattle.gd_item.specs.declared.digest.Digest.{Digest}
use Rattle.gd_item.specs.declared.live.LiveItem.{LiveItem}
use Rattle.gd_item.specs.declared.live.Version.{Version}
use Rattle.gd_item.specs.declared.request.Request.{Request}
use Rattle.gd_item.specs.declared.request.Request.TheVariants.{Put, OpenSession, Delta}
use Rattle.gd_item.specs.declared.step.Step.{Step}
use Rattle.gd_item.specs.declared.step.Step.TheVariants as step
use Rattle.gd_item.specs.declared.step.Who.TheVariants.{Own}
use Rattle.gd_item.proofs.LogsGrow.{accepted-append, accepted-log}
use Rattle.gd_item.proofs.LogsVersions.{IsKnown, known-inventory}
use Rattle.gd_laws.proofs.Living.{of-living}
use Rattle.gd_laws.proofs.Logs.{effects-push}
use Rattle.gd_laws.proofs.Placing.{items-known}
use Rattle.gd_laws.proofs.Trees.{items-log}
use Rattle.gd_laws.specs.Placed.{HasAt}
use Rattle.od_keeper.specs.Sound.{IsAccepted}
use Rattle.od_keeper.specs.declared.image.Agreed.{Agreed}
use Rattle.od_keeper.specs.declared.image.Agreed.TheVariants.{Nothing, Folder, File}
use Rattle.od_run.specs.Acting.{IsAt}
use Rattle.od_run.specs.Good.{AreAccepted}
use Rattle.od_run.specs.Knowing.{Known, Path, There, agreed_bytes, agreed_item, after_effects, at_known_path, brought_by, child_path, known_path, there_after, there_asked, there_brought, there_heard}
use Rattle.od_run.proofs.Among.{among-head}

-- ---- longer logs
accepted-more : (versions more : List Version) (what : Agreed) → IsAccepted versions what → IsAccepted (versions ++ more) what
accepted-more versions more Nothing is = tt
accepted-more versions more Folder is = tt
accepted-more versions more (File digest) is =
    let there = Contains-append_left versions more is.1 (is.0, is.2, is.3) in
    (there.0, is.1, there.1, there.2, is.4)

pub accepted-later : (drive more : List Step) (what : Agreed) → IsAccepted (accepted_by drive) what → IsAccepted (accepted_by (drive ++ more)) what
accepted-later drive more what is =
    subst (λ versions. IsAccepted versions what) (sym (accepted-log drive more).1) (accepted-more (accepted_by drive) (accepted-log drive more).0 what is)

pub all-later : (drive more : List Step) (facts : List (Path × Agreed)) → AreAccepted drive facts → AreAccepted (drive ++ more) facts
all-later drive more facts are =
    each-so (λ (fact : Path × Agreed). IsAccepted (accepted_by drive) fact.1) (λ (fact : Path × Agreed). IsAccepted (accepted_by (drive ++ more)) fact.1)
    (λ fact is. accepted-later drive more fact.1 is) facts are

-- a version with the bytes is among those of a drive
version-there : (versions : List Version) (version : Version) (digest : Digest) → Contains versions version → digest ≡ digest_record version.bytes → IsAccepted versions (File digest)
version-there versions version digest there is = (there.0, version, there.1, there.2, is)

-- ---- what stands there
known-accepted : (versions : List Version) (item : LiveItem) (bytes : List ℕ) (digest : Digest) → IsKnown versions item → item.bytes ≡ Some bytes → digest ≡ digest_record bytes
    → IsAccepted versions (File digest)
known-accepted versions item bytes digest known is same =
    version-there versions (record { item = item.number; content = item.content; bytes = bytes }) digest (known bytes is) same

file-there : (drive : List Step) (path : Path) (bytes : List ℕ) (digest : Digest) → HasAt (held_by drive) path (Some bytes) → digest ≡ digest_record bytes → IsAccepted (accepted_by drive) (File digest)
file-there drive path bytes digest has same =
    known-accepted (accepted_by drive) has.1 bytes digest
    (All-contains (IsKnown (accepted_by drive)) (held_by drive).items has.1 (all-each (IsKnown (accepted_by drive)) (held_by drive).items (items-known drive)) (has.0, has.2, has.3)) has.4.1 same

pub at-accepted : (drive : List Step) (path : Path) (what : Agreed) → IsAt (held_by drive) path what → IsAccepted (accepted_by drive) what
at-accepted drive path Nothing is = absurd is
at-accepted drive path Folder is = tt
at-accepted drive path (File digest) is = file-there drive path is.0 digest ((items-log drive path (Some is.0)).0 is.1) is.2

-- ---- what an effect brings about
abbrev All-accepted : List Version → List (Path × Agreed) → Type 0
All-accepted versions facts = AllByRecursion (λ (fact : Path × Agreed). IsAccepted versions fact.1) facts

at-path : (versions : List Version) (path : Option Path) (what : Agreed) → IsAccepted versions what → All-accepted versions (at_known_path path what)
at-path versions None what is = tt
at-path versions (Some path) what is = (is, tt)

put-there : (before rest : List Version) (version : Version) → IsAccepted (before ++ ((version ∷ []) ++ rest)) (File (digest_record version.bytes))
put-there before rest version =
    version-there (before ++ (version ∷ rest)) version (digest_record version.bytes) (Contains-append_right before (version ∷ rest) version (among-head version rest)) refl

item-accepted : (versions : List Version) (item : LiveItem) (bytes : Option (List ℕ)) → item.bytes ≡ bytes → IsKnown versions item → IsAccepted versions (agreed_bytes bytes)
item-accepted versions item None is known = tt
item-accepted versions item (Some bytes) is known = known-accepted versions item bytes (digest_record bytes) known is refl

live-accepted : (effects : List Effect) (number : ℕ) (found : Option LiveItem) → live_at number (inventory effects).items ≡ found → IsAccepted (accepted effects) (agreed_item found)
live-accepted effects number None is = tt
live-accepted effects number (Some item) is =
    item-accepted (accepted effects) item item.bytes refl
    (of-living (IsKnown (accepted effects)) number (inventory effects).items item (each (IsKnown (accepted effects)) (inventory effects).items (known-inventory effects).living) is).0

effect-accepted : (k : Known) (effects : List Effect) (effect : Effect) (rest : List Version)
    → All-accepted (accepted effects ++ (put_by (inventory effects) effect ++ rest)) (brought_by k (inventory effects) effect)
effect-accepted k effects (MadeFolder parent name) rest = at-path _ (child_path k parent name) Folder tt
effect-accepted k effects (PutNew parent name bytes) rest =
    at-path _ (child_path k parent name) (File (digest_record bytes))
    (put-there (accepted effects) rest (record { item = (inventory effects).next; content = (inventory effects).number + 1; bytes = bytes }))
effect-accepted k effects (PutOver number bytes) rest =
    at-path _ (known_path k number) (File (digest_record bytes))
    (put-there (accepted effects) rest (record { item = number; content = (inventory effects).number + 1; bytes = bytes }))
effect-accepted k effects (Moved number parent name) rest =
    at-path (accepted effects ++ rest) (child_path k parent name) (agreed_item (live_at number (inventory effects).items))
    (accepted-more (accepted effects) rest (agreed_item (live_at number (inventory effects).items)) (live-accepted effects number (live_at number (inventory effects).items) refl))
effect-accepted k effects (Removed number) rest = tt

effects-accepted : (k : Known) (effects new : List Effect) (there : There) → All-accepted (accepted (effects ++ new)) there.brought
    → All-accepted (accepted (effects ++ new)) (after_effects k (inventory effects) new there).brought
effects-accepted k effects [] there are = are
effects-accepted k effects (effect ∷ new) there are =
    let later : List Version = accepted_after (after (inventory effects) effect) new in
    each-append (λ (fact : Path × Agreed). IsAccepted (accepted (effects ++ effect ∷ new)) fact.1) (brought_by k (inventory effects) effect) there.brought
    (subst (λ versions. All-accepted versions (brought_by k (inventory effects) effect)) (sym (accepted-append new_drive effects (effect ∷ new))) (effect-accepted k effects effect later)) are

-- ---- what a request brings about
pub asked-same : (request : Request) (there : There) → (there_asked request there).brought ≡ there.brought
asked-same (Put at bytes behaviour condition) there = refl
asked-same (OpenSession at name behaviour condition defer) there = refl
asked-same request there = refl

brought-accepted : (state : State) (k : Known) (request : Request) (there : There) → All-accepted (accepted (state.effects ++ effects_of state request)) there.brought
    → All-accepted (accepted (state.effects ++ effects_of state request)) (there_brought state k request there).brought
brought-accepted state k (OpenSession at name behaviour condition defer) there are = are
brought-accepted state k request there are = effects-accepted k state.effects (effects_of state request) there are

-- of a request that is served and heard, by whether it is refused
unless-refused : (drive : List Step) (k : Known) (request : Request) (there : There) (refused : Option Refusal) → refusal (state_of drive) request ≡ refused
    → AreAccepted (drive ++ step.Ask Own request true true ∷ []) there.brought
    → AreAccepted (drive ++ step.Ask Own request true true ∷ []) (cond (is_none refused) (there_brought (state_of drive) k request there) there).brought
unless-refused drive k request there (Some why) is are = are
unless-refused drive k request there None is are =
    let done : List Step = drive ++ step.Ask Own request true true ∷ [] in
    let grown : (state_of done).effects ≡ (state_of drive).effects ++ effects_of (state_of drive) request =
    effects-push drive (step.Ask Own request true true) ∙ ap (λ why. (state_of drive).effects ++ cond (is_none why) (effects_of (state_of drive) request) []) is in
    let now : accepted_by done ≡ accepted ((state_of drive).effects ++ effects_of (state_of drive) request) = ap accepted grown in
    subst (λ versions. All-accepted versions (there_brought (state_of drive) k request there).brought) (sym now)
    (brought-accepted (state_of drive) k request there (subst (λ versions. All-accepted versions there.brought) now are))

heard-accepted : (drive : List Step) (k : Known) (request : Request) (served heard : Bool) (there : There)
    → AreAccepted (drive ++ step.Ask Own request served heard ∷ []) there.brought
    → AreAccepted (drive ++ step.Ask Own request served heard ∷ []) (there_heard (state_of drive) k request served heard there).brought
heard-accepted drive k request true true there are = unless-refused drive k request there (refusal (state_of drive) request) refl are
heard-accepted drive k request true false there are = are
heard-accepted drive k request false heard there are = are

after-asked : (drive : List Step) (k : Known) (request : Request) (served heard : Bool) → AreAccepted drive k.there.brought
    → AreAccepted (drive ++ step.Ask Own request served heard ∷ []) (there_heard (state_of drive) k request served heard (there_asked request k.there)).brought
after-asked drive k request served heard are =
    heard-accepted drive k request served heard (there_asked request k.there)
    (subst (λ facts. AreAccepted (drive ++ step.Ask Own request served heard ∷ []) facts) (sym (asked-same request k.there))
    (all-later drive (step.Ask Own request served heard ∷ []) k.there.brought are))

pub there-accepted : (drive : List Step) (k : Known) (request : Request) (served heard : Bool) → AreAccepted drive k.there.brought
    → AreAccepted (drive ++ step.Ask Own request served heard ∷ []) (there_after drive k request served heard).brought
there-accepted drive k (Delta token) served heard are = tt
there-accepted drive k request served heard are = after-asked drive k request served heard are
