-- Between two requests for changes this client sends a file once to a place.
use Rattle.std.proofs.Common.{◌≡◌, Bool, true, false, cond, is_none, List, [], ◌∷◌, refl, subst}
use Rattle.gd_item.specs.Inventory.{Effect, Inventory}
use Rattle.gd_item.specs.Refused.{refusal}
use Rattle.gd_item.specs.Sessions.{State, held}
use Rattle.gd_item.specs.Steps.{effects_of, state_of}
use Rattle.gd_item.specs.declared.request.Request.{Request}
use Rattle.gd_item.specs.declared.request.Request.TheVariants.{Put, OpenSession, Delta}
use Rattle.gd_item.specs.declared.step.Step.{Step}
use Rattle.gd_item.specs.declared.step.Step.TheVariants as step
use Rattle.gd_item.specs.declared.step.Who.TheVariants.{Own, Other}
use Rattle.od_tree.specs.declared.step.LocalStep.TheVariants.{User, Op}
use Rattle.od_run.specs.Acting.{LegalFrom, MayRequest}
use Rattle.od_run.specs.Knowing.{Known, There, after_effects, begins, learn, there_after, there_asked, there_brought, there_heard}
use Rattle.od_uploads.specs.Uploading.{IsSentOnce, SendsOnce, sent_to}
use Rattle.od_run.specs.Worlds.{World, Event, Asked, Worked, Kept, happens, steps_in}

-- what a request brings about leaves where files were sent
effects-put : (k : Known) (held : Inventory) (effects : List Effect) (there : There) → (after_effects k held effects there).put ≡ there.put
effects-put k held [] there = refl
effects-put k held (effect ∷ effects) there = refl

brought-put : (state : State) (k : Known) (request : Request) (there : There) → (there_brought state k request there).put ≡ there.put
brought-put state k (OpenSession at name behaviour condition defer) there = refl
brought-put state k request there = effects-put k (held state) (effects_of state request) there

put-if : (accepted : Bool) (brought there : There) → brought.put ≡ there.put → (cond accepted brought there).put ≡ there.put
put-if true brought there same = same
put-if false brought there same = refl

heard-put : (state : State) (k : Known) (request : Request) (served heard : Bool) (there : There) → (there_heard state k request served heard there).put ≡ there.put
heard-put state k request true true there = put-if (is_none (refusal state request)) (there_brought state k request there) there (brought-put state k request there)
heard-put state k request true false there = refl
heard-put state k request false heard there = refl

-- where files were sent after a request
put-after : (drive : List Step) (k : Known) (request : Request) (served heard : Bool) → (there_after drive k request served heard).put ≡ sent_to k.there.put (step.Ask Own request served heard)
put-after drive k (Put at bytes behaviour condition) served heard =
    heard-put (state_of drive) k (Put at bytes behaviour condition) served heard (there_asked (Put at bytes behaviour condition) k.there)
put-after drive k (OpenSession at name behaviour condition defer) served heard =
    heard-put (state_of drive) k (OpenSession at name behaviour condition defer) served heard (there_asked (OpenSession at name behaviour condition defer) k.there)
put-after drive k (Delta token) served heard = refl
put-after drive k request served heard = heard-put (state_of drive) k request served heard (there_asked request k.there)

once : (k : Known) (request : Request) (served heard : Bool) → MayRequest k request → IsSentOnce k.there.put (step.Ask Own request served heard)
once k (Put at bytes behaviour condition) served heard may = may.once
once k (OpenSession at name behaviour condition defer) served heard may = may.1.once
once k request served heard may = tt

sends : (w : World) (k : Known) (events : List Event) → LegalFrom w k events → SendsOnce k.there.put (steps_in events)
sends w k [] legal = tt
sends w k (Asked size (step.Ask Own request served heard) ∷ events) legal = (
  once k request served heard legal.0.2,
  subst (λ places. SendsOnce places (steps_in events)) (put-after w.drive k request served heard)
      (sends (happens w (Asked size (step.Ask Own request served heard))) (learn w k (Asked size (step.Ask Own request served heard))) events legal.1),
)
sends w k (Asked size (step.Ask Other request served heard) ∷ events) legal = (tt, sends (happens w (Asked size (step.Ask Other request served heard))) k events legal.1)
sends w k (Asked size (step.Event event) ∷ events) legal = (tt, sends (happens w (Asked size (step.Event event))) k events legal.1)
sends w k (Worked (User edit) ∷ events) legal = sends (happens w (Worked (User edit))) k events legal.1
sends w k (Worked (Op call) ∷ events) legal = sends (happens w (Worked (Op call))) (learn w k (Worked (Op call))) events legal.1
sends w k (Kept image ∷ events) legal = sends (happens w (Kept image)) (learn w k (Kept image)) events legal.1

pub sends-once : (w : World) (events : List Event) → LegalFrom w (begins w) events → SendsOnce [] (steps_in events)
sends-once w events legal = sends w (begins w) events legal
