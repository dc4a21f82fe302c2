-- What is known in a world stays good over legal events, and its image the last one.
use Rattle.std.proofs.Common.{◌≡◌, List, [], ◌∷◌, refl, sym, ◌∙◌}
use Rattle.gd_item.specs.declared.step.Step.TheVariants as step
use Rattle.gd_item.specs.declared.step.Who.TheVariants.{Own, Other}
use Rattle.od_keeper.specs.Keeping.{last_image}
use Rattle.od_keeper.proofs.LastImages.{last_added}
use Rattle.od_tree.specs.declared.step.LocalStep.TheVariants.{User, Op}
use Rattle.od_outside.specs.Running.{IsKnown}
use Rattle.od_run.specs.Acting.{LegalFrom}
use Rattle.od_run.specs.Knowing.{Known, begins, learn, learned}
use Rattle.od_run.specs.Good.{AreSound}
use Rattle.od_run.specs.Worlds.{World, Event, Asked, Worked, Kept, happens, now}
use Rattle.od_run.proofs.Goods.{good-beginning, good-run}

last-after : (w : World) (k : Known) (event : Event) → k.image ≡ last_image w.images → (learn w k event).image ≡ last_image (happens w event).images
last-after w k (Asked size (step.Ask Own request served heard)) is = is
last-after w k (Asked size (step.Ask Other request served heard)) is = is
last-after w k (Asked size (step.Event event)) is = is
last-after w k (Worked (User edit)) is = is
last-after w k (Worked (Op call)) is = is
last-after w k (Kept image) is = sym (last_added w.images image)

last-run : (w : World) (k : Known) (events : List Event) → k.image ≡ last_image w.images → (learned w k events).image ≡ last_image (now w events).images
last-run w k [] is = is
last-run w k (event ∷ events) is = last-run (happens w event) (learn w k event) events (last-after w k event is)

pub known-run : (w : World) (k : Known) (events : List Event) → IsKnown w k → LegalFrom w k events → IsKnown (now w events) (learned w k events)
known-run w k events known legal = record { good = good-run w k events known.good legal; last = last-run w k events known.last }

-- where a call begins
pub known-beginning : (w : World) → AreSound w.drive w.images → IsKnown w (begins w)
known-beginning w sound = record { good = good-beginning w sound; last = refl }
