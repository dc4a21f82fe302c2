-- Legal events one after another, and the steps of others.
use Rattle.std.proofs.Common.{◌≡◌, List, [], ◌∷◌, ◌++◌, refl, sym, subst}
use Rattle.std.specs.List.{AllByRecursion}
use Rattle.gd_item.specs.declared.step.Step.TheVariants as step
use Rattle.gd_item.specs.declared.step.Who.TheVariants.{Own, Other}
use Rattle.od_tree.specs.declared.step.LocalStep.TheVariants.{User, Op}
use Rattle.od_run.specs.Acting.{LegalFrom, May}
use Rattle.od_run.specs.Knowing.{Known, learn, learned}
use Rattle.od_run.specs.Worlds.{World, Event, Asked, Worked, Kept, IsOther, happens, now}

pub now-append : (w : World) (xs ys : List Event) → now w (xs ++ ys) ≡ now (now w xs) ys
now-append w [] ys = refl
now-append w (x ∷ xs) ys = now-append (happens w x) xs ys

pub learned-append : (w : World) (k : Known) (xs ys : List Event) → learned w k (xs ++ ys) ≡ learned (now w xs) (learned w k xs) ys
learned-append w k [] ys = refl
learned-append w k (x ∷ xs) ys = learned-append (happens w x) (learn w k x) xs ys

pub legal-append : (w : World) (k : Known) (xs ys : List Event) → LegalFrom w k xs → LegalFrom (now w xs) (learned w k xs) ys → LegalFrom w k (xs ++ ys)
legal-append w k [] ys first second = second
legal-append w k (x ∷ xs) ys first second = (first.0, legal-append (happens w x) (learn w k x) xs ys first.1 second)

-- others may always act, and nothing is learned of it
other-may : (k : Known) (event : Event) → IsOther event → May k event
other-may k (Asked size (step.Ask Own request served heard)) is = absurd is
other-may k (Asked size (step.Ask Other request served heard)) is = tt
other-may k (Asked size (step.Event event)) is = tt
other-may k (Worked (User edit)) is = tt
other-may k (Worked (Op call)) is = absurd is
other-may k (Kept image) is = absurd is

other-learn : (w : World) (k : Known) (event : Event) → IsOther event → learn w k event ≡ k
other-learn w k (Asked size (step.Ask Own request served heard)) is = absurd is
other-learn w k (Asked size (step.Ask Other request served heard)) is = refl
other-learn w k (Asked size (step.Event event)) is = refl
other-learn w k (Worked (User edit)) is = refl
other-learn w k (Worked (Op call)) is = absurd is
other-learn w k (Kept image) is = absurd is

pub others-learn : (w : World) (k : Known) (others : List Event) → AllByRecursion IsOther others → learned w k others ≡ k
others-learn w k [] all = refl
others-learn w k (event ∷ others) all =
    subst (λ next. learned (happens w event) next others ≡ k) (sym (other-learn w k event all.0)) (others-learn (happens w event) k others all.1)

pub others-legal : (w : World) (k : Known) (others : List Event) → AllByRecursion IsOther others → LegalFrom w k others
others-legal w k [] all = tt
others-legal w k (event ∷ others) all = (
  other-may k event all.0,
  subst (λ next. LegalFrom (happens w event) next others) (sym (other-learn w k event all.0)) (others-legal (happens w event) k others all.1),
)
