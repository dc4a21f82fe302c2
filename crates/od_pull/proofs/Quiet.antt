-- Events that bring a pull nothing, and what was said over events one after another.
use Rattle.std.proofs.Common.{◌≡◌, ℕ, Bool, true, false, ◌||◌, cond, List, [], ◌∷◌, ◌++◌, Option, refl, ap, sym, subst, ◌∙◌, append_assoc}
use Rattle.std.proofs.lemmas.List.{append-nil}
use Rattle.gd_item.specs.Written.{IsWritten}
use Rattle.gd_item.specs.declared.request.Request.{Request}
use Rattle.gd_item.specs.declared.request.Request.TheVariants.{Content, Delta, Download}
use Rattle.gd_item.specs.declared.step.Step.TheVariants as step
use Rattle.gd_item.specs.declared.step.Who.TheVariants.{Own, Other}
use Rattle.od_keeper.specs.Images.{empty_image}
use Rattle.od_keeper.specs.declared.image.Image.{Image}
use Rattle.od_mirror.specs.Pulled.{Pulled}
use Rattle.od_outside.specs.Asks.{AreSuch}
use Rattle.od_outside.specs.Calls.{AreOthers}
use Rattle.od_pages.specs.Pulls.{IsPull}
use Rattle.od_pages.proofs.Pulling.{pull-goes-on}
use Rattle.od_remote.specs.Again.{IsSpent, IsUnheard}
use Rattle.od_run.specs.Knowing.{Known, learned}
use Rattle.od_run.specs.Worlds.{World, Event, Asked, Worked, Kept, IsOther, happens, now, steps_in}
use Rattle.od_run.proofs.Legal.{learned-append, now-append}
use Rattle.od_tree.specs.declared.step.LocalStep.TheVariants.{User, Op}
use Rattle.od_pull.specs.Digests.{IsLook}
use Rattle.od_pull.specs.Parts.{IsQuiet}
use Rattle.od_pull.proofs.Looks.{by-look}
use Rattle.od_pull.specs.Pulls.{EmptiesImage, told_in, told_to_send}

-- ---- the drive's log
pub drive-now : (w : World) (events : List Event) → (now w events).drive ≡ w.drive ++ steps_in events
drive-now w [] = sym (append-nil w.drive)
drive-now w (Asked size step ∷ events) = drive-now (happens w (Asked size step)) events ∙ append_assoc w.drive (step ∷ []) (steps_in events)
drive-now w (Worked step ∷ events) = drive-now (happens w (Worked step)) events
drive-now w (Kept image ∷ events) = drive-now (happens w (Kept image)) events

-- ---- one event
record Leaves (w : World) (event : Event) : Type 0 where
  pub pull : (mirror : Pulled) → IsPull w.drive mirror → IsPull (happens w event).drive mirror
  pub told : told_in w event ≡ false

unheard : (w : World) (size : ℕ) (token : Option (List ℕ)) (served heard : Bool) → (heard ≡ true → served ≡ false) → Leaves w (Asked size (step.Ask Own (Delta token) served heard))
unheard w size token true true lost = absurd (cc (lost refl))
unheard w size token true false lost = record { pull = λ mirror pull. pull-goes-on w.drive mirror mirror (step.Ask Own (Delta token) true false) pull refl; told = refl }
unheard w size token false heard lost = record { pull = λ mirror pull. pull-goes-on w.drive mirror mirror (step.Ask Own (Delta token) false heard) pull refl; told = refl }

spent-leaves : (token : Option (List ℕ)) (w : World) (size : ℕ) (sent : Request) (served heard : Bool) → IsWritten (Delta token) → IsSpent (Delta token) sent served heard → Leaves w (Asked size (step.Ask Own sent served heard))
spent-leaves token w size sent served heard written spent =
    subst (λ (request : Request). Leaves w (Asked size (step.Ask Own request served heard))) (sym (spent.0 written)) (unheard w size token served heard (λ is. spent.1 is written))

other-leaves : (w : World) (event : Event) → IsOther event → Leaves w event
other-leaves w (Asked size (step.Ask Own request served heard)) is = absurd is
other-leaves w (Asked size (step.Ask Other request served heard)) is = record { pull = λ mirror pull. pull-goes-on w.drive mirror mirror (step.Ask Other request served heard) pull refl; told = refl }
other-leaves w (Asked size (step.Event event)) is = record { pull = λ mirror pull. pull-goes-on w.drive mirror mirror (step.Event event) pull refl; told = refl }
other-leaves w (Worked step) is = record { pull = λ mirror pull. pull; told = refl }
other-leaves w (Kept image) is = absurd is

-- ---- many
quiet-more : (w : World) (k : Known) (event : Event) (part : List Event) → Leaves w event → IsQuiet (happens w event) k part → IsQuiet w k (event ∷ part)
quiet-more w k event part one rest = record {
  pull = λ mirror pull. rest.pull mirror (one.pull mirror pull);
  told = ap (λ b. b || told_to_send (happens w event) part) one.told ∙ rest.told;
}

pub quiet-none : (w : World) (k : Known) → IsQuiet w k []
quiet-none w k = record { pull = λ mirror pull. pull; told = refl }

pub quiet-others : (w : World) (k : Known) (part : List Event) → AreOthers part → IsQuiet w k part
quiet-others w k [] others = quiet-none w k
quiet-others w k (event ∷ part) others = quiet-more w k event part (other-leaves w event others.0) (quiet-others (happens w event) k part others.1)

quiet-such : (Such : Request → Bool → Bool → Type 0) → ((w : World) (size : ℕ) (sent : Request) (served heard : Bool) → Such sent served heard → Leaves w (Asked size (step.Ask Own sent served heard)))
    → (w : World) (k : Known) (part : List Event) → AreSuch Such part → IsQuiet w k part
quiet-such Such leaves w k [] such = quiet-none w k
quiet-such Such leaves w k (Asked size (step.Ask Own sent served heard) ∷ part) such =
    quiet-more w k (Asked size (step.Ask Own sent served heard)) part (leaves w size sent served heard such.0.2) (quiet-such Such leaves (happens w (Asked size (step.Ask Own sent served heard))) k part such.1)
quiet-such Such leaves w k (Asked size (step.Ask Other sent served heard) ∷ part) such =
    quiet-more w k (Asked size (step.Ask Other sent served heard)) part (other-leaves w (Asked size (step.Ask Other sent served heard)) tt)
    (quiet-such Such leaves (happens w (Asked size (step.Ask Other sent served heard))) k part such.1)
quiet-such Such leaves w k (Asked size (step.Event event) ∷ part) such =
    quiet-more w k (Asked size (step.Event event)) part (other-leaves w (Asked size (step.Event event)) tt) (quiet-such Such leaves (happens w (Asked size (step.Event event))) k part such.1)
quiet-such Such leaves w k (Worked (User edit) ∷ part) such =
    quiet-more w k (Worked (User edit)) part (other-leaves w (Worked (User edit)) tt) (quiet-such Such leaves (happens w (Worked (User edit))) k part such.1)
quiet-such Such leaves w k (Worked (Op call) ∷ part) such = absurd such.0
quiet-such Such leaves w k (Kept image ∷ part) such = absurd such.0

pub quiet-spent : (token : Option (List ℕ)) → IsWritten (Delta token) → (w : World) (k : Known) (part : List Event) → AreSuch (IsSpent (Delta token)) part → IsQuiet w k part
quiet-spent token written w k part such = quiet-such (IsSpent (Delta token)) (λ v size sent served heard spent. spent-leaves token v size sent served heard written spent) w k part such

-- ---- looks
look-leaves : (w : World) (size : ℕ) (request : Request) (served heard : Bool) → IsLook request → Leaves w (Asked size (step.Ask Own request served heard))
look-leaves w size request served heard look =
    by-look (λ (r : Request). Leaves w (Asked size (step.Ask Own r served heard)))
    (λ at. record { pull = λ mirror pull. pull-goes-on w.drive mirror mirror (step.Ask Own (Content at) served heard) pull refl; told = refl })
    (λ id version. record { pull = λ mirror pull. pull-goes-on w.drive mirror mirror (step.Ask Own (Download id version) served heard) pull refl; told = refl }) request look

pub quiet-look : (w : World) (k : Known) (size : ℕ) (request : Request) (served heard : Bool) → IsLook request → IsQuiet w k (Asked size (step.Ask Own request served heard) ∷ [])
quiet-look w k size request served heard look =
    quiet-more w k (Asked size (step.Ask Own request served heard)) [] (look-leaves w size request served heard look) (quiet-none (happens w (Asked size (step.Ask Own request served heard))) k)

pub quiet-unheard : (request : Request) → IsLook request → IsWritten request → (w : World) (k : Known) (part : List Event) → AreSuch (IsUnheard request) part → IsQuiet w k part
quiet-unheard request look written w k part such =
    quiet-such (IsUnheard request) (λ v size sent served heard unheard. look-leaves v size sent served heard (subst IsLook (sym (unheard.0 written)) look)) w k part such

-- ---- one after another
told-append : (w : World) (xs ys : List Event) → told_to_send w (xs ++ ys) ≡ (told_to_send w xs || told_to_send (now w xs) ys)
told-append w [] ys = refl
told-append w (x ∷ xs) ys = by (told_in w x) (told-append (happens w x) xs ys)
  where
    by : (b : Bool) → told_to_send (happens w x) (xs ++ ys) ≡ (told_to_send (happens w x) xs || told_to_send (now (happens w x) xs) ys)
        → (b || told_to_send (happens w x) (xs ++ ys)) ≡ ((b || told_to_send (happens w x) xs) || told_to_send (now (happens w x) xs) ys)
    by true rest = refl
    by false rest = rest

pub quiet-then : (w : World) (k next : Known) (xs ys : List Event) → IsQuiet w k xs → IsQuiet (now w xs) next ys → IsQuiet w k (xs ++ ys)
quiet-then w k next xs ys first second = record {
  pull = λ mirror pull. subst (λ (v : World). IsPull v.drive mirror) (sym (now-append w xs ys)) (second.pull mirror (first.pull mirror pull));
  told = told-append w xs ys ∙ ap (λ b. b || told_to_send (now w xs) ys) first.told ∙ second.told;
}

pub quiet-told : (w : World) (k : Known) (xs ys : List Event) → IsQuiet w k xs → told_to_send w (xs ++ ys) ≡ told_to_send (now w xs) ys
quiet-told w k xs ys quiet = told-append w xs ys ∙ ap (λ b. b || told_to_send (now w xs) ys) quiet.told

pub or-nothing : (b : Bool) → (b || false) ≡ b
or-nothing true = refl
or-nothing false = refl

pub told-first : (w : World) (xs ys : List Event) → told_to_send (now w xs) ys ≡ false → told_to_send w (xs ++ ys) ≡ told_to_send w xs
told-first w xs ys quiet = told-append w xs ys ∙ ap (λ b. told_to_send w xs || b) quiet ∙ or-nothing (told_to_send w xs)

-- where an image is kept
pub quiet-kept : (w : World) (k : Known) (image : Image) → IsQuiet w k (Kept image ∷ [])
quiet-kept w k image = record { pull = λ mirror pull. pull; told = refl }

emptied-twice : (a b : Bool) (image : Image) → cond b empty_image (cond a empty_image image) ≡ cond (a || b) empty_image image
emptied-twice true true image = refl
emptied-twice true false image = refl
emptied-twice false b image = refl

pub empties-then : (w : World) (k : Known) (xs ys : List Event) → EmptiesImage w k xs → EmptiesImage (now w xs) (learned w k xs) ys → EmptiesImage w k (xs ++ ys)
empties-then w k xs ys first second = record {
  image = ap (λ (next : Known). next.image) (learned-append w k xs ys)
      ∙ second.image
      ∙ ap (λ (image : Image). cond (told_to_send (now w xs) ys) empty_image image) first.image
      ∙ emptied-twice (told_to_send w xs) (told_to_send (now w xs) ys) k.image
      ∙ ap (λ b. cond b empty_image k.image) (sym (told-append w xs ys));
}

pub empties-quiet : (w : World) (k : Known) (more : List Event) → (learned w k more).image ≡ k.image → told_to_send w more ≡ false → EmptiesImage w k more
empties-quiet w k more same told = record { image = same ∙ ap (λ b. cond b empty_image k.image) (sym told) }
