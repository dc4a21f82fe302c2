-- What is good stays so: one lemma for each kind of event, and one induction.
use Rattle.std.proofs.Common.{◌≡◌, ℕ, Bool, true, false, cond, List, [], ◌∷◌, ◌++◌, refl, sym, subst}
use Rattle.gd_names.proofs.Each.{each-append}
use Rattle.gd_item.specs.Records.{digest_record}
use Rattle.gd_item.specs.Steps.{accepted_by}
use Rattle.gd_item.specs.declared.request.Request.{Request}
use Rattle.gd_item.specs.declared.request.Request.TheVariants.{Delta}
use Rattle.gd_item.specs.declared.step.Step.{Step}
use Rattle.gd_item.specs.declared.step.Step.TheVariants as step
use Rattle.gd_item.specs.declared.step.Who.TheVariants.{Own, Other}
use Rattle.od_keeper.specs.Keeping.{last_image}
use Rattle.od_keeper.specs.Sound.{IsSound}
use Rattle.od_keeper.specs.declared.image.Agreed.TheVariants.{File}
use Rattle.od_keeper.specs.declared.image.Image.{Image}
use Rattle.od_keeper.proofs.Growing.{sound-stays}
use Rattle.od_synclist.specs.declared.rule.Rule.{Rule}
use Rattle.od_tree.specs.Collisions.{NoCollision}
use Rattle.od_tree.specs.Local.{after_op, local_of}
use Rattle.od_tree.specs.Loss.{no_loss}
use Rattle.od_tree.specs.Undisturbed.{NoUser}
use Rattle.od_tree.specs.declared.edit.UserEdit.{UserEdit}
use Rattle.od_tree.specs.declared.step.LocalStep.TheVariants.{User, Op}
use Rattle.od_tree.specs.declared.step.TreeOp.{TreeOp}
use Rattle.od_tree.specs.declared.step.TreeOp.TheVariants as op
use Rattle.od_run.specs.Acting.{LegalFrom, May, MayDo, MayKeep, MayRequest}
use Rattle.od_run.specs.Good.{AreSound, Good, IfPulled, IsFeedOf, IsHeldAs, IsPulledAt, LosesNothing}
use Rattle.od_run.specs.Knowing.{Feed, Known, begins, learn, learned}
use Rattle.od_run.specs.Moments.{is_own_delta, since_listed}
use Rattle.od_run.specs.Settling.{AreEqual, IsSettled}
use Rattle.od_run.specs.Worlds.{World, Event, Asked, Worked, Kept, happens, now}
use Rattle.od_run.proofs.Among.{of-each}
use Rattle.od_run.proofs.Accepting.{all-later, there-accepted}
use Rattle.od_run.proofs.Feeding.{Asks, feed-other, feed-own}
use Rattle.od_run.proofs.Holding.{held-called, held-edited}
use Rattle.od_run.proofs.Scanning.{scanned-called, scanned-edited, settled}
use Rattle.od_run.proofs.Losing.{loses-discard, loses-drive, loses-step}
use Rattle.od_run.proofs.Keeping.{kept-sound, row-so, last-sound, sound-token, sounds-later}

-- ---- the drive
may-ask : (k : Known) (request : Request) → MayRequest k request → Asks request k.feed.token
may-ask k (Delta token) may = may
may-ask k request may = tt

-- a step that is not for changes leaves what is known
drive-grows : (w : World) (k : Known) (size : ℕ) (other : Step) → is_own_delta other ≡ false → Good w k → Good (happens w (Asked size other)) k
drive-grows w k size other elsewhere good = record {
  sound = sounds-later w.drive (other ∷ []) w.images good.sound;
  image = sound-stays k.image w.drive (other ∷ []) good.image;
  feed = feed-other w.drive other k.feed elsewhere good.feed;
  brought = all-later w.drive (other ∷ []) k.there.brought good.brought;
  held_read = good.held_read;
  scanned = good.scanned;
}

-- a request of the client
asked : (w : World) (k : Known) (size : ℕ) (request : Request) (served heard : Bool) → Good w k → MayRequest k request
    → Good (happens w (Asked size (step.Ask Own request served heard))) (learn w k (Asked size (step.Ask Own request served heard)))
asked w k size request served heard good may = record {
  sound = sounds-later w.drive (step.Ask Own request served heard ∷ []) w.images good.sound;
  image = sound-stays k.image w.drive (step.Ask Own request served heard ∷ []) good.image;
  feed = feed-own w.drive size k.feed request served heard (may-ask k request may) good.feed;
  brought = there-accepted w.drive k request served heard good.brought;
  held_read = good.held_read;
  scanned = good.scanned;
}

-- ---- the keeper
-- the token of the feed is that of the image before the client asks for changes
feed-kept : (drive : List Step) (image : Image) (feed : Feed) (begun : Bool) → feed.begun ≡ begun → IsSound image drive → IsFeedOf drive feed
    → IsFeedOf drive (record feed { token = cond begun feed.token image.token })
feed-kept drive image feed true begun sound is = record { token = is.token; pulled = is.pulled; unasked = is.unasked }
feed-kept drive image feed false begun sound is = record {
  token = sound-token image.items drive image.token sound.items;
  pulled = subst (IfPulled (IsPulledAt drive image.token)) (sym (is.unasked begun)) tt;
  unasked = is.unasked;
}

kept : (w : World) (k : Known) (image : Image) → Good w k → MayKeep k image → Good (happens w (Kept image)) (learn w k (Kept image))
kept w k image good may =
    let sound : IsSound image w.drive = kept-sound w.drive k image good.image good.feed good.brought may in
    record {
      sound = each-append (λ (image : Image). IsSound image w.drive) w.images (image ∷ []) good.sound (sound, tt);
      image = sound;
      feed = feed-kept w.drive image k.feed k.feed.begun refl sound good.feed;
      brought = good.brought;
      held_read = good.held_read;
      scanned = good.scanned;
    }

-- ---- the folder
edited : (w : World) (k : Known) (edit : UserEdit) → Good w k → Good (happens w (Worked (User edit))) k
edited w k edit good = record {
  sound = good.sound;
  image = good.image;
  feed = good.feed;
  brought = good.brought;
  held_read = held-edited w.local edit k.here.held_read good.held_read;
  scanned = scanned-edited w.local edit k.here.scanned good.scanned;
}

called : (w : World) (k : Known) (call : TreeOp) → Good w k → Good (happens w (Worked (Op call))) (learn w k (Worked (Op call)))
called w k call good = record {
  sound = good.sound;
  image = good.image;
  feed = good.feed;
  brought = good.brought;
  held_read = held-called w.local k.here call good.held_read;
  scanned = scanned-called w.local (local_of w.local) (after_op (local_of w.local) call) k.here call good.scanned;
}

-- ---- each kind
pub good-after : (w : World) (k : Known) (event : Event) → Good w k → May k event → Good (happens w event) (learn w k event)
good-after w k (Asked size (step.Ask Own request served heard)) good may = asked w k size request served heard good may.2
good-after w k (Asked size (step.Ask Other request served heard)) good may = drive-grows w k size (step.Ask Other request served heard) refl good
good-after w k (Asked size (step.Event event)) good may = drive-grows w k size (step.Event event) refl good
good-after w k (Worked (User edit)) good may = edited w k edit good
good-after w k (Worked (Op call)) good may = called w k call good
good-after w k (Kept image) good may = kept w k image good may

-- and after all of them
pub good-run : (w : World) (k : Known) (events : List Event) → Good w k → LegalFrom w k events → Good (now w events) (learned w k events)
good-run w k [] good legal = good
good-run w k (event ∷ events) good legal = good-run (happens w event) (learn w k event) events (good-after w k event good legal.0) legal.1

-- a call begins with what is good
pub good-beginning : (w : World) → AreSound w.drive w.images → Good w (begins w)
good-beginning w sound =
    let image : IsSound (last_image w.images) w.drive = last-sound w.drive w.images sound in
    record {
      sound = sound;
      image = image;
      feed = record { token = sound-token (last_image w.images).items w.drive (last_image w.images).token image.items; pulled = tt; unasked = λ begun. refl };
      brought = tt;
      held_read = tt;
      scanned = tt;
    }

pub images-sound : (w : World) (events : List Event) → AreSound w.drive w.images → LegalFrom w (begins w) events → AreSound (now w events).drive (now w events).images
images-sound w events sound legal = (good-run w (begins w) events (good-beginning w sound) legal).sound

-- ---- no loss
called-loses : (w : World) (k : Known) (call : TreeOp) → Good w k → MayDo k call → LosesNothing w.local w.drive → LosesNothing (w.local ++ Op call ∷ []) w.drive
called-loses w k (op.Discard aside) good may loses =
    loses-discard w.local w.drive aside may.0 (of-each (IsHeldAs (local_of w.local)) k.here.held_read (aside, may.0) good.held_read may.1)
    (row-so w.drive k may.2 (File (digest_record may.0)) good.image may.3) loses
called-loses w k call good may loses = loses-step w.local w.drive (Op call) refl loses

loses-after : (w : World) (k : Known) (event : Event) → Good w k → May k event → LosesNothing w.local w.drive → LosesNothing (happens w event).local (happens w event).drive
loses-after w k (Asked size step) good may loses = loses-drive w.local w.drive (step ∷ []) loses
loses-after w k (Worked (User edit)) good may loses = loses-step w.local w.drive (User edit) refl loses
loses-after w k (Worked (Op call)) good may loses = called-loses w k call good may loses
loses-after w k (Kept image) good may loses = loses

loses-run : (w : World) (k : Known) (events : List Event) → Good w k → LegalFrom w k events → LosesNothing w.local w.drive → LosesNothing (now w events).local (now w events).drive
loses-run w k [] good legal loses = loses
loses-run w k (event ∷ events) good legal loses =
    loses-run (happens w event) (learn w k event) events (good-after w k event good legal.0) legal.1 (loses-after w k event good legal.0 loses)

pub nothing-lost : (w : World) (events : List Event) → AreSound w.drive w.images → LegalFrom w (begins w) events → no_loss w.local (accepted_by w.drive) ≡ true
    → NoCollision (now w events).local (accepted_by (now w events).drive) → no_loss (now w events).local (accepted_by (now w events).drive) ≡ true
nothing-lost w events sound legal none apart = loses-run w (begins w) events (good-beginning w sound) legal (λ before. none) apart

-- ---- settled
pub settled-equal : (w : World) (events : List Event) (rules : List Rule) → AreSound w.drive w.images → LegalFrom w (begins w) events → IsSettled rules (learned w (begins w) events)
    → NoUser (since_listed (now w events).local) → AreEqual rules (now w events)
settled-equal w events rules sound legal is alone =
    let good = good-run w (begins w) events (good-beginning w sound) legal in
    settled rules (now w events) (learned w (begins w) events) good.feed good.scanned is alone
