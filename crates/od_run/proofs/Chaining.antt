-- The tokens of a legal history are a chain.
use Rattle.std.proofs.Common.{◌≡◌, ◌⊎◌, inl, inr, ◌≤◌, ℕ, Bool, true, false, cond, List, [], ◌∷◌, ◌++◌, Option, None, refl, ap, sym, subst, ◌∙◌, ⊎_elim}
use Rattle.std.specs.List.{Contains}
use Rattle.gd_item.specs.declared.request.Request.{Request}
use Rattle.gd_item.specs.declared.request.Request.TheVariants.{Delta}
use Rattle.gd_item.specs.declared.step.Step.{Step}
use Rattle.gd_item.specs.declared.step.Step.TheVariants as step
use Rattle.gd_item.specs.declared.step.Who.TheVariants.{Own, Other}
use Rattle.od_keeper.specs.declared.image.Image.{Image}
use Rattle.od_tree.specs.declared.step.LocalStep.TheVariants.{User, Op}
use Rattle.od_run.specs.Acting.{AsPulled, BeginsAnew, StaysPulled, IsPulledNow, LegalFrom, MayKeep, MayRequest}
use Rattle.od_run.specs.Chains.{AreChained, AsksWith, IsChained}
use Rattle.od_run.specs.Knowing.{Feed, Known, feed_after, known_of, learn, learned}
use Rattle.od_run.specs.Worlds.{World, Event, Asked, Worked, Kept, happens, kept_in, steps_in}
use Rattle.od_run.proofs.Among.{among-head, among-later}

-- ---- one request
asks : (drive : List Step) (size : ℕ) (k : Known) (request : Request) (served heard : Bool) → 1 ≤ size → size ≤ 200 → MayRequest k request
    → AsksWith k.feed.token drive (step.Ask Own request served heard) (feed_after drive size k.feed request served heard).token
asks drive size k (Delta token) true true low high may = (may, size, low, high, refl)
asks drive size k (Delta token) true false low high may = (may, refl)
asks drive size k (Delta token) false heard low high may = (may, refl)
asks drive size k request served heard low high may = refl

begun-by : (drive : List Step) (size : ℕ) (feed : Feed) (token : Option (List ℕ)) (served heard : Bool) → (feed_after drive size feed (Delta token) served heard).begun ≡ true
begun-by drive size feed token true true = refl
begun-by drive size feed token true false = refl
begun-by drive size feed token false heard = refl

begun-still : (drive : List Step) (size : ℕ) (feed : Feed) (request : Request) (served heard : Bool) → feed.begun ≡ true → (feed_after drive size feed request served heard).begun ≡ true
begun-still drive size feed (Delta token) served heard begun = begun-by drive size feed token served heard
begun-still drive size feed request served heard begun = begun

-- ---- once the client has asked for changes
chained-on : (w : World) (k : Known) (events : List Event) → k.feed.begun ≡ true → LegalFrom w k events
    → IsChained k.feed.token w.drive (steps_in events) (learned w k events).feed.token
chained-on w k [] begun legal = refl
chained-on w k (Asked size (step.Ask Own request served heard) ∷ events) begun legal = (
  (feed_after w.drive size k.feed request served heard).token,
  asks w.drive size k request served heard legal.0.0 legal.0.1 legal.0.2,
  chained-on (happens w (Asked size (step.Ask Own request served heard))) (learn w k (Asked size (step.Ask Own request served heard))) events
      (begun-still w.drive size k.feed request served heard begun) legal.1,
)
chained-on w k (Asked size (step.Ask Other request served heard) ∷ events) begun legal =
    (k.feed.token, refl, chained-on (happens w (Asked size (step.Ask Other request served heard))) k events begun legal.1)
chained-on w k (Asked size (step.Event event) ∷ events) begun legal =
    (k.feed.token, refl, chained-on (happens w (Asked size (step.Event event))) k events begun legal.1)
chained-on w k (Worked (User edit) ∷ events) begun legal = chained-on (happens w (Worked (User edit))) k events begun legal.1
chained-on w k (Worked (Op call) ∷ events) begun legal =
    chained-on (happens w (Worked (Op call))) (learn w k (Worked (Op call))) events begun legal.1
chained-on w k (Kept image ∷ events) begun legal =
    subst (λ token. IsChained token w.drive (steps_in events) (learned w k (Kept image ∷ events)).feed.token) (ap (λ b. cond b k.feed.token image.token) begun)
    (chained-on (happens w (Kept image)) (learn w k (Kept image)) events begun legal.1)

-- ---- from the beginning of a call
-- nothing was asked for yet
pub record IsUnasked (k : Known) : Type 0 where
  pub begun : k.feed.begun ≡ false
  pub token : k.feed.token ≡ k.image.token
  pub pulled : k.feed.pulled ≡ None

abbrev FirstIs : Option (List ℕ) → List Image → Option (List ℕ) → Type 0
FirstIs token kept first = (first ≡ token) ⊎ ((first ≡ None) × (image : Image) × Contains kept image × (image.token ≡ None))

-- the step of a request for other things, of another client, and of the drive
past : (token last : Option (List ℕ)) (drive more : List Step) (kept : List Image) (step : Step) → ((t : Option (List ℕ)) → AsksWith t drive step t)
    → AreChained token (drive ++ step ∷ []) more kept last → AreChained token drive (step ∷ more) kept last
past token last drive more kept step same rest =
    record { first = rest.first; first_is = rest.first_is; chained = (rest.first, same rest.first, rest.chained) }

kept-first : (k : Known) (image : Image) (kept : List Image) (first : Option (List ℕ)) → IsUnasked k → MayKeep k image → FirstIs image.token kept first → FirstIs k.feed.token (image ∷ kept) first
kept-first k image kept first unasked may (inr anew) = inr (anew.0, anew.1, among-later anew.1 image kept anew.2, anew.3)
kept-first k image kept first unasked may (inl same) =
    ⊎_elim (λ (anew : BeginsAnew k image). inr (same ∙ anew.token, image, among-head image kept, anew.token))
    (λ rest. ⊎_elim (λ (stays : StaysPulled k image). inl (same ∙ stays.token ∙ sym unasked.token))
    (λ (now : IsPulledNow k image). absurd (subst (AsPulled _) unasked.pulled now.items)) rest) may.items

chained-first : (w : World) (k : Known) (events : List Event) → IsUnasked k → LegalFrom w k events
    → AreChained k.feed.token w.drive (steps_in events) (kept_in events) (learned w k events).feed.token
chained-first w k [] unasked legal = record { first = k.feed.token; first_is = inl refl; chained = refl }
chained-first w k (Asked size (step.Ask Own (Delta token) served heard) ∷ events) unasked legal = record {
  first = k.feed.token;
  first_is = inl refl;
  chained = (
    (feed_after w.drive size k.feed (Delta token) served heard).token,
    asks w.drive size k (Delta token) served heard legal.0.0 legal.0.1 legal.0.2,
    chained-on (happens w (Asked size (step.Ask Own (Delta token) served heard))) (learn w k (Asked size (step.Ask Own (Delta token) served heard))) events
        (begun-by w.drive size k.feed token served heard) legal.1,
  );
}
chained-first w k (Asked size (step.Ask Own request served heard) ∷ events) unasked legal =
    past k.feed.token (learned w k (Asked size (step.Ask Own request served heard) ∷ events)).feed.token w.drive (steps_in events) (kept_in events) (step.Ask Own request served heard) (λ t. refl)
    (chained-first (happens w (Asked size (step.Ask Own request served heard))) (learn w k (Asked size (step.Ask Own request served heard))) events
    (record { begun = unasked.begun; token = unasked.token; pulled = unasked.pulled }) legal.1)
chained-first w k (Asked size (step.Ask Other request served heard) ∷ events) unasked legal =
    past k.feed.token (learned w k (Asked size (step.Ask Other request served heard) ∷ events)).feed.token w.drive (steps_in events) (kept_in events) (step.Ask Other request served heard) (λ t. refl)
    (chained-first (happens w (Asked size (step.Ask Other request served heard))) k events unasked legal.1)
chained-first w k (Asked size (step.Event event) ∷ events) unasked legal =
    past k.feed.token (learned w k (Asked size (step.Event event) ∷ events)).feed.token w.drive (steps_in events) (kept_in events) (step.Event event) (λ t. refl)
    (chained-first (happens w (Asked size (step.Event event))) k events unasked legal.1)
chained-first w k (Worked (User edit) ∷ events) unasked legal = chained-first (happens w (Worked (User edit))) k events unasked legal.1
chained-first w k (Worked (Op call) ∷ events) unasked legal =
    chained-first (happens w (Worked (Op call))) (learn w k (Worked (Op call))) events
    (record { begun = unasked.begun; token = unasked.token; pulled = unasked.pulled }) legal.1
chained-first w k (Kept image ∷ events) unasked legal =
    let next : Known = learn w k (Kept image) in
    let token : next.feed.token ≡ image.token = ap (λ b. cond b k.feed.token image.token) unasked.begun in
    let rest = chained-first (happens w (Kept image)) next events (record { begun = unasked.begun; token = token; pulled = unasked.pulled }) legal.1 in
    record {
      first = rest.first;
      first_is = kept-first k image (kept_in events) rest.first unasked legal.0 (subst (λ t. FirstIs t (kept_in events) rest.first) token rest.first_is);
      chained = rest.chained;
    }

pub chained : (w : World) (image : Image) (events : List Event) → LegalFrom w (known_of image) events
    → AreChained image.token w.drive (steps_in events) (kept_in events) (learned w (known_of image) events).feed.token
chained w image events legal = chained-first w (known_of image) events (record { begun = refl; token = refl; pulled = refl }) legal
