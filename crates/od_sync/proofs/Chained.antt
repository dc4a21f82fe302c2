-- The requests of one part of a log after those of another, and parts in which no token comes from the drive.
use Rattle.std.proofs.Common.{◌≡◌, ℕ, true, false, List, [], ◌∷◌, ◌++◌, Option, Some, inl, inr, refl, ap, sym, subst, ◌∙◌, append_assoc}
use Rattle.std.proofs.lemmas.List.{append-nil}
use Rattle.gd_item.specs.Answers.{answer_of}
use Rattle.gd_item.specs.declared.reply.Page.{Page}
use Rattle.gd_item.specs.declared.reply.PageLink.{PageLink}
use Rattle.gd_item.specs.declared.reply.PageLink.TheVariants as link
use Rattle.gd_item.specs.declared.reply.Reply.{Reply}
use Rattle.gd_item.specs.declared.reply.Reply.TheVariants as reply
use Rattle.gd_item.specs.declared.request.Request.TheVariants.{Delta}
use Rattle.gd_item.specs.declared.step.Step.{Step}
use Rattle.gd_item.specs.declared.step.Step.TheVariants.{Ask, Event}
use Rattle.gd_item.specs.declared.step.Who.TheVariants.{Own, Other}
use Rattle.od_transfer.specs.Asking.{IsSuch, OwnAre, is_last_link}
use Rattle.od_transfer.specs.Fits.{IsTransfer}
use Rattle.od_sync.specs.Chains.{AsksWith, Chained, GivesToken, IsChained}
use Rattle.od_sync.specs.Deltas.{IsSpent}

-- one part after another
pub chain-then : (a b c : Option (List ℕ)) (drive m1 m2 : List Step) → IsChained a drive m1 b → IsChained b (drive ++ m1) m2 c → IsChained a drive (m1 ++ m2) c
chain-then a b c drive [] m2 first second =
    let here : IsChained b drive m2 c = subst (λ (log : List Step). IsChained b log m2 c) (append-nil drive) second in
    subst (λ (token : Option (List ℕ)). IsChained token drive m2 c) (sym first) here
chain-then a b c drive (step ∷ m1) m2 first second = (
  first.0,
  first.1,
  chain-then first.0 b c (drive ++ step ∷ []) m1 m2 first.2 (subst (λ (log : List Step). IsChained b log m2 c) (sym (append_assoc drive (step ∷ []) m1)) second),
)

-- to whichever token
pub chained-all : {MayBeLost : Type 0} (token last : Option (List ℕ)) (drive more : List Step) → IsChained token drive more last → Chained MayBeLost token drive more
chained-all token last drive more all = record { last = last; taken = more; chained = all; rest = inl refl }

pub chained-then : {MayBeLost : Type 0} (a b : Option (List ℕ)) (drive m1 m2 : List Step) → IsChained a drive m1 b → Chained MayBeLost b (drive ++ m1) m2 → Chained MayBeLost a drive (m1 ++ m2)
chained-then a b drive m1 m2 first second = record {
  last = second.last;
  taken = m1 ++ second.taken;
  chained = chain-then a b second.last drive m1 second.taken first second.chained;
  rest = elim second.rest [
    | inl is ↦ inl (ap (λ steps. m1 ++ steps) is)
    | inr is ↦ inr (is.0, ap (λ steps. m1 ++ steps) is.1 ∙ sym (append_assoc m1 second.taken (Ask Own (Delta second.last) true true ∷ [])))
  ];
}

-- an answer that may be lost for one cause may be so for another
pub chained-also : {P Q : Type 0} (token : Option (List ℕ)) (drive more : List Step) → (P → Q) → Chained P token drive more → Chained Q token drive more
chained-also token drive more so c = record {
  last = c.last;
  taken = c.taken;
  chained = c.chained;
  rest = elim c.rest [
    | inl is ↦ inl is
    | inr is ↦ inr (so is.0, is.1)
  ];
}

-- what no answer was heard to leaves the token
transfer-step : (token : Option (List ℕ)) (drive : List Step) (step : Step) → IsSuch IsTransfer step → AsksWith token drive step token
transfer-step token drive (Ask Own (Delta sent) served heard) such = absurd (cc such)
transfer-step token drive (Ask Own request served heard) such = refl
transfer-step token drive (Ask Other request served heard) such = refl
transfer-step token drive (Event event) such = refl

pub chain-transfers : (token : Option (List ℕ)) (drive more : List Step) → OwnAre IsTransfer more → IsChained token drive more token
chain-transfers token drive [] such = refl
chain-transfers token drive (step ∷ more) such = (token, transfer-step token drive step such.0, chain-transfers token (drive ++ step ∷ []) more such.1)

spent-step : (token : Option (List ℕ)) (drive : List Step) (step : Step) → IsSuch (IsSpent (Delta token)) step → AsksWith token drive step token
spent-step token drive (Ask Own (Delta sent) true true) spent = absurd (cc (spent.1 refl))
spent-step token drive (Ask Own (Delta sent) true false) spent = let same : sent ≡ token = cc spent.0 in (same, refl)
spent-step token drive (Ask Own (Delta sent) false heard) spent = let same : sent ≡ token = cc spent.0 in (same, refl)
spent-step token drive (Ask Own request served heard) spent = absurd (cc spent.0)
spent-step token drive (Ask Other request served heard) spent = refl
spent-step token drive (Event event) spent = refl

pub chain-spent : (token : Option (List ℕ)) (drive spent : List Step) → OwnAre (IsSpent (Delta token)) spent → IsChained token drive spent token
chain-spent token drive [] such = refl
chain-spent token drive (step ∷ more) such = (token, spent-step token drive step such.0, chain-spent token (drive ++ step ∷ []) more such.1)

-- such requests, and perhaps one that was answered in vain
pub chain-lost : {MayBeLost : Type 0} (token : Option (List ℕ)) (drive spent : List Step) → MayBeLost → OwnAre (IsSpent (Delta token)) spent → Chained MayBeLost token drive (spent ++ Ask Own (Delta token) true true ∷ [])
chain-lost token drive spent lost such = record { last = token; taken = spent; chained = chain-spent token drive spent such; rest = inr (lost, refl) }

-- an answer gives the next token
pub chain-answered : (token : Option (List ℕ)) (drive : List Step) (size : ℕ) (text : List ℕ) → GivesToken (answer_of drive size (Delta token)) text
    → IsChained token drive (Ask Own (Delta token) true true ∷ []) (Some text)
chain-answered token drive size text gives = (Some text, (refl, text, size, gives, refl), refl)

-- a last page that was heard, after sends without one
pub last-token : (l : PageLink) → is_last_link l ≡ true → (text : List ℕ) × (l ≡ link.Delta text)
last-token (link.Next token) last = absurd (cc last)
last-token (link.Delta token) last = (token, refl)

pub chain-page : (token : Option (List ℕ)) (drive spent : List Step) (size : ℕ) (page : Page) (text : List ℕ) → OwnAre (IsSpent (Delta token)) spent
    → reply.Page page ≡ answer_of (drive ++ spent) size (Delta token) → page.link ≡ link.Delta text → IsChained token drive (spent ++ Ask Own (Delta token) true true ∷ []) (Some text)
chain-page token drive spent size page text such is ends =
    chain-then token token (Some text) drive spent (Ask Own (Delta token) true true ∷ []) (chain-spent token drive spent such)
    (chain-answered token (drive ++ spent) size text (subst (λ (r : Reply). GivesToken r text) is ends))
