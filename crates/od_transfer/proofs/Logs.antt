-- How the logs of one request after another are those of them all.
use Rattle.std.proofs.Common.{◌≡◌, ◌⊎◌, inl, inr, ℕ, ◌+◌, ◌≤◌, Bool, true, false, cond, List, [], ◌∷◌, ◌++◌, Option, Some, refl, ap, subst, ◌∙◌, append_assoc, arith}
use Rattle.std.proofs.lemmas.List.Sums.{sum_by-append, sum_by-cons}
use Rattle.gd_names.proofs.Each.{each-append}
use Rattle.gd_item.specs.declared.reply.Reply.{Reply}
use Rattle.gd_item.specs.declared.request.Request.{Request}
use Rattle.gd_item.specs.declared.step.Step.{Step}
use Rattle.gd_item.specs.declared.step.Step.TheVariants.{Ask, Event}
use Rattle.gd_item.specs.declared.step.Who.TheVariants.{Own, Other}
use Rattle.od_transfer.specs.Asking.{IsSuch, OwnAre, Never, ByOthers, is_own_request, own_requests, Answers, Heard, StandsLast, Unheard, Abandoned, IsUnheard, Tries, Tried}

-- what is such is such in another way too
such-step : (A B : Request → Bool → Bool → Type 0) → ((request : Request) (served heard : Bool) → A request served heard → B request served heard) → (step : Step) → IsSuch A step → IsSuch B step
such-step A B also (Ask Own request served heard) such = also request served heard such
such-step A B also (Ask Other request served heard) such = tt
such-step A B also (Event event) such = tt

pub such-also : (A B : Request → Bool → Bool → Type 0) → ((request : Request) (served heard : Bool) → A request served heard → B request served heard) → (steps : List Step) → OwnAre A steps → OwnAre B steps
such-also A B also [] such = tt
such-also A B also (step ∷ steps) such = (such-step A B also step such.0, such-also A B also steps such.1)

pub such-others : (A : Request → Bool → Bool → Type 0) (steps : List Step) → ByOthers steps → OwnAre A steps
such-others A steps by = such-also Never A (λ request served heard none. absurd none) steps by

pub such-append : (A : Request → Bool → Bool → Type 0) (steps more : List Step) → OwnAre A steps → OwnAre A more → OwnAre A (steps ++ more)
such-append A steps more first second = each-append (IsSuch A) steps more first second

-- ---- how many requests of this client there are
own-append : (steps more : List Step) → own_requests (steps ++ more) ≡ own_requests steps + own_requests more
own-append steps more = sum_by-append (λ (step : Step). cond (is_own_request step) 1 0) steps more

abbrev one_if : Bool → ℕ
one_if b = cond b 1 0

own-cons : (step : Step) (steps : List Step) → own_requests (step ∷ steps) ≡ one_if (is_own_request step) + own_requests steps
own-cons step steps = sum_by-cons (λ (step : Step). cond (is_own_request step) 1 0) step steps

not-own : (step : Step) → IsSuch Never step → is_own_request step ≡ false
not-own (Ask Own request served heard) by = absurd by
not-own (Ask Other request served heard) by = refl
not-own (Event event) by = refl

others-none : (steps : List Step) → ByOthers steps → own_requests steps ≡ 0
others-none [] by = refl
others-none (step ∷ steps) by =
    let rest = others-none steps by.1 in
    let here : one_if (is_own_request step) ≡ 0 = ap one_if (not-own step by.0) in
    omega (arith, own-cons step steps, rest, here)

-- ---- sends that are not heard
pub tries-none : (request : Request) (steps : List Step) → ByOthers steps → Tries 0 request steps
tries-none request steps by = record { such = such-others (IsUnheard request) steps by; few = omega (arith, others-none steps by) }

tries-one : (request : Request) (others : List Step) (sent : Request) (served : Bool) → ByOthers others → IsUnheard request sent served false → Tries 1 request (others ++ Ask Own sent served false ∷ [])
tries-one request others sent served by unheard = record {
  such = such-append (IsUnheard request) others (Ask Own sent served false ∷ []) (such-others (IsUnheard request) others by) (unheard, tt);
  few = omega (arith, own-append others (Ask Own sent served false ∷ []), others-none others by, own-cons (Ask Own sent served false) []);
}

tries-then : (n : ℕ) (request : Request) (first second : List Step) → Tries 1 request first → Tries n request second → Tries (n + 1) request (first ++ second)
tries-then n request first second one more = record {
  such = such-append (IsUnheard request) first second one.such more.such;
  few = omega (arith, own-append first second, one.few, more.few);
}

pub tries-more : (most more : ℕ) (request : Request) (steps : List Step) → most ≤ more → Tries most request steps → Tries more request steps
tries-more most more request steps fewer tries = record { such = tries.such; few = omega (arith, tries.few, fewer) }

-- ---- the first time that a request is sent
pub heard-first : (request : Request) (reply : Reply) (old : List Step) (after : Option (List Step)) → Heard ByOthers request old after reply → Heard (Tries 0 request) request old after reply
heard-first request reply old after h =
    record { part = h.part; such = tries-none request h.part h.such; sent = h.sent; served = h.served; grown = h.grown; answers = h.answers }

unheard-in : (request : Request) (old others : List Step) (after : Option (List Step)) → ByOthers others
    → (after ≡ Some (old ++ others)) ⊎ StandsLast request false (old ++ others) after → Tried 1 request old after
unheard-in request old others after by (inl not_there) =
    record { part = others; tries = tries-more 0 1 request others (omega arith) (tries-none request others by); grown = not_there }
unheard-in request old others after by (inr there) = record {
  part = others ++ Ask Own there.sent there.served false ∷ [];
  tries = tries-one request others there.sent there.served by (there.sent_as, refl);
  grown = there.grown ∙ ap (λ log. Some log) (append_assoc old others (Ask Own there.sent there.served false ∷ []));
}

pub unheard-first : (request : Request) (old : List Step) (after : Option (List Step)) → Unheard request old after → Tried 1 request old after
unheard-first request old after u = unheard-in request old u.others after u.by_others u.grown

pub abandoned-first : (request : Request) (old : List Step) (after : Option (List Step)) → Abandoned ByOthers request old after → Abandoned (Tries 0 request) request old after
abandoned-first request old after a = record { part = a.part; such = tries-none request a.part a.such; grown = a.grown }

-- ---- one send after another that was not heard
pub heard-then : (n : ℕ) (request : Request) (reply : Reply) (old : List Step) (middle after : Option (List Step))
    → Tried 1 request old middle → ((now : List Step) → middle ≡ Some now → Heard (Tries n request) request now after reply) → Heard (Tries (n + 1) request) request old after reply
heard-then n request reply old middle after g later =
    let next = later (old ++ g.part) g.grown in
    record {
      part = g.part ++ next.part;
      such = tries-then n request g.part next.part g.tries next.such;
      sent = next.sent;
      served = next.served;
      grown = next.grown ∙ ap (λ log. Some (log ++ Ask Own next.sent next.served true ∷ [])) (append_assoc old g.part next.part);
      answers = subst (λ (log : List Step). Answers request next.sent next.served log reply) (append_assoc old g.part next.part) next.answers;
    }

pub tried-then : (n : ℕ) (request : Request) (old : List Step) (middle after : Option (List Step))
    → Tried 1 request old middle → ((now : List Step) → middle ≡ Some now → Tried n request now after) → Tried (n + 1) request old after
tried-then n request old middle after g later =
    let next = later (old ++ g.part) g.grown in
    record {
      part = g.part ++ next.part;
      tries = tries-then n request g.part next.part g.tries next.tries;
      grown = next.grown ∙ ap (λ log. Some log) (append_assoc old g.part next.part);
    }

last-then : (request : Request) (old first second : List Step) (after : Option (List Step))
    → (after ≡ Some ((old ++ first) ++ second)) ⊎ ((heard : Bool) × StandsLast request heard ((old ++ first) ++ second) after)
    → (after ≡ Some (old ++ (first ++ second))) ⊎ ((heard : Bool) × StandsLast request heard (old ++ (first ++ second)) after)
last-then request old first second after (inl not_there) = inl (not_there ∙ ap (λ log. Some log) (append_assoc old first second))
last-then request old first second after (inr (heard, there)) =
    inr (heard, subst (λ (log : List Step). StandsLast request heard log after) (append_assoc old first second) there)

pub abandoned-then : (n : ℕ) (request : Request) (old : List Step) (middle after : Option (List Step))
    → Tried 1 request old middle → ((now : List Step) → middle ≡ Some now → Abandoned (Tries n request) request now after) → Abandoned (Tries (n + 1) request) request old after
abandoned-then n request old middle after g later =
    let next = later (old ++ g.part) g.grown in
    record { part = g.part ++ next.part; such = tries-then n request g.part next.part g.tries next.such; grown = last-then request old g.part next.part after next.grown }
