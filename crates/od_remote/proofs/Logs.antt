-- The logs of one request after another.
use Rattle.std.proofs.Common.{◌≡◌, ℕ, ◌+◌, ◌≤◌, Bool, true, false, cond, List, [], ◌∷◌, ◌++◌, Option, Some, None, refl, ap, ◌∙◌, append_assoc, arith}
use Rattle.std.proofs.lemmas.List.Sums.{sum_by-append, sum_by-cons}
use Rattle.std.specs.List.{count_by}
use Rattle.gd_names.proofs.Each.{each-append, each-so}
use Rattle.gd_item.specs.declared.request.Request.{Request}
use Rattle.gd_item.specs.declared.step.Step.{Step}
use Rattle.gd_item.specs.declared.step.Step.TheVariants.{Ask, Event}
use Rattle.gd_item.specs.declared.step.Who.TheVariants.{Own, Other}
use Rattle.od_remote.specs.Asking.{ByOthers, IsSuch, Never, OwnAre, Sent, is_own_request, own_requests, sent_steps}

-- ---- counts
pub count-append : {X : Type 0} (test : X → Bool) (xs ys : List X) → count_by test (xs ++ ys) ≡ count_by test xs + count_by test ys
count-append test xs ys = sum_by-append (λ x. cond (test x) 1 0) xs ys

pub count-cons : {X : Type 0} (test : X → Bool) (x : X) (xs : List X) → count_by test (x ∷ xs) ≡ cond (test x) 1 0 + count_by test xs
count-cons test x xs = sum_by-cons (λ y. cond (test y) 1 0) x xs

-- ---- requests that are such
such-step : (A B : Request → Bool → Bool → Type 0) → ((request : Request) (served heard : Bool) → A request served heard → B request served heard) → (step : Step) → IsSuch A step → IsSuch B step
such-step A B also (Ask Own request served heard) such = also request served heard such
such-step A B also (Ask Other request served heard) such = tt
such-step A B also (Event event) such = tt

pub such-also : (A B : Request → Bool → Bool → Type 0) → ((request : Request) (served heard : Bool) → A request served heard → B request served heard) → (steps : List Step) → OwnAre A steps → OwnAre B steps
such-also A B also steps such = each-so (IsSuch A) (IsSuch B) (such-step A B also) steps such

pub such-others : (A : Request → Bool → Bool → Type 0) (steps : List Step) → ByOthers steps → OwnAre A steps
such-others A steps by = such-also Never A (λ request served heard none. absurd none) steps by

pub such-append : (A : Request → Bool → Bool → Type 0) (steps more : List Step) → OwnAre A steps → OwnAre A more → OwnAre A (steps ++ more)
such-append A steps more first second = each-append (IsSuch A) steps more first second

-- ---- how many requests of this client there are
not-own : (step : Step) → IsSuch Never step → is_own_request step ≡ false
not-own (Ask Own request served heard) by = absurd by
not-own (Ask Other request served heard) by = refl
not-own (Event event) by = refl

abbrev one_if : Bool → ℕ
one_if own = cond own 1 0

pub others-none : (steps : List Step) → ByOthers steps → own_requests steps ≡ 0
others-none [] by = refl
others-none (step ∷ steps) by =
    let rest = others-none steps by.1 in
    let here : one_if (is_own_request step) ≡ 0 = ap one_if (not-own step by.0) in
    omega (arith, count-cons is_own_request step steps, rest, here)

one-sent : (own : Option Sent) → own_requests (sent_steps own) ≤ 1
one-sent None = omega arith
one-sent (Some sent) = omega (arith, count-cons is_own_request (Ask Own sent.request sent.served sent.heard) [])

-- ---- one more request after some
pub few-others : (n : ℕ) (part others : List Step) → own_requests part ≤ n → ByOthers others → own_requests (part ++ others) ≤ n
few-others n part others few by = omega (arith, few, count-append is_own_request part others, others-none others by)

pub few-more : (n : ℕ) (part others : List Step) (own : Option Sent) → own_requests part ≤ n → ByOthers others → own_requests (part ++ (others ++ sent_steps own)) ≤ n + 1
few-more n part others own few by =
    omega (arith, few, count-append is_own_request part (others ++ sent_steps own), count-append is_own_request others (sent_steps own), others-none others by, one-sent own)

pub such-more : (A : Request → Bool → Bool → Type 0) (part others : List Step) (own : Option Sent) → OwnAre A part → ByOthers others → OwnAre A (sent_steps own) → OwnAre A (part ++ (others ++ sent_steps own))
such-more A part others own such by last = such-append A part (others ++ sent_steps own) such (such-append A others (sent_steps own) (such-others A others by) last)

pub grown-more : (old part others last : List Step) {after : Option (List Step)} → after ≡ Some (((old ++ part) ++ others) ++ last) → after ≡ Some (old ++ (part ++ (others ++ last)))
grown-more old part others last grown = grown ∙ ap (λ log. Some log) (append_assoc (old ++ part) others last ∙ append_assoc old part (others ++ last))
