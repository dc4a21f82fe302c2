-- Steps of a walk, and what it tells of the search after a run.
use Rattle.std.proofs.Common.{◌≡◌, ℕ, zero, suc, ◌+◌, ◌-◌, ◌<◌, ◌≤◌, Bool, true, false, ◌&&◌, List, [], ◌∷◌, length, get_or, take, drop, nat_eq, refl, sym, ap, subst, ◌∙◌, inl, inr, arith, take_all}
use Rattle.std.proofs.lemmas.Bool.{ne_eqb, cases_Bool, or_left, false≢true}
use Rattle.std.proofs.lemmas.Bool.Decides.{same_from_decides}
use Rattle.std.proofs.lemmas.List.{drop-drop, take_rest}
use Rattle.std.specs.List.{list_any}
use Rattle.od_synclist.specs.Rules.{begins}
use Rattle.od_synclist.specs.Search.{reaches, tails, takes_first}
use Rattle.od_synclist.specs.Walked.{Walks, Walked}

-- two tests that hold together are one
pub same_tests : (a b : Bool) → (a ≡ true → b ≡ true) → (b ≡ true → a ≡ true) → a ≡ b
same_tests a b to from = same_from_decides {P = b ≡ true} a b (to, from) ((λ h. h), (λ h. h))

drop_both : {X : Type 0} (k n : ℕ) (xs : List X) → drop k (drop n xs) ≡ drop n (drop k xs)
drop_both k n xs =
    let order : n + k ≡ k + n = omega arith in
    drop-drop k n xs ∙ ap (λ m. drop m xs) order ∙ sym (drop-drop n k xs)

-- a list that has a first element
pub first_and_others : {X : Type 0} (xs : List X) (x : X) → 1 ≤ length xs → x ≡ get_or xs 0 x → xs ≡ x ∷ take (length xs - 1) (drop 1 xs)
first_and_others [] x some is = absurd (omega arith)
first_and_others (y ∷ xs) x some is =
    let others : length (y ∷ xs) - 1 ≡ length xs = omega arith in
    rw (is, others, take_all (length xs) xs (omega arith))

-- a part that takes the first item leaves the others
takes_first_true : {P N : Type 0} (takes : P → N → Bool) (part : P) (test : List N → Bool) (items : List N) → takes_first takes part test items ≡ true → test (drop 1 items) ≡ true
takes_first_true takes part test [] taken = absurd (false≢true taken)
takes_first_true takes part test (item ∷ items) taken = grind arith

module _ {P N : Type 0} (is_run : P → Bool) (takes : P → N → Bool) where
  pub begin_walk : (parts : List P) (items : List N) → Walks is_run takes parts items parts items
  begin_walk parts items = record { steps = 0; parts_left = refl; items_left = refl; same = λ serves. refl; later = λ serves others reached. reached }

  one_more : (parts : List P) (items : List N) (first : P) (other_parts : List P) (item : N) (other_items : List N)
      → Walks is_run takes parts items (first ∷ other_parts) (item ∷ other_items) → is_run first ≡ false → takes first item ≡ true → Walks is_run takes parts items other_parts other_items
  one_more parts items first other_parts item other_items walks no_run takes_it = record {
    steps = walks.steps + 1;
    parts_left = ap (drop 1) walks.parts_left ∙ drop-drop 1 walks.steps parts;
    items_left = ap (drop 1) walks.items_left ∙ drop-drop 1 walks.steps items;
    same = λ serves. walks.same serves ∙ rw (no_run, takes_it) refl;
    later = λ serves others reached. rw (← drop-drop 1 walks.steps others) (takes_first_true takes first (reaches is_run takes serves other_parts) (drop walks.steps others)
        (rw no_run at (walks.later serves others reached)));
  }

  -- the walk goes on
  pub one_step : (parts part : List P) (items left : List N) (first : P) (item : N) → Walks is_run takes parts items part left
      → 1 ≤ length part → first ≡ get_or part 0 first → 1 ≤ length left → item ≡ get_or left 0 item → is_run first ≡ false → takes first item ≡ true
      → Walks is_run takes parts items (take (length part - 1) (drop 1 part)) (take (length left - 1) (drop 1 left))
  one_step parts part items left first item walks some_part first_is some_item item_is no_run takes_it =
      let other_parts = take (length part - 1) (drop 1 part) in
      let other_items = take (length left - 1) (drop 1 left) in
      let from_part : Walks is_run takes parts items (first ∷ other_parts) left =
      subst (λ l. Walks is_run takes parts items l left) (first_and_others part first some_part first_is) walks in
      let from_both : Walks is_run takes parts items (first ∷ other_parts) (item ∷ other_items) =
      subst (λ l. Walks is_run takes parts items (first ∷ other_parts) l) (first_and_others left item some_item item_is) from_part in
      one_more parts items first other_parts item other_items from_both no_run takes_it

  -- an end that is reached from what is left of the items is reached from them or from what is left of them
  tail_any : (test : List N → Bool) (k : ℕ) (items : List N) → test (drop k items) ≡ true → list_any test (tails items) ≡ true
  tail_any test zero [] found = or_left _ _ found
  tail_any test zero (item ∷ items) found = or_left _ _ found
  tail_any test (suc k) [] found = or_left _ _ found
  tail_any test (suc k) (item ∷ items) found = grind (arith, tail_any test k items found)

  any_tail : (test : List N → Bool) (items : List N) → list_any test (tails items) ≡ true → (k : ℕ) × (test (drop k items) ≡ true)
  any_tail test [] found = (0, grind arith)
  any_tail test (item ∷ items) found = elim (cases_Bool (test (item ∷ items))) [
    | inl here ↦ (0, here)
    | inr later ↦ let rest : list_any test (tails items) ≡ true = rw later at found in let tail = any_tail test items rest in (suc tail.0, tail.1)
  ]

  absorbs : (test : List N → Bool) (k : ℕ) (items : List N) → list_any test (tails (drop k items)) ≡ true → list_any test (tails items) ≡ true
  absorbs test k items found =
      let tail = any_tail test (drop k items) found in
      tail_any test (k + tail.0) items (subst (λ l. test l ≡ true) (drop-drop tail.0 k items) tail.1)

  -- the search goes on at a later run
  pub from_later_run : (serves : ℕ → Bool) (parts part : List P) (items left : List N) → Walked is_run takes parts items part left → begins is_run part ≡ true
      → list_any (reaches is_run takes serves parts) (tails items) ≡ list_any (reaches is_run takes serves (take (length part - 1) (drop 1 part))) (tails left)
  from_later_run serves parts [] items left walked at_run = absurd (false≢true at_run)
  from_later_run serves parts (run ∷ others) items left walked at_run =
      let walks = walked.walks in
      let later_run : (xs : List N) → reaches is_run takes serves (run ∷ others) xs ≡ list_any (reaches is_run takes serves others) (tails xs) = λ xs. rw at_run refl in
      let to : list_any (reaches is_run takes serves parts) (tails items) ≡ true → list_any (reaches is_run takes serves others) (tails left) ≡ true = λ found.
      let tail = any_tail (reaches is_run takes serves parts) items found in
      let reached = walks.later serves (drop tail.0 items) tail.1 in
      let place : drop walks.steps (drop tail.0 items) ≡ drop tail.0 left = drop_both walks.steps tail.0 items ∙ ap (drop tail.0) (sym walks.items_left) in
      absorbs (reaches is_run takes serves others) tail.0 left (subst (λ l. list_any (reaches is_run takes serves others) (tails l) ≡ true) place (sym (later_run (drop walks.steps (drop tail.0 items))) ∙ reached)) in
      let from : list_any (reaches is_run takes serves others) (tails left) ≡ true → list_any (reaches is_run takes serves parts) (tails items) ≡ true = λ found.
      tail_any (reaches is_run takes serves parts) 0 items (walks.same serves ∙ later_run left ∙ found) in
      rw (take_rest (run ∷ others) 1) (same_tests _ _ to from)

  -- an end was reached
  pub at_end : (serves : ℕ → Bool) (parts part : List P) (items left : List N) → Walked is_run takes parts items part left
      → (nat_eq (length part) 0 && serves (length left)) ≡ true → list_any (reaches is_run takes serves parts) (tails items) ≡ true
  at_end serves parts [] items left walked found = tail_any (reaches is_run takes serves parts) 0 items (walked.walks.same serves ∙ found)
  at_end serves parts (part ∷ others) items left walked found =
      let some : nat_eq (length (part ∷ others)) 0 ≡ false = ne_eqb _ _ (omega arith) in
      absurd (false≢true (rw some at found))

  -- no end is reached from these items
  pub failed : (serves : ℕ → Bool) (parts part : List P) (items left : List N) → Walked is_run takes parts items part left → begins is_run part ≡ false
      → (nat_eq (length part) 0 && serves (length left)) ≡ false → reaches is_run takes serves parts items ≡ false
  failed serves parts [] items left walked no_run no_end = walked.walks.same serves ∙ no_end
  failed serves parts (part ∷ others) items left walked no_run no_end = walked.walks.same serves ∙ walked.stuck no_run serves

  -- no item is left to go on from
  pub none_left : (test : List N → Bool) (items : List N) → length items < 1 → test items ≡ false → list_any test (tails items) ≡ false
  none_left test [] none failed = grind arith
  none_left test (item ∷ items) none failed = absurd (omega arith)
