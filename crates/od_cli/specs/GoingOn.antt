-- How the world of a replay goes on by this client's requests: each that has a reply is served and heard, and one that has
-- none is no step.
use Rattle.std.proofs.Common.{◌≡◌, ◌≤◌, true, List, [], ◌++◌, sym, ap, ◌∙◌, append_assoc, arith}
use Rattle.std.proofs.lemmas.List.{append-nil}
use Rattle.gd_item.specs.declared.step.Step.{Step}
use Rattle.gd_names.proofs.Each.{each-append}
use Rattle.od_transfer.specs.Alone.{AreOwnHeard, is_own_heard}
use Rattle.od_cli.specs.Worlds.{WorldValue}

pub record GoesOn (before after : WorldValue) : Type 0 where
  pub more : List Step
  pub own : AreOwnHeard more
  pub grown : after.log ≡ before.log ++ more
  pub faults : before.faults ≤ after.faults
  pub answers : before.answers ≤ after.answers

pub world_stays : (x : WorldValue) → GoesOn x x
world_stays x = record { more = []; own = tt; grown = sym (append-nil x.log); faults = omega arith; answers = omega arith }

pub world_further : (x y z : WorldValue) → GoesOn x y → GoesOn y z → GoesOn x z
world_further x y z first second = record {
  more = first.more ++ second.more;
  own = each-append (λ (step : Step). is_own_heard step ≡ true) first.more second.more first.own second.own;
  grown = second.grown ∙ ap (λ (log : List Step). log ++ second.more) first.grown ∙ append_assoc x.log first.more second.more;
  faults = omega (arith, first.faults, second.faults);
  answers = omega (arith, first.answers, second.answers);
}

pub world_later : (x y : WorldValue) → GoesOn x y → (x.faults ≤ y.faults) × (x.answers ≤ y.answers)
world_later x y goes = (goes.faults, goes.answers)
