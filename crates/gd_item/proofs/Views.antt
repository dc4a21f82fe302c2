-- What a client has of a drive's items stays that while the drive's log grows. Of a drive that is not plain, it is the drive's
-- records but for the numbers of children.
use Rattle.std.proofs.Common.{◌≡◌, ℕ, ◌-◌, ◌≤◌, ◌⊎◌, inl, inr, Bool, true, false, List, [], ◌∷◌, ◌++◌, length, map, take, Option, Some, None, refl, ap, sym, subst, ◌∙◌, arith}
use Rattle.std.proofs.lemmas.List.{take_all, take-append-le}
use Rattle.std.specs.List.{AllZip}
use Rattle.gd_item.specs.Inventory.{Effect, Inventory, inventory}
use Rattle.gd_item.specs.Records.{records_of}
use Rattle.gd_item.specs.Steps.{state_of, held_by, number_of, held_at}
use Rattle.gd_item.specs.Tokens.{token_of_text}
use Rattle.gd_item.specs.Views.{uncounted, IsItemOf, AreItemsOf, IsPulled, TokenIs, ItemsAre}
use Rattle.gd_item.specs.declared.item.Item.{Item}
use Rattle.gd_item.specs.declared.step.Step.{Step}
use Rattle.gd_item.specs.declared.token.Token.{Token}
use Rattle.gd_item.proofs.Effects.{number-inventory}
use Rattle.gd_item.proofs.LogsGrow.{later-log, number-log, epoch-log, plain-log}

-- ---- of a drive that is not plain
one-uncounted : (item whole : Item) → IsItemOf false item whole → uncounted item ≡ uncounted whole
one-uncounted item whole (inl same) = same
one-uncounted item whole (inr lacks) = absurd (cc lacks.0)

pub as-uncounted : (items records : List Item) → AreItemsOf false items records → map uncounted items ≡ map uncounted records
as-uncounted [] [] are = refl
as-uncounted [] (whole ∷ records) are = absurd are
as-uncounted (item ∷ items) [] are = absurd are
as-uncounted (item ∷ items) (whole ∷ records) are = ap (λ first. first ∷ map uncounted items) (one-uncounted item whole are.0) ∙ ap (λ more. uncounted whole ∷ more) (as-uncounted items records are.1)

-- also of any other drive
pub from-uncounted : (plain : Bool) (items records : List Item) → map uncounted items ≡ map uncounted records → AreItemsOf plain items records
from-uncounted plain [] [] same = tt
from-uncounted plain [] (whole ∷ records) same = absurd (cc same)
from-uncounted plain (item ∷ items) [] same = absurd (cc same)
from-uncounted plain (item ∷ items) (whole ∷ records) same =
    let first : uncounted item ≡ uncounted whole = cc same in
    let more : map uncounted items ≡ map uncounted records = cc same in
    (inl first, from-uncounted plain items records more)

-- ---- while the log grows
one-later : (before after : Bool) → (before ≡ true → after ≡ true) → (item whole : Item) → IsItemOf before item whole → IsItemOf after item whole
one-later before after later item whole (inl same) = inl same
one-later before after later item whole (inr lacks) = inr (later lacks.0, lacks.1)

are-later : (before after : Bool) → (before ≡ true → after ≡ true) → (items records : List Item) → AreItemsOf before items records → AreItemsOf after items records
are-later before after later [] [] are = tt
are-later before after later [] (whole ∷ records) are = are
are-later before after later (item ∷ items) [] are = are
are-later before after later (item ∷ items) (whole ∷ records) are = (one-later before after later item whole are.0, are-later before after later items records are.1)

-- what a drive held at a number, it held then whatever came later
pub held_at-log : (log more : List Step) (number : ℕ) → number ≤ number_of log → held_at number (log ++ more) ≡ held_at number log
held_at-log log more number early =
    let later = (later-log log more).effects in
    let few : number - 1 ≤ length (state_of log).effects = omega (arith, early, number-inventory (state_of log).effects) in
    ap (λ (effects : List Effect). inventory (take (number - 1) effects)) later.1 ∙ ap inventory (take-append-le (number - 1) (state_of log).effects later.0 few)

pulled-later : (items : List Item) (token : Token) (log more : List Step) → IsPulled items token log → IsPulled items token (log ++ more)
pulled-later items token log more is = record {
  epoch = omega (arith, is.epoch, epoch-log log more);
  start = is.start;
  position = omega (arith, is.position, number-log log more);
  items_then =
      subst (λ (held : Inventory). AreItemsOf (state_of (log ++ more)).plain items (records_of held)) (sym (held_at-log log more token.position is.position))
      (are-later (state_of log).plain (state_of (log ++ more)).plain (plain-log log more) items (records_of (held_at token.position log)) is.items_then);
}

token-later : (items : List Item) (log more : List Step) (token : Option Token) → TokenIs items log token → TokenIs items (log ++ more) token
token-later items log more None is = is
token-later items log more (Some token) is = pulled-later items token log more is

pub items-later : (items : List Item) (token : Option (List ℕ)) (log more : List Step) → ItemsAre items log token → ItemsAre items (log ++ more) token
items-later items None log more are = are
items-later items (Some text) log more are = token-later items log more (token_of_text text) are

pub held_at-now : (log : List Step) → held_at (number_of log) log ≡ held_by log
held_at-now log = ap inventory (take_all (number_of log - 1) (state_of log).effects (omega (arith, number-inventory (state_of log).effects)))
