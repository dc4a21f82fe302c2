-- What a walk along parts and items leaves.
use Rattle.std.specs.Prelude.{◌≡◌, ℕ, Bool, true, false, List, [], ◌∷◌, drop}
use Rattle.od_synclist.specs.Search.{reaches}

-- the walk went on by parts that are no runs, and of whatever items these parts reach an end, after as many items
-- the rest of the parts does
pub record Walks {P N : Type 0} (is_run : P → Bool) (takes : P → N → Bool) (parts : List P) (items : List N) (part : List P) (left : List N) : Type 0 where
  pub steps : ℕ
  pub parts_left : part ≡ drop steps parts
  pub items_left : left ≡ drop steps items
  pub same : (serves : ℕ → Bool) → reaches is_run takes serves parts items ≡ reaches is_run takes serves part left
  pub later : (serves : ℕ → Bool) (others : List N) → reaches is_run takes serves parts others ≡ true → reaches is_run takes serves part (drop steps others) ≡ true

-- it stopped where no part is left, at a run, or where the part does not take the item
abbrev pub IsStuck : {P N : Type 0} → (P → Bool) → (P → N → Bool) → List P → List N → Type 0
IsStuck is_run takes [] left = Unit {0}
IsStuck is_run takes (part ∷ parts) left = is_run part ≡ false → (serves : ℕ → Bool) → reaches is_run takes serves (part ∷ parts) left ≡ false

pub record Walked {P N : Type 0} (is_run : P → Bool) (takes : P → N → Bool) (parts : List P) (items : List N) (part : List P) (left : List N) : Type 0 where
  pub walks : Walks is_run takes parts items part left
  pub stuck : IsStuck is_run takes part left
