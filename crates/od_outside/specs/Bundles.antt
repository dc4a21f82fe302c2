-- Three objects go on together.
pub record AllGo (Remote Tree Keeper : Type 0) : Type 0 where
  pub remote : Remote
  pub tree : Tree
  pub keeper : Keeper
