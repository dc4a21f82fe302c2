-- What a keeper over a database tells: how often it has failed.
use Rattle.std.proofs.Common.{ℕ, ◌≤◌, arith}
use Rattle.od_database.specs.declared.keeper.SqlKeeper.{SqlKeeper}

abbrev pub faults_of : SqlKeeper → ℕ
faults_of keeper = keeper.faults

-- it goes on by calls, and its count of faults never falls
pub record GoesOn (before after : SqlKeeper) : Type 0 where
  pub later : before.faults ≤ after.faults

pub going_nowhere : (x : SqlKeeper) → GoesOn x x
going_nowhere x = record { later = omega arith }

pub going_further : (x y z : SqlKeeper) → GoesOn x y → GoesOn y z → GoesOn x z
going_further x y z first second = record { later = omega (arith, first.later, second.later) }

pub going_later : (x y : SqlKeeper) → GoesOn x y → x.faults ≤ y.faults
going_later x y went = went.later
