-- Counts that go on, or stand still.
use Rattle.std.proofs.Common.{◌≡◌, ℕ, zero, suc, ◌+◌, ◌-◌, ◌^◌, ◌<◌, List, [], Option, Some, refl, ap, ◌∙◌, arith}
use Rattle.gd_names.specs.Counts.{Counts, counted_after}
use Rattle.gd_names.specs.Streams.{Rose}
use Rattle.gd_server.specs.Counts.{risen, HandedOn}

-- ---- connections and tasks

-- So many were handed on, and as many as are left still have to be.
pub record Going (connections left : Option ℕ) (given_before given_now handed_before handed_now : ℕ) : Type 0 where
  pub so_far : ℕ
  pub on : HandedOn so_far given_before given_now handed_before handed_now
  pub left_over : (k : ℕ) → left ≡ Some k → connections ≡ Some (so_far + k)

risen_one : (n before : ℕ) → risen 1 (risen n before) ≡ risen (n + 1) before
risen_one n before = omega arith

pub going_one : (connections left after : Option ℕ) (g g1 g2 h h1 h2 : ℕ) → Going connections left g g1 h h1 → g2 ≡ risen 1 g1 → h2 ≡ risen 1 h1
    → ((k : ℕ) → after ≡ Some k → left ≡ Some (k + 1)) → Going connections after g g2 h h2
going_one connections left after g g1 g2 h h1 h2 going given handed less = record {
  so_far = going.so_far + 1;
  on = record {
    given = given ∙ (ap (risen 1) going.on.given ∙ risen_one going.so_far g);
    handed = handed ∙ (ap (risen 1) going.on.handed ∙ risen_one going.so_far h);
  };
  left_over = λ k is.
      let sum : going.so_far + (k + 1) ≡ (going.so_far + 1) + k = omega arith in
      going.left_over (k + 1) (less k is) ∙ ap (λ n. Some n) sum;
}

-- ---- streams in memory

-- where no call is to fail, none is counted
never_counted : (n : ℕ) (before : Counts) → (counted_after n [] before).faults ≡ before.faults
never_counted zero before = refl
never_counted (suc n) before = never_counted n before

pub never_rose : (n : ℕ) (failing : List ℕ) (before after : Counts) → after ≡ counted_after n failing before → failing ≡ [] → before.faults < 2 ^ 64 - 1 → ¬ (Rose before.faults after.faults)
never_rose n failing before after went none few rose =
    let same : after.faults ≡ before.faults = ap (λ c. c.faults) (went ∙ ap (λ (xs : List ℕ). counted_after n xs before) none) ∙ never_counted n before in
    omega arith
