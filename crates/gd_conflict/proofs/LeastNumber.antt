-- The first number that is not marked is the least that makes a name free.
use Rattle.std.proofs.Common.{◌≡◌, ℕ, ◌+◌, ◌<◌, ◌≤◌, Bool, true, false, List, [], ◌∷◌, length, slice_index_or, sym, ap, ◌∙◌, ⊎_elim, subst, arith}
use Rattle.std.proofs.lemmas.Bool.{cond-true, cond-false, cases_eq}
use Rattle.gd_names.specs.Numbered.{numbered, IsLeastFree}
use Rattle.gd_names.specs.Settling.{is_taken, least_number}
use Rattle.gd_names.specs.declared.conflict.Sibling.{Sibling}

module _ (siblings : List Sibling) (name : List ℕ) (folder : Bool) where
  -- whether the number is taken
  abbrev taken : ℕ → Bool
  taken n = is_taken siblings (numbered name folder n)

  least_is : (fuel : List Sibling) (from m : ℕ) → from ≤ m → m ≤ from + length fuel → ((n : ℕ) → from ≤ n → n < m → taken n ≡ true) → (m < from + length fuel → taken m ≡ false) → m ≡ least_number fuel siblings name folder from
  least_is [] from m low high before free = omega arith
  least_is (sibling ∷ fuel) from m low high before free =
      ⊎_elim
      (λ same. same ∙ sym (cond-false (taken from) (least_number fuel siblings name folder (from + 1)) from (subst (λ (n : ℕ). taken n ≡ false) same (free (omega arith)))))
      (λ other.
      let later : from < m = omega arith in
      least_is fuel (from + 1) m (omega arith) (omega arith) (λ n above below. before n (omega arith) below) (λ inside. free (omega arith))
      ∙ sym (cond-true (taken from) (least_number fuel siblings name folder (from + 1)) from (before from (omega arith) later)))
      (cases_eq m from)

  module _ (marks items : List Bool) (same : marks ≡ items) (long : length items ≡ length siblings + 1) (are : (n : ℕ) → 1 ≤ n → n ≤ length siblings → slice_index_or items n false ≡ taken n) where
    mark_is : (n : ℕ) → 1 ≤ n → n ≤ length siblings → slice_index_or marks n false ≡ taken n
    mark_is n some within = ap (λ (bs : List Bool). slice_index_or bs n false) same ∙ are n some within

    marks_long : length marks ≡ length siblings + 1
    marks_long = ap (λ (bs : List Bool). length bs) same ∙ long

    pub first_free : (number : ℕ) → IsLeastFree marks number → number ≡ least_number siblings siblings name folder 1
    first_free number is =
        let long_marks = marks_long in
        let inside = is.within in
        let some = is.from_one in
        least_is siblings 1 number some (omega arith)
        (λ n above below. sym (mark_is n above (omega arith)) ∙ is.least n above below)
        (λ within. sym (mark_is number some (omega arith)) ∙ is.free)

    pub none_free : ((n : ℕ) → 1 ≤ n → n < length marks → slice_index_or marks n false ≡ true) → length siblings + 1 ≡ least_number siblings siblings name folder 1
    none_free all =
        let long_marks = marks_long in
        least_is siblings 1 (length siblings + 1) (omega arith) (omega arith)
        (λ n above below. sym (mark_is n above (omega arith)) ∙ all n above (omega arith))
        (λ within. absurd (omega arith))
