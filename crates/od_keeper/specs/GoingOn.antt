-- A keeper in memory that went on may go on.
use Rattle.std.proofs.Common.{◌≡◌, ℕ, zero, suc, ◌+◌, ◌≤◌, List, [], ◌++◌, refl, ap, sym, ◌∙◌, zero-add, append_assoc, arith, Option}
use Rattle.std.proofs.lemmas.List.{append-nil}
use Rattle.od_keeper.specs.Called.{Counts, counts_of, called, called_times, GoesOn}
use Rattle.od_keeper.specs.declared.memory.MemoryKeeper.{MemoryKeeper}

called-again : (first second : ℕ) (failing : List ℕ) (stop : Option ℕ) (counts : Counts)
    → called_times second failing stop (called_times first failing stop counts) ≡ called_times (first + second) failing stop counts
called-again zero second failing stop counts = ap (λ times. called_times times failing stop counts) (sym (zero-add second))
called-again (suc first) second failing stop counts =
    let one_less : suc (first + second) ≡ suc first + second = omega arith in
    called-again first second failing stop (called failing stop counts) ∙ ap (λ times. called_times times failing stop counts) one_less

pub going_nowhere : (x : MemoryKeeper) → GoesOn x x
going_nowhere x = record { times = 0; counts = refl; later = omega arith; failing = refl; stop = refl; added = []; images = sym (append-nil x.images) }

pub going_further : (x y z : MemoryKeeper) → GoesOn x y → GoesOn y z → GoesOn x z
going_further x y z first second = record {
  times = first.times + second.times;
  counts = second.counts ∙ ap (λ failing. called_times second.times failing y.stop (counts_of y)) first.failing
      ∙ ap (λ stop. called_times second.times x.failing stop (counts_of y)) first.stop
      ∙ ap (λ counts. called_times second.times x.failing x.stop counts) first.counts
      ∙ called-again first.times second.times x.failing x.stop (counts_of x);
  later = omega (arith, first.later, second.later);
  failing = second.failing ∙ first.failing;
  stop = second.stop ∙ first.stop;
  added = first.added ++ second.added;
  images = second.images ∙ ap (λ images. images ++ second.added) first.images ∙ append_assoc x.images first.added second.added;
}

pub going_later : (x y : MemoryKeeper) → GoesOn x y → x.faults ≤ y.faults
going_later x y went = went.later
