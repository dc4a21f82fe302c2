-- Two writes, one behind the other.
use Rattle.std.proofs.Common.{◌≡◌, ℕ, ◌+◌, min, List, ◌++◌, length, take, Option, Some, Ok, Err, sym, ap, ◌∙◌, append_assoc}
use Rattle.std.proofs.Math.Nat.{min-le_right}
use Rattle.std.proofs.Math.Seq.{take-append-add}
use Rattle.std.proofs.lemmas.List.{take-append-le, take_min}
use Rattle.gd_names.specs.Streams.{Writes}
use Rattle.gd_names.specs.declared.sink.SinkFault.{SinkFault}

pub first_failed : (o0 o1 : Option (List ℕ)) (xs ys : List ℕ) (fault : SinkFault) → Writes o0 o1 xs {T = Unit {0}} (Err fault) → Writes o0 o1 (xs ++ ys) {T = Unit {0}} (Err fault)
first_failed o0 o1 xs ys fault wrote = record {
  ok = tt;
  err = λ old at.
      let part = wrote.err old at in
      let few = min part.0 (length xs) in (
        few,
        part.1 ∙ ap (λ (l : List ℕ). Some (old ++ l)) (sym (take_min part.0 xs) ∙ sym (take-append-le few xs ys (min-le_right part.0 (length xs)))),
      );
}

pub second_failed : (o0 o1 o2 : Option (List ℕ)) (xs ys : List ℕ) (fault : SinkFault) → Writes o0 o1 xs {T = Unit {0}} (Ok tt) → Writes o1 o2 ys {T = Unit {0}} (Err fault) → Writes o0 o2 (xs ++ ys) {T = Unit {0}} (Err fault)
second_failed o0 o1 o2 xs ys fault one two = record {
  ok = tt;
  err = λ old at.
      let part = two.err (old ++ xs) (one.ok old at) in (
        length xs + part.0,
        part.1 ∙ ap (λ (l : List ℕ). Some l) (append_assoc old xs (take part.0 ys) ∙ ap (λ (l : List ℕ). old ++ l) (sym (take-append-add xs ys part.0))),
      );
}
