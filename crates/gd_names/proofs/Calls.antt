-- One read from the source in memory, and calls of which none is listed.
use Rattle.std.proofs.Common.{◌≡◌, ℕ, zero, suc, ◌+◌, ◌≤◌, false, List, [], refl, ap, ap₂, sym, subst, ◌∙◌, arith}
use Rattle.std.proofs.lemmas.Bool.{cond-false}
use Rattle.gd_names.specs.Counts.{Counts, one_more, is_listed, counted, counted_after}
use Rattle.gd_names.specs.Memory.{read_counts_of, ReadsOn}
use Rattle.gd_names.specs.declared.source.MemorySource.{MemorySource}

abbrev counts : ℕ → ℕ → Counts
counts calls faults = record { calls = calls; faults = faults }

-- a call that is not listed
pub counts-passed : (failing : List ℕ) (before : Counts) (call : ℕ) → call ≡ one_more before.calls → is_listed failing call ≡ false → counts call before.faults ≡ counted failing before
counts-passed failing before call is_call other =
    let here : is_listed failing (one_more before.calls) ≡ false = subst (λ (c : ℕ). is_listed failing c ≡ false) is_call other in
    ap₂ counts is_call (sym (cond-false (is_listed failing (one_more before.calls)) (one_more before.faults) before.faults here))

-- one read
pub reads-one : (x y : MemorySource) → read_counts_of y ≡ counted x.failing (read_counts_of x) → y.failing ≡ x.failing → y.piece ≡ x.piece → y.bytes ≡ x.bytes → x.at ≤ y.at → y.at ≤ x.at + x.piece → ReadsOn x y
reads-one x y counts failing piece bytes onward taken = record {
  calls = 1;
  counts = counts;
  failing = failing;
  piece = piece;
  bytes = bytes;
  onward = onward;
  taken = omega arith;
}

-- no call fails where none is listed
none-failed : (n : ℕ) (before : Counts) → (counted_after n [] before).faults ≡ before.faults
none-failed zero before = refl
none-failed (suc n) before = none-failed n before

pub unlisted-faults : (n : ℕ) (failing : List ℕ) (before after : Counts) → failing ≡ [] → after ≡ counted_after n failing before → after.faults ≡ before.faults
unlisted-faults n failing before after none is =
    ap (λ (c : Counts). c.faults) is ∙ ap (λ (xs : List ℕ). (counted_after n xs before).faults) none ∙ none-failed n before
