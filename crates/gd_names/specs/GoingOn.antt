-- Laws of how the source and the sink in memory go on: no call is a way to go on, and one way after another is one.
use Rattle.std.proofs.Common.{◌≡◌, ℕ, zero, suc, ◌+◌, ◌*◌, ◌≤◌, List, [], ◌++◌, refl, ap, sym, ◌∙◌, append_assoc, arith}
use Rattle.std.proofs.lemmas.List.{append-nil}
use Rattle.gd_names.specs.Counts.{Counts, counted, counted_after}
use Rattle.gd_names.specs.Memory.{read_counts_of, write_counts_of, ReadsOn, WritesOn}
use Rattle.gd_names.specs.declared.source.MemorySource.{MemorySource}
use Rattle.gd_names.specs.declared.sink.MemorySink.{MemorySink}

-- so many calls after others are the calls of both
pub counted-more : (m n : ℕ) (failing : List ℕ) (before : Counts) → counted_after n failing (counted_after m failing before) ≡ counted_after (n + m) failing before
counted-more m zero failing before = let same : m ≡ 0 + m = omega arith in ap (λ calls. counted_after calls failing before) same
counted-more m (suc n) failing before =
    let same : suc (n + m) ≡ suc n + m = omega arith in
    ap (counted failing) (counted-more m n failing before) ∙ ap (λ calls. counted_after calls failing before) same

-- what two runs of calls did to the counts
pub counts-then : (m n : ℕ) (failing later : List ℕ) (before middle after : Counts) → middle ≡ counted_after m failing before → later ≡ failing → after ≡ counted_after n later middle
    → after ≡ counted_after (n + m) failing before
counts-then m n failing later before middle after first same second =
    second ∙ ap (λ (xs : List ℕ). counted_after n xs middle) same ∙ ap (counted_after n failing) first ∙ counted-more m n failing before

pub taken-then : (m n piece later before middle after : ℕ) → middle ≤ before + m * piece → later ≡ piece → after ≤ middle + n * later → after ≤ before + (n + m) * piece
taken-then m n piece later before middle after first same second =
    let pieces : n * later ≡ n * piece = ap (λ p. n * p) same in
    let both : (n + m) * piece ≡ n * piece + m * piece = grind arith in
    omega arith

pub reads_none : (x : MemorySource) → ReadsOn x x
reads_none x = record { calls = 0; counts = refl; failing = refl; piece = refl; bytes = refl; onward = omega arith; taken = omega arith }

pub reads_then : (x y z : MemorySource) → ReadsOn x y → ReadsOn y z → ReadsOn x z
reads_then x y z a b = record {
  calls = b.calls + a.calls;
  counts = counts-then a.calls b.calls x.failing y.failing (read_counts_of x) (read_counts_of y) (read_counts_of z) a.counts a.failing b.counts;
  failing = b.failing ∙ a.failing;
  piece = b.piece ∙ a.piece;
  bytes = b.bytes ∙ a.bytes;
  onward = omega (arith, a.onward, b.onward);
  taken = taken-then a.calls b.calls x.piece y.piece x.at y.at z.at a.taken a.piece b.taken;
}

pub writes_none : (x : MemorySink) → WritesOn x x
writes_none x = record { calls = 0; counts = refl; failing = refl; more = []; bytes = sym (append-nil x.bytes) }

pub writes_then : (x y z : MemorySink) → WritesOn x y → WritesOn y z → WritesOn x z
writes_then x y z a b = record {
  calls = b.calls + a.calls;
  counts = counts-then a.calls b.calls x.failing y.failing (write_counts_of x) (write_counts_of y) (write_counts_of z) a.counts a.failing b.counts;
  failing = b.failing ∙ a.failing;
  more = a.more ++ b.more;
  bytes = b.bytes ∙ ap (λ (xs : List ℕ). xs ++ b.more) a.bytes ∙ append_assoc x.bytes a.more b.more;
}
