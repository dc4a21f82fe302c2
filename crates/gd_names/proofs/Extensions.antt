-- Where the extension of a file begins.
use Rattle.std.proofs.Common.{◌≡◌, ◌≢◌, ℕ, zero, suc, ◌<◌, ◌≤◌, List, [], ◌∷◌, length, get_or, drop, nat_eq, Some, None, unwrap_or, sym, refl, ap, ◌∙◌, arith}
use Rattle.std.proofs.Math.Seq.{drop-length}
use Rattle.std.proofs.lemmas.Bool.{cond-true, cond-false, ne_eqb, eq-eqb}
use Rattle.gd_names.specs.Numbered.{dot_before, from_last_dot, file_extension}

no_dot : (text : List ℕ) → ((k : ℕ) → k < length text → get_or text k 0 ≢ 46) → from_last_dot text ≡ None
no_dot [] none = refl
no_dot (b ∷ text) none =
    ap (dot_before b text) (no_dot text (λ k h. none (suc k) (omega arith))) ∙ cond-false (nat_eq b 46) (Some (b ∷ text)) None (ne_eqb b 46 (none 0 (omega arith)))

last_dot : (text : List ℕ) (i : ℕ) → i < length text → get_or text i 0 ≡ 46 → ((k : ℕ) → i < k → k < length text → get_or text k 0 ≢ 46) → from_last_dot text ≡ Some (drop i text)
last_dot [] i inside found after = absurd (omega arith)
last_dot (b ∷ text) zero inside found after =
    ap (dot_before b text) (no_dot text (λ k h. after (suc k) (omega arith) (omega arith))) ∙ cond-true (nat_eq b 46) (Some (b ∷ text)) None (eq-eqb b 46 found)
last_dot (b ∷ text) (suc i) inside found after =
    ap (dot_before b text) (last_dot text i (omega arith) found (λ k above h. after (suc k) (omega arith) (omega arith)))

-- the extension of a file whose last dot is here
pub extension_at_dot : (name : List ℕ) (at : ℕ) → 1 ≤ at → at < length name → get_or name at 0 ≡ 46 → ((k : ℕ) → at < k → k < length name → get_or name k 0 ≢ 46) → drop at name ≡ file_extension name
extension_at_dot [] at some inside found after = absurd (omega arith)
extension_at_dot (b ∷ name) zero some inside found after = absurd (omega arith)
extension_at_dot (b ∷ name) (suc at) some inside found after =
    sym (ap (λ o. unwrap_or o []) (last_dot name at (omega arith) found (λ k above h. after (suc k) (omega arith) (omega arith))))

-- that of a file with no dot
pub extension_of_none : (name : List ℕ) → ((k : ℕ) → 1 ≤ k → k < length name → get_or name k 0 ≢ 46) → drop (length name) name ≡ file_extension name
extension_of_none [] none = refl
extension_of_none (b ∷ name) none =
    drop-length name ∙ sym (ap (λ o. unwrap_or o []) (no_dot name (λ k h. none (suc k) (omega arith) (omega arith))))
