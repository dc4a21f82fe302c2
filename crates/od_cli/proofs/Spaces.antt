-- The first word of a text, and its first space.
use Rattle.std.proofs.Common.{◌≡◌, ℕ, zero, suc, ◌+◌, ◌<◌, ◌≤◌, Bool, true, false, List, [], ◌∷◌, length, get_or, take, drop, nat_eq, nat_lt, Some, None, sym, refl, ap, ◌∙◌, arith, add-one}
use Rattle.std.specs.List.{position, position_or_len}
use Rattle.std.proofs.lemmas.Bool.{cond-true, cond-false, ltb-false, false_from_ne_true}
use Rattle.std.proofs.lemmas.List.Quantifiers.{position-Some}
use Rattle.std.proofs.lemmas.List.Sums.{fails_before_first}
use Rattle.std.proofs.lemmas.Option.{none-some}
use Rattle.od_cli.specs.Script.{word_before, first_word}

abbrev is_space : ℕ → Bool
is_space b = nat_eq b 32

word_whole : (text : List ℕ) → ((k : ℕ) → k < length text → is_space (get_or text k 0) ≡ false) → first_word text ≡ None
word_whole [] plain = refl
word_whole (b ∷ text) plain = cond-false (nat_eq b 32) _ _ (plain 0 (omega arith)) ∙ ap (word_before b) (word_whole text (λ k h. plain (suc k) (omega arith)))

word_cut : (text : List ℕ) (at : ℕ) → at < length text → is_space (get_or text at 0) ≡ true → ((k : ℕ) → k < at → is_space (get_or text k 0) ≡ false) → first_word text ≡ Some (take at text, drop (suc at) text)
word_cut [] at inside found before = absurd (omega arith)
word_cut (b ∷ text) zero inside found before = cond-true (nat_eq b 32) _ _ found
word_cut (b ∷ text) (suc at) inside found before =
    cond-false (nat_eq b 32) _ _ (before 0 (omega arith)) ∙ ap (word_before b) (word_cut text at (omega arith) found (λ k h. before (suc k) (omega arith)))

-- a text is cut at its first space
pub word_at : (text word rest : List ℕ) (at : ℕ) → Some at ≡ position is_space text → word ≡ take at text → rest ≡ drop (at + 1) text → first_word text ≡ Some (word, rest)
word_at text word rest at is is_word is_rest =
    let facts = position-Some is_space text at 0 (sym is) in
    let last : drop (suc at) text ≡ rest = ap (λ i. drop i text) (sym (add-one at)) ∙ sym is_rest in
    word_cut text at facts.0 facts.1 facts.2 ∙ (ap (λ xs. Some (xs, drop (suc at) text)) (sym is_word) ∙ ap (λ xs. Some (word, xs)) last)

-- a text with no space has no word before one
pub no_word : (text : List ℕ) → None ≡ position is_space text → first_word text ≡ None
no_word text is =
    let first = position_or_len is_space text in
    let outside : nat_lt first (length text) ≡ false = false_from_ne_true (nat_lt first (length text)) (λ inside. none-some first (is ∙ cond-true (nat_lt first (length text)) (Some first) None inside)) in
    let far : length text ≤ first = ltb-false first (length text) outside in
    word_whole text (λ k h. fails_before_first is_space text k 0 (omega arith))
