-- How a text is cut into segments, and the names that they stand for.
use Rattle.std.proofs.Common.{◌≡◌, ◌≢◌, ℕ, suc, zero, ◌-◌, ◌<◌, ◌≤◌, List, [], ◌∷◌, ◌++◌, length, get_or, take, drop, nat_eq, Option, Some, None, sym, ap, ◌∙◌, arith, add-one}
use Rattle.std.proofs.lemmas.Bool.{cond-true, cond-false, ne_eqb, eq-eqb}
use Rattle.std.proofs.lemmas.List.{append-nil, append_assoc, length-drop, take_all, take_rest, drop-drop}
use Rattle.gd_names.specs.Paths.{parts_from}

-- the names that were read, before those of the rest
abbrev pub after_names : List (List ℕ) → Option (List (List ℕ)) → Option (List (List ℕ))
after_names names None = None
after_names names (Some path) = Some (names ++ path)

-- a text with no `/` is one part
pub parts_whole : (current text : List ℕ) → ((k : ℕ) → k < length text → get_or text k 0 ≢ 47) → parts_from current text ≡ (current ++ text) ∷ []
parts_whole current [] none = ap (λ xs. xs ∷ []) (sym (append-nil current))
parts_whole current (b ∷ text) none =
    cond-false (nat_eq b 47) _ _ (ne_eqb b 47 (none 0 (omega arith)))
    ∙ (parts_whole (current ++ b ∷ []) text (λ k h. none (suc k) (omega arith)) ∙ ap (λ xs. xs ∷ []) (append_assoc current (b ∷ []) text))

-- a text is cut at its first `/`
pub parts_cut : (current text : List ℕ) (n : ℕ) → n < length text → ((k : ℕ) → k < n → get_or text k 0 ≢ 47) → get_or text n 0 ≡ 47
    → parts_from current text ≡ (current ++ take n text) ∷ parts_from [] (drop (suc n) text)
parts_cut current [] n inside before found = absurd (omega arith)
parts_cut current (b ∷ text) zero inside before found =
    cond-true (nat_eq b 47) _ _ (eq-eqb b 47 found) ∙ ap (λ xs. xs ∷ parts_from [] text) (sym (append-nil current))
parts_cut current (b ∷ text) (suc n) inside before found =
    cond-false (nat_eq b 47) _ _ (ne_eqb b 47 (before 0 (omega arith)))
    ∙ (parts_cut (current ++ b ∷ []) text n (omega arith) (λ k h. before (suc k) (omega arith)) found
    ∙ ap (λ xs. xs ∷ parts_from [] (drop (suc n) text)) (append_assoc current (b ∷ []) (take n text)))

-- where nothing follows the part before the first `/`, it is the only part
pub only_part : (text part others : List ℕ) (n : ℕ) → n ≤ length text → ((k : ℕ) → k < n → get_or text k 0 ≢ 47) → part ≡ take n text → others ≡ drop n text → length others < 1
    → parts_from [] text ≡ part ∷ []
only_part text part others n within before is_part is_others none =
    let same : length others ≡ length text - n = ap (λ (xs : List ℕ). length xs) is_others ∙ length-drop n text in
    let whole : part ≡ text = is_part ∙ take_all n text (omega arith) in
    parts_whole [] text (λ k h. before k (omega arith)) ∙ ap (λ xs. xs ∷ []) (sym whole)

-- else it is the first one
pub first_part : (text part others : List ℕ) (n : ℕ) → n ≤ length text → ((k : ℕ) → k < n → get_or text k 0 ≢ 47) → (n < length text → get_or text n 0 ≡ 47) → part ≡ take n text → others ≡ drop n text
    → 1 ≤ length others → parts_from [] text ≡ part ∷ parts_from [] (take (length others - 1) (drop 1 others))
first_part text part others n within before found is_part is_others some =
    let same : length others ≡ length text - n = ap (λ (xs : List ℕ). length xs) is_others ∙ length-drop n text in
    let inside : n < length text = omega arith in
    let rest : take (length others - 1) (drop 1 others) ≡ drop (suc n) text =
    take_rest others 1 ∙ ap (λ (xs : List ℕ). drop 1 xs) is_others ∙ drop-drop 1 n text ∙ ap (λ i. drop i text) (add-one n)
    in
    parts_cut [] text n inside before (found inside) ∙ (ap (λ xs. xs ∷ parts_from [] (drop (suc n) text)) (sym is_part) ∙ ap (λ xs. part ∷ parts_from [] xs) (sym rest))
