-- Where a text is cut.
use Rattle.std.proofs.Common.{◌≡◌, ◌≢◌, ℕ, zero, suc, ◌-◌, ◌<◌, ◌≤◌, false, List, [], ◌∷◌, length, take, drop, get_or, nat_eq, Some, None, refl, sym, ap, ◌∙◌, ⊎_elim, arith, add-one}
use Rattle.std.proofs.lemmas.Bool.{cond-true, cond-false, ne_eqb, eq-eqb, cases_Bool}
use Rattle.std.proofs.lemmas.List.{length-drop, take_all, take_rest, drop-drop}
use Rattle.gd_json.specs.Numbers.{item_id_of}
use Rattle.gd_target.specs.Cuts.{before, cut, parts, parts_after}

found_at : (at : ℕ) (text : List ℕ) (n : ℕ) → n < length text → ((k : ℕ) → k < n → get_or text k 0 ≢ at) → get_or text n 0 ≡ at
    → cut at text ≡ (take n text, Some (drop (suc n) text))
unfolding cut
found_at at [] n within others found = absurd (omega arith)
found_at at (b ∷ text) zero within others found = cond-true (nat_eq b at) ([], Some text) (before b (cut at text)) (eq-eqb b at found)
found_at at (b ∷ text) (suc n) within others found =
    cond-false (nat_eq b at) ([], Some text) (before b (cut at text)) (ne_eqb b at (others 0 (omega arith)))
    ∙ ap (before b) (found_at at text n (omega arith) (λ k h. others (suc k) (omega arith)) found)

missing : (at : ℕ) (text : List ℕ) → ((k : ℕ) → k < length text → get_or text k 0 ≢ at) → cut at text ≡ (text, None)
unfolding cut
missing at [] others = refl
missing at (b ∷ text) others =
    cond-false (nat_eq b at) ([], Some text) (before b (cut at text)) (ne_eqb b at (others 0 (omega arith)))
    ∙ ap (before b) (missing at text (λ k h. others (suc k) (omega arith)))

-- where nothing follows the part before the first such byte, it is the whole
pub only_part : (at : ℕ) (text part others : List ℕ) (n : ℕ) → n ≤ length text → ((k : ℕ) → k < n → get_or text k 0 ≢ at) → part ≡ take n text → others ≡ drop n text → length others < 1
    → cut at text ≡ (part, None)
only_part at text part others n within before is_part is_others none =
    let same : length others ≡ length text - n = ap (λ (xs : List ℕ). length xs) is_others ∙ length-drop n text in
    let whole : part ≡ text = is_part ∙ take_all n text (omega arith) in
    missing at text (λ k h. before k (omega arith)) ∙ ap (λ (xs : List ℕ). (xs, None)) (sym whole)

-- else such a byte and the rest follow it
pub first_part : (at : ℕ) (text part others : List ℕ) (n : ℕ) → n ≤ length text → ((k : ℕ) → k < n → get_or text k 0 ≢ at) → (n < length text → get_or text n 0 ≡ at) → part ≡ take n text → others ≡ drop n text
    → 1 ≤ length others → cut at text ≡ (part, Some (take (length others - 1) (drop 1 others)))
first_part at text part others n within before found is_part is_others some =
    let same : length others ≡ length text - n = ap (λ (xs : List ℕ). length xs) is_others ∙ length-drop n text in
    let inside : n < length text = omega arith in
    let rest : take (length others - 1) (drop 1 others) ≡ drop (suc n) text =
    take_rest others 1 ∙ ap (λ (xs : List ℕ). drop 1 xs) is_others ∙ drop-drop 1 n text ∙ ap (λ i. drop i text) (add-one n)
    in
    found_at at text n inside before (found inside) ∙ rw (is_part, rest) refl

-- the first of the parts, and those of what follows it
pub parts_cut : (at : ℕ) (text : List ℕ) → parts at text ≡ (cut at text).0 ∷ parts_after at (cut at text).1
unfolding cut parts
parts_cut at [] = refl
parts_cut at (b ∷ text) =
    ⊎_elim (λ e. rw e refl) (λ e. rw e (rw (parts_cut at text) refl)) (cases_Bool (nat_eq b at))

-- fewer bytes than twenty are no id
pub short_id : (text : List ℕ) → length text < 20 → item_id_of (take 20 text) ≡ None
unfolding item_id_of
short_id text short =
    let whole : take 20 text ≡ text = take_all 20 text (omega arith) in
    let other : nat_eq (length text) 20 ≡ false = ne_eqb (length text) 20 (omega arith) in
    rw whole (rw other refl)
