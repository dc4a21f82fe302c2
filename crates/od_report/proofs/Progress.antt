-- A loop that changes the elements of a list one after another, and may stop.
use Rattle.std.proofs.Common.{◌≡◌, ℕ, ◌+◌, ◌<◌, List, [], ◌∷◌, ◌++◌, length, take, drop, set, get_or, sym, ◌∙◌, ap, arith, Result, Ok, Err, OnErr}
use Rattle.std.specs.List.{AllZip}
use Rattle.std.proofs.lemmas.List.{take_more, take_more_set, take-set, drop_more, drop-set, drop-set-lt, get_or-drop, length-set}
use Rattle.std.proofs.lemmas.List.Elements.{AllZip-push}
use Rattle.std.proofs.lemmas.Grind.{drop_more_same}
use Rattle.od_report.specs.Told.{Stopped}

-- the first elements were changed so, and the others are as they were
pub record Progress {A : Type 0} (R : A → A → Type 0) (at : ℕ) (before after : List A) : Type 0 where
  pub count : length after ≡ length before
  pub done : AllZip R (take at before) (take at after)
  pub rest : drop at after ≡ drop at before

AllZip-refl : {A : Type 0} (S : A → A → Type 0) → ((x : A) → S x x) → (xs : List A) → AllZip S xs xs
AllZip-refl S same [] = tt
AllZip-refl S same (x ∷ xs) = (same x, AllZip-refl S same xs)

same_at : {A : Type 0} (before now : List A) (i : ℕ) (d : A) → drop i now ≡ drop i before → get_or before i d ≡ get_or now i d
same_at before now i d same =
    let zero : i + 0 ≡ i = omega arith in
    ap (λ n. get_or before n d) (sym zero) ∙ sym (get_or-drop i before 0 d) ∙ ap (λ xs. get_or xs 0 d) (sym same) ∙ get_or-drop i now 0 d ∙ ap (λ n. get_or now n d) zero

pub one_done : {A : Type 0} (R : A → A → Type 0) (before now : List A) (i : ℕ) (d y : A) → i < length now → Progress R i before now → R (get_or now i d) y
    → Progress R (i + 1) before (set now i y)
one_done R before now i d y within made changed =
    let there : i < length before = omega (arith, within, made.count) in
    let first : take (i + 1) before ≡ take i before ++ get_or now i d ∷ [] =
    take_more before i d there ∙ ap (λ z. take i before ++ z ∷ []) (same_at before now i d made.rest) in
    let second : take (i + 1) (set now i y) ≡ take i now ++ y ∷ [] = take_more_set now i y within in
    record {
      count = length-set now i y ∙ made.count;
      done = rw (first, second) (AllZip-push R (take i before) (take i now) (get_or now i d) y made.done changed);
      rest = drop-set-lt (i + 1) now i y (omega arith) ∙ drop_more_same now before i made.rest;
    }

pub stopped : {A : Type 0} (R S : A → A → Type 0) (before now : List A) (i : ℕ) (d y : A) → i < length now → Progress R i before now → S (get_or now i d) y → ((z : A) → S z z)
    → Stopped R S before (set now i y)
stopped R S before now i d y within made kept same =
    let whole : drop i before ≡ get_or now i d ∷ drop (i + 1) now = sym made.rest ∙ drop_more now i d within in
    record {
      at = i;
      there = omega (arith, within, made.count);
      changed = rw (take-set now i y) made.done;
      same = rw (whole, drop-set now i y within) (kept, AllZip-refl S same (drop (i + 1) now));
    }

pub on_err : {T E : Type 0} (r : Result T E) (P : Type 0) → P → OnErr r P
on_err (Ok x) P holds = tt
on_err (Err e) P holds = holds
