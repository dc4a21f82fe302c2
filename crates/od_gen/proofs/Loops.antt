-- A text made piece by piece, for each number below another.
use Rattle.std.proofs.Common.{◌≡◌, ℕ, suc, ◌+◌, List, [], ◌∷◌, ◌++◌, refl, sym, ap, ◌∙◌, append_assoc, arith, Result, Ok, Err, OnOk}
use Rattle.std.proofs.lemmas.List.{append-nil}
use Rattle.std.specs.List.{flat_map}
use Rattle.od_gen.specs.Generated.{up_to}

flat_map-append : (f : ℕ → List ℕ) (xs ys : List ℕ) → flat_map f (xs ++ ys) ≡ flat_map f xs ++ flat_map f ys
flat_map-append f [] ys = refl
flat_map-append f (x ∷ xs) ys = ap (λ (t : List ℕ). f x ++ t) (flat_map-append f xs ys) ∙ sym (append_assoc (f x) (flat_map f xs) (flat_map f ys))

pub one_more : (f : ℕ → List ℕ) (start old new : List ℕ) (i : ℕ) → old ≡ start ++ flat_map f (up_to i) → new ≡ old ++ f i → new ≡ start ++ flat_map f (up_to (i + 1))
one_more f start old new i before made =
    let next : suc i ≡ i + 1 = omega arith in
    let whole : flat_map f (up_to (suc i)) ≡ flat_map f (up_to i) ++ f i =
    flat_map-append f (up_to i) (i ∷ []) ∙ ap (λ (t : List ℕ). flat_map f (up_to i) ++ t) (append-nil (f i)) in
    let text : flat_map f (up_to (i + 1)) ≡ flat_map f (up_to i) ++ f i = ap (λ n. flat_map f (up_to n)) (sym next) ∙ whole in
    made ∙ ap (λ (t : List ℕ). t ++ f i) before ∙ append_assoc start (flat_map f (up_to i)) (f i) ∙ ap (λ (t : List ℕ). start ++ t) (sym text)

-- two pieces are one
pub both : (old middle new first second : List ℕ) → middle ≡ old ++ first → new ≡ middle ++ second → new ≡ old ++ (first ++ second)
both old middle new first second one two = two ∙ ap (λ (t : List ℕ). t ++ second) one ∙ append_assoc old first second

pub both_ok : {T E : Type 0} (result : Result T E) (old middle new first second : List ℕ) → middle ≡ old ++ first → OnOk result (new ≡ middle ++ second) → OnOk result (new ≡ old ++ (first ++ second))
both_ok (Ok done) old middle new first second one two = both old middle new first second one two
both_ok (Err fault) old middle new first second one two = tt
