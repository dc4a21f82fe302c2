-- One claim more.
use Rattle.std.proofs.Common.{◌≡◌, ℕ, ◌+◌, true, false, List, [], ◌∷◌, ◌++◌, length, nat_eq, Some, arith, refl}
use Rattle.std.proofs.lemmas.Bool.{and_from, and_parts, eq-eqb, eqb-true, ne_eqb}
use Rattle.od_board.specs.Boards.{holder_in}
use Rattle.od_board.specs.Claims.{are_from}
use Rattle.od_board.specs.declared.board.Claim.{Claim}

pub claimed-in_order : (from job worker : ℕ) (claims : List Claim) → job ≡ from + length claims → are_from from claims ≡ true
    → are_from from (claims ++ record { job = job; worker = worker } ∷ []) ≡ true
claimed-in_order from job worker [] at so = and_from (nat_eq job from) true (eq-eqb job from (omega (arith, at))) refl
claimed-in_order from job worker (claim ∷ claims) at so =
    let parts = and_parts (nat_eq claim.job from) (are_from (from + 1) claims) so in
    let next : job ≡ (from + 1) + length claims = omega (arith, at) in
    and_from (nat_eq claim.job from) (are_from (from + 1) (claims ++ record { job = job; worker = worker } ∷ [])) parts.0 (claimed-in_order (from + 1) job worker claims next parts.1)

-- the worker that claimed a job holds it
pub claimed-held : (from job worker : ℕ) (claims : List Claim) → job ≡ from + length claims → are_from from claims ≡ true
    → holder_in job (claims ++ record { job = job; worker = worker } ∷ []) ≡ Some worker
claimed-held from job worker [] at so =
    let same : nat_eq job job ≡ true = eq-eqb job job refl in rw same refl
claimed-held from job worker (claim ∷ claims) at so =
    let parts = and_parts (nat_eq claim.job from) (are_from (from + 1) claims) so in
    let first : claim.job ≡ from = eqb-true claim.job from parts.0 in
    let next : job ≡ (from + 1) + length claims = omega (arith, at) in
    let other : nat_eq claim.job job ≡ false = ne_eqb claim.job job (λ same. omega (arith, same, first, at)) in
    rw other (claimed-held (from + 1) job worker claims next parts.1)
