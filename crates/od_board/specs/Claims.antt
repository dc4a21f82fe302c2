-- Claims of jobs.
use Rattle.std.specs.Prelude.{ℕ, ◌+◌, Bool, true, ◌&&◌, List, [], ◌∷◌, nat_eq}
use Rattle.od_board.specs.declared.board.Claim.{Claim}

-- whether the claims are of the jobs from this one on, each once
abbrev pub are_from : ℕ → List Claim → Bool
are_from job [] = true
are_from job (claim ∷ claims) = nat_eq claim.job job && are_from (job + 1) claims

abbrev pub are_in_order : List Claim → Bool
are_in_order claims = are_from 0 claims
