-- What a board shows.
use Rattle.std.specs.Prelude.{ℕ, cond, List, [], ◌∷◌, nat_eq, Option, Some, None}
use Rattle.od_board.specs.declared.board.Board.{Board}
use Rattle.od_board.specs.declared.board.Claim.{Claim}

abbrev pub jobs_of : Board → ℕ
jobs_of board = board.jobs

-- the claims, the first one first
abbrev pub claims_of : Board → List Claim
claims_of board = board.claims.items

-- the worker that claimed a job
abbrev pub holder_in : ℕ → List Claim → Option ℕ
holder_in job [] = None
holder_in job (claim ∷ claims) = cond (nat_eq claim.job job) (Some claim.worker) (holder_in job claims)
