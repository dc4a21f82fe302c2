-- What the accepted fragments of an upload session brought, and how often its file was made.
use Rattle.std.specs.Prelude.{ℕ, ◌+◌, Bool, false, ◌&&◌, cond, List, [], ◌∷◌, ◌++◌, length, sum_by, nat_eq}
use Rattle.gd_item.specs.Sessions.{State, new_state, session_at, is_completed}
use Rattle.gd_item.specs.Steps.{is_accepted, after_step}
use Rattle.gd_item.specs.declared.live.Version.{Version}
use Rattle.gd_item.specs.declared.request.Request.{Request}
use Rattle.gd_item.specs.declared.request.Request.TheVariants.{Fragment, Finish}
use Rattle.gd_item.specs.declared.step.Step.{Step}
use Rattle.gd_item.specs.declared.step.Step.TheVariants.{Ask, Event}

-- whether a request makes the file of a session: it is a fragment that completes it, or finishes the session
abbrev pub commits : State → ℕ → Request → Bool
commits state session (Fragment number first last total bytes) = nat_eq number session && is_completed (session_at number state.sessions) last total
commits state session (Finish number) = nat_eq number session
commits state session request = false

-- whether a step completes a session
abbrev pub completes : State → ℕ → Step → Bool
completes state session (Ask who request served heard) = commits state session request && is_accepted state request served
completes state session (Event event) = false

-- how many of the steps do
abbrev pub completions_after : State → ℕ → List Step → ℕ
completions_after state session [] = 0
completions_after state session (step ∷ steps) = cond (completes state session step) 1 0 + completions_after (after_step state step) session steps

-- how many steps of a log complete a session
abbrev pub completions : ℕ → List Step → ℕ
completions session log = completions_after new_state session log

-- the bytes that a request brings a session
abbrev pub bytes_for : ℕ → Request → List ℕ
bytes_for session (Fragment number first last total bytes) = cond (nat_eq number session) bytes []
bytes_for session request = []

-- the bytes that a step brings it, if it is accepted
abbrev pub received_at : State → ℕ → Step → List ℕ
received_at state session (Ask who request served heard) = cond (is_accepted state request served) (bytes_for session request) []
received_at state session (Event event) = []

abbrev pub received_after : State → ℕ → List Step → List ℕ
received_after state session [] = []
received_after state session (step ∷ steps) = received_at state session step ++ received_after (after_step state step) session steps

-- the joined bytes of a session's accepted fragments
abbrev pub received : ℕ → List Step → List ℕ
received session log = received_after new_state session log

-- the bytes of versions, counted
abbrev pub bytes_in : List Version → ℕ
bytes_in versions = sum_by (λ version. length version.bytes) versions
