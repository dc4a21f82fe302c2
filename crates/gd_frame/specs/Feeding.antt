-- What one more piece of a stream gives.
use Rattle.std.specs.Prelude.{◌≡◌, ℕ, ◌+◌, ◌-◌, ◌^◌, ◌≤◌, min, List, [], ◌++◌, length, take, Result, Ok, Err}
use Rattle.gd_names.specs.declared.memory.NoMemory.{NoMemory}
use Rattle.gd_frame.specs.declared.step.ReadState.{ReadState}
use Rattle.gd_frame.specs.declared.step.ReadState.TheVariants as state
use Rattle.gd_frame.specs.declared.step.ReadStep.{ReadStep}
use Rattle.gd_frame.specs.declared.step.ReadStep.TheVariants.{Need, Done, Bad}
use Rattle.gd_frame.specs.Syntax.{Syntax}
use Rattle.gd_frame.specs.Messages.{HasNoMessage, HasCause, Awaits}
use Rattle.gd_frame.specs.Reading.{Reading}

-- Done: with the bytes used a message stands there, and nothing is held any more. Need: no front of what is there is
-- a message, and more bytes may make one. Bad: none is one for this cause, whatever follows.
abbrev pub Fed : {F : Type 0} → (s : Syntax) → (List ℕ → F → Type 0) → ℕ → List ℕ → List ℕ → Result (ReadStep F) NoMemory → List ℕ → Type 0
Fed s Is place held piece (Ok Need) new = HasNoMessage s (held ++ piece) × Awaits s (held ++ piece) × (new ≡ held ++ piece)
Fed s Is place held piece (Ok (Done frame used)) new = (used ≤ length piece) × Is (held ++ take used piece) frame × (new ≡ [])
Fed s Is place held piece (Ok (Bad at cause)) new = (at ≡ place) × HasCause s cause (held ++ piece) × (new ≡ [])
Fed s Is place held piece (Err e) new = new ≡ []

-- what a reader is after an answer
abbrev pub state_after : {F : Type 0} → Result (ReadStep F) NoMemory → ReadState
state_after (Ok Need) = state.Open
state_after (Ok (Done frame used)) = state.Open
state_after (Ok (Bad at cause)) = state.Bad cause
state_after (Err e) = state.Spent

-- where the next message begins
abbrev pub place_after : {F : Type 0} → Reading → Result (ReadStep F) NoMemory → ℕ
place_after old (Ok Need) = old.place
place_after old (Ok (Done frame used)) = min (old.place + (length old.held + used)) (2 ^ 64 - 1)
place_after old (Ok (Bad at cause)) = old.place
place_after old (Err e) = old.place

-- a reader that goes on takes a piece
pub record Feeds {F : Type 0} (s : Syntax) (Is : List ℕ → F → Type 0) (old : Reading) (piece : List ℕ) (result : Result (ReadStep F) NoMemory) (new : Reading) : Type 0 where
  pub bytes : Fed s Is old.place old.held piece result new.held
  pub state : new.state ≡ state_after result
  pub place : new.place ≡ place_after old result
