-- For which sessions the sessions of a drive stand, and what a call answers.
use Rattle.std.specs.Prelude.{◌≡◌, ℕ, ◌-◌, ◌^◌, ◌<◌, ◌≤◌, ◌⊎◌, true, false, ◌||◌, cond, List, [], ◌++◌, length, nat_le, Option, Some, None, Result, Ok, Err, IfOk, IfErr}
use Rattle.std.specs.List.{All, AllPairs}
use Rattle.gd_item.specs.Sessions.{Session, session_at, held_bytes, is_completed, with_fragment}
use Rattle.gd_item.specs.declared.fault.SessionFault.{SessionFault}
use Rattle.gd_item.specs.declared.fault.SessionFault.TheVariants.{Many, Memory}
use Rattle.gd_upload.specs.declared.progress.Progress.{Progress}
use Rattle.gd_upload.specs.declared.progress.Progress.TheVariants.{More, Whole}
use Rattle.gd_upload.specs.declared.target.Target.{Target}

-- what they are: the sessions that live, in the order in which they were begun, and how many were begun
pub record SessionsValue : Type 0 where
  pub living : List Session
  pub begun : ℕ

-- they stand for these sessions of a drive, of which so many were opened
pub record Stands (value : SessionsValue) (sessions : List Session) (openers : ℕ) : Type 0 where
  pub living : value.living ≡ sessions
  pub begun : value.begun ≡ openers

-- the bounds within which they are kept: the numbers rise up to that of the last one, 1,000 live at most, and their bytes
-- are within the limit
pub record IsWithin (living : List Session) (begun : ℕ) : Type 0 where
  pub given : All (λ (session : Session). session.number ≤ begun) living
  pub rising : AllPairs (λ (x y : Session). x.number < y.number) living
  pub few : length living ≤ 1000
  pub fits : begun < 2 ^ 64
  pub light : held_bytes living ≤ 536870912

-- the call has no refusal and is done, or it has this refusal, or memory was wanting
pub record Answers {T : Type 0} (refusal : Option SessionFault) (result : Result T SessionFault) (Done : T → Type 0) : Type 0 where
  pub ok : IfOk result (λ x. (refusal ≡ None) × Done x)
  pub err : IfErr result (λ fault. (fault ≡ Memory) ⊎ (refusal ≡ Some fault))

-- what a call gives that takes no memory: its refusal, or else this
abbrev pub given_unless : {T : Type 0} → Option SessionFault → T → Result T SessionFault
given_unless None x = Ok x
given_unless (Some fault) x = Err fault

-- why no session is begun: 1,000 live, or all numbers were given
abbrev pub begin_fault : List Session → ℕ → Option SessionFault
begin_fault sessions openers = cond (nat_le 1000 (length sessions) || nat_le (2 ^ 64 - 1) openers) (Some Many) None

-- where the file of a session is put, and how
abbrev pub target_in : Session → Target
target_in session = record { place = session.place; behaviour = session.behaviour; condition = session.condition; defer = session.defer }

-- the bytes of a session that may live
abbrev pub filled_in : Option Session → List ℕ
filled_in None = []
filled_in (Some session) = session.filled

-- what an accepted fragment does: where it completes the file it gives all bytes and changes nothing, and else it is kept,
-- and the number of the byte that is expected next is given
pub record Received (before after : SessionsValue) (sessions : List Session) (openers session last total : ℕ) (bytes : List ℕ) (progress : Progress) : Type 0 where
  pub whole : is_completed (session_at session sessions) last total ≡ true
      → (progress ≡ Whole (filled_in (session_at session sessions) ++ bytes)) × (after ≡ before)
  pub more : is_completed (session_at session sessions) last total ≡ false
      → (progress ≡ More (length (filled_in (session_at session (with_fragment session total bytes sessions)))))
      × Stands after (with_fragment session total bytes sessions) openers
