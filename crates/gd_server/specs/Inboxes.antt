-- What an inbox makes of the bytes that were read.
use Rattle.std.specs.Prelude.{◌≡◌, ℕ, ◌+◌, ◌-◌, ◌^◌, min, Bool, true, false, List, [], ◌++◌, length, Option, Result, Ok, Err, slice_range}
use Rattle.gd_names.specs.declared.memory.NoMemory.{NoMemory}
use Rattle.gd_frame.specs.Syntax.{requests}
use Rattle.gd_frame.specs.Messages.{HasNoMessage, HasCause, Awaits}
use Rattle.gd_frame.specs.declared.step.ReadState.TheVariants.{Open}
use Rattle.gd_frame.specs.declared.step.ReadStep.{ReadStep}
use Rattle.gd_frame.specs.declared.step.ReadStep.TheVariants.{Need, Done, Bad}
use Rattle.gd_http.specs.Hearing.{Hearing}
use Rattle.gd_server.specs.Messages.{IsMessage, IsAll, Behind}
use Rattle.gd_server.specs.Serving.{Gave}
use Rattle.gd_server.specs.declared.inbox.Inbox.{Inbox}
use Rattle.gd_server.specs.declared.inbox.Message.{Message}
use Rattle.gd_server.specs.declared.end.ServeEnd.{ServeEnd}

-- the bytes that were read and that the reader has not taken
abbrev pub unread : Inbox → List ℕ
unread inbox = slice_range inbox.room inbox.from inbox.to

-- those behind the messages that were given
abbrev pub pending : Inbox → List ℕ
pending inbox = inbox.reader.held ++ unread inbox

-- the reader stands between two messages, and goes on
pub record IsReady (reader : Hearing) : Type 0 where
  pub state : reader.state ≡ Open
  pub held : reader.held ≡ []

-- Something is unread, and more was read where nothing was; or nothing is, since the source had no more.
pub record Fills (left left_now : Option (List ℕ)) (old new : Inbox) (some : Bool) : Type 0 where
  pub read : List ℕ
  pub gave : Gave left left_now read
  pub unread_is : unread new ≡ unread old ++ read
  pub reader : new.reader ≡ old.reader
  pub filled : some ≡ true → ¬ (unread new ≡ [])
  pub over : some ≡ false → (unread new ≡ []) × (read ≡ []) × IsAll left []

-- nothing is unread, and the source failed
pub record FillsNot (left left_now : Option (List ℕ)) (old new : Inbox) : Type 0 where
  pub gave : Gave left left_now []
  pub nothing : unread old ≡ []
  pub still : unread new ≡ []
  pub reader : new.reader ≡ old.reader

-- what the reader takes of what is unread
abbrev pub Takes : Inbox → Result (ReadStep Message) NoMemory → Inbox → Type 0
Takes old (Ok Need) new =
    (pending new ≡ pending old) × (unread new ≡ []) × HasNoMessage requests (pending old) × Awaits requests (pending old) × (new.reader.state ≡ Open)
    × (new.reader.place ≡ old.reader.place)
Takes old (Ok (Done message used)) new =
    (first : List ℕ) × (pending old ≡ first ++ unread new) × IsMessage first message × IsReady new.reader
    × (new.reader.place ≡ min (old.reader.place + length first) (2 ^ 64 - 1))
Takes old (Ok (Bad at cause)) new = (at ≡ old.reader.place) × HasCause requests cause (pending old)
Takes old (Err e) new = Unit {0}

-- a message came: these bytes were read for it, and what is unread follows it
pub record Heard (left left_now : Option (List ℕ)) (old new : Inbox) (message : Message) : Type 0 where
  pub read : List ℕ
  pub gave : Gave left left_now read
  pub first : List ℕ
  pub parts : unread old ++ read ≡ first ++ unread new
  pub is : IsMessage first message
  pub ready : IsReady new.reader
  pub place : new.reader.place ≡ min (old.reader.place + length first) (2 ^ 64 - 1)

-- none came: these bytes were read, and this is the end
pub record Silent (left left_now : Option (List ℕ)) (old : Inbox) (end : ServeEnd) : Type 0 where
  pub read : List ℕ
  pub gave : Gave left left_now read
  pub behind : Behind left read old.reader.place (unread old ++ read) end
