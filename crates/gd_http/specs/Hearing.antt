-- What readers of requests hear, piece by piece.
use Rattle.std.specs.Prelude.{◌≡◌, ℕ, Bool, false, cond, List, [], ◌++◌, take, Result, Ok, Err, OnOk}
use Rattle.gd_names.specs.declared.memory.NoMemory.{NoMemory}
use Rattle.gd_frame.specs.declared.frame.RequestFrame.{RequestFrame}
use Rattle.gd_frame.specs.declared.step.ReadState.{ReadState}
use Rattle.gd_frame.specs.declared.step.ReadState.TheVariants.{Open, Spent}
use Rattle.gd_frame.specs.declared.step.ReadStep.{ReadStep}
use Rattle.gd_frame.specs.declared.step.ReadStep.TheVariants.{Need, Done, Bad}
use Rattle.gd_frame.specs.Frames.{IsRequest}
use Rattle.gd_frame.specs.Feeding.{Fed, state_after, place_after}
use Rattle.gd_frame.specs.Messages.{HasNoMessage}
use Rattle.gd_frame.specs.Reading.{Reading}
use Rattle.gd_frame.specs.Syntax.{requests}
use Rattle.gd_http.specs.declared.incoming.Incoming.{Incoming}
use Rattle.gd_http.specs.Asking.{incoming_of}
use Rattle.gd_http.specs.Closing.{asks_to_close}

abbrev pub incoming_of_frame : RequestFrame → Incoming
incoming_of_frame frame = incoming_of frame.method frame.target frame.fields frame.body

-- the bytes are one whole request, and this is what it asks for
abbrev pub RequestBytes : List ℕ → Incoming → Type 0
RequestBytes bytes message = (frame : RequestFrame) × IsRequest bytes frame × (message ≡ incoming_of_frame frame)

-- the bytes are one whole request, and this is whether it asks to close
abbrev pub RequestCloses : List ℕ → Bool → Type 0
RequestCloses bytes closes = (frame : RequestFrame) × IsRequest bytes frame × (closes ≡ asks_to_close frame)

-- What a reader of requests shows: the bytes of the message that is not whole yet, where in the stream it began,
-- whether the reader goes on, and whether the message that it gave last asks to close.
pub record Hearing : Type 0 where
  pub held : List ℕ
  pub place : ℕ
  pub state : ReadState
  pub closes : Bool

abbrev pub fresh : Hearing
fresh = record { held = []; place = 0; state = Open; closes = false }

-- the same without what a message says
abbrev pub reading_of : Hearing → Reading
reading_of h = record { held = h.held; place = h.place; state = h.state }

-- the state of a reader, whose memory may have run out as a whole message was read
abbrev pub state_of : Bool → ReadState → ReadState
state_of spent state = cond spent Spent state

-- a message that is given says whether to close; else what the one before said stands
abbrev pub ClosesAfter : {F : Type 0} → Hearing → List ℕ → Result (ReadStep F) NoMemory → Bool → Type 0
ClosesAfter old piece (Ok Need) closes = closes ≡ old.closes
ClosesAfter old piece (Ok (Done message used)) closes = RequestCloses (old.held ++ take used piece) closes
ClosesAfter old piece (Ok (Bad at cause)) closes = closes ≡ old.closes
ClosesAfter old piece (Err e) closes = closes ≡ old.closes

-- a reader that goes on takes a piece: no front of what it held is a message
pub record Hears {F : Type 0} (Is : List ℕ → F → Type 0) (old : Hearing) (piece : List ℕ) (result : Result (ReadStep F) NoMemory) (new : Hearing) : Type 0 where
  pub unfinished : HasNoMessage requests old.held
  pub bytes : Fed requests Is old.place old.held piece result new.held
  pub state : new.state ≡ state_after result
  pub place : OnOk result (new.place ≡ place_after (reading_of old) result)
  pub closes : ClosesAfter old piece result new.closes
