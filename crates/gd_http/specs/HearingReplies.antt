-- What readers of replies hear, piece by piece.
use Rattle.std.specs.Prelude.{◌≡◌, ℕ, ◌≤◌, List, [], ◌++◌, length, take, Option, Some, None, Result, Ok, Err, OnOk}
use Rattle.gd_names.specs.declared.memory.NoMemory.{NoMemory}
use Rattle.gd_item.specs.declared.reply.Reply.{Reply}
use Rattle.gd_item.specs.declared.request.RequestKind.{RequestKind}
use Rattle.gd_frame.specs.declared.frame.ReplyFrame.{ReplyFrame}
use Rattle.gd_frame.specs.declared.message.MessageCause.{MessageCause}
use Rattle.gd_frame.specs.declared.message.MessageCause.TheVariants.{Head, Coding, Framing, Body, Meaning}
use Rattle.gd_frame.specs.declared.step.ReadState.{ReadState}
use Rattle.gd_frame.specs.declared.step.ReadState.TheVariants as state
use Rattle.gd_frame.specs.declared.step.ReadStep.{ReadStep}
use Rattle.gd_frame.specs.declared.step.ReadStep.TheVariants.{Need, Done, Bad}
use Rattle.gd_frame.specs.Frames.{IsReply}
use Rattle.gd_frame.specs.Feeding.{state_after, place_after}
use Rattle.gd_frame.specs.Messages.{HasNoMessage, HasCause, Awaits}
use Rattle.gd_frame.specs.Reading.{Reading}
use Rattle.gd_frame.specs.Syntax.{replies}
use Rattle.gd_http.specs.declared.replies.Ending.{Ending}
use Rattle.gd_http.specs.declared.replies.Ending.TheVariants as ending
use Rattle.gd_http.specs.Answering.{reply_of}

-- a reader of replies to requests of a kind, which name links under a base
pub record Listening : Type 0 where
  pub base : List ℕ
  pub kind : RequestKind
  pub reading : Reading

abbrev pub reply_of_frame : Listening → ReplyFrame → Option Reply
reply_of_frame l frame = reply_of l.base l.kind frame.status frame.fields frame.body

-- the bytes are one whole reply, and this is what it says
abbrev pub ReplyBytes : Listening → List ℕ → Reply → Type 0
ReplyBytes l bytes reply = (frame : ReplyFrame) × IsReply bytes frame × (reply_of_frame l frame ≡ Some reply)

-- the bytes are one whole reply that answers no such request
abbrev pub MeansNothing : Listening → List ℕ → Type 0
MeansNothing l bytes = (frame : ReplyFrame) × IsReply bytes frame × (reply_of_frame l frame ≡ None)

-- why what is held and a piece begin no reply: a cause of framing, or a whole reply stands there that means nothing
abbrev pub HasReplyCause : Listening → MessageCause → List ℕ → List ℕ → Type 0
HasReplyCause l Head held piece = HasCause replies Head (held ++ piece)
HasReplyCause l Coding held piece = HasCause replies Coding (held ++ piece)
HasReplyCause l Framing held piece = HasCause replies Framing (held ++ piece)
HasReplyCause l Body held piece = HasCause replies Body (held ++ piece)
HasReplyCause l Meaning held piece = (used : ℕ) × (used ≤ length piece) × MeansNothing l (held ++ take used piece)

-- what a piece gives
abbrev pub ReplyFed : Listening → List ℕ → Result (ReadStep Reply) NoMemory → List ℕ → Type 0
ReplyFed l piece (Ok Need) new = HasNoMessage replies (l.reading.held ++ piece) × Awaits replies (l.reading.held ++ piece) × (new ≡ l.reading.held ++ piece)
ReplyFed l piece (Ok (Done reply used)) new = (used ≤ length piece) × ReplyBytes l (l.reading.held ++ take used piece) reply × (new ≡ [])
ReplyFed l piece (Ok (Bad at cause)) new = (at ≡ l.reading.place) × HasReplyCause l cause l.reading.held piece × (new ≡ [])
ReplyFed l piece (Err e) new = new ≡ []

-- a reader that goes on takes a piece: no front of what it held is a message
pub record HearsReply (old : Listening) (piece : List ℕ) (result : Result (ReadStep Reply) NoMemory) (new : Reading) : Type 0 where
  pub unfinished : HasNoMessage replies old.reading.held
  pub bytes : ReplyFed old piece result new.held
  pub state : new.state ≡ state_after result
  pub place : OnOk result (new.place ≡ place_after old.reading result)

-- the state of a reader that may have ended at a whole reply
abbrev pub ended : Option Ending → ReadState → ReadState
ended None before = before
ended (Some ending.Meaningless) before = state.Bad Meaning
ended (Some ending.Spent) before = state.Spent
