-- What a reader of frames gives, heard as messages.
use Rattle.std.proofs.Common.{◌≡◌, ℕ, Bool, ◌+◌, ◌-◌, ◌^◌, min, List, Some, None, Ok, refl, length}
use Rattle.gd_frame.specs.declared.frame.RequestFrame.{RequestFrame}
use Rattle.gd_frame.specs.declared.step.ReadState.TheVariants as state
use Rattle.gd_item.specs.declared.reply.Reply.{Reply}
use Rattle.gd_frame.specs.declared.frame.ReplyFrame.{ReplyFrame}
use Rattle.gd_frame.specs.declared.message.MessageCause.TheVariants.{Meaning}
use Rattle.gd_frame.specs.declared.step.ReadStep.TheVariants.{Need, Done, Bad}
use Rattle.gd_frame.specs.Frames.{IsRequest, IsReply}
use Rattle.gd_frame.specs.Feeding.{Feeds}
use Rattle.gd_frame.specs.Messages.{HasNoMessage}
use Rattle.gd_frame.specs.Reading.{Reading}
use Rattle.gd_frame.specs.Syntax.{requests, replies}
use Rattle.gd_http.specs.declared.incoming.Incoming.{Incoming}
use Rattle.gd_http.specs.Closing.{asks_to_close}
use Rattle.gd_http.specs.Hearing.{Hearing, incoming_of_frame, RequestBytes, Hears}
use Rattle.gd_http.specs.HearingReplies.{Listening, reply_of_frame, HearsReply}

-- a reader of frames, and whether the message that was given last asks to close
abbrev pub hearing : Reading → Bool → Hearing
hearing r closes = record { held = r.held; place = r.place; state = r.state; closes = closes }

pub need_heard : (old new : Reading) (closes : Bool) (piece : List ℕ) → HasNoMessage requests old.held → Feeds requests IsRequest old piece (Ok Need) new
    → Hears RequestBytes (hearing old closes) piece (Ok Need) (hearing new closes)
need_heard old new closes piece none fed = record { unfinished = none; bytes = fed.bytes; state = fed.state; place = fed.place; closes = refl }

pub done_heard : (old new : Reading) (before closes : Bool) (piece : List ℕ) (frame : RequestFrame) (message : Incoming) (used : ℕ) → message ≡ incoming_of_frame frame
    → closes ≡ asks_to_close frame → HasNoMessage requests old.held → Feeds requests IsRequest old piece (Ok (Done frame used)) new
    → Hears RequestBytes (hearing old before) piece (Ok (Done message used)) (hearing new closes)
done_heard old new before closes piece frame message used is asks none fed =
    record { unfinished = none; bytes = (fed.bytes.0, (frame, fed.bytes.1, is), fed.bytes.2); state = fed.state; place = fed.place; closes = (frame, fed.bytes.1, asks) }

-- ---- the same of replies, where a reader counts its places itself

pub need_told : (l : Listening) (frames new : Reading) (piece : List ℕ) → l.reading.held ≡ frames.held → HasNoMessage replies frames.held → Feeds replies IsReply frames piece (Ok Need) new
    → HearsReply l piece (Ok Need) (record { held = new.held; place = l.reading.place; state = new.state })
need_told l frames new piece same none fed = record { unfinished = rw same none; bytes = rw same fed.bytes; state = fed.state; place = refl }

pub done_told : (l : Listening) (frames new : Reading) (piece : List ℕ) (frame : ReplyFrame) (reply : Reply) (used place : ℕ) → l.reading.held ≡ frames.held
    → reply_of_frame l frame ≡ Some reply → place ≡ min (l.reading.place + (length l.reading.held + used)) (2 ^ 64 - 1) → HasNoMessage replies frames.held → Feeds replies IsReply frames piece (Ok (Done frame used)) new
    → HearsReply l piece (Ok (Done reply used)) (record { held = new.held; place = place; state = new.state })
done_told l frames new piece frame reply used place same is at none fed =
    record { unfinished = rw same none; bytes = (fed.bytes.0, rw same (frame, fed.bytes.1, is), fed.bytes.2); state = fed.state; place = at }

pub meaning_told : (l : Listening) (frames new : Reading) (piece : List ℕ) (frame : ReplyFrame) (used : ℕ) → l.reading.held ≡ frames.held
    → reply_of_frame l frame ≡ None → HasNoMessage replies frames.held → Feeds replies IsReply frames piece (Ok (Done frame used)) new
    → HearsReply l piece (Ok (Bad l.reading.place Meaning)) (record { held = new.held; place = l.reading.place; state = state.Bad Meaning })
meaning_told l frames new piece frame used same is none fed =
    record { unfinished = rw same none; bytes = (refl, (used, fed.bytes.0, rw same (frame, fed.bytes.1, is)), fed.bytes.2); state = refl; place = refl }
