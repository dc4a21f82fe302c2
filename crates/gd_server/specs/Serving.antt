-- What is written to a connection in answer to what was read from it.
use Rattle.std.specs.Prelude.{◌≡◌, ℕ, List, ◌++◌, take, Option, Some, Result}
use Rattle.gd_names.specs.Streams.{Writes}
use Rattle.gd_names.specs.declared.sink.SinkFault.{SinkFault}
use Rattle.gd_names.specs.declared.sink.SinkFault.TheVariants as sink
use Rattle.gd_item.specs.declared.reply.Reply.{Reply}
use Rattle.gd_item.specs.declared.request.Request.{Request}
use Rattle.gd_http.specs.WrittenReplies.{written_reply}
use Rattle.gd_http.specs.declared.incoming.Incoming.{Incoming}
use Rattle.gd_server.specs.Messages.{Counts}
use Rattle.gd_server.specs.Replies.{Says, Answers, texts, last_text}
use Rattle.gd_server.specs.declared.inbox.Message.{Message}
use Rattle.gd_server.specs.declared.end.ServeEnd.{ServeEnd}
use Rattle.gd_server.specs.declared.end.ServeEnd.TheVariants.{Ended, Cut, BadMessage, Spent, ReadFault, WriteFault, Memory}

-- the source gave these bytes, where it tells
pub record Gave (left left_now : Option (List ℕ)) (read : List ℕ) : Type 0 where
  pub told : (bytes : List ℕ) → left ≡ Some bytes → (rest : List ℕ) × (left_now ≡ Some rest) × (bytes ≡ read ++ rest)

-- this text was written, where the sink tells
pub record Sent (out out_now : Option (List ℕ)) (text : List ℕ) : Type 0 where
  pub told : (old : List ℕ) → out ≡ Some old → out_now ≡ Some (old ++ text)

-- the beginning of this text was
pub record SentPart (out out_now : Option (List ℕ)) (text : List ℕ) : Type 0 where
  pub told : (old : List ℕ) → out ≡ Some old → (n : ℕ) × (out_now ≡ Some (old ++ take n text))

-- a message was replied to, and the reply sent, or the beginning of it where the sink failed
pub record Replied {A : Type 0} (Asks : A → A → Request → Reply → Type 0) (base : List ℕ) (before after : A) (asks : Incoming) (out out_now : Option (List ℕ)) {T : Type 0} (result : Result T SinkFault) : Type 0 where
  pub reply : Reply
  pub says : Says Asks before after asks reply
  pub wrote : Writes out out_now (written_reply base reply) result

-- how a connection ends whose sink fails
abbrev pub end_of : SinkFault → ServeEnd
end_of sink.Failed = WriteFault
end_of sink.Memory = Memory

-- What was sent at this end, where due is the end to which the messages come: all, or the beginning of it where the
-- connection broke off.
abbrev pub SentAt : ServeEnd → ServeEnd → Option (List ℕ) → Option (List ℕ) → List ℕ → Type 0
SentAt Ended due out out_now text = (due ≡ Ended) × Sent out out_now text
SentAt Cut due out out_now text = (due ≡ Cut) × Sent out out_now text
SentAt (BadMessage place cause) due out out_now text = (due ≡ BadMessage place cause) × Sent out out_now text
SentAt Spent due out out_now text = (due ≡ Spent) × Sent out out_now text
SentAt ReadFault due out out_now text = (due ≡ ReadFault) × Sent out out_now text
SentAt WriteFault due out out_now text = SentPart out out_now text
SentAt Memory due out out_now text = SentPart out out_now text

-- A connection was served to its end. These bytes were read; these messages in them count; they were answered in turn,
-- which leads from one state to the other; and the replies, behind them the refusal of what is no message, were sent and
-- nothing else. Where it broke off, these messages are the first of those that count, all of them were asked, and the
-- beginning of their replies was sent: so all whose replies were sent whole are among them.
pub record Serves {A : Type 0} (Asks : A → A → Request → Reply → Type 0) (base : List ℕ) (left left_now : Option (List ℕ)) (before after : A) (out out_now : Option (List ℕ)) (end : ServeEnd) : Type 0 where
  pub read : List ℕ
  pub gave : Gave left left_now read
  pub messages : List Message
  pub due : ServeEnd
  pub counts : Counts left read messages due
  pub replies : List Reply
  pub answered : Answers Asks before messages replies after
  pub sent : SentAt end due out out_now (texts base replies ++ last_text base due)
