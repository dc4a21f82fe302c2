-- What is replied to messages, one after another. What answers requests is any state that goes on by them: a drive, its
-- log, or a drive that others ask as well.
use Rattle.std.specs.Prelude.{◌≡◌, ℕ, List, [], ◌∷◌, ◌++◌}
use Rattle.gd_frame.specs.declared.message.MessageCause.{MessageCause}
use Rattle.gd_frame.specs.declared.message.MessageCause.TheVariants.{Head, Coding, Framing, Body, Meaning}
use Rattle.gd_http.specs.WrittenReplies.{written_reply}
use Rattle.gd_http.specs.declared.incoming.Incoming.{Incoming}
use Rattle.gd_http.specs.declared.incoming.Incoming.TheVariants.{Ask, Refuse, Batch, Versions, Restore}
use Rattle.gd_item.specs.declared.fault.ErrorCode.TheVariants.{InvalidRequest, ItemNotFound, NotSupported}
use Rattle.gd_item.specs.declared.reply.Reply.{Reply}
use Rattle.gd_item.specs.declared.reply.Reply.TheVariants.{Refused}
use Rattle.gd_item.specs.declared.request.Request.{Request}
use Rattle.gd_server.specs.declared.inbox.Message.{Message}
use Rattle.gd_server.specs.declared.end.ServeEnd.{ServeEnd}
use Rattle.gd_server.specs.declared.end.ServeEnd.TheVariants.{Ended, Cut, BadMessage, Spent, ReadFault, WriteFault, Memory}

-- the reply to what is not served
abbrev pub not_found : Reply
not_found = Refused 404 ItemNotFound

-- The reply to a message, and the state behind it. A request is asked as Asks says; nothing else touches the state.
abbrev pub Says : {A : Type 0} → (A → A → Request → Reply → Type 0) → A → A → Incoming → Reply → Type 0
Says Asks before after (Ask request) reply = Asks before after request reply
Says Asks before after (Refuse status code) reply = (after ≡ before) × (reply ≡ Refused status code)
Says Asks before after (Batch body) reply = (after ≡ before) × (reply ≡ not_found)
Says Asks before after (Versions id) reply = (after ≡ before) × (reply ≡ not_found)
Says Asks before after (Restore id version) reply = (after ≡ before) × (reply ≡ not_found)

-- the messages were answered one after another, each once, by these replies
abbrev pub Answers : {A : Type 0} → (A → A → Request → Reply → Type 0) → A → List Message → List Reply → A → Type 0
Answers Asks before [] [] after = after ≡ before
Answers Asks before [] (reply ∷ replies) after = ⊥
Answers Asks before (message ∷ messages) [] after = ⊥
Answers {A} Asks before (message ∷ messages) (reply ∷ replies) after =
    (between : A) × Says Asks before between message.asks reply × Answers Asks between messages replies after

-- the replies as they are sent
abbrev pub texts : List ℕ → List Reply → List ℕ
texts base [] = []
texts base (reply ∷ replies) = written_reply base reply ++ texts base replies

-- how bytes that are no message are refused
abbrev pub refusal_of : MessageCause → Reply
refusal_of Head = Refused 400 InvalidRequest
refusal_of Coding = Refused 501 NotSupported
refusal_of Framing = Refused 400 InvalidRequest
refusal_of Body = Refused 413 InvalidRequest
refusal_of Meaning = Refused 400 InvalidRequest

-- what is sent last
abbrev pub last_text : List ℕ → ServeEnd → List ℕ
last_text base Ended = []
last_text base Cut = []
last_text base (BadMessage place cause) = written_reply base (refusal_of cause)
last_text base Spent = []
last_text base ReadFault = []
last_text base WriteFault = []
last_text base Memory = []
