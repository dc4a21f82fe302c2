-- Which messages stand in the bytes that were read from a connection, and how the connection ends behind them. A message
-- that asks to close is the last, and so is the 100,000th: what stands behind it counts as not read.
use Rattle.std.specs.Prelude.{◌≡◌, ℕ, ◌-◌, ◌^◌, ◌<◌, ◌≤◌, min, true, false, List, [], ◌∷◌, ◌++◌, ◌⊎◌, length, Option, Some}
use Rattle.gd_frame.specs.Syntax.{requests}
use Rattle.gd_frame.specs.Messages.{HasNoMessage, HasCause, Awaits}
use Rattle.gd_http.specs.Hearing.{RequestBytes, RequestCloses}
use Rattle.gd_server.specs.declared.inbox.Message.{Message}
use Rattle.gd_server.specs.declared.end.ServeEnd.{ServeEnd}
use Rattle.gd_server.specs.declared.end.ServeEnd.TheVariants.{Ended, Cut, BadMessage, Spent, ReadFault, WriteFault, Memory}

-- how many messages of a connection are answered
abbrev pub most_messages : ℕ
most_messages = 100000

-- the bytes are one whole message: what it asks for, and whether it asks to close
abbrev pub IsMessage : List ℕ → Message → Type 0
IsMessage bytes message = RequestBytes bytes message.asks × RequestCloses bytes message.closes

-- the bytes are the beginning of a message that is not whole
pub record IsPart (bytes : List ℕ) : Type 0 where
  pub some : ¬ (bytes ≡ [])
  pub none : HasNoMessage requests bytes
  pub awaits : Awaits requests bytes

-- these messages, none of which asks to close, stand at the front of the bytes, and rest is what follows them
abbrev pub Front : List ℕ → List Message → List ℕ → Type 0
Front bytes [] rest = bytes ≡ rest
Front bytes (message ∷ messages) rest =
    (first more : List ℕ) × (bytes ≡ first ++ more) × IsMessage first message × (message.closes ≡ false) × Front more messages rest

-- they do, and they are not as many yet as a connection may have
pub record IsOpen (bytes : List ℕ) (messages : List Message) (rest : List ℕ) : Type 0 where
  pub front : Front bytes messages rest
  pub few : length messages < most_messages

-- these messages stand at the front of the bytes, and the last one alone asks to close
pub record IsClosed (bytes : List ℕ) (messages : List Message) : Type 0 where
  pub earlier : List Message
  pub last : Message
  pub are : messages ≡ earlier ++ last ∷ []
  pub first : List ℕ
  pub rest : List ℕ
  pub front : IsOpen bytes earlier (first ++ rest)
  pub is : IsMessage first last
  pub closes : last.closes ≡ true

-- these bytes are all that the source had, where it tells
abbrev pub IsAll : Option (List ℕ) → List ℕ → Type 0
IsAll left read = (bytes : List ℕ) → left ≡ Some bytes → bytes ≡ read

-- What follows the messages, none of which asks to close, where a connection ends behind them; it begins at this place,
-- the last of which is that of 2^64 - 1.
abbrev pub Behind : Option (List ℕ) → List ℕ → ℕ → List ℕ → ServeEnd → Type 0
Behind left read place rest Ended = (rest ≡ []) × IsAll left read
Behind left read place rest Cut = IsPart rest × IsAll left read
Behind left read place rest (BadMessage at cause) = (at ≡ place) × HasCause requests cause rest
Behind left read place rest Spent = ⊥
Behind left read place rest ReadFault = (rest ≡ []) ⊎ IsPart rest
Behind left read place rest WriteFault = ⊥
Behind left read place rest Memory = Unit {0}

-- the connection ends behind these messages, since this stands there
pub record EndsBehind (left : Option (List ℕ)) (read : List ℕ) (messages : List Message) (end : ServeEnd) : Type 0 where
  pub rest : List ℕ
  pub before : IsOpen read messages rest
  pub behind : Behind left read (min (length read - length rest) (2 ^ 64 - 1)) rest end

-- these messages stand at the front of the bytes, whatever follows
pub record Begins (read : List ℕ) (messages : List Message) : Type 0 where
  pub rest : List ℕ
  pub front : Front read messages rest

-- these messages are the first of those that count
abbrev pub BeginsCounted : List ℕ → List Message → Type 0
BeginsCounted read messages = (Begins read messages × (length messages ≤ most_messages)) ⊎ IsClosed read messages

-- Of the bytes that were read, of those that the source had left, these are the messages that count, and with them the
-- connection comes to this end. Of one that broke off nothing is said of what follows them.
abbrev pub Counts : Option (List ℕ) → List ℕ → List Message → ServeEnd → Type 0
Counts left read messages Ended = IsClosed read messages ⊎ EndsBehind left read messages Ended
Counts left read messages Cut = EndsBehind left read messages Cut
Counts left read messages (BadMessage place cause) = EndsBehind left read messages (BadMessage place cause)
Counts left read messages Spent = Begins read messages × (length messages ≡ most_messages)
Counts left read messages ReadFault = EndsBehind left read messages ReadFault
Counts left read messages WriteFault = BeginsCounted read messages
Counts left read messages Memory = BeginsCounted read messages
