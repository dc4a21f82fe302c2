-- What a look at the front of bytes tells of the head that stands there, and what a reader keeps of it.
use Rattle.std.specs.Prelude.{◌≡◌, ℕ, ◌+◌, ◌-◌, ◌<◌, ◌≤◌, List, ◌++◌, length, drop, take, Result, Ok, Err, ⊤}
use Rattle.gd_names.specs.declared.memory.NoMemory.{NoMemory}
use Rattle.gd_frame.specs.declared.message.MessageCause.{MessageCause}
use Rattle.gd_frame.specs.declared.head.HeadScan.{HeadScan}
use Rattle.gd_frame.specs.declared.head.HeadScan.TheVariants as scan
use Rattle.gd_frame.specs.declared.stream.Phase.{Phase}
use Rattle.gd_frame.specs.declared.stream.Phase.TheVariants as phase
use Rattle.gd_frame.specs.declared.stream.Taken.{Taken}
use Rattle.gd_frame.specs.declared.stream.Taken.TheVariants.{Need, Whole, Bad}
use Rattle.gd_frame.specs.Framing.{framing}
use Rattle.gd_frame.specs.Syntax.{Syntax, syntax_of, Reads}
use Rattle.gd_frame.specs.Spots.{EndsAtSpot}
use Rattle.gd_frame.specs.declared.message.Kind.{Kind}
use Rattle.gd_frame.specs.Messages.{BeginsWith, HasNoMessage, HasCause, HasOpenHead, Awaits}

-- a head ends there, whose fields have these names and values
pub record HasHead (s : Syntax) (bytes : List ℕ) (end : ℕ) (absent : Result ℕ MessageCause) (fields : List (List ℕ × List ℕ)) : Type 0 where
  pub head : s.Head
  pub reads : Reads s bytes head (drop end bytes)
  pub end_is : end ≡ length (s.print head)
  pub count : length (s.fields head) ≡ length fields
  pub announced : s.announced head ≡ framing absent fields

-- a head within the limits ends there, and announces a body of that length
pub record IsFramed (s : Syntax) (bytes : List ℕ) (end body : ℕ) : Type 0 where
  pub head : s.Head
  pub begins : BeginsWith s bytes head (drop end bytes)
  pub end_is : end ≡ length (s.print head)
  pub framed : s.announced head ≡ Ok body
  pub small : body ≤ 67108864

abbrev pub Scans : Syntax → List ℕ → HeadScan → Type 0
Scans s bytes scan.Open = HasOpenHead s bytes
Scans s bytes (scan.Framed end body) = IsFramed s bytes end body
Scans s bytes (scan.Bad cause) = HasCause s cause bytes

-- what is known of the bytes that a reader holds: no head is whole yet, or one is, and the message ends later
abbrev pub Holds : Kind → List ℕ → Phase → Type 0
Holds kind held (phase.Head at) = (length held < 65536) × HasNoMessage (syntax_of kind) held × EndsAtSpot kind at held
Holds kind held (phase.Body end body) = (length held < end + body) × IsFramed (syntax_of kind) held end body

-- what is held after one more piece
abbrev pub Takes : Kind → List ℕ → List ℕ → Result Taken NoMemory → List ℕ → Type 0
Takes kind held piece (Ok (Need at)) new = HasNoMessage (syntax_of kind) (held ++ piece) × Awaits (syntax_of kind) (held ++ piece) × (new ≡ held ++ piece) × Holds kind new at
Takes kind held piece (Ok (Whole end used)) new = (used ≤ length piece) × (new ≡ held ++ take used piece) × IsFramed (syntax_of kind) new end (length new - end) × (end ≤ length new)
Takes kind held piece (Ok (Bad cause)) new = HasCause (syntax_of kind) cause (held ++ piece)
Takes kind held piece (Err e) new = ⊤
