-- A message: a head of the grammar, within the limits, and the body that its fields announce.
use Rattle.std.specs.Prelude.{◌≡◌, ℕ, ◌<◌, ◌≤◌, ◌⊎◌, List, ◌++◌, length, Ok, Err}
use Rattle.gd_frame.specs.declared.message.MessageCause.{MessageCause}
use Rattle.gd_frame.specs.declared.message.MessageCause.TheVariants.{Head, Coding, Framing, Body, Meaning}
use Rattle.gd_frame.specs.Syntax.{Syntax, Reads, HasNoHead, MayBecomeHead}

-- the bytes begin with a head within the limits, and what comes after it is rest
pub record BeginsWith (s : Syntax) (bytes : List ℕ) (head : s.Head) (rest : List ℕ) : Type 0 where
  pub reads : Reads s bytes head rest
  pub short : length (s.print head) ≤ 65536
  pub few : length (s.fields head) ≤ 64

-- the bytes are one whole message, and nothing behind it
pub record IsMessage (s : Syntax) (bytes : List ℕ) : Type 0 where
  pub head : s.Head
  pub body : List ℕ
  pub begins : BeginsWith s bytes head body
  pub framed : s.announced head ≡ Ok (length body)

-- no front of the bytes is a message
abbrev pub HasNoMessage : Syntax → List ℕ → Type 0
HasNoMessage s bytes = (front rest : List ℕ) → bytes ≡ front ++ rest → ¬ (IsMessage s front)

-- nor is one, whatever follows
abbrev pub NeverHasMessage : Syntax → List ℕ → Type 0
NeverHasMessage s bytes = (more : List ℕ) → HasNoMessage s (bytes ++ more)

-- no head within the limits begins the bytes, whatever follows
abbrev pub NeverBegins : Syntax → List ℕ → Type 0
NeverBegins s bytes = (more : List ℕ) (h : s.Head) (rest : List ℕ) → ¬ (BeginsWith s (bytes ++ more) h rest)

-- The first cause: no continuation begins with a head within the limits, and this is known, since no continuation
-- begins with any head (which waits for the end of a request's target), or a head is whole, or 65,536 bytes are there.
pub record HasNoFittingHead (s : Syntax) (bytes : List ℕ) : Type 0 where
  pub never : NeverBegins s bytes
  pub known : (((more : List ℕ) → HasNoHead s (bytes ++ more)) × ¬ (s.Waits bytes)) ⊎ ((h : s.Head) × (rest : List ℕ) × Reads s bytes h rest) ⊎ (65536 ≤ length bytes)

-- a head within the limits is there, and its fields announce no body for this cause
pub record IsUnframed (s : Syntax) (cause : MessageCause) (bytes : List ℕ) : Type 0 where
  pub head : s.Head
  pub rest : List ℕ
  pub begins : BeginsWith s bytes head rest
  pub framed : s.announced head ≡ Err cause

-- Why the bytes begin no message, whatever follows. Of a message's framing, that is: what a message means is said of
-- whole ones.
abbrev pub HasCause : Syntax → MessageCause → List ℕ → Type 0
HasCause s Head bytes = HasNoFittingHead s bytes
HasCause s Coding bytes = IsUnframed s Coding bytes
HasCause s Framing bytes = IsUnframed s Framing bytes
HasCause s Body bytes = IsUnframed s Body bytes
HasCause s Meaning bytes = ⊥

-- fewer than 65,536 bytes, no front of which is a head, and that may become one
pub record HasOpenHead (s : Syntax) (bytes : List ℕ) : Type 0 where
  pub short : length bytes < 65536
  pub none : HasNoHead s bytes
  pub may : MayBecomeHead s bytes

-- The head is open, or more bytes make a message of these.
abbrev pub Awaits : Syntax → List ℕ → Type 0
Awaits s bytes = HasOpenHead s bytes ⊎ ((more : List ℕ) × IsMessage s (bytes ++ more))
