-- The heads of requests and of replies, as `httparse` takes them, and the body that each announces.
use Rattle.std.specs.Prelude.{◌≡◌, ℕ, List, [], ◌++◌, ◌⊎◌, map, Result, Ok}
use Rattle.httparse.specs.Grammar.{Field, RequestHead, IsRequestHead, print_request, EndsInTarget, ResponseHead, IsResponseHead, print_response, status_code}
use Rattle.httparse.specs.Spans.{name_and_value}
use Rattle.gd_frame.specs.declared.message.MessageCause.{MessageCause}
use Rattle.gd_frame.specs.declared.message.Kind.{Kind}
use Rattle.gd_frame.specs.declared.message.Kind.TheVariants.{Request, Reply}
use Rattle.gd_frame.specs.Framing.{framing, reply_without_length}

pub record Syntax : Type 1 where
  pub Head : Type 0
  pub IsHead : Head → Type 0
  pub print : Head → List ℕ
  pub fields : Head → List Field
  pub announced : Head → Result ℕ MessageCause
  -- bytes for which the parser waits though it may be too late
  pub Waits : List ℕ → Type 0

-- a request without Content-Length has no body
abbrev pub requests : Syntax
requests = record {
  Head = RequestHead;
  IsHead = IsRequestHead;
  print = print_request;
  fields = λ h. h.fields;
  announced = λ h. framing (Ok 0) (map name_and_value h.fields);
  Waits = EndsInTarget;
}

abbrev pub replies : Syntax
replies = record {
  Head = ResponseHead;
  IsHead = IsResponseHead;
  print = print_response;
  fields = λ h. h.fields;
  announced = λ h. framing (reply_without_length (status_code h)) (map name_and_value h.fields);
  Waits = λ bytes. ⊥;
}

abbrev pub syntax_of : Kind → Syntax
syntax_of Request = requests
syntax_of Reply = replies

-- the bytes are that head and then rest
abbrev pub Reads : (s : Syntax) → List ℕ → s.Head → List ℕ → Type 0
Reads s bytes h rest = s.IsHead h × (bytes ≡ s.print h ++ rest)

-- no front of the bytes is a head
abbrev pub HasNoHead : Syntax → List ℕ → Type 0
HasNoHead s bytes = (h : s.Head) (rest : List ℕ) → ¬ (Reads s bytes h rest)

-- more bytes make a head of them, or they end inside a request's target
abbrev pub MayBecomeHead : Syntax → List ℕ → Type 0
MayBecomeHead s bytes = ((more : List ℕ) × (h : s.Head) × Reads s (bytes ++ more) h []) ⊎ s.Waits bytes
