-- The parts of a message, and of which message they are.
use Rattle.std.specs.Prelude.{◌≡◌, ℕ, List, map}
use Rattle.httparse.specs.Grammar.{RequestHead, ResponseHead, status_code}
use Rattle.httparse.specs.Spans.{name_and_value}
use Rattle.gd_frame.specs.declared.frame.Field.{Field}
use Rattle.gd_frame.specs.declared.frame.RequestFrame.{RequestFrame}
use Rattle.gd_frame.specs.declared.frame.ReplyFrame.{ReplyFrame}
use Rattle.gd_frame.specs.Syntax.{requests, replies}
use Rattle.gd_frame.specs.Messages.{IsMessage}

abbrev pub field : List ℕ × List ℕ → Field
field p = record { name = p.0; value = p.1 }

abbrev pub request_frame : RequestHead → List ℕ → RequestFrame
request_frame h body = record { method = h.method; target = h.target; minor = h.minor; fields = map field (map name_and_value h.fields); body = body }

abbrev pub reply_frame : ResponseHead → List ℕ → ReplyFrame
reply_frame h body = record { status = status_code h; fields = map field (map name_and_value h.fields); body = body }

-- the bytes are one whole request, of which these are the parts
abbrev pub IsRequest : List ℕ → RequestFrame → Type 0
IsRequest bytes frame = (m : IsMessage requests bytes) × (frame ≡ request_frame m.head m.body)

-- the same of a reply
abbrev pub IsReply : List ℕ → ReplyFrame → Type 0
IsReply bytes frame = (m : IsMessage replies bytes) × (frame ≡ reply_frame m.head m.body)
