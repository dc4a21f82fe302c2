-- A head has three bytes for each of its fields at least, so few bytes have few fields.
use Rattle.std.proofs.Common.{ℕ, ◌*◌, ◌<◌, ◌≤◌, List, [], ◌∷◌, length, ap, arith, length-append, lit≤, lit<, All}
use Rattle.std.specs.List.{flat_map}
use Rattle.std.proofs.lemmas.List.Concat.{flat_map-cons}
use Rattle.std.proofs.lemmas.List.Elements.{All-head, All-tail}
use Rattle.httparse.specs.Grammar.{Field, IsField, LineEnd, crlf, lf, print_end, print_field, RequestHead, IsRequestHead, print_request, ResponseHead, IsResponseHead, print_response}
use Rattle.httparse.specs.Spans.{RequestExceeds, ResponseExceeds}

some_end : (e : LineEnd) → 0 < length (print_end e)
some_end crlf = lit< tt
some_end lf = lit< tt

field_long : (f : Field) → IsField f → 3 ≤ length (print_field f)
field_long f x = omega (arith, x.name.0, some_end f.end, length-append {A = ℕ})

fields_long : (fs : List Field) → All IsField fs → 3 * length fs ≤ length (flat_map print_field fs)
fields_long [] all = lit≤ tt
fields_long (f ∷ fs) all =
    omega (arith, field_long f (All-head IsField f fs all), fields_long fs (All-tail IsField f fs all), ap length (flat_map-cons print_field f fs), length-append (print_field f) (flat_map print_field fs))

request_long : (h : RequestHead) → IsRequestHead h → 3 * length h.fields ≤ length (print_request h)
unfolding print_request
request_long h x = omega (arith, fields_long h.fields x.fields, length-append {A = ℕ})

reply_long : (h : ResponseHead) → IsResponseHead h → 3 * length h.fields ≤ length (print_response h)
unfolding print_response
reply_long h x = omega (arith, fields_long h.fields x.fields, length-append {A = ℕ})

pub room_for_request : (bytes : List ℕ) → length bytes < 65536 → RequestExceeds 21846 bytes → ⊥
room_for_request bytes short (front, rest, is, h, reads, many) =
    omega (arith, ap length is, length-append front rest, ap length reads.1, length-append front (print_end lf), length-append (print_request h) [], request_long h reads.0, many)

pub room_for_reply : (bytes : List ℕ) → length bytes < 65536 → ResponseExceeds 21846 bytes → ⊥
room_for_reply bytes short (front, rest, is, h, reads, many) =
    omega (arith, ap length is, length-append front rest, ap length reads.1, length-append front (print_end lf), length-append (print_response h) [], reply_long h reads.0, many)
