-- Written requests are read again as what they were written for.
use Rattle.std.proofs.Common.{◌≡◌, ℕ, ◌^◌, ◌<◌, ◌≤◌, true, not, nat_eq, List, [], ◌∷◌, ◌++◌, map, length, drop, All, Option, Some, None, Ok, refl, sym, ap, ◌∙◌, subst, arith, append_assoc, append-nil, lit≤, lit<}
use Rattle.std.specs.Prelude.{codes}
use Rattle.std.specs.Fmt.{decimal}
use Rattle.std.specs.List.{flat_map}
use Rattle.std.specs.Str.Parse.{AllDigits}
use Rattle.std.proofs.lemmas.Bool.{ne_eqb}
use Rattle.std.proofs.lemmas.Bool.Decides.{nat_tests}
use Rattle.std.proofs.lemmas.Fmt.{decimal_is_IsNumeral, decimal_nonempty}
use Rattle.std.proofs.lemmas.List.Elements.{All-nil, All-cons, All-weaker}
use Rattle.std.proofs.lemmas.Str.{IsUtf8-from_ascii}
use Rattle.std.proofs.lemmas.Str.Parse.{digit_from_value}
use Rattle.httparse.specs.Grammar.{RequestHead, IsRequestHead, print_request, print_field, IsToken, is_token_byte, is_uri_byte, is_value_byte, crlf}
use Rattle.httparse.specs.Spans.{name_and_value}
use Rattle.httparse.proofs.GrammarLemmas.{print_request-append}
use Rattle.gd_names.specs.Escapes.{escaped, IsSegmentName}
use Rattle.gd_names.specs.declared.conflict.Conflict.{Conflict}
use Rattle.gd_names.specs.declared.conflict.Conflict.TheVariants.{Fail, Replace, Rename}
use Rattle.gd_names.proofs.ReadBack.{escapes_read_back}
use Rattle.gd_item.specs.Written.{IfGiven, IsWrittenId, IsHeaderText, IsWrittenCondition, IsWrittenToken, IsWritten, is_token_byte as is_token_letter}
use Rattle.gd_item.specs.declared.condition.Condition.{Condition}
use Rattle.gd_item.specs.declared.condition.Condition.TheVariants.{Free, Match}
use Rattle.gd_item.specs.declared.id.ItemId.{ItemId}
use Rattle.gd_item.specs.declared.request.Address.{Address}
use Rattle.gd_item.specs.declared.request.Request.{Request}
use Rattle.gd_item.specs.declared.request.Request.TheVariants as request
use Rattle.gd_json.specs.Bases.{is_base}
use Rattle.gd_json.specs.Changes.{behaviour_of, behaviour_text, IsWritablePatch}
use Rattle.gd_json.specs.Links.{past}
use Rattle.gd_json.specs.Numbers.{number_of_text}
use Rattle.gd_json.proofs.Ids.{number_again}
use Rattle.gd_target.specs.Asked.{resource_asked, query_asked, IsKnown, IsReadAgain}
use Rattle.gd_target.specs.Cuts.{cut, parts}
use Rattle.gd_target.specs.Faults.{◌>>=◌}
use Rattle.gd_target.specs.Queries.{value_in as member_in}
use Rattle.gd_target.specs.Targets.{target_text}
use Rattle.gd_target.proofs.Plain.{Passes, literal, joined, weaker, is_plain, is_visible, is_member_byte, plain_visible, plain_member, member_no_and, name_plain, decimal_plain}
use Rattle.gd_target.proofs.Again.{read_again, cut_nowhere, cut_there}
use Rattle.gd_target.proofs.Cutting.{parts_cut}
use Rattle.gd_frame.specs.Framing.{framing}
use Rattle.gd_frame.specs.Frames.{field, request_frame}
use Rattle.gd_frame.specs.Messages.{IsMessage}
use Rattle.gd_frame.specs.Syntax.{requests}
use Rattle.gd_http.specs.declared.incoming.Incoming.TheVariants.{Ask}
use Rattle.gd_http.specs.Asking.{ask, method_of, behaviour_at, after_at, token_at, on_item, on_children, on_content, on_uploads, on_session, on_changes, asked_of, asked}
use Rattle.gd_http.specs.Headers.{value_in, condition_of, range_from, range_to, range_in_parts, range_of, range_of_text}
use Rattle.gd_http.specs.Hearing.{incoming_of_frame, RequestBytes}
use Rattle.gd_http.specs.Sending.{written_body, written_head, IsSendable, HasBody}
use Rattle.gd_http.specs.Written.{line_end, method_text, version_end, line_text, host_text, condition_text, condition_header, range_value, range_header, json_of, type_text, length_text, body_text, first_part, written_request}
use Rattle.gd_http.proofs.Sections.{visible_value, visible_utf8, ascii, ends_trimmed, host_is_visible, length_again, IsHeader, line_of, visible_header, fields_are, values_are, Prints, prints_none, prints_one, prints_both, host_token, match_token, range_token, type_token, length_header_is}

-- ---- the headers of a request

abbrev Headers : Type 0
Headers = List (List ℕ × List ℕ)

match_of : Condition → Headers
match_of Free = []
match_of (Match text) = (codes "If-Match", text) ∷ []

condition_asked : Request → Condition
condition_asked (request.Put at bytes behaviour condition) = condition
condition_asked (request.Patch at name parent condition) = condition
condition_asked (request.Delete at condition) = condition
condition_asked (request.OpenSession at name behaviour condition defer) = condition
condition_asked r = Free

range_asked : Request → Option (List ℕ)
range_asked (request.Fragment session first last total bytes) = Some (range_value first last total)
range_asked r = None

range_in : Option (List ℕ) → Headers
range_in None = []
range_in (Some value) = (codes "Content-Range", value) ∷ []

type_in : Option (List ℕ) → Headers
type_in None = []
type_in (Some json) = (codes "Content-Type", codes "application/json") ∷ []

length_in : ℕ → Headers
length_in n = (codes "Content-Length", decimal n) ∷ []

-- the headers of a host, a condition, a range, a body in JSON, and a length
shape : List ℕ → Condition → Option (List ℕ) → Option (List ℕ) → ℕ → Headers
shape host condition range json n = (((codes "Host", host) ∷ []) ++ (match_of condition ++ range_in range)) ++ (type_in json ++ length_in n)

headers_of : List ℕ → Request → Headers
headers_of base r = shape (drop 7 base) (condition_asked r) (range_asked r) (json_of r) (length (written_body r))

text_visible : (text : List ℕ) → IsHeaderText text → Passes is_visible text
text_visible text is = All-weaker (λ b. (33 ≤ b) × (b ≤ 126)) (λ b. is_visible b ≡ true) (λ b range. grind (arith, nat_tests)) text is.1

prints_match : (condition : Condition) → IsWrittenCondition condition → Prints (condition_text condition) (match_of condition)
unfolding condition_text match_of
prints_match Free is = prints_none
prints_match (Match text) is = prints_one (codes "If-Match") text (visible_header (codes "If-Match") text match_token (text_visible text is))

condition_written : (r : Request) → IsWritten r → IsWrittenCondition (condition_asked r)
unfolding condition_asked
condition_written (request.Put at bytes behaviour condition) is = is.2
condition_written (request.Patch at name parent condition) is = is.2
condition_written (request.Delete at condition) is = is.1
condition_written (request.OpenSession at name behaviour condition defer) is = is.1
condition_written r is = tt

condition_text_is : (r : Request) → condition_header r ≡ condition_text (condition_asked r)
unfolding condition_asked condition_text
condition_text_is (request.Put at bytes behaviour condition) = refl
condition_text_is (request.Patch at name parent condition) = refl
condition_text_is (request.Delete at condition) = refl
condition_text_is (request.OpenSession at name behaviour condition defer) = refl
condition_text_is r = refl

prints_condition : (r : Request) → IsWritten r → Prints (condition_header r) (match_of (condition_asked r))
prints_condition r is = rw (condition_text_is r) (prints_match (condition_asked r) (condition_written r is))

decimal_visible : (n : ℕ) → n < 2 ^ 64 → Passes is_visible (decimal n)
decimal_visible n small = weaker is_plain is_visible plain_visible (decimal n) (decimal_plain n small)

-- what stands between the first byte of a range and its last number
range_middle : ℕ → ℕ → List ℕ
range_middle first last = codes "ytes " ++ decimal first ++ codes "-" ++ decimal last ++ codes "/"

range_split : (first last total : ℕ) → range_value first last total ≡ 98 ∷ (range_middle first last ++ decimal total)
unfolding range_value range_middle
range_split first last total = refl

range_bytes : (first last total : ℕ) → first < 2 ^ 64 → last < 2 ^ 64 → total < 2 ^ 64 → Passes is_value_byte (range_value first last total)
unfolding range_value
range_bytes first last total f l t =
    let value = λ (n : ℕ) (small : n < 2 ^ 64). weaker is_visible is_value_byte visible_value (decimal n) (decimal_visible n small) in
    let part = λ (text : List ℕ) (more : List ℕ). joined is_value_byte text more in
    part (codes "bytes " ++ decimal first ++ codes "-" ++ decimal last ++ codes "/") (decimal total)
    (part (codes "bytes " ++ decimal first ++ codes "-" ++ decimal last) (codes "/")
    (part (codes "bytes " ++ decimal first ++ codes "-") (decimal last)
    (part (codes "bytes " ++ decimal first) (codes "-") (part (codes "bytes ") (decimal first) (literal is_value_byte (codes "bytes ") refl) (value first f)) (literal is_value_byte (codes "-") refl))
    (value last l))
    (literal is_value_byte (codes "/") refl))
    (value total t)

range_is_header : (first last total : ℕ) → first < 2 ^ 64 → last < 2 ^ 64 → total < 2 ^ 64 → IsHeader (codes "Content-Range", range_value first last total)
range_is_header first last total f l t = record {
  name = range_token;
  value = range_bytes first last total f l t;
  trimmed = rw (range_split first last total) (ends_trimmed 98 (range_middle first last) (decimal total) refl (decimal_nonempty total t) (decimal_visible total t));
}

prints_range : (r : Request) → IsKnown r → Prints (range_header r) (range_in (range_asked r))
unfolding range_in range_asked
prints_range (request.Fragment session first last total bytes) is = prints_one (codes "Content-Range") (range_value first last total) (range_is_header first last total is.1 is.2 is.3)
prints_range r is = prints_none

pub json_type : IsHeader (codes "Content-Type", codes "application/json")
json_type = visible_header (codes "Content-Type") (codes "application/json") type_token (literal is_visible (codes "application/json") refl)

prints_type : (json : Option (List ℕ)) → Prints (type_text json) (type_in json)
unfolding type_text type_in
prints_type None = prints_none
prints_type (Some json) = prints_one (codes "Content-Type") (codes "application/json") json_type

prints_length : (n : ℕ) → n < 2 ^ 64 → Prints (length_text n) (length_in n)
unfolding length_text length_in
prints_length n small = prints_one (codes "Content-Length") (decimal n) (length_header_is n small)

prints_host : (base : List ℕ) → is_base base ≡ true → Prints (host_text base) ((codes "Host", drop 7 base) ∷ [])
unfolding host_text
prints_host base is = prints_one (codes "Host") (drop 7 base) (visible_header (codes "Host") (drop 7 base) host_token (host_is_visible base is))

-- the text of all headers
abbrev headers_text : List ℕ → Request → List ℕ
headers_text base r = (host_text base ++ (condition_header r ++ range_header r)) ++ (type_text (json_of r) ++ length_text (length (written_body r)))

prints_headers : (base : List ℕ) (r : Request) → IsSendable base r → IsKnown r → Prints (headers_text base r) (headers_of base r)
unfolding headers_of shape
prints_headers base r is known =
    let conditions = match_of (condition_asked r) in
    let ranges = range_in (range_asked r) in
    let n = length (written_body r) in
    let small : n < 2 ^ 64 = (let short = is.body in omega arith) in
    prints_both (host_text base ++ (condition_header r ++ range_header r)) (type_text (json_of r) ++ length_text n) (((codes "Host", drop 7 base) ∷ []) ++ (conditions ++ ranges)) (type_in (json_of r) ++ length_in n)
    (prints_both (host_text base) (condition_header r ++ range_header r) ((codes "Host", drop 7 base) ∷ []) (conditions ++ ranges) (prints_host base is.base)
    (prints_both (condition_header r) (range_header r) conditions ranges (prints_condition r is.value) (prints_range r known)))
    (prints_both (type_text (json_of r)) (length_text n) (type_in (json_of r)) (length_in n) (prints_type (json_of r)) (prints_length n small))

-- ---- the head

request_head : List ℕ → Request → RequestHead
request_head base r = record { blank = []; method = method_text r; target = target_text r; minor = 1; line_end = crlf; fields = map line_of (headers_of base r); last = crlf }

get_token : IsToken (codes "GET")
unfolding is_token_byte
get_token = (omega arith, literal is_token_byte (codes "GET") refl)

put_token : IsToken (codes "PUT")
unfolding is_token_byte
put_token = (omega arith, literal is_token_byte (codes "PUT") refl)

post_token : IsToken (codes "POST")
unfolding is_token_byte
post_token = (omega arith, literal is_token_byte (codes "POST") refl)

patch_token : IsToken (codes "PATCH")
unfolding is_token_byte
patch_token = (omega arith, literal is_token_byte (codes "PATCH") refl)

delete_token : IsToken (codes "DELETE")
unfolding is_token_byte
delete_token = (omega arith, literal is_token_byte (codes "DELETE") refl)

method_token : (r : Request) → IsToken (method_text r)
method_token (request.Get at) = get_token
method_token (request.Children at after) = get_token
method_token (request.MakeFolder at name behaviour) = post_token
method_token (request.Put at bytes behaviour condition) = put_token
method_token (request.Patch at name parent condition) = patch_token
method_token (request.Delete at condition) = delete_token
method_token (request.Content at) = get_token
method_token (request.Download id version) = get_token
method_token (request.OpenSession at name behaviour condition defer) = post_token
method_token (request.Fragment session first last total bytes) = put_token
method_token (request.SessionStatus session) = get_token
method_token (request.CancelSession session) = delete_token
method_token (request.Finish session) = post_token
method_token (request.Delta token) = get_token

visible_uri : (b : ℕ) → is_visible b ≡ true → is_uri_byte b ≡ true
visible_uri b visible = grind (arith, nat_tests)

head_is : (base : List ℕ) (r : Request) → IsReadAgain r → All IsHeader (headers_of base r) → IsRequestHead (request_head base r)
unfolding request_head
head_is base r again headers = record {
  method = method_token r;
  target = (again.some, weaker is_visible is_uri_byte visible_uri (target_text r) again.visible);
  target_text = IsUtf8-from_ascii (target_text r) (ascii (target_text r) again.visible);
  minor = lit≤ tt;
  fields = fields_are (headers_of base r) headers;
}

-- a request's line before some text
line_before : (m t s : List ℕ) → ((m ++ codes " ") ++ (t ++ version_end)) ++ s ≡ m ++ (32 ∷ (t ++ (version_end ++ s)))
line_before m t s =
    append_assoc (m ++ codes " ") (t ++ version_end) s ∙ append_assoc m (codes " ") ((t ++ version_end) ++ s) ∙ ap (λ (x : List ℕ). m ++ (32 ∷ x)) (append_assoc t version_end s)

-- the last lines join
pub joins : (line first type len : List ℕ) → (line ++ first) ++ (type ++ (len ++ line_end)) ≡ line ++ ((first ++ (type ++ len)) ++ line_end)
joins line first type len =
    append_assoc line first (type ++ (len ++ line_end))
    ∙ ap (λ (x : List ℕ). line ++ x) (ap (λ (x : List ℕ). first ++ x) (sym (append_assoc type len line_end)) ∙ sym (append_assoc first (type ++ len) line_end))

printed_head : (base : List ℕ) (r : Request)
    → print_request (request_head base r) ≡ method_text r ++ (32 ∷ (target_text r ++ (codes " HTTP/1.1\r\n" ++ (flat_map print_field (map line_of (headers_of base r)) ++ line_end))))
unfolding request_head
printed_head base r =
    let h = request_head base r in
    sym (append-nil (print_request h)) ∙ print_request-append h []
    ∙ ap (λ (x : List ℕ). method_text r ++ (32 ∷ (target_text r ++ (codes " HTTP/1.1\r\n" ++ x)))) (append-nil (flat_map print_field (map line_of (headers_of base r)) ++ line_end))

head_printed : (base : List ℕ) (r : Request) → headers_text base r ≡ flat_map print_field (map line_of (headers_of base r)) → written_head base r ≡ print_request (request_head base r)
unfolding line_text version_end
head_printed base r text =
    joins (line_text r) (host_text base ++ (condition_header r ++ range_header r)) (type_text (json_of r)) (length_text (length (written_body r)))
    ∙ line_before (method_text r) (target_text r) (headers_text base r ++ line_end)
    ∙ ap (λ (x : List ℕ). method_text r ++ (32 ∷ (target_text r ++ (codes " HTTP/1.1\r\n" ++ (x ++ line_end))))) text ∙ sym (printed_head base r)

whole_is : (base : List ℕ) (r : Request) → written_request base r ≡ written_head base r ++ written_body r
unfolding written_request body_text
whole_is base r =
    let n = length_text (length (written_body r)) in
    let type = type_text (json_of r) in
    ap (λ (x : List ℕ). first_part base r ++ (type ++ x)) (sym (append_assoc n line_end (written_body r)))
    ∙ ap (λ (x : List ℕ). first_part base r ++ x) (sym (append_assoc type (n ++ line_end) (written_body r)))
    ∙ sym (append_assoc (first_part base r) (type ++ (n ++ line_end)) (written_body r))

-- ---- what the head announces

framed : (host : List ℕ) (condition : Condition) (range json : Option (List ℕ)) (n : ℕ) → n ≤ 67108864 → framing (Ok 0) (shape host condition range json n) ≡ Ok n
unfolding shape match_of range_in type_in length_in
framed host Free None None n short = length_again n short
framed host Free None (Some json) n short = length_again n short
framed host Free (Some range) None n short = length_again n short
framed host Free (Some range) (Some json) n short = length_again n short
framed host (Match text) None None n short = length_again n short
framed host (Match text) None (Some json) n short = length_again n short
framed host (Match text) (Some range) None n short = length_again n short
framed host (Match text) (Some range) (Some json) n short = length_again n short

few : (host : List ℕ) (condition : Condition) (range json : Option (List ℕ)) (n : ℕ) → length (map line_of (shape host condition range json n)) ≤ 64
unfolding shape match_of range_in type_in length_in
few host Free None None n = lit≤ tt
few host Free None (Some json) n = lit≤ tt
few host Free (Some range) None n = lit≤ tt
few host Free (Some range) (Some json) n = lit≤ tt
few host (Match text) None None n = lit≤ tt
few host (Match text) None (Some json) n = lit≤ tt
few host (Match text) (Some range) None n = lit≤ tt
few host (Match text) (Some range) (Some json) n = lit≤ tt

-- ---- what the headers say

read_condition : (host : List ℕ) (condition : Condition) (json : Option (List ℕ)) (n : ℕ) → IsWrittenCondition condition → condition_of (map field (shape host condition None json n)) ≡ Ok condition
unfolding shape match_of range_in type_in length_in condition_of value_in
read_condition host Free None n is = refl
read_condition host Free (Some json) n is = refl
read_condition host (Match text) None n is = rw (visible_utf8 text (text_visible text is)) refl
read_condition host (Match text) (Some json) n is = rw (visible_utf8 text (text_visible text is)) refl

other_digit : (d at : ℕ) → at < 48 → 48 ≤ d → not (nat_eq d at) ≡ true
other_digit d at below low = ap not (ne_eqb d at (λ e. omega arith))

digits_other : (at : ℕ) → at < 48 → (ds : List ℕ) → AllDigits 10 ds → Passes (λ b. not (nat_eq b at)) ds
digits_other at below [] all = All-nil (λ b. not (nat_eq b at) ≡ true)
digits_other at below (d ∷ ds) all =
    let range = digit_from_value d all.0 in
    All-cons (λ b. not (nat_eq b at) ≡ true) d ds (other_digit d at below (omega arith)) (digits_other at below ds all.1)

number_other : (at n : ℕ) → at < 48 → n < 2 ^ 64 → Passes (λ b. not (nat_eq b at)) (decimal n)
number_other at n below small = digits_other at below (decimal n) (decimal_is_IsNumeral n small).0.1

range_right : (first last total : ℕ) → range_value first last total ≡ codes "bytes " ++ (decimal first ++ (45 ∷ (decimal last ++ (47 ∷ decimal total))))
unfolding range_value
range_right first last total =
    let front : List ℕ = codes "bytes " ++ decimal first in
    append_assoc (front ++ codes "-" ++ decimal last) (codes "/") (decimal total) ∙ append_assoc (front ++ codes "-") (decimal last) (47 ∷ decimal total)
    ∙ append_assoc front (codes "-") (decimal last ++ (47 ∷ decimal total)) ∙ append_assoc (codes "bytes ") (decimal first) (45 ∷ (decimal last ++ (47 ∷ decimal total)))

range_front : (rest : List ℕ) → range_of_text (codes "bytes " ++ rest) ≡ range_in_parts (cut 45 rest)
unfolding range_of_text past
range_front rest = refl

range_again : (first last total : ℕ) → first < 2 ^ 64 → last < 2 ^ 64 → total < 2 ^ 64 → range_of_text (range_value first last total) ≡ Some (record { first = first; last = last; total = total })
range_again first last total f l t =
    ap range_of_text (range_right first last total) ∙ range_front (decimal first ++ (45 ∷ (decimal last ++ (47 ∷ decimal total))))
    ∙ ap range_in_parts (cut_there 45 (decimal first) (decimal last ++ (47 ∷ decimal total)) (number_other 45 first (lit< tt) f))
    ∙ ap (range_to (decimal first)) (cut_there 47 (decimal last) (decimal total) (number_other 47 last (lit< tt) l))
    ∙ ap (λ (n : Option ℕ). range_from n (number_of_text (decimal last)) (number_of_text (decimal total))) (number_again first f)
    ∙ ap (λ (n : Option ℕ). range_from (Some first) n (number_of_text (decimal total))) (number_again last l) ∙ ap (λ (n : Option ℕ). range_from (Some first) (Some last) n) (number_again total t)

read_range : (host : List ℕ) (n first last total : ℕ) → first < 2 ^ 64 → last < 2 ^ 64 → total < 2 ^ 64
    → range_of (map field (shape host Free (Some (range_value first last total)) None n)) ≡ Ok (record { first = first; last = last; total = total })
unfolding shape match_of range_in type_in length_in range_of value_in
read_range host n first last total f l t = rw (range_again first last total f l t) refl

-- ---- what the query says

one_part : (query : List ℕ) → Passes is_member_byte query → parts 38 query ≡ query ∷ []
one_part query all = parts_cut 38 query ∙ rw (cut_nowhere 38 query (weaker is_member_byte (λ b. not (nat_eq b 38)) member_no_and query all)) refl

behaviour_read : (behaviour : Conflict) → behaviour_at (Some (codes "@microsoft.graph.conflictBehavior=" ++ behaviour_text behaviour)) ≡ Ok behaviour
unfolding behaviour_at member_in past parts behaviour_of
behaviour_read Fail = refl
behaviour_read Replace = refl
behaviour_read Rename = refl

after_read : (name : List ℕ) → IsSegmentName name → after_at (Some (codes "$skiptoken=" ++ escaped name)) ≡ Ok (Some name)
unfolding after_at member_in past
after_read name is =
    let all = joined is_member_byte (codes "$skiptoken=") (escaped name) (literal is_member_byte (codes "$skiptoken=") refl) (weaker is_plain is_member_byte plain_member (escaped name) (name_plain name)) in
    rw (one_part (codes "$skiptoken=" ++ escaped name) all) (rw (escapes_read_back name is) refl)

letter_member : (b : ℕ) → is_token_letter b ≡ true → is_member_byte b ≡ true
letter_member b letter = grind (arith, nat_tests)

letter_visible : (b : ℕ) → is_token_letter b ≡ true → is_visible b ≡ true
letter_visible b letter = grind (arith, nat_tests)

token_read : (token : List ℕ) → IsWrittenToken token → token_at (Some (codes "token=" ++ token)) ≡ Ok (Some token)
unfolding token_at member_in past
token_read token is =
    let all = joined is_member_byte (codes "token=") token (literal is_member_byte (codes "token=") refl) (weaker is_token_letter is_member_byte letter_member token is.1) in
    rw (one_part (codes "token=" ++ token) all) (rw (visible_utf8 token (weaker is_token_letter is_visible letter_visible token is.1)) refl)

-- ---- what is asked for

none_after : (at : Address) → (after_at None >>= λ after. ask (request.Children at after)) ≡ Ok (Ask (request.Children at None))
unfolding after_at
none_after at = refl

none_token : (token_at None >>= λ token. ask (request.Delta token)) ≡ Ok (Ask (request.Delta None))
unfolding token_at
none_token = refl

some_is : (p id : ItemId) → Some p ≡ Some id → p ≡ id
some_is p id e = cc

parent_written : (name : Option (List ℕ)) (parent : Option ItemId) → IfGiven IsWrittenId parent → IsWritablePatch (record { name = name; parent = parent })
parent_written name None is = λ id e. absurd cc
parent_written name (Some p) is = λ id e. subst (λ (x : ItemId). 0 < x.0) (some_is p id e) is

asked_read : (host : List ℕ) (n : ℕ) (r : Request) → IsWritten r → IsKnown r → HasBody r
    → asked_of (resource_asked r) (method_of (method_text r)) (query_asked r) (map field (shape host (condition_asked r) (range_asked r) (json_of r) n)) (written_body r) ≡ Ok (Ask r)
unfolding asked_of on_item on_children on_content on_uploads on_session on_changes method_of condition_asked range_asked
asked_read host n (request.Get at) is known has = refl
asked_read host n (request.Children at None) is known has = none_after at
asked_read host n (request.Children at (Some name)) is known has = rw (after_read name is.1) refl
asked_read host n (request.MakeFolder at name behaviour) is known has = rw has refl
asked_read host n (request.Put at bytes behaviour condition) is known has = rw (behaviour_read behaviour, read_condition host condition None n is.2) refl
asked_read host n (request.Patch at name parent condition) is known has = rw (read_condition host condition (json_of (request.Patch at name parent condition)) n is.2, has (parent_written name parent is.1)) refl
asked_read host n (request.Delete at condition) is known has = rw (read_condition host condition None n is.1) refl
asked_read host n (request.Content at) is known has = refl
asked_read host n (request.Download id version) is known has = refl
asked_read host n (request.OpenSession at name behaviour condition defer) is known has =
    rw (read_condition host condition (json_of (request.OpenSession at name behaviour condition defer)) n is.1, has) refl
asked_read host n (request.Fragment session first last total bytes) is known has = rw (read_range host n first last total known.1 known.2 known.3) refl
asked_read host n (request.SessionStatus session) is known has = refl
asked_read host n (request.CancelSession session) is known has = refl
asked_read host n (request.Finish session) is known has = refl
asked_read host n (request.Delta None) is known has = none_token
asked_read host n (request.Delta (Some token)) is known has = rw (token_read token is) refl

asked_again : (base : List ℕ) (r : Request) → IsReadAgain r → IsWritten r → IsKnown r → HasBody r → asked (method_text r) (target_text r) (map field (headers_of base r)) (written_body r) ≡ Ok (Ask r)
unfolding asked headers_of
asked_again base r again is known has = rw (again.resource, again.query) (asked_read (drop 7 base) (length (written_body r)) r is known has)

few_of : (base : List ℕ) (r : Request) → length (request_head base r).fields ≤ 64
unfolding request_head headers_of
few_of base r = few (drop 7 base) (condition_asked r) (range_asked r) (json_of r) (length (written_body r))

framed_of : (base : List ℕ) (r : Request) → map name_and_value (map line_of (headers_of base r)) ≡ headers_of base r → length (written_body r) ≤ 67108864
    → framing (Ok 0) (map name_and_value (request_head base r).fields) ≡ Ok (length (written_body r))
unfolding request_head headers_of
framed_of base r values short = ap (framing (Ok 0)) values ∙ framed (drop 7 base) (condition_asked r) (range_asked r) (json_of r) (length (written_body r)) short

meaning : (base : List ℕ) (r : Request) → map name_and_value (map line_of (headers_of base r)) ≡ headers_of base r
    → asked (method_text r) (target_text r) (map field (headers_of base r)) (written_body r) ≡ Ok (Ask r)
    → incoming_of_frame (request_frame (request_head base r) (written_body r)) ≡ Ask r
unfolding request_head
meaning base r values said = rw (values, said) refl

pub sent : (base : List ℕ) (r : Request) (bytes : List ℕ) → bytes ≡ written_request base r → IsKnown r → HasBody r → IsSendable base r → RequestBytes bytes (Ask r)
sent base r bytes is known has sendable =
    let again = read_again r sendable.value known in
    let prints = prints_headers base r sendable known in
    let printed = head_printed base r prints.text in
    let values = values_are (headers_of base r) prints.headers in
    let message : IsMessage requests bytes = record {
      head = request_head base r;
      body = written_body r;
      begins = record {
        reads = (head_is base r again prints.headers, is ∙ whole_is base r ∙ ap (λ (x : List ℕ). x ++ written_body r) printed);
        short = subst (λ (x : List ℕ). length x ≤ 65536) printed sendable.head;
        few = few_of base r;
      };
      framed = framed_of base r values sendable.body;
    } in (
      request_frame (request_head base r) (written_body r),
      (message, refl),
      sym (meaning base r values (asked_again base r again sendable.value known has)),
    )
