-- Written replies are read again as what they were written for.
use Rattle.std.proofs.Common.{◌≡◌, ℕ, ◌+◌, ◌/◌, ◌%◌, ◌^◌, ◌<◌, ◌≤◌, Bool, true, false, not, ◌||◌, nat_eq, List, [], ◌∷◌, ◌++◌, map, length, take, All, Option, Some, None, Result, Ok, Err, refl, sym, ap, ◌∙◌, subst, arith, append_assoc, append-nil, length-append, lit≤, lit<}
use Rattle.std.specs.Prelude.{codes, option_map}
use Rattle.std.specs.Char.{is_ascii_digit}
use Rattle.std.specs.Cmp.Lexicographic.{pointwise, bytes_decides}
use Rattle.std.specs.Fmt.{decimal}
use Rattle.std.specs.List.{flat_map, list_all}
use Rattle.std.specs.Str.Parse.{AllDigits}
use Rattle.std.proofs.Math.Seq.{take-append_seam, drop-append_seam}
use Rattle.std.proofs.lemmas.Bool.{and_parts, eqb-true}
use Rattle.std.proofs.lemmas.Bool.Decides.{nat_tests}
use Rattle.std.proofs.lemmas.Fmt.{decimal_is_IsNumeral, decimal_step, decimal_digit}
use Rattle.std.proofs.lemmas.List.Elements.{All-nil, All-cons}
use Rattle.std.proofs.lemmas.Str.Parse.{digit_from_value}
use Rattle.httparse.specs.Grammar.{ResponseHead, IsResponseHead, print_response, print_field, is_value_byte, status_code, crlf}
use Rattle.httparse.specs.Spans.{name_and_value}
use Rattle.httparse.proofs.GrammarLemmas.{print_response-append}
use Rattle.serde_json.specs.Data.{Data}
use Rattle.serde_json.specs.Read.{read}
use Rattle.std.specs.Str.{is_utf8}
use Rattle.gd_item.specs.Replies.{has_status, may_answer, status_of_reply}
use Rattle.gd_item.specs.declared.fault.ErrorCode.{ErrorCode}
use Rattle.gd_item.specs.declared.fault.ErrorCode.TheVariants as code
use Rattle.gd_item.specs.declared.id.ItemId.{ItemId}
use Rattle.gd_item.specs.declared.item.Item.{Item}
use Rattle.gd_item.specs.declared.reply.Page.{Page}
use Rattle.gd_item.specs.declared.reply.Reply.{Reply}
use Rattle.gd_item.specs.declared.reply.Reply.TheVariants as reply
use Rattle.gd_item.specs.declared.reply.Resync.{Resync}
use Rattle.gd_item.specs.declared.reply.Resync.TheVariants.{ApplyDifferences, UploadDifferences}
use Rattle.gd_item.specs.declared.request.RequestKind.{RequestKind}
use Rattle.gd_item.specs.declared.request.RequestKind.TheVariants as kind
use Rattle.gd_json.specs.Bases.{is_base}
use Rattle.gd_json.specs.Bodies.{value_at, text_at, body}
use Rattle.gd_json.specs.Errors.{error_at}
use Rattle.gd_json.specs.Faults.{◌>>=◌}
use Rattle.gd_json.specs.Items.{item_at}
use Rattle.gd_json.specs.Links.{past}
use Rattle.gd_json.specs.Lists.{children_at, page_at}
use Rattle.gd_json.specs.Sessions.{status_at, session_at}
use Rattle.gd_json.specs.declared.fault.JsonFault.{JsonFault}
use Rattle.gd_json.specs.declared.session.SessionBody.{SessionBody}
use Rattle.gd_target.specs.Targets.{download_text, delta_text}
use Rattle.gd_target.proofs.Plain.{Passes, literal, joined, is_visible}
use Rattle.gd_target.proofs.Again.{found_again, download_visible}
use Rattle.gd_frame.specs.Framing.{framing, reply_without_length}
use Rattle.gd_frame.specs.Frames.{field, reply_frame}
use Rattle.gd_frame.specs.Messages.{IsMessage}
use Rattle.gd_frame.specs.Syntax.{replies}
use Rattle.gd_frame.specs.declared.frame.Field.{Field}
use Rattle.gd_http.specs.Answering.{item_in, list_in, session_in, expected_in, error_in, location_of, found_behind, found_below, found_in, is_feed, okay_of, moved_of, resync_of, gone_of, refused_of, reply_of}
use Rattle.gd_http.specs.Headers.{value_in}
use Rattle.gd_http.specs.HearingReplies.{Listening, reply_of_frame, ReplyBytes}
use Rattle.gd_http.specs.Sending.{reply_body, reply_head, IsWrittenReply, IsAnswer, IsKnownReply, HasReplyBody}
use Rattle.gd_http.specs.Written.{line_end, field_text, type_text, length_text, body_text}
use Rattle.gd_http.specs.WrittenReplies.{phrase_of, version_text, status_text, link_field, location_header, code_of, json_of, bytes_type, type_header, length_header, reply_front, written_reply}
use Rattle.gd_http.proofs.RequestsAgain.{json_type, joins}
use Rattle.gd_http.proofs.Sections.{base_is_visible, length_again, IsHeader, line_of, visible_header, fields_are, values_are, Prints, prints_none, prints_one, prints_both, type_token, location_token, length_header_is}

-- ---- statuses

-- a status that has three digits and a phrase
record HasLine (status : ℕ) : Type 0 where
  pub small : status < 2 ^ 64
  pub digits : length (decimal status) ≡ 3
  pub phrase : Passes is_value_byte (phrase_of status)

three_digits : (n : ℕ) → 100 ≤ n → n < 1000 → length (decimal n) ≡ 3
three_digits n low high =
    let last = ap (λ (x : List ℕ). length x) (decimal_step n (omega arith) (omega arith)) in
    let middle = ap (λ (x : List ℕ). length x) (decimal_step (n / 10) (omega arith) (omega arith)) in
    let first = ap (λ (x : List ℕ). length x) (decimal_digit (n / 10 / 10) (omega arith)) in
    omega (arith, last, middle, first, length-append (decimal (n / 10)) ((48 + n % 10) ∷ []), length-append (decimal (n / 10 / 10)) ((48 + n / 10 % 10) ∷ []))

line_for : (status : ℕ) → 100 ≤ status → status < 1000 → list_all is_value_byte (phrase_of status) ≡ true → HasLine status
line_for status low high phrase = record { small = omega arith; digits = three_digits status low high; phrase = literal is_value_byte (phrase_of status) phrase }

-- what holds of each refusal by its code and its status
record OfEach (P : ErrorCode → ℕ → Type 0) : Type 0 where
  pub invalid : P code.InvalidRequest 400
  pub large : P code.InvalidRequest 413
  pub unranged : P code.InvalidRange 400
  pub range : P code.InvalidRange 416
  pub missing : P code.ItemNotFound 404
  pub method : P code.NotSupported 405
  pub coding : P code.NotSupported 501
  pub taken : P code.NameAlreadyExists 409
  pub modified : P code.ResourceModified 412
  pub dependency : P code.FailedDependency 424
  pub memory : P code.GeneralException 503
  pub quota : P code.QuotaLimitReached 507

at_status : (P : ℕ → Type 0) (status k : ℕ) → nat_eq status k ≡ true → P k → P status
at_status P status k e p = subst P (sym (eqb-true status k e)) p

either : (P : Type 0) (a b : Bool) → (a || b) ≡ true → (a ≡ true → P) → (b ≡ true → P) → P
either P true b e f g = f refl
either P false b e f g = g e

not_gone : (P : Type 0) (status : ℕ) → nat_eq status 410 ≡ true → not (nat_eq status 410) ≡ true → P
not_gone P status is other = let h : false ≡ true = sym (ap not is) ∙ other in absurd cc

of_each : (P : ErrorCode → ℕ → Type 0) → OfEach P → (c : ErrorCode) (status : ℕ) → has_status c status ≡ true → not (nat_eq status 410) ≡ true → P c status
of_each P p code.InvalidRequest status has other =
    either (P code.InvalidRequest status) (nat_eq status 400) (nat_eq status 413) has (λ e. at_status (P code.InvalidRequest) status 400 e p.invalid) (λ e. at_status (P code.InvalidRequest) status 413 e p.large)
of_each P p code.InvalidRange status has other =
    either (P code.InvalidRange status) (nat_eq status 400) (nat_eq status 416) has (λ e. at_status (P code.InvalidRange) status 400 e p.unranged) (λ e. at_status (P code.InvalidRange) status 416 e p.range)
of_each P p code.ItemNotFound status has other = at_status (P code.ItemNotFound) status 404 has p.missing
of_each P p code.NotSupported status has other =
    either (P code.NotSupported status) (nat_eq status 405) (nat_eq status 501) has (λ e. at_status (P code.NotSupported) status 405 e p.method) (λ e. at_status (P code.NotSupported) status 501 e p.coding)
of_each P p code.NameAlreadyExists status has other = at_status (P code.NameAlreadyExists) status 409 has p.taken
of_each P p code.ResyncChangesApplyDifferences status has other = not_gone (P code.ResyncChangesApplyDifferences status) status has other
of_each P p code.ResyncChangesUploadDifferences status has other = not_gone (P code.ResyncChangesUploadDifferences status) status has other
of_each P p code.ResourceModified status has other = at_status (P code.ResourceModified) status 412 has p.modified
of_each P p code.FailedDependency status has other = at_status (P code.FailedDependency) status 424 has p.dependency
of_each P p code.GeneralException status has other = at_status (P code.GeneralException) status 503 has p.memory
of_each P p code.QuotaLimitReached status has other = at_status (P code.QuotaLimitReached) status 507 has p.quota

refusal_lines : OfEach (λ c status. HasLine status)
unfolding phrase_of
refusal_lines = record {
  invalid = line_for 400 (lit≤ tt) (lit< tt) refl;
  large = line_for 413 (lit≤ tt) (lit< tt) refl;
  unranged = line_for 400 (lit≤ tt) (lit< tt) refl;
  range = line_for 416 (lit≤ tt) (lit< tt) refl;
  missing = line_for 404 (lit≤ tt) (lit< tt) refl;
  method = line_for 405 (lit≤ tt) (lit< tt) refl;
  coding = line_for 501 (lit≤ tt) (lit< tt) refl;
  taken = line_for 409 (lit≤ tt) (lit< tt) refl;
  modified = line_for 412 (lit≤ tt) (lit< tt) refl;
  dependency = line_for 424 (lit≤ tt) (lit< tt) refl;
  memory = line_for 503 (lit≤ tt) (lit< tt) refl;
  quota = line_for 507 (lit≤ tt) (lit< tt) refl;
}

has_line : (r : Reply) → IsWrittenReply r → HasLine (status_of_reply r)
unfolding phrase_of
has_line (reply.Made item) is = line_for 201 (lit≤ tt) (lit< tt) refl
has_line (reply.Is item) is = line_for 200 (lit≤ tt) (lit< tt) refl
has_line (reply.Listed items next) is = line_for 200 (lit≤ tt) (lit< tt) refl
has_line reply.Done is = line_for 204 (lit≤ tt) (lit< tt) refl
has_line (reply.Found id version) is = line_for 302 (lit≤ tt) (lit< tt) refl
has_line (reply.Content bytes) is = line_for 200 (lit≤ tt) (lit< tt) refl
has_line (reply.Session session expected) is = line_for 200 (lit≤ tt) (lit< tt) refl
has_line (reply.Status expected) is = line_for 200 (lit≤ tt) (lit< tt) refl
has_line (reply.More expected) is = line_for 202 (lit≤ tt) (lit< tt) refl
has_line (reply.Page page) is = line_for 200 (lit≤ tt) (lit< tt) refl
has_line (reply.Gone resync) is = line_for 410 (lit≤ tt) (lit< tt) refl
has_line (reply.Refused status c) is =
    let parts = and_parts (has_status c status) (not (nat_eq status 410)) is in
    of_each (λ c status. HasLine status) refusal_lines c status parts.0 parts.1

-- ---- the headers of a reply

abbrev Headers : Type 0
Headers = List (List ℕ × List ℕ)

place_of : List ℕ → Reply → Option (List ℕ)
place_of base (reply.Found id version) = Some (base ++ download_text id version)
place_of base (reply.Gone resync) = Some (base ++ delta_text None)
place_of base r = None

type_of : List ℕ → Reply → Option (List ℕ)
type_of base (reply.Content bytes) = Some (codes "application/octet-stream")
type_of base reply.Done = None
type_of base (reply.Found id version) = None
type_of base r = Some (codes "application/json")

length_of : Reply → ℕ → Option ℕ
length_of reply.Done n = None
length_of r n = Some n

place_in : Option (List ℕ) → Headers
place_in None = []
place_in (Some link) = (codes "Location", link) ∷ []

type_in : Option (List ℕ) → Headers
type_in None = []
type_in (Some type) = (codes "Content-Type", type) ∷ []

length_in : Option ℕ → Headers
length_in None = []
length_in (Some n) = (codes "Content-Length", decimal n) ∷ []

shape : Option (List ℕ) → Option (List ℕ) → Option ℕ → Headers
shape place type n = place_in place ++ (type_in type ++ length_in n)

headers_of : List ℕ → Reply → Headers
headers_of base r = shape (place_of base r) (type_of base r) (length_of r (length (reply_body base r)))

link_is : (base path : List ℕ) → is_base base ≡ true → Passes is_visible path → IsHeader (codes "Location", base ++ path)
link_is base path is visible = visible_header (codes "Location") (base ++ path) location_token (joined is_visible base path (base_is_visible base is) visible)

prints_place : (base : List ℕ) (r : Reply) → is_base base ≡ true → IsWrittenReply r → IsKnownReply r → Prints (location_header base r) (place_in (place_of base r))
unfolding place_of place_in link_field delta_text
prints_place base (reply.Found id version) is written known =
    prints_one (codes "Location") (base ++ download_text id version) (link_is base (download_text id version) is (download_visible id version written known.0 known.1))
prints_place base (reply.Gone resync) is written known =
    prints_one (codes "Location") (base ++ codes "/v1.0/me/drive/root/delta") (link_is base (codes "/v1.0/me/drive/root/delta") is (literal is_visible (codes "/v1.0/me/drive/root/delta") refl))
prints_place base r is written known = prints_none

bytes_header : IsHeader (codes "Content-Type", codes "application/octet-stream")
bytes_header = visible_header (codes "Content-Type") (codes "application/octet-stream") type_token (literal is_visible (codes "application/octet-stream") refl)

prints_bytes : Prints bytes_type ((codes "Content-Type", codes "application/octet-stream") ∷ [])
unfolding bytes_type
prints_bytes = prints_one (codes "Content-Type") (codes "application/octet-stream") bytes_header

prints_json : Prints (field_text (codes "Content-Type") (codes "application/json")) ((codes "Content-Type", codes "application/json") ∷ [])
prints_json = prints_one (codes "Content-Type") (codes "application/json") json_type

prints_type : (base : List ℕ) (r : Reply) → Prints (type_header r (json_of base r)) (type_in (type_of base r))
unfolding type_of type_in type_text
prints_type base (reply.Content bytes) = prints_bytes
prints_type base reply.Done = prints_none
prints_type base (reply.Found id version) = prints_none
prints_type base r = prints_json

prints_length : (r : Reply) (n : ℕ) → n < 2 ^ 64 → Prints (length_header r n) (length_in (length_of r n))
unfolding length_of length_in length_text
prints_length reply.Done n small = prints_none
prints_length r n small = prints_one (codes "Content-Length") (decimal n) (length_header_is n small)

abbrev headers_text : List ℕ → Reply → List ℕ
headers_text base r = location_header base r ++ (type_header r (json_of base r) ++ length_header r (length (reply_body base r)))

prints_headers : (base : List ℕ) (kind : RequestKind) (r : Reply) → IsAnswer base kind r → IsKnownReply r → Prints (headers_text base r) (headers_of base r)
unfolding headers_of shape
prints_headers base kind r is known =
    let n = length (reply_body base r) in
    let small : n < 2 ^ 64 = (let short = is.body in omega arith) in
    prints_both (location_header base r) (type_header r (json_of base r) ++ length_header r n) (place_in (place_of base r)) (type_in (type_of base r) ++ length_in (length_of r n))
    (prints_place base r is.base is.value known)
    (prints_both (type_header r (json_of base r)) (length_header r n) (type_in (type_of base r)) (length_in (length_of r n)) (prints_type base r) (prints_length r n small))

-- ---- the head

response_head : List ℕ → Reply → ResponseHead
response_head base r = record {
  blank = [];
  minor = 1;
  digits = decimal (status_of_reply r);
  reason = Some (phrase_of (status_of_reply r));
  line_end = crlf;
  fields = map line_of (headers_of base r);
  last = crlf;
}

digit_byte : (d : ℕ) → 48 ≤ d → d ≤ 57 → is_ascii_digit d ≡ true
digit_byte d low high = grind (arith, nat_tests)

digit_bytes : (ds : List ℕ) → AllDigits 10 ds → Passes is_ascii_digit ds
digit_bytes [] all = All-nil (λ b. is_ascii_digit b ≡ true)
digit_bytes (d ∷ ds) all =
    let range = digit_from_value d all.0 in
    All-cons (λ b. is_ascii_digit b ≡ true) d ds (digit_byte d (omega arith) (omega arith)) (digit_bytes ds all.1)

head_is : (base : List ℕ) (r : Reply) → HasLine (status_of_reply r) → All IsHeader (headers_of base r) → IsResponseHead (response_head base r)
unfolding response_head
head_is base r line headers = record {
  minor = lit≤ tt;
  digits = (line.digits, digit_bytes (decimal (status_of_reply r)) (decimal_is_IsNumeral (status_of_reply r) line.small).0.1);
  reason = line.phrase;
  fields = fields_are (headers_of base r) headers;
}

status_is : (base : List ℕ) (r : Reply) → HasLine (status_of_reply r) → status_code (response_head base r) ≡ status_of_reply r
unfolding response_head
status_is base r line = (decimal_is_IsNumeral (status_of_reply r) line.small).1

status_before : (d p s : List ℕ) → ((version_text ++ d) ++ ((codes " " ++ p) ++ line_end)) ++ s ≡ version_text ++ (d ++ (32 ∷ (p ++ (line_end ++ s))))
status_before d p s =
    append_assoc (version_text ++ d) ((codes " " ++ p) ++ line_end) s ∙ append_assoc version_text d (((codes " " ++ p) ++ line_end) ++ s)
    ∙ ap (λ (x : List ℕ). version_text ++ (d ++ x)) (append_assoc (codes " " ++ p) line_end s)

printed_head : (base : List ℕ) (r : Reply)
    → print_response (response_head base r) ≡ codes "HTTP/1.1 " ++ (decimal (status_of_reply r) ++ (32 ∷ (phrase_of (status_of_reply r) ++ (line_end ++ (flat_map print_field (map line_of (headers_of base r)) ++ line_end)))))
unfolding response_head
printed_head base r =
    let h = response_head base r in
    sym (append-nil (print_response h)) ∙ print_response-append h []
    ∙ ap (λ (x : List ℕ). codes "HTTP/1.1 " ++ (decimal (status_of_reply r) ++ (32 ∷ (phrase_of (status_of_reply r) ++ (line_end ++ x))))) (append-nil (flat_map print_field (map line_of (headers_of base r)) ++ line_end))

head_printed : (base : List ℕ) (r : Reply) → headers_text base r ≡ flat_map print_field (map line_of (headers_of base r)) → reply_head base r ≡ print_response (response_head base r)
unfolding status_text version_text
head_printed base r text =
    joins (status_text (status_of_reply r)) (location_header base r) (type_header r (json_of base r)) (length_header r (length (reply_body base r)))
    ∙ status_before (decimal (status_of_reply r)) (phrase_of (status_of_reply r)) (headers_text base r ++ line_end)
    ∙ ap (λ (x : List ℕ). codes "HTTP/1.1 " ++ (decimal (status_of_reply r) ++ (32 ∷ (phrase_of (status_of_reply r) ++ (line_end ++ (x ++ line_end)))))) text ∙ sym (printed_head base r)

whole_is : (base : List ℕ) (r : Reply) → written_reply base r ≡ reply_head base r ++ reply_body base r
unfolding written_reply body_text
whole_is base r =
    let n = length_header r (length (reply_body base r)) in
    let type = type_header r (json_of base r) in
    ap (λ (x : List ℕ). reply_front base r ++ (type ++ x)) (sym (append_assoc n line_end (reply_body base r)))
    ∙ ap (λ (x : List ℕ). reply_front base r ++ x) (sym (append_assoc type (n ++ line_end) (reply_body base r)))
    ∙ sym (append_assoc (reply_front base r) (type ++ (n ++ line_end)) (reply_body base r))

-- ---- what the head announces

framed : (place type : Option (List ℕ)) (status n : ℕ) → n ≤ 67108864 → framing (reply_without_length status) (shape place type (Some n)) ≡ Ok n
unfolding shape place_in type_in length_in
framed None None status n short = length_again n short
framed None (Some type) status n short = length_again n short
framed (Some place) None status n short = length_again n short
framed (Some place) (Some type) status n short = length_again n short

few : (place type : Option (List ℕ)) (n : Option ℕ) → length (map line_of (shape place type n)) ≤ 64
unfolding shape place_in type_in length_in
few None None None = lit≤ tt
few None None (Some n) = lit≤ tt
few None (Some type) None = lit≤ tt
few None (Some type) (Some n) = lit≤ tt
few (Some place) None None = lit≤ tt
few (Some place) None (Some n) = lit≤ tt
few (Some place) (Some type) None = lit≤ tt
few (Some place) (Some type) (Some n) = lit≤ tt

framed_done : (base : List ℕ) → framing (reply_without_length 204) (headers_of base reply.Done) ≡ Ok 0
unfolding headers_of shape place_of place_in type_of type_in length_of length_in
framed_done base = refl

framed_reply : (base : List ℕ) (r : Reply) → length (reply_body base r) ≤ 67108864 → framing (reply_without_length (status_of_reply r)) (headers_of base r) ≡ Ok (length (reply_body base r))
unfolding headers_of length_of
framed_reply base reply.Done short = framed_done base
framed_reply base r short = framed (place_of base r) (type_of base r) (status_of_reply r) (length (reply_body base r)) short

-- ---- what a reply says

past_again : (text rest : List ℕ) → past text (text ++ rest) ≡ Some rest
unfolding past
past_again text rest =
    let begins : pointwise nat_eq text (take (length text) (text ++ rest)) ≡ true = (bytes_decides text (take (length text) (text ++ rest))).1 (sym (take-append_seam text rest)) in
    rw (begins, drop-append_seam text rest) refl

place_read : (link : List ℕ) (type : Option (List ℕ)) (n : Option ℕ) → location_of (map field (shape (Some link) type n)) ≡ Some link
unfolding shape place_in type_in length_in location_of value_in
place_read link None None = refl
place_read link None (Some n) = refl
place_read link (Some type) None = refl
place_read link (Some type) (Some n) = refl

found_read : (base : List ℕ) (id : ItemId) (version : ℕ) → 0 < id.0 → id.0 < 2 ^ 64 → version < 2 ^ 64 → found_in base (base ++ download_text id version) ≡ Some (reply.Found id version)
unfolding found_in found_below found_behind
found_read base id version some small below =
    let found = found_again id version some small below in
    rw (past_again base (download_text id version)) (rw (found.0) (rw (found.1) refl))

feed_read : (base : List ℕ) → is_feed base (base ++ delta_text None) ≡ true
unfolding is_feed
feed_read base = (bytes_decides (base ++ delta_text None) (base ++ delta_text None)).1 refl

gone_code : (resync : Resync) → resync_of (code_of resync) ≡ Some resync
gone_code ApplyDifferences = refl
gone_code UploadDifferences = refl

ok_is : (x y : SessionBody) → let ok : SessionBody → Result SessionBody JsonFault = Ok in ok x ≡ ok y → x ≡ y
ok_is x y e = cc

ok_expected : (session : Option ℕ) (expected : ℕ) (v : SessionBody) → let ok : SessionBody → Result SessionBody JsonFault = Ok in ok (record { session = session; expected = expected }) ≡ ok v
    → let ok : ℕ → Result ℕ JsonFault = Ok in ok expected ≡ ok v.expected
ok_expected session expected v e = ap (λ (v : SessionBody). Ok v.expected) (ok_is (record { session = session; expected = expected }) v e)

by_both : (v : SessionBody) (o : Result (Option ℕ) JsonFault) (x : Result ℕ JsonFault) → (o >>= λ session. x >>= λ expected. Ok (record { session = session; expected = expected })) ≡ Ok v → x ≡ Ok v.expected
by_both v (Err e) x eq = absurd cc
by_both v (Ok session) (Err e) eq = absurd cc
by_both v (Ok session) (Ok expected) eq = ok_expected session expected v eq

by_value : (base : List ℕ) (v : SessionBody) (found : Option Data) → value_at (session_at base) found ≡ Ok v → value_at status_at found ≡ Ok v.expected
unfolding session_at
by_value base v None eq = absurd cc
by_value base v (Some d) eq = by_both v _ (status_at d) eq

by_text : (base bytes : List ℕ) (v : SessionBody) (t : Bool) → text_at (session_at base) t bytes ≡ Ok v → text_at status_at t bytes ≡ Ok v.expected
by_text base bytes v false eq = absurd cc
by_text base bytes v true eq = by_value base v (read bytes) eq

-- what names a session and what is expected says what is expected
status_read : (base bytes : List ℕ) (v : SessionBody) → body (session_at base) bytes ≡ Ok v → body status_at bytes ≡ Ok v.expected
status_read base bytes v has = by_text base bytes v (is_utf8 bytes) has

made_read : (base : List ℕ) (k : RequestKind) (item : Item) (fields : List Field) (bytes : List ℕ) → may_answer k (reply.Made item) ≡ true → body item_at bytes ≡ Ok item
    → reply_of base k 201 fields bytes ≡ Some (reply.Made item)
unfolding reply_of item_in
made_read base kind.MakeFolder item fields bytes may has = rw has refl
made_read base kind.Put item fields bytes may has = rw has refl
made_read base kind.Fragment item fields bytes may has = rw has refl
made_read base kind.Finish item fields bytes may has = rw has refl
made_read base k item fields bytes may has = absurd cc

is_read : (base : List ℕ) (k : RequestKind) (item : Item) (fields : List Field) (bytes : List ℕ) → may_answer k (reply.Is item) ≡ true → body item_at bytes ≡ Ok item
    → reply_of base k 200 fields bytes ≡ Some (reply.Is item)
unfolding reply_of okay_of item_in
is_read base kind.Get item fields bytes may has = rw has refl
is_read base kind.Put item fields bytes may has = rw has refl
is_read base kind.Patch item fields bytes may has = rw has refl
is_read base kind.Fragment item fields bytes may has = rw has refl
is_read base kind.Finish item fields bytes may has = rw has refl
is_read base k item fields bytes may has = absurd cc

list_read : (base : List ℕ) (k : RequestKind) (items : List Item) (next : Option (List ℕ)) (fields : List Field) (bytes : List ℕ) → may_answer k (reply.Listed items next) ≡ true
    → body (children_at base) bytes ≡ Ok (record { items = items; next = next }) → reply_of base k 200 fields bytes ≡ Some (reply.Listed items next)
unfolding reply_of okay_of list_in
list_read base kind.Children items next fields bytes may has = rw has refl
list_read base k items next fields bytes may has = absurd cc

done_read : (base : List ℕ) (k : RequestKind) (fields : List Field) (bytes : List ℕ) → may_answer k reply.Done ≡ true → reply_of base k 204 fields bytes ≡ Some reply.Done
unfolding reply_of
done_read base kind.Delete fields bytes may = refl
done_read base kind.CancelSession fields bytes may = refl
done_read base k fields bytes may = absurd cc

moved_read : (base : List ℕ) (k : RequestKind) (id : ItemId) (version : ℕ) (fields : List Field) (bytes : List ℕ) → may_answer k (reply.Found id version) ≡ true
    → location_of fields ≡ Some (base ++ download_text id version) → found_in base (base ++ download_text id version) ≡ Some (reply.Found id version)
    → reply_of base k 302 fields bytes ≡ Some (reply.Found id version)
unfolding reply_of moved_of
moved_read base kind.Content id version fields bytes may place found = rw place found
moved_read base k id version fields bytes may place found = absurd cc

content_read : (base : List ℕ) (k : RequestKind) (fields : List Field) (bytes : List ℕ) → may_answer k (reply.Content bytes) ≡ true → reply_of base k 200 fields bytes ≡ Some (reply.Content bytes)
unfolding reply_of okay_of
content_read base kind.Download fields bytes may = refl
content_read base k fields bytes may = absurd cc

session_read : (base : List ℕ) (k : RequestKind) (session expected : ℕ) (fields : List Field) (bytes : List ℕ) → may_answer k (reply.Session session expected) ≡ true
    → body (session_at base) bytes ≡ Ok (record { session = Some session; expected = expected }) → reply_of base k 200 fields bytes ≡ Some (reply.Session session expected)
unfolding reply_of okay_of session_in
session_read base kind.OpenSession session expected fields bytes may has = rw has refl
session_read base k session expected fields bytes may has = absurd cc

progress_read : (base : List ℕ) (k : RequestKind) (expected : ℕ) (fields : List Field) (bytes : List ℕ) → may_answer k (reply.Status expected) ≡ true
    → body status_at bytes ≡ Ok expected → reply_of base k 200 fields bytes ≡ Some (reply.Status expected)
unfolding reply_of okay_of expected_in
progress_read base kind.SessionStatus expected fields bytes may has = rw has refl
progress_read base k expected fields bytes may has = absurd cc

more_read : (base : List ℕ) (k : RequestKind) (expected : ℕ) (fields : List Field) (bytes : List ℕ) → may_answer k (reply.More expected) ≡ true
    → body status_at bytes ≡ Ok expected → reply_of base k 202 fields bytes ≡ Some (reply.More expected)
unfolding reply_of expected_in
more_read base kind.Fragment expected fields bytes may has = rw has refl
more_read base k expected fields bytes may has = absurd cc

page_read : (base : List ℕ) (k : RequestKind) (page : Page) (fields : List Field) (bytes : List ℕ) → may_answer k (reply.Page page) ≡ true
    → body (page_at base) bytes ≡ Ok page → reply_of base k 200 fields bytes ≡ Some (reply.Page page)
unfolding reply_of okay_of
page_read base kind.Delta page fields bytes may has = rw has refl
page_read base k page fields bytes may has = absurd cc

gone_read : (base : List ℕ) (k : RequestKind) (resync : Resync) (fields : List Field) (bytes : List ℕ) → may_answer k (reply.Gone resync) ≡ true
    → location_of fields ≡ Some (base ++ delta_text None) → body error_at bytes ≡ Ok (code_of resync) → reply_of base k 410 fields bytes ≡ Some (reply.Gone resync)
unfolding reply_of gone_of error_in
gone_read base kind.Delta resync fields bytes may place has = rw place (rw (feed_read base, has) (ap (option_map reply.Gone) (gone_code resync)))
gone_read base k resync fields bytes may place has = absurd cc

-- a refusal is read so, whatever the kind
abbrev Refuses : List ℕ → RequestKind → List Field → List ℕ → ErrorCode → ℕ → Type 0
Refuses base k fields bytes c status = body error_at bytes ≡ Ok c → reply_of base k status fields bytes ≡ Some (reply.Refused status c)

refusals_read : (base : List ℕ) (k : RequestKind) (fields : List Field) (bytes : List ℕ) → OfEach (Refuses base k fields bytes)
unfolding reply_of refused_of error_in
refusals_read base k fields bytes = record {
  invalid = λ has. rw has refl;
  large = λ has. rw has refl;
  unranged = λ has. rw has refl;
  range = λ has. rw has refl;
  missing = λ has. rw has refl;
  method = λ has. rw has refl;
  coding = λ has. rw has refl;
  taken = λ has. rw has refl;
  modified = λ has. rw has refl;
  dependency = λ has. rw has refl;
  memory = λ has. rw has refl;
  quota = λ has. rw has refl;
}

fields_of : List ℕ → Reply → List Field
fields_of base r = map field (headers_of base r)

meaning : (base : List ℕ) (k : RequestKind) (r : Reply) → IsWrittenReply r → may_answer k r ≡ true → IsKnownReply r → HasReplyBody base r
    → reply_of base k (status_of_reply r) (fields_of base r) (reply_body base r) ≡ Some r
unfolding fields_of headers_of place_of
meaning base k (reply.Made item) is may known has = made_read base k item (fields_of base (reply.Made item)) (reply_body base (reply.Made item)) may (has is)
meaning base k (reply.Is item) is may known has = is_read base k item (fields_of base (reply.Is item)) (reply_body base (reply.Is item)) may (has is)
meaning base k (reply.Listed items next) is may known has = list_read base k items next (fields_of base (reply.Listed items next)) (reply_body base (reply.Listed items next)) may (has is)
meaning base k reply.Done is may known has = done_read base k (fields_of base reply.Done) (reply_body base reply.Done) may
meaning base k (reply.Found id version) is may known has =
    let r = reply.Found id version in
    moved_read base k id version (fields_of base r) (reply_body base r) may (place_read (base ++ download_text id version) (type_of base r) (length_of r (length (reply_body base r)))) (found_read base id version is known.0 known.1)
meaning base k (reply.Content bytes) is may known has = content_read base k (fields_of base (reply.Content bytes)) bytes may
meaning base k (reply.Session session expected) is may known has = session_read base k session expected (fields_of base (reply.Session session expected)) (reply_body base (reply.Session session expected)) may has
meaning base k (reply.Status expected) is may known has =
    let r = reply.Status expected in
    progress_read base k expected (fields_of base r) (reply_body base r) may (status_read base (reply_body base r) (record { session = None; expected = expected }) has)
meaning base k (reply.More expected) is may known has =
    let r = reply.More expected in
    more_read base k expected (fields_of base r) (reply_body base r) may (status_read base (reply_body base r) (record { session = None; expected = expected }) has)
meaning base k (reply.Page page) is may known has = page_read base k page (fields_of base (reply.Page page)) (reply_body base (reply.Page page)) may (has is)
meaning base k (reply.Gone resync) is may known has =
    let r = reply.Gone resync in
    gone_read base k resync (fields_of base r) (reply_body base r) may (place_read (base ++ delta_text None) (type_of base r) (length_of r (length (reply_body base r)))) has
meaning base k (reply.Refused status c) is may known has =
    let parts = and_parts (has_status c status) (not (nat_eq status 410)) is in
    let r = reply.Refused status c in
    of_each (Refuses base k (fields_of base r) (reply_body base r)) (refusals_read base k (fields_of base r) (reply_body base r)) c status parts.0 parts.1 has

-- ---- the whole reply

few_of : (base : List ℕ) (r : Reply) → length (response_head base r).fields ≤ 64
unfolding response_head headers_of
few_of base r = few (place_of base r) (type_of base r) (length_of r (length (reply_body base r)))

fields_values : (base : List ℕ) (r : Reply) → map name_and_value (map line_of (headers_of base r)) ≡ headers_of base r → map name_and_value (response_head base r).fields ≡ headers_of base r
unfolding response_head
fields_values base r values = values

framed_of : (base : List ℕ) (r : Reply) → HasLine (status_of_reply r) → map name_and_value (map line_of (headers_of base r)) ≡ headers_of base r → length (reply_body base r) ≤ 67108864
    → framing (reply_without_length (status_code (response_head base r))) (map name_and_value (response_head base r).fields) ≡ Ok (length (reply_body base r))
framed_of base r line values short =
    ap (λ (n : ℕ). framing (reply_without_length n) (map name_and_value (response_head base r).fields)) (status_is base r line)
    ∙ ap (framing (reply_without_length (status_of_reply r))) (fields_values base r values) ∙ framed_reply base r short

said : (l : Listening) (r : Reply) → HasLine (status_of_reply r) → map name_and_value (map line_of (headers_of l.base r)) ≡ headers_of l.base r
    → reply_of l.base l.kind (status_of_reply r) (fields_of l.base r) (reply_body l.base r) ≡ Some r → reply_of_frame l (reply_frame (response_head l.base r) (reply_body l.base r)) ≡ Some r
unfolding fields_of
said l r line values meant =
    ap (λ (n : ℕ). reply_of l.base l.kind n (map field (map name_and_value (response_head l.base r).fields)) (reply_body l.base r)) (status_is l.base r line)
    ∙ ap (λ (hs : Headers). reply_of l.base l.kind (status_of_reply r) (map field hs) (reply_body l.base r)) (fields_values l.base r values) ∙ meant

pub answered : (l : Listening) (r : Reply) (bytes : List ℕ) → bytes ≡ written_reply l.base r → IsKnownReply r → HasReplyBody l.base r → IsAnswer l.base l.kind r → ReplyBytes l bytes r
answered l r bytes is known has answer =
    let base = l.base in
    let line = has_line r answer.value in
    let prints = prints_headers base l.kind r answer known in
    let printed = head_printed base r prints.text in
    let values = values_are (headers_of base r) prints.headers in
    let message : IsMessage replies bytes = record {
      head = response_head base r;
      body = reply_body base r;
      begins = record {
        reads = (head_is base r line prints.headers, is ∙ whole_is base r ∙ ap (λ (x : List ℕ). x ++ reply_body base r) printed);
        short = subst (λ (x : List ℕ). length x ≤ 65536) printed answer.head;
        few = few_of base r;
      };
      framed = framed_of base r line values answer.body;
    } in (
      reply_frame (response_head base r) (reply_body base r),
      (message, refl),
      said l r line values (meaning base l.kind r answer.value answer.kind known has),
    )
