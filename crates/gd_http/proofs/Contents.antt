-- A reply that gives bytes is a head and these bytes.
use Rattle.std.proofs.Common.{◌≡◌, ℕ, List, [], ◌++◌, length, sym, ap, ◌∙◌, append_assoc, append-nil}
use Rattle.gd_http.specs.Written.{line_end, length_text, body_text}
use Rattle.gd_http.specs.WrittenReplies.{status_text, bytes_type, written_reply}
use Rattle.gd_item.specs.declared.reply.Reply.TheVariants as reply

joined : (s t n e b : List ℕ) → (s ++ []) ++ (t ++ (n ++ (e ++ b))) ≡ (((s ++ t) ++ n) ++ e) ++ b
joined s t n e b =
    ap (λ (l : List ℕ). l ++ (t ++ (n ++ (e ++ b)))) (append-nil s)
    ∙ sym (append_assoc ((s ++ t) ++ n) e b ∙ (append_assoc (s ++ t) n (e ++ b) ∙ append_assoc s t (n ++ (e ++ b))))

pub content_written : (base bytes head : List ℕ) → head ≡ ((status_text 200 ++ bytes_type) ++ length_text (length bytes)) ++ line_end → written_reply base (reply.Content bytes) ≡ head ++ bytes
unfolding written_reply body_text
content_written base bytes head is = joined (status_text 200) bytes_type (length_text (length bytes)) line_end bytes ∙ ap (λ (l : List ℕ). l ++ bytes) (sym is)
