-- Links are read as what they were written for.
use Rattle.std.proofs.Common.{◌≡◌, ℕ, ◌<◌, ◌^◌, Bool, true, false, List, ◌++◌, length, take, drop, Option, Some, None, cond, refl, sym, ap, ◌∙◌}
use Rattle.std.specs.Prelude.{nat_eq, option_and_then}
use Rattle.std.specs.Cmp.Lexicographic.{pointwise, bytes_decides}
use Rattle.std.specs.Fmt.{decimal}
use Rattle.std.proofs.Math.Seq.{take-append_seam, drop-append_seam}
use Rattle.std.proofs.lemmas.List.{take-append-drop}
use Rattle.gd_names.specs.Escapes.{escaped, unescaped, IsSegmentName}
use Rattle.gd_names.proofs.ReadBack.{escapes_read_back}
use Rattle.gd_item.specs.declared.id.ItemId.{ItemId}
use Rattle.gd_json.specs.Links.{past, delta_front, is_token, token_in, delta_link, token_of_link, children_front, children_link, name_of_link, upload_front, upload_link, session_of_link}
use Rattle.gd_json.specs.Numbers.{number_of_text}
use Rattle.gd_json.proofs.Ids.{number_again}

past_again : (front rest : List ℕ) → past front (front ++ rest) ≡ Some rest
unfolding past
past_again front rest =
    let begins : pointwise nat_eq front (take (length front) (front ++ rest)) ≡ true = (bytes_decides front (take (length front) (front ++ rest))).1 (sym (take-append_seam front rest)) in
    rw (begins, drop-append_seam front rest) refl

past_by : (front text rest : List ℕ) (b : Bool) → pointwise nat_eq front (take (length front) text) ≡ b → cond b (Some (drop (length front) text)) None ≡ Some rest → text ≡ front ++ rest
past_by front text rest false is e = absurd cc
past_by front text rest true is e =
    let first : front ≡ take (length front) text = (bytes_decides front (take (length front) text)).0 is in
    let last : drop (length front) text ≡ rest = cc in
    sym (take-append-drop (length front) text) ∙ ap (λ xs. xs ++ drop (length front) text) (sym first) ∙ ap (λ xs. front ++ xs) last

past_only : (front text rest : List ℕ) → past front text ≡ Some rest → text ≡ front ++ rest
unfolding past
past_only front text rest e = past_by front text rest (pointwise nat_eq front (take (length front) text)) refl e

pub token_again : (base token : List ℕ) → is_token token ≡ true → token_of_link base (delta_link base token) ≡ Some token
unfolding token_of_link
token_again base token valid = rw (past_again (delta_front base) token, valid) refl

token_in_by : (rest token : List ℕ) (b : Bool) → is_token rest ≡ b → cond b (Some rest) None ≡ Some token → (rest ≡ token) × (is_token token ≡ true)
token_in_by rest token false is e = absurd cc
token_in_by rest token true is e = let same : rest ≡ token = cc in (same, sym (ap is_token same) ∙ is)

token_by : (base text token : List ℕ) (found : Option (List ℕ)) → past (delta_front base) text ≡ found → option_and_then token_in found ≡ Some token → (text ≡ delta_link base token) × (is_token token ≡ true)
token_by base text token None is e = absurd cc
token_by base text token (Some rest) is e =
    let p = token_in_by rest token (is_token rest) refl e in
    (past_only (delta_front base) text rest is ∙ ap (λ xs. delta_front base ++ xs) p.0, p.1)

pub token_only : (base text token : List ℕ) → token_of_link base text ≡ Some token → (text ≡ delta_link base token) × (is_token token ≡ true)
unfolding token_of_link
token_only base text token e = token_by base text token (past (delta_front base) text) refl e

pub name_again : (base name : List ℕ) (id : ItemId) → IsSegmentName name → name_of_link base id (children_link base id name) ≡ Some name
unfolding name_of_link
name_again base name id segment = ap (option_and_then unescaped) (past_again (children_front base id) (escaped name)) ∙ escapes_read_back name segment

pub session_again : (base : List ℕ) (session : ℕ) → session < 2 ^ 64 → session_of_link base (upload_link base session) ≡ Some session
unfolding session_of_link
session_again base session small = ap (option_and_then number_of_text) (past_again (upload_front base) (decimal session)) ∙ number_again session small
