-- The bytes that a session of this client holds are a first part of its reading.
use Rattle.std.proofs.Common.{◌≡◌, ℕ, zero, suc, ◌+◌, ◌-◌, ◌%◌, ◌≤◌, Bool, true, false, ◌&&◌, ◌||◌, not, cond, nat_eq, nat_le, nat_lt, is_none, List, [], ◌∷◌, ◌++◌, length, take, drop, Option, Some, None, refl, ap, sym, ◌∙◌, arith}
use Rattle.std.proofs.lemmas.Bool.{eqb-true, eq-eqb}
use Rattle.std.proofs.lemmas.List.{length-append, take_all}
use Rattle.gd_names.proofs.Small.{clear, mapped-none, neither, un-not}
use Rattle.gd_item.specs.Faults.{session_code_of, session_status_of}
use Rattle.gd_item.specs.Refused.{Refusal, by_session, or_else, refuse}
use Rattle.gd_item.specs.Sessions.{Session, finish_fault, held_bytes, is_filled, is_last, is_other_total, session_at, session_fragment_fault, with_fragment, without_session}
use Rattle.gd_item.specs.declared.fault.SessionFault.{SessionFault}
use Rattle.gd_item.specs.declared.fault.SessionFault.TheVariants.{Total, Form, TooLarge, Range, Multiple, Quota}
use Rattle.od_run.specs.Acting.{IsPart}
use Rattle.od_sends.proofs.Sending.{no-session-fault, none-first}
use Rattle.od_sends.proofs.Sessions.{grown, take-join}

-- ---- lists

-- ---- sessions by number

-- ---- a first part
abbrev IfTotal : List ℕ → Option ℕ → Type 0
IfTotal whole None = Unit {0}
IfTotal whole (Some total) = total ≡ length whole

pub record IsFilledBy (whole : List ℕ) (session : Session) : Type 0 where
  pub part : session.filled ≡ take (length session.filled) whole
  pub total : IfTotal whole session.total

abbrev pub Live : List ℕ → Option Session → Type 0
Live whole None = Unit {0}
Live whole (Some session) = IsFilledBy whole session

-- the next part
pub joined : (whole filled bytes : List ℕ) (first last total : ℕ) → filled ≡ take (length filled) whole → first ≡ length filled → IsPart whole first last total bytes
    → filled ++ bytes ≡ take (length filled + length bytes) whole
joined whole filled bytes first last total part at is =
    ap (λ front. front ++ bytes) part
    ∙ (ap (λ back. take (length filled) whole ++ back) (is.part ∙ ap (λ n. take (length bytes) (drop n whole)) at) ∙ take-join (length filled) (length bytes) whole)

pub grown-filled : (whole : List ℕ) (session : Session) (bytes : List ℕ) (first last total : ℕ) → IsFilledBy whole session → first ≡ length session.filled → IsPart whole first last total bytes
    → IsFilledBy whole (grown total bytes session)
grown-filled whole session bytes first last total filled at is = record {
  part =
      let long : length session.filled + length bytes ≡ length (session.filled ++ bytes) = sym (length-append session.filled bytes) in
      joined whole session.filled bytes first last total filled.part at is ∙ ap (λ n. take n whole) long;
  total = is.total_is;
}

-- the last part makes the whole
pub whole-at-last : (whole : List ℕ) (session : Session) (bytes : List ℕ) (first last total : ℕ) → IsFilledBy whole session → first ≡ length session.filled → IsPart whole first last total bytes
    → nat_eq (last + 1) total ≡ true → session.filled ++ bytes ≡ whole
whole-at-last whole session bytes first last total filled at is ends =
    let end : last + 1 ≡ total = eqb-true (last + 1) total ends in
    let long : length whole ≤ length session.filled + length bytes = omega (arith, end, is.total_is, is.last_is, at) in
    joined whole session.filled bytes first last total filled.part at is ∙ take_all (length session.filled + length bytes) whole long

-- ---- why a fragment and a finish are accepted

filled-total : (whole : List ℕ) (total : Option ℕ) (count : ℕ) → IfTotal whole total → is_filled total count ≡ true → count ≡ length whole
filled-total whole None count known is = absurd (cc is)
filled-total whole (Some total) count known is = eqb-true count total is ∙ known

pub whole-at-finish : (whole : List ℕ) (session : Session) (store : Option Refusal) → IsFilledBy whole session → is_none (or_else (by_session (finish_fault (Some session))) store) ≡ true → session.filled ≡ whole
whole-at-finish whole session store filled is =
    let none = no-session-fault (finish_fault (Some session)) (none-first (by_session (finish_fault (Some session))) store is) in
    let test = (clear (not session.defer || not (is_filled session.total (length session.filled))) Form None none).0 in
    let all : is_filled session.total (length session.filled) ≡ true = un-not (is_filled session.total (length session.filled)) (neither (not session.defer) (not (is_filled session.total (length session.filled))) test).1 in
    let long : length whole ≤ length session.filled = let e = filled-total whole session.total (length session.filled) filled.total all in omega (arith, e) in
    filled.part ∙ take_all (length session.filled) whole long
