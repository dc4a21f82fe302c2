-- What a head at the front of bytes tells of the messages that they begin with.
use Rattle.std.proofs.Common.{◌≡◌, ℕ, ◌+◌, ◌-◌, ◌<◌, ◌≤◌, List, [], ◌++◌, ◌⊎◌, length, take, drop, Result, Ok, Err, inl, inr, refl, sym, ap, subst, ◌∙◌, arith, append_assoc, length-append, append-nil, length-drop, lit<}
use Rattle.std.specs.Prelude.{replicate}
use Rattle.std.proofs.lemmas.List.{take-append-le, take_at, drop_at, drop-append-le, take-append-drop, length-take-le, length-replicate}
use Rattle.std.proofs.Math.Seq.{take-append-add}
use Rattle.httparse.specs.Grammar.{print_request, print_response}
use Rattle.httparse.proofs.GrammarLemmas.{request_unique, response_unique}
use Rattle.gd_frame.specs.declared.message.Kind.{Kind}
use Rattle.gd_frame.specs.declared.message.Kind.TheVariants.{Request, Reply}
use Rattle.gd_frame.specs.declared.message.MessageCause.{MessageCause}
use Rattle.gd_frame.specs.declared.message.MessageCause.TheVariants.{Head, Coding, Framing, Body, Meaning}
use Rattle.gd_frame.specs.Framing.{IsAnnounced}
use Rattle.gd_frame.specs.Syntax.{Syntax, requests, replies, syntax_of, Reads, HasNoHead, MayBecomeHead}
use Rattle.gd_frame.specs.Messages.{HasOpenHead, IsMessage, HasNoMessage, NeverHasMessage, HasNoFittingHead, IsUnframed, HasCause, Awaits}
use Rattle.gd_frame.specs.Scanning.{IsFramed}

-- bytes begin with one head at most
abbrev pub Unique : Syntax → Type 0
Unique s = (bytes : List ℕ) (h k : s.Head) (r q : List ℕ) → Reads s bytes h r → Reads s bytes k q → (h ≡ k) × (r ≡ q)

-- and a head is not empty
pub record Plain (s : Syntax) : Type 0 where
  pub unique : Unique s
  pub some : (h : s.Head) → 0 < length (s.print h)

some_request : (h : requests.Head) → 0 < length (print_request h)
unfolding print_request
some_request h = omega (arith, length-append {A = ℕ})

some_reply : (h : replies.Head) → 0 < length (print_response h)
unfolding print_response
some_reply h = omega (arith, length-append {A = ℕ})

pub plain : (kind : Kind) → Plain (syntax_of kind)
plain Request = record { unique = request_unique; some = some_request }
plain Reply = record { unique = response_unique; some = some_reply }

pub ok_is : {n k : ℕ} → let ok : ℕ → Result ℕ MessageCause = Ok in ok n ≡ ok k → n ≡ k
ok_is e = cc

pub err_is : {a b : MessageCause} → let err : MessageCause → Result ℕ MessageCause = Err in err a ≡ err b → a ≡ b
err_is e = cc

pub differ : {cause : MessageCause} {n : ℕ} → let ok : Result ℕ MessageCause = Ok n in ok ≡ Err cause → ⊥
differ e = cc

pub reads_more : (s : Syntax) (bytes : List ℕ) (h : s.Head) (rest more : List ℕ) → Reads s bytes h rest → Reads s (bytes ++ more) h (rest ++ more)
reads_more s bytes h rest more r = (r.0, ap (λ (t : List ℕ). t ++ more) r.1 ∙ append_assoc (s.print h) rest more)

-- the bytes after a head are those behind its end
reads_length : (s : Syntax) (bytes : List ℕ) (h : s.Head) (rest : List ℕ) → Reads s bytes h rest → length bytes ≡ length (s.print h) + length rest
reads_length s bytes h rest r = ap length r.1 ∙ length-append (s.print h) rest

-- a head within the bytes is there before what follows them
head_before : (s : Syntax) (bytes more : List ℕ) (h : s.Head) (rest : List ℕ) → Reads s (bytes ++ more) h rest → length (s.print h) ≤ length bytes → Reads s bytes h (drop (length (s.print h)) bytes)
head_before s bytes more h rest reads within =
    let printed = s.print h in
    let begins : printed ≡ take (length printed) bytes =
    sym (take_at printed rest (length printed) refl) ∙ ap (take (length printed)) (sym reads.1) ∙ take-append-le (length printed) bytes more within in
    (reads.0, sym (take-append-drop (length printed) bytes) ∙ ap (λ (f : List ℕ). f ++ drop (length printed) bytes) (sym begins))

-- where no head is whole and 65,536 bytes are there, none is within the limits
pub never_long : (s : Syntax) (bytes : List ℕ) → HasNoHead s bytes → 65536 ≤ length bytes → HasNoFittingHead s bytes
never_long s bytes none long = record {
  never = λ more h rest b. none h (drop (length (s.print h)) bytes) (head_before s bytes more h rest b.reads (omega (arith, b.short)));
  known = inr (inr long);
}

-- a message at the front of what goes on from a head has that head
pub same_head : (s : Syntax) → Plain s → (bytes more front rest tail : List ℕ) (h : s.Head) → Reads s bytes h tail → bytes ++ more ≡ front ++ rest → (x : IsMessage s front)
    → (h ≡ x.head) × (tail ++ more ≡ x.body ++ rest)
same_head s p bytes more front rest tail h reads e x =
    p.unique (bytes ++ more) h x.head (tail ++ more) (x.body ++ rest) (reads_more s bytes h tail more reads)
    (subst (λ b. Reads s b x.head (x.body ++ rest)) (sym e) (reads_more s front x.head x.body rest x.begins.reads))

-- a whole head past a limit
pub never_big : (s : Syntax) → Plain s → (bytes tail : List ℕ) (h : s.Head) → Reads s bytes h tail → 65536 < length (s.print h) → HasNoFittingHead s bytes
never_big s p bytes tail h reads big = record {
  never = λ more k rest b. let same = p.unique (bytes ++ more) h k (tail ++ more) rest (reads_more s bytes h tail more reads) b.reads in
      omega (arith, ap (λ x. length (s.print x)) same.0, b.short);
  known = inr (inl (h, tail, reads));
}

-- heads of more fields than are allowed
pub never_many : (s : Syntax) (bytes : List ℕ) → ((more : List ℕ) (h : s.Head) (rest : List ℕ) → Reads s (bytes ++ more) h rest → 64 < length (s.fields h))
    → (((more : List ℕ) → HasNoHead s (bytes ++ more)) × ¬ (s.Waits bytes)) ⊎ ((h : s.Head) × (rest : List ℕ) × Reads s bytes h rest) ⊎ (65536 ≤ length bytes) → HasNoFittingHead s bytes
never_many s bytes many known = record { never = λ more h rest b. omega (arith, many more h rest b.reads, b.few); known = known }

unframed_never : (s : Syntax) → Plain s → (cause : MessageCause) (bytes : List ℕ) → IsUnframed s cause bytes → NeverHasMessage s bytes
unframed_never s p cause bytes u more front rest e x =
    let same = same_head s p bytes more front rest u.rest u.head u.begins.reads e x in
    differ (sym x.framed ∙ sym (ap s.announced same.0) ∙ u.framed)

pub cause_never : (s : Syntax) → Plain s → (cause : MessageCause) (bytes : List ℕ) → HasCause s cause bytes → NeverHasMessage s bytes
cause_never s p Head bytes c = λ more front rest e x.
    c.never more x.head (x.body ++ rest) (record {
      reads = subst (λ b. Reads s b x.head (x.body ++ rest)) (sym e) (reads_more s front x.head x.body rest x.begins.reads);
      short = x.begins.short;
      few = x.begins.few;
    })
cause_never s p Coding bytes c = unframed_never s p Coding bytes c
cause_never s p Framing bytes c = unframed_never s p Framing bytes c
cause_never s p Body bytes c = unframed_never s p Body bytes c
cause_never s p Meaning bytes c = absurd c

-- what a head's fields announce is a cause of framing, or a length within the limit
pub cause_of : (s : Syntax) (cause : MessageCause) (bytes : List ℕ) → IsUnframed s cause bytes → IsAnnounced (Err cause) → HasCause s cause bytes
cause_of s Head bytes u a = absurd a
cause_of s Coding bytes u a = u
cause_of s Framing bytes u a = u
cause_of s Body bytes u a = u
cause_of s Meaning bytes u a = absurd a

module _ (s : Syntax) (p : Plain s) (bytes : List ℕ) (end body : ℕ) (f : IsFramed s bytes end body) where
  pub within : end ≤ length bytes
  within = omega (arith, reads_length s bytes f.head (drop end bytes) f.begins.reads, f.end_is)

  pub not_yet : length bytes < end + body → HasNoMessage s bytes
  not_yet lacks front rest e x =
      let same = same_head s p bytes [] front rest (drop end bytes) f.head f.begins.reads (append-nil bytes ∙ e) x in
      let len : body ≡ length x.body = ok_is (sym f.framed ∙ ap s.announced same.0 ∙ x.framed) in
      omega (arith, within, ap length same.1, length-append (drop end bytes) [], length-append x.body rest, length-drop end bytes)

  -- zeros for the bytes that lack
  pub awaits : length bytes < end + body → Awaits s bytes
  awaits lacks =
      let more : List ℕ = replicate (body - length (drop end bytes)) 0 in
      let len : body ≡ length (drop end bytes ++ more) = omega (arith, within, length-drop end bytes, length-append (drop end bytes) more, length-replicate {A = ℕ} (body - length (drop end bytes)) 0) in
      inr (
        more,
        record {
          head = f.head;
          body = drop end bytes ++ more;
          begins = record { reads = reads_more s bytes f.head (drop end bytes) more f.begins.reads; short = f.begins.short; few = f.begins.few };
          framed = f.framed ∙ ap Ok len;
        },
      )

  pub goes_on : (more : List ℕ) → IsFramed s (bytes ++ more) end body
  goes_on more =
      let rest : drop end bytes ++ more ≡ drop end (bytes ++ more) = sym (drop-append-le end bytes more within) in
      record {
        head = f.head;
        begins = record {
          reads = subst (Reads s (bytes ++ more) f.head) rest (reads_more s bytes f.head (drop end bytes) more f.begins.reads);
          short = f.begins.short;
          few = f.begins.few;
        };
        end_is = f.end_is;
        framed = f.framed;
        small = f.small;
      }

  pub stops : (n : ℕ) → end ≤ n → IsFramed s (take n bytes) end body
  stops n later =
      let at : n ≡ length (s.print f.head) + (n - end) = omega (arith, f.end_is) in
      let front : take n bytes ≡ s.print f.head ++ take (n - end) (drop end bytes) =
      ap (λ (k : ℕ). take k bytes) at ∙ ap (take (length (s.print f.head) + (n - end))) f.begins.reads.1 ∙ take-append-add (s.print f.head) (drop end bytes) (n - end) in
      let rest : drop end (take n bytes) ≡ take (n - end) (drop end bytes) =
      ap (drop end) front ∙ ap (λ (k : ℕ). drop k (s.print f.head ++ take (n - end) (drop end bytes))) f.end_is ∙ drop_at (s.print f.head) (take (n - end) (drop end bytes)) (length (s.print f.head)) refl in
      record {
        head = f.head;
        begins = record {
          reads = (f.begins.reads.0, front ∙ ap (λ (t : List ℕ). s.print f.head ++ t) (sym rest));
          short = f.begins.short;
          few = f.begins.few;
        };
        end_is = f.end_is;
        framed = f.framed;
        small = f.small;
      }

-- the message that ends with that body
pub whole : (s : Syntax) → Plain s → (bytes : List ℕ) (end body : ℕ) → IsFramed s bytes end body → end + body ≤ length bytes → IsMessage s (take (end + body) bytes)
whole s p bytes end body f enough =
    let cut = stops s p bytes end body f (end + body) (omega arith) in
    record {
      head = cut.head;
      body = drop end (take (end + body) bytes);
      begins = cut.begins;
      framed = cut.framed ∙ ap Ok (omega (arith, length-drop end (take (end + body) bytes), length-take-le (end + body) bytes enough));
    }

pub none_in_nothing : (s : Syntax) → Plain s → HasNoMessage s []
none_in_nothing s p front rest e x =
    omega (arith, ap length e, length-append front rest, reads_length s front x.head x.body x.begins.reads, p.some x.head)

-- of the same bytes
pub same_parts : (s : Syntax) → Plain s → (bytes : List ℕ) (x y : IsMessage s bytes) → (x.head ≡ y.head) × (x.body ≡ y.body)
same_parts s p bytes x y = p.unique bytes x.head y.head x.body y.body x.begins.reads y.begins.reads

-- a cause is that of the head, or of what a head announces
cause_parts : (s : Syntax) (cause : MessageCause) (bytes : List ℕ) → HasCause s cause bytes → (HasNoFittingHead s bytes × (cause ≡ Head)) ⊎ IsUnframed s cause bytes
cause_parts s Head bytes c = inl (c, refl)
cause_parts s Coding bytes c = inr c
cause_parts s Framing bytes c = inr c
cause_parts s Body bytes c = inr c
cause_parts s Meaning bytes c = absurd c

fits_none : (s : Syntax) (bytes : List ℕ) (cause : MessageCause) → HasNoFittingHead s bytes → IsUnframed s cause bytes → ⊥
fits_none s bytes cause none u = none.never [] u.head (u.rest ++ []) (record { reads = reads_more s bytes u.head u.rest [] u.begins.reads; short = u.begins.short; few = u.begins.few })

-- bytes have one cause at most
pub one_cause : (s : Syntax) → Plain s → (bytes : List ℕ) (a b : MessageCause) → HasCause s a bytes → HasCause s b bytes → a ≡ b
one_cause s p bytes a b x y =
    elim (cause_parts s a bytes x) [
      | inl f ↦ elim (cause_parts s b bytes y) [
        | inl g ↦ f.1 ∙ sym g.1
        | inr v ↦ absurd (fits_none s bytes b f.0 v)
      ]
      | inr u ↦ elim (cause_parts s b bytes y) [
        | inl g ↦ absurd (fits_none s bytes a g.0 u)
        | inr v ↦ err_is (sym u.framed ∙ ap s.announced (p.unique bytes u.head v.head u.rest v.rest u.begins.reads v.begins.reads).0 ∙ v.framed)
      ]
    ]

open_head : (s : Syntax) (bytes : List ℕ) → HasOpenHead s bytes → MayBecomeHead s bytes → (((more : List ℕ) → HasNoHead s (bytes ++ more)) × ¬ (s.Waits bytes)) ⊎ ((h : s.Head) × (rest : List ℕ) × Reads s bytes h rest) ⊎ (65536 ≤ length bytes) → ⊥
open_head s bytes o (inl m) (inl never) = never.0 m.0 m.1 [] m.2
open_head s bytes o (inr waits) (inl never) = never.1 waits
open_head s bytes o may (inr (inl h)) = o.none h.0 h.1 h.2
open_head s bytes o may (inr (inr long)) = omega (arith, long, o.short)

-- bytes that wait for more have no cause
pub waits_only : (s : Syntax) → Plain s → (bytes : List ℕ) (cause : MessageCause) → Awaits s bytes → HasCause s cause bytes → ⊥
waits_only s p bytes cause (inr m) c = (cause_never s p cause bytes c m.0 (bytes ++ m.0) [] (sym (append-nil (bytes ++ m.0))) m.1)
waits_only s p bytes cause (inl o) c =
    elim (cause_parts s cause bytes c) [
      | inl f ↦ open_head s bytes o o.may f.0.known
      | inr u ↦ o.none u.head u.rest u.begins.reads
    ]

-- bytes that no head begins, whatever follows
pub never_here : (s : Syntax) (bytes : List ℕ) → ((more : List ℕ) → HasNoHead s (bytes ++ more)) → HasNoHead s bytes
never_here s bytes never = subst (HasNoHead s) (append-nil bytes) (never [])

pub never_any : (s : Syntax) (bytes : List ℕ) → ((more : List ℕ) → HasNoHead s (bytes ++ more)) → ¬ (s.Waits bytes) → HasNoFittingHead s bytes
never_any s bytes never ends = record { never = λ more h rest b. never more h rest b.reads; known = inl (never, ends) }
