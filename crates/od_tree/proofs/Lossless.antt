-- Without a discard no write of the user is lost.
use Rattle.std.proofs.Common.{◌≡◌, ⊎_elim, ℕ, ◌+◌, Bool, true, false, ◌&&◌, ◌||◌, cond, nat_eq, List, [], ◌∷◌, ◌++◌, length, refl, ap, sym, ◌∙◌, subst, arith}
use Rattle.std.specs.Cmp.Lexicographic.{pointwise}
use Rattle.std.specs.List.{list_any, list_all}
use Rattle.std.proofs.lemmas.Bool.{and_parts, or_parts}
use Rattle.std.proofs.lemmas.List.{append-nil, append_assoc}
use Rattle.gd_item.specs.declared.live.Version.{Version}
use Rattle.od_tree.specs.Local.{Local, empty_folder, has_place, after_step, after_steps, local_of}
use Rattle.od_tree.specs.Loss.{is_somewhere, is_replaced, is_accepted, write_by, writes_after, writes, no_loss}
use Rattle.od_tree.specs.Taking.{is_discard}
use Rattle.od_tree.specs.declared.edit.UserEdit.TheVariants.{Write, Remove, Move, MakeFolder}
use Rattle.od_tree.specs.declared.step.LocalStep.{LocalStep}
use Rattle.od_tree.specs.declared.step.LocalStep.TheVariants.{User, Op}
use Rattle.od_tree.proofs.Replacing.{stays_or_replaced, write_stands}
use Rattle.od_tree.proofs.Staying.{any-front}
use Rattle.std.proofs.lemmas.Bool.{or_cases, or_left, or_right}

pub both : (a b : Bool) → a ≡ true → b ≡ true → (a && b) ≡ true
both true b is_a is_b = is_b
both false b is_a is_b = cc

all-append : {X : Type 0} (p : X → Bool) (xs ys : List X) → list_all p xs ≡ true → list_all p ys ≡ true → list_all p (xs ++ ys) ≡ true
all-append p [] ys are too = too
all-append p (x ∷ xs) ys are too =
    let parts = and_parts (p x) (list_all p xs) are in
    both (p x) (list_all p (xs ++ ys)) parts.0 (all-append p xs ys parts.1 too)

all-weaker : {X : Type 0} (p q : X → Bool) (xs : List X) → ((x : X) → p x ≡ true → q x ≡ true) → list_all p xs ≡ true → list_all q xs ≡ true
all-weaker p q [] weaker are = refl
all-weaker p q (x ∷ xs) weaker are =
    let parts = and_parts (p x) (list_all p xs) are in
    both (q x) (list_all q xs) (weaker x parts.0) (all-weaker p q xs weaker parts.1)

-- ---- the writes of a longer log

writes-snoc : (at : ℕ) (local : Local) (log : List LocalStep) (last : LocalStep)
    → writes_after at local (log ++ last ∷ []) ≡ writes_after at local log ++ write_by (at + length log) (after_steps at local log) last
writes-snoc at local [] last = let e : at ≡ at + 0 = omega arith in append-nil (write_by at local last) ∙ ap (λ n. write_by n local last) e
writes-snoc at local (first ∷ log) last =
    let e : at + 1 + length log ≡ at + length (first ∷ log) = omega arith in
    let after : Local = after_step at local first in
    ap (λ xs. write_by at local first ++ xs) (writes-snoc (at + 1) after log last ∙ ap (λ n. writes_after (at + 1) after log ++ write_by n (after_steps (at + 1) after log) last) e)
    ∙ sym (append_assoc (write_by at local first) (writes_after (at + 1) after log) (write_by (at + length (first ∷ log)) (after_steps (at + 1) after log) last))

-- ---- each step

abbrev pub is_safe : List Version → List LocalStep → ℕ × List ℕ → Bool
is_safe versions log write = is_somewhere write.0 (local_of log) || is_replaced write.0 log || is_accepted write.1 versions

safe-still : (versions : List Version) (log : List LocalStep) (step : LocalStep) (write : ℕ × List ℕ) → is_discard step ≡ false → is_safe versions log write ≡ true → is_safe versions (log ++ step ∷ []) write ≡ true
safe-still versions log step write keeps safe =
    let longer : List LocalStep = log ++ step ∷ [] in
    let there : Bool = is_somewhere write.0 (local_of longer) || is_replaced write.0 longer in
    ⊎_elim (λ kept. or_left there (is_accepted write.1 versions) (stays_or_replaced log step write.0 keeps kept)) (λ sent. or_right there (is_accepted write.1 versions) sent)
    (or_cases (is_somewhere write.0 (local_of log) || is_replaced write.0 log) (is_accepted write.1 versions) safe)

new_safe : (versions : List Version) (log : List LocalStep) (at : List (List ℕ)) (bytes : List ℕ) (place : Bool) → place ≡ has_place (local_of log) (Write at bytes)
    → list_all (is_safe versions (log ++ User (Write at bytes) ∷ [])) (cond place ((length log, bytes) ∷ []) []) ≡ true
new_safe versions log at bytes true is =
    let longer : List LocalStep = log ++ User (Write at bytes) ∷ [] in
    let stands : Bool = is_somewhere (length log) (local_of longer) in
    let there : Bool = stands || is_replaced (length log) longer in
    both (is_safe versions longer (length log, bytes)) true
    (or_left there (is_accepted bytes versions) (or_left stands (is_replaced (length log) longer) (write_stands log at bytes (sym is)))) refl
new_safe versions log at bytes false is = refl

write-safe : (versions : List Version) (log : List LocalStep) (step : LocalStep) → list_all (is_safe versions (log ++ step ∷ [])) (write_by (length log) (local_of log) step) ≡ true
write-safe versions log (User (Write at bytes)) = new_safe versions log at bytes (has_place (local_of log) (Write at bytes)) refl
write-safe versions log (User (Remove at)) = refl
write-safe versions log (User (Move from to)) = refl
write-safe versions log (User (MakeFolder at)) = refl
write-safe versions log (Op call) = refl

step-safe : (versions : List Version) (log : List LocalStep) (step : LocalStep) → is_discard step ≡ false → no_loss log versions ≡ true → no_loss (log ++ step ∷ []) versions ≡ true
step-safe versions log step keeps are =
    let longer : List LocalStep = log ++ step ∷ [] in
    let e : 0 + length log ≡ length log = omega arith in
    let grown : writes longer ≡ writes log ++ write_by (length log) (local_of log) step = writes-snoc 0 empty_folder log step ∙ ap (λ n. writes log ++ write_by n (local_of log) step) e in
    subst (λ (xs : List (ℕ × List ℕ)). list_all (is_safe versions longer) xs ≡ true) (sym grown)
    (all-append (is_safe versions longer) (writes log) (write_by (length log) (local_of log) step)
    (all-weaker (is_safe versions log) (is_safe versions longer) (writes log) (λ write safe. safe-still versions log step write keeps safe) are) (write-safe versions log step))

steps-safe : (versions : List Version) (log more : List LocalStep) → list_any is_discard more ≡ false → no_loss log versions ≡ true → no_loss (log ++ more) versions ≡ true
steps-safe versions log [] keep are = subst (λ (steps : List LocalStep). no_loss steps versions ≡ true) (sym (append-nil log)) are
steps-safe versions log (step ∷ more) keep are =
    let parts = or_parts (is_discard step) (list_any is_discard more) keep in
    subst (λ (steps : List LocalStep). no_loss steps versions ≡ true) (append_assoc log (step ∷ []) more)
    (steps-safe versions (log ++ step ∷ []) more parts.1 (step-safe versions log step parts.0 are))

-- ---- more versions

accepted-still : (versions later : List Version) (log : List LocalStep) (write : ℕ × List ℕ) → is_safe versions log write ≡ true → is_safe (versions ++ later) log write ≡ true
accepted-still versions later log write safe =
    let there : Bool = is_somewhere write.0 (local_of log) || is_replaced write.0 log in
    ⊎_elim (λ kept. or_left there (is_accepted write.1 (versions ++ later)) kept)
    (λ sent. or_right there (is_accepted write.1 (versions ++ later)) (any-front (λ (version : Version). pointwise nat_eq version.bytes write.1) versions later sent))
    (or_cases there (is_accepted write.1 versions) safe)

pub no_more_lost : (log more : List LocalStep) (versions later : List Version) → list_any is_discard more ≡ false → no_loss log versions ≡ true → no_loss (log ++ more) (versions ++ later) ≡ true
no_more_lost log more versions later keep are =
    all-weaker (is_safe versions (log ++ more)) (is_safe (versions ++ later) (log ++ more)) (writes (log ++ more)) (λ write safe. accepted-still versions later (log ++ more) write safe)
    (steps-safe versions log more keep are)

pub nothing_lost : (log : List LocalStep) (versions : List Version) → list_any is_discard log ≡ false → no_loss log versions ≡ true
nothing_lost log versions keep = no_more_lost [] log [] versions keep refl
