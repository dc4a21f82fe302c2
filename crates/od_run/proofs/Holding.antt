-- What the client knows of held files stays so.
use Rattle.std.proofs.Common.{◌≡◌, ℕ, ◌+◌, ◌-◌, ◌^◌, Bool, true, false, not, cond, nat_eq, is_none, List, [], ◌∷◌, ◌++◌, length, Option, Some, None, refl, ap, sym, subst, ◌∙◌}
use Rattle.std.proofs.lemmas.Bool.{eqb-true, eq-eqb}
use Rattle.gd_names.proofs.Each.{each-append, each-so}
use Rattle.od_tree.specs.Local.{Local, file_at, greatest_number, held_at, has_place, local_of, without_held, without_spot, set_aside, put_back, op_refusal, after_placed_edit, after_edit, after_done_op, after_op}
use Rattle.od_tree.specs.declared.edit.UserEdit.{UserEdit}
use Rattle.od_tree.specs.declared.edit.UserEdit.TheVariants.{Write, Remove, Move, MakeFolder}
use Rattle.od_tree.specs.declared.fault.TreeFault.{TreeFault}
use Rattle.od_tree.specs.declared.local.HeldFile.{HeldFile}
use Rattle.od_tree.specs.declared.local.LocalFile.{LocalFile}
use Rattle.od_tree.specs.declared.step.LocalStep.{LocalStep}
use Rattle.od_tree.specs.declared.step.LocalStep.TheVariants.{User, Op}
use Rattle.od_tree.specs.declared.step.TreeOp.{TreeOp}
use Rattle.od_tree.specs.declared.step.TreeOp.TheVariants as op
use Rattle.od_tree.proofs.Steps.{local-snoc}
use Rattle.od_run.specs.Good.{AreHeldAs, IsHeldAs}
use Rattle.od_run.specs.Knowing.{Here, Path, after_listed, bytes_of_held, here_after, without_number}

-- ---- the held file of a number
abbrev Keeps : ℕ → List HeldFile → List HeldFile → Type 0
Keeps n before after = (file : HeldFile) → held_at n before ≡ Some file → held_at n after ≡ Some file

appended-if : (b : Bool) (first last found : HeldFile) (rest more : Option HeldFile) → (rest ≡ Some found → more ≡ Some found) → cond b (Some first) rest ≡ Some found → cond b (Some first) more ≡ Some found
appended-if true first last found rest more then is = is
appended-if false first last found rest more then is = then is

keeps-appended : (n : ℕ) (held : List HeldFile) (last : HeldFile) → Keeps n held (held ++ last ∷ [])
keeps-appended n [] last file is = absurd (cc is)
keeps-appended n (first ∷ held) last file is =
    appended-if (nat_eq first.number n) first last file (held_at n held) (held_at n (held ++ last ∷ [])) (keeps-appended n held last file) is

-- the first file of another number is taken out
without-if : (here there : Bool) (first file : HeldFile) (rest more : Option HeldFile) → (here ≡ true → there ≡ true → ⊥) → (rest ≡ Some file → more ≡ Some file)
    → cond there (Some first) rest ≡ Some file → cond here rest (cond there (Some first) more) ≡ Some file
without-if true true first file rest more other then is = absurd (other refl refl)
without-if true false first file rest more other then is = is
without-if false true first file rest more other then is = is
without-if false false first file rest more other then is = then is

both-numbers : (number n aside : ℕ) → nat_eq number aside ≡ true → nat_eq number n ≡ true → nat_eq n aside ≡ false → ⊥
both-numbers number n aside a b other =
    let same : n ≡ aside = sym (eqb-true number n b) ∙ eqb-true number aside a in
    let is : nat_eq n aside ≡ true = eq-eqb n aside same in
    cc (is, other)

found-if : (b : Bool) (n : ℕ) (held rest : List HeldFile) (first : HeldFile) → held_at n (cond b held (first ∷ rest)) ≡ cond b (held_at n held) (held_at n (first ∷ rest))
found-if true n held rest first = refl
found-if false n held rest first = refl

keeps-without : (n aside : ℕ) (held : List HeldFile) → nat_eq n aside ≡ false → Keeps n held (without_held aside held)
keeps-without n aside [] other file is = is
keeps-without n aside (first ∷ held) other file is =
    found-if (nat_eq first.number aside) n held (without_held aside held) first
    ∙ without-if (nat_eq first.number aside) (nat_eq first.number n) first file (held_at n held) (held_at n (without_held aside held))
    (λ a b. both-numbers first.number n aside a b other) (keeps-without n aside held other file) is

-- the number of a held file that is found
number-if : (b : Bool) (n : ℕ) (first file : HeldFile) (rest : Option HeldFile) → nat_eq first.number n ≡ b → (rest ≡ Some file → file.number ≡ n) → cond b (Some first) rest ≡ Some file → file.number ≡ n
number-if true n first file rest same then is = let e : first ≡ file = cc is in subst (λ (f : HeldFile). f.number ≡ n) e (eqb-true first.number n same)
number-if false n first file rest same then is = then is

held-number : (n : ℕ) (held : List HeldFile) (file : HeldFile) → held_at n held ≡ Some file → file.number ≡ n
held-number n [] file is = absurd (cc is)
held-number n (first ∷ held) file is = number-if (nat_eq first.number n) n first file (held_at n held) refl (held-number n held file) is

-- ---- steps
-- an edit of the user
placed-held : (at : ℕ) (local : Local) (edit : UserEdit) → (after_placed_edit at local edit).held ≡ local.held
placed-held at local (Write path bytes) = refl
placed-held at local (Remove path) = refl
placed-held at local (Move from to) = refl
placed-held at local (MakeFolder path) = refl

edit-if : (place : Bool) (at : ℕ) (local : Local) (edit : UserEdit) → (cond place (after_placed_edit at local edit) local).held ≡ local.held
edit-if true at local edit = placed-held at local edit
edit-if false at local edit = refl

-- whether an operation takes a held file away
abbrev pub is_taken_by : TreeOp → ℕ → Bool
is_taken_by (op.PutBack aside to) n = nat_eq n aside
is_taken_by (op.Discard aside) n = nat_eq n aside
is_taken_by call n = false

aside-if : (full : Bool) (n : ℕ) (local after : Local) → Keeps n local.held after.held → Keeps n local.held (cond full local after).held
aside-if true n local after keeps found is = is
aside-if false n local after keeps found is = keeps found is

aside-keeps : (n : ℕ) (local : Local) (at : Path) (found : Option LocalFile) → Keeps n local.held (set_aside at local found).held
aside-keeps n local at None file is = is
aside-keeps n local at (Some found) file is =
    let last : HeldFile = record { number = greatest_number local.held + 1; from = at; file = found } in
    aside-if (nat_eq (greatest_number local.held) (2 ^ 64 - 1)) n local (record { spots = without_spot at local.spots; held = local.held ++ last ∷ [] })
    (keeps-appended n local.held last) file is

back-keeps : (n aside : ℕ) (local : Local) (to : Path) (found : Option HeldFile) → held_at aside local.held ≡ found → nat_eq n aside ≡ false → Keeps n local.held (put_back to local found).held
back-keeps n aside local to None found other file is = is
back-keeps n aside local to (Some held) found other file is =
    subst (λ m. held_at n (without_held m local.held) ≡ Some file) (sym (held-number aside local.held held found)) (keeps-without n aside local.held other file is)

done-keeps : (n : ℕ) (local : Local) (call : TreeOp) → is_taken_by call n ≡ false → Keeps n local.held (after_done_op local call).held
done-keeps n local (op.List at) other file is = is
done-keeps n local (op.Read at) other file is = is
done-keeps n local (op.MakeDir at) other file is = is
done-keeps n local (op.RemoveDir at) other file is = is
done-keeps n local (op.Place at bytes) other file is = is
done-keeps n local (op.Rename from to) other file is = is
done-keeps n local (op.SetAside at) other file is = aside-keeps n local at (file_at at local.spots) file is
done-keeps n local (op.ReadAside aside) other file is = is
done-keeps n local (op.PutBack aside to) other file is = back-keeps n aside local to (held_at aside local.held) refl other file is
done-keeps n local (op.Discard aside) other file is = keeps-without n aside local.held other file is
done-keeps n local op.Asides other file is = is

refusal-if : (refusal : Option TreeFault) (n : ℕ) (local done : Local) → Keeps n local.held done.held → Keeps n local.held (cond (is_none refusal) done local).held
refusal-if None n local done keeps file is = keeps file is
refusal-if (Some fault) n local done keeps file is = is

op-keeps : (n : ℕ) (local : Local) (call : TreeOp) → is_taken_by call n ≡ false → Keeps n local.held (after_op local call).held
op-keeps n local call other file is = refusal-if (op_refusal local call) n local (after_done_op local call) (done-keeps n local call other) file is

-- ---- what is known of them
entry-keeps : (local after : Local) (entry : ℕ × List ℕ) → Keeps entry.0 local.held after.held → IsHeldAs local entry → IsHeldAs after entry
entry-keeps local after entry keeps is = (is.0, keeps is.0 is.1, is.2)

entries-keep : (local after : Local) (entries : List (ℕ × List ℕ)) → ((n : ℕ) → Keeps n local.held after.held) → AreHeldAs local entries → AreHeldAs after entries
entries-keep local after entries keeps are = each-so (IsHeldAs local) (IsHeldAs after) (λ entry is. entry-keeps local after entry (keeps entry.0) is) entries are

without-one : (b : Bool) (aside : ℕ) (local after : Local) (entry : ℕ × List ℕ) (rest : List (ℕ × List ℕ)) → nat_eq entry.0 aside ≡ b → ((n : ℕ) → nat_eq n aside ≡ false → Keeps n local.held after.held)
    → IsHeldAs local entry → AreHeldAs after rest → AreHeldAs after (cond (not b) (entry ∷ rest) rest)
without-one true aside local after entry rest same keeps is are = are
without-one false aside local after entry rest other keeps is are = (entry-keeps local after entry (keeps entry.0 other) is, are)

without-entries : (aside : ℕ) (local after : Local) (entries : List (ℕ × List ℕ)) → ((n : ℕ) → nat_eq n aside ≡ false → Keeps n local.held after.held) → AreHeldAs local entries
    → AreHeldAs after (without_number aside entries)
without-entries aside local after [] keeps are = tt
without-entries aside local after (entry ∷ entries) keeps are =
    without-one (nat_eq entry.0 aside) aside local after entry (without_number aside entries) refl keeps are.0 (without-entries aside local after entries keeps are.1)

read-held : (aside : ℕ) (local : Local) (found : Option HeldFile) → held_at aside local.held ≡ found → AreHeldAs local (bytes_of_held aside found)
read-held aside local None is = tt
read-held aside local (Some file) is = ((file, is, refl), tt)

listed-same : (log : List LocalStep) (here : Here) (at : Path) → (after_listed log here at).held_read ≡ here.held_read
listed-same log here [] = refl
listed-same log here (name ∷ path) = refl

called : (log : List LocalStep) (local : Local) (here : Here) (call : TreeOp) → AreHeldAs local here.held_read → AreHeldAs (after_op local call) (here_after log local (after_op local call) here call).held_read
called log local here (op.List at) are =
    subst (AreHeldAs (after_op local (op.List at))) (sym (listed-same log here at)) (entries-keep local (after_op local (op.List at)) here.held_read (λ n. op-keeps n local (op.List at) refl) are)
called log local here (op.Read at) are = entries-keep local (after_op local (op.Read at)) here.held_read (λ n. op-keeps n local (op.Read at) refl) are
called log local here (op.MakeDir at) are = entries-keep local (after_op local (op.MakeDir at)) here.held_read (λ n. op-keeps n local (op.MakeDir at) refl) are
called log local here (op.RemoveDir at) are = entries-keep local (after_op local (op.RemoveDir at)) here.held_read (λ n. op-keeps n local (op.RemoveDir at) refl) are
called log local here (op.Place at bytes) are = entries-keep local (after_op local (op.Place at bytes)) here.held_read (λ n. op-keeps n local (op.Place at bytes) refl) are
called log local here (op.Rename from to) are = entries-keep local (after_op local (op.Rename from to)) here.held_read (λ n. op-keeps n local (op.Rename from to) refl) are
called log local here (op.SetAside at) are = entries-keep local (after_op local (op.SetAside at)) here.held_read (λ n. op-keeps n local (op.SetAside at) refl) are
called log local here (op.ReadAside aside) are =
    entries-keep local (after_op local (op.ReadAside aside)) (bytes_of_held aside (held_at aside local.held) ++ here.held_read) (λ n. op-keeps n local (op.ReadAside aside) refl)
    (each-append (IsHeldAs local) (bytes_of_held aside (held_at aside local.held)) here.held_read (read-held aside local (held_at aside local.held) refl) are)
called log local here (op.PutBack aside to) are = without-entries aside local (after_op local (op.PutBack aside to)) here.held_read (λ n other. op-keeps n local (op.PutBack aside to) other) are
called log local here (op.Discard aside) are = without-entries aside local (after_op local (op.Discard aside)) here.held_read (λ n other. op-keeps n local (op.Discard aside) other) are
called log local here op.Asides are = entries-keep local (after_op local op.Asides) here.held_read (λ n. op-keeps n local op.Asides refl) are

pub held-called : (log : List LocalStep) (here : Here) (call : TreeOp) → AreHeldAs (local_of log) here.held_read
    → AreHeldAs (local_of (log ++ Op call ∷ [])) (here_after log (local_of log) (after_op (local_of log) call) here call).held_read
held-called log here call are =
    subst (λ (local : Local). AreHeldAs local (here_after log (local_of log) (after_op (local_of log) call) here call).held_read) (sym (local-snoc log (Op call))) (called log (local_of log) here call are)

pub held-edited : (log : List LocalStep) (edit : UserEdit) (entries : List (ℕ × List ℕ)) → AreHeldAs (local_of log) entries → AreHeldAs (local_of (log ++ User edit ∷ [])) entries
held-edited log edit entries are =
    let local : Local = local_of log in
    let after : Local = after_edit (length log) local edit in
    let same : after.held ≡ local.held = edit-if (has_place local edit) (length log) local edit in
    subst (λ (now : Local). AreHeldAs now entries) (sym (local-snoc log (User edit)))
    (entries-keep local after entries (λ n file is. ap (λ held. held_at n held) same ∙ is) are)
