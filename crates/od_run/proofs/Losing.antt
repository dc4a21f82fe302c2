-- A legal history loses no edit.
use Rattle.std.proofs.Common.{◌≡◌, ◌⊎◌, inl, inr, ⊎_elim, ℕ, zero, suc, ◌+◌, ◌<◌, Bool, true, false, ◌&&◌, ◌||◌, cond, nat_eq, is_none, map, List, [], ◌∷◌, ◌++◌, length, get_or, Option, Some, None, refl, ap, sym, subst, ◌∙◌, arith}
use Rattle.std.specs.Cmp.Lexicographic.{pointwise}
use Rattle.std.specs.List.{Contains, flat_map, list_any, list_all}
use Rattle.std.proofs.lemmas.Bool.{and_parts, eqb-true, or_cases, or_left, or_right}
use Rattle.std.proofs.lemmas.List.{append-nil, get_or-map, length-map}
use Rattle.std.proofs.lemmas.List.Elements.{Contains-append_left, Contains-append_right}
use Rattle.gd_item.specs.Records.{digest_record}
use Rattle.gd_item.specs.Steps.{accepted_by}
use Rattle.gd_item.specs.declared.digest.Digest.{Digest}
use Rattle.gd_item.specs.declared.live.Version.{Version}
use Rattle.gd_item.specs.declared.step.Step.{Step}
use Rattle.gd_item.proofs.LogsGrow.{accepted-log}
use Rattle.od_keeper.specs.Sound.{IsAccepted}
use Rattle.od_keeper.specs.declared.image.Agreed.TheVariants.{File}
use Rattle.od_tree.specs.Collisions.{NoCollision, contents, placed_by}
use Rattle.od_tree.specs.Local.{Local, empty_folder, held_at, local_of, op_refusal, after_op, after_step, without_held}
use Rattle.od_tree.specs.Loss.{is_accepted, is_origin, is_replaced, is_replaced_after, is_somewhere, lost_by, no_loss, stems_from, write_by, writes, writes_after}
use Rattle.od_tree.specs.Taking.{is_discard}
use Rattle.od_tree.specs.declared.fault.TreeFault.{TreeFault}
use Rattle.od_tree.specs.declared.local.HeldFile.{HeldFile}
use Rattle.od_tree.specs.declared.local.Spot.{Spot}
use Rattle.od_tree.specs.declared.step.LocalStep.{LocalStep}
use Rattle.od_tree.specs.declared.step.LocalStep.TheVariants.{Op}
use Rattle.od_tree.specs.declared.step.TreeOp.{TreeOp}
use Rattle.od_tree.specs.declared.step.TreeOp.TheVariants as op
use Rattle.od_tree.proofs.Contents.{apart-before, contains-mapped, version-among}
use Rattle.od_tree.proofs.Lossless.{no_more_lost, both, is_safe}
use Rattle.od_tree.proofs.Paths.{text-self}
use Rattle.od_tree.proofs.Staying.{at_path, in_held, in_holding, somewhere, without_first_held}
use Rattle.od_tree.proofs.Steps.{local-snoc}
use Rattle.od_run.specs.Good.{IsHeldAs, LosesNothing}
use Rattle.od_run.proofs.Origins.{FileIn, HeldIn, StemsIn, held-in, stems, written-once}

-- what each thing that is among some passes, these pass
passed-each : {X : Type 0} (p : X → Bool) (xs : List X) → ((x : X) → Contains xs x → p x ≡ true) → list_all p xs ≡ true
passed-each p [] each = refl
passed-each p (x ∷ xs) each =
    both (p x) (list_all p xs) (each x (0, omega arith, refl)) (passed-each p xs (λ y there. each y (suc there.0, omega (arith, there.1), there.2)))

passed-at : {X : Type 0} (p : X → Bool) (xs : List X) (i : ℕ) (d : X) → list_all p xs ≡ true → i < length xs → p (get_or xs i d) ≡ true
passed-at p [] i d all less = absurd (omega (arith, less))
passed-at p (x ∷ xs) zero d all less = (and_parts (p x) (list_all p xs) all).0
passed-at p (x ∷ xs) (suc i) d all less = passed-at p xs i d (and_parts (p x) (list_all p xs) all).1 (omega (arith, less))

passed-one : {X : Type 0} (p : X → Bool) (xs : List X) (x : X) → list_all p xs ≡ true → Contains xs x → p x ≡ true
passed-one p xs x all there = subst (λ y. p y ≡ true) there.2 (passed-at p xs there.0 x all there.1)

any-at : {X : Type 0} (p : X → Bool) (xs : List X) (i : ℕ) (d : X) → i < length xs → p (get_or xs i d) ≡ true → list_any p xs ≡ true
any-at p [] i d less is = absurd (omega (arith, less))
any-at p (x ∷ xs) zero d less is = or_left (p x) (list_any p xs) is
any-at p (x ∷ xs) (suc i) d less is = or_right (p x) (list_any p xs) (any-at p xs i d (omega (arith, less)) is)

any-one : {X : Type 0} (p : X → Bool) (xs : List X) (x : X) → Contains xs x → p x ≡ true → list_any p xs ≡ true
any-one p xs x there is = any-at p xs there.0 x there.1 (subst (λ y. p y ≡ true) (sym there.2) is)

-- ---- bytes of one digest
write-among : (log : List LocalStep) (versions : List Version) (write : ℕ × List ℕ) → Contains (writes log) write → Contains (contents log versions) write.1
write-among log versions write there =
    Contains-append_left (map (λ (w : ℕ × List ℕ). w.1) (writes log) ++ flat_map placed_by log) (map (λ (version : Version). version.bytes) versions) write.1
    (Contains-append_left (map (λ (w : ℕ × List ℕ). w.1) (writes log)) (flat_map placed_by log) write.1 (contains-mapped (λ (w : ℕ × List ℕ). w.1) (writes log) write there))

-- what was written and has the digest of accepted bytes is accepted
written-accepted : (log : List LocalStep) (versions : List Version) (write : ℕ × List ℕ) → NoCollision log versions → Contains (writes log) write
    → IsAccepted versions (File (digest_record write.1)) → is_accepted write.1 versions ≡ true
written-accepted log versions write apart there is =
    let version : Version = is.1 in
    let among : Contains versions version = (is.0, is.2, is.3) in
    let same : write.1 ≡ version.bytes = apart write.1 version.bytes (write-among log versions write there) (version-among log versions version among) (ap (λ (d : Digest). d.0) is.4) in
    any-one (λ (v : Version). pointwise nat_eq v.bytes write.1) versions version among (ap (λ bytes. pointwise nat_eq version.bytes bytes) same ∙ text-self version.bytes)

-- ---- a discard
abbrev stems_held : ℕ → Option HeldFile → Bool
stems_held n None = false
stems_held n (Some file) = is_origin n file.file.origin

left-or-taken : (n aside : ℕ) (held : List HeldFile) → in_held n held ≡ true → (in_held n (without_held aside held) ≡ true) ⊎ (stems_held n (held_at aside held) ≡ true)
left-or-taken n aside [] is = inl is
left-or-taken n aside (file ∷ held) is =
    without_first_held n file held (without_held aside held) (nat_eq file.number aside) (held_at aside held) (left-or-taken n aside held) is

by_refusal : (n : ℕ) (taken : Bool) (refusal : Option TreeFault) (done local : Local) → is_somewhere n local ≡ true → (is_somewhere n done ≡ true) ⊎ (taken ≡ true)
    → (is_somewhere n (cond (is_none refusal) done local) ≡ true) ⊎ (taken ≡ true)
by_refusal n taken None done local is then = then
by_refusal n taken (Some fault) done local is then = inl is

-- a discard leaves a file where it stands, or takes the held one
discarded : (n aside : ℕ) (local : Local) → is_somewhere n local ≡ true → (is_somewhere n (after_op local (op.Discard aside)) ≡ true) ⊎ (stems_held n (held_at aside local.held) ≡ true)
discarded n aside local is =
    let done : Local = record local { held = without_held aside local.held } in
    by_refusal n (stems_held n (held_at aside local.held)) (op_refusal local (op.Discard aside)) done local is
    (⊎_elim (λ here. inl (at_path n done here)) (λ held. ⊎_elim (λ left. inl (in_holding n done left)) (λ taken. inr taken) (left-or-taken n aside local.held held)) (somewhere n local is))

-- the held file that a write is the origin of has its bytes
origin-is : (n : ℕ) (origin : Option ℕ) → is_origin n origin ≡ true → origin ≡ Some n
origin-is n None is = absurd (cc is)
origin-is n (Some step) is = ap (λ m. Some m) (eqb-true step n is)

taken-bytes : (log : List LocalStep) (n aside : ℕ) (written : List ℕ) (found : Option HeldFile) → held_at aside (local_of log).held ≡ found → stems_held n found ≡ true → Contains (writes log) (n, written)
    → (file : HeldFile) × (found ≡ Some file) × (file.file.bytes ≡ written)
taken-bytes log n aside written None is stem wrote = absurd (cc stem)
taken-bytes log n aside written (Some file) is stem wrote =
    let from : FileIn (writes log) file.file = subst (HeldIn (writes log)) is (held-in (writes log) aside (local_of log).held (stems log).held) in
    let there : Contains (writes log) (n, file.file.bytes) = subst (λ origin. StemsIn (writes log) origin file.file.bytes) (origin-is n file.file.origin stem) from in
    (file, refl, written-once log n file.file.bytes written there wrote)

-- ---- longer logs
replaced-more : (at : ℕ) (local : Local) (n : ℕ) (log more : List LocalStep) → is_replaced_after at local n log ≡ true → is_replaced_after at local n (log ++ more) ≡ true
replaced-more at local n [] more is = absurd (cc is)
replaced-more at local n (step ∷ log) more is =
    let lost : Bool = list_any (λ (spot : Spot). stems_from n spot.file) (lost_by local step) in
    ⊎_elim (λ here. or_left lost (is_replaced_after (at + 1) (after_step at local step) n (log ++ more)) here)
    (λ later. or_right lost (is_replaced_after (at + 1) (after_step at local step) n (log ++ more)) (replaced-more (at + 1) (after_step at local step) n log more later))
    (or_cases lost (is_replaced_after (at + 1) (after_step at local step) n log) is)

writes-op : (at : ℕ) (local : Local) (log : List LocalStep) (call : TreeOp) → writes_after at local (log ++ Op call ∷ []) ≡ writes_after at local log
writes-op at local [] call = refl
writes-op at local (step ∷ log) call = ap (λ later. write_by at local step ++ later) (writes-op (at + 1) (after_step at local step) log call)

-- ---- no loss
safe-somewhere : (versions : List Version) (log : List LocalStep) (write : ℕ × List ℕ) → is_somewhere write.0 (local_of log) ≡ true → is_safe versions log write ≡ true
safe-somewhere versions log write is =
    or_left (is_somewhere write.0 (local_of log) || is_replaced write.0 log) (is_accepted write.1 versions) (or_left (is_somewhere write.0 (local_of log)) (is_replaced write.0 log) is)

safe-accepted : (versions : List Version) (log : List LocalStep) (write : ℕ × List ℕ) → is_accepted write.1 versions ≡ true → is_safe versions log write ≡ true
safe-accepted versions log write is = or_right (is_somewhere write.0 (local_of log) || is_replaced write.0 log) (is_accepted write.1 versions) is

abbrev with_discard : List LocalStep → ℕ → List LocalStep
with_discard log aside = log ++ Op (op.Discard aside) ∷ []

-- what is taken has the bytes that the client read, which are those of an agreement
taken-safe : (log : List LocalStep) (versions : List Version) (aside : ℕ) (bytes : List ℕ) (write : ℕ × List ℕ) → IsHeldAs (local_of log) (aside, bytes) → IsAccepted versions (File (digest_record bytes))
    → NoCollision log versions → Contains (writes log) write → stems_held write.0 (held_at aside (local_of log).held) ≡ true → is_safe versions (with_discard log aside) write ≡ true
taken-safe log versions aside bytes write known agreed apart wrote taken =
    let found = taken-bytes log write.0 aside write.1 (held_at aside (local_of log).held) refl taken wrote in
    let one : Some found.0 ≡ Some known.0 = sym found.1 ∙ known.1 in
    let file : found.0 ≡ known.0 = cc one in
    let same : bytes ≡ write.1 = sym known.2 ∙ (sym (ap (λ (f : HeldFile). f.file.bytes) file) ∙ found.2) in
    safe-accepted versions (with_discard log aside) write (written-accepted log versions write apart wrote (subst (λ b. IsAccepted versions (File (digest_record b))) same agreed))

discard-safe : (log : List LocalStep) (versions : List Version) (aside : ℕ) (bytes : List ℕ) (write : ℕ × List ℕ) → IsHeldAs (local_of log) (aside, bytes) → IsAccepted versions (File (digest_record bytes))
    → NoCollision log versions → Contains (writes log) write → is_safe versions log write ≡ true → is_safe versions (with_discard log aside) write ≡ true
discard-safe log versions aside bytes write known agreed apart wrote safe =
    let longer : List LocalStep = with_discard log aside in
    let there : Bool = is_somewhere write.0 (local_of longer) || is_replaced write.0 longer in
    ⊎_elim
    (λ kept. ⊎_elim
    (λ stands. ⊎_elim
    (λ still. safe-somewhere versions longer write (ap (λ (local : Local). is_somewhere write.0 local) (local-snoc log (Op (op.Discard aside))) ∙ still))
    (λ taken. taken-safe log versions aside bytes write known agreed apart wrote taken)
    (discarded write.0 aside (local_of log) stands))
    (λ replaced. or_left there (is_accepted write.1 versions) (or_right (is_somewhere write.0 (local_of longer)) (is_replaced write.0 longer) (replaced-more 0 empty_folder write.0 log (Op (op.Discard aside) ∷ []) replaced)))
    (or_cases (is_somewhere write.0 (local_of log)) (is_replaced write.0 log) kept))
    (λ sent. safe-accepted versions longer write sent)
    (or_cases (is_somewhere write.0 (local_of log) || is_replaced write.0 log) (is_accepted write.1 versions) safe)

discard-loses : (log : List LocalStep) (versions : List Version) (aside : ℕ) (bytes : List ℕ) → IsHeldAs (local_of log) (aside, bytes) → IsAccepted versions (File (digest_record bytes)) → NoCollision log versions
    → no_loss log versions ≡ true → no_loss (with_discard log aside) versions ≡ true
discard-loses log versions aside bytes known agreed apart none =
    subst (λ (some : List (ℕ × List ℕ)). list_all (is_safe versions (with_discard log aside)) some ≡ true) (sym (writes-op 0 empty_folder log (op.Discard aside)))
    (passed-each (is_safe versions (with_discard log aside)) (writes log)
    (λ write wrote. discard-safe log versions aside bytes write known agreed apart wrote (passed-one (is_safe versions log) (writes log) write none wrote)))

-- ---- one more step
apart-local : (log more : List LocalStep) (drive : List Step) → NoCollision (log ++ more) (accepted_by drive) → NoCollision log (accepted_by drive)
apart-local log more drive apart = apart-before log more drive [] (subst (λ d. NoCollision (log ++ more) (accepted_by d)) (sym (append-nil drive)) apart)

apart-drive : (log : List LocalStep) (drive later : List Step) → NoCollision log (accepted_by (drive ++ later)) → NoCollision log (accepted_by drive)
apart-drive log drive later apart = apart-before log [] drive later (subst (λ l. NoCollision l (accepted_by (drive ++ later))) (sym (append-nil log)) apart)

pub loses-drive : (local : List LocalStep) (drive later : List Step) → LosesNothing local drive → LosesNothing local (drive ++ later)
loses-drive local drive later loses apart =
    subst (λ versions. no_loss local versions ≡ true) (sym (accepted-log drive later).1)
    (subst (λ l. no_loss l (accepted_by drive ++ (accepted-log drive later).0) ≡ true) (append-nil local)
    (no_more_lost local [] (accepted_by drive) (accepted-log drive later).0 refl (loses (apart-drive local drive later apart))))

pub loses-step : (local : List LocalStep) (drive : List Step) (step : LocalStep) → is_discard step ≡ false → LosesNothing local drive → LosesNothing (local ++ step ∷ []) drive
loses-step local drive step keeps loses apart =
    subst (λ versions. no_loss (local ++ step ∷ []) versions ≡ true) (append-nil (accepted_by drive))
    (no_more_lost local (step ∷ []) (accepted_by drive) [] (ap (λ b. b || false) keeps) (loses (apart-local local (step ∷ []) drive apart)))

pub loses-discard : (local : List LocalStep) (drive : List Step) (aside : ℕ) (bytes : List ℕ) → IsHeldAs (local_of local) (aside, bytes) → IsAccepted (accepted_by drive) (File (digest_record bytes))
    → LosesNothing local drive → LosesNothing (local ++ Op (op.Discard aside) ∷ []) drive
loses-discard local drive aside bytes known agreed loses apart =
    let before : NoCollision local (accepted_by drive) = apart-local local (Op (op.Discard aside) ∷ []) drive apart in
    discard-loses local (accepted_by drive) aside bytes known agreed before (loses before)
