-- What making folders and placing files does to the folder's log, and to its entries where the user leaves it alone.
use Rattle.std.proofs.Common.{◌≡◌, ◌⊎◌, inl, inr, ℕ, Bool, true, false, not, cond, List, [], ◌∷◌, ◌++◌, map, is_none, Option, Some, None, Ok, Err, refl, ap, sym, subst, ◌∙◌, append_assoc}
use Rattle.std.proofs.lemmas.List.{append-nil, append_cancel_left}
use Rattle.std.specs.List.{AllByRecursion}
use Rattle.gd_names.specs.Causes.{first_cause}
use Rattle.od_tree.specs.Calls.{Calls, edited, with_op}
use Rattle.od_tree.specs.Local.{Local, after_op, has_parent, is_taken_at, local_of, op_refusal, with_spot}
use Rattle.od_tree.specs.Undisturbed.{IsOp, NoUser}
use Rattle.od_tree.specs.declared.edit.UserEdit.{UserEdit}
use Rattle.od_tree.specs.declared.fault.TreeFault.{TreeFault}
use Rattle.od_tree.specs.declared.fault.TreeFault.TheVariants.{Taken, Missing}
use Rattle.od_tree.specs.declared.local.Spot.{Spot}
use Rattle.od_tree.specs.declared.step.LocalStep.{LocalStep}
use Rattle.od_tree.specs.declared.step.LocalStep.TheVariants.{User, Op}
use Rattle.od_tree.specs.declared.step.TreeOp.{TreeOp}
use Rattle.od_tree.specs.declared.step.TreeOp.TheVariants as op
use Rattle.gd_names.proofs.Each.{each-so, each-append, each-first, each-second}
use Rattle.od_tree.proofs.Steps.{local-snoc}
use Rattle.od_sync.specs.Doing.{CanStand, IsMaking, IsMakingOf, Made, Makes, placed_file}
use Rattle.od_sync.specs.Making.{MakesOne, PlacesOne}
use Rattle.od_sync.proofs.Looks.{no-edits}

-- ---- how the log grows
module _ (IsFolder : List (List ℕ) → Type 0) (IsFile : List (List ℕ) → List ℕ → Type 0) where
  edits-make : (edits : List UserEdit) → AllByRecursion (IsMakingOf IsFolder IsFile) (map (λ (edit : UserEdit). User edit) edits)
  edits-make [] = tt
  edits-make (edit ∷ edits) = (tt, edits-make edits)

  by-edits : (old : List LocalStep) (edits : List UserEdit) (after : Option (List LocalStep)) → after ≡ Some (edited old edits) → Made IsFolder IsFile old after
  by-edits old edits after is = record { part = map (λ (edit : UserEdit). User edit) edits; makes = edits-make edits; grown = is }

  by-op : (call : TreeOp) (old : List LocalStep) (edits : List UserEdit) (after : Option (List LocalStep)) → IsMakingOf IsFolder IsFile (Op call) → after ≡ Some (with_op old edits call) → Made IsFolder IsFile old after
  by-op call old edits after makes is = record {
    part = map (λ (edit : UserEdit). User edit) edits ++ Op call ∷ [];
    makes = each-append (IsMakingOf IsFolder IsFile) (map (λ (edit : UserEdit). User edit) edits) (Op call ∷ []) (edits-make edits) (makes, tt);
    grown = is ∙ ap (λ log. Some log) (append_assoc old (map (λ (edit : UserEdit). User edit) edits) (Op call ∷ []));
  }

  either-way : {Allowed : Type 0} (call : TreeOp) (old : List LocalStep) (edits : List UserEdit) (after : Option (List LocalStep)) → IsMakingOf IsFolder IsFile (Op call)
      → (after ≡ Some (edited old edits)) ⊎ ((after ≡ Some (with_op old edits call)) × Allowed) → Made IsFolder IsFile old after
  either-way call old edits after makes (inl without) = by-edits old edits after without
  either-way call old edits after makes (inr done) = by-op call old edits after makes done.0

pub makes-ok : {T : Type 0} {IsFolder : List (List ℕ) → Type 0} {IsFile : List (List ℕ) → List ℕ → Type 0} (call : TreeOp) (Value : Local → T → Type 0) (before after : Option (List LocalStep)) (x : T)
    → IsMakingOf IsFolder IsFile (Op call) → Calls call Value before after (Ok x) → Makes IsFolder IsFile before after
makes-ok {T} {IsFolder} {IsFile} call Value before after x makes calls =
    record { told = λ old told. let done = calls.ok old told in by-op IsFolder IsFile call old done.0 after makes done.1 }

pub makes-err : {T : Type 0} {IsFolder : List (List ℕ) → Type 0} {IsFile : List (List ℕ) → List ℕ → Type 0} (call : TreeOp) (Value : Local → T → Type 0) (before after : Option (List LocalStep)) (fault : TreeFault)
    → IsMakingOf IsFolder IsFile (Op call) → Calls call Value before after (Err fault) → Makes IsFolder IsFile before after
makes-err {T} {IsFolder} {IsFile} call Value before after fault makes calls =
    record { told = λ old told. let done = calls.err old told in either-way IsFolder IsFile call old done.0 after makes done.1 }

pub makes-none : {IsFolder : List (List ℕ) → Type 0} {IsFile : List (List ℕ) → List ℕ → Type 0} (log : Option (List LocalStep)) → Makes IsFolder IsFile log log
makes-none log = record { told = λ old told. record { part = []; makes = tt; grown = told ∙ ap (λ steps. Some steps) (sym (append-nil old)) } }

pub makes-then : {IsFolder : List (List ℕ) → Type 0} {IsFile : List (List ℕ) → List ℕ → Type 0} (before now after : Option (List LocalStep))
    → Makes IsFolder IsFile before now → Makes IsFolder IsFile now after → Makes IsFolder IsFile before after
makes-then {IsFolder} {IsFile} before now after first second = record {
  told = λ old told.
      let one = first.told old told in
      let two = second.told (old ++ one.part) one.grown in
      record {
        part = one.part ++ two.part;
        makes = each-append (IsMakingOf IsFolder IsFile) one.part two.part one.makes two.makes;
        grown = two.grown ∙ ap (λ log. Some log) (append_assoc old one.part two.part);
      };
}

-- ---- what is made is also what more may be made of
making-so : (IsFolder NowFolder : List (List ℕ) → Type 0) (IsFile NowFile : List (List ℕ) → List ℕ → Type 0) → ((at : List (List ℕ)) → IsFolder at → NowFolder at)
    → ((at : List (List ℕ)) (bytes : List ℕ) → IsFile at bytes → NowFile at bytes) → (step : LocalStep) → IsMakingOf IsFolder IsFile step → IsMakingOf NowFolder NowFile step
making-so IsFolder NowFolder IsFile NowFile folder file (User edit) makes = tt
making-so IsFolder NowFolder IsFile NowFile folder file (Op (op.List at)) makes = makes
making-so IsFolder NowFolder IsFile NowFile folder file (Op (op.Read at)) makes = makes
making-so IsFolder NowFolder IsFile NowFile folder file (Op (op.MakeDir at)) makes = folder at makes
making-so IsFolder NowFolder IsFile NowFile folder file (Op (op.RemoveDir at)) makes = makes
making-so IsFolder NowFolder IsFile NowFile folder file (Op (op.Place at bytes)) makes = file at bytes makes
making-so IsFolder NowFolder IsFile NowFile folder file (Op (op.Rename from to)) makes = makes
making-so IsFolder NowFolder IsFile NowFile folder file (Op (op.SetAside at)) makes = makes
making-so IsFolder NowFolder IsFile NowFile folder file (Op (op.ReadAside aside)) makes = makes
making-so IsFolder NowFolder IsFile NowFile folder file (Op (op.PutBack aside to)) makes = makes
making-so IsFolder NowFolder IsFile NowFile folder file (Op (op.Discard aside)) makes = makes
making-so IsFolder NowFolder IsFile NowFile folder file (Op op.Asides) makes = makes

pub makes-so : {IsFolder NowFolder : List (List ℕ) → Type 0} {IsFile NowFile : List (List ℕ) → List ℕ → Type 0} (before after : Option (List LocalStep)) → ((at : List (List ℕ)) → IsFolder at → NowFolder at)
    → ((at : List (List ℕ)) (bytes : List ℕ) → IsFile at bytes → NowFile at bytes) → Makes IsFolder IsFile before after → Makes NowFolder NowFile before after
makes-so {IsFolder} {NowFolder} {IsFile} {NowFile} before after folder file makes = record {
  told = λ old told.
      let made = makes.told old told in
      record {
        part = made.part;
        makes = each-so (IsMakingOf IsFolder IsFile) (IsMakingOf NowFolder NowFile) (making-so IsFolder NowFolder IsFile NowFile folder file) made.part made.makes;
        grown = made.grown;
      };
}

making-step : (IsFolder : List (List ℕ) → Type 0) (IsFile : List (List ℕ) → List ℕ → Type 0) (step : LocalStep) → IsMakingOf IsFolder IsFile step → IsMaking step
making-step IsFolder IsFile (User edit) makes = tt
making-step IsFolder IsFile (Op (op.List at)) makes = makes
making-step IsFolder IsFile (Op (op.Read at)) makes = makes
making-step IsFolder IsFile (Op (op.MakeDir at)) makes = tt
making-step IsFolder IsFile (Op (op.RemoveDir at)) makes = makes
making-step IsFolder IsFile (Op (op.Place at bytes)) makes = tt
making-step IsFolder IsFile (Op (op.Rename from to)) makes = makes
making-step IsFolder IsFile (Op (op.SetAside at)) makes = makes
making-step IsFolder IsFile (Op (op.ReadAside aside)) makes = makes
making-step IsFolder IsFile (Op (op.PutBack aside to)) makes = makes
making-step IsFolder IsFile (Op (op.Discard aside)) makes = makes
making-step IsFolder IsFile (Op op.Asides) makes = makes

pub makes-steps : (IsFolder : List (List ℕ) → Type 0) (IsFile : List (List ℕ) → List ℕ → Type 0) (part : List LocalStep) → AllByRecursion (IsMakingOf IsFolder IsFile) part → AllByRecursion IsMaking part
makes-steps IsFolder IsFile part makes = each-so (IsMakingOf IsFolder IsFile) IsMaking (making-step IsFolder IsFile) part makes

-- ---- one part of a log that is two
pub record InTwo (old part : List LocalStep) (now after : Option (List LocalStep)) : Type 0 where
  pub first : List LocalStep
  pub second : List LocalStep
  pub now_is : now ≡ Some (old ++ first)
  pub after_is : after ≡ Some ((old ++ first) ++ second)
  pub alone_first : NoUser first
  pub alone_second : NoUser second
  pub whole : (old ++ first) ++ second ≡ old ++ part

the-same : (after : Option (List LocalStep)) (a b : List LocalStep) → after ≡ Some a → after ≡ Some b → a ≡ b
the-same after a b first second = cc (sym first ∙ second)

pub same-part : (old a b : List LocalStep) (after : Option (List LocalStep)) → after ≡ Some (old ++ a) → after ≡ Some (old ++ b) → a ≡ b
same-part old a b after first second = append_cancel_left old a b (the-same after (old ++ a) (old ++ b) first second)

pub in-two : {IsFolder NowFolder : List (List ℕ) → Type 0} {IsFile NowFile : List (List ℕ) → List ℕ → Type 0} (before now after : Option (List LocalStep)) (old part : List LocalStep)
    → Makes IsFolder IsFile before now → Makes NowFolder NowFile now after → before ≡ Some old → after ≡ Some (old ++ part) → NoUser part → InTwo old part now after
in-two {IsFolder} {NowFolder} {IsFile} {NowFile} before now after old part first second told grown alone =
    let one : Made IsFolder IsFile old now = first.told old told in
    let two : Made NowFolder NowFile (old ++ one.part) after = second.told (old ++ one.part) one.grown in
    let parts : part ≡ one.part ++ two.part =
    same-part old part (one.part ++ two.part) after grown (two.grown ∙ ap (λ log. Some log) (append_assoc old one.part two.part))
    in
    let both : NoUser (one.part ++ two.part) = subst NoUser parts alone in
    record {
      first = one.part;
      second = two.part;
      now_is = one.grown;
      after_is = two.grown;
      alone_first = each-first IsOp one.part two.part both;
      alone_second = each-second IsOp one.part two.part both;
      whole = append_assoc old one.part two.part ∙ ap (λ steps. old ++ steps) (sym parts);
    }

-- ---- one call where the user leaves the folder alone
op-alone : (call : TreeOp) (old part : List LocalStep) (edits : List UserEdit) (after : Option (List LocalStep)) → after ≡ Some (old ++ part) → NoUser part → after ≡ Some (with_op old edits call)
    → old ++ part ≡ old ++ Op call ∷ []
op-alone call old part edits after grown alone is =
    let steps : List LocalStep = map (λ (edit : UserEdit). User edit) edits in
    let parts : part ≡ steps ++ Op call ∷ [] = same-part old part (steps ++ Op call ∷ []) after grown (is ∙ ap (λ log. Some log) (append_assoc old steps (Op call ∷ []))) in
    let none : edits ≡ [] = no-edits edits (Op call ∷ []) (subst NoUser parts alone) in
    ap (λ xs. old ++ xs) (parts ∙ ap (λ (es : List UserEdit). map (λ (edit : UserEdit). User edit) es ++ Op call ∷ []) none)

edits-alone : (old part : List LocalStep) (edits : List UserEdit) (after : Option (List LocalStep)) → after ≡ Some (old ++ part) → NoUser part → after ≡ Some (edited old edits) → edited old edits ≡ old
edits-alone old part edits after grown alone is =
    let steps : List LocalStep = map (λ (edit : UserEdit). User edit) edits in
    let parts : part ≡ steps = same-part old part steps after grown is in
    let none : edits ≡ [] = no-edits edits [] (subst NoUser (parts ∙ sym (append-nil steps)) alone) in
    ap (λ (es : List UserEdit). edited old es) none ∙ append-nil old

abbrev why_not : Bool → Bool → Option TreeFault
why_not taken parent = first_cause ((taken, Taken) ∷ (not parent, Missing) ∷ [])

no-cause : (taken parent : Bool) → taken ≡ false → parent ≡ true → why_not taken parent ≡ None
no-cause true parent free there = absurd (cc free)
no-cause false true free there = refl
no-cause false false free there = absurd (cc there)

-- of both calls: the entry is added, or they are refused although the entry can stand
added : (call : TreeOp) (old part : List LocalStep) (edits : List UserEdit) (after : Option (List LocalStep)) (spots : List Spot) → after ≡ Some (old ++ part) → NoUser part → after ≡ Some (with_op old edits call)
    → (after_op (local_of old) call).spots ≡ spots → (local_of (old ++ part)).spots ≡ spots
added call old part edits after spots grown alone is done =
    ap (λ log. (local_of log).spots) (op-alone call old part edits after grown alone is) ∙ (ap (λ (local : Local). local.spots) (local-snoc old (Op call)) ∙ done)

free-of : (call : TreeOp) (old part : List LocalStep) (edits : List UserEdit) (after : Option (List LocalStep)) (fault : TreeFault) → after ≡ Some (old ++ part) → NoUser part → after ≡ Some (edited old edits)
    → op_refusal (local_of (edited old edits)) call ≡ Some fault → op_refusal (local_of old) call ≡ None → ⊥
free-of call old part edits after fault grown alone is refused free =
    let here : op_refusal (local_of old) call ≡ Some fault = subst (λ log. op_refusal (local_of log) call ≡ Some fault) (edits-alone old part edits after grown alone is) refused in
    cc (here, free)

-- ---- a folder
dir-free : (path : List (List ℕ)) (local : Local) → CanStand path local.spots → op_refusal local (op.MakeDir path) ≡ None
dir-free path local can = no-cause (is_taken_at path local.spots) (has_parent path local.spots) can.free can.parent

dir-added : (path : List (List ℕ)) (local : Local) → CanStand path local.spots → (after_op local (op.MakeDir path)).spots ≡ with_spot path None local.spots
dir-added path local can =
    ap (λ refusal. (cond (is_none refusal) (record local { spots = with_spot path None local.spots }) local).spots) (dir-free path local can)

pub dir-made : {T : Type 0} (path : List (List ℕ)) (Value : Local → T → Type 0) (before after : Option (List LocalStep)) (x : T) → Calls (op.MakeDir path) Value before after (Ok x) → MakesOne path before after true
dir-made path Value before after x calls = record {
  one = λ old part told grown alone can.
      let done = calls.ok old told in
      (refl, added (op.MakeDir path) old part done.0 after (with_spot path None (local_of old).spots) grown alone done.1 (dir-added path (local_of old) can));
}

pub dir-taken : {T : Type 0} (path : List (List ℕ)) (Value : Local → T → Type 0) (before after : Option (List LocalStep)) (fault : TreeFault) → fault ≡ Taken → Calls (op.MakeDir path) Value before after (Err fault)
    → MakesOne path before after false
dir-taken path Value before after fault is calls = record {
  one = λ old part told grown alone can.
      let done = calls.taken (ap (λ f. Err f) is) old told in
      absurd (free-of (op.MakeDir path) old part done.0 after Taken grown alone done.1 done.2 (dir-free path (local_of old) can));
}

pub dir-missing : {T : Type 0} (path : List (List ℕ)) (Value : Local → T → Type 0) (before after : Option (List LocalStep)) (fault : TreeFault) → fault ≡ Missing → Calls (op.MakeDir path) Value before after (Err fault)
    → MakesOne path before after false
dir-missing path Value before after fault is calls = record {
  one = λ old part told grown alone can.
      let done = calls.missing (ap (λ f. Err f) is) old told in
      absurd (free-of (op.MakeDir path) old part done.0 after Missing grown alone done.1 done.2 (dir-free path (local_of old) can));
}

-- ---- a file
file-free : (path : List (List ℕ)) (bytes : List ℕ) (local : Local) → CanStand path local.spots → op_refusal local (op.Place path bytes) ≡ None
file-free path bytes local can = no-cause (is_taken_at path local.spots) (has_parent path local.spots) can.free can.parent

file-added : (path : List (List ℕ)) (bytes : List ℕ) (local : Local) → CanStand path local.spots → (after_op local (op.Place path bytes)).spots ≡ with_spot path (Some (placed_file bytes)) local.spots
file-added path bytes local can =
    ap (λ refusal. (cond (is_none refusal) (record local { spots = with_spot path (Some (placed_file bytes)) local.spots }) local).spots) (file-free path bytes local can)

pub file-placed : {T : Type 0} (path : List (List ℕ)) (bytes : List ℕ) (Value : Local → T → Type 0) (before after : Option (List LocalStep)) (x : T) → Calls (op.Place path bytes) Value before after (Ok x)
    → PlacesOne (path, bytes) before after true
file-placed path bytes Value before after x calls = record {
  one = λ old part told grown alone can.
      let done = calls.ok old told in
      (refl, added (op.Place path bytes) old part done.0 after (with_spot path (Some (placed_file bytes)) (local_of old).spots) grown alone done.1 (file-added path bytes (local_of old) can));
}

pub file-taken : {T : Type 0} (path : List (List ℕ)) (bytes : List ℕ) (Value : Local → T → Type 0) (before after : Option (List LocalStep)) (fault : TreeFault) → fault ≡ Taken → Calls (op.Place path bytes) Value before after (Err fault)
    → PlacesOne (path, bytes) before after false
file-taken path bytes Value before after fault is calls = record {
  one = λ old part told grown alone can.
      let done = calls.taken (ap (λ f. Err f) is) old told in
      absurd (free-of (op.Place path bytes) old part done.0 after Taken grown alone done.1 done.2 (file-free path bytes (local_of old) can));
}

pub file-missing : {T : Type 0} (path : List (List ℕ)) (bytes : List ℕ) (Value : Local → T → Type 0) (before after : Option (List LocalStep)) (fault : TreeFault) → fault ≡ Missing → Calls (op.Place path bytes) Value before after (Err fault)
    → PlacesOne (path, bytes) before after false
file-missing path bytes Value before after fault is calls = record {
  one = λ old part told grown alone can.
      let done = calls.missing (ap (λ f. Err f) is) old told in
      absurd (free-of (op.Place path bytes) old part done.0 after Missing grown alone done.1 done.2 (file-free path bytes (local_of old) can));
}
