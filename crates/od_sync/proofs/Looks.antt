-- A scan's calls of the folder change nothing but by the user.
use Rattle.std.proofs.Common.{◌≡◌, ◌⊎◌, inl, inr, ℕ, ◌+◌, ◌<◌, ◌≤◌, Bool, true, false, not, ◌||◌, cond, List, [], ◌∷◌, ◌++◌, map, count_by, length, is_none, Option, Some, None, Ok, Err, refl, ap, sym, subst, ◌∙◌, append_assoc, arith}
use Rattle.std.proofs.lemmas.List.{append-nil}
use Rattle.std.proofs.lemmas.List.Folds.{list_any-append}
use Rattle.std.proofs.lemmas.List.Sums.{sum_by-append}
use Rattle.std.specs.List.{AllByRecursion, list_any}
use Rattle.std.specs.Prelude.{Result, OnOk}
use Rattle.std.specs.Option.{option_map}
use Rattle.gd_item.specs.Records.{digest_record}
use Rattle.gd_item.specs.declared.digest.Digest.{Digest}
use Rattle.gd_names.specs.Causes.{first_cause}
use Rattle.od_tree.specs.Calls.{Calls, edited, with_op}
use Rattle.od_tree.specs.Listing.{entries_in}
use Rattle.od_tree.specs.Local.{Local, local_of, op_refusal, after_step, after_steps, file_at, bytes_in, is_folder_at, is_path}
use Rattle.od_tree.specs.declared.entry.Entry.{Entry}
use Rattle.od_tree.specs.declared.fault.TreeFault.TheVariants.{Missing}
use Rattle.od_tree.specs.declared.local.LocalFile.{LocalFile}
use Rattle.od_tree.specs.declared.local.Spot.{Spot}
use Rattle.od_tree.specs.declared.step.TreeOp.TheVariants as op
use Rattle.od_tree.specs.declared.edit.UserEdit.{UserEdit}
use Rattle.od_tree.specs.declared.fault.TreeFault.{TreeFault}
use Rattle.od_tree.specs.declared.step.LocalStep.{LocalStep}
use Rattle.od_tree.specs.declared.step.LocalStep.TheVariants.{User, Op}
use Rattle.od_tree.specs.declared.step.TreeOp.{TreeOp}
use Rattle.od_tree.specs.Undisturbed.{IsOp, NoUser}
use Rattle.od_sync.specs.Findings.{digest_at, found_by, found_file, found_folder, found_in, listing_at}
use Rattle.od_sync.specs.Scans.{IsLook, GrownByLooks, GrowsByLooks, is_root_listing}
use Rattle.od_sync.specs.Visits.{Shows, Sees, Begins, Turn, Visits, step_of, pushed, pushed_if}
use Rattle.od_sync.specs.declared.scanning.Node.{Node}
use Rattle.od_sync.specs.declared.scanning.Node.TheVariants.{Folder, File}

same-either : (b : Bool) (local : Local) → cond b local local ≡ local
same-either true local = refl
same-either false local = refl

pub looks-append : (steps more : List LocalStep) → AllByRecursion IsLook steps → AllByRecursion IsLook more → AllByRecursion IsLook (steps ++ more)
looks-append [] more first second = second
looks-append (step ∷ steps) more first second = (first.0, looks-append steps more first.1 second)

pub looks-edits : (edits : List UserEdit) → AllByRecursion IsLook (map (λ (edit : UserEdit). User edit) edits)
looks-edits [] = tt
looks-edits (edit ∷ edits) = (tt, looks-edits edits)

-- ---- how often the root is listed
listed-edits : (edits : List UserEdit) → count_by is_root_listing (map (λ (edit : UserEdit). User edit) edits) ≡ 0
listed-edits [] = refl
listed-edits (edit ∷ edits) = listed-edits edits

listed-append : (a b : ℕ) (steps more : List LocalStep) → count_by is_root_listing steps ≤ a → count_by is_root_listing more ≤ b → count_by is_root_listing (steps ++ more) ≤ a + b
listed-append a b steps more first second = omega (arith, sum_by-append (λ step. cond (is_root_listing step) 1 0) steps more, first, second)

-- a call that lists the root so many times at most
abbrev IsListing : ℕ → TreeOp → Type 0
IsListing listings call = count_by is_root_listing (Op call ∷ []) ≤ listings

pub listing-read : (at : List (List ℕ)) → IsListing 0 (op.Read at)
listing-read at = omega arith

pub listing-once : (at : List (List ℕ)) → IsListing 1 (op.List at)
listing-once [] = omega arith
listing-once (name ∷ at) = omega arith

pub listing-below : (at : List (List ℕ)) → 0 < length at → IsListing 0 (op.List at)
listing-below [] named = absurd (omega arith)
listing-below (name ∷ at) named = omega arith

-- ---- the log grows by steps that look
by-edits : (listings : ℕ) (old : List LocalStep) (edits : List UserEdit) (after : Option (List LocalStep)) → after ≡ Some (edited old edits) → GrownByLooks listings old after
by-edits listings old edits after is = record {
  part = map (λ (edit : UserEdit). User edit) edits;
  looks = looks-edits edits;
  listed = omega (arith, listed-edits edits);
  grown = is;
}

abbrev by-op : (listings : ℕ) (call : TreeOp) (old : List LocalStep) (edits : List UserEdit) (after : Option (List LocalStep)) → IsLook (Op call) → IsListing listings call → after ≡ Some (with_op old edits call) → GrownByLooks listings old after
by-op listings call old edits after look listing is =
    let user : List LocalStep = map (λ (edit : UserEdit). User edit) edits in
    record {
      part = user ++ Op call ∷ [];
      looks = looks-append user (Op call ∷ []) (looks-edits edits) (look, tt);
      listed = omega (arith, listed-append 0 listings user (Op call ∷ []) (omega (arith, listed-edits edits)) listing);
      grown = is ∙ ap (λ log. Some log) (append_assoc old user (Op call ∷ []));
    }

either-way : {Allowed : Type 0} (listings : ℕ) (call : TreeOp) (old : List LocalStep) (edits : List UserEdit) (after : Option (List LocalStep)) → IsLook (Op call) → IsListing listings call
    → (after ≡ Some (edited old edits)) ⊎ ((after ≡ Some (with_op old edits call)) × Allowed) → GrownByLooks listings old after
either-way listings call old edits after look listing (inl without) = by-edits listings old edits after without
either-way listings call old edits after look listing (inr done) = by-op listings call old edits after look listing done.0

pub looks-ok : {T : Type 0} (listings : ℕ) (call : TreeOp) (Value : Local → T → Type 0) (before after : Option (List LocalStep)) (x : T) → IsLook (Op call) → IsListing listings call
    → Calls call Value before after (Ok x) → GrowsByLooks listings before after
looks-ok listings call Value before after x look listing calls =
    record { told = λ old told. let done = calls.ok old told in by-op listings call old done.0 after look listing done.1 }

pub looks-err : {T : Type 0} (listings : ℕ) (call : TreeOp) (Value : Local → T → Type 0) (before after : Option (List LocalStep)) (fault : TreeFault) → IsLook (Op call) → IsListing listings call
    → Calls call Value before after (Err fault) → GrowsByLooks listings before after
looks-err listings call Value before after fault look listing calls =
    record { told = λ old told. let done = calls.err old told in either-way listings call old done.0 after look listing done.1 }

pub looks-none : (log : Option (List LocalStep)) → GrowsByLooks 0 log log
looks-none log = record { told = λ old told. record { part = []; looks = tt; listed = omega arith; grown = told ∙ ap (λ steps. Some steps) (sym (append-nil old)) } }

pub looks-then : (a b : ℕ) (before middle after : Option (List LocalStep)) → GrowsByLooks a before middle → GrowsByLooks b middle after → GrowsByLooks (a + b) before after
looks-then a b before middle after first second = record {
  told = λ old told.
      let one = first.told old told in
      let two = second.told (old ++ one.part) one.grown in
      record {
        part = one.part ++ two.part;
        looks = looks-append one.part two.part one.looks two.looks;
        listed = listed-append a b one.part two.part one.listed two.listed;
        grown = two.grown ∙ ap (λ log. Some log) (append_assoc old one.part two.part);
      };
}

pub looks-weaker : (a b : ℕ) (before after : Option (List LocalStep)) → a ≤ b → GrowsByLooks a before after → GrowsByLooks b before after
looks-weaker a b before after less looks = record {
  told = λ old told.
      let one = looks.told old told in
      record { part = one.part; looks = one.looks; listed = omega (arith, less, one.listed); grown = one.grown };
}

-- ---- what a call tells without edits of the user
pub no-edits : (edits : List UserEdit) (more : List LocalStep) → NoUser (map (λ (edit : UserEdit). User edit) edits ++ more) → edits ≡ []
no-edits [] more alone = refl
no-edits (edit ∷ edits) more alone = absurd alone.0

at-old : (P : Local → Type 0) (old : List LocalStep) (edits : List UserEdit) → edits ≡ [] → P (local_of (edited old edits)) → P (local_of old)
at-old P old edits none holds =
    subst (λ log. P (local_of log)) (ap (λ (es : List UserEdit). edited old es) none ∙ append-nil old) holds

-- what an operation shows
pub shows-ok : {T X : Type 0} (call : TreeOp) (Value : Local → T → Type 0) (value : List Spot → Option X) (before after : Option (List LocalStep)) (x : T) (shown : X) → Calls call Value before after (Ok x)
    → ((local : Local) → op_refusal local call ≡ None → Value local x → Some shown ≡ value local.spots) → Shows call value (Some shown) before after
shows-ok call Value value before after x shown calls gives = record {
  told = λ old told.
      let done = calls.ok old told in
      record { edits = done.0; grown = done.1; shown_is = gives (local_of (edited old done.0)) done.2 done.3 };
}

pub shows-gone : {T X : Type 0} (call : TreeOp) (Value : Local → T → Type 0) (value : List Spot → Option X) (before after : Option (List LocalStep)) (fault : TreeFault) → fault ≡ Missing → Calls call Value before after (Err fault)
    → ((local : Local) → op_refusal local call ≡ Some Missing → None ≡ value local.spots) → Shows call value None before after
shows-gone call Value value before after fault is calls gives = record {
  told = λ old told.
      let refused : Calls call Value before after (Err Missing) = subst (λ (f : TreeFault). Calls call Value before after (Err f)) is calls in
      let done = refused.missing refl old told in
      record {
        edits = done.0;
        grown = done.1 ∙ ap (λ log. Some log) (sym (append-nil (edited old done.0)));
        shown_is = gives (local_of (edited old done.0)) done.2;
      };
}

-- a listing and a read
list-ok : (b : Bool) (entries there : List Entry) → first_cause ((not b, Missing) ∷ []) ≡ None → entries ≡ there → Some entries ≡ cond b (Some there) None
list-ok true entries there free is = ap (λ es. Some es) is
list-ok false entries there free is = absurd (cc free)

list-missing : (b : Bool) (there : List Entry) → first_cause ((not b, Missing) ∷ []) ≡ Some Missing → None ≡ cond b (Some there) None
list-missing true there refused = absurd (cc refused)
list-missing false there refused = refl

pub shows-list : (at : List (List ℕ)) (before after : Option (List LocalStep)) (entries : List Entry)
    → Calls (op.List at) (λ local entries. entries ≡ entries_in at local.spots) before after (Ok entries) → Shows (op.List at) (listing_at at) (Some entries) before after
shows-list at before after entries calls =
    shows-ok (op.List at) (λ local entries. entries ≡ entries_in at local.spots) (listing_at at) before after entries entries calls
    (λ local free is. list-ok (is_folder_at at local.spots) entries (entries_in at local.spots) free is)

pub shows-no-list : (at : List (List ℕ)) (before after : Option (List LocalStep)) (fault : TreeFault) → fault ≡ Missing
    → Calls (op.List at) (λ local entries. entries ≡ entries_in at local.spots) before after (Err fault) → Shows (op.List at) (listing_at at) None before after
shows-no-list at before after fault is calls =
    shows-gone (op.List at) (λ local (entries : List Entry). entries ≡ entries_in at local.spots) (listing_at at) before after fault is calls
    (λ local refused. list-missing (is_folder_at at local.spots) (entries_in at local.spots) refused)

read-missing : (file : Option LocalFile) → first_cause ((is_none file, Missing) ∷ []) ≡ Some Missing → None ≡ option_map digest_record (bytes_in file)
read-missing None refused = refl
read-missing (Some file) refused = absurd (cc refused)

pub digest-is : (digest : Digest) (now bytes : List ℕ) → digest.0 ≡ (digest_record now).0 → now ≡ bytes → digest ≡ digest_record bytes
digest-is digest now bytes is same = ap (λ (d : List ℕ). record { 0 = d }) is ∙ ap digest_record same

pub shows-read : (at : List (List ℕ)) (before after : Option (List LocalStep)) (bytes : List ℕ) (digest : Digest) → digest ≡ digest_record bytes
    → Calls (op.Read at) (λ local bytes. bytes_in (file_at at local.spots) ≡ Some bytes) before after (Ok bytes) → Shows (op.Read at) (digest_at at) (Some digest) before after
shows-read at before after bytes digest is calls =
    shows-ok (op.Read at) (λ local bytes. bytes_in (file_at at local.spots) ≡ Some bytes) (digest_at at) before after bytes digest calls
    (λ local free there. ap (λ d. Some d) is ∙ ap (λ (b : Option (List ℕ)). option_map digest_record b) (sym there))

pub shows-no-read : (at : List (List ℕ)) (before after : Option (List LocalStep)) (fault : TreeFault) → fault ≡ Missing
    → Calls (op.Read at) (λ local bytes. bytes_in (file_at at local.spots) ≡ Some bytes) before after (Err fault) → Shows (op.Read at) (digest_at at) None before after
shows-no-read at before after fault is calls =
    shows-gone (op.Read at) (λ local (bytes : List ℕ). bytes_in (file_at at local.spots) ≡ Some bytes) (digest_at at) before after fault is calls
    (λ local refused. read-missing (file_at at local.spots) refused)

-- ---- what steps find
pub found-append : (before steps more : List LocalStep) → found_by before (steps ++ more) ≡ found_by before steps ++ found_by (before ++ steps) more
found-append before [] more = ap (λ (log : List LocalStep). found_by log more) (sym (append-nil before))
found-append before (step ∷ steps) more =
    let here : List (List (List ℕ) × Node) = found_in (local_of before).spots step in
    let next : List LocalStep = before ++ step ∷ [] in
    ap (λ (rest : List (List (List ℕ) × Node)). here ++ rest) (found-append next steps more)
    ∙ ap (λ (log : List LocalStep). here ++ (found_by next steps ++ found_by log more)) (append_assoc before (step ∷ []) steps)
    ∙ sym (append_assoc here (found_by next steps) (found_by (before ++ step ∷ steps) more))

found-edits : (before : List LocalStep) (edits : List UserEdit) → found_by before (map (λ (edit : UserEdit). User edit) edits) ≡ []
found-edits before [] = refl
found-edits before (edit ∷ edits) = found-edits (before ++ User edit ∷ []) edits

-- an operation finds what is added of what it shows
abbrev Adds : {X : Type 0} → TreeOp → (List Spot → Option X) → (Option X → List (List (List ℕ) × Node)) → Type 0
Adds call value add = (add None ≡ []) × ((spots : List Spot) → found_in spots (Op call) ≡ add (value spots))

found-op : {X : Type 0} (call : TreeOp) (value : List Spot → Option X) (add : Option X → List (List (List ℕ) × Node)) (shown : Option X) (before : List LocalStep) → Adds call value add
    → shown ≡ value (local_of before).spots → found_by before (step_of call shown) ≡ add shown
found-op call value add None before adds is = sym adds.0
found-op call value add (Some x) before adds is =
    append-nil (found_in (local_of before).spots (Op call)) ∙ adds.1 (local_of before).spots ∙ ap add (sym is)

found-shown : {X : Type 0} (call : TreeOp) (value : List Spot → Option X) (add : Option X → List (List (List ℕ) × Node)) (shown : Option X) (old : List LocalStep) (edits : List UserEdit) → Adds call value add
    → shown ≡ value (local_of (edited old edits)).spots → found_by old (map (λ (edit : UserEdit). User edit) edits ++ step_of call shown) ≡ add shown
found-shown call value add shown old edits adds is =
    found-append old (map (λ (edit : UserEdit). User edit) edits) (step_of call shown)
    ∙ ap (λ (front : List (List (List ℕ) × Node)). front ++ found_by (edited old edits) (step_of call shown)) (found-edits old edits)
    ∙ found-op call value add shown (edited old edits) adds is

-- ---- what is seen below the root
edits-below : (edits : List UserEdit) → list_any is_root_listing (map (λ (edit : UserEdit). User edit) edits) ≡ false
edits-below [] = refl
edits-below (edit ∷ edits) = edits-below edits

pub below-append : (steps more : List LocalStep) → list_any is_root_listing steps ≡ false → list_any is_root_listing more ≡ false → list_any is_root_listing (steps ++ more) ≡ false
below-append steps more first second =
    list_any-append is_root_listing steps more ∙ ap (λ b. b || list_any is_root_listing more) first ∙ second

not-root : (at : List (List ℕ)) → 0 < length at → is_path [] at ≡ false
not-root [] named = absurd (omega arith)
not-root (name ∷ at) named = refl

either-look : {X : Type 0} (call : TreeOp) (shown : Option X) → IsLook (Op call) → AllByRecursion IsLook (step_of call shown)
either-look call None look = tt
either-look call (Some x) look = (look, tt)

either-below : {X : Type 0} (call : TreeOp) (shown : Option X) → is_root_listing (Op call) ≡ false → list_any is_root_listing (step_of call shown) ≡ false
either-below call None below = refl
either-below call (Some x) below = ap (λ b. b || false) below

sees-shown : {X : Type 0} (call : TreeOp) (value : List Spot → Option X) (add : Option X → List (List (List ℕ) × Node)) (shown : Option X) (found now : List (List (List ℕ) × Node)) (before after : Option (List LocalStep)) → IsLook (Op call) → is_root_listing (Op call) ≡ false
    → Adds call value add → now ≡ found ++ add shown → Shows call value shown before after → Sees found now (λ spots. shown ≡ value spots) before after
sees-shown call value add shown found now before after look below adds now_is shows = record {
  told = λ old told.
      let seen = shows.told old told in
      let user : List LocalStep = map (λ (edit : UserEdit). User edit) seen.edits in
      record {
        part = user ++ step_of call shown;
        looks = looks-append user (step_of call shown) (looks-edits seen.edits) (either-look call shown look);
        below = below-append user (step_of call shown) (edits-below seen.edits) (either-below call shown below);
        grown = seen.grown ∙ ap (λ log. Some log) (append_assoc old user (step_of call shown));
        found_is = now_is ∙ ap (λ (more : List (List (List ℕ) × Node)). found ++ more) (sym (found-shown call value add shown old seen.edits adds seen.shown_is));
        fact = λ alone. at-old (λ (local : Local). shown ≡ value local.spots) old seen.edits (no-edits seen.edits (step_of call shown) alone) seen.shown_is;
      };
}

pub sees-file : (at : List (List ℕ)) (digest : Option Digest) (found now : List (List (List ℕ) × Node)) (before after : Option (List LocalStep)) → now ≡ found ++ found_file at digest
    → Shows (op.Read at) (digest_at at) digest before after → Sees found now (λ spots. digest ≡ digest_at at spots) before after
sees-file at digest found now before after now_is shows =
    sees-shown (op.Read at) (digest_at at) (found_file at) digest found now before after tt refl (refl, λ spots. refl) now_is shows

pub sees-folder : (at : List (List ℕ)) (entries : Option (List Entry)) (found now : List (List (List ℕ) × Node)) (before after : Option (List LocalStep)) → 0 < length at → now ≡ found ++ found_folder at entries
    → Shows (op.List at) (listing_at at) entries before after → Sees found now (λ spots. entries ≡ listing_at at spots) before after
sees-folder at entries found now before after named now_is shows =
    sees-shown (op.List at) (listing_at at) (found_folder at) entries found now before after tt (not-root at named) (refl, λ spots. refl) now_is shows

pub sees-so : (Fact Next : List Spot → Type 0) (found now : List (List (List ℕ) × Node)) (before after : Option (List LocalStep)) → ((spots : List Spot) → Fact spots → Next spots) → Sees found now Fact before after → Sees found now Next before after
sees-so Fact Next found now before after then sees = record {
  told = λ old told.
      let seen = sees.told old told in
      record {
        part = seen.part;
        looks = seen.looks;
        below = seen.below;
        grown = seen.grown;
        found_is = seen.found_is;
        fact = λ alone. then (local_of old).spots (seen.fact alone);
      };
}

-- ---- steps that look keep the folder
one-look : (n : ℕ) (local : Local) (step : LocalStep) → IsLook step → IsOp step → after_step n local step ≡ local
one-look n local (User edit) look alone = absurd alone
one-look n local (Op (op.List at)) look alone = same-either (is_none (op_refusal local (op.List at))) local
one-look n local (Op (op.Read at)) look alone = same-either (is_none (op_refusal local (op.Read at))) local
one-look n local (Op (op.MakeDir at)) look alone = absurd look
one-look n local (Op (op.RemoveDir at)) look alone = absurd look
one-look n local (Op (op.Place at bytes)) look alone = absurd look
one-look n local (Op (op.Rename from to)) look alone = absurd look
one-look n local (Op (op.SetAside at)) look alone = absurd look
one-look n local (Op (op.ReadAside aside)) look alone = absurd look
one-look n local (Op (op.PutBack aside to)) look alone = absurd look
one-look n local (Op (op.Discard aside)) look alone = absurd look
one-look n local (Op op.Asides) look alone = absurd look

pub looks-keep : (n : ℕ) (local : Local) (old part : List LocalStep) → AllByRecursion IsLook part → NoUser part → after_steps n local (old ++ part) ≡ after_steps n local old
looks-keep n local [] [] looks alone = refl
looks-keep n local [] (step ∷ part) looks alone =
    looks-keep (n + 1) (after_step n local step) [] part looks.1 alone.1 ∙ one-look n local step looks.0 alone.0
looks-keep n local (step ∷ old) part looks alone = looks-keep (n + 1) (after_step n local step) old part looks alone

pub alone-first : (a b : List LocalStep) → NoUser (a ++ b) → NoUser a
alone-first [] b alone = tt
alone-first (step ∷ a) b alone = (alone.0, alone-first a b alone.1)

pub alone-second : (a b : List LocalStep) → NoUser (a ++ b) → NoUser b
alone-second [] b alone = alone
alone-second (step ∷ a) b alone = alone-second a b alone.1

-- ---- a visit
pub found-some : (at : List (List ℕ)) (digest : Option Digest) (one : Digest) (found now : List (List (List ℕ) × Node)) (before after : Option (List LocalStep)) → digest ≡ Some one → now ≡ found ++ (at, File one) ∷ []
    → Shows (op.Read at) (digest_at at) digest before after → Sees found now (λ spots. now ≡ found ++ found_file at (digest_at at spots)) before after
found-some at digest one found now before after is pushed_is shows =
    let now_is : now ≡ found ++ found_file at digest = pushed_is ∙ ap (λ (d : Option Digest). found ++ found_file at d) (sym is) in
    sees-so (λ spots. digest ≡ digest_at at spots) (λ spots. now ≡ found ++ found_file at (digest_at at spots)) found now before after
    (λ spots same. now_is ∙ ap (λ (d : Option Digest). found ++ found_file at d) same) (sees-file at digest found now before after now_is shows)

pub found-none : (at : List (List ℕ)) (digest : Option Digest) (found : List (List (List ℕ) × Node)) (before after : Option (List LocalStep)) → digest ≡ None
    → Shows (op.Read at) (digest_at at) digest before after → Sees found found (λ spots. found ≡ found ++ found_file at (digest_at at spots)) before after
found-none at digest found before after is shows =
    let now_is : found ≡ found ++ found_file at digest = sym (append-nil found) ∙ ap (λ (d : Option Digest). found ++ found_file at d) (sym is) in
    sees-so (λ spots. digest ≡ digest_at at spots) (λ spots. found ≡ found ++ found_file at (digest_at at spots)) found found before after
    (λ spots same. now_is ∙ ap (λ (d : Option Digest). found ++ found_file at d) same) (sees-file at digest found found before after now_is shows)

pub listed-some : (at : List (List ℕ)) (entries : Option (List Entry)) (some : List Entry) (found now : List (List (List ℕ) × Node)) (stack stack_now : List Turn) (before after : Option (List LocalStep)) → 0 < length at → entries ≡ Some some
    → now ≡ found ++ (at, Folder) ∷ [] → stack_now ≡ pushed at some stack → Shows (op.List at) (listing_at at) entries before after → Sees found now (Visits at true found now stack stack_now) before after
listed-some at entries some found now stack stack_now before after named is pushed_is waits shows =
    let now_is : now ≡ found ++ found_folder at entries = pushed_is ∙ ap (λ (l : Option (List Entry)). found ++ found_folder at l) (sym is) in
    sees-so (λ spots. entries ≡ listing_at at spots) (Visits at true found now stack stack_now) found now before after
    (λ spots same. record {
      found_is = now_is ∙ ap (λ (l : Option (List Entry)). found ++ found_folder at l) same;
      waiting_is = waits ∙ ap (λ (l : Option (List Entry)). pushed_if at l stack) (sym is ∙ same);
    })
    (sees-folder at entries found now before after named now_is shows)

pub listed-none : (at : List (List ℕ)) (entries : Option (List Entry)) (found : List (List (List ℕ) × Node)) (stack : List Turn) (before after : Option (List LocalStep)) → 0 < length at → entries ≡ None
    → Shows (op.List at) (listing_at at) entries before after → Sees found found (Visits at true found found stack stack) before after
listed-none at entries found stack before after named is shows =
    let now_is : found ≡ found ++ found_folder at entries = sym (append-nil found) ∙ ap (λ (l : Option (List Entry)). found ++ found_folder at l) (sym is) in
    sees-so (λ spots. entries ≡ listing_at at spots) (Visits at true found found stack stack) found found before after
    (λ spots same. record {
      found_is = now_is ∙ ap (λ (l : Option (List Entry)). found ++ found_folder at l) same;
      waiting_is = ap (λ (l : Option (List Entry)). pushed_if at l stack) (sym is ∙ same);
    })
    (sees-folder at entries found found before after named now_is shows)

-- ---- the root
begins-at : (entries : Option (List Entry)) (some : List Entry) (stack stack_now : List Turn) (before after : Option (List LocalStep)) → entries ≡ Some some → stack_now ≡ pushed [] some stack
    → Shows (op.List []) (listing_at []) entries before after → Begins stack stack_now before after
begins-at entries some stack stack_now before after is waits shows = record {
  told = λ old told.
      let seen = shows.told old told in
      let there : some ≡ entries_in [] (local_of (edited old seen.edits)).spots = cc (sym is ∙ seen.shown_is) in
      record {
        edits = seen.edits;
        grown = seen.grown ∙ ap (λ (shown : Option (List Entry)). Some (edited old seen.edits ++ step_of (op.List []) shown)) is;
        waiting_is = waits ∙ ap (λ (es : List Entry). pushed [] es stack) there;
      };
}

pub root-some : (root : List (List ℕ)) (entries : Option (List Entry)) (some : List Entry) (stack stack_now : List Turn) (before after : Option (List LocalStep)) → root ≡ [] → entries ≡ Some some
    → stack_now ≡ pushed root some stack → Shows (op.List root) (listing_at root) entries before after → Begins stack stack_now before after
root-some root entries some stack stack_now before after root_is is waits shows =
    begins-at entries some stack stack_now before after is (waits ∙ ap (λ (r : List (List ℕ)). pushed r some stack) root_is)
    (subst (λ (r : List (List ℕ)). Shows (op.List r) (listing_at r) entries before after) root_is shows)

pub root-none : (root : List (List ℕ)) (entries : Option (List Entry)) (stack : List Turn) (before after : Option (List LocalStep)) → root ≡ [] → entries ≡ None
    → Shows (op.List root) (listing_at root) entries before after → Begins stack stack before after
root-none root entries stack before after root_is is shows = record {
  told = λ old told.
      let at_root : Shows (op.List []) (listing_at []) entries before after = subst (λ (r : List (List ℕ)). Shows (op.List r) (listing_at r) entries before after) root_is shows in
      absurd (cc (sym is ∙ (at_root.told old told).shown_is));
}

pub file-visit : (at : List (List ℕ)) (folder : Bool) (found now : List (List (List ℕ) × Node)) (stack : List Turn) (before after : Option (List LocalStep)) → folder ≡ false
    → Sees found now (λ spots. now ≡ found ++ found_file at (digest_at at spots)) before after → Sees found now (Visits at folder found now stack stack) before after
file-visit at folder found now stack before after is sees =
    sees-so (λ spots. now ≡ found ++ found_file at (digest_at at spots)) (Visits at folder found now stack stack) found now before after
    (λ spots same. subst (λ b. Visits at b found now stack stack spots) (sym is) (record { found_is = same; waiting_is = refl })) sees

pub folder-visit : (at : List (List ℕ)) (folder : Bool) (found now : List (List (List ℕ) × Node)) (stack stack_now : List Turn) (before after : Option (List LocalStep)) → folder ≡ true
    → Sees found now (Visits at true found now stack stack_now) before after → Sees found now (Visits at folder found now stack stack_now) before after
folder-visit at folder found now stack stack_now before after is sees =
    subst (λ b. Sees found now (Visits at b found now stack stack_now) before after) (sym is) sees

pub on-ok : {T E : Type 0} (result : Result T E) (P Q : Type 0) → (P → Q) → OnOk result P → OnOk result Q
on-ok (Ok x) P Q so holds = so holds
on-ok (Err e) P Q so holds = tt
