-- What a look at both sides says of the folder's tree and of the drive's.
use Rattle.std.proofs.Common.{◌≡◌, ℕ, Bool, true, false, cond, ◌||◌, List, [], ◌∷◌, ◌++◌, length, map, Option, refl, ap, sym, subst, ◌∙◌}
use Rattle.std.proofs.lemmas.List.{append-nil}
use Rattle.std.specs.List.{AllByRecursion, AllZip, list_any}
use Rattle.gd_item.specs.Records.{records_of}
use Rattle.gd_item.specs.Sessions.{held}
use Rattle.gd_item.specs.Steps.{state_of, held_by, accepted_by}
use Rattle.gd_item.specs.Trees.{tree_of}
use Rattle.gd_item.specs.declared.item.Item.{Item}
use Rattle.gd_item.specs.declared.request.Request.TheVariants.{Delta}
use Rattle.gd_item.specs.declared.step.Step.{Step}
use Rattle.gd_item.specs.declared.step.Step.TheVariants.{Ask}
use Rattle.gd_item.specs.declared.step.Who.TheVariants.{Own}
use Rattle.gd_item.specs.Views.{uncounted}
use Rattle.od_mirror.specs.Pulled.{paths_of}
use Rattle.od_transfer.specs.Alone.{AreOwnServed}
use Rattle.od_transfer.specs.Asking.{OwnAre}
use Rattle.od_transfer.specs.Fits.{IsTransfer}
use Rattle.od_tree.specs.Calls.{edited}
use Rattle.od_tree.specs.Collisions.{NoCollision}
use Rattle.od_tree.specs.Local.{Local, empty_folder, local_of, local_tree, tree_of_spots}
use Rattle.od_tree.specs.Undisturbed.{IsOp, NoUser}
use Rattle.od_tree.specs.declared.edit.UserEdit.{UserEdit}
use Rattle.od_tree.specs.declared.step.LocalStep.{LocalStep}
use Rattle.od_tree.specs.declared.step.LocalStep.TheVariants.{User, Op}
use Rattle.od_tree.specs.declared.step.TreeOp.TheVariants as op
use Rattle.od_sync.specs.Comparing.{is_same, scanned}
use Rattle.od_sync.specs.Scans.{IsLook, is_root_listing}
use Rattle.od_sync.specs.Deltas.{IsSpent, is_own_delta}
use Rattle.od_sync.specs.Doing.{IsMaking}
use Rattle.od_sync.specs.Findings.{found_by}
use Rattle.od_sync.specs.Looks.{AllUnlike, IsUnlike, LastSame, Entries, asked_trees, scans}
use Rattle.od_sync.specs.Syncs.{AreSame, after_last, before_last, last_asked, since_listed}
use Rattle.od_sync.specs.declared.scanning.Node.{Node}
use Rattle.od_sync.proofs.OwnRequests.{own_requests_keep}
use Rattle.od_sync.proofs.SameTrees.{same-as-drive, drive-as-same, drive-as-found, found-as-drive}
use Rattle.od_sync.proofs.Growth.{answered, asked-spent, each-first, each-second, scan-steps}
use Rattle.od_sync.proofs.LooksFound.{asked-look, asked-none, scans-makes, scans-scan}
use Rattle.od_sync.proofs.ServedTokens.{is-served}
use Rattle.od_sync.proofs.Looks.{looks-keep as looks-keep-from, no-edits}
use Rattle.std.proofs.lemmas.Bool.{or_right}

-- ---- what comes before the last such step, and after it
any-later : {X : Type 0} (is : X → Bool) (xs : List X) (x : X) (ys : List X) → is x ≡ true → list_any is (xs ++ x ∷ ys) ≡ true
any-later is [] x ys such = ap (λ b. b || list_any is ys) such
any-later is (y ∷ xs) x ys such = or_right (is y) (list_any is (xs ++ x ∷ ys)) (any-later is xs x ys such)

before-cond : {X : Type 0} (b : Bool) (x : X) (xs : List X) → b ≡ true → cond b (x ∷ xs) [] ≡ x ∷ xs
before-cond true x xs is = refl
before-cond false x xs is = absurd (cc is)

after-cond : {X : Type 0} (b : Bool) (xs ys : List X) → b ≡ true → cond b xs ys ≡ xs
after-cond true xs ys is = refl
after-cond false xs ys is = absurd (cc is)

none-cond : {X : Type 0} (b : Bool) (xs ys : List X) → b ≡ false → cond b xs ys ≡ ys
none-cond true xs ys is = absurd (cc is)
none-cond false xs ys is = refl

before-last : {X : Type 0} (is : X → Bool) (xs : List X) (x : X) (ys : List X) → is x ≡ true → list_any is ys ≡ false → before_last is (xs ++ x ∷ ys) ≡ xs
before-last is [] x ys such none = none-cond (list_any is ys) (x ∷ before_last is ys) [] none
before-last is (y ∷ xs) x ys such none =
    before-cond (list_any is (xs ++ x ∷ ys)) y (before_last is (xs ++ x ∷ ys)) (any-later is xs x ys such) ∙ ap (λ zs. y ∷ zs) (before-last is xs x ys such none)

after-last : {X : Type 0} (is : X → Bool) (xs : List X) (x : X) (ys : List X) → is x ≡ true → list_any is ys ≡ false → after_last is (xs ++ x ∷ ys) ≡ ys
after-last is [] x ys such none = none-cond (list_any is ys) (after_last is ys) ys none
after-last is (y ∷ xs) x ys such none =
    after-cond (list_any is (xs ++ x ∷ ys)) (after_last is (xs ++ x ∷ ys)) (xs ++ x ∷ ys) (any-later is xs x ys such) ∙ after-last is xs x ys such none

-- ---- looks change nothing where the user leaves the folder alone
pub looks-keep : (old part : List LocalStep) → AllByRecursion IsLook part → NoUser part → local_of (old ++ part) ≡ local_of old
looks-keep old part looks alone = looks-keep-from 0 empty_folder old part looks alone

-- the folder after a scan without edits of the user
pub edited-none : (local : List LocalStep) (edits : List UserEdit) (rest : List LocalStep) → NoUser (scan-steps edits rest) → edited local edits ≡ local
edited-none local edits rest alone =
    ap (λ (es : List UserEdit). edited local es) (no-edits edits (Op (op.List []) ∷ rest) alone) ∙ append-nil local

pub rest-alone : (edits : List UserEdit) (rest : List LocalStep) → NoUser (scan-steps edits rest) → NoUser rest
rest-alone edits rest alone = (each-second IsOp (map (λ (edit : UserEdit). User edit) edits) (Op (op.List []) ∷ rest) alone).1

-- ---- the requests of a look keep what the drive holds
pub drive-kept : (token : Option (List ℕ)) (drive spent : List Step) → AreOwnServed (spent ++ answered token) → OwnAre (IsSpent (Delta token)) spent → held_by (drive ++ spent) ≡ held_by drive
drive-kept token drive spent own such =
    ap held (own_requests_keep drive spent (asked-spent token spent such) (each-first is-served spent (answered token) own))

pub answered-keeps : (token : Option (List ℕ)) (log : List Step) → state_of (log ++ answered token) ≡ state_of log
answered-keeps token log = own_requests_keep log (answered token) (refl, tt) (refl, tt)

-- what was found is what the drive had exactly where both compare as the same
found-same : (drive : List Step) (items : List Item) (found : Entries) (remote : List (List (List ℕ) × Item)) → map uncounted items ≡ map uncounted (records_of (held_by drive)) → remote ≡ paths_of items
    → is_same found remote ≡ true → found ≡ scanned (tree_of (held_by drive))
found-same drive items found remote mirrors remote_is same =
    found-as-drive drive items found mirrors (ap (λ (r : List (List (List ℕ) × Item)). is_same found r) (sym remote_is) ∙ same)

found-unlike : (drive : List Step) (items : List Item) (found : Entries) (remote : List (List (List ℕ) × Item)) → map uncounted items ≡ map uncounted (records_of (held_by drive)) → remote ≡ paths_of items
    → is_same found remote ≡ false → IsUnlike found (scanned (tree_of (held_by drive)))
found-unlike drive items found remote mirrors remote_is unlike same =
    let shown : is_same found remote ≡ true =
    ap (λ (f : Entries). is_same f remote) same ∙ ap (λ (r : List (List (List ℕ) × Item)). is_same (scanned (tree_of (held_by drive))) r) remote_is
    ∙ drive-as-found drive items mirrors in
    cc (shown, unlike)

-- ---- one look: what its scan found, and what the drive had where it was asked
pub look-same : (drive spent : List Step) (token : Option (List ℕ)) (local : List LocalStep) (edits : List UserEdit) (rest : List LocalStep) (items : List Item) (found : Entries) (remote : List (List (List ℕ) × Item))
    → OwnAre (IsSpent (Delta token)) spent → list_any is_root_listing rest ≡ false → map uncounted items ≡ map uncounted (records_of (held_by (drive ++ spent))) → remote ≡ paths_of items
    → found ≡ found_by (edited local edits ++ Op (op.List []) ∷ []) rest → is_same found remote ≡ true → LastSame drive (spent ++ answered token) local (scan-steps edits rest)
look-same drive spent token local edits rest items found remote such once mirrors remote_is found_is same = record {
  found = [];
  had = [];
  same = found;
  scans_are = scans-scan local edits rest once ∙ ap (λ (f : Entries). f ∷ []) (sym found_is);
  asked_are = asked-look drive spent token such ∙ ap (λ (f : Entries). f ∷ []) (sym (found-same (drive ++ spent) items found remote mirrors remote_is same));
  unlike = tt;
}

pub look-unlike : (drive spent : List Step) (token : Option (List ℕ)) (local : List LocalStep) (edits : List UserEdit) (rest : List LocalStep) (items : List Item) (found : Entries) (remote : List (List (List ℕ) × Item))
    → OwnAre (IsSpent (Delta token)) spent → list_any is_root_listing rest ≡ false → map uncounted items ≡ map uncounted (records_of (held_by (drive ++ spent))) → remote ≡ paths_of items
    → found ≡ found_by (edited local edits ++ Op (op.List []) ∷ []) rest → is_same found remote ≡ false → AllUnlike 1 drive (spent ++ answered token) local (scan-steps edits rest)
look-unlike drive spent token local edits rest items found remote such once mirrors remote_is found_is unlike =
    let scans_are : scans local (scan-steps edits rest) ≡ found ∷ [] = scans-scan local edits rest once ∙ ap (λ (f : Entries). f ∷ []) (sym found_is) in
    let differ : IsUnlike found (scanned (tree_of (held_by (drive ++ spent)))) = found-unlike (drive ++ spent) items found remote mirrors remote_is unlike in
    record {
      looks_are = ap (λ (all : List Entries). length all) scans_are;
      unlike =
          subst (λ (all : List Entries). AllZip IsUnlike all (asked_trees drive (spent ++ answered token))) (sym scans_are)
          (subst (λ (had : List Entries). AllZip IsUnlike (found ∷ []) had) (sym (asked-look drive spent token such)) (differ, tt));
    }

-- what is done then is no look
pub none-unlike : (drive more : List Step) (local part : List LocalStep) → OwnAre IsTransfer more → AllByRecursion IsMaking part → AllUnlike 0 drive more local part
none-unlike drive more local part such makes = record {
  looks_are = ap (λ (all : List Entries). length all) (scans-makes local part makes);
  unlike =
      subst (λ (all : List Entries). AllZip IsUnlike all (asked_trees drive more)) (sym (scans-makes local part makes))
      (subst (λ (had : List Entries). AllZip IsUnlike [] had) (sym (asked-none drive more such)) tt);
}

-- ---- what a look says of the trees, of the logs right before it was answered and right before the root was listed
asked-last : (drive : List Step) (token : Option (List ℕ)) → last_asked (drive ++ answered token) ≡ drive
asked-last drive token = before-last is_own_delta drive (Ask Own (Delta token) true true) [] refl refl

pub listed-last : (local rest : List LocalStep) → list_any is_root_listing rest ≡ false → since_listed (local ++ Op (op.List []) ∷ rest) ≡ rest
listed-last local rest once = after-last is_root_listing local (Op (op.List [])) rest refl once

pub compared-same : (local rest : List LocalStep) (drive : List Step) (token : Option (List ℕ)) (items : List Item) (found : List (List (List ℕ) × Node)) (remote : List (List (List ℕ) × Item))
    → AllByRecursion IsLook rest → list_any is_root_listing rest ≡ false → map uncounted items ≡ map uncounted (records_of (held_by drive)) → remote ≡ paths_of items
    → (NoUser rest → found ≡ scanned (local_tree local)) → is_same found remote ≡ true
    → NoCollision (local ++ Op (op.List []) ∷ rest) (accepted_by (drive ++ answered token)) → NoUser (since_listed (local ++ Op (op.List []) ∷ rest))
    → AreSame (local ++ Op (op.List []) ∷ rest) (drive ++ answered token)
compared-same local rest drive token items found remote looks once mirrors remote_is found_is same apart alone =
    let rest_alone : NoUser rest = subst NoUser (listed-last local rest once) alone in
    let shown : is_same (scanned (local_tree local)) (paths_of items) ≡ true =
    ap (λ (l : List (List (List ℕ) × Node)). is_same l (paths_of items)) (sym (found_is rest_alone)) ∙ ap (λ (r : List (List (List ℕ) × Item)). is_same found r) (sym remote_is) ∙ same in
    ap (λ (l : Local). tree_of_spots l.spots) (looks-keep local (Op (op.List []) ∷ rest) (tt, looks) (tt, rest_alone))
    ∙ same-as-drive local (Op (op.List []) ∷ rest) drive (answered token) items mirrors apart shown
    ∙ ap (λ (log : List Step). tree_of (held_by log)) (sym (asked-last drive token))

-- the trees are unlike where the entries are
unlike-trees : (local : List LocalStep) (drive : List Step) (items : List Item) (found : List (List (List ℕ) × Node)) (remote : List (List (List ℕ) × Item))
    → map uncounted items ≡ map uncounted (records_of (held_by drive)) → remote ≡ paths_of items → found ≡ scanned (local_tree local) → is_same found remote ≡ false
    → local_tree local ≡ tree_of (held_by drive) → ⊥
unlike-trees local drive items found remote mirrors remote_is found_is unlike same =
    let shown : is_same found remote ≡ true =
    ap (λ (l : List (List (List ℕ) × Node)). is_same l remote) found_is ∙ ap (λ (r : List (List (List ℕ) × Item)). is_same (scanned (local_tree local)) r) remote_is
    ∙ drive-as-same local drive items mirrors same in
    cc (shown, unlike)

pub compared-unlike : (local rest : List LocalStep) (drive : List Step) (token : Option (List ℕ)) (items : List Item) (found : List (List (List ℕ) × Node)) (remote : List (List (List ℕ) × Item))
    → AllByRecursion IsLook rest → list_any is_root_listing rest ≡ false → map uncounted items ≡ map uncounted (records_of (held_by drive)) → remote ≡ paths_of items
    → (NoUser rest → found ≡ scanned (local_tree local)) → is_same found remote ≡ false → NoUser (since_listed (local ++ Op (op.List []) ∷ rest))
    → AreSame (local ++ Op (op.List []) ∷ rest) (drive ++ answered token) → ⊥
compared-unlike local rest drive token items found remote looks once mirrors remote_is found_is unlike alone same =
    let rest_alone : NoUser rest = subst NoUser (listed-last local rest once) alone in
    unlike-trees local drive items found remote mirrors remote_is (found_is rest_alone) unlike
    (ap (λ (l : Local). tree_of_spots l.spots) (sym (looks-keep local (Op (op.List []) ∷ rest) (tt, looks) (tt, rest_alone)))
    ∙ same
    ∙ ap (λ (log : List Step). tree_of (held_by log)) (asked-last drive token))

-- where no one else does anything, they are unlike already where the look begins
pub unlike-before : (local : List LocalStep) (edits : List UserEdit) (rest : List LocalStep) (drive spent : List Step) (token : Option (List ℕ)) (items : List Item) (found : List (List (List ℕ) × Node))
    (remote : List (List (List ℕ) × Item)) → OwnAre (IsSpent (Delta token)) spent → map uncounted items ≡ map uncounted (records_of (held_by (drive ++ spent))) → remote ≡ paths_of items
    → (NoUser rest → found ≡ scanned (local_tree (edited local edits))) → is_same found remote ≡ false → AreOwnServed (spent ++ answered token) → NoUser (scan-steps edits rest)
    → local_tree local ≡ tree_of (held_by drive) → ⊥
unlike-before local edits rest drive spent token items found remote such mirrors remote_is found_is unlike own alone same =
    unlike-trees (edited local edits) (drive ++ spent) items found remote mirrors remote_is (found_is (rest-alone edits rest alone)) unlike
    (ap local_tree (edited-none local edits rest alone) ∙ same ∙ ap tree_of (sym (drive-kept token drive spent own such)))
