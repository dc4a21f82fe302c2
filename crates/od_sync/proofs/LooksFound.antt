-- What the looks of a sync find, and how many there are, over one part of its logs after another.
use Rattle.std.proofs.Common.{◌≡◌, ℕ, ◌+◌, ◌≤◌, Bool, true, false, cond, List, [], ◌∷◌, ◌++◌, length, map, count_by, Option, refl, ap, sym, subst, ◌∙◌, append_assoc, arith}
use Rattle.std.proofs.lemmas.Bool.{or_from, or_parts}
use Rattle.std.proofs.lemmas.List.{append-nil, length-append}
use Rattle.std.proofs.lemmas.List.Sums.{sum_by-cons}
use Rattle.std.specs.List.{AllByRecursion, AllZip, list_any}
use Rattle.gd_item.specs.Steps.{held_by}
use Rattle.gd_item.specs.Trees.{tree_of}
use Rattle.gd_item.specs.declared.request.Request.{Request}
use Rattle.gd_item.specs.declared.request.Request.TheVariants.{Delta}
use Rattle.gd_item.specs.declared.step.Step.{Step}
use Rattle.gd_item.specs.declared.step.Step.TheVariants.{Ask, Event}
use Rattle.gd_item.specs.declared.step.Who.TheVariants.{Own, Other}
use Rattle.od_transfer.specs.Asking.{IsSuch, OwnAre}
use Rattle.od_transfer.specs.Fits.{IsTransfer, is_transfer}
use Rattle.od_tree.specs.Calls.{edited}
use Rattle.od_tree.specs.Local.{local_of, local_tree}
use Rattle.od_tree.specs.Undisturbed.{NoUser}
use Rattle.od_tree.specs.declared.edit.UserEdit.{UserEdit}
use Rattle.od_tree.specs.declared.local.Spot.{Spot}
use Rattle.od_tree.specs.declared.step.LocalStep.{LocalStep}
use Rattle.od_tree.specs.declared.step.LocalStep.TheVariants.{User, Op}
use Rattle.od_tree.specs.declared.step.TreeOp.TheVariants as op
use Rattle.od_sync.specs.Comparing.{scanned}
use Rattle.od_sync.specs.Deltas.{IsSpent, is_answered_delta, is_delta, is_own_delta}
use Rattle.od_sync.specs.Doing.{IsMaking}
use Rattle.od_sync.specs.Findings.{found_by, found_in}
use Rattle.od_sync.specs.Looks.{AllUnlike, AreWhole, IsUnlike, IsWithin, LastSame, Entries, asked_trees, found_until, scans, steps_until}
use Rattle.od_sync.specs.Scans.{is_root_listing}
use Rattle.od_sync.proofs.Growth.{answered, count-append, scan-steps}
use Rattle.od_sync.proofs.Sends.{spent-step}

-- ---- lists in general
any-none : {X : Type 0} (p : X → Bool) (P : X → Type 0) → ((x : X) → P x → p x ≡ false) → (xs : List X) → AllByRecursion P xs → list_any p xs ≡ false
any-none p P so [] all = refl
any-none p P so (x ∷ xs) all = or_from (p x) (list_any p xs) (so x all.0) (any-none p P so xs all.1)

count-none : {X : Type 0} (p : X → Bool) (xs : List X) → list_any p xs ≡ false → count_by p xs ≡ 0
count-none p [] none = refl
count-none {X} p (x ∷ xs) none =
    let parts = or_parts (p x) (list_any p xs) none in
    let here : cond {A = ℕ} (p x) 1 0 ≡ 0 = ap (λ b. cond b 1 0) parts.0 in
    omega (arith, sum_by-cons (λ (y : X). cond (p y) 1 0) x xs, here, count-none p xs parts.1)

zip-append : {A B : Type 0} (R : A → B → Type 0) (xs later : List A) (ys more : List B) → AllZip R xs ys → AllZip R later more → AllZip R (xs ++ later) (ys ++ more)
zip-append R [] later [] more first second = second
zip-append R [] later (y ∷ ys) more first second = absurd first
zip-append R (x ∷ xs) later [] more first second = absurd first
zip-append R (x ∷ xs) later (y ∷ ys) more first second = (first.0, zip-append R xs later ys more first.1 second)

-- one more in front, or none
front-append : {X : Type 0} (b : Bool) (x : X) (xs ys : List X) → cond b (x ∷ (xs ++ ys)) (xs ++ ys) ≡ cond b (x ∷ xs) xs ++ ys
front-append true x xs ys = refl
front-append false x xs ys = refl

-- ---- scans of one part after another, where nothing is found before the next listing of the root
none-later : (before : List LocalStep) (step : LocalStep) (steps more : List LocalStep) → found_until (before ++ step ∷ steps) more ≡ [] → found_until ((before ++ step ∷ []) ++ steps) more ≡ []
none-later before step steps more none = ap (λ (log : List LocalStep). found_until log more) (append_assoc before (step ∷ []) steps) ∙ none

pub until-append : (before xs ys : List LocalStep) → found_until (before ++ xs) ys ≡ [] → found_until before (xs ++ ys) ≡ found_until before xs
until-append before [] ys none = ap (λ (log : List LocalStep). found_until log ys) (sym (append-nil before)) ∙ none
until-append before (step ∷ xs) ys none =
    ap (λ (found : Entries). cond (is_root_listing step) [] (found_in (local_of before).spots step ++ found))
    (until-append (before ++ step ∷ []) xs ys (none-later before step xs ys none))

pub scans-append : (before xs ys : List LocalStep) → found_until (before ++ xs) ys ≡ [] → scans before (xs ++ ys) ≡ scans before xs ++ scans (before ++ xs) ys
scans-append before [] ys none = ap (λ (log : List LocalStep). scans log ys) (sym (append-nil before))
scans-append before (step ∷ xs) ys none =
    let next : List LocalStep = before ++ step ∷ [] in
    let later : found_until (next ++ xs) ys ≡ [] = none-later before step xs ys none in
    ap (λ (found : Entries). cond (is_root_listing step) (found ∷ scans next (xs ++ ys)) (scans next (xs ++ ys))) (until-append next xs ys later)
    ∙ ap (λ (all : List Entries). cond (is_root_listing step) (found_until next xs ∷ all) all)
    (scans-append next xs ys later ∙ ap (λ (log : List LocalStep). scans next xs ++ scans log ys) (append_assoc before (step ∷ []) xs))
    ∙ front-append (is_root_listing step) (found_until next xs) (scans next xs) (scans (before ++ step ∷ xs) ys)

-- ---- what is made finds nothing
made-none : (spots : List Spot) (step : LocalStep) → IsMaking step → (is_root_listing step ≡ false) × (found_in spots step ≡ [])
made-none spots (User edit) makes = (refl, refl)
made-none spots (Op (op.MakeDir at)) makes = (refl, refl)
made-none spots (Op (op.Place at bytes)) makes = (refl, refl)
made-none spots (Op call) makes = absurd makes

made-below : (part : List LocalStep) → AllByRecursion IsMaking part → list_any is_root_listing part ≡ false
made-below part makes = any-none is_root_listing IsMaking (λ step made. (made-none [] step made).0) part makes

pub until-makes : (before part : List LocalStep) → AllByRecursion IsMaking part → found_until before part ≡ []
until-makes before [] makes = refl
until-makes before (step ∷ part) makes =
    let none = made-none (local_of before).spots step makes.0 in
    ap (λ b. cond b [] (found_in (local_of before).spots step ++ found_until (before ++ step ∷ []) part)) none.0
    ∙ ap (λ (found : Entries). found ++ found_until (before ++ step ∷ []) part) none.1
    ∙ until-makes (before ++ step ∷ []) part makes.1

scans-below : (before part : List LocalStep) → list_any is_root_listing part ≡ false → scans before part ≡ []
scans-below before [] below = refl
scans-below before (step ∷ part) below =
    let parts = or_parts (is_root_listing step) (list_any is_root_listing part) below in
    let next : List LocalStep = before ++ step ∷ [] in
    ap (λ b. cond b (found_until next part ∷ scans next part) (scans next part)) parts.0 ∙ scans-below next part parts.1

pub scans-makes : (before part : List LocalStep) → AllByRecursion IsMaking part → scans before part ≡ []
scans-makes before part makes = scans-below before part (made-below part makes)

-- ---- one scan
until-below : (before part : List LocalStep) → list_any is_root_listing part ≡ false → found_until before part ≡ found_by before part
until-below before [] below = refl
until-below before (step ∷ part) below =
    let parts = or_parts (is_root_listing step) (list_any is_root_listing part) below in
    let here : Entries = found_in (local_of before).spots step in
    ap (λ b. cond b [] (here ++ found_until (before ++ step ∷ []) part)) parts.0
    ∙ ap (λ (found : Entries). here ++ found) (until-below (before ++ step ∷ []) part parts.1)

pub until-scan : (local : List LocalStep) (edits : List UserEdit) (rest : List LocalStep) → found_until local (scan-steps edits rest) ≡ []
until-scan local [] rest = refl
until-scan local (edit ∷ edits) rest = until-scan (local ++ User edit ∷ []) edits rest

pub scans-scan : (local : List LocalStep) (edits : List UserEdit) (rest : List LocalStep) → list_any is_root_listing rest ≡ false → scans local (scan-steps edits rest) ≡ found_by (edited local edits ++ Op (op.List []) ∷ []) rest ∷ []
scans-scan local [] rest below =
    let next : List LocalStep = local ++ Op (op.List []) ∷ [] in
    ap (λ (more : List Entries). found_until next rest ∷ more) (scans-below next rest below)
    ∙ ap (λ (found : Entries). found ∷ []) (until-below next rest below)
    ∙ ap (λ (log : List LocalStep). found_by (log ++ Op (op.List []) ∷ []) rest ∷ []) (sym (append-nil local))
scans-scan local (edit ∷ edits) rest below =
    scans-scan (local ++ User edit ∷ []) edits rest below
    ∙ ap (λ (log : List LocalStep). found_by (log ++ Op (op.List []) ∷ []) rest ∷ []) (append_assoc local (User edit ∷ []) (map (λ (each : UserEdit). User each) edits))

-- ---- scans that found the whole tree
alone-either : (b : Bool) (step : LocalStep) (more fewer : List LocalStep) → (NoUser more → NoUser fewer) → NoUser (cond b [] (step ∷ more)) → NoUser (cond b [] (step ∷ fewer))
alone-either true step more fewer so alone = tt
alone-either false step more fewer so alone = (alone.0, so alone.1)

alone-until : (xs ys : List LocalStep) → NoUser (steps_until (xs ++ ys)) → NoUser (steps_until xs)
alone-until [] ys alone = tt
alone-until (step ∷ xs) ys alone = alone-either (is_root_listing step) step (steps_until (xs ++ ys)) (steps_until xs) (alone-until xs ys) alone

pub whole-then : (before xs ys : List LocalStep) → found_until (before ++ xs) ys ≡ [] → AreWhole before xs → AreWhole (before ++ xs) ys → AreWhole before (xs ++ ys)
whole-then before [] ys none first second = subst (λ (log : List LocalStep). AreWhole log ys) (append-nil before) second
whole-then before (step ∷ xs) ys none first second =
    let next : List LocalStep = before ++ step ∷ [] in
    let later : found_until (next ++ xs) ys ≡ [] = none-later before step xs ys none in (
      λ lists alone. until-append next xs ys later ∙ first.0 lists (alone-until xs ys alone),
      whole-then next xs ys later first.1 (subst (λ (log : List LocalStep). AreWhole log ys) (sym (append_assoc before (step ∷ []) xs)) second),
    )

whole-below : (before part : List LocalStep) → list_any is_root_listing part ≡ false → AreWhole before part
whole-below before [] below = tt
whole-below before (step ∷ part) below =
    let parts = or_parts (is_root_listing step) (list_any is_root_listing part) below in
    (λ lists alone. absurd (cc (lists, parts.0)), whole-below (before ++ step ∷ []) part parts.1)

pub whole-makes : (before part : List LocalStep) → AllByRecursion IsMaking part → AreWhole before part
whole-makes before part makes = whole-below before part (made-below part makes)

steps-below : (part : List LocalStep) → list_any is_root_listing part ≡ false → steps_until part ≡ part
steps-below [] below = refl
steps-below (step ∷ part) below =
    let parts = or_parts (is_root_listing step) (list_any is_root_listing part) below in
    ap (λ b. cond b [] (step ∷ steps_until part)) parts.0 ∙ ap (λ (steps : List LocalStep). step ∷ steps) (steps-below part parts.1)

-- what a scan in which the user does nothing finds is the tree where it begins
abbrev FindsWhole : List LocalStep → List LocalStep → Type 0
FindsWhole rest log = found_by (log ++ Op (op.List []) ∷ []) rest ≡ scanned (local_tree log)

pub whole-scan : (local : List LocalStep) (edits : List UserEdit) (rest : List LocalStep) → list_any is_root_listing rest ≡ false
    → (NoUser rest → found_by (edited local edits ++ Op (op.List []) ∷ []) rest ≡ scanned (local_tree (edited local edits))) → AreWhole local (scan-steps edits rest)
whole-scan local [] rest below found =
    let next : List LocalStep = local ++ Op (op.List []) ∷ [] in (
      λ lists alone. until-below next rest below ∙ subst (FindsWhole rest) (append-nil local) (found (subst NoUser (steps-below rest below) alone)),
      whole-below next rest below,
    )
whole-scan local (edit ∷ edits) rest below found = (
  λ lists alone. absurd (cc lists),
  whole-scan (local ++ User edit ∷ []) edits rest below
      (λ alone. subst (FindsWhole rest) (sym (append_assoc local (User edit ∷ []) (map (λ (each : UserEdit). User each) edits))) (found alone)),
)

-- ---- what the drive had where it was asked
pub asked-append : (drive xs ys : List Step) → asked_trees drive (xs ++ ys) ≡ asked_trees drive xs ++ asked_trees (drive ++ xs) ys
asked-append drive [] ys = ap (λ (log : List Step). asked_trees log ys) (sym (append-nil drive))
asked-append drive (step ∷ xs) ys =
    let next : List Step = drive ++ step ∷ [] in
    let here : Entries = scanned (tree_of (held_by drive)) in
    ap (λ (all : List Entries). cond (is_answered_delta step) (here ∷ all) all)
    (asked-append next xs ys ∙ ap (λ (log : List Step). asked_trees next xs ++ asked_trees log ys) (append_assoc drive (step ∷ []) xs))
    ∙ front-append (is_answered_delta step) here (asked_trees next xs) (asked_trees (drive ++ step ∷ xs) ys)

asked-nothing : (drive more : List Step) → list_any is_answered_delta more ≡ false → asked_trees drive more ≡ []
asked-nothing drive [] none = refl
asked-nothing drive (step ∷ more) none =
    let parts = or_parts (is_answered_delta step) (list_any is_answered_delta more) none in
    let next : List Step = drive ++ step ∷ [] in
    ap (λ b. cond b (scanned (tree_of (held_by drive)) ∷ asked_trees next more) (asked_trees next more)) parts.0 ∙ asked-nothing next more parts.1

-- a transfer asks for no changes
transfer-not-delta : (request : Request) → is_transfer request ≡ true → is_delta request ≡ false
transfer-not-delta (Delta token) is = absurd (cc is)
transfer-not-delta request is = refl

transfer-none : (step : Step) → IsSuch IsTransfer step → (is_own_delta step ≡ false) × (is_answered_delta step ≡ false)
transfer-none (Ask Own request true true) such = (transfer-not-delta request such, transfer-not-delta request such)
transfer-none (Ask Own request served heard) such = (transfer-not-delta request such, refl)
transfer-none (Ask Other request served heard) such = (refl, refl)
transfer-none (Event event) such = (refl, refl)

transfers-not-sent : (more : List Step) → OwnAre IsTransfer more → list_any is_own_delta more ≡ false
transfers-not-sent more such = any-none is_own_delta (IsSuch IsTransfer) (λ step transfer. (transfer-none step transfer).0) more such

transfers-not-answered : (more : List Step) → OwnAre IsTransfer more → list_any is_answered_delta more ≡ false
transfers-not-answered more such = any-none is_answered_delta (IsSuch IsTransfer) (λ step transfer. (transfer-none step transfer).1) more such

pub asked-none : (drive more : List Step) → OwnAre IsTransfer more → asked_trees drive more ≡ []
asked-none drive more such = asked-nothing drive more (transfers-not-answered more such)

-- a send without a page is not answered
spent-not-answered : (request : Request) (spent : List Step) → OwnAre (IsSpent request) spent → list_any is_answered_delta spent ≡ false
spent-not-answered request spent such = any-none is_answered_delta (IsSuch (IsSpent request)) (spent-step request) spent such

pub asked-look : (drive spent : List Step) (token : Option (List ℕ)) → OwnAre (IsSpent (Delta token)) spent → asked_trees drive (spent ++ answered token) ≡ scanned (tree_of (held_by (drive ++ spent))) ∷ []
asked-look drive spent token such =
    asked-append drive spent (answered token)
    ∙ ap (λ (trees : List Entries). trees ++ scanned (tree_of (held_by (drive ++ spent))) ∷ []) (asked-nothing drive spent (spent-not-answered (Delta token) spent such))

-- ---- how many looks
scan-count : (edits : List UserEdit) (rest : List LocalStep) → list_any is_root_listing rest ≡ false → count_by is_root_listing (scan-steps edits rest) ≡ 1
scan-count [] rest below =
    let here : count_by is_root_listing (Op (op.List []) ∷ rest) ≡ 1 + count_by is_root_listing rest =
    sum_by-cons (λ (step : LocalStep). cond (is_root_listing step) 1 0) (Op (op.List [])) rest in
    omega (arith, here, count-none is_root_listing rest below)
scan-count (edit ∷ edits) rest below = scan-count edits rest below

pub within-look : (spent : List Step) (token : Option (List ℕ)) (edits : List UserEdit) (rest : List LocalStep) → OwnAre (IsSpent (Delta token)) spent → count_by is_own_delta spent ≤ 2 → list_any is_root_listing rest ≡ false
    → IsWithin 1 (spent ++ answered token) (scan-steps edits rest)
within-look spent token edits rest such sent below =
    let answers : count_by is_answered_delta (answered token) ≡ 1 = refl in
    let sends : count_by is_own_delta (answered token) ≡ 1 = refl in
    record {
      answered = omega (arith, answers, count-append is_answered_delta spent (answered token), count-none is_answered_delta spent (spent-not-answered (Delta token) spent such));
      sent = omega (arith, sends, sent, count-append is_own_delta spent (answered token));
      listed = omega (arith, scan-count edits rest below);
    }

pub within-done : {looks : ℕ} (m more : List Step) (p part : List LocalStep) → IsWithin looks m p → OwnAre IsTransfer more → AllByRecursion IsMaking part → IsWithin looks (m ++ more) (p ++ part)
within-done m more p part within such makes = record {
  answered = omega (arith, within.answered, count-append is_answered_delta m more, count-none is_answered_delta more (transfers-not-answered more such));
  sent = omega (arith, within.sent, count-append is_own_delta m more, count-none is_own_delta more (transfers-not-sent more such));
  listed = omega (arith, within.listed, count-append is_root_listing p part, count-none is_root_listing part (made-below part makes));
}

pub within-then : {a b : ℕ} (m1 m2 : List Step) (p1 p2 : List LocalStep) → IsWithin a m1 p1 → IsWithin b m2 p2 → IsWithin (b + a) (m1 ++ m2) (p1 ++ p2)
within-then m1 m2 p1 p2 first second = record {
  answered = omega (arith, first.answered, second.answered, count-append is_answered_delta m1 m2);
  sent = omega (arith, first.sent, second.sent, count-append is_own_delta m1 m2);
  listed = omega (arith, first.listed, second.listed, count-append is_root_listing p1 p2);
}

-- ---- looks after looks
pub unlike-then : {a b : ℕ} (drive m1 m2 : List Step) (local p1 p2 : List LocalStep) → found_until (local ++ p1) p2 ≡ [] → AllUnlike a drive m1 local p1 → AllUnlike b (drive ++ m1) m2 (local ++ p1) p2
    → AllUnlike (b + a) drive (m1 ++ m2) local (p1 ++ p2)
unlike-then {a} {b} drive m1 m2 local p1 p2 begins first second = record {
  looks_are =
      let counted : length (scans local (p1 ++ p2)) ≡ length (scans local p1) + length (scans (local ++ p1) p2) =
      ap (λ (found : List Entries). length found) (scans-append local p1 p2 begins) ∙ length-append (scans local p1) (scans (local ++ p1) p2) in
      omega (arith, counted, first.looks_are, second.looks_are);
  unlike =
      subst (λ (found : List Entries). AllZip IsUnlike found (asked_trees drive (m1 ++ m2))) (sym (scans-append local p1 p2 begins))
      (subst (λ (had : List Entries). AllZip IsUnlike (scans local p1 ++ scans (local ++ p1) p2) had) (sym (asked-append drive m1 m2))
      (zip-append IsUnlike (scans local p1) (scans (local ++ p1) p2) (asked_trees drive m1) (asked_trees (drive ++ m1) m2) first.unlike second.unlike));
}

pub same-then : {a : ℕ} (drive m1 m2 : List Step) (local p1 p2 : List LocalStep) → found_until (local ++ p1) p2 ≡ [] → AllUnlike a drive m1 local p1 → LastSame (drive ++ m1) m2 (local ++ p1) p2
    → LastSame drive (m1 ++ m2) local (p1 ++ p2)
same-then drive m1 m2 local p1 p2 begins first last = record {
  found = scans local p1 ++ last.found;
  had = asked_trees drive m1 ++ last.had;
  same = last.same;
  scans_are =
      scans-append local p1 p2 begins ∙ ap (λ (found : List Entries). scans local p1 ++ found) last.scans_are ∙ sym (append_assoc (scans local p1) last.found (last.same ∷ []));
  asked_are =
      asked-append drive m1 m2 ∙ ap (λ (had : List Entries). asked_trees drive m1 ++ had) last.asked_are ∙ sym (append_assoc (asked_trees drive m1) last.had (last.same ∷ []));
  unlike = zip-append IsUnlike (scans local p1) last.found (asked_trees drive m1) last.had first.unlike last.unlike;
}
