-- What a scan has found so far, since it listed the root.
use Rattle.std.proofs.Common.{◌≡◌, ℕ, Bool, true, false, cond, nat_le, List, [], ◌∷◌, ◌++◌, ◌-◌, take, Option, Some, None, refl, ap, sym, subst, ◌∙◌, append_assoc, arith}
use Rattle.std.proofs.lemmas.Bool.{and_parts}
use Rattle.std.proofs.lemmas.List.{append-nil, map-append}
use Rattle.std.specs.List.{AllByRecursion}
use Rattle.gd_names.proofs.Each.{each-append, each-first, each-second}
use Rattle.od_outside.specs.Running.{Free, Runs}
use Rattle.od_outside.specs.Seeing.{AreLaws, Counts, NotFewer, Seen}
use Rattle.od_outside.proofs.Glue.{runs-so, runs-then}
use Rattle.od_reconcile.specs.declared.types.Node.{Node}
use Rattle.od_reconcile.specs.declared.types.Node.TheVariants.{File}
use Rattle.od_remote.specs.Counting.{Reading}
use Rattle.od_run.specs.Knowing.{Path, Known, learned}
use Rattle.od_run.specs.Worlds.{World, Event, now}
use Rattle.od_run.proofs.Legal.{learned-append, now-append}
use Rattle.od_synclist.specs.Rules.{passes}
use Rattle.od_synclist.specs.declared.rule.Rule.{Rule}
use Rattle.od_tree.specs.Local.{Local, bytes_in, empty_folder, file_at, local_of}
use Rattle.od_tree.specs.Listing.{entries_in}
use Rattle.od_tree.specs.Undisturbed.{IsOp, NoUser}
use Rattle.od_tree.specs.declared.entry.Entry.{Entry}
use Rattle.od_tree.specs.declared.local.Spot.{Spot}
use Rattle.od_tree.specs.declared.step.LocalStep.{LocalStep}
use Rattle.od_tree.specs.declared.step.LocalStep.TheVariants.{Op}
use Rattle.od_tree.specs.declared.step.TreeOp.{TreeOp}
use Rattle.od_tree.specs.declared.step.TreeOp.TheVariants as op
use Rattle.od_tree.proofs.Shaped.{folder_is_tree}
use Rattle.od_scan.specs.Scans.{Always, AreChosen, IsChosen, IsFolder, IsLook, IsLookStep, IsScanned, OnlyLooks, StaysBut, StopCause, is_read, looks_for, ops_in}
use Rattle.od_scan.specs.Visits.{Begins, IsBegun, IsVisited, Sees, Turn, Visits, VisitsAs, file_at_turn, file_found, folder_found, listing_at, pushed, read_node, turn_of, turns, worked_in}
use Rattle.od_scan.specs.declared.stop.ScanStop.{ScanStop}
use Rattle.od_scan.specs.declared.stop.ScanStop.TheVariants as stop
use Rattle.od_scan.specs.declared.waiting.Waiting.{Waiting}
use Rattle.od_scan.proofs.Looking.{local-now, looks-keep, none-kept, ops-append, steps-look}
use Rattle.od_scan.proofs.Scanned.{Going, begins, children-rise, ends, goes-on}
use Rattle.od_scan.proofs.Walks.{Walk, walk-begins, walk-ends, walk-on}

-- the root was listed, and then what is below it was looked at
pub record FoundSoFar (rules : List Rule) (found : List (Path × Node)) (stack : List Turn) (w : World) (k : Known) (more : List Event) : Type 0 where
  pub local : List LocalStep
  pub local_is : (learned w k more).here.scanned ≡ Some local
  pub rest : List LocalStep
  pub grown : (now w more).local ≡ local ++ Op (op.List []) ∷ rest
  pub looks : OnlyLooks w k more
  pub ops : ops_in more ≡ op.List [] ∷ looks_for found
  pub steps : AllByRecursion IsLookStep rest
  pub walk : Walk found stack
  pub chosen : AreChosen rules found
  pub going : NoUser rest → Going rules (local_of local).spots found stack

-- ---- the start
scanned-first : (k next : Known) → IsBegun k next → IsScanned [] k next
scanned-first k next begun = record {
  local = begun.local;
  local_is = begun.local_is;
  saw = tt;
  renamed = begun.renamed;
  held = begun.held;
  held_read = begun.held_read;
  image = begun.stays.image;
  feed = begun.stays.feed;
  there = begun.stays.there;
}

waits : (rules : List Rule) (stack stack_now : List Turn) (w : World) (k : Known) (more : List Event) → stack ≡ [] → (first : Begins stack stack_now w k more) → stack_now ≡ pushed [] (entries_in [] (local_of first.root.local).spots) []
waits rules stack stack_now w k more empty first = first.waiting_is ∙ ap (λ (s : List Turn). pushed [] first.entries s) empty ∙ ap (λ (es : List Entry). pushed [] es []) first.root.entries_are

found-first : (rules : List Rule) (stack stack_now : List Turn) (w : World) (k : Known) (more : List Event) → stack ≡ [] → Begins stack stack_now w k more → FoundSoFar rules [] stack_now w k more
found-first rules stack stack_now w k more empty first = record {
  local = first.root.local;
  local_is = first.root.local_is;
  rest = [];
  grown = first.root.grown;
  looks = first.root.looks;
  ops = first.root.ops;
  steps = tt;
  walk = subst (λ (s : List Turn). Walk [] s) (sym (waits rules stack stack_now w k more empty first))
      (walk-begins (entries_in [] (local_of first.root.local).spots) (children-rise rules (local_of first.root.local).spots (folder_is_tree first.root.local) []));
  chosen = tt;
  going = λ alone.
      begins rules (local_of first.root.local).spots (folder_is_tree first.root.local) stack_now (waits rules stack stack_now w k more empty first);
}

pub finds-first : {S : Type 0} {o : Seen S} {a b : S} (rules : List Rule) (found : List (Path × Node)) (stack stack_now : List Turn) → found ≡ [] → stack ≡ [] → Runs o Always IsBegun (Begins stack stack_now) Free a b
    → Runs o Always (IsScanned found) (FoundSoFar rules found stack_now) Free a b
finds-first {S} {o} {a} {b} rules found stack stack_now none empty runs =
    subst (λ (f : List (Path × Node)). Runs o Always (IsScanned f) (FoundSoFar rules f stack_now) Free a b) (sym none)
    (runs-so runs (λ cause. tt) (λ k here. here) (λ k next here begun. scanned-first k next begun) (λ w k more here first. found-first rules stack stack_now w k more empty first))

-- ---- what is read passes
chosen-read : (rules : List Rule) (at : Path) (bytes : Option (List ℕ)) → passes rules at false ≡ true → AreChosen rules (file_found at (read_node bytes))
chosen-read rules at None pass = tt
chosen-read rules at (Some bytes) pass = (pass, tt)

chosen-file : (b : Bool) (rules : List Rule) (at : Path) (size : ℕ) (bytes : Option (List ℕ)) → is_read rules at size ≡ b → AreChosen rules (file_found at (cond b (read_node bytes) (Some (File size None))))
chosen-file true rules at size bytes is = chosen-read rules at bytes ((and_parts (passes rules at false) (nat_le size 67108864) is).0)
chosen-file false rules at size bytes is = (tt, tt)

chosen-folder : (rules : List Rule) (at : Path) (listing : Option (List Entry)) → AreChosen rules (folder_found at listing)
chosen-folder rules at None = tt
chosen-folder rules at (Some entries) = (tt, tt)

chosen-more : (rules : List Rule) (found added found_now : List (Path × Node)) → found_now ≡ found ++ added → AreChosen rules found → AreChosen rules added → AreChosen rules found_now
chosen-more rules found added found_now is before also =
    subst (AreChosen rules) (sym is) (each-append (λ (entry : Path × Node). IsChosen rules entry.0 entry.1) found added before also)

chosen-on : (rules : List Rule) (at : Path) (folder : Bool) (size : ℕ) (found found_now : List (Path × Node)) (stack stack_now : List Turn) (spots : List Spot) → VisitsAs rules at folder size found found_now stack stack_now spots → AreChosen rules found
    → AreChosen rules found_now
chosen-on rules at true size found found_now stack stack_now spots visits before =
    chosen-more rules found (folder_found at (listing_at at spots)) found_now visits.found_is before (chosen-folder rules at (listing_at at spots))
chosen-on rules at false size found found_now stack stack_now spots visits before =
    chosen-more rules found (file_found at (file_at_turn rules at size spots)) found_now visits.0 before (chosen-file (is_read rules at size) rules at size (bytes_in (file_at at spots)) refl)

-- ---- one more visit
scanned-next : (found found_now : List (Path × Node)) (k mid next : Known) → IsScanned found k mid → IsVisited found found_now mid next → IsScanned found_now k next
scanned-next found found_now k mid next one two = record {
  local = one.local;
  local_is = two.grows.scanned ∙ one.local_is;
  saw = two.saw one.saw;
  renamed = two.grows.renamed ∙ one.renamed;
  held = two.grows.held ∙ one.held;
  held_read = two.grows.held_read ∙ one.held_read;
  image = two.grows.stays.image ∙ one.image;
  feed = two.grows.stays.feed ∙ one.feed;
  there = two.grows.stays.there ∙ one.there;
}

found-next : (rules : List Rule) (next : Waiting) (found found_now : List (Path × Node)) (stack stack_now : List Turn) (w : World) (k : Known) (xs ys : List Event) → FoundSoFar rules found (stack ++ turn_of next ∷ []) w k xs
    → Sees found found_now (Visits rules (turn_of next) found found_now stack stack_now) (now w xs) (learned w k xs) ys → FoundSoFar rules found_now stack_now w k (xs ++ ys)
found-next rules next found found_now stack stack_now w k xs ys so_far seen =
    let listed : List LocalStep = Op (op.List []) ∷ so_far.rest in
    record {
      local = so_far.local;
      local_is = ap (λ (n : Known). n.here.scanned) (learned-append w k xs ys) ∙ seen.scanned ∙ so_far.local_is;
      rest = so_far.rest ++ worked_in ys;
      grown = ap (λ (v : World). v.local) (now-append w xs ys) ∙ local-now (now w xs) ys ∙ ap (λ (log : List LocalStep). log ++ worked_in ys) so_far.grown ∙ append_assoc so_far.local listed (worked_in ys);
      looks = each-append IsLook xs ys so_far.looks seen.looks;
      ops = ops-append xs ys ∙ ap (λ (front : List TreeOp). front ++ ops_in ys) so_far.ops ∙ ap (λ (more : List TreeOp). op.List [] ∷ more) (sym seen.ops);
      steps = each-append IsLookStep so_far.rest (worked_in ys) so_far.steps (steps-look ys seen.looks);
      walk = walk-on rules next.path next.folder next.size found found_now stack stack_now (local_of seen.moment).spots (folder_is_tree seen.moment) seen.held.visits so_far.walk;
      chosen = chosen-on rules next.path next.folder next.size found found_now stack stack_now (local_of seen.moment).spots seen.held.visits so_far.chosen;
      going = λ alone.
          let before = each-first IsOp so_far.rest (worked_in ys) alone in
          let same : local_of (now w xs).local ≡ local_of so_far.local = ap local_of so_far.grown ∙ looks-keep 0 empty_folder so_far.local listed (tt, so_far.steps) (tt, before) in
          let visits : Visits rules (turn_of next) found found_now stack stack_now (local_of so_far.local).spots =
          subst (λ (local : Local). Visits rules (turn_of next) found found_now stack stack_now local.spots) same (seen.holds (each-second IsOp so_far.rest (worked_in ys) alone)) in
          goes-on rules (local_of so_far.local).spots (folder_is_tree so_far.local) next.path next.folder next.size found found_now stack stack_now (so_far.going before) visits.visits;
    }

found-at : {S : Type 0} {o : Seen S} {a b : S} (rules : List Rule) (next : Waiting) (found : List (Path × Node)) (whole popped : List Waiting) → whole ≡ popped ++ next ∷ []
    → Runs o Always (IsScanned found) (FoundSoFar rules found (turns whole)) Free a b → Runs o Always (IsScanned found) (FoundSoFar rules found (turns popped ++ turn_of next ∷ [])) Free a b
found-at {S} {o} {a} {b} rules next found whole popped is runs =
    subst (λ (stack : List Turn). Runs o Always (IsScanned found) (FoundSoFar rules found stack) Free a b) (ap turns is ∙ map-append (λ (w : Waiting). turn_of w) popped (next ∷ [])) runs

pub finds-next : {S : Type 0} {o : Seen S} {a b c : S} → AreLaws o → (rules : List Rule) (next : Waiting) (found found_now : List (Path × Node)) (whole popped after : List Waiting) → whole ≡ popped ++ next ∷ []
    → Runs o Always (IsScanned found) (FoundSoFar rules found (turns whole)) Free a b → Runs o Always (IsVisited found found_now) (Sees found found_now (Visits rules (turn_of next) found found_now (turns popped) (turns after))) Free b c
    → Runs o Always (IsScanned found_now) (FoundSoFar rules found_now (turns after)) Free a c
finds-next {S} {o} {a} {b} {c} laws rules next found found_now whole popped after is before one =
    runs-then {A = IsScanned found_now} {F = FoundSoFar rules found_now (turns after)} {C = Free} laws (found-at rules next found whole popped is before) one (λ same later none more. tt) (λ k mid here scanned. tt)
    (λ k mid then here scanned visited. scanned-next found found_now k mid then scanned visited)
    (λ w k xs ys here so_far seen. found-next rules next found found_now (turns popped) (turns after) w k xs ys so_far seen)

-- ---- it stops
stays-next : (found : List (Path × Node)) (k mid next : Known) → IsScanned found k mid → StaysBut mid next → StaysBut k next
stays-next found k mid next one two = record { image = two.image ∙ one.image; feed = two.feed ∙ one.feed; there = two.there ∙ one.there }

cause-later : (of : ScanStop) (reads one : Reading) (before mid now : Counts) → NotFewer before mid → StopCause of one mid now → StopCause of reads before now
cause-later stop.Failed reads one before mid now later rose = let more = later.tree in omega (arith, rose, more)
cause-later stop.Memory reads one before mid now later rose = tt

pub finds-stops : {S : Type 0} {o : Seen S} {a b c : S} → AreLaws o → (rules : List Rule) (found : List (Path × Node)) (stack : List Turn) (of : ScanStop) → Runs o Always (IsScanned found) (FoundSoFar rules found stack) Free a b
    → Runs o Always StaysBut OnlyLooks (StopCause of) b c → Runs o Always StaysBut OnlyLooks (StopCause of) a c
finds-stops {S} {o} {a} {b} {c} laws rules found stack of before one =
    runs-then {A = StaysBut} {F = OnlyLooks} {C = StopCause of} laws before one (λ same later none cause. cause-later of (o.reads a) (o.reads b) (o.counts a) (o.counts b) (o.counts c) later cause) (λ k mid here scanned. tt)
    (λ k mid next here scanned stays. stays-next found k mid next scanned stays) (λ w k xs ys here so_far looks. each-append IsLook xs ys so_far.looks looks)

pub scanned-stays : (found : List (Path × Node)) (k next : Known) → IsScanned found k next → StaysBut k next
scanned-stays found k next scanned = record { image = scanned.image; feed = scanned.feed; there = scanned.there }

-- ---- it ends
found-last : (rules : List Rule) (found : List (Path × Node)) (stack : List Turn) (w : World) (k : Known) (more : List Event) → stack ≡ [] → FoundSoFar rules found stack w k more → IsFolder rules found w k more
found-last rules found stack w k more empty so_far = record {
  local = so_far.local;
  local_is = so_far.local_is;
  rest = so_far.rest;
  grown = so_far.grown;
  all = λ alone. ends rules (local_of so_far.local).spots (folder_is_tree so_far.local) found (subst (λ (s : List Turn). Going rules (local_of so_far.local).spots found s) empty (so_far.going alone));
  tree = walk-ends found (subst (λ (s : List Turn). Walk found s) empty so_far.walk);
  chosen = so_far.chosen;
  looks = so_far.ops;
  only = so_far.looks;
  kept = none-kept more so_far.looks;
}

pub finds-last : {S : Type 0} {o : Seen S} {a b : S} (rules : List Rule) (found result : List (Path × Node)) (waiting : List Waiting) → waiting ≡ [] → result ≡ found
    → Runs o Always (IsScanned found) (FoundSoFar rules found (turns waiting)) Free a b → Runs o Always (IsScanned result) (IsFolder rules result) Free a b
finds-last {S} {o} {a} {b} rules found result waiting empty same runs =
    subst (λ (f : List (Path × Node)). Runs o Always (IsScanned f) (IsFolder rules f) Free a b) (sym same)
    (runs-so runs (λ cause. tt) (λ k here. here) (λ k next here scanned. scanned) (λ w k more here so_far. found-last rules found (turns waiting) w k more (ap turns empty) so_far))

pub none-left : (waiting popped : List Waiting) (size : ℕ) → waiting ≡ popped ++ [] → popped ≡ take (size - 1) waiting → size ≡ 0 → waiting ≡ []
none-left waiting popped size is front empty = is ∙ append-nil popped ∙ front ∙ ap (λ n. take (n - 1) waiting) empty
