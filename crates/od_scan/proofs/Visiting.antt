-- One visit of a scan.
use Rattle.std.proofs.Common.{◌≡◌, ℕ, true, false, List, [], ◌∷◌, ◌++◌, Option, Some, None, Result, Ok, Err, refl, ap, sym, subst, ◌∙◌}
use Rattle.std.proofs.lemmas.List.{append-nil}
use Rattle.std.specs.List.{AllByRecursion}
use Rattle.gd_names.proofs.Each.{each-append, each-so}
use Rattle.od_keeper.specs.declared.image.Agreed.TheVariants as agreed
use Rattle.od_outside.specs.Running.{Free, Runs}
use Rattle.od_outside.specs.Seeing.{Seen}
use Rattle.od_outside.proofs.Glue.{runs-so}
use Rattle.od_reconcile.specs.declared.types.Node.{Node}
use Rattle.od_reconcile.specs.declared.types.Node.TheVariants.{Folder, File}
use Rattle.od_run.specs.Knowing.{Path, Known}
use Rattle.od_run.specs.Worlds.{World, Event}
use Rattle.od_synclist.specs.declared.rule.Rule.{Rule}
use Rattle.od_tree.specs.Local.{local_of}
use Rattle.od_tree.specs.declared.entry.Entry.{Entry}
use Rattle.od_tree.specs.declared.local.Spot.{Spot}
use Rattle.od_tree.specs.declared.step.TreeOp.{TreeOp}
use Rattle.od_scan.specs.Scans.{Always, ScanCause, SawEntry, SawNode, looks_for, ops_in}
use Rattle.od_scan.specs.Visits.{Grows, IsFound, IsListed, IsVisited, Sees, Turn, VisitFact, VisitedBy, Visits, VisitsAs, VisitsFile, VisitsFolder, file_at_turn, file_found, folder_found, listing_at, pushed, pushed_if, turn_of}
use Rattle.od_scan.specs.declared.stop.ScanStop.{ScanStop}
use Rattle.od_scan.specs.declared.waiting.Waiting.{Waiting}
use Rattle.od_scan.proofs.Looking.{looks-append}

-- ---- what was known of what was found
node-grows : (k next : Known) → Grows k next → (path : Path) (node : Node) → SawNode k path node → SawNode next path node
node-grows k next grows path Folder saw = grows.stood (path, agreed.Folder) saw
node-grows k next grows path (File size None) saw = tt
node-grows k next grows path (File size (Some digest)) saw = record {
  stood = grows.stood (path, agreed.File digest) saw.stood;
  bytes = saw.bytes;
  read = grows.read (path, saw.bytes) saw.read;
  digest_is = saw.digest_is;
  size_is = saw.size_is;
}

saw-grows : (k next : Known) → Grows k next → (found : List (Path × Node)) → AllByRecursion (SawEntry k) found → AllByRecursion (SawEntry next) found
saw-grows k next grows found saw = each-so (SawEntry k) (SawEntry next) (λ entry is. node-grows k next grows entry.0 entry.1 is) found saw

visited-one : (at : Path) (node : Node) (found found_now : List (Path × Node)) (k next : Known) → found_now ≡ found ++ (at, node) ∷ [] → Grows k next → SawEntry next (at, node) → IsVisited found found_now k next
visited-one at node found found_now k next is grows saw = record {
  grows = grows;
  saw = λ before. subst (AllByRecursion (SawEntry next)) (sym is) (each-append (SawEntry next) found ((at, node) ∷ []) (saw-grows k next grows found before) (saw, tt));
}

visited-none : (found : List (Path × Node)) (k next : Known) → Grows k next → IsVisited found found k next
visited-none found k next grows = record { grows = grows; saw = λ before. saw-grows k next grows found before }

-- what one look shows is added
ops-added : (found added found_now : List (Path × Node)) (more : List Event) → found_now ≡ found ++ added → looks_for added ≡ looks_for [] ++ ops_in more → looks_for found_now ≡ looks_for found ++ ops_in more
ops-added found added found_now more is ops = ap looks_for is ∙ looks-append found added ∙ ap (λ (ops : List TreeOp). looks_for found ++ ops) ops

adds : (found added found_now : List (Path × Node)) (Holds Next : List Spot → Type 0) → found_now ≡ found ++ added → ((spots : List Spot) → Holds spots → Next spots) → (w : World) (k : Known) (more : List Event) → Sees [] added Holds w k more
    → Sees found found_now Next w k more
adds found added found_now Holds Next is so w k more sees = record {
  looks = sees.looks;
  ops = ops-added found added found_now more is sees.ops;
  scanned = sees.scanned;
  moment = sees.moment;
  held = so (local_of sees.moment).spots sees.held;
  holds = λ alone. so (local_of w.local).spots (sees.holds alone);
}

sees-so : (found found_now : List (Path × Node)) (Holds Next : List Spot → Type 0) → ((spots : List Spot) → Holds spots → Next spots) → (w : World) (k : Known) (more : List Event) → Sees found found_now Holds w k more → Sees found found_now Next w k more
sees-so found found_now Holds Next so w k more sees = record {
  looks = sees.looks;
  ops = sees.ops;
  scanned = sees.scanned;
  moment = sees.moment;
  held = so (local_of sees.moment).spots sees.held;
  holds = λ alone. so (local_of w.local).spots (sees.holds alone);
}

-- ---- a file
pub file-some : {S : Type 0} {o : Seen S} {a b : S} (rules : List Rule) (at : Path) (size : ℕ) (node : Node) (found found_now : List (Path × Node)) → found_now ≡ found ++ (at, node) ∷ []
    → Runs o Always (IsFound at (Some node)) (Sees [] (file_found at (Some node)) (λ spots. Some node ≡ file_at_turn rules at size spots)) Free a b
    → Runs o Always (IsVisited found found_now) (Sees found found_now (VisitsFile rules at size found found_now)) Free a b
file-some rules at size node found found_now is runs =
    runs-so runs (λ cause. tt) (λ k here. here) (λ k next here saw. visited-one at node found found_now k next is saw.grows saw.saw)
    (λ w k more here sees.
    adds found ((at, node) ∷ []) found_now (λ spots. Some node ≡ file_at_turn rules at size spots) (VisitsFile rules at size found found_now) is
    (λ spots same. is ∙ ap (λ (n : Option Node). found ++ file_found at n) same) w k more sees)

pub file-none : {S : Type 0} {o : Seen S} {a b : S} (rules : List Rule) (at : Path) (size : ℕ) (found : List (Path × Node))
    → Runs o Always (IsFound at None) (Sees [] (file_found at None) (λ spots. None ≡ file_at_turn rules at size spots)) Free a b
    → Runs o Always (IsVisited found found) (Sees found found (VisitsFile rules at size found found)) Free a b
file-none rules at size found runs =
    runs-so runs (λ cause. tt) (λ k here. here) (λ k next here saw. visited-none found k next saw.grows)
    (λ w k more here sees.
    adds found [] found (λ spots. None ≡ file_at_turn rules at size spots) (VisitsFile rules at size found found) (sym (append-nil found))
    (λ spots same. sym (append-nil found) ∙ ap (λ (n : Option Node). found ++ file_found at n) same) w k more sees)

-- ---- a folder
pub folder-some : {S : Type 0} {o : Seen S} {a b : S} (at : Path) (entries : List Entry) (found found_now : List (Path × Node)) (stack stack_now : List Turn) → found_now ≡ found ++ (at, Folder) ∷ [] → stack_now ≡ pushed at entries stack
    → Runs o Always (IsListed at (Some entries)) (Sees [] (folder_found at (Some entries)) (λ spots. Some entries ≡ listing_at at spots)) Free a b
    → Runs o Always (IsVisited found found_now) (Sees found found_now (VisitsFolder at found found_now stack stack_now)) Free a b
folder-some at entries found found_now stack stack_now is waits runs =
    runs-so runs (λ cause. tt) (λ k here. here) (λ k next here saw. visited-one at Folder found found_now k next is saw.grows saw.saw)
    (λ w k more here sees.
    adds found ((at, Folder) ∷ []) found_now (λ spots. Some entries ≡ listing_at at spots) (VisitsFolder at found found_now stack stack_now) is
    (λ spots same. record {
      found_is = is ∙ ap (λ (l : Option (List Entry)). found ++ folder_found at l) same;
      waiting_is = waits ∙ ap (λ (l : Option (List Entry)). pushed_if at l stack) same;
    })
    w k more sees)

pub folder-none : {S : Type 0} {o : Seen S} {a b : S} (at : Path) (found : List (Path × Node)) (stack : List Turn)
    → Runs o Always (IsListed at None) (Sees [] (folder_found at None) (λ spots. None ≡ listing_at at spots)) Free a b
    → Runs o Always (IsVisited found found) (Sees found found (VisitsFolder at found found stack stack)) Free a b
folder-none at found stack runs =
    runs-so runs (λ cause. tt) (λ k here. here) (λ k next here saw. visited-none found k next saw.grows)
    (λ w k more here sees.
    adds found [] found (λ spots. None ≡ listing_at at spots) (VisitsFolder at found found stack stack) (sym (append-nil found))
    (λ spots same. record {
      found_is = sym (append-nil found) ∙ ap (λ (l : Option (List Entry)). found ++ folder_found at l) same;
      waiting_is = ap (λ (l : Option (List Entry)). pushed_if at l stack) same;
    })
    w k more sees)

-- ---- either
visit-so : (found found_now : List (Path × Node)) (Holds Next : List Spot → Type 0) → ((spots : List Spot) → Holds spots → Next spots) → (result : Result (Unit {0}) ScanStop) (w : World) (k : Known) (more : List Event) → VisitFact found found_now Holds result w k more
    → VisitFact found found_now Next result w k more
visit-so found found_now Holds Next so (Ok done) w k more sees = sees-so found found_now Holds Next so w k more sees
visit-so found found_now Holds Next so (Err stop) w k more sees = sees

pub as-folder : {S : Type 0} {o : Seen S} {a b : S} (rules : List Rule) (next : Waiting) (found found_now : List (Path × Node)) (stack stack_now : List Turn) (result : Result (Unit {0}) ScanStop) → next.folder ≡ true
    → Runs o Always (VisitedBy found found_now result) (VisitFact found found_now (VisitsFolder next.path found found_now stack stack_now) result) (ScanCause result) a b
    → Runs o Always (VisitedBy found found_now result) (VisitFact found found_now (Visits rules (turn_of next) found found_now stack stack_now) result) (ScanCause result) a b
as-folder rules next found found_now stack stack_now result is runs =
    runs-so runs (λ cause. cause) (λ k here. here) (λ k then here visited. visited)
    (λ w k more here fact.
    visit-so found found_now (VisitsFolder next.path found found_now stack stack_now) (Visits rules (turn_of next) found found_now stack stack_now)
    (λ spots visits. record { visits = subst (λ b. VisitsAs rules next.path b next.size found found_now stack stack_now spots) (sym is) visits }) result w k more fact)

pub as-file : {S : Type 0} {o : Seen S} {a b : S} (rules : List Rule) (next : Waiting) (found found_now : List (Path × Node)) (stack : List Turn) (result : Result (Unit {0}) ScanStop) → next.folder ≡ false
    → Runs o Always (VisitedBy found found_now result) (VisitFact found found_now (VisitsFile rules next.path next.size found found_now) result) (ScanCause result) a b
    → Runs o Always (VisitedBy found found_now result) (VisitFact found found_now (Visits rules (turn_of next) found found_now stack stack) result) (ScanCause result) a b
as-file rules next found found_now stack result is runs =
    runs-so runs (λ cause. cause) (λ k here. here) (λ k then here visited. visited)
    (λ w k more here fact.
    visit-so found found_now (VisitsFile rules next.path next.size found found_now) (Visits rules (turn_of next) found found_now stack stack)
    (λ spots visits. record { visits = subst (λ b. VisitsAs rules next.path b next.size found found_now stack stack spots) (sym is) (visits, refl) }) result w k more fact)
