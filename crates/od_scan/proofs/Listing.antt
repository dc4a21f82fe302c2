-- A folder that is listed.
use Rattle.std.proofs.Common.{◌≡◌, ◌<◌, Bool, true, false, not, cond, List, [], ◌∷◌, ◌++◌, length, is_none, Option, Some, None, Ok, Err, refl, ap, sym, subst, ◌∙◌, arith}
use Rattle.std.specs.List.{Contains}
use Rattle.std.proofs.lemmas.List.Elements.{Contains-append_right}
use Rattle.gd_names.specs.Causes.{first_cause}
use Rattle.gd_names.proofs.Each.{each-append}
use Rattle.od_keeper.specs.declared.image.Agreed.{Agreed}
use Rattle.od_keeper.specs.declared.image.Agreed.TheVariants as agreed
use Rattle.od_outside.specs.Calls.{AreOthers, Calls, own_events}
use Rattle.od_outside.specs.Learning.{after_working}
use Rattle.od_outside.specs.Running.{Free, Runs}
use Rattle.od_outside.specs.Seeing.{Seen}
use Rattle.od_outside.specs.Works.{DoesWork, DoesWorkBy, WorkCause}
use Rattle.od_outside.proofs.Glue.{runs-so}
use Rattle.od_outside.proofs.Working.{runs-work}
use Rattle.od_run.specs.Knowing.{Path, Known, agreed_bytes, learn, stands}
use Rattle.od_run.specs.Worlds.{World, Event, Worked, now}
use Rattle.od_run.proofs.Among.{among-head}
use Rattle.od_run.proofs.Legal.{learned-append, now-append}
use Rattle.od_tree.specs.Listing.{entries_in}
use Rattle.od_tree.specs.Local.{bytes_in, is_folder_at, is_folder_spot, local_of, op_refusal, spot_at}
use Rattle.od_tree.specs.declared.entry.Entry.{Entry}
use Rattle.od_tree.specs.declared.fault.TreeFault.TheVariants.{Missing}
use Rattle.od_tree.specs.declared.local.LocalFile.{LocalFile}
use Rattle.od_tree.specs.declared.local.Spot.{Spot}
use Rattle.od_tree.specs.declared.step.LocalStep.{LocalStep}
use Rattle.od_tree.specs.declared.step.LocalStep.TheVariants.{Op}
use Rattle.od_tree.specs.declared.step.TreeOp.{TreeOp}
use Rattle.od_tree.specs.declared.step.TreeOp.TheVariants as op
use Rattle.od_scan.specs.Scans.{Always, IsLook}
use Rattle.od_scan.specs.Visits.{Begins, Grows, IsBegun, IsListed, IsRoot, Sees, Turn, folder_found, listing_at, pushed}
use Rattle.od_scan.proofs.Looking.{done-sees, gone-sees, ops-append, others-look, others-none, stays-done}
use Rattle.od_scan.proofs.Reading.{grows-none}

-- ---- what is known then
folder-bytes : (file : Option LocalFile) → is_none file ≡ true → agreed_bytes (bytes_in file) ≡ agreed.Folder
folder-bytes None is = refl
folder-bytes (Some file) is = absurd (cc is)

stands-folder : (at : Path) (spot : Option Spot) (more : List (Path × Agreed)) → is_folder_spot spot ≡ true → Contains (stands at spot ++ more) (at, agreed.Folder)
stands-folder at None more is = absurd (cc is)
stands-folder at (Some spot) more is =
    subst (λ (what : Agreed). Contains ((at, what) ∷ more) (at, agreed.Folder)) (sym (folder-bytes spot.file is)) (among-head (at, agreed.Folder) more)

list-grows : (log : List LocalStep) (at : Path) (k : Known) → 0 < length at → Grows k (after_working log (op.List at) k)
list-grows log [] k named = absurd (omega arith)
list-grows log (name ∷ at) k named = record {
  stays = record { image = refl; feed = refl; there = refl };
  scanned = refl;
  renamed = refl;
  held = refl;
  held_read = refl;
  stood = λ fact there. Contains-append_right (stands (name ∷ at) (spot_at (name ∷ at) (local_of log).spots)) k.here.stood fact there;
  read = λ reading there. there;
}

free-folder : (b : Bool) → first_cause ((not b, Missing) ∷ []) ≡ None → b ≡ true
free-folder true free = refl
free-folder false free = absurd (cc free)

list-known : (log : List LocalStep) (at : Path) (k : Known) → 0 < length at → op_refusal (local_of log) (op.List at) ≡ None → Contains (after_working log (op.List at) k).here.stood (at, agreed.Folder)
list-known log [] k named free = absurd (omega arith)
list-known log (name ∷ at) k named free =
    stands-folder (name ∷ at) (spot_at (name ∷ at) (local_of log).spots) k.here.stood (free-folder (is_folder_spot (spot_at (name ∷ at) (local_of log).spots)) free)

list-scanned : (at : Path) → 0 < length at → (w : World) (k : Known) → (learn w k (Worked (Op (op.List at)))).here.scanned ≡ k.here.scanned
list-scanned [] named w k = absurd (omega arith)
list-scanned (name ∷ at) named w k = refl

-- ---- as a run
list-ok : (b : Bool) (entries there : List Entry) → first_cause ((not b, Missing) ∷ []) ≡ None → entries ≡ there → Some entries ≡ cond b (Some there) None
list-ok true entries there free is = ap (λ (es : List Entry). Some es) is
list-ok false entries there free is = absurd (cc free)

list-missing : (b : Bool) (there : List Entry) → first_cause ((not b, Missing) ∷ []) ≡ Some Missing → None ≡ cond b (Some there) None
list-missing true there refused = absurd (cc refused)
list-missing false there refused = refl

pub list-found : {S : Type 0} {o : Seen S} {a b : S} (at : Path) (entries : List Entry) → 0 < length at
    → Calls o AreOthers (DoesWork (op.List at) (λ local (entries : List Entry). entries ≡ entries_in at local.spots) (Ok entries)) (WorkCause (op.List at) (Ok entries)) a b
    → Runs o Always (IsListed at (Some entries)) (Sees [] (folder_found at (Some entries)) (λ spots. Some entries ≡ listing_at at spots)) Free a b
list-found {S} {o} {a} {b} at entries named calls =
    runs-so
    (runs-work {Before = Always} {Fact = Sees [] (folder_found at (Some entries)) (λ spots. Some entries ≡ listing_at at spots)} calls (λ w k known here. tt)
    (λ w k part own known here others does.
    done-sees (op.List at) (λ local (entries : List Entry). entries ≡ entries_in at local.spots) entries (folder_found at (Some entries)) (λ spots. Some entries ≡ listing_at at spots) tt refl (list-scanned at named)
    (λ local free is. list-ok (is_folder_at at local.spots) entries (entries_in at local.spots) free is) w k part own others does.is))
    (λ cause. tt) (λ k here. here)
    (λ k next here done. record {
      grows = subst (Grows k) (sym done.next_is) (list-grows done.local at k named);
      saw = subst (λ (n : Known). Contains n.here.stood (at, agreed.Folder)) (sym done.next_is) (list-known done.local at k named done.allowed);
    })
    (λ w k more here fact. fact)

pub list-gone : {S : Type 0} {o : Seen S} {a b : S} (at : Path)
    → Calls o AreOthers (DoesWork (op.List at) (λ local (entries : List Entry). entries ≡ entries_in at local.spots) (Err Missing)) (WorkCause {T = List Entry} (op.List at) (Err Missing)) a b
    → Runs o Always (IsListed at None) (Sees [] (folder_found at None) (λ spots. None ≡ listing_at at spots)) Free a b
list-gone {S} {o} {a} {b} at calls =
    runs-so
    (runs-work {Before = Always} {Fact = Sees [] (folder_found at None) (λ spots. None ≡ listing_at at spots)} calls (λ w k known here. tt)
    (λ w k part own known here others does.
    gone-sees (op.List at) (λ local (entries : List Entry). entries ≡ entries_in at local.spots) (λ spots. None ≡ listing_at at spots)
    (λ local refused. list-missing (is_folder_at at local.spots) (entries_in at local.spots) refused) w k part own others does.is))
    (λ cause. tt) (λ k here. here) (λ k next here refused. record { grows = grows-none k next refused.same; saw = tt }) (λ w k more here fact. fact)

-- ---- the root
root-known : (log : List LocalStep) (k next : Known) → next ≡ after_working log (op.List []) k → IsBegun k next
root-known log k next is = record {
  local = log;
  local_is = ap (λ (n : Known). n.here.scanned) is;
  renamed = ap (λ (n : Known). n.here.renamed) is;
  held = ap (λ (n : Known). n.here.held) is;
  held_read = ap (λ (n : Known). n.here.held_read) is;
  stays = stays-done log (op.List []) k next is;
}

root-fact : (entries : List Entry) (w : World) (k : Known) (part : List Event) (own : Option Event) → AreOthers part
    → DoesWorkBy (op.List []) (λ local (entries : List Entry). entries ≡ entries_in [] local.spots) (Ok entries) (now w part) own → IsRoot entries w k (part ++ own_events own)
root-fact entries w k part None others does = absurd does
root-fact entries w k part (Some event) others does =
    let last : List Event = Worked (Op (op.List [])) ∷ [] in
    subst (λ (e : Event). IsRoot entries w k (part ++ own_events (Some e))) (sym does.0.event_is) (record {
      local = (now w part).local;
      local_is = ap (λ (n : Known). n.here.scanned) (learned-append w k part last);
      grown = ap (λ (v : World). v.local) (now-append w part last);
      looks = each-append IsLook part last (others-look part others) (tt, tt);
      ops = ops-append part last ∙ ap (λ (front : List TreeOp). front ++ op.List [] ∷ []) (others-none part others);
      entries_are = does.1;
    })

root-at : {S : Type 0} {o : Seen S} {a b : S} (entries : List Entry)
    → Calls o AreOthers (DoesWork (op.List []) (λ local (entries : List Entry). entries ≡ entries_in [] local.spots) (Ok entries)) (WorkCause (op.List []) (Ok entries)) a b
    → Runs o Always IsBegun (IsRoot entries) Free a b
root-at {S} {o} {a} {b} entries calls =
    runs-so (runs-work {Before = Always} {Fact = IsRoot entries} calls (λ w k known here. tt) (λ w k part own known here others does. root-fact entries w k part own others does.is)) (λ cause. tt) (λ k here. here)
    (λ k next here done. root-known done.local k next done.next_is) (λ w k more here fact. fact)

pub root-listed : {S : Type 0} {o : Seen S} {a b : S} (root : Path) (entries : List Entry) → root ≡ []
    → Calls o AreOthers (DoesWork (op.List root) (λ local (entries : List Entry). entries ≡ entries_in root local.spots) (Ok entries)) (WorkCause (op.List root) (Ok entries)) a b
    → Runs o Always IsBegun (IsRoot entries) Free a b
root-listed {S} {o} {a} {b} root entries is calls =
    root-at entries
    (subst (λ (r : Path). Calls o AreOthers (DoesWork (op.List r) (λ local (es : List Entry). es ≡ entries_in r local.spots) (Ok entries)) (WorkCause (op.List r) (Ok entries)) a b) is calls)

pub root-waits : {S : Type 0} {o : Seen S} {a b : S} (root : Path) (entries : List Entry) (stack stack_now : List Turn) → root ≡ [] → stack_now ≡ pushed root entries stack
    → Runs o Always IsBegun (IsRoot entries) Free a b → Runs o Always IsBegun (Begins stack stack_now) Free a b
root-waits root entries stack stack_now root_is is runs =
    runs-so runs (λ cause. tt) (λ k here. here) (λ k next here begun. begun)
    (λ w k more here fact. record { entries = entries; root = fact; waiting_is = is ∙ ap (λ (r : Path). pushed r entries stack) root_is })
