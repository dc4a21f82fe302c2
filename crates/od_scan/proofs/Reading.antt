-- A file that is read.
use Rattle.std.proofs.Common.{◌≡◌, ℕ, true, false, cond, List, [], ◌∷◌, ◌++◌, length, is_none, Option, Some, None, Result, Ok, Err, refl, ap, sym, subst, ◌∙◌}
use Rattle.std.specs.List.{Contains}
use Rattle.std.proofs.lemmas.List.Elements.{Contains-append_right}
use Rattle.gd_names.specs.Causes.{first_cause}
use Rattle.gd_item.specs.Records.{digest_record}
use Rattle.gd_item.specs.declared.digest.Digest.{Digest}
use Rattle.od_keeper.specs.declared.image.Agreed.{Agreed}
use Rattle.od_keeper.specs.declared.image.Agreed.TheVariants as agreed
use Rattle.od_outside.specs.Calls.{AreOthers, Calls}
use Rattle.od_outside.specs.Learning.{after_working}
use Rattle.od_outside.specs.Running.{Free, Runs}
use Rattle.od_outside.specs.Seeing.{AreLaws, Seen}
use Rattle.od_outside.specs.Works.{DoesWork, WorkCause}
use Rattle.od_outside.proofs.Glue.{runs-none, runs-so}
use Rattle.od_outside.proofs.Working.{runs-work}
use Rattle.od_reconcile.specs.declared.types.Node.{Node}
use Rattle.od_reconcile.specs.declared.types.Node.TheVariants.{File}
use Rattle.od_run.specs.Knowing.{Path, Known, agreed_bytes, stands}
use Rattle.od_run.specs.Worlds.{World, Event}
use Rattle.od_run.proofs.Among.{among-head}
use Rattle.od_synclist.specs.declared.rule.Rule.{Rule}
use Rattle.od_tree.specs.Local.{bytes_in, file_at, file_in, local_of, spot_at}
use Rattle.od_tree.specs.Loss.{reading_at}
use Rattle.od_tree.specs.declared.fault.TreeFault.TheVariants.{Missing}
use Rattle.od_tree.specs.declared.local.LocalFile.{LocalFile}
use Rattle.od_tree.specs.declared.local.Spot.{Spot}
use Rattle.od_tree.specs.declared.step.LocalStep.{LocalStep}
use Rattle.od_tree.specs.declared.step.TreeOp.TheVariants as op
use Rattle.od_scan.specs.Scans.{Always, ScanCause, is_read}
use Rattle.od_scan.specs.Visits.{FoundBy, Grows, IsFound, Sees, ShowsBy, file_at_turn, file_found, read_at, read_node}
use Rattle.od_scan.specs.declared.stop.ScanStop.{ScanStop}
use Rattle.od_scan.proofs.Looking.{done-sees, gone-sees}

-- ---- what is known then
pub grows-none : (k next : Known) → next ≡ k → Grows k next
grows-none k next is = subst (Grows k) (sym is) (record {
  stays = record { image = refl; feed = refl; there = refl };
  scanned = refl;
  renamed = refl;
  held = refl;
  held_read = refl;
  stood = λ fact there. there;
  read = λ reading there. there;
})

stands-bytes : (at : Path) (spot : Option Spot) (bytes : List ℕ) (more : List (Path × Agreed)) → bytes_in (file_in spot) ≡ Some bytes → Contains (stands at spot ++ more) (at, agreed.File (digest_record bytes))
stands-bytes at None bytes more is = absurd (cc is)
stands-bytes at (Some spot) bytes more is =
    subst (λ (b : Option (List ℕ)). Contains ((at, agreed_bytes b) ∷ more) (at, agreed.File (digest_record bytes))) (sym is) (among-head (at, agreed.File (digest_record bytes)) more)

reads-bytes : (at : Path) (file : Option LocalFile) (bytes : List ℕ) (more : List (Path × List ℕ)) → bytes_in file ≡ Some bytes → Contains (reading_at at file ++ more) (at, bytes)
reads-bytes at None bytes more is = absurd (cc is)
reads-bytes at (Some file) bytes more is =
    let same : file.bytes ≡ bytes = cc is in
    subst (λ (b : List ℕ). Contains ((at, b) ∷ more) (at, bytes)) (sym same) (among-head (at, bytes) more)

read-grows : (log : List LocalStep) (at : Path) (k : Known) → Grows k (after_working log (op.Read at) k)
read-grows log at k = record {
  stays = record { image = refl; feed = refl; there = refl };
  scanned = refl;
  renamed = refl;
  held = refl;
  held_read = refl;
  stood = λ fact there. Contains-append_right (stands at (spot_at at (local_of log).spots)) k.here.stood fact there;
  read = λ reading there. Contains-append_right (reading_at at (file_at at (local_of log).spots)) k.here.read reading there;
}

abbrev node_read : List ℕ → Node
node_read bytes = File (length bytes) (Some (digest_record bytes))

read-known : (log : List LocalStep) (at : Path) (bytes : List ℕ) (k : Known) → bytes_in (file_at at (local_of log).spots) ≡ Some bytes → IsFound at (Some (node_read bytes)) k (after_working log (op.Read at) k)
read-known log at bytes k is = record {
  grows = read-grows log at k;
  saw = record {
    stood = stands-bytes at (spot_at at (local_of log).spots) bytes k.here.stood is;
    bytes = bytes;
    read = reads-bytes at (file_at at (local_of log).spots) bytes k.here.read is;
    digest_is = refl;
    size_is = refl;
  };
}

-- ---- as a run
read-so : {S : Type 0} {o : Seen S} {a b : S} (at : Path) (bytes : List ℕ)
    → Calls o AreOthers (DoesWork (op.Read at) (λ local (bytes : List ℕ). bytes_in (file_at at local.spots) ≡ Some bytes) (Ok bytes)) (WorkCause (op.Read at) (Ok bytes)) a b
    → Runs o Always (IsFound at (Some (node_read bytes))) (Sees [] (file_found at (Some (node_read bytes))) (λ spots. Some (node_read bytes) ≡ read_at at spots)) Free a b
read-so {S} {o} {a} {b} at bytes calls =
    runs-so
    (runs-work {Before = Always} {Fact = Sees [] (file_found at (Some (node_read bytes))) (λ spots. Some (node_read bytes) ≡ read_at at spots)} calls (λ w k known here. tt)
    (λ w k part own known here others does.
    done-sees (op.Read at) (λ local (bytes : List ℕ). bytes_in (file_at at local.spots) ≡ Some bytes) bytes (file_found at (Some (node_read bytes))) (λ spots. Some (node_read bytes) ≡ read_at at spots) tt refl (λ v n. refl)
    (λ local free is. ap read_node (sym is)) w k part own others does.is))
    (λ cause. tt) (λ k here. here)
    (λ k next here done. subst (IsFound at (Some (node_read bytes)) k) (sym done.next_is) (read-known done.local at bytes k done.holds)) (λ w k more here fact. fact)

pub node-read : (size : ℕ) (digest : Digest) (now bytes : List ℕ) → size ≡ length bytes → digest.0 ≡ (digest_record now).0 → now ≡ bytes → File size (Some digest) ≡ File (length bytes) (Some (digest_record bytes))
node-read size digest now bytes size_is is same =
    let whole : digest ≡ digest_record bytes = ap (λ (d : List ℕ). record { 0 = d }) is ∙ ap digest_record same in
    ap (λ (n : ℕ). File n (Some digest)) size_is ∙ ap (λ (d : Digest). File (length bytes) (Some d)) whole

pub read-found : {S : Type 0} {o : Seen S} {a b : S} (at : Path) (bytes : List ℕ) (node : Node) → node ≡ File (length bytes) (Some (digest_record bytes))
    → Calls o AreOthers (DoesWork (op.Read at) (λ local (bytes : List ℕ). bytes_in (file_at at local.spots) ≡ Some bytes) (Ok bytes)) (WorkCause (op.Read at) (Ok bytes)) a b
    → Runs o Always (IsFound at (Some node)) (Sees [] (file_found at (Some node)) (λ spots. Some node ≡ read_at at spots)) Free a b
read-found {S} {o} {a} {b} at bytes node is calls =
    subst (λ (n : Node). Runs o Always (IsFound at (Some n)) (Sees [] (file_found at (Some n)) (λ spots. Some n ≡ read_at at spots)) Free a b) (sym is) (read-so at bytes calls)

read-missing : (file : Option LocalFile) → first_cause ((is_none file, Missing) ∷ []) ≡ Some Missing → None ≡ read_node (bytes_in file)
read-missing None refused = refl
read-missing (Some file) refused = absurd (cc refused)

pub read-gone : {S : Type 0} {o : Seen S} {a b : S} (at : Path)
    → Calls o AreOthers (DoesWork (op.Read at) (λ local (bytes : List ℕ). bytes_in (file_at at local.spots) ≡ Some bytes) (Err Missing)) (WorkCause {T = List ℕ} (op.Read at) (Err Missing)) a b
    → Runs o Always (IsFound at None) (Sees [] (file_found at None) (λ spots. None ≡ read_at at spots)) Free a b
read-gone {S} {o} {a} {b} at calls =
    runs-so
    (runs-work {Before = Always} {Fact = Sees [] (file_found at None) (λ spots. None ≡ read_at at spots)} calls (λ w k known here. tt)
    (λ w k part own known here others does.
    gone-sees (op.Read at) (λ local (bytes : List ℕ). bytes_in (file_at at local.spots) ≡ Some bytes) (λ spots. None ≡ read_at at spots)
    (λ local refused. read-missing (file_at at local.spots) refused) w k part own others does.is))
    (λ cause. tt) (λ k here. here) (λ k next here refused. record { grows = grows-none k next refused.same; saw = tt }) (λ w k more here fact. fact)

-- ---- a file, whether it is read or not
fact-so : (at : Path) (value next : List Spot → Option Node) → ((spots : List Spot) → value spots ≡ next spots) → (result : Result (Option Node) ScanStop) (w : World) (k : Known) (more : List Event) → ShowsBy value (file_found at) result w k more
    → ShowsBy next (file_found at) result w k more
fact-so at value next same (Ok shown) w k more sees = record {
  looks = sees.looks;
  ops = sees.ops;
  scanned = sees.scanned;
  moment = sees.moment;
  held = sees.held ∙ same (local_of sees.moment).spots;
  holds = λ alone. sees.holds alone ∙ same (local_of w.local).spots;
}
fact-so at value next same (Err stop) w k more sees = sees

pub read-turn : {S : Type 0} {o : Seen S} {a b : S} (rules : List Rule) (at : Path) (size : ℕ) (result : Result (Option Node) ScanStop) → is_read rules at size ≡ true
    → Runs o Always (FoundBy at result) (ShowsBy (read_at at) (file_found at) result) (ScanCause result) a b
    → Runs o Always (FoundBy at result) (ShowsBy (file_at_turn rules at size) (file_found at) result) (ScanCause result) a b
read-turn rules at size result is runs =
    runs-so runs (λ cause. cause) (λ k here. here) (λ k next here found. found)
    (λ w k more here fact. fact-so at (read_at at) (file_at_turn rules at size) (λ spots. ap (λ b. cond b (read_at at spots) (Some (File size None))) (sym is)) result w k more fact)

pub unread-turn : {S : Type 0} {o : Seen S} {a : S} (rules : List Rule) (at : Path) (size : ℕ) → AreLaws o → is_read rules at size ≡ false
    → Runs o Always (IsFound at (Some (File size None))) (Sees [] (file_found at (Some (File size None))) (λ spots. Some (File size None) ≡ file_at_turn rules at size spots)) Free a a
unread-turn rules at size laws is =
    let shown : (spots : List Spot) → Some (File size None) ≡ file_at_turn rules at size spots = λ spots. ap (λ b. cond b (read_at at spots) (Some (File size None))) (sym is) in
    runs-none laws tt (λ k here. record { grows = grows-none k k refl; saw = tt })
    (λ w k here. record { looks = tt; ops = refl; scanned = refl; moment = w.local; held = shown (local_of w.local).spots; holds = λ alone. shown (local_of w.local).spots })
