-- A commit that empties the image.
use Rattle.std.proofs.Common.{◌≡◌, inl, inr, ℕ, true, List, [], ◌∷◌, ◌++◌, Option, Some, None, Result, Ok, Err, refl, ap, sym, subst, ◌∙◌, cond}
use Rattle.gd_item.specs.declared.id.ItemId.{ItemId}
use Rattle.gd_item.specs.declared.item.Item.{Item}
use Rattle.od_keeper.specs.Images.{applied}
use Rattle.od_keeper.specs.declared.fault.KeeperFault.{KeeperFault}
use Rattle.od_keeper.specs.declared.image.BaseRow.{BaseRow}
use Rattle.od_keeper.specs.declared.image.Change.{Change}
use Rattle.od_outside.specs.Calls.{AreOthers, Calls, own_events}
use Rattle.od_outside.specs.Learning.{CommittedBy}
use Rattle.od_outside.specs.Running.{Runs}
use Rattle.od_outside.specs.Seeing.{Seen}
use Rattle.od_outside.specs.Works.{DoesCommit, DoesCommitBy, KeepCause}
use Rattle.od_outside.proofs.Glue.{runs-so}
use Rattle.od_outside.proofs.Working.{runs-commit}
use Rattle.od_run.specs.Acting.{MayKeep}
use Rattle.od_run.specs.Knowing.{Known}
use Rattle.od_run.specs.Worlds.{World, Event, Kept, now}
use Rattle.gd_item.specs.declared.reply.Resync.TheVariants.{UploadDifferences}
use Rattle.od_pull.specs.Parts.{BeganBy, HasBegunAnew, IsQuiet}
use Rattle.od_pull.proofs.Quiet.{quiet-kept, quiet-none, quiet-others, quiet-then}

abbrev pub emptying : Change
emptying = record { reset = true; rules = None; token = None; gone = []; put = []; dropped = []; rows = [] }

may-empty : (k : Known) → HasBegunAnew k → MayKeep k (applied emptying k.image)
may-empty k anew = record { items = inl (record { token = refl; items = refl; rows = refl; may = inr anew.token_is }); rows = tt }

quiet-commit : (w : World) (k : Known) (part : List Event) (result : Result (Unit {0}) KeeperFault) (own : Option Event) → AreOthers part → DoesCommitBy emptying result (now w part) own → IsQuiet w k (part ++ own_events own)
quiet-commit w k part (Ok done) None others does = absurd does
quiet-commit w k part (Ok done) (Some event) others does =
    subst (λ (e : Event). IsQuiet w k (part ++ own_events (Some e))) (sym does) (quiet-then w k k part (Kept _ ∷ []) (quiet-others w k part others) (quiet-kept (now w part) k _))
quiet-commit w k part (Err fault) None others does = quiet-then w k k part [] (quiet-others w k part others) (quiet-none (now w part) k)
quiet-commit w k part (Err fault) (Some event) others does = absurd does

began : (result : Result (Unit {0}) KeeperFault) (k next : Known) → HasBegunAnew k → CommittedBy emptying result k next → BeganBy UploadDifferences result k next
began (Ok done) k next anew is = record {
  image = ap (λ (n : Known). n.image) is;
  feed = ap (λ (n : Known). n.feed) is ∙ ap (λ b. record { begun = k.feed.begun; token = cond b k.feed.token None; pulled = k.feed.pulled }) anew.begun;
  there = ap (λ (n : Known). n.there) is;
  here = ap (λ (n : Known). n.here) is;
}
began (Err fault) k next anew is = is

-- what it is made of
emptying-of : (gone : List ItemId) (put : List Item) (dropped : List (List (List ℕ))) (rows : List BaseRow) → gone ≡ [] → put ≡ [] → dropped ≡ [] → rows ≡ []
    → record { reset = true; rules = None; token = None; gone = gone; put = put; dropped = dropped; rows = rows } ≡ emptying
emptying-of gone put dropped rows is_gone is_put is_dropped is_rows =
    ap (λ (x : List ItemId). record { reset = true; rules = None; token = None; gone = x; put = put; dropped = dropped; rows = rows }) is_gone
    ∙ ap (λ (x : List Item). record { reset = true; rules = None; token = None; gone = []; put = x; dropped = dropped; rows = rows }) is_put
    ∙ ap (λ (x : List (List (List ℕ))). record { reset = true; rules = None; token = None; gone = []; put = []; dropped = x; rows = rows }) is_dropped
    ∙ ap (λ (x : List BaseRow). record { reset = true; rules = None; token = None; gone = []; put = []; dropped = []; rows = x }) is_rows

emptied-by : {S : Type 0} {o : Seen S} {a b : S} (result : Result (Unit {0}) KeeperFault) → Calls o AreOthers (DoesCommit emptying result) (KeepCause result) a b
    → Runs o HasBegunAnew (BeganBy UploadDifferences result) IsQuiet (KeepCause result) a b
emptied-by result calls =
    runs-so
    (runs-commit {Before = HasBegunAnew} {Fact = IsQuiet} calls (λ w k known anew. may-empty k anew) (λ w k part own known anew others does. quiet-commit w k part result own others does.is)) (λ cause. cause) (λ k anew. anew)
    (λ k next anew is. began result k next anew is) (λ w k more anew quiet. quiet)

pub emptied : {S : Type 0} {o : Seen S} {a b : S} (gone : List ItemId) (put : List Item) (dropped : List (List (List ℕ))) (rows : List BaseRow) → gone ≡ [] → put ≡ [] → dropped ≡ [] → rows ≡ [] → (result : Result (Unit {0}) KeeperFault)
    → Calls o AreOthers (DoesCommit (record { reset = true; rules = None; token = None; gone = gone; put = put; dropped = dropped; rows = rows }) result) (KeepCause result) a b
    → Runs o HasBegunAnew (BeganBy UploadDifferences result) IsQuiet (KeepCause result) a b
emptied {S} {o} {a} {b} gone put dropped rows is_gone is_put is_dropped is_rows result calls =
    emptied-by result
    (subst (λ (change : Change). Calls o AreOthers (DoesCommit change result) (KeepCause result) a b) (emptying-of gone put dropped rows is_gone is_put is_dropped is_rows) calls)
