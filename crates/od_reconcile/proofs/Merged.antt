-- Doing a plan makes both sides the target where the merge decides, and leaves all else.
use Rattle.std.proofs.Common.{◌≡◌, Bool, true, false, not, ◌&&◌, ◌||◌, cond, is_none, is_some, nat_lt, length, arith, List, [], ◌∷◌, Option, Some, None, refl, ap, sym, ◌∙◌}
use Rattle.std.proofs.lemmas.Bool.{true≢false, false≢true, and_parts, and_from, or_from, or_left, or_right, not-true, not_from_false, cond-false, lt-ltb}
use Rattle.gd_item.specs.declared.item.Item.{Item}
use Rattle.od_merge.specs.declared.content.Content.{Content}
use Rattle.od_merge.specs.declared.content.Content.TheVariants.{Folder}
use Rattle.od_merge.specs.declared.why.Why.{Why}
use Rattle.od_merge.specs.Sides.{Sides, Tree, at, is_file, is_folder, is_kept, is_kept_node, is_kept_there, paths_of, same}
use Rattle.od_merge.specs.Merging.{Limits, all_paths, both_paths, is_going, is_left, target, why_held}
use Rattle.od_merge.specs.Pairs.{is_sent_now}
use Rattle.od_merge.specs.Steps.{AreRenamed, IsClear, is_fetched, is_sent, needs_folder}
use Rattle.od_merge.proofs.Agreements.{clear-at, going-clear-here, going-clear-there, target-clear}
use Rattle.od_merge.proofs.Doing.{done-here, done-there}
use Rattle.od_merge.proofs.Lists.{Path, at-in, in-joined, in-order, is_in}
use Rattle.od_reconcile.specs.Doing.{done_down, done_up}
use Rattle.od_reconcile.specs.Entries.{remote_tree}
use Rattle.od_reconcile.specs.Plans.{down_list, up_list}
use Rattle.od_reconcile.specs.Promises.{Merges, is_merged}
use Rattle.od_reconcile.specs.declared.types.Down.{Down}
use Rattle.od_reconcile.specs.declared.types.Plan.{Plan}
use Rattle.od_reconcile.specs.declared.types.Up.{Up}
use Rattle.od_reconcile.proofs.Careful.{free-going, some-of}
use Rattle.od_reconcile.proofs.HereDoing.{down-at, down-is}
use Rattle.od_reconcile.proofs.ThereDoing.{is_made_there, long-file, sent-stays, up-at, up-is}
use Rattle.od_merge.proofs.Digests.{some-file}

never : (b c : Bool) → (b ≡ true → c ≡ true → ⊥) → (b && c) ≡ false
never true true none = absurd (none refl refl)
never true false none = refl
never false c none = refl

pub some-kept : (passes : Path → Bool → Bool) (tree : Tree) (q : Path) (x : Option Content) → is_kept_node passes tree q x ≡ true → is_some x ≡ true
some-kept passes tree q None kept = kept
some-kept passes tree q (Some x) kept = refl

none-three : (a b c : Bool) (t there folder : Option Content) → a ≡ false → b ≡ false → c ≡ false → cond a t (cond b folder (cond c None there)) ≡ there
none-three a b c t there folder no_a no_b no_c =
    cond-false a t (cond b folder (cond c None there)) no_a ∙ (cond-false b folder (cond c None there) no_b ∙ cond-false c None there no_c)

no-why-is : (x : Option Why) → x ≡ None → is_none x ≡ true
no-why-is x none = ap (λ (y : Option Why). is_none y) none

module _ (limits : Limits) (m : Sides) (is : AreRenamed m) (items : List (Path × Item)) (remote_is : m.remote ≡ remote_tree items) where
  kept-in-by : (t : Bool) (q : Path) → is_kept m.passes m.local q ≡ t → (t || is_kept m.passes m.remote q) ≡ true → is_in q (both_paths m) ≡ true
  kept-in-by true q here kept =
      in-joined q (paths_of m.local) (paths_of m.remote) ∙ or_left (is_in q (paths_of m.local)) (is_in q (paths_of m.remote)) (sym (at-in q m.local) ∙ some-kept m.passes m.local q (at m.local q) here)
  kept-in-by false q here kept =
      in-joined q (paths_of m.local) (paths_of m.remote) ∙ or_right (is_in q (paths_of m.local)) (is_in q (paths_of m.remote)) (sym (at-in q m.remote) ∙ some-kept m.passes m.remote q (at m.remote q) kept)

  kept-in : (q : Path) → is_kept_there m q ≡ true → is_in q (both_paths m) ≡ true
  kept-in q kept = kept-in-by (is_kept m.passes m.local q) q refl kept

  no-root : is_in [] (all_paths m) ≡ true → ⊥
  no-root has =
      false≢true (sym (in-joined [] (paths_of m.local) (paths_of m.remote)
      ∙ or_from (is_in [] (paths_of m.local)) (is_in [] (paths_of m.remote)) (sym (at-in [] m.local) ∙ ap (λ (x : Option Content). is_some x) is.root) (sym (at-in [] m.remote) ∙ ap (λ (x : Option Content). is_some x) is.root_there))
      ∙ (sym (in-order [] (both_paths m)) ∙ has))

  pub long-in : (q : Path) → is_in q (all_paths m) ≡ true → nat_lt 0 (length q) ≡ true
  long-in [] has = absurd (no-root has)
  long-in (name ∷ names) has = lt-ltb 0 (length (name ∷ names)) (omega arith)

  merged-clear : (q : Path) → IsClear m q → is_merged m q ≡ true
  merged-clear q clear = and_from (is_kept_there m q) (not (is_left m q)) clear.kept (not_from_false (is_left m q) clear.not_left)

  clear-merged : (q : Path) → is_merged m q ≡ true → IsClear m q
  clear-merged q merged =
      let parts = and_parts (is_kept_there m q) (not (is_left m q)) merged in
      clear-at m is q parts.0 (not-true (is_left m q) parts.1)

  fetched-merged : (q : Path) → is_fetched m q ≡ true → is_merged m q ≡ true
  fetched-merged q fetched =
      let first = and_parts (is_file (target m q) && same (target m q) (at m.remote q)) (not (same (target m q) (at m.local q))) fetched in
      let file = (and_parts (is_file (target m q)) (same (target m q) (at m.remote q)) first.0).0 in
      merged-clear q (target-clear m is q (long-file m is q file) (some-file (target m q) file))

  folder-merged : (side : Tree) (q : Path) → needs_folder m side q ≡ true → is_in q (all_paths m) ≡ true → is_merged m q ≡ true
  folder-merged side q needs has =
      merged-clear q (target-clear m is q (long-in q has) (some-of (target m q) (and_parts (is_folder (target m q)) (not (is_folder (at side q))) needs).0))

  sent-merged : (q : Path) → is_sent_now limits m q ≡ true → is_merged m q ≡ true
  sent-merged q now =
      let sent = (and_parts (is_sent m q) (is_none (why_held limits m q)) now).0 in
      let file = (and_parts (is_file (target m q)) (not (same (target m q) (at m.remote q))) sent).0 in
      merged-clear q (target-clear m is q (long-file m is q file) (some-file (target m q) file))

  apart-from : (q : Path) → is_merged m q ≡ false → is_merged m q ≡ true → ⊥
  apart-from q other merged = true≢false (sym merged ∙ other)

  else-here : (q : Path) → is_merged m q ≡ false → done_down (down_list m items) (at m.local) q ≡ at m.local q
  else-here q other =
      down-at m is items remote_is q (at m.local q)
      ∙ none-three (is_fetched m q && is_in q (all_paths m)) (needs_folder m m.local q && is_in q (all_paths m)) (is_going m m.local q && is_in q (all_paths m)) (target m q) (at m.local q) (Some Folder)
      (never (is_fetched m q) (is_in q (all_paths m)) (λ fetched has. apart-from q other (fetched-merged q fetched)))
      (never (needs_folder m m.local q) (is_in q (all_paths m)) (λ needs has. apart-from q other (folder-merged m.local q needs has)))
      (never (is_going m m.local q) (is_in q (all_paths m)) (λ going has. apart-from q other (merged-clear q (going-clear-here m is q going))))

  abbrev acts : Path → Bool
  acts q = is_merged m q && is_none (why_held limits m q)

  no-act : (q : Path) → acts q ≡ false → is_merged m q ≡ true → is_none (why_held limits m q) ≡ true → ⊥
  no-act q other merged free = true≢false (sym (and_from (is_merged m q) (is_none (why_held limits m q)) merged free) ∙ other)

  else-there : (q : Path) → acts q ≡ false → done_up (done_down (down_list m items) (at m.local)) (up_list limits m items) (at m.remote) q ≡ at m.remote q
  else-there q other =
      up-at limits m is items remote_is (done_down (down_list m items) (at m.local)) q (at m.remote q)
      (λ now. sent-stays limits m is items remote_is q (and_parts (is_sent m q) (is_none (why_held limits m q)) now).0)
      ∙ none-three (is_sent_now limits m q && is_in q (all_paths m)) (is_made_there limits m is items remote_is q && is_in q (all_paths m)) (is_going m m.remote q && is_in q (all_paths m)) (target m q) (at m.remote q) (Some Folder)
      (never (is_sent_now limits m q) (is_in q (all_paths m)) (λ now has. no-act q other (sent-merged q now) (and_parts (is_sent m q) (is_none (why_held limits m q)) now).1))
      (never (is_made_there limits m is items remote_is q) (is_in q (all_paths m))
      (λ made has.
      let parts = and_parts (needs_folder m m.remote q) (is_none (why_held limits m q)) made in
      no-act q other (folder-merged m.remote q parts.0 has) parts.1))
      (never (is_going m m.remote q) (is_in q (all_paths m))
      (λ going has. no-act q other (merged-clear q (going-clear-there m is q going)) (no-why-is (why_held limits m q) (free-going limits m is items remote_is q going).1)))

  pub merges : (plan : Plan) → plan.down ≡ down_list m items → plan.up ≡ up_list limits m items → Merges limits m plan
  merges plan down_is up_is = record {
    here = λ q merged.
        let clear = clear-merged q merged in
        ap (λ (downs : List Down). done_down downs (at m.local) q) down_is
        ∙ (down-is m is items remote_is q (at m.local q) ∙ done-here m is.fits q clear (kept-in q clear.kept));
    there = λ q merged free.
        let clear = clear-merged q merged in
        ap (λ (downs : List Down). done_up (done_down downs (at m.local)) plan.up (at m.remote) q) down_is
        ∙ (ap (λ (ups : List Up). done_up (done_down (down_list m items) (at m.local)) ups (at m.remote) q) up_is
        ∙ (up-is limits m is items remote_is q (at m.remote q) ∙ done-there m is.fits (λ path. is_some (why_held limits m path)) q clear free (kept-in q clear.kept)));
    else_here = λ q other. ap (λ (downs : List Down). done_down downs (at m.local) q) down_is ∙ else-here q other;
    else_there = λ q other.
        ap (λ (downs : List Down). done_up (done_down downs (at m.local)) plan.up (at m.remote) q) down_is
        ∙ (ap (λ (ups : List Up). done_up (done_down (down_list m items) (at m.local)) ups (at m.remote) q) up_is ∙ else-there q other);
  }
