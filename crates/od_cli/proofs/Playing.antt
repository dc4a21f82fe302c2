-- The lines that were played so far led a new run to where it is.
use Rattle.std.proofs.Common.{◌≡◌, ℕ, ◌+◌, ◌<◌, ◌≤◌, Bool, true, ◌&&◌, List, [], ◌∷◌, ◌++◌, length, take, drop, get_or, refl, sym, ap, ◌∙◌, subst, append_assoc, append-nil}
use Rattle.std.proofs.lemmas.Bool.{and_parts}
use Rattle.std.proofs.lemmas.List.{drop_more, take_more, take_all}
use Rattle.od_keeper.specs.declared.memory.MemoryKeeper.{MemoryKeeper}
use Rattle.od_tree.specs.declared.memory.MemoryTree.{MemoryTree}
use Rattle.od_cli.specs.Following.{are_allowed, can_follow, is_allowed}
use Rattle.od_cli.specs.Runs.{Run, Goes, GoThrough, Played, new_run}
use Rattle.od_cli.specs.RunStates.{PlaysTo, StandsFor}
use Rattle.od_cli.specs.Worlds.{WorldValue}
use Rattle.od_cli.specs.declared.line.Line.{Line}

-- one line more
go-on : (first : Run) (lines : List Line) (line : Line) (run next : Run) (text more : List ℕ) → GoThrough first lines run text → Goes run line next more → GoThrough first (lines ++ line ∷ []) next (text ++ more)
go-on first [] line run next text more so goes =
    let P : Run → Type 0 = λ r. Goes r line next more in
    (next, more, [], subst P so.0 goes, (refl, refl), ap (λ t. t ++ more) so.1 ∙ sym (append-nil more))
go-on first (earlier ∷ lines) line run next text more so goes =
    (so.0, so.1, so.2 ++ more, so.3, go-on so.0 lines line run next so.2 more so.4 goes, ap (λ t. t ++ more) so.5 ∙ append_assoc so.1 so.2 more)

pub record PlayedTo (world : WorldValue) (folder : MemoryTree) (kept : MemoryKeeper) (counted : ℕ) (followed : Bool) (out : List ℕ) (lines : List Line) : Type 0 where
  pub run : Run
  pub stands : StandsFor world folder kept counted followed run
  pub goes : GoThrough new_run lines run out

pub none-yet : (world : WorldValue) (folder : MemoryTree) (kept : MemoryKeeper) (counted : ℕ) (followed : Bool) (out : List ℕ) (lines : List Line) → StandsFor world folder kept counted followed new_run → out ≡ []
    → PlayedTo world folder kept counted followed out (take 0 lines)
none-yet world folder kept counted followed out lines stands empty = record { run = new_run; stands = stands; goes = (refl, empty) }

pub one-more : (world world_after : WorldValue) (folder folder_after : MemoryTree) (kept kept_after : MemoryKeeper) (counted counted_after : ℕ) (followed followed_after : Bool) (out after : List ℕ) (lines : List Line) (i : ℕ) (line : Line)
    → PlayedTo world folder kept counted followed out (take i lines) → i < length lines → line ≡ get_or lines i line
    → ((run : Run) → StandsFor world folder kept counted followed run → PlaysTo world_after folder_after kept_after counted_after followed_after run line out after) → PlayedTo world_after folder_after kept_after counted_after followed_after after (take (i + 1) lines)
one-more world world_after folder folder_after kept kept_after counted counted_after followed followed_after out after lines i line so inside is plays =
    let done = plays so.run so.stands in
    let cut : take (i + 1) lines ≡ take i lines ++ line ∷ [] = take_more lines i line inside ∙ ap (λ (l : Line). take i lines ++ l ∷ []) (sym is) in
    let whole : GoThrough new_run (take i lines ++ line ∷ []) done.next (out ++ done.text) = go-on new_run (take i lines) line so.run done.next out done.text so.goes done.goes in
    let P : List Line → Type 0 = λ ls. GoThrough new_run ls done.next after in
    let Q : List ℕ → Type 0 = λ t. GoThrough new_run (take i lines ++ line ∷ []) done.next t in
    record { run = done.next; stands = done.stands; goes = subst P (sym cut) (subst Q (sym done.printed) whole) }

pub all-played : (world : WorldValue) (folder : MemoryTree) (kept : MemoryKeeper) (counted : ℕ) (followed : Bool) (out : List ℕ) (lines : List Line) (i : ℕ) → length lines ≤ i → PlayedTo world folder kept counted followed out (take i lines) → Played lines out
all-played world folder kept counted followed out lines i past so =
    let P : List Line → Type 0 = λ ls. GoThrough new_run ls so.run out in
    record { last = so.run; goes = subst P (take_all i lines past) so.goes }

-- the lines that are left are allowed, and so is the next one
module _ (lines : List Line) (i : ℕ) (line : Line) (followed : Bool) (left : are_allowed followed (drop i lines) ≡ true) (inside : i < length lines) (is : line ≡ get_or lines i line) where
  both : (is_allowed followed line ≡ true) × (are_allowed (can_follow line && followed) (drop (i + 1) lines) ≡ true)
  both =
      let cut : drop i lines ≡ line ∷ drop (i + 1) lines = drop_more lines i line inside ∙ ap (λ (l : Line). l ∷ drop (i + 1) lines) (sym is) in
      and_parts (is_allowed followed line) (are_allowed (can_follow line && followed) (drop (i + 1) lines)) (sym (ap (are_allowed followed) cut) ∙ left)

  pub allowed-next : is_allowed followed line ≡ true
  allowed-next = both.0

  pub allowed-after : (after : Bool) → after ≡ (can_follow line && followed) → are_allowed after (drop (i + 1) lines) ≡ true
  allowed-after after same = ap (λ f. are_allowed f (drop (i + 1) lines)) same ∙ both.1
