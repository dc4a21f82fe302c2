-- What one look of a scan shows, what one visit finds in a folder that the user leaves alone, and what waits then.
use Rattle.std.specs.Prelude.{◌≡◌, Bool, true, false, ℕ, List, [], ◌∷◌, ◌++◌, map, Option, Some, None}
use Rattle.std.specs.List.{AllByRecursion, list_any}
use Rattle.od_tree.specs.Calls.{edited}
use Rattle.od_tree.specs.Listing.{entries_in}
use Rattle.od_tree.specs.Local.{local_of}
use Rattle.od_tree.specs.Undisturbed.{NoUser}
use Rattle.od_tree.specs.declared.edit.UserEdit.{UserEdit}
use Rattle.od_tree.specs.declared.entry.Entry.{Entry}
use Rattle.od_tree.specs.declared.local.Spot.{Spot}
use Rattle.od_tree.specs.declared.step.LocalStep.{LocalStep}
use Rattle.od_tree.specs.declared.step.LocalStep.TheVariants.{Op}
use Rattle.od_tree.specs.declared.step.TreeOp.{TreeOp}
use Rattle.od_tree.specs.declared.step.TreeOp.TheVariants as op
use Rattle.od_sync.specs.Findings.{digest_at, found_by, found_file, found_folder, listing_at}
use Rattle.od_sync.specs.Scans.{IsLook, is_root_listing}
use Rattle.od_sync.specs.declared.scanning.Node.{Node}
use Rattle.od_sync.specs.declared.waiting.Waiting.{Waiting}

-- the operation, if what it looks for is there
abbrev pub step_of : {X : Type 0} → TreeOp → Option X → List LocalStep
step_of call None = []
step_of call (Some x) = Op call ∷ []

-- after edits of the user an operation shows what stands there
pub record Shown {X : Type 0} (call : TreeOp) (value : List Spot → Option X) (shown : Option X) (old : List LocalStep) (after : Option (List LocalStep)) : Type 0 where
  pub edits : List UserEdit
  pub grown : after ≡ Some (edited old edits ++ step_of call shown)
  pub shown_is : shown ≡ value (local_of (edited old edits)).spots

pub record Shows {X : Type 0} (call : TreeOp) (value : List Spot → Option X) (shown : Option X) (before after : Option (List LocalStep)) : Type 0 where
  pub told : (old : List LocalStep) → before ≡ Some old → Shown call value shown old after

-- the log grows by steps that look below the root, and what they find is added to what was found; without edits of the user
-- something holds of the entries
pub record Seen (found found_now : List (List (List ℕ) × Node)) (Fact : List Spot → Type 0) (old : List LocalStep) (after : Option (List LocalStep)) : Type 0 where
  pub part : List LocalStep
  pub looks : AllByRecursion IsLook part
  pub below : list_any is_root_listing part ≡ false
  pub grown : after ≡ Some (old ++ part)
  pub found_is : found_now ≡ found ++ found_by old part
  pub fact : NoUser part → Fact (local_of old).spots

pub record Sees (found found_now : List (List (List ℕ) × Node)) (Fact : List Spot → Type 0) (before after : Option (List LocalStep)) : Type 0 where
  pub told : (old : List LocalStep) → before ≡ Some old → Seen found found_now Fact old after

-- a path that waits, and whether it is a folder
abbrev pub Turn : Type 0
Turn = List (List ℕ) × Bool

abbrev pub turns : List Waiting → List Turn
turns waiting = map (λ (w : Waiting). (w.path, w.folder)) waiting

-- the entries of a folder wait above the others, the first of them last, which is on top
abbrev pub pushed : List (List ℕ) → List Entry → List Turn → List Turn
pushed folder [] stack = stack
pushed folder (entry ∷ entries) stack = pushed folder entries stack ++ (folder ++ entry.name ∷ [], entry.folder) ∷ []

abbrev pub pushed_if : List (List ℕ) → Option (List Entry) → List Turn → List Turn
pushed_if folder None stack = stack
pushed_if folder (Some entries) stack = pushed folder entries stack

-- after edits of the user the root is listed, and its entries wait
pub record Begun (stack stack_now : List Turn) (old : List LocalStep) (after : Option (List LocalStep)) : Type 0 where
  pub edits : List UserEdit
  pub grown : after ≡ Some (edited old edits ++ Op (op.List []) ∷ [])
  pub waiting_is : stack_now ≡ pushed [] (entries_in [] (local_of (edited old edits)).spots) stack

pub record Begins (stack stack_now : List Turn) (before after : Option (List LocalStep)) : Type 0 where
  pub told : (old : List LocalStep) → before ≡ Some old → Begun stack stack_now old after

-- what is found at a path that waits
abbrev pub found_at : List (List ℕ) → Bool → List Spot → List (List (List ℕ) × Node)
found_at at true spots = found_folder at (listing_at at spots)
found_at at false spots = found_file at (digest_at at spots)

abbrev pub waiting_after : List (List ℕ) → Bool → List Spot → List Turn → List Turn
waiting_after at true spots stack = pushed_if at (listing_at at spots) stack
waiting_after at false spots stack = stack

-- a visit of a path that waits
pub record Visits (at : List (List ℕ)) (folder : Bool) (found found_now : List (List (List ℕ) × Node)) (stack stack_now : List Turn) (spots : List Spot) : Type 0 where
  pub found_is : found_now ≡ found ++ found_at at folder spots
  pub waiting_is : stack_now ≡ waiting_after at folder spots stack
