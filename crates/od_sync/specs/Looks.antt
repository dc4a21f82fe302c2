-- The looks of a sync at both sides, read off its logs: what each scan of the folder found, and what the drive had where it
-- answered a request for changes.
use Rattle.std.specs.Prelude.{◌≡◌, ℕ, ◌*◌, ◌≤◌, true, List, [], ◌∷◌, ◌++◌, cond, count_by, length}
use Rattle.std.specs.List.{AllZip}
use Rattle.gd_item.specs.Steps.{held_by}
use Rattle.gd_item.specs.Trees.{tree_of}
use Rattle.gd_item.specs.declared.step.Step.{Step}
use Rattle.od_tree.specs.Local.{local_of, local_tree}
use Rattle.od_tree.specs.Undisturbed.{NoUser}
use Rattle.od_tree.specs.declared.step.LocalStep.{LocalStep}
use Rattle.od_sync.specs.Comparing.{scanned}
use Rattle.od_sync.specs.Deltas.{is_answered_delta, is_own_delta}
use Rattle.od_sync.specs.Findings.{found_in}
use Rattle.od_sync.specs.Scans.{is_root_listing}
use Rattle.od_sync.specs.declared.scanning.Node.{Node}

-- a side as it is compared: paths, with a folder or the digest of a file at each
abbrev pub Entries : Type 0
Entries = List (List (List ℕ) × Node)

-- what steps find until the root is listed next, and what each scan found: from one listing of the root to the next
abbrev pub found_until : List LocalStep → List LocalStep → Entries
found_until before [] = []
found_until before (step ∷ steps) = cond (is_root_listing step) [] (found_in (local_of before).spots step ++ found_until (before ++ step ∷ []) steps)

abbrev pub scans : List LocalStep → List LocalStep → List Entries
scans before [] = []
scans before (step ∷ steps) = cond (is_root_listing step) (found_until (before ++ step ∷ []) steps ∷ scans (before ++ step ∷ []) steps) (scans (before ++ step ∷ []) steps)

-- the steps until the root is listed next; and each scan during which the user left the folder alone found its whole tree
abbrev pub steps_until : List LocalStep → List LocalStep
steps_until [] = []
steps_until (step ∷ steps) = cond (is_root_listing step) [] (step ∷ steps_until steps)

abbrev pub AreWhole : List LocalStep → List LocalStep → Type 0
AreWhole before [] = Unit {0}
AreWhole before (step ∷ steps) =
    (is_root_listing step ≡ true → NoUser (steps_until steps) → found_until (before ++ step ∷ []) steps ≡ scanned (local_tree before)) × AreWhole (before ++ step ∷ []) steps

-- what the drive had at each request of this client for changes that was answered
abbrev pub asked_trees : List Step → List Step → List Entries
asked_trees drive [] = []
asked_trees drive (step ∷ more) = cond (is_answered_delta step) (scanned (tree_of (held_by drive)) ∷ asked_trees (drive ++ step ∷ []) more) (asked_trees (drive ++ step ∷ []) more)

-- a look that found both sides unlike
abbrev pub IsUnlike : Entries → Entries → Type 0
IsUnlike found had = found ≡ had → ⊥

-- so many looks were made, and each found both sides unlike
pub record AllUnlike (looks : ℕ) (drive more : List Step) (local part : List LocalStep) : Type 0 where
  pub looks_are : length (scans local part) ≡ looks
  pub unlike : AllZip IsUnlike (scans local part) (asked_trees drive more)

-- the last look found both sides the same, and each before it found them unlike
pub record LastSame (drive more : List Step) (local part : List LocalStep) : Type 0 where
  pub found : List Entries
  pub had : List Entries
  pub same : Entries
  pub scans_are : scans local part ≡ found ++ same ∷ []
  pub asked_are : asked_trees drive more ≡ had ++ same ∷ []
  pub unlike : AllZip IsUnlike found had

-- so many looks at least: requests for changes that were answered, and listings of the root
pub record Looked (looks : ℕ) (more : List Step) (part : List LocalStep) : Type 0 where
  pub answered : looks ≤ count_by is_answered_delta more
  pub listed : looks ≤ count_by is_root_listing part

-- so many looks at most, and three times as many sends of such a request
pub record IsWithin (looks : ℕ) (more : List Step) (part : List LocalStep) : Type 0 where
  pub answered : count_by is_answered_delta more ≤ looks
  pub sent : count_by is_own_delta more ≤ 3 * looks
  pub listed : count_by is_root_listing part ≤ looks
