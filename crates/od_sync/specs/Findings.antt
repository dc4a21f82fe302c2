-- What operations that look find: a file is read, and a folder is listed, as it is then.
use Rattle.std.specs.Prelude.{ℕ, List, [], ◌∷◌, ◌++◌, cond, Option, Some, None}
use Rattle.std.specs.Option.{option_map}
use Rattle.gd_item.specs.Records.{digest_record}
use Rattle.gd_item.specs.declared.digest.Digest.{Digest}
use Rattle.od_tree.specs.Listing.{entries_in}
use Rattle.od_tree.specs.Local.{local_of, file_at, bytes_in, is_folder_at}
use Rattle.od_tree.specs.declared.entry.Entry.{Entry}
use Rattle.od_tree.specs.declared.local.Spot.{Spot}
use Rattle.od_tree.specs.declared.step.LocalStep.{LocalStep}
use Rattle.od_tree.specs.declared.step.LocalStep.TheVariants.{User, Op}
use Rattle.od_tree.specs.declared.step.TreeOp.TheVariants as op
use Rattle.od_sync.specs.declared.scanning.Node.{Node}
use Rattle.od_sync.specs.declared.scanning.Node.TheVariants.{Folder, File}

-- the digest of the file at a path, and the entries of the folder there
abbrev pub digest_at : List (List ℕ) → List Spot → Option Digest
digest_at at spots = option_map digest_record (bytes_in (file_at at spots))

abbrev pub listing_at : List (List ℕ) → List Spot → Option (List Entry)
listing_at at spots = cond (is_folder_at at spots) (Some (entries_in at spots)) None

-- what is found at a path
abbrev pub found_file : List (List ℕ) → Option Digest → List (List (List ℕ) × Node)
found_file at None = []
found_file at (Some digest) = (at, File digest) ∷ []

abbrev pub found_folder : List (List ℕ) → Option (List Entry) → List (List (List ℕ) × Node)
found_folder at None = []
found_folder at (Some entries) = (at, Folder) ∷ []

-- what a step finds in the folder as it is then, and what steps find one after another
abbrev pub found_in : List Spot → LocalStep → List (List (List ℕ) × Node)
found_in spots (User edit) = []
found_in spots (Op (op.List at)) = found_folder at (listing_at at spots)
found_in spots (Op (op.Read at)) = found_file at (digest_at at spots)
found_in spots (Op call) = []

abbrev pub found_by : List LocalStep → List LocalStep → List (List (List ℕ) × Node)
found_by before [] = []
found_by before (step ∷ steps) = found_in (local_of before).spots step ++ found_by (before ++ step ∷ []) steps
