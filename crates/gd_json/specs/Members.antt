-- Members of an object: those that must be there, and those that may lack.
use Rattle.std.specs.Prelude.{ℕ, List, Option, Some, None, option_map, Result, Ok, Err}
use Rattle.serde_json.specs.Data.{Data, Items}
use Rattle.serde_json.specs.Find.{as_str, as_array}
use Rattle.gd_json.specs.declared.fault.Member.{Member}
use Rattle.gd_json.specs.declared.fault.JsonFault.{JsonFault}
use Rattle.gd_json.specs.declared.fault.JsonFault.TheVariants.{Lacks, BadMember}
use Rattle.gd_json.specs.Faults.{◌>>=◌, ok_or}

-- a member that must be there, as f reads it
abbrev pub needed : {A : Type 0} → Member → (Data → Option A) → Option Data → Result A JsonFault
needed m f None = Err (Lacks m)
needed m f (Some d) = ok_or (BadMember m) (f d)

-- a member that may lack
abbrev pub optional : {A : Type 0} → Member → (Data → Option A) → Option Data → Result (Option A) JsonFault
optional m f None = Ok None
optional m f (Some d) = ok_or (BadMember m) (option_map Some (f d))

-- a member that must be there and be a text, as f reads the text
abbrev pub text_as : {A : Type 0} → Member → (List ℕ → Option A) → Option Data → Result A JsonFault
text_as m f found = needed m as_str found >>= λ text. ok_or (BadMember m) (f text)

-- one that may lack
abbrev pub optional_as : {A : Type 0} → Member → (List ℕ → Option A) → Option Data → Result (Option A) JsonFault
optional_as m f None = Ok None
optional_as m f (Some d) = text_as m f (Some d) >>= λ x. Ok (Some x)

-- a member that must be there and be a list, as f reads the list
abbrev pub items_as : {A : Type 0} → Member → (Items → Option A) → Option Data → Result A JsonFault
items_as m f found = needed m as_array found >>= λ items. ok_or (BadMember m) (f items)
