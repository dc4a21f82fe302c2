-- What a change writes, one row after another: its parts in their order, reset, rules, token, gone, put, dropped, rows.
use Rattle.std.specs.Prelude.{◌≡◌, ℕ, Bool, cond, List, [], ◌∷◌, ◌++◌, Option, Some, None}
use Rattle.std.specs.Option.{option_map}
use Rattle.gd_item.specs.declared.digest.Digest.{Digest}
use Rattle.gd_item.specs.declared.id.ItemId.{ItemId}
use Rattle.gd_item.specs.declared.item.Item.{Item}
use Rattle.od_keeper.specs.declared.image.BaseRow.{BaseRow}
use Rattle.od_keeper.specs.declared.image.Change.{Change}
use Rattle.od_database.specs.Agreements.{agreement_of, spelled}
use Rattle.od_database.specs.Entries.{row_of}
use Rattle.od_database.specs.Numbers.{integer_of, digest_text}
use Rattle.od_database.specs.declared.write.Write.{Write}
use Rattle.od_database.specs.declared.write.Write.TheVariants.{Reset, Rules, Token, Gone, Put, Dropped, Row}

-- one before the others, if all are there
abbrev pub before : {X : Type 0} → Option X → Option (List X) → Option (List X)
before None xs = None
before (Some x) None = None
before (Some x) (Some xs) = Some (x ∷ xs)

-- what each gives, if each gives one
abbrev pub collected : {X Y : Type 0} → (X → Option Y) → List X → Option (List Y)
collected f [] = Some []
collected f (x ∷ xs) = before (f x) (collected f xs)

-- the first and then the others, if both are there
abbrev pub more : {X : Type 0} → Option (List X) → Option (List X) → Option (List X)
more None others = None
more (Some first) None = None
more (Some first) (Some others) = Some (first ++ others)

abbrev pub reset_writes : Bool → List Write
reset_writes reset = cond reset (Reset ∷ []) []

abbrev pub rules_writes : Option Digest → List Write
rules_writes None = []
rules_writes (Some digest) = Rules (digest_text digest) ∷ []

abbrev pub token_writes : Option (List ℕ) → List Write
token_writes None = []
token_writes (Some text) = Token text ∷ []

abbrev pub gone_write : ItemId → Option Write
gone_write id = option_map Gone (integer_of id.0)

abbrev pub put_write : Item → Option Write
put_write item = option_map Put (row_of item)

abbrev pub dropped_write : List (List ℕ) → Option Write
dropped_write path = option_map Dropped (spelled path)

abbrev pub row_write : BaseRow → Option Write
row_write base = option_map Row (agreement_of base)

-- what the reset, the rules and the token write
abbrev pub whole_writes : Change → List Write
whole_writes change = (reset_writes change.reset ++ rules_writes change.rules) ++ token_writes change.token

-- all that a change writes, if each number in it fits, each item has a row and each path is read back from its text
abbrev pub writes_of : Change → Option (List Write)
writes_of change =
    more (more (more (more (Some (whole_writes change)) (collected gone_write change.gone)) (collected put_write change.put))
    (collected dropped_write change.dropped)) (collected row_write change.rows)
