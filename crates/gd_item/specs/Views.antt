-- What a client has of a drive's items from the feed: its records of them as they were at a position of the feed. The
-- number of a folder's children is not compared, since a change below a folder does not give it anew; and a record that
-- came from a plain drive may lack the digest and the content tag.
use Rattle.std.specs.Prelude.{◌≡◌, ◌⊎◌, ℕ, ◌≤◌, Bool, true, List, [], map, Option, Some, None}
use Rattle.std.specs.List.{AllZip}
use Rattle.gd_item.specs.Answers.{bare_kind, bare_item}
use Rattle.gd_item.specs.Records.{records_of}
use Rattle.gd_item.specs.Steps.{state_of, number_of, held_at}
use Rattle.gd_item.specs.Tokens.{token_of_text}
use Rattle.gd_item.specs.declared.item.Item.{Item}
use Rattle.gd_item.specs.declared.item.Kind.{Kind}
use Rattle.gd_item.specs.declared.item.Kind.TheVariants.{Folder, File, Bare, Deleted}
use Rattle.gd_item.specs.declared.step.Step.{Step}
use Rattle.gd_item.specs.declared.token.Token.{Token}

-- an item without the number of its children
abbrev pub uncounted_kind : Kind → Kind
uncounted_kind (Folder child_count) = Folder 0
uncounted_kind (File digest) = File digest
uncounted_kind Bare = Bare
uncounted_kind Deleted = Deleted

abbrev pub uncounted : Item → Item
uncounted item = record item { kind = uncounted_kind item.kind }

-- an item that has all of a record but perhaps its digest and its content tag
pub record Lacks (item whole : Item) : Type 0 where
  pub rest : bare_item item ≡ bare_item whole
  pub kind : (item.kind ≡ whole.kind) ⊎ (item.kind ≡ bare_kind whole.kind)
  pub ctag : (item.ctag ≡ whole.ctag) ⊎ (item.ctag ≡ None)

-- an item is that of a record, which it may lack parts of where the drive became plain
abbrev pub IsItemOf : Bool → Item → Item → Type 0
IsItemOf plain item whole = (uncounted item ≡ uncounted whole) ⊎ ((plain ≡ true) × Lacks (uncounted item) (uncounted whole))

abbrev pub AreItemsOf : Bool → List Item → List Item → Type 0
AreItemsOf plain items records = AllZip (IsItemOf plain) items records

-- the items are those of the drive at the position of the token
pub record IsPulled (items : List Item) (token : Token) (log : List Step) : Type 0 where
  pub epoch : token.epoch ≤ (state_of log).epoch
  pub start : token.start ≤ token.position
  pub position : token.position ≤ number_of log
  pub items_then : AreItemsOf (state_of log).plain items (records_of (held_at token.position log))

abbrev pub TokenIs : List Item → List Step → Option Token → Type 0
TokenIs items log None = ⊥
TokenIs items log (Some token) = IsPulled items token log

-- the items are those of the drive at the token, and there are none where there is no token
abbrev pub ItemsAre : List Item → List Step → Option (List ℕ) → Type 0
ItemsAre items log None = items ≡ []
ItemsAre items log (Some text) = TokenIs items log (token_of_text text)
