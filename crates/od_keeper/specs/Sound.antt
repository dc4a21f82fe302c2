-- An image is sound in a drive's log where all that it says of the drive was so: each digest that was agreed on is that
-- of bytes that the drive accepted, and the items are those of the drive at the token's position.
use Rattle.std.specs.Prelude.{◌≡◌, List}
use Rattle.std.specs.List.{All, Any}
use Rattle.gd_item.specs.Records.{digest_record}
use Rattle.gd_item.specs.Steps.{accepted_by}
use Rattle.gd_item.specs.Views.{ItemsAre}
use Rattle.gd_item.specs.declared.live.Version.{Version}
use Rattle.gd_item.specs.declared.step.Step.{Step}
use Rattle.od_keeper.specs.declared.image.Agreed.{Agreed}
use Rattle.od_keeper.specs.declared.image.Agreed.TheVariants.{Nothing, Folder, File}
use Rattle.od_keeper.specs.declared.image.BaseRow.{BaseRow}
use Rattle.od_keeper.specs.declared.image.Image.{Image}

-- what was agreed on is the digest of accepted bytes, where it is a file
abbrev pub IsAccepted : List Version → Agreed → Type 0
IsAccepted versions Nothing = Unit
IsAccepted versions Folder = Unit
IsAccepted versions (File digest) = Any (λ (version : Version). digest ≡ digest_record version.bytes) versions

pub record IsSound (image : Image) (log : List Step) : Type 0 where
  pub rows : All (λ (row : BaseRow). IsAccepted (accepted_by log) row.what) image.rows
  pub items : ItemsAre image.items log image.token
