-- What was agreed on stays accepted while the drive's log grows.
use Rattle.std.proofs.Common.{◌≡◌, List, ◌++◌, refl, sym, subst, ◌∙◌, arith}
use Rattle.std.specs.List.{All, Any}
use Rattle.std.proofs.lemmas.List.{length-append, get_or_append_left}
use Rattle.std.proofs.lemmas.List.Elements.{All-nil, All-weaker}
use Rattle.gd_item.specs.Records.{digest_record}
use Rattle.gd_item.specs.Steps.{accepted_by}
use Rattle.gd_item.specs.declared.live.Version.{Version}
use Rattle.gd_item.specs.declared.step.Step.{Step}
use Rattle.gd_item.proofs.LogsGrow.{accepted-log}
use Rattle.gd_item.proofs.Views.{items-later}
use Rattle.od_keeper.specs.Images.{empty_image}
use Rattle.od_keeper.specs.Sound.{IsAccepted, IsSound}
use Rattle.od_keeper.specs.declared.image.Agreed.{Agreed}
use Rattle.od_keeper.specs.declared.image.Agreed.TheVariants.{Nothing, Folder, File}
use Rattle.od_keeper.specs.declared.image.BaseRow.{BaseRow}
use Rattle.od_keeper.specs.declared.image.Image.{Image}

any-front : {X : Type 0} (P : X → Type 0) (xs ys : List X) → Any P xs → Any P (xs ++ ys)
any-front P xs ys some = (some.0, some.1, omega (arith, length-append xs ys, some.2), get_or_append_left xs ys some.1 some.0 some.2 ∙ some.3, some.4)

accepted-stays : (versions more : List Version) (what : Agreed) → IsAccepted versions what → IsAccepted (versions ++ more) what
accepted-stays versions more Nothing is = tt
accepted-stays versions more Folder is = tt
accepted-stays versions more (File digest) is = any-front (λ (version : Version). digest ≡ digest_record version.bytes) versions more is

rows-stay : (log more : List Step) (rows : List BaseRow) → All (λ (row : BaseRow). IsAccepted (accepted_by log) row.what) rows → All (λ (row : BaseRow). IsAccepted (accepted_by (log ++ more)) row.what) rows
rows-stay log more rows are =
    let later = accepted-log log more in
    All-weaker (λ (row : BaseRow). IsAccepted (accepted_by log) row.what) (λ (row : BaseRow). IsAccepted (accepted_by (log ++ more)) row.what)
    (λ row is. subst (λ versions. IsAccepted versions row.what) (sym later.1) (accepted-stays (accepted_by log) later.0 row.what is)) rows are

pub sound-stays : (image : Image) (log more : List Step) → IsSound image log → IsSound image (log ++ more)
sound-stays image log more sound = record { rows = rows-stay log more image.rows sound.rows; items = items-later image.items image.token log more sound.items }

pub sound-empty : (log : List Step) → IsSound empty_image log
sound-empty log = record { rows = All-nil (λ (row : BaseRow). IsAccepted (accepted_by log) row.what); items = refl }
