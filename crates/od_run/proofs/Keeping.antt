-- An image that may be committed is sound.
use Rattle.std.proofs.Common.{◌≡◌, ⊎_elim, ℕ, List, [], ◌∷◌, ◌++◌, Option, Some, None, refl, sym, subst, arith}
use Rattle.std.proofs.lemmas.List.Elements.{All-contains}
use Rattle.gd_names.proofs.Each.{all-each, each-so}
use Rattle.gd_item.specs.Records.{records_of}
use Rattle.gd_item.specs.Steps.{accepted_by, held_at, held_by, state_of}
use Rattle.gd_item.specs.Tokens.{token_of_text}
use Rattle.gd_item.specs.Views.{AreItemsOf, IsPulled, ItemsAre, TokenIs}
use Rattle.gd_item.specs.declared.item.Item.{Item}
use Rattle.gd_item.specs.declared.step.Step.{Step}
use Rattle.gd_item.specs.declared.token.Token.{Token}
use Rattle.gd_item.proofs.Views.{held_at-now, items-later}
use Rattle.od_keeper.specs.Keeping.{last_image}
use Rattle.od_keeper.specs.Sound.{IsAccepted, IsSound}
use Rattle.od_keeper.specs.declared.image.Agreed.{Agreed}
use Rattle.od_keeper.specs.declared.image.Agreed.TheVariants.{Nothing}
use Rattle.od_keeper.specs.declared.image.BaseRow.{BaseRow}
use Rattle.od_keeper.specs.declared.image.Image.{Image}
use Rattle.od_keeper.proofs.Growing.{sound-empty, sound-stays}
use Rattle.od_run.specs.Acting.{AsPulled, BeginsAnew, HasRow, IsAt, IsPulledNow, MayAgree, MayKeep, MayKeepRow, StaysPulled, WasThere}
use Rattle.od_run.specs.Good.{AreAccepted, AreSound, IfPulled, IsFeedOf, IsPulledAt, IsToken}
use Rattle.od_run.specs.Knowing.{Known, Path}
use Rattle.od_run.proofs.Accepting.{accepted-later, at-accepted}
use Rattle.od_run.proofs.Among.{of-each}

-- ---- longer logs
pub sounds-later : (drive more : List Step) (images : List Image) → AreSound drive images → AreSound (drive ++ more) images
sounds-later drive more images are = each-so (λ (image : Image). IsSound image drive) (λ (image : Image). IsSound image (drive ++ more)) (λ image sound. sound-stays image drive more sound) images are

pub last-sound : (drive : List Step) (images : List Image) → AreSound drive images → IsSound (last_image images) drive
last-sound drive [] are = sound-empty drive
last-sound drive (image ∷ []) are = are.0
last-sound drive (image ∷ next ∷ images) are = last-sound drive (next ∷ images) are.1

-- the token of a sound image is one
token-of : (items : List Item) (drive : List Step) (read : Option Token) → TokenIs items drive read → (token : Token) × (read ≡ Some token)
token-of items drive None is = absurd is
token-of items drive (Some token) is = (token, refl)

pub sound-token : (items : List Item) (drive : List Step) (token : Option (List ℕ)) → ItemsAre items drive token → IsToken token
sound-token items drive None are = tt
sound-token items drive (Some text) are = token-of items drive (token_of_text text) are

-- ---- items that were pulled
abbrev ItemsThen : List Item → List Step → Type 0
ItemsThen items drive = AreItemsOf (state_of drive).plain items (records_of (held_by drive))

items-then : (items : List Item) (drive : List Step) (token : Option (List ℕ)) (pulled : List Step) → IsPulledAt drive token pulled → ItemsThen items pulled → ItemsAre items drive token
items-then items drive token pulled at then =
    let read : Token = at.read in
    let is : IsPulled items read pulled = record {
      epoch = omega (arith, at.epoch);
      start = at.start;
      position = omega (arith, at.position);
      items_then =
          subst (λ number. AreItemsOf (state_of pulled).plain items (records_of (held_at number pulled))) (sym at.position)
          (subst (λ held. AreItemsOf (state_of pulled).plain items (records_of held)) (sym (held_at-now pulled)) then);
    } in
    let there : ItemsAre items pulled (Some at.text) = subst (TokenIs items pulled) (sym at.read_is) is in
    subst (λ t. ItemsAre items drive t) (sym at.text_is)
    (subst (λ log. ItemsAre items log (Some at.text)) (sym at.grown) (items-later items (Some at.text) pulled at.more there))

items-pulled : (items : List Item) (drive : List Step) (token : Option (List ℕ)) (pulled : Option (List Step)) → IfPulled (IsPulledAt drive token) pulled → AsPulled (ItemsThen items) pulled → ItemsAre items drive token
items-pulled items drive token None at then = absurd then
items-pulled items drive token (Some pulled) at then = items-then items drive token pulled at then

items-kept : (drive : List Step) (k : Known) (image : Image) → IsSound k.image drive → IsFeedOf drive k.feed → MayKeep k image → ItemsAre image.items drive image.token
items-kept drive k image sound feed may =
    ⊎_elim
    (λ (anew : BeginsAnew k image). subst (λ t. ItemsAre image.items drive t) (sym anew.token) anew.items)
    (λ rest. ⊎_elim
    (λ (stays : StaysPulled k image).
    subst (λ t. ItemsAre image.items drive t) (sym stays.token) (subst (λ items. ItemsAre items drive k.image.token) (sym stays.items) sound.items))
    (λ (now : IsPulledNow k image).
    subst (λ t. ItemsAre image.items drive t) (sym now.token) (items-pulled image.items drive k.feed.token k.feed.pulled feed.pulled now.items)) rest) may.items

-- ---- agreements
at-pulled : (drive : List Step) (token : Option (List ℕ)) (pulled : Option (List Step)) (path : Path) (what : Agreed) → IfPulled (IsPulledAt drive token) pulled
    → AsPulled (λ then. IsAt (held_by then) path what) pulled → IsAccepted (accepted_by drive) what
at-pulled drive token None path what at had = absurd had
at-pulled drive token (Some pulled) path what at had =
    subst (λ log. IsAccepted (accepted_by log) what) (sym at.grown) (accepted-later pulled at.more what (at-accepted pulled path what had))

there-so : (drive : List Step) (k : Known) (path : Path) (what : Agreed) → IsFeedOf drive k.feed → AreAccepted drive k.there.brought → WasThere k path what → IsAccepted (accepted_by drive) what
there-so drive k path what feed brought was =
    ⊎_elim (λ had. at-pulled drive k.feed.token k.feed.pulled path what feed.pulled had)
    (λ did. of-each (λ (fact : Path × Agreed). IsAccepted (accepted_by drive) fact.1) k.there.brought (path, what) brought did) was

pub row-so : (drive : List Step) (k : Known) (path : Path) (what : Agreed) → IsSound k.image drive → HasRow k path what → IsAccepted (accepted_by drive) what
row-so drive k path what sound has =
    subst (IsAccepted (accepted_by drive)) has.3 (All-contains (λ (row : BaseRow). IsAccepted (accepted_by drive) row.what) k.image.rows has.0 sound.rows has.1)

agreed-so : (drive : List Step) (k : Known) (path : Path) (what : Agreed) → IsSound k.image drive → IsFeedOf drive k.feed → AreAccepted drive k.there.brought → MayAgree k path what
    → IsAccepted (accepted_by drive) what
agreed-so drive k path what sound feed brought may =
    ⊎_elim (λ (nothing : what ≡ Nothing). subst (IsAccepted (accepted_by drive)) (sym nothing) tt)
    (λ rest. ⊎_elim (λ row. row-so drive k path what sound row) (λ was. there-so drive k path what feed brought was.1) rest) may

pub kept-sound : (drive : List Step) (k : Known) (image : Image) → IsSound k.image drive → IsFeedOf drive k.feed → AreAccepted drive k.there.brought → MayKeep k image → IsSound image drive
kept-sound drive k image sound feed brought may = record {
  rows = all-each (λ (row : BaseRow). IsAccepted (accepted_by drive) row.what) image.rows
      (each-so (MayKeepRow k) (λ (row : BaseRow). IsAccepted (accepted_by drive) row.what) (λ row is. agreed-so drive k row.path row.what sound feed brought is.what) image.rows may.rows);
  items = items-kept drive k image sound feed may;
}
