-- A pull over items that are kept, by what a last page gives.
use Rattle.std.proofs.Common.{◌≡◌, ℕ, true, List, map, Option, Some, refl}
use Rattle.gd_item.specs.Records.{records_of}
use Rattle.gd_item.specs.Steps.{held_by}
use Rattle.gd_item.specs.Views.{uncounted, ItemsAre}
use Rattle.gd_item.specs.declared.item.Item.{Item}
use Rattle.gd_item.specs.declared.reply.PageLink.{PageLink}
use Rattle.gd_item.specs.declared.reply.PageLink.TheVariants as link
use Rattle.gd_item.specs.declared.step.Step.{Step}
use Rattle.gd_item.proofs.Views.{items-later}
use Rattle.od_pages.specs.Pulls.{IsLastPage}
use Rattle.od_mirror.specs.declared.view.MirrorView.{MirrorView}
use Rattle.od_pages.proofs.Pulling.{pull-items, pull-sound, pull-never-bad}
use Rattle.od_transfer.specs.Asking.{is_last_link}
use Rattle.od_sync.specs.Pulls.{LastPage, PullsView, PullsBad, seen}

-- the token that a last link has
record EndsAt (l : PageLink) : Type 0 where
  end : List ℕ
  is : l ≡ link.Delta end

ends-at : (l : PageLink) → is_last_link l ≡ true → EndsAt l
ends-at (link.Next token) last = absurd (cc last)
ends-at (link.Delta token) last = record { end = token; is = refl }

pub is-last-page : (token : Option (List ℕ)) (old : List Step) (after : Option (List Step)) (last : LastPage token old after) → IsLastPage (seen old last) token last.page
is-last-page token old after last =
    let ends : EndsAt last.page.link = ends-at last.page.link last.last_page in
    record { size = last.heard.size; given = last.heard.page_is; end = ends.end; link_is = ends.is }

module _ (items : List Item) (token : Option (List ℕ)) (old : List Step) (after : Option (List Step)) (are : ItemsAre items old token) where
  pub view-items : (view : MirrorView) (pulled : PullsView items token old after view)
      → map uncounted view.items ≡ map uncounted (records_of (held_by (seen old pulled.last)))
  view-items view pulled =
      pull-items (seen old pulled.last) pulled.last.page items token view (items-later items token old pulled.last.heard.part are) (is-last-page token old after pulled.last) pulled.view_is pulled.last.heard.plain

  pub view-sound : (view : MirrorView) (pulled : PullsView items token old after view) → ItemsAre view.items (seen old pulled.last) (Some view.token)
  view-sound view pulled =
      pull-sound (seen old pulled.last) pulled.last.page items token view (items-later items token old pulled.last.heard.part are) (is-last-page token old after pulled.last) pulled.view_is

  pub never-bad : (number : ℕ) → PullsBad items token old after number → ⊥
  never-bad number pulled =
      pull-never-bad (seen old pulled.last) pulled.last.page items token number (items-later items token old pulled.last.heard.part are) (is-last-page token old after pulled.last) pulled.bad
