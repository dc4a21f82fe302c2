-- What is pulled and committed, where requests and images are told.
use Rattle.std.proofs.Common.{◌≡◌, ℕ, ◌<◌, true, List, [], ◌∷◌, ◌++◌, length, Option, Some, Result, Ok, Err, ap, sym, subst, ◌∙◌}
use Rattle.std.specs.List.{All}
use Rattle.std.specs.Prelude.{IsErrOf}
use Rattle.std.specs.Result.{IsErr, IsErrAnd}
use Rattle.gd_item.specs.Ids.{item_id}
use Rattle.gd_item.specs.Steps.{state_of, accepted_by}
use Rattle.gd_item.specs.declared.id.ItemId.{ItemId}
use Rattle.gd_item.specs.declared.item.Item.{Item}
use Rattle.gd_item.specs.declared.reply.PageLink.{PageLink}
use Rattle.gd_item.specs.declared.reply.PageLink.TheVariants as link
use Rattle.gd_item.specs.declared.request.Request.TheVariants.{Delta}
use Rattle.gd_item.specs.declared.step.Step.{Step}
use Rattle.gd_item.specs.declared.step.Step.TheVariants.{Ask}
use Rattle.gd_item.specs.declared.step.Who.TheVariants.{Own}
use Rattle.od_keeper.proofs.Growing.{sound-stays}
use Rattle.od_keeper.specs.Images.{applied}
use Rattle.gd_item.specs.Views.{ItemsAre}
use Rattle.od_keeper.specs.Sound.{IsSound, IsAccepted}
use Rattle.od_keeper.specs.declared.image.BaseRow.{BaseRow}
use Rattle.od_keeper.specs.declared.image.Change.{Change}
use Rattle.od_keeper.specs.declared.image.Image.{Image}
use Rattle.od_mirror.specs.Pulled.{after_link, paths_of, with_records}
use Rattle.od_mirror.specs.declared.view.MirrorView.{MirrorView}
use Rattle.od_transfer.specs.Asking.{is_last_link}
use Rattle.od_transfer.specs.Undisturbed.{is_servable}
use Rattle.od_sync.specs.Chains.{IsChained}
use Rattle.od_sync.specs.Ends.{stop_of_pull}
use Rattle.od_sync.specs.PullChanges.{IsPullChange}
use Rattle.od_sync.specs.Pulls.{Pulls, PullsView, seen}
use Rattle.od_sync.specs.Receiving.{Got, IsReceived, Keeps, Receives}
use Rattle.od_sync.specs.declared.ends.SyncStop.{SyncStop}
use Rattle.od_sync.specs.declared.ends.SyncStop.TheVariants as stop
use Rattle.od_sync.specs.declared.pulling.PullStop.{PullStop}
use Rattle.od_sync.specs.declared.pulling.PullStop.TheVariants as pull
use Rattle.od_sync.specs.declared.receiving.Received.{Received}
use Rattle.od_sync.proofs.Chained.{chain-page}
use Rattle.od_sync.proofs.ImagesAfter.{pull_applied, pulled_items_rise, sound_items_rise}
use Rattle.od_sync.proofs.KeptPull.{view-items, view-sound}
use Rattle.gd_laws.proofs.Tokens.{last-served}
use Rattle.od_pages.proofs.Placing.{paths_below}

-- ---- the change of a pull
pub received-is : (image next : Image) (kept items : List Item) (token : List ℕ) (remote : List (List (List ℕ) × Item)) (change : Change) → kept ≡ image.items → IsPullChange kept items token change
    → next ≡ applied change image → remote ≡ paths_of items → IsReceived image items token (record { image = next; remote = remote })
received-is image next kept items token remote change kept_is is next_is remote_is =
    let all = pull_applied image items token change (subst (λ (old : List Item). IsPullChange old items token change) kept_is is) in
    record {
      token_is = ap (λ (i : Image). i.token) next_is ∙ all.0;
      rows_are = ap (λ (i : Image). i.rows) next_is ∙ all.1;
      items_are = λ old new. ap (λ (i : Image). i.items) next_is ∙ all.2 old new;
      remote_is = remote_is;
    }

-- ---- what a page says of its token
last-link : (items : List (ℕ × Item)) (l : PageLink) (text : List ℕ) → is_last_link l ≡ true → Some text ≡ (after_link items l).last → l ≡ link.Delta text
last-link items (link.Next token) text is last = absurd (cc is)
last-link items (link.Delta token) text is last = let same : text ≡ token = cc last in ap (λ t. link.Delta t) (sym same)

view-link : (items : List Item) (token : Option (List ℕ)) (drive : List Step) (after : Option (List Step)) (view : MirrorView) (pulled : PullsView items token drive after view)
    → pulled.last.page.link ≡ link.Delta view.token
view-link items token drive after view pulled =
    let page = pulled.last.page in
    last-link (with_records (with_records [] items) page.items) page.link view.token pulled.last.last_page pulled.view_is.token

view-servable : (items : List Item) (token : Option (List ℕ)) (drive : List Step) (after : Option (List Step)) (view : MirrorView) (pulled : PullsView items token drive after view)
    → is_servable (state_of (seen drive pulled.last)) (Delta (Some view.token)) ≡ true
view-servable items token drive after view pulled =
    last-served (seen drive pulled.last) token pulled.last.heard.size pulled.last.page view.token pulled.last.heard.page_is (view-link items token drive after view pulled)

-- ---- a pull and its commit
got-sound : (image : Image) (received : Received) (view : MirrorView) (drive : List Step) (after : Option (List Step)) (pulled : PullsView image.items image.token drive after view)
    → IsReceived image view.items view.token received → IsSound image drive → IsSound received.image (seen drive pulled.last)
got-sound image received view drive after pulled is sound =
    let log = seen drive pulled.last in
    let later : IsSound image log = sound-stays image drive pulled.last.heard.part sound in
    let mirrors = view-items image.items image.token drive after sound.items view pulled in
    let items_are : received.image.items ≡ view.items = is.items_are (sound_items_rise image drive sound) (pulled_items_rise view.items log mirrors) in
    record {
      rows = subst (λ (rows : List BaseRow). All (λ (row : BaseRow). IsAccepted (accepted_by log) row.what) rows) (sym is.rows_are) later.rows;
      items = subst (λ (items : List Item). ItemsAre items log received.image.token) (sym items_are)
          (subst (λ (token : Option (List ℕ)). ItemsAre view.items log token) (sym is.token_is) (view-sound image.items image.token drive after sound.items view pulled));
    }

got-chained : (image : Image) (received : Received) (view : MirrorView) (drive : List Step) (after : Option (List Step)) (pulled : PullsView image.items image.token drive after view)
    → IsReceived image view.items view.token received → IsChained image.token drive (pulled.last.heard.part ++ Ask Own (Delta image.token) true true ∷ []) received.image.token
got-chained image received view drive after pulled is =
    subst (λ (token : Option (List ℕ)). IsChained image.token drive (pulled.last.heard.part ++ Ask Own (Delta image.token) true true ∷ []) token) (sym is.token_is)
    (chain-page image.token drive pulled.last.heard.part pulled.last.heard.size pulled.last.page view.token pulled.last.heard.such pulled.last.heard.page_is
    (view-link image.items image.token drive after view pulled))

got : (image : Image) (received : Received) (view : MirrorView) (drive : List Step) (images : List Image) (after : Option (List Step)) (images_after : Option (List Image))
    → PullsView image.items image.token drive after view → IsReceived image view.items view.token received → images_after ≡ Some (images ++ received.image ∷ [])
    → Got image received drive images after images_after
got image received view drive images after images_after pulled is grown = record {
  spent = pulled.last.heard.part;
  such = pulled.last.heard.such;
  sent = pulled.last.heard.sent;
  chained = got-chained image received view drive after pulled is;
  drive_grown = pulled.last.heard.grown;
  images_grown = grown;
  sound = λ sound. got-sound image received view drive after pulled is sound;
  rows = is.rows_are;
  servable = subst (λ (token : Option (List ℕ)). is_servable (state_of (seen drive pulled.last)) (Delta token) ≡ true) (sym is.token_is)
      (view-servable image.items image.token drive after view pulled);
  items = view.items;
  remote_is = is.remote_is;
  mirrors = λ sound. view-items image.items image.token drive after sound.items view pulled;
}

pub receives : {E : Type 0} (image : Image) (received : Received) (view : MirrorView) (before after : Option (List Step)) (images_before images_after : Option (List Image))
    → Pulls image.items image.token before after view → IsReceived image view.items view.token received
    → Keeps {E = E} image (λ (r : Received). r.image) images_before images_after (Ok received) → Receives image received before after images_before images_after
receives image received view before after images_before images_after pulls is keeps = record {
  told = λ drive images told images_told last.
      got image received view drive images after images_after (pulls.told drive told) is (keeps.ok.told images images_told last);
}

pub below-root : (image : Image) (items : List Item) (token : List ℕ) (received : Received) → IsReceived image items token received
    → All (λ (entry : List (List ℕ) × Item). 0 < length entry.0) received.remote
below-root image items token received is =
    subst (λ (entries : List (List (List ℕ) × Item)). All (λ (entry : List (List ℕ) × Item). 0 < length entry.0) entries) (sym is.remote_is) (paths_below items)

-- the stop of a pull, told as that of a sync
stop-is : {T : Type 0} (result : Result T SyncStop) (a b : SyncStop) → IsErr result × IsErrAnd result (λ s. s ≡ a) → result ≡ Err b → a ≡ b
stop-is (Ok x) a b is same = absurd (cc)
stop-is (Err s) a b is same = let other : s ≡ b = cc same in sym is.1 ∙ other

bad-pull : (fault : PullStop) (id : ItemId) → stop_of_pull fault ≡ stop.BadPages id → fault ≡ pull.BadPages id
bad-pull pull.LinkFault id is = absurd (cc is)
bad-pull pull.Unserved id is = absurd (cc is)
bad-pull (pull.BadPages number) id is = let same : number ≡ id = cc is in ap (λ n. pull.BadPages n) same
bad-pull pull.Memory id is = absurd (cc is)

pub stopped-bad : {S T : Type 0} (pulled : Result S PullStop) (fault : PullStop) (result : Result T SyncStop) (n : ℕ) → pulled ≡ Err fault → IsErr result × IsErrAnd result (λ s. s ≡ stop_of_pull fault)
    → result ≡ Err (stop.BadPages (item_id n)) → pulled ≡ Err (pull.BadPages (item_id n))
stopped-bad pulled fault result n was is same =
    was ∙ ap (λ f. Err f) (bad-pull fault (item_id n) (stop-is result (stop_of_pull fault) (stop.BadPages (item_id n)) is same))

stopped-is : {T : Type 0} (result : Result T SyncStop) (s : SyncStop) → IsErr result × IsErrAnd result (λ other. other ≡ s) → result ≡ Err s
stopped-is (Ok x) s is = absurd (cc is.0)
stopped-is (Err other) s is = ap (λ e. Err e) is.1

pub stopped-memory : {S T : Type 0} (fault : PullStop) (result : Result T SyncStop) → IsErr result × IsErrAnd result (λ s. s ≡ stop_of_pull fault) → IsErrOf {T = S} (Err fault) pull.Memory
    → IsErrOf result stop.Memory
stopped-memory fault result is memory =
    let same : fault ≡ pull.Memory = cc memory in
    stopped-is result (stop_of_pull fault) is ∙ ap (λ f. Err (stop_of_pull f)) same

pub stopped-same : {S T : Type 0} (fault : SyncStop) (result : Result T SyncStop) → IsErr result × IsErrAnd result (λ s. s ≡ fault) → IsErrOf {T = S} (Err fault) stop.Memory → IsErrOf result stop.Memory
stopped-same fault result is memory =
    let same : fault ≡ stop.Memory = cc memory in
    stopped-is result fault is ∙ ap (λ f. Err f) same
