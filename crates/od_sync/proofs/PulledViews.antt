-- What was pulled of a drive whose log is told.
use Rattle.std.proofs.Common.{◌≡◌, ℕ, List, Option, Some, Ok, ap, ◌∙◌, subst}
use Rattle.std.specs.Map.{values_of}
use Rattle.gd_item.specs.declared.item.Item.{Item}
use Rattle.gd_item.specs.declared.reply.Page.{Page}
use Rattle.gd_item.specs.declared.request.Request.TheVariants.{Delta}
use Rattle.gd_item.specs.declared.step.Step.{Step}
use Rattle.od_mirror.specs.Pulled.{Pulled, begun, after_page, nodes, IsView, IsLeastBad}
use Rattle.od_mirror.specs.declared.view.MirrorView.{MirrorView}
use Rattle.od_sync.specs.Deltas.{AsksDelta, DeltaAsks, PageHeard}
use Rattle.od_sync.specs.Pulls.{LastPage, Pulls, StopsBad}
use Rattle.od_sync.proofs.Sends.{asks-also}

abbrev last-page : (token asked : Option (List ℕ)) (page : Page) (before after : Option (List Step)) → asked ≡ token → DeltaAsks (Delta asked) before after (Ok page)
    → (old : List Step) → before ≡ Some old → LastPage token old after
last-page token asked page before after is asks old told =
    record { page = page; heard = subst (λ t. PageHeard 2 (Delta t) old after page) is (asks.ok old told); last_page = asks.last_page }

pub pulls-view : (items : List Item) (token asked : Option (List ℕ)) (mirror : Pulled) (page : Page) (view : MirrorView) (before after : Option (List Step)) → mirror ≡ begun items token → asked ≡ mirror.token
    → DeltaAsks (Delta asked) before after (Ok page) → IsView (after_page mirror page) view → Pulls items token before after view
pulls-view items token asked mirror page view before after begins is asks shown = record {
  told = λ old told. record {
    last = last-page token asked page before after (is ∙ ap (λ (m : Pulled). m.token) begins) asks old told;
    view_is = subst (λ (m : Pulled). IsView (after_page m page) view) begins shown;
  };
}

pub pulls-bad : (items : List Item) (token asked : Option (List ℕ)) (mirror : Pulled) (page : Page) (number : ℕ) (before after : Option (List Step)) → mirror ≡ begun items token → asked ≡ mirror.token
    → DeltaAsks (Delta asked) before after (Ok page) → IsLeastBad (nodes (values_of (after_page mirror page).items)) number → StopsBad items token before after number
pulls-bad items token asked mirror page number before after begins is asks bad = record {
  told = λ old told. record {
    last = last-page token asked page before after (is ∙ ap (λ (m : Pulled). m.token) begins) asks old told;
    bad = subst (λ (m : Pulled). IsLeastBad (nodes (values_of (after_page m page).items)) number) begins bad;
  };
}

-- it was asked with the token that it was begun with
pub pulls-asked : {P Q : Type 0} (items : List Item) (token asked : Option (List ℕ)) (mirror : Pulled) (before after : Option (List Step)) → mirror ≡ begun items token → asked ≡ mirror.token → (P → Q)
    → AsksDelta P asked before after → AsksDelta Q token before after
pulls-asked {P} items token asked mirror before after begins is so asks =
    asks-also token before after so (subst (λ (t : Option (List ℕ)). AsksDelta P t before after) (is ∙ ap (λ (m : Pulled). m.token) begins) asks)
