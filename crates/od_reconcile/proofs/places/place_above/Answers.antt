use Rattle.std.proofs.Common.{◌<◌, ◌≤◌, ◌+◌, ◌++◌, ◌∷◌, [], ◌∙◌, ℕ, List, ap, length, drop, arith}
use Rattle.std.proofs.lemmas.List.{drop_all}
use Rattle.od_merge.proofs.Lists.{Path}
use Rattle.od_reconcile.specs.Above.{fronts_from}
use Rattle.od_reconcile.specs.Holding.{stands_at}
use Rattle.od_reconcile.specs.Places.{first_place}
use Rattle.od_reconcile.proofs.Indexes.{drop-next}
use Rattle.od_reconcile.proofs.Placing.{above-last, above-more}
use Rattle.od_reconcile.proofs.places.place_above.Goals as goal

pub loop-name-preserved : goal.loop-name-preserved
loop-name-preserved c =
    let f = stands_at c.args.places.now.entries in
    let names = c.args.names.now in
    let i = c.loop-name.name-index in
    let name = c.name-item.result in
    let above = c.loop-name.above in
    let less : i < length names = omega arith in
    let next = c.in_ok-push.ensures.ok ∙ (ap (λ (p : Path). p ++ c.in_ok-clone.field-0 ∷ []) (c.into_names-above.ensures ∙ c.from_names-top.ensures) ∙ ap (λ (n : List ℕ). above ++ n ∷ []) c.in_ok-clone.ensures.cases) in
    let x = c.place_at.ensures ∙ ap (λ (p : Path). f p) c.from_names-top.ensures in
    above-more f c.loop-name.place (first_place f (fronts_from [] names)) c.place_at.result c.earlier-place.result above c.push.new.self name (drop i names) (drop (i + 1) names)
    (drop-next names i name less c.name-item.is) next c.loop-name.invariant x c.earlier-place.ensures

pub returns : goal.returns
returns c =
    let f = stands_at c.args.places.now.entries in
    let names = c.args.names.now in
    let i = c.loop-name.name-index in
    let none : length names ≤ i = omega arith in
    above-last f c.loop-name.place (first_place f (fronts_from [] names)) c.loop-name.above (drop i names) (drop_all i names none) c.loop-name.invariant
