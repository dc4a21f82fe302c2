use Rattle.std.proofs.Common.{◌≡◌, ◌∙◌, ◌++◌, ◌∷◌, [], List, Option, ℕ, MatchOption, ap, sym, subst}
use Rattle.std.specs.Option.{option_map}
use Rattle.od_merge.proofs.Lists.{Path}
use Rattle.od_reconcile.specs.Copying.{copy_among, copy_beside}
use Rattle.od_reconcile.specs.Taken.{Names, names_at, names_or_none}
use Rattle.od_reconcile.proofs.CopyNames.{beside}
use Rattle.od_reconcile.proofs.copies.copy_beside.Goals as goal

pub returns-in_default : goal.returns-in_default
returns-in_default c = λ paths has.
    let path = c.args.path.now in
    let is : path ≡ [] = subst (λ (o : Option (Path × List ℕ)). MatchOption o (path ≡ []) (λ p. path ≡ p.0 ++ p.1 ∷ [])) c.in_default.is c.in_ok-parts.ensures in
    ap (λ (p : Path). copy_beside c.args.host.now c.args.folder paths p) (sym is)

pub returns : goal.returns
returns c = λ paths has.
    let host = c.args.host.now in
    let folder = c.args.folder in
    let path = c.args.path.now in
    let above = c.in-Some.parts.0 in
    let name = c.in-Some.parts.1 in
    let parts : path ≡ above ++ name ∷ [] =
    subst (λ (o : Option (Path × List ℕ)). MatchOption o (path ≡ []) (λ p. path ≡ p.0 ++ p.1 ∷ [])) c.in-Some.is c.in_ok-parts.ensures in
    let names = ap (λ (o : Option Names). names_or_none o) c.get.ensures.value
    ∙ (ap (λ (f : Path). names_at c.args.taken.now.entries f) c.from_names-above.ensures ∙ has.has above) in
    let copy = c.in_ok-copy.ensures ∙ ap (λ (ns : Names). copy_among name folder host ns) names in
    c.in_ok-found.ensures
    ∙ (ap (λ (f : Path). option_map (λ last. f ++ last ∷ []) c.in_ok-copy.copy) (c.into_names.ensures ∙ c.from_names-above.ensures)
    ∙ (ap (λ x. option_map (λ last. above ++ last ∷ []) x) copy ∙ beside host folder paths path above name parts))
