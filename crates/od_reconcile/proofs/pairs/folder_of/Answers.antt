use Rattle.std.proofs.Common.{◌≡◌, ◌∙◌, ◌++◌, ◌∷◌, [], List, Option, ℕ, MatchOption, ap, sym, subst}
use Rattle.od_merge.specs.Pairs.{folder_of}
use Rattle.od_merge.proofs.Lists.{Path}
use Rattle.od_reconcile.proofs.CopyNames.{folder-end}
use Rattle.od_reconcile.proofs.pairs.folder_of.Goals as goal

pub returns : goal.returns
returns c =
    let path = c.args.path.now in
    let above = c.in-Some.parts.0 in
    let name = c.in-Some.parts.1 in
    let parts : path ≡ above ++ name ∷ [] =
    subst (λ (o : Option (Path × List ℕ)). MatchOption o (path ≡ []) (λ p. path ≡ p.0 ++ p.1 ∷ [])) c.in-Some.is c.in_ok-parts.ensures in
    c.from_names.ensures ∙ sym (ap (λ (p : Path). folder_of p) parts ∙ folder-end above name)
