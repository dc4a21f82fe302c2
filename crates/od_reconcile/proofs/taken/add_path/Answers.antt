use Rattle.std.proofs.Common.{◌≡◌, ◌++◌, ◌∷◌, [], ℕ, List, Option, MatchOption, subst}
use Rattle.od_merge.proofs.Lists.{Path}
use Rattle.od_reconcile.specs.Taken.{names_at}
use Rattle.od_reconcile.proofs.FolderNames.{add-name, no-path}
use Rattle.od_reconcile.proofs.taken.add_path.Goals as goal

pub returns-in_default : goal.returns-in_default
returns-in_default c = λ q.
    let path = c.args.path.now in
    let is : path ≡ [] = subst (λ (o : Option (Path × List ℕ)). MatchOption o (path ≡ []) (λ p. path ≡ p.0 ++ p.1 ∷ [])) c.in_default.is c.in_ok-parts.ensures in
    no-path q path (names_at c.args.index.now.entries q) is

pub returns : goal.returns
returns c = λ q.
    let path = c.args.path.now in
    let above = c.in-Some.parts.0 in
    let name = c.in-Some.parts.1 in
    let parts : path ≡ above ++ name ∷ [] =
    subst (λ (o : Option (Path × List ℕ)). MatchOption o (path ≡ []) (λ p. path ≡ p.0 ++ p.1 ∷ [])) c.in-Some.is c.in_ok-parts.ensures in
    add-name q path c.from_names.result above name c.args.index.now.entries c.add_name.new.index.entries parts c.from_names.ensures (c.in_ok-add_name.ensures q)
