-- The kinds of requests, one after the other.
use Rattle.std.proofs.Common.{◌≡◌, ℕ, ◌+◌, ◌<◌, List, ◌∷◌, ◌++◌, length, drop, get_or, sym, ap, ◌∙◌, append_assoc}
use Rattle.std.proofs.lemmas.List.{drop_more}
use Rattle.std.specs.List.{flat_map}
use Rattle.gd_item.specs.declared.request.RequestKind.{RequestKind}

pub next-kind : (text : RequestKind → List ℕ) (out more whole : List ℕ) (kinds : List RequestKind) (i : ℕ) (kind other : RequestKind) → i < length kinds → kind ≡ get_or kinds i other → more ≡ out ++ text kind
    → out ++ flat_map text (drop i kinds) ≡ whole → more ++ flat_map text (drop (i + 1) kinds) ≡ whole
next-kind text out more whole kinds i kind other inside is printed before =
    let rest : List RequestKind = drop (i + 1) kinds in
    let cut : drop i kinds ≡ kind ∷ rest = drop_more kinds i other inside ∙ ap (λ (k : RequestKind). k ∷ rest) (sym is) in
    ap (λ p. p ++ flat_map text rest) printed ∙ append_assoc out (text kind) (flat_map text rest) ∙ ap (λ (ks : List RequestKind). out ++ flat_map text ks) (sym cut) ∙ before
