use Rattle.std.proofs.Common.{rules, List, ap, sym, ◌∙◌, subst}
use Rattle.std.proofs.lemmas.Fn.{filter_same}
use Rattle.gd_item.specs.Sessions.{Session, without_session}
use Rattle.gd_upload.specs.Stands.{SessionsValue, IsWithin}
use Rattle.gd_upload.proofs.Writing.{within-without}
use Rattle.gd_upload.proofs.sessions.Sessions.remove.Goals as goal

pub invariant_of-self : goal.invariant_of-self
invariant_of-self c =
    subst (λ xs. IsWithin xs c.self.inside.begun) (sym (filter_same _ _ _ (λ x b f' k. search rules) _ _ c.retain.ensures.filtered))
    (within-without c.args.session c.self.inside.begun c.self.inside.living.items c.self.invariant)

pub returns : goal.returns
returns c =
    let at : List Session → SessionsValue = λ xs. record { living = xs; begun = c.self.inside.begun } in
    ap at (filter_same _ _ _ (λ x b f' k. search rules) _ _ c.retain.ensures.filtered)
    ∙ ap (λ (v : SessionsValue). record { living = without_session c.args.session v.living; begun = v.begun }) c.self.view_is
