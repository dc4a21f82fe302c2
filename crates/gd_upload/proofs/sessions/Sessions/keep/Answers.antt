use Rattle.std.proofs.Common.{◌≤◌, ◌+◌, length, sym, subst}
use Rattle.gd_item.specs.Sessions.{held_bytes}
use Rattle.gd_upload.specs.Stands.{SessionsValue}
use Rattle.gd_upload.proofs.Writing.{kept-within}
use Rattle.gd_upload.proofs.sessions.Sessions.keep.Goals as goal

pub invariant_of-self : goal.invariant_of-self
invariant_of-self c =
    let light : held_bytes c.self.inside.living.items + length c.args.bytes.now ≤ 536870912 =
    subst (λ (v : SessionsValue). held_bytes v.living + length c.args.bytes.now ≤ 536870912) (sym c.self.view_is) c.requires in
    kept-within c.args.session c.args.total c.self.inside.begun c.self.inside.living.len c.args.bytes.now c.self.inside.living.items c.as_mut_slice.result.now c.append.new.sessions _ c.append.result
    c.as_mut_slice.ensures.value c.as_mut_slice.ensures.len c.append.ensures.ok c.append.ensures.err c.self.invariant light
