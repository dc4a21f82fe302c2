use Rattle.std.proofs.Common.{[], ◌∷◌, ◌++◌, ap, ◌∙◌, refl, subst, arith}
use Rattle.gd_item.specs.Steps.{state_of}
use Rattle.gd_item.specs.declared.reply.Reply.TheVariants as reply
use Rattle.gd_item.specs.declared.request.Request.TheVariants.{Delta}
use Rattle.gd_item.specs.declared.step.Step.{Step}
use Rattle.gd_item.specs.declared.step.Who.TheVariants.{Own}
use Rattle.od_cli.specs.Worlds.{WorldValue, IsOwnReply}
use Rattle.od_cli.proofs.Worlds.{after-delta, delta-reply, heard-is}
use Rattle.od_cli.proofs.world.World.own_delta.Goals as goal

pub invariant_of-self-in-Ok-page : goal.invariant_of-self-in-Ok-page
invariant_of-self-in-Ok-page c =
    after-delta c.self.inside.drive c.self.inside.log.items c.reserve.new.self.items c.push_reserved.new.self.items Own c.args.token.now c.in-Ok.sent c.heard_step.result c.self.invariant c.in-Ok-reserve.ensures.items (c.in-Ok.ensures ∙ c.as_ref.ensures.value)
    c.heard_step.ensures c.push_reserved.ensures.items

pub returns-in-Ok-page-clause-ok : goal.returns-in-Ok-page-clause-ok
returns-in-Ok-page-clause-ok c =
    let P : WorldValue → Type 0 = λ w. IsOwnReply (state_of w.log) (Delta c.args.token.now) (reply.Page c.in-Ok-page.page) in (
      subst P c.self.view_is
          (delta-reply c.self.inside.drive c.self.inside.log.items c.store.result.now c.args.token.now _ 18446744073709551615 c.in-Ok-page.page c.self.invariant c.store.ensures c.as_ref-2.ensures.value (omega arith)
          c.in-Ok-page.ensures.answer (c.in-Ok-page.ensures.last refl)),
      heard-is c.args.self.now c.self.inside.log.items c.reserve.new.self.items c.push_reserved.new.self.items c.self.inside.drive.size c.self.inside.drive.size c.self.inside.faults c.self.inside.answers c.saturating_add-self-inside.result c.self.inside.in_row (Delta c.in-Ok.sent) (Delta c.args.token.now)
          c.self.view_is refl c.in-Ok-reserve.ensures.items (c.push_reserved.ensures.items ∙ ap (λ (s : Step). c.reserve.new.self.items ++ s ∷ []) c.heard_step.ensures) (ap Delta (c.in-Ok.ensures ∙ c.as_ref.ensures.value)) c.saturating_add-self-inside.ensures,
    )
