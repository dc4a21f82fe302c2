use Rattle.std.proofs.Common.{[], ◌∷◌, ◌++◌, sym, ap, ◌∙◌, subst}
use Rattle.gd_item.specs.Steps.{state_of}
use Rattle.gd_item.specs.declared.step.Step.{Step}
use Rattle.gd_item.specs.declared.step.Who.TheVariants.{Own}
use Rattle.od_cli.specs.Worlds.{WorldValue, IsOwnReply}
use Rattle.od_cli.proofs.Worlds.{after-want, heard-is, logged, replied}
use Rattle.od_cli.proofs.world.World.own_other.Goals as goal

pub invariant_of-self-then-is_want_of_memory : goal.invariant_of-self-then-is_want_of_memory
invariant_of-self-then-is_want_of_memory c =
    after-want c.self.inside.drive c.handle-reply.new.self c.self.inside.log.items c.reserve.new.self.items c.handle-reply.result c.self.invariant c.handle-reply.ensures.refusal (sym c.is_want_of_memory.ensures ∙ c.if-is_want_of_memory.true) c.reserve.ensures.items

pub returns-clause-ok : goal.returns-clause-ok
returns-clause-ok c =
    let P : WorldValue → Type 0 = λ w. IsOwnReply (state_of w.log) c.args.request.now c.handle-reply.result in (
      subst P c.self.view_is
          (replied c.self.inside.drive c.handle-reply.new.self c.self.inside.log.items c.args.request.now c.handle-reply.result c.self.invariant c.handle-reply.ensures.answer
          (sym c.is_want_of_memory.ensures ∙ c.if-is_want_of_memory.false) c.requires),
      heard-is c.args.self.now c.self.inside.log.items c.reserve.new.self.items c.push_reserved.new.self.items c.self.inside.drive.size c.handle-reply.new.self.size c.self.inside.faults c.self.inside.answers c.saturating_add-self-inside.result c.self.inside.in_row c.in-Ok.sent c.args.request.now
          c.self.view_is c.handle-reply.ensures.size c.reserve.ensures.items (c.push_reserved.ensures.items ∙ ap (λ (s : Step). c.reserve.new.self.items ++ s ∷ []) c.heard_step.ensures) c.in-Ok.ensures.cases c.saturating_add-self-inside.ensures,
    )

pub invariant_of-self-2 : goal.invariant_of-self-2
invariant_of-self-2 c =
    logged c.self.inside.drive c.handle-reply.new.self c.self.inside.log.items c.args.request.now c.handle-reply.result c.self.invariant c.handle-reply.ensures.answer (sym c.is_want_of_memory.ensures ∙ c.if-is_want_of_memory.false)
    Own c.reserve.new.self.items c.push_reserved.new.self.items c.heard_step.result c.in-Ok.sent c.reserve.ensures.items c.in-Ok.ensures.cases c.heard_step.ensures c.push_reserved.ensures.items
