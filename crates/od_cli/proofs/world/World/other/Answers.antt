use Rattle.std.proofs.Common.{refl, sym, ◌∙◌}
use Rattle.gd_item.specs.declared.step.Who.TheVariants.{Other}
use Rattle.od_cli.proofs.Worlds.{after-want, logged}
use Rattle.od_cli.proofs.world.World.other.Goals as goal

pub invariant_of-self-then-is_want_of_memory : goal.invariant_of-self-then-is_want_of_memory
invariant_of-self-then-is_want_of_memory c =
    after-want c.self.inside.drive c.handle-reply.new.self c.self.inside.log.items c.reserve.new.self.items c.handle-reply.result c.self.invariant c.handle-reply.ensures.refusal (sym c.is_want_of_memory.ensures ∙ c.if-is_want_of_memory.true) c.reserve.ensures.items

pub invariant_of-self-2 : goal.invariant_of-self-2
invariant_of-self-2 c =
    logged c.self.inside.drive c.handle-reply.new.self c.self.inside.log.items c.args.request c.handle-reply.result c.self.invariant c.handle-reply.ensures.answer (sym c.is_want_of_memory.ensures ∙ c.if-is_want_of_memory.false)
    Other c.reserve.new.self.items c.push_reserved.new.self.items c.heard_step.result c.args.request c.reserve.ensures.items refl c.heard_step.ensures c.push_reserved.ensures.items
