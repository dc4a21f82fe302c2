use Rattle.od_cli.proofs.Worlds.{after-event}
use Rattle.od_cli.proofs.world.World.event.Goals as goal

pub invariant_of-self-2 : goal.invariant_of-self-2
invariant_of-self-2 c =
    after-event c.self.inside.drive c.event.new.self c.self.inside.log.items c.reserve.new.self.items c.push_reserved.new.self.items c.args.event c.self.invariant c.requires c.event.ensures.stands c.in_ok-reserve.ensures.items
    c.push_reserved.ensures.items
