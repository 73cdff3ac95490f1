use Rattle.hw_net.proofs.Goings.{reply-goes}
use Rattle.hw_net.proofs.door.NetDoorDoor.reply.Goals as goal

pub returns-clause-given : goal.returns-clause-given
returns-clause-given g c =
    rw (← c.self.view_is) (reply-goes g.W.Wires.trace g.W.Wires.wires g.W.Wires.faults c.args.lane c.args.reply c.reply.result c.self.inside.reactor c.reply.new.self c.reply.ensures.replied c.reply.ensures.memory
    c.reply.ensures.unchanged c.reply.ensures.bound c.reply.ensures.gathering)
