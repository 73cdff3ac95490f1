use Rattle.hw_net.proofs.Goings.{send-goes}
use Rattle.hw_net.proofs.door.NetDoorDoor.send.Goals as goal

pub returns-clause-given : goal.returns-clause-given
returns-clause-given g c =
    rw (← c.self.view_is) (send-goes g.W.Wires.trace g.W.Wires.wires g.W.Wires.faults c.args.lane c.args.bytes.now c.args.text c.send.result c.self.inside.reactor c.send.new.self c.send.ensures.sent c.send.ensures.answer c.send.ensures.memory
    c.send.ensures.unchanged c.send.ensures.bound c.send.ensures.gathering)
