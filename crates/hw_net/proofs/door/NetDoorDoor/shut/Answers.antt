use Rattle.hw_net.proofs.Goings.{shut-goes}
use Rattle.hw_net.proofs.door.NetDoorDoor.shut.Goals as goal

pub returns-clause-given : goal.returns-clause-given
returns-clause-given g c =
    rw (← c.self.view_is) (shut-goes g.W.Wires.trace g.W.Wires.wires g.W.Wires.faults c.args.lane c.shut.result c.self.inside.reactor c.shut.new.self c.shut.ensures.shut c.shut.ensures.memory
    c.shut.ensures.unchanged c.shut.ensures.bound c.shut.ensures.gathering)
