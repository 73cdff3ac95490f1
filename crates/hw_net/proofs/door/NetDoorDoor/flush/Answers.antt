use Rattle.hw_net.proofs.Goings.{flush-goes}
use Rattle.hw_net.proofs.door.NetDoorDoor.flush.Goals as goal

pub returns-clause-goes : goal.returns-clause-goes
returns-clause-goes g c =
    rw (← c.self.view_is) (flush-goes g.W.Wires.trace g.W.Wires.wires g.W.Wires.faults c.self.inside.reactor c.write_gathered.new.self c.write_gathered.ensures.flushed c.write_gathered.ensures.bound c.write_gathered.ensures.gathering)
