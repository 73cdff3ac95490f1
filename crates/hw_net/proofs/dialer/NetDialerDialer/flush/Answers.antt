use Rattle.std.proofs.Common.{refl}
use Rattle.hw_net.proofs.Dialing.{flush-on}
use Rattle.hw_net.proofs.dialer.NetDialerDialer.flush.Goals as goal

pub returns-clause-goes : goal.returns-clause-goes
returns-clause-goes g c =
    let d = c.self.inside in
    let w = c.write_gathered.ensures in
    rw (← c.self.view_is) (flush-on g.W.Wires.trace g.W.Wires.wires g.W.Wires.faults (record { reactor = d.reactor; addresses = d.addresses.items; numbers = d.numbers.items; failed = d.failed.items; last = d.last })
    (record { reactor = c.write_gathered.new.self; addresses = d.addresses.items; numbers = d.numbers.items; failed = d.failed.items; last = d.last }) w.flushed w.bound w.gathering (refl, refl, refl, refl))
