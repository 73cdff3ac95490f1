use Rattle.hw_net.proofs.DialerChaining.{calls-are-a-dialer-session}
use Rattle.hw_net.proofs.laws.dialer_calls_are_a_session.Goals as goal

pub returns : goal.returns
returns g c = calls-are-a-dialer-session g.W.Wires.trace g.W.Wires.wires g.W.Wires.faults
