use Rattle.std.proofs.Common.{◌∙◌, refl}
use Rattle.hd_delivery.specs.contracts.vocabulary.StatePartialEq.TheImpl as states
use Rattle.hd_calls.specs.Peers.{byte_steps, steps}
use Rattle.sr_client.proofs.Looks.{closed_by, end_stands}
use Rattle.sr_client.proofs.peer.ClientPeer.is_closed.Goals as goal

pub returns : goal.returns
returns c = λ t h plays.
    c.eq.ensures
    ∙ closed_by states.eq-value.it (record { closed = refl; opening = refl; away = refl; ready = refl }) t.config (steps t h) c.state.result
    (c.state.ensures t.wire t.config (byte_steps t h) (end_stands t c.args.self.now h _ plays c.end.ensures))
