use Rattle.std.proofs.Common.{◌∙◌, refl}
use Rattle.hd_delivery.specs.contracts.vocabulary.StatePartialEq.TheImpl as states
use Rattle.hd_calls.specs.Peers.{byte_steps}
use Rattle.hj_jobs.specs.Meaning.{meaning}
use Rattle.hub_machine.proofs.Lags.{at_once}
use Rattle.hub_machine.proofs.Looked.{end_looked, is_shut_by}
use Rattle.hub_machine.proofs.peer_traffic.is_over.Goals as goal

pub returns : goal.returns
returns g c = λ t h s.
    let hub = meaning g.H.Hub.begin_of g.H.Hub.step_of in
    let peer = c.args.peer.now in
    let l = at_once {H = g.row.H.Denot} {Job = g.row.H-Job.Denot} hub t peer h s in
    c.eq.ensures
    ∙ is_shut_by {H = g.row.H.Denot} {Job = g.row.H-Job.Denot} hub t peer h l states.eq-value.it
    (record { closed = refl; opening = refl; away = refl; ready = refl }) c.state.result
    (c.state.ensures t.wire t.config (byte_steps t h)
    (end_looked {H = g.row.H.Denot} {Job = g.row.H-Job.Denot} hub t peer h l _ c.end.ensures))
