use Rattle.hd_calls.specs.Peers.{byte_steps}
use Rattle.hj_jobs.specs.Meaning.{meaning}
use Rattle.hub_machine.proofs.Lags.{at_once}
use Rattle.hub_machine.proofs.Looked.{end_looked}
use Rattle.hub_machine.proofs.peer_traffic.is_attached.Goals as goal

pub returns : goal.returns
returns g c = λ t h s.
    let hub = meaning g.H.Hub.begin_of g.H.Hub.step_of in
    let peer = c.args.peer.now in
    c.is_attached.ensures t.wire t.config (byte_steps t h)
    (end_looked {H = g.row.H.Denot} {Job = g.row.H-Job.Denot} hub t peer h (at_once {H = g.row.H.Denot} {Job = g.row.H-Job.Denot} hub t peer h s)
    _ c.end.ensures)
