use Rattle.std.proofs.Common.{ap, not}
use Rattle.hd_delivery.specs.Histories.{is_resumable}
use Rattle.hd_calls.specs.Peers.{byte_steps, is_shut, steps}
use Rattle.hj_jobs.specs.Meaning.{meaning}
use Rattle.hub_machine.proofs.Lags.{at_once}
use Rattle.hub_machine.proofs.Looked.{end_looked, open_then, shut_then}
use Rattle.hub_machine.proofs.peer_traffic.may_resume.Goals as goal

pub returns-then-not-is_over : goal.returns-then-not-is_over
returns-then-not-is_over g c = λ t h s.
    let hub = meaning g.H.Hub.begin_of g.H.Hub.step_of in
    let peer = c.args.peer.now in
    open_then _ (is_shut t h) (is_resumable t.config (steps t h)) c.is_resumable.result (ap not (c.is_over.ensures t h s)) (ap not c.if-not-is_over.true)
    (c.is_resumable.ensures t.wire t.config (byte_steps t h)
    (end_looked {H = g.row.H.Denot} {Job = g.row.H-Job.Denot} hub t peer h (at_once {H = g.row.H.Denot} {Job = g.row.H-Job.Denot} hub t peer h s)
    _ c.end.ensures))
