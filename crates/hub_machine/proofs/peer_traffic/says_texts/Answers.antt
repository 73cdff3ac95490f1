use Rattle.std.proofs.Common.{◌∙◌, refl}
use Rattle.hm_message.specs.contracts.message.CodecPartialEq.TheImpl as codecs
use Rattle.hd_calls.specs.Peers.{byte_steps}
use Rattle.hj_jobs.specs.Meaning.{meaning}
use Rattle.hub_machine.proofs.Doing.{peer_is}
use Rattle.hub_machine.proofs.Lags.{at_once}
use Rattle.hub_machine.proofs.Looked.{end_looked}
use Rattle.hub_machine.proofs.RoundWritesText.{is_text_by}
use Rattle.hub_machine.proofs.peer_traffic.says_texts.Goals as goal

pub returns : goal.returns
returns g c = λ t h s is.
    let hub = meaning g.H.Hub.begin_of g.H.Hub.step_of in
    let peer = c.args.peer.now in
    c.ne.ensures
    ∙ is_text_by codecs.eq-value.it (record { other = refl; same = refl }) t.limits t.wire t.config (byte_steps t h)
    (peer_is {H = g.row.H.Denot} hub t peer h s).is_history is.side is.codec c.codec.result
    (c.codec.ensures.value t.wire t.config (byte_steps t h)
    (end_looked {H = g.row.H.Denot} {Job = g.row.H-Job.Denot} hub t peer h (at_once {H = g.row.H.Denot} {Job = g.row.H-Job.Denot} hub t peer h s)
    _ c.end.ensures))
