use Rattle.std.proofs.Common.{◌∙◌, refl}
use Rattle.hm_message.specs.contracts.message.CodecPartialEq.TheImpl as codecs
use Rattle.hd_calls.specs.Peers.{byte_steps}
use Rattle.sr_client.proofs.Chains.{history_of}
use Rattle.sr_client.proofs.Looks.{end_stands}
use Rattle.sr_client.proofs.Texts.{is_text_by}
use Rattle.sr_client.proofs.peer.ClientPeer.is_text.Goals as goal

pub returns : goal.returns
returns c = λ t h plays.
    c.ne.ensures
    ∙ is_text_by codecs.eq-value.it (record { other = refl; same = refl }) t.limits t.wire t.config (byte_steps t h)
    (history_of t c.args.self.now h plays.on) plays.on.side c.codec.result
    (c.codec.ensures.value t.wire t.config (byte_steps t h) (end_stands t c.args.self.now h _ plays c.end.ensures))
