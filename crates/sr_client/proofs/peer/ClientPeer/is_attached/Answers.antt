use Rattle.hd_calls.specs.Peers.{byte_steps}
use Rattle.sr_client.proofs.Looks.{end_stands}
use Rattle.sr_client.proofs.peer.ClientPeer.is_attached.Goals as goal

pub returns : goal.returns
returns c = λ t h plays. c.is_attached.ensures t.wire t.config (byte_steps t h) (end_stands t c.args.self.now h _ plays c.end.ensures)
