use Rattle.std.proofs.Common.{◌∙◌, sym}
use Rattle.hd_calls.specs.Ids.{prefix_of}
use Rattle.hd_calls.specs.Tables.{call_happenings}
use Rattle.hp_peer.proofs.peer.Peer.drawn.Goals as goal

pub returns : goal.returns
returns g c = λ t h s. c.drawn.ensures (prefix_of t.config.side) (call_happenings h) s.calls ∙ sym (c.tables_agree.ensures t h).0.draws
