use Rattle.std.proofs.Common.{sym, ◌∙◌}
use Rattle.hd_delivery.specs.Histories.{is_closed, is_shaken, present_link}
use Rattle.hd_calls.specs.Peers.{byte_steps, steps}
use Rattle.hp_peer.proofs.JobMoves.{shut_is}
use Rattle.hp_peer.proofs.peer.Peer.is_shut.Goals as goal

pub returns-in-Closed : goal.returns-in-Closed
returns-in-Closed g c = λ t h s.
    sym (shut_is (is_closed t.config (steps t h)) (is_shaken (steps t h)) (present_link (steps t h)) (sym (c.state.ensures t.wire t.config (byte_steps t h) s.end) ∙ c.in-Closed.is))
