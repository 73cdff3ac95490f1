use Rattle.std.proofs.Common.{◌≡◌, ◌∙◌, ◌∷◌, true, sym, take}
use Rattle.hd_delivery.specs.Bytes.{Bytes}
use Rattle.hd_calls.specs.Peers.{Plain}
use Rattle.hd_server.specs.Serves.{can_feed}
use Rattle.hj_jobs.specs.Meaning.{meaning}
use Rattle.hub_machine.proofs.FeedPieces.{fed_there, piece_taken}
use Rattle.hub_machine.proofs.peer_traffic.feed_piece.Goals as goal

pub returns-clause-fed : goal.returns-clause-fed
returns-clause-fed g c = λ t h s clear.
    let hub = meaning g.H.Hub.begin_of g.H.Hub.step_of in
    let bytes = c.args.bytes.now in
    let count = c.feed-fed.result in
    let can : can_feed t h ≡ true = sym (c.can_feed.ensures t h s) ∙ c.if-not-can_feed.false in
    let at = fed_there t h can in
    piece_taken c.taken_has_room.ensures c.wire_is_sound.ensures {H = g.row.H.Denot} {Job = g.row.H-Job.Denot} hub t h c.args.peer.now s clear bytes
    count at.0 at.1 at.2 (c.feed-fed.ensures.count t h s at.0 at.1 at.2) c.take_all.new.peer c.args.now can
    (c.in_ok-take_all.ensures t (Plain (Bytes (take count bytes)) ∷ h) (c.feed-fed.ensures.fed t h s at.0 at.1 at.2))
