use Rattle.std.proofs.Common.{◌≡◌, ◌∙◌, ◌∷◌, true, sym, take, arith}
use Rattle.hd_delivery.specs.Bytes.{Bytes}
use Rattle.hd_calls.specs.Peers.{Plain}
use Rattle.hd_server.specs.Serves.{can_feed}
use Rattle.sr_client.proofs.Fed.{fed_on, fed_there, none_fed, piece_taken}
use Rattle.sr_client.proofs.peer.ClientPeer.feed_piece.Goals as goal

pub returns-then-not-can_feed : goal.returns-then-not-can_feed
returns-then-not-can_feed c = record {
  within = omega arith;
  fed = λ t h plays.
      none_fed t h c.args.self.now c.args.now c.args.bytes.now c.args.out.now.items plays (sym (c.can_feed.ensures t h plays) ∙ c.if-not-can_feed.true);
}

pub returns-clause-fed : goal.returns-clause-fed
returns-clause-fed c = λ t h plays.
    let bytes = c.args.bytes.now in
    let count = c.feed-fed.result in
    let can : can_feed t h ≡ true = sym (c.can_feed.ensures t h plays) ∙ c.if-not-can_feed.false in
    let at = fed_there t h can in
    let fed = c.feed-fed.ensures.fed t h plays.on.stands at.0 at.1 at.2 in
    piece_taken c.taken_has_room.ensures c.wire_is_sound.ensures t h c.args.self.now plays bytes count at.0 at.1 at.2
    (c.feed-fed.ensures.count t h plays.on.stands at.0 at.1 at.2) c.take_all.new.self c.args.now c.args.out.now.items c.take_all.new.out.items can
    (c.in_ok-take_all.ensures t (Plain (Bytes (take count bytes)) ∷ h) (fed_on t c.args.self.now h (take count bytes) c.feed-fed.new.self plays fed))
