-- Two peers: what delivery and calls once ask for is what each peer stands for.
use Rattle.std.proofs.Common.{◌≡◌, ◌≤◌, ◌∙◌, ℕ, List, [], sym, subst, arith}
use Rattle.hm_message.specs.declared.message.Codec.{Codec}
use Rattle.hm_codec.specs.Laws.{ErrorsAreShort}
use Rattle.hd_delivery.specs.declared.vocabulary.Side.{Side}
use Rattle.hd_delivery.specs.declared.vocabulary.Side.TheVariants.{Client, Server}
use Rattle.hd_delivery.specs.Histories.{codec_of, sent_messages}
use Rattle.hd_delivery.specs.Worlds.{Limits, Event, config, client_of, server_of}
use Rattle.hd_delivery.specs.Laws.{AreReadAsSent}
use Rattle.hs_shake.specs.Requests.{IsVersion}
use Rattle.he_wire.specs.Wires.{IsHouseWire, AreSaid}
use Rattle.he_wire.specs.Laws.{WireIsFaithful, shortest_limit}
use Rattle.he_end.specs.Stands.{limits_of}
use Rattle.hd_calls.specs.Hubs.{Hub}
use Rattle.hd_calls.specs.Ids.{IdsAreDrawn, id_at}
use Rattle.hd_calls.specs.Laws.{HoldsAsSent}
use Rattle.hd_calls.specs.Peers.{PeerEvent, steps}
use Rattle.hd_calls.specs.PeerWorlds.{AreApart, BothOnce, Pair, settings}
use Rattle.hp_peer.specs.declared.peer.Peer.{Peer}
use Rattle.hp_peer.specs.Stands.{Stands}
use Rattle.hp_peer.specs.Laws.{AllEnd, CallOnce, IsWorldOf}
use Rattle.hp_peer.proofs.LastWords.{has_last_words}

none_said : (codec : Codec) → AreSaid codec []
none_said codec m at = let lt = at.1 in absurd (omega arith)

module _ {C S ClientJob ServerJob : Type 0} (hc : Hub ClientJob) (hs : Hub ServerJob) (client : Peer C ClientJob) (server : Peer S ServerJob) where
  -- the ids of both are drawn, and so apart
  named : (p : Pair) (w : List (Event PeerEvent)) → IsWorldOf {C = C} {S = S} hc hs client server p w → (side : Side) (n : ℕ) → p.name side n ≡ id_at side n
  named p w x Client n = x.client_stands.names n
  named p w x Server n = x.server_stands.names n

  apart : IdsAreDrawn → (p : Pair) (w : List (Event PeerEvent)) → IsWorldOf {C = C} {S = S} hc hs client server p w → AreApart p.name
  apart drawn p w x = record {
    own = λ side m n e. drawn.apart.own side m n (sym (named p w x side m) ∙ e ∙ named p w x side n);
    across = λ m n e. drawn.apart.across m n (sym (named p w x Client m) ∙ e ∙ named p w x Server n);
  }

  -- the wire of the two, within the limit of this side's peer
  house_of : {H Job : Type 0} (hub : Hub Job) (peer : Peer H Job) → (side : Side) (p : Pair) (h : List PeerEvent) → Stands {H = H} hub (settings side p) peer h
      → IsHouseWire (p.limits side).frame p.wire
  house_of hub peer side p h stands = subst (λ (l : Limits). IsHouseWire l.frame p.wire) (sym stands.limits) stands.end.house

  room_of : {H Job : Type 0} (hub : Hub Job) (peer : Peer H Job) → shortest_limit ≤ (limits_of peer.end).frame → (side : Side) (p : Pair) (h : List PeerEvent)
      → Stands {H = H} hub (settings side p) peer h → shortest_limit ≤ (p.limits side).frame
  room_of hub peer room side p h stands = subst (λ (l : Limits). shortest_limit ≤ l.frame) (sym stands.limits) room

  -- what an end sent is read as it was sent, within its own limits
  read_as_sent : {H Job : Type 0} (hub : Hub Job) (peer : Peer H Job) → WireIsFaithful → shortest_limit ≤ (limits_of peer.end).frame → (side : Side) (p : Pair) (h : List PeerEvent)
      → IsVersion p.terms.version → Stands {H = H} hub (settings side p) peer h → AreReadAsSent (p.limits side) p.wire (config side p.terms) (steps (settings side p) h)
  read_as_sent {H = H} hub peer faithful room side p h spoken stands =
      let house = house_of {H = H} hub peer side p h stands in
      let short = room_of {H = H} hub peer room side p h stands in
      let k = steps (settings side p) h in
      (faithful (p.limits side) p.wire (codec_of (config side p.terms) k) p.terms.version (sent_messages k) short spoken stands.end.said house).message

  -- the last word for each call can be sent, so each ends
  all_end : ErrorsAreShort → IdsAreDrawn → shortest_limit ≤ (limits_of client.end).frame → shortest_limit ≤ (limits_of server.end).frame → (p : Pair) (w : List (Event PeerEvent))
      → IsWorldOf {C = C} {S = S} hc hs client server p w → BothOnce hc hs p w → AllEnd p w
  all_end errors ids room there p w x once = record {
    of_client = once.client_ended (has_last_words hc errors ids Client (settings Server p) (settings Client p) (server_of w) (client_of w) (named p w x Client) x.client_stands.follows
        (house_of {H = S} hs server Server p (server_of w) x.server_stands) (room_of {H = S} hs server there Server p (server_of w) x.server_stands));
    of_server = once.server_ended (has_last_words hs errors ids Server (settings Client p) (settings Server p) (client_of w) (server_of w) (named p w x Server) x.server_stands.follows
        (house_of {H = C} hc client Client p (client_of w) x.client_stands) (room_of {H = C} hc client room Client p (client_of w) x.client_stands));
  }

  pub call_once : HoldsAsSent ClientJob ServerJob → IdsAreDrawn → ErrorsAreShort → WireIsFaithful → shortest_limit ≤ (limits_of client.end).frame → shortest_limit ≤ (limits_of server.end).frame
      → CallOnce {C = C} {S = S} hc hs client server
  call_once once drawn errors faithful room there p w x =
      let both = once hc hs p w
      (apart drawn p w x)
      (faithful (p.limits Client) p.wire p.terms.codec p.terms.version [] (room_of {H = C} hc client room Client p (client_of w) x.client_stands) x.version
      (none_said p.terms.codec) (house_of {H = C} hc client Client p (client_of w) x.client_stands))
      (read_as_sent {H = C} hc client faithful room Client p (client_of w) x.version x.client_stands)
      (read_as_sent {H = S} hs server faithful there Server p (server_of w) x.version x.server_stands)
      (record {
        is_world = x.world;
        client_follows = x.client_stands.follows;
        server_follows = x.server_stands.follows;
        client_prompt = x.client_stands.prompt;
        server_prompt = x.server_stands.prompt;
      }) in
      (both.0, both.1, all_end errors drawn room there p w x both.1)
