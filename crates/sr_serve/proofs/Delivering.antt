-- Each connection of a server is a side that delivers: what it sent is read as it was sent, since it was said by its frame.
use Rattle.std.proofs.Common.{◌≡◌, ℕ, ◌≤◌, Bool, true, false, List, [], ◌∷◌, refl, sym, ap, subst, ◌∙◌, arith}
use Rattle.std.specs.Prelude.{Contains}
use Rattle.hm_message.specs.declared.message.Message.{Message}
use Rattle.hd_delivery.specs.declared.vocabulary.Got.TheVariants.{Shaken}
use Rattle.hd_delivery.specs.declared.vocabulary.Side.{Side}
use Rattle.hd_delivery.specs.declared.vocabulary.Side.TheVariants.{Client, Server}
use Rattle.hd_delivery.specs.Frames.{Numbered}
use Rattle.hd_delivery.specs.Histories.{Config, EndEvent, Took, codec_of, is_shaken, sent_messages}
use Rattle.hd_delivery.specs.Worlds.{Limits, CanBeSent, Terms, Event, config, client_of}
use Rattle.hd_delivery.specs.Bytes.{Wire, ByteStep, IsFaithful, IsRead, IsWorldOverBytes, bare_steps, client_in_frames, in_frames, sizes_of}
use Rattle.hd_delivery.specs.Laws.{AreReadAsSent, FedIsUnseen, HoldsAsSent}
use Rattle.hd_delivery.specs.HistoryLaws.{FactsHold, SentCanBeSent, WorldsAreHistories}
use Rattle.hd_calls.specs.Hubs.{Hub}
use Rattle.hd_calls.specs.Peers.{PeerEvent, Settings, byte_steps, codec, steps}
use Rattle.hd_calls.specs.Rules.{IsPeer}
use Rattle.he_wire.specs.Wires.{IsHouseWire}
use Rattle.he_wire.specs.Laws.{WireIsFaithful, shortest_limit}
use Rattle.hd_server.specs.Doings.{ServerEvent, work}
use Rattle.hd_server.specs.Machine.{ArePeers, moves}
use Rattle.hd_server.specs.Numbers.{most_frame}
use Rattle.hd_server.specs.Plans.{Setup}
use Rattle.hub_server.specs.Resend.{ResendLimits}
use Rattle.hub_server.specs.Servers.{AreSpeakers, IsSetup, IsSpeaker}
use Rattle.sr_serve.specs.Sides.{AreSides, Delivers}

-- what the proof stands on
pub record Laws : Type 0 where
  pub delivery : HoldsAsSent
  pub facts : FactsHold
  pub unseen : FedIsUnseen
  pub sendable : SentCanBeSent
  pub histories : WorldsAreHistories
  pub faithful : WireIsFaithful

pub laws_of : HoldsAsSent → FactsHold → FedIsUnseen → SentCanBeSent → WorldsAreHistories → WireIsFaithful → Laws
laws_of delivery facts unseen sendable histories faithful = record {
  delivery = delivery;
  facts = facts;
  unseen = unseen;
  sendable = sendable;
  histories = histories;
  faithful = faithful;
}

none_sent : (m : Message) → Contains [] m → ⊥
none_sent m at = let lt = at.1 in absurd (omega arith)

-- an end that has taken the handshake speaks the codec of the handshake, however it was begun
codec_same : (c d : Config) (h : List EndEvent) → is_shaken h ≡ true → codec_of c h ≡ codec_of d h
codec_same c d [] e = absurd (cc)
codec_same c d (Took (Shaken k v) ∷ h) e = refl
codec_same c d (_ ∷ h) e = codec_same c d h e

-- ---- the client's half

module _ (laws : Laws) (limits : Side → Limits) (wire : Wire) (terms : Terms) (w : List (Event ByteStep)) (world : IsWorldOverBytes limits wire terms w)
    (half : IsFaithful (limits Client) wire terms.codec terms.version (sent_messages (client_in_frames wire terms w))) where
  of_none : IsFaithful (limits Client) wire terms.codec terms.version []
  of_none = record {
    request = half.request;
    response = half.response;
    message = λ m at can. absurd (none_sent m at);
    ack = half.ack;
    sequence = half.sequence;
    ping = half.ping;
    close = half.close;
  }

  client_codec : codec_of (config Client terms) (client_in_frames wire terms w) ≡ terms.codec
  client_codec =
      (laws.facts (limits Client) wire (config Client terms) (client_of w) (laws.histories limits wire terms w world).0).client_has_its_codec refl

  client_read : AreReadAsSent (limits Client) wire (config Client terms) (client_in_frames wire terms w)
  client_read m at can =
      subst (λ k. IsRead (wire.later k) (wire.spell k (Numbered m)) (Numbered m)) (sym client_codec)
      (half.message m at (subst (λ k. CanBeSent (limits Client) (sizes_of wire) k m) client_codec can))

-- ---- the server's half

module _ {Job : Type 0} (laws : Laws) (hub : Hub Job) (s : Setup) (base : List ℕ) (resend : ResendLimits) (live : ℕ) (setup : IsSetup s base resend live)
    (t : Settings) (ms : List PeerEvent) (peer : IsPeer hub t ms) (speaker : IsSpeaker s t ms) where
  frame_is : t.limits.frame ≡ most_frame
  frame_is = ap (λ (l : Limits). l.frame) speaker.begun.limits ∙ ap (λ (x : Setup). x.limits.frame) setup.given

  house : IsHouseWire t.limits.frame t.wire
  house = subst (λ n. IsHouseWire n t.wire) (sym frame_is) (subst (λ x. IsHouseWire most_frame x) (sym speaker.begun.wire) setup.wire)

  -- a message that it sent, in the codec that it speaks
  own_read : (m : Message) → Contains (sent_messages (steps t ms)) m → IsRead (t.wire.later (codec t ms)) (t.wire.spell (codec t ms) (Numbered m)) (Numbered m)
  own_read m at =
      let room : shortest_limit ≤ t.limits.frame = omega (arith, frame_is) in
      let all = laws.faithful t.limits t.wire (codec t ms) 1 (sent_messages (steps t ms)) room (omega arith, omega arith) speaker.said house in
      all.message m at (laws.sendable t.limits t.wire t.config (byte_steps t ms) peer.is_history m at)

  shaken : (m : Message) → Contains (sent_messages (steps t ms)) m → is_shaken (steps t ms) ≡ true
  shaken m at = go (is_shaken (steps t ms)) refl
    where
      go : (b : Bool) → is_shaken (steps t ms) ≡ b → b ≡ true
      go true e = refl
      go false e =
          let none = (laws.facts t.limits t.wire t.config (byte_steps t ms) peer.is_history).unshaken_sent_none e in
          absurd (none_sent m (subst (λ xs. Contains xs m) none at))

  -- the same however the end was begun, since it has taken the handshake
  read_by : (limits : Limits) (c : Config) → AreReadAsSent limits t.wire c (in_frames t.wire c (byte_steps t ms))
  read_by limits c m at can =
      let own = laws.unseen t.wire t.config (byte_steps t ms) in
      let other = laws.unseen t.wire c (byte_steps t ms) in
      let there : Contains (sent_messages (steps t ms)) m = subst (λ xs. Contains xs m) (other.sends ∙ sym own.sends) at in
      let bare : is_shaken (bare_steps (byte_steps t ms)) ≡ true = sym own.shakes ∙ shaken m there in
      let same : codec t ms ≡ codec_of c (in_frames t.wire c (byte_steps t ms)) =
      own.codec ∙ codec_same t.config c (bare_steps (byte_steps t ms)) bare ∙ sym other.codec in
      subst (λ k. IsRead (t.wire.later k) (t.wire.spell k (Numbered m)) (Numbered m)) same (own_read m there)

  delivers : Delivers t ms
  delivers limits terms w side half world =
      laws.delivery limits t.wire terms w (of_none laws limits t.wire terms w world half) (client_read laws limits t.wire terms w world half)
      (subst (λ x. AreReadAsSent (limits Server) t.wire (config Server terms) (in_frames t.wire (config Server terms) x)) (sym side)
      (read_by (limits Server) (config Server terms))) world

-- connections whose peers did what a peer can do, and sent what its frames say, are sides
pub are_sides : {Job : Type 0} → Laws → (hub : Hub Job) (s : Setup) (base : List ℕ) (resend : ResendLimits) (live : ℕ) → IsSetup s base resend live
    → (h : List ServerEvent) → ArePeers hub (work h) → AreSpeakers s h → AreSides hub h
are_sides laws hub s base resend live setup h peers speakers = record {
  peers = peers;
  deliver = λ c t is. delivers laws hub s base resend live setup t (moves c (work h)) (peers c t is) (speakers c t is);
}
