-- What each end's own messages are in its own codec is enough for delivery over bytes.
use Rattle.std.proofs.Common.{⊎_elim, ◌≡◌, ℕ, Bool, true, false, List, [], ◌∷◌, ◌++◌, Option, Some, None, refl, sym, ap, ◌∙◌, subst, arith, ◌+◌}
use Rattle.std.specs.Prelude.{Contains, slice_get, option_map, ◌==◌, nat_le, length, suc}
use Rattle.std.proofs.lemmas.List.Elements.{Contains-append_left, Contains-append_right, Contains-append_cases}
use Rattle.hm_message.specs.declared.message.Message.{Message}
use Rattle.hm_message.specs.declared.message.Codec.{Codec}
use Rattle.hd_delivery.specs.declared.vocabulary.Got.TheVariants.{Shaken}
use Rattle.hd_delivery.specs.declared.vocabulary.Side.{Side}
use Rattle.hd_delivery.specs.declared.vocabulary.Side.TheVariants.{Client, Server}
use Rattle.hd_delivery.specs.Frames.{LinkFrame, Numbered, Ack, Sequence, Ping, Close, Foreign, Unreadable}
use Rattle.hd_delivery.specs.Histories.{Config, EndEvent, Took, Sent, present_link, sent_messages, is_shaken, is_resumable, is_three, is_closed, codec_of, most_lent, processed_messages, fed_frames, taken_count}
use Rattle.hd_delivery.specs.Processes.{reads_message, reads_frame, reads, next_frame, next_number, processes}
use Rattle.hd_delivery.specs.Numbers.{most_messages}
use Rattle.hd_delivery.specs.Worlds.{Limits, CanBeSent, Terms, config, Event, ByClient, ByServer, client_of, server_of}
use Rattle.hd_delivery.specs.Bytes.{Wire, sizes_of, IsRead, IsFaithful, ByteStep, Bytes, Does, in_frames, client_in_frames, server_in_frames, AllowedOverBytes, IsWorldOverBytes, DeliveryOverBytes}
use Rattle.hd_delivery.specs.Laws.{AreReadAsSent}
use Rattle.hd_delivery.proofs.Local.{both}
use Rattle.hd_delivery.proofs.OwnLimits.{one_frame, can_be_sent_too}
use Rattle.hd_delivery.proofs.Final.{delivery_holds}
use Rattle.hd_delivery.proofs.OverBytes.{together_over_bytes, still_in_frames}

-- ---- a handshake is taken once

abbrev shakes : EndEvent → Bool
shakes (Took (Shaken codec version)) = true
shakes s = false

message_shakes_not : (p : ℕ) (n : Option ℕ) (m : Message) → shakes (reads_message p n m) ≡ false
message_shakes_not p None m = refl
message_shakes_not p (Some n) m = both (λ s. shakes s ≡ false) (n == most_messages + 1) _ _ (λ e. refl) (λ e. both (λ s. shakes s ≡ false) (n == suc p) _ _ (λ f. refl) (λ f. refl))

frame_shakes_not : (keeps : Bool) (h : List EndEvent) (n : Option ℕ) (f : LinkFrame) → shakes (reads_frame keeps h n f) ≡ false
frame_shakes_not keeps h n (Numbered m) = message_shakes_not (length (processed_messages h)) n m
frame_shakes_not true h n (Ack upto) = both (λ s. shakes s ≡ false) (nat_le upto (most_lent h)) _ _ (λ e. refl) (λ e. refl)
frame_shakes_not false h n (Ack upto) = refl
frame_shakes_not true h n (Sequence first received) = both (λ s. shakes s ≡ false) (nat_le first (suc (length (processed_messages h)))) _ _
    (λ e. both (λ s. shakes s ≡ false) (is_three h) _ _ (λ f. both (λ s. shakes s ≡ false) (nat_le _ (most_lent h)) _ _ (λ g. refl) (λ g. refl)) (λ f. refl))
    (λ e. refl)
frame_shakes_not false h n (Sequence first received) = refl
frame_shakes_not keeps h n Ping = refl
frame_shakes_not keeps h n (Close error allow) = refl
frame_shakes_not keeps h n (Foreign k) = refl
frame_shakes_not keeps h n (Unreadable at why) = refl
frame_shakes_not keeps h n f = refl

abbrev may_shake : Option EndEvent → Bool
may_shake None = false
may_shake (Some s) = shakes s

shaken_once : (c : Config) (h : List EndEvent) → is_shaken h ≡ true → may_shake (processes c h) ≡ false
shaken_once c h e = both (λ o. may_shake o ≡ false) (is_closed c h) None (next_frame c h (present_link h)) (λ f. refl) (λ f. on (present_link h))
  where
    found : (n : Option ℕ) (o : Option LinkFrame) → may_shake (option_map (reads c h n) o) ≡ false
    found n None = refl
    found n (Some f) = rw e (frame_shakes_not (is_resumable c h) h n f)

    on : (o : Option ℕ) → may_shake (next_frame c h o) ≡ false
    on None = refl
    on (Some l) = found (next_number c h l) (slice_get (fed_frames l h) (taken_count l h))

pub not_again : (c : Config) (h : List EndEvent) (codec : Codec) (version : ℕ) → is_shaken h ≡ true → processes c h ≡ Some (Took (Shaken codec version)) → ⊥
not_again c h codec version e p = let q : may_shake (processes c h) ≡ true = ap may_shake p in let r = shaken_once c h e in absurd (cc)

-- ---- one end in a world

module _ (limits : Limits) (wire : Wire) (c oc : Config) where
  -- who sent something has taken the handshake
  sends_shaken : (step : ByteStep) (x y : List ByteStep) → AllowedOverBytes limits wire c oc x y step
      → ((m : Message) → Contains (sent_messages (in_frames wire c x)) m → is_shaken (in_frames wire c x) ≡ true)
      → (m : Message) → Contains (sent_messages (in_frames wire c (step ∷ x))) m → is_shaken (in_frames wire c (step ∷ x)) ≡ true
  sends_shaken (Bytes piece) x y a before m at = before m at
  sends_shaken (Does (Sent n)) x y a before m at = a.shakes
  sends_shaken (Does (Took (Shaken codec version))) x y a before m at = refl
  sends_shaken (Does s) x y a before m at = before m at

  -- the codec of who has taken the handshake stays
  codec_stays : (step : ByteStep) (x y : List ByteStep) → AllowedOverBytes limits wire c oc x y step → is_shaken (in_frames wire c x) ≡ true
      → codec_of c (in_frames wire c (step ∷ x)) ≡ codec_of c (in_frames wire c x)
  codec_stays (Does (Took (Shaken codec version))) x y a e = absurd (not_again c (in_frames wire c x) codec version e a)
  codec_stays (Bytes piece) x y a e = refl
  codec_stays (Does s) x y a e = refl

  -- who has sent something after this step had taken the handshake before it
  shaken_before : (step : ByteStep) (x y : List ByteStep) → AllowedOverBytes limits wire c oc x y step
      → ((m : Message) → Contains (sent_messages (in_frames wire c x)) m → is_shaken (in_frames wire c x) ≡ true)
      → (m : Message) → Contains (sent_messages (in_frames wire c (step ∷ x))) m → is_shaken (in_frames wire c x) ≡ true
  shaken_before (Bytes piece) x y a before m at = before m at
  shaken_before (Does (Sent n)) x y a before m at = a.shakes
  shaken_before (Does s) x y a before m at = before m at

  -- what was sent stays sent
  sent_grows : (step : ByteStep) (x : List ByteStep) (m : Message) → Contains (sent_messages (in_frames wire c x)) m → Contains (sent_messages (in_frames wire c (step ∷ x))) m
  sent_grows (Bytes piece) x m at = at
  sent_grows (Does (Sent n)) x m at = Contains-append_left (sent_messages (in_frames wire c x)) (n ∷ []) m at
  sent_grows (Does s) x m at = at

  -- what is read after the step was read before it
  read_before : (step : ByteStep) (x y : List ByteStep) → AllowedOverBytes limits wire c oc x y step
      → ((m : Message) → Contains (sent_messages (in_frames wire c x)) m → is_shaken (in_frames wire c x) ≡ true)
      → AreReadAsSent limits wire c (in_frames wire c (step ∷ x)) → AreReadAsSent limits wire c (in_frames wire c x)
  read_before step x y a before reads m at can =
      let e = codec_stays step x y a (before m at) in
      subst (λ k. IsRead (wire.later k) (wire.spell k (Numbered m)) (Numbered m)) e
      (reads m (sent_grows step x m at) (subst (λ k. CanBeSent limits (sizes_of wire) k m) (sym e) can))

  -- what is sent is read in this codec, if who takes the handshake speaks it
  read_in : (codec : Codec) (step : ByteStep) (x y : List ByteStep) → AllowedOverBytes limits wire c oc x y step
      → ((m : Message) → Contains (sent_messages (in_frames wire c x)) m → is_shaken (in_frames wire c x) ≡ true)
      → (is_shaken (in_frames wire c x) ≡ true → codec_of c (in_frames wire c x) ≡ codec)
      → AreReadAsSent limits wire c (in_frames wire c (step ∷ x))
      → (m : Message) → Contains (sent_messages (in_frames wire c (step ∷ x))) m → CanBeSent limits (sizes_of wire) codec m
      → IsRead (wire.later codec) (wire.spell codec (Numbered m)) (Numbered m)
  read_in codec step x y a before speaks reads m at can =
      let s = shaken_before step x y a before m at in
      let e = codec_stays step x y a s ∙ speaks s in
      subst (λ k. IsRead (wire.later k) (wire.spell k (Numbered m)) (Numbered m)) e (reads m at (subst (λ k. CanBeSent limits (sizes_of wire) k m) (sym e) can))

-- ---- worlds

pub none_sent : (m : Message) → Contains [] m → ⊥
none_sent m at = let lt = at.1 in absurd (omega arith)

module _ (limits : Side → Limits) (wire : Wire) (t : Terms) where
  client_shaken : (w : List (Event ByteStep)) → IsWorldOverBytes limits wire t w → (m : Message) → Contains (sent_messages (client_in_frames wire t w)) m → is_shaken (client_in_frames wire t w) ≡ true
  client_shaken [] i m at = absurd (none_sent m at)
  client_shaken (ByClient step ∷ w) i m at = sends_shaken (limits Client) wire (config Client t) (config Server t) step (client_of w) (server_of w) i.1 (client_shaken w i.0) m at
  client_shaken (ByServer step ∷ w) i m at = client_shaken w i.0 m at

  server_shaken : (w : List (Event ByteStep)) → IsWorldOverBytes limits wire t w → (m : Message) → Contains (sent_messages (server_in_frames wire t w)) m → is_shaken (server_in_frames wire t w) ≡ true
  server_shaken [] i m at = absurd (none_sent m at)
  server_shaken (ByServer step ∷ w) i m at = sends_shaken (limits Server) wire (config Server t) (config Client t) step (server_of w) (client_of w) i.1 (server_shaken w i.0) m at
  server_shaken (ByClient step ∷ w) i m at = server_shaken w i.0 m at

  with_messages : IsFaithful (limits Client) wire t.codec t.version [] → (messages : List Message)
      → ((m : Message) → Contains messages m → CanBeSent (limits Client) (sizes_of wire) t.codec m → IsRead (wire.later t.codec) (wire.spell t.codec (Numbered m)) (Numbered m))
      → IsFaithful (limits Client) wire t.codec t.version messages
  with_messages base messages read = record {
    request = base.request;
    response = base.response;
    message = read;
    ack = base.ack;
    sequence = base.sequence;
    ping = base.ping;
    close = base.close;
  }

  -- in a faithful world who has taken the handshake speaks the client's codec
  module _ (w : List (Event ByteStep)) (f : IsFaithful (limits Client) wire t.codec t.version (sent_messages (client_in_frames wire t w) ++ sent_messages (server_in_frames wire t w)))
      (i : IsWorldOverBytes limits wire t w) where
    abbrev by_client : List Message
    by_client = sent_messages (client_in_frames wire t w)

    abbrev by_server : List Message
    by_server = sent_messages (server_in_frames wire t w)

    client_speaks : is_shaken (client_in_frames wire t w) ≡ true → codec_of (config Client t) (client_in_frames wire t w) ≡ t.codec
    client_speaks = (together_over_bytes limits wire t (by_client ++ by_server) f (one_frame limits wire t w i) w (λ m e. Contains-append_left by_client by_server m e) (λ m e. Contains-append_right by_client by_server m e) i).together.ends.pair.own.speaks

    server_speaks : is_shaken (server_in_frames wire t w) ≡ true → codec_of (config Server t) (server_in_frames wire t w) ≡ t.codec
    server_speaks = (together_over_bytes limits wire t (by_client ++ by_server) f (one_frame limits wire t w i) w (λ m e. Contains-append_left by_client by_server m e) (λ m e. Contains-append_right by_client by_server m e) i).together.ends.pair.its.speaks

  pub faithful : IsFaithful (limits Client) wire t.codec t.version [] → (w : List (Event ByteStep)) → IsWorldOverBytes limits wire t w
      → AreReadAsSent (limits Client) wire (config Client t) (client_in_frames wire t w) → AreReadAsSent (limits Server) wire (config Server t) (server_in_frames wire t w)
      → IsFaithful (limits Client) wire t.codec t.version (sent_messages (client_in_frames wire t w) ++ sent_messages (server_in_frames wire t w))
  faithful base [] i c s = base
  faithful base (ByClient step ∷ w) i c s =
      let before = read_before (limits Client) wire (config Client t) (config Server t) step (client_of w) (server_of w) i.1 (client_shaken w i.0) c in
      let f = faithful base w i.0 before s in
      let new = read_in (limits Client) wire (config Client t) (config Server t) t.codec step (client_of w) (server_of w) i.1 (client_shaken w i.0) (client_speaks w f i.0) c in
      let client = sent_messages (in_frames wire (config Client t) (step ∷ client_of w)) in
      let server = sent_messages (server_in_frames wire t w) in
      with_messages base (client ++ server) (λ m at can. ⊎_elim
      (λ here. new m here can)
      (λ there. f.message m (Contains-append_right (sent_messages (client_in_frames wire t w)) server m there) can)
      (Contains-append_cases client server m at))
  faithful base (ByServer step ∷ w) i c s =
      let before = read_before (limits Server) wire (config Server t) (config Client t) step (server_of w) (client_of w) i.1 (server_shaken w i.0) s in
      let f = faithful base w i.0 c before in
      let new = read_in (limits Server) wire (config Server t) (config Client t) t.codec step (server_of w) (client_of w) i.1 (server_shaken w i.0) (server_speaks w f i.0) s in
      let client = sent_messages (client_in_frames wire t w) in
      let server = sent_messages (in_frames wire (config Server t) (step ∷ server_of w)) in
      with_messages base (client ++ server) (λ m at can. ⊎_elim
      (λ here. f.message m (Contains-append_left client (sent_messages (server_in_frames wire t w)) m here) can)
      (λ there. new m there (can_be_sent_too (limits Client) (limits Server) (sizes_of wire) t.codec m (one_frame limits wire t w i.0) can))
      (Contains-append_cases client server m at))

  pub as_sent : (w : List (Event ByteStep)) → IsFaithful (limits Client) wire t.codec t.version []
      → AreReadAsSent (limits Client) wire (config Client t) (client_in_frames wire t w) → AreReadAsSent (limits Server) wire (config Server t) (server_in_frames wire t w)
      → IsWorldOverBytes limits wire t w → DeliveryOverBytes wire t w
  as_sent w base c s i =
      let f = faithful base w i c s in
      let client = sent_messages (client_in_frames wire t w) in
      let server = sent_messages (server_in_frames wire t w) in
      let all = together_over_bytes limits wire t (client ++ server) f (one_frame limits wire t w i) w (λ m e. Contains-append_left client server m e) (λ m e. Contains-append_right client server m e) i in
      record {
        holds = delivery_holds t (client_in_frames wire t w) (server_in_frames wire t w) all.together;
        still = still_in_frames limits wire t (client ++ server) f (one_frame limits wire t w i) (client_of w) (server_of w) all;
      }
