-- What holds of two peers in every world, by going through it event by event.
use Rattle.std.proofs.Common.{⊎_elim, ◌≡◌, ℕ, List, [], ◌∷◌, ◌++◌, Option, Some, None, refl, ap, ◌∙◌, subst}
use Rattle.std.specs.Prelude.{option_map, Contains}
use Rattle.std.proofs.lemmas.List.Elements.{Contains-append_left, Contains-append_right, Contains-append_cases}
use Rattle.hm_message.specs.declared.message.Codec.{Codec}
use Rattle.hm_message.specs.declared.message.Message.{Message}
use Rattle.hd_delivery.specs.declared.vocabulary.Side.{Side}
use Rattle.hd_delivery.specs.declared.vocabulary.Side.TheVariants.{Client, Server}
use Rattle.hd_delivery.specs.Histories.{Sent, sent_messages, processed_messages}
use Rattle.hd_delivery.specs.Worlds.{Limits, Terms, Event, ByClient, ByServer, client_of, server_of, config, Delivery}
use Rattle.hd_delivery.specs.Bytes.{Wire, ByteStep, Bytes, Does, IsFaithful, IsWorldOverBytes, DeliveryOverBytes, HoldsOverBytes, client_in_frames, server_in_frames, in_frames}
use Rattle.hd_delivery.specs.HistoryLaws.{FactsHold, WorldsAreHistories}
use Rattle.hd_calls.specs.Hubs.{Hub}
use Rattle.hd_calls.specs.Peers.{PeerEvent, Settings, add, byte_steps, steps}
use Rattle.hd_calls.specs.PeerWorlds.{Pair, settings, next_step, ends, IsPeerWorld, Refusals, all_sent}
use Rattle.hd_calls.proofs.Basics.{purposes_prefix}
use Rattle.hd_calls.proofs.Local.{frames_of}
use Rattle.hd_calls.proofs.Caller.{Causal}
use Rattle.hd_calls.proofs.Uploads.{StreamCausal}
use Rattle.hd_calls.proofs.Ends.{History, open_reads, speaks}
use Rattle.hd_calls.proofs.Meeting.{IsApart, Meets, streams_here, causal_more, refusals_more}

-- ---- the steps of each end in a world

client_add : {S : Type 0} (o : Option S) (w : List (Event S)) → client_of (add (option_map ByClient o) w) ≡ add o (client_of w)
client_add None w = refl
client_add (Some s) w = refl

server_same : {S : Type 0} (o : Option S) (w : List (Event S)) → server_of (add (option_map ByClient o) w) ≡ server_of w
server_same None w = refl
server_same (Some s) w = refl

server_add : {S : Type 0} (o : Option S) (w : List (Event S)) → server_of (add (option_map ByServer o) w) ≡ add o (server_of w)
server_add None w = refl
server_add (Some s) w = refl

client_same : {S : Type 0} (o : Option S) (w : List (Event S)) → client_of (add (option_map ByServer o) w) ≡ client_of w
client_same None w = refl
client_same (Some s) w = refl

world_tail : (limits : Side → Limits) (wire : Wire) (t : Terms) (o : Option (Event ByteStep)) (w : List (Event ByteStep)) → IsWorldOverBytes limits wire t (add o w) → IsWorldOverBytes limits wire t w
world_tail limits wire t None w p = p
world_tail limits wire t (Some (ByClient s)) w p = p.0
world_tail limits wire t (Some (ByServer s)) w p = p.0

-- ---- fewer messages

-- a way to write frames is faithful to fewer messages too
fewer : (limits : Limits) (wire : Wire) (code : Codec) (version : ℕ) (few many : List Message) → ((m : Message) → Contains few m → Contains many m) → IsFaithful limits wire code version many → IsFaithful limits wire code version few
fewer limits wire code version few many f p = record {
  request = p.request;
  response = p.response;
  message = λ m e c. p.message m (f m e) c;
  ack = p.ack;
  sequence = p.sequence;
  ping = p.ping;
  close = p.close;
}

-- what was sent is sent after one more step
sent_before : (t : Settings) (o : Option ByteStep) (s : List ByteStep) (m : Message) → Contains (sent_messages (frames_of t s)) m → Contains (sent_messages (frames_of t (add o s))) m
sent_before t None s m e = e
sent_before t (Some (Does (Sent n))) s m e = Contains-append_left (sent_messages (frames_of t s)) (n ∷ []) m e
sent_before t (Some (Bytes piece)) s m e = e
sent_before t (Some (Does x)) s m e = e

module _ (p : Pair) where
  pub client_is : (w : List (Event PeerEvent)) → client_of (ends p w) ≡ byte_steps (settings Client p) (client_of w)
  client_is [] = refl
  client_is (ByClient d ∷ w) = client_add (next_step (settings Client p) (client_of w) d) (ends p w) ∙ ap (add (next_step (settings Client p) (client_of w) d)) (client_is w)
  client_is (ByServer d ∷ w) = client_same (next_step (settings Server p) (server_of w) d) (ends p w) ∙ client_is w

  pub server_is : (w : List (Event PeerEvent)) → server_of (ends p w) ≡ byte_steps (settings Server p) (server_of w)
  server_is [] = refl
  server_is (ByServer d ∷ w) = server_add (next_step (settings Server p) (server_of w) d) (ends p w) ∙ ap (add (next_step (settings Server p) (server_of w) d)) (server_is w)
  server_is (ByClient d ∷ w) = server_same (next_step (settings Client p) (client_of w) d) (ends p w) ∙ server_is w

module _ {C S : Type 0} (hc : Hub C) (hs : Hub S) (p : Pair) where
  world_before : (e : Event PeerEvent) (w : List (Event PeerEvent)) → IsPeerWorld hc hs p (e ∷ w) → IsPeerWorld hc hs p w
  world_before (ByClient d) w q = record { is_world = world_tail p.limits p.wire p.terms (option_map ByClient (next_step (settings Client p) (client_of w) d)) (ends p w) q.is_world; client_follows = q.client_follows.0; server_follows = q.server_follows; client_prompt = q.client_prompt.0; server_prompt = q.server_prompt }
  world_before (ByServer d) w q = record { is_world = world_tail p.limits p.wire p.terms (option_map ByServer (next_step (settings Server p) (server_of w) d)) (ends p w) q.is_world; client_follows = q.client_follows; server_follows = q.server_follows.0; client_prompt = q.client_prompt; server_prompt = q.server_prompt.0 }

module _ {C S : Type 0} (hc : Hub C) (hs : Hub S) (p : Pair) (histories : WorldsAreHistories) where
  pub client_history : (w : List (Event PeerEvent)) → IsPeerWorld hc hs p w → History (settings Client p) (byte_steps (settings Client p) (client_of w))
  client_history w q = subst (λ s. History (settings Client p) s) (client_is p w) (histories p.limits p.wire p.terms (ends p w) q.is_world).0

  pub server_history : (w : List (Event PeerEvent)) → IsPeerWorld hc hs p w → History (settings Server p) (byte_steps (settings Server p) (server_of w))
  server_history w q = subst (λ s. History (settings Server p) s) (server_is p w) (histories p.limits p.wire p.terms (ends p w) q.is_world).1

module _ {C S : Type 0} (hc : Hub C) (hs : Hub S) (p : Pair) (facts : FactsHold) (histories : WorldsAreHistories) (delivery : HoldsOverBytes)
    (many : List Message) (faithful : IsFaithful (p.limits Client) p.wire p.terms.codec p.terms.version many) where
  -- the delivery between the two ends
  pub delivered : (w : List (Event PeerEvent)) → IsPeerWorld hc hs p w → ((m : Message) → Contains (all_sent p w) m → Contains many m) → DeliveryOverBytes p.wire p.terms (ends p w)
  delivered w q covers =
      let same : sent_messages (client_in_frames p.wire p.terms (ends p w)) ++ sent_messages (server_in_frames p.wire p.terms (ends p w)) ≡ all_sent p w =
      ap (λ s. sent_messages (in_frames p.wire (config Client p.terms) s) ++ sent_messages (server_in_frames p.wire p.terms (ends p w))) (client_is p w)
      ∙ ap (λ s. sent_messages (steps (settings Client p) (client_of w)) ++ sent_messages (in_frames p.wire (config Server p.terms) s)) (server_is p w) in
      delivery p.limits p.wire p.terms (ends p w)
      (fewer (p.limits Client) p.wire p.terms.codec p.terms.version (sent_messages (client_in_frames p.wire p.terms (ends p w)) ++ sent_messages (server_in_frames p.wire p.terms (ends p w))) many
      (λ m e. covers m (subst (λ ms. Contains ms m) same e)) faithful)
      q.is_world

  pub in_peers : (w : List (Event PeerEvent)) → IsPeerWorld hc hs p w → ((m : Message) → Contains (all_sent p w) m → Contains many m)
      → Delivery p.terms (steps (settings Client p) (client_of w)) (steps (settings Server p) (server_of w))
  in_peers w q covers =
      subst (λ s. Delivery p.terms (in_frames p.wire (config Client p.terms) s) (steps (settings Server p) (server_of w))) (client_is p w)
      (subst (λ s. Delivery p.terms (client_in_frames p.wire p.terms (ends p w)) (in_frames p.wire (config Server p.terms) s)) (server_is p w)
      (delivered w q covers).holds)

  -- what an earlier world sent
  covers_before : (e : Event PeerEvent) (w : List (Event PeerEvent)) → ((m : Message) → Contains (all_sent p (e ∷ w)) m → Contains many m) → (m : Message) → Contains (all_sent p w) m → Contains many m
  covers_before (ByClient d) w covers m e = ⊎_elim
      (λ f. covers m (Contains-append_left (sent_messages (steps (settings Client p) (d ∷ client_of w))) (sent_messages (steps (settings Server p) (server_of w))) m (sent_before (settings Client p) (next_step (settings Client p) (client_of w) d) (byte_steps (settings Client p) (client_of w)) m f)))
      (λ f. covers m (Contains-append_right (sent_messages (steps (settings Client p) (d ∷ client_of w))) (sent_messages (steps (settings Server p) (server_of w))) m f))
      (Contains-append_cases (sent_messages (steps (settings Client p) (client_of w))) (sent_messages (steps (settings Server p) (server_of w))) m e)
  covers_before (ByServer d) w covers m e = ⊎_elim
      (λ f. covers m (Contains-append_left (sent_messages (steps (settings Client p) (client_of w))) (sent_messages (steps (settings Server p) (d ∷ server_of w))) m f))
      (λ f. covers m (Contains-append_right (sent_messages (steps (settings Client p) (client_of w))) (sent_messages (steps (settings Server p) (d ∷ server_of w))) m (sent_before (settings Server p) (next_step (settings Server p) (server_of w) d) (byte_steps (settings Server p) (server_of w)) m f)))
      (Contains-append_cases (sent_messages (steps (settings Client p) (client_of w))) (sent_messages (steps (settings Server p) (server_of w))) m e)

  pub client_meets : (w : List (Event PeerEvent)) → IsPeerWorld hc hs p w → ((m : Message) → Contains (all_sent p w) m → Contains many m) → Meets hc hs (settings Client p) (settings Server p) (client_of w) (server_of w)
  client_meets w q covers = let d = in_peers w q covers in record {
    caller = q.client_follows;
    callee = q.server_follows;
    caller_open = open_reads (settings Client p) (client_of w) (client_history hc hs p histories w q);
    callee_open = open_reads (settings Server p) (server_of w) (server_history hc hs p histories w q);
    callee_speaks = speaks hs (settings Server p) facts (server_of w) q.server_follows (server_history hc hs p histories w q);
    forth = purposes_prefix (processed_messages (steps (settings Server p) (server_of w))) (sent_messages (steps (settings Client p) (client_of w))) d.to_server.in_order;
    back = purposes_prefix (processed_messages (steps (settings Client p) (client_of w))) (sent_messages (steps (settings Server p) (server_of w))) d.to_client.in_order;
  }

  pub server_meets : (w : List (Event PeerEvent)) → IsPeerWorld hc hs p w → ((m : Message) → Contains (all_sent p w) m → Contains many m) → Meets hs hc (settings Server p) (settings Client p) (server_of w) (client_of w)
  server_meets w q covers = let d = in_peers w q covers in record {
    caller = q.server_follows;
    callee = q.client_follows;
    caller_open = open_reads (settings Server p) (server_of w) (server_history hc hs p histories w q);
    callee_open = open_reads (settings Client p) (client_of w) (client_history hc hs p histories w q);
    callee_speaks = speaks hc (settings Client p) facts (client_of w) q.client_follows (client_history hc hs p histories w q);
    forth = purposes_prefix (processed_messages (steps (settings Client p) (client_of w))) (sent_messages (steps (settings Server p) (server_of w))) d.to_client.in_order;
    back = purposes_prefix (processed_messages (steps (settings Server p) (server_of w))) (sent_messages (steps (settings Client p) (client_of w))) d.to_server.in_order;
  }

  -- what holds of the two in every world
  pub record Steady (w : List (Event PeerEvent)) : Type 0 where
    pub client_causal : Causal (settings Client p) (client_of w)
    pub server_causal : Causal (settings Server p) (server_of w)
    pub client_streams : StreamCausal (client_of w)
    pub server_streams : StreamCausal (server_of w)
    pub client_refusals : Refusals (settings Client p) (client_of w)
    pub server_refusals : Refusals (settings Server p) (server_of w)

  pub steady : IsApart (p.name Client) (p.name Server) → IsApart (p.name Server) (p.name Client) → (w : List (Event PeerEvent)) → IsPeerWorld hc hs p w → ((m : Message) → Contains (all_sent p w) m → Contains many m) → Steady w
  steady a b [] q covers = record { client_causal = tt; server_causal = tt; client_streams = tt; server_streams = tt; client_refusals = tt; server_refusals = tt }
  steady a b (ByClient d ∷ w) q covers =
      let before = world_before hc hs p (ByClient d) w q in
      let covered = covers_before (ByClient d) w covers in
      let s = steady a b w before covered in
      let cm = client_meets w before covered in
      let sm = server_meets w before covered in record {
        client_causal = causal_more hc hs (settings Client p) (settings Server p) (client_of w) (server_of w) a cm d s.client_causal;
        server_causal = s.server_causal;
        client_streams = (s.client_streams, streams_here hs hc (settings Server p) (settings Client p) b a (server_of w) (client_of w) sm cm);
        server_streams = s.server_streams;
        client_refusals = refusals_more hs hc (settings Server p) (settings Client p) (server_of w) (client_of w) b sm d q.client_follows.1 s.client_refusals;
        server_refusals = s.server_refusals;
      }
  steady a b (ByServer d ∷ w) q covers =
      let before = world_before hc hs p (ByServer d) w q in
      let covered = covers_before (ByServer d) w covers in
      let s = steady a b w before covered in
      let cm = client_meets w before covered in
      let sm = server_meets w before covered in record {
        client_causal = s.client_causal;
        server_causal = causal_more hs hc (settings Server p) (settings Client p) (server_of w) (client_of w) b sm d s.server_causal;
        client_streams = s.client_streams;
        server_streams = (s.server_streams, streams_here hc hs (settings Client p) (settings Server p) a b (client_of w) (server_of w) cm sm);
        client_refusals = s.client_refusals;
        server_refusals = refusals_more hc hs (settings Client p) (settings Server p) (client_of w) (server_of w) a cm d q.server_follows.1 s.server_refusals;
      }
