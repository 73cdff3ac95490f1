-- What an end sent can be sent, and what it has to say has no more bytes than the greatest frame with its framing.
use Rattle.std.proofs.Common.{⊎_elim, ◌≡◌, ℕ, suc, ◌+◌, ◌≤◌, max, Bool, true, false, List, [], ◌∷◌, ◌++◌, length, Option, Some, None, refl, sym, ap, ◌∙◌, subst, arith}
use Rattle.std.specs.Prelude.{zero, Contains, slice_get, option_map, is_some, not, nat_lt, nat_le, ◌&&◌, ◌==◌, if◌then◌else◌}
use Rattle.std.proofs.lemmas.List.Elements.{Contains-push_cases}
use Rattle.hm_message.specs.declared.message.Message.{Message}
use Rattle.hm_message.specs.declared.message.Codec.{Codec}
use Rattle.hd_delivery.specs.declared.vocabulary.Got.TheVariants.{Shaken}
use Rattle.hd_delivery.specs.declared.vocabulary.Side.{Side}
use Rattle.hd_delivery.specs.declared.vocabulary.Side.TheVariants.{Client, Server}
use Rattle.hd_delivery.specs.declared.vocabulary.Reason.TheVariants.{Protocol}
use Rattle.hd_delivery.specs.Numbers.{most_messages}
use Rattle.hd_delivery.specs.Frames.{LinkFrame, Request, Response, Refusal, Numbered, Ack, Sequence, Ping, Close, Foreign, Strange, Unreadable, received_of, number, most_told}
use Rattle.hd_delivery.specs.Histories.{Config, EndEvent, Took, Failed, Sent, Closed, Shake, is_this, first_of, present_link, first_link, taken_count, lent_frames, sent_messages, processed_messages, acked_count, written_place, next_place, most_lent, is_shaken, is_three, codec_of, is_resumable, is_closed, state}
use Rattle.hd_delivery.specs.Processes.{reads_handshake, reads_message, reads_frame, reads, next_number, processes}
use Rattle.hd_delivery.specs.Due.{handshake, opening, next_message, sequence_due, ack_due, may_write, message_due, is_quiet, is_ready, ping_due, farewell, has_close, close_due, due_after, answer, answer_due, due_there, due_on, due}
use Rattle.hd_delivery.specs.Worlds.{Limits, CanBeSent}
use Rattle.hd_delivery.specs.Bytes.{Reading, Waits, Reads, Refuses, Stops, Wire, sizes_of, IsRead, IsFaithful, IsSoundReader, IsSoundWire, ByteStep, Bytes, Does, in_frames, read_count, unread}
use Rattle.hd_delivery.specs.OneHistory.{IsHistory, next_reader, frame_of_reading}
use Rattle.hd_delivery.specs.HistoryLaws.{HistoryFacts, IsWithin, AnswersAreShort}
use Rattle.hd_delivery.proofs.Local.{both}
use Rattle.hd_delivery.proofs.WhatIsRead.{read_step}
use Rattle.hd_delivery.proofs.EndFacts.{known, facts, processes_open}
use Rattle.hd_delivery.proofs.OneHistory.{in_frames_too}
use Rattle.hd_delivery.proofs.Unread.{next_frame_is}
use Rattle.hd_delivery.proofs.AsSent.{not_again, none_sent}

-- ---- what was sent

module _ (limits : Limits) (wire : Wire) (c : Config) where
  facts_of : (h : List ByteStep) → IsHistory limits wire c h → HistoryFacts c (in_frames wire c h)
  facts_of h i = facts c (in_frames wire c h) (known limits (sizes_of wire) c (in_frames wire c h) (in_frames_too limits wire c h i))

  -- who takes the handshake has sent nothing
  unsent : (h : List ByteStep) → IsHistory limits wire c h → (codec : Codec) (version : ℕ) → processes c (in_frames wire c h) ≡ Some (Took (Shaken codec version))
      → sent_messages (in_frames wire c h) ≡ []
  unsent h i codec version e = go (is_shaken (in_frames wire c h)) refl
    where
      go : (b : Bool) → is_shaken (in_frames wire c h) ≡ b → sent_messages (in_frames wire c h) ≡ []
      go true s = absurd (not_again c (in_frames wire c h) codec version s e)
      go false s = (facts_of h i).unshaken_sent_none s

  pub can_be_sent : (h : List ByteStep) → IsHistory limits wire c h → (m : Message) → Contains (sent_messages (in_frames wire c h)) m
      → CanBeSent limits (sizes_of wire) (codec_of c (in_frames wire c h)) m
  can_be_sent [] i m at = absurd (none_sent m at)
  can_be_sent (Bytes piece ∷ h) i m at = can_be_sent h i.0 m at
  can_be_sent (Does (Sent n) ∷ h) i m at = ⊎_elim (λ before. can_be_sent h i.0 m before)
      (λ same. subst (CanBeSent limits (sizes_of wire) (codec_of c (in_frames wire c h))) same i.1.can_be)
      (Contains-push_cases (sent_messages (in_frames wire c h)) n m at)
  can_be_sent (Does (Took (Shaken codec version)) ∷ h) i m at =
      absurd (none_sent m (subst (λ ms. Contains ms m) (unsent h i.0 codec version i.1) at))
  can_be_sent (Does s ∷ h) i m at = can_be_sent h i.0 m at

-- ---- what is read of the handshake

-- a reader that reads the bytes as themselves finds no more than the greatest frame with its framing
read_within : (limits : Limits) (K : LinkFrame → Type 0) (reader : List ℕ → Reading) (bytes : List ℕ) (f : LinkFrame) → IsSoundReader limits K reader → IsRead reader bytes f
    → IsWithin limits bytes
read_within limits K reader bytes f sound is = (sound.reads (bytes ++ []) f (length bytes) (is.whole [])).1.bounded

-- a step that answers a text was made of a frame with this text
abbrev AnswersAs : LinkFrame → EndEvent → Type 0
AnswersAs f (Failed (Shake why (Some text))) = f ≡ Strange why text
AnswersAs f s = Unit {0}

module _ (c : Config) (h : List EndEvent) where
  as_handshake : (side : Side) (f : LinkFrame) → AnswersAs f (reads_handshake side c h f)
  as_handshake Client Response = tt
  as_handshake Server (Request codec version) = tt
  as_handshake Client (Request codec version) = tt
  as_handshake Client (Strange why text) = tt
  as_handshake Server (Strange why text) = refl
  as_handshake side (Unreadable at why) = tt
  as_handshake side f = tt

  as_message : (m : Message) (n : Option ℕ) → AnswersAs (Numbered m) (reads_message (length (processed_messages h)) n m)
  as_message m None = tt
  as_message m (Some n) = both (AnswersAs (Numbered m)) (n == most_messages + 1) _ _ (λ e. tt) (λ e. both (AnswersAs (Numbered m)) (n == suc (length (processed_messages h))) _ _ (λ f. tt) (λ f. tt))

  as_frame : (keeps : Bool) (n : Option ℕ) (f : LinkFrame) → AnswersAs f (reads_frame keeps h n f)
  as_frame keeps n (Numbered m) = as_message m n
  as_frame true n (Ack upto) = both (AnswersAs (Ack upto)) (nat_le upto (most_lent h)) _ _ (λ e. tt) (λ e. tt)
  as_frame false n (Ack upto) = tt
  as_frame true n (Sequence first received) =
      let is = AnswersAs (Sequence first received) in
      both is (nat_le first (suc (length (processed_messages h)))) _ _
      (λ e. both is (is_three h) _ _ (λ g. both is (nat_le (received_of received) (most_lent h)) _ _ (λ j. tt) (λ j. tt)) (λ g. tt)) (λ e. tt)
  as_frame false n (Sequence first received) = tt
  as_frame keeps n Ping = tt
  as_frame keeps n (Close error allow) = tt
  as_frame keeps n (Foreign k) = tt
  as_frame keeps n (Unreadable at why) = tt
  as_frame keeps n f = tt

  answers_as : (n : Option ℕ) (f : LinkFrame) → AnswersAs f (reads c h n f)
  answers_as n f = both (AnswersAs f) (is_shaken h) _ _ (λ e. as_frame (is_resumable c h) n f) (λ e. as_handshake c.side f)

strange_reading : (at : ℕ) (r : Reading) (why text : List ℕ) → frame_of_reading at r ≡ Some (Strange why text) → (size : ℕ) × (r ≡ Reads (Strange why text) size)
strange_reading at Waits why text e = absurd (cc)
strange_reading at (Reads f size) why text e = let g : f ≡ Strange why text = cc in (size, ap (λ x. Reads x size) g)
strange_reading at (Refuses words size) why text e = absurd (cc)
strange_reading at (Stops words) why text e = absurd (cc)

module _ (limits : Limits) (wire : Wire) (c : Config) (sound : IsSoundWire limits wire) (short : AnswersAreShort limits wire) (codec : Codec) where
  strange_short : (b : Bool) (other : Codec) (bytes why text : List ℕ) (size : ℕ) → (if b then wire.first c.side bytes else wire.later other bytes) ≡ Reads (Strange why text) size
      → IsWithin limits (wire.spell codec (Refusal text))
  strange_short true other bytes why text size e = short c.side bytes why text size e codec
  strange_short false other bytes why text size e = absurd ((sound.later other).reads bytes (Strange why text) size e).0

  step_short : (h : List ByteStep) → IsHistory limits wire c h → (why text : List ℕ) → processes c (in_frames wire c h) ≡ Some (Failed (Shake why (Some text)))
      → IsWithin limits (wire.spell codec (Refusal text))
  step_short h i why text e =
      let k = in_frames wire c h in
      let p = read_step c k (Failed (Shake why (Some text))) e in
      let is : p.1 ≡ Strange why text = subst (AnswersAs p.1) p.4 (answers_as c k (next_number c k p.0) p.1) in
      let reading = next_reader wire c p.0 k (unread wire c p.0 h) in
      let next = next_frame_is limits wire c h p.0 (record { sound = sound; is_history = i; here = p.2 }) (processes_open c k (Failed (Shake why (Some text))) e) in
      let found = strange_reading (read_count wire c p.0 h) reading why text (sym next ∙ p.3 ∙ ap Some is) in
      strange_short (is_this p.0 (first_link k) && (taken_count p.0 k == 0)) (codec_of c k) (unread wire c p.0 h) why text found.0 found.1

  answer_short : (h : List ByteStep) → IsHistory limits wire c h → (text : List ℕ) → answer (in_frames wire c h) ≡ Some text → IsWithin limits (wire.spell codec (Refusal text))
  answer_short [] i text e = absurd (cc)
  answer_short (Bytes piece ∷ h) i text e = answer_short h i.0 text e
  answer_short (Does (Failed (Shake why None)) ∷ h) i text e = absurd (cc)
  answer_short (Does (Failed (Shake why (Some words))) ∷ h) i text e =
      let same : words ≡ text = cc in
      subst (λ t. IsWithin limits (wire.spell codec (Refusal t))) same (step_short h i.0 why words i.1)
  answer_short (Does s ∷ h) i text e = answer_short h i.0 text e

-- ---- what is due

contains_at : (ms : List Message) (n : ℕ) (m : Message) → slice_get ms n ≡ Some m → Contains ms m
contains_at [] n m e = absurd (cc)
contains_at (x ∷ ms) zero m e = (0, omega arith, cc)
contains_at (x ∷ ms) (suc n) m e = let p = contains_at ms n m e in (suc p.0, omega (arith, p.1), p.2)

module _ (limits : Limits) (wire : Wire) (c : Config) (h : List ByteStep) (f : LinkFrame) (sound : IsSoundWire limits wire)
    (faithful : (codec : Codec) → IsFaithful limits wire codec c.version []) (answers : AnswersAreShort limits wire) (i : IsHistory limits wire c h) where
  abbrev k : List EndEvent
  k = in_frames wire c h

  abbrev codec : Codec
  codec = codec_of c k

  known_of : HistoryFacts c k
  known_of = facts_of limits wire c h i

  -- where something is due, it is short
  abbrev IsShort : Option LinkFrame → Type 0
  IsShort None = Unit {0}
  IsShort (Some t) = IsWithin limits (wire.spell codec t)

  either : (a b : Option LinkFrame) → IsShort a → IsShort b → IsShort (first_of a b)
  either None b s t = t
  either (Some x) b s t = s

  only_if : (b : Bool) (o : Option LinkFrame) → IsShort o → IsShort (if b then o else None)
  only_if true o s = s
  only_if false o s = tt

  later : (t : LinkFrame) → IsRead (wire.later codec) (wire.spell codec t) t → IsWithin limits (wire.spell codec t)
  later t is = read_within limits _ (wire.later codec) (wire.spell codec t) t (sound.later codec) is

  first : (side : Side) (t : LinkFrame) → IsRead (wire.first side) (wire.spell codec t) t → IsWithin limits (wire.spell codec t)
  first side t is = read_within limits _ (wire.first side) (wire.spell codec t) t (sound.first side) is

  few_sent : (acked_count k ≤ most_messages) × (written_place k ≤ most_messages)
  few_sent =
      let sent = known_of.sent_are_few in
      let lent = known_of.lent_were_sent in
      (omega (arith, sent, lent, known_of.acked_were_lent), omega (arith, sent, lent, known_of.written_were_lent))

  told : received_of (if is_three k then Some (length (processed_messages k)) else None) ≤ most_messages
  told = both (λ o. received_of o ≤ most_messages) (is_three k) _ _ (λ e. known_of.processed_are_few) (λ e. omega arith)

  shakes : (side : Side) → c.side ≡ side → IsShort (handshake side c k)
  shakes Client e = both IsShort (is_closed c k) None (Some (Request c.codec c.version)) (λ x. tt)
      (λ x. subst (λ own. IsWithin limits (wire.spell codec (Request own c.version))) (known_of.client_has_its_codec e)
      (first Server (Request codec c.version) (faithful codec).request))
  shakes Server e = only_if (is_shaken k) (Some Response) (first Client Response (faithful codec).response)

  opens : (l : ℕ) → IsShort (opening c k l)
  opens l = both IsShort (is_this l (first_link k)) (handshake c.side c k) (Some (Sequence (suc (acked_count k)) (if is_three k then Some (length (processed_messages k)) else None)))
      (λ e. shakes c.side refl)
      (λ e. later _ ((faithful codec).sequence (suc (acked_count k)) (if is_three k then Some (length (processed_messages k)) else None) (omega (arith, few_sent.0)) told))

  farewells : (x : List EndEvent) → IsShort (farewell x)
  farewells [] = tt
  farewells (Closed reason allow ∷ x) = later _ ((faithful codec).close reason allow)
  farewells (Failed (Shake why text) ∷ x) = farewells x
  farewells (Failed fault ∷ x) = later _ ((faithful codec).close Protocol false)
  farewells (_ ∷ x) = farewells x

  message : (o : Option Message) → next_message k ≡ o → IsShort (option_map Numbered o)
  message None e = tt
  message (Some m) e =
      let can = can_be_sent limits wire c h i m (contains_at (sent_messages k) (max (acked_count k) (written_place k)) m e) in
      let framed = sound.framed codec m can in
      omega (arith, framed.1, can.short)

  after : (l : ℕ) (said : List LinkFrame) → IsShort (due_after c k l said)
  after l [] = opens l
  after l (t ∷ said) =
      either (sequence_due k (t ∷ said)) _ (only_if (not (is_three k) && (is_some (next_message k) && not (is_this (next_place k) (number (t ∷ said))))) (Some (Sequence (next_place k) None))
      (later _ ((faithful codec).sequence (next_place k) None (omega (arith, few_sent.0, few_sent.1)) (omega arith))))
      (either (ack_due c k (t ∷ said)) _ (only_if ((is_resumable c k && not (is_closed c k)) && nat_lt (most_told (t ∷ said)) (length (processed_messages k))) (Some (Ack (length (processed_messages k))))
      (later _ ((faithful codec).ack (length (processed_messages k)) known_of.processed_are_few)))
      (either (message_due k l) _ (only_if (may_write k l) (option_map Numbered (next_message k)) (message (next_message k) refl))
      (either (ping_due c k) (close_due k (t ∷ said)) (only_if (is_ready (state c k) && is_quiet k) (Some Ping) (later _ (faithful codec).ping))
      (only_if (is_shaken k && not (has_close (t ∷ said))) (farewell k) (farewells k)))))

  there : (l : ℕ) (o : Option (List ℕ)) → answer k ≡ o → IsShort (due_there c k l o)
  there l None e = after l (lent_frames l k)
  there l (Some text) e = on (lent_frames l k)
    where
      on : (said : List LinkFrame) → IsShort (answer_due text said)
      on [] = answer_short limits wire c sound answers codec h i text e
      on (t ∷ said) = tt

  on_link : (o : Option ℕ) → IsShort (due_on c k o)
  on_link None = tt
  on_link (Some l) = there l (answer k) refl

  pub due_is_short : due c k ≡ Some f → IsWithin limits (wire.spell codec f)
  due_is_short e = subst IsShort e (on_link (present_link k))
