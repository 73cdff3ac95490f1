-- What the frames of a link mean: after the handshake, and first of all at each side.
use Rattle.std.proofs.Common.{◌≡◌, ◌⊎◌, inl, inr, ℕ, List, [], refl, sym, ap, subst, ◌∙◌}
use Rattle.std.specs.Prelude.{ℤ}
use Rattle.hf_split.specs.declared.framing.Framing.TheVariants.{Record}
use Rattle.hm_message.specs.Kind.{IsOfNoKind}
use Rattle.hm_message.specs.declared.message.Codec.{Codec}
use Rattle.hm_message.specs.declared.message.Codec.TheVariants.{Json, Pack}
use Rattle.hm_message.specs.declared.message.Message.{Message}
use Rattle.hm_message.specs.declared.message.Message.TheVariants as message
use Rattle.hm_codec.specs.Frames.{Unknown, framing_of}
use Rattle.hm_codec.specs.Laws.{FramesHaveOneMeaning}
use Rattle.hm_codec.specs.Words.{why_words}
use Rattle.hs_shake.specs.declared.shake.ShakeError.{ShakeError}
use Rattle.hs_shake.specs.Requests as requests
use Rattle.hs_shake.specs.Responses as responses
use Rattle.hs_shake.specs.Responses.{refusal_text}
use Rattle.hs_shake.specs.Laws.{RequestsHaveOneMeaning, ResponsesHaveOneMeaning}
use Rattle.hs_shake.specs.Words.{shake_words}
use Rattle.hd_delivery.specs.declared.vocabulary.Side.{Side}
use Rattle.hd_delivery.specs.declared.vocabulary.Side.TheVariants.{Client, Server}
use Rattle.hd_delivery.specs.Frames.{LinkFrame, Request, Response, Refusal, Numbered, Ack, Sequence, Ping, Close, Foreign, Strange, Unreadable, frame_of}
use Rattle.hd_delivery.specs.Bytes.{Reading, Waits, Reads, Refuses, Stops, IsFirst, IsLater}
use Rattle.he_wire.specs.Readings.{IsLaterFrame, IsRefused, IsFirstFrame, ReadsLater, ReadsFirst}
use Rattle.he_wire.proofs.Readers.{ReadsBy, Means}

-- ---- after the handshake

later_some : FramesHaveOneMeaning → (codec : Codec) (frame : List ℕ) → ((f : LinkFrame) × IsLaterFrame codec f frame) ⊎ ((words : List ℕ) × IsRefused codec words frame)
later_some law codec frame = elim (law codec frame).some [
  | inl h ↦ inl (frame_of h.0, inl (h.0, (h.1, refl)))
  | inr h ↦ elim h [
    | inl u ↦ inl (Foreign u.0, inr (u.0, (u.1, refl)))
    | inr r ↦ inr (why_words r.0, (r.0, (r.1, refl)))
  ]
]

later_one : FramesHaveOneMeaning → (codec : Codec) (f g : LinkFrame) (frame : List ℕ) → IsLaterFrame codec f frame → IsLaterFrame codec g frame → f ≡ g
later_one law codec f g frame (inl p) (inl q) = p.1.1 ∙ ap frame_of ((law codec frame).one_message p.0 q.0 p.1.0 q.1.0) ∙ sym q.1.1
later_one law codec f g frame (inl p) (inr q) = absurd ((law codec frame).known p.0 q.0 p.1.0 q.1.0)
later_one law codec f g frame (inr p) (inl q) = absurd ((law codec frame).known q.0 p.0 q.1.0 p.1.0)
later_one law codec f g frame (inr p) (inr q) = p.1.1 ∙ ap (λ (n : ℤ). Foreign n) ((law codec frame).one_number p.0 q.0 p.1.0 q.1.0) ∙ sym q.1.1

later_accepted : FramesHaveOneMeaning → (codec : Codec) (f : LinkFrame) (words frame : List ℕ) → IsLaterFrame codec f frame → IsRefused codec words frame → ⊥
later_accepted law codec f words frame (inl p) q = (law codec frame).accepted p.0 q.0 p.1.0 q.1.0
later_accepted law codec f words frame (inr p) q = (law codec frame).passed p.0 q.0 p.1.0 q.1.0

pub later_means : FramesHaveOneMeaning → (codec : Codec) → Means (IsLaterFrame codec) (IsRefused codec)
later_means law codec = record {
  some = later_some law codec;
  one_frame = later_one law codec;
  one_reason = λ x y frame p q. p.1.1 ∙ ap why_words ((law codec frame).one_reason p.0 q.0 p.1.0 q.1.0) ∙ sym q.1.1;
  accepted = later_accepted law codec;
}

pub later_by : (most : ℕ) (codec : Codec) (bytes : List ℕ) (r : Reading) → ReadsLater most codec bytes r → ReadsBy (framing_of codec) most (IsLaterFrame codec) (IsRefused codec) bytes r
later_by most codec bytes Waits h = h
later_by most codec bytes (Reads f size) h = h
later_by most codec bytes (Refuses words size) h = h
later_by most codec bytes (Stops words) h = h

pub by_later : (most : ℕ) (codec : Codec) (bytes : List ℕ) (r : Reading) → ReadsBy (framing_of codec) most (IsLaterFrame codec) (IsRefused codec) bytes r → ReadsLater most codec bytes r
by_later most codec bytes Waits h = h
by_later most codec bytes (Reads f size) h = h
by_later most codec bytes (Refuses words size) h = h
by_later most codec bytes (Stops words) h = h

foreign : (codec : Codec) (frame : List ℕ) (n : ℤ) → Unknown codec frame n → IsOfNoKind n
foreign Json frame n h = h.1.1.2
foreign Pack frame n h = h.1.1.1

of_message : (m : Message) → IsLater (frame_of m)
of_message (message.Invocation headers id target arguments streams) = refl
of_message (message.StreamItem headers id item) = refl
of_message (message.Completion headers id end) = refl
of_message (message.StreamInvocation headers id target arguments streams) = refl
of_message (message.CancelInvocation headers id) = refl
of_message message.Ping = tt
of_message (message.Close error allow) = tt
of_message (message.Ack upto) = tt
of_message (message.Sequence first received) = tt

pub later_kind : (codec : Codec) (f : LinkFrame) (frame : List ℕ) → IsLaterFrame codec f frame → IsLater f
later_kind codec f frame (inl h) = subst IsLater (sym h.1.1) (of_message h.0)
later_kind codec f frame (inr h) = subst IsLater (sym h.1.1) (foreign codec frame h.0 h.1.0)

-- ---- first of all

-- no frame is refused as a message there
abbrev pub NoReason : List ℕ → List ℕ → Type 0
NoReason words frame = ⊥

-- what the frame is at a server, and at a client
abbrev AtServer : LinkFrame → List ℕ → Type 0
AtServer f frame =
    ((codec : Codec) × ((n : ℕ) × (requests.Asks frame codec n × (f ≡ Request codec n))))
    ⊎ ((e : ShakeError) × (requests.WhyNot frame e × (f ≡ Strange (shake_words e) (refusal_text e))))

abbrev AtClient : LinkFrame → List ℕ → Type 0
AtClient f frame = (responses.Accepts frame × (f ≡ Response)) ⊎ ((e : ShakeError) × (responses.WhyNot frame e × (f ≡ Strange (shake_words e) [])))

at_server : (f : LinkFrame) (frame : List ℕ) → IsFirstFrame Server f frame → AtServer f frame
at_server (Request codec n) frame h = inl (codec, (n, (h, refl)))
at_server (Strange words answer) frame h = inr (h.0, (h.1.0, λ i. Strange (h.1.1 i) (h.1.2 i)))
at_server Response frame h = absurd h
at_server (Refusal text) frame h = absurd h
at_server (Numbered m) frame h = absurd h
at_server (Ack upto) frame h = absurd h
at_server (Sequence first received) frame h = absurd h
at_server Ping frame h = absurd h
at_server (Close error allow) frame h = absurd h
at_server (Foreign n) frame h = absurd h
at_server (Unreadable at why) frame h = absurd h

at_client : (f : LinkFrame) (frame : List ℕ) → IsFirstFrame Client f frame → AtClient f frame
at_client (Request codec n) frame h = absurd h
at_client (Strange words answer) frame h = inr (h.0, (h.1.0, λ i. Strange (h.1.1 i) (h.1.2 i)))
at_client Response frame h = inl (h, refl)
at_client (Refusal text) frame h = absurd h
at_client (Numbered m) frame h = absurd h
at_client (Ack upto) frame h = absurd h
at_client (Sequence first received) frame h = absurd h
at_client Ping frame h = absurd h
at_client (Close error allow) frame h = absurd h
at_client (Foreign n) frame h = absurd h
at_client (Unreadable at why) frame h = absurd h

server_one : RequestsHaveOneMeaning → (f g : LinkFrame) (frame : List ℕ) → AtServer f frame → AtServer g frame → f ≡ g
server_one law f g frame (inl p) (inl q) =
    let same = (law frame).one_request p.0 q.0 p.1.0 q.1.0 p.1.1.0 q.1.1.0 in
    p.1.1.1 ∙ (λ i. Request (same.0 i) (same.1 i)) ∙ sym q.1.1.1
server_one law f g frame (inl p) (inr q) = absurd ((law frame).accepted p.0 p.1.0 q.0 p.1.1.0 q.1.0)
server_one law f g frame (inr p) (inl q) = absurd ((law frame).accepted q.0 q.1.0 p.0 q.1.1.0 p.1.0)
server_one law f g frame (inr p) (inr q) = p.1.1 ∙ ap (λ (e : ShakeError). Strange (shake_words e) (refusal_text e)) ((law frame).one_reason p.0 q.0 p.1.0 q.1.0) ∙ sym q.1.1

client_one : ResponsesHaveOneMeaning → (f g : LinkFrame) (frame : List ℕ) → AtClient f frame → AtClient g frame → f ≡ g
client_one law f g frame (inl p) (inl q) = p.1 ∙ sym q.1
client_one law f g frame (inl p) (inr q) = absurd ((law frame).accepted q.0 p.0 q.1.0)
client_one law f g frame (inr p) (inl q) = absurd ((law frame).accepted p.0 q.0 p.1.0)
client_one law f g frame (inr p) (inr q) = p.1.1 ∙ ap (λ (e : ShakeError). Strange (shake_words e) []) ((law frame).one_reason p.0 q.0 p.1.0 q.1.0) ∙ sym q.1.1

server_some : RequestsHaveOneMeaning → (frame : List ℕ) → ((f : LinkFrame) × IsFirstFrame Server f frame) ⊎ ((words : List ℕ) × NoReason words frame)
server_some law frame = elim (law frame).some [
  | inl h ↦ inl (Request h.0 h.1.0, h.1.1)
  | inr h ↦ inl (Strange (shake_words h.0) (refusal_text h.0), (h.0, (h.1, refl, refl)))
]

client_some : ResponsesHaveOneMeaning → (frame : List ℕ) → ((f : LinkFrame) × IsFirstFrame Client f frame) ⊎ ((words : List ℕ) × NoReason words frame)
client_some law frame = elim (law frame).some [
  | inl h ↦ inl (Response, h)
  | inr h ↦ inl (Strange (shake_words h.0) [], (h.0, (h.1, refl, refl)))
]

pub first_means : RequestsHaveOneMeaning → ResponsesHaveOneMeaning → (side : Side) → Means (IsFirstFrame side) NoReason
first_means asked told Server = record {
  some = server_some asked;
  one_frame = λ f g frame p q. server_one asked f g frame (at_server f frame p) (at_server g frame q);
  one_reason = λ x y frame p q. absurd p;
  accepted = λ f words frame p q. q;
}
first_means asked told Client = record {
  some = client_some told;
  one_frame = λ f g frame p q. client_one told f g frame (at_client f frame p) (at_client g frame q);
  one_reason = λ x y frame p q. absurd p;
  accepted = λ f words frame p q. q;
}

pub first_by : (most : ℕ) (side : Side) (bytes : List ℕ) (r : Reading) → ReadsFirst most side bytes r → ReadsBy Record most (IsFirstFrame side) NoReason bytes r
first_by most side bytes Waits h = h
first_by most side bytes (Reads f size) h = h
first_by most side bytes (Refuses words size) h = absurd h
first_by most side bytes (Stops words) h = h

pub by_first : (most : ℕ) (side : Side) (bytes : List ℕ) (r : Reading) → ReadsBy Record most (IsFirstFrame side) NoReason bytes r → ReadsFirst most side bytes r
by_first most side bytes Waits h = h
by_first most side bytes (Reads f size) h = h
by_first most side bytes (Refuses words size) h = h.1.2
by_first most side bytes (Stops words) h = h

server_kind : (f : LinkFrame) (frame : List ℕ) → AtServer f frame → IsFirst Server f
server_kind f frame (inl h) = subst (IsFirst Server) (sym h.1.1.1) tt
server_kind f frame (inr h) = subst (IsFirst Server) (sym h.1.1) tt

client_kind : (f : LinkFrame) (frame : List ℕ) → AtClient f frame → IsFirst Client f
client_kind f frame (inl h) = subst (IsFirst Client) (sym h.1) tt
client_kind f frame (inr h) = subst (IsFirst Client) (sym h.1.1) tt

pub first_kind : (side : Side) (f : LinkFrame) (frame : List ℕ) → IsFirstFrame side f frame → IsFirst side f
first_kind Server f frame h = server_kind f frame (at_server f frame h)
first_kind Client f frame h = client_kind f frame (at_client f frame h)
