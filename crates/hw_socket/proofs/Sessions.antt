-- What was sent is heard.
use Rattle.std.proofs.Common.{◌≡◌, ◌⊎◌, ◌<◌, ◌≤◌, ◌+◌, ◌%◌, ◌^◌, ℕ, Bool, true, false, List, [], ◌∷◌, ◌++◌, length, drop, map, All, Option, None, Some, Result, Ok, Err, refl, sym, ap, inl, inr, arith, append_assoc, append-nil, ◌∙◌}
use Rattle.std.specs.Prelude.{is_some, IsUtf8}
use Rattle.std.specs.List.{concat}
use Rattle.std.proofs.lemmas.List.{drop_at, drop-append-le}
use Rattle.std.proofs.lemmas.List.Elements.{All-head, All-tail}
use Rattle.websocket.specs.declared.error.Error.{Error}
use Rattle.websocket.specs.declared.protocol.config.Role.{Role}
use Rattle.websocket.specs.declared.protocol.state.WebSocketState.TheVariants.{Active}
use Rattle.websocket.specs.declared.protocol.frame.codec.FrameStatus.{FrameStatus}
use Rattle.websocket.specs.declared.protocol.frame.codec.FrameStatus.TheVariants.{Partial, Complete}
use Rattle.websocket.specs.Connection.{Connection, Effect, Outgoing, is_server, read_step, whole_header, check_header, on_frame, on_opcode, on_data, on_message_bytes}
use Rattle.websocket.specs.Content.{Content, text, binary, ping, pong, close, content_opcode}
use Rattle.websocket.specs.FrameHeader.{IsMask, decode_header}
use Rattle.websocket.specs.Frame.{decode_frame}
use Rattle.websocket.proofs.DecodeLemmas.{ltb_false}
use Rattle.websocket.proofs.FrameLemmas.{Waits}
use Rattle.websocket.proofs.StreamLemmas.{read_step-append, read_step-encode_frame, TookFrame_from_read}
use Rattle.websocket.proofs.TextLemmas.{is_utf8-true}
use Rattle.hw_socket.specs.declared.vocabulary.SocketSide.{SocketSide}
use Rattle.hw_socket.specs.declared.vocabulary.SocketSide.TheVariants.{Server, Client}
use Rattle.hw_socket.specs.declared.vocabulary.SocketRead.{SocketRead}
use Rattle.hw_socket.specs.declared.vocabulary.SocketRead.TheVariants.{Payload, NotYet, Gone}
use Rattle.hw_socket.specs.declared.vocabulary.TheConstants.{MOST_MESSAGE}
use Rattle.hw_socket.specs.Lane.{Lane, fresh_lane}
use Rattle.hw_socket.specs.Masks.{mask_of, with_mask, after_frame}
use Rattle.hw_socket.specs.Messages.{content, role_of, Carries, IsSilent, closes}
use Rattle.hw_socket.specs.Reading.{Finds, after_taking, Takes}
use Rattle.hw_socket.specs.Sending.{Sent, Says}
use Rattle.hw_socket.specs.Sessions.{SendsAll, Drains, Hears, IsHeardBy}
use Rattle.hw_socket.proofs.Keys.{key_is_mask}
use Rattle.hw_socket.proofs.Takings.{sends}

-- ---- what one read answers is determined by what stands in front

pub same_step : {p q : ℕ × Effect} → ◌≡◌ {A = Result (FrameStatus (ℕ × Effect)) Error} (Ok (Complete p)) (Ok (Complete q)) → p ≡ q
same_step e = cc e

pub waiting : (lane next : Lane) (answer : SocketRead) (n : ℕ) → lane.ending ≡ None → read_step lane.conn lane.unread ≡ Ok (Partial n) → Takes lane next answer → (answer ≡ NotYet) × (next ≡ lane)
waiting lane next answer n here waits (inl gone) = absurd (gone.0 here)
waiting lane next answer n here waits (inr (still, (q ∷ ps, mid, passes, steps))) = absurd (cc (waits, passes.0))
waiting lane next (Payload bytes) n here waits (inr (still, ([], mid, same, steps))) = absurd (cc (waits, rw same at steps.1))
waiting lane next NotYet n here waits (inr (still, ([], mid, same, steps))) = (refl, steps.2 ∙ same)
waiting lane next Gone n here waits (inr (still, ([], mid, same, inl steps))) = absurd (cc (waits, rw same at steps.1))
waiting lane next Gone n here waits (inr (still, ([], mid, same, inr steps))) = absurd (cc (waits, rw same at steps.1))

pub not_silent : (m : Option Content) (bytes : List ℕ) → Carries m bytes → IsSilent m → ⊥
not_silent None bytes carries silent = absurd carries
not_silent (Some (text bs)) bytes carries silent = silent
not_silent (Some (binary bs)) bytes carries silent = silent
not_silent (Some (ping bs)) bytes carries silent = absurd carries
not_silent (Some (pong bs)) bytes carries silent = absurd carries
not_silent (Some (close frame)) bytes carries silent = absurd carries

pub not_closing : (m : Option Content) (bytes : List ℕ) → Carries m bytes → closes m ≡ true → ⊥
not_closing None bytes carries ends = absurd carries
not_closing (Some (text bs)) bytes carries ends = cc ends
not_closing (Some (binary bs)) bytes carries ends = cc ends
not_closing (Some (ping bs)) bytes carries ends = absurd carries
not_closing (Some (pong bs)) bytes carries ends = absurd carries
not_closing (Some (close frame)) bytes carries ends = absurd carries

pub one_payload : (m : Option Content) (a b : List ℕ) → Carries m a → Carries m b → b ≡ a
one_payload None a b x y = absurd x
one_payload (Some (text bs)) a b x y = sym y ∙ x
one_payload (Some (binary bs)) a b x y = sym y ∙ x
one_payload (Some (ping bs)) a b x y = absurd x
one_payload (Some (pong bs)) a b x y = absurd x
one_payload (Some (close frame)) a b x y = absurd x

pub coming : (lane next : Lane) (answer : SocketRead) (p : ℕ × Effect) (bytes : List ℕ) → lane.ending ≡ None → Finds lane p → Carries p.1.message bytes → Takes lane next answer
    → (answer ≡ Payload bytes) × (next ≡ after_taking lane p)
coming lane next answer p bytes here finds carries (inl gone) = absurd (gone.0 here)
coming lane next answer p bytes here finds carries (inr (still, (q ∷ ps, mid, passes, steps))) =
    let same : q ≡ p = same_step (sym passes.0 ∙ finds) in
    absurd (not_silent p.1.message bytes carries (rw same at passes.1))
coming lane next (Payload got) p bytes here finds carries (inr (still, ([], mid, same, steps))) =
    let frame : steps.0 ≡ p = same_step (sym (rw same at steps.1) ∙ finds) in
    (ap Payload (one_payload p.1.message bytes got carries (rw frame at steps.2)), rw (← same, ← frame) steps.3)
coming lane next NotYet p bytes here finds carries (inr (still, ([], mid, same, steps))) = absurd (cc (finds, rw same at steps.1))
coming lane next Gone p bytes here finds carries (inr (still, ([], mid, same, inl steps))) =
    let frame : steps.0 ≡ p = same_step (sym (rw same at steps.1) ∙ finds) in
    absurd (not_closing p.1.message bytes carries (rw frame at steps.2))
coming lane next Gone p bytes here finds carries (inr (still, ([], mid, same, inr steps))) = absurd (cc (finds, rw same at steps.1))

-- ---- a message as a frame

abbrev frame_of : Sent → Outgoing
frame_of m = record { opcode = content_opcode (content m.is_text m.bytes); payload = m.bytes }

-- what the other side sends when it sends these messages, from its frame n on
abbrev spell : SocketSide → ℕ → List Sent → List ℕ
spell side n [] = []
spell side n (m ∷ ms) = with_mask (mask_of side n) (frame_of m) ++ spell side ((n + 1) % 2 ^ 64) ms

abbrev IsValid : ℕ → Sent → Type 0
IsValid limit m = (length m.bytes ≤ limit) × (m.is_text ≡ true → IsUtf8 m.bytes)

abbrev AreValid : ℕ → List Sent → Type 0
AreValid limit [] = Unit {0}
AreValid limit (m ∷ ms) = IsValid limit m × AreValid limit ms

same_ok : {a b : Effect} → ◌≡◌ {A = Result Effect Error} (Ok a) (Ok b) → b ≡ a
same_ok e = cc e

pub said_as_frame : (lane mid : Lane) (is_text : Bool) (bytes : List ℕ) → lane.conn.state ≡ Active → Says lane mid bytes is_text true
    → mid ≡ record lane { out = after_frame lane.out (frame_of (record { is_text = is_text; bytes = bytes })) }
said_as_frame lane mid true bytes active says =
    let e = same_ok (sym (sends lane.conn true bytes active) ∙ says.2.1) in
    says.2.2 ∙ rw e refl
said_as_frame lane mid false bytes active says =
    let e = same_ok (sym (sends lane.conn false bytes active) ∙ says.2.1) in
    says.2.2 ∙ rw e refl

sent_all : (limit : ℕ) (ms : List Sent) (lane next : Lane) → lane.conn.state ≡ Active → All (λ (m : Sent). length m.bytes ≤ limit) ms → SendsAll lane ms next
    → (next.out.bytes ≡ lane.out.bytes ++ spell lane.out.side lane.out.frames ms) × AreValid limit ms
sent_all limit [] lane next active short same = (rw (same, append-nil) refl, tt)
sent_all limit (m ∷ ms) lane next active short (mid, says, rest) =
    let is = said_as_frame lane mid m.is_text m.bytes active says in
    let after : Lane = record lane { out = after_frame lane.out (frame_of m) } in
    let later = sent_all limit ms after next active (All-tail (λ (s : Sent). length s.bytes ≤ limit) m ms short) (rw is at rest) in (
      later.0 ∙ append_assoc lane.out.bytes (with_mask (mask_of lane.out.side lane.out.frames) (frame_of m)) (spell lane.out.side ((lane.out.frames + 1) % 2 ^ 64) ms),
      ((All-head (λ (s : Sent). length s.bytes ≤ limit) m ms short, says.1), later.1),
    )

-- ---- reading it

-- a connection that is between messages
abbrev pub idle : Role → ℕ → Connection
idle role limit = record {
  role = role;
  state = Active;
  config = record { max_message_size = Some limit; max_frame_size = Some limit; accept_unmasked_frames = false };
  fragments = None;
}

abbrev pub gives : Connection → Sent → Effect
gives conn m = record { message = Some (content m.is_text m.bytes); reply = None; next = conn }

-- the mask is one that this role takes
abbrev pub IsTaken : Role → Option (List ℕ) → Type 0
IsTaken role mask = (is_some mask ≡ is_server role) × IsMask mask

pub header_taken : (role : Role) (limit : ℕ) (frame : Outgoing) (mask : Option (List ℕ)) → IsTaken role mask → check_header (idle role limit) (whole_header frame.opcode mask) ≡ Ok tt
header_taken Role.Server limit frame mask taken = rw taken.0
header_taken Role.Client limit frame mask taken = rw taken.0

delivers : (role : Role) (limit : ℕ) (is_text : Bool) (bytes : List ℕ) → length bytes ≤ limit → (is_text ≡ true → IsUtf8 bytes)
    → on_opcode (idle role limit) (content_opcode (content is_text bytes)) true bytes ≡ Ok (gives (idle role limit) (record { is_text = is_text; bytes = bytes }))
unfolding on_data on_message_bytes
delivers role limit true bytes fits valid = rw (ltb_false limit (length bytes) fits, is_utf8-true bytes (valid refl)) refl
delivers role limit false bytes fits valid = rw (ltb_false limit (length bytes) fits) refl

pub takes_frame : (role : Role) (limit : ℕ) (mask : Option (List ℕ)) (m : Sent) (rest : List ℕ) → limit < 2 ^ 63 → IsTaken role mask → IsValid limit m
    → read_step (idle role limit) (with_mask mask (frame_of m) ++ rest) ≡ Ok (Complete (length (with_mask mask (frame_of m)), gives (idle role limit) m))
unfolding on_frame
takes_frame role limit mask m rest small taken valid =
    read_step-encode_frame (idle role limit) (whole_header (frame_of m).opcode mask) m.bytes rest (record { mask = taken.1; top_bit_clear = omega arith })
    ∙ rw (ltb_false limit (length m.bytes) valid.0, header_taken role limit (frame_of m) mask taken, delivers role limit m.is_text m.bytes valid.0 valid.1) refl

pub nothing_waits : (role : Role) (limit : ℕ) → Waits (read_step (idle role limit) [])
unfolding read_step decode_frame decode_header
nothing_waits role limit = (1, refl)

pub front_nil : (u more : List ℕ) → u ++ more ≡ [] → u ≡ []
front_nil [] more is = refl
front_nil (b ∷ u) more is = absurd (cc is)

-- ---- from a sender to a to

-- the reader between messages, with these bytes unread
abbrev at : SocketSide → List ℕ → Lane
at side u = record (fresh_lane side) { unread = u }

-- each frame of the sender has a mask that the reader takes
abbrev pub AreOpposite : SocketSide → SocketSide → Type 0
AreOpposite from to = (n : ℕ) → IsTaken (role_of to) (mask_of from n)

pub carries : (is_text : Bool) (bytes : List ℕ) → Carries (Some (content is_text bytes)) bytes
carries true bytes = refl
carries false bytes = refl

pub waits_or_is : (conn : Connection) (u more : List ℕ) (p : ℕ × Effect) (r : Result (FrameStatus (ℕ × Effect)) Error) → read_step conn u ≡ r → read_step conn (u ++ more) ≡ Ok (Complete p)
    → Waits (read_step conn u) ⊎ (read_step conn u ≡ Ok (Complete p))
waits_or_is conn u more p (Ok (Partial n)) is whole = inl (n, is)
waits_or_is conn u more p (Ok (Complete q)) is whole = inr (sym (read_step-append conn u more (λ w. cc (is, w.1))) ∙ whole)
waits_or_is conn u more p (Err e) is whole = inr (sym (read_step-append conn u more (λ w. cc (is, w.1))) ∙ whole)

-- a message stands in front of the unread bytes
record Coming (from to : SocketSide) (n : ℕ) (u more : List ℕ) (ms : List Sent) : Type 0 where
  m : Sent
  later : List Sent
  is : ms ≡ m ∷ later
  size : ℕ
  finds : Finds (at to u) (size, gives (at to u).conn m)
  left : drop size u ++ more ≡ spell from ((n + 1) % 2 ^ 64) later
  valid : AreValid MOST_MESSAGE later

next_read : (from to : SocketSide) → AreOpposite from to → (n : ℕ) (u more : List ℕ) (ms : List Sent) → u ++ more ≡ spell from n ms → AreValid MOST_MESSAGE ms
    → Waits (read_step (at to u).conn u) ⊎ Coming from to n u more ms
next_read from to opposite n u more [] is valid = rw (front_nil u more is) (inl (nothing_waits (role_of to) MOST_MESSAGE))
next_read from to opposite n u more (m ∷ ms) is valid =
    let frame = with_mask (mask_of from n) (frame_of m) in
    let rest = spell from ((n + 1) % 2 ^ 64) ms in
    let conn = (at to u).conn in
    let p : ℕ × Effect = (length frame, gives conn m) in
    let whole : read_step conn (u ++ more) ≡ Ok (Complete p) = rw is (takes_frame (role_of to) MOST_MESSAGE (mask_of from n) m rest (omega arith) (opposite n) valid.0) in
    elim (waits_or_is conn u more p _ refl whole) [
      | inl w ↦ inl w
      | inr found ↦
          let took = TookFrame_from_read conn u p found in
          inr (record {
            m = m;
            later = ms;
            is = refl;
            size = length frame;
            finds = found;
            left = sym (drop-append-le (length frame) u more took.inside) ∙ ap (drop (length frame)) is ∙ drop_at frame rest (length frame) refl;
            valid = valid.1;
          })
    ]

-- what a lane that was drained has left
record Left (from to : SocketSide) (more : List ℕ) (payloads : List (List ℕ)) (ms : List Sent) (next : Lane) : Type 0 where
  n : ℕ
  u : List ℕ
  later : List Sent
  next_is : next ≡ at to u
  waits : Waits (read_step (at to u).conn u)
  stream : u ++ more ≡ spell from n later
  valid : AreValid MOST_MESSAGE later
  all : map (λ (m : Sent). m.bytes) ms ≡ payloads ++ map (λ (m : Sent). m.bytes) later

in_front : (bytes : List ℕ) (payloads : List (List ℕ)) (ms later rest : List Sent) (m : Sent) → ms ≡ m ∷ later → bytes ≡ m.bytes
    → map (λ (s : Sent). s.bytes) later ≡ payloads ++ map (λ (s : Sent). s.bytes) rest → map (λ (s : Sent). s.bytes) ms ≡ (bytes ∷ payloads) ++ map (λ (s : Sent). s.bytes) rest
in_front bytes payloads ms later rest m is same all = rw (is, same, all) refl

drained : (from to : SocketSide) → AreOpposite from to → (payloads : List (List ℕ)) (n : ℕ) (u more : List ℕ) (ms : List Sent) (next : Lane) → u ++ more ≡ spell from n ms → AreValid MOST_MESSAGE ms
    → Drains (at to u) payloads next → Left from to more payloads ms next
drained from to opposite [] n u more ms next is valid (answer, takes, last) =
    elim (next_read from to opposite n u more ms is valid) [
      | inl w ↦ record { n = n; u = u; later = ms; next_is = (waiting (at to u) next answer w.0 refl w.1 takes).1; waits = w; stream = is; valid = valid; all = refl }
      | inr c ↦ absurd (rw (coming (at to u) next answer _ c.m.bytes refl c.finds (carries c.m.is_text c.m.bytes) takes).0 at last)
    ]
drained from to opposite (bytes ∷ payloads) n u more ms next is valid (mid, takes, rest) =
    elim (next_read from to opposite n u more ms is valid) [
      | inl w ↦ absurd (cc ((waiting (at to u) mid (Payload bytes) w.0 refl w.1 takes).0))
      | inr c ↦
          let came = coming (at to u) mid (Payload bytes) _ c.m.bytes refl c.finds (carries c.m.is_text c.m.bytes) takes in
          let same : bytes ≡ c.m.bytes = cc came.0 in
          let later = drained from to opposite payloads ((n + 1) % 2 ^ 64) (drop c.size u) more c.later next c.left c.valid (rw came.1 at rest) in
          record { n = later.n; u = later.u; later = later.later; next_is = later.next_is; waits = later.waits; stream = later.stream; valid = later.valid; all = in_front bytes payloads ms c.later later.later c.m c.is same later.all }
    ]

none_left : (from to : SocketSide) → AreOpposite from to → (n : ℕ) (u : List ℕ) (ms : List Sent) → Waits (read_step (at to u).conn u) → u ++ [] ≡ spell from n ms → AreValid MOST_MESSAGE ms
    → (ms ≡ []) × (u ≡ [])
none_left from to opposite n u [] waits is valid = (refl, front_nil u [] is)
none_left from to opposite n u (m ∷ ms) waits is valid =
    let whole = takes_frame (role_of to) MOST_MESSAGE (mask_of from n) m (spell from ((n + 1) % 2 ^ 64) ms) (omega arith) (opposite n) valid.0 in
    let all : u ≡ spell from n (m ∷ ms) = sym (append-nil u) ∙ is in
    absurd (cc (rw all at waits.1, whole))

heard_all : (from to : SocketSide) → AreOpposite from to → (pieces payloads : List (List ℕ)) (n : ℕ) (u : List ℕ) (ms : List Sent) (next : Lane) → Waits (read_step (at to u).conn u)
    → u ++ concat pieces ≡ spell from n ms → AreValid MOST_MESSAGE ms → Hears (at to u) pieces payloads next → (payloads ≡ map (λ (m : Sent). m.bytes) ms) × (next ≡ at to [])
heard_all from to opposite [] payloads n u ms next waits is valid (none, same) =
    let end = none_left from to opposite n u ms waits is valid in
    (rw end.0 none, same ∙ rw end.1 refl)
heard_all from to opposite (piece ∷ pieces) payloads n u ms next waits is valid (fed, mid, first, later, feeds, drains, hears, all) =
    let left = drained from to opposite first n (u ++ piece) (concat pieces) ms mid (append_assoc u piece (concat pieces) ∙ is) valid (rw feeds at drains) in
    let rest = heard_all from to opposite pieces later left.n left.u left.later next left.waits left.stream left.valid (rw left.next_is at hears) in
    (all ∙ ap (λ (l : List (List ℕ)). first ++ l) rest.0 ∙ sym left.all, rest.1)

pub heard : (from to : SocketSide) → AreOpposite from to → IsHeardBy from to
heard from to opposite messages short sent sends_all pieces cut payloads next hears =
    let all = sent_all MOST_MESSAGE messages (fresh_lane from) sent refl short sends_all in
    heard_all from to opposite pieces payloads 0 [] messages next (nothing_waits (role_of to) MOST_MESSAGE) (cut ∙ all.0) all.1 hears

pub server_takes : (seed : List ℕ) → AreOpposite (Client seed) Server
server_takes seed n = (refl, key_is_mask seed n)

pub client_takes : (seed : List ℕ) → AreOpposite Server (Client seed)
client_takes seed n = (refl, tt)
