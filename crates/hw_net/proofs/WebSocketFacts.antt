-- How a read of a wire and one of a WebSocket come to one turn.
use Rattle.std.proofs.Common.{◌≡◌, ◌≤◌, ◌==◌, ◌++◌, ℕ, List, [], ◌∷◌, Bool, true, false, Option, Some, IfOk, Result, Ok, Err, refl, sym, ap, subst, ◌∙◌, arith, length, length-take, min, take}
use Rattle.std.proofs.lemmas.List.{nil_from_length}
use Rattle.websocket.specs.Connection.{read_step}
use Rattle.websocket.specs.Frame.{decode_frame}
use Rattle.websocket.specs.FrameHeader.{decode_header}
use Rattle.hw_door.specs.Traffic.{Answer}
use Rattle.hw_socket.specs.Lane.{Lane, fresh_lane}
use Rattle.hw_socket.specs.Reading.{Feeds}
use Rattle.hw_socket.specs.declared.vocabulary.SocketSide.{SocketSide}
use Rattle.hw_net.specs.declared.limits.TheConstants.{PIECE}
use Rattle.hw_net.specs.declared.input.Input.{Input}
use Rattle.hw_net.specs.declared.input.Input.TheVariants as input
use Rattle.hw_net.specs.Trace.{Tells, Reads}
use Rattle.hw_net.specs.WebSocketState.{WebSocketState, HearsWebSocket, ReadsInto, Finds, IsInput, IsWaiting, IsWebSocketState, room_of}
use Rattle.hw_net.proofs.Shares.{equal}

pub room-wants_read : (before : WebSocketState) → before.wants_read ≡ true → room_of before ≡ PIECE
room-wants_read before e = rw e refl

pub websocket_state-reads : (a b : Option (List Answer)) (wire room : ℕ) (before after : WebSocketState) (piece : List ℕ) → before.wants_read ≡ true → room ≡ PIECE →
    ((answer : Answer) × Tells a b (answer ∷ []) × Reads wire room answer (Some piece)) → Feeds before.lane piece after.lane → after.lost_bytes ≡ before.lost_bytes →
    after.last_read_was_full ≡ (length piece == room) →
    (answers : List Answer) × Tells a b answers × ReadsInto wire before after answers true
websocket_state-reads a b wire room before after piece wants_read size h fed same_spoiled full =
    let same : room ≡ room_of before = size ∙ sym (room-wants_read before wants_read) in
    let some : 1 ≤ room_of before = omega (arith, room-wants_read before wants_read) in (
      h.0 ∷ [],
      h.1,
      record {
        got = Some piece;
        read = (some, subst (λ n. Reads wire n h.0 (Some piece)) same h.2);
        asked = λ had. omega arith;
        whole = refl;
        fed = fed;
        lost_bytes = same_spoiled;
        full = full ∙ ap (λ n. length piece == n) same;
      },
    )

pub input-of : (wire : ℕ) (before mid after : WebSocketState) (answers : List Answer) (heard : Input) → (r : ReadsInto wire before mid answers true) → Finds mid after heard → IsInput before after answers r.got heard
input-of wire before mid after answers input.Nothing r f = ((sym r.whole, (mid.lane, r.fed, f.0)), r.asked, f.1)
input-of wire before mid after answers (input.Request request) r f = absurd f
input-of wire before mid after answers (input.Refused refusal) r f = absurd f
input-of wire before mid after answers (input.Response status body) r f = absurd f
input-of wire before mid after answers input.Upgraded r f = absurd f
input-of wire before mid after answers (input.Message bytes) r f = ((sym r.whole, (mid.lane, r.fed, f.0)), f.1)
input-of wire before mid after answers input.Broken r f = absurd f
input-of wire before mid after answers input.Gone r f = ((sym r.whole, (mid.lane, r.fed, f.0)), f.1)

-- a look reads nothing
pub full-of : (before after : WebSocketState) (heard : Input) → Finds before after heard → after.last_read_was_full ≡ before.last_read_was_full
full-of before after input.Nothing f = f.2
full-of before after (input.Request request) f = absurd f
full-of before after (input.Refused refusal) f = absurd f
full-of before after (input.Response status body) f = absurd f
full-of before after input.Upgraded f = absurd f
full-of before after (input.Message bytes) f = f.2
full-of before after input.Broken f = absurd f
full-of before after input.Gone f = f.2

-- the buffer is filled exactly if all that is in front is as long as it
pub filled : (count : ℕ) (buf : List ℕ) (full : Bool) → count ≤ length buf → full ≡ (count == length buf) → full ≡ (length (take count buf) == length buf)
filled count buf full some e =
    let size : length (take count buf) ≡ min count (length buf) = length-take count buf in
    e ∙ ap (λ n. n == length buf) (omega (arith, size, some))

pub websocket_state-hears : {E : Type 0} (a b : Option (List Answer)) (wire : ℕ) (before mid after : WebSocketState) (whole : Bool) (r : Result Input E) → whole ≡ true → before.lost_bytes ≡ false →
    ((answers : List Answer) × Tells a b answers × ReadsInto wire before mid answers whole) → IfOk r (Finds mid after) → after.lost_bytes ≡ mid.lost_bytes →
    IfOk r (λ heard. (answers : List Answer) × Tells a b answers × HearsWebSocket wire before after answers heard)
websocket_state-hears a b wire before mid after whole (Ok heard) e had_all h f same =
    let read : ReadsInto wire before mid h.0 true = subst (λ w. ReadsInto wire before mid h.0 w) e h.2 in
    (h.0, h.1, record { got = read.got; read = read.read; is_input = input-of wire before mid after h.0 heard read f; lost_bytes = same ∙ read.lost_bytes; full = full-of mid after heard f ∙ read.full; breaks = λ lost. absurd (cc (sym had_all ∙ lost)) })
websocket_state-hears a b wire before mid after whole (Err why) e had_all h f same = f

-- ---- one that is new

-- one that was fed nothing waits for bytes
fresh-waits : (side : SocketSide) → IsWaiting (fresh_lane side)
unfolding read_step decode_frame decode_header
fresh-waits side = (1, refl, refl)

-- its wire is read first only if nothing came before
pub new-sound : (side : SocketSide) (came : List ℕ) (fresh fed : Lane) (wants_read : Bool) → fresh ≡ fresh_lane side → Feeds fresh came fed → wants_read ≡ (length came == 0) → IsWebSocketState fed wants_read false
new-sound side came fresh fed wants_read is feeds tells wants whole there =
    let none : came ≡ [] = nil_from_length came (equal (length came) 0 (sym tells ∙ wants)) in
    let same : fed ≡ fresh_lane side =
    feeds ∙ ap (λ (l : Lane). record l { unread = l.unread ++ came }) is ∙ ap (λ (b : List ℕ). record (fresh_lane side) { unread = b }) none in
    subst (λ (l : Lane). IsWaiting l) (sym same) (fresh-waits side)
