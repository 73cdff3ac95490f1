-- What each frame that a connection reads keeps of it.
use Rattle.std.proofs.Common.{◌≡◌, ℕ, ◌≤◌, cond, Bool, true, false, List, ◌∷◌, ◌++◌, length, Option, None, Some, Result, Ok, Err, refl, arith, inl, inr}
use Rattle.std.specs.Prelude.{codes}
use Rattle.std.specs.Str.{chars}
use lib.Utf8.{encode}
use Rattle.std.proofs.lemmas.Bool.Decides.{leb_tells}
use Rattle.websocket.specs.declared.error.Error.{Error}
use Rattle.websocket.specs.declared.protocol.state.WebSocketState.TheVariants.{Active, ClosedByPeer}
use Rattle.websocket.specs.declared.protocol.incomplete.MessageType.{MessageType}
use Rattle.websocket.specs.declared.protocol.incomplete.MessageType.TheVariants as Kind
use Rattle.websocket.specs.declared.protocol.frame.coding.CloseCode.{CloseCode}
use Rattle.websocket.specs.declared.protocol.frame.coding.OpCode.{OpCode}
use Rattle.websocket.specs.declared.protocol.frame.coding.OpCode.TheVariants as Op
use Rattle.websocket.specs.declared.protocol.frame.coding.Data.{Data}
use Rattle.websocket.specs.declared.protocol.frame.coding.Data.TheVariants.{Continue, Text, Binary}
use Rattle.websocket.specs.declared.protocol.frame.coding.Control.{Control}
use Rattle.websocket.specs.declared.protocol.frame.coding.Control.TheVariants.{Close, Ping, Pong}
use Rattle.websocket.specs.declared.protocol.frame.codec.FrameStatus.TheVariants.{Complete}
use Rattle.websocket.specs.Frame.{check_size}
use Rattle.websocket.specs.Text.{is_utf8}
use Rattle.websocket.specs.Connection.{Connection, Effect, Outgoing, can_write, has_allowed_code, decode_close, on_close, on_short_control, on_control, complete_message, check_so_far, deliver, on_message_bytes, on_data_after, on_data, check_header, on_opcode, on_frame, read_step}
use Rattle.websocket.proofs.DecodeLemmas.{ltb_false, ltb_true}
use Rattle.websocket.proofs.EffectLemmas.{fits_limit}
use Rattle.websocket.proofs.StreamLemmas.{after_check_passed, TookFrame_from_read}
use Rattle.hw_socket.specs.Masks.{IsShort}
use Rattle.hw_socket.specs.Messages.{closes, AreWithin, IsData}
use Rattle.hw_socket.specs.Streams.{outgoing, Pong as PongFrame, Close as CloseFrame, IsControlPayload, IsClosePayload}

-- what is replied while the connection goes on: a pong, if anything
abbrev pub IsPong : Option Outgoing → Type 0
IsPong None = Unit {0}
IsPong (Some frame) = (payload : List ℕ) × IsControlPayload payload × (frame ≡ outgoing (PongFrame payload))

-- what is replied to a close frame
abbrev pub IsCloseReply : Option Outgoing → Type 0
IsCloseReply None = ⊥
IsCloseReply (Some frame) = (payload : List ℕ) × IsClosePayload payload × (frame ≡ outgoing (CloseFrame payload))

-- the side and the limits stay, a reply is a pong or answers a close, a close alone ends the connection, and fragments stay within
-- the limit
pub record IsTame (limit : ℕ) (conn : Connection) (effect : Effect) : Type 0 where
  pub role : effect.next.role ≡ conn.role
  pub config : effect.next.config ≡ conn.config
  pub short : IsShort effect.reply
  pub stays : closes effect.message ≡ false → effect.next.state ≡ conn.state
  pub quiet : IsData effect.message → effect.reply ≡ None
  pub pongs : closes effect.message ≡ false → IsPong effect.reply
  pub replies : closes effect.message ≡ true → conn.state ≡ Active → IsCloseReply effect.reply
  pub ends : closes effect.message ≡ true → conn.state ≡ Active → effect.next.state ≡ ClosedByPeer
  pub within : conn.config.max_message_size ≡ Some limit → AreWithin limit conn.fragments → AreWithin limit effect.next.fragments

ok_is : {A : Type 0} {a b : A} → ◌≡◌ {A = Result A Error} (Ok a) (Ok b) → b ≡ a
ok_is e = cc e

-- ---- control frames

-- the reply to a close frame whose status may not be sent
violation : IsClosePayload (3 ∷ 234 ∷ codes "Protocol violation")
unfolding decode_close is_utf8 chars encode
violation = (omega arith, (_, refl))

close_cases : (limit : ℕ) (conn : Connection) (payload : List ℕ) (frame : Option (CloseCode × List ℕ)) (active allowed : Bool) (effect : Effect) → length payload ≤ 125 → decode_close payload ≡ Ok frame
    → can_write conn.state ≡ active → has_allowed_code frame ≡ allowed → on_close conn payload (Ok frame) ≡ Ok effect → IsTame limit conn effect
close_cases limit conn payload frame false allowed effect short decodes state code is =
    rw (ok_is is, state) (record { role = refl; config = refl; short = tt; stays = λ no. absurd (cc no); quiet = λ no. absurd no; pongs = λ no. absurd (cc no); replies = λ _ active. absurd (cc (rw active at state)); ends = λ _ active. absurd (cc (rw active at state)); within = λ _ w. w })
close_cases limit conn payload frame true true effect short decodes state code is =
    rw (ok_is is, state, code) (record { role = refl; config = refl; short = short; stays = λ no. absurd (cc no); quiet = λ no. absurd no; pongs = λ no. absurd (cc no); replies = λ _ _. (payload, (short, (frame, decodes)), refl); ends = λ _ _. refl; within = λ _ w. w })
close_cases limit conn payload frame true false effect short decodes state code is =
    rw (ok_is is, state, code) (record { role = refl; config = refl; short = omega arith; stays = λ no. absurd (cc no); quiet = λ no. absurd no; pongs = λ no. absurd (cc no); replies = λ _ _. (_, violation, refl); ends = λ _ _. refl; within = λ _ w. w })

tame-close : (limit : ℕ) (conn : Connection) (payload : List ℕ) (r : Result (Option (CloseCode × List ℕ)) Error) (effect : Effect) → length payload ≤ 125 → decode_close payload ≡ r → on_close conn payload r ≡ Ok effect → IsTame limit conn effect
tame-close limit conn payload (Err e) effect short decodes is = absurd (cc is)
tame-close limit conn payload (Ok frame) effect short decodes is = close_cases limit conn payload frame _ _ effect short decodes refl refl is

pong_short : (active : Bool) (payload : List ℕ) → length payload ≤ 125
    → IsShort (cond active (Some (record { opcode = Op.Control Pong; payload = payload })) None)
pong_short true payload short = short
pong_short false payload short = tt

is_pong : (active : Bool) (payload : List ℕ) → length payload ≤ 125
    → IsPong (cond active (Some (record { opcode = Op.Control Pong; payload = payload })) None)
is_pong true payload short = (payload, short, refl)
is_pong false payload short = tt

tame-short_control : (limit : ℕ) (conn : Connection) (control : Control) (payload : List ℕ) (effect : Effect) → length payload ≤ 125 → on_short_control conn control payload ≡ Ok effect → IsTame limit conn effect
tame-short_control limit conn Close payload effect short is = tame-close limit conn payload _ effect short refl is
tame-short_control limit conn Pong payload effect short is =
    rw (ok_is is) (record { role = refl; config = refl; short = tt; stays = λ _. refl; quiet = λ no. absurd no; pongs = λ _. tt; replies = λ no. absurd (cc no); ends = λ no. absurd (cc no); within = λ _ w. w })
tame-short_control limit conn Ping payload effect short is =
    rw (ok_is is) (record { role = refl; config = refl; short = pong_short (can_write conn.state) payload short; stays = λ _. refl; quiet = λ no. absurd no; pongs = λ _. is_pong (can_write conn.state) payload short; replies = λ no. absurd (cc no); ends = λ no. absurd (cc no); within = λ _ w. w })

tame-control : (limit : ℕ) (conn : Connection) (control : Control) (is_final : Bool) (payload : List ℕ) (effect : Effect) → on_control conn control is_final payload ≡ Ok effect → IsTame limit conn effect
unfolding on_control
tame-control limit conn control false payload effect is = absurd (cc is)
tame-control limit conn control true payload effect is =
    elim (leb_tells (length payload) 125) [
      | inl p ↦ tame-short_control limit conn control payload effect p.1 (rw (ltb_false 125 (length payload) p.1) at is)
      | inr p ↦ absurd (cc (rw (ltb_true 125 (length payload) p.1) at is))
    ]

-- ---- data frames

tame-text : (limit : ℕ) (conn : Connection) (bs : List ℕ) (valid : Bool) (effect : Effect) → is_utf8 bs ≡ valid → deliver conn (complete_message Kind.Text bs) ≡ Ok effect → IsTame limit conn effect
tame-text limit conn bs false effect test is = absurd (cc (rw test at is))
tame-text limit conn bs true effect test is =
    rw (ok_is (rw test at is)) (record { role = refl; config = refl; short = tt; stays = λ _. refl; quiet = λ _. refl; pongs = λ _. tt; replies = λ no. absurd (cc no); ends = λ no. absurd (cc no); within = λ _ _. tt })

tame-delivered : (limit : ℕ) (conn : Connection) (kind : MessageType) (bs : List ℕ) (effect : Effect) → deliver conn (complete_message kind bs) ≡ Ok effect → IsTame limit conn effect
tame-delivered limit conn Kind.Text bs effect is = tame-text limit conn bs _ effect refl is
tame-delivered limit conn Kind.Binary bs effect is =
    rw (ok_is is) (record { role = refl; config = refl; short = tt; stays = λ _. refl; quiet = λ _. refl; pongs = λ _. tt; replies = λ no. absurd (cc no); ends = λ no. absurd (cc no); within = λ _ _. tt })

tame-bytes : (limit : ℕ) (conn : Connection) (kind : MessageType) (is_final : Bool) (bs : List ℕ) (effect : Effect) → on_message_bytes conn kind is_final bs ≡ Ok effect → IsTame limit conn effect
unfolding on_message_bytes
tame-bytes limit conn kind true bs effect is =
    tame-delivered limit conn kind bs effect (after_check_passed (check_size (length bs) conn.config.max_message_size) _ effect is)
tame-bytes limit conn kind false bs effect is =
    let fits = fits_limit conn.config.max_message_size bs _ effect is in
    let kept = after_check_passed (check_so_far kind bs) _ effect (after_check_passed (check_size (length bs) conn.config.max_message_size) _ effect is) in
    rw (ok_is kept) (record { role = refl; config = refl; short = tt; stays = λ _. refl; quiet = λ _. refl; pongs = λ _. tt; replies = λ no. absurd (cc no); ends = λ no. absurd (cc no); within = λ limited _. rw limited at fits })

tame-data_after : (limit : ℕ) (conn : Connection) (fragments : Option (MessageType × List ℕ)) (kind : Data) (is_final : Bool) (payload : List ℕ) (effect : Effect) → on_data_after conn fragments kind is_final payload ≡ Ok effect → IsTame limit conn effect
tame-data_after limit conn None Continue is_final payload effect is = absurd (cc is)
tame-data_after limit conn None Text is_final payload effect is = tame-bytes limit conn Kind.Text is_final payload effect is
tame-data_after limit conn None Binary is_final payload effect is = tame-bytes limit conn Kind.Binary is_final payload effect is
tame-data_after limit conn (Some p) Continue is_final payload effect is = tame-bytes limit conn p.0 is_final (p.1 ++ payload) effect is
tame-data_after limit conn (Some p) Text is_final payload effect is = absurd (cc is)
tame-data_after limit conn (Some p) Binary is_final payload effect is = absurd (cc is)

tame-opcode : (limit : ℕ) (conn : Connection) (op : OpCode) (is_final : Bool) (payload : List ℕ) (effect : Effect) → on_opcode conn op is_final payload ≡ Ok effect → IsTame limit conn effect
unfolding on_data
tame-opcode limit conn (Op.Control control) is_final payload effect is = tame-control limit conn control is_final payload effect is
tame-opcode limit conn (Op.Data kind) is_final payload effect is = tame-data_after limit conn conn.fragments kind is_final payload effect is

pub tame : (limit : ℕ) (conn : Connection) (bs : List ℕ) (p : ℕ × Effect) → read_step conn bs ≡ Ok (Complete p) → IsTame limit conn p.1
unfolding on_frame
tame limit conn bs p read =
    let took = TookFrame_from_read conn bs p read in
    tame-opcode limit conn took.header.opcode took.header.is_final took.payload p.1 (after_check_passed (check_header conn took.header) _ p.1 took.does)
