-- A short frame under one mask, made the same frame under another.
use Rattle.std.proofs.Common.{inl, inr, ◌≡◌, ℕ, ◌+◌, ◌≤◌, List, [], ◌∷◌, ◌++◌, length, take, drop, Option, None, Some, Result, Ok, Err, ◌∙◌, arith, length-append, append-nil}
use Rattle.std.proofs.lemmas.List.{take_at, drop_at}
use Rattle.websocket.specs.FrameHeader.{encode_header}
use Rattle.websocket.specs.Mask.{apply_mask}
use Rattle.websocket.specs.Connection.{Connection, Effect, Outgoing, Sends, read_step, check_close, close_to}
use Rattle.websocket.specs.OpCode.{opcode_bits}
use Rattle.websocket.proofs.DecodeLemmas.{ltb_true}
use Rattle.websocket.proofs.MaskLemmas.{apply_mask-apply_mask}
use Rattle.websocket.specs.declared.error.Error.{Error}
use Rattle.websocket.specs.declared.error.Error.TheVariants.{OutOfMemory}
use Rattle.websocket.specs.declared.protocol.frame.codec.FrameStatus.{FrameStatus}
use Rattle.websocket.specs.declared.protocol.frame.codec.FrameStatus.TheVariants.{Partial, Complete}
use Rattle.websocket.specs.declared.protocol.state.WebSocketState.{WebSocketState}
use Rattle.websocket.specs.declared.protocol.frame.coding.CloseCode.{CloseCode}
use Rattle.websocket.specs.CloseCode.{close_code_number}
use Rattle.websocket.specs.View.{GivesError, ReadLeaves, Leaves as LibraryLeaves}
use Rattle.hw_socket.specs.Masks.{Written, with_mask, after_reply, IsShort}
use Rattle.hw_socket.specs.Closing.{after_close, close_frame}
use Rattle.hw_socket.specs.Messages.{role_of}
use Rattle.hw_socket.specs.Reading.{Leaves}
use Rattle.hw_socket.proofs.Effects.{tame}

-- what stands before and after the mask of a short frame
short_frame : (key : List ℕ) (f : Outgoing) → length f.payload ≤ 125
    → with_mask (Some key) f ≡ (128 + opcode_bits f.opcode) ∷ (128 + length f.payload) ∷ (key ++ apply_mask key f.payload)
unfolding encode_header
short_frame key f short = rw (ltb_true (length f.payload) 126 (omega arith))

pub another_key : (old key frame : List ℕ) (f : Outgoing) → length old ≡ 4 → length f.payload ≤ 125 → frame ≡ with_mask (Some old) f
    → take 2 frame ++ key ++ apply_mask key (apply_mask (take 4 (drop 2 frame)) (drop 6 frame)) ≡ with_mask (Some key) f
another_key old key frame f four short is =
    rw (
      is,
      short_frame old f short,
      short_frame key f short,
      take_at old (apply_mask old f.payload) 4 four,
      drop_at old (apply_mask old f.payload) 4 four,
      apply_mask-apply_mask old f.payload,
    )

-- a masked frame has a mask
pub long_enough : (old : List ℕ) (f : Outgoing) → length old ≡ 4 → length f.payload ≤ 125 → 6 ≤ length (with_mask (Some old) f)
long_enough old f four short = rw (short_frame old f short) (omega (arith, length-append old (apply_mask old f.payload)))

pub not_empty : (mask : Option (List ℕ)) (f : Outgoing) → 2 ≤ length (with_mask mask f)
unfolding encode_header
not_empty mask f = omega arith

-- what sealing makes of the frame that a call of the library appended
abbrev pub Sealed : Written → Written → List ℕ → Type 0
Sealed mid new before =
    (reply : Option Outgoing) → IsShort reply → Sends (role_of mid.side) reply before mid.bytes → new ≡ after_reply (record mid { bytes = before }) reply

pub leaves : (w new : Written) (bytes bs : List ℕ) (before after : Connection) (r : Result (FrameStatus (ℕ × Effect)) Error) → read_step before bs ≡ r → before.role ≡ role_of w.side
    → ReadLeaves r before after w.bytes bytes → Sealed (record w { bytes = bytes }) new w.bytes → Leaves r before after w new
leaves w new bytes bs before after (Err e) read role left sealed = left
leaves w new bytes bs before after (Ok (Partial n)) read role left sealed = (left.0, sealed None tt left.1)
leaves w new bytes bs before after (Ok (Complete p)) read role left sealed =
    let t = tame 0 before bs p read in
    let same : after.role ≡ role_of w.side = rw left.0 (t.role ∙ role) in
    (left.0, sealed p.1.reply t.short (rw same at left.1))

pub close_written : (w new : Written) (bytes : List ℕ) (conn after : Connection) (code : CloseCode) (state : Option WebSocketState) → conn.role ≡ role_of w.side → check_close (Some (code, [])) ≡ Ok tt
    → LibraryLeaves (close_to conn (Some (code, [])) state) after w.bytes bytes → Sealed (record w { bytes = bytes }) new w.bytes → new ≡ after_close w (close_code_number code) state
close_written w new bytes conn after code None role sendable left sealed = sealed None tt left.1
close_written w new bytes conn after code (Some state) role sendable left sealed =
    let l = rw (sendable, append-nil) at left in
    let two_bytes : length (close_frame (close_code_number code)).payload ≤ 125 = omega arith in
    let same : after.role ≡ role_of w.side = rw l.0 role in
    sealed (Some (close_frame (close_code_number code))) two_bytes (rw same at l.1)

-- a close with a status that may be sent fails for memory alone
pub close_memory : (conn : Connection) (code : CloseCode) (state : Option WebSocketState) (error : Error) → check_close (Some (code, [])) ≡ Ok tt → GivesError (close_to conn (Some (code, [])) state) error → error ≡ OutOfMemory
close_memory conn code state error sendable (inl memory) = memory
close_memory conn code None error sendable (inr gives) = absurd (cc gives)
close_memory conn code (Some state) error sendable (inr gives) = absurd (cc (rw sendable at gives))
