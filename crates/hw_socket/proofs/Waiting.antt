-- How many bytes there are where a read waits for more.
use Rattle.std.proofs.Common.{◌≡◌, ℕ, ◌+◌, ◌<◌, ◌≤◌, ◌%◌, slice_index, List, length, drop, Option, None, Some, Result, Ok, Err, inl, inr, refl, arith, length-drop}
use Rattle.std.proofs.lemmas.Bool.Decides.{leb_tells, nat_tests}
use Rattle.websocket.specs.declared.error.Error.{Error}
use Rattle.websocket.specs.declared.error.ProtocolError.{ProtocolError}
use Rattle.websocket.specs.declared.protocol.frame.coding.OpCode.{OpCode}
use Rattle.websocket.specs.declared.protocol.frame.header.FrameHeader.{FrameHeader}
use Rattle.websocket.specs.declared.protocol.frame.codec.RawFrame.{RawFrame}
use Rattle.websocket.specs.declared.protocol.frame.codec.FrameStatus.{FrameStatus}
use Rattle.websocket.specs.declared.protocol.frame.codec.FrameStatus.TheVariants.{Partial, Complete}
use Rattle.websocket.specs.OpCode.{parse_opcode}
use Rattle.websocket.specs.FrameHeader.{Decoded, decode_header, decode_after_opcode, decode_mask, decode_length, extended_len, header_len}
use Rattle.websocket.specs.Frame.{frame_at, frame_after_header, decode_frame}
use Rattle.websocket.specs.Connection.{Connection, Effect, check_open, consumed_with, read_decoded, read_step}
use Rattle.websocket.proofs.DecodeLemmas.{eqb_false, ltb_false, ltb_true}
use Rattle.websocket.proofs.StreamLemmas.{after_check_passed}

extended_short : (n : ℕ) → extended_len n ≤ 8
extended_short n = grind (arith, nat_tests)

header_short : (h : FrameHeader) (n : ℕ) → header_len h n ≤ 14
header_short h n = grind (arith, nat_tests, extended_short n)

length_short : (bits : ℕ) (rest : List ℕ) → decode_length bits rest ≡ Ok None → length rest < 8
length_short bits rest is = grind (arith, nat_tests)

mask_short : (bs : List ℕ) (op : OpCode) (d : Decoded ℕ) → (d ≡ Ok None → length bs < 14) → decode_mask bs op d ≡ Ok None → length bs < 14
mask_short bs op (Err e) short is = absurd (cc is)
mask_short bs op (Ok None) short is = short refl
mask_short bs op (Ok (Some n)) short is =
    elim (leb_tells (2 + extended_len n + 4) (length bs)) [
      | inl p ↦ grind (arith, nat_tests, ltb_false (length bs) (2 + extended_len n + 4) p.1)
      | inr p ↦ omega (arith, extended_short n, p.1)
    ]

opcode_short : (bs : List ℕ) (op : Result OpCode ProtocolError) → decode_after_opcode bs op ≡ Ok None → length bs < 14
opcode_short bs (Err e) is = absurd (cc is)
opcode_short bs (Ok op) is =
    elim (leb_tells 2 (length bs)) [
      | inl p ↦ mask_short bs op _ (λ (none : decode_length (slice_index bs 1 % 128) (drop 2 bs) ≡ Ok None). omega (arith, length_short (slice_index bs 1 % 128) (drop 2 bs) none, length-drop 2 bs)) (rw (ltb_false (length bs) 2 p.1) at is)
      | inr p ↦ omega (arith, p.1)
    ]

cut_header_short : (bs : List ℕ) → decode_header bs ≡ Ok None → length bs < 14
unfolding decode_header
cut_header_short bs is =
    elim (leb_tells 1 (length bs)) [
      | inl p ↦ opcode_short bs (parse_opcode (slice_index bs 0 % 16)) (rw (eqb_false (length bs) 0 (omega (arith, p.1))) at is)
      | inr p ↦ omega (arith, p.1)
    ]

at_short : (limit : ℕ) (bs : List ℕ) (h : FrameHeader) (size n : ℕ) → size ≤ limit → ◌≡◌ {A = FrameStatus RawFrame} (frame_at bs h size) (Partial n) → length bs < limit + 14
at_short limit bs h size n fits is =
    elim (leb_tells (header_len h size + size) (length bs)) [
      | inl p ↦ absurd (cc (rw (ltb_false (length bs) (header_len h size + size) p.1) at is))
      | inr p ↦ omega (arith, header_short h size, p.1)
    ]

status_is : {A : Type 0} {a b : A} → ◌≡◌ {A = Result A Error} (Ok a) (Ok b) → a ≡ b
status_is e = cc e

frame_short : (limit : ℕ) (bs : List ℕ) (d : Decoded (FrameHeader × ℕ)) (n : ℕ) → decode_header bs ≡ d → frame_after_header (Some limit) bs d ≡ Ok (Partial n) → length bs < limit + 14
frame_short limit bs (Err e) n header is = absurd (cc is)
frame_short limit bs (Ok None) n header is = omega (arith, cut_header_short bs header)
frame_short limit bs (Ok (Some p)) n header is =
    elim (leb_tells p.1 limit) [
      | inl q ↦ at_short limit bs p.0 p.1 n q.1 (status_is (rw (ltb_false limit p.1 q.1) at is))
      | inr q ↦ absurd (cc (rw (ltb_true limit p.1 q.1) at is))
    ]

never_waits : (k n : ℕ) (r : Result Effect Error) → consumed_with k r ≡ Ok (Partial n) → ⊥
never_waits k n (Err e) is = cc is
never_waits k n (Ok effect) is = cc is

decoded_short : (conn : Connection) (limit : ℕ) (most : Option ℕ) (bs : List ℕ) (r : Result (FrameStatus RawFrame) Error) (n : ℕ) → most ≡ Some limit → decode_frame most bs ≡ r
    → read_decoded conn bs r ≡ Ok (Partial n) → length bs < limit + 14
unfolding decode_frame
decoded_short conn limit most bs (Err e) n limited is waits = absurd (cc waits)
decoded_short conn limit most bs (Ok (Partial k)) n limited is waits = frame_short limit bs (decode_header bs) k refl (rw limited at is)
decoded_short conn limit most bs (Ok (Complete frame)) n limited is waits = absurd (never_waits _ n _ waits)

-- what waits is shorter than the limit with the longest header
pub waits_short : (limit : ℕ) (conn : Connection) (bs : List ℕ) (n : ℕ) → conn.config.max_frame_size ≡ Some limit → read_step conn bs ≡ Ok (Partial n) → length bs < limit + 14
unfolding read_step
waits_short limit conn bs n limited waits =
    decoded_short conn limit conn.config.max_frame_size bs _ n limited refl (after_check_passed (check_open conn.role conn.state) _ _ waits)
