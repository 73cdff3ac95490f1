-- The frames that a lane writes, each whole and with the mask of its number.
use Rattle.std.specs.Prelude.{◌≤◌, ◌+◌, ◌%◌, ◌^◌, ℕ, List, ◌++◌, length, take, ⊤, Option, None, Some, refl}
use Rattle.std.specs.Int.{w64, to_be_bytes}
use Rattle.std.specs.Coded.{Coded, code_by, coded×, coded_ℕ, coded_list}
use Rattle.sha1.specs.Sha1.{sha1}
use Rattle.websocket.specs.Connection.{Outgoing, whole_header}
use Rattle.websocket.specs.Frame.{encode_frame}
use Rattle.hw_socket.specs.declared.vocabulary.SocketSide.{SocketSide}
use Rattle.hw_socket.specs.declared.vocabulary.SocketSide.TheVariants.{Server, Client}
use Rattle.hw_socket.specs.contracts.vocabulary.SocketSide as side_type

-- what a side has written: how many frames, modulo 2^64, and those of their bytes that aren't dropped
pub record Written : Type 0 where
  pub side : SocketSide
  pub frames : ℕ
  pub bytes : List ℕ

abbrev pub written_code : Coded Written
written_code =
    code_by (SocketSide × (ℕ × List ℕ)) (coded× side_type.the_row.coded (coded× coded_ℕ (coded_list coded_ℕ)))
    (λ w. (w.side, (w.frames, w.bytes)))
    (λ p. record { side = p.0; frames = p.1.0; bytes = p.1.1 })
    (λ _. refl)

-- the key of a client's frame with this number, from 0: the first four bytes of SHA-1 of the seed and the number as eight bytes
unfoldable pub key_of : List ℕ → ℕ → List ℕ
key_of seed number = take 4 (sha1 (seed ++ to_be_bytes w64 number))

-- the mask of a side's frame with this number: a server's has none
abbrev pub mask_of : SocketSide → ℕ → Option (List ℕ)
mask_of Server number = None
mask_of (Client seed) number = Some (key_of seed number)

-- the bytes of a whole frame under a mask
abbrev pub with_mask : Option (List ℕ) → Outgoing → List ℕ
with_mask mask frame = encode_frame (whole_header frame.opcode mask) frame.payload

-- the frame was appended, with the mask of its number
abbrev pub after_frame : Written → Outgoing → Written
after_frame w frame = record w { frames = (w.frames + 1) % 2 ^ 64; bytes = w.bytes ++ with_mask (mask_of w.side w.frames) frame }

-- the same, where there is a frame to append
abbrev pub after_reply : Written → Option Outgoing → Written
after_reply w None = w
after_reply w (Some frame) = after_frame w frame

-- the frame has the payload of a control frame (RFC 6455, 5.5)
abbrev pub IsShort : Option Outgoing → Type 0
IsShort None = ⊤
IsShort (Some frame) = length frame.payload ≤ 125
