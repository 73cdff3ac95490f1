-- Buffers of which some bytes were taken.
use Rattle.std.proofs.Common.{◌≡◌, ◌≢◌, ◌+◌, ◌≤◌, ℕ, List, length, drop, ap, arith}
use Rattle.std.proofs.lemmas.List.{length-drop}
use Rattle.hw_socket.specs.Buffers.{IsLean}

-- not all were
pub not_all_taken : (start count room : ℕ) (bytes : List ℕ) → start ≤ length bytes → count ≤ length (drop start bytes) → start + count ≢ length bytes
    → (start + count ≤ length bytes) × IsLean (drop (start + count) bytes) room
not_all_taken start count room bytes inside within some =
    let most : start + count ≤ length bytes = omega (arith, length-drop start bytes, inside, within) in
    (most, λ none. absurd (some (omega (arith, length-drop (start + count) bytes, ap length none, most))))
