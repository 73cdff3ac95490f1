-- A session of a lane: calls of it, the first first.
use Rattle.std.specs.Prelude.{◌≡◌, ⊤, ℕ, Bool, true, false, List, [], ◌∷◌, ◌++◌}
use Rattle.hw_socket.specs.declared.vocabulary.SocketRead.{SocketRead}
use Rattle.hw_socket.specs.declared.vocabulary.SocketRead.TheVariants.{Payload, Gone}
use Rattle.hw_socket.specs.Lane.{Lane}
use Rattle.hw_socket.specs.Reading.{Feeds, Takes, Loses}
use Rattle.hw_socket.specs.Sending.{Sent, Says, Drops, after_shut}

-- a call that changes a lane, and what it answered; one that fails for memory changes nothing, but for a read
pub data Call : Type 0 where
  Feed : (piece : List ℕ) → Call
  Read : (answer : SocketRead) → Call
  FailedRead : Call
  Send : (message : Sent) → (answer : Bool) → Call
  Drop : (piece : List ℕ) → Call  -- these bytes were written and leave `out`
  Shut : Call

-- what the call makes of the lane
abbrev pub Does : Call → Lane → Lane → Type 0
Does (Feed piece) lane next = Feeds lane piece next
Does (Read answer) lane next = Takes lane next answer
Does FailedRead lane next = Loses lane next
Does (Send message answer) lane next = Says lane next message.bytes message.is_text answer
Does (Drop piece) lane next = Drops lane piece next
Does Shut lane next = next ≡ after_shut lane

-- the calls lead from one lane to the other
abbrev pub Session : Lane → List Call → Lane → Type 0
Session lane [] next = next ≡ lane
Session lane (call ∷ calls) next = (mid : Lane) × Does call lane mid × Session mid calls next

-- all that was fed
abbrev pub fed : List Call → List ℕ
fed [] = []
fed (Feed piece ∷ calls) = piece ++ fed calls
fed (_ ∷ calls) = fed calls

-- the payloads that reads gave
abbrev pub heard : List Call → List (List ℕ)
heard [] = []
heard (Read (Payload bytes) ∷ calls) = bytes ∷ heard calls
heard (_ ∷ calls) = heard calls

-- the messages that `send` took
abbrev pub said : List Call → List Sent
said [] = []
said (Send message true ∷ calls) = message ∷ said calls
said (_ ∷ calls) = said calls

-- the bytes that left `out`
abbrev pub dropped : List Call → List ℕ
dropped [] = []
dropped (Drop piece ∷ calls) = piece ++ dropped calls
dropped (_ ∷ calls) = dropped calls

-- all that the lane wrote: what left, and what waits in `out` after these calls
abbrev pub written : List Call → Lane → List ℕ
written calls next = dropped calls ++ next.out.bytes

-- the lane was shut
abbrev pub is_shut : List Call → Bool
is_shut [] = false
is_shut (Shut ∷ calls) = true
is_shut (_ ∷ calls) = is_shut calls

-- no read gave more than that the lane is gone, and nothing was sent
abbrev pub AreRefused : List Call → Type 0
AreRefused [] = ⊤
AreRefused (Read answer ∷ calls) = (answer ≡ Gone) × AreRefused calls
AreRefused (FailedRead ∷ calls) = ⊥
AreRefused (Send message answer ∷ calls) = (answer ≡ false) × AreRefused calls
AreRefused (_ ∷ calls) = AreRefused calls
