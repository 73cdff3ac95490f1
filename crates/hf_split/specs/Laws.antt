-- What holds of all streams.
use Rattle.std.specs.Prelude.{◌≡◌, ◌≤◌, ◌<◌, ◌⊎◌, ℕ, List, [], ◌++◌, length}
use Rattle.hf_split.specs.declared.framing.Framing.{Framing}
use Rattle.hf_split.specs.Held.{room_for}
use Rattle.hf_split.specs.Cuts.{Spelled, Framings, IsSpelling, BeginsWith, IsTooLong, IsBadLength, IsFaulty, IsWaiting, CanWrap, Cuts, wrapped}

-- a stream is cut in one way
abbrev pub HasOneCutting : Type 0
HasOneCutting = (framings : Framings) (most : ℕ) (stream : List ℕ) (items others : List Spelled) (rest more : List ℕ) →
    Cuts framings most stream items rest → Cuts framings most stream others more → (items ≡ others) × (rest ≡ more)

-- each stream has a cutting
abbrev pub HasCutting : Type 0
HasCutting = (framings : Framings) (most : ℕ) (stream : List ℕ) → (items : List Spelled) × ((rest : List ℕ) × Cuts framings most stream items rest)

-- bytes begin with one frame at most, and still do with more after them
abbrev pub BeginsOnce : Type 0
BeginsOnce = (framing : Framing) (most : ℕ) (bytes more : List ℕ) (item other : Spelled) →
    BeginsWith framing most bytes item → BeginsWith framing most (bytes ++ more) other → item ≡ other

-- The bytes begin with a frame, or with a fault, or wait, and no two of these: IsWaiting itself says that it is neither
-- of the others. A fault is a frame that is too long or a bad length, and not both.
pub record BeginsInOneWay (framing : Framing) (most : ℕ) (bytes : List ℕ) : Type 0 where
  pub some : ((item : Spelled) × BeginsWith framing most bytes item) ⊎ (IsFaulty framing most bytes ⊎ IsWaiting framing most bytes)
  pub frame_is_no_fault : (item : Spelled) → BeginsWith framing most bytes item → IsFaulty framing most bytes → ⊥
  pub one_fault : IsTooLong framing most bytes → IsBadLength framing bytes → ⊥

-- all bytes begin in one way
abbrev pub HasOneBeginning : Type 0
HasOneBeginning = (framing : Framing) (most : ℕ) (bytes : List ℕ) → BeginsInOneWay framing most bytes

-- the empty list of bytes waits
abbrev pub EmptyWaits : Type 0
EmptyWaits = (framing : Framing) (most : ℕ) → IsWaiting framing most []

-- bytes that wait leave room for more: a buffer of the largest frame with its framing is never full of them
abbrev pub WaitingHasRoom : Type 0
WaitingHasRoom = (framing : Framing) (most : ℕ) (bytes : List ℕ) → IsWaiting framing most bytes → length bytes < room_for most

-- bytes that are too long begin with no frame, nor do they with more after them
abbrev pub TooLongBeginsNone : Type 0
TooLongBeginsNone = (framing : Framing) (most : ℕ) (bytes more : List ℕ) (item : Spelled) →
    IsTooLong framing most bytes → BeginsWith framing most (bytes ++ more) item → ⊥

-- nor do bytes with a bad length
abbrev pub BadLengthBeginsNone : Type 0
BadLengthBeginsNone = (framing : Framing) (most : ℕ) (bytes more : List ℕ) (item : Spelled) →
    IsBadLength framing bytes → BeginsWith framing most (bytes ++ more) item → ⊥

-- bytes that are too long still are with more after them
abbrev pub TooLongStays : Type 0
TooLongStays = (framing : Framing) (most : ℕ) (bytes more : List ℕ) →
    IsTooLong framing most bytes → IsTooLong framing most (bytes ++ more)

-- bytes with a bad length still have it with more after them
abbrev pub BadLengthStays : Type 0
BadLengthStays = (framing : Framing) (bytes more : List ℕ) →
    IsBadLength framing bytes → IsBadLength framing (bytes ++ more)

-- what is written of a frame within the limit begins with that frame, whatever stands after it
abbrev pub WrappedBegins : Type 0
WrappedBegins = (framing : Framing) (most : ℕ) (frame more : List ℕ) →
    CanWrap framing frame → length frame ≤ most → BeginsWith framing most ((wrapped framing frame).spelling ++ more) (wrapped framing frame)

-- a frame that has a spelling can be written, and no spelling of it is shorter than what is written
abbrev pub WrappedIsShortest : Type 0
WrappedIsShortest = (framing : Framing) (spelling frame : List ℕ) →
    IsSpelling framing spelling frame → CanWrap framing frame × (length (wrapped framing frame).spelling ≤ length spelling)
