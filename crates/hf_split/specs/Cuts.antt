-- The frames of a whole stream of bytes, however it was cut into pieces.
use Rattle.std.specs.Prelude.{◌≡◌, ◌≢◌, ◌<◌, ◌≤◌, ◌+◌, ◌⊎◌, ℕ, suc, List, [], ◌∷◌, ◌++◌, length, take, drop, map}
use Rattle.std.specs.List.{All, flat_map}
use Rattle.hf_split.specs.declared.framing.Framing.{Framing}
use Rattle.hf_split.specs.declared.framing.Framing.TheVariants.{Record, Length}
use Rattle.hf_split.specs.VarInts.{IsVarInt, BeginsWithVarInt, BeginsWithNoEnd, shortest, var_int_bound}

-- the record separator, the byte 1E
abbrev pub separator : ℕ
separator = 30

-- no record separator stands among the bytes
abbrev pub IsPlain : List ℕ → Type 0
IsPlain bytes = All (λ b. b ≢ separator) bytes

-- a frame, and the bytes that spell it on a stream
pub record Spelled : Type 0 where
  pub spelling : List ℕ
  pub frame : List ℕ

-- these bytes are a spelling of the frame
abbrev pub IsSpelling : Framing → List ℕ → List ℕ → Type 0
IsSpelling Record spelling frame = (spelling ≡ frame ++ separator ∷ []) × IsPlain frame
IsSpelling Length spelling frame = (prefix : List ℕ) × (IsVarInt prefix (length frame) × (spelling ≡ prefix ++ frame))

-- a frame within the limit, with a spelling of it
pub record IsFrame (framing : Framing) (most : ℕ) (item : Spelled) : Type 0 where
  pub short : length item.frame ≤ most
  pub spells : IsSpelling framing item.spelling item.frame

-- the bytes begin with this frame
pub record BeginsWith (framing : Framing) (most : ℕ) (bytes : List ℕ) (item : Spelled) : Type 0 where
  pub is_frame : IsFrame framing most item
  pub front : bytes ≡ item.spelling ++ drop (length item.spelling) bytes

-- no frame within the limit can begin here, whatever comes after these bytes
abbrev pub IsTooLong : Framing → ℕ → List ℕ → Type 0
IsTooLong Record most bytes = (most < length bytes) × IsPlain (take (most + 1) bytes)
IsTooLong Length most bytes = (number : ℕ) × ((most < number) × BeginsWithVarInt bytes number)

-- no length can begin here
abbrev pub IsBadLength : Framing → List ℕ → Type 0
IsBadLength Record bytes = ⊥
IsBadLength Length bytes = BeginsWithNoEnd bytes

-- the bytes begin with a fault
abbrev pub IsFaulty : Framing → ℕ → List ℕ → Type 0
IsFaulty framing most bytes = IsTooLong framing most bytes ⊎ IsBadLength framing bytes

-- the bytes begin with no whole frame, and with no fault
pub record IsWaiting (framing : Framing) (most : ℕ) (bytes : List ℕ) : Type 0 where
  pub no_frame : (item : Spelled) → BeginsWith framing most bytes item → ⊥
  pub no_fault : IsFaulty framing most bytes → ⊥

-- the framing of each frame of a stream, by the frame's number from 0
abbrev pub Framings : Type 0
Framings = ℕ → Framing

-- one framing from the first frame to the last
abbrev pub always : Framing → Framings
always framing = λ _. framing

-- the same after the first frame
abbrev pub later : Framings → Framings
later framings = λ n. framings (suc n)

-- each of these is a frame, in the framing of its number
abbrev pub AreFrames : Framings → ℕ → List Spelled → Type 0
AreFrames framings most [] = Unit {0}
AreFrames framings most (item ∷ items) = IsFrame (framings 0) most item × AreFrames (later framings) most items

-- the spellings, one after the other
abbrev pub stream_of : List Spelled → List ℕ
stream_of items = flat_map (λ item. item.spelling) items

-- the frames alone
abbrev pub frames_of : List Spelled → List (List ℕ)
frames_of items = map (λ item. item.frame) items

-- The stream is these frames one after the other, and then a rest that begins with no whole frame.
pub record Cuts (framings : Framings) (most : ℕ) (stream : List ℕ) (items : List Spelled) (rest : List ℕ) : Type 0 where
  pub whole : stream ≡ stream_of items ++ rest
  pub each : AreFrames framings most items
  pub ends : (item : Spelled) → BeginsWith (framings (length items)) most rest item → ⊥

-- the frame with the spelling that is written of it
abbrev pub wrapped : Framing → List ℕ → Spelled
wrapped Record frame = record { spelling = frame ++ separator ∷ []; frame = frame }
wrapped Length frame = record { spelling = shortest (length frame) ++ frame; frame = frame }

-- the frame can be written
abbrev pub CanWrap : Framing → List ℕ → Type 0
CanWrap Record frame = IsPlain frame
CanWrap Length frame = length frame < var_int_bound
