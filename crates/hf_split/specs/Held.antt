-- What a splitter is at a moment, and the stream that it stands for.
use Rattle.std.specs.Prelude.{◌≡◌, ◌+◌, ◌-◌, ◌^◌, ℕ, min, List, [], ◌∷◌, ◌++◌, length, take, drop}
use Rattle.hf_split.specs.declared.framing.Framing.{Framing}
use Rattle.hf_split.specs.declared.splitter.SplitFault.{SplitFault}
use Rattle.hf_split.specs.declared.splitter.SplitFault.TheVariants.{TooLong, BadLength}
use Rattle.hf_split.specs.VarInts.{longest_var_int}
use Rattle.hf_split.specs.Cuts.{Spelled, Framings, AreFrames, Cuts, IsTooLong, IsBadLength, stream_of}

-- the framing of the next frame, the limit of a frame's length, the place of the first byte held, and the bytes held
pub record Held : Type 0 where
  pub framing : Framing
  pub most : ℕ
  pub place : ℕ
  pub bytes : List ℕ

-- the greatest place that is told: the end of u64
abbrev pub greatest_place : ℕ
greatest_place = 2 ^ 64 - 1

-- a number of bytes as a place, which stays at the greatest one
abbrev pub place_of : ℕ → ℕ
place_of n = min n greatest_place

-- how many bytes a splitter with this limit has room for: a frame of that length and the longest framing
abbrev pub room_for : ℕ → ℕ
room_for most = most + longest_var_int

-- The splitter was fed this stream since its start or its last reset, and has passed these frames.
pub record Stands (framings : Framings) (held : Held) (stream : List ℕ) (passed : List Spelled) : Type 0 where
  pub whole : stream ≡ stream_of passed ++ held.bytes
  pub each : AreFrames framings held.most passed
  pub place : held.place ≡ place_of (length (stream_of passed))

-- the bytes held begin with this fault, at the place of the first of them
abbrev pub IsFaultOf : Held → SplitFault → Type 0
IsFaultOf held (TooLong at) = (at ≡ held.place) × IsTooLong held.framing held.most held.bytes
IsFaultOf held (BadLength at) = (at ≡ held.place) × IsBadLength held.framing held.bytes

-- the splitter looks for its next frame in the framing that this frame has
abbrev pub IsInStep : Framings → Held → List Spelled → Type 0
IsInStep framings held passed = framings (length passed) ≡ held.framing

-- In every cutting of the stream this frame comes after those passed, at this place.
pub record IsNext (framings : Framings) (most : ℕ) (stream : List ℕ) (passed : List Spelled) (at : ℕ) (item : Spelled) : Type 0 where
  pub place : at ≡ place_of (length (stream_of passed))
  pub next : (all : List Spelled) (rest : List ℕ) → Cuts framings most stream all rest → take (length passed + 1) all ≡ passed ++ item ∷ []

-- how many bytes of a piece of this length a feed takes: as many as there is room for
abbrev pub taken_by_feed : Held → ℕ → ℕ
taken_by_feed held n = min n (room_for held.most - length held.bytes)

-- a splitter at its start
abbrev pub at_start : Framing → ℕ → Held
at_start framing most = record { framing = framing; most = most; place = 0; bytes = [] }

-- the splitter that was fed these bytes more
abbrev pub after_feed : Held → List ℕ → Held
after_feed held piece = record held { bytes = held.bytes ++ piece }

-- the splitter that has passed this frame
abbrev pub after_pass : Held → Spelled → Held
after_pass held item = record held { place = place_of (held.place + length item.spelling); bytes = drop (length item.spelling) held.bytes }
