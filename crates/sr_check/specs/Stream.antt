-- What is written of a stream of frames.
use Rattle.std.specs.Prelude.{◌≡◌, ◌≢◌, ◌<◌, ◌≤◌, ◌+◌, ◌^◌, ◌⊎◌, ℕ, List, [], ◌∷◌, ◌++◌, length, take, codes, Option}
use Rattle.std.specs.Fmt.{decimal}
use Rattle.std.specs.Io.KnownBytes.{Appends, Consumes}
use Rattle.hf_split.specs.declared.framing.Framing.{Framing}
use Rattle.hf_split.specs.declared.splitter.SplitFault.{SplitFault}
use Rattle.hf_split.specs.Cuts.{Spelled, AreFrames, IsFaulty, Cuts, always, stream_of}
use Rattle.hf_split.specs.Held.{IsFaultOf}
use Rattle.hm_codec.specs.declared.why.FrameWhy.{FrameWhy}
use Rattle.hm_codec.specs.declared.why.FrameWhy.TheVariants.{Split}
use Rattle.hm_codec.specs.Frames.{Why}
use Rattle.hm_codec.specs.Words.{why_words}
use Rattle.sr_check.specs.declared.task.Task.{Task}
use Rattle.sr_check.specs.Output.{codec_of, framing, IsWritten, last_text}

-- the greatest length of a frame in bytes, without its framing
abbrev pub most_frame : ℕ
most_frame = 32768

-- what is written of these frames, none of which is refused, where so many bytes stand before the first
abbrev pub AreWritten : Task → ℕ → List Spelled → List ℕ → Type 0
AreWritten task at [] text = text ≡ []
AreWritten task at (item ∷ items) text =
    (piece more : List ℕ) × IsWritten task at item.frame piece × (text ≡ piece ++ more) × AreWritten task (at + length item.spelling) items more

-- the bytes begin with these frames, one after the other
pub record BeginsFrames (task : Task) (bytes : List ℕ) (items : List Spelled) : Type 0 where
  pub more : List ℕ
  pub whole : bytes ≡ stream_of items ++ more
  pub each : AreFrames (always (framing task)) most_frame items

-- the text is what is written of these frames, with which the bytes begin
pub record IsFrontText (task : Task) (bytes : List ℕ) (items : List Spelled) (text : List ℕ) : Type 0 where
  pub begins : BeginsFrames task bytes items
  pub written : AreWritten task 0 items text

-- these frames are cut off the bytes, and this is left
abbrev pub IsCut : Task → List ℕ → List Spelled → List ℕ → Type 0
IsCut task bytes items rest = Cuts (always (framing task)) most_frame bytes items rest

-- what is written of the frame that comes after these, where it is refused
pub record IsBadFrame (task : Task) (bytes : List ℕ) (items : List Spelled) (text : List ℕ) : Type 0 where
  pub item : Spelled
  pub next : BeginsFrames task bytes (items ++ item ∷ [])
  pub why : FrameWhy
  pub refused : Why (codec_of task) item.frame why
  pub text_is : text ≡ last_text task (length (stream_of items)) (codes "refused " ++ why_words why)

-- the bytes, which stand at this place of the stream, begin with this fault
abbrev pub IsFaultAt : Framing → ℕ → List ℕ → SplitFault → Type 0
IsFaultAt framing place bytes fault = IsFaultOf (record { framing = framing; most = most_frame; place = place; bytes = bytes }) fault

-- what is written of a rest with which no frame can begin
pub record IsBadRest (task : Task) (bytes : List ℕ) (items : List Spelled) (text : List ℕ) : Type 0 where
  pub rest : List ℕ
  pub cut : IsCut task bytes items rest
  pub fault : SplitFault
  pub refused : IsFaultAt (framing task) (length (stream_of items)) rest fault
  pub text_is : text ≡ last_text task (length (stream_of items)) (codes "refused " ++ why_words (Split fault))

-- the most bytes of a stream that are followed
abbrev pub most_bytes : ℕ
most_bytes = 2 ^ 40

-- the bytes that are followed
abbrev pub followed_part : List ℕ → List ℕ
followed_part bytes = take most_bytes bytes

-- what is written of a rest with which a frame may begin, where the bytes end with it
pub record IsUnfinished (task : Task) (bytes : List ℕ) (items : List Spelled) (text : List ℕ) : Type 0 where
  pub within : length bytes ≤ most_bytes
  pub rest : List ℕ
  pub cut : IsCut task bytes items rest
  pub some : rest ≢ []
  pub not_bad : IsFaulty (framing task) most_frame rest → ⊥
  pub text_is : text ≡ last_text task (length (stream_of items)) (codes "unfinished " ++ decimal (length rest))

-- what is written of the frame in which the first byte stands that isn't followed
pub record IsPastLimit (task : Task) (bytes : List ℕ) (items : List Spelled) (text : List ℕ) : Type 0 where
  pub past : most_bytes < length bytes
  pub rest : List ℕ
  pub cut : IsCut task (followed_part bytes) items rest
  pub not_bad : IsFaulty (framing task) most_frame rest → ⊥
  pub text_is : text ≡ last_text task (length (stream_of items)) (codes "limit")

-- what is written last of bytes that are refused, whatever comes behind them
abbrev pub IsStop : Task → List ℕ → List Spelled → List ℕ → Type 0
IsStop task bytes items text = IsBadFrame task bytes items text ⊎ IsBadRest task bytes items text

-- what is written last of bytes that can't be followed to their end as whole frames
abbrev pub IsLast : Task → List ℕ → List Spelled → List ℕ → Type 0
IsLast task bytes items text = IsStop task (followed_part bytes) items text ⊎ (IsUnfinished task bytes items text ⊎ IsPastLimit task bytes items text)

-- all that is written of the bytes, where every frame is good and nothing is left
abbrev pub IsDone : Task → List ℕ → List ℕ → Type 0
IsDone task bytes text = (items : List Spelled) × (length bytes ≤ most_bytes) × IsCut task bytes items [] × AreWritten task 0 items text

-- all that is written of the bytes, where a frame is refused, or a rest is left, or they are too many
abbrev pub IsStopped : Task → List ℕ → List ℕ → Type 0
IsStopped task bytes text =
    (items : List Spelled) × (front last : List ℕ) × IsFrontText task (followed_part bytes) items front × IsLast task bytes items last × (text ≡ front ++ last)

-- what is written of some frames with which the bytes begin, and nothing else
abbrev pub IsBegun : Task → List ℕ → List ℕ → Type 0
IsBegun task bytes text = (items : List Spelled) × IsFrontText task (followed_part bytes) items text

-- what is written of the bytes, so far or whole
abbrev pub IsPart : Task → List ℕ → List ℕ → Type 0
IsPart task bytes text = IsBegun task bytes text ⊎ IsStopped task bytes text

-- what is written of each frame that is whole in the bytes, where none is refused and a frame may begin with the rest
pub record IsAllSoFar (task : Task) (bytes text : List ℕ) : Type 0 where
  pub within : length bytes ≤ most_bytes
  pub items : List Spelled
  pub rest : List ℕ
  pub cut : IsCut task bytes items rest
  pub written : AreWritten task 0 items text
  pub not_bad : IsFaulty (framing task) most_frame rest → ⊥

-- The output is as it was, or it took at least one byte, where it tells the bytes that it holds.
abbrev pub IsTouchedByBytesAlone : {K : Type 0} → (K → Option (List ℕ)) → K → K → Type 0
IsTouchedByBytesAlone holds before now = (now ≡ before) ⊎ ((text : List ℕ) × (text ≢ []) × Appends (holds before) (holds now) text)

-- the most bytes that are read at a time
abbrev pub most_piece : ℕ
most_piece = 4096

-- no further is read than one piece past bytes in which nothing is refused
pub record ReadsNoFurther (task : Task) (input left : Option (List ℕ)) : Type 0 where
  pub front : List ℕ
  pub piece : List ℕ
  pub text : List ℕ
  pub good : IsAllSoFar task front text
  pub short : length piece ≤ most_piece
  pub read : Consumes input left (front ++ piece)
