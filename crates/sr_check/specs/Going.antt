-- A stream that is followed piece by piece.
use Rattle.std.specs.Prelude.{◌≡◌, ◌++◌, ◌<◌, ◌+◌, ◌^◌, ◌⊎◌, ℕ, List, [], codes, length, take, Option, Some, None}
use Rattle.std.specs.Io.KnownBytes.{Appends}
use Rattle.hf_split.specs.Cuts.{Spelled, IsWaiting, Cuts, always}
use Rattle.hf_split.specs.Held.{Held, Stands}
use Rattle.hm_codec.specs.declared.why.FrameWhy.{FrameWhy}
use Rattle.hm_codec.specs.Frames.{Why}
use Rattle.hm_codec.specs.Words.{why_words}
use Rattle.sr_check.specs.declared.task.Task.{Task}
use Rattle.sr_check.specs.declared.task.Stop.{Stop}
use Rattle.sr_check.specs.declared.task.Stop.TheVariants as stop
use Rattle.sr_check.specs.Output.{codec_of, framing, IsWritten, last_text}
use Rattle.sr_check.specs.Stream.{most_frame, AreWritten, IsFrontText, IsBegun, IsStop, IsStopped, IsPart}
use Rattle.hd_facts.specs.Writes.{Writes, WritesPart}

-- this is written of a frame that is refused
abbrev pub IsRefusal : Task → ℕ → List ℕ → List ℕ → Type 0
IsRefusal task at frame text = (why : FrameWhy) × Why (codec_of task) frame why × (text ≡ last_text task at (codes "refused " ++ why_words why))

-- What was put on the desk where the task ended so: a last text of which this holds, or nothing.
abbrev pub EndsOnDesk : Stop → (List ℕ → Type 0) → List ℕ → List ℕ → Type 0
EndsOnDesk stop.Refused P before now = (text : List ℕ) × P text × (now ≡ before ++ text)
EndsOnDesk stop.NoMemory P before now = now ≡ before
EndsOnDesk how P before now = ⊥

-- what the output holds once the text on the desk is written
abbrev pub with_output_buffer : Option (List ℕ) → List ℕ → Option (List ℕ)
with_output_buffer None text = None
with_output_buffer (Some bytes) text = Some (bytes ++ text)

-- a splitter for the task's stream
pub record IsReader (task : Task) (held : Held) : Type 0 where
  pub framing_is : held.framing ≡ framing task
  pub most : held.most ≡ most_frame

-- the splitter has passed these frames of this stream, and the text is what is written of them
pub record IsAt (task : Task) (held : Held) (stream : List ℕ) (items : List Spelled) (text : List ℕ) : Type 0 where
  pub reader : IsReader task held
  pub stands : Stands (always (framing task)) held stream items
  pub written : AreWritten task 0 items text
  pub short : length stream < 2 ^ 64

-- it waits for more
pub record IsResting (task : Task) (held : Held) : Type 0 where
  pub reader : IsReader task held
  pub waiting : IsWaiting (framing task) most_frame held.bytes
  pub room : length held.bytes < most_frame + 5

-- The frames that are whole so far in this stream were written of behind `before`.
pub record IsSoFar (task : Task) (held : Held) (stream : List ℕ) (before now : Option (List ℕ)) : Type 0 where
  pub items : List Spelled
  pub text : List ℕ
  pub at : IsAt task held stream items text
  pub wrote : Appends before now text

-- every frame of the stream was written of behind `before`, and nothing is left of it
pub record IsWholeSoFar (task : Task) (stream : List ℕ) (before now : Option (List ℕ)) : Type 0 where
  pub items : List Spelled
  pub text : List ℕ
  pub cut : Cuts (always (framing task)) most_frame stream items []
  pub written : AreWritten task 0 items text
  pub wrote : Appends before now text

-- what is written of frames with which the stream begins, and nothing else
abbrev pub IsBegunSoFar : Task → List ℕ → List ℕ → Type 0
IsBegunSoFar task stream text = (items : List Spelled) × IsFrontText task stream items text

-- the same, and then what is written last however the stream goes on
abbrev pub IsStoppedSoFar : Task → List ℕ → List ℕ → Type 0
IsStoppedSoFar task stream text = (items : List Spelled) × (front last : List ℕ) × IsFrontText task stream items front × IsStop task stream items last × (text ≡ front ++ last)

abbrev pub IsPartSoFar : Task → List ℕ → List ℕ → Type 0
IsPartSoFar task stream text = IsBegunSoFar task stream text ⊎ IsStoppedSoFar task stream text

-- What was written behind `before` where the task ended so, however the stream goes on.
abbrev pub Ends : Task → Stop → List ℕ → Option (List ℕ) → Option (List ℕ) → Type 0
Ends task stop.Refused stream before now = (text : List ℕ) × IsStoppedSoFar task stream text × Appends before now text
Ends task stop.WriteFault stream before now = (text : List ℕ) × IsPartSoFar task stream text × ((n : ℕ) × Appends before now (take n text))
Ends task stop.NoMemory stream before now = (text : List ℕ) × IsBegunSoFar task stream text × Appends before now text
Ends task stop.ReadFault stream before now = ⊥

-- the same where the stream is the whole input
abbrev pub EndsAt : Task → Stop → List ℕ → Option (List ℕ) → Option (List ℕ) → Type 0
EndsAt task stop.Refused stream before now = (text : List ℕ) × IsStopped task stream text × Appends before now text
EndsAt task stop.WriteFault stream before now = (text : List ℕ) × IsPart task stream text × ((n : ℕ) × Appends before now (take n text))
EndsAt task stop.NoMemory stream before now = (text : List ℕ) × IsBegun task stream text × Appends before now text
EndsAt task stop.ReadFault stream before now = ⊥

-- What was written for an input with which the task ended so, other than by a fault of the input.
abbrev pub EndsInput : Task → Stop → Option (List ℕ) → Option (List ℕ) → Option (List ℕ) → Type 0
EndsInput task stop.Refused input before now = Writes (IsStopped task) input before now
EndsInput task stop.WriteFault input before now = WritesPart (IsPart task) input before now
EndsInput task stop.NoMemory input before now = Writes (IsBegun task) input before now
EndsInput task stop.ReadFault input before now = ⊥

-- So much of the last text was written as goes with how the task ended.
abbrev pub IsLastPut : Stop → List ℕ → Option (List ℕ) → Option (List ℕ) → Type 0
IsLastPut stop.Refused text before now = Appends before now text
IsLastPut stop.WriteFault text before now = (n : ℕ) × Appends before now (take n text)
IsLastPut stop.NoMemory text before now = Appends before now []
IsLastPut stop.ReadFault text before now = ⊥
