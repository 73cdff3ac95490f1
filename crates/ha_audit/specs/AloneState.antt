-- What an auditor of one end alone keeps beside its marks, its messages and the names of its links: the bytes of its link that it hasn't dealt with.
use Rattle.std.specs.Prelude.{◌≡◌, ◌⊎◌, ◌≤◌, ℕ, suc, true, false, List, [], ◌++◌, length, IfSome, option_map, if◌then◌else◌}
use Rattle.hf_split.specs.declared.framing.Framing.{Framing}
use Rattle.hf_split.specs.declared.framing.Framing.TheVariants.{Record}
use Rattle.hf_split.specs.Cuts.{IsFaulty}
use Rattle.hf_split.specs.Held.{Held}
use Rattle.hm_codec.specs.Frames.{framing_of}
use Rattle.hd_delivery.specs.declared.vocabulary.Side.{Side}
use Rattle.hd_delivery.specs.Histories.{as_told}
use Rattle.hd_delivery.specs.Bytes.{Reading, Wire}
use Rattle.hd_trace.specs.declared.marks.Marks.{Marks}
use Rattle.hd_trace.specs.Marks.{place_by}

-- marks in 64 bits. Only the next number can be more, on a connection that doesn't use it
abbrev pub as_kept : Marks → Marks
as_kept m = record m { next = option_map as_told m.next }

-- the framing of the next frame that the end reads
abbrev pub framing_by : Marks → Framing
framing_by m = if m.shaken then framing_of m.codec else Record

-- what its reader says of these bytes
abbrev pub reading_by : Wire → Side → Marks → List ℕ → Reading
reading_by wire side m bytes = if m.shaken then wire.later m.codec bytes else wire.first side bytes

-- The splitter holds these bytes. Where no frame can come, it holds those up to which that is seen, and how many come after them is kept
pub record HoldsBytes (splitter : Held) (over : ℕ) (m : Marks) (bytes : List ℕ) : Type 0 where
  pub framing : splitter.framing ≡ framing_by m
  pub more : List ℕ
  pub bytes_are : bytes ≡ splitter.bytes ++ more
  pub count : over ≡ length more
  pub stuck : (more ≡ []) ⊎ IsFaulty splitter.framing splitter.most splitter.bytes

-- Messages are numbered near to how many there are: what it reads next, where Sequences number that, and what it says next
pub record HasNearNumbers (m : Marks) : Type 0 where
  pub next : m.resumable ≡ true → m.three ≡ false → IfSome m.next (λ n. n ≤ suc m.processed)
  pub said : IfSome m.said (λ n. n ≤ place_by m)
