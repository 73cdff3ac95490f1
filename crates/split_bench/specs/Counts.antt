-- What is counted: the frames of the whole input, in their one cutting.
use Rattle.std.specs.Prelude.{◌≡◌, ◌-◌, ◌^◌, ℕ, min, List, ◌++◌, length, sum_by}
use Rattle.hf_split.specs.declared.framing.Framing.TheVariants.{Record}
use Rattle.hf_split.specs.Cuts.{Spelled, Cuts, IsTooLong, always, stream_of}
use Rattle.hf_split.specs.Held.{Held, Stands, place_of}
use Rattle.split_bench.specs.declared.tally.Tally.{Tally}
use Rattle.split_bench.specs.declared.tally.Outcome.{Outcome}
use Rattle.split_bench.specs.declared.tally.Outcome.TheVariants.{Whole, TooLong}

-- a number as it is counted, which stands still at the end of u64
abbrev pub counted : ℕ → ℕ
counted n = min n (2 ^ 64 - 1)

-- how many these frames are, and how many bytes they have together
pub record IsTallyOf (tally : Tally) (items : List Spelled) : Type 0 where
  pub frames : tally.frames ≡ counted (length items)
  pub bytes : tally.bytes ≡ counted (sum_by (λ item. length item.frame) items)

-- the splitter has this limit and stands for this stream, and the tally is of the frames that it passed
pub record IsCounted (most : ℕ) (splitter : Held) (tally : Tally) (stream : List ℕ) : Type 0 where
  pub limit : splitter.most ≡ most
  pub framing : splitter.framing ≡ Record
  pub passed : List Spelled
  pub stands : Stands (always Record) splitter stream passed
  pub tally_of : IsTallyOf tally passed

-- what an input of these bytes holds
abbrev pub IsOutcome : ℕ → List ℕ → Outcome → Type 0
IsOutcome most bytes (Whole tally) = (items : List Spelled) × ((rest : List ℕ) × (Cuts (always Record) most bytes items rest × IsTallyOf tally items))
IsOutcome most bytes (TooLong at) = (items : List Spelled) × ((rest more : List ℕ) × (Cuts (always Record) most bytes items (rest ++ more)
    × IsTooLong Record most rest × (at ≡ place_of (length (stream_of items)))))
