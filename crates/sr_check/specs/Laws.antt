-- Laws of what tasks write.
use Rattle.std.specs.Prelude.{◌≡◌, ◌⊎◌, ℕ, List, ◌++◌}
use Rattle.hd_facts.specs.Prefixes.{IsPrefix}
use Rattle.hf_split.specs.declared.framing.Framing.{Framing}
use Rattle.hf_split.specs.declared.splitter.SplitFault.{SplitFault}
use Rattle.hf_split.specs.Cuts.{Spelled, BeginsWith}
use Rattle.sr_check.specs.declared.task.Task.{Task}
use Rattle.sr_check.specs.Stream.{most_frame, IsFaultAt, IsDone, IsStopped, IsBegun}

-- The task has exactly one answer for the bytes: one text, which is written of all of them, or up to where it stops. What
-- is written of frames with which the bytes begin is a first part of it.
pub record IsOneAnswer (task : Task) (bytes : List ℕ) : Type 0 where
  pub some : ((text : List ℕ) × IsDone task bytes text) ⊎ ((text : List ℕ) × IsStopped task bytes text)
  pub one_done : (text other : List ℕ) → IsDone task bytes text → IsDone task bytes other → text ≡ other
  pub one_stopped : (text other : List ℕ) → IsStopped task bytes text → IsStopped task bytes other → text ≡ other
  pub not_both : (text other : List ℕ) → IsDone task bytes text → IsStopped task bytes other → ⊥
  pub begins : (text other : List ℕ) → IsBegun task bytes text → IsDone task bytes other ⊎ IsStopped task bytes other → IsPrefix text other

-- each task has one answer for all bytes
abbrev pub HasOneAnswer : Type 0
HasOneAnswer = (task : Task) (bytes : List ℕ) → IsOneAnswer task bytes

-- a fault of bytes is one of them with more behind them too, and they begin with no frame
abbrev pub FaultsLast : Type 0
FaultsLast = (framing : Framing) (place : ℕ) (bytes more : List ℕ) (fault : SplitFault) → IsFaultAt framing place bytes fault →
    IsFaultAt framing place (bytes ++ more) fault × ((item : Spelled) → BeginsWith framing most_frame (bytes ++ more) item → ⊥)
