-- What bytes begin with, as the code keeps it.
use Rattle.std.specs.Prelude.{◌<◌, ◌≤◌, ◌-◌, ℕ, List, length, take, drop}
use Rattle.std.specs.List.{All}
use Rattle.hf_split.specs.declared.framing.Framing.{Framing}
use Rattle.hf_split.specs.declared.next.Next.{Next}
use Rattle.hf_split.specs.declared.next.Next.TheVariants.{Waiting, Frame, TooLong, BadLength}
use Rattle.hf_split.specs.declared.var_int.Prefix.{Prefix}
use Rattle.hf_split.specs.declared.var_int.Prefix.TheVariants.{Open, Whole, Endless}
use Rattle.hf_split.specs.Cuts.{BeginsWith, IsTooLong, IsBadLength, IsWaiting}
use Rattle.hf_split.specs.VarInts.{HasMore, IsVarInt, BeginsWithNoEnd, longest_var_int}
use Rattle.hf_split.specs.Held.{room_for}
use Rattle.hf_split.specs.declared.splitter.TheConstants.{GREATEST_LIMIT}

-- the bytes begin with a VarInt of this size
pub record IsWholeAt (bytes : List ℕ) (size number : ℕ) : Type 0 where
  pub inside : size ≤ length bytes
  pub is_var_int : IsVarInt (take size bytes) number

-- what was read of the length that bytes should begin with
abbrev pub IsLengthAt : List ℕ → Prefix → Type 0
IsLengthAt bytes Open = (length bytes < longest_var_int) × All HasMore bytes
IsLengthAt bytes (Whole size number) = IsWholeAt bytes size number
IsLengthAt bytes Endless = BeginsWithNoEnd bytes

-- the bytes begin with a frame that stands from one place to another, and its spelling ends at a third
pub record IsFrameAt (framing : Framing) (most : ℕ) (bytes : List ℕ) (from to past : ℕ) : Type 0 where
  pub some : 0 < past
  pub in_order : from ≤ to
  pub within : to ≤ past
  pub inside : past ≤ length bytes
  pub begins : BeginsWith framing most bytes (record { spelling = take past bytes; frame = take (to - from) (drop from bytes) })

-- the bytes begin with this
abbrev pub IsNextOf : Framing → ℕ → List ℕ → Next → Type 0
IsNextOf framing most bytes Waiting = IsWaiting framing most bytes
IsNextOf framing most bytes (Frame from to past) = IsFrameAt framing most bytes from to past
IsNextOf framing most bytes TooLong = IsTooLong framing most bytes
IsNextOf framing most bytes BadLength = IsBadLength framing bytes

-- what a splitter's fields keep
pub record IsBuffer (framing : Framing) (most start capacity : ℕ) (items : List ℕ) (next : Next) : Type 0 where
  pub positive : 1 ≤ most
  pub limit : most ≤ GREATEST_LIMIT
  pub reserved : room_for most ≤ capacity
  pub filled : length items ≤ room_for most
  pub inside : start ≤ length items
  pub found : IsNextOf framing most (drop start items) next
