use Rattle.std.proofs.Common.{◌≡◌, ◌≤◌, ◌-◌, ℕ, List, length, drop, Some, None}
use Rattle.hd_delivery.specs.Histories as of
use Rattle.hd_delivery.specs.Histories.{present_link}
use Rattle.hd_delivery.specs.Processes.{processes}
use Rattle.hd_delivery.specs.Bytes.{Wire, ByteStep, bytes_on, in_frames}
use Rattle.sr_replay.specs.Plays.{Plays, limits_at}
use Rattle.sr_replay.proofs.ReadsOn.{HasRead}
use Rattle.sr_replay.proofs.player.Player.read.Given as goal

abbrev pub invariant-loop-at : goal.invariant-loop-at
invariant-loop-at l = record {
  limits : limits_at l.self ≡ limits_at l.fn.self;
  within : l.at ≤ length l.bytes;
  read : (wire : Wire) (c : of.Config) (h : List ByteStep) → Plays wire c l.fn.self h → (link : ℕ) (all : List ℕ) → present_link (in_frames wire c h) ≡ Some link
      → l.bytes ≡ drop (length (bytes_on link h)) all → processes c (in_frames wire c h) ≡ None
      → HasRead l.fn.kind (limits_at l.fn.self) wire c h l.self link all l.fn.told.items l.told.items l.at;
}

abbrev pub decreases-loop-at : goal.decreases-loop-at
decreases-loop-at l = length l.bytes - l.at
