use Rattle.std.proofs.Common.{◌≡◌, List}
use Rattle.hd_delivery.specs.Histories as of
use Rattle.hd_delivery.specs.Bytes.{Wire, ByteStep}
use Rattle.sr_replay.specs.Plays.{Plays, limits_at}
use Rattle.sr_replay.proofs.Going.{HasSaid}
use Rattle.sr_replay.proofs.player.Player.write.Given as goal

abbrev pub invariant-loop-written : goal.invariant-loop-written
invariant-loop-written l = record {
  limits : limits_at l.self ≡ limits_at l.fn.self;
  said : (wire : Wire) (c : of.Config) (h : List ByteStep) → Plays wire c l.fn.self h
      → HasSaid l.fn.kind wire c h l.self l.fn.lane.items l.lane.items l.fn.told.items l.told.items l._written;
}
