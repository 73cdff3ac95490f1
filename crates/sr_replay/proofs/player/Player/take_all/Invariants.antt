use Rattle.std.proofs.Common.{◌≡◌, List}
use Rattle.hd_delivery.specs.Histories as of
use Rattle.hd_delivery.specs.Bytes.{Wire, ByteStep}
use Rattle.sr_replay.specs.Told.{steps_text}
use Rattle.sr_replay.specs.Plays.{Plays, limits_at}
use Rattle.hd_delivery.specs.Alone.{taking}
use Rattle.sr_replay.proofs.Going.{HasGone}
use Rattle.sr_replay.proofs.player.Player.take_all.Given as goal

abbrev pub invariant-loop-taken : goal.invariant-loop-taken
invariant-loop-taken l = record {
  limits : limits_at l.self ≡ limits_at l.fn.self;
  link : l.self.link ≡ l.fn.self.link;
  gone : (wire : Wire) (c : of.Config) (h : List ByteStep) → Plays wire c l.fn.self h
      → HasGone (taking wire c) (steps_text l.fn.kind wire c) wire c h l.self l.fn.told.items l.told.items l._taken;
}
