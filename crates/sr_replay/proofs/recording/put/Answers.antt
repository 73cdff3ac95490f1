use Rattle.std.proofs.Common.{subst}
use Rattle.std.specs.Io.KnownBytes.{Appends}
use Rattle.sr_replay.proofs.recording.put.Goals as goal

pub returns-clause-ok : goal.returns-clause-ok
returns-clause-ok g c = (
  c.args.pair.now.told.items,
  (subst (Appends (g.K.Sink.holds c.args.out.now) (g.K.Sink.holds c.put.new.self)) c.told-2.ensures c.in_ok-put.ensures.bytes, c.clear_told.ensures.hands_out),
)
