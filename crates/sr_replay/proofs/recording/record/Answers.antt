use Rattle.std.proofs.Common.{[]}
use Rattle.std.proofs.KnownBytes.{Appends-nil}
use Rattle.sr_replay.proofs.Played.{on_err}
use Rattle.sr_replay.proofs.Traced.{PutsPartOfEnds, part_of_none}
use Rattle.sr_replay.proofs.recording.record.Goals as goal

pub returns-in_err-has-clause-part : goal.returns-in_err-has-clause-part
returns-in_err-has-clause-part g c =
    let before = g.K.Sink.holds c.args.out.now in
    let part : PutsPartOfEnds c.args.script.now before before = λ p parses none. ([], (part_of_none p none, Appends-nil before)) in
    on_err _ part

pub returns-then-has-clause-part : goal.returns-then-has-clause-part
returns-then-has-clause-part g c = λ p parses none. ([], (part_of_none p none, Appends-nil (g.K.Sink.holds c.args.out.now)))
