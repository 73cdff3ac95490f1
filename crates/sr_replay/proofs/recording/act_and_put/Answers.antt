use Rattle.std.proofs.Common.{[], refl, sym, subst, ◌∙◌}
use Rattle.sr_script.specs.Script.{Program, Parses}
use Rattle.sr_script.specs.Asking.{and_then}
use Rattle.sr_replay.specs.Records.{PutsPart}
use Rattle.sr_replay.proofs.Played.{on_err}
use Rattle.sr_replay.proofs.Replayed.{still_known, for_ends}
use Rattle.sr_replay.proofs.Recorded.{PutsFirst, put_none, put_still, put_on, put_all, put_stops, put_fails}
use Rattle.sr_replay.proofs.recording.act_and_put.Goals as goal

pub loop-reader-init : goal.loop-reader-init
loop-reader-init g c = record {
  read = (
    record { settings = []; actions = [] },
    (c.start-reader.ensures c.args.script.now, λ some. absurd (some refl), put_none c.args.pair.now (g.K.Sink.holds c.args.out.now)),
  );
  unfailed = refl;
}

pub returns-in_err-asked-clause-part : goal.returns-in_err-asked-clause-part
returns-in_err-asked-clause-part g c =
    let read = c.loop-reader.invariant.read in
    let part : (p : Program) → Parses c.args.script.now p → PutsPart c.args.pair.now p (g.K.Sink.holds c.args.out.now) (g.K.Sink.holds c.loop-reader.out) = λ p parses.
    put_stops c.args.pair.now (g.K.Sink.holds c.args.out.now) c.args.script.now c.loop-reader.reader read.0 p read.1.0 parses c.loop-reader.pair (g.K.Sink.holds c.loop-reader.out) read.1.2 in
    on_err _ part

pub obey-requires : goal.obey-requires
obey-requires g c =
    let q = c.loop-reader.invariant.read.0 in
    let x = c.in-Some.asked in
    let next = rw c.in-Some.is at c.in_ok-asked.ensures.next in
    let got = next q c.loop-reader.invariant.read.1.0 in
    let known = still_known c.settings_come_first.ensures c.args.script.now c.next_in.new.self q x c.loop-reader.invariant.read.1.1 got.0 got.2 in
    let script = c.text.ensures.script in
    for_ends c.args.script.now q script.0 x script.1 (c.requires script.0 script.1) known got.0 got.1

pub returns-in_err-obey-in-Some-clause-part : goal.returns-in_err-obey-in-Some-clause-part
returns-in_err-obey-in-Some-clause-part g c =
    let read = c.loop-reader.invariant.read in
    let part : (p : Program) → Parses c.args.script.now p → PutsPart c.args.pair.now p (g.K.Sink.holds c.args.out.now) (g.K.Sink.holds c.loop-reader.out) = λ p parses.
    put_stops c.args.pair.now (g.K.Sink.holds c.args.out.now) c.args.script.now c.loop-reader.reader read.0 p read.1.0 parses c.loop-reader.pair (g.K.Sink.holds c.loop-reader.out) read.1.2 in
    on_err _ part

pub loop-reader-preserved : goal.loop-reader-preserved
loop-reader-preserved g c =
    let q = c.loop-reader.invariant.read.0 in
    let x = c.in-Some.asked in
    let next = rw c.in-Some.is at c.in_ok-asked.ensures.next in
    let got = next q c.loop-reader.invariant.read.1.0 in
    let old = c.args.pair.now in
    let before = g.K.Sink.holds c.args.out.now in
    let now = g.K.Sink.holds c.loop-reader.out in
    let was = put_still old before x q c.loop-reader.pair c.obey.new.pair now got.0 c.loop-reader.invariant.read.1.2 c.in_ok-obey-in-Some.ensures in
    record {
      read = (
        and_then q x,
        (
          got.2,
          still_known c.settings_come_first.ensures c.args.script.now c.next_in.new.self q x c.loop-reader.invariant.read.1.1 got.0 got.2,
          put_on old before (and_then q x).actions c.obey.new.pair c.put.new.pair now (g.K.Sink.holds c.put.new.out) was c.in_ok-put-in-Some.ensures.ok,
        ),
      );
      unfailed = c.in_ok-put-in-Some.ensures.counted ∙ c.loop-reader.invariant.unfailed;
    }

pub returns-in_err-put-in-Some-clause-part : goal.returns-in_err-put-in-Some-clause-part
returns-in_err-put-in-Some-clause-part g c =
    let q = c.loop-reader.invariant.read.0 in
    let x = c.in-Some.asked in
    let next = rw c.in-Some.is at c.in_ok-asked.ensures.next in
    let got = next q c.loop-reader.invariant.read.1.0 in
    let old = c.args.pair.now in
    let before = g.K.Sink.holds c.args.out.now in
    let now = g.K.Sink.holds c.loop-reader.out in
    let was = put_still old before x q c.loop-reader.pair c.obey.new.pair now got.0 c.loop-reader.invariant.read.1.2 c.in_ok-obey-in-Some.ensures in
    let part : (p : Program) → Parses c.args.script.now p → PutsPart old p before (g.K.Sink.holds c.put.new.out) = λ p parses.
    put_fails old before c.args.script.now c.next_in.new.self (and_then q x) p got.2 parses c.obey.new.pair now was (g.K.Sink.holds c.put.new.out) c.in_err-put-in-Some.ensures.part in
    on_err _ part

pub returns-in_err-put-in-None-clause-part : goal.returns-in_err-put-in-None-clause-part
returns-in_err-put-in-None-clause-part g c =
    let read = c.loop-reader.invariant.read in
    let part : (p : Program) → Parses c.args.script.now p → PutsPart c.args.pair.now p (g.K.Sink.holds c.args.out.now) (g.K.Sink.holds c.put-in-None.new.out) = λ p parses.
    put_fails c.args.pair.now (g.K.Sink.holds c.args.out.now) c.args.script.now c.loop-reader.reader read.0 p read.1.0 parses c.loop-reader.pair (g.K.Sink.holds c.loop-reader.out) read.1.2
    (g.K.Sink.holds c.put-in-None.new.out) c.in_err-put-in-None.ensures.part in
    on_err _ part

pub returns-in-None-clause-ok : goal.returns-in-None-clause-ok
returns-in-None-clause-ok g c = λ p parses.
    let q = c.loop-reader.invariant.read.0 in
    let end = rw c.in-None.is at c.in_ok-asked.ensures.end in
    let one = end q c.loop-reader.invariant.read.1.0 in
    let old = c.args.pair.now in
    let before = g.K.Sink.holds c.args.out.now in
    let now = g.K.Sink.holds c.loop-reader.out in
    let later = g.K.Sink.holds c.put-in-None.new.out in
    let was = subst (λ y. PutsFirst old y.actions c.loop-reader.pair before now) (sym (one.only p parses)) c.loop-reader.invariant.read.1.2 in
    put_all old before p c.put-in-None.new.pair later
    (put_on old before p.actions c.loop-reader.pair c.put-in-None.new.pair now later was c.in_ok-put-in-None.ensures.ok)
    (c.in_ok-put-in-None.ensures.all refl)
