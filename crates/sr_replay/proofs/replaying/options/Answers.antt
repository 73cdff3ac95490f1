use Rattle.std.proofs.Common.{[], sym, subst}
use Rattle.sr_script.specs.Asking.{IsAllowed, and_then}
use Rattle.sr_script.specs.Reading.{HasRead}
use Rattle.sr_replay.specs.Replays.{Begins}
use Rattle.sr_replay.proofs.replaying.options.Goals as goal

pub set-requires : goal.set-requires
set-requires c =
    let next = rw c.in-Some-Setting.is at c.in_ok-setting.ensures.next in
    let got = next (record { settings = c.loop-reader.invariant.0; actions = [] }) c.loop-reader.invariant.1.0 in
    subst (λ x. IsAllowed x) c.in-Some-Setting.field-0-is got.1

pub returns-in-Some-Action-clause-begins : goal.returns-in-Some-Action-clause-begins
returns-in-Some-Action-clause-begins c = λ p parses.
    let settings = c.loop-reader.invariant.0 in
    let next = rw c.in-Some-Action.is at c.in_ok-setting.ensures.next in
    let got = next (record { settings = settings; actions = [] }) c.loop-reader.invariant.1.0 in
    let read = subst (λ x. HasRead c.next_in.new.self c.args.script.now (and_then (record { settings = settings; actions = [] }) x)) c.in-Some-Action.field-0-is got.2 in
    subst (λ s. Begins s c.loop-reader.config) (sym (c.settings_come_first.ensures c.args.script.now c.next_in.new.self settings c.in-Some-Action.action p read parses)) c.loop-reader.invariant.1.1

pub returns-in-None-clause-begins : goal.returns-in-None-clause-begins
returns-in-None-clause-begins c = λ p parses.
    let end = rw c.in-None.is at c.in_ok-setting.ensures.end in
    let one = end (record { settings = c.loop-reader.invariant.0; actions = [] }) c.loop-reader.invariant.1.0 in
    subst (λ q. Begins q.settings c.loop-reader.config) (sym (one.only p parses)) c.loop-reader.invariant.1.1
