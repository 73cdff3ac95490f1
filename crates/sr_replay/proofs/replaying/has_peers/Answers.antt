use Rattle.std.proofs.Common.{[], ◌∷◌, ◌∙◌, ap, refl, sym, subst}
use Rattle.sr_script.specs.Asking.{and_then}
use Rattle.sr_script.specs.Reading.{HasRead}
use Rattle.sr_notation.specs.Terms.{peers_in}
use Rattle.sr_replay.proofs.replaying.has_peers.Goals as goal

pub loop-reader-init : goal.loop-reader-init
loop-reader-init c = ([], (c.start-reader.ensures c.args.script.now, refl))

pub loop-reader-preserved : goal.loop-reader-preserved
loop-reader-preserved c =
    let settings = c.loop-reader.invariant.0 in
    let next = rw c.in-Some-Setting.is at c.in_ok-setting.ensures.next in
    let got = next (record { settings = settings; actions = [] }) c.loop-reader.invariant.1.0 in
    let read = subst (λ x. HasRead c.next_in.new.self c.args.script.now (and_then (record { settings = settings; actions = [] }) x)) c.in-Some-Setting.field-0-is got.2 in
    (c.in-Some-Setting.setting ∷ settings, (read, c.has_peers_with-has.ensures settings c.loop-reader.invariant.1.1))

pub returns-in-Some-Action : goal.returns-in-Some-Action
returns-in-Some-Action c = λ p parses.
    let settings = c.loop-reader.invariant.0 in
    let next = rw c.in-Some-Action.is at c.in_ok-setting.ensures.next in
    let got = next (record { settings = settings; actions = [] }) c.loop-reader.invariant.1.0 in
    let read = subst (λ x. HasRead c.next_in.new.self c.args.script.now (and_then (record { settings = settings; actions = [] }) x)) c.in-Some-Action.field-0-is got.2 in
    c.loop-reader.invariant.1.1 ∙ ap peers_in (sym (c.settings_come_first.ensures c.args.script.now c.next_in.new.self settings c.in-Some-Action.action p read parses))

pub returns-in-None : goal.returns-in-None
returns-in-None c = λ p parses.
    let end = rw c.in-None.is at c.in_ok-setting.ensures.end in
    let one = end (record { settings = c.loop-reader.invariant.0; actions = [] }) c.loop-reader.invariant.1.0 in
    c.loop-reader.invariant.1.1 ∙ ap (λ q. peers_in q.settings) (sym (one.only p parses))
