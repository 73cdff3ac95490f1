use Rattle.std.proofs.Common.{rules, ◌≡◌, List, length, subst}
use Rattle.hw_door.specs.Traffic.{Answer}
use Rattle.hw_net.specs.declared.turns.Course.TheVariants as course
use Rattle.hw_net.specs.Trace.{Tells}
use Rattle.hw_net.specs.Walks.{Ends, Speak}
use Rattle.hw_net.proofs.Searching.{each-heard, each-later, each-rests}
use Rattle.hw_net.proofs.Walking.{same-length}
use Rattle.hw_net.proofs.Halting.{on-err, halts-sooner, halts-later-on}
use Rattle.hw_net.proofs.turns.turn_each.Goals as goal

pub returns-in-Heard-clause-hears : goal.returns-in-Heard-clause-hears
returns-in-Heard-clause-hears g c =
    let trace = g.W.Wires.trace in
    let all = c.args.lanes.now.items in
    let cur = c.turn_until.new.lanes.items in
    let spoken = c.say_ended.new.lanes.items in
    let end_is : c.len-end.result ≡ length all = search rules in
    let ended = subst (λ n. Ends (trace c.args.wires.now) (trace c.turn_until.new.wires) c.args.now c.index_of_first-index.result n all cur (course.Heard c.in-Heard.event c.in-Heard.next)) end_is
    (rw c.in-Heard.is at c.in_ok-event.ensures.ended) in
    let said = subst (λ n. (answers : List Answer) × Tells (trace c.turn_until.new.wires) (trace c.say_ended.new.wires) answers × Speak c.args.now c.in-Heard.next n cur spoken answers) end_is c.say_ended.ensures.said in
    each-heard (trace c.args.wires.now) (trace c.turn_until.new.wires) (trace c.say_ended.new.wires) (trace c.say_ended-in-Heard.new.wires) c.args.now c.args.from c.index_of_first-index.result all cur spoken
    c.say_ended-in-Heard.new.lanes.items c.in-Heard.event c.in-Heard.next c.index_of_first-index.ensures (same-length spoken all (search rules)) ended said c.say_ended-in-Heard.ensures.said

pub returns-in-Quiet-clause-hears : goal.returns-in-Quiet-clause-hears
returns-in-Quiet-clause-hears g c =
    let trace = g.W.Wires.trace in
    let all = c.args.lanes.now.items in
    let cur = c.turn_until.new.lanes.items in
    let end_is : c.len-end.result ≡ length all = search rules in
    let ended = subst (λ n. Ends (trace c.args.wires.now) (trace c.turn_until.new.wires) c.args.now c.index_of_first-index.result n all cur course.Quiet) end_is (rw c.in-Quiet.is at c.in_ok-event.ensures.ended) in
    each-later c.turn_last.result (trace c.args.wires.now) (trace c.turn_until.new.wires) (trace c.turn_last.new.wires) c.args.now c.args.from c.index_of_first-index.result all cur c.turn_last.new.lanes.items
    c.index_of_first-index.ensures (same-length cur all c.turn_until.ensures.lanes) ended c.turn_last.ensures.turned

pub returns-in-Rests-clause-hears : goal.returns-in-Rests-clause-hears
returns-in-Rests-clause-hears g c =
    let trace = g.W.Wires.trace in
    let all = c.args.lanes.now.items in
    let cur = c.turn_until.new.lanes.items in
    let end_is : c.len-end.result ≡ length all = search rules in
    let ended = subst (λ n. Ends (trace c.args.wires.now) (trace c.turn_until.new.wires) c.args.now c.index_of_first-index.result n all cur course.Rests) end_is (rw c.in-Rests.is at c.in_ok-event.ensures.ended) in
    each-rests (trace c.args.wires.now) (trace c.turn_until.new.wires) c.args.now c.args.from c.index_of_first-index.result all cur c.index_of_first-index.ensures ended

pub returns-in-Quiet-clause-halts : goal.returns-in-Quiet-clause-halts
returns-in-Quiet-clause-halts g c =
    let trace = g.W.Wires.trace in
    let all = c.args.lanes.now.items in
    let cur = c.turn_until.new.lanes.items in
    let end_is : c.len-end.result ≡ length all = search rules in
    let walked = subst (λ n. Ends (trace c.args.wires.now) (trace c.turn_until.new.wires) c.args.now c.index_of_first-index.result n all cur course.Quiet) end_is (rw c.in-Quiet.is at c.in_ok-event.ensures.ended) in
    halts-later-on (trace c.args.wires.now) (trace c.turn_until.new.wires) (trace c.turn_last.new.wires) c.args.now c.args.from c.index_of_first-index.result all cur
    c.turn_last.new.lanes.items c.turn_last.result c.index_of_first-index.ensures walked c.turn_last.ensures.halts

pub returns-in_err-event-clause-halts : goal.returns-in_err-event-clause-halts
returns-in_err-event-clause-halts g c =
    let trace = g.W.Wires.trace in
    on-err c.from_residual.result (halts-sooner (trace c.args.wires.now) (trace c.turn_until.new.wires) c.args.now c.args.from c.index_of_first-index.result c.len-end.result c.args.lanes.now.items
    c.turn_until.new.lanes.items c.index_of_first-index.ensures (search rules) c.in_err-event.ensures.halts)
