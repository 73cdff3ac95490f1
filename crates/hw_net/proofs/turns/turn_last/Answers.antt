use Rattle.hw_net.proofs.Searching.{last-heard}
use Rattle.hw_net.proofs.turns.turn_last.Goals as goal

pub returns-in-Heard-clause-turned : goal.returns-in-Heard-clause-turned
returns-in-Heard-clause-turned g c =
    let trace = g.W.Wires.trace in
    last-heard (trace c.args.wires.now) (trace c.turn_until.new.wires) (trace c.say_ended.new.wires) c.args.now c.args.end c.args.lanes.now.items c.turn_until.new.lanes.items c.say_ended.new.lanes.items
    c.in-Heard.event c.in-Heard.next (rw c.in-Heard.is at c.in_ok-event.ensures.ended) c.say_ended.ensures.said
