use Rattle.std.proofs.Common.{rules, ◌≡◌, true, false}
use Rattle.hw_net.proofs.Sayings.{sent-more, sent-none}
use Rattle.hw_net.proofs.lane.NetLane.send.Goals.{then-branch, else-branch}
use Rattle.hw_net.proofs.lane.NetLane.send.Goals as goal

pub returns-clause-sent : goal.returns-clause-sent
returns-clause-sent g c =
    let trace = g.W.Wires.trace in
    elim c.if-branch.branch [
      | then-branch w ↦
          let is_put : c.in_ok-put.field-0 ≡ true = search rules in
          let put = rw is_put at c.in_ok-put.ensures.put in
          rw (w.wires-is, w.self-is) (sent-more (trace c.args.wires.now) (trace w.gather_or_say.new.wires) c.args.now c.args.bytes.now c.args.text c.args.self.now c.put.new.self w.gather_or_say.new.self w.note_message.new.self put
          w.gather_or_say.ensures.said w.note_message.ensures)
      | else-branch w ↦
          let is_put : c.in_ok-put.field-0 ≡ false = search rules in
          let put = rw is_put at c.in_ok-put.ensures.put in
          rw (w.wires-is, w.self-is) (sent-none (trace c.args.wires.now) c.args.now c.args.bytes.now c.args.text c.args.self.now c.put.new.self put)
    ]
