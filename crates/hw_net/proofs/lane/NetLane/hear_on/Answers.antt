use Rattle.std.proofs.Common.{rules, List, [], sym, subst}
use Rattle.std.proofs.lemmas.List.{append-nil}
use Rattle.hw_door.specs.Traffic.{Answer}
use Rattle.hw_net.specs.declared.input.Input.TheVariants.{Nothing}
use Rattle.hw_net.specs.Turn.{Hears}
use Rattle.hw_net.proofs.Calm.{after-first_look, calm-input}
use Rattle.hw_net.proofs.Telling.{tells-none}
use Rattle.hw_net.proofs.Halting.{after-look}
use Rattle.hw_net.proofs.lane.NetLane.hear_on.Goals as goal

pub returns-in-NothingRead-clause-heard : goal.returns-in-NothingRead-clause-heard
returns-in-NothingRead-clause-heard g c = λ first reads_first.
    let lane = c.args.self.now in (
      [],
      tells-none (g.W.Wires.trace c.args.wires.now),
      subst (λ (l : List Answer). Hears lane.wire lane.protocol lane.protocol l Nothing) (sym (append-nil first)) (calm-input lane first c.args.buf.now (search rules)),
    )

pub returns-in-Read-clause-heard : goal.returns-in-Read-clause-heard
returns-in-Read-clause-heard g c =
    after-first_look c.hear_after.result (g.W.Wires.trace c.args.wires.now) c.args.self.now c.hear_after.new.self.protocol c.args.buf.now c.args.first_look c.in-Read.read (search rules) c.hear_after.ensures.heard

pub returns-in-Read-clause-halts : goal.returns-in-Read-clause-halts
returns-in-Read-clause-halts g c =
    after-look c.hear_after.result (g.W.Wires.trace c.args.wires.now) c.args.self.now c.hear_after.new.self c.args.buf.now c.args.first_look c.in-Read.read (search rules) c.hear_after.ensures.halts
