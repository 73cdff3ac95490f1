use Rattle.std.proofs.Common.{◌∙◌, ◌++◌, ap}
use Rattle.hub_machine.proofs.Numbers.{awake_are_numbers}
use Rattle.hub_machine.proofs.machine.Machine.awake.Goals as goal

pub returns : goal.returns
returns g c w s =
    awake_are_numbers {H = g.row.H.Denot} {Job = g.row.H-Job.Denot} c.args.self.now c.extend_from_slice.new.self.items s.index
    (c.in_ok-extend_from_slice.ensures.items ∙ ap (λ ns. ns ++ c.numbers-awake.result.now) c.in_ok-conns.ensures.items ∙ c.numbers-awake.ensures)
