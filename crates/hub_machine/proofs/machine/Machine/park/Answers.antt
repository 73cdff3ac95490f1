use Rattle.hj_jobs.specs.Meaning.{meaning}
use Rattle.hub_machine.proofs.Napping.{on_ok, parks}
use Rattle.hub_machine.proofs.machine.Machine.park.Goals as goal

pub returns-in-Some-clause-stands : goal.returns-in-Some-clause-stands
returns-in-Some-clause-stands g c = on_ok c.fall_asleep.result _ _ (λ falls w t s there none.
    let drowsy = c.in-Some.ensures.may w t s there none in
    parks {H = g.row.H.Denot} {Job = g.row.H-Job.Denot} (meaning g.H.Hub.begin_of g.H.Hub.step_of) c.args.self.now c.args.conn c.in-Some.idle_peer
    c.fall_asleep.new.self w t s there drowsy.awake c.in-Some.ensures.now drowsy.may falls) c.fall_asleep.ensures.sleeps
