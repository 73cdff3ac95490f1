use Rattle.hj_jobs.specs.Meaning.{meaning}
use Rattle.hub_machine.proofs.TookSaid.{says_none, says_one}
use Rattle.hub_machine.proofs.peer_traffic.say_one.Goals as goal

pub returns : goal.returns
returns g c = λ t h s.
    says_one {H = g.row.H.Denot} {Job = g.row.H-Job.Denot} (meaning g.H.Hub.begin_of g.H.Hub.step_of) t h c.next_out.follows.lender-at-none
    c.args.out.now.items c.in-Some.bytes.now c.extend_from_slice.new.self.items c.in_ok-extend_from_slice.ensures.items
    (c.in-Some.ensures.bytes t h s) (c.next_out.follows.holds-at-none.1 t h s)

pub returns-in_default : goal.returns-in_default
returns-in_default g c = λ t h s.
    says_none {H = g.row.H.Denot} {Job = g.row.H-Job.Denot} (meaning g.H.Hub.begin_of g.H.Hub.step_of) t h c.next_out.follows.lender-at-none
    c.args.out.now.items (c.in_default.ensures.bytes t h s) (c.next_out.follows.holds-at-none.1 t h s)
