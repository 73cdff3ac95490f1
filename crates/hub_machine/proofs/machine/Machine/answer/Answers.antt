use Rattle.std.proofs.Common.{refl, sym, subst}
use Rattle.hd_calls.specs.Peers.{Answers}
use Rattle.hj_jobs.specs.Meaning.{meaning}
use Rattle.hub_machine.specs.MachineView.{StandsFor, moved}
use Rattle.hub_machine.proofs.Ends.{awake_now, keeps, written}
use Rattle.hub_machine.proofs.CarryAnswer.{answer_stands, answer_unheard, takes_answer}
use Rattle.hub_machine.proofs.machine.Machine.answer.Goals as goal

pub returns-in-Some-clause-answered : goal.returns-in-Some-clause-answered
returns-in-Some-clause-answered g c a j number may s =
    let hub = meaning g.H.Hub.begin_of g.H.Hub.step_of in
    let old = c.wake.new.self in
    let peer = c.in-Some.peer.now in
    let new = record old { peers = c.get_mut.follows.lender c.answer.new.self } in
    let at = c.in-Some.ensures.value in
    let through = c.get_mut.follows.holds c.answer.new.self in
    answer_stands {H = g.row.H.Denot} {Job = g.row.H-Job.Denot} hub old new c.args.conn j c.args.input peer c.answer.new.self a
    (c.wake.ensures.stands_for a s)
    (awake_now {H = g.row.H.Denot} {Job = g.row.H-Job.Denot} old c.args.conn peer c.wake.ensures.awake at)
    (keeps {H = g.row.H.Denot} {Job = g.row.H-Job.Denot} old new c.args.conn peer c.answer.new.self at through refl) at
    (written {H = g.row.H.Denot} {Job = g.row.H-Job.Denot} old new c.args.conn peer c.answer.new.self at through)
    refl may (takes_answer {H = g.row.H.Denot} hub peer c.answer.new.self c.args.job j c.args.input c.answer.result number
    c.answer.ensures.ok c.answer.ensures.unknown)

pub returns-in_default-clause-answered : goal.returns-in_default-clause-answered
returns-in_default-clause-answered g c a j number may s =
    let hub = meaning g.H.Hub.begin_of g.H.Hub.step_of in
    subst (λ ps. StandsFor {H = g.row.H.Denot} {Job = g.row.H-Job.Denot} hub (record c.wake.new.self { peers = ps })
    (moved c.args.conn (Answers j c.args.input) a)) (sym c.get_mut.follows.holds-at-none)
    (answer_unheard {H = g.row.H.Denot} {Job = g.row.H-Job.Denot} hub c.wake.new.self c.args.conn j c.args.input a (c.wake.ensures.stands_for a s)
    c.in_default.ensures.value)
