use Rattle.std.proofs.Common.{refl}
use Rattle.hd_calls.specs.declared.vocabulary.Act.TheVariants as act
use Rattle.hd_calls.specs.Peers.{codec}
use Rattle.hp_peer.proofs.JobTurns.{carried_quietly, deed_quiet, more_quiet, wait_quiet}
use Rattle.hp_peer.proofs.peer.Peer.carry_out.Goals as goal

pub returns-in-More-clause-ok : goal.returns-in-More-clause-ok
returns-in-More-clause-ok g c = λ now t h half.
    carried_quietly {H = g.row.H.Denot} _ t h (c.tables_agree.ensures t h).1 c.args.self.now now c.args.stepped.now half act.More c.in-More.is _
    (more_quiet t (codec t h) half.was_prepared.step.call.way half.was_prepared.job) c.commit.ensures.turned refl tt

pub returns-in-Wait-clause-ok : goal.returns-in-Wait-clause-ok
returns-in-Wait-clause-ok g c = λ now t h half.
    carried_quietly {H = g.row.H.Denot} _ t h (c.tables_agree.ensures t h).1 c.args.self.now now c.args.stepped.now half act.Wait c.in-Wait.is _
    (wait_quiet t (codec t h) half.was_prepared.step.call.way half.was_prepared.job) c.commit-in-Wait.ensures.turned refl tt

pub returns-in-Do-clause-ok : goal.returns-in-Do-clause-ok
returns-in-Do-clause-ok g c = λ now t h half.
    carried_quietly {H = g.row.H.Denot} _ t h (c.tables_agree.ensures t h).1 c.args.self.now now c.args.stepped.now half (act.Do _) c.in-Do.is _
    (deed_quiet t (codec t h) half.was_prepared.step.call.way half.was_prepared.job _) c.commit-in-Do.ensures.turned refl tt
