use Rattle.std.proofs.Common.{◌∷◌}
use Rattle.hd_calls.specs.Peers.{Rounds}
use Rattle.sr_peers.proofs.Rounds.{has_round}
use Rattle.sr_peers.proofs.party.Party.round.Goals as goal

pub returns : goal.returns
returns g c = λ t h plays.
    let done = has_round {H = g.row.H.Denot} _ t h c.args.self.now plays c.step_job.new.self c.args.now c.requires c.in_ok-_deed._deed
    (c.in_ok-_deed.ensures.ok t (Rounds ∷ h) (c.begin_round.ensures.begins t h plays.stands)) in
    (done.0, (done.1.0, done.1.1, c.due-due.ensures t h plays.stands))
