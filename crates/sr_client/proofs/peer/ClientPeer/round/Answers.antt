use Rattle.std.proofs.Common.{◌∷◌}
use Rattle.hd_calls.specs.Peers.{Rounds}
use Rattle.sr_client.proofs.Rounds.{has_round}
use Rattle.sr_client.proofs.peer.ClientPeer.round.Goals as goal

pub returns : goal.returns
returns c = λ t h plays.
    has_round c.turns_are_tested.ensures t h c.args.self.now plays c.step_job.new.self c.args.now c.nothing_is_handed_up.ensures.client
    c.in_ok-_deed._deed (c.in_ok-_deed.ensures.ok t (Rounds ∷ h) (c.begin_round.ensures.begins t h plays.on.stands))
