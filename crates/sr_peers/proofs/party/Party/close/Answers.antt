use Rattle.std.proofs.Common.{◌++◌, refl}
use Rattle.hd_calls.specs.Peers.{is_shut}
use Rattle.sr_peers.specs.Doings.{closing}
use Rattle.sr_peers.proofs.Chains.{with_losses}
use Rattle.sr_peers.proofs.Links.{closes}
use Rattle.sr_peers.proofs.party.Party.close.Goals as goal

pub returns : goal.returns
returns g c = λ t h plays.
    let shut = closes {H = g.row.H.Denot} _ t h c.args.self.now plays c.close.new.self c.args.report.now.items (is_shut t h) refl
    (c.close.ensures.live t h plays.stands) (c.close.ensures.closed t h plays.stands) in
    with_losses {H = g.row.H.Denot} _ t h _ c.tell_gone.new.self c.args.report.now.items c.args.report.now.items c.tell_gone.new.report.items (closing t h) shut
    (c.in_ok-tell_gone.ensures t (closing t h ++ h) shut.plays)
