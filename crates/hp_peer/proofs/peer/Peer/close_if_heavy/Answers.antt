use Rattle.hp_peer.proofs.Heavy.{is_closed_heavy, stays_light}
use Rattle.hp_peer.proofs.peer.Peer.close_if_heavy.Goals as goal

pub returns-clause-closes : goal.returns-clause-closes
returns-clause-closes g c = λ who h s.
    is_closed_heavy c.args.self.now.end c.close.new.self c.weight.result _ (c.weight.ensures who h s).least c.if-weight-le-MOST_WEIGHT.false
    (λ wire conf k x. (c.close.ensures.live wire conf k x, c.close.ensures.closed wire conf k x))

pub returns-then-weight-le-MOST_WEIGHT-clause-closes : goal.returns-then-weight-le-MOST_WEIGHT-clause-closes
returns-then-weight-le-MOST_WEIGHT-clause-closes g c = λ who h s.
    stays_light c.args.self.now.end c.weight.result _ (c.weight.ensures who h s).exact c.if-weight-le-MOST_WEIGHT.true
