use Rattle.sr_peers.proofs.peers.Peers.act.Goals as goal

pub returns-in_ok-write-in-Write : goal.returns-in_ok-write-in-Write
returns-in_ok-write-in-Write c =
    rw c.in-Write.is (λ p actions r follows turn.
    let done = c.in_ok-write-in-Write.ensures c.args.report.now.items p actions r follows turn in (done.0, done.1, done.2.0))

pub returns-in_ok-round-in-Round : goal.returns-in_ok-round-in-Round
returns-in_ok-round-in-Round c =
    rw c.in-Round.is (λ p actions r follows turn.
    let done = c.in_ok-round-in-Round.ensures c.args.report.now.items p actions r follows turn in (done.0, done.1, done.2.0))
