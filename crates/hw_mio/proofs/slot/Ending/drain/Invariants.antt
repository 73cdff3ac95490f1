use Rattle.hw_mio.proofs.slot.Ending.drain.Given as goal

abbrev pub decreases-loop-self : goal.decreases-loop-self
decreases-loop-self l = l.self.left
