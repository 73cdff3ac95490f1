use Rattle.hub_machine.specs.Spreads.{Slows}
use Rattle.ht_machine.proofs.Dealt.{dealt, other_codecs}
use Rattle.ht_machine.proofs.room.RoomMembers.slow.Goals as goal

pub returns-clause-dealt : goal.returns-clause-dealt
returns-clause-dealt c s ds so_far = dealt s _ _ ds (Slows _) c.close.ensures so_far

pub returns-clause-others : goal.returns-clause-others
returns-clause-others c k n = other_codecs _ _ _ _ c.close.ensures k n
