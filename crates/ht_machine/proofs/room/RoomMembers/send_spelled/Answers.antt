use Rattle.hub_machine.specs.Spreads.{Sends}
use Rattle.ht_machine.proofs.Dealt.{dealt, same_codecs}
use Rattle.ht_machine.proofs.room.RoomMembers.send_spelled.Goals as goal

pub returns-clause-dealt : goal.returns-clause-dealt
returns-clause-dealt c s ds so_far = dealt s _ _ ds (Sends _ _ _) c.give.ensures so_far

pub returns-clause-same : goal.returns-clause-same
returns-clause-same c k = same_codecs _ _ _ _ c.give.ensures k
