use Rattle.std.proofs.Common.{refl, arith}
use Rattle.sr_peers.proofs.Lanes.{left_none, left_one}
use Rattle.sr_peers.proofs.lane.leave.Goals as goal

pub returns-in_default : goal.returns-in_default
returns-in_default c = left_none _ _ _

pub returns-then-at-len : goal.returns-then-at-len
returns-then-at-len c = left_none _ _ _

pub returns-in-Client : goal.returns-in-Client
returns-in-Client c =
    rw (c.in-Some.is, c.in-Client.is)
    (left_one _ c.in-Some.link c.args.lanes.now.items c.index_mut-lane.result.now _ (omega (arith, c.if-at-len.false, c.len.ensures)) c.index_mut-lane.ensures.value refl refl)

pub returns-in-Server : goal.returns-in-Server
returns-in-Server c =
    rw (c.in-Some.is, c.in-Server.is)
    (left_one _ c.in-Some.link c.args.lanes.now.items c.index_mut-lane.result.now _ (omega (arith, c.if-at-len.false, c.len.ensures)) c.index_mut-lane.ensures.value refl refl)
