use Rattle.std.proofs.Common.{inl}
use Rattle.hub_machine.proofs.FeedTaken.{refused_one}
use Rattle.hub_machine.proofs.peer_traffic.take_one.Goals as goal

pub returns-in-Ok-Some : goal.returns-in-Ok-Some
returns-in-Ok-Some g c = λ t h s. let took = rw c.in-Ok-Some.field-0-is at c.in-Ok-Some.ensures.ok in inl (c.in-Ok-Some._told, took t h s)

pub returns-in-Ok-None : goal.returns-in-Ok-None
returns-in-Ok-None g c = λ t h s. let took = rw c.in-Ok-None.field-0-is at c.in-Ok-None.ensures.ok in took t h s

pub returns-in-Err-Next : goal.returns-in-Err-Next
returns-in-Err-Next g c = λ t h s.
    refused_one {H = g.row.H.Denot} {Job = g.row.H-Job.Denot} _ t h c.take_in.new.self c.args.now _ _ c.in-Err-Next.field-0-is
    (λ e. absurd (cc)) (c.in-Err-Next.ensures.refused t h s)

pub returns-in-Err-InUse : goal.returns-in-Err-InUse
returns-in-Err-InUse g c = λ t h s.
    refused_one {H = g.row.H.Denot} {Job = g.row.H-Job.Denot} _ t h c.take_in.new.self c.args.now _ _ c.in-Err-InUse.field-0-is
    (λ e. absurd (cc)) (c.in-Err-InUse.ensures.refused t h s)

pub returns-in-Err-TooMany : goal.returns-in-Err-TooMany
returns-in-Err-TooMany g c = λ t h s.
    refused_one {H = g.row.H.Denot} {Job = g.row.H-Job.Denot} _ t h c.take_in.new.self c.args.now _ _ c.in-Err-TooMany.field-0-is
    (λ e. absurd (cc)) (c.in-Err-TooMany.ensures.refused t h s)

pub returns-in-Err-Flood : goal.returns-in-Err-Flood
returns-in-Err-Flood g c = λ t h s.
    refused_one {H = g.row.H.Denot} {Job = g.row.H-Job.Denot} _ t h c.take_in.new.self c.args.now _ _ c.in-Err-Flood.field-0-is
    (λ e. absurd (cc)) (c.in-Err-Flood.ensures.refused t h s)
