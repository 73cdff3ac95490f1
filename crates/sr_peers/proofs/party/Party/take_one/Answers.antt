use Rattle.std.proofs.Common.{refl}
use Rattle.sr_peers.proofs.Takes.{took, took_fault}
use Rattle.sr_peers.proofs.party.Party.take_one.Goals as goal

pub returns-in_ok-push_did-in_default-clause-took : goal.returns-in_ok-push_did-in_default-clause-took
returns-in_ok-push_did-in_default-clause-took g c = λ t h plays.
    let made = rw c.in-Ok-Some.field-0-is at c.in-Ok-Some.ensures.ok in
    took {H = g.row.H.Denot} _ t c.args.self.now h plays c.take.new.self c.args.now c.args.report.now.items c.push_did.new.report.items
    c.in-Ok-Some.did c.processed_count-number.result (made t h plays.stands) c.in_ok-push_did-in_default.ensures

pub returns-in_ok-push_peer_fault-in_default-fault : goal.returns-in_ok-push_peer_fault-in_default-fault
returns-in_ok-push_peer_fault-in_default-fault g c = record {
  took = λ t h plays.
      took_fault {H = g.row.H.Denot} _ t c.args.self.now h plays c.take.new.self c.args.now c.args.report.now.items c.push_peer_fault.new.report.items
      c.in-Err.fault c.faults_are_told.ensures c.in_default-fault.not-NoMemory (c.in-Err.ensures.refused t h plays.stands) c.in_ok-push_peer_fault-in_default-fault.ensures;
  link = refl;
}
