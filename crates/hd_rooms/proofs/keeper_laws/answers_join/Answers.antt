use Rattle.hd_rooms.proofs.Joins.{did_join, faults_join}
use Rattle.hd_rooms.proofs.keeper_laws.answers_join.Goals as goal

pub returns : goal.returns
returns c = record { kept = did_join; faults = faults_join }
