use Rattle.std.proofs.Common.{length, ap, ◌∙◌, sym}
use Rattle.hd_calls.specs.Tables.{job_happenings}
use Rattle.hp_peer.proofs.peer.Peer.begun.Goals as goal

pub returns : goal.returns
returns g c = λ t h s. c.accepted.ensures t.who (job_happenings t h) s.jobs ∙ sym (ap length (c.tables_agree.ensures t h).1.begins)
