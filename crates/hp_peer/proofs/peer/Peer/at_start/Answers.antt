use Rattle.std.proofs.Common.{◌==◌, ap, ◌∙◌, sym}
use Rattle.hd_calls.specs.Tables.{job_happenings}
use Rattle.hp_peer.proofs.peer.Peer.at_start.Goals as goal

pub returns : goal.returns
returns g c = λ t h s. c.at_start.ensures t.who (job_happenings t h) s.jobs ∙ sym (ap (λ n. n == 0) (c.tables_agree.ensures t h).1.passes)
