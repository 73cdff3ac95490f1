use Rattle.std.proofs.Common.{◌≡◌, Some, rules}
use Rattle.hj_jobs.proofs.Claiming.{id_changed}
use Rattle.hj_jobs.proofs.ids.Ids.take_id.Goals as goal
use Rattle.hj_jobs.proofs.ids.Ids.take_id.Goals.{in-Ok, in-Err}

pub returns-clause-ok : goal.returns-clause-ok
returns-clause-ok c =
    let copied : c.in_ok-copy.copy ≡ c.in-Some.id = search rules in
    elim c.match-insert.branch [
      | in-Ok w ↦ rw w.result-is (id_changed c.args.self.now.ids c.insert.new.self c.args.id.now c.in-Some.id c.in_ok-copy.copy (Some c.args.job) c.in-Some.is copied w.in-Ok.ensures.updates)
      | in-Err w ↦ rw w.result-is tt
    ]
