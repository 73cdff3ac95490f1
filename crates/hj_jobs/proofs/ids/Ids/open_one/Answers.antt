use Rattle.std.proofs.Common.{◌≡◌, refl, sym, ◌∙◌, rules}
use Rattle.hj_jobs.specs.Ids.{stream_at}
use Rattle.hj_jobs.proofs.Claiming.{opened_one, there_is}
use Rattle.hj_jobs.proofs.ids.Ids.open_one.Goals as goal
use Rattle.hj_jobs.proofs.ids.Ids.open_one.Goals.{in-Ok-insert, in-Err}

pub returns-then-contains_key-clause-refused : goal.returns-then-contains_key-clause-refused
returns-then-contains_key-clause-refused c =
    let copied : c.in_ok-copy.field-0 ≡ c.args.stream.now = search rules in
    (copied, there_is (stream_at c.args.self.now c.args.stream.now) (sym c.contains_key.ensures ∙ c.if-contains_key.true))

pub returns-clause-ok : goal.returns-clause-ok
returns-clause-ok c =
    let copied : c.in_ok-copy-2.copy ≡ c.args.stream.now = search rules in
    let place : c.in-Ok.which ≡ c.args.place = search rules in
    elim c.match-insert.branch [
      | in-Ok-insert w ↦ rw w.result-is (opened_one c.args.self.now (record { ids = c.args.self.now.ids; streams = c.insert.new.self }) c.args.job c.args.place c.in-Ok.which c.args.stream.now c.in_ok-copy-2.copy (λ i. refl) copied place w.in-Ok-insert.ensures.updates)
      | in-Err w ↦ rw w.result-is tt
    ]
