use Rattle.std.proofs.Common.{◌≡◌, sym, ◌∙◌, rules}
use Rattle.hj_jobs.proofs.Claiming.{clash_of_job}
use Rattle.hj_jobs.proofs.ids.Ids.test_id.Goals as goal

pub returns-then-contains_key-clause-refused : goal.returns-then-contains_key-clause-refused
returns-then-contains_key-clause-refused c =
    let copied : c.in_ok-copy.field-0 ≡ c.in-Some.id = search rules in
    clash_of_job c.args.self.now c.args.id.now c.in-Some.id c.in_ok-copy.field-0 c.in-Some.is copied (sym c.contains_key.ensures ∙ c.if-contains_key.true)
