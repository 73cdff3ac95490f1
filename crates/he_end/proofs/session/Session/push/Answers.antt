use Rattle.std.proofs.Common.{◌∙◌}
use Rattle.he_end.proofs.Messages.{remembers_pushed, number_pushed}
use Rattle.he_end.proofs.session.Session.push.Goals.{in-Ok, in-Err}
use Rattle.he_end.proofs.session.Session.push.Goals as goal

pub returns-clause-ok : goal.returns-clause-ok
returns-clause-ok c = elim c.match-push.branch [
  | in-Ok w ↦ rw w.result-is (λ c' k m r shaken is. let h = w.in-Ok in (h.ensures.ok.0 ∙ number_pushed c' c.args.self.now k m r, remembers_pushed c' c.args.self.now k m c.args.frame c.push.new.self r c.buffer_is_within.ensures shaken is h.ensures.ok.3))
  | in-Err w ↦ rw w.result-is tt
]
