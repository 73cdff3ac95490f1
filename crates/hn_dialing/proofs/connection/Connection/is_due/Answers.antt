use Rattle.std.proofs.Common.{ap, sym, ◌∙◌}
use Rattle.hn_dialing.specs.Stands.{phase_of}
use Rattle.hn_dialing.proofs.Keeping.{due_away}
use Rattle.hn_dialing.proofs.connection.Connection.is_due.Goals as goal

pub returns-in-Away-clause-due : goal.returns-in-Away-clause-due
returns-in-Away-clause-due c = λ s h st. due_away h c.wait_left.result (c.wait_left.ensures.wait s h st) (sym (sym (ap phase_of c.in-Away.is) ∙ st.is_at))
