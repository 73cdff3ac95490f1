use Rattle.hn_server_front.proofs.Expiring.{least_is_first}
use Rattle.hn_server_front.proofs.front.Front.overdue.Goals as goal

pub returns : goal.returns
returns c = λ h s. least_is_first c.args.self.now h s c.args.now c.first_due.result (c.first_due.ensures s.order)
