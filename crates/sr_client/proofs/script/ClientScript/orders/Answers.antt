use Rattle.sr_script.specs.Lines.{lines_of}
use Rattle.sr_client.proofs.Scripts.{few_in}
use Rattle.sr_client.proofs.script.ClientScript.orders.Goals as goal

pub returns-clause-few : goal.returns-clause-few
returns-clause-few c = rw (← c.self.view_is) (few_in (lines_of c.self.invariant.0) c.self.inside.orders.items c.self.invariant.1.script)
