use Rattle.std.proofs.Common.{arith}
use Rattle.std.proofs.lemmas.Grind.{common_steps}
use Rattle.hw_door.proofs.Telling.{as_many}
use Rattle.hw_door.proofs.ledger.Ledger.calls.Goals as goal

pub returns : goal.returns
returns c =
    rw (← c.self.view_is) (grind (arith, common_steps, as_many c.self.inside.notes.items c.self.inside.bytes.items))
