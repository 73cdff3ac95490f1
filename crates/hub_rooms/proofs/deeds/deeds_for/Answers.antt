use Rattle.std.proofs.Common.{ℕ, List}
use Rattle.hv_value.specs.View.{trees_of}
use Rattle.hd_rooms.specs.declared.vocabulary.RoomsMethod.TheVariants.{Join, Leave, History}
use Rattle.hd_rooms.specs.Rooms.{deeds_of}
use Rattle.hub_rooms.proofs.Methods.{for_one}
use Rattle.hub_rooms.proofs.deeds.deeds_for.Goals as goal

pub returns-in-Join : goal.returns-in-Join
returns-in-Join c = rw c.in-Join.is (for_one c.join.result (λ (w : List ℕ). deeds_of Join w (trees_of c.args.arguments.now)) c.args.who.now c.join.ensures)

pub returns-in-Leave : goal.returns-in-Leave
returns-in-Leave c = rw c.in-Leave.is (for_one c.leave.result (λ (w : List ℕ). deeds_of Leave w (trees_of c.args.arguments.now)) c.args.who.now c.leave.ensures)

pub returns-in-History : goal.returns-in-History
returns-in-History c = rw c.in-History.is (for_one c.history.result (λ (w : List ℕ). deeds_of History w (trees_of c.args.arguments.now)) c.args.who.now c.history.ensures)
