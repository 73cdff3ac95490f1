-- What a call does at the hub that is served, up to its end.
use Rattle.std.specs.Prelude.{◌≡◌, ℕ, true, false, List, is_some}
use Rattle.hd_calls.specs.declared.vocabulary.Call.{Call}
use Rattle.hd_calls.specs.Hubs.{Turn}
use Rattle.hd_calls.specs.Rules.{run}
use Rattle.hd_rooms.specs.Rooms.{rooms, method_of}
use Rattle.hub_calc.specs.Table.{calc_hub}
use Rattle.hub_demo.specs.Serving.{serve_hub}

abbrev pub RoomsAreServed : Type 0
RoomsAreServed = (call : Call) (since : ℕ) (turns : List Turn) → is_some (method_of call.target) ≡ true
    → run serve_hub (serve_hub.begin_of call since) turns ≡ run rooms (rooms.begin_of call since) turns

abbrev pub CalculationsAreServed : Type 0
CalculationsAreServed = (call : Call) (since : ℕ) (turns : List Turn) → is_some (method_of call.target) ≡ false
    → run serve_hub (serve_hub.begin_of call since) turns ≡ run calc_hub (calc_hub.begin_of call since) turns
