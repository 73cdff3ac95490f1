-- What is served on wires: what the command `serve` does over a door over wires, to the byte.
use Rattle.std.specs.Prelude.{◌≡◌, ℕ, true, List, length, Option}
use Rattle.std.specs.List.{list_all}
use Rattle.hw_door.specs.DoorCalls.{DoorCall, full_in, given_in, heard_in}
use Rattle.hw_door.specs.Traffic.{Answer}
use Rattle.hw_net.specs.declared.door.NetDoor.{NetDoor}
use Rattle.hw_net.specs.Chains.{is_steady}
use Rattle.hd_server.specs.Plans.{Setup}
use Rattle.hd_server.specs.Serving.{ServeEnd, failed_call, is_cut}
use Rattle.hd_carried.specs.Answered.{HasAnswered, IsStarted}
use Rattle.hd_carried.specs.Wires as wires
use Rattle.hub_demo.specs.Serving.{serve_hub}
use Rattle.hub_server.specs.declared.serving.ServeFault.{ServeFault}
use Rattle.hub_server.specs.Resend.{ResendLimits}
use Rattle.hub_server.specs.Servers.{IsSetup}
use Rattle.hub_server.specs.Serving.{AreTurns, fault_of}
use Rattle.sr_serve.specs.Serving.{Environment, Serves}

-- The calls of the door were these turns. A server of this setup answered what it heard in them, and on the wires of the door it is so after the last of
-- them and the flush, unless a call of `next` failed: what was read there was heard, and what was said is written there, or waits.
pub record ServesWires {W : Type 0} (s : Setup) (trace : W → Option (List Answer)) (start last : NetDoor W) (turns : ℕ) (why : Option ServeFault) : Type 0 where
  pub ending : ServeEnd
  pub why_is : why ≡ fault_of ending
  pub calls : List DoorCall
  pub count : AreTurns ending turns (length (heard_in calls))
  pub answered : HasAnswered serve_hub s (is_cut ending) (heard_in calls) (given_in calls) (full_in calls)
  pub served : list_all is_steady (failed_call ending) ≡ true → wires.IsServed trace start last calls

-- so it is of all that is served over a door that was just started
abbrev pub WiresAreServed : {W : Type 0} → (NetDoor W → List DoorCall → NetDoor W → Type 0) → (W → Option (List Answer)) → Type 0
WiresAreServed {W} Goes trace =
    (s : Setup) (base : List ℕ) (resend : ResendLimits) (live turns : ℕ) (why : Option ServeFault) (before now : Environment) (start last : NetDoor W)
    → IsSetup s base resend live → IsStarted start → Serves base resend live turns (λ calls. Goes start calls last) why before now
    → ServesWires s trace start last turns why
