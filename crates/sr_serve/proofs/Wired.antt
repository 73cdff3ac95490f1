-- What is served over a door over wires, to the byte.
use Rattle.std.proofs.Common.{◌≡◌, ◌&&◌, ℕ, Bool, true, List, [], ◌∷◌, ◌++◌, Option, refl, append_assoc, subst}
use Rattle.std.specs.List.{list_all}
use Rattle.hw_door.specs.DoorCalls.{DoorCall, flushed, heard_in, to_hear, to_say}
use Rattle.hw_door.specs.Traffic.{Answer}
use Rattle.hw_net.specs.declared.door.NetDoor.{NetDoor}
use Rattle.hw_net.specs.Chains.{is_steady}
use Rattle.hd_server.specs.Doings.{ServerEvent}
use Rattle.hd_server.specs.Serving.{ServeEnd, all_answered, at_door, in_step, failed_call}
use Rattle.hd_carried.specs.Wires.{BytesAreServed, TellNothing}
use Rattle.hub_demo.specs.declared.hub.ServeJob.{ServeJob}
use Rattle.hub_demo.specs.Serving.{serve_hub}
use Rattle.sr_serve.specs.Wires.{WiresAreServed}
use Rattle.sr_serve.proofs.Served.{none_yet}
use Rattle.sr_serve.proofs.Sided.{served_on}

-- the call that failed, if it isn't one of `next`, and the flush
last_calls : (ending : ServeEnd) → list_all is_steady (failed_call ending) ≡ true → TellNothing (failed_call ending ++ flushed ∷ [])
last_calls all_answered e = (refl, refl)
last_calls (at_door ask why) e = (refl, e)
last_calls in_step e = (refl, refl)

pub wires_are_served : {W : Type 0} (Goes : NetDoor W → List DoorCall → NetDoor W → Type 0) (trace : W → Option (List Answer)) → BytesAreServed Goes trace ServeJob → WiresAreServed Goes trace
wires_are_served Goes trace law s base resend live turns why before now start last setup started k =
    let on = served_on serve_hub s k.ending _ _ (λ after. Unit {0}) (λ after. Unit {0}) (λ h peers p. tt) (λ h peers p. tt) (heard_in k.calls) k.calls [] none_yet (k.serves s setup) in
    let goes = subst (λ l. Goes start l last) (append_assoc k.calls (failed_call k.ending) (flushed ∷ [])) k.goes in
    let all = law serve_hub s k.ending k.calls (failed_call k.ending ++ flushed ∷ []) start last started goes on in
    record { ending = k.ending; why_is = k.why_is; calls = k.calls; count = k.count; answered = all.0; served = λ e. all.2 (last_calls k.ending e) }
