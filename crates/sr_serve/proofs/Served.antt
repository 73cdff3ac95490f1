-- What a server did through its door, from nothing on.
use Rattle.std.proofs.Common.{◌≡◌, ℕ, List, [], ◌∷◌, ◌++◌, refl, arith, inr, Option, Some, None, is_some, IfSome, subst, option_map, Err}
use Rattle.std.specs.Io.KnownBytes.{Appends}
use Rattle.hd_rooms.specs.declared.vocabulary.Asked.{Asked}
use Rattle.hd_rooms.specs.declared.vocabulary.Asked.TheVariants as ask
use Rattle.hd_rooms.specs.Kept.{Content, row_count}
use Rattle.hd_calls.specs.Peers.{Settings}
use Rattle.hw_door.specs.DoorCalls.{DoorCall, flushed, heard_in}
use Rattle.hd_server.specs.Doings.{work}
use Rattle.hd_server.specs.Machine.{ArePeers}
use Rattle.hd_server.specs.Plans.{Setup}
use Rattle.hd_server.specs.Serving.{ServeEnd, ServesOn, failed_call}
use Rattle.hub_demo.specs.declared.hub.ServeJob.{ServeJob}
use Rattle.hub_demo.specs.Serving.{serve_hub}
use Rattle.hub_server.specs.declared.server.Server.{Server}
use Rattle.hub_server.specs.Resend.{ResendLimits}
use Rattle.hub_server.specs.Servers.{IsSetup}
use Rattle.hub_server.specs.declared.serving.ServeFault.{ServeFault}
use Rattle.hub_server.specs.declared.serving.ServeFault.TheVariants as fault
use Rattle.hub_server.specs.Serving.{AtEnd, HasEnded, HasServed, IsCausedBy, fault_of}
use Rattle.hub_server.specs.Steps.{Outside, StandsServer, outside}
use Rattle.sr_serve.specs.declared.serving.ServeError.TheVariants as end
use Rattle.sr_serve.specs.Serving.{Ends, IsCut, IsServed, Environment, Serves, counted, error_of_server, serving_line}
use Rattle.sr_serve.proofs.Delivering.{Laws, are_sides}
use Rattle.sr_serve.proofs.Sided.{Leads, served_on}

-- a server that did nothing has no peers
pub none_yet : ArePeers serve_hub (work [])
none_yet c t is = absurd (let z : ◌≡◌ {A = Option Settings} None (Some t) = is in cc)

module _ (laws : Laws) (s : Setup) (base : List ℕ) (resend : ResendLimits) (live : ℕ) (setup : IsSetup s base resend live) where
  at_end : {H : Type 0} (server : Server H ServeJob) (at since : Outside) (last : ℕ) → Leads serve_hub (AtEnd serve_hub s server at since last []) (IsServed at since last)
  at_end server at since last h peers end = record {
    went = end.went;
    timely = end.timely;
    sides = are_sides laws serve_hub s base resend live setup h peers
        (λ c t is. record { begun = end.stands.stands.begun c t is; said = end.stands.stands.machine.said c t is });
  }

  cut_off : {H : Type 0} (server : Server H ServeJob) (at : Outside) (last : ℕ) → Leads serve_hub (HasEnded s server at last []) (IsCut at last)
  cut_off server at last h peers end = record {
    until = end.until;
    served = record { went = end.went; timely = end.timely; sides = are_sides laws serve_hub s base resend live setup h peers end.speakers };
  }

-- the line was written, and a server that did nothing before served
pub serves_by : Laws → {H : Type 0} (base : List ℕ) (resend : ResendLimits) (live turns rows : ℕ) (Goes Then : List DoorCall → Type 0)
    (why : Option ServeFault) (before now : Environment) (at : Outside) (server after : Server H ServeJob)
    → ((calls : List DoorCall) → Goes calls → Then (calls ++ flushed ∷ [])) → IfSome before.kept.holds (λ content. rows ≡ row_count content.rows)
    → Appends before.holds now.holds (serving_line rows) → at ≡ counted rows before.kept
    → ((s : Setup) → IsSetup s base resend live → StandsServer serve_hub s server [])
    → (ending : ServeEnd) × (why ≡ fault_of ending) × HasServed serve_hub server after at now.kept Goes before.heard_at now.heard_at turns ending
    → Serves base resend live turns Then why before now
serves_by laws base resend live turns rows Goes Then why before now at server after on are_rows line same stands (ending, why_is, has) = record {
  rows = rows;
  are_rows = are_rows;
  line = line;
  ending = ending;
  why_is = why_is;
  calls = has.calls;
  goes = on (has.calls ++ failed_call ending) has.goes;
  turn_by_turn = has.turn_by_turn;
  count = has.count;
  serves = λ s setup.
      subst (λ a. ServesOn serve_hub s ending (IsServed a now.kept now.heard_at) (IsCut a now.heard_at) [] (heard_in has.calls) has.calls) same
      (served_on serve_hub s ending _ _ _ _ (at_end laws s base resend live setup after at now.kept now.heard_at)
      (cut_off laws s base resend live setup after at now.heard_at)
      (heard_in has.calls) has.calls [] none_yet (has.serves s [] (stands s setup) (omega arith)));
}

-- what is told of the keeper once it was asked for its rows
pub counted_by : (rows : ℕ) (holds holds' : Option Content) (answers answers' : Option (List Asked)) (faults faults' : ℕ)
    (drawn : Option (List (Option (List ℕ)))) (failures : ℕ) → holds' ≡ holds
    → answers' ≡ option_map (λ (asks : List Asked). asks ++ ask.Rows (Some rows) ∷ []) answers → faults' ≡ faults
    → outside holds' answers' faults' drawn failures ≡ counted rows (outside holds answers faults drawn failures)
counted_by rows holds holds' answers answers' faults faults' drawn failures same_holds same_answers same_faults =
    rw (same_holds, same_answers, same_faults) refl

-- the server ended before its turns were done
pub serving_failed : (base : List ℕ) (resend : ResendLimits) (live turns : ℕ) (Goes : List DoorCall → Type 0) (before now : Environment) (why : ServeFault)
    → Serves base resend live turns Goes (Some why) before now → now.sink_faults ≡ before.sink_faults
    → IsCausedBy {T = Unit} before.door_faults now.door_faults (Err why) → Ends base resend live turns Goes before now (Err (error_of_server why))
serving_failed base resend live turns Goes before now fault.Door serves whole cause = (serves, whole, cause.1)
serving_failed base resend live turns Goes before now fault.NoMemory serves whole cause = (inr serves, whole, cause)

pub not_keeper : (why : ServeFault) → error_of_server why ≡ end.Keeper → ⊥
not_keeper fault.Door is = cc
not_keeper fault.NoMemory is = cc

pub not_write : (why : ServeFault) → error_of_server why ≡ end.Write → ⊥
not_write fault.Door is = cc
not_write fault.NoMemory is = cc
