-- Which command was ended by what is outside.
use Rattle.std.proofs.Common.{◌≡◌, ◌∙◌, ◌⊎◌, ℕ, inl, inr, List, Option, Some, None, refl, sym, subst}
use Rattle.hd_delivery.specs.declared.vocabulary.Side.{Side}
use Rattle.hd_facts.specs.Writes.{Writes}
use Rattle.sr_words.specs.declared.commands.Command.{Command}
use Rattle.sr_words.specs.declared.commands.Command.TheVariants.{Replay, Record, Audit, Soak, Check, Convert, Serve, Client, User}
use Rattle.sr_words.specs.declared.adding.Adding.{Adding}
use Rattle.sr_words.specs.declared.dialing.Dialing.{Dialing}
use Rattle.sr_words.specs.declared.serving.Serving.{Serving}
use Rattle.sr_app.specs.declared.run.Status.{Status}
use Rattle.sr_app.specs.declared.run.Status.TheVariants.{Done, Usage, Refused, ReadFault, WriteFault, DoorFault, KeeperFault, NoMemory, ConnectionRefused, LotsFault, TurnsDone, BrokenOff}
use Rattle.sr_app.specs.Run.{Ends, InputOutput, IsAddingUntil, IsEndedOtherwise, IsServingUntil, Meaning, code_of, meaning_of}
use Rattle.sr_app.proofs.Answering.{same_status}
use Rattle.sr_app.proofs.Audited.{IsOfNoVerdict, not_of_a_verdict}
use Rattle.sr_app.proofs.Dialed.{not_of_a_run}

-- a command that was ended so wrote what goes with that
pub ended_with : (m : Meaning) (own status : Status) (before now : InputOutput) → Ends m own before now → own ≡ status → IsEndedOtherwise status
    → m.leaves now.left × Writes (m.ended status) before.left before.holds now.holds
ended_with m own status before now ends same outside =
    subst (λ s. IsEndedOtherwise s → m.leaves now.left × Writes (m.ended s) before.left before.holds now.holds) same ends.ended outside

-- no command was ended so whose words are none, nor one whose words weren't read
pub not_by_words : (own status : Status) → (own ≡ Usage) ⊎ (own ≡ WriteFault) → IsEndedOtherwise status → code_of own ≡ code_of status → ⊥
not_by_words own status (inl usage) outside same = subst IsEndedOtherwise (sym (same_status own status same) ∙ usage) outside
not_by_words own status (inr cut) outside same = subst IsEndedOtherwise (sym (same_status own status same) ∙ cut) outside

pub not_in_memory : (status : Status) → IsEndedOtherwise status → code_of NoMemory ≡ code_of status → ⊥
not_in_memory status outside same = subst IsEndedOtherwise (sym (same_status NoMemory status same)) outside

pub server_or_user_of : (command : Command) (input before now : Option (List ℕ)) → Writes ((meaning_of command).ended KeeperFault) input before now
    → ((asked : Serving) × (command ≡ Serve asked)) ⊎ ((asked : Adding) × (command ≡ User asked))
server_or_user_of Replay input before now w = absurd w.3
server_or_user_of Record input before now w = absurd w.3
server_or_user_of (Audit side) input before now w = absurd (not_of_a_verdict side KeeperFault tt w.0 w.1 w.3)
server_or_user_of (Soak seed steps) input before now w = absurd w.3
server_or_user_of (Check codec) input before now w = absurd w.3
server_or_user_of (Convert from to) input before now w = absurd w.3
server_or_user_of (Serve asked) input before now w = inl (asked, refl)
server_or_user_of (Client asked) input before now w = absurd (not_of_a_run KeeperFault tt w.3.ran w.3.status_is)
server_or_user_of (User asked) input before now w = inr (asked, refl)

pub door_or_dialer_of : (command : Command) (input before now : Option (List ℕ)) → Writes ((meaning_of command).ended DoorFault) input before now
    → ((asked : Serving) × (command ≡ Serve asked)) ⊎ ((asked : Dialing) × (command ≡ Client asked))
door_or_dialer_of Replay input before now w = absurd w.3
door_or_dialer_of Record input before now w = absurd w.3
door_or_dialer_of (Audit side) input before now w = absurd (not_of_a_verdict side DoorFault tt w.0 w.1 w.3)
door_or_dialer_of (Soak seed steps) input before now w = absurd w.3
door_or_dialer_of (Check codec) input before now w = absurd w.3
door_or_dialer_of (Convert from to) input before now w = absurd w.3
door_or_dialer_of (Serve asked) input before now w = inl (asked, refl)
door_or_dialer_of (Client asked) input before now w = inr (asked, refl)
door_or_dialer_of (User asked) input before now w = absurd w.3

-- only a client has the last three statuses
abbrev IsOfDialing : Status → Type 0
IsOfDialing ConnectionRefused = Unit {0}
IsOfDialing LotsFault = Unit {0}
IsOfDialing TurnsDone = Unit {0}
IsOfDialing status = ⊥

not_without_dialing : (status : Status) → IsOfDialing status → (text line : List ℕ) → IsServingUntil status text line ⊎ IsAddingUntil status text line → ⊥
not_without_dialing ConnectionRefused is text line (inl serves) = serves
not_without_dialing ConnectionRefused is text line (inr adds) = adds
not_without_dialing LotsFault is text line (inl serves) = serves
not_without_dialing LotsFault is text line (inr adds) = adds
not_without_dialing TurnsDone is text line (inl serves) = serves
not_without_dialing TurnsDone is text line (inr adds) = adds
not_without_dialing Done is text line either = is
not_without_dialing Usage is text line either = is
not_without_dialing Refused is text line either = is
not_without_dialing ReadFault is text line either = is
not_without_dialing WriteFault is text line either = is
not_without_dialing DoorFault is text line either = is
not_without_dialing KeeperFault is text line either = is
not_without_dialing NoMemory is text line either = is
not_without_dialing BrokenOff is text line either = is

no_verdict : (status : Status) → IsOfDialing status → IsOfNoVerdict status
no_verdict ConnectionRefused is = tt
no_verdict LotsFault is = tt
no_verdict TurnsDone is = tt
no_verdict Done is = absurd is
no_verdict BrokenOff is = absurd is
no_verdict Usage is = tt
no_verdict Refused is = tt
no_verdict ReadFault is = tt
no_verdict WriteFault is = tt
no_verdict DoorFault is = tt
no_verdict KeeperFault is = tt
no_verdict NoMemory is = tt

dialer_of : (status : Status) → IsOfDialing status → (command : Command) (input before now : Option (List ℕ)) → Writes ((meaning_of command).ended status) input before now
    → (asked : Dialing) × (command ≡ Client asked)
dialer_of status is Replay input before now w = absurd w.3
dialer_of status is Record input before now w = absurd w.3
dialer_of status is (Audit side) input before now w = absurd (not_of_a_verdict side status (no_verdict status is) w.0 w.1 w.3)
dialer_of status is (Soak seed steps) input before now w = absurd w.3
dialer_of status is (Check codec) input before now w = absurd w.3
dialer_of status is (Convert from to) input before now w = absurd w.3
dialer_of status is (Serve asked) input before now w = absurd (not_without_dialing status is w.0 w.1 (inl w.3))
dialer_of status is (Client asked) input before now w = (asked, refl)
dialer_of status is (User asked) input before now w = absurd (not_without_dialing status is w.0 w.1 (inr w.3))

pub client_of : (command : Command) (own : Status) (before now : InputOutput) → Ends (meaning_of command) own before now → (code_of own ≡ 8) ⊎ (code_of own ≡ 9) ⊎ (code_of own ≡ 10)
    → (asked : Dialing) × (command ≡ Client asked)
client_of command own before now ends (inl is) =
    dialer_of ConnectionRefused tt command _ _ _ (ended_with _ own ConnectionRefused before now ends (same_status own ConnectionRefused is) tt).1
client_of command own before now ends (inr (inl is)) = dialer_of LotsFault tt command _ _ _ (ended_with _ own LotsFault before now ends (same_status own LotsFault is) tt).1
client_of command own before now ends (inr (inr is)) = dialer_of TurnsDone tt command _ _ _ (ended_with _ own TurnsDone before now ends (same_status own TurnsDone is) tt).1

-- only an audit ends because a trace breaks off
pub auditor_of : (command : Command) (input before now : Option (List ℕ)) → Writes ((meaning_of command).ended BrokenOff) input before now
    → (side : Option Side) × (command ≡ Audit side)
auditor_of Replay input before now w = absurd w.3
auditor_of Record input before now w = absurd w.3
auditor_of (Audit side) input before now w = (side, refl)
auditor_of (Soak seed steps) input before now w = absurd w.3
auditor_of (Check codec) input before now w = absurd w.3
auditor_of (Convert from to) input before now w = absurd w.3
auditor_of (Serve asked) input before now w = absurd w.3
auditor_of (Client asked) input before now w = absurd (not_of_a_run BrokenOff tt w.3.ran w.3.status_is)
auditor_of (User asked) input before now w = absurd w.3
