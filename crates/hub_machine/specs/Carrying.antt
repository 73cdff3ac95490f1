-- What carrying out a deed comes to, by who is asked for it.
use Rattle.std.specs.Prelude.{◌≡◌, ℕ, List, Option, Some, None}
use Rattle.hv_value.specs.Tree.{Tree}
use Rattle.hm_message.specs.declared.message.Codec.{Codec}
use Rattle.hd_calls.specs.declared.vocabulary.Deed.{Deed}
use Rattle.hd_calls.specs.declared.vocabulary.Input.{Input}
use Rattle.hd_calls.specs.Hubs.{Hub}
use Rattle.hd_calls.specs.Peers.{PeerEvent, Settings}
use Rattle.hd_calls.specs.Rules.{MayAnswer}
use Rattle.hd_rooms.specs.declared.vocabulary.Asked.{Asked}
use Rattle.hd_rooms.specs.Kept.{Content}
use Rattle.hd_server.specs.Machine.{MachineEvent, notice, notice_of}
use Rattle.hub_machine.specs.declared.machine.Machine.{Machine}
use Rattle.hub_machine.specs.KeeperState.{keeper_state}
use Rattle.hub_machine.specs.Rounds.{IsCarried}

-- a peer that was begun so may answer the deed of its job
abbrev pub AnswersAt : Option Settings → ℕ → Input → List PeerEvent → Type 0
AnswersAt None j i h = Unit {0}
AnswersAt (Some t) j i h = MayAnswer t j i h

-- the deed tells its members this, in either codec
abbrev pub NoticesOf : Deed → List ℕ → List Tree → Type 0
NoticesOf d target arguments = (codec : Codec) → notice_of codec d ≡ Some (notice codec target arguments)

-- it is carried out without the keeper, and nothing is spelled
abbrev pub IsCarriedAlone : {H Job : Type 0} → Hub Job → Machine H Job → List MachineEvent → ℕ → ℕ → Deed → Type 0
IsCarriedAlone hub new r c j d = (holds : Option Content) (answers : Option (List Asked)) (faults spelled : ℕ)
    → IsCarried hub new (keeper_state holds answers faults spelled) (keeper_state holds answers faults spelled) r c j d

-- it is carried out without the keeper, while this many messages were spelled before, and this many after it
abbrev pub IsCarriedSpelling : {H Job : Type 0} → Hub Job → Machine H Job → ℕ → ℕ → List MachineEvent → ℕ → ℕ → Deed → Type 0
IsCarriedSpelling hub new before now r c j d = (holds : Option Content) (answers : Option (List Asked)) (faults : ℕ)
    → IsCarried hub new (keeper_state holds answers faults before) (keeper_state holds answers faults now) r c j d
