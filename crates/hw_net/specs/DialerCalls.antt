-- The calls of a dialer over wires, each as a step from one state to another.
use Rattle.std.specs.Prelude.{◌≡◌, ◌+◌, ℕ, true, List, [], Option, slice_get}
use Rattle.hd_facts.specs.Counts.{Rose}
use Rattle.hw_door.specs.declared.error.DoorError.TheVariants as error
use Rattle.hw_door.specs.declared.heard.Given.TheVariants as say
use Rattle.hw_door.specs.DoorCalls as door
use Rattle.hw_door.specs.DoorCalls.{DoorCall}
use Rattle.hw_door.specs.Traffic.{Answer}
use Rattle.hw_net.specs.declared.dialer.NetDialer.{NetDialer}
use Rattle.hw_net.specs.Chains.{SendsAs, is_live_at, is_there}
use Rattle.hw_net.specs.Dialer.{Asks, DoesOn, FailsDialed, GathersThen, HaltsDialed, HearsDialed, IsCutShort, ThenFlushes, dialer_state_of, is_on, patience}
use Rattle.hw_net.specs.Door.{is_full_at}
use Rattle.hw_net.specs.Flushing.{FlushesDoor}
use Rattle.hw_net.specs.Trace.{Tells}
use Rattle.hw_net.specs.Turn.{Shuts}

-- the bound below which all numbers of wires lie is as it was
abbrev pub IsBoundSame : {W : Type 0} → (W → ℕ) → NetDialer W → NetDialer W → Type 0
IsBoundSame bound before after = bound after.reactor.wires ≡ bound before.reactor.wires

-- and so is how many calls of `next` in a row only gathered
abbrev pub IsSteady : {W : Type 0} → (W → ℕ) → NetDialer W → NetDialer W → Type 0
IsSteady bound before after = IsBoundSame bound before after × (after.reactor.gathering ≡ before.reactor.gathering)

-- What a call does, as it was answered, and what the wires answered in it, as `Makes` has it of a door. An ask is said if a connection was begun for it. Only
-- a call of `next` fails, and out of memory the others change nothing but how many wires there were.
abbrev pub MakesDialed : {W : Type 0} → (W → ℕ) → (W → ℕ) → DoorCall → NetDialer W → NetDialer W → List Answer → Type 0
MakesDialed bound faults (door.heard wait what) before after answers =
    GathersThen (λ left mid more. HearsDialed left mid (dialer_state_of after) more what) (patience wait before.failed) before.reactor.gathering (dialer_state_of before) answers after.reactor.gathering
    × IsBoundSame bound before after
MakesDialed bound faults (door.given (say.Ask lane place method target upgrade) is_said) before after answers =
    (lane ≡ before.last + 1)
    × Asks (slice_get before.addresses place) method target upgrade is_said (bound before.reactor.wires) (bound after.reactor.wires) (dialer_state_of before) (dialer_state_of after) answers
    × (after.reactor.gathering ≡ before.reactor.gathering)
MakesDialed bound faults (door.given (say.Shut lane) is_said) before after answers =
    (is_said ≡ is_on is_live_at lane (dialer_state_of before)) × DoesOn lane (Shuts before.reactor.moment) (dialer_state_of before) (dialer_state_of after) answers
    × IsSteady bound before after
MakesDialed bound faults (door.sent (say.Bytes lane bytes text) is_said full) before after answers =
    (is_said ≡ true → is_on is_there lane (dialer_state_of before) ≡ true)
    × DoesOn lane (SendsAs is_said before.reactor.moment bytes text) (dialer_state_of before) (dialer_state_of after) answers
    × (full ≡ is_on is_full_at lane (dialer_state_of after)) × IsSteady bound before after
MakesDialed bound faults door.flushed before after answers =
    FlushesDoor (dialer_state_of before).door (dialer_state_of after).door answers
    × (dialer_state_of after ≡ record (dialer_state_of before) { door = (dialer_state_of after).door }) × IsBoundSame bound before after × (after.reactor.gathering ≡ 0)
MakesDialed bound faults (door.failed (door.to_hear wait) error.Failed) before after answers =
    (gathering : ℕ) × GathersThen (ThenFlushes FailsDialed (dialer_state_of after)) (patience wait before.failed) before.reactor.gathering (dialer_state_of before) answers gathering
    × IsBoundSame bound before after × (after.reactor.gathering ≡ 0) × Rose (faults before.reactor.wires) (faults after.reactor.wires)
MakesDialed bound faults (door.failed (door.to_hear wait) error.NoMemory) before after answers =
    (gathering : ℕ) × GathersThen (ThenFlushes HaltsDialed (dialer_state_of after)) (patience wait before.failed) before.reactor.gathering (dialer_state_of before) answers gathering
    × IsBoundSame bound before after × (after.reactor.gathering ≡ 0)
MakesDialed bound faults (door.failed (door.to_say (say.Ask lane place method target upgrade)) error.NoMemory) before after answers =
    (dialer_state_of after ≡ dialer_state_of before) × IsCutShort (bound before.reactor.wires) (bound after.reactor.wires) answers
    × (after.reactor.gathering ≡ before.reactor.gathering)
MakesDialed bound faults (door.failed (door.to_say what) error.NoMemory) before after answers =
    (dialer_state_of after ≡ dialer_state_of before) × (answers ≡ []) × IsSteady bound before after
MakesDialed bound faults _ before after answers = ⊥

-- the same, with what the wires tell, if they still do. The addresses never change
abbrev pub CallsDialed : {W : Type 0} → (W → Option (List Answer)) → (W → ℕ) → (W → ℕ) → DoorCall → NetDialer W → NetDialer W → Type 0
CallsDialed trace bound faults call before after =
    (answers : List Answer) × Tells (trace before.reactor.wires) (trace after.reactor.wires) answers × (after.addresses ≡ before.addresses) × MakesDialed bound faults call before after answers
