-- What is said on a door's lanes is gathered, and written.
use Rattle.std.specs.Prelude.{◌≡◌, ◌⊎◌, ◌<◌, ◌+◌, ℕ, true, List, [], ◌∷◌, ◌++◌, Contains}
use Rattle.hw_door.specs.declared.heard.Heard.{Heard}
use Rattle.hw_door.specs.Traffic.{Answer}
use Rattle.hw_net.specs.declared.limits.TheConstants.{MOST_GATHERED}
use Rattle.hw_net.specs.Door.{DoorState, FailsNext, HearsNext, kept}
use Rattle.hw_net.specs.Halting.{HaltsNext}
use Rattle.hw_net.specs.Lane.{Lane}
use Rattle.hw_net.specs.Saying.{WritesIfLive}
use Rattle.hw_net.specs.Tally.{is_writer}
use Rattle.hw_net.specs.Turn.{AtLane}
use Rattle.hw_net.specs.Writers.{AreWriters}

-- the live lanes of these wires write what waits, one after the other
abbrev pub WriteEach : List ℕ → List Lane → List Lane → List Answer → Type 0
WriteEach [] before after answers = (after ≡ before) × (answers ≡ [])
WriteEach (wire ∷ wires) before after answers =
    (mid : List Lane) × (first : List Answer) × (more : List Answer) × (answers ≡ first ++ more)
    × AtLane wire WritesIfLive before mid first × WriteEach wires mid after more

-- each live lane on which something waits writes it
pub record Flushes (before after : List Lane) (answers : List Answer) : Type 0 where
  pub wires : List ℕ
  pub all : AreWriters wires before
  pub writes : WriteEach wires before after answers

-- a flush of a door
pub record FlushesDoor (before after : DoorState) (answers : List Answer) : Type 0 where
  pub flushes : Flushes before.lanes after.lanes answers
  pub others_unchanged : after ≡ record before { lanes = after.lanes }

-- something waits on a live lane
abbrev pub HasWriter : List Lane → Type 0
HasWriter lanes = (lane : Lane) × Contains lanes lane × (is_writer lane ≡ true)

-- What a call of `next` does first, before it hears, that is handed this wait after so many in a row that only gathered. Either what waits goes
-- on waiting, unless this is so for too many calls, and then the wires don't wait. Or all of it is written. The last two are how many calls in a
-- row only gathered then, and how long the wires may wait.
abbrev pub Gathers : ℕ → ℕ → DoorState → DoorState → List Answer → ℕ → ℕ → Type 0
Gathers wait gathering before after answers gathering_after wait_after =
    (HasWriter before.lanes × (after ≡ before) × (answers ≡ []) × (gathering_after ≡ gathering + 1) × (gathering_after < MOST_GATHERED) × (wait_after ≡ 0))
    ⊎ (FlushesDoor before after answers × (gathering_after ≡ 0) × (wait_after ≡ wait))

-- a call of `next` that gathers or flushes, and then hears this
pub record HearsGathered (wait gathering : ℕ) (before after : DoorState) (answers : List Answer) (heard : Heard) (gathering_after : ℕ) : Type 0 where
  pub mid : DoorState
  pub wait_after : ℕ
  pub first : List Answer
  pub more : List Answer
  pub all : answers ≡ first ++ more
  pub gathers : Gathers wait gathering before mid first gathering_after wait_after
  pub hears : HearsNext wait_after mid after more heard

-- one that fails then: before that is answered, all that waits is written
pub record FailsGathered (wait gathering : ℕ) (before after : DoorState) (answers : List Answer) : Type 0 where
  pub mid : DoorState
  pub gathering_after : ℕ
  pub wait_after : ℕ
  pub first : List Answer
  pub more : List Answer
  pub last : List Answer
  pub all : answers ≡ first ++ (more ++ last)
  pub gathers : Gathers wait gathering before mid first gathering_after wait_after
  pub fails : FailsNext wait_after mid more
  pub flushes : FlushesDoor (record mid { lanes = kept mid.lanes }) after last

-- one that is out of memory then
pub record HaltsGathered (wait gathering : ℕ) (before after : DoorState) (answers : List Answer) : Type 0 where
  pub mid : DoorState
  pub halted : DoorState
  pub gathering_after : ℕ
  pub wait_after : ℕ
  pub first : List Answer
  pub more : List Answer
  pub last : List Answer
  pub all : answers ≡ first ++ (more ++ last)
  pub gathers : Gathers wait gathering before mid first gathering_after wait_after
  pub halts : HaltsNext wait_after mid halted more
  pub flushes : FlushesDoor halted after last
