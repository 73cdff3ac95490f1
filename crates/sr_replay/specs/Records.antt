-- How a recording goes along a script: what was put of what its two ends told.
use Rattle.std.specs.Prelude.{◌≡◌, ◌≢◌, ◌⊎◌, ℕ, List, [], ◌++◌, Option}
use Rattle.std.specs.Io.KnownBytes.{Appends}
use Rattle.hd_facts.specs.Prefixes.{IsPrefix}
use Rattle.hd_delivery.specs.Worlds.{Limits, Terms}
use Rattle.hd_delivery.specs.Bytes.{Wire}
use Rattle.sr_script.specs.declared.action.Action.{Action}
use Rattle.sr_script.specs.Script.{Program}
use Rattle.sr_replay.specs.declared.pair.Pair.{Pair}
use Rattle.sr_replay.specs.declared.text_kind.TextKind.{TextKind}
use Rattle.sr_replay.specs.Runs.{Run, Runs}
use Rattle.sr_replay.specs.Told.{told_run}
use Rattle.sr_replay.specs.Follows.{Follows}
use Rattle.sr_replay.specs.Replays.{ActsAll}

-- all that two ends, which stood for no action, told of the program's actions was put
abbrev pub PutsAll : Pair → Program → Pair → Option (List ℕ) → Option (List ℕ) → Type 0
PutsAll old p new before now = (bytes : List ℕ) × (Appends before now bytes × ActsAll old p.actions bytes new × (new.told.items ≡ []))

-- these bytes are a first part of what two ends, which stood for no action, tell of the program's first actions
pub record IsToldPart (old : Pair) (p : Program) (bytes : List ℕ) : Type 0 where
  pub later : List Action
  pub before : List Action
  pub actions : p.actions ≡ later ++ before
  pub told : (kind : TextKind) (limits : Limits) (wire : Wire) (t : Terms) → Follows kind [] limits wire t [] [] old
      → (r : Run) × (Runs limits wire t before r × IsPrefix bytes (told_run kind wire t r))

-- such bytes were put
abbrev pub PutsPart : Pair → Program → Option (List ℕ) → Option (List ℕ) → Type 0
PutsPart old p before now = (bytes : List ℕ) × (Appends before now bytes × IsToldPart old p bytes)

-- the output is as it was, or it took at least one byte, if it tells the bytes that it holds
abbrev pub IsTouchedByBytesAlone : {K : Type 0} → (K → Option (List ℕ)) → K → K → Type 0
IsTouchedByBytesAlone holds before now = (now ≡ before) ⊎ ((bytes : List ℕ) × (bytes ≢ []) × Appends (holds before) (holds now) bytes)
