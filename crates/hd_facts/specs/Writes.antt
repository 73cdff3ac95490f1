-- What was written for an input. Each Option is the bytes of a source or sink, or None if nobody can know them, and then
-- these definitions say nothing of it.
use Rattle.std.specs.Prelude.{◌≡◌, ℕ, List, take, Result, MatchResult, Option, IfSome}
use Rattle.std.specs.Io.KnownBytes.{Appends, Consumes}

-- all of these bytes were written at Ok, and a prefix of them at Err
abbrev pub PutAppends : {T E : Type 0} → Option (List ℕ) → Option (List ℕ) → Result T E → List ℕ → Type 0
PutAppends old new result bytes = MatchResult result (λ _. Appends old new bytes) (λ _. (n : ℕ) × Appends old new (take n bytes))

-- the input is this text, if its bytes are known
abbrev pub IsText : Option (List ℕ) → List ℕ → Type 0
IsText input text = IfSome input (λ bytes. bytes ≡ text)

-- an answer that has this meaning for the input was written, all of it and nothing else
abbrev pub Writes : (List ℕ → List ℕ → Type 0) → Option (List ℕ) → Option (List ℕ) → Option (List ℕ) → Type 0
Writes Means input before now = (text : List ℕ) × (answer : List ℕ) × IsText input text × Means text answer × Appends before now answer

-- a prefix of such an answer was written, and nothing else
abbrev pub WritesPart : (List ℕ → List ℕ → Type 0) → Option (List ℕ) → Option (List ℕ) → Option (List ℕ) → Type 0
WritesPart Means input before now =
    (text : List ℕ) × (answer : List ℕ) × IsText input text × Means text answer × ((n : ℕ) × Appends before now (take n answer))

-- an answer that has this meaning for the bytes that were read was written, all of it and nothing else
abbrev pub WritesOfRead : (List ℕ → List ℕ → Type 0) → Option (List ℕ) → Option (List ℕ) → Option (List ℕ) → Option (List ℕ) → Type 0
WritesOfRead Means input left before now = (text : List ℕ) × (answer : List ℕ) × Consumes input left text × Means text answer × Appends before now answer
