-- What holds of all bytes and all values.
use Rattle.std.specs.Prelude.{◌≡◌, ◌≤◌, ◌<◌, ◌+◌, ◌^◌, ◌⊎◌, ℕ, List, ◌++◌, length}
use Rattle.std.specs.List.{AllByRecursion}
use Rattle.hv_value.specs.Tree.{Tree, depth}
use Rattle.hv_value.specs.Order.{IsInOrder}
use Rattle.hv_pack.specs.declared.error.PackError.{PackError}
use Rattle.hv_pack.specs.Packs.{IsSpelling, IsSpelled}
use Rattle.hv_pack.specs.Why.{IsRefused}
use Rattle.hv_pack.specs.Writing.{shortest, IsWritable}

-- at a place, bytes spell one value, with one end
abbrev pub HasOneReading : Type 0
HasOneReading = (bytes : List ℕ) (at : ℕ) (t u : Tree) (end other : ℕ) → at ≤ length bytes →
    IsSpelled bytes at t end → IsSpelled bytes at u other → (t ≡ u) × (end ≡ other)

-- bytes are refused for one reason, at one place
abbrev pub HasOneRefusal : Type 0
HasOneRefusal = (bytes : List ℕ) (at : ℕ) (e f : PackError) →
    IsRefused bytes at e → IsRefused bytes at f → e ≡ f

-- bytes that spell a value are not refused
abbrev pub SpelledIsNotRefused : Type 0
SpelledIsNotRefused = (bytes : List ℕ) (at : ℕ) (t : Tree) (end : ℕ) (e : PackError) → at ≤ length bytes →
    IsSpelled bytes at t end → IsRefused bytes at e → ⊥

-- bytes spell a value, or they are refused
abbrev pub IsSpelledOrRefused : Type 0
IsSpelledOrRefused = (bytes : List ℕ) (at : ℕ) → at ≤ length bytes →
    ((t : Tree) × (end : ℕ) × IsSpelled bytes at t end) ⊎ ((e : PackError) × IsRefused bytes at e)

-- the shortest spelling of a value is a spelling of it, whatever stands round it
abbrev pub ShortestReadsBack : Type 0
ShortestReadsBack = (t : Tree) (before after : List ℕ) → depth t ≤ 64 → IsInOrder t → IsWritable t →
    IsSpelled (before ++ (shortest t ++ after)) (length before) t (length before + length (shortest t))

-- what has a spelling has the shortest, and none has fewer bytes
abbrev pub ShortestIsShortest : Type 0
ShortestIsShortest = (t : Tree) (s : List ℕ) → IsSpelling t s → AllByRecursion (λ b. b < 2 ^ 8) s →
    IsWritable t × IsSpelling t (shortest t) × (length (shortest t) ≤ length s)
