-- A keeper in memory, as contracts see it.
use Rattle.std.specs.Prelude.{◌≡◌, ℕ, List, [], ◌∷◌, ◌++◌, length, Contains, Option, Some, None, Result, Ok, Err}
use Rattle.hd_facts.specs.Counts.{one_more}
use Rattle.hd_rooms.specs.declared.vocabulary.Asked.{Asked}
use Rattle.hd_rooms.specs.Kept.{Content}
use Rattle.hk_keeper.specs.declared.keeper.KeepError.{KeepError}
use Rattle.hk_keeper.specs.declared.keeper.KeepError.TheVariants.{Failed, NoMemory}

-- what it keeps, what it was asked in order, the numbers of the calls that are to fail, and the count of faults
pub record MemoryContent : Type 0 where
  pub kept : Content
  pub asked : List Asked
  pub failing : List ℕ
  pub faults : ℕ

-- the next call is one that is to fail: its number is how often the keeper was asked before
abbrev pub KeeperFails : MemoryContent → Type 0
KeeperFails keeper = Contains keeper.failing (length keeper.asked)

-- the keeper with this call noted
abbrev pub with_asked : Asked → MemoryContent → MemoryContent
with_asked ask keeper = record keeper { asked = keeper.asked ++ ask ∷ [] }

-- the keeper after a call that failed, in which all that it keeps is as it was. Out of memory the keeper is as it was
abbrev pub after_error : Asked → KeepError → MemoryContent → MemoryContent
after_error ask Failed keeper = record keeper { asked = keeper.asked ++ ask ∷ []; faults = one_more keeper.faults }
after_error ask NoMemory keeper = keeper

-- the keeper after a call with this result, which at Ok leaves this content
abbrev pub after_call : {T : Type 0} → (Option T → Asked) → (T → Content) → Result T KeepError → MemoryContent → MemoryContent
after_call ask leaves (Ok answer) keeper = record keeper { kept = leaves answer; asked = keeper.asked ++ ask (Some answer) ∷ [] }
after_call ask leaves (Err why) keeper = after_error (ask None) why keeper

-- a call fails at the calls that are to fail, and at no others
abbrev pub FailsIf : {T : Type 0} → Type 0 → Result T KeepError → Type 0
FailsIf P (Ok answer) = P → ⊥
FailsIf P (Err why) = why ≡ Failed → P
