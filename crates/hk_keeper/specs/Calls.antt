-- What every call of a keeper does to its count of faults, and to the list of what it was asked.
use Rattle.std.specs.Prelude.{◌≡◌, ℕ, ◌≤◌, List, [], ◌∷◌, ◌++◌, Option, Some, None, Result, Ok, Err, option_map}
use Rattle.hd_facts.specs.Counts.{Rose}
use Rattle.hd_rooms.specs.declared.vocabulary.Asked.{Asked}
use Rattle.hk_keeper.specs.declared.keeper.KeepError.{KeepError}
use Rattle.hk_keeper.specs.declared.keeper.KeepError.TheVariants.{Failed, NoMemory}

-- the store failed only if the count rose. Out of memory it is as it was
abbrev pub IsCaused : ℕ → ℕ → KeepError → Type 0
IsCaused before now Failed = (before ≤ now) × Rose before now
IsCaused before now NoMemory = now ≡ before

-- so it is of a call, at whose Ok the count is as it was
abbrev pub HasFaultCause : {T : Type 0} → ℕ → ℕ → Result T KeepError → Type 0
HasFaultCause before now (Ok answer) = now ≡ before
HasFaultCause before now (Err why) = IsCaused before now why

-- the list has this at its end, which it hadn't before
abbrev pub Gains : Option (List Asked) → Option (List Asked) → Asked → Type 0
Gains before now ask = now ≡ option_map (λ (asks : List Asked). asks ++ ask ∷ []) before

-- a call that failed stands last in the list. Out of memory it doesn't stand there
abbrev pub IsErrorNoted : Option (List Asked) → Option (List Asked) → Asked → KeepError → Type 0
IsErrorNoted before now ask Failed = Gains before now ask
IsErrorNoted before now ask NoMemory = now ≡ before

-- so it is of a call, which stands there with its answer at Ok
abbrev pub IsNoted : {T : Type 0} → Option (List Asked) → Option (List Asked) → (Option T → Asked) → Result T KeepError → Type 0
IsNoted before now ask (Ok answer) = Gains before now (ask (Some answer))
IsNoted before now ask (Err why) = IsErrorNoted before now (ask None) why
