-- The ledgers of a table's happenings: a call comes first, and once; after its ending or loss comes nothing.
use Rattle.std.specs.Prelude.{◌≡◌, ◌<◌, ℕ, Bool, true, false, ◌==◌, ◌||◌, ◌⊎◌, List, [], ◌∷◌, ◌++◌, Some, None, if◌then◌else◌}
use Rattle.hd_calls.specs.Hubs.{Invoked, End}
use Rattle.hd_calls.specs.Ledgers.{CallHappening, Called, Got, Uploaded, Stopped, Gone, IsLegal, IsLegalLedger, IsLegalRest}
use Rattle.hd_calls.specs.Peers.{has_end}
use Rattle.hd_calls.specs.Tables.{call_in, given_in, lost_in, uploaded_in}

-- to which number it happened
abbrev pub number_of : CallHappening → ℕ
number_of (Called n c) = n
number_of (Got n a) = n
number_of (Uploaded n w a) = n
number_of (Stopped n) = n
number_of (Gone n) = n

-- the ledger of a number: what happened to its call, the first first
abbrev pub ledger_in : ℕ → List CallHappening → List CallHappening
ledger_in n [] = []
ledger_in n (d ∷ h) = if n == number_of d then ledger_in n h ++ d ∷ [] else ledger_in n h

-- whether the call is over then
abbrev pub ends_call : CallHappening → Bool
ends_call (Got n (End e)) = true
ends_call (Gone n) = true
ends_call _ = false

abbrev pub is_over : List CallHappening → Bool
is_over [] = false
is_over (d ∷ xs) = ends_call d || is_over xs

-- the ledger is that of this call, and of what may follow it
pub record IsLedgerOf (n : ℕ) (h : List CallHappening) (c : Invoked) (rest : List CallHappening) : Type 0 where
  pub is : ledger_in n h ≡ Called n c ∷ rest
  pub call : call_in n h ≡ Some c
  pub legal : IsLegalRest c.way rest
  pub over : is_over rest ≡ (has_end (given_in n h) || lost_in n h)

-- a number has no ledger, or a call's
abbrev pub HasLedger : ℕ → List CallHappening → Type 0
HasLedger n h = ((ledger_in n h ≡ []) × (call_in n h ≡ None)) ⊎ ((c : Invoked) × (rest : List CallHappening) × IsLedgerOf n h c rest)

-- The ledgers of the calls are legal, and so is what was uploaded on each stream. The number 0 is that of each Notify without uploads, so it
-- has no ledger.
pub record AreLegal (h : List CallHappening) : Type 0 where
  pub of_call : (n : ℕ) → 0 < n → IsLegalLedger (ledger_in n h)
  pub of_upload : (n w : ℕ) → IsLegal true (uploaded_in n w h)
