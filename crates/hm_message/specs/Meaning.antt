-- What any encoding of messages says of a frame: a message, a type that no message has, or a refusal.
use Rattle.std.specs.Prelude.{◌≡◌, ℤ, List, [], ◌∷◌, ◌⊎◌, Option, Some, None}
use Rattle.hm_message.specs.declared.message.Message.{Message}

-- The first fault that is there.
abbrev pub first : {Refusal : Type 0} → List (Option Refusal) → Option Refusal
first [] = None
first (None ∷ faults) = first faults
first (Some refusal ∷ faults) = Some refusal

-- A frame of which this is said says one message, is of one unknown type, or is refused for one reason.
pub record HasOneMeaning {Refusal : Type 0} (Says : Message → Type 0) (Unknown : ℤ → Type 0) (Why : Refusal → Type 0) : Type 0 where
  pub some : ((m : Message) × Says m) ⊎ ((n : ℤ) × Unknown n) ⊎ ((r : Refusal) × Why r)
  pub one_message : (m m' : Message) → Says m → Says m' → m ≡ m'
  pub one_number : (n n' : ℤ) → Unknown n → Unknown n' → n ≡ n'
  pub one_reason : (r r' : Refusal) → Why r → Why r' → r ≡ r'
  pub known : (m : Message) (n : ℤ) → Says m → Unknown n → ⊥
  pub accepted : (m : Message) (r : Refusal) → Says m → Why r → ⊥
  pub passed : (n : ℤ) (r : Refusal) → Unknown n → Why r → ⊥
