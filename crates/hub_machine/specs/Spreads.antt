-- What is done with connections to which a message goes.
use Rattle.std.specs.Prelude.{◌≡◌, ◌⊎◌, ℕ, ◌+◌, Bool, true, false, ◌||◌, ◌==◌, List, [], ◌∷◌, ◌++◌, map, Option, Some, None, is_some}
use Rattle.std.specs.List.{flat_map, list_any}
use Rattle.hm_message.specs.declared.message.Codec.{Codec}
use Rattle.hm_message.specs.declared.message.Codec.TheVariants.{Json, Pack}
use Rattle.hm_message.specs.declared.message.Message.{Message}
use Rattle.he_end.specs.declared.errors.SendError.{SendError}
use Rattle.he_end.specs.declared.errors.SendError.TheVariants.{Full, NoMemory}
use Rattle.he_end.specs.declared.spelled.Spelled.{Spelled}
use Rattle.he_end.specs.Calls.{IsSpelled}
use Rattle.hub_machine.specs.declared.broadcast.Spellings.{Spellings}

-- what is done with a connection
pub data Delivering : Type 0 where
  Sends : (conn : ℕ) → (message : Message) → (refusal : Option SendError) → Delivering  -- the message is sent to it, or refused
  Slows : (conn : ℕ) → Delivering  -- it is closed as too slow

-- what was answered when the message was sent to a connection: None if it wasn't, as it has no codec
abbrev pub Answer : Type 0
Answer = Option (Option SendError)

-- one that has no room is closed as too slow
abbrev pub delivering : Message → ℕ × Answer → List Delivering
delivering m (c, None) = []
delivering m (c, Some (Some (Full held bytes size))) = Sends c m (Some (Full held bytes size)) ∷ Slows c ∷ []
delivering m (c, Some refusal) = Sends c m refusal ∷ []

-- the message is sent to a connection exactly if it has a codec, and there was memory for it
pub record IsAsked (codec : Option Codec) (answer : Answer) : Type 0 where
  pub has_codec : is_some answer ≡ is_some codec
  pub has_memory : answer ≡ Some (Some NoMemory) → ⊥

abbrev pub AreAsked : (ℕ → Option Codec) → List (ℕ × Answer) → Type 0
AreAsked codec [] = Unit {0}
AreAsked codec (a ∷ answers) = IsAsked (codec a.0) a.1 × AreAsked codec answers

-- the message goes to each of these connections, once and in order: what is done beyond what was done before
pub record Spreads (codec : ℕ → Option Codec) (to : List ℕ) (m : Message) (before after : List Delivering) : Type 0 where
  pub answers : List (ℕ × Answer)
  pub of_each : map (λ a. a.0) answers ≡ to
  pub asked : AreAsked codec answers
  pub dealt : after ≡ before ++ flat_map (delivering m) answers

-- the connection is one of these
abbrev pub is_listed : ℕ → List ℕ → Bool
is_listed k [] = false
is_listed k (c ∷ cs) = (k == c) || is_listed k cs

-- there was no memory for sending it to this connection
abbrev pub IsRefused : ℕ → Message → List Delivering → List Delivering → Type 0
IsRefused c m before after = after ≡ before ++ Sends c m (Some NoMemory) ∷ []

-- nothing was done, or it went to the first of these, up to one for which there was no memory
abbrev pub IsCutShort : (ℕ → Option Codec) → List ℕ → Message → List Delivering → List Delivering → Type 0
IsCutShort codec to m before after =
    (after ≡ before)
    ⊎ ((some rest : List ℕ) × (c : ℕ) × (mid : List Delivering) × (to ≡ some ++ c ∷ rest) × Spreads codec some m before mid × IsRefused c m mid after)

-- ---- spellings

abbrev pub same_codec : Codec → Codec → Bool
same_codec Json Json = true
same_codec Pack Pack = true
same_codec _ _ = false

abbrev pub is_in_codec : Codec → Option Codec → Bool
is_in_codec codec None = false
is_in_codec codec (Some own) = same_codec codec own

-- one of these connections has the codec
abbrev pub is_spoken : Codec → (ℕ → Option Codec) → List ℕ → Bool
is_spoken codec own to = list_any (λ c. is_in_codec codec (own c)) to

abbrev pub one_if : Bool → ℕ
one_if true = 1
one_if false = 0

-- how many codecs they have
abbrev pub codecs_among : (ℕ → Option Codec) → List ℕ → ℕ
codecs_among own to = one_if (is_spoken Json own to) + one_if (is_spoken Pack own to)

-- the message's frame in a codec is there if one of them has it
abbrev pub IsSpelledFor : Codec → (ℕ → Option Codec) → List ℕ → Message → Option Spelled → Type 0
IsSpelledFor codec own to m None = is_spoken codec own to ≡ false
IsSpelledFor codec own to m (Some s) = (s.codec ≡ codec) × IsSpelled codec m s.frame

pub record AreSpelled (s : Spellings) (own : ℕ → Option Codec) (to : List ℕ) (m : Message) : Type 0 where
  pub json : IsSpelledFor Json own to m s.json
  pub pack : IsSpelledFor Pack own to m s.pack

abbrev pub frame_in : Spellings → Codec → Option Spelled
frame_in s Json = s.json
frame_in s Pack = s.pack
