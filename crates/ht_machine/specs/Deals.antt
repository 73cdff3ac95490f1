-- What dealings make of a room.
use Rattle.std.specs.Prelude.{◌≡◌, ℕ, ◌-◌, ◌==◌, nat_eq, false, List, [], ◌∷◌, Option, Some, None, if◌then◌else◌}
use Rattle.indexmap.specs.IndexMap.{get}
use Rattle.hm_message.specs.declared.message.Codec.{Codec}
use Rattle.he_end.specs.declared.errors.SendError.{SendError}
use Rattle.hub_machine.specs.Spreads.{Delivering, Sends, Slows}
use Rattle.ht_machine.specs.declared.room.Member.{Member}
use Rattle.ht_machine.specs.declared.room.Room.{Room}

-- what dealings change of a connection
pub record Kept : Type 0 where
  pub codec : Option Codec
  pub room : ℕ

abbrev pub kept_in : Member → Kept
kept_in m = record { codec = m.codec; room = m.room }

-- of one that isn't there
abbrev pub kept_of : Option Member → Kept
kept_of None = record { codec = None; room = 0 }
kept_of (Some m) = kept_in m

abbrev pub kept_at : Room → ℕ → Kept
kept_at r k = kept_of (get nat_eq r.members k)

abbrev pub codec_at : Room → ℕ → Option Codec
codec_at r k = (kept_at r k).codec

-- a message that isn't refused takes one of the room
abbrev pub taken : Option SendError → Kept → Kept
taken None a = record a { room = a.room - 1 }
taken (Some e) a = a

abbrev pub slowed : Kept → Kept
slowed a = record a { codec = None }

-- with whom a dealing is, and what it makes of that connection
abbrev pub conn_of : Delivering → ℕ
conn_of (Sends c m refusal) = c
conn_of (Slows c) = c

abbrev pub change_of : Delivering → Kept → Kept
change_of (Sends c m refusal) = taken refusal
change_of (Slows c) = slowed

-- what the dealings, in order, make of what a connection had
abbrev pub after : ℕ → List Delivering → Kept → Kept
after k [] a = a
after k (d ∷ ds) a = after k ds (if conn_of d == k then change_of d a else a)

-- the dealings lead from one room to another
abbrev pub Delivers : Room → List Delivering → Room → Type 0
Delivers s ds t = (k : ℕ) → kept_at t k ≡ after k ds (kept_at s k)

-- one connection is changed in this way, and no other
pub record Changes (old new : Room) (c : ℕ) (change : Kept → Kept) : Type 0 where
  pub here : kept_at new c ≡ change (kept_at old c)
  pub others : (k : ℕ) → (c == k) ≡ false → kept_at new k ≡ kept_at old k
