-- What a resend buffer is at a moment, and what each call makes of it.
use Rattle.std.specs.Prelude.{◌≡◌, ℕ, suc, ◌+◌, ◌-◌, ◌<◌, ◌≤◌, max, Bool, false, List, [], ◌∷◌, ◌++◌, length, drop, sum_by, slice_get, All, Option, nat_lt, if◌then◌else◌}
use Rattle.hd_delivery.specs.Worlds.{Limits}
use Rattle.hd_delivery.specs.Numbers.{most_messages}
use Rattle.hd_delivery.specs.Bounds.{AreLimits, most_size}
use Rattle.hq_resend.specs.declared.refusals.PushError.{PushError}
use Rattle.hq_resend.specs.declared.refusals.PushError.TheVariants.{Full, Exhausted}

-- A frame's number is how many frames were pushed up to it, so the first has 1.
pub record Buffer : Type 0 where
  pub limits : Limits
  pub keeps : Bool  -- whether a frame is held until the other end has it; else until it is written
  pub sent : ℕ  -- how many frames were pushed
  pub acked : ℕ  -- the greatest number that the other end is known to have
  pub written : ℕ  -- the greatest number that this link carries or doesn't need
  pub furthest : ℕ  -- the greatest number ever written
  pub held : List (List ℕ)  -- the frames held, the oldest first

-- how many of the frames pushed aren't held any more
abbrev pub dropped_count : Bool → ℕ → ℕ → ℕ
dropped_count keeps acked written = if keeps then acked else written

-- the bytes of the frames held
abbrev pub held_bytes : Buffer → ℕ
held_bytes b = sum_by length b.held

-- a frame of this size more passes neither limit
pub record HasRoom (b : Buffer) (size : ℕ) : Type 0 where
  pub of_count : length b.held < b.limits.count
  pub of_bytes : held_bytes b + size ≤ b.limits.bytes

-- what is true of each buffer
pub record IsWithin (b : Buffer) : Type 0 where
  pub limits : AreLimits b.limits
  pub acked : b.acked ≤ b.written
  pub written : b.written ≤ b.furthest
  pub furthest : b.furthest ≤ b.sent
  pub sent : b.sent ≤ most_messages
  pub plain : b.keeps ≡ false → b.furthest ≡ b.written
  pub held : length b.held ≡ b.sent - dropped_count b.keeps b.acked b.written
  pub count : length b.held ≤ b.limits.count
  pub bytes : held_bytes b ≤ b.limits.bytes
  pub sizes : All (λ frame. length frame ≤ most_size b.limits) b.held

-- ---- what each call makes of a buffer

-- nothing was pushed
abbrev pub at_start : Limits → Bool → Buffer
at_start limits keeps = record { limits = limits; keeps = keeps; sent = 0; acked = 0; written = 0; furthest = 0; held = [] }

-- this frame was pushed
abbrev pub after_push : Buffer → List ℕ → Buffer
after_push b frame = record b { sent = suc b.sent; held = b.held ++ frame ∷ [] }

-- why a frame of this size isn't taken: first for want of room, then for want of numbers
abbrev pub IsPushFault : Buffer → ℕ → PushError → Type 0
IsPushFault b size (Full held bytes told) = (held ≡ length b.held) × (bytes ≡ held_bytes b) × (told ≡ size) × (HasRoom b size → ⊥)
IsPushFault b size Exhausted = HasRoom b size × (b.sent ≡ most_messages)

-- the other end has the frames up to this number
abbrev pub after_ack : Buffer → ℕ → Buffer
after_ack b upto = record b { acked = max b.acked upto; written = max b.written (max b.acked upto); held = if b.keeps then drop (upto - b.acked) b.held else b.held }

-- the next frame to be written on this link, if there is one
abbrev pub next_frame : Buffer → Option (List ℕ)
next_frame b = slice_get b.held (b.written - dropped_count b.keeps b.acked b.written)

-- the next frame was written
abbrev pub after_writing : Buffer → Buffer
after_writing b = record b { written = suc b.written; furthest = max b.furthest (suc b.written); held = if b.keeps then b.held else drop 1 b.held }

-- the next frame was written, if there is one
abbrev pub after_next : Buffer → Buffer
after_next b = if nat_lt b.written b.sent then after_writing b else b

-- a new link carries none of the frames held
abbrev pub after_rewind : Buffer → Buffer
after_rewind b = record b { written = dropped_count b.keeps b.acked b.written }
