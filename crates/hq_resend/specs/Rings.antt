-- What the fields of a resend buffer keep.
use Rattle.std.specs.Prelude.{◌≡◌, ℕ, ◌+◌, ◌-◌, ◌≤◌, true, false, List, length, drop, sum_by, All}
use Rattle.hd_delivery.specs.Numbers.{most_messages}
use Rattle.hd_delivery.specs.Bounds.{AreLimits, most_size}
use Rattle.hq_resend.specs.Buffers.{Buffer, dropped_count}
use Rattle.hq_resend.specs.declared.resend.Resend.TheInside.{Inside}

-- how many of the frames pushed aren't held
abbrev pub dropped_of : Inside → ℕ
dropped_of r = dropped_count r.keeps r.acked r.written

-- the ring begins after the frames that are gone from it, and what is dropped but not gone isn't held
abbrev pub held_in : Inside → List (List ℕ)
held_in r = drop (dropped_of r - r.gone) r.ring.items

-- the buffer that the fields stand for
abbrev pub buffer_of : Inside → Buffer
buffer_of r = record { limits = r.limits; keeps = r.keeps; sent = r.sent; acked = r.acked; written = r.written; furthest = r.furthest; held = held_in r }

-- what is true of the fields
pub record IsRing (r : Inside) : Type 0 where
  pub limits : AreLimits r.limits
  pub capacity : r.ring.capacity ≡ r.limits.count
  pub acked : r.acked ≤ r.written
  pub written : r.written ≤ r.furthest
  pub furthest : r.furthest ≤ r.sent
  pub sent : r.sent ≤ most_messages
  pub plain : r.keeps ≡ false → r.furthest ≡ r.written
  pub kept : r.keeps ≡ true → r.gone ≡ r.acked
  pub gone : r.gone ≤ dropped_of r
  pub items : r.sent ≡ r.gone + length r.ring.items
  pub count : length r.ring.items ≤ r.limits.count
  pub bytes : r.bytes ≡ sum_by length (held_in r)
  pub few_bytes : r.bytes ≤ r.limits.bytes
  pub sizes : All (λ frame. length frame ≤ most_size r.limits) r.ring.items
