-- What happened to a resend buffer, and what is read off that. HubProtocol.md (ASP.NET Core), "Stateful reconnect", has the
-- numbers, the Ack and that what isn't acknowledged is said again on a later link.
use Rattle.std.specs.Prelude.{◌≡◌, ℕ, suc, max, Bool, List, [], ◌∷◌, ◌++◌, length, drop}
use Rattle.hq_resend.specs.Buffers.{Buffer, dropped_count}

pub data ResendEvent : Type 0 where
  Pushed : (frame : List ℕ) → ResendEvent
  Acked : (upto : ℕ) → ResendEvent
  Wrote : ResendEvent  -- the next frame of this link
  Rewound : ResendEvent  -- a new link began

-- A list of happenings has the latest one first.

-- the frames pushed, the first first
abbrev pub pushed_frames : List ResendEvent → List (List ℕ)
pushed_frames [] = []
pushed_frames (Pushed frame ∷ h) = pushed_frames h ++ frame ∷ []
pushed_frames (_ ∷ h) = pushed_frames h

-- the greatest number that the other end told
abbrev pub acked_count : List ResendEvent → ℕ
acked_count [] = 0
acked_count (Acked upto ∷ h) = max (acked_count h) upto
acked_count (_ ∷ h) = acked_count h

-- the greatest number that the present link carries or doesn't need. What isn't kept isn't written twice
abbrev pub written_place : Bool → List ResendEvent → ℕ
written_place keeps [] = 0
written_place keeps (Pushed frame ∷ h) = written_place keeps h
written_place keeps (Acked upto ∷ h) = max (written_place keeps h) (max (acked_count h) upto)
written_place keeps (Wrote ∷ h) = suc (written_place keeps h)
written_place keeps (Rewound ∷ h) = dropped_count keeps (acked_count h) (written_place keeps h)

-- the greatest number ever written
abbrev pub furthest_place : Bool → List ResendEvent → ℕ
furthest_place keeps [] = 0
furthest_place keeps (Wrote ∷ h) = max (furthest_place keeps h) (suc (written_place keeps h))
furthest_place keeps (_ ∷ h) = furthest_place keeps h

-- the frames that have to be held: those that the other end may not have, or, if none is kept, those that aren't written
abbrev pub held_frames : Bool → List ResendEvent → List (List ℕ)
held_frames keeps h = drop (dropped_count keeps (acked_count h) (written_place keeps h)) (pushed_frames h)

-- the buffer stands for what happened
pub record Stands (h : List ResendEvent) (b : Buffer) : Type 0 where
  pub sent : b.sent ≡ length (pushed_frames h)
  pub acked : b.acked ≡ acked_count h
  pub written : b.written ≡ written_place b.keeps h
  pub furthest : b.furthest ≡ furthest_place b.keeps h
  pub held : b.held ≡ held_frames b.keeps h
