-- How one connection is dialed by itself: move by move, and which move may come next.
use Rattle.std.specs.Prelude.{◌≡◌, ◌≤◌, ℕ, true, false, List, [], ◌∷◌}
use Rattle.hw_door.specs.declared.heard.Event.{Event}
use Rattle.hd_dialing.specs.Asks.{Setup}
use Rattle.hd_dialing.specs.Events.{DialEvent, Stops, phase, told, moment, is_up, is_over, is_due}
use Rattle.hd_dialing.specs.Plans.{Dial, dialed, heard, shut}

pub data Move : Type 0 where
  Dials : (dial : Dial) → Move
  Hears : (now : ℕ) → (event : Event) → (dial : Dial) → Move  -- the dial is for the socket that may be asked for then
  Drops : Move  -- whoever dials gives up the link, and not the connection
  Leaves : Move  -- whoever dials wants the connection no more

-- after a move
abbrev pub moved : Setup → Move → List DialEvent → List DialEvent
moved s (Dials d) h = dialed s d (told h) h
moved s (Hears now event d) h = heard s d now event h
moved s Drops h = shut (phase h) h
moved s Leaves h = Stops ∷ shut (phase h) h

-- what happened in these moves, of which the latest comes first
abbrev pub happened : Setup → List Move → List DialEvent
happened s [] = []
happened s (m ∷ ms) = moved s m (happened s ms)

-- It may come next. It is dialed as soon as it is due, so nothing is heard before, and moments never fall
abbrev pub MayMove : Move → List DialEvent → Type 0
MayMove (Dials d) h = is_due h ≡ true
MayMove (Hears now event d) h = (is_due h ≡ false) × (moment h ≤ now)
MayMove Drops h = is_up (phase h) ≡ true
MayMove Leaves h = is_over (phase h) ≡ false

-- these moves dial a connection
abbrev pub IsDialing : Setup → List Move → Type 0
IsDialing s [] = Unit {0}
IsDialing s (m ∷ ms) = MayMove m (happened s ms) × IsDialing s ms
