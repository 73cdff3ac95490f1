-- What the dialer is told of what happened to a connection, and what whoever dials reads off it.
use Rattle.std.specs.Prelude.{◌≡◌, Bool, true, false, List, [], ◌∷◌, ◌++◌, None}
use Rattle.hw_door.specs.declared.heard.Given.{Given}
use Rattle.hw_door.specs.declared.heard.Given.TheVariants as give
use Rattle.hd_dialing.specs.Asks.{Setup}
use Rattle.hd_dialing.specs.Events.{DialEvent, Draws, Asks, Shuts, draws}
use Rattle.hd_dialing.specs.Dialing.{Move, moved}

-- what the dialer was given, the first first
abbrev pub given : List DialEvent → List Given
given [] = []
given (Asks lane ask ∷ h) = given h ++ give.Ask lane ask.place ask.method ask.target ask.upgrade ∷ []
given (Shuts lane ∷ h) = given h ++ give.Shut lane ∷ []
given (_ ∷ h) = given h

-- the lots were asked, and gave nothing
abbrev pub has_failed_draw : List DialEvent → Bool
has_failed_draw [] = false
has_failed_draw (Draws None ∷ h) = true
has_failed_draw (_ ∷ h) = has_failed_draw h

-- ---- laws

-- what is new comes after what was told before
pub record TellsMore (new h : List DialEvent) : Type 0 where
  pub gives : given (new ++ h) ≡ given h ++ given new
  pub draws_more : draws (new ++ h) ≡ draws h ++ draws new

abbrev pub WhatIsNewIsToldLast : Type 0
WhatIsNewIsToldLast = (new h : List DialEvent) → TellsMore new h

-- a move adds to what happened, and takes nothing back
abbrev pub MovesAdd : Type 0
MovesAdd = (s : Setup) (m : Move) (h : List DialEvent) → (new : List DialEvent) × (moved s m h ≡ new ++ h)
