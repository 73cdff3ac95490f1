-- Moves add to what happened, and what they add is told last.
use Rattle.std.proofs.Common.{refl, sym, ap, ◌∙◌, ◌≡◌, ℕ, suc, Bool, true, false, List, [], ◌∷◌, ◌++◌, Option, Some, None, append_assoc, append-nil, if◌then◌else◌}
use Rattle.std.specs.Prelude.{◌==◌, nat_le}
use Rattle.hw_door.specs.declared.heard.Event.{Event}
use Rattle.hw_door.specs.declared.heard.Event.TheVariants as event
use Rattle.hw_door.specs.declared.heard.Given.{Given}
use Rattle.hw_door.specs.declared.heard.Given.TheVariants as give
use Rattle.hd_dialing.specs.Numbers.{most_lost}
use Rattle.hd_dialing.specs.Bodies.{Told}
use Rattle.hd_dialing.specs.Asks.{Setup}
use Rattle.hd_dialing.specs.Events.{DialEvent, Hears, Draws, Asks, Learns, Shuts, GivesUp, Stops, Phase, Away, Negotiates, Upgrades, Stands, Over, phase, told, lost_dials, draws}
use Rattle.hd_dialing.specs.Plans.{Dial, socket_asked, dialed, negotiated, told_in_response, counted, answered, shut}
use Rattle.hd_dialing.specs.Dialing.{Move, Dials, Drops, Leaves, moved}
use Rattle.hd_dialing.specs.Dialing as move
use Rattle.hd_dialing.specs.Telling.{given, TellsMore, WhatIsNewIsToldLast, MovesAdd}

-- ---- what is told last

one_more : {A : Type 0} (whole before new : List A) (x : A) → whole ≡ before ++ new → whole ++ x ∷ [] ≡ before ++ (new ++ x ∷ [])
one_more whole before new x e = ap (λ all. all ++ x ∷ []) e ∙ append_assoc before new (x ∷ [])

given_last : (new h : List DialEvent) → given (new ++ h) ≡ given h ++ given new
given_last [] h = sym (append-nil (given h))
given_last (Hears now e ∷ new) h = given_last new h
given_last (Draws drawn ∷ new) h = given_last new h
given_last (Asks lane ask ∷ new) h = one_more (given (new ++ h)) (given h) (given new) (give.Ask lane ask.place ask.method ask.target ask.upgrade) (given_last new h)
given_last (Learns t ∷ new) h = given_last new h
given_last (Shuts lane ∷ new) h = one_more (given (new ++ h)) (given h) (given new) (give.Shut lane) (given_last new h)
given_last (GivesUp ∷ new) h = given_last new h
given_last (Stops ∷ new) h = given_last new h

draws_last : (new h : List DialEvent) → draws (new ++ h) ≡ draws h ++ draws new
draws_last [] h = sym (append-nil (draws h))
draws_last (Hears now e ∷ new) h = draws_last new h
draws_last (Draws drawn ∷ new) h = one_more (draws (new ++ h)) (draws h) (draws new) drawn (draws_last new h)
draws_last (Asks lane ask ∷ new) h = draws_last new h
draws_last (Learns t ∷ new) h = draws_last new h
draws_last (Shuts lane ∷ new) h = draws_last new h
draws_last (GivesUp ∷ new) h = draws_last new h
draws_last (Stops ∷ new) h = draws_last new h

pub what_is_new_is_told_last : WhatIsNewIsToldLast
what_is_new_is_told_last new h = record { gives = given_last new h; draws_more = draws_last new h }

-- ---- moves add

abbrev pub Adds : List DialEvent → List DialEvent → Type 0
Adds after h = (new : List DialEvent) × (after ≡ new ++ h)

socket_adds : (s : Setup) (lane : ℕ) (token : List ℕ) (key seed : Option (List ℕ)) (xs h : List DialEvent) → Adds (socket_asked s lane token key seed (xs ++ h)) h
socket_adds s lane token None seed xs h = (socket_asked s lane token None seed xs, refl)
socket_adds s lane token (Some key) None xs h = (socket_asked s lane token (Some key) None xs, refl)
socket_adds s lane token (Some key) (Some seed) xs h = (socket_asked s lane token (Some key) (Some seed) xs, refl)

dialed_adds : (s : Setup) (d : Dial) (o : Option Told) (h : List DialEvent) → Adds (dialed s d o h) h
dialed_adds s d None h = (dialed s d None [], refl)
dialed_adds s d (Some t) h = socket_adds s d.lane t.token d.key d.seed [] h

told_adds : (s : Setup) (d : Dial) (lane : ℕ) (o : Option Told) (x : DialEvent) (h : List DialEvent) → Adds (negotiated s d lane o (x ∷ h)) h
told_adds s d lane None x h = (negotiated s d lane None (x ∷ []), refl)
told_adds s d lane (Some t) x h = socket_adds s d.lane t.token d.key d.seed (Learns t ∷ Shuts lane ∷ x ∷ []) h

if_adds : (b : Bool) (x y h : List DialEvent) → Adds x h → Adds y h → Adds (if b then x else y) h
if_adds true x y h e f = e
if_adds false x y h e f = f

one_adds : (x : DialEvent) (h : List DialEvent) → Adds (x ∷ h) h
one_adds x h = (x ∷ [], refl)

two_add : (x y : DialEvent) (h : List DialEvent) → Adds (x ∷ y ∷ h) h
two_add x y h = (x ∷ y ∷ [], refl)

counted_adds : (lost : ℕ) (x : DialEvent) (h : List DialEvent) → Adds (counted lost (x ∷ h)) h
counted_adds lost x h = if_adds (nat_le most_lost lost) (GivesUp ∷ x ∷ h) (x ∷ h) h (two_add GivesUp x h) (one_adds x h)

module _ (s : Setup) (d : Dial) (lost : ℕ) (x : DialEvent) (h : List DialEvent) where
  response_adds : (lane status : ℕ) (body : List ℕ) (p : Phase) → Adds (answered s d (event.Response lane status body) p lost (x ∷ h)) h
  response_adds lane status body Away = one_adds x h
  response_adds lane status body (Negotiates l) =
      if_adds (lane == l) (negotiated s d lane (told_in_response s status body) (x ∷ h)) (x ∷ h) h (told_adds s d lane (told_in_response s status body) x h) (one_adds x h)
  response_adds lane status body (Upgrades l) = if_adds (lane == l) (GivesUp ∷ x ∷ h) (x ∷ h) h (two_add GivesUp x h) (one_adds x h)
  response_adds lane status body (Stands l) = one_adds x h
  response_adds lane status body Over = one_adds x h

  loss_adds : (lane : ℕ) (p : Phase) → Adds (answered s d (event.Lost lane) p lost (x ∷ h)) h
  loss_adds lane Away = one_adds x h
  loss_adds lane (Negotiates l) = if_adds (lane == l) (counted (suc lost) (x ∷ h)) (x ∷ h) h (counted_adds (suc lost) x h) (one_adds x h)
  loss_adds lane (Upgrades l) = if_adds (lane == l) (counted (suc lost) (x ∷ h)) (x ∷ h) h (counted_adds (suc lost) x h) (one_adds x h)
  loss_adds lane (Stands l) = one_adds x h
  loss_adds lane Over = one_adds x h

  answered_adds : (e : Event) (p : Phase) → Adds (answered s d e p lost (x ∷ h)) h
  answered_adds (event.Request lane r) p = one_adds x h
  answered_adds (event.Refused lane r) p = one_adds x h
  answered_adds (event.Bytes lane b) p = one_adds x h
  answered_adds (event.Response lane status body) p = response_adds lane status body p
  answered_adds (event.Upgraded lane) p = one_adds x h
  answered_adds (event.Lost lane) p = loss_adds lane p
  answered_adds (event.Drained lane) p = one_adds x h
  answered_adds event.Quiet p = one_adds x h

shut_adds : (p : Phase) (h : List DialEvent) → Adds (shut p h) h
shut_adds Away h = ([], refl)
shut_adds (Negotiates lane) h = one_adds (Shuts lane) h
shut_adds (Upgrades lane) h = one_adds (Shuts lane) h
shut_adds (Stands lane) h = one_adds (Shuts lane) h
shut_adds Over h = ([], refl)

pub moves_add : MovesAdd
moves_add s (Dials d) h = dialed_adds s d (told h) h
moves_add s (move.Hears now event d) h = answered_adds s d (lost_dials h) (Hears now event) h event (phase h)
moves_add s Drops h = shut_adds (phase h) h
moves_add s Leaves h = let below = shut_adds (phase h) h in (Stops ∷ below.0, ap (λ g. Stops ∷ g) below.1)
