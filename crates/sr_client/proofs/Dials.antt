-- What events of its dialing leave of a client as it was.
use Rattle.std.proofs.Common.{◌≡◌, ℕ, Bool, true, false, List, [], ◌∷◌, ◌++◌, refl, sym, ap, ◌∙◌, append_assoc, true≢false}
use Rattle.std.specs.Prelude.{◌==◌, if◌then◌else◌}
use Rattle.std.specs.List.{list_all}
use Rattle.std.proofs.lemmas.Bool.{and_parts}
use Rattle.std.proofs.lemmas.List.{append-nil}
use Rattle.hw_door.specs.declared.heard.Event.TheVariants as event
use Rattle.hw_door.specs.declared.heard.Given.{Given}
use Rattle.hw_door.specs.declared.heard.Given.TheVariants as give
use Rattle.hd_dialing.specs.Events.{DialEvent, Hears, Draws, Asks, Learns, Shuts, GivesUp, Stops}
use Rattle.hd_dialing.specs.Events as dial
use Rattle.hd_dialing.specs.Telling as told_of
use Rattle.hd_client.specs.Setups.{Setup}
use Rattle.hd_client.specs.Events.{ClientEvent, Dialed, dialing, is_full, moves, passed}
use Rattle.hd_client.specs.Printed.{printed}
use Rattle.hd_client.specs.Telling.{draws, given, seen}
use Rattle.hd_client.specs.Turns.{dialed}

pub dialing_dialed : (new : List DialEvent) (h : List ClientEvent) → dialing (dialed new h) ≡ new ++ dialing h
dialing_dialed [] h = refl
dialing_dialed (x ∷ new) h = ap (λ d. x ∷ d) (dialing_dialed new h)

pub moves_dialed : (new : List DialEvent) (h : List ClientEvent) → moves (dialed new h) ≡ moves h
moves_dialed [] h = refl
moves_dialed (x ∷ new) h = moves_dialed new h

pub passed_dialed : (new : List DialEvent) (h : List ClientEvent) → passed (dialed new h) ≡ passed h
passed_dialed [] h = refl
passed_dialed (x ∷ new) h = passed_dialed new h

pub seen_dialed : (new : List DialEvent) (h : List ClientEvent) → seen (dialed new h) ≡ seen h
seen_dialed [] h = refl
seen_dialed (x ∷ new) h = seen_dialed new h

pub printed_dialed : (s : Setup) (new : List DialEvent) (h : List ClientEvent) → printed s (dialed new h) ≡ printed s h
printed_dialed s [] h = refl
printed_dialed s (x ∷ new) h = printed_dialed s new h

pub given_dialed : (new : List DialEvent) (h : List ClientEvent) → given (dialed new h) ≡ given h ++ told_of.given new
given_dialed [] h = sym (append-nil (given h))
given_dialed (Asks lane ask ∷ new) h =
    let one : List Given = give.Ask lane ask.place ask.method ask.target ask.upgrade ∷ [] in
    ap (λ g. g ++ one) (given_dialed new h) ∙ append_assoc (given h) (told_of.given new) one
given_dialed (Shuts lane ∷ new) h =
    ap (λ g. g ++ give.Shut lane ∷ []) (given_dialed new h) ∙ append_assoc (given h) (told_of.given new) (give.Shut lane ∷ [])
given_dialed (Hears now e ∷ new) h = given_dialed new h
given_dialed (Draws drawn ∷ new) h = given_dialed new h
given_dialed (Learns t ∷ new) h = given_dialed new h
given_dialed (GivesUp ∷ new) h = given_dialed new h
given_dialed (Stops ∷ new) h = given_dialed new h

draws_after : (new d : List DialEvent) → dial.draws (new ++ d) ≡ dial.draws d ++ dial.draws new
draws_after [] d = sym (append-nil (dial.draws d))
draws_after (Draws drawn ∷ new) d = ap (λ g. g ++ drawn ∷ []) (draws_after new d) ∙ append_assoc (dial.draws d) (dial.draws new) (drawn ∷ [])
draws_after (Asks lane ask ∷ new) d = draws_after new d
draws_after (Shuts lane ∷ new) d = draws_after new d
draws_after (Hears now e ∷ new) d = draws_after new d
draws_after (Learns t ∷ new) d = draws_after new d
draws_after (GivesUp ∷ new) d = draws_after new d
draws_after (Stops ∷ new) d = draws_after new d

pub draws_dialed : (new : List DialEvent) (h : List ClientEvent) → draws (dialed new h) ≡ draws h ++ dial.draws new
draws_dialed new h = ap dial.draws (dialing_dialed new h) ∙ draws_after new (dialing h)

-- ---- lanes that are full

-- it was done, and not heard
abbrev pub is_done : DialEvent → Bool
is_done (Hears now e) = false
is_done x = true

full_done : (l : ℕ) (x : DialEvent) (h : List ClientEvent) → is_done x ≡ true → is_full l (Dialed x ∷ h) ≡ is_full l h
full_done l (Hears now e) h done = absurd (true≢false (sym done))
full_done l (Draws drawn) h done = refl
full_done l (Asks lane ask) h done = refl
full_done l (Learns t) h done = refl
full_done l (Shuts lane) h done = refl
full_done l GivesUp h done = refl
full_done l Stops h done = refl

pub fills_done : (l : ℕ) (xs rest : List DialEvent) (h : List ClientEvent) → list_all is_done xs ≡ true
    → is_full l (dialed (xs ++ rest) h) ≡ is_full l (dialed rest h)
fills_done l [] rest h done = refl
fills_done l (x ∷ xs) rest h done =
    let both = and_parts (is_done x) (list_all is_done xs) done in
    full_done l x (dialed (xs ++ rest) h) both.0 ∙ fills_done l xs rest h both.1

either : (P : Bool → Type 0) (b x y : Bool) → P x → P y → P (if b then x else y)
either P true x y p q = p
either P false x y p q = q

-- a lane that isn't full isn't after events of dialing
pub room_dialed : (l : ℕ) (new : List DialEvent) (h : List ClientEvent) → is_full l h ≡ false → is_full l (dialed new h) ≡ false
room_dialed l [] h room = room
room_dialed l (Hears now (event.Drained lane) ∷ new) h room =
    either (λ b. b ≡ false) (l == lane) false (is_full l (dialed new h)) refl (room_dialed l new h room)
room_dialed l (Hears now (event.Request lane r) ∷ new) h room = room_dialed l new h room
room_dialed l (Hears now (event.Refused lane r) ∷ new) h room = room_dialed l new h room
room_dialed l (Hears now (event.Bytes lane bytes) ∷ new) h room = room_dialed l new h room
room_dialed l (Hears now (event.Response lane status body) ∷ new) h room = room_dialed l new h room
room_dialed l (Hears now (event.Upgraded lane) ∷ new) h room = room_dialed l new h room
room_dialed l (Hears now (event.Lost lane) ∷ new) h room = room_dialed l new h room
room_dialed l (Hears now event.Quiet ∷ new) h room = room_dialed l new h room
room_dialed l (Draws drawn ∷ new) h room = room_dialed l new h room
room_dialed l (Asks lane ask ∷ new) h room = room_dialed l new h room
room_dialed l (Learns t ∷ new) h room = room_dialed l new h room
room_dialed l (Shuts lane ∷ new) h room = room_dialed l new h room
room_dialed l (GivesUp ∷ new) h room = room_dialed l new h room
room_dialed l (Stops ∷ new) h room = room_dialed l new h room
