-- What calls make of a front, and what they answer, in the words of the notes.
use Rattle.std.specs.Prelude.{◌≡◌, ◌≤◌, ℕ, suc, ◌+◌, max, nat_le, Bool, true, false, ◌&&◌, List, [], ◌∷◌, length, Option, Some, None, IfSome, option_map, if◌then◌else◌}
use Rattle.hd_delivery.specs.Histories.{is_this}
use Rattle.hd_server.specs.Lives.{ConnectionEvent, Negotiated, Opened, Expired, Removed, made, gives_way, is_fresh, is_made, life_of, live, overdue, poll_of, socket_of}
use Rattle.hd_server.specs.Numbers.{held_for}
use Rattle.hd_server.specs.Texts.{token_of}
use Rattle.hn_server_front.specs.declared.bodies.Transports.{Transports}
use Rattle.hn_server_front.specs.declared.front.Front.{Front}
use Rattle.hn_server_front.specs.declared.front.Made.{Made}
use Rattle.hn_server_front.specs.declared.front.Opened.{Opened as OpenedNow}
use Rattle.hn_server_front.specs.Bodies.{body_for}
use Rattle.hn_server_front.specs.Stands.{Stands, is_there}

-- so it is of all notes for which the front stands
abbrev pub OfEach : Front → (List ConnectionEvent → Type 0) → Type 0
OfEach f P = (h : List ConnectionEvent) → Stands f h → P h

-- it stands for the same notes, and as many may live
abbrev pub Stays : Front → Front → Type 0
Stays old new = OfEach old (λ h. Stands new h × (new.live ≡ old.live))

-- of a connection that was made this is noted. Of every other number nothing is. As many may live as before
abbrev pub IsNoted : Front → Front → ℕ → ConnectionEvent → Type 0
IsNoted old new c note =
    OfEach old (λ h. (is_made c h ≡ true → Stands new (note ∷ h)) × (is_made c h ≡ false → Stands new h) × (new.live ≡ old.live))

-- of a connection that gives way nothing is kept
abbrev pub after_leaving : Option ℕ → List ConnectionEvent → List ConnectionEvent
after_leaving None h = h
after_leaving (Some c) h = Removed c ∷ h

abbrev pub GivesWay : Front → Front → Option ℕ → Type 0
GivesWay old new gone = OfEach old (λ h. IfSome gone (λ c. is_made c h ≡ true) → Stands new (after_leaving gone h) × (new.live ≡ old.live))

-- it was made, and nobody used it yet
pub record IsUnused (now : ℕ) (h : List ConnectionEvent) (c : ℕ) : Type 0 where
  pub made_so : is_made c h ≡ true
  pub fresh : is_fresh (life_of c now h) ≡ true

-- the next connection is made with a token of what was drawn, and the body tells it, where so many may live: another gives way before, if as
-- many do. No more live then than may, or than did
pub record Tells (transports : Transports) (most : ℕ) (new : Front) (h : List ConnectionEvent) (asked : Bool) (drawn : List ℕ) (now : ℕ) (made_now : Made) : Type 0 where
  pub next : made_now.conn ≡ suc (made h)
  pub gone : made_now.gone ≡ gives_way most now h
  pub unused : IfSome made_now.gone (IsUnused now h)
  pub body : made_now.body ≡ body_for transports made_now.conn (token_of drawn made_now.conn) asked
  pub noted : Stands new (Negotiated made_now.conn (token_of drawn made_now.conn) asked now ∷ after_leaving made_now.gone h)
  pub few : length (live now (Negotiated made_now.conn (token_of drawn made_now.conn) asked now ∷ after_leaving made_now.gone h)) ≤ max most (length (live now h))
  pub limit : new.live ≡ most

-- the next connection is made without a token, in the same way
pub record Opens (most : ℕ) (new : Front) (h : List ConnectionEvent) (now : ℕ) (opened : OpenedNow) : Type 0 where
  pub next : opened.conn ≡ suc (made h)
  pub gone : opened.gone ≡ gives_way most now h
  pub unused : IfSome opened.gone (IsUnused now h)
  pub noted : Stands new (Opened opened.conn now ∷ after_leaving opened.gone h)
  pub few : length (live now (Opened opened.conn now ∷ after_leaving opened.gone h)) ≤ max most (length (live now h))
  pub limit : new.live ≡ most

-- it is the first of these, if there is one
abbrev pub IsFirst : Option ℕ → List ℕ → Type 0
IsFirst None cs = cs ≡ []
IsFirst (Some c) cs = (rest : List ℕ) × (cs ≡ c ∷ rest)

-- the first of these is handed out, if there is one
abbrev pub Expires : Front → List ConnectionEvent → ℕ → Option ℕ → Type 0
Expires new h now None = (overdue now h ≡ []) × Stands new h
Expires new h now (Some c) = ((rest : List ℕ) × (overdue now h ≡ c ∷ rest)) × Stands new (Expired c now ∷ h)

-- the poll that it holds, as long as it isn't let go
abbrev pub poll_held : ℕ → List ConnectionEvent → Option (ℕ × ℕ)
poll_held c h = if is_there c h then poll_of c h else None

-- the poll that it holds came at this moment, and was held for as long as a poll may be, or longer
abbrev pub is_held_long : ℕ → ℕ → ℕ → List ConnectionEvent → Bool
is_held_long now since c h = is_this since (option_map (λ poll. poll.1) (poll_held c h)) && nat_le (since + held_for) now

-- the lane of the socket on which it stands, as long as it isn't let go
abbrev pub lane_of : ℕ → List ConnectionEvent → Option ℕ
lane_of c h = if is_there c h then socket_of c h else None
