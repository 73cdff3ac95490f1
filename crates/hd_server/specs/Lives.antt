-- What is noted of a server's connections, and the life of a token at a moment, which is read off the notes. The latest note comes first.
-- This project's own rules: the moments, and that a connection that polls is never resumed.
use Rattle.std.specs.Prelude.{◌≡◌, ◌≤◌, ℕ, zero, suc, ◌+◌, Bool, true, false, not, ◌&&◌, ◌||◌, ◌==◌, nat_lt, nat_le, ◌<◌, List, [], ◌∷◌, ◌++◌, filter, find, length, Option, Some, None, is_some, option_map, unwrap_or, if◌then◌else◌}
use Rattle.hm_message.specs.Same.{same_text}
use Rattle.hd_delivery.specs.Histories.{is_this, first_of}
use Rattle.hd_server.specs.declared.vocabulary.Life.{Life}
use Rattle.hd_server.specs.declared.vocabulary.Life.TheVariants.{Unknown, Fresh, Socket, Lost, Polling, Ending}
use Rattle.hd_server.specs.Numbers.{most_connections, lives_for}

-- Connections are numbered from 1, each by the note that makes it. A connection comes to its end by one of four notes: `Ended`, by its own
-- side or the other's while it polls; `Expired`, by its moment, which is the same if it only polls, and else the last of it; `Removed`, for good
pub data ConnectionEvent : Type 0 where
  Negotiated : (conn : ℕ) → (token : List ℕ) → (reconnect : Bool) → (now : ℕ) → ConnectionEvent
  Opened : (conn now : ℕ) → ConnectionEvent  -- without a token
  Socketed : (conn lane now : ℕ) → ConnectionEvent  -- it stands on that lane from now on
  Polled : (conn lane now : ℕ) → ConnectionEvent  -- a poll came on that lane
  Answered : (conn lane now : ℕ) → ConnectionEvent  -- the poll on that lane ended
  LaneLost : (conn lane now : ℕ) → ConnectionEvent
  Ended : (conn now : ℕ) → ConnectionEvent
  Expired : (conn now : ℕ) → ConnectionEvent
  Removed : (conn : ℕ) → ConnectionEvent

-- ---- what is read off

-- how many connections were made
abbrev pub made : List ConnectionEvent → ℕ
made [] = 0
made (Negotiated c token reconnect now ∷ h) = suc (made h)
made (Opened c now ∷ h) = suc (made h)
made (_ ∷ h) = made h

-- the connection that was made with a token
abbrev pub conn_with : List ℕ → List ConnectionEvent → Option ℕ
conn_with token [] = None
conn_with token (Negotiated c own reconnect now ∷ h) = if same_text token own then Some c else conn_with token h
conn_with token (_ ∷ h) = conn_with token h

-- when its token was made
abbrev pub negotiated_at : ℕ → List ConnectionEvent → Option ℕ
negotiated_at c [] = None
negotiated_at c (Negotiated k token reconnect now ∷ h) = if c == k then Some now else negotiated_at c h
negotiated_at c (_ ∷ h) = negotiated_at c h

-- whether reconnect was granted with its token
abbrev pub is_resumable_promise : ℕ → List ConnectionEvent → Bool
is_resumable_promise c [] = false
is_resumable_promise c (Negotiated k token reconnect now ∷ h) = if c == k then reconnect else is_resumable_promise c h
is_resumable_promise c (_ ∷ h) = is_resumable_promise c h

-- whether it was opened without a token
abbrev pub is_opened : ℕ → List ConnectionEvent → Bool
is_opened c [] = false
is_opened c (Opened k now ∷ h) = (c == k) || is_opened c h
is_opened c (_ ∷ h) = is_opened c h

-- the lane of the socket on which it stands
abbrev pub socket_of : ℕ → List ConnectionEvent → Option ℕ
socket_of c [] = None
socket_of c (Socketed k lane now ∷ h) = if c == k then Some lane else socket_of c h
socket_of c (LaneLost k lane now ∷ h) = if (c == k) && is_this lane (socket_of c h) then None else socket_of c h
socket_of c (_ ∷ h) = socket_of c h

-- when that socket was lost, if it stands on none since
abbrev pub lost_at : ℕ → List ConnectionEvent → Option ℕ
lost_at c [] = None
lost_at c (Socketed k lane now ∷ h) = if c == k then None else lost_at c h
lost_at c (LaneLost k lane now ∷ h) = if (c == k) && is_this lane (socket_of c h) then Some now else lost_at c h
lost_at c (_ ∷ h) = lost_at c h

-- the lane and the moment of the poll that is held
abbrev pub poll_of : ℕ → List ConnectionEvent → Option (ℕ × ℕ)
poll_of c [] = None
poll_of c (Polled k lane now ∷ h) = if c == k then Some (lane, now) else poll_of c h
poll_of c (Answered k lane now ∷ h) = if (c == k) && is_this lane (option_map (λ p. p.0) (poll_of c h)) then None else poll_of c h
poll_of c (LaneLost k lane now ∷ h) = if (c == k) && is_this lane (option_map (λ p. p.0) (poll_of c h)) then None else poll_of c h
poll_of c (_ ∷ h) = poll_of c h

-- when its last poll ended, if none came since
abbrev pub poll_ended : ℕ → List ConnectionEvent → Option ℕ
poll_ended c [] = None
poll_ended c (Polled k lane now ∷ h) = if c == k then None else poll_ended c h
poll_ended c (Answered k lane now ∷ h) = if (c == k) && is_this lane (option_map (λ p. p.0) (poll_of c h)) then Some now else poll_ended c h
poll_ended c (LaneLost k lane now ∷ h) = if (c == k) && is_this lane (option_map (λ p. p.0) (poll_of c h)) then Some now else poll_ended c h
poll_ended c (_ ∷ h) = poll_ended c h

-- whether it polls
abbrev pub is_polling : ℕ → List ConnectionEvent → Bool
is_polling c h = is_some (poll_of c h) || is_some (poll_ended c h)

-- whether it polls, and neither stands on a socket nor lost one
abbrev pub only_polls : ℕ → List ConnectionEvent → Bool
only_polls c h = is_polling c h && not (is_some (socket_of c h) || is_some (lost_at c h))

-- when its token began to end, which it does once
abbrev pub ended_at : ℕ → List ConnectionEvent → Option ℕ
ended_at c [] = None
ended_at c (Ended k now ∷ h) = if (c == k) && not (is_some (ended_at c h)) then Some now else ended_at c h
ended_at c (Expired k now ∷ h) = if (c == k) && (only_polls c h && not (is_some (ended_at c h))) then Some now else ended_at c h
ended_at c (_ ∷ h) = ended_at c h

-- whether its token begins to end at its moment. Else nothing is known of it from then on
abbrev pub ends_then : ℕ → List ConnectionEvent → Bool
ends_then c h = only_polls c h && not (is_some (ended_at c h))

-- whether nothing is known of it any more
abbrev pub is_removed : ℕ → List ConnectionEvent → Bool
is_removed c [] = false
is_removed c (Removed k ∷ h) = (c == k) || is_removed c h
is_removed c (Expired k now ∷ h) = ((c == k) && not (ends_then c h)) || is_removed c h
is_removed c (_ ∷ h) = is_removed c h

-- ---- lives

abbrev pub is_known : Life → Bool
is_known Unknown = false
is_known _ = true

abbrev pub when : Bool → Life → Option Life
when true life = Some life
when false life = None

-- its life but for moments: the first that applies
abbrev pub standing : ℕ → List ConnectionEvent → Life
standing c h = unwrap_or
    (first_of (when (is_removed c h) Unknown)
    (first_of (when (is_some (ended_at c h)) Ending)
    (first_of (option_map Socket (socket_of c h))
    (first_of (when (is_some (lost_at c h)) Lost)
    (first_of (when (is_polling c h) Polling)
    (when (is_opened c h || is_some (negotiated_at c h)) Fresh)))))) Unknown

-- from when on such a life counts towards its end
abbrev pub since : ℕ → Life → List ConnectionEvent → Option ℕ
since c Unknown h = None
since c Fresh h = negotiated_at c h
since c (Socket lane) h = None
since c Lost h = lost_at c h
since c Polling h = poll_ended c h
since c Ending h = ended_at c h

-- the moment that ends it, if one does
abbrev pub deadline : ℕ → List ConnectionEvent → Option ℕ
deadline c h = option_map (λ moment. moment + lives_for) (since c (standing c h) h)

abbrev pub is_past : ℕ → Option ℕ → Bool
is_past now None = false
is_past now (Some moment) = nat_le moment now

-- past its moment one that polls is closed, and every other is unknown
abbrev pub past : Life → Life
past Polling = Ending
past _ = Unknown

-- the life of a connection at a moment
abbrev pub life_of : ℕ → ℕ → List ConnectionEvent → Life
life_of c now h = if is_past now (deadline c h) then past (standing c h) else standing c h

-- of no connection too
abbrev pub life_of_some : Option ℕ → ℕ → List ConnectionEvent → Life
life_of_some None now h = Unknown
life_of_some (Some c) now h = life_of c now h

-- the life of a token at a moment
abbrev pub life : List ℕ → ℕ → List ConnectionEvent → Life
life token now h = life_of_some (conn_with token h) now h

-- the connection of a token, as long as its life is known
abbrev pub known_conn : List ℕ → ℕ → List ConnectionEvent → Option ℕ
known_conn token now h = if is_known (life token now h) then conn_with token h else None

-- whether the number is that of a connection that was made
abbrev pub is_made : ℕ → List ConnectionEvent → Bool
is_made c h = nat_lt 0 c && nat_le c (made h)

-- ---- all connections

-- 1 to n
abbrev pub numbers_to : ℕ → List ℕ
numbers_to zero = []
numbers_to (suc n) = numbers_to n ++ suc n ∷ []

-- the connections that live at a moment
abbrev pub live : ℕ → List ConnectionEvent → List ℕ
live now h = filter (λ c. is_known (life_of c now h)) (numbers_to (made h))

-- as many live at a moment as may
abbrev pub is_full : ℕ → ℕ → List ConnectionEvent → Bool
is_full most now h = nat_le most (length (live now h))

abbrev pub is_fresh : Life → Bool
is_fresh Fresh = true
is_fresh _ = false

-- the connection of the least number that nobody used yet
abbrev pub first_fresh : ℕ → List ConnectionEvent → Option ℕ
first_fresh now h = find (λ c. is_fresh (life_of c now h)) (numbers_to (made h))

-- the connection that gives way to a new one
abbrev pub gives_way : ℕ → ℕ → List ConnectionEvent → Option ℕ
gives_way most now h = if is_full most now h then first_fresh now h else None

-- no further connection can be made: as many live as may and each was used, or as many were made
abbrev pub is_busy : ℕ → ℕ → List ConnectionEvent → Bool
is_busy most now h = (is_full most now h && not (is_some (first_fresh now h))) || nat_le most_connections (made h)

-- the connections whose moment has come, the least number first
abbrev pub overdue : ℕ → List ConnectionEvent → List ℕ
overdue now h = filter (λ c. is_past now (deadline c h)) (numbers_to (made h))

-- ---- notes in order

-- the moment of a note, if it has one
abbrev pub moment_of : ConnectionEvent → Option ℕ
moment_of (Negotiated c token reconnect now) = Some now
moment_of (Opened c now) = Some now
moment_of (Socketed c lane now) = Some now
moment_of (Polled c lane now) = Some now
moment_of (Answered c lane now) = Some now
moment_of (LaneLost c lane now) = Some now
moment_of (Ended c now) = Some now
moment_of (Expired c now) = Some now
moment_of (Removed c) = None

abbrev pub last_moment : List ConnectionEvent → ℕ
last_moment [] = 0
last_moment (n ∷ h) = unwrap_or (moment_of n) (last_moment h)

-- the next connection may be made, where so many may live: fewer do, and fewer were made than ever are
pub record HasRoom (most now c : ℕ) (h : List ConnectionEvent) : Type 0 where
  pub next : c ≡ suc (made h)
  pub not_full : is_full most now h ≡ false
  pub not_last : made h < most_connections

-- what may be noted next: a new connection while there is room; that a moment has come, of the first for which it has; and of a connection
-- whose life is known anything
abbrev pub MayBeNoted : ℕ → ConnectionEvent → List ConnectionEvent → Type 0
MayBeNoted most (Negotiated c token reconnect now) h = HasRoom most now c h
MayBeNoted most (Opened c now) h = HasRoom most now c h
MayBeNoted most (Socketed c lane now) h = is_known (life_of c now h) ≡ true
MayBeNoted most (Polled c lane now) h = is_known (life_of c now h) ≡ true
MayBeNoted most (Answered c lane now) h = is_known (life_of c now h) ≡ true
MayBeNoted most (LaneLost c lane now) h = is_known (life_of c now h) ≡ true
MayBeNoted most (Ended c now) h = is_known (life_of c now h) ≡ true
MayBeNoted most (Expired c now) h = (rest : List ℕ) × (overdue now h ≡ c ∷ rest)
MayBeNoted most (Removed c) h = Unit {0}

-- moments never fall, and each note is one that may come next, where so many may live
abbrev pub AreInOrder : ℕ → List ConnectionEvent → Type 0
AreInOrder most [] = Unit {0}
AreInOrder most (n ∷ h) = AreInOrder most h × (last_moment h ≤ last_moment (n ∷ h)) × MayBeNoted most n h
