-- What an entry remembers of a connection's notes.
use Rattle.std.specs.Prelude.{◌≡◌, ℕ, Bool, true, false, ◌||◌, ◌==◌, List, [], ◌∷◌, Option, Some, None, is_some, option_map, if◌then◌else◌}
use Rattle.hd_delivery.specs.Histories.{is_this}
use Rattle.hd_server.specs.Lives.{ConnectionEvent, Negotiated, Socketed, Polled, Answered, LaneLost, Ended, negotiated_at, is_resumable_promise, is_opened, socket_of, lost_at, poll_of, poll_ended, ended_at, is_removed, is_made}
use Rattle.hn_server_front.specs.declared.entry.Entry.{Entry}
use Rattle.hn_server_front.specs.declared.entry.Held.{Held}
use Rattle.hn_server_front.specs.declared.entry.Told.{Told}
use Rattle.hn_server_front.specs.declared.entry.EntryEvent.{EntryEvent}
use Rattle.hn_server_front.specs.declared.entry.EntryEvent.TheVariants as noted

-- the note of what is noted of a connection
abbrev pub note_of : ℕ → EntryEvent → ConnectionEvent
note_of c (noted.Socket lane now) = Socketed c lane now
note_of c (noted.Poll lane now) = Polled c lane now
note_of c (noted.Answer lane now) = Answered c lane now
note_of c (noted.Loss lane now) = LaneLost c lane now
note_of c (noted.End now) = Ended c now

-- the token of a connection
abbrev pub token_told : ℕ → List ConnectionEvent → Option (List ℕ)
token_told c [] = None
token_told c (Negotiated k token reconnect now ∷ h) = if c == k then Some token else token_told c h
token_told c (_ ∷ h) = token_told c h

abbrev pub moment_told : Option Told → Option ℕ
moment_told told = option_map (λ t. t.now) told

abbrev pub text_told : Option Told → Option (List ℕ)
text_told told = option_map (λ t. t.token) told

abbrev pub promise_told : Option Told → Bool
promise_told None = false
promise_told (Some t) = t.reconnect

-- the lane and the moment of a poll that is held
abbrev pub held_as : Option Held → Option (ℕ × ℕ)
held_as held = option_map (λ p. (p.lane, p.since)) held

-- the entry is that of a connection that was made and isn't let go
pub record Remembers (e : Entry) (c : ℕ) (h : List ConnectionEvent) : Type 0 where
  pub there : is_made c h ≡ true
  pub held : is_removed c h ≡ false
  pub begun : (is_opened c h || is_some (negotiated_at c h)) ≡ true
  pub told : moment_told e.told ≡ negotiated_at c h
  pub token : text_told e.told ≡ token_told c h
  pub promise : promise_told e.told ≡ is_resumable_promise c h
  pub socket : e.socket ≡ socket_of c h
  pub lost : e.lost ≡ lost_at c h
  pub poll : held_as e.poll ≡ poll_of c h
  pub polled : e.polled ≡ poll_ended c h
  pub ended : e.ended ≡ ended_at c h

-- nothing but its token is known of it
pub record IsNew (e : Entry) (told : Option Told) : Type 0 where
  pub told_so : e.told ≡ told
  pub socket : e.socket ≡ None
  pub lost : e.lost ≡ None
  pub poll : e.poll ≡ None
  pub polled : e.polled ≡ None
  pub ended : e.ended ≡ None

-- the socket is lost if it is on this lane
abbrev pub IsLost : Entry → Entry → ℕ → ℕ → Type 0
IsLost old new lane now =
    new ≡ (if is_this lane old.socket then record old { socket = None; lost = Some now } else old)

-- the poll has ended if it is held on this lane
abbrev pub HasPolled : Entry → Entry → ℕ → ℕ → Type 0
HasPolled old new lane now =
    new ≡ (if is_this lane (option_map (λ p. p.lane) old.poll) then record old { poll = None; polled = Some now } else old)

-- it begins to end, unless it did before
abbrev pub HasEnded : Entry → Entry → ℕ → Type 0
HasEnded old new now = new ≡ (if is_some old.ended then old else record old { ended = Some now })
