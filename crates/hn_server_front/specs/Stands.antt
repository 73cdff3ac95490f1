-- What a front remembers of its notes.
use Rattle.std.specs.Prelude.{◌≡◌, ◌≤◌, ◌<◌, ℕ, suc, Bool, false, not, ◌&&◌, ◌==◌, List, filter, length, Option, Some, None, nat_eq, option_map, if◌then◌else◌}
use Rattle.std.specs.BTreeMap as tree
use Rattle.indexmap.specs.IndexMap.{get, index_map_len, spare}
use Rattle.std.specs.Cmp.Lexicographic.{slice_cmp}
use Rattle.std.specs.Ordering.{nat_cmp}
use Rattle.std.specs.Vec.{vec_capacity}
use Rattle.hd_delivery.specs.Histories.{is_this}
use Rattle.hd_server.specs.Numbers.{held_for, lives_for, most_connections}
use Rattle.hd_server.specs.Texts.{token_of}
use Rattle.hd_server.specs.Lives.{ConnectionEvent, made, numbers_to, is_made, is_removed, is_opened, negotiated_at, is_resumable_promise, socket_of, lost_at, poll_of, poll_ended, ended_at, conn_with, standing, since}
use Rattle.hn_server_front.specs.declared.entry.Entry.{Entry}
use Rattle.hn_server_front.specs.declared.entry.Told.{Told}
use Rattle.hn_server_front.specs.declared.front.Front.{Front}
use Rattle.hn_server_front.specs.declared.moments.Waiting.{Waiting}
use Rattle.hn_server_front.specs.Entries.{Remembers, IsNew, token_told, moment_told}
use Rattle.hn_server_front.specs.Moments.{IsInOrder, is_within, waits_as}

-- the connection was made and isn't let go
abbrev pub is_there : ℕ → List ConnectionEvent → Bool
is_there c h = is_made c h && not (is_removed c h)

-- what is kept of a connection
abbrev pub entry_at : Front → ℕ → Option Entry
entry_at f c = get nat_eq f.entries c

-- the entry of a connection: there is one exactly if it is there
abbrev pub IsEntryOf : Option Entry → ℕ → List ConnectionEvent → Type 0
IsEntryOf None c h = is_there c h ≡ false
IsEntryOf (Some e) c h = Remembers e c h

-- the connection of a token
abbrev pub conn_at : Front → List ℕ → Option ℕ
conn_at f token = tree.get (slice_cmp nat_cmp) f.tokens token

-- unless it is let go
abbrev pub kept : Option ℕ → List ConnectionEvent → Option ℕ
kept None h = None
kept (Some c) h = if is_removed c h then None else Some c

-- from when on the life of a connection counts towards its end
abbrev pub since_of : ℕ → List ConnectionEvent → Option ℕ
since_of c h = since c (standing c h) h

abbrev pub is_waiting : Waiting → List ConnectionEvent → Bool
is_waiting w h = is_this w.since (since_of w.conn h)

-- since when a connection that is there holds the poll that it holds
abbrev pub held_since : ℕ → List ConnectionEvent → Option ℕ
held_since c h = if is_there c h then option_map (λ poll. poll.1) (poll_of c h) else None

abbrev pub is_holding : Waiting → List ConnectionEvent → Bool
is_holding w h = is_this w.since (held_since w.conn h)

-- nothing was noted of a number that no connection has
pub record IsUnborn (c : ℕ) (h : List ConnectionEvent) : Type 0 where
  pub held : is_removed c h ≡ false
  pub opened : is_opened c h ≡ false
  pub told : negotiated_at c h ≡ None
  pub promise : is_resumable_promise c h ≡ false
  pub token : token_told c h ≡ None
  pub socket : socket_of c h ≡ None
  pub lost : lost_at c h ≡ None
  pub poll : poll_of c h ≡ None
  pub polled : poll_ended c h ≡ None
  pub ended : ended_at c h ≡ None

-- a token tells its connection, whatever was drawn for it
pub record IsTokenOf (token : List ℕ) (c : ℕ) : Type 0 where
  pub drawn : List ℕ
  pub sixteen : length drawn ≡ 16
  pub spelled : token ≡ token_of drawn c

-- which tokens connections have
pub record TokensAgree (h : List ConnectionEvent) : Type 0 where
  pub spelled : (c : ℕ) (token : List ℕ) → token_told c h ≡ Some token → IsTokenOf token c
  pub told : (c : ℕ) (token : List ℕ) → token_told c h ≡ Some token → conn_with token h ≡ Some c
  pub had : (c : ℕ) (token : List ℕ) → conn_with token h ≡ Some c → token_told c h ≡ Some token

-- The front stands for these notes, the latest first.
pub record Stands (f : Front) (h : List ConnectionEvent) : Type 0 where
  pub made_so : f.made ≡ made h
  pub few : made h ≤ most_connections
  pub entries : (c : ℕ) → IsEntryOf (entry_at f c) c h
  pub unborn : (c : ℕ) → is_made c h ≡ false → IsUnborn c h
  pub size : index_map_len f.entries ≡ length (filter (λ c. is_there c h) (numbers_to (made h)))
  pub tokens : (token : List ℕ) → conn_at f token ≡ kept (conn_with token h) h
  pub agree : TokensAgree h
  pub waiting : (w : Waiting) → is_within w f.moments.waiting.items ≡ is_waiting w h
  pub order : IsInOrder f.moments.waiting.items
  pub room : index_map_len f.entries ≤ vec_capacity f.moments.waiting
  pub lasts : f.moments.lasts ≡ lives_for
  pub polling : (w : Waiting) → is_within w f.polls.waiting.items ≡ is_holding w h
  pub polls_order : IsInOrder f.polls.waiting.items
  pub polls_room : index_map_len f.entries ≤ vec_capacity f.polls.waiting
  pub polls_last : f.polls.lasts ≡ held_for

-- ---- parts of calls

-- there is room for one more connection, and for all that is noted of it
pub record HasRoom (f : Front) : Type 0 where
  pub entry : 0 < spare f.entries
  pub moment : suc (index_map_len f.entries) ≤ vec_capacity f.moments.waiting
  pub poll : suc (index_map_len f.entries) ≤ vec_capacity f.polls.waiting

-- nothing changed but the room for more
pub record IsRoomier (old new : Front) : Type 0 where
  pub made_so : new.made ≡ old.made
  pub entries : new.entries.entries ≡ old.entries.entries
  pub tokens : new.tokens ≡ old.tokens
  pub waiting : new.moments.waiting.items ≡ old.moments.waiting.items
  pub capacity : vec_capacity old.moments.waiting ≤ vec_capacity new.moments.waiting
  pub lasts : new.moments.lasts ≡ old.moments.lasts
  pub polling : new.polls.waiting.items ≡ old.polls.waiting.items
  pub polls_capacity : vec_capacity old.polls.waiting ≤ vec_capacity new.polls.waiting
  pub polls_last : new.polls.lasts ≡ old.polls.lasts
  pub live : new.live ≡ old.live

-- one more connection is kept, which waits from the moment on at which its token was told, and holds no poll
pub record IsEntered (old new : Front) (c : ℕ) (told : Option Told) : Type 0 where
  pub made_so : new.made ≡ c
  pub own : Entry
  pub is_new : IsNew own told
  pub entries : (k : ℕ) → entry_at new k ≡ (if c == k then Some own else entry_at old k)
  pub size : entry_at old c ≡ None → index_map_len new.entries ≡ suc (index_map_len old.entries)
  pub tokens : new.tokens ≡ old.tokens
  pub waiting : IsInOrder old.moments.waiting.items → waits_as c None old.moments.waiting.items → length old.moments.waiting.items ≤ index_map_len old.entries →
      (w : Waiting) → is_within w new.moments.waiting.items ≡ (if c == w.conn then is_this w.since (moment_told told) else is_within w old.moments.waiting.items)
  pub order : IsInOrder old.moments.waiting.items → IsInOrder new.moments.waiting.items
  pub capacity : vec_capacity old.moments.waiting ≤ vec_capacity new.moments.waiting
  pub lasts : new.moments.lasts ≡ old.moments.lasts
  pub polls : new.polls ≡ old.polls
  pub live : new.live ≡ old.live
