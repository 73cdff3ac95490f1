-- What holds of these definitions, in their own words.
use Rattle.std.specs.Prelude.{◌≡◌, ◌↔◌, ◌⊎◌, ℕ, ◌+◌, ◌^◌, ◌<◌, ◌≤◌, ◌||◌, map, reverse, Bool, true, false, List, [], ◌∷◌, ◌++◌, length, nat_eq, Option, None, Some, is_some, All, if◌then◌else◌}
use Rattle.std.specs.List.{IsDistinct, flat_map}
use Rattle.hv_value.specs.Tree.{Tree}
use Rattle.hm_message.specs.declared.message.Message.{Message}
use Rattle.hm_message.specs.Message.{Fits}
use Rattle.hw_lanes.specs.declared.http.Method.{Method}
use Rattle.hw_lanes.specs.declared.http.Method.TheVariants.{Get, Post, Delete}
use Rattle.hw_lanes.specs.declared.http.ReplyField.{ReplyField}
use Rattle.hw_lanes.specs.declared.http.ReplyField.TheVariants.{AllowPost, AllowGetPostDelete}
use Rattle.hw_lanes.specs.declared.http.Request.{Request}
use Rattle.hd_delivery.specs.Numbers.{most_framing}
use Rattle.hd_delivery.specs.Histories.{EndEvent, Ticked, Config, codec_of, present_link, sent_messages, processed_messages, held_messages, moment, heard_moment, written_moment, is_silence, state}
use Rattle.hd_delivery.specs.Frames.{LinkFrame}
use Rattle.hd_delivery.specs.Due.{due, is_quiet, is_unseen}
use Rattle.hd_delivery.specs.Processes.{processes}
use Rattle.hd_delivery.specs.Worlds.{MaySend}
use Rattle.hd_delivery.specs.Sending as sending
use Rattle.hd_delivery.specs.Sending.{IsRefusedToSend}
use Rattle.hd_delivery.specs.Bytes.{Wire, sizes_of, spelling_of}
use Rattle.hd_calls.specs.declared.vocabulary.Deed.{Deed}
use Rattle.hd_calls.specs.Hubs.{Hub, message_of}
use Rattle.hd_calls.specs.Peers.{PeerEvent, Runs, Settings, steps, codec, is_shut}
use Rattle.hd_calls.specs.Rules.{MayTurn}
use Rattle.hw_door.specs.declared.heard.Event.{Event}
use Rattle.hw_door.specs.declared.heard.Heard.{Heard}
use Rattle.hw_door.specs.DoorCalls.{DoorCall, full_in, given_in}
use Rattle.hd_server.specs.Numbers.{most_frame, most_polled}
use Rattle.hd_server.specs.Lives.{ConnectionEvent, Expired, AreInOrder, is_made, last_moment, life_of, live, overdue, poll_of, socket_of, standing}
use Rattle.hd_server.specs.Texts.{token_of}
use Rattle.hd_server.specs.Table.{Facts, Outcome, Refusal, NewToken, PlainSocket, TokenSocket, FirstPoll, NextPoll, LastPoll, Posting, Deletion, is_base, is_negotiate, is_socket, is_unauthorized, is_keepers_fault, has_id, socket_outcome, delete_outcome, outcome}
use Rattle.hd_server.specs.Machine.{MachineEvent, Does, IsRound, DeliveryOutcome, Got, TooSlow, PassedOver, ArePeers, notice, fate_of, fates_of, may_turn}
use Rattle.hd_rooms.specs.Registry.{count_of, most_groups}
use Rattle.hd_server.specs.Machine.{registry}
use Rattle.hw_lanes.specs.Replies.{IsReply}
use Rattle.hd_server.specs.declared.vocabulary.Life.{Life}
use Rattle.hd_server.specs.declared.vocabulary.Life.TheVariants.{Fresh, Polling, Ending}
use Rattle.hd_server.specs.declared.vocabulary.Said.TheVariants as say
use Rattle.hd_server.specs.Doings.{ServerEvent, Says, notes, work, hears, asked, draws, said, seen, history, awaits_reply, config_of, has_peer, is_full}
use Rattle.hd_facts.specs.Prefixes.{IsPrefix}
use Rattle.hd_server.specs.Doings.{moment as moment_heard}
use Rattle.hd_server.specs.Plans.{Setup, allowed_at, bare_reply, makes_token, expiring, expiries, questions, plan}
use Rattle.hd_server.specs.Serves.{LendsUpTo, IsFree, IsTurn, Serves, given_as, ticking, flushing_on, all_flushing}
use Rattle.hd_server.specs.Parts.{Each, IsOfAny, IsExpiry, IsQuestion, IsPlanned, IsTick, IsFlush}
use Rattle.hd_server.specs.Serving.{ServeEnd, ServesOn, is_cut}
use Rattle.hw_door.specs.declared.heard.Given.{Given}

-- ---- sockets that name a token

pub record IsSocketFor (base : List ℕ) (r : Request) : Type 0 where
  pub at_base : is_base base r ≡ true
  pub elsewhere : is_negotiate base r ≡ false
  pub upgrades : is_socket r ≡ true
  pub names : has_id r ≡ true
  pub gets : r.method ≡ Get

-- a socket that names a token is answered by the token's life and whether its end may be resumed, and by nothing else
abbrev pub SocketsByLife : Type 0
SocketsByLife = (base : List ℕ) (r : Request) (f : Facts) → IsSocketFor base r → outcome base r f ≡ socket_outcome f.life f.granted

-- ---- what an outcome tells

-- nothing stands against a new connection
pub record HasWay (f : Facts) : Type 0 where
  pub authorized : is_unauthorized f.caller ≡ false
  pub told : is_keepers_fault f.caller ≡ false
  pub free : f.busy ≡ false

-- by an outcome: a refusal can be sent; a connection is made for one who may have it, and a socket is given to a request for one; and
-- what is done for a token suits its life
abbrev pub Suits : Request → Facts → Outcome → Type 0
Suits r f (Refusal status) = IsReply (bare_reply status)
Suits r f (NewToken reconnect) = HasWay f
Suits r f PlainSocket = (is_socket r ≡ true) × HasWay f
Suits r f TokenSocket = (is_socket r ≡ true) × (socket_outcome f.life f.granted ≡ TokenSocket)
Suits r f FirstPoll = f.life ≡ Fresh
Suits r f NextPoll = f.life ≡ Polling
Suits r f LastPoll = f.life ≡ Ending
Suits r f Posting = f.life ≡ Polling
Suits r f Deletion = delete_outcome f.life ≡ Deletion

abbrev pub OutcomesSuit : Type 0
OutcomesSuit = (base : List ℕ) (r : Request) (f : Facts) → Suits r f (outcome base r f)

-- lots that fail turn away one who would have a token, and nobody else
abbrev pub LotsMatterToTokens : Type 0
LotsMatterToTokens = (base : List ℕ) (r : Request) (f : Facts) → f.lots_failed ≡ false
    → outcome base r (record f { lots_failed = true }) ≡ (if makes_token (outcome base r f) then Refusal 500 else outcome base r f)

-- a method that is named
abbrev pub allows : ReplyField → Method → Bool
allows AllowPost Post = true
allows AllowGetPostDelete Get = true
allows AllowGetPostDelete Post = true
allows AllowGetPostDelete Delete = true
allows field m = false

-- no request is refused with 405 whose method is allowed at its path
abbrev pub AllowedAreServed : Type 0
AllowedAreServed = (base : List ℕ) (r : Request) (f : Facts) → allows (allowed_at (is_base base r)) r.method ≡ true → outcome base r f ≡ Refusal 405 → ⊥

-- ---- tests that are rules

-- a peer's jobs have turns by the test exactly if they may by the rules of a peer
abbrev pub TurnsAreTested : Type 0
TurnsAreTested = (t : Settings) (h : List PeerEvent) → (may_turn t h ≡ true) ↔ MayTurn t h

-- by the fate of a message at an open end: it may be sent, or it is refused for want of room, or it is too deep or refused for another
-- reason
abbrev pub IsRightFate : Settings → List PeerEvent → Message → DeliveryOutcome → Type 0
IsRightFate t h m Got = MaySend t.limits (sizes_of t.wire) t.config (steps t h) m
IsRightFate t h m TooSlow = (held bytes size : ℕ) × IsRefusedToSend t.limits (sizes_of t.wire) t.config (steps t h) m (sending.Full held bytes size)
IsRightFate t h m PassedOver =
    (Fits m → ⊥) ⊎ (IsRefusedToSend t.limits (sizes_of t.wire) t.config (steps t h) m sending.Opening
    ⊎ (((size : ℕ) × IsRefusedToSend t.limits (sizes_of t.wire) t.config (steps t h) m (sending.TooLong size))
    ⊎ IsRefusedToSend t.limits (sizes_of t.wire) t.config (steps t h) m sending.Exhausted))

-- so it is of each notice, as the other end reads it
abbrev pub FatesAreRefusals : Type 0
FatesAreRefusals = (t : Settings) (h : List PeerEvent) (target : List ℕ) (arguments : List Tree) → is_shut t h ≡ false
    → IsRightFate t h (message_of (notice (codec t h) target arguments)) (fate_of t h (message_of (notice (codec t h) target arguments)))

-- ---- broadcasts

-- a deed is told to each member once
abbrev pub EachMemberOnce : Type 0
EachMemberOnce = (d : Deed) (h : List MachineEvent) → IsDistinct nat_eq (map (λ f. f.0) (fates_of d h))

-- a connection is in no more groups than the most
abbrev pub GroupsAreFew : Type 0
GroupsAreFew = (c : ℕ) (h : List MachineEvent) → count_of c (registry h).groups ≤ most_groups

-- ---- rounds

-- the connections whose jobs had turns, the latest first
abbrev pub ran : List MachineEvent → List ℕ
ran [] = []
ran (Does c (Runs j call since turn what) ∷ xs) = c ∷ ran xs
ran (_ ∷ xs) = ran xs

-- each number is no greater than the one before it
abbrev pub NeverRise : List ℕ → Type 0
NeverRise [] = Unit {0}
NeverRise (c ∷ []) = Unit {0}
NeverRise (c ∷ d ∷ cs) = (d ≤ c) × NeverRise (d ∷ cs)

-- in a round connections have their turns in the order of their numbers. That each of their jobs has one is the rule of its peer
abbrev pub ConnectionsInOrder : Type 0
ConnectionsInOrder = (now : ℕ) (xs h : List MachineEvent) → IsRound now xs h → NeverRise (ran xs)

-- ---- ticks

-- two histories tell the same, but for the moment, and for that too once a tick at `now` or later has come
pub record TellSame (c : Config) (now : ℕ) (g h : List EndEvent) : Type 0 where
  pub same_link : present_link g ≡ present_link h
  pub same_state : state c g ≡ state c h
  pub same_sent : sent_messages g ≡ sent_messages h
  pub same_processed : processed_messages g ≡ processed_messages h
  pub same_held : held_messages c g ≡ held_messages c h
  pub same_heard : heard_moment g ≡ heard_moment h
  pub same_written : written_moment g ≡ written_moment h
  pub same_quiet : is_quiet g ≡ is_quiet h
  pub same_due : due c g ≡ due c h
  pub same_next : processes c g ≡ processes c h
  pub same_silence : (later : ℕ) → is_silence c later g ≡ is_silence c later h
  pub same_moment : (later : ℕ) → now ≤ later → moment (Ticked later ∷ g) ≡ moment (Ticked later ∷ h)

-- an idle tick is unseen
abbrev pub IdleTicksAreUnseen : Type 0
IdleTicksAreUnseen = (c : Config) (now : ℕ) (h : List EndEvent) → is_unseen c now h ≡ true → TellSame c now (Ticked now ∷ h) h

-- ---- turns

-- of which events each part of a turn consists. What a moment has ended, a tick and what is said have nothing that a plan may not have
pub record PartsOfTurns : Type 0 where
  pub expiring_is : (now : ℕ) (life : Life) (c : ℕ) (h : List ServerEvent) → Each (IsExpiry c) (expiring now life c h)
  pub expiries_are : (now : ℕ) (h : List ServerEvent) → Each (IsOfAny IsExpiry) (expiries now h)
  pub questions_are : (s : Setup) (now : ℕ) (event : Event) (name : Option (Option (List ℕ))) (drawn : Option (List ℕ)) (h : List ServerEvent)
      → Each IsQuestion (questions s now event name drawn h)
  pub first_is : (s : Setup) (now : ℕ) (event : Event) (name : Option (Option (List ℕ))) (drawn : Option (List ℕ)) (h : List ServerEvent)
      → Each IsPlanned (plan s now event name drawn h).first
  pub last_is : (s : Setup) (now : ℕ) (event : Event) (name : Option (Option (List ℕ))) (drawn : Option (List ℕ)) (h : List ServerEvent)
      → Each IsPlanned (plan s now event name drawn h).last
  pub ticking_is : (now c : ℕ) (h : List ServerEvent) → Each (IsTick c) (ticking now c h)
  pub ticks_are : (now : ℕ) (cs : List ℕ) (h : List ServerEvent) → Each (IsOfAny IsTick) (flat_map (λ c. ticking now c h) cs)
  pub flushing_is : (s : Setup) (now c : ℕ) (lane : Option ℕ) (pieces : List (List LinkFrame)) (h : List ServerEvent)
      → Each (IsFlush c) (flushing_on s now c lane pieces h)
  pub all_flushing_is : (s : Setup) (now : ℕ) (cs : List ℕ) (pieces : List (List (List LinkFrame))) (h : List ServerEvent)
      → Each (IsOfAny IsFlush) (all_flushing s now cs pieces h)
  pub expiry_planned : (x : ServerEvent) → IsOfAny IsExpiry x → IsPlanned x
  pub tick_planned : (x : ServerEvent) → IsOfAny IsTick x → IsPlanned x
  pub flush_planned : (x : ServerEvent) → IsOfAny IsFlush x → IsPlanned x

-- what was done before an event stays, the event is heard once, and no answer to a message is seen yet
pub record GoesFurther (now : ℕ) (event : Event) (h after : List ServerEvent) : Type 0 where
  pub new : List ServerEvent
  pub are : after ≡ new ++ h
  pub hears_it : hears after ≡ hears h ++ record { now = now; event = event } ∷ []
  pub sees_none : seen after ≡ seen h

abbrev pub TurnsGoFurther : Type 0 → Type 0
TurnsGoFurther Job = (hub : Hub Job) (s : Setup) (now : ℕ) (event : Event) (h after : List ServerEvent)
    → IsTurn hub s now event h after → GoesFurther now event h after

-- what more doings tell comes after what was told before
pub record TellsGrow (new h : List ServerEvent) : Type 0 where
  pub heard : hears (new ++ h) ≡ hears h ++ hears new
  pub asked_more : asked (new ++ h) ≡ asked h ++ asked new
  pub drawn_more : draws (new ++ h) ≡ draws h ++ draws new
  pub said_more : said (new ++ h) ≡ said h ++ said new
  pub seen_more : seen (new ++ h) ≡ seen h ++ seen new

abbrev pub WhatIsToldGrows : Type 0
WhatIsToldGrows = (new h : List ServerEvent) → TellsGrow new h

-- the first first
abbrev pub in_order : List Heard → List Heard
in_order [] = []
in_order (e ∷ es) = in_order es ++ e ∷ []

-- a server heard what it is said to have heard, and each of its connections did what a peer can do
pub record IsServer {Job : Type 0} (hub : Hub Job) (es : List Heard) (h : List ServerEvent) : Type 0 where
  pub heard : hears h ≡ in_order es
  pub peers : ArePeers hub (work h)

abbrev pub ServersArePeers : Type 0 → Type 0
ServersArePeers Job = (hub : Hub Job) (s : Setup) (es : List Heard) (h : List ServerEvent) → Serves hub s es h → IsServer hub es h

-- the lane of a connection's socket is full
abbrev pub is_full_some : Option ℕ → List ServerEvent → Bool
is_full_some None h = false
is_full_some (Some lane) h = is_full lane h

-- after an event nothing is due on a connection that stands on a socket whose lane isn't full, or holds a poll. Connections are numbered from 1
abbrev pub NothingIsLeft : Type 0 → Type 0
NothingIsLeft Job = (hub : Hub Job) (s : Setup) (now : ℕ) (event : Event) (h after : List ServerEvent) → IsTurn hub s now event h after
    → (c : ℕ) → 0 < c → has_peer c after ≡ true → (is_some (socket_of c (notes after)) || is_some (poll_of c (notes after))) ≡ true
    → is_full_some (socket_of c (notes after)) after ≡ false → due (config_of c after) (history c after) ≡ None

-- the body of a poll's reply is within its bound, if each frame in it and its framing are within theirs
abbrev pub BodiesAreBounded : Type 0
BodiesAreBounded = (wire : Wire) (c : Config) (s : List EndEvent) (fs : List LinkFrame)
    → All (λ f. length (wire.spell (codec_of c s) f) ≤ most_frame + most_framing) fs
    → LendsUpTo wire c s 0 fs → length (spelling_of wire (codec_of c s) fs) ≤ most_polled

-- ---- moments

-- once the first of the connections whose moment has come has expired, the others are left
abbrev pub MomentsComeOnce : Type 0
MomentsComeOnce = (c : ℕ) (rest : List ℕ) (now : ℕ) (h : List ConnectionEvent) → overdue now h ≡ c ∷ rest → overdue now (Expired c now ∷ h) ≡ rest

-- ---- tokens

-- two connections have two tokens, whatever was drawn for them
abbrev pub TokensDiffer : Type 0
TokensDiffer = (drawn other : List ℕ) (c k : ℕ) → length drawn ≡ 16 → length other ≡ 16 → c < 2 ^ 64 → k < 2 ^ 64
    → token_of drawn c ≡ token_of other k → c ≡ k

-- where no moment has come unnoted, lives are what they are but for moments
abbrev pub LivesAreSettled : Type 0
LivesAreSettled = (c now : ℕ) (h : List ConnectionEvent) → is_made c h ≡ true → overdue now h ≡ [] → life_of c now h ≡ standing c h

-- at most so many connections live, if notes come in order
abbrev pub FewLive : Type 0
FewLive = (most now : ℕ) (h : List ConnectionEvent) → AreInOrder most h → last_moment h ≤ now → length (live now h) ≤ most

-- ---- serving

-- these are not answered: there are none; or the first is a request that may not come; or, if it may be cut, it is one, which was cut short
abbrev pub AreLeft : Bool → List ServerEvent → List Heard → Type 0
AreLeft cut h [] = Unit {0}
AreLeft cut h (e ∷ es) = (IsFree e.event h → ⊥) ⊎ ((cut ≡ true) × (es ≡ []))

-- a server that heard `before`, the latest first, and then these, in order, is one that heard the first of them, gave first what it says, and saw
-- first what was answered to that; and nothing else if it heard them all
pub record HasServed {Job : Type 0} (hub : Hub Job) (s : Setup) (cut : Bool) (h : List ServerEvent) (before es : List Heard) (given : List Given) (full : List Bool) : Type 0 where
  pub answered : List Heard
  pub rest : List Heard
  pub are : es ≡ answered ++ rest
  pub after : List ServerEvent
  pub serves : Serves hub s (reverse answered ++ before) after
  pub gives : IsPrefix (map given_as (said after)) (map given_as (said h) ++ given)
  pub left : AreLeft cut after rest
  pub all_given : rest ≡ [] → map given_as (said after) ≡ map given_as (said h) ++ given
  pub sees : IsPrefix (seen after) (seen h ++ full)
  pub all_seen : rest ≡ [] → seen after ≡ seen h ++ full

abbrev pub ServedIsServes : Type 0 → Type 0
ServedIsServes Job = (hub : Hub Job) (s : Setup) (end : ServeEnd) (h : List ServerEvent) (before es : List Heard) (calls : List DoorCall)
    → Serves hub s before h → ServesOn hub s end (λ after. Unit {0}) (λ after. Unit {0}) h es calls
    → HasServed hub s (is_cut end) h before es (given_in calls) (full_in calls)

-- ---- what a server notes

-- its notes come in order, none later than what was heard last
pub record NotesInOrder (s : Setup) (h : List ServerEvent) : Type 0 where
  pub in_order : AreInOrder s.live (notes h)
  pub not_later : last_moment (notes h) ≤ moment_heard h

abbrev pub ServersNoteInOrder : Type 0 → Type 0
ServersNoteInOrder Job = (hub : Hub Job) (s : Setup) (es : List Heard) (h : List ServerEvent) → Serves hub s es h → NotesInOrder s h

-- at most as many connections of a server live as it was begun with
abbrev pub ServersHaveFew : Type 0 → Type 0
ServersHaveFew Job = (hub : Hub Job) (s : Setup) (es : List Heard) (h : List ServerEvent) (now : ℕ) → Serves hub s es h → moment_heard h ≤ now
    → length (live now (notes h)) ≤ s.live

-- ---- replies

-- each reply is one that may be sent, and comes on a lane that waits for one
abbrev pub AreAwaited : List ServerEvent → Type 0
AreAwaited [] = Unit {0}
AreAwaited (Says (say.Reply lane reply) ∷ h) = (awaits_reply lane h ≡ true) × IsReply reply × AreAwaited h
AreAwaited (_ ∷ h) = AreAwaited h

-- a request that waits for its reply is a poll that is held
abbrev pub OnlyPollsWait : List ServerEvent → Type 0
OnlyPollsWait h = (lane : ℕ) → awaits_reply lane h ≡ true → (c now : ℕ) × (poll_of c (notes h) ≡ Some (lane, now))

-- a server answers each request once, and leaves none without a reply but the polls that it holds
abbrev pub EachRequestIsAnswered : Type 0 → Type 0
EachRequestIsAnswered Job = (hub : Hub Job) (s : Setup) (es : List Heard) (h : List ServerEvent) → Serves hub s es h → AreAwaited h × OnlyPollsWait h
