-- The hub machine: what the peers of a server do, round by round, and the deeds that their jobs hand up. The latest happening comes first.
-- This project's own rules: in a round each due job has one turn, connection by connection in the order of their numbers; a deed is
-- carried out as it is handed up, but for a Join of one group too many; a member of a broadcast that has no room is closed as too slow.
use Rattle.std.specs.Prelude.{◌≡◌, ℕ, ◌+◌, max, Bool, true, false, not, ◌&&◌, ◌||◌, ◌==◌, nat_lt, nat_le, List, [], ◌∷◌, ◌++◌, map, filter, find, length, sum_by, Option, Some, None, is_some, if◌then◌else◌}
use Rattle.hv_value.specs.Tree.{Tree, text}
use Rattle.hv_value.specs.declared.value.Value.TheVariants as value
use Rattle.hm_message.specs.declared.message.Codec.{Codec}
use Rattle.hm_message.specs.declared.message.Message.{Message}
use Rattle.hm_message.specs.Message.{content_depth}
use Rattle.hd_delivery.specs.declared.vocabulary.Reason.TheVariants.{Slow}
use Rattle.hd_delivery.specs.Numbers.{most_messages, most_framing}
use Rattle.hd_delivery.specs.Histories.{Closed, sent_messages, held_messages, is_shaken}
use Rattle.hd_delivery.specs.Bytes.{Does as Step_of, sizes_of}
use Rattle.hd_calls.specs.declared.vocabulary.Deed.{Deed}
use Rattle.hd_calls.specs.declared.vocabulary.Deed.TheVariants.{Join, Leave, Post, Tell, Log, History}
use Rattle.hd_calls.specs.declared.vocabulary.Input.{Input}
use Rattle.hd_calls.specs.declared.vocabulary.Input.TheVariants.{Done, Failed}
use Rattle.hd_calls.specs.declared.vocabulary.Act.{Act}
use Rattle.hd_calls.specs.declared.vocabulary.Act.TheVariants.{Ask, Do}
use Rattle.hd_calls.specs.Numbers.{most_depth}
use Rattle.hd_calls.specs.Hubs.{Invoked, Notify, Turn, Given, Cancelled, Hub, message_of, arguments_in}
use Rattle.hd_calls.specs.Peers.{PeerEvent, Plain, Calls, Runs, Answers, Settings, steps, codec, is_shut}
use Rattle.hd_calls.specs.Peers as peers
use Rattle.hd_calls.specs.Rules.{next_job, settles, IsPeer}
use Rattle.hd_rooms.specs.declared.vocabulary.Asked.{Asked}
use Rattle.hd_rooms.specs.declared.vocabulary.Asked.TheVariants as keeper
use Rattle.hd_rooms.specs.Registry.{Pair, Lists, with_pair, with_member, without_pair, may_join, members}
use Rattle.hd_server.specs.Lives.{numbers_to}

-- what became of one member of a broadcast
pub data DeliveryOutcome : Type 0 where
  Got : DeliveryOutcome
  TooSlow : DeliveryOutcome  -- it had no room, and is closed
  PassedOver : DeliveryOutcome  -- it gets nothing, and stays as it is

pub data MachineEvent : Type 0 where
  Connects : (conn : ℕ) → (settings : Settings) → (user : Option (List ℕ)) → MachineEvent
  Does : (conn : ℕ) → (move : PeerEvent) → MachineEvent  -- of its peer
  Rounds : (now : ℕ) → MachineEvent  -- a round begins, at each peer
  -- the deed that a job handed up is carried out: at each member, and at the keeper if that is asked
  Carries : (conn job : ℕ) → (deed : Deed) → (fates : List (ℕ × DeliveryOutcome)) → (asked : Option Asked) → MachineEvent
  Goes : (conn : ℕ) → MachineEvent  -- nothing is kept of it

-- ---- connections

-- how its peer was begun
abbrev pub settings_of : ℕ → List MachineEvent → Option Settings
settings_of c [] = None
settings_of c (Connects k t user ∷ h) = if c == k then Some t else settings_of c h
settings_of c (_ ∷ h) = settings_of c h

abbrev pub has_gone : ℕ → List MachineEvent → Bool
has_gone c [] = false
has_gone c (Goes k ∷ h) = (c == k) || has_gone c h
has_gone c (_ ∷ h) = has_gone c h

-- it has a peer
abbrev pub is_there : ℕ → List MachineEvent → Bool
is_there c h = is_some (settings_of c h) && not (has_gone c h)

abbrev pub greatest : List MachineEvent → ℕ
greatest [] = 0
greatest (Connects c t user ∷ h) = max c (greatest h)
greatest (_ ∷ h) = greatest h

-- the connections that are there, in the order of their numbers
abbrev pub connections : List MachineEvent → List ℕ
connections h = filter (λ c. is_there c h) (numbers_to (greatest h))

-- ---- what their peers did

-- what each member of a broadcast is told, as it reads that
abbrev pub notice : Codec → List ℕ → List Tree → Invoked
notice codec target arguments = record { way = Notify; target = target; arguments = arguments_in codec arguments; streams = [] }

abbrev pub notice_of : Codec → Deed → Option Invoked
notice_of codec (Post group target arguments) = Some (notice codec target arguments)
notice_of codec (Tell user target arguments) = Some (notice codec target arguments)
notice_of codec _ = None

-- who joined a group and didn't leave it. A Join by which a connection would be in too many groups isn't carried out
abbrev pub joined : List MachineEvent → List Pair
joined [] = []
joined (Carries c j (Join group) fates asked ∷ h) = with_member (group, c) (joined h)
joined (Carries c j (Leave group) fates asked ∷ h) = without_pair (group, c) (joined h)
joined (_ ∷ h) = joined h

-- whether a deed of the connection is carried out, where these joined
abbrev pub may_do : ℕ → Deed → List Pair → Bool
may_do c (Join group) pairs = may_join (group, c) pairs
may_do c _ pairs = true

-- what a job is told of a deed that is carried out, by what the keeper was asked and answered
abbrev pub kept_as : Option Asked → Input
kept_as (Some (keeper.Log room who words is_resumable)) = if is_resumable then Done value.Null else Failed
kept_as (Some (keeper.History room most (Some texts))) = Done (value.List (map text texts))
kept_as (Some (keeper.History room most None)) = Failed
kept_as _ = Done value.Null

-- what the connection's job is told of its deed
abbrev pub answer_to : ℕ → Deed → Option Asked → List MachineEvent → Input
answer_to c d asked h = if may_do c d (joined h) then kept_as asked else Failed

abbrev pub outcome_in : ℕ → List (ℕ × DeliveryOutcome) → Option DeliveryOutcome
outcome_in c [] = None
outcome_in c (f ∷ fs) = if c == f.0 then Some f.1 else outcome_in c fs

-- the notice is sent, where there is one
abbrev pub notifies : Option Invoked → List PeerEvent → List PeerEvent
notifies None h = h
notifies (Some call) h = Calls None 0 call ∷ h

-- what a peer did, with its part in a broadcast
abbrev pub with_fate : Deed → Option Settings → Option DeliveryOutcome → List PeerEvent → List PeerEvent
with_fate d (Some t) (Some Got) h = notifies (notice_of (codec t h) d) h
with_fate d (Some t) (Some TooSlow) h = Plain (Step_of (Closed Slow false)) ∷ h
with_fate d _ _ h = h

-- what the peer of a connection did
abbrev pub moves : ℕ → List MachineEvent → List PeerEvent
moves c [] = []
moves c (Does k m ∷ h) = if c == k then m ∷ moves c h else moves c h
moves c (Rounds now ∷ h) = if is_there c h then peers.Rounds ∷ moves c h else moves c h
moves c (Carries k j d fates asked ∷ h) =
    let x = with_fate d (settings_of c h) (outcome_in c fates) (moves c h) in
    if c == k then Answers j (answer_to k d asked h) ∷ x else x
moves c (_ ∷ h) = moves c h

abbrev pub is_open_at : Option Settings → List PeerEvent → Bool
is_open_at None h = false
is_open_at (Some t) h = not (is_shut t h)

-- the connection is there, and its end isn't closed
abbrev pub is_open : ℕ → List MachineEvent → Bool
is_open c h = not (has_gone c h) && is_open_at (settings_of c h) (moves c h)

-- what each connection's peer did is what a peer can do
abbrev pub ArePeers : {Job : Type 0} → Hub Job → List MachineEvent → Type 0
ArePeers hub h = (c : ℕ) (t : Settings) → settings_of c h ≡ Some t → IsPeer hub t (moves c h)

-- ---- groups and users

-- which user each connection is
abbrev pub user_pairs : List MachineEvent → List Pair
user_pairs [] = []
user_pairs (Connects c t (Some user) ∷ h) = with_pair (user, c) (user_pairs h)
user_pairs (_ ∷ h) = user_pairs h

abbrev pub of_open : List MachineEvent → List Pair → List Pair
of_open h pairs = filter (λ p. is_open p.1 h) pairs

-- a connection that is closed or gone is in no group, and is no user's
abbrev pub registry : List MachineEvent → Lists
registry h = record { groups = of_open h (joined h); users = of_open h (user_pairs h) }

-- ---- broadcasts

-- an end holds few enough for a message of this framed size
abbrev pub has_room : Settings → List PeerEvent → ℕ → Bool
has_room t h size =
    nat_lt (length (held_messages t.config (steps t h))) t.limits.count
    && nat_le (sum_by ((sizes_of t.wire).framed (codec t h)) (held_messages t.config (steps t h)) + size) t.limits.bytes

-- not all messages were sent
abbrev pub has_number : Settings → List PeerEvent → Bool
has_number t h = nat_lt (length (sent_messages (steps t h))) most_messages

-- what becomes of a message at an open end, in the order in which a message is refused
abbrev pub fate_of : Settings → List PeerEvent → Message → DeliveryOutcome
fate_of t h m =
    if not (nat_le (content_depth m) most_depth) then PassedOver else
    (if not (is_shaken (steps t h)) then PassedOver else
    (if nat_lt t.limits.frame (t.wire.frame_size (codec t h) m) then PassedOver else
    (if not (has_room t h ((sizes_of t.wire).framed (codec t h) m)) then TooSlow else
    (if has_number t h then Got else PassedOver))))

abbrev pub fate_at : Option Settings → List PeerEvent → List ℕ → List Tree → DeliveryOutcome
fate_at None h target arguments = PassedOver
fate_at (Some t) h target arguments = fate_of t h (message_of (notice (codec t h) target arguments))

-- each member in order of joining, once
abbrev pub fates_among : List ℕ → List ℕ → List Tree → List MachineEvent → List (ℕ × DeliveryOutcome)
fates_among cs target arguments h = map (λ c. (c, fate_at (settings_of c h) (moves c h) target arguments)) cs

abbrev pub fates_of : Deed → List MachineEvent → List (ℕ × DeliveryOutcome)
fates_of (Post group target arguments) h = fates_among (members group (registry h).groups) target arguments h
fates_of (Tell user target arguments) h = fates_among (members user (registry h).users) target arguments h
fates_of _ h = []

-- ---- the keeper

abbrev pub who_of : Option Settings → List ℕ
who_of None = []
who_of (Some t) = t.who

-- what the keeper is asked for a deed, in the name of who called
abbrev pub IsAskedFor : Deed → List ℕ → Option Asked → Type 0
IsAskedFor (Log room words) who asked = (is_resumable : Bool) × (asked ≡ Some (keeper.Log room who words is_resumable))
IsAskedFor (History room most) who asked = (texts : Option (List (List ℕ))) × (asked ≡ Some (keeper.History room most texts))
IsAskedFor _ who asked = asked ≡ None

-- ---- rounds

-- a peer's jobs have turns while its end is open and has room for any frame
abbrev pub may_turn : Settings → List PeerEvent → Bool
may_turn t h = not (is_shut t h) && (has_room t h (t.limits.frame + most_framing) && has_number t h)

-- the job that has a peer's next turn in the round
abbrev pub turn_with : Option Settings → List PeerEvent → Option ℕ
turn_with None h = None
turn_with (Some t) h = if may_turn t h then next_job t h else None

abbrev pub turn_at : ℕ → List MachineEvent → Option ℕ
turn_at c h = turn_with (settings_of c h) (moves c h)

-- the connection whose peer had the last turn of the round
abbrev pub last_turn : List MachineEvent → ℕ
last_turn [] = 0
last_turn (Rounds now ∷ h) = 0
last_turn (Does c (Runs j call since turn what) ∷ h) = c
last_turn (_ ∷ h) = last_turn h

-- the connection whose peer has the next one: the first, from the last one on, that has a turn
abbrev pub next_turn : List MachineEvent → Option ℕ
next_turn h = find (λ c. nat_le (last_turn h) c && is_some (turn_at c h)) (connections h)

-- what the latest turn owes before the next
pub data Owed : Type 0 where
  NothingOwed : Owed
  OwesDeed : (conn job : ℕ) → (deed : Deed) → Owed
  OwesCall : (conn job : ℕ) → Owed  -- for which the job asked, or its refusal

abbrev pub owed : List MachineEvent → Owed
owed (Does c (Runs j call since turn (Do d)) ∷ h) = OwesDeed c j d
owed (Does c (Runs j call since turn (Ask target arguments)) ∷ h) = OwesCall c j
owed _ = NothingOwed

-- a job is told this moment, if any
abbrev pub IsAt : ℕ → Turn → Type 0
IsAt now (Given input moment) = moment ≡ now
IsAt now Cancelled = Unit {0}

-- how the round goes on
abbrev pub MayFollow : ℕ → Owed → List MachineEvent → MachineEvent → Type 0
MayFollow now (OwesDeed c j d) h x =
    (asked : Option Asked) × IsAskedFor d (who_of (settings_of c h)) asked × (x ≡ Carries c j d (fates_of d h) asked)
MayFollow now (OwesCall c j) h x = (m : PeerEvent) × (settles m ≡ Some j) × (x ≡ Does c m)
MayFollow now NothingOwed h x =
    (c j : ℕ) × (call : Invoked) × (since : ℕ) × (turn : Turn) × (what : Act)
    × (next_turn h ≡ Some c) × (turn_at c h ≡ Some j) × IsAt now turn × (x ≡ Does c (Runs j call since turn what))

-- each of these, the latest first, came as the round went on
abbrev pub GoesOn : ℕ → List MachineEvent → List MachineEvent → Type 0
GoesOn now [] h = Unit {0}
GoesOn now (x ∷ xs) h = GoesOn now xs h × MayFollow now (owed (xs ++ h)) (xs ++ h) x

-- these are a round at the moment, the latest first, after its beginning: turns, and what they owe, until no peer has a turn. What a turn
-- gives, and whether the call is made for which a job asks, is a matter of its peer alone
pub record IsRound (now : ℕ) (xs h : List MachineEvent) : Type 0 where
  pub each : GoesOn now xs (Rounds now ∷ h)
  pub settled : owed (xs ++ Rounds now ∷ h) ≡ NothingOwed
  pub over : next_turn (xs ++ Rounds now ∷ h) ≡ None

-- the connection whose peer would have the first turn of a round that begins now
abbrev pub first_turn : ℕ → List MachineEvent → Option ℕ
first_turn now h = next_turn (Rounds now ∷ h)
