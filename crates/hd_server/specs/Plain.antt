-- A plain and slow program that does what a server does, for the worked sessions: their clients only call, and no job of theirs asks for a
-- call. What is free is given: what the keeper and the lots answer. Each list is followed for so many steps at most.
use Rattle.std.specs.Prelude.{ℕ, zero, suc, ◌+◌, ◌-◌, Bool, true, false, nat_lt, nat_le, List, [], ◌∷◌, ◌++◌, map, length, take, drop, slice_get, Option, Some, None, option_map, if◌then◌else◌}
use Rattle.hm_message.specs.declared.message.Message.{Message}
use Rattle.hd_delivery.specs.declared.vocabulary.Got.TheVariants as gives
use Rattle.hd_delivery.specs.Frames.{LinkFrame}
use Rattle.hd_delivery.specs.Histories.{EndEvent, Took, Lent, Config, codec_of}
use Rattle.hd_delivery.specs.Due.{due}
use Rattle.hd_delivery.specs.Processes.{processes}
use Rattle.hd_delivery.specs.Bytes.{Wire, Bytes}
use Rattle.hd_delivery.specs.Bytes.{Does as Step_of}
use Rattle.hd_calls.specs.declared.vocabulary.Deed.{Deed}
use Rattle.hd_calls.specs.declared.vocabulary.Deed.TheVariants as deed
use Rattle.hd_calls.specs.Numbers.{most_live, most_weight}
use Rattle.hd_calls.specs.Weights.{call_weight}
use Rattle.hd_calls.specs.Hubs.{Invoked, Purpose, ToBegin, Turn, Given, Cancelled, Hub, purpose_of, call_for}
use Rattle.hd_calls.specs.Peers.{Effect, Begins, InUse, TooMany, Nothing, PeerEvent, Plain, Reads, Handles, Runs, Settings, waiting, begun, moments, turns, acts, is_cancelled, last_of, steps}
use Rattle.hd_calls.specs.Rules.{in_use, kept_weight, live_jobs, next_input, job_after, act_at}
use Rattle.hd_rooms.specs.declared.vocabulary.Asked.{Asked}
use Rattle.hw_door.specs.declared.heard.Event.{Event}
use Rattle.hd_server.specs.Numbers.{most_before_last}
use Rattle.hd_server.specs.Lives.{socket_of, poll_of}
use Rattle.hd_server.specs.Machine.{MachineEvent, Does, Rounds, Carries, Owed, NothingOwed, OwesDeed, OwesCall, owed, fates_of, turn_at, next_turn, moves, settings_of, connections}
use Rattle.hd_server.specs.declared.vocabulary.Said.{Said}
use Rattle.hd_server.specs.Doings.{ServerEvent, Hears, Works, notes, work, said, peer, history, config_of}
use Rattle.hd_server.specs.Plans.{Setup, onto, expiries, questions, plan}
use Rattle.hd_server.specs.Serves.{can_feed, next_piece, moving, ticks, all_flushing, given_as, is_withheld, lanes_sent, seeing}

-- what is followed while there is a next
abbrev pub followed : {A : Type 0} → (List A → List A) → Option A → List A → List A
followed go None h = h
followed go (Some x) h = go (x ∷ h)

-- ---- what is taken

-- whether what jobs keep would be too heavy with the call
abbrev pub floods_with : Settings → List PeerEvent → Invoked → Bool
floods_with t h c = nat_lt most_weight (kept_weight t h + call_weight c)

abbrev pub begins_with : Settings → ℕ → List PeerEvent → Invoked → Effect
begins_with t now h c = if in_use t c h then InUse c else (if nat_lt (live_jobs t h) most_live then Begins c now (floods_with t h c) else TooMany c)

abbrev pub effect_of : Settings → ℕ → List PeerEvent → Purpose → Effect
effect_of t now h (ToBegin c) = begins_with t now h c
effect_of t now h _ = Nothing

abbrev pub reading : Option EndEvent → Option PeerEvent
reading None = None
reading (Some (Took (gives.Message m))) = Some (Reads m)
reading (Some s) = Some (Plain (Step_of s))

abbrev pub next_taken : Settings → ℕ → List PeerEvent → Option Message → Option PeerEvent
next_taken t now h (Some m) = Some (Handles m (effect_of t now h (purpose_of m)))
next_taken t now h None = reading (processes t.config (steps t h))

abbrev pub taking : ℕ → Settings → ℕ → List PeerEvent → List PeerEvent
taking zero t now h = h
taking (suc n) t now h = followed (taking n t now) (next_taken t now h (waiting h)) h

-- ---- what is fed

abbrev pub feeding : ℕ → Settings → ℕ → List ℕ → List PeerEvent → List PeerEvent
feeding zero t now bytes h = h
feeding (suc n) t now bytes h =
    if can_feed t h
    then (let p = next_piece t h bytes in
    let fed = taking 40 t now (Plain (Bytes p) ∷ h) in
    if nat_lt (length p) (length bytes) then feeding n t now (drop (length p) bytes) fed else fed)
    else h

-- the moves that came after those
abbrev pub newer : {A : Type 0} → List A → List A → List A
newer before after = take (length after - length before) after

abbrev pub fed_with : Option Settings → ℕ → ℕ → List ℕ → List ServerEvent → List ServerEvent
fed_with None now c bytes h = h
fed_with (Some t) now c bytes h = moving c (newer (peer c h) (feeding 40 t now bytes (peer c h))) h

abbrev pub fed_by : ℕ → Option (ℕ × List ℕ) → List ServerEvent → List ServerEvent
fed_by now None h = h
fed_by now (Some food) h = fed_with (settings_of food.0 (work h)) now food.0 food.1 h

-- ---- a round

abbrev pub turn_of : ℕ → ℕ → List PeerEvent → Option Turn
turn_of now j h = if is_cancelled j h then Some Cancelled else option_map (λ i. Given i now) (next_input j h (last_of (acts j h)))

abbrev pub runs : {Job : Type 0} → Hub Job → Settings → ℕ → List PeerEvent → Option Invoked → Option ℕ → Option Turn → Option PeerEvent
runs hub t j h (Some call) (Some since) (Some turn) =
    Some (Runs j call since turn (act_at hub (job_after hub (hub.begin_of (call_for t.who call) since) (turns j h)) turn))
runs hub t j h _ _ _ = None

abbrev pub runs_job : {Job : Type 0} → Hub Job → ℕ → Option ℕ → Option Settings → List PeerEvent → Option PeerEvent
runs_job hub now (Some j) (Some t) h = runs hub t j h (slice_get (begun h) j) (slice_get (moments h) j) (turn_of now j h)
runs_job hub now _ _ h = None

abbrev pub runs_at : {Job : Type 0} → Hub Job → ℕ → Option ℕ → List MachineEvent → Option MachineEvent
runs_at hub now None h = None
runs_at hub now (Some c) h = option_map (Does c) (runs_job hub now (turn_at c h) (settings_of c h) (moves c h))

abbrev pub asks_keeper_for : Deed → Bool
asks_keeper_for (deed.Log room text) = true
asks_keeper_for (deed.History room most) = true
asks_keeper_for _ = false

-- the first answer of the keeper, if it is asked, and the further ones
abbrev pub first_answer : Bool → List Asked → Option Asked
first_answer true answers = slice_get answers 0
first_answer false answers = None

abbrev pub further : Owed → List Asked → List Asked
further (OwesDeed c j d) answers = if asks_keeper_for d then drop 1 answers else answers
further _ answers = answers

abbrev pub next_happening : {Job : Type 0} → Hub Job → ℕ → Owed → List Asked → List MachineEvent → Option MachineEvent
next_happening hub now (OwesDeed c j d) answers h = Some (Carries c j d (fates_of d h) (first_answer (asks_keeper_for d) answers))
next_happening hub now (OwesCall c j) answers h = None
next_happening hub now NothingOwed answers h = runs_at hub now (next_turn h) h

abbrev pub rounding : {Job : Type 0} → ℕ → Hub Job → ℕ → List Asked → List MachineEvent → List MachineEvent
rounding zero hub now answers h = h
rounding (suc n) hub now answers h =
    followed (rounding n hub now (further (owed h) answers)) (next_happening hub now (owed h) answers h) h

-- ---- what is said

abbrev pub and_then : {A B : Type 0} → Option A → (A → List B) → List B
and_then None f = []
and_then (Some x) f = f x

abbrev pub lent_all : ℕ → Config → List EndEvent → List LinkFrame
lent_all zero c s = []
lent_all (suc n) c s = and_then (due c s) (λ f. f ∷ lent_all n c (Lent f ∷ s))

abbrev pub lent_up_to : ℕ → Wire → Config → List EndEvent → ℕ → List LinkFrame
lent_up_to zero wire c s size = []
lent_up_to (suc n) wire c s size =
    if nat_le size most_before_last
    then and_then (due c s) (λ f. f ∷ lent_up_to n wire c (Lent f ∷ s) (size + length (wire.spell (codec_of c s) f)))
    else []

abbrev pub one_piece : List LinkFrame → List (List LinkFrame)
one_piece [] = []
one_piece (f ∷ fs) = (f ∷ fs) ∷ []

abbrev pub pieces_on : Setup → ℕ → Option ℕ → Option (ℕ × ℕ) → List ServerEvent → List (List LinkFrame)
pieces_on s c (Some lane) poll h = if is_withheld c lane h then [] else one_piece (lent_all 40 (config_of c h) (history c h))
pieces_on s c None (Some poll) h = one_piece (lent_up_to 40 s.wire (config_of c h) (history c h) 0)
pieces_on s c None None h = []

abbrev pub pieces_of : Setup → ℕ → List ServerEvent → List (List LinkFrame)
pieces_of s c h = pieces_on s c (socket_of c (notes h)) (poll_of c (notes h)) h

-- ---- one event after the other, the first first

-- an event, what the keeper and the lots answer at it, and what the door answers to the first of the messages that are said. Where it isn't told
-- a lane isn't full
pub record Scene : Type 0 where
  pub now : ℕ
  pub event : Event
  pub name : Option (Option (List ℕ))
  pub drawn : Option (List ℕ)
  pub answers : List Asked
  pub full : List Bool

abbrev pub stepped : {Job : Type 0} → Hub Job → ℕ → List Asked → List ServerEvent → List ServerEvent
stepped hub now answers h =
    let before = Rounds now ∷ work h in
    let round = newer before (rounding 40 hub now answers before) in
    map Works round ++ Works (Rounds now) ∷ h

abbrev pub turn : {Job : Type 0} → Hub Job → Setup → Scene → List ServerEvent → List ServerEvent
turn hub s g h =
    let heard = Hears g.now g.event ∷ h in
    let expired = onto (expiries g.now heard) heard in
    let asked = onto (questions s g.now g.event g.name g.drawn expired) expired in
    let p = plan s g.now g.event g.name g.drawn asked in
    let handled = onto p.last (fed_by g.now p.food (onto p.first asked)) in
    let ready = stepped hub g.now g.answers (onto (ticks g.now handled) handled) in
    let cs = connections (work ready) in
    onto (all_flushing s g.now cs (map (λ c. pieces_of s c ready) cs) ready) ready

-- what is said at an event
abbrev pub words_of : List ServerEvent → List ServerEvent → List Said
words_of h after = drop (length (said h)) (said after)

-- the turn, and what is answered to the messages that are said in it
abbrev pub served : {Job : Type 0} → Hub Job → Setup → Scene → List ServerEvent → List ServerEvent
served hub s g h = let x = turn hub s g h in seeing (lanes_sent (map given_as (words_of h x))) g.full x

-- the history after these
abbrev pub run : {Job : Type 0} → Hub Job → Setup → List Scene → List ServerEvent → List ServerEvent
run hub s [] h = h
run hub s (g ∷ gs) h = run hub s gs (served hub s g h)
