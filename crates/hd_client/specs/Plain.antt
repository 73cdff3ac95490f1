-- A plain and slow program that does what a client does, for the worked sessions: no job of its hub asks for a call. What is free is given.
-- Each list is followed for so many steps at most.
use Rattle.std.specs.Prelude.{ℕ, zero, suc, Bool, true, false, nat_lt, List, [], ◌∷◌, length, drop, Option, Some, None, if◌then◌else◌}
use Rattle.hm_message.specs.declared.message.Message.{Message}
use Rattle.hm_message.specs.Same.{same_text}
use Rattle.hd_delivery.specs.Frames.{LinkFrame}
use Rattle.hd_delivery.specs.Processes.{processes}
use Rattle.hd_delivery.specs.Bytes.{Bytes}
use Rattle.hd_calls.specs.Hubs.{Hub, Answer, Purpose, ToBegin, ToAnswer, purpose_of}
use Rattle.hd_calls.specs.Peers.{Effect, Brings, Nothing, PeerEvent, Plain, Handles, Rounds, Settings, drawn, takes, waiting, steps}
use Rattle.hd_calls.specs.Rules.{first_from}
use Rattle.hd_server.specs.Machine.{turn_with}
use Rattle.hd_server.specs.Plans.{onto}
use Rattle.hd_server.specs.Plain.{followed, begins_with, reading, newer, lent_all, one_piece, runs_job}
use Rattle.hd_server.specs.Serves.{can_feed, next_piece}
use Rattle.hd_dialing.specs.Events.{Phase, Stands}
use Rattle.hd_dialing.specs.Plans.{Dial, News}
use Rattle.hd_dialing.specs.Plans as news
use Rattle.hd_dialing.specs.Dialing.{moved}
use Rattle.hd_client.specs.declared.order.Order.{Order}
use Rattle.hd_client.specs.Setups.{Setup}
use Rattle.hd_client.specs.Events.{ClientEvent, dialing, settings_of, moves, phase_of, moment, is_over}
use Rattle.hd_client.specs.Plans.{linking, next_line, closing, losses}
use Rattle.hd_client.specs.Turns.{Begin, move_of, news_of, dialed, moving, ticks, telling, seeing, is_withheld}

-- ---- what is taken

abbrev pub answering : Answer → Option ℕ → Effect
answering a None = Nothing
answering a (Some n) = Brings n a false

abbrev pub effect_of : Settings → ℕ → List PeerEvent → Purpose → Effect
effect_of t now h (ToBegin c) = begins_with t now h c
effect_of t now h (ToAnswer i a) = answering a (first_from 1 (drawn h) (λ n. if same_text (t.name n) i then takes n a h else false))
effect_of t now h _ = Nothing

abbrev pub next_taken : Settings → ℕ → List PeerEvent → Option Message → Option PeerEvent
next_taken t now h (Some m) = Some (Handles m (effect_of t now h (purpose_of m)))
next_taken t now h None = reading (processes t.config (steps t h))

abbrev pub taking : ℕ → Settings → ℕ → List PeerEvent → List PeerEvent
taking zero t now h = h
taking (suc n) t now h = followed (taking n t now) (next_taken t now h (waiting h)) h

abbrev pub feeding : ℕ → Settings → ℕ → List ℕ → List PeerEvent → List PeerEvent
feeding zero t now bytes h = h
feeding (suc n) t now bytes h =
    if can_feed t h
    then (let p = next_piece t h bytes in
    let fed = taking 20 t now (Plain (Bytes p) ∷ h) in
    if nat_lt (length p) (length bytes) then feeding n t now (drop (length p) bytes) fed else fed)
    else h

abbrev pub fed_with : Option Settings → News → List ClientEvent → List ClientEvent
fed_with (Some t) (news.Brings bytes) h = moving (newer (moves h) (feeding 10 t (moment h) bytes (moves h))) h
fed_with _ _ h = h

-- ---- a round, and the script

abbrev pub rounding : {Job : Type 0} → ℕ → Hub Job → Settings → ℕ → List PeerEvent → List PeerEvent
rounding zero hub t now h = h
rounding (suc n) hub t now h = followed (rounding n hub t now) (runs_job hub now (turn_with (Some t) h) (Some t) h) h

abbrev pub rounded : {Job : Type 0} → Hub Job → Option Settings → List ClientEvent → List ClientEvent
rounded hub None h = h
rounded hub (Some t) h = moving (newer (moves h) (rounding 20 hub t (moment h) (Rounds ∷ moves h))) h

abbrev pub onto_some : (List ClientEvent → List ClientEvent) → Option (List ClientEvent) → List ClientEvent → List ClientEvent
onto_some go None h = h
onto_some go (Some xs) h = go (onto xs h)

abbrev pub obeying : ℕ → Setup → List Order → List ClientEvent → List ClientEvent
obeying zero s script h = h
obeying (suc n) s script h = onto_some (obeying n s script) (next_line s script h) h

abbrev pub works : {Job : Type 0} → Hub Job → Bool → Setup → List Order → List ClientEvent → List ClientEvent
works hub true s script h = h
works hub false s script h = let x = obeying 20 s script (rounded hub (settings_of s h) h) in onto (closing s script x) x

-- ---- what is said

abbrev pub pieces_on : Setup → Phase → Option Settings → List ClientEvent → List (List LinkFrame)
pieces_on s (Stands lane) (Some t) h = if is_withheld s lane h then [] else one_piece (lent_all 20 t.config (steps t (moves h)))
pieces_on s p t h = []

-- what is answered to so many messages: these answers, and where there are none left that the lane isn't full
abbrev pub answered : ℕ → List Bool → List Bool
answered zero full = []
answered (suc n) [] = false ∷ answered n []
answered (suc n) (one ∷ full) = one ∷ answered n full

-- ---- turns, the first first

-- how a turn begins, and what is free in it
pub record Scene : Type 0 where
  pub begin : Begin
  pub dial : Dial
  pub full : List Bool

abbrev pub turn : {Job : Type 0} → Hub Job → Setup → List Order → Scene → List ClientEvent → List ClientEvent
turn hub s script g h =
    let heard = dialed (newer (dialing h) (moved s.dialing (move_of g.begin g.dial) (dialing h))) h in
    let begun = onto (linking s (moment heard) (news_of g.begin h) heard) heard in
    let fed = fed_with (settings_of s begun) (news_of g.begin h) begun in
    let ticked = onto (ticks s g.begin fed) fed in
    let worked = works hub (is_over s ticked) s script ticked in
    let told = onto (losses s worked) worked in
    let pieces = pieces_on s (phase_of told) (settings_of s told) told in
    onto (seeing (phase_of told) (answered (length pieces) g.full)) (onto (telling s pieces told) told)

abbrev pub run : {Job : Type 0} → Hub Job → Setup → List Order → List Scene → List ClientEvent → List ClientEvent
run hub s script [] h = h
run hub s script (g ∷ gs) h = run hub s script gs (turn hub s script g h)
