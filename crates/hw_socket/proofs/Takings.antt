-- How what a lane does comes to the steps of the protocol.
use Rattle.std.proofs.Common.{◌≡◌, ◌<◌, ◌≤◌, ℕ, Bool, true, false, List, [], ◌∷◌, length, drop, Option, None, Some, Result, Ok, Err, refl, ap, inl, inr, arith, length-drop, ◌∙◌, if◌then◌else◌}
use Rattle.std.specs.Prelude.{option_map, IfSome, IfOk, OnErr}
use Rattle.websocket.specs.declared.error.Error.{Error}
use Rattle.websocket.specs.declared.protocol.context.Step.{Step}
use Rattle.websocket.specs.declared.protocol.state.WebSocketState.{WebSocketState}
use Rattle.websocket.specs.declared.protocol.state.WebSocketState.TheVariants.{Active}
use Rattle.websocket.specs.declared.protocol.frame.coding.OpCode.TheVariants as Op
use Rattle.websocket.specs.declared.protocol.frame.coding.Data.TheVariants.{Text, Binary}
use Rattle.websocket.specs.declared.protocol.frame.codec.FrameStatus.{FrameStatus}
use Rattle.websocket.specs.declared.protocol.frame.codec.FrameStatus.TheVariants.{Partial, Complete}
use Rattle.websocket.specs.Connection.{Connection, Effect, IsDoneSending, read_step, write_step}
use Rattle.websocket.specs.Content.{Content, text, binary, ping, pong, close, received_content, IsWithinLimit}
use Rattle.websocket.specs.View.{Returns, KeepsRest}
use Rattle.websocket.proofs.StreamLemmas.{TookFrame_from_read}
use Rattle.websocket.proofs.EffectLemmas.{IsSoundEffect_from_read}
use Rattle.hw_socket.specs.declared.vocabulary.Ending.{Ending}
use Rattle.hw_socket.specs.declared.vocabulary.Ending.TheVariants.{Answered}
use Rattle.hw_socket.specs.declared.vocabulary.SocketRead.{SocketRead}
use Rattle.hw_socket.specs.declared.vocabulary.SocketRead.TheVariants.{Payload, NotYet, Gone}
use Rattle.hw_socket.specs.declared.vocabulary.TheConstants.{MOST_MESSAGE, MOST_FRAME}
use Rattle.hw_socket.specs.Lane.{Lane, IsSound, limits}
use Rattle.hw_socket.specs.Masks.{Written, after_reply}
use Rattle.hw_socket.specs.Messages.{content, IsSilent, Carries, closes, IsData}
use Rattle.hw_socket.specs.Reading.{LosesHere, Leaves, Finds, after_taking, Steps, Passes, Takes, Shows, IsWithin, ending_after}
use Rattle.websocket.specs.declared.protocol.config.WebSocketConfig.{WebSocketConfig}
use Rattle.hw_socket.proofs.Waiting.{waits_short}
use Rattle.hw_socket.proofs.Effects.{tame}

-- ---- sending

-- a connection that is active sends any message, and stays as it is
pub sends : (conn : Connection) (is_text : Bool) (bytes : List ℕ) → conn.state ≡ Active
    → write_step conn (content is_text bytes) ≡ Ok (record { message = None; reply = Some (record { opcode = Op.Data (if is_text then Text else Binary); payload = bytes }); next = conn })
sends conn true bytes active = rw active refl
sends conn false bytes active = rw active refl

-- ---- one frame

-- the frame that a read found
pub record Found (lane : Lane) (conn : Connection) (unread : List ℕ) (out : Written) (step : Step) : Type 0 where
  pub frame : ℕ × Effect
  pub finds : Finds lane frame
  pub message : option_map (received_content unread) step.message ≡ frame.1.message
  pub conn_is : conn ≡ frame.1.next
  pub out_is : out ≡ after_reply lane.out frame.1.reply
  pub left : drop step.consumed unread ≡ drop frame.0 lane.unread

found_in : (lane : Lane) (conn : Connection) (unread : List ℕ) (out : Written) (step : Step) (r : Result (FrameStatus (ℕ × Effect)) Error) → read_step lane.conn lane.unread ≡ r
    → Returns r unread (Complete step) → Leaves r lane.conn conn lane.out out → KeepsRest (Complete step) lane.unread unread → Found lane conn unread out step
found_in lane conn unread out step (Err e) is returns leaves rest = absurd returns
found_in lane conn unread out step (Ok (Partial n)) is returns leaves rest = absurd (cc returns)
found_in lane conn unread out step (Ok (Complete p)) is returns leaves rest = record {
  frame = p;
  finds = is;
  message = returns.1.0;
  conn_is = leaves.0;
  out_is = leaves.1;
  left = rest.1 ∙ ap (λ n. drop n lane.unread) returns.0;
}

pub found : (lane : Lane) (conn : Connection) (unread : List ℕ) (out : Written) (step : Step) → Returns (read_step lane.conn lane.unread) unread (Complete step)
    → Leaves (read_step lane.conn lane.unread) lane.conn conn lane.out out → KeepsRest (Complete step) lane.unread unread → Found lane conn unread out step
found lane conn unread out step returns leaves rest = found_in lane conn unread out step _ refl returns leaves rest

-- the lane that a found frame leaves
abbrev pub left_by : Connection → List ℕ → Written → Step → Option Ending → Lane
left_by conn unread out step ending = record { conn = conn; unread = drop step.consumed unread; out = out; ending = ending }

took_frame : (lane : Lane) (conn : Connection) (unread : List ℕ) (out : Written) (step : Step) (ending : Option Ending) (f : Found lane conn unread out step)
    → left_by conn unread out step ending ≡ record (after_taking lane f.frame) { ending = ending }
took_frame lane conn unread out step ending f = rw (f.conn_is, f.out_is, f.left) refl

pub shown : (E : Type 0) (lane : Lane) (conn : Connection) (unread : List ℕ) (out : Written) (step : Step) (s : Option SocketRead) → lane.ending ≡ None → Found lane conn unread out step
    → Shows (option_map (received_content unread) step.message) s → Steps lane (left_by conn unread out step (ending_after {E = E} (Ok s))) s
shown E lane conn unread out step None here f shows = (f.frame, f.finds, rw f.message at shows, took_frame lane conn unread out step None f ∙ rw here refl)
shown E lane conn unread out step (Some (Payload bytes)) here f shows = (f.frame, f.finds, rw f.message at shows, took_frame lane conn unread out step None f ∙ rw here refl)
shown E lane conn unread out step (Some NotYet) here f shows = absurd shows
shown E lane conn unread out step (Some Gone) here f shows = inl (f.frame, f.finds, rw f.message at shows, took_frame lane conn unread out step _ f)

side_kept : (w : Written) (reply : _) → (after_reply w reply).side ≡ w.side
side_kept w None = refl
side_kept w (Some frame) = refl

pub silent_stays : (m : Option Content) → IsSilent m → closes m ≡ false
silent_stays None h = refl
silent_stays (Some (text bytes)) h = absurd h
silent_stays (Some (binary bytes)) h = absurd h
silent_stays (Some (ping bytes)) h = refl
silent_stays (Some (pong bytes)) h = refl
silent_stays (Some (close frame)) h = absurd h

pub payload_stays : (m : Option Content) (bytes : List ℕ) → Carries m bytes → closes m ≡ false
payload_stays None bytes h = absurd h
payload_stays (Some (text bs)) bytes h = refl
payload_stays (Some (binary bs)) bytes h = refl
payload_stays (Some (ping bs)) bytes h = absurd h
payload_stays (Some (pong bs)) bytes h = absurd h
payload_stays (Some (close frame)) bytes h = absurd h

-- what an answer shows of its message, also where it was lost
abbrev pub Tells : {E : Type 0} → Option Content → Result (Option SocketRead) E → Type 0
Tells m (Ok s) = Shows m s
Tells m (Err e) = IsData m

stays_open : {E : Type 0} (m : Option Content) (r : Result (Option SocketRead) E) → Tells m r → ending_after r ≡ None → closes m ≡ false
stays_open m (Ok None) tells open_still = silent_stays m tells
stays_open m (Ok (Some (Payload bytes))) tells open_still = payload_stays m bytes tells
stays_open m (Ok (Some NotYet)) tells open_still = absurd tells
stays_open m (Ok (Some Gone)) tells open_still = absurd (cc open_still)
stays_open m (Err e) tells open_still = absurd (cc open_still)

answers_close : {E : Type 0} (m : Option Content) (r : Result (Option SocketRead) E) → Tells m r → ending_after r ≡ Some Answered → closes m ≡ true
answers_close m (Ok None) tells gone = absurd (cc gone)
answers_close m (Ok (Some (Payload bytes))) tells gone = absurd (cc gone)
answers_close m (Ok (Some NotYet)) tells gone = absurd tells
answers_close m (Ok (Some Gone)) tells gone = tells
answers_close m (Err e) tells gone = absurd (cc gone)

pub sound_after : {E : Type 0} (lane : Lane) (conn : Connection) (unread : List ℕ) (out : Written) (step : Step) (r : Result (Option SocketRead) E) → lane.ending ≡ None → IsSound lane.conn lane.out.side lane.ending
    → Found lane conn unread out step → Tells (option_map (received_content unread) step.message) r → IsSound conn out.side (ending_after r)
sound_after lane conn unread out step r here sound f tells =
    let t = tame MOST_MESSAGE lane.conn lane.unread f.frame f.finds in
    record {
      role = rw (f.conn_is, f.out_is, side_kept lane.out f.frame.1.reply) (t.role ∙ sound.role);
      config = rw f.conn_is (t.config ∙ sound.config);
      active = λ still. rw f.conn_is (t.stays (stays_open _ r (rw f.message at tells) still) ∙ sound.active here);
      answered = λ gone. rw (f.conn_is, t.ends (answers_close _ r (rw f.message at tells) gone) (sound.active here)) refl;
      within = rw f.conn_is (t.within (ap (λ (c : _). c.max_message_size) sound.config) sound.within);
    }

pub nothing_lost : (lane : Lane) (conn : Connection) (unread : List ℕ) (out : Written) (step : Step) → Found lane conn unread out step → IsData (option_map (received_content unread) step.message) → out ≡ lane.out
nothing_lost lane conn unread out step f is_data =
    let t = tame MOST_MESSAGE lane.conn lane.unread f.frame f.finds in
    rw (f.out_is, t.quiet (rw f.message at is_data)) refl

payload_fits : (limit : ℕ) (m : Option Content) (bytes : List ℕ) → Carries m bytes → IfSome m (IsWithinLimit (Some limit)) → length bytes ≤ limit
payload_fits limit None bytes h fits = absurd h
payload_fits limit (Some (text bs)) bytes h fits = rw (← h) fits
payload_fits limit (Some (binary bs)) bytes h fits = rw (← h) fits
payload_fits limit (Some (ping bs)) bytes h fits = absurd h
payload_fits limit (Some (pong bs)) bytes h fits = absurd h
payload_fits limit (Some (close frame)) bytes h fits = absurd h

pub within : (lane next : Lane) (s : Option SocketRead) → lane.conn.config ≡ limits → Steps lane next s → IfSome s IsWithin
within lane next None config steps = tt
within lane next (Some (Payload bytes)) config (p, finds, carries, is) =
    let sound = IsSoundEffect_from_read lane.conn lane.unread p finds in
    payload_fits MOST_MESSAGE p.1.message bytes carries (rw config at sound.within_limit)
within lane next (Some NotYet) config steps = tt
within lane next (Some Gone) config steps = tt

-- ---- many frames

-- a silent frame leaves fewer bytes
pub silent_shorter : (lane next : Lane) → Steps lane next None → length next.unread < length lane.unread
silent_shorter lane next (p, finds, silent, is) =
    let took = TookFrame_from_read lane.conn lane.unread p finds in
    rw is (omega (arith, length-drop p.0 lane.unread, took.not_empty, took.inside))

-- one more silent frame was taken
pub passes_silent : (lane mid next : Lane) (ps : List (ℕ × Effect)) → Passes lane ps mid → Steps mid next None → (more : List (ℕ × Effect)) × Passes lane more next
passes_silent lane mid next [] same (p, finds, silent, is) = (p ∷ [], (rw same at finds, silent, rw same at is))
passes_silent lane mid next (q ∷ ps) (finds, silent, passes) step =
    let rest = passes_silent (after_taking lane q) mid next ps passes step in
    (q ∷ rest.0, (finds, silent, rest.1))

pub takes_after : (lane mid next : Lane) (answer : SocketRead) → lane.ending ≡ None → (ps : List (ℕ × Effect)) × Passes lane ps mid → Steps mid next (Some answer) → Takes lane next answer
takes_after lane mid next answer here (ps, passes) steps = inr (here, (ps, mid, passes, steps))

-- ---- what `step` answers, by what it has of the frame

pub tells : {E : Type 0} (m : Option Content) (r : Result (Option SocketRead) E) → IfOk r (Shows m) → OnErr r (IsData m) → Tells m r
tells m (Ok s) shows lost = shows
tells m (Err e) shows lost = lost

pub stepped : {E : Type 0} (lane : Lane) (conn : Connection) (unread : List ℕ) (out : Written) (step : Step) (r : Result (Option SocketRead) E) (ending : Option Ending) → ending ≡ ending_after r → lane.ending ≡ None
    → Found lane conn unread out step → IfOk r (Shows (option_map (received_content unread) step.message)) → IfOk r (Steps lane (left_by conn unread out step ending))
stepped {E = E} lane conn unread out step (Ok s) ending is here f shows = rw is (shown E lane conn unread out step s here f shows)
stepped lane conn unread out step (Err e) ending is here f shows = tt

pub all_within : {E : Type 0} (lane next : Lane) (r : Result (Option SocketRead) E) → lane.conn.config ≡ limits → IfOk r (Steps lane next) → IfOk r (λ s. IfSome s IsWithin)
all_within lane next (Ok s) config steps = within lane next s config steps
all_within lane next (Err e) config steps = tt

data_stays : (m : Option Content) → IsData m → closes m ≡ false
data_stays None h = absurd h
data_stays (Some (text bytes)) h = refl
data_stays (Some (binary bytes)) h = refl
data_stays (Some (ping bytes)) h = absurd h
data_stays (Some (pong bytes)) h = absurd h
data_stays (Some (close frame)) h = absurd h

may_close : (state : WebSocketState) → state ≡ Active → ¬ (IsDoneSending state)
may_close state active is_done = absurd (cc (rw active at is_done))

still_open : (lane : Lane) (conn : Connection) (unread : List ℕ) (out : Written) (step : Step) → lane.conn.state ≡ Active → Found lane conn unread out step → IsData (option_map (received_content unread) step.message) → conn.state ≡ Active
still_open lane conn unread out step active f is_data =
    let t = tame MOST_MESSAGE lane.conn lane.unread f.frame f.finds in
    rw f.conn_is (t.stays (data_stays _ (rw f.message at is_data)) ∙ active)

pub lost : {E : Type 0} (lane : Lane) (conn : Connection) (unread : List ℕ) (out : Written) (step : Step) (r : Result (Option SocketRead) E) (ending : Option Ending) → lane.conn.state ≡ Active → ending ≡ ending_after r
    → Found lane conn unread out step → OnErr r (IsData (option_map (received_content unread) step.message)) → OnErr r (LosesHere lane (left_by conn unread out step ending))
lost lane conn unread out step (Ok s) ending active is f is_data = tt
lost lane conn unread out step (Err e) ending active is f is_data =
    (nothing_lost lane conn unread out step f is_data, is, may_close conn.state (still_open lane conn unread out step active f is_data))

-- a step that gives no answer leaves a lane that isn't gone
pub stays_here : (lane next : Lane) → lane.ending ≡ None → Steps lane next None → next.ending ≡ None
stays_here lane next here (p, finds, silent, is) = rw is here

waited : (r : Result (FrameStatus (ℕ × Effect)) Error) (unread : List ℕ) (n : ℕ) → Returns r unread (Partial n) → r ≡ Ok (Partial n)
waited (Err e) unread n returns = absurd returns
waited (Ok (Partial k)) unread n returns = cc
waited (Ok (Complete p)) unread n returns = absurd returns

pub little_left : (conn : Connection) (old new : List ℕ) (n : ℕ) → conn.config ≡ limits → Returns (read_step conn old) new (Partial n) → length new ≡ length old → length new < MOST_FRAME
little_left conn old new n config returns same =
    rw same (waits_short MOST_MESSAGE conn old n (ap (λ (c : WebSocketConfig). c.max_frame_size) config) (waited _ new n returns))
