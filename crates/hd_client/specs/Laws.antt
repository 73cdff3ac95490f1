-- What holds of these definitions, in their own words.
use Rattle.std.specs.Prelude.{◌≡◌, ◌+◌, ◌<◌, ◌≤◌, ◌==◌, ℕ, suc, true, false, List, [], ◌∷◌, ◌++◌, length, Option, Some, None, if◌then◌else◌}
use Rattle.hm_message.specs.declared.message.Message.{Message}
use Rattle.hm_message.specs.declared.message.Message.TheVariants.{CancelInvocation}
use Rattle.hm_message.specs.Message.{Fits, is_sequenced}
use Rattle.hd_delivery.specs.declared.vocabulary.Side.{Side}
use Rattle.hd_delivery.specs.declared.vocabulary.Side.TheVariants.{Client}
use Rattle.hd_delivery.specs.Due.{due}
use Rattle.hd_delivery.specs.Histories.{sent_messages}
use Rattle.hd_delivery.specs.Worlds.{Limits, Terms, Event, client_of, MaySend, IsAsRead}
use Rattle.hd_delivery.specs.Bytes.{ByteStep, IsFaithful, IsWorldOverBytes, DeliveryOverBytes, client_in_frames, server_in_frames, sizes_of}
use Rattle.hd_calls.specs.Hubs.{Hub, Answer, End, Invoked, answer_message, message_of}
use Rattle.hd_calls.specs.Peers.{Brings, PeerEvent, Handles, Loses, Settings, byte_steps, live_call, live_upload, steps, codec}
use Rattle.hd_calls.specs.Rules.{CallRefusal, HasPlace, IsRefusedCall, IsRefusedUpload, IsRefusedCancel, IsUnsent, IsPeer}
use Rattle.hw_door.specs.declared.heard.Heard.{Heard}
use Rattle.hw_door.specs.DoorCalls.{given_in, full_in}
use Rattle.hw_door.specs.DoorCalls as door
use Rattle.hd_dialing.specs.Events.{Stands, Over}
use Rattle.hd_dialing.specs.Dialing.{Move, happened, IsDialing}
use Rattle.hd_client.specs.declared.order.Order.{Order}
use Rattle.hd_client.specs.Refusals.{unsent, call_refusal, upload_refusal, cancel_refusal}
use Rattle.hd_client.specs.Setups.{Setup}
use Rattle.hd_client.specs.Events.{ClientEvent, dialing, settings_of, moves, phase_of, is_full, is_over}
use Rattle.hd_client.specs.Printed.{printed}
use Rattle.hd_client.specs.Turns.{Begin, IsTurn, Turns}
use Rattle.hd_client.specs.Telling.{Told, given, seen, draws, heard_in, DialsOn}

-- ---- its connection

-- a client's connection is dialed by the rules of dialing, so the laws of these hold of it
abbrev pub IsDialedSo : Setup → List ClientEvent → Type 0
IsDialedSo s h = (ms : List Move) × (dialing h ≡ happened s.dialing ms) × IsDialing s.dialing ms

abbrev pub ClientsAreDialed : Type 0 → Type 0
ClientsAreDialed Job = (hub : Hub Job) (s : Setup) (script : List Order) (bs : List Begin) (h : List ClientEvent) → Turns hub s script bs h → IsDialedSo s h

-- in every world of which these moves are the client's side, over readers that are faithful to what is sent there, what each of the two
-- processed is a first part of what the other sent, each message once and in order, and all of it once both are still
abbrev pub Delivers : Settings → List PeerEvent → Type 0
Delivers t ds = (limits : Side → Limits) (terms : Terms) (w : List (Event ByteStep)) → client_of w ≡ byte_steps t ds
    → IsFaithful (limits Client) t.wire terms.codec terms.version
    (sent_messages (client_in_frames t.wire terms w) ++ sent_messages (server_in_frames t.wire terms w))
    → IsWorldOverBytes limits t.wire terms w → DeliveryOverBytes t.wire terms w

-- what its peer did is what a peer can do, and it delivers
pub record IsSide {Job : Type 0} (hub : Hub Job) (s : Setup) (h : List ClientEvent) : Type 0 where
  pub peer : (t : Settings) → settings_of s h ≡ Some t → IsPeer hub t (moves h)
  pub delivers : (t : Settings) → settings_of s h ≡ Some t → Delivers t (moves h)

abbrev pub ClientsAreSides : Type 0 → Type 0
ClientsAreSides Job = (hub : Hub Job) (s : Setup) (script : List Order) (bs : List Begin) (h : List ClientEvent) → Turns hub s script bs h → IsSide hub s h

-- ---- its calls

-- how often a call is printed as ended
abbrev pub endings : ℕ → List PeerEvent → ℕ
endings n [] = 0
endings n (Handles m (Brings k (End e) floods) ∷ h) = if n == k then suc (endings n h) else endings n h
endings n (Loses k ∷ h) = if n == k then suc (endings n h) else endings n h
endings n (_ ∷ h) = endings n h

-- each call at most once, whatever was lost and heard
abbrev pub CallsEndOnce : Type 0 → Type 0
CallsEndOnce Job = (hub : Hub Job) (s : Setup) (script : List Order) (bs : List Begin) (h : List ClientEvent) → Turns hub s script bs h
    → (t : Settings) → settings_of s h ≡ Some t → (n : ℕ) → 0 < n → endings n (moves h) ≤ 1

-- ---- what is said

-- after a turn nothing is due on the lane that is up, unless it was full when what is due was said
abbrev pub NothingIsLeft : Type 0 → Type 0
NothingIsLeft Job = (hub : Hub Job) (s : Setup) (script : List Order) (begin : Begin) (h after : List ClientEvent)
    → (turn : IsTurn hub s script begin h after) → (lane : ℕ) (t : Settings) → phase_of after ≡ Stands lane → settings_of s after ≡ Some t
    → is_full lane turn.told ≡ false → due t.config (steps t (moves after)) ≡ None

-- after a turn that ends a client no lane of its connection is up, and it is dialed no more
abbrev pub EndsLeaveNoLane : Type 0 → Type 0
EndsLeaveNoLane Job = (hub : Hub Job) (s : Setup) (script : List Order) (begin : Begin) (h after : List ClientEvent)
    → IsTurn hub s script begin h after → is_over s after ≡ true → phase_of after ≡ Over

-- what was heard in these turns, the latest of which comes first
abbrev pub heard_by : List Begin → List Heard
heard_by [] = []
heard_by (b ∷ bs) = heard_by bs ++ heard_in b

-- so many turns more were done, to this history, and what is told is what they hear, give, see, draw and print
pub record HasDialed {Job : Type 0} (hub : Hub Job) (s : Setup) (script : List Order) (n : ℕ) (bs : List Begin) (h after : List ClientEvent) (told : Told) : Type 0 where
  pub begins : List Begin
  pub count : length begins ≡ n
  pub turns : Turns hub s script (begins ++ bs) after
  pub hears : door.heard_in told.calls ≡ heard_by begins
  pub gives : given after ≡ given h ++ given_in told.calls
  pub answers : seen after ≡ seen h ++ full_in told.calls
  pub draws_more : draws after ≡ draws h ++ told.drawn
  pub prints : printed s after ≡ printed s h ++ told.printed

abbrev pub DialedIsTurns : Type 0 → Type 0
DialedIsTurns Job = (hub : Hub Job) (s : Setup) (script : List Order) (n : ℕ) (bs : List Begin) (h after : List ClientEvent) (told : Told)
    → Turns hub s script bs h → DialsOn hub s script (λ k. k ≡ after) n h told → HasDialed hub s script n bs h after told

-- ---- refusals

-- the reason that is computed is one by the rules of peers and ends, and where none is computed the message may be sent
abbrev pub IsRightRefusal : Settings → List PeerEvent → Message → Option CallRefusal → Type 0
IsRightRefusal t h m (Some why) = IsUnsent t h m why
IsRightRefusal t h m None = Fits m × MaySend t.limits (sizes_of t.wire) t.config (steps t h) m

abbrev pub RefusalsAreRight : Type 0
RefusalsAreRight = (t : Settings) (h : List PeerEvent) (m : Message) → is_sequenced m ≡ true → IsAsRead (codec t h) m
    → IsRightRefusal t h m (unsent t h m)

-- a reason by the rules of peers is the one that is computed, so it is the only one; and what is allowed has none
pub record ReasonsAreComputed (t : Settings) (h : List PeerEvent) : Type 0 where
  pub calls : (c : Invoked) (why : CallRefusal) → IsRefusedCall t h c why → call_refusal t h c ≡ Some why
  pub uploads : (n w : ℕ) (a : Answer) (why : CallRefusal) → IsRefusedUpload t h n w a why → upload_refusal t h n w a ≡ Some why
  pub cancels : (n : ℕ) (why : CallRefusal) → IsRefusedCancel t h n why → cancel_refusal t h n ≡ Some why
  pub calls_made : (c : Invoked) → HasPlace c h → Fits (message_of c) → MaySend t.limits (sizes_of t.wire) t.config (steps t h) (message_of c) → call_refusal t h c ≡ None
  pub uploads_made : (n w : ℕ) (a : Answer) → live_upload n w h ≡ true → Fits (answer_message (t.name (suc (n + w))) a)
      → MaySend t.limits (sizes_of t.wire) t.config (steps t h) (answer_message (t.name (suc (n + w))) a) → upload_refusal t h n w a ≡ None
  pub cancels_made : (n : ℕ) → live_call n h ≡ true → Fits (CancelInvocation [] (t.name n))
      → MaySend t.limits (sizes_of t.wire) t.config (steps t h) (CancelInvocation [] (t.name n)) → cancel_refusal t h n ≡ None

abbrev pub AllReasonsAreComputed : Type 0
AllReasonsAreComputed = (t : Settings) (h : List PeerEvent) → ReasonsAreComputed t h
