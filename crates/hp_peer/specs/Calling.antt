-- What is called, uploaded, cancelled and lost.
use Rattle.std.specs.Prelude.{◌≡◌, ◌⊎◌, ◌<◌, ℕ, suc, true, false, List, [], ◌∷◌, Option, Some, None, length}
use Rattle.hv_value.specs.Tree.{Tree}
use Rattle.hv_value.specs.declared.value.Value.{Value}
use Rattle.hm_message.specs.declared.message.Message.{Message}
use Rattle.hd_delivery.specs.Histories.{sent_messages}
use Rattle.hd_delivery.specs.Sending.{IsRefusedToSend}
use Rattle.hd_delivery.specs.Sending as sending
use Rattle.hd_delivery.specs.Bytes.{sizes_of}
use Rattle.he_end.specs.declared.errors.SendError.{SendError}
use Rattle.he_end.specs.declared.errors.SendError.TheVariants as send
use Rattle.hd_calls.specs.declared.vocabulary.CallKind.{CallKind}
use Rattle.hd_calls.specs.Hubs.{Hub, Invoked, Notify, Answer, Item, End, arguments_in, value_in, message_of}
use Rattle.hd_calls.specs.Ids.{prefix_of}
use Rattle.hd_calls.specs.Peers.{PeerEvent, Calls, Loses, Settings, drawn, live_call, codec, is_shut, steps}
use Rattle.hd_calls.specs.Rules.{CallRefusal, TooManyLive, Spent, Unknown, TooDeep, Unsent, IsRefusedCall, IsRefusedUpload, IsRefusedCancel}
use Rattle.hi_calls.specs.declared.errors.CallError.{CallError}
use Rattle.hi_calls.specs.declared.errors.CallError.TheVariants as table
use Rattle.hi_calls.specs.Numbering.{number_after, call_after}
use Rattle.hi_calls.specs.Calls.{upload_ending}
use Rattle.hp_peer.specs.declared.peer.Peer.{Peer}
use Rattle.hp_peer.specs.declared.errors.AskError.{AskError}
use Rattle.hp_peer.specs.declared.errors.AskError.TheVariants as ask
use Rattle.hp_peer.specs.Stands.{Stands}

-- ---- refusals

-- the end's refusal, if this holds of it; out of memory is told by a variant of its own
abbrev pub IsOfEnd : (CallRefusal → Type 0) → SendError → Type 0
IsOfEnd Why send.Opening = Why (Unsent sending.Opening)
IsOfEnd Why send.Closed = Why (Unsent sending.Closed)
IsOfEnd Why (send.TooLong size) = Why (Unsent (sending.TooLong size))
IsOfEnd Why (send.Full held bytes size) = Why (Unsent (sending.Full held bytes size))
IsOfEnd Why send.Exhausted = Why (Unsent sending.Exhausted)
IsOfEnd Why send.NoMemory = ⊥

-- and that of the table of calls
abbrev pub IsOfTable : (CallRefusal → Type 0) → CallError → Type 0
IsOfTable Why table.TooMany = Why TooManyLive
IsOfTable Why table.Spent = Why Spent
IsOfTable Why table.UnknownId = Why Unknown
IsOfTable Why table.NoMemory = ⊥

-- the refusal has its cause, if this holds of it. Out of memory has none
abbrev pub HasCause : (CallRefusal → Type 0) → AskError → Type 0
HasCause Why (ask.Calls e) = IsOfTable Why e
HasCause Why ask.TooDeep = Why TooDeep
HasCause Why (ask.Send e) = IsOfEnd Why e
HasCause Why ask.NoMemory = Unit {0}

-- ---- calls

-- the next call of this side, as its end sends it
abbrev pub next_call : Settings → List PeerEvent → CallKind → List ℕ → List Tree → ℕ → Invoked
next_call t h kind target arguments uploads = call_after (prefix_of t.config.side) (drawn h) kind target arguments uploads

-- as the other end reads it
abbrev pub heard_call : Settings → List PeerEvent → CallKind → List ℕ → List Tree → ℕ → Invoked
heard_call t h kind target arguments uploads = next_call t h kind target (arguments_in (codec t h) arguments) uploads

-- the user's call was made, with this number
pub record HasCalled {H Job : Type 0} (hub : Hub Job) (t : Settings) (h : List PeerEvent) (new : Peer H Job) (kind : CallKind) (target : List ℕ) (arguments : List Tree) (uploads number : ℕ) : Type 0 where
  pub number_is : number ≡ number_after kind uploads (drawn h)
  pub stands : Stands hub t new (Calls None number (heard_call t h kind target arguments uploads) ∷ h)

-- it wasn't made, for this reason
abbrev pub IsUncalled : Settings → List PeerEvent → CallKind → List ℕ → List Tree → ℕ → AskError → Type 0
IsUncalled t h kind target arguments uploads e = HasCause (IsRefusedCall t h (heard_call t h kind target arguments uploads)) e

-- ---- uploads

-- the end of an upload, with an error or without
abbrev pub upload_end : Option (List ℕ) → Answer
upload_end error = End (upload_ending error)

abbrev pub upload_item : Settings → List PeerEvent → Value → Answer
upload_item t h value = Item (value_in (codec t h) value)

-- nothing was uploaded, for this reason
abbrev pub IsUnuploaded : Settings → List PeerEvent → ℕ → ℕ → Answer → AskError → Type 0
IsUnuploaded t h n w a e = HasCause (IsRefusedUpload t h n w a) e

-- the call wasn't cancelled, for this reason
abbrev pub IsUncancelled : Settings → List PeerEvent → ℕ → AskError → Type 0
IsUncancelled t h n e = HasCause (IsRefusedCancel t h n) e

-- ---- what is spelled for many ends

-- a Notify without uploads
pub record IsNotice (m : Message) (c : Invoked) : Type 0 where
  pub way : c.way ≡ Notify
  pub bare : c.streams ≡ []
  pub is : m ≡ message_of c

-- the call of a message whose arguments the other end reads so
abbrev pub heard : Settings → List PeerEvent → Invoked → Invoked
heard t h c = record c { arguments = arguments_in (codec t h) c.arguments }

-- the notice was sent, with this number of a message
pub record HasNotified {H Job : Type 0} (hub : Hub Job) (t : Settings) (h : List PeerEvent) (new : Peer H Job) (c : Invoked) (number : ℕ) : Type 0 where
  pub number_is : number ≡ suc (length (sent_messages (steps t h)))
  pub stands : Stands hub t new (Calls None 0 (heard t h c) ∷ h)

-- it wasn't, for this reason
abbrev pub IsUnnotified : Settings → List PeerEvent → Invoked → SendError → Type 0
IsUnnotified t h c send.Opening = IsRefusedToSend t.limits (sizes_of t.wire) t.config (steps t h) (message_of (heard t h c)) sending.Opening
IsUnnotified t h c send.Closed = IsRefusedToSend t.limits (sizes_of t.wire) t.config (steps t h) (message_of (heard t h c)) sending.Closed
IsUnnotified t h c (send.TooLong size) = IsRefusedToSend t.limits (sizes_of t.wire) t.config (steps t h) (message_of (heard t h c)) (sending.TooLong size)
IsUnnotified t h c (send.Full held bytes size) = IsRefusedToSend t.limits (sizes_of t.wire) t.config (steps t h) (message_of (heard t h c)) (sending.Full held bytes size)
IsUnnotified t h c send.Exhausted = IsRefusedToSend t.limits (sizes_of t.wire) t.config (steps t h) (message_of (heard t h c)) sending.Exhausted
IsUnnotified t h c send.NoMemory = Unit {0}

-- ---- what is lost

-- the least live call of a closed end is handed out as gone. There is none, or the end isn't closed
abbrev pub Loss : {H Job : Type 0} → Hub Job → Settings → List PeerEvent → Peer H Job → Option ℕ → Type 0
Loss hub t h new None = ((is_shut t h ≡ false) ⊎ ((n : ℕ) → live_call n h ≡ false)) × Stands hub t new h
Loss hub t h new (Some n) = (is_shut t h ≡ true) × (live_call n h ≡ true) × ((k : ℕ) → k < n → live_call k h ≡ false) × Stands hub t new (Loses n ∷ h)
