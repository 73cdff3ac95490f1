-- What `take` does: it handles the message that waits or, if none does, reads the next frame, and handles it if it is a message.
use Rattle.std.specs.Prelude.{◌≡◌, ◌⊎◌, ℕ, suc, Bool, true, false, nat_lt, List, ◌∷◌, length, Option, Some, None}
use Rattle.hm_message.specs.declared.message.Message.{Message}
use Rattle.hd_delivery.specs.declared.vocabulary.Got.TheVariants as gives
use Rattle.hd_delivery.specs.declared.vocabulary.Reason.TheVariants as reason
use Rattle.hd_delivery.specs.Histories.{Closed, EndEvent, Took, Failed, Fault, is_closed}
use Rattle.hd_delivery.specs.Processes.{processes}
use Rattle.hd_delivery.specs.Bytes.{Does, in_frames}
use Rattle.he_end.specs.declared.end.End.{End as ByteEnd}
use Rattle.he_end.specs.declared.errors.NextError.{NextError}
use Rattle.he_end.specs.declared.errors.NextError.TheVariants as next
use Rattle.he_end.specs.Calls as of_end
use Rattle.he_end.specs.Calls.{fault_of}
use Rattle.he_end.specs.Stands as end_stands
use Rattle.hd_calls.specs.declared.vocabulary.Call as as_given
use Rattle.hd_calls.specs.Numbers.{most_weight}
use Rattle.hd_calls.specs.Hubs.{Hub, Invoked, Answer, Item, End, Purpose, ToBegin, ToAnswer, ToCancel, ToNothing, call_for, id_of, purpose_of}
use Rattle.hd_calls.specs.Peers.{Effect, Begins, InUse, TooMany, Brings, Feeds, Flood, Marks, Nothing, PeerEvent, Plain, Reads, Handles, Settings, begun, waiting, steps}
use Rattle.hd_calls.specs.Rules.{IsStrange}
use Rattle.hd_calls.specs.Tables.{JobHappening, job_happenings, kept_weight_in}
use Rattle.hj_jobs.specs.declared.jobs.Jobs.{Jobs}
use Rattle.hj_jobs.specs.Calls as of_jobs
use Rattle.hj_jobs.specs.Calls.{IsTaken}
use Rattle.hp_peer.specs.declared.did.Did.{Did}
use Rattle.hp_peer.specs.declared.did.Did.TheVariants as did
use Rattle.hp_peer.specs.declared.errors.PeerError.{PeerError}
use Rattle.hp_peer.specs.declared.errors.PeerError.TheVariants as error
use Rattle.hp_peer.specs.declared.peer.Peer.{Peer}
use Rattle.hp_peer.specs.Stands.{OfEach, Stands}

-- ---- what is told

-- what came is for this id
abbrev pub IsFor : Purpose → List ℕ → Type 0
IsFor (ToBegin c) id = ⊥
IsFor (ToAnswer i a) id = id ≡ i
IsFor (ToCancel i) id = id ≡ i
IsFor ToNothing id = ⊥

-- a job has begun at this moment, which is told with its number
pub record IsBegun (h : List PeerEvent) (c : Invoked) (since now job : ℕ) (id : Option (List ℕ)) (target : List ℕ) : Type 0 where
  pub moment : since ≡ now
  pub next : job ≡ suc (length (begun h))
  pub id_is : id ≡ id_of c.way
  pub target_is : target ≡ c.target

-- what a message did that was handled after these moves, at a moment, is told so
abbrev pub IsToldAs : List PeerEvent → ℕ → Message → Effect → Did → Type 0
IsToldAs h now m (Begins c since floods) (did.Began job id target arguments) = IsBegun h c since now job id target × (arguments ≡ c.arguments)
IsToldAs h now m (Brings n (Item v) floods) (did.Item call value) = (call ≡ n) × (value ≡ v)
IsToldAs h now m (Brings n (End e) floods) (did.Ended call ending) = (call ≡ n) × (ending ≡ e)
IsToldAs h now m (Feeds j w a) (did.Fed id) = IsFor (purpose_of m) id
IsToldAs h now m (Marks j) (did.Cancelled id) = IsFor (purpose_of m) id
IsToldAs h now m Nothing (did.Unknown id) = IsFor (purpose_of m) id
IsToldAs h now m e d = ⊥

-- ---- what was handled

-- the next frame makes this step of the end
abbrev pub IsNext : Settings → List PeerEvent → EndEvent → Type 0
IsNext t h s = processes t.config (steps t h) ≡ Some s

-- of the message that waits or, if none does, of the next frame's: what came, with the moves up to its being read
abbrev pub OfNext : Settings → List PeerEvent → Option Message → (Message → List PeerEvent → Type 0) → Type 0
OfNext t h (Some m) Holds = Holds m h
OfNext t h None Holds = (m : Message) × IsNext t h (Took (gives.Message m)) × Holds m (Reads m ∷ h)

-- the message was handled, and this is told of it
pub record HasHandled {H Job : Type 0} (hub : Hub Job) (t : Settings) (new : Peer H Job) (now : ℕ) (told : Did) (m : Message) (h : List PeerEvent) : Type 0 where
  pub effect : Effect
  pub told_as : IsToldAs h now m effect told
  pub stands : Stands hub t new (Handles m effect ∷ h)

-- no message waits, and the end took this
abbrev pub HasRead : {H Job : Type 0} → Hub Job → Settings → List PeerEvent → Peer H Job → EndEvent → Type 0
HasRead hub t h new s = (waiting h ≡ None) × IsNext t h s × Stands hub t new (Plain (Does s) ∷ h)

-- what was taken
abbrev pub Takes : {H Job : Type 0} → Hub Job → Settings → List PeerEvent → Peer H Job → ℕ → Option Did → Type 0
Takes hub t h new now None = (waiting h ≡ None) × (processes t.config (steps t h) ≡ None) × Stands hub t new h
Takes hub t h new now (Some (did.Other got)) = HasRead hub t h new (Took got)
Takes hub t h new now (Some told) = OfNext t h (waiting h) (HasHandled hub t new now told)

-- ---- what was refused

-- the call began no job, since this id of it is in use
pub record HasClashed {H Job : Type 0} (hub : Hub Job) (t : Settings) (new : Peer H Job) (id : List ℕ) (m : Message) (h : List PeerEvent) : Type 0 where
  pub call : Invoked
  pub taken : IsTaken (job_happenings t h) call id
  pub stands : Stands hub t new (Handles m (InUse call) ∷ h)

-- the call began no job, since too many are live
pub record IsOneTooMany {H Job : Type 0} (hub : Hub Job) (t : Settings) (new : Peer H Job) (m : Message) (h : List PeerEvent) : Type 0 where
  pub call : Invoked
  pub stands : Stands hub t new (Handles m (TooMany call) ∷ h)

-- the message wasn't handled for this reason: the end is closed, or memory is out, and the message waits
abbrev pub IsUnhandled : {H Job : Type 0} → Hub Job → Settings → Peer H Job → PeerError → Message → List PeerEvent → Type 0
IsUnhandled hub t new (error.Next e) m h = ⊥
IsUnhandled hub t new (error.InUse id) m h = HasClashed hub t new id m h
IsUnhandled hub t new error.TooMany m h = IsOneTooMany hub t new m h
IsUnhandled hub t new error.Flood m h = Stands hub t new (Handles m Flood ∷ h)
IsUnhandled hub t new error.NoMemory m h = Stands hub t new h

-- nothing was taken, for this reason. Out of memory nothing has changed, or a message was read that waits now
abbrev pub IsUntaken : {H Job : Type 0} → Hub Job → Settings → List PeerEvent → Peer H Job → PeerError → Type 0
IsUntaken hub t h new (error.Next e) = (fault : Fault) × (fault_of t.config e ≡ Some fault) × HasRead hub t h new (Failed fault)
IsUntaken hub t h new error.NoMemory = Stands hub t new h ⊎ OfNext t h (waiting h) (λ m k. Stands hub t new k)
IsUntaken hub t h new e = OfNext t h (waiting h) (IsUnhandled hub t new e)

-- ---- the parts of a take

-- the end's refusal, as it is told; out of memory is told by a variant of its own
abbrev pub of_next : NextError → PeerError
of_next next.NoMemory = error.NoMemory
of_next (next.Frame link at why) = error.Next (next.Frame link at why)
of_next (next.Shake e) = error.Next (next.Shake e)
of_next (next.Gap got most) = error.Next (next.Gap got most)
of_next (next.AckBeyond got most) = error.Next (next.AckBeyond got most)

-- the call that a message makes, as a hub is given it
abbrev pub call_to_begin : List ℕ → Purpose → Option as_given.Call
call_to_begin who (ToBegin c) = Some (call_for who c)
call_to_begin who _ = None

-- the peer at which this message waits
abbrev pub holding : {H Job : Type 0} → Peer H Job → Message → Peer H Job
holding peer m = record peer { waiting = Some m }

-- the message, which waited, was handled, and this is told of it
abbrev pub HandlesAs : {H Job : Type 0} → Hub Job → Peer H Job → Peer H Job → ℕ → Message → Did → Type 0
HandlesAs hub old new now m told = OfEach hub (holding old m) (λ t h. HasHandled hub t new now told m h)

-- it wasn't handled for this reason
abbrev pub Unhandles : {H Job : Type 0} → Hub Job → Peer H Job → Peer H Job → Message → PeerError → Type 0
Unhandles hub old new m e = OfEach hub (holding old m) (λ t h. IsUnhandled hub t new e m h)

-- the same of an answer that no own call takes
abbrev pub FeedsAs : {H Job : Type 0} → Hub Job → Peer H Job → Peer H Job → Message → List ℕ → Answer → Did → Type 0
FeedsAs hub old new m i a told = OfEach hub (holding old m) (λ t h. IsStrange t h i a → (now : ℕ) → HasHandled hub t new now told m h)

abbrev pub Unfeeds : {H Job : Type 0} → Hub Job → Peer H Job → Peer H Job → Message → List ℕ → Answer → PeerError → Type 0
Unfeeds hub old new m i a e = OfEach hub (holding old m) (λ t h. IsStrange t h i a → IsUnhandled hub t new e m h)

-- ---- what jobs keep

-- whether what the jobs keep is more than they may
abbrev pub is_heavy_in : List JobHappening → Bool
is_heavy_in h = nat_lt most_weight (kept_weight_in h)

-- the end is closed for a flood if it floods. One that is closed stays as it is
abbrev pub ClosesIf : Bool → ByteEnd → ByteEnd → Type 0
ClosesIf false old new = new ≡ old
ClosesIf true old new = of_end.OfEach old (λ wire c h.
    (is_closed c (in_frames wire c h) ≡ false → end_stands.Stands wire c new (Does (Closed reason.Flood false) ∷ h)) × (is_closed c (in_frames wire c h) ≡ true → new ≡ old))

-- it floods if these jobs keep more than they may
abbrev pub ClosesIfHeavy : {H Job : Type 0} → Hub Job → Jobs H Job → ByteEnd → ByteEnd → Type 0
ClosesIfHeavy hub jobs old new = of_jobs.OfEach hub jobs (λ who h. ClosesIf (is_heavy_in h) old new)
