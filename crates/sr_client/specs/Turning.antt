-- What the parts of a turn come to, one after the other.
use Rattle.std.specs.Prelude.{◌≡◌, ◌⊎◌, ℕ, Bool, true, false, List, [], ◌∷◌, ◌++◌, length, Option, Some, None, Result, Ok, Err, is_some, IfSome, if◌then◌else◌}
use Rattle.hd_calls.specs.Peers.{PeerEvent, Settings}
use Rattle.hd_delivery.specs.Frames.{LinkFrame}
use Rattle.hw_door.specs.DoorCalls.{DoorAsk, DoorCall, failed, given_in, full_in}
use Rattle.hw_door.specs.declared.error.DoorError.{DoorError}
use Rattle.hd_server.specs.Plans.{onto}
use Rattle.hd_server.specs.Serving.{AreGiving}
use Rattle.hd_dialing.specs.Events.{Phase, Away, Stands, is_up}
use Rattle.hd_dialing.specs.Plans.{News, Nothing, Begins, Brings, Drains, Ends}
use Rattle.hd_client.specs.declared.order.Order.{Order}
use Rattle.hd_client.specs.Setups.{Setup}
use Rattle.hd_client.specs.Events.{ClientEvent, IsDone, IsRefused, outcome, settings_of, moves, phase_of, moment, is_full, is_over, has_closed}
use Rattle.hd_client.specs.Printed.{printed}
use Rattle.hd_client.specs.Plans.{linking, ticking, next_line, losses}
use Rattle.hd_client.specs.Turns.{Begin, HasBegun, IsFed, Works, MayBegin, news_of, ticks, telling, telling_on, AreDueBy, AreDueOn}
use Rattle.hd_client.specs.Telling.{Told, AreCutAt, hearing, given, seen, draws}
use Rattle.sr_client.specs.declared.client.Client.{Client}
use Rattle.sr_client.specs.declared.client.ClientError.{ClientError}
use Rattle.sr_client.specs.declared.client.ClientError.TheVariants as error
use Rattle.sr_client.specs.declared.client.Words.{Words}
use Rattle.sr_client.specs.declared.peer.ClientPeer.{ClientPeer}
use Rattle.sr_client.specs.Clients.{Before, Fits, IsFullBy, Kept, PlaysBy, Tells, Working, is_linked, words_given}
use Rattle.sr_client.specs.Running.{HasTurned}

-- ---- its beginning

-- the turn has begun, of which all is told
pub record HasOpened (s : Setup) (Went : List DoorCall → Told → Type 0) (h : List ClientEvent) : Type 0 where
  pub begin : Begin
  pub may : MayBegin s begin h
  pub begun : List ClientEvent
  pub begins : HasBegun s begin h begun
  pub giving : List DoorCall
  pub are_giving : AreGiving giving
  pub gives : given begun ≡ given h ++ given_in giving
  pub answers : full_in giving ≡ []
  pub sees : seen begun ≡ seen h
  pub drawn : List (Option (List ℕ))
  pub draws_all : draws begun ≡ draws h ++ drawn
  pub went : Went [] (record { calls = hearing s begin h ++ giving; drawn = drawn; printed = [] })

-- what stands before the work of such a turn
abbrev pub before_work : Setup → List ClientEvent → List ClientEvent → Before
before_work s begun h = record { given = given begun; drawn = draws begun; seen = seen h; printed = printed s h }

-- and what came is taken
pub record HasHeard (s : Setup) (c : Client) (w : Words) (Went : List DoorCall → Told → Type 0) (bound now : ℕ) (h : List ClientEvent) : Type 0 where
  pub opened : HasOpened s Went h
  pub fed : List ClientEvent
  pub feeds : IsFed s (news_of opened.begin h) opened.begun fed
  pub ticked : List ClientEvent
  pub has_ticked : ticked ≡ onto (ticks s opened.begin fed) fed
  pub working : Working s (before_work s opened.begun h) c w ticked
  pub fits : Fits bound now ticked

-- by the answer of the call that does it
abbrev pub BeginsBy : Setup → List Order → Client → Words → (List DoorCall → Told → Type 0) → ℕ → ℕ → List ClientEvent → Result Unit ClientError → Type 0
BeginsBy s script c w Went bound now h (Ok done) = HasHeard s c w Went bound now h
BeginsBy s script c w Went bound now h (Err why) = HasTurned s script (λ after. ⊥) Went h (Err why)

-- no word is said or printed
pub record AreNone (w : Words) : Type 0 where
  pub lane : w.lane ≡ None
  pub message : w.message.items ≡ []
  pub shut : w.shut ≡ None
  pub printed : w.printed.items ≡ []

-- its peer stands for its moves, or is to begin before the first
abbrev pub MayStart : Option Settings → Option ClientPeer → List PeerEvent → ℕ → Type 0
MayStart t p h now = PlaysBy t p h now ⊎ ((p ≡ None) × (h ≡ []))

-- the news fits where its end is
abbrev pub FitsNews : Setup → Client → News → List ClientEvent → Type 0
FitsNews s c (Begins lane) h =
    (phase_of h ≡ Stands lane) × (is_full lane h ≡ false) × (is_linked (settings_of s h) (moves h) ≡ false) × (is_some (settings_of s h) ≡ true)
FitsNews s c Ends h = (phase_of h ≡ Away) × (is_linked (settings_of s h) (moves h) ≡ true)
FitsNews s c Drains h = (lane : ℕ) × (phase_of h ≡ Stands lane) × (is_full lane h ≡ false) × (is_linked (settings_of s h) (moves h) ≡ true)
FitsNews s c (Brings bytes) h = IsFullBy (phase_of h) c.full h × (is_linked (settings_of s h) (moves h) ≡ true) × (is_up (phase_of h) ≡ true)
FitsNews s c Nothing h = IsFullBy (phase_of h) c.full h × (is_over s h ≡ false → is_linked (settings_of s h) (moves h) ≡ is_up (phase_of h))

-- it heard, and its end may be told of its link
pub record MayLink (s : Setup) (b : Before) (c : Client) (w : Words) (news : News) (h : List ClientEvent) : Type 0 where
  pub kept : Kept s c h
  pub plays : PlaysBy (settings_of s h) c.peer (moves h) (moment h)
  pub tells : Tells s b w h
  pub unclosed : has_closed s h ≡ false
  pub dropped : w.shut ≡ None
  pub fits : FitsNews s c news h

-- the news was followed: what its end is told, and what came of it, and then its tick
pub record Follows (s : Setup) (b : Before) (c : Client) (w : Words) (news : News) (h : List ClientEvent) : Type 0 where
  pub fed : List ClientEvent
  pub feeds : IsFed s news (onto (linking s (moment h) news h) h) fed
  pub working : Working s b c w (onto (if is_over s fed then [] else ticking (moment h) (settings_of s fed) fed) fed)

-- ---- its work

-- it works on: what it does next is `after`
pub record WorksOn (s : Setup) (b : Before) (c : Client) (w : Words) (Holds : List ClientEvent → Type 0) : Type 0 where
  pub after : List ClientEvent
  pub holds : Holds after
  pub working : Working s b c w after

-- a line was done, or none can be done yet
abbrev pub ObeysBy : Setup → List Order → Before → Client → Words → List ClientEvent → Bool → Type 0
ObeysBy s script b c w h true = (xs : List ClientEvent) × (next_line s script h ≡ Some xs) × Working s b c w (onto xs h)
ObeysBy s script b c w h false = (next_line s script h ≡ None) × Working s b c w h

-- on the lane that is up these are all that is due
abbrev pub AreAllDue : Phase → Option Settings → List (List LinkFrame) → List ClientEvent → Type 0
AreAllDue (Stands lane) (Some t) pieces h = AreDueBy false t pieces h
AreAllDue p t pieces h = pieces ≡ []

-- so many messages
abbrev pub messages_in : Words → ℕ
messages_in w = if is_some w.lane then 1 else 0

-- all that is due is lent, and said in so many messages, on the lane that is up
pub record SaysDue (s : Setup) (b : Before) (c : Client) (w : Words) (h : List ClientEvent) : Type 0 where
  pub pieces : List (List LinkFrame)
  pub due : AreAllDue (phase_of h) (settings_of s h) pieces h
  pub count : length pieces ≡ messages_in w
  pub on : IfSome w.lane (λ lane. phase_of h ≡ Stands lane)
  pub working : Working s b c w (onto (telling_on (phase_of h) (settings_of s h) pieces h) h)

-- what is due is said, unless it is withheld, and a closed end's connection is left
pub record SaysIn (s : Setup) (b : Before) (c : Client) (w : Words) (h : List ClientEvent) : Type 0 where
  pub pieces : List (List LinkFrame)
  pub due : AreDueOn s (phase_of h) (settings_of s h) pieces h
  pub count : length pieces ≡ messages_in w
  pub on : IfSome w.lane (λ lane. phase_of h ≡ Stands lane)
  pub working : Working s b c w (onto (telling s pieces h) h)

-- all the work of a turn
pub record HasDone (s : Setup) (script : List Order) (b : Before) (c : Client) (w : Words) (h : List ClientEvent) : Type 0 where
  pub worked : List ClientEvent
  pub works : Works (is_over s h) s script h worked
  pub told : List ClientEvent
  pub loses : told ≡ onto (losses s worked) worked
  pub says : SaysIn s b c w told

-- ---- its end

-- how a turn ends in which nothing failed
abbrev pub IsAnswer : Setup → List ClientEvent → Result Bool ClientError → Type 0
IsAnswer s h (Ok false) = is_over s h ≡ false
IsAnswer s h (Ok true) = outcome s h ≡ IsDone
IsAnswer s h (Err why) = (why ≡ error.Refused) × (outcome s h ≡ IsRefused)

-- what it saw of the message
abbrev pub SeesBy : Option ℕ → List Bool → Client → Client → Type 0
SeesBy None answers old new = (answers ≡ []) × (new ≡ old)
SeesBy (Some lane) answers old new = (full : Bool) × (answers ≡ full ∷ []) × (new ≡ record old { full = full })

-- all words were given
pub record GivesAll (w : Words) (Goes : List DoorCall → Type 0) (old new : Client) : Type 0 where
  pub calls : List DoorCall
  pub goes : Goes calls
  pub are_giving : AreGiving calls
  pub all : given_in calls ≡ words_given w
  pub sees : SeesBy w.lane (full_in calls) old new

-- or a first part, before the call that failed
pub record GivesPart (w : Words) (Goes : List DoorCall → Type 0) (why : DoorError) : Type 0 where
  pub calls : List DoorCall
  pub ask : DoorAsk
  pub goes : Goes (calls ++ failed ask why ∷ [])
  pub whole : List DoorCall
  pub cut : AreCutAt ask calls whole
  pub are_giving : AreGiving whole
  pub all : given_in whole ≡ words_given w
  pub answers : length (full_in whole) ≡ messages_in w

abbrev pub GivesBy : Words → (List DoorCall → Type 0) → Client → Client → Result Unit DoorError → Type 0
GivesBy w Goes old new (Ok done) = GivesAll w Goes old new
GivesBy w Goes old new (Err why) = GivesPart w Goes why
