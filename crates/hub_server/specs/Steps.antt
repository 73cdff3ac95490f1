-- What a server does at one event, part by part, and what is around it meanwhile: the keeper and the lots.
use Rattle.std.specs.Prelude.{◌≡◌, ℕ, Bool, true, false, List, [], ◌∷◌, ◌++◌, map, Option, Some, None, is_none, option_map}
use Rattle.hd_delivery.specs.Frames.{LinkFrame}
use Rattle.hd_calls.specs.Hubs.{Hub}
use Rattle.hd_rooms.specs.declared.vocabulary.Asked.{Asked}
use Rattle.hd_rooms.specs.Kept.{Content, KeeperDid, CountsFault, CountsFaults}
use Rattle.hw_door.specs.declared.heard.Event.{Event}
use Rattle.hw_door.specs.declared.heard.Event.TheVariants as event
use Rattle.hw_door.specs.declared.heard.Heard.{Heard}
use Rattle.hd_server.specs.declared.vocabulary.Said.{Said}
use Rattle.hd_server.specs.Machine.{MachineEvent, Rounds, IsRound, connections}
use Rattle.hd_server.specs.Lives.{overdue}
use Rattle.hd_server.specs.Doings.{ServerEvent, Works, notes, work, moment, asked, draws, said, name_now, awaits_reply, is_full, wants_shut, was_refused}
use Rattle.hd_server.specs.Plans.{Plan, Setup, expiries, onto, plan, questions}
use Rattle.hd_server.specs.Serves.{AreAllDue, IsDraw, IsFed, IsTurn, all_flushing}
use Rattle.hub_server.specs.declared.server.Server.{Server}
use Rattle.hub_server.specs.Lanes.{IsNobodys, Unsettled, settled}
use Rattle.hub_server.specs.Servers.{IsLeftAlone, IsRested, Standing}

-- ---- what is around

-- what a keeper and lots tell of themselves
pub record Outside : Type 0 where
  pub holds : Option Content
  pub answers : Option (List Asked)
  pub faults : ℕ
  pub drawn : Option (List (Option (List ℕ)))
  pub failures : ℕ

abbrev pub outside : Option Content → Option (List Asked) → ℕ → Option (List (Option (List ℕ))) → ℕ → Outside
outside holds answers faults drawn failures = record { holds = holds; answers = answers; faults = faults; drawn = drawn; failures = failures }

-- the count of failures rises with each draw that fails, and with nothing else
abbrev pub CountsDraws : ℕ → List (Option (List ℕ)) → ℕ → Type 0
CountsDraws before [] now = now ≡ before
CountsDraws before (drawn ∷ more) now = (between : ℕ) × CountsFault (is_none drawn) before between × CountsDraws between more now

-- these follow those in a list that is told, as long as it is
abbrev pub AddsAll : {A : Type 0} → Option (List A) → Option (List A) → List A → Type 0
AddsAll before None xs = Unit {0}
AddsAll None (Some now) xs = ⊥
AddsAll (Some before) (Some now) xs = now ≡ before ++ xs

-- the keeper and the lots were asked what the doings tell, in order, and answered so
pub record OutsideFollows (before now : Outside) (h after : List ServerEvent) : Type 0 where
  pub asks : List Asked
  pub asked_are : asked after ≡ asked h ++ asks
  pub told : now.answers ≡ option_map (λ (known : List Asked). known ++ asks) before.answers
  pub kept : KeeperDid before.holds asks now.holds
  pub counted : CountsFaults before.faults asks now.faults
  pub drew : List (Option (List ℕ))
  pub drawn_are : draws after ≡ draws h ++ drew
  pub drawn_told : AddsAll before.drawn now.drawn drew
  pub failed : CountsDraws before.failures drew now.failures

-- ---- the parts of a turn

-- the lane that is lost at this event
abbrev pub lost_in : Event → Option ℕ
lost_in (event.Lost lane) = Some lane
lost_in _ = None

-- what the moment has ended
abbrev pub expired_by : List ServerEvent → List ServerEvent
expired_by h = onto (expiries (moment h) h) h

-- a plan is carried out
pub record Follows (p : Plan) (h after : List ServerEvent) : Type 0 where
  pub fed : List ServerEvent
  pub feeds : IsFed (moment h) p.food (onto p.first h) fed
  pub is : after ≡ onto p.last fed

-- the event is handled: the keeper and the lots are asked, and its plan is carried out
pub record IsHandled (s : Setup) (e : Event) (h after : List ServerEvent) : Type 0 where
  pub name : Option (Option (List ℕ))
  pub drawn : Option (List ℕ)
  pub of_sixteen : IsDraw drawn
  pub follows : Follows (plan s (moment h) e name drawn (onto (questions s (moment h) e name drawn h) h)) (onto (questions s (moment h) e name drawn h) h) after

-- after the event was handled, nobody is on a lane on which a request could come
pub record Handles {H Job : Type 0} (hub : Hub Job) (s : Setup) (before : List Said) (new : Server H Job) (at since : Outside) (e : Event) (h : List ServerEvent) : Type 0 where
  pub after : List ServerEvent
  pub is_handled : IsHandled s e h after
  pub stands : Standing hub s settled before new after
  pub went : OutsideFollows at since h after

-- nothing is overdue at the moment
abbrev pub NoneOverdue : List ServerEvent → Type 0
NoneOverdue h = overdue (moment h) (notes h) ≡ []

-- a request has just come on this lane, on which nobody is
pub record HasCome (lane : ℕ) (is_last : Bool) (h : List ServerEvent) : Type 0 where
  pub waits : awaits_reply lane h ≡ true
  pub last : is_last ≡ wants_shut lane h
  pub unrefused : was_refused lane h ≡ false
  pub empty : is_full lane h ≡ false
  pub nobody : IsNobodys lane h

abbrev pub CanHandle : Event → List ServerEvent → Type 0
CanHandle (event.Request lane r) h = HasCome lane r.shut h × (name_now h ≡ None)
CanHandle e h = Unit {0}

-- the round after the event, and what it asked of the keeper
pub record HasRounded {H Job : Type 0} (hub : Hub Job) (s : Setup) (u : Unsettled) (before : List Said) (new : Server H Job) (h : List ServerEvent) : Type 0 where
  pub round : List MachineEvent
  pub is_round : IsRound (moment h) round (work h)
  pub stands : Standing hub s u before new (map Works round ++ Works (Rounds (moment h)) ∷ h)
  pub asks : List Asked
  pub asked_are : asked (map Works round ++ Works (Rounds (moment h)) ∷ h) ≡ asked h ++ asks

-- and so the keeper went on
pub record IsRounded {H Job : Type 0} (hub : Hub Job) (s : Setup) (u : Unsettled) (before : List Said) (new : Server H Job)
    (holds : Option Content) (answers : Option (List Asked)) (faults : ℕ) (holds_now : Option Content) (answers_now : Option (List Asked)) (faults_now : ℕ)
    (h : List ServerEvent) : Type 0 where
  pub on : HasRounded hub s u before new h
  pub told : answers_now ≡ option_map (λ (known : List Asked). known ++ on.asks) answers
  pub kept : KeeperDid holds on.asks holds_now
  pub counted : CountsFaults faults on.asks faults_now

-- what is due is said, connection by connection
pub record IsFlushed {H Job : Type 0} (hub : Hub Job) (s : Setup) (before : List Said) (new : Server H Job) (h : List ServerEvent) : Type 0 where
  pub pieces : List (List (List LinkFrame))
  pub all_due : AreAllDue s (connections (work h)) pieces h
  pub stands : Standing hub s settled before new (onto (all_flushing s (moment h) (connections (work h)) pieces h) h)
  pub rested : (c : ℕ) → IsRested c (onto (all_flushing s (moment h) (connections (work h)) pieces h) h)
  pub left_alone : (c : ℕ) → IsLeftAlone new.machine c (onto (all_flushing s (moment h) (connections (work h)) pieces h) h)

-- ---- a whole turn

pub record TurnsTo {H Job : Type 0} (hub : Hub Job) (s : Setup) (before : List Said) (new : Server H Job) (at since : Outside) (e : Heard) (h : List ServerEvent) : Type 0 where
  pub after : List ServerEvent
  pub turn : IsTurn hub s e.now e.event h after
  pub stands : Standing hub s settled before new after
  pub rested : (c : ℕ) → IsRested c after
  pub left_alone : (c : ℕ) → IsLeftAlone new.machine c after
  pub went : OutsideFollows at since h after

-- between events
pub record StandsServer {H Job : Type 0} (hub : Hub Job) (s : Setup) (v : Server H Job) (h : List ServerEvent) : Type 0 where
  pub lives : v.is_ended ≡ false
  pub stands : Standing hub s settled (said h) (record v { words = [] }) h
  pub rested : (c : ℕ) → IsRested c h

-- the server did its turn, said these words, and asked what it tells
pub record HasTurn {H Job : Type 0} (hub : Hub Job) (s : Setup) (new : Server H Job) (at since : Outside) (e : Heard) (h : List ServerEvent) (words : List Said) : Type 0 where
  pub after : List ServerEvent
  pub turn : IsTurn hub s e.now e.event h after
  pub stands : StandsServer hub s new after
  pub left_alone : (c : ℕ) → IsLeftAlone new.machine c after
  pub tells : said after ≡ said h ++ words
  pub went : OutsideFollows at since h after
