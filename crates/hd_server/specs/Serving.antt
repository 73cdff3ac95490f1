-- What a server does that hears through a door: how long it lets the door wait, and what it gives it to say.
use Rattle.std.specs.Prelude.{◌≡◌, ◌⊎◌, ◌≤◌, ℕ, Bool, true, false, not, nat_le, List, [], ◌∷◌, ◌++◌, map, is_some, if◌then◌else◌}
use Rattle.std.specs.List.{list_all}
use Rattle.hd_facts.specs.Prefixes.{IsPrefix}
use Rattle.hd_calls.specs.Hubs.{Hub}
use Rattle.hw_door.specs.declared.heard.Given.{Given}
use Rattle.hw_door.specs.declared.heard.Heard.{Heard}
use Rattle.hw_door.specs.declared.error.DoorError.{DoorError}
use Rattle.hw_door.specs.DoorCalls.{DoorAsk, DoorCall, failed, flushed, given, heard, sent, to_hear, to_say, full_in, given_in, is_giving}
use Rattle.hd_server.specs.declared.vocabulary.Said.{Said}
use Rattle.hd_server.specs.Numbers.{most_wait}
use Rattle.hd_server.specs.Machine.{first_turn}
use Rattle.hd_server.specs.Doings.{ServerEvent, work, moment, said}
use Rattle.hd_server.specs.Plans.{Setup}
use Rattle.hd_server.specs.Serves.{IsTurn, IsFree, IsSeen, given_as}

-- no job would have a turn in a round that begins now
abbrev pub is_idle : List ServerEvent → Bool
is_idle h = not (is_some (first_turn (moment h) (work h)))

-- for how long a server lets its door wait
abbrev pub wait_for : List ServerEvent → ℕ
wait_for h = if is_idle h then most_wait else 0

-- an event is answered: its turn, and what is given for all that is said in it, in order
pub record IsAnswered {Job : Type 0} (hub : Hub Job) (s : Setup) (h : List ServerEvent) (e : Heard) (after : List ServerEvent) (given : List Given) : Type 0 where
  pub turn : IsTurn hub s e.now e.event h after
  pub new : List Said
  pub tells : said after ≡ said h ++ new
  pub gives : given ≡ map given_as new

-- in each of these calls a door was given something, and took it
abbrev pub AreGiving : List DoorCall → Type 0
AreGiving calls = list_all is_giving calls ≡ true

-- the first of these calls give the answer whole, and `Next` holds of the history after it, and of the calls after those
abbrev pub IsGivenWhole : {Job : Type 0} → Hub Job → Setup → List ServerEvent → Heard → List DoorCall
    → (List ServerEvent → List DoorCall → Type 0) → Type 0
IsGivenWhole hub s h e calls Next =
    (turned after : List ServerEvent) × (own rest : List DoorCall) × (calls ≡ own ++ rest) × AreGiving own
    × IsAnswered hub s h e turned (given_in own) × IsSeen (given_in own) (full_in own) turned after × Next after rest

-- how serving ends: the last answer is given whole; the call of a door that asks this fails; or memory runs out in the server's own step
pub data ServeEnd : Type 0 where
  all_answered : ServeEnd
  at_door : DoorAsk → DoorError → ServeEnd
  in_step : ServeEnd

-- the call that failed
abbrev pub failed_call : ServeEnd → List DoorCall
failed_call all_answered = []
failed_call (at_door ask why) = failed ask why ∷ []
failed_call in_step = []

-- an answer is cut short
abbrev pub is_cut : ServeEnd → Bool
is_cut all_answered = false
is_cut (at_door (to_hear wait) why) = false
is_cut (at_door (to_say next) why) = true
is_cut in_step = true

-- it ends between events: the next one isn't heard, if one is to be
abbrev pub EndsBetween : ServeEnd → List ServerEvent → Type 0
EndsBetween all_answered h = Unit {0}
EndsBetween (at_door (to_hear wait) why) h = wait ≡ wait_for h
EndsBetween (at_door (to_say next) why) h = ⊥
EndsBetween in_step h = ⊥

-- it ends within an event: the door doesn't take this of the answer, of which it took a first part, and `AtEnd` holds of the history after; or
-- memory runs out before anything is given, and `Ended` holds of the history before
abbrev pub IsCutShort : {Job : Type 0} → Hub Job → Setup → ServeEnd → (List ServerEvent → Type 0) → (List ServerEvent → Type 0)
    → List ServerEvent → Heard → List DoorCall → Type 0
IsCutShort hub s (at_door (to_say next) why) AtEnd Ended h e calls =
    (turned after : List ServerEvent) × (whole : List Given) × IsAnswered hub s h e turned whole × AreGiving calls
    × IsPrefix (given_in calls ++ next ∷ []) whole × IsSeen (given_in calls) (full_in calls) turned after × AtEnd after
IsCutShort hub s in_step AtEnd Ended h e calls = (calls ≡ []) × Ended h
IsCutShort hub s (at_door (to_hear wait) why) AtEnd Ended h e calls = ⊥
IsCutShort hub s all_answered AtEnd Ended h e calls = ⊥

-- From a history on a door was called so, and these were heard by it: each after its wait, and answered whole before the next was heard, until serving
-- ended so; and `AtEnd` holds of the history then, or `Ended` of that before the event. Of what follows a request that may not come this tells nothing
abbrev pub ServesOn : {Job : Type 0} → Hub Job → Setup → ServeEnd → (List ServerEvent → Type 0) → (List ServerEvent → Type 0)
    → List ServerEvent → List Heard → List DoorCall → Type 0
ServesOn hub s end AtEnd Ended h [] calls = (calls ≡ []) × EndsBetween end h × AtEnd h
ServesOn hub s end AtEnd Ended h (e ∷ es) calls =
    (more : List DoorCall) × (calls ≡ heard (wait_for h) e ∷ more) × (moment h ≤ e.now) × (IsFree e.event h →
    IsGivenWhole hub s h e more (λ after rest. ServesOn hub s end AtEnd Ended after es rest)
    ⊎ ((es ≡ []) × IsCutShort hub s end AtEnd Ended h e more))

-- ---- whatever the server stands for

-- a call of a door that hears, after no longer a wait than the longest, or that is given something
abbrev pub is_serving : DoorCall → Bool
is_serving (heard wait e) = nat_le wait most_wait
is_serving (given what is_said) = true
is_serving (sent what is_said full) = true
is_serving flushed = false
is_serving (failed ask why) = false

-- the first call hears
abbrev pub HearsFirst : List DoorCall → Type 0
HearsFirst [] = Unit {0}
HearsFirst (heard wait e ∷ calls) = Unit {0}
HearsFirst (given what is_said ∷ calls) = ⊥
HearsFirst (sent what is_said full ∷ calls) = ⊥
HearsFirst (flushed ∷ calls) = ⊥
HearsFirst (failed ask why ∷ calls) = ⊥

-- so serving ends with the last call: where memory ran out in the server's step, nothing is given for what was heard last
abbrev pub EndsInTurn : ServeEnd → List DoorCall → Type 0
EndsInTurn all_answered calls = Unit {0}
EndsInTurn (at_door (to_hear wait) why) calls = nat_le wait most_wait ≡ true
EndsInTurn (at_door (to_say next) why) calls = Unit {0}
EndsInTurn in_step calls = (before : List DoorCall) × (wait : ℕ) × (e : Heard) × (calls ≡ before ++ heard wait e ∷ [])

-- the calls come in turns, each of which hears and then gives; and none of them failed
pub record ComeInTurns (end : ServeEnd) (calls : List DoorCall) : Type 0 where
  pub serving : list_all is_serving calls ≡ true
  pub first : HearsFirst calls
  pub last : EndsInTurn end calls
