-- What one peer keeps, whatever the other side says: the ledgers of its calls, their uploads and its jobs, and what becomes of a call whose
-- end is closed.
use Rattle.std.specs.Prelude.{◌≡◌, ◌⊎◌, ℕ, ◌<◌, Bool, true, false, is_some, ◌==◌, List, [], ◌∷◌, ◌++◌, map, Option, Some, None, slice_get, if◌then◌else◌}
use Rattle.hm_message.specs.declared.message.Message.{Message}
use Rattle.hm_message.specs.declared.message.Ending.{Ending}
use Rattle.hm_message.specs.declared.message.Ending.TheVariants as ending
use Rattle.hd_calls.specs.declared.vocabulary.Input.{Input}
use Rattle.hd_calls.specs.declared.vocabulary.Input.TheVariants as input
use Rattle.hd_calls.specs.declared.vocabulary.Act.{Act}
use Rattle.hd_calls.specs.declared.vocabulary.Act.TheVariants as act
use Rattle.hd_calls.specs.Hubs.{Way, id_of, Invoked, Answer, Item, End, ToAnswer, Turn, Given, Cancelled, Hub, is_stream, purpose_of, upload_input, call_for}
use Rattle.hd_calls.specs.Peers.{Brings, PeerEvent, Calls, Uploads, Cancels, Handles, Runs, Loses, Settings, call_of, has_id, given, lost, has_end, live_call, uploaded, waiting, begun, moments, turns, acts, inputs, answer_of, answers, add, codec, is_shut}
use Rattle.hd_calls.specs.Rules.{is_deed_answer, run, IsDue, IsPeer}

-- ---- answers

-- items for a stream alone, and at most one ending, which is the last
abbrev pub IsLegal : Bool → List Answer → Type 0
IsLegal s [] = Unit {0}
IsLegal s (Item v ∷ xs) = (s ≡ true) × IsLegal s xs
IsLegal s (End e ∷ xs) = xs ≡ []

-- ---- calls

-- what happened to an own call, by its number
pub data CallHappening : Type 0 where
  Called : (number : ℕ) → (call : Invoked) → CallHappening
  Got : (number : ℕ) → (answer : Answer) → CallHappening
  Uploaded : (number which : ℕ) → (answer : Answer) → CallHappening
  Stopped : (number : ℕ) → CallHappening  -- its caller cancelled it
  Gone : (number : ℕ) → CallHappening

-- the ledger of a number: what happened to its call, the first first
abbrev pub ledger : ℕ → List PeerEvent → List CallHappening
ledger n [] = []
ledger n (Calls a k c ∷ h) = if n == k then ledger n h ++ Called k c ∷ [] else ledger n h
ledger n (Handles m (Brings k a floods) ∷ h) = if n == k then ledger n h ++ Got k a ∷ [] else ledger n h
ledger n (Uploads k w a ∷ h) = if n == k then ledger n h ++ Uploaded k w a ∷ [] else ledger n h
ledger n (Cancels k ∷ h) = if n == k then ledger n h ++ Stopped k ∷ [] else ledger n h
ledger n (Loses k ∷ h) = if n == k then ledger n h ++ Gone k ∷ [] else ledger n h
ledger n (_ ∷ h) = ledger n h

-- after a call that was made in this way: items for a stream alone, nothing after its ending, and nothing but uploads without an id
abbrev pub IsLegalRest : Way → List CallHappening → Type 0
IsLegalRest way [] = Unit {0}
IsLegalRest way (Called n c ∷ xs) = ⊥
IsLegalRest way (Got n (Item v) ∷ xs) = (is_stream way ≡ true) × IsLegalRest way xs
IsLegalRest way (Got n (End e) ∷ xs) = (is_some (id_of way) ≡ true) × (xs ≡ [])
IsLegalRest way (Uploaded n w a ∷ xs) = IsLegalRest way xs
IsLegalRest way (Stopped n ∷ xs) = (is_some (id_of way) ≡ true) × IsLegalRest way xs
IsLegalRest way (Gone n ∷ xs) = (is_some (id_of way) ≡ true) × (xs ≡ [])

-- the call comes first, and once
abbrev pub IsLegalLedger : List CallHappening → Type 0
IsLegalLedger [] = Unit {0}
IsLegalLedger (Called n c ∷ xs) = IsLegalRest c.way xs
IsLegalLedger (_ ∷ xs) = ⊥

-- ---- jobs

-- what was sent for a job
abbrev pub sent_for : Settings → ℕ → List PeerEvent → List Answer
sent_for t j [] = []
sent_for t j (Runs k c since turn what ∷ h) = if j == k then sent_for t j h ++ add (answer_of t (codec t h) c.way what) [] else sent_for t j h
sent_for t j (_ ∷ h) = sent_for t j h

-- what a job is given after an act, of the inputs of uploads that are left, and what is left then: after Wait the oldest of these, after an
-- ask how its call ended, after a deed whether that was done, after an ending nothing, else Go
abbrev pub Suits : Option Act → Input → List Input → List Input → Type 0
Suits (Some act.Wait) i left rest = left ≡ i ∷ rest
Suits (Some (act.Ask target arguments)) i left rest = (rest ≡ left) × ((e : Ending) × (i ≡ input.Asked e))
Suits (Some (act.Do deed)) i left rest = (rest ≡ left) × (is_deed_answer i ≡ true)
Suits (Some (act.End e)) i left rest = ⊥
Suits last i left rest = (rest ≡ left) × (i ≡ input.Go)

-- each turn suits the act before it. The mark of a cancelled job is its last turn
abbrev pub IsFeed : Option Act → List Input → List Turn → List Act → Type 0
IsFeed last left [] [] = Unit {0}
IsFeed last left (Given i now ∷ ts) (a ∷ xs) = (rest : List Input) × Suits last i left rest × IsFeed (Some a) rest ts xs
IsFeed last left (Cancelled ∷ ts) (a ∷ xs) = (a ≡ act.End ending.Void) × (ts ≡ []) × (xs ≡ [])
IsFeed last left ts xs = ⊥

-- what a job of this call was given, what it did, and what was sent for it
pub record KeepsJob {Job : Type 0} (hub : Hub Job) (t : Settings) (h : List PeerEvent) (j : ℕ) (c : Invoked) : Type 0 where
  pub legal : IsLegal (is_stream c.way) (sent_for t j h)
  pub answers_acts : sent_for t j h ≡ answers t (codec t h) c.way (acts j h)
  pub is_fed : IsFeed None (map upload_input (inputs j h)) (turns j h) (acts j h)
  pub acts_run : (since : ℕ) → slice_get (moments h) j ≡ Some since → acts j h ≡ run hub (hub.begin_of (call_for t.who c) since) (turns j h)

-- each turn of a job was the one that was due
abbrev pub TurnsWereDue : Settings → List PeerEvent → Type 0
TurnsWereDue t h = (ds k : List PeerEvent) (j : ℕ) (c : Invoked) (since : ℕ) (turn : Turn) (what : Act) → ds ++ Runs j c since turn what ∷ k ≡ h → IsDue t j k turn

-- a peer's ledgers are legal, and a Notify is given nothing. The number 0 is that of each Notify without uploads, so it has no ledger
pub record Keeps {Job : Type 0} (hub : Hub Job) (t : Settings) (h : List PeerEvent) : Type 0 where
  pub of_call : (n : ℕ) → 0 < n → IsLegalLedger (ledger n h)
  pub of_notify : (n : ℕ) → has_id (call_of n h) ≡ false → (given n h ≡ []) × (lost n h ≡ false)
  pub of_upload : (n w : ℕ) → IsLegal true (uploaded n w h)
  pub of_job : (j : ℕ) (c : Invoked) → slice_get (begun h) j ≡ Some c → KeepsJob hub t h j c
  pub of_turns : TurnsWereDue t h
  pub of_no_job : (j : ℕ) → slice_get (begun h) j ≡ None → sent_for t j h ≡ []

-- ---- after a close

-- what became of a call that was live when its end closed, with the history then and now
pub data After (t : Settings) (n : ℕ) (h g : List PeerEvent) : Type 0 where
  Lives : live_call n g ≡ true → After t n h g
  IsGone : lost n g ≡ true → has_end (given n g) ≡ false → After t n h g
  Ends : (e : Ending) (m : Message) → lost n g ≡ false → waiting h ≡ Some m → purpose_of m ≡ ToAnswer (t.name n) (End e)
      → given n g ≡ given n h ++ End e ∷ [] → After t n h g

-- no call is left to hand out
abbrev pub NoneLeft : List PeerEvent → Type 0
NoneLeft g = (n : ℕ) → live_call n g ≡ false

-- a call that was live then has ended since, as gone or with the ending that waited, or is live still; it has ended once none is left
pub record EndsOnce (t : Settings) (n : ℕ) (h g : List PeerEvent) : Type 0 where
  pub after : After t n h g
  pub by_then : NoneLeft g → (lost n g ≡ true) ⊎ (has_end (given n g) ≡ true)

-- so it is of each call that was live when the end was closed
abbrev pub EndsAfterClose : Settings → List PeerEvent → Type 0
EndsAfterClose t g = (ds h : List PeerEvent) → ds ++ h ≡ g → is_shut t h ≡ true → (n : ℕ) → live_call n h ≡ true → EndsOnce t n h g

-- what a peer keeps, by itself
abbrev pub PeersKeep : Type 0 → Type 0
PeersKeep Job = (hub : Hub Job) (t : Settings) (h : List PeerEvent) → IsPeer hub t h → Keeps hub t h × EndsAfterClose t h
