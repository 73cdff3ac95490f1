-- Worlds of two peers, and what holds in each: every call begins one job, and its caller is given what that job answers.
use Rattle.std.specs.Prelude.{◌≡◌, ℕ, ◌<◌, ◌≤◌, true, false, List, [], ◌∷◌, ◌++◌, length, Option, Some, None, option_map, slice_get}
use Rattle.hm_message.specs.declared.message.Message.{Message}
use Rattle.hm_message.specs.declared.message.Message.TheVariants.{Completion}
use Rattle.hm_message.specs.declared.message.Ending.{Ending}
use Rattle.hd_facts.specs.Prefixes.{IsPrefix}
use Rattle.hd_delivery.specs.declared.vocabulary.Reason.TheVariants as reason
use Rattle.hd_delivery.specs.declared.vocabulary.Side.{Side}
use Rattle.hd_delivery.specs.declared.vocabulary.Side.TheVariants.{Client, Server}
use Rattle.hd_delivery.specs.Histories.{sent_messages, processed_messages}
use Rattle.hd_delivery.specs.Worlds.{Limits, Terms, config, Event, ByClient, ByServer, client_of, server_of}
use Rattle.hd_delivery.specs.Bytes.{Wire, ByteStep, IsFaithful, IsWorldOverBytes, StillOverBytes}
use Rattle.hd_calls.specs.Numbers.{most_live}
use Rattle.hd_calls.specs.Hubs.{Invoked, Answer, Item, End, Purpose, ToBegin, Hub, id_of, is_stream, purpose_of}
use Rattle.hd_calls.specs.Peers.{InUse, TooMany, PeerEvent, Handles, Settings, called, call_of, given, lost, uploaded, waiting, begun, acts, inputs, of_stream, live_job, can_frame, too_long, add, answers, shuts, step_of, byte_steps, steps, codec, is_shut}
use Rattle.hd_calls.specs.Rules.{live_jobs, Follows, IsPrompt}
use Rattle.hd_calls.specs.Ledgers.{IsLegal, KeepsJob, Keeps, EndsAfterClose}

-- ---- worlds

-- how two peers are begun: their ends, each with its own limits, the ids that each draws, and the names under which each knows the other
pub record Pair : Type 0 where
  pub limits : Side → Limits
  pub wire : Wire
  pub terms : Terms
  pub name : Side → ℕ → List ℕ
  pub who : Side → List ℕ

-- how the peer of this side is begun
abbrev pub settings : Side → Pair → Settings
settings side p = record { config = config side p.terms; wire = p.wire; limits = p.limits side; name = p.name side; who = p.who side }

-- each side's ids are its own numbers', and none of the other side's
pub record AreApart (name : Side → ℕ → List ℕ) : Type 0 where
  pub own : (side : Side) (m n : ℕ) → name side m ≡ name side n → m ≡ n
  pub across : (m n : ℕ) → name Client m ≡ name Server n → ⊥

-- the step of the end that a move makes after others
abbrev pub next_step : Settings → List PeerEvent → PeerEvent → Option ByteStep
next_step t h d = step_of t (codec t h) (is_shut t h) d

-- the world of the two ends
abbrev pub ends : Pair → List (Event PeerEvent) → List (Event ByteStep)
ends p [] = []
ends p (ByClient d ∷ w) = add (option_map ByClient (next_step (settings Client p) (client_of w) d)) (ends p w)
ends p (ByServer d ∷ w) = add (option_map ByServer (next_step (settings Server p) (server_of w) d)) (ends p w)

-- two peers over two ends, each of which follows its own rules
pub record IsPeerWorld {C S : Type 0} (hc : Hub C) (hs : Hub S) (p : Pair) (w : List (Event PeerEvent)) : Type 0 where
  pub is_world : IsWorldOverBytes p.limits p.wire p.terms (ends p w)
  pub client_follows : Follows hc (settings Client p) (client_of w)
  pub server_follows : Follows hs (settings Server p) (server_of w)
  pub client_prompt : IsPrompt (client_of w)
  pub server_prompt : IsPrompt (server_of w)

-- ---- what was said and read, by what it is for

abbrev pub purposes : List Message → List Purpose
purposes [] = []
purposes (m ∷ ms) = purpose_of m ∷ purposes ms

-- what the peer's end has sent
abbrev pub said_by : Settings → List PeerEvent → List Purpose
said_by t h = purposes (sent_messages (steps t h))

-- what it has processed
abbrev pub read_by : Settings → List PeerEvent → List Purpose
read_by t h = purposes (processed_messages (steps t h))

-- the calls among them
abbrev pub invoked : List Purpose → List Invoked
invoked [] = []
invoked (ToBegin c ∷ ms) = c ∷ invoked ms
invoked (_ ∷ ms) = invoked ms

-- what waits, as a list
abbrev pub waits : Option Message → List Purpose
waits None = []
waits (Some m) = purpose_of m ∷ []

-- the calls that were handled and began no job
abbrev pub refused : List PeerEvent → List Invoked
refused [] = []
refused (Handles m (InUse c) ∷ h) = refused h ++ c ∷ []
refused (Handles m (TooMany c) ∷ h) = refused h ++ c ∷ []
refused (_ ∷ h) = refused h

-- no call was refused for an id in use; for too many jobs only where the most were live, which closed the end for that reason
abbrev pub Refusals : Settings → List PeerEvent → Type 0
Refusals t [] = Unit {0}
Refusals t (Handles m (InUse c) ∷ h) = ⊥
Refusals t (Handles m (TooMany c) ∷ h) =
    (most_live ≤ live_jobs t h) × (next_step t h (Handles m (TooMany c)) ≡ shuts (is_shut t h) (Some reason.TooMany)) × Refusals t h
Refusals t (_ ∷ h) = Refusals t h

-- the endings among answers
abbrev pub endings : List Answer → List Ending
endings [] = []
endings (Item v ∷ xs) = endings xs
endings (End e ∷ xs) = e ∷ endings xs

-- ---- calls of x at y

-- each call that was processed began one job, in order, but for one at most that waits or that was refused, after which the end is closed
pub record EachBegins (ty : Settings) (x y : List PeerEvent) : Type 0 where
  pub jobs : begun y ++ (refused y ++ invoked (waits (waiting y))) ≡ invoked (read_by ty y)
  pub few : length (refused y ++ invoked (waits (waiting y))) ≤ 1
  pub refusals : Refusals ty y
  pub shut : 0 < length (refused y) → is_shut ty y ≡ true
  pub in_order : IsPrefix (begun y) (called x)

-- this job has the id
pub record IsJobOf (i : List ℕ) (c : Invoked) (y : List PeerEvent) (j : ℕ) : Type 0 where
  pub at : slice_get (begun y) j ≡ Some c
  pub id : id_of c.way ≡ Some i

-- what the caller was given for a call: a first part of what its job answered by the hub's meaning, and nothing without a job
pub record IsAnswered {Job : Type 0} (hub : Hub Job) (ty : Settings) (x y : List PeerEvent) (n : ℕ) (c : Invoked) (i : List ℕ) : Type 0 where
  pub legal : IsLegal (is_stream c.way) (given n x)
  pub of_job : (j : ℕ) (d : Invoked) → IsJobOf i d y j → (d ≡ c) × IsPrefix (given n x) (answers ty (codec ty y) c.way (acts j y))
  pub by_hub : (j : ℕ) → slice_get (begun y) j ≡ Some c → KeepsJob hub ty y j c
  pub without_job : ((j : ℕ) (d : Invoked) → IsJobOf i d y j → ⊥) → given n x ≡ []

-- each call once, with what is uploaded for it and what it is answered
pub record CallsOnce {Job : Type 0} (hub : Hub Job) (ty : Settings) (x y : List PeerEvent) : Type 0 where
  pub begins : EachBegins ty x y
  pub fed : (n w : ℕ) (i : List ℕ) (c : Invoked) → call_of n x ≡ Some c → slice_get c.streams w ≡ Some i
      → (j : ℕ) → slice_get (begun y) j ≡ Some c → IsPrefix (of_stream w (inputs j y)) (uploaded n w x)
  pub answered : (n : ℕ) (c : Invoked) (i : List ℕ) → call_of n x ≡ Some c → id_of c.way ≡ Some i → IsAnswered hub ty x y n c i

-- ---- still worlds

-- nothing is left to say, to read or to do
pub record IsIdle (p : Pair) (w : List (Event PeerEvent)) : Type 0 where
  pub still : StillOverBytes p.wire (config Client p.terms) (config Server p.terms) (byte_steps (settings Client p) (client_of w)) (byte_steps (settings Server p) (server_of w))
  pub client_waits : waiting (client_of w) ≡ None
  pub server_waits : waiting (server_of w) ≡ None
  pub client_jobs : (j : ℕ) → live_job (settings Client p) j (client_of w) ≡ false
  pub server_jobs : (j : ℕ) → live_job (settings Server p) j (server_of w) ≡ false

-- what a call that has ended was given: one ending, and all that its job answered
pub record HasEnded (ty : Settings) (x y : List PeerEvent) (n : ℕ) (c : Invoked) : Type 0 where
  pub once : length (endings (given n x)) ≡ 1
  pub kept : lost n x ≡ false
  pub job : ℕ
  pub at : slice_get (begun y) job ≡ Some c
  pub whole : given n x ≡ answers ty (codec ty y) c.way (acts job y)

-- so it is of each call with an id
abbrev pub AllEnded : Settings → List PeerEvent → List PeerEvent → Type 0
AllEnded ty x y = (n : ℕ) (c : Invoked) (i : List ℕ) → call_of n x ≡ Some c → id_of c.way ≡ Some i → HasEnded ty x y n c

-- the last word for each call of the other side can be sent
abbrev pub HasLastWords : Settings → List PeerEvent → List PeerEvent → Type 0
HasLastWords t h other = (n : ℕ) (c : Invoked) (i : List ℕ) → call_of n other ≡ Some c → id_of c.way ≡ Some i → can_frame t (codec t h) (Completion [] i too_long) ≡ true

-- ---- the theorem

-- calls once, both ways
pub record BothOnce {C S : Type 0} (hc : Hub C) (hs : Hub S) (p : Pair) (w : List (Event PeerEvent)) : Type 0 where
  pub of_client : CallsOnce hs (settings Server p) (client_of w) (server_of w)
  pub of_server : CallsOnce hc (settings Client p) (server_of w) (client_of w)
  pub client_keeps : Keeps hc (settings Client p) (client_of w)
  pub server_keeps : Keeps hs (settings Server p) (server_of w)
  pub client_closes : EndsAfterClose (settings Client p) (client_of w)
  pub server_closes : EndsAfterClose (settings Server p) (server_of w)
  pub client_ended : HasLastWords (settings Server p) (server_of w) (client_of w) → IsIdle p w → AllEnded (settings Server p) (client_of w) (server_of w)
  pub server_ended : HasLastWords (settings Client p) (client_of w) (server_of w) → IsIdle p w → AllEnded (settings Client p) (server_of w) (client_of w)

-- the messages that the two ends sent
abbrev pub all_sent : Pair → List (Event PeerEvent) → List Message
all_sent p w = sent_messages (steps (settings Client p) (client_of w)) ++ sent_messages (steps (settings Server p) (server_of w))

-- so it is in every world of two peers whose ids are apart, over any faithful way to write frames, with any hubs
abbrev pub HoldsInEveryPeerWorld : Type 0 → Type 0 → Type 0
HoldsInEveryPeerWorld C S = (hc : Hub C) (hs : Hub S) (p : Pair) (w : List (Event PeerEvent))
    → AreApart p.name → IsFaithful (p.limits Client) p.wire p.terms.codec p.terms.version (all_sent p w)
    → IsPeerWorld hc hs p w → BothOnce hc hs p w
