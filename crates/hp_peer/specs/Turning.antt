-- Deeds that are answered, and what jobs do at their turns.
use Rattle.std.specs.Prelude.{◌≡◌, ◌⊎◌, ℕ, suc, ◌<◌, ◌≤◌, Bool, true, false, List, [], ◌∷◌, ◌++◌, Option, Some, None, option_map}
use Rattle.hm_message.specs.declared.message.Message.{Message}
use Rattle.hm_codec.specs.Frames.{said_again}
use Rattle.hd_delivery.specs.Histories.{Sent}
use Rattle.hd_delivery.specs.Bytes.{ByteStep, Does}
use Rattle.he_end.specs.Stands as of_end
use Rattle.hj_jobs.specs.declared.live.Stepped.{Stepped}
use Rattle.hj_jobs.specs.Calls as of_jobs
use Rattle.hd_calls.specs.declared.vocabulary.CallKind.{CallKind}
use Rattle.hd_calls.specs.declared.vocabulary.CallKind.TheVariants as kind
use Rattle.hd_calls.specs.declared.vocabulary.Input.{Input}
use Rattle.hd_calls.specs.declared.vocabulary.Act.{Act}
use Rattle.hd_calls.specs.declared.vocabulary.Act.TheVariants as act
use Rattle.hd_calls.specs.declared.vocabulary.Deed.{Deed}
use Rattle.hd_calls.specs.Hubs.{Hub, Invoked, Turn, Given, Cancelled, answer_message}
use Rattle.hd_calls.specs.Peers.{PeerEvent, Calls, Runs, Answers, Refuses, Settings, add, byte_steps, can_frame, codec, last_word}
use Rattle.hd_calls.specs.Rules.{MayAnswer, MayTurn, next_job, passed}
use Rattle.hd_calls.specs.Tables.{job_happenings}
use Rattle.hp_peer.specs.declared.peer.Peer.{Peer}
use Rattle.hp_peer.specs.declared.job_turns.Turned.{Turned}
use Rattle.hp_peer.specs.declared.job_turns.Turned.TheVariants as turned
use Rattle.hp_peer.specs.Stands.{Stands}

-- ---- deeds

-- the deed that the job of this number handed up was answered
pub record HasAnswered {H Job : Type 0} (hub : Hub Job) (t : Settings) (h : List PeerEvent) (new : Peer H Job) (number : ℕ) (i : Input) : Type 0 where
  pub job : ℕ
  pub number_is : number ≡ suc job
  pub stands : Stands hub t new (Answers job i ∷ h)

-- the job of this number handed up no deed that this may answer, or it is answered
abbrev pub IsUnanswerable : Settings → List PeerEvent → ℕ → Input → Type 0
IsUnanswerable t h number i = (j : ℕ) → number ≡ suc j → MayAnswer t j i h → ⊥

-- ---- turns

-- a turn at which a job is told the moment is told this one
abbrev pub IsAt : ℕ → Turn → Type 0
IsAt now Cancelled = Unit {0}
IsAt now (Given i moment) = moment ≡ now

-- whether the act hands up a deed
abbrev pub is_deed : Act → Bool
is_deed (act.Do deed) = true
is_deed _ = false

-- jobs had their turns at this moment, and the calls for which they asked were made or refused. None handed up a deed
abbrev pub AreTurns : ℕ → List PeerEvent → Type 0
AreTurns now [] = Unit {0}
AreTurns now (Runs j c since turn what ∷ ds) = (is_deed what ≡ false) × IsAt now turn × AreTurns now ds
AreTurns now (Calls (Some j) n c ∷ ds) = AreTurns now ds
AreTurns now (Refuses j ∷ ds) = AreTurns now ds
AreTurns now (_ ∷ ds) = ⊥

-- jobs had such turns, and then this holds of all moves
pub record AfterTurns (now : ℕ) (h : List PeerEvent) (Holds : List PeerEvent → Type 0) : Type 0 where
  pub turns : List PeerEvent
  pub are_turns : AreTurns now turns
  pub holds : Holds (turns ++ h)

-- no job has a turn: jobs may not have any, or none is left in the round
pub record HasNoTurn {H Job : Type 0} (hub : Hub Job) (t : Settings) (new : Peer H Job) (h : List PeerEvent) : Type 0 where
  pub stands : Stands hub t new h
  pub rests : (MayTurn t h → ⊥) ⊎ (next_job t h ≡ None)

-- the job of this number had the next turn, and handed up this deed
pub record HasHandedUp {H Job : Type 0} (hub : Hub Job) (t : Settings) (new : Peer H Job) (now number : ℕ) (deed : Deed) (h : List PeerEvent) : Type 0 where
  pub job : ℕ
  pub call : Invoked
  pub since : ℕ
  pub turn : Turn
  pub number_is : number ≡ suc job
  pub at : IsAt now turn
  pub stands : Stands hub t new (Runs job call since turn (act.Do deed) ∷ h)

-- jobs had turns, until one handed up a deed, or until none has a turn
abbrev pub Turns : {H Job : Type 0} → Hub Job → Settings → List PeerEvent → Peer H Job → ℕ → Option (ℕ × Deed) → Type 0
Turns hub t h new now None = AfterTurns now h (HasNoTurn hub t new)
Turns hub t h new now (Some (number, deed)) = AfterTurns now h (HasHandedUp hub t new now number deed)

-- out of memory some jobs had their turns, and no other move was made
abbrev pub TurnsSome : {H Job : Type 0} → Hub Job → Settings → List PeerEvent → Peer H Job → ℕ → Type 0
TurnsSome hub t h new now = AfterTurns now h (λ k. Stands hub t new k)

-- ---- one turn

-- a job had its turn, with what became of its ask, and the round is further on
pub record GoesOn {H Job : Type 0} (hub : Hub Job) (t : Settings) (h : List PeerEvent) (new : Peer H Job) (now : ℕ) : Type 0 where
  pub turns : List PeerEvent
  pub are_turns : AreTurns now turns
  pub further : passed h < passed (turns ++ h)
  pub stands : Stands hub t new (turns ++ h)

-- what the next turn led to
abbrev pub HasTurned : {H Job : Type 0} → Hub Job → Settings → List PeerEvent → Peer H Job → ℕ → Turned → Type 0
HasTurned hub t h new now turned.Nobody = HasNoTurn hub t new h
HasTurned hub t h new now turned.Had = GoesOn hub t h new now
HasTurned hub t h new now (turned.HandedUp number deed) = HasHandedUp hub t new now number deed h

-- what became of a turn that is carried out
abbrev pub turned_with : ℕ → Act → Turned
turned_with job (act.Do deed) = turned.HandedUp job deed
turned_with job _ = turned.Had

-- ---- halves of a turn

-- the peer stands for these moves, and its next job had the first half of its turn
pub record IsPrepared {H Job : Type 0} (hub : Hub Job) (t : Settings) (peer : Peer H Job) (h : List PeerEvent) (now : ℕ) (s : Stepped) : Type 0 where
  pub stands : Stands hub t peer h
  pub may : MayTurn t h
  pub was_prepared : of_jobs.HasPrepared hub peer.jobs t.who (job_happenings t h) now s

-- of all moments, settings and moves for which the peer is halfway in this turn
abbrev pub OfEachHalf : {H Job : Type 0} → Hub Job → Peer H Job → Stepped → (ℕ → Settings → List PeerEvent → Type 0) → Type 0
OfEachHalf hub peer s Holds = (now : ℕ) (t : Settings) (h : List PeerEvent) → IsPrepared hub t peer h now s → Holds now t h

-- whether the move, if there is one, is what may become of the job's act beside its turn: an ask's call, or its refusal
abbrev pub IsOfAsk : ℕ → Act → Option PeerEvent → Type 0
IsOfAsk job (act.Ask target arguments) (Some (Calls (Some j) n c)) = j ≡ job
IsOfAsk job (act.Ask target arguments) (Some (Refuses j)) = j ≡ job
IsOfAsk job what None = Unit {0}
IsOfAsk job what (Some d) = ⊥

-- the job had its turn, at which it did what the first half says, with what became of its ask
pub record IsCarriedOut {H Job : Type 0} (hub : Hub Job) (t : Settings) (h : List PeerEvent) (new : Peer H Job) (now : ℕ) (s : Stepped) : Type 0 where
  pub job : ℕ
  pub call : Invoked
  pub since : ℕ
  pub turn : Turn
  pub number_is : s.job ≡ suc job
  pub at : IsAt now turn
  pub next : passed h ≤ job
  pub asked : Option PeerEvent
  pub is_of_ask : IsOfAsk job s.act asked
  pub stands : Stands hub t new (add asked (Runs job call since turn s.act ∷ h))

-- ---- what is said for a job

-- the id of a call of this kind, if it is a Stream
abbrev pub stream_id : CallKind → Option (List ℕ) → Option (List ℕ)
stream_id kind.Notify id = None
stream_id kind.Call id = None
stream_id kind.Stream id = id

-- the message, as the other end reads it, can be framed and is sent; or it can't, and the end is as it was
abbrev pub IsSaid : {H Job : Type 0} → Settings → List PeerEvent → Peer H Job → Message → Bool → Type 0
IsSaid t h new m true =
    (can_frame t (codec t h) (said_again (codec t h) m) ≡ true) × of_end.Stands t.wire t.config new.end (Does (Sent (said_again (codec t h) m)) ∷ byte_steps t h)
IsSaid t h new m false = (can_frame t (codec t h) (said_again (codec t h) m) ≡ false) × of_end.Stands t.wire t.config new.end (byte_steps t h)

-- the last word on the call of this id as a step of the end, if it can be said
abbrev pub word_step : Settings → List PeerEvent → List ℕ → Option ByteStep
word_step t h i = option_map (λ m. Does (Sent m)) (option_map (answer_message i) (last_word t (codec t h) i))

-- the answer is sent; or it can't be framed, and the last word is said in its place
abbrev pub IsAnswered : {H Job : Type 0} → Settings → List PeerEvent → Peer H Job → List ℕ → Message → Bool → Type 0
IsAnswered t h new i m true = IsSaid t h new m true
IsAnswered t h new i m false =
    (can_frame t (codec t h) (said_again (codec t h) m) ≡ false) × of_end.Stands t.wire t.config new.end (add (word_step t h i) (byte_steps t h))
