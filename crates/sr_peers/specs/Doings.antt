-- What a peer makes of what a script asks of it, move by move. The latest move stands first.
use Rattle.std.specs.Prelude.{◌≡◌, ◌⊎◌, ℕ, ◌<◌, Bool, true, false, not, ◌&&◌, List, [], ◌∷◌, ◌++◌, map, codes, Option, Some, None, is_some, if◌then◌else◌}
use Rattle.hv_value.specs.Tree.{Tree}
use Rattle.hd_delivery.specs.declared.vocabulary.Got.TheVariants as gives
use Rattle.hd_delivery.specs.declared.vocabulary.Reason.TheVariants.{Done}
use Rattle.hd_delivery.specs.Histories.{Attached, Detached, Took, Ticked, Silenced, Closed, present_link, first_link, is_resumable, is_silence}
use Rattle.hd_delivery.specs.Processes.{processes}
use Rattle.hd_delivery.specs.Bytes.{ByteStep, Bytes, Does}
use Rattle.hd_delivery.specs.Following.{FollowUpTo}
use Rattle.hd_delivery.specs.Alone.{writing, feeding}
use Rattle.hd_calls.specs.declared.vocabulary.CallKind.{CallKind}
use Rattle.hd_calls.specs.Hubs.{Answer}
use Rattle.hd_calls.specs.Peers.{Effect, Begins, PeerEvent, Plain, Calls, Uploads, Cancels, Reads, Handles, Loses, Rounds, Settings, drawn, live_call, waiting, byte_steps, steps, is_shut}
use Rattle.hd_calls.specs.Rules.{IsPlain, asking, CallRefusal, IsRefusedCall, IsRefusedUpload, IsRefusedCancel, MayTurn, next_job}
use Rattle.hi_calls.specs.Numbering.{number_after}
use Rattle.hp_peer.specs.Calling.{heard_call}
use Rattle.hp_peer.specs.Turning.{AreTurns}
use Rattle.sr_lines.specs.Lines.{why_words}

-- a peer made a move, or refused its user with these words
pub data Doing : Type 0 where
  Makes : (d : PeerEvent) → Doing
  Refuses : (words : List ℕ) → Doing

-- the moves alone
abbrev pub moves_of : List Doing → List PeerEvent
moves_of [] = []
moves_of (Makes d ∷ ds) = d ∷ moves_of ds
moves_of (Refuses words ∷ ds) = moves_of ds

abbrev pub made : List PeerEvent → List Doing
made ds = map (λ d. Makes d) ds

-- ---- moves that a peer makes by itself

-- which move may come next after others; None: no move does
abbrev pub Next : Type 1
Next = List PeerEvent → Option PeerEvent → Type 0

-- from this history on the peer made these moves, each as one that came next
abbrev pub Chain : Next → List PeerEvent → List PeerEvent → Type 0
Chain next h [] = Unit {0}
Chain next h (d ∷ ds) = Chain next h ds × next (ds ++ h) (Some d)

-- these moves, after which none comes next
abbrev pub WholeChain : Next → List PeerEvent → List PeerEvent → Type 0
WholeChain next h ds = Chain next h ds × next (ds ++ h) None

-- a closed end's live calls are handed out as gone, the least number first
abbrev pub Losing : Settings → Next
Losing t h None = (is_shut t h ≡ false) ⊎ ((n : ℕ) → live_call n h ≡ false)
Losing t h (Some (Loses n)) = (is_shut t h ≡ true) × (live_call n h ≡ true) × ((k : ℕ) → k < n → live_call k h ≡ false)
Losing t h (Some d) = ⊥

-- these moves, and then the calls that are gone, if the end is closed
abbrev pub WithLosses : Settings → List PeerEvent → List PeerEvent → List PeerEvent → Type 0
WithLosses t h ds new = (gone : List PeerEvent) × (WholeChain (Losing t) (ds ++ h) gone × (new ≡ gone ++ ds))

-- a job that begins does so at this moment
abbrev pub BeginsAt : ℕ → Effect → Type 0
BeginsAt now (Begins c since floods) = since ≡ now
BeginsAt now e = Unit {0}

-- the message that waits is handled or, if none waits, the next frame is taken
abbrev pub Taking : Settings → ℕ → Next
Taking t now h None = (waiting h ≡ None) × (processes t.config (steps t h) ≡ None)
Taking t now h (Some (Handles m e)) = (waiting h ≡ Some m) × BeginsAt now e
Taking t now h (Some (Reads m)) = (waiting h ≡ None) × (processes t.config (steps t h) ≡ Some (Took (gives.Message m)))
Taking t now h (Some (Plain (Does s))) = IsPlain h (Does s) × (waiting h ≡ None) × (processes t.config (steps t h) ≡ Some s)
Taking t now h (Some d) = ⊥

-- what of these bytes of its link the end is fed next; a closed one is fed nothing
abbrev pub fed_next : Settings → List ℕ → List PeerEvent → Option ByteStep
fed_next t bytes h = if is_shut t h then None else feeding t.limits t.wire t.config bytes (byte_steps t h) (present_link (steps t h))

-- what comes is taken, and once nothing is left of it the end is fed
abbrev pub Reading : Settings → ℕ → List ℕ → Next
Reading t now bytes h None = Taking t now h None × (fed_next t bytes h ≡ None)
Reading t now bytes h (Some (Plain (Bytes piece))) = Taking t now h None × (fed_next t bytes h ≡ Some (Bytes piece))
Reading t now bytes h (Some d) = Taking t now h (Some d)

-- ---- its link

-- an attach. A closed end refuses it, and so does an end that isn't kept and had a link before
abbrev pub attaching : Settings → List PeerEvent → ℕ → ℕ → Doing
attaching t h link now =
    if is_shut t h then Refuses (codes "Closed")
    else (if is_some (first_link (steps t h)) && not (is_resumable t.config (steps t h)) then Refuses (codes "NotGranted") else Makes (Plain (Does (Attached link now))))

-- whether the link is taken
abbrev pub IsTried : Settings → List PeerEvent → ℕ → ℕ → Bool → Type 0
IsTried t h link now true = attaching t h link now ≡ Makes (Plain (Does (Attached link now)))
IsTried t h link now false = (words : List ℕ) × (attaching t h link now ≡ Refuses words)

-- the loss of a link, if there is one
abbrev pub leaving : Settings → List PeerEvent → ℕ → List PeerEvent
leaving t h now = if is_some (present_link (steps t h)) then Plain (Does (Detached now)) ∷ [] else []

-- a close, of an end that isn't closed
abbrev pub closing : Settings → List PeerEvent → List PeerEvent
closing t h = if is_shut t h then [] else Plain (Does (Closed Done false)) ∷ []

-- a moment, which may be a silence
abbrev pub ticking : Settings → List PeerEvent → ℕ → List PeerEvent
ticking t h now = Plain (Does (if is_silence t.config now (steps t h) then Silenced now else Ticked now)) ∷ []

-- steps of the end alone, as moves
abbrev pub lifted : List ByteStep → List PeerEvent
lifted ss = map (λ s. Plain s) ss

-- so many of the frames that are due are put on the link; None: all of them
abbrev pub Writes : Settings → List PeerEvent → Option ℕ → List PeerEvent → Type 0
Writes t h most ds = (ss : List ByteStep) × (FollowUpTo most (writing t.wire t.config) (byte_steps t h) ss × (ds ≡ lifted ss))

-- the bytes of the link are read up to where these end, of which some were read before
abbrev pub ReadsTo : Settings → List PeerEvent → ℕ → List ℕ → List PeerEvent → Type 0
ReadsTo t h now bytes new = (ds : List PeerEvent) × (WholeChain (Reading t now bytes) h ds × WithLosses t h ds new)

-- ---- its calls and jobs

-- what the user asks for is done by this move, or refused
abbrev pub IsDone : PeerEvent → (CallRefusal → Type 0) → Doing → Type 0
IsDone d Refused did = (did ≡ Makes d) ⊎ ((why : CallRefusal) × (Refused why × (did ≡ Refuses (why_words why))))

-- a call of this kind, with so many uploads
abbrev pub Asks : Settings → List PeerEvent → CallKind → List ℕ → List Tree → ℕ → Doing → Type 0
Asks t h kind target arguments uploads did =
    IsDone (Calls None (number_after kind uploads (drawn h)) (heard_call t h kind target arguments uploads))
    (IsRefusedCall t h (heard_call t h kind target arguments uploads)) did

-- what is uploaded for a call on its stream at this place
abbrev pub Sends : Settings → List PeerEvent → ℕ → ℕ → Answer → Doing → Type 0
Sends t h n w a did = IsDone (Uploads n w a) (IsRefusedUpload t h n w a) did

-- the call is to be ended early
abbrev pub Cancelling : Settings → List PeerEvent → ℕ → Doing → Type 0
Cancelling t h n did = IsDone (Cancels n) (IsRefusedCancel t h n) did

-- a round: each job that is due has one turn, with what becomes of its ask
pub record IsRound (t : Settings) (h : List PeerEvent) (now : ℕ) (ds : List PeerEvent) : Type 0 where
  pub turns : List PeerEvent
  pub are_turns : AreTurns now turns
  pub is : ds ≡ turns ++ Rounds ∷ []
  pub settled : asking (ds ++ h) ≡ None
  pub over : (MayTurn t (ds ++ h) → ⊥) ⊎ (next_job t (ds ++ h) ≡ None)
