-- The lines of what a peer does.
use Rattle.std.specs.Prelude.{◌≡◌, ℕ, List, [], ◌∷◌, ◌++◌, codes, None}
use Rattle.hm_message.specs.declared.message.Message.{Message}
use Rattle.hd_delivery.specs.Bytes.{Bytes, Does}
use Rattle.hd_calls.specs.Hubs.{Item, End, Purpose, ToBegin, ToAnswer, ToCancel, ToNothing, purpose_of, id_of}
use Rattle.hd_calls.specs.Peers.{Effect, Begins, InUse, TooMany, Brings, Feeds, Flood, Marks, Nothing, PeerEvent, Plain, Calls, Uploads, Cancels, Handles, Loses, Settings, steps}
use Rattle.hd_calls.specs.Tables.{job_happenings}
use Rattle.hj_jobs.specs.Calls.{IsTaken}
use Rattle.sr_notation.specs.Words.{line_at}
use Rattle.sr_lines.specs.Lines.{step_text, counted, began_words, item_words, ended_words, gone_words, fed_words, cancelled_words, unknown_words, in_use_words}
use Rattle.sr_peers.specs.Doings.{Doing, Makes, Refuses}

-- the id for which a message is, if it is an answer or a cancellation
abbrev pub id_in : Purpose → List ℕ
id_in (ToBegin c) = []
id_in (ToAnswer i a) = i
id_in (ToCancel i) = i
id_in ToNothing = []

-- what a message did that was handled, in words. The id of a call that began no job is one of it that is taken
abbrev pub TellsEffect : Settings → List PeerEvent → Message → Effect → List ℕ → Type 0
TellsEffect t h m (Begins c now floods) words = words ≡ began_words (id_of c.way) c.target
TellsEffect t h m (InUse c) words = (i : List ℕ) × (IsTaken (job_happenings t h) c i × (words ≡ codes "fault " ++ in_use_words i))
TellsEffect t h m (TooMany c) words = words ≡ codes "fault too-many"
TellsEffect t h m (Brings n (Item v) floods) words = words ≡ item_words n v
TellsEffect t h m (Brings n (End e) floods) words = words ≡ ended_words n e
TellsEffect t h m (Feeds j w a) words = words ≡ fed_words (id_in (purpose_of m))
TellsEffect t h m Flood words = words ≡ codes "fault flood"
TellsEffect t h m (Marks j) words = words ≡ cancelled_words (id_in (purpose_of m))
TellsEffect t h m Nothing words = words ≡ unknown_words (id_in (purpose_of m))

-- the line of a move after others: most have none. A call that a job asks for has none, made or refused
abbrev pub TellsMove : Settings → List PeerEvent → PeerEvent → List ℕ → Type 0
TellsMove t h (Plain (Bytes piece)) text = text ≡ []
TellsMove t h (Plain (Does s)) text = text ≡ step_text t.config.side (steps t h) s
TellsMove t h (Calls None n c) text = text ≡ line_at t.config.side (counted (codes "call") n)
TellsMove t h (Uploads n w (Item v)) text = text ≡ line_at t.config.side (counted (codes "item-sent") n)
TellsMove t h (Uploads n w (End e)) text = text ≡ line_at t.config.side (counted (codes "done") n)
TellsMove t h (Cancels n) text = text ≡ line_at t.config.side (counted (codes "cancel") n)
TellsMove t h (Handles m e) text = (words : List ℕ) × (TellsEffect t h m e words × (text ≡ line_at t.config.side words))
TellsMove t h (Loses n) text = text ≡ line_at t.config.side (gone_words n)
TellsMove t h d text = text ≡ []

-- the line of what a peer did
abbrev pub Tells : Settings → List PeerEvent → Doing → List ℕ → Type 0
Tells t h (Makes d) text = TellsMove t h d text
Tells t h (Refuses words) text = text ≡ line_at t.config.side (codes "refused " ++ words)

-- the lines of these moves, the latest of which comes first, after a history
abbrev pub TellsAll : Settings → List PeerEvent → List PeerEvent → List ℕ → Type 0
TellsAll t h [] text = text ≡ []
TellsAll t h (d ∷ ds) text = (front last : List ℕ) × (TellsAll t h ds front × TellsMove t (ds ++ h) d last × (text ≡ front ++ last))
