-- What a peer did over its end, move by move, and what is read off that: the steps of its end, its own calls, and the jobs of the other
-- side's calls.
-- This project's own rules: what is sent where an answer is too long or too deep, which effects close the end, and how an ask is answered.
use Rattle.std.specs.Prelude.{ℕ, suc, ◌+◌, max, Bool, true, false, not, ◌&&◌, ◌||◌, ◌==◌, nat_lt, nat_le, List, [], ◌∷◌, ◌++◌, length, codes, Option, Some, None, is_some, option_map, if◌then◌else◌}
use Rattle.hm_message.specs.declared.message.Codec.{Codec}
use Rattle.hm_message.specs.declared.message.Message.{Message}
use Rattle.hm_message.specs.declared.message.Message.TheVariants.{StreamItem, Completion, CancelInvocation}
use Rattle.hm_message.specs.declared.message.Ending.{Ending}
use Rattle.hm_message.specs.declared.message.Ending.TheVariants.{Error}
use Rattle.hm_message.specs.Message.{content_depth}
use Rattle.hd_delivery.specs.declared.vocabulary.Reason.{Reason}
use Rattle.hd_delivery.specs.declared.vocabulary.Reason.TheVariants as reason
use Rattle.hd_delivery.specs.declared.vocabulary.Got.TheVariants as gives
use Rattle.hd_delivery.specs.Histories.{EndEvent, Took, Sent, Closed, Config, is_this, first_of, codec_of, is_closed}
use Rattle.hd_delivery.specs.Worlds.{Limits}
use Rattle.hd_delivery.specs.Bytes.{Wire, ByteStep, Does, in_frames}
use Rattle.hd_calls.specs.declared.vocabulary.Input.{Input}
use Rattle.hd_calls.specs.declared.vocabulary.Input.TheVariants as input
use Rattle.hd_calls.specs.declared.vocabulary.Act.{Act}
use Rattle.hd_calls.specs.declared.vocabulary.Act.TheVariants as act
use Rattle.hd_calls.specs.Numbers.{most_depth}
use Rattle.hd_calls.specs.Hubs.{Way, Notify, Call, Stream, Invoked, Answer, Item, End, Turn, id_of, is_stream, message_of, answer_message, value_in, ending_in}

-- ---- moves

-- what a message did that was handled
pub data Effect : Type 0 where
  Begins : (call : Invoked) → (now : ℕ) → (floods : Bool) → Effect  -- floods: the jobs keep more after it than they may, and an open end is closed
  InUse : (call : Invoked) → Effect  -- refused, since an id of it is in use
  TooMany : (call : Invoked) → Effect  -- refused, since too many jobs are live
  Brings : (number : ℕ) → (answer : Answer) → (floods : Bool) → Effect  -- for an own call; floods as above
  Feeds : (job which : ℕ) → (answer : Answer) → Effect  -- for a stream of a job
  Flood : Effect  -- for a job: too many inputs wait there, or with this one all jobs would keep more than they may
  Marks : (job : ℕ) → Effect  -- the job is cancelled
  Nothing : Effect

-- one thing that a peer did. Jobs are numbered from 0 in the order in which they began; calls and their uploads have the numbers from 1 that
-- were drawn for them, and 0 for a Notify without uploads. What is sent stands here as the other end reads it
pub data PeerEvent : Type 0 where
  Plain : (step : ByteStep) → PeerEvent  -- a step of the end alone
  Calls : (asker : Option ℕ) → (number : ℕ) → (call : Invoked) → PeerEvent  -- by its user, a spelled Notify too, or by a job that asks
  Uploads : (number which : ℕ) → (answer : Answer) → PeerEvent
  Cancels : (number : ℕ) → PeerEvent
  Reads : (m : Message) → PeerEvent  -- the end processed the message, which waits now
  Handles : (m : Message) → (effect : Effect) → PeerEvent  -- the message that waits
  Runs : (job : ℕ) → (call : Invoked) → (since : ℕ) → (turn : Turn) → (what : Act) → PeerEvent  -- a turn of the call's job, which began then
  Answers : (job : ℕ) → (input : Input) → PeerEvent  -- the deed that a job handed up
  Refuses : (job : ℕ) → PeerEvent  -- the call for which a job asked
  Loses : (number : ℕ) → PeerEvent  -- a call is handed out as gone
  Rounds : PeerEvent  -- a round of turns begins

-- how a peer is begun: its end, the ids that it draws by their numbers, and the name of the other side
pub record Settings : Type 0 where
  pub config : Config
  pub wire : Wire
  pub limits : Limits
  pub name : ℕ → List ℕ
  pub who : List ℕ

-- The list of what a peer did has the latest move first.

-- ---- own calls

-- the greatest number drawn
abbrev pub drawn : List PeerEvent → ℕ
drawn [] = 0
drawn (Calls a n c ∷ h) = max (drawn h) (n + length c.streams)
drawn (_ ∷ h) = drawn h

-- the calls that were made, in order
abbrev pub called : List PeerEvent → List Invoked
called [] = []
called (Calls a n c ∷ h) = called h ++ c ∷ []
called (_ ∷ h) = called h

-- the call of a number
abbrev pub call_of : ℕ → List PeerEvent → Option Invoked
call_of n [] = None
call_of n (Calls a k c ∷ h) = if n == k then Some c else call_of n h
call_of n (_ ∷ h) = call_of n h

-- what the caller was given for a call
abbrev pub given : ℕ → List PeerEvent → List Answer
given n [] = []
given n (Handles m (Brings k a floods) ∷ h) = if n == k then given n h ++ a ∷ [] else given n h
given n (_ ∷ h) = given n h

-- whether the call was handed out as gone
abbrev pub lost : ℕ → List PeerEvent → Bool
lost n [] = false
lost n (Loses k ∷ h) = (n == k) || lost n h
lost n (_ ∷ h) = lost n h

-- whether an ending is among the answers
abbrev pub has_end : List Answer → Bool
has_end [] = false
has_end (Item v ∷ xs) = has_end xs
has_end (End e ∷ xs) = true

-- whether there is a call, and it has an id
abbrev pub has_id : Option Invoked → Bool
has_id None = false
has_id (Some c) = is_some (id_of c.way)

-- whether there is a call that is a Stream
abbrev pub streams_items : Option Invoked → Bool
streams_items None = false
streams_items (Some c) = is_stream c.way

-- the call has an id, and hasn't ended
abbrev pub live_call : ℕ → List PeerEvent → Bool
live_call n h = has_id (call_of n h) && (not (has_end (given n h)) && not (lost n h))

-- the answer may be given for the call
abbrev pub takes : ℕ → Answer → List PeerEvent → Bool
takes n (Item v) h = streams_items (call_of n h) && live_call n h
takes n (End e) h = live_call n h

-- what was uploaded for a call on its stream at this place
abbrev pub uploaded : ℕ → ℕ → List PeerEvent → List Answer
uploaded n w [] = []
uploaded n w (Uploads k v a ∷ h) = if (n == k) && (w == v) then uploaded n w h ++ a ∷ [] else uploaded n w h
uploaded n w (_ ∷ h) = uploaded n w h

-- how many uploads a call has
abbrev pub stream_count : Option Invoked → ℕ
stream_count None = 0
stream_count (Some c) = length c.streams

-- the upload hasn't ended. One of a call with an id ends with the call
abbrev pub live_upload : ℕ → ℕ → List PeerEvent → Bool
live_upload n w h = (nat_lt w (stream_count (call_of n h)) && not (has_end (uploaded n w h))) && (live_call n h || not (has_id (call_of n h)))

-- ---- jobs

-- the message that was processed and isn't handled
abbrev pub waiting : List PeerEvent → Option Message
waiting [] = None
waiting (Reads m ∷ h) = Some m
waiting (Handles m e ∷ h) = None
waiting (_ ∷ h) = waiting h

-- the calls that began a job, in the order of the jobs
abbrev pub begun : List PeerEvent → List Invoked
begun [] = []
begun (Handles m (Begins c now floods) ∷ h) = begun h ++ c ∷ []
begun (_ ∷ h) = begun h

-- when each job began
abbrev pub moments : List PeerEvent → List ℕ
moments [] = []
moments (Handles m (Begins c now floods) ∷ h) = moments h ++ now ∷ []
moments (_ ∷ h) = moments h

-- the turns of a job
abbrev pub turns : ℕ → List PeerEvent → List Turn
turns j [] = []
turns j (Runs k c since turn what ∷ h) = if j == k then turns j h ++ turn ∷ [] else turns j h
turns j (_ ∷ h) = turns j h

-- what a job did
abbrev pub acts : ℕ → List PeerEvent → List Act
acts j [] = []
acts j (Runs k c since turn what ∷ h) = if j == k then acts j h ++ what ∷ [] else acts j h
acts j (_ ∷ h) = acts j h

-- what came from the uploads of the job's call, each with the place of its stream
abbrev pub inputs : ℕ → List PeerEvent → List (ℕ × Answer)
inputs j [] = []
inputs j (Handles m (Feeds k w a) ∷ h) = if j == k then inputs j h ++ (w, a) ∷ [] else inputs j h
inputs j (_ ∷ h) = inputs j h

-- what came on one stream
abbrev pub of_stream : ℕ → List (ℕ × Answer) → List Answer
of_stream w [] = []
of_stream w (p ∷ ps) = if w == p.0 then p.1 ∷ of_stream w ps else of_stream w ps

-- whether the job was cancelled
abbrev pub is_cancelled : ℕ → List PeerEvent → Bool
is_cancelled j [] = false
is_cancelled j (Handles m (Marks k) ∷ h) = (j == k) || is_cancelled j h
is_cancelled j (_ ∷ h) = is_cancelled j h

-- the job that asked for a call
abbrev pub asker_of : ℕ → List PeerEvent → Option ℕ
asker_of n [] = None
asker_of n (Calls a k c ∷ h) = if n == k then a else asker_of n h
asker_of n (_ ∷ h) = asker_of n h

-- whether the call for which the job asked at its last turn was made
abbrev pub has_asked : ℕ → List PeerEvent → Bool
has_asked j [] = false
has_asked j (Calls a n c ∷ h) = is_this j a || has_asked j h
has_asked j (Runs k c since turn what ∷ h) = if j == k then false else has_asked j h
has_asked j (_ ∷ h) = has_asked j h

abbrev pub last_of : {A : Type 0} → List A → Option A
last_of [] = None
last_of (x ∷ []) = Some x
last_of (x ∷ y ∷ xs) = last_of (y ∷ xs)

-- the act asks for a call
abbrev pub asks : Option Act → Bool
asks (Some (act.Ask target arguments)) = true
asks _ = false

-- the act hands up a deed
abbrev pub hands_up : Option Act → Bool
hands_up (Some (act.Do deed)) = true
hands_up _ = false

-- the error that a job is told whose ask is refused
abbrev pub refusal_text : List ℕ
refusal_text = codes "The ask was refused."

-- so the ask ends
abbrev pub ask_refused : Ending
ask_refused = Error refusal_text

-- what answers the job's last ask or deed, where that came
abbrev pub reply : ℕ → List PeerEvent → Option Input
reply j [] = None
reply j (Runs k c since turn what ∷ h) = if j == k then None else reply j h
reply j (Handles m (Brings n (End e) floods) ∷ h) = if is_this j (asker_of n h) && asks (last_of (acts j h)) then first_of (reply j h) (Some (input.Asked e)) else reply j h
reply j (Answers k i ∷ h) = if j == k then Some i else reply j h
reply j (Refuses k ∷ h) = if j == k then Some (input.Asked ask_refused) else reply j h
reply j (_ ∷ h) = reply j h

-- ---- what is sent for a job

-- the message nests no deeper than a frame may, and its frame isn't too long
abbrev pub can_frame : Settings → Codec → Message → Bool
can_frame t codec m = nat_le (content_depth m) most_depth && nat_le (t.wire.frame_size codec m) t.limits.frame

-- what is answered in place of what is too long or too deep
abbrev pub too_long : Ending
too_long = Error (codes "The answer is too long.")

-- where even that is too long, nothing
abbrev pub last_word : Settings → Codec → List ℕ → Option Answer
last_word t codec i = if can_frame t codec (Completion [] i too_long) then Some (End too_long) else None

abbrev pub ending_answer : Settings → Codec → List ℕ → Ending → Option Answer
ending_answer t codec i e = if can_frame t codec (Completion [] i (ending_in codec e)) then Some (End (ending_in codec e)) else last_word t codec i

-- what an act gives to the caller, as that reads it: items to a Stream, and an ending to each call with an id
abbrev pub answer_of : Settings → Codec → Way → Act → Option Answer
answer_of t codec (Call i) (act.End e) = ending_answer t codec i e
answer_of t codec (Stream i) (act.End e) = ending_answer t codec i e
answer_of t codec (Stream i) (act.Item v) = if can_frame t codec (StreamItem [] i (value_in codec v)) then Some (Item (value_in codec v)) else last_word t codec i
answer_of t codec _ _ = None

-- the job ends with the act
abbrev pub ends_job : Settings → Codec → Way → Act → Bool
ends_job t codec way (act.End e) = true
ends_job t codec (Stream i) (act.Item v) = not (can_frame t codec (StreamItem [] i (value_in codec v)))
ends_job t codec _ _ = false

-- the list with one more in front, where there is one
abbrev pub add : {A : Type 0} → Option A → List A → List A
add None xs = xs
add (Some x) xs = x ∷ xs

-- what acts give to the caller, up to the end of the job
abbrev pub answers : Settings → Codec → Way → List Act → List Answer
answers t codec way [] = []
answers t codec way (a ∷ xs) = add (answer_of t codec way a) (if ends_job t codec way a then [] else answers t codec way xs)

-- ---- the steps of the end

abbrev pub message_for : Way → Option Answer → Option Message
message_for Notify a = None
message_for (Call i) a = option_map (answer_message i) a
message_for (Stream i) a = option_map (answer_message i) a

-- why the effect closes the end
abbrev pub reason_of : Effect → Option Reason
reason_of (InUse c) = Some reason.InUse
reason_of (TooMany c) = Some reason.TooMany
reason_of Flood = Some reason.Flood
reason_of (Begins c now floods) = if floods then Some reason.Flood else None
reason_of (Brings n a floods) = if floods then Some reason.Flood else None
reason_of _ = None

-- an end that isn't closed is closed for the reason
abbrev pub shuts : Bool → Option Reason → Option ByteStep
shuts false (Some why) = Some (Does (Closed why false))
shuts _ _ = None

-- the step of the end that the move makes, by the end's codec and whether it is closed
abbrev pub step_of : Settings → Codec → Bool → PeerEvent → Option ByteStep
step_of t codec shut (Plain s) = Some s
step_of t codec shut (Calls a n c) = Some (Does (Sent (message_of c)))
step_of t codec shut (Uploads n w a) = Some (Does (Sent (answer_message (t.name (suc (n + w))) a)))
step_of t codec shut (Cancels n) = Some (Does (Sent (CancelInvocation [] (t.name n))))
step_of t codec shut (Reads m) = Some (Does (Took (gives.Message m)))
step_of t codec shut (Handles m e) = shuts shut (reason_of e)
step_of t codec shut (Runs j c since turn what) = option_map (λ m. Does (Sent m)) (message_for c.way (answer_of t codec c.way what))
step_of t codec shut _ = None

-- the history of the end, over bytes
abbrev pub byte_steps : Settings → List PeerEvent → List ByteStep
byte_steps t [] = []
byte_steps t (d ∷ h) =
    let s = byte_steps t h in
    add (step_of t (codec_of t.config (in_frames t.wire t.config s)) (is_closed t.config (in_frames t.wire t.config s)) d) s

-- the history of the end, in frames
abbrev pub steps : Settings → List PeerEvent → List EndEvent
steps t h = in_frames t.wire t.config (byte_steps t h)

-- in which codec the end speaks
abbrev pub codec : Settings → List PeerEvent → Codec
codec t h = codec_of t.config (steps t h)

-- whether the end is closed
abbrev pub is_shut : Settings → List PeerEvent → Bool
is_shut t h = is_closed t.config (steps t h)

-- ---- live jobs

-- the job's turns have come to its end
abbrev pub over : Settings → ℕ → List PeerEvent → Bool
over t j [] = false
over t j (Runs k c since turn what ∷ h) = ((j == k) && ends_job t (codec t h) c.way what) || over t j h
over t j (_ ∷ h) = over t j h

-- the job began and isn't over
abbrev pub live_job : Settings → ℕ → List PeerEvent → Bool
live_job t j h = nat_lt j (length (begun h)) && not (over t j h)
