-- What a peer may do next, by its own history alone: its calls and uploads, its jobs' turns, and what a message does that it handles.
-- HubProtocol.md, "Invocations", has the ids, and that each call is answered once. This project's own rules: how ids are drawn, the bounds,
-- the order of a call's refusals, when a job is due, and that own calls come before the streams of jobs where an id is looked up.
use Rattle.std.specs.Prelude.{◌≡◌, ◌⊎◌, ℕ, zero, suc, ◌-◌, ◌+◌, ◌<◌, ◌≤◌, Bool, true, false, not, ◌&&◌, ◌||◌, ◌==◌, nat_lt, List, [], ◌∷◌, length, drop, map, Option, Some, None, is_some, option_map, slice_get, if◌then◌else◌}
use Rattle.hv_value.specs.Tree.{Tree}
use Rattle.hm_message.specs.declared.message.Message.{Message}
use Rattle.hm_message.specs.declared.message.Message.TheVariants.{CancelInvocation}
use Rattle.hm_message.specs.declared.message.Ending.TheVariants as ending
use Rattle.hm_message.specs.Message.{Fits}
use Rattle.hm_message.specs.Same.{same_text}
use Rattle.hd_delivery.specs.declared.vocabulary.Got.TheVariants as gives
use Rattle.hd_delivery.specs.Numbers.{most_messages, most_framing}
use Rattle.hd_delivery.specs.Histories.{Took, Failed, Sent, sent_messages}
use Rattle.hd_delivery.specs.Worlds.{HasRoom}
use Rattle.hd_delivery.specs.Bytes.{ByteStep, Does, sizes_of}
use Rattle.hd_delivery.specs.Sending.{SendRefusal, IsRefusedToSend}
use Rattle.hd_delivery.specs.OneHistory.{IsHistory}
use Rattle.hd_calls.specs.declared.vocabulary.Input.{Input}
use Rattle.hd_calls.specs.declared.vocabulary.Input.TheVariants as input
use Rattle.hd_calls.specs.declared.vocabulary.Act.{Act}
use Rattle.hd_calls.specs.declared.vocabulary.Act.TheVariants as act
use Rattle.hd_calls.specs.Numbers.{most_live, most_uploads, most_inputs, most_numbers, most_weight}
use Rattle.hd_calls.specs.Weights.{input_weight, job_weight}
use Rattle.hd_calls.specs.Hubs.{Way, Notify, Call, Stream, Invoked, Answer, End, Purpose, ToBegin, ToAnswer, ToCancel, ToNothing, Turn, Given, Cancelled, Hub, id_of, purpose_of, message_of, answer_message, arguments_in, upload_input, call_for}
use Rattle.hd_calls.specs.Peers.{Effect, Begins, InUse, TooMany, Brings, Feeds, Flood, Marks, Nothing, PeerEvent, Plain, Calls, Uploads, Cancels, Reads, Handles, Runs, Answers, Refuses, Loses, Rounds, Settings, drawn, call_of, has_end, live_call, takes, stream_count, live_upload, waiting, begun, moments, turns, acts, inputs, of_stream, is_cancelled, has_asked, last_of, hands_up, reply, byte_steps, steps, codec, is_shut, live_job}

-- ---- counts

-- whether the test holds of a number below n
abbrev pub any_below : ℕ → (ℕ → Bool) → Bool
any_below zero p = false
any_below (suc n) p = p n || any_below n p

-- of how many numbers below n the test holds
abbrev pub count_below : ℕ → (ℕ → Bool) → ℕ
count_below zero p = 0
count_below (suc n) p = if p n then suc (count_below n p) else count_below n p

-- the sum over the numbers below n
abbrev pub sum_below : ℕ → (ℕ → ℕ) → ℕ
sum_below zero f = 0
sum_below (suc n) f = f n + sum_below n f

-- ---- calls

-- the ids of so many numbers from k on
abbrev pub names : Settings → ℕ → ℕ → List (List ℕ)
names t k zero = []
names t k (suc u) = t.name k ∷ names t (suc k) u

-- the call has the next number, and its uploads those after it
abbrev pub IsNumbered : Settings → ℕ → ℕ → Invoked → Type 0
IsNumbered t last n c = (n ≡ suc last) × (c.streams ≡ names t (suc n) (length c.streams))

-- the number and ids of a call, where the numbers to `last` were drawn. A Notify without uploads draws none and has the number 0
abbrev pub MadeAs : Settings → ℕ → ℕ → Way → Invoked → Type 0
MadeAs t last n Notify c = ((n ≡ 0) × (c.streams ≡ [])) ⊎ ((0 < length c.streams) × IsNumbered t last n c)
MadeAs t last n (Call i) c = (i ≡ t.name n) × IsNumbered t last n c
MadeAs t last n (Stream i) c = (i ≡ t.name n) × IsNumbered t last n c

-- how many of a call's uploads are live
abbrev pub live_uploads : ℕ → List PeerEvent → ℕ
live_uploads n h = count_below (stream_count (call_of n h)) (λ w. live_upload n w h)

-- how many own calls and uploads are live
abbrev pub own_live : List PeerEvent → ℕ
own_live h = count_below (suc (drawn h)) (λ n. live_call n h) + sum_below (suc (drawn h)) (λ n. live_uploads n h)

-- how many calls and uploads become live with a call
abbrev pub new_live : Invoked → ℕ
new_live c = if is_some (id_of c.way) then suc (length c.streams) else length c.streams

-- how many numbers a call draws
abbrev pub new_numbers : Way → Invoked → ℕ
new_numbers Notify c = if length c.streams == 0 then 0 else suc (length c.streams)
new_numbers _ c = suc (length c.streams)

-- the bounds leave room for the call
pub record HasPlace (c : Invoked) (h : List PeerEvent) : Type 0 where
  pub few_live : own_live h + new_live c ≤ most_live
  pub few_numbers : drawn h + new_numbers c.way c ≤ most_numbers

-- ---- what a peer is refused

-- why a call isn't made, nothing is uploaded, or a call isn't cancelled
pub data CallRefusal : Type 0 where
  TooManyLive : CallRefusal
  Spent : CallRefusal  -- the numbers are
  Unknown : CallRefusal  -- no such call or upload is live
  TooDeep : CallRefusal
  Unsent : (why : SendRefusal) → CallRefusal

-- the message isn't sent for this reason: it is too deep, or its end refuses it
abbrev pub IsUnsent : Settings → List PeerEvent → Message → CallRefusal → Type 0
IsUnsent t h m TooDeep = Fits m → ⊥
IsUnsent t h m (Unsent why) = Fits m × IsRefusedToSend t.limits (sizes_of t.wire) t.config (steps t h) m why
IsUnsent t h m _ = ⊥

-- the call isn't made for this reason, the first that holds
abbrev pub IsRefusedCall : Settings → List PeerEvent → Invoked → CallRefusal → Type 0
IsRefusedCall t h c TooManyLive = most_live < own_live h + new_live c
IsRefusedCall t h c Spent = (own_live h + new_live c ≤ most_live) × (most_numbers < drawn h + new_numbers c.way c)
IsRefusedCall t h c why = HasPlace c h × IsUnsent t h (message_of c) why

-- so it is of an upload
abbrev pub IsRefusedUpload : Settings → List PeerEvent → ℕ → ℕ → Answer → CallRefusal → Type 0
IsRefusedUpload t h n w a Unknown = live_upload n w h ≡ false
IsRefusedUpload t h n w a why = (live_upload n w h ≡ true) × IsUnsent t h (answer_message (t.name (suc (n + w))) a) why

-- and of a cancellation
abbrev pub IsRefusedCancel : Settings → List PeerEvent → ℕ → CallRefusal → Type 0
IsRefusedCancel t h n Unknown = live_call n h ≡ false
IsRefusedCancel t h n why = (live_call n h ≡ true) × IsUnsent t h (CancelInvocation [] (t.name n)) why

-- ---- asks

-- the call that a job asks for, as the other end reads it
abbrev pub ask_of : Settings → List PeerEvent → List ℕ → List Tree → Invoked
ask_of t h target arguments =
    record { way = Call (t.name (suc (drawn h))); target = target; arguments = arguments_in (codec t h) arguments; streams = [] }

-- the job asks for this call, which is neither made nor refused yet
pub record IsAsked (t : Settings) (j : ℕ) (c : Invoked) (h : List PeerEvent) : Type 0 where
  pub target : List ℕ
  pub arguments : List Tree
  pub live : live_job t j h ≡ true
  pub last : last_of (acts j h) ≡ Some (act.Ask target arguments)
  pub unmade : has_asked j h ≡ false
  pub unanswered : reply j h ≡ None
  pub is : c ≡ ask_of t h target arguments

-- a user calls what it likes, a job what it asks for
abbrev pub IsAskedBy : Settings → Option ℕ → Invoked → List PeerEvent → Type 0
IsAskedBy t None c h = Unit {0}
IsAskedBy t (Some j) c h = IsAsked t j c h

-- the call may be made. Whether its message can be sent is the end's own rule
pub record MayCall (t : Settings) (asker : Option ℕ) (n : ℕ) (c : Invoked) (h : List PeerEvent) : Type 0 where
  pub made : MadeAs t (drawn h) n c.way c
  pub few_uploads : length c.streams ≤ most_uploads
  pub place : HasPlace c h
  pub asked : IsAskedBy t asker c h

-- the call for which a job asks is refused
pub record MayRefuse (t : Settings) (j : ℕ) (h : List PeerEvent) : Type 0 where
  pub call : Invoked
  pub asked : IsAsked t j call h
  pub why : CallRefusal
  pub refused : IsRefusedCall t h call why

-- an upload ends with no result
abbrev pub is_upload : Answer → Bool
is_upload (End (ending.Result v)) = false
is_upload _ = true

-- ---- jobs

-- a job after its turns
abbrev pub job_after : {Job : Type 0} → Hub Job → Job → List Turn → Job
job_after hub job [] = job
job_after hub job (Given i now ∷ ts) = job_after hub (hub.step_of job i now).0 ts
job_after hub job (Cancelled ∷ ts) = job_after hub job ts

-- what it does at one
abbrev pub act_at : {Job : Type 0} → Hub Job → Job → Turn → Act
act_at hub job (Given i now) = (hub.step_of job i now).1
act_at hub job Cancelled = act.End ending.Void

-- what comes after an act: nothing after an ending
abbrev pub goes_on : Act → List Act → List Act
goes_on (act.End e) xs = []
goes_on _ xs = xs

-- what a job does, turn by turn, up to its end
abbrev pub run : {Job : Type 0} → Hub Job → Job → List Turn → List Act
run hub job [] = []
run hub job (Given i now ∷ ts) = let s = hub.step_of job i now in s.1 ∷ goes_on s.1 (run hub s.0 ts)
run hub job (Cancelled ∷ ts) = act.End ending.Void ∷ []

-- how many jobs are live
abbrev pub live_jobs : Settings → List PeerEvent → ℕ
live_jobs t h = count_below (length (begun h)) (λ j. live_job t j h)

-- at how many turns an upload was given
abbrev pub used : List Turn → ℕ
used [] = 0
used (Given (input.Item w v) now ∷ ts) = suc (used ts)
used (Given (input.StreamEnd w e) now ∷ ts) = suc (used ts)
used (_ ∷ ts) = used ts

-- how many inputs wait at the job
abbrev pub inputs_left : ℕ → List PeerEvent → ℕ
inputs_left j h = length (inputs j h) - used (turns j h)

-- what came from the uploads of the job's call and wasn't given to it
abbrev pub inputs_waiting : ℕ → List PeerEvent → List Input
inputs_waiting j h = drop (used (turns j h)) (map upload_input (inputs j h))

-- what a live job keeps
abbrev pub weight_at : Settings → ℕ → List PeerEvent → ℕ
weight_at t j h = if live_job t j h then job_weight (slice_get (begun h) j) (inputs_waiting j h) (reply j h) else 0

-- what all live jobs keep
abbrev pub kept_weight : Settings → List PeerEvent → ℕ
kept_weight t h = sum_below (length (begun h)) (λ j. weight_at t j h)

-- whether that is more than they may keep
abbrev pub is_heavy : Settings → List PeerEvent → Bool
is_heavy t h = nat_lt most_weight (kept_weight t h)

-- one more input may wait at the job
pub record HasRoomFor (t : Settings) (h : List PeerEvent) (j : ℕ) (i : Input) : Type 0 where
  pub few : inputs_left j h < most_inputs
  pub light : kept_weight t h + input_weight i ≤ most_weight

-- it may not: too many wait there, or with it all jobs would keep more than they may
abbrev pub IsTooMuch : Settings → List PeerEvent → ℕ → Input → Type 0
IsTooMuch t h j i = (most_inputs ≤ inputs_left j h) ⊎ (most_weight < kept_weight t h + input_weight i)

-- what the job is given next, by its last act: after Wait the oldest input that waits; after an ask or a deed its answer alone
abbrev pub next_input : ℕ → List PeerEvent → Option Act → Option Input
next_input j h (Some act.Wait) = option_map upload_input (slice_get (inputs j h) (used (turns j h)))
next_input j h (Some (act.Ask target arguments)) = reply j h
next_input j h (Some (act.Do deed)) = reply j h
next_input j h _ = Some input.Go

-- whether the job has a turn to come
abbrev pub is_due : Settings → ℕ → List PeerEvent → Bool
is_due t j h = live_job t j h && (is_cancelled j h || is_some (next_input j h (last_of (acts j h))))

-- the turn that the job has to have. Its moment is free here: it is what the hub is told
abbrev pub IsDue : Settings → ℕ → List PeerEvent → Turn → Type 0
IsDue t j h Cancelled = (live_job t j h ≡ true) × (is_cancelled j h ≡ true)
IsDue t j h (Given i now) = (live_job t j h ≡ true) × (is_cancelled j h ≡ false) × (next_input j h (last_of (acts j h)) ≡ Some i)

-- the first of so many numbers from k on of which the test holds
abbrev pub first_from : ℕ → ℕ → (ℕ → Bool) → Option ℕ
first_from k zero p = None
first_from k (suc u) p = if p k then Some k else first_from (suc k) u p

-- the place past the job that had the last turn of the round
abbrev pub passed : List PeerEvent → ℕ
passed [] = 0
passed (Rounds ∷ h) = 0
passed (Runs j c since turn what ∷ h) = suc j
passed (_ ∷ h) = passed h

-- the job that has the next turn of the round: the first past the last one that is due. So each has one turn in a round
abbrev pub next_job : Settings → List PeerEvent → Option ℕ
next_job t h = first_from (passed h) (length (begun h) - passed h) (λ j. is_due t j h)

-- jobs have turns while the end isn't closed, has room for the largest frame, and has a number for a message
pub record MayTurn (t : Settings) (h : List PeerEvent) : Type 0 where
  pub unclosed : is_shut t h ≡ false
  pub room : HasRoom t.limits (sizes_of t.wire) t.config (steps t h) (t.limits.frame + most_framing)
  pub few : length (sent_messages (steps t h)) < most_messages

-- a round that begins now would give a job a turn
abbrev pub IsPeerDue : Settings → List PeerEvent → Type 0
IsPeerDue t h = MayTurn t h × ((j : ℕ) × (is_due t j h ≡ true))

-- a job's turn: the next of the round, and the one that is due, of the job that its call began, with the act that the hub means
pub record MayRun {Job : Type 0} (hub : Hub Job) (t : Settings) (h : List PeerEvent) (j : ℕ) (c : Invoked) (since : ℕ) (turn : Turn) (what : Act) : Type 0 where
  pub at : slice_get (begun h) j ≡ Some c
  pub began : slice_get (moments h) j ≡ Some since
  pub may : MayTurn t h
  pub next : next_job t h ≡ Some j
  pub due : IsDue t j h turn
  pub is : what ≡ act_at hub (job_after hub (hub.begin_of (call_for t.who c) since) (turns j h)) turn

-- what may answer a deed
abbrev pub is_deed_answer : Input → Bool
is_deed_answer (input.Done v) = true
is_deed_answer input.Failed = true
is_deed_answer _ = false

-- the deed that a job handed up is answered, once
pub record MayAnswer (t : Settings) (j : ℕ) (i : Input) (h : List PeerEvent) : Type 0 where
  pub live : live_job t j h ≡ true
  pub handed : hands_up (last_of (acts j h)) ≡ true
  pub unanswered : reply j h ≡ None
  pub answers : is_deed_answer i ≡ true

-- ---- ids in use

-- whether the id is one of these
abbrev pub is_among : List ℕ → List (List ℕ) → Bool
is_among i [] = false
is_among i (k ∷ ks) = same_text i k || is_among i ks

-- whether an id stands twice
abbrev pub repeats : List (List ℕ) → Bool
repeats [] = false
repeats (k ∷ ks) = is_among k ks || repeats ks

-- whether both have an id, and it is one
abbrev pub same_id : Option (List ℕ) → Option (List ℕ) → Bool
same_id (Some i) (Some k) = same_text i k
same_id _ _ = false

-- whether the stream of a job has ended
abbrev pub stream_over : ℕ → ℕ → List PeerEvent → Bool
stream_over j w h = has_end (of_stream w (inputs j h))

-- whether one of these streams, from place w on, is open at the job and stands among those
abbrev pub shares : List (List ℕ) → ℕ → List PeerEvent → ℕ → List (List ℕ) → Bool
shares those j h w [] = false
shares those j h w (k ∷ ks) = (is_among k those && not (stream_over j w h)) || shares those j h (suc w) ks

-- whether the call has the id of the job's call, or names an open stream of it
abbrev pub clashes : Invoked → ℕ → List PeerEvent → Option Invoked → Bool
clashes c j h None = false
clashes c j h (Some d) = same_id (id_of c.way) (id_of d.way) || shares c.streams j h 0 d.streams

-- whether a live job has the call's id or one of its streams, or the call names one stream twice
abbrev pub in_use : Settings → Invoked → List PeerEvent → Bool
in_use t c h = any_below (length (begun h)) (λ j. live_job t j h && clashes c j h (slice_get (begun h) j)) || repeats c.streams

-- ---- what a message does

-- what a call does
abbrev pub Starts : Settings → List PeerEvent → Invoked → Effect → Type 0
Starts t h c (Begins d now floods) = (d ≡ c) × (in_use t c h ≡ false) × (live_jobs t h < most_live)
Starts t h c (InUse d) = (d ≡ c) × (in_use t c h ≡ true)
Starts t h c (TooMany d) = (d ≡ c) × (in_use t c h ≡ false) × (most_live ≤ live_jobs t h)
Starts t h c _ = ⊥

-- an open stream of a live job
pub record StreamAt (t : Settings) (h : List PeerEvent) (i : List ℕ) (j w : ℕ) : Type 0 where
  pub call : Invoked
  pub at : slice_get (begun h) j ≡ Some call
  pub stream : slice_get call.streams w ≡ Some i
  pub live : live_job t j h ≡ true
  pub unended : stream_over j w h ≡ false

-- no own call takes the answer
abbrev pub IsStrange : Settings → List PeerEvent → List ℕ → Answer → Type 0
IsStrange t h i a = (n : ℕ) → t.name n ≡ i → takes n a h ≡ false

-- what an answer does: own calls come first, then the streams of jobs
abbrev pub Arrives : Settings → List PeerEvent → List ℕ → Answer → Effect → Type 0
Arrives t h i a (Brings n b floods) = (b ≡ a) × (t.name n ≡ i) × (takes n a h ≡ true)
Arrives t h i a (Feeds j w b) = (b ≡ a) × IsStrange t h i a × StreamAt t h i j w × HasRoomFor t h j (upload_input (w, a))
Arrives t h i a Flood = IsStrange t h i a × ((j : ℕ) × (w : ℕ) × StreamAt t h i j w × IsTooMuch t h j (upload_input (w, a)))
Arrives t h i a Nothing = IsStrange t h i a × ((j w : ℕ) → StreamAt t h i j w → ⊥)
Arrives t h i a _ = ⊥

-- the live job of the id, which wasn't cancelled before
pub record IsCancellable (t : Settings) (h : List PeerEvent) (i : List ℕ) (j : ℕ) : Type 0 where
  pub call : Invoked
  pub at : slice_get (begun h) j ≡ Some call
  pub id : id_of call.way ≡ Some i
  pub live : live_job t j h ≡ true
  pub unmarked : is_cancelled j h ≡ false

-- what a cancellation does
abbrev pub Stops : Settings → List PeerEvent → List ℕ → Effect → Type 0
Stops t h i (Marks j) = IsCancellable t h i j
Stops t h i Nothing = (j : ℕ) → IsCancellable t h i j → ⊥
Stops t h i _ = ⊥

-- what a message does, by what it is for
abbrev pub ActsOn : Settings → List PeerEvent → Purpose → Effect → Type 0
ActsOn t h (ToBegin c) e = Starts t h c e
ActsOn t h (ToAnswer i a) e = Arrives t h i a e
ActsOn t h (ToCancel i) e = Stops t h i e
ActsOn t h ToNothing e = ⊥

-- A call begins its job and an ending is brought, whatever they weigh. The end is closed if the jobs keep more after that than they may
abbrev pub IsWeighed : Settings → List PeerEvent → Message → Effect → Type 0
IsWeighed t h m (Begins c now floods) = floods ≡ is_heavy t (Handles m (Begins c now floods) ∷ h)
IsWeighed t h m (Brings n a floods) = floods ≡ is_heavy t (Handles m (Brings n a floods) ∷ h)
IsWeighed t h m _ = Unit {0}

-- ---- the peer

-- a step of the end that is no message read and none sent. No frame is taken while a message waits
abbrev pub IsPlain : List PeerEvent → ByteStep → Type 0
IsPlain h (Does (Sent m)) = ⊥
IsPlain h (Does (Took (gives.Message m))) = ⊥
IsPlain h (Does (Took got)) = waiting h ≡ None
IsPlain h (Does (Failed fault)) = waiting h ≡ None
IsPlain h _ = Unit {0}

-- the move may come next, as far as calls and jobs say
abbrev pub MayMove : {Job : Type 0} → Hub Job → Settings → List PeerEvent → PeerEvent → Type 0
MayMove hub t h (Plain s) = IsPlain h s
MayMove hub t h (Calls a n c) = MayCall t a n c h
MayMove hub t h (Uploads n w a) = (live_upload n w h ≡ true) × (is_upload a ≡ true)
MayMove hub t h (Cancels n) = live_call n h ≡ true
MayMove hub t h (Reads m) = waiting h ≡ None
MayMove hub t h (Handles m e) = (waiting h ≡ Some m) × ActsOn t h (purpose_of m) e × IsWeighed t h m e
MayMove hub t h (Runs j c since turn what) = MayRun hub t h j c since turn what
MayMove hub t h (Answers j i) = MayAnswer t j i h
MayMove hub t h (Refuses j) = MayRefuse t j h
MayMove hub t h Rounds = Unit {0}
MayMove hub t h (Loses n) = (is_shut t h ≡ true) × (live_call n h ≡ true) × (any_below n (λ k. live_call k h) ≡ false)

-- each move may come after those before it, as far as calls and jobs say
abbrev pub Follows : {Job : Type 0} → Hub Job → Settings → List PeerEvent → Type 0
Follows hub t [] = Unit {0}
Follows hub t (d ∷ h) = Follows hub t h × MayMove hub t h d

-- the job whose turn was the latest move, where it asked for a call
abbrev pub asking : List PeerEvent → Option ℕ
asking (Runs j c since turn (act.Ask target arguments) ∷ h) = Some j
asking _ = None

-- the job whose ask the move settles
abbrev pub settles : PeerEvent → Option ℕ
settles (Calls a n c) = a
settles (Refuses j) = Some j
settles _ = None

-- the call for which a job asks is made or refused before anything else is done
abbrev pub IsPrompt : List PeerEvent → Type 0
IsPrompt [] = Unit {0}
IsPrompt (d ∷ h) = IsPrompt h × ((asking h ≡ None) ⊎ (asking h ≡ settles d))

-- what a peer can do by itself, whatever is on the other side: its end's steps are a history that an end can make
pub record IsPeer {Job : Type 0} (hub : Hub Job) (t : Settings) (h : List PeerEvent) : Type 0 where
  pub follows : Follows hub t h
  pub prompt : IsPrompt h
  pub is_history : IsHistory t.limits t.wire t.config (byte_steps t h)
