-- What the table of own calls and the table of jobs below a peer see: the happenings of each, read off the peer's moves, and what either
-- reads off its own happenings.
use Rattle.std.specs.Prelude.{ℕ, suc, ◌+◌, ◌-◌, max, Bool, true, false, not, ◌&&◌, ◌||◌, ◌==◌, nat_lt, List, [], ◌∷◌, ◌++◌, length, drop, map, Option, Some, None, is_some, option_map, slice_get, if◌then◌else◌}
use Rattle.hm_message.specs.declared.message.Codec.{Codec}
use Rattle.hm_message.specs.declared.message.Ending.{Ending}
use Rattle.hd_calls.specs.declared.vocabulary.Input.{Input}
use Rattle.hd_calls.specs.declared.vocabulary.Input.TheVariants as input
use Rattle.hd_calls.specs.declared.vocabulary.Act.{Act}
use Rattle.hd_calls.specs.declared.vocabulary.Act.TheVariants as act
use Rattle.hd_calls.specs.Hubs.{Way, Invoked, Answer, End, Turn, id_of, upload_input}
use Rattle.hd_calls.specs.Weights.{job_weight}
use Rattle.hd_calls.specs.Rules.{any_below, count_below, sum_below, first_from, is_among, repeats, same_id, used}
use Rattle.hd_calls.specs.Ledgers.{CallHappening, Called, Got, Uploaded, Stopped, Gone}
use Rattle.hd_calls.specs.Peers.{Begins, Brings, Feeds, Marks, PeerEvent, Calls, Uploads, Cancels, Handles, Runs, Answers, Refuses, Loses, Rounds, Settings, of_stream, has_end, has_id, stream_count, ends_job, asker_of, asks, acts, reply, ask_refused, last_of, add, codec}

-- ---- own calls

-- what a move is to the table of own calls
abbrev pub call_happening : PeerEvent → Option CallHappening
call_happening (Calls a n c) = Some (Called n c)
call_happening (Handles m (Brings n a floods)) = Some (Got n a)
call_happening (Uploads n w a) = Some (Uploaded n w a)
call_happening (Cancels n) = Some (Stopped n)
call_happening (Loses n) = Some (Gone n)
call_happening _ = None

-- the happenings of the own calls, the latest first
abbrev pub call_happenings : List PeerEvent → List CallHappening
call_happenings [] = []
call_happenings (d ∷ h) = add (call_happening d) (call_happenings h)

abbrev pub drawn_in : List CallHappening → ℕ
drawn_in [] = 0
drawn_in (Called n c ∷ h) = max (drawn_in h) (n + length c.streams)
drawn_in (_ ∷ h) = drawn_in h

abbrev pub call_in : ℕ → List CallHappening → Option Invoked
call_in n [] = None
call_in n (Called k c ∷ h) = if n == k then Some c else call_in n h
call_in n (_ ∷ h) = call_in n h

abbrev pub given_in : ℕ → List CallHappening → List Answer
given_in n [] = []
given_in n (Got k a ∷ h) = if n == k then given_in n h ++ a ∷ [] else given_in n h
given_in n (_ ∷ h) = given_in n h

abbrev pub lost_in : ℕ → List CallHappening → Bool
lost_in n [] = false
lost_in n (Gone k ∷ h) = (n == k) || lost_in n h
lost_in n (_ ∷ h) = lost_in n h

abbrev pub uploaded_in : ℕ → ℕ → List CallHappening → List Answer
uploaded_in n w [] = []
uploaded_in n w (Uploaded k v a ∷ h) = if (n == k) && (w == v) then uploaded_in n w h ++ a ∷ [] else uploaded_in n w h
uploaded_in n w (_ ∷ h) = uploaded_in n w h

abbrev pub live_call_in : ℕ → List CallHappening → Bool
live_call_in n h = has_id (call_in n h) && (not (has_end (given_in n h)) && not (lost_in n h))

abbrev pub live_upload_in : ℕ → ℕ → List CallHappening → Bool
live_upload_in n w h =
    (nat_lt w (stream_count (call_in n h)) && not (has_end (uploaded_in n w h))) && (live_call_in n h || not (has_id (call_in n h)))

-- how many of a call's uploads are live
abbrev pub live_uploads_in : ℕ → List CallHappening → ℕ
live_uploads_in n h = count_below (stream_count (call_in n h)) (λ w. live_upload_in n w h)

-- how many own calls and uploads are live
abbrev pub own_live_in : List CallHappening → ℕ
own_live_in h = count_below (suc (drawn_in h)) (λ n. live_call_in n h) + sum_below (suc (drawn_in h)) (λ n. live_uploads_in n h)

-- ---- jobs

-- what happened to a job
pub data JobHappening : Type 0 where
  Accepted : (call : Invoked) → (now : ℕ) → JobHappening
  Came : (job which : ℕ) → (answer : Answer) → JobHappening
  Marked : (job : ℕ) → JobHappening
  Turned : (job : ℕ) → (turn : Turn) → (what : Act) → JobHappening
  Ended : (job : ℕ) → JobHappening  -- without a turn, since its answer can't be sent
  Replied : (job : ℕ) → (input : Input) → JobHappening
  Round : JobHappening  -- one begins

-- an item that can't be sent ends its job
abbrev pub cut_short : Settings → Codec → Way → ℕ → Act → Option JobHappening
cut_short t code way j (act.Item v) = if ends_job t code way (act.Item v) then Some (Ended j) else None
cut_short t code way j _ = None

-- the ending of a job's call is its reply, if it asked for one and has none
abbrev pub reply_to : List PeerEvent → Ending → Option ℕ → Option JobHappening
reply_to h e None = None
reply_to h e (Some j) = if asks (last_of (acts j h)) && not (is_some (reply j h)) then Some (Replied j (input.Asked e)) else None

-- the happenings of the jobs, the latest first
abbrev pub job_happenings : Settings → List PeerEvent → List JobHappening
job_happenings t [] = []
job_happenings t (Handles m (Begins c now floods) ∷ h) = Accepted c now ∷ job_happenings t h
job_happenings t (Handles m (Feeds j w a) ∷ h) = Came j w a ∷ job_happenings t h
job_happenings t (Handles m (Marks j) ∷ h) = Marked j ∷ job_happenings t h
job_happenings t (Handles m (Brings n (End e) floods) ∷ h) = add (reply_to h e (asker_of n h)) (job_happenings t h)
job_happenings t (Runs j c since turn what ∷ h) = add (cut_short t (codec t h) c.way j what) (Turned j turn what ∷ job_happenings t h)
job_happenings t (Answers j i ∷ h) = Replied j i ∷ job_happenings t h
job_happenings t (Refuses j ∷ h) = Replied j (input.Asked ask_refused) ∷ job_happenings t h
job_happenings t (Rounds ∷ h) = Round ∷ job_happenings t h
job_happenings t (_ ∷ h) = job_happenings t h

abbrev pub begun_in : List JobHappening → List Invoked
begun_in [] = []
begun_in (Accepted c now ∷ h) = begun_in h ++ c ∷ []
begun_in (_ ∷ h) = begun_in h

abbrev pub moments_in : List JobHappening → List ℕ
moments_in [] = []
moments_in (Accepted c now ∷ h) = moments_in h ++ now ∷ []
moments_in (_ ∷ h) = moments_in h

abbrev pub turns_in : ℕ → List JobHappening → List Turn
turns_in j [] = []
turns_in j (Turned k turn what ∷ h) = if j == k then turns_in j h ++ turn ∷ [] else turns_in j h
turns_in j (_ ∷ h) = turns_in j h

abbrev pub acts_in : ℕ → List JobHappening → List Act
acts_in j [] = []
acts_in j (Turned k turn what ∷ h) = if j == k then acts_in j h ++ what ∷ [] else acts_in j h
acts_in j (_ ∷ h) = acts_in j h

abbrev pub inputs_in : ℕ → List JobHappening → List (ℕ × Answer)
inputs_in j [] = []
inputs_in j (Came k w a ∷ h) = if j == k then inputs_in j h ++ (w, a) ∷ [] else inputs_in j h
inputs_in j (_ ∷ h) = inputs_in j h

abbrev pub marked_in : ℕ → List JobHappening → Bool
marked_in j [] = false
marked_in j (Marked k ∷ h) = (j == k) || marked_in j h
marked_in j (_ ∷ h) = marked_in j h

abbrev pub finishes : Act → Bool
finishes (act.End e) = true
finishes _ = false

abbrev pub over_in : ℕ → List JobHappening → Bool
over_in j [] = false
over_in j (Turned k turn what ∷ h) = ((j == k) && finishes what) || over_in j h
over_in j (Ended k ∷ h) = (j == k) || over_in j h
over_in j (_ ∷ h) = over_in j h

abbrev pub reply_in : ℕ → List JobHappening → Option Input
reply_in j [] = None
reply_in j (Turned k turn what ∷ h) = if j == k then None else reply_in j h
reply_in j (Replied k i ∷ h) = if j == k then Some i else reply_in j h
reply_in j (_ ∷ h) = reply_in j h

abbrev pub passed_in : List JobHappening → ℕ
passed_in [] = 0
passed_in (Round ∷ h) = 0
passed_in (Turned k turn what ∷ h) = suc k
passed_in (_ ∷ h) = passed_in h

-- ---- what the table of jobs decides by

abbrev pub live_job_in : ℕ → List JobHappening → Bool
live_job_in j h = nat_lt j (length (begun_in h)) && not (over_in j h)

abbrev pub live_jobs_in : List JobHappening → ℕ
live_jobs_in h = count_below (length (begun_in h)) (λ j. live_job_in j h)

abbrev pub inputs_left_in : ℕ → List JobHappening → ℕ
inputs_left_in j h = length (inputs_in j h) - used (turns_in j h)

abbrev pub inputs_waiting_in : ℕ → List JobHappening → List Input
inputs_waiting_in j h = drop (used (turns_in j h)) (map upload_input (inputs_in j h))

abbrev pub weight_in : ℕ → List JobHappening → ℕ
weight_in j h = if live_job_in j h then job_weight (slice_get (begun_in h) j) (inputs_waiting_in j h) (reply_in j h) else 0

abbrev pub kept_weight_in : List JobHappening → ℕ
kept_weight_in h = sum_below (length (begun_in h)) (λ j. weight_in j h)

abbrev pub shares_in : List (List ℕ) → ℕ → List JobHappening → ℕ → List (List ℕ) → Bool
shares_in those j h w [] = false
shares_in those j h w (k ∷ ks) = (is_among k those && not (has_end (of_stream w (inputs_in j h)))) || shares_in those j h (suc w) ks

abbrev pub clashes_in : Invoked → ℕ → List JobHappening → Option Invoked → Bool
clashes_in c j h None = false
clashes_in c j h (Some d) = same_id (id_of c.way) (id_of d.way) || shares_in c.streams j h 0 d.streams

abbrev pub in_use_in : Invoked → List JobHappening → Bool
in_use_in c h = any_below (length (begun_in h)) (λ j. live_job_in j h && clashes_in c j h (slice_get (begun_in h) j)) || repeats c.streams

abbrev pub next_input_in : ℕ → List JobHappening → Option Act → Option Input
next_input_in j h (Some act.Wait) = option_map upload_input (slice_get (inputs_in j h) (used (turns_in j h)))
next_input_in j h (Some (act.Ask target arguments)) = reply_in j h
next_input_in j h (Some (act.Do deed)) = reply_in j h
next_input_in j h _ = Some input.Go

abbrev pub is_due_in : ℕ → List JobHappening → Bool
is_due_in j h = live_job_in j h && (marked_in j h || is_some (next_input_in j h (last_of (acts_in j h))))

abbrev pub next_job_in : List JobHappening → Option ℕ
next_job_in h = first_from (passed_in h) (length (begun_in h) - passed_in h) (λ j. is_due_in j h)
