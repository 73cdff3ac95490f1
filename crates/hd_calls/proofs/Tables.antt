-- What a peer's history says of its calls and jobs, its tables see in their own happenings.
use Rattle.std.proofs.Common.{◌≡◌, ℕ, zero, suc, Bool, true, false, List, [], ◌∷◌, ◌++◌, Option, Some, None, refl, sym, ap, ◌∙◌}
use Rattle.std.specs.Prelude.{◌+◌, ◌-◌, max, length, drop, map, nat_lt, is_some, option_map, slice_get, ◌==◌, ◌||◌, ◌&&◌, not, if◌then◌else◌}
use Rattle.std.proofs.lemmas.Bool.{eqb-true}
use Rattle.hm_message.specs.declared.message.Codec.{Codec}
use Rattle.hm_message.specs.declared.message.Ending.{Ending}
use Rattle.hd_delivery.specs.Histories.{is_this, first_of}
use Rattle.hd_calls.specs.declared.vocabulary.Input.{Input}
use Rattle.hd_calls.specs.declared.vocabulary.Input.TheVariants as input
use Rattle.hd_calls.specs.declared.vocabulary.Act.{Act}
use Rattle.hd_calls.specs.declared.vocabulary.Act.TheVariants as act
use Rattle.hd_calls.specs.Weights.{job_weight}
use Rattle.hd_calls.specs.Hubs.{Way, Notify, Call, Stream, Invoked, End, Turn, id_of, upload_input}
use Rattle.hd_calls.specs.Peers.{Begins, Brings, Feeds, Marks, PeerEvent, Calls, Uploads, Handles, Runs, Answers, Refuses, Loses, Settings, drawn, call_of, given, lost, has_end, has_id, live_call, uploaded, stream_count, live_upload, begun, moments, turns, acts, inputs, is_cancelled, asker_of, last_of, asks, ask_refused, reply, ends_job, add, codec, over, Rounds, of_stream, live_job}
use Rattle.hd_calls.specs.Rules.{any_below, count_below, sum_below, live_uploads, own_live, live_jobs, used, inputs_left, inputs_waiting, weight_at, kept_weight, next_input, is_due, first_from, passed, next_job, is_among, repeats, same_id, shares, clashes, in_use}
use Rattle.hd_calls.specs.Tables.{call_happenings, drawn_in, call_in, given_in, lost_in, uploaded_in, live_call_in, live_upload_in, JobHappening, Turned, Ended, Replied, cut_short, reply_to, job_happenings, begun_in, moments_in, turns_in, acts_in, inputs_in, marked_in, over_in, reply_in, live_uploads_in, own_live_in, passed_in, live_job_in, live_jobs_in, inputs_left_in, inputs_waiting_in, weight_in, kept_weight_in, shares_in, clashes_in, in_use_in, next_input_in, is_due_in, next_job_in}
use Rattle.hd_calls.specs.Laws.{CallsAgree, JobsAgree}

pub drawn_is : (h : List PeerEvent) → drawn h ≡ drawn_in (call_happenings h)
drawn_is [] = refl
drawn_is (Calls a n c ∷ h) = ap (λ x. max x (n + length c.streams)) (drawn_is h)
drawn_is (Handles m (Brings n a floods) ∷ h) = drawn_is h
drawn_is (Handles m e ∷ h) = drawn_is h
drawn_is (_ ∷ h) = drawn_is h

pub call_is : (n : ℕ) (h : List PeerEvent) → call_of n h ≡ call_in n (call_happenings h)
call_is n [] = refl
call_is n (Calls a k c ∷ h) = ap (λ x. if n == k then Some c else x) (call_is n h)
call_is n (Handles m (Brings k a floods) ∷ h) = call_is n h
call_is n (Handles m e ∷ h) = call_is n h
call_is n (_ ∷ h) = call_is n h

pub given_is : (n : ℕ) (h : List PeerEvent) → given n h ≡ given_in n (call_happenings h)
given_is n [] = refl
given_is n (Handles m (Brings k a floods) ∷ h) = ap (λ x. if n == k then x ++ a ∷ [] else x) (given_is n h)
given_is n (Handles m e ∷ h) = given_is n h
given_is n (_ ∷ h) = given_is n h

pub lost_is : (n : ℕ) (h : List PeerEvent) → lost n h ≡ lost_in n (call_happenings h)
lost_is n [] = refl
lost_is n (Loses k ∷ h) = ap (λ x. (n == k) || x) (lost_is n h)
lost_is n (Handles m (Brings k a floods) ∷ h) = lost_is n h
lost_is n (Handles m e ∷ h) = lost_is n h
lost_is n (_ ∷ h) = lost_is n h

pub uploaded_is : (n w : ℕ) (h : List PeerEvent) → uploaded n w h ≡ uploaded_in n w (call_happenings h)
uploaded_is n w [] = refl
uploaded_is n w (Uploads k v a ∷ h) = ap (λ x. if (n == k) && (w == v) then x ++ a ∷ [] else x) (uploaded_is n w h)
uploaded_is n w (Handles m (Brings k a floods) ∷ h) = uploaded_is n w h
uploaded_is n w (Handles m e ∷ h) = uploaded_is n w h
uploaded_is n w (_ ∷ h) = uploaded_is n w h

pub live_is : (n : ℕ) (h : List PeerEvent) → live_call n h ≡ live_call_in n (call_happenings h)
live_is n h = ap (λ x. has_id x && (not (has_end (given n h)) && not (lost n h))) (call_is n h) ∙ (ap (λ x. has_id (call_in n (call_happenings h)) && (not (has_end x) && not (lost n h))) (given_is n h) ∙ ap (λ x. has_id (call_in n (call_happenings h)) && (not (has_end (given_in n (call_happenings h))) && not x)) (lost_is n h))

pub live_upload_is : (n w : ℕ) (h : List PeerEvent) → live_upload n w h ≡ live_upload_in n w (call_happenings h)
live_upload_is n w h =
    ap (λ x. (nat_lt w (stream_count x) && not (has_end (uploaded n w h))) && (live_call n h || not (has_id x))) (call_is n h)
    ∙ (ap (λ x. (nat_lt w (stream_count (call_in n (call_happenings h))) && not (has_end x)) && (live_call n h || not (has_id (call_in n (call_happenings h))))) (uploaded_is n w h)
    ∙ ap (λ x. (nat_lt w (stream_count (call_in n (call_happenings h))) && not (has_end (uploaded_in n w (call_happenings h)))) && (x || not (has_id (call_in n (call_happenings h))))) (live_is n h))

-- jobs ----------------------------------------------------------------------------

-- the further happenings change no list of turns
cut_turns : {A : Type 0} (f : List JobHappening → A) → ((j : ℕ) (h : List JobHappening) → f (Ended j ∷ h) ≡ f h) → (t : Settings) (code : Codec) (way : Way) (j : ℕ) (what : Act) (h : List JobHappening) → f (add (cut_short t code way j what) h) ≡ f h
cut_turns f same t code way j (act.Item v) h = go (ends_job t code way (act.Item v))
  where
    go : (b : Bool) → f (add (if b then Some (Ended j) else None) h) ≡ f h
    go true = same j h
    go false = refl
cut_turns f same t code way j act.More h = refl
cut_turns f same t code way j act.Wait h = refl
cut_turns f same t code way j (act.End e) h = refl
cut_turns f same t code way j (act.Ask a b) h = refl
cut_turns f same t code way j (act.Do d) h = refl

reply_turns : {A : Type 0} (f : List JobHappening → A) → ((j : ℕ) (i : Input) (h : List JobHappening) → f (Replied j i ∷ h) ≡ f h) → (h : List PeerEvent) (e : Ending) (o : Option ℕ) (xs : List JobHappening) → f (add (reply_to h e o) xs) ≡ f xs
reply_turns f same h e None xs = refl
reply_turns f same h e (Some j) xs = go (asks (last_of (acts j h)) && not (is_some (reply j h)))
  where
    go : (b : Bool) → f (add (if b then Some (Replied j (input.Asked e)) else None) xs) ≡ f xs
    go true = same j (input.Asked e) xs
    go false = refl

pub begun_is : (t : Settings) (h : List PeerEvent) → begun h ≡ begun_in (job_happenings t h)
begun_is t [] = refl
begun_is t (Handles m (Begins c now floods) ∷ h) = ap (λ x. x ++ c ∷ []) (begun_is t h)
begun_is t (Handles m (Brings n (End e) floods) ∷ h) = begun_is t h ∙ sym (reply_turns begun_in (λ j i xs. refl) h e (asker_of n h) (job_happenings t h))
begun_is t (Handles m e ∷ h) = begun_is t h
begun_is t (Runs j c since turn what ∷ h) = begun_is t h ∙ sym (cut_turns begun_in (λ k xs. refl) t (codec t h) c.way j what (Turned j turn what ∷ job_happenings t h))
begun_is t (_ ∷ h) = begun_is t h

pub moments_are : (t : Settings) (h : List PeerEvent) → moments h ≡ moments_in (job_happenings t h)
moments_are t [] = refl
moments_are t (Handles m (Begins c now floods) ∷ h) = ap (λ x. x ++ now ∷ []) (moments_are t h)
moments_are t (Handles m (Brings n (End e) floods) ∷ h) = moments_are t h ∙ sym (reply_turns moments_in (λ j i xs. refl) h e (asker_of n h) (job_happenings t h))
moments_are t (Handles m e ∷ h) = moments_are t h
moments_are t (Runs j c since turn what ∷ h) = moments_are t h ∙ sym (cut_turns moments_in (λ k xs. refl) t (codec t h) c.way j what (Turned j turn what ∷ job_happenings t h))
moments_are t (_ ∷ h) = moments_are t h

pub turns_are : (t : Settings) (j : ℕ) (h : List PeerEvent) → turns j h ≡ turns_in j (job_happenings t h)
turns_are t j [] = refl
turns_are t j (Handles m (Brings n (End e) floods) ∷ h) = turns_are t j h ∙ sym (reply_turns (turns_in j) (λ k i xs. refl) h e (asker_of n h) (job_happenings t h))
turns_are t j (Handles m e ∷ h) = turns_are t j h
turns_are t j (Runs k c since turn what ∷ h) = ap (λ x. if j == k then x ++ turn ∷ [] else x) (turns_are t j h) ∙ sym (cut_turns (turns_in j) (λ k xs. refl) t (codec t h) c.way k what (Turned k turn what ∷ job_happenings t h))
turns_are t j (_ ∷ h) = turns_are t j h

pub acts_are : (t : Settings) (j : ℕ) (h : List PeerEvent) → acts j h ≡ acts_in j (job_happenings t h)
acts_are t j [] = refl
acts_are t j (Handles m (Brings n (End e) floods) ∷ h) = acts_are t j h ∙ sym (reply_turns (acts_in j) (λ k i xs. refl) h e (asker_of n h) (job_happenings t h))
acts_are t j (Handles m e ∷ h) = acts_are t j h
acts_are t j (Runs k c since turn what ∷ h) = ap (λ x. if j == k then x ++ what ∷ [] else x) (acts_are t j h) ∙ sym (cut_turns (acts_in j) (λ k xs. refl) t (codec t h) c.way k what (Turned k turn what ∷ job_happenings t h))
acts_are t j (_ ∷ h) = acts_are t j h

pub inputs_are : (t : Settings) (j : ℕ) (h : List PeerEvent) → inputs j h ≡ inputs_in j (job_happenings t h)
inputs_are t j [] = refl
inputs_are t j (Handles m (Feeds k w a) ∷ h) = ap (λ x. if j == k then x ++ (w, a) ∷ [] else x) (inputs_are t j h)
inputs_are t j (Handles m (Brings n (End e) floods) ∷ h) = inputs_are t j h ∙ sym (reply_turns (inputs_in j) (λ k i xs. refl) h e (asker_of n h) (job_happenings t h))
inputs_are t j (Handles m e ∷ h) = inputs_are t j h
inputs_are t j (Runs k c since turn what ∷ h) = inputs_are t j h ∙ sym (cut_turns (inputs_in j) (λ k xs. refl) t (codec t h) c.way k what (Turned k turn what ∷ job_happenings t h))
inputs_are t j (_ ∷ h) = inputs_are t j h

pub marks_are : (t : Settings) (j : ℕ) (h : List PeerEvent) → is_cancelled j h ≡ marked_in j (job_happenings t h)
marks_are t j [] = refl
marks_are t j (Handles m (Marks k) ∷ h) = ap (λ x. (j == k) || x) (marks_are t j h)
marks_are t j (Handles m (Brings n (End e) floods) ∷ h) = marks_are t j h ∙ sym (reply_turns (marked_in j) (λ k i xs. refl) h e (asker_of n h) (job_happenings t h))
marks_are t j (Handles m e ∷ h) = marks_are t j h
marks_are t j (Runs k c since turn what ∷ h) = marks_are t j h ∙ sym (cut_turns (marked_in j) (λ k xs. refl) t (codec t h) c.way k what (Turned k turn what ∷ job_happenings t h))
marks_are t j (_ ∷ h) = marks_are t j h

-- a job is over where it finished or was ended
run_over : (t : Settings) (code : Codec) (way : Way) (j k : ℕ) (turn : Turn) (what : Act) (h : List JobHappening) → (((j == k) && ends_job t code way what) || over_in j h) ≡ over_in j (add (cut_short t code way k what) (Turned k turn what ∷ h))
run_over t code way j k turn (act.Item v) h = go (ends_job t code way (act.Item v)) (j == k) ∙ shape (ends_job t code way (act.Item v))
  where
    shape : (b : Bool) → (if b then (j == k) || (((j == k) && false) || over_in j h) else ((j == k) && false) || over_in j h) ≡ over_in j (add (if b then Some (Ended k) else None) (Turned k turn (act.Item v) ∷ h))
    shape true = refl
    shape false = refl

    go : (b a : Bool) → ((a && b) || over_in j h) ≡ (if b then a || ((a && false) || over_in j h) else (a && false) || over_in j h)
    go true true = refl
    go true false = refl
    go false a = refl
run_over t code Notify j k turn (act.End e) h = refl
run_over t code (Call i) j k turn (act.End e) h = refl
run_over t code (Stream i) j k turn (act.End e) h = refl
run_over t code Notify j k turn what h = refl
run_over t code (Call i) j k turn what h = refl
run_over t code (Stream i) j k turn what h = refl

pub over_is : (t : Settings) (j : ℕ) (h : List PeerEvent) → over t j h ≡ over_in j (job_happenings t h)
over_is t j [] = refl
over_is t j (Handles m (Brings n (End e) floods) ∷ h) = over_is t j h ∙ sym (reply_turns (over_in j) (λ k i xs. refl) h e (asker_of n h) (job_happenings t h))
over_is t j (Handles m e ∷ h) = over_is t j h
over_is t j (Runs k c since turn what ∷ h) = ap (λ x. ((j == k) && ends_job t (codec t h) c.way what) || x) (over_is t j h) ∙ run_over t (codec t h) c.way j k turn what (job_happenings t h)
over_is t j (_ ∷ h) = over_is t j h

-- the reply of a job
reply_brought : (j : ℕ) (h : List PeerEvent) (e : Ending) (o : Option ℕ) (xs : List JobHappening) → reply j h ≡ reply_in j xs → (if is_this j o && asks (last_of (acts j h)) then first_of (reply j h) (Some (input.Asked e)) else reply j h) ≡ reply_in j (add (reply_to h e o) xs)
reply_brought j h e None xs s = s
reply_brought j h e (Some k) xs s = go (j == k) refl
  where
    same : (b : Bool) → (j == k) ≡ false → reply_in j (add (if b then Some (Replied k (input.Asked e)) else None) xs) ≡ reply_in j xs
    same true f = ap (λ x. if x then Some (input.Asked e) else reply_in j xs) f
    same false f = refl

    other : (a : Bool) (o : Option Input) → reply_in j xs ≡ o → (j == k) ≡ true → (if true && a then first_of o (Some (input.Asked e)) else o) ≡ reply_in j (add (if a && not (is_some o) then Some (Replied k (input.Asked e)) else None) xs)
    other true None q f = sym (ap (λ x. if x then Some (input.Asked e) else reply_in j xs) f)
    other true (Some i) q f = sym q
    other false o q f = sym q

    go : (b : Bool) → (j == k) ≡ b → (if b && asks (last_of (acts j h)) then first_of (reply j h) (Some (input.Asked e)) else reply j h) ≡ reply_in j (add (reply_to h e (Some k)) xs)
    go false f = s ∙ sym (same (asks (last_of (acts k h)) && not (is_some (reply k h))) f)
    go true f =
        let z = eqb-true j k f in
        other (asks (last_of (acts j h))) (reply j h) (sym s) f ∙ ap (λ x. reply_in j (add (if asks (last_of (acts x h)) && not (is_some (reply x h)) then Some (Replied k (input.Asked e)) else None) xs)) z

pub reply_is : (t : Settings) (j : ℕ) (h : List PeerEvent) → reply j h ≡ reply_in j (job_happenings t h)
reply_is t j [] = refl
reply_is t j (Handles m (Brings n (End e) floods) ∷ h) = reply_brought j h e (asker_of n h) (job_happenings t h) (reply_is t j h)
reply_is t j (Handles m e ∷ h) = reply_is t j h
reply_is t j (Runs k c since turn what ∷ h) = ap (λ x. if j == k then None else x) (reply_is t j h) ∙ sym (cut_turns (reply_in j) (λ k xs. refl) t (codec t h) c.way k what (Turned k turn what ∷ job_happenings t h))
reply_is t j (Answers k i ∷ h) = ap (λ x. if j == k then Some i else x) (reply_is t j h)
reply_is t j (Refuses k ∷ h) = ap (λ x. if j == k then Some (input.Asked ask_refused) else x) (reply_is t j h)
reply_is t j (_ ∷ h) = reply_is t j h

-- ---- what the tables decide by

count_same : (n : ℕ) (p q : ℕ → Bool) → ((j : ℕ) → p j ≡ q j) → count_below n p ≡ count_below n q
count_same zero p q f = refl
count_same (suc n) p q f = ap (λ b. if b then suc (count_below n p) else count_below n p) (f n) ∙ ap (λ k. if q n then suc k else k) (count_same n p q f)

sum_same : (n : ℕ) (f g : ℕ → ℕ) → ((j : ℕ) → f j ≡ g j) → sum_below n f ≡ sum_below n g
sum_same zero f g e = refl
sum_same (suc n) f g e = ap (λ k. k + sum_below n f) (e n) ∙ ap (λ k. g n + k) (sum_same n f g e)

any_same : (n : ℕ) (p q : ℕ → Bool) → ((j : ℕ) → p j ≡ q j) → any_below n p ≡ any_below n q
any_same zero p q f = refl
any_same (suc n) p q f = ap (λ b. b || any_below n p) (f n) ∙ ap (λ b. q n || b) (any_same n p q f)

first_same : (k n : ℕ) (p q : ℕ → Bool) → ((j : ℕ) → p j ≡ q j) → first_from k n p ≡ first_from k n q
first_same k zero p q f = refl
first_same k (suc n) p q f = ap (λ b. if b then Some k else first_from (suc k) n p) (f k) ∙ ap (λ o. if q k then Some k else o) (first_same (suc k) n p q f)

live_uploads_are : (n : ℕ) (h : List PeerEvent) → live_uploads n h ≡ live_uploads_in n (call_happenings h)
live_uploads_are n h = ap (λ o. count_below (stream_count o) (λ w. live_upload n w h)) (call_is n h) ∙ count_same (stream_count (call_in n (call_happenings h))) (λ w. live_upload n w h) (λ w. live_upload_in n w (call_happenings h)) (λ w. live_upload_is n w h)

own_is : (h : List PeerEvent) → own_live h ≡ own_live_in (call_happenings h)
own_is h =
    let d = suc (drawn_in (call_happenings h)) in
    ap (λ k. count_below (suc k) (λ n. live_call n h) + sum_below (suc k) (λ n. live_uploads n h)) (drawn_is h)
    ∙ (ap (λ k. k + sum_below (suc (drawn_in (call_happenings h))) (λ n. live_uploads n h)) (count_same (suc (drawn_in (call_happenings h))) (λ n. live_call n h) (λ n. live_call_in n (call_happenings h)) (λ n. live_is n h))
    ∙ ap (λ k. count_below (suc (drawn_in (call_happenings h))) (λ n. live_call_in n (call_happenings h)) + k) (sum_same (suc (drawn_in (call_happenings h))) (λ n. live_uploads n h) (λ n. live_uploads_in n (call_happenings h)) (λ n. live_uploads_are n h)))

live_job_is : (t : Settings) (j : ℕ) (h : List PeerEvent) → live_job t j h ≡ live_job_in j (job_happenings t h)
live_job_is t j h = ap (λ cs. nat_lt j (length cs) && not (over t j h)) (begun_is t h) ∙ ap (λ b. nat_lt j (length (begun_in (job_happenings t h))) && not b) (over_is t j h)

live_jobs_are : (t : Settings) (h : List PeerEvent) → live_jobs t h ≡ live_jobs_in (job_happenings t h)
live_jobs_are t h = ap (λ cs. count_below (length cs) (λ j. live_job t j h)) (begun_is t h) ∙ count_same (length (begun_in (job_happenings t h))) (λ j. live_job t j h) (λ j. live_job_in j (job_happenings t h)) (λ j. live_job_is t j h)

left_is : (t : Settings) (j : ℕ) (h : List PeerEvent) → inputs_left j h ≡ inputs_left_in j (job_happenings t h)
left_is t j h = ap (λ xs. length xs - used (turns j h)) (inputs_are t j h) ∙ ap (λ ts. length (inputs_in j (job_happenings t h)) - used ts) (turns_are t j h)

waiting_are : (t : Settings) (j : ℕ) (h : List PeerEvent) → inputs_waiting j h ≡ inputs_waiting_in j (job_happenings t h)
waiting_are t j h = ap (λ xs. drop (used (turns j h)) (map upload_input xs)) (inputs_are t j h) ∙ ap (λ ts. drop (used ts) (map upload_input (inputs_in j (job_happenings t h)))) (turns_are t j h)

weight_is : (t : Settings) (j : ℕ) (h : List PeerEvent) → weight_at t j h ≡ weight_in j (job_happenings t h)
weight_is t j h =
    ap (λ b. if b then job_weight (slice_get (begun h) j) (inputs_waiting j h) (reply j h) else 0) (live_job_is t j h)
    ∙ (ap (λ cs. if live_job_in j (job_happenings t h) then job_weight (slice_get cs j) (inputs_waiting j h) (reply j h) else 0) (begun_is t h)
    ∙ (ap (λ xs. if live_job_in j (job_happenings t h) then job_weight (slice_get (begun_in (job_happenings t h)) j) xs (reply j h) else 0) (waiting_are t j h)
    ∙ ap (λ r. if live_job_in j (job_happenings t h) then job_weight (slice_get (begun_in (job_happenings t h)) j) (inputs_waiting_in j (job_happenings t h)) r else 0) (reply_is t j h)))

weighs_is : (t : Settings) (h : List PeerEvent) → kept_weight t h ≡ kept_weight_in (job_happenings t h)
weighs_is t h = ap (λ cs. sum_below (length cs) (λ j. weight_at t j h)) (begun_is t h) ∙ sum_same (length (begun_in (job_happenings t h))) (λ j. weight_at t j h) (λ j. weight_in j (job_happenings t h)) (λ j. weight_is t j h)

shares_are : (t : Settings) (those : List (List ℕ)) (j : ℕ) (h : List PeerEvent) (w : ℕ) (ks : List (List ℕ)) → shares those j h w ks ≡ shares_in those j (job_happenings t h) w ks
shares_are t those j h w [] = refl
shares_are t those j h w (k ∷ ks) =
    ap (λ xs. (is_among k those && not (has_end (of_stream w xs))) || shares those j h (suc w) ks) (inputs_are t j h)
    ∙ ap (λ b. (is_among k those && not (has_end (of_stream w (inputs_in j (job_happenings t h))))) || b) (shares_are t those j h (suc w) ks)

clashes_are : (t : Settings) (c : Invoked) (j : ℕ) (h : List PeerEvent) (o : Option Invoked) → clashes c j h o ≡ clashes_in c j (job_happenings t h) o
clashes_are t c j h None = refl
clashes_are t c j h (Some d) = ap (λ b. same_id (id_of c.way) (id_of d.way) || b) (shares_are t c.streams j h 0 d.streams)

uses_are : (t : Settings) (c : Invoked) (h : List PeerEvent) → in_use t c h ≡ in_use_in c (job_happenings t h)
uses_are t c h =
    ap (λ cs. any_below (length cs) (λ j. live_job t j h && clashes c j h (slice_get cs j)) || repeats c.streams) (begun_is t h)
    ∙ ap (λ b. b || repeats c.streams) (any_same (length (begun_in (job_happenings t h))) (λ j. live_job t j h && clashes c j h (slice_get (begun_in (job_happenings t h)) j)) (λ j. live_job_in j (job_happenings t h) && clashes_in c j (job_happenings t h) (slice_get (begun_in (job_happenings t h)) j)) (λ j.
    ap (λ b. b && clashes c j h (slice_get (begun_in (job_happenings t h)) j)) (live_job_is t j h)
    ∙ ap (λ b. live_job_in j (job_happenings t h) && b) (clashes_are t c j h (slice_get (begun_in (job_happenings t h)) j))))

next_input_is : (t : Settings) (j : ℕ) (h : List PeerEvent) (o : Option Act) → next_input j h o ≡ next_input_in j (job_happenings t h) o
next_input_is t j h None = refl
next_input_is t j h (Some act.Wait) = ap (λ xs. option_map upload_input (slice_get xs (used (turns j h)))) (inputs_are t j h) ∙ ap (λ ts. option_map upload_input (slice_get (inputs_in j (job_happenings t h)) (used ts))) (turns_are t j h)
next_input_is t j h (Some (act.Ask a b)) = reply_is t j h
next_input_is t j h (Some (act.Do d)) = reply_is t j h
next_input_is t j h (Some act.More) = refl
next_input_is t j h (Some (act.Item v)) = refl
next_input_is t j h (Some (act.End e)) = refl

due_is : (t : Settings) (j : ℕ) (h : List PeerEvent) → is_due t j h ≡ is_due_in j (job_happenings t h)
due_is t j h =
    ap (λ b. b && (is_cancelled j h || is_some (next_input j h (last_of (acts j h))))) (live_job_is t j h)
    ∙ (ap (λ b. live_job_in j (job_happenings t h) && (b || is_some (next_input j h (last_of (acts j h))))) (marks_are t j h)
    ∙ (ap (λ o. live_job_in j (job_happenings t h) && (marked_in j (job_happenings t h) || is_some o)) (next_input_is t j h (last_of (acts j h)))
    ∙ ap (λ xs. live_job_in j (job_happenings t h) && (marked_in j (job_happenings t h) || is_some (next_input_in j (job_happenings t h) (last_of xs)))) (acts_are t j h)))

passed_cut : (t : Settings) (code : Codec) (way : Way) (k : ℕ) (what : Act) (xs : List JobHappening) → passed_in (add (cut_short t code way k what) xs) ≡ passed_in xs
passed_cut t code way k what xs = cut_turns passed_in (λ j ys. refl) t code way k what xs

passed_is : (t : Settings) (h : List PeerEvent) → passed h ≡ passed_in (job_happenings t h)
passed_is t [] = refl
passed_is t (Handles m (Brings n (End e) floods) ∷ h) = passed_is t h ∙ sym (reply_turns passed_in (λ k i xs. refl) h e (asker_of n h) (job_happenings t h))
passed_is t (Handles m e ∷ h) = passed_is t h
passed_is t (Runs k c since turn what ∷ h) = sym (passed_cut t (codec t h) c.way k what (Turned k turn what ∷ job_happenings t h))
passed_is t (Rounds ∷ h) = refl
passed_is t (_ ∷ h) = passed_is t h

next_is : (t : Settings) (h : List PeerEvent) → next_job t h ≡ next_job_in (job_happenings t h)
next_is t h =
    ap (λ k. first_from k (length (begun h) - k) (λ j. is_due t j h)) (passed_is t h)
    ∙ (ap (λ cs. first_from (passed_in (job_happenings t h)) (length cs - passed_in (job_happenings t h)) (λ j. is_due t j h)) (begun_is t h)
    ∙ first_same (passed_in (job_happenings t h)) (length (begun_in (job_happenings t h)) - passed_in (job_happenings t h)) (λ j. is_due t j h) (λ j. is_due_in j (job_happenings t h)) (λ j. due_is t j h))

pub calls_agree : (h : List PeerEvent) → CallsAgree h
calls_agree h = record {
  draws = drawn_is h;
  call = λ n. call_is n h;
  gives = λ n. given_is n h;
  loses = λ n. lost_is n h;
  uploads = λ n w. uploaded_is n w h;
  live = λ n. live_is n h;
  live_uploads = λ n w. live_upload_is n w h;
  own = own_is h;
}

pub jobs_agree : (t : Settings) (h : List PeerEvent) → JobsAgree t h
jobs_agree t h = record {
  begins = begun_is t h;
  began = moments_are t h;
  turn = λ j. turns_are t j h;
  does = λ j. acts_are t j h;
  fed = λ j. inputs_are t j h;
  marks = λ j. marks_are t j h;
  ends = λ j. over_is t j h;
  answers = λ j. reply_is t j h;
  live = λ j. live_job_is t j h;
  count = live_jobs_are t h;
  left = λ j. left_is t j h;
  weighs = weighs_is t h;
  uses = λ c. uses_are t c h;
  due = λ j. due_is t j h;
  passes = passed_is t h;
  next = next_is t h;
}
