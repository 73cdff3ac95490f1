-- What is sent for a job is what its acts give.
use Rattle.std.proofs.Common.{◌≡◌, ℕ, suc, Bool, true, false, List, [], ◌∷◌, ◌++◌, length, Option, Some, None, refl, sym, ap, ◌∙◌, subst}
use Rattle.std.specs.Prelude.{◌+◌, nat_lt, slice_get, option_map, ◌==◌, ◌||◌, ◌&&◌, not, if◌then◌else◌}
use Rattle.std.proofs.lemmas.Bool.{and_parts, not-true, eqb-true, eq-eqb}
use Rattle.hm_message.specs.declared.message.Codec.{Codec}
use Rattle.hm_message.specs.declared.message.Message.TheVariants.{StreamItem, Completion, CancelInvocation}
use Rattle.hm_message.specs.declared.message.Ending.{Ending}
use Rattle.hm_message.specs.Same.{same_text}
use Rattle.hd_delivery.specs.Histories.{sent_messages}
use Rattle.hd_delivery.specs.Bytes.{ByteStep}
use Rattle.hd_calls.specs.declared.vocabulary.Act.{Act}
use Rattle.hd_calls.specs.declared.vocabulary.Act.TheVariants as act
use Rattle.hd_calls.specs.Hubs.{Way, Notify, Call, Stream, Invoked, Answer, Item, End, Purpose, Turn, Given, Cancelled, Hub, id_of, is_stream, purpose_of, message_of, answer_message, value_in, ending_in, call_for}
use Rattle.hd_calls.specs.Peers.{Begins, PeerEvent, Plain, Calls, Uploads, Cancels, Reads, Handles, Runs, Answers, Refuses, Loses, Rounds, Settings, begun, moments, turns, acts, over, live_job, too_long, last_word, ending_answer, answer_of, ends_job, can_frame, add, answers, message_for, reason_of, shuts, byte_steps, codec, is_shut}
use Rattle.hd_calls.specs.Rules.{job_after, act_at, goes_on, run, IsDue, Follows}
use Rattle.hd_calls.specs.Ledgers.{IsLegal}
use Rattle.hd_calls.specs.PeerWorlds.{purposes, said_by, endings}
use Rattle.hd_calls.proofs.Lists.{both, not_true, append_none, get_front, same_refl, same-true}
use Rattle.hd_calls.proofs.Basics.{put, said, said-append, message-purpose, answer-purpose}
use Rattle.hd_calls.proofs.Local.{sends, sending, frames_of, sent_add, shuts_sends, plain_sends}

-- what one act sends
abbrev pub replies : Settings → Codec → Way → Act → List Purpose
replies t code way what = sends (sending (message_for way (answer_of t code way what)))

-- what was sent for jobs with an id
abbrev pub told : Settings → List ℕ → List PeerEvent → List Answer
told t i [] = []
told t i (Runs j c since turn what ∷ h) = told t i h ++ said i (replies t (codec t h) c.way what)
told t i (_ ∷ h) = told t i h

pub differ : (i k : List ℕ) → (k ≡ i → ⊥) → same_text i k ≡ false
differ i k f = not_true (same_text i k) (λ e. f (sym (same-true i k e)))

pub spelled_other : (i k : List ℕ) (a : Answer) → same_text i k ≡ false → said i (purpose_of (answer_message k a) ∷ []) ≡ []
spelled_other i k a e = ap (λ p. said i (p ∷ [])) (answer-purpose k a) ∙ ap (λ b. put b a []) e

pub spelled_same : (i : List ℕ) (a : Answer) → said i (purpose_of (answer_message i a) ∷ []) ≡ a ∷ []
spelled_same i a = ap (λ p. said i (p ∷ [])) (answer-purpose i a) ∙ ap (λ b. put b a []) (same_refl i)

pub unsaid : (t : Settings) (i : List ℕ) (o : Option ByteStep) (s : List ByteStep) → said i (sends o) ≡ [] → said i (purposes (sent_messages (frames_of t (add o s)))) ≡ said i (purposes (sent_messages (frames_of t s)))
unsaid t i o s e =
    let xs = purposes (sent_messages (frames_of t s)) in
    ap (said i) (sent_add t o s) ∙ (said-append i xs (sends o) ∙ (ap (λ ys. said i xs ++ ys) e ∙ append_none (said i xs)))

-- a call says no answer
pub call_unsaid : (i : List ℕ) (c : Invoked) → said i (sends (sending (Some (message_of c)))) ≡ []
call_unsaid i c = ap (λ p. said i (p ∷ [])) (message-purpose c)

module _ {Job : Type 0} (hub : Hub Job) (t : Settings) (i : List ℕ) (foreign : (k : ℕ) → t.name k ≡ i → ⊥) where
  pub told_is : (h : List PeerEvent) → Follows hub t h → said i (said_by t h) ≡ told t i h
  told_is [] p = refl
  told_is (Plain s ∷ h) p = unsaid t i (Some s) (byte_steps t h) (ap (said i) (plain_sends h s p.1)) ∙ told_is h p.0
  told_is (Calls a n call ∷ h) p = unsaid t i (sending (Some (message_of call))) (byte_steps t h) (call_unsaid i call) ∙ told_is h p.0
  told_is (Uploads n w a ∷ h) p = unsaid t i (sending (Some (answer_message (t.name (suc (n + w))) a))) (byte_steps t h) (spelled_other i (t.name (suc (n + w))) a (differ i (t.name (suc (n + w))) (foreign (suc (n + w))))) ∙ told_is h p.0
  told_is (Cancels n ∷ h) p = unsaid t i (sending (Some (CancelInvocation [] (t.name n)))) (byte_steps t h) refl ∙ told_is h p.0
  told_is (Reads m ∷ h) p = told_is h p.0
  told_is (Handles m e ∷ h) p = unsaid t i (shuts (is_shut t h) (reason_of e)) (byte_steps t h) (ap (said i) (shuts_sends (is_shut t h) (reason_of e))) ∙ told_is h p.0
  told_is (Runs j call since turn what ∷ h) p =
      let o : Option ByteStep = sending (message_for call.way (answer_of t (codec t h) call.way what)) in
      ap (said i) (sent_add t o (byte_steps t h)) ∙ (said-append i (said_by t h) (sends o) ∙ ap (λ xs. xs ++ said i (replies t (codec t h) call.way what)) (told_is h p.0))
  told_is (Answers j k ∷ h) p = told_is h p.0
  told_is (Refuses j ∷ h) p = told_is h p.0
  told_is (Loses n ∷ h) p = told_is h p.0
  told_is (Rounds ∷ h) p = told_is h p.0

-- what an act sends, by its job's id
option_other : (i k : List ℕ) (o : Option Answer) → same_text i k ≡ false → said i (sends (sending (option_map (answer_message k) o))) ≡ []
option_other i k None e = refl
option_other i k (Some a) e = spelled_other i k a e

option_same : (i : List ℕ) (o : Option Answer) → said i (sends (sending (option_map (answer_message i) o))) ≡ add o []
option_same i None = refl
option_same i (Some a) = spelled_same i a

pub replies_other : (t : Settings) (code : Codec) (i : List ℕ) (way : Way) (what : Act) → (id_of way ≡ Some i → ⊥) → said i (replies t code way what) ≡ []
replies_other t code i Notify what f = refl
replies_other t code i (Call k) what f = option_other i k (answer_of t code (Call k) what) (differ i k (λ e. f (ap Some e)))
replies_other t code i (Stream k) what f = option_other i k (answer_of t code (Stream k) what) (differ i k (λ e. f (ap Some e)))

replies_same : (t : Settings) (code : Codec) (i : List ℕ) (way : Way) (what : Act) → id_of way ≡ Some i → said i (replies t code way what) ≡ add (answer_of t code way what) []
replies_same t code i Notify what e = absurd (cc)
replies_same t code i (Call k) what e = let f : i ≡ k = cc in subst (λ x. said x (replies t code (Call k) what) ≡ add (answer_of t code (Call k) what) []) (sym f) (option_same k (answer_of t code (Call k) what))
replies_same t code i (Stream k) what e = let f : i ≡ k = cc in subst (λ x. said x (replies t code (Stream k) what) ≡ add (answer_of t code (Stream k) what) []) (sym f) (option_same k (answer_of t code (Stream k) what))

-- the acts end the job
abbrev pub stops : Settings → Codec → Way → List Act → Bool
stops t code way [] = false
stops t code way (a ∷ xs) = ends_job t code way a || stops t code way xs

stops_push : (t : Settings) (code : Codec) (way : Way) (xs : List Act) (a : Act) → stops t code way (xs ++ a ∷ []) ≡ (stops t code way xs || ends_job t code way a)
stops_push t code way [] a = elim (ends_job t code way a) as (λ b. (b || false) ≡ b) [ true ↦ refl | false ↦ refl ]
stops_push t code way (x ∷ xs) a = let e = stops_push t code way xs a in elim (ends_job t code way x) as (λ b. (b || stops t code way (xs ++ a ∷ [])) ≡ ((b || stops t code way xs) || ends_job t code way a)) [ true ↦ refl | false ↦ e ]

or_swap : (a b : Bool) → (a || b) ≡ (b || a)
or_swap true true = refl
or_swap true false = refl
or_swap false true = refl
or_swap false false = refl

add_append : {A : Type 0} (o : Option A) (xs ys : List A) → add o xs ++ ys ≡ add o (xs ++ ys)
add_append None xs ys = refl
add_append (Some x) xs ys = refl

rest_push : (t : Settings) (code : Codec) (way : Way) (b : Bool) (xs : List Answer) (ys : List Answer) (zs : List Answer) → b ≡ false → zs ≡ xs ++ ys → (if b then [] else zs) ≡ (if b then [] else xs) ++ ys
rest_push t code way true xs ys zs e f = absurd (cc)
rest_push t code way false xs ys zs e f = f

parts_false : (a b : Bool) → (a || b) ≡ false → (a ≡ false) × (b ≡ false)
parts_false true b e = absurd (cc)
parts_false false b e = (refl, e)

no_rest : {A : Type 0} (b : Bool) (xs : List A) → xs ≡ [] → (if b then [] else xs) ≡ []
no_rest true xs e = refl
no_rest false xs e = e

pub answers_push : (t : Settings) (code : Codec) (way : Way) (xs : List Act) (a : Act) → stops t code way xs ≡ false → answers t code way (xs ++ a ∷ []) ≡ answers t code way xs ++ add (answer_of t code way a) []
answers_push t code way [] a e = ap (λ zs. add (answer_of t code way a) zs) (no_rest {A = Answer} (ends_job t code way a) [] refl)
answers_push t code way (x ∷ xs) a e =
    let q = parts_false (ends_job t code way x) (stops t code way xs) e in
    let ih = answers_push t code way xs a q.1 in
    ap (λ zs. add (answer_of t code way x) zs) (rest_push t code way (ends_job t code way x) (answers t code way xs) (add (answer_of t code way a) []) (answers t code way (xs ++ a ∷ [])) q.0 ih)
    ∙ sym (add_append (answer_of t code way x) (if ends_job t code way x then [] else answers t code way xs) (add (answer_of t code way a) []))

-- the jobs of a history are among these, at their places
abbrev pub Within : List Invoked → List ℕ → List PeerEvent → Type 0
Within cs ns h = ((k : ℕ) (d : Invoked) → slice_get (begun h) k ≡ Some d → slice_get cs k ≡ Some d) × ((k n : ℕ) → slice_get (moments h) k ≡ Some n → slice_get ns k ≡ Some n)

pub within_tail : (cs : List Invoked) (ns : List ℕ) (d : PeerEvent) (h : List PeerEvent) → Within cs ns (d ∷ h) → Within cs ns h
within_tail cs ns (Handles m (Begins c now floods)) h w = (λ k e f. w.0 k e (get_front (begun h) (c ∷ []) k e f), λ k n f. w.1 k n (get_front (moments h) (now ∷ []) k n f))
within_tail cs ns (Handles m e) h w = w
within_tail cs ns (Plain s) h w = w
within_tail cs ns (Calls a n call) h w = w
within_tail cs ns (Uploads n v a) h w = w
within_tail cs ns (Cancels n) h w = w
within_tail cs ns (Reads m) h w = w
within_tail cs ns (Runs j call since turn what) h w = w
within_tail cs ns (Answers j i) h w = w
within_tail cs ns (Refuses j) h w = w
within_tail cs ns (Loses n) h w = w
within_tail cs ns Rounds h w = w

pub live_parts : (t : Settings) (j : ℕ) (h : List PeerEvent) → live_job t j h ≡ true → (nat_lt j (length (begun h)) ≡ true) × (over t j h ≡ false)
live_parts t j h e = let q = and_parts (nat_lt j (length (begun h))) (not (over t j h)) e in (q.0, not-true (over t j h) q.1)

-- the codec in which the end spoke at each turn
abbrev pub Speaks : Settings → Codec → List PeerEvent → Type 0
Speaks t code [] = Unit {0}
Speaks t code (Runs j call since turn what ∷ h) = Speaks t code h × (codec t h ≡ code)
Speaks t code (_ ∷ h) = Speaks t code h

-- a turn is of a live job
pub due_live : (t : Settings) (j : ℕ) (h : List PeerEvent) (turn : Turn) → IsDue t j h turn → live_job t j h ≡ true
due_live t j h Cancelled d = d.0
due_live t j h (Given i now) d = d.0

module _ {Job : Type 0} (hub : Hub Job) (t : Settings) (code : Codec) (cs : List Invoked) (ns : List ℕ) (j : ℕ) (d : Invoked) (at : slice_get cs j ≡ Some d) where
  pub same_call : (k : ℕ) (e : Invoked) → slice_get cs k ≡ Some e → (j == k) ≡ true → e ≡ d
  same_call k e f g = let z = eqb-true j k g in let y : slice_get cs j ≡ Some e = subst (λ x. slice_get cs x ≡ Some e) (sym z) f in let x : Some e ≡ Some d = sym y ∙ at in cc

  -- a job is over where its acts end it
  pub over_is : (h : List PeerEvent) → Follows hub t h → Speaks t code h → Within cs ns h → over t j h ≡ stops t code d.way (acts j h)
  over_is [] p s w = refl
  over_is (Runs k call since turn what ∷ h) p s w = go (over_is h p.0 s.0 w) (j == k) refl
    where
      go : over t j h ≡ stops t code d.way (acts j h) → (b : Bool) → (j == k) ≡ b → ((b && ends_job t (codec t h) call.way what) || over t j h) ≡ stops t code d.way (if b then acts j h ++ what ∷ [] else acts j h)
      go ih false g = ih
      go ih true g = let same = same_call k call (w.0 k call p.1.at) g in
          ap (λ x. ends_job t x call.way what || over t j h) s.1 ∙ (ap (λ (x : Invoked). ends_job t code x.way what || over t j h) same ∙ (or_swap (ends_job t code d.way what) (over t j h) ∙ (ap (λ b. b || ends_job t code d.way what) ih ∙ sym (stops_push t code d.way (acts j h) what))))
  over_is (Handles m (Begins k now floods) ∷ h) p s w = over_is h p.0 s (within_tail cs ns (Handles m (Begins k now floods)) h w)
  over_is (Handles m e ∷ h) p s w = over_is h p.0 s w
  over_is (_ ∷ h) p s w = over_is h p.0 s w

  module _ (i : List ℕ) (id : id_of d.way ≡ Some i) (one : (k : ℕ) (e : Invoked) → slice_get cs k ≡ Some e → id_of e.way ≡ Some i → k ≡ j) where
    -- what was sent for the job is what its acts give
    pub told_answers : (h : List PeerEvent) → Follows hub t h → Speaks t code h → Within cs ns h → told t i h ≡ answers t code d.way (acts j h)
    told_answers [] p s w = refl
    told_answers (Runs k call since turn what ∷ h) p s w = go (told_answers h p.0 s.0 w) (j == k) refl
      where
        go : told t i h ≡ answers t code d.way (acts j h) → (b : Bool) → (j == k) ≡ b → told t i h ++ said i (replies t (codec t h) call.way what) ≡ answers t code d.way (if b then acts j h ++ what ∷ [] else acts j h)
        go ih false g =
            let f : id_of call.way ≡ Some i → ⊥ = λ e. let z = one k call (w.0 k call p.1.at) e in absurd (let y : false ≡ true = sym g ∙ eq-eqb j k (sym z) in cc) in
            ap (λ xs. told t i h ++ xs) (replies_other t (codec t h) i call.way what f) ∙ (append_none (told t i h) ∙ ih)
        go ih true g =
            let same = same_call k call (w.0 k call p.1.at) g in
            let z = eqb-true j k g in
            let o : over t j h ≡ false = (live_parts t j h (subst (λ x. live_job t x h ≡ true) (sym z) (due_live t k h turn p.1.due))).1 in
            (ap (λ x. told t i h ++ said i (replies t x call.way what)) s.1 ∙ ap (λ (x : Invoked). told t i h ++ said i (replies t code x.way what)) same)
            ∙ (ap (λ xs. told t i h ++ xs) (replies_same t code i d.way what id)
            ∙ (ap (λ xs. xs ++ add (answer_of t code d.way what) []) ih ∙ sym (answers_push t code d.way (acts j h) what (sym (over_is h p.0 s.0 w) ∙ o))))
    told_answers (Handles m (Begins k now floods) ∷ h) p s w = told_answers h p.0 s (within_tail cs ns (Handles m (Begins k now floods)) h w)
    told_answers (Handles m e ∷ h) p s w = told_answers h p.0 s w
    told_answers (_ ∷ h) p s w = told_answers h p.0 s w

-- nothing was sent for an id that no job has
pub told_nothing : {Job : Type 0} (hub : Hub Job) (t : Settings) (cs : List Invoked) (ns : List ℕ) (i : List ℕ) → ((k : ℕ) (e : Invoked) → slice_get cs k ≡ Some e → id_of e.way ≡ Some i → ⊥)
    → (h : List PeerEvent) → Follows hub t h → Within cs ns h → told t i h ≡ []
told_nothing hub t cs ns i none [] p w = refl
told_nothing hub t cs ns i none (Runs k call since turn what ∷ h) p w =
    ap (λ xs. told t i h ++ xs) (replies_other t (codec t h) i call.way what (λ e. none k call (w.0 k call p.1.at) e)) ∙ (append_none (told t i h) ∙ told_nothing hub t cs ns i none h p.0 w)
told_nothing hub t cs ns i none (Handles m (Begins k now floods) ∷ h) p w = told_nothing hub t cs ns i none h p.0 (within_tail cs ns (Handles m (Begins k now floods)) h w)
told_nothing hub t cs ns i none (Handles m e ∷ h) p w = told_nothing hub t cs ns i none h p.0 w
told_nothing hub t cs ns i none (_ ∷ h) p w = told_nothing hub t cs ns i none h p.0 w

-- the answers that acts give are legal
legal_alone : (t : Settings) (code : Codec) (s : Bool) (i : List ℕ) → IsLegal s (add (last_word t code i) [])
legal_alone t code s i = both (λ o. IsLegal s (add o [])) (can_frame t code (Completion [] i too_long)) (Some (End too_long)) None (λ e. refl) (λ e. tt)

legal_ending : (t : Settings) (code : Codec) (s : Bool) (i : List ℕ) (e : Ending) → IsLegal s (add (ending_answer t code i e) [])
legal_ending t code s i e = both (λ o. IsLegal s (add o [])) (can_frame t code (Completion [] i (ending_in code e))) (Some (End (ending_in code e))) (last_word t code i) (λ f. refl) (λ f. legal_alone t code s i)

pub answers_legal : (t : Settings) (code : Codec) (way : Way) (xs : List Act) → IsLegal (is_stream way) (answers t code way xs)
answers_legal t code way [] = tt
answers_legal t code Notify (act.End e ∷ xs) = tt
answers_legal t code (Call i) (act.End e ∷ xs) = legal_ending t code false i e
answers_legal t code (Stream i) (act.End e ∷ xs) = legal_ending t code true i e
answers_legal t code (Stream i) (act.Item v ∷ xs) = go (answers_legal t code (Stream i) xs) (can_frame t code (StreamItem [] i (value_in code v)))
  where
    go : IsLegal true (answers t code (Stream i) xs) → (b : Bool) → IsLegal true (add (if b then Some (Item (value_in code v)) else last_word t code i) (if not b then [] else answers t code (Stream i) xs))
    go ih true = (refl, ih)
    go ih false = legal_alone t code true i
answers_legal t code Notify (_ ∷ xs) = answers_legal t code Notify xs
answers_legal t code (Call i) (_ ∷ xs) = answers_legal t code (Call i) xs
answers_legal t code (Stream i) (_ ∷ xs) = answers_legal t code (Stream i) xs

-- a job that is over gave one ending, where its last word fits
one_last : (t : Settings) (code : Codec) (i : List ℕ) → can_frame t code (Completion [] i too_long) ≡ true → length (endings (add (last_word t code i) [])) ≡ 1
one_last t code i f = rw f refl

one_ending : (t : Settings) (code : Codec) (i : List ℕ) (e : Ending) → can_frame t code (Completion [] i too_long) ≡ true → length (endings (add (ending_answer t code i e) [])) ≡ 1
one_ending t code i e f = both (λ o. length (endings (add o [])) ≡ 1) (can_frame t code (Completion [] i (ending_in code e))) (Some (End (ending_in code e))) (last_word t code i) (λ g. refl) (λ g. one_last t code i f)

pub answers_end : (t : Settings) (code : Codec) (way : Way) (i : List ℕ) (xs : List Act) → id_of way ≡ Some i → can_frame t code (Completion [] i too_long) ≡ true → stops t code way xs ≡ true → length (endings (answers t code way xs)) ≡ 1
answers_end t code way i [] e f s = absurd (cc)
answers_end t code Notify i (x ∷ xs) e f s = absurd (cc)
answers_end t code (Call k) i (act.End v ∷ xs) e f s = let z : k ≡ i = cc in one_ending t code k v (subst (λ x. can_frame t code (Completion [] x too_long) ≡ true) (sym z) f)
answers_end t code (Stream k) i (act.End v ∷ xs) e f s = let z : k ≡ i = cc in one_ending t code k v (subst (λ x. can_frame t code (Completion [] x too_long) ≡ true) (sym z) f)
answers_end t code (Stream k) i (act.Item v ∷ xs) e f s = go (λ q. answers_end t code (Stream k) i xs e f q) (can_frame t code (StreamItem [] k (value_in code v))) refl s
  where
    go : (stops t code (Stream k) xs ≡ true → length (endings (answers t code (Stream k) xs)) ≡ 1) → (b : Bool) → can_frame t code (StreamItem [] k (value_in code v)) ≡ b → (not b || stops t code (Stream k) xs) ≡ true → length (endings (add (if b then Some (Item (value_in code v)) else last_word t code k) (if not b then [] else answers t code (Stream k) xs))) ≡ 1
    go ih true g q = ih q
    go ih false g q = let z : k ≡ i = cc in one_last t code k (subst (λ x. can_frame t code (Completion [] x too_long) ≡ true) (sym z) f)
answers_end t code (Call k) i (_ ∷ xs) e f s = answers_end t code (Call k) i xs e f s
answers_end t code (Stream k) i (_ ∷ xs) e f s = answers_end t code (Stream k) i xs e f s

-- runs ------------------------------------------------------------------------

abbrev pub finishing : List Act → Bool
finishing [] = false
finishing (act.End e ∷ xs) = true
finishing (_ ∷ xs) = finishing xs

pub finishing_stops : (t : Settings) (code : Codec) (way : Way) (xs : List Act) → stops t code way xs ≡ false → finishing xs ≡ false
finishing_stops t code way [] e = refl
finishing_stops t code way (act.End v ∷ xs) e = absurd (let z : true ≡ false = e in cc)
finishing_stops t code way (act.Item v ∷ xs) e = finishing_stops t code way xs (parts_false (ends_job t code way (act.Item v)) (stops t code way xs) e).1
finishing_stops t code way (act.More ∷ xs) e = finishing_stops t code way xs (parts_false (ends_job t code way act.More) (stops t code way xs) e).1
finishing_stops t code way (act.Wait ∷ xs) e = finishing_stops t code way xs (parts_false (ends_job t code way act.Wait) (stops t code way xs) e).1
finishing_stops t code way (act.Ask a b ∷ xs) e = finishing_stops t code way xs (parts_false (ends_job t code way (act.Ask a b)) (stops t code way xs) e).1
finishing_stops t code way (act.Do a ∷ xs) e = finishing_stops t code way xs (parts_false (ends_job t code way (act.Do a)) (stops t code way xs) e).1

goes_none : (a : Act) → goes_on a [] ≡ []
goes_none (act.End e) = refl
goes_none act.More = refl
goes_none act.Wait = refl
goes_none (act.Item v) = refl
goes_none (act.Ask a b) = refl
goes_none (act.Do a) = refl

goes_further : (a : Act) (xs ys : List Act) (b : Act) → finishing (a ∷ goes_on a xs) ≡ false → (finishing xs ≡ false → ys ≡ xs ++ b ∷ []) → a ∷ goes_on a ys ≡ (a ∷ goes_on a xs) ++ b ∷ []
goes_further (act.End e) xs ys b f g = absurd (let z : true ≡ false = f in cc)
goes_further act.More xs ys b f g = ap (λ zs. act.More ∷ zs) (g f)
goes_further act.Wait xs ys b f g = ap (λ zs. act.Wait ∷ zs) (g f)
goes_further (act.Item v) xs ys b f g = ap (λ zs. act.Item v ∷ zs) (g f)
goes_further (act.Ask c d) xs ys b f g = ap (λ zs. act.Ask c d ∷ zs) (g f)
goes_further (act.Do c) xs ys b f g = ap (λ zs. act.Do c ∷ zs) (g f)

run_push : {Job : Type 0} (hub : Hub Job) (job : Job) (ts : List Turn) (u : Turn) → finishing (run hub job ts) ≡ false → run hub job (ts ++ u ∷ []) ≡ run hub job ts ++ act_at hub (job_after hub job ts) u ∷ []
run_push hub job [] (Given i now) f = ap (λ xs. (hub.step_of job i now).1 ∷ xs) (goes_none (hub.step_of job i now).1)
run_push hub job [] Cancelled f = refl
run_push hub job (Given i now ∷ ts) u f =
    let s = hub.step_of job i now in
    goes_further s.1 (run hub s.0 ts) (run hub s.0 (ts ++ u ∷ [])) (act_at hub (job_after hub s.0 ts) u) f (λ g. run_push hub s.0 ts u g)
run_push hub job (Cancelled ∷ ts) u f = absurd (let z : true ≡ false = f in cc)

-- what a job did is the run of its turns
pub acts_run : {Job : Type 0} (hub : Hub Job) (t : Settings) (code : Codec) (cs : List Invoked) (ns : List ℕ) (j : ℕ) (d : Invoked) (n : ℕ) → slice_get cs j ≡ Some d → slice_get ns j ≡ Some n
    → (h : List PeerEvent) → Follows hub t h → Speaks t code h → Within cs ns h → acts j h ≡ run hub (hub.begin_of (call_for t.who d) n) (turns j h)
acts_run hub t code cs ns j d n at on [] p s w = refl
acts_run hub t code cs ns j d n at on (Runs k call since turn what ∷ h) p s w = go (acts_run hub t code cs ns j d n at on h p.0 s.0 w) (j == k) refl
  where
    go : acts j h ≡ run hub (hub.begin_of (call_for t.who d) n) (turns j h) → (b : Bool) → (j == k) ≡ b → (if b then acts j h ++ what ∷ [] else acts j h) ≡ run hub (hub.begin_of (call_for t.who d) n) (if b then turns j h ++ turn ∷ [] else turns j h)
    go ih false g = ih
    go ih true g =
        let z = eqb-true j k g in
        let e : call ≡ d = same_call hub t code cs ns j d at k call (w.0 k call p.1.at) g in
        let y : slice_get ns j ≡ Some since = subst (λ x. slice_get ns x ≡ Some since) (sym z) (w.1 k since p.1.began) in
        let x : Some since ≡ Some n = sym y ∙ on in
        let v : since ≡ n = cc in
        let o : over t j h ≡ false = (live_parts t j h (subst (λ q. live_job t q h ≡ true) (sym z) (due_live t k h turn p.1.due))).1 in
        let f : finishing (run hub (hub.begin_of (call_for t.who d) n) (turns j h)) ≡ false = ap finishing (sym ih) ∙ finishing_stops t code d.way (acts j h) (sym (over_is hub t code cs ns j d at h p.0 s.0 w) ∙ o) in
        let act_is : what ≡ act_at hub (job_after hub (hub.begin_of (call_for t.who d) n) (turns j h)) turn = p.1.is ∙ (ap (λ q. act_at hub (job_after hub (hub.begin_of (call_for t.who call) since) (turns q h)) turn) (sym z) ∙ (ap (λ q. act_at hub (job_after hub (hub.begin_of (call_for t.who q) since) (turns j h)) turn) e ∙ ap (λ q. act_at hub (job_after hub (hub.begin_of (call_for t.who d) q) (turns j h)) turn) v)) in
        ap (λ xs. xs ++ what ∷ []) ih ∙ (ap (λ q. run hub (hub.begin_of (call_for t.who d) n) (turns j h) ++ q ∷ []) act_is ∙ sym (run_push hub (hub.begin_of (call_for t.who d) n) (turns j h) turn f))
acts_run hub t code cs ns j d n at on (Handles m (Begins k now floods) ∷ h) p s w = acts_run hub t code cs ns j d n at on h p.0 s (within_tail cs ns (Handles m (Begins k now floods)) h w)
acts_run hub t code cs ns j d n at on (Handles m e ∷ h) p s w = acts_run hub t code cs ns j d n at on h p.0 s w
acts_run hub t code cs ns j d n at on (_ ∷ h) p s w = acts_run hub t code cs ns j d n at on h p.0 s w
