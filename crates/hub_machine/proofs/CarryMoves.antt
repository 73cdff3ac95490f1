-- What the carrying out of a deed adds to the moves of peers: what was told to some of them, and the answer to the job.
use Rattle.std.proofs.Common.{◌≡◌, ℕ, ◌==◌, Bool, true, false, not, ◌&&◌, ◌||◌, List, [], ◌∷◌, ◌++◌, length}
use Rattle.std.proofs.Common.{Option, Some, None, option_map, refl, sym, ap, subst, ◌∙◌}
use Rattle.std.specs.Prelude.{if◌then◌else◌, nat_lt}
use Rattle.std.proofs.lemmas.Bool.{eq-eqb, cond-true, and_from, and_parts, and_right}
use Rattle.hm_message.specs.declared.message.Codec.{Codec}
use Rattle.hm_message.specs.declared.message.Message.{Message}
use Rattle.hd_delivery.specs.Histories.{Sent, is_closed}
use Rattle.hd_delivery.specs.Bytes.{Does as Step_of, in_frames}
use Rattle.hd_calls.specs.declared.vocabulary.Deed.{Deed}
use Rattle.hd_calls.specs.declared.vocabulary.Input.{Input}
use Rattle.hd_calls.specs.declared.vocabulary.Act.{Act}
use Rattle.hd_calls.specs.declared.vocabulary.Act.TheVariants as act
use Rattle.hd_calls.specs.Hubs.{Hub, Way, Notify, Call, Stream, Invoked, Turn, Given, Cancelled}
use Rattle.hd_calls.specs.Peers.{PeerEvent, Runs, Answers, Settings, acts, add, answer_of, begun, byte_steps, codec, ends_job, hands_up, is_shut, last_of}
use Rattle.hd_calls.specs.Peers.{live_job, message_for, over, reply}
use Rattle.hd_calls.specs.Rules.{IsDue, IsPeer, MayAnswer, is_deed_answer}
use Rattle.hd_server.specs.Machine.{MachineEvent, Does, DeliveryOutcome, Got, TooSlow, PassedOver, OwesDeed, is_open_at, moves, notice_of, notifies, owed, with_fate}
use Rattle.hub_machine.specs.Carrying.{AnswersAt}
use Rattle.hub_machine.proofs.CarryLists.{is_slow}

-- ---- the turn at which a deed was handed up

-- the latest move is a turn at which the job handed it up
pub record HandedUp (j : ℕ) (d : Deed) (h : List PeerEvent) : Type 0 where
  pub call : Invoked
  pub since : ℕ
  pub turn : Turn
  pub before : List PeerEvent
  pub is : h ≡ Runs j call since turn (act.Do d) ∷ before

pub handed_up : (r : List MachineEvent) (c j : ℕ) (d : Deed) → owed r ≡ OwesDeed c j d → HandedUp j d (moves c r)
handed_up (Does k (Runs i call since turn (act.Do x)) ∷ q) c j d e =
    let k_is : k ≡ c = cc in
    let i_is : i ≡ j = cc in
    let x_is : x ≡ d = cc in
    record {
      call = call;
      since = since;
      turn = turn;
      before = moves c q;
      is = cond-true (c == k) (Runs i call since turn (act.Do x) ∷ moves c q) (moves c q) (eq-eqb c k (sym k_is))
          ∙ ap (λ n. Runs n call since turn (act.Do x) ∷ moves c q) i_is ∙ ap (λ y. Runs j call since turn (act.Do y) ∷ moves c q) x_is;
    }
handed_up r c j d e = absurd (cc)

-- it says nothing to the caller, and ends no job
silent : (t : Settings) (k : Codec) (way : Way) (d : Deed) → message_for way (answer_of t k way (act.Do d)) ≡ None
silent t k Notify d = refl
silent t k (Call i) d = refl
silent t k (Stream i) d = refl

unended : (t : Settings) (k : Codec) (way : Way) (d : Deed) → ends_job t k way (act.Do d) ≡ false
unended t k Notify d = refl
unended t k (Call i) d = refl
unended t k (Stream i) d = refl

was_live : (t : Settings) (j : ℕ) (h : List PeerEvent) (turn : Turn) → IsDue t j h turn → live_job t j h ≡ true
was_live t j h (Given i now) due = due.0
was_live t j h Cancelled due = due.0

last_is : {A : Type 0} (xs : List A) (x : A) → last_of (xs ++ x ∷ []) ≡ Some x
last_is [] x = refl
last_is (y ∷ []) x = refl
last_is (y ∷ z ∷ zs) x = last_is (z ∷ zs) x

-- the end is as it was
pub unclosed_yet : {Job : Type 0} (hub : Hub Job) (t : Settings) (j : ℕ) (d : Deed) (call : Invoked) (since : ℕ) (turn : Turn) (h : List PeerEvent)
    → IsPeer hub t (Runs j call since turn (act.Do d) ∷ h) → is_shut t (Runs j call since turn (act.Do d) ∷ h) ≡ false
unclosed_yet hub t j d call since turn h p =
    ap (λ (m : Option Message). is_closed t.config (in_frames t.wire t.config (add (option_map (λ x. Step_of (Sent x)) m) (byte_steps t h))))
    (silent t (codec t h) call.way d) ∙ p.follows.1.may.unclosed

-- and the job may be answered
pub may_be_answered : {Job : Type 0} (hub : Hub Job) (t : Settings) (j : ℕ) (d : Deed) (call : Invoked) (since : ℕ) (turn : Turn) (h : List PeerEvent) (i : Input)
    → IsPeer hub t (Runs j call since turn (act.Do d) ∷ h) → is_deed_answer i ≡ true → MayAnswer t j i (Runs j call since turn (act.Do d) ∷ h)
may_be_answered hub t j d call since turn h i p e =
    let live : live_job t j h ≡ true = was_live t j h turn p.follows.1.due in
    let parts = and_parts (nat_lt j (length (begun h))) (not (over t j h)) live in
    let same : (j == j) ≡ true = eq-eqb j j refl in
    record {
      live = and_from (nat_lt j (length (begun h))) (not (((j == j) && ends_job t (codec t h) call.way (act.Do d)) || over t j h)) parts.0
          (ap (λ b. not (b || over t j h)) (and_right (j == j) (ends_job t (codec t h) call.way (act.Do d)) (unended t (codec t h) call.way d)) ∙ parts.1);
      handed = ap (λ (l : List Act). hands_up (last_of l)) (cond-true (j == j) (acts j h ++ act.Do d ∷ []) (acts j h) same)
          ∙ ap hands_up (last_is (acts j h) (act.Do d));
      unanswered = cond-true (j == j) None (reply j h) same;
      answers = e;
    }

-- the same by the moves themselves
pub may_answer_at : {Job : Type 0} (hub : Hub Job) (t : Settings) (j : ℕ) (d : Deed) (h : List PeerEvent) (i : Input) → HandedUp j d h → IsPeer hub t h
    → is_deed_answer i ≡ true → MayAnswer t j i h
may_answer_at hub t j d h i u p e = subst (λ l. MayAnswer t j i l) (sym u.is)
    (may_be_answered hub t j d u.call u.since u.turn u.before i (subst (λ l. IsPeer hub t l) u.is p) e)

pub unclosed_at : {Job : Type 0} (hub : Hub Job) (t : Settings) (j : ℕ) (d : Deed) (h : List PeerEvent) → HandedUp j d h → IsPeer hub t h → is_shut t h ≡ false
unclosed_at hub t j d h u p = ap (is_shut t) u.is ∙ unclosed_yet hub t j d u.call u.since u.turn u.before (subst (λ l. IsPeer hub t l) u.is p)

-- ---- what is told

-- to nobody
pub untold : (d : Deed) (o : Option Settings) (h : List PeerEvent) → with_fate d o None h ≡ h
untold d None h = refl
untold d (Some t) h = refl

told_nothing : (t : Settings) (o : Option Invoked) (h : List PeerEvent) → is_shut t (notifies o h) ≡ is_shut t h
told_nothing t None h = refl
told_nothing t (Some call) h = refl

-- an end is closed by it if it is too slow, and only then
shut_by_fate : (t : Settings) (d : Deed) (f : Option DeliveryOutcome) (h : List PeerEvent) → is_shut t (with_fate d (Some t) f h) ≡ (is_slow f || is_shut t h)
shut_by_fate t d None h = refl
shut_by_fate t d (Some Got) h = told_nothing t (notice_of (codec t h) d) h
shut_by_fate t d (Some TooSlow) h = refl
shut_by_fate t d (Some PassedOver) h = refl

neither : (a b : Bool) → not (a || b) ≡ (not b && not a)
neither true true = refl
neither true false = refl
neither false true = refl
neither false false = refl

pub open_by_fate : (d : Deed) (o : Option Settings) (f : Option DeliveryOutcome) (h : List PeerEvent) → is_open_at o (with_fate d o f h) ≡ (is_open_at o h && not (is_slow f))
open_by_fate d None f h = refl
open_by_fate d (Some t) f h = ap not (shut_by_fate t d f h) ∙ neither (is_slow f) (is_shut t h)

-- an answer closes no end
pub open_answered : (o : Option Settings) (b : Bool) (j : ℕ) (i : Input) (h : List PeerEvent) → is_open_at o (if b then Answers j i ∷ h else h) ≡ is_open_at o h
open_answered None b j i h = refl
open_answered (Some t) true j i h = refl
open_answered (Some t) false j i h = refl

-- the job may be answered also once its connection was told
still_notified : (t : Settings) (j : ℕ) (i : Input) (o : Option Invoked) (h : List PeerEvent) → MayAnswer t j i h → MayAnswer t j i (notifies o h)
still_notified t j i None h m = m
still_notified t j i (Some call) h m = record { live = m.live; handed = m.handed; unanswered = m.unanswered; answers = m.answers }

still_may : (t : Settings) (d : Deed) (j : ℕ) (i : Input) (f : Option DeliveryOutcome) (h : List PeerEvent) → MayAnswer t j i h → MayAnswer t j i (with_fate d (Some t) f h)
still_may t d j i None h m = m
still_may t d j i (Some Got) h m = still_notified t j i (notice_of (codec t h) d) h m
still_may t d j i (Some TooSlow) h m = record { live = m.live; handed = m.handed; unanswered = m.unanswered; answers = m.answers }
still_may t d j i (Some PassedOver) h m = m

pub still_answers : (o : Option Settings) (d : Deed) (j : ℕ) (i : Input) (f : Option DeliveryOutcome) (h : List PeerEvent) → AnswersAt o j i h
    → AnswersAt o j i (with_fate d o f h)
still_answers None d j i f h a = tt
still_answers (Some t) d j i f h a = still_may t d j i f h a
