-- What holds of one peer's lists.
use Rattle.std.proofs.Common.{◌≡◌, ℕ, suc, ◌<◌, ◌≤◌, Bool, true, false, List, [], ◌∷◌, ◌++◌, length, Option, Some, None, refl, sym, ap, ◌∙◌, subst, arith}
use Rattle.std.specs.Prelude.{◌+◌, option_map}
use Rattle.hm_message.specs.declared.message.Message.{Message}
use Rattle.hm_message.specs.declared.message.Message.TheVariants.{CancelInvocation}
use Rattle.hd_delivery.specs.declared.vocabulary.Reason.{Reason}
use Rattle.hd_delivery.specs.declared.vocabulary.Reason.TheVariants as reason
use Rattle.hd_delivery.specs.declared.vocabulary.Got.TheVariants as gives
use Rattle.hd_delivery.specs.Histories.{EndEvent, Took, Sent, is_closed, sent_messages, processed_messages}
use Rattle.hd_delivery.specs.Bytes.{ByteStep, Bytes, Does, in_frames}
use Rattle.hd_calls.specs.Hubs.{Way, Notify, Call, Stream, Invoked, Answer, Item, End, Purpose, ToBegin, ToAnswer, ToCancel, ToNothing, Hub, purpose_of, message_of, answer_message}
use Rattle.hd_calls.specs.Peers.{Effect, Begins, InUse, TooMany, Marks, Nothing, PeerEvent, Plain, Calls, Uploads, Cancels, Reads, Handles, Runs, Answers, Refuses, Loses, Rounds, Settings, called, waiting, begun, answer_of, add, message_for, reason_of, shuts, byte_steps, steps, codec, is_shut}
use Rattle.hd_calls.specs.Rules.{Arrives, ActsOn, IsPlain, Follows}
use Rattle.hd_calls.specs.PeerWorlds.{purposes, said_by, read_by, invoked, waits, refused, next_step}
use Rattle.hd_calls.proofs.Lists.{append_none, none_of}
use Rattle.hd_calls.proofs.Basics.{invoked-append, purposes-append, message-purpose, closed_stays}

-- what a step of the end adds to what was sent and processed
abbrev pub sends : Option ByteStep → List Purpose
sends (Some (Does (Sent m))) = purpose_of m ∷ []
sends _ = []

abbrev pub takes_in : Option ByteStep → List Purpose
takes_in (Some (Does (Took (gives.Message m)))) = purpose_of m ∷ []
takes_in _ = []

-- what was handled, by what it is for
abbrev pub handled : List PeerEvent → List Purpose
handled [] = []
handled (Handles m e ∷ h) = handled h ++ purpose_of m ∷ []
handled (_ ∷ h) = handled h

-- the history in frames of these steps
abbrev pub frames_of : Settings → List ByteStep → List EndEvent
frames_of t s = in_frames t.wire t.config s

pub sent_add : (t : Settings) (o : Option ByteStep) (s : List ByteStep) → purposes (sent_messages (frames_of t (add o s))) ≡ purposes (sent_messages (frames_of t s)) ++ sends o
sent_add t (Some (Does (Sent m))) s = purposes-append (sent_messages (frames_of t s)) (m ∷ [])
sent_add t (Some (Bytes piece)) s = sym (append_none (purposes (sent_messages (frames_of t s))))
sent_add t (Some (Does x)) s = sym (append_none (purposes (sent_messages (frames_of t s))))
sent_add t None s = sym (append_none (purposes (sent_messages (frames_of t s))))

pub processed_add : (t : Settings) (o : Option ByteStep) (s : List ByteStep) → purposes (processed_messages (frames_of t (add o s))) ≡ purposes (processed_messages (frames_of t s)) ++ takes_in o
processed_add t (Some (Does (Took (gives.Message m)))) s = purposes-append (processed_messages (frames_of t s)) (m ∷ [])
processed_add t (Some (Bytes piece)) s = sym (append_none (purposes (processed_messages (frames_of t s))))
processed_add t (Some (Does x)) s = sym (append_none (purposes (processed_messages (frames_of t s))))
processed_add t None s = sym (append_none (purposes (processed_messages (frames_of t s))))

plain_takes : (h : List PeerEvent) (s : ByteStep) → IsPlain h s → takes_in (Some s) ≡ []
plain_takes h (Does (Took (gives.Message m))) p = absurd p
plain_takes h (Bytes piece) p = refl
plain_takes h (Does s) p = refl

pub plain_sends : (h : List PeerEvent) (s : ByteStep) → IsPlain h s → sends (Some s) ≡ []
plain_sends h (Does (Sent m)) p = absurd p
plain_sends h (Bytes piece) p = refl
plain_sends h (Does s) p = refl

shuts_takes : (b : Bool) (o : Option Reason) → takes_in (shuts b o) ≡ []
shuts_takes false (Some why) = refl
shuts_takes true (Some why) = refl
shuts_takes false None = refl
shuts_takes true None = refl

pub shuts_sends : (b : Bool) (o : Option Reason) → sends (shuts b o) ≡ []
shuts_sends false (Some why) = refl
shuts_sends true (Some why) = refl
shuts_sends false None = refl
shuts_sends true None = refl

-- the step that sends a message
abbrev pub sending : Option Message → Option ByteStep
sending o = option_map (λ m. Does (Sent m)) o

said_takes : (o : Option Message) → takes_in (sending o) ≡ []
said_takes None = refl
said_takes (Some m) = refl

quiet : (t : Settings) (o : Option ByteStep) (s : List ByteStep) → takes_in o ≡ [] → purposes (processed_messages (frames_of t (add o s))) ≡ purposes (processed_messages (frames_of t s))
quiet t o s e = processed_add t o s ∙ (ap (λ ms. purposes (processed_messages (frames_of t s)) ++ ms) e ∙ append_none (purposes (processed_messages (frames_of t s))))

pub silent : (t : Settings) (o : Option ByteStep) (s : List ByteStep) → sends o ≡ [] → purposes (sent_messages (frames_of t (add o s))) ≡ purposes (sent_messages (frames_of t s))
silent t o s e = sent_add t o s ∙ (ap (λ ms. purposes (sent_messages (frames_of t s)) ++ ms) e ∙ append_none (purposes (sent_messages (frames_of t s))))

module _ {Job : Type 0} (hub : Hub Job) (t : Settings) where
  -- what was processed was handled, but for the message that waits
  pub processed_is : (h : List PeerEvent) → Follows hub t h → read_by t h ≡ handled h ++ waits (waiting h)
  processed_is [] p = refl
  processed_is (Plain s ∷ h) p = quiet t (Some s) (byte_steps t h) (plain_takes h s p.1) ∙ processed_is h p.0
  processed_is (Calls a n call ∷ h) p = processed_is h p.0
  processed_is (Uploads n w a ∷ h) p = processed_is h p.0
  processed_is (Cancels n ∷ h) p = processed_is h p.0
  processed_is (Reads m ∷ h) p = purposes-append (processed_messages (steps t h)) (m ∷ []) ∙ ap (λ ms. ms ++ purpose_of m ∷ []) (processed_is h p.0 ∙ (ap (λ o. handled h ++ waits o) p.1 ∙ append_none (handled h)))
  processed_is (Handles m e ∷ h) p = quiet t (shuts (is_shut t h) (reason_of e)) (byte_steps t h) (shuts_takes (is_shut t h) (reason_of e)) ∙ (processed_is h p.0 ∙ (ap (λ o. handled h ++ waits o) p.1.0 ∙ sym (append_none (handled h ++ purpose_of m ∷ []))))
  processed_is (Runs j call since turn what ∷ h) p = quiet t (sending (message_for call.way (answer_of t (codec t h) call.way what))) (byte_steps t h) (said_takes (message_for call.way (answer_of t (codec t h) call.way what))) ∙ processed_is h p.0
  processed_is (Answers j i ∷ h) p = processed_is h p.0
  processed_is (Refuses j ∷ h) p = processed_is h p.0
  processed_is (Loses n ∷ h) p = processed_is h p.0
  processed_is (Rounds ∷ h) p = processed_is h p.0

-- no call is among an end's messages but by a call
answer_invoked : (i : List ℕ) (a : Answer) → invoked (sends (sending (Some (answer_message i a)))) ≡ []
answer_invoked i (Item v) = refl
answer_invoked i (End e) = refl

spelled_invoked : (i : List ℕ) (o : Option Answer) → invoked (sends (sending (option_map (answer_message i) o))) ≡ []
spelled_invoked i None = refl
spelled_invoked i (Some a) = answer_invoked i a

pub reply_invoked : (w : Way) (o : Option Answer) → invoked (sends (sending (message_for w o))) ≡ []
reply_invoked Notify o = refl
reply_invoked (Call i) o = spelled_invoked i o
reply_invoked (Stream i) o = spelled_invoked i o

uncalled : (t : Settings) (o : Option ByteStep) (s : List ByteStep) → invoked (sends o) ≡ [] → invoked (purposes (sent_messages (frames_of t (add o s)))) ≡ invoked (purposes (sent_messages (frames_of t s)))
uncalled t o s e =
    let xs = purposes (sent_messages (frames_of t s)) in
    ap invoked (sent_add t o s) ∙ (invoked-append xs (sends o) ∙ (ap (λ cs. invoked xs ++ cs) e ∙ append_none (invoked xs)))

module _ {Job : Type 0} (hub : Hub Job) (t : Settings) where
  pub called_is : (h : List PeerEvent) → Follows hub t h → invoked (said_by t h) ≡ called h
  called_is [] p = refl
  called_is (Plain s ∷ h) p = uncalled t (Some s) (byte_steps t h) (ap invoked (plain_sends h s p.1)) ∙ called_is h p.0
  called_is (Calls a n call ∷ h) p =
      ap invoked (purposes-append (sent_messages (steps t h)) (message_of call ∷ []) ∙ ap (λ x. said_by t h ++ x ∷ []) (message-purpose call))
      ∙ (invoked-append (said_by t h) (ToBegin call ∷ []) ∙ ap (λ cs. cs ++ call ∷ []) (called_is h p.0))
  called_is (Uploads n w a ∷ h) p = uncalled t (sending (Some (answer_message (t.name (suc (n + w))) a))) (byte_steps t h) (answer_invoked (t.name (suc (n + w))) a) ∙ called_is h p.0
  called_is (Cancels n ∷ h) p = uncalled t (sending (Some (CancelInvocation [] (t.name n)))) (byte_steps t h) refl ∙ called_is h p.0
  called_is (Reads m ∷ h) p = called_is h p.0
  called_is (Handles m e ∷ h) p = uncalled t (shuts (is_shut t h) (reason_of e)) (byte_steps t h) (ap invoked (shuts_sends (is_shut t h) (reason_of e))) ∙ called_is h p.0
  called_is (Runs j call since turn what ∷ h) p = uncalled t (sending (message_for call.way (answer_of t (codec t h) call.way what))) (byte_steps t h) (reply_invoked call.way (answer_of t (codec t h) call.way what)) ∙ called_is h p.0
  called_is (Answers j i ∷ h) p = called_is h p.0
  called_is (Refuses j ∷ h) p = called_is h p.0
  called_is (Loses n ∷ h) p = called_is h p.0
  called_is (Rounds ∷ h) p = called_is h p.0

-- an end reads no message once it is closed
abbrev pub OpenReads : Settings → List PeerEvent → Type 0
OpenReads t [] = Unit {0}
OpenReads t (Reads m ∷ h) = OpenReads t h × (is_shut t h ≡ false)
OpenReads t (_ ∷ h) = OpenReads t h

pub add_closed : (t : Settings) (o : Option ByteStep) (s : List ByteStep) → is_closed t.config (frames_of t s) ≡ true → is_closed t.config (frames_of t (add o s)) ≡ true
add_closed t None s e = e
add_closed t (Some (Bytes piece)) s e = e
add_closed t (Some (Does x)) s e = closed_stays t.config x (frames_of t s) e

pub shuts_closes : (t : Settings) (b : Bool) (why : Reason) (s : List ByteStep) → is_closed t.config (frames_of t s) ≡ b → is_closed t.config (frames_of t (add (shuts b (Some why)) s)) ≡ true
shuts_closes t false why s e = refl
shuts_closes t true why s e = e

-- a call that was refused is the last message, and the end is closed
pub record Refusing (t : Settings) (h : List PeerEvent) : Type 0 where
  pub jobs : begun h ++ refused h ≡ invoked (handled h)
  pub last : 0 < length (refused h) → (is_shut t h ≡ true) × (waiting h ≡ None)
  pub few : length (refused h) ≤ 1

-- the call that a message made, by its effect
abbrev pub calls_in : Effect → List Invoked
calls_in (Begins c now floods) = c ∷ []
calls_in (InUse c) = c ∷ []
calls_in (TooMany c) = c ∷ []
calls_in _ = []

arrives_in : (t : Settings) (h : List PeerEvent) (i : List ℕ) (a : Answer) (e : Effect) → Arrives t h i a e → calls_in e ≡ []
arrives_in t h i a (Begins c now floods) p = absurd p
arrives_in t h i a (InUse c) p = absurd p
arrives_in t h i a (TooMany c) p = absurd p
arrives_in t h i a _ p = refl

pub effect_in : (t : Settings) (h : List PeerEvent) (m : Purpose) (e : Effect) → ActsOn t h m e → calls_in e ≡ invoked (m ∷ [])
effect_in t h (ToBegin c) (Begins d now floods) p = ap (λ x. x ∷ []) p.0
effect_in t h (ToBegin c) (InUse d) p = ap (λ x. x ∷ []) p.0
effect_in t h (ToBegin c) (TooMany d) p = ap (λ x. x ∷ []) p.0
effect_in t h (ToBegin c) _ p = absurd p
effect_in t h (ToAnswer i a) e p = arrives_in t h i a e p
effect_in t h (ToCancel i) (Marks j) p = refl
effect_in t h (ToCancel i) Nothing p = refl
effect_in t h (ToCancel i) _ p = absurd p
effect_in t h ToNothing e p = absurd p

module _ {Job : Type 0} (hub : Hub Job) (t : Settings) where
  pub none_yet : (h : List PeerEvent) (m : Message) → Refusing t h → waiting h ≡ Some m → refused h ≡ []
  none_yet h m r e = none_of (refused h) (λ l. let f = (r.last l).1 in absurd (let z : ◌≡◌ {A = Option Message} None (Some m) = sym f ∙ e in cc))

  -- where nothing is handled or read
  still_refusing : (d : PeerEvent) (h : List PeerEvent) → begun (d ∷ h) ≡ begun h → refused (d ∷ h) ≡ refused h → handled (d ∷ h) ≡ handled h
      → waiting (d ∷ h) ≡ waiting h → Refusing t h → Refusing t (d ∷ h)
  still_refusing d h e f g w r = record {
    jobs = let k = r.jobs in let g' = ap invoked g in (ap (λ xs. xs ++ refused (d ∷ h)) e ∙ (ap (λ xs. begun h ++ xs) f ∙ (k ∙ sym g')));
    last = λ l. let q = r.last (subst (λ xs. 0 < length xs) f l) in (add_closed t (next_step t h d) (byte_steps t h) q.0, w ∙ q.1);
    few = subst (λ xs. length xs ≤ 1) (sym f) r.few;
  }

  -- a message is handled that begins no job and isn't refused
  handles : (h : List PeerEvent) (m : Message) (e : Effect) → begun (Handles m e ∷ h) ≡ begun h → refused (Handles m e ∷ h) ≡ refused h → calls_in e ≡ [] → waiting h ≡ Some m → ActsOn t h (purpose_of m) e
      → Refusing t h → Refusing t (Handles m e ∷ h)
  handles h m e f g k w a r = record {
    jobs = ap (λ xs. xs ++ refused (Handles m e ∷ h)) f ∙ (ap (λ xs. begun h ++ xs) g ∙ (r.jobs ∙ (sym (append_none (invoked (handled h))) ∙ (ap (λ xs. invoked (handled h) ++ xs) (sym k ∙ effect_in t h (purpose_of m) e a) ∙ sym (invoked-append (handled h) (purpose_of m ∷ []))))));
    last = λ l. absurd (let z : refused (Handles m e ∷ h) ≡ [] = g ∙ none_yet h m r w in let y : 0 < length {A = Invoked} [] = subst (λ xs. 0 < length xs) z l in omega arith);
    few = subst (λ xs. length xs ≤ 1) (sym g) r.few;
  }

  -- one that is refused
  refuses : (h : List PeerEvent) (m : Message) (e : Effect) (k : Invoked) (why : Reason) → begun (Handles m e ∷ h) ≡ begun h → refused (Handles m e ∷ h) ≡ refused h ++ k ∷ [] → calls_in e ≡ k ∷ [] → reason_of e ≡ Some why
      → waiting h ≡ Some m → ActsOn t h (purpose_of m) e → Refusing t h → Refusing t (Handles m e ∷ h)
  refuses h m e k why f g i by w a r =
      let z = none_yet h m r w in
      let one : refused (Handles m e ∷ h) ≡ k ∷ [] = g ∙ ap (λ xs. xs ++ k ∷ []) z in
      let before : begun h ≡ invoked (handled h) = sym (append_none (begun h)) ∙ (ap (λ xs. begun h ++ xs) (sym z) ∙ r.jobs) in record {
        jobs = ap (λ xs. xs ++ refused (Handles m e ∷ h)) f ∙ (ap (λ xs. begun h ++ xs) one ∙ (ap (λ xs. xs ++ k ∷ []) before ∙ (ap (λ xs. invoked (handled h) ++ xs) (sym i ∙ effect_in t h (purpose_of m) e a) ∙ sym (invoked-append (handled h) (purpose_of m ∷ [])))));
        last = λ l. (subst (λ o. is_closed t.config (frames_of t (add (shuts (is_shut t h) o) (byte_steps t h))) ≡ true) (sym by) (shuts_closes t (is_shut t h) why (byte_steps t h) refl), refl);
        few = subst (λ xs. length xs ≤ 1) (sym one) (omega arith);
      }

  pub refusing : (h : List PeerEvent) → Follows hub t h → OpenReads t h → Refusing t h
  refusing [] p o = record { jobs = refl; last = λ l. absurd (omega arith); few = omega arith }
  refusing (Reads m ∷ h) p o =
      let r = refusing h p.0 o.0 in
      let z : refused h ≡ [] = none_of (refused h) (λ l. let f = (r.last l).0 in let g = o.1 in absurd (let y : true ≡ false = sym f ∙ g in cc)) in
      record { jobs = r.jobs; last = λ l. absurd (let y : 0 < length {A = Invoked} [] = subst (λ xs. 0 < length xs) z l in omega arith); few = r.few }
  refusing (Handles m (Begins k now floods) ∷ h) p o =
      let r = refusing h p.0 o in
      let z = none_yet h m r p.1.0 in
      let before : begun h ≡ invoked (handled h) = sym (append_none (begun h)) ∙ (ap (λ xs. begun h ++ xs) (sym z) ∙ r.jobs) in record {
        jobs = ap (λ xs. (begun h ++ k ∷ []) ++ xs) z ∙ (append_none (begun h ++ k ∷ []) ∙ (ap (λ xs. xs ++ k ∷ []) before ∙ (ap (λ xs. invoked (handled h) ++ xs) (effect_in t h (purpose_of m) (Begins k now floods) p.1.1) ∙ sym (invoked-append (handled h) (purpose_of m ∷ [])))));
        last = λ l. absurd (let y : 0 < length {A = Invoked} [] = subst (λ xs. 0 < length xs) z l in omega arith);
        few = r.few;
      }
  refusing (Handles m (InUse k) ∷ h) p o = refuses h m (InUse k) k reason.InUse refl refl refl refl p.1.0 p.1.1 (refusing h p.0 o)
  refusing (Handles m (TooMany k) ∷ h) p o = refuses h m (TooMany k) k reason.TooMany refl refl refl refl p.1.0 p.1.1 (refusing h p.0 o)
  refusing (Handles m e ∷ h) p o = handles h m e refl refl refl p.1.0 p.1.1 (refusing h p.0 o)
  refusing (Plain s ∷ h) p o = still_refusing (Plain s) h refl refl refl refl (refusing h p.0 o)
  refusing (Calls a n call ∷ h) p o = still_refusing (Calls a n call) h refl refl refl refl (refusing h p.0 o)
  refusing (Uploads n w a ∷ h) p o = still_refusing (Uploads n w a) h refl refl refl refl (refusing h p.0 o)
  refusing (Cancels n ∷ h) p o = still_refusing (Cancels n) h refl refl refl refl (refusing h p.0 o)
  refusing (Runs j call since turn act ∷ h) p o = still_refusing (Runs j call since turn act) h refl refl refl refl (refusing h p.0 o)
  refusing (Answers j i ∷ h) p o = still_refusing (Answers j i) h refl refl refl refl (refusing h p.0 o)
  refusing (Refuses j ∷ h) p o = still_refusing (Refuses j) h refl refl refl refl (refusing h p.0 o)
  refusing (Loses n ∷ h) p o = still_refusing (Loses n) h refl refl refl refl (refusing h p.0 o)
  refusing (Rounds ∷ h) p o = still_refusing Rounds h refl refl refl refl (refusing h p.0 o)
