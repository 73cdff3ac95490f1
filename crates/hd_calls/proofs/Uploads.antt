-- What is uploaded for a call comes to its job, in order.
use Rattle.std.proofs.Common.{inl, inr, ⊎_elim, ◌≡◌, ℕ, zero, suc, ◌<◌, ◌≤◌, Bool, true, false, List, [], ◌∷◌, ◌++◌, length, Option, Some, None, refl, sym, ap, ◌∙◌, subst, arith, append_assoc, length-append}
use Rattle.std.specs.Prelude.{◌⊎◌, ◌+◌, nat_lt, slice_get, option_map, ◌==◌, ◌||◌, ◌&&◌, not, if◌then◌else◌}
use Rattle.std.proofs.lemmas.Bool.{and_parts, eqb-true, eq-eqb, ltb-true, ltb-false}
use Rattle.hm_message.specs.declared.message.Message.{Message}
use Rattle.hm_message.specs.declared.message.Message.TheVariants.{CancelInvocation}
use Rattle.hm_message.specs.Same.{same_text}
use Rattle.hd_facts.specs.Prefixes.{IsPrefix}
use Rattle.hd_delivery.specs.declared.vocabulary.Reason.TheVariants as reason
use Rattle.hd_delivery.specs.Histories.{Sent, sent_messages}
use Rattle.hd_delivery.specs.Bytes.{ByteStep, Bytes, Does}
use Rattle.hd_calls.specs.Hubs.{Way, Notify, Call, Stream, Invoked, Answer, Item, End, Purpose, ToBegin, ToAnswer, ToCancel, ToNothing, Hub, id_of, purpose_of, message_of, answer_message}
use Rattle.hd_calls.specs.Peers.{Effect, Begins, InUse, TooMany, Brings, Feeds, Flood, Marks, Nothing, PeerEvent, Plain, Calls, Uploads, Cancels, Reads, Handles, Runs, Answers, Refuses, Loses, Rounds, Settings, drawn, called, call_of, has_end, has_id, live_call, uploaded, stream_count, live_upload, waiting, begun, inputs, of_stream, ends_job, over, live_job, answer_of, message_for, add, reason_of, shuts, byte_steps, codec, is_shut}
use Rattle.hd_calls.specs.Rules.{names, IsNumbered, is_among, StreamAt, Arrives, ActsOn, Follows}
use Rattle.hd_calls.specs.PeerWorlds.{purposes, said_by, waits, next_step}
use Rattle.hd_calls.proofs.Lists.{both, not_true, append_none, get_front, get_within, prefix_trans, same_refl, same-true, true-same}
use Rattle.hd_calls.proofs.Basics.{put, said, said-append, message-purpose}
use Rattle.hd_calls.proofs.Local.{sends, sending, handled, frames_of, sent_add, shuts_sends, plain_sends, OpenReads, add_closed, shuts_closes}
use Rattle.hd_calls.proofs.Names.{made_numbered, member_names, get_last}
use Rattle.hd_calls.proofs.Callee.{differ, spelled_other, spelled_same, unsaid, call_unsaid, replies_other, Within, within_tail, live_parts}
use Rattle.hd_calls.proofs.Caller.{accepts, heard, heard_prefix, heard_push, heard_ended}

-- streams of calls ----------------------------------------------------------------

pub get_names : (t : Settings) (k u w : ℕ) (i : List ℕ) → slice_get (names t k u) w ≡ Some i → (i ≡ t.name (k + w)) × (w < u)
get_names t k zero w i e = absurd (cc)
get_names t k (suc u) zero i e = (let f : t.name k ≡ i = cc in sym f ∙ ap t.name (omega arith), omega arith)
get_names t k (suc u) (suc w) i e = let q = get_names t (suc k) u w i e in (q.0 ∙ ap t.name (omega arith), omega (arith, q.1))

pub member_at : (t : Settings) (k u w : ℕ) → w < u → is_among (t.name (k + w)) (names t k u) ≡ true
member_at t k zero w l = absurd (omega arith)
member_at t k (suc u) zero l = let e : t.name (k + 0) ≡ t.name k = ap t.name (omega arith) in ap (λ b. b || is_among (t.name (k + 0)) (names t (suc k) u)) (true-same (t.name (k + 0)) (t.name k) e)
member_at t k (suc u) (suc w) l =
    let ih = member_at t (suc k) u w (omega arith) in
    let e : suc k + w ≡ k + suc w = omega arith in
    let f : is_among (t.name (k + suc w)) (names t (suc k) u) ≡ true = subst (λ x. is_among (t.name x) (names t (suc k) u) ≡ true) e ih in
    elim (same_text (t.name (k + suc w)) (t.name k)) as (λ b. (b || is_among (t.name (k + suc w)) (names t (suc k) u)) ≡ true) [ true ↦ refl | false ↦ f ]

-- a call with uploads
pub record Uploading (t : Settings) (k : ℕ) (h : List PeerEvent) (d : Invoked) : Type 0 where
  pub place : ℕ
  pub at : slice_get (called h) place ≡ Some d
  pub streams : d.streams ≡ names t (suc k) (length d.streams)
  pub number : k + length d.streams ≤ drawn h

pub uploading : {Job : Type 0} (hub : Hub Job) (t : Settings) (k : ℕ) (h : List PeerEvent) (d : Invoked) → Follows hub t h → call_of k h ≡ Some d → 0 < length d.streams → Uploading t k h d
uploading hub t k [] d p e l = absurd (cc)
uploading hub t k (Calls a n b ∷ h) d p e l = both (λ o. o ≡ Some d → Uploading t k (Calls a n b ∷ h) d) (k == n) (Some b) (call_of k h)
    (λ f q.
    let z = eqb-true k n f in
    let y : b ≡ d = cc in
    ⊎_elim
    (λ s. absurd (let x = ap length (ap (λ (v : Invoked). v.streams) (sym y) ∙ s) in let w : length {A = List ℕ} [] ≡ 0 = refl in omega arith))
    (λ s. record {
      place = length (called h);
      at = get_last (called h) b ∙ ap Some y;
      streams = subst (λ (v : Invoked). v.streams ≡ names t (suc k) (length v.streams)) y (subst (λ x. b.streams ≡ names t (suc x) (length b.streams)) (sym z) s.1);
      number = let x = ap (λ (v : Invoked). length v.streams) y in omega arith;
    })
    (made_numbered t (drawn h) n b.way b p.1.made))
    (λ f q. let r = uploading hub t k h d p.0 q l in record { place = r.place; at = get_front (called h) (b ∷ []) r.place d r.at; streams = r.streams; number = let x = r.number in omega arith }) e
uploading hub t k (_ ∷ h) d p e l = let r = uploading hub t k h d p.0 e l in record { place = r.place; at = r.at; streams = r.streams; number = r.number }

pub live_stream : (k v : ℕ) (h : List PeerEvent) → live_upload k v h ≡ true → (d : Invoked) × (call_of k h ≡ Some d) × (v < length d.streams)
live_stream k v h e = go (call_of k h) refl (and_parts (nat_lt v (stream_count (call_of k h))) (not (has_end (uploaded k v h))) (and_parts (nat_lt v (stream_count (call_of k h)) && not (has_end (uploaded k v h))) (live_call k h || not (has_id (call_of k h))) e).0).0
  where
    go : (o : Option Invoked) → call_of k h ≡ o → nat_lt v (stream_count o) ≡ true → (d : Invoked) × (call_of k h ≡ Some d) × (v < length d.streams)
    go None f l = absurd (let z = ltb-true v 0 l in omega arith)
    go (Some d) f l = (d, f, ltb-true v (length d.streams) l)

-- what was uploaded was sent ----------------------------------------------------------

-- the calls of a history are among these
abbrev pub CalledIn : List Invoked → List PeerEvent → Type 0
CalledIn cs h = (k : ℕ) (d : Invoked) → slice_get (called h) k ≡ Some d → slice_get cs k ≡ Some d

called_tail : (cs : List Invoked) (d : PeerEvent) (h : List PeerEvent) → CalledIn cs (d ∷ h) → CalledIn cs h
called_tail cs (Calls a n c) h w = λ k e f. w k e (get_front (called h) (c ∷ []) k e f)
called_tail cs (Handles m e) h w = w
called_tail cs (Plain s) h w = w
called_tail cs (Uploads n v a) h w = w
called_tail cs (Cancels n) h w = w
called_tail cs (Reads m) h w = w
called_tail cs (Runs j call since turn what) h w = w
called_tail cs (Answers j i) h w = w
called_tail cs (Refuses j) h w = w
called_tail cs (Loses n) h w = w
called_tail cs Rounds h w = w

module _ {Job : Type 0} (hub : Hub Job) (t : Settings) (i : List ℕ) (js : List Invoked) (ns : List ℕ) (foreign : (k : ℕ) (e : Invoked) → slice_get js k ≡ Some e → id_of e.way ≡ Some i → ⊥) where
  -- nothing is said of an id that isn't drawn yet
  unsaid_yet : (n : ℕ) → i ≡ t.name n → ((m k : ℕ) → t.name m ≡ t.name k → m ≡ k) → (h : List PeerEvent) → Follows hub t h → Within js ns h → drawn h < n → said i (said_by t h) ≡ []
  unsaid_yet n is own [] p w l = refl
  unsaid_yet n is own (Plain s ∷ h) p w l = unsaid t i (Some s) (byte_steps t h) (ap (said i) (plain_sends h s p.1)) ∙ unsaid_yet n is own h p.0 w l
  unsaid_yet n is own (Calls a k call ∷ h) p w l = unsaid t i (sending (Some (message_of call))) (byte_steps t h) (call_unsaid i call) ∙ unsaid_yet n is own h p.0 w (omega arith)
  unsaid_yet n is own (Uploads k v a ∷ h) p w l =
      let s = live_stream k v h p.1.0 in
      let u = uploading hub t k h s.0 p.0 s.1 (let x = s.2 in omega arith) in
      unsaid t i (sending (Some (answer_message (t.name (suc (k + v))) a))) (byte_steps t h)
      (spelled_other i (t.name (suc (k + v))) a (differ i (t.name (suc (k + v))) (λ e. let z = own (suc (k + v)) n (e ∙ is) in let x = s.2 in let y = u.number in omega arith)))
      ∙ unsaid_yet n is own h p.0 w l
  unsaid_yet n is own (Cancels k ∷ h) p w l = unsaid t i (sending (Some (CancelInvocation [] (t.name k)))) (byte_steps t h) refl ∙ unsaid_yet n is own h p.0 w l
  unsaid_yet n is own (Reads m ∷ h) p w l = unsaid_yet n is own h p.0 w l
  unsaid_yet n is own (Handles m e ∷ h) p w l = unsaid t i (shuts (is_shut t h) (reason_of e)) (byte_steps t h) (ap (said i) (shuts_sends (is_shut t h) (reason_of e))) ∙ unsaid_yet n is own h p.0 (within_tail js ns (Handles m e) h w) l
  unsaid_yet n is own (Runs j call since turn what ∷ h) p w l =
      unsaid t i (sending (message_for call.way (answer_of t (codec t h) call.way what))) (byte_steps t h) (replies_other t (codec t h) i call.way what (λ e. foreign j call (w.0 j call p.1.at) e)) ∙ unsaid_yet n is own h p.0 w l
  unsaid_yet n is own (Answers j k ∷ h) p w l = unsaid_yet n is own h p.0 w l
  unsaid_yet n is own (Refuses j ∷ h) p w l = unsaid_yet n is own h p.0 w l
  unsaid_yet n is own (Loses k ∷ h) p w l = unsaid_yet n is own h p.0 w l
  unsaid_yet n is own (Rounds ∷ h) p w l = unsaid_yet n is own h p.0 w l

  -- what is said of a stream's id is what is uploaded there
  module _ (cs : List Invoked) (n u : ℕ) (is : i ≡ t.name (suc (n + u))) (one : (k v : ℕ) (h : List PeerEvent) → Follows hub t h → live_upload k v h ≡ true → CalledIn cs h → t.name (suc (k + v)) ≡ i → (k ≡ n) × (v ≡ u)) where
    pub said_uploads : (h : List PeerEvent) → Follows hub t h → Within js ns h → CalledIn cs h → said i (said_by t h) ≡ uploaded n u h
    said_uploads [] p w q = refl
    said_uploads (Plain s ∷ h) p w q = unsaid t i (Some s) (byte_steps t h) (ap (said i) (plain_sends h s p.1)) ∙ said_uploads h p.0 w q
    said_uploads (Calls a k call ∷ h) p w q = unsaid t i (sending (Some (message_of call))) (byte_steps t h) (call_unsaid i call) ∙ said_uploads h p.0 w (called_tail cs (Calls a k call) h q)
    said_uploads (Uploads k v a ∷ h) p w q = go ((n == k) && (u == v)) refl (said_uploads h p.0 w q)
      where
        go : (b : Bool) → ((n == k) && (u == v)) ≡ b → said i (said_by t h) ≡ uploaded n u h → said i (said_by t (Uploads k v a ∷ h)) ≡ (if b then uploaded n u h ++ a ∷ [] else uploaded n u h)
        go true f ih =
            let e = and_parts (n == k) (u == v) f in
            let z : t.name (suc (k + v)) ≡ i = ap (λ x. t.name (suc (x + v))) (sym (eqb-true n k e.0)) ∙ (ap (λ x. t.name (suc (n + x))) (sym (eqb-true u v e.1)) ∙ sym is) in
            ap (said i) (sent_add t (sending (Some (answer_message (t.name (suc (k + v))) a))) (byte_steps t h)) ∙ (said-append i (said_by t h) (purpose_of (answer_message (t.name (suc (k + v))) a) ∷ []) ∙ (ap (λ xs. xs ++ said i (purpose_of (answer_message (t.name (suc (k + v))) a) ∷ [])) ih ∙ ap (λ xs. uploaded n u h ++ xs) (ap (λ x. said i (purpose_of (answer_message x a) ∷ [])) z ∙ spelled_same i a)))
        go false f ih =
            unsaid t i (sending (Some (answer_message (t.name (suc (k + v))) a))) (byte_steps t h) (spelled_other i (t.name (suc (k + v))) a (differ i (t.name (suc (k + v))) (λ e.
            let z = one k v h p.0 p.1.0 q e in
            let y : (n == k) ≡ true = eq-eqb n k (sym z.0) in
            let x : (u == v) ≡ true = eq-eqb u v (sym z.1) in
            absurd (let b : ((n == k) && (u == v)) ≡ true = ap (λ b. b && (u == v)) y ∙ x in let d : false ≡ true = sym f ∙ b in cc)))) ∙ ih
    said_uploads (Cancels k ∷ h) p w q = unsaid t i (sending (Some (CancelInvocation [] (t.name k)))) (byte_steps t h) refl ∙ said_uploads h p.0 w q
    said_uploads (Reads m ∷ h) p w q = said_uploads h p.0 w q
    said_uploads (Handles m e ∷ h) p w q = unsaid t i (shuts (is_shut t h) (reason_of e)) (byte_steps t h) (ap (said i) (shuts_sends (is_shut t h) (reason_of e))) ∙ said_uploads h p.0 (within_tail js ns (Handles m e) h w) q
    said_uploads (Runs j call since turn what ∷ h) p w q =
        unsaid t i (sending (message_for call.way (answer_of t (codec t h) call.way what))) (byte_steps t h) (replies_other t (codec t h) i call.way what (λ e. foreign j call (w.0 j call p.1.at) e)) ∙ said_uploads h p.0 w q
    said_uploads (Answers j k ∷ h) p w q = said_uploads h p.0 w q
    said_uploads (Refuses j ∷ h) p w q = said_uploads h p.0 w q
    said_uploads (Loses k ∷ h) p w q = said_uploads h p.0 w q
    said_uploads (Rounds ∷ h) p w q = said_uploads h p.0 w q

-- a call comes before what is uploaded for it --------------------------------------------

snoc_parts : {A : Type 0} (xs ys : List A) (x y : A) → xs ++ x ∷ [] ≡ ys ++ y ∷ [] → (xs ≡ ys) × (x ≡ y)
snoc_parts [] [] x y e = (refl, let z : x ∷ [] ≡ y ∷ [] = e in cc)
snoc_parts [] (b ∷ []) x y e = absurd (let z : x ∷ [] ≡ b ∷ y ∷ [] = e in cc)
snoc_parts [] (b ∷ d ∷ ys) x y e = absurd (let z : x ∷ [] ≡ b ∷ d ∷ (ys ++ y ∷ []) = e in cc)
snoc_parts (a ∷ []) [] x y e = absurd (let z : a ∷ x ∷ [] ≡ y ∷ [] = e in cc)
snoc_parts (a ∷ d ∷ xs) [] x y e = absurd (let z : a ∷ d ∷ (xs ++ x ∷ []) ≡ y ∷ [] = e in cc)
snoc_parts (a ∷ xs) (b ∷ ys) x y e =
    let f : xs ++ x ∷ [] ≡ ys ++ y ∷ [] = cc in
    let g : a ≡ b = cc in
    let q = snoc_parts xs ys x y f in
    (ap (λ z. z ∷ xs) g ∙ ap (λ zs. b ∷ zs) q.0, q.1)

data Ending_view {A : Type 0} (xs : List A) : Type 0 where
  Empty : xs ≡ [] → Ending_view xs
  Last : (front : List A) (x : A) → xs ≡ front ++ x ∷ [] → Ending_view xs

view : {A : Type 0} (xs : List A) → Ending_view xs
view [] = Empty refl
view (x ∷ xs) = go (view xs)
  where
    go : Ending_view xs → Ending_view (x ∷ xs)
    go (Empty e) = Last [] x (ap (λ zs. x ∷ zs) e)
    go (Last front y e) = Last (x ∷ front) y (ap (λ zs. x ∷ zs) e)

-- no answer with a stream's id stands before the call that names it
abbrev pub Led_by : List Purpose → Type 0
Led_by ms = (pre post : List Purpose) (c : Invoked) (i : List ℕ) → pre ++ ToBegin c ∷ post ≡ ms → is_among i c.streams ≡ true → said i pre ≡ []

led_push : (ms : List Purpose) (m : Purpose) → Led_by ms → ((c : Invoked) (i : List ℕ) → m ≡ ToBegin c → is_among i c.streams ≡ true → said i ms ≡ []) → Led_by (ms ++ m ∷ [])
led_push ms m l f pre post c i e k = go (view post)
  where
    go : Ending_view post → said i pre ≡ []
    go (Empty z) =
        let q = snoc_parts pre ms (ToBegin c) m (ap (λ zs. pre ++ ToBegin c ∷ zs) (sym z) ∙ e) in
        ap (said i) q.0 ∙ f c i (sym q.1) k
    go (Last front x z) =
        let y : (pre ++ ToBegin c ∷ front) ++ x ∷ [] ≡ ms ++ m ∷ [] = append_assoc pre (ToBegin c ∷ front) (x ∷ []) ∙ (ap (λ zs. pre ++ ToBegin c ∷ zs) (sym z) ∙ e) in
        l pre front c i (snoc_parts (pre ++ ToBegin c ∷ front) ms x m y).0 k

-- a step says a call
abbrev pub SaysCall : Option ByteStep → Invoked → Type 0
SaysCall o c = sends o ≡ ToBegin c ∷ []

led_add : (t : Settings) (o : Option ByteStep) (s : List ByteStep) → Led_by (purposes (sent_messages (frames_of t s))) → ((c : Invoked) (i : List ℕ) → SaysCall o c → is_among i c.streams ≡ true → said i (purposes (sent_messages (frames_of t s))) ≡ []) → Led_by (purposes (sent_messages (frames_of t (add o s))))
led_add t (Some (Does (Sent m))) s l f = subst Led_by (sym (sent_add t (Some (Does (Sent m))) s)) (led_push (purposes (sent_messages (frames_of t s))) (purpose_of m) l (λ c i e k. f c i (ap (λ x. x ∷ []) e) k))
led_add t (Some (Bytes piece)) s l f = l
led_add t (Some (Does x)) s l f = l
led_add t None s l f = l

answer_no_call : (i : List ℕ) (a : Answer) (c : Invoked) → SaysCall (sending (Some (answer_message i a))) c → ⊥
answer_no_call i (Item v) c e = absurd (cc)
answer_no_call i (End v) c e = absurd (cc)

spelled_no_call : (i : List ℕ) (o : Option Answer) (c : Invoked) → SaysCall (sending (option_map (answer_message i) o)) c → ⊥
spelled_no_call i None c e = absurd (cc)
spelled_no_call i (Some a) c e = answer_no_call i a c e

reply_no_call : (way : Way) (o : Option Answer) (c : Invoked) → SaysCall (sending (message_for way o)) c → ⊥
reply_no_call Notify o c e = absurd (cc)
reply_no_call (Call i) o c e = spelled_no_call i o c e
reply_no_call (Stream i) o c e = spelled_no_call i o c e

nothing_no_call : (o : Option ByteStep) (c : Invoked) → sends o ≡ [] → SaysCall o c → ⊥
nothing_no_call o c e f = let z : ◌≡◌ {A = List Purpose} [] (ToBegin c ∷ []) = sym e ∙ f in absurd (cc)

-- the ids of a new call's streams
new_streams : (t : Settings) (last n : ℕ) (c : Invoked) (i : List ℕ) → (c.streams ≡ []) ⊎ IsNumbered t last n c → is_among i c.streams ≡ true → (k : ℕ) × (i ≡ t.name k) × (last < k)
new_streams t last n c i (inl e) m = absurd (let z : false ≡ true = subst (λ xs. is_among i xs ≡ true) e m in cc)
new_streams t last n c i (inr q) m = let k = member_names t i (suc n) (length c.streams) (subst (λ xs. is_among i xs ≡ true) q.1 m) in (k.0, k.1, omega (arith, q.0, k.2))

module _ {Job : Type 0} (hub : Hub Job) (t : Settings) (js : List Invoked) (ns : List ℕ) (own : (m n : ℕ) → t.name m ≡ t.name n → m ≡ n)
    (foreign : (n k : ℕ) (e : Invoked) → slice_get js k ≡ Some e → id_of e.way ≡ Some (t.name n) → ⊥) where
  pub led : (h : List PeerEvent) → Follows hub t h → Within js ns h → Led_by (said_by t h)
  led [] p w = λ pre post d i e k. absurd (never pre post d e)
    where
      never : (pre post : List Purpose) (d : Invoked) → pre ++ ToBegin d ∷ post ≡ [] → ⊥
      never [] post d e = absurd (cc)
      never (x ∷ pre) post d e = absurd (cc)
  led (Plain s ∷ h) p w = led_add t (Some s) (byte_steps t h) (led h p.0 w) (λ d i e k. absurd (nothing_no_call (Some s) d (plain_sends h s p.1) e))
  led (Calls a n call ∷ h) p w = led_add t (sending (Some (message_of call))) (byte_steps t h) (led h p.0 w) (λ d i e k.
      let x : ToBegin call ∷ [] ≡ ToBegin d ∷ [] = ap (λ q. q ∷ []) (sym (message-purpose call)) ∙ e in
      let y : call ≡ d = cc in
      let q = new_streams t (drawn h) n call i (made_numbered t (drawn h) n call.way call p.1.made) (subst (λ (v : Invoked). is_among i v.streams ≡ true) (sym y) k) in
      unsaid_yet hub t i js ns (λ x b f g. foreign q.0 x b f (g ∙ ap Some q.1)) q.0 q.1 own h p.0 w q.2)
  led (Uploads n v a ∷ h) p w = led_add t (sending (Some (answer_message (t.name (suc (n + v))) a))) (byte_steps t h) (led h p.0 w) (λ d i e k. absurd (answer_no_call (t.name (suc (n + v))) a d e))
  led (Cancels n ∷ h) p w = led_add t (sending (Some (CancelInvocation [] (t.name n)))) (byte_steps t h) (led h p.0 w) (λ d i e k. absurd (cc))
  led (Reads m ∷ h) p w = led h p.0 w
  led (Handles m e ∷ h) p w = led_add t (shuts (is_shut t h) (reason_of e)) (byte_steps t h) (led h p.0 (within_tail js ns (Handles m e) h w)) (λ d i f k. absurd (nothing_no_call (shuts (is_shut t h) (reason_of e)) d (shuts_sends (is_shut t h) (reason_of e)) f))
  led (Runs j call since turn what ∷ h) p w = led_add t (sending (message_for call.way (answer_of t (codec t h) call.way what))) (byte_steps t h) (led h p.0 w) (λ d i e k. absurd (reply_no_call call.way (answer_of t (codec t h) call.way what) d e))
  led (Answers j k ∷ h) p w = led h p.0 w
  led (Refuses j ∷ h) p w = led h p.0 w
  led (Loses k ∷ h) p w = led h p.0 w
  led (Rounds ∷ h) p w = led h p.0 w

-- what is fed to a job --------------------------------------------------------------------

-- where a call waits, nothing was handled that bears its streams' ids
abbrev pub StreamCausal : List PeerEvent → Type 0
StreamCausal [] = Unit {0}
StreamCausal (d ∷ h) = StreamCausal h × ((c : Invoked) (i : List ℕ) → waits (waiting h) ≡ ToBegin c ∷ [] → is_among i c.streams ≡ true → said i (handled h) ≡ [])

abbrev pub flooded : List PeerEvent → Bool
flooded [] = false
flooded (Handles m Flood ∷ h) = true
flooded (_ ∷ h) = flooded h

flood_shuts : {Job : Type 0} (hub : Hub Job) (t : Settings) (h : List PeerEvent) → Follows hub t h → OpenReads t h → flooded h ≡ true → (is_shut t h ≡ true) × (waiting h ≡ None)
flood_shuts hub t [] p o e = absurd (let z : false ≡ true = e in cc)
flood_shuts hub t (Handles m Flood ∷ h) p o e = (shuts_closes t (is_shut t h) reason.Flood (byte_steps t h) refl, refl)
flood_shuts hub t (Handles m e ∷ h) p o f = let q = flood_shuts hub t h p.0 o f in absurd (let z : ◌≡◌ {A = Option Message} None (Some m) = sym q.1 ∙ p.1.0 in cc)
flood_shuts hub t (Reads m ∷ h) p o e = let q = flood_shuts hub t h p.0 o.0 e in absurd (let z : true ≡ false = sym q.0 ∙ o.1 in cc)
flood_shuts hub t (d ∷ h) p o e = let q = flood_shuts hub t h p.0 o e in (add_closed t (next_step t h d) (byte_steps t h) q.0, q.1)

of_stream_push : (w : ℕ) (xs : List (ℕ × Answer)) (v : ℕ) (a : Answer) → of_stream w (xs ++ (v, a) ∷ []) ≡ of_stream w xs ++ put (w == v) a []
of_stream_push w [] v a = both (λ ys. ys ≡ put (w == v) a []) (w == v) (a ∷ []) [] (λ e. ap (λ b. put b a []) (sym e)) (λ e. ap (λ b. put b a []) (sym e))
of_stream_push w (x ∷ xs) v a = go (w == x.0) (of_stream_push w xs v a)
  where
    go : (b : Bool) → of_stream w (xs ++ (v, a) ∷ []) ≡ of_stream w xs ++ put (w == v) a [] → (if b then x.1 ∷ of_stream w (xs ++ (v, a) ∷ []) else of_stream w (xs ++ (v, a) ∷ [])) ≡ (if b then x.1 ∷ of_stream w xs else of_stream w xs) ++ put (w == v) a []
    go true e = ap (λ zs. x.1 ∷ zs) e
    go false e = e

begins_at : (t : Settings) (h : List PeerEvent) (m : Purpose) (d : Invoked) (now : ℕ) (floods : Bool) → ActsOn t h m (Begins d now floods) → m ≡ ToBegin d
begins_at t h (ToBegin c) d now floods p = ap ToBegin (sym p.0)
begins_at t h (ToAnswer i a) d now floods p = absurd p
begins_at t h (ToCancel i) d now floods p = absurd p
begins_at t h ToNothing d now floods p = absurd p

-- of a message with an id that is no own call's: it is fed to an open stream, or there is none, or it floods
data Fate (t : Settings) (h : List PeerEvent) (i : List ℕ) (m : Purpose) (e : Effect) : Type 0 where
  Elsewhere : said i (m ∷ []) ≡ [] → ((j w : ℕ) (a : Answer) → e ≡ Feeds j w a → (k : List ℕ) × (k ≡ i → ⊥) × StreamAt t h k j w) → Fate t h i m e
  Comes : (j w : ℕ) (a : Answer) → e ≡ Feeds j w a → said i (m ∷ []) ≡ a ∷ [] → StreamAt t h i j w → Fate t h i m e
  Nowhere : (a : Answer) → said i (m ∷ []) ≡ a ∷ [] → ((j w : ℕ) (a : Answer) → e ≡ Feeds j w a → ⊥) → ((j w : ℕ) → StreamAt t h i j w → ⊥) → Fate t h i m e
  Floods : (a : Answer) → said i (m ∷ []) ≡ a ∷ [] → e ≡ Flood → Fate t h i m e

said_self : (i : List ℕ) (a : Answer) → said i (ToAnswer i a ∷ []) ≡ a ∷ []
said_self i a = ap (λ b. put b a []) (same_refl i)

same_fate : (t : Settings) (h : List PeerEvent) (i : List ℕ) (a : Answer) (e : Effect) → ((n : ℕ) → t.name n ≡ i → ⊥) → Arrives t h i a e → Fate t h i (ToAnswer i a) e
same_fate t h i a (Brings n b floods) f p = absurd (f n p.1)
same_fate t h i a (Feeds j w b) f p = Comes j w b refl (said_self i a ∙ ap (λ x. x ∷ []) (sym p.0)) p.2
same_fate t h i a Flood f p = Floods a (said_self i a) refl
same_fate t h i a Nothing f p = Nowhere a (said_self i a) (λ j w b e. absurd (cc)) p.1
same_fate t h i a (Begins c now floods) f p = absurd p
same_fate t h i a (InUse c) f p = absurd p
same_fate t h i a (TooMany c) f p = absurd p
same_fate t h i a (Marks j) f p = absurd p

other_fate : (t : Settings) (h : List PeerEvent) (i k : List ℕ) (a : Answer) (e : Effect) → same_text i k ≡ false → Arrives t h k a e → Fate t h i (ToAnswer k a) e
other_fate t h i k a e f p = Elsewhere (ap (λ b. put b a []) f) (λ j w b g. (k, (λ z. absurd (let y : false ≡ true = sym f ∙ true-same i k (sym z) in cc)), (subst (λ x. Arrives t h k a x) g p).2))

arrival : (t : Settings) (h : List PeerEvent) (i k : List ℕ) (a : Answer) (e : Effect) → ((n : ℕ) → t.name n ≡ i → ⊥) → Arrives t h k a e → Fate t h i (ToAnswer k a) e
arrival t h i k a e f p = go (same_text i k) refl
  where
    go : (b : Bool) → same_text i k ≡ b → Fate t h i (ToAnswer k a) e
    go false g = other_fate t h i k a e g p
    go true g = let z = same-true i k g in subst (λ x. Fate t h i (ToAnswer x a) e) z (same_fate t h i a e f (subst (λ x. Arrives t h x a e) (sym z) p))

fate : (t : Settings) (h : List PeerEvent) (i : List ℕ) (m : Purpose) (e : Effect) → ((n : ℕ) → t.name n ≡ i → ⊥) → ActsOn t h m e → Fate t h i m e
fate t h i (ToAnswer k a) e f p = arrival t h i k a e f p
fate t h i (ToBegin c) (Feeds j w a) f p = absurd p
fate t h i (ToBegin c) e f p = Elsewhere refl (λ j w a g. absurd (cc))
fate t h i (ToCancel k) (Feeds j w a) f p = absurd p
fate t h i (ToCancel k) e f p = Elsewhere refl (λ j w a g. absurd (cc))
fate t h i ToNothing e f p = absurd p

get_some : {A : Type 0} (xs : List A) (k : ℕ) → k < length xs → (x : A) × (slice_get xs k ≡ Some x)
get_some [] k l = absurd (omega arith)
get_some (x ∷ xs) zero l = (x, refl)
get_some (x ∷ xs) (suc k) l = get_some xs k (omega arith)

module _ {Job : Type 0} (hub : Hub Job) (t : Settings) (cs : List Invoked) (ns : List ℕ) (j : ℕ) (d : Invoked) (at : slice_get cs j ≡ Some d) (w : ℕ) (i : List ℕ) (stream : slice_get d.streams w ≡ Some i) (named : is_among i d.streams ≡ true)
    (foreign : (n : ℕ) → t.name n ≡ i → ⊥) (one : (k : ℕ) (b : Invoked) (v : ℕ) → slice_get cs k ≡ Some b → slice_get b.streams v ≡ Some i → (k ≡ j) × (v ≡ w)) where
  pub record FedSo (h : List PeerEvent) : Type 0 where
    pub nothing : length (begun h) ≤ j → inputs j h ≡ []
    pub whole : j < length (begun h) → over t j h ≡ false → flooded h ≡ false → of_stream w (inputs j h) ≡ heard true (said i (handled h))
    pub front : j < length (begun h) → IsPrefix (of_stream w (inputs j h)) (heard true (said i (handled h)))

  -- nothing of it is said or fed
  unfed : (h g : List PeerEvent) → begun g ≡ begun h → (length (begun g) ≤ j → inputs j g ≡ []) → of_stream w (inputs j g) ≡ of_stream w (inputs j h) → said i (handled g) ≡ said i (handled h) → (over t j g ≡ false → over t j h ≡ false) → (flooded g ≡ false → flooded h ≡ false) → FedSo h → FedSo g
  unfed h g b n e s o f r = record {
    nothing = n;
    whole = λ l x y. e ∙ (r.whole (subst (λ xs. j < length xs) b l) (o x) (f y) ∙ ap (heard true) (sym s));
    front = λ l. subst (λ xs. IsPrefix xs (heard true (said i (handled g)))) (sym e) (subst (λ xs. IsPrefix (of_stream w (inputs j h)) (heard true xs)) (sym s) (r.front (subst (λ xs. j < length xs) b l)));
  }

  untouched : (h g : List PeerEvent) → begun g ≡ begun h → inputs j g ≡ inputs j h → said i (handled g) ≡ said i (handled h) → (over t j g ≡ false → over t j h ≡ false) → (flooded g ≡ false → flooded h ≡ false) → FedSo h → FedSo g
  untouched h g b e s o f r = unfed h g b (λ l. e ∙ r.nothing (subst (λ xs. length xs ≤ j) b l)) (ap (of_stream w) e) s o f r

  fed_more : (h : List PeerEvent) (m : Message) (e : Effect) → begun (Handles m e ∷ h) ≡ begun h → ((k v : ℕ) (a : Answer) → e ≡ Feeds k v a → ⊥) → inputs j (Handles m e ∷ h) ≡ inputs j h → (flooded (Handles m e ∷ h) ≡ false → flooded h ≡ false) → (e ≡ Flood → flooded (Handles m e ∷ h) ≡ true)
      → Within cs ns h → Fate t h i (purpose_of m) e → FedSo h → FedSo (Handles m e ∷ h)
  fed_more h m e b none same f fl wi (Elsewhere s q) r = untouched h (Handles m e ∷ h) b same (said-append i (handled h) (purpose_of m ∷ []) ∙ (ap (λ xs. said i (handled h) ++ xs) s ∙ append_none (said i (handled h)))) (λ o. o) f r
  fed_more h m e b none same f fl wi (Comes k v a z s q) r = absurd (none k v a z)
  fed_more h m e b none same f fl wi (Floods a s z) r =
      let grown : said i (handled h ++ purpose_of m ∷ []) ≡ said i (handled h) ++ a ∷ [] = said-append i (handled h) (purpose_of m ∷ []) ∙ ap (λ xs. said i (handled h) ++ xs) s in record {
        nothing = λ l. same ∙ r.nothing (subst (λ xs. length xs ≤ j) b l);
        whole = λ l x y. absurd (let u : true ≡ false = sym (fl z) ∙ y in cc);
        front = λ l. subst (λ xs. IsPrefix (of_stream w xs) (heard true (said i (handled h ++ purpose_of m ∷ [])))) (sym same) (subst (λ xs. IsPrefix (of_stream w (inputs j h)) (heard true xs)) (sym grown)
            (prefix_trans (of_stream w (inputs j h)) (heard true (said i (handled h))) (heard true (said i (handled h) ++ a ∷ [])) (r.front (subst (λ xs. j < length xs) b l)) (heard_prefix true (said i (handled h)) (a ∷ []))));
      }
  fed_more h m e b none same f fl wi (Nowhere a s z q) r =
      let grown : said i (handled h ++ purpose_of m ∷ []) ≡ said i (handled h) ++ a ∷ [] = said-append i (handled h) (purpose_of m ∷ []) ∙ ap (λ xs. said i (handled h) ++ xs) s in record {
        nothing = λ l. same ∙ r.nothing (subst (λ xs. length xs ≤ j) b l);
        whole = λ l x y.
            let k : j < length (begun h) = subst (λ xs. j < length xs) b l in
            let old = r.whole k x (f y) in
            let ended : has_end (of_stream w (inputs j h)) ≡ true = over_now h k x q wi in
            ap (of_stream w) same ∙ (old ∙ (sym (heard_ended true (said i (handled h)) (a ∷ []) (ap has_end (sym old) ∙ ended)) ∙ ap (heard true) (sym grown)));
        front = λ l. subst (λ xs. IsPrefix (of_stream w xs) (heard true (said i (handled h ++ purpose_of m ∷ [])))) (sym same) (subst (λ xs. IsPrefix (of_stream w (inputs j h)) (heard true xs)) (sym grown)
            (prefix_trans (of_stream w (inputs j h)) (heard true (said i (handled h))) (heard true (said i (handled h) ++ a ∷ [])) (r.front (subst (λ xs. j < length xs) b l)) (heard_prefix true (said i (handled h)) (a ∷ []))));
      }
    where
      live_at : (h : List PeerEvent) → j < length (begun h) → over t j h ≡ false → live_job t j h ≡ true
      live_at h k x = go (nat_lt j (length (begun h))) refl
        where
          go : (b : Bool) → nat_lt j (length (begun h)) ≡ b → (b && not (over t j h)) ≡ true
          go true e = ap not x
          go false e = absurd (let z = ltb-false j (length (begun h)) e in omega arith)

      over_now : (h : List PeerEvent) → j < length (begun h) → over t j h ≡ false → ((j w : ℕ) → StreamAt t h i j w → ⊥) → Within cs ns h → has_end (of_stream w (inputs j h)) ≡ true
      over_now h k x q wi =
          let b = get_some (begun h) j k in
          let z : Some b.0 ≡ Some d = sym (wi.0 j b.0 b.1) ∙ at in
          let y : b.0 ≡ d = cc in
          let here : slice_get (begun h) j ≡ Some d = b.1 ∙ ap Some y in
          go (has_end (of_stream w (inputs j h))) refl here
        where
          go : (b : Bool) → has_end (of_stream w (inputs j h)) ≡ b → slice_get (begun h) j ≡ Some d → b ≡ true
          go true e here = refl
          go false e here = absurd (q j w (record { call = d; at = here; stream = stream; live = live_at h k x; unended = e }))

  live_fed : (h : List PeerEvent) (k v : ℕ) (b : List ℕ) → StreamAt t h b k v → (k < length (begun h)) × (over t k h ≡ false)
  live_fed h k v b q = (get_within (begun h) k q.call q.at, (live_parts t k h q.live).1)

  fed_one : (h : List PeerEvent) (m : Message) (k v : ℕ) (a : Answer) → flooded h ≡ false → Within cs ns h → Fate t h i (purpose_of m) (Feeds k v a) → FedSo h → FedSo (Handles m (Feeds k v a) ∷ h)
  fed_one h m k v a dry wi (Nowhere b s z q) r = absurd (z k v a refl)
  fed_one h m k v a dry wi (Floods b s z) r = absurd (cc)
  fed_one h m k v a dry wi (Elsewhere s f) r = go (j == k) refl (w == v) refl
    where
      still : said i (handled h ++ purpose_of m ∷ []) ≡ said i (handled h)
      still = said-append i (handled h) (purpose_of m ∷ []) ∙ (ap (λ xs. said i (handled h) ++ xs) s ∙ append_none (said i (handled h)))

      go : (x : Bool) → (j == k) ≡ x → (y : Bool) → (w == v) ≡ y → FedSo (Handles m (Feeds k v a) ∷ h)
      go false e y g = untouched h (Handles m (Feeds k v a) ∷ h) refl (ap (λ b. if b then inputs j h ++ (v, a) ∷ [] else inputs j h) e) still (λ o. o) (λ o. o) r
      go true e false g =
          let q = f k v a refl in
          let l = live_fed h k v q.0 q.2 in
          let z = eqb-true j k e in
          unfed h (Handles m (Feeds k v a) ∷ h) refl (λ b. absurd (let x = l.0 in omega arith))
          (ap (λ b. of_stream w (if b then inputs j h ++ (v, a) ∷ [] else inputs j h)) e ∙ (of_stream_push w (inputs j h) v a ∙ (ap (λ b. of_stream w (inputs j h) ++ put b a []) g ∙ append_none (of_stream w (inputs j h))))) still (λ o. o) (λ o. o) r
      go true e true g =
          let q = f k v a refl in
          let z = eqb-true j k e in
          let y = eqb-true w v g in
          let r2 = q.2 in
          let b : Some r2.call ≡ Some d = sym (wi.0 k r2.call r2.at) ∙ (ap (slice_get cs) (sym z) ∙ at) in
          let x : r2.call ≡ d = cc in
          let u : Some q.0 ≡ Some i = sym r2.stream ∙ (ap (λ (k : Invoked). slice_get k.streams v) x ∙ (ap (slice_get d.streams) (sym y) ∙ stream)) in
          absurd (q.1 (cc))
  fed_one h m k v a dry wi (Comes k2 v2 b z s q) r =
      let o = one k2 q.call v2 (wi.0 k2 q.call q.at) q.stream in
      let ek : k ≡ k2 = cc in
      let ev : v ≡ v2 = cc in
      let ea : a ≡ b = cc in
      let kj : k ≡ j = ek ∙ o.0 in
      let vw : v ≡ w = ev ∙ o.1 in
      let l0 = live_fed h k2 v2 i q in
      let l : j < length (begun h) = subst (λ x. x < length (begun h)) o.0 l0.0 in
      let lo : over t j h ≡ false = subst (λ x. over t x h ≡ false) o.0 l0.1 in
      let old = r.whole l lo dry in
      let open_ : has_end (of_stream w (inputs j h)) ≡ false = subst (λ x. has_end (of_stream w (inputs x h)) ≡ false) o.0 (subst (λ x. has_end (of_stream x (inputs k2 h)) ≡ false) o.1 q.unended) in
      let grown : said i (handled h ++ purpose_of m ∷ []) ≡ said i (handled h) ++ a ∷ [] = said-append i (handled h) (purpose_of m ∷ []) ∙ ap (λ xs. said i (handled h) ++ xs) (s ∙ ap (λ x. x ∷ []) (sym ea)) in
      let new : of_stream w (inputs j (Handles m (Feeds k v a) ∷ h)) ≡ of_stream w (inputs j h) ++ a ∷ [] = ap (λ b. of_stream w (if b then inputs j h ++ (v, a) ∷ [] else inputs j h)) (eq-eqb j k (sym kj)) ∙ (of_stream_push w (inputs j h) v a ∙ ap (λ b. of_stream w (inputs j h) ++ put b a []) (eq-eqb w v (sym vw))) in
      let all : of_stream w (inputs j (Handles m (Feeds k v a) ∷ h)) ≡ heard true (said i (handled h ++ purpose_of m ∷ [])) =
      new ∙ (ap (λ xs. xs ++ a ∷ []) old ∙ (sym (heard_push true (said i (handled h)) a (ap has_end (sym old) ∙ open_) (accepted a)) ∙ ap (heard true) (sym grown))) in
      record {
        nothing = λ x. absurd (omega arith);
        whole = λ x y e. all;
        front = λ x. ([], append_none (of_stream w (inputs j (Handles m (Feeds k v a) ∷ h))) ∙ all);
      }
    where
      accepted : (a : Answer) → accepts true a ≡ true
      accepted (Item v) = refl
      accepted (End v) = refl

  begun_one : (h : List PeerEvent) (m : Message) (b : Invoked) (now : ℕ) (floods : Bool) → purpose_of m ≡ ToBegin b → waiting h ≡ Some m → ((c : Invoked) (i : List ℕ) → waits (waiting h) ≡ ToBegin c ∷ [] → is_among i c.streams ≡ true → said i (handled h) ≡ [])
      → Within cs ns (Handles m (Begins b now floods) ∷ h) → FedSo h → FedSo (Handles m (Begins b now floods) ∷ h)
  begun_one h m b now floods e wait quiet wi r = go (length (begun h) == j) refl
    where
      still : said i (handled h ++ purpose_of m ∷ []) ≡ said i (handled h)
      still = said-append i (handled h) (purpose_of m ∷ []) ∙ (ap (λ x. said i (handled h) ++ said i (x ∷ [])) e ∙ append_none (said i (handled h)))

      longer : length (begun h ++ b ∷ []) ≡ suc (length (begun h))
      longer = length-append (begun h) (b ∷ []) ∙ (let z : length (b ∷ []) ≡ 1 = refl in omega arith)

      go : (x : Bool) → (length (begun h) == j) ≡ x → FedSo (Handles m (Begins b now floods) ∷ h)
      go true f =
          let z = eqb-true (length (begun h)) j f in
          let y : Some b ≡ Some d = sym (wi.0 (length (begun h)) b (get_last (begun h) b)) ∙ (ap (slice_get cs) z ∙ at) in
          let x : b ≡ d = cc in
          let none : said i (handled h) ≡ [] = quiet d i (ap waits wait ∙ ap (λ q. q ∷ []) (e ∙ ap ToBegin x)) named in
          let empty : inputs j h ≡ [] = r.nothing (omega arith) in
          let all : of_stream w (inputs j h) ≡ heard true (said i (handled h ++ purpose_of m ∷ [])) = ap (of_stream w) empty ∙ ap (heard true) (sym (still ∙ none)) in
          record { nothing = λ l. empty; whole = λ l o g. all; front = λ l. ([], append_none (of_stream w (inputs j h)) ∙ all) }
      go false f =
          let apart : length (begun h) ≡ j → ⊥ = λ g. absurd (let z : false ≡ true = sym f ∙ eq-eqb (length (begun h)) j g in cc) in
          record {
            nothing = λ l. r.nothing (let z = longer in omega arith);
            whole = λ l o g. r.whole (within_less l apart) o g ∙ ap (heard true) (sym still);
            front = λ l. subst (λ xs. IsPrefix (of_stream w (inputs j h)) (heard true xs)) (sym still) (r.front (within_less l apart));
          }
        where
          within_less : j < length (begun h ++ b ∷ []) → (length (begun h) ≡ j → ⊥) → j < length (begun h)
          within_less l g = let z = longer in less (length (begun h)) (omega arith) g
            where
              less : (n : ℕ) → j < suc n → (n ≡ j → ⊥) → j < n
              less n l g = decide (nat_lt j n) refl
                where
                  decide : (b : Bool) → nat_lt j n ≡ b → j < n
                  decide true e = ltb-true j n e
                  decide false e = absurd (g (let z = ltb-false j n e in omega arith))

  pub feeds : (h : List PeerEvent) → Follows hub t h → OpenReads t h → StreamCausal h → Within cs ns h → FedSo h
  feeds [] p o k wi = record { nothing = λ l. refl; whole = λ l x y. refl; front = λ l. ([], refl) }
  feeds (Handles m (Begins b now floods) ∷ h) p o k wi = begun_one h m b now floods (begins_at t h (purpose_of m) b now floods p.1.1) p.1.0 k.1 wi (feeds h p.0 o k.0 (within_tail cs ns (Handles m (Begins b now floods)) h wi))
  feeds (Handles m (Feeds b v a) ∷ h) p o k wi = fed_one h m b v a (not_true (flooded h) (λ e. let q = flood_shuts hub t h p.0 o e in absurd (let z : ◌≡◌ {A = Option Message} None (Some m) = sym q.1 ∙ p.1.0 in cc))) wi (fate t h i (purpose_of m) (Feeds b v a) foreign p.1.1) (feeds h p.0 o k.0 wi)
  feeds (Handles m Flood ∷ h) p o k wi = fed_more h m Flood refl (λ x v a e. absurd (cc)) refl (λ e. absurd (let z : true ≡ false = e in cc)) (λ e. refl) wi (fate t h i (purpose_of m) Flood foreign p.1.1) (feeds h p.0 o k.0 wi)
  feeds (Handles m e ∷ h) p o k wi = fed_more h m e refl (λ x v a f. absurd (cc)) refl (λ f. f) (λ f. absurd (cc)) wi (fate t h i (purpose_of m) e foreign p.1.1) (feeds h p.0 o k.0 wi)
  feeds (Runs b call since turn what ∷ h) p o k wi = untouched h (Runs b call since turn what ∷ h) refl refl refl (λ e. right ((j == b) && ends_job t (codec t h) call.way what) (over t j h) e) (λ e. e) (feeds h p.0 o k.0 wi)
    where
      right : (x y : Bool) → (x || y) ≡ false → y ≡ false
      right true y e = absurd (let z : true ≡ false = e in cc)
      right false y e = e
  feeds (Reads m ∷ h) p o k wi = untouched h (Reads m ∷ h) refl refl refl (λ e. e) (λ e. e) (feeds h p.0 o.0 k.0 wi)
  feeds (b ∷ h) p o k wi = untouched h (b ∷ h) refl refl refl (λ e. e) (λ e. e) (feeds h p.0 o k.0 wi)
