-- A reason by the rules of peers is the one that is computed.
use Rattle.std.proofs.Common.{refl, subst, ◌≡◌, ◌≤◌, ◌<◌, ℕ, Bool, true, false, Some, None, List, [], arith}
use Rattle.std.specs.Prelude.{nat_lt, nat_le}
use Rattle.std.proofs.lemmas.Bool.{and_parts, leb-true, ltb-true}
use Rattle.hm_message.specs.declared.message.Message.{Message}
use Rattle.hm_message.specs.declared.message.Message.TheVariants.{CancelInvocation}
use Rattle.hm_message.specs.Message.{Fits, content_depth}
use Rattle.hd_delivery.specs.Worlds.{HasRoom, MaySend}
use Rattle.hd_delivery.specs.Sending as sending
use Rattle.hd_delivery.specs.Sending.{SendRefusal, IsRefusedToSend}
use Rattle.hd_delivery.specs.Bytes.{sizes_of}
use Rattle.hd_calls.specs.Numbers.{most_depth}
use Rattle.hd_calls.specs.Hubs.{Answer, Invoked, message_of}
use Rattle.hd_calls.specs.Peers.{PeerEvent, Settings, steps, codec}
use Rattle.hd_calls.specs.Rules.{CallRefusal, TooManyLive, Spent, Unknown, TooDeep, Unsent, HasPlace, IsRefusedCall, IsRefusedUpload, IsRefusedCancel, IsUnsent}
use Rattle.hd_server.specs.Machine.{has_room, has_number}
use Rattle.hd_client.specs.Refusals.{framed_size, send_refusal, unsent, call_refusal, upload_refusal, cancel_refusal}
use Rattle.hd_client.specs.Laws.{AllReasonsAreComputed}
use Rattle.hd_client.proofs.Right.{le_test, lt_test}

le_fails : (m n : ℕ) → n < m → nat_le m n ≡ false
le_fails m n e = by (nat_le m n) refl where
  by : (b : Bool) → nat_le m n ≡ b → b ≡ false
  by false f = refl
  by true f = absurd (let le = leb-true m n f in let h : ⊥ = omega arith in h)

lt_fails : (m n : ℕ) → n ≤ m → nat_lt m n ≡ false
lt_fails m n e = by (nat_lt m n) refl where
  by : (b : Bool) → nat_lt m n ≡ b → b ≡ false
  by false f = refl
  by true f = absurd (let lt = ltb-true m n f in let h : ⊥ = omega arith in h)

module _ (t : Settings) (h : List PeerEvent) where
  room : (size : ℕ) → HasRoom t.limits (sizes_of t.wire) t.config (steps t h) size → has_room t h size ≡ true
  room size r = rw (lt_test _ _ r.of_count, le_test _ _ r.of_bytes) refl

  no_room : (size : ℕ) → (HasRoom t.limits (sizes_of t.wire) t.config (steps t h) size → ⊥) → has_room t h size ≡ false
  no_room size excluded = by (has_room t h size) refl where
    by : (b : Bool) → has_room t h size ≡ b → b ≡ false
    by false e = refl
    by true e = absurd (let p = and_parts _ _ e in excluded (record { of_count = ltb-true _ _ p.0; of_bytes = leb-true _ _ p.1 }))

  refused : (m : Message) (why : SendRefusal) → IsRefusedToSend t.limits (sizes_of t.wire) t.config (steps t h) m why → send_refusal t h m ≡ Some why
  refused m sending.Opening (shakes, up) = rw (up, shakes) refl
  refused m sending.Closed down = rw down refl
  refused m (sending.TooLong size) (up, shakes, is, long) =
      let test : nat_lt t.limits.frame (t.wire.frame_size (codec t h) m) ≡ true = lt_test _ _ (subst (λ n. t.limits.frame < n) is long) in
      rw (up, shakes, test, is) refl
  refused m (sending.Full held bytes size) (can, held_is, bytes_is, size_is, excluded) =
      let test : nat_lt t.limits.frame (t.wire.frame_size (codec t h) m) ≡ false = lt_fails _ _ can.short in
      let none : has_room t h (framed_size t h m) ≡ false = no_room (framed_size t h m) (subst (λ n. HasRoom t.limits (sizes_of t.wire) t.config (steps t h) n → ⊥) size_is excluded) in
      rw (can.unclosed, can.shakes, test, none, held_is, bytes_is, size_is) refl
  refused m sending.Exhausted (can, has, many) =
      let test : nat_lt t.limits.frame (t.wire.frame_size (codec t h) m) ≡ false = lt_fails _ _ can.short in
      let number : has_number t h ≡ false = lt_fails _ _ many in
      rw (can.unclosed, can.shakes, test, room (framed_size t h m) has, number) refl

  sent : (m : Message) → MaySend t.limits (sizes_of t.wire) t.config (steps t h) m → send_refusal t h m ≡ None
  sent m may =
      let test : nat_lt t.limits.frame (t.wire.frame_size (codec t h) m) ≡ false = lt_fails _ _ may.can_be.short in
      let number : has_number t h ≡ true = lt_test _ _ may.few in
      rw (may.unclosed, may.shakes, test, room (framed_size t h m) may.room, number) refl

  deep : (m : Message) → (Fits m → ⊥) → nat_le (content_depth m) most_depth ≡ false
  deep m excluded = by (nat_le (content_depth m) most_depth) refl where
    by : (b : Bool) → nat_le (content_depth m) most_depth ≡ b → b ≡ false
    by false e = refl
    by true e = absurd (excluded (leb-true _ _ e))

  told : (m : Message) (why : CallRefusal) → IsUnsent t h m why → unsent t h m ≡ Some why
  told m TooDeep excluded = rw (deep m excluded) refl
  told m (Unsent why) (fits, is) = rw (le_test _ _ fits, refused m why is) refl
  told m TooManyLive never = absurd never
  told m Spent never = absurd never
  told m Unknown never = absurd never

  untold : (m : Message) → Fits m → MaySend t.limits (sizes_of t.wire) t.config (steps t h) m → unsent t h m ≡ None
  untold m fits may = rw (le_test _ _ fits, sent m may) refl

  placed : (c : Invoked) (why : CallRefusal) → HasPlace c h → unsent t h (message_of c) ≡ Some why → call_refusal t h c ≡ Some why
  placed c why place e = rw (lt_fails _ _ place.few_live, lt_fails _ _ place.few_numbers) e

  call : (c : Invoked) (why : CallRefusal) → IsRefusedCall t h c why → call_refusal t h c ≡ Some why
  call c TooManyLive many = rw (lt_test _ _ many) refl
  call c Spent (few, many) = rw (lt_fails _ _ few, lt_test _ _ many) refl
  call c TooDeep (place, is) = placed c TooDeep place (told (message_of c) TooDeep is)
  call c (Unsent why) (place, is) = placed c (Unsent why) place (told (message_of c) (Unsent why) is)
  call c Unknown (place, is) = absurd is

  upload : (n w : ℕ) (a : Answer) (why : CallRefusal) → IsRefusedUpload t h n w a why → upload_refusal t h n w a ≡ Some why
  upload n w a Unknown dead = rw dead refl
  upload n w a TooDeep (live, is) = rw live (told _ TooDeep is)
  upload n w a (Unsent why) (live, is) = rw live (told _ (Unsent why) is)
  upload n w a TooManyLive (live, is) = absurd is
  upload n w a Spent (live, is) = absurd is

  cancel : (n : ℕ) (why : CallRefusal) → IsRefusedCancel t h n why → cancel_refusal t h n ≡ Some why
  cancel n Unknown dead = rw dead refl
  cancel n TooDeep (live, is) = rw live (told (CancelInvocation [] (t.name n)) TooDeep is)
  cancel n (Unsent why) (live, is) = rw live (told (CancelInvocation [] (t.name n)) (Unsent why) is)
  cancel n TooManyLive (live, is) = absurd is
  cancel n Spent (live, is) = absurd is

pub reasons_are_computed : AllReasonsAreComputed
reasons_are_computed t h = record {
  calls = call t h;
  uploads = upload t h;
  cancels = cancel t h;
  calls_made = λ c place fits may. rw (lt_fails _ _ place.few_live, lt_fails _ _ place.few_numbers) (untold t h (message_of c) fits may);
  uploads_made = λ n w a live fits may. rw live (untold t h _ fits may);
  cancels_made = λ n live fits may. rw live (untold t h (CancelInvocation [] (t.name n)) fits may);
}
