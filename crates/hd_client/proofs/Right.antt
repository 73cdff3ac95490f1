-- Why a message isn't sent is computed as the rules of peers and ends say it.
use Rattle.std.proofs.Common.{refl, sym, ◌∙◌, ◌≡◌, ◌≤◌, ◌<◌, ℕ, Bool, true, false, not, Some, None, List, true≢false, if◌then◌else◌, arith}
use Rattle.std.specs.Prelude.{length, nat_lt, nat_le, option_map}
use Rattle.std.proofs.lemmas.Bool.{and_parts, leb-true, leb-false, ltb-true, ltb-false}
use Rattle.hm_message.specs.declared.message.Message.{Message}
use Rattle.hm_message.specs.Message.{Fits, content_depth, is_sequenced}
use Rattle.hd_delivery.specs.Histories.{held_messages, is_shaken}
use Rattle.hd_delivery.specs.Worlds.{HasRoom, IsAsRead}
use Rattle.hd_delivery.specs.Sending as sending
use Rattle.hd_delivery.specs.Bytes.{sizes_of}
use Rattle.hd_calls.specs.Numbers.{most_depth}
use Rattle.hd_calls.specs.Peers.{PeerEvent, Settings, steps, codec, is_shut}
use Rattle.hd_calls.specs.Rules.{TooDeep, Unsent}
use Rattle.hd_server.specs.Machine.{has_room, has_number}
use Rattle.hd_client.specs.Refusals.{framed_size, held_bytes, send_refusal}
use Rattle.hd_client.specs.Laws.{IsRightRefusal, RefusalsAreRight}

pub le_test : (m n : ℕ) → m ≤ n → nat_le m n ≡ true
le_test m n e = by (nat_le m n) refl where
  by : (b : Bool) → nat_le m n ≡ b → b ≡ true
  by true f = refl
  by false f = absurd (let over = leb-false m n f in let h : ⊥ = omega arith in h)

pub lt_test : (m n : ℕ) → m < n → nat_lt m n ≡ true
lt_test m n e = by (nat_lt m n) refl where
  by : (b : Bool) → nat_lt m n ≡ b → b ≡ true
  by true f = refl
  by false f = absurd (let over = ltb-false m n f in let h : ⊥ = omega arith in h)

module _ (t : Settings) (h : List PeerEvent) (m : Message) (sequenced : is_sequenced m ≡ true) (as_read : IsAsRead (codec t h) m) (fits : Fits m) where
  room_of : (size : ℕ) → has_room t h size ≡ true → HasRoom t.limits (sizes_of t.wire) t.config (steps t h) size
  room_of size e = let p = and_parts _ _ e in record { of_count = ltb-true _ _ p.0; of_bytes = leb-true _ _ p.1 }

  no_room : (size : ℕ) → has_room t h size ≡ false → HasRoom t.limits (sizes_of t.wire) t.config (steps t h) size → ⊥
  no_room size e r =
      let both : has_room t h size ≡ true = rw (lt_test _ _ r.of_count, le_test _ _ r.of_bytes) refl in
      true≢false (sym both ∙ e)

  numbered : is_shut t h ≡ false → is_shaken (steps t h) ≡ true → t.wire.frame_size (codec t h) m ≤ t.limits.frame
      → HasRoom t.limits (sizes_of t.wire) t.config (steps t h) (framed_size t h m)
      → (b : Bool) → has_number t h ≡ b → IsRightRefusal t h m (option_map Unsent (if b then None else Some sending.Exhausted))
  numbered up shakes short room true e = (
    fits,
    record {
      unclosed = up;
      shakes = shakes;
      few = ltb-true _ _ e;
      can_be = record { sequenced = sequenced; fits = fits; as_read = as_read; short = short };
      room = room;
    },
  )
  numbered up shakes short room false e = (fits, (record { unclosed = up; shakes = shakes; short = short }, room, ltb-false _ _ e))

  roomy : is_shut t h ≡ false → is_shaken (steps t h) ≡ true → t.wire.frame_size (codec t h) m ≤ t.limits.frame
      → (b : Bool) → has_room t h (framed_size t h m) ≡ b
      → IsRightRefusal t h m (option_map Unsent (if not b then Some (sending.Full (length (held_messages t.config (steps t h))) (held_bytes t h) (framed_size t h m))
      else (if has_number t h then None else Some sending.Exhausted)))
  roomy up shakes short true e = numbered up shakes short (room_of _ e) (has_number t h) refl
  roomy up shakes short false e = (fits, (record { unclosed = up; shakes = shakes; short = short }, refl, refl, refl, no_room _ e))

  short_or_not : is_shut t h ≡ false → is_shaken (steps t h) ≡ true → (b : Bool) → nat_lt t.limits.frame (t.wire.frame_size (codec t h) m) ≡ b
      → IsRightRefusal t h m (option_map Unsent (if b then Some (sending.TooLong (t.wire.frame_size (codec t h) m)) else
      (if not (has_room t h (framed_size t h m)) then Some (sending.Full (length (held_messages t.config (steps t h))) (held_bytes t h) (framed_size t h m))
      else (if has_number t h then None else Some sending.Exhausted))))
  short_or_not up shakes true e = (fits, (up, shakes, refl, ltb-true _ _ e))
  short_or_not up shakes false e = roomy up shakes (ltb-false _ _ e) (has_room t h (framed_size t h m)) refl

  shaken_or_not : is_shut t h ≡ false → (b : Bool) → is_shaken (steps t h) ≡ b
      → IsRightRefusal t h m (option_map Unsent (if not b then Some sending.Opening else
      (if nat_lt t.limits.frame (t.wire.frame_size (codec t h) m) then Some (sending.TooLong (t.wire.frame_size (codec t h) m)) else
      (if not (has_room t h (framed_size t h m)) then Some (sending.Full (length (held_messages t.config (steps t h))) (held_bytes t h) (framed_size t h m))
      else (if has_number t h then None else Some sending.Exhausted)))))
  shaken_or_not up true e = short_or_not up e (nat_lt t.limits.frame (t.wire.frame_size (codec t h) m)) refl
  shaken_or_not up false e = (fits, (e, up))

  shut_or_not : (b : Bool) → is_shut t h ≡ b
      → IsRightRefusal t h m (option_map Unsent (if b then Some sending.Closed else (if not (is_shaken (steps t h)) then Some sending.Opening else
      (if nat_lt t.limits.frame (t.wire.frame_size (codec t h) m) then Some (sending.TooLong (t.wire.frame_size (codec t h) m)) else
      (if not (has_room t h (framed_size t h m)) then Some (sending.Full (length (held_messages t.config (steps t h))) (held_bytes t h) (framed_size t h m))
      else (if has_number t h then None else Some sending.Exhausted))))))
  shut_or_not true e = (fits, e)
  shut_or_not false e = shaken_or_not e (is_shaken (steps t h)) refl

pub refusals_are_right : RefusalsAreRight
refusals_are_right t h m sequenced as_read = by (nat_le (content_depth m) most_depth) refl where
  by : (b : Bool) → nat_le (content_depth m) most_depth ≡ b
      → IsRightRefusal t h m (if b then option_map Unsent (send_refusal t h m) else Some TooDeep)
  by true e = shut_or_not t h m sequenced as_read (leb-true _ _ e) (is_shut t h) refl
  by false e = λ fits. true≢false (sym (le_test _ _ fits) ∙ e)
