-- The tests of the hub machine are the rules of peers and of ends.
use Rattle.std.proofs.Common.{refl, inl, inr, List, [], None, ◌≡◌, ◌≤◌, ◌<◌, ℕ, Bool, true, false, not, if◌then◌else◌, true≢false, sym, ◌∙◌, arith}
use Rattle.std.specs.Prelude.{nat_lt, nat_le, ◌+◌}
use Rattle.std.proofs.lemmas.Bool.{and_parts, leb-true, leb-false, ltb-true, ltb-false, not-true}
use Rattle.hv_value.specs.Tree.{Tree}
use Rattle.hm_message.specs.declared.message.Codec.{Codec}
use Rattle.hm_message.specs.declared.message.Codec.TheVariants.{Json, Pack}
use Rattle.hm_message.specs.declared.message.Message.{Message}
use Rattle.hm_message.specs.declared.message.Message.TheVariants.{Invocation}
use Rattle.hm_message.specs.Message.{Fits, content_depth}
use Rattle.hm_message.specs.Laws.{ImageIsItsImage}
use Rattle.hd_delivery.specs.Numbers.{most_framing}
use Rattle.hd_delivery.specs.Histories.{is_shaken}
use Rattle.hd_delivery.specs.Worlds.{HasRoom, IsAsRead, CanBeSent}
use Rattle.hd_delivery.specs.Bytes.{sizes_of}
use Rattle.hd_calls.specs.Numbers.{most_depth}
use Rattle.hd_calls.specs.Hubs.{message_of}
use Rattle.hd_calls.specs.Peers.{PeerEvent, Settings, steps, codec, is_shut}
use Rattle.hd_calls.specs.Rules.{MayTurn}
use Rattle.hd_server.specs.Machine.{Got, TooSlow, PassedOver, has_room, has_number, may_turn, notice}
use Rattle.hd_server.specs.Laws.{TurnsAreTested, IsRightFate, FatesAreRefusals}

le-test : (m n : ℕ) → m ≤ n → nat_le m n ≡ true
le-test m n e = by (nat_le m n) refl where
  by : (b : Bool) → nat_le m n ≡ b → b ≡ true
  by true f = refl
  by false f = absurd (let over = leb-false m n f in let h : ⊥ = omega arith in h)

lt-test : (m n : ℕ) → m < n → nat_lt m n ≡ true
lt-test m n e = by (nat_lt m n) refl where
  by : (b : Bool) → nat_lt m n ≡ b → b ≡ true
  by true f = refl
  by false f = absurd (let over = ltb-false m n f in let h : ⊥ = omega arith in h)

module _ (t : Settings) (h : List PeerEvent) where
  room_of : (size : ℕ) → has_room t h size ≡ true → HasRoom t.limits (sizes_of t.wire) t.config (steps t h) size
  room_of size e = let p = and_parts _ _ e in record { of_count = ltb-true _ _ p.0; of_bytes = leb-true _ _ p.1 }

  room_is : (size : ℕ) → HasRoom t.limits (sizes_of t.wire) t.config (steps t h) size → has_room t h size ≡ true
  room_is size r = rw (lt-test _ _ r.of_count, le-test _ _ r.of_bytes) refl

  no_room : (size : ℕ) → has_room t h size ≡ false → HasRoom t.limits (sizes_of t.wire) t.config (steps t h) size → ⊥
  no_room size e r = true≢false (sym (room_is size r) ∙ e)

  turn_of : may_turn t h ≡ true → MayTurn t h
  turn_of e =
      let p = and_parts _ _ e in
      let q = and_parts _ _ p.1 in
      record { unclosed = not-true _ p.0; room = room_of (t.limits.frame + most_framing) q.0; few = ltb-true _ _ q.1 }

  turn_is : MayTurn t h → may_turn t h ≡ true
  turn_is m = rw (m.unclosed, room_is (t.limits.frame + most_framing) m.room, lt-test _ _ m.few) refl

pub turns_are_tested : TurnsAreTested
turns_are_tested t h = (turn_of t h, turn_is t h)

module _ (t : Settings) (h : List PeerEvent) (m : Message) (up : is_shut t h ≡ false)
    (can : Fits m → t.wire.frame_size (codec t h) m ≤ t.limits.frame → CanBeSent t.limits (sizes_of t.wire) (codec t h) m) where
  numbered : Fits m → is_shaken (steps t h) ≡ true → t.wire.frame_size (codec t h) m ≤ t.limits.frame
      → HasRoom t.limits (sizes_of t.wire) t.config (steps t h) ((sizes_of t.wire).framed (codec t h) m)
      → (b : Bool) → has_number t h ≡ b → IsRightFate t h m (if b then Got else PassedOver)
  numbered fits shakes short room true e =
      record { unclosed = up; shakes = shakes; few = ltb-true _ _ e; can_be = can fits short; room = room }
  numbered fits shakes short room false e =
      inr (inr (inr (record { unclosed = up; shakes = shakes; short = short }, room, ltb-false _ _ e)))

  roomy : Fits m → is_shaken (steps t h) ≡ true → t.wire.frame_size (codec t h) m ≤ t.limits.frame
      → (b : Bool) → has_room t h ((sizes_of t.wire).framed (codec t h) m) ≡ b
      → IsRightFate t h m (if not b then TooSlow else (if has_number t h then Got else PassedOver))
  roomy fits shakes short true e = numbered fits shakes short (room_of t h _ e) (has_number t h) refl
  roomy fits shakes short false e =
      (_, _, _, (record { unclosed = up; shakes = shakes; short = short }, refl, refl, refl, no_room t h _ e))

  short_enough : Fits m → is_shaken (steps t h) ≡ true → (b : Bool) → nat_lt t.limits.frame (t.wire.frame_size (codec t h) m) ≡ b
      → IsRightFate t h m (if b then PassedOver else
      (if not (has_room t h ((sizes_of t.wire).framed (codec t h) m)) then TooSlow else (if has_number t h then Got else PassedOver)))
  short_enough fits shakes true e = inr (inr (inl (_, (up, shakes, refl, ltb-true _ _ e))))
  short_enough fits shakes false e = roomy fits shakes (ltb-false _ _ e) (has_room t h ((sizes_of t.wire).framed (codec t h) m)) refl

  shaken_or_not : Fits m → (b : Bool) → is_shaken (steps t h) ≡ b
      → IsRightFate t h m (if not b then PassedOver else (if nat_lt t.limits.frame (t.wire.frame_size (codec t h) m) then PassedOver else
      (if not (has_room t h ((sizes_of t.wire).framed (codec t h) m)) then TooSlow else (if has_number t h then Got else PassedOver))))
  shaken_or_not fits true e = short_enough fits e (nat_lt t.limits.frame (t.wire.frame_size (codec t h) m)) refl
  shaken_or_not fits false e = inr (inl (e, up))

  right : (b : Bool) → nat_le (content_depth m) most_depth ≡ b
      → IsRightFate t h m (if not b then PassedOver else (if not (is_shaken (steps t h)) then PassedOver else
      (if nat_lt t.limits.frame (t.wire.frame_size (codec t h) m) then PassedOver else
      (if not (has_room t h ((sizes_of t.wire).framed (codec t h) m)) then TooSlow else (if has_number t h then Got else PassedOver)))))
  right true e = shaken_or_not (leb-true _ _ e) (is_shaken (steps t h)) refl
  right false e = inl (λ fits. true≢false (sym (le-test _ _ fits) ∙ e))

-- a notice is as the other end reads it
notice_as_read : ImageIsItsImage → (c : Codec) (target : List ℕ) (arguments : List Tree) → IsAsRead c (message_of (notice c target arguments))
notice_as_read law Json target arguments = law (Invocation [] None target arguments [])
notice_as_read law Pack target arguments = tt

pub fates_are_refusals : ImageIsItsImage → FatesAreRefusals
fates_are_refusals law t h target arguments up =
    let m = message_of (notice (codec t h) target arguments) in
    right t h m up (λ fits short. record { sequenced = refl; fits = fits; as_read = notice_as_read law (codec t h) target arguments; short = short })
    (nat_le (content_depth m) most_depth) refl
