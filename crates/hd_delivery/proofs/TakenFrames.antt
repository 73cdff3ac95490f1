-- What a frame makes of an end that takes it.
use Rattle.std.proofs.Common.{◌≡◌, ℕ, suc, ◌+◌, Bool, true, false, List, length, Option, Some, None, refl, subst}
use Rattle.std.specs.Prelude.{slice_get, option_map, nat_le, ◌==◌, if◌then◌else◌}
use Rattle.hm_message.specs.declared.message.Message.{Message}
use Rattle.hd_delivery.specs.declared.vocabulary.Got.TheVariants as gives
use Rattle.hd_delivery.specs.declared.vocabulary.Got.TheVariants.{Acked, Sequenced, Resumed, Skipped}
use Rattle.hd_delivery.specs.declared.vocabulary.Why.TheVariants.{Duplicate}
use Rattle.hd_delivery.specs.declared.vocabulary.Side.{Side}
use Rattle.hd_delivery.specs.declared.vocabulary.Side.TheVariants.{Client, Server}
use Rattle.hd_delivery.specs.Numbers.{most_messages}
use Rattle.hd_delivery.specs.Frames.{LinkFrame, Request, Response, Numbered, Ack, Sequence, Ping, Close, Foreign, Strange, Unreadable, received_of}
use Rattle.hd_delivery.specs.Histories.{Config, EndEvent, Took, Failed, Gap, AckBeyond, fed_frames, taken_count, processed_messages, most_lent, present_link, is_shaken, is_three, is_resumable, is_closed}
use Rattle.hd_delivery.specs.Processes.{reads_handshake, reads_message, reads_ack, resumes, reads_sequence, reads_frame, reads, next_number, next_frame, processes}
use Rattle.hd_delivery.specs.Alone.{IsOfFrame}
use Rattle.hd_delivery.proofs.TestsAndPrefixes.{both}

module _ (c : Config) (h : List EndEvent) where
  of_handshake : (side : Side) (f : LinkFrame) → IsOfFrame false (reads_handshake side c h f)
  of_handshake Client Response = refl
  of_handshake Server (Request codec version) = refl
  of_handshake Client (Strange why text) = tt
  of_handshake Server (Strange why text) = tt
  of_handshake side (Unreadable at why) = tt
  of_handshake side f = tt

  of_message : (p : ℕ) (n : Option ℕ) (m : Message) → IsOfFrame true (reads_message p n m)
  of_message p None m = tt
  of_message p (Some n) m = both (IsOfFrame true) (n == most_messages + 1) (Failed (Gap (most_messages + 1) most_messages)) (if n == suc p then Took (gives.Message m) else Took (Skipped (Duplicate n))) (λ e. tt)
      (λ e. both (IsOfFrame true) (n == suc p) (Took (gives.Message m)) (Took (Skipped (Duplicate n))) (λ f. tt) (λ f. tt))

  of_ack : (n : ℕ) → IsOfFrame true (reads_ack h n)
  of_ack n = both (IsOfFrame true) (nat_le n (most_lent h)) (Took (Acked n)) (Failed (AckBeyond n (most_lent h))) (λ e. tt) (λ e. tt)

  of_sequence : (first received : ℕ) → IsOfFrame true (reads_sequence h first received)
  of_sequence first received =
      both (IsOfFrame true) (nat_le first (suc (length (processed_messages h)))) (resumes h first received) (Failed (Gap first (suc (length (processed_messages h)))))
      (λ e. both (IsOfFrame true) (is_three h) (if nat_le received (most_lent h) then Took (Resumed first received) else Failed (AckBeyond received (most_lent h))) (Took (Sequenced first))
      (λ f. both (IsOfFrame true) (nat_le received (most_lent h)) (Took (Resumed first received)) (Failed (AckBeyond received (most_lent h))) (λ g. tt) (λ g. tt))
      (λ f. tt))
      (λ e. tt)

  of_later : (keeps : Bool) (n : Option ℕ) (f : LinkFrame) → IsOfFrame true (reads_frame keeps h n f)
  of_later keeps n (Numbered m) = of_message (length (processed_messages h)) n m
  of_later true n (Ack upto) = of_ack upto
  of_later false n (Ack upto) = tt
  of_later true n (Sequence first received) = of_sequence first (received_of received)
  of_later false n (Sequence first received) = tt
  of_later keeps n Ping = tt
  of_later keeps n (Close error allow) = tt
  of_later keeps n (Foreign k) = tt
  of_later keeps n (Unreadable at why) = tt
  of_later keeps n f = tt

  of_reading : (shaken : Bool) (n : Option ℕ) (f : LinkFrame) → IsOfFrame shaken (if shaken then reads_frame (is_resumable c h) h n f else reads_handshake c.side c h f)
  of_reading true n f = of_later (is_resumable c h) n f
  of_reading false n f = of_handshake c.side f

  -- what is processed comes of a frame, and the end isn't closed
  pub processed : (s : EndEvent) → processes c h ≡ Some s → IsOfFrame (is_shaken h) s
  processed s e = both (λ o. o ≡ Some s → IsOfFrame (is_shaken h) s) (is_closed c h) None (next_frame c h (present_link h)) (λ d f. absurd (cc)) (λ d f. on_link (present_link h) f) e
    where
      on_frame : (n : Option ℕ) (o : Option LinkFrame) → option_map (reads c h n) o ≡ Some s → IsOfFrame (is_shaken h) s
      on_frame n None f = absurd (cc)
      on_frame n (Some t) f = let g : reads c h n t ≡ s = cc in subst (IsOfFrame (is_shaken h)) g (of_reading (is_shaken h) n t)

      on_link : (o : Option ℕ) → next_frame c h o ≡ Some s → IsOfFrame (is_shaken h) s
      on_link None f = absurd (cc)
      on_link (Some l) f = on_frame (next_number c h l) (slice_get (fed_frames l h) (taken_count l h)) f
