-- What a frame makes of one end, whoever said it.
use Rattle.std.proofs.Common.{◌≡◌, ℕ, suc, ◌≤◌, ◌+◌, Bool, true, false, List, length, Option, Some, None, refl, arith}
use Rattle.std.specs.Prelude.{nat_le, ◌==◌, if◌then◌else◌}
use Rattle.std.proofs.lemmas.Bool.{eqb-true, eqb-false, leb-true}
use Rattle.hd_delivery.specs.declared.vocabulary.Got.{Got}
use Rattle.hd_delivery.specs.declared.vocabulary.Got.TheVariants as gives
use Rattle.hd_delivery.specs.declared.vocabulary.Got.TheVariants.{Shaken, Acked, Sequenced, Resumed, Skipped}
use Rattle.hd_delivery.specs.declared.vocabulary.Why.TheVariants.{Duplicate}
use Rattle.hd_delivery.specs.declared.vocabulary.Side.{Side}
use Rattle.hd_delivery.specs.declared.vocabulary.Side.TheVariants.{Client, Server}
use Rattle.hm_message.specs.declared.message.Message.{Message}
use Rattle.hd_delivery.specs.Numbers.{most_messages}
use Rattle.hd_delivery.specs.Frames.{LinkFrame, Request, Response, Numbered, Ack, Sequence, Ping, Close, Foreign, Strange, Unreadable, received_of}
use Rattle.hd_delivery.specs.Histories.{Config, EndEvent, Took, Failed, Gap, AckBeyond, processed_messages, most_lent, is_shaken, is_resumable, is_three}
use Rattle.hd_delivery.specs.Processes.{reads_handshake, reads_message, reads_ack, resumes, reads_sequence, reads_frame, reads}
use Rattle.hd_delivery.specs.Bytes.{codec_after}
use Rattle.hd_delivery.proofs.Local.{both}

-- a frame that its reader could read
abbrev pub IsLegible : LinkFrame → Type 0
IsLegible (Unreadable at why) = ⊥
IsLegible f = Unit {0}

-- what an end knows of a frame that gave something
abbrev pub Gave : Config → List EndEvent → LinkFrame → Got → Type 0
Gave c h t (Shaken codec version) = (is_shaken h ≡ false) × (codec ≡ codec_after c.codec t) × (c.side ≡ Client → codec ≡ c.codec) × (c.side ≡ Client → version ≡ c.version)
Gave c h t (gives.Message m) = (is_shaken h ≡ true) × (length (processed_messages h) ≡ most_messages → ⊥)
Gave c h t (Acked n) = (is_shaken h ≡ true) × (is_resumable c h ≡ true) × (n ≤ most_lent h)
Gave c h t (Resumed first n) = (is_shaken h ≡ true) × (is_resumable c h ≡ true) × (n ≤ most_lent h)
Gave c h t got = is_shaken h ≡ true

-- the same of a step, if it took the frame
abbrev pub Made : Config → List EndEvent → LinkFrame → EndEvent → Type 0
Made c h t (Took got) = IsLegible t × Gave c h t got
Made c h t s = Unit {0}

module _ (c : Config) (h : List EndEvent) where
  handshake : (side : Side) (t : LinkFrame) → c.side ≡ side → is_shaken h ≡ false → Made c h t (reads_handshake side c h t)
  handshake Client Response e s = (tt, (s, refl, (λ f. refl), (λ f. refl)))
  handshake Server (Request codec version) e s = (tt, (s, refl, (λ f. absurd (cc)), (λ f. absurd (cc))))
  handshake Client (Request codec version) e s = tt
  handshake Client (Strange why text) e s = tt
  handshake Server (Strange why text) e s = tt
  handshake side (Unreadable at why) e s = tt
  handshake side t e s = tt

  message : (m : Message) (n : Option ℕ) → is_shaken h ≡ true → Made c h (Numbered m) (reads_message (length (processed_messages h)) n m)
  message m None s = (tt, s)
  message m (Some n) s = both (Made c h (Numbered m)) (n == most_messages + 1) (Failed (Gap (most_messages + 1) most_messages)) (if n == suc (length (processed_messages h)) then Took (gives.Message m) else Took (Skipped (Duplicate n))) (λ e. tt)
      (λ e. both (Made c h (Numbered m)) (n == suc (length (processed_messages h))) (Took (gives.Message m)) (Took (Skipped (Duplicate n)))
      (λ f. (tt, (s, λ p. let a = eqb-false n (most_messages + 1) e in let b = eqb-true n (suc (length (processed_messages h))) f in omega (arith, a)))) (λ f. (tt, s)))

  ack : (n : ℕ) → is_shaken h ≡ true → is_resumable c h ≡ true → Made c h (Ack n) (reads_ack h n)
  ack n s k = both (Made c h (Ack n)) (nat_le n (most_lent h)) (Took (Acked n)) (Failed (AckBeyond n (most_lent h))) (λ e. (tt, (s, k, leb-true n (most_lent h) e))) (λ e. tt)

  sequence : (first : ℕ) (received : Option ℕ) → is_shaken h ≡ true → is_resumable c h ≡ true → Made c h (Sequence first received) (reads_sequence h first (received_of received))
  sequence first received s k =
      both (Made c h (Sequence first received)) (nat_le first (suc (length (processed_messages h)))) (resumes h first (received_of received)) (Failed (Gap first (suc (length (processed_messages h)))))
      (λ e. both (Made c h (Sequence first received)) (is_three h) (if nat_le (received_of received) (most_lent h) then Took (Resumed first (received_of received)) else Failed (AckBeyond (received_of received) (most_lent h))) (Took (Sequenced first))
      (λ f. both (Made c h (Sequence first received)) (nat_le (received_of received) (most_lent h)) (Took (Resumed first (received_of received))) (Failed (AckBeyond (received_of received) (most_lent h)))
      (λ g. (tt, (s, k, leb-true (received_of received) (most_lent h) g))) (λ g. tt))
      (λ f. (tt, s)))
      (λ e. tt)

  frame : (keeps : Bool) (n : Option ℕ) (t : LinkFrame) → is_resumable c h ≡ keeps → is_shaken h ≡ true → Made c h t (reads_frame keeps h n t)
  frame keeps n (Numbered m) e s = message m n s
  frame true n (Ack upto) e s = ack upto s e
  frame false n (Ack upto) e s = (tt, s)
  frame true n (Sequence first received) e s = sequence first received s e
  frame false n (Sequence first received) e s = (tt, s)
  frame keeps n Ping e s = (tt, s)
  frame keeps n (Close error allow) e s = (tt, s)
  frame keeps n (Foreign k) e s = (tt, s)
  frame keeps n (Unreadable at why) e s = tt
  frame keeps n t e s = tt

  -- what a frame makes
  pub makes : (n : Option ℕ) (t : LinkFrame) → Made c h t (reads c h n t)
  makes n t = both (Made c h t) (is_shaken h) (reads_frame (is_resumable c h) h n t) (reads_handshake c.side c h t) (λ e. frame (is_resumable c h) n t refl e) (λ e. handshake c.side t refl e)
