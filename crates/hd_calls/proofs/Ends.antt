-- What the history of a peer's end says of the peer: no message is read once the end is closed, and the end speaks in one codec at each turn.
use Rattle.std.proofs.Common.{◌≡◌, ℕ, suc, Bool, true, false, List, [], ◌∷◌, ◌++◌, length, Option, Some, None, refl, sym, ap, ◌∙◌, subst}
use Rattle.std.specs.Prelude.{◌+◌, slice_get, option_map, ◌==◌, nat_le, if◌then◌else◌}
use Rattle.hm_message.specs.declared.message.Codec.{Codec}
use Rattle.hm_message.specs.declared.message.Message.{Message}
use Rattle.hd_delivery.specs.declared.vocabulary.Got.TheVariants as gives
use Rattle.hd_delivery.specs.declared.vocabulary.Got.TheVariants.{Shaken, Acked, Sequenced, Resumed, Skipped}
use Rattle.hd_delivery.specs.declared.vocabulary.Why.TheVariants.{Duplicate}
use Rattle.hd_delivery.specs.Numbers.{most_messages}
use Rattle.hd_delivery.specs.Frames.{LinkFrame, Request, Response, Refusal, Numbered, Ack, Sequence, Ping, Close, Foreign, Strange, Unreadable, received_of}
use Rattle.hd_delivery.specs.Histories.{Gap, AckBeyond, EndEvent, Took, Failed, Config, present_link, fed_frames, taken_count, processed_messages, most_lent, is_shaken, is_three, is_resumable, is_closed, codec_of}
use Rattle.hd_delivery.specs.Processes.{reads_handshake, reads_message, next_number, reads_ack, resumes, reads_sequence, reads_frame, reads, next_frame, processes}
use Rattle.hd_delivery.specs.Bytes.{ByteStep, Bytes, Does}
use Rattle.hd_delivery.specs.OneHistory.{IsHistory}
use Rattle.hd_delivery.specs.HistoryLaws.{FactsHold}
use Rattle.hd_calls.specs.Hubs.{Invoked, Purpose, Hub, purpose_of}
use Rattle.hd_calls.specs.Peers.{PeerEvent, Plain, Calls, Uploads, Cancels, Reads, Handles, Runs, Answers, Refuses, Loses, Rounds, Settings, waiting, begun, add, byte_steps, steps, codec}
use Rattle.hd_calls.specs.Rules.{Follows}
use Rattle.hd_calls.specs.PeerWorlds.{purposes, waits, next_step}
use Rattle.hd_calls.proofs.Lists.{both, prefix_none}
use Rattle.hd_calls.proofs.Local.{handled, frames_of, processed_is, OpenReads}
use Rattle.hd_calls.proofs.Callee.{Speaks}

-- ---- the handshake is taken once

abbrev is_shake : EndEvent → Bool
is_shake (Took (Shaken codec version)) = true
is_shake _ = false

no_shake_in_message : (p : ℕ) (n : Option ℕ) (m : Message) → is_shake (reads_message p n m) ≡ false
no_shake_in_message p None m = refl
no_shake_in_message p (Some n) m =
    both (λ s. is_shake s ≡ false) (n == most_messages + 1) (Failed (Gap (most_messages + 1) most_messages)) (if n == suc p then Took (gives.Message m) else Took (Skipped (Duplicate n)))
    (λ e. refl) (λ e. both (λ s. is_shake s ≡ false) (n == suc p) (Took (gives.Message m)) (Took (Skipped (Duplicate n))) (λ f. refl) (λ f. refl))

no_shake_in_ack : (h : List EndEvent) (n : ℕ) → is_shake (reads_ack h n) ≡ false
no_shake_in_ack h n = both (λ s. is_shake s ≡ false) (nat_le n (most_lent h)) (Took (Acked n)) (Failed (AckBeyond n (most_lent h))) (λ e. refl) (λ e. refl)

no_shake_in_resume : (h : List EndEvent) (first received : ℕ) → is_shake (resumes h first received) ≡ false
no_shake_in_resume h first received =
    both (λ s. is_shake s ≡ false) (is_three h) (if nat_le received (most_lent h) then Took (Resumed first received) else Failed (AckBeyond received (most_lent h))) (Took (Sequenced first))
    (λ e. both (λ s. is_shake s ≡ false) (nat_le received (most_lent h)) (Took (Resumed first received)) (Failed (AckBeyond received (most_lent h))) (λ f. refl) (λ f. refl)) (λ e. refl)

no_shake_in_sequence : (h : List EndEvent) (first received : ℕ) → is_shake (reads_sequence h first received) ≡ false
no_shake_in_sequence h first received =
    both (λ s. is_shake s ≡ false) (nat_le first (suc (length (processed_messages h)))) (resumes h first received) (Failed (Gap first (suc (length (processed_messages h)))))
    (λ e. no_shake_in_resume h first received) (λ e. refl)

no_shake_in_frame : (keeps : Bool) (h : List EndEvent) (n : Option ℕ) (f : LinkFrame) → is_shake (reads_frame keeps h n f) ≡ false
no_shake_in_frame keeps h n (Numbered m) = no_shake_in_message (length (processed_messages h)) n m
no_shake_in_frame true h n (Ack upto) = no_shake_in_ack h upto
no_shake_in_frame false h n (Ack upto) = refl
no_shake_in_frame true h n (Sequence first received) = no_shake_in_sequence h first (received_of received)
no_shake_in_frame false h n (Sequence first received) = refl
no_shake_in_frame keeps h n Ping = refl
no_shake_in_frame keeps h n (Close error allow) = refl
no_shake_in_frame keeps h n (Foreign k) = refl
no_shake_in_frame keeps h n (Unreadable at why) = refl
no_shake_in_frame keeps h n (Request c v) = refl
no_shake_in_frame keeps h n Response = refl
no_shake_in_frame keeps h n (Refusal text) = refl
no_shake_in_frame keeps h n (Strange why answer) = refl

no_shake_in_step : (c : Config) (h : List EndEvent) (n : Option ℕ) (f : LinkFrame) → is_shaken h ≡ true → is_shake (reads c h n f) ≡ false
no_shake_in_step c h n f e = ap (λ b. is_shake (if b then reads_frame (is_resumable c h) h n f else reads_handshake c.side c h f)) e ∙ no_shake_in_frame (is_resumable c h) h n f

no_shake_next : (c : Config) (h : List EndEvent) (n : Option ℕ) (o : Option LinkFrame) (s : EndEvent) → is_shaken h ≡ true → option_map (reads c h n) o ≡ Some s → is_shake s ≡ false
no_shake_next c h n None s e f = absurd (cc)
no_shake_next c h n (Some x) s e f = let z : reads c h n x ≡ s = cc in subst (λ y. is_shake y ≡ false) z (no_shake_in_step c h n x e)

no_shake_on : (c : Config) (h : List EndEvent) (o : Option ℕ) (s : EndEvent) → is_shaken h ≡ true → next_frame c h o ≡ Some s → is_shake s ≡ false
no_shake_on c h None s e f = absurd (cc)
no_shake_on c h (Some l) s e f = no_shake_next c h (next_number c h l) (slice_get (fed_frames l h) (taken_count l h)) s e f

no_second_shake : (c : Config) (h : List EndEvent) (s : EndEvent) → is_shaken h ≡ true → processes c h ≡ Some s → is_shake s ≡ false
no_second_shake c h s e f = both (λ o. o ≡ Some s → is_shake s ≡ false) (is_closed c h) None (next_frame c h (present_link h)) (λ x y. absurd (cc)) (λ x y. no_shake_on c h (present_link h) s e y) f

shaken_stays : (s : EndEvent) (h : List EndEvent) → is_shaken h ≡ true → is_shaken (s ∷ h) ≡ true
shaken_stays (Took (Shaken codec version)) h e = refl
shaken_stays _ h e = e

reads_open : (c : Config) (h : List EndEvent) (s : EndEvent) → processes c h ≡ Some s → is_closed c h ≡ false
reads_open c h s e = both (λ o. o ≡ Some s → is_closed c h ≡ false) (is_closed c h) None (next_frame c h (present_link h)) (λ f g. absurd (cc)) (λ f g. f) e

-- ---- the history of the end

abbrev pub History : Settings → List ByteStep → Type 0
History t s = IsHistory t.limits t.wire t.config s

history_tail : (t : Settings) (o : Option ByteStep) (s : List ByteStep) → History t (add o s) → History t s
history_tail t None s p = p
history_tail t (Some x) s p = p.0

shaken_add : (t : Settings) (o : Option ByteStep) (s : List ByteStep) → is_shaken (frames_of t s) ≡ true → is_shaken (frames_of t (add o s)) ≡ true
shaken_add t None s e = e
shaken_add t (Some (Bytes piece)) s e = e
shaken_add t (Some (Does x)) s e = shaken_stays x (frames_of t s) e

codec_stays : (t : Settings) (o : Option ByteStep) (s : List ByteStep) → History t (add o s) → is_shaken (frames_of t s) ≡ true → codec_of t.config (frames_of t (add o s)) ≡ codec_of t.config (frames_of t s)
codec_stays t None s p e = refl
codec_stays t (Some (Bytes piece)) s p e = refl
codec_stays t (Some (Does (Took (Shaken codec version)))) s p e = absurd (let z : true ≡ false = no_second_shake t.config (frames_of t s) (Took (Shaken codec version)) e p.1 in cc)
codec_stays t (Some (Does x)) s p e = refl

pub open_reads : (t : Settings) (h : List PeerEvent) → History t (byte_steps t h) → OpenReads t h
open_reads t [] p = tt
open_reads t (Reads m ∷ h) p = (open_reads t h p.0, reads_open t.config (steps t h) (Took (gives.Message m)) p.1)
open_reads t (Plain s ∷ h) p = open_reads t h p.0
open_reads t (Calls a n c ∷ h) p = open_reads t h p.0
open_reads t (Uploads n w a ∷ h) p = open_reads t h p.0
open_reads t (Cancels n ∷ h) p = open_reads t h p.0
open_reads t (Handles m e ∷ h) p = open_reads t h (history_tail t (next_step t h (Handles m e)) (byte_steps t h) p)
open_reads t (Runs j c since turn what ∷ h) p = open_reads t h (history_tail t (next_step t h (Runs j c since turn what)) (byte_steps t h) p)
open_reads t (Answers j i ∷ h) p = open_reads t h p
open_reads t (Refuses j ∷ h) p = open_reads t h p
open_reads t (Loses n ∷ h) p = open_reads t h p
open_reads t (Rounds ∷ h) p = open_reads t h p

-- without a message that was handled there is no job
no_jobs : (h : List PeerEvent) → handled h ≡ [] → begun h ≡ []
no_jobs [] e = refl
no_jobs (Handles m x ∷ h) e = absurd (never (handled h) (purpose_of m) e)
  where
    never : (xs : List Purpose) (x : Purpose) → xs ++ x ∷ [] ≡ [] → ⊥
    never [] x e = absurd (cc)
    never (y ∷ xs) x e = absurd (cc)
no_jobs (_ ∷ h) e = no_jobs h e

module _ {Job : Type 0} (hub : Hub Job) (t : Settings) (facts : FactsHold) where
  shaken_with_job : (h : List PeerEvent) (j : ℕ) → Follows hub t h → History t (byte_steps t h) → (begun h ≡ [] → ⊥) → is_shaken (steps t h) ≡ true
  shaken_with_job h j p q some = go (is_shaken (steps t h)) refl
    where
      go : (b : Bool) → is_shaken (steps t h) ≡ b → b ≡ true
      go true e = refl
      go false e =
          let none = (facts t.limits t.wire t.config (byte_steps t h) q).unshaken_processed_none e in
          let read : handled h ++ waits (waiting h) ≡ [] = sym (processed_is hub t h p) ∙ ap purposes none in
          absurd (some (no_jobs h (prefix_none (handled h) (waits (waiting h), read))))

  speaks_in : (code : Codec) (h : List PeerEvent) → Follows hub t h → History t (byte_steps t h) → (is_shaken (steps t h) ≡ true → codec t h ≡ code) → Speaks t code h
  speaks_in code [] p q f = tt
  speaks_in code (Runs j c since turn what ∷ h) p q f =
      let o : Option ByteStep = next_step t h (Runs j c since turn what) in
      let q' = history_tail t o (byte_steps t h) q in
      let g : is_shaken (steps t h) ≡ true → codec t h ≡ code = λ e. sym (codec_stays t o (byte_steps t h) q e) ∙ f (shaken_add t o (byte_steps t h) e) in
      (speaks_in code h p.0 q' g, g (shaken_with_job h j p.0 q' (λ e. absurd (let z : ◌≡◌ {A = Option Invoked} None (Some c) = subst (λ xs. slice_get xs j ≡ Some c) e p.1.at in cc))))
  speaks_in code (Plain s ∷ h) p q f = more code (Plain s) h q f (λ q' g. speaks_in code h p.0 q' g)
    where
      more : (code : Codec) (d : PeerEvent) (h : List PeerEvent) → History t (byte_steps t (d ∷ h)) → (is_shaken (steps t (d ∷ h)) ≡ true → codec t (d ∷ h) ≡ code) → (History t (byte_steps t h) → (is_shaken (steps t h) ≡ true → codec t h ≡ code) → Speaks t code h) → Speaks t code h
      more code d h q f k = k (history_tail t (next_step t h d) (byte_steps t h) q) (λ e. sym (codec_stays t (next_step t h d) (byte_steps t h) q e) ∙ f (shaken_add t (next_step t h d) (byte_steps t h) e))
  speaks_in code (Calls a n c ∷ h) p q f = speaks_in code h p.0 q.0 f
  speaks_in code (Uploads n w a ∷ h) p q f = speaks_in code h p.0 q.0 f
  speaks_in code (Cancels n ∷ h) p q f = speaks_in code h p.0 q.0 f
  speaks_in code (Reads m ∷ h) p q f = speaks_in code h p.0 q.0 f
  speaks_in code (Handles m x ∷ h) p q f =
      let o : Option ByteStep = next_step t h (Handles m x) in
      speaks_in code h p.0 (history_tail t o (byte_steps t h) q) (λ e. sym (codec_stays t o (byte_steps t h) q e) ∙ f (shaken_add t o (byte_steps t h) e))
  speaks_in code (Answers j i ∷ h) p q f = speaks_in code h p.0 q f
  speaks_in code (Refuses j ∷ h) p q f = speaks_in code h p.0 q f
  speaks_in code (Loses n ∷ h) p q f = speaks_in code h p.0 q f
  speaks_in code (Rounds ∷ h) p q f = speaks_in code h p.0 q f

  -- at each turn the end spoke in the codec in which it speaks now
  pub speaks : (h : List PeerEvent) → Follows hub t h → History t (byte_steps t h) → Speaks t (codec t h) h
  speaks h p q = speaks_in (codec t h) h p q (λ e. refl)
