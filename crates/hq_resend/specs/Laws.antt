-- What crates above cite of resend buffers and of the intake.
use Rattle.std.specs.Prelude.{◌≡◌, ◌≤◌, ◌<◌, ℕ, suc, List, [], length, slice_get, Option, Some, Result, Ok, Err}
use Rattle.hm_message.specs.declared.message.Codec.{Codec}
use Rattle.hm_message.specs.declared.message.Message.{Message}
use Rattle.hd_delivery.specs.declared.vocabulary.Got.TheVariants as gives
use Rattle.hd_delivery.specs.declared.vocabulary.Got.TheVariants.{Skipped}
use Rattle.hd_delivery.specs.declared.vocabulary.Why.TheVariants as why
use Rattle.hd_delivery.specs.Numbers.{most_messages}
use Rattle.hd_delivery.specs.Frames.{Request, Response, Sequence, Numbered, count, number}
use Rattle.hd_delivery.specs.Histories as of
use Rattle.hd_delivery.specs.Histories.{EndEvent, Took, Failed, processed_messages}
use Rattle.hd_delivery.specs.Processes.{reads_message, reads_sequence, resumes}
use Rattle.hq_resend.specs.declared.intake.Counted.{Counted}
use Rattle.hq_resend.specs.declared.intake.Counted.TheVariants.{Fresh, Duplicate, Early}
use Rattle.hq_resend.specs.declared.refusals.Gap.{Gap}
use Rattle.hq_resend.specs.Buffers.{Buffer, IsWithin, next_frame}
use Rattle.hq_resend.specs.ResendEvents.{ResendEvent, Stands, pushed_frames}
use Rattle.hq_resend.specs.Numbering.{Numbering, first_link, after_sequence, counted_as, after_count}

-- the next frame is the one after those written, in the order in which they were pushed
abbrev pub NextIsInOrder : Type 0
NextIsInOrder = (h : List ResendEvent) (b : Buffer) → IsWithin b → Stands h b → next_frame b ≡ slice_get (pushed_frames h) b.written

-- the step that a message makes, as it is counted
abbrev pub step_of : Message → Result Counted Gap → EndEvent
step_of m (Ok (Fresh n)) = Took (gives.Message m)
step_of m (Ok (Duplicate n)) = Took (Skipped (why.Duplicate n))
step_of m (Ok Early) = Took (Skipped why.BeforeSequence)
step_of m (Err gap) = Failed (of.Gap gap.got gap.most)

-- Messages are counted as two ends count them (`hd_delivery`).
pub record IsNumbering : Type 0 where
  pub request : (codec : Codec) (version : ℕ) → first_link.next ≡ count (number []) (Request codec version)
  pub response : first_link.next ≡ count (number []) Response
  pub sequence : (n : Numbering) (first : ℕ) (received : Option ℕ) → (after_sequence n first).next ≡ count n.next (Sequence first received)
  pub message : (n : Numbering) (m : Message) → (n.next ≡ Some (suc most_messages) → ⊥) → (after_count n n.next).next ≡ count n.next (Numbered m)
  pub step : (processed : ℕ) (next : Option ℕ) (m : Message) → reads_message processed next m ≡ step_of m (counted_as processed next)
  pub taken : (h : List EndEvent) (first received : ℕ) → first ≤ suc (length (processed_messages h)) → reads_sequence h first received ≡ resumes h first received
  pub gap : (h : List EndEvent) (first received : ℕ) → suc (length (processed_messages h)) < first
      → reads_sequence h first received ≡ Failed (of.Gap first (suc (length (processed_messages h))))
