-- What the next frame gives, by the marks.
use Rattle.std.proofs.Common.{◌≡◌, ℕ, suc, ◌+◌, Bool, true, false, List, Option, Some, None, refl, ap, ◌∙◌, length}
use Rattle.std.specs.Prelude.{◌==◌, nat_le, if◌then◌else◌}
use Rattle.hm_message.specs.declared.message.Message.{Message}
use Rattle.hd_delivery.specs.declared.vocabulary.Got.TheVariants as gives
use Rattle.hd_delivery.specs.declared.vocabulary.Got.TheVariants.{Acked, Sequenced, Resumed, Skipped}
use Rattle.hd_delivery.specs.declared.vocabulary.Why.TheVariants.{Duplicate, NotUsed}
use Rattle.hd_delivery.specs.declared.vocabulary.Side.{Side}
use Rattle.hd_delivery.specs.declared.vocabulary.Side.TheVariants.{Client, Server}
use Rattle.hd_delivery.specs.Numbers.{most_messages}
use Rattle.hd_delivery.specs.Frames.{LinkFrame, Request, Response, Refusal, Numbered, Ack, Sequence, Ping, Close, Foreign, Strange, Unreadable, received_of}
use Rattle.hd_delivery.specs.Histories.{EndEvent, Config, Took, Failed, Gap, AckBeyond, is_shaken, is_resumable, is_three, most_lent, processed_messages}
use Rattle.hd_delivery.specs.Processes.{reads, reads_frame, reads_handshake, reads_message, reads_ack, reads_sequence, resumes}
use Rattle.hd_trace.specs.Marks.{marks_of}
use Rattle.hd_trace.specs.ByMarks.{got_of, greets_by, message_given, ack_given, sequence_given, frame_given, given_by}

got_if : (b : Bool) (x y : EndEvent) → got_of (if b then x else y) ≡ (if b then got_of x else got_of y)
got_if true x y = refl
got_if false x y = refl

greets : (side : Side) (c : Config) (k : List EndEvent) (f : LinkFrame) → got_of (reads_handshake side c k f) ≡ greets_by side c f
greets Client c k (Request codec version) = refl
greets Server c k (Request codec version) = refl
greets Client c k Response = refl
greets Server c k Response = refl
greets Client c k (Strange why text) = refl
greets Server c k (Strange why text) = refl
greets Client c k (Unreadable at why) = refl
greets Server c k (Unreadable at why) = refl
greets Client c k (Refusal text) = refl
greets Server c k (Refusal text) = refl
greets Client c k (Numbered m) = refl
greets Server c k (Numbered m) = refl
greets Client c k (Ack upto) = refl
greets Server c k (Ack upto) = refl
greets Client c k (Sequence first received) = refl
greets Server c k (Sequence first received) = refl
greets Client c k Ping = refl
greets Server c k Ping = refl
greets Client c k (Close error allow) = refl
greets Server c k (Close error allow) = refl
greets Client c k (Foreign n) = refl
greets Server c k (Foreign n) = refl

message : (p : ℕ) (n : Option ℕ) (m : Message) → got_of (reads_message p n m) ≡ message_given p n m
message p None m = refl
message p (Some n) m = got_if (n == most_messages + 1) (Failed (Gap (most_messages + 1) most_messages)) (if n == suc p then Took (gives.Message m) else Took (Skipped (Duplicate n)))
    ∙ ap (λ o. if n == most_messages + 1 then None else o) (got_if (n == suc p) (Took (gives.Message m)) (Took (Skipped (Duplicate n))))

ack : (c : Config) (k : List EndEvent) (n : ℕ) → got_of (reads_ack k n) ≡ ack_given (marks_of c k) n
ack c k n = got_if (nat_le n (most_lent k)) (Took (Acked n)) (Failed (AckBeyond n (most_lent k)))

sequence : (c : Config) (k : List EndEvent) (first received : ℕ) → got_of (reads_sequence k first received) ≡ sequence_given (marks_of c k) first received
sequence c k first received = got_if (nat_le first (suc (length (processed_messages k)))) (resumes k first received) (Failed (Gap first (suc (length (processed_messages k)))))
    ∙ ap (λ o. if nat_le first (suc (length (processed_messages k))) then o else None)
    (got_if (is_three k) (if nat_le received (most_lent k) then Took (Resumed first received) else Failed (AckBeyond received (most_lent k))) (Took (Sequenced first))
    ∙ ap (λ o. if is_three k then o else Some (Sequenced first)) (got_if (nat_le received (most_lent k)) (Took (Resumed first received)) (Failed (AckBeyond received (most_lent k)))))

frame : (c : Config) (k : List EndEvent) (n : Option ℕ) (f : LinkFrame) → got_of (reads_frame (is_resumable c k) k n f) ≡ frame_given (marks_of c k) n f
frame c k n (Numbered m) = message (length (processed_messages k)) n m
frame c k n (Ack upto) = got_if (is_resumable c k) (reads_ack k upto) (Took (Skipped NotUsed)) ∙ ap (λ o. if is_resumable c k then o else Some (Skipped NotUsed)) (ack c k upto)
frame c k n (Sequence first received) = got_if (is_resumable c k) (reads_sequence k first (received_of received)) (Took (Skipped NotUsed))
    ∙ ap (λ o. if is_resumable c k then o else Some (Skipped NotUsed)) (sequence c k first (received_of received))
frame c k n Ping = refl
frame c k n (Close error allow) = refl
frame c k n (Foreign j) = refl
frame c k n (Request codec version) = refl
frame c k n Response = refl
frame c k n (Refusal text) = refl
frame c k n (Strange why text) = refl
frame c k n (Unreadable at why) = refl

pub gives_by : (c : Config) (k : List EndEvent) (n : Option ℕ) (f : LinkFrame) → got_of (reads c k n f) ≡ given_by c (marks_of c k) n f
gives_by c k n f = got_if (is_shaken k) (reads_frame (is_resumable c k) k n f) (reads_handshake c.side c k f)
    ∙ (ap (λ o. if is_shaken k then o else got_of (reads_handshake c.side c k f)) (frame c k n f) ∙ ap (λ o. if is_shaken k then frame_given (marks_of c k) n f else o) (greets c.side c k f))
