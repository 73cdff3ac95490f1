-- What is due, by the marks.
use Rattle.std.proofs.Common.{◌≡◌, ℕ, suc, List, [], ◌∷◌, length, Option, Some, None, refl, ap, ◌∙◌}
use Rattle.std.specs.Prelude.{option_map, if◌then◌else◌, not, ◌&&◌}
use Rattle.hd_delivery.specs.declared.vocabulary.Side.{Side}
use Rattle.hd_delivery.specs.declared.vocabulary.Side.TheVariants.{Client, Server}
use Rattle.hd_delivery.specs.Frames.{LinkFrame, Sequence}
use Rattle.hd_delivery.specs.Histories as of
use Rattle.hd_delivery.specs.Histories.{EndEvent, Config, Closed, Failed, first_of, present_link, lent_frames, sent_messages}
use Rattle.hd_delivery.specs.Due.{due, due_on, due_there, due_after, answer, farewell, has_close, close_due, sequence_due, ack_due, message_due, ping_due, opening, handshake}
use Rattle.hd_trace.specs.Laws.{HasNoFault}
use Rattle.hd_trace.specs.Marks.{last_farewell, lent_on, marks_of}
use Rattle.hd_trace.specs.ByMarks.{close_of, due_by, due_there_by, opening_by, handshake_by}

no_answer : (k : List EndEvent) → HasNoFault k → answer k ≡ None
no_answer [] h = refl
no_answer (Failed fault ∷ k) h = absurd h
no_answer (_ ∷ k) h = no_answer k h

parts : (k : List EndEvent) → HasNoFault k → farewell k ≡ option_map close_of (last_farewell k)
parts [] h = refl
parts (Failed fault ∷ k) h = absurd h
parts (Closed reason allow ∷ k) h = refl
parts (_ ∷ k) h = parts k h

shakes : (side : Side) (c : Config) (k : List EndEvent) → handshake side c k ≡ handshake_by side c (of.is_closed c k) (of.is_shaken k)
shakes Client c k = refl
shakes Server c k = refl

opens : (c : Config) (k : List EndEvent) (l : ℕ) → opening c k l ≡ opening_by c (marks_of c k) l
opens c k l = ap (λ f. if of.is_this l (of.first_link k) then f else Some (Sequence (suc (of.acked_count k)) (if of.is_three k then Some (length (of.processed_messages k)) else None))) (shakes c.side c k)

closes : (k : List EndEvent) → HasNoFault k → (said : List LinkFrame) → close_due k said ≡ (if of.is_shaken k && not (has_close said) then option_map close_of (last_farewell k) else None)
closes k h said = ap (λ f. if of.is_shaken k && not (has_close said) then f else None) (parts k h)

pub marked : (c : Config) (k : List EndEvent) → HasNoFault k → due c k ≡ due_by c (marks_of c k) (sent_messages k)
marked c k h = go (present_link k) refl
  where
    there : (l : ℕ) (said : List LinkFrame) → lent_on (present_link k) k ≡ said → due_after c k l said ≡ due_there_by c (marks_of c k) (sent_messages k) (Some l)
    there l [] e = rw e (opens c k l)
    there l (f ∷ frames) e = rw e (ap (λ z. first_of (sequence_due k (f ∷ frames)) (first_of (ack_due c k (f ∷ frames)) (first_of (message_due k l) (first_of (ping_due c k) z)))) (closes k h (f ∷ frames)))

    go : (o : Option ℕ) → present_link k ≡ o → due_on c k o ≡ due_there_by c (marks_of c k) (sent_messages k) o
    go None e = refl
    go (Some l) e = ap (due_there c k l) (no_answer k h) ∙ there l (lent_frames l k) (ap (λ o. lent_on o k) e)
