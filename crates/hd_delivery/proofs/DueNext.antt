-- A message that is due is the next one that is held.
use Rattle.std.proofs.Common.{◌≡◌, ℕ, max, Bool, true, false, List, [], ◌∷◌, Option, Some, None, refl, subst}
use Rattle.std.specs.Prelude.{suc, not, ◌&&◌, nat_lt, length, is_some, slice_get, option_map, if◌then◌else◌}
use Rattle.hm_message.specs.declared.message.Message.{Message}
use Rattle.hd_delivery.specs.declared.vocabulary.Side.{Side}
use Rattle.hd_delivery.specs.declared.vocabulary.Side.TheVariants.{Client, Server}
use Rattle.hd_delivery.specs.Frames.{LinkFrame, Request, Response, Numbered, Ack, Sequence, Ping, number, most_told}
use Rattle.hd_delivery.specs.Histories.{Config, EndEvent, Failed, Closed, Shake, is_this, first_of, present_link, first_link, lent_frames, sent_messages, processed_messages, acked_count, written_place, next_place, is_shaken, is_three, is_resumable, is_closed, state}
use Rattle.hd_delivery.specs.Due.{handshake, opening, next_message, sequence_due, ack_due, message_due, ping_due, close_due, due_after, answer_due, due_there, due_on, due, farewell, answer, may_write, is_ready, is_quiet, has_close}
use Rattle.hd_delivery.proofs.Local.{both}

-- where a message is due, it is the next one of this history
abbrev IsNext : List EndEvent → Option LinkFrame → Type 0
IsNext h None = Unit {0}
IsNext h (Some (Numbered m)) = slice_get (sent_messages h) (max (acked_count h) (written_place h)) ≡ Some m
IsNext h (Some _) = Unit {0}

either : (h : List EndEvent) (a b : Option LinkFrame) → IsNext h a → IsNext h b → IsNext h (first_of a b)
either h None b f g = g
either h (Some t) b f g = f

last_words : (h k : List EndEvent) → IsNext h (farewell k)
last_words h [] = tt
last_words h (Closed reason allow ∷ k) = tt
last_words h (Failed (Shake why text) ∷ k) = last_words h k
last_words h (Failed fault ∷ k) = tt
last_words h (_ ∷ k) = last_words h k

-- something that is due only if b is true
only_if : (h : List EndEvent) (b : Bool) (o : Option LinkFrame) → IsNext h o → IsNext h (if b then o else None)
only_if h true o f = f
only_if h false o f = tt

module _ (c : Config) (h : List EndEvent) where
  shakes : (side : Side) → IsNext h (handshake side c h)
  shakes Client = both (IsNext h) (is_closed c h) None (Some (Request c.codec c.version)) (λ e. tt) (λ e. tt)
  shakes Server = only_if h (is_shaken h) (Some Response) tt

  next : (o : Option Message) → next_message h ≡ o → IsNext h (option_map Numbered o)
  next None e = tt
  next (Some m) e = e

  opens : (l : ℕ) → IsNext h (opening c h l)
  opens l = both (IsNext h) (is_this l (first_link h)) (handshake c.side c h)
      (Some (Sequence (suc (acked_count h)) (if is_three h then Some (length (processed_messages h)) else None)))
      (λ e. shakes c.side) (λ e. tt)

  after : (l : ℕ) (said : List LinkFrame) → IsNext h (due_after c h l said)
  after l [] = opens l
  after l (f ∷ said) =
      either h (sequence_due h (f ∷ said)) _ (only_if h (not (is_three h) && (is_some (next_message h) && not (is_this (next_place h) (number (f ∷ said))))) (Some (Sequence (next_place h) None)) tt)
      (either h (ack_due c h (f ∷ said)) _ (only_if h ((is_resumable c h && not (is_closed c h)) && nat_lt (most_told (f ∷ said)) (length (processed_messages h))) (Some (Ack (length (processed_messages h)))) tt)
      (either h (message_due h l) _ (only_if h (may_write h l) (option_map Numbered (next_message h)) (next (next_message h) refl))
      (either h (ping_due c h) (close_due h (f ∷ said)) (only_if h (is_ready (state c h) && is_quiet h) (Some Ping) tt)
      (only_if h (is_shaken h && not (has_close (f ∷ said))) (farewell h) (last_words h h)))))

  answers : (text : List ℕ) (said : List LinkFrame) → IsNext h (answer_due text said)
  answers text [] = tt
  answers text (f ∷ said) = tt

  there : (l : ℕ) (o : Option (List ℕ)) → IsNext h (due_there c h l o)
  there l None = after l (lent_frames l h)
  there l (Some text) = answers text (lent_frames l h)

  on : (o : Option ℕ) → IsNext h (due_on c h o)
  on None = tt
  on (Some l) = there l (answer h)

  -- a message that is due
  pub next_is_due : (m : Message) → due c h ≡ Some (Numbered m) → slice_get (sent_messages h) (max (acked_count h) (written_place h)) ≡ Some m
  next_is_due m e = subst (IsNext h) e (on (present_link h))

  -- nothing is due without a link
  pub due_is_there : (t : LinkFrame) → due c h ≡ Some t → (l : ℕ) × (present_link h ≡ Some l)
  due_is_there t e = go (present_link h) refl e
    where
      go : (o : Option ℕ) → present_link h ≡ o → due_on c h o ≡ Some t → (l : ℕ) × (present_link h ≡ Some l)
      go None f g = absurd (cc)
      go (Some l) f g = (l, f)
