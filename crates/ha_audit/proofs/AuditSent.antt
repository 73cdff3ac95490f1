-- The messages that an end was handed to send, as they are looked up.
use Rattle.std.proofs.Common.{◌≡◌, ◌↔◌, ℕ, Bool, IsTrue, List, length, Option, Some, None, IfSome, Bor, option_copied, option_map, slice_get, refl, sym, ap, subst, ◌∙◌}
use Rattle.std.specs.Slice.{IsItemAt}
use Rattle.std.proofs.lemmas.Option.{slice_get-map, slice_get_past, slice_get_read}
use Rattle.hm_message.specs.declared.message.Message.{Message}
use Rattle.ha_audit.specs.declared.auditor.sent.SentMessage.{SentMessage}
use Rattle.ha_audit.specs.AuditState.{messages_of}

-- what a look at a place lends
lent_at : (sent : List SentMessage) (i : ℕ) (got : Option (Bor SentMessage)) → IsItemAt sent i got → option_copied got ≡ slice_get sent i
lent_at sent i None is = sym (slice_get_past sent i is.3)
lent_at sent i (Some s) is = sym (slice_get_read sent (length sent) i s.now refl is.3.0 is.1)

-- its message
message_lent : (got : Option (Bor SentMessage)) → option_map (λ s. s.now.message) got ≡ option_map (λ s. s.message) (option_copied got)
message_lent None = refl
message_lent (Some s) = refl

-- the message of a place is that of what is lent there
pub message_at : (sent items : List SentMessage) (i : ℕ) (got : Option (Bor SentMessage)) (msg : Message) → items ≡ sent → IsItemAt items i got
    → slice_get (messages_of sent) i ≡ Some msg → option_map (λ s. s.now.message) got ≡ Some msg
message_at sent items i got msg same lends is =
    message_lent got ∙ (ap (option_map (λ s. s.message)) (lent_at items i got lends ∙ ap (λ xs. slice_get xs i) same) ∙ (sym (slice_get-map (λ s. s.message) sent i) ∙ is))

-- words that are written are those that were read exactly if what they tell is
pub words_told : (written read told words : List ℕ) (answer : Bool) → written ≡ told → read ≡ words → (IsTrue answer ↔ (written ≡ read)) → IsTrue answer ↔ (told ≡ words)
words_told written read told words answer tells is same = (λ held. sym tells ∙ (same.0 held ∙ is), λ e. same.1 (tells ∙ (e ∙ sym is)))

-- what is so of what there is, if it is, is so of this
pub if_some : {A : Type 0} (P : A → Type 0) (o : Option A) (a : A) → o ≡ Some a → IfSome o P → P a
if_some P o a is held = subst (λ o. IfSome o P) is held
