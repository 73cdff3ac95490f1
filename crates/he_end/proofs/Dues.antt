-- What is due, by what a session remembers.
use Rattle.std.proofs.Common.{zero, ◌≡◌, ℕ, suc, ◌<◌, ◌≤◌, List, ◌∷◌, [], Option, Some, None, Bool, true, false, refl, sym, ap, ◌∙◌, subst, arith, length}
use Rattle.std.specs.Prelude.{slice_get, option_map, is_some, if◌then◌else◌}
use Rattle.std.specs.Option.{option_or}
use Rattle.std.proofs.lemmas.Option.{slice_get_past}
use Rattle.hm_message.specs.declared.message.Message.{Message}
use Rattle.hd_delivery.specs.Frames.{LinkFrame, Numbered}
use Rattle.hd_delivery.specs.Histories.{EndEvent, Config, first_of, present_link, lent_frames, sent_messages}
use Rattle.hd_delivery.specs.Due.{next_message, sequence_due, ack_due, may_write, message_due, ping_due, close_due, opening, due_after, due_there, due_on, due, answer}
use Rattle.hd_delivery.specs.Processes.{has_frames}
use Rattle.he_end.specs.declared.session.Session.{Session}
use Rattle.he_end.specs.declared.link.Link.{Link}
use Rattle.he_end.specs.declared.next_frame.NextFrame.{NextFrame}
use Rattle.he_end.specs.declared.next_frame.NextFrame.TheVariants as kind
use Rattle.he_end.specs.Remembers.{Remembers, OfLink, OnLink, answer_text}
use Rattle.he_end.specs.Says.{IsDue}

-- ---- the link

-- the present link
pub on_link : (c : Config) (s : Session) (k : List EndEvent) (x : Link) → Remembers c s k → s.link ≡ Some x → (l : ℕ) × (present_link k ≡ Some l) × OfLink s c k x l
on_link c s k x r at = go (present_link k) refl (subst (λ o. OnLink o (present_link k) (OfLink s c k)) at r.link)
  where
    go : (o : Option ℕ) → present_link k ≡ o → OnLink (Some x) o (OfLink s c k) → (l : ℕ) × (present_link k ≡ Some l) × OfLink s c k x l
    go None is h = absurd h
    go (Some l) is h = (l, is, h)

-- no answer is owed
pub no_answer : (c : Config) (s : Session) (k : List EndEvent) → Remembers c s k → s.answer ≡ None → answer k ≡ None
no_answer c s k r none = sym r.answer ∙ ap (option_map answer_text) none

-- ---- one thing after the other

not_none : (c : Config) (k : List EndEvent) (d : NextFrame) → IsDue c k None (Some d) → ⊥
not_none c k kind.Request h = let e = h.1 in absurd (cc)
not_none c k kind.Response h = absurd (cc)
not_none c k kind.Refusal h = let e = h.1.1 in absurd (cc)
not_none c k (kind.Sequence first received) h = absurd (cc)
not_none c k (kind.Ack upto) h = absurd (cc)
not_none c k kind.Message h = let e = h.1.1 in absurd (cc)
not_none c k kind.Ping h = absurd (cc)
not_none c k (kind.Close farewell) h = absurd (cc)

or_due : (c : Config) (k : List EndEvent) (a b : Option LinkFrame) (x y : Option NextFrame) → IsDue c k a x → IsDue c k b y → IsDue c k (first_of a b) (option_or x y)
or_due c k a b None y h i = rw h i
or_due c k None b (Some d) y h i = absurd (not_none c k d h)
or_due c k (Some f) b (Some d) y h i = h

-- the same of what is answered by `or`
pub or_is_due : (c : Config) (k : List EndEvent) (a b : Option LinkFrame) (x y z : Option NextFrame) → z ≡ option_or x y → IsDue c k a x → IsDue c k b y → IsDue c k (first_of a b) z
or_is_due c k a b x y z is h i = subst (λ o. IsDue c k (first_of a b) o) (sym is) (or_due c k a b x y h i)

-- what is due after something was said
pub due_later : (c : Config) (k : List EndEvent) (l : ℕ) (said : List LinkFrame) → has_frames said ≡ true
    → due_after c k l said ≡ first_of (first_of (first_of (first_of (sequence_due k said) (ack_due c k said)) (message_due k l)) (ping_due c k)) (close_due k said)
due_later c k l [] h = absurd (cc)
due_later c k l (f ∷ frames) h = in_order (sequence_due k (f ∷ frames)) (ack_due c k (f ∷ frames)) (message_due k l) (ping_due c k) (close_due k (f ∷ frames))
  where
    in_order : (s a m p z : Option LinkFrame) → first_of s (first_of a (first_of m (first_of p z))) ≡ first_of (first_of (first_of (first_of s a) m) p) z
    in_order (Some f) a m p z = refl
    in_order None (Some f) m p z = refl
    in_order None None (Some f) p z = refl
    in_order None None None p z = refl

-- nothing was said
pub due_first : (c : Config) (k : List EndEvent) (l : ℕ) (said : List LinkFrame) → has_frames said ≡ false → due_after c k l said ≡ opening c k l
due_first c k l [] h = refl
due_first c k l (f ∷ frames) h = absurd (cc)

-- what is due on the link where no answer is owed
pub due_here : (c : Config) (s : Session) (k : List EndEvent) (x : Link) (result : Option NextFrame) → Remembers c s k → s.link ≡ Some x → s.answer ≡ None
    → ((l : ℕ) → OfLink s c k x l → IsDue c k (due_after c k l (lent_frames l k)) result) → IsDue c k (due c k) result
due_here c s k x result r at none says =
    let here = on_link c s k x r at in
    let is : due c k ≡ due_after c k here.0 (lent_frames here.0 k) = ap (due_on c k) here.1 ∙ ap (due_there c k here.0) (no_answer c s k r none) in
    subst (λ f. IsDue c k f result) (sym is) (says here.0 here.2)

pub none_of : {A : Type 0} (o : Option A) → is_some o ≡ false → o ≡ None
none_of None h = refl
none_of (Some x) h = absurd (cc)

-- ---- messages

some_item : {A : Type 0} (xs : List A) (k : ℕ) → k < length xs → (x : A) × (slice_get xs k ≡ Some x)
some_item [] k h = absurd (omega arith)
some_item (x ∷ xs) zero h = (x, refl)
some_item (x ∷ xs) (suc k) h = some_item xs k (omega arith)

next_at : (c : Config) (s : Session) (k : List EndEvent) → Remembers c s k → next_message k ≡ slice_get (sent_messages k) s.ring.written
next_at c s k r = ap (slice_get (sent_messages k)) (sym r.ring.written)

-- a message waits
pub waits : (c : Config) (s : Session) (k : List EndEvent) → Remembers c s k → s.ring.written < s.ring.sent → (m : Message) × (next_message k ≡ Some m)
waits c s k r less = let found = some_item (sent_messages k) s.ring.written (subst (λ n. s.ring.written < n) r.ring.sent less) in (found.0, next_at c s k r ∙ found.1)

-- none waits
pub waits_not : (c : Config) (s : Session) (k : List EndEvent) → Remembers c s k → (s.ring.written < s.ring.sent → ⊥) → next_message k ≡ None
waits_not c s k r not_less = let past : s.ring.sent ≤ s.ring.written = omega arith in next_at c s k r ∙ slice_get_past (sent_messages k) s.ring.written (subst (λ n. n ≤ s.ring.written) r.ring.sent past)

pub message_waits : (c : Config) (s : Session) (k : List EndEvent) (l : ℕ) → Remembers c s k → may_write k l ≡ true → s.ring.written < s.ring.sent
    → (m : Message) × ((next_message k ≡ Some m) × (message_due k l ≡ Some (Numbered m)))
message_waits c s k l r may less = let found = waits c s k r less in (found.0, (found.1, rw may (ap (option_map Numbered) found.1)))

pub no_message : (k : List EndEvent) (l : ℕ) → next_message k ≡ None → message_due k l ≡ None
no_message k l none = go (may_write k l) (next_message k) none
  where
    go : (b : Bool) (o : Option Message) → o ≡ None → ◌≡◌ {A = Option LinkFrame} (if b then option_map Numbered o else None) None
    go true o none = rw none refl
    go false o none = refl

pub may_not : (k : List EndEvent) (l : ℕ) → may_write k l ≡ false → message_due k l ≡ None
may_not k l may = rw may refl
