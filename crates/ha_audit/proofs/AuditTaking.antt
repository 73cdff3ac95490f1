-- What an end deals with, by what is kept of it and of the other end.
use Rattle.std.proofs.Common.{◌≡◌, ◌↔◌, ◌≤◌, ℕ, suc, Bool, true, false, List, Option, Some, None, IsTrue, refl, sym, ap, ◌∙◌, subst, option_map, slice_get}
use Rattle.hm_message.specs.declared.message.Message.{Message}
use Rattle.hm_message.specs.declared.message.Message.TheVariants as message
use Rattle.hd_delivery.specs.declared.vocabulary.Got.{Got}
use Rattle.hd_delivery.specs.declared.vocabulary.Got.TheVariants as gives
use Rattle.hd_delivery.specs.declared.vocabulary.Side.{Side}
use Rattle.hd_delivery.specs.Numbers.{most_messages}
use Rattle.hd_delivery.specs.Frames.{LinkFrame}
use Rattle.hd_delivery.specs.Histories.{Config}
use Rattle.sr_notation.specs.Words.{got_words}
use Rattle.hd_trace.specs.declared.given.Given.{Given}
use Rattle.hd_trace.specs.declared.given.Given.TheVariants as outcome
use Rattle.hd_trace.specs.declared.marks.Marks.{Marks}
use Rattle.hd_trace.specs.declared.owed.Owed.{Owed}
use Rattle.hd_trace.specs.declared.owed.Owed.TheVariants as owed
use Rattle.hd_trace.specs.Given.{IsGiven, given_got, said_frame}
use Rattle.hd_trace.specs.Marks.{took}
use Rattle.hd_trace.specs.Owed.{owed_frame}
use Rattle.hd_trace.specs.ByNumbers.{taken_by}
use Rattle.ha_audit.specs.declared.auditor.audited_end.AuditedEnd.{AuditedEnd}
use Rattle.ha_audit.specs.declared.auditor.said.SaidFrame.{SaidFrame}
use Rattle.ha_audit.specs.AuditState.{messages_of, frame_said}
use Rattle.ha_audit.specs.AuditSteps.{IsOpenAt, IsTakenSo, TakesSo, next_of}

-- the frame that is kept, as code names it, and the message that it carries
pub said_as : (oc : Config) (next : Option Message) (owes : Owed) (f : LinkFrame) → owed_frame oc next (Some owes) ≡ Some f
    → (msg : Message) × ((f ≡ said_frame oc msg owes) × (owes ≡ owed.Message → next ≡ Some msg))
said_as oc next owed.Request f e = (message.Ping, ((let z : Some (said_frame oc message.Ping owed.Request) ≡ Some f = e in cc), λ m. absurd (cc)))
said_as oc next owed.Response f e = (message.Ping, ((let z : Some (said_frame oc message.Ping owed.Response) ≡ Some f = e in cc), λ m. absurd (cc)))
said_as oc next (owed.Sequence first received) f e = (message.Ping, ((let z : Some (said_frame oc message.Ping (owed.Sequence first received)) ≡ Some f = e in cc), λ m. absurd (cc)))
said_as oc next (owed.Ack upto) f e = (message.Ping, ((let z : Some (said_frame oc message.Ping (owed.Ack upto)) ≡ Some f = e in cc), λ m. absurd (cc)))
said_as oc None owed.Message f e = absurd (let z : ◌≡◌ {A = Option LinkFrame} None (Some f) = e in cc)
said_as oc (Some msg) owed.Message f e = (msg, ((let z : Some (said_frame oc msg owed.Message) ≡ Some f = e in cc), λ m. refl))
said_as oc next owed.Ping f e = (message.Ping, ((let z : Some (said_frame oc message.Ping owed.Ping) ≡ Some f = e in cc), λ m. absurd (cc)))
said_as oc next (owed.Close farewell) f e = (message.Ping, ((let z : Some (said_frame oc message.Ping (owed.Close farewell)) ≡ Some f = e in cc), λ m. absurd (cc)))

-- what the marks say that such a frame gives
abbrev pub GivesSo : Marks → Side → ℕ → Owed → Option Given → Type 0
GivesSo m side l owes given = (c oc : Config) (msg : Message) → c.side ≡ side → m.processed ≤ most_messages → IsGiven c oc msg given (taken_by c m l (Some (said_frame oc msg owes)))

-- where a message is given, a message was said
same_frame : (oc : Config) (a b : Message) (owes : Owed) → (owes ≡ owed.Message → ⊥) → said_frame oc a owes ≡ said_frame oc b owes
same_frame oc a b owed.Request h = refl
same_frame oc a b owed.Response h = refl
same_frame oc a b (owed.Sequence first received) h = refl
same_frame oc a b (owed.Ack upto) h = refl
same_frame oc a b owed.Message h = absurd (h refl)
same_frame oc a b owed.Ping h = refl
same_frame oc a b (owed.Close farewell) h = refl

pub two_messages : (m : Marks) (side : Side) (l : ℕ) (owes : Owed) (c oc : Config) → GivesSo m side l owes (Some outcome.Message) → c.side ≡ side → m.processed ≤ most_messages
    → (owes ≡ owed.Message → ⊥) → ⊥
two_messages m side l owes c oc says same low other =
    let a = says c oc message.Ping same low in
    let b = says c oc (message.Ack 0) same low in
    let e : Some (gives.Message message.Ping) ≡ Some (gives.Message (message.Ack 0)) =
    sym a ∙ (ap (λ f. taken_by c m l (Some f)) (same_frame oc message.Ping (message.Ack 0) owes other) ∙ b) in
    let g : gives.Message message.Ping ≡ gives.Message (message.Ack 0) = cc in
    let h : message.Ping ≡ message.Ack 0 = cc in
    absurd (cc)

is_message : (owes : Owed) → ((owes ≡ owed.Message → ⊥) → ⊥) → owes ≡ owed.Message
is_message owed.Request h = absurd (h (λ e. absurd (cc)))
is_message owed.Response h = absurd (h (λ e. absurd (cc)))
is_message (owed.Sequence first received) h = absurd (h (λ e. absurd (cc)))
is_message (owed.Ack upto) h = absurd (h (λ e. absurd (cc)))
is_message owed.Message h = refl
is_message owed.Ping h = absurd (h (λ e. absurd (cc)))
is_message (owed.Close farewell) h = absurd (h (λ e. absurd (cc)))

pub carries : (m : Marks) (side : Side) (l : ℕ) (owes : Owed) (given : Given) (c oc : Config) → GivesSo m side l owes (Some given) → c.side ≡ side → m.processed ≤ most_messages
    → given ≡ outcome.Message → owes ≡ owed.Message
carries m side l owes given c oc says same low is =
    is_message owes (two_messages m side l owes c oc (subst (λ g. GivesSo m side l owes (Some g)) is says) same low)

module _ (c oc : Config) (old there : AuditedEnd) (l : ℕ) (words : List ℕ) (opened : IsOpenAt old.marks l) where
  -- no frame is whole
  pub none_next : next_of old there l ≡ None → (l : ℕ) × (IsOpenAt old.marks l × ((f : LinkFrame) (got : Got) → IsTakenSo c oc old there l words f got → ⊥))
  none_next e = (l, (opened, λ f got t. let z : ◌≡◌ {A = Option SaidFrame} None (Some t.said) = sym e ∙ t.next in absurd (cc)))

  module _ (side : Side) (same : c.side ≡ side) (low : old.marks.processed ≤ most_messages) (said : SaidFrame) (next : next_of old there l ≡ Some said) where
    -- what it gives, of such a frame
    given_of : (given : Option Given) → GivesSo old.marks side l said.owed given → (f : LinkFrame) → frame_said oc (messages_of there.sent.items) said ≡ Some f
        → (msg : Message) × ((taken_by c old.marks l (Some f) ≡ option_map (given_got c oc msg) given) × (said.owed ≡ owed.Message → slice_get (messages_of there.sent.items) said.place ≡ Some msg))
    given_of given says f e =
        let s = said_as oc (slice_get (messages_of there.sent.items) said.place) said.owed f e in
        (s.0, (ap (λ g. taken_by c old.marks l (Some g)) s.1.0 ∙ says c oc s.0 same low, s.1.1))

    said_is : (f : LinkFrame) (got : Got) (t : IsTakenSo c oc old there l words f got) → frame_said oc (messages_of there.sent.items) said ≡ Some f
    said_is f got t = let z : Some t.said ≡ Some said = sym t.next ∙ next in let is : t.said ≡ said = cc in subst (λ s. frame_said oc (messages_of there.sent.items) s ≡ Some f) is t.is_frame

    -- it is a fault
    pub none_given : GivesSo old.marks side l said.owed None → (l : ℕ) × (IsOpenAt old.marks l × ((f : LinkFrame) (got : Got) → IsTakenSo c oc old there l words f got → ⊥))
    none_given says = (
      l,
      (
        opened,
        λ f got t. let g = given_of None says f (said_is f got t) in
            let z : ◌≡◌ {A = Option Got} None (Some got) = sym g.1.0 ∙ t.gives in absurd (cc),
      ),
    )

    -- which words tell it
    abbrev TellsSo : Given → Bool → Type 0
    TellsSo given answer = (msg : Message) → (given ≡ outcome.Message → slice_get (messages_of there.sent.items) said.place ≡ Some msg)
        → IsTrue answer ↔ (got_words (suc old.marks.processed) (given_got c oc msg given) ≡ words)

    pub other_words : (given : Given) (answer : Bool) → GivesSo old.marks side l said.owed (Some given) → TellsSo given answer → answer ≡ false
        → (l : ℕ) × (IsOpenAt old.marks l × ((f : LinkFrame) (got : Got) → IsTakenSo c oc old there l words f got → ⊥))
    other_words given answer says tells wrong = (
      l,
      (
        opened,
        λ f got t.
            let g = given_of (Some given) says f (said_is f got t) in
            let is : Some (given_got c oc g.0 given) ≡ Some got = sym g.1.0 ∙ t.gives in
            let same_got : given_got c oc g.0 given ≡ got = cc in
            let right : answer ≡ true = (tells g.0 (λ m. g.1.1 (carries old.marks side l said.owed given c oc says same low m))).1 (ap (got_words (suc old.marks.processed)) same_got ∙ t.words_are) in
            absurd (cc),
      ),
    )

    -- these do
    pub same_words : (given : Given) (answer : Bool) (new : AuditedEnd) (f : LinkFrame) → GivesSo old.marks side l said.owed (Some given) → TellsSo given answer → answer ≡ true
        → frame_said oc (messages_of there.sent.items) said ≡ Some f
        → ((msg : Message) → new ≡ record old { marks = took c.reconnect (said_frame oc msg said.owed) (given_got c oc msg given) old.marks; taken = suc old.taken })
        → TakesSo c oc old new there words None
    same_words given answer new f says tells right frame becomes =
        let s = said_as oc (slice_get (messages_of there.sent.items) said.place) said.owed f frame in
        let is : taken_by c old.marks l (Some f) ≡ Some (given_got c oc s.0 given) = ap (λ g. taken_by c old.marks l (Some g)) s.1.0 ∙ says c oc s.0 same low in (
          l,
          f,
          given_got c oc s.0 given,
          (
            opened,
            record {
              said = said;
              next = next;
              is_frame = frame;
              gives = is;
              words_are = (tells s.0 (λ m. s.1.1 (carries old.marks side l said.owed given c oc says same low m))).0 right;
            },
            (s.0, (given, refl)),
            becomes s.0 ∙ ap (λ g. record old { marks = took c.reconnect g (given_got c oc s.0 given) old.marks; taken = suc old.taken }) (sym s.1.0),
          ),
        )
