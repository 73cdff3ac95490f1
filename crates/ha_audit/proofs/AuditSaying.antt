-- What an end says, by what is kept of it.
use Rattle.std.proofs.Common.{◌≡◌, ◌↔◌, ◌<◌, ℕ, ◌+◌, Bool, true, false, List, length, max, Option, Some, None, IsTrue, refl, sym, ap, ◌∙◌, subst, arith, option_map, slice_get}
use Rattle.std.proofs.lemmas.List.{length-map}
use Rattle.std.proofs.lemmas.Option.{same_Some}
use Rattle.hm_message.specs.declared.message.Codec.{Codec}
use Rattle.hm_message.specs.declared.message.Message.{Message}
use Rattle.hm_codec.specs.Frames.{framed}
use Rattle.hd_delivery.specs.declared.vocabulary.Side.{Side}
use Rattle.hd_delivery.specs.Numbers.{most_of_64_bits}
use Rattle.hd_delivery.specs.Frames.{LinkFrame, Numbered}
use Rattle.hd_delivery.specs.Histories.{Config}
use Rattle.he_wire.specs.Spelling.{spelling}
use Rattle.hd_trace.specs.declared.marks.Marks.{Marks}
use Rattle.hd_trace.specs.declared.owed.Owed.{Owed}
use Rattle.hd_trace.specs.Marks.{lent}
use Rattle.hd_trace.specs.ByMarks.{due_by, next_by}
use Rattle.hd_trace.specs.Owed.{HasNextNumbers, IsOwed, owed_frame}
use Rattle.ha_audit.specs.declared.auditor.audited_end.AuditedEnd.{AuditedEnd}
use Rattle.ha_audit.specs.declared.auditor.said.SaidFrame.{SaidFrame}
use Rattle.ha_audit.specs.AuditState.{messages_of, said_on, has_link, bytes_of}
use Rattle.ha_audit.specs.AuditSteps.{LendsSo, Says, Adds}

-- the frame that is kept of what was said
abbrev pub kept_frame : AuditedEnd → ℕ → Owed → ℕ → List ℕ → SaidFrame
kept_frame end l owed place bytes = record { owed = owed; place = place; end = length (bytes_of (said_on end.links l)) + length bytes }

pub says_so : (old mid : AuditedEnd) (marks : Marks) (l place : ℕ) (owed : Owed) (bytes : List ℕ) → mid ≡ record old { links = mid.links } → place ≡ max old.marks.acked old.marks.written
    → (has_link old.links l ≡ true → Adds old.links mid.links l (kept_frame old l owed place bytes) bytes)
    → ((c : Config) (next : Option Message) (f : LinkFrame) → HasNextNumbers mid.marks → owed_frame c next (Some owed) ≡ Some f → marks ≡ lent f mid.marks)
    → (c : Config) (f : LinkFrame) → HasNextNumbers old.marks → owed_frame c (slice_get (messages_of old.sent.items) (max old.marks.acked old.marks.written)) (Some owed) ≡ Some f
    → Says c old (record mid { marks = marks }) l f bytes
says_so old mid marks l place owed bytes rest is adds lends c f numbers owes = record {
  frame = kept_frame old l owed place bytes;
  is_frame = ap (λ p. owed_frame c (slice_get (messages_of old.sent.items) p) (Some owed)) is ∙ owes;
  ends = refl;
  links = adds;
  marks = lends c (slice_get (messages_of old.sent.items) (max old.marks.acked old.marks.written)) f (subst HasNextNumbers (sym (ap (λ e. e.marks) rest)) numbers) owes
      ∙ ap (lent f) (ap (λ e. e.marks) rest);
  sent = ap (λ e. e.sent) rest;
  last = ap (λ e. e.last) rest;
  fed = ap (λ e. e.fed) rest;
  taken = ap (λ e. e.taken) rest;
}

-- what the marks say is due
abbrev pub DueSays : Marks → Side → Option Owed → Type 0
DueSays m side owed = (c : Config) (sent : List Message) → c.side ≡ side → length sent ≡ m.sent → m.acked < most_of_64_bits → IsOwed c (next_by m sent) owed (due_by c m sent)

pub due_is : (end : AuditedEnd) (side : Side) (owed : Option Owed) (c : Config) → DueSays end.marks side owed → c.side ≡ side → length end.sent.items ≡ end.marks.sent → HasNextNumbers end.marks
    → due_by c end.marks (messages_of end.sent.items) ≡ owed_frame c (next_by end.marks (messages_of end.sent.items)) owed
due_is end side owed c says same many numbers =
    (says c (messages_of end.sent.items) same (length-map end.sent.items (λ s. s.message) ∙ many) (let low = numbers.place in omega arith)).0

-- nothing is due
pub nothing_due : (old new : AuditedEnd) (side : Side) (c : Config) (l : ℕ) (bytes : List ℕ) → DueSays old.marks side None → c.side ≡ side → length old.sent.items ≡ old.marks.sent
    → HasNextNumbers old.marks → old.marks.link ≡ Some l
    → (l : ℕ) × ((old.marks.link ≡ Some l) × (option_map (spelling old.marks.codec) (due_by c old.marks (messages_of old.sent.items)) ≡ Some bytes → ⊥))
nothing_due old new side c l bytes says same many numbers here = (
  l,
  (
    here,
    λ e. let z : ◌≡◌ {A = Option (List ℕ)} None (Some bytes) =
        sym (ap (option_map (spelling old.marks.codec)) (due_is old side None c says same many numbers)) ∙ e in absurd (cc),
  ),
)

-- something else is due
pub other_due : (old : AuditedEnd) (side : Side) (owed : Owed) (c : Config) (l : ℕ) (bytes : List ℕ) (answer : Bool) → DueSays old.marks side (Some owed) → c.side ≡ side
    → length old.sent.items ≡ old.marks.sent → HasNextNumbers old.marks → old.marks.link ≡ Some l → answer ≡ false
    → (IsTrue answer ↔ (option_map (spelling old.marks.codec) (owed_frame c (next_by old.marks (messages_of old.sent.items)) (Some owed)) ≡ Some bytes))
    → (l : ℕ) × ((old.marks.link ≡ Some l) × (option_map (spelling old.marks.codec) (due_by c old.marks (messages_of old.sent.items)) ≡ Some bytes → ⊥))
other_due old side owed c l bytes answer says same many numbers here wrong tells = (
  l,
  (
    here,
    λ e.
        let t : answer ≡ true = tells.1 (sym (ap (option_map (spelling old.marks.codec)) (due_is old side (Some owed) c says same many numbers)) ∙ e) in absurd (cc),
  ),
)

-- the frame whose bytes these are
pub spelled_frame : (codec : Codec) (o : Option LinkFrame) (bytes : List ℕ) → option_map (spelling codec) o ≡ Some bytes → (f : LinkFrame) × ((o ≡ Some f) × (spelling codec f ≡ bytes))
spelled_frame codec None bytes e = absurd (let z : ◌≡◌ {A = Option (List ℕ)} None (Some bytes) = e in cc)
spelled_frame codec (Some f) bytes e = (f, (refl, (let z : Some (spelling codec f) ≡ Some bytes = e in cc)))

-- the bytes of the next message
pub next_spelled : (codec : Codec) (next : Option Message) (m : Message) (written bytes : List ℕ) (answer : Bool)
    → next ≡ Some m → written ≡ framed codec m → (IsTrue answer ↔ (written ≡ bytes)) → IsTrue answer ↔ (option_map (spelling codec) (option_map Numbered next) ≡ Some bytes)
next_spelled codec next m written bytes answer is spells same = (
  λ held. at ∙ ap Some (sym spells ∙ same.0 held),
  λ e. same.1 (spells ∙ same_Some (framed codec m) bytes (sym at ∙ e)),
)
  where
    at : option_map (spelling codec) (option_map Numbered next) ≡ Some (framed codec m)
    at = ap (λ o. option_map (spelling codec) (option_map Numbered o)) is

-- what is due is said
pub lends_so : (old new : AuditedEnd) (side : Side) (owed : Owed) (c : Config) (l : ℕ) (bytes : List ℕ) (answer : Bool) → DueSays old.marks side (Some owed) → c.side ≡ side
    → length old.sent.items ≡ old.marks.sent → HasNextNumbers old.marks → old.marks.link ≡ Some l → answer ≡ true
    → (IsTrue answer ↔ (option_map (spelling old.marks.codec) (owed_frame c (next_by old.marks (messages_of old.sent.items)) (Some owed)) ≡ Some bytes))
    → ((c : Config) (f : LinkFrame) → HasNextNumbers old.marks → owed_frame c (next_by old.marks (messages_of old.sent.items)) (Some owed) ≡ Some f → Says c old new l f bytes)
    → LendsSo c old new bytes None
lends_so old new side owed c l bytes answer says same many numbers here right tells said =
    let f = spelled_frame old.marks.codec (owed_frame c (next_by old.marks (messages_of old.sent.items)) (Some owed)) bytes (tells.0 right) in
    (l, f.0, (here, due_is old side (Some owed) c says same many numbers ∙ f.1.0, f.1.1, said c f.0 numbers f.1.0))
