-- What an end lends is what is due.
use Rattle.std.proofs.Common.{◌≡◌, ℕ, List, ◌∷◌, Option, Some, None, refl, sym, ap, ◌∙◌, subst}
use Rattle.std.specs.Prelude.{option_map}
use Rattle.hm_message.specs.declared.message.Message.{Message}
use Rattle.hm_codec.specs.Frames.{framed}
use Rattle.hd_delivery.specs.Frames.{LinkFrame, Request, Response, Refusal, Numbered, Ack, Sequence, Ping}
use Rattle.hd_delivery.specs.Histories.{Config, EndEvent, Lent, codec_of}
use Rattle.hd_delivery.specs.HistoryLaws.{FactsHold, UnreadStays}
use Rattle.hd_delivery.specs.Due.{due}
use Rattle.hd_delivery.specs.Bytes.{Wire, ByteStep, in_frames}
use Rattle.he_wire.specs.Spelling.{spelling, with_separator, error_frame}
use Rattle.he_end.specs.declared.end.End.{End}
use Rattle.he_end.specs.declared.next_frame.NextFrame.{NextFrame}
use Rattle.he_end.specs.declared.next_frame.NextFrame.TheVariants as kind
use Rattle.he_end.specs.declared.session.Session.{Session}
use Rattle.he_end.specs.declared.link.Answer.{Answer}
use Rattle.he_end.specs.Remembers.{Remembers, answer_text, close_of}
use Rattle.he_end.specs.Says.{IsDue}
use Rattle.he_end.specs.Stands.{Stands, limits_of}
use Rattle.he_end.proofs.Ends.{lent}
use Rattle.he_end.specs.Calls.{HasLent, Lends, AreDue, Names, Said}

-- the frame that the session names
pub record Named (c : Config) (k : List EndEvent) (o : Option LinkFrame) (d : NextFrame) : Type 0 where
  pub frame : LinkFrame
  pub is : o ≡ Some frame
  pub named : IsDue c k (Some frame) (Some d)

pub named : (c : Config) (k : List EndEvent) (o : Option LinkFrame) (d : NextFrame) → IsDue c k o (Some d) → Named c k o d
named c k o kind.Request h = record { frame = Request c.codec c.version; is = h.1; named = (h.0, refl) }
named c k o kind.Response h = record { frame = Response; is = h; named = refl }
named c k o kind.Refusal h = record { frame = Refusal h.0; is = h.1.1; named = (h.0, (h.1.0, refl)) }
named c k o (kind.Sequence first received) h = record { frame = Sequence first received; is = h; named = refl }
named c k o (kind.Ack upto) h = record { frame = Ack upto; is = h; named = refl }
named c k o kind.Message h = record { frame = Numbered h.0; is = h.1.1; named = (h.0, (h.1.0, refl)) }
named c k o kind.Ping h = record { frame = Ping; is = h; named = refl }
named c k o (kind.Close farewell) h = record { frame = close_of farewell; is = h; named = refl }

-- by the session's answer
pub named_by : (c : Config) (k : List EndEvent) (o : Option LinkFrame) (answer : Option NextFrame) (d : NextFrame) → IsDue c k o answer → answer ≡ Some d → Named c k o d
named_by c k o answer d h is = named c k o d (subst (IsDue c k o) is h)

module _ (wire : Wire) (c : Config) (e new : End) (h : List ByteStep) (st : Stands wire c e h) where
  -- it was lent
  pub lent_is : (d : NextFrame) → Named c (in_frames wire c h) (due c (in_frames wire c h)) d
      → ((f : LinkFrame) → due c (in_frames wire c h) ≡ Some f → IsDue c (in_frames wire c h) (Some f) (Some d) → HasLent wire c h new (Some f))
      → HasLent wire c h new (due c (in_frames wire c h))
  lent_is d n said = subst (HasLent wire c h new) (sym n.is) (said n.frame n.is n.named)

  -- its bytes, in any codec in which it is spelled as in the end's own
  pub bytes_are : (bytes : List ℕ) (f : LinkFrame) → due c (in_frames wire c h) ≡ Some f → bytes ≡ spelling (codec_of c (in_frames wire c h)) f
      → Some bytes ≡ option_map (wire.spell (codec_of c (in_frames wire c h))) (due c (in_frames wire c h))
  bytes_are bytes f is spelled =
      ap Some (spelled ∙ sym (st.house.spells (codec_of c (in_frames wire c h)) f)) ∙ sym (ap (option_map (wire.spell (codec_of c (in_frames wire c h)))) is)

  pub codec_is : e.session.codec ≡ codec_of c (in_frames wire c h)
  codec_is = st.remembers.codec

-- what stands on the slate counts for nothing
pub on_control_buffer : (wire : Wire) (c : Config) (e : End) (h : List ByteStep) (bytes : List ℕ) → Stands wire c e h → Stands wire c (record e { control_buffer = bytes }) h
on_control_buffer wire c e h bytes st = record { house = st.house; history = st.history; remembers = st.remembers; most = st.most; reads = st.reads; said = st.said }

-- ---- by what the session named

module _ (e : End) (answer : Option NextFrame) (owes : Names e answer) (d : NextFrame) (is : answer ≡ Some d) where
  abbrev pub the_named : (wire : Wire) (c : Config) (h : List ByteStep) → Stands wire c e h → Named c (in_frames wire c h) (due c (in_frames wire c h)) d
  the_named wire c h st = named_by c (in_frames wire c h) (due c (in_frames wire c h)) answer d (owes c (in_frames wire c h) st.remembers) is

  -- the step that was due was made
  pub lends : (new : End) → Said e new d → Lends e new
  lends new said wire c h st = let n = the_named wire c h st in subst (HasLent wire c h new) (sym n.is) (said wire c h st n.frame n.is n.named)

  -- the bytes of a frame that the session's name tells
  pub spells : (bytes : List ℕ) (f : LinkFrame) → bytes ≡ spelling e.session.codec f
      → ((c : Config) (k : List EndEvent) (g : LinkFrame) → IsDue c k (Some g) (Some d) → g ≡ f) → AreDue e (Some bytes)
  spells bytes f spelled only wire c h st =
      let n = the_named wire c h st in
      bytes_are wire c e e h st bytes n.frame n.is
      (spelled ∙ (ap (λ codec. spelling codec f) st.remembers.codec ∙ ap (spelling (codec_of c (in_frames wire c h))) (sym (only c (in_frames wire c h) n.frame n.named))))

-- nothing was due
pub lends_none : (e : End) (answer : Option NextFrame) → Names e answer → answer ≡ None → Lends e e × AreDue e None
lends_none e answer owes is = (
  (λ wire c h st. subst (HasLent wire c h e) (sym (none wire c h st)) st),
  λ wire c h st. sym (ap (option_map (wire.spell (codec_of c (in_frames wire c h)))) (none wire c h st)),
)
  where
    none : (wire : Wire) (c : Config) (h : List ByteStep) → Stands wire c e h → due c (in_frames wire c h) ≡ None
    none wire c h st = subst (IsDue c (in_frames wire c h) (due c (in_frames wire c h))) is (owes c (in_frames wire c h) st.remembers)

-- a client's request
pub spells_request : (e : End) (answer : Option NextFrame) → Names e answer → answer ≡ Some kind.Request → FactsHold → (bytes : List ℕ)
    → bytes ≡ spelling e.session.codec (Request e.session.codec e.session.version) → AreDue e (Some bytes)
spells_request e answer owes is facts bytes spelled wire c h st =
    let n = named_by c (in_frames wire c h) (due c (in_frames wire c h)) answer kind.Request (owes c (in_frames wire c h) st.remembers) is in
    let client = n.named.0 in
    let codec : e.session.codec ≡ c.codec = st.remembers.codec ∙ (facts (limits_of e) wire c h st.history).client_has_its_codec client in
    let request : Request e.session.codec e.session.version ≡ n.frame =
    (λ i. Request (codec i) (st.remembers.version i)) ∙ sym (let q = n.named.1 in cc) in
    bytes_are wire c e e h st bytes n.frame n.is
    (spelled ∙ (ap (λ k. spelling k (Request e.session.codec e.session.version)) st.remembers.codec ∙ ap (spelling (codec_of c (in_frames wire c h))) request))

-- the answer to a request that was refused
pub spells_refusal : (e : End) (answer : Option NextFrame) → Names e answer → answer ≡ Some kind.Refusal → (a : Answer) → e.session.answer ≡ Some a → (bytes : List ℕ)
    → bytes ≡ with_separator (error_frame (answer_text a)) → AreDue e (Some bytes)
spells_refusal e answer owes is a owed bytes spelled wire c h st =
    let k = in_frames wire c h in
    let n = subst (IsDue c k (due c k)) is (owes c k st.remembers) in
    let text : answer_text a ≡ n.0 = (let q : Some (answer_text a) ≡ Some n.0 = sym (ap (option_map answer_text) owed) ∙ (st.remembers.answer ∙ n.1.0) in cc) in
    bytes_are wire c e e h st bytes (Refusal n.0) n.1.1 (spelled ∙ ap (λ t. with_separator (error_frame t)) text)

-- it is there
pub refusal_is_there : (e : End) (answer : Option NextFrame) → Names e answer → answer ≡ Some kind.Refusal → e.session.answer ≡ None
    → (wire : Wire) (c : Config) (h : List ByteStep) → Stands wire c e h → ⊥
refusal_is_there e answer owes is none wire c h st =
    let k = in_frames wire c h in
    let n = subst (IsDue c k (due c k)) is (owes c k st.remembers) in
    let q : ◌≡◌ {A = Option (List ℕ)} None (Some n.0) = sym (ap (option_map answer_text) none) ∙ (st.remembers.answer ∙ n.1.0) in absurd (cc)

-- a message, which the ring lends
module _ (e : End) (s : Session) (answer : Option NextFrame) (owes : Names e answer) (is : answer ≡ Some kind.Message) where
  abbrev message_of : (wire : Wire) (c : Config) (h : List ByteStep) → Stands wire c e h → (m : Message) × (due c (in_frames wire c h) ≡ Some (Numbered m))
  message_of wire c h st = let n = subst (IsDue c (in_frames wire c h) (due c (in_frames wire c h))) is (owes c (in_frames wire c h) st.remembers) in (n.0, n.1.1)

  pub lends_message : UnreadStays → s.ring.limits ≡ limits_of e
      → ((c : Config) (k : List EndEvent) (m : Message) → Remembers c e.session k → due c k ≡ Some (Numbered m) → Remembers c s (Lent (Numbered m) ∷ k))
      → Lends e (record e { session = s })
  lends_message stays same said wire c h st =
      let m = message_of wire c h st in
      subst (HasLent wire c h (record e { session = s })) (sym m.1) (lent wire c e s h st same stays (Numbered m.0) m.1 (said c (in_frames wire c h) m.0 st.remembers m.1))

  pub spells_message : (bytes : Option (List ℕ))
      → ((c : Config) (k : List EndEvent) (m : Message) → Remembers c e.session k → due c k ≡ Some (Numbered m) → bytes ≡ Some (framed (codec_of c k) m))
      → AreDue e bytes
  spells_message bytes framed_so wire c h st =
      let m = message_of wire c h st in
      framed_so c (in_frames wire c h) m.0 st.remembers m.1
      ∙ bytes_are wire c e e h st (framed (codec_of c (in_frames wire c h)) m.0) (Numbered m.0) m.1 refl
