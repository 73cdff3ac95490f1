-- What an end makes of the first frame of its first link.
use Rattle.std.proofs.Common.{◌≡◌, ℕ, Bool, true, false, List, [], ◌∷◌, length, Option, Some, None, Ok, Err, refl, sym, ap, ◌∙◌, subst, arith}
use Rattle.std.specs.Prelude.{is_some, Result, if◌then◌else◌}
use Rattle.hf_split.specs.Cuts.{Spelled, BeginsWith}
use Rattle.hf_split.specs.Held.{Held, after_pass}
use Rattle.hf_split.specs.declared.framing.Framing.{Framing}
use Rattle.hf_split.specs.declared.framing.Framing.TheVariants.{Record}
use Rattle.hm_message.specs.declared.message.Codec.{Codec}
use Rattle.hm_message.specs.declared.message.Message.{Message}
use Rattle.hm_codec.specs.Frames.{framing_of}
use Rattle.hs_shake.specs.declared.shake.ShakeError.{ShakeError}
use Rattle.hs_shake.specs.Responses.{IsAnswered, refusal_text}
use Rattle.hs_shake.specs.Words.{shake_words}
use Rattle.hf_split.specs.declared.splitter.SplitFault.{SplitFault}
use Rattle.hf_split.specs.Words.{fault_words}
use Rattle.hd_delivery.specs.declared.vocabulary.Got.{Got}
use Rattle.hd_delivery.specs.declared.vocabulary.Got.TheVariants as gives
use Rattle.hd_delivery.specs.declared.vocabulary.Side.{Side}
use Rattle.hd_delivery.specs.declared.vocabulary.Side.TheVariants.{Client, Server}
use Rattle.hd_delivery.specs.Frames.{LinkFrame, Strange, Unreadable}
use Rattle.hd_delivery.specs.Histories as of
use Rattle.hd_delivery.specs.Histories.{EndEvent, Took, Failed, Shake, present_link, sent_messages, codec_of, is_shaken, is_closed}
use Rattle.hd_delivery.specs.Processes.{processes}
use Rattle.hd_delivery.specs.Bytes.{Wire, Waits, ByteStep, Does, in_frames}
use Rattle.hd_delivery.specs.OneHistory.{next_reader, size_of_reading}
use Rattle.hd_delivery.specs.HistoryLaws.{FactsHold, NextIsRead, UnreadMoves}
use Rattle.he_wire.specs.Laws.{WireIsSound}
use Rattle.he_wire.specs.Gives.{IsOwed, answer_of, TellsFirst, TellsWireFirst}
use Rattle.he_wire.specs.declared.reading.Handshake.{Handshake}
use Rattle.he_wire.specs.declared.reading.Handshake.TheVariants as handshake
use Rattle.he_wire.specs.declared.reading.HandshakeFault.{HandshakeFault}
use Rattle.he_wire.specs.declared.reading.HandshakeFault.TheVariants as shaking
use Rattle.he_wire.specs.Wires.{AreSaid}
use Rattle.he_end.specs.declared.session.Session.{Session}
use Rattle.he_end.specs.declared.end.End.{End}
use Rattle.he_end.specs.Remembers.{Remembers}
use Rattle.he_end.specs.Says as session
use Rattle.he_end.specs.Says.{Awaits, answer_at}
use Rattle.he_end.specs.Calls.{IsReading, ReadsOne, Greets, HasMade}
use Rattle.he_end.specs.Stands.{Stands, limits_of}
use Rattle.he_end.proofs.Nexts.{here, unclosed, unshaken, facts_here, first_reader, awaits_frame, awaits_stopped, none_waits, took, house_there}

-- ---- the handshake

none_said : (codec : Codec) (sent : List Message) → sent ≡ [] → AreSaid codec sent
none_said codec [] is = λ m i. absurd (omega (arith, i.1))
none_said codec (m ∷ sent) is = absurd (cc)

-- a splitter that goes on in this framing
abbrev pub framed_so : Framing → Held → Held
framed_so framing held = record held { framing = framing }

-- the handshake is complete, and its splitter goes on in the framing of the session's codec
shaken_framing : (c : of.Config) (k : List EndEvent) (s : Session) (codec : Codec) (version : ℕ) (got : Got) → got ≡ gives.Shaken codec version → Remembers c s (Took got ∷ k)
    → framing_of s.codec ≡ (if is_shaken (Took got ∷ k) then framing_of (codec_of c (Took got ∷ k)) else Record)
shaken_framing c k s codec version got is r = rw is (ap framing_of (subst (λ g. s.codec ≡ codec_of c (Took g ∷ k)) is r.codec))

module _ (facts : FactsHold) (sound : WireIsSound) (next : NextIsRead) (moves : UnreadMoves) (e : End) (s : Session) (same : s.ring.limits ≡ limits_of e)
    (passed : Held) (reading : IsReading e) (agreed : is_some e.session.agreed ≡ false)
    (past : (item : Spelled) → BeginsWith e.splitter.framing e.splitter.most e.splitter.bytes item → passed ≡ after_pass e.splitter item)
    (held : Held) (reframed : held ≡ framed_so (framing_of s.codec) passed)
    (wire : Wire) (c : of.Config) (h : List ByteStep) (st : Stands wire c e h) where
  abbrev k : List EndEvent
  k = in_frames wire c h

  abbrev l : (l : ℕ) × (present_link k ≡ Some l)
  l = here wire c e h st reading.0

  live : is_closed c k ≡ false
  live = unclosed wire c e h st reading.1

  not_yet : is_shaken k ≡ false
  not_yet = unshaken wire c e h st agreed

  -- the handshake that was read is taken
  pub greeted : (f : LinkFrame) (side : Side) (codec : Codec) (version : ℕ) (got : Got) → got ≡ gives.Shaken codec version → session.Shakes e.session side f s got
      → c.side ≡ side → ReadsOne e.splitter f (wire.first side e.splitter.bytes)
      → (processes c k ≡ Some (Took got)) × Stands wire c (record e { session = s; splitter = held }) (Does (Took got) ∷ h)
  greeted f side codec version got is shakes on one = (
    m.0,
    took wire c e s held h st same (ap (λ x. x.most) held_is) moves sound one.0 l.0 l.1 live (ap (λ x. x.bytes) held_is) (ap (λ x. x.place) held_is) size got m.0 m.1
        (ap (λ x. x.framing) held_is ∙ shaken_framing c k s codec version got is m.1)
        (none_said (codec_of c (Took got ∷ k)) (sent_messages k) ((facts_here wire c e h st facts sound l.0 l.1 live).unshaken_sent_none not_yet)),
  )
    where
      reader : next_reader wire c l.0 k e.splitter.bytes ≡ wire.first side e.splitter.bytes
      reader = first_reader wire c e h st facts sound l.0 l.1 live not_yet e.splitter.bytes ∙ ap (λ x. wire.first x e.splitter.bytes) on

      m : (processes c k ≡ Some (Took got)) × Remembers c s (Took got ∷ k)
      m = shakes c k st.remembers not_yet on
          (awaits_frame wire c e h st facts sound l.0 l.1 live next (wire.first side e.splitter.bytes) reader f (length one.0.spelling) one.1.1)

      held_is : held ≡ framed_so (framing_of s.codec) (after_pass e.splitter one.0)
      held_is = reframed ∙ ap (framed_so (framing_of s.codec)) (past one.0 one.1.0)

      size : size_of_reading (next_reader wire c l.0 k e.splitter.bytes) ≡ length one.0.spelling
      size = ap size_of_reading (reader ∙ one.1.1)

-- ---- a first frame that is no handshake

-- the session is closed for it, and at a server owes this answer
abbrev ClosedFor : of.Config → Session → List EndEvent → Side → List ℕ → List ℕ → Type 0
ClosedFor c s k side why text = let step = Failed (Shake why (answer_at side text)) in (processes c k ≡ Some step) × Remembers c s (step ∷ k)

pub closed_for : (c : of.Config) (s : Session) (k : List EndEvent) (e : ShakeError) (said : List ℕ) → (IsAnswered e → said ≡ refusal_text e)
    → ((why text : List ℕ) → (c.side ≡ Server → said ≡ text) → Awaits c k (Strange why text) → ClosedFor c s k c.side why text)
    → IsOwed c.side e → Awaits c k (Strange (shake_words e) (answer_of c.side e)) → ClosedFor c s k c.side (shake_words e) (refusal_text e)
closed_for c s k e said is made owed awaits = go c.side refl owed awaits
  where
    go : (side : Side) → c.side ≡ side → IsOwed side e → Awaits c k (Strange (shake_words e) (answer_of side e)) → ClosedFor c s k side (shake_words e) (refusal_text e)
    go Client here owed awaits = subst (λ side. ClosedFor c s k side (shake_words e) []) here (made (shake_words e) [] (λ q. let p : Client ≡ Server = sym here ∙ q in absurd (cc)) awaits)
    go Server here owed awaits = subst (λ side. ClosedFor c s k side (shake_words e) (refusal_text e)) here (made (shake_words e) (refusal_text e) (λ q. is owed) awaits)

-- ---- what was read of the first frame

-- before the handshake the framing is that of handshakes
framing_unless : (b : Bool) (f : Framing) → b ≡ false → (if b then f else Record) ≡ Record
framing_unless false f is = refl
framing_unless true f is = absurd (cc)

module _ (facts : FactsHold) (sound : WireIsSound) (next : NextIsRead) (e : End) (reading : IsReading e) (agreed : is_some e.session.agreed ≡ false)
    (wire : Wire) (c : of.Config) (h : List ByteStep) (st : Stands wire c e h) where
  abbrev k' : List EndEvent
  k' = in_frames wire c h

  abbrev l' : (l : ℕ) × (present_link k' ≡ Some l)
  l' = here wire c e h st reading.0

  live' : is_closed c k' ≡ false
  live' = unclosed wire c e h st reading.1

  pub not_shaken : is_shaken k' ≡ false
  not_shaken = unshaken wire c e h st agreed

  first_framing : e.splitter.framing ≡ Record
  first_framing = (st.reads l'.0 l'.1 live').framing ∙ framing_unless (is_shaken k') (framing_of (codec_of c k')) not_shaken

  reader' : next_reader wire c l'.0 k' e.splitter.bytes ≡ wire.first c.side e.splitter.bytes
  reader' = first_reader wire c e h st facts sound l'.0 l'.1 live' not_shaken e.splitter.bytes

  -- the answer tells what this history's reader finds
  pub told_first : (given answer : Result (Option Handshake) HandshakeFault) → given ≡ answer → (e.splitter.framing ≡ Record → TellsWireFirst e.session.side e.splitter given)
      → TellsFirst c.side e.splitter answer (wire.first c.side e.splitter.bytes)
  told_first given answer is told = subst (λ side. TellsFirst side e.splitter answer (wire.first side e.splitter.bytes)) st.remembers.side
      (subst (λ x. TellsFirst e.session.side e.splitter x (wire.first e.session.side e.splitter.bytes)) is
      (told first_framing wire (house_there facts sound next e reading wire c h st)))

  -- none has come
  pub first_waits : wire.first c.side e.splitter.bytes ≡ Waits → processes c k' ≡ None
  first_waits w = none_waits wire c e h st facts sound l'.0 l'.1 live' next (wire.first c.side e.splitter.bytes) reader' w

  -- a handshake has
  pub first_reads : (new : End) (g : Handshake) (got : Got) → Greets e new g got → TellsFirst c.side e.splitter (Ok (Some g)) (wire.first c.side e.splitter.bytes)
      → HasMade wire c h new (Ok got)
  first_reads new (handshake.Request shake) got greets t =
      greets wire c h st t.0 (t.2.0, (t.2.1.0, ap (λ side. wire.first side e.splitter.bytes) (sym t.0) ∙ t.2.1.2))
  first_reads new handshake.Response got greets t =
      greets wire c h st t.0 (t.1.0, (t.1.1.0, ap (λ side. wire.first side e.splitter.bytes) (sym t.0) ∙ t.1.1.2))

  -- no frame can begin
  pub first_stopped : (fault : SplitFault) (at : ℕ) → at ≡ e.splitter.place → TellsFirst c.side e.splitter (Err (shaking.Split fault)) (wire.first c.side e.splitter.bytes)
      → Awaits c k' (Unreadable at (fault_words fault))
  first_stopped fault at is t = subst (λ n. Awaits c k' (Unreadable n (fault_words fault))) (sym is)
      (awaits_stopped wire c e h st facts sound l'.0 l'.1 live' next (wire.first c.side e.splitter.bytes) reader' (fault_words fault) t.1)

  -- one has that is no handshake
  pub first_refused : (refusal : ShakeError) → TellsFirst c.side e.splitter (Err (shaking.Shake refusal)) (wire.first c.side e.splitter.bytes)
      → Awaits c k' (Strange (shake_words refusal) (answer_of c.side refusal))
  first_refused refusal t = awaits_frame wire c e h st facts sound l'.0 l'.1 live' next (wire.first c.side e.splitter.bytes) reader'
      (Strange (shake_words refusal) (answer_of c.side refusal)) (length t.1.0.spelling) t.1.1.2
