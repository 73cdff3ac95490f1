-- What an end makes of the next frame of its link.
use Rattle.std.proofs.Common.{◌≡◌, ⊎_elim, ℕ, zero, suc, ◌+◌, ◌<◌, Bool, true, false, List, ◌∷◌, length, drop, Option, Some, None, Ok, Err, refl, sym, ap, ◌∙◌, subst, arith}
use Rattle.std.proofs.lemmas.Bool.{eqb-true, eq-eqb, ne_eqb}
use Rattle.std.specs.Prelude.{slice_get, is_some, ◌==◌, Result, if◌then◌else◌}
use Rattle.hf_split.specs.Cuts.{Spelled, BeginsWith}
use Rattle.hf_split.specs.Held.{Held, place_of, after_pass}
use Rattle.hf_split.specs.declared.framing.Framing.{Framing}
use Rattle.hf_split.specs.declared.framing.Framing.TheVariants.{Record}
use Rattle.hm_message.specs.declared.message.Codec.{Codec}
use Rattle.hm_codec.specs.Frames.{framing_of}
use Rattle.hd_delivery.specs.declared.vocabulary.Got.{Got}
use Rattle.hd_delivery.specs.declared.vocabulary.Got.TheVariants as gives
use Rattle.hd_delivery.specs.Frames.{LinkFrame, Unreadable}
use Rattle.hd_delivery.specs.Histories as of
use Rattle.hd_delivery.specs.Histories.{EndEvent, Took, Failed, Fault, is_this, present_link, first_link, fed_frames, taken_count, sent_messages, codec_of, is_shaken, is_closed}
use Rattle.hd_delivery.specs.Processes.{processes}
use Rattle.hd_delivery.specs.Bytes.{Wire, Reading, Waits, Reads, Refuses, Stops, ByteStep, Does, in_frames, unread, read_count}
use Rattle.hd_delivery.specs.OneHistory.{next_reader, frame_of_reading, size_of_reading}
use Rattle.hd_delivery.specs.HistoryLaws.{HistoryFacts, FactsHold, StandsThere, NextIsRead, UnreadMoves, MovesBy}
use Rattle.he_wire.specs.Laws.{WireIsSound}
use Rattle.hm_message.specs.declared.message.Read.TheVariants as reads
use Rattle.hm_codec.specs.declared.why.FrameWhy.{FrameWhy}
use Rattle.hm_codec.specs.Words.{why_words}
use Rattle.he_wire.specs.declared.reading.LinkFault.TheVariants as link
use Rattle.he_wire.specs.Gives.{TellsLater}
use Rattle.he_wire.specs.Wires.{IsHouseWire, AreSaid}
use Rattle.he_end.specs.declared.session.Session.{Session}
use Rattle.he_end.specs.declared.link.Link.{Link}
use Rattle.he_end.specs.declared.link.Agreed.{Agreed}
use Rattle.he_end.specs.declared.end.End.{End}
use Rattle.he_end.specs.Remembers.{Remembers, Agrees, OfLink, OnLink}
use Rattle.hm_message.specs.declared.message.Read.{Read}
use Rattle.he_end.specs.declared.taking.Refused.{Refused}
use Rattle.he_end.specs.Says as session
use Rattle.he_end.specs.Says.{Awaits, frame_read, fault_of, step_made}
use Rattle.he_end.specs.Calls.{IsReading, ReadsOne}
use Rattle.he_end.specs.Stands.{Stands, HoldsUnread, limits_of}
use Rattle.he_end.proofs.Ends.{house_stays, most_stays, with_limits}

-- ---- places

place_more : (a b : ℕ) → place_of (place_of a + b) ≡ place_of (a + b)
place_more a b = omega arith

-- ---- the handshake stays

pub shaken_stays : (k : List EndEvent) (got : Got) → is_shaken k ≡ true → is_shaken (Took got ∷ k) ≡ true
shaken_stays k (gives.Shaken codec version) e = refl
shaken_stays k (gives.Message m) e = e
shaken_stays k (gives.Acked n) e = e
shaken_stays k (gives.Sequenced n) e = e
shaken_stays k (gives.Resumed first received) e = e
shaken_stays k gives.Ping e = e
shaken_stays k (gives.Skipped why) e = e
shaken_stays k (gives.Closed error allow) e = e

-- after the handshake the framing is the codec's
framing_when : (b : Bool) (f : Framing) → b ≡ true → (if b then f else Record) ≡ f
framing_when true f is = refl
framing_when false f is = absurd (cc)

-- ---- where the end stands

on_some : (x : Option Link) (o : Option ℕ) (Holds : Link → ℕ → Type 0) → is_some x ≡ true → OnLink x o Holds → (l : ℕ) × (o ≡ Some l)
on_some None o Holds is h = absurd (cc)
on_some (Some x) None Holds is h = absurd h
on_some (Some x) (Some l) Holds is h = (l, refl)

on_none : (x : Option Link) (o : Option ℕ) (Holds : Link → ℕ → Type 0) → is_some x ≡ false → OnLink x o Holds → o ≡ None
on_none None None Holds is h = refl
on_none None (Some l) Holds is h = absurd h
on_none (Some x) o Holds is h = absurd (cc)

agreed_some : (a : Option Agreed) (c : of.Config) (k : List EndEvent) → is_some a ≡ true → Agrees a c k → is_shaken k ≡ true
agreed_some None c k is h = absurd (cc)
agreed_some (Some a) c k is h = h.0

agreed_none : (a : Option Agreed) (c : of.Config) (k : List EndEvent) → is_some a ≡ false → Agrees a c k → is_shaken k ≡ false
agreed_none None c k is h = h.0
agreed_none (Some a) c k is h = absurd (cc)

this_is : (l : ℕ) (o : Option ℕ) → is_this l o ≡ true → o ≡ Some l
this_is l None e = absurd (cc)
this_is l (Some k) e = ap Some (sym (eqb-true l k e))

is_same : (l : ℕ) (o : Option ℕ) → o ≡ Some l → is_this l o ≡ true
is_same l None e = absurd (cc)
is_same l (Some k) e = eq-eqb l k (let e' : k ≡ l = cc in sym e')

not_zero : (n : ℕ) → 0 < n → (n == 0) ≡ false
not_zero zero h = absurd (omega arith)
not_zero (suc n) h = ne_eqb (suc n) 0 (λ e. let f : suc n ≡ 0 = e in absurd (omega arith))

module _ (wire : Wire) (c : of.Config) (e : End) (h : List ByteStep) (st : Stands wire c e h) where
  abbrev pub frames : List EndEvent
  frames = in_frames wire c h

  pub here : is_some e.session.link ≡ true → (l : ℕ) × (present_link frames ≡ Some l)
  here is = on_some e.session.link (present_link frames) (OfLink e.session c frames) is st.remembers.link

  pub nowhere : is_some e.session.link ≡ false → present_link frames ≡ None
  nowhere is = on_none e.session.link (present_link frames) (OfLink e.session c frames) is st.remembers.link

  pub unclosed : e.session.closed ≡ false → is_closed c frames ≡ false
  unclosed live = sym st.remembers.closed ∙ live

  pub shaken : is_some e.session.agreed ≡ true → is_shaken frames ≡ true
  shaken is = agreed_some e.session.agreed c frames is st.remembers.agreed

  pub unshaken : is_some e.session.agreed ≡ false → is_shaken frames ≡ false
  unshaken is = agreed_none e.session.agreed c frames is st.remembers.agreed

  module _ (facts : FactsHold) (sound : WireIsSound) (l : ℕ) (at : present_link frames ≡ Some l) (live : is_closed c frames ≡ false) where
    abbrev pub facts_here : HistoryFacts c frames
    facts_here = facts (limits_of e) wire c h st.history

    abbrev pub there : StandsThere (limits_of e) wire c h l
    there = record { sound = sound (limits_of e) wire st.house; is_history = st.history; here = at }

    -- after the handshake the reader is that of its codec
    pub later_reader : is_shaken frames ≡ true → (bytes : List ℕ) → next_reader wire c l frames bytes ≡ wire.later (codec_of c frames) bytes
    later_reader is bytes = go (is_this l (first_link frames)) refl
      where
        go : (b : Bool) → is_this l (first_link frames) ≡ b → next_reader wire c l frames bytes ≡ wire.later (codec_of c frames) bytes
        go false e' = rw e' refl
        go true e' = rw (e', not_zero (taken_count l frames) (facts_here.shaken_took_some is l (this_is l (first_link frames) e'))) refl

    -- before it that of handshakes
    pub first_reader : is_shaken frames ≡ false → (bytes : List ℕ) → next_reader wire c l frames bytes ≡ wire.first c.side bytes
    first_reader is bytes = rw (is_same l (first_link frames) (facts_here.unshaken_is_on_first is l at), facts_here.unshaken_took_none is live l) refl

    module _ (next : NextIsRead) (reading : Reading) (is : next_reader wire c l frames e.splitter.bytes ≡ reading) where
      next_frame_is : slice_get (fed_frames l frames) (taken_count l frames) ≡ frame_of_reading (read_count wire c l h) reading
      next_frame_is = next (limits_of e) wire c h l there live
          ∙ ap (frame_of_reading (read_count wire c l h)) (ap (next_reader wire c l frames) (sym (st.reads l at live).bytes) ∙ is)

      pub awaits_frame : (f : LinkFrame) (size : ℕ) → reading ≡ Reads f size → Awaits c frames f
      awaits_frame f size r = record { link = l; at = at; live = live; next = next_frame_is ∙ ap (frame_of_reading (read_count wire c l h)) r }

      pub awaits_refused : (why : List ℕ) (size : ℕ) → reading ≡ Refuses why size → Awaits c frames (Unreadable e.splitter.place why)
      awaits_refused why size r = record {
        link = l;
        at = at;
        live = live;
        next = next_frame_is ∙ (ap (frame_of_reading (read_count wire c l h)) r ∙ ap (λ n. Some (Unreadable n why)) (sym (st.reads l at live).place));
      }

      pub awaits_stopped : (why : List ℕ) → reading ≡ Stops why → Awaits c frames (Unreadable e.splitter.place why)
      awaits_stopped why r = record {
        link = l;
        at = at;
        live = live;
        next = next_frame_is ∙ (ap (frame_of_reading (read_count wire c l h)) r ∙ ap (λ n. Some (Unreadable n why)) (sym (st.reads l at live).place));
      }

      pub none_waits : reading ≡ Waits → processes c frames ≡ None
      none_waits r =
          let none = next_frame_is ∙ ap (frame_of_reading (read_count wire c l h)) r in
          rw live (rw at (rw none refl))

-- ---- the step that the frame makes

module _ (wire : Wire) (c : of.Config) (e : End) (s : Session) (held : Held) (h : List ByteStep) (st : Stands wire c e h) (same : s.ring.limits ≡ limits_of e)
    (most : held.most ≡ e.splitter.most) where
  abbrev steps : List EndEvent
  steps = in_frames wire c h

  abbrev pub after : End
  after = record e { session = s; splitter = held }

  -- a fault closes the end
  pub failed : (fault : Fault) → processes c steps ≡ Some (Failed fault) → Remembers c s (Failed fault ∷ steps) → Stands wire c after (Does (Failed fault) ∷ h)
  failed fault makes r = record {
    house = house_stays wire c e s h st same;
    history = with_limits wire c e s h st same (Does (Failed fault) ∷ h) (st.history, makes);
    remembers = r;
    most = most ∙ most_stays wire c e s h st same;
    reads = λ m at live. absurd (cc);
    said = st.said;
  }

  module _ (moves : UnreadMoves) (sound : WireIsSound) (item : Spelled) (l : ℕ) (at : present_link steps ≡ Some l) (live : is_closed c steps ≡ false)
      (past : held.bytes ≡ drop (length item.spelling) e.splitter.bytes) (place : held.place ≡ place_of (e.splitter.place + length item.spelling))
      (size : size_of_reading (next_reader wire c l steps e.splitter.bytes) ≡ length item.spelling) where
    pub took : (got : Got) → processes c steps ≡ Some (Took got) → Remembers c s (Took got ∷ steps)
        → held.framing ≡ (if is_shaken (Took got ∷ steps) then framing_of (codec_of c (Took got ∷ steps)) else Record)
        → AreSaid (codec_of c (Took got ∷ steps)) (sent_messages steps) → Stands wire c after (Does (Took got) ∷ h)
    took got makes r framing said = record {
      house = house_stays wire c e s h st same;
      history = with_limits wire c e s h st same (Does (Took got) ∷ h) (st.history, makes);
      remembers = r;
      most = most ∙ most_stays wire c e s h st same;
      reads = λ m there open_still. subst (HoldsUnread wire c held (Does (Took got) ∷ h)) (let q : Some l ≡ Some m = sym at ∙ there in cc) holds;
      said = said;
    }
      where
        was : HoldsUnread wire c e.splitter h l
        was = st.reads l at live

        by : MovesBy wire c l h (Took got) (size_of_reading (next_reader wire c l steps (unread wire c l h)))
        by = (moves (limits_of e) wire c h l (record { sound = sound (limits_of e) wire st.house; is_history = st.history; here = at })).0 got makes

        same_size : size_of_reading (next_reader wire c l steps (unread wire c l h)) ≡ length item.spelling
        same_size = ap (λ bytes. size_of_reading (next_reader wire c l steps bytes)) (sym was.bytes) ∙ size

        holds : HoldsUnread wire c held (Does (Took got) ∷ h) l
        holds = record {
          bytes = past ∙ (ap (drop (length item.spelling)) was.bytes ∙ (ap (λ n. drop n (unread wire c l h)) (sym same_size) ∙ sym by.drops));
          place = place ∙ (ap (λ n. place_of (n + length item.spelling)) was.place ∙ (place_more (read_count wire c l h) (length item.spelling)
              ∙ sym (ap place_of (by.counts ∙ ap (λ n. read_count wire c l h + n) same_size))));
          framing = framing;
        }

-- ---- after the handshake

-- what was made of it
abbrev pub Made : Wire → of.Config → List ByteStep → End → Result Got Refused → Type 0
Made wire c h new result = (processes c (in_frames wire c h) ≡ Some (step_made result)) × Stands wire c new (Does (step_made result) ∷ h)

module _ (facts : FactsHold) (sound : WireIsSound) (next : NextIsRead) (moves : UnreadMoves) (e : End) (s : Session) (held : Held) (same : s.ring.limits ≡ limits_of e)
    (reading : IsReading e) (agreed : is_some e.session.agreed ≡ true)
    (past : (item : Spelled) → BeginsWith e.splitter.framing e.splitter.most e.splitter.bytes item → held ≡ after_pass e.splitter item) where
  module _ (wire : Wire) (c : of.Config) (h : List ByteStep) (st : Stands wire c e h) where
    abbrev k : List EndEvent
    k = in_frames wire c h

    abbrev l : (l : ℕ) × (present_link k ≡ Some l)
    l = here wire c e h st reading.0

    live : is_closed c k ≡ false
    live = unclosed wire c e h st reading.1

    is_now : is_shaken k ≡ true
    is_now = shaken wire c e h st agreed

    reader : next_reader wire c l.0 k e.splitter.bytes ≡ wire.later (codec_of c k) e.splitter.bytes
    reader = later_reader wire c e h st facts sound l.0 l.1 live is_now e.splitter.bytes

    codec_still : s.codec ≡ e.session.codec → (got : Got) → Remembers c s (Took got ∷ k) → codec_of c (Took got ∷ k) ≡ codec_of c k
    codec_still codec got r = sym r.codec ∙ (codec ∙ st.remembers.codec)

    pub taken : (read : Read) (result : Result Got Refused) → session.Takes e.session (frame_read read) s result → s.codec ≡ e.session.codec
        → ReadsOne e.splitter (frame_read read) (wire.later (codec_of c k) e.splitter.bytes)
        → Made wire c h (record e { session = s; splitter = held }) result
    taken read result takes codec one = go result (takes c k st.remembers is_now awaits)
      where
        awaits : Awaits c k (frame_read read)
        awaits = awaits_frame wire c e h st facts sound l.0 l.1 live next (wire.later (codec_of c k) e.splitter.bytes) reader (frame_read read) (length one.0.spelling) one.1.1

        held_is : held ≡ after_pass e.splitter one.0
        held_is = past one.0 one.1.0

        most : held.most ≡ e.splitter.most
        most = ap (λ x. x.most) held_is

        size : size_of_reading (next_reader wire c l.0 k e.splitter.bytes) ≡ length one.0.spelling
        size = ap size_of_reading (reader ∙ one.1.1)

        framing : (got : Got) → Remembers c s (Took got ∷ k) → held.framing ≡ (if is_shaken (Took got ∷ k) then framing_of (codec_of c (Took got ∷ k)) else Record)
        framing got r = ap (λ x. x.framing) held_is ∙ ((st.reads l.0 l.1 live).framing
            ∙ (framing_when (is_shaken k) (framing_of (codec_of c k)) is_now ∙ (ap framing_of (sym (codec_still codec got r))
            ∙ sym (framing_when (is_shaken (Took got ∷ k)) (framing_of (codec_of c (Took got ∷ k))) (shaken_stays k got is_now)))))

        go : (result : Result Got Refused) → (processes c k ≡ Some (step_made result)) × Remembers c s (step_made result ∷ k)
            → Made wire c h (record e { session = s; splitter = held }) result
        go (Ok got) m = (
          m.0,
          took wire c e s held h st same most moves sound one.0 l.0 l.1 live (ap (λ x. x.bytes) held_is) (ap (λ x. x.place) held_is) size got m.0 m.1
              (framing got m.1) (subst (λ x. AreSaid x (sent_messages k)) (sym (codec_still codec got m.1)) st.said),
        )
        go (Err refused) m = (m.0, failed wire c e s held h st same most (fault_of refused) m.0 m.1)

-- ---- a frame that can't be read

-- the end is closed for it
pub fails : (wire : Wire) (c : of.Config) (e : End) (s : Session) (h : List ByteStep) (st : Stands wire c e h) → s.ring.limits ≡ limits_of e → (fault : Fault)
    → (processes c (in_frames wire c h) ≡ Some (Failed fault)) × Remembers c s (Failed fault ∷ in_frames wire c h)
    → (processes c (in_frames wire c h) ≡ Some (Failed fault)) × Stands wire c (record e { session = s }) (Does (Failed fault) ∷ h)
fails wire c e s h st same fault m = (m.0, failed wire c e s e.splitter h st same refl fault m.0 m.1)

-- what was read after the handshake
pub told_frame : (codec : Codec) (held : Held) (read : Read) (reading : Reading) → TellsLater codec held (Ok (Some read)) reading → ReadsOne held (frame_read read) reading
told_frame codec held (reads.Message m) reading t = (t.0, (t.1.0, t.1.2))
told_frame codec held (reads.Unknown n) reading t = (t.0, (t.1.0, t.1.2))

module _ (facts : FactsHold) (sound : WireIsSound) (next : NextIsRead) (e : End) (reading : IsReading e) (wire : Wire) (c : of.Config) (h : List ByteStep) (st : Stands wire c e h) where
  abbrev k' : List EndEvent
  k' = in_frames wire c h

  abbrev l' : (l : ℕ) × (present_link k' ≡ Some l)
  l' = here wire c e h st reading.0

  live' : is_closed c k' ≡ false
  live' = unclosed wire c e h st reading.1

  pub house_there : IsHouseWire e.splitter.most wire
  house_there = subst (λ n. IsHouseWire n wire) (sym st.most) st.house

  module _ (agreed : is_some e.session.agreed ≡ true) where
    reader' : next_reader wire c l'.0 k' e.splitter.bytes ≡ wire.later (codec_of c k') e.splitter.bytes
    reader' = later_reader wire c e h st facts sound l'.0 l'.1 live' (shaken wire c e h st agreed) e.splitter.bytes

    pub later_framing : e.splitter.framing ≡ framing_of e.session.codec
    later_framing = (st.reads l'.0 l'.1 live').framing ∙ (framing_when (is_shaken k') (framing_of (codec_of c k')) (shaken wire c e h st agreed) ∙ ap framing_of (sym st.remembers.codec))

    in_codec : wire.later e.session.codec e.splitter.bytes ≡ wire.later (codec_of c k') e.splitter.bytes
    in_codec = ap (λ x. wire.later x e.splitter.bytes) st.remembers.codec

    -- none has come
    pub later_waits : wire.later e.session.codec e.splitter.bytes ≡ Waits → processes c k' ≡ None
    later_waits w = none_waits wire c e h st facts sound l'.0 l'.1 live' next (wire.later (codec_of c k') e.splitter.bytes) reader' (sym in_codec ∙ w)

    -- one has
    pub later_reads : (f : LinkFrame) → ReadsOne e.splitter f (wire.later e.session.codec e.splitter.bytes) → ReadsOne e.splitter f (wire.later (codec_of c k') e.splitter.bytes)
    later_reads f one = (one.0, (one.1.0, sym in_codec ∙ one.1.1))

    -- one has that can't be read
    pub later_refused : (codec : Codec) (at : ℕ) (why : FrameWhy) → TellsLater codec e.splitter (Err (link.Refused at why)) (wire.later e.session.codec e.splitter.bytes)
        → Awaits c k' (Unreadable at (why_words why))
    later_refused codec at why t = subst (λ n. Awaits c k' (Unreadable n (why_words why))) (sym t.0) (⊎_elim
        (λ f. awaits_stopped wire c e h st facts sound l'.0 l'.1 live' next (wire.later (codec_of c k') e.splitter.bytes) reader' (why_words why) (sym in_codec ∙ f.1.2))
        (λ f. awaits_refused wire c e h st facts sound l'.0 l'.1 live' next (wire.later (codec_of c k') e.splitter.bytes) reader' (why_words why) (length f.0.spelling) (sym in_codec ∙ f.1.2))
        t.1)
