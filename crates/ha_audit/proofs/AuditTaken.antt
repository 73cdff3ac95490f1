-- Frames that an end deals with.
use Rattle.std.proofs.Common.{◌≡◌, ℕ, suc, Bool, true, false, List, ◌∷◌, length, take, sum_by, nat_le, Option, Some, None, refl, sym, ap, ◌∙◌, subst, arith, slice_get}
use Rattle.std.specs.Prelude.{if◌then◌else◌}
use Rattle.std.proofs.lemmas.Bool.{eq-eqb}
use Rattle.std.proofs.lemmas.Option.{slice_get_within}
use Rattle.hm_message.specs.declared.message.Codec.{Codec}
use Rattle.hm_message.specs.declared.message.Message.{Message}
use Rattle.hd_delivery.specs.declared.vocabulary.Got.{Got}
use Rattle.hd_delivery.specs.declared.vocabulary.Side.{Side}
use Rattle.hd_delivery.specs.declared.vocabulary.Side.TheVariants.{Client, Server}
use Rattle.hd_delivery.specs.Frames.{LinkFrame}
use Rattle.hd_delivery.specs.Histories.{Config, EndEvent, Took, is_this, present_link, fed_frames, lent_frames, taken_count, sent_messages, processed_messages, codec_of}
use Rattle.hd_delivery.specs.Worlds.{config, codec_at, Event}
use Rattle.hd_delivery.specs.Bytes.{ByteStep, Does, bytes_on, in_frames}
use Rattle.hd_delivery.specs.Sides.{other, history}
use Rattle.sr_notation.specs.Words.{got_words}
use Rattle.hd_trace.specs.declared.given.Given.{Given}
use Rattle.hd_trace.specs.declared.given.Given.TheVariants as outcome
use Rattle.hd_trace.specs.declared.marks.Marks.{Marks}
use Rattle.hd_trace.specs.declared.trace.Rule.{Rule}
use Rattle.hd_trace.specs.declared.trace.Rule.TheVariants as rule
use Rattle.hd_trace.specs.declared.trace.ToldStep.TheVariants.{Take}
use Rattle.hd_trace.specs.declared.trace.TraceLine.{TraceLine}
use Rattle.hd_trace.specs.Traces.{Setup, clock, steps_of, frames_beside, MayBeside, MakesAt}
use Rattle.hd_trace.specs.Recording.{line_of}
use Rattle.hd_trace.specs.Given.{given_got}
use Rattle.hd_trace.specs.Marks.{marks_of, took}
use Rattle.hd_trace.specs.MarkLaws.{MarksFollow}
use Rattle.hd_trace.specs.ByNumbers.{TakesByLines, NextIsFed, frame_there, next_there, taken_by}
use Rattle.ha_audit.specs.declared.auditor.Audit.{Audit}
use Rattle.ha_audit.specs.declared.auditor.audited_end.AuditedEnd.{AuditedEnd}
use Rattle.ha_audit.specs.declared.auditor.said.SaidFrame.{SaidFrame}
use Rattle.ha_audit.specs.AuditState.{messages_of, said_on, frames_of, frame_said, whole_frame}
use Rattle.ha_audit.specs.AuditKeeps.{KeepsEnd, Keeps, end_of, IsJudged, Judges}
use Rattle.ha_audit.specs.AuditSteps.{TakesSo, next_of}
use Rattle.ha_audit.specs.AuditLaws.{Known, KeptIsKnown}
use Rattle.ha_audit.proofs.AuditLists.{as_many_frames, some_at}
use Rattle.ha_audit.proofs.AuditLists as lists
use Rattle.ha_audit.proofs.AuditKnown.{keeps_on}
use Rattle.ha_audit.proofs.AuditRules.{take_breaks_link, take_breaks_state, take_breaks_took}
use Rattle.ha_audit.proofs.AuditPlain.{StaysBeside}
use Rattle.ha_audit.proofs.AuditBytes.{here_is, closed_is, open_on, fed_is}

-- ---- the next frame

-- a frame that is whole, and which it is
pub whole_is : (o : Option SaidFrame) (fed : ℕ) (s : SaidFrame) → whole_frame o fed ≡ Some s → (o ≡ Some s) × (nat_le s.end fed ≡ true)
whole_is None fed s e = absurd (let z : None ≡ Some s = e in cc)
whole_is (Some t) fed s e = go (nat_le t.end fed) refl e
  where
    go : (b : Bool) → nat_le t.end fed ≡ b → (if b then Some t else None) ≡ Some s → (Some t ≡ Some s) × (nat_le s.end fed ≡ true)
    go true is e = (e, (let same : t ≡ s = (let z : Some t ≡ Some s = e in cc) in subst (λ s. nat_le s.end fed ≡ true) same is))
    go false is e = absurd (let z : None ≡ Some s = e in cc)

is_whole : (o : Option SaidFrame) (fed : ℕ) (s : SaidFrame) → o ≡ Some s → nat_le s.end fed ≡ true → whole_frame o fed ≡ Some s
is_whole o fed s e low = ap (λ o. whole_frame o fed) e ∙ ap (λ b. if b then Some s else None) low

-- the frame of a place, if it is whole
there_is : (spell : LinkFrame → List ℕ) (fs : List LinkFrame) (n fed : ℕ) (f : LinkFrame) → frame_there spell fs n fed ≡ Some f
    → (slice_get fs n ≡ Some f) × (nat_le (sum_by (λ f. length (spell f)) (take (suc n) fs)) fed ≡ true)
there_is spell fs n fed f e = go (nat_le (sum_by (λ f. length (spell f)) (take (suc n) fs)) fed) refl e
  where
    go : (b : Bool) → nat_le (sum_by (λ f. length (spell f)) (take (suc n) fs)) fed ≡ b → (if b then slice_get fs n else None) ≡ Some f
        → (slice_get fs n ≡ Some f) × (nat_le (sum_by (λ f. length (spell f)) (take (suc n) fs)) fed ≡ true)
    go true is e = (e, is)
    go false is e = absurd (let z : None ≡ Some f = e in cc)

is_there : (spell : LinkFrame → List ℕ) (fs : List LinkFrame) (n fed : ℕ) (f : LinkFrame) → slice_get fs n ≡ Some f
    → nat_le (sum_by (λ f. length (spell f)) (take (suc n) fs)) fed ≡ true → frame_there spell fs n fed ≡ Some f
is_there spell fs n fed f at low = ap (λ b. if b then slice_get fs n else None) low ∙ at

same_some : {A : Type 0} (o : Option A) (f g : A) → o ≡ Some f → o ≡ Some g → g ≡ f
same_some o f g p q = let z : Some g ≡ Some f = sym q ∙ p in cc

module _ (x : Setup) (side : Side) (lines : List TraceLine) (a : Audit) (w : List (Event ByteStep)) (keeps : Keeps x lines a w) (l : ℕ) (here : present_link (frames_beside x side w) ≡ Some l) where
  abbrev e : AuditedEnd
  e = end_of side a

  abbrev there : AuditedEnd
  there = end_of (other side) a

  abbrev c : Config
  c = config side x.terms

  abbrev oc : Config
  oc = config (other side) x.terms

  abbrev spell : LinkFrame → List ℕ
  spell = x.wire.spell x.terms.codec

  abbrev fs : List LinkFrame
  fs = lent_frames l (frames_beside x (other side) w)

  abbrev n : ℕ
  n = taken_count l (frames_beside x side w)

  abbrev fed : ℕ
  fed = length (bytes_on l (history side w))

  taken_is : e.taken ≡ n
  taken_is = ((keeps.ends side).read l here).taken

  messages_is : messages_of there.sent.items ≡ sent_messages (frames_beside x (other side) w)
  messages_is = (keeps.ends (other side)).sent.messages_are

  next_is : next_of e there l ≡ whole_frame (slice_get (frames_of (said_on there.links l)) n) fed
  next_is = ap (λ t. whole_frame (slice_get (frames_of (said_on there.links l)) t) e.fed) taken_is
      ∙ ap (whole_frame (slice_get (frames_of (said_on there.links l)) n)) (fed_is x side lines a w keeps l here)

  -- what is kept of it is the next one
  pub kept_next : (s : SaidFrame) (f : LinkFrame) → next_of e there l ≡ Some s → frame_said oc (messages_of there.sent.items) s ≡ Some f → next_there x side w l ≡ Some f
  kept_next s f next frame =
      let said = (keeps.ends (other side)).said l in
      let whole = whole_is (slice_get (frames_of (said_on there.links l)) n) fed s (sym next_is ∙ next) in
      let at = lists.frame_there oc (sent_messages (frames_beside x (other side) w)) (frames_of (said_on there.links l)) fs said.frames_are n s whole.0 in
      let same : f ≡ at.0 = same_some (frame_said oc (sent_messages (frames_beside x (other side) w)) s) at.0 f at.1.1 (subst (λ ms. frame_said oc ms s ≡ Some f) messages_is frame) in
      is_there spell fs n fed f (subst (λ g. slice_get fs n ≡ Some g) (sym same) at.1.0) (ap (λ m. nat_le m fed) (sym (said.ends n s whole.0)) ∙ whole.1)

  -- the next one is kept
  pub next_kept : (f : LinkFrame) → next_there x side w l ≡ Some f
      → (s : SaidFrame) × ((next_of e there l ≡ Some s) × (frame_said oc (messages_of there.sent.items) s ≡ Some f))
  next_kept f next =
      let said = (keeps.ends (other side)).said l in
      let is = there_is spell fs n fed f next in
      let low = slice_get_within fs n f is.0 in
      let many = as_many_frames spell oc (sent_messages (frames_beside x (other side) w)) (said_on there.links l) fs said in
      let s = some_at (frames_of (said_on there.links l)) n (omega (arith, low, many)) in
      let at = lists.frame_there oc (sent_messages (frames_beside x (other side) w)) (frames_of (said_on there.links l)) fs said.frames_are n s.0 s.1 in
      let same : at.0 ≡ f = same_some (slice_get fs n) f at.0 is.0 at.1.0 in (
        s.0,
        (
          next_is ∙ is_whole (slice_get (frames_of (said_on there.links l)) n) fed s.0 s.1 (ap (λ m. nat_le m fed) (said.ends n s.0 s.1) ∙ is.1),
          subst (λ ms. frame_said oc ms s.0 ≡ Some f) (sym messages_is) (subst (λ g. frame_said oc (sent_messages (frames_beside x (other side) w)) s.0 ≡ Some g) same at.1.1),
        ),
      )

-- ---- the codec

-- both ends speak in the codec in which they were begun
codec_stays : (x : Setup) (side : Side) (k : List EndEvent) (codec : Codec) → ((side : Side) → codec_at side x.terms ≡ codec) → codec_of (config side x.terms) k ≡ codec
    → (msg : Message) (given : Given) → codec_of (config side x.terms) (Took (given_got (config side x.terms) (config (other side) x.terms) msg given) ∷ k) ≡ codec
codec_stays x Client k codec all is msg outcome.Shaken = all Client
codec_stays x Server k codec all is msg outcome.Shaken = all Client
codec_stays x side k codec all is msg outcome.Message = is
codec_stays x side k codec all is msg (outcome.Acked upto) = is
codec_stays x side k codec all is msg (outcome.Sequenced first) = is
codec_stays x side k codec all is msg (outcome.Resumed first received) = is
codec_stays x side k codec all is msg outcome.Ping = is
codec_stays x side k codec all is msg (outcome.Skipped why) = is
codec_stays x side k codec all is msg (outcome.Closed farewell) = is

-- ---- the step

module _ (follow : MarksFollow) (x : Setup) (side : Side) (end : AuditedEnd) (h : List ByteStep) (keeps : KeepsEnd x side end h) where
  abbrev own : Config
  own = config side x.terms

  abbrev k : List EndEvent
  k = in_frames x.wire own h

  one_more : (m l : ℕ) (got : Got) → present_link k ≡ Some l → present_link k ≡ Some m → suc (taken_count m k) ≡ taken_count m (Took got ∷ k)
  one_more m l got here at = ap (λ b. if b then suc (taken_count m k) else taken_count m k) (sym (eq-eqb m m refl))
      ∙ ap (λ o. if is_this m o then suc (taken_count m k) else taken_count m k) (sym at)

  pub kept_took : (l : ℕ) (f : LinkFrame) (got : Got) (new : AuditedEnd) → present_link k ≡ Some l → slice_get (fed_frames l k) (taken_count l k) ≡ Some f
      → codec_of own (Took got ∷ k) ≡ x.terms.codec → new ≡ record end { marks = took own.reconnect f got end.marks; taken = suc end.taken } → KeepsEnd x side new (Does (Took got) ∷ h)
  kept_took l f got new here next codec e = subst (λ n. KeepsEnd x side n (Does (Took got) ∷ h)) (sym e) (record {
    marks = ap (took own.reconnect f got) keeps.marks ∙ sym ((follow own k).took l f got here next);
    codec = codec;
    sent = keeps.sent;
    links = keeps.links;
    said = keeps.said;
    last = keeps.last;
    read = λ m at. record { fed = (keeps.read m at).fed; taken = ap suc (keeps.read m at).taken ∙ one_more m l got here at };
  })

none_gives : (c : Config) (m : Marks) (l : ℕ) (got : Got) → taken_by c m l None ≡ Some got → ⊥
none_gives c m l got e = absurd (let z : None ≡ Some got = e in cc)

pub take_judged : MarksFollow → TakesByLines → NextIsFed → KeptIsKnown → (side : Side) (old new : Audit) (words : List ℕ) (verdict : Option Rule)
    → ((x : Setup) (lines : List TraceLine) (w : List (Event ByteStep)) → Keeps x lines old w
    → TakesSo (config side x.terms) (config (other side) x.terms) (end_of side old) (end_of side new) (end_of (other side) old) words verdict)
    → StaysBeside side old new old.clock → Judges old new (line_of side (Take words)) verdict
take_judged follow takes next_fed knows side old new words verdict judged stays x lines w keeps = go verdict (judged x lines w keeps)
  where
    known : Known x lines w
    known = knows x lines old w keeps

    marks_is : (end_of side old).marks ≡ marks_of (config side x.terms) (frames_beside x side w)
    marks_is = (keeps.ends side).marks

    words_is : (got : Got) → x.words (suc (length (processed_messages (frames_beside x side w)))) got ≡ got_words (suc (end_of side old).marks.processed) got
    words_is got = ap (λ (f : ℕ → Got → List ℕ). f (suc (length (processed_messages (frames_beside x side w)))) got) keeps.begun.words ∙ ap (λ n. got_words (suc n) got) (sym (ap (λ m. m.processed) marks_is))

    go : (verdict : Option Rule) → TakesSo (config side x.terms) (config (other side) x.terms) (end_of side old) (end_of side new) (end_of (other side) old) words verdict
        → IsJudged x lines (line_of side (Take words)) w new verdict
    go None (l, f, got, (opened, taken, (msg, (given, is_given)), e)) =
        let on = open_on x side lines old w keeps l opened in
        let next = kept_next x side lines old w keeps l on.here taken.said f taken.next taken.is_frame in
        let gives : taken_by (config side x.terms) (marks_of (config side x.terms) (frames_beside x side w)) l (next_there x side w l) ≡ Some got = ap (taken_by (config side x.terms) (marks_of (config side x.terms) (frames_beside x side w)) l) next ∙ subst (λ m. taken_by (config side x.terms) m l (Some f) ≡ Some got) marks_is taken.gives in
        let makes : MakesAt x side w (clock (steps_of lines)) (Take words) (Does (Took got)) =
        record { tells = (got, (refl, words_is got ∙ taken.words_are)); allowed = (takes x side w l got known.faithful on).1 gives } in (
          Does (Took got),
          (
            makes,
            keeps_on x lines (line_of side (Take words)) old new w (Does (Took got)) keeps makes stays.head stays.clock stays.there
                (kept_took follow x side (end_of side old) (history side w) (keeps.ends side) l f got (end_of side new) on.here (next_fed x side w l known.faithful on.here ∙ next)
                (subst (λ g. codec_of (config side x.terms) (Took g ∷ (frames_beside x side w)) ≡ x.terms.codec) (sym is_given)
                (codec_stays x side (frames_beside x side w) x.terms.codec (λ t. keeps.begun.codec t ∙ sym (keeps.begun.codec Client)) (keeps.ends side).codec msg given)) e),
          ),
        )
    go (Some rule.Link) b = take_breaks_link x (MayBeside x side w) (config side x.terms) (frames_beside x side w) (clock (steps_of lines)) words (sym (here_is x side lines old w keeps) ∙ b)
    go (Some rule.State) (l, b) = take_breaks_state x (MayBeside x side w) (config side x.terms) (frames_beside x side w) (clock (steps_of lines)) l (sym (here_is x side lines old w keeps) ∙ b.0) words
        (sym (closed_is x side lines old w keeps) ∙ b.1)
    go (Some rule.Took) (l, (opened, wrong)) =
        let on = open_on x side lines old w keeps l opened in
        take_breaks_took x (MayBeside x side w) (config side x.terms) (frames_beside x side w) (clock (steps_of lines)) l on.here words on.unclosed
        (λ got may told. by (next_there x side w l) refl got told ((takes x side w l got known.faithful on).0 may))
      where
        by : (o : Option LinkFrame) → next_there x side w l ≡ o → (got : Got) → x.words (suc (length (processed_messages (frames_beside x side w)))) got ≡ words
            → taken_by (config side x.terms) (marks_of (config side x.terms) (frames_beside x side w)) l o ≡ Some got → ⊥
        by None is got told gives = none_gives (config side x.terms) (marks_of (config side x.terms) (frames_beside x side w)) l got gives
        by (Some f) is got told gives =
            let on = open_on x side lines old w keeps l opened in
            let s = next_kept x side lines old w keeps l on.here f is in
            wrong f got (record { said = s.0; next = s.1.0; is_frame = s.1.1; gives = subst (λ m. taken_by (config side x.terms) m l (Some f) ≡ Some got) (sym marks_is) gives; words_are = sym (words_is got) ∙ told })
    go (Some rule.Bytes) b = absurd b
    go (Some rule.Due) b = absurd b
    go (Some rule.Room) b = absurd b
