-- Frames that an end alone takes.
use Rattle.std.proofs.Common.{inl, ⊎_elim, ◌≡◌, ◌↔◌, ◌≤◌, ℕ, suc, Bool, true, false, IsTrue, List, [], ◌∷◌, ◌++◌, length, drop, Option, Some, None, refl, sym, ap, ◌∙◌, subst, arith, append-nil, slice_get, option_map}
use Rattle.hf_split.specs.Held.{Held, after_pass}
use Rattle.hf_split.specs.Laws.{HasOneBeginning}
use Rattle.hm_message.specs.declared.message.Codec.{Codec}
use Rattle.hm_message.specs.declared.message.Message.{Message}
use Rattle.hd_delivery.specs.declared.vocabulary.Got.{Got}
use Rattle.hd_delivery.specs.declared.vocabulary.Got.TheVariants as gives
use Rattle.hd_delivery.specs.Numbers.{most_messages}
use Rattle.hd_delivery.specs.Frames.{LinkFrame, Request, Response, Refusal, Numbered, Ack, Sequence, Ping, Close, Foreign, Strange, Unreadable, count, one_more}
use Rattle.hd_delivery.specs.Alone.{IsOfFrame}
use Rattle.hd_delivery.specs.AloneLaws.{FramesAreTaken}
use Rattle.hd_delivery.specs.Histories.{Config, EndEvent, Took, present_link, fed_frames, taken_count, sent_messages, processed_messages, codec_of, is_closed, is_shaken, as_told}
use Rattle.hd_delivery.specs.HistoryLaws.{HistoryFacts, StandsThere, NextIsRead, UnreadMoves}
use Rattle.hd_delivery.specs.Processes.{processes}
use Rattle.hd_delivery.specs.Worlds.{config}
use Rattle.hd_delivery.specs.Bytes.{Reading, ByteStep, Does, unread, read_count}
use Rattle.hd_delivery.specs.OneHistory.{next_reader, frame_of_reading, size_of_reading}
use Rattle.he_wire.specs.Wires.{IsHouseWire}
use Rattle.sr_notation.specs.Words.{got_words}
use Rattle.hd_trace.specs.declared.marks.Marks.{Marks}
use Rattle.hd_trace.specs.declared.trace.Rule.TheVariants as rule
use Rattle.hd_trace.specs.declared.trace.ToldStep.{ToldStep}
use Rattle.hd_trace.specs.declared.trace.ToldStep.TheVariants.{Take}
use Rattle.hd_trace.specs.Traces.{Setup, clock}
use Rattle.hd_trace.specs.Alone.{frames_alone, MayAlone}
use Rattle.hd_trace.specs.Marks.{marks_of, took}
use Rattle.hd_trace.specs.MarkLaws.{MarksFollow, TakesAreMarked}
use Rattle.hd_trace.specs.ByMarks.{next_number_by, given_by}
use Rattle.ha_audit.specs.declared.alone.auditor.AuditAlone.{AuditAlone}
use Rattle.ha_audit.specs.declared.alone.taking.Taken.{Taken}
use Rattle.ha_audit.specs.declared.auditor.audited_end.AuditedEnd.{AuditedEnd}
use Rattle.ha_audit.specs.declared.auditor.sent.SentMessage.{SentMessage}
use Rattle.ha_audit.specs.AuditState.{AreSent, has_link, messages_of}
use Rattle.ha_audit.specs.AloneState.{as_kept, framing_by, reading_by, HoldsBytes, HasNearNumbers}
use Rattle.ha_audit.specs.AloneKeeps.{KeepsOne, KeepsAlone, KnownAlone, KeptAloneIsKnown, JudgesAlone}
use Rattle.ha_audit.specs.AloneSteps.{Gives, IsFound, IsReady, HasNumber, FindsSome, FindsNone, Passes}
use Rattle.ha_audit.proofs.AuditLists.{sent_none}
use Rattle.ha_audit.proofs.AuditRules.{take_breaks_link, take_breaks_state, take_breaks_took}
use Rattle.ha_audit.proofs.AlonePlain.{alone_on}
use Rattle.ha_audit.proofs.AloneReading.{reader_is, held_is, given_kept, number_kept, takes, taken}
use Rattle.ha_audit.proofs.AloneNumbers.{has_number, near_took}

-- ---- what a frame makes of the marks

told_once : (n : ℕ) → as_told (suc (as_told n)) ≡ as_told (suc n)
told_once n = omega arith

one_kept : (o : Option ℕ) → option_map as_told (one_more (option_map as_told o)) ≡ option_map as_told (one_more o)
one_kept None = refl
one_kept (Some n) = ap Some (told_once n)

told_told : (n : ℕ) → as_told (as_told n) ≡ as_told n
told_told n = omega arith

same_kept : (o : Option ℕ) → option_map as_told (option_map as_told o) ≡ option_map as_told o
same_kept None = refl
same_kept (Some n) = ap Some (told_told n)

count_kept : (o : Option ℕ) (f : LinkFrame) → option_map as_told (count (option_map as_told o) f) ≡ option_map as_told (count o f)
count_kept o (Request codec version) = refl
count_kept o Response = refl
count_kept o (Refusal text) = same_kept o
count_kept o (Numbered msg) = one_kept o
count_kept o (Ack upto) = same_kept o
count_kept o (Sequence first received) = refl
count_kept o Ping = same_kept o
count_kept o (Close error allow) = same_kept o
count_kept o (Foreign n) = same_kept o
count_kept o (Strange why answer) = same_kept o
count_kept o (Unreadable at why) = same_kept o

took_with : (reconnect : Bool) (f : LinkFrame) (got : Got) (m : Marks) (n : Option ℕ) → n ≡ option_map as_told (count m.next f)
    → record (took reconnect f got (as_kept m)) { next = n } ≡ as_kept (took reconnect f got m)
took_with reconnect f (gives.Shaken codec version) m n e = ap (λ n. record (took reconnect f (gives.Shaken codec version) m) { next = n }) e
took_with reconnect f (gives.Message msg) m n e = ap (λ n. record (took reconnect f (gives.Message msg) m) { next = n }) e
took_with reconnect f (gives.Acked upto) m n e = ap (λ n. record (took reconnect f (gives.Acked upto) m) { next = n }) e
took_with reconnect f (gives.Sequenced first) m n e = ap (λ n. record (took reconnect f (gives.Sequenced first) m) { next = n }) e
took_with reconnect f (gives.Resumed first received) m n e = ap (λ n. record (took reconnect f (gives.Resumed first received) m) { next = n }) e
took_with reconnect f gives.Ping m n e = ap (λ n. record (took reconnect f gives.Ping m) { next = n }) e
took_with reconnect f (gives.Skipped why) m n e = ap (λ n. record (took reconnect f (gives.Skipped why) m) { next = n }) e
took_with reconnect f (gives.Closed error allow) m n e = ap (λ n. record (took reconnect f (gives.Closed error allow) m) { next = n }) e

-- ---- what it makes of what was sent

none_sent : (codec : Codec) (sent : List SentMessage) (messages : List Message) → messages ≡ [] → AreSent codec sent messages → (other : Codec)
    → AreSent other sent messages
none_sent codec sent messages none are other = subst (AreSent other sent) (sym none) (sent_none other sent (empty sent (are.messages_are ∙ none)))
  where
    empty : (sent : List SentMessage) → messages_of sent ≡ [] → sent ≡ []
    empty [] e = refl
    empty (s ∷ sent) e = absurd (cc)

sent_took : (c : Config) (k : List EndEvent) (sent : List SentMessage) (got : Got) → HistoryFacts c k → IsOfFrame (is_shaken k) (Took got) → AreSent
    (codec_of c k) sent (sent_messages k)
    → AreSent (codec_of c (Took got ∷ k)) sent (sent_messages k)
sent_took c k sent (gives.Shaken codec version) facts unshaken are = none_sent (codec_of c k) sent (sent_messages k)
    (facts.unshaken_sent_none unshaken) are codec
sent_took c k sent (gives.Message msg) facts of are = are
sent_took c k sent (gives.Acked upto) facts of are = are
sent_took c k sent (gives.Sequenced first) facts of are = are
sent_took c k sent (gives.Resumed first received) facts of are = are
sent_took c k sent gives.Ping facts of are = are
sent_took c k sent (gives.Skipped why) facts of are = are
sent_took c k sent (gives.Closed error allow) facts of are = are

-- ---- what it makes of the bytes

one_got : (g got : Got) → Some (Took g) ≡ Some (Took got) → g ≡ got
one_got g got e = cc

module _ (follow : MarksFollow) (knows : KeptAloneIsKnown) (old new : AuditAlone) (told : List ℕ) where
  -- it has no link, or is closed
  pub take_broken_link : old.end.marks.link ≡ None → JudgesAlone old new (Take told) (Some rule.Link)
  take_broken_link none x steps h keeps =
      take_breaks_link x (MayAlone x old.side h) (config old.side x.terms) (frames_alone x old.side h) (clock steps) told
      (sym (ap (λ m. m.link) keeps.kept.marks) ∙ none)

  pub take_broken_state : (l : ℕ) → old.end.marks.link ≡ Some l → old.end.marks.closed ≡ true → JudgesAlone old new (Take told) (Some rule.State)
  take_broken_state l here closed x steps h keeps =
      take_breaks_state x (MayAlone x old.side h) (config old.side x.terms) (frames_alone x old.side h) (clock steps) l
      (sym (ap (λ m. m.link) keeps.kept.marks) ∙ here) told
      (sym (ap (λ m. m.closed) keeps.kept.marks) ∙ closed)

  module _ (next : NextIsRead) (says : TakesAreMarked) (l : ℕ) (here : old.end.marks.link ≡ Some l) (opened : old.end.marks.closed ≡ false) where
    module _ (x : Setup) (steps : List ToldStep) (h : List ByteStep) (keeps : KeepsAlone x steps old h) where
      abbrev c : Config
      c = config old.side x.terms

      abbrev k : List EndEvent
      k = frames_alone x old.side h

      abbrev reading : Reading
      reading = reading_by x.wire old.side old.end.marks old.splitter.bytes

      at : present_link k ≡ Some l
      at = sym (ap (λ m. m.link) keeps.kept.marks) ∙ here

      closed : is_closed c k ≡ false
      closed = sym (ap (λ m. m.closed) keeps.kept.marks) ∙ opened

      known : KnownAlone x old.side (clock steps) h
      known = knows x steps old h keeps

      house : IsHouseWire old.splitter.most x.wire
      house = subst (λ n. IsHouseWire n x.wire) (sym keeps.kept.most) keeps.begun.is_wire

      few : old.end.marks.processed ≤ most_messages
      few = subst (λ m. m.processed ≤ most_messages) (sym keeps.kept.marks) known.facts.processed_are_few

      ready : IsReady c x.wire old
      ready = record {
        begun = record { side_is = refl; codec = keeps.begun.codec old.side; version = keeps.begun.version old.side; keeps = keeps.begun.reconnect };
        is_wire = house;
        framing = (keeps.kept.holds l at).framing;
        few = few;
      }

      stands : StandsThere x.limits x.wire c h l
      stands = record { sound = known.sound; is_history = known.told.is_history; here = at }

      reader : next_reader x.wire c l k (unread x.wire c l h) ≡ reading
      reader = reader_is x.wire c k l (unread x.wire c l h) known.facts at closed
          ∙ (ap (λ m. reading_by x.wire old.side m (unread x.wire c l h)) (sym keeps.kept.marks)
          ∙ held_is x.limits x.wire old.side old.end.marks old.splitter old.over (unread x.wire c l h) known.sound house (keeps.kept.holds l at))

      found : slice_get (fed_frames l k) (taken_count l k) ≡ frame_of_reading (read_count x.wire c l h) reading
      found = next x.limits x.wire c h l stands closed ∙ ap (frame_of_reading (read_count x.wire c l h)) reader

      low_kept : HasNumber (as_kept (marks_of c k))
      low_kept = has_number (marks_of c k) known.facts.processed_are_few keeps.kept.near

      given_there : (f : LinkFrame) → given_by c (as_kept (marks_of c k)) (next_number_by (as_kept (marks_of c k)) l) f ≡ given_by c (marks_of c k)
          (next_number_by (marks_of c k) l) f
      given_there f = ap (λ n. given_by c (as_kept (marks_of c k)) n f) (number_kept (marks_of c k) l low_kept) ∙ given_kept c (marks_of c k)
          (next_number_by (marks_of c k) l) f

      -- what is found may be taken
      may : (f : LinkFrame) (size : ℕ) (got : Got) → Gives c x.wire old.end.marks l old.splitter.bytes f size got → processes c k ≡ Some (Took got)
      may f size got g = takes says c k l (read_count x.wire c l h) reading at closed found low_kept f size got g.reads
          (subst (λ m. given_by c m (next_number_by m l) f ≡ Some got) keeps.kept.marks g.gives)

      -- and nothing else
      nothing : FindsNone old l → (got : Got) → processes c k ≡ Some (Took got) → ⊥
      nothing none got e =
          let t = taken says c k l (read_count x.wire c l h) reading at closed found low_kept got e in
          none c x.wire t.0 t.1.0 got ready
          (record { reads = t.1.1.0; gives = subst (λ m. given_by c m (next_number_by m l) t.0 ≡ Some got) (sym keeps.kept.marks) t.1.1.1 })

      number : suc (length (processed_messages k)) ≡ suc old.end.marks.processed
      number = ap suc (sym (ap (λ m. m.processed) keeps.kept.marks))

      words : (got : Got) → x.words (suc (length (processed_messages k))) got ≡ got_words (suc old.end.marks.processed) got
      words got = ap (λ w. w (suc (length (processed_messages k))) got) keeps.begun.words ∙ ap (λ n. got_words n got) number

    -- no frame gives anything
    pub take_broken_none : FindsNone old l → JudgesAlone old new (Take told) (Some rule.Took)
    take_broken_none none x steps h keeps =
        take_breaks_took x (MayAlone x old.side h) (config old.side x.terms) (frames_alone x old.side h) (clock steps) l (at x steps h keeps) told
        (closed x steps h keeps)
        (λ got e w. nothing x steps h keeps none got e)

    -- the next frame gives something else
    pub take_broken_told : (t : Taken) → FindsSome old l t → (answer : Bool) → answer ≡ false
        → (old.end.marks.processed ≤ most_messages → IsTrue answer ↔ (got_words (suc old.end.marks.processed) t.got ≡ told)) → JudgesAlone old new
        (Take told) (Some rule.Took)
    take_broken_told t finds answer wrong tells x steps h keeps =
        take_breaks_took x (MayAlone x old.side h) (config old.side x.terms) (frames_alone x old.side h) (clock steps) l (at x steps h keeps) told
        (closed x steps h keeps)
        (λ got e w.
        let f = finds (config old.side x.terms) x.wire (ready x steps h keeps) in
        let same : t.got ≡ got = one_got t.got got (sym (may x steps h keeps f.frame (length f.item.spelling) t.got f.gives) ∙ e) in
        let right : answer ≡ true = (tells (few x steps h keeps)).1
        (sym (words x steps h keeps t.got) ∙ (ap (x.words (suc (length (processed_messages (frames_alone x old.side h))))) same ∙ w)) in
        absurd (cc))

    -- what is kept once it was taken
    module _ (moves : UnreadMoves) (begins : HasOneBeginning) (frames : FramesAreTaken) (t : Taken) (x : Setup) (steps : List ToldStep)
        (h : List ByteStep) (keeps : KeepsAlone x steps old h)
        (f : IsFound (config old.side x.terms) x.wire old.end.marks l old.splitter t) where
      is_taken : processes (config old.side x.terms) (frames_alone x old.side h) ≡ Some (Took t.got)
      is_taken = may x steps h keeps f.frame (length f.item.spelling) t.got f.gives

      none_more : (keeps.kept.holds l (at x steps h keeps)).more ≡ []
      none_more = ⊎_elim (λ none. none)
          (λ faulty. absurd ((begins old.splitter.framing old.splitter.most old.splitter.bytes).frame_is_no_fault f.item f.begins faulty))
          (keeps.kept.holds l (at x steps h keeps)).stuck

      all_held : unread x.wire (config old.side x.terms) l h ≡ old.splitter.bytes
      all_held = (keeps.kept.holds l (at x steps h keeps)).bytes_are ∙
          (ap (λ more. old.splitter.bytes ++ more) none_more ∙ append-nil old.splitter.bytes)

      size_is : size_of_reading
          (next_reader x.wire (config old.side x.terms) l (frames_alone x old.side h)
          (unread x.wire (config old.side x.terms) l h)) ≡ length f.item.spelling
      size_is = ap size_of_reading (reader x steps h keeps ∙ f.gives.reads)

      left_unread : unread x.wire (config old.side x.terms) l (Does (Took t.got) ∷ h) ≡ drop (length f.item.spelling) old.splitter.bytes
      left_unread = ((moves x.limits x.wire (config old.side x.terms) h l (stands x steps h keeps)).0 t.got is_taken).drops
          ∙ (ap (λ n. drop n (unread x.wire (config old.side x.terms) l h)) size_is ∙ ap (drop (length f.item.spelling)) all_held)

      held_then : (held : Held) (m : Marks) → held ≡ record (after_pass old.splitter f.item) { framing = framing_by m }
          → HoldsBytes held old.over m (unread x.wire (config old.side x.terms) l (Does (Took t.got) ∷ h))
      held_then held m e = subst (λ s. HoldsBytes s old.over m (unread x.wire (config old.side x.terms) l (Does (Took t.got) ∷ h))) (sym e) (record {
        framing = refl;
        more = [];
        bytes_are = left_unread ∙ sym (append-nil (drop (length f.item.spelling) old.splitter.bytes));
        count = (keeps.kept.holds l (at x steps h keeps)).count ∙ ap length none_more;
        stuck = inl refl;
      })

      marks_follow_then : marks_of (config old.side x.terms) (Took t.got ∷ frames_alone x old.side h) ≡ took x.terms.reconnect f.frame t.got
          (marks_of (config old.side x.terms) (frames_alone x old.side h))
      marks_follow_then = (follow (config old.side x.terms) (frames_alone x old.side h)).took l f.frame t.got (at x steps h keeps)
          (found x steps h keeps ∙ ap (frame_of_reading (read_count x.wire (config old.side x.terms) l h)) f.gives.reads)

      marks_then : record (took old.head.reconnect f.frame t.got old.end.marks) { next = t.next } ≡ as_kept
          (marks_of (config old.side x.terms) (Took t.got ∷ frames_alone x old.side h))
      marks_then =
          ap (λ m. record (took old.head.reconnect f.frame t.got m) { next = t.next }) keeps.kept.marks
          ∙ (ap (λ b. record (took b f.frame t.got (as_kept (marks_of (config old.side x.terms) (frames_alone x old.side h)))) { next = t.next })
          (sym keeps.begun.reconnect)
          ∙ (took_with x.terms.reconnect f.frame t.got (marks_of (config old.side x.terms) (frames_alone x old.side h)) t.next
          (f.next ∙ (ap (λ m. option_map as_told (count m.next f.frame)) keeps.kept.marks ∙ count_kept
          (marks_of (config old.side x.terms) (frames_alone x old.side h)).next f.frame))
          ∙ ap as_kept (sym marks_follow_then)))

      near_then : HasNearNumbers (took x.terms.reconnect f.frame t.got (marks_of (config old.side x.terms) (frames_alone x old.side h)))
      near_then = near_took (config old.side x.terms)
          (marks_of (config old.side x.terms) (frames_alone x old.side h)) l x.terms.reconnect f.frame t.got
          (frames (config old.side x.terms) (frames_alone x old.side h) (Took t.got) is_taken)
          (sym (given_there x steps h keeps f.frame) ∙ subst
          (λ m. given_by (config old.side x.terms) m (next_number_by m l) f.frame ≡ Some t.got) keeps.kept.marks f.gives.gives) keeps.kept.near

      kept_taken : (end : AuditedEnd) (held : Held)
          → end ≡ record old.end { marks = record (took old.head.reconnect f.frame t.got old.end.marks) { next = t.next } }
          → held ≡ record (after_pass old.splitter f.item) { framing = framing_by end.marks } → KeepsOne x old.side end held old.over
          (Does (Took t.got) ∷ h)
      kept_taken end held e p = record {
        marks = ap (λ e. e.marks) e ∙ marks_then;
        near = subst HasNearNumbers (sym marks_follow_then) near_then;
        sent = subst (λ e. AreSent (codec_of (config old.side x.terms) (Took t.got ∷ frames_alone x old.side h)) e.sent.items
            (sent_messages (frames_alone x old.side h))) (sym e)
            (sent_took (config old.side x.terms) (frames_alone x old.side h) old.end.sent.items t.got (known x steps h keeps).facts
            (frames (config old.side x.terms) (frames_alone x old.side h) (Took t.got) is_taken) keeps.kept.sent);
        links = λ l. ap (λ e. has_link e.links l) e ∙ keeps.kept.links l;
        last = ap (λ e. e.last) e ∙ keeps.kept.last;
        most = ap (λ s. s.most) p ∙ keeps.kept.most;
        holds = λ m there. let same : l ≡ m = (let z : Some l ≡ Some m = sym (at x steps h keeps) ∙ there in cc) in
            subst (λ m. HoldsBytes held old.over end.marks (unread x.wire (config old.side x.terms) m (Does (Took t.got) ∷ h))) same
            (held_then held end.marks p);
      }

    -- the next frame gives what is told
    pub take_judged : UnreadMoves → HasOneBeginning → FramesAreTaken → (mid : AuditAlone) (t : Taken) → mid ≡ record old { scratch = mid.scratch }
        → FindsSome old l t → Passes mid new t
        → (answer : Bool) → answer ≡ true →
        (old.end.marks.processed ≤ most_messages → IsTrue answer ↔ (got_words (suc old.end.marks.processed) t.got ≡ told)) → JudgesAlone old new
        (Take told) None
    take_judged moves begins frames mid t rest finds passes answer right tells x steps h keeps =
        let p : Passes (record old { scratch = mid.scratch }) new t = subst (λ a. Passes a new t) rest passes in
        let f = finds (config old.side x.terms) x.wire (ready x steps h keeps) in
        let end = p.end f.frame (few x steps h keeps) in
        let held = p.splitter f.item f.begins in
        alone_on x steps (Take told) old new h (Does (Took t.got)) keeps
        (record {
          tells = (t.got, (refl, words x steps h keeps t.got ∙ (tells (few x steps h keeps)).0 right));
          allowed =
              (is_taken moves begins frames t x steps h keeps f, tt);
        })
        (record { head = ap (λ a. a.head) p.rest; side = ap (λ a. a.side) p.rest; clock = ap (λ a. a.clock) p.rest })
        (subst (λ over. KeepsOne x old.side new.end new.splitter over (Does (Took t.got) ∷ h)) (sym (ap (λ a. a.over) p.rest))
        (kept_taken moves begins frames t x steps h keeps f new.end new.splitter end held))
