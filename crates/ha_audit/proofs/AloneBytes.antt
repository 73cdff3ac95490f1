-- Bytes that an end alone is fed.
use Rattle.std.proofs.Common.{inl, inr, ⊎_elim, ◌≡◌, ◌⊎◌, ◌≤◌, ◌<◌, ℕ, ◌+◌, ◌-◌, ◌^◌, true, false, List, [], ◌∷◌, ◌++◌, length, take, Some, None, refl, sym, ap, ◌∙◌, subst, arith, length-append, append-nil, append_assoc, take_all}
use Rattle.std.specs.Prelude.{min}
use Rattle.hf_split.specs.Cuts.{IsFaulty}
use Rattle.hf_split.specs.Held.{Held, after_feed, taken_by_feed, room_for}
use Rattle.hf_split.specs.Laws.{BeginsInOneWay, HasOneBeginning}
use Rattle.hd_delivery.specs.Numbers.{most_framing}
use Rattle.hd_delivery.specs.Histories.{present_link}
use Rattle.hd_delivery.specs.HistoryLaws.{UnreadGrows}
use Rattle.hd_delivery.specs.Worlds.{config}
use Rattle.hd_delivery.specs.Bytes.{ByteStep, Bytes, unread}
use Rattle.hd_trace.specs.declared.marks.Marks.{Marks}
use Rattle.hd_trace.specs.declared.trace.Rule.TheVariants as rule
use Rattle.hd_trace.specs.declared.trace.ToldStep.{ToldStep}
use Rattle.hd_trace.specs.declared.trace.ToldStep.TheVariants.{Feed}
use Rattle.hd_trace.specs.Traces.{Setup, clock}
use Rattle.hd_trace.specs.Alone.{frames_alone, MayAlone}
use Rattle.hd_trace.specs.Marks.{marks_of, heard_something}
use Rattle.hd_trace.specs.MarkLaws.{MarksFollow}
use Rattle.ha_audit.specs.declared.alone.auditor.AuditAlone.{AuditAlone}
use Rattle.ha_audit.specs.AloneState.{as_kept, HoldsBytes, HasNearNumbers}
use Rattle.ha_audit.specs.AloneKeeps.{KeepsOne, KeepsAlone, JudgesAlone, KnownAlone, KeptAloneIsKnown}
use Rattle.ha_audit.specs.AloneSteps.{HasRoomForBytes}
use Rattle.ha_audit.proofs.AloneNumbers.{near_heard}
use Rattle.ha_audit.proofs.AlonePlain.{StaysBegun, alone_on}
use Rattle.ha_audit.proofs.AuditRules.{feed_breaks_link, feed_breaks_state, feed_breaks_bytes}

min_is : (n m : ℕ) → n ≤ m → min n m ≡ n
min_is n m low = omega arith

-- what a splitter makes of a piece, which has room
pub record IsFed (old new : Held) (piece : List ℕ) (count : ℕ) : Type 0 where
  pub within : count ≤ length piece
  pub refused : IsFaulty old.framing old.most old.bytes → count ≡ 0
  pub whole : (IsFaulty old.framing old.most old.bytes → ⊥) → count ≡ length piece
  pub fed : new ≡ after_feed old (take count piece)

-- the piece comes after what is held
holds_more : HasOneBeginning → (old new : Held) (over count : ℕ) (m : Marks) (bytes piece : List ℕ) → IsFed old new piece count
    → HoldsBytes old over m bytes
    → HoldsBytes new (over + (length piece - count)) (heard_something m) (bytes ++ piece)
holds_more begins old new over count m bytes piece fed holds = subst
    (λ s. HoldsBytes s (over + (length piece - count)) (heard_something m) (bytes ++ piece)) (sym fed.fed) (go holds.stuck)
  where
    beginning : BeginsInOneWay old.framing old.most old.bytes
    beginning = begins old.framing old.most old.bytes

    faulty : IsFaulty old.framing old.most old.bytes → HoldsBytes (after_feed old (take count piece)) (over + (length piece - count))
        (heard_something m) (bytes ++ piece)
    faulty f =
        let none = fed.refused f in
        let same : after_feed old (take count piece) ≡ old = ap (λ n. after_feed old (take n piece)) none ∙ ap (λ bytes. record old { bytes = bytes })
        (append-nil old.bytes) in
        subst (λ s. HoldsBytes s (over + (length piece - count)) (heard_something m) (bytes ++ piece)) (sym same) (record {
          framing = holds.framing;
          more = holds.more ++ piece;
          bytes_are = ap (λ b. b ++ piece) holds.bytes_are ∙ append_assoc old.bytes holds.more piece;
          count = (let many = holds.count in omega (arith, many, none, length-append holds.more piece));
          stuck = inr f;
        })

    whole : (IsFaulty old.framing old.most old.bytes → ⊥) → holds.more ≡ [] → HoldsBytes (after_feed old (take count piece))
        (over + (length piece - count)) (heard_something m) (bytes ++ piece)
    whole fine none =
        let all = fed.whole fine in
        let same : after_feed old (take count piece) ≡ after_feed old piece = ap (after_feed old) (take_all count piece (omega (arith, all))) in
        subst (λ s. HoldsBytes s (over + (length piece - count)) (heard_something m) (bytes ++ piece)) (sym same) (record {
          framing = holds.framing;
          more = [];
          bytes_are = ap (λ b. b ++ piece) (holds.bytes_are ∙ (ap (λ b. old.bytes ++ b) none ∙ append-nil old.bytes)) ∙ sym
              (append-nil (old.bytes ++ piece));
          count = (let many = holds.count in let few = ap length none in omega (arith, many, few, all));
          stuck = inl refl;
        })

    go : (holds.more ≡ []) ⊎ IsFaulty old.framing old.most old.bytes → HoldsBytes (after_feed old (take count piece)) (over + (length piece - count))
        (heard_something m) (bytes ++ piece)
    go (inr f) = faulty f
    go (inl none) = ⊎_elim
        (λ b. whole (λ f. beginning.frame_is_no_fault b.0 b.1 f) none)
        (λ r. ⊎_elim (λ f. faulty f) (λ w. whole w.no_fault none) r)
        beginning.some

-- a piece that has room is fed whole
pub is_fed : (a : AuditAlone) (new : Held) (piece : List ℕ) (count : ℕ) → a.splitter.most ≡ a.head.limits.frame → HasRoomForBytes a (length piece)
    → count ≤ length piece
    → (IsFaulty a.splitter.framing a.splitter.most a.splitter.bytes → count ≡ 0)
    → ((IsFaulty a.splitter.framing a.splitter.most a.splitter.bytes → ⊥) → count ≡ taken_by_feed a.splitter (length piece))
    → new ≡ after_feed a.splitter (take count piece) → IsFed a.splitter new piece count
is_fed a new piece count most room within refused whole fed = record {
  within = within;
  refused = refused;
  whole = λ fine. whole fine ∙ min_is (length piece) (room_for a.splitter.most - length a.splitter.bytes)
      (let r : (length a.splitter.bytes + a.over) + length piece ≤ a.head.limits.frame + most_framing = room in omega (arith, r, most));
  fed = fed;
}

module _ (follow : MarksFollow) (knows : KeptAloneIsKnown) (grows : UnreadGrows) (old new : AuditAlone) (piece : List ℕ) where
  -- it has no link, or is closed
  pub feed_broken_link : old.end.marks.link ≡ None → JudgesAlone old new (Feed piece) (Some rule.Link)
  feed_broken_link none x steps h keeps =
      feed_breaks_link x (MayAlone x old.side h) (config old.side x.terms) (frames_alone x old.side h) (clock steps) piece
      (sym (ap (λ m. m.link) keeps.kept.marks) ∙ none)

  pub feed_broken_state : (l : ℕ) → old.end.marks.link ≡ Some l → old.end.marks.closed ≡ true → JudgesAlone old new (Feed piece) (Some rule.State)
  feed_broken_state l here closed x steps h keeps =
      feed_breaks_state x (MayAlone x old.side h) (config old.side x.terms) (frames_alone x old.side h) (clock steps) l
      (sym (ap (λ m. m.link) keeps.kept.marks) ∙ here) piece
      (sym (ap (λ m. m.closed) keeps.kept.marks) ∙ closed)

  module _ (x : Setup) (steps : List ToldStep) (h : List ByteStep) (keeps : KeepsAlone x steps old h) (l : ℕ)
      (here : old.end.marks.link ≡ Some l) where
    at : present_link (frames_alone x old.side h) ≡ Some l
    at = sym (ap (λ m. m.link) keeps.kept.marks) ∙ here

    known : KnownAlone x old.side (clock steps) h
    known = knows x steps old h keeps

    grown : unread x.wire (config old.side x.terms) l (Bytes piece ∷ h) ≡ unread x.wire (config old.side x.terms) l h ++ piece
    grown = (grows x.limits x.wire (config old.side x.terms) h l piece
        (record { sound = known.sound; is_history = known.told.is_history; here = at })).0

    most_is : old.splitter.most ≡ old.head.limits.frame
    most_is = keeps.kept.most ∙ ap (λ l. l.frame) keeps.begun.limits

    size_is : length (unread x.wire (config old.side x.terms) l (Bytes piece ∷ h)) ≡ (length old.splitter.bytes + old.over) + length piece
    size_is =
        let holds = keeps.kept.holds l at in
        ap length grown ∙ (length-append (unread x.wire (config old.side x.terms) l h) piece
        ∙ ap (λ n. n + length piece)
        (ap length holds.bytes_are ∙ (length-append old.splitter.bytes holds.more ∙ ap (λ n. length old.splitter.bytes + n) (sym holds.count))))

    frame_is : x.limits.frame ≡ old.head.limits.frame
    frame_is = ap (λ l. l.frame) keeps.begun.limits

    may : old.end.marks.closed ≡ false → HasRoomForBytes old (length piece) → MayAlone x old.side h (Bytes piece)
    may opened room = (
      record {
        link = l;
        at = at;
        unclosed = sym (ap (λ m. m.closed) keeps.kept.marks) ∙ opened;
        few = (let r :
            (length old.splitter.bytes + old.over) + length piece ≤ old.head.limits.frame + most_framing = room in let size = size_is in
            let frame = frame_is in omega (arith, r, size, frame));
      },
      tt,
    )

    room : MayAlone x old.side h (Bytes piece) → HasRoomForBytes old (length piece)
    room m =
        let same : m.0.link ≡ l = (let z : Some m.0.link ≡ Some l = sym m.0.at ∙ at in cc) in
        let few : length (unread x.wire (config old.side x.terms) l (Bytes piece ∷ h)) ≤ x.limits.frame + most_framing =
        subst (λ l. length (unread x.wire (config old.side x.terms) l (Bytes piece ∷ h)) ≤ x.limits.frame + most_framing) same m.0.few in
        let size = size_is in let frame = frame_is in omega (arith, few, size, frame)

  small : (x : Setup) (steps : List ToldStep) (h : List ByteStep) → KeepsAlone x steps old h → (count : ℕ) → HasRoomForBytes old (length piece)
      → old.over + (length piece - count) < 2 ^ 64
  small x steps h keeps count fits =
      let r : (length old.splitter.bytes + old.over) + length piece ≤ old.head.limits.frame + most_framing = fits in
      let frame = ap (λ l. l.frame) keeps.begun.limits in let most = keeps.begun.in_range.frame_not_more in omega (arith, r, frame, most)

  -- it has too many bytes unread
  pub feed_broken_bytes : (l : ℕ) → old.end.marks.link ≡ Some l → old.end.marks.closed ≡ false → (HasRoomForBytes old (length piece) → ⊥)
      → JudgesAlone old new (Feed piece) (Some rule.Bytes)
  feed_broken_bytes l here opened none x steps h keeps =
      feed_breaks_bytes x (MayAlone x old.side h) (config old.side x.terms) (frames_alone x old.side h) (clock steps) l
      (at x steps h keeps l here) piece
      (sym (ap (λ m. m.closed) keeps.kept.marks) ∙ opened) (λ m. none (room x steps h keeps l here m))

  -- it is fed
  pub feed_judged : HasOneBeginning → (l : ℕ) → old.end.marks.link ≡ Some l → old.end.marks.closed ≡ false → HasRoomForBytes old (length piece) →
      (count : ℕ) → count ≤ length piece
      → (IsFaulty old.splitter.framing old.splitter.most old.splitter.bytes → count ≡ 0)
      → ((IsFaulty old.splitter.framing old.splitter.most old.splitter.bytes → ⊥) → count ≡ taken_by_feed old.splitter (length piece))
      → new.splitter ≡ after_feed old.splitter (take count piece)
      → (old.over + (length piece - count) < 2 ^ 64 → new.over ≡ old.over + (length piece - count))
      → new.end ≡ record old.end { marks = heard_something old.end.marks }
      → StaysBegun old new old.clock → JudgesAlone old new (Feed piece) None
  feed_judged begins l here opened room count within refused whole fed over end stays x steps h keeps =
      let c = config old.side x.terms in
      let one = is_fed old new.splitter piece count (most_is x steps h keeps l here) room within refused whole fed in
      let kept = keeps.kept in
      let link = at x steps h keeps l here in
      let facts = (known x steps h keeps l here).facts in
      alone_on x steps (Feed piece) old new h (Bytes piece) keeps (record { tells = refl; allowed = may x steps h keeps l here opened room }) stays
      (subst (λ e. KeepsOne x old.side e new.splitter new.over (Bytes piece ∷ h)) (sym end)
      (subst (λ n. KeepsOne x old.side (record old.end { marks = heard_something old.end.marks }) new.splitter n (Bytes piece ∷ h))
      (sym (over (small x steps h keeps count room))) (record {
        marks = ap heard_something kept.marks ∙ ap as_kept (sym ((follow c (frames_alone x old.side h)).fed l _ link (facts.taken_were_fed l)));
        near = subst HasNearNumbers (sym ((follow c (frames_alone x old.side h)).fed l _ link (facts.taken_were_fed l)))
            (near_heard (marks_of c (frames_alone x old.side h)) kept.near);
        sent = kept.sent;
        links = kept.links;
        last = kept.last;
        most = ap (λ s. s.most) fed ∙ kept.most;
        holds = λ m there. let same : l ≡ m = (let z : Some l ≡ Some m = sym link ∙ there in cc) in
            subst (λ m. HoldsBytes new.splitter (old.over + (length piece - count)) (heard_something old.end.marks)
            (unread x.wire c m (Bytes piece ∷ h))) same
            (subst (HoldsBytes new.splitter (old.over + (length piece - count)) (heard_something old.end.marks)) (sym (grown x steps h keeps l here))
            (holds_more begins old.splitter new.splitter old.over count old.end.marks (unread x.wire c l h) piece one (kept.holds l link)));
      })))
