-- What each frame makes after the handshake: acknowledgements, Sequences and messages, by what a session remembers.
use Rattle.std.proofs.Common.{◌≡◌, ℕ, zero, suc, ◌+◌, ◌-◌, ◌<◌, ◌≤◌, Bool, true, false, List, ◌∷◌, [], ◌++◌, length, length-append, drop, map, max, Option, Some, None, refl, sym, ap, ◌∙◌, subst, arith}
use Rattle.std.specs.Prelude.{ℤ, unwrap_or, is_some, option_map, Result, Ok, Err, IfOk, IfErr, not, ◌||◌, ◌&&◌, ◌==◌, if◌then◌else◌}
use Rattle.std.proofs.lemmas.Bool.{le-leb, lt-leb, or_left, or_right, and_right, and_parts, not-true, not-false, eqb-true, eqb-false}
use Rattle.std.proofs.lemmas.List.{drop-drop}
use Rattle.hm_codec.specs.Frames.{framed}
use Rattle.hm_message.specs.declared.message.Message.{Message}
use Rattle.hd_delivery.specs.declared.vocabulary.Got.{Got}
use Rattle.hd_delivery.specs.declared.vocabulary.Got.TheVariants.{Acked, Sequenced, Resumed, Skipped}
use Rattle.hd_delivery.specs.declared.vocabulary.Got.TheVariants as gives
use Rattle.hd_delivery.specs.declared.vocabulary.Why.TheVariants.{Duplicate, Unknown, BeforeSequence, NotUsed}
use Rattle.hd_delivery.specs.Numbers.{most_messages}
use Rattle.hd_delivery.specs.Frames.{LinkFrame, Numbered, Ack, Sequence, Ping, Close, Foreign, count, one_more, number, received_of}
use Rattle.hd_delivery.specs.Histories.{Config, EndEvent, Took, Failed, AckBeyond, is_this, present_link, first_link, lent_frames, fed_frames, taken_count, read_frames, processed_messages, sent_messages, acked_count, written_place, most_lent, codec_of, is_shaken, is_three, is_resumable, is_closed, is_resumed}
use Rattle.hd_delivery.specs.Histories as of
use Rattle.hd_delivery.specs.Processes.{has_frames, next_number, reads_message, reads_frame, processes}
use Rattle.hq_resend.specs.Buffers.{Buffer, after_ack}
use Rattle.hq_resend.specs.Numbering.{Numbering, counted_as, after_count, past_the_last}
use Rattle.hq_resend.specs.declared.refusals.Gap.{Gap}
use Rattle.hq_resend.specs.declared.intake.Counted.{Counted}
use Rattle.hq_resend.specs.declared.intake.Counted.TheVariants.{Fresh}
use Rattle.hq_resend.specs.declared.intake.Counted.TheVariants.{Duplicate as Again}
use Rattle.he_end.specs.declared.session.Session.{Session}
use Rattle.he_end.specs.declared.link.Link.{Link}
use Rattle.he_end.specs.declared.taking.Refused.{Refused}
use Rattle.he_end.specs.declared.taking.Refused.TheVariants as refused
use Rattle.he_end.proofs.Links.{on_link_mapped, the_link}
use Rattle.he_end.specs.Remembers.{OfLink, HoldsOf, Remembers, next_counted, after_fault, as_resumed, after_resume}
use Rattle.he_end.specs.Says.{Awaits, Makes, is_early, step_counted}
use Rattle.he_end.proofs.Taken.{makes, is_alone, next_of, remembers_took, remembers_here, remembers_read, remembers_fault, holds_took, link_took}

-- the step that a frame makes after the handshake
makes_frame : (c : Config) (k : List EndEvent) (f : LinkFrame) (a : Awaits c k f) → is_shaken k ≡ true → processes c k ≡ Some (reads_frame (is_resumable c k) k (next_number c k a.link) f)
makes_frame c k f a shaken = makes c k f a ∙ rw shaken refl

-- the number that comes next where nothing is counted
plain_next : (c : Config) (s : Session) (k : List EndEvent) (f : LinkFrame) (x : Link) (l : ℕ) → is_shaken k ≡ true → is_resumable c k ≡ false → is_closed c k ≡ false → OfLink s c k x l
    → is_some (count (number (read_frames l k)) f) ≡ true
    → next_of (is_alone c k) (count (number (read_frames l k)) f) (length (processed_messages k)) ≡ next_of (is_alone c k) (number (read_frames l k)) (length (processed_messages k))
plain_next c s k f x l shaken plain live h some =
    rw (or_right (is_three k) (not (is_resumable c k)) (ap not plain), some, h.numbered shaken plain live) refl

-- ---- acknowledgements

pub ack_unused : (c : Config) (s : Session) (k : List EndEvent) (upto : ℕ) → Remembers c s k → is_shaken k ≡ true → Awaits c k (Ack upto) → is_resumable c k ≡ false
    → (processes c k ≡ Some (Took (Skipped NotUsed))) × Remembers c s (Took (Skipped NotUsed) ∷ k)
ack_unused c s k upto r shaken a plain = (
  makes_frame c k (Ack upto) a shaken ∙ rw plain refl,
  remembers_read c s k (Ack upto) (Skipped NotUsed) r a shaken refl refl refl refl refl (λ x l h. refl),
)

map-drop : {A B : Type 0} (g : A → B) (n : ℕ) (xs : List A) → drop n (map g xs) ≡ map g (drop n xs)
map-drop g zero xs = refl
map-drop g (suc n) [] = refl
map-drop g (suc n) (x ∷ xs) = map-drop g n xs

holds_acked : (b : Buffer) (c : Config) (k : List EndEvent) (got : Got) (n : ℕ) → HoldsOf b c k → is_resumable c k ≡ true → acked_count (Took got ∷ k) ≡ max n (acked_count k)
    → is_resumable c (Took got ∷ k) ≡ is_resumable c k → codec_of c (Took got ∷ k) ≡ codec_of c k → HoldsOf (after_ack b n) c (Took got ∷ k)
holds_acked b c k got n h kept acks same codec = let a = h.acked in let w = h.written in record {
  keeps = h.keeps ∙ sym same;
  sent = h.sent;
  acked = rw acks (omega arith);
  written = rw acks (omega arith);
  furthest = h.furthest;
  held = rw (h.keeps ∙ kept, same ∙ kept, codec, acks) (
      ap (drop (n - b.acked)) (h.held ∙ rw kept refl)
      ∙ (map-drop (framed (codec_of c k)) (n - b.acked) (drop (acked_count k) (sent_messages k))
      ∙ ap (map (framed (codec_of c k))) (drop-drop (n - b.acked) (acked_count k) (sent_messages k) ∙ ap (λ i. drop i (sent_messages k)) (omega arith))));
}

pub ack_read : (c : Config) (s : Session) (k : List EndEvent) (upto : ℕ) → Remembers c s k → is_shaken k ≡ true → Awaits c k (Ack upto) → is_resumable c k ≡ true → upto ≤ s.ring.furthest
    → (processes c k ≡ Some (Took (Acked upto))) × Remembers c (record s { ring = after_ack s.ring upto }) (Took (Acked upto) ∷ k)
ack_read c s k upto r shaken a kept few = let most = r.ring.furthest in (
  makes_frame c k (Ack upto) a shaken ∙ rw (kept, le-leb upto (most_lent k) (omega arith)) refl,
  remembers_here c s k (Ack upto) (Acked upto) s.closed (after_ack s.ring upto) s.intake r a shaken refl r.closed (holds_acked s.ring c k (Acked upto) upto r.ring kept refl refl refl) r.processed refl
      (λ x l h. h.counted shaken a.live),
)

pub ack_beyond : (c : Config) (s : Session) (k : List EndEvent) (upto : ℕ) → Remembers c s k → is_shaken k ≡ true → Awaits c k (Ack upto) → is_resumable c k ≡ true → s.ring.furthest < upto
    → (processes c k ≡ Some (Failed (AckBeyond upto s.ring.furthest))) × Remembers c (after_fault s) (Failed (AckBeyond upto s.ring.furthest) ∷ k)
ack_beyond c s k upto r shaken a kept more = let most = r.ring.furthest in (
  makes_frame c k (Ack upto) a shaken ∙ rw (kept, most, lt-leb upto (most_lent k) (omega arith)) refl,
  remembers_fault c s k (Ack upto) (AckBeyond upto s.ring.furthest) s.intake.next r a refl refl (λ e. refl),
)

-- ---- Sequences

pub sequence_unused : (c : Config) (s : Session) (k : List EndEvent) (first : ℕ) (told : Option ℕ) → Remembers c s k → is_shaken k ≡ true → Awaits c k (Sequence first told) → is_resumable c k ≡ false
    → (processes c k ≡ Some (Took (Skipped NotUsed))) × Remembers c s (Took (Skipped NotUsed) ∷ k)
sequence_unused c s k first told r shaken a plain = (
  makes_frame c k (Sequence first told) a shaken ∙ rw plain refl,
  remembers_read c s k (Sequence first told) (Skipped NotUsed) r a shaken refl refl refl refl refl (λ x l h. plain_next c s k (Sequence first told) x l shaken plain a.live h refl),
)

pub sequence_gap : (c : Config) (s : Session) (k : List EndEvent) (first : ℕ) (told : Option ℕ) → Remembers c s k → is_shaken k ≡ true → Awaits c k (Sequence first told) → is_resumable c k ≡ true
    → suc s.intake.processed < first
    → (processes c k ≡ Some (Failed (of.Gap first (suc s.intake.processed)))) × Remembers c (after_fault s) (Failed (of.Gap first (suc s.intake.processed)) ∷ k)
sequence_gap c s k first told r shaken a kept more = let p = r.processed in (
  makes_frame c k (Sequence first told) a shaken ∙ rw (kept, p, lt-leb first (suc (length (processed_messages k))) (omega arith)) refl,
  remembers_fault c s k (Sequence first told) (of.Gap first (suc s.intake.processed)) s.intake.next r a refl refl (λ e. refl),
)

pub sequence_read : (c : Config) (s : Session) (k : List EndEvent) (first : ℕ) (told : Option ℕ) → Remembers c s k → is_shaken k ≡ true → Awaits c k (Sequence first told) → is_resumable c k ≡ true
    → is_three k ≡ false → first ≤ suc s.intake.processed
    → (processes c k ≡ Some (Took (Sequenced first))) × Remembers c (record s { intake = record s.intake { next = Some first } }) (Took (Sequenced first) ∷ k)
sequence_read c s k first told r shaken a kept three few = let p = r.processed in (
  makes_frame c k (Sequence first told) a shaken ∙ rw (kept, le-leb first (suc (length (processed_messages k))) (omega arith), three) refl,
  remembers_here c s k (Sequence first told) (Sequenced first) s.closed s.ring (record s.intake { next = Some first }) r a shaken refl r.closed
      (holds_took s.ring c k (Sequenced first) refl refl r.ring) r.processed refl (λ x l h. rw (three, kept) refl),
)

-- at version 3
pub resume_beyond : (c : Config) (s : Session) (k : List EndEvent) (first : ℕ) (told : Option ℕ) (received : ℕ) → Remembers c s k → is_shaken k ≡ true → Awaits c k (Sequence first told) → is_resumable c k ≡ true
    → is_three k ≡ true → first ≤ suc s.intake.processed → received ≡ received_of told → s.ring.furthest < received
    → (processes c k ≡ Some (Failed (AckBeyond received s.ring.furthest)))
    × Remembers c (after_fault (record s { intake = record s.intake { next = Some first } })) (Failed (AckBeyond received s.ring.furthest) ∷ k)
resume_beyond c s k first told received r shaken a kept three few tells more = let p = r.processed in let most = r.ring.furthest in (
  makes_frame c k (Sequence first told) a shaken
      ∙ rw (kept, le-leb first (suc (length (processed_messages k))) (omega arith), three, ← tells, most, lt-leb received (most_lent k) (omega arith)) refl,
  remembers_fault c s k (Sequence first told) (AckBeyond received s.ring.furthest) (Some first) r a refl refl (λ e. absurd (cc)),
)

pub resume_read : (c : Config) (s : Session) (k : List EndEvent) (first : ℕ) (told : Option ℕ) (received : ℕ) → Remembers c s k → is_shaken k ≡ true → Awaits c k (Sequence first told) → is_resumable c k ≡ true
    → is_three k ≡ true → first ≤ suc s.intake.processed → received ≡ received_of told → received ≤ s.ring.furthest
    → (processes c k ≡ Some (Took (Resumed first received))) × Remembers c (after_resume s received) (Took (Resumed first received) ∷ k)
resume_read c s k first told received r shaken a kept three few tells within = let p = r.processed in let most = r.ring.furthest in (
  makes_frame c k (Sequence first told) a shaken
      ∙ rw (kept, le-leb first (suc (length (processed_messages k))) (omega arith), three, ← tells, le-leb received (most_lent k) (omega arith)) refl,
  remembers_took c s k (Sequence first told) (Resumed first received) s.closed (after_ack s.ring received) (record s.intake { next = Some (suc s.intake.processed) })
      (option_map as_resumed s.link) r a shaken refl r.closed
      (holds_acked s.ring c k (Resumed first received) received r.ring kept refl refl refl) r.processed
      (on_link_mapped as_resumed s.link (present_link k) (OfLink s c k) (OfLink (after_resume s received) c (Took (Resumed first received) ∷ k)) r.link (λ x l o at h.
      link_took c s (after_resume s received) k (Sequence first told) (Resumed first received) x l true a shaken refl at h refl (rw three (ap (λ n. Some (suc n)) r.processed)))),
)

-- a Sequence at version 3 whose number leaves no message out, after it was noted
pub resumes : (c : Config) (s t : Session) (k : List EndEvent) (first : ℕ) (told : Option ℕ) (received : ℕ) (intake : Numbering) (result : Result Got Refused)
    → Remembers c s k → is_shaken k ≡ true → Awaits c k (Sequence first told) → is_resumable c k ≡ true → is_three k ≡ true → first ≤ suc s.intake.processed → received ≡ received_of told
    → intake ≡ record s.intake { next = Some first }
    → IfOk result (λ got. (got ≡ Resumed first received) × (received ≤ s.ring.furthest) × (t ≡ after_resume (record s { intake = intake }) received))
    → IfErr result (λ e. (e ≡ refused.AckBeyond (record { got = received; most = s.ring.furthest })) × (s.ring.furthest < received) × (t ≡ after_fault (record s { intake = intake })))
    → Makes c t k result
resumes c s t k first told received intake (Ok got) r shaken a kept three few tells same ok err = rw (ok.0, ok.2, same) (resume_read c s k first told received r shaken a kept three few tells ok.1)
resumes c s t k first told received intake (Err e) r shaken a kept three few tells same ok err = rw (err.0, err.2, same) (resume_beyond c s k first told received r shaken a kept three few tells err.1)

-- ---- what isn't numbered

pub ping_read : (c : Config) (s : Session) (k : List EndEvent) → Remembers c s k → is_shaken k ≡ true → Awaits c k Ping → (processes c k ≡ Some (Took gives.Ping)) × Remembers c s (Took gives.Ping ∷ k)
ping_read c s k r shaken a = (makes_frame c k Ping a shaken, remembers_read c s k Ping gives.Ping r a shaken refl refl refl refl refl (λ x l h. refl))

pub close_read : (c : Config) (s : Session) (k : List EndEvent) (error : Option (List ℕ)) (allow : Bool) → Remembers c s k → is_shaken k ≡ true → Awaits c k (Close error allow)
    → (processes c k ≡ Some (Took (gives.Closed error allow))) × Remembers c (record s { closed = true }) (Took (gives.Closed error allow) ∷ k)
close_read c s k error allow r shaken a = (
  makes_frame c k (Close error allow) a shaken,
  remembers_here c s k (Close error allow) (gives.Closed error allow) true s.ring s.intake r a shaken refl refl (holds_took s.ring c k (gives.Closed error allow) refl refl r.ring) r.processed refl
      (λ x l h. h.counted shaken a.live),
)

pub foreign_read : (c : Config) (s : Session) (k : List EndEvent) (n : ℤ) → Remembers c s k → is_shaken k ≡ true → Awaits c k (Foreign n)
    → (processes c k ≡ Some (Took (Skipped (Unknown n)))) × Remembers c s (Took (Skipped (Unknown n)) ∷ k)
foreign_read c s k n r shaken a = (makes_frame c k (Foreign n) a shaken, remembers_read c s k (Foreign n) (Skipped (Unknown n)) r a shaken refl refl refl refl refl (λ x l h. refl))

-- ---- messages

and_true : (b : Bool) → (b && true) ≡ b
and_true true = refl
and_true false = refl

pub message_early : (c : Config) (s : Session) (k : List EndEvent) (m : Message) → Remembers c s k → is_shaken k ≡ true → (a : Awaits c k (Numbered m)) → is_early k a.link ≡ true
    → (processes c k ≡ Some (Took (Skipped BeforeSequence))) × Remembers c s (Took (Skipped BeforeSequence) ∷ k)
message_early c s k m r shaken a early = (
  makes_frame c k (Numbered m) a shaken ∙ ap (λ n. Some (reads_message (length (processed_messages k)) n m)) none,
  remembers_read c s k (Numbered m) (Skipped BeforeSequence) r a shaken refl refl refl refl refl (λ x l h. rw three (one_more_alone (number (read_frames l k)) (length (processed_messages k)))),
)
  where
    three : is_three k ≡ true
    three = (and_parts (is_three k) (not (is_this a.link (first_link k) || has_frames (lent_frames a.link k))) early).0

    waits : (is_this a.link (first_link k) || has_frames (lent_frames a.link k)) ≡ false
    waits = not-true (is_this a.link (first_link k) || has_frames (lent_frames a.link k)) (and_parts (is_three k) (not (is_this a.link (first_link k) || has_frames (lent_frames a.link k))) early).1

    one_more_alone : (n : Option ℕ) (p : ℕ) → next_of true (one_more n) p ≡ next_of true n p
    one_more_alone None p = refl
    one_more_alone (Some n) p = refl

    none : next_number c k a.link ≡ None
    none = rw (three, waits, and_right (is_some (number (read_frames a.link k))) false refl) refl

-- a count that leaves messages out is a fault
abbrev pub refused_as : Result Counted Gap → Result Counted Refused
refused_as (Ok counted) = Ok counted
refused_as (Err gap) = Err (refused.Gap gap)

-- what the session is then
abbrev pub after_counted : Session → Numbering → Result Counted Gap → Session
after_counted s i (Ok counted) = record s { intake = i }
after_counted s i (Err gap) = after_fault (record s { intake = i })

reads_counted : (p : ℕ) (o : Option ℕ) (m : Message) → reads_message p o m ≡ step_counted m (refused_as (counted_as p o))
reads_counted p None m = refl
reads_counted p (Some n) m = go (n == suc most_messages) (n == suc p)
  where
    go : (past next : Bool) → (if past then Failed (of.Gap (most_messages + 1) most_messages) else (if next then Took (gives.Message m) else Took (Skipped (Duplicate n))))
        ≡ step_counted m (refused_as (if past then Err past_the_last else (if next then Ok (Fresh n) else Ok (Again n))))
    go true next = refl
    go false true = refl
    go false false = refl

-- the number that the session has for the next message is that of the link
number_is : (c : Config) (s : Session) (k : List EndEvent) (m : Message) → Remembers c s k → is_shaken k ≡ true → (a : Awaits c k (Numbered m))
    → is_early k a.link ≡ false → next_number c k a.link ≡ s.intake.next
number_is c s k m r shaken a timely = let there = the_link s.link (present_link k) a.link (OfLink s c k) r.link a.at in let h = there.1.1 in
    cases (is_three k) (is_resumable c k) refl refl h ∙ sym (h.counted shaken a.live)
  where
    may : Bool
    may = is_this a.link (first_link k) || has_frames (lent_frames a.link k)

    opened : (alone : Bool) → may ≡ true → (if alone then (if is_some (number (read_frames a.link k)) && may then Some (suc (length (processed_messages k))) else None) else number (read_frames a.link k))
        ≡ next_of alone (number (read_frames a.link k)) (length (processed_messages k))
    opened alone e = rw (e, and_true (is_some (number (read_frames a.link k)))) refl

    cases : (three kept : Bool) → is_three k ≡ three → is_resumable c k ≡ kept → OfLink s c k (the_link s.link (present_link k) a.link (OfLink s c k) r.link a.at).0 a.link
        → next_number c k a.link ≡ next_counted c k a.link
    cases true kept e f h = opened (is_alone c k) (not-false may (subst (λ b. (b && not may) ≡ false) e timely))
    cases false true e f h = rw (e, f) refl
    cases false false e f h = opened (is_alone c k) (or_left (is_this a.link (first_link k)) (has_frames (lent_frames a.link k)) (sym h.first ∙ h.alone f a.live))

next_early : (alone : Bool) (num : Option ℕ) (p : ℕ) → next_of alone num p ≡ None → next_of alone (one_more num) p ≡ next_of alone num p
next_early true None p e = refl
next_early true (Some n) p e = refl
next_early false None p e = refl
next_early false (Some n) p e = absurd (cc)

next_fresh : (alone : Bool) (num : Option ℕ) (n p q : ℕ) → Some n ≡ next_of alone num p → n ≡ suc p → q ≡ n → Some (suc n) ≡ next_of alone (one_more num) q
next_fresh true None n p q e f g = absurd (cc)
next_fresh true (Some m) n p q e f g = ap (λ i. Some (suc i)) (sym g)
next_fresh false num n p q e f g = ap one_more e

next_again : (alone : Bool) (num : Option ℕ) (n p : ℕ) → Some n ≡ next_of alone num p → (n ≡ suc p → ⊥) → Some (suc n) ≡ next_of alone (one_more num) p
next_again true None n p e f = absurd (cc)
next_again true (Some m) n p e f = absurd (f (let g : n ≡ suc p = cc in g))
next_again false num n p e f = ap one_more e

remembers_counted : (c : Config) (s : Session) (k : List EndEvent) (m : Message) (o : Option ℕ) → Remembers c s k → is_shaken k ≡ true → Awaits c k (Numbered m) → s.intake.next ≡ o
    → Remembers c (after_counted s (after_count s.intake o) (counted_as s.intake.processed o)) (step_counted m (refused_as (counted_as s.intake.processed o)) ∷ k)
remembers_counted c s k m None r shaken a is =
    remembers_read c s k (Numbered m) (Skipped BeforeSequence) r a shaken refl refl refl refl refl
    (λ x l h. next_early (is_alone c k) (number (read_frames l k)) (length (processed_messages k)) (sym (h.counted shaken a.live) ∙ is))
remembers_counted c s k m (Some n) r shaken a is = go (n == suc most_messages) (n == suc s.intake.processed) refl refl
  where
    at_link : (x : Link) (l : ℕ) → OfLink s c k x l → Some n ≡ next_of (is_alone c k) (number (read_frames l k)) s.intake.processed
    at_link x l h = sym is ∙ (h.counted shaken a.live ∙ sym (ap (next_of (is_alone c k) (number (read_frames l k))) r.processed))

    grown : n ≡ suc s.intake.processed → n ≡ length (processed_messages k ++ m ∷ [])
    grown e = let p = r.processed in omega (arith, e, p, length-append (processed_messages k) (m ∷ []))

    made : Bool → Bool → Result Counted Gap
    made past next = if past then Err past_the_last else (if next then Ok (Fresh n) else Ok (Again n))

    intake : Bool → Bool → Numbering
    intake past next = if past then s.intake else record { processed = if next then n else s.intake.processed; next = Some (suc n) }

    go : (past next : Bool) → (n == suc most_messages) ≡ past → (n == suc s.intake.processed) ≡ next
        → Remembers c (after_counted s (intake past next) (made past next)) (step_counted m (refused_as (made past next)) ∷ k)
    go true next e f = remembers_fault c s k (Numbered m) (of.Gap (suc most_messages) most_messages) s.intake.next r a refl refl (λ z. refl)
    go false true e f = let is_next : n ≡ suc s.intake.processed = eqb-true n (suc s.intake.processed) f in
        remembers_here c s k (Numbered m) (gives.Message m) s.closed s.ring (record { processed = n; next = Some (suc n) }) r a shaken refl r.closed
        (holds_took s.ring c k (gives.Message m) refl refl r.ring) (grown is_next) refl
        (λ x l h. next_fresh (is_alone c k) (number (read_frames l k)) n s.intake.processed (length (processed_messages k ++ m ∷ [])) (at_link x l h) is_next (sym (grown is_next)))
    go false false e f =
        remembers_here c s k (Numbered m) (Skipped (Duplicate n)) s.closed s.ring (record { processed = s.intake.processed; next = Some (suc n) }) r a shaken refl r.closed
        (holds_took s.ring c k (Skipped (Duplicate n)) refl refl r.ring) r.processed refl
        (λ x l h. next_again (is_alone c k) (number (read_frames l k)) n s.intake.processed (at_link x l h) (eqb-false n (suc s.intake.processed) f)
        ∙ ap (next_of (is_alone c k) (one_more (number (read_frames l k)))) r.processed)

-- a message, counted
pub message_read : (c : Config) (s : Session) (k : List EndEvent) (m : Message) (result : Result Counted Gap) → Remembers c s k → is_shaken k ≡ true → (a : Awaits c k (Numbered m))
    → is_early k a.link ≡ false → result ≡ counted_as s.intake.processed s.intake.next
    → (processes c k ≡ Some (step_counted m (refused_as result))) × Remembers c (after_counted s (after_count s.intake s.intake.next) result) (step_counted m (refused_as result) ∷ k)
message_read c s k m result r shaken a timely is = rw is (
  makes_frame c k (Numbered m) a shaken
      ∙ ((λ i. Some (reads_message (sym r.processed i) (number_is c s k m r shaken a timely i) m)) ∙ ap Some (reads_counted s.intake.processed s.intake.next m)),
  remembers_counted c s k m s.intake.next r shaken a refl,
)

-- what was counted so
pub counted_so : (c : Config) (t : Session) (k : List EndEvent) (m : Message) (q p : Result Counted Refused) → q ≡ p
    → (processes c k ≡ Some (step_counted m q)) × Remembers c t (step_counted m q ∷ k) → (processes c k ≡ Some (step_counted m p)) × Remembers c t (step_counted m p ∷ k)
counted_so c t k m q p e made = subst (λ x. (processes c k ≡ Some (step_counted m x)) × Remembers c t (step_counted m x ∷ k)) e made

-- what isn't told counts as 0
pub told_is : (o : Option ℕ) → unwrap_or o 0 ≡ received_of o
told_is None = refl
told_is (Some n) = refl
