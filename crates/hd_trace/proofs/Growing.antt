-- What steps make of marks.
use Rattle.std.proofs.Common.{◌≡◌, ℕ, suc, max, ◌≤◌, Bool, true, false, List, [], ◌∷◌, ◌++◌, length, take, Option, Some, None, refl, ap, ◌∙◌, arith, length-append}
use Rattle.std.specs.Prelude.{slice_get, ◌||◌}
use Rattle.hm_message.specs.declared.message.Message.{Message}
use Rattle.hd_delivery.specs.declared.vocabulary.Got.{Got}
use Rattle.hd_delivery.specs.declared.vocabulary.Got.TheVariants as gives
use Rattle.hd_delivery.specs.declared.vocabulary.Got.TheVariants.{Shaken, Acked, Sequenced, Resumed, Skipped}
use Rattle.hd_delivery.specs.declared.vocabulary.Reason.{Reason}
use Rattle.hd_delivery.specs.Frames.{LinkFrame, Request, Response, Refusal, Numbered, Ack, Sequence, Ping, Close, Foreign, Strange, Unreadable, count, number, most_told, told_count}
use Rattle.hd_delivery.specs.Histories.{EndEvent, Config, Attached, Fed, Took, Sent, Lent, Ticked, Closed, present_link, was_on, fed_frames, lent_frames, read_frames, taken_count, sent_messages, processed_messages, acked_count, written_place, most_lent, moment}
use Rattle.hd_delivery.specs.Due.{has_close}
use Rattle.hd_delivery.specs.Processes.{has_frames}
use Rattle.hd_delivery.specs.HistoryLaws.{LinksGrow, FramesCount, UnusedIsUntouched, IsUntouched}
use Rattle.hd_trace.specs.declared.marks.Marks.{Marks}
use Rattle.hd_trace.specs.Marks.{lent_on, read_on, marks_of, attached, heard_something, lent_message, lent, ticked, closed_for, took}
use Rattle.hd_trace.specs.MarkLaws.{Follows}

-- marks with these of what was said and read on the link
abbrev pub on_link : Marks → List LinkFrame → Option ℕ → Marks
on_link m said next = record m { opened = has_frames said; said = number said; reported = most_told said; parted = has_close said; next = next }

some-push : (frames : List LinkFrame) (f : LinkFrame) → has_frames (frames ++ f ∷ []) ≡ true
some-push [] f = refl
some-push (g ∷ frames) f = refl

-- ---- what stays on the link

fed_lent : (o : Option ℕ) (piece : List LinkFrame) (k : List EndEvent) → lent_on o (Fed piece ∷ k) ≡ lent_on o k
fed_lent None piece k = refl
fed_lent (Some l) piece k = refl

took_lent : (o : Option ℕ) (got : Got) (k : List EndEvent) → lent_on o (Took got ∷ k) ≡ lent_on o k
took_lent None got k = refl
took_lent (Some l) got k = refl

ticked_lent : (o : Option ℕ) (now : ℕ) (k : List EndEvent) → lent_on o (Ticked now ∷ k) ≡ lent_on o k
ticked_lent None now k = refl
ticked_lent (Some l) now k = refl

ticked_read : (o : Option ℕ) (now : ℕ) (k : List EndEvent) → read_on o (Ticked now ∷ k) ≡ read_on o k
ticked_read None now k = refl
ticked_read (Some l) now k = refl

sent_lent : (o : Option ℕ) (m : Message) (k : List EndEvent) → lent_on o (Sent m ∷ k) ≡ lent_on o k
sent_lent None m k = refl
sent_lent (Some l) m k = refl

sent_read : (o : Option ℕ) (m : Message) (k : List EndEvent) → read_on o (Sent m ∷ k) ≡ read_on o k
sent_read None m k = refl
sent_read (Some l) m k = refl

closed_lent : (o : Option ℕ) (reason : Reason) (allow : Bool) (k : List EndEvent) → lent_on o (Closed reason allow ∷ k) ≡ lent_on o k
closed_lent None reason allow k = refl
closed_lent (Some l) reason allow k = refl

closed_read : (o : Option ℕ) (reason : Reason) (allow : Bool) (k : List EndEvent) → read_on o (Closed reason allow ∷ k) ≡ read_on o k
closed_read None reason allow k = refl
closed_read (Some l) reason allow k = refl

lent_read : (o : Option ℕ) (f : LinkFrame) (k : List EndEvent) → read_on o (Lent f ∷ k) ≡ read_on o k
lent_read None f k = refl
lent_read (Some l) f k = refl

-- marks once a frame more was said
abbrev pub said_more : Marks → LinkFrame → Marks
said_more m f = record m { opened = true; said = count m.said f; reported = max m.reported (told_count f); parted = (m.parted || has_close (f ∷ [])) }

or_false : (b : Bool) → (b || false) ≡ b
or_false true = refl
or_false false = refl

-- the same marks, with what was said and read written another way
same_link : (m : Marks) (x y : List LinkFrame) (i j : Option ℕ) → x ≡ y → i ≡ j → on_link m x i ≡ on_link m y j
same_link m x y i j d e = ap (λ said. on_link m said i) d ∙ ap (λ next. on_link m y next) e

module _ (grow : LinksGrow) (counts : FramesCount) (untouched : UnusedIsUntouched) (c : Config) (k : List EndEvent) where
  attached_follows : (l now : ℕ) → was_on l k ≡ false → marks_of c (Attached l now ∷ k) ≡ attached l now (marks_of c k)
  attached_follows l now apart = same_link (attached l now (marks_of c k)) (lent_frames l k) [] (number (read_frames l k)) None u.lent
      (ap (λ n. number (take n (fed_frames l k))) u.taken)
    where
      u : IsUntouched l k
      u = untouched k l apart

  fed_follows : (l : ℕ) (piece : List LinkFrame) → present_link k ≡ Some l → taken_count l k ≤ length (fed_frames l k)
      → marks_of c (Fed piece ∷ k) ≡ heard_something (marks_of c k)
  fed_follows l piece at within = same_link (heard_something (marks_of c k)) (lent_on (present_link k) (Fed piece ∷ k)) (lent_on (present_link k) k)
      (number (read_on (present_link k) (Fed piece ∷ k))) (number (read_on (present_link k) k)) (fed_lent (present_link k) piece k)
      (rw at (ap number ((grow k l at).fed piece within)))

  lent_there : (l : ℕ) (f : LinkFrame) → present_link k ≡ Some l → lent_on (present_link k) (Lent f ∷ k) ≡ lent_on (present_link k) k ++ f ∷ []
  lent_there l f at = rw at ((grow k l at).lent f)

  said_push : (m : Marks) (said : List LinkFrame) (f : LinkFrame) (i : Option ℕ) → on_link m (said ++ f ∷ []) i ≡ said_more (on_link m said i) f
  said_push m said f i = let g = counts said f in
      ap (λ b. record m { opened = b; said = number (said ++ f ∷ []); reported = most_told (said ++ f ∷ []); parted = has_close (said ++ f ∷ []); next = i }) (some-push said f)
      ∙ (ap (λ n. record m { opened = true; said = n; reported = most_told (said ++ f ∷ []); parted = has_close (said ++ f ∷ []); next = i }) g.next
      ∙ (ap (λ n. record m { opened = true; said = count (number said) f; reported = n; parted = has_close (said ++ f ∷ []); next = i }) g.told
      ∙ ap (λ b. record m { opened = true; said = count (number said) f; reported = max (most_told said) (told_count f); parted = b; next = i }) g.closes))

  said_there : (m : Marks) (f : LinkFrame) (l : ℕ) → present_link k ≡ Some l → on_link m (lent_on (present_link k) (Lent f ∷ k)) (number (read_on (present_link k) (Lent f ∷ k)))
      ≡ said_more (on_link m (lent_on (present_link k) k) (number (read_on (present_link k) k))) f
  said_there m f l at = same_link m (lent_on (present_link k) (Lent f ∷ k)) (lent_on (present_link k) k ++ f ∷ [])
      (number (read_on (present_link k) (Lent f ∷ k))) (number (read_on (present_link k) k)) (lent_there l f at) (ap number (lent_read (present_link k) f k))
      ∙ said_push m (lent_on (present_link k) k) f (number (read_on (present_link k) k))

  lent_message_follows : (l : ℕ) (m : Message) → present_link k ≡ Some l → marks_of c (Lent (Numbered m) ∷ k) ≡ lent_message (marks_of c k)
  lent_message_follows l m at =
      let base : Marks = record (marks_of c k) { written = suc (max (acked_count k) (written_place k)); furthest = max (suc (max (acked_count k) (written_place k))) (most_lent k); quiet = false; wrote = moment k } in
      let on : Marks = on_link base (lent_on (present_link k) k) (number (read_on (present_link k) k)) in
      said_there base (Numbered m) l at
      ∙ (ap (λ n. record (said_more on (Numbered m)) { reported = n }) (omega arith)
      ∙ ap (λ b. record (said_more on (Numbered m)) { reported = on.reported; parted = b }) (or_false on.parted))

  lent_follows : (l : ℕ) (f : LinkFrame) → present_link k ≡ Some l → marks_of c (Lent f ∷ k) ≡ lent f (marks_of c k)
  lent_follows l (Numbered m) at = lent_message_follows l m at
  lent_follows l (Request codec version) at = said_there (record (marks_of c k) { quiet = false; wrote = moment k }) (Request codec version) l at
  lent_follows l Response at = said_there (record (marks_of c k) { quiet = false; wrote = moment k }) Response l at
  lent_follows l (Refusal text) at = said_there (record (marks_of c k) { quiet = false; wrote = moment k }) (Refusal text) l at
  lent_follows l (Ack upto) at = said_there (record (marks_of c k) { quiet = false; wrote = moment k }) (Ack upto) l at
  lent_follows l (Sequence first received) at = said_there (record (marks_of c k) { quiet = false; wrote = moment k }) (Sequence first received) l at
  lent_follows l Ping at = said_there (record (marks_of c k) { quiet = false; wrote = moment k }) Ping l at
  lent_follows l (Close error allow) at = said_there (record (marks_of c k) { quiet = false; wrote = moment k }) (Close error allow) l at
  lent_follows l (Foreign n) at = said_there (record (marks_of c k) { quiet = false; wrote = moment k }) (Foreign n) l at
  lent_follows l (Strange why text) at = said_there (record (marks_of c k) { quiet = false; wrote = moment k }) (Strange why text) l at
  lent_follows l (Unreadable place why) at = said_there (record (marks_of c k) { quiet = false; wrote = moment k }) (Unreadable place why) l at

  took_follows : (l : ℕ) (f : LinkFrame) (got : Got) → present_link k ≡ Some l → slice_get (fed_frames l k) (taken_count l k) ≡ Some f
      → marks_of c (Took got ∷ k) ≡ took c.reconnect f got (marks_of c k)
  took_follows l f got at next = go got
    where
      counted : (got : Got) → number (read_on (present_link k) (Took got ∷ k)) ≡ count (number (read_on (present_link k) k)) f
      counted got = rw at (ap number ((grow k l at).took got f next) ∙ (counts (read_frames l k) f).next)

      with_got : (got : Got) (m : Marks) → on_link m (lent_on (present_link k) (Took got ∷ k)) (number (read_on (present_link k) (Took got ∷ k)))
          ≡ on_link m (lent_on (present_link k) k) (count (number (read_on (present_link k) k)) f)
      with_got got m = same_link m (lent_on (present_link k) (Took got ∷ k)) (lent_on (present_link k) k)
          (number (read_on (present_link k) (Took got ∷ k))) (count (number (read_on (present_link k) k)) f) (took_lent (present_link k) got k) (counted got)

      go : (got : Got) → marks_of c (Took got ∷ k) ≡ took c.reconnect f got (marks_of c k)
      go (Shaken codec version) = with_got (Shaken codec version) (took c.reconnect f (Shaken codec version) (marks_of c k))
      go (gives.Message m) = with_got (gives.Message m) (marks_of c (Took (gives.Message m) ∷ k)) ∙
          ap (λ n. record (took c.reconnect f (gives.Message m) (marks_of c k)) { processed = n }) (length-append (processed_messages k) (m ∷ []) ∙ omega arith)
      go (Acked n) = with_got (Acked n) (took c.reconnect f (Acked n) (marks_of c k))
      go (Sequenced n) = with_got (Sequenced n) (took c.reconnect f (Sequenced n) (marks_of c k))
      go (Resumed first n) = with_got (Resumed first n) (took c.reconnect f (Resumed first n) (marks_of c k))
      go gives.Ping = with_got gives.Ping (took c.reconnect f gives.Ping (marks_of c k))
      go (Skipped why) = with_got (Skipped why) (took c.reconnect f (Skipped why) (marks_of c k))
      go (gives.Closed error allow) = with_got (gives.Closed error allow) (took c.reconnect f (gives.Closed error allow) (marks_of c k))

  pub follows : Follows c k
  follows = record {
    attached = attached_follows;
    detached = λ now. refl;
    silenced = λ now. refl;
    fed = fed_follows;
    took = took_follows;
    lent = lent_follows;
    ticked = λ now. same_link (ticked now (marks_of c k)) (lent_on (present_link k) (Ticked now ∷ k)) (lent_on (present_link k) k)
        (number (read_on (present_link k) (Ticked now ∷ k))) (number (read_on (present_link k) k)) (ticked_lent (present_link k) now k) (ap number (ticked_read (present_link k) now k));
    sent = λ m. same_link (marks_of c (Sent m ∷ k)) (lent_on (present_link k) (Sent m ∷ k)) (lent_on (present_link k) k)
        (number (read_on (present_link k) (Sent m ∷ k))) (number (read_on (present_link k) k)) (sent_lent (present_link k) m k) (ap number (sent_read (present_link k) m k))
        ∙ ap (λ n. record (marks_of c k) { sent = n }) (length-append (sent_messages k) (m ∷ []) ∙ omega arith);
    closed = λ reason allow. same_link (closed_for reason allow (marks_of c k)) (lent_on (present_link k) (Closed reason allow ∷ k)) (lent_on (present_link k) k)
        (number (read_on (present_link k) (Closed reason allow ∷ k))) (number (read_on (present_link k) k)) (closed_lent (present_link k) reason allow k) (ap number (closed_read (present_link k) reason allow k));
  }
