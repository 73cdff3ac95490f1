-- What a frame makes that was read, by what a session remembers, and that the session remembers the step.
use Rattle.std.proofs.Common.{◌≡◌, ℕ, suc, ◌≤◌, Bool, true, false, List, ◌∷◌, length, drop, map, max, Option, Some, None, refl, sym, ap, ◌∙◌, subst, arith}
use Rattle.std.specs.Prelude.{slice_get, option_map, is_some, not, ◌||◌, ◌==◌, if◌then◌else◌}
use Rattle.std.proofs.lemmas.Option.{slice_get_within}
use Rattle.hm_codec.specs.Frames.{framed}
use Rattle.hd_delivery.specs.declared.vocabulary.Got.{Got}
use Rattle.hd_delivery.specs.declared.vocabulary.Got.TheVariants.{Shaken}
use Rattle.hd_delivery.specs.declared.vocabulary.Reason.TheVariants.{Protocol}
use Rattle.hd_delivery.specs.declared.vocabulary.Side.{Side}
use Rattle.hd_delivery.specs.declared.vocabulary.Side.TheVariants.{Client, Server}
use Rattle.hd_delivery.specs.Frames.{LinkFrame, Request, Response, Numbered, Sequence, Close, Unreadable, error_of, count, number}
use Rattle.hd_delivery.specs.Histories.{Config, Fault, EndEvent, Took, Failed, Unread, own_number, present_link, fed_frames, taken_count, read_frames, processed_messages, sent_messages, acked_count, written_place, most_lent, agreed_version, codec_of, is_shaken, is_three, is_resumable, is_closed, is_resumed}
use Rattle.hd_delivery.specs.Due.{answer, farewell}
use Rattle.hd_delivery.specs.Processes.{next_number, reads, reads_handshake, reads_frame, next_frame, processes}
use Rattle.hq_resend.specs.Buffers.{Buffer}
use Rattle.hq_resend.specs.Numbering.{Numbering}
use Rattle.he_end.specs.declared.session.Session.{Session}
use Rattle.he_end.specs.declared.link.Agreed.{Agreed}
use Rattle.he_end.specs.declared.link.Link.{Link}
use Rattle.he_end.specs.Remembers.{Agrees, OfLink, OnLink, HoldsOf, Remembers, after_fault}
use Rattle.he_end.specs.Says.{Awaits}
use Rattle.he_end.proofs.Links.{on_link_map, taken_on, taken_too, counts_on}

-- the step that the next frame makes
pub makes : (c : Config) (k : List EndEvent) (f : LinkFrame) (a : Awaits c k f) → processes c k ≡ Some (reads c k (next_number c k a.link) f)
makes c k f a =
    let one : processes c k ≡ next_frame c k (present_link k) = rw a.live refl in
    let two : next_frame c k (present_link k) ≡ next_frame c k (Some a.link) = ap (next_frame c k) a.at in
    let three : next_frame c k (Some a.link) ≡ Some (reads c k (next_number c k a.link) f) = ap (option_map (reads c k (next_number c k a.link))) a.next in
    one ∙ (two ∙ three)

-- the next frame was fed
pub in_fed : (c : Config) (k : List EndEvent) (f : LinkFrame) (a : Awaits c k f) (l : ℕ) → present_link k ≡ Some l → suc (taken_count l k) ≤ length (fed_frames l k)
in_fed c k f a l p = let g : a.link ≡ l = (let q = a.at in cc) in
    subst (λ j. suc (taken_count j k) ≤ length (fed_frames j k)) g (let w = slice_get_within (fed_frames a.link k) (taken_count a.link k) f a.next in omega arith)

-- what couldn't be read is a fault, before the handshake and after it
pub unread : (c : Config) (k : List EndEvent) (n : Option ℕ) (at : ℕ) (why : List ℕ) → reads c k n (Unreadable at why) ≡ Failed (Unread (own_number k) at why)
unread c k n at why = either (is_shaken k)
  where
    handshake : (side : Side) → reads_handshake side c k (Unreadable at why) ≡ Failed (Unread (own_number k) at why)
    handshake Client = refl
    handshake Server = refl

    either : (b : Bool) → (if b then reads_frame (is_resumable c k) k n (Unreadable at why) else reads_handshake c.side c k (Unreadable at why)) ≡ Failed (Unread (own_number k) at why)
    either true = refl
    either false = handshake c.side

-- a fault of a frame that was read, on whatever link; `next` may have changed before
pub remembers_fault : (c : Config) (s : Session) (k : List EndEvent) (f : LinkFrame) (fault : Fault) (next : Option ℕ) → Remembers c s k → Awaits c k f
    → farewell (Failed fault ∷ k) ≡ Some (Close (error_of Protocol) false) → answer (Failed fault ∷ k) ≡ answer k → (is_shaken k ≡ false → next ≡ s.intake.next)
    → Remembers c (record (after_fault s) { intake = record s.intake { next = next } }) (Failed fault ∷ k)
remembers_fault c s k f fault next r a parts owes early = record {
  side = r.side;
  codec = r.codec;
  version = r.version;
  reconnect = r.reconnect;
  agreed = agreed_still s.agreed r.agreed;
  closed = refl;
  farewell = sym parts;
  answer = rw owes r.answer;
  live = λ e. absurd (cc);
  number = r.number;
  link = on_link_map s.link (present_link k) r.link (λ x l o p h. record {
    first = h.first;
    opened = h.opened;
    said = h.said;
    told = h.told;
    resumed = h.resumed;
    parted = h.parted;
    quiet = h.quiet;
    wrote = h.wrote;
    heard = h.heard;
    within = rw (taken_too fault l k p) (in_fed c k f a l p);
    counted = λ b e. absurd (cc);
    greets = λ b e. absurd (cc);
    alone = λ b e. absurd (cc);
    numbered = λ b b' e. absurd (cc);
  });
  ring = let h = r.ring in record { keeps = h.keeps; sent = h.sent; acked = h.acked; written = h.written; furthest = h.furthest; held = h.held };
  processed = r.processed;
  moment = r.moment;
  begun = r.begun;
  unshaken = λ e. let u = r.unshaken e in let n = early e in (u.0, u.1, n ∙ u.2, u.3);
}
  where
    agreed_still : (o : Option Agreed) → Agrees o c k → Agrees o c (Failed fault ∷ k)
    agreed_still None h = h
    agreed_still (Some x) h = h

-- ---- frames that are taken after the handshake

abbrev pub is_handshake : Got → Bool
is_handshake (Shaken codec version) = true
is_handshake _ = false

-- what was agreed stays
pub record Calm (c : Config) (k : List EndEvent) (got : Got) : Type 0 where
  pub shaken : is_shaken (Took got ∷ k) ≡ is_shaken k
  pub kept : is_resumable c (Took got ∷ k) ≡ is_resumable c k
  pub version : agreed_version (Took got ∷ k) ≡ agreed_version k
  pub codec : codec_of c (Took got ∷ k) ≡ codec_of c k

calm : (c : Config) (k : List EndEvent) (got : Got) → is_handshake got ≡ false → Calm c k got
calm c k (Shaken codec version) e = absurd (cc)
calm c k _ e = record { shaken = refl; kept = refl; version = refl; codec = refl }

-- whether a message is numbered by the count of those processed alone
abbrev pub is_alone : Config → List EndEvent → Bool
is_alone c k = is_three k || not (is_resumable c k)

-- the number that comes next, by the number on the link and how many are processed
abbrev pub next_of : Bool → Option ℕ → ℕ → Option ℕ
next_of alone n p = if alone then (if is_some n then Some (suc p) else None) else n

count_some : (n : Option ℕ) (f : LinkFrame) → is_some n ≡ true → is_some (count n f) ≡ true
count_some None f e = absurd (cc)
count_some (Some n) (Request codec version) e = refl
count_some (Some n) Response e = refl
count_some (Some n) (Sequence first received) e = refl
count_some (Some n) (Numbered m) e = refl
count_some (Some n) _ e = refl

pub awaits_at : (c : Config) (k : List EndEvent) (f : LinkFrame) (a : Awaits c k f) (l : ℕ) → present_link k ≡ Some l → slice_get (fed_frames l k) (taken_count l k) ≡ Some f
awaits_at c k f a l p = let g : a.link ≡ l = (let q = a.at in cc) in subst (λ j. slice_get (fed_frames j k) (taken_count j k) ≡ Some f) g a.next

-- the link, where this number comes next
pub link_took : (c : Config) (s t : Session) (k : List EndEvent) (f : LinkFrame) (got : Got) (x : Link) (l : ℕ) (resumed : Bool) → Awaits c k f → is_shaken k ≡ true → is_handshake got ≡ false
    → present_link k ≡ Some l → OfLink s c k x l → resumed ≡ is_resumed (Took got ∷ k)
    → t.intake.next ≡ next_of (is_alone c k) (count (number (read_frames l k)) f) (length (processed_messages (Took got ∷ k)))
    → OfLink t c (Took got ∷ k) (record x { resumed = resumed }) l
link_took c s t k f got x l resumed a shaken apart p h res next =
    let same = calm c k got apart in
    let at = awaits_at c k f a l p in
    let counts = counts_on got l k f p at in
    let three : is_three (Took got ∷ k) ≡ is_three k = ap (λ v. v == 3) same.version in
    let kept = same.kept in
    record {
      first = h.first;
      opened = h.opened;
      said = λ e. h.said (sym three ∙ e);
      told = h.told;
      resumed = res;
      parted = h.parted;
      quiet = h.quiet;
      wrote = h.wrote;
      heard = h.heard;
      within = rw (taken_on got l k p) (in_fed c k f a l p);
      counted = λ b e. next ∙ sym (λ i. next_of (three i || not (kept i)) (counts i) (length (processed_messages (Took got ∷ k))));
      greets = λ b e. absurd (let z : true ≡ false = sym shaken ∙ (sym same.shaken ∙ b) in cc);
      alone = λ b e. h.alone (sym kept ∙ b) a.live;
      numbered = λ b b' e. ap is_some counts ∙ count_some (number (read_frames l k)) f (h.numbered shaken (sym kept ∙ b') a.live);
    }

pub agreed_took : (o : Option Agreed) (c : Config) (k : List EndEvent) (got : Got) → is_handshake got ≡ false → Agrees o c k → Agrees o c (Took got ∷ k)
agreed_took None c k got e h = let s = calm c k got e in (s.shaken ∙ h.0, s.kept ∙ h.1, ap (λ v. v == 3) s.version ∙ h.2)
agreed_took (Some x) c k got e h = let s = calm c k got e in (s.shaken ∙ h.0, h.1 ∙ sym s.kept, h.2 ∙ sym (ap (λ v. v == 3) s.version))

-- the ring holds the same after a frame that is no Ack
pub holds_took : (b : Buffer) (c : Config) (k : List EndEvent) (got : Got) → is_handshake got ≡ false → acked_count (Took got ∷ k) ≡ acked_count k → HoldsOf b c k → HoldsOf b c (Took got ∷ k)
holds_took b c k got apart acks h = let s = calm c k got apart in record {
  keeps = h.keeps ∙ sym s.kept;
  sent = h.sent;
  acked = h.acked ∙ sym acks;
  written = h.written ∙ sym (ap (λ n. max n (written_place k)) acks);
  furthest = h.furthest;
  held = h.held ∙ sym (λ i. map (framed (s.codec i)) (if s.kept i then drop (acks i) (sent_messages k) else drop (most_lent k) (sent_messages k)));
}

-- a frame after the handshake was taken; the ring, the counter and the link are what they are now
pub remembers_took : (c : Config) (s : Session) (k : List EndEvent) (f : LinkFrame) (got : Got) (over : Bool) (ring : Buffer) (intake : Numbering) (link : Option Link)
    → Remembers c s k → Awaits c k f → is_shaken k ≡ true → is_handshake got ≡ false → over ≡ is_closed c (Took got ∷ k) → HoldsOf ring c (Took got ∷ k)
    → intake.processed ≡ length (processed_messages (Took got ∷ k))
    → OnLink link (present_link k) (OfLink (record s { closed = over; ring = ring; intake = intake; link = link }) c (Took got ∷ k))
    → Remembers c (record s { closed = over; ring = ring; intake = intake; link = link }) (Took got ∷ k)
remembers_took c s k f got over ring intake link r a shaken apart closes holds counts on = let same = calm c k got apart in record {
  side = r.side;
  codec = r.codec ∙ sym same.codec;
  version = r.version;
  reconnect = r.reconnect;
  agreed = agreed_took s.agreed c k got apart r.agreed;
  closed = closes;
  farewell = r.farewell;
  answer = r.answer;
  live = λ e. r.live a.live;
  number = r.number;
  link = on;
  ring = holds;
  processed = counts;
  moment = r.moment;
  begun = λ e. r.begun shaken;
  unshaken = λ e. absurd (let z : true ≡ false = sym shaken ∙ (sym same.shaken ∙ e) in cc);
}

-- the same where the link stays as it is
pub remembers_here : (c : Config) (s : Session) (k : List EndEvent) (f : LinkFrame) (got : Got) (over : Bool) (ring : Buffer) (intake : Numbering)
    → Remembers c s k → Awaits c k f → is_shaken k ≡ true → is_handshake got ≡ false → over ≡ is_closed c (Took got ∷ k) → HoldsOf ring c (Took got ∷ k)
    → intake.processed ≡ length (processed_messages (Took got ∷ k)) → is_resumed (Took got ∷ k) ≡ is_resumed k
    → ((x : Link) (l : ℕ) → OfLink s c k x l → intake.next ≡ next_of (is_alone c k) (count (number (read_frames l k)) f) (length (processed_messages (Took got ∷ k))))
    → Remembers c (record s { closed = over; ring = ring; intake = intake }) (Took got ∷ k)
remembers_here c s k f got over ring intake r a shaken apart closes holds counts res next =
    remembers_took c s k f got over ring intake s.link r a shaken apart closes holds counts
    (on_link_map s.link (present_link k) r.link (λ x l o p h. link_took c s (record s { closed = over; ring = ring; intake = intake }) k f got x l x.resumed a shaken apart p h (h.resumed ∙ sym res) (next x l h)))

-- nothing changes but that the frame was read
pub remembers_read : (c : Config) (s : Session) (k : List EndEvent) (f : LinkFrame) (got : Got)
    → Remembers c s k → Awaits c k f → is_shaken k ≡ true → is_handshake got ≡ false → is_closed c (Took got ∷ k) ≡ is_closed c k → acked_count (Took got ∷ k) ≡ acked_count k
    → processed_messages (Took got ∷ k) ≡ processed_messages k → is_resumed (Took got ∷ k) ≡ is_resumed k
    → ((x : Link) (l : ℕ) → OfLink s c k x l → next_of (is_alone c k) (count (number (read_frames l k)) f) (length (processed_messages k)) ≡ next_of (is_alone c k) (number (read_frames l k)) (length (processed_messages k)))
    → Remembers c s (Took got ∷ k)
remembers_read c s k f got r a shaken apart closes acks counts res next =
    remembers_here c s k f got s.closed s.ring s.intake r a shaken apart (r.closed ∙ sym closes) (holds_took s.ring c k got apart acks r.ring) (r.processed ∙ sym (ap length counts)) res
    (λ x l h. h.counted shaken a.live ∙ (sym (next x l h) ∙ sym (ap (λ ms. next_of (is_alone c k) (count (number (read_frames l k)) f) (length ms)) counts)))
