-- What one lane writes is heard by another, whatever calls come between.
use Rattle.std.proofs.Common.{◌≡◌, ◌⊎◌, ℕ, ◌+◌, ◌≤◌, ◌%◌, ◌^◌, Bool, true, false, List, [], ◌∷◌, ◌++◌, length, drop, map, All, Option, None, Some, Ok, refl, sym, ap, subst, inl, inr, arith, append_assoc, append-nil, ◌∙◌}
use Rattle.std.specs.Prelude.{is_some, IsUtf8}
use Rattle.std.proofs.lemmas.List.{drop_at, drop-append-le}
use Rattle.std.proofs.lemmas.List.Elements.{All-head, All-tail}
use Rattle.websocket.specs.declared.protocol.config.Role.{Role}
use Rattle.websocket.specs.declared.protocol.frame.coding.CloseCode.{CloseCode}
use Rattle.websocket.specs.declared.protocol.frame.codec.FrameStatus.TheVariants.{Partial, Complete}
use Rattle.websocket.specs.Connection.{Connection, Effect, consumed_with, read_step, whole_header, has_allowed_code, on_close, on_control, on_frame}
use Rattle.websocket.specs.Content.{pong}
use Rattle.websocket.proofs.DecodeLemmas.{ltb_false}
use Rattle.websocket.proofs.FrameLemmas.{Waits}
use Rattle.websocket.proofs.StreamLemmas.{read_step-encode_frame, TookFrame_from_read}
use Rattle.hw_socket.specs.declared.vocabulary.Ending.{Ending}
use Rattle.hw_socket.specs.declared.vocabulary.Ending.TheVariants as Why
use Rattle.hw_socket.specs.declared.vocabulary.SocketSide.{SocketSide}
use Rattle.hw_socket.specs.declared.vocabulary.SocketRead.TheVariants.{Payload, NotYet, Gone}
use Rattle.hw_socket.specs.declared.vocabulary.TheConstants.{MOST_MESSAGE}
use Rattle.hw_socket.specs.Calls.{Call, Feed, Read, FailedRead, Send, Drop, Shut, Session, fed, heard}
use Rattle.hw_socket.specs.Lane.{Lane, fresh_lane}
use Rattle.hw_socket.specs.Masks.{mask_of, with_mask}
use Rattle.hw_socket.specs.Messages.{content, role_of, Carries, IsSilent, closes}
use Rattle.hw_socket.specs.Reading.{Passes, Takes, after_taking}
use Rattle.hw_socket.specs.Sending.{Sent}
use Rattle.hw_socket.specs.Sessions.{IsShortEnough, IsFair, IsHeardInSession}
use Rattle.hw_socket.specs.Streams.{Frame, Message, Pong, Close, outgoing, stream, messages, IsControlPayload, IsClosePayload, AreLegal, close_of}
use Rattle.hw_socket.proofs.Endings.{not_both, one_cause, after_drop, ends_once, none_heard}
use Rattle.hw_socket.proofs.Sessions.{AreOpposite, IsTaken, idle, gives, same_step, header_taken, takes_frame, nothing_waits, front_nil, waits_or_is, carries, one_payload, not_silent, not_closing, said_as_frame}
use Rattle.hw_socket.proofs.Takings.{silent_stays}
use Rattle.hw_socket.proofs.Writing.{wrote}

-- ---- one frame

-- what a frame does to a connection between messages
abbrev Fits : Connection → Frame → Effect → Type 0
Fits conn (Message m) effect = effect ≡ gives conn m
Fits conn (Pong payload) effect = effect ≡ record { message = Some (pong payload); reply = None; next = conn }
Fits conn (Close payload) effect = closes effect.message ≡ true

abbrev IsLegal : Frame → Type 0
IsLegal (Message m) = (m.is_text ≡ true → IsUtf8 m.bytes) × (length m.bytes ≤ MOST_MESSAGE)
IsLegal (Pong payload) = IsControlPayload payload
IsLegal (Close payload) = IsClosePayload payload

-- a frame is taken by itself: the effect is the frame's
abbrev Reads : Role → Option (List ℕ) → Frame → List ℕ → Type 0
Reads role mask frame rest =
    (effect : Effect) × (read_step (idle role MOST_MESSAGE) (with_mask mask (outgoing frame) ++ rest) ≡ Ok (Complete (length (with_mask mask (outgoing frame)), effect)))
    × Fits (idle role MOST_MESSAGE) frame effect

reads_close : (role : Role) (payload : List ℕ) (reason : Option (CloseCode × List ℕ)) (allowed : Bool) → has_allowed_code reason ≡ allowed
    → (effect : Effect) × (on_close (idle role MOST_MESSAGE) payload (Ok reason) ≡ Ok effect) × (closes effect.message ≡ true)
reads_close role payload reason true code = rw code (_, refl, refl)
reads_close role payload reason false code = rw code (_, refl, refl)

reads : (role : Role) (mask : Option (List ℕ)) (frame : Frame) (rest : List ℕ) → IsTaken role mask → IsLegal frame → Reads role mask frame rest
unfolding on_frame on_control
reads role mask (Message m) rest taken legal = (gives (idle role MOST_MESSAGE) m, takes_frame role MOST_MESSAGE mask m rest (omega arith) taken (legal.1, legal.0), refl)
reads role mask (Pong payload) rest taken legal = (
  _,
  read_step-encode_frame (idle role MOST_MESSAGE) (whole_header (outgoing (Pong payload)).opcode mask) payload rest (record { mask = taken.1; top_bit_clear = omega (arith, legal) })
      ∙ rw (ltb_false MOST_MESSAGE (length payload) (omega (arith, legal)), header_taken role MOST_MESSAGE (outgoing (Pong payload)) mask taken, ltb_false 125 (length payload) legal) refl,
  refl,
)
reads role mask (Close payload) rest taken (short, (reason, decodes)) =
    let (effect, does, ends) = reads_close role payload reason _ refl in (
      effect,
      read_step-encode_frame (idle role MOST_MESSAGE) (whole_header (outgoing (Close payload)).opcode mask) payload rest (record { mask = taken.1; top_bit_clear = omega (arith, short) })
          ∙ rw (ltb_false MOST_MESSAGE (length payload) (omega (arith, short)), header_taken role MOST_MESSAGE (outgoing (Close payload)) mask taken, ltb_false 125 (length payload) short, decodes) (ap (consumed_with (length (with_mask mask (outgoing (Close payload))))) does),
      ends,
    )

-- ---- what stands in front

-- the lane listens: it isn't gone and is between messages
record Listens (to : SocketSide) (lane : Lane) : Type 0 where
  here : lane.ending ≡ None
  conn : lane.conn ≡ idle (role_of to) MOST_MESSAGE

-- these frames are still to be read: what is unread, and then what is still to come
record Awaits (from : SocketSide) (unread more : List ℕ) (n : ℕ) (frames : List Frame) : Type 0 where
  stream_is : unread ++ more ≡ stream from n frames
  legal : AreLegal frames
  short : All IsShortEnough (messages frames)

-- a frame stands in front of the unread bytes
record Coming (from to : SocketSide) (n : ℕ) (unread more : List ℕ) (frames : List Frame) : Type 0 where
  frame : Frame
  later : List Frame
  is : frames ≡ frame ∷ later
  size : ℕ
  effect : Effect
  finds : read_step (idle (role_of to) MOST_MESSAGE) unread ≡ Ok (Complete (size, effect))
  fits : Fits (idle (role_of to) MOST_MESSAGE) frame effect
  left : drop size unread ++ more ≡ stream from ((n + 1) % 2 ^ 64) later

first_legal : (frame : Frame) (frames : List Frame) → AreLegal (frame ∷ frames) → All IsShortEnough (messages (frame ∷ frames)) → IsLegal frame
first_legal (Message m) frames legal short = (legal.0, All-head IsShortEnough m (messages frames) short)
first_legal (Pong payload) frames legal short = legal.0
first_legal (Close payload) frames legal short = legal.0

next_frame : (from to : SocketSide) → AreOpposite from to → (n : ℕ) (unread more : List ℕ) (frames : List Frame) → Awaits from unread more n frames
    → Waits (read_step (idle (role_of to) MOST_MESSAGE) unread) ⊎ Coming from to n unread more frames
next_frame from to opposite n unread more [] awaits = rw (front_nil unread more awaits.stream_is) (inl (nothing_waits (role_of to) MOST_MESSAGE))
next_frame from to opposite n unread more (frame ∷ frames) awaits =
    let bytes = with_mask (mask_of from n) (outgoing frame) in
    let rest = stream from ((n + 1) % 2 ^ 64) frames in
    let conn = idle (role_of to) MOST_MESSAGE in
    let (effect, takes, fits) = reads (role_of to) (mask_of from n) frame rest (opposite n) (first_legal frame frames awaits.legal awaits.short) in
    let p : ℕ × Effect = (length bytes, effect) in
    let whole : read_step conn (unread ++ more) ≡ Ok (Complete p) = rw awaits.stream_is takes in
    elim (waits_or_is conn unread more p _ refl whole) [
      | inl w ↦ inl w
      | inr found ↦
          let took = TookFrame_from_read conn unread p found in
          inr (record {
            frame = frame;
            later = frames;
            is = refl;
            size = length bytes;
            effect = effect;
            finds = found;
            fits = fits;
            left = sym (drop-append-le (length bytes) unread more took.inside) ∙ ap (drop (length bytes)) awaits.stream_is ∙ drop_at bytes rest (length bytes) refl;
          })
    ]

-- ---- what the answers tell of the frame in front

-- the frame in front was taken, and showed these payloads
record Took (conn : Connection) (effect : Effect) (frames later : List Frame) (payloads : List (List ℕ)) : Type 0 where
  next : effect.next ≡ conn
  all : map (λ (m : Sent). m.bytes) (messages frames) ≡ payloads ++ map (λ (m : Sent). m.bytes) (messages later)
  closed : close_of frames ≡ close_of later
  legal : AreLegal later
  short : All IsShortEnough (messages later)

after_silent : (conn : Connection) (frame : Frame) (frames later : List Frame) (effect : Effect) → frames ≡ frame ∷ later → AreLegal frames → All IsShortEnough (messages frames)
    → Fits conn frame effect → IsSilent effect.message → Took conn effect frames later []
after_silent conn (Message m) frames later effect is legal short fits quiet = absurd (not_silent (Some (content m.is_text m.bytes)) m.bytes (carries m.is_text m.bytes) (rw fits at quiet))
after_silent conn (Pong payload) frames later effect is legal short fits quiet =
    record { next = rw fits refl; all = rw is refl; closed = rw is refl; legal = (rw is at legal).1; short = rw is at short }
after_silent conn (Close payload) frames later effect is legal short fits quiet = absurd (cc (silent_stays effect.message quiet, fits))

after_payload : (conn : Connection) (frame : Frame) (frames later : List Frame) (effect : Effect) (bytes : List ℕ) → frames ≡ frame ∷ later → AreLegal frames → All IsShortEnough (messages frames)
    → Fits conn frame effect → Carries effect.message bytes → Took conn effect frames later (bytes ∷ [])
after_payload conn (Message m) frames later effect bytes is legal short fits gives_bytes =
    let same = one_payload (Some (content m.is_text m.bytes)) m.bytes bytes (carries m.is_text m.bytes) (rw fits at gives_bytes) in
    record { next = rw fits refl; all = rw (is, same) refl; closed = rw is refl; legal = (rw is at legal).1; short = All-tail IsShortEnough m (messages later) (rw is at short) }
after_payload conn (Pong payload) frames later effect bytes is legal short fits gives_bytes = absurd (rw fits at gives_bytes)
after_payload conn (Close payload) frames later effect bytes is legal short fits gives_bytes = absurd (not_closing effect.message bytes gives_bytes fits)

after_closing : (conn : Connection) (frame : Frame) (frames later : List Frame) (effect : Effect) → frames ≡ frame ∷ later → AreLegal frames → Fits conn frame effect → closes effect.message ≡ true
    → (messages frames ≡ []) × (is_some (close_of frames) ≡ true)
after_closing conn (Message m) frames later effect is legal fits ends = absurd (not_closing (Some (content m.is_text m.bytes)) m.bytes (carries m.is_text m.bytes) (rw fits at ends))
after_closing conn (Pong payload) frames later effect is legal fits ends = absurd (cc (rw fits at ends))
after_closing conn (Close payload) frames later effect is legal fits ends =
    let none : later ≡ [] = (rw is at legal).1 in
    (rw (is, none) refl, rw is refl)

-- ---- many frames

-- silent frames were taken, and the lane listens
record Passed (from to : SocketSide) (front : Lane) (more : List ℕ) (frames : List Frame) : Type 0 where
  n : ℕ
  later : List Frame
  listens : Listens to front
  awaits : Awaits from front.unread more n later
  all : map (λ (m : Sent). m.bytes) (messages frames) ≡ map (λ (m : Sent). m.bytes) (messages later)
  closed : close_of frames ≡ close_of later

-- the lane after the frame in front
after_first : (from to : SocketSide) (lane : Lane) (more : List ℕ) (n : ℕ) (frames : List Frame) (payloads : List (List ℕ)) (p : ℕ × Effect) → Listens to lane → (c : Coming from to n lane.unread more frames)
    → p ≡ (c.size, c.effect) → Took (idle (role_of to) MOST_MESSAGE) c.effect frames c.later payloads
    → Listens to (after_taking lane p) × Awaits from (after_taking lane p).unread more ((n + 1) % 2 ^ 64) c.later
after_first from to lane more n frames payloads p listens c same t =
    rw same (record { here = listens.here; conn = t.next }, record { stream_is = c.left; legal = t.legal; short = t.short })

passed : (from to : SocketSide) → AreOpposite from to → (ps : List (ℕ × Effect)) (lane front : Lane) (more : List ℕ) (n : ℕ) (frames : List Frame) → Listens to lane → Awaits from lane.unread more n frames
    → Passes lane ps front → Passed from to front more frames
passed from to opposite [] lane front more n frames listens awaits same =
    record {
      n = n;
      later = frames;
      listens = subst (Listens to) (sym same) listens;
      awaits = subst (λ (l : Lane). Awaits from l.unread more n frames) (sym same) awaits;
      all = refl;
      closed = refl;
    }
passed from to opposite (p ∷ ps) lane front more n frames listens awaits (finds, quiet, passes) =
    let found = rw listens.conn at finds in
    elim (next_frame from to opposite n lane.unread more frames awaits) [
      | inl w ↦ absurd (cc (w.1, found))
      | inr c ↦
          let same : p ≡ (c.size, c.effect) = same_step (sym found ∙ c.finds) in
          let t = after_silent _ c.frame frames c.later c.effect c.is awaits.legal awaits.short c.fits (rw same at quiet) in
          let (listens_on, awaits_on) = after_first from to lane more n frames [] p listens c same t in
          let rest = passed from to opposite ps (after_taking lane p) front more ((n + 1) % 2 ^ 64) c.later listens_on awaits_on passes in
          record { n = rest.n; later = rest.later; listens = rest.listens; awaits = rest.awaits; all = t.all ∙ rest.all; closed = t.closed ∙ rest.closed }
    ]

-- ---- a session of the reader

-- how it came out: it heard these payloads of the frames, and the later frames are left
record Outcome (from to : SocketSide) (payloads : List (List ℕ)) (next : Lane) (more : List ℕ) (frames : List Frame) : Type 0 where
  later : List Frame
  all : map (λ (m : Sent). m.bytes) (messages frames) ≡ payloads ++ map (λ (m : Sent). m.bytes) (messages later)
  fair : IsFair next.ending
  waits : next.ending ≡ None → (n : ℕ) × Listens to next × Awaits from next.unread more n later
  answered : next.ending ≡ Some Why.Answered → (messages later ≡ []) × (is_some (close_of frames) ≡ true)

outcome_gone : (from to : SocketSide) (why : Ending) (calls : List Call) (mid next : Lane) (more : List ℕ) (frames later : List Frame) → IsFair (Some why)
    → (why ≡ Why.Answered → (messages later ≡ []) × (is_some (close_of frames) ≡ true))
    → map (λ (m : Sent). m.bytes) (messages frames) ≡ map (λ (m : Sent). m.bytes) (messages later) → mid.ending ≡ Some why → Session mid calls next
    → Outcome from to (heard calls) next more frames
outcome_gone from to why calls mid next more frames later fair answered same gone session =
    let ends = ends_once mid next why calls gone session in
    record {
      later = later;
      all = rw (none_heard calls ends.1) same;
      fair = rw ends.0 fair;
      waits = λ here. absurd (not_both next.ending why ends.0 here);
      answered = λ closed. answered (one_cause next.ending Why.Answered why closed ends.0);
    }

more_heard : (from to : SocketSide) (first payloads : List (List ℕ)) (next : Lane) (more : List ℕ) (frames later : List Frame)
    → map (λ (m : Sent). m.bytes) (messages frames) ≡ first ++ map (λ (m : Sent). m.bytes) (messages later) → close_of frames ≡ close_of later
    → Outcome from to payloads next more later → Outcome from to (first ++ payloads) next more frames
more_heard from to first payloads next more frames later all closed o =
    record {
      later = o.later;
      all = all ∙ ap (λ (l : List (List ℕ)). first ++ l) o.all ∙ sym (append_assoc first payloads (map (λ (m : Sent). m.bytes) (messages o.later)));
      fair = o.fair;
      waits = o.waits;
      answered = λ ended. ((o.answered ended).0, rw closed (o.answered ended).1);
    }

hears : (from to : SocketSide) → AreOpposite from to → (calls : List Call) (lane next : Lane) (more : List ℕ) (n : ℕ) (frames : List Frame) → Listens to lane → Awaits from lane.unread (fed calls ++ more) n frames
    → Session lane calls next → Outcome from to (heard calls) next more frames
hears from to opposite [] lane next more n frames listens awaits same =
    record {
      later = frames;
      all = refl;
      fair = rw (same, listens.here) tt;
      waits = λ _. (n, subst (Listens to) (sym same) listens, subst (λ (l : Lane). Awaits from l.unread more n frames) (sym same) awaits);
      answered = λ gone. absurd (not_both next.ending Why.Answered gone (rw same listens.here));
    }
hears from to opposite (Feed piece ∷ calls) lane next more n frames listens awaits (mid, is, rest) =
    let u = lane.unread in
    hears from to opposite calls (record lane { unread = u ++ piece }) next more n frames (record { here = listens.here; conn = listens.conn })
    (record {
      stream_is = append_assoc u piece (fed calls ++ more) ∙ ap (λ (b : List ℕ). u ++ b) (sym (append_assoc piece (fed calls) more)) ∙ awaits.stream_is;
      legal = awaits.legal;
      short = awaits.short;
    })
    (subst (λ (l : Lane). Session l calls next) is rest)
hears from to opposite (Read answer ∷ calls) lane next more n frames listens awaits (mid, inl gone, rest) = absurd (gone.0 listens.here)
hears from to opposite (Read (Payload bytes) ∷ calls) lane next more n frames listens awaits (mid, inr (_, (ps, front, passes, (p, finds, gives_bytes, is))), rest) =
    let x = fed calls ++ more in
    let q = passed from to opposite ps lane front x n frames listens awaits passes in
    let found = rw q.listens.conn at finds in
    elim (next_frame from to opposite q.n front.unread x q.later q.awaits) [
      | inl w ↦ absurd (cc (w.1, found))
      | inr c ↦
          let same : p ≡ (c.size, c.effect) = same_step (sym found ∙ c.finds) in
          let t = after_payload _ c.frame q.later c.later c.effect bytes c.is q.awaits.legal q.awaits.short c.fits (rw same at gives_bytes) in
          let (listens_on, awaits_on) = after_first from to front x q.n q.later (bytes ∷ []) p q.listens c same t in
          let o = hears from to opposite calls (after_taking front p) next more ((q.n + 1) % 2 ^ 64) c.later listens_on awaits_on (subst (λ (l : Lane). Session l calls next) is rest) in
          more_heard from to (bytes ∷ []) (heard calls) next more frames c.later (q.all ∙ t.all) (q.closed ∙ t.closed) o
    ]
hears from to opposite (Read NotYet ∷ calls) lane next more n frames listens awaits (mid, inr (_, (ps, front, passes, (k, waits, is))), rest) =
    let q = passed from to opposite ps lane front (fed calls ++ more) n frames listens awaits passes in
    more_heard from to [] (heard calls) next more frames q.later q.all q.closed
    (hears from to opposite calls front next more q.n q.later q.listens q.awaits (subst (λ (l : Lane). Session l calls next) is rest))
hears from to opposite (Read Gone ∷ calls) lane next more n frames listens awaits (mid, inr (_, (ps, front, passes, inl (p, finds, ends, is))), rest) =
    let x = fed calls ++ more in
    let q = passed from to opposite ps lane front x n frames listens awaits passes in
    let found = rw q.listens.conn at finds in
    elim (next_frame from to opposite q.n front.unread x q.later q.awaits) [
      | inl w ↦ absurd (cc (w.1, found))
      | inr c ↦
          let same : p ≡ (c.size, c.effect) = same_step (sym found ∙ c.finds) in
          let (none, closed) = after_closing _ c.frame q.later c.later c.effect c.is q.awaits.legal c.fits (rw same at ends) in
          outcome_gone from to Why.Answered calls mid next more frames [] tt (λ _. (refl, rw q.closed closed)) (q.all ∙ ap (map (λ (m : Sent). m.bytes)) none) (rw is refl) rest
    ]
hears from to opposite (Read Gone ∷ calls) lane next more n frames listens awaits (mid, inr (_, (ps, front, passes, inr (e, refused, is))), rest) =
    let x = fed calls ++ more in
    let q = passed from to opposite ps lane front x n frames listens awaits passes in
    let found = rw q.listens.conn at refused in
    elim (next_frame from to opposite q.n front.unread x q.later q.awaits) [
      | inl w ↦ absurd (cc (w.1, found))
      | inr c ↦ absurd (cc (c.finds, found))
    ]
hears from to opposite (FailedRead ∷ calls) lane next more n frames listens awaits (mid, (_, (ps, front, passes, (same, gone, open_still))), rest) =
    let q = passed from to opposite ps lane front (fed calls ++ more) n frames listens awaits passes in
    outcome_gone from to Why.NoMemory calls mid next more frames q.later tt (λ no. absurd (cc no)) q.all gone rest
hears from to opposite (Send m true ∷ calls) lane next more n frames listens awaits (mid, says, rest) =
    let is = said_as_frame lane mid m.is_text m.bytes (rw listens.conn refl) says in
    hears from to opposite calls _ next more n frames (record { here = listens.here; conn = listens.conn }) awaits (subst (λ (l : Lane). Session l calls next) is rest)
hears from to opposite (Send m false ∷ calls) lane next more n frames listens awaits (mid, inl gone, rest) = absurd (gone.0 listens.here)
hears from to opposite (Send m false ∷ calls) lane next more n frames listens awaits (mid, inr bad, rest) =
    outcome_gone from to Why.BadText calls mid next more frames frames tt (λ no. absurd (cc no)) refl (rw bad.3 refl) rest
hears from to opposite (Drop piece ∷ calls) lane next more n frames listens awaits (mid, (cut, is), rest) =
    hears from to opposite calls (after_drop lane mid.out.bytes) next more n frames (record { here = listens.here; conn = listens.conn }) awaits (subst (λ (l : Lane). Session l calls next) is rest)
hears from to opposite (Shut ∷ calls) lane next more n frames listens awaits (mid, is, rest) =
    outcome_gone from to Why.Shut calls mid next more frames frames tt (λ no. absurd (cc no)) refl (rw (is, listens.here) refl) rest

-- ---- the law

none_left : (from to : SocketSide) → AreOpposite from to → (n : ℕ) (unread : List ℕ) (frames : List Frame) → Waits (read_step (idle (role_of to) MOST_MESSAGE) unread) → Awaits from unread [] n frames
    → (messages frames ≡ []) × (unread ≡ [])
none_left from to opposite n unread [] waits awaits = (refl, front_nil unread [] awaits.stream_is)
none_left from to opposite n unread (frame ∷ frames) waits awaits =
    let (effect, takes, fits) = reads (role_of to) (mask_of from n) frame (stream from ((n + 1) % 2 ^ 64) frames) (opposite n) (first_legal frame frames awaits.legal awaits.short) in
    let all : unread ≡ stream from n (frame ∷ frames) = sym (append-nil unread) ∙ awaits.stream_is in
    absurd (cc (rw all at waits.1, takes))

all_came : (from to : SocketSide) → AreOpposite from to → (payloads : List (List ℕ)) (next : Lane) (more : List ℕ) (frames : List Frame) (o : Outcome from to payloads next more frames) → more ≡ [] → Takes next next NotYet
    → (messages o.later ≡ []) × (next.unread ≡ [])
all_came from to opposite payloads next more frames o none (inl gone) = absurd (cc gone.2)
all_came from to opposite payloads next more frames o none (inr (here, (ps, mid, passes, (k, waits, is)))) =
    let (n, listens, awaits) = o.waits here in
    let waits_here : read_step next.conn next.unread ≡ Ok (Partial k) = subst (λ (l : Lane). read_step l.conn l.unread ≡ Ok (Partial k)) (sym is) waits in
    none_left from to opposite n next.unread o.later (k, rw listens.conn at waits_here) (rw none at awaits)

pub heard_in_session : (from to : SocketSide) → AreOpposite from to → IsHeardInSession from to
heard_in_session from to opposite sending sender sends short reading reader session more cut =
    let (frames, bytes, all, legal, close) = wrote (fresh_lane from) sender sending refl refl sends in
    let o =
    hears from to opposite reading (fresh_lane to) reader more 0 frames (record { here = refl; conn = refl })
    (record { stream_is = cut ∙ bytes; legal = legal; short = subst (All IsShortEnough) (sym all) short }) session in (
      messages o.later,
      ap (map (λ (m : Sent). m.bytes)) (sym all) ∙ o.all,
      o.fair,
      all_came from to opposite (heard reading) reader more frames o,
      λ answered. ((o.answered answered).0, λ here. absurd (cc (close.0 here, (o.answered answered).1))),
    )
