-- All that a lane writes is frames.
use Rattle.std.proofs.Common.{◌≡◌, ◌≢◌, ℕ, ◌+◌, ◌%◌, ◌^◌, Bool, true, false, List, [], ◌∷◌, ◌++◌, Option, None, Some, refl, sym, ap, subst, inl, inr, arith, append_assoc, append-nil, ◌∙◌, if◌then◌else◌}
use Rattle.std.specs.Int.{w16, to_be_bytes, from_be_bytes}
use Rattle.websocket.specs.declared.error.Error.{Error}
use Rattle.websocket.specs.declared.protocol.state.WebSocketState.{WebSocketState}
use Rattle.websocket.specs.declared.protocol.state.WebSocketState.TheVariants.{Active}
use Rattle.websocket.specs.Connection.{Effect, Outgoing, decode_close, closing_state, IsDoneSending}
use Rattle.websocket.specs.CloseCode.{close_code_of}
use Rattle.websocket.proofs.TextLemmas.{is_utf8-nil}
use Rattle.hw_socket.specs.declared.vocabulary.Ending.{Ending}
use Rattle.hw_socket.specs.declared.vocabulary.Ending.TheVariants.{Answered, BadText}
use Rattle.hw_socket.specs.declared.vocabulary.SocketRead.TheVariants.{Payload, NotYet, Gone}
use Rattle.hw_socket.specs.declared.vocabulary.TheConstants.{MOST_MESSAGE}
use Rattle.hw_socket.specs.Calls.{Call, Feed, Read, FailedRead, Send, Drop, Shut, Session, said, dropped, written, is_shut}
use Rattle.hw_socket.specs.Closing.{status_of, ending_of, after_close}
use Rattle.hw_socket.specs.Lane.{Lane}
use Rattle.hw_socket.specs.Masks.{Written, mask_of, with_mask, after_frame, after_reply}
use Rattle.hw_socket.specs.Reading.{Passes, after_taking, after_refusal}
use Rattle.hw_socket.specs.Sending.{Sent}
use Rattle.hw_socket.specs.Streams.{Frame, Message, Pong, Close, outgoing, stream, messages, IsClosePayload, AreLegal, ClosesAs}
use Rattle.hw_socket.proofs.Effects.{tame, IsPong, IsCloseReply}
use Rattle.hw_socket.proofs.Endings.{not_both, one_cause, after_drop, ends_once, silent, none_said, shut_is_done}
use Rattle.hw_socket.proofs.Sessions.{said_as_frame}
use Rattle.hw_socket.proofs.Takings.{silent_stays, payload_stays}

-- from what was written before these calls: frames were added to it
abbrev pub Wrote : Written → Lane → List Call → Bool → Type 0
Wrote w next calls was_shut =
    (frames : List Frame) × (written calls next ≡ w.bytes ++ stream w.side w.frames frames) × (messages frames ≡ said calls) × AreLegal frames
    × ClosesAs next.ending was_shut frames

-- ---- one frame more in front

abbrev after : Written → Frame → Written
after w frame = after_frame w (outgoing frame)

in_front : (w : Written) (frame : Frame) (frames : List Frame)
    → (after w frame).bytes ++ stream w.side ((w.frames + 1) % 2 ^ 64) frames ≡ w.bytes ++ stream w.side w.frames (frame ∷ frames)
in_front w frame frames = append_assoc w.bytes (with_mask (mask_of w.side w.frames) (outgoing frame)) (stream w.side ((w.frames + 1) % 2 ^ 64) frames)

replied : (w : Written) (next : Lane) (calls : List Call) (was_shut : Bool) (reply : Option Outgoing) → IsPong reply → Wrote (after_reply w reply) next calls was_shut → Wrote w next calls was_shut
replied w next calls was_shut None pong later = later
replied w next calls was_shut (Some frame) (payload, short, is) later =
    let (frames, bytes, all, legal, close) : Wrote (after w (Pong payload)) next calls was_shut = subst (λ (f : Outgoing). Wrote (after_frame w f) next calls was_shut) is later in
    (Pong payload ∷ frames, bytes ∙ in_front w (Pong payload) frames, all, (short, legal), close)

-- ---- the end

shut_payload : (status : ℕ) → IsClosePayload (to_be_bytes w16 status)
unfolding decode_close
shut_payload status = (omega arith, (Some (close_code_of (from_be_bytes w16 (to_be_bytes w16 status)), []), rw is_utf8-nil refl))

-- the status of a lane's end, where the lane wrote the close frame by itself
abbrev HasStatus : Ending → Bool → List ℕ → Type 0
HasStatus why was_shut payload = why ≢ Answered → (was_shut ≡ true) × (payload ≡ to_be_bytes w16 (status_of (Some why)))

closed_as : (ending : Option Ending) (why : Ending) (was_shut : Bool) (payload : List ℕ) → ending ≡ Some why → HasStatus why was_shut payload → ClosesAs ending was_shut (Close payload ∷ [])
closed_as ending why was_shut payload gone status = (
  λ here. absurd (not_both ending why gone here),
  λ _. refl,
  λ other is not_answered.
      let same : other ≡ why = one_cause ending why other gone is in
      let found = status (λ answered. not_answered (same ∙ answered)) in
      rw (same, found.0, found.1) refl,
)

-- after its close frame, nothing
nothing_more : (w : Written) (lane next : Lane) (why : Ending) (calls : List Call) (was_shut : Bool) (payload : List ℕ) → IsClosePayload payload → HasStatus why was_shut payload → lane.out ≡ after w (Close payload) → lane.ending ≡ Some why
    → IsDoneSending lane.conn.state → Session lane calls next → Wrote w next calls was_shut
nothing_more w lane next why calls was_shut payload valid status is gone is_done session =
    let ends = ends_once lane next why calls gone session in (
      Close payload ∷ [],
      silent lane next why calls gone is_done session ∙ ap (λ (o : Written). o.bytes) is ∙ sym (append-nil (after w (Close payload)).bytes) ∙ in_front w (Close payload) [],
      sym (none_said calls ends.1),
      (valid, refl),
      closed_as next.ending why was_shut payload ends.0 status,
    )

closing : (w : Written) (next : Lane) (why : Ending) (calls : List Call) (was_shut : Bool) (state : Option WebSocketState) → next.ending ≡ Some why → why ≢ Answered → ¬ (state ≡ None) → said calls ≡ []
    → written calls next ≡ (if was_shut then (after_close w (status_of (Some why)) state).bytes else w.bytes) → Wrote w next calls was_shut
closing w next why calls false state gone other may none bytes =
    ([], bytes ∙ sym (append-nil w.bytes), sym none, tt, (λ _. refl, λ answered. absurd (other (one_cause next.ending Answered why answered gone)), λ _ _ _. refl))
closing w next why calls true None gone other may none bytes = absurd (may refl)
closing w next why calls true (Some state) gone other may none bytes =
    let payload = to_be_bytes w16 (status_of (Some why)) in (
      Close payload ∷ [],
      bytes ∙ sym (append-nil (after w (Close payload)).bytes) ∙ in_front w (Close payload) [],
      sym none,
      (shut_payload (status_of (Some why)), refl),
      closed_as next.ending why true payload gone (λ _. (refl, refl)),
    )

-- from a lane on that is gone, and whose close frame is still to be written
last : (lane next : Lane) (why : Ending) (calls : List Call) → lane.ending ≡ Some why → why ≢ Answered → ¬ (IsDoneSending lane.conn.state) → Session lane calls next → Wrote lane.out next calls (is_shut calls)
last lane next why calls gone other may session =
    let ends = ends_once lane next why calls gone session in
    closing lane.out next why calls (is_shut calls) (closing_state lane.conn.state) ends.0 other may (none_said calls ends.1) (rw gone at ends.2)

not_answered : (e : Error) → ending_of e ≢ Answered
not_answered (Error.Capacity cause) is = cc is
not_answered Error.Utf8 is = cc is
not_answered (Error.Protocol cause) is = cc is
not_answered Error.ConnectionClosed is = cc is
not_answered Error.AlreadyClosed is = cc is
not_answered Error.OutOfMemory is = cc is

-- ---- reads

-- silent frames are answered by pongs, if at all
through : (ps : List (ℕ × Effect)) (lane mid next : Lane) (calls : List Call) → lane.ending ≡ None → lane.conn.state ≡ Active → Passes lane ps mid
    → (mid.ending ≡ None → mid.conn.state ≡ Active → Wrote mid.out next calls (is_shut calls)) → Wrote lane.out next calls (is_shut calls)
through [] lane mid next calls here active same go_on = subst (λ (l : Lane). Wrote l.out next calls (is_shut calls)) same (go_on (rw same here) (rw same active))
through (p ∷ ps) lane mid next calls here active (finds, quiet, passes) go_on =
    let t = tame MOST_MESSAGE lane.conn lane.unread p finds in
    let stays = silent_stays p.1.message quiet in
    replied lane.out next calls (is_shut calls) p.1.reply (t.pongs stays) (through ps (after_taking lane p) mid next calls here (t.stays stays ∙ active) passes go_on)

answered : (w : Written) (lane next : Lane) (calls : List Call) (reply : Option Outgoing) → IsCloseReply reply → lane.out ≡ after_reply w reply → lane.ending ≡ Some Answered → IsDoneSending lane.conn.state
    → Session lane calls next → Wrote w next calls (is_shut calls)
answered w lane next calls None close is gone is_done session = absurd close
answered w lane next calls (Some frame) (payload, valid, same) is gone is_done session =
    nothing_more w lane next Answered calls (is_shut calls) payload valid (λ other. absurd (other refl)) (is ∙ ap (after_frame w) same) gone is_done session

-- ---- the law

pub wrote : (lane next : Lane) (calls : List Call) → lane.ending ≡ None → lane.conn.state ≡ Active → Session lane calls next → Wrote lane.out next calls (is_shut calls)
wrote lane next [] here active same =
    ([], rw same (sym (append-nil lane.out.bytes)), refl, tt, (λ _. refl, λ gone. absurd (not_both next.ending Answered gone (rw same here)), λ _ _ _. refl))
wrote lane next (Feed piece ∷ calls) here active (mid, is, rest) =
    wrote (record lane { unread = lane.unread ++ piece }) next calls here active (subst (λ (l : Lane). Session l calls next) is rest)
wrote lane next (Read answer ∷ calls) here active (mid, inl gone, rest) = absurd (gone.0 here)
wrote lane next (Read (Payload bytes) ∷ calls) here active (mid, inr (_, (ps, front, passes, (p, finds, carries, is))), rest) =
    let go_on : front.ending ≡ None → front.conn.state ≡ Active → Wrote front.out next calls (is_shut calls) = λ still open_still.
    let t = tame MOST_MESSAGE front.conn front.unread p finds in
    let stays = payload_stays p.1.message bytes carries in
    replied front.out next calls (is_shut calls) p.1.reply (t.pongs stays) (wrote (after_taking front p) next calls still (t.stays stays ∙ open_still) (subst (λ (l : Lane). Session l calls next) is rest)) in
    through ps lane front next calls here active passes go_on
wrote lane next (Read NotYet ∷ calls) here active (mid, inr (_, (ps, front, passes, (n, waits, is))), rest) =
    through ps lane front next calls here active passes (λ still open_still. wrote front next calls still open_still (subst (λ (l : Lane). Session l calls next) is rest))
wrote lane next (Read Gone ∷ calls) here active (mid, inr (_, (ps, front, passes, inl (p, finds, ends, is))), rest) =
    let go_on : front.ending ≡ None → front.conn.state ≡ Active → Wrote front.out next calls (is_shut calls) = λ still open_still.
    let t = tame MOST_MESSAGE front.conn front.unread p finds in
    answered front.out mid next calls p.1.reply (t.replies ends open_still) (rw is refl) (rw is refl) (rw (is, t.ends ends open_still) refl) rest in
    through ps lane front next calls here active passes go_on
wrote lane next (Read Gone ∷ calls) here active (mid, inr (_, (ps, front, passes, inr (e, refused, is))), rest) =
    through ps lane front next calls here active passes (λ _ open_still. last (after_refusal front e) next _ calls refl (not_answered e) (λ is_done. cc (rw open_still at is_done)) (subst (λ (l : Lane). Session l calls next) is rest))
wrote lane next (FailedRead ∷ calls) here active (mid, (_, (ps, front, passes, (same, gone, may_close))), rest) =
    through ps lane front next calls here active passes (λ _ _. subst (λ (w : Written). Wrote w next calls (is_shut calls)) same (last mid next Ending.NoMemory calls gone (λ no. cc no) may_close rest))
wrote lane next (Send m true ∷ calls) here active (mid, says, rest) =
    let is = said_as_frame lane mid m.is_text m.bytes active says in
    let (frames, bytes, all, legal, close) = wrote (record lane { out = after lane.out (Message m) }) next calls here active (subst (λ (l : Lane). Session l calls next) is rest) in
    (Message m ∷ frames, bytes ∙ in_front lane.out (Message m) frames, ap (λ (ms : List Sent). m ∷ ms) all, (says.1, legal), close)
wrote lane next (Send m false ∷ calls) here active (mid, inl gone, rest) = absurd (gone.0 here)
wrote lane next (Send m false ∷ calls) here active (mid, inr bad, rest) =
    last (record lane { ending = Some BadText }) next _ calls refl (λ no. cc no) (λ is_done. cc (rw active at is_done)) (subst (λ (l : Lane). Session l calls next) bad.3 rest)
wrote lane next (Drop piece ∷ calls) here active (mid, (cut, is), rest) =
    let later = wrote (after_drop lane mid.out.bytes) next calls here active (subst (λ (l : Lane). Session l calls next) is rest) in
    let frames = stream lane.out.side lane.out.frames later.0 in (
      later.0,
      append_assoc piece (dropped calls) next.out.bytes ∙ ap (λ (b : List ℕ). piece ++ b) later.1 ∙ sym (append_assoc piece mid.out.bytes frames) ∙ ap (λ (b : List ℕ). b ++ frames) (sym cut),
      later.2,
      later.3,
      later.4,
    )
wrote lane next (Shut ∷ calls) here active (mid, is, rest) =
    nothing_more lane.out mid next Ending.Shut calls true _ (shut_payload 1000) (λ _. (refl, refl)) (rw (is, active, here) refl) (rw (is, here) refl) (rw is (shut_is_done lane)) rest
