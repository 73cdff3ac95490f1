-- What a lane that is gone does.
use Rattle.std.proofs.Common.{◌≡◌, ℕ, Bool, true, false, List, [], ◌∷◌, ◌++◌, Option, None, Some, refl, sym, ap, subst, inl, inr, append_assoc, ◌∙◌, if◌then◌else◌}
use Rattle.websocket.specs.declared.protocol.state.WebSocketState.{WebSocketState}
use Rattle.websocket.specs.declared.protocol.state.WebSocketState.TheVariants.{Active, ClosedByUs, ClosedByPeer, CloseAcknowledged, Failed, Terminated}
use Rattle.websocket.specs.Connection.{Connection, closing_state, IsDoneSending}
use Rattle.hw_socket.specs.declared.vocabulary.Ending.{Ending}
use Rattle.hw_socket.specs.Calls.{Call, Feed, Read, FailedRead, Send, Drop, Shut, Session, AreRefused, said, heard, written, is_shut}
use Rattle.hw_socket.specs.Closing.{closed, close_frame, after_close}
use Rattle.hw_socket.specs.Lane.{Lane}
use Rattle.hw_socket.specs.Masks.{Written, mask_of, with_mask}
use Rattle.hw_socket.specs.Sending.{after_shut}
use Rattle.hw_socket.specs.declared.vocabulary.SocketRead.TheVariants.{Payload, NotYet, Gone}

pub not_both : (ending : Option Ending) (why : Ending) → ending ≡ Some why → ending ≡ None → ⊥
not_both None why gone here = cc gone
not_both (Some other) why gone here = cc here

pub one_cause : (ending : Option Ending) (a b : Ending) → ending ≡ Some a → ending ≡ Some b → b ≡ a
one_cause ending a b first second = cc (first, second)

-- ---- a close frame is written once

closed_is_done : (conn : Connection) (state : WebSocketState) → conn.state ≡ state → IsDoneSending (closed conn (closing_state state)).state
closed_is_done conn Active is = refl
closed_is_done conn Failed is = refl
closed_is_done conn ClosedByUs is = rw is refl
closed_is_done conn ClosedByPeer is = rw is refl
closed_is_done conn CloseAcknowledged is = rw is refl
closed_is_done conn Terminated is = rw is refl

pub shut_is_done : (lane : Lane) → IsDoneSending (after_shut lane).conn.state
shut_is_done lane = closed_is_done lane.conn lane.conn.state refl

shut_again : (lane : Lane) → IsDoneSending lane.conn.state → (after_shut lane).out.bytes ≡ lane.out.bytes
shut_again lane is_done = rw is_done refl

either : {A : Type 0} (b : Bool) (x y : A) → x ≡ y → (if b then x else y) ≡ y
either true x y same = same
either false x y same = refl

-- ---- what left stands before what waits

abbrev pub after_drop : Lane → List ℕ → Lane
after_drop lane rest = record lane { out = record lane.out { bytes = rest } }

behind_close : (w : Written) (piece rest : List ℕ) (status : ℕ) (state : Option WebSocketState) → w.bytes ≡ piece ++ rest
    → piece ++ (after_close (record w { bytes = rest }) status state).bytes ≡ (after_close w status state).bytes
behind_close w piece rest status None cut = sym cut
behind_close w piece rest status (Some state) cut =
    let frame = with_mask (mask_of w.side w.frames) (close_frame status) in
    sym (append_assoc piece rest frame) ∙ ap (λ (b : List ℕ). b ++ frame) (sym cut)

behind : (b : Bool) (lane : Lane) (piece rest : List ℕ) → lane.out.bytes ≡ piece ++ rest
    → piece ++ (if b then (after_shut (after_drop lane rest)).out.bytes else rest) ≡ (if b then (after_shut lane).out.bytes else lane.out.bytes)
behind true lane piece rest cut = behind_close lane.out piece rest _ (closing_state lane.conn.state) cut
behind false lane piece rest cut = sym cut

-- ---- the law

pub ends_once : (lane next : Lane) (why : Ending) (calls : List Call) → lane.ending ≡ Some why → Session lane calls next
    → (next.ending ≡ Some why) × AreRefused calls × (written calls next ≡ (if is_shut calls then (after_shut lane).out.bytes else lane.out.bytes))
ends_once lane next why [] gone same = (rw same gone, tt, rw same refl)
ends_once lane next why (Feed piece ∷ calls) gone (mid, is, rest) =
    ends_once (record lane { unread = lane.unread ++ piece }) next why calls gone (subst (λ (l : Lane). Session l calls next) is rest)
ends_once lane next why (Read answer ∷ calls) gone (mid, inl (still, is, none), rest) =
    let later = ends_once lane next why calls gone (subst (λ (l : Lane). Session l calls next) is rest) in
    (later.0, (none, later.1), later.2)
ends_once lane next why (Read answer ∷ calls) gone (mid, inr (here, more), rest) = absurd (not_both lane.ending why gone here)
ends_once lane next why (FailedRead ∷ calls) gone (mid, (here, more), rest) = absurd (not_both lane.ending why gone here)
ends_once lane next why (Send m true ∷ calls) gone (mid, says, rest) = absurd (not_both lane.ending why gone says.0)
ends_once lane next why (Send m false ∷ calls) gone (mid, inl (still, is), rest) =
    let later = ends_once lane next why calls gone (subst (λ (l : Lane). Session l calls next) is rest) in
    (later.0, (refl, later.1), later.2)
ends_once lane next why (Send m false ∷ calls) gone (mid, inr bad, rest) = absurd (not_both lane.ending why gone bad.0)
ends_once lane next why (Drop piece ∷ calls) gone (mid, (cut, is), rest) =
    let later = ends_once (after_drop lane mid.out.bytes) next why calls gone (subst (λ (l : Lane). Session l calls next) is rest) in
    (later.0, later.1, append_assoc piece _ next.out.bytes ∙ ap (λ (b : List ℕ). piece ++ b) later.2 ∙ behind (is_shut calls) lane piece mid.out.bytes cut)
ends_once lane next why (Shut ∷ calls) gone (mid, is, rest) =
    let later = ends_once (after_shut lane) next why calls (rw gone refl) (subst (λ (l : Lane). Session l calls next) is rest) in
    (later.0, later.1, later.2 ∙ either (is_shut calls) _ _ (shut_again (after_shut lane) (shut_is_done lane)))

-- ---- what the frames before the end say of it

pub none_said : (calls : List Call) → AreRefused calls → said calls ≡ []
none_said [] refused = refl
none_said (Feed piece ∷ calls) refused = none_said calls refused
none_said (Read answer ∷ calls) refused = none_said calls refused.1
none_said (FailedRead ∷ calls) refused = absurd refused
none_said (Send m true ∷ calls) refused = absurd (cc refused.0)
none_said (Send m false ∷ calls) refused = none_said calls refused.1
none_said (Drop piece ∷ calls) refused = none_said calls refused
none_said (Shut ∷ calls) refused = none_said calls refused

pub none_heard : (calls : List Call) → AreRefused calls → heard calls ≡ []
none_heard [] refused = refl
none_heard (Feed piece ∷ calls) refused = none_heard calls refused
none_heard (Read (Payload bytes) ∷ calls) refused = absurd (cc refused.0)
none_heard (Read NotYet ∷ calls) refused = none_heard calls refused.1
none_heard (Read Gone ∷ calls) refused = none_heard calls refused.1
none_heard (FailedRead ∷ calls) refused = absurd refused
none_heard (Send m answer ∷ calls) refused = none_heard calls refused.1
none_heard (Drop piece ∷ calls) refused = none_heard calls refused
none_heard (Shut ∷ calls) refused = none_heard calls refused

-- a lane that is gone and wrote its close frame writes nothing any more
pub silent : (lane next : Lane) (why : Ending) (calls : List Call) → lane.ending ≡ Some why → IsDoneSending lane.conn.state → Session lane calls next → written calls next ≡ lane.out.bytes
silent lane next why calls gone is_done session = (ends_once lane next why calls gone session).2 ∙ either (is_shut calls) _ _ (shut_again lane is_done)
