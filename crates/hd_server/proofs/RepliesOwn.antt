-- What holds of each connection by itself: one that polls has its peer and stands nowhere, and one that ends is closed.
use Rattle.std.proofs.Common.{refl, ap, subst, sym, ◌∙◌, ◌≡◌, ℕ, suc, ◌<◌, ◌≤◌, Bool, true, false, List, [], ◌∷◌, ◌++◌, Option, Some, None, arith, if◌then◌else◌}
use Rattle.std.specs.Prelude.{◌==◌, not, is_some, option_map, ◌&&◌, ◌||◌}
use Rattle.std.proofs.lemmas.Bool.{eq-eqb}
use Rattle.hd_delivery.specs.declared.vocabulary.Got.{Got as Got_type}
use Rattle.hd_delivery.specs.declared.vocabulary.Got.TheVariants as gives
use Rattle.hd_delivery.specs.Histories.{EndEvent, Attached, Detached, Fed, Took, Failed, Sent, Lent, Ticked, Silenced, Closed, Config, is_this, is_closed, is_resumable, codec_of}
use Rattle.hd_delivery.specs.Bytes.{ByteStep, Bytes, in_frames}
use Rattle.hd_delivery.specs.Bytes.{Does as Step_of}
use Rattle.hd_calls.specs.declared.vocabulary.Deed.{Deed}
use Rattle.hd_calls.specs.Hubs.{Invoked}
use Rattle.hd_delivery.specs.declared.vocabulary.Reason.TheVariants.{Slow}
use Rattle.hd_calls.specs.Peers.{PeerEvent, Settings, Answers, Calls, Plain, add, byte_steps, codec, step_of}
use Rattle.hd_calls.specs.Peers as peers
use Rattle.hd_server.specs.Lives.{ConnectionEvent, Negotiated, Opened, Socketed, Polled, Answered, LaneLost, Ended, Expired, Removed, made, is_known, is_polling, socket_of, lost_at, poll_of, poll_ended, ended_at}
use Rattle.hd_server.specs.Machine.{Connects, Does, Rounds, Carries, Goes, DeliveryOutcome, Got, TooSlow, PassedOver, settings_of, has_gone, is_there, with_fate, outcome_in, notifies, notice_of, answer_to}
use Rattle.hd_server.specs.Doings.{ServerEvent, Hears, Notes, Works, notes, work, peer, history_with, config_with, has_peer, has_closed}
use Rattle.hd_server.specs.Plans.{onto}
use Rattle.hd_server.specs.Parts.{Each}
use Rattle.hd_server.proofs.Few.{IsSame, conn_of, same_of_another, standing_same}
use Rattle.hd_server.proofs.OrderlyNotes.{Known}
use Rattle.hd_server.proofs.OrderlyDoings.{IsQuiet}

-- ---- what is closed stays closed

took_closed : (c : Config) (got : Got_type) (h : List EndEvent) → is_closed c h ≡ true → is_closed c (Took got ∷ h) ≡ true
took_closed c (gives.Closed error allow) h e = refl
took_closed c (gives.Shaken codec version) h e = e
took_closed c (gives.Message m) h e = e
took_closed c (gives.Acked n) h e = e
took_closed c (gives.Sequenced n) h e = e
took_closed c (gives.Resumed first received) h e = e
took_closed c gives.Ping h e = e
took_closed c (gives.Skipped why) h e = e

if_kept : (b a : Bool) → a ≡ true → (if b then a else true) ≡ true
if_kept true a e = e
if_kept false a e = refl

step_closed : (c : Config) (x : EndEvent) (h : List EndEvent) → is_closed c h ≡ true → is_closed c (x ∷ h) ≡ true
step_closed c (Attached link now) h e = e
step_closed c (Detached now) h e = if_kept (is_resumable c h) (is_closed c h) e
step_closed c (Fed piece) h e = e
step_closed c (Took got) h e = took_closed c got h e
step_closed c (Failed fault) h e = refl
step_closed c (Sent m) h e = e
step_closed c (Lent f) h e = e
step_closed c (Ticked now) h e = e
step_closed c (Silenced now) h e = if_kept (is_resumable c h) (is_closed c h) e
step_closed c (Closed why allow) h e = refl

add_closed : (t : Settings) (o : Option ByteStep) (s : List ByteStep) → is_closed t.config (in_frames t.wire t.config s) ≡ true
    → is_closed t.config (in_frames t.wire t.config (add o s)) ≡ true
add_closed t None s e = e
add_closed t (Some (Bytes piece)) s e = e
add_closed t (Some (Step_of x)) s e = step_closed t.config x (in_frames t.wire t.config s) e

abbrev pub Shut : Option Settings → List PeerEvent → Type 0
Shut o m = is_closed (config_with o) (history_with o m) ≡ true

move_shut : (o : Option Settings) (d : PeerEvent) (m : List PeerEvent) → Shut o m → Shut o (d ∷ m)
move_shut None d m e = e
move_shut (Some t) d m e =
    let s = byte_steps t m in
    add_closed t (step_of t (codec_of t.config (in_frames t.wire t.config s)) (is_closed t.config (in_frames t.wire t.config s)) d) s e

either_shut : (o : Option Settings) (b : Bool) (d : PeerEvent) (m : List PeerEvent) → Shut o m → Shut o (if b then d ∷ m else m)
either_shut o true d m e = move_shut o d m e
either_shut o false d m e = e

notified_shut : (o : Option Settings) (call : Option Invoked) (m : List PeerEvent) → Shut o m → Shut o (notifies call m)
notified_shut o None m e = e
notified_shut o (Some call) m e = move_shut o (Calls None 0 call) m e

fate_shut : (d : Deed) (o : Option Settings) (fate : Option DeliveryOutcome) (m : List PeerEvent) → Shut o m → Shut o (with_fate d o fate m)
fate_shut d None fate m e = e
fate_shut d (Some t) None m e = e
fate_shut d (Some t) (Some Got) m e = notified_shut (Some t) (notice_of (codec t m) d) m e
fate_shut d (Some t) (Some TooSlow) m e = move_shut (Some t) (Plain (Step_of (Closed Slow false))) m e
fate_shut d (Some t) (Some PassedOver) m e = e

-- ---- one connection as another leaves it

pub record Alike (k : ℕ) (g x : List ServerEvent) : Type 0 where
  pub same_notes : IsSame k (notes x) (notes g)
  pub more : made (notes g) ≤ made (notes x)
  pub same_settings : settings_of k (work x) ≡ settings_of k (work g)
  pub same_gone : has_gone k (work x) ≡ has_gone k (work g)
  pub closed_still : has_closed k g ≡ true → has_closed k x ≡ true

notes_same : (k : ℕ) (h : List ConnectionEvent) → IsSame k h h
notes_same k h = record {
  of_token = refl;
  of_opening = refl;
  of_socket = refl;
  of_loss = refl;
  of_poll = refl;
  of_reply = refl;
  of_end = refl;
  of_leave = refl;
}

notes_then : (k : ℕ) (f g h : List ConnectionEvent) → IsSame k g f → IsSame k h g → IsSame k h f
notes_then k f g h a b = record {
  of_token = b.of_token ∙ a.of_token;
  of_opening = b.of_opening ∙ a.of_opening;
  of_socket = b.of_socket ∙ a.of_socket;
  of_loss = b.of_loss ∙ a.of_loss;
  of_poll = b.of_poll ∙ a.of_poll;
  of_reply = b.of_reply ∙ a.of_reply;
  of_end = b.of_end ∙ a.of_end;
  of_leave = b.of_leave ∙ a.of_leave;
}

pub alike_same : (k : ℕ) (g : List ServerEvent) → Alike k g g
alike_same k g = record { same_notes = notes_same k (notes g); more = omega arith; same_settings = refl; same_gone = refl; closed_still = λ e. e }

pub alike_then : (k : ℕ) (f g x : List ServerEvent) → Alike k f g → Alike k g x → Alike k f x
alike_then k f g x a b = record {
  same_notes = notes_then k (notes f) (notes g) (notes x) a.same_notes b.same_notes;
  more = omega (arith, a.more, b.more);
  same_settings = b.same_settings ∙ a.same_settings;
  same_gone = b.same_gone ∙ a.same_gone;
  closed_still = λ e. b.closed_still (a.closed_still e);
}

quiet_alike : (k : ℕ) (d : ServerEvent) (g : List ServerEvent) → IsQuiet d → Alike k g (d ∷ g)
quiet_alike k (Hears now event) g e = absurd e
quiet_alike k (Notes note) g e = absurd e
quiet_alike k (Works (Connects c t user)) g e = absurd e
quiet_alike k (Works (Goes c)) g e = absurd e
quiet_alike k (Works (Does c m)) g e = record {
  same_notes = notes_same k (notes g);
  more = omega arith;
  same_settings = refl;
  same_gone = refl;
  closed_still = λ f. either_shut (settings_of k (work g)) (k == c) m (peer k g) f;
}
quiet_alike k (Works (Rounds now)) g e = record {
  same_notes = notes_same k (notes g);
  more = omega arith;
  same_settings = refl;
  same_gone = refl;
  closed_still = λ f. either_shut (settings_of k (work g)) (is_there k (work g)) peers.Rounds (peer k g) f;
}
quiet_alike k (Works (Carries c j d fates ask)) g e = record {
  same_notes = notes_same k (notes g);
  more = omega arith;
  same_settings = refl;
  same_gone = refl;
  closed_still = λ f.
      let o : Option Settings = settings_of k (work g) in
      let m : List PeerEvent = with_fate d o (outcome_in k fates) (peer k g) in
      either_shut o (k == c) (Answers j (answer_to c d ask (work g))) m (fate_shut d o (outcome_in k fates) (peer k g) f);
}
quiet_alike k d g e =
    record { same_notes = notes_same k (notes g); more = omega arith; same_settings = refl; same_gone = refl; closed_still = λ f. f }

-- doings of one connection
abbrev pub IsOne : ℕ → ServerEvent → Type 0
IsOne c (Works (Goes k)) = k ≡ c
IsOne c (Works (Connects k t user)) = k ≡ c
IsOne c (Notes n) = conn_of n ≡ c
IsOne c d = IsQuiet d

more_made : (n : ConnectionEvent) (h : List ConnectionEvent) → made h ≤ made (n ∷ h)
more_made (Negotiated c token reconnect m) h = omega arith
more_made (Opened c m) h = omega arith
more_made (Socketed c lane m) h = omega arith
more_made (Polled c lane m) h = omega arith
more_made (Answered c lane m) h = omega arith
more_made (LaneLost c lane m) h = omega arith
more_made (Ended c m) h = omega arith
more_made (Expired c m) h = omega arith
more_made (Removed c) h = omega arith

one_alike : (c k : ℕ) (d : ServerEvent) (g : List ServerEvent) → (k == c) ≡ false → IsOne c d → Alike k g (d ∷ g)
one_alike c k (Works (Goes x)) g n e =
    let other : (k == x) ≡ false = ap (λ y. k == y) e ∙ n in
    record {
      same_notes = notes_same k (notes g);
      more = omega arith;
      same_settings = refl;
      same_gone = ap (λ b. b || has_gone k (work g)) other;
      closed_still = λ f. f;
    }
one_alike c k (Works (Connects x t user)) g n e =
    let other : (k == x) ≡ false = ap (λ y. k == y) e ∙ n in
    let same : settings_of k (work (Works (Connects x t user) ∷ g)) ≡ settings_of k (work g)
    = ap (λ b. if b then Some t else settings_of k (work g)) other in
    record {
      same_notes = notes_same k (notes g);
      more = omega arith;
      same_settings = same;
      same_gone = refl;
      closed_still = λ f. subst (λ o. Shut o (peer k g)) (sym same) f;
    }
one_alike c k (Notes x) g n e = record {
  same_notes = same_of_another k x (notes g) (ap (λ y. k == y) e ∙ n);
  more = more_made x (notes g);
  same_settings = refl;
  same_gone = refl;
  closed_still = λ f. f;
}
one_alike c k d g n e = quiet_alike k d g e

pub others_alike : (c k : ℕ) (ds g : List ServerEvent) → (k == c) ≡ false → Each (IsOne c) ds → Alike k g (onto ds g)
others_alike c k [] g n a = alike_same k g
others_alike c k (d ∷ ds) g n a =
    alike_then k g (d ∷ g) (onto ds (d ∷ g)) (one_alike c k d g n a.0) (others_alike c k ds (d ∷ g) n a.1)

pub quiet_onto : (k : ℕ) (ds g : List ServerEvent) → Each IsQuiet ds → Alike k g (onto ds g)
quiet_onto k [] g a = alike_same k g
quiet_onto k (d ∷ ds) g a = alike_then k g (d ∷ g) (onto ds (d ∷ g)) (quiet_alike k d g a.0) (quiet_onto k ds (d ∷ g) a.1)

pub quiet_after : (k : ℕ) (ds g : List ServerEvent) → Each IsQuiet ds → Alike k g (ds ++ g)
quiet_after k [] g a = alike_same k g
quiet_after k (d ∷ ds) g a = alike_then k g (ds ++ g) (d ∷ ds ++ g) (quiet_after k ds g a.1) (quiet_alike k d (ds ++ g) a.0)

-- ---- what holds of each

pub record Blank (k : ℕ) (g : List ServerEvent) : Type 0 where
  pub no_poll : is_polling k (notes g) ≡ false
  pub stands_not : is_some (socket_of k (notes g)) ≡ false
  pub ends_not : is_some (ended_at k (notes g)) ≡ false
  pub goes_not : has_gone k (work g) ≡ false

pub record Own (k : ℕ) (g : List ServerEvent) : Type 0 where
  pub there : Known k (notes g) → is_polling k (notes g) ≡ true → has_peer k g ≡ true
  pub sits : Known k (notes g) → is_some (socket_of k (notes g)) ≡ true → has_peer k g ≡ true
  pub not_gone : Known k (notes g) → has_gone k (work g) ≡ false
  pub no_socket : Known k (notes g) → is_polling k (notes g) ≡ true → (socket_of k (notes g) ≡ None) × (lost_at k (notes g) ≡ None)
  pub ended_polls : Known k (notes g) → is_some (ended_at k (notes g)) ≡ true → is_polling k (notes g) ≡ true
  pub ended_closed : Known k (notes g) → is_some (ended_at k (notes g)) ≡ true → has_closed k g ≡ true
  pub unmade : made (notes g) < k → Blank k g

module _ (k : ℕ) (g x : List ServerEvent) (a : Alike k g x) where
  polls_alike : is_polling k (notes x) ≡ is_polling k (notes g)
  polls_alike = rw (a.same_notes.of_poll, a.same_notes.of_reply) refl

  pub known_alike : Known k (notes x) → Known k (notes g)
  known_alike u = ap is_known (sym (standing_same k (notes x) (notes g) a.same_notes)) ∙ u

  pub peer_alike : has_peer k x ≡ has_peer k g
  peer_alike = ap (λ o. is_some o && not (has_gone k (work x))) a.same_settings ∙ ap (λ b. is_some (settings_of k (work g)) && not b) a.same_gone

  pub own_alike : Own k g → Own k x
  own_alike o = record {
    there = λ u e. peer_alike ∙ o.there (known_alike u) (sym polls_alike ∙ e);
    sits = λ u e. peer_alike ∙ o.sits (known_alike u) (sym (ap is_some a.same_notes.of_socket) ∙ e);
    not_gone = λ u. a.same_gone ∙ o.not_gone (known_alike u);
    no_socket = λ u e. let was = o.no_socket (known_alike u) (sym polls_alike ∙ e) in (a.same_notes.of_socket ∙ was.0, a.same_notes.of_loss ∙ was.1);
    ended_polls = λ u e. polls_alike ∙ o.ended_polls (known_alike u) (sym (ap is_some a.same_notes.of_end) ∙ e);
    ended_closed = λ u e. a.closed_still (o.ended_closed (known_alike u) (sym (ap is_some a.same_notes.of_end) ∙ e));
    unmade = λ over.
        let was = o.unmade (omega (arith, over, a.more)) in
        record {
          no_poll = polls_alike ∙ was.no_poll;
          stands_not = ap is_some a.same_notes.of_socket ∙ was.stands_not;
          ends_not = ap is_some a.same_notes.of_end ∙ was.ends_not;
          goes_not = a.same_gone ∙ was.goes_not;
        };
  }

-- ---- what is done of one itself

never : (o : Option Settings) (m : List PeerEvent) → is_some o ≡ false → Shut o m → ⊥
never None m e f = absurd (let z : false ≡ true = f in cc)
never (Some t) m e f = absurd (let z : true ≡ false = e in cc)

polls_still : (lane now : ℕ) (o : Option (ℕ × ℕ)) (r : Option ℕ)
    → (is_some (if is_this lane (option_map (λ p. p.0) o) then None else o) || is_some (if is_this lane (option_map (λ p. p.0) o) then Some now else r))
    ≡ (is_some o || is_some r)
polls_still lane now None r = refl
polls_still lane now (Some p) r = by (lane == p.0) where
  by : (b : Bool) → (is_some (if◌then◌else◌ {A = Option (ℕ × ℕ)} b None (Some p)) || is_some (if b then Some now else r)) ≡ (is_some (Some p) || is_some r)
  by true = refl
  by false = refl

stood : (lane : ℕ) (o : Option ℕ) → is_some (if is_this lane o then None else o) ≡ true → is_some o ≡ true
stood lane None e = e
stood lane (Some l) e = refl

module _ (k : ℕ) (g : List ServerEvent) (o : Own k g) where
  -- one that was let go, or never was
  pub own_unknown : (x : List ServerEvent) → (Known k (notes x) → ⊥) → k ≤ made (notes x) → Own k x
  own_unknown x none old = record {
    there = λ u e. absurd (none u);
    sits = λ u e. absurd (none u);
    not_gone = λ u. absurd (none u);
    no_socket = λ u e. absurd (none u);
    ended_polls = λ u e. absurd (none u);
    ended_closed = λ u e. absurd (none u);
    unmade = λ over. absurd (omega (arith, over, old));
  }

  -- a new one
  new_own : (x : List ServerEvent) → Blank k g → Blank k x → k ≤ made (notes x) → Own k x
  new_own x was b old = record {
    there = λ u e. absurd (let z : false ≡ true = sym b.no_poll ∙ e in cc);
    sits = λ u e. absurd (let z : false ≡ true = sym b.stands_not ∙ e in cc);
    not_gone = λ u. b.goes_not;
    no_socket = λ u e. absurd (let z : false ≡ true = sym b.no_poll ∙ e in cc);
    ended_polls = λ u e. absurd (let z : false ≡ true = sym b.ends_not ∙ e in cc);
    ended_closed = λ u e. absurd (let z : false ≡ true = sym b.ends_not ∙ e in cc);
    unmade = λ over. absurd (omega (arith, over, old));
  }

  pub own_opened : (now : ℕ) → k ≡ suc (made (notes g)) → Own k (Notes (Opened k now) ∷ g)
  own_opened now e =
      let b = o.unmade (omega (arith, e)) in
      new_own (Notes (Opened k now) ∷ g) b
      (record { no_poll = b.no_poll; stands_not = b.stands_not; ends_not = b.ends_not; goes_not = b.goes_not }) (omega (arith, e))

  pub own_negotiated : (token : List ℕ) (reconnect : Bool) (now : ℕ) → k ≡ suc (made (notes g)) → Own k (Notes (Negotiated k token reconnect now) ∷ g)
  own_negotiated token reconnect now e =
      let b = o.unmade (omega (arith, e)) in
      new_own (Notes (Negotiated k token reconnect now) ∷ g) b
      (record { no_poll = b.no_poll; stands_not = b.stands_not; ends_not = b.ends_not; goes_not = b.goes_not }) (omega (arith, e))

module _ (k : ℕ) (g : List ServerEvent) (o : Own k g) (old : k ≤ made (notes g)) where
  pub own_connects : (t : Settings) (user : Option (List ℕ)) → is_some (settings_of k (work g)) ≡ false → Own k (Works (Connects k t user) ∷ g)
  own_connects t user none =
      let begins : Known k (notes g) → has_peer k (Works (Connects k t user) ∷ g) ≡ true = λ u. rw (eq-eqb k k refl, o.not_gone u) refl in
      record {
        there = λ u e. begins u;
        sits = λ u e. begins u;
        not_gone = o.not_gone;
        no_socket = o.no_socket;
        ended_polls = o.ended_polls;
        ended_closed = λ u e. absurd (never (settings_of k (work g)) (peer k g) none (o.ended_closed u e));
        unmade = λ over. absurd (omega (arith, over, old));
      }

  module _ (was_known : Known k (notes g)) where
    pub own_socketed : (lane now : ℕ) → has_peer k g ≡ true → is_polling k (notes g) ≡ false → Own k (Notes (Socketed k lane now) ∷ g)
    own_socketed lane now peer_is none = record {
      there = λ u e. peer_is;
      sits = λ u e. peer_is;
      not_gone = λ u. o.not_gone was_known;
      no_socket = λ u e. absurd (let z : false ≡ true = sym none ∙ e in cc);
      ended_polls = λ u e. o.ended_polls was_known e;
      ended_closed = λ u e. o.ended_closed was_known e;
      unmade = λ over. absurd (omega (arith, over, old));
    }

    pub own_polled : (lane now : ℕ) → has_peer k g ≡ true → socket_of k (notes g) ≡ None → lost_at k (notes g) ≡ None
        → Own k (Notes (Polled k lane now) ∷ g)
    own_polled lane now peer_is no_socket no_loss = record {
      there = λ u e. peer_is;
      sits = λ u e. peer_is;
      not_gone = λ u. o.not_gone was_known;
      no_socket = λ u e. (no_socket, no_loss);
      ended_polls = λ u e. rw (eq-eqb k k refl) refl;
      ended_closed = λ u e. o.ended_closed was_known e;
      unmade = λ over. absurd (omega (arith, over, old));
    }

    pub own_answered : (lane now : ℕ) → Own k (Notes (Answered k lane now) ∷ g)
    own_answered lane now =
        let same : is_polling k (Answered k lane now ∷ notes g) ≡ is_polling k (notes g)
        = rw (eq-eqb k k refl) (polls_still lane now (poll_of k (notes g)) (poll_ended k (notes g))) in
        record {
          there = λ u e. o.there was_known (sym same ∙ e);
          sits = λ u e. o.sits was_known e;
          not_gone = λ u. o.not_gone was_known;
          no_socket = λ u e. o.no_socket was_known (sym same ∙ e);
          ended_polls = λ u e. same ∙ o.ended_polls was_known e;
          ended_closed = λ u e. o.ended_closed was_known e;
          unmade = λ over. absurd (omega (arith, over, old));
        }

    pub own_lost : (lane now : ℕ) → Own k (Notes (LaneLost k lane now) ∷ g)
    own_lost lane now =
        let same : is_polling k (LaneLost k lane now ∷ notes g) ≡ is_polling k (notes g)
        = rw (eq-eqb k k refl) (polls_still lane now (poll_of k (notes g)) (poll_ended k (notes g))) in
        let socket : socket_of k (LaneLost k lane now ∷ notes g) ≡ (if is_this lane (socket_of k (notes g)) then None else socket_of k (notes g))
        = rw (eq-eqb k k refl) refl in
        let loss : lost_at k (LaneLost k lane now ∷ notes g) ≡ (if is_this lane (socket_of k (notes g)) then Some now else lost_at k (notes g))
        = rw (eq-eqb k k refl) refl in
        record {
          there = λ u e. o.there was_known (sym same ∙ e);
          sits = λ u e. o.sits was_known (stood lane (socket_of k (notes g)) (sym (ap is_some socket) ∙ e));
          not_gone = λ u. o.not_gone was_known;
          no_socket = λ u e.
              let was = o.no_socket was_known (sym same ∙ e) in (
                socket ∙ ap (λ s. if is_this lane s then None else s) was.0,
                loss ∙ ap (λ s. if is_this lane s then Some now else lost_at k (notes g)) was.0 ∙ was.1,
              );
          ended_polls = λ u e. same ∙ o.ended_polls was_known e;
          ended_closed = λ u e. o.ended_closed was_known e;
          unmade = λ over. absurd (omega (arith, over, old));
        }

    pub own_ended : (now : ℕ) → is_polling k (notes g) ≡ true → has_closed k g ≡ true → Own k (Notes (Ended k now) ∷ g)
    own_ended now polls closed = record {
      there = λ u e. o.there was_known e;
      sits = λ u e. o.sits was_known e;
      not_gone = λ u. o.not_gone was_known;
      no_socket = λ u e. o.no_socket was_known e;
      ended_polls = λ u e. polls;
      ended_closed = λ u e. closed;
      unmade = λ over. absurd (omega (arith, over, old));
    }

    pub own_expired : (now : ℕ) → is_polling k (notes g) ≡ true → has_closed k g ≡ true → Own k (Notes (Expired k now) ∷ g)
    own_expired now polls closed = record {
      there = λ u e. o.there was_known e;
      sits = λ u e. o.sits was_known e;
      not_gone = λ u. o.not_gone was_known;
      no_socket = λ u e. o.no_socket was_known e;
      ended_polls = λ u e. polls;
      ended_closed = λ u e. closed;
      unmade = λ over. absurd (omega (arith, over, old));
    }
