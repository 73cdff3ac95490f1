-- What a connection says that stands on no socket, and which way it says anything.
use Rattle.std.proofs.Common.{◌≡◌, ℕ, Bool, true, false, not, ◌&&◌, ◌||◌, List, [], ◌∷◌, ◌++◌, Option, Some, None, is_some}
use Rattle.std.proofs.Common.{refl, sym, ap, subst, ◌∙◌, Result, Ok, Err, OnOk}
use Rattle.std.specs.Prelude.{if◌then◌else◌, ◌==◌}
use Rattle.std.specs.Ordering.{nat_cmp}
use Rattle.std.specs.BTreeMap.{get}
use Rattle.std.proofs.lemmas.Bool.{both_ways, eqb-true, true≢false}
use Rattle.std.proofs.lemmas.List.{append-nil}
use Rattle.hd_delivery.specs.Due.{due, due_on}
use Rattle.hd_delivery.specs.Frames.{LinkFrame}
use Rattle.hd_calls.specs.Hubs.{Hub}
use Rattle.hd_calls.specs.Peers.{is_shut, steps}
use Rattle.hd_server.specs.declared.vocabulary.Said.{Said}
use Rattle.hd_server.specs.Lives.{Ended, ended_at, is_removed, is_polling, lost_at, poll_ended, poll_of, socket_of}
use Rattle.hd_server.specs.Doings.{ServerEvent, Notes, config_of, has_closed, has_peer, history, moment, notes}
use Rattle.hd_server.specs.Plans.{Setup, removing_conn, onto}
use Rattle.hd_server.specs.Serves.{AreDueOn, LendsUpTo, all_of, ending, flushing_on, flushing_poll, flushing_some_poll}
use Rattle.hn_server_front.specs.declared.entry.Held.{Held}
use Rattle.hn_server_front.specs.declared.front.Front.{Front}
use Rattle.hn_server_front.specs.Calls as calls
use Rattle.hn_server_front.specs.Entries.{held_as}
use Rattle.hn_server_front.specs.Stands as stands
use Rattle.hd_server.specs.Laws.{PartsOfTurns}
use Rattle.hub_machine.specs.declared.machine.Machine.{Machine}
use Rattle.hub_server.specs.declared.server.Server.{Server}
use Rattle.hub_machine.specs.Machines.{IsIndexed, OfConn, StandsMachine, peer_at}
use Rattle.hub_machine.specs.Sleeping.{IsUpWithCause}
use Rattle.hub_server.specs.Connections.{Frees, IsKnown}
use Rattle.hub_server.specs.Lanes.{Unsettled, settled}
use Rattle.hub_server.specs.Servers.{IsOrderly, IsRested, OfEach, Standing, StandsFront, may_speak}
use Rattle.hub_server.specs.Flushes.{FlushesOne, FlushesPoll}
use Rattle.hub_server.proofs.LaneKept.{lane_kept, same_lane_note}
use Rattle.hub_server.proofs.OntoAlike.{onto_append}
use Rattle.hub_server.proofs.FlushSaid.{closed_is, gone_after, is_one, standing_rests, up_there}
use Rattle.hub_server.proofs.FlushOthersUnchanged.{all_polls}
use Rattle.hub_server.proofs.FrontNoted.{noted_front}
use Rattle.hub_server.proofs.Resting.{unpolled_is_mute, up_gone}

-- of what holds once all is well something else follows
pub on_ok : {A E : Type 0} (r : Result A E) (P Q : Type 0) → (P → Q) → OnOk r P → OnOk r Q
on_ok (Ok x) P Q f p = f p
on_ok (Err e) P Q f p = tt

pub on_ok_both : {A E : Type 0} (r : Result A E) (P Q R : Type 0) → (P → Q → R) → OnOk r P → OnOk r Q → OnOk r R
on_ok_both (Ok x) P Q R f p q = f p q
on_ok_both (Err e) P Q R f p q = tt

-- ---- of a connection that is there a front tells what was noted

there_noted : (c : ℕ) (h : List ServerEvent) → IsKnown c h → stands.is_there c (notes h) ≡ true
there_noted c h k = ap (λ (b : Bool). b && not (is_removed c (notes h))) k.made ∙ ap not k.held

pub noted_known : {H Job : Type 0} (hub : Hub Job) (s : Setup) (u : Unsettled) (before : List Said) (v : Server H Job) (c : ℕ) (h : List ServerEvent)
    → Standing {H = H} hub s u before v h → has_peer c h ≡ true → stands.is_there c (notes h) ≡ true
noted_known {H} {Job} hub s u before v c h x there = there_noted c h (is_one {H = H} {Job = Job} hub s u before v c h x there).known

pub socket_told : {H Job : Type 0} (hub : Hub Job) (s : Setup) (u : Unsettled) (before : List Said) (v : Server H Job) (c : ℕ) (h : List ServerEvent)
    (o r : Option ℕ)
    → Standing {H = H} hub s u before v h → has_peer c h ≡ true → calls.OfEach v.front (λ n. o ≡ calls.lane_of c n) → o ≡ r
    → socket_of c (notes h) ≡ r
socket_told {H} {Job} hub s u before v c h o r x there told is =
    sym (told (notes h) x.front.stands ∙ ap (λ (b : Bool). if b then socket_of c (notes h) else None)
    (noted_known {H = H} {Job = Job} hub s u before v c h x there)) ∙ is

pub polls_told : {H Job : Type 0} (hub : Hub Job) (s : Setup) (u : Unsettled) (before : List Said) (v : Server H Job) (c : ℕ) (h : List ServerEvent)
    (a b : Bool)
    → Standing {H = H} hub s u before v h → has_peer c h ≡ true → calls.OfEach v.front (λ n. a ≡ (stands.is_there c n && is_polling c n)) → a ≡ b
    → is_polling c (notes h) ≡ b
polls_told {H} {Job} hub s u before v c h a b x there told is =
    sym (told (notes h) x.front.stands ∙ ap (λ (z : Bool). z && is_polling c (notes h)) (noted_known {H = H} {Job = Job} hub s u before v c h x there)) ∙ is

ended_told : {H Job : Type 0} (hub : Hub Job) (s : Setup) (u : Unsettled) (before : List Said) (v : Server H Job) (c : ℕ) (h : List ServerEvent)
    (a b : Bool)
    → Standing {H = H} hub s u before v h → has_peer c h ≡ true → calls.OfEach v.front (λ n. a ≡ (stands.is_there c n && is_some (ended_at c n)))
    → a ≡ b
    → is_some (ended_at c (notes h)) ≡ b
ended_told {H} {Job} hub s u before v c h a b x there told is =
    sym (told (notes h) x.front.stands ∙ ap (λ (z : Bool). z && is_some (ended_at c (notes h)))
    (noted_known {H = H} {Job = Job} hub s u before v c h x there)) ∙ is

poll_told : {H Job : Type 0} (hub : Hub Job) (s : Setup) (u : Unsettled) (before : List Said) (v : Server H Job) (c : ℕ) (h : List ServerEvent)
    (o r : Option Held)
    → Standing {H = H} hub s u before v h → has_peer c h ≡ true → calls.OfEach v.front (λ n. held_as o ≡ calls.poll_held c n) → o ≡ r
    → poll_of c (notes h) ≡ held_as r
poll_told {H} {Job} hub s u before v c h o r x there told is =
    sym (told (notes h) x.front.stands ∙ ap (λ (b : Bool). if b then poll_of c (notes h) else None)
    (noted_known {H = H} {Job = Job} hub s u before v c h x there))
    ∙ ap held_as is

-- ---- the token of one that polls

-- a server that stood stands with its ending noted too
standing_ends : {H Job : Type 0} (hub : Hub Job) (s : Setup) (u : Unsettled) (before : List Said) (v : Server H Job) (f : Front) (c : ℕ)
    (h : List ServerEvent)
    → Standing {H = H} hub s u before v h → StandsFront s.live f (Ended c (moment h) ∷ notes h) → is_polling c (notes h) ≡ true
    → Standing {H = H} hub s u before (record v { front = f }) (Notes (Ended c (moment h)) ∷ h)
standing_ends {H} hub s u before v f c h x noted polls = record {
  setup = x.setup;
  machine = x.machine;
  front = noted;
  callers = x.callers;
  lanes = λ lane. lane_kept u (get nat_cmp v.lanes lane) lane (Notes (Ended c (moment h)) ∷ h) h (same_lane_note lane (Ended c (moment h)) h)
      (λ k. refl) (λ k. refl) (x.lanes lane);
  begun = x.begun;
  orderly = λ k. let o : IsOrderly u k h = x.orderly k in record {
    made = o.made;
    there = o.there;
    gone = o.gone;
    one_way = o.one_way;
    ended = go k (k == c) refl o.ended;
    unused = o.unused;
    used = o.used;
    linked = o.linked;
    unlinked = o.unlinked;
    kept = o.kept;
    links = o.links;
    timely = o.timely;
    handled = o.handled;
    taken = o.taken;
  };
  clock = x.clock;
  words = x.words;
}
  where
    go : (k : ℕ) (b : Bool) → (k == c) ≡ b → (is_some (ended_at k (notes h)) ≡ true → is_polling k (notes h) ≡ true)
        → is_some (if b && not (is_some (ended_at k (notes h))) then Some (moment h) else ended_at k (notes h)) ≡ true → is_polling k (notes h) ≡ true
    go k true e ended f = subst (λ n. is_polling n (notes h) ≡ true) (sym (eqb-true k c e)) polls
    go k false e ended f = ended f

module _ {H Job : Type 0} (hub : Hub Job) (s : Setup) (u : Unsettled) (before : List Said) (v : Server H Job) (c : ℕ) (h : List ServerEvent)
    (x : Standing {H = H} hub s u before v h) (there : has_peer c h ≡ true) (r : Bool)
    (of : OfConn {H = H} hub v.machine c (λ w t k. r ≡ is_shut t k)) where
  closed_so : has_closed c h ≡ r
  closed_so = sym (closed_is {H = H} {Job = Job} hub s u before v c h x there r of)

  ends_is : (a b : Bool) → has_closed c h ≡ a → is_some (ended_at c (notes h)) ≡ b → onto (ending (moment h) c h) h ≡ onto
      (if a && not b then Notes (Ended c (moment h)) ∷ [] else []) h
  ends_is a b e f =
      ap (λ (z : Bool). onto (if z && not (is_some (ended_at c (notes h))) then Notes (Ended c (moment h)) ∷ [] else []) h) e
      ∙ ap (λ (z : Bool). onto (if a && not z then Notes (Ended c (moment h)) ∷ [] else []) h) f

  -- its end is open
  pub ends_open : r ≡ false → Standing {H = H} hub s u before v (onto (ending (moment h) c h) h)
  ends_open e = subst (λ g. Standing {H = H} hub s u before v g) (sym (ends_is false (is_some (ended_at c (notes h))) (closed_so ∙ e) refl)) x

  -- or it is ending already
  pub ends_still : (a : Bool) → r ≡ true → calls.OfEach v.front (λ n. a ≡ (stands.is_there c n && is_some (ended_at c n))) → a ≡ true
      → Standing {H = H} hub s u before v (onto (ending (moment h) c h) h)
  ends_still a e told is = subst (λ g. Standing {H = H} hub s u before v g)
      (sym (ends_is true true (closed_so ∙ e) (ended_told {H = H} {Job = Job} hub s u before v c h a true x there told is))) x

  -- or it begins to end
  pub ends_now : (a : Bool) (f : Front) (now : ℕ) → r ≡ true → calls.OfEach v.front (λ n. a ≡ (stands.is_there c n && is_some (ended_at c n)))
      → a ≡ false
      → is_polling c (notes h) ≡ true → now ≡ v.moment → calls.IsNoted v.front f c (Ended c now)
      → Standing {H = H} hub s u before (record v { front = f }) (onto (ending (moment h) c h) h)
  ends_now a f now e told is polls clock noted = subst (λ g. Standing {H = H} hub s u before (record v { front = f }) g)
      (sym (ends_is true false (closed_so ∙ e) (ended_told {H = H} {Job = Job} hub s u before v c h a false x there told is)))
      (standing_ends {H = H} {Job = Job} hub s u before v f c h x
      (subst (λ (n : ℕ). StandsFront s.live f (Ended c n ∷ notes h)) (clock ∙ x.clock) (noted_front s.live v.front f c (Ended c now) (notes h) noted x.front
      (is_one {H = H} {Job = Job} hub s u before v c h x there).known.made)) polls)

-- ---- one that polls has told

module _ {H Job : Type 0} (hub : Hub Job) (s : Setup) (before : List Said) (v : Server H Job) (c : ℕ) (h : List ServerEvent)
    (x : Standing {H = H} hub s settled before v (onto (ending (moment h) c h) h)) (there : has_peer c h ≡ true)
    (polls : is_polling c (notes h) ≡ true) (parts : PartsOfTurns) where
  -- what its ending leaves
  record Left (g : List ServerEvent) : Type 0 where
    noted : poll_of c (notes g) ≡ poll_of c (notes h)
    stays : has_peer c g ≡ has_peer c h
    due : (fs : List LinkFrame) → LendsUpTo s.wire (config_of c g) (history c g) 0 fs → LendsUpTo s.wire (config_of c h) (history c h) 0 fs
    same : (p : ℕ × ℕ) (fs : List LinkFrame) → flushing_poll s (moment g) c p fs g ≡ flushing_poll s (moment h) c p fs h

  left : Left (onto (ending (moment h) c h) h)
  left = go (has_closed c h && not (is_some (ended_at c (notes h))))
    where
      go : (b : Bool) → Left (onto (if b then Notes (Ended c (moment h)) ∷ [] else []) h)
      go true = record { noted = refl; stays = refl; due = λ fs d. d; same = λ p fs. same_poll p fs }
        where
          same_poll : (p : ℕ × ℕ) (fs : List LinkFrame) → flushing_poll s (moment h) c p fs (Notes (Ended c (moment h)) ∷ h) ≡ flushing_poll s
              (moment h) c p fs h
          same_poll p [] = refl
          same_poll p (f ∷ fs) = refl
      go false = record { noted = refl; stays = refl; due = λ fs d. d; same = λ p fs. refl }

  rested_polling : (pieces : List (List LinkFrame)) → IsRested c (onto (flushing_on s (moment h) c None pieces h) h)
  rested_polling pieces = λ at off. absurd (both_ways (is_polling c (notes (onto (flushing_on s (moment h) c None pieces h) h))) off
      (all_polls c c (flushing_on s (moment h) c None pieces h) h (parts.flushing_is s (moment h) c None pieces h) polls))

  polling_still : (pieces : List (List LinkFrame)) → is_polling c (notes (onto (flushing_on s (moment h) c None pieces h) h)) ≡ true
  polling_still pieces = all_polls c c (flushing_on s (moment h) c None pieces h) h (parts.flushing_is s (moment h) c None pieces h) polls

  told_is : (o : Option (ℕ × ℕ)) (pieces : List (List LinkFrame)) → poll_of c (notes h) ≡ o
      → onto (flushing_on s (moment h) c None pieces h) h ≡ onto (flushing_some_poll s (moment h) c o (all_of pieces) h)
      (onto (ending (moment h) c h) h)
  told_is o pieces e =
      ap (λ (b : Bool). onto (if b then ending (moment h) c h ++ flushing_some_poll s (moment h) c (poll_of c (notes h)) (all_of pieces) h
      else (if has_closed c h then removing_conn c h else [])) h) polls
      ∙ onto_append (ending (moment h) c h) (flushing_some_poll s (moment h) c (poll_of c (notes h)) (all_of pieces) h) h
      ∙ ap (λ (q : Option (ℕ × ℕ)). onto (flushing_some_poll s (moment h) c q (all_of pieces) h) (onto (ending (moment h) c h) h)) e

  -- it holds no poll
  pub tells_nothing : (o : Option Held) → calls.OfEach v.front (λ n. held_as o ≡ calls.poll_held c n) → o ≡ None
      → FlushesOne {H = H} hub s before v c None (poll_of c (notes h)) h
  tells_nothing o told is =
      let none : poll_of c (notes h) ≡ None = sym left.noted ∙ poll_told {H = H} {Job = Job} hub s settled before v c
      (onto (ending (moment h) c h) h) o None x (left.stays ∙ there) told is in
      record {
        pieces = [];
        due = subst (λ (p : Option (ℕ × ℕ)). AreDueOn s c None p [] h) (sym none) refl;
        stands = subst (λ (g : List ServerEvent). Standing {H = H} hub s settled before v g) (sym (told_is None [] none)) x;
        rested = rested_polling [];
        cause = λ speaks. absurd (both_ways (may_speak c (onto (flushing_on s (moment h) c None [] h) h))
            (unpolled_is_mute {H = H} {Job = Job} hub s settled before v c (onto (flushing_on s (moment h) c None [] h) h)
            (subst (λ (g : List ServerEvent). Standing {H = H} hub s settled before v g) (sym (told_is None [] none)) x)
            (polling_still []) (ap (λ (g : List ServerEvent). poll_of c (notes g)) (told_is None [] none) ∙ left.noted ∙ none)) speaks);
      }

  -- it holds one
  pub tells_held : (o : Option Held) (held : Held) (new : Server H Job) → calls.OfEach v.front (λ n. held_as o ≡ calls.poll_held c n) → o ≡ Some held
      → OfEach {H = H} hub v (λ t u said g. u ≡ settled → has_peer c g ≡ true → poll_of c (notes g) ≡ Some (held.lane, held.since)
      → FlushesPoll {H = H} hub t said new c (held.lane, held.since) g)
      → FlushesOne {H = H} hub s before new c None (poll_of c (notes h)) h
  tells_held o held new told is tells =
      let g : List ServerEvent = onto (ending (moment h) c h) h in
      let holds : poll_of c (notes g) ≡ Some (held.lane, held.since) =
      poll_told {H = H} {Job = Job} hub s settled before v c g o (Some held) x (left.stays ∙ there) told is in
      let some : poll_of c (notes h) ≡ Some (held.lane, held.since) = sym left.noted ∙ holds in
      let one : FlushesPoll {H = H} hub s before new c (held.lane, held.since) g = tells s settled before g x refl (left.stays ∙ there) holds in
      let all : all_of (one.frames ∷ []) ≡ one.frames = append-nil one.frames in
      record {
        pieces = one.frames ∷ [];
        due = subst (λ (p : Option (ℕ × ℕ)). AreDueOn s c None p (one.frames ∷ []) h) (sym some)
            (subst (λ (fs : List LinkFrame). LendsUpTo s.wire (config_of c h) (history c h) 0 fs) (sym all) (left.due one.frames one.due));
        stands = subst (λ (k : List ServerEvent). Standing {H = H} hub s settled before new k)
            (sym (told_is (Some (held.lane, held.since)) (one.frames ∷ []) some
            ∙ ap (λ (fs : List LinkFrame). onto (flushing_poll s (moment h) c (held.lane, held.since) fs h) g) all))
            (subst (λ (xs : List ServerEvent). Standing {H = H} hub s settled before new (onto xs g))
            (left.same (held.lane, held.since) one.frames) one.stands);
        rested = rested_polling (one.frames ∷ []);
        cause = subst (λ (k : List ServerEvent). may_speak c k ≡ true → IsUpWithCause {H = H} hub new.machine c)
            (sym (told_is (Some (held.lane, held.since)) (one.frames ∷ []) some
            ∙ ap (λ (fs : List LinkFrame). onto (flushing_poll s (moment h) c (held.lane, held.since) fs h) g) all))
            (subst (λ (xs : List ServerEvent). may_speak c (onto xs g) ≡ true → IsUpWithCause {H = H} hub new.machine c)
            (left.same (held.lane, held.since) one.frames) one.cause);
      }

-- ---- one that neither stands on a socket nor polls

module _ {H Job : Type 0} (hub : Hub Job) (s : Setup) (u : Unsettled) (before : List Said) (v : Server H Job) (c : ℕ) (h : List ServerEvent) (r : Bool)
    (y : Standing {H = H} hub s u before v h) (calm : u ≡ settled) (there : has_peer c h ≡ true) (off : socket_of c (notes h) ≡ None)
    (mute : is_polling c (notes h) ≡ false)
    (of : OfConn {H = H} hub v.machine c (λ w t k. r ≡ is_shut t k)) where
  x : Standing {H = H} hub s settled before v h
  x = subst (λ w. Standing {H = H} hub s w before v h) calm y

  no_poll : poll_of c (notes h) ≡ None
  no_poll = go (poll_of c (notes h)) mute
    where
      go : (o : Option (ℕ × ℕ)) → (is_some o || is_some (poll_ended c (notes h))) ≡ false → o ≡ None
      go None e = refl
      go (Some p) e = absurd (true≢false e)

  mute_is : (b : Bool) → has_closed c h ≡ b → onto (flushing_on s (moment h) c None [] h) h ≡ onto (if b then removing_conn c h else []) h
  mute_is b e =
      ap (λ (z : Bool). onto (if z then ending (moment h) c h ++ flushing_some_poll s (moment h) c (poll_of c (notes h)) [] h
      else (if has_closed c h then removing_conn c h else [])) h) mute
      ∙ ap (λ (z : Bool). onto (if z then removing_conn c h else []) h) e

  told_mute : (new : Server H Job) → Standing {H = H} hub s settled before new (onto (flushing_on s (moment h) c None [] h) h)
      → IsRested c (onto (flushing_on s (moment h) c None [] h) h) → IsUpWithCause {H = H} hub new.machine c
      → FlushesOne {H = H} hub s before new c (socket_of c (notes h)) (poll_of c (notes h)) h
  told_mute new stood rested up =
      subst (λ (o : Option ℕ). FlushesOne {H = H} hub s before new c o (poll_of c (notes h)) h) (sym off) (record {
        pieces = [];
        due = subst (λ (p : Option (ℕ × ℕ)). AreDueOn s c None p [] h) (sym no_poll) refl;
        stands = stood;
        rested = rested;
        cause = λ speaks. up;
      })

  -- it has lost its link, so nothing is due there
  lost : is_some (lost_at c (notes h)) ≡ true
  lost =
      sym (ap (λ (o : Option ℕ). is_some o || is_some (lost_at c (notes h)) || is_polling c (notes h)) off
      ∙ ap (λ (b : Bool). is_some (lost_at c (notes h)) || b) mute ∙ or_false (is_some (lost_at c (notes h))))
      ∙ (let o : IsOrderly settled c h = x.orderly c in o.used there)
    where
      or_false : (b : Bool) → (b || false) ≡ b
      or_false true = refl
      or_false false = refl

  nothing : due (config_of c h) (history c h) ≡ None
  nothing = ap (due_on (config_of c h) (history c h)) (let o : IsOrderly settled c h = x.orderly c in o.unlinked there lost)

  pub mute_open : (m : Machine H Job) → r ≡ false
      → OfConn {H = H} hub v.machine c (λ w t k. due t.config (steps t k) ≡ None → StandsMachine {H = H} hub m w)
      → (IsIndexed {H = H} v.machine → IsUpWithCause {H = H} hub m c)
      → FlushesOne {H = H} hub s before (record v { machine = m }) c (socket_of c (notes h)) (poll_of c (notes h)) h
  mute_open m e rests up =
      let shut : has_closed c h ≡ false = sym (closed_is {H = H} {Job = Job} hub s settled before v c h x there r of) ∙ e in
      told_mute (record v { machine = m })
      (subst (λ g. Standing {H = H} hub s settled before (record v { machine = m }) g) (sym (mute_is false shut))
      (standing_rests {H = H} {Job = Job} hub s settled before v c h x there m nothing rests))
      (subst (λ g. IsRested c g) (sym (mute_is false shut)) (λ at quiet. up_there c h at shut))
      (up x.machine.index)

  pub mute_closed : (new : Server H Job) → r ≡ true → OfEach {H = H} hub v (λ t w said g. IsKnown c g
      → Frees {H = H} hub t w said new c g (onto (removing_conn c g) g)) → peer_at new.machine c ≡ None
      → FlushesOne {H = H} hub s before new c (socket_of c (notes h)) (poll_of c (notes h)) h
  mute_closed new e frees absent =
      let shut : has_closed c h ≡ true = sym (closed_is {H = H} {Job = Job} hub s settled before v c h x there r of) ∙ e in
      let freed : Frees {H = H} hub s settled before new c h (onto (removing_conn c h) h) =
      frees s settled before h x (is_one {H = H} {Job = Job} hub s settled before v c h x there).known in
      told_mute new (subst (λ g. Standing {H = H} hub s settled before new g) (sym (mute_is true shut)) freed.stands)
      (subst (λ g. IsRested c g) (sym (mute_is true shut))
      (λ at. absurd (both_ways (has_peer c (onto (removing_conn c h) h)) (gone_after c h h there) at)))
      (up_gone {H = H} {Job = Job} hub new.machine c absent)
