-- An event is heard: all is as it was, but for what the door did with a lane.
use Rattle.std.proofs.Common.{◌≡◌, ◌≤◌, ℕ, ◌==◌, Bool, true, false, ◌||◌, List, ◌∷◌, Option, Some, None, is_some}
use Rattle.std.proofs.Common.{refl, sym, ap, subst, ◌∙◌}
use Rattle.std.specs.Prelude.{if◌then◌else◌}
use Rattle.std.specs.Ordering.{nat_cmp}
use Rattle.std.specs.BTreeMap.{BTreeMap, UpdatesBy, WritesThrough, get}
use Rattle.std.proofs.lemmas.Bool.{both_ways, eqb-true}
use Rattle.std.specs.Cmp.{unsigned_tied}
use Rattle.hw_lanes.specs.declared.http.Refusal.{Refusal as LaneRefusal}
use Rattle.hw_lanes.specs.declared.http.Request.{Request}
use Rattle.hd_calls.specs.Hubs.{Hub}
use Rattle.hw_door.specs.declared.heard.Event.{Event}
use Rattle.hw_door.specs.declared.heard.Event.TheVariants as event
use Rattle.hd_server.specs.declared.vocabulary.Said.{Said}
use Rattle.hd_server.specs.Doings.{ServerEvent, Hears, moment, awaits_reply, is_full, is_upgraded, wants_shut, was_refused}
use Rattle.hd_server.specs.Plans.{Setup}
use Rattle.hd_server.specs.Serves.{IsFree}
use Rattle.hub_server.specs.declared.lane.Lane.{Lane}
use Rattle.hub_server.specs.declared.server.Server.{Server}
use Rattle.hub_server.specs.Lanes.{IsLane, IsNobodys, is_taken, lane_of, settled}
use Rattle.hub_server.specs.Servers.{Standing}
use Rattle.hub_server.specs.Steps.{lost_in}
use Rattle.hub_server.proofs.Alike.{alike_hears, orderly_alike}
use Rattle.hub_server.proofs.LaneKept.{orderly_wider}
use Rattle.hub_server.proofs.StepSees.{other_way, seen_lane}

-- what is kept of a lane then
abbrev pub heard_lane : Event → ℕ → Option Lane → Option Lane
heard_lane (event.Refused lane refusal) k (Some x) = Some (record x { is_refused = (k == lane) || x.is_refused })
heard_lane (event.Drained lane) k o = seen_lane lane false k o
heard_lane _ k o = o

-- a lane that could be on no request's way has nobody
free_is : (k lane : ℕ) (x : Lane) (h : List ServerEvent) → k ≡ lane → is_upgraded lane h ≡ false → awaits_reply lane h ≡ false → is_taken k h ≡ false
free_is k lane x h e a b = ap (λ n. is_taken n h) e ∙ ap (λ z. z || awaits_reply lane h) a ∙ b

pub heard_is : (e : Event) (now k : ℕ) (o : Option Lane) (h : List ServerEvent) → IsFree e h → IsLane settled o k h
    → IsLane (lane_of (lost_in e)) (heard_lane e k o) k (Hears now e ∷ h)
heard_is (event.Request lane r) now k None h free l = λ c. l c
heard_is (event.Refused lane refusal) now k None h free l = λ c. l c
heard_is (event.Bytes lane bytes) now k None h free l = λ c. l c
heard_is (event.Response lane status body) now k None h free l = λ c. l c
heard_is (event.Upgraded lane) now k None h free l = λ c. l c
heard_is (event.Lost lane) now k None h free l = λ c. l c
heard_is (event.Drained lane) now k None h free l = λ c. l c
heard_is event.Quiet now k None h free l = λ c. l c
heard_is (event.Request lane r) now k (Some x) h free l = go (k == lane) refl
  where
    go : (b : Bool) → (k == lane) ≡ b → IsLane (lane_of None) (Some x) k (Hears now (event.Request lane r) ∷ h)
    go true e = absurd (both_ways (is_taken k h) (free_is k lane x h (eqb-true k lane e) free.0 free.1) l.taken)
    go false e = record {
      at = l.at;
      only = l.only;
      polls = l.polls;
      last = l.last ∙ sym (ap (λ b. if b then r.shut else wants_shut k h) e);
      refused = l.refused ∙ sym (ap (λ b. if b then false else was_refused k h) e);
      full = l.full ∙ sym (ap (λ b. if b then false else is_full k h) e);
      taken = ap (λ b. is_upgraded k h || (b || awaits_reply k h)) e ∙ l.taken;
    }
heard_is (event.Refused lane refusal) now k (Some x) h free l = record {
  at = l.at;
  only = l.only;
  polls = l.polls;
  last = l.last;
  refused = ap (λ b. (k == lane) || b) l.refused;
  full = l.full;
  taken = l.taken;
}
heard_is (event.Bytes lane bytes) now k (Some x) h free l = record {
  at = l.at;
  only = l.only;
  polls = l.polls;
  last = l.last;
  refused = l.refused;
  full = l.full;
  taken = l.taken;
}
heard_is (event.Response lane status body) now k (Some x) h free l = record {
  at = l.at;
  only = l.only;
  polls = l.polls;
  last = l.last;
  refused = l.refused;
  full = l.full;
  taken = l.taken;
}
heard_is (event.Upgraded lane) now k (Some x) h free l = record {
  at = l.at;
  only = l.only;
  polls = l.polls;
  last = l.last;
  refused = l.refused;
  full = l.full;
  taken = l.taken;
}
heard_is (event.Lost lane) now k (Some x) h free l = record {
  at = l.at;
  only = l.only;
  polls = l.polls;
  last = l.last;
  refused = l.refused;
  full = l.full;
  taken = go (k == lane) l.taken;
}
  where
    go : (b : Bool) → is_taken k h ≡ true → (b || ((if b then false else is_upgraded k h) || (if b then false else awaits_reply k h))) ≡ true
    go true e = refl
    go false e = e
heard_is (event.Drained lane) now k (Some x) h free l = record {
  at = l.at;
  only = l.only;
  polls = l.polls;
  last = l.last;
  refused = l.refused;
  full = ap (λ b. if k == lane then false else b) l.full;
  taken = l.taken;
}
heard_is event.Quiet now k (Some x) h free l = record {
  at = l.at;
  only = l.only;
  polls = l.polls;
  last = l.last;
  refused = l.refused;
  full = l.full;
  taken = l.taken;
}

pub hears_on : {H Job : Type 0} (hub : Hub Job) (s : Setup) (before : List Said) (v : Server H Job) (now : ℕ) (e : Event) (lanes : BTreeMap ℕ Lane)
    (h : List ServerEvent)
    → ((k : ℕ) → get nat_cmp lanes k ≡ heard_lane e k (get nat_cmp v.lanes k)) → moment h ≤ now → IsFree e h
    → Standing {H = H} hub s settled before v h
    → Standing {H = H} hub s (lane_of (lost_in e)) before (record v { moment = now; lanes = lanes }) (Hears now e ∷ h)
hears_on {H} hub s before v now e lanes h are later free x = record {
  setup = x.setup;
  machine = x.machine;
  front = x.front;
  callers = λ c. x.callers c;
  lanes = λ k. subst (λ o. IsLane (lane_of (lost_in e)) o k (Hears now e ∷ h)) (sym (are k))
      (heard_is e now k (get nat_cmp v.lanes k) h free (x.lanes k));
  begun = x.begun;
  orderly = λ c. orderly_wider settled (lane_of (lost_in e)) c (Hears now e ∷ h) (λ f. f) (λ lane f. f)
      (orderly_alike settled c (Hears now e ∷ h) h (alike_hears now e c h) later (x.orderly c));
  clock = refl;
  words = x.words;
}

pub nobody_comes : (now lane : ℕ) (r : Request) (o : Option Lane) (h : List ServerEvent) → IsFree (event.Request lane r) h → IsLane settled o lane h
    → IsNobodys lane (Hears now (event.Request lane r) ∷ h)
nobody_comes now lane r None h free l = λ c. l c
nobody_comes now lane r (Some x) h free l = absurd (both_ways (is_taken lane h) (free_is lane lane x h refl free.0 free.1) l.taken)

-- ---- what the door did with a lane

not_there : (lane : ℕ) (refusal : LaneRefusal) (k : ℕ) (o : Option Lane) → (k == lane) ≡ false → heard_lane (event.Refused lane refusal) k o ≡ o
not_there lane refusal k None e = refl
not_there lane refusal k (Some x) e = ap (λ b. Some (record x { is_refused = b || x.is_refused })) e

pub refused_one : (m n : BTreeMap ℕ Lane) (lane : ℕ) (refusal : LaneRefusal) (k : ℕ) (x : Lane) → Some x ≡ get nat_cmp m lane
    → WritesThrough nat_cmp (nat_cmp lane) m (record x { is_refused = true }) n
    → get nat_cmp n k ≡ heard_lane (event.Refused lane refusal) k (get nat_cmp m k)
refused_one m n lane refusal k x at through = go (k == lane) refl
  where
    updates : UpdatesBy nat_cmp (nat_cmp lane) m n (Some (record x { is_refused = true }))
    updates = through.3 (sym (ap is_some at))

    go : (b : Bool) → (k == lane) ≡ b → get nat_cmp n k ≡ heard_lane (event.Refused lane refusal) k (get nat_cmp m k)
    go true e =
        let same = eqb-true k lane e in
        ap (get nat_cmp n) same ∙ updates.1 ∙ ap (λ b. Some (record x { is_refused = b || x.is_refused })) (sym e)
        ∙ ap (heard_lane (event.Refused lane refusal) k) (at ∙ ap (get nat_cmp m) (sym same))
    go false e = updates.2 k (unsigned_tied lane k ∙ other_way k lane e) ∙ sym (not_there lane refusal k (get nat_cmp m k) e)

pub refused_none : (m n : BTreeMap ℕ Lane) (lane : ℕ) (refusal : LaneRefusal) (k : ℕ) → None ≡ get nat_cmp m lane → n ≡ m
    → get nat_cmp n k ≡ heard_lane (event.Refused lane refusal) k (get nat_cmp m k)
refused_none m n lane refusal k at same = ap (λ l. get nat_cmp l k) same ∙ go (k == lane) refl
  where
    go : (b : Bool) → (k == lane) ≡ b → get nat_cmp m k ≡ heard_lane (event.Refused lane refusal) k (get nat_cmp m k)
    go true e =
        let none : get nat_cmp m k ≡ None = ap (get nat_cmp m) (eqb-true k lane e) ∙ sym at in
        none ∙ ap (heard_lane (event.Refused lane refusal) k) (sym none)
    go false e = sym (not_there lane refusal k (get nat_cmp m k) e)

pub untouched : (e : Event) (k : ℕ) (o : Option Lane) → ((lane : ℕ) (refusal : LaneRefusal) → e ≡ event.Refused lane refusal → ⊥)
    → ((lane : ℕ) → e ≡ event.Drained lane → ⊥) → o ≡ heard_lane e k o
untouched (event.Request lane r) k o n m = refl
untouched (event.Refused lane refusal) k o n m = absurd (n lane refusal refl)
untouched (event.Bytes lane bytes) k o n m = refl
untouched (event.Response lane status body) k o n m = refl
untouched (event.Upgraded lane) k o n m = refl
untouched (event.Lost lane) k o n m = refl
untouched (event.Drained lane) k o n m = absurd (m lane refl)
untouched event.Quiet k o n m = refl
