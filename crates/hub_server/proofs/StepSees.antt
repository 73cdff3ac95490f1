-- The door's answer to a message is seen: all is as it was, but whether the lane is full.
use Rattle.std.proofs.Common.{◌≡◌, ◌≤◌, ℕ, ◌==◌, Bool, true, false, List, [], ◌∷◌, Option, Some, None, is_some}
use Rattle.std.proofs.Common.{refl, sym, ap, subst, ◌∙◌, arith}
use Rattle.std.specs.Prelude.{if◌then◌else◌}
use Rattle.std.specs.Ordering.{nat_cmp}
use Rattle.std.specs.BTreeMap.{BTreeMap, UpdatesBy, WritesThrough, get}
use Rattle.std.proofs.lemmas.Bool.{both_ways, eq-eqb, eqb-true, false_from_ne_true}
use Rattle.std.specs.Cmp.{unsigned_tied}
use Rattle.hd_calls.specs.Hubs.{Hub}
use Rattle.hd_server.specs.declared.vocabulary.Said.{Said}
use Rattle.hd_server.specs.Doings.{ServerEvent, Sees, moment, said}
use Rattle.hd_server.specs.Plans.{Setup}
use Rattle.hub_server.specs.declared.lane.Lane.{Lane}
use Rattle.hub_server.specs.declared.server.Server.{Server}
use Rattle.hub_server.specs.Lanes.{IsLane, Unsettled, settled}
use Rattle.hub_server.specs.Servers.{Standing}
use Rattle.hub_server.specs.Steps.{StandsServer}
use Rattle.hub_server.proofs.Alike.{alike_sees, orderly_alike, rested_alike}

-- ---- what is kept of a lane

-- what is kept of a lane then
abbrev pub seen_lane : ℕ → Bool → ℕ → Option Lane → Option Lane
seen_lane lane full k None = None
seen_lane lane full k (Some x) = Some (record x { is_full = if k == lane then full else x.is_full })

pub other_way : (k lane : ℕ) → (k == lane) ≡ false → (lane == k) ≡ false
other_way k lane e = false_from_ne_true (lane == k) (λ z. both_ways (k == lane) e (eq-eqb k lane (sym (eqb-true lane k z))))

-- what is kept of another lane stays
elsewhere : (lane : ℕ) (full : Bool) (k : ℕ) (o : Option Lane) → (k == lane) ≡ false → seen_lane lane full k o ≡ o
elsewhere lane full k None e = refl
elsewhere lane full k (Some x) e = ap (λ b. Some (record x { is_full = if b then full else x.is_full })) e

pub seen_one : (m n : BTreeMap ℕ Lane) (lane : ℕ) (full : Bool) (k : ℕ) (x : Lane) → Some x ≡ get nat_cmp m lane
    → WritesThrough nat_cmp (nat_cmp lane) m (record x { is_full = full }) n → get nat_cmp n k ≡ seen_lane lane full k (get nat_cmp m k)
seen_one m n lane full k x at through = go (k == lane) refl
  where
    updates : UpdatesBy nat_cmp (nat_cmp lane) m n (Some (record x { is_full = full }))
    updates = through.3 (sym (ap is_some at))

    go : (b : Bool) → (k == lane) ≡ b → get nat_cmp n k ≡ seen_lane lane full k (get nat_cmp m k)
    go true e =
        let same = eqb-true k lane e in
        ap (get nat_cmp n) same ∙ updates.1 ∙ ap (λ b. Some (record x { is_full = if b then full else x.is_full })) (sym e)
        ∙ ap (seen_lane lane full k) (at ∙ ap (get nat_cmp m) (sym same))
    go false e = updates.2 k (unsigned_tied lane k ∙ other_way k lane e) ∙ sym (elsewhere lane full k (get nat_cmp m k) e)

pub seen_none : (m n : BTreeMap ℕ Lane) (lane : ℕ) (full : Bool) (k : ℕ) → None ≡ get nat_cmp m lane → n ≡ m
    → get nat_cmp n k ≡ seen_lane lane full k (get nat_cmp m k)
seen_none m n lane full k at same = ap (λ l. get nat_cmp l k) same ∙ go (k == lane) refl
  where
    go : (b : Bool) → (k == lane) ≡ b → get nat_cmp m k ≡ seen_lane lane full k (get nat_cmp m k)
    go true e =
        let none : get nat_cmp m k ≡ None = ap (get nat_cmp m) (eqb-true k lane e) ∙ sym at in
        none ∙ ap (seen_lane lane full k) (sym none)
    go false e = sym (elsewhere lane full k (get nat_cmp m k) e)

-- ---- the server

seen_is : (u : Unsettled) (lane : ℕ) (full : Bool) (k : ℕ) (o : Option Lane) (h : List ServerEvent) → IsLane u o k h
    → IsLane u (seen_lane lane full k o) k (Sees lane full ∷ h)
seen_is u lane full k None h l = λ c. l c
seen_is u lane full k (Some x) h l = record {
  at = l.at;
  only = l.only;
  polls = l.polls;
  last = l.last;
  refused = l.refused;
  full = ap (λ b. if k == lane then full else b) l.full;
  taken = l.taken;
}

not_later : (n : ℕ) → n ≤ n
not_later n = omega (arith)

sees_on : {H Job : Type 0} (hub : Hub Job) (s : Setup) (u : Unsettled) (before : List Said) (v : Server H Job) (lanes : BTreeMap ℕ Lane) (lane : ℕ)
    (full : Bool) (h : List ServerEvent)
    → ((k : ℕ) → get nat_cmp lanes k ≡ seen_lane lane full k (get nat_cmp v.lanes k)) → Standing {H = H} hub s u before v h
    → Standing {H = H} hub s u before (record v { lanes = lanes }) (Sees lane full ∷ h)
sees_on {H} hub s u before v lanes lane full h are x = record {
  setup = x.setup;
  machine = x.machine;
  front = x.front;
  callers = λ c. x.callers c;
  lanes = λ k. subst (λ o. IsLane u o k (Sees lane full ∷ h)) (sym (are k)) (seen_is u lane full k (get nat_cmp v.lanes k) h (x.lanes k));
  begun = x.begun;
  orderly = λ c. orderly_alike u c (Sees lane full ∷ h) h (alike_sees lane full c h) (not_later (moment h)) (x.orderly c);
  clock = x.clock;
  words = x.words;
}

pub server_sees : {H Job : Type 0} (hub : Hub Job) (s : Setup) (v : Server H Job) (lanes : BTreeMap ℕ Lane) (lane : ℕ) (full : Bool)
    (h : List ServerEvent)
    → ((k : ℕ) → get nat_cmp lanes k ≡ seen_lane lane full k (get nat_cmp v.lanes k)) → StandsServer {H = H} hub s v h
    → StandsServer {H = H} hub s (record v { lanes = lanes }) (Sees lane full ∷ h)
server_sees {H} {Job} hub s v lanes lane full h are x = record {
  lives = x.lives;
  stands = sees_on {H = H} {Job = Job} hub s settled (said h) (record v { words = [] }) lanes lane full h are x.stands;
  rested = λ c. rested_alike c (Sees lane full ∷ h) h (alike_sees lane full c h) (x.rested c);
}
