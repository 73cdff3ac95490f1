-- Two lists of doings that tell a server the same of all that it remembers: it stands for one exactly if it stands for the other.
use Rattle.std.proofs.Common.{◌≡◌, ◌≤◌, ℕ, ◌==◌, Bool, true, false, not, ◌&&◌, ◌||◌, List, [], ◌∷◌, ◌++◌, Option, None, is_some}
use Rattle.std.proofs.Common.{refl, sym, ap, subst, ◌∙◌, arith}
use Rattle.std.specs.Prelude.{if◌then◌else◌}
use Rattle.std.specs.Ordering.{nat_cmp}
use Rattle.std.specs.BTreeMap.{get}
use Rattle.std.proofs.lemmas.Bool.{both_ways, eq-eqb, eqb-true}
use Rattle.std.proofs.lemmas.List.Elements.{filter_agree}
use Rattle.hd_delivery.specs.Histories.{is_this}
use Rattle.hd_calls.specs.Hubs.{Hub}
use Rattle.hd_calls.specs.Peers.{PeerEvent, Settings}
use Rattle.hd_calls.specs.Rules.{IsPeer}
use Rattle.hd_rooms.specs.Registry.{Lists, Pair, without}
use Rattle.hg_groups.specs.Standing.{StandsRegistry}
use Rattle.hd_server.specs.declared.vocabulary.Said.{Said}
use Rattle.hd_server.specs.declared.vocabulary.Said.TheVariants as say
use Rattle.hd_server.specs.Lives.{LaneLost, Removed, ConnectionEvent, is_removed, socket_of}
use Rattle.hd_server.specs.Machine.{Does, Goes, has_gone, is_open, is_open_at, joined, moves, of_open, registry, settings_of, user_pairs}
use Rattle.hd_server.specs.Doings.{ServerEvent, Notes, Works, Says, notes, work, moment, said, user_of, has_peer}
use Rattle.hd_server.specs.Plans.{Setup, onto}
use Rattle.hd_server.specs.Parts.{Each, IsOfAny, IsTick}
use Rattle.hub_machine.specs.declared.machine.Machine.{Machine}
use Rattle.hub_server.specs.declared.server.Server.{Server}
use Rattle.hub_machine.specs.IdleSet.{rounds_begun}
use Rattle.hub_machine.specs.Machines.{IsKeptAs, IsStranger, SaysAsSent, StandsMachine, idle_peer_at, peer_at, settings_there}
use Rattle.hub_server.specs.Lanes.{Unsettled, is_at, poll_lane}
use Rattle.hub_server.specs.Servers.{IsOrderly, Standing, caller_of, StandsFront}
use Rattle.hub_server.proofs.Alike.{Alike, alike_noted, orderly_alike}
use Rattle.hub_server.proofs.LaneKept.{SameLane, lane_kept, same_lane_refl, same_lane_trans}

-- all but what peers did is the same
pub record SameButMoves (g h : List ServerEvent) : Type 0 where
  pub settings : (c : ℕ) → settings_of c (work g) ≡ settings_of c (work h)
  pub gone : (c : ℕ) → has_gone c (work g) ≡ has_gone c (work h)
  pub joins : joined (work g) ≡ joined (work h)
  pub users : user_pairs (work g) ≡ user_pairs (work h)
  pub rounds : rounds_begun (work g) ≡ rounds_begun (work h)
  pub noted : notes g ≡ notes h
  pub clock : moment g ≡ moment h
  pub words : said g ≡ said h
  pub user : (c : ℕ) → user_of c g ≡ user_of c h
  pub lanes : (lane : ℕ) → SameLane lane g h

pub same_but_moves_refl : (h : List ServerEvent) → SameButMoves h h
same_but_moves_refl h = record {
  settings = λ c. refl;
  gone = λ c. refl;
  joins = refl;
  users = refl;
  rounds = refl;
  noted = refl;
  clock = refl;
  words = refl;
  user = λ c. refl;
  lanes = λ l. same_lane_refl l h;
}

pub same_but_moves_trans : (f g h : List ServerEvent) → SameButMoves f g → SameButMoves g h → SameButMoves f h
same_but_moves_trans f g h x y = record {
  settings = λ c. x.settings c ∙ y.settings c;
  gone = λ c. x.gone c ∙ y.gone c;
  joins = x.joins ∙ y.joins;
  users = x.users ∙ y.users;
  rounds = x.rounds ∙ y.rounds;
  noted = x.noted ∙ y.noted;
  clock = x.clock ∙ y.clock;
  words = x.words ∙ y.words;
  user = λ c. x.user c ∙ y.user c;
  lanes = λ l. same_lane_trans l f g h (x.lanes l) (y.lanes l);
}

-- and what peers did too
pub record Agree (g h : List ServerEvent) : Type 0 where
  pub rest : SameButMoves g h
  pub moved : (c : ℕ) → moves c (work g) ≡ moves c (work h)

pub agree_refl : (h : List ServerEvent) → Agree h h
agree_refl h = record { rest = same_but_moves_refl h; moved = λ c. refl }

pub agree_trans : (f g h : List ServerEvent) → Agree f g → Agree g h → Agree f h
agree_trans f g h x y = record { rest = same_but_moves_trans f g h x.rest y.rest; moved = λ c. x.moved c ∙ y.moved c }

-- of each connection the same is read
pub same_alike : (c : ℕ) (g h : List ServerEvent) → SameButMoves g h → moves c (work g) ≡ moves c (work h) → Alike c g h
same_alike c g h x moved = alike_noted c g h (x.settings c) (x.gone c) moved x.noted (x.user c)

-- ---- what a server stands for

there_same : (c : ℕ) (g h : List ServerEvent) → SameButMoves g h → settings_there c (work g) ≡ settings_there c (work h)
there_same c g h x =
    ap (λ b. if b then None else settings_of c (work g)) (x.gone c)
    ∙ ap (λ (o : Option Settings). if has_gone c (work h) then None else o) (x.settings c)

open_same : (g h : List ServerEvent) → Agree g h → (c : ℕ) → is_open c (work g) ≡ is_open c (work h)
open_same g h x c = let r : SameButMoves g h = x.rest in
    ap (λ b. not b && is_open_at (settings_of c (work g)) (moves c (work g))) (r.gone c)
    ∙ ap (λ (o : Option Settings). not (has_gone c (work h)) && is_open_at o (moves c (work g))) (r.settings c)
    ∙ ap (λ (ms : List PeerEvent). not (has_gone c (work h)) && is_open_at (settings_of c (work h)) ms) (x.moved c)

abbrev lists_of : List Pair → List Pair → Lists
lists_of groups users = record { groups = groups; users = users }

registry_same : (g h : List ServerEvent) → Agree g h → registry (work g) ≡ registry (work h)
registry_same g h x = let r : SameButMoves g h = x.rest in
    ap (λ (ps : List Pair). lists_of (of_open (work g) ps) (of_open (work g) (user_pairs (work g)))) r.joins
    ∙ ap (λ (ps : List Pair). lists_of (of_open (work g) (joined (work h))) (of_open (work g) ps)) r.users
    ∙ ap (λ (ps : List Pair). lists_of ps (of_open (work g) (user_pairs (work h))))
    (filter_agree (λ (p : Pair). is_open p.1 (work g)) (λ p. is_open p.1 (work h)) (λ p. open_same g h x p.1) (joined (work h)))
    ∙ ap (λ (ps : List Pair). lists_of (of_open (work h) (joined (work h))) ps)
    (filter_agree (λ (p : Pair). is_open p.1 (work g)) (λ p. is_open p.1 (work h)) (λ p. open_same g h x p.1) (user_pairs (work h)))

pub machine_agrees : {H Job : Type 0} (hub : Hub Job) (m : Machine H Job) (g h : List ServerEvent) → Agree g h → StandsMachine {H = H} hub m (work h)
    → StandsMachine {H = H} hub m (work g)
machine_agrees {H} hub m g h x s = let r : SameButMoves g h = x.rest in record {
  at = λ c.
      subst (λ o. IsKeptAs {H = H} hub m.idle_set.clock (idle_peer_at m c) o (moves c (work g)) (peer_at m c)) (sym (there_same c g h r))
      (subst (λ ms. IsKeptAs {H = H} hub m.idle_set.clock (idle_peer_at m c) (settings_there c (work h)) ms (peer_at m c)) (sym (x.moved c)) (s.at c));
  index = s.index;
  rounds = s.rounds ∙ sym r.rounds;
  registry = subst (λ l. StandsRegistry m.registry l) (sym (registry_same g h x)) s.registry;
  peers = λ c t e. subst (λ ms. IsPeer hub t ms) (sym (x.moved c)) (s.peers c t (sym (r.settings c) ∙ e));
  said = λ c t e. subst (λ ms. SaysAsSent t ms) (sym (x.moved c)) (s.said c t (sym (r.settings c) ∙ e));
  strangers = λ c e. let z : IsStranger c (work h) = s.strangers c (sym (r.settings c) ∙ e) in record {
    unknown = r.gone c ∙ z.unknown;
    unmoved = x.moved c ∙ z.unmoved;
    in_no_group = subst (λ (ps : List Pair). without c ps ≡ ps) (sym r.joins) z.in_no_group;
  };
  from_one = r.settings 0 ∙ s.from_one;
}

caller_same : (c : ℕ) (g h : List ServerEvent) → SameButMoves g h → caller_of c g ≡ caller_of c h
caller_same c g h r =
    ap (λ (o : Option Settings). if is_some o || is_removed c (notes g) then None else user_of c g) (r.settings c)
    ∙ ap (λ (n : List ConnectionEvent). if is_some (settings_of c (work h)) || is_removed c n then None else user_of c g) r.noted
    ∙ ap (λ (user : Option (List ℕ)). if is_some (settings_of c (work h)) || is_removed c (notes h) then None else user) (r.user c)

pub has_peer_same : (c : ℕ) (g h : List ServerEvent) → SameButMoves g h → has_peer c g ≡ has_peer c h
has_peer_same c g h r =
    ap (λ (o : Option Settings). is_some o && not (has_gone c (work g))) (r.settings c)
    ∙ ap (λ (b : Bool). is_some (settings_of c (work h)) && not b) (r.gone c)

at_same : (lane c : ℕ) (g h : List ServerEvent) → SameButMoves g h → is_at lane c g ≡ is_at lane c h
at_same lane c g h r =
    ap (λ (b : Bool). b && (is_this lane (socket_of c (notes g)) || is_this lane (poll_lane c (notes g)))) (has_peer_same c g h r)
    ∙ ap (λ (n : List ConnectionEvent). has_peer c h && (is_this lane (socket_of c n) || is_this lane (poll_lane c n))) r.noted

-- a server whose machine stands for what its peers did, each of them in order, stands for it all
pub standing_same : {H Job : Type 0} (hub : Hub Job) (s : Setup) (u : Unsettled) (before : List Said) (v : Server H Job) (m : Machine H Job)
    (g h : List ServerEvent) → SameButMoves g h → StandsMachine {H = H} hub m (work g) → ((c : ℕ) → IsOrderly u c g) → Standing {H = H} hub s u before v h
    → Standing {H = H} hub s u before (record v { machine = m }) g
standing_same {H} hub s u before v m g h r machine orderly x = record {
  setup = x.setup;
  machine = machine;
  front = subst (λ n. StandsFront s.live v.front n) (sym r.noted) x.front;
  callers = λ c. x.callers c ∙ sym (caller_same c g h r);
  lanes = λ lane. lane_kept u (get nat_cmp v.lanes lane) lane g h (r.lanes lane) (λ c. at_same lane c g h r)
      (λ c. ap (λ (n : List ConnectionEvent). is_this lane (socket_of c n)) r.noted) (x.lanes lane);
  begun = λ c t e. x.begun c t (sym (r.settings c) ∙ e);
  orderly = orderly;
  clock = x.clock ∙ sym r.clock;
  words = r.words ∙ x.words;
}

pub standing_agrees : {H Job : Type 0} (hub : Hub Job) (s : Setup) (u : Unsettled) (before : List Said) (v : Server H Job) (g h : List ServerEvent)
    → Agree g h → Standing {H = H} hub s u before v h → Standing {H = H} hub s u before v g
standing_agrees {H} {Job} hub s u before v g h x st = let r : SameButMoves g h = x.rest in
    standing_same {H = H} {Job = Job} hub s u before v v.machine g h r (machine_agrees {H = H} {Job = Job} hub v.machine g h x st.machine)
    (λ c. orderly_alike u c g h (same_alike c g h r (x.moved c)) (no_later r.clock) (st.orderly c)) st
  where
    no_later : moment g ≡ moment h → moment h ≤ moment g
    no_later e = omega (arith, e)

-- ---- doings by which an end ticks

-- what agreed before it agrees after it
agree_on : (c : ℕ) (d : ServerEvent) (g h : List ServerEvent) → IsTick c d → Agree g h → Agree (d ∷ g) (d ∷ h)
agree_on c (Works (Does k m)) g h p x = let r : SameButMoves g h = x.rest in record {
  rest = record {
    settings = r.settings;
    gone = r.gone;
    joins = r.joins;
    users = r.users;
    rounds = r.rounds;
    noted = r.noted;
    clock = r.clock;
    words = r.words;
    user = r.user;
    lanes = λ l. let y : SameLane l g h = r.lanes l in record { shut = y.shut; refused = y.refused; full = y.full; taken = y.taken };
  };
  moved = λ j. ap (λ (ms : List PeerEvent). if j == k then m ∷ ms else ms) (x.moved j);
}
agree_on c (Works (Goes k)) g h p x = let r : SameButMoves g h = x.rest in record {
  rest = record {
    settings = r.settings;
    gone = λ j. ap (λ (b : Bool). (j == k) || b) (r.gone j);
    joins = r.joins;
    users = r.users;
    rounds = r.rounds;
    noted = r.noted;
    clock = r.clock;
    words = r.words;
    user = r.user;
    lanes = λ l. let y : SameLane l g h = r.lanes l in record { shut = y.shut; refused = y.refused; full = y.full; taken = y.taken };
  };
  moved = x.moved;
}
agree_on c (Notes (LaneLost k lane now)) g h p x = let r : SameButMoves g h = x.rest in record {
  rest = record {
    settings = r.settings;
    gone = r.gone;
    joins = r.joins;
    users = r.users;
    rounds = r.rounds;
    noted = ap (λ (n : List ConnectionEvent). LaneLost k lane now ∷ n) r.noted;
    clock = r.clock;
    words = r.words;
    user = r.user;
    lanes = λ l. let y : SameLane l g h = r.lanes l in record { shut = y.shut; refused = y.refused; full = y.full; taken = y.taken };
  };
  moved = x.moved;
}
agree_on c (Notes (Removed k)) g h p x = let r : SameButMoves g h = x.rest in record {
  rest = record {
    settings = r.settings;
    gone = r.gone;
    joins = r.joins;
    users = r.users;
    rounds = r.rounds;
    noted = ap (λ (n : List ConnectionEvent). Removed k ∷ n) r.noted;
    clock = r.clock;
    words = r.words;
    user = r.user;
    lanes = λ l. let y : SameLane l g h = r.lanes l in record { shut = y.shut; refused = y.refused; full = y.full; taken = y.taken };
  };
  moved = x.moved;
}
agree_on c (Says (say.Shut lane)) g h p x = let r : SameButMoves g h = x.rest in record {
  rest = record {
    settings = r.settings;
    gone = r.gone;
    joins = r.joins;
    users = r.users;
    rounds = r.rounds;
    noted = r.noted;
    clock = r.clock;
    words = ap (λ (ws : List Said). ws ++ say.Shut lane ∷ []) r.words;
    user = r.user;
    lanes = λ l. let y : SameLane l g h = r.lanes l in record { shut = y.shut; refused = y.refused; full = y.full; taken = y.taken };
  };
  moved = x.moved;
}
agree_on c d g h p x = absurd p

pub agree_onto : (ds g h : List ServerEvent) → Each (IsOfAny IsTick) ds → Agree g h → Agree (onto ds g) (onto ds h)
agree_onto [] g h p x = x
agree_onto (d ∷ ds) g h p x = agree_onto ds (d ∷ g) (d ∷ h) p.1 (agree_on p.0.0 d g h p.0.1 x)

-- ---- moves of two connections, in either order

swap_moves : (a b : Bool) (x y : PeerEvent) (ms : List PeerEvent) → (a ≡ true → b ≡ true → ⊥)
    → (if a then x ∷ (if b then y ∷ ms else ms) else (if b then y ∷ ms else ms))
    ≡ (if b then y ∷ (if a then x ∷ ms else ms) else (if a then x ∷ ms else ms))
swap_moves true true x y ms apart = absurd (apart refl refl)
swap_moves true false x y ms apart = refl
swap_moves false b x y ms apart = refl

agree_swap : (c k : ℕ) (d : ServerEvent) (m : PeerEvent) (h : List ServerEvent) → (c == k) ≡ false → IsTick c d
    → Agree (Works (Does k m) ∷ d ∷ h) (d ∷ Works (Does k m) ∷ h)
agree_swap c k (Works (Does j x)) m h e p = record {
  rest = record {
    settings = λ i. refl;
    gone = λ i. refl;
    joins = refl;
    users = refl;
    rounds = refl;
    noted = refl;
    clock = refl;
    words = refl;
    user = λ i. refl;
    lanes = λ l. record { shut = refl; refused = refl; full = refl; taken = λ t. t };
  };
  moved = λ i. swap_moves (i == k) (i == j) m x (moves i (work h))
      (λ f g. both_ways (c == k) e (eq-eqb c k (sym p ∙ sym (eqb-true i j g) ∙ eqb-true i k f)));
}
agree_swap c k (Works (Goes j)) m h e p = record {
  rest = record {
    settings = λ i. refl;
    gone = λ i. refl;
    joins = refl;
    users = refl;
    rounds = refl;
    noted = refl;
    clock = refl;
    words = refl;
    user = λ i. refl;
    lanes = λ l. record { shut = refl; refused = refl; full = refl; taken = λ t. t };
  };
  moved = λ i. refl;
}
agree_swap c k (Notes (LaneLost j lane now)) m h e p = record {
  rest = record {
    settings = λ i. refl;
    gone = λ i. refl;
    joins = refl;
    users = refl;
    rounds = refl;
    noted = refl;
    clock = refl;
    words = refl;
    user = λ i. refl;
    lanes = λ l. record { shut = refl; refused = refl; full = refl; taken = λ t. t };
  };
  moved = λ i. refl;
}
agree_swap c k (Notes (Removed j)) m h e p = record {
  rest = record {
    settings = λ i. refl;
    gone = λ i. refl;
    joins = refl;
    users = refl;
    rounds = refl;
    noted = refl;
    clock = refl;
    words = refl;
    user = λ i. refl;
    lanes = λ l. record { shut = refl; refused = refl; full = refl; taken = λ t. t };
  };
  moved = λ i. refl;
}
agree_swap c k (Says (say.Shut lane)) m h e p = record {
  rest = record {
    settings = λ i. refl;
    gone = λ i. refl;
    joins = refl;
    users = refl;
    rounds = refl;
    noted = refl;
    clock = refl;
    words = refl;
    user = λ i. refl;
    lanes = λ l. record { shut = refl; refused = refl; full = refl; taken = λ t. t };
  };
  moved = λ i. refl;
}
agree_swap c k d m h e p = absurd p

each_of_any : (c : ℕ) (ds : List ServerEvent) → Each (IsTick c) ds → Each (IsOfAny IsTick) ds
each_of_any c [] p = tt
each_of_any c (d ∷ ds) p = ((c, p.0), each_of_any c ds p.1)

-- a move of another connection comes before these, or after them
pub agree_past : (c k : ℕ) (m : PeerEvent) (ds h : List ServerEvent) → (c == k) ≡ false → Each (IsTick c) ds
    → Agree (Works (Does k m) ∷ onto ds h) (onto ds (Works (Does k m) ∷ h))
agree_past c k m [] h e p = agree_refl (Works (Does k m) ∷ h)
agree_past c k m (d ∷ ds) h e p =
    agree_trans (Works (Does k m) ∷ onto ds (d ∷ h)) (onto ds (Works (Does k m) ∷ d ∷ h)) (onto ds (d ∷ Works (Does k m) ∷ h))
    (agree_past c k m ds (d ∷ h) e p.1)
    (agree_onto ds (Works (Does k m) ∷ d ∷ h) (d ∷ Works (Does k m) ∷ h) (each_of_any c ds p.1) (agree_swap c k d m h e p.0))
