-- A round changes nothing of a server but what its peers did.
use Rattle.std.proofs.Common.{◌≡◌, ℕ, ◌≤◌, not, ◌&&◌, ◌||◌, List, [], ◌∷◌, ◌++◌, map, Option, Some, None, is_some, refl, sym, ap, subst, ◌∙◌, arith}
use Rattle.std.proofs.Common.{append_assoc}
use Rattle.std.specs.Prelude.{if◌then◌else◌}
use Rattle.std.proofs.lemmas.List.{append-nil, append_cancel_left}
use Rattle.hd_delivery.specs.Histories.{is_this}
use Rattle.hd_calls.specs.Hubs.{Hub}
use Rattle.hd_rooms.specs.declared.vocabulary.Asked.{Asked}
use Rattle.hd_server.specs.declared.vocabulary.Said.{Said}
use Rattle.hd_server.specs.Lives.{is_removed, socket_of}
use Rattle.hd_server.specs.Machine.{MachineEvent, Does, Rounds, Carries, IsRound, has_gone, settings_of}
use Rattle.hd_server.specs.Doings.{ServerEvent, Works, notes, work, asked, said, moment, is_full, wants_shut, was_refused, user_of, peer, history, history_with}
use Rattle.hd_server.specs.Doings.{config_of, has_peer}
use Rattle.hd_server.specs.Plans.{Setup}
use Rattle.hub_server.specs.declared.lane.Lane.{Lane}
use Rattle.hub_machine.specs.declared.machine.Machine.{Machine}
use Rattle.hub_server.specs.declared.server.Server.{Server}
use Rattle.hub_machine.specs.Machines.{StandsMachine}
use Rattle.hub_machine.specs.KeeperState.{KeeperState, asks_in}
use Rattle.hub_machine.specs.Rounds.{HasRound}
use Rattle.hub_server.specs.Lanes.{IsLane, Unsettled, is_at, is_taken, poll_lane}
use Rattle.hub_server.specs.Servers.{IsOrderly, Standing, caller_of, StandsFront}
use Rattle.hub_server.specs.Steps.{IsRounded}
use Rattle.hub_server.proofs.Calm.{Leaves, orderly_left}
use Rattle.hub_server.proofs.RoundReadsNothing.{AreQuiet, IsQuiet, Quietly, quiet_at, quietly_same, quietly_then, round_is_quiet}

-- ---- what stays

-- only peers did something, and read nothing
record Whirls (g h : List ServerEvent) : Type 0 where
  noted : notes g ≡ notes h
  told : said g ≡ said h
  clock : moment g ≡ moment h
  settings : (c : ℕ) → settings_of c (work g) ≡ settings_of c (work h)
  gone : (c : ℕ) → has_gone c (work g) ≡ has_gone c (work h)
  user : (c : ℕ) → user_of c g ≡ user_of c h
  shut : (lane : ℕ) → wants_shut lane g ≡ wants_shut lane h
  refused : (lane : ℕ) → was_refused lane g ≡ was_refused lane h
  full : (lane : ℕ) → is_full lane g ≡ is_full lane h
  taken : (lane : ℕ) → is_taken lane g ≡ is_taken lane h
  quiet : (c last : ℕ) → Quietly (settings_of c (work h)) last (peer c g) (peer c h)

whirls_same : (h : List ServerEvent) → Whirls h h
whirls_same h = record {
  noted = refl;
  told = refl;
  clock = refl;
  settings = λ c. refl;
  gone = λ c. refl;
  user = λ c. refl;
  shut = λ lane. refl;
  refused = λ lane. refl;
  full = λ lane. refl;
  taken = λ lane. refl;
  quiet = λ c last. quietly_same (settings_of c (work h)) last (peer c h);
}

whirls_then : (f g h : List ServerEvent) → Whirls f g → Whirls g h → Whirls f h
whirls_then f g h a b = record {
  noted = a.noted ∙ b.noted;
  told = a.told ∙ b.told;
  clock = a.clock ∙ b.clock;
  settings = λ c. a.settings c ∙ b.settings c;
  gone = λ c. a.gone c ∙ b.gone c;
  user = λ c. a.user c ∙ b.user c;
  shut = λ lane. a.shut lane ∙ b.shut lane;
  refused = λ lane. a.refused lane ∙ b.refused lane;
  full = λ lane. a.full lane ∙ b.full lane;
  taken = λ lane. a.taken lane ∙ b.taken lane;
  quiet = λ c last. quietly_then (settings_of c (work h)) last (peer c f) (peer c g) (peer c h)
      (subst (λ s. Quietly s last (peer c f) (peer c g)) (b.settings c) (a.quiet c last)) (b.quiet c last);
}

whirls_at : (x : MachineEvent) (h : List ServerEvent) → IsQuiet x → Whirls (Works x ∷ h) h
whirls_at (Does k m) h q = record {
  noted = refl;
  told = refl;
  clock = refl;
  settings = λ c. refl;
  gone = λ c. refl;
  user = λ c. refl;
  shut = λ lane. refl;
  refused = λ lane. refl;
  full = λ lane. refl;
  taken = λ lane. refl;
  quiet = λ c last. quiet_at (settings_of c (work h)) last c (Does k m) (work h) refl q;
}
whirls_at (Rounds now) h q = record {
  noted = refl;
  told = refl;
  clock = refl;
  settings = λ c. refl;
  gone = λ c. refl;
  user = λ c. refl;
  shut = λ lane. refl;
  refused = λ lane. refl;
  full = λ lane. refl;
  taken = λ lane. refl;
  quiet = λ c last. quiet_at (settings_of c (work h)) last c (Rounds now) (work h) refl q;
}
whirls_at (Carries k j d fates asked) h q = record {
  noted = refl;
  told = refl;
  clock = refl;
  settings = λ c. refl;
  gone = λ c. refl;
  user = λ c. refl;
  shut = λ lane. refl;
  refused = λ lane. refl;
  full = λ lane. refl;
  taken = λ lane. refl;
  quiet = λ c last. quiet_at (settings_of c (work h)) last c (Carries k j d fates asked) (work h) refl q;
}
whirls_at x h q = absurd q

whirls_all : (xs : List MachineEvent) (h : List ServerEvent) → AreQuiet xs → Whirls (map Works xs ++ h) h
whirls_all [] h q = whirls_same h
whirls_all (x ∷ xs) h q = whirls_then (map Works (x ∷ xs) ++ h) (map Works xs ++ h) h (whirls_at x (map Works xs ++ h) q.0) (whirls_all xs h q.1)

-- ---- what is asked, and done

works_all : (xs : List MachineEvent) (h : List ServerEvent) → work (map Works xs ++ h) ≡ xs ++ work h
works_all [] h = refl
works_all (x ∷ xs) h = ap (λ w. x ∷ w) (works_all xs h)

-- what a round asks, after what was asked before
asked_all : (xs : List MachineEvent) (h : List ServerEvent) → asked (map Works xs ++ h) ≡ asked h ++ asks_in xs
asked_all [] h = sym (append-nil (asked h))
asked_all (Carries c j d fates (Some ask) ∷ xs) h = ap (λ known. known ++ ask ∷ []) (asked_all xs h) ∙ append_assoc (asked h) (asks_in xs) (ask ∷ [])
asked_all (x ∷ xs) h = asked_all xs h

asks_all : (xs w : List MachineEvent) → asks_in (xs ++ w) ≡ asks_in w ++ asks_in xs
asks_all [] w = sym (append-nil (asks_in w))
asks_all (Carries c j d fates (Some ask) ∷ xs) w = ap (λ known. known ++ ask ∷ []) (asks_all xs w) ∙ append_assoc (asks_in w) (asks_in xs) (ask ∷ [])
asks_all (x ∷ xs) w = asks_all xs w

-- ---- what the server stands for

there_same : (c : ℕ) (g h : List ServerEvent) → Whirls g h → has_peer c g ≡ has_peer c h
there_same c g h a = ap (λ s. is_some s && not (has_gone c (work g))) (a.settings c) ∙ ap (λ b. is_some (settings_of c (work h)) && not b) (a.gone c)

at_same : (lane c : ℕ) (g h : List ServerEvent) → Whirls g h → is_at lane c g ≡ is_at lane c h
at_same lane c g h a =
    ap (λ b. b && (is_this lane (socket_of c (notes g)) || is_this lane (poll_lane c (notes g)))) (there_same c g h a)
    ∙ ap (λ n. has_peer c h && (is_this lane (socket_of c n) || is_this lane (poll_lane c n))) a.noted

lane_same : (u : Unsettled) (x : Option Lane) (lane : ℕ) (g h : List ServerEvent) → Whirls g h → IsLane u x lane h → IsLane u x lane g
lane_same u None lane g h a is = λ c. at_same lane c g h a ∙ is c
lane_same u (Some x) lane g h a is = record {
  at = at_same lane x.conn g h a ∙ is.at;
  only = λ c e. is.only c (sym (at_same lane c g h a) ∙ e);
  polls = is.polls ∙ ap (λ n. not (is_this lane (socket_of x.conn n))) (sym a.noted);
  last = is.last ∙ sym (a.shut lane);
  refused = is.refused ∙ sym (a.refused lane);
  full = is.full ∙ sym (a.full lane);
  taken = ap (λ b. is_this lane u.lane || b) (a.taken lane) ∙ is.taken;
}

caller_same : (c : ℕ) (g h : List ServerEvent) → Whirls g h → caller_of c g ≡ caller_of c h
caller_same c g h a =
    ap (λ s. if is_some s || is_removed c (notes g) then None else user_of c g) (a.settings c)
    ∙ ap (λ n. if is_some (settings_of c (work h)) || is_removed c n then None else user_of c g) a.noted
    ∙ ap (λ (o : Option (List ℕ)). if is_some (settings_of c (work h)) || is_removed c (notes h) then None else o) (a.user c)

same_moment : (m n : ℕ) → m ≡ n → n ≤ m
same_moment m n e = omega (arith, e)

orderly_same : (u : Unsettled) (c : ℕ) (g h : List ServerEvent) → Whirls g h → IsOrderly u c h → IsOrderly u c g
orderly_same u c g h a x = orderly_left u c g h (a.settings c) (a.gone c) a.noted (a.quiet c (moment g)).waits
    (same_moment (moment g) (moment h) a.clock) left x
  where
    left : Leaves (config_of c h) (moment g) (history c g) (history c h)
    left = subst (λ s. Leaves (config_of c h) (moment g) (history_with s (peer c g)) (history c h)) (sym (a.settings c)) (a.quiet c (moment g)).left

whirled : {H Job : Type 0} (hub : Hub Job) (s : Setup) (u : Unsettled) (before : List Said) (v : Server H Job) (m : Machine H Job) (g h : List ServerEvent)
    → Whirls g h → StandsMachine {H = H} hub m (work g) → Standing {H = H} hub s u before v h
    → Standing {H = H} hub s u before (record v { machine = m }) g
whirled {H} hub s u before v m g h a stands x = record {
  setup = x.setup;
  machine = stands;
  front = subst (λ n. StandsFront s.live v.front n) (sym a.noted) x.front;
  callers = λ c. x.callers c ∙ sym (caller_same c g h a);
  lanes = λ lane. lane_same u _ lane g h a (x.lanes lane);
  begun = λ c t e. x.begun c t (sym (a.settings c) ∙ e);
  orderly = λ c. orderly_same u c g h a (x.orderly c);
  clock = x.clock ∙ sym a.clock;
  words = a.told ∙ x.words;
}

-- the doings of a round
abbrev after_round : List MachineEvent → List ServerEvent → List ServerEvent
after_round round h = map Works round ++ Works (Rounds (moment h)) ∷ h

whirls_round : (now : ℕ) (round : List MachineEvent) (h : List ServerEvent) → IsRound now round (work h) → Whirls (after_round round h) h
whirls_round now round h is = whirls_then (after_round round h) (Works (Rounds (moment h)) ∷ h) h
    (whirls_all round (Works (Rounds (moment h)) ∷ h) (round_is_quiet now round (Rounds now ∷ work h) is.each)) (whirls_at (Rounds (moment h)) h tt)

-- what it asked
asks_same : (now : ℕ) (round : List MachineEvent) (asks : List Asked) (h : List ServerEvent)
    → asks_in (round ++ Rounds now ∷ work h) ≡ asks_in (work h) ++ asks → asked (after_round round h) ≡ asked h ++ asks
asks_same now round asks h e = asked_all round (Works (Rounds (moment h)) ∷ h) ∙ ap (λ xs. asked h ++ xs)
    (append_cancel_left (asks_in (work h)) (asks_in round) asks (sym (asks_all round (Rounds now ∷ work h)) ∙ e))

rounded_now : {H Job : Type 0} (hub : Hub Job) (s : Setup) (u : Unsettled) (before : List Said) (v : Server H Job) (m : Machine H Job)
    (o p : KeeperState) (h : List ServerEvent) → HasRound {H = H} hub m o p (moment h) (work h) → Standing {H = H} hub s u before v h
    → IsRounded {H = H} hub s u before (record v { machine = m }) o.holds o.answers o.faults p.holds p.answers p.faults h
rounded_now {H} {Job} hub s u before v m o p h has x = record {
  on = record {
    round = has.round;
    is_round = has.is_round;
    stands = whirled {H = H} hub s u before v m (after_round has.round h) h (whirls_round (moment h) has.round h has.is_round)
        (subst (λ w. StandsMachine {H = H} hub m w) (sym (works_all has.round (Works (Rounds (moment h)) ∷ h))) has.stands) x;
    asks = has.goes.asks;
    asked_are = asks_same (moment h) has.round has.goes.asks h has.goes.are;
  };
  told = has.goes.goes.told;
  kept = has.goes.goes.kept;
  counted = has.goes.goes.counted;
}

-- the whole round, and what it asked of the keeper
pub rounded : {H Job : Type 0} (hub : Hub Job) (s : Setup) (u : Unsettled) (before : List Said) (v : Server H Job) (m : Machine H Job)
    (o p : KeeperState) (h : List ServerEvent) → HasRound {H = H} hub m o p v.moment (work h) → Standing {H = H} hub s u before v h
    → IsRounded {H = H} hub s u before (record v { machine = m }) o.holds o.answers o.faults p.holds p.answers p.faults h
rounded {H} {Job} hub s u before v m o p h has x =
    rounded_now {H = H} hub s u before v m o p h (subst (λ now. HasRound {H = H} hub m o p now (work h)) x.clock has) x
