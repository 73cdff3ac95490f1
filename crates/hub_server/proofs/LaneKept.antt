-- Lanes that stay as they are.
use Rattle.std.proofs.Common.{◌≡◌, ◌≤◌, ℕ, ◌==◌, Bool, true, false, not, ◌&&◌, ◌||◌, List, [], ◌∷◌, ◌++◌, Option, Some, None, is_some}
use Rattle.std.proofs.Common.{inl, inr, refl, sym, ap, ◌∙◌, arith}
use Rattle.std.specs.Prelude.{if◌then◌else◌}
use Rattle.std.specs.Ordering.{nat_cmp}
use Rattle.std.specs.BTreeMap.{get}
use Rattle.std.proofs.lemmas.Bool.{both_ways, eqb-true, or_cases, or_left, or_right}
use Rattle.std.proofs.lemmas.List.{append_assoc}
use Rattle.hw_lanes.specs.declared.http.Reply.{Reply}
use Rattle.hd_delivery.specs.Histories.{is_this, present_link}
use Rattle.hd_calls.specs.Hubs.{Hub}
use Rattle.hd_rooms.specs.declared.vocabulary.Asked.{Asked}
use Rattle.hd_server.specs.declared.vocabulary.Said.{Said}
use Rattle.hd_server.specs.declared.vocabulary.Said.TheVariants as say
use Rattle.hd_server.specs.Lives.{ConnectionEvent, socket_of, lost_at, is_polling}
use Rattle.hd_server.specs.Machine.{MachineEvent}
use Rattle.hd_server.specs.Doings.{ServerEvent, Learns, Draws, Notes, Works, Says}
use Rattle.hd_server.specs.Doings.{notes, moment, said, awaits_reply, history, is_full, is_upgraded, wants_shut, was_refused}
use Rattle.hd_server.specs.Plans.{Setup}
use Rattle.hub_server.specs.declared.lane.Lane.{Lane}
use Rattle.hub_server.specs.declared.server.Server.{Server}
use Rattle.hub_server.specs.Lanes.{IsLane, IsNobodys, Unsettled, is_at, is_taken}
use Rattle.hub_server.specs.Servers.{IsOrderly, Standing}
use Rattle.hub_server.proofs.Alike.{alike_learns, alike_draws, alike_says, orderly_alike}

-- what is read of the lane is the same
pub record SameLane (lane : ℕ) (g h : List ServerEvent) : Type 0 where
  pub shut : wants_shut lane g ≡ wants_shut lane h
  pub refused : was_refused lane g ≡ was_refused lane h
  pub full : is_full lane g ≡ is_full lane h
  pub taken : is_taken lane h ≡ true → is_taken lane g ≡ true

pub same_lane_refl : (lane : ℕ) (h : List ServerEvent) → SameLane lane h h
same_lane_refl lane h = record { shut = refl; refused = refl; full = refl; taken = λ e. e }

pub same_lane_trans : (lane : ℕ) (f g h : List ServerEvent) → SameLane lane f g → SameLane lane g h → SameLane lane f h
same_lane_trans lane f g h x y = record {
  shut = x.shut ∙ y.shut;
  refused = x.refused ∙ y.refused;
  full = x.full ∙ y.full;
  taken = λ e. x.taken (y.taken e);
}

pub same_lane_note : (lane : ℕ) (n : ConnectionEvent) (h : List ServerEvent) → SameLane lane (Notes n ∷ h) h
same_lane_note lane n h = record { shut = refl; refused = refl; full = refl; taken = λ e. e }

pub same_lane_works : (lane : ℕ) (x : MachineEvent) (h : List ServerEvent) → SameLane lane (Works x ∷ h) h
same_lane_works lane x h = record { shut = refl; refused = refl; full = refl; taken = λ e. e }

pub same_lane_learns : (lane : ℕ) (asked : Asked) (h : List ServerEvent) → SameLane lane (Learns asked ∷ h) h
same_lane_learns lane asked h = record { shut = refl; refused = refl; full = refl; taken = λ e. e }

pub same_lane_draws : (lane : ℕ) (drawn : Option (List ℕ)) (h : List ServerEvent) → SameLane lane (Draws drawn ∷ h) h
same_lane_draws lane drawn h = record { shut = refl; refused = refl; full = refl; taken = λ e. e }

pub same_lane_shut : (lane k : ℕ) (h : List ServerEvent) → SameLane lane (Says (say.Shut k) ∷ h) h
same_lane_shut lane k h = record { shut = refl; refused = refl; full = refl; taken = λ e. e }

pub same_lane_bytes : (lane k : ℕ) (bytes : List ℕ) (text : Bool) (h : List ServerEvent) → SameLane lane (Says (say.Bytes k bytes text) ∷ h) h
same_lane_bytes lane k bytes text h = record { shut = refl; refused = refl; full = refl; taken = λ e. e }

-- a reply there leaves what is on other lanes
pub same_lane_reply : (lane k : ℕ) (reply : Reply) (h : List ServerEvent) → (lane == k) ≡ false → SameLane lane (Says (say.Reply k reply) ∷ h) h
same_lane_reply lane k reply h e = record {
  shut = refl;
  refused = refl;
  full = refl;
  taken = λ t.
      ap (λ (b : Bool). ((b && (reply.status == 101)) || is_upgraded lane h) || (if b then false else awaits_reply lane h)) e ∙ t;
}

-- ---- what is kept of a lane

pub lane_kept : (u : Unsettled) (x : Option Lane) (lane : ℕ) (g h : List ServerEvent) → SameLane lane g h → ((c : ℕ) → is_at lane c g ≡ is_at lane c h)
    → ((c : ℕ) → is_this lane (socket_of c (notes g)) ≡ is_this lane (socket_of c (notes h))) → IsLane u x lane h → IsLane u x lane g
lane_kept u None lane g h same at socket l = λ c. at c ∙ l c
lane_kept u (Some x) lane g h same at socket l = record {
  at = at x.conn ∙ l.at;
  only = λ c e. l.only c (sym (at c) ∙ e);
  polls = l.polls ∙ ap not (sym (socket x.conn));
  last = l.last ∙ sym same.shut;
  refused = l.refused ∙ sym same.refused;
  full = l.full ∙ sym same.full;
  taken = elim (or_cases (is_this lane u.lane) (is_taken lane h) l.taken) [
    | inl e ↦ or_left (is_this lane u.lane) (is_taken lane g) e
    | inr e ↦ or_right (is_this lane u.lane) (is_taken lane g) (same.taken e)
  ];
}

-- ---- what isn't settled

pub lane_wider : (u v : Unsettled) (x : Option Lane) (lane : ℕ) (h : List ServerEvent) → (is_this lane u.lane ≡ true → is_this lane v.lane ≡ true)
    → IsLane u x lane h → IsLane v x lane h
lane_wider u v None lane h wider l = l
lane_wider u v (Some x) lane h wider l = record {
  at = l.at;
  only = l.only;
  polls = l.polls;
  last = l.last;
  refused = l.refused;
  full = l.full;
  taken = elim (or_cases (is_this lane u.lane) (is_taken lane h) l.taken) [
    | inl e ↦ or_left (is_this lane v.lane) (is_taken lane h) (wider e)
    | inr e ↦ or_right (is_this lane v.lane) (is_taken lane h) e
  ];
}

or_wider : (a b x : Bool) → (a ≡ true → b ≡ true) → (a || x) ≡ true → (b || x) ≡ true
or_wider a b x wider e = elim (or_cases a x e) [ inl f ↦ or_left b x (wider f) | inr f ↦ or_right b x f ]

pub orderly_wider : (u v : Unsettled) (c : ℕ) (h : List ServerEvent) → (is_this c u.conn ≡ true → is_this c v.conn ≡ true)
    → ((lane : ℕ) → is_this lane u.cut ≡ true → is_this lane v.cut ≡ true) → IsOrderly u c h → IsOrderly v c h
orderly_wider u v c h conn cut o = record {
  made = o.made;
  there = o.there;
  gone = o.gone;
  one_way = o.one_way;
  ended = o.ended;
  unused = o.unused;
  used = λ e. or_wider (is_this c u.conn) (is_this c v.conn)
      (is_some (socket_of c (notes h)) || is_some (lost_at c (notes h)) || is_polling c (notes h)) conn (o.used e);
  linked = λ e lane f. or_wider (is_this lane u.cut) (is_this lane v.cut) (is_some (present_link (history c h))) (cut lane) (o.linked e lane f);
  unlinked = o.unlinked;
  kept = o.kept;
  links = o.links;
  timely = o.timely;
  handled = o.handled;
  taken = o.taken;
}

-- ---- whole servers

not_later : (n : ℕ) → n ≤ n
not_later n = omega (arith)

pub standing_wider : {H Job : Type 0} (hub : Hub Job) (s : Setup) (u w : Unsettled) (before : List Said) (v : Server H Job) (h : List ServerEvent)
    → ((lane : ℕ) → is_this lane u.lane ≡ true → is_this lane w.lane ≡ true) → ((c : ℕ) → is_this c u.conn ≡ true → is_this c w.conn ≡ true)
    → ((lane : ℕ) → is_this lane u.cut ≡ true → is_this lane w.cut ≡ true) → Standing {H = H} hub s u before v h → Standing {H = H} hub s w before v h
standing_wider {H} hub s u w before v h lane conn cut x = record {
  setup = x.setup;
  machine = x.machine;
  front = x.front;
  callers = x.callers;
  lanes = λ k. lane_wider u w (get nat_cmp v.lanes k) k h (lane k) (x.lanes k);
  begun = x.begun;
  orderly = λ c. orderly_wider u w c h (conn c) cut (x.orderly c);
  clock = x.clock;
  words = x.words;
}

pub standing_learns : {H Job : Type 0} (hub : Hub Job) (s : Setup) (u : Unsettled) (before : List Said) (v : Server H Job) (asked : Asked)
    (h : List ServerEvent)
    → Standing {H = H} hub s u before v h → Standing {H = H} hub s u before v (Learns asked ∷ h)
standing_learns {H} hub s u before v asked h x = record {
  setup = x.setup;
  machine = x.machine;
  front = x.front;
  callers = λ c. x.callers c;
  lanes = λ k. lane_kept u (get nat_cmp v.lanes k) k (Learns asked ∷ h) h (same_lane_learns k asked h) (λ c. refl) (λ c. refl) (x.lanes k);
  begun = x.begun;
  orderly = λ c. orderly_alike u c (Learns asked ∷ h) h (alike_learns asked c h) (not_later (moment h)) (x.orderly c);
  clock = x.clock;
  words = x.words;
}

pub standing_draws : {H Job : Type 0} (hub : Hub Job) (s : Setup) (u : Unsettled) (before : List Said) (v : Server H Job) (drawn : Option (List ℕ))
    (h : List ServerEvent)
    → Standing {H = H} hub s u before v h → Standing {H = H} hub s u before v (Draws drawn ∷ h)
standing_draws {H} hub s u before v drawn h x = record {
  setup = x.setup;
  machine = x.machine;
  front = x.front;
  callers = λ c. x.callers c;
  lanes = λ k. lane_kept u (get nat_cmp v.lanes k) k (Draws drawn ∷ h) h (same_lane_draws k drawn h) (λ c. refl) (λ c. refl) (x.lanes k);
  begun = x.begun;
  orderly = λ c. orderly_alike u c (Draws drawn ∷ h) h (alike_draws drawn c h) (not_later (moment h)) (x.orderly c);
  clock = x.clock;
  words = x.words;
}

-- ---- what is said

one_more : (before words all : List Said) (x : Said) → all ≡ before ++ words → (all ++ x ∷ []) ≡ before ++ (words ++ x ∷ [])
one_more before words all x e = ap (λ l. l ++ x ∷ []) e ∙ append_assoc before words (x ∷ [])

pub standing_shuts : {H Job : Type 0} (hub : Hub Job) (s : Setup) (u : Unsettled) (before : List Said) (v : Server H Job) (lane : ℕ) (h : List ServerEvent)
    → Standing {H = H} hub s u before v h
    → Standing {H = H} hub s u before (record v { words = v.words ++ say.Shut lane ∷ [] }) (Says (say.Shut lane) ∷ h)
standing_shuts {H} hub s u before v lane h x = record {
  setup = x.setup;
  machine = x.machine;
  front = x.front;
  callers = λ c. x.callers c;
  lanes = λ k. lane_kept u (get nat_cmp v.lanes k) k (Says (say.Shut lane) ∷ h) h (same_lane_shut k lane h) (λ c. refl) (λ c. refl) (x.lanes k);
  begun = x.begun;
  orderly = λ c. orderly_alike u c (Says (say.Shut lane) ∷ h) h (alike_says (say.Shut lane) c h) (not_later (moment h)) (x.orderly c);
  clock = x.clock;
  words = one_more before v.words (said h) (say.Shut lane) x.words;
}

pub standing_tells : {H Job : Type 0} (hub : Hub Job) (s : Setup) (u : Unsettled) (before : List Said) (v : Server H Job) (lane : ℕ) (bytes : List ℕ)
    (text : Bool) (h : List ServerEvent)
    → Standing {H = H} hub s u before v h
    → Standing {H = H} hub s u before (record v { words = v.words ++ say.Bytes lane bytes text ∷ [] }) (Says (say.Bytes lane bytes text) ∷ h)
standing_tells {H} hub s u before v lane bytes text h x = record {
  setup = x.setup;
  machine = x.machine;
  front = x.front;
  callers = λ c. x.callers c;
  lanes = λ k. lane_kept u (get nat_cmp v.lanes k) k (Says (say.Bytes lane bytes text) ∷ h) h (same_lane_bytes k lane bytes text h) (λ c. refl)
      (λ c. refl) (x.lanes k);
  begun = x.begun;
  orderly = λ c. orderly_alike u c (Says (say.Bytes lane bytes text) ∷ h) h (alike_says (say.Bytes lane bytes text) c h) (not_later (moment h))
      (x.orderly c);
  clock = x.clock;
  words = one_more before v.words (said h) (say.Bytes lane bytes text) x.words;
}

-- nothing is kept of a lane on which nobody is
replied : (u : Unsettled) (x : Option Lane) (k lane : ℕ) (reply : Reply) (h : List ServerEvent) → IsNobodys lane h → IsLane u x k h
    → IsLane u x k (Says (say.Reply lane reply) ∷ h)
replied u None k lane reply h nobody l = λ c. l c
replied u (Some x) k lane reply h nobody l = go (k == lane) refl
  where
    go : (b : Bool) → (k == lane) ≡ b → IsLane u (Some x) k (Says (say.Reply lane reply) ∷ h)
    go true e = absurd (both_ways (is_at lane x.conn h) (nobody x.conn) (ap (λ n. is_at n x.conn h) (sym (eqb-true k lane e)) ∙ l.at))
    go false e = lane_kept u (Some x) k (Says (say.Reply lane reply) ∷ h) h (same_lane_reply k lane reply h e) (λ c. refl) (λ c. refl) l

pub standing_replies : {H Job : Type 0} (hub : Hub Job) (s : Setup) (u : Unsettled) (before : List Said) (v : Server H Job) (lane : ℕ) (reply : Reply)
    (h : List ServerEvent)
    → IsNobodys lane h → Standing {H = H} hub s u before v h
    → Standing {H = H} hub s u before (record v { words = v.words ++ say.Reply lane reply ∷ [] }) (Says (say.Reply lane reply) ∷ h)
standing_replies {H} hub s u before v lane reply h nobody x = record {
  setup = x.setup;
  machine = x.machine;
  front = x.front;
  callers = λ c. x.callers c;
  lanes = λ k. replied u (get nat_cmp v.lanes k) k lane reply h nobody (x.lanes k);
  begun = x.begun;
  orderly = λ c. orderly_alike u c (Says (say.Reply lane reply) ∷ h) h (alike_says (say.Reply lane reply) c h) (not_later (moment h)) (x.orderly c);
  clock = x.clock;
  words = one_more before v.words (said h) (say.Reply lane reply) x.words;
}
