-- Peers that lag behind: idle moves leave all that a peer remembers but the moment and the mark of the round, so one later beginning of a
-- round and one tick make up for all of them.
use Rattle.std.proofs.Common.{◌≡◌, ℕ, ◌==◌, ◌≤◌, Bool, true, false, not, List, [], ◌∷◌, ◌++◌, Option, Some, None, is_some}
use Rattle.std.proofs.Common.{refl, sym, ap, subst, ◌∙◌, true≢false, arith, max}
use Rattle.std.specs.Prelude.{if◌then◌else◌}
use Rattle.std.specs.List.{list_all}
use Rattle.std.proofs.lemmas.Bool.{and_parts}
use Rattle.hd_delivery.specs.Histories as of
use Rattle.hd_delivery.specs.Histories.{EndEvent, Ticked, Config, heard_moment, is_silence, present_link}
use Rattle.hd_delivery.specs.Due.{is_quiet, is_unseen}
use Rattle.hd_delivery.specs.Bytes.{Wire, ByteStep, in_frames}
use Rattle.hd_delivery.specs.Bytes.{Does as Step_of}
use Rattle.hd_delivery.specs.OneHistory.{IsHistory}
use Rattle.hd_calls.specs.Hubs.{Hub}
use Rattle.hd_calls.specs.Laws.{TablesAgree}
use Rattle.hd_calls.specs.Peers.{PeerEvent, Plain, Settings, byte_steps, steps}
use Rattle.hd_calls.specs.Peers as peers
use Rattle.hd_calls.specs.Rules.{IsPeer, asking, passed}
use Rattle.hd_calls.specs.Tables.{JobHappening, Round, job_happenings, passed_in}
use Rattle.hd_server.specs.Laws.{IdleTicksAreUnseen}
use Rattle.hq_resend.specs.Buffers.{Buffer}
use Rattle.he_end.specs.declared.end.End.{End}
use Rattle.he_end.specs.declared.session.Session.{Session}
use Rattle.he_end.specs.declared.link.Agreed.{Agreed}
use Rattle.he_end.specs.declared.link.Link.{Link}
use Rattle.he_end.specs.Remembers.{Agrees, HoldsOf, OfLink, OnLink, Remembers}
use Rattle.he_end.specs.Stands as of_end
use Rattle.he_end.specs.Stands.{limits_of}
use Rattle.hj_jobs.specs.declared.jobs.Jobs.{Jobs}
use Rattle.hj_jobs.specs.Stands as of_jobs
use Rattle.hp_peer.specs.declared.peer.Peer.{Peer}
use Rattle.hp_peer.specs.Stands.{Stands}
use Rattle.hub_machine.specs.declared.idle_set.IdleClock.{IdleClock}
use Rattle.hub_machine.specs.declared.idle_set.IdlePeer.{IdlePeer}
use Rattle.hub_machine.specs.Machines.{IsDeadlineOf, Sleeps, is_idle}
use Rattle.hub_machine.specs.IdleSet.{deadline_in}
use Rattle.hub_machine.proofs.Idling.{deadline_is, idle_alike, slept_alike, slept_same, unsilent}

-- ---- one unseen tick more or less

-- a session, an end, jobs and a peer that are what they are, but for the moment and for which job had a turn last
abbrev session_at : ℕ → Session → Session
session_at n s = record s { moment = n }

abbrev end_at : ℕ → End → End
end_at n e = record e { session = session_at n e.session }

abbrev jobs_at : {H Job : Type 0} → ℕ → Jobs H Job → Jobs H Job
jobs_at turned jobs = record jobs { passed = turned }

abbrev at_mark : {H Job : Type 0} → ℕ → ℕ → Peer H Job → Peer H Job
at_mark {H} {Job} n turned p = record p { end = end_at n p.end; jobs = jobs_at {H = H} {Job = Job} turned p.jobs }

on_link : {P Q : Link → ℕ → Type 0} (x : Option Link) (o : Option ℕ) → ((y : Link) (l : ℕ) → P y l → Q y l) → OnLink x o P → OnLink x o Q
on_link None None f e = e
on_link (Some x) (Some l) f e = f x l e
on_link None (Some l) f e = e
on_link (Some x) None f e = e

module _ (c : Config) (now : ℕ) (k : List EndEvent) (heard : heard_moment (Ticked now ∷ k) ≡ heard_moment k)
    (quiet : is_quiet (Ticked now ∷ k) ≡ is_quiet k) where
  agrees_more : (o : Option Agreed) → Agrees o c k → Agrees o c (Ticked now ∷ k)
  agrees_more None a = a
  agrees_more (Some x) a = a

  agrees_less : (o : Option Agreed) → Agrees o c (Ticked now ∷ k) → Agrees o c k
  agrees_less None a = a
  agrees_less (Some x) a = a

  link_more : (n : ℕ) (s : Session) (x : Link) (l : ℕ) → OfLink s c k x l → OfLink (session_at n s) c (Ticked now ∷ k) x l
  link_more n s x l r = record {
    first = r.first;
    opened = r.opened;
    said = r.said;
    told = r.told;
    resumed = r.resumed;
    parted = r.parted;
    quiet = r.quiet ∙ sym quiet;
    wrote = r.wrote;
    heard = r.heard ∙ sym heard;
    within = r.within;
    counted = r.counted;
    greets = r.greets;
    alone = r.alone;
    numbered = r.numbered;
  }

  link_less : (n : ℕ) (s : Session) (x : Link) (l : ℕ) → OfLink s c (Ticked now ∷ k) x l → OfLink (session_at n s) c k x l
  link_less n s x l r = record {
    first = r.first;
    opened = r.opened;
    said = r.said;
    told = r.told;
    resumed = r.resumed;
    parted = r.parted;
    quiet = r.quiet ∙ quiet;
    wrote = r.wrote;
    heard = r.heard ∙ heard;
    within = r.within;
    counted = r.counted;
    greets = r.greets;
    alone = r.alone;
    numbered = r.numbered;
  }

  holds_more : (b : Buffer) → HoldsOf b c k → HoldsOf b c (Ticked now ∷ k)
  holds_more b r = record { keeps = r.keeps; sent = r.sent; acked = r.acked; written = r.written; furthest = r.furthest; held = r.held }

  holds_less : (b : Buffer) → HoldsOf b c (Ticked now ∷ k) → HoldsOf b c k
  holds_less b r = record { keeps = r.keeps; sent = r.sent; acked = r.acked; written = r.written; furthest = r.furthest; held = r.held }

  remembers_more : (s : Session) → Remembers c s k → Remembers c (session_at (of.moment (Ticked now ∷ k)) s) (Ticked now ∷ k)
  remembers_more s r = record {
    side = r.side;
    codec = r.codec;
    version = r.version;
    reconnect = r.reconnect;
    agreed = agrees_more s.agreed r.agreed;
    closed = r.closed;
    farewell = r.farewell;
    answer = r.answer;
    live = r.live;
    number = r.number;
    link = on_link s.link (present_link k) (link_more (of.moment (Ticked now ∷ k)) s) r.link;
    ring = holds_more s.ring r.ring;
    processed = r.processed;
    moment = refl;
    begun = r.begun;
    unshaken = r.unshaken;
  }

  remembers_less : (s : Session) → Remembers c s (Ticked now ∷ k) → Remembers c (session_at (of.moment k) s) k
  remembers_less s r = record {
    side = r.side;
    codec = r.codec;
    version = r.version;
    reconnect = r.reconnect;
    agreed = agrees_less s.agreed r.agreed;
    closed = r.closed;
    farewell = r.farewell;
    answer = r.answer;
    live = r.live;
    number = r.number;
    link = on_link s.link (present_link k) (link_less (of.moment k) s) r.link;
    ring = holds_less s.ring r.ring;
    processed = r.processed;
    moment = refl;
    begun = r.begun;
    unshaken = r.unshaken;
  }

-- the tick is unseen
module _ (law : IdleTicksAreUnseen) (wire : Wire) (c : Config) (now : ℕ) (h : List ByteStep) (e : End)
    (unseen : is_unseen c now (in_frames wire c h) ≡ true) where
  heard_same : heard_moment (Ticked now ∷ in_frames wire c h) ≡ heard_moment (in_frames wire c h)
  heard_same = (law c now (in_frames wire c h) unseen).same_heard

  quiet_same : is_quiet (Ticked now ∷ in_frames wire c h) ≡ is_quiet (in_frames wire c h)
  quiet_same = (law c now (in_frames wire c h) unseen).same_quiet

  end_more : IsHistory (limits_of e) wire c (Step_of (Ticked now) ∷ h) → of_end.Stands wire c e h
      → of_end.Stands wire c (end_at (of.moment (Ticked now ∷ in_frames wire c h)) e) (Step_of (Ticked now) ∷ h)
  end_more may s = record {
    house = s.house;
    history = may;
    remembers = remembers_more c now (in_frames wire c h) heard_same quiet_same e.session s.remembers;
    most = s.most;
    reads = λ l at unshut. let r = s.reads l at unshut in record { bytes = r.bytes; place = r.place; framing = r.framing };
    said = s.said;
  }

  end_less : of_end.Stands wire c e (Step_of (Ticked now) ∷ h) → of_end.Stands wire c (end_at (of.moment (in_frames wire c h)) e) h
  end_less s = record {
    house = s.house;
    history = s.history.0;
    remembers = remembers_less c now (in_frames wire c h) heard_same quiet_same e.session s.remembers;
    most = s.most;
    reads = λ l at unshut. let r = s.reads l at unshut in record { bytes = r.bytes; place = r.place; framing = r.framing };
    said = s.said;
  }

-- ---- the same of a peer

-- the history of its end, by its end's limits
own_history : {H Job : Type 0} (hub : Hub Job) (t : Settings) (p : Peer H Job) (h : List PeerEvent) → t.limits ≡ limits_of p.end → IsPeer hub t h
    → IsHistory (limits_of p.end) t.wire t.config (byte_steps t h)
own_history hub t p h e is = subst (λ l. IsHistory l t.wire t.config (byte_steps t h)) e is.is_history

-- a peer stands for moves, but for the moment and the job that had a turn last
abbrev LagsBehind : {H Job : Type 0} → Hub Job → Settings → Peer H Job → List PeerEvent → Type 0
LagsBehind {H} {Job} hub t p h = Stands {H = H} hub t (at_mark {H = H} {Job = Job} (of.moment (steps t h)) (passed h) p) h

tick_more : {H Job : Type 0} (law : IdleTicksAreUnseen) (hub : Hub Job) (t : Settings) (p : Peer H Job) (now : ℕ) (h : List PeerEvent)
    → is_unseen t.config now (steps t h) ≡ true → IsPeer hub t (Plain (Step_of (Ticked now)) ∷ h) → LagsBehind {H = H} hub t p h
    → LagsBehind {H = H} hub t p (Plain (Step_of (Ticked now)) ∷ h)
tick_more {H} {Job} law hub t p now h unseen may s = record {
  names = s.names;
  limits = s.limits;
  end = end_more law t.wire t.config now (byte_steps t h) (end_at (of.moment (steps t h)) p.end) unseen
      (own_history {H = H} {Job = Job} hub t p (Plain (Step_of (Ticked now)) ∷ h) s.limits may) s.end;
  calls = s.calls;
  jobs = s.jobs;
  who = s.who;
  waits = s.waits;
  counted = s.counted;
  jobs_by_call = s.jobs_by_call;
  follows = may.follows;
  prompt = may.prompt;
  settled = refl;
}

tick_less : {H Job : Type 0} (law : IdleTicksAreUnseen) (hub : Hub Job) (t : Settings) (p : Peer H Job) (now : ℕ) (h : List PeerEvent)
    → is_unseen t.config now (steps t h) ≡ true → asking h ≡ None → LagsBehind {H = H} hub t p (Plain (Step_of (Ticked now)) ∷ h)
    → LagsBehind {H = H} hub t p h
tick_less {H} {Job} law hub t p now h unseen calm s = record {
  names = s.names;
  limits = s.limits;
  end = end_less law t.wire t.config now (byte_steps t h) (end_at (of.moment (steps t (Plain (Step_of (Ticked now)) ∷ h))) p.end) unseen s.end;
  calls = s.calls;
  jobs = s.jobs;
  who = s.who;
  waits = s.waits;
  counted = s.counted;
  jobs_by_call = s.jobs_by_call;
  follows = s.follows.0;
  prompt = s.prompt.0;
  settled = calm;
}

-- ---- one beginning of a round more or less

jobs_more : {H Job : Type 0} (hub : Hub Job) (jobs : Jobs H Job) (who : List ℕ) (h : List JobHappening)
    → of_jobs.Stands {H = H} hub jobs who h → of_jobs.Stands {H = H} hub (jobs_at {H = H} {Job = Job} 0 jobs) who (Round ∷ h)
jobs_more hub jobs who h s = record {
  accepted = s.accepted;
  moments = s.moments;
  entries = s.entries;
  none = s.none;
  count = s.count;
  few_live = s.few_live;
  ids = record { had = s.ids.had; every = s.ids.every };
  streams = record { had = s.streams.had; every = s.streams.every };
  due = record { rising = s.due.rising; same = s.due.same; from_one = s.due.from_one };
  room = s.room;
  passed = refl;
  unborn = s.unborn;
  weight = s.weight;
}

jobs_less : {H Job : Type 0} (hub : Hub Job) (jobs : Jobs H Job) (who : List ℕ) (h : List JobHappening) (turned : ℕ) → turned ≡ passed_in h
    → of_jobs.Stands {H = H} hub jobs who (Round ∷ h) → of_jobs.Stands {H = H} hub (jobs_at {H = H} {Job = Job} turned jobs) who h
jobs_less hub jobs who h turned is s = record {
  accepted = s.accepted;
  moments = s.moments;
  entries = s.entries;
  none = s.none;
  count = s.count;
  few_live = s.few_live;
  ids = record { had = s.ids.had; every = s.ids.every };
  streams = record { had = s.streams.had; every = s.streams.every };
  due = record { rising = s.due.rising; same = s.due.same; from_one = s.due.from_one };
  room = s.room;
  passed = is;
  unborn = s.unborn;
  weight = s.weight;
}

round_more : {H Job : Type 0} (hub : Hub Job) (t : Settings) (p : Peer H Job) (h : List PeerEvent)
    → IsPeer hub t (peers.Rounds ∷ h) → LagsBehind {H = H} hub t p h → LagsBehind {H = H} hub t p (peers.Rounds ∷ h)
round_more {H} {Job} hub t p h may s = record {
  names = s.names;
  limits = s.limits;
  end = s.end;
  calls = s.calls;
  jobs = jobs_more {H = H} {Job = Job} hub (jobs_at {H = H} {Job = Job} (passed h) p.jobs) t.who (job_happenings t h) s.jobs;
  who = s.who;
  waits = s.waits;
  counted = s.counted;
  jobs_by_call = s.jobs_by_call;
  follows = may.follows;
  prompt = may.prompt;
  settled = refl;
}

round_less : {H Job : Type 0} (tables : TablesAgree) (hub : Hub Job) (t : Settings) (p : Peer H Job) (h : List PeerEvent) → asking h ≡ None
    → LagsBehind {H = H} hub t p (peers.Rounds ∷ h) → LagsBehind {H = H} hub t p h
round_less {H} {Job} tables hub t p h calm s = record {
  names = s.names;
  limits = s.limits;
  end = s.end;
  calls = s.calls;
  jobs = jobs_less {H = H} {Job = Job} hub (jobs_at {H = H} {Job = Job} 0 p.jobs) t.who (job_happenings t h) (passed h) (tables t h).1.passes s.jobs;
  who = s.who;
  waits = s.waits;
  counted = s.counted;
  jobs_by_call = s.jobs_by_call;
  follows = s.follows.0;
  prompt = s.prompt.0;
  settled = calm;
}

-- ---- idle moves one after the other

-- moments don't fall
idle_later : (t : Settings) (g h : List PeerEvent) (x : PeerEvent) → is_idle t g x ≡ true → of.moment (steps t h) ≤ of.moment (steps t (x ∷ h))
idle_later t g h peers.Rounds e = omega arith
idle_later t g h (Plain (Step_of (Ticked now))) e = omega arith
idle_later t g h _ e = absurd (true≢false (sym e))

later : (t : Settings) (g xs : List PeerEvent) → list_all (is_idle t g) xs ≡ true → of.moment (steps t g) ≤ of.moment (steps t (xs ++ g))
later t g [] e = omega arith
later t g (x ∷ xs) e =
    let parts = and_parts (is_idle t g x) (list_all (is_idle t g) xs) e in
    let one = idle_later t g (xs ++ g) x parts.0 in
    let rest = later t g xs parts.1 in
    omega (arith, one, rest)

-- on no link none has a moment
idle_still : (t : Settings) (g h : List PeerEvent) (x : PeerEvent) → is_idle t g x ≡ true → present_link (steps t g) ≡ None
    → of.moment (steps t (x ∷ h)) ≡ of.moment (steps t h)
idle_still t g h peers.Rounds e none = refl
idle_still t g h (Plain (Step_of (Ticked now))) e none =
    absurd (true≢false (sym (and_parts (is_some (present_link (steps t g))) (is_unseen t.config now (steps t g)) e).0 ∙ ap is_some none))
idle_still t g h _ e none = absurd (true≢false (sym e))

still : (t : Settings) (g xs : List PeerEvent) → list_all (is_idle t g) xs ≡ true → present_link (steps t g) ≡ None
    → of.moment (steps t (xs ++ g)) ≡ of.moment (steps t g)
still t g [] e none = refl
still t g (x ∷ xs) e none =
    let parts = and_parts (is_idle t g x) (list_all (is_idle t g) xs) e in
    idle_still t g (xs ++ g) x parts.0 none ∙ still t g xs parts.1 none

module _ {H Job : Type 0} (law : IdleTicksAreUnseen) (hub : Hub Job) (t : Settings) (p : Peer H Job) (g : List PeerEvent)
    (stands : LagsBehind {H = H} hub t p g) where
  -- one move more
  more : (h : List PeerEvent) (x : PeerEvent) → is_idle t g x ≡ true
      → ((now : ℕ) → is_unseen t.config now (steps t h) ≡ is_unseen t.config now (steps t g)) → IsPeer hub t (x ∷ h)
      → (IsPeer hub t h → LagsBehind {H = H} hub t p h) → LagsBehind {H = H} hub t p (x ∷ h)
  more h peers.Rounds e same may s =
      round_more {H = H} {Job = Job} hub t p h may
      (s (record { follows = may.follows.0; prompt = may.prompt.0; is_history = may.is_history }))
  more h (Plain (Step_of (Ticked now))) e same may s =
      tick_more {H = H} {Job = Job} law hub t p now h
      (same now ∙ (and_parts (is_some (present_link (steps t g))) (is_unseen t.config now (steps t g)) e).1) may
      (s (record { follows = may.follows.0; prompt = may.prompt.0; is_history = may.is_history.0 }))
  more h _ e same may s = absurd (true≢false (sym e))

  -- all of them
  all_more : (xs : List PeerEvent) → list_all (is_idle t g) xs ≡ true → IsPeer hub t (xs ++ g) → LagsBehind {H = H} hub t p (xs ++ g)
  all_more [] e may = stands
  all_more (x ∷ xs) e may =
      let parts = and_parts (is_idle t g x) (list_all (is_idle t g) xs) e in
      more (xs ++ g) x parts.0 ((idle_alike law t g xs parts.1).unseen) may (all_more xs parts.1)

-- ---- one that sleeps

-- a peer that stands for moves but for the moment and the job that had a turn last, and has these too
in_time : {H Job : Type 0} (hub : Hub Job) (t : Settings) (p : Peer H Job) (h : List PeerEvent) → p.end.session.moment ≡ of.moment (steps t h)
    → p.jobs.passed ≡ passed h → LagsBehind {H = H} hub t p h → Stands {H = H} hub t p h
in_time {H} {Job} hub t p h e f s =
    subst (λ n. Stands {H = H} hub t (at_mark {H = H} {Job = Job} n p.jobs.passed p) h) (sym e)
    (subst (λ n. Stands {H = H} hub t (at_mark {H = H} {Job = Job} (of.moment (steps t h)) n p) h) (sym f) s)

-- the moment and the job that had a turn last
moment_is : {H Job : Type 0} (hub : Hub Job) (t : Settings) (p : Peer H Job) (h : List PeerEvent) → Stands {H = H} hub t p h
    → p.end.session.moment ≡ of.moment (steps t h)
moment_is hub t p h s = s.end.remembers.moment

turned_is : {H Job : Type 0} (tables : TablesAgree) (hub : Hub Job) (t : Settings) (p : Peer H Job) (h : List PeerEvent) → Stands {H = H} hub t p h
    → p.jobs.passed ≡ passed h
turned_is tables hub t p h s = s.jobs.passed ∙ sym (tables t h).1.passes

-- and back
out_of_time : {H Job : Type 0} (tables : TablesAgree) (hub : Hub Job) (t : Settings) (p : Peer H Job) (h : List PeerEvent) → Stands {H = H} hub t p h
    → LagsBehind {H = H} hub t p h
out_of_time {H} {Job} tables hub t p h s =
    subst (λ n. Stands {H = H} hub t (at_mark {H = H} {Job = Job} (of.moment (steps t h)) n p) h) (turned_is {H = H} {Job = Job} tables hub t p h s)
    (subst (λ n. Stands {H = H} hub t (at_mark {H = H} {Job = Job} n p.jobs.passed p) h) (moment_is {H = H} {Job = Job} hub t p h s) s)

-- what is made up for: a round's beginning, and a tick
abbrev pub begun_if : Bool → List PeerEvent → List PeerEvent
begun_if b h = if b then peers.Rounds ∷ h else h

abbrev pub ticked_if : Bool → ℕ → List PeerEvent → List PeerEvent
ticked_if b now h = if b then Plain (Step_of (Ticked now)) ∷ h else h

begun_steps : (b : Bool) (t : Settings) (h : List PeerEvent) → steps t (begun_if b h) ≡ steps t h
begun_steps true t h = refl
begun_steps false t h = refl

begun_asking : (b : Bool) (h : List PeerEvent) → asking h ≡ None → asking (begun_if b h) ≡ None
begun_asking true h e = refl
begun_asking false h e = e

begun_passed : (b : Bool) (h : List PeerEvent) → passed (begun_if b h) ≡ (if b then 0 else passed h)
begun_passed true h = refl
begun_passed false h = refl

ticked_passed : (b : Bool) (now : ℕ) (h : List PeerEvent) → passed (ticked_if b now h) ≡ passed h
ticked_passed true now h = refl
ticked_passed false now h = refl

-- by whether as many rounds have begun
marked_by : (same begins : Bool) (n : ℕ) → begins ≡ not same → (if begins then 0 else n) ≡ (if same then n else 0)
marked_by true begins n e = ap (λ b. if b then 0 else n) e
marked_by false begins n e = ap (λ b. if b then 0 else n) e

module _ {H Job : Type 0} (law : IdleTicksAreUnseen) (tables : TablesAgree) (hub : Hub Job) (clock : IdleClock) (idle_peer : IdlePeer) (t : Settings) (p : Peer H Job)
    (h : List PeerEvent) (s : Sleeps {H = H} hub clock idle_peer t p h) where
  peer_then : IsPeer hub t (s.since ++ s.before)
  peer_then = subst (λ ms. IsPeer hub t ms) s.are s.peer

  -- the tick that makes up for those that were left out is no silence, and comes in time
  makes_up : (moment : ℕ) → deadline_in (Some idle_peer) ≡ Some moment
      → (is_unseen t.config clock.moment (steps t s.before) ≡ true) × (of.moment (steps t s.before) ≤ clock.moment)
      × (of.moment (steps t h) ≡ clock.moment)
  makes_up moment set =
      let was = deadline_is clock.moment moment idle_peer t h set s.may.deadline in
      let past = later t s.before s.since s.idle in
      let same : of.moment (steps t h) ≡ of.moment (steps t (s.since ++ s.before)) = ap (λ ms. of.moment (steps t ms)) s.are in
      let at = was.1 in (
        sym ((slept_alike {H = H} {Job = Job} law hub clock idle_peer t p h s).unseen clock.moment) ∙ was.3 clock.moment was.2,
        omega (arith, past, same, at),
        at,
      )

  -- of one with an alarm, so too once the round has begun
  pub may_tick : (begins ticks : Bool) → ticks ≡ is_some idle_peer.deadline → ticks ≡ true
      → (of.moment (steps t (begun_if begins s.before)) ≤ clock.moment) × (is_silence t.config clock.moment (steps t (begun_if begins s.before)) ≡ false)
  may_tick begins ticks e is = by idle_peer.deadline refl
    where
      by : (o : Option ℕ) → idle_peer.deadline ≡ o
          → (of.moment (steps t (begun_if begins s.before)) ≤ clock.moment) × (is_silence t.config clock.moment (steps t (begun_if begins s.before)) ≡ false)
      by None f = absurd (true≢false (sym is ∙ e ∙ ap is_some f))
      by (Some moment) f =
          let up = makes_up moment f in
          subst (λ k. (of.moment k ≤ clock.moment) × (is_silence t.config clock.moment k ≡ false)) (sym (begun_steps begins t s.before))
          (up.1, unsilent t.config clock.moment (steps t s.before) up.0)

  module _ (q : Peer H Job) (begins : Bool) (begins_is : begins ≡ not (idle_peer.rounds == clock.rounds)) where
    -- it stands for what was before, but for the moment and the mark of the round
    from_begun : LagsBehind {H = H} hub t q (begun_if begins s.before) → LagsBehind {H = H} hub t q s.before
    from_begun = by begins
      where
        by : (b : Bool) → LagsBehind {H = H} hub t q (begun_if b s.before) → LagsBehind {H = H} hub t q s.before
        by true l = round_less {H = H} {Job = Job} tables hub t q s.before s.stood.settled l
        by false l = l

    -- so it does for all that was done since
    since_then : LagsBehind {H = H} hub t q s.before → LagsBehind {H = H} hub t q h
    since_then l = subst (λ ms. LagsBehind {H = H} hub t q ms) (sym s.are) (all_more {H = H} {Job = Job} law hub t q s.before l s.since s.idle peer_then)

    -- the mark is that of the round
    marks : (b : Bool) → q.jobs.passed ≡ passed (ticked_if b clock.moment (begun_if begins s.before)) → q.jobs.passed ≡ passed h
    marks b e =
        e ∙ ticked_passed b clock.moment (begun_if begins s.before) ∙ begun_passed begins s.before
        ∙ marked_by (idle_peer.rounds == clock.rounds) begins (passed s.before) begins_is ∙ sym s.marked

    -- once it has ticked, if it has an alarm, it stands for all that was done
    pub catches_up : (ticks : Bool) → ticks ≡ is_some idle_peer.deadline
        → Stands {H = H} hub t q (ticked_if ticks clock.moment (begun_if begins s.before)) → Stands {H = H} hub t q h
    catches_up ticks e stands = by idle_peer.deadline refl ticks e stands
      where
        by : (o : Option ℕ) → idle_peer.deadline ≡ o → (b : Bool) → b ≡ is_some idle_peer.deadline
            → Stands {H = H} hub t q (ticked_if b clock.moment (begun_if begins s.before)) → Stands {H = H} hub t q h
        by None f true g st = absurd (true≢false (g ∙ ap is_some f))
        by None f false g st =
            let was : present_link (steps t h) ≡ None = subst (λ o. IsDeadlineOf clock.moment o t h) f s.may.deadline in
            let gone : present_link (steps t s.before) ≡ None = sym (slept_same {H = H} {Job = Job} hub clock idle_peer t p h s).present ∙ was in
            let lags = out_of_time {H = H} {Job = Job} tables hub t q (begun_if begins s.before) st in
            in_time {H = H} {Job = Job} hub t q h
            (moment_is {H = H} {Job = Job} hub t q (begun_if begins s.before) st ∙ ap of.moment (begun_steps begins t s.before)
            ∙ sym (still t s.before s.since s.idle gone) ∙ ap (λ ms. of.moment (steps t ms)) (sym s.are))
            (marks false (turned_is {H = H} {Job = Job} tables hub t q (begun_if begins s.before) st))
            (since_then (from_begun lags))
        by (Some moment) f false g st = absurd (true≢false (sym (ap is_some f) ∙ sym g))
        by (Some moment) f true g st =
            let up = makes_up moment f in
            let early : of.moment (steps t s.before) ≤ clock.moment = up.1 in
            let here : of.moment (steps t h) ≡ clock.moment = up.2 in
            let begun : List PeerEvent = begun_if begins s.before in
            let at : q.end.session.moment ≡ max clock.moment (of.moment (steps t begun)) =
            moment_is {H = H} {Job = Job} hub t q (Plain (Step_of (Ticked clock.moment)) ∷ begun) st in
            let same : of.moment (steps t begun) ≡ of.moment (steps t s.before) = ap of.moment (begun_steps begins t s.before) in
            let lags = out_of_time {H = H} {Job = Job} tables hub t q (Plain (Step_of (Ticked clock.moment)) ∷ begun) st in
            let less = tick_less {H = H} {Job = Job} law hub t q clock.moment begun
            (subst (λ k. is_unseen t.config clock.moment k ≡ true) (sym (begun_steps begins t s.before)) up.0)
            (begun_asking begins s.before s.stood.settled) lags in
            in_time {H = H} {Job = Job} hub t q h (at ∙ omega (arith, early, here, same))
            (marks true (turned_is {H = H} {Job = Job} tables hub t q (Plain (Step_of (Ticked clock.moment)) ∷ begun) st))
            (since_then (from_begun less))
