-- What idle moves change: nothing but the moment. So a connection that sleeps goes on sleeping while rounds begin and its end ticks.
use Rattle.std.proofs.Common.{◌≡◌, ◌⊎◌, inl, inr, ℕ, ◌+◌, ◌==◌, ◌<◌, ◌≤◌, Bool, true, false, not, List, [], ◌∷◌, ◌++◌, Option, Some, None, is_some}
use Rattle.std.proofs.Common.{refl, sym, ap, subst, ◌∙◌, true≢false, arith, max}
use Rattle.std.specs.Prelude.{◌&&◌, ◌||◌, nat_lt, if◌then◌else◌}
use Rattle.std.specs.List.{list_all}
use Rattle.std.proofs.lemmas.Bool.{and_from, and_parts, cond-false, lt-ltb, ne_eqb}
use Rattle.hd_delivery.specs.Numbers.{most_of_64_bits, ping_after}
use Rattle.hd_delivery.specs.Histories as of
use Rattle.hd_delivery.specs.Histories.{EndEvent, Ticked, Config, heard_moment, is_resumable, is_shaken, is_silence, present_link, sent_messages, written_moment}
use Rattle.hd_delivery.specs.Due.{due, is_quiet, is_unseen}
use Rattle.hd_delivery.specs.Bytes.{Does as Step_of}
use Rattle.hd_calls.specs.declared.vocabulary.Act.{Act}
use Rattle.hd_calls.specs.declared.vocabulary.Act.TheVariants as act
use Rattle.hd_calls.specs.Hubs.{Hub}
use Rattle.hd_calls.specs.Peers.{PeerEvent, Plain, Settings, acts, begun, codec, is_shut, last_of, live_job, is_cancelled, steps, waiting}
use Rattle.hd_calls.specs.Peers as peers
use Rattle.hd_calls.specs.Rules.{IsPeerDue, asking, next_input, passed}
use Rattle.hd_server.specs.Laws.{IdleTicksAreUnseen}
use Rattle.hd_server.specs.Serves.{is_text}
use Rattle.hp_peer.specs.declared.peer.Peer.{Peer}
use Rattle.hub_machine.specs.declared.idle_set.IdleClock.{IdleClock}
use Rattle.hub_machine.specs.declared.idle_set.IdlePeer.{IdlePeer}
use Rattle.hub_machine.specs.Machines.{IsDeadlineOf, Sleeps, is_idle}
use Rattle.hub_machine.specs.IdleSet.{after_round, deadline_in}

-- ---- what is the same

-- both say the same of the end, its codec, what it sent, the jobs that began and what waits
pub record SameButTime (t : Settings) (g h : List PeerEvent) : Type 0 where
  pub present : present_link (steps t h) ≡ present_link (steps t g)
  pub shut : is_shut t h ≡ is_shut t g
  pub kept : is_resumable t.config (steps t h) ≡ is_resumable t.config (steps t g)
  pub text : is_text t.config (steps t h) ≡ is_text t.config (steps t g)
  pub shaken : is_shaken (steps t h) ≡ is_shaken (steps t g)
  pub coded : codec t h ≡ codec t g
  pub sent : sent_messages (steps t h) ≡ sent_messages (steps t g)
  pub begins : begun h ≡ begun g
  pub waits : waiting h ≡ waiting g

same_next : (t : Settings) (g h : List PeerEvent) (x : PeerEvent) → is_idle t g x ≡ true → SameButTime t g h → SameButTime t g (x ∷ h)
same_next t g h peers.Rounds e s = record {
  present = s.present;
  shut = s.shut;
  kept = s.kept;
  text = s.text;
  shaken = s.shaken;
  coded = s.coded;
  sent = s.sent;
  begins = s.begins;
  waits = s.waits;
}
same_next t g h (Plain (Step_of (Ticked now))) e s = record {
  present = s.present;
  shut = s.shut;
  kept = s.kept;
  text = s.text;
  shaken = s.shaken;
  coded = s.coded;
  sent = s.sent;
  begins = s.begins;
  waits = s.waits;
}
same_next t g h _ e s = absurd (true≢false (sym e))

pub idle_same : (t : Settings) (g xs : List PeerEvent) → list_all (is_idle t g) xs ≡ true → SameButTime t g (xs ++ g)
idle_same t g [] e = record { present = refl; shut = refl; kept = refl; text = refl; shaken = refl; coded = refl; sent = refl; begins = refl; waits = refl }
idle_same t g (x ∷ xs) e =
    let parts = and_parts (is_idle t g x) (list_all (is_idle t g) xs) e in
    same_next t g (xs ++ g) x parts.0 (idle_same t g xs parts.1)

pub slept_same : {H Job : Type 0} (hub : Hub Job) (clock : IdleClock) (idle_peer : IdlePeer) (t : Settings) (p : Peer H Job) (h : List PeerEvent)
    → (s : Sleeps {H = H} hub clock idle_peer t p h) → SameButTime t s.before h
slept_same hub clock idle_peer t p h s = subst (SameButTime t s.before) (sym s.are) (idle_same t s.before s.since s.idle)

-- ---- what ticks leave

-- what a later tick finds is the same, and so is what is due
pub record TicksAlike (c : Config) (g h : List EndEvent) : Type 0 where
  pub heard : heard_moment h ≡ heard_moment g
  pub quiet : is_quiet h ≡ is_quiet g
  pub due : due c h ≡ due c g
  pub unseen : (now : ℕ) → is_unseen c now h ≡ is_unseen c now g

-- of what a test of a tick asks
unseen_by : (a b : Option ℕ) (s r : Bool) (q u : Bool) (until now : ℕ) → a ≡ b → s ≡ r → q ≡ u
    → ((is_some a && not s) && (q || nat_lt now until)) ≡ ((is_some b && not r) && (u || nat_lt now until))
unseen_by a b s r q u until now e f g = cc

alike_tick : (law : IdleTicksAreUnseen) (c : Config) (now : ℕ) (h : List EndEvent) → is_unseen c now h ≡ true → TicksAlike c h (Ticked now ∷ h)
alike_tick law c now h e =
    let same = law c now h e in
    record {
      heard = same.same_heard;
      quiet = same.same_quiet;
      due = same.same_due;
      unseen = λ later. unseen_by (heard_moment (Ticked now ∷ h)) (heard_moment h) (is_silence c later (Ticked now ∷ h)) (is_silence c later h)
          (is_quiet (Ticked now ∷ h)) (is_quiet h) (written_moment h + ping_after) later same.same_heard (same.same_silence later) same.same_quiet;
    }

alike_then : (c : Config) (f g h : List EndEvent) → TicksAlike c f g → TicksAlike c g h → TicksAlike c f h
alike_then c f g h a b = record {
  heard = b.heard ∙ a.heard;
  quiet = b.quiet ∙ a.quiet;
  due = b.due ∙ a.due;
  unseen = λ now. b.unseen now ∙ a.unseen now;
}

alike_next : (law : IdleTicksAreUnseen) (t : Settings) (g h : List PeerEvent) (x : PeerEvent) → is_idle t g x ≡ true
    → TicksAlike t.config (steps t g) (steps t h) → TicksAlike t.config (steps t g) (steps t (x ∷ h))
alike_next law t g h peers.Rounds e s = s
alike_next law t g h (Plain (Step_of (Ticked now))) e s =
    let unseen = (and_parts (is_some (present_link (steps t g))) (is_unseen t.config now (steps t g)) e).1 in
    alike_then t.config (steps t g) (steps t h) (Ticked now ∷ steps t h) s (alike_tick law t.config now (steps t h) (s.unseen now ∙ unseen))
alike_next law t g h _ e s = absurd (true≢false (sym e))

pub idle_alike : (law : IdleTicksAreUnseen) (t : Settings) (g xs : List PeerEvent) → list_all (is_idle t g) xs ≡ true
    → TicksAlike t.config (steps t g) (steps t (xs ++ g))
idle_alike law t g [] e = record { heard = refl; quiet = refl; due = refl; unseen = λ now. refl }
idle_alike law t g (x ∷ xs) e =
    let parts = and_parts (is_idle t g x) (list_all (is_idle t g) xs) e in
    alike_next law t g (xs ++ g) x parts.0 (idle_alike law t g xs parts.1)

pub slept_alike : {H Job : Type 0} (law : IdleTicksAreUnseen) (hub : Hub Job) (clock : IdleClock) (idle_peer : IdlePeer) (t : Settings) (p : Peer H Job) (h : List PeerEvent)
    → (s : Sleeps {H = H} hub clock idle_peer t p h) → TicksAlike t.config (steps t s.before) (steps t h)
slept_alike law hub clock idle_peer t p h s =
    subst (λ ms. TicksAlike t.config (steps t s.before) (steps t ms)) (sym s.are) (idle_alike law t s.before s.since s.idle)

-- an unseen tick is no silence
pub unsilent : (c : Config) (now : ℕ) (h : List EndEvent) → is_unseen c now h ≡ true → is_silence c now h ≡ false
unsilent c now h e =
    go (is_silence c now h)
    (and_parts (is_some (heard_moment h)) _ (and_parts (is_some (heard_moment h) && not (is_silence c now h)) _ e).0).1
  where
    go : (b : Bool) → not b ≡ true → b ≡ false
    go true f = sym f
    go false f = refl

-- ---- moves that a peer may make

idle_asking : (t : Settings) (g h : List PeerEvent) (x : PeerEvent) → is_idle t g x ≡ true → asking (x ∷ h) ≡ None
idle_asking t g h peers.Rounds e = refl
idle_asking t g h (Plain (Step_of (Ticked now))) e = refl
idle_asking t g h _ e = absurd (true≢false (sym e))

-- no job of one that sleeps asks for a call
pub settled : (t : Settings) (g xs : List PeerEvent) → list_all (is_idle t g) xs ≡ true → asking g ≡ None → asking (xs ++ g) ≡ None
settled t g [] e f = f
settled t g (x ∷ xs) e f = idle_asking t g (xs ++ g) x (and_parts (is_idle t g x) (list_all (is_idle t g) xs) e).0

pub slept_settled : {H Job : Type 0} (hub : Hub Job) (clock : IdleClock) (idle_peer : IdlePeer) (t : Settings) (p : Peer H Job) (h : List PeerEvent)
    → Sleeps {H = H} hub clock idle_peer t p h → asking h ≡ None
slept_settled hub clock idle_peer t p h s = subst (λ ms. asking ms ≡ None) (sym s.are) (settled t s.before s.since s.idle s.stood.settled)

-- ---- a round begins

-- a round's beginning gives no job an input
round_input : (j : ℕ) (h : List PeerEvent) (last : Option Act) → next_input j (peers.Rounds ∷ h) last ≡ next_input j h last
round_input j h None = refl
round_input j h (Some act.Wait) = refl
round_input j h (Some (act.Ask target arguments)) = refl
round_input j h (Some (act.Do deed)) = refl
round_input j h (Some _) = refl

-- nor does it make one due
round_undue : (t : Settings) (h : List PeerEvent) → IsPeerDue t (peers.Rounds ∷ h) → IsPeerDue t h
round_undue t h d = (
  record { unclosed = d.0.unclosed; room = d.0.room; few = d.0.few },
  (d.1.0, ap (λ i. live_job t d.1.0 h && (is_cancelled d.1.0 h || is_some i)) (sym (round_input d.1.0 h (last_of (acts d.1.0 h)))) ∙ d.1.1),
)

round_deadline : (clock : ℕ) (o : Option ℕ) (t : Settings) (h : List PeerEvent) → IsDeadlineOf clock o t h → IsDeadlineOf clock o t (peers.Rounds ∷ h)
round_deadline clock None t h a = a
round_deadline clock (Some moment) t h a = a

-- the number of rounds doesn't fall
rounds_rise : (rounds clock : ℕ) (b : Bool) → rounds ≤ clock → rounds ≤ (if b then clock + 1 else clock)
rounds_rise rounds clock true l = omega (arith, l)
rounds_rise rounds clock false l = l

-- and tells that a round has begun, unless no job had a turn before
round_marked : (rounds clock was turned : ℕ) (b : Bool) → nat_lt clock most_of_64_bits ≡ b → rounds ≤ clock → (turned ≡ 0) ⊎ (clock < most_of_64_bits)
    → turned ≡ (if rounds == clock then was else 0) → 0 ≡ (if rounds == (if b then clock + 1 else clock) then was else 0)
round_marked rounds clock was turned true e l counted marked =
    sym (cond-false (rounds == clock + 1) was 0 (ne_eqb rounds (clock + 1) (λ f. omega (arith, f, l))))
round_marked rounds clock was turned false e l (inl none) marked = sym none ∙ marked
round_marked rounds clock was turned false e l (inr few) marked =
    absurd (true≢false (sym (lt-ltb clock most_of_64_bits few) ∙ e))

pub sleeps_on : {H Job : Type 0} (hub : Hub Job) (clock : IdleClock) (idle_peer : IdlePeer) (t : Settings) (p : Peer H Job) (h : List PeerEvent)
    → Sleeps {H = H} hub clock idle_peer t p h → Sleeps {H = H} hub (after_round clock) idle_peer t p (peers.Rounds ∷ h)
sleeps_on {H} {Job} hub clock idle_peer t p h s = record {
  before = s.before;
  since = peers.Rounds ∷ s.since;
  are = ap (λ ms. peers.Rounds ∷ ms) s.are;
  idle = s.idle;
  stood = s.stood;
  begun = rounds_rise idle_peer.rounds clock.rounds (nat_lt clock.rounds most_of_64_bits) s.begun;
  marked = round_marked idle_peer.rounds clock.rounds (passed s.before) (passed h) (nat_lt clock.rounds most_of_64_bits) refl s.begun s.may.counted s.marked;
  peer = record {
    follows = (s.peer.follows, tt);
    prompt = (s.peer.prompt, inl (slept_settled {H = H} {Job = Job} hub clock idle_peer t p h s));
    is_history = s.peer.is_history;
  };
  may = record {
    unshut = s.may.unshut;
    undue = λ d. s.may.undue (round_undue t h d);
    unsaid = s.may.unsaid;
    deadline = round_deadline clock.moment idle_peer.deadline t h s.may.deadline;
    counted = inl refl;
  };
}

-- ---- time passes

tick_input : (now j : ℕ) (h : List PeerEvent) (last : Option Act) → next_input j (Plain (Step_of (Ticked now)) ∷ h) last ≡ next_input j h last
tick_input now j h None = refl
tick_input now j h (Some act.Wait) = refl
tick_input now j h (Some (act.Ask target arguments)) = refl
tick_input now j h (Some (act.Do deed)) = refl
tick_input now j h (Some _) = refl

tick_undue : (t : Settings) (now : ℕ) (h : List PeerEvent) → IsPeerDue t (Plain (Step_of (Ticked now)) ∷ h) → IsPeerDue t h
tick_undue t now h d = (
  record { unclosed = d.0.unclosed; room = record { of_count = d.0.room.of_count; of_bytes = d.0.room.of_bytes }; few = d.0.few },
  (d.1.0, ap (λ i. live_job t d.1.0 h && (is_cancelled d.1.0 h || is_some i)) (sym (tick_input now d.1.0 h (last_of (acts d.1.0 h)))) ∙ d.1.1),
)

later_is : (now m : ℕ) → m ≤ now → max now m ≡ now
later_is now m e = omega (arith, e)

-- what the end of one that sleeps with an alarm knows of it
pub deadline_is : (clock moment : ℕ) (idle_peer : IdlePeer) (t : Settings) (h : List PeerEvent) → deadline_in (Some idle_peer) ≡ Some moment → IsDeadlineOf clock idle_peer.deadline t h
    → IsDeadlineOf clock (Some moment) t h
deadline_is clock moment idle_peer t h e a = subst (λ o. IsDeadlineOf clock o t h) e a

-- the end of one that sleeps on a link ticks, before its alarm
pub ticks_on : {H Job : Type 0} (law : IdleTicksAreUnseen) (hub : Hub Job) (clock : IdleClock) (now moment : ℕ) (idle_peer : IdlePeer) (t : Settings)
    (p : Peer H Job) (h : List PeerEvent) → Sleeps {H = H} hub clock idle_peer t p h → deadline_in (Some idle_peer) ≡ Some moment → of.moment (steps t h) ≤ now
    → now < moment → Sleeps {H = H} hub (record clock { moment = now }) idle_peer t p (Plain (Step_of (Ticked now)) ∷ h)
ticks_on {H} {Job} law hub clock now moment idle_peer t p h s set in_time before =
    let was = deadline_is clock.moment moment idle_peer t h set s.may.deadline in
    let unseen : is_unseen t.config now (steps t h) ≡ true = was.3 now before in
    let alike = slept_alike {H = H} {Job = Job} law hub clock idle_peer t p h s in
    let same = slept_same {H = H} {Job = Job} hub clock idle_peer t p h s in
    let after = alike_tick law t.config now (steps t h) unseen in
    record {
      before = s.before;
      since = Plain (Step_of (Ticked now)) ∷ s.since;
      are = ap (λ ms. Plain (Step_of (Ticked now)) ∷ ms) s.are;
      idle = and_from (is_some (present_link (steps t s.before)) && is_unseen t.config now (steps t s.before)) _
          (and_from (is_some (present_link (steps t s.before))) _ (sym (ap is_some same.present) ∙ was.0) (sym (alike.unseen now) ∙ unseen))
          s.idle;
      stood = s.stood;
      begun = s.begun;
      marked = s.marked;
      peer = record {
        follows = (s.peer.follows, tt);
        prompt = (s.peer.prompt, inl (slept_settled {H = H} {Job = Job} hub clock idle_peer t p h s));
        is_history = (s.peer.is_history, (unsilent t.config now (steps t h) unseen, in_time));
      };
      may = record {
        unshut = s.may.unshut;
        undue = λ d. s.may.undue (tick_undue t now h d);
        unsaid = after.due ∙ s.may.unsaid;
        deadline = subst (λ o. IsDeadlineOf now o t (Plain (Step_of (Ticked now)) ∷ h)) (sym set) (
          was.0,
          later_is now (of.moment (steps t h)) in_time,
          before,
          (λ later e. after.unseen later ∙ was.3 later e),
          was.4,
          (λ later from few. after.unseen later ∙ was.5 later from few),
        );
        counted = s.may.counted;
      };
    }

-- one that is on no link sleeps on at any moment
pub away_on : {H Job : Type 0} (hub : Hub Job) (clock : IdleClock) (now : ℕ) (idle_peer : IdlePeer) (t : Settings) (p : Peer H Job) (h : List PeerEvent)
    → Sleeps {H = H} hub clock idle_peer t p h → deadline_in (Some idle_peer) ≡ None → Sleeps {H = H} hub (record clock { moment = now }) idle_peer t p h
away_on hub clock now idle_peer t p h s none = record {
  before = s.before;
  since = s.since;
  are = s.are;
  idle = s.idle;
  stood = s.stood;
  begun = s.begun;
  marked = s.marked;
  peer = s.peer;
  may = record {
    unshut = s.may.unshut;
    undue = s.may.undue;
    unsaid = s.may.unsaid;
    deadline = subst (λ o. IsDeadlineOf now o t h) (sym none) (subst (λ o. IsDeadlineOf clock.moment o t h) none s.may.deadline);
    counted = s.may.counted;
  };
}
