-- Those whose polls were held for as long as they may be wake, one after the other.
use Rattle.std.proofs.Common.{◌≡◌, ◌<◌, ℕ, zero, suc, ◌+◌, ◌==◌, Bool, true, false, ◌&&◌, ◌||◌, List, [], ◌∷◌, length, get_or, take}
use Rattle.std.proofs.Common.{Option, Some, None, is_some, ◌⊎◌, inl, inr, refl, sym, ap, subst, ◌∙◌, arith, true≢false}
use Rattle.std.specs.Prelude.{if◌then◌else◌, nat_le, option_map}
use Rattle.std.proofs.lemmas.Bool.{eq-eqb, eqb-true}
use Rattle.hd_delivery.specs.Histories.{is_this}
use Rattle.hd_calls.specs.Hubs.{Hub}
use Rattle.hd_server.specs.Machine.{MachineEvent}
use Rattle.hd_server.specs.Numbers.{held_for}
use Rattle.hd_server.specs.Lives.{poll_of}
use Rattle.hd_server.specs.Doings.{has_peer, moment, notes, work}
use Rattle.hn_server_front.specs.declared.moments.Waiting.{Waiting}
use Rattle.hn_server_front.specs.Calls as calls
use Rattle.hn_server_front.specs.Calls.{is_held_long, poll_held}
use Rattle.hn_server_front.specs.Moments.{at, is_within}
use Rattle.hub_machine.specs.declared.machine.Machine.{Machine}
use Rattle.hub_server.specs.declared.server.Server.{Server}
use Rattle.hub_machine.specs.Machines.{StandsMachine, idle_peer_at, peer_at}
use Rattle.hub_server.specs.Servers.{OfEach, Standing}
use Rattle.hub_server.proofs.Conns.{here_by_peer}
use Rattle.hub_server.proofs.FlushOne.{noted_known}

-- the connection is awake, if it is there
abbrev pub IsUp : {H Job : Type 0} → Machine H Job → ℕ → Type 0
IsUp m c = (idle_peer_at m c ≡ None) ⊎ (peer_at m c ≡ None)

-- each of these is
abbrev pub AreUp : {H Job : Type 0} → Machine H Job → List Waiting → Type 0
AreUp m [] = Unit {0}
AreUp {H} m (w ∷ ws) = IsUp {H = H} m w.conn × AreUp {H = H} m ws

-- these woke, and nothing else has changed
pub record HaveWoken {H Job : Type 0} (hub : Hub Job) (old new : Server H Job) (ws : List Waiting) : Type 0 where
  pub stands : OfEach hub old (λ s u before h. Standing hub s u before new h)
  pub up : AreUp new.machine ws
  pub clock : new.machine.idle_set.clock ≡ old.machine.idle_set.clock

-- what is awake stays so while another wakes
abbrev pub KeepsUp : {H Job : Type 0} → Machine H Job → Machine H Job → Type 0
KeepsUp {H} old new = (k : ℕ) → IsUp {H = H} old k → IsUp {H = H} new k

keeps_up : {H Job : Type 0} (old new : Machine H Job) (c : ℕ) → IsUp {H = H} new c
    → ((k : ℕ) → (c == k) ≡ false → (peer_at new k ≡ peer_at old k) × (idle_peer_at new k ≡ idle_peer_at old k)) → KeepsUp {H = H} old new
keeps_up {H} {Job} old new c now others k up = by (c == k) refl
  where
    by : (b : Bool) → (c == k) ≡ b → IsUp {H = H} new k
    by true e = subst (λ n. IsUp {H = H} new n) (eqb-true c k e) now
    by false e = elim up [ inl awake ↦ inl ((others k e).1 ∙ awake) | inr none ↦ inr ((others k e).0 ∙ none) ]

all_keep_up : {H Job : Type 0} (old new : Machine H Job) → KeepsUp {H = H} old new → (ws : List Waiting) → AreUp {H = H} old ws → AreUp {H = H} new ws
all_keep_up old new keeps [] up = tt
all_keep_up {H} {Job} old new keeps (w ∷ ws) up = (keeps w.conn up.0, all_keep_up {H = H} {Job = Job} old new keeps ws up.1)

-- one more after these
one_more : {H Job : Type 0} (m : Machine H Job) (w : Waiting) (ws : List Waiting) (i : ℕ) → i < length ws → AreUp {H = H} m (take i ws)
    → IsUp {H = H} m (get_or ws i w).conn → AreUp {H = H} m (take (suc i) ws)
one_more m w [] i l up now = absurd (omega (arith, l))
one_more m w (x ∷ ws) zero l up now = (now, tt)
one_more {H} {Job} m w (x ∷ ws) (suc i) l up now = (up.0, one_more {H = H} {Job = Job} m w ws i (omega (arith, l)) up.1 now)

-- whoever waits among them is
up_within : {H Job : Type 0} (m : Machine H Job) (ws : List Waiting) (since c : ℕ) → AreUp {H = H} m ws → is_within (at since c) ws ≡ true
    → IsUp {H = H} m c
up_within m [] since c up e = absurd (true≢false (sym e))
up_within {H} {Job} m (w ∷ ws) since c up e =
    by ((since == w.since) && (c == w.conn)) refl e (λ g. up_within {H = H} {Job = Job} m ws since c up.1 g)
  where
    same : (a b : Bool) → (a && b) ≡ true → b ≡ true
    same true b f = f
    same false b f = absurd (true≢false (sym f))

    by : (b : Bool) → ((since == w.since) && (c == w.conn)) ≡ b → (b || is_within (at since c) ws) ≡ true
        → (is_within (at since c) ws ≡ true → IsUp {H = H} m c) → IsUp {H = H} m c
    by true f g later = subst (λ n. IsUp {H = H} m n) (sym (eqb-true c w.conn (same (since == w.since) (c == w.conn) f))) up.0
    by false f g later = later g

-- ---- the loop

pub none_woken : {H Job : Type 0} (hub : Hub Job) (old : Server H Job) → HaveWoken {H = H} hub old old []
none_woken hub old = record { stands = λ s u before h x. x; up = tt; clock = refl }

pub one_woken : {H Job : Type 0} (hub : Hub Job) (old v : Server H Job) (m : Machine H Job) (w : Waiting) (ws : List Waiting) (i : ℕ)
    → i < length ws → HaveWoken {H = H} hub old v (take i ws)
    → ((z : List MachineEvent) → StandsMachine {H = H} hub v.machine z → StandsMachine {H = H} hub m z) → IsUp {H = H} m (get_or ws i w).conn
    → ((k : ℕ) → ((get_or ws i w).conn == k) ≡ false → (peer_at m k ≡ peer_at v.machine k) × (idle_peer_at m k ≡ idle_peer_at v.machine k))
    → m.idle_set.clock ≡ v.machine.idle_set.clock → HaveWoken {H = H} hub old (record v { machine = m }) (take (i + 1) ws)
one_woken {H} {Job} hub old v m w ws i l so wakes now others same = record {
  stands = λ s u before h x. let y = so.stands s u before h x in record {
    setup = y.setup;
    machine = wakes (work h) y.machine;
    front = y.front;
    callers = y.callers;
    lanes = y.lanes;
    begun = y.begun;
    orderly = y.orderly;
    clock = y.clock;
    words = y.words;
  };
  up = subst (λ n. AreUp {H = H} m (take n ws)) (next i) (one_more {H = H} {Job = Job} m w ws i l
      (all_keep_up {H = H} {Job = Job} v.machine m (keeps_up {H = H} {Job = Job} v.machine m (get_or ws i w).conn now others) (take i ws) so.up) now);
  clock = same ∙ so.clock;
}
  where
    next : (n : ℕ) → suc n ≡ n + 1
    next n = omega arith

-- all have woken whose polls were held for as long as they may be
pub all_woken : {H Job : Type 0} (hub : Hub Job) (old new : Server H Job) (ws : List Waiting)
    → calls.OfEach old.front (λ n. (since c : ℕ) → is_within (at since c) ws ≡ is_held_long old.moment since c n) → HaveWoken {H = H} hub old new ws
    → OfEach {H = H} hub old (λ s u before h. (c lane since : ℕ) → poll_of c (notes h) ≡ Some (lane, since) → has_peer c h ≡ true
    → nat_le (since + held_for) (moment h) ≡ true → idle_peer_at new.machine c ≡ None)
all_woken {H} {Job} hub old new ws told so s u before h x c lane since polls there late =
    awake (up_within {H = H} {Job = Job} new.machine ws since c so.up (told (notes h) x.front.stands since c ∙ long))
  where
    held : poll_held c (notes h) ≡ Some (lane, since)
    held = ap (λ (b : Bool). if b then poll_of c (notes h) else None) (noted_known {H = H} {Job = Job} hub s u before old c h x there) ∙ polls

    long : is_held_long old.moment since c (notes h) ≡ true
    long =
        ap (λ (o : Option (ℕ × ℕ)). is_this since (option_map (λ (poll : ℕ × ℕ). poll.1) o) && nat_le (since + held_for) old.moment) held
        ∙ ap (λ (b : Bool). b && nat_le (since + held_for) old.moment) (eq-eqb since since refl)
        ∙ ap (nat_le (since + held_for)) x.clock ∙ late

    awake : IsUp {H = H} new.machine c → idle_peer_at new.machine c ≡ None
    awake (inl e) = e
    awake (inr e) = absurd (let stands = so.stands s u before h x in true≢false
        (sym there ∙ here_by_peer {H = H} {Job = Job} hub new.machine (work h) stands.machine c ∙ ap is_some e))
