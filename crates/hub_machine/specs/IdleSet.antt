-- Which connections sleep, and which are awake.
use Rattle.std.specs.Prelude.{◌≡◌, ◌≤◌, ◌==◌, ◌+◌, ℕ, nat_lt, Bool, true, List, [], ◌∷◌, Option, Some, None, if◌then◌else◌}
use Rattle.std.specs.declared.cmp.Ordering.{Ordering}
use Rattle.std.specs.Ordering.{nat_cmp, ordering_then}
use Rattle.std.specs.BTreeMap.{get}
use Rattle.std.specs.BTreeSet.{contains}
use Rattle.std.specs.Vec.{vec_capacity}
use Rattle.hd_delivery.specs.Numbers.{most_of_64_bits}
use Rattle.hd_server.specs.Machine.{MachineEvent, Rounds}
use Rattle.hv_value.specs.SortedSet.{IsRising, is_in}
use Rattle.hub_machine.specs.declared.idle_set.Deadline.{Deadline}
use Rattle.hub_machine.specs.declared.idle_set.IdleClock.{IdleClock}
use Rattle.hub_machine.specs.declared.idle_set.IdlePeer.{IdlePeer}
use Rattle.hub_machine.specs.declared.idle_set.IdleSet.{IdleSet}
use Rattle.hub_machine.specs.Spreads.{is_listed}

-- by the moment, and at one moment by the number
abbrev pub in_order : Deadline → Deadline → Ordering
in_order a b = ordering_then (nat_cmp a.moment b.moment) (nat_cmp a.conn b.conn)

abbrev pub idle_peer_of : IdleSet → ℕ → Option IdlePeer
idle_peer_of s c = get nat_cmp s.idle_peers c

abbrev pub is_awake_in : IdleSet → ℕ → Bool
is_awake_in s c = is_in c s.awake.numbers.items

-- the alarm of a connection is set at this moment
abbrev pub is_set_in : IdleSet → ℕ → ℕ → Bool
is_set_in s moment c = contains in_order s.deadlines (record { moment = moment; conn = c })

-- the alarm of one that sleeps, if it has any
abbrev pub deadline_in : Option IdlePeer → Option ℕ
deadline_in None = None
deadline_in (Some idle_peer) = idle_peer.deadline

-- those that are awake are in order, and the alarms of those that sleep are set, and no others
pub record IsKept (s : IdleSet) : Type 0 where
  pub rising : IsRising s.awake.numbers.items
  pub set : (c moment : ℕ) → deadline_in (idle_peer_of s c) ≡ Some moment → is_set_in s moment c ≡ true
  pub only : (c moment : ℕ) → is_set_in s moment c ≡ true → deadline_in (idle_peer_of s c) ≡ Some moment

-- what changed, and what is kept
pub record Changes (old new : IdleSet) (c : ℕ) (idle_peer : Option IdlePeer) (is_awake : Bool) : Type 0 where
  pub kept : IsKept new
  pub idle_peers : (k : ℕ) → idle_peer_of new k ≡ (if c == k then idle_peer else idle_peer_of old k)
  pub awake : (k : ℕ) → is_awake_in new k ≡ (if c == k then is_awake else is_awake_in old k)
  pub clock : new.clock ≡ old.clock
  pub capacity : vec_capacity old.awake.numbers ≤ vec_capacity new.awake.numbers

-- one round more has begun, as far as 64 bits count
abbrev pub one_round_more : ℕ → ℕ
one_round_more n = if nat_lt n most_of_64_bits then n + 1 else n

abbrev pub after_round : IdleClock → IdleClock
after_round clock = record clock { rounds = one_round_more clock.rounds }

-- how many rounds have begun, as far as 64 bits count
abbrev pub rounds_begun : List MachineEvent → ℕ
rounds_begun [] = 0
rounds_begun (Rounds now ∷ w) = one_round_more (rounds_begun w)
rounds_begun (_ ∷ w) = rounds_begun w

-- the clock of those that sleep at this moment, after these happenings
abbrev pub clock_at : ℕ → List MachineEvent → IdleClock
clock_at now w = record { moment = now; rounds = rounds_begun w }

-- these are those whose alarms have come at the moment, and no others
pub record AreRung (s : IdleSet) (now : ℕ) (conns : List ℕ) : Type 0 where
  pub all : (c moment : ℕ) → is_set_in s moment c ≡ true → moment ≤ now → is_listed c conns ≡ true
  pub only : (c : ℕ) → is_listed c conns ≡ true → (moment : ℕ) × (is_set_in s moment c ≡ true) × (moment ≤ now)
