-- How things stand with all connections at once: how their peers were begun, what they did, and who is in which group. This is what a
-- machine remembers of its happenings, and what a deed changes step by step.
use Rattle.std.specs.Prelude.{◌≡◌, ℕ, ◌==◌, Bool, true, List, [], ◌∷◌, Option, if◌then◌else◌}
use Rattle.hv_value.specs.Tree.{Tree}
use Rattle.hd_calls.specs.declared.vocabulary.Deed.{Deed}
use Rattle.hd_calls.specs.declared.vocabulary.Deed.TheVariants.{Join, Leave}
use Rattle.hd_calls.specs.Hubs.{Hub}
use Rattle.hd_calls.specs.Peers.{PeerEvent, Settings}
use Rattle.hd_rooms.specs.Registry.{Lists, added, gone, removed}
use Rattle.hg_groups.specs.Standing.{StandsRegistry}
use Rattle.hd_server.specs.Machine.{MachineEvent, DeliveryOutcome, Got, TooSlow, PassedOver, fate_at, outcome_in, is_open_at, moves, registry, with_fate}
use Rattle.hub_machine.specs.declared.machine.Machine.{Machine}
use Rattle.hub_machine.specs.Machines.{IsIndexed, IsKeptAs, idle_peer_at, peer_at, settings_there}

pub record MachineView : Type 0 where
  pub settings : ℕ → Option Settings  -- of those that are there
  pub moves : ℕ → List PeerEvent
  pub lists : Lists

-- after these happenings
abbrev pub machine_view : List MachineEvent → MachineView
machine_view w = record { settings = λ c. settings_there c w; moves = λ c. moves c w; lists = registry w }

-- the machine's peers and registry stand for them
pub record StandsFor {H Job : Type 0} (hub : Hub Job) (m : Machine H Job) (a : MachineView) : Type 0 where
  pub at : (c : ℕ) → IsKeptAs hub m.idle_set.clock (idle_peer_at m c) (a.settings c) (a.moves c) (peer_at m c)
  pub index : IsIndexed m
  pub registry : StandsRegistry m.registry a.lists

-- both say the same of each connection
pub record AreSame (a b : MachineView) : Type 0 where
  pub settings : (c : ℕ) → a.settings c ≡ b.settings c
  pub moves : (c : ℕ) → a.moves c ≡ b.moves c
  pub lists : a.lists ≡ b.lists

-- a connection is there, and its end isn't closed
abbrev pub is_up_in : MachineView → ℕ → Bool
is_up_in a c = is_open_at (a.settings c) (a.moves c)

-- each of these is so
abbrev pub AreUp : MachineView → List ℕ → Type 0
AreUp a [] = Unit {0}
AreUp a (c ∷ cs) = (is_up_in a c ≡ true) × AreUp a cs

-- ---- what changes

-- the peer of a connection made a move
abbrev pub moved : ℕ → PeerEvent → MachineView → MachineView
moved c m a = record a { moves = λ k. if c == k then m ∷ a.moves k else a.moves k }

abbrev pub with_lists : Lists → MachineView → MachineView
with_lists l a = record a { lists = l }

-- who is in which group once a deed of this connection is done
abbrev pub lists_after : Deed → ℕ → Lists → Lists
lists_after (Join group) c l = added l group c
lists_after (Leave group) c l = removed l group c
lists_after _ c l = l

-- those that were closed as too slow are in no group
abbrev pub without_slow : List (ℕ × DeliveryOutcome) → Lists → Lists
without_slow [] l = l
without_slow ((c, TooSlow) ∷ fates) l = without_slow fates (gone l c)
without_slow ((c, Got) ∷ fates) l = without_slow fates l
without_slow ((c, PassedOver) ∷ fates) l = without_slow fates l

-- what becomes of a notice at each of these connections
abbrev pub fates_in : MachineView → List ℕ → List ℕ → List Tree → List (ℕ × DeliveryOutcome)
fates_in a [] target arguments = []
fates_in a (c ∷ cs) target arguments = (c, fate_at (a.settings c) (a.moves c) target arguments) ∷ fates_in a cs target arguments

-- they are told what the deed says
abbrev pub told : Deed → List (ℕ × DeliveryOutcome) → MachineView → MachineView
told d fates a = record a { moves = λ k. with_fate d (a.settings k) (outcome_in k fates) (a.moves k); lists = without_slow fates a.lists }
