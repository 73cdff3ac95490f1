-- How many dials are lost in a row, and over how long a time.
use Rattle.std.proofs.Common.{refl, sym, ap, subst, ◌∙◌, inl, inr, ◌≡◌, ◌⊎◌, ◌≤◌, ◌<◌, ◌+◌, ℕ, zero, suc, Bool, true, false, List, [], ◌∷◌, Option, Some, None, arith, if◌then◌else◌}
use Rattle.std.specs.Prelude.{◌==◌, nat_le, ◌&&◌}
use Rattle.std.proofs.lemmas.Bool.{leb-true, leb-false, ne_eqb}
use Rattle.hw_door.specs.declared.heard.Event.{Event}
use Rattle.hw_door.specs.declared.heard.Event.TheVariants as event
use Rattle.hw_door.specs.declared.heard.Upgrade.{Upgrade}
use Rattle.hd_dialing.specs.Numbers.{most_lost, pause_after, patience}
use Rattle.hd_dialing.specs.Bodies.{Told}
use Rattle.hd_dialing.specs.Asks.{Setup}
use Rattle.hd_dialing.specs.Events.{DialEvent, Hears, Draws, Asks, Learns, Shuts, GivesUp, Stops, Phase, Away, Negotiates, Upgrades, Stands, Over, is_on, is_dial, is_upgrade, is_away, is_up, is_over, asking, left, phase, told, moment, lost_dials, lost_at, dials_from}
use Rattle.hd_dialing.specs.Plans.{Dial, socket_asked, dialed, negotiated, told_in_response, counted, answered, heard, shut}
use Rattle.hd_dialing.specs.Dialing.{Move, Dials, Drops, Leaves, moved, happened, MayMove, IsDialing}
use Rattle.hd_dialing.specs.Dialing as move
use Rattle.hd_dialing.specs.Laws.{first_lost_at, LosesFew, AllLoseFew, FirstLossesAreMetAtOnce, DialersArePatient, IsPatient, LinksCountAnew}
use Rattle.hd_dialing.proofs.Steps.{AllFollow, IsReady, ready, all_follow, either}

-- ---- moments, event by event

module _ (lane now : ℕ) (h : List DialEvent) where
  -- a loss is that of a dial, or of something else
  since : (b : Bool) → lost_at h ≤ now → (if b then now else lost_at h) ≤ now
  since true m = omega arith
  since false m = m

-- a lost dial was heard no later than what was heard last
pub lost_before : (s : Setup) (h : List DialEvent) → AllFollow s h → lost_at h ≤ moment h
lost_before s [] a = omega arith
lost_before s (Hears now (event.Lost lane) ∷ h) (m, a) = let l = lost_before s h a in since lane now h (is_dial lane (phase h)) (omega (arith, l, m))
lost_before s (Hears now (event.Request lane r) ∷ h) (m, a) = let l = lost_before s h a in omega (arith, l, m)
lost_before s (Hears now (event.Refused lane r) ∷ h) (m, a) = let l = lost_before s h a in omega (arith, l, m)
lost_before s (Hears now (event.Bytes lane b) ∷ h) (m, a) = let l = lost_before s h a in omega (arith, l, m)
lost_before s (Hears now (event.Response lane c b) ∷ h) (m, a) = let l = lost_before s h a in omega (arith, l, m)
lost_before s (Hears now (event.Upgraded lane) ∷ h) (m, a) = let l = lost_before s h a in omega (arith, l, m)
lost_before s (Hears now (event.Drained lane) ∷ h) (m, a) = let l = lost_before s h a in omega (arith, l, m)
lost_before s (Hears now event.Quiet ∷ h) (m, a) = let l = lost_before s h a in omega (arith, l, m)
lost_before s (Draws d ∷ h) (m, a) = lost_before s h a
lost_before s (Asks lane ask ∷ h) (m, a) = lost_before s h a
lost_before s (Learns t ∷ h) (m, a) = lost_before s h a
lost_before s (Shuts lane ∷ h) (m, a) = lost_before s h a
lost_before s (GivesUp ∷ h) (m, a) = lost_before s h a
lost_before s (Stops ∷ h) (m, a) = lost_before s h a

no_pause : (n : ℕ) → n ≤ 1 → ◌≡◌ {A = ℕ} (pause_after n) 0
no_pause zero e = refl
no_pause (suc zero) e = refl
no_pause (suc (suc n)) e = absurd (omega (arith, e))

pub first_losses_are_met_at_once : FirstLossesAreMetAtOnce
first_losses_are_met_at_once s ms d few =
    let l = lost_before s (happened s ms) (all_follow s ms d) in
    let e = no_pause (lost_dials (happened s ms)) few in
    omega (arith, l, e)

-- ---- patience

-- all the pauses before the last of so many lost dials
abbrev paused : ℕ → ℕ
paused zero = 0
paused (suc n) = paused n + pause_after n

-- the time since the first lost dial in a row is that of the pauses at least
abbrev IsSlow : List DialEvent → Type 0
IsSlow h = first_lost_at h + paused (lost_dials h) ≤ lost_at h

-- while a lane is being made, the pause before it is over
dial_ready : (lane : ℕ) (p : Phase) (h : List DialEvent) → is_dial lane p ≡ true → IsReady p h → dials_from h ≤ moment h
dial_ready lane (Negotiates l) h e r = r
dial_ready lane (Upgrades l) h e r = r
dial_ready lane Away h e r = absurd (cc)
dial_ready lane (Stands l) h e r = absurd (cc)
dial_ready lane Over h e r = absurd (cc)

module _ (now : ℕ) (h : List DialEvent) (p : IsSlow h) where
  -- the first in a row, or one after n others
  one_more : (n : ℕ) → lost_dials h ≡ n → lost_at h + pause_after (lost_dials h) ≤ now
      → (if lost_dials h == 0 then now else first_lost_at h) + paused (suc (lost_dials h)) ≤ now
  one_more zero e m = rw e (omega arith)
  one_more (suc n) e m = rw (e, ne_eqb (suc n) 0 (λ z. omega (arith, z))) (let q : first_lost_at h + paused (suc n) ≤ lost_at h = subst (λ k. first_lost_at h + paused k ≤ lost_at h) e p in
      let r : lost_at h + pause_after (suc n) ≤ now = subst (λ k. lost_at h + pause_after k ≤ now) e m in omega (arith, q, r))

  lost_slow : (lane : ℕ) (b : Bool) → is_dial lane (phase h) ≡ b → (b ≡ true → lost_at h + pause_after (lost_dials h) ≤ now) → IsSlow (Hears now (event.Lost lane) ∷ h)
  lost_slow lane true e m = rw e (one_more (lost_dials h) refl (m refl))
  lost_slow lane false e m = rw e p

  risen_slow : (lane : ℕ) (b : Bool) → is_upgrade lane (phase h) ≡ b → IsSlow (Hears now (event.Upgraded lane) ∷ h)
  risen_slow lane true e = rw e (omega (arith, p))
  risen_slow lane false e = rw e p

slow : (s : Setup) (h : List DialEvent) → AllFollow s h → IsSlow h
slow s [] a = omega arith
slow s (Hears now (event.Lost lane) ∷ h) (m, a) =
    lost_slow now h (slow s h a) lane (is_dial lane (phase h)) refl
    (λ e. let r = dial_ready lane (phase h) h e (ready s h a) in omega (arith, r, m))
slow s (Hears now (event.Upgraded lane) ∷ h) (m, a) = risen_slow now h (slow s h a) lane (is_upgrade lane (phase h)) refl
slow s (Hears now (event.Request lane r) ∷ h) (m, a) = slow s h a
slow s (Hears now (event.Refused lane r) ∷ h) (m, a) = slow s h a
slow s (Hears now (event.Bytes lane b) ∷ h) (m, a) = slow s h a
slow s (Hears now (event.Response lane c b) ∷ h) (m, a) = slow s h a
slow s (Hears now (event.Drained lane) ∷ h) (m, a) = slow s h a
slow s (Hears now event.Quiet ∷ h) (m, a) = slow s h a
slow s (Draws d ∷ h) (m, a) = slow s h a
slow s (Asks lane ask ∷ h) (m, a) = slow s h a
slow s (Learns t ∷ h) (m, a) = slow s h a
slow s (Shuts lane ∷ h) (m, a) = slow s h a
slow s (GivesUp ∷ h) (m, a) = slow s h a
slow s (Stops ∷ h) (m, a) = slow s h a

-- as the last dial is asked for, after four that were lost
last_ask_late : (n : ℕ) (h : List DialEvent) → lost_dials h ≡ n → suc n ≡ most_lost → IsSlow h → dials_from h ≤ moment h → first_lost_at h + patience ≤ moment h
last_ask_late n h e last p later =
    let four : n ≡ 4 = omega (arith, last) in
    let slowly : first_lost_at h + paused 4 ≤ lost_at h = subst (λ k. first_lost_at h + paused k ≤ lost_at h) (e ∙ four) p in
    let after : lost_at h + pause_after 4 ≤ moment h = subst (λ k. lost_at h + pause_after k ≤ moment h) (e ∙ four) later in
    omega (arith, slowly, after)

all_late : (s : Setup) (h : List DialEvent) → AllFollow s h → IsPatient h
all_late s [] a = tt
all_late s (Asks lane ask ∷ h) ((away, asks, later), a) = (λ last. last_ask_late (lost_dials h) h refl last (slow s h a) later, all_late s h a)
all_late s (Hears now e ∷ h) (m, a) = all_late s h a
all_late s (Draws d ∷ h) (m, a) = all_late s h a
all_late s (Learns t ∷ h) (m, a) = all_late s h a
all_late s (Shuts lane ∷ h) (m, a) = all_late s h a
all_late s (GivesUp ∷ h) (m, a) = all_late s h a
all_late s (Stops ∷ h) (m, a) = all_late s h a

pub dialers_are_patient : DialersArePatient
dialers_are_patient s ms d = all_late s (happened s ms) (all_follow s ms d)

-- ---- a link counts none

-- what a link counts, by its phase
abbrev CountsNone : Phase → List DialEvent → Type 0
CountsNone p h = is_up p ≡ true → lost_dials h ≡ 0

module _ (lane now : ℕ) (h : List DialEvent) where
  risen_none : (b : Bool) → is_upgrade lane (phase h) ≡ b → CountsNone (phase h) h
      → CountsNone (if b then Stands lane else phase h) (Hears now (event.Upgraded lane) ∷ h)
  risen_none true e f up = rw e refl
  risen_none false e f up = rw e (f up)

  lost_none : (p : Phase) → phase h ≡ p → CountsNone p h → CountsNone (left lane p) (Hears now (event.Lost lane) ∷ h)
  lost_none (Stands l) e f up = rw e (f refl)
  lost_none Away e f up = absurd (cc)
  lost_none Over e f up = absurd (cc)
  lost_none (Negotiates l) e f up = by (lane == l) up where
    by : (b : Bool) → CountsNone (if b then Away else Negotiates l) (Hears now (event.Lost lane) ∷ h)
    by true up = absurd (cc)
    by false up = absurd (cc)
  lost_none (Upgrades l) e f up = by (lane == l) up where
    by : (b : Bool) → CountsNone (if b then Away else Upgrades l) (Hears now (event.Lost lane) ∷ h)
    by true up = absurd (cc)
    by false up = absurd (cc)

shut_none : (lane : ℕ) (p : Phase) (h : List DialEvent) → CountsNone p h → CountsNone (left lane p) h
shut_none lane p h f = by (is_on lane p) where
  by : (b : Bool) → CountsNone (if b then Away else p) h
  by true up = absurd (cc)
  by false up = f up

asked_none : (lane : ℕ) (u : Option Upgrade) (h : List DialEvent) → CountsNone (asking lane u) h
asked_none lane None h up = absurd (cc)
asked_none lane (Some u) h up = absurd (cc)

counts_none : (h : List DialEvent) → CountsNone (phase h) h
counts_none [] up = absurd (cc)
counts_none (Hears now (event.Upgraded lane) ∷ h) up = risen_none lane now h (is_upgrade lane (phase h)) refl (counts_none h) up
counts_none (Hears now (event.Lost lane) ∷ h) up = lost_none lane now h (phase h) refl (counts_none h) up
counts_none (Hears now (event.Request lane r) ∷ h) up = counts_none h up
counts_none (Hears now (event.Refused lane r) ∷ h) up = counts_none h up
counts_none (Hears now (event.Bytes lane b) ∷ h) up = counts_none h up
counts_none (Hears now (event.Response lane c b) ∷ h) up = counts_none h up
counts_none (Hears now (event.Drained lane) ∷ h) up = counts_none h up
counts_none (Hears now event.Quiet ∷ h) up = counts_none h up
counts_none (Draws d ∷ h) up = counts_none h up
counts_none (Asks lane ask ∷ h) up = asked_none lane ask.upgrade h up
counts_none (Learns t ∷ h) up = counts_none h up
counts_none (Shuts lane ∷ h) up = shut_none lane (phase h) h (counts_none h) up
counts_none (GivesUp ∷ h) up = absurd (cc)
counts_none (Stops ∷ h) up = absurd (cc)

pub links_count_anew : LinksCountAnew
links_count_anew s ms = counts_none (happened s ms)

-- ---- few are lost

-- what is done without hearing counts no dial
abbrev SameCount : List DialEvent → List DialEvent → Type 0
SameCount g h = lost_dials h ≡ lost_dials g

socket_counts : (s : Setup) (lane : ℕ) (token : List ℕ) (key seed : Option (List ℕ)) (g : List DialEvent) → SameCount g (socket_asked s lane token key seed g)
socket_counts s lane token None seed g = refl
socket_counts s lane token (Some key) None g = refl
socket_counts s lane token (Some key) (Some seed) g = refl

dialed_counts : (s : Setup) (d : Dial) (o : Option Told) (g : List DialEvent) → SameCount g (dialed s d o g)
dialed_counts s d None g = refl
dialed_counts s d (Some t) g = socket_counts s d.lane t.token d.key d.seed g

negotiated_counts : (s : Setup) (d : Dial) (lane : ℕ) (o : Option Told) (g : List DialEvent) → SameCount g (negotiated s d lane o g)
negotiated_counts s d lane None g = refl
negotiated_counts s d lane (Some t) g = socket_counts s d.lane t.token d.key d.seed (Learns t ∷ Shuts lane ∷ g)

shut_counts : (p : Phase) (g : List DialEvent) → SameCount g (shut p g)
shut_counts Away g = refl
shut_counts (Negotiates l) g = refl
shut_counts (Upgrades l) g = refl
shut_counts (Stands l) g = refl
shut_counts Over g = refl

few_of : (g h : List DialEvent) → SameCount g h → lost_dials g < most_lost → LosesFew h
few_of g h e l = record { most = omega (arith, e, l); fewer = λ o. omega (arith, e, l) }

module _ (s : Setup) (d : Dial) (now : ℕ) (h : List DialEvent) where
  -- a lost dial after fewer than five
  one_lost : (lane : ℕ) → is_dial lane (phase h) ≡ true → lost_dials h < most_lost → LosesFew (counted (suc (lost_dials h)) (Hears now (event.Lost lane) ∷ h))
  one_lost lane e l = by (nat_le most_lost (suc (lost_dials h))) refl where
    count : lost_dials (Hears now (event.Lost lane) ∷ h) ≡ suc (lost_dials h)
    count = rw e refl

    by : (b : Bool) → nat_le most_lost (suc (lost_dials h)) ≡ b
        → LosesFew (if b then GivesUp ∷ Hears now (event.Lost lane) ∷ h else Hears now (event.Lost lane) ∷ h)
    by true f = record { most = omega (arith, count, l); fewer = λ o. absurd (cc) }
    by false f = let k = leb-false most_lost (suc (lost_dials h)) f in record { most = omega (arith, count, l); fewer = λ o. omega (arith, count, k) }

  other_lost : (lane : ℕ) → is_dial lane (phase h) ≡ false → lost_dials h < most_lost → LosesFew (Hears now (event.Lost lane) ∷ h)
  other_lost lane e l = few_of h (Hears now (event.Lost lane) ∷ h) (rw e refl) l

  risen_count : (lane : ℕ) (b : Bool) → is_upgrade lane (phase h) ≡ b → lost_dials h < most_lost → LosesFew (Hears now (event.Upgraded lane) ∷ h)
  risen_count lane true e l = record { most = rw e (omega arith); fewer = λ o. rw e (omega arith) }
  risen_count lane false e l = few_of h (Hears now (event.Upgraded lane) ∷ h) (rw e refl) l

  -- while it isn't over
  heard_few : (e : Event) (p : Phase) → phase h ≡ p → is_over p ≡ false → lost_dials h < most_lost → LosesFew (answered s d e p (lost_dials h) (Hears now e ∷ h))
  heard_few (event.Response lane c b) (Negotiates l) f o k =
      either LosesFew (lane == l) (negotiated s d lane (told_in_response s c b) (Hears now (event.Response lane c b) ∷ h)) (Hears now (event.Response lane c b) ∷ h)
      (λ g. few_of (Hears now (event.Response lane c b) ∷ h) _ (negotiated_counts s d lane (told_in_response s c b) (Hears now (event.Response lane c b) ∷ h)) k)
      (λ g. few_of h (Hears now (event.Response lane c b) ∷ h) refl k)
  heard_few (event.Response lane c b) (Upgrades l) f o k =
      either LosesFew (lane == l) (GivesUp ∷ Hears now (event.Response lane c b) ∷ h) (Hears now (event.Response lane c b) ∷ h)
      (λ g. few_of h (GivesUp ∷ Hears now (event.Response lane c b) ∷ h) refl k) (λ g. few_of h (Hears now (event.Response lane c b) ∷ h) refl k)
  heard_few (event.Response lane c b) Away f o k = few_of h (Hears now (event.Response lane c b) ∷ h) refl k
  heard_few (event.Response lane c b) (Stands l) f o k = few_of h (Hears now (event.Response lane c b) ∷ h) refl k
  heard_few (event.Lost lane) (Negotiates l) f o k =
      either LosesFew (lane == l) (counted (suc (lost_dials h)) (Hears now (event.Lost lane) ∷ h)) (Hears now (event.Lost lane) ∷ h)
      (λ g. one_lost lane (ap (is_dial lane) f ∙ g) k) (λ g. other_lost lane (ap (is_dial lane) f ∙ g) k)
  heard_few (event.Lost lane) (Upgrades l) f o k =
      either LosesFew (lane == l) (counted (suc (lost_dials h)) (Hears now (event.Lost lane) ∷ h)) (Hears now (event.Lost lane) ∷ h)
      (λ g. one_lost lane (ap (is_dial lane) f ∙ g) k) (λ g. other_lost lane (ap (is_dial lane) f ∙ g) k)
  heard_few (event.Lost lane) Away f o k = other_lost lane (ap (is_dial lane) f) k
  heard_few (event.Lost lane) (Stands l) f o k = other_lost lane (ap (is_dial lane) f) k
  heard_few (event.Upgraded lane) p f o k = risen_count lane (is_upgrade lane (phase h)) refl k
  heard_few (event.Request lane r) p f o k = few_of h (Hears now (event.Request lane r) ∷ h) refl k
  heard_few (event.Refused lane r) p f o k = few_of h (Hears now (event.Refused lane r) ∷ h) refl k
  heard_few (event.Bytes lane b) p f o k = few_of h (Hears now (event.Bytes lane b) ∷ h) refl k
  heard_few (event.Drained lane) p f o k = few_of h (Hears now (event.Drained lane) ∷ h) refl k
  heard_few event.Quiet p f o k = few_of h (Hears now event.Quiet ∷ h) refl k
  heard_few e Over f o k = absurd (cc)

-- once it is over, nothing is counted
abbrev StaysOver : List DialEvent → List DialEvent → Type 0
StaysOver h g = (phase g ≡ Over) × (lost_dials g ≡ lost_dials h)

pub over_passes : (s : Setup) (d : Dial) (now : ℕ) (e : Event) (h : List DialEvent) → phase h ≡ Over
    → (answered s d e Over (lost_dials h) (Hears now e ∷ h) ≡ Hears now e ∷ h) × StaysOver h (Hears now e ∷ h)
over_passes s d now (event.Request lane r) h o = (refl, (o, refl))
over_passes s d now (event.Refused lane r) h o = (refl, (o, refl))
over_passes s d now (event.Bytes lane b) h o = (refl, (o, refl))
over_passes s d now (event.Response lane c b) h o = (refl, (o, refl))
over_passes s d now (event.Upgraded lane) h o = (refl, (rw o refl, rw o refl))
over_passes s d now (event.Lost lane) h o = (refl, (rw o refl, rw o refl))
over_passes s d now (event.Drained lane) h o = (refl, (o, refl))
over_passes s d now event.Quiet h o = (refl, (o, refl))

over_few : (h g : List DialEvent) → StaysOver h g → LosesFew h → LosesFew g
over_few h g (o, e) few = record { most = subst (λ n. n ≤ most_lost) (sym e) few.most; fewer = λ f. absurd (let z : true ≡ false = sym (ap is_over o) ∙ f in cc) }

module _ (s : Setup) where
  heard_keeps : (d : Dial) (now : ℕ) (e : Event) (h : List DialEvent) (b : Bool) → is_over (phase h) ≡ b → LosesFew h → LosesFew (heard s d now e h)
  heard_keeps d now e h false o few = heard_few s d now h e (phase h) refl o (few.fewer o)
  heard_keeps d now e h true o few =
      let over = is_over_then (phase h) o in
      let all = over_passes s d now e h over in
      subst (λ p. LosesFew (answered s d e p (lost_dials h) (Hears now e ∷ h))) (sym over)
      (subst LosesFew (sym all.0) (over_few h (Hears now e ∷ h) all.1 few))
    where
      is_over_then : (p : Phase) → is_over p ≡ true → p ≡ Over
      is_over_then Over f = refl
      is_over_then Away f = absurd (cc)
      is_over_then (Negotiates l) f = absurd (cc)
      is_over_then (Upgrades l) f = absurd (cc)
      is_over_then (Stands l) f = absurd (cc)

  move_keeps : (m : Move) (h : List DialEvent) → MayMove m h → LosesFew h → LosesFew (moved s m h)
  move_keeps (Dials d) h due few = few_of h (dialed s d (told h) h) (dialed_counts s d (told h) h) (few.fewer (due_open (phase h) due))
    where
      due_open : (p : Phase) → (is_away p && nat_le (dials_from h) (moment h)) ≡ true → is_over p ≡ false
      due_open Away e = refl
      due_open (Negotiates l) e = refl
      due_open (Upgrades l) e = refl
      due_open (Stands l) e = refl
      due_open Over e = absurd (cc)
  move_keeps (move.Hears now e d) h (due, m) few = heard_keeps d now e h (is_over (phase h)) refl few
  move_keeps Drops h up few = few_of h (shut (phase h) h) (shut_counts (phase h) h) (few.fewer (up_open (phase h) up))
    where
      up_open : (p : Phase) → is_up p ≡ true → is_over p ≡ false
      up_open Away e = refl
      up_open (Negotiates l) e = refl
      up_open (Upgrades l) e = refl
      up_open (Stands l) e = refl
      up_open Over e = absurd (cc)
  move_keeps Leaves h goes few = few_of h (Stops ∷ shut (phase h) h) (shut_counts (phase h) h) (few.fewer goes)

  few_lost : (ms : List Move) → IsDialing s ms → LosesFew (happened s ms)
  few_lost [] d = record { most = omega arith; fewer = λ o. omega arith }
  few_lost (m ∷ ms) (may, d) = move_keeps m (happened s ms) may (few_lost ms d)

pub all_lose_few : AllLoseFew
all_lose_few s ms d = few_lost s ms d
