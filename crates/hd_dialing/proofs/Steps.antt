-- What follows on what, one event after the other, as one connection is dialed. Laws that speak of each ask are parts of it.
use Rattle.std.proofs.Common.{refl, sym, ap, subst, ◌∙◌, ◌≡◌, ◌≤◌, ℕ, suc, Bool, true, false, List, [], ◌∷◌, ◌++◌, Option, Some, None, arith, if◌then◌else◌}
use Rattle.std.specs.Prelude.{◌==◌, nat_le}
use Rattle.std.proofs.lemmas.Bool.{and_parts, leb-true, eqb-true}
use Rattle.hw_door.specs.declared.heard.Event.{Event}
use Rattle.hw_door.specs.declared.heard.Event.TheVariants as event
use Rattle.hw_door.specs.declared.heard.Upgrade.{Upgrade}
use Rattle.hd_dialing.specs.Numbers.{most_lost}
use Rattle.hd_dialing.specs.Bodies.{Told}
use Rattle.hd_dialing.specs.Asks.{Setup, Ask, negotiate_ask, socket_ask}
use Rattle.hd_dialing.specs.Events.{DialEvent, Hears, Draws, Asks, Learns, Shuts, GivesUp, Stops, Phase, Away, Negotiates, Upgrades, Stands, Over, is_away, is_dial, is_upgrade, asking, left, risen, phase, told, moment, lost_dials, lost_at, dials_from}
use Rattle.hd_dialing.specs.Plans.{Dial, socket_asked, dialed, negotiated, told_in_response, counted, answered, shut}
use Rattle.hd_dialing.specs.Dialing.{Move, Dials, Drops, Leaves, moved, happened, MayMove, IsDialing}
use Rattle.hd_dialing.specs.Dialing as move
use Rattle.hd_dialing.specs.Laws.{SuitsAsk, IsAskFor, AsksAlone, AsksByToken, KeepsPauses, PhasesSuitAsks, OneLaneAtMost, AllAskByToken, AllKeepPauses}

-- what an event may follow on
abbrev pub MayFollow : Setup → DialEvent → List DialEvent → Type 0
MayFollow s (Hears now event) h = moment h ≤ now
MayFollow s (Asks lane ask) h = (is_away (phase h) ≡ true) × IsAskFor s (told h) ask h × (dials_from h ≤ moment h)
MayFollow s (Learns t) h = (told h ≡ None) × (is_away (phase h) ≡ true)
MayFollow s x h = Unit {0}

abbrev pub AllFollow : Setup → List DialEvent → Type 0
AllFollow s [] = Unit {0}
AllFollow s (x ∷ h) = MayFollow s x h × AllFollow s h

-- of a test's two outcomes, each with its equation
pub either : (P : List DialEvent → Type 0) (b : Bool) (x y : List DialEvent) → (b ≡ true → P x) → (b ≡ false → P y) → P (if b then x else y)
either P true x y f g = f refl
either P false x y f g = g refl

pub is_away_then : (p : Phase) → is_away p ≡ true → p ≡ Away
is_away_then Away e = refl
is_away_then (Negotiates l) e = absurd (cc)
is_away_then (Upgrades l) e = absurd (cc)
is_away_then (Stands l) e = absurd (cc)
is_away_then Over e = absurd (cc)

-- ---- phases

module _ (s : Setup) where
  asked_suits : (o : Option Told) (lane : ℕ) (ask : Ask) (h : List DialEvent) → told h ≡ o → IsAskFor s o ask h → SuitsAsk s (phase (Asks lane ask ∷ h)) (Asks lane ask ∷ h)
  asked_suits None lane ask h e f = subst (λ a. SuitsAsk s (phase (Asks lane a ∷ h)) (Asks lane a ∷ h)) (sym f) (e, refl)
  asked_suits (Some t) lane ask h e (key, seed, older, same, f) =
      subst (λ a. SuitsAsk s (phase (Asks lane a ∷ h)) (Asks lane a ∷ h)) (sym f) (t, record { key = key; seed = seed }, e, refl)

  risen_suits : (lane now : ℕ) (p : Phase) (h : List DialEvent) → SuitsAsk s p h → SuitsAsk s (risen lane p) (Hears now (event.Upgraded lane) ∷ h)
  risen_suits lane now Away h e = tt
  risen_suits lane now (Negotiates l) h e = e
  risen_suits lane now (Stands l) h e = e
  risen_suits lane now Over h e = tt
  risen_suits lane now (Upgrades l) h e = by (lane == l) refl where
    by : (b : Bool) → (lane == l) ≡ b → SuitsAsk s (if b then Stands lane else Upgrades l) (Hears now (event.Upgraded lane) ∷ h)
    by true f = subst (λ k. SuitsAsk s (Stands k) h) (sym (eqb-true lane l f)) e
    by false f = e

  left_suits : (lane : ℕ) (p : Phase) (h : List DialEvent) → SuitsAsk s p h → SuitsAsk s (left lane p) h
  left_suits lane Away h e = tt
  left_suits lane Over h e = tt
  left_suits lane (Negotiates l) h e = by (lane == l) where
    by : (b : Bool) → SuitsAsk s (if b then Away else Negotiates l) h
    by true = tt
    by false = e
  left_suits lane (Upgrades l) h e = by (lane == l) where
    by : (b : Bool) → SuitsAsk s (if b then Away else Upgrades l) h
    by true = tt
    by false = e
  left_suits lane (Stands l) h e = by (lane == l) where
    by : (b : Bool) → SuitsAsk s (if b then Away else Stands l) h
    by true = tt
    by false = e

  -- what an event leaves that moves neither the phase nor what is told nor the last ask
  same_suits : (now : ℕ) (e : Event) (p : Phase) (h : List DialEvent) → SuitsAsk s p h → SuitsAsk s p (Hears now e ∷ h)
  same_suits now e Away h f = tt
  same_suits now e (Negotiates l) h f = f
  same_suits now e (Upgrades l) h f = f
  same_suits now e (Stands l) h f = f
  same_suits now e Over h f = tt

  shut_suits : (lane : ℕ) (p : Phase) (h : List DialEvent) → SuitsAsk s p h → SuitsAsk s p (Shuts lane ∷ h)
  shut_suits lane Away h f = tt
  shut_suits lane (Negotiates l) h f = f
  shut_suits lane (Upgrades l) h f = f
  shut_suits lane (Stands l) h f = f
  shut_suits lane Over h f = tt

  draw_suits : (d : Option (List ℕ)) (p : Phase) (h : List DialEvent) → SuitsAsk s p h → SuitsAsk s p (Draws d ∷ h)
  draw_suits d Away h f = tt
  draw_suits d (Negotiates l) h f = f
  draw_suits d (Upgrades l) h f = f
  draw_suits d (Stands l) h f = f
  draw_suits d Over h f = tt

  heard_suits : (now : ℕ) (e : Event) (h : List DialEvent) → SuitsAsk s (phase h) h → SuitsAsk s (phase (Hears now e ∷ h)) (Hears now e ∷ h)
  heard_suits now (event.Request lane r) h f = same_suits now (event.Request lane r) (phase h) h f
  heard_suits now (event.Refused lane r) h f = same_suits now (event.Refused lane r) (phase h) h f
  heard_suits now (event.Bytes lane b) h f = same_suits now (event.Bytes lane b) (phase h) h f
  heard_suits now (event.Response lane c b) h f = same_suits now (event.Response lane c b) (phase h) h f
  heard_suits now (event.Upgraded lane) h f = risen_suits lane now (phase h) h f
  heard_suits now (event.Lost lane) h f = same_suits now (event.Lost lane) (left lane (phase h)) h (left_suits lane (phase h) h f)
  heard_suits now (event.Drained lane) h f = same_suits now (event.Drained lane) (phase h) h f
  heard_suits now event.Quiet h f = same_suits now event.Quiet (phase h) h f

  pub suits : (h : List DialEvent) → AllFollow s h → SuitsAsk s (phase h) h
  suits [] a = tt
  suits (Hears now e ∷ h) (m, a) = heard_suits now e h (suits h a)
  suits (Draws d ∷ h) (m, a) = draw_suits d (phase h) h (suits h a)
  suits (Asks lane ask ∷ h) ((away, asks, later), a) = asked_suits (told h) lane ask h refl asks
  suits (Learns t ∷ h) ((untold, away), a) = subst (λ p. SuitsAsk s p (Learns t ∷ h)) (sym (is_away_then (phase h) away)) tt
  suits (Shuts lane ∷ h) (m, a) = shut_suits lane (left lane (phase h)) h (left_suits lane (phase h) h (suits h a))
  suits (GivesUp ∷ h) (m, a) = tt
  suits (Stops ∷ h) (m, a) = tt

-- ---- moments of dials

-- while a lane is being made, the pause before it is over
abbrev pub IsReady : Phase → List DialEvent → Type 0
IsReady (Negotiates lane) h = dials_from h ≤ moment h
IsReady (Upgrades lane) h = dials_from h ≤ moment h
IsReady p h = Unit {0}

ready_later : (p : Phase) (g h : List DialEvent) → dials_from g ≡ dials_from h → moment h ≤ moment g → IsReady p h → IsReady p g
ready_later Away g h e m f = tt
ready_later (Negotiates l) g h e m f = omega (arith, e, m, f)
ready_later (Upgrades l) g h e m f = omega (arith, e, m, f)
ready_later (Stands l) g h e m f = tt
ready_later Over g h e m f = tt

asked_ready : (lane : ℕ) (ask : Ask) (u : Option Upgrade) (h : List DialEvent) → dials_from h ≤ moment h → IsReady (asking lane u) (Asks lane ask ∷ h)
asked_ready lane ask None h e = e
asked_ready lane ask (Some u) h e = e

-- a loss that isn't that of a dial, and a socket that isn't this one's, aren't counted
pub not_lost : (lane now : ℕ) (h : List DialEvent) → is_dial lane (phase h) ≡ false → dials_from (Hears now (event.Lost lane) ∷ h) ≡ dials_from h
not_lost lane now h e = rw e refl

pub not_risen : (lane now : ℕ) (h : List DialEvent) → is_upgrade lane (phase h) ≡ false → dials_from (Hears now (event.Upgraded lane) ∷ h) ≡ dials_from h
not_risen lane now h e = rw e refl

module _ (now : ℕ) (h : List DialEvent) (m : moment h ≤ now) where
  lost_ready : (lane : ℕ) (p : Phase) → phase h ≡ p → IsReady p h → IsReady (left lane p) (Hears now (event.Lost lane) ∷ h)
  lost_ready lane Away e f = tt
  lost_ready lane (Negotiates l) e f = by (lane == l) refl where
    by : (b : Bool) → (lane == l) ≡ b → IsReady (if b then Away else Negotiates l) (Hears now (event.Lost lane) ∷ h)
    by true g = tt
    by false g = ready_later (Negotiates l) (Hears now (event.Lost lane) ∷ h) h (not_lost lane now h (ap (is_dial lane) e ∙ g)) m f
  lost_ready lane (Upgrades l) e f = by (lane == l) refl where
    by : (b : Bool) → (lane == l) ≡ b → IsReady (if b then Away else Upgrades l) (Hears now (event.Lost lane) ∷ h)
    by true g = tt
    by false g = ready_later (Upgrades l) (Hears now (event.Lost lane) ∷ h) h (not_lost lane now h (ap (is_dial lane) e ∙ g)) m f
  lost_ready lane (Stands l) e f = by (lane == l) where
    by : (b : Bool) → IsReady (if b then Away else Stands l) (Hears now (event.Lost lane) ∷ h)
    by true = tt
    by false = tt
  lost_ready lane Over e f = tt

  risen_ready : (lane : ℕ) (p : Phase) → phase h ≡ p → IsReady p h → IsReady (risen lane p) (Hears now (event.Upgraded lane) ∷ h)
  risen_ready lane Away e f = tt
  risen_ready lane (Negotiates l) e f = ready_later (Negotiates l) (Hears now (event.Upgraded lane) ∷ h) h (not_risen lane now h (ap (is_upgrade lane) e)) m f
  risen_ready lane (Upgrades l) e f = by (lane == l) refl where
    by : (b : Bool) → (lane == l) ≡ b → IsReady (if b then Stands lane else Upgrades l) (Hears now (event.Upgraded lane) ∷ h)
    by true g = tt
    by false g = ready_later (Upgrades l) (Hears now (event.Upgraded lane) ∷ h) h (not_risen lane now h (ap (is_upgrade lane) e ∙ g)) m f
  risen_ready lane (Stands l) e f = tt
  risen_ready lane Over e f = tt

  heard_ready : (e : Event) → IsReady (phase h) h → IsReady (phase (Hears now e ∷ h)) (Hears now e ∷ h)
  heard_ready (event.Request l r) f = ready_later (phase h) (Hears now (event.Request l r) ∷ h) h refl m f
  heard_ready (event.Refused l r) f = ready_later (phase h) (Hears now (event.Refused l r) ∷ h) h refl m f
  heard_ready (event.Bytes l b) f = ready_later (phase h) (Hears now (event.Bytes l b) ∷ h) h refl m f
  heard_ready (event.Response l c b) f = ready_later (phase h) (Hears now (event.Response l c b) ∷ h) h refl m f
  heard_ready (event.Drained l) f = ready_later (phase h) (Hears now (event.Drained l) ∷ h) h refl m f
  heard_ready event.Quiet f = ready_later (phase h) (Hears now event.Quiet ∷ h) h refl m f
  heard_ready (event.Upgraded lane) f = risen_ready lane (phase h) refl f
  heard_ready (event.Lost lane) f = lost_ready lane (phase h) refl f

left_ready : (lane : ℕ) (p : Phase) (h : List DialEvent) → IsReady p h → IsReady (left lane p) (Shuts lane ∷ h)
left_ready lane Away h f = tt
left_ready lane Over h f = tt
left_ready lane (Negotiates l) h f = by (lane == l) where
  by : (b : Bool) → IsReady (if b then Away else Negotiates l) (Shuts lane ∷ h)
  by true = tt
  by false = f
left_ready lane (Upgrades l) h f = by (lane == l) where
  by : (b : Bool) → IsReady (if b then Away else Upgrades l) (Shuts lane ∷ h)
  by true = tt
  by false = f
left_ready lane (Stands l) h f = by (lane == l) where
  by : (b : Bool) → IsReady (if b then Away else Stands l) (Shuts lane ∷ h)
  by true = tt
  by false = tt

pub ready : (s : Setup) (h : List DialEvent) → AllFollow s h → IsReady (phase h) h
ready s [] a = tt
ready s (Hears now e ∷ h) (m, a) = heard_ready now h m e (ready s h a)
ready s (Draws d ∷ h) (m, a) = ready_later (phase h) (Draws d ∷ h) h refl (omega arith) (ready s h a)
ready s (Asks lane ask ∷ h) ((away, asks, later), a) = asked_ready lane ask ask.upgrade h later
ready s (Learns t ∷ h) (m, a) = ready_later (phase h) (Learns t ∷ h) h refl (omega arith) (ready s h a)
ready s (Shuts lane ∷ h) (m, a) = left_ready lane (phase h) h (ready s h a)
ready s (GivesUp ∷ h) (m, a) = tt
ready s (Stops ∷ h) (m, a) = tt

-- ---- moves

module _ (s : Setup) where
  socket_follows : (lane : ℕ) (t : Told) (key seed : Option (List ℕ)) (g : List DialEvent) → AllFollow s g → told g ≡ Some t
      → is_away (phase g) ≡ true → dials_from g ≤ moment g → AllFollow s (socket_asked s lane t.token key seed g)
  socket_follows lane t None seed g a e away later = (tt, (tt, a))
  socket_follows lane t (Some key) None g a e away later = (tt, (tt, (tt, a)))
  socket_follows lane t (Some key) (Some seed) g a e away later =
      ((away, subst (λ o. IsAskFor s o (socket_ask s t.token (record { key = key; seed = seed })) (Draws (Some seed) ∷ Draws (Some key) ∷ g)) (sym e) (key, seed, g, refl, refl), later), (tt, (tt, a)))

  dialed_follows : (d : Dial) (o : Option Told) (h : List DialEvent) → told h ≡ o → is_away (phase h) ≡ true → dials_from h ≤ moment h
      → AllFollow s h → AllFollow s (dialed s d o h)
  dialed_follows d None h e away later a = ((away, subst (λ o. IsAskFor s o (negotiate_ask s) h) (sym e) refl, later), a)
  dialed_follows d (Some t) h e away later a = socket_follows d.lane t d.key d.seed h a e away later

  -- g is what was there as the response was heard
  negotiated_follows : (d : Dial) (lane : ℕ) (o : Option Told) (g : List DialEvent) → AllFollow s g → told g ≡ None → left lane (phase g) ≡ Away
      → dials_from g ≤ moment g → AllFollow s (negotiated s d lane o g)
  negotiated_follows d lane None g a e away later = (tt, (tt, a))
  negotiated_follows d lane (Some t) g a e away later =
      socket_follows d.lane t d.key d.seed (Learns t ∷ Shuts lane ∷ g) ((e, ap is_away away), (tt, a)) refl (ap is_away away) later

  counted_follows : (lost : ℕ) (g : List DialEvent) → AllFollow s g → AllFollow s (counted lost g)
  counted_follows lost g a = either (AllFollow s) (nat_le most_lost lost) (GivesUp ∷ g) g (λ e. (tt, a)) (λ e. a)

  -- what an event that was heard leads to
  answered_follows : (d : Dial) (now : ℕ) (e : Event) (p : Phase) (lost : ℕ) (h : List DialEvent) → phase h ≡ p → AllFollow s (Hears now e ∷ h)
      → AllFollow s (answered s d e p lost (Hears now e ∷ h))
  answered_follows d now (event.Response lane c b) (Negotiates l) lost h e (m, a) =
      either (AllFollow s) (lane == l) (negotiated s d lane (told_in_response s c b) g) g
      (λ f. negotiated_follows d lane (told_in_response s c b) g (m, a) untold (rw e (rw f refl)) (omega (arith, m, before))) (λ f. (m, a))
    where
      g : List DialEvent
      g = Hears now (event.Response lane c b) ∷ h

      untold : told h ≡ None
      untold = (subst (λ p. SuitsAsk s p h) e (suits s h a)).0

      before : dials_from h ≤ moment h
      before = subst (λ p. IsReady p h) e (ready s h a)
  answered_follows d now (event.Response lane c b) (Upgrades l) lost h e a =
      either (AllFollow s) (lane == l) (GivesUp ∷ Hears now (event.Response lane c b) ∷ h) (Hears now (event.Response lane c b) ∷ h) (λ f. (tt, a)) (λ f. a)
  answered_follows d now (event.Response lane c b) Away lost h e a = a
  answered_follows d now (event.Response lane c b) (Stands l) lost h e a = a
  answered_follows d now (event.Response lane c b) Over lost h e a = a
  answered_follows d now (event.Lost lane) (Negotiates l) lost h e a =
      either (AllFollow s) (lane == l) (counted (suc lost) (Hears now (event.Lost lane) ∷ h)) (Hears now (event.Lost lane) ∷ h)
      (λ f. counted_follows (suc lost) (Hears now (event.Lost lane) ∷ h) a) (λ f. a)
  answered_follows d now (event.Lost lane) (Upgrades l) lost h e a =
      either (AllFollow s) (lane == l) (counted (suc lost) (Hears now (event.Lost lane) ∷ h)) (Hears now (event.Lost lane) ∷ h)
      (λ f. counted_follows (suc lost) (Hears now (event.Lost lane) ∷ h) a) (λ f. a)
  answered_follows d now (event.Lost lane) Away lost h e a = a
  answered_follows d now (event.Lost lane) (Stands l) lost h e a = a
  answered_follows d now (event.Lost lane) Over lost h e a = a
  answered_follows d now (event.Request lane r) p lost h e a = a
  answered_follows d now (event.Refused lane r) p lost h e a = a
  answered_follows d now (event.Bytes lane b) p lost h e a = a
  answered_follows d now (event.Upgraded lane) p lost h e a = a
  answered_follows d now (event.Drained lane) p lost h e a = a
  answered_follows d now event.Quiet p lost h e a = a

  shut_follows : (p : Phase) (h : List DialEvent) → AllFollow s h → AllFollow s (shut p h)
  shut_follows Away h a = a
  shut_follows (Negotiates l) h a = (tt, a)
  shut_follows (Upgrades l) h a = (tt, a)
  shut_follows (Stands l) h a = (tt, a)
  shut_follows Over h a = a

  move_follows : (m : Move) (h : List DialEvent) → MayMove m h → AllFollow s h → AllFollow s (moved s m h)
  move_follows (Dials d) h due a =
      let parts = and_parts (is_away (phase h)) (nat_le (dials_from h) (moment h)) due in
      dialed_follows d (told h) h refl parts.0 (leb-true (dials_from h) (moment h) parts.1) a
  move_follows (move.Hears now e d) h (due, m) a = answered_follows d now e (phase h) (lost_dials h) h refl (m, a)
  move_follows Drops h up a = shut_follows (phase h) h a
  move_follows Leaves h goes a = (tt, shut_follows (phase h) h a)

  pub all_follow : (ms : List Move) → IsDialing s ms → AllFollow s (happened s ms)
  all_follow [] d = tt
  all_follow (m ∷ ms) (may, d) = move_follows m (happened s ms) may (all_follow ms d)

-- ---- laws that are parts of it

asks_alone : (s : Setup) (h : List DialEvent) → AllFollow s h → AsksAlone h
asks_alone s [] a = tt
asks_alone s (Hears now e ∷ h) (m, a) = asks_alone s h a
asks_alone s (Draws d ∷ h) (m, a) = asks_alone s h a
asks_alone s (Asks lane ask ∷ h) ((away, asks, later), a) = (away, asks_alone s h a)
asks_alone s (Learns t ∷ h) (m, a) = asks_alone s h a
asks_alone s (Shuts lane ∷ h) (m, a) = asks_alone s h a
asks_alone s (GivesUp ∷ h) (m, a) = asks_alone s h a
asks_alone s (Stops ∷ h) (m, a) = asks_alone s h a

asks_by_token : (s : Setup) (h : List DialEvent) → AllFollow s h → AsksByToken s h
asks_by_token s [] a = tt
asks_by_token s (Hears now e ∷ h) (m, a) = asks_by_token s h a
asks_by_token s (Draws d ∷ h) (m, a) = asks_by_token s h a
asks_by_token s (Asks lane ask ∷ h) ((away, asks, later), a) = (asks, asks_by_token s h a)
asks_by_token s (Learns t ∷ h) (m, a) = asks_by_token s h a
asks_by_token s (Shuts lane ∷ h) (m, a) = asks_by_token s h a
asks_by_token s (GivesUp ∷ h) (m, a) = asks_by_token s h a
asks_by_token s (Stops ∷ h) (m, a) = asks_by_token s h a

keeps_pauses : (s : Setup) (h : List DialEvent) → AllFollow s h → KeepsPauses h
keeps_pauses s [] a = tt
keeps_pauses s (Hears now e ∷ h) (m, a) = keeps_pauses s h a
keeps_pauses s (Draws d ∷ h) (m, a) = keeps_pauses s h a
keeps_pauses s (Asks lane ask ∷ h) ((away, asks, later), a) = (later, keeps_pauses s h a)
keeps_pauses s (Learns t ∷ h) (m, a) = keeps_pauses s h a
keeps_pauses s (Shuts lane ∷ h) (m, a) = keeps_pauses s h a
keeps_pauses s (GivesUp ∷ h) (m, a) = keeps_pauses s h a
keeps_pauses s (Stops ∷ h) (m, a) = keeps_pauses s h a

pub phases_suit_asks : PhasesSuitAsks
phases_suit_asks s ms d = suits s (happened s ms) (all_follow s ms d)

pub one_lane_at_most : OneLaneAtMost
one_lane_at_most s ms d = asks_alone s (happened s ms) (all_follow s ms d)

pub all_ask_by_token : AllAskByToken
all_ask_by_token s ms d = asks_by_token s (happened s ms) (all_follow s ms d)

pub all_keep_pauses : AllKeepPauses
all_keep_pauses s ms d = keeps_pauses s (happened s ms) (all_follow s ms d)
