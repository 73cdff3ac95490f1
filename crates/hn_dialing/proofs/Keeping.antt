-- What a connection keeps, event by event.
use Rattle.std.proofs.Common.{◌≡◌, ◌≤◌, ◌<◌, ◌-◌, ℕ, suc, nat_eq, Bool, true, false, List, ◌∷◌, Option, Some, refl, sym, ap, subst, ◌∙◌, arith, true≢false}
use Rattle.std.specs.Prelude.{◌&&◌, ◌==◌, nat_le}
use Rattle.hw_door.specs.declared.heard.Event.TheVariants as event
use Rattle.hd_dialing.specs.Numbers.{most_lost}
use Rattle.hd_dialing.specs.Asks.{Setup, negotiate_ask}
use Rattle.hd_dialing.specs.Events as dial
use Rattle.hd_dialing.specs.Events.{DialEvent, Hears, Asks, Learns, Shuts, GivesUp, phase, told, moment, lost_dials, lost_at, dials_from, wait_left, is_due, is_over, is_away, is_dial, is_upgrade, left}
use Rattle.hd_dialing.specs.Plans.{Dial, counted, answered, heard}
use Rattle.hd_dialing.specs.Telling.{has_failed_draw}
use Rattle.hn_dialing.specs.declared.bodies.Granted.{Granted}
use Rattle.hn_dialing.specs.declared.connection.Connection.{Connection}
use Rattle.hn_dialing.specs.declared.phase.Phase.{Phase}
use Rattle.hn_dialing.specs.declared.phase.Phase.TheVariants as code
use Rattle.std.proofs.lemmas.Bool.{eqb-true, eq-eqb, cond-true, leb-true, leb-false}
use Rattle.hn_dialing.specs.Stands.{Stands, phase_of, told_of, lane_in, is_negotiate}

-- ---- what changes nothing but the moment

module _ (s : Setup) (c : Connection) (h : List DialEvent) (now : ℕ) (x : DialEvent) where
  -- an event of which nothing is kept but the moment
  pub only_heard : Stands s c h → moment h ≤ now → moment (x ∷ h) ≡ now → phase (x ∷ h) ≡ phase h → told (x ∷ h) ≡ told h → lost_dials (x ∷ h) ≡ lost_dials h
      → lost_at (x ∷ h) ≡ lost_at h → has_failed_draw (x ∷ h) ≡ has_failed_draw h → Stands s (record c { moment = now }) (x ∷ h)
  only_heard st later at p t l n d = record {
    dials_so = st.dials_so;
    is_at = st.is_at ∙ sym p;
    knows = st.knows ∙ sym t;
    lost = st.lost ∙ sym l;
    since = st.since ∙ sym n;
    heard = sym at;
    drew = st.drew ∙ sym d;
    few = λ open_yet. subst (λ k. k < most_lost) (sym l) (st.few (ap is_over (sym p) ∙ open_yet));
    before = subst (λ k. k ≤ moment (x ∷ h)) (sym n) (subst (λ k. lost_at h ≤ k) (sym at) (omega (arith, st.before, later)));
  }

-- ---- small facts

same_number : (n : ℕ) → (n == n) ≡ true
same_number n = eq-eqb n n refl

some_injective : (l k : ℕ) → ◌≡◌ {A = Option ℕ} (Some l) (Some k) → l ≡ k
some_injective l k e = cc

-- ---- asks

module _ (s : Setup) (c : Connection) (h : List DialEvent) where
  pub token_asked : (lane : ℕ) → Stands s c h → is_over (phase h) ≡ false → Stands s (record c { phase = code.Negotiates lane }) (Asks lane (negotiate_ask s) ∷ h)
  token_asked lane st open_yet = record {
    dials_so = st.dials_so;
    is_at = refl;
    knows = st.knows;
    lost = st.lost;
    since = st.since;
    heard = st.heard;
    drew = st.drew;
    few = λ o. st.few open_yet;
    before = st.before;
  }

-- ---- lanes that end

pub negotiates_then : (lane : ℕ) (p : dial.Phase) → is_negotiate lane p ≡ true → p ≡ dial.Negotiates lane
negotiates_then lane dial.Away e = absurd (cc)
negotiates_then lane (dial.Negotiates l) e = ap dial.Negotiates (sym (eqb-true lane l e))
negotiates_then lane (dial.Upgrades l) e = absurd (cc)
negotiates_then lane (dial.Stands l) e = absurd (cc)
negotiates_then lane dial.Over e = absurd (cc)

-- on the lane that is up or being made nothing is left of it
pub left_away : (lane : ℕ) (p : dial.Phase) → lane_in p ≡ Some lane → left lane p ≡ dial.Away
left_away lane dial.Away e = absurd (cc)
left_away lane (dial.Negotiates l) e = rw (some_injective l lane e) (rw (same_number lane) refl)
left_away lane (dial.Upgrades l) e = rw (some_injective l lane e) (rw (same_number lane) refl)
left_away lane (dial.Stands l) e = rw (some_injective l lane e) (rw (same_number lane) refl)
left_away lane dial.Over e = absurd (cc)

has_lane_then : (lane : ℕ) (p : dial.Phase) → lane_in p ≡ Some lane → is_over p ≡ false
has_lane_then lane dial.Away e = refl
has_lane_then lane (dial.Negotiates l) e = refl
has_lane_then lane (dial.Upgrades l) e = refl
has_lane_then lane (dial.Stands l) e = refl
has_lane_then lane dial.Over e = absurd (cc)

module _ (s : Setup) (c : Connection) (h : List DialEvent) where
  pub lane_shut : (lane : ℕ) → Stands s c h → lane_in (phase h) ≡ Some lane → Stands s (record c { phase = code.Away }) (Shuts lane ∷ h)
  lane_shut lane st e = record {
    dials_so = st.dials_so;
    is_at = sym (left_away lane (phase h) e);
    knows = st.knows;
    lost = st.lost;
    since = st.since;
    heard = st.heard;
    drew = st.drew;
    few = λ o. st.few (has_lane_then lane (phase h) e);
    before = st.before;
  }

  pub token_told : (g : Granted) → Stands s c h → Stands s (record c { told = Some g }) (Learns (told_of g) ∷ h)
  token_told g st = record {
    dials_so = st.dials_so;
    is_at = st.is_at;
    knows = refl;
    lost = st.lost;
    since = st.since;
    heard = st.heard;
    drew = st.drew;
    few = st.few;
    before = st.before;
  }

  pub given_up : Stands s c h → Stands s (record c { phase = code.Over }) (GivesUp ∷ h)
  given_up st = record {
    dials_so = st.dials_so;
    is_at = refl;
    knows = st.knows;
    lost = st.lost;
    since = st.since;
    heard = st.heard;
    drew = st.drew;
    few = λ o. absurd (true≢false o);
    before = st.before;
  }

-- ---- when it is due

none_left : (a b : ℕ) → nat_eq (a - b) 0 ≡ nat_le a b
none_left a b = by (nat_eq (a - b) 0) (nat_le a b) refl refl where
  by : (x y : Bool) → nat_eq (a - b) 0 ≡ x → nat_le a b ≡ y → x ≡ y
  by true true e f = refl
  by false false e f = refl
  by true false e f = absurd (omega (arith, eqb-true (a - b) 0 e, leb-false a b f))
  by false true e f = absurd (true≢false (sym (eq-eqb (a - b) 0 (omega (arith, leb-true a b f))) ∙ e))

pub due_away : (h : List DialEvent) (wait : ℕ) → wait ≡ wait_left h → phase h ≡ dial.Away → nat_eq wait 0 ≡ is_due h
due_away h wait e away = ap (λ n. nat_eq n 0) e ∙ (none_left (dials_from h) (moment h) ∙ sym (ap (λ p. is_away p && nat_le (dials_from h) (moment h)) away))

-- ---- dials that are lost

module _ (s : Setup) (d : Dial) (now lane : ℕ) (h : List DialEvent) where
  abbrev IsLostDial : dial.Phase → Type 0
  IsLostDial p = (answered s d (event.Lost lane) p (lost_dials h) (Hears now (event.Lost lane) ∷ h) ≡ counted (suc (lost_dials h)) (Hears now (event.Lost lane) ∷ h)) × (is_dial lane p ≡ true)

  pub lost_negotiating : (p : dial.Phase) → is_negotiate lane p ≡ true → IsLostDial p
  lost_negotiating dial.Away e = absurd (cc)
  lost_negotiating (dial.Negotiates l) e = (cond-true (lane == l) _ _ e, e)
  lost_negotiating (dial.Upgrades l) e = absurd (cc)
  lost_negotiating (dial.Stands l) e = absurd (cc)
  lost_negotiating dial.Over e = absurd (cc)

  pub lost_upgrading : (p : dial.Phase) → is_upgrade lane p ≡ true → IsLostDial p
  lost_upgrading dial.Away e = absurd (cc)
  lost_upgrading (dial.Negotiates l) e = absurd (cc)
  lost_upgrading (dial.Upgrades l) e = (cond-true (lane == l) _ _ e, e)
  lost_upgrading (dial.Stands l) e = absurd (cc)
  lost_upgrading dial.Over e = absurd (cc)

-- ---- one that is over

pub is_over_then : (p : Phase) → is_over (phase_of p) ≡ true → p ≡ code.Over
is_over_then code.Away e = absurd (cc)
is_over_then (code.Negotiates l) e = absurd (cc)
is_over_then (code.Upgrades l) e = absurd (cc)
is_over_then (code.Stands l) e = absurd (cc)
is_over_then code.Over e = refl
