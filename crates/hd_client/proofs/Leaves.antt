-- A client that is over has no lane that is up.
use Rattle.std.proofs.Common.{refl, sym, ap, ◌∙◌, ◌≡◌, Bool, true, false, List, [], ◌∷◌, ◌++◌, Option, Some, None, if◌then◌else◌}
use Rattle.std.specs.Prelude.{◌||◌}
use Rattle.hd_delivery.specs.Frames.{LinkFrame}
use Rattle.hd_delivery.specs.Histories.{Lent}
use Rattle.hd_delivery.specs.Bytes.{Does as Step_of}
use Rattle.hd_calls.specs.Peers.{Plain, Settings, is_shut}
use Rattle.hd_server.specs.Plans.{onto}
use Rattle.hd_server.specs.Serves.{all_of}
use Rattle.hd_dialing.specs.Events.{Phase, Away, Negotiates, Upgrades, Stands, Over, told}
use Rattle.hd_dialing.specs.Events as dial
use Rattle.hd_client.specs.Setups.{Setup, settings_with}
use Rattle.hd_client.specs.Events.{ClientEvent, Makes, settings_of, moves, phase_of, is_shut_with, has_closed, is_over}
use Rattle.hd_client.specs.Plans.{leaving}
use Rattle.hd_client.specs.Turns.{lending, telling_on, seeing}
use Rattle.hd_client.specs.Laws.{EndsLeaveNoLane}
use Rattle.hd_client.proofs.Left.{seen_moves, stays, said_moves, is_left}

phase_is_over : (p : Phase) → dial.is_over p ≡ true → p ≡ Over
phase_is_over Over e = refl
phase_is_over Away e = absurd (cc)
phase_is_over (Negotiates lane) e = absurd (cc)
phase_is_over (Upgrades lane) e = absurd (cc)
phase_is_over (Stands lane) e = absurd (cc)

first_is_true : (a b : Bool) → (a || b) ≡ true → b ≡ false → a ≡ true
first_is_true true b e f = refl
first_is_true false b e f = let no : false ≡ true = sym f ∙ e in absurd (cc)

-- what is lent closes no end
lent_shut : (t : Settings) (fs : List LinkFrame) (h : List ClientEvent) → is_shut t (moves (onto (lending fs) h)) ≡ is_shut t (moves h)
lent_shut t [] h = refl
lent_shut t (f ∷ fs) h = lent_shut t fs (Makes (Plain (Step_of (Lent f))) ∷ h)

module _ (s : Setup) where
  by_moves : (p : Phase) (o : Option Settings) (pieces : List (List LinkFrame)) (full : List Bool) (h after : List ClientEvent)
      → after ≡ onto (seeing p full) (onto (telling_on p o pieces h ++ []) h) → moves after ≡ moves h → has_closed s after ≡ has_closed s h
  by_moves p o pieces full h after ea em =
      ap (λ x. is_shut_with (settings_with s (told x)) (moves after)) (stays s p o pieces full h after ea) ∙ ap (λ ms. is_shut_with (settings_of s h) ms) em

  said_closed : (p : Phase) (o : Option Settings) (pieces : List (List LinkFrame)) (full : List Bool) (h after : List ClientEvent) → settings_of s h ≡ o
      → after ≡ onto (seeing p full) (onto (telling_on p o pieces h ++ []) h) → has_closed s after ≡ has_closed s h
  said_closed (Stands l) (Some u) pieces full h after eo ea =
      ap (λ x. is_shut_with (settings_with s (told x)) (moves after)) (stays s (Stands l) (Some u) pieces full h after ea)
      ∙ (ap (λ o. is_shut_with o (moves after)) eo ∙ (ap (λ ms. is_shut u ms) (said_moves s u l pieces full h after ea)
      ∙ (lent_shut u (all_of pieces) h ∙ sym (ap (λ o. is_shut_with o (moves h)) eo))))
  said_closed (Stands l) None pieces full h after eo ea = by_moves (Stands l) None pieces full h after ea (ap moves ea ∙ seen_moves (Stands l) full h)
  said_closed Away o pieces full h after eo ea = by_moves Away o pieces full h after ea (ap moves ea ∙ seen_moves Away full h)
  said_closed (Negotiates l) o pieces full h after eo ea = by_moves (Negotiates l) o pieces full h after ea (ap moves ea ∙ seen_moves (Negotiates l) full h)
  said_closed (Upgrades l) o pieces full h after eo ea = by_moves (Upgrades l) o pieces full h after ea (ap moves ea ∙ seen_moves (Upgrades l) full h)
  said_closed Over o pieces full h after eo ea = by_moves Over o pieces full h after ea (ap moves ea ∙ seen_moves Over full h)

  by_end : (b : Bool) (pieces : List (List LinkFrame)) (full : List Bool) (h after : List ClientEvent) → has_closed s h ≡ b
      → after ≡ onto (seeing (phase_of h) full) (onto (telling_on (phase_of h) (settings_of s h) pieces h ++ (if b then leaving (phase_of h) else [])) h)
      → is_over s after ≡ true → phase_of after ≡ Over
  by_end true pieces full h after eb ea over = is_left s pieces full h after ea
  by_end false pieces full h after eb ea over =
      phase_is_over (phase_of after)
      (first_is_true (dial.is_over (phase_of after)) (has_closed s after) over (said_closed (phase_of h) (settings_of s h) pieces full h after refl ea ∙ eb))

module _ {Job : Type 0} where
  pub ends_leave_no_lane : EndsLeaveNoLane Job
  ends_leave_no_lane hub s script begin h after turn over = by_end s (has_closed s turn.told) turn.pieces turn.full turn.told after refl turn.tells over
