-- After a turn nothing is due on the lane that is up, unless it was full.
use Rattle.std.proofs.Common.{refl, subst, sym, ap, ◌∙◌, ◌≡◌, ℕ, Bool, true, false, List, [], ◌∷◌, ◌++◌, Option, Some, None, if◌then◌else◌}
use Rattle.std.specs.Prelude.{not, ◌&&◌}
use Rattle.hd_delivery.specs.Frames.{LinkFrame}
use Rattle.hd_delivery.specs.Histories.{Lent}
use Rattle.hd_delivery.specs.Due.{due}
use Rattle.hd_delivery.specs.Bytes.{Does as Step_of}
use Rattle.hd_calls.specs.Peers.{Plain, Settings, steps}
use Rattle.hd_server.specs.Plans.{onto}
use Rattle.hd_server.specs.Serves.{LendsAll, all_of}
use Rattle.hd_dialing.specs.Events.{Phase, Away, Negotiates, Upgrades, Stands, Over, phase, told}
use Rattle.hd_client.specs.Setups.{Setup, settings_with}
use Rattle.hd_client.specs.Events.{ClientEvent, Makes, Says, Sees, dialing, settings_of, moves, phase_of, is_full, has_closed}
use Rattle.hd_client.specs.Plans.{leaving}
use Rattle.hd_client.specs.Turns.{lending, writing, telling_on, seeing, is_withheld, AreDueBy, AreDueOn}
use Rattle.hd_client.specs.Laws.{NothingIsLeft}
use Rattle.hd_client.proofs.Onto.{onto_both}
use Rattle.hd_client.proofs.Dialed.{quiet, told_quiet, seen_quiet}

-- what is lent leaves nothing due
lent_due : (t : Settings) (fs : List LinkFrame) (h : List ClientEvent) → LendsAll t.config (steps t (moves h)) fs
    → due t.config (steps t (moves (onto (lending fs) h))) ≡ None
lent_due t [] h e = e
lent_due t (f ∷ fs) h (e, more) = lent_due t fs (Makes (Plain (Step_of (Lent f))) ∷ h) more

-- and what is written and seen is no move
wrote_moves : (t : Settings) (lane : ℕ) (pieces : List (List LinkFrame)) (g h : List ClientEvent) → moves (onto (writing t lane pieces g) h) ≡ moves h
wrote_moves t lane [] g h = refl
wrote_moves t lane (p ∷ ps) g h = wrote_moves t lane ps g (Says lane _ _ ∷ h)

pub seen_moves : (p : Phase) (full : List Bool) (h : List ClientEvent) → moves (onto (seeing p full) h) ≡ moves h
seen_moves (Stands lane) [] h = refl
seen_moves (Stands lane) (one ∷ full) h = seen_moves (Stands lane) full (Sees lane one ∷ h)
seen_moves Away full h = refl
seen_moves (Negotiates lane) full h = refl
seen_moves (Upgrades lane) full h = refl
seen_moves Over full h = refl

-- a connection that is left is over
left_over : (p : Phase) (k : List ClientEvent) → phase_of k ≡ p → phase_of (onto (leaving p) k) ≡ Over
left_over Away k e = refl
left_over (Negotiates lane) k e = refl
left_over (Upgrades lane) k e = refl
left_over (Stands lane) k e = refl
left_over Over k e = e

lane_is : (l k : ℕ) → Stands l ≡ Stands k → l ≡ k
lane_is l k e = cc

some_is : {A : Type 0} (x y : A) → Some x ≡ Some y → x ≡ y
some_is x y e = cc

module _ (s : Setup) where
  pub stays : (p : Phase) (o : Option Settings) (pieces : List (List LinkFrame)) (full : List Bool) (h after : List ClientEvent)
      → after ≡ onto (seeing p full) (onto (telling_on p o pieces h ++ []) h) → dialing after ≡ dialing h
  stays p o pieces full h after e =
      let said : List ClientEvent = telling_on p o pieces h in
      ap dialing e ∙ (quiet (seeing p full) (onto (said ++ []) h) (seen_quiet s p full)
      ∙ (ap dialing (onto_both said [] h) ∙ quiet said h (told_quiet s p o pieces h)))

  pub said_moves : (u : Settings) (l : ℕ) (pieces : List (List LinkFrame)) (full : List Bool) (h after : List ClientEvent)
      → after ≡ onto (seeing (Stands l) full) (onto (telling_on (Stands l) (Some u) pieces h ++ []) h) → moves after ≡ moves (onto (lending (all_of pieces)) h)
  said_moves u l pieces full h after e =
      let lent : List ClientEvent = onto (lending (all_of pieces)) h in
      let said : List ClientEvent = lending (all_of pieces) ++ writing u l pieces h in
      ap moves e ∙ (seen_moves (Stands l) full (onto (said ++ []) h) ∙ (ap moves (onto_both said [] h)
      ∙ (ap moves (onto_both (lending (all_of pieces)) (writing u l pieces h) h) ∙ wrote_moves u l pieces h lent)))

  pub is_left : (pieces : List (List LinkFrame)) (full : List Bool) (h after : List ClientEvent)
      → after ≡ onto (seeing (phase_of h) full) (onto (telling_on (phase_of h) (settings_of s h) pieces h ++ leaving (phase_of h)) h) → phase_of after ≡ Over
  is_left pieces full h after e =
      let said : List ClientEvent = telling_on (phase_of h) (settings_of s h) pieces h in
      let still : dialing (onto said h) ≡ dialing h = quiet said h (told_quiet s (phase_of h) (settings_of s h) pieces h) in
      ap phase_of e ∙ (ap phase (quiet (seeing (phase_of h) full) (onto (said ++ leaving (phase_of h)) h) (seen_quiet s (phase_of h) full))
      ∙ (ap phase_of (onto_both said (leaving (phase_of h)) h) ∙ left_over (phase_of h) (onto said h) (ap phase still)))

  by_phase : (p : Phase) (o : Option Settings) (pieces : List (List LinkFrame)) (full : List Bool) (h after : List ClientEvent)
      → phase_of h ≡ p → settings_of s h ≡ o → AreDueOn s p o pieces h → after ≡ onto (seeing p full) (onto (telling_on p o pieces h ++ []) h)
      → (lane : ℕ) (t : Settings) → phase_of after ≡ Stands lane → settings_of s after ≡ Some t → is_full lane h ≡ false
      → due t.config (steps t (moves after)) ≡ None
  by_phase (Stands l) (Some u) pieces full h after ep eo d ea lane t es et ef =
      let still : dialing after ≡ dialing h = stays (Stands l) (Some u) pieces full h after ea in
      let here : l ≡ lane = lane_is l lane (sym (ap phase still ∙ ep) ∙ es) in
      let same : u ≡ t = some_is u t (sym (ap (λ x. settings_with s (told x)) still ∙ eo) ∙ et) in
      let free : is_withheld s l h ≡ false = ap (λ b. b && not (has_closed s h)) (ap (λ k. is_full k h) here ∙ ef) in
      let all : AreDueBy false u pieces h = subst (λ b. AreDueBy b u pieces h) free d in
      let moved = said_moves u l pieces full h after ea in
      subst (λ v. due v.config (steps v (moves after)) ≡ None) same (ap (λ ms. due u.config (steps u ms)) moved ∙ lent_due u (all_of pieces) h all.1)
  by_phase (Stands l) None pieces full h after ep eo d ea lane t es et ef =
      let none : None ≡ Some t = sym (ap (λ x. settings_with s (told x)) (stays (Stands l) None pieces full h after ea) ∙ eo) ∙ et in absurd (cc)
  by_phase Away o pieces full h after ep eo d ea lane t es et ef =
      let no : Away ≡ Stands lane = sym (ap phase (stays Away o pieces full h after ea) ∙ ep) ∙ es in absurd (cc)
  by_phase (Negotiates l) o pieces full h after ep eo d ea lane t es et ef =
      let no : Negotiates l ≡ Stands lane = sym (ap phase (stays (Negotiates l) o pieces full h after ea) ∙ ep) ∙ es in absurd (cc)
  by_phase (Upgrades l) o pieces full h after ep eo d ea lane t es et ef =
      let no : Upgrades l ≡ Stands lane = sym (ap phase (stays (Upgrades l) o pieces full h after ea) ∙ ep) ∙ es in absurd (cc)
  by_phase Over o pieces full h after ep eo d ea lane t es et ef =
      let no : Over ≡ Stands lane = sym (ap phase (stays Over o pieces full h after ea) ∙ ep) ∙ es in absurd (cc)

  by_end : (b : Bool) (pieces : List (List LinkFrame)) (full : List Bool) (h after : List ClientEvent) → AreDueOn s (phase_of h) (settings_of s h) pieces h
      → after ≡ onto (seeing (phase_of h) full) (onto (telling_on (phase_of h) (settings_of s h) pieces h ++ (if b then leaving (phase_of h) else [])) h)
      → (lane : ℕ) (t : Settings) → phase_of after ≡ Stands lane → settings_of s after ≡ Some t → is_full lane h ≡ false
      → due t.config (steps t (moves after)) ≡ None
  by_end false pieces full h after d ea lane t es et ef = by_phase (phase_of h) (settings_of s h) pieces full h after refl refl d ea lane t es et ef
  by_end true pieces full h after d ea lane t es et ef =
      let no : Over ≡ Stands lane = sym (is_left pieces full h after ea) ∙ es in absurd (cc)

module _ {Job : Type 0} where
  pub nothing_left : NothingIsLeft Job
  nothing_left hub s script begin h after turn lane t es et ef =
      by_end s (has_closed s turn.told) turn.pieces turn.full turn.told after turn.all_due turn.tells lane t es et ef
