-- What comes after a loss, and after the end; what was told stays.
use Rattle.std.proofs.Common.{refl, sym, ap, subst, ◌∙◌, inl, inr, ◌≡◌, ◌⊎◌, ◌≤◌, ◌<◌, ℕ, suc, Bool, true, false, List, [], ◌∷◌, ◌++◌, Option, Some, None, arith, if◌then◌else◌}
use Rattle.std.specs.Prelude.{◌==◌, nat_le}
use Rattle.std.proofs.lemmas.Bool.{leb-true, true≢false}
use Rattle.hw_door.specs.declared.heard.Event.{Event}
use Rattle.hw_door.specs.declared.heard.Event.TheVariants as event
use Rattle.hd_dialing.specs.Numbers.{most_lost}
use Rattle.hd_dialing.specs.Bodies.{Told}
use Rattle.hd_dialing.specs.Asks.{Setup}
use Rattle.hd_dialing.specs.Events.{DialEvent, Hears, Draws, Asks, Learns, Shuts, GivesUp, Stops, Phase, Away, Negotiates, Upgrades, Stands, Over, is_on, is_dial, is_over, left, phase, told, lost_dials, done}
use Rattle.hd_dialing.specs.Plans.{Dial, socket_asked, dialed, negotiated, told_in_response, counted, answered, heard, shut}
use Rattle.hd_dialing.specs.Dialing.{Move, Dials, Drops, Leaves, moved, happened, MayMove, IsDialing}
use Rattle.hd_dialing.specs.Dialing as move
use Rattle.hd_dialing.specs.Laws.{LosesFew, IsLossMet, LossesAreMet, TokensAreKept, NothingAfterTheEnd}
use Rattle.hd_dialing.proofs.Steps.{AllFollow, all_follow, either}
use Rattle.hd_dialing.proofs.Counts.{all_lose_few, over_passes}

-- ---- losses

module _ (s : Setup) (d : Dial) (now lane : ℕ) (h : List DialEvent) (few : LosesFew h) where
  -- the lane of a dial
  dial_met : is_dial lane (phase h) ≡ true → left lane (phase h) ≡ Away → lost_dials h < most_lost
      → IsLossMet h (counted (suc (lost_dials h)) (Hears now (event.Lost lane) ∷ h))
  dial_met e away l = by (nat_le most_lost (suc (lost_dials h))) refl where
    count : lost_dials (Hears now (event.Lost lane) ∷ h) ≡ suc (lost_dials h)
    count = rw e refl

    by : (b : Bool) → nat_le most_lost (suc (lost_dials h)) ≡ b
        → IsLossMet h (if b then GivesUp ∷ Hears now (event.Lost lane) ∷ h else Hears now (event.Lost lane) ∷ h)
    by true f =
        let k = leb-true most_lost (suc (lost_dials h)) f in
        record { phase = inr (refl, omega (arith, count, l, k)); told = refl }
    by false f = record { phase = inl away; told = refl }

  by_phase : (p : Phase) → phase h ≡ p → is_on lane p ≡ true → IsLossMet h (answered s d (event.Lost lane) p (lost_dials h) (Hears now (event.Lost lane) ∷ h))
  by_phase Away e on = absurd (cc)
  by_phase Over e on = absurd (cc)
  by_phase (Negotiates l) e on =
      rw on (dial_met (ap (is_dial lane) e ∙ on) (rw (e, on) refl) (few.fewer (ap is_over e)))
  by_phase (Upgrades l) e on =
      rw on (dial_met (ap (is_dial lane) e ∙ on) (rw (e, on) refl) (few.fewer (ap is_over e)))
  by_phase (Stands l) e on = record { phase = inl (rw (e, on) refl); told = refl }

pub losses_are_met : LossesAreMet
losses_are_met s ms now lane d dials on = by_phase s d now lane (happened s ms) (all_lose_few s ms dials) (phase (happened s ms)) refl on

-- ---- after the end

-- it is over, and nothing was done since
abbrev IsOverSince : List DialEvent → List DialEvent → Type 0
IsOverSince h g = (phase g ≡ Over) × (done g ≡ done h)

over_done : (now : ℕ) (e : Event) (h g : List DialEvent) → phase (Hears now e ∷ g) ≡ Over → IsOverSince h g → IsOverSince h (Hears now e ∷ g)
over_done now e h g o (p, f) = (o, f)

not_over : (p : Phase) → p ≡ Over → is_over p ≡ false → ⊥
not_over p e f = true≢false (sym (ap is_over e) ∙ f)

nothing_more : (s : Setup) (m : Move) (h g : List DialEvent) → MayMove m g → IsOverSince h g → IsOverSince h (moved s m g)
nothing_more s (Dials d) h g due (o, e) = absurd (let z : false ≡ true = rw o at due in cc)
nothing_more s (move.Hears now e d) h g may (o, f) =
    let all = over_passes s d now e g o in
    subst (λ p. IsOverSince h (answered s d e p (lost_dials g) (Hears now e ∷ g))) (sym o)
    (subst (IsOverSince h) (sym all.0) (over_done now e h g all.1.0 (o, f)))
nothing_more s Drops h g up (o, e) = absurd (let z : false ≡ true = rw o at up in cc)
nothing_more s Leaves h g goes (o, e) = absurd (not_over (phase g) o goes)

over_since : (s : Setup) (later ms : List Move) → IsDialing s (later ++ ms) → phase (happened s ms) ≡ Over → IsOverSince (happened s ms) (happened s (later ++ ms))
over_since s [] ms d o = (o, refl)
over_since s (m ∷ later) ms (may, d) o = nothing_more s m (happened s ms) (happened s (later ++ ms)) may (over_since s later ms d o)

pub nothing_after_the_end : NothingAfterTheEnd
nothing_after_the_end s later ms d o = (over_since s later ms d o).1

-- ---- what was told

-- the list goes on from another
abbrev GoesOn : List DialEvent → List DialEvent → Type 0
GoesOn h g = (xs : List DialEvent) × (g ≡ xs ++ h)

adds : (x : DialEvent) (h g : List DialEvent) → GoesOn h g → GoesOn h (x ∷ g)
adds x h g (xs, e) = (x ∷ xs, ap (λ l. x ∷ l) e)

module _ (s : Setup) (h : List DialEvent) where
  socket_goes : (lane : ℕ) (token : List ℕ) (key seed : Option (List ℕ)) (g : List DialEvent) → GoesOn h g → GoesOn h (socket_asked s lane token key seed g)
  socket_goes lane token None seed g a = adds _ h _ (adds _ h g a)
  socket_goes lane token (Some key) None g a = adds _ h _ (adds _ h _ (adds _ h g a))
  socket_goes lane token (Some key) (Some seed) g a = adds _ h _ (adds _ h _ (adds _ h g a))

  dialed_goes : (d : Dial) (o : Option Told) (g : List DialEvent) → GoesOn h g → GoesOn h (dialed s d o g)
  dialed_goes d None g a = adds _ h g a
  dialed_goes d (Some t) g a = socket_goes d.lane t.token d.key d.seed g a

  negotiated_goes : (d : Dial) (lane : ℕ) (o : Option Told) (g : List DialEvent) → GoesOn h g → GoesOn h (negotiated s d lane o g)
  negotiated_goes d lane None g a = adds _ h _ (adds _ h g a)
  negotiated_goes d lane (Some t) g a = socket_goes d.lane t.token d.key d.seed (Learns t ∷ Shuts lane ∷ g) (adds _ h _ (adds _ h g a))

  counted_goes : (lost : ℕ) (g : List DialEvent) → GoesOn h g → GoesOn h (counted lost g)
  counted_goes lost g a = either (GoesOn h) (nat_le most_lost lost) (GivesUp ∷ g) g (λ e. adds GivesUp h g a) (λ e. a)

  answered_goes : (d : Dial) (e : Event) (p : Phase) (lost : ℕ) (g : List DialEvent) → GoesOn h g → GoesOn h (answered s d e p lost g)
  answered_goes d (event.Response lane c b) (Negotiates l) lost g a =
      either (GoesOn h) (lane == l) (negotiated s d lane (told_in_response s c b) g) g (λ e. negotiated_goes d lane (told_in_response s c b) g a) (λ e. a)
  answered_goes d (event.Response lane c b) (Upgrades l) lost g a = either (GoesOn h) (lane == l) (GivesUp ∷ g) g (λ e. adds GivesUp h g a) (λ e. a)
  answered_goes d (event.Response lane c b) Away lost g a = a
  answered_goes d (event.Response lane c b) (Stands l) lost g a = a
  answered_goes d (event.Response lane c b) Over lost g a = a
  answered_goes d (event.Lost lane) (Negotiates l) lost g a = either (GoesOn h) (lane == l) (counted (suc lost) g) g (λ e. counted_goes (suc lost) g a) (λ e. a)
  answered_goes d (event.Lost lane) (Upgrades l) lost g a = either (GoesOn h) (lane == l) (counted (suc lost) g) g (λ e. counted_goes (suc lost) g a) (λ e. a)
  answered_goes d (event.Lost lane) Away lost g a = a
  answered_goes d (event.Lost lane) (Stands l) lost g a = a
  answered_goes d (event.Lost lane) Over lost g a = a
  answered_goes d (event.Request lane r) p lost g a = a
  answered_goes d (event.Refused lane r) p lost g a = a
  answered_goes d (event.Bytes lane b) p lost g a = a
  answered_goes d (event.Upgraded lane) p lost g a = a
  answered_goes d (event.Drained lane) p lost g a = a
  answered_goes d event.Quiet p lost g a = a

  shut_goes : (p : Phase) (g : List DialEvent) → GoesOn h g → GoesOn h (shut p g)
  shut_goes Away g a = a
  shut_goes (Negotiates l) g a = adds (Shuts l) h g a
  shut_goes (Upgrades l) g a = adds (Shuts l) h g a
  shut_goes (Stands l) g a = adds (Shuts l) h g a
  shut_goes Over g a = a

  move_goes : (m : Move) (g : List DialEvent) → GoesOn h g → GoesOn h (moved s m g)
  move_goes (Dials d) g a = dialed_goes d (told g) g a
  move_goes (move.Hears now e d) g a = answered_goes d e (phase g) (lost_dials g) (Hears now e ∷ g) (adds (Hears now e) h g a)
  move_goes Drops g a = shut_goes (phase g) g a
  move_goes Leaves g a = adds Stops h (shut (phase g) g) (shut_goes (phase g) g a)

pub goes_on : (s : Setup) (later ms : List Move) → GoesOn (happened s ms) (happened s (later ++ ms))
goes_on s [] ms = ([], refl)
goes_on s (m ∷ later) ms = move_goes s (happened s ms) m (happened s (later ++ ms)) (goes_on s later ms)

token_stays : (s : Setup) (xs h : List DialEvent) (t : Told) → AllFollow s (xs ++ h) → told h ≡ Some t → told (xs ++ h) ≡ Some t
token_stays s [] h t a e = e
token_stays s (Learns u ∷ xs) h t ((untold, away), a) e = absurd (let f = token_stays s xs h t a e in cc)
token_stays s (Hears now x ∷ xs) h t (m, a) e = token_stays s xs h t a e
token_stays s (Draws d ∷ xs) h t (m, a) e = token_stays s xs h t a e
token_stays s (Asks lane ask ∷ xs) h t (m, a) e = token_stays s xs h t a e
token_stays s (Shuts lane ∷ xs) h t (m, a) e = token_stays s xs h t a e
token_stays s (GivesUp ∷ xs) h t (m, a) e = token_stays s xs h t a e
token_stays s (Stops ∷ xs) h t (m, a) e = token_stays s xs h t a e

pub tokens_are_kept : TokensAreKept
tokens_are_kept s later ms t d e =
    let more = goes_on s later ms in
    let all : AllFollow s (more.0 ++ happened s ms) = subst (AllFollow s) more.1 (all_follow s (later ++ ms) d) in
    subst (λ g. told g ≡ Some t) (sym more.1) (token_stays s more.0 (happened s ms) t all e)
