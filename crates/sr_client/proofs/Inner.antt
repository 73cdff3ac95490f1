-- What a client does in a turn after its beginning asks for nothing: lanes are left, and none is asked for.
use Rattle.std.proofs.Common.{◌≡◌, ℕ, Bool, true, false, List, [], ◌∷◌, ◌++◌, Option, Some, None, refl, sym, ap, subst, ◌∙◌, if◌then◌else◌}
use Rattle.std.specs.Prelude.{map, not, slice_get, filter, ◌&&◌, is_some}
use Rattle.hd_delivery.specs.declared.vocabulary.Reason.TheVariants as reason
use Rattle.hd_delivery.specs.Frames.{LinkFrame}
use Rattle.hd_delivery.specs.Histories.{Closed, Detached, Lent, present_link}
use Rattle.hd_delivery.specs.Sending as sending
use Rattle.hd_calls.specs.Peers.{PeerEvent, Loses, Settings, drawn, live_call, steps}
use Rattle.hd_calls.specs.Rules.{CallRefusal, TooManyLive, Spent, Unknown, TooDeep, Unsent}
use Rattle.hd_server.specs.Lives.{numbers_to}
use Rattle.hd_server.specs.Plans.{onto}
use Rattle.hd_server.specs.Serves.{all_of, is_text}
use Rattle.hd_dialing.specs.Events.{Asks, Hears, Learns, Draws, GivesUp, Shuts, Stops, Phase, Away, Negotiates, Upgrades, Stands, Over, is_on, phase}
use Rattle.hd_client.specs.declared.order.Order.{Order}
use Rattle.hd_client.specs.declared.order.Order.TheVariants as order
use Rattle.hd_client.specs.Setups.{Setup}
use Rattle.hd_client.specs.Events.{ClientEvent, Dialed, Makes, Declines, Passes, Says, Sees, dialing, settings_of, moves, phase_of, moment, is_full, passed, has_closed}
use Rattle.hd_client.specs.Plans.{does, dropping, attempt, doing, doing_some, losing, obeys, gone, losses, leaving, has_live, closing}
use Rattle.sr_client.proofs.Parts.{onto_both}
use Rattle.hd_client.specs.Turns.{moving, RoundsWith, LinesDone, Works, lending, writing, bytes_of, telling_on, telling}

abbrev pub IsInner : ClientEvent → Type 0
IsInner (Dialed (Shuts lane)) = Unit {0}
IsInner (Dialed Stops) = Unit {0}
IsInner (Dialed x) = ⊥
IsInner (Sees lane full) = ⊥
IsInner x = Unit {0}

abbrev pub AreInner : List ClientEvent → Type 0
AreInner [] = Unit {0}
AreInner (x ∷ xs) = IsInner x × AreInner xs

-- nothing is heard, no lane is asked for, and what was answered to messages stays
pub record Stays (h after : List ClientEvent) : Type 0 where
  pub lane : (lane : ℕ) → is_on lane (phase_of after) ≡ true → is_on lane (phase_of h) ≡ true
  pub full : (lane : ℕ) → is_full lane after ≡ is_full lane h
  pub moment : moment after ≡ moment h

pub stays_none : (h : List ClientEvent) → Stays h h
stays_none h = record { lane = λ l e. e; full = λ l. refl; moment = refl }

pub stays_then : (h mid after : List ClientEvent) → Stays h mid → Stays mid after → Stays h after
stays_then h mid after x y = record {
  lane = λ l e. x.lane l (y.lane l e);
  full = λ l. y.full l ∙ x.full l;
  moment = y.moment ∙ x.moment;
}

on_if : (b : Bool) (lane : ℕ) (p : Phase) → is_on lane (if b then Away else p) ≡ true → is_on lane p ≡ true
on_if true lane p e = absurd (let z : false ≡ true = e in cc)
on_if false lane p e = e

one_stays : (x : ClientEvent) (h : List ClientEvent) → IsInner x → Stays h (x ∷ h)
one_stays (Dialed (Shuts l)) h q = record { lane = λ lane e. on_if (is_on l (phase_of h)) lane (phase_of h) e; full = λ l. refl; moment = refl }
one_stays (Dialed Stops) h q = record { lane = λ lane e. absurd (let z : false ≡ true = e in cc); full = λ l. refl; moment = refl }
one_stays (Dialed (Hears now event)) h q = absurd q
one_stays (Dialed (Draws d)) h q = absurd q
one_stays (Dialed (Asks lane ask)) h q = absurd q
one_stays (Dialed (Learns t)) h q = absurd q
one_stays (Dialed GivesUp) h q = absurd q
one_stays (Makes m) h q = record { lane = λ lane e. e; full = λ l. refl; moment = refl }
one_stays (Declines why) h q = record { lane = λ lane e. e; full = λ l. refl; moment = refl }
one_stays Passes h q = record { lane = λ lane e. e; full = λ l. refl; moment = refl }
one_stays (Says lane bytes text) h q = record { lane = λ lane e. e; full = λ l. refl; moment = refl }
one_stays (Sees lane full) h q = absurd q

pub all_stay : (xs h : List ClientEvent) → AreInner xs → Stays h (onto xs h)
all_stay [] h q = stays_none h
all_stay (x ∷ xs) h (q, qs) = stays_then h (x ∷ h) (onto xs (x ∷ h)) (one_stays x h q) (all_stay xs (x ∷ h) qs)

moving_stays : (ms : List PeerEvent) (h : List ClientEvent) → Stays h (moving ms h)
moving_stays [] h = stays_none h
moving_stays (m ∷ ms) h = stays_then h (moving ms h) (moving (m ∷ ms) h) (moving_stays ms h) (one_stays (Makes m) (moving ms h) tt)

-- ---- its parts

both_inner : (xs ys : List ClientEvent) → AreInner xs → AreInner ys → AreInner (xs ++ ys)
both_inner [] ys p q = q
both_inner (x ∷ xs) ys (p, ps) q = (p, both_inner xs ys ps q)

either : (b : Bool) (xs ys : List ClientEvent) → AreInner xs → AreInner ys → AreInner (if b then xs else ys)
either true xs ys p q = p
either false xs ys p q = q

drop_inner : (p : Phase) → AreInner (dropping p)
drop_inner Away = tt
drop_inner (Negotiates lane) = tt
drop_inner (Upgrades lane) = tt
drop_inner (Stands lane) = (tt, tt)
drop_inner Over = tt

leave_inner : (p : Phase) → AreInner (leaving p)
leave_inner Away = (tt, tt)
leave_inner (Negotiates lane) = (tt, (tt, tt))
leave_inner (Upgrades lane) = (tt, (tt, tt))
leave_inner (Stands lane) = (tt, (tt, tt))
leave_inner Over = tt

some_is : {A : Type 0} (x y : A) → Some x ≡ Some y → x ≡ y
some_is x y e = cc

tried : (o : Option CallRefusal) (m : PeerEvent) (xs : List ClientEvent) → attempt o m ≡ Some xs → AreInner xs
tried None m xs e = subst AreInner (some_is _ _ e) (tt, (tt, tt))
tried (Some TooManyLive) m xs e = subst AreInner (some_is _ _ e) (tt, (tt, tt))
tried (Some Spent) m xs e = subst AreInner (some_is _ _ e) (tt, (tt, tt))
tried (Some Unknown) m xs e = subst AreInner (some_is _ _ e) (tt, (tt, tt))
tried (Some TooDeep) m xs e = subst AreInner (some_is _ _ e) (tt, (tt, tt))
tried (Some (Unsent sending.Opening)) m xs e = subst AreInner (some_is _ _ e) (tt, (tt, tt))
tried (Some (Unsent sending.Closed)) m xs e = subst AreInner (some_is _ _ e) (tt, (tt, tt))
tried (Some (Unsent (sending.TooLong size))) m xs e = subst AreInner (some_is _ _ e) (tt, (tt, tt))
tried (Some (Unsent (sending.Full held bytes size))) m xs e = absurd (cc)
tried (Some (Unsent sending.Exhausted)) m xs e = subst AreInner (some_is _ _ e) (tt, (tt, tt))

waited : (b : Bool) (xs : List ClientEvent) → (if b then None else Some (Passes ∷ [])) ≡ Some xs → AreInner xs
waited true xs e = absurd (cc)
waited false xs e = subst AreInner (some_is _ _ e) (tt, tt)

lost_inner : (t : Settings) (h : List ClientEvent) → AreInner (losing t h)
lost_inner t h = either (is_some (present_link (steps t (moves h)))) (does (Detached (moment h)) ∷ dropping (phase_of h)) [] (tt, drop_inner (phase_of h)) tt

line_inner : (t : Settings) (o : Order) (h xs : List ClientEvent) → doing t o h ≡ Some xs → AreInner xs
line_inner t (order.Call kind target arguments uploads) h xs e = tried _ _ xs e
line_inner t (order.Item call value) h xs e = tried _ _ xs e
line_inner t (order.Done call) h xs e = tried _ _ xs e
line_inner t (order.Cancel call) h xs e = tried _ _ xs e
line_inner t order.Wait h xs e = waited (has_live (moves h)) xs e
line_inner t order.Lose h xs e = subst AreInner (some_is (losing t h ++ Passes ∷ []) xs e) (both_inner (losing t h) (Passes ∷ []) (lost_inner t h) (tt, tt))

some_inner : (o : Option Settings) (l : Option Order) (h xs : List ClientEvent) → doing_some o l h ≡ Some xs → AreInner xs
some_inner (Some t) (Some l) h xs e = line_inner t l h xs e
some_inner (Some t) None h xs e = absurd (cc)
some_inner None (Some l) h xs e = absurd (cc)
some_inner None None h xs e = absurd (cc)

next_inner : (b : Bool) (o : Option Settings) (l : Option Order) (h xs : List ClientEvent) → (if b then doing_some o l h else None) ≡ Some xs → AreInner xs
next_inner true o l h xs e = some_inner o l h xs e
next_inner false o l h xs e = absurd (cc)

module _ (s : Setup) where
  lines_stay : (script : List Order) (lines : List (List ClientEvent)) (h after : List ClientEvent) → LinesDone s script lines h after → Stays h after
  lines_stay script [] h after (none, e) = subst (Stays h) (sym e) (stays_none h)
  lines_stay script (xs ∷ more) h after (e, rest) =
      stays_then h (onto xs h) after (all_stay xs h (next_inner (obeys s h) (settings_of s h) (slice_get script (passed h)) h xs e))
      (lines_stay script more (onto xs h) after rest)

  rounds_stay : (o : Option Settings) (h after : List ClientEvent) → RoundsWith o h after → Stays h after
  rounds_stay None h after e = subst (Stays h) (sym e) (stays_none h)
  rounds_stay (Some t) h after (ms, round, e) = subst (Stays h) (sym e) (moving_stays ms h)

  pub work_stays : (b : Bool) (script : List Order) (h after : List ClientEvent) → Works b s script h after → Stays h after
  work_stays true script h after e = subst (Stays h) (sym e) (stays_none h)
  work_stays false script h after w =
      stays_then h w.rounded after (rounds_stay (settings_of s h) h w.rounded w.rounds)
      (stays_then w.rounded w.obeyed after (lines_stay script w.lines w.rounded w.obeyed w.obeys)
      (subst (Stays w.obeyed) (sym w.closes) (all_stay (closing s script w.obeyed) w.obeyed
      (either (obeys s w.obeyed && (not (is_some (slice_get script (passed w.obeyed))) && not (has_live (moves w.obeyed)))) (does (Closed reason.Done false) ∷ []) [] (tt, tt) tt))))

  gone_inner : (ns : List ℕ) → AreInner (map (λ n. Makes (Loses n)) ns)
  gone_inner [] = tt
  gone_inner (n ∷ ns) = (tt, gone_inner ns)

  pub losses_stay : (h : List ClientEvent) → Stays h (onto (losses s h) h)
  losses_stay h = all_stay (losses s h) h
      (either (has_closed s h) (gone (moves h)) [] (gone_inner (filter (λ n. live_call n (moves h)) (numbers_to (drawn (moves h))))) tt)

  lent_inner : (fs : List LinkFrame) → AreInner (lending fs)
  lent_inner [] = tt
  lent_inner (f ∷ fs) = (tt, lent_inner fs)

  wrote_inner : (t : Settings) (lane : ℕ) (pieces : List (List LinkFrame)) (h : List ClientEvent) → AreInner (writing t lane pieces h)
  wrote_inner t lane [] h = tt
  wrote_inner t lane (p ∷ ps) h = (tt, wrote_inner t lane ps h)

  said_inner : (p : Phase) (o : Option Settings) (pieces : List (List LinkFrame)) (h : List ClientEvent) → AreInner (telling_on p o pieces h)
  said_inner (Stands lane) (Some t) pieces h = both_inner (lending (all_of pieces)) (writing t lane pieces h) (lent_inner (all_of pieces)) (wrote_inner t lane pieces h)
  said_inner (Stands lane) None pieces h = tt
  said_inner Away o pieces h = tt
  said_inner (Negotiates lane) o pieces h = tt
  said_inner (Upgrades lane) o pieces h = tt
  said_inner Over o pieces h = tt

  pub told_stays : (pieces : List (List LinkFrame)) (h : List ClientEvent) → Stays h (onto (telling s pieces h) h)
  told_stays pieces h = all_stay (telling s pieces h) h
      (both_inner (telling_on (phase_of h) (settings_of s h) pieces h) (if has_closed s h then leaving (phase_of h) else [])
      (said_inner (phase_of h) (settings_of s h) pieces h) (either (has_closed s h) (leaving (phase_of h)) [] (leave_inner (phase_of h)) tt))

-- ---- its phase once all is said

lent_dialing : (fs : List LinkFrame) (h : List ClientEvent) → dialing (onto (lending fs) h) ≡ dialing h
lent_dialing [] h = refl
lent_dialing (f ∷ fs) h = lent_dialing fs (does (Lent f) ∷ h)

wrote_dialing : (t : Settings) (lane : ℕ) (pieces : List (List LinkFrame)) (k h : List ClientEvent) → dialing (onto (writing t lane pieces k) h) ≡ dialing h
wrote_dialing t lane [] k h = refl
wrote_dialing t lane (p ∷ ps) k h = wrote_dialing t lane ps k (Says lane (bytes_of t p k) (is_text t.config (steps t (moves k))) ∷ h)

said_dialing : (p : Phase) (o : Option Settings) (pieces : List (List LinkFrame)) (k h : List ClientEvent) → dialing (onto (telling_on p o pieces k) h) ≡ dialing h
said_dialing (Stands lane) (Some t) pieces k h =
    ap dialing (onto_both (lending (all_of pieces)) (writing t lane pieces k) h)
    ∙ (wrote_dialing t lane pieces k (onto (lending (all_of pieces)) h) ∙ lent_dialing (all_of pieces) h)
said_dialing (Stands lane) None pieces k h = refl
said_dialing Away o pieces k h = refl
said_dialing (Negotiates lane) o pieces k h = refl
said_dialing (Upgrades lane) o pieces k h = refl
said_dialing Over o pieces k h = refl

left_over : (p : Phase) (h : List ClientEvent) → phase_of h ≡ p → phase_of (onto (leaving p) h) ≡ Over
left_over Away h e = refl
left_over (Negotiates lane) h e = refl
left_over (Upgrades lane) h e = refl
left_over (Stands lane) h e = refl
left_over Over h e = e

by_closed : (p : Phase) (o : Option Settings) (pieces : List (List LinkFrame)) (h : List ClientEvent) (b : Bool) → phase_of h ≡ p
    → phase_of (onto (telling_on p o pieces h ++ (if b then leaving p else [])) h) ≡ (if b then Over else p)
by_closed p o pieces h true e =
    ap phase_of (onto_both (telling_on p o pieces h) (leaving p) h)
    ∙ left_over p (onto (telling_on p o pieces h) h) (ap phase (said_dialing p o pieces h h) ∙ e)
by_closed p o pieces h false e =
    ap phase_of (onto_both (telling_on p o pieces h) [] h) ∙ (ap phase (said_dialing p o pieces h h) ∙ e)

-- a closed end's connection is left, and else it is where it was
pub told_phase : (s : Setup) (pieces : List (List LinkFrame)) (h : List ClientEvent)
    → phase_of (onto (telling s pieces h) h) ≡ (if has_closed s h then Over else phase_of h)
told_phase s pieces h = by_closed (phase_of h) (settings_of s h) pieces h (has_closed s h) refl
