-- Many connections over one dialer: each is dialed as by itself, and no lane is that of two.
use Rattle.std.proofs.Common.{refl, sym, ap, subst, ◌∙◌, inl, inr, ◌≡◌, ◌≢◌, ◌⊎◌, ℕ, suc, Bool, true, false, List, [], ◌∷◌, Option, Some, None, arith, if◌then◌else◌}
use Rattle.std.specs.Prelude.{◌==◌, ◌||◌, nat_le}
use Rattle.std.proofs.lemmas.Bool.{eqb-true, eq-eqb, or_right, true≢false, false_from_ne_true}
use Rattle.hw_door.specs.declared.heard.Event.{Event}
use Rattle.hw_door.specs.declared.heard.Event.TheVariants as event
use Rattle.hd_dialing.specs.Numbers.{most_lost}
use Rattle.hd_dialing.specs.Bodies.{Told}
use Rattle.hd_dialing.specs.Asks.{Setup, Ask}
use Rattle.hd_dialing.specs.Events.{DialEvent, Hears, Draws, Asks, Learns, Shuts, GivesUp, Stops, Phase, Away, Negotiates, Upgrades, Stands, Over, is_on, phase, told, lost_dials, has_asked}
use Rattle.hd_dialing.specs.Plans.{Dial, socket_asked, dialed, negotiated, told_in_response, counted, answered, heard, shut}
use Rattle.hd_dialing.specs.Dialing.{Move, Dials, Drops, Leaves, moved, happened, MayMove, IsDialing}
use Rattle.hd_dialing.specs.Dialing as move
use Rattle.hd_dialing.specs.Dialers.{DialerEvent, Begins, Moves, setup_of, moves, happened_with, history, IsNewLane, MayMoveAlone, MayHappen, AreDialing}
use Rattle.hd_dialing.specs.Dialers as dialer
use Rattle.hd_dialing.specs.Laws.{SuitsAsk, last_ask, lane_of, EachDialsAlone, LanesAreApart, EventsReachOne}
use Rattle.hd_dialing.proofs.Steps.{AllFollow, suits, all_follow}

-- ---- each by itself

alone_moves : (m : Move) (c : ℕ) (h : List DialerEvent) → MayMoveAlone m c h → MayMove m (history c h)
alone_moves (Dials d) c h (new, may) = may
alone_moves (move.Hears now e d) c h may = absurd may
alone_moves Drops c h may = may
alone_moves Leaves c h may = may

module _ (c : ℕ) (s : Setup) where
  begun : (b : Bool) (t : Setup) (h : List DialerEvent) → (if b then Some t else setup_of c h) ≡ Some s → (setup_of c h ≡ Some s → IsDialing s (moves c h))
      → IsDialing s (if b then [] else moves c h)
  begun true t h e f = tt
  begun false t h e f = f e

  in_history : (m : Move) (h : List DialerEvent) → setup_of c h ≡ Some s → MayMove m (history c h) → MayMove m (happened s (moves c h))
  in_history m h e may = subst (λ o. MayMove m (happened_with o (moves c h))) e may

  moved_alone : (b : Bool) (k : ℕ) (m : Move) (h : List DialerEvent) → (c == k) ≡ b → MayMoveAlone m k h → setup_of c h ≡ Some s → IsDialing s (moves c h)
      → IsDialing s (if b then m ∷ moves c h else moves c h)
  moved_alone true k m h f may e d =
      (in_history m h e (subst (λ j. MayMove m (history j h)) (sym (eqb-true c k f)) (alone_moves m k h may)), d)
  moved_alone false k m h f may e d = d

  dials_alone : (h : List DialerEvent) → AreDialing h → setup_of c h ≡ Some s → IsDialing s (moves c h)
  dials_alone [] a e = absurd (cc)
  dials_alone (Begins k t ∷ h) (may, a) e = begun (c == k) t h e (dials_alone h a)
  dials_alone (dialer.Hears now x d ∷ h) (may, a) e = (in_history (move.Hears now x d) h e (may.1 c s e), dials_alone h a e)
  dials_alone (Moves k m ∷ h) (may, a) e = moved_alone (c == k) k m h refl may.1 e (dials_alone h a e)

pub each_dials_alone : EachDialsAlone
each_dials_alone h c s a e = dials_alone c s h a e

-- ---- the lane that is up or being made is one that was asked for

abbrev lane_in : Option (ℕ × Ask) → ℕ
lane_in None = 0
lane_in (Some pair) = pair.0

last_is_asked : (lane : ℕ) (ask : Ask) (h : List DialEvent) → last_ask h ≡ Some (lane, ask) → has_asked lane h ≡ true
last_is_asked lane ask [] e = absurd (cc)
last_is_asked lane ask (Asks l other ∷ h) e = rw (eq-eqb lane l (sym (ap lane_in e))) refl
last_is_asked lane ask (Hears now x ∷ h) e = last_is_asked lane ask h e
last_is_asked lane ask (Draws d ∷ h) e = last_is_asked lane ask h e
last_is_asked lane ask (Learns t ∷ h) e = last_is_asked lane ask h e
last_is_asked lane ask (Shuts l ∷ h) e = last_is_asked lane ask h e
last_is_asked lane ask (GivesUp ∷ h) e = last_is_asked lane ask h e
last_is_asked lane ask (Stops ∷ h) e = last_is_asked lane ask h e

suited_is_asked : (s : Setup) (lane : ℕ) (p : Phase) (h : List DialEvent) → SuitsAsk s p h → is_on lane p ≡ true → has_asked lane h ≡ true
suited_is_asked s lane Away h f e = absurd (cc)
suited_is_asked s lane Over h f e = absurd (cc)
suited_is_asked s lane (Negotiates l) h (untold, f) e = subst (λ k. has_asked k h ≡ true) (sym (eqb-true lane l e)) (last_is_asked l _ h f)
suited_is_asked s lane (Upgrades l) h (t, u, told, f) e = subst (λ k. has_asked k h ≡ true) (sym (eqb-true lane l e)) (last_is_asked l _ h f)
suited_is_asked s lane (Stands l) h (t, u, told, f) e = subst (λ k. has_asked k h ≡ true) (sym (eqb-true lane l e)) (last_is_asked l _ h f)

on_is_asked_with : (s : Setup) (ms : List Move) (lane : ℕ) → IsDialing s ms → is_on lane (phase (happened s ms)) ≡ true → has_asked lane (happened s ms) ≡ true
on_is_asked_with s ms lane d e = suited_is_asked s lane (phase (happened s ms)) (happened s ms) (suits s (happened s ms) (all_follow s ms d)) e

-- of any of them
on_is_asked : (o : Option Setup) (lane c : ℕ) (h : List DialerEvent) → AreDialing h → setup_of c h ≡ o → is_on lane (phase (happened_with o (moves c h))) ≡ true
    → has_asked lane (happened_with o (moves c h)) ≡ true
on_is_asked None lane c h a f e = absurd (cc)
on_is_asked (Some s) lane c h a f e = on_is_asked_with s (moves c h) lane (each_dials_alone h c s a f) e

pub on_its_lane : (lane c : ℕ) (h : List DialerEvent) → AreDialing h → is_on lane (phase (history c h)) ≡ true → has_asked lane (history c h) ≡ true
on_its_lane lane c h a e = on_is_asked (setup_of c h) lane c h a refl e

-- ---- which lane a move asks for

-- the lane was asked for before, or is that of the dial
abbrev IsOldOr : Type 0 → ℕ → List DialEvent → Type 0
IsOldOr P lane g = (has_asked lane g ≡ true) ⊎ P

module _ (s : Setup) (lane : ℕ) where
  -- of a test or another one that holds
  one_asked : (l : ℕ) (g : List DialEvent) → ((lane == l) || has_asked lane g) ≡ true → IsOldOr (lane ≡ l) lane g
  one_asked l g e = by (lane == l) refl e where
    by : (b : Bool) → (lane == l) ≡ b → (b || has_asked lane g) ≡ true → IsOldOr (lane ≡ l) lane g
    by true f x = inr (eqb-true lane l f)
    by false f x = inl x

  socket_asks : (l : ℕ) (token : List ℕ) (key seed : Option (List ℕ)) (g : List DialEvent) → has_asked lane (socket_asked s l token key seed g) ≡ true
      → IsOldOr (lane ≡ l) lane g
  socket_asks l token None seed g e = inl e
  socket_asks l token (Some key) None g e = inl e
  socket_asks l token (Some key) (Some seed) g e = one_asked l g e

  dialed_asks : (d : Dial) (o : Option Told) (g : List DialEvent) → has_asked lane (dialed s d o g) ≡ true → IsOldOr (lane ≡ d.lane) lane g
  dialed_asks d None g e = one_asked d.lane g e
  dialed_asks d (Some t) g e = socket_asks d.lane t.token d.key d.seed g e

  -- what is asked for as an event is heard: nothing new, or by the one that stands on the lane of the event
  abbrev IsAskedBy : Dial → Event → Phase → Type 0
  IsAskedBy d e p = (lane ≡ d.lane) × ((l : ℕ) × (lane_of e ≡ Some l) × (is_on l p ≡ true))

  negotiated_asks : (d : Dial) (l : ℕ) (o : Option Told) (g : List DialEvent) → has_asked lane (negotiated s d l o g) ≡ true → IsOldOr (lane ≡ d.lane) lane g
  negotiated_asks d l None g e = inl e
  negotiated_asks d l (Some t) g e = socket_asks d.lane t.token d.key d.seed (Learns t ∷ Shuts l ∷ g) e

  counted_asks : (lost : ℕ) (g : List DialEvent) → has_asked lane (counted lost g) ≡ true → has_asked lane g ≡ true
  counted_asks lost g e = by (nat_le most_lost lost) e where
    by : (b : Bool) → has_asked lane (if b then GivesUp ∷ g else g) ≡ true → has_asked lane g ≡ true
    by true f = f
    by false f = f

  answered_asks : (d : Dial) (x : Event) (p : Phase) (lost : ℕ) (g : List DialEvent) → has_asked lane (answered s d x p lost g) ≡ true
      → IsOldOr (IsAskedBy d x p) lane g
  answered_asks d (event.Response k c b) (Negotiates l) lost g e = by (k == l) refl e where
    new : (k == l) ≡ true → IsOldOr (lane ≡ d.lane) lane g → IsOldOr (IsAskedBy d (event.Response k c b) (Negotiates l)) lane g
    new f (inl old) = inl old
    new f (inr same) = inr (same, (k, refl, f))

    by : (t : Bool) → (k == l) ≡ t → has_asked lane (if t then negotiated s d k (told_in_response s c b) g else g) ≡ true
        → IsOldOr (IsAskedBy d (event.Response k c b) (Negotiates l)) lane g
    by true f y = new f (negotiated_asks d k (told_in_response s c b) g y)
    by false f y = inl y
  answered_asks d (event.Response k c b) (Upgrades l) lost g e = by (k == l) e where
    by : (t : Bool) → has_asked lane (if t then GivesUp ∷ g else g) ≡ true → IsOldOr (IsAskedBy d (event.Response k c b) (Upgrades l)) lane g
    by true y = inl y
    by false y = inl y
  answered_asks d (event.Response k c b) Away lost g e = inl e
  answered_asks d (event.Response k c b) (Stands l) lost g e = inl e
  answered_asks d (event.Response k c b) Over lost g e = inl e
  answered_asks d (event.Lost k) (Negotiates l) lost g e = by (k == l) e where
    by : (t : Bool) → has_asked lane (if t then counted (suc lost) g else g) ≡ true → IsOldOr (IsAskedBy d (event.Lost k) (Negotiates l)) lane g
    by true y = inl (counted_asks (suc lost) g y)
    by false y = inl y
  answered_asks d (event.Lost k) (Upgrades l) lost g e = by (k == l) e where
    by : (t : Bool) → has_asked lane (if t then counted (suc lost) g else g) ≡ true → IsOldOr (IsAskedBy d (event.Lost k) (Upgrades l)) lane g
    by true y = inl (counted_asks (suc lost) g y)
    by false y = inl y
  answered_asks d (event.Lost k) Away lost g e = inl e
  answered_asks d (event.Lost k) (Stands l) lost g e = inl e
  answered_asks d (event.Lost k) Over lost g e = inl e
  answered_asks d (event.Request k r) p lost g e = inl e
  answered_asks d (event.Refused k r) p lost g e = inl e
  answered_asks d (event.Bytes k b) p lost g e = inl e
  answered_asks d (event.Upgraded k) p lost g e = inl e
  answered_asks d (event.Drained k) p lost g e = inl e
  answered_asks d event.Quiet p lost g e = inl e

  shut_asks : (p : Phase) (g : List DialEvent) → has_asked lane (shut p g) ≡ true → has_asked lane g ≡ true
  shut_asks Away g e = e
  shut_asks (Negotiates l) g e = e
  shut_asks (Upgrades l) g e = e
  shut_asks (Stands l) g e = e
  shut_asks Over g e = e

-- ---- no lane is that of two

-- the lane that a move asks for by itself, if it does
abbrev IsDialOf : ℕ → Move → Type 0
IsDialOf lane (Dials d) = lane ≡ d.lane
IsDialOf lane m = ⊥

move_asks : (s : Setup) (lane c : ℕ) (m : Move) (h : List DialerEvent) (g : List DialEvent) → MayMoveAlone m c h → has_asked lane (moved s m g) ≡ true
    → IsOldOr (IsDialOf lane m) lane g
move_asks s lane c (Dials d) h g may e = dialed_asks s lane d (told g) g e
move_asks s lane c (move.Hears now x d) h g may e = absurd may
move_asks s lane c Drops h g may e = inl (shut_asks s lane (phase g) g e)
move_asks s lane c Leaves h g may e = inl (shut_asks s lane (phase g) g e)

new_by_move : (lane c : ℕ) (m : Move) (h : List DialerEvent) → MayMoveAlone m c h → IsDialOf lane m → IsNewLane lane h
new_by_move lane c (Dials d) h (new, may) e = subst (λ l. IsNewLane l h) (sym e) new
new_by_move lane c (move.Hears now x d) h may e = absurd e
new_by_move lane c Drops h may e = absurd e
new_by_move lane c Leaves h may e = absurd e

module _ (lane : ℕ) where
  abbrev HasAsked : ℕ → List DialerEvent → Type 0
  HasAsked c h = has_asked lane (history c h) ≡ true

  abbrev IsApart : List DialerEvent → Type 0
  IsApart h = (c k : ℕ) → HasAsked c h → HasAsked k h → c ≡ k

  -- one that begins has asked for nothing
  begins_asks : (b : Bool) (c : ℕ) (t : Setup) (h : List DialerEvent) → has_asked lane (happened_with (if b then Some t else setup_of c h) (if b then [] else moves c h)) ≡ true
      → HasAsked c h
  begins_asks true c t h e = absurd (cc)
  begins_asks false c t h e = e

  -- who has asked after a move of one of them: who had before, or that one for its dial
  abbrev MovesAsk : ℕ → Move → ℕ → List DialerEvent → Type 0
  MovesAsk k m c h = HasAsked c h ⊎ ((c ≡ k) × IsDialOf lane m)

  some_asks : (o : Option Setup) (k : ℕ) (m : Move) (c : ℕ) (h : List DialerEvent) → c ≡ k → MayMoveAlone m k h
      → has_asked lane (happened_with o (m ∷ moves c h)) ≡ true → (has_asked lane (happened_with o (moves c h)) ≡ true) ⊎ ((c ≡ k) × IsDialOf lane m)
  some_asks None k m c h f may e = absurd (cc)
  some_asks (Some s) k m c h f may e = by (move_asks s lane k m h (happened s (moves c h)) may e) where
    by : IsOldOr (IsDialOf lane m) lane (happened s (moves c h)) → (has_asked lane (happened s (moves c h)) ≡ true) ⊎ ((c ≡ k) × IsDialOf lane m)
    by (inl old) = inl old
    by (inr new) = inr (f, new)

  moves_asks : (b : Bool) (k : ℕ) (m : Move) (c : ℕ) (h : List DialerEvent) → (c == k) ≡ b → MayMoveAlone m k h
      → has_asked lane (happened_with (setup_of c h) (if b then m ∷ moves c h else moves c h)) ≡ true → MovesAsk k m c h
  moves_asks true k m c h f may e = some_asks (setup_of c h) k m c h (eqb-true c k f) may e
  moves_asks false k m c h f may e = inl e

  after_move : (j : ℕ) (m : Move) (h : List DialerEvent) → MayMoveAlone m j h → IsApart h → (c k : ℕ) → MovesAsk j m c h → MovesAsk j m k h → c ≡ k
  after_move j m h may apart c k (inl x) (inl y) = apart c k x y
  after_move j m h may apart c k (inr (e, x)) (inr (f, y)) = e ∙ sym f
  after_move j m h may apart c k (inl x) (inr (f, y)) = absurd (true≢false (sym x ∙ new_by_move lane j m h may y c))
  after_move j m h may apart c k (inr (e, x)) (inl y) = absurd (true≢false (sym y ∙ new_by_move lane j m h may x k))

  -- who has asked after an event: who had before, or one that stands on its lane
  abbrev HearsAsk : Dial → Event → ℕ → List DialerEvent → Type 0
  HearsAsk d x c h = HasAsked c h ⊎ ((lane ≡ d.lane) × ((l : ℕ) × (lane_of x ≡ Some l) × (has_asked l (history c h) ≡ true)))

module _ (lane : ℕ) (d : Dial) (now : ℕ) (x : Event) (c : ℕ) (h : List DialerEvent) (a : AreDialing h) where
  hears_asks_with : (o : Option Setup) → setup_of c h ≡ o → has_asked lane (happened_with o (move.Hears now x d ∷ moves c h)) ≡ true
      → HearsAsk lane d x c h
  hears_asks_with None f e = absurd (cc)
  hears_asks_with (Some s) f e = by (answered_asks s lane d x (phase (happened s (moves c h))) (lost_dials (happened s (moves c h))) (Hears now x ∷ happened s (moves c h)) e) where
    here : happened s (moves c h) ≡ history c h
    here = ap (λ o. happened_with o (moves c h)) (sym f)

    by : IsOldOr (IsAskedBy s lane d x (phase (happened s (moves c h)))) lane (Hears now x ∷ happened s (moves c h)) → HearsAsk lane d x c h
    by (inl old) = inl (subst (λ g. has_asked lane g ≡ true) here old)
    by (inr (same, (l, its, on))) = inr (same, (l, its, on_its_lane l c h a (subst (λ g. is_on l (phase g) ≡ true) here on)))

  hears_asks : has_asked lane (history c (dialer.Hears now x d ∷ h)) ≡ true → HearsAsk lane d x c h
  hears_asks e = hears_asks_with (setup_of c h) refl e

after_event : (lane : ℕ) (d : Dial) (x : Event) (h : List DialerEvent) → IsNewLane d.lane h → ((l : ℕ) → IsApart l h) → (c k : ℕ)
    → HearsAsk lane d x c h → HearsAsk lane d x k h → c ≡ k
after_event lane d x h new apart c k (inl e) (inl f) = apart lane c k e f
after_event lane d x h new apart c k (inl e) (inr (same, other)) = absurd (true≢false (sym e ∙ subst (λ l. has_asked l (history c h) ≡ false) (sym same) (new c)))
after_event lane d x h new apart c k (inr (same, other)) (inl f) = absurd (true≢false (sym f ∙ subst (λ l. has_asked l (history k h) ≡ false) (sym same) (new k)))
after_event lane d x h new apart c k (inr (same, (l, its, e))) (inr (again, (m, theirs, f))) =
    let one : l ≡ m = cc in
    apart m c k (subst (λ n. has_asked n (history c h) ≡ true) one e) f

apart : (h : List DialerEvent) → AreDialing h → (lane : ℕ) → IsApart lane h
apart [] a lane c k e f = absurd (cc)
apart (Begins j t ∷ h) (may, a) lane c k e f = apart h a lane c k (begins_asks lane (c == j) c t h e) (begins_asks lane (k == j) k t h f)
apart (dialer.Hears now x d ∷ h) (may, a) lane c k e f =
    after_event lane d x h may.0 (apart h a) c k (hears_asks lane d now x c h a e) (hears_asks lane d now x k h a f)
apart (Moves j m ∷ h) (may, a) lane c k e f =
    after_move lane j m h may.1 (apart h a lane) c k (moves_asks lane (c == j) j m c h refl may.1 e) (moves_asks lane (k == j) j m k h refl may.1 f)

pub lanes_are_apart : LanesAreApart
lanes_are_apart h lane c k a e f = apart h a lane c k e f

pub events_reach_one : EventsReachOne
events_reach_one h lane c k a on other =
    false_from_ne_true (is_on lane (phase (history k h)))
    (λ also. other (apart h a lane c k (on_its_lane lane c h a on) (on_its_lane lane k h a also)))
