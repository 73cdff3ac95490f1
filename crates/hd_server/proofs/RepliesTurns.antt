-- Which lanes wait after a turn, where what it needs of each connection holds.
use Rattle.std.proofs.Common.{refl, ap, subst, sym, ◌∙◌, ◌≡◌, ℕ, Bool, true, false, List, [], ◌∷◌, Option, Some, None, if◌then◌else◌}
use Rattle.std.specs.Prelude.{◌==◌, is_some, map, find, unwrap_or, option_map, ◌&&◌, ◌||◌}
use Rattle.std.specs.List.{flat_map}
use Rattle.std.proofs.lemmas.Bool.{eqb-true, eq-eqb, or_left, or_right}
use Rattle.hd_delivery.specs.Histories.{Detached, Ticked, Silenced, is_this, present_link, is_silence}
use Rattle.hw_lanes.specs.declared.http.Request.{Request}
use Rattle.hw_door.specs.declared.heard.Event.{Event}
use Rattle.hw_door.specs.declared.heard.Event.TheVariants as event
use Rattle.hd_server.specs.Lives.{LaneLost, poll_of, socket_of, Expired}
use Rattle.hd_server.specs.Machine.{MachineEvent, Does, connections, Connects, Goes}
use Rattle.hd_server.specs.Doings.{ServerEvent, Hears, Notes, Works, notes, work, awaits_reply, history, config_of, has_peer, may_resume, Learns, Draws}
use Rattle.hd_server.specs.Plans.{Setup, onto, step, removing_conn, expiries, losing, losing_lane, conn_on, poller_on, questions, shutting}
use Rattle.hd_server.specs.Serves.{silenced, ticking, ticks}
use Rattle.hd_server.specs.Parts.{Each, IsOfAny, IsExpiry, IsQuestion}
use Rattle.hd_server.proofs.PartsOfTurns.{expiries_are, questions_are}
use Rattle.hd_server.proofs.Each.{either_way, each_so, each_shutting, each_removing}
use Rattle.hd_server.proofs.Flushing.{is_in}
use Rattle.hd_server.proofs.OrderlyDoings.{in_turn, IsQuiet}
use Rattle.hd_server.proofs.OrderlyEach.{passes}
use Rattle.hd_server.proofs.RepliesLanes.{Held, Holds, Calm, calm_same, calm_then, calm_holds, calm_onto, IsCalm}

-- ---- an event is heard

pub hears_request : (now lane : ℕ) (r : Request) (g : List ServerEvent) → awaits_reply lane g ≡ false → Holds None None g
    → Holds (Some lane) None (Hears now (event.Request lane r) ∷ g)
hears_request now lane r g none ok = record {
  told = ok.told;
  waits = λ l e f. ok.waits l (sym (ap (λ b. b || awaits_reply l g) f) ∙ e) refl;
  asked = λ l e. or_left (l == lane) (awaits_reply l g) e;
  held = λ k l t p e f. or_right (l == lane) (awaits_reply l g) (ok.held k l t p e refl);
  free = λ k l t p e. free k l t p e (l == lane) refl;
  apart = ok.apart;
}
  where
    free : (k l t : ℕ) → has_peer k g ≡ true → poll_of k (notes g) ≡ Some (l, t) → (b : Bool) → (l == lane) ≡ b → b ≡ false
    free k l t p e false f = refl
    free k l t p e true f =
        absurd (let z : true ≡ false = sym (ok.held k l t p e refl) ∙ ap (λ x. awaits_reply x g) (eqb-true l lane f) ∙ none in cc)

pub hears_lost : (now lane : ℕ) (g : List ServerEvent) → Holds None None g → Holds None (Some lane) (Hears now (event.Lost lane) ∷ g)
hears_lost now lane g ok = record {
  told = ok.told;
  waits = λ l e f. by l (l == lane) e;
  asked = λ l e. absurd (let z : false ≡ true = e in cc);
  held = λ k l t p e f. ap (λ b. if b then false else awaits_reply l g) f ∙ ok.held k l t p e refl;
  free = λ k l t p e. refl;
  apart = ok.apart;
}
  where
    by : (l : ℕ) (b : Bool) → (if b then false else awaits_reply l g) ≡ true → Held l g
    by l true e = absurd (let z : false ≡ true = e in cc)
    by l false e = ok.waits l e refl

-- ---- a lane that was lost

-- what is lost no more
found_all : (lane : ℕ) (g : List ServerEvent) → ((k t : ℕ) → has_peer k g ≡ true → poll_of k (notes g) ≡ Some (lane, t) → ⊥) → Holds None (Some lane) g
    → Holds None None g
found_all lane g none ok = record {
  told = ok.told;
  waits = ok.waits;
  asked = ok.asked;
  held = λ k l t p e f. held k l t p e (l == lane) refl;
  free = ok.free;
  apart = ok.apart;
}
  where
    held : (k l t : ℕ) → has_peer k g ≡ true → poll_of k (notes g) ≡ Some (l, t) → (b : Bool) → (l == lane) ≡ b → awaits_reply l g ≡ true
    held k l t p e true f = absurd (none k t p (subst (λ x. poll_of k (notes g) ≡ Some (x, t)) (eqb-true l lane f) e))
    held k l t p e false f = ok.held k l t p e f

off_lane : (lane : ℕ) (o : Option (ℕ × ℕ)) → ((t : ℕ) → o ≡ Some (lane, t) → ⊥) → is_this lane (option_map (λ p. p.0) o) ≡ false
off_lane lane None none = refl
off_lane lane (Some (l, t)) none = by (lane == l) refl where
  by : (b : Bool) → (lane == l) ≡ b → b ≡ false
  by false e = refl
  by true e = absurd (none t (ap (λ x. Some (x, t)) (sym (eqb-true lane l e))))

-- a lane is lost on which it holds no poll
loss_calm : (c lane now : ℕ) (g : List ServerEvent) → ((t : ℕ) → poll_of c (notes g) ≡ Some (lane, t) → ⊥) → Calm g (Notes (LaneLost c lane now) ∷ g)
loss_calm c lane now g none = record { same_polls = λ k. by k (k == c) refl; fewer = λ k p e f. f; same_waits = λ l. refl; told_still = λ t. t } where
  by : (k : ℕ) (b : Bool) → (k == c) ≡ b
      → (if b && is_this lane (option_map (λ p. p.0) (poll_of k (notes g))) then None else poll_of k (notes g)) ≡ poll_of k (notes g)
  by k false e = refl
  by k true e =
      ap (λ b. if b then None else poll_of k (notes g))
      (off_lane lane (poll_of k (notes g)) (λ t i. none t (sym (ap (λ x. poll_of x (notes g)) (eqb-true k c e)) ∙ i)))

losing_calm : (c lane now : ℕ) (h g : List ServerEvent) → ((t : ℕ) → poll_of c (notes g) ≡ Some (lane, t) → ⊥) → Calm g (onto (losing c lane now h) g)
losing_calm c lane now h g none =
    either_way (λ ds. Calm g (onto ds g)) (may_resume c h) (Notes (LaneLost c lane now) ∷ []) (removing_conn c h)
    (loss_calm c lane now g none) (calm_onto (removing_conn c h) g (each_removing IsCalm c h tt tt))

-- the poll that is held on a lane is lost with it
poll_lost : (c lane now since : ℕ) (g : List ServerEvent) → has_peer c g ≡ true → poll_of c (notes g) ≡ Some (lane, since)
    → awaits_reply lane g ≡ false → Holds None (Some lane) g → Holds None None (Notes (LaneLost c lane now) ∷ g)
poll_lost c lane now since g there mine none ok =
    found_all lane (Notes (LaneLost c lane now) ∷ g) nobody (record {
      told = ok.told;
      waits = λ l e f. let w = ok.waits l e f in (w.0, w.1, stays w.0 l w.1 e w.2 (w.0 == c) refl);
      asked = ok.asked;
      held = λ k l t p e f. ok.held k l t p (before k l t e (k == c) refl).1 f;
      free = λ k l t p e. refl;
      apart = λ j k l t u p q e f. ok.apart j k l t u p q (before j l t e (j == c) refl).1 (before k l u f (k == c) refl).1;
    })
  where
    polls : ℕ → Bool → Option (ℕ × ℕ)
    polls k b = if b && is_this lane (option_map (λ p. p.0) (poll_of k (notes g))) then None else poll_of k (notes g)

    own : (k : ℕ) → (k == c) ≡ true → polls k true ≡ None
    own k s =
        ap (λ o. if is_this lane (option_map (λ p. p.0) o) then None else o) (ap (λ x. poll_of x (notes g)) (eqb-true k c s) ∙ mine)
        ∙ ap (λ b. if◌then◌else◌ {A = Option (ℕ × ℕ)} b None (Some (lane, since))) (eq-eqb lane lane refl)

    before : (k l t : ℕ) → poll_of k (LaneLost c lane now ∷ notes g) ≡ Some (l, t) → (b : Bool) → (k == c) ≡ b
        → ((k == c) ≡ false) × (poll_of k (notes g) ≡ Some (l, t))
    before k l t e false i = (i, sym (ap (λ b. polls k b) i) ∙ e)
    before k l t e true i = absurd (let z : ◌≡◌ {A = Option (ℕ × ℕ)} None (Some (l, t)) = sym (own k i) ∙ sym (ap (λ b. polls k b) i) ∙ e in cc)

    stays : (k l t : ℕ) → awaits_reply l g ≡ true → poll_of k (notes g) ≡ Some (l, t) → (b : Bool) → (k == c) ≡ b
        → polls k b ≡ Some (l, t)
    stays k l t e i false j = i
    stays k l t e i true j =
        let at : ◌≡◌ {A = Option (ℕ × ℕ)} (Some (lane, since)) (Some (l, t)) = sym mine ∙ sym (ap (λ x. poll_of x (notes g)) (eqb-true k c j)) ∙ i in
        let same : lane ≡ l = ap (λ o. unwrap_or (option_map (λ p. p.0) o) 0) at in
        absurd (let z : true ≡ false = sym e ∙ ap (λ x. awaits_reply x g) (sym same) ∙ none in cc)

    nobody : (k t : ℕ) → has_peer k g ≡ true → poll_of k (LaneLost c lane now ∷ notes g) ≡ Some (lane, t) → ⊥
    nobody k t p e =
        let was = before k lane t e (k == c) refl in
        let same : k ≡ c = ok.apart k c lane t since p there was.1 mine in
        absurd (let z : true ≡ false = sym (eq-eqb k c same) ∙ was.0 in cc)

pub finds : (p : ℕ → Bool) (xs : List ℕ) (c : ℕ) → find p xs ≡ Some c → (p c ≡ true) × (is_in c xs ≡ true)
finds p [] c e = absurd (cc)
finds p (x ∷ xs) c e = by (p x) refl e (finds p xs c) where
  by : (b : Bool) → p x ≡ b → (if b then Some x else find p xs) ≡ Some c → (find p xs ≡ Some c → (p c ≡ true) × (is_in c xs ≡ true))
      → (p c ≡ true) × (is_in c (x ∷ xs) ≡ true)
  by true i f further = let here : x ≡ c = cc in (ap p (sym here) ∙ i, or_left (c == x) (is_in c xs) (eq-eqb c x (sym here)))
  by false i f further = let was = further f in (was.0, or_right (c == x) (is_in c xs) was.1)

pub finds_none : (p : ℕ → Bool) (xs : List ℕ) (c : ℕ) → find p xs ≡ None → is_in c xs ≡ true → p c ≡ false
finds_none p [] c e i = absurd (cc)
finds_none p (x ∷ xs) c e i = by (p x) refl e (c == x) refl i (finds_none p xs c) where
  by : (b : Bool) → p x ≡ b → (if b then Some x else find p xs) ≡ None → (a : Bool) → (c == x) ≡ a → (a || is_in c xs) ≡ true
      → (find p xs ≡ None → is_in c xs ≡ true → p c ≡ false) → p c ≡ false
  by true f g a j k further = absurd (cc)
  by false f g true j k further = ap p (eqb-true c x j) ∙ f
  by false f g false j k further = further g k

pub on_this : (lane : ℕ) (o : Option ℕ) → is_this lane o ≡ true → o ≡ Some lane
on_this lane None e = absurd (cc)
on_this lane (Some l) e = ap (λ x. Some x) (sym (eqb-true lane l e))

poll_on_this : (lane : ℕ) (o : Option (ℕ × ℕ)) → is_this lane (option_map (λ p. p.0) o) ≡ true → (t : ℕ) × (o ≡ Some (lane, t))
poll_on_this lane None e = absurd (cc)
poll_on_this lane (Some (l, t)) e = (t, ap (λ x. Some (x, t)) (sym (eqb-true lane l e)))

-- those that have a peer are among the connections; and none polls on the lane on which another stands, or it itself
pub record Apart (h : List ServerEvent) : Type 0 where
  pub among : (k : ℕ) → has_peer k h ≡ true → is_in k (connections (work h)) ≡ true
  pub clash : (c k lane t : ℕ) → has_peer c h ≡ true → has_peer k h ≡ true → socket_of c (notes h) ≡ Some lane → poll_of k (notes h) ≡ Some (lane, t) → ⊥

pub there_of : (h : List ServerEvent) (c : ℕ) → is_in c (connections (work h)) ≡ true → has_peer c h ≡ true
there_of h c i = passes (λ k. has_peer k h) c _ i

module _ (now lane : ℕ) (h : List ServerEvent) (apart : Apart h) (none : awaits_reply lane h ≡ false) (ok : Holds None (Some lane) h) where
  pub lost_holds : (a b : Option ℕ) → conn_on lane h ≡ a → poller_on lane h ≡ b → Holds None None (onto (losing_lane a b lane now h) h)
  lost_holds (Some c) b e f =
      let found = finds (λ k. is_this lane (socket_of k (notes h))) (connections (work h)) c e in
      let there = there_of h c found.1 in
      let stands = on_this lane (socket_of c (notes h)) found.0 in
      let x : List ServerEvent = step c (Detached now) ∷ h in
      let calm : Calm h (onto (losing c lane now h) x)
      = calm_then h x (onto (losing c lane now h) x) (calm_onto (step c (Detached now) ∷ []) h (tt, tt))
      (losing_calm c lane now h x (λ t i. apart.clash c c lane t there there stands i)) in
      found_all lane (onto (losing c lane now h) x)
      (λ k t p i. let at = sym (calm.same_polls k) ∙ i in apart.clash c k lane t there (calm.fewer k (lane, t) i p) stands at)
      (calm_holds None (Some lane) h (onto (losing c lane now h) x) calm ok)
  lost_holds None (Some c) e f =
      let found = finds (λ k. is_this lane (option_map (λ poll. poll.0) (poll_of k (notes h)))) (connections (work h)) c f in
      let polls = poll_on_this lane (poll_of c (notes h)) found.0 in
      poll_lost c lane now polls.0 h (there_of h c found.1) polls.1 none ok
  lost_holds None None e f =
      found_all lane h (λ k t p i.
      absurd (let z : true ≡ false
      = sym (ap (λ o. is_this lane (option_map (λ poll. poll.0) o)) i ∙ eq-eqb lane lane refl)
      ∙ finds_none (λ k. is_this lane (option_map (λ poll. poll.0) (poll_of k (notes h)))) (connections (work h)) k f (apart.among k p) in cc)) ok

-- ---- moments, questions, ticks, rounds

calm_expiry : (d : ServerEvent) → IsOfAny IsExpiry d → IsCalm d
calm_expiry (Works (Does c m)) e = tt
calm_expiry (Works (Goes c)) e = tt
calm_expiry (Notes (Expired c now)) e = tt
calm_expiry d e = absurd e.1

calm_question : (d : ServerEvent) → IsQuestion d → IsCalm d
calm_question (Learns ask) e = tt
calm_question (Draws drawn) e = tt
calm_question d e = absurd e

pub expiries_calm : (now : ℕ) (h : List ServerEvent) → Each IsCalm (expiries now h)
expiries_calm now h = each_so (IsOfAny IsExpiry) IsCalm calm_expiry (expiries now h) (expiries_are now h)

pub questions_calm : (s : Setup) (now : ℕ) (e : Event) (name : Option (Option (List ℕ))) (drawn : Option (List ℕ)) (h : List ServerEvent)
    → Each IsCalm (questions s now e name drawn h)
questions_calm s now e name drawn h = each_so IsQuestion IsCalm calm_question (questions s now e name drawn h) (questions_are s now e name drawn h)

pub works_calm : (xs : List MachineEvent) → Each IsQuiet (map Works xs) → Each IsCalm (map Works xs)
works_calm [] a = tt
works_calm (Connects c t user ∷ xs) a = absurd a.0
works_calm (x ∷ xs) a = (tt, works_calm xs a.1)

tick_calm : (now c : ℕ) (h g : List ServerEvent) → ((lane t : ℕ) → socket_of c (notes h) ≡ Some lane → poll_of c (notes g) ≡ Some (lane, t) → ⊥)
    → Calm g (onto (ticking now c h) g)
tick_calm now c h g none =
    either_way (λ ds. Calm g (onto ds g)) (is_some (present_link (history c h)))
    (if is_silence (config_of c h) now (history c h) then silenced c (socket_of c (notes h)) now h else step c (Ticked now) ∷ []) []
    (either_way (λ ds. Calm g (onto ds g)) (is_silence (config_of c h) now (history c h)) (silenced c (socket_of c (notes h)) now h) (step c (Ticked now) ∷ [])
    (silent (socket_of c (notes h)) refl) (calm_onto (step c (Ticked now) ∷ []) g (tt, tt))) (calm_same g)
  where
    silent : (o : Option ℕ) → socket_of c (notes h) ≡ o → Calm g (onto (silenced c o now h) g)
    silent None e = calm_onto (step c (Silenced now) ∷ []) g (tt, tt)
    silent (Some lane) e =
        let x : List ServerEvent = step c (Silenced now) ∷ g in
        let y : List ServerEvent = onto (losing c lane now h) x in
        in_turn (Calm g) (step c (Silenced now) ∷ losing c lane now h) (shutting lane h) g
        (calm_then g y (onto (shutting lane h) y)
        (calm_then g x y (calm_onto (step c (Silenced now) ∷ []) g (tt, tt)) (losing_calm c lane now h x (λ t i. none lane t e i)))
        (calm_onto (shutting lane h) y (each_shutting IsCalm lane h tt)))

pub ticks_calm : (now : ℕ) (h : List ServerEvent) → ((c lane t : ℕ) → is_in c (connections (work h)) ≡ true → socket_of c (notes h) ≡ Some lane
    → poll_of c (notes h) ≡ Some (lane, t) → ⊥) → Calm h (onto (ticks now h) h)
ticks_calm now h none = walk (connections (work h)) h (calm_same h) (λ c i. i) where
  walk : (cs : List ℕ) (g : List ServerEvent) → Calm h g → ((c : ℕ) → is_in c cs ≡ true → is_in c (connections (work h)) ≡ true)
      → Calm h (onto (flat_map (λ c. ticking now c h) cs) g)
  walk [] g calm all = calm
  walk (c ∷ cs) g calm all =
      in_turn (Calm h) (ticking now c h) (flat_map (λ c. ticking now c h) cs) g
      (walk cs (onto (ticking now c h) g)
      (calm_then h g (onto (ticking now c h) g) calm
      (tick_calm now c h g (λ lane t e i. none c lane t (all c (or_left (c == c) (is_in c cs) (eq-eqb c c refl))) e (sym (calm.same_polls c) ∙ i))))
      (λ k i. all k (or_right (k == c) (is_in k cs) i)))
