-- A connection that has a peer stands on a lane on which 101 was said, alone, and none polls there.
use Rattle.std.proofs.Common.{refl, ap, sym, ◌∙◌, ◌≡◌, ℕ, Bool, true, false, List, [], ◌∷◌, ◌++◌, Option, Some, None, if◌then◌else◌}
use Rattle.std.specs.Prelude.{◌==◌, map, option_map, unwrap_or, ◌&&◌, ◌||◌}
use Rattle.std.proofs.Math.Bool.{and-false}
use Rattle.std.proofs.lemmas.Bool.{eqb-true, eq-eqb, or_right}
use Rattle.hw_lanes.specs.declared.http.Reply.{Reply}
use Rattle.hd_delivery.specs.Frames.{LinkFrame}
use Rattle.hd_delivery.specs.Histories.{is_this}
use Rattle.hw_door.specs.declared.heard.Event.{Event}
use Rattle.hd_server.specs.declared.vocabulary.Said.TheVariants as say
use Rattle.hd_server.specs.Lives.{Socketed, Polled, Answered, LaneLost, Expired, Removed, socket_of, poll_of}
use Rattle.hd_server.specs.Machine.{MachineEvent, Does, Goes, Connects, connections}
use Rattle.hd_server.specs.Doings.{ServerEvent, Hears, Learns, Draws, Notes, Works, Says, notes, work, is_upgraded, has_peer}
use Rattle.hd_server.specs.Plans.{Setup, onto, expiries, questions}
use Rattle.hd_server.specs.Serves.{all_flushing, ticks}
use Rattle.hd_server.specs.Parts.{Each, IsOfAny, IsExpiry, IsQuestion, IsTick, IsFlush}
use Rattle.hd_server.proofs.OrderlyDoings.{IsQuiet}
use Rattle.hd_server.proofs.PartsOfTurns.{expiries_are, questions_are, ticks_are, all_flushing_is}
use Rattle.hd_server.proofs.Each.{each_so}
use Rattle.hd_server.proofs.RepliesLanes.{not_gone}

-- what holds of sockets, but on a lane that is lost just now; and no socket is the lane on which a request is answered just now
pub record Seats (asks lost : Option ℕ) (h : List ServerEvent) : Type 0 where
  pub raised : (c lane : ℕ) → has_peer c h ≡ true → socket_of c (notes h) ≡ Some lane → is_this lane lost ≡ false → is_upgraded lane h ≡ true
  pub plain : (lane : ℕ) → is_this lane asks ≡ true → is_upgraded lane h ≡ false
  pub free : (c lane now : ℕ) → has_peer c h ≡ true → poll_of c (notes h) ≡ Some (lane, now) → is_this lane asks ≡ false
  pub alone : (c k lane : ℕ) → has_peer c h ≡ true → has_peer k h ≡ true → socket_of c (notes h) ≡ Some lane → socket_of k (notes h) ≡ Some lane → c ≡ k
  pub clash : (c k lane now : ℕ) → has_peer c h ≡ true → has_peer k h ≡ true → socket_of c (notes h) ≡ Some lane
      → poll_of k (notes h) ≡ Some (lane, now) → ⊥

-- ---- what brings none onto a lane

pub record Less (g x : List ServerEvent) : Type 0 where
  pub socket : (c lane : ℕ) → has_peer c x ≡ true → socket_of c (notes x) ≡ Some lane → (has_peer c g ≡ true) × (socket_of c (notes g) ≡ Some lane)
  pub poll : (c lane now : ℕ) → has_peer c x ≡ true → poll_of c (notes x) ≡ Some (lane, now)
      → (has_peer c g ≡ true) × (poll_of c (notes g) ≡ Some (lane, now))
  pub same : (lane : ℕ) → is_upgraded lane x ≡ is_upgraded lane g

pub less_same : (g : List ServerEvent) → Less g g
less_same g = record { socket = λ c l p e. (p, e); poll = λ c l t p e. (p, e); same = λ l. refl }

pub less_then : (f g x : List ServerEvent) → Less f g → Less g x → Less f x
less_then f g x a b = record {
  socket = λ c l p e. let w = b.socket c l p e in a.socket c l w.0 w.1;
  poll = λ c l t p e. let w = b.poll c l t p e in a.poll c l t w.0 w.1;
  same = λ l. b.same l ∙ a.same l;
}

pub less_seats : (asks lost : Option ℕ) (g x : List ServerEvent) → Less g x → Seats asks lost g → Seats asks lost x
less_seats asks lost g x a ok = record {
  raised = λ c l p e f. let w = a.socket c l p e in a.same l ∙ ok.raised c l w.0 w.1 f;
  plain = λ l e. a.same l ∙ ok.plain l e;
  free = λ c l t p e. let w = a.poll c l t p e in ok.free c l t w.0 w.1;
  alone = λ c k l p q e f. let v = a.socket c l p e in let w = a.socket k l q f in ok.alone c k l v.0 w.0 v.1 w.1;
  clash = λ c k l t p q e f. let v = a.socket c l p e in let w = a.poll k l t q f in ok.clash c k l t v.0 w.0 v.1 w.1;
}

-- a doing that brings none onto a lane, and isn't 101
abbrev pub IsLess : ServerEvent → Type 0
IsLess (Hears now event) = ⊥
IsLess (Says (say.Reply lane reply)) = (reply.status == 101) ≡ false
IsLess (Works (Connects c t user)) = ⊥
IsLess (Notes (Socketed c lane now)) = ⊥
IsLess (Notes (Polled c lane now)) = ⊥
IsLess _ = Unit {0}

kept_poll : (b : Bool) (o : Option (ℕ × ℕ)) (p : ℕ × ℕ) → (if b then None else o) ≡ Some p → o ≡ Some p
kept_poll true o p e = absurd (let z : ◌≡◌ {A = Option (ℕ × ℕ)} None (Some p) = e in cc)
kept_poll false o p e = e

kept_socket : (b : Bool) (o : Option ℕ) (l : ℕ) → (if b then None else o) ≡ Some l → o ≡ Some l
kept_socket true o l e = absurd (let z : ◌≡◌ {A = Option ℕ} None (Some l) = e in cc)
kept_socket false o l e = e

one_less : (d : ServerEvent) (g : List ServerEvent) → IsLess d → Less g (d ∷ g)
one_less (Hears now event) g e = absurd e
one_less (Works (Connects c t user)) g e = absurd e
one_less (Notes (Socketed c lane now)) g e = absurd e
one_less (Notes (Polled c lane now)) g e = absurd e
one_less (Says (say.Reply lane reply)) g e = record {
  socket = λ c l p f. (p, f);
  poll = λ c l t p f. (p, f);
  same = λ l. ap (λ b. ((l == lane) && b) || is_upgraded l g) e ∙ ap (λ b. b || is_upgraded l g) (and-false (l == lane));
}
one_less (Works (Goes k)) g e =
    record { socket = λ c l p f. (not_gone c k g p, f); poll = λ c l t p f. (not_gone c k g p, f); same = λ l. refl }
one_less (Notes (Answered k lane now)) g e = record {
  socket = λ c l p f. (p, f);
  poll = λ c l t p f. (p, kept_poll ((c == k) && is_this lane (option_map (λ p. p.0) (poll_of c (notes g)))) (poll_of c (notes g)) (l, t) f);
  same = λ l. refl;
}
one_less (Notes (LaneLost k lane now)) g e = record {
  socket = λ c l p f. (p, kept_socket ((c == k) && is_this lane (socket_of c (notes g))) (socket_of c (notes g)) l f);
  poll = λ c l t p f. (p, kept_poll ((c == k) && is_this lane (option_map (λ p. p.0) (poll_of c (notes g)))) (poll_of c (notes g)) (l, t) f);
  same = λ l. refl;
}
one_less d g e = record { socket = λ c l p f. (p, f); poll = λ c l t p f. (p, f); same = λ l. refl }

pub less_onto : (ds g : List ServerEvent) → Each IsLess ds → Less g (onto ds g)
less_onto [] g a = less_same g
less_onto (d ∷ ds) g a = less_then g (d ∷ g) (onto ds (d ∷ g)) (one_less d g a.0) (less_onto ds (d ∷ g) a.1)

pub less_after : (ds g : List ServerEvent) → Each IsLess ds → Less g (ds ++ g)
less_after [] g a = less_same g
less_after (d ∷ ds) g a = less_then g (ds ++ g) (d ∷ ds ++ g) (less_after ds g a.1) (one_less d (ds ++ g) a.0)

-- ---- parts that bring none onto a lane

less_expiry : (d : ServerEvent) → IsOfAny IsExpiry d → IsLess d
less_expiry (Works (Does c m)) e = tt
less_expiry (Works (Goes c)) e = tt
less_expiry (Notes (Expired c now)) e = tt
less_expiry d e = absurd e.1

less_question : (d : ServerEvent) → IsQuestion d → IsLess d
less_question (Learns ask) e = tt
less_question (Draws drawn) e = tt
less_question d e = absurd e

less_tick : (d : ServerEvent) → IsOfAny IsTick d → IsLess d
less_tick (Works (Does c m)) e = tt
less_tick (Works (Goes c)) e = tt
less_tick (Notes (LaneLost c lane now)) e = tt
less_tick (Notes (Removed c)) e = tt
less_tick (Says (say.Shut lane)) e = tt
less_tick d e = absurd e.1

less_flush : (d : ServerEvent) → IsOfAny IsFlush d → IsLess d
less_flush (Hears now event) e = e.1
less_flush (Says (say.Reply lane reply)) e = e.1
less_flush (Works (Connects c t user)) e = e.1
less_flush (Notes (Socketed c lane now)) e = e.1
less_flush (Notes (Polled c lane now)) e = e.1
less_flush d e = tt

pub expiries_less : (now : ℕ) (h : List ServerEvent) → Each IsLess (expiries now h)
expiries_less now h = each_so (IsOfAny IsExpiry) IsLess less_expiry (expiries now h) (expiries_are now h)

pub questions_less : (s : Setup) (now : ℕ) (e : Event) (name : Option (Option (List ℕ))) (drawn : Option (List ℕ)) (h : List ServerEvent)
    → Each IsLess (questions s now e name drawn h)
questions_less s now e name drawn h = each_so IsQuestion IsLess less_question (questions s now e name drawn h) (questions_are s now e name drawn h)

pub works_less : (xs : List MachineEvent) → Each IsQuiet (map Works xs) → Each IsLess (map Works xs)
works_less [] a = tt
works_less (Connects c t user ∷ xs) a = absurd a.0
works_less (x ∷ xs) a = (tt, works_less xs a.1)

pub ticks_less : (now : ℕ) (h : List ServerEvent) → Each IsLess (ticks now h)
ticks_less now h = each_so (IsOfAny IsTick) IsLess less_tick (ticks now h) (ticks_are now (connections (work h)) h)

pub all_less : (s : Setup) (now : ℕ) (cs : List ℕ) (all : List (List (List LinkFrame))) (h : List ServerEvent) → Each IsLess (all_flushing s now cs all h)
all_less s now cs all h = each_so (IsOfAny IsFlush) IsLess less_flush (all_flushing s now cs all h) (all_flushing_is s now cs all h)

-- ---- what brings one onto a lane

-- the request is answered
pub unasked : (lane : ℕ) (lost : Option ℕ) (g : List ServerEvent) → Seats (Some lane) lost g → Seats None lost g
unasked lane lost g ok = record {
  raised = ok.raised;
  plain = λ l e. absurd (let z : false ≡ true = e in cc);
  free = λ c l t p e. refl;
  alone = ok.alone;
  clash = ok.clash;
}

its_lane : (lane now l t : ℕ) → ◌≡◌ {A = Option (ℕ × ℕ)} (Some (lane, now)) (Some (l, t)) → lane ≡ l
its_lane lane now l t e = ap (λ o. unwrap_or (option_map (λ p. p.0) o) 0) e

stands_there : (lane l : ℕ) → ◌≡◌ {A = Option ℕ} (Some lane) (Some l) → lane ≡ l
stands_there lane l e = ap (λ o. unwrap_or o 0) e

-- a poll stays on the lane on which it came
pub poll_seats : (c lane now : ℕ) (g : List ServerEvent) → Seats (Some lane) None g → Seats None None (Notes (Polled c lane now) ∷ g)
poll_seats c lane now g ok = record {
  raised = ok.raised;
  plain = λ l e. absurd (let z : false ≡ true = e in cc);
  free = λ k l t p e. refl;
  alone = ok.alone;
  clash = λ j k l t p q e f. clash j k l t p q e (k == c) refl f;
}
  where
    clash : (j k l t : ℕ) → has_peer j g ≡ true → has_peer k g ≡ true → socket_of j (notes g) ≡ Some l → (b : Bool) → (k == c) ≡ b
        → (if b then Some (lane, now) else poll_of k (notes g)) ≡ Some (l, t) → ⊥
    clash j k l t p q e true i f =
        absurd (let z : true ≡ false = sym (ok.raised j l p e refl) ∙ ok.plain l (eq-eqb l lane (sym (its_lane lane now l t f))) in cc)
    clash j k l t p q e false i f = ok.clash j k l t p q e f

-- a connection stands on the lane from now on, and is told so
pub stand_seats : (c lane now : ℕ) (reply : Reply) (g : List ServerEvent) → (reply.status == 101) ≡ true → Seats (Some lane) None g
    → Seats None None (Says (say.Reply lane reply) ∷ Notes (Socketed c lane now) ∷ g)
stand_seats c lane now reply g up ok = record {
  raised = λ k l p e f. raised k l p (k == c) refl e;
  plain = λ l e. absurd (let z : false ≡ true = e in cc);
  free = λ k l t p e. refl;
  alone = λ j k l p q e f. alone j k l p q (j == c) refl e (k == c) refl f;
  clash = λ j k l t p q e f. clash j k l t p q (j == c) refl e f;
}
  where
    sits : ℕ → Bool → Option ℕ
    sits k b = if b then Some lane else socket_of k (notes g)

    raised : (k l : ℕ) → has_peer k g ≡ true → (b : Bool) → (k == c) ≡ b → sits k b ≡ Some l
        → (((l == lane) && (reply.status == 101)) || is_upgraded l g) ≡ true
    raised k l p true i e =
        ap (λ b. (b && (reply.status == 101)) || is_upgraded l g) (eq-eqb l lane (sym (stands_there lane l e)))
        ∙ ap (λ b. b || is_upgraded l g) up
    raised k l p false i e = or_right ((l == lane) && (reply.status == 101)) (is_upgraded l g) (ok.raised k l p e refl)

    -- none stood there
    nobody : (k l : ℕ) → has_peer k g ≡ true → socket_of k (notes g) ≡ Some l → lane ≡ l → ⊥
    nobody k l p e same = absurd (let z : true ≡ false = sym (ok.raised k l p e refl) ∙ ok.plain l (eq-eqb l lane (sym same)) in cc)

    alone : (j k l : ℕ) → has_peer j g ≡ true → has_peer k g ≡ true → (b : Bool) → (j == c) ≡ b → sits j b ≡ Some l
        → (d : Bool) → (k == c) ≡ d → sits k d ≡ Some l → j ≡ k
    alone j k l p q true a e true b f = eqb-true j c a ∙ sym (eqb-true k c b)
    alone j k l p q true a e false b f = absurd (nobody k l q f (stands_there lane l e))
    alone j k l p q false a e true b f = absurd (nobody j l p e (stands_there lane l f))
    alone j k l p q false a e false b f = ok.alone j k l p q e f

    clash : (j k l t : ℕ) → has_peer j g ≡ true → has_peer k g ≡ true → (b : Bool) → (j == c) ≡ b → sits j b ≡ Some l
        → poll_of k (notes g) ≡ Some (l, t) → ⊥
    clash j k l t p q true i e f =
        absurd (let z : true ≡ false = sym (eq-eqb l lane (sym (stands_there lane l e))) ∙ ok.free k l t q f in cc)
    clash j k l t p q false i e f = ok.clash j k l t p q e f
