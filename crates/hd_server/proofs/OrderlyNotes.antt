-- What one more note changes of a life, where no moment has come unnoted.
use Rattle.std.proofs.Common.{refl, ap, subst, sym, ◌∙◌, ◌≡◌, ℕ, zero, suc, ◌+◌, ◌<◌, ◌≤◌, Bool, true, false, List, [], ◌∷◌, ◌++◌, Option, Some, None, arith, filter, if◌then◌else◌, inl, inr}
use Rattle.std.specs.Prelude.{◌⊎◌, ◌==◌, not, is_some, option_map, unwrap_or, ◌&&◌, ◌||◌}
use Rattle.std.proofs.lemmas.Bool.{eqb-true, eq-eqb, lt-leb, or_left, or_right, cases_eq}
use Rattle.hd_delivery.specs.Histories.{is_this, first_of}
use Rattle.hd_server.specs.declared.vocabulary.Life.{Life}
use Rattle.hd_server.specs.declared.vocabulary.Life.TheVariants.{Unknown, Fresh, Socket, Lost, Polling, Ending}
use Rattle.hd_server.specs.Numbers.{lives_for}
use Rattle.hd_server.specs.Lives.{ConnectionEvent, Negotiated, Opened, Socketed, Polled, Answered, LaneLost, Ended, Expired, Removed, AreInOrder, made, negotiated_at, is_opened, socket_of, lost_at, poll_of, poll_ended, ended_at, is_removed, is_known, is_past, past, standing, since, when, deadline, life_of, overdue, numbers_to}
use Rattle.hd_server.proofs.Flushing.{is_in}

-- ---- a life by what it is read off

abbrev stands_by : Bool → Option ℕ → Option ℕ → Option ℕ → Option (ℕ × ℕ) → Option ℕ → Bool → Option ℕ → Life
stands_by gone ended socket lost poll reply opened token = unwrap_or
    (first_of (when gone Unknown)
    (first_of (when (is_some ended) Ending)
    (first_of (option_map Socket socket)
    (first_of (when (is_some lost) Lost)
    (first_of (when (is_some poll || is_some reply) Polling)
    (when (opened || is_some token) Fresh)))))) Unknown

abbrev since_by : Life → Option ℕ → Option ℕ → Option ℕ → Option ℕ → Option ℕ
since_by Unknown ended lost reply token = None
since_by Fresh ended lost reply token = token
since_by (Socket lane) ended lost reply token = None
since_by Lost ended lost reply token = lost
since_by Polling ended lost reply token = reply
since_by Ending ended lost reply token = ended

abbrev ends_by : Bool → Option ℕ → Option ℕ → Option ℕ → Option (ℕ × ℕ) → Option ℕ → Bool → Option ℕ → Option ℕ
ends_by gone ended socket lost poll reply opened token =
    option_map (λ moment. moment + lives_for) (since_by (stands_by gone ended socket lost poll reply opened token) ended lost reply token)

since_is : (c : ℕ) (h : List ConnectionEvent) (l : Life) → since c l h ≡ since_by l (ended_at c h) (lost_at c h) (poll_ended c h) (negotiated_at c h)
since_is c h Unknown = refl
since_is c h Fresh = refl
since_is c h (Socket lane) = refl
since_is c h Lost = refl
since_is c h Polling = refl
since_is c h Ending = refl

abbrev deadline_by : ℕ → List ConnectionEvent → Option ℕ
deadline_by c h = ends_by (is_removed c h) (ended_at c h) (socket_of c h) (lost_at c h) (poll_of c h) (poll_ended c h) (is_opened c h) (negotiated_at c h)

deadline_is : (c : ℕ) (h : List ConnectionEvent) → deadline c h ≡ deadline_by c h
deadline_is c h = ap (λ o. option_map (λ moment. moment + lives_for) o) (since_is c h (standing c h))

-- ---- notes of a connection itself

module _ (now : ℕ) where
  abbrev IsYoung : Option ℕ → Type 0
  IsYoung o = is_past now o ≡ false

  young : IsYoung (Some (now + lives_for))
  young = lt-leb (now + lives_for) now (omega arith)

  socketed : (gone : Bool) (ended socket lost : Option ℕ) (poll : Option (ℕ × ℕ)) (reply : Option ℕ) (opened : Bool) (token : Option ℕ) (lane : ℕ)
      → IsYoung (ends_by gone ended socket lost poll reply opened token) → IsYoung (ends_by gone ended (Some lane) None poll reply opened token)
  socketed true ended socket lost poll reply opened token lane u = refl
  socketed false (Some m) socket lost poll reply opened token lane u = u
  socketed false None socket lost poll reply opened token lane u = refl

  polled : (gone : Bool) (ended socket lost : Option ℕ) (poll : Option (ℕ × ℕ)) (reply : Option ℕ) (opened : Bool) (token : Option ℕ) (lane : ℕ)
      → IsYoung (ends_by gone ended socket lost poll reply opened token)
      → IsYoung (ends_by gone ended socket lost (Some (lane, now)) None opened token)
  polled true ended socket lost poll reply opened token lane u = refl
  polled false (Some m) socket lost poll reply opened token lane u = u
  polled false None (Some l) lost poll reply opened token lane u = refl
  polled false None None (Some m) poll reply opened token lane u = u
  polled false None None None poll reply opened token lane u = refl

  answered : (hit gone : Bool) (ended socket lost : Option ℕ) (poll : Option (ℕ × ℕ)) (reply : Option ℕ) (opened : Bool) (token : Option ℕ)
      → IsYoung (ends_by gone ended socket lost poll reply opened token)
      → IsYoung (ends_by gone ended socket lost (if hit then None else poll) (if hit then Some now else reply) opened token)
  answered false gone ended socket lost poll reply opened token u = u
  answered true true ended socket lost poll reply opened token u = refl
  answered true false (Some m) socket lost poll reply opened token u = u
  answered true false None (Some l) lost poll reply opened token u = refl
  answered true false None None (Some m) poll reply opened token u = u
  answered true false None None None poll reply opened token u = young

  lane_lost : (off hit gone : Bool) (ended socket lost : Option ℕ) (poll : Option (ℕ × ℕ)) (reply : Option ℕ) (opened : Bool) (token : Option ℕ)
      → IsYoung (ends_by gone ended socket lost poll reply opened token)
      → IsYoung (ends_by gone ended (if off then None else socket) (if off then Some now else lost)
      (if hit then None else poll) (if hit then Some now else reply) opened token)
  lane_lost false hit gone ended socket lost poll reply opened token u = answered hit gone ended socket lost poll reply opened token u
  lane_lost true hit true ended socket lost poll reply opened token u = refl
  lane_lost true hit false (Some m) socket lost poll reply opened token u = u
  lane_lost true hit false None socket lost poll reply opened token u = young

  ends : (gone : Bool) (ended socket lost : Option ℕ) (poll : Option (ℕ × ℕ)) (reply : Option ℕ) (opened : Bool) (token : Option ℕ)
      → IsYoung (ends_by gone ended socket lost poll reply opened token)
      → IsYoung (ends_by gone (if not (is_some ended) then Some now else ended) socket lost poll reply opened token)
  ends true ended socket lost poll reply opened token u = refl
  ends false (Some m) socket lost poll reply opened token u = u
  ends false None socket lost poll reply opened token u = young

  made_token : (gone : Bool) (ended socket lost : Option ℕ) (poll : Option (ℕ × ℕ)) (reply : Option ℕ) (opened : Bool) (token : Option ℕ)
      → IsYoung (ends_by gone ended socket lost poll reply opened token)
      → IsYoung (ends_by gone ended socket lost poll reply opened (Some now))
  made_token true ended socket lost poll reply opened token u = refl
  made_token false (Some m) socket lost poll reply opened token u = u
  made_token false None (Some l) lost poll reply opened token u = refl
  made_token false None None (Some m) poll reply opened token u = u
  made_token false None None None (Some p) reply opened token u = u
  made_token false None None None None (Some m) opened token u = u
  made_token false None None None None None true token u = young
  made_token false None None None None None false token u = young

  opens : (gone : Bool) (ended socket lost : Option ℕ) (poll : Option (ℕ × ℕ)) (reply : Option ℕ) (opened : Bool) (token : Option ℕ)
      → IsYoung (ends_by gone ended socket lost poll reply opened token)
      → IsYoung (ends_by gone ended socket lost poll reply true token)
  opens true ended socket lost poll reply opened token u = refl
  opens false (Some m) socket lost poll reply opened token u = u
  opens false None (Some l) lost poll reply opened token u = refl
  opens false None None (Some m) poll reply opened token u = u
  opens false None None None (Some p) reply opened token u = u
  opens false None None None None (Some m) opened token u = u
  opens false None None None None None opened None u = refl
  opens false None None None None None true (Some m) u = u
  opens false None None None None None false (Some m) u = u

-- of which connection a note is
abbrev pub subject : ConnectionEvent → ℕ
subject (Negotiated c token reconnect now) = c
subject (Opened c now) = c
subject (Socketed c lane now) = c
subject (Polled c lane now) = c
subject (Answered c lane now) = c
subject (LaneLost c lane now) = c
subject (Ended c now) = c
subject (Expired c now) = c
subject (Removed c) = c

-- a note of this moment, but that a moment has come
abbrev pub IsOf : ℕ → ConnectionEvent → Type 0
IsOf now (Negotiated c token reconnect m) = m ≡ now
IsOf now (Opened c m) = m ≡ now
IsOf now (Socketed c lane m) = m ≡ now
IsOf now (Polled c lane m) = m ≡ now
IsOf now (Answered c lane m) = m ≡ now
IsOf now (LaneLost c lane m) = m ≡ now
IsOf now (Ended c m) = m ≡ now
IsOf now (Expired c m) = ⊥
IsOf now (Removed c) = Unit {0}

-- nothing is past yet
abbrev pub NonePast : ℕ → List ConnectionEvent → Type 0
NonePast now h = (c : ℕ) → is_past now (deadline c h) ≡ false

module _ (now c : ℕ) (h : List ConnectionEvent) (u : is_past now (deadline c h) ≡ false) where
  before : is_past now (deadline_by c h) ≡ false
  before = ap (is_past now) (sym (deadline_is c h)) ∙ u

  of_socket : (lane : ℕ) → is_past now (deadline c (Socketed c lane now ∷ h)) ≡ false
  of_socket lane = ap (is_past now) (deadline_is c (Socketed c lane now ∷ h)) ∙ rw (eq-eqb c c refl) (socketed now _ _ _ _ _ _ _ _ lane before)

  of_poll : (lane : ℕ) → is_past now (deadline c (Polled c lane now ∷ h)) ≡ false
  of_poll lane = ap (is_past now) (deadline_is c (Polled c lane now ∷ h)) ∙ rw (eq-eqb c c refl) (polled now _ _ _ _ _ _ _ _ lane before)

  of_answer : (lane : ℕ) → is_past now (deadline c (Answered c lane now ∷ h)) ≡ false
  of_answer lane =
      ap (is_past now) (deadline_is c (Answered c lane now ∷ h))
      ∙ rw (eq-eqb c c refl)
      (answered now (is_this lane (option_map (λ p. p.0) (poll_of c h))) _ _ _ _ _ _ _ _ before)

  of_loss : (lane : ℕ) → is_past now (deadline c (LaneLost c lane now ∷ h)) ≡ false
  of_loss lane =
      ap (is_past now) (deadline_is c (LaneLost c lane now ∷ h))
      ∙ rw (eq-eqb c c refl)
      (lane_lost now (is_this lane (socket_of c h)) (is_this lane (option_map (λ p. p.0) (poll_of c h))) _ _ _ _ _ _ _ _ before)

  of_end : is_past now (deadline c (Ended c now ∷ h)) ≡ false
  of_end = ap (is_past now) (deadline_is c (Ended c now ∷ h)) ∙ rw (eq-eqb c c refl) (ends now _ _ _ _ _ _ _ _ before)

  of_leave : is_past now (deadline c (Removed c ∷ h)) ≡ false
  of_leave = rw (eq-eqb c c refl) refl

  of_token : (token : List ℕ) (reconnect : Bool) → is_past now (deadline c (Negotiated c token reconnect now ∷ h)) ≡ false
  of_token token reconnect =
      ap (is_past now) (deadline_is c (Negotiated c token reconnect now ∷ h))
      ∙ rw (eq-eqb c c refl)
      (made_token now (is_removed c h) (ended_at c h) (socket_of c h) (lost_at c h) (poll_of c h) (poll_ended c h) (is_opened c h) (negotiated_at c h)
      before)

  of_opening : is_past now (deadline c (Opened c now ∷ h)) ≡ false
  of_opening =
      ap (is_past now) (deadline_is c (Opened c now ∷ h))
      ∙ rw (eq-eqb c c refl)
      (opens now (is_removed c h) (ended_at c h) (socket_of c h) (lost_at c h) (poll_of c h) (poll_ended c h) (is_opened c h) (negotiated_at c h)
      before)

-- ---- notes of another

record Untouched (k : ℕ) (g h : List ConnectionEvent) : Type 0 where
  same_end : deadline_by k g ≡ deadline_by k h
  same_life : standing k g ≡ standing k h
  same_leave : is_removed k g ≡ is_removed k h

untouched : (k : ℕ) (n : ConnectionEvent) (h : List ConnectionEvent) → (k == subject n) ≡ false → Untouched k (n ∷ h) h
untouched k (Negotiated c token reconnect now) h e = record { same_end = rw e refl; same_life = rw e refl; same_leave = refl }
untouched k (Opened c now) h e = record { same_end = rw e refl; same_life = rw e refl; same_leave = refl }
untouched k (Socketed c lane now) h e = record { same_end = rw e refl; same_life = rw e refl; same_leave = refl }
untouched k (Polled c lane now) h e = record { same_end = rw e refl; same_life = rw e refl; same_leave = refl }
untouched k (Answered c lane now) h e = record { same_end = rw e refl; same_life = rw e refl; same_leave = refl }
untouched k (LaneLost c lane now) h e = record { same_end = rw e refl; same_life = rw e refl; same_leave = refl }
untouched k (Ended c now) h e = record { same_end = rw e refl; same_life = rw e refl; same_leave = refl }
untouched k (Expired c now) h e = record { same_end = rw e refl; same_life = rw e refl; same_leave = rw e refl }
untouched k (Removed c) h e = record { same_end = rw e refl; same_life = rw e refl; same_leave = rw e refl }

pub another_stands : (k : ℕ) (n : ConnectionEvent) (h : List ConnectionEvent) → (k == subject n) ≡ false → standing k (n ∷ h) ≡ standing k h
another_stands k n h e = (untouched k n h e).same_life

pub another_stays : (k : ℕ) (n : ConnectionEvent) (h : List ConnectionEvent) → (k == subject n) ≡ false → is_removed k (n ∷ h) ≡ is_removed k h
another_stays k n h e = (untouched k n h e).same_leave

another_ends : (k : ℕ) (n : ConnectionEvent) (h : List ConnectionEvent) → (k == subject n) ≡ false → deadline k (n ∷ h) ≡ deadline k h
another_ends k n h e = deadline_is k (n ∷ h) ∙ (untouched k n h e).same_end ∙ sym (deadline_is k h)

own_young : (now : ℕ) (n : ConnectionEvent) (h : List ConnectionEvent) → IsOf now n → is_past now (deadline (subject n) h) ≡ false
    → is_past now (deadline (subject n) (n ∷ h)) ≡ false
own_young now (Negotiated c token reconnect m) h e u =
    subst (λ x. is_past now (deadline c (Negotiated c token reconnect x ∷ h)) ≡ false) (sym e) (of_token now c h u token reconnect)
own_young now (Opened c m) h e u = subst (λ x. is_past now (deadline c (Opened c x ∷ h)) ≡ false) (sym e) (of_opening now c h u)
own_young now (Socketed c lane m) h e u = subst (λ x. is_past now (deadline c (Socketed c lane x ∷ h)) ≡ false) (sym e) (of_socket now c h u lane)
own_young now (Polled c lane m) h e u = subst (λ x. is_past now (deadline c (Polled c lane x ∷ h)) ≡ false) (sym e) (of_poll now c h u lane)
own_young now (Answered c lane m) h e u = subst (λ x. is_past now (deadline c (Answered c lane x ∷ h)) ≡ false) (sym e) (of_answer now c h u lane)
own_young now (LaneLost c lane m) h e u = subst (λ x. is_past now (deadline c (LaneLost c lane x ∷ h)) ≡ false) (sym e) (of_loss now c h u lane)
own_young now (Ended c m) h e u = subst (λ x. is_past now (deadline c (Ended c x ∷ h)) ≡ false) (sym e) (of_end now c h u)
own_young now (Expired c m) h e u = absurd e
own_young now (Removed c) h e u = of_leave now c h u

pub none_past_still : (now : ℕ) (n : ConnectionEvent) (h : List ConnectionEvent) → IsOf now n → NonePast now h → NonePast now (n ∷ h)
none_past_still now n h e none k = by (k == subject n) refl where
  by : (b : Bool) → (k == subject n) ≡ b → is_past now (deadline k (n ∷ h)) ≡ false
  by true f = subst (λ x. is_past now (deadline x (n ∷ h)) ≡ false) (sym (eqb-true k (subject n) f)) (own_young now n h e (none (subject n)))
  by false f = ap (is_past now) (another_ends k n h f) ∙ none k

-- ---- who is known stays known

known_socketed : (gone : Bool) (ended socket lost : Option ℕ) (poll : Option (ℕ × ℕ)) (reply : Option ℕ) (opened : Bool) (token : Option ℕ) (lane : ℕ)
    → is_known (stands_by gone ended socket lost poll reply opened token) ≡ true
    → is_known (stands_by gone ended (Some lane) None poll reply opened token) ≡ true
known_socketed true ended socket lost poll reply opened token lane u = u
known_socketed false (Some m) socket lost poll reply opened token lane u = refl
known_socketed false None socket lost poll reply opened token lane u = refl

known_polled : (gone : Bool) (ended socket lost : Option ℕ) (poll : Option (ℕ × ℕ)) (reply : Option ℕ) (opened : Bool) (token : Option ℕ) (p : ℕ × ℕ)
    → is_known (stands_by gone ended socket lost poll reply opened token) ≡ true
    → is_known (stands_by gone ended socket lost (Some p) None opened token) ≡ true
known_polled true ended socket lost poll reply opened token p u = u
known_polled false (Some m) socket lost poll reply opened token p u = refl
known_polled false None (Some l) lost poll reply opened token p u = refl
known_polled false None None (Some m) poll reply opened token p u = refl
known_polled false None None None poll reply opened token p u = refl

known_answered : (hit gone : Bool) (ended socket lost : Option ℕ) (poll : Option (ℕ × ℕ)) (reply : Option ℕ) (opened : Bool) (token : Option ℕ) (now : ℕ)
    → is_known (stands_by gone ended socket lost poll reply opened token) ≡ true
    → is_known (stands_by gone ended socket lost (if hit then None else poll) (if hit then Some now else reply) opened token) ≡ true
known_answered false gone ended socket lost poll reply opened token now u = u
known_answered true true ended socket lost poll reply opened token now u = u
known_answered true false (Some m) socket lost poll reply opened token now u = refl
known_answered true false None (Some l) lost poll reply opened token now u = refl
known_answered true false None None (Some m) poll reply opened token now u = refl
known_answered true false None None None poll reply opened token now u = refl

known_lost : (off hit gone : Bool) (ended socket lost : Option ℕ) (poll : Option (ℕ × ℕ)) (reply : Option ℕ) (opened : Bool) (token : Option ℕ) (now : ℕ)
    → is_known (stands_by gone ended socket lost poll reply opened token) ≡ true
    → is_known (stands_by gone ended (if off then None else socket) (if off then Some now else lost)
    (if hit then None else poll) (if hit then Some now else reply) opened token) ≡ true
known_lost false hit gone ended socket lost poll reply opened token now u = known_answered hit gone ended socket lost poll reply opened token now u
known_lost true hit true ended socket lost poll reply opened token now u = u
known_lost true hit false (Some m) socket lost poll reply opened token now u = refl
known_lost true hit false None socket lost poll reply opened token now u = refl

known_ended : (gone : Bool) (ended socket lost : Option ℕ) (poll : Option (ℕ × ℕ)) (reply : Option ℕ) (opened : Bool) (token : Option ℕ) (now : ℕ)
    → is_known (stands_by gone ended socket lost poll reply opened token) ≡ true
    → is_known (stands_by gone (if not (is_some ended) then Some now else ended) socket lost poll reply opened token) ≡ true
known_ended true ended socket lost poll reply opened token now u = u
known_ended false (Some m) socket lost poll reply opened token now u = refl
known_ended false None socket lost poll reply opened token now u = refl

-- one that was not let go is known once it is made
known_made : (ended socket lost : Option ℕ) (poll : Option (ℕ × ℕ)) (reply : Option ℕ) (opened : Bool) (token : Option ℕ)
    → (opened || is_some token) ≡ true → is_known (stands_by false ended socket lost poll reply opened token) ≡ true
known_made (Some m) socket lost poll reply opened token e = refl
known_made None (Some l) lost poll reply opened token e = refl
known_made None None (Some m) poll reply opened token e = refl
known_made None None None (Some p) reply opened token e = refl
known_made None None None None (Some m) opened token e = refl
known_made None None None None None opened token e = rw e refl

known_expired : (gone : Bool) (ended socket lost : Option ℕ) (poll : Option (ℕ × ℕ)) (reply : Option ℕ) (opened : Bool) (token : Option ℕ) (now : ℕ)
    → stands_by gone ended socket lost poll reply opened token ≡ Polling
    → is_known (stands_by (not (((is_some poll || is_some reply) && not (is_some socket || is_some lost)) && not (is_some ended)) || gone)
    (if ((is_some poll || is_some reply) && not (is_some socket || is_some lost)) && not (is_some ended) then Some now else ended)
    socket lost poll reply opened token) ≡ true
known_expired true ended socket lost poll reply opened token now e = absurd (cc)
known_expired false (Some m) socket lost poll reply opened token now e = absurd (cc)
known_expired false None (Some l) lost poll reply opened token now e = absurd (cc)
known_expired false None None (Some m) poll reply opened token now e = absurd (cc)
known_expired false None None None (Some p) reply opened token now e = refl
known_expired false None None None None (Some m) opened token now e = refl
known_expired false None None None None None true token now e = absurd (cc)
known_expired false None None None None None false None now e = absurd (cc)
known_expired false None None None None None false (Some m) now e = absurd (cc)

abbrev pub Known : ℕ → List ConnectionEvent → Type 0
Known c h = is_known (standing c h) ≡ true

module _ (c : ℕ) (h : List ConnectionEvent) where
  pub still_socketed : (lane now : ℕ) → Known c h → Known c (Socketed c lane now ∷ h)
  still_socketed lane now u = rw (eq-eqb c c refl) (known_socketed _ _ _ _ _ _ _ _ lane u)

  pub still_polled : (lane now : ℕ) → Known c h → Known c (Polled c lane now ∷ h)
  still_polled lane now u = rw (eq-eqb c c refl) (known_polled _ _ _ _ _ _ _ _ (lane, now) u)

  pub still_answered : (lane now : ℕ) → Known c h → Known c (Answered c lane now ∷ h)
  still_answered lane now u = rw (eq-eqb c c refl) (known_answered (is_this lane (option_map (λ p. p.0) (poll_of c h))) _ _ _ _ _ _ _ _ now u)

  pub still_lost : (lane now : ℕ) → Known c h → Known c (LaneLost c lane now ∷ h)
  still_lost lane now u =
      rw (eq-eqb c c refl)
      (known_lost (is_this lane (socket_of c h)) (is_this lane (option_map (λ p. p.0) (poll_of c h))) _ _ _ _ _ _ _ _ now u)

  pub still_ended : (now : ℕ) → Known c h → Known c (Ended c now ∷ h)
  still_ended now u = rw (eq-eqb c c refl) (known_ended _ _ _ _ _ _ _ _ now u)

  pub polling_expires : (now : ℕ) → standing c h ≡ Polling → Known c (Expired c now ∷ h)
  polling_expires now e = rw (eq-eqb c c refl) (known_expired _ _ _ _ _ _ _ _ now e)

  pub once_opened : (now : ℕ) → is_removed c h ≡ false → Known c (Opened c now ∷ h)
  once_opened now e =
      rw (e, eq-eqb c c refl)
      (known_made (ended_at c h) (socket_of c h) (lost_at c h) (poll_of c h) (poll_ended c h) true (negotiated_at c h) refl)

  pub once_negotiated : (token : List ℕ) (reconnect : Bool) (now : ℕ) → is_removed c h ≡ false → Known c (Negotiated c token reconnect now ∷ h)
  once_negotiated token reconnect now e =
      rw (e, eq-eqb c c refl)
      (known_made (ended_at c h) (socket_of c h) (lost_at c h) (poll_of c h) (poll_ended c h) (is_opened c h) (Some now) (or_right (is_opened c h) true refl))

-- ---- who is known was made

known_but_past : (l : Life) → is_known (past l) ≡ true → is_known l ≡ true
known_but_past Unknown e = e
known_but_past Fresh e = refl
known_but_past (Socket lane) e = refl
known_but_past Lost e = refl
known_but_past Polling e = refl
known_but_past Ending e = refl

pub known_of_life : (c now : ℕ) (h : List ConnectionEvent) → is_known (life_of c now h) ≡ true → Known c h
known_of_life c now h = by (is_past now (deadline c h)) where
  by : (b : Bool) → is_known (if b then past (standing c h) else standing c h) ≡ true → Known c h
  by true e = known_but_past (standing c h) e
  by false e = e

pub life_of_known : (c now : ℕ) (h : List ConnectionEvent) → NonePast now h → Known c h → is_known (life_of c now h) ≡ true
life_of_known c now h none e = rw (none c) e

pub gone_unknown : (c : ℕ) (h : List ConnectionEvent) → is_removed c h ≡ true → Known c h → ⊥
gone_unknown c h e known = absurd (let z : false ≡ true = rw (← known) (rw e refl) in cc)

first_is_in : (p : ℕ → Bool) (xs : List ℕ) (c : ℕ) (rest : List ℕ) → filter p xs ≡ c ∷ rest → is_in c xs ≡ true
first_is_in p [] c rest e = absurd (cc)
first_is_in p (x ∷ xs) c rest e = by (p x) e (first_is_in p xs c rest) where
  by : (b : Bool) → (if b then x ∷ filter p xs else filter p xs) ≡ c ∷ rest → (filter p xs ≡ c ∷ rest → is_in c xs ≡ true) → is_in c (x ∷ xs) ≡ true
  by true f further = let here : c ≡ x = cc in or_left (c == x) (is_in c xs) (eq-eqb c x here)
  by false f further = or_right (c == x) (is_in c xs) (further f)

either_in : (c : ℕ) (xs : List ℕ) (y : ℕ) → is_in c (xs ++ y ∷ []) ≡ true → (is_in c xs ≡ true) ⊎ (c ≡ y)
either_in c [] y e = inr (by (c == y) refl e) where
  by : (b : Bool) → (c == y) ≡ b → (b || false) ≡ true → c ≡ y
  by true f g = eqb-true c y f
  by false f g = absurd (cc)
either_in c (x ∷ xs) y e = by (c == x) e (either_in c xs y) where
  by : (b : Bool) → (b || is_in c (xs ++ y ∷ [])) ≡ true
      → (is_in c (xs ++ y ∷ []) ≡ true → (is_in c xs ≡ true) ⊎ (c ≡ y)) → ((b || is_in c xs) ≡ true) ⊎ (c ≡ y)
  by true f further = inl refl
  by false f further = further f

pub in_numbers : (n c : ℕ) → is_in c (numbers_to n) ≡ true → (0 < c) × (c ≤ n)
in_numbers zero c e = absurd (cc)
in_numbers (suc n) c e = elim (either_in c (numbers_to n) (suc n) e) [
  | inl before ↦ let was = in_numbers n c before in (was.0, omega (arith, was.1))
  | inr last ↦ (omega (arith, last), omega (arith, last))
]

put_before : (c : ℕ) (xs ys : List ℕ) → is_in c xs ≡ true → is_in c (xs ++ ys) ≡ true
put_before c [] ys e = absurd (cc)
put_before c (x ∷ xs) ys e = by (c == x) e (put_before c xs ys) where
  by : (b : Bool) → (b || is_in c xs) ≡ true → (is_in c xs ≡ true → is_in c (xs ++ ys) ≡ true) → (b || is_in c (xs ++ ys)) ≡ true
  by true f further = refl
  by false f further = further f

put_after : (c : ℕ) (xs ys : List ℕ) → is_in c ys ≡ true → is_in c (xs ++ ys) ≡ true
put_after c [] ys e = e
put_after c (x ∷ xs) ys e = or_right (c == x) (is_in c (xs ++ ys)) (put_after c xs ys e)

among : (n c : ℕ) → 0 < c → c ≤ n → is_in c (numbers_to n) ≡ true
among zero c p e = absurd (omega (arith, p, e))
among (suc n) c p e = elim (cases_eq c (suc n)) [
  | inl same ↦ put_after c (numbers_to n) (suc n ∷ []) (or_left (c == suc n) false (eq-eqb c (suc n) same))
  | inr other ↦ put_before c (numbers_to n) (suc n ∷ []) (among n c p (omega (arith, e, other)))
]

abbrev pub IsWithin : ℕ → List ConnectionEvent → Type 0
IsWithin c h = (0 < c) × (c ≤ made h)

pub first_within : (c now : ℕ) (rest : List ℕ) (h : List ConnectionEvent) → overdue now h ≡ c ∷ rest → IsWithin c h
first_within c now rest h e = in_numbers (made h) c (first_is_in (λ k. is_past now (deadline k h)) (numbers_to (made h)) c rest e)

-- of one note, where the note before it is of one that was made
own_or : (k : ℕ) (n : ConnectionEvent) (h : List ConnectionEvent) → made h ≤ made (n ∷ h) → IsWithin (subject n) (n ∷ h) → (Known k h → IsWithin k h)
    → Known k (n ∷ h) → IsWithin k (n ∷ h)
own_or k n h more own further known = by (k == subject n) refl where
  by : (b : Bool) → (k == subject n) ≡ b → IsWithin k (n ∷ h)
  by true e = subst (λ x. IsWithin x (n ∷ h)) (sym (eqb-true k (subject n) e)) own
  by false e = let was = further (ap is_known (sym (another_stands k n h e)) ∙ known) in (was.0, omega (arith, was.1, more))

pub within : (most : ℕ) (h : List ConnectionEvent) → AreInOrder most h → (k : ℕ) → Known k h → IsWithin k h
within most [] order k known = absurd (cc)
within most (Negotiated c token reconnect m ∷ h) (order, later, may) k known =
    own_or k (Negotiated c token reconnect m) h (omega arith) (let new = may.next in (omega (arith, new), omega (arith, new))) (within most h order k) known
within most (Opened c m ∷ h) (order, later, may) k known =
    own_or k (Opened c m) h (omega arith) (let new = may.next in (omega (arith, new), omega (arith, new))) (within most h order k) known
within most (Socketed c lane m ∷ h) (order, later, may) k known =
    own_or k (Socketed c lane m) h (omega arith) (within most h order c (known_of_life c m h may)) (within most h order k) known
within most (Polled c lane m ∷ h) (order, later, may) k known =
    own_or k (Polled c lane m) h (omega arith) (within most h order c (known_of_life c m h may)) (within most h order k) known
within most (Answered c lane m ∷ h) (order, later, may) k known =
    own_or k (Answered c lane m) h (omega arith) (within most h order c (known_of_life c m h may)) (within most h order k) known
within most (LaneLost c lane m ∷ h) (order, later, may) k known =
    own_or k (LaneLost c lane m) h (omega arith) (within most h order c (known_of_life c m h may)) (within most h order k) known
within most (Ended c m ∷ h) (order, later, may) k known =
    own_or k (Ended c m) h (omega arith) (within most h order c (known_of_life c m h may)) (within most h order k) known
within most (Expired c m ∷ h) (order, later, (rest, may)) k known =
    own_or k (Expired c m) h (omega arith) (first_within c m rest h may) (within most h order k) known
within most (Removed c ∷ h) (order, later, may) k known = by (k == c) refl (within most h order k) where
  by : (b : Bool) → (k == c) ≡ b → (Known k h → IsWithin k h) → IsWithin k h
  by true e further = absurd (gone_unknown k (Removed c ∷ h) (or_left (k == c) (is_removed k h) e) known)
  by false e further = further (ap is_known (sym (another_stands k (Removed c) h e)) ∙ known)

unknown_is : (l : Life) → is_known l ≡ false → l ≡ Unknown
unknown_is Unknown e = refl
unknown_is Fresh e = absurd (cc)
unknown_is (Socket lane) e = absurd (cc)
unknown_is Lost e = absurd (cc)
unknown_is Polling e = absurd (cc)
unknown_is Ending e = absurd (cc)

no_more : (p : ℕ → Bool) (xs : List ℕ) → filter p xs ≡ [] → (c : ℕ) → is_in c xs ≡ true → p c ≡ false
no_more p [] none c e = absurd (cc)
no_more p (x ∷ xs) none c e = by (p x) refl none (c == x) refl e (no_more p xs) where
  by : (b : Bool) → p x ≡ b → (if b then x ∷ filter p xs else filter p xs) ≡ [] → (a : Bool) → (c == x) ≡ a → (a || is_in c xs) ≡ true
      → (filter p xs ≡ [] → (c : ℕ) → is_in c xs ≡ true → p c ≡ false) → p c ≡ false
  by true f g a i j further = absurd (cc)
  by false f g true i j further = ap p (eqb-true c x i) ∙ f
  by false f g false i j further = further g c j

-- where no moment is left to come, none is past
pub none_past : (most now : ℕ) (h : List ConnectionEvent) → AreInOrder most h → overdue now h ≡ [] → NonePast now h
none_past most now h order none c = by (is_known (standing c h)) refl where
  by : (b : Bool) → is_known (standing c h) ≡ b → is_past now (deadline c h) ≡ false
  by true e =
      let was = within most h order c e in
      no_more (λ k. is_past now (deadline k h)) (numbers_to (made h)) none c (among (made h) c was.0 was.1)
  by false e = ap (λ l. is_past now (option_map (λ moment. moment + lives_for) (since c l h))) (unknown_is (standing c h) e)
