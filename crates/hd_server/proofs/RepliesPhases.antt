-- What holds of each connection by itself holds after moments that come and after ticks.
use Rattle.std.proofs.Common.{refl, ap, subst, sym, ◌∙◌, ◌≡◌, ℕ, ◌≤◌, Bool, true, false, List, [], ◌∷◌, ◌++◌, Option, Some, None, arith, filter, if◌then◌else◌}
use Rattle.std.specs.Prelude.{◌==◌, not, is_some, unwrap_or, option_map, ◌&&◌, ◌||◌}
use Rattle.std.specs.List.{flat_map}
use Rattle.std.proofs.lemmas.Bool.{eqb-true, eq-eqb, or_left, or_right}
use Rattle.hd_delivery.specs.declared.vocabulary.Reason.{Reason}
use Rattle.hd_delivery.specs.declared.vocabulary.Reason.TheVariants as reason
use Rattle.hd_delivery.specs.Histories.{Closed, Ticked, Silenced, first_of, is_silence, present_link}
use Rattle.hd_delivery.specs.Bytes.{Does as Step_of}
use Rattle.hd_calls.specs.Peers.{PeerEvent, Plain, Settings}
use Rattle.hd_server.specs.declared.vocabulary.Life.{Life}
use Rattle.hd_server.specs.declared.vocabulary.Life.TheVariants.{Unknown, Fresh, Socket, Lost, Polling, Ending}
use Rattle.hd_server.specs.declared.vocabulary.Said.TheVariants as say
use Rattle.hd_server.specs.Lives.{ConnectionEvent, LaneLost, Expired, Removed, ended_at, is_known, is_removed, is_opened, is_polling, lost_at, made, negotiated_at, socket_of, standing, when}
use Rattle.hd_server.specs.Machine.{Does, Goes, connections, settings_of, has_gone, is_open_at, Connects}
use Rattle.hd_server.specs.Doings.{ServerEvent, Notes, Works, Says, notes, work, peer, history, config_of, has_peer, has_closed, may_resume, is_up}
use Rattle.hd_server.specs.Plans.{onto, step, closing, dropping, removing_conn, expiring, losing, shutting}
use Rattle.hd_server.specs.Serves.{silenced, ticking, ticks}
use Rattle.hd_server.specs.Parts.{Each, IsExpiry, IsTick}
use Rattle.hd_server.proofs.PartsOfTurns.{expiring_is, ticking_is}
use Rattle.hd_server.proofs.Each.{either_way, each_so, each_shutting, each_closing}
use Rattle.hd_server.proofs.Few.{standing_same}
use Rattle.hd_server.proofs.Flushing.{is_in, AreApart}
use Rattle.hd_server.proofs.OrderlyNotes.{Known, gone_unknown}
use Rattle.hd_server.proofs.OrderlyDoings.{IsQuiet, in_turn}
use Rattle.hd_server.proofs.OrderlyEach.{is_other, passes}
use Rattle.hd_server.proofs.RepliesOwn.{Alike, alike_same, alike_then, IsOne, others_alike, quiet_onto, peer_alike, own_alike, Own, Shut, own_unknown, own_expired, own_lost}

-- ---- doings of one

quiet_is_one : (c : ℕ) (d : ServerEvent) → IsQuiet d → IsOne c d
quiet_is_one c (Notes note) e = absurd e
quiet_is_one c (Works (Connects k t user)) e = absurd e
quiet_is_one c (Works (Goes k)) e = absurd e
quiet_is_one c d e = e

pub quiet_one : (c : ℕ) (ds : List ServerEvent) → Each IsQuiet ds → Each (IsOne c) ds
quiet_one c ds a = each_so IsQuiet (IsOne c) (quiet_is_one c) ds a

expiry_is_one : (c : ℕ) (d : ServerEvent) → IsExpiry c d → IsOne c d
expiry_is_one c (Works (Does k m)) e = tt
expiry_is_one c (Works (Goes k)) e = e
expiry_is_one c (Notes (Expired k now)) e = e
expiry_is_one c d e = absurd e

tick_is_one : (c : ℕ) (d : ServerEvent) → IsTick c d → IsOne c d
tick_is_one c (Works (Does k m)) e = tt
tick_is_one c (Works (Goes k)) e = e
tick_is_one c (Notes (LaneLost k lane now)) e = e
tick_is_one c (Notes (Removed k)) e = e
tick_is_one c (Says (say.Shut lane)) e = tt
tick_is_one c d e = absurd e

pub expiring_one : (now : ℕ) (life : Life) (c : ℕ) (h : List ServerEvent) → Each (IsOne c) (expiring now life c h)
expiring_one now life c h = each_so (IsExpiry c) (IsOne c) (expiry_is_one c) (expiring now life c h) (expiring_is now life c h)

ticking_one : (now c : ℕ) (h : List ServerEvent) → Each (IsOne c) (ticking now c h)
ticking_one now c h = each_so (IsTick c) (IsOne c) (tick_is_one c) (ticking now c h) (ticking_is now c h)

-- ---- one after the other

module _ (P : ℕ → List ServerEvent → Type 0) (move : (k : ℕ) (g x : List ServerEvent) → Alike k g x → P k g → P k x) (f : ℕ → List ServerEvent) (h : List ServerEvent)
    (one : (c : ℕ) → Each (IsOne c) (f c)) where
  pub each_own : (cs : List ℕ) (g : List ServerEvent) → AreApart cs
      → ((c : ℕ) (x : List ServerEvent) → is_in c cs ≡ true → Alike c h x → P c x → P c (onto (f c) x))
      → ((k : ℕ) → is_in k cs ≡ true → Alike k h g) → ((k : ℕ) → P k g) → (k : ℕ) → P k (onto (flat_map f cs) g)
  each_own [] g apart own alike all k = all k
  each_own (c ∷ cs) g apart own alike all k =
      let x : List ServerEvent = onto (f c) g in
      in_turn (P k) (f c) (flat_map f cs) g
      (each_own cs x apart.1 (λ j y i. own j y (or_right (j == c) (is_in j cs) i))
      (λ j i. alike_then j h g x (alike j (or_right (j == c) (is_in j cs) i)) (others_alike c j (f c) g (is_other c j cs apart.0 i) (one c)))
      (λ j. by j (j == c) refl) k)
    where
      by : (j : ℕ) (b : Bool) → (j == c) ≡ b → P j (onto (f c) g)
      by j false e = move j g (onto (f c) g) (others_alike c j (f c) g e (one c)) (all j)
      by j true e =
          let here = or_left (c == c) (is_in c cs) (eq-eqb c c refl) in
          subst (λ i. P i (onto (f c) g)) (sym (eqb-true j c e)) (own c g here (alike c here) (all c))

-- ---- one that is let go

pub removed_own : (c : ℕ) (h g : List ServerEvent) → Own c g → c ≤ made (notes g) → Own c (onto (removing_conn c h) g)
removed_own c h g o old =
    either_way (λ ds. Own c (onto (ds ++ Notes (Removed c) ∷ []) g)) (has_peer c h) (Works (Goes c) ∷ []) []
    (own_unknown c g o (Notes (Removed c) ∷ Works (Goes c) ∷ g) gone old) (own_unknown c g o (Notes (Removed c) ∷ g) gone old)
  where
    gone : Known c (Removed c ∷ notes g) → ⊥
    gone u = gone_unknown c (Removed c ∷ notes g) (or_left (c == c) (is_removed c (notes g)) (eq-eqb c c refl)) u

-- ---- what a life tells

abbrev stands : Bool → Option ℕ → Option ℕ → Option ℕ → Bool → Bool → Life
stands gone ended socket lost polls fresh = unwrap_or
    (first_of (when gone Unknown)
    (first_of (when (is_some ended) Ending)
    (first_of (option_map Socket socket)
    (first_of (when (is_some lost) Lost)
    (first_of (when polls Polling)
    (when fresh Fresh)))))) Unknown

polls_by : (gone : Bool) (ended socket lost : Option ℕ) (polls fresh : Bool) → stands gone ended socket lost polls fresh ≡ Polling
    → (polls ≡ true) × (socket ≡ None) × (lost ≡ None) × (ended ≡ None)
polls_by true ended socket lost polls fresh e = absurd (cc)
polls_by false (Some m) socket lost polls fresh e = absurd (cc)
polls_by false None (Some l) lost polls fresh e = absurd (cc)
polls_by false None None (Some m) polls fresh e = absurd (cc)
polls_by false None None None true fresh e = (refl, refl, refl, refl)
polls_by false None None None false true e = absurd (cc)
polls_by false None None None false false e = absurd (cc)

fresh_by : (gone : Bool) (ended socket lost : Option ℕ) (polls fresh : Bool) → stands gone ended socket lost polls fresh ≡ Fresh
    → (polls ≡ false) × (socket ≡ None) × (lost ≡ None)
fresh_by true ended socket lost polls fresh e = absurd (cc)
fresh_by false (Some m) socket lost polls fresh e = absurd (cc)
fresh_by false None (Some l) lost polls fresh e = absurd (cc)
fresh_by false None None (Some m) polls fresh e = absurd (cc)
fresh_by false None None None true fresh e = absurd (cc)
fresh_by false None None None false fresh e = (refl, refl, refl)

ending_by : (gone : Bool) (ended socket lost : Option ℕ) (polls fresh : Bool) → stands gone ended socket lost polls fresh ≡ Ending → is_some ended ≡ true
ending_by true ended socket lost polls fresh e = absurd (cc)
ending_by false (Some m) socket lost polls fresh e = refl
ending_by false None (Some l) lost polls fresh e = absurd (cc)
ending_by false None None (Some m) polls fresh e = absurd (cc)
ending_by false None None None true fresh e = absurd (cc)
ending_by false None None None false true e = absurd (cc)
ending_by false None None None false false e = absurd (cc)

goes_by : (polls : Bool) (socket lost ended : Option ℕ) (gone fresh : Bool) → (stands gone ended socket lost polls fresh ≡ Polling → ⊥)
    → (not ((polls && not (is_some socket || is_some lost)) && not (is_some ended)) || gone) ≡ true
goes_by false socket lost ended gone fresh f = refl
goes_by true (Some l) lost ended gone fresh f = refl
goes_by true None (Some m) ended gone fresh f = refl
goes_by true None None (Some m) gone fresh f = refl
goes_by true None None None true fresh f = refl
goes_by true None None None false fresh f = absurd (f refl)

module _ (c : ℕ) (n : List ConnectionEvent) where
  pub polls_of : standing c n ≡ Polling → (is_polling c n ≡ true) × (socket_of c n ≡ None) × (lost_at c n ≡ None) × (ended_at c n ≡ None)
  polls_of e = polls_by (is_removed c n) (ended_at c n) (socket_of c n) (lost_at c n) (is_polling c n) (is_opened c n || is_some (negotiated_at c n)) e

  pub fresh_of : standing c n ≡ Fresh → (is_polling c n ≡ false) × (socket_of c n ≡ None) × (lost_at c n ≡ None)
  fresh_of e = fresh_by (is_removed c n) (ended_at c n) (socket_of c n) (lost_at c n) (is_polling c n) (is_opened c n || is_some (negotiated_at c n)) e

  pub ending_of : standing c n ≡ Ending → is_some (ended_at c n) ≡ true
  ending_of e = ending_by (is_removed c n) (ended_at c n) (socket_of c n) (lost_at c n) (is_polling c n) (is_opened c n || is_some (negotiated_at c n)) e

  pub expired_gone : (now : ℕ) → (standing c n ≡ Polling → ⊥) → is_removed c (Expired c now ∷ n) ≡ true
  expired_gone now f =
      rw (eq-eqb c c refl)
      (goes_by (is_polling c n) (socket_of c n) (lost_at c n) (ended_at c n) (is_removed c n) (is_opened c n || is_some (negotiated_at c n)) f)

-- ---- moments that come

closes_own : (o : Option Settings) (m : List PeerEvent) (why : Reason) → is_some o ≡ true → Shut o (Plain (Step_of (Closed why false)) ∷ m)
closes_own None m why e = absurd (cc)
closes_own (Some t) m why e = refl

shut_of : (o : Option Settings) (m : List PeerEvent) (gone : Bool) → (is_some o && not gone) ≡ true → (not gone && is_open_at o m) ≡ false → Shut o m
shut_of None m gone e f = absurd (let z : false ≡ true = e in cc)
shut_of (Some t) m true e f = absurd (let z : false ≡ true = e in cc)
shut_of (Some t) m false e f = not_false _ f where
  not_false : (b : Bool) → not b ≡ false → b ≡ true
  not_false true i = refl
  not_false false i = absurd (let z : true ≡ false = i in cc)

closed_then : (c : ℕ) (why : Reason) (h g : List ServerEvent) → has_peer c h ≡ true → Alike c h g → has_closed c (onto (closing c why h) g) ≡ true
closed_then c why h g there a = by (is_up c h) refl where
  settings_there : is_some (settings_of c (work g)) ≡ true
  settings_there = ap is_some a.same_settings ∙ some_of (settings_of c (work h)) (has_gone c (work h)) there where
    some_of : (o : Option Settings) (b : Bool) → (is_some o && not b) ≡ true → is_some o ≡ true
    some_of None b e = e
    some_of (Some t) b e = refl

  by : (b : Bool) → is_up c h ≡ b → has_closed c (onto (if b then step c (Closed why false) ∷ [] else []) g) ≡ true
  by true e =
      subst (λ b. Shut (settings_of c (work g)) (if b then Plain (Step_of (Closed why false)) ∷ peer c g else peer c g)) (sym (eq-eqb c c refl))
      (closes_own (settings_of c (work g)) (peer c g) why settings_there)
  by false e = a.closed_still (shut_of (settings_of c (work h)) (peer c h) (has_gone c (work h)) there e)

module _ (now : ℕ) (h : List ServerEvent) where
  pub expires_own : (c : ℕ) (g : List ServerEvent) → c ≤ made (notes h) → Alike c h g → Own c g → (life : Life) → standing c (notes h) ≡ life
      → Own c (onto (expiring now life c h) g)
  expires_own c g old a o life e = by life e where
    same : standing c (notes g) ≡ standing c (notes h)
    same = standing_same c (notes g) (notes h) a.same_notes

    drops : (standing c (notes h) ≡ Polling → ⊥) → Own c (onto (dropping c h ++ Notes (Expired c now) ∷ []) g)
    drops f =
        let gone : Known c (Expired c now ∷ notes g) → ⊥
        = λ u. gone_unknown c (Expired c now ∷ notes g) (expired_gone c (notes g) now (λ i. f (sym same ∙ i))) u in
        either_way (λ ds. Own c (onto (ds ++ Notes (Expired c now) ∷ []) g)) (has_peer c h) (Works (Goes c) ∷ []) []
        (own_unknown c g o (Notes (Expired c now) ∷ Works (Goes c) ∷ g) gone (omega (arith, old, a.more)))
        (own_unknown c g o (Notes (Expired c now) ∷ g) gone (omega (arith, old, a.more)))

    by : (life : Life) → standing c (notes h) ≡ life → Own c (onto (expiring now life c h) g)
    by Polling i =
        let lives : standing c (notes g) ≡ Polling = same ∙ i in
        let known : Known c (notes g) = ap is_known lives in
        let polls = polls_of c (notes g) lives in
        let y : List ServerEvent = onto (closing c reason.Expired h) g in
        let b = quiet_onto c (closing c reason.Expired h) g (each_closing IsQuiet c reason.Expired h tt) in
        let there : has_peer c h ≡ true = sym (peer_alike c h g a) ∙ o.there known polls.0 in
        let still : standing c (notes y) ≡ Polling = standing_same c (notes y) (notes g) b.same_notes ∙ lives in
        in_turn (Own c) (closing c reason.Expired h) (Notes (Expired c now) ∷ []) g
        (own_expired c y (own_alike c g y b o) (omega (arith, old, a.more, b.more)) (ap is_known still) now
        (polls_of c (notes y) still).0 (closed_then c reason.Expired h g there a))
    by Unknown i = drops (λ f. absurd (let z : Unknown ≡ Polling = sym i ∙ f in cc))
    by Fresh i = drops (λ f. absurd (let z : Fresh ≡ Polling = sym i ∙ f in cc))
    by (Socket lane) i = drops (λ f. absurd (let z : Socket lane ≡ Polling = sym i ∙ f in cc))
    by Lost i = drops (λ f. absurd (let z : Lost ≡ Polling = sym i ∙ f in cc))
    by Ending i = drops (λ f. absurd (let z : Ending ≡ Polling = sym i ∙ f in cc))

  pub kept_in : (p : ℕ → Bool) (c : ℕ) (xs : List ℕ) → is_in c (filter p xs) ≡ true → is_in c xs ≡ true
  kept_in p c [] e = e
  kept_in p c (x ∷ xs) e = by (p x) e (kept_in p c xs) where
    by : (b : Bool) → is_in c (if b then x ∷ filter p xs else filter p xs) ≡ true → (is_in c (filter p xs) ≡ true → is_in c xs ≡ true)
        → is_in c (x ∷ xs) ≡ true
    by false f further = or_right (c == x) (is_in c xs) (further f)
    by true f further = own (c == x) f where
      own : (a : Bool) → (a || is_in c (filter p xs)) ≡ true → (a || is_in c xs) ≡ true
      own true i = refl
      own false i = further i

  -- ---- ticks

  pub ticked_own : ((k : ℕ) → has_peer k h ≡ true → Known k (notes h) × (k ≤ made (notes h))) → AreApart (connections (work h)) → ((k : ℕ) → Own k h)
      → (k : ℕ) → Own k (onto (ticks now h) h)
  ticked_own known apart all k =
      each_own Own own_alike (λ c. ticking now c h) h (λ c. ticking_one now c h) (connections (work h)) h apart
      (λ c x i a o. let was = known c (passes (λ j. has_peer j h) c _ i) in ticks_one c x a o was.0 was.1) (λ j i. alike_same j h) all k
    where
      lost_own : (c lane : ℕ) (g : List ServerEvent) → Alike c h g → Own c g → Known c (notes h) → c ≤ made (notes h) → Own c (onto (losing c lane now h) g)
      lost_own c lane g a o u old =
          let later : c ≤ made (notes g) = omega (arith, old, a.more) in
          let still : Known c (notes g) = ap is_known (standing_same c (notes g) (notes h) a.same_notes) ∙ u in
          either_way (λ ds. Own c (onto ds g)) (may_resume c h) (Notes (LaneLost c lane now) ∷ []) (removing_conn c h)
          (own_lost c g o later still lane now) (removed_own c h g o later)

      silent : (c : ℕ) (s : Option ℕ) (g : List ServerEvent) → Alike c h g → Own c g → Known c (notes h) → c ≤ made (notes h) → Own c (onto (silenced c s now h) g)
      silent c None g a o u old = own_alike c g (step c (Silenced now) ∷ g) (quiet_onto c (step c (Silenced now) ∷ []) g (tt, tt)) o
      silent c (Some lane) g a o u old =
          let x : List ServerEvent = step c (Silenced now) ∷ g in
          let b = quiet_onto c (step c (Silenced now) ∷ []) g (tt, tt) in
          let y : List ServerEvent = onto (losing c lane now h) x in
          in_turn (Own c) (step c (Silenced now) ∷ losing c lane now h) (shutting lane h) g
          (own_alike c y (onto (shutting lane h) y) (quiet_onto c (shutting lane h) y (each_shutting IsQuiet lane h tt))
          (lost_own c lane x (alike_then c h g x a b) (own_alike c g x b o) u old))

      ticks_one : (c : ℕ) (g : List ServerEvent) → Alike c h g → Own c g → Known c (notes h) → c ≤ made (notes h) → Own c (onto (ticking now c h) g)
      ticks_one c g a o u old =
          either_way (λ ds. Own c (onto ds g)) (is_some (present_link (history c h)))
          (if is_silence (config_of c h) now (history c h) then silenced c (socket_of c (notes h)) now h else step c (Ticked now) ∷ []) []
          (either_way (λ ds. Own c (onto ds g)) (is_silence (config_of c h) now (history c h)) (silenced c (socket_of c (notes h)) now h)
          (step c (Ticked now) ∷ []) (silent c (socket_of c (notes h)) g a o u old)
          (own_alike c g (step c (Ticked now) ∷ g) (quiet_onto c (step c (Ticked now) ∷ []) g (tt, tt)) o)) o
