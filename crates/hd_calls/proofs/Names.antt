-- Numbers are drawn once.
use Rattle.std.proofs.Common.{inl, inr, ⊎_elim, ◌≡◌, ℕ, zero, suc, ◌<◌, ◌≤◌, Bool, true, false, List, [], ◌∷◌, ◌++◌, length, Option, Some, None, refl, sym, ap, ◌∙◌, subst, arith}
use Rattle.std.specs.Prelude.{◌⊎◌, ◌+◌, max, slice_get, ◌==◌, ◌||◌, ◌&&◌, not}
use Rattle.std.proofs.lemmas.Bool.{or_cases, and_parts, eqb-true}
use Rattle.hm_message.specs.Same.{same_text}
use Rattle.hd_calls.specs.Hubs.{Way, Notify, Call, Stream, Invoked, Hub, id_of}
use Rattle.hd_calls.specs.Peers.{PeerEvent, Calls, Settings, drawn, called, call_of, begun, live_job}
use Rattle.hd_calls.specs.Rules.{names, IsNumbered, MadeAs, any_below, is_among, repeats, same_id, stream_over, shares, clashes, in_use, Follows}
use Rattle.hd_calls.proofs.Lists.{both, not_true, get_front, same_refl, same-true}

-- calls that drew the numbers from `from` on, up to `to`
abbrev pub Rising : Settings → ℕ → List Invoked → ℕ → Type 0
Rising t from [] to = from ≡ to
Rising t from (c ∷ cs) to = (n : ℕ) × MadeAs t from n c.way c × Rising t (max from (n + length c.streams)) cs to

rising_push : (t : Settings) (from : ℕ) (cs : List Invoked) (mid n : ℕ) (c : Invoked) → Rising t from cs mid → MadeAs t mid n c.way c → Rising t from (cs ++ c ∷ []) (max mid (n + length c.streams))
rising_push t from [] mid n c r m = (n, subst (λ k. MadeAs t k n c.way c) (sym r) m, ap (λ k. max k (n + length c.streams)) r)
rising_push t from (d ∷ cs) mid n c r m = (r.0, r.1, rising_push t (max from (r.0 + length d.streams)) cs mid n c r.2 m)

pub rising_split : (t : Settings) (from : ℕ) (xs ys : List Invoked) (to : ℕ) → Rising t from (xs ++ ys) to → (mid : ℕ) × Rising t from xs mid × Rising t mid ys to
rising_split t from [] ys to r = (from, refl, r)
rising_split t from (x ∷ xs) ys to r = let s = rising_split t (max from (r.0 + length x.streams)) xs ys to r.2 in (s.0, (r.0, r.1, s.1), s.2)

rising_le : (t : Settings) (from : ℕ) (cs : List Invoked) (to : ℕ) → Rising t from cs to → from ≤ to
rising_le t from [] to r = omega (arith, r)
rising_le t from (c ∷ cs) to r = let h = rising_le t (max from (r.0 + length c.streams)) cs to r.2 in omega arith

pub rises : {Job : Type 0} (hub : Hub Job) (t : Settings) (h : List PeerEvent) → Follows hub t h → Rising t 0 (called h) (drawn h)
rises hub t [] p = refl
rises hub t (Calls a n call ∷ h) p = rising_push t 0 (called h) (drawn h) n call (rises hub t h p.0) p.1.made
rises hub t (_ ∷ h) p = rises hub t h p.0

-- the ids that a call bears
pub data IsKey (i : List ℕ) (c : Invoked) : Type 0 where
  Own_id : id_of c.way ≡ Some i → IsKey i c
  Of_stream : is_among i c.streams ≡ true → IsKey i c

pub member_names : (t : Settings) (i : List ℕ) (k u : ℕ) → is_among i (names t k u) ≡ true → (j : ℕ) × (i ≡ t.name j) × (k ≤ j) × (j < k + u)
member_names t i k zero e = absurd (cc)
member_names t i k (suc u) e = ⊎_elim
    (λ f. (k, same-true i (t.name k) f, omega arith, omega arith))
    (λ f. let m = member_names t i (suc k) u f in (m.0, m.1, omega (arith, m.2), omega (arith, m.3)))
    (or_cases (same_text i (t.name k)) (is_among i (names t (suc k) u)) e)

-- a key's number
pub record Keyed (t : Settings) (i : List ℕ) (from to : ℕ) : Type 0 where
  pub number : ℕ
  pub is : i ≡ t.name number
  pub above : from < number
  pub within : number ≤ to

pub keyed_id : (t : Settings) (from n : ℕ) (way : Way) (c : Invoked) (i : List ℕ) → MadeAs t from n way c → id_of way ≡ Some i → (i ≡ t.name n) × (n ≡ suc from)
keyed_id t from n Notify c i m e = absurd (cc)
keyed_id t from n (Call k) c i m e = (let f : k ≡ i = cc in sym f ∙ m.0, m.1.0)
keyed_id t from n (Stream k) c i m e = (let f : k ≡ i = cc in sym f ∙ m.0, m.1.0)

pub made_numbered : (t : Settings) (from n : ℕ) (way : Way) (c : Invoked) → MadeAs t from n way c → (c.streams ≡ []) ⊎ IsNumbered t from n c
made_numbered t from n Notify c m = ⊎_elim (λ a. inl a.1) (λ b. inr b.1) m
made_numbered t from n (Call k) c m = inr m.1
made_numbered t from n (Stream k) c m = inr m.1

keyed_stream : (t : Settings) (from n : ℕ) (c : Invoked) (i : List ℕ) → (c.streams ≡ []) ⊎ IsNumbered t from n c → is_among i c.streams ≡ true → Keyed t i from (n + length c.streams)
keyed_stream t from n c i (inl e) m = absurd (let z : false ≡ true = subst (λ xs. is_among i xs ≡ true) e m in cc)
keyed_stream t from n c i (inr q) m =
    let k = member_names t i (suc n) (length c.streams) (subst (λ xs. is_among i xs ≡ true) q.1 m) in
    record { number = k.0; is = k.1; above = omega (arith, q.0, k.2); within = omega (arith, k.3) }

pub keyed : (t : Settings) (from n : ℕ) (c : Invoked) (i : List ℕ) → MadeAs t from n c.way c → IsKey i c → Keyed t i from (max from (n + length c.streams))
keyed t from n c i m (Own_id e) = let q = keyed_id t from n c.way c i m e in record { number = n; is = q.0; above = omega (arith, q.1); within = omega arith }
keyed t from n c i m (Of_stream e) = let q = keyed_stream t from n c i (made_numbered t from n c.way c m) e in record { number = q.number; is = q.is; above = q.above; within = omega (arith, q.within) }

pub key_at : (t : Settings) (from : ℕ) (cs : List Invoked) (to : ℕ) (j : ℕ) (c : Invoked) (i : List ℕ) → Rising t from cs to → slice_get cs j ≡ Some c → IsKey i c → Keyed t i from to
key_at t from [] to j c i r e k = absurd (cc)
key_at t from (d ∷ cs) to zero c i r e k =
    let f : d ≡ c = cc in
    let q = keyed t from r.0 d i r.1 (subst (λ x. IsKey i x) (sym f) k) in
    let l = rising_le t (max from (r.0 + length d.streams)) cs to r.2 in
    record { number = q.number; is = q.is; above = q.above; within = omega (arith, q.within) }
key_at t from (d ∷ cs) to (suc j) c i r e k =
    let q = key_at t (max from (r.0 + length d.streams)) cs to j c i r.2 e k in
    record { number = q.number; is = q.is; above = omega (arith, q.above); within = q.within }

module _ (t : Settings) (own : (m n : ℕ) → t.name m ≡ t.name n → m ≡ n) where
  pub keys_apart : (i : List ℕ) (from mid to : ℕ) → Keyed t i from mid → Keyed t i mid to → ⊥
  keys_apart i from mid to p q = let e = own p.number q.number (sym p.is ∙ q.is) in omega (arith, p.within, q.above)

  -- no two calls share a key
  pub one_place : (from : ℕ) (cs : List Invoked) (to : ℕ) (j k : ℕ) (c d : Invoked) (i : List ℕ) → Rising t from cs to → slice_get cs j ≡ Some c → slice_get cs k ≡ Some d → IsKey i c → IsKey i d → j ≡ k
  one_place from [] to j k c d i r e f p q = absurd (cc)
  one_place from (x ∷ cs) to zero zero c d i r e f p q = refl
  one_place from (x ∷ cs) to zero (suc k) c d i r e f p q =
      let g : x ≡ c = cc in
      absurd (keys_apart i from (max from (r.0 + length x.streams)) to (keyed t from r.0 x i r.1 (subst (λ y. IsKey i y) (sym g) p)) (key_at t (max from (r.0 + length x.streams)) cs to k d i r.2 f q))
  one_place from (x ∷ cs) to (suc j) zero c d i r e f p q =
      let g : x ≡ d = cc in
      absurd (keys_apart i from (max from (r.0 + length x.streams)) to (keyed t from r.0 x i r.1 (subst (λ y. IsKey i y) (sym g) q)) (key_at t (max from (r.0 + length x.streams)) cs to j c i r.2 e p))
  one_place from (x ∷ cs) to (suc j) (suc k) c d i r e f p q = ap suc (one_place (max from (r.0 + length x.streams)) cs to j k c d i r.2 e f p q)

  names_differ : (k u : ℕ) → repeats (names t k u) ≡ false
  names_differ k zero = refl
  names_differ k (suc u) = not_true (is_among (t.name k) (names t (suc k) u) || repeats (names t (suc k) u)) (λ e. ⊎_elim
      (λ f. let m = member_names t (t.name k) (suc k) u f in let z = own k m.0 m.1 in let l = m.2 in omega arith)
      (λ f. absurd (let z : false ≡ true = sym (names_differ (suc k) u) ∙ f in cc))
      (or_cases (is_among (t.name k) (names t (suc k) u)) (repeats (names t (suc k) u)) e))

  no_repeat : (from n : ℕ) (c : Invoked) → (c.streams ≡ []) ⊎ IsNumbered t from n c → repeats c.streams ≡ false
  no_repeat from n c (inl e) = ap repeats e
  no_repeat from n c (inr q) = ap repeats q.1 ∙ names_differ (suc n) (length c.streams)

  same_key : (a b : Option (List ℕ)) → same_id a b ≡ true → (i : List ℕ) × (a ≡ Some i) × (b ≡ Some i)
  same_key None b e = absurd (cc)
  same_key (Some i) None e = absurd (cc)
  same_key (Some i) (Some k) e = (i, refl, ap Some (sym (same-true i k e)))

  shared : (those : List (List ℕ)) (j : ℕ) (h : List PeerEvent) (w : ℕ) (ks : List (List ℕ)) → shares those j h w ks ≡ true → (i : List ℕ) × (is_among i those ≡ true) × (is_among i ks ≡ true)
  shared those j h w [] e = absurd (cc)
  shared those j h w (k ∷ ks) e = ⊎_elim
      (λ f. (k, (and_parts (is_among k those) (not (stream_over j w h)) f).0, ap (λ b. b || is_among k ks) (same_refl k)))
      (λ f. let s = shared those j h (suc w) ks f in (s.0, s.1, elim (same_text s.0 k) as (λ b. (b || is_among s.0 ks) ≡ true) [ true ↦ refl | false ↦ s.2 ]))
      (or_cases (is_among k those && not (stream_over j w h)) (shares those j h (suc w) ks) e)

  clash_keys : (c : Invoked) (j : ℕ) (h : List PeerEvent) (d : Invoked) → clashes c j h (Some d) ≡ true → (i : List ℕ) × IsKey i c × IsKey i d
  clash_keys c j h d e = ⊎_elim
      (λ f. let s = same_key (id_of c.way) (id_of d.way) f in (s.0, Own_id s.1, Own_id s.2))
      (λ f. let s = shared c.streams j h 0 d.streams f in (s.0, Of_stream s.1, Of_stream s.2))
      (or_cases (same_id (id_of c.way) (id_of d.way)) (shares c.streams j h 0 d.streams) e)

  some_below : (n : ℕ) (p : ℕ → Bool) → any_below n p ≡ true → (j : ℕ) × (p j ≡ true)
  some_below zero p e = absurd (cc)
  some_below (suc n) p e = ⊎_elim (λ f. (n, f)) (λ f. some_below n p f) (or_cases (p n) (any_below n p) e)

  clash_of : (c : Invoked) (j : ℕ) (h : List PeerEvent) (o : Option Invoked) → clashes c j h o ≡ true → (d : Invoked) × (o ≡ Some d) × (clashes c j h (Some d) ≡ true)
  clash_of c j h None e = absurd (cc)
  clash_of c j h (Some d) e = (d, refl, e)

  -- a new call is in use nowhere
  pub unused : (ty : Settings) (y : List PeerEvent) (mid n : ℕ) (c : Invoked) → Rising t 0 (begun y) mid → MadeAs t mid n c.way c → in_use ty c y ≡ false
  unused ty y mid n c r m = not_true (in_use ty c y) (λ e. ⊎_elim
      (λ f.
      let s = some_below (length (begun y)) (λ j. live_job ty j y && clashes c j y (slice_get (begun y) j)) f in
      let k = (and_parts (live_job ty s.0 y) (clashes c s.0 y (slice_get (begun y) s.0)) s.1).1 in
      let d = clash_of c s.0 y (slice_get (begun y) s.0) k in
      let q = clash_keys c s.0 y d.0 d.2 in
      keys_apart q.0 0 mid (max mid (n + length c.streams)) (key_at t 0 (begun y) mid s.0 d.0 q.0 r d.1 q.2) (keyed t mid n c q.0 m q.1))
      (λ f. absurd (let z : false ≡ true = sym (no_repeat mid n c (made_numbered t mid n c.way c m)) ∙ f in cc))
      (or_cases (any_below (length (begun y)) (λ j. live_job ty j y && clashes c j y (slice_get (begun y) j))) (repeats c.streams) e))

-- the call of a number ------------------------------------------------------

-- a call's number was drawn
pub number_drawn : (n : ℕ) (h : List PeerEvent) (c : Invoked) → call_of n h ≡ Some c → n ≤ drawn h
number_drawn n [] c e = absurd (cc)
number_drawn n (Calls a k d ∷ h) c e = both (λ o. o ≡ Some c → n ≤ max (drawn h) (k + length d.streams)) (n == k) (Some d) (call_of n h)
    (λ f g. let z = eqb-true n k f in omega arith)
    (λ f g. let z = number_drawn n h c g in omega arith) e
number_drawn n (_ ∷ h) c e = number_drawn n h c e

pub record IsCalled (t : Settings) (n : ℕ) (h : List PeerEvent) (c : Invoked) (i : List ℕ) : Type 0 where
  pub id : i ≡ t.name n
  pub place : ℕ
  pub at : slice_get (called h) place ≡ Some c

pub get_last : {A : Type 0} (xs : List A) (x : A) → slice_get (xs ++ x ∷ []) (length xs) ≡ Some x
get_last [] x = refl
get_last (y ∷ xs) x = get_last xs x

pub is_called : {Job : Type 0} (hub : Hub Job) (t : Settings) (n : ℕ) (h : List PeerEvent) (call : Invoked) (i : List ℕ) → Follows hub t h → call_of n h ≡ Some call → id_of call.way ≡ Some i → IsCalled t n h call i
is_called hub t n [] call i p e f = absurd (cc)
is_called hub t n (Calls a k d ∷ h) call i p e f = both (λ o. o ≡ Some call → IsCalled t n (Calls a k d ∷ h) call i) (n == k) (Some d) (call_of n h)
    (λ g q.
    let z : d ≡ call = cc in
    record {
      id = (keyed_id t (drawn h) k d.way d i p.1.made (ap (λ x. id_of x.way) z ∙ f)).0 ∙ ap t.name (sym (eqb-true n k g));
      place = length (called h);
      at = get_last (called h) d ∙ ap Some z;
    })
    (λ g q. let s = is_called hub t n h call i p.0 q f in record { id = s.id; place = s.place; at = get_front (called h) (d ∷ []) s.place call s.at }) e
is_called hub t n (_ ∷ h) call i p e f = let s = is_called hub t n h call i p.0 e f in record { id = s.id; place = s.place; at = s.at }
