-- The laws of lists of pairs, by induction on the list.
use Rattle.std.proofs.Common.{◌≡◌, ℕ, suc, ◌+◌, ◌≤◌, ◌<◌, Bool, true, false, cond, ◌&&◌, ◌||◌, List, [], ◌∷◌, ◌++◌, filter, map, length, if◌then◌else◌, nat_eq, eqb, ltb, refl, sym, ap, ◌∙◌, true≢false, arith}
use Rattle.std.specs.List.{IsDistinct, AllByRecursion}
use Rattle.std.specs.Cmp.Lexicographic.{nat_list_eq_equiv}
use Rattle.std.proofs.lemmas.Bool.{eqb-true, eq-eqb, ltb-true}
use Rattle.std.proofs.lemmas.Cmp.{nat_eq_equiv}
use Rattle.std.proofs.lemmas.Map.Keys.{IsDistinct-cons}
use Rattle.std.proofs.lemmas.Slice.Eq.{bytes_eq-Decides}
use Rattle.hm_message.specs.Same.{same_text}
use Rattle.hd_rooms.specs.Registry.{Pair, same_pair, has, members, with_pair, without_pair, without, with_member, may_join, count_of, most_groups, AreDistinct}
use Rattle.hd_rooms.specs.RegistryLaws.{is_among, others_than}

-- ---- names and tests

turned : (s t : List ℕ) → same_text s t ≡ same_text t s
turned s t = nat_list_eq_equiv.symm s t

-- pairs that are the same are so both ways
same_pair-turned : (p q : Pair) → same_pair p q ≡ same_pair q p
same_pair-turned p q = λ i. turned p.0 q.0 i && nat_eq_equiv.symm p.1 q.1 i

-- ---- who is a member

-- a pair is there if its connection is a member of its name
pub has-members : (name : List ℕ) (conn : ℕ) (pairs : List Pair) → has (name, conn) pairs ≡ is_among conn (members name pairs)
has-members name conn [] = refl
has-members name conn (q ∷ pairs) = by (same_text name q.0) (has-members name conn pairs)
  where
    by : (b : Bool) → has (name, conn) pairs ≡ is_among conn (members name pairs)
        → ((b && (eqb conn q.1)) || has (name, conn) pairs)
        ≡ is_among conn (map (λ (r : Pair). r.1) (cond b (q ∷ filter (λ r. same_text name r.0) pairs) (filter (λ r. same_text name r.0) pairs)))
    by true h = ap (λ rest. eqb conn q.1 || rest) h
    by false h = h

-- the members of a list with one pair more at its end
members-push : (other name : List ℕ) (conn : ℕ) (pairs : List Pair)
    → members other (pairs ++ (name, conn) ∷ []) ≡ (if same_text name other then members other pairs ++ conn ∷ [] else members other pairs)
members-push other name conn [] = rw (turned name other) (by (same_text other name))
  where
    by : (b : Bool) → map (λ (r : Pair). r.1) (cond b ((name, conn) ∷ []) []) ≡ (if b then [] ++ conn ∷ [] else [])
    by true = refl
    by false = refl
members-push other name conn (q ∷ pairs) = by (same_text other q.0) (same_text name other) (members-push other name conn pairs)
  where
    by : (b c : Bool)
        → members other (pairs ++ (name, conn) ∷ []) ≡ (if c then members other pairs ++ conn ∷ [] else members other pairs)
        → map (λ (r : Pair). r.1) (cond b (q ∷ filter (λ r. same_text other r.0) (pairs ++ (name, conn) ∷ [])) (filter (λ r. same_text other r.0) (pairs ++ (name, conn) ∷ [])))
        ≡ (if c then map (λ (r : Pair). r.1) (cond b (q ∷ filter (λ r. same_text other r.0) pairs) (filter (λ r. same_text other r.0) pairs)) ++ conn ∷ []
        else map (λ (r : Pair). r.1) (cond b (q ∷ filter (λ r. same_text other r.0) pairs) (filter (λ r. same_text other r.0) pairs)))
    by true true e = ap (λ rest. q.1 ∷ rest) e
    by true false e = ap (λ rest. q.1 ∷ rest) e
    by false true e = e
    by false false e = e

pub members-with_pair : (name : List ℕ) (conn : ℕ) (pairs : List Pair) (other : List ℕ)
    → members other (with_pair (name, conn) pairs)
    ≡ (if has (name, conn) pairs then members other pairs
    else (if same_text name other then members other pairs ++ conn ∷ [] else members other pairs))
members-with_pair name conn pairs other = by (has (name, conn) pairs)
  where
    by : (b : Bool) → members other (if b then pairs else pairs ++ (name, conn) ∷ [])
        ≡ (if b then members other pairs else (if same_text name other then members other pairs ++ conn ∷ [] else members other pairs))
    by true = refl
    by false = members-push other name conn pairs

pub members-without : (conn : ℕ) (pairs : List Pair) (other : List ℕ) → members other (without conn pairs) ≡ others_than conn (members other pairs)
members-without conn [] other = refl
members-without conn (q ∷ pairs) other = by (eqb conn q.1) refl (same_text other q.0) refl (members-without conn pairs other)
  where
    by : (b : Bool) → eqb conn q.1 ≡ b → (t : Bool) → same_text other q.0 ≡ t
        → members other (without conn pairs) ≡ others_than conn (members other pairs)
        → members other (without conn (q ∷ pairs)) ≡ others_than conn (members other (q ∷ pairs))
    by true e true f h = rw (e, f) (rw e h)
    by true e false f h = rw (e, f) h
    by false e true f h = rw e (rw f (rw e (ap (λ rest. q.1 ∷ rest) h)))
    by false e false f h = rw e (rw f h)

-- the same for one pair, at each answer of the tests of its name
pub members-without_pair : (name : List ℕ) (conn : ℕ) (pairs : List Pair) (other : List ℕ)
    → members other (without_pair (name, conn) pairs) ≡ (if same_text name other then others_than conn (members other pairs) else members other pairs)
members-without_pair name conn [] other = by (same_text name other)
  where
    by : (b : Bool) → members other [] ≡ (if b then members other [] else members other [])
    by true = refl
    by false = refl
members-without_pair name conn (q ∷ pairs) other =
    by (same_text other q.0) refl (same_text name q.0) refl (eqb conn q.1) refl (same_text name other)
    (λ t. turned name other ∙ nat_list_eq_equiv.congr other q.0 name t ∙ turned q.0 name)
    (members-without_pair name conn pairs other)
  where
    by : (t : Bool) → same_text other q.0 ≡ t → (n : Bool) → same_text name q.0 ≡ n → (e : Bool) → eqb conn q.1 ≡ e → (s : Bool)
        → (same_text other q.0 ≡ true → s ≡ same_text name q.0)
        → members other (without_pair (name, conn) pairs) ≡ (if s then others_than conn (members other pairs) else members other pairs)
        → members other (without_pair (name, conn) (q ∷ pairs)) ≡ (if s then others_than conn (members other (q ∷ pairs)) else members other (q ∷ pairs))
    by true t true n true e true both h = rw (n, e, t) (rw e h)
    by true t true n false e true both h = rw (n, e) (rw t (rw e (ap (λ rest. q.1 ∷ rest) h)))
    by true t true n e _ false both h = absurd (true≢false (sym n ∙ sym (both t)))
    by true t false n e _ true both h = absurd (true≢false (both t ∙ n))
    by true t false n e _ false both h = rw n (rw t (ap (λ rest. q.1 ∷ rest) h))
    by false t true n true e true both h = rw (n, e, t) h
    by false t true n true e false both h = rw (n, e, t) h
    by false t true n false e true both h = rw (n, e) (rw t h)
    by false t true n false e false both h = rw (n, e) (rw t h)
    by false t false n e _ true both h = rw n (rw t h)
    by false t false n e _ false both h = rw n (rw t h)

-- ---- distinct pairs

-- a pair that isn't there isn't there among fewer
has-filter : (p : Pair) (test : Pair → Bool) (pairs : List Pair) → has p pairs ≡ false → has p (filter test pairs) ≡ false
has-filter p test [] out = refl
has-filter p test (q ∷ pairs) out = by (test q) (same_pair p q) refl out (has-filter p test pairs)
  where
    by : (b s : Bool) → same_pair p q ≡ s → (s || has p pairs) ≡ false → (has p pairs ≡ false → has p (filter test pairs) ≡ false)
        → has p (cond b (q ∷ filter test pairs) (filter test pairs)) ≡ false
    by b true e out' h = absurd (true≢false out')
    by true false e out' h = rw e (h out')
    by false false e out' h = h out'

pub AreDistinct-filter : (test : Pair → Bool) (pairs : List Pair) → AreDistinct pairs → AreDistinct (filter test pairs)
AreDistinct-filter test [] d = tt
AreDistinct-filter test (q ∷ pairs) d = by (test q) (AreDistinct-filter test pairs d.1)
  where
    by : (b : Bool) → AreDistinct (filter test pairs) → AreDistinct (cond b (q ∷ filter test pairs) (filter test pairs))
    by true h = (has-filter q test pairs d.0, h)
    by false h = h

-- another pair at the end doesn't make a pair be there
has-push : (p q : Pair) (pairs : List Pair) → has p pairs ≡ false → same_pair p q ≡ false → has p (pairs ++ q ∷ []) ≡ false
has-push p q [] out apart = rw apart refl
has-push p q (r ∷ pairs) out apart = by (same_pair p r) out (has-push p q pairs)
  where
    by : (s : Bool) → (s || has p pairs) ≡ false → (has p pairs ≡ false → same_pair p q ≡ false → has p (pairs ++ q ∷ []) ≡ false)
        → (s || has p (pairs ++ q ∷ [])) ≡ false
    by true out' h = absurd (true≢false out')
    by false out' h = h out' apart

-- a new pair at the end
AreDistinct-push : (p : Pair) (pairs : List Pair) → AreDistinct pairs → has p pairs ≡ false → AreDistinct (pairs ++ p ∷ [])
AreDistinct-push p [] d out = (refl, tt)
AreDistinct-push p (q ∷ pairs) d out = by (same_pair p q) refl out (AreDistinct-push p pairs d.1)
  where
    by : (s : Bool) → same_pair p q ≡ s → (s || has p pairs) ≡ false → (has p pairs ≡ false → AreDistinct (pairs ++ p ∷ []))
        → AreDistinct (q ∷ (pairs ++ p ∷ []))
    by true e out' h = absurd (true≢false out')
    by false e out' h = (has-push q p pairs d.0 (same_pair-turned q p ∙ e), h out')

pub AreDistinct-with_pair : (p : Pair) (pairs : List Pair) → AreDistinct pairs → AreDistinct (with_pair p pairs)
AreDistinct-with_pair p pairs d = by (has p pairs) refl
  where
    by : (b : Bool) → has p pairs ≡ b → AreDistinct (if b then pairs else pairs ++ p ∷ [])
    by true e = d
    by false e = AreDistinct-push p pairs d e

-- no member equals one that isn't there
all_apart : (conn : ℕ) (conns : List ℕ) → is_among conn conns ≡ false → AllByRecursion (λ d. eqb conn d ≡ false) conns
all_apart conn [] out = tt
all_apart conn (d ∷ conns) out = by (eqb conn d) refl out (all_apart conn conns)
  where
    by : (b : Bool) → eqb conn d ≡ b → (b || is_among conn conns) ≡ false
        → (is_among conn conns ≡ false → AllByRecursion (λ d. eqb conn d ≡ false) conns) → AllByRecursion (λ d. eqb conn d ≡ false) (d ∷ conns)
    by true e out' h = absurd (true≢false out')
    by false e out' h = (e, h out')

pub IsDistinct-members : (name : List ℕ) (pairs : List Pair) → AreDistinct pairs → IsDistinct nat_eq (members name pairs)
unfolding IsDistinct
IsDistinct-members name [] d = tt
IsDistinct-members name (q ∷ pairs) d = by (same_text name q.0) refl (IsDistinct-members name pairs d.1)
  where
    by : (b : Bool) → same_text name q.0 ≡ b → IsDistinct nat_eq (members name pairs)
        → IsDistinct nat_eq (map (λ (r : Pair). r.1) (cond b (q ∷ filter (λ r. same_text name r.0) pairs) (filter (λ r. same_text name r.0) pairs)))
    by true e h =
        let is : name ≡ q.0 = (bytes_eq-Decides name q.0).0 e in
        IsDistinct-cons nat_eq q.1 (members name pairs)
        (all_apart q.1 (members name pairs) (sym (has-members name q.1 pairs) ∙ ap (λ n. has (n, q.1) pairs) is ∙ d.0)) h
    by false e h = h

-- ---- how many names a connection has

-- the first pair is there under its connection, and under another it isn't
has-first : (q : Pair) (conn : ℕ) (pairs : List Pair) → eqb conn q.1 ≡ true → has (q.0, conn) (q ∷ pairs) ≡ true
has-first q conn pairs e = rw ((bytes_eq-Decides q.0 q.0).1 refl, e) refl

has-other : (name : List ℕ) (q : Pair) (conn : ℕ) (pairs : List Pair) → eqb conn q.1 ≡ false → has (name, conn) (q ∷ pairs) ≡ has (name, conn) pairs
has-other name q conn pairs e = rw e (by (same_text name q.0))
  where
    by : (b : Bool) → ((b && false) || has (name, conn) pairs) ≡ has (name, conn) pairs
    by true = refl
    by false = refl

count-push : (p : Pair) (pairs : List Pair) (who : ℕ)
    → count_of who (pairs ++ p ∷ []) ≡ (if eqb who p.1 then suc (count_of who pairs) else count_of who pairs)
count-push p [] who = by (eqb who p.1)
  where
    by : (b : Bool) → length (cond b (p ∷ []) []) ≡ (if b then 1 else 0)
    by true = refl
    by false = refl
count-push p (q ∷ pairs) who = by (eqb who q.1) (eqb who p.1) (count-push p pairs who)
  where
    by : (b c : Bool) → count_of who (pairs ++ p ∷ []) ≡ (if c then suc (count_of who pairs) else count_of who pairs)
        → length (cond b (q ∷ filter (λ r. eqb who r.1) (pairs ++ p ∷ [])) (filter (λ r. eqb who r.1) (pairs ++ p ∷ [])))
        ≡ (if c then suc (length (cond b (q ∷ filter (λ r. eqb who r.1) pairs) (filter (λ r. eqb who r.1) pairs)))
        else length (cond b (q ∷ filter (λ r. eqb who r.1) pairs) (filter (λ r. eqb who r.1) pairs)))
    by true true e = ap suc e
    by true false e = ap suc e
    by false true e = e
    by false false e = e

-- a list without a pair that isn't there
without_pair-absent : (p : Pair) (pairs : List Pair) → has p pairs ≡ false → without_pair p pairs ≡ pairs
without_pair-absent p [] out = refl
without_pair-absent p (q ∷ pairs) out = by (same_pair p q) refl out (without_pair-absent p pairs)
  where
    by : (s : Bool) → same_pair p q ≡ s → (s || has p pairs) ≡ false → (has p pairs ≡ false → without_pair p pairs ≡ pairs)
        → without_pair p (q ∷ pairs) ≡ q ∷ pairs
    by true e out' h = absurd (true≢false out')
    by false e out' h = rw e (ap (λ rest. q ∷ rest) (h out'))

-- pairs that are the same are equal
same_pair-is : (p q : Pair) → same_pair p q ≡ true → p ≡ q
same_pair-is p q e = by (same_text p.0 q.0) refl (eqb p.1 q.1) refl e
  where
    by : (b : Bool) → same_text p.0 q.0 ≡ b → (c : Bool) → eqb p.1 q.1 ≡ c → (b && c) ≡ true → p ≡ q
    by true s true n e' = λ i. ((bytes_eq-Decides p.0 q.0).0 s i, eqb-true p.1 q.1 n i)
    by true s false n e' = absurd (true≢false (sym e'))
    by false s c n e' = absurd (true≢false (sym e'))

pub count-without_pair : (p : Pair) (pairs : List Pair) (who : ℕ) → AreDistinct pairs → has p pairs ≡ true
    → count_of who pairs ≡ (if eqb who p.1 then suc (count_of who (without_pair p pairs)) else count_of who (without_pair p pairs))
count-without_pair p [] who d there = absurd (true≢false (sym there))
count-without_pair p (q ∷ pairs) who d there = by (same_pair p q) refl there (eqb who q.1) refl (count-without_pair p pairs who d.1)
  where
    by : (s : Bool) → same_pair p q ≡ s → (s || has p pairs) ≡ true → (b : Bool) → eqb who q.1 ≡ b
        → (has p pairs ≡ true → count_of who pairs ≡ (if eqb who p.1 then suc (count_of who (without_pair p pairs)) else count_of who (without_pair p pairs)))
        → count_of who (q ∷ pairs)
        ≡ (if eqb who p.1 then suc (count_of who (without_pair p (q ∷ pairs))) else count_of who (without_pair p (q ∷ pairs)))
    by true e there' b w h =
        let is : p ≡ q = same_pair-is p q e in
        let rest : without_pair p pairs ≡ pairs = without_pair-absent p pairs (ap (λ r. has r pairs) is ∙ d.0) in
        let here : eqb who p.1 ≡ b = ap (λ (r : Pair). eqb who r.1) is ∙ w in
        rw (e, here, w, rest) (either b)
      where
        either : (b : Bool) → length (cond b (q ∷ filter (λ r. eqb who r.1) pairs) (filter (λ r. eqb who r.1) pairs))
            ≡ (if b then suc (count_of who pairs) else count_of who pairs)
        either true = refl
        either false = refl
    by false e there' true w h = rw (e, w) (more (eqb who p.1) (h there'))
      where
        more : (c : Bool) → count_of who pairs ≡ (if c then suc (count_of who (without_pair p pairs)) else count_of who (without_pair p pairs))
            → suc (count_of who pairs) ≡ (if c then suc (suc (count_of who (without_pair p pairs))) else suc (count_of who (without_pair p pairs)))
        more true e = ap suc e
        more false e = ap suc e
    by false e there' false w h = rw (e, w) (h there')

-- a connection of which no pair is there has no name
count-none : (conn : ℕ) (pairs : List Pair) → ((name : List ℕ) → has (name, conn) pairs ≡ false) → count_of conn pairs ≡ 0
count-none conn [] none = refl
count-none conn (q ∷ pairs) none = by (eqb conn q.1) refl (count-none conn pairs)
  where
    by : (b : Bool) → eqb conn q.1 ≡ b → (((name : List ℕ) → has (name, conn) pairs ≡ false) → count_of conn pairs ≡ 0)
        → count_of conn (q ∷ pairs) ≡ 0
    by true e h = absurd (true≢false (sym (has-first q conn pairs e) ∙ none q.0))
    by false e h = rw e (h (λ name. sym (has-other name q conn pairs e) ∙ none name))

-- a pair that was taken out isn't there, and others are there as they were
has-gone : (p : Pair) (pairs : List Pair) → has p (without_pair p pairs) ≡ false
has-gone p [] = refl
has-gone p (q ∷ pairs) = by (same_pair p q) refl (has-gone p pairs)
  where
    by : (b : Bool) → same_pair p q ≡ b → has p (without_pair p pairs) ≡ false → has p (without_pair p (q ∷ pairs)) ≡ false
    by true e h = rw e h
    by false e h = rw e (rw e h)

has-stays : (p r : Pair) (pairs : List Pair) → same_pair p r ≡ false → has r (without_pair p pairs) ≡ has r pairs
has-stays p r [] apart = refl
has-stays p r (q ∷ pairs) apart = by (same_pair p q) refl (has-stays p r pairs apart)
  where
    by : (b : Bool) → same_pair p q ≡ b → has r (without_pair p pairs) ≡ has r pairs → has r (without_pair p (q ∷ pairs)) ≡ has r (q ∷ pairs)
    by true e h =
        let other : same_pair r q ≡ false = ap (same_pair r) (sym (same_pair-is p q e)) ∙ same_pair-turned r p ∙ apart in
        rw e (h ∙ ap (λ b. b || has r pairs) (sym other))
    by false e h = rw e (ap (λ b. same_pair r q || b) h)

pub count-agrees : (conn : ℕ) (xs ys : List Pair) → AreDistinct xs → AreDistinct ys
    → ((name : List ℕ) → has (name, conn) xs ≡ has (name, conn) ys) → count_of conn xs ≡ count_of conn ys
count-agrees conn [] ys dx dy same = sym (count-none conn ys (λ name. sym (same name)))
count-agrees conn (q ∷ xs) ys dx dy same = by (eqb conn q.1) refl (λ zs. count-agrees conn xs zs dx.1)
  where
    p : Pair
    p = (q.0, conn)

    -- the names but for this one
    each : eqb conn q.1 ≡ true → (name : List ℕ) (b : Bool) → same_text q.0 name ≡ b → has (name, conn) xs ≡ has (name, conn) (without_pair p ys)
    each e name true t =
        let is : q.0 ≡ name = (bytes_eq-Decides q.0 name).0 t in
        let mine : q ≡ p = λ i. (q.0, sym (eqb-true conn q.1 e) i) in
        ap (λ n. has (n, conn) xs) (sym is) ∙ ap (λ r. has r xs) (sym mine) ∙ dx.0 ∙ sym (has-gone p ys)
        ∙ ap (λ n. has (n, conn) (without_pair p ys)) is
    each e name false t =
        let apart : same_text name q.0 ≡ false = turned name q.0 ∙ t in
        ap (λ b. (b && eqb conn q.1) || has (name, conn) xs) (sym apart) ∙ same name
        ∙ sym (has-stays p (name, conn) ys (ap (λ b. b && eqb conn conn) t))

    by : (b : Bool) → eqb conn q.1 ≡ b
        → ((zs : List Pair) → AreDistinct zs → ((name : List ℕ) → has (name, conn) xs ≡ has (name, conn) zs) → count_of conn xs ≡ count_of conn zs)
        → count_of conn (q ∷ xs) ≡ count_of conn ys
    by true e h =
        let there : has p ys ≡ true = sym (same q.0) ∙ has-first q conn xs e in
        let less : count_of conn ys ≡ suc (count_of conn (without_pair p ys)) =
        count-without_pair p ys conn dy there
        ∙ ap (λ b. if b then suc (count_of conn (without_pair p ys)) else count_of conn (without_pair p ys)) (eq-eqb conn conn refl) in
        rw e (ap suc (h (without_pair p ys) (AreDistinct-filter _ ys dy) (λ name. each e name (same_text q.0 name) refl)) ∙ sym less)
    by false e h = rw e (h ys dy (λ name. sym (has-other name q conn xs e) ∙ same name))

pub count-filter : (test : Pair → Bool) (pairs : List Pair) (who : ℕ) → count_of who (filter test pairs) ≤ count_of who pairs
count-filter test [] who = omega arith
count-filter test (q ∷ pairs) who = by (test q) (eqb who q.1) refl (count-filter test pairs who)
  where
    by : (t b : Bool) → eqb who q.1 ≡ b → count_of who (filter test pairs) ≤ count_of who pairs
        → count_of who (cond t (q ∷ filter test pairs) (filter test pairs)) ≤ count_of who (q ∷ pairs)
    by true true e h = rw e (omega (arith, h))
    by true false e h = rw e h
    by false true e h = rw e (omega (arith, h))
    by false false e h = rw e h

pub count-with_member : (p : Pair) (pairs : List Pair) (who : ℕ) → count_of who pairs ≤ most_groups → count_of who (with_member p pairs) ≤ most_groups
count-with_member p pairs who few = by (has p pairs) refl (ltb (count_of p.1 pairs) most_groups) refl
  where
    one_more : has p pairs ≡ false → count_of p.1 pairs < most_groups → (b : Bool) → eqb who p.1 ≡ b
        → count_of who (pairs ++ p ∷ []) ≤ most_groups
    one_more out room true e =
        let pushed : count_of who (pairs ++ p ∷ []) ≡ suc (count_of who pairs) = count-push p pairs who ∙ rw e refl in
        let mine : count_of who pairs ≡ count_of p.1 pairs = ap (λ n. count_of n pairs) (eqb-true who p.1 e) in
        omega (arith, pushed, mine, room)
    one_more out room false e =
        let pushed : count_of who (pairs ++ p ∷ []) ≡ count_of who pairs = count-push p pairs who ∙ rw e refl in
        omega (arith, pushed, few)

    by : (b : Bool) → has p pairs ≡ b → (c : Bool) → ltb (count_of p.1 pairs) most_groups ≡ c
        → count_of who (if (b || c) then (if b then pairs else pairs ++ p ∷ []) else pairs) ≤ most_groups
    by true e c f = few
    by false e true f = one_more e (ltb-true _ _ f) (eqb who p.1) refl
    by false e false f = few
