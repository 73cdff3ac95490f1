-- Alarms in the order in which they come, and what the sleepers are after one connection changed.
use Rattle.std.proofs.Common.{◌≡◌, ℕ, ◌==◌, ◌<◌, ◌≤◌, Bool, true, false, not, ◌&&◌, List, [], ◌∷◌, ◌++◌, Option, Some, None}
use Rattle.std.proofs.Common.{refl, sym, ap, subst, ◌∙◌, arith, ◌⊎◌, inl, inr}
use Rattle.std.proofs.Common.{Ordering, Less, Equal, Greater}
use Rattle.std.specs.Prelude.{◌||◌, if◌then◌else◌}
use Rattle.std.specs.Ordering.{is_eq, nat_cmp, ordering_then, MatchOrdering}
use Rattle.std.specs.BTreeMap as tree
use Rattle.std.specs.BTreeMap.{BTreeMap, get, is_at}
use Rattle.std.specs.BTreeSet as set
use Rattle.std.specs.BTreeSet.{BTreeSet}
use Rattle.std.specs.List.{list_any, AllByRecursion}
use Rattle.std.specs.List.Sorted.{IsStrictlySortedBy}
use Rattle.std.specs.Cmp.{unsigned_tied}
use Rattle.std.specs.Vec.{vec_capacity}
use Rattle.std.proofs.lemmas.Bool.{eqb-true, eq-eqb, cond-true, cond-false, or_cases, or_left, or_right}
use Rattle.std.proofs.lemmas.Cmp.{ranked}
use Rattle.std.proofs.lemmas.Map.Keys.{sorted_head, sorted_tail}
use Rattle.hv_value.specs.SortedSet.{IsRising, is_in}
use Rattle.hub_machine.specs.declared.idle_set.Deadline.{Deadline}
use Rattle.hub_machine.specs.declared.idle_set.IdlePeer.{IdlePeer}
use Rattle.hub_machine.specs.declared.idle_set.IdleSet.{IdleSet}
use Rattle.hub_machine.specs.IdleSet.{AreRung, Changes, IsKept, deadline_in, in_order, is_set_in, idle_peer_of}
use Rattle.hub_machine.specs.Spreads.{is_listed}
use Rattle.hub_machine.proofs.Doing as doing
use Rattle.hub_machine.proofs.Ends as ends

-- ---- two alarms

abbrev pub at : ℕ → ℕ → Deadline
at moment conn = record { moment = moment; conn = conn }

-- those of two connections are apart
pub apart : (a b : Deadline) → (a.conn == b.conn) ≡ false → is_at (in_order a) b ≡ false
apart a b e = go (nat_cmp a.moment b.moment)
  where
    go : (o : Ordering) → is_eq (ordering_then o (nat_cmp a.conn b.conn)) ≡ false
    go Less = refl
    go Equal = ends.apart a.conn b.conn e
    go Greater = refl

-- one that is found is the same
same : (a b : Deadline) → is_at (in_order a) b ≡ true → (a.moment ≡ b.moment) × (a.conn ≡ b.conn)
same a b e =
    go (nat_cmp a.moment b.moment) (nat_cmp a.conn b.conn) (ranked a.moment b.moment (nat_cmp a.moment b.moment) refl)
    (ranked a.conn b.conn (nat_cmp a.conn b.conn) refl) e
  where
    go : (o p : Ordering) → MatchOrdering o (a.moment < b.moment) (a.moment ≡ b.moment) (b.moment < a.moment)
        → MatchOrdering p (a.conn < b.conn) (a.conn ≡ b.conn) (b.conn < a.conn) → is_eq (ordering_then o p) ≡ true
        → (a.moment ≡ b.moment) × (a.conn ≡ b.conn)
    go Equal Equal m c f = (m, c)
    go Equal Less m c f = absurd (let z : false ≡ true = f in cc)
    go Equal Greater m c f = absurd (let z : false ≡ true = f in cc)
    go Less p m c f = absurd (let z : false ≡ true = f in cc)
    go Greater p m c f = absurd (let z : false ≡ true = f in cc)

-- one before another comes no later
no_later : (a b : Deadline) → in_order a b ≡ Less → a.moment ≤ b.moment
no_later a b e = go (nat_cmp a.moment b.moment) (ranked a.moment b.moment (nat_cmp a.moment b.moment) refl) e
  where
    go : (o : Ordering) → MatchOrdering o (a.moment < b.moment) (a.moment ≡ b.moment) (b.moment < a.moment)
        → ordering_then o (nat_cmp a.conn b.conn) ≡ Less → a.moment ≤ b.moment
    go Less m f = omega (arith, m)
    go Equal m f = omega (arith, m)
    go Greater m f = absurd (let z : Greater ≡ Less = f in cc)

-- ---- what changes at one connection

-- what a map has at each number after a change at one
pub updated : {X : Type 0} (m n : BTreeMap ℕ X) (c : ℕ) (w : Option X) → tree.Updates nat_cmp m n c w
    → (k : ℕ) → get nat_cmp n k ≡ (if c == k then w else get nat_cmp m k)
updated m n c w updates k = go (c == k) refl
  where
    go : (b : Bool) → (c == k) ≡ b → get nat_cmp n k ≡ (if b then w else get nat_cmp m k)
    go true e = subst (λ j. get nat_cmp n j ≡ w) (eqb-true c k e) updates.1
    go false e = updates.2 k (ends.apart c k e)

-- a number isn't one of those that are awake any more
pub leaves : (c : ℕ) (xs ys : List ℕ) → ((n : ℕ) → is_in n ys ≡ (is_in n xs && not (n == c)))
    → (k : ℕ) → is_in k ys ≡ (if c == k then false else is_in k xs)
leaves c xs ys removed k = go (c == k) refl
  where
    none : (b : Bool) → (b && false) ≡ false
    none true = refl
    none false = refl

    all : (b : Bool) → (b && true) ≡ b
    all true = refl
    all false = refl

    go : (b : Bool) → (c == k) ≡ b → is_in k ys ≡ (if b then false else is_in k xs)
    go true e = removed k ∙ ap (λ b. is_in k xs && not b) (eq-eqb k c (sym (eqb-true c k e))) ∙ none (is_in k xs)
    go false e = removed k ∙ ap (λ b. is_in k xs && not b) (doing.apart c k e) ∙ all (is_in k xs)

-- where the nap of one changes, and of its alarms just that of the nap is set, those of others are set as they were
pub kept_by : (old new : IdleSet) (c : ℕ) (idle_peer : Option IdlePeer) → IsKept old → IsRising new.awake.numbers.items
    → ((k : ℕ) → idle_peer_of new k ≡ (if c == k then idle_peer else idle_peer_of old k))
    → ((moment : ℕ) → deadline_in idle_peer ≡ Some moment → is_set_in new moment c ≡ true)
    → ((moment : ℕ) → is_set_in new moment c ≡ true → deadline_in idle_peer ≡ Some moment)
    → ((k moment : ℕ) → (c == k) ≡ false → is_set_in new moment k ≡ is_set_in old moment k) → IsKept new
kept_by old new c idle_peer kept rising idle_peers own no_more others = record {
  rising = rising;
  set = λ k moment e. go k moment (c == k) refl e;
  only = λ k moment e. back k moment (c == k) refl e;
}
  where
    go : (k moment : ℕ) (b : Bool) → (c == k) ≡ b → deadline_in (idle_peer_of new k) ≡ Some moment → is_set_in new moment k ≡ true
    go k moment true e f =
        subst (λ j. is_set_in new moment j ≡ true) (eqb-true c k e)
        (own moment (sym (ap deadline_in (idle_peers k ∙ cond-true (c == k) idle_peer (idle_peer_of old k) e)) ∙ f))
    go k moment false e f =
        others k moment e ∙ kept.set k moment (sym (ap deadline_in (idle_peers k ∙ cond-false (c == k) idle_peer (idle_peer_of old k) e)) ∙ f)

    back : (k moment : ℕ) (b : Bool) → (c == k) ≡ b → is_set_in new moment k ≡ true → deadline_in (idle_peer_of new k) ≡ Some moment
    back k moment true e f =
        ap deadline_in (idle_peers k ∙ cond-true (c == k) idle_peer (idle_peer_of old k) e)
        ∙ no_more moment (subst (λ j. is_set_in new moment j ≡ true) (sym (eqb-true c k e)) f)
    back k moment false e f =
        ap deadline_in (idle_peers k ∙ cond-false (c == k) idle_peer (idle_peer_of old k) e) ∙ kept.only k moment (sym (others k moment e) ∙ f)

-- no alarm of one that is awake is set
pub unset_awake : (old : IdleSet) (c : ℕ) → IsKept old → idle_peer_of old c ≡ None → (moment : ℕ) → is_set_in old moment c ≡ true → ⊥
unset_awake old c kept awake moment e = let z : ◌≡◌ {A = Option ℕ} None (Some moment) = sym (ap deadline_in awake) ∙ kept.only c moment e in cc

-- one without a nap has no alarm, where none was set
pub none_set : (s : IdleSet) (c : ℕ) → ((moment : ℕ) → is_set_in s moment c ≡ false) → (moment : ℕ) → is_set_in s moment c ≡ true
    → deadline_in None ≡ Some moment
none_set s c none moment e = absurd (let z : false ≡ true = sym (none moment) ∙ e in cc)

-- the alarms of a connection that falls asleep, once its own is set, if it has one
abbrev pub SetsDeadline : Option ℕ → ℕ → BTreeSet Deadline → BTreeSet Deadline → Type 0
SetsDeadline None c old new = new ≡ old
SetsDeadline (Some moment) c old new = set.Updates in_order old new (at moment c) true

-- and of one that wakes, once its own is removed
abbrev pub UnsetsDeadline : Option ℕ → ℕ → BTreeSet Deadline → BTreeSet Deadline → Type 0
UnsetsDeadline None c old new = new ≡ old
UnsetsDeadline (Some moment) c old new = set.Updates in_order old new (at moment c) false

own_set : (deadline : Option ℕ) (c : ℕ) (old new : BTreeSet Deadline) → SetsDeadline deadline c old new → (moment : ℕ) → deadline ≡ Some moment
    → set.contains in_order new (at moment c) ≡ true
own_set None c old new sets moment e = absurd (let z : ◌≡◌ {A = Option ℕ} None (Some moment) = e in cc)
own_set (Some m) c old new sets moment e =
    let is : m ≡ moment = (let z : Some m ≡ Some moment = e in cc) in
    subst (λ n. set.contains in_order new (at n c) ≡ true) is sets.1

others_set : (deadline : Option ℕ) (c : ℕ) (old new : BTreeSet Deadline) → SetsDeadline deadline c old new → (k moment : ℕ) → (c == k) ≡ false
    → set.contains in_order new (at moment k) ≡ set.contains in_order old (at moment k)
others_set None c old new sets k moment e = ap (λ s. set.contains in_order s (at moment k)) sets
others_set (Some m) c old new sets k moment e = sets.2 (at moment k) (apart (at m c) (at moment k) e)

own_only : (deadline : Option ℕ) (c : ℕ) (old new : BTreeSet Deadline) → SetsDeadline deadline c old new
    → ((moment : ℕ) → set.contains in_order old (at moment c) ≡ true → ⊥) → (moment : ℕ) → set.contains in_order new (at moment c) ≡ true
    → deadline ≡ Some moment
own_only None c old new sets none moment e = absurd (none moment (sym (ap (λ s. set.contains in_order s (at moment c)) sets) ∙ e))
own_only (Some m) c old new sets none moment e = go (is_at (in_order (at m c)) (at moment c)) refl
  where
    go : (b : Bool) → is_at (in_order (at m c)) (at moment c) ≡ b → Some m ≡ Some moment
    go true f = ap (λ n. Some n) (same (at m c) (at moment c) f).0
    go false f = absurd (none moment (sym (sets.2 (at moment c) f) ∙ e))

-- an alarm that was removed is set no more, and no other was
pub own_unset : (deadline : Option ℕ) (c : ℕ) (old new : BTreeSet Deadline) → UnsetsDeadline deadline c old new → (moment : ℕ)
    → (set.contains in_order old (at moment c) ≡ true → deadline ≡ Some moment) → set.contains in_order new (at moment c) ≡ false
own_unset deadline c old new unsets moment only = by deadline unsets only (set.contains in_order old (at moment c)) refl
  where
    by : (deadline : Option ℕ) → UnsetsDeadline deadline c old new → (set.contains in_order old (at moment c) ≡ true → deadline ≡ Some moment)
        → (b : Bool) → set.contains in_order old (at moment c) ≡ b → set.contains in_order new (at moment c) ≡ false
    by None unsets only true e = absurd (let z : ◌≡◌ {A = Option ℕ} None (Some moment) = only e in cc)
    by None unsets only false e = ap (λ s. set.contains in_order s (at moment c)) unsets ∙ e
    by (Some m) unsets only true e =
        let is : m ≡ moment = (let z : Some m ≡ Some moment = only e in cc) in
        subst (λ n. set.contains in_order new (at n c) ≡ false) is unsets.1
    by (Some m) unsets only false e = go (is_at (in_order (at m c)) (at moment c)) refl
      where
        go : (b : Bool) → is_at (in_order (at m c)) (at moment c) ≡ b → set.contains in_order new (at moment c) ≡ false
        go true f = subst (λ n. set.contains in_order new (at n c) ≡ false) (same (at m c) (at moment c) f).0 unsets.1
        go false f = unsets.2 (at moment c) f ∙ e

-- its alarm was set, and now it has its nap, and is awake no more
pub record Naps (mid new : IdleSet) (c : ℕ) (idle_peer : IdlePeer) : Type 0 where
  pub idle_peers : tree.Updates nat_cmp mid.idle_peers new.idle_peers c (Some idle_peer)
  pub removed : IsRising mid.awake.numbers.items → (n : ℕ) → is_in n new.awake.numbers.items ≡ (is_in n mid.awake.numbers.items && not (n == c))
  pub rising : IsRising mid.awake.numbers.items → IsRising new.awake.numbers.items
  pub capacity : vec_capacity mid.awake.numbers ≤ vec_capacity new.awake.numbers
  pub deadlines : new.deadlines ≡ mid.deadlines
  pub clock : new.clock ≡ mid.clock

pub falls_asleep : (old mid new : IdleSet) (c : ℕ) (idle_peer : IdlePeer) (deadlines : BTreeSet Deadline) → mid ≡ record old { deadlines = deadlines }
    → SetsDeadline idle_peer.deadline c old.deadlines deadlines → Naps mid new c idle_peer → IsKept old
    → idle_peer_of old c ≡ None → Changes old new c (Some idle_peer) false
falls_asleep old mid new c idle_peer deadlines is sets slept kept awake = record {
  kept = kept_by old new c (Some idle_peer) kept (now.rising kept.rising) idle_peers (own_set idle_peer.deadline c old.deadlines new.deadlines set_now)
      (own_only idle_peer.deadline c old.deadlines new.deadlines set_now (unset_awake old c kept awake))
      (others_set idle_peer.deadline c old.deadlines new.deadlines set_now);
  idle_peers = idle_peers;
  awake = leaves c old.awake.numbers.items new.awake.numbers.items (now.removed kept.rising);
  clock = now.clock;
  capacity = now.capacity;
}
  where
    now : Naps (record old { deadlines = deadlines }) new c idle_peer
    now = subst (λ m. Naps m new c idle_peer) is slept

    idle_peers : (k : ℕ) → idle_peer_of new k ≡ (if c == k then Some idle_peer else idle_peer_of old k)
    idle_peers = updated old.idle_peers new.idle_peers c (Some idle_peer) now.idle_peers

    set_now : SetsDeadline idle_peer.deadline c old.deadlines new.deadlines
    set_now = subst (λ s. SetsDeadline idle_peer.deadline c old.deadlines s) (sym now.deadlines) sets

-- ---- those that have come

-- the alarms that were looked at are listed, since they have come, and the others come in order
pub record RungSoFar (s : IdleSet) (now : ℕ) (conns : List ℕ) (rest : List Deadline) : Type 0 where
  pub each : (c moment : ℕ) → is_set_in s moment c ≡ true → (is_listed c conns ≡ true) ⊎ (list_any (is_at (in_order (at moment c))) rest ≡ true)
  pub ordered : IsStrictlySortedBy in_order rest
  pub only : (c : ℕ) → is_listed c conns ≡ true → (moment : ℕ) × (is_set_in s moment c ≡ true) × (moment ≤ now)
  pub left : (c moment : ℕ) → list_any (is_at (in_order (at moment c))) rest ≡ true → is_set_in s moment c ≡ true

either : (a b d : Bool) → (a || (b || d)) ≡ ((a || b) || d)
either true b d = refl
either false b d = refl

listed_append : (c : ℕ) (xs ys : List ℕ) → is_listed c (xs ++ ys) ≡ (is_listed c xs || is_listed c ys)
listed_append c [] ys = refl
listed_append c (x ∷ xs) ys =
    ap (λ (b : Bool). (c == x) || b) (listed_append c xs ys) ∙ either (c == x) (is_listed c xs) (is_listed c ys)

-- an alarm is the same as itself
itself : (a : Deadline) → is_at (in_order a) a ≡ true
itself a = go (nat_cmp a.moment a.moment) (unsigned_tied a.moment a.moment ∙ eq-eqb a.moment a.moment refl)
  where
    go : (o : Ordering) → is_eq o ≡ true → is_eq (ordering_then o (nat_cmp a.conn a.conn)) ≡ true
    go Equal e = unsigned_tied a.conn a.conn ∙ eq-eqb a.conn a.conn refl
    go Less e = absurd (let z : false ≡ true = e in cc)
    go Greater e = absurd (let z : false ≡ true = e in cc)

pub one_rung : (s : IdleSet) (now : ℕ) (conns : List ℕ) (a : Deadline) (rest : List Deadline) → RungSoFar s now conns (a ∷ rest) → a.moment ≤ now
    → RungSoFar s now (conns ++ a.conn ∷ []) rest
one_rung s now conns a rest so_far come = record {
  each = λ c moment is. elim (so_far.each c moment is) [
    | inl e ↦ inl (listed_append c conns (a.conn ∷ []) ∙ or_left (is_listed c conns) (is_listed c (a.conn ∷ [])) e)
    | inr e ↦ elim (or_cases (is_at (in_order (at moment c)) a) (list_any (is_at (in_order (at moment c))) rest) e) [
      | inl f ↦ inl (listed_append c conns (a.conn ∷ []) ∙ or_right (is_listed c conns) (is_listed c (a.conn ∷ []))
          (or_left (c == a.conn) false (eq-eqb c a.conn (same (at moment c) a f).1)))
      | inr f ↦ inr f
    ]
  ];
  ordered = sorted_tail in_order a rest so_far.ordered;
  only = λ c e. elim (or_cases (is_listed c conns) (is_listed c (a.conn ∷ [])) (sym (listed_append c conns (a.conn ∷ [])) ∙ e)) [
    | inl f ↦ so_far.only c f
    | inr f ↦ (a.moment, so_far.left c a.moment (or_left (is_at (in_order (at a.moment c)) a) (list_any (is_at (in_order (at a.moment c))) rest) (here c f)), come)
  ];
  left = λ c moment e.
      so_far.left c moment (or_right (is_at (in_order (at moment c)) a) (list_any (is_at (in_order (at moment c))) rest) e);
}
  where
    here : (c : ℕ) → is_listed c (a.conn ∷ []) ≡ true → is_at (in_order (at a.moment c)) a ≡ true
    here c e = elim (or_cases (c == a.conn) false e) [
      | inl f ↦ subst (λ n. is_at (in_order (at a.moment n)) a ≡ true) (sym (eqb-true c a.conn f)) (itself a)
      | inr f ↦ absurd (let z : false ≡ true = f in cc)
    ]

-- those after one come no earlier
no_earlier : (a : Deadline) (rest : List Deadline) (c moment : ℕ) → AllByRecursion (λ y. in_order a y ≡ Less) rest
    → list_any (is_at (in_order (at moment c))) rest ≡ true → a.moment ≤ moment
no_earlier a [] c moment all e = absurd (let z : false ≡ true = e in cc)
no_earlier a (b ∷ rest) c moment all e = elim (or_cases (is_at (in_order (at moment c)) b) (list_any (is_at (in_order (at moment c))) rest) e) [
  | inl f ↦ (let l = no_later a b all.0 in let is = (same (at moment c) b f).0 in omega (arith, l, is))
  | inr f ↦ no_earlier a rest c moment all.1 f
]

-- the next comes after the moment, so that all that have come are listed
pub all_rung_before : (s : IdleSet) (conns : List ℕ) (a : Deadline) (rest : List Deadline) (now : ℕ) → RungSoFar s now conns (a ∷ rest)
    → now < a.moment → AreRung s now conns
all_rung_before s conns a rest now so_far late = record {
  all = λ c moment is come. elim (so_far.each c moment is) [
    | inl e ↦ e
    | inr e ↦ elim (or_cases (is_at (in_order (at moment c)) a) (list_any (is_at (in_order (at moment c))) rest) e) [
      | inl f ↦ absurd (let m = (same (at moment c) a f).0 in omega (arith, m, late, come))
      | inr f ↦ absurd (let l = no_earlier a rest c moment (sorted_head in_order a rest so_far.ordered) f in omega (arith, l, late, come))
    ]
  ];
  only = so_far.only;
}

-- none comes after the moment
pub all_rung : (s : IdleSet) (conns : List ℕ) (now : ℕ) → RungSoFar s now conns [] → AreRung s now conns
all_rung s conns now so_far = record {
  all = λ c moment is come. elim (so_far.each c moment is) [ inl e ↦ e | inr e ↦ absurd (let z : false ≡ true = e in cc) ];
  only = so_far.only;
}
