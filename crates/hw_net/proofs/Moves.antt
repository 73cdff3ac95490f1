-- What one call does on each lane of a door.
use Rattle.std.proofs.Common.{◌≡◌, ◌⊎◌, ◌≤◌, ◌<◌, ◌==◌, ◌+◌, ◌++◌, ◌∷◌, [], ℕ, zero, suc, Bool, true, false, not, cond, List, Option, None, Some, refl, sym, ap, ◌∙◌, subst, inl, inr, arith, length, take, drop, take-append-drop, append_assoc, append-nil, Contains, slice_index_or}
use Rattle.std.proofs.lemmas.List.{map-append}
use Rattle.hw_door.specs.declared.heard.Event.{Event}
use Rattle.hw_door.specs.declared.heard.Event.TheVariants as event
use Rattle.hw_door.specs.Traffic.{Answer, none_ready}
use Rattle.hw_net.specs.Door.{ListensOrRests, ListenOrRest, Searches, kept, index_of_first}
use Rattle.hw_net.specs.Lane.{Lane, wires_of, is_over}
use Rattle.hw_net.specs.Rising.{IsRising}
use Rattle.hw_net.specs.Trace.{Chooses}
use Rattle.hw_net.specs.Turn.{Listens, Turns, TurnAll, AtLane}
use Rattle.hw_net.proofs.Bystanders.{SaysOrStays, ended-says}
use Rattle.hw_net.proofs.Owning.{is_on, IsOn, Keeps, listens-keeps, turns-keeps}
use Rattle.hw_net.proofs.Shares.{AreOwn, share, share-append, own-share, off-share, turned, other}

-- ---- lists of lanes

abbrev pub Has : List Lane → Lane → Type 0
Has [] x = ⊥
Has (lane ∷ lanes) x = (lane ≡ x) ⊎ Has lanes x

-- at one place the first list has the one lane and the second the other
abbrev pub Pair : List Lane → List Lane → Lane → Lane → Type 0
Pair [] after x y = ⊥
Pair (lane ∷ lanes) [] x y = ⊥
Pair (lane ∷ lanes) (next ∷ after) x y = ((lane ≡ x) × (next ≡ y)) ⊎ Pair lanes after x y

abbrev pub Without : ℕ → List Lane → Type 0
Without wire lanes = (x : Lane) → Has lanes x → (x.wire == wire) ≡ false

abbrev pub AreDistinct : List Lane → Type 0
AreDistinct [] = Unit {0}
AreDistinct (lane ∷ lanes) = Without lane.wire lanes × AreDistinct lanes

pub has-at : (lanes : List Lane) (x : Lane) (k : ℕ) → k < length lanes → slice_index_or lanes k x ≡ x → Has lanes x
has-at [] x k lt e = absurd (omega (arith, lt))
has-at (lane ∷ lanes) x zero lt e = inl e
has-at (lane ∷ lanes) x (suc k) lt e = inr (has-at lanes x k (omega (arith, lt)) e)

pub has-of : (lanes : List Lane) (x : Lane) → Contains lanes x → Has lanes x
has-of lanes x h = has-at lanes x h.0 h.1 h.2

pub contains-of : (lanes : List Lane) (x : Lane) → Has lanes x → Contains lanes x
contains-of [] x h = absurd h
contains-of (lane ∷ lanes) x (inl e) = (0, omega arith, e)
contains-of (lane ∷ lanes) x (inr h) =
    let c = contains-of lanes x h in (suc c.0, go c.0 c.1, c.2) where
      go : (k : ℕ) → k < length lanes → suc k < suc (length lanes)
      go k lt = omega (arith, lt)

pub has-front : (xs ys : List Lane) (x : Lane) → Has xs x → Has (xs ++ ys) x
has-front [] ys x h = absurd h
has-front (l ∷ xs) ys x (inl e) = inl e
has-front (l ∷ xs) ys x (inr h) = inr (has-front xs ys x h)

pub has-back : (xs ys : List Lane) (x : Lane) → Has ys x → Has (xs ++ ys) x
has-back [] ys x h = h
has-back (l ∷ xs) ys x h = inr (has-back xs ys x h)

pub has-part : (xs ys : List Lane) (x : Lane) → Has (xs ++ ys) x → Has xs x ⊎ Has ys x
has-part [] ys x h = inr h
has-part (l ∷ xs) ys x (inl e) = inl (inl e)
has-part (l ∷ xs) ys x (inr h) = go (has-part xs ys x h) where
  go : Has xs x ⊎ Has ys x → Has (l ∷ xs) x ⊎ Has ys x
  go (inl k) = inl (inr k)
  go (inr k) = inr k

pub has-rotated : (xs ys : List Lane) (x : Lane) → Has (xs ++ ys) x → Has (ys ++ xs) x
has-rotated xs ys x h = go (has-part xs ys x h) where
  go : Has xs x ⊎ Has ys x → Has (ys ++ xs) x
  go (inl k) = has-back ys xs x k
  go (inr k) = has-front ys xs x k

pub has-kept : (lanes : List Lane) (x : Lane) → Has (kept lanes) x → Has lanes x
has-kept [] x h = absurd h
has-kept (lane ∷ lanes) x h = go (not (is_over lane.stage)) h (has-kept lanes x) where
  go : (b : Bool) → Has (cond b (lane ∷ kept lanes) (kept lanes)) x → (Has (kept lanes) x → Has lanes x) → (lane ≡ x) ⊎ Has lanes x
  go true (inl e) again = inl e
  go true (inr h) again = inr (again h)
  go false h again = inr (again h)

distinct-joined : (xs ys : List Lane) → AreDistinct xs → AreDistinct ys → ((x y : Lane) → Has xs x → Has ys y → (y.wire == x.wire) ≡ false) → AreDistinct (xs ++ ys)
distinct-joined [] ys h k c = k
distinct-joined (l ∷ xs) ys h k c = (
  λ x has. go x (has-part xs ys x has),
  distinct-joined xs ys h.1 k (λ x y p q. c x y (inr p) q),
) where
  go : (x : Lane) → Has xs x ⊎ Has ys x → (x.wire == l.wire) ≡ false
  go x (inl p) = h.0 x p
  go x (inr q) = c l x (inl refl) q

distinct-parts : (xs ys : List Lane) → AreDistinct (xs ++ ys) → AreDistinct xs × AreDistinct ys × ((x y : Lane) → Has xs x → Has ys y → (y.wire == x.wire) ≡ false)
distinct-parts [] ys h = (tt, h, λ x y p q. absurd p)
distinct-parts (l ∷ xs) ys h =
    let again = distinct-parts xs ys h.1 in (
      (λ x has. h.0 x (has-front xs ys x has), again.0),
      again.1,
      go again.2,
    ) where
      go : ((x y : Lane) → Has xs x → Has ys y → (y.wire == x.wire) ≡ false) → (x y : Lane) → (l ≡ x) ⊎ Has xs x → Has ys y → (y.wire == x.wire) ≡ false
      go c x y (inl e) q = subst (λ (z : Lane). (y.wire == z.wire) ≡ false) e (h.0 y (has-back xs ys y q))
      go c x y (inr p) q = c x y p q

distinct-rotated : (xs ys : List Lane) → AreDistinct (xs ++ ys) → AreDistinct (ys ++ xs)
distinct-rotated xs ys h =
    let parts = distinct-parts xs ys h in
    distinct-joined ys xs parts.1 parts.0 (λ y x p q. turned y.wire x.wire (parts.2 x y q p))

pub rising-within : (from bound : ℕ) (lanes : List Lane) (x : Lane) → IsRising from bound (wires_of lanes) → Has lanes x → (from ≤ x.wire) × (x.wire + 1 ≤ bound)
rising-within from bound [] x h k = absurd k
rising-within from bound (lane ∷ lanes) x h (inl e) = subst (λ (l : Lane). (from ≤ l.wire) × (l.wire + 1 ≤ bound)) e (h.0, rising-least (lane.wire + 1) bound (wires_of lanes) h.1) where
  rising-least : (from bound : ℕ) (wires : List ℕ) → IsRising from bound wires → from ≤ bound
  rising-least from bound [] h = h
  rising-least from bound (w ∷ ws) h = let k = rising-least (w + 1) bound ws h.1 in omega (arith, k, h.0)
rising-within from bound (lane ∷ lanes) x h (inr k) =
    let again = rising-within (lane.wire + 1) bound lanes x h.1 k in (omega (arith, again.0, h.0), again.1)

pub rising-distinct : (from bound : ℕ) (lanes : List Lane) → IsRising from bound (wires_of lanes) → AreDistinct lanes
rising-distinct from bound [] h = tt
rising-distinct from bound (lane ∷ lanes) h = (λ x has. go x (rising-within (lane.wire + 1) bound lanes x h.1 has).0, rising-distinct (lane.wire + 1) bound lanes h.1) where
  go : (x : Lane) → lane.wire + 1 ≤ x.wire → (x.wire == lane.wire) ≡ false
  go x le = grind (arith, le)

pub rising-without : (from bound : ℕ) (lanes : List Lane) (wire : ℕ) → IsRising from bound (wires_of lanes) → bound ≤ wire → Without wire lanes
rising-without from bound lanes wire h le = λ x has. go x (rising-within from bound lanes x h has).1 where
  go : (x : Lane) → x.wire + 1 ≤ bound → (x.wire == wire) ≡ false
  go x k = grind (arith, le, k)

pub pair-first : (lanes after : List Lane) (x y : Lane) → Pair lanes after x y → Has lanes x
pair-first [] after x y h = absurd h
pair-first (lane ∷ lanes) [] x y h = absurd h
pair-first (lane ∷ lanes) (next ∷ after) x y (inl e) = inl e.0
pair-first (lane ∷ lanes) (next ∷ after) x y (inr h) = inr (pair-first lanes after x y h)

pub pair-last : (lanes after : List Lane) (x y : Lane) → Pair lanes after x y → Has after y
pair-last [] after x y h = absurd h
pair-last (lane ∷ lanes) [] x y h = absurd h
pair-last (lane ∷ lanes) (next ∷ after) x y (inl e) = inl e.1
pair-last (lane ∷ lanes) (next ∷ after) x y (inr h) = inr (pair-last lanes after x y h)

pub same-pair : (lanes : List Lane) (y : Lane) → Has lanes y → Pair lanes lanes y y
same-pair [] y h = absurd h
same-pair (lane ∷ lanes) y (inl e) = inl (e, e)
same-pair (lane ∷ lanes) y (inr h) = inr (same-pair lanes y h)

-- in a list with itself both are the same
pub pair-same : (lanes : List Lane) (x y : Lane) → Pair lanes lanes x y → y ≡ x
pair-same [] x y h = absurd h
pair-same (lane ∷ lanes) x y (inl e) = sym e.1 ∙ e.0
pair-same (lane ∷ lanes) x y (inr h) = pair-same lanes x y h

-- ---- turns

-- if anything is heard, it isn't heard on this lane
abbrev pub IsOff : ℕ → Option Event → Type 0
IsOff wire None = Unit {0}
IsOff wire (Some heard) = is_on wire heard ≡ false

-- what a lane hears is what is heard, and if it hears nothing, nothing is heard on it
abbrev pub Fits : ℕ → Option Event → Option Event → Type 0
Fits wire None heard = IsOff wire heard
Fits wire (Some trace) heard = heard ≡ Some trace

-- a turn in a call in which this is heard: the lane listened, or it only wrote, if it did anything
abbrev pub Turned : ℕ → Option Event → Lane → Lane → List Answer → Type 0
Turned now heard x y mine =
    ((own : Option Event) × Listens now x y mine own × Fits x.wire own heard) ⊎ (SaysOrStays now x y mine × IsOff x.wire heard)

-- on another lane it isn't
off-other : (v w : ℕ) (heard : Event) → is_on v heard ≡ true → (v == w) ≡ false → is_on w heard ≡ false
off-other v w (event.Request at request) h k = other at v w h k
off-other v w (event.Refused at refusal) h k = other at v w h k
off-other v w (event.Bytes at bytes) h k = other at v w h k
off-other v w (event.Response at status body) h k = other at v w h k
off-other v w (event.Upgraded at) h k = other at v w h k
off-other v w (event.Lost at) h k = other at v w h k
off-other v w (event.Drained at) h k = other at v w h k
off-other v w event.Quiet h k = refl

pub off-if : (v w : ℕ) (heard : Option Event) → IsOn v heard → (v == w) ≡ false → IsOff w heard
off-if v w None h k = tt
off-if v w (Some trace) h k = off-other v w trace h k

pub keep : (now : ℕ) (trace : Event) (lanes after : List Lane) (answers : List Answer) (heard : Option Event) → TurnAll now (Some trace) lanes after answers heard → heard ≡ Some trace
keep now trace [] after answers heard h = h.2
keep now trace (lane ∷ lanes) after answers heard h =
    keep now trace lanes h.2 h.4 heard (subst (λ (o : Option Event). TurnAll now o lanes h.2 h.4 heard) h.7.0 h.8)

off-answers : (now : ℕ) (trace : Option Event) (lanes after : List Lane) (answers : List Answer) (heard : Option Event) (wire : ℕ) → TurnAll now trace lanes after answers heard → Without wire lanes → share wire answers ≡ []
off-answers now trace [] after answers heard wire h off = ap (λ l. share wire l) h.1
off-answers now trace (lane ∷ lanes) after answers heard wire h off =
    ap (λ l. share wire l) h.6 ∙ share-append wire h.3 h.4
    ∙ ap (λ l. l ++ share wire h.4) (off-share lane.wire wire h.3 (off lane (inl refl)) (turns-keeps now trace lane h.1 h.3 h.0 h.7).1)
    ∙ off-answers now h.0 lanes h.2 h.4 heard wire h.8 (λ x has. off x (inr has))

off-event : (now : ℕ) (trace : Option Event) (lanes after : List Lane) (answers : List Answer) (heard : Option Event) (wire : ℕ) → TurnAll now trace lanes after answers heard → Without wire lanes → IsOff wire trace → IsOff wire heard
off-event now trace [] after answers heard wire h off is = subst (λ (o : Option Event). IsOff wire o) (sym h.2) is
off-event now (Some trace) (lane ∷ lanes) after answers heard wire h off is =
    subst (λ (o : Option Event). IsOff wire o) (sym (keep now trace (lane ∷ lanes) after answers heard h)) is
off-event now None (lane ∷ lanes) after answers heard wire h off is =
    off-event now h.0 lanes h.2 h.4 heard wire h.8 (λ x has. off x (inr has)) (off-if lane.wire wire h.0 (listens-keeps now lane h.1 h.3 h.0 h.7).1 (off lane (inl refl)))

first-turn : (now : ℕ) (trace mid heard : Option Event) (lane next : Lane) (lanes rest : List Lane) (mine more : List Answer) → Turns now trace lane next mine mid → TurnAll now mid lanes rest more heard →
    Without lane.wire lanes → IsOff lane.wire trace → Turned now heard lane next mine
first-turn now None None heard lane next lanes rest mine more one all off is = inl (None, one, off-event now None lanes rest more heard lane.wire all off tt)
first-turn now None (Some mid) heard lane next lanes rest mine more one all off is = inl (Some mid, one, keep now mid lanes rest more heard all)
first-turn now (Some trace) mid heard lane next lanes rest mine more one all off is =
    inr (ended-says now lane next mine one.1, subst (λ (o : Option Event). IsOff lane.wire o) (sym (keep now trace lanes rest more heard (subst (λ (o : Option Event). TurnAll now o lanes rest more heard) one.0 all))) is)

mid-off : (now : ℕ) (trace mid : Option Event) (lane next : Lane) (lanes : List Lane) (mine : List Answer) → Turns now trace lane next mine mid → Without lane.wire lanes → ((z : Lane) → Has (lane ∷ lanes) z → IsOff z.wire trace) →
    (z : Lane) → Has lanes z → IsOff z.wire mid
mid-off now None mid lane next lanes mine one off is z has = off-if lane.wire z.wire mid (listens-keeps now lane next mine mid one).1 (turned z.wire lane.wire (off z has))
mid-off now (Some trace) mid lane next lanes mine one off is z has = subst (λ (o : Option Event). IsOff z.wire o) (sym one.0) (is z (inr has))

-- a lane's turn, and its share of what the wires answered
abbrev pub TurnedIn : ℕ → Option Event → List Answer → Lane → Lane → Type 0
TurnedIn now heard answers x y = Turned now heard x y (share x.wire answers)

pub turned-in : (now : ℕ) (trace heard : Option Event) (lanes after : List Lane) (answers : List Answer) → TurnAll now trace lanes after answers heard → AreDistinct lanes → ((z : Lane) → Has lanes z → IsOff z.wire trace) →
    (x y : Lane) → Pair lanes after x y → TurnedIn now heard answers x y
turned-in now trace heard [] after answers h distinct is x y p = absurd p
turned-in now trace heard (lane ∷ lanes) after answers h distinct is x y p = go (subst (λ (l : List Lane). Pair (lane ∷ lanes) l x y) h.5 p) (turned-in now h.0 heard lanes h.2 h.4 h.8 distinct.1 (mid-off now trace h.0 lane h.1 lanes h.3 h.7 distinct.0 is) x y) where
  own : AreOwn lane.wire h.3
  own = (turns-keeps now trace lane h.1 h.3 h.0 h.7).1

  shares : (wire : ℕ) → share wire answers ≡ share wire h.3 ++ share wire h.4
  shares wire = ap (λ l. share wire l) h.6 ∙ share-append wire h.3 h.4

  mine : share lane.wire answers ≡ h.3
  mine = shares lane.wire ∙ ap (λ l. l ++ share lane.wire h.4) (own-share lane.wire h.3 own) ∙ ap (λ l. h.3 ++ l) (off-answers now h.0 lanes h.2 h.4 heard lane.wire h.8 distinct.0) ∙ append-nil h.3

  here : TurnedIn now heard answers lane h.1
  here = subst (λ (l : List Answer). Turned now heard lane h.1 l) (sym mine) (first-turn now trace h.0 heard lane h.1 lanes h.2 h.3 h.4 h.7 h.8 distinct.0 (is lane (inl refl)))

  go : ((lane ≡ x) × (h.1 ≡ y)) ⊎ Pair lanes h.2 x y → (Pair lanes h.2 x y → TurnedIn now heard h.4 x y) → TurnedIn now heard answers x y
  go (inl e) again = subst (λ (l : Lane). TurnedIn now heard answers x l) e.1 (subst (λ (l : Lane). TurnedIn now heard answers l h.1) e.0 here)
  go (inr q) again = subst (λ (l : List Answer). Turned now heard x y l) (sym rest) (again q) where
    rest : share x.wire answers ≡ share x.wire h.4
    rest = shares x.wire ∙ ap (λ l. l ++ share x.wire h.4) (off-share lane.wire x.wire h.3 (turned x.wire lane.wire (distinct.0 x (pair-first lanes h.2 x y q))) own)

pub turn-back : (now : ℕ) (trace heard : Option Event) (lanes after : List Lane) (answers : List Answer) → TurnAll now trace lanes after answers heard → (y : Lane) → Has after y → (x : Lane) × Pair lanes after x y
turn-back now trace heard [] after answers h y has = absurd (subst (λ (l : List Lane). Has l y) h.0 has)
turn-back now trace heard (lane ∷ lanes) after answers h y has = go (subst (λ (l : List Lane). Has l y) h.5 has) (turn-back now h.0 heard lanes h.2 h.4 h.8 y) where
  go : (h.1 ≡ y) ⊎ Has h.2 y → (Has h.2 y → (x : Lane) × Pair lanes h.2 x y) → (x : Lane) × Pair (lane ∷ lanes) after x y
  go (inl e) again = (lane, subst (λ (l : List Lane). Pair (lane ∷ lanes) l lane y) (sym h.5) (inl (refl, e)))
  go (inr k) again = let p = again k in (p.0, subst (λ (l : List Lane). Pair (lane ∷ lanes) l p.0 y) (sym h.5) (inr p.1))

pub turn-on : (now : ℕ) (trace heard : Option Event) (lanes after : List Lane) (answers : List Answer) → TurnAll now trace lanes after answers heard → (x : Lane) → Has lanes x → (y : Lane) × Pair lanes after x y
turn-on now trace heard [] after answers h x has = absurd has
turn-on now trace heard (lane ∷ lanes) after answers h x has = go has (turn-on now h.0 heard lanes h.2 h.4 h.8 x) where
  go : (lane ≡ x) ⊎ Has lanes x → (Has lanes x → (y : Lane) × Pair lanes h.2 x y) → (y : Lane) × Pair (lane ∷ lanes) after x y
  go (inl e) again = (h.1, subst (λ (l : List Lane). Pair (lane ∷ lanes) l x h.1) (sym h.5) (inl (e, refl)))
  go (inr k) again = let p = again k in (p.0, subst (λ (l : List Lane). Pair (lane ∷ lanes) l x p.0) (sym h.5) (inr p.1))

wires-turn : (now : ℕ) (trace heard : Option Event) (lanes after : List Lane) (answers : List Answer) → TurnAll now trace lanes after answers heard → wires_of after ≡ wires_of lanes
wires-turn now trace heard [] after answers h = ap wires_of h.0
wires-turn now trace heard (lane ∷ lanes) after answers h =
    ap wires_of h.5 ∙ ap (λ l. h.1.wire ∷ l) (wires-turn now h.0 heard lanes h.2 h.4 h.8) ∙ ap (λ n. n ∷ wires_of lanes) (turns-keeps now trace lane h.1 h.3 h.0 h.7).0

turns-joined : (now : ℕ) (trace mid heard : Option Event) (xs xs_after ys ys_after : List Lane) (a b : List Answer) → TurnAll now trace xs xs_after a mid → TurnAll now mid ys ys_after b heard →
    TurnAll now trace (xs ++ ys) (xs_after ++ ys_after) (a ++ b) heard
turns-joined now trace mid heard [] xs_after ys ys_after a b h k =
    subst (λ (l : List Lane). TurnAll now trace ys (l ++ ys_after) (a ++ b) heard) (sym h.0)
    (subst (λ (l : List Answer). TurnAll now trace ys ys_after (l ++ b) heard) (sym h.1) (subst (λ (o : Option Event). TurnAll now o ys ys_after b heard) h.2 k))
turns-joined now trace mid heard (x ∷ xs) xs_after ys ys_after a b h k = (
  h.0,
  h.1,
  h.2 ++ ys_after,
  h.3,
  h.4 ++ b,
  ap (λ (l : List Lane). l ++ ys_after) h.5,
  ap (λ (l : List Answer). l ++ b) h.6 ∙ append_assoc h.3 h.4 b,
  h.7,
  turns-joined now h.0 mid heard xs h.2 ys ys_after h.4 b h.8 k,
)

-- ---- a call of `next`

-- what `next` does on all lanes: each of those after it is one of those before, or the new one, after a turn
pub record Sweeps (now : ℕ) (lanes after : List Lane) (answers : List Answer) (heard : Option Event) : Type 0 where
  pub back : (y : Lane) → Has after y → (x : Lane) × Has lanes x × TurnedIn now heard answers x y
  pub on : (x : Lane) → Has lanes x → (y : Lane) × Has after y × TurnedIn now heard answers x y
  pub off : (wire : ℕ) → Without wire lanes → (share wire answers ≡ []) × IsOff wire heard

turned-sweeps : (now : ℕ) (lanes turning after turned_after : List Lane) (answers : List Answer) (heard : Option Event) → TurnAll now None turning turned_after answers heard → AreDistinct turning →
    ((x : Lane) → Has turning x → Has lanes x) → ((x : Lane) → Has lanes x → Has turning x) → ((y : Lane) → Has after y → Has turned_after y) → ((y : Lane) → Has turned_after y → Has after y) →
    Sweeps now lanes after answers heard
turned-sweeps now lanes turning after turned_after answers heard all distinct was will is become = record {
  back = λ y has. let p = turn-back now None heard turning turned_after answers all y (is y has) in
      (p.0, was p.0 (pair-first turning turned_after p.0 y p.1), turned-in now None heard turning turned_after answers all distinct (λ z k. tt) p.0 y p.1);
  on = λ x has. let p = turn-on now None heard turning turned_after answers all x (will x has) in
      (p.0, become p.0 (pair-last turning turned_after x p.0 p.1), turned-in now None heard turning turned_after answers all distinct (λ z k. tt) x p.0 p.1);
  off = λ wire without. (
    off-answers now None turning turned_after answers heard wire all (λ z has. without z (was z has)),
    off-event now None turning turned_after answers heard wire all (λ z has. without z (was z has)) tt,
  );
}

parted-sweeps : (now : ℕ) (lanes front back after last first : List Lane) (answers a b : List Answer) (trace heard : Option Event) → lanes ≡ front ++ back → after ≡ last ++ first → answers ≡ a ++ b →
    TurnAll now None back first a trace → TurnAll now trace front last b heard → AreDistinct lanes → Sweeps now lanes after answers heard
parted-sweeps now lanes front back after last first answers a b trace heard whole order all h k distinct =
    turned-sweeps now lanes (back ++ front) after (first ++ last) answers heard
    (subst (λ (l : List Answer). TurnAll now None (back ++ front) (first ++ last) l heard) (sym all) (turns-joined now None trace heard back first front last a b h k))
    (distinct-rotated front back (subst (λ (l : List Lane). AreDistinct l) whole distinct))
    (λ x has. subst (λ (l : List Lane). Has l x) (sym whole) (has-rotated back front x has))
    (λ x has. has-rotated front back x (subst (λ (l : List Lane). Has l x) whole has))
    (λ y has. has-rotated last first y (subst (λ (l : List Lane). Has l y) order has))
    (λ y has. subst (λ (l : List Lane). Has l y) (sym order) (has-rotated first last y has))

parted-wires : (now : ℕ) (lanes front back after last first : List Lane) (a b : List Answer) (trace heard : Option Event) → lanes ≡ front ++ back → after ≡ last ++ first →
    TurnAll now None back first a trace → TurnAll now trace front last b heard → wires_of after ≡ wires_of lanes
parted-wires now lanes front back after last first a b trace heard whole order h k =
    ap wires_of order ∙ map-append (λ (l : Lane). l.wire) last first ∙ ap (λ l. l ++ wires_of first) (wires-turn now trace heard front last b k)
    ∙ ap (λ l. wires_of front ++ l) (wires-turn now None trace back first a h) ∙ sym (map-append (λ (l : Lane). l.wire) front back) ∙ ap wires_of (sym whole)

-- ---- a search in which lanes rest

part-keeps : (now : ℕ) (x y : Lane) (mine : List Answer) → ListensOrRests now x y mine → Keeps x y mine
part-keeps now x y mine (inl h) = turns-keeps now None x y mine None h
part-keeps now x y mine (inr h) = (ap (λ (l : Lane). l.wire) h.1, subst (λ (l : List Answer). AreOwn x.wire l) (sym h.2) tt)

part-turned : (now : ℕ) (x y : Lane) (mine : List Answer) → ListensOrRests now x y mine → Turned now None x y mine
part-turned now x y mine (inl h) = inl (None, h, tt)
part-turned now x y mine (inr h) = inr (inr (h.1, h.2), tt)

pub parts-joined : (now : ℕ) (xs xs_after ys ys_after : List Lane) (a b : List Answer) → ListenOrRest now xs xs_after a → ListenOrRest now ys ys_after b → ListenOrRest now (xs ++ ys) (xs_after ++ ys_after) (a ++ b)
parts-joined now [] xs_after ys ys_after a b h k =
    subst (λ (l : List Lane). ListenOrRest now ys (l ++ ys_after) (a ++ b)) (sym h.0) (subst (λ (l : List Answer). ListenOrRest now ys ys_after (l ++ b)) (sym h.1) k)
parts-joined now (x ∷ xs) xs_after ys ys_after a b h k = (
  h.0,
  h.1 ++ ys_after,
  h.2,
  h.3 ++ b,
  ap (λ (l : List Lane). l ++ ys_after) h.4,
  ap (λ (l : List Answer). l ++ b) h.5 ∙ append_assoc h.2 h.3 b,
  h.6,
  parts-joined now xs h.1 ys ys_after h.3 b h.7 k,
)

parts-wires : (now : ℕ) (lanes after : List Lane) (answers : List Answer) → ListenOrRest now lanes after answers → wires_of after ≡ wires_of lanes
parts-wires now [] after answers h = ap wires_of h.0
parts-wires now (lane ∷ lanes) after answers h =
    ap wires_of h.4 ∙ ap (λ l. h.0.wire ∷ l) (parts-wires now lanes h.1 h.3 h.7) ∙ ap (λ n. n ∷ wires_of lanes) (part-keeps now lane h.0 h.2 h.6).0

parts-off : (now : ℕ) (lanes after : List Lane) (answers : List Answer) (wire : ℕ) → ListenOrRest now lanes after answers → Without wire lanes → share wire answers ≡ []
parts-off now [] after answers wire h off = ap (λ l. share wire l) h.1
parts-off now (lane ∷ lanes) after answers wire h off =
    ap (λ l. share wire l) h.5 ∙ share-append wire h.2 h.3
    ∙ ap (λ l. l ++ share wire h.3) (off-share lane.wire wire h.2 (off lane (inl refl)) (part-keeps now lane h.0 h.2 h.6).1)
    ∙ parts-off now lanes h.1 h.3 wire h.7 (λ x has. off x (inr has))

parts-in : (now : ℕ) (lanes after : List Lane) (answers : List Answer) → ListenOrRest now lanes after answers → AreDistinct lanes → (x y : Lane) → Pair lanes after x y → TurnedIn now None answers x y
parts-in now [] after answers h distinct x y p = absurd p
parts-in now (lane ∷ lanes) after answers h distinct x y p = go (subst (λ (l : List Lane). Pair (lane ∷ lanes) l x y) h.4 p) (parts-in now lanes h.1 h.3 h.7 distinct.1 x y) where
  own : AreOwn lane.wire h.2
  own = (part-keeps now lane h.0 h.2 h.6).1

  shares : (wire : ℕ) → share wire answers ≡ share wire h.2 ++ share wire h.3
  shares wire = ap (λ l. share wire l) h.5 ∙ share-append wire h.2 h.3

  mine : share lane.wire answers ≡ h.2
  mine = shares lane.wire ∙ ap (λ l. l ++ share lane.wire h.3) (own-share lane.wire h.2 own) ∙ ap (λ l. h.2 ++ l) (parts-off now lanes h.1 h.3 lane.wire h.7 distinct.0) ∙ append-nil h.2

  here : TurnedIn now None answers lane h.0
  here = subst (λ (l : List Answer). Turned now None lane h.0 l) (sym mine) (part-turned now lane h.0 h.2 h.6)

  go : ((lane ≡ x) × (h.0 ≡ y)) ⊎ Pair lanes h.1 x y → (Pair lanes h.1 x y → TurnedIn now None h.3 x y) → TurnedIn now None answers x y
  go (inl e) again = subst (λ (l : Lane). TurnedIn now None answers x l) e.1 (subst (λ (l : Lane). TurnedIn now None answers l h.0) e.0 here)
  go (inr q) again = subst (λ (l : List Answer). Turned now None x y l) (sym rest) (again q) where
    rest : share x.wire answers ≡ share x.wire h.3
    rest = shares x.wire ∙ ap (λ l. l ++ share x.wire h.3) (off-share lane.wire x.wire h.2 (turned x.wire lane.wire (distinct.0 x (pair-first lanes h.1 x y q))) own)

parts-back : (now : ℕ) (lanes after : List Lane) (answers : List Answer) → ListenOrRest now lanes after answers → (y : Lane) → Has after y → (x : Lane) × Pair lanes after x y
parts-back now [] after answers h y has = absurd (subst (λ (l : List Lane). Has l y) h.0 has)
parts-back now (lane ∷ lanes) after answers h y has = go (subst (λ (l : List Lane). Has l y) h.4 has) (parts-back now lanes h.1 h.3 h.7 y) where
  go : (h.0 ≡ y) ⊎ Has h.1 y → (Has h.1 y → (x : Lane) × Pair lanes h.1 x y) → (x : Lane) × Pair (lane ∷ lanes) after x y
  go (inl e) again = (lane, subst (λ (l : List Lane). Pair (lane ∷ lanes) l lane y) (sym h.4) (inl (refl, e)))
  go (inr k) again = let p = again k in (p.0, subst (λ (l : List Lane). Pair (lane ∷ lanes) l p.0 y) (sym h.4) (inr p.1))

parts-on : (now : ℕ) (lanes after : List Lane) (answers : List Answer) → ListenOrRest now lanes after answers → (x : Lane) → Has lanes x → (y : Lane) × Pair lanes after x y
parts-on now [] after answers h x has = absurd has
parts-on now (lane ∷ lanes) after answers h x has = go has (parts-on now lanes h.1 h.3 h.7 x) where
  go : (lane ≡ x) ⊎ Has lanes x → (Has lanes x → (y : Lane) × Pair lanes h.1 x y) → (y : Lane) × Pair (lane ∷ lanes) after x y
  go (inl e) again = (h.0, subst (λ (l : List Lane). Pair (lane ∷ lanes) l x h.0) (sym h.4) (inl (e, refl)))
  go (inr k) again = let p = again k in (p.0, subst (λ (l : List Lane). Pair (lane ∷ lanes) l x p.0) (sym h.4) (inr p.1))

-- that the wires told it is about none of them
told-share : (wire : ℕ) (a b : List Answer) → share wire (a ++ (b ++ none_ready ∷ [])) ≡ share wire (a ++ b)
told-share wire a b =
    share-append wire a (b ++ none_ready ∷ []) ∙ ap (λ l. share wire a ++ l) (share-append wire b (none_ready ∷ []) ∙ append-nil (share wire b)) ∙ sym (share-append wire a b)

rests-sweeps : (now : ℕ) (lanes front back after last first : List Lane) (answers a b : List Answer) (heard : Option Event) → heard ≡ None → lanes ≡ front ++ back → after ≡ last ++ first →
    answers ≡ a ++ (b ++ none_ready ∷ []) → ListenOrRest now back first a → ListenOrRest now front last b → AreDistinct lanes → Sweeps now lanes after answers heard
rests-sweeps now lanes front back after last first answers a b heard unheard whole order all h k distinct = subst (λ (o : Option Event). Sweeps now lanes after answers o) (sym unheard) (record {
  back = λ y has. let p = parts-back now (back ++ front) (first ++ last) (a ++ b) parts y (has-rotated last first y (subst (λ (l : List Lane). Has l y) order has)) in
      (p.0, was p.0 (pair-first (back ++ front) (first ++ last) p.0 y p.1), within p.0 y (parts-in now (back ++ front) (first ++ last) (a ++ b) parts turning p.0 y p.1));
  on = λ x has. let p = parts-on now (back ++ front) (first ++ last) (a ++ b) parts x (has-rotated front back x (subst (λ (l : List Lane). Has l x) whole has)) in
      (p.0, become p.0 (pair-last (back ++ front) (first ++ last) x p.0 p.1), within x p.0 (parts-in now (back ++ front) (first ++ last) (a ++ b) parts turning x p.0 p.1));
  off = λ wire without. (shares wire ∙ parts-off now (back ++ front) (first ++ last) (a ++ b) wire parts (λ z has. without z (was z has)), tt);
}) where
  parts : ListenOrRest now (back ++ front) (first ++ last) (a ++ b)
  parts = parts-joined now back first front last a b h k

  turning : AreDistinct (back ++ front)
  turning = distinct-rotated front back (subst (λ (l : List Lane). AreDistinct l) whole distinct)

  was : (x : Lane) → Has (back ++ front) x → Has lanes x
  was x has = subst (λ (l : List Lane). Has l x) (sym whole) (has-rotated back front x has)

  become : (y : Lane) → Has (first ++ last) y → Has after y
  become y has = subst (λ (l : List Lane). Has l y) (sym order) (has-rotated first last y has)

  shares : (wire : ℕ) → share wire answers ≡ share wire (a ++ b)
  shares wire = ap (λ l. share wire l) all ∙ told-share wire a b

  within : (x y : Lane) → TurnedIn now None (a ++ b) x y → TurnedIn now None answers x y
  within x y t = subst (λ (l : List Answer). Turned now None x y l) (sym (shares x.wire)) t

rests-wires : (now : ℕ) (lanes front back after last first : List Lane) (a b : List Answer) → lanes ≡ front ++ back → after ≡ last ++ first → ListenOrRest now back first a → ListenOrRest now front last b →
    wires_of after ≡ wires_of lanes
rests-wires now lanes front back after last first a b whole order h k =
    ap wires_of order ∙ map-append (λ (l : Lane). l.wire) last first ∙ ap (λ l. l ++ wires_of first) (parts-wires now front last b k)
    ∙ ap (λ l. wires_of front ++ l) (parts-wires now back first a h) ∙ sym (map-append (λ (l : Lane). l.wire) front back) ∙ ap wires_of (sym whole)

-- ---- a call of `next`, as a search of either kind

pub hears-wires : (now from : ℕ) (lanes after : List Lane) (answers : List Answer) (heard : Option Event) → Searches now from lanes after answers heard → wires_of after ≡ wires_of lanes
hears-wires now from lanes after answers heard (inr r) =
    rests-wires now lanes (take (index_of_first from lanes) lanes) (drop (index_of_first from lanes) lanes) after r.last r.first r.answers_first r.answers_last
    (sym (take-append-drop (index_of_first from lanes) lanes)) r.order r.parts_first r.parts_last
hears-wires now from lanes after answers heard (inl h) =
    parted-wires now lanes (take (index_of_first from lanes) lanes) (drop (index_of_first from lanes) lanes) after h.last h.first h.answers_first h.answers_last h.trace heard
    (sym (take-append-drop (index_of_first from lanes) lanes)) h.order h.turns_first h.turns_last

pub sweeps : (now from : ℕ) (lanes after : List Lane) (answers : List Answer) (heard : Option Event) → Searches now from lanes after answers heard → AreDistinct lanes → Sweeps now lanes after answers heard
sweeps now from lanes after answers heard (inr r) distinct =
    rests-sweeps now lanes (take (index_of_first from lanes) lanes) (drop (index_of_first from lanes) lanes) after r.last r.first answers r.answers_first r.answers_last heard
    r.unheard (sym (take-append-drop (index_of_first from lanes) lanes)) r.order r.all r.parts_first r.parts_last distinct
sweeps now from lanes after answers heard (inl h) distinct =
    parted-sweeps now lanes (take (index_of_first from lanes) lanes) (drop (index_of_first from lanes) lanes) after h.last h.first answers h.answers_first h.answers_last h.trace heard
    (sym (take-append-drop (index_of_first from lanes) lanes)) h.order h.all h.turns_first h.turns_last distinct

-- ---- the other calls

abbrev pub EachKeeps : (Lane → Lane → List Answer → Type 0) → Type 0
EachKeeps Does = (before next : Lane) (said : List Answer) → Does before next said → Keeps before next said

-- what is done on the lane of this number, and on another
abbrev pub ActsAt : ℕ → (Lane → Lane → List Answer → Type 0) → Lane → Lane → List Answer → Type 0
ActsAt wire Does x y mine = Chooses (x.wire == wire) (Does x y mine) ((y ≡ x) × (mine ≡ []))

chosen : (b : Bool) (A B : Type 0) → b ≡ true → A → Chooses b A B
chosen true A B e a = a
chosen false A B e a = absurd (cc e)

unchosen : (b : Bool) (A B : Type 0) → b ≡ false → B → Chooses b A B
unchosen true A B e a = absurd (cc e)
unchosen false A B e a = a

pub same-wire : (a b c : ℕ) → (a == b) ≡ true → (c == a) ≡ false → (c == b) ≡ false
same-wire a b c h k = grind (arith, h, k)

other-wire : (a b c : ℕ) → (a == b) ≡ true → (b == c) ≡ false → (a == c) ≡ false
other-wire a b c h k = grind (arith, h, k)

at-off : (wire : ℕ) (Does : Lane → Lane → List Answer → Type 0) (lanes after : List Lane) (answers : List Answer) (w : ℕ) → EachKeeps Does → AtLane wire Does lanes after answers →
    (wire == w) ≡ false → share w answers ≡ []
at-off wire Does [] after answers w each h off = ap (λ l. share w l) h.1
at-off wire Does (lane ∷ lanes) after answers w each h off = go (lane.wire == wire) refl h (λ rest k. at-off wire Does lanes rest answers w each k off) where
  go : (b : Bool) → (lane.wire == wire) ≡ b → Chooses b ((next : Lane) × (after ≡ next ∷ lanes) × Does lane next answers) ((rest : List Lane) × (after ≡ lane ∷ rest) × AtLane wire Does lanes rest answers) →
      ((rest : List Lane) → AtLane wire Does lanes rest answers → share w answers ≡ []) → share w answers ≡ []
  go true e h again = off-share lane.wire w answers (other-wire lane.wire wire w e off) (each lane h.0 answers h.2).1
  go false e h again = again h.0 h.2

at-without : (wire : ℕ) (Does : Lane → Lane → List Answer → Type 0) (lanes after : List Lane) (answers : List Answer) (w : ℕ) → EachKeeps Does → AtLane wire Does lanes after answers →
    Without w lanes → share w answers ≡ []
at-without wire Does [] after answers w each h off = ap (λ l. share w l) h.1
at-without wire Does (lane ∷ lanes) after answers w each h off = go (lane.wire == wire) h (λ rest k. at-without wire Does lanes rest answers w each k (λ x has. off x (inr has))) where
  go : (b : Bool) → Chooses b ((next : Lane) × (after ≡ next ∷ lanes) × Does lane next answers) ((rest : List Lane) × (after ≡ lane ∷ rest) × AtLane wire Does lanes rest answers) →
      ((rest : List Lane) → AtLane wire Does lanes rest answers → share w answers ≡ []) → share w answers ≡ []
  go true h again = off-share lane.wire w answers (off lane (inl refl)) (each lane h.0 answers h.2).1
  go false h again = again h.0 h.2

at-back : (wire : ℕ) (Does : Lane → Lane → List Answer → Type 0) (lanes after : List Lane) (answers : List Answer) → AtLane wire Does lanes after answers → (y : Lane) → Has after y → (x : Lane) × Pair lanes after x y
at-back wire Does [] after answers h y has = absurd (subst (λ (l : List Lane). Has l y) h.0 has)
at-back wire Does (lane ∷ lanes) after answers h y has = go (lane.wire == wire) h (λ rest k has. at-back wire Does lanes rest answers k y has) where
  go : (b : Bool) → Chooses b ((next : Lane) × (after ≡ next ∷ lanes) × Does lane next answers) ((rest : List Lane) × (after ≡ lane ∷ rest) × AtLane wire Does lanes rest answers) →
      ((rest : List Lane) → AtLane wire Does lanes rest answers → Has rest y → (x : Lane) × Pair lanes rest x y) → (x : Lane) × Pair (lane ∷ lanes) after x y
  go true h again = one (subst (λ (l : List Lane). Has l y) h.1 has) where
    one : (h.0 ≡ y) ⊎ Has lanes y → (x : Lane) × Pair (lane ∷ lanes) after x y
    one (inl e) = (lane, subst (λ (l : List Lane). Pair (lane ∷ lanes) l lane y) (sym h.1) (inl (refl, e)))
    one (inr k) = (y, subst (λ (l : List Lane). Pair (lane ∷ lanes) l y y) (sym h.1) (inr (same-pair lanes y k)))
  go false h again = one (subst (λ (l : List Lane). Has l y) h.1 has) where
    one : (lane ≡ y) ⊎ Has h.0 y → (x : Lane) × Pair (lane ∷ lanes) after x y
    one (inl e) = (lane, subst (λ (l : List Lane). Pair (lane ∷ lanes) l lane y) (sym h.1) (inl (refl, e)))
    one (inr k) = let p = again h.0 h.2 k in (p.0, subst (λ (l : List Lane). Pair (lane ∷ lanes) l p.0 y) (sym h.1) (inr p.1))

at-on : (wire : ℕ) (Does : Lane → Lane → List Answer → Type 0) (lanes after : List Lane) (answers : List Answer) → AtLane wire Does lanes after answers → (x : Lane) → Has lanes x → (y : Lane) × Pair lanes after x y
at-on wire Does [] after answers h x has = absurd has
at-on wire Does (lane ∷ lanes) after answers h x has = go (lane.wire == wire) h (λ rest k has. at-on wire Does lanes rest answers k x has) where
  go : (b : Bool) → Chooses b ((next : Lane) × (after ≡ next ∷ lanes) × Does lane next answers) ((rest : List Lane) × (after ≡ lane ∷ rest) × AtLane wire Does lanes rest answers) →
      ((rest : List Lane) → AtLane wire Does lanes rest answers → Has lanes x → (y : Lane) × Pair lanes rest x y) → (y : Lane) × Pair (lane ∷ lanes) after x y
  go true h again = one has where
    one : (lane ≡ x) ⊎ Has lanes x → (y : Lane) × Pair (lane ∷ lanes) after x y
    one (inl e) = (h.0, subst (λ (l : List Lane). Pair (lane ∷ lanes) l x h.0) (sym h.1) (inl (e, refl)))
    one (inr k) = (x, subst (λ (l : List Lane). Pair (lane ∷ lanes) l x x) (sym h.1) (inr (same-pair lanes x k)))
  go false h again = one has where
    one : (lane ≡ x) ⊎ Has lanes x → (y : Lane) × Pair (lane ∷ lanes) after x y
    one (inl e) = (lane, subst (λ (l : List Lane). Pair (lane ∷ lanes) l x lane) (sym h.1) (inl (e, refl)))
    one (inr k) = let p = again h.0 h.2 k in (p.0, subst (λ (l : List Lane). Pair (lane ∷ lanes) l x p.0) (sym h.1) (inr p.1))

at-acts : (wire : ℕ) (Does : Lane → Lane → List Answer → Type 0) (lanes after : List Lane) (answers : List Answer) → EachKeeps Does → AtLane wire Does lanes after answers → AreDistinct lanes →
    (x y : Lane) → Pair lanes after x y → ActsAt wire Does x y (share x.wire answers)
at-acts wire Does [] after answers each h distinct x y p = absurd p
at-acts wire Does (lane ∷ lanes) after answers each h distinct x y p = go (lane.wire == wire) refl h (λ rest k q. at-acts wire Does lanes rest answers each k distinct.1 x y q) where
  go : (b : Bool) → (lane.wire == wire) ≡ b → Chooses b ((next : Lane) × (after ≡ next ∷ lanes) × Does lane next answers) ((rest : List Lane) × (after ≡ lane ∷ rest) × AtLane wire Does lanes rest answers) →
      ((rest : List Lane) → AtLane wire Does lanes rest answers → Pair lanes rest x y → ActsAt wire Does x y (share x.wire answers)) → ActsAt wire Does x y (share x.wire answers)
  go true e h again = one (subst (λ (l : List Lane). Pair (lane ∷ lanes) l x y) h.1 p) where
    here : ActsAt wire Does lane h.0 (share lane.wire answers)
    here = chosen (lane.wire == wire) _ _ e (subst (λ (l : List Answer). Does lane h.0 l) (sym (own-share lane.wire answers (each lane h.0 answers h.2).1)) h.2)

    one : ((lane ≡ x) × (h.0 ≡ y)) ⊎ Pair lanes lanes x y → ActsAt wire Does x y (share x.wire answers)
    one (inl f) = subst (λ (l : Lane). ActsAt wire Does x l (share x.wire answers)) f.1 (subst (λ (l : Lane). ActsAt wire Does l h.0 (share l.wire answers)) f.0 here)
    one (inr q) =
        let off = distinct.0 x (pair-first lanes lanes x y q) in
        unchosen (x.wire == wire) _ _ (same-wire lane.wire wire x.wire e off) (pair-same lanes x y q, off-share lane.wire x.wire answers (turned x.wire lane.wire off) (each lane h.0 answers h.2).1)
  go false e h again = one (subst (λ (l : List Lane). Pair (lane ∷ lanes) l x y) h.1 p) where
    here : ActsAt wire Does lane lane (share lane.wire answers)
    here = unchosen (lane.wire == wire) _ _ e (refl, at-off wire Does lanes h.0 answers lane.wire each h.2 (turned lane.wire wire e))

    one : ((lane ≡ x) × (lane ≡ y)) ⊎ Pair lanes h.0 x y → ActsAt wire Does x y (share x.wire answers)
    one (inl f) = subst (λ (l : Lane). ActsAt wire Does x l (share x.wire answers)) f.1 (subst (λ (l : Lane). ActsAt wire Does l lane (share l.wire answers)) f.0 here)
    one (inr q) = again h.0 h.2 q

-- what is done at a lane does so on all lanes: each of those after it is one of those before
pub record Spreads (wire : ℕ) (Does : Lane → Lane → List Answer → Type 0) (lanes after : List Lane) (answers : List Answer) : Type 0 where
  pub back : (y : Lane) → Has after y → (x : Lane) × Has lanes x × ActsAt wire Does x y (share x.wire answers)
  pub on : (x : Lane) → Has lanes x → (y : Lane) × Has after y × ActsAt wire Does x y (share x.wire answers)
  pub off : (w : ℕ) → Without w lanes → share w answers ≡ []

pub spreads : (wire : ℕ) (Does : Lane → Lane → List Answer → Type 0) (lanes after : List Lane) (answers : List Answer) → EachKeeps Does → AtLane wire Does lanes after answers → AreDistinct lanes →
    Spreads wire Does lanes after answers
spreads wire Does lanes after answers each h distinct = record {
  back = λ y has. let p = at-back wire Does lanes after answers h y has in (p.0, pair-first lanes after p.0 y p.1, at-acts wire Does lanes after answers each h distinct p.0 y p.1);
  on = λ x has. let p = at-on wire Does lanes after answers h x has in (p.0, pair-last lanes after x p.0 p.1, at-acts wire Does lanes after answers each h distinct x p.0 p.1);
  off = λ w off. at-without wire Does lanes after answers w each h off;
}
