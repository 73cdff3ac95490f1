-- Turns of lanes that end where all rest, as a search of one call of `next`.
use Rattle.std.proofs.Common.{◌≡◌, ◌⊎◌, ◌≤◌, ◌+◌, ◌-◌, ◌++◌, ◌∷◌, [], ℕ, List, Option, None, Some, Result, Ok, Err, IfOk, OnErr, refl, sym, ap, ◌∙◌, subst, inl, inr, arith, length, Bool, true, false, take, drop, Contains}
use Rattle.std.proofs.lemmas.List.{append-nil, length-drop, take_all, take-append-drop, drop-drop}
use Rattle.hw_door.specs.declared.heard.Event.{Event}
use Rattle.hw_door.specs.Traffic.{Answer, none_ready, ready_answer}
use Rattle.hw_net.specs.declared.turns.Course.TheVariants as course
use Rattle.hw_net.specs.Door.{ListenOrRest, RestsAll, RestsAt, Searches, index_of_first}
use Rattle.hw_net.specs.Halting.{HaltsAll}
use Rattle.hw_net.specs.Lane.{Lane}
use Rattle.hw_net.specs.Trace.{Tells}
use Rattle.hw_net.specs.Turn.{Turns, TurnAll}
use Rattle.hw_net.specs.Walks.{Speak, Walks, RestsWithin, Ends, between}
use Rattle.hw_net.proofs.Moves.{Has, contains-of, has-back, has-front, keep, parts-joined}
use Rattle.hw_net.proofs.Telling.{tells-more}
use Rattle.hw_net.proofs.Walking.{hears-both, later, same-after, split, walks-speak}

-- ---- lanes that listen, and lanes that rest

-- turns in which nothing was heard
listened : (now : ℕ) (lanes after : List Lane) (answers : List Answer) → TurnAll now None lanes after answers None → ListenOrRest now lanes after answers
listened now [] after answers h = (h.0, h.1)
listened now (lane ∷ lanes) after answers h = go h.0 h.7 h.8 (λ all. listened now lanes h.2 h.4 all) where
  go : (mid : Option Event) → Turns now None lane h.1 h.3 mid → TurnAll now mid lanes h.2 h.4 None → (TurnAll now None lanes h.2 h.4 None → ListenOrRest now lanes h.2 h.4) →
      ListenOrRest now (lane ∷ lanes) after answers
  go None one all again = (h.1, h.2, h.3, h.4, h.5, h.6, inl one, again all)
  go (Some trace) one all again = absurd (cc (keep now trace lanes h.2 h.4 None all))

rested : (now : ℕ) (lanes : List Lane) → ((lane : Lane) → Has lanes lane → RestsAt now lane) → ListenOrRest now lanes lanes []
rested now [] rest = (refl, refl)
rested now (lane ∷ lanes) rest = (lane, lanes, [], [], refl, refl, inr (rest lane (inl refl), refl, refl), rested now lanes (λ x has. rest x (inr has)))

-- ---- places

has-drop : (n : ℕ) (lanes : List Lane) (x : Lane) → Has (drop n lanes) x → Has lanes x
has-drop n lanes x has = subst (λ (l : List Lane). Has l x) (take-append-drop n lanes) (has-back (take n lanes) (drop n lanes) x has)

has-take : (n : ℕ) (lanes : List Lane) (x : Lane) → Has (take n lanes) x → Has lanes x
has-take n lanes x has = subst (λ (l : List Lane). Has l x) (take-append-drop n lanes) (has-front (take n lanes) (drop n lanes) x has)

-- the lanes from a place on are those before a later one, and those from that on
from-place : (begin end : ℕ) (lanes : List Lane) → begin ≤ end → drop begin lanes ≡ between begin end lanes ++ drop end lanes
from-place begin end lanes le = go (end - begin) end (omega (arith, le)) where
  go : (count at : ℕ) → at ≡ begin + count → drop begin lanes ≡ between begin at lanes ++ drop at lanes
  go count at e =
      let here : between begin at lanes ≡ take count (drop begin lanes) = ap (λ n. take n (drop begin lanes)) (omega (arith, e)) in
      let rest : drop at lanes ≡ drop count (drop begin lanes) = ap (λ n. drop n lanes) e ∙ sym (drop-drop count begin lanes) in
      sym (take-append-drop count (drop begin lanes)) ∙ ap (λ (l : List Lane). l ++ drop count (drop begin lanes)) (sym here) ∙ ap (λ (l : List Lane). between begin at lanes ++ l) (sym rest)

first-place : (end : ℕ) (lanes : List Lane) → between 0 end lanes ≡ take end lanes
first-place end lanes = let e : end - 0 ≡ end = omega arith in ap (λ n. take n lanes) e

-- ---- a search

-- the lanes of some places took their turns, and all others rest
walk-parts : (now begin stop : ℕ) (before after : List Lane) (turns : List Answer) → begin ≤ stop → Walks now None begin stop before after turns None → ((lane : Lane) → Contains after lane → RestsAt now lane) →
    ListenOrRest now (drop begin before) (drop begin after) turns
walk-parts now begin stop before after turns le w rest =
    let left : ListenOrRest now (drop stop before) (drop stop after) [] =
    subst (λ (l : List Lane). ListenOrRest now l (drop stop after) []) w.back (rested now (drop stop after) (λ x has. rest x (contains-of after x (has-drop stop after x has)))) in
    let both = parts-joined now (between begin stop before) (between begin stop after) (drop stop before) (drop stop after) turns [] (listened now _ _ turns w.turns) left in
    subst (λ (l : List Lane). ListenOrRest now l (drop begin after) turns) (sym (from-place begin stop before le))
    (subst (λ (l : List Lane). ListenOrRest now (between begin stop before ++ drop stop before) l turns) (sym (from-place begin stop after le))
    (subst (λ (l : List Answer). ListenOrRest now (between begin stop before ++ drop stop before) (between begin stop after ++ drop stop after) l) (append-nil turns) both))

-- all rest while those from a place on take their turns
rests-sooner : (now from index end : ℕ) (before after : List Lane) (answers : List Answer) → index ≡ index_of_first from before → RestsWithin now index end before after answers →
    RestsAll now from before after answers None
rests-sooner now from index end before after answers here h =
    let stop = h.0 in
    let w = h.5 in
    let last : ListenOrRest now (take index before) (take index after) [] =
    subst (λ (l : List Lane). ListenOrRest now l (take index after) []) w.front (rested now (take index after) (λ x has. h.6 x (contains-of after x (has-take index after x has)))) in
    record {
      first = drop index after;
      last = take index after;
      answers_first = h.1;
      answers_last = [];
      all = h.4;
      order = sym (take-append-drop index after);
      unheard = refl;
      parts_first = subst (λ n. ListenOrRest now (drop n before) (drop index after) h.1) here (walk-parts now index stop before after h.1 h.2 w h.6);
      parts_last = subst (λ n. ListenOrRest now (take n before) (take index after) []) here last;
    }

-- all rest while those before it take theirs
rests-later : (now from index : ℕ) (before mid after : List Lane) (answers more : List Answer) → index ≡ index_of_first from before → length mid ≡ length before →
    Walks now None index (length before) before mid answers None → RestsWithin now 0 index mid after more → RestsAll now from before after (answers ++ more) None
rests-later now from index before mid after answers more here same v h =
    let stop = h.0 in
    let turns = h.1 in
    let w = h.5 in
    let all : (l : List Lane) → length l ≡ length before → between index (length before) l ≡ drop index l = λ l e. take_all (length before - index) (drop index l) (omega (arith, e, length-drop index l)) in
    let kept : drop index mid ≡ drop index after = later stop index mid after h.3 (sym w.back) in
    let first : ListenOrRest now (drop index before) (drop index mid) answers =
    listened now _ _ answers (subst (λ (l : List Lane). TurnAll now None l (drop index mid) answers None) (all before refl)
    (subst (λ (l : List Lane). TurnAll now None (between index (length before) before) l answers None) (all mid same) v.turns)) in
    let others : between stop index mid ≡ between stop index after = same-after stop index mid after (sym w.back) in
    let left : ListenOrRest now (between stop index mid) (between stop index after) [] =
    subst (λ (l : List Lane). ListenOrRest now l (between stop index after) []) (sym others)
    (rested now (between stop index after) (λ x has. h.6 x (contains-of after x (has-drop stop after x (has-take (index - stop) (drop stop after) x has))))) in
    let both = parts-joined now (between 0 stop mid) (between 0 stop after) (between stop index mid) (between stop index after) turns [] (listened now _ _ turns w.turns) left in
    let whole : (l : List Lane) → between 0 stop l ++ between stop index l ≡ take index l = λ l. sym (split 0 stop index l (omega arith) h.3) ∙ first-place index l in
    let last : ListenOrRest now (take index before) (take index after) turns =
    subst (λ (l : List Lane). ListenOrRest now l (take index after) turns) (whole mid ∙ v.front)
    (subst (λ (l : List Lane). ListenOrRest now (between 0 stop mid ++ between stop index mid) l turns) (whole after)
    (subst (λ (l : List Answer). ListenOrRest now (between 0 stop mid ++ between stop index mid) (between 0 stop after ++ between stop index after) l) (append-nil turns) both)) in
    record {
      first = drop index after;
      last = take index after;
      answers_first = answers;
      answers_last = turns;
      all = ap (λ (l : List Answer). answers ++ l) h.4;
      order = sym (take-append-drop index after);
      unheard = refl;
      parts_first = subst (λ n. ListenOrRest now (drop n before) (drop index after) answers) here (subst (λ (l : List Lane). ListenOrRest now (drop index before) l answers) kept first);
      parts_last = subst (λ n. ListenOrRest now (take n before) (take index after) turns) here last;
    }

-- all rest before any lane takes its turn
pub rests-at-once : (now from : ℕ) (lanes : List Lane) → ((lane : Lane) → Contains lanes lane → RestsAt now lane) → Searches now from lanes lanes (none_ready ∷ []) None
rests-at-once now from lanes rest =
    let at = index_of_first from lanes in
    inr (record {
      first = drop at lanes;
      last = take at lanes;
      answers_first = [];
      answers_last = [];
      all = refl;
      order = sym (take-append-drop at lanes);
      unheard = refl;
      parts_first = rested now (drop at lanes) (λ x has. rest x (contains-of lanes x (has-drop at lanes x has)));
      parts_last = rested now (take at lanes) (λ x has. rest x (contains-of lanes x (has-take at lanes x has)));
    })

-- ---- calls on wires

-- the wires were asked, and told nothing
pub told-none : (a b : Option (List Answer)) (is_ready : Bool) → is_ready ≡ false → Tells a b (ready_answer is_ready) → Tells a b []
told-none a b is_ready e told = subst (λ r. Tells a b (ready_answer r)) e told

pub told-all : (a b : Option (List Answer)) (is_ready : Bool) → is_ready ≡ true → Tells a b (ready_answer is_ready) → Tells a b (none_ready ∷ [])
told-all a b is_ready e told = subst (λ r. Tells a b (ready_answer r)) e told

-- what was so before they were asked
pub still-told : (P : List Answer → Type 0) (a b c : Option (List Answer)) → ((answers : List Answer) × Tells a b answers × P answers) → Tells b c [] → (answers : List Answer) × Tells a c answers × P answers
still-told P a b c h none = (h.0, subst (λ (l : List Answer). Tells a c l) (append-nil h.0) (tells-more a b c h.0 [] h.1 none), h.2)

-- turns of lanes end, as all rest
pub ends-rests : (a b c : Option (List Answer)) (now begin index end : ℕ) (all cur : List Lane) → begin ≤ index → index ≤ end →
    ((answers : List Answer) × Tells a b answers × Walks now None begin index all cur answers None) → Tells b c (none_ready ∷ []) → ((lane : Lane) → Contains cur lane → RestsAt now lane) →
    Ends a c now begin end all cur course.Rests
ends-rests a b c now begin index end all cur le lt h told rest =
    (h.0 ++ none_ready ∷ [], tells-more a b c h.0 (none_ready ∷ []) h.1 told, (index, h.0, le, lt, refl, h.2, rest))

-- something is heard of the lanes before a place
pub last-heard : (a b c : Option (List Answer)) (now end : ℕ) (all cur after : List Lane) (heard : Event) (next : ℕ) → Ends a b now 0 end all cur (course.Heard heard next) →
    ((answers : List Answer) × Tells b c answers × Speak now next end cur after answers) →
    (answers : List Answer) × Tells a c answers × (Walks now None 0 end all after answers (Some heard) ⊎ ((◌≡◌ {A = Option Event} (Some heard) None) × RestsWithin now 0 end all after answers))
last-heard a b c now end all cur after heard next h said = let w = walks-speak a b c now 0 next end all cur after heard h.0 h.1 h.2 said in (w.0, w.1, inl w.2)

-- something is heard of the lanes from a place on
pub each-heard : (a b c d : Option (List Answer)) (now from index : ℕ) (all cur spoken after : List Lane) (heard : Event) (next : ℕ) → index ≡ index_of_first from all → length spoken ≡ length all →
    Ends a b now index (length all) all cur (course.Heard heard next) → ((answers : List Answer) × Tells b c answers × Speak now next (length all) cur spoken answers) →
    ((answers : List Answer) × Tells c d answers × Speak now 0 index spoken after answers) →
    (answers : List Answer) × Tells a d answers × Searches now from all after answers (Some heard)
each-heard a b c d now from index all cur spoken after heard next here same h said rest =
    let w = walks-speak a b c now index next (length all) all cur spoken heard h.0 h.1 h.2 said in
    let k = hears-both a c d now from index all spoken after (Some heard) (Some heard) here same w (rest.0, rest.1, rest.2 heard) in
    (k.0, k.1, inl k.2)

-- all rest before the last of those took its turn
pub each-rests : (a b : Option (List Answer)) (now from index : ℕ) (all after : List Lane) → index ≡ index_of_first from all → Ends a b now index (length all) all after course.Rests →
    (answers : List Answer) × Tells a b answers × Searches now from all after answers None
each-rests a b now from index all after here h = (h.0, h.1, inr (rests-sooner now from index (length all) all after h.0 here h.2))

-- nothing is heard of those, and then the lanes before the place have their turns
pub each-later : {E : Type 0} (r : Result (Option Event) E) (a b c : Option (List Answer)) (now from index : ℕ) (all cur after : List Lane) → index ≡ index_of_first from all → length cur ≡ length all →
    Ends a b now index (length all) all cur course.Quiet →
    IfOk r (λ heard. (answers : List Answer) × Tells b c answers × (Walks now None 0 index cur after answers heard ⊎ ((heard ≡ None) × RestsWithin now 0 index cur after answers))) →
    IfOk r (λ heard. (answers : List Answer) × Tells a c answers × Searches now from all after answers heard)
each-later (Ok heard) a b c now from index all cur after here same h k = go k.2 where
  go : Walks now None 0 index cur after k.0 heard ⊎ ((heard ≡ None) × RestsWithin now 0 index cur after k.0) → (answers : List Answer) × Tells a c answers × Searches now from all after answers heard
  go (inl w) = let both = hears-both a b c now from index all cur after None heard here same h (k.0, k.1, w) in (both.0, both.1, inl both.2)
  go (inr w) = (
    h.0 ++ k.0,
    tells-more a b c h.0 k.0 h.1 k.1,
    inr (subst (λ (o : Option Event). RestsAll now from all after (h.0 ++ k.0) o) (sym w.0) (rests-later now from index all cur after h.0 k.0 here same h.2 w.1)),
  )
each-later (Err why) a b c now from index all cur after here same h k = k

-- a search once the wires were asked, and told nothing
pub then-searches : {E : Type 0} (r : Result (Option Event) E) (a b c : Option (List Answer)) (now from : ℕ) (all after : List Lane) → Tells a b [] →
    IfOk r (λ heard. (answers : List Answer) × Tells b c answers × Searches now from all after answers heard) → IfOk r (λ heard. (answers : List Answer) × Tells a c answers × Searches now from all after answers heard)
then-searches (Ok heard) a b c now from all after none h = (h.0, tells-more a b c [] h.0 none h.1, h.2)
then-searches (Err why) a b c now from all after none h = h

pub then-halts : {E : Type 0} (r : Result (Option Event) E) (a b c : Option (List Answer)) (now from : ℕ) (all after : List Lane) → Tells a b [] →
    OnErr r ((answers : List Answer) × Tells b c answers × HaltsAll now from all after answers) → OnErr r ((answers : List Answer) × Tells a c answers × HaltsAll now from all after answers)
then-halts (Ok heard) a b c now from all after none h = h
then-halts (Err why) a b c now from all after none h = (h.0, tells-more a b c [] h.0 none h.1, h.2)
