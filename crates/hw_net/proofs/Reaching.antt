-- How soon each lane is listened to: at each search that begins with no named lane fewer lanes come before it in the order.
use Rattle.std.proofs.Common.{◌≡◌, ◌⊎◌, ◌≤◌, ◌<◌, ◌+◌, ◌*◌, ◌^◌, ◌-◌, ◌==◌, ◌++◌, ◌∷◌, [], ℕ, zero, suc, Bool, true, false, not, cond, if◌then◌else◌, List, Option, None, Some, refl, sym, ap, ◌∙◌, subst, inl, inr, arith, length, take, drop, take-append-drop, append_assoc, leb}
use Rattle.std.proofs.lemmas.Bool.Decides.{nat_tests, leb_tells}
use Rattle.std.proofs.lemmas.List.{length-map}
use Rattle.std.specs.Int.{from_bool}
use Rattle.std.specs.List.{position_or_len}
use Rattle.hw_door.specs.declared.heard.Event.{Event}
use Rattle.hw_door.specs.declared.heard.Event.TheVariants as event
use Rattle.hw_door.specs.declared.heard.Heard.{Heard}
use Rattle.hw_door.specs.Traffic.{Answer, polled, accepted}
use Rattle.hw_net.specs.Door.{DoorState, Searches, HearsNext, kept, with_accepted, time_to_wait, index_of_first, lane_of, number_after, from_after, named_after}
use Rattle.hw_net.specs.Lane.{Lane, wires_of, is_over}
use Rattle.hw_net.specs.Reaching.{is_before, passes_over, HasListened, OthersListen, PassesOver, AllPassOver, nexts, came_among, arrivals, LanesAreReached}
use Rattle.hw_net.specs.Rising.{IsRising}
use Rattle.hw_net.specs.Sessions.{Call, answers_in}
use Rattle.hw_net.specs.Sessions as session
use Rattle.hw_net.specs.Turn.{Listens, Turns, TurnAll}
use Rattle.hw_net.proofs.Moves.{Has, has-of, contains-of, has-part, has-back, has-front, rising-within, hears-wires, keep}
use Rattle.hw_net.proofs.Numbering.{lower, writes-keep, replies-keep, sends-keep, shuts-keep}
use Rattle.hw_net.proofs.Owning.{is_on, listens-keeps}
use Rattle.hw_net.proofs.Shares.{equal}
use Rattle.hw_net.proofs.Walks.{wires-with}

-- ---- numbers in an order that goes round

abbrev Among : List ℕ → ℕ → Type 0
Among [] n = ⊥
Among (m ∷ ns) n = (m ≡ n) ⊎ Among ns n

abbrev count : (ℕ → Bool) → List ℕ → ℕ
count f [] = 0
count f (n ∷ ns) = from_bool (f n) + count f ns

-- how many of these come before this number
abbrev in_front : ℕ → ℕ → List ℕ → ℕ
in_front begin number ns = count (λ n. is_before begin n number) ns

moves-on : (begin number other lane : ℕ) → number < 2 ^ 64 → is_before begin other number ≡ true → is_before (number_after other) lane number ≡ true → is_before begin lane number ≡ true
moves-on begin number other lane below before next = grind (arith, nat_tests, below, before, next)

done : (other number : ℕ) → number < 2 ^ 64 → is_before (number_after other) other number ≡ false
done other number below = grind (arith, nat_tests, below)

not-self : (begin number : ℕ) → is_before begin number number ≡ false
not-self begin number = grind (arith, nat_tests)

at-most-one : (b : Bool) → from_bool b ≤ 1
at-most-one true = omega arith
at-most-one false = omega arith

no-more : (a b : Bool) → (a ≡ true → b ≡ true) → from_bool a ≤ from_bool b
no-more true b h = subst (λ (v : Bool). 1 ≤ from_bool v) (sym (h refl)) (omega arith)
no-more false b h = omega arith

counts-fewer : (f g : ℕ → Bool) (ns : List ℕ) → ((n : ℕ) → f n ≡ true → g n ≡ true) → count f ns ≤ count g ns
counts-fewer f g [] h = omega arith
counts-fewer f g (n ∷ ns) h = omega (arith, no-more (f n) (g n) (h n), counts-fewer f g ns h)

counts-one-fewer : (f g : ℕ → Bool) (ns : List ℕ) (m : ℕ) → ((n : ℕ) → f n ≡ true → g n ≡ true) → f m ≡ false → g m ≡ true → Among ns m → count f ns + 1 ≤ count g ns
counts-one-fewer f g [] m h off on has = absurd has
counts-one-fewer f g (n ∷ ns) m h off on (inl e) =
    let first : from_bool (f n) ≡ 0 = ap (λ k. from_bool (f k)) e ∙ ap from_bool off in
    let last : from_bool (g n) ≡ 1 = ap (λ k. from_bool (g k)) e ∙ ap from_bool on in
    omega (arith, first, last, counts-fewer f g ns h)
counts-one-fewer f g (n ∷ ns) m h off on (inr has) = omega (arith, no-more (f n) (g n) (h n), counts-one-fewer f g ns m h off on has)

counts-one-more : (f : ℕ → Bool) (ns : List ℕ) (m : ℕ) → count f (ns ++ m ∷ []) ≤ count f ns + 1
counts-one-more f [] m = omega (arith, at-most-one (f m))
counts-one-more f (n ∷ ns) m = omega (arith, counts-one-more f ns m)

counts-within : (f : ℕ → Bool) (ns : List ℕ) → count f ns ≤ length ns
counts-within f [] = omega arith
counts-within f (n ∷ ns) = omega (arith, at-most-one (f n), counts-within f ns)

counts-without : (f : ℕ → Bool) (ns : List ℕ) (m : ℕ) → f m ≡ false → Among ns m → count f ns + 1 ≤ length ns
counts-without f [] m off has = absurd has
counts-without f (n ∷ ns) m off (inl e) =
    let first : from_bool (f n) ≡ 0 = ap (λ k. from_bool (f k)) e ∙ ap from_bool off in
    omega (arith, first, counts-within f ns)
counts-without f (n ∷ ns) m off (inr has) = omega (arith, at-most-one (f n), counts-without f ns m off has)

counts-kept : (f : ℕ → Bool) (lanes : List Lane) → count f (wires_of (kept lanes)) ≤ count f (wires_of lanes)
counts-kept f [] = omega arith
counts-kept f (lane ∷ lanes) = go (not (is_over lane.stage)) (counts-kept f lanes) where
  go : (b : Bool) → count f (wires_of (kept lanes)) ≤ count f (wires_of lanes) → count f (wires_of (cond b (lane ∷ kept lanes) (kept lanes))) ≤ from_bool (f lane.wire) + count f (wires_of lanes)
  go true le = omega (arith, le)
  go false le = omega (arith, le)

-- once this one was heard, and the order begins after it, fewer come before
nearer : (begin number other : ℕ) (ns : List ℕ) → number < 2 ^ 64 → is_before begin other number ≡ true → Among ns other → in_front (number_after other) number ns + 1 ≤ in_front begin number ns
nearer begin number other ns below before has =
    counts-one-fewer (λ n. is_before (number_after other) n number) (λ n. is_before begin n number) ns other (λ n next. moves-on begin number other n below before next) (done other number below) before has

-- ---- the lane that is heard is one of those that had a turn

on-lane : (wire : ℕ) (heard : Event) → is_on wire heard ≡ true → lane_of heard ≡ wire
on-lane wire (event.Request at request) h = equal at wire h
on-lane wire (event.Refused at refusal) h = equal at wire h
on-lane wire (event.Bytes at bytes) h = equal at wire h
on-lane wire (event.Response at status body) h = equal at wire h
on-lane wire (event.Upgraded at) h = equal at wire h
on-lane wire (event.Lost at) h = equal at wire h
on-lane wire (event.Drained at) h = equal at wire h
on-lane wire event.Quiet h = absurd (cc h)

abbrev HeardOn : List Lane → Event → Type 0
HeardOn lanes heard = (x : Lane) × Has lanes x × (lane_of heard ≡ x.wire)

heard-on : (now : ℕ) (lanes after : List Lane) (answers : List Answer) (heard : Event) → TurnAll now None lanes after answers (Some heard) → HeardOn lanes heard
heard-on now [] after answers heard h = absurd (cc h.2)
heard-on now (lane ∷ lanes) after answers heard h = go h.0 h.7 h.8 (heard-on now lanes h.2 h.4 heard) where
  go : (mid : Option Event) → Turns now None lane h.1 h.3 mid → TurnAll now mid lanes h.2 h.4 (Some heard) → (TurnAll now None lanes h.2 h.4 (Some heard) → HeardOn lanes heard) → HeardOn (lane ∷ lanes) heard
  go None one all again = let found = again all in (found.0, inr found.1, found.2)
  go (Some mid) one all again =
      let same : heard ≡ mid = cc (keep now mid lanes h.2 h.4 (Some heard) all) in
      (lane, inl refl, ap lane_of same ∙ on-lane lane.wire mid (listens-keeps now lane h.1 h.3 (Some mid) one).1)

all-heard-on : (now begin : ℕ) (before after : List Lane) (answers : List Answer) (heard : Event) → Searches now begin before after answers (Some heard) → HeardOn before heard
all-heard-on now begin before after answers heard (inr r) = absurd (cc r.unheard)
all-heard-on now begin before after answers heard (inl h) = go h.trace h.turns_first h.turns_last where
  at : ℕ
  at = index_of_first begin before

  whole : take at before ++ drop at before ≡ before
  whole = take-append-drop at before

  go : (trace : Option Event) → TurnAll now None (drop at before) h.first h.answers_first trace → TurnAll now trace (take at before) h.last h.answers_last (Some heard) → HeardOn before heard
  go None first last =
      let found = heard-on now (take at before) h.last h.answers_last heard last in
      (found.0, subst (λ (l : List Lane). Has l found.0) whole (has-front (take at before) (drop at before) found.0 found.1), found.2)
  go (Some trace) first last =
      let same : heard ≡ trace = cc (keep now trace (take at before) h.last h.answers_last (Some heard) last) in
      let found = heard-on now (drop at before) h.first h.answers_first trace first in
      (found.0, subst (λ (l : List Lane). Has l found.0) whole (has-back (take at before) (drop at before) found.0 found.1), ap lane_of same ∙ found.2)

among : (lanes : List Lane) (x : Lane) → Has lanes x → Among (wires_of lanes) x.wire
among [] x h = absurd h
among (lane ∷ lanes) x (inl e) = inl (ap (λ (l : Lane). l.wire) e)
among (lane ∷ lanes) x (inr h) = inr (among lanes x h)

-- ---- how far a lane is from its turn: 65 for each lane that comes before it, and how many more searches may begin with a named one

abbrev away : ℕ → DoorState → ℕ
away lane state = 65 * in_front state.from lane (wires_of state.lanes) + (64 - state.named)

not-zero : (n : ℕ) → (n + 1 == 0) ≡ false
not-zero n = grind (arith, nat_tests)

advances : (from named begin after_named after_from lane : ℕ) (trace : Option Event) (wires : List ℕ) → lane < 2 ^ 64 →
    (begun : ℕ) × (((begin ≡ from) × (begun ≡ 0)) ⊎ ((named < 64) × (begun ≡ named + 1))) × (after_named ≡ named_after begun trace) → after_from ≡ from_after after_named from trace →
    passes_over begin lane trace ≡ true → ((heard : Event) → trace ≡ Some heard → Among wires (lane_of heard)) →
    65 * in_front after_from lane wires + (64 - after_named) + 1 ≤ 65 * in_front from lane wires + (64 - named)
advances from named begin after_named after_from lane None wires below begins f over has = absurd (cc over)
advances from named begin after_named after_from lane (Some heard) wires below (begun, inl b, same_named) f over has =
    let none : after_named ≡ 0 = same_named ∙ b.1 in
    let at : after_from ≡ number_after (lane_of heard) = f ∙ ap (λ n. from_after n from (Some heard)) none in
    let less = nearer from lane (lane_of heard) wires below (subst (λ n. is_before n (lane_of heard) lane ≡ true) b.0 over) (has heard refl) in
    let same : in_front after_from lane wires ≡ in_front (number_after (lane_of heard)) lane wires = ap (λ n. in_front n lane wires) at in
    omega (arith, less, same, none)
advances from named begin after_named after_from lane (Some heard) wires below (begun, inr b, same_named) f over has =
    let more : after_named ≡ named + 1 = same_named ∙ b.1 in
    let at : after_from ≡ from = f ∙ ap (λ n. from_after n from (Some heard)) more ∙ ap (λ v. if v then number_after (lane_of heard) else from) (not-zero named) in
    let same : in_front after_from lane wires ≡ in_front from lane wires = ap (λ n. in_front n lane wires) at in
    omega (arith, same, b.0, more)

came : (f : ℕ → Bool) (now wait polled_at : ℕ) (wire : Option ℕ) (lanes : List Lane) (turns answers : List Answer) → answers ≡ polled wait polled_at ∷ accepted wire ∷ turns →
    count f (wires_of (with_accepted now wire lanes)) ≤ count f (wires_of lanes) + came_among answers
came f now wait polled_at None lanes turns answers e = omega arith
came f now wait polled_at (Some wire) lanes turns answers e =
    let more = counts-one-more f (wires_of lanes) wire in
    let grown : count f (wires_of (with_accepted now (Some wire) lanes)) ≡ count f (wires_of lanes ++ wire ∷ []) = ap (λ l. count f l) (wires-with now (Some wire) lanes) in
    let counted : came_among answers ≡ came_among turns + 1 = ap came_among e in
    omega (arith, more, grown, counted)

next-nears : (lane wait : ℕ) (what : Heard) (answers : List Answer) (before after : DoorState) (h : HearsNext wait before after answers what) → lane < 2 ^ 64 → passes_over h.begin lane h.trace ≡ true →
    away lane after + 1 ≤ away lane before + 65 * came_among answers
next-nears lane wait what answers before after h below over =
    let lanes = with_accepted what.now h.wire (kept before.lanes) in
    let same : in_front after.from lane (wires_of after.lanes) ≡ in_front after.from lane (wires_of lanes) = ap (λ l. in_front after.from lane l) (hears-wires what.now h.begin lanes after.lanes h.turns h.trace h.hears) in
    let heard_on : (heard : Event) → h.trace ≡ Some heard → Among (wires_of lanes) (lane_of heard) = λ heard e.
    (let found = all-heard-on what.now h.begin lanes after.lanes h.turns heard (subst (λ (o : Option Event). Searches what.now h.begin lanes after.lanes h.turns o) e h.hears) in
    subst (λ n. Among (wires_of lanes) n) (sym found.2) (among lanes found.0 found.1)) in
    let step = advances before.from before.named h.begin after.named after.from lane h.trace (wires_of lanes) below h.begins h.from over heard_on in
    let grown : in_front before.from lane (wires_of lanes) ≤ in_front before.from lane (wires_of (kept before.lanes)) + came_among answers =
    came (λ n. is_before before.from n lane) what.now (time_to_wait wait (kept before.lanes)) h.now h.wire (kept before.lanes) h.turns answers h.all in
    let fewer : in_front before.from lane (wires_of (kept before.lanes)) ≤ in_front before.from lane (wires_of before.lanes) = counts-kept (λ n. is_before before.from n lane) before.lanes in
    omega (arith, same, step, grown, fewer)

stays : (lane : ℕ) (before after : DoorState) → wires_of after.lanes ≡ wires_of before.lanes → after.from ≡ before.from → after.named ≡ before.named → away lane after ≡ away lane before
stays lane before after wires from named =
    ap (λ l. 65 * in_front after.from lane l + (64 - after.named)) wires ∙ ap (λ n. 65 * in_front n lane (wires_of before.lanes) + (64 - after.named)) from
    ∙ ap (λ n. 65 * in_front before.from lane (wires_of before.lanes) + (64 - n)) named

call-nears : (lane : ℕ) (call : Call) (calls : List Call) (bound bound_after : ℕ) (before after : DoorState) → lane < 2 ^ 64 → PassesOver lane call bound bound_after before after →
    away lane after + nexts (call ∷ calls) ≤ away lane before + nexts calls + 65 * came_among (answers_in call)
call-nears lane (session.heard what answers) calls bound bound_after before after below d =
    let step = next-nears lane d.0 what answers before after d.1 below d.3 in omega (arith, step)
call-nears lane (session.replied at reply answers) calls bound bound_after before after below d =
    let same = stays lane before after (replies-keep at before.moment reply before after answers d.0) d.0.1 d.0.2 in omega (arith, same)
call-nears lane (session.sent at bytes text full answers) calls bound bound_after before after below d =
    let same = stays lane before after (sends-keep at before.moment bytes text before after answers d.0) d.0.1 d.0.2 in omega (arith, same)
call-nears lane (session.shut at answers) calls bound bound_after before after below d =
    let same = stays lane before after (shuts-keep at before.moment before after answers d.0) d.0.1 d.0.2 in omega (arith, same)
call-nears lane (session.wrote at answers) calls bound bound_after before after below d =
    let same = stays lane before after (writes-keep at before.lanes after.lanes answers d.0.0) d.0.1 d.0.2 in omega (arith, same)

calls-near : (lane : ℕ) (calls : List Call) (bound bound_after : ℕ) (before after : DoorState) → lane < 2 ^ 64 → AllPassOver lane calls bound bound_after before after →
    away lane after + nexts calls ≤ away lane before + 65 * arrivals calls
calls-near lane [] bound bound_after before after below h =
    let same : away lane after ≡ away lane before = ap (λ (s : DoorState). away lane s) h.1 in omega (arith, same)
calls-near lane (call ∷ calls) bound bound_after before after below h =
    let again = calls-near lane calls bound h.0 before h.1 below h.2 in
    let step = call-nears lane call calls h.0 bound_after h.1 after below h.3 in
    omega (arith, again, step)

pub lanes-are-reached : LanesAreReached
lanes-are-reached calls bound bound_after before after lane h has below =
    let near = calls-near lane.wire calls bound bound_after before after below h in
    let fewer : in_front before.from lane.wire (wires_of before.lanes) + 1 ≤ length (wires_of before.lanes) =
    counts-without (λ n. is_before before.from n lane.wire) (wires_of before.lanes) lane.wire (not-self before.from lane.wire) (among before.lanes lane (has-of before.lanes lane has)) in
    let as_many : length (wires_of before.lanes) ≡ length before.lanes = length-map before.lanes (λ (l : Lane). l.wire) in
    omega (arith, near, fewer, as_many)

-- ---- each lane that isn't passed over listens

abbrev Listened : ℕ → Lane → List Lane → List Answer → Option Event → Type 0
Listened now lane after answers heard =
    (next : Lane) × (own : Option Event) × (first : List Answer) × (mine : List Answer) × (last : List Answer)
    × Has after next × Listens now lane next mine own × (answers ≡ first ++ (mine ++ last)) × ((own ≡ None) ⊎ (own ≡ heard))

-- a lane with a lower number was heard
abbrev IsLowerHeard : Lane → List Lane → Option Event → Type 0
IsLowerHeard x lanes heard = (one : Event) × (y : Lane) × (heard ≡ Some one) × Has lanes y × (lane_of one ≡ y.wire) × (y.wire < x.wire)

fits : (now : ℕ) (mid heard : Option Event) (lanes after : List Lane) (answers : List Answer) → TurnAll now mid lanes after answers heard → (mid ≡ None) ⊎ (mid ≡ heard)
fits now None heard lanes after answers h = inl refl
fits now (Some mid) heard lanes after answers h = inr (sym (keep now mid lanes after answers heard h))

turn-listens : (now from bound : ℕ) (lanes after : List Lane) (answers : List Answer) (heard : Option Event) → IsRising from bound (wires_of lanes) → TurnAll now None lanes after answers heard →
    (x : Lane) → Has lanes x → Listened now x after answers heard ⊎ IsLowerHeard x lanes heard
turn-listens now from bound [] after answers heard rise h x has = absurd has
turn-listens now from bound (lane ∷ lanes) after answers heard rise h x (inl e) =
    let turn : Listens now x h.1 h.3 h.0 = subst (λ (l : Lane). Listens now l h.1 h.3 h.0) e h.7 in
    inl (h.1, h.0, [], h.3, h.4, subst (λ (l : List Lane). Has l h.1) (sym h.5) (inl refl), turn, h.6, fits now h.0 heard lanes h.2 h.4 h.8)
turn-listens now from bound (lane ∷ lanes) after answers heard rise h x (inr has) = go h.0 h.7 h.8 (turn-listens now (lane.wire + 1) bound lanes h.2 h.4 heard rise.1) where
  higher : lane.wire + 1 ≤ x.wire
  higher = (rising-within (lane.wire + 1) bound lanes x rise.1 has).0

  go : (mid : Option Event) → Turns now None lane h.1 h.3 mid → TurnAll now mid lanes h.2 h.4 heard →
      (TurnAll now None lanes h.2 h.4 heard → (x : Lane) → Has lanes x → Listened now x h.2 h.4 heard ⊎ IsLowerHeard x lanes heard) → Listened now x after answers heard ⊎ IsLowerHeard x (lane ∷ lanes) heard
  go None one all again = more (again all x has) where
    more : Listened now x h.2 h.4 heard ⊎ IsLowerHeard x lanes heard → Listened now x after answers heard ⊎ IsLowerHeard x (lane ∷ lanes) heard
    more (inl l) = inl (l.0, l.1, h.3 ++ l.2, l.3, l.4, subst (λ (k : List Lane). Has k l.0) (sym h.5) (inr l.5), l.6, h.6 ∙ ap (λ k. h.3 ++ k) l.7 ∙ sym (append_assoc h.3 l.2 (l.3 ++ l.4)), l.8)
    more (inr l) = inr (l.0, l.1, l.2, inr l.3, l.4, l.5)
  go (Some mid) one all again =
      inr (mid, lane, keep now mid lanes h.2 h.4 heard all, inl refl, on-lane lane.wire mid (listens-keeps now lane h.1 h.3 (Some mid) one).1, omega (arith, higher))

least : (from bound : ℕ) (wires : List ℕ) → IsRising from bound wires → from ≤ bound
least from bound [] h = h
least from bound (w ∷ ws) h = let k = least (w + 1) bound ws h.1 in omega (arith, k, h.0)

drop-rises : (n from bound : ℕ) (lanes : List Lane) → IsRising from bound (wires_of lanes) → IsRising 0 bound (wires_of (drop n lanes))
drop-rises zero from bound lanes h = lower from 0 bound (wires_of lanes) (omega arith) h
drop-rises (suc n) from bound [] h = omega arith
drop-rises (suc n) from bound (lane ∷ lanes) h = drop-rises n (lane.wire + 1) bound lanes h.1

take-rises : (n from bound : ℕ) (lanes : List Lane) → IsRising from bound (wires_of lanes) → IsRising from bound (wires_of (take n lanes))
take-rises zero from bound lanes h = least from bound (wires_of lanes) h
take-rises (suc n) from bound [] h = h
take-rises (suc n) from bound (lane ∷ lanes) h = (h.0, take-rises n (lane.wire + 1) bound lanes h.1)

-- ---- which lanes have their turns first

abbrev place : ℕ → List Lane → ℕ
place begin lanes = position_or_len (λ (lane : Lane). leb begin lane.wire) lanes

within : (begin : ℕ) (lanes : List Lane) → place begin lanes ≤ length lanes
within begin [] = omega arith
within begin (lane ∷ lanes) = go (leb begin lane.wire) (within begin lanes) where
  go : (b : Bool) → place begin lanes ≤ length lanes → cond (not b) (1 + place begin lanes) 0 ≤ length (lane ∷ lanes)
  go true le = omega arith
  go false le = omega (arith, le)

first-place : (begin : ℕ) (lanes : List Lane) → index_of_first begin lanes ≡ place begin lanes
first-place begin lanes = grind (arith, within begin lanes)

-- the lanes that come first have the number or a greater one, and the others a lower one
abbrev Parts : ℕ → ℕ → List Lane → Lane → Type 0
Parts begin at lanes x = (Has (drop at lanes) x → begin ≤ x.wire) × (Has (take at lanes) x → x.wire < begin)

parts : (begin from bound : ℕ) (lanes : List Lane) (x : Lane) → IsRising from bound (wires_of lanes) → Parts begin (place begin lanes) lanes x
parts begin from bound [] x rise = (λ h. absurd h, λ h. absurd h)
parts begin from bound (lane ∷ lanes) x rise = go (leb_tells begin lane.wire) (parts begin (lane.wire + 1) bound lanes x rise.1) where
  go : ((leb begin lane.wire ≡ true) × (begin ≤ lane.wire)) ⊎ ((leb begin lane.wire ≡ false) × (lane.wire < begin)) → Parts begin (place begin lanes) lanes x →
      Parts begin (place begin (lane ∷ lanes)) (lane ∷ lanes) x
  go (inl t) again =
      let at : place begin (lane ∷ lanes) ≡ 0 = ap (λ b. cond (not b) (1 + place begin lanes) 0) t.0 in
      let high : Has (lane ∷ lanes) x → begin ≤ x.wire = λ h. omega (arith, t.1, (rising-within lane.wire bound (lane ∷ lanes) x (omega arith, rise.1) h).0) in
      subst (λ n. Parts begin n (lane ∷ lanes) x) (sym at) (high, λ h. absurd h)
  go (inr t) again =
      let at : place begin (lane ∷ lanes) ≡ suc (place begin lanes) = ap (λ b. cond (not b) (1 + place begin lanes) 0) t.0 ∙ omega arith in
      subst (λ n. Parts begin n (lane ∷ lanes) x) (sym at) (again.0, low again.1) where
        low : (Has (take (place begin lanes) lanes) x → x.wire < begin) → (lane ≡ x) ⊎ Has (take (place begin lanes) lanes) x → x.wire < begin
        low again (inl e) = subst (λ (l : Lane). l.wire < begin) e t.1
        low again (inr h) = again h

-- ---- a search

before-up : (begin lane other : ℕ) → begin ≤ lane → begin ≤ other → other < lane → is_before begin other lane ≡ true
before-up begin lane other up high lower = grind (arith, nat_tests, up, high, lower)

before-lower : (begin lane other : ℕ) → lane < begin → other < lane → is_before begin other lane ≡ true
before-lower begin lane other down lower = grind (arith, nat_tests, down, lower)

before-higher : (begin lane other : ℕ) → lane < begin → begin ≤ other → is_before begin other lane ≡ true
before-higher begin lane other down high = grind (arith, nat_tests, down, high)

clash : (begin lane : ℕ) (one : Event) (heard : Option Event) → heard ≡ Some one → is_before begin (lane_of one) lane ≡ true → passes_over begin lane heard ≡ false → ⊥
clash begin lane one heard e is over =
    let path : true ≡ false = sym is ∙ (sym (ap (λ (o : Option Event). passes_over begin lane o) e) ∙ over) in cc path

own-fits : (own trace heard : Option Event) → (own ≡ None) ⊎ (own ≡ trace) → (trace ≡ None) ⊎ (trace ≡ heard) → (own ≡ None) ⊎ (own ≡ heard)
own-fits own trace heard (inl e) f = inl e
own-fits own trace heard (inr e) (inl f) = inl (e ∙ f)
own-fits own trace heard (inr e) (inr f) = inr (e ∙ f)

pub others-listen : OthersListen
others-listen now begin bound before after answers heard rise h lane has over =
    go (has-part (take at before) (drop at before) lane (subst (λ (l : List Lane). Has l lane) (sym whole) (has-of before lane has))) where
      at : ℕ
      at = index_of_first begin before

      whole : take at before ++ drop at before ≡ before
      whole = take-append-drop at before

      parted : (x : Lane) → Parts begin at before x
      parted x = subst (λ n. Parts begin n before x) (sym (first-place begin before)) (parts begin 0 bound before x rise)

      back : begin ≤ lane.wire → Listened now lane h.first h.answers_first h.trace ⊎ IsLowerHeard lane (drop at before) h.trace → HasListened now lane after answers heard
      back high (inl l) = (
        l.0,
        l.1,
        l.2,
        l.3,
        l.4 ++ h.answers_last,
        contains-of after l.0 (subst (λ (k : List Lane). Has k l.0) (sym h.order) (has-back h.last h.first l.0 l.5)),
        l.6,
        h.all ∙ ap (λ k. k ++ h.answers_last) l.7 ∙ append_assoc l.2 (l.3 ++ l.4) h.answers_last ∙ ap (λ k. l.2 ++ k) (append_assoc l.3 l.4 h.answers_last),
        own-fits l.1 h.trace heard l.8 (fits now h.trace heard (take at before) h.last h.answers_last h.turns_last),
      )
      back high (inr l) =
          let one = l.0 in
          let kept_on : heard ≡ Some one = keep now one (take at before) h.last h.answers_last heard (subst (λ (o : Option Event). TurnAll now o (take at before) h.last h.answers_last heard) l.2 h.turns_last) in
          let low : begin ≤ (l.1).wire = (parted l.1).0 l.3 in
          absurd (clash begin lane.wire one heard kept_on (before-up begin lane.wire (lane_of one) high (subst (λ n. begin ≤ n) (sym l.4) low) (subst (λ n. n < lane.wire) (sym l.4) l.5)) over)

      front : lane.wire < begin → Has (take at before) lane → (trace : Option Event) → TurnAll now None (drop at before) h.first h.answers_first trace → TurnAll now trace (take at before) h.last h.answers_last heard →
          HasListened now lane after answers heard
      front down in_front None first last = turned (turn-listens now 0 bound (take at before) h.last h.answers_last heard (take-rises at 0 bound before rise) last lane in_front) where
        turned : Listened now lane h.last h.answers_last heard ⊎ IsLowerHeard lane (take at before) heard → HasListened now lane after answers heard
        turned (inl l) = (
          l.0,
          l.1,
          h.answers_first ++ l.2,
          l.3,
          l.4,
          contains-of after l.0 (subst (λ (k : List Lane). Has k l.0) (sym h.order) (has-front h.last h.first l.0 l.5)),
          l.6,
          h.all ∙ ap (λ k. h.answers_first ++ k) l.7 ∙ sym (append_assoc h.answers_first l.2 (l.3 ++ l.4)),
          l.8,
        )
        turned (inr l) =
            absurd (clash begin lane.wire l.0 heard l.2 (before-lower begin lane.wire (lane_of l.0) down (subst (λ n. n < lane.wire) (sym l.4) l.5)) over)
      front down in_front (Some trace) first last =
          let kept_on : heard ≡ Some trace = keep now trace (take at before) h.last h.answers_last heard last in
          let found = heard-on now (drop at before) h.first h.answers_first trace first in
          let high : begin ≤ lane_of trace = subst (λ n. begin ≤ n) (sym found.2) ((parted found.0).0 found.1) in
          absurd (clash begin lane.wire trace heard kept_on (before-higher begin lane.wire (lane_of trace) down high) over)

      go : Has (take at before) lane ⊎ Has (drop at before) lane → HasListened now lane after answers heard
      go (inl k) = front ((parted lane).1 k) k h.trace h.turns_first h.turns_last
      go (inr k) = back ((parted lane).0 k) (turn-listens now 0 bound (drop at before) h.first h.answers_first h.trace (drop-rises at 0 bound before rise) h.turns_first lane k)
