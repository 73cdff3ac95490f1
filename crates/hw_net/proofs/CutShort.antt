-- After a call that memory cut short no more waits on a lane than may: what its last flush leaves.
use Rattle.std.proofs.Common.{◌≡◌, ◌⊎◌, ◌<◌, ◌≤◌, ◌-◌, ◌+◌, ◌==◌, ◌&&◌, ◌++◌, ◌∷◌, [], ℕ, zero, suc, Bool, true, false, List, Option, None, refl, sym, ap, ◌∙◌, subst, arith, inl, inr, length, get_or, set, ltb, take, drop, max, take-append-drop, Contains}
use Rattle.std.proofs.lemmas.Bool.Decides.{nat_tests}
use Rattle.std.proofs.lemmas.List.{drop-drop}
use Rattle.hw_door.specs.declared.heard.Event.{Event}
use Rattle.hw_door.specs.Traffic.{Answer}
use Rattle.hw_net.specs.declared.protocol.Stage.{Stage}
use Rattle.hw_net.specs.declared.protocol.Stage.TheVariants.{Live}
use Rattle.hw_net.specs.Bounds.{IsWithin, EachIs, AreWithin, HaltsAreWithin}
use Rattle.hw_net.specs.Door.{DoorState, index_of_first, kept, with_accepted}
use Rattle.hw_net.specs.Flushing.{WriteEach}
use Rattle.hw_net.specs.Halting.{Halts, HaltsAll, HaltsNext, HaltsWithin}
use Rattle.hw_net.specs.Lane.{Lane, after_hearing, waits, wires_of, is_live}
use Rattle.hw_net.specs.Rising.{IsRising}
use Rattle.hw_net.specs.Saying.{WritesIfLive, is_too_much}
use Rattle.hw_net.specs.Tally.{is_writer}
use Rattle.hw_net.specs.Trace.{Chooses}
use Rattle.hw_net.specs.Turn.{AtLane}
use Rattle.hw_net.specs.Walks.{Walks, between}
use Rattle.hw_net.specs.Writers.{AreWriters}
use Rattle.hw_net.proofs.Bounding.{EachWas, both-are, each-of, gathers-within, kept-within, live-written, not-more, turns-leave, turn-within, with-within}
use Rattle.hw_net.proofs.Moves.{Has}
use Rattle.hw_net.proofs.Numbering.{flushes-keep, writes-keep}

-- ---- turns of the lanes of some places

front-is : (Is : Lane → Type 0) (xs ys : List Lane) → EachIs Is (xs ++ ys) → EachIs Is xs
front-is Is [] ys h = tt
front-is Is (x ∷ xs) ys h = (h.0, front-is Is xs ys h.1)

back-is : (Is : Lane → Type 0) (xs ys : List Lane) → EachIs Is (xs ++ ys) → EachIs Is ys
back-is Is [] ys h = h
back-is Is (x ∷ xs) ys h = back-is Is xs ys h.1

has-is : (Is : Lane → Type 0) (lanes : List Lane) → EachIs Is lanes → (lane : Lane) → Has lanes lane → Is lane
has-is Is [] h lane has = absurd has
has-is Is (first ∷ lanes) h lane (inl e) = subst Is e h.0
has-is Is (first ∷ lanes) h lane (inr has) = has-is Is lanes h.1 lane has

has-each : (Is : Lane → Type 0) (lanes : List Lane) → EachWas Is lanes → EachIs Is lanes
has-each Is [] were = tt
has-each Is (lane ∷ lanes) were = (were lane (inl refl), has-each Is lanes (λ other has. were other (inr has)))

-- the lanes before some places, those there, and those after
parts : (begin end : ℕ) (lanes : List Lane) → begin ≤ end → take begin lanes ++ (between begin end lanes ++ drop end lanes) ≡ lanes
parts begin end lanes le =
    let gap : begin + (end - begin) ≡ end = omega (arith, le) in
    let rest : between begin end lanes ++ drop end lanes ≡ drop begin lanes =
    ap (λ (l : List Lane). between begin end lanes ++ l) (sym (drop-drop (end - begin) begin lanes ∙ ap (λ n. drop n lanes) gap)) ∙ take-append-drop (end - begin) (drop begin lanes) in
    ap (λ (l : List Lane). take begin lanes ++ l) rest ∙ take-append-drop begin lanes

walk-within : (now : ℕ) (trace heard : Option Event) (begin end : ℕ) (before after : List Lane) (answers : List Answer) → begin ≤ end → Walks now trace begin end before after answers heard →
    AreWithin before → AreWithin after
walk-within now trace heard begin end before after answers le w k =
    let mine = between begin end before in
    let all : AreWithin (take begin before ++ (mine ++ drop end before)) = subst (λ (l : List Lane). AreWithin l) (sym (parts begin end before le)) k in
    let rest = back-is IsWithin (take begin before) (mine ++ drop end before) all in
    let turned = turns-leave now IsWithin IsWithin trace mine (between begin end after) answers heard (turn-within now) (has-is IsWithin mine (front-is IsWithin mine (drop end before) rest)) w.turns in
    let front : AreWithin (take begin after) = subst (λ (l : List Lane). AreWithin l) (sym w.front) (front-is IsWithin (take begin before) (mine ++ drop end before) all) in
    let back : AreWithin (drop end after) = subst (λ (l : List Lane). AreWithin l) (sym w.back) (back-is IsWithin mine (drop end before) rest) in
    subst (λ (l : List Lane). AreWithin l) (parts begin end after le)
    (both-are IsWithin (take begin after) (between begin end after ++ drop end after) front (both-are IsWithin (between begin end after) (drop end after) turned back))

-- ---- a search that memory cut short

-- no more waits than may, or the lane is live, so that a flush drops it
abbrev IsWithinOrLive : Lane → Type 0
IsWithinOrLive lane = IsWithin lane ⊎ (lane.stage ≡ Live)

each-weaker : (Is Was : Lane → Type 0) (lanes : List Lane) → ((lane : Lane) → Was lane → Is lane) → EachIs Was lanes → EachIs Is lanes
each-weaker Is Was [] weaker h = tt
each-weaker Is Was (lane ∷ lanes) weaker h = (weaker lane h.0, each-weaker Is Was lanes weaker h.1)

still-allowed : (lanes : List Lane) → AreWithin lanes → EachIs IsWithinOrLive lanes
still-allowed lanes h = each-weaker IsWithinOrLive IsWithin lanes (λ lane k. inl k) h

set-is : (Is : Lane → Type 0) (lanes : List Lane) (index : ℕ) (next : Lane) → EachIs Is lanes → Is next → EachIs Is (set lanes index next)
set-is Is [] index next h k = tt
set-is Is (lane ∷ lanes) zero next h k = (k, h.1)
set-is Is (lane ∷ lanes) (suc index) next h k = (h.0, set-is Is lanes index next h.1 k)

halted-live : (before after : Lane) (answers : List Answer) → Halts before after answers → after.stage ≡ Live
halted-live before after answers h = go h.2 where
  go : (after ≡ record before { protocol = h.0 }) ⊎ (after ≡ after_hearing h.0 before) → after.stage ≡ Live
  go (inl e) = ap (λ (l : Lane). l.stage) e ∙ h.3
  go (inr e) = ap (λ (l : Lane). l.stage) e ∙ h.3

halted-within : (now begin end : ℕ) (before after : List Lane) (answers : List Answer) → HaltsWithin now begin end before after answers → AreWithin before → EachIs IsWithinOrLive after
halted-within now begin end before after answers h k =
    let here = h.8 in
    let walked = walk-within now None None begin h.0 before h.1 h.2 h.4 h.7 k in
    subst (λ (l : List Lane). EachIs IsWithinOrLive l) (sym here.order) (set-is IsWithinOrLive h.1 h.0 here.next (still-allowed h.1 walked) (inr (halted-live here.lane here.next h.3 here.does)))

no-later-than-all : (from : ℕ) (lanes : List Lane) → index_of_first from lanes ≤ length lanes
no-later-than-all from lanes = grind arith

halted-all : (now from : ℕ) (before after : List Lane) (answers : List Answer) → HaltsAll now from before after answers → AreWithin before → EachIs IsWithinOrLive after
halted-all now from before after answers (inl h) k = halted-within now (index_of_first from before) (length before) before after answers h k
halted-all now from before after answers (inr h) k =
    halted-within now 0 (index_of_first from before) h.0 after h.2 h.5
    (walk-within now None None (index_of_first from before) (length before) before h.0 h.1 (no-later-than-all from before) h.4 k)

halted-next : (wait : ℕ) (before after : DoorState) (answers : List Answer) → HaltsNext wait before after answers → AreWithin before.lanes → EachIs IsWithinOrLive after.lanes
halted-next wait before after answers (inl h) k =
    subst (λ (d : DoorState). EachIs IsWithinOrLive d.lanes) (sym h.3) (still-allowed (kept before.lanes) (kept-within before.lanes k))
halted-next wait before after answers (inr h) k =
    let came = with_accepted (max h.now before.moment) h.wire (kept before.lanes) in
    halted-all (max h.now before.moment) h.begin came after.lanes h.turns h.halts (has-each IsWithin came (with-within (max h.now before.moment) h.wire before.lanes (each-of before.lanes k)))

-- ---- the last flush

-- the number is one of these
abbrev Among : List ℕ → ℕ → Type 0
Among [] n = ⊥
Among (wire ∷ wires) n = (n ≡ wire) ⊎ Among wires n

among : (wires : List ℕ) (n : ℕ) → Contains wires n → Among wires n
among [] n c = absurd (omega (arith, c.1))
among (wire ∷ wires) n c = go c.0 c.1 c.2 (among wires n) where
  go : (k : ℕ) → k < suc (length wires) → get_or (wire ∷ wires) k n ≡ n → (Contains wires n → Among wires n) → Among (wire ∷ wires) n
  go zero lt e again = inl (sym e)
  go (suc k) lt e again = inr (again (k, omega (arith, lt), e))

-- no more waits than may, or the lane is live and its turn to write comes
abbrev IsWithinOrNext : List ℕ → Lane → Type 0
IsWithinOrNext wires lane = IsWithin lane ⊎ ((lane.stage ≡ Live) × Among wires lane.wire)

never : true ≡ false → ⊥
never e = absurd (cc e)

other-next : (wire : ℕ) (wires : List ℕ) (lane : Lane) → (lane.wire == wire) ≡ false → IsWithinOrNext (wire ∷ wires) lane → IsWithinOrNext wires lane
other-next wire wires lane other (inl k) = inl k
other-next wire wires lane other (inr k) = go k.1 where
  go : (lane.wire ≡ wire) ⊎ Among wires lane.wire → IsWithinOrNext wires lane
  go (inl e) =
      let own : (lane.wire == wire) ≡ true = grind (arith, nat_tests, e) in
      absurd (never (sym own ∙ other))
  go (inr among_rest) = inr (k.0, among_rest)

others-next : (wire : ℕ) (wires : List ℕ) (from bound : ℕ) (lanes : List Lane) → wire < from → IsRising from bound (wires_of lanes) → EachIs (IsWithinOrNext (wire ∷ wires)) lanes →
    EachIs (IsWithinOrNext wires) lanes
others-next wire wires from bound [] lt rises h = tt
others-next wire wires from bound (lane ∷ lanes) lt rises h = (
  other-next wire wires lane (grind (arith, nat_tests, lt, rises.0)) h.0,
  others-next wire wires (lane.wire + 1) bound lanes (omega (arith, lt, rises.0)) rises.1 h.1,
)

owner : (wires : List ℕ) (lane : Lane) → IsWithinOrNext wires lane → IsWithinOrLive lane
owner wires lane (inl within) = inl within
owner wires lane (inr next) = inr next.0

-- the lane of a number writes, and needs no further turn
written-next : (wire : ℕ) (wires : List ℕ) (from bound : ℕ) (lanes after : List Lane) (answers : List Answer) → IsRising from bound (wires_of lanes) → AtLane wire WritesIfLive lanes after answers →
    EachIs (IsWithinOrNext (wire ∷ wires)) lanes → EachIs (IsWithinOrNext wires) after
written-next wire wires from bound [] after answers rises h k = subst (λ (l : List Lane). EachIs (IsWithinOrNext wires) l) (sym h.0) tt
written-next wire wires from bound (lane ∷ lanes) after answers rises h k = go (lane.wire == wire) refl h (λ rest at. written-next wire wires (lane.wire + 1) bound lanes rest answers rises.1 at k.1) where
  go : (b : Bool) → (lane.wire == wire) ≡ b →
      Chooses b ((next : Lane) × (after ≡ next ∷ lanes) × WritesIfLive lane next answers) ((rest : List Lane) × (after ≡ lane ∷ rest) × AtLane wire WritesIfLive lanes rest answers) →
      ((rest : List Lane) → AtLane wire WritesIfLive lanes rest answers → EachIs (IsWithinOrNext wires) rest) → EachIs (IsWithinOrNext wires) after
  go true e h again =
      let own : lane.wire ≡ wire = grind (arith, nat_tests, e) in
      subst (λ (l : List Lane). EachIs (IsWithinOrNext wires) l) (sym h.1)
      (inl (live-written lane h.0 answers h.2 (owner (wire ∷ wires) lane k.0)), others-next wire wires (lane.wire + 1) bound lanes (omega (arith, own)) rises.1 k.1)
  go false e h again = subst (λ (l : List Lane). EachIs (IsWithinOrNext wires) l) (sym h.1) (other-next wire wires lane e k.0, again h.0 h.2)

each-written : (wires : List ℕ) (bound : ℕ) (lanes after : List Lane) (answers : List Answer) → IsRising 0 bound (wires_of lanes) → WriteEach wires lanes after answers →
    EachIs (IsWithinOrNext wires) lanes → AreWithin after
each-written [] bound lanes after answers rises h k = subst (λ (l : List Lane). AreWithin l) (sym h.0) (each-weaker IsWithin (IsWithinOrNext []) lanes none k) where
  none : (lane : Lane) → IsWithinOrNext [] lane → IsWithin lane
  none lane (inl within) = within
  none lane (inr next) = absurd next.1
each-written (wire ∷ wires) bound lanes after answers rises h k =
    let again = subst (λ (l : List ℕ). IsRising 0 bound l) (sym (writes-keep wire lanes h.0 h.1 h.4)) rises in
    each-written wires bound h.0 after h.2 again h.5 (written-next wire wires 0 bound lanes h.0 h.1 rises h.4 k)

-- a live lane on which too much waits is listed
listed : (wires : List ℕ) (lane : Lane) → (is_writer lane ≡ true → Contains wires lane.wire) → IsWithinOrLive lane → IsWithinOrNext wires lane
listed wires lane writes (inl within) = inl within
listed wires lane writes (inr live) = go (is_too_much (length (waits lane))) refl where
  go : (b : Bool) → is_too_much (length (waits lane)) ≡ b → IsWithinOrNext wires lane
  go true e =
      let some : ltb 0 (length (waits lane)) ≡ true = grind (arith, e) in
      let writer : is_writer lane ≡ true = ap (λ (s : Stage). is_live s && ltb 0 (length (waits lane))) live ∙ some in
      inr (live, among wires lane.wire (writes writer))
  go false e = inl (λ has. not-more (length (waits lane)) e)

all-listed : (wires : List ℕ) (lanes : List Lane) → AreWriters wires lanes → EachIs IsWithinOrLive lanes → EachIs (IsWithinOrNext wires) lanes
all-listed wires [] writes h = tt
all-listed wires (lane ∷ lanes) writes h =
    let later : (n : ℕ) → n < length lanes → suc n < suc (length lanes) = λ n lt. omega (arith, lt) in (
      listed wires lane (writes lane (0, omega arith, refl)) h.0,
      all-listed wires lanes (λ other here. writes other (suc here.0, later here.0 here.1, here.2)) h.1,
    )

pub halts-within : HaltsAreWithin
halts-within wait gathering before after answers h rises k =
    let gathered = gathers-within wait gathering h.gathering_after h.wait_after before h.mid h.first h.gathers k in
    let flushes = h.flushes.flushes in
    let same = flushes-keep h.halted after h.last h.flushes in
    each-written flushes.wires rises.0 h.halted.lanes after.lanes h.last (subst (λ (l : List ℕ). IsRising 0 rises.0 l) same rises.1) flushes.writes
    (all-listed flushes.wires h.halted.lanes flushes.all (halted-next h.wait_after h.mid h.halted h.more h.halts gathered))
