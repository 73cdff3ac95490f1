-- How the numbers of a dialer's lanes stay those of its lanes.
use Rattle.std.proofs.Common.{◌≡◌, ◌≤◌, ◌<◌, ◌+◌, ◌==◌, ◌||◌, ◌++◌, ◌∷◌, [], ℕ, Bool, true, false, not, cond, List, Option, None, Some, refl, sym, ap, ◌∙◌, subst, arith, map, filter, get_or, position}
use Rattle.std.specs.Option.{option_map, unwrap_or}
use Rattle.std.proofs.lemmas.List.{append-nil, map_push}
use Rattle.std.proofs.lemmas.Bool.Decides.{nat_tests}
use Rattle.hw_net.specs.declared.numbers.LaneWire.{LaneWire}
use Rattle.hw_net.specs.Chains.{is_there}
use Rattle.hw_net.specs.Door.{kept}
use Rattle.hw_net.specs.Lane.{Lane, is_over, wires_of}
use Rattle.hw_net.specs.LaneNumbers.{lanes_in, wires_in, lane_on, still_there, wire_of}
use Rattle.hw_net.specs.Numbered.{AreNumbered}
use Rattle.hw_net.specs.Rising.{IsRising, Rise}
use Rattle.hw_net.proofs.Findings.{find-at, find-none, is-placed, is-unplaced}
use Rattle.hw_net.proofs.Numbering.{come-rise, higher, kept-rise, lower}

-- ---- what is found of a lane, or of a wire

pub wire-at : (lane : ℕ) (numbers : List LaneWire) (index : ℕ) (d : LaneWire) → position (λ (number : LaneWire). number.lane == lane) numbers ≡ Some index → wire_of lane numbers ≡ Some (get_or numbers index d).wire
wire-at lane numbers index d e =
    let p = λ (number : LaneWire). number.lane == lane in
    let k = is-placed p numbers index e in
    ap (λ (o : Option LaneWire). option_map (λ (number : LaneWire). number.wire) o) (find-at p numbers index d k.0 k.1)

pub no-wire : (lane : ℕ) (numbers : List LaneWire) → position (λ (number : LaneWire). number.lane == lane) numbers ≡ None → wire_of lane numbers ≡ None
no-wire lane numbers e =
    let p = λ (number : LaneWire). number.lane == lane in
    ap (λ (o : Option LaneWire). option_map (λ (number : LaneWire). number.wire) o) (find-none p numbers (is-unplaced p numbers e))

pub lane-at : (wire : ℕ) (numbers : List LaneWire) (index : ℕ) (d : LaneWire) → position (λ (number : LaneWire). number.wire == wire) numbers ≡ Some index → lane_on wire numbers ≡ (get_or numbers index d).lane
lane-at wire numbers index d e =
    let p = λ (number : LaneWire). number.wire == wire in
    let k = is-placed p numbers index e in
    ap (λ (o : Option LaneWire). unwrap_or (option_map (λ (number : LaneWire). number.lane) o) 0) (find-at p numbers index d k.0 k.1)

pub no-lane : (wire : ℕ) (numbers : List LaneWire) → position (λ (number : LaneWire). number.wire == wire) numbers ≡ None → lane_on wire numbers ≡ 0
no-lane wire numbers e =
    let p = λ (number : LaneWire). number.wire == wire in
    ap (λ (o : Option LaneWire). unwrap_or (option_map (λ (number : LaneWire). number.lane) o) 0) (find-none p numbers (is-unplaced p numbers e))

-- ---- the lanes that are over are forgotten

-- numbers rise though some are left out
filter-rise : {A : Type 0} (key : A → ℕ) (is_kept : A → Bool) (from bound : ℕ) (all : List A) → IsRising from bound (map key all) → IsRising from bound (map key (filter is_kept all))
filter-rise key is_kept from bound [] h = h
filter-rise key is_kept from bound (x ∷ xs) h = go (is_kept x) (filter-rise key is_kept (key x + 1) bound xs h.1) where
  go : (b : Bool) → IsRising (key x + 1) bound (map key (filter is_kept xs)) → IsRising from bound (map key (cond b (x ∷ filter is_kept xs) (filter is_kept xs)))
  go true k = (h.0, k)
  go false k = lower (key x + 1) from bound (map key (filter is_kept xs)) (omega (arith, h.0)) k

there-below : (wire from bound : ℕ) (lanes : List Lane) → wire < from → IsRising from bound (wires_of lanes) → is_there wire lanes ≡ false
there-below wire from bound [] lt h = refl
there-below wire from bound (lane ∷ lanes) lt h =
    let other : (lane.wire == wire) ≡ false = grind (arith, nat_tests, lt, h.0) in
    ap (λ b. b || is_there wire lanes) other ∙ there-below wire (lane.wire + 1) bound lanes (omega (arith, lt, h.0)) h.1

-- a lane of a lower number than all of these doesn't count
past-lower : (lane : Lane) (lanes : List Lane) (from bound : ℕ) (numbers : List LaneWire) → lane.wire < from → IsRising from bound (wires_in numbers) → still_there (lane ∷ lanes) numbers ≡ still_there lanes numbers
past-lower lane lanes from bound [] lt h = refl
past-lower lane lanes from bound (number ∷ numbers) lt h =
    let other : (lane.wire == number.wire) ≡ false = grind (arith, nat_tests, lt, h.0) in
    ap (λ b. cond (b || is_there number.wire lanes) (number ∷ still_there (lane ∷ lanes) numbers) (still_there (lane ∷ lanes) numbers)) other
    ∙ ap (λ l. cond (is_there number.wire lanes) (number ∷ l) l) (past-lower lane lanes (number.wire + 1) bound numbers (omega (arith, lt, h.0)) h.1)

itself : (lane number : ℕ) → number ≡ lane → (lane == number) ≡ true
itself lane number e = grind (arith, nat_tests, e)

first-wire : (number : LaneWire) (lane : Lane) (numbers : List LaneWire) (lanes : List Lane) → wires_in (number ∷ numbers) ≡ wires_of (lane ∷ lanes) → (number.wire ≡ lane.wire) × (wires_in numbers ≡ wires_of lanes)
first-wire number lane numbers lanes e = (cc e, cc e)

pub all-there : (from bound : ℕ) (numbers : List LaneWire) (lanes : List Lane) → IsRising from bound (wires_in numbers) → wires_in numbers ≡ wires_of lanes → still_there lanes numbers ≡ numbers
all-there from bound [] lanes h e = refl
all-there from bound (number ∷ numbers) [] h e = absurd (cc e)
all-there from bound (number ∷ numbers) (lane ∷ lanes) h e =
    let k = first-wire number lane numbers lanes e in
    ap (λ b. cond (b || is_there number.wire lanes) (number ∷ still_there (lane ∷ lanes) numbers) (still_there (lane ∷ lanes) numbers)) (itself lane.wire number.wire k.0)
    ∙ ap (λ l. number ∷ l) (past-lower lane lanes (number.wire + 1) bound numbers (omega (arith, k.0)) h.1 ∙ all-there (number.wire + 1) bound numbers lanes h.1 k.1)

-- the wires of those that are kept are those of the lanes that are
pub wires-cleared : (from bound : ℕ) (numbers : List LaneWire) (lanes : List Lane) → IsRising from bound (wires_in numbers) → wires_in numbers ≡ wires_of lanes → wires_in (still_there (kept lanes) numbers) ≡ wires_of (kept lanes)
wires-cleared from bound [] [] h e = refl
wires-cleared from bound [] (lane ∷ lanes) h e = absurd (cc e)
wires-cleared from bound (number ∷ numbers) [] h e = absurd (cc e)
wires-cleared from bound (number ∷ numbers) (lane ∷ lanes) h e =
    let k = first-wire number lane numbers lanes e in
    let rising : IsRising (number.wire + 1) bound (wires_of lanes) = subst (λ l. IsRising (number.wire + 1) bound l) k.1 h.1 in
    go (not (is_over lane.stage)) k.0 (there-below number.wire (number.wire + 1) bound (kept lanes) (omega arith) (kept-rise (number.wire + 1) bound lanes rising))
    (past-lower lane (kept lanes) (number.wire + 1) bound numbers (omega (arith, k.0)) h.1) (wires-cleared (number.wire + 1) bound numbers lanes h.1 k.1) where
      go : (b : Bool) → number.wire ≡ lane.wire → is_there number.wire (kept lanes) ≡ false → still_there (lane ∷ kept lanes) numbers ≡ still_there (kept lanes) numbers →
          wires_in (still_there (kept lanes) numbers) ≡ wires_of (kept lanes) →
          wires_in (still_there (cond b (lane ∷ kept lanes) (kept lanes)) (number ∷ numbers)) ≡ wires_of (cond b (lane ∷ kept lanes) (kept lanes))
      go true same off past rest =
          ap (λ b. wires_in (cond (b || is_there number.wire (kept lanes)) (number ∷ still_there (lane ∷ kept lanes) numbers) (still_there (lane ∷ kept lanes) numbers))) (itself lane.wire number.wire same)
          ∙ ap (λ l. number.wire ∷ wires_in l) past ∙ ap (λ l. number.wire ∷ l) rest ∙ ap (λ n. n ∷ wires_of (kept lanes)) same
      go false same off past rest = ap (λ b. wires_in (cond b (number ∷ still_there (kept lanes) numbers) (still_there (kept lanes) numbers))) off ∙ rest

pub numbered-cleared : (bound : ℕ) (lanes : List Lane) (numbers : List LaneWire) (failed : List ℕ) (last : ℕ) → AreNumbered bound lanes numbers failed last →
    AreNumbered bound (kept lanes) (still_there (kept lanes) numbers) failed last
numbered-cleared bound lanes numbers failed last h = record {
  wires = wires-cleared 0 bound numbers lanes h.by_wire h.wires;
  by_wire = filter-rise (λ (number : LaneWire). number.wire) (λ (number : LaneWire). is_there number.wire (kept lanes)) 0 bound numbers h.by_wire;
  by_lane = filter-rise (λ (number : LaneWire). number.lane) (λ (number : LaneWire). is_there number.wire (kept lanes)) 1 (last + 1) numbers h.by_lane;
  unheard = h.unheard;
}

-- ---- the other calls

-- the lanes stay on their wires
pub numbered-still : (bound bound_after : ℕ) (lanes after : List Lane) (numbers : List LaneWire) (failed : List ℕ) (last : ℕ) → bound ≤ bound_after → wires_of after ≡ wires_of lanes →
    AreNumbered bound lanes numbers failed last → AreNumbered bound_after after numbers failed last
numbered-still bound bound_after lanes after numbers failed last le same h = record {
  wires = h.wires ∙ sym same;
  by_wire = higher 0 bound bound_after (wires_in numbers) le h.by_wire;
  by_lane = h.by_lane;
  unheard = h.unheard;
}

rest-rises : (from bound : ℕ) (numbers : List ℕ) (first : ℕ) → IsRising from bound (first ∷ numbers) → IsRising from bound numbers
rest-rises from bound numbers first h = lower (first + 1) from bound numbers (omega (arith, h.0)) h.1

-- the first loss was heard
pub numbered-heard : (bound : ℕ) (lanes : List Lane) (numbers : List LaneWire) (first : ℕ) (failed : List ℕ) (last : ℕ) → AreNumbered bound lanes numbers (first ∷ failed) last → AreNumbered bound lanes numbers failed last
numbered-heard bound lanes numbers first failed last h = record {
  wires = h.wires;
  by_wire = h.by_wire;
  by_lane = h.by_lane;
  unheard = rest-rises 1 (last + 1) failed first h.unheard;
}

-- a lane came, on a wire
pub numbered-dialed : (bound bound_after wire : ℕ) (lanes after : List Lane) (numbers : List LaneWire) (failed : List ℕ) (last : ℕ) → wires_of after ≡ wires_of lanes ++ wire ∷ [] → bound ≤ wire → wire + 1 ≤ bound_after →
    AreNumbered bound lanes numbers failed last → AreNumbered bound_after after (numbers ++ (record { lane = last + 1; wire = wire }) ∷ []) failed (last + 1)
numbered-dialed bound bound_after wire lanes after numbers failed last grown le lt h =
    let number : LaneWire = record { lane = last + 1; wire = wire } in
    let by_wire = λ (n : LaneWire). n.wire in
    let by_lane = λ (n : LaneWire). n.lane in record {
      wires = map_push by_wire numbers number ∙ ap (λ l. l ++ wire ∷ []) h.wires ∙ sym grown;
      by_wire = subst (λ l. IsRising 0 bound_after l) (sym (map_push by_wire numbers number)) (come-rise 0 bound bound_after wire (wires_in numbers) le lt h.by_wire);
      by_lane = subst (λ l. IsRising 1 (last + 1 + 1) l) (sym (map_push by_lane numbers number)) (come-rise 1 (last + 1) (last + 1 + 1) (last + 1) (lanes_in numbers) (omega arith) (omega arith) h.by_lane);
      unheard = higher 1 (last + 1) (last + 1 + 1) failed (omega arith) h.unheard;
    }

-- on none
pub numbered-failed : (bound bound_after : ℕ) (lanes after : List Lane) (numbers : List LaneWire) (failed : List ℕ) (last : ℕ) → wires_of after ≡ wires_of lanes ++ [] → bound ≤ bound_after →
    AreNumbered bound lanes numbers failed last → AreNumbered bound_after after numbers (failed ++ (last + 1) ∷ []) (last + 1)
numbered-failed bound bound_after lanes after numbers failed last same le h = record {
  wires = h.wires ∙ sym (same ∙ append-nil (wires_of lanes));
  by_wire = higher 0 bound bound_after (wires_in numbers) le h.by_wire;
  by_lane = higher 1 (last + 1) (last + 1 + 1) (lanes_in numbers) (omega arith) h.by_lane;
  unheard = come-rise 1 (last + 1) (last + 1 + 1) (last + 1) failed (omega arith) (omega arith) h.unheard;
}

pub lanes-rise : (bound : ℕ) (lanes : List Lane) (numbers : List LaneWire) (failed : List ℕ) (last : ℕ) → AreNumbered bound lanes numbers failed last → Rise (lanes_in numbers)
lanes-rise bound lanes numbers failed last h = (last + 1, lower 1 0 (last + 1) (lanes_in numbers) (omega arith) h.by_lane)

pub wires-rise : (bound : ℕ) (lanes : List Lane) (numbers : List LaneWire) (failed : List ℕ) (last : ℕ) → AreNumbered bound lanes numbers failed last → Rise (wires_in numbers)
wires-rise bound lanes numbers failed last h = (bound, h.by_wire)
