-- Wires by their places.
use Rattle.std.proofs.Common.{◌≡◌, ◌<◌, ◌≤◌, ℕ, zero, suc, List, [], ◌∷◌, ◌++◌, map, length, get_or, set, ◌∙◌, ap, refl, arith}
use Rattle.hw_door.specs.Lines.{LineLeft, wire_in}
use Rattle.hw_door.specs.Wires.{WireLeft, at_wire}

-- a line changed is its wire changed
pub wire_changed : (lines : List LineLeft) (place : ℕ) (line new : LineLeft) (change : WireLeft → WireLeft) → place < length lines →
    line ≡ get_or lines place line → new.wire ≡ change line.wire → map wire_in (set lines place new) ≡ at_wire place change (map wire_in lines)
wire_changed [] place line new change p q r = absurd (omega (arith, p))
wire_changed (x ∷ lines) zero line new change p q r =
    ap (λ (w : WireLeft). w ∷ map wire_in lines) r ∙ ap (λ (l : LineLeft). change l.wire ∷ map wire_in lines) q
wire_changed (x ∷ lines) (suc place) line new change p q r =
    ap (λ (ws : List WireLeft). x.wire ∷ ws) (wire_changed lines place line new change (omega (arith, p)) q r)

-- past the last nothing changes
pub none_changed : (wires : List WireLeft) (place : ℕ) (change : WireLeft → WireLeft) → length wires ≤ place → at_wire place change wires ≡ wires
none_changed [] place change p = refl
none_changed (x ∷ wires) zero change p = absurd (omega (arith, p))
none_changed (x ∷ wires) (suc place) change p =
    ap (λ (ws : List WireLeft). x ∷ ws) (none_changed wires place change (omega (arith, p)))

-- one line more
pub line_more : (lines : List LineLeft) (line : LineLeft) (wires : List WireLeft) →
    map wire_in (lines ++ line ∷ []) ++ wires ≡ map wire_in lines ++ line.wire ∷ wires
line_more [] line wires = refl
line_more (x ∷ lines) line wires = ap (λ (ws : List WireLeft). x.wire ∷ ws) (line_more lines line wires)
