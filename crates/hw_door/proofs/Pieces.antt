-- What a wire in memory gives next, of which a part was read.
use Rattle.std.proofs.Common.{◌≡◌, ◌+◌, ◌-◌, ◌<◌, ◌≤◌, ℕ, Bool, List, [], ◌∷◌, drop, ◌∙◌, sym, ap, refl, arith, length-drop}
use Rattle.std.specs.Prelude.{if◌then◌else◌}
use Rattle.std.proofs.lemmas.List.{drop-drop}
use Rattle.std.proofs.lemmas.Bool.{lt-ltb, le-ltb}
use Rattle.hw_door.specs.declared.memory_wire.WireGiven.{WireGiven}
use Rattle.hw_door.specs.declared.memory_wire.WireGiven.TheVariants as given
use Rattle.hw_door.specs.Wires.{without_first, first_size, after_read}

pub without_none : (reads : List WireGiven) → without_first 0 reads ≡ reads
without_none [] = refl
without_none (given.Bytes bytes ∷ reads) = refl
without_none (given.NotYet ∷ reads) = refl
without_none (given.Ended ∷ reads) = refl

pub without_more : (begun count : ℕ) (reads : List WireGiven) → without_first (begun + count) reads ≡ without_first count (without_first begun reads)
without_more begun count [] = refl
without_more begun count (given.Bytes bytes ∷ reads) = ap (λ (xs : List ℕ). given.Bytes xs ∷ reads) (sym (drop-drop count begun bytes))
without_more begun count (given.NotYet ∷ reads) = refl
without_more begun count (given.Ended ∷ reads) = refl

pub without_all : (begun : ℕ) (reads : List WireGiven) → drop 1 (without_first begun reads) ≡ drop 1 reads
without_all begun [] = refl
without_all begun (given.Bytes bytes ∷ reads) = refl
without_all begun (given.NotYet ∷ reads) = refl
without_all begun (given.Ended ∷ reads) = refl

-- how many bytes are left of the first
pub first_left : (begun : ℕ) (reads : List WireGiven) → first_size (without_first begun reads) ≡ first_size reads - begun
first_left begun [] = omega arith
first_left begun (given.Bytes bytes ∷ reads) = length-drop begun bytes
first_left begun (given.NotYet ∷ reads) = omega arith
first_left begun (given.Ended ∷ reads) = omega arith

-- a read that leaves a part of the first
pub part_read : (begun count : ℕ) (reads : List WireGiven) → count < first_size reads - begun →
    without_first (begun + count) reads ≡ after_read count (without_first begun reads)
part_read begun count reads p =
    let left : count < first_size (without_first begun reads) = rw (first_left begun reads) p in
    without_more begun count reads
    ∙ ap (λ (b : Bool). if b then without_first count (without_first begun reads) else drop 1 (without_first begun reads))
    (sym (lt-ltb count (first_size (without_first begun reads)) left))

-- and one that leaves nothing of it
pub first_read : (begun count : ℕ) (reads : List WireGiven) → first_size reads - begun ≤ count →
    without_first 0 (drop 1 reads) ≡ after_read count (without_first begun reads)
first_read begun count reads p =
    let left : first_size (without_first begun reads) ≤ count = rw (first_left begun reads) p in
    without_none (drop 1 reads) ∙ sym (without_all begun reads)
    ∙ ap (λ (b : Bool). if b then without_first count (without_first begun reads) else drop 1 (without_first begun reads))
    (sym (le-ltb count (first_size (without_first begun reads)) left))
