use Rattle.std.proofs.Common.{◌≡◌, ◌<◌, ◌≤◌, ℕ, List, ◌∷◌, ◌++◌, length, All}
use Rattle.hf_split.specs.VarInts.{HasMore}
use Rattle.he_wire.proofs.size.size_after_length.Given as goal

abbrev pub invariant-loop-i : goal.invariant-loop-i
invariant-loop-i l = (front frame : List ℕ) (last : ℕ) → All HasMore front → last < 128 → l.fn.framed ≡ front ++ last ∷ frame → l.i ≤ length front
