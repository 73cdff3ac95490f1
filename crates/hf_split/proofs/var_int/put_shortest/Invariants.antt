use Rattle.std.proofs.Common.{◌≡◌, ◌+◌, ◌<◌, ◌≤◌, ◌^◌, ℕ, suc, ◌++◌, vec_len, vec_capacity}
use Rattle.hf_split.specs.VarInts.{shortest, shortest_in}
use Rattle.hf_split.proofs.var_int.put_shortest.Given as goal

abbrev pub invariant-loop-rest : goal.invariant-loop-rest
invariant-loop-rest l = record {
  room : ℕ;
  below : l.rest < 128 ^ suc room;
  written : l.out.items ++ shortest_in room l.rest ≡ l.fn.out.items ++ shortest l.fn.number;
  len : vec_len l.out + suc room ≤ vec_len l.fn.out + 5;
  capacity : vec_capacity l.fn.out ≤ vec_capacity l.out;
}

abbrev pub decreases-loop-rest : goal.decreases-loop-rest
decreases-loop-rest l = l.rest
