use Rattle.std.proofs.Common.{◌≡◌, ◌<◌, ◌≤◌, ◌^◌, take, length}
use Rattle.std.specs.List.{All}
use Rattle.hf_split.specs.VarInts.{HasMore, base_128}
use Rattle.hf_split.proofs.var_int.read_prefix.Given as goal

abbrev pub invariant-loop-size : goal.invariant-loop-size
invariant-loop-size l = record {
  inside : l.size ≤ length l.bytes;
  more : All HasMore (take l.size l.bytes);
  number : l.number ≡ base_128 (take l.size l.bytes);
  weight : l.weight ≡ 128 ^ l.size;
  below : l.number < l.weight;
}
