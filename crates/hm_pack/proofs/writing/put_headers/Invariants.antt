use Rattle.std.proofs.Common.{◌≡◌, ◌++◌, take, length}
use Rattle.hv_value.specs.Tree.{pairs}
use Rattle.hv_pack.specs.Writing.{map_head, pairs_text, PairsAreWritable}
use Rattle.hm_message.specs.Trees.{header_pairs}
use Rattle.hm_pack.proofs.writing.put_headers.Given as goal

abbrev pub invariant-loop-key : goal.invariant-loop-key
invariant-loop-key l = record {
  text : l.out.items ≡ l.fn.out.items ++ (map_head (length l.pairs) ++ pairs_text (pairs (header_pairs (take l.key-index l.pairs))));
  fits : PairsAreWritable (pairs (header_pairs (take l.key-index l.pairs)));
}
