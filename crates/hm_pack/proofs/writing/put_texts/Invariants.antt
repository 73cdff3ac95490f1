use Rattle.std.proofs.Common.{◌≡◌, ◌++◌, take, length}
use Rattle.hv_value.specs.Tree.{trees}
use Rattle.hv_pack.specs.Writing.{list_head, trees_text, AreWritable}
use Rattle.hm_message.specs.Trees.{texts}
use Rattle.hm_pack.proofs.writing.put_texts.Given as goal

abbrev pub invariant-loop-string : goal.invariant-loop-string
invariant-loop-string l = record {
  text : l.out.items ≡ l.fn.out.items ++ (list_head (length l.strings) ++ trees_text (trees (texts (take l.string-index l.strings))));
  fits : AreWritable (trees (texts (take l.string-index l.strings)));
}
