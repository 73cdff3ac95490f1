use Rattle.std.proofs.Common.{◌≡◌, ◌++◌, drop}
use Rattle.hv_value.specs.Tree.{trees}
use Rattle.hm_message.specs.Trees.{texts}
use Rattle.hv_json.specs.Sent.{items_sent}
use Rattle.hm_json.proofs.writing.put_texts.Given as goal

abbrev pub invariant-loop-string : goal.invariant-loop-string
invariant-loop-string l = record {
  tokens : l.writer.tokens ++ items_sent (trees (texts (drop l.string-index l.strings))) ≡ l.initial.writer.tokens ++ items_sent (trees (texts l.strings));
  before : l.writer.before ≡ l.initial.writer.before;
}
