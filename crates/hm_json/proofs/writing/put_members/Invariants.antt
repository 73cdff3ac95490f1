use Rattle.std.proofs.Common.{◌≡◌, ◌++◌, drop}
use Rattle.hv_value.specs.Tree.{pairs}
use Rattle.hm_message.specs.Trees.{header_pairs}
use Rattle.hv_json.specs.Sent.{members_sent}
use Rattle.hm_json.proofs.writing.put_members.Given as goal

abbrev pub invariant-loop-key : goal.invariant-loop-key
invariant-loop-key l = record {
  tokens : l.writer.tokens ++ members_sent (pairs (header_pairs (drop l.key-index l.members))) ≡ l.initial.writer.tokens ++ members_sent (pairs (header_pairs l.members));
  before : l.writer.before ≡ l.initial.writer.before;
}
