use Rattle.hm_json.proofs.Puts.{on_ok, all_four, says_written}
use Rattle.hm_json.proofs.writing.write_message.Goals as goal

pub returns-else-is_err-clause-again : goal.returns-else-is_err-clause-again
returns-else-is_err-clause-again c =
    let m = c.args.m.now in
    on_ok c.put_message-put.result
    (says_written c.values_are_trees.ensures c.last_pair_counts.ensures c.written_is_read_again.ensures c.put_message-put.new.writer.tokens m c.requires c.into_inner.ensures.reads_back c.into_inner.ensures.utf8)
    (all_four c.put_message-put.result c.new-writer.result.tokens c.put_message-put.new.writer.tokens m c.new-writer.ensures.tokens
    c.put_message-put.ensures.ok c.put_message-put.ensures.wholes c.put_message-put.ensures.in_order c.put_message-put.ensures.in_range)
