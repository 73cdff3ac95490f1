use Rattle.std.proofs.Common.{◌∙◌, sym, rules}
use Rattle.hm_json.proofs.Puts.{puts_headers}
use Rattle.hm_json.proofs.writing.put_headers.Goals as goal

pub returns-clause-put : goal.returns-clause-put
returns-clause-put c =
    puts_headers c.map_has_the_keys.ensures c.args.writer.now.tokens c.put_members.new.writer.tokens c.pairs-members.result.now c.args.headers.now
    c.pairs-members.ensures.pairs c.pairs-members.ensures.in_order (sym c.is_empty.ensures ∙ c.if-is_empty.false) (search rules)
