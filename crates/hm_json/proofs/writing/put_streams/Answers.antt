use Rattle.std.proofs.Common.{◌∙◌, sym, rules}
use Rattle.hm_json.proofs.Puts.{puts_streams}
use Rattle.hm_json.proofs.writing.put_streams.Goals as goal

pub returns-clause-put : goal.returns-clause-put
returns-clause-put c =
    puts_streams c.args.writer.now.tokens c.put_texts.new.writer.tokens c.texts-strings.result.now c.args.streams.now
    c.texts-strings.ensures (sym c.is_empty.ensures ∙ c.if-is_empty.false) (search rules)
