use Rattle.he_wire.proofs.Faithful.{answers}
use Rattle.he_wire.proofs.laws.answers_are_read.Goals as goal

pub returns : goal.returns
returns c = answers (record {
  begins = c.begins_once.ensures;
  one = c.one_beginning.ensures;
  too_long = c.too_long_begins_none.ensures;
  bad_length = c.bad_length_begins_none.ensures;
  begins_wrapped = c.wrapped_begins.ensures;
  asked = c.one_request_meaning.ensures;
  told = c.one_response_meaning.ensures;
  refusals = c.refusals_are_read.ensures;
  plain = c.texts_are_plain.ensures;
  texts = c.texts_are_short.ensures;
})
