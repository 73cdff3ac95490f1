use Rattle.he_wire.proofs.Faithful.{faithful}
use Rattle.he_wire.proofs.laws.wire_is_faithful.Goals as goal

pub returns : goal.returns
returns c = faithful (record {
  begins = c.begins_once.ensures;
  one = c.one_beginning.ensures;
  too_long = c.too_long_begins_none.ensures;
  bad_length = c.bad_length_begins_none.ensures;
  begins_wrapped = c.wrapped_begins.ensures;
  meaning = c.one_meaning.ensures;
  controls = c.controls_are_said.ensures;
  short = c.controls_are_short.ensures;
  asked = c.one_request_meaning.ensures;
  told = c.one_response_meaning.ensures;
  requests = c.requests_are_read.ensures;
  response = c.response_is_read.ensures;
  plain = c.texts_are_plain.ensures;
  texts = c.texts_are_short.ensures;
})
