use Rattle.hh_http.specs.Texts.{base64_of}
use Rattle.hh_http.proofs.texts.base64_of.Goals as goal

pub returns : goal.returns
unfolding base64_of
returns c = c.encode.ensures.text
