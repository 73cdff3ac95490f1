use Rattle.std.proofs.Common.{refl}
use Rattle.hh_http.specs.Texts.{phrase_of}
use Rattle.hh_http.proofs.texts.phrase_of_code.Goals as goal

pub returns-in-Some : goal.returns-in-Some
unfolding phrase_of
returns-in-Some c = rw (← c.in-Some.ensures.value) refl

pub returns-in-None : goal.returns-in-None
unfolding phrase_of
returns-in-None c = rw (← c.in-None.ensures.value) refl
