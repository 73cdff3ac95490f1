use Rattle.std.proofs.Common.{subst}
use Rattle.hv_pack.specs.Reading.{Gives, placed}
use Rattle.hv_pack.proofs.Placed.{is_found, read_again, is_refused, refused_again, given_ok, given_err}
use Rattle.hv_pack.proofs.reading.read_value.Goals as goal

pub returns-clause-found : goal.returns-clause-found
returns-clause-found c = is_found c.args.bytes.now c.args.at c.value_from.result c.requires c.value_from.ensures

pub returns-clause-only : goal.returns-clause-only
returns-clause-only c = λ t end h.
    given_ok c.value_from.result t end (subst (λ f. Gives placed c.value_from.result f) (read_again c.args.bytes.now c.args.at t end c.requires h) c.value_from.ensures)

pub returns-clause-refused : goal.returns-clause-refused
returns-clause-refused c = is_refused c.args.bytes.now c.args.at c.value_from.result c.value_from.ensures

pub returns-clause-first : goal.returns-clause-first
returns-clause-first c = λ e h.
    given_err c.value_from.result e (subst (λ f. Gives placed c.value_from.result f) (refused_again c.args.bytes.now c.args.at e h) c.value_from.ensures)
