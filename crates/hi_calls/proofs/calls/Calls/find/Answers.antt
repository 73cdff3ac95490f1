use Rattle.std.proofs.Common.{sym, ◌∙◌}
use Rattle.hi_calls.proofs.Looking.{has_id_of, is_live, none_there, unknown}
use Rattle.hi_calls.proofs.calls.Calls.find.Goals as goal

pub returns-then-not-contains_key-clause-unknown : goal.returns-then-not-contains_key-clause-unknown
returns-then-not-contains_key-clause-unknown c = λ prefix h s.
    unknown c.args.self.now prefix h s c.args.id.now c.in-Some.number c.in-Some.ensures.found c.in-Some.ensures.within (none_there _ (sym c.contains_key.ensures ∙ c.if-not-contains_key.true))

pub returns-clause-ok : goal.returns-clause-ok
returns-clause-ok c = λ prefix h s. record {
  is = has_id_of c.args.self.now prefix h s c.in-Some.number c.args.id.now c.in-Some.ensures.found;
  live = is_live c.args.self.now prefix h s c.in-Some.number (sym c.contains_key.ensures ∙ c.if-not-contains_key.false);
}
