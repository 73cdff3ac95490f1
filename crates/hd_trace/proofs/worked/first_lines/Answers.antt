use Rattle.std.proofs.Common.{[], ◌∷◌, refl, rules}
use Rattle.hd_trace.specs.declared.trace.ToldStep.TheVariants.{Attach, Detach, Lend}
use Rattle.hd_trace.specs.Examples.{attached, by_client, by_server}
use Rattle.hd_trace.proofs.worked.first_lines.Goals as goal

pub returns-clause-first : goal.returns-clause-first
returns-clause-first c = record {
  before = [];
  line = by_server (Attach 0);
  after = [];
  session = [];
  lines_are = refl;
  number_is = refl;
  tells = refl;
  breaks = search rules;
}

pub returns-clause-second : goal.returns-clause-second
returns-clause-second c = record {
  before = by_client (Attach 0) ∷ [];
  line = by_client (Lend (123 ∷ 125 ∷ 30 ∷ []));
  after = by_client Detach ∷ [];
  session = attached;
  lines_are = refl;
  number_is = refl;
  tells = search rules;
  breaks = search rules;
}
