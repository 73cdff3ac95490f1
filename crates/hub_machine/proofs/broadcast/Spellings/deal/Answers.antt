use Rattle.std.proofs.Common.{refl, sym, ◌∙◌}
use Rattle.hub_machine.proofs.Delivered.{passed_over, sent, slowed, refused}
use Rattle.hub_machine.proofs.broadcast.Spellings.deal.Goals as goal

pub returns-in_default-clause-ok : goal.returns-in_default-clause-ok
returns-in_default-clause-ok g c s before d = (before, passed_over _ _ _ before (sym c.codec.ensures ∙ c.in_default.is), d)

pub returns-in_default-send_spelled-clause-ok : goal.returns-in_default-send_spelled-clause-ok
returns-in_default-send_spelled-clause-ok g c s before d = (
  _,
  sent _ _ _ before _ c.in-Some.codec (sym c.codec.ensures ∙ c.in-Some.is) refl,
  c.in_default-send_spelled.ensures.dealt s before d,
)

pub returns-in-Full-clause-ok : goal.returns-in-Full-clause-ok
returns-in-Full-clause-ok g c s before d = (
  _,
  slowed _ _ _ before _ _ c.in-Some.codec c.in-Err.refusal _ _ _ (sym c.codec.ensures ∙ c.in-Some.is) c.in-Full.is refl refl,
  c.slow.ensures.dealt s _ (c.in-Err.ensures.dealt s before d),
)

pub returns-in_default-refusal : goal.returns-in_default-refusal
returns-in_default-refusal g c = record {
  ok = λ s before d. (
    _,
    refused _ _ _ before _ c.in-Some.codec c.in-Err.refusal (sym c.codec.ensures ∙ c.in-Some.is)
        c.in_default-refusal.not-NoMemory c.in_default-refusal.not-Full refl,
    c.in-Err.ensures.dealt s before d,
  );
  refused = tt;
  others = λ k n. c.in-Err.ensures.same k;
}
