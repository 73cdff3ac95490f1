use Rattle.std.proofs.Common.{◌≡◌, refl, reverse, subst}
use Rattle.hd_delivery.specs.Examples.{a}
use Rattle.hd_delivery.specs.ExamplesOverBytes.{acknowledged_over_bytes}
use Rattle.hd_trace.specs.declared.trace.ToldStep.TheVariants.{Send}
use Rattle.hd_trace.specs.Traces.{TellWorld}
use Rattle.hd_trace.specs.Recording.{lines_of, AllCanBeTold}
use Rattle.hd_trace.specs.Examples.{setup, acknowledged_lines}
use Rattle.hd_trace.proofs.worked.a_session.Goals as goal

pub returns-clause-told : goal.returns-clause-told
returns-clause-told c =
    let lines : lines_of setup (reverse acknowledged_over_bytes) ≡ reverse (acknowledged_lines (Send a)) = refl in
    let can : AllCanBeTold setup (reverse acknowledged_over_bytes) = (((((((((((((((tt, refl), tt), refl), tt), tt), tt), tt), tt), tt), tt), tt), tt), tt), tt), tt) in
    subst (λ ls. TellWorld setup ls (reverse acknowledged_over_bytes)) lines
    (c.records_tell.ensures setup (reverse acknowledged_over_bytes) c.worked_over_bytes.ensures.acknowledged.is_world can)
