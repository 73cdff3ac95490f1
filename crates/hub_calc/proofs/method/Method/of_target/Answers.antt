use Rattle.std.proofs.Common.{sym}
use Rattle.hub_calc.proofs.Names.{is_none}
use Rattle.hub_calc.proofs.method.Method.of_target.Goals as goal

pub returns-in_default : goal.returns-in_default
returns-in_default c =
    let d = c.in_default in
    sym (is_none c.args.target.now d.not-Echo d.not-Add d.not-Count d.not-Sum d.not-Slow d.not-Fail d.not-Ask)
