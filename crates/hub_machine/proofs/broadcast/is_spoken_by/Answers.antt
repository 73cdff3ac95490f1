use Rattle.std.proofs.Common.{rules, tests}
use Rattle.std.proofs.lemmas.Iterator.{YieldsList-from_slice}
use Rattle.std.proofs.lemmas.Iterator.Search.{any_from_yields_List}
use Rattle.hub_machine.specs.Spreads.{is_in_codec}
use Rattle.hub_machine.proofs.broadcast.is_spoken_by.Goals as goal

pub returns : goal.returns
returns g c = any_from_yields_List (λ k. is_in_codec c.args.codec (g.M.Members.codec_of c.args.members.now k)) _ _ _ c.any.ensures.ran
    (YieldsList-from_slice c.args.to.now cc) (λ x b q k. search (rules, tests))
