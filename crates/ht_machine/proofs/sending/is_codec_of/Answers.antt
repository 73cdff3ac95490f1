use Rattle.std.proofs.Common.{rules, tests}
use Rattle.std.proofs.lemmas.Iterator.{YieldsList-from_slice}
use Rattle.std.proofs.lemmas.Iterator.Search.{any_from_yields_List}
use Rattle.hub_machine.specs.Spreads.{is_in_codec}
use Rattle.ht_machine.specs.Deals.{codec_at}
use Rattle.ht_machine.proofs.sending.is_codec_of.Goals as goal

pub returns : goal.returns
returns c = any_from_yields_List (λ k. is_in_codec c.args.codec (codec_at c.args.room.now k)) _ _ _ c.any.ensures.ran
    (YieldsList-from_slice c.args.to.now cc) (λ x b q k. search (rules, tests))
