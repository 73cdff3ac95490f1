use Rattle.hm_codec.proofs.Meanings.{each_meaning}
use Rattle.hm_codec.proofs.laws.one_meaning.Goals as goal

pub returns : goal.returns
returns c = each_meaning c.one_meaning.ensures c.one_meaning-2.ensures
