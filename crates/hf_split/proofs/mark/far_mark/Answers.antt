use Rattle.hf_split.proofs.Places.{first_mark}
use Rattle.hf_split.proofs.mark.far_mark.Goals as goal

pub returns : goal.returns
returns c = first_mark c.args.bytes.now c.memchr.result c.memchr.ensures
