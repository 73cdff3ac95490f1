use Rattle.hv_json.proofs.Judged.{takes_no_memory}
use Rattle.hv_json.proofs.laws.reading_takes_no_memory.Goals as goal

pub returns : goal.returns
returns c = takes_no_memory
