use Rattle.hv_json.proofs.Printed.{read_again}
use Rattle.hv_json.proofs.laws.text_is_read_again.Goals as goal

pub returns : goal.returns
returns c = read_again c.written_is_read_again.ensures
