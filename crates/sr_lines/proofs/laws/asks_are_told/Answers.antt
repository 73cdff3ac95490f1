use Rattle.hd_calls.specs.Rules.{IsRefusedCall, IsRefusedUpload, IsRefusedCancel}
use Rattle.sr_lines.proofs.Told.{asks}
use Rattle.sr_lines.proofs.laws.asks_are_told.Goals as goal

pub returns : goal.returns
returns c = record {
  calls = λ t h call e. asks (IsRefusedCall t h call) e;
  uploads = λ t h n w a e. asks (IsRefusedUpload t h n w a) e;
  cancels = λ t h n e. asks (IsRefusedCancel t h n) e;
}
