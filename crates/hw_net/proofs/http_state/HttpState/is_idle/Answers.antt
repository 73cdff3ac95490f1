use Rattle.std.proofs.Common.{rules}
use Rattle.hw_net.proofs.HttpFacts.{calm-of}
use Rattle.hw_net.proofs.http_state.HttpState.is_idle.Goals as goal

pub returns : goal.returns
returns c = λ size. calm-of c.args.self.now c.room.result c.is_sound.ensures (search rules) (search rules) c.room.ensures size
