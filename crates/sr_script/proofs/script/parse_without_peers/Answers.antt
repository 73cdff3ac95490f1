use Rattle.std.proofs.Common.{[], refl}
use Rattle.sr_script.proofs.script.parse_without_peers.Goals as goal

pub loop-reader-init : goal.loop-reader-init
loop-reader-init c = (record { settings = []; actions = [] }, (c.start-reader.ensures c.args.text.now, refl))
