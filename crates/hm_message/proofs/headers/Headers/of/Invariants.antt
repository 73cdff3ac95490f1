use Rattle.std.proofs.Common.{◌≡◌, []}
use Rattle.std.specs.Vec.Iter.{into_iter_items}
use Rattle.hm_message.proofs.Puts.{put_in}
use Rattle.hm_message.proofs.headers.Headers.of.Given as goal

abbrev pub invariant-loop-key : goal.invariant-loop-key
invariant-loop-key l = put_in l.map.entries (into_iter_items l.key-iterator) ≡ put_in [] l.fn.pairs.items
