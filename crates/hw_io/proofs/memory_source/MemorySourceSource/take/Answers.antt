use Rattle.std.proofs.Common.{◌+◌, arith, length-drop}
use Rattle.std.proofs.lemmas.List.{take_rest, drop_all}
use Rattle.hw_io.proofs.Bytes.{front_then_rest}
use Rattle.hw_io.proofs.memory_source.MemorySourceSource.take.Goals as goal

pub returns-clause-bytes : goal.returns-clause-bytes
returns-clause-bytes c =
    let at = c.self.inside.at in
    let count = c.copy_front-count.result in
    let bytes = c.self.inside.bytes.items in
    let given = rw (c.deref-2.ensures.value, take_rest) at c.copy_front-count.ensures.front in
    let most = rw (c.deref-2.ensures.value, take_rest) at c.copy_front-count.ensures.count in
    rw (← c.self.view_is) (
      front_then_rest at count bytes c.copy_front-count.new.buf given,
      λ none room. drop_all (at + count) bytes (omega (arith, most, length-drop at bytes)),
    )
