use Rattle.std.proofs.Common.{◌++◌, ◌∷◌}
use Rattle.std.specs.Fmt.{decimal}
use Rattle.sr_notation.proofs.Cuts.{no_space}
use Rattle.sr_notation.proofs.Options.{buffer_parts, short_limits, no_second, no_limits}
use Rattle.sr_notation.proofs.reading.parse_buffer.Goals as goal

pub returns-in_default-clause-none : goal.returns-in_default-clause-none
returns-in_default-clause-none c = λ limits are is.
    no_space c.args.words.now (decimal limits.count) (decimal limits.bytes ++ 32 ∷ decimal limits.frame) c.in_default.ensures.none is

pub returns-in_default-split_at_space-clause-none :
    goal.returns-in_default-split_at_space-clause-none
returns-in_default-split_at_space-clause-none c = λ limits are is.
    no_second c.args.words.now c.in-Some.count.now c.in-Some.rest.now limits are c.in-Some.ensures.found.0 c.in-Some.ensures.found.1
    c.in_default-split_at_space.ensures.none is

pub returns-in_default-2-clause-none : goal.returns-in_default-2-clause-none
returns-in_default-2-clause-none c = λ limits are is.
    let parts = buffer_parts c.args.words.now c.in-Some.count.now c.in-Some.rest.now c.in-Some-split_at_space.bytes.now c.in-Some-split_at_space.frame.now limits are
    c.in-Some.ensures.found.0 c.in-Some.ensures.found.1 c.in-Some-split_at_space.ensures.found.0 c.in-Some-split_at_space.ensures.found.1 is in
    let none = rw c.in_default-2.is at c.in_ok-count.ensures.none in
    none limits.count (short_limits limits are).1 parts.count_is

pub returns-in_default-3-clause-none : goal.returns-in_default-3-clause-none
returns-in_default-3-clause-none c = λ limits are is.
    let parts = buffer_parts c.args.words.now c.in-Some.count.now c.in-Some.rest.now c.in-Some-split_at_space.bytes.now c.in-Some-split_at_space.frame.now limits are
    c.in-Some.ensures.found.0 c.in-Some.ensures.found.1 c.in-Some-split_at_space.ensures.found.0 c.in-Some-split_at_space.ensures.found.1 is in
    let none = rw c.in_default-3.is at c.in_ok-bytes.ensures.none in
    none limits.bytes (short_limits limits are).2 parts.bytes_is

pub returns-in_default-4-clause-none : goal.returns-in_default-4-clause-none
returns-in_default-4-clause-none c = λ limits are is.
    let parts = buffer_parts c.args.words.now c.in-Some.count.now c.in-Some.rest.now c.in-Some-split_at_space.bytes.now c.in-Some-split_at_space.frame.now limits are
    c.in-Some.ensures.found.0 c.in-Some.ensures.found.1 c.in-Some-split_at_space.ensures.found.0 c.in-Some-split_at_space.ensures.found.1 is in
    let none = rw c.in_default-4.is at c.in_ok-frame.ensures.none in
    none limits.frame (short_limits limits are).0 parts.frame_is

pub returns-clause-none : goal.returns-clause-none
returns-clause-none c =
    let count = rw c.in-Some-2.is at c.in_ok-count.ensures.found in
    let bytes = rw c.in-Some-3.is at c.in_ok-bytes.ensures.found in
    let frame = rw c.in-Some-4.is at c.in_ok-frame.ensures.found in
    no_limits c.of.result c.in-Some-2.count c.in-Some-3.bytes c.in-Some-4.frame c.args.words.now c.in-Some.count.now c.in-Some.rest.now
    c.in-Some-split_at_space.bytes.now c.in-Some-split_at_space.frame.now c.of.ensures.in_range count.1 bytes.1 frame.1 count.0 bytes.0 frame.0
    c.in-Some.ensures.found.0 c.in-Some.ensures.found.1 c.in-Some-split_at_space.ensures.found.0 c.in-Some-split_at_space.ensures.found.1
