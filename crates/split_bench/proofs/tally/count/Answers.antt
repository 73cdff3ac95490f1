use Rattle.std.proofs.Common.{◌≡◌, ◌++◌, ℕ, List, [], take, arith, subst, ◌∙◌}
use Rattle.split_bench.specs.Counts.{IsCounted}
use Rattle.split_bench.proofs.Counting.{consumed, none_left, split_front, split_piece, whole_at_end, whole_counted, too_long_counted}
use Rattle.split_bench.proofs.tally.count.Goals as goal

pub loop-preserved : goal.loop-preserved
loop-preserved g c = record {
  framing = c.add_piece.ensures.framing ∙ c.loop.invariant.framing;
  counted = λ bytes known.
      let before = c.loop.invariant.counted bytes known in
      let piece : List ℕ = take c.in_ok-size.size c.read.new.buf in
      let gone = consumed (g.R.Read.remaining c.loop.input) (g.R.Read.remaining c.read.new.self) before.1 piece before.3 c.in_ok-size.ensures.bytes.0 in
      (before.0 ++ piece, gone.0, split_piece bytes before.0 before.1 piece gone.0 before.2 gone.2, gone.1, c.in-Ok.ensures.counted 32768 before.0 before.4);
}

pub returns-then-size-eq0 : goal.returns-then-size-eq0
returns-then-size-eq0 g c = λ bytes known.
    let before = c.loop.invariant.counted bytes known in
    let piece : List ℕ = take c.in_ok-size.size c.read.new.buf in
    let gone = consumed (g.R.Read.remaining c.loop.input) (g.R.Read.remaining c.read.new.self) before.1 piece before.3 c.in_ok-size.ensures.bytes.0 in
    let end : gone.0 ≡ [] = none_left (g.R.Read.remaining c.read.new.self) gone.0 gone.1 (c.in_ok-size.ensures.bytes.1 c.if-size-eq0.true (omega arith)) in
    let all : before.0 ++ piece ≡ bytes = whole_at_end bytes (before.0 ++ piece) gone.0 (split_piece bytes before.0 before.1 piece gone.0 before.2 gone.2) end in
    whole_counted 32768 bytes c.add_piece.new.splitter c.add_piece.new.tally
    (subst (λ (xs : List ℕ). IsCounted 32768 c.add_piece.new.splitter c.add_piece.new.tally xs) all (c.in-Ok.ensures.counted 32768 before.0 before.4))
    c.in-Ok.ensures.waiting

pub returns-in-Err-TooLong : goal.returns-in-Err-TooLong
returns-in-Err-TooLong g c = λ bytes known.
    let before = c.loop.invariant.counted bytes known in
    let piece : List ℕ = take c.in_ok-size.size c.read.new.buf in
    let gone = consumed (g.R.Read.remaining c.loop.input) (g.R.Read.remaining c.read.new.self) before.1 piece before.3 c.in_ok-size.ensures.bytes.0 in
    let fed = c.in-Err-TooLong.ensures.counted_front 32768 before.0 before.4 in
    let fault = rw c.in-Err-TooLong.field-0-is at c.in-Err-TooLong.ensures.fault in
    rw (c.in-Err-TooLong.field-0-is, fault.0)
    (too_long_counted 32768 bytes (before.0 ++ fed.0) (fed.1 ++ gone.0) c.add_piece.new.splitter c.add_piece.new.tally c.too_long_begins_none.ensures
    (split_front bytes before.0 before.1 piece gone.0 fed.0 fed.1 before.2 gone.2 fed.2) fed.3 fault.1)
