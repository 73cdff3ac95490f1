use Rattle.std.proofs.Common.{refl}
use Rattle.std.proofs.lemmas.Result.{err_from_is_err_and}
use Rattle.hv_pack.specs.Reading.{read_at}
use Rattle.hv_pack.proofs.Loop.{fails_on}
use Rattle.hv_pack.proofs.reading.value_from.Goals as goal

pub returns-in_err-value : goal.returns-in_err-value
unfolding read_at
returns-in_err-value c =
    let p = err_from_is_err_and c.from_residual.result c.from_residual.ensures.1 in
    rw (p.1, p.2) (fails_on c.in_err-value.field-0.0 _ _ (λ h. rw h refl) (rw (c.new-input.ensures.end, c.new-input.ensures.rest) at c.in_err-value.ensures.read))

pub returns : goal.returns
unfolding read_at
returns c =
    let read = rw (c.new-input.ensures.end, c.new-input.ensures.rest) at c.in_ok-value.ensures.read in
    rw (read, c.place.ensures, c.in_ok-value.ensures.end, c.new-input.ensures.end) refl
