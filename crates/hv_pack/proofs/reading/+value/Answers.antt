use Rattle.std.proofs.Common.{◌≡◌, [], ◌∷◌, ◌++◌, refl, ◌∙◌, arith}
use Rattle.std.proofs.lemmas.Result.{err_from_is_err_and}
use Rattle.std.proofs.lemmas.List.{map_push}
use Rattle.hv_value.specs.View.{tree, trees_of, entries}
use Rattle.hv_pack.specs.Reading.{list_at, map_at, value_at}
use Rattle.hv_pack.proofs.Loop.{many_goes_on, many_ends, many_done, pairs_go_on, pairs_end_at_key, pairs_end_at_value, pairs_done, fails_on, inner_more}
use Rattle.hv_pack.proofs.reading.+value.Goals as goal

pub list-returns-in_err-values-clause-read : goal.list-returns-in_err-values-clause-read
unfolding list_at
list-returns-in_err-values-clause-read t c =
    let p = err_from_is_err_and c.from_residual-in_err-values.result c.from_residual-in_err-values.ensures.1 in
    rw (p.1, p.2) (fails_on c.in_err-values.field-0.0 _ _ (λ h. rw (inner_more c.args.input.now.end c.args.room c.if-room-eq0.false, c.in_ok-n.ensures.read, h) refl) (rw c.in_ok-n.ensures.end at c.in_err-values.ensures.read))

pub list-returns-clause-read : goal.list-returns-clause-read
unfolding list_at
list-returns-clause-read t c =
    rw (inner_more c.args.input.now.end c.args.room c.if-room-eq0.false, c.in_ok-n.ensures.read, rw c.in_ok-n.ensures.end at c.in_ok-values.ensures.read, c.in-Ok.ensures.ok) refl

pub map-returns-in_err-pairs-clause-read : goal.map-returns-in_err-pairs-clause-read
unfolding map_at
map-returns-in_err-pairs-clause-read t c =
    let p = err_from_is_err_and c.from_residual-in_err-pairs.result c.from_residual-in_err-pairs.ensures.1 in
    rw (p.1, p.2) (fails_on c.in_err-pairs.field-0.0 _ _ (λ h. rw (inner_more c.args.input.now.end c.args.room c.if-room-eq0.false, c.in_ok-n.ensures.read, h) refl) (rw c.in_ok-n.ensures.end at c.in_err-pairs.ensures.read))

pub map-returns-in-Ok-clause-read : goal.map-returns-in-Ok-clause-read
unfolding map_at
map-returns-in-Ok-clause-read t c =
    rw (inner_more c.args.input.now.end c.args.room c.if-room-eq0.false, c.in_ok-n.ensures.read, rw c.in_ok-n.ensures.end at c.in_ok-pairs.ensures.read, c.in-Ok.ensures.ok) refl

pub values-returns-in_err-value-clause-read : goal.values-returns-in_err-value-clause-read
values-returns-in_err-value-clause-read t c =
    let p = err_from_is_err_and c.from_residual-in_err-value.result c.from_residual-in_err-value.ensures.1 in
    rw (p.1, p.2) (fails_on c.in_err-value.field-0.0 _ _ (λ h. many_ends (value_at c.args.input.now.end c.args.room) _ (trees_of c.loop.values.items) c.args.n c.loop.counter c.loop.input.rest.now _ c.loop-test.true h c.loop.invariant.read) (rw c.loop.invariant.end at c.in_err-value.ensures.read))

pub values-loop-preserved : goal.values-loop-preserved
values-loop-preserved t c =
    let v = c.in_ok-value.value in
    let e : trees_of c.push.new.self.items ≡ trees_of c.loop.values.items ++ tree v ∷ [] = rw c.in_ok-push.ensures.items (map_push _ c.loop.values.items v) in
    let read = rw c.loop.invariant.end at c.in_ok-value.ensures.read in
    record {
      read = rw e (many_goes_on (value_at c.args.input.now.end c.args.room) (trees_of c.loop.values.items) c.args.n c.loop.counter c.loop.input.rest.now (tree v) c.value.new.input.rest.now _ c.loop-test.true read c.loop.invariant.read);
      end = c.in_ok-value.ensures.end ∙ c.loop.invariant.end;
      shallow = rw (c.in_ok-push.ensures.items, c.depth_of_one_more_item.ensures) (omega (arith, c.in_ok-value.ensures.shallow));
    }

pub values-returns-clause-read : goal.values-returns-clause-read
values-returns-clause-read t c = many_done (value_at c.args.input.now.end c.args.room) (trees_of c.loop.values.items) c.args.n c.loop.counter c.loop.input.rest.now _ c.loop-test.false c.loop.invariant.read

pub pairs-returns-in_err-name-clause-read : goal.pairs-returns-in_err-name-clause-read
pairs-returns-in_err-name-clause-read t c =
    let p = err_from_is_err_and c.from_residual-in_err-name.result c.from_residual-in_err-name.ensures.1 in
    rw (p.1, p.2) (fails_on c.in_err-name.field-0.0 _ _ (λ h. pairs_end_at_key c.args.input.now.end (value_at c.args.input.now.end c.args.room) _ (entries c.loop.pairs.items) c.args.n c.loop.counter c.loop.input.rest.now _ c.loop-test.true h c.loop.invariant.read) (rw c.loop.invariant.end at c.in_err-name.ensures.read))

pub pairs-returns-in_err-member-clause-read : goal.pairs-returns-in_err-member-clause-read
pairs-returns-in_err-member-clause-read t c =
    let p = err_from_is_err_and c.from_residual-in_err-member.result c.from_residual-in_err-member.ensures.1 in
    let key = rw c.loop.invariant.end at c.in_ok-name.ensures.read in
    rw (p.1, p.2) (fails_on c.in_err-member.field-0.0 _ _ (λ h. pairs_end_at_value c.args.input.now.end (value_at c.args.input.now.end c.args.room) _ (entries c.loop.pairs.items) c.args.n c.loop.counter c.loop.input.rest.now _ _ _ c.loop-test.true key h c.loop.invariant.read) (rw (c.in_ok-name.ensures.end ∙ c.loop.invariant.end) at c.in_err-member.ensures.read))

pub pairs-loop-preserved : goal.pairs-loop-preserved
pairs-loop-preserved t c =
    let k = c.in_ok-name.name in
    let v = c.in_ok-member.member in
    let e : entries c.push.new.self.items ≡ entries c.loop.pairs.items ++ (k, tree v) ∷ [] = rw c.in_ok-push.ensures.items (map_push _ c.loop.pairs.items (k, v)) in
    let key = rw c.loop.invariant.end at c.in_ok-name.ensures.read in
    let read = rw (c.in_ok-name.ensures.end ∙ c.loop.invariant.end) at c.in_ok-member.ensures.read in
    record {
      read = rw e (pairs_go_on c.args.input.now.end (value_at c.args.input.now.end c.args.room) (entries c.loop.pairs.items) c.args.n c.loop.counter c.loop.input.rest.now k _ (tree v) c.value.new.input.rest.now _ c.loop-test.true key read c.loop.invariant.read);
      end = c.in_ok-member.ensures.end ∙ c.in_ok-name.ensures.end ∙ c.loop.invariant.end;
      shallow = rw (c.in_ok-push.ensures.items, c.depth_of_one_more_pair.ensures) (omega (arith, c.in_ok-member.ensures.shallow));
    }

pub pairs-returns-clause-read : goal.pairs-returns-clause-read
pairs-returns-clause-read t c = pairs_done c.args.input.now.end (value_at c.args.input.now.end c.args.room) (entries c.loop.pairs.items) c.args.n c.loop.counter c.loop.input.rest.now _ c.loop-test.false c.loop.invariant.read
