use Rattle.std.proofs.Common.{◌≡◌, ◌∷◌, [], ◌++◌, ◌+◌, suc, None, take, drop, length, sym, subst, arith, length-take}
use Rattle.hj_jobs.specs.Ids.{AreOpenable, Opens, OpensOne, stream_at}
use Rattle.hj_jobs.proofs.Claiming.{openable_more, opened_more, refused_at, opened_and_closed, before_and_at, before_and_after}
use Rattle.hj_jobs.proofs.ids.Ids.open.Goals as goal

pub returns-in-Err-clause-refused : goal.returns-in-Err-clause-refused
returns-in-Err-clause-refused c = λ id.
    refused_at c.args.self.now c.loop-place.self c.args.job id (take c.loop-place.place c.args.streams.now) (drop (suc c.loop-place.place) c.args.streams.now) c.args.streams.now c.index-streams-place.result c.in-Err.error
    (before_and_after c.args.streams.now c.loop-place.place c.index-streams-place.result c.index-streams-place.result c.loop-place-test.true c.index-streams-place.is) c.loop-place.invariant.opened c.in-Err.ensures.refused

pub returns-in-Err-clause-unchanged : goal.returns-in-Err-clause-unchanged
returns-in-Err-clause-unchanged c =
    opened_and_closed c.args.self.now c.loop-place.self c.open_one.new.self c.close_those_of.new.self c.args.job (take c.loop-place.place c.args.streams.now) c.loop-place.invariant.openable c.loop-place.invariant.opened c.in-Err.ensures.unchanged c.close_those_of.ensures

pub loop-place-preserved : goal.loop-place-preserved
loop-place-preserved c =
    let free : stream_at c.loop-place.self c.index-streams-place.result ≡ None = c.in_default.ensures.free in
    let upto : take (c.loop-place.place + 1) c.args.streams.now ≡ take c.loop-place.place c.args.streams.now ++ c.index-streams-place.result ∷ [] = before_and_at c.args.streams.now c.loop-place.place c.index-streams-place.result c.index-streams-place.result c.loop-place-test.true c.index-streams-place.is in
    let place : c.loop-place.place ≡ length (take c.loop-place.place c.args.streams.now) = omega (arith, length-take c.loop-place.place c.args.streams.now) in
    let one : OpensOne c.loop-place.self c.open_one.new.self c.args.job (length (take c.loop-place.place c.args.streams.now)) c.index-streams-place.result = subst (λ n. OpensOne c.loop-place.self c.open_one.new.self c.args.job n c.index-streams-place.result) place c.in_default.ensures.ok in
    record {
      openable = subst (λ ks. AreOpenable c.args.self.now ks) (sym upto) (openable_more c.args.self.now c.loop-place.self c.args.job (take c.loop-place.place c.args.streams.now) c.index-streams-place.result c.loop-place.invariant.openable c.loop-place.invariant.opened free);
      opened = subst (λ ks. Opens c.args.self.now c.open_one.new.self c.args.job ks) (sym upto) (opened_more c.args.self.now c.loop-place.self c.open_one.new.self c.args.job (take c.loop-place.place c.args.streams.now) c.index-streams-place.result c.loop-place.invariant.opened free one);
    }
