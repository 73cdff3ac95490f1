use Rattle.std.proofs.Common.{◌≡◌, ◌++◌, refl, ◌∙◌, subst, arith}
use Rattle.sr_replay.specs.Plays.{Says, limits_at, most_steps}
use Rattle.sr_replay.proofs.Going.{HasSaid, said_none, said_on, said_done, said_most, written_few}
use Rattle.sr_replay.proofs.player.Player.write.Goals as goal

pub loop-written-init : goal.loop-written-init
loop-written-init c = record {
  limits = refl;
  said = λ wire config h plays. said_none c.args.kind wire config h c.args.self.now c.args.lane.now.items c.args.told.now.items plays;
}

pub loop-written-preserved : goal.loop-written-preserved
loop-written-preserved c = record {
  limits = c.in_ok-write_one.ensures.limits ∙ c.loop-written.invariant.limits;
  said = λ wire config h plays.
      let has = c.loop-written.invariant.said wire config h plays in
      said_on c.args.kind wire config h c.loop-written.self c.write_one.new.self c.args.lane.now.items c.loop-written.lane.items c.write_one.new.lane.items
      c.args.told.now.items c.loop-written.told.items c.write_one.new.told.items c.loop-written._written has
      (subst (Says c.args.kind wire config (has.gone.steps ++ h) c.write_one.new.self c.loop-written.lane.items c.write_one.new.lane.items c.loop-written.told.items c.write_one.new.told.items)
      c.if-not-branch.false (c.in_ok-write_one.ensures.wrote wire config (has.gone.steps ++ h) has.gone.plays));
}

pub returns-then-not-branch : goal.returns-then-not-branch
returns-then-not-branch c = record {
  limits = c.in_ok-write_one.ensures.limits ∙ c.loop-written.invariant.limits;
  written = λ wire config h plays.
      let has = c.loop-written.invariant.said wire config h plays in
      said_done c.args.kind wire config h c.loop-written.self c.write_one.new.self c.args.lane.now.items c.loop-written.lane.items c.write_one.new.lane.items
      c.args.told.now.items c.loop-written.told.items c.write_one.new.told.items c.loop-written._written has c.args.count
      (let most = c.most-written-end.ensures in omega arith)
      (subst (Says c.args.kind wire config (has.gone.steps ++ h) c.write_one.new.self c.loop-written.lane.items c.write_one.new.lane.items c.loop-written.told.items c.write_one.new.told.items)
      c.if-not-branch.true (c.in_ok-write_one.ensures.wrote wire config (has.gone.steps ++ h) has.gone.plays));
}

pub returns : goal.returns
returns c = record {
  limits = c.loop-written.invariant.limits;
  written = λ wire config h plays.
      let all : c.loop-written._written ≡ most_steps c.args.count = (let most = c.most-written-end.ensures in omega arith) in
      let has : HasSaid c.args.kind wire config h c.loop-written.self c.args.lane.now.items c.loop-written.lane.items c.args.told.now.items c.loop-written.told.items (most_steps c.args.count) =
      subst (HasSaid c.args.kind wire config h c.loop-written.self c.args.lane.now.items c.loop-written.lane.items c.args.told.now.items c.loop-written.told.items) all
      (c.loop-written.invariant.said wire config h plays) in
      said_most c.args.kind wire config h c.loop-written.self c.args.lane.now.items c.loop-written.lane.items c.args.told.now.items c.loop-written.told.items c.args.count has
      (written_few c.writes_few.ensures c.facts_hold.ensures (limits_at c.args.self.now) wire config h has.gone.steps plays.stands.history has.gone.follow);
}
