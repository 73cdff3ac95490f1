use Rattle.std.proofs.Common.{◌<◌, ◌++◌, length, refl, ◌∙◌, subst, arith}
use Rattle.hd_delivery.specs.Bounds.{AreLimits}
use Rattle.sr_script.specs.declared.action.Count.TheVariants.{Everything}
use Rattle.sr_replay.specs.Told.{steps_text}
use Rattle.sr_replay.specs.Plays.{Goes, limits_at, most_steps}
use Rattle.hd_delivery.specs.Alone.{taking}
use Rattle.sr_replay.proofs.Going.{steps_add, gone_none, gone_on, all_done, taken_few}
use Rattle.sr_replay.proofs.player.Player.take_all.Goals as goal

pub loop-taken-init : goal.loop-taken-init
loop-taken-init c = record {
  limits = refl;
  link = refl;
  gone = λ wire config h plays. gone_none (taking wire config) (steps_text c.args.kind wire config) (steps_add c.args.kind wire config) wire config h c.args.self.now c.args.told.now.items plays;
}

pub loop-taken-preserved : goal.loop-taken-preserved
loop-taken-preserved c = record {
  limits = c.in_ok-take_one.ensures.limits ∙ c.loop-taken.invariant.limits;
  link = c.in_ok-take_one.ensures.link ∙ c.loop-taken.invariant.link;
  gone = λ wire config h plays.
      let has = c.loop-taken.invariant.gone wire config h plays in
      gone_on (taking wire config) (steps_text c.args.kind wire config) (steps_add c.args.kind wire config) wire config h c.loop-taken.self c.take_one.new.self
      c.args.told.now.items c.loop-taken.told.items c.take_one.new.told.items c.loop-taken._taken has
      (subst (Goes (taking wire config) (steps_text c.args.kind wire config) wire config (has.steps ++ h) c.take_one.new.self c.loop-taken.told.items c.take_one.new.told.items)
      c.if-not-branch.false (c.in_ok-take_one.ensures.took wire config (has.steps ++ h) has.plays));
}

pub returns-then-not-branch : goal.returns-then-not-branch
returns-then-not-branch c = record {
  limits = c.in_ok-take_one.ensures.limits ∙ c.loop-taken.invariant.limits;
  link = c.in_ok-take_one.ensures.link ∙ c.loop-taken.invariant.link;
  taken = λ wire config h plays.
      let has = c.loop-taken.invariant.gone wire config h plays in
      all_done (taking wire config) (steps_text c.args.kind wire config) (steps_add c.args.kind wire config) wire config h c.loop-taken.self c.take_one.new.self
      c.args.told.now.items c.loop-taken.told.items c.take_one.new.told.items c.loop-taken._taken has
      (subst (Goes (taking wire config) (steps_text c.args.kind wire config) wire config (has.steps ++ h) c.take_one.new.self c.loop-taken.told.items c.take_one.new.told.items)
      c.if-not-branch.true (c.in_ok-take_one.ensures.took wire config (has.steps ++ h) has.plays));
}

pub returns : goal.returns
returns c = record {
  limits = c.loop-taken.invariant.limits;
  link = c.loop-taken.invariant.link;
  taken = λ wire config h plays.
      let has = c.loop-taken.invariant.gone wire config h plays in
      let are : AreLimits (limits_at c.args.self.now) = subst AreLimits c.limits.ensures c.frame.ensures.in_range in
      let few : length has.steps < most_steps Everything =
      taken_few c.takes_few.ensures c.wire_is_sound.ensures (limits_at c.args.self.now) wire config h has.steps are plays.stands.house plays.stands.history has.follow in
      absurd (let many = has.many in omega arith);
}
