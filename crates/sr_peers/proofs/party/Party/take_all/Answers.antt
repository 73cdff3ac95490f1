use Rattle.std.proofs.Common.{◌++◌, refl, ap, ◌∙◌, subst, arith}
use Rattle.hd_delivery.specs.Bounds.{AreLimits}
use Rattle.he_end.specs.Stands.{limits_of}
use Rattle.sr_peers.specs.Plays.{TakesOne}
use Rattle.sr_peers.proofs.Going.{taken_none, taken_more, taken_all, taken_few}
use Rattle.sr_peers.proofs.party.Party.take_all.Goals as goal

pub loop-taken-init : goal.loop-taken-init
loop-taken-init g c = record { link = refl; taken = λ t h plays. taken_none {H = g.row.H.Denot} _ t c.args.now h c.args.self.now c.args.report.now.items plays }

pub loop-taken-preserved : goal.loop-taken-preserved
loop-taken-preserved g c = record {
  link = c.in_ok-take_one.ensures.link ∙ c.loop-taken.invariant.link;
  taken = λ t h plays.
      let has = c.loop-taken.invariant.taken t h plays in
      taken_more {H = g.row.H.Denot} _ t c.args.now h c.loop-taken.self c.take_one.new.self c.args.report.now.items c.loop-taken.report.items c.take_one.new.report.items
      c.loop-taken._taken has
      (subst (TakesOne {H = g.row.H.Denot} _ t (has.moves ++ h) c.take_one.new.self c.args.now c.loop-taken.report.items c.take_one.new.report.items)
      c.if-not-branch.false (c.in_ok-take_one.ensures.took t (has.moves ++ h) has.goes.plays));
}

pub returns-then-not-branch : goal.returns-then-not-branch
returns-then-not-branch g c = record {
  link = c.in_ok-take_one.ensures.link ∙ c.loop-taken.invariant.link;
  taken = λ t h plays.
      let has = c.loop-taken.invariant.taken t h plays in
      taken_all {H = g.row.H.Denot} _ t c.args.now h c.loop-taken.self c.take_one.new.self c.args.report.now.items c.loop-taken.report.items c.take_one.new.report.items
      c.loop-taken._taken has
      (subst (TakesOne {H = g.row.H.Denot} _ t (has.moves ++ h) c.take_one.new.self c.args.now c.loop-taken.report.items c.take_one.new.report.items)
      c.if-not-branch.true (c.in_ok-take_one.ensures.took t (has.moves ++ h) has.goes.plays));
}

pub returns : goal.returns
returns g c = record {
  link = c.loop-taken.invariant.link;
  taken = λ t h plays.
      let are : AreLimits (limits_of c.args.self.now.peer.end) = subst AreLimits (c.limits.ensures ∙ ap limits_of c.end.ensures) c.frame.ensures.in_range in
      absurd (let few = taken_few {H = g.row.H.Denot} _ t c.args.now h c.args.self.now c.loop-taken.self c.args.report.now.items c.loop-taken.report.items
      c.loop-taken._taken c.takes_few.ensures c.wire_is_sound.ensures are plays (c.loop-taken.invariant.taken t h plays) in omega arith);
}
