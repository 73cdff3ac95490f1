use Rattle.std.proofs.Common.{refl}
use Rattle.sr_app.specs.Run.{add_environment}
use Rattle.sr_app.proofs.Added.{failed, kept_by, told}
use Rattle.sr_app.proofs.run.run_user.Goals as goal

pub returns-in-Ok-clause-adds : goal.returns-in-Ok-clause-adds
returns-in-Ok-clause-adds g c =
    let before = add_environment (g.R.Keeper.holds c.args.keeper.now) (g.R.Keeper.answers c.args.keeper.now) (g.R.Keeper.faults c.args.keeper.now)
    (g.K.Sink.holds c.args.out.now) (g.K.Sink.faults c.args.out.now) in
    let now = add_environment (g.R.Keeper.holds c.add_user.new.self) (g.R.Keeper.answers c.add_user.new.self) (g.R.Keeper.faults c.add_user.new.self)
    (g.K.Sink.holds c.write.new.out) (g.K.Sink.faults c.write.new.out) in
    told c.args.asked c.in-Ok.is_new _ c.write.result before now (record {
      noted = c.in-Ok.ensures.noted;
      is_new = c.in-Ok.ensures.is_new;
      kept = kept_by c.args.asked c.in-Ok.is_new _ _ c.in-Ok.ensures.added;
      cause = c.in-Ok.ensures.cause;
    }) c.line_of.ensures c.write.ensures.same c.write.ensures.whole c.write.ensures.part c.write.ensures.unfailed

pub returns-clause-adds : goal.returns-clause-adds
returns-clause-adds g c =
    let before = add_environment (g.R.Keeper.holds c.args.keeper.now) (g.R.Keeper.answers c.args.keeper.now) (g.R.Keeper.faults c.args.keeper.now)
    (g.K.Sink.holds c.args.out.now) (g.K.Sink.faults c.args.out.now) in
    let now = add_environment (g.R.Keeper.holds c.add_user.new.self) (g.R.Keeper.answers c.add_user.new.self) (g.R.Keeper.faults c.add_user.new.self)
    (g.K.Sink.holds c.args.out.now) (g.K.Sink.faults c.args.out.now) in
    failed c.args.asked c.in-Err.error c.from.result before now (record {
      noted = c.in-Err.ensures.noted;
      is_new = tt;
      kept = c.in-Err.ensures.unchanged;
      cause = c.in-Err.ensures.cause;
    }) (refl, refl) c.from.ensures
