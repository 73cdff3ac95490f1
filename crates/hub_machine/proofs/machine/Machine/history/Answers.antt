use Rattle.std.proofs.Common.{Some, None, refl, subst}
use Rattle.hd_calls.specs.declared.vocabulary.Input.TheVariants.{Done}
use Rattle.hj_jobs.specs.Meaning.{meaning}
use Rattle.hub_machine.specs.KeeperState.{KeeperState, keeper_state}
use Rattle.hub_machine.proofs.AsksKeeper.{IsTold, history_carried, was_recalled, was_unrecalled}
use Rattle.hub_machine.proofs.machine.Machine.history.Goals as goal

pub returns-in_ok-rows-in-Ok-clause-carried : goal.returns-in_ok-rows-in-Ok-clause-carried
returns-in_ok-rows-in-Ok-clause-carried g c r j number owes there s spelled =
    let hub = meaning g.H.Hub.begin_of g.H.Hub.step_of in
    let before : KeeperState = keeper_state (g.K.Keeper.holds c.args.keeper.now) (g.K.Keeper.answers c.args.keeper.now) (g.K.Keeper.faults c.args.keeper.now) spelled in
    let now : KeeperState = keeper_state (g.K.Keeper.holds c.history.new.self) (g.K.Keeper.answers c.history.new.self) (g.K.Keeper.faults c.history.new.self) spelled in
    history_carried {H = g.row.H.Denot} {Job = g.row.H-Job.Denot} hub c.answer.new.self c.args.self.now before now r c.args.conn j
    c.args.room.now c.args.most (Some c.in-Ok.texts) s c.answer.ensures.clock owes there
    (was_recalled before now c.args.room.now c.args.most c.in-Ok.texts c.in-Ok.ensures.last c.in-Ok.ensures.unchanged c.in-Ok.ensures.noted
    c.in-Ok.ensures.cause refl)
    (subst (λ rows. IsTold {H = g.row.H.Denot} {Job = g.row.H-Job.Denot} hub c.args.self.now c.answer.new.self c.args.conn j (Done rows))
    c.in_ok-rows-in-Ok.ensures (λ a. c.answer.ensures.answered a j number))

pub returns-in-Err-Failed-clause-carried : goal.returns-in-Err-Failed-clause-carried
returns-in-Err-Failed-clause-carried g c r j number owes there s spelled =
    let hub = meaning g.H.Hub.begin_of g.H.Hub.step_of in
    let before : KeeperState = keeper_state (g.K.Keeper.holds c.args.keeper.now) (g.K.Keeper.answers c.args.keeper.now) (g.K.Keeper.faults c.args.keeper.now) spelled in
    let now : KeeperState = keeper_state (g.K.Keeper.holds c.history.new.self) (g.K.Keeper.answers c.history.new.self) (g.K.Keeper.faults c.history.new.self) spelled in
    history_carried {H = g.row.H.Denot} {Job = g.row.H-Job.Denot} hub c.answer-in-Err-Failed.new.self c.args.self.now before now r c.args.conn j
    c.args.room.now c.args.most None s c.answer-in-Err-Failed.ensures.clock owes there
    (was_unrecalled before now c.args.room.now c.args.most c.in-Err-Failed.field-0 c.in-Err-Failed.field-0-is
    c.in-Err-Failed.ensures.unchanged c.in-Err-Failed.ensures.noted c.in-Err-Failed.ensures.cause refl)
    (λ a. c.answer-in-Err-Failed.ensures.answered a j number)
