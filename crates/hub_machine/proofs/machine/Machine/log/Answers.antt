use Rattle.std.proofs.Common.{true, false, refl}
use Rattle.hj_jobs.specs.Meaning.{meaning}
use Rattle.hub_machine.specs.KeeperState.{KeeperState, keeper_state}
use Rattle.hub_machine.proofs.AsksKeeper.{has_its_peer, log_carried, was_logged, was_unlogged, who_is}
use Rattle.hub_machine.proofs.machine.Machine.log.Goals as goal

pub returns-in_default-clause-carried : goal.returns-in_default-clause-carried
returns-in_default-clause-carried g c r j number owes there s spelled =
    absurd (has_its_peer {H = g.row.H.Denot} {Job = g.row.H-Job.Denot} (meaning g.H.Hub.begin_of g.H.Hub.step_of) c.args.self.now r c.args.conn s there
    c.in_default.ensures.value)

pub returns-in-Ok-clause-carried : goal.returns-in-Ok-clause-carried
returns-in-Ok-clause-carried g c r j number owes there s spelled =
    let hub = meaning g.H.Hub.begin_of g.H.Hub.step_of in
    let before : KeeperState = keeper_state (g.K.Keeper.holds c.args.keeper.now) (g.K.Keeper.answers c.args.keeper.now) (g.K.Keeper.faults c.args.keeper.now) spelled in
    let now : KeeperState = keeper_state (g.K.Keeper.holds c.log.new.self) (g.K.Keeper.answers c.log.new.self) (g.K.Keeper.faults c.log.new.self) spelled in
    log_carried {H = g.row.H.Denot} {Job = g.row.H-Job.Denot} hub c.answer.new.self c.args.self.now before now r c.args.conn j
    c.args.room.now c.who.result.now c.args.text.now true s c.answer.ensures.clock owes there
    (who_is {H = g.row.H.Denot} {Job = g.row.H-Job.Denot} hub c.args.self.now r c.args.conn c.in-Some.peer.now c.who.result.now s there
    c.in-Some.ensures.value c.who.ensures)
    (was_logged before now c.args.room.now c.who.result.now c.args.text.now c.in-Ok.ensures.added c.in-Ok.ensures.noted c.in-Ok.ensures.cause refl)
    (λ a. c.answer.ensures.answered a j number)

pub returns-in-Err-Failed-clause-carried : goal.returns-in-Err-Failed-clause-carried
returns-in-Err-Failed-clause-carried g c r j number owes there s spelled =
    let hub = meaning g.H.Hub.begin_of g.H.Hub.step_of in
    let before : KeeperState = keeper_state (g.K.Keeper.holds c.args.keeper.now) (g.K.Keeper.answers c.args.keeper.now) (g.K.Keeper.faults c.args.keeper.now) spelled in
    let now : KeeperState = keeper_state (g.K.Keeper.holds c.log.new.self) (g.K.Keeper.answers c.log.new.self) (g.K.Keeper.faults c.log.new.self) spelled in
    log_carried {H = g.row.H.Denot} {Job = g.row.H-Job.Denot} hub c.answer-in-Err-Failed.new.self c.args.self.now before now r c.args.conn j
    c.args.room.now c.who.result.now c.args.text.now false s c.answer-in-Err-Failed.ensures.clock owes there
    (who_is {H = g.row.H.Denot} {Job = g.row.H-Job.Denot} hub c.args.self.now r c.args.conn c.in-Some.peer.now c.who.result.now s there
    c.in-Some.ensures.value c.who.ensures)
    (was_unlogged before now c.args.room.now c.who.result.now c.args.text.now c.in-Err-Failed.field-0 c.in-Err-Failed.field-0-is
    c.in-Err-Failed.ensures.unchanged c.in-Err-Failed.ensures.noted c.in-Err-Failed.ensures.cause refl)
    (λ a. c.answer-in-Err-Failed.ensures.answered a j number)
