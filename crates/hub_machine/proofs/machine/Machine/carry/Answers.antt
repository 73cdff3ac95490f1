use Rattle.hj_jobs.specs.Meaning.{meaning}
use Rattle.hub_machine.specs.KeeperState.{keeper_state}
use Rattle.hub_machine.proofs.Carry.{named_so, on_ok}
use Rattle.hub_machine.proofs.machine.Machine.carry.Goals as goal

pub returns-in-Log-clause-carried : goal.returns-in-Log-clause-carried
returns-in-Log-clause-carried g c =
    let hub = meaning g.H.Hub.begin_of g.H.Hub.step_of in
    let holds = g.K.Keeper.holds c.args.keeper.now in
    let answers = g.K.Keeper.answers c.args.keeper.now in
    let faults = g.K.Keeper.faults c.args.keeper.now in
    let before = keeper_state holds answers faults c.args.steps.now in
    let keeper = c.log.new.keeper in
    let now = keeper_state (g.K.Keeper.holds keeper) (g.K.Keeper.answers keeper) (g.K.Keeper.faults keeper) c.args.steps.now in
    on_ok c.log.result c.log.ensures.carried (λ f.
    named_so {H = g.row.H.Denot} hub c.args.self.now c.log.new.self before now c.args.conn c.args.job c.args.deed _ c.in-Log.is
    (λ r j number owes there s. f r j number owes there s c.args.steps.now))

pub returns-in-Join-clause-carried : goal.returns-in-Join-clause-carried
returns-in-Join-clause-carried g c =
    let hub = meaning g.H.Hub.begin_of g.H.Hub.step_of in
    let holds = g.K.Keeper.holds c.args.keeper.now in
    let answers = g.K.Keeper.answers c.args.keeper.now in
    let faults = g.K.Keeper.faults c.args.keeper.now in
    let before = keeper_state holds answers faults c.args.steps.now in
    on_ok c.join.result c.join.ensures.carried (λ f.
    named_so {H = g.row.H.Denot} hub c.args.self.now c.join.new.self before before c.args.conn c.args.job c.args.deed _ c.in-Join.is
    (λ r j number owes there s. f r j number owes there s holds answers faults c.args.steps.now))

pub returns-in-Post-clause-carried : goal.returns-in-Post-clause-carried
returns-in-Post-clause-carried g c =
    let hub = meaning g.H.Hub.begin_of g.H.Hub.step_of in
    let holds = g.K.Keeper.holds c.args.keeper.now in
    let answers = g.K.Keeper.answers c.args.keeper.now in
    let faults = g.K.Keeper.faults c.args.keeper.now in
    let before = keeper_state holds answers faults c.args.steps.now in
    let now = keeper_state holds answers faults c.post.new.steps in
    on_ok c.post.result c.post.ensures.carried (λ f.
    named_so {H = g.row.H.Denot} hub c.args.self.now c.post.new.self before now c.args.conn c.args.job c.args.deed _ c.in-Post.is
    (λ r j number owes there s. f r j number owes there s holds answers faults))

pub returns-in-Tell-clause-carried : goal.returns-in-Tell-clause-carried
returns-in-Tell-clause-carried g c =
    let hub = meaning g.H.Hub.begin_of g.H.Hub.step_of in
    let holds = g.K.Keeper.holds c.args.keeper.now in
    let answers = g.K.Keeper.answers c.args.keeper.now in
    let faults = g.K.Keeper.faults c.args.keeper.now in
    let before = keeper_state holds answers faults c.args.steps.now in
    let now = keeper_state holds answers faults c.tell.new.steps in
    on_ok c.tell.result c.tell.ensures.carried (λ f.
    named_so {H = g.row.H.Denot} hub c.args.self.now c.tell.new.self before now c.args.conn c.args.job c.args.deed _ c.in-Tell.is
    (λ r j number owes there s. f r j number owes there s holds answers faults))

pub returns-in-Leave-clause-carried : goal.returns-in-Leave-clause-carried
returns-in-Leave-clause-carried g c =
    let hub = meaning g.H.Hub.begin_of g.H.Hub.step_of in
    let holds = g.K.Keeper.holds c.args.keeper.now in
    let answers = g.K.Keeper.answers c.args.keeper.now in
    let faults = g.K.Keeper.faults c.args.keeper.now in
    let before = keeper_state holds answers faults c.args.steps.now in
    named_so {H = g.row.H.Denot} hub c.args.self.now c.leave.new.self before before c.args.conn c.args.job c.args.deed _ c.in-Leave.is
    (λ r j number owes there s. c.leave.ensures.carried r j number owes there s holds answers faults c.args.steps.now)

pub returns-in-History-clause-carried : goal.returns-in-History-clause-carried
returns-in-History-clause-carried g c =
    let hub = meaning g.H.Hub.begin_of g.H.Hub.step_of in
    let holds = g.K.Keeper.holds c.args.keeper.now in
    let answers = g.K.Keeper.answers c.args.keeper.now in
    let faults = g.K.Keeper.faults c.args.keeper.now in
    let before = keeper_state holds answers faults c.args.steps.now in
    let keeper = c.history.new.keeper in
    let now = keeper_state (g.K.Keeper.holds keeper) (g.K.Keeper.answers keeper) (g.K.Keeper.faults keeper) c.args.steps.now in
    on_ok c.history.result c.history.ensures.carried (λ f.
    named_so {H = g.row.H.Denot} hub c.args.self.now c.history.new.self before now c.args.conn c.args.job c.args.deed _ c.in-History.is
    (λ r j number owes there s. f r j number owes there s c.args.steps.now))
