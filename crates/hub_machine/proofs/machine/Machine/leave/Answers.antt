use Rattle.std.proofs.Common.{None, refl, arith}
use Rattle.hd_calls.specs.declared.vocabulary.Deed.TheVariants as deed
use Rattle.hj_jobs.specs.Meaning.{meaning}
use Rattle.hd_server.specs.Machine.{registry}
use Rattle.hub_machine.specs.MachineView.{machine_view, lists_after, with_lists}
use Rattle.hub_machine.proofs.Carry.{carried_quietly, goes_alone, may_answer, stands_listed}
use Rattle.hub_machine.proofs.machine.Machine.leave.Goals as goal

pub returns-clause-carried : goal.returns-clause-carried
returns-clause-carried g c r j number owes there s holds answers faults spelled =
    let hub = meaning g.H.Hub.begin_of g.H.Hub.step_of in
    let d = deed.Leave c.args.group.now in
    let a = with_lists (lists_after d c.args.conn (registry r)) (machine_view r) in
    record {
      asked = None;
      is_asked = refl;
      stands = carried_quietly {H = g.row.H.Denot} hub c.answer.new.self c.args.self.now r c.args.conn j d None s c.answer.ensures.clock owes there refl refl
          (c.answer.ensures.answered a j number (may_answer {H = g.row.H.Denot} hub c.args.self.now r c.args.conn j d _ s owes refl)
          (stands_listed {H = g.row.H.Denot} hub c.args.self.now r _ (lists_after d c.args.conn (registry r)) s
          (c.remove-was_there.ensures.removed (registry r) s.registry)));
      goes = goes_alone holds answers faults spelled spelled r c.args.conn j d _ (omega arith);
    }
