use Rattle.std.proofs.Common.{None, true, false, refl, sym, subst, arith, ◌∙◌}
use Rattle.hd_calls.specs.declared.vocabulary.Deed.TheVariants as deed
use Rattle.hd_calls.specs.Peers.{Answers}
use Rattle.hj_jobs.specs.Meaning.{meaning}
use Rattle.hd_server.specs.Machine.{registry}
use Rattle.hub_machine.specs.MachineView.{StandsFor, machine_view, moved, lists_after, with_lists}
use Rattle.hub_machine.proofs.Carry.{carried_quietly, goes_alone, join_answer, may_answer, open_here, stands_listed}
use Rattle.hub_machine.proofs.machine.Machine.join.Goals as goal

pub returns-then-not-may-clause-carried : goal.returns-then-not-may-clause-carried
returns-then-not-may-clause-carried g c r j number owes there s holds answers faults spelled =
    let hub = meaning g.H.Hub.begin_of g.H.Hub.step_of in
    let d = deed.Join c.args.group.now in
    let a = with_lists (lists_after d c.args.conn (registry r)) (machine_view r) in
    let is_up = open_here {H = g.row.H.Denot} hub c.args.self.now r c.args.conn j d s owes there in
    record {
      asked = None;
      is_asked = refl;
      stands = carried_quietly {H = g.row.H.Denot} hub c.answer.new.self c.args.self.now r c.args.conn j d None s c.answer.ensures.clock owes there refl refl
          (subst (λ i. StandsFor {H = g.row.H.Denot} hub c.answer.new.self (moved c.args.conn (Answers j i) a))
          (sym (join_answer r c.args.conn c.args.group.now false is_up (sym c.if-not-may.true ∙ c.in_ok-may.ensures.answer (registry r) s.registry)))
          (c.answer.ensures.answered a j number (may_answer {H = g.row.H.Denot} hub c.args.self.now r c.args.conn j d _ s owes refl)
          (stands_listed {H = g.row.H.Denot} hub c.args.self.now r _ (lists_after d c.args.conn (registry r)) s
          (c.in_ok-may.ensures.joined (registry r) s.registry))));
      goes = goes_alone holds answers faults spelled spelled r c.args.conn j d _ (omega arith);
    }

pub returns-clause-carried : goal.returns-clause-carried
returns-clause-carried g c r j number owes there s holds answers faults spelled =
    let hub = meaning g.H.Hub.begin_of g.H.Hub.step_of in
    let d = deed.Join c.args.group.now in
    let a = with_lists (lists_after d c.args.conn (registry r)) (machine_view r) in
    let is_up = open_here {H = g.row.H.Denot} hub c.args.self.now r c.args.conn j d s owes there in
    record {
      asked = None;
      is_asked = refl;
      stands = carried_quietly {H = g.row.H.Denot} hub c.answer-2.new.self c.args.self.now r c.args.conn j d None s c.answer-2.ensures.clock owes there refl refl
          (subst (λ i. StandsFor {H = g.row.H.Denot} hub c.answer-2.new.self (moved c.args.conn (Answers j i) a))
          (sym (join_answer r c.args.conn c.args.group.now true is_up (sym c.if-not-may.false ∙ c.in_ok-may.ensures.answer (registry r) s.registry)))
          (c.answer-2.ensures.answered a j number (may_answer {H = g.row.H.Denot} hub c.args.self.now r c.args.conn j d _ s owes refl)
          (stands_listed {H = g.row.H.Denot} hub c.args.self.now r _ (lists_after d c.args.conn (registry r)) s
          (c.in_ok-may.ensures.joined (registry r) s.registry))));
      goes = goes_alone holds answers faults spelled spelled r c.args.conn j d _ (omega arith);
    }
