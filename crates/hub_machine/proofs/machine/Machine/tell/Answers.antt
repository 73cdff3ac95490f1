use Rattle.std.proofs.Common.{◌≡◌, None, refl, sym, ap, subst, ◌∙◌}
use Rattle.hv_value.specs.declared.value.Value.TheVariants as value
use Rattle.hd_calls.specs.declared.vocabulary.Deed.TheVariants as deed
use Rattle.hd_calls.specs.declared.vocabulary.Input.TheVariants as input
use Rattle.hj_jobs.specs.Meaning.{meaning}
use Rattle.hd_rooms.specs.Registry.{members}
use Rattle.hd_server.specs.Machine.{registry, user_pairs}
use Rattle.hub_machine.specs.MachineView.{AreUp, machine_view, fates_in}
use Rattle.hub_machine.proofs.Carry.{carried_telling, fates_in_are, goes_alone, may_answer_told, members_up, stands_for}
use Rattle.hub_machine.proofs.EncodedCodecs.{spelled_so}
use Rattle.hub_machine.proofs.machine.Machine.tell.Goals as goal

pub returns-clause-carried : goal.returns-clause-carried
returns-clause-carried g c r j number owes there s holds answers faults =
    let hub = meaning g.H.Hub.begin_of g.H.Hub.step_of in
    let d = deed.Tell c.args.user.now c.args.target c.args.arguments in
    let to = members c.args.user.now (registry r).users in
    let are : c.deref.result.now ≡ to = c.deref.ensures.value ∙ c.in_ok-to.ensures.listed (registry r) s.registry in
    let fates = fates_in (machine_view r) c.deref.result.now c.args.target c.args.arguments in
    let said = c.in_ok-notify.ensures.told (machine_view r) d (λ codec. refl) (subst (AreUp (machine_view r)) (sym are) (members_up r c.args.user.now (user_pairs r)))
    (stands_for {H = g.row.H.Denot} hub c.args.self.now r s) in
    record {
      asked = None;
      is_asked = refl;
      stands = carried_telling {H = g.row.H.Denot} hub c.answer.new.self c.args.self.now r c.args.conn j d fates said.0 s (c.answer.ensures.clock ∙ c.in_ok-notify.ensures.clock) owes there refl refl said.1
          (ap (λ cs. fates_in (machine_view r) cs c.args.target c.args.arguments) are
          ∙ fates_in_are r to c.args.target c.args.arguments (members_up r c.args.user.now (user_pairs r)))
          (c.answer.ensures.answered said.0 j number
          (may_answer_told {H = g.row.H.Denot} hub c.args.self.now r c.args.conn j d (input.Done value.Null) fates said.0 s owes refl said.1) said.2);
      goes = goes_alone holds answers faults c.args.steps.now c.notify.new.steps r c.args.conn j d _
          (spelled_so {H = g.row.H.Denot} hub c.args.self.now r c.args.steps.now c.notify.new.steps c.deref.result.now to c.args.target c.args.arguments
          s (members_up r c.args.user.now (user_pairs r)) are c.in_ok-notify.ensures.cost);
    }
