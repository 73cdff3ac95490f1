use Rattle.std.proofs.Common.{sym, subst, ◌∙◌}
use Rattle.std.proofs.lemmas.Result.{on_ok_weaker}
use Rattle.hd_server.specs.Laws.{Suits}
use Rattle.hj_jobs.specs.Meaning.{meaning}
use Rattle.hub_server.specs.Requests.{IsCaller, text_asked}
use Rattle.hub_server.proofs.OutcomeDecided.{handled_there}
use Rattle.hub_server.proofs.OutcomeTokens.{said_by}
use Rattle.hub_server.proofs.server.Server.on_request.Goals as goal

pub carry_out-requires : goal.carry_out-requires
carry_out-requires g c =
    let r = c.args.request in
    let some = c.outcome-outcome.ensures.of_table c.as_bytes-base.result.now r c.in_ok-route.ensures in
    said_by r some.0 c.outcome-outcome.result (subst (Suits r some.0) (sym some.1) (c.outcomes_suit.ensures c.as_bytes-base.result.now r some.0))

pub returns : goal.returns
returns g c =
    let hub = meaning g.H.Hub.begin_of g.H.Hub.step_of in
    let r = c.args.request in
    let was = c.args.keeper.now in
    let now = c.caller_of.new.keeper in
    let caller = c.in_ok-caller.caller in
    let called = subst (λ b. IsCaller (text_asked b r.bearer) r.bearer caller (g.K.Keeper.holds was) (g.K.Keeper.answers was)
    (g.K.Keeper.faults was) (g.K.Keeper.holds now) (g.K.Keeper.answers now) (g.K.Keeper.faults now)) c.is_entry.ensures
    (subst (λ b. IsCaller (text_asked c.is_entry.result b) b caller (g.K.Keeper.holds was) (g.K.Keeper.answers was)
    (g.K.Keeper.faults was) (g.K.Keeper.holds now) (g.K.Keeper.answers now) (g.K.Keeper.faults now)) c.as_ref.ensures.value
    c.in_ok-caller.ensures.who) in
    record {
      handled = on_ok_weaker c.carry_out.result (λ f.
          handled_there {H = g.row.H.Denot} {Job = g.row.H-Job.Denot} hub c.args.self.now c.carry_out.new.self c.args.lane r
          c.as_bytes-base.result.now (c.as_bytes-base.ensures.value ∙ c.as_str.ensures) c.in_ok-route.route c.in_ok-route.ensures
          c.lots_matter_to_tokens.ensures c.parts_of_turns.ensures c.outcomes_suit.ensures c.lives_are_settled.ensures caller
          (g.K.Keeper.holds was) (g.K.Keeper.holds now) (g.K.Keeper.answers was) (g.K.Keeper.answers now)
          (g.K.Keeper.faults was) (g.K.Keeper.faults now) (g.L.Lots.drawn c.args.lots.now) (g.L.Lots.drawn c.carry_out.new.lots)
          (g.L.Lots.faults c.args.lots.now) (g.L.Lots.faults c.carry_out.new.lots) called
          c.named-named.result c.named-named.ensures.known c.named-named.ensures.made c.unwrap_or.result c.unwrap_or.ensures c.may_resume_named-resumable.result c.may_resume_named-resumable.ensures c.outcome-outcome.result c.outcome-outcome.ensures.by_rows
          (λ s before h st rests come none o at on up body here is seen suits view.
          f s before h st rests come none o at on up body (here ∙ sym c.is_at_base-at_base.ensures) (is ∙ sym c.name_in.ensures) seen suits view)) c.carry_out.ensures.done;
    }
