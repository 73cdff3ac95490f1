use Rattle.std.proofs.Common.{refl, sym, subst}
use Rattle.std.proofs.lemmas.Result.{on_ok_weaker}
use Rattle.hj_jobs.specs.Meaning.{meaning}
use Rattle.hub_server.specs.Lanes.{lane_of, settled}
use Rattle.hub_server.specs.Servers.{Standing}
use Rattle.hub_server.specs.Steps.{Handles, outside, lost_in}
use Rattle.hub_server.specs.Events.{HasHeardBytes}
use Rattle.hub_server.proofs.OutcomeEvents.{heard_bytes, heard_drain, heard_nothing, heard_refusal, heard_response, heard_upgrade, lost_lane}
use Rattle.hub_server.proofs.server.Server.handle.Goals as goal

pub returns-in-Bytes : goal.returns-in-Bytes
returns-in-Bytes g c =
    let hub = meaning g.H.Hub.begin_of g.H.Hub.step_of in
    let at = outside (g.K.Keeper.holds c.args.keeper.now) (g.K.Keeper.answers c.args.keeper.now) (g.K.Keeper.faults c.args.keeper.now)
    (g.L.Lots.drawn c.args.lots.now) (g.L.Lots.faults c.args.lots.now) in
    on_ok_weaker c.on_bytes.result (λ f s before h st rests can none.
    subst (λ e. Handles {H = g.row.H.Denot} {Job = g.row.H-Job.Denot} hub s before c.on_bytes.new.self at at e h) (sym c.in-Bytes.is)
    (heard_bytes {H = g.row.H.Denot} {Job = g.row.H-Job.Denot} hub s before c.on_bytes.new.self at h c.in-Bytes.lane c.in-Bytes.bytes
    (subst (λ b. HasHeardBytes {H = g.row.H.Denot} {Job = g.row.H-Job.Denot} hub s settled before c.on_bytes.new.self c.in-Bytes.lane b h)
    c.bytes-in-Bytes.ensures
    (f s settled before h (subst (λ e. Standing {H = g.row.H.Denot} {Job = g.row.H-Job.Denot} hub s (lane_of (lost_in e)) before c.args.self.now h)
    c.in-Bytes.is st))))) c.on_bytes.ensures

pub returns-in-Lost : goal.returns-in-Lost
returns-in-Lost g c s before h st rests can none =
    let hub = meaning g.H.Hub.begin_of g.H.Hub.step_of in
    let at = outside (g.K.Keeper.holds c.args.keeper.now) (g.K.Keeper.answers c.args.keeper.now) (g.K.Keeper.faults c.args.keeper.now)
    (g.L.Lots.drawn c.args.lots.now) (g.L.Lots.faults c.args.lots.now) in
    subst (λ e. Handles {H = g.row.H.Denot} {Job = g.row.H-Job.Denot} hub s before c.on_loss.new.self at at e h) (sym c.in-Lost.is)
    (lost_lane {H = g.row.H.Denot} {Job = g.row.H-Job.Denot} hub s before c.on_loss.new.self at h c.parts_of_turns.ensures c.in-Lost.lane
    (c.on_loss.ensures s _ before h (subst (λ e. Standing {H = g.row.H.Denot} {Job = g.row.H-Job.Denot} hub s (lane_of (lost_in e)) before
    c.args.self.now h) c.in-Lost.is st) refl))

pub returns-in-Refused : goal.returns-in-Refused
returns-in-Refused g c s before h st rests can none =
    let hub = meaning g.H.Hub.begin_of g.H.Hub.step_of in
    let at = outside (g.K.Keeper.holds c.args.keeper.now) (g.K.Keeper.answers c.args.keeper.now) (g.K.Keeper.faults c.args.keeper.now)
    (g.L.Lots.drawn c.args.lots.now) (g.L.Lots.faults c.args.lots.now) in
    subst (λ e. Handles {H = g.row.H.Denot} {Job = g.row.H-Job.Denot} hub s before c.args.self.now at at e h) (sym c.in-Refused.is)
    (heard_refusal {H = g.row.H.Denot} {Job = g.row.H-Job.Denot} hub s before c.args.self.now at
    h c.in-Refused.lane c.in-Refused.refusal (subst
    (λ e. Standing {H = g.row.H.Denot} {Job = g.row.H-Job.Denot} hub s (lane_of (lost_in e)) before c.args.self.now h) c.in-Refused.is st))

pub returns-in-Response : goal.returns-in-Response
returns-in-Response g c s before h st rests can none =
    let hub = meaning g.H.Hub.begin_of g.H.Hub.step_of in
    let at = outside (g.K.Keeper.holds c.args.keeper.now) (g.K.Keeper.answers c.args.keeper.now) (g.K.Keeper.faults c.args.keeper.now)
    (g.L.Lots.drawn c.args.lots.now) (g.L.Lots.faults c.args.lots.now) in
    subst (λ e. Handles {H = g.row.H.Denot} {Job = g.row.H-Job.Denot} hub s before c.args.self.now at at e h) (sym c.in-Response.is)
    (heard_response {H = g.row.H.Denot} {Job = g.row.H-Job.Denot} hub s before c.args.self.now at
    h c.in-Response.lane c.in-Response.status c.in-Response.body
    (subst (λ e. Standing {H = g.row.H.Denot} {Job = g.row.H-Job.Denot} hub s (lane_of (lost_in e)) before c.args.self.now h) c.in-Response.is
    st))

pub returns-in-Upgraded : goal.returns-in-Upgraded
returns-in-Upgraded g c s before h st rests can none =
    let hub = meaning g.H.Hub.begin_of g.H.Hub.step_of in
    let at = outside (g.K.Keeper.holds c.args.keeper.now) (g.K.Keeper.answers c.args.keeper.now) (g.K.Keeper.faults c.args.keeper.now)
    (g.L.Lots.drawn c.args.lots.now) (g.L.Lots.faults c.args.lots.now) in
    subst (λ e. Handles {H = g.row.H.Denot} {Job = g.row.H-Job.Denot} hub s before c.args.self.now at at e h) (sym c.in-Upgraded.is)
    (heard_upgrade {H = g.row.H.Denot} {Job = g.row.H-Job.Denot} hub s before c.args.self.now at
    h c.in-Upgraded.lane (subst (λ e. Standing {H = g.row.H.Denot} {Job = g.row.H-Job.Denot} hub s (lane_of (lost_in e)) before c.args.self.now h)
    c.in-Upgraded.is st))

pub returns-in-Drained : goal.returns-in-Drained
returns-in-Drained g c s before h st rests can none =
    let hub = meaning g.H.Hub.begin_of g.H.Hub.step_of in
    let at = outside (g.K.Keeper.holds c.args.keeper.now) (g.K.Keeper.answers c.args.keeper.now) (g.K.Keeper.faults c.args.keeper.now)
    (g.L.Lots.drawn c.args.lots.now) (g.L.Lots.faults c.args.lots.now) in
    subst (λ e. Handles {H = g.row.H.Denot} {Job = g.row.H-Job.Denot} hub s before c.args.self.now at at e h) (sym c.in-Drained.is)
    (heard_drain {H = g.row.H.Denot} {Job = g.row.H-Job.Denot} hub s before c.args.self.now at
    h c.in-Drained.lane (subst (λ e. Standing {H = g.row.H.Denot} {Job = g.row.H-Job.Denot} hub s (lane_of (lost_in e)) before c.args.self.now h)
    c.in-Drained.is st))

pub returns : goal.returns
returns g c s before h st rests can none =
    let hub = meaning g.H.Hub.begin_of g.H.Hub.step_of in
    let at = outside (g.K.Keeper.holds c.args.keeper.now) (g.K.Keeper.answers c.args.keeper.now) (g.K.Keeper.faults c.args.keeper.now)
    (g.L.Lots.drawn c.args.lots.now) (g.L.Lots.faults c.args.lots.now) in
    subst (λ e. Handles {H = g.row.H.Denot} {Job = g.row.H-Job.Denot} hub s before c.args.self.now at at e h) (sym c.in-Quiet.is)
    (heard_nothing {H = g.row.H.Denot} {Job = g.row.H-Job.Denot} hub s before c.args.self.now at
    h (subst (λ e. Standing {H = g.row.H.Denot} {Job = g.row.H-Job.Denot} hub s (lane_of (lost_in e)) before c.args.self.now h) c.in-Quiet.is st))
