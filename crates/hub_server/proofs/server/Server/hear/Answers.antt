use Rattle.std.proofs.Common.{true, false, sym, ap, subst, ◌∙◌}
use Rattle.std.specs.Ordering.{nat_cmp}
use Rattle.std.specs.BTreeMap.{get}
use Rattle.hj_jobs.specs.Meaning.{meaning}
use Rattle.hub_server.specs.Servers.{Standing}
use Rattle.hub_server.proofs.StepHears.{heard_lane, hears_on, refused_none, refused_one, untouched}
use Rattle.hub_server.proofs.StepSees.{seen_none, seen_one}
use Rattle.hub_server.proofs.server.Server.hear.Goals as goal

pub returns-in-Some : goal.returns-in-Some
returns-in-Some g c = λ s u before h stands is may.
    let hub = meaning g.H.Hub.begin_of g.H.Hub.step_of in
    let old = c.args.self.now in
    let x = c.in-Some.kept.now in
    let lanes = c.get_mut.follows.lender (record x { is_refused = true }) in
    hears_on {H = g.row.H.Denot} {Job = g.row.H-Job.Denot} hub s before old c.args.now c.args.event.now lanes h
    (λ k. refused_one old.lanes lanes c.in-Refused.lane c.in-Refused.refusal k x c.in-Some.ensures.value
    (c.get_mut.follows.holds (record x { is_refused = true }))
    ∙ ap (λ e. heard_lane e k (get nat_cmp old.lanes k)) (sym c.in-Refused.is))
    may.0 may.1 (subst (λ w. Standing {H = g.row.H.Denot} {Job = g.row.H-Job.Denot} hub s w before old h) is stands)

pub returns-in_default-get_mut : goal.returns-in_default-get_mut
returns-in_default-get_mut g c = λ s u before h stands is may.
    let hub = meaning g.H.Hub.begin_of g.H.Hub.step_of in
    let old = c.args.self.now in
    let lanes = c.get_mut.follows.lender-at-none in
    hears_on {H = g.row.H.Denot} {Job = g.row.H-Job.Denot} hub s before old c.args.now c.args.event.now lanes h
    (λ k. refused_none old.lanes lanes c.in-Refused.lane c.in-Refused.refusal k c.in_default-get_mut.ensures.value c.get_mut.follows.holds-at-none
    ∙ ap (λ e. heard_lane e k (get nat_cmp old.lanes k)) (sym c.in-Refused.is))
    may.0 may.1 (subst (λ w. Standing {H = g.row.H.Denot} {Job = g.row.H-Job.Denot} hub s w before old h) is stands)

pub returns-in-Some-get_mut : goal.returns-in-Some-get_mut
returns-in-Some-get_mut g c = λ s u before h stands is may.
    let hub = meaning g.H.Hub.begin_of g.H.Hub.step_of in
    let old = c.args.self.now in
    let x = c.in-Some-get_mut.kept.now in
    let lanes = c.get_mut-in-Drained.follows.lender (record x { is_full = false }) in
    hears_on {H = g.row.H.Denot} {Job = g.row.H-Job.Denot} hub s before old c.args.now c.args.event.now lanes h
    (λ k. seen_one old.lanes lanes c.in-Drained.lane false k x c.in-Some-get_mut.ensures.value
    (c.get_mut-in-Drained.follows.holds (record x { is_full = false }))
    ∙ ap (λ e. heard_lane e k (get nat_cmp old.lanes k)) (sym c.in-Drained.is))
    may.0 may.1 (subst (λ w. Standing {H = g.row.H.Denot} {Job = g.row.H-Job.Denot} hub s w before old h) is stands)

pub returns-in_default-get_mut-2 : goal.returns-in_default-get_mut-2
returns-in_default-get_mut-2 g c = λ s u before h stands is may.
    let hub = meaning g.H.Hub.begin_of g.H.Hub.step_of in
    let old = c.args.self.now in
    let lanes = c.get_mut-in-Drained.follows.lender-at-none in
    hears_on {H = g.row.H.Denot} {Job = g.row.H-Job.Denot} hub s before old c.args.now c.args.event.now lanes h
    (λ k. seen_none old.lanes lanes c.in-Drained.lane false k c.in_default-get_mut-2.ensures.value c.get_mut-in-Drained.follows.holds-at-none
    ∙ ap (λ e. heard_lane e k (get nat_cmp old.lanes k)) (sym c.in-Drained.is))
    may.0 may.1 (subst (λ w. Standing {H = g.row.H.Denot} {Job = g.row.H-Job.Denot} hub s w before old h) is stands)

pub returns-in_default : goal.returns-in_default
returns-in_default g c = λ s u before h stands is may.
    let hub = meaning g.H.Hub.begin_of g.H.Hub.step_of in
    let old = c.args.self.now in
    hears_on {H = g.row.H.Denot} {Job = g.row.H-Job.Denot} hub s before old c.args.now c.args.event.now old.lanes h
    (λ k. untouched c.args.event.now k (get nat_cmp old.lanes k) c.in_default.not-Refused c.in_default.not-Drained)
    may.0 may.1 (subst (λ w. Standing {H = g.row.H.Denot} {Job = g.row.H-Job.Denot} hub s w before old h) is stands)
