use Rattle.std.proofs.Common.{refl}
use Rattle.hj_jobs.specs.Meaning.{meaning}
use Rattle.hub_server.proofs.StepSees.{seen_none, seen_one, server_sees}
use Rattle.hub_server.proofs.server.Server.note_sent.Goals as goal

pub returns-in-Some : goal.returns-in-Some
returns-in-Some g c = record {
  sees = λ s h stands.
      let hub = meaning g.H.Hub.begin_of g.H.Hub.step_of in
      let old = c.args.self.now in
      let x = c.in-Some.kept.now in
      let lanes = c.get_mut.follows.lender (record x { is_full = c.args.full }) in
      server_sees {H = g.row.H.Denot} {Job = g.row.H-Job.Denot} hub s old lanes c.args.lane c.args.full h
      (λ k. seen_one old.lanes lanes c.args.lane c.args.full k x c.in-Some.ensures.value (c.get_mut.follows.holds (record x { is_full = c.args.full })))
      stands;
  ended = refl;
}

pub returns-in_default : goal.returns-in_default
returns-in_default g c = record {
  sees = λ s h stands.
      let hub = meaning g.H.Hub.begin_of g.H.Hub.step_of in
      let old = c.args.self.now in
      let lanes = c.get_mut.follows.lender-at-none in
      server_sees {H = g.row.H.Denot} {Job = g.row.H-Job.Denot} hub s old lanes c.args.lane c.args.full h
      (λ k. seen_none old.lanes lanes c.args.lane c.args.full k c.in_default.ensures.value c.get_mut.follows.holds-at-none)
      stands;
  ended = refl;
}
