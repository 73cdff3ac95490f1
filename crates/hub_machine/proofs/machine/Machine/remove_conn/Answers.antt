use Rattle.std.proofs.Common.{arith, ◌≡◌, ◌==◌, true, false, None, is_some, sym, ap, ◌∙◌}
use Rattle.std.proofs.lemmas.Bool.{cond-false}
use Rattle.hj_jobs.specs.Meaning.{meaning}
use Rattle.hub_machine.specs.Machines.{idle_peer_at}
use Rattle.hub_machine.proofs.Ends.{apart}
use Rattle.hub_machine.proofs.BegunGone.{goes, has_peer}
use Rattle.hub_machine.proofs.machine.Machine.remove_conn.Goals as goal

pub returns-then-not-contains_key-clause-gone : goal.returns-then-not-contains_key-clause-gone
returns-then-not-contains_key-clause-gone g c w t s there =
    let hub = meaning g.H.Hub.begin_of g.H.Hub.step_of in
    absurd (has_peer {H = g.row.H.Denot} {Job = g.row.H-Job.Denot} hub c.args.self.now w c.args.conn t s there
    (sym c.if-not-contains_key.true ∙ c.contains_key.ensures))

pub returns-clause-gone : goal.returns-clause-gone
returns-clause-gone g c w t s there =
    let hub = meaning g.H.Hub.begin_of g.H.Hub.step_of in
    goes {H = g.row.H.Denot} {Job = g.row.H-Job.Denot} hub c.args.self.now
    (record c.args.self.now { peers = c.remove.new.self; registry = c.gone.new.self; idle_set = c.forget.new.self }) w c.args.conn t s there c.remove.ensures.updates
    (let l = c.remove.ensures.len in omega (arith, l)) c.forget.ensures.kept c.gone.ensures

pub returns-clause-none : goal.returns-clause-none
returns-clause-none g c none =
    absurd (let z : true ≡ false = sym c.if-not-contains_key.false ∙ c.contains_key.ensures ∙ ap is_some none in cc)

pub returns-clause-keeps : goal.returns-clause-keeps
returns-clause-keeps g c = record {
  clock = c.forget.ensures.clock;
  peers = λ k e. c.remove.ensures.updates.2 k (apart c.args.conn k e);
  idle_peers = λ k e. c.forget.ensures.idle_peers k
      ∙ cond-false (c.args.conn == k) None (idle_peer_at {H = g.row.H.Denot} {Job = g.row.H-Job.Denot} c.args.self.now k) e;
}
