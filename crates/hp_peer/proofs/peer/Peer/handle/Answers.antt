use Rattle.std.proofs.lemmas.Result.{IfErr-weaker, IfOk-weaker}
use Rattle.hp_peer.proofs.Told.{begins, waits_counted}
use Rattle.hp_peer.proofs.peer.Peer.handle.Goals as goal

pub returns-in_default : goal.returns-in_default
returns-in_default g c = record {
  ok = IfOk-weaker c.begin.result _ _
      (λ told f t h s.
      let b = begins c.args.message (waits_counted {H = g.row.H.Denot} _ t c.args.self.now c.args.message h s)
      c.in_default.not-StreamItem c.in_default.not-Completion c.in_default.not-CancelInvocation in
      f b.0 b.1 t h s)
      c.begin.ensures.ok;
  refused = IfErr-weaker c.begin.result _ _
      (λ e f t h s.
      let b = begins c.args.message (waits_counted {H = g.row.H.Denot} _ t c.args.self.now c.args.message h s)
      c.in_default.not-StreamItem c.in_default.not-Completion c.in_default.not-CancelInvocation in
      f b.0 b.1 t h s)
      c.begin.ensures.refused;
  turns = c.begin.ensures.turns;
  whole = c.begin.ensures.whole;
}
