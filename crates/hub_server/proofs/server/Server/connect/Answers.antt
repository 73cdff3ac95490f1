use Rattle.std.proofs.Common.{◌≡◌, Option, Some, None, is_some, option_copied, Bor, refl, sym, ap, ◌∙◌}
use Rattle.std.specs.Prelude.{unwrap_or}
use Rattle.std.specs.Fmt.{decimal}
use Rattle.hj_jobs.specs.Meaning.{meaning}
use Rattle.hub_server.proofs.BeginPeer.{connected, connected_already}
use Rattle.hub_server.proofs.server.Server.connect.Goals as goal

copied : {A : Type 0} (o : Option (Bor A)) → is_some (option_copied o) ≡ is_some o
copied None = refl
copied (Some x) = refl

pub returns-then-is_some : goal.returns-then-is_some
returns-then-is_some g c = record {
  connects = λ s u before h st is known. connected_already {H = g.row.H.Denot} {Job = g.row.H-Job.Denot}
      (meaning g.H.Hub.begin_of g.H.Hub.step_of) s u before
      c.args.self.now c.args.conn c.args.resumable h st is
      (sym (ap (λ o. is_some o) c.peer.ensures) ∙ copied c.peer.result ∙ sym c.is_some.ensures ∙ c.if-is_some.true);
}

pub returns : goal.returns
returns g c = record {
  connects = λ s u before h st is known. connected {H = g.row.H.Denot} {Job = g.row.H-Job.Denot} (meaning g.H.Hub.begin_of g.H.Hub.step_of) s u before
      c.args.self.now c.args.conn c.args.resumable h st is known
      (sym (ap (λ o. is_some o) c.peer.ensures) ∙ copied c.peer.result ∙ sym c.is_some.ensures ∙ c.if-is_some.false)
      c.remove-user.new.self c.remove-user.ensures.updates c.limits.result c.limits.ensures
      (option_copied c.as_ref-2.result) (c.as_ref-2.ensures.value ∙ c.remove-user.ensures.value)
      c.in_ok-who.who (c.in_ok-who.ensures ∙ ap (λ o. unwrap_or o (decimal c.args.conn)) (c.as_ref.ensures.value ∙ sym c.as_ref-2.ensures.value))
      c.connect.new.self c.in_ok-connect.ensures;
}
