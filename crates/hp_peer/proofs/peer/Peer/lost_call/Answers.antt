use Rattle.std.proofs.Common.{◌≡◌, inl, refl, sym, subst, rules}
use denote.Enum.Bare.{differs_true, differs_false}
use Rattle.hd_delivery.specs.contracts.vocabulary.State.{the_type}
use Rattle.hd_delivery.specs.declared.vocabulary.State.TheVariants.{Closed}
use Rattle.hd_delivery.specs.Histories.{is_closed, is_shaken, present_link}
use Rattle.hd_calls.specs.Ids.{prefix_of}
use Rattle.hd_calls.specs.Peers.{byte_steps, steps}
use Rattle.hd_calls.specs.Tables.{call_happenings}
use Rattle.hp_peer.specs.Calling.{Loss}
use Rattle.hp_peer.proofs.Losses.{shut, open_still, loses, loses_none}
use Rattle.hp_peer.proofs.peer.Peer.lost_call.Goals as goal

pub returns-then-ne-clause-lost : goal.returns-then-ne-clause-lost
returns-then-ne-clause-lost g c = λ t h s.
    let is = c.state.ensures t.wire t.config (byte_steps t h) s.end in
    let apart : c.state.result ≡ Closed → ⊥ = differs_true the_type _ _ (sym c.if-ne.ensures) in
    (inl (open_still (is_closed t.config (steps t h)) (is_shaken (steps t h)) (present_link (steps t h)) (subst (λ x. x ≡ Closed → ⊥) is apart)), s)

pub returns-in_err-call-clause-lost : goal.returns-in_err-call-clause-lost
returns-in_err-call-clause-lost g c = λ t h s.
    subst (Loss {H = g.row.H.Denot} _ t h (record c.args.self.now { calls = c.lose_next.new.self })) (sym c.from_residual.ensures)
    (loses_none {H = g.row.H.Denot} _ t c.args.self.now h s (c.tables_agree.ensures t h).0 c.lose_next.new.self
    (c.in_err-call.ensures.lost (prefix_of t.config.side) (call_happenings h) s.calls))

pub returns-clause-lost : goal.returns-clause-lost
returns-clause-lost g c = λ t h s.
    let is = c.state.ensures t.wire t.config (byte_steps t h) s.end in
    let same : c.state.result ≡ Closed = differs_false the_type (search rules) _ _ (sym c.if-ne.ensures) in
    loses {H = g.row.H.Denot} _ t c.args.self.now h s (c.tables_agree.ensures t h).0 c.in_ok-call.call
    (record c.args.self.now { calls = c.lose_next.new.self; jobs_by_call = c.swap_remove-asker.new.self }) refl
    (shut (is_closed t.config (steps t h)) (is_shaken (steps t h)) (present_link (steps t h)) (subst (λ x. x ≡ Closed) is same))
    (c.in_ok-call.ensures.lost (prefix_of t.config.side) (call_happenings h) s.calls) c.swap_remove-asker.ensures.updates.0
