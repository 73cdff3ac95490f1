use Rattle.std.proofs.Common.{◌∙◌, sym}
use Rattle.std.proofs.lemmas.Result.{err_from_is_err_and}
use Rattle.hd_calls.specs.Peers.{byte_steps}
use Rattle.hp_peer.proofs.Told.{emptied, failed, read_handled, read_unhandled}
use Rattle.hp_peer.proofs.peer.Peer.take_in.Goals as goal

pub returns-in_err-handle-in-Message-clause-refused : goal.returns-in_err-handle-in-Message-clause-refused
returns-in_err-handle-in-Message-clause-refused g c =
    let p = err_from_is_err_and c.from_residual-in_err-handle-in-Message.result c.from_residual-in_err-handle-in-Message.ensures.1 in
    let made = rw c.in-Ok-Some.field-0-is at c.in-Ok-Some.ensures.ok in
    rw (p.1, p.2) (λ t h s.
    read_unhandled {H = g.row.H.Denot} _ t _ h (emptied {H = g.row.H.Denot} _ t c.args.self.now c.take.new.self h s (sym c.take.ensures.value ∙ (c.in_default.is ∙ sym c.take.ensures.after)))
    c.take.ensures.after c.next_in.new.self c.next_in.ensures.limits c.wire_is_sound.ensures c.in-Message.message
    (rw c.in-Message.is at (made t.wire t.config (byte_steps t h) s.end)) _ _ c.in_err-handle-in-Message.ensures.refused)

pub returns-in_ok-handle-in-Message-clause-ok : goal.returns-in_ok-handle-in-Message-clause-ok
returns-in_ok-handle-in-Message-clause-ok g c =
    let made = rw c.in-Ok-Some.field-0-is at c.in-Ok-Some.ensures.ok in
    λ t h s.
    read_handled {H = g.row.H.Denot} _ t _ h (emptied {H = g.row.H.Denot} _ t c.args.self.now c.take.new.self h s (sym c.take.ensures.value ∙ (c.in_default.is ∙ sym c.take.ensures.after)))
    c.take.ensures.after c.next_in.new.self c.next_in.ensures.limits c.wire_is_sound.ensures c.in-Message.message
    (rw c.in-Message.is at (made t.wire t.config (byte_steps t h) s.end)) _ c.args.now _ c.in_ok-handle-in-Message.ensures.ok

pub returns-in-Err-clause-refused : goal.returns-in-Err-clause-refused
returns-in-Err-clause-refused g c = λ t h s.
    rw c.refusal.ensures
    (failed {H = g.row.H.Denot} _ t _ h (emptied {H = g.row.H.Denot} _ t c.args.self.now c.take.new.self h s (sym c.take.ensures.value ∙ (c.in_default.is ∙ sym c.take.ensures.after)))
    c.take.ensures.after c.next_in.new.self c.next_in.ensures.limits c.in-Err.error (c.in-Err.ensures.failed t.wire t.config (byte_steps t h) s.end))
