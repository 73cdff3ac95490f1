use Rattle.std.proofs.Common.{refl, sym}
use Rattle.std.proofs.lemmas.List.{append-nil}
use Rattle.hd_calls.specs.Peers.{Cancels}
use Rattle.hd_calls.specs.Rules.{IsRefusedCancel}
use Rattle.hd_client.specs.Refusals.{cancel_refusal}
use Rattle.sr_client.proofs.Obeying.{declined, made, cancels_made}
use Rattle.sr_client.proofs.peer.ClientPeer.cancel.Goals as goal

pub returns-in-Ok : goal.returns-in-Ok
returns-in-Ok c = λ t h plays uploads.
    let stands = c.in-Ok.ensures.ok t h plays.on.stands in
    made t h c.args.self.now (record c.args.self.now { peer = c.cancel.new.self }) plays refl (cancel_refusal t h c.args.call) (Cancels c.args.call)
    c.args.out.now.items c.args.out.now.items stands refl refl (cancels_made c.reasons_are_computed.ensures t c.cancel.new.self h c.args.call stands) uploads
    (sym (append-nil c.args.out.now.items))

pub returns-in_ok-did-in-Err : goal.returns-in_ok-did-in-Err
returns-in_ok-did-in-Err c = λ t h plays uploads.
    declined t h c.args.self.now (record c.args.self.now { peer = c.cancel.new.self }) plays refl (cancel_refusal t h c.args.call) (Cancels c.args.call)
    c.args.out.now.items c.decline.new.out.items (IsRefusedCancel t h c.args.call) c.in-Err.why c.in_ok-did-in-Err.did (c.in-Err.ensures.unchanged t h plays.on.stands) uploads
    (c.in-Err.ensures.refused t h plays.on.stands) c.in_ok-did-in-Err.ensures.some ((c.reasons_are_computed.ensures t h).cancels c.args.call) c.in_ok-did-in-Err.ensures.declared
