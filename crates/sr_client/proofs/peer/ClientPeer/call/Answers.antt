use Rattle.std.proofs.Common.{None, refl, subst}
use Rattle.hd_calls.specs.Peers.{Calls, drawn}
use Rattle.hd_calls.specs.Rules.{IsRefusedCall}
use Rattle.hp_peer.specs.Calling.{HasCause}
use Rattle.hd_client.specs.Refusals.{call_refusal, next_call, number_of}
use Rattle.sr_client.proofs.Obeying.{called, declined, same_call}
use Rattle.sr_client.proofs.peer.ClientPeer.call.Goals as goal

pub returns-in_ok-push_called-in-Ok : goal.returns-in_ok-push_called-in-Ok
returns-in_ok-push_called-in-Ok c = λ t h plays uploads.
    called c.reasons_are_computed.ensures t h c.args.self.now (record c.args.self.now { peer = c.call.new.self }) plays refl c.args.kind c.args.target.now
    c.args.arguments.now c.args.uploads c.requires.few c.args.out.now.items c.push_called.new.out.items c.in-Ok.number
    (rw (c.in_ok-copy.ensures, c.in_ok-copy-2.ensures) at (c.in-Ok.ensures.ok t h plays.on.stands)) uploads c.in_ok-push_called-in-Ok.ensures

pub returns-in_ok-did-in-Err : goal.returns-in_ok-did-in-Err
returns-in_ok-did-in-Err c = λ t h plays uploads.
    let asked = next_call t h c.args.kind c.args.target.now c.args.arguments.now c.args.uploads in
    let same = same_call t h c.args.target.now c.args.arguments.now plays.on.stands.names c.args.kind c.args.uploads in
    declined t h c.args.self.now (record c.args.self.now { peer = c.call.new.self }) plays refl (call_refusal t h asked)
    (Calls None (number_of c.args.kind c.args.uploads (drawn h)) asked) c.args.out.now.items c.decline.new.out.items (IsRefusedCall t h asked) c.in-Err.why c.in_ok-did-in-Err.did
    (c.in-Err.ensures.unchanged t h plays.on.stands) uploads
    (subst (λ x. HasCause (IsRefusedCall t h x) c.in-Err.why) same
    (rw (c.in_ok-copy.ensures, c.in_ok-copy-2.ensures) at (c.in-Err.ensures.refused t h plays.on.stands)))
    c.in_ok-did-in-Err.ensures.some ((c.reasons_are_computed.ensures t h).calls asked) c.in_ok-did-in-Err.ensures.declared
