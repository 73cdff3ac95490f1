use Rattle.std.proofs.Common.{refl, sym}
use Rattle.std.proofs.lemmas.List.{append-nil}
use Rattle.hm_message.specs.declared.message.Ending.TheVariants.{Void}
use Rattle.hd_calls.specs.Hubs.{End}
use Rattle.hd_calls.specs.Peers.{Uploads}
use Rattle.hd_calls.specs.Rules.{IsRefusedUpload}
use Rattle.hd_client.specs.Refusals.{upload_refusal}
use Rattle.sr_client.proofs.Obeying.{declined, made, uploads_made}
use Rattle.sr_client.proofs.peer.ClientPeer.done.Goals as goal

pub returns-in-Ok : goal.returns-in-Ok
returns-in-Ok c = λ t h plays uploads.
    let stands = c.in-Ok.ensures.ok t h plays.on.stands in
    made t h c.args.self.now (record c.args.self.now { peer = c.upload_end.new.self }) plays refl (upload_refusal t h c.args.call 0 (End Void)) (Uploads c.args.call 0 (End Void))
    c.args.out.now.items c.args.out.now.items stands refl refl (uploads_made c.reasons_are_computed.ensures t c.upload_end.new.self h c.args.call 0 (End Void) stands) uploads
    (sym (append-nil c.args.out.now.items))

pub returns-in_ok-did-in-Err : goal.returns-in_ok-did-in-Err
returns-in_ok-did-in-Err c = λ t h plays uploads.
    declined t h c.args.self.now (record c.args.self.now { peer = c.upload_end.new.self }) plays refl (upload_refusal t h c.args.call 0 (End Void)) (Uploads c.args.call 0 (End Void))
    c.args.out.now.items c.decline.new.out.items (IsRefusedUpload t h c.args.call 0 (End Void)) c.in-Err.why c.in_ok-did-in-Err.did (c.in-Err.ensures.unchanged t h plays.on.stands) uploads
    (c.in-Err.ensures.refused t h plays.on.stands) c.in_ok-did-in-Err.ensures.some ((c.reasons_are_computed.ensures t h).uploads c.args.call 0 (End Void)) c.in_ok-did-in-Err.ensures.declared
