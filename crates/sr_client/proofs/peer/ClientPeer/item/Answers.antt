use Rattle.std.proofs.Common.{refl, sym}
use Rattle.std.proofs.lemmas.List.{append-nil}
use Rattle.hd_calls.specs.Hubs.{Item, value_in}
use Rattle.hd_calls.specs.Peers.{Uploads, codec}
use Rattle.hd_calls.specs.Rules.{IsRefusedUpload}
use Rattle.hd_client.specs.Refusals.{upload_refusal}
use Rattle.sr_client.proofs.Obeying.{declined, made, one_value, uploads_made}
use Rattle.sr_client.proofs.peer.ClientPeer.item.Goals as goal

pub returns-in-Ok : goal.returns-in-Ok
returns-in-Ok c = λ t h plays uploads.
    let copied = one_value c.values_are_trees.ensures c.in_ok-copy.field-0 c.args.value.now c.in_ok-copy.ensures in
    let stands = rw copied at (c.in-Ok.ensures.ok t h plays.on.stands) in
    made t h c.args.self.now (record c.args.self.now { peer = c.upload_item.new.self }) plays refl (upload_refusal t h c.args.call 0 (Item (value_in (codec t h) c.args.value.now))) (Uploads c.args.call 0 (Item (value_in (codec t h) c.args.value.now)))
    c.args.out.now.items c.args.out.now.items stands refl refl (uploads_made c.reasons_are_computed.ensures t c.upload_item.new.self h c.args.call 0 (Item (value_in (codec t h) c.args.value.now)) stands) uploads
    (sym (append-nil c.args.out.now.items))

pub returns-in_ok-did-in-Err : goal.returns-in_ok-did-in-Err
returns-in_ok-did-in-Err c = λ t h plays uploads.
    let copied = one_value c.values_are_trees.ensures c.in_ok-copy.field-0 c.args.value.now c.in_ok-copy.ensures in
    declined t h c.args.self.now (record c.args.self.now { peer = c.upload_item.new.self }) plays refl (upload_refusal t h c.args.call 0 (Item (value_in (codec t h) c.args.value.now))) (Uploads c.args.call 0 (Item (value_in (codec t h) c.args.value.now)))
    c.args.out.now.items c.decline.new.out.items (IsRefusedUpload t h c.args.call 0 (Item (value_in (codec t h) c.args.value.now))) c.in-Err.why c.in_ok-did-in-Err.did (c.in-Err.ensures.unchanged t h plays.on.stands) uploads
    (rw copied at (c.in-Err.ensures.refused t h plays.on.stands)) c.in_ok-did-in-Err.ensures.some ((c.reasons_are_computed.ensures t h).uploads c.args.call 0 (Item (value_in (codec t h) c.args.value.now))) c.in_ok-did-in-Err.ensures.declared
