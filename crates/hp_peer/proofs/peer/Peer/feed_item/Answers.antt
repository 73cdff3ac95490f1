use Rattle.std.proofs.Common.{refl}
use Rattle.hm_message.specs.declared.message.Message.TheVariants.{StreamItem}
use Rattle.hd_calls.specs.Hubs.{Item}
use Rattle.hd_calls.specs.Peers.{byte_steps}
use Rattle.hd_calls.specs.Tables.{job_happenings}
use Rattle.hp_peer.proofs.Taken.{fed, fed_none, flooded, same_value, still}
use Rattle.hp_peer.proofs.peer.Peer.feed_item.Goals as goal

pub returns-in-Ok-item-clause-ok : goal.returns-in-Ok-item-clause-ok
returns-in-Ok-item-clause-ok g c = λ t h s strange now.
    let e = same_value c.values_are_trees.ensures c.in-Ok.copy c.args.item c.in-Ok.ensures in
    fed {H = g.row.H.Denot} _ t c.args.self.now (StreamItem c.args.headers c.args.id c.args.item) c.args.id (Item c.args.item) refl h s (c.tables_agree.ensures t h).1
    c.requires.none_waits strange now _ _ (rw e at (c.in-Ok-item.ensures.ok t.who (job_happenings t h) s.jobs))

pub returns-in-Err-UnknownId-clause-ok : goal.returns-in-Err-UnknownId-clause-ok
returns-in-Err-UnknownId-clause-ok g c = λ t h s strange now.
    fed_none {H = g.row.H.Denot} _ t c.args.self.now (StreamItem c.args.headers c.args.id c.args.item) c.args.id (Item c.args.item) refl h s (c.tables_agree.ensures t h).1
    c.requires.none_waits strange now 0 _ (rw c.in-Err-UnknownId.field-0-is at (c.in-Err-UnknownId.ensures.refused t.who (job_happenings t h) s.jobs))
    (c.in-Err-UnknownId.ensures.unchanged t.who (job_happenings t h) s.jobs)

pub returns-in-Err-Flood-clause-refused : goal.returns-in-Err-Flood-clause-refused
returns-in-Err-Flood-clause-refused g c = λ t h s strange.
    let e = same_value c.values_are_trees.ensures c.in-Ok.copy c.args.item c.in-Ok.ensures in
    let refused = rw c.in-Err-Flood.field-0-is at (c.in-Err-Flood.ensures.refused t.who (job_happenings t h) s.jobs) in
    flooded {H = g.row.H.Denot} _ t c.args.self.now (StreamItem c.args.headers c.args.id c.args.item) c.args.id (Item c.args.item) refl h s (c.tables_agree.ensures t h).1
    c.requires.none_waits strange 0 0 _ (rw e at refused)
    (c.in-Err-Flood.ensures.unchanged t.who (job_happenings t h) s.jobs) _
    (c.close.ensures.live t.wire t.config (byte_steps t h) s.end) (c.close.ensures.closed t.wire t.config (byte_steps t h) s.end) c.close.ensures.limits

pub returns-in-Err-NoMemory-clause-refused : goal.returns-in-Err-NoMemory-clause-refused
returns-in-Err-NoMemory-clause-refused g c = λ t h s strange.
    still {H = g.row.H.Denot} _ t c.args.self.now (StreamItem c.args.headers c.args.id c.args.item) h s _ refl refl
    (c.in-Err-NoMemory.ensures.unchanged t.who (job_happenings t h) s.jobs) refl refl refl
