use Rattle.std.proofs.lemmas.Result.{IfErr-weaker, IfOk-weaker}
use Rattle.hd_calls.specs.Tables.{call_happenings}
use Rattle.hp_peer.proofs.Taken.{item_came, item_strange}
use Rattle.hp_peer.proofs.peer.Peer.bring_item.Goals as goal

pub returns-in-Ok-clause-ok : goal.returns-in-Ok-clause-ok
returns-in-Ok-clause-ok g c = λ now t h s.
    item_came {H = g.row.H.Denot} _ t c.args.self.now c.args.headers c.args.id c.args.item h s c.tables_agree.ensures c.peers_are_bounded.ensures c.requires.none_waits c.ids_are_of_a_side.ensures now c.in-Ok.call
    (c.in-Ok.ensures.ok _ (call_happenings h) s.calls)

pub returns-in-Err-clause-ok : goal.returns-in-Err-clause-ok
returns-in-Err-clause-ok g c = IfOk-weaker c.feed_item.result _ _
    (λ told f now t h s. f t h s
    (item_strange {H = g.row.H.Denot} _ t _ c.args.id c.args.item h s (c.tables_agree.ensures t h).0 c.ids_are_of_a_side.ensures (c.in-Err.ensures.unknown _ (call_happenings h) s.calls)) now)
    c.feed_item.ensures.ok

pub returns-in-Err-clause-refused : goal.returns-in-Err-clause-refused
returns-in-Err-clause-refused g c = IfErr-weaker c.feed_item.result _ _
    (λ e f t h s. f t h s
    (item_strange {H = g.row.H.Denot} _ t _ c.args.id c.args.item h s (c.tables_agree.ensures t h).0 c.ids_are_of_a_side.ensures (c.in-Err.ensures.unknown _ (call_happenings h) s.calls)))
    c.feed_item.ensures.refused
