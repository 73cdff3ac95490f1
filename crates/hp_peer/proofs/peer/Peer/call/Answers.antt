use Rattle.std.proofs.Common.{refl}
use Rattle.std.proofs.lemmas.Result.{err_from_is_err_and}
use Rattle.hp_peer.proofs.Asked.{called, uncallable, uncalled, undone, unmoved}
use Rattle.hp_peer.proofs.peer.Peer.call.Goals as goal

pub returns-in_err-number-clause-refused : goal.returns-in_err-number-clause-refused
returns-in_err-number-clause-refused g c =
    let p = err_from_is_err_and c.from_residual.result c.from_residual.ensures.1 in
    rw (p.1, p.2) (λ t h s. uncallable {H = g.row.H.Denot} _ t c.args.self.now h s c.tables_agree.ensures c.ids_are_of_a_side.ensures c.calls_are_made.ensures
    c.args.kind c.args.target c.args.arguments c.args.uploads c.requires.few _ (c.in_err-number.ensures.refused _ _ s.calls))

pub returns-in_err-number-clause-unchanged : goal.returns-in_err-number-clause-unchanged
returns-in_err-number-clause-unchanged g c =
    let p = err_from_is_err_and c.from_residual.result c.from_residual.ensures.1 in
    rw p.1 (λ t h s. unmoved {H = g.row.H.Denot} _ t c.args.self.now h s c.args.self.now.end c.begin.new.self refl s.end (c.in_err-number.ensures.unchanged _ _ s.calls))

pub returns-in-Ok-clause-ok : goal.returns-in-Ok-clause-ok
returns-in-Ok-clause-ok g c = λ t h s.
    let said = c.in-Ok.ensures.ok in
    called {H = g.row.H.Denot} _ t c.args.self.now h s c.tables_agree.ensures c.ids_are_of_a_side.ensures c.calls_are_made.ensures
    c.args.kind c.args.target c.args.arguments c.args.uploads c.requires.few c.begin.new.self _ _ (c.in_ok-number.ensures.ok _ _ s.calls)
    c.say.new.self c.say.ensures.others c.say.ensures.limits said.number said.sends

pub returns-clause-refused : goal.returns-clause-refused
returns-clause-refused g c = λ t h s.
    uncalled {H = g.row.H.Denot} _ t c.args.self.now h s c.tables_agree.ensures c.ids_are_of_a_side.ensures c.calls_are_made.ensures
    c.args.kind c.args.target c.args.arguments c.args.uploads c.requires.few c.begin.new.self _ _ (c.in_ok-number.ensures.ok _ _ s.calls)
    c.message_image_is_as_deep.ensures c.in-Err.error c.in-Err.ensures.refused

pub returns-clause-unchanged : goal.returns-clause-unchanged
returns-clause-unchanged g c = λ t h s.
    undone {H = g.row.H.Denot} _ t c.args.self.now h s c.tables_agree.ensures c.ids_are_of_a_side.ensures c.calls_are_made.ensures
    c.args.kind c.args.target c.args.arguments c.args.uploads c.requires.few c.begin.new.self _ _ (c.in_ok-number.ensures.ok _ _ s.calls)
    c.say.new.self c.say.ensures.others c.say.ensures.limits c.in-Err.ensures.unchanged c.undo.new.self c.undo.ensures.undone
