use Rattle.std.proofs.lemmas.Result.{err_from_is_err_and}
use Rattle.hp_peer.proofs.Asked.{stays_itself, unsent_is}
use Rattle.hp_peer.proofs.peer.Peer.say.Goals as goal

pub returns-then-not-fits-clause-unchanged : goal.returns-then-not-fits-clause-unchanged
returns-then-not-fits-clause-unchanged g c = stays_itself c.args.self.now.end

pub returns-in_err-_number-clause-refused : goal.returns-in_err-_number-clause-refused
returns-in_err-_number-clause-refused g c =
    let p = err_from_is_err_and c.from_residual.result c.from_residual.ensures.1 in
    rw (p.1, p.2) (unsent_is c.args.self.now.end c.send.new.self c.args.message.now _ (c.fits.ensures.0 c.if-not-fits.false) c.in_err-_number.ensures.refused)
