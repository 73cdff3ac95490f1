use Rattle.std.proofs.Common.{length, sym, ◌∙◌, arith}
use Rattle.std.proofs.lemmas.Bool.{lt-leb}
use Rattle.hd_server.specs.Lives.{live}
use Rattle.hn_server_front.proofs.Forgotten.{live_few}
use Rattle.hn_server_front.proofs.front.Front.is_full.Goals as goal

pub returns-else-there-most : goal.returns-else-there-most
returns-else-there-most c = λ h stands.
    let few = live_few c.args.self.now h c.args.now stands in
    let most = c.most-most.ensures.value in
    lt-leb c.most-most.result c.len-there.result (omega arith)
    ∙ sym (lt-leb c.args.self.now.live (length (live c.args.now h)) (omega (arith, few, most, c.len-there.ensures.len)))
