use Rattle.std.proofs.Common.{refl}
use Rattle.sr_client.proofs.Keeping.{on_ok, works_gone}
use Rattle.sr_client.proofs.Parts.{played}
use Rattle.sr_client.proofs.client.Client.tell_gone.Goals as goal

pub returns-in-Some-clause-gone : goal.returns-in-Some-clause-gone
returns-in-Some-clause-gone c =
    on_ok c.tell_gone.result
    (λ goes s b h x.
    works_gone s b c.args.self.now c.args.words.now (record c.args.words.now { printed = c.tell_gone.new.out }) h c.tell_gone.new.self c.in-Some.peer x
    (played _ c.args.self.now.peer c.in-Some.peer _ _ x.standing.plays c.in-Some.is) goes refl refl) c.tell_gone.ensures
