use Rattle.std.proofs.Common.{rules, subst}
use Rattle.std.proofs.lemmas.Int.{to_z-of_z}
use mir.Syntax.{w128}
use mir.Val.{SFits}
use Rattle.he_end.specs.Says.{Awaits, frame_read}
use Rattle.he_end.proofs.Read.{foreign_read}
use Rattle.he_end.proofs.session.Session.take.Goals as goal

pub returns-in-Unknown-clause-made : goal.returns-in-Unknown-clause-made
returns-in-Unknown-clause-made c cc' k r e a = let fits : SFits w128 c.in-Unknown.n = search rules in
    rw (to_z-of_z w128 c.in-Unknown.n fits) (foreign_read cc' c.args.self.now k c.in-Unknown.n r e (subst (λ m. Awaits cc' k (frame_read m)) c.in-Unknown.is a))
