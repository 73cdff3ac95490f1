use Rattle.std.proofs.Common.{◌≡◌, []}
use Rattle.hj_jobs.specs.Meaning.{meaning}
use Rattle.hp_peer.specs.Stands.{OfEach}
use Rattle.hub_machine.proofs.SaysSome.{HasLentUpTo}
use Rattle.hub_machine.proofs.peer_traffic.say_body.Given as goal

abbrev pub invariant-loop-said : goal.invariant-loop-said
invariant-loop-said g l = OfEach {H = g.row.H.Denot} (meaning g.H.Hub.begin_of g.H.Hub.step_of) l.fn.peer (λ t h. l.fn.body.items ≡ [] →
    HasLentUpTo {H = g.row.H.Denot} (meaning g.H.Hub.begin_of g.H.Hub.step_of) t h l.peer l.any l.body.items l._said)
