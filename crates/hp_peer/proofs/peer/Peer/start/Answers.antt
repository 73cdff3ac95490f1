use Rattle.std.proofs.Common.{◌≡◌, ℕ, [], None, refl, subst, rules}
use Rattle.std.specs.Prelude.{nat_eq}
use Rattle.std.specs.HashMap.{get}
use Rattle.hd_calls.specs.Ids.{prefix_of}
use Rattle.hi_calls.specs.Stands as of_calls
use Rattle.hp_peer.proofs.Plain.{starts}
use Rattle.hp_peer.proofs.peer.Peer.start.Goals as goal
use Rattle.hp_peer.proofs.peer.Peer.start.Goals.{in-Client, in-Server}

pub returns-clause-stands : goal.returns-clause-stands
returns-clause-stands g c = λ wire house.
    let prefix : c.match-side.prefix.now ≡ prefix_of c.args.side =
    elim c.match-side.branch [ in-Client w ↦ rw w.in-Client.is (search rules) | in-Server w ↦ rw w.in-Server.is (search rules) ] in
    let none : (n : ℕ) → get nat_eq c.new.result n ≡ None = λ n. rw c.new.ensures.empty refl in
    starts {H = g.row.H.Denot} _ c.args.side c.args.config wire c.args.who _ c.in_ok-start.ensures.limits (c.in_ok-start.ensures.stands wire house)
    (subst (λ p. of_calls.Stands c.in_ok-start-2.field-0 p []) prefix c.in_ok-start-2.ensures.stands) (c.in_ok-start-3.ensures.stands c.args.who) refl refl none
