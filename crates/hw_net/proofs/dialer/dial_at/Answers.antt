use Rattle.std.proofs.Common.{rules, ◌≡◌, ◌∙◌, Some, true, false, sym, ap, get_or, length, ℕ, List}
use Rattle.std.specs.Prelude.{slice_get}
use Rattle.hw_net.specs.Asking.{text_at}
use Rattle.hw_net.specs.Door.{state_of}
use Rattle.hw_net.specs.Saying.{is_too_much}
use Rattle.hw_net.proofs.Dialing.{at-place, past-end, reaches-no-room, reaches-nowhere, reaches-on}
use Rattle.hw_net.proofs.dialer.dial_at.Goals as goal

pub returns-then-place-addresses-clause-dialed : goal.returns-then-place-addresses-clause-dialed
returns-then-place-addresses-clause-dialed g c =
    reaches-nowhere (g.W.Wires.trace c.args.reactor.now.wires) (slice_get c.args.addresses.now c.args.place) c.args.method c.args.target.now c.args.upgrade (state_of c.args.reactor.now)
    (past-end c.args.addresses.now c.args.place (search rules))

pub returns-then-len-gt-MOST_UNWRITTEN-clause-dialed : goal.returns-then-len-gt-MOST_UNWRITTEN-clause-dialed
returns-then-len-gt-MOST_UNWRITTEN-clause-dialed g c =
    let there = c.index-addresses-place.result in
    let is_there : get_or c.args.addresses.now c.args.place there ≡ there = search rules in
    let text : c.in_ok-text.text.items ≡ text_at there c.args.method c.args.target.now c.args.upgrade = search rules in
    let much : is_too_much (length c.in_ok-text.text.items) ≡ true = search rules in
    reaches-no-room (g.W.Wires.trace c.args.reactor.now.wires) (slice_get c.args.addresses.now c.args.place) there c.args.method c.args.target.now c.args.upgrade (state_of c.args.reactor.now)
    (at-place c.args.addresses.now c.args.place there (search rules) ∙ ap Some is_there) (ap (λ (t : List ℕ). is_too_much (length t)) (sym text) ∙ much)

pub returns-clause-dialed : goal.returns-clause-dialed
returns-clause-dialed g c =
    let there = c.index-addresses-place.result in
    let is_there : get_or c.args.addresses.now c.args.place there ≡ there = search rules in
    let text : c.in_ok-text.text.items ≡ text_at there c.args.method c.args.target.now c.args.upgrade = search rules in
    let fits : is_too_much (length c.in_ok-text.text.items) ≡ false = search rules in
    reaches-on c.dial.result (g.W.Wires.trace c.args.reactor.now.wires) (g.W.Wires.trace c.dial.new.self.wires) (slice_get c.args.addresses.now c.args.place) there c.args.method c.args.target.now c.in_ok-text.text.items
    c.args.upgrade (state_of c.args.reactor.now) (state_of c.dial.new.self) (at-place c.args.addresses.now c.args.place there (search rules) ∙ ap Some is_there) text fits c.dial.ensures.dialed
