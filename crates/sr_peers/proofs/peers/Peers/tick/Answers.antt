use Rattle.std.proofs.Common.{refl}
use Rattle.sr_peers.proofs.Seats.{on_both}
use Rattle.sr_peers.proofs.Leaving.{both_tick}
use Rattle.sr_peers.proofs.peers.Peers.tick.Goals as goal

pub returns : goal.returns
returns c =
    let old = c.args.self.now in
    let mid = record old { client = c.tick.new.party; lanes = c.tick.new.lanes; now = c.args.now } in
    let new = record mid { server = c.tick-2.new.party; lanes = c.tick-2.new.lanes } in
    on_both c.tick-2.result
    (λ server_ticks forgot. both_tick c.what_is_lent_goes_on.ensures old mid new c.args.now c.args.report.now.items c.tick.new.report.items c.tick-2.new.report.items refl refl refl refl
    c.in_ok-tick.ensures.lanes forgot c.in_ok-tick.ensures.ticks server_ticks) c.tick-2.ensures.ticks c.tick-2.ensures.lanes
