use Rattle.std.proofs.Common.{arith, ◌∙◌}
use Rattle.sr_soak.proofs.Settled.{both_drawn, both_live, both_settled}
use Rattle.sr_soak.proofs.soaking.totals.Goals as goal

pub returns : goal.returns
returns c p actions r follows none =
    let calls = c.drawn-calls.ensures p actions r follows ∙ both_drawn p actions r c.args.peers.now follows none in
    let live = c.live-live.ensures p actions r follows ∙ both_live p actions r c.args.peers.now follows none in
    let settled = both_settled p actions r c.args.peers.now follows none in
    record {
      calls = calls;
      endings = c.saturating_sub.ensures ∙ omega (arith, calls, live, settled);
      live = live;
      links_are = c.links.ensures p actions r follows;
      ended_or_live = omega (arith, calls, live, settled, c.saturating_sub.ensures);
    }
