-- What two peers that stand for a run without uploads have called, and what of that is live.
use Rattle.std.proofs.Common.{◌≡◌, List, arith}
use Rattle.std.specs.Prelude.{◌+◌}
use Rattle.hd_delivery.specs.declared.vocabulary.Side.{Side}
use Rattle.hd_delivery.specs.declared.vocabulary.Side.TheVariants.{Client, Server}
use Rattle.hd_delivery.specs.Sides.{history}
use Rattle.hd_calls.specs.Peers.{drawn}
use Rattle.hd_calls.specs.PeerWorlds.{Pair, settings}
use Rattle.hd_calls.specs.Rules.{own_live}
use Rattle.hub_calc.specs.Table.{calc_hub}
use Rattle.hub_calc.specs.Client.{client_hub}
use Rattle.sr_script.specs.declared.action.Action.{Action}
use Rattle.sr_peers.specs.declared.peers.Peers.{Peers}
use Rattle.sr_peers.specs.Runs.{Run, world_of}
use Rattle.sr_peers.specs.Follows.{Follows}
use Rattle.sr_soak.specs.Counts.{HaveNoUploads, calls_in, endings_in, live_in, of_both}
use Rattle.sr_soak.proofs.Counting.{ended_or_live}
use Rattle.sr_soak.proofs.Numbered.{AreBare, drawn_are_calls, live_are_calls}
use Rattle.sr_soak.proofs.Uploads.{run_bare, runs_bare}

module _ (p : Pair) (actions : List Action) (r : Run) (peers : Peers) (follows : Follows p actions r peers) (none : HaveNoUploads actions) where
  bare : (side : Side) → AreBare (history side (world_of r))
  bare side = run_bare side r (runs_bare p actions r none follows.runs)

  pub both_drawn : drawn (history Client (world_of r)) + drawn (history Server (world_of r)) ≡ of_both calls_in (world_of r)
  both_drawn =
      let client = drawn_are_calls (settings Client p) client_hub (history Client (world_of r)) follows.holds.client.plays.stands.follows (bare Client) in
      let server = drawn_are_calls (settings Server p) calc_hub (history Server (world_of r)) follows.holds.server.plays.stands.follows (bare Server) in
      omega (arith, client, server)

  pub both_live : own_live (history Client (world_of r)) + own_live (history Server (world_of r)) ≡ of_both live_in (world_of r)
  both_live =
      let client = live_are_calls (settings Client p) client_hub (history Client (world_of r)) follows.holds.client.plays.stands.follows (bare Client) in
      let server = live_are_calls (settings Server p) calc_hub (history Server (world_of r)) follows.holds.server.plays.stands.follows (bare Server) in
      omega (arith, client, server)

  pub both_settled : of_both calls_in (world_of r) ≡ of_both endings_in (world_of r) + of_both live_in (world_of r)
  both_settled =
      let client = ended_or_live (history Client (world_of r)) in
      let server = ended_or_live (history Server (world_of r)) in
      omega (arith, client, server)
