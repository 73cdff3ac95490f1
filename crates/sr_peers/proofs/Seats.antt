-- What holds alike of a replay's client and of its server.
use Rattle.std.proofs.Common.{◌≡◌, List, ◌++◌, map, Result, Ok, Err}
use Rattle.std.specs.Prelude.{OnOk}
use Rattle.hd_delivery.specs.declared.vocabulary.Side.{Side}
use Rattle.hd_delivery.specs.declared.vocabulary.Side.TheVariants.{Client, Server}
use Rattle.hd_delivery.specs.Worlds.{Event}
use Rattle.hd_delivery.specs.Sides.{by, history}
use Rattle.hd_calls.specs.Hubs.{Hub}
use Rattle.hd_calls.specs.Peers.{PeerEvent}
use Rattle.hd_calls.specs.PeerWorlds.{Pair, settings}
use Rattle.hub_calc.specs.Table.{Plan, calc_hub}
use Rattle.hub_calc.specs.Client.{client_hub}
use Rattle.hm_message.specs.declared.message.Ending.{Ending}
use Rattle.hub_calc.specs.declared.client.ClientHub.{ClientHub}
use Rattle.hub_calc.specs.declared.calc.CalcHub.{CalcHub}
use Rattle.sr_script.specs.declared.action.Action.{Action}
use Rattle.sr_script.specs.Script.{moment_after}
use Rattle.sr_peers.specs.declared.party.Party.{Party}
use Rattle.sr_peers.specs.declared.peers.Peers.{Peers}
use Rattle.sr_peers.specs.Grows.{KeepToTheirSide}
use Rattle.sr_peers.specs.Laws.{LentGoesOn}
use Rattle.sr_peers.specs.Plays.{Plays}
use Rattle.sr_peers.specs.Follows.{Holds, IsPlayed}
use Rattle.sr_peers.proofs.Timely.{AreInTime}
use Rattle.sr_peers.proofs.Around.{GoBeyond, LanesStay}
use Rattle.sr_peers.proofs.Steps.{client_goes_on, server_goes_on}

-- what follows at Ok from two things that hold there
pub on_both : {A E P Q R : Type 0} (result : Result A E) → (P → Q → R) → OnOk result P → OnOk result Q → OnOk result R
on_both (Ok a) f p q = f p q
on_both (Err e) f p q = tt

-- the peer of this side among the two
pub record Seat (side : Side) : Type 1 where
  pub H : Type 0
  pub Job : Type 0
  pub hub : Hub Job
  pub at : Peers → Party H Job
  pub Alike : Peers → Peers → Type 0  -- the other peer is as it was
  pub played : (p : Pair) (actions : List Action) (w : List (Event PeerEvent)) (x : Peers) → Holds p actions w x → IsPlayed hub (settings side p) (at x) (history side w)
  pub goes_on : (lent : LentGoesOn) (p : Pair) (before actions : List Action) (w : List (Event PeerEvent)) (old new : Peers) (ds : List PeerEvent) → Holds p before w old
      → KeepToTheirSide ds → AreInTime (moment_after actions) ds → GoBeyond before actions → new.now ≡ moment_after actions
      → Plays hub (settings side p) (at new) (ds ++ history side w) → Alike old new
      → LanesStay p (map (by side) ds ++ w) old.lanes.items new.lanes.items → Holds p actions (map (by side) ds ++ w) new

abbrev pub the_client : Seat Client
the_client = record {
  H = ClientHub;
  Job = Ending;
  hub = client_hub;
  at = λ x. x.client;
  Alike = λ old new. new.server ≡ old.server;
  played = λ p actions w x holds. holds.client;
  goes_on = λ lent p before actions w old new ds. client_goes_on lent p before actions w old new ds;
}

abbrev pub the_server : Seat Server
the_server = record {
  H = CalcHub;
  Job = Plan;
  hub = calc_hub;
  at = λ x. x.server;
  Alike = λ old new. new.client ≡ old.client;
  played = λ p actions w x holds. holds.server;
  goes_on = λ lent p before actions w old new ds. server_goes_on lent p before actions w old new ds;
}
