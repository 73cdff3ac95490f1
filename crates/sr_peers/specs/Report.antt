-- The text that is reported of a script with peers, and what is promised of it.
use Rattle.std.specs.Prelude.{◌≡◌, ℕ, List, [], ◌++◌}
use Rattle.hd_delivery.specs.declared.vocabulary.Side.TheVariants.{Client, Server}
use Rattle.hd_delivery.specs.Worlds.{Event, config}
use Rattle.hd_delivery.specs.Bytes.{Wire, DeliveryOverBytes}
use Rattle.he_wire.specs.Wires.{IsHouseWire}
use Rattle.hd_calls.specs.Peers.{PeerEvent}
use Rattle.hd_calls.specs.PeerWorlds.{Pair, BothOnce, IsPeerWorld, ends}
use Rattle.hp_peer.specs.Laws.{AllEnd}
use Rattle.hub_calc.specs.Table.{calc_hub}
use Rattle.hub_calc.specs.Client.{client_hub}
use Rattle.sr_script.specs.declared.action.Action.{Action}
use Rattle.sr_script.specs.Script.{Program}
use Rattle.sr_notation.specs.Terms.{limits_in, terms_in}
use Rattle.sr_lines.specs.Lines.{standing_text}
use Rattle.sr_peers.specs.Runs.{Run, Runs, TellsRun, pair_of, steps_at, world_of}

-- the run of these actions, whose moves are a world of two peers: the client's hub answers a client's calls, and the server's is the calculator
pub record IsRunOf (p : Pair) (actions : List Action) (r : Run) : Type 0 where
  pub runs : Runs p actions r
  pub world : IsPeerWorld client_hub calc_hub p (world_of r)

-- It is such a run. In it each end has processed a first part of what the other sent, and each call that was processed begins one job, but for one that waits
-- or that closed the end. Of what its job answers a caller is given a first part: all of it, with one ending, once nothing is left to do.
pub record IsOnce (p : Pair) (actions : List Action) (r : Run) : Type 0 where
  pub is_run : IsRunOf p actions r
  pub delivers : DeliveryOverBytes p.wire p.terms (ends p (world_of r))
  pub once : BothOnce client_hub calc_hub p (world_of r)
  pub ended : AllEnd p (world_of r)

-- the two lines of how both ends stand
abbrev pub standing_lines : Pair → List (Event PeerEvent) → List ℕ
standing_lines p w = standing_text Client (config Client p.terms) (steps_at p w Client) ++ standing_text Server (config Server p.terms) (steps_at p w Server)

-- two peers as the options of a script say
abbrev pub pair_in : Wire → Program → Pair
pair_in wire p = pair_of (limits_in p.settings) wire (terms_in p.settings)

-- The text is the report of such a run of the program's actions: its lines, and then how both ends stand.
pub record IsReportOver (wire : Wire) (p : Program) (text : List ℕ) : Type 0 where
  pub run : Run
  pub once : IsOnce (pair_in wire p) p.actions run
  pub lines : List ℕ
  pub told : TellsRun (pair_in wire p) [] run lines
  pub text_is : text ≡ lines ++ standing_lines (pair_in wire p) (world_of run)

-- so it is over each wire of this project, of which there is one for every limit (`he_wire::has_wire`)
abbrev pub IsReport : Program → List ℕ → Type 0
IsReport p text = (wire : Wire) → IsHouseWire (limits_in p.settings).frame wire → IsReportOver wire p text
