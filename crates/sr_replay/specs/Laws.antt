-- What holds of runs and of reports.
use Rattle.std.specs.Prelude.{◌≡◌, ◌≢◌, ◌≤◌, ◌<◌, ℕ, true, List, [], Contains}
use Rattle.hd_delivery.specs.declared.vocabulary.Side.{Side}
use Rattle.hd_delivery.specs.declared.vocabulary.Side.TheVariants.{Client, Server}
use Rattle.hd_delivery.specs.Histories as of
use Rattle.hd_delivery.specs.Histories.{was_on}
use Rattle.hd_delivery.specs.Worlds.{alike, Limits, Terms, Event, config, client_of, server_of}
use Rattle.hd_delivery.specs.Bytes.{Wire, IsSoundWire, ByteStep, IsWorldOverBytes}
use Rattle.he_wire.specs.Wires.{IsHouseWire}
use Rattle.he_end.specs.declared.end.End.{End}
use Rattle.he_end.specs.Stands.{Stands, limits_of}
use Rattle.sr_script.specs.declared.action.Action.{Action}
use Rattle.sr_script.specs.declared.action.Action.TheVariants.{Accept}
use Rattle.sr_script.specs.Script.{Program, Parses, AreInTurn, opened, moment_after}
use Rattle.sr_notation.specs.Terms.{limits_in, terms_in}
use Rattle.hd_delivery.specs.Sides.{frames_at}
use Rattle.sr_replay.specs.Runs.{Run, Runs, world_of}
use Rattle.sr_replay.specs.Report.{report_text, IsReportOver, IsReport, IsReportOf}
use Rattle.sr_replay.specs.Trace.{IsTrace, IsTold}

-- ---- runs

-- some actions have one run
abbrev pub RunsOnce : Type 0
RunsOnce = (limits : Limits) (wire : Wire) (t : Terms) (actions : List Action) (r q : Run) → Runs limits wire t actions r → Runs limits wire t actions q → r ≡ q

-- the two ends' world after these actions: its links are those that were opened and accepted, and no moment lies after theirs
pub record IsWorldOf (limits : Limits) (wire : Wire) (t : Terms) (actions : List Action) (w : List (Event ByteStep)) : Type 0 where
  pub world : IsWorldOverBytes (alike limits) wire t w
  pub opened_links : (l : ℕ) → was_on l (frames_at wire t w Client) ≡ true → l < opened actions
  pub accepted_links : (l : ℕ) → was_on l (frames_at wire t w Server) ≡ true → Contains actions (Accept l)
  pub in_time : (side : Side) → of.moment (frames_at wire t w side) ≤ moment_after actions

-- the run of actions in turn is such a world, if the readers are sound
abbrev pub RunsAreWorlds : Type 0
RunsAreWorlds = (limits : Limits) (wire : Wire) (t : Terms) (actions : List Action) (r : Run) → IsSoundWire limits wire → AreInTurn actions
    → Runs limits wire t actions r → IsWorldOf limits wire t actions (world_of r)

-- a script without peers has one report
abbrev pub ReportsOnce : Type 0
ReportsOnce = (p : Program) (x y : List ℕ) → IsReport p x → IsReport p y → x ≡ y

-- and one trace
abbrev pub TracesOnce : Type 0
TracesOnce = (p : Program) (x y : List ℕ) → IsTrace p x → IsTrace p y → x ≡ y

-- its lines tell the world of the script's run, and no other
abbrev pub TracesTell : Type 0
TracesTell = (script : List ℕ) (p : Program) (text : List ℕ) → Parses script p → IsTrace p text
    → (wire : Wire) → IsHouseWire (limits_in p.settings).frame wire → IsTold wire p text

-- a report has a line at least
abbrev pub ReportsHaveLines : Type 0
ReportsHaveLines = (p : Program) (text : List ℕ) → IsReportOf p text → text ≢ []

-- Where these ends stand for a script's run, the text of the run is the script's report over this project's wire.
abbrev pub EndsReport : End → End → Type 0
EndsReport client server = (wire : Wire) (text : List ℕ) (p : Program) (r : Run) → IsHouseWire (limits_in p.settings).frame wire → Parses text p
    → limits_of client ≡ limits_in p.settings → limits_of server ≡ limits_in p.settings → Runs (limits_in p.settings) wire (terms_in p.settings) p.actions r
    → Stands wire (config Client (terms_in p.settings)) client (client_of (world_of r)) → Stands wire (config Server (terms_in p.settings)) server (server_of (world_of r))
    → IsReportOver wire p (report_text (terms_in p.settings) r)
