-- The text that is reported of a run, and what is promised of it.
use Rattle.std.specs.Prelude.{◌≡◌, ℕ, Bool, true, false, List, [], ◌∷◌, ◌++◌, codes}
use Rattle.hd_facts.specs.Unique.{IsTheOne}
use Rattle.hd_delivery.specs.declared.vocabulary.Side.{Side}
use Rattle.hd_delivery.specs.declared.vocabulary.Side.TheVariants.{Client, Server}
use Rattle.hd_delivery.specs.Histories.{EndEvent}
use Rattle.hd_delivery.specs.Worlds.{alike, Terms, config, ByClient, ByServer}
use Rattle.hd_delivery.specs.Bytes.{Wire, Does, bare_steps, IsWorldOverBytes, DeliveryOverBytes}
use Rattle.he_wire.specs.Wires.{IsHouseWire}
use Rattle.sr_script.specs.Script.{Program}
use Rattle.sr_notation.specs.Words.{line_at}
use Rattle.sr_lines.specs.Lines.{step_text, standing_text}
use Rattle.sr_replay.specs.Runs.{Doing, Makes, Refuses, Run, Runs, world_of}
use Rattle.hd_delivery.specs.Sides.{history}
use Rattle.sr_notation.specs.Terms.{limits_in, peers_in, terms_in}
use Rattle.sr_peers.specs.Report as of_peers

-- the line of what an end did
abbrev pub doing_text : Side → List EndEvent → Doing → List ℕ
doing_text side k (Makes (Does s)) = step_text side k s
doing_text side k (Makes _) = []
doing_text side k (Refuses words) = line_at side (codes "refused " ++ words)

-- the lines of a run, in the order in which things happened
abbrev pub run_text : Run → List ℕ
run_text [] = []
run_text (ByClient d ∷ r) = run_text r ++ doing_text Client (bare_steps (history Client (world_of r))) d
run_text (ByServer d ∷ r) = run_text r ++ doing_text Server (bare_steps (history Server (world_of r))) d

-- the whole report of a run
abbrev pub report_text : Terms → Run → List ℕ
report_text t r = run_text r ++ (standing_text Client (config Client t) (bare_steps (history Client (world_of r)))
    ++ standing_text Server (config Server t) (bare_steps (history Server (world_of r))))

-- The text is the report of the one run that the program's actions make. The steps of this run are a world of two ends, so what each has processed
-- is a first part of what the other sent, no frame is refused and only duplicates are passed over, no more is acknowledged than was processed, and
-- all has arrived once both ends are still.
pub record IsReportOver (wire : Wire) (p : Program) (text : List ℕ) : Type 0 where
  pub run : Run
  pub runs : IsTheOne (Runs (limits_in p.settings) wire (terms_in p.settings) p.actions) run
  pub world : IsWorldOverBytes (alike (limits_in p.settings)) wire (terms_in p.settings) (world_of run)
  pub delivers : DeliveryOverBytes wire (terms_in p.settings) (world_of run)
  pub text_is : text ≡ report_text (terms_in p.settings) run

-- so it is over each wire of this project, of which there is one for every limit (`he_wire::has_wire`)
abbrev pub IsReport : Program → List ℕ → Type 0
IsReport p text = (wire : Wire) → IsHouseWire (limits_in p.settings).frame wire → IsReportOver wire p text

-- What is put for a program is its report. That a program with peers has one report alone isn't claimed.
abbrev pub IsReportBy : Bool → Program → List ℕ → Type 0
IsReportBy true p text = of_peers.IsReport p text
IsReportBy false p text = IsTheOne (IsReport p) text

-- so it is with peers, if the program's options say so
abbrev pub IsReportOf : Program → List ℕ → Type 0
IsReportOf p text = IsReportBy (peers_in p.settings) p text
