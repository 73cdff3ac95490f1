use Rattle.std.proofs.Common.{◌≡◌, ◌<◌, ◌++◌, ℕ, Bool, true, false, List, [], ◌∷◌, length, sym, ◌∙◌, ap, arith, length-append}
use Rattle.std.specs.Prelude.{codes}
use Rattle.std.specs.Fmt.{decimal}
use Rattle.hd_delivery.specs.declared.vocabulary.Side.TheVariants.{Client, Server}
use Rattle.hd_delivery.specs.declared.vocabulary.Side.{Side}
use Rattle.hd_delivery.specs.declared.vocabulary.State.{State}
use Rattle.hd_delivery.specs.Histories as of
use Rattle.hd_delivery.specs.Histories.{EndEvent, sent_messages, processed_messages, held_messages, state}
use Rattle.hd_delivery.specs.Worlds.{config}
use Rattle.hd_delivery.specs.Bytes.{Wire, bare_steps}
use Rattle.he_wire.specs.Laws.{HasWire}
use Rattle.sr_script.specs.Script.{Program}
use Rattle.sr_notation.specs.Terms.{limits_in, peers_in, terms_in}
use Rattle.sr_replay.specs.Runs.{world_of}
use Rattle.hd_delivery.specs.Sides.{history}
use Rattle.sr_replay.specs.Report.{run_text, IsReportOver, IsReportBy}
use Rattle.sr_peers.specs.Report as of_peers
use Rattle.sr_peers.specs.Runs as peer_runs
use Rattle.sr_notation.specs.Words.{line}
use Rattle.sr_lines.specs.Lines.{side_word, state_word, standing_line, standing_text}
use Rattle.sr_replay.proofs.laws.reports_have_lines.Goals as goal

line_is_some : (words : List ℕ) → 0 < length (line words)
line_is_some words = omega (arith, length-append words (10 ∷ []))

line_of_end : (side : Side) (s : State) (sent processed held : ℕ) → 0 < length (standing_line side s sent processed held)
line_of_end side s sent processed held =
    line_is_some (side_word side ++ (codes " " ++ (state_word s ++ (codes " sent " ++ (decimal sent
    ++ (codes " processed " ++ (decimal processed ++ (codes " held " ++ decimal held))))))))

standing_is_some : (side : Side) (c : of.Config) (k : List EndEvent) → 0 < length (standing_text side c k)
standing_is_some side c k = line_of_end side (state c k) (length (sent_messages k)) (length (processed_messages k)) (length (held_messages c k))

-- a text in which a line stands is some
some_text : (front some more text : List ℕ) → 0 < length some → text ≡ front ++ (some ++ more) → text ≡ [] → ⊥
some_text front some more text is_some is e = omega (arith, is_some, ap length (sym is ∙ e), length-append front (some ++ more), length-append some more)

of_ends : (wire : Wire) (p : Program) (text : List ℕ) → IsReportOver wire p text → text ≡ [] → ⊥
of_ends wire p text over =
    let c = config Client (terms_in p.settings) in
    let s = config Server (terms_in p.settings) in
    let k = bare_steps (history Client (world_of over.run)) in
    some_text (run_text over.run) (standing_text Client c k) (standing_text Server s (bare_steps (history Server (world_of over.run)))) text (standing_is_some Client c k) over.text_is

of_two_peers : (wire : Wire) (p : Program) (text : List ℕ) → of_peers.IsReportOver wire p text → text ≡ [] → ⊥
of_two_peers wire p text over =
    let pair = of_peers.pair_in wire p in
    let c = config Client pair.terms in
    let s = config Server pair.terms in
    let w = peer_runs.world_of over.run in
    let k = peer_runs.steps_at pair w Client in
    some_text over.lines (standing_text Client c k) (standing_text Server s (peer_runs.steps_at pair w Server)) text (standing_is_some Client c k) over.text_is

lines_of : HasWire → (peers : Bool) (p : Program) (text : List ℕ) → IsReportBy peers p text → text ≡ [] → ⊥
lines_of has true p text is = (let house = has (limits_in p.settings).frame in of_two_peers house.0 p text (is house.0 house.1))
lines_of has false p text is = (let house = has (limits_in p.settings).frame in of_ends house.0 p text (is.holds house.0 house.1))

pub returns : goal.returns
returns c p text is = lines_of c.has_wire.ensures (peers_in p.settings) p text is
