-- How both ends of a replay stand, and what is promised of the report.
use Rattle.std.proofs.Common.{◌≡◌, ℕ, List, [], ◌++◌, refl, sym, ap, ◌∙◌, subst, append_assoc, length}
use Rattle.hd_delivery.specs.declared.vocabulary.Side.{Side}
use Rattle.hd_delivery.specs.declared.vocabulary.Side.TheVariants.{Client, Server}
use Rattle.hd_delivery.specs.declared.vocabulary.State.{State}
use Rattle.hd_delivery.specs.Histories as of
use Rattle.hd_delivery.specs.Histories.{sent_messages, processed_messages, held_messages}
use Rattle.hd_delivery.specs.Bytes.{Wire, ByteStep, in_frames}
use Rattle.hd_delivery.specs.Worlds.{config}
use Rattle.hd_delivery.specs.Sides.{history}
use Rattle.he_end.specs.declared.end.End.{End}
use Rattle.he_end.specs.Stands as of_end
use Rattle.hd_calls.specs.Hubs.{Hub}
use Rattle.hd_calls.specs.Peers.{byte_steps, steps}
use Rattle.hd_calls.specs.PeerWorlds.{Pair, settings}
use Rattle.hp_peer.specs.Laws.{CallOnce}
use Rattle.hub_calc.specs.Table.{calc_hub}
use Rattle.hub_calc.specs.Client.{client_hub}
use Rattle.sr_script.specs.declared.action.Action.{Action}
use Rattle.sr_script.specs.Script.{Program}
use Rattle.sr_lines.specs.Lines.{standing_line, standing_text}
use Rattle.sr_peers.specs.declared.party.Party.{Party}
use Rattle.sr_peers.specs.declared.peers.Peers.{Peers}
use Rattle.sr_peers.specs.Plays.{OfEach}
use Rattle.sr_peers.specs.Runs.{Run, TellsRun, steps_at, world_of}
use Rattle.sr_peers.specs.Follows.{Follows}
use Rattle.sr_peers.specs.Report.{IsOnce, IsReportOver, pair_in, standing_lines}

-- of every history for which the end stands
abbrev OfEnd : End → (Wire → of.Config → List ByteStep → Type 0) → Type 0
OfEnd end Holds = (wire : Wire) (c : of.Config) (h : List ByteStep) → of_end.Stands wire c end h → Holds wire c h

-- the line of an end
pub end_told : {H Job : Type 0} (hub : Hub Job) (party : Party H Job) (end : End) (side : Side) (state : State) (sent processed held : ℕ) (before after : List ℕ)
    → end ≡ party.peer.end → OfEnd end (λ wire c h. state ≡ of.state c (in_frames wire c h)) → OfEnd end (λ wire c h. sent ≡ length (sent_messages (in_frames wire c h)))
    → OfEnd end (λ wire c h. processed ≡ length (processed_messages (in_frames wire c h))) → OfEnd end (λ wire c h. held ≡ length (held_messages c (in_frames wire c h)))
    → after ≡ before ++ standing_line side state sent processed held → OfEach hub party (λ t h. after ≡ before ++ standing_text side t.config (steps t h))
end_told hub party end side state sent processed held before after end_is state_is sent_is processed_is held_is is t h plays =
    let stands = subst (λ e. of_end.Stands t.wire t.config e (byte_steps t h)) (sym end_is) plays.stands.end in
    let x = byte_steps t h in
    is ∙ ap (λ s. before ++ standing_line side s sent processed held) (state_is t.wire t.config x stands)
    ∙ ap (λ n. before ++ standing_line side (of.state t.config (steps t h)) n processed held) (sent_is t.wire t.config x stands)
    ∙ ap (λ n. before ++ standing_line side (of.state t.config (steps t h)) (length (sent_messages (steps t h))) n held) (processed_is t.wire t.config x stands)
    ∙ ap (λ n. before ++ standing_line side (of.state t.config (steps t h)) (length (sent_messages (steps t h))) (length (processed_messages (steps t h))) n)
    (held_is t.wire t.config x stands)

-- the lines of both
both_told : (peers : Peers) (before between after : List ℕ) → OfEach client_hub peers.client (λ t h. between ≡ before ++ standing_text Client t.config (steps t h))
    → OfEach calc_hub peers.server (λ t h. after ≡ between ++ standing_text Server t.config (steps t h))
    → (p : Pair) (actions : List Action) (r : Run) → Follows p actions r peers → after ≡ before ++ standing_lines p (world_of r)
both_told peers before between after client server p actions r follows =
    let w = world_of r in
    let c = client (settings Client p) (history Client w) follows.holds.client.plays in
    let s = server (settings Server p) (history Server w) follows.holds.server.plays in
    let client_text = standing_text Client (config Client p.terms) (steps_at p w Client) in
    let server_text = standing_text Server (config Server p.terms) (steps_at p w Server) in
    s ∙ (ap (λ x. x ++ server_text) c ∙ append_assoc before client_text server_text)

-- in the run that two peers stand for calls are carried out once
pub follows_once : (peers : Peers) → CallOnce client_hub calc_hub peers.client.peer peers.server.peer → (p : Pair) (actions : List Action) (r : Run)
    → Follows p actions r peers → IsOnce p actions r
follows_once peers once p actions r follows =
    let holds = follows.holds in
    let client = holds.client.plays.stands in
    let server = holds.server.plays.stands in
    let both = once p (world_of r)
    (record { version = follows.version; world = holds.is_world.world; client_stands = client; server_stands = server }) in record {
      is_run = record {
        runs = follows.runs;
        world = record {
          is_world = holds.is_world.world;
          client_follows = client.follows;
          server_follows = server.follows;
          client_prompt = client.prompt;
          server_prompt = server.prompt;
        };
      };
      delivers = both.0;
      once = both.1;
      ended = both.2;
    }

-- and of a script it has its report
reported : (peers : Peers) → CallOnce client_hub calc_hub peers.client.peer peers.server.peer → (wire : Wire) (p : Program) (r : Run) (lines : List ℕ)
    → Follows (pair_in wire p) p.actions r peers → TellsRun (pair_in wire p) [] r lines → IsReportOver wire p (lines ++ standing_lines (pair_in wire p) (world_of r))
reported peers once wire p r lines follows told =
    record { run = r; once = follows_once peers once (pair_in wire p) p.actions r follows; lines = lines; told = told; text_is = refl }

-- with how both ends stand the report is whole
pub finished : (peers : Peers) → CallOnce client_hub calc_hub peers.client.peer peers.server.peer → (before between after : List ℕ)
    → OfEach client_hub peers.client (λ t h. between ≡ before ++ standing_text Client t.config (steps t h))
    → OfEach calc_hub peers.server (λ t h. after ≡ between ++ standing_text Server t.config (steps t h))
    → (wire : Wire) (p : Program) (r : Run) → Follows (pair_in wire p) p.actions r peers → TellsRun (pair_in wire p) [] r before → IsReportOver wire p after
finished peers once before between after client server wire p r follows told =
    subst (IsReportOver wire p) (sym (both_told peers before between after client server (pair_in wire p) p.actions r follows)) (reported peers once wire p r before follows told)
