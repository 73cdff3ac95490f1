-- The text of a script's run is its report.
use Rattle.std.proofs.Common.{◌≡◌, ◌∙◌, List, [], ◌∷◌, refl, sym, ap, subst}
use Rattle.he_wire.specs.Laws.{WireIsSound}
use Rattle.he_end.specs.declared.end.End.{End}
use Rattle.he_end.specs.Stands.{limits_of}
use Rattle.he_end.specs.Laws.{Deliver, limits_of_both}
use Rattle.hd_delivery.specs.declared.vocabulary.Side.TheVariants.{Client, Server}
use Rattle.hd_delivery.specs.Worlds.{Limits, alike, Terms, config, Event, ByClient, ByServer, client_of, server_of}
use Rattle.hd_delivery.specs.Bytes.{Wire, ByteStep, AllowedOverBytes, IsWorldOverBytes}
use Rattle.sr_notation.specs.Terms.{limits_in, terms_in}
use Rattle.sr_replay.specs.Runs.{world_of}
use Rattle.sr_script.specs.Laws.{ScriptsAreInTurn, ScriptsAreSettled}
use Rattle.sr_replay.specs.Laws.{RunsOnce, RunsAreWorlds, EndsReport}

-- two ends with one end's limits each, which are the same, are in such a world
world_of_both : (client server : End) (limits : Limits) (wire : Wire) (t : Terms) → limits_of client ≡ limits → limits_of server ≡ limits
    → (w : List (Event ByteStep)) → IsWorldOverBytes (alike limits) wire t w → IsWorldOverBytes (limits_of_both client server) wire t w
world_of_both client server limits wire t c s [] i = ap (λ (l : Limits). l.frame) (c ∙ sym s)
world_of_both client server limits wire t c s (ByClient step ∷ w) i = (
  world_of_both client server limits wire t c s w i.0,
  subst (λ l. AllowedOverBytes l wire (config Client t) (config Server t) (client_of w) (server_of w) step) (sym c) i.1,
)
world_of_both client server limits wire t c s (ByServer step ∷ w) i = (
  world_of_both client server limits wire t c s w i.0,
  subst (λ l. AllowedOverBytes l wire (config Server t) (config Client t) (server_of w) (client_of w) step) (sym s) i.1,
)

pub ends_report : (client server : End) → ScriptsAreInTurn → ScriptsAreSettled → RunsOnce → RunsAreWorlds → WireIsSound → Deliver client server → EndsReport client server
ends_report client server turns settled once worlds sound deliver wire text p r house parses of_client of_server runs c s =
    let w = (worlds (limits_in p.settings) wire (terms_in p.settings) p.actions r (sound (limits_in p.settings) wire house) (turns text p parses) runs).world in
    record {
      run = r;
      runs = record { holds = runs; only = λ q e. once (limits_in p.settings) wire (terms_in p.settings) p.actions q r e runs };
      world = w;
      delivers = deliver wire (terms_in p.settings) (world_of r) (settled text p parses).version (world_of_both client server (limits_in p.settings) wire (terms_in p.settings) of_client of_server (world_of r) w) c s;
      text_is = refl;
    }
