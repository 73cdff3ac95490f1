use Rattle.std.proofs.Common.{◌≤◌, [], refl, sym, subst, arith}
use Rattle.hd_delivery.specs.Histories as of
use Rattle.hd_delivery.specs.declared.vocabulary.Side.{Side}
use Rattle.hd_calls.specs.PeerWorlds.{Pair}
use Rattle.hd_delivery.specs.declared.vocabulary.Side.TheVariants.{Client, Server}
use Rattle.hub_calc.specs.Table.{calc_hub}
use Rattle.hub_calc.specs.Client.{client_hub}
use Rattle.hp_peer.specs.Stands.{settings}
use Rattle.sr_peers.specs.Plays.{Plays}
use Rattle.sr_peers.specs.Runs.{pair_of, steps_at}
use Rattle.sr_peers.specs.Begun.{terms_of}
use Rattle.sr_peers.specs.Follows.{IsWorldOf}
use Rattle.sr_peers.proofs.peers.Peers.start.Goals as goal

none_yet : (p : Pair) (s : Side) → of.moment (steps_at p [] s) ≤ 0
none_yet p Client = omega arith
none_yet p Server = omega arith

pub returns : goal.returns
returns c = λ wire house. record {
  version = c.requires;
  turns = tt;
  runs = refl;
  holds = record {
    is_world = subst (λ lanes. IsWorldOf (pair_of c.args.config.limits wire (terms_of c.args.config)) [] [] lanes) (sym c.new.ensures.items) (record {
      world = refl;
      links = refl;
      lanes = λ l lane at. absurd (cc);
      opened_links = λ l on. absurd (cc);
      accepted_links = λ l on. absurd (cc);
      in_time = none_yet (pair_of c.args.config.limits wire (terms_of c.args.config));
    });
    client = record {
      plays = subst (λ who. Plays client_hub (settings Client c.args.config wire who) c.in_ok-client.client []) c.in_ok-of.ensures (c.in_ok-client.ensures wire house);
      took_all = λ live l at. absurd (cc);
    };
    server = record {
      plays = subst (λ who. Plays calc_hub (settings Server c.args.config wire who) c.in_ok-server.server []) c.in_ok-of-2.ensures (c.in_ok-server.ensures wire house);
      took_all = λ live l at. absurd (cc);
    };
    now = refl;
  };
}
