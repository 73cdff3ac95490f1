-- What holds in every world gives delivery.
use Rattle.std.proofs.Common.{List, None}
use Rattle.std.proofs.lemmas.Bool.{eq-eqb}
use Rattle.hd_delivery.specs.declared.vocabulary.Side.{Side}
use Rattle.hd_delivery.specs.declared.vocabulary.Side.TheVariants.{Client, Server}
use Rattle.hd_delivery.specs.Histories.{EndEvent, lent_frames}
use Rattle.hd_delivery.specs.Worlds.{Terms, Delivers, Delivery}
use Rattle.hd_delivery.proofs.Carries.{facts, MayCarry-sound}
use Rattle.hd_delivery.proofs.Pair.{Way}
use Rattle.hd_delivery.proofs.World.{Together, to_server}
use Rattle.hd_delivery.proofs.Still.{arrived}

delivers : (side : Side) (terms : Terms) (x y : List EndEvent) → Way side terms x y → Delivers x y
delivers side terms x y w = record { in_order = w.in_order; sound = λ l. MayCarry-sound (facts side terms x y) l None (lent_frames l x) (w.good l) }

-- delivery, from what holds in every world
pub delivery_holds : (terms : Terms) (c s : List EndEvent) → Together terms c s → Delivery terms c s
delivery_holds terms c s t =
    let back = to_server terms c s t.ends in
    record {
      to_server = delivers Client terms c s t.ends.pair.to;
      to_client = delivers Server terms s c t.ends.pair.from;
      client_faultless = t.ends.pair.own.faultless;
      server_faultless = t.ends.pair.its.faultless;
      client_skips_none = λ e. t.ends.pair.own.unskipped (eq-eqb terms.version 3 e);
      server_skips_none = λ e. t.ends.pair.its.unskipped (eq-eqb terms.version 3 e);
      all_to_server = λ q. arrived Client terms c s q.link t.ends q.client_here q.server_here q.client_ready q.server_ready q.server_fed q.server_taken q.client_fed q.client_taken q.client_due q.server_due;
      all_to_client = λ q. arrived Server terms s c q.link back q.server_here q.client_here q.server_ready q.client_ready q.client_fed q.client_taken q.server_fed q.server_taken q.server_due q.client_due;
    }
