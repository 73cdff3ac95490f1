-- What holds of two ends.
use Rattle.hs_shake.specs.Requests.{IsVersion}
use Rattle.std.specs.Prelude.{List}
use Rattle.hd_delivery.specs.declared.vocabulary.Side.{Side}
use Rattle.hd_delivery.specs.declared.vocabulary.Side.TheVariants.{Client, Server}
use Rattle.hd_delivery.specs.Worlds.{Limits, Terms, Event, config, client_of, server_of}
use Rattle.hd_delivery.specs.Bytes.{Wire, ByteStep, IsWorldOverBytes, DeliveryOverBytes}
use Rattle.he_end.specs.declared.end.End.{End}
use Rattle.he_end.specs.Stands.{Stands, limits_of}

-- the limits of each of two ends
abbrev pub limits_of_both : End → End → Side → Limits
limits_of_both client server Client = limits_of client
limits_of_both client server Server = limits_of server

-- In every world of which one of these stands for the client's history and the other for the server's, what each has processed is a first part of
-- what the other sent.
abbrev pub Deliver : End → End → Type 0
Deliver client server = (wire : Wire) (t : Terms) (w : List (Event ByteStep)) → IsVersion t.version
    → IsWorldOverBytes (limits_of_both client server) wire t w
    → Stands wire (config Client t) client (client_of w) → Stands wire (config Server t) server (server_of w) → DeliveryOverBytes wire t w
