-- The body that tells a token, by the transports that it offers.
use Rattle.std.specs.Prelude.{ℕ, Bool, List}
use Rattle.hd_server.specs.Texts.{negotiate_body, sockets_body}
use Rattle.hn_server_front.specs.declared.bodies.Transports.{Transports}
use Rattle.hn_server_front.specs.declared.bodies.Transports.TheVariants.{All, Sockets}

abbrev pub body_for : Transports → ℕ → List ℕ → Bool → List ℕ
body_for All conn token reconnect = negotiate_body conn token reconnect
body_for Sockets conn token reconnect = sockets_body conn token reconnect
