-- What a socket that names a token is answered.
use Rattle.std.proofs.Common.{refl, ◌≡◌, false}
use Rattle.hw_lanes.specs.declared.http.Method.TheVariants.{Other}
use Rattle.hd_server.specs.Table.{same_method}
use Rattle.hd_server.specs.Laws.{SocketsByLife}

pub sockets_by_life : SocketsByLife
sockets_by_life base r f s =
    let gets : same_method r.method Other ≡ false = rw s.gets refl in
    rw (s.at_base, s.elsewhere, s.upgrades, s.names, gets) refl
