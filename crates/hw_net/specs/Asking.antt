-- The text of an ask at an address.
use Rattle.std.specs.Prelude.{◌==◌, ◌++◌, ℕ, Bool, List, [], if◌then◌else◌, Option, option_map, codes, decimal}
use Rattle.std.specs.List.{list_any}
use Rattle.hw_lanes.specs.declared.http.Method.{Method}
use Rattle.hh_http.specs.Texts.{ask_text}
use Rattle.hw_door.specs.declared.heard.Address.{Address}
use Rattle.hw_door.specs.declared.heard.Upgrade.{Upgrade}
use Rattle.hw_net.specs.declared.asking.TheConstants.{COLON, HTTP_PORT}

-- a host is an IPv6 address if it has a colon, and stands in brackets then (RFC 3986, section 3.2.2)
abbrev pub has_colon : List ℕ → Bool
has_colon host = list_any (λ byte. byte == COLON) host

abbrev pub bracketed : List ℕ → List ℕ
bracketed host = if has_colon host then codes "[" ++ (host ++ codes "]") else host

-- a port is named but for that of HTTP
abbrev pub port_text : ℕ → List ℕ
port_text port = if port == HTTP_PORT then [] else codes ":" ++ decimal port

-- the host as an ask names it (RFC 9110, section 7.2)
abbrev pub host_name : Address → List ℕ
host_name address = bracketed address.host ++ port_text address.port

-- an ask at this address
abbrev pub text_at : Address → Method → List ℕ → Option Upgrade → List ℕ
text_at address method target upgrade = ask_text method (host_name address) target (option_map (λ (u : Upgrade). u.key) upgrade)
