-- What is asked for when a connection is dialed: first a token, by a negotiate, and then a socket with that token.
-- TransportProtocols.md, "POST endpoint-base/negotiate" and "WebSockets"; RFC 6455, section 4.1, for the key.
use Rattle.std.specs.Prelude.{ℕ, Bool, true, false, ◌==◌, List, [], ◌∷◌, ◌++◌, codes, Option, Some, None, if◌then◌else◌}
use Rattle.form_urlencoded.specs.Form.{byte_serialize}
use Rattle.hw_lanes.specs.declared.http.Method.{Method}
use Rattle.hw_lanes.specs.declared.http.Method.TheVariants.{Get, Post}
use Rattle.hw_door.specs.declared.heard.Address.{Address}
use Rattle.hw_door.specs.declared.heard.Upgrade.{Upgrade}
use Rattle.hd_dialing.specs.Bodies.{Told, told_by, told_as_asked}

-- how one connection is dialed: the place of its address in the list with which the dialer was started, from 0; what stands before each
-- target; the access token that each ask has, if there is one; whether the connection is asked to be kept across its links; and what the body
-- of the response to a negotiate tells
pub record Setup : Type 0 where
  pub place : ℕ
  pub path : List ℕ
  pub access : Option (List ℕ)
  pub reconnect : Bool
  pub tells : List ℕ → Option Told

-- that of a client with the address at this place: it asks for a connection that is kept, and takes one that isn't
abbrev pub setup_at : ℕ → Address → Setup
setup_at place address = record { place = place; path = address.base; access = address.token; reconnect = true; tells = told_by }

-- that of whoever takes the connection only as it is asked for
abbrev pub setup_as_asked : ℕ → Address → Option (List ℕ) → Bool → Setup
setup_as_asked place address access reconnect =
    record { place = place; path = address.base; access = access; reconnect = reconnect; tells = told_as_asked reconnect }

-- ---- targets

abbrev pub slash : ℕ
slash = 47

abbrev pub ends_with_slash : List ℕ → Bool
ends_with_slash [] = false
ends_with_slash (byte ∷ []) = byte == slash
ends_with_slash (byte ∷ next ∷ bytes) = ends_with_slash (next ∷ bytes)

abbrev pub negotiate_path : List ℕ → List ℕ
negotiate_path path = path ++ ((if ends_with_slash path then [] else slash ∷ []) ++ codes "negotiate")

abbrev pub reconnect_pair : Bool → List ℕ
reconnect_pair true = codes "&useStatefulReconnect=true"
reconnect_pair false = []

abbrev pub access_pair : Option (List ℕ) → List ℕ
access_pair None = []
access_pair (Some access) = codes "&access_token=" ++ byte_serialize access

abbrev pub negotiate_target : Setup → List ℕ
negotiate_target s = negotiate_path s.path ++ (codes "?negotiateVersion=1" ++ (reconnect_pair s.reconnect ++ access_pair s.access))

-- a socket stands at the path itself
abbrev pub socket_target : Setup → List ℕ → List ℕ
socket_target s token = s.path ++ (codes "?id=" ++ (byte_serialize token ++ access_pair s.access))

-- ---- asks

-- what a dialer is asked for: at which of its addresses, how, and whether for a socket
pub record Ask : Type 0 where
  pub place : ℕ
  pub method : Method
  pub target : List ℕ
  pub upgrade : Option Upgrade

abbrev pub negotiate_ask : Setup → Ask
negotiate_ask s = record { place = s.place; method = Post; target = negotiate_target s; upgrade = None }

abbrev pub socket_ask : Setup → List ℕ → Upgrade → Ask
socket_ask s token upgrade = record { place = s.place; method = Get; target = socket_target s token; upgrade = Some upgrade }
