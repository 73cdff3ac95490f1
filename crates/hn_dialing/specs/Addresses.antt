-- Where a hub stands, as a URL says it (URL Standard, as the kit's `url` reads it).
use Rattle.std.specs.Prelude.{◌≡◌, ◌⊎◌, ◌++◌, ◌==◌, ℕ, Bool, List, Ok, None, Some, codes, count_by, option_map, unwrap_or}
use Rattle.url.specs.Host.{host_text}
use Rattle.url.specs.Parser.{parse_url}
use Rattle.url.specs.Parts.{Parts, nonempty_host}
use Rattle.hw_door.specs.declared.heard.Address.{Address}

abbrev pub is_at : ℕ → Bool
is_at byte = byte == 64

-- a host that stands in brackets, as an IPv6 address does
abbrev pub IsInBrackets : List ℕ → List ℕ → Type 0
IsInBrackets host inner = host ≡ codes "[" ++ (inner ++ codes "]")

-- the host without its brackets, if it stands in some
abbrev pub IsBare : List ℕ → List ℕ → Type 0
IsBare host bare = IsInBrackets host bare ⊎ (((inner : List ℕ) → IsInBrackets host inner → ⊥) × (bare ≡ host))

-- the usual port of HTTP
abbrev pub http_port : ℕ
http_port = 80

-- a URL that is this text is of HTTP, and has neither query nor fragment nor user, not even an empty one: only its path has an `@`
pub record IsPlain (url : Parts) (text : List ℕ) : Type 0 where
  pub scheme : url.scheme ≡ codes "http"
  pub no_query : url.query ≡ None
  pub no_fragment : url.fragment ≡ None
  pub no_user : count_by is_at text ≡ count_by is_at url.path

-- the text is the URL of a hub at this address: its host, its port, and as its base the path
pub record IsAddress (text : List ℕ) (address : Address) : Type 0 where
  pub url : Parts
  pub parsed : parse_url None text ≡ Ok url
  pub plain : IsPlain url text
  pub host : List ℕ
  pub host_is : option_map host_text (nonempty_host url) ≡ Some host
  pub bare : IsBare host address.host
  pub port : address.port ≡ unwrap_or url.port http_port
  pub base : address.base ≡ url.path

-- but for its token a text says one address
abbrev pub IsSameAddress : Address → Address → Type 0
IsSameAddress a b = (a.host ≡ b.host) × (a.port ≡ b.port) × (a.base ≡ b.base)

abbrev pub AddressesAreOne : Type 0
AddressesAreOne = (text : List ℕ) (a b : Address) → IsAddress text a → IsAddress text b → IsSameAddress a b
