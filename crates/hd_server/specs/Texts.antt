-- Tokens, and the body that tells one.
-- RFC 4648, section 5, for the letters. TransportProtocols.md, "POST endpoint-base/negotiate", for the members of the body.
use Rattle.std.specs.Prelude.{ℕ, ◌+◌, ◌-◌, ◌*◌, ◌/◌, ◌%◌, Bool, true, false, nat_lt, ◌==◌, List, [], ◌∷◌, ◌++◌, codes, if◌then◌else◌}
use Rattle.std.specs.Fmt.{decimal}

-- the letter of six bits, which a path and a query may bear
abbrev pub letter : ℕ → ℕ
letter n =
    if nat_lt n 26 then 65 + n else
    (if nat_lt n 52 then 71 + n else
    (if nat_lt n 62 then n - 4 else (if n == 62 then 45 else 95)))

-- the letters of whole groups of three bytes
abbrev pub letters : List ℕ → List ℕ
letters (x ∷ y ∷ z ∷ rest) =
    letter (x / 4) ∷ letter ((x % 4) * 16 + y / 16) ∷ letter ((y % 16) * 4 + z / 64) ∷ letter (z % 64) ∷ letters rest
letters _ = []

-- a number as eight bytes, the highest first
abbrev pub eight_bytes : ℕ → List ℕ
eight_bytes n =
    (n / 72057594037927936) % 256 ∷ (n / 281474976710656) % 256 ∷ (n / 1099511627776) % 256 ∷ (n / 4294967296) % 256 ∷
    (n / 16777216) % 256 ∷ (n / 65536) % 256 ∷ (n / 256) % 256 ∷ n % 256 ∷ []

-- the token of 16 bytes that were drawn and a connection's number
abbrev pub token_of : List ℕ → ℕ → List ℕ
token_of drawn conn = letters (drawn ++ eight_bytes conn)

-- reconnect is told only if it is granted
abbrev pub reconnect_text : Bool → List ℕ
reconnect_text true = codes ",\"useStatefulReconnect\":true}"
reconnect_text false = codes "}"

-- the body that tells a connection's number, as this text, and its token
abbrev pub body_with : List ℕ → List ℕ → Bool → List ℕ
body_with number token reconnect =
    codes "{\"availableTransports\":[{\"transferFormats\":[\"Text\",\"Binary\"],\"transport\":\"WebSockets\"},{\"transferFormats\":[\"Text\",\"Binary\"],\"transport\":\"LongPolling\"}],\"connectionId\":\""
    ++ number ++ codes "\",\"connectionToken\":\"" ++ token ++ codes "\",\"negotiateVersion\":1" ++ reconnect_text reconnect

-- the body that tells a connection and its token
abbrev pub negotiate_body : ℕ → List ℕ → Bool → List ℕ
negotiate_body conn token reconnect = body_with (decimal conn) token reconnect

-- the same where only sockets are offered
abbrev pub sockets_body_with : List ℕ → List ℕ → Bool → List ℕ
sockets_body_with number token reconnect =
    codes "{\"availableTransports\":[{\"transferFormats\":[\"Text\",\"Binary\"],\"transport\":\"WebSockets\"}],\"connectionId\":\""
    ++ number ++ codes "\",\"connectionToken\":\"" ++ token ++ codes "\",\"negotiateVersion\":1" ++ reconnect_text reconnect

abbrev pub sockets_body : ℕ → List ℕ → Bool → List ℕ
sockets_body conn token reconnect = sockets_body_with (decimal conn) token reconnect
