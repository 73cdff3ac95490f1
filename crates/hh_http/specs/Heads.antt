-- What the fields of a head say (RFC 9110, sections 5 and 8.6; RFC 6455, section 4.2). A field is a name and a value without the
-- blanks around it; names are compared without regard to case.
use Rattle.std.specs.Prelude.{◌≡◌, ◌≢◌, ◌⊎◌, ◌&&◌, ◌||◌, ◌==◌, ℕ, Bool, true, List, [], ◌∷◌, take, drop, length, map, nat_lt, Option, None, Some, is_some, option_and_then, IsTrue, IsFalse, if◌then◌else◌, codes, bytes_eq, count_by}
use Rattle.std.specs.List.{list_all}
use Rattle.std.specs.Char.{is_ascii_digit}
use Rattle.std.specs.Str.Parse.{digits_value}
use Rattle.httparse.specs.Grammar.{Field}
use Rattle.httparse.specs.Spans.{name_and_value}
use Rattle.http1.specs.Text.{eq_ignore_case}
use Rattle.http1.specs.Fields.{Header, is_named, values_named, elements_named, has_option}
use Rattle.form_urlencoded.specs.Form.{split_once}
use Rattle.websocket.specs.Handshake.{IsValidKey, accept_key_of}
use Rattle.hw_lanes.specs.Query.{query_value_of}
use Rattle.hw_lanes.specs.declared.http.Method.{Method}
use Rattle.hw_lanes.specs.declared.http.Refusal.{Refusal}
use Rattle.hw_lanes.specs.declared.http.Method.TheVariants.{Get, Post, Delete, Other}
use Rattle.hh_http.specs.Refusals.{only_status, other_version}

-- the names and the values of a head's fields
abbrev pub names_and_values : List Field → List Header
names_and_values fields = map name_and_value fields

-- the value of the first field of this name
abbrev pub first_named : List ℕ → List Header → Option (List ℕ)
first_named name [] = None
first_named name (field ∷ fields) = if is_named name field then Some field.1 else first_named name fields

-- ---- the length of the body

-- one digit or more, and nothing else
abbrev pub is_digits : List ℕ → Bool
is_digits text = nat_lt 0 (length text) && list_all is_ascii_digit text

-- the text is digits, and they say the number that the first text says
abbrev pub repeats : List ℕ → List ℕ → Bool
repeats first text = is_digits text && (digits_value 10 text == digits_value 10 first)

-- every length is digits, and all say one number
abbrev pub agree : List (List ℕ) → Bool
agree [] = true
agree (first ∷ texts) = is_digits first && list_all (repeats first) texts

-- the number that they say, or 0 if there is none
abbrev pub number_of : List (List ℕ) → ℕ
number_of [] = 0
number_of (first ∷ texts) = digits_value 10 first

-- the values of `Content-Length`
abbrev pub lengths : List Header → List (List ℕ)
lengths fields = values_named (codes "content-length") fields

-- the length of the body
abbrev pub body_length : List Header → ℕ
body_length fields = number_of (lengths fields)

-- there is a `Transfer-Encoding`
abbrev pub is_coded : List Header → Bool
is_coded fields = is_some (first_named (codes "transfer-encoding") fields)

-- ---- who is asked

-- how many `Host` there are
abbrev pub hosts : List Header → ℕ
hosts fields = count_by (is_named (codes "host")) fields

-- HTTP/1.1 has one `Host`, and HTTP/1.0 one or none (RFC 9112, section 3.2)
abbrev pub are_hosts_right : ℕ → List Header → Bool
are_hosts_right minor fields = (hosts fields == 1) || ((hosts fields == 0) && (minor == 0))

-- ---- the target

-- `?`
abbrev pub question_mark : ℕ
question_mark = 63

-- the target before its first `?`
abbrev pub path_of : List ℕ → List ℕ
path_of target = (split_once question_mark target).0

-- the target after its first `?`, or nothing
abbrev pub query_of : List ℕ → List ℕ
query_of target = (split_once question_mark target).1

-- the method with this name
abbrev pub method_of : List ℕ → Method
method_of name =
    if bytes_eq name (codes "GET") then Get else (
    if bytes_eq name (codes "POST") then Post else (
    if bytes_eq name (codes "DELETE") then Delete else Other))

-- ---- who asks, and whether more requests may follow

-- the token of a value of `Authorization`, if its scheme is `Bearer`
abbrev pub token_of : List ℕ → Option (List ℕ)
token_of value = if eq_ignore_case (take 7 value) (codes "bearer ") then Some (drop 7 value) else None

-- the first of two that is there
abbrev pub or_else : Option (List ℕ) → Option (List ℕ) → Option (List ℕ)
or_else None other = other
or_else (Some text) other = Some text

-- the token of the first `Authorization`, or else of the query
abbrev pub bearer_of : List Header → List ℕ → Option (List ℕ)
bearer_of fields query =
    or_else (option_and_then token_of (first_named (codes "authorization") fields))
    (query_value_of query (codes "access_token"))

-- no request follows on this connection: it is HTTP/1.0, or `Connection` lists `close`
abbrev pub is_shut : ℕ → List Header → Bool
is_shut minor fields = (minor == 0) || has_option (codes "close") (elements_named (codes "connection") fields)

-- the body is sent once a 100 came: HTTP/1.1, and `Expect` lists `100-continue` (RFC 9110, section 10.1.1)
abbrev pub expects_continue : ℕ → List Header → Bool
expects_continue minor fields = (minor == 1) && has_option (codes "100-continue") (elements_named (codes "expect") fields)

-- ---- WebSockets

-- a GET whose `Upgrade` lists `websocket`, and whose `Connection` lists `upgrade` (RFC 9110, section 7.8)
abbrev pub asks_upgrade : List ℕ → List Header → Bool
asks_upgrade method fields =
    bytes_eq method (codes "GET")
    && (has_option (codes "websocket") (elements_named (codes "upgrade") fields)
    && has_option (codes "upgrade") (elements_named (codes "connection") fields))

-- the head asks for no WebSocket, or for one whose key this text accepts
abbrev pub Upgrades : List ℕ → List Header → Option (List ℕ) → Type 0
Upgrades method fields None = IsFalse (asks_upgrade method fields)
Upgrades method fields (Some accept) =
    IsTrue (asks_upgrade method fields)
    × (first_named (codes "sec-websocket-version") fields ≡ Some (codes "13"))
    × ((key : List ℕ) × (first_named (codes "sec-websocket-key") fields ≡ Some key) × IsValidKey key
    × (accept ≡ accept_key_of key))

-- the head asks for a WebSocket, and is refused for the first of these: it isn't of version 13, or has no valid key
abbrev pub RefusesUpgrade : List ℕ → List Header → Refusal → Type 0
RefusesUpgrade method fields refusal =
    IsTrue (asks_upgrade method fields)
    × (((refusal ≡ other_version) × (first_named (codes "sec-websocket-version") fields ≢ Some (codes "13")))
    ⊎ ((refusal ≡ only_status 400) × (first_named (codes "sec-websocket-version") fields ≡ Some (codes "13"))
    × ((key : List ℕ) → first_named (codes "sec-websocket-key") fields ≡ Some key → ¬ (IsValidKey key))))
