-- Replies and asks as they are written (RFC 9112, sections 3 to 6; RFC 6455, section 4).
use Rattle.std.specs.Prelude.{◌==◌, ℕ, Bool, List, [], ◌∷◌, ◌++◌, length, Option, None, Some, unwrap_or, if◌then◌else◌, codes, decimal}
use Rattle.http.specs.StatusCode.{reason_phrase}
use Rattle.base64.specs.GeneralPurpose.{encode_of}
use Rattle.base64.specs.Engines.{standard}
use Rattle.websocket.specs.Handshake.{accept_key_of}
use Rattle.hw_lanes.specs.declared.http.BodyKind.{BodyKind}
use Rattle.hw_lanes.specs.declared.http.BodyKind.TheVariants as kind
use Rattle.hw_lanes.specs.declared.http.Method.{Method}
use Rattle.hw_lanes.specs.declared.http.Method.TheVariants as method
use Rattle.hw_lanes.specs.declared.http.Reply.{Reply}
use Rattle.hw_lanes.specs.declared.http.ReplyField.{ReplyField}
use Rattle.hw_lanes.specs.declared.http.ReplyField.TheVariants as field

-- ---- replies

-- the phrase of a status
unfoldable pub phrase_of : ℕ → List ℕ
phrase_of status = unwrap_or (reason_phrase status) []

-- the status line
abbrev pub status_line : ℕ → List ℕ
status_line status =
    codes "HTTP/1.1 " ++ (decimal status ++ (codes " " ++ (phrase_of status ++ codes "\r\n")))

-- what a body is, if there is one
abbrev pub type_line : BodyKind → List ℕ → List ℕ
type_line k [] = []
type_line kind.None (b ∷ body) = []
type_line kind.Json (b ∷ body) = codes "Content-Type: application/json\r\n"
type_line kind.Octets (b ∷ body) = codes "Content-Type: application/octet-stream\r\n"

-- the length of the body, and what it is
abbrev pub body_lines : BodyKind → List ℕ → List ℕ
body_lines k body =
    codes "Content-Length: " ++ (decimal (length body) ++ (codes "\r\n" ++ type_line k body))

-- what would not be refused (RFC 9110, sections 10.2.1 and 11.6.1; RFC 6455, section 4.4)
abbrev pub field_line : Option ReplyField → List ℕ
field_line None = []
field_line (Some field.AllowPost) = codes "Allow: POST\r\n"
field_line (Some field.AllowGetPostDelete) = codes "Allow: GET, POST, DELETE\r\n"
field_line (Some field.AuthenticateBearer) = codes "WWW-Authenticate: Bearer\r\n"
field_line (Some field.WebSocketVersion) = codes "Sec-WebSocket-Version: 13\r\n"

-- the connection ends after this reply (RFC 9112, section 9.6)
abbrev pub close_line : Bool → List ℕ
close_line close = if close then codes "Connection: close\r\n" else []

-- the lines of a body, of which a 204 has none (RFC 9110, section 8.6)
abbrev pub content_lines : Reply → List ℕ
content_lines r = if r.status == 204 then [] else body_lines r.kind r.body

-- the lines of a reply that accepts a key, or of another
abbrev pub reply_lines : Option (List ℕ) → Reply → List ℕ
reply_lines (Some accept) r =
    codes "Upgrade: websocket\r\nConnection: Upgrade\r\nSec-WebSocket-Accept: " ++ (accept ++ codes "\r\n")
reply_lines None r = field_line r.field ++ (content_lines r ++ close_line r.close)

-- a reply
abbrev pub reply_text : Reply → List ℕ
reply_text r =
    status_line r.status ++ (reply_lines r.accept r ++ (codes "\r\n" ++ r.body))

-- a request whose head came is not refused by it, and its body may be sent (RFC 9110, section 15.2.1)
abbrev pub continue_text : List ℕ
continue_text = codes "HTTP/1.1 100 Continue\r\n\r\n"

-- ---- asks

-- the name of a method that is asked with
abbrev pub method_name : Method → List ℕ
method_name method.Get = codes "GET"
method_name method.Post = codes "POST"
method_name method.Delete = codes "DELETE"
method_name method.Other = []

-- a POST says that it has no body
abbrev pub no_body_line : Method → List ℕ
no_body_line method.Get = []
no_body_line method.Post = codes "Content-Length: 0\r\n"
no_body_line method.Delete = []
no_body_line method.Other = []

-- base64 with padding (RFC 4648, section 4)
unfoldable pub base64_of : List ℕ → List ℕ
base64_of bytes = encode_of standard bytes

-- the text that accepts what is asked for with this key
abbrev pub accept_of_ask : List ℕ → List ℕ
accept_of_ask key = accept_key_of (base64_of key)

-- the lines that ask for a WebSocket with this key
abbrev pub key_lines : Option (List ℕ) → List ℕ
key_lines None = []
key_lines (Some key) =
    codes "Upgrade: websocket\r\nConnection: Upgrade\r\nSec-WebSocket-Key: "
    ++ (base64_of key ++ codes "\r\nSec-WebSocket-Version: 13\r\n")

-- the request line
abbrev pub request_line : List ℕ → List ℕ → List ℕ
request_line name target = name ++ (codes " " ++ (target ++ codes " HTTP/1.1\r\n"))

-- the host
abbrev pub host_line : List ℕ → List ℕ
host_line host = codes "Host: " ++ (host ++ codes "\r\n")

-- a request with no body
abbrev pub ask_text : Method → List ℕ → List ℕ → Option (List ℕ) → List ℕ
ask_text m host target key =
    request_line (method_name m) target ++ host_line host ++ no_body_line m ++ key_lines key ++ codes "\r\n"
