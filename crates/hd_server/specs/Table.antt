-- What is done about a request: a table, whose first row that applies decides.
-- TransportProtocols.md, "POST endpoint-base/negotiate", "WebSockets" and "Long Polling". This project's own rules: the statuses, and
-- which connections may be resumed.
use Rattle.std.specs.Prelude.{ℕ, ◌+◌, ◌-◌, ◌*◌, ◌^◌, Bool, true, false, not, ◌&&◌, ◌||◌, nat_lt, nat_le, List, [], ◌∷◌, ◌++◌, length, fold, codes, Option, Some, None, is_some, if◌then◌else◌}
use Rattle.std.specs.List.{list_all}
use Rattle.std.specs.Str.{is_utf8}
use Rattle.hm_message.specs.Same.{same_text}
use Rattle.hw_lanes.specs.declared.http.Method.{Method}
use Rattle.hw_lanes.specs.declared.http.Method.TheVariants.{Get, Post, Delete, Other}
use Rattle.hw_lanes.specs.declared.http.Request.{Request}
use Rattle.hw_lanes.specs.Query.{query_value_of}
pub use Rattle.hd_server.specs.declared.vocabulary.Caller.{Caller}
pub use Rattle.hd_server.specs.declared.vocabulary.Caller.TheVariants.{Anonymous, Named, Unauthorized, KeeperFailed}
pub use Rattle.hd_server.specs.declared.vocabulary.Outcome.{Outcome}
pub use Rattle.hd_server.specs.declared.vocabulary.Outcome.TheVariants.{Refusal, NewToken, PlainSocket, TokenSocket, FirstPoll, NextPoll, LastPoll, Posting, Deletion}
use Rattle.hd_server.specs.declared.vocabulary.Life.{Life}
use Rattle.hd_server.specs.declared.vocabulary.Life.TheVariants.{Unknown, Fresh, Socket, Lost, Polling, Ending}

-- what the table looks at beside the request
pub record Facts : Type 0 where
  pub caller : Caller
  pub busy : Bool  -- no further connection can be made
  pub lots_failed : Bool
  pub life : Life  -- of the token that is named
  pub granted : Bool  -- its end may be resumed

-- ---- what is read off a request

abbrev pub same_method : Method → Method → Bool
same_method Get Get = true
same_method Post Post = true
same_method Delete Delete = true
same_method Other Other = true
same_method _ _ = false

abbrev pub is_base : List ℕ → Request → Bool
is_base base r = same_text r.path base

abbrev pub is_negotiate : List ℕ → Request → Bool
is_negotiate base r = same_text r.path (base ++ codes "/negotiate")

abbrev pub is_socket : Request → Bool
is_socket r = is_some r.upgrade

-- the token that is named
abbrev pub id_in : Request → Option (List ℕ)
id_in r = query_value_of r.query (codes "id")

abbrev pub has_id : Request → Bool
has_id r = is_some (id_in r)

abbrev pub is_digit : ℕ → Bool
is_digit b = nat_le 48 b && nat_le b 57

abbrev pub number_in : List ℕ → ℕ
number_in digits = fold (λ n b. n * 10 + (b - 48)) 0 digits

-- decimal digits of a number from 1 to 2^64 - 1
abbrev pub is_version : Option (List ℕ) → Bool
is_version None = false
is_version (Some text) = (nat_lt 0 (length text) && list_all is_digit text) && (nat_lt 0 (number_in text) && nat_lt (number_in text) (2 ^ 64))

abbrev pub has_version : Request → Bool
has_version r = is_version (query_value_of r.query (codes "negotiateVersion"))

abbrev pub is_true : Option (List ℕ) → Bool
is_true None = false
is_true (Some text) = same_text text (codes "true")

-- the request asks that its connection can be resumed
abbrev pub asks_reconnect : Request → Bool
asks_reconnect r = is_true (query_value_of r.query (codes "useStatefulReconnect"))

-- the request would make a connection
abbrev pub is_entry : List ℕ → Request → Bool
is_entry base r = (is_negotiate base r && (same_method r.method Post && has_version r)) || (is_base base r && (is_socket r && not (has_id r)))

-- ---- the keeper

-- the access token, if it is a text
abbrev pub text_in : Option (List ℕ) → Option (List ℕ)
text_in None = None
text_in (Some bytes) = if is_utf8 bytes then Some bytes else None

-- the access token of which the keeper is asked
abbrev pub asks_keeper : List ℕ → Request → Option (List ℕ)
asks_keeper base r = if is_entry base r then text_in r.bearer else None

-- who asks, if the keeper isn't asked: an access token that is no text is nobody's
abbrev pub caller_without : Option (List ℕ) → Caller
caller_without None = Anonymous
caller_without (Some bytes) = Unauthorized

-- who asks, by what the keeper answered: nothing if it failed
abbrev pub caller_told : Option (Option (List ℕ)) → Caller
caller_told None = KeeperFailed
caller_told (Some None) = Unauthorized
caller_told (Some (Some name)) = Named name

abbrev pub is_unauthorized : Caller → Bool
is_unauthorized Unauthorized = true
is_unauthorized _ = false

abbrev pub is_keepers_fault : Caller → Bool
is_keepers_fault KeeperFailed = true
is_keepers_fault _ = false

-- ---- the table

-- whether the row applies, and what is done then
abbrev pub Row : Type 0
Row = Bool × Outcome

-- requests that make a connection, and those that are wrong whatever token they name
abbrev pub entry_rows : List ℕ → Request → Facts → List Row
entry_rows base r f =
    (not (is_base base r || is_negotiate base r), Refusal 404) ∷
    (is_negotiate base r && not (same_method r.method Post), Refusal 405) ∷
    (is_negotiate base r && not (has_version r), Refusal 400) ∷
    (is_entry base r && is_unauthorized f.caller, Refusal 401) ∷
    (is_entry base r && is_keepers_fault f.caller, Refusal 500) ∷
    (is_entry base r && f.busy, Refusal 503) ∷
    (is_negotiate base r && f.lots_failed, Refusal 500) ∷
    (is_negotiate base r, NewToken (asks_reconnect r)) ∷
    (is_socket r && not (has_id r), PlainSocket) ∷
    (same_method r.method Other, Refusal 405) ∷
    (not (has_id r), Refusal 400) ∷ []

-- a socket that names a token, by its life and whether its end may be resumed
abbrev pub socket_outcome : Life → Bool → Outcome
socket_outcome Unknown granted = Refusal 404
socket_outcome Fresh granted = TokenSocket
socket_outcome (Socket lane) granted = if granted then TokenSocket else Refusal 409
socket_outcome Lost granted = TokenSocket
socket_outcome Polling granted = Refusal 409
socket_outcome Ending granted = Refusal 404

abbrev pub poll_outcome : Life → Outcome
poll_outcome Unknown = Refusal 404
poll_outcome Fresh = FirstPoll
poll_outcome (Socket lane) = Refusal 409
poll_outcome Lost = Refusal 409
poll_outcome Polling = NextPoll
poll_outcome Ending = LastPoll

abbrev pub post_outcome : Life → Outcome
post_outcome Unknown = Refusal 404
post_outcome Polling = Posting
post_outcome Ending = Refusal 404
post_outcome _ = Refusal 409

abbrev pub delete_outcome : Life → Outcome
delete_outcome Unknown = Refusal 404
delete_outcome (Socket lane) = Refusal 409
delete_outcome Lost = Refusal 409
delete_outcome _ = Deletion

-- a request that names a token, by its method
abbrev pub method_outcome : Method → Life → Outcome
method_outcome Get life = poll_outcome life
method_outcome Post life = post_outcome life
method_outcome Delete life = delete_outcome life
method_outcome Other life = Refusal 405

abbrev pub named_outcome : Request → Facts → Outcome
named_outcome r f = if is_socket r then socket_outcome f.life f.granted else method_outcome r.method f.life

-- the first row that applies, or else this
abbrev pub first_row : List Row → Outcome → Outcome
first_row [] else_done = else_done
first_row (row ∷ rows) else_done = if row.0 then row.1 else first_row rows else_done

abbrev pub outcome : List ℕ → Request → Facts → Outcome
outcome base r f = first_row (entry_rows base r f) (named_outcome r f)
