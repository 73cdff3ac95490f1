-- Where a request leads: what the table of requests has left to look at once the path, the method and the query were read.
use Rattle.std.specs.Prelude.{◌≡◌, ℕ, Bool, true, false, List, [], ◌∷◌, Option, Some, None, IfSome, if◌then◌else◌}
use Rattle.hw_lanes.specs.declared.http.Request.{Request}
use Rattle.hd_server.specs.Lives.{ConnectionEvent, is_busy, known_conn, life_of_some}
use Rattle.hd_server.specs.Plans.{conn_of_some}
use Rattle.hd_server.specs.declared.vocabulary.Caller.{Caller}
use Rattle.hd_server.specs.declared.vocabulary.Outcome.{Outcome}
use Rattle.hd_server.specs.declared.vocabulary.Outcome.TheVariants.{Refusal, NewToken, PlainSocket}
use Rattle.hd_server.specs.Table.{Facts, is_unauthorized, is_keepers_fault, id_in, is_entry, first_row, socket_outcome, poll_outcome, post_outcome, delete_outcome, outcome}
use Rattle.hn_server_front.specs.declared.route.Route.{Route}
use Rattle.hn_server_front.specs.declared.route.Route.TheVariants as route

-- ---- what is left of the table

-- a new connection, if the caller may have one and there is room
abbrev pub entry_outcome : Outcome → Facts → Outcome
entry_outcome made f =
    first_row ((is_unauthorized f.caller, Refusal 401) ∷ (is_keepers_fault f.caller, Refusal 500) ∷ (f.busy, Refusal 503) ∷ []) made

-- and one with a token, if the lots gave a draw
abbrev pub negotiate_outcome : Bool → Facts → Outcome
negotiate_outcome asked f = entry_outcome (if f.lots_failed then Refusal 500 else NewToken asked) f

-- what is done about a request that leads there
abbrev pub outcome_at : Route → Facts → Outcome
outcome_at (route.Refuse status) f = Refusal status
outcome_at (route.Negotiate asked) f = negotiate_outcome asked f
outcome_at route.Open f = entry_outcome PlainSocket f
outcome_at (route.Socket token) f = socket_outcome f.life f.granted
outcome_at (route.Poll token) f = poll_outcome f.life
outcome_at (route.Post token) f = post_outcome f.life
outcome_at (route.Delete token) f = delete_outcome f.life

-- it would make a connection, so it matters who asks
abbrev pub is_entry_at : Route → Bool
is_entry_at (route.Negotiate asked) = true
is_entry_at route.Open = true
is_entry_at _ = false

-- the token that is named there
abbrev pub token_at : Route → Option (List ℕ)
token_at (route.Socket token) = Some token
token_at (route.Poll token) = Some token
token_at (route.Post token) = Some token
token_at (route.Delete token) = Some token
token_at _ = None

-- the request leads there: what is done about it is what is left of the table, whatever holds besides
pub record RoutesTo (base : List ℕ) (r : Request) (to : Route) : Type 0 where
  pub entry : is_entry base r ≡ is_entry_at to
  pub named : IfSome (token_at to) (λ token. id_in r ≡ Some token)
  pub by_rows : (f : Facts) → outcome base r f ≡ outcome_at to f

-- ---- what a front knows of a request

-- what the table looks at beside the request, by the notes, where so many connections may live: of the lots none has failed yet
abbrev pub facts_at : ℕ → Request → Caller → Bool → ℕ → List ConnectionEvent → Facts
facts_at most r caller resumable now h = record {
  caller = caller;
  busy = is_busy most now h;
  lots_failed = false;
  life = life_of_some (conn_of_some (id_in r) h) now h;
  granted = resumable;
}

-- the connection of a token, if one is named, as long as the token's life is known
abbrev pub known_conn_of_some : Option (List ℕ) → ℕ → List ConnectionEvent → Option ℕ
known_conn_of_some None now h = None
known_conn_of_some (Some token) now h = known_conn token now h
