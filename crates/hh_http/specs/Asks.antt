-- The requests of a list of bytes, by the grammar of heads (RFC 9112) and by what their fields say.
use Rattle.std.specs.Prelude.{◌≡◌, ◌<◌, ◌≤◌, ◌⊎◌, ℕ, List, length, Option, is_some, Result, IsTrue, IsFalse}
use Rattle.httparse.specs.Grammar.{RequestHead, print_request, ReadsRequest, HasNoRequest, NeverHasRequest, MayBecomeRequest}
use Rattle.httparse.specs.Spans.{RequestExceeds}
use Rattle.http1.specs.Fields.{Header}
use Rattle.hw_lanes.specs.declared.http.Refusal.{Refusal}
use Rattle.hw_lanes.specs.declared.http.Request.{Request}
use Rattle.hh_http.specs.Heads.{names_and_values, agree, lengths, body_length, is_coded, are_hosts_right, path_of, query_of, method_of, bearer_of, is_shut, expects_continue, Upgrades, RefusesUpgrade}
use Rattle.hh_http.specs.Refusals.{only_status}
use Rattle.hh_http.specs.Messages.{Grammar, Series, Decides}
use Rattle.hh_http.specs.declared.error.HttpError.{HttpError}
use Rattle.hh_http.specs.declared.limits.TheConstants.{MOST_BODY}

-- ---- heads

-- what a head's method, target, version and fields name
pub record NamesBy (method target : List ℕ) (minor : ℕ) (fields : List Header) (q : Request) : Type 0 where
  pub method_is : q.method ≡ method_of method
  pub path_is : q.path ≡ path_of target
  pub query_is : q.query ≡ query_of target
  pub bearer_is : q.bearer ≡ bearer_of fields (query_of target)
  pub shut_is : q.shut ≡ is_shut minor fields

-- a body of this length follows the head: its lengths are one number, within the limit, and it is in no transfer coding
pub record HasBody (fields : List Header) (length : ℕ) : Type 0 where
  pub agrees : IsTrue (agree (lengths fields))
  pub is_uncoded : IsFalse (is_coded fields)
  pub length_is : length ≡ body_length fields
  pub is_short : length ≤ MOST_BODY

-- the head is taken: its hosts are right, this text accepts its key, if it has to have one, and a body of this length follows
pub record IsTaken (method : List ℕ) (minor : ℕ) (fields : List Header) (accept : Option (List ℕ)) (length : ℕ) : Type 0 where
  pub hosts : IsTrue (are_hosts_right minor fields)
  pub upgrades : Upgrades method fields accept
  pub body : HasBody fields length

-- why a body whose lengths are one number is refused, the first that holds (RFC 9110, sections 15.5.12 and 15.5.14): 411 for one in
-- a transfer coding, 413 for one that is too long
abbrev pub RefusesBody : List Header → Refusal → Type 0
RefusesBody fields refusal =
    IsTrue (agree (lengths fields))
    × (((refusal ≡ only_status 411) × IsTrue (is_coded fields))
    ⊎ ((refusal ≡ only_status 413) × IsFalse (is_coded fields) × (MOST_BODY < body_length fields)))

-- why a head is refused, the first that holds: for its upgrade, 400 for lengths that are no one number or for its hosts, or for its
-- body; so another version of WebSockets is told wherever one is asked for
abbrev pub RefusesBy : List ℕ → ℕ → List Header → Refusal → Type 0
RefusesBy method minor fields refusal =
    RefusesUpgrade method fields refusal
    ⊎ (((accept : Option (List ℕ)) × Upgrades method fields accept)
    × (((refusal ≡ only_status 400) × (IsFalse (agree (lengths fields)) ⊎ IsFalse (are_hosts_right minor fields)))
    ⊎ (IsTrue (are_hosts_right minor fields) × RefusesBody fields refusal)))

-- a head with these fields is taken: this is its request but for the body, which has this length
abbrev pub Says : RequestHead → Request → ℕ → Type 0
Says h q length =
    NamesBy h.method h.target h.minor (names_and_values h.fields) q
    × IsTaken h.method h.minor (names_and_values h.fields) q.upgrade length

-- ---- requests

-- the requests of a connection; after one that asks for a WebSocket none follows
abbrev pub request_grammar : Grammar Request
request_grammar =
    record {
      Parts = RequestHead;
      print = print_request;
      headers = λ h. length h.fields;
      ReadsHead = ReadsRequest;
      HasNone = HasNoRequest;
      NeverHas = NeverHasRequest;
      MayBecome = MayBecomeRequest;
      Exceeds = RequestExceeds;
      Says = Says;
      Breaks = λ h refusal. RefusesBy h.method h.minor (names_and_values h.fields) refusal;
      expects = λ h. expects_continue h.minor (names_and_values h.fields);
      body = λ q. q.body;
      with_body = λ q body. record q { body = body };
      is_last = λ q. is_some q.upgrade;
    }

-- the bytes are these requests one after the other, and a rest
abbrev pub Asks : List ℕ → List Request → List ℕ → Type 0
Asks bytes requests rest = Series request_grammar bytes requests rest

-- ---- what is read of a head

-- what an upgrade comes to
abbrev pub Upgrading : List ℕ → List Header → Result (Option (List ℕ)) HttpError → Type 0
Upgrading method fields result =
    Decides (Upgrades method fields) (RefusesUpgrade method fields) result

-- whether a body is taken
abbrev pub Allows : List Header → Result ℕ HttpError → Type 0
Allows fields result = Decides (HasBody fields) (RefusesBody fields) result

-- whether a head is taken
abbrev pub Checks : List ℕ → ℕ → List Header → Result (Option (List ℕ) × ℕ) HttpError → Type 0
Checks method minor fields result =
    Decides (λ taken. IsTaken method minor fields taken.0 taken.1) (RefusesBy method minor fields) result
